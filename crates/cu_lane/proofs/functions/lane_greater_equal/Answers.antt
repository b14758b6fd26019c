use Rattle.cu_lane.proofs.functions.lane_greater_equal.Goals as goal

pub returns : goal.returns
returns c = λ k x y b g h. c.compare.ensures k y x b h g
