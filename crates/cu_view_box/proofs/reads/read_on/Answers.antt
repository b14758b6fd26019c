use Rattle.std.proofs.Common.{◌-◌, ◌*◌, ◌≤◌, arith}
use Rattle.cu_view_box.proofs.ReadOver.{along_up, along_down, down_fits}
use Rattle.cu_view_box.proofs.reads.read_on.Goals as goal

pub at-requires : goal.at-requires
at-requires c = (along_up _ _ _ _ _ _ _ c.requires.way c.requires.of_base c.in-Up.is).idx_rank

pub overflow_sub-result : goal.overflow_sub-result
overflow_sub-result c = rw (c.at.ensures, c.at-in-Up.ensures) ((along_up _ _ _ _ _ _ _ c.requires.way c.requires.of_base c.in-Up.is).low)

pub at-requires-in-Down : goal.at-requires-in-Down
at-requires-in-Down c = (along_down _ _ _ _ _ _ _ c.requires.way c.requires.of_base c.in-Down.is).idx_rank

pub overflow_sub-result-in-Down : goal.overflow_sub-result-in-Down
overflow_sub-result-in-Down c = rw (c.at-in-Down.ensures, c.at-in-Down-2.ensures) ((along_down _ _ _ _ _ _ _ c.requires.way c.requires.of_base c.in-Down.is).low)

pub overflow_mul-result-in-Down : goal.overflow_mul-result-in-Down
overflow_mul-result-in-Down c =
    let f = down_fits _ _ _ _ _ _ _ c.requires.way c.requires.of_base c.in-Down.is in
    let f1 = f.1 in
    let p : (c.at-in-Down.result - c.at-in-Down-2.result) * c.in-Down.step ≤ c.in-Down.first = rw (c.at-in-Down.ensures, c.at-in-Down-2.ensures) f.0 in
    omega arith

pub overflow_sub-result-in-Down-2 : goal.overflow_sub-result-in-Down-2
overflow_sub-result-in-Down-2 c = rw (c.at-in-Down.ensures, c.at-in-Down-2.ensures) ((down_fits _ _ _ _ _ _ _ c.requires.way c.requires.of_base c.in-Down.is).0)
