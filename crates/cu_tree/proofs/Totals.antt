-- The rounds of partial results from one on.
use Rattle.std.proofs.Common.{ℕ, ◌+◌, ◌<◌, List, ◌∷◌, length, get_or, drop}
use Rattle.std.proofs.lemmas.List.{drop_more}
use Rattle.cu_node.specs.declared.info.NodeInfo.{NodeInfo}
use Rattle.cu_tree.specs.Partials.{merged, AreMerges}
use Rattle.cu_tree.specs.Rounds.{AreRounds}
use Rattle.cu_tree.specs.declared.round.Round.{Round}

rule_on : (partial : NodeInfo) (rounds : List Round) (k : ℕ) (d : Round) (m : AreMerges partial (drop k rounds)) → k < length rounds
    → AreRounds m.axes m.split_every partial.dims (get_or rounds k d ∷ drop (k + 1) rounds)
rule_on partial rounds k d m h = rw (drop_more rounds k d h) at m.rule

pub merges_on : (partial : NodeInfo) (rounds : List Round) (k : ℕ) (d : Round) → k < length rounds → AreMerges partial (drop k rounds) → AreMerges (merged (get_or rounds k d) partial) (drop (k + 1) rounds)
merges_on partial rounds k d h m = record { axes = m.axes; split_every = m.split_every; groups = m.groups; rule = (rule_on partial rounds k d m h).1 }

pub inside_on : (partial : NodeInfo) (rounds : List Round) (k : ℕ) (d : Round) → k < length rounds → AreMerges partial (drop k rounds) → (get_or rounds k d).axis < length partial.dims
inside_on partial rounds k d h m = (rule_on partial rounds k d m h).0.inside
