use Rattle.std.proofs.Common.{◌≡◌, length, drop}
use Rattle.cu_lower.specs.Plan.{grown_after, lowered}
use Rattle.cu_lower.specs.Parts.{IsGrown}
use Rattle.cu_lower.proofs.plan.grow.Given as goal

-- what is grown, grown over what is left, is the plan
abbrev pub invariant-loop-k : goal.invariant-loop-k
invariant-loop-k l = record {
  known : IsGrown l.expr l.grown;
  number : length l.grown.places ≡ l.k;
  rest : grown_after l.expr l.infos l.options l.grown (drop l.k l.nodes) ≡ lowered l.expr l.infos l.inputs l.options;
}
