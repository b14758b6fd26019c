use Rattle.std.proofs.Common.{◌≡◌, ℕ, List, drop}
use Rattle.std.specs.HashMap.{get_by_text}
use Rattle.cu_expr.specs.Inputs.{named_input}
use Rattle.cu_expr.proofs.inputs.by_name.Given as goal

-- the map tells of the inputs from k on
abbrev pub invariant-loop-k : goal.invariant-loop-k
invariant-loop-k l = (q : List ℕ) → get_by_text l.named q ≡ named_input (drop l.k l.inputs) q
