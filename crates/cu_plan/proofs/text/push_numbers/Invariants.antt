-- What is left to be appended to the text.
use Rattle.std.proofs.Common.{◌≡◌, ◌++◌, ◌∷◌, [], drop, flat_map}
use Rattle.std.specs.Fmt.{decimal}
use Rattle.cu_plan.specs.Text.{comma_text}
use Rattle.cu_plan.proofs.text.push_numbers.Given as goal

abbrev pub invariant-loop-number : goal.invariant-loop-number
invariant-loop-number l = l.text.items ++ flat_map (λ y. (44 ∷ []) ++ decimal y) (drop l.number-index l.rest) ≡ l.fn.text.items ++ comma_text l.fn.numbers
