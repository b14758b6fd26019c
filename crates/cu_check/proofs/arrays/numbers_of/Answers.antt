use Rattle.std.proofs.Common.{rules, ◌∙◌, to_z, of_z}
use Rattle.std.specs.Int.{w128}
use Rattle.std.proofs.lemmas.Int.{to_z-of_z}
use Rattle.cu_check.proofs.Plains.{more_numbers}
use Rattle.cu_check.proofs.arrays.numbers_of.Goals as goal

pub loop-at-preserved : goal.loop-at-preserved
loop-at-preserved c =
    more_numbers c.args.dtype c.args.bytes.now c.loop-at.at c.loop-at.numbers.items c.push_number.new.numbers.items (to_z w128 (of_z w128 c.load-number.result)) c.loop-at.invariant c.in-Ok-push_number.ensures
    (to_z-of_z w128 c.load-number.result (search rules) ∙ c.load-number.ensures.value)
