use Rattle.std.proofs.Common.{◌≡◌, map, take}
use Rattle.cu_op.specs.Numbers.{number_in}
use Rattle.cu_op.proofs.numbers.new_numbers.Given as goal

abbrev pub invariant-loop-a : goal.invariant-loop-a
invariant-loop-a l = l.new.items ≡ map (number_in l.numbers) (take l.a-index l.a-items)
