use Rattle.std.proofs.Common.{◌≡◌, ◌+◌, drop}
use Rattle.cu_op.specs.Numbers.{number_in}
use Rattle.cu_op.proofs.numbers.number_in.Given as goal

abbrev pub invariant-loop-b : goal.invariant-loop-b
invariant-loop-b l = record { place : number_in l.numbers l.a ≡ l.place + number_in (drop l.b-index l.numbers) l.a; at : l.place ≡ l.b-index }
