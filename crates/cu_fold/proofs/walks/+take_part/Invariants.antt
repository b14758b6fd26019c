use Rattle.std.proofs.Common.{◌≡◌, ◌-◌, ◌*◌, min, length}
use Rattle.cu_fold.specs.Taken.{TakesPart}
use Rattle.cu_fold.proofs.walks.+take_part.Given as goal

abbrev pub decreases-take_part : goal.decreases-take_part
decreases-take_part l = length l.levels.now

abbrev pub invariant-loop-i : goal.invariant-loop-i
invariant-loop-i l = record {
  same_length : length l.out ≡ length l.fn.out;
  taken : TakesPart l.fold l.levels (record { start = l.places.start; count = min l.places.count (l.i * l.inner - l.places.start) }) l.input l.fn.out l.out;
}
