use Rattle.std.proofs.Common.{ap, arith}
use Rattle.cu_shape.specs.Index.{product}
use Rattle.cu_check.proofs.Plains.{numbers_in_range, are_counted, is_read}
use Rattle.cu_check.proofs.arrays.read_plain.Goals as goal

pub make-requires : goal.make-requires
make-requires g c =
    let long = c.in-Ok-numbers_of.ensures.count in
    let same = ap product c.shape.ensures.value in
    record { count = omega arith; cells = numbers_in_range c.args.array.now.layout.dtype c.deref.result.now _ c.in-Ok-numbers_of.numbers.items c.in-Ok-numbers_of.ensures }

pub returns-in-Ok-numbers_of-clause-read : goal.returns-in-Ok-numbers_of-clause-read
returns-in-Ok-numbers_of-clause-read g c entry step =
    is_read c.args.array.now c.in-Ok.bytes.items c.in-Ok-numbers_of.numbers.items c.make.result (g.D.PutStore.shown c.args.depot.now) entry c.requires.layout.grid (rw c.shape.ensures.value at c.make.ensures.array) c.make.ensures.plain
    (are_counted c.args.array.now.layout.dtype c.in-Ok.bytes.items _ (product c.args.array.now.layout.grid.shape) c.in-Ok-numbers_of.numbers.items
    (rw c.deref.ensures.value at c.in-Ok-numbers_of.ensures) (omega arith))
    c.in-Ok.ensures.read step
