use Rattle.std.proofs.Common.{rules}
use Rattle.cu_check.proofs.Layouts.{few_elements}
use Rattle.cu_check.proofs.arrays.element_count.Goals as goal

pub unreachable-requires : goal.unreachable-requires
unreachable-requires c =
    let few = few_elements c.args.layout.now c.requires in
    let some = c.elements.ensures.counted.1 (rw c.shape.ensures.value few) in
    search rules
