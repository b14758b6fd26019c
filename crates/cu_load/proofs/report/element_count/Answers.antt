use Rattle.std.proofs.Common.{rules}
use Rattle.cu_load.specs.LoadForm.{given_by}
use Rattle.cu_load.proofs.ChunkLemmas.{few_elements}
use Rattle.cu_load.proofs.report.element_count.Goals as goal

pub unreachable-requires : goal.unreachable-requires
unreachable-requires c =
    let few = few_elements (given_by c.args.form.now) c.requires in
    let some = c.elements.ensures.counted.1 (rw c.shape.ensures.value few) in
    search rules
