use Rattle.std.proofs.Common.{ap, ◌∙◌, length, arith}
use Rattle.cu_load.specs.LoadForm.{given_by}
use Rattle.cu_load.proofs.ChunkLemmas.{few_elements}
use Rattle.cu_load.proofs.room.take_room.Goals as goal

pub element_bytes-requires : goal.element_bytes-requires
element_bytes-requires c =
    let few = few_elements (given_by c.args.form.now) c.requires in
    let many = ap length c.deref.ensures.value ∙ c.requires.count in
    omega (arith, few, many)
