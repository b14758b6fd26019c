use Rattle.std.proofs.Common.{◌/◌, length, sym, ◌∙◌}
use Rattle.cu_num.specs.Dtype.{size_of}
use Rattle.cu_pairs.specs.Runs.{elements}
use Rattle.cu_pairs.proofs.Parts.{kept}
use Rattle.cu_pairs.proofs.Leading.{first_that_is}
use Rattle.cu_pairs.proofs.runs.first_best_of_block.Goals as goal

pub returns : goal.returns
returns c =
    let t = c.args.t in
    let bytes = c.args.bytes.now in
    let best = c.best_value.result in
    let same = kept best (record { sfits = c.best_value.type_inv }) in
    first_that_is c.args.least (elements t bytes) (length bytes / size_of t) c.position.result best c.best_value.ensures.best
    (λ j b e. c.position.ensures.before j b (e ∙ sym same)) (λ b. c.position.ensures.found b ∙ same)
