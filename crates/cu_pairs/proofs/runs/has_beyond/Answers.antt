use Rattle.std.proofs.Common.{◌≡◌, ◌∙◌}
use Rattle.std.specs.Int.{w128, cast_signed, cast_unsigned}
use Rattle.cu_reduce.specs.Places.{is_beyond}
use Rattle.cu_pairs.specs.Runs.{elements}
use Rattle.cu_pairs.proofs.Parts.{kept}
use Rattle.cu_pairs.proofs.Leading.{tells_more}
use Rattle.cu_pairs.proofs.runs.has_beyond.Goals as goal

pub loop-at-preserved : goal.loop-at-preserved
loop-at-preserved c =
    let x = cast_signed w128 (cast_unsigned w128 c.args.x) in
    let f = elements c.args.t c.args.bytes.now in
    let read = kept c.load.result (record { sfits = c.load.type_inv }) ∙ c.load.ensures.value in
    let beyond : c.is_beyond-any.result ≡ is_beyond c.args.least (f c.loop-at.at) x = c.is_beyond-any.ensures ∙ (λ i. is_beyond c.args.least (read i) x) in
    tells_more c.args.least f c.loop-at.at x c.loop-at.any c.is_beyond-any.result c.loop-at.invariant beyond
