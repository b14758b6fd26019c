use Rattle.std.proofs.Common.{◌≡◌, string_bytes, IfOk, ◌∙◌, ap, subst}
use Rattle.cu_op.specs.Layout.{layout_view}
use Rattle.cu_zarr.specs.Metadata.{number_list}
use Rattle.cu_meta.proofs.Assembled.{assembled}
use Rattle.cu_meta.proofs.write.layout_text.Goals as goal

pub returns : goal.returns
returns c =
    let chunk = c.as_str.ensures.value ∙ c.in_ok-chunk.ensures ∙ ap number_list c.chunk.ensures.value in
    let shape = c.as_str-3.ensures.value ∙ c.in_ok-shape.ensures ∙ ap number_list c.shape.ensures.value in
    let fill = c.as_str-2.ensures.value ∙ c.in_ok-fill.ensures in
    subst (λ x. IfOk c.joined.result (λ t. string_bytes t ≡ x))
    (assembled (layout_view c.args.layout.now) c.as_str.result.now c.encoding_text-encoding.result.now c.codec_text-codec.result.now c.type_name-name.result.now c.as_str-2.result.now c.as_str-3.result.now
    chunk c.encoding_text-encoding.ensures c.codec_text-codec.ensures c.type_name-name.ensures fill shape)
    c.joined.ensures
