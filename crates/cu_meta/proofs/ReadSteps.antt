-- The reading in steps gives what the reading gives.
use Rattle.std.proofs.Common.{◌≡◌, ◌&&◌, length, codes, ok_or, refl, sym}
use Rattle.serde_json.specs.Data.{Data}
use Rattle.serde_json.specs.Find.{get, as_object}
use Rattle.cu_result.specs.Results.{check}
use Rattle.cu_result.proofs.ResultSteps.{same_rest, within_step}
use Rattle.cu_json.specs.Form.{is_text, is_number}
use Rattle.cu_meta.specs.Fault.{json, format, field, dtype, grid, key_encoding, fill, codec}
use Rattle.cu_meta.specs.Members.{data_type_of, chunk_grid_of, encoding_of, endian_of, are_attributes, are_dimension_names, are_no_transformers}
use Rattle.cu_meta_members.specs.Members.{fill_of}
use Rattle.cu_meta.specs.Metadata.{required_member, layout_in}
use Rattle.cu_meta.specs.ReadSteps.{layout_by_steps}

by_steps_is : (d : Data) → layout_by_steps d ≡ layout_in d
by_steps_is d =
    same_rest (ok_or (as_object d) json) _ _ (λ members.
    same_rest (check (is_number 3 (get (codes "zarr_format") d) && is_text (codes "array") (get (codes "node_type") d)) format) _ _ (λ _.
    within_step (required_member (codes "shape") d) _ _ _ (λ shape.
    within_step (required_member (codes "data_type") d) _ _ _ (λ data_type.
    within_step (required_member (codes "chunk_grid") d) _ _ _ (λ chunk_grid.
    within_step (required_member (codes "chunk_key_encoding") d) _ _ _ (λ chunk_key_encoding.
    within_step (required_member (codes "fill_value") d) _ _ _ (λ fill_value.
    within_step (required_member (codes "codecs") d) _ _ _ (λ codecs.
    within_step (ok_or (data_type_of data_type) dtype) _ _ _ (λ t.
    within_step (ok_or (chunk_grid_of t shape chunk_grid) grid) _ _ _ (λ g.
    within_step (ok_or (encoding_of chunk_key_encoding) key_encoding) _ _ _ (λ encoding.
    within_step (ok_or (fill_of t fill_value) fill) _ _ _ (λ x.
    within_step (ok_or (endian_of t codecs) codec) _ _ _ (λ endian.
    within_step (check (are_attributes (get (codes "attributes") d)) (field (codes "attributes"))) _ _ _ (λ _.
    within_step (check (are_dimension_names (length g.shape) (get (codes "dimension_names") d)) (field (codes "dimension_names"))) _ _ _ (λ _.
    within_step (check (are_no_transformers (get (codes "storage_transformers") d)) (field (codes "storage_transformers"))) _ _ _ (λ _.
    refl))))))))))))))))

pub by_steps : (d : Data) → layout_in d ≡ layout_by_steps d
by_steps d = sym (by_steps_is d)
