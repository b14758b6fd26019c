-- The reading in steps gives what the reading gives.
use Rattle.std.proofs.Common.{◌≡◌, codes, is_some, refl, sym}
use Rattle.serde_json.specs.Data.{Data}
use Rattle.serde_json.specs.Find.{get, as_object}
use Rattle.cu_result.specs.Results.{check}
use Rattle.cu_result.proofs.ResultSteps.{same_rest, within_step}
use Rattle.cu_json.specs.Form.{is_number}
use Rattle.cu_v2.specs.Fault.{no_object, not_version_2}
use Rattle.cu_v2.specs.Zarray.{held_member, zarray_in}
use Rattle.cu_v2.specs.ReadSteps.{zarray_by_steps}

by_steps_is : (d : Data) → zarray_by_steps d ≡ zarray_in d
by_steps_is d =
    same_rest (check (is_some (as_object d)) no_object) _ _ (λ _.
    same_rest (check (is_number 2 (get (codes "zarr_format") d)) not_version_2) _ _ (λ _.
    within_step (held_member (codes "shape") d) _ _ _ (λ shape.
    within_step (held_member (codes "chunks") d) _ _ _ (λ chunks.
    within_step (held_member (codes "dtype") d) _ _ _ (λ dtype.
    within_step (held_member (codes "compressor") d) _ _ _ (λ compressor.
    within_step (held_member (codes "fill_value") d) _ _ _ (λ fill_value.
    within_step (held_member (codes "order") d) _ _ _ (λ order.
    within_step (held_member (codes "filters") d) _ _ _ (λ filters.
    refl)))))))))

pub by_steps : (d : Data) → zarray_in d ≡ zarray_by_steps d
by_steps d = sym (by_steps_is d)
