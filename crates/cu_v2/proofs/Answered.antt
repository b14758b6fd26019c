-- What a text is read as, and the answer for it.
use Rattle.std.proofs.Common.{◌≡◌, ap, ℕ, ◌≤◌, ◌<◌, Bool, true, false, List, length, nat_le, Some, None, IsUtf8, refl, sym, subst, ◌∙◌, Result, Ok, Err, IfOk, IfErr, arith}
use Rattle.std.specs.Result.{result_map_both}
use Rattle.std.specs.Str.{is_utf8}
use Rattle.std.proofs.lemmas.Bool.{le-leb}
use Rattle.std.proofs.lemmas.Str.{IsUtf8-from_is_utf8, is_utf8-from_IsUtf8}
use Rattle.serde_json.specs.Data.{Data}
use Rattle.serde_json.specs.Read.{read}
use Rattle.cu_zarr.specs.Layout.{ArrayLayout}
use Rattle.cu_op.specs.declared.layout.Layout.{Layout}
use Rattle.cu_op.specs.Layout.{layout_view}
use Rattle.cu_v2.specs.declared.fault.V2Fault.{V2Fault}
use Rattle.cu_v2.specs.declared.fault.V2Refused.{V2Refused}
use Rattle.cu_v2.specs.Fault.{ZarrayFault, no_object, over_length, v2_view, IfV2Fault}
use Rattle.cu_v2.specs.ReadSteps.{zarray_by_steps}
use Rattle.cu_v2.specs.Zarray.{zarray_layout, zarray_in}
use Rattle.cu_v2.proofs.ReadSteps.{by_steps}

longer : (m n : ℕ) → n < m → nat_le m n ≡ false
longer m n h = grind arith

pub read_too_long : (bytes : List ℕ) → 1048576 < length bytes → zarray_layout bytes ≡ Err over_length
unfolding zarray_layout
read_too_long bytes long = rw (longer _ _ long) refl

false_unless : (b : Bool) → (b ≡ true → ⊥) → b ≡ false
false_unless true h = absurd (h refl)
false_unless false h = refl

pub read_no_text : (bytes : List ℕ) → length bytes ≤ 1048576 → ¬ (IsUtf8 bytes) → zarray_layout bytes ≡ Err no_object
unfolding zarray_layout
read_no_text bytes short refuted = rw (le-leb _ _ short, false_unless (is_utf8 bytes) (λ e. refuted (IsUtf8-from_is_utf8 bytes e))) refl

pub read_no_value : (bytes : List ℕ) → length bytes ≤ 1048576 → IsUtf8 bytes → read bytes ≡ None → zarray_layout bytes ≡ Err no_object
unfolding zarray_layout
read_no_value bytes short utf8 none = rw (le-leb _ _ short, is_utf8-from_IsUtf8 bytes utf8, none) refl

pub read_value : (bytes : List ℕ) (d : Data) → length bytes ≤ 1048576 → IsUtf8 bytes → read bytes ≡ Some d → zarray_layout bytes ≡ zarray_in d
unfolding zarray_layout
read_value bytes d short utf8 value = rw (le-leb _ _ short, is_utf8-from_IsUtf8 bytes utf8, value) refl

pub read_by_steps : (bytes : List ℕ) (d : Data) → length bytes ≤ 1048576 → IsUtf8 bytes → read bytes ≡ Some d → zarray_layout bytes ≡ zarray_by_steps d
read_by_steps bytes d short utf8 value = read_value bytes d short utf8 value ∙ by_steps d

pub answered_ok : (said : Result ArrayLayout ZarrayFault) (found : Result Layout V2Fault) (result : Result Layout V2Refused)
    → result ≡ result_map_both (λ l. l) (λ f. V2Refused.Fault f) found → result_map_both layout_view v2_view found ≡ said
    → IfOk result (λ l. said ≡ Ok (layout_view l))
answered_ok said (Ok l) result is seen = subst (λ r. IfOk r (λ m. said ≡ Ok (layout_view m))) (sym is) (sym seen)
answered_ok said (Err f) result is seen = subst (λ r. IfOk r (λ m. said ≡ Ok (layout_view m))) (sym is) tt

pub answered_fault : (said : Result ArrayLayout ZarrayFault) (found : Result Layout V2Fault) (result : Result Layout V2Refused)
    → result ≡ result_map_both (λ l. l) (λ f. V2Refused.Fault f) found → result_map_both layout_view v2_view found ≡ said
    → IfErr result (λ e. IfV2Fault e (λ f. said ≡ Err (v2_view f)))
answered_fault said (Ok l) result is seen = subst (λ r. IfErr r (λ e. IfV2Fault e (λ f. said ≡ Err (v2_view f)))) (sym is) tt
answered_fault said (Err f) result is seen = subst (λ r. IfErr r (λ e. IfV2Fault e (λ f. said ≡ Err (v2_view f)))) (sym is) (sym seen)

pub refused_for_no_value : (bytes text : List ℕ) (e : V2Refused) → length bytes ≤ 1048576 → IsUtf8 bytes → text ≡ bytes
    → IfV2Fault e (λ f. (f ≡ V2Fault.Json) × (read text ≡ None)) → IfV2Fault e (λ f. zarray_layout bytes ≡ Err (v2_view f))
refused_for_no_value bytes text (V2Refused.Fault f) short utf8 same h = read_no_value bytes short utf8 (ap read (sym same) ∙ h.1) ∙ ap (λ g. Err (v2_view g)) (sym h.0)
refused_for_no_value bytes text V2Refused.NoMemory short utf8 same h = tt
