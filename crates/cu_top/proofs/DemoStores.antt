-- Both inputs of a demonstration are stored, one after the other, and stay so.
use Rattle.std.proofs.Common.{◌≡◌, ◌∙◌, inl, inr, ℕ, ◌≤◌, List, Option, Some, None, false, true≢false}
use Rattle.std.proofs.Common.{refl, sym, subst}
use Rattle.cu_grid.specs.Grid.{IsGrid}
use Rattle.cu_store.specs.Held.{Contents, Write}
use Rattle.cu_store.specs.Steps.{Shown, Changes, OrLate, IsChangedBy, Lands}
use Rattle.cu_zarr.specs.Key.{metadata_key_of}
use Rattle.cu_command.specs.Seen.{Stepped}
use Rattle.cu_load.specs.Load.{ArrayPut, IsArrayCalm, IsArrayKey, StoresGiven, key_of_chunk}
use Rattle.cu_load.specs.LoadForm.{GivenArray, IsGivenArray}
use Rattle.cu_load.proofs.StoreLemmas.{array_put_key, stores_given}
use Rattle.cu_demo.proofs.Computed.{demo_storable}
use Rattle.cu_demo.specs.declared.input.DemoInput.{DemoInput}
use Rattle.cu_demo.specs.declared.input.DemoInput.TheVariants.{Rows, Columns}
use Rattle.cu_top.proofs.DemoFound.{found_of, held_put, late_found}
use Rattle.cu_top.proofs.DemoInputs.{demo_given}
use Rattle.cu_top.proofs.DemoKeys.{below_rows, is_inputs, not_below_rows, of_array}
use Rattle.cu_top.specs.Demo.{AreInputsCalm, InputsPut, StoresDemoInputs, demo_array}

-- an array stays stored where only other keys are put, and late puts carry its values
module _ (a : GivenArray) (ok : IsGivenArray a) (grid : IsGrid (record { shape = a.layout.shape; chunk = a.layout.chunk })) (W : Changes)
    (others : (key : List ℕ) (value : Option (List ℕ)) → IsArrayKey a key → W key value → ⊥) where
  same_at : (late : List Write) (mid new : Contents) (key : List ℕ) → IsArrayKey a key → IsArrayCalm a late → StoresGiven a (Some mid)
      → IsChangedBy (OrLate W late) mid new key → new key ≡ mid key
  same_at late mid new key is calm stored (inl same) = same
  same_at late mid new key is calm stored (inr (inl own)) = absurd (others key (new key) is own)
  same_at late mid new key is calm stored (inr (inr (bytes, same, among))) = same ∙ sym (held_put a mid key bytes stored (calm key bytes among is))

  pub kept_given : (late : List Write) (mid new : Option Contents) → IsArrayCalm a late → StoresGiven a mid → Lands (OrLate W late) mid new → StoresGiven a new
  kept_given late mid None calm stored lands = tt
  kept_given late None (Some new) calm stored lands = absurd lands
  kept_given late (Some mid) (Some new) calm stored lands =
      stores_given a (Some new) ok grid (same_at late mid new (metadata_key_of a.name) (inl refl) calm stored (lands (metadata_key_of a.name)) ∙ stored.0)
      (λ k below. let (bytes, value, holds) = stored.1 k below in (
        bytes,
        value,
        same_at late mid new (key_of_chunk a k) (inr (k, below, refl)) calm stored (lands (key_of_chunk a k)) ∙ holds,
      ))

module _ (n : ℕ) (some : 1 ≤ n) (few : n ≤ 2048) where
  apart : (key : List ℕ) → IsArrayKey (demo_array Rows n) key → IsArrayKey (demo_array Columns n) key → ⊥
  apart key rows columns = true≢false (sym (below_rows n key rows) ∙ not_below_rows n key columns)

  late_put : (late : List Write) (key bytes : List ℕ) → IsArrayCalm (demo_array Rows n) late → IsArrayKey (demo_array Rows n) key
      → OrLate (ArrayPut (demo_array Rows n)) late key (Some bytes) → ArrayPut (demo_array Rows n) key (Some bytes)
  late_put late key bytes calm is (inl own) = own
  late_put late key bytes calm is (inr (other, same, among)) = subst (λ (v : Option (List ℕ)). ArrayPut (demo_array Rows n) key v) (sym same) (calm key other among is)

  columns_put : (late : List Write) (key bytes : List ℕ) → IsArrayCalm (demo_array Columns n) late → IsArrayKey (demo_array Columns n) key
      → OrLate (ArrayPut (demo_array Rows n)) late key (Some bytes) → ArrayPut (demo_array Columns n) key (Some bytes)
  columns_put late key bytes calm is (inl own) = absurd (apart key (array_put_key (demo_array Rows n) key (Some bytes) own) is)
  columns_put late key bytes calm is (inr (other, same, among)) = subst (λ (v : Option (List ℕ)). ArrayPut (demo_array Columns n) key v) (sym same) (calm key other among is)

  -- the premise stands while the first is stored
  pub calm_after : (old mid : Shown) → Stepped (ArrayPut (demo_array Rows n)) old mid → AreInputsCalm n old.late → AreInputsCalm n mid.late
  calm_after old mid step calm = (
    λ key bytes among is. late_put old.late key bytes calm.0 is (step.step.late key bytes among),
    λ key bytes among is. columns_put old.late key bytes calm.1 is (step.step.late key bytes among),
  )

  -- then both are stored
  pub both_stored : (mid new : Shown) → Stepped (ArrayPut (demo_array Columns n)) mid new → AreInputsCalm n mid.late
      → StoresGiven (demo_array Rows n) mid.held → StoresGiven (demo_array Columns n) new.held → StoresDemoInputs n new.held
  both_stored mid new step calm rows columns = (
    kept_given (demo_array Rows n) (demo_given Rows n some few) (demo_storable Rows n some few).grid (ArrayPut (demo_array Columns n))
        (λ key value is put. apart key is (array_put_key (demo_array Columns n) key value put)) mid.late mid.held new.held calm.0 rows step.step.lands,
    columns,
  )

  -- ---- both stay stored while other keys are put

  own_rows : (late : List Write) (key bytes : List ℕ) → IsArrayCalm (demo_array Rows n) late → IsArrayKey (demo_array Rows n) key
      → OrLate (InputsPut n) late key (Some bytes) → ArrayPut (demo_array Rows n) key (Some bytes)
  own_rows late key bytes calm is (inl (inl put)) = put
  own_rows late key bytes calm is (inl (inr put)) = absurd (apart key is (array_put_key (demo_array Columns n) key (Some bytes) put))
  own_rows late key bytes calm is (inr (other, same, among)) = subst (λ (v : Option (List ℕ)). ArrayPut (demo_array Rows n) key v) (sym same) (calm key other among is)

  own_columns : (late : List Write) (key bytes : List ℕ) → IsArrayCalm (demo_array Columns n) late → IsArrayKey (demo_array Columns n) key
      → OrLate (InputsPut n) late key (Some bytes) → ArrayPut (demo_array Columns n) key (Some bytes)
  own_columns late key bytes calm is (inl (inl put)) = absurd (apart key (array_put_key (demo_array Rows n) key (Some bytes) put) is)
  own_columns late key bytes calm is (inl (inr put)) = put
  own_columns late key bytes calm is (inr (other, same, among)) = subst (λ (v : Option (List ℕ)). ArrayPut (demo_array Columns n) key v) (sym same) (calm key other among is)

  -- the premise stands of what a run finds
  pub calm_found : (old start : Shown) → Stepped (InputsPut n) old start → AreInputsCalm n old.late → AreInputsCalm n (found_of old start).late
  calm_found old start both calm = (
    λ key bytes among is. own_rows old.late key bytes calm.0 is (late_found n old start both key bytes among),
    λ key bytes among is. own_columns old.late key bytes calm.1 is (late_found n old start both key bytes among),
  )

  other_key : (W : Changes) (input : DemoInput) → ((key : List ℕ) (value : Option (List ℕ)) → W key value → is_inputs key ≡ false)
      → (key : List ℕ) (value : Option (List ℕ)) → IsArrayKey (demo_array input n) key → W key value → ⊥
  other_key W input others key value is own = true≢false (sym (of_array input n key is) ∙ others key value own)

  pub inputs_kept : (W : Changes) → ((key : List ℕ) (value : Option (List ℕ)) → W key value → is_inputs key ≡ false) → (found new : Shown) → Stepped W found new
      → AreInputsCalm n found.late → StoresDemoInputs n found.held → StoresDemoInputs n new.held
  inputs_kept W others found new step calm stored = (
    kept_given (demo_array Rows n) (demo_given Rows n some few) (demo_storable Rows n some few).grid W (other_key W Rows others) found.late found.held new.held calm.0 stored.0 step.step.lands,
    kept_given (demo_array Columns n) (demo_given Columns n some few) (demo_storable Columns n some few).grid W (other_key W Columns others) found.late found.held new.held calm.1 stored.1 step.step.lands,
  )
