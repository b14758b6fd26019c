-- The keys of a plan with a name. This project's own rule.
use Rattle.std.specs.Prelude.{◌≡◌, ◌≢◌, ◌⊎◌, ℕ, ◌<◌, ◌^◌, List, [], ◌∷◌, length, None}
use Rattle.cu_num.specs.declared.layout.Encoding.TheVariants.{Plain}
use Rattle.cu_num.specs.declared.layout.Sep.TheVariants.{Slash}
use Rattle.cu_name.specs.Keys.{record_key_of, made_prefix_of}
use Rattle.cu_name.specs.Name.{IsArrayName}
use Rattle.cu_zarr.specs.Key.{metadata_key_of}
use Rattle.cu_op.specs.Arrays.{array_at, maker_at}
use Rattle.cu_op.specs.Names.{HasCells}
use Rattle.cu_run_law.specs.Pieces.{PlanRun}

-- The record stands under `_cubed/NAME/plan.json`, the metadata under `NAME/zarr.json`. The arrays that the plan makes and stores are
-- called NAME and `_cubed/NAME/K`, with the encoding "default" and "/", and its inputs have other names of arrays, each its own.
pub record HasPlanNames (r : PlanRun) (name recorded metadata : List ℕ) : Type 0 where
  pub named : IsArrayName name
  pub texts : r.texts ≡ (record_key_of name, recorded) ∷ (metadata_key_of name, metadata) ∷ []
  pub encodings : (a : ℕ) → HasCells r.plan.arrays a → (array_at r.plan.arrays a).layout.encoding ≡ Plain Slash
  pub made : (a : ℕ) → HasCells r.plan.arrays a
      → ((array_at r.plan.arrays a).prefix ≡ name) ⊎ ((k : ℕ) × (k < 2 ^ 64) × ((array_at r.plan.arrays a).prefix ≡ made_prefix_of name k))
  pub inputs : (a : ℕ) → a < length r.plan.arrays → maker_at r.plan.arrays a ≡ None
      → IsArrayName (array_at r.plan.arrays a).prefix × ((array_at r.plan.arrays a).prefix ≢ name)
  pub once : (a b : ℕ) → a < length r.plan.arrays → b < length r.plan.arrays → maker_at r.plan.arrays a ≡ None → maker_at r.plan.arrays b ≡ None
      → (array_at r.plan.arrays a).prefix ≡ (array_at r.plan.arrays b).prefix → a ≡ b
