-- Which keys of a region may be asked for once they were put.
use Rattle.std.proofs.Common.{◌⊎◌, ℕ, List, ◌∷◌, Contains, inl, inr, sym, subst}
use Rattle.cu_grid.specs.Cover.{Meets}
use Rattle.cu_store.specs.Chunks.{Keeps}
use Rattle.cu_op.specs.declared.layout.ArrayInfo.{ArrayInfo}
use Rattle.cu_region.specs.Reading.{key_at}
use Rattle.cu_region.proofs.SteadyKeys.{first_or_rest}

pub got_more : (info : ArrayInfo) (lo hi : List ℕ) (K L : List ℕ → Type 0) (first : List ℕ) (rest : List (List ℕ)) → Keeps K L → L (key_at info first)
    → ((coord : List ℕ) → Meets info.layout.grid lo hi coord → Contains (first ∷ rest) coord ⊎ K (key_at info coord))
    → (coord : List ℕ) → Meets info.layout.grid lo hi coord → Contains rest coord ⊎ L (key_at info coord)
got_more info lo hi K L first rest keeps got so_far coord meets =
    elim (so_far coord meets) [
      | inl left ↦ elim (first_or_rest first rest coord left) [
        | inl here ↦ inr (subst (λ (x : List ℕ). L (key_at info x)) (sym here) got)
        | inr later ↦ inl later
      ]
      | inr had ↦ inr (keeps (key_at info coord) had)
    ]
