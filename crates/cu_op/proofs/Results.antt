-- Operations that write the chunks of one array, and those that also write another beside it.
use Rattle.std.proofs.lemmas.Option.{same_Some}
use Rattle.cu_grid.specs.Grid.{RegularGrid, IsGrid}
use Rattle.cu_op.proofs.Nested.{nested_same}
use Rattle.cu_op.proofs.WalkCells.{AreDifferent}
use Rattle.cu_op.specs.Arrays.{grid_at, type_at}
use Rattle.cu_op.specs.Places.{pair_writes, StoresValues}
use Rattle.cu_op.specs.Schedule.{IsNested}
use Rattle.cu_op.specs.Chunks.{walk}
use Rattle.cu_op.specs.declared.layout.ArrayInfo.{ArrayInfo}
use Rattle.cu_op.specs.declared.walks.Walk.{Walk}
use Rattle.std.proofs.Common.{◌≡◌, ℕ, zero, suc, ◌<◌, List, [], ◌∷◌, map, All, Contains, Option, None, Some, refl, ap, sym, subst, arith, ◌≢◌, false, true}
use Rattle.std.proofs.lemmas.List.Elements.{All-cons, All-nil}

-- the only array that is written
pub only_written : (out a : ℕ) → Contains (out ∷ []) a → out ≡ a
only_written out a (zero, l, e) = e
only_written out a (suc k, l, e) = absurd (let b : suc k < 1 = l in omega arith)

pub differ_only : (out : ℕ) (lo hi : List ℕ) → AreDifferent (map (λ a. walk a lo hi) (out ∷ []))
differ_only out lo hi = (All-nil (λ v. walk out lo hi ≢ v), tt)

-- the places, which are written last
pub pair_last : (values : Option ℕ) (out : ℕ) → Contains (pair_writes values out) out
pair_last None out = (0, omega arith, refl)
pair_last (Some stored) out = (1, omega arith, refl)

-- an operation that stores no values
pub none_given : (array : ℕ) → None ≡ Some array → ⊥
none_given array e = cc

-- one that may store them
pub pair_stored : (values : Option ℕ) (out array : ℕ) → values ≡ Some array → pair_writes values out ≡ array ∷ out ∷ []
pair_stored values out array is = ap (λ (v : Option ℕ). pair_writes v out) is

pub pair_only : (values : Option ℕ) (out : ℕ) → values ≡ None → pair_writes values out ≡ out ∷ []
pair_only values out is = ap (λ (v : Option ℕ). pair_writes v out) is

pub pair_compares : (source : ℕ) (rest : List ℕ) (array : ℕ) → Some source ≡ Some array → Contains (source ∷ rest) array
pair_compares source rest array is = (0, omega arith, same_Some source array is)

-- one that writes more than one chunk in a task
pub not_one : false ≡ true → ⊥
not_one e = cc

module _ (arrays : List ArrayInfo) where
  pub nested_only : (out : ℕ) → IsGrid (grid_at arrays out) → All (λ a. IsNested (grid_at arrays a) (grid_at arrays out)) (out ∷ [])
  nested_only out ok = All-cons (λ a. IsNested (grid_at arrays a) (grid_at arrays out)) out [] (nested_same (grid_at arrays out) ok) (All-nil (λ a. IsNested (grid_at arrays a) (grid_at arrays out)))

  pub nested_pair : (values : Option ℕ) (source out : ℕ) → StoresValues arrays values source out → IsGrid (grid_at arrays out) → All (λ a. IsNested (grid_at arrays a) (grid_at arrays out)) (pair_writes values out)
  nested_pair None source out s ok = nested_only out ok
  nested_pair (Some stored) source out s ok =
      let P : ℕ → Type 0 = λ a. IsNested (grid_at arrays a) (grid_at arrays out) in
      All-cons P stored (out ∷ []) (subst (λ (g : RegularGrid). IsNested g (grid_at arrays out)) (sym s.1) (nested_same (grid_at arrays out) ok)) (nested_only out ok)

  pub differ_pair : (values : Option ℕ) (source out : ℕ) (lo hi : List ℕ) → StoresValues arrays values source out → AreDifferent (map (λ a. walk a lo hi) (pair_writes values out))
  differ_pair None source out lo hi s = (All-nil (λ v. walk out lo hi ≢ v), tt)
  differ_pair (Some stored) source out lo hi s =
      (All-cons (λ v. walk stored lo hi ≢ v) (walk out lo hi) [] (λ e. s.0 (ap (λ (x : Walk). x.array) e)) (All-nil (λ v. walk stored lo hi ≢ v)), (All-nil (λ v. walk out lo hi ≢ v), tt))

  pub type_stored : (values : Option ℕ) (source out array : ℕ) → StoresValues arrays values source out → values ≡ Some array → type_at arrays array ≡ type_at arrays source
  type_stored None source out array stores is = absurd (none_given array is)
  type_stored (Some values) source out array stores is = subst (λ (a : ℕ). type_at arrays a ≡ type_at arrays source) (same_Some values array is) stores.2
