-- Arrays that have the same layouts under other numbers.
use Rattle.cu_grid.specs.Grid.{RegularGrid}
use Rattle.cu_num.specs.Dtype.{size_of}
use Rattle.cu_num.specs.declared.folds.FoldKind.{FoldKind}
use Rattle.cu_num.specs.declared.types.Dtype.{Dtype}
use Rattle.cu_op.proofs.Results.{pair_last}
use Rattle.cu_op.specs.Arrays.{grid_at, type_at, chunk_room, HasLayoutOf}
use Rattle.cu_op.specs.Kind.Pull.{shapes_at}
use Rattle.cu_op.specs.Layout.{layout_view}
use Rattle.cu_op.specs.Places.{pair_writes, StoresValues, HasPlaceAxis, PairFits, value_room}
use Rattle.cu_op.specs.Partial.{partial_grid, IsSqueezed}
use Rattle.cu_op.specs.Reductions.{FoldFits, IsMergeAlong}
use Rattle.cu_op.specs.declared.layout.ArrayInfo.{ArrayInfo}
use Rattle.cu_op.specs.declared.layout.Layout.{Layout}
use Rattle.cu_reduce.specs.Groups.{Groups, HasElements}
use Rattle.cu_reduce.specs.Kinds.{Accumulates, HasEnough}
use Rattle.cu_shape.specs.Index.{product, back}
use Rattle.cu_zarr.specs.Layout.{stored_chunk_bytes}
use Rattle.std.proofs.Common.{◌≡◌, ℕ, suc, ◌<◌, List, [], ◌∷◌, length, All, Contains, Option, None, Some, refl, sym, ◌∙◌, arith, ℤ, map, ap, ◌==◌, inl, inr, ◌*◌, option_map, sum_by}
use Rattle.std.proofs.lemmas.Bool.Decides.{eqb_tells}
use Rattle.std.proofs.lemmas.List.Elements.{All-cons, All-contains}
use Rattle.std.proofs.lemmas.List.Sums.{sum-map}
use Rattle.std.specs.Option.{option_and_then}
use Rattle.std.specs.Prelude.{sum}
use mathlib.Core.Path.{transport}

pub bool_same : (a b c d : ℕ) → ((a ≡ b) → (c ≡ d)) → ((c ≡ d) → (a ≡ b)) → (a == b) ≡ (c == d)
bool_same a b c d there back = elim (eqb_tells a b) [
  | inl p ↦ elim (eqb_tells c d) [ inl q ↦ p.0 ∙ sym q.0 | inr q ↦ absurd (q.1 (there p.1)) ]
  | inr p ↦ elim (eqb_tells c d) [ inl q ↦ absurd (p.1 (back q.1)) | inr q ↦ p.0 ∙ sym q.0 ]
]

-- arrays with the numbers that they have
pub mapped_itself : (xs : List ℕ) → map (λ a. a) xs ≡ xs
mapped_itself [] = refl
mapped_itself (x ∷ xs) = ap (λ (rest : List ℕ). x ∷ rest) (mapped_itself xs)

pub optional_itself : (o : Option ℕ) → option_map (λ a. a) o ≡ o
optional_itself None = refl
optional_itself (Some a) = refl

-- what an array gives, where the list of arrays is renumbered
pub given_same : (f : ℕ → ℕ) (o : Option ℕ) (g h : ℕ → Option ℤ) → ((a : ℕ) → o ≡ Some a → g (f a) ≡ h a) → option_and_then g (option_map f o) ≡ option_and_then h o
given_same f None g h e = refl
given_same f (Some a) g h e = e a refl

pub pairs_renumbered : (f : ℕ → ℕ) (values : Option ℕ) (out : ℕ) → pair_writes (option_map f values) (f out) ≡ map f (pair_writes values out)
pairs_renumbered f None out = refl
pairs_renumbered f (Some v) out = refl

module _ (f : ℕ → ℕ) (old new : List ArrayInfo) where
  abbrev Kept : ℕ → Type 0
  Kept a = HasLayoutOf f old new a

  pub grid_same : (a : ℕ) → Kept a → grid_at new (f a) ≡ grid_at old a
  grid_same a k = ap (λ (l : Layout). l.grid) k

  pub type_same : (a : ℕ) → Kept a → type_at new (f a) ≡ type_at old a
  type_same a k = ap (λ (l : Layout). l.dtype) k

  pub shapes_same : (ins : List ℕ) → All Kept ins → shapes_at new (map f ins) ≡ shapes_at old ins
  shapes_same [] h = refl
  shapes_same (a ∷ rest) h = both (ap (λ (g : RegularGrid). g.shape) (grid_same a (h 0 0 (omega arith)))) (shapes_same rest (λ k d b. h (suc k) d (omega arith)))
    where
      both : {x y : List ℕ} {xs ys : List (List ℕ)} → x ≡ y → xs ≡ ys → x ∷ xs ≡ y ∷ ys
      both e r = λ i. e i ∷ r i

  pub types_same : (ins : List ℕ) → All Kept ins → map (type_at new) (map f ins) ≡ map (type_at old) ins
  types_same [] h = refl
  types_same (a ∷ rest) h = both (type_same a (h 0 0 (omega arith))) (types_same rest (λ k d b. h (suc k) d (omega arith)))
    where
      both : {x y : Dtype} {xs ys : List Dtype} → x ≡ y → xs ≡ ys → x ∷ xs ≡ y ∷ ys
      both e r = λ i. e i ∷ r i

  -- ---- it fits

  pub all_renumbered : (P Q : ℕ → Type 0) (xs : List ℕ) → All Kept xs → ((a : ℕ) → Kept a → P a → Q (f a)) → All P xs → All Q (map f xs)
  all_renumbered P Q [] k h own = λ j d b. absurd (omega arith)
  all_renumbered P Q (x ∷ xs) k h own = All-cons Q (f x) (map f xs) (h x (k 0 0 (omega arith)) (own 0 0 (omega arith)))
      (all_renumbered P Q xs (λ j d b. k (suc j) d (omega arith)) h (λ j d b. own (suc j) d (omega arith)))

  pub fold_fits : (kind : FoldKind) (gs : RegularGrid → Groups) (source out : ℕ) → Kept source → Kept out → FoldFits old kind (gs (grid_at old source)) source out
      → FoldFits new kind (gs (grid_at new (f source))) (f source) (f out)
  fold_fits kind gs source out ks ko h =
      let G = sym (grid_same source ks) in
      let O = sym (grid_same out ko) in
      let S = sym (type_same source ks) in
      let T = sym (type_same out ko) in
      record {
        result = transport (λ i. IsSqueezed (partial_grid (gs (G i)) (G i)) (O i)) h.result;
        types = transport (λ i. Accumulates kind (S i) (T i)) h.types;
        enough = transport (λ i. HasEnough kind (gs (G i)) (G i).shape) h.enough;
      }

  pub merge_along : (axis group source : ℕ) → Kept source → IsMergeAlong old axis group source → IsMergeAlong new axis group (f source)
  merge_along axis group source k h = record { along = transport (λ i. axis < length (sym (grid_same source k) i).shape) h.along; some = h.some; few = h.few }

  pub values_stored : (source : ℕ) (values : Option ℕ) (out : ℕ) → Kept source → All Kept (pair_writes values out) → ((a b : ℕ) → Contains (pair_writes values out) a → Contains (pair_writes values out) b → f a ≡ f b → a ≡ b)
      → StoresValues old values source out → StoresValues new (option_map f values) (f source) (f out)
  values_stored source None out k w once h = tt
  values_stored source (Some v) out k w once (apart, grid, typed) =
      let kv : Kept v = w 0 0 (omega arith) in
      let ko : Kept out = w 1 0 (omega arith) in
      ((λ e. apart (once v out (0, omega arith, refl) (1, omega arith, refl) e)), grid_same v kv ∙ grid ∙ sym (grid_same out ko), type_same v kv ∙ typed ∙ sym (type_same source k))

  -- the places are written last
  pub place_kept : (values : Option ℕ) (out : ℕ) → All Kept (pair_writes values out) → Kept out
  place_kept values out h = All-contains Kept (pair_writes values out) out h (pair_last values out)

  pub pair_fits : (gs : RegularGrid → Groups) (source : ℕ) (values : Option ℕ) (out : ℕ) → Kept source → All Kept (pair_writes values out)
      → ((a b : ℕ) → Contains (pair_writes values out) a → Contains (pair_writes values out) b → f a ≡ f b → a ≡ b) → PairFits old (gs (grid_at old source)) source values out
      → PairFits new (gs (grid_at new (f source))) (f source) (option_map f values) (f out)
  pair_fits gs source values out k w once h =
      let ko = place_kept values out w in
      let G = sym (grid_same source k) in
      let O = sym (grid_same out ko) in
      record {
        result = transport (λ i. IsSqueezed (partial_grid (gs (G i)) (G i)) (O i)) h.result;
        places = type_same out ko ∙ h.places;
        stored = values_stored source values out k w once h.stored;
        enough = transport (λ i. HasElements (gs (G i)) (G i).shape) h.enough;
      }

  pub place_axis : (axis : Option ℕ) (source : ℕ) → Kept source → HasPlaceAxis axis (grid_at old source).shape → HasPlaceAxis axis (grid_at new (f source)).shape
  place_axis axis source k h = transport (λ i. HasPlaceAxis axis (sym (grid_same source k) i).shape) h

  -- ---- it needs as much

  pub room_same : (a : ℕ) → Kept a → chunk_room new (f a) ≡ chunk_room old a
  room_same a k = ap (λ (l : Layout). stored_chunk_bytes (layout_view l)) k

  pub rooms_same : (xs : List ℕ) → All Kept xs → map (chunk_room new) (map f xs) ≡ map (chunk_room old) xs
  rooms_same [] h = refl
  rooms_same (a ∷ rest) h = both (room_same a (h 0 0 (omega arith))) (rooms_same rest (λ k d b. h (suc k) d (omega arith)))
    where
      both : {x y : ℕ} {xs ys : List ℕ} → x ≡ y → xs ≡ ys → x ∷ xs ≡ y ∷ ys
      both e r = λ i. e i ∷ r i

  pub sum_same : (xs : List ℕ) → All Kept xs → sum_by (chunk_room new) (map f xs) ≡ sum_by (chunk_room old) xs
  sum_same xs h = sum_by_mapped (chunk_room new) (map f xs) ∙ ap sum (rooms_same xs h) ∙ sym (sum_by_mapped (chunk_room old) xs)
    where
      sum_by_mapped : (g : ℕ → ℕ) (ys : List ℕ) → sum_by g ys ≡ sum (map g ys)
      sum_by_mapped g ys = sym (sum-map g ys)

  pub value_room_same : (source out : ℕ) → Kept source → Kept out → value_room new (f source) (f out) ≡ value_room old source out
  value_room_same source out ks ko = λ i. product (grid_same out ko i).chunk * size_of (type_same source ks i)
