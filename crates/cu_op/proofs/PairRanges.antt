-- The numbers that a search for places gives: a value of its source, and a place.
use Rattle.std.proofs.Common.{◌≡◌, ◌⊎◌, inl, inr, ℕ, ℤ, pos, zero, suc, ◌<◌, ◌≤◌, ◌^◌, ◌==◌, Bool, true, false, List, [], ◌∷◌, length, Contains, Option, None, Some, get_or, refl, ap, sym, ◌∙◌, subst, arith, if◌then◌else◌}
use Rattle.std.specs.Option.{option_and_then, option_map}
use Rattle.std.proofs.lemmas.Bool.Decides.{eqb_tells}
use Rattle.std.proofs.lemmas.Int.{ints}
use Rattle.std.proofs.lemmas.Option.{same_Some}
use Rattle.cu_num.specs.Dtype.{InRange}
use Rattle.cu_num.specs.declared.types.Dtype.{Dtype}
use Rattle.cu_num.specs.declared.types.Dtype.TheVariants.{Int64}
use Rattle.cu_shape.specs.Index.{product, IsInside}
use Rattle.cu_shape.specs.Counts.{at_least_one}
use Rattle.cu_shape.proofs.Places.{place-below}
use Rattle.cu_shape.proofs.Products.{size_within, product_within}
use Rattle.cu_grid.proofs.Regions.{inside-at}
use Rattle.cu_reduce.specs.Folds.{all_some}
use Rattle.cu_reduce.specs.Places.{Found, counted_place, found_at, better_of, better_of_some, is_better, best_of, best_in}
use Rattle.cu_op.specs.declared.layout.ArrayInfo.{ArrayInfo}
use Rattle.cu_op.specs.Arrays.{type_at}
use Rattle.cu_op.specs.Places.{pair_writes, StoresValues, HasPlaceAxis, pair_part}

pub some_map : {A B : Type 0} (f : A → B) (o : Option A) (y : B) → option_map f o ≡ Some y → (x : A) × (o ≡ Some x) × (f x ≡ y)
some_map f None y e = cc
some_map f (Some x) y e = (x, refl, same_Some (f x) y e)

pub some_then : {A B : Type 0} (f : A → Option B) (o : Option A) (y : B) → option_and_then f o ≡ Some y → (x : A) × (o ≡ Some x) × (f x ≡ Some y)
some_then f None y e = cc
some_then f (Some x) y e = (x, refl, e)

-- ---- the best is one of the list

all_some_member : (xs : List (Option Found)) (ys : List Found) (y : Found) → all_some xs ≡ Some ys → Contains ys y → Contains xs (Some y)
all_some_member [] ys y e c = let none : [] ≡ ys = same_Some [] ys e in absurd (nothing y (subst (λ (zs : List Found). Contains zs y) (sym none) c))
  where
    nothing : (y : Found) → Contains [] y → ⊥
    nothing y (k, l, e) = omega arith
all_some_member (None ∷ xs) ys y e c = cc
all_some_member (Some x ∷ xs) ys y e c =
    let (zs, rest, is) = some_map (λ zs. x ∷ zs) (all_some xs) ys e in
    of_either x zs y (subst (λ (ws : List Found). Contains ws y) (sym is) c) (all_some_member xs zs y rest)
  where
    of_either : (x : Found) (zs : List Found) (y : Found) → Contains (x ∷ zs) y → (Contains zs y → Contains xs (Some y)) → Contains (Some x ∷ xs) (Some y)
    of_either x zs y (zero, l, e) h = (0, omega arith, ap Some e)
    of_either x zs y (suc k, l, e) h = let r = h (k, (let b : suc k < suc (length zs) = l in omega arith), e) in (suc r.0, (let b = r.1 in omega arith), r.2)

better_one : (least : Bool) (x b : Found) (o : Option Found) → better_of_some least (Some x) o ≡ Some b → (x ≡ b) ⊎ (o ≡ Some b)
better_one least x b None e = inl (same_Some x b e)
better_one least x b (Some y) e = chosen (is_better least y x) (same_Some (better_of least x y) b e)
  where
    chosen : (t : Bool) → (if t then y else x) ≡ b → (x ≡ b) ⊎ (Some y ≡ Some b)
    chosen true e = inr (ap Some e)
    chosen false e = inl e

best_member : (least : Bool) (xs : List Found) (b : Found) → best_of least xs ≡ Some b → Contains xs b
best_member least [] b e = cc
best_member least (x ∷ xs) b e = elim (better_one least x b (best_of least xs) e) [
  | inl here ↦ (0, omega arith, here)
  | inr there ↦ let r = best_member least xs b there in (suc r.0, (let l = r.1 in omega arith), r.2)
]

pub best_listed : (least : Bool) (xs : List (Option Found)) (b : Found) → best_in least xs ≡ Some b → Contains xs (Some b)
best_listed least xs b e = let (ys, all, best) = some_then (best_of least) (all_some xs) b e in all_some_member xs ys b all (best_member least ys b best)

-- ---- its value and its place

pub record FoundAt (value place : Option ℤ) (b : Found) : Type 0 where
  pub value_is : value ≡ Some b.value
  pub place_is : place ≡ Some b.place

pub found_parts : (value place : Option ℤ) (b : Found) → found_at value place ≡ Some b → FoundAt value place b
found_parts None place b e = cc
found_parts (Some v) None b e = cc
found_parts (Some v) (Some p) b e =
    let same : record { value = v; place = p } ≡ b = same_Some _ b e in
    record { value_is = ap (λ (x : Found). Some x.value) same; place_is = ap (λ (x : Found). Some x.place) same }

-- a place fits 64 bits
small_place : (p : ℕ) → p ≤ 2 ^ 56 → InRange Int64 (pos p)
small_place p h = (omega (arith, ints), omega (arith, ints))

pub place_range : (axis : Option ℕ) (shape i : List ℕ) → HasPlaceAxis axis shape → IsInside shape i → product (at_least_one shape) ≤ 2 ^ 56 → InRange Int64 (pos (counted_place axis shape i))
place_range None shape i has inside few =
    let b = place-below shape i inside in
    let w = product_within shape in
    small_place _ (omega (arith, b, w, few))
place_range (Some axis) shape i has inside few =
    let b : get_or i axis 0 < get_or shape axis 0 = inside-at shape i axis inside has in
    let w = size_within shape axis has in
    small_place (get_or i axis 0) (omega (arith, b, w, few))

place_part : (t : Bool) (b : Found) (x : ℤ) → t ≡ true → (if t then b.place else b.value) ≡ x → b.place ≡ x
place_part true b x e part = part
place_part false b x e part = cc

value_part : (t : Bool) (b : Found) (x : ℤ) → t ≡ false → (if t then b.place else b.value) ≡ x → b.value ≡ x
value_part false b x e part = part
value_part true b x e part = cc

-- each array that is written has numbers of its type
pub pair_range : (arrays : List ArrayInfo) (values : Option ℕ) (source out a : ℕ) (best : Option Found) (x : ℤ) → Contains (pair_writes values out) a → StoresValues arrays values source out
    → type_at arrays out ≡ Int64 → ((b : Found) → best ≡ Some b → InRange (type_at arrays source) b.value × InRange Int64 b.place) → pair_part (a == out) best ≡ Some x → InRange (type_at arrays a) x
pair_range arrays values source out a best x among stored places ranges e =
    let (b, is, part) = some_map (λ (f : Found). if a == out then f.place else f.value) best x e in
    let r = ranges b is in
    elim (eqb_tells a out) [
      | inl same ↦
          let place : b.place ≡ x = place_part (a == out) b x same.0 part in
          let t : type_at arrays a ≡ Int64 = ap (type_at arrays) same.1 ∙ places in
          subst (λ (d : Dtype). InRange d x) (sym t) (subst (InRange Int64) place r.1)
      | inr other ↦
          let value : b.value ≡ x = value_part (a == out) b x other.0 part in
          subst (λ (d : Dtype). InRange d x) (sym (value_type values among other.1 stored)) (subst (InRange (type_at arrays source)) value r.0)
    ]
  where
    value_type : (values : Option ℕ) → Contains (pair_writes values out) a → (a ≡ out → ⊥) → StoresValues arrays values source out → type_at arrays a ≡ type_at arrays source
    value_type None (zero, l, e) other stored = absurd (other (sym e))
    value_type None (suc k, l, e) other stored = absurd (omega arith)
    value_type (Some v) (zero, l, e) other stored = ap (type_at arrays) (sym e) ∙ stored.2
    value_type (Some v) (suc zero, l, e) other stored = absurd (other (sym e))
    value_type (Some v) (suc (suc k), l, e) other stored = absurd (omega arith)
