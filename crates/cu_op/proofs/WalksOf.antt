-- Walks over the arrays of a list, and those of which one has an index.
use Rattle.cu_grid.specs.Counts.{IsWithin}
use Rattle.cu_grid.specs.Grid.{IsGrid}
use Rattle.cu_op.proofs.WalkCells.{walk_meets, AreApart}
use Rattle.cu_op.specs.Arrays.{grid_at}
use Rattle.cu_op.specs.Walks.{IsWalkOver, walk_cells}
use Rattle.cu_op.specs.declared.layout.ArrayInfo.{ArrayInfo}
use Rattle.cu_op.specs.declared.walks.Walk.{Walk}
use Rattle.std.proofs.Common.{◌≡◌, ℕ, zero, suc, ◌<◌, List, [], ◌∷◌, length, map, All, Contains, get_or, refl, ap, sym, ◌∙◌, subst, arith, ◌≢◌}
use Rattle.std.proofs.lemmas.List.{get_or-map, length-map}
use Rattle.std.proofs.lemmas.List.Elements.{All-cons, All-nil}

pub walk_of : (f : ℕ → Walk) (numbers : List ℕ) (w : Walk) → ((a : ℕ) → (f a).array ≡ a) → Contains (map f numbers) w → Contains numbers w.array × (f w.array ≡ w)
walk_of f numbers w own (j, l, e) =
    let b : j < length numbers = rw length-map at l in
    let is : f (get_or numbers j w.array) ≡ w = sym (get_or-map f numbers j w.array w b) ∙ e in
    let same : get_or numbers j w.array ≡ w.array = sym (own (get_or numbers j w.array)) ∙ ap (λ (x : Walk). x.array) is in
    ((j, b, same), subst (λ (a : ℕ). f a ≡ w) same is)

-- equal arrays are walked alike
pub one_each : (f : ℕ → Walk) (numbers : List ℕ) (v w : Walk) → ((a : ℕ) → (f a).array ≡ a) → Contains (map f numbers) v → Contains (map f numbers) w → v.array ≡ w.array → v ≡ w
one_each f numbers v w own hv hw same = sym (walk_of f numbers v own hv).1 ∙ ap f same ∙ (walk_of f numbers w own hw).1

-- they go over the arrays of the list
pub own_arrays : (f : ℕ → Walk) (numbers : List ℕ) → ((a : ℕ) → (f a).array ≡ a) → map (λ (w : Walk). w.array) (map f numbers) ≡ numbers
own_arrays f [] own = refl
own_arrays f (a ∷ numbers) own =
    let first = own a in
    let rest = own_arrays f numbers own in
    cons_same (f a).array a (map (λ (w : Walk). w.array) (map f numbers)) numbers first rest
  where
    cons_same : (x y : ℕ) (xs ys : List ℕ) → x ≡ y → xs ≡ ys → x ∷ xs ≡ y ∷ ys
    cons_same x y xs ys e r = cc

module _ (arrays : List ArrayInfo) where
  pub over_one : (w : Walk) → IsWalkOver arrays w → All (IsWalkOver arrays) (w ∷ [])
  over_one w o = All-cons (IsWalkOver arrays) w [] o (All-nil (IsWalkOver arrays))

  pub over_two : (v w : Walk) → IsWalkOver arrays v → IsWalkOver arrays w → All (IsWalkOver arrays) (v ∷ w ∷ [])
  over_two v w o p = All-cons (IsWalkOver arrays) v (w ∷ []) o (over_one w p)

  -- one walk, and two
  pub apart_one : (x v w : Walk) → Contains (x ∷ []) v → Contains (x ∷ []) w → v ≢ w → AreApart arrays v w
  apart_one x v w (zero, l, e) (zero, m, f) other = absurd (other (sym e ∙ f))
  apart_one x v w (suc i, l, e) w_in other = absurd (omega arith)
  apart_one x v w (zero, l, e) (suc j, m, f) other = absurd (omega arith)

  pub apart_two : (x y v w : Walk) → (x ≢ y → AreApart arrays x y) → Contains (x ∷ y ∷ []) v → Contains (x ∷ y ∷ []) w → v ≢ w → AreApart arrays v w
  apart_two x y v w apart (zero, l, e) (zero, m, f) other = absurd (other (sym e ∙ f))
  apart_two x y v w apart (suc zero, l, e) (suc zero, m, f) other = absurd (other (sym e ∙ f))
  apart_two x y v w apart (zero, l, e) (suc zero, m, f) other = subst (λ (p : Walk). AreApart arrays p w) e (subst (AreApart arrays x) f (apart (λ g. other (sym e ∙ g ∙ f))))
  apart_two x y v w apart (suc zero, l, e) (zero, m, f) other = λ c here there.
      apart (λ g. other (sym e ∙ sym g ∙ f)) c (subst (λ (p : Walk). Contains (walk_cells arrays p) c) (sym f) there) (subst (λ (p : Walk). Contains (walk_cells arrays p) c) (sym e) here)
  apart_two x y v w apart (suc (suc i), l, e) w_in other = absurd (omega arith)
  apart_two x y v w apart (zero, l, e) (suc (suc j), m, f) other = absurd (omega arith)
  apart_two x y v w apart (suc zero, l, e) (suc (suc j), m, f) other = absurd (omega arith)

  module _ (grids : (a : ℕ) → a < length arrays → IsGrid (grid_at arrays a)) where
    pub apart_each : (f : ℕ → Walk) (numbers : List ℕ) (v w : Walk) → ((a : ℕ) → (f a).array ≡ a) → Contains (map f numbers) v → Contains (map f numbers) w → v ≢ w
        → IsWalkOver arrays v → IsWalkOver arrays w → AreApart arrays v w
    apart_each f numbers v w own hv hw other ov ow c here there =
        let cv = (walk_meets arrays v c (grids v.array ov.0) ov here).0 in
        let cw = (walk_meets arrays w c (grids w.array ow.0) ow there).0 in
        other (one_each f numbers v w own hv hw (sym cv ∙ cw))

-- ---- what has an index

pub record LiesIn (ws : List Walk) (a : ℕ) (i : List ℕ) : Type 0 where
  pub one : Walk
  pub listed : Contains ws one
  pub array : one.array ≡ a
  pub within : IsWithin one.region.lo one.region.hi i

pub first_of_walks : (x : Walk) (xs : List Walk) (a : ℕ) (i : List ℕ) → x.array ≡ a → IsWithin x.region.lo x.region.hi i → LiesIn (x ∷ xs) a i
first_of_walks x xs a i e w = record { one = x; listed = (0, omega arith, refl); array = e; within = w }

pub second_of_walks : (x y : Walk) (a : ℕ) (i : List ℕ) → y.array ≡ a → IsWithin y.region.lo y.region.hi i → LiesIn (x ∷ y ∷ []) a i
second_of_walks x y a i e w = record { one = y; listed = (1, omega arith, refl); array = e; within = w }
