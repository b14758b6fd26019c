-- What is made of what is made of the parts of a region.
use Rattle.std.proofs.Common.{◌≡◌, ℕ, ◌+◌, ◌-◌, ◌<◌, ◌≤◌, zero, suc, ℤ, pos, ◌+ℤ◌, ◌≤ℤ◌, ◌||◌, ◌&&◌, List, [], ◌∷◌, length, map, All, Option, None, Some, refl, sym, ap, ◌∙◌, subst, arith, ⊎_elim}
use Rattle.std.specs.Prelude.{Bool as Test, option_map, option_and_then}
use Rattle.std.specs.Int.{int_min, int_max}
use Rattle.std.proofs.lemmas.Int.{ints, int_min_is, int_max_is}
use Rattle.std.proofs.lemmas.Bool.{cases_lt}
use Rattle.std.proofs.lemmas.List.{length-map}
use Rattle.std.proofs.lemmas.List.Elements.{All-nil, All-cons, All-head, All-tail, All-map}
use Rattle.cu_num.specs.Dtype.{InRange, greatest, least as lowest}
use Rattle.cu_num.specs.Scalar.{truth_number, is_nonzero}
use Rattle.cu_num.proofs.ScalarRange.{truth_number_in_range}
use Rattle.cu_num.specs.Wrap.{wrapped}
use Rattle.cu_num.proofs.Wrapped.{wrapped_in_range, InRange-wrapped}
use Rattle.cu_num.specs.declared.types.Dtype.{Dtype}
use Rattle.cu_num.specs.declared.types.Dtype.TheVariants.{Bool}
use Rattle.cu_num.specs.declared.folds.FoldKind.{FoldKind}
use Rattle.cu_num.specs.declared.folds.FoldKind.TheVariants.{Sum, Prod, Min, Max, Any, All as Every}
use Rattle.cu_reduce.specs.Folds.{fold_of, all_some, reduced_to}
use Rattle.cu_reduce.specs.Kinds.{unit_of, combined, Accumulates, IsTaken}
use Rattle.cu_reduce.specs.Parts.{part_start, Rises, part_indices, IsBetween}
use Rattle.cu_reduce.specs.Places.{Found, better_of_some, best_of, best_in}
use Rattle.cu_reduce.specs.Regions.{region_indices}
use Rattle.cu_reduce.specs.Running.{IsEnough}
use Rattle.cu_reduce.proofs.Bests.{best_assoc, best_comm}
use Rattle.cu_reduce.proofs.Combined.{combined_assoc, combined_comm, taken_in_range, taken_combined, test_of, product_unit, truth_again}
use Rattle.cu_reduce.proofs.Combining.{Combining, total, telescope}
use Rattle.cu_reduce.proofs.Folding.{enough_more, fold_none, fold_more, fold_single, taken_fold, unit_in_range, wrapped_first, wrapped_second}
use Rattle.cu_reduce.proofs.Ranges.{map-map, risen}
use Rattle.cu_reduce.proofs.Regions.{region_all, length-between}

-- ---- of elements that may be missing

abbrev both : {A : Type 0} → (A → A → A) → Option A → Option A → Option A
both f None y = None
both f (Some x) None = None
both f (Some x) (Some y) = Some (f x y)

module _ {A : Type 0} (m : Combining A) where
  both_assoc : (x y z : Option A) → both m.op (both m.op x y) z ≡ both m.op x (both m.op y z)
  both_assoc None y z = refl
  both_assoc (Some x) None z = refl
  both_assoc (Some x) (Some y) None = refl
  both_assoc (Some x) (Some y) (Some z) = ap (λ a. Some a) (m.assoc x y z)

  both_comm : (x y : Option A) → both m.op x y ≡ both m.op y x
  both_comm None None = refl
  both_comm None (Some y) = refl
  both_comm (Some x) None = refl
  both_comm (Some x) (Some y) = ap (λ a. Some a) (m.comm x y)

  both_absorbs : (x y : Option A) → both m.op (Some m.unit) (both m.op x y) ≡ both m.op x y
  both_absorbs None y = refl
  both_absorbs (Some x) None = refl
  both_absorbs (Some x) (Some y) = ap (λ a. Some a) (m.absorbs x y)

  abbrev lifted : Combining (Option A)
  lifted = record {
    op = both m.op;
    unit = Some m.unit;
    assoc = both_assoc;
    comm = both_comm;
    own = ap (λ a. Some a) m.own;
    absorbs = both_absorbs;
  }

  lifted_more : (x : A) (r : Option (List A)) → both m.op (Some x) (option_map (total m) r) ≡ option_map (total m) (option_map (λ ys. x ∷ ys) r)
  lifted_more x None = refl
  lifted_more x (Some ys) = refl

  total_lifted : (xs : List (Option A)) → total lifted xs ≡ option_map (total m) (all_some xs)
  total_lifted [] = refl
  total_lifted (None ∷ xs) = refl
  total_lifted (Some x ∷ xs) = ap (both m.op (Some x)) (total_lifted xs) ∙ lifted_more x (all_some xs)

  total_same : {X : Type 0} (f g : X → A) (xs : List X) → All (λ x. f x ≡ g x) xs → total m (map f xs) ≡ total m (map g xs)
  total_same f g [] h = refl
  total_same f g (x ∷ xs) h = λ i. m.op (All-head (λ y. f y ≡ g y) x xs h i) (total_same f g xs (All-tail (λ y. f y ≡ g y) x xs h) i)

-- a fact of a number where it is there
abbrev IfThere : {A : Type 0} → (A → Type 0) → Option A → Type 0
IfThere {A} P o = (x : A) → o ≡ Some x → P x

after : {A B : Type 0} (f : List A → B) (x : A) (r : Option (List A)) → option_map f (option_map (λ ys. x ∷ ys) r) ≡ option_map (λ ys. f (x ∷ ys)) r
after f x None = refl
after f x (Some ys) = refl

-- two functions that agree on lists of such numbers
there_same : {A B : Type 0} (P : A → Type 0) (f g : List A → B) (xs : List (Option A)) → All (IfThere P) xs
    → ((ys : List A) → length ys ≡ length xs → All P ys → f ys ≡ g ys) → option_map f (all_some xs) ≡ option_map g (all_some xs)
there_same P f g [] h e = ap (λ a. Some a) (e [] refl (All-nil P))
there_same P f g (None ∷ xs) h e = refl
there_same P f g (Some x ∷ xs) h e =
    after f x (all_some xs)
    ∙ there_same P (λ ys. f (x ∷ ys)) (λ ys. g (x ∷ ys)) xs (All-tail (IfThere P) (Some x) xs h)
    (λ ys s k. e (x ∷ ys) (ap suc s) (All-cons P x ys (All-head (IfThere P) (Some x) xs h x refl) k))
    ∙ sym (after g x (all_some xs))

-- ---- the kinds as combinations

-- what is kept of a number on the way
settled : FoldKind → Dtype → ℤ → ℤ
settled Sum acc x = wrapped acc x
settled Prod acc x = wrapped acc x
settled Min acc x = int_min (greatest acc) x
settled Max acc x = int_max (lowest acc) x
settled Any acc x = truth_number (is_nonzero x)
settled Every acc x = truth_number (is_nonzero x)

min_twice : (g x y : ℤ) → int_min g (int_min (int_min g x) y) ≡ int_min g (int_min x y)
min_twice g x y = omega (arith, ints, int_min_is g x, int_min_is (int_min g x) y, int_min_is x y, int_min_is g (int_min x y), int_min_is g (int_min (int_min g x) y))

max_twice : (g x y : ℤ) → int_max g (int_max (int_max g x) y) ≡ int_max g (int_max x y)
max_twice g x y = omega (arith, ints, int_max_is g x, int_max_is (int_max g x) y, int_max_is x y, int_max_is g (int_max x y), int_max_is g (int_max (int_max g x) y))

min_again : (g x : ℤ) → int_min g (int_min g x) ≡ int_min g x
min_again g x = omega (arith, ints, int_min_is g x, int_min_is g (int_min g x))

max_again : (g x : ℤ) → int_max g (int_max g x) ≡ int_max g x
max_again g x = omega (arith, ints, int_max_is g x, int_max_is g (int_max g x))

min_own : (g : ℤ) → int_min g g ≡ g
min_own g = omega (arith, ints, int_min_is g g)

max_own : (g : ℤ) → int_max g g ≡ g
max_own g = omega (arith, ints, int_max_is g g)

min_within : (g x : ℤ) → x ≤ℤ g → int_min g x ≡ x
min_within g x h = omega (arith, ints, int_min_is g x)

max_within : (g x : ℤ) → g ≤ℤ x → int_max g x ≡ x
max_within g x h = omega (arith, ints, int_max_is g x)

none_added : (x : ℤ) → pos 0 +ℤ x ≡ x
none_added x = omega (arith, ints)

settled_first : (kind : FoldKind) (t acc : Dtype) (x y : ℤ) → Accumulates kind t acc → settled kind acc (combined kind (settled kind acc x) y) ≡ settled kind acc (combined kind x y)
unfolding settled
settled_first Sum t acc x y a = wrapped_first Sum t acc x y a tt tt
settled_first Prod t acc x y a = wrapped_first Prod t acc x y a tt tt
settled_first Min t acc x y a = min_twice (greatest acc) x y
settled_first Max t acc x y a = max_twice (lowest acc) x y
settled_first Any t acc x y a = ap (λ p. truth_number (is_nonzero (truth_number (p || is_nonzero y)))) (test_of (is_nonzero x))
settled_first Every t acc x y a = ap (λ p. truth_number (is_nonzero (truth_number (p && is_nonzero y)))) (test_of (is_nonzero x))

settled_second : (kind : FoldKind) (t acc : Dtype) (x y : ℤ) → Accumulates kind t acc → settled kind acc (combined kind x (settled kind acc y)) ≡ settled kind acc (combined kind x y)
settled_second kind t acc x y a =
    ap (settled kind acc) (combined_comm kind x (settled kind acc y)) ∙ settled_first kind t acc y x a ∙ ap (settled kind acc) (combined_comm kind y x)

settled_unit : (kind : FoldKind) (acc : Dtype) (x : ℤ) → settled kind acc (combined kind (unit_of kind acc) x) ≡ settled kind acc x
unfolding settled
settled_unit Sum acc x = ap (wrapped acc) (none_added x)
settled_unit Prod acc x = ap (wrapped acc) (product_unit x)
settled_unit Min acc x = min_again (greatest acc) x
settled_unit Max acc x = max_again (lowest acc) x
settled_unit Any acc x = ap truth_number (test_of (is_nonzero x))
settled_unit Every acc x = ap truth_number (test_of (is_nonzero x))

settled_own : (kind : FoldKind) (acc : Dtype) → settled kind acc (unit_of kind acc) ≡ unit_of kind acc
unfolding settled
settled_own Sum acc = wrapped_in_range acc (pos 0) (unit_in_range Sum acc)
settled_own Prod acc = wrapped_in_range acc (pos 1) (unit_in_range Prod acc)
settled_own Min acc = min_own (greatest acc)
settled_own Max acc = max_own (lowest acc)
settled_own Any acc = refl
settled_own Every acc = refl

truth_wrapped : (acc : Dtype) (x : ℤ) → acc ≡ Bool → truth_number (is_nonzero x) ≡ wrapped acc x
truth_wrapped acc x e = sym (wrapped_in_range Bool (truth_number (is_nonzero x)) (truth_number_in_range (is_nonzero x))) ∙ truth_again x ∙ ap (λ d. wrapped d x) (sym e)

settled_wrapped : (kind : FoldKind) (t acc : Dtype) (x : ℤ) → Accumulates kind t acc → IsTaken kind acc x → settled kind acc x ≡ wrapped acc x
unfolding settled
settled_wrapped Sum t acc x a h = refl
settled_wrapped Prod t acc x a h = refl
settled_wrapped Min t acc x a h = min_within (greatest acc) x h.1 ∙ sym (wrapped_in_range acc x h)
settled_wrapped Max t acc x a h = max_within (lowest acc) x h.0 ∙ sym (wrapped_in_range acc x h)
settled_wrapped Any t acc x a h = truth_wrapped acc x a
settled_wrapped Every t acc x a h = truth_wrapped acc x a

module _ (kind : FoldKind) (t acc : Dtype) (a : Accumulates kind t acc) where
  abbrev way : ℤ → ℤ → ℤ
  way x y = settled kind acc (combined kind x y)

  way_assoc : (x y z : ℤ) → way (way x y) z ≡ way x (way y z)
  way_assoc x y z =
      settled_first kind t acc (combined kind x y) z a ∙ ap (settled kind acc) (combined_assoc kind x y z) ∙ sym (settled_second kind t acc x (combined kind y z) a)

  way_absorbs : (x y : ℤ) → way (unit_of kind acc) (way x y) ≡ way x y
  way_absorbs x y = settled_second kind t acc (unit_of kind acc) (combined kind x y) a ∙ settled_unit kind acc (combined kind x y)

  abbrev kept : Combining ℤ
  kept = record {
    op = way;
    unit = unit_of kind acc;
    assoc = way_assoc;
    comm = λ x y. ap (settled kind acc) (combined_comm kind x y);
    own = settled_unit kind acc (unit_of kind acc) ∙ settled_own kind acc;
    absorbs = way_absorbs;
  }

  fold_total : (xs : List ℤ) → IsEnough kind (length xs) → All (IsTaken kind acc) xs → wrapped acc (fold_of kind xs) ≡ total kept xs
  fold_total [] e h = ap (wrapped acc) (fold_none kind acc e) ∙ wrapped_in_range acc (unit_of kind acc) (unit_in_range kind acc)
  fold_total (x ∷ []) e h =
      let own = All-head (IsTaken kind acc) x [] h in
      let one = taken_fold kind acc (x ∷ []) e h in
      sym (settled_wrapped kind t acc (fold_of kind (x ∷ [])) a one)
      ∙ sym (settled_unit kind acc (fold_of kind (x ∷ [])))
      ∙ ap (settled kind acc) (fold_single kind (unit_of kind acc) x ∙ combined_comm kind (unit_of kind acc) x)
  fold_total (x ∷ y ∷ ys) e h =
      let own = All-head (IsTaken kind acc) x (y ∷ ys) h in
      let others = All-tail (IsTaken kind acc) x (y ∷ ys) h in
      let enough = enough_more kind (length ys) in
      let rest = taken_fold kind acc (y ∷ ys) enough others in
      let range = taken_in_range kind acc (wrapped acc (fold_of kind (y ∷ ys))) (InRange-wrapped acc (fold_of kind (y ∷ ys))) in
      ap (wrapped acc) (fold_more kind x y ys)
      ∙ sym (wrapped_second kind t acc x (fold_of kind (y ∷ ys)) a own rest)
      ∙ sym (settled_wrapped kind t acc (combined kind x (wrapped acc (fold_of kind (y ∷ ys)))) a (taken_combined kind acc x (wrapped acc (fold_of kind (y ∷ ys))) own range))
      ∙ ap (way x) (fold_total (y ∷ ys) enough others)

  reduced_total : (xs : List (Option ℤ)) → IsEnough kind (length xs) → All (IfThere (IsTaken kind acc)) xs → reduced_to kind acc xs ≡ total (lifted kept) xs
  reduced_total xs e h =
      there_same (IsTaken kind acc) (λ ys. wrapped acc (fold_of kind ys)) (total kept) xs h
      (λ ys s k. fold_total ys (subst (IsEnough kind) (sym s) e) k)
      ∙ sym (total_lifted kept xs)

-- ---- how many indices there are

sum_unit : (x y : ℕ) → 0 + (x + y) ≡ x + y
sum_unit x y = omega arith

sum_assoc : (x y z : ℕ) → x + y + z ≡ x + (y + z)
sum_assoc x y z = omega arith

sum_comm : (x y : ℕ) → x + y ≡ y + x
sum_comm x y = omega arith

abbrev counting : Combining ℕ
counting = record {
  op = λ x y. x + y;
  unit = 0;
  assoc = sum_assoc;
  comm = sum_comm;
  own = refl;
  absorbs = sum_unit;
}

counted : {X : Type 0} (xs : List X) → total counting (map (λ x. 1) xs) ≡ length xs
counted [] = refl
counted (x ∷ xs) = let e = counted xs in omega arith

-- the indices of all parts are those of the whole region
length-parts : (cuts : List (ℕ → ℕ)) (lo hi : List ℕ) → Rises cuts → length lo ≡ length cuts → length hi ≡ length cuts
    → length (region_indices (part_start cuts lo) (part_start cuts hi)) ≡ total counting (map (λ p. length (part_indices cuts p)) (region_indices lo hi))
length-parts cuts lo hi r e g =
    sym (counted (region_indices (part_start cuts lo) (part_start cuts hi)))
    ∙ sym (telescope counting cuts lo hi (λ i. 1) r e g)
    ∙ (λ j. total counting (map (λ p. counted (part_indices cuts p) j) (region_indices lo hi)))

-- ---- an index of a part lies in the region

pub risen_to : (c : ℕ → ℕ) → ((p : ℕ) → c p ≤ c (suc p)) → (l h : ℕ) → l ≤ h → c l ≤ c h
risen_to c r l h b = let e : l + (h - l) ≡ h = omega arith in let s : c (l + (h - l)) ≡ c h = ap c e in omega (arith, risen c r l (h - l))

pub part_within : (cuts : List (ℕ → ℕ)) (lo hi p i : List ℕ) → Rises cuts → length lo ≡ length cuts → IsBetween lo hi p
    → IsBetween (part_start cuts p) (part_start cuts (map suc p)) i → IsBetween (part_start cuts lo) (part_start cuts hi) i
part_within [] [] [] [] i r e b w = w
part_within (c ∷ cs) (l ∷ ls) (h ∷ hs) (p ∷ ps) (i ∷ is) r e b w =
    let x = b.0 in
    let y = b.1 in
    let low : c l ≤ c p = risen_to c r.0 l p x in
    let high : c (suc p) ≤ c h = risen_to c r.0 (suc p) h (omega arith) in
    let u = w.0 in
    let v = w.1 in
    (omega arith, omega arith, part_within cs ls hs ps is r.1 (omega arith) b.2 w.2)
part_within cuts lo hi p i r e b w = absurd (first_of (assumption, omega arith))

pub length-cut : (cuts : List (ℕ → ℕ)) (ps : List ℕ) → length ps ≡ length cuts → length (part_start cuts ps) ≡ length cuts
length-cut [] ps e = refl
length-cut (c ∷ cs) [] e = absurd (omega arith)
length-cut (c ∷ cs) (p ∷ ps) e = ap suc (length-cut cs ps (omega arith))

empty : {X : Type 0} (xs : List X) → length xs ≡ 0 → xs ≡ []
empty [] e = refl
empty (x ∷ xs) e = absurd (omega arith)

positive_total : {X : Type 0} (f : X → ℕ) (xs : List X) → 0 < length xs → All (λ x. 0 < f x) xs → 0 < total counting (map f xs)
positive_total f [] e h = absurd (omega arith)
positive_total f (x ∷ xs) e h = let b : 0 < f x = All-head (λ y. 0 < f y) x xs h in omega arith

of_enough : (kind : FoldKind) {X : Type 0} (f : X → ℕ) (xs : List X) (n : ℕ) → 0 < length xs → All (λ x. IsEnough kind (f x)) xs → n ≡ total counting (map f xs) → IsEnough kind n
of_enough Min f xs n e h g = rw g (positive_total f xs e h)
of_enough Max f xs n e h g = rw g (positive_total f xs e h)
of_enough kind f xs n e h g = tt

enough_some : (kind : FoldKind) (n : ℕ) → 0 < n → IsEnough kind n
enough_some kind zero h = absurd (omega arith)
enough_some kind (suc n) h = enough_more kind n

-- the whole region has enough elements where its parts have
pub parts_enough : (kind : FoldKind) (cuts : List (ℕ → ℕ)) (lo hi : List ℕ) → Rises cuts → length lo ≡ length cuts → length hi ≡ length cuts
    → ((p : List ℕ) → IsBetween lo hi p → IsEnough kind (length (part_indices cuts p))) → 0 < length (region_indices lo hi)
    → IsEnough kind (length (region_indices (part_start cuts lo) (part_start cuts hi)))
parts_enough kind cuts lo hi r e g parts some =
    of_enough kind (λ p. length (part_indices cuts p)) (region_indices lo hi) (length (region_indices (part_start cuts lo) (part_start cuts hi))) some
    (region_all lo hi (λ p. IsEnough kind (length (part_indices cuts p))) (e ∙ sym g) parts) (length-parts cuts lo hi r e g)

reduced_range : (kind : FoldKind) (acc : Dtype) (r : Option (List ℤ)) (x : ℤ) → option_map (λ ys. wrapped acc (fold_of kind ys)) r ≡ Some x → InRange acc x
reduced_range kind acc None x e = cc
reduced_range kind acc (Some ys) x e = let s : wrapped acc (fold_of kind ys) ≡ x = cc in subst (InRange acc) s (InRange-wrapped acc (fold_of kind ys))

-- ---- the law of rounds, of kinds

module _ (kind : FoldKind) (t acc : Dtype) (cuts : List (ℕ → ℕ)) (lo hi : List ℕ) (f : List ℕ → Option ℤ) where
  abbrev parts_of : List ℕ → Option ℤ
  parts_of p = reduced_to kind acc (map f (part_indices cuts p))

  abbrev Reduces : Type 0
  Reduces = reduced_to kind acc (map parts_of (region_indices lo hi)) ≡ reduced_to kind acc (map f (region_indices (part_start cuts lo) (part_start cuts hi)))

  nothing : Rises cuts → length lo ≡ length cuts → length hi ≡ length cuts → region_indices lo hi ≡ [] → Reduces
  nothing r e g none =
      let many : length (region_indices (part_start cuts lo) (part_start cuts hi)) ≡ 0 =
      length-parts cuts lo hi r e g ∙ ap (λ xs. total counting (map (λ p. length (part_indices cuts p)) xs)) none in
      ap (λ xs. reduced_to kind acc (map parts_of xs)) none ∙ ap (λ xs. reduced_to kind acc (map f xs)) (sym (empty (region_indices (part_start cuts lo) (part_start cuts hi)) many))

  something : Accumulates kind t acc → Rises cuts → length lo ≡ length cuts → length hi ≡ length cuts
      → ((p : List ℕ) → IsBetween lo hi p → IsEnough kind (length (part_indices cuts p)))
      → ((i : List ℕ) (x : ℤ) → IsBetween (part_start cuts lo) (part_start cuts hi) i → f i ≡ Some x → IsTaken kind acc x)
      → 0 < length (region_indices lo hi) → Reduces
  something a r e g parts taken some =
      let m = lifted (kept kind t acc a) in
      let region = region_indices lo hi in
      let all = region_indices (part_start cuts lo) (part_start cuts hi) in
      let outer : IsEnough kind (length (map parts_of region)) = subst (IsEnough kind) (sym (length-map region parts_of)) (enough_some kind (length region) some) in
      let whole : IsEnough kind (length (map f all)) =
      subst (IsEnough kind) (sym (length-map all f)) (parts_enough kind cuts lo hi r e g parts some) in
      reduced_total kind t acc a (map parts_of region) outer
      (All-map (IfThere (IsTaken kind acc)) parts_of region
      (region_all lo hi (λ p. IfThere (IsTaken kind acc) (parts_of p)) (e ∙ sym g)
      (λ p b x s. taken_in_range kind acc x (reduced_range kind acc (all_some (map f (part_indices cuts p))) x s))))
      ∙ total_same m parts_of (λ p. total m (map f (part_indices cuts p))) region
      (region_all lo hi (λ p. parts_of p ≡ total m (map f (part_indices cuts p))) (e ∙ sym g)
      (λ p b.
      let n = length-between lo hi p b in
      let same : length p ≡ length cuts = n.0 ∙ e in
      let next : length (map suc p) ≡ length cuts = length-map p suc ∙ same in
      reduced_total kind t acc a (map f (part_indices cuts p)) (subst (IsEnough kind) (sym (length-map (part_indices cuts p) f)) (parts p b))
      (All-map (IfThere (IsTaken kind acc)) f (part_indices cuts p)
      (region_all (part_start cuts p) (part_start cuts (map suc p)) (λ i. IfThere (IsTaken kind acc) (f i))
      (length-cut cuts p same ∙ sym (length-cut cuts (map suc p) next))
      (λ i w x s. taken i x (part_within cuts lo hi p i r e b w) s)))))
      ∙ telescope m cuts lo hi f r e g
      ∙ sym (reduced_total kind t acc a (map f all) whole
      (All-map (IfThere (IsTaken kind acc)) f all
      (region_all (part_start cuts lo) (part_start cuts hi) (λ i. IfThere (IsTaken kind acc) (f i)) (length-cut cuts lo e ∙ sym (length-cut cuts hi g))
      (λ i w x s. taken i x w s))))

pub rounds_of_kinds : (kind : FoldKind) (t acc : Dtype) (cuts : List (ℕ → ℕ)) (lo hi : List ℕ) (f : List ℕ → Option ℤ) → Accumulates kind t acc
    → Rises cuts → length lo ≡ length cuts → length hi ≡ length cuts
    → ((p : List ℕ) → IsBetween lo hi p → IsEnough kind (length (part_indices cuts p)))
    → ((i : List ℕ) (x : ℤ) → IsBetween (part_start cuts lo) (part_start cuts hi) i → f i ≡ Some x → IsTaken kind acc x)
    → reduced_to kind acc (map (λ p. reduced_to kind acc (map f (part_indices cuts p))) (region_indices lo hi))
    ≡ reduced_to kind acc (map f (region_indices (part_start cuts lo) (part_start cuts hi)))
rounds_of_kinds kind t acc cuts lo hi f a r e g parts taken =
    ⊎_elim
    (λ some. something kind t acc cuts lo hi f a r e g parts taken some)
    (λ none. nothing kind t acc cuts lo hi f r e g (empty (region_indices lo hi) (omega arith)))
    (cases_lt 0 (length (region_indices lo hi)))

-- ---- the law of rounds, of places

module _ (least : Test) where
  found_absorbs : (x y : Option Found) → better_of_some least None (better_of_some least x y) ≡ better_of_some least x y
  found_absorbs x y = refl

  abbrev finding : Combining (Option Found)
  finding = record {
    op = better_of_some least;
    unit = None;
    assoc = best_assoc least;
    comm = best_comm least;
    own = refl;
    absorbs = found_absorbs;
  }

  abbrev given : Option Found → Option (Option Found)
  given o = option_map (λ x. Some x) o

  abbrev taken_out : Option (Option Found) → Option Found
  taken_out o = option_and_then (λ x. x) o

  given_more : (x : Found) (r : Option (List Found)) → both (better_of_some least) (Some (Some x)) (option_map (best_of least) r) ≡ option_map (best_of least) (option_map (λ ys. x ∷ ys) r)
  given_more x None = refl
  given_more x (Some ys) = refl

  total_given : (xs : List (Option Found)) → total (lifted finding) (map given xs) ≡ option_map (best_of least) (all_some xs)
  total_given [] = refl
  total_given (None ∷ xs) = refl
  total_given (Some x ∷ xs) = ap (both (better_of_some least) (Some (Some x))) (total_given xs) ∙ given_more x (all_some xs)

  out_of : (r : Option (List Found)) → option_and_then (best_of least) r ≡ taken_out (option_map (best_of least) r)
  out_of None = refl
  out_of (Some ys) = refl

  best_total : (xs : List (Option Found)) → best_in least xs ≡ taken_out (total (lifted finding) (map given xs))
  best_total xs = out_of (all_some xs) ∙ ap taken_out (sym (total_given xs))

  some_better : (x : Found) (b : Option Found) → given (better_of_some least (Some x) b) ≡ Some (better_of_some least (Some x) b)
  some_better x None = refl
  some_better x (Some y) = refl

  some_of : (x : Found) (r : Option (List Found)) → given (option_and_then (best_of least) (option_map (λ ys. x ∷ ys) r)) ≡ option_map (best_of least) (option_map (λ ys. x ∷ ys) r)
  some_of x None = refl
  some_of x (Some ys) = some_better x (best_of least ys)

  part_given : (xs : List (Option Found)) → 0 < length xs → given (best_in least xs) ≡ total (lifted finding) (map given xs)
  part_given [] h = absurd (omega arith)
  part_given (None ∷ xs) h = refl
  part_given (Some x ∷ xs) h = some_of x (all_some xs) ∙ sym (total_given (Some x ∷ xs))

pub rounds_of_places : (least : Test) (cuts : List (ℕ → ℕ)) (lo hi : List ℕ) (f : List ℕ → Option Found)
    → Rises cuts → length lo ≡ length cuts → length hi ≡ length cuts
    → ((p : List ℕ) → IsBetween lo hi p → 0 < length (part_indices cuts p))
    → best_in least (map (λ p. best_in least (map f (part_indices cuts p))) (region_indices lo hi))
    ≡ best_in least (map f (region_indices (part_start cuts lo) (part_start cuts hi)))
rounds_of_places least cuts lo hi f r e g parts =
    let m = lifted (finding least) in
    let to : List ℕ → Option (Option Found) = λ i. given least (f i) in
    let of : List ℕ → Option Found = λ p. best_in least (map f (part_indices cuts p)) in
    let region = region_indices lo hi in
    let all = region_indices (part_start cuts lo) (part_start cuts hi) in
    best_total least (map of region)
    ∙ ap (λ xs. taken_out least (total m xs)) (map-map (given least) of region)
    ∙ ap (taken_out least)
    (total_same m (λ p. given least (of p)) (λ p. total m (map to (part_indices cuts p))) region
    (region_all lo hi (λ p. given least (of p) ≡ total m (map to (part_indices cuts p))) (e ∙ sym g)
    (λ p b.
    let some : 0 < length (part_indices cuts p) = parts p b in
    let many : length (map f (part_indices cuts p)) ≡ length (part_indices cuts p) = length-map (part_indices cuts p) f in
    part_given least (map f (part_indices cuts p)) (omega arith) ∙ ap (total m) (map-map (given least) f (part_indices cuts p))))
    ∙ telescope m cuts lo hi to r e g
    ∙ ap (total m) (sym (map-map (given least) f all)))
    ∙ sym (best_total least (map f all))
