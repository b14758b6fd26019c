-- What is made of a list of exact numbers: of its parts, and by a loop.
use Rattle.std.proofs.Common.{◌≡◌, ℕ, suc, ℤ, pos, ◌+ℤ◌, ◌*ℤ◌, ◌||◌, ◌&&◌, true, false, List, [], ◌∷◌, ◌++◌, length, All, refl, sym, ap, ◌∙◌, arith}
use Rattle.std.specs.Prelude.{Bool as Test}
use Rattle.std.specs.Int.{int_min, int_max}
use Rattle.std.specs.List.{list_any, list_all}
use Rattle.std.proofs.lemmas.Int.{ints}
use Rattle.std.proofs.lemmas.List.Elements.{All-head, All-tail}
use Rattle.std.proofs.lemmas.List.Folds.{list_any-append, list_all-append}
use Rattle.std.proofs.Math.IntN.{+ℤ_assoc, *ℤ_comm}
use Rattle.cu_num.specs.Dtype.{InRange}
use Rattle.cu_num.specs.Scalar.{truth_number, is_nonzero}
use Rattle.cu_num.specs.Wrap.{wrapped}
use Rattle.cu_num.proofs.Wrapped.{wrapped-wrapped, wrapped_in_range, InRange-wrapped}
use Rattle.cu_num.specs.declared.types.Dtype.{Dtype}
use Rattle.cu_num.specs.declared.types.Dtype.TheVariants.{Bool, Int8, Int16, Int32, Int64, Uint8, Uint16, Uint32, Uint64}
use Rattle.cu_num.specs.declared.folds.FoldKind.{FoldKind}
use Rattle.cu_num.specs.declared.folds.FoldKind.TheVariants.{Sum, Prod, Min, Max, Any, All as Every}
use Rattle.cu_reduce.specs.Folds.{exact_sum, exact_product, least_of, greatest_of, fold_of}
use Rattle.cu_reduce.specs.Kinds.{unit_of, combined, Accumulates, IsTaken}
use Rattle.cu_reduce.specs.Running.{running, IsEnough}
use Rattle.cu_reduce.proofs.Combined.{combined_assoc, combined_comm, combined_unit, combined_wrapped, taken_combined, taken_in_range, least_assoc, greatest_assoc, product_assoc, product_unit, test_of}
use Rattle.cu_reduce.proofs.Regions.{append_none}

-- ---- the unit; 0 and 1 are numbers of each type

pub zero_in_range : (t : Dtype) → InRange t (pos 0)
zero_in_range Bool = (omega (arith, ints), omega (arith, ints))
zero_in_range Int8 = (omega (arith, ints), omega (arith, ints))
zero_in_range Int16 = (omega (arith, ints), omega (arith, ints))
zero_in_range Int32 = (omega (arith, ints), omega (arith, ints))
zero_in_range Int64 = (omega (arith, ints), omega (arith, ints))
zero_in_range Uint8 = (omega (arith, ints), omega (arith, ints))
zero_in_range Uint16 = (omega (arith, ints), omega (arith, ints))
zero_in_range Uint32 = (omega (arith, ints), omega (arith, ints))
zero_in_range Uint64 = (omega (arith, ints), omega (arith, ints))

pub one_in_range : (t : Dtype) → InRange t (pos 1)
one_in_range Bool = (omega (arith, ints), omega (arith, ints))
one_in_range Int8 = (omega (arith, ints), omega (arith, ints))
one_in_range Int16 = (omega (arith, ints), omega (arith, ints))
one_in_range Int32 = (omega (arith, ints), omega (arith, ints))
one_in_range Int64 = (omega (arith, ints), omega (arith, ints))
one_in_range Uint8 = (omega (arith, ints), omega (arith, ints))
one_in_range Uint16 = (omega (arith, ints), omega (arith, ints))
one_in_range Uint32 = (omega (arith, ints), omega (arith, ints))
one_in_range Uint64 = (omega (arith, ints), omega (arith, ints))

pub unit_in_range : (kind : FoldKind) (acc : Dtype) → InRange acc (unit_of kind acc)
unit_in_range Sum acc = zero_in_range acc
unit_in_range Prod acc = one_in_range acc
unit_in_range Min acc = let z = zero_in_range acc in (omega (arith, ints, z.0, z.1), omega (arith, ints))
unit_in_range Max acc = let z = zero_in_range acc in (omega (arith, ints), omega (arith, ints, z.0, z.1))
unit_in_range Any acc = zero_in_range acc
unit_in_range Every acc = one_in_range acc

pub taken_unit : (kind : FoldKind) (acc : Dtype) → IsTaken kind acc (unit_of kind acc)
taken_unit kind acc = taken_in_range kind acc (unit_of kind acc) (unit_in_range kind acc)

-- one wrap serves where the first or the second number was wrapped before
pub wrapped_first : (kind : FoldKind) (t acc : Dtype) (x y : ℤ) → Accumulates kind t acc → IsTaken kind acc x → IsTaken kind acc y
    → wrapped acc (combined kind (wrapped acc x) y) ≡ wrapped acc (combined kind x y)
wrapped_first kind t acc x y a h g =
    sym (combined_wrapped kind t acc (wrapped acc x) y a (taken_in_range kind acc (wrapped acc x) (InRange-wrapped acc x)) g)
    ∙ ap (λ z. wrapped acc (combined kind z (wrapped acc y))) (wrapped-wrapped acc x)
    ∙ combined_wrapped kind t acc x y a h g

pub wrapped_second : (kind : FoldKind) (t acc : Dtype) (x y : ℤ) → Accumulates kind t acc → IsTaken kind acc x → IsTaken kind acc y
    → wrapped acc (combined kind x (wrapped acc y)) ≡ wrapped acc (combined kind x y)
wrapped_second kind t acc x y a h g = ap (wrapped acc) (combined_comm kind x (wrapped acc y)) ∙ wrapped_first kind t acc y x a g h ∙ ap (wrapped acc) (combined_comm kind y x)

pub combined_unit_last : (kind : FoldKind) (t acc : Dtype) (x : ℤ) → Accumulates kind t acc → IsTaken kind acc x → wrapped acc (combined kind x (unit_of kind acc)) ≡ wrapped acc x
combined_unit_last kind t acc x a h = ap (wrapped acc) (combined_comm kind x (unit_of kind acc)) ∙ combined_unit kind t acc x a h

-- ---- one element more in front

pub enough_more : (kind : FoldKind) (n : ℕ) → IsEnough kind (suc n)
enough_more Min n = omega arith
enough_more Max n = omega arith
enough_more kind n = tt

-- what is made of nothing is the unit
pub fold_none : (kind : FoldKind) (acc : Dtype) → IsEnough kind 0 → fold_of kind [] ≡ unit_of kind acc
fold_none Min acc e = absurd (omega arith)
fold_none Max acc e = absurd (omega arith)
fold_none kind acc e = refl

pub fold_more : (kind : FoldKind) (x y : ℤ) (ys : List ℤ) → fold_of kind (x ∷ y ∷ ys) ≡ combined kind x (fold_of kind (y ∷ ys))
fold_more Any x y ys = ap (λ p. truth_number (is_nonzero x || p)) (sym (test_of (list_any is_nonzero (y ∷ ys))))
fold_more Every x y ys = ap (λ p. truth_number (is_nonzero x && p)) (sym (test_of (list_all is_nonzero (y ∷ ys))))
fold_more kind x y ys = refl

or_none : (p : Test) → (p || false) ≡ p
or_none true = refl
or_none false = refl

and_none : (p : Test) → (p && true) ≡ p
and_none true = refl
and_none false = refl

sum_none : (x : ℤ) → x +ℤ pos 0 ≡ x
sum_none x = omega (arith, ints)

-- a single number is combined with another as what is made of it
pub fold_single : (kind : FoldKind) (first x : ℤ) → combined kind first (fold_of kind (x ∷ [])) ≡ combined kind first x
fold_single Sum first x = ap (λ y. first +ℤ y) (sum_none x)
fold_single Prod first x = ap (λ y. first *ℤ y) (*ℤ_comm x (pos 1) ∙ product_unit x)
fold_single Min first x = refl
fold_single Max first x = refl
fold_single Any first x = ap (λ p. truth_number (is_nonzero first || p)) (test_of (is_nonzero x || false) ∙ or_none (is_nonzero x))
fold_single Every first x = ap (λ p. truth_number (is_nonzero first && p)) (test_of (is_nonzero x && true) ∙ and_none (is_nonzero x))

-- ---- concatenations

sum_append : (xs ys : List ℤ) → exact_sum (xs ++ ys) ≡ exact_sum xs +ℤ exact_sum ys
sum_append [] ys = omega (arith, ints)
sum_append (x ∷ xs) ys = ap (λ z. x +ℤ z) (sum_append xs ys) ∙ sym (+ℤ_assoc x (exact_sum xs) (exact_sum ys))

product_append : (xs ys : List ℤ) → exact_product (xs ++ ys) ≡ exact_product xs *ℤ exact_product ys
product_append [] ys = sym (product_unit (exact_product ys))
product_append (x ∷ xs) ys = ap (λ z. x *ℤ z) (product_append xs ys) ∙ sym (product_assoc x (exact_product xs) (exact_product ys))

least_append : (x y : ℤ) (xs ys : List ℤ) → least_of ((x ∷ xs) ++ (y ∷ ys)) ≡ int_min (least_of (x ∷ xs)) (least_of (y ∷ ys))
least_append x y [] ys = refl
least_append x y (z ∷ xs) ys = ap (int_min x) (least_append z y xs ys) ∙ sym (least_assoc x (least_of (z ∷ xs)) (least_of (y ∷ ys)))

greatest_append : (x y : ℤ) (xs ys : List ℤ) → greatest_of ((x ∷ xs) ++ (y ∷ ys)) ≡ int_max (greatest_of (x ∷ xs)) (greatest_of (y ∷ ys))
greatest_append x y [] ys = refl
greatest_append x y (z ∷ xs) ys = ap (int_max x) (greatest_append z y xs ys) ∙ sym (greatest_assoc x (greatest_of (z ∷ xs)) (greatest_of (y ∷ ys)))

pub fold_append : (kind : FoldKind) (xs ys : List ℤ) → IsEnough kind (length xs) → IsEnough kind (length ys)
    → fold_of kind (xs ++ ys) ≡ combined kind (fold_of kind xs) (fold_of kind ys)
fold_append Sum xs ys e g = sum_append xs ys
fold_append Prod xs ys e g = product_append xs ys
fold_append Min [] ys e g = absurd (omega arith)
fold_append Min (x ∷ xs) [] e g = absurd (omega arith)
fold_append Min (x ∷ xs) (y ∷ ys) e g = least_append x y xs ys
fold_append Max [] ys e g = absurd (omega arith)
fold_append Max (x ∷ xs) [] e g = absurd (omega arith)
fold_append Max (x ∷ xs) (y ∷ ys) e g = greatest_append x y xs ys
fold_append Any xs ys e g =
    ap truth_number (list_any-append is_nonzero xs ys ∙ (λ i. sym (test_of (list_any is_nonzero xs)) i || sym (test_of (list_any is_nonzero ys)) i))
fold_append Every xs ys e g =
    ap truth_number (list_all-append is_nonzero xs ys ∙ (λ i. sym (test_of (list_all is_nonzero xs)) i && sym (test_of (list_all is_nonzero ys)) i))

pub fold_turned : (kind : FoldKind) (xs ys : List ℤ) → fold_of kind (xs ++ ys) ≡ fold_of kind (ys ++ xs)
fold_turned kind [] ys = ap (fold_of kind) (sym (append_none ys))
fold_turned kind (x ∷ xs) [] = ap (fold_of kind) (append_none (x ∷ xs))
fold_turned kind (x ∷ xs) (y ∷ ys) =
    fold_append kind (x ∷ xs) (y ∷ ys) (enough_more kind (length xs)) (enough_more kind (length ys))
    ∙ combined_comm kind (fold_of kind (x ∷ xs)) (fold_of kind (y ∷ ys))
    ∙ sym (fold_append kind (y ∷ ys) (x ∷ xs) (enough_more kind (length ys)) (enough_more kind (length xs)))

-- ---- numbers that the kind takes

taken_single : (kind : FoldKind) (acc : Dtype) (x : ℤ) → IsTaken kind acc x → IsTaken kind acc (fold_of kind (x ∷ []))
taken_single Min acc x h = h
taken_single Max acc x h = h
taken_single kind acc x h = tt

taken_same : (kind : FoldKind) (acc : Dtype) (x y : ℤ) → x ≡ y → IsTaken kind acc y → IsTaken kind acc x
taken_same Min acc x y e h = rw e h
taken_same Max acc x y e h = rw e h
taken_same kind acc x y e h = tt

pub taken_fold : (kind : FoldKind) (acc : Dtype) (xs : List ℤ) → IsEnough kind (length xs) → All (IsTaken kind acc) xs → IsTaken kind acc (fold_of kind xs)
taken_fold kind acc [] e h = taken_same kind acc (fold_of kind []) (unit_of kind acc) (fold_none kind acc e) (taken_unit kind acc)
taken_fold kind acc (x ∷ []) e h = taken_single kind acc x (All-head (IsTaken kind acc) x [] h)
taken_fold kind acc (x ∷ y ∷ ys) e h =
    taken_same kind acc (fold_of kind (x ∷ y ∷ ys)) (combined kind x (fold_of kind (y ∷ ys))) (fold_more kind x y ys)
    (taken_combined kind acc x (fold_of kind (y ∷ ys)) (All-head (IsTaken kind acc) x (y ∷ ys) h)
    (taken_fold kind acc (y ∷ ys) (enough_more kind (length ys)) (All-tail (IsTaken kind acc) x (y ∷ ys) h)))

pub fold_append_wrapped : (kind : FoldKind) (t acc : Dtype) (xs ys : List ℤ) → Accumulates kind t acc → IsEnough kind (length xs) → IsEnough kind (length ys)
    → All (IsTaken kind acc) xs → All (IsTaken kind acc) ys
    → wrapped acc (fold_of kind (xs ++ ys)) ≡ wrapped acc (combined kind (wrapped acc (fold_of kind xs)) (wrapped acc (fold_of kind ys)))
fold_append_wrapped kind t acc xs ys a e g h k =
    ap (wrapped acc) (fold_append kind xs ys e g)
    ∙ sym (combined_wrapped kind t acc (fold_of kind xs) (fold_of kind ys) a (taken_fold kind acc xs e h) (taken_fold kind acc ys g k))

-- ---- a loop

pub running_append : (kind : FoldKind) (acc : Dtype) (first : ℤ) (xs ys : List ℤ) → running kind acc first (xs ++ ys) ≡ running kind acc (running kind acc first xs) ys
running_append kind acc first [] ys = refl
running_append kind acc first (x ∷ xs) ys = running_append kind acc (wrapped acc (combined kind first x)) xs ys

pub running_in_range : (kind : FoldKind) (acc : Dtype) (first : ℤ) (xs : List ℤ) → InRange acc first → InRange acc (running kind acc first xs)
running_in_range kind acc first [] h = h
running_in_range kind acc first (x ∷ xs) h = running_in_range kind acc (wrapped acc (combined kind first x)) xs (InRange-wrapped acc (combined kind first x))

pub running_fold : (kind : FoldKind) (t acc : Dtype) (first : ℤ) (xs : List ℤ) → Accumulates kind t acc → IsEnough kind (length xs) → IsTaken kind acc first
    → All (IsTaken kind acc) xs → wrapped acc (running kind acc first xs) ≡ wrapped acc (combined kind first (fold_of kind xs))
running_fold kind t acc first [] a e h g =
    sym (combined_unit_last kind t acc first a h) ∙ ap (λ z. wrapped acc (combined kind first z)) (sym (fold_none kind acc e))
running_fold kind t acc first (x ∷ []) a e h g = wrapped-wrapped acc (combined kind first x) ∙ ap (wrapped acc) (sym (fold_single kind first x))
running_fold kind t acc first (x ∷ y ∷ ys) a e h g =
    let whole = fold_of kind (y ∷ ys) in
    let enough = enough_more kind (length ys) in
    let own = All-head (IsTaken kind acc) x (y ∷ ys) g in
    let others = All-tail (IsTaken kind acc) x (y ∷ ys) g in
    let taken = taken_combined kind acc first x h own in
    running_fold kind t acc (wrapped acc (combined kind first x)) (y ∷ ys) a enough (taken_in_range kind acc (wrapped acc (combined kind first x)) (InRange-wrapped acc (combined kind first x))) others
    ∙ wrapped_first kind t acc (combined kind first x) whole a taken (taken_fold kind acc (y ∷ ys) enough others)
    ∙ ap (wrapped acc) (combined_assoc kind first x whole ∙ ap (combined kind first) (sym (fold_more kind x y ys)))

pub running_unit : (kind : FoldKind) (t acc : Dtype) (xs : List ℤ) → Accumulates kind t acc → IsEnough kind (length xs) → All (IsTaken kind acc) xs
    → running kind acc (unit_of kind acc) xs ≡ wrapped acc (fold_of kind xs)
running_unit kind t acc xs a e h =
    sym (wrapped_in_range acc (running kind acc (unit_of kind acc) xs) (running_in_range kind acc (unit_of kind acc) xs (unit_in_range kind acc)))
    ∙ running_fold kind t acc (unit_of kind acc) xs a e (taken_unit kind acc) h
    ∙ combined_unit kind t acc (fold_of kind xs) a (taken_fold kind acc xs e h)
