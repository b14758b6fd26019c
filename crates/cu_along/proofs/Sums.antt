-- Sums of elements that may be missing, wrapped once or on the way.
use Rattle.std.proofs.Common.{◌≡◌, ℕ, zero, suc, ◌+◌, ◌-◌, ◌≤◌, ℤ, pos, ◌+ℤ◌, List, [], ◌∷◌, ◌++◌, map, Option, None, Some, refl, sym, ap, ◌∙◌, arith}
use Rattle.std.specs.Prelude.{option_map, option_and_then}
use Rattle.std.specs.List.{range_with_len}
use Rattle.std.proofs.lemmas.Int.{ints}
use Rattle.std.proofs.Math.IntN.{+ℤ_assoc}
use Rattle.cu_num.specs.Dtype.{IsInteger}
use Rattle.cu_num.specs.Wrap.{wrapped}
use Rattle.cu_num.specs.declared.types.Dtype.{Dtype}
use Rattle.cu_num.specs.declared.folds.FoldKind.TheVariants.{Sum}
use Rattle.cu_reduce.specs.Folds.{exact_sum, fold_of, all_some, reduced_to}
use Rattle.cu_reduce.proofs.Folding.{wrapped_first, wrapped_second}
use Rattle.cu_reduce.proofs.Ranges.{range_append, map-append}
use Rattle.cu_reduce.specs.Prefix.{Line, running_sum, cumulative, span}

-- ---- sums of two and of a list

abbrev pub plus : Option ℤ → Option ℤ → Option ℤ
plus None y = None
plus (Some x) None = None
plus (Some x) (Some y) = Some (x +ℤ y)

abbrev pub total : List (Option ℤ) → Option ℤ
total [] = Some (pos 0)
total (x ∷ xs) = plus x (total xs)

abbrev pub settled : Dtype → Option ℤ → Option ℤ
settled acc x = option_map (wrapped acc) x

sum_first : (x : ℤ) → pos 0 +ℤ x ≡ x
sum_first x = omega (arith, ints)

sum_last : (x : ℤ) → x +ℤ pos 0 ≡ x
sum_last x = omega (arith, ints)

pub plus_none : (x : Option ℤ) → plus (Some (pos 0)) x ≡ x
plus_none None = refl
plus_none (Some x) = ap (λ z. Some z) (sum_first x)

pub plus_last : (x : Option ℤ) → plus x (Some (pos 0)) ≡ x
plus_last None = refl
plus_last (Some x) = ap (λ z. Some z) (sum_last x)

plus_assoc : (x y z : Option ℤ) → plus (plus x y) z ≡ plus x (plus y z)
plus_assoc None y z = refl
plus_assoc (Some x) None z = refl
plus_assoc (Some x) (Some y) None = refl
plus_assoc (Some x) (Some y) (Some z) = ap (λ u. Some u) (+ℤ_assoc x y z)

pub total_append : (xs ys : List (Option ℤ)) → total (xs ++ ys) ≡ plus (total xs) (total ys)
total_append [] ys = sym (plus_none (total ys))
total_append (x ∷ xs) ys = ap (plus x) (total_append xs ys)
    ∙ sym (plus_assoc x (total xs) (total ys))

-- ---- what a reduction makes

summed_more : (x : ℤ) (o : Option (List ℤ))
    → option_map exact_sum (option_map (λ ys. x ∷ ys) o) ≡ plus (Some x) (option_map exact_sum o)
summed_more x None = refl
summed_more x (Some ys) = refl

summed : (xs : List (Option ℤ)) → option_map exact_sum (all_some xs) ≡ total xs
summed [] = refl
summed (None ∷ xs) = refl
summed (Some x ∷ xs) = summed_more x (all_some xs) ∙ ap (plus (Some x)) (summed xs)

wrapped_sum : (acc : Dtype) (o : Option (List ℤ))
    → option_map (λ ys. wrapped acc (fold_of Sum ys)) o ≡ settled acc (option_map exact_sum o)
wrapped_sum acc None = refl
wrapped_sum acc (Some ys) = refl

pub reduced_is : (acc : Dtype) (xs : List (Option ℤ))
    → reduced_to Sum acc xs ≡ settled acc (total xs)
reduced_is acc xs = wrapped_sum acc (all_some xs) ∙ ap (settled acc) (summed xs)

pub settled_first : (acc : Dtype) (x y : Option ℤ) → IsInteger acc
    → settled acc (plus (settled acc x) y) ≡ settled acc (plus x y)
settled_first acc None y a = refl
settled_first acc (Some x) None a = refl
settled_first acc (Some x) (Some y) a = ap (λ z. Some z) (wrapped_first Sum acc acc x y a tt tt)

pub settled_second : (acc : Dtype) (x y : Option ℤ) → IsInteger acc
    → settled acc (plus x (settled acc y)) ≡ settled acc (plus x y)
settled_second acc None y a = refl
settled_second acc (Some x) None a = refl
settled_second acc (Some x) (Some y) a = ap (λ z. Some z) (wrapped_second Sum acc acc x y a tt tt)

-- ---- along a line

pub span_append : (f : Line) (a b c : ℕ) → a ≤ b → b ≤ c → span f a b ++ span f b c ≡ span f a c
span_append f a b c h k =
    let e : a + (b - a) ≡ b = omega arith in
    let s : b - a + (c - b) ≡ c - a = omega arith in
    ap (λ m. span f a b ++ map f (range_with_len m (c - b))) (sym e)
    ∙ sym (map-append f (range_with_len a (b - a)) (range_with_len (a + (b - a)) (c - b)))
    ∙ ap (map f) (range_append a (b - a) (c - b))
    ∙ ap (λ n. map f (range_with_len a n)) s

pub span_one : (f : Line) (a : ℕ) → span f a (suc a) ≡ f a ∷ []
span_one f a = let e : suc a - a ≡ 1 = omega arith in ap (λ n. map f (range_with_len a n)) e

pub span_none : (f : Line) (a : ℕ) → span f a a ≡ []
span_none f a = let e : a - a ≡ 0 = omega arith in ap (λ n. map f (range_with_len a n)) e

-- the elements up to a place and the next
running_more : (x y : Option ℤ) → option_and_then (λ u. option_map (λ v. u +ℤ v) y) x ≡ plus x y
running_more None y = refl
running_more (Some x) None = refl
running_more (Some x) (Some y) = refl

pub total_running : (f : Line) (j : ℕ) → total (span f 0 (suc j)) ≡ running_sum f j
total_running f zero = ap total (span_one f 0) ∙ plus_last (f 0)
total_running f (suc j) =
    ap total (sym (span_append f 0 (suc j) (suc (suc j)) (omega arith) (omega arith)))
    ∙ total_append (span f 0 (suc j)) (span f (suc j) (suc (suc j)))
    ∙ (λ i. plus (total_running f j i) (total (span_one f (suc j) i)))
    ∙ ap (plus (running_sum f j)) (plus_last (f (suc j)))
    ∙ sym (running_more (running_sum f j) (f (suc j)))

pub cumulative_is : (acc : Dtype) (f : Line) (j : ℕ)
    → reduced_to Sum acc (span f 0 (suc j)) ≡ cumulative acc f j
cumulative_is acc f j = reduced_is acc (span f 0 (suc j)) ∙ ap (settled acc) (total_running f j)
