-- The indices of the operands of a matrix product at one inner place, from those at another.
use Rattle.std.proofs.Common.{◌≡◌, ◌+◌, ◌-◌, ◌<◌, suc, ℕ, Bool, true, false, List, [], ◌∷◌, ◌++◌, length, length-append, take, refl, ap, ◌∙◌, arith}
use Rattle.std.specs.Prelude.{nat_le, slice_index, slice_set, if◌then◌else◌}
use Rattle.cu_shape.specs.Index.{back}
use Rattle.cu_reduce.specs.Products.{batch_of, outer_axes, batch_axes, left_index, right_index}

last_set : (front : List ℕ) (row k : ℕ) → slice_set (front ++ row ∷ 0 ∷ []) (suc (length front)) k ≡ front ++ row ∷ k ∷ []
last_set [] row k = refl
last_set (f ∷ front) row k = ap (λ (xs : List ℕ). f ∷ xs) (last_set front row k)

next_set : (front : List ℕ) (column k : ℕ) → slice_set (front ++ 0 ∷ column ∷ []) (length front) k ≡ front ++ k ∷ column ∷ []
next_set [] column k = refl
next_set (f ∷ front) column k = ap (λ (xs : List ℕ). f ∷ xs) (next_set front column k)

left_by : (matrix : Bool) (front : List ℕ) (row k : ℕ)
    → slice_set (if matrix then front ++ row ∷ 0 ∷ [] else 0 ∷ []) (length (if matrix then front ++ row ∷ 0 ∷ [] else 0 ∷ []) - 1) k ≡ (if matrix then front ++ row ∷ k ∷ [] else k ∷ [])
left_by true front row k =
    let n : length (front ++ row ∷ 0 ∷ []) - 1 ≡ suc (length front) = omega (arith, length-append front (row ∷ 0 ∷ [])) in
    ap (λ m. slice_set (front ++ row ∷ 0 ∷ []) m k) n ∙ last_set front row k
left_by false front row k = refl

right_by : (matrix : Bool) (front : List ℕ) (column k : ℕ)
    → slice_set (if matrix then front ++ 0 ∷ column ∷ [] else 0 ∷ []) (length (if matrix then front ++ 0 ∷ column ∷ [] else 0 ∷ []) - 2) k ≡ (if matrix then front ++ k ∷ column ∷ [] else k ∷ [])
right_by true front column k =
    let n : length (front ++ 0 ∷ column ∷ []) - 2 ≡ length front = omega (arith, length-append front (0 ∷ column ∷ [])) in
    ap (λ m. slice_set (front ++ 0 ∷ column ∷ []) m k) n ∙ next_set front column k
right_by false front column k = refl

pub left_moved : (a b idx : List ℕ) (k : ℕ) → slice_set (left_index a b idx 0) (length (left_index a b idx 0) - 1) k ≡ left_index a b idx k
left_moved a b idx k = left_by (nat_le 2 (length a)) (back (batch_of a) (take (batch_axes a b idx) idx)) (slice_index idx (batch_axes a b idx)) k

pub right_moved : (a b idx : List ℕ) (k : ℕ) → slice_set (right_index a b idx 0) (length (right_index a b idx 0) - 2) k ≡ right_index a b idx k
right_moved a b idx k = right_by (nat_le 2 (length b)) (back (batch_of b) (take (batch_axes a b idx) idx)) (slice_index idx (batch_axes a b idx + outer_axes a)) k

some_by : (matrix : Bool) (front : List ℕ) (m n k : ℕ) → 0 < length (if matrix then front ++ m ∷ n ∷ [] else k ∷ [])
some_by true front m n k = omega (arith, length-append front (m ∷ n ∷ []))
some_by false front m n k = omega arith

pub left_some : (a b idx : List ℕ) (k : ℕ) → 0 < length (left_index a b idx k)
left_some a b idx k = some_by (nat_le 2 (length a)) (back (batch_of a) (take (batch_axes a b idx) idx)) (slice_index idx (batch_axes a b idx)) k k

pub right_some : (a b idx : List ℕ) (k : ℕ) → 0 < length (right_index a b idx k)
right_some a b idx k = some_by (nat_le 2 (length b)) (back (batch_of b) (take (batch_axes a b idx) idx)) k (slice_index idx (batch_axes a b idx + outer_axes a)) k
