-- The regions of the operands for a region of a product of matrices.
use Rattle.std.proofs.Common.{◌≡◌, inl, inr, ℕ, zero, suc, ◌<◌, ◌≤◌, ◌+◌, ◌-◌, nat_le, Bool, true, false, List, [], ◌∷◌, ◌++◌, length, take, get_or, refl, ap, sym, ◌∙◌, subst, arith, if◌then◌else◌}
use Rattle.std.proofs.lemmas.Bool.Decides.{leb_tells}
use Rattle.std.proofs.lemmas.List.{get_or-append_right, append_assoc, length-append, length-take-le, get_or-take, take-take}
use Rattle.std.proofs.Math.Seq.{take-append_seam}
use Rattle.cu_shape.specs.Index.{back}
use Rattle.cu_grid.specs.Counts.{IsRegion, IsWithin}
use Rattle.cu_reduce.specs.Products.{batch_of, outer_axes, left_index, right_index}
use Rattle.cu_op.specs.Broadcast.{back_as}
use Rattle.cu_op.proofs.Spans.{IsSpanOn, IsSpan, two_span}
use Rattle.cu_op.specs.Matrix.{batch_rank, product_rank, rows_of, columns_of, left_inner, right_inner, product_index, left_numbers, right_numbers}

-- ---- the axes of an operand

two_last : (k : ℕ) (ns : List ℕ) → length ns ≡ suc (suc k) → ns ≡ take k ns ++ get_or ns k 0 ∷ get_or ns (suc k) 0 ∷ []
two_last zero (x ∷ y ∷ []) e = refl
two_last (suc k) (x ∷ ns) e = ap (λ xs. x ∷ xs) (two_last k ns (omega arith))
two_last k ns e = absurd (omega arith)

-- a matrix or a stack of matrices, and a list of numbers
pub matrix_axes : (ns : List ℕ) → 2 ≤ length ns → ns ≡ batch_of ns ++ get_or ns (length ns - 2) 0 ∷ get_or ns (length ns - 1) 0 ∷ []
matrix_axes ns h =
    let e : length ns - 1 ≡ suc (length ns - 2) = omega arith in
    subst (λ (k : ℕ). ns ≡ batch_of ns ++ get_or ns (length ns - 2) 0 ∷ get_or ns k 0 ∷ []) (sym e) (two_last (length ns - 2) ns (omega arith))

pub vector_axis : (ns : List ℕ) → 1 ≤ length ns → length ns < 2 → ns ≡ get_or ns (length ns - 1) 0 ∷ []
vector_axis [] h l = absurd (omega arith)
vector_axis (x ∷ []) h l = refl
vector_axis (x ∷ y ∷ ns) h l = absurd (omega arith)

pub vector_first : (ns : List ℕ) → 1 ≤ length ns → length ns < 2 → ns ≡ get_or ns 0 0 ∷ []
vector_first [] h l = absurd (omega arith)
vector_first (x ∷ []) h l = refl
vector_first (x ∷ y ∷ ns) h l = absurd (omega arith)

pub length-batch_of : (ns : List ℕ) → length (batch_of ns) ≡ length ns - 2
length-batch_of ns = length-take-le (length ns - 2) ns (omega arith)

pub outer_few : (ns : List ℕ) → outer_axes ns ≤ 1
outer_few ns = elim (leb_tells 2 (length ns)) [ inl t ↦ rw t.0 (omega arith) | inr t ↦ rw t.0 (omega arith) ]

pub outer_one : (ns : List ℕ) → 2 ≤ length ns → outer_axes ns ≡ 1
outer_one ns h = elim (leb_tells 2 (length ns)) [ inl t ↦ rw t.0 refl | inr t ↦ absurd (let b = t.1 in omega arith) ]

-- ---- the axes of a product: those before the matrix, a row axis, a column axis, and that of the parts

after : (xs ys : List ℕ) (k j : ℕ) → length xs ≡ k → get_or (xs ++ ys) (k + j) 0 ≡ get_or ys j 0
after xs ys k j e =
    let d : k + j - k ≡ j = omega arith in
    get_or-append_right xs ys k (k + j) 0 e (omega arith) ∙ ap (λ i. get_or ys i 0) d

length-rows : (ns : List ℕ) → length (rows_of ns) ≡ outer_axes ns
length-rows ns = elim (leb_tells 2 (length ns)) [ inl t ↦ rw t.0 refl | inr t ↦ rw t.0 refl ]

length-columns : (ns : List ℕ) → length (columns_of ns) ≡ outer_axes ns
length-columns ns = elim (leb_tells 2 (length ns)) [ inl t ↦ rw t.0 refl | inr t ↦ rw t.0 refl ]

abbrev pub laid : List ℕ → List ℕ → List ℕ → List ℕ → List ℕ
laid batch xs ys parts = batch ++ (rows_of xs ++ (columns_of ys ++ parts))

pub laid_as : (batch xs ys parts : List ℕ) → batch ++ rows_of xs ++ columns_of ys ++ parts ≡ laid batch xs ys parts
laid_as batch xs ys parts =
    append_assoc (batch ++ rows_of xs) (columns_of ys) parts ∙ append_assoc batch (rows_of xs) (columns_of ys ++ parts)

pub length-laid : (batch xs ys parts : List ℕ) (k : ℕ) → length batch ≡ k → length (laid batch xs ys parts) ≡ k + (outer_axes xs + outer_axes ys) + length parts
length-laid batch xs ys parts k e =
    let a : length (laid batch xs ys parts) ≡ length batch + length (rows_of xs ++ (columns_of ys ++ parts)) = length-append batch (rows_of xs ++ (columns_of ys ++ parts)) in
    let b = length-append (rows_of xs) (columns_of ys ++ parts) in
    let c = length-append (columns_of ys) parts in
    let p = length-rows xs in
    let q = length-columns ys in
    omega (arith, a, b, c, p, q, e)

pub laid_first : (batch xs ys parts : List ℕ) (k : ℕ) → length batch ≡ k → take k (laid batch xs ys parts) ≡ batch
laid_first batch xs ys parts k e = subst (λ (j : ℕ). take j (laid batch xs ys parts) ≡ batch) e (take-append_seam batch (rows_of xs ++ (columns_of ys ++ parts)))

pub laid_row : (batch xs ys parts : List ℕ) (k : ℕ) → length batch ≡ k → 2 ≤ length xs → get_or (laid batch xs ys parts) k 0 ≡ get_or xs (length xs - 2) 0
laid_row batch xs ys parts k e h =
    let z : k + 0 ≡ k = omega arith in
    let a = after batch (rows_of xs ++ (columns_of ys ++ parts)) k 0 e in
    let b : get_or (rows_of xs ++ (columns_of ys ++ parts)) 0 0 ≡ get_or xs (length xs - 2) 0 = elim (leb_tells 2 (length xs)) [ inl t ↦ rw t.0 refl | inr t ↦ absurd (let l = t.1 in omega arith) ] in
    ap (λ i. get_or (laid batch xs ys parts) i 0) (sym z) ∙ a ∙ b

pub laid_column : (batch xs ys parts : List ℕ) (k : ℕ) → length batch ≡ k → 2 ≤ length ys → get_or (laid batch xs ys parts) (k + outer_axes xs) 0 ≡ get_or ys (length ys - 1) 0
laid_column batch xs ys parts k e h =
    let z : outer_axes xs + 0 ≡ outer_axes xs = omega arith in
    let a = after batch (rows_of xs ++ (columns_of ys ++ parts)) k (outer_axes xs) e in
    let b : get_or (rows_of xs ++ (columns_of ys ++ parts)) (outer_axes xs) 0 ≡ get_or (columns_of ys ++ parts) 0 0 =
    ap (λ i. get_or (rows_of xs ++ (columns_of ys ++ parts)) i 0) (sym z) ∙ after (rows_of xs) (columns_of ys ++ parts) (outer_axes xs) 0 (length-rows xs) in
    let c : get_or (columns_of ys ++ parts) 0 0 ≡ get_or ys (length ys - 1) 0 = elim (leb_tells 2 (length ys)) [ inl t ↦ rw t.0 refl | inr t ↦ absurd (let l = t.1 in omega arith) ] in
    a ∙ b ∙ c

pub laid_part : (batch xs ys parts : List ℕ) (k : ℕ) → length batch ≡ k → get_or (laid batch xs ys parts) (k + (outer_axes xs + outer_axes ys)) 0 ≡ get_or parts 0 0
laid_part batch xs ys parts k e =
    let z : outer_axes ys + 0 ≡ outer_axes ys = omega arith in
    after batch (rows_of xs ++ (columns_of ys ++ parts)) k (outer_axes xs + outer_axes ys) e
    ∙ after (rows_of xs) (columns_of ys ++ parts) (outer_axes xs) (outer_axes ys) (length-rows xs)
    ∙ ap (λ i. get_or (columns_of ys ++ parts) i 0) (sym z) ∙ after (columns_of ys) parts (outer_axes ys) 0 (length-columns ys)

-- ---- regions and indices with two more axes

pub two_region : (ns ls hs : List ℕ) (n l h m k j : ℕ) → IsRegion ns ls hs → (l ≤ h) × (h ≤ n) → (k ≤ j) × (j ≤ m)
    → IsRegion (ns ++ n ∷ m ∷ []) (ls ++ l ∷ k ∷ []) (hs ++ h ∷ j ∷ [])
two_region [] [] [] n l h m k j r p q = (p.0, p.1, (q.0, q.1, tt))
two_region (x ∷ ns) (y ∷ ls) (z ∷ hs) n l h m k j r p q = (r.0, r.1, two_region ns ls hs n l h m k j r.2 p q)
two_region ns ls hs n l h m k j r p q = absurd r

pub two_within : (ls hs is : List ℕ) (l h i k j q : ℕ) → IsWithin ls hs is → (l ≤ i) × (i < h) → (k ≤ q) × (q < j)
    → IsWithin (ls ++ l ∷ k ∷ []) (hs ++ h ∷ j ∷ []) (is ++ i ∷ q ∷ [])
two_within [] [] [] l h i k j q w a b = (a.0, a.1, (b.0, b.1, tt))
two_within (x ∷ ls) (y ∷ hs) (z ∷ is) l h i k j q w a b = (w.0, w.1, two_within ls hs is l h i k j q w.2 a b)
two_within ls hs is l h i k j q w a b = absurd w

-- ---- the operands

-- what is known of the numbers of an operand's axes
abbrev pub BatchRegion : List ℕ → ℕ → List ℕ → List ℕ → Type 0
BatchRegion ns br lo hi = IsRegion (batch_of ns) (back_as 0 (batch_of ns) (take br lo)) (back_as 1 (batch_of ns) (take br hi))

abbrev pub BatchWithin : List ℕ → ℕ → List ℕ → List ℕ → List ℕ → Type 0
BatchWithin ns br lo hi idx = IsWithin (back_as 0 (batch_of ns) (take br lo)) (back_as 1 (batch_of ns) (take br hi)) (back (batch_of ns) (take br idx))

abbrev pub RegionOn : List ℕ → List ℕ → ℕ → ℕ → Type 0
RegionOn lo hi k n = (get_or lo k 0 ≤ get_or hi k 0) × (get_or hi k 0 ≤ n)

abbrev pub WithinOn : List ℕ → List ℕ → List ℕ → ℕ → Type 0
WithinOn lo hi idx k = (get_or lo k 0 ≤ get_or idx k 0) × (get_or idx k 0 < get_or hi k 0)

pub left_region : (a b lo hi : List ℕ) (x y : ℕ) → 1 ≤ length a → (2 ≤ length a → BatchRegion a (batch_rank a b) lo hi)
    → (2 ≤ length a → RegionOn lo hi (batch_rank a b) (get_or a (length a - 2) 0)) → (x ≤ y) × (y ≤ left_inner a) → IsRegion a (left_numbers 0 a b lo x) (left_numbers 1 a b hi y)
left_region a b lo hi x y one batch row inner =
    let br = batch_rank a b in
    elim (leb_tells 2 (length a)) [
      | inl t ↦ rw t.0 (subst (λ (ns : List ℕ). IsRegion ns (back_as 0 (batch_of a) (take br lo) ++ get_or lo br 0 ∷ x ∷ []) (back_as 1 (batch_of a) (take br hi) ++ get_or hi br 0 ∷ y ∷ [])) (sym (matrix_axes a t.1))
          (two_region (batch_of a) (back_as 0 (batch_of a) (take br lo)) (back_as 1 (batch_of a) (take br hi)) (get_or a (length a - 2) 0) (get_or lo br 0) (get_or hi br 0) (left_inner a) x y (batch t.1) (row t.1) inner))
      | inr t ↦ rw t.0 (subst (λ (ns : List ℕ). IsRegion ns (x ∷ []) (y ∷ [])) (sym (vector_axis a one t.1)) (inner.0, inner.1, tt))
    ]

pub right_region : (a b lo hi : List ℕ) (x y : ℕ) → 1 ≤ length b → (2 ≤ length b → BatchRegion b (batch_rank a b) lo hi)
    → (2 ≤ length b → RegionOn lo hi (batch_rank a b + outer_axes a) (get_or b (length b - 1) 0)) → (x ≤ y) × (y ≤ right_inner b) → IsRegion b (right_numbers 0 a b lo x) (right_numbers 1 a b hi y)
right_region a b lo hi x y one batch column inner =
    let br = batch_rank a b in
    let at = br + outer_axes a in
    elim (leb_tells 2 (length b)) [
      | inl t ↦
          let within : (x ≤ y) × (y ≤ get_or b (length b - 2) 0) = rw t.0 at inner in
          rw t.0 (subst (λ (ns : List ℕ). IsRegion ns (back_as 0 (batch_of b) (take br lo) ++ x ∷ get_or lo at 0 ∷ []) (back_as 1 (batch_of b) (take br hi) ++ y ∷ get_or hi at 0 ∷ [])) (sym (matrix_axes b t.1))
          (two_region (batch_of b) (back_as 0 (batch_of b) (take br lo)) (back_as 1 (batch_of b) (take br hi)) (get_or b (length b - 2) 0) x y (get_or b (length b - 1) 0) (get_or lo at 0) (get_or hi at 0) (batch t.1) within (column t.1)))
      | inr t ↦
          let within : (x ≤ y) × (y ≤ get_or b 0 0) = rw t.0 at inner in
          rw t.0 (subst (λ (ns : List ℕ). IsRegion ns (x ∷ []) (y ∷ [])) (sym (vector_first b one t.1)) (within.0, within.1, tt))
    ]

-- the indices that are read
where_true : (t : Bool) (xs ys zs : List ℕ) → (t ≡ true → xs ≡ ys) → (if t then xs else zs) ≡ (if t then ys else zs)
where_true true xs ys zs h = h refl
where_true false xs ys zs h = refl

two_axes : (n : ℕ) → nat_le 2 n ≡ true → 2 ≤ n
two_axes n h = elim (leb_tells 2 n) [ inl t ↦ t.1 | inr t ↦ let f = t.0 in absurd (let e : true ≡ false = sym h ∙ f in cc) ]

batch_axes_at : (a b idx : List ℕ) → product_rank a b ≤ length idx → length (product_index a b idx) - (outer_axes a + outer_axes b) ≡ batch_rank a b
batch_axes_at a b idx h =
    let n : length (product_index a b idx) ≡ product_rank a b = length-take-le (product_rank a b) idx h in
    let e : product_rank a b ≡ batch_rank a b + (outer_axes a + outer_axes b) = refl in
    omega (arith, n, e)

pub left_index_at : (a b idx : List ℕ) (k : ℕ) → product_rank a b ≤ length idx
    → left_index a b (product_index a b idx) k ≡ (if nat_le 2 (length a) then back (batch_of a) (take (batch_rank a b) idx) ++ get_or idx (batch_rank a b) 0 ∷ k ∷ [] else k ∷ [])
left_index_at a b idx k h =
    let br = batch_rank a b in
    let taken = product_index a b idx in
    let same : take br taken ≡ take br idx = take-take br (product_rank a b) idx (omega arith) in
    let e = batch_axes_at a b idx h in
    let moved : left_index a b taken k ≡ (if nat_le 2 (length a) then back (batch_of a) (take br taken) ++ get_or taken br 0 ∷ k ∷ [] else k ∷ []) =
    ap (λ n. if nat_le 2 (length a) then back (batch_of a) (take n taken) ++ get_or taken n 0 ∷ k ∷ [] else k ∷ []) e in
    moved ∙ where_true (nat_le 2 (length a)) _ _ (k ∷ []) (λ t.
    let one = outer_one a (two_axes (length a) t) in
    let own : get_or taken br 0 ≡ get_or idx br 0 = get_or-take (product_rank a b) idx br 0 (omega (arith, one)) in
    ap (λ (is : List ℕ). back (batch_of a) is ++ get_or taken br 0 ∷ k ∷ []) same ∙ ap (λ i. back (batch_of a) (take br idx) ++ i ∷ k ∷ []) own)

pub right_index_at : (a b idx : List ℕ) (k : ℕ) → product_rank a b ≤ length idx
    → right_index a b (product_index a b idx) k ≡ (if nat_le 2 (length b) then back (batch_of b) (take (batch_rank a b) idx) ++ k ∷ get_or idx (batch_rank a b + outer_axes a) 0 ∷ [] else k ∷ [])
right_index_at a b idx k h =
    let br = batch_rank a b in
    let taken = product_index a b idx in
    let same : take br taken ≡ take br idx = take-take br (product_rank a b) idx (omega arith) in
    let e = batch_axes_at a b idx h in
    let moved : right_index a b taken k ≡ (if nat_le 2 (length b) then back (batch_of b) (take br taken) ++ k ∷ get_or taken (br + outer_axes a) 0 ∷ [] else k ∷ []) =
    ap (λ n. if nat_le 2 (length b) then back (batch_of b) (take n taken) ++ k ∷ get_or taken (n + outer_axes a) 0 ∷ [] else k ∷ []) e in
    moved ∙ where_true (nat_le 2 (length b)) _ _ (k ∷ []) (λ t.
    let one = outer_one b (two_axes (length b) t) in
    let own : get_or taken (br + outer_axes a) 0 ≡ get_or idx (br + outer_axes a) 0 = get_or-take (product_rank a b) idx (br + outer_axes a) 0 (omega (arith, one)) in
    ap (λ (is : List ℕ). back (batch_of b) is ++ k ∷ get_or taken (br + outer_axes a) 0 ∷ []) same ∙ ap (λ i. back (batch_of b) (take br idx) ++ k ∷ i ∷ []) own)

pub left_within : (a b lo hi idx : List ℕ) (x y k : ℕ) → product_rank a b ≤ length idx → (2 ≤ length a → BatchWithin a (batch_rank a b) lo hi idx)
    → (2 ≤ length a → WithinOn lo hi idx (batch_rank a b)) → (x ≤ k) × (k < y) → IsWithin (left_numbers 0 a b lo x) (left_numbers 1 a b hi y) (left_index a b (product_index a b idx) k)
left_within a b lo hi idx x y k axes batch row inner =
    let br = batch_rank a b in
    subst (λ (is : List ℕ). IsWithin (left_numbers 0 a b lo x) (left_numbers 1 a b hi y) is) (sym (left_index_at a b idx k axes)) (elim (leb_tells 2 (length a)) [
      | inl t ↦ rw t.0 (two_within (back_as 0 (batch_of a) (take br lo)) (back_as 1 (batch_of a) (take br hi)) (back (batch_of a) (take br idx)) (get_or lo br 0) (get_or hi br 0) (get_or idx br 0) x y k (batch t.1) (row t.1) inner)
      | inr t ↦ rw t.0 (inner.0, inner.1, tt)
    ])

pub right_within : (a b lo hi idx : List ℕ) (x y k : ℕ) → product_rank a b ≤ length idx → (2 ≤ length b → BatchWithin b (batch_rank a b) lo hi idx)
    → (2 ≤ length b → WithinOn lo hi idx (batch_rank a b + outer_axes a)) → (x ≤ k) × (k < y) → IsWithin (right_numbers 0 a b lo x) (right_numbers 1 a b hi y) (right_index a b (product_index a b idx) k)
right_within a b lo hi idx x y k axes batch column inner =
    let br = batch_rank a b in
    let at = br + outer_axes a in
    subst (λ (is : List ℕ). IsWithin (right_numbers 0 a b lo x) (right_numbers 1 a b hi y) is) (sym (right_index_at a b idx k axes)) (elim (leb_tells 2 (length b)) [
      | inl t ↦ rw t.0 (two_within (back_as 0 (batch_of b) (take br lo)) (back_as 1 (batch_of b) (take br hi)) (back (batch_of b) (take br idx)) x y k (get_or lo at 0) (get_or hi at 0) (get_or idx at 0) (batch t.1) inner (column t.1))
      | inr t ↦ rw t.0 (inner.0, inner.1, tt)
    ])

-- ---- operands of which a region is one chunk

abbrev pub BatchSpan : List ℕ → List ℕ → ℕ → List ℕ → List ℕ → Type 0
BatchSpan ns cs br lo hi = IsSpan (batch_of ns) (batch_of cs) (back_as 0 (batch_of ns) (take br lo)) (back_as 1 (batch_of ns) (take br hi))

pub left_spans : (a b ca lo hi : List ℕ) (x y : ℕ) → 1 ≤ length a → length ca ≡ length a → (2 ≤ length a → BatchSpan a ca (batch_rank a b) lo hi)
    → (2 ≤ length a → IsSpanOn (get_or a (length a - 2) 0) (get_or ca (length ca - 2) 0) (get_or lo (batch_rank a b) 0) (get_or hi (batch_rank a b) 0))
    → IsSpanOn (left_inner a) (left_inner ca) x y → IsSpan a ca (left_numbers 0 a b lo x) (left_numbers 1 a b hi y)
left_spans a b ca lo hi x y one e batch row inner =
    let br = batch_rank a b in
    elim (leb_tells 2 (length a)) [
      | inl t ↦
          let two : 2 ≤ length ca = (let l = t.1 in omega (arith, e, l)) in
          rw t.0 (subst (λ (ns : List ℕ). IsSpan ns ca (back_as 0 (batch_of a) (take br lo) ++ get_or lo br 0 ∷ x ∷ []) (back_as 1 (batch_of a) (take br hi) ++ get_or hi br 0 ∷ y ∷ [])) (sym (matrix_axes a t.1))
          (subst (λ (cs : List ℕ). IsSpan (batch_of a ++ get_or a (length a - 2) 0 ∷ left_inner a ∷ []) cs (back_as 0 (batch_of a) (take br lo) ++ get_or lo br 0 ∷ x ∷ []) (back_as 1 (batch_of a) (take br hi) ++ get_or hi br 0 ∷ y ∷ [])) (sym (matrix_axes ca two))
          (two_span (batch_of a) (batch_of ca) (back_as 0 (batch_of a) (take br lo)) (back_as 1 (batch_of a) (take br hi)) (get_or a (length a - 2) 0) (get_or ca (length ca - 2) 0) (get_or lo br 0) (get_or hi br 0) (left_inner a) (left_inner ca) x y (batch t.1) (row t.1) inner)))
      | inr t ↦
          let l = t.1 in
          rw t.0 (subst (λ (ns : List ℕ). IsSpan ns ca (x ∷ []) (y ∷ [])) (sym (vector_axis a one l)) (subst (λ (cs : List ℕ). IsSpan (left_inner a ∷ []) cs (x ∷ []) (y ∷ [])) (sym (vector_axis ca (omega (arith, e, one)) (omega (arith, e, l)))) (inner, tt)))
    ]

matrix_inner : (ns : List ℕ) → 2 ≤ length ns → right_inner ns ≡ get_or ns (length ns - 2) 0
matrix_inner ns h = elim (leb_tells 2 (length ns)) [ inl t ↦ rw t.0 refl | inr t ↦ absurd (let l = t.1 in omega (arith, l, h)) ]

vector_inner : (ns : List ℕ) → length ns < 2 → right_inner ns ≡ get_or ns 0 0
vector_inner ns h = elim (leb_tells 2 (length ns)) [ inl t ↦ absurd (let l = t.1 in omega (arith, l, h)) | inr t ↦ rw t.0 refl ]

pub right_spans : (a b cb lo hi : List ℕ) (x y : ℕ) → 1 ≤ length b → length cb ≡ length b → (2 ≤ length b → BatchSpan b cb (batch_rank a b) lo hi)
    → (2 ≤ length b → IsSpanOn (get_or b (length b - 1) 0) (get_or cb (length cb - 1) 0) (get_or lo (batch_rank a b + outer_axes a) 0) (get_or hi (batch_rank a b + outer_axes a) 0))
    → IsSpanOn (right_inner b) (right_inner cb) x y → IsSpan b cb (right_numbers 0 a b lo x) (right_numbers 1 a b hi y)
right_spans a b cb lo hi x y one e batch column inner =
    let br = batch_rank a b in
    let k = br + outer_axes a in
    elim (leb_tells 2 (length b)) [
      | inl t ↦
          let two : 2 ≤ length cb = (let l = t.1 in omega (arith, e, l)) in
          let own : IsSpanOn (get_or b (length b - 2) 0) (get_or cb (length cb - 2) 0) x y = subst (λ (m : ℕ). IsSpanOn m (get_or cb (length cb - 2) 0) x y) (matrix_inner b t.1) (subst (λ (d : ℕ). IsSpanOn (right_inner b) d x y) (matrix_inner cb two) inner) in
          rw t.0 (subst (λ (ns : List ℕ). IsSpan ns cb (back_as 0 (batch_of b) (take br lo) ++ x ∷ get_or lo k 0 ∷ []) (back_as 1 (batch_of b) (take br hi) ++ y ∷ get_or hi k 0 ∷ [])) (sym (matrix_axes b t.1))
          (subst (λ (cs : List ℕ). IsSpan (batch_of b ++ get_or b (length b - 2) 0 ∷ get_or b (length b - 1) 0 ∷ []) cs (back_as 0 (batch_of b) (take br lo) ++ x ∷ get_or lo k 0 ∷ []) (back_as 1 (batch_of b) (take br hi) ++ y ∷ get_or hi k 0 ∷ [])) (sym (matrix_axes cb two))
          (two_span (batch_of b) (batch_of cb) (back_as 0 (batch_of b) (take br lo)) (back_as 1 (batch_of b) (take br hi)) (get_or b (length b - 2) 0) (get_or cb (length cb - 2) 0) x y (get_or b (length b - 1) 0) (get_or cb (length cb - 1) 0) (get_or lo k 0) (get_or hi k 0) (batch t.1) own (column t.1))))
      | inr t ↦
          let l = t.1 in
          let few : length cb < 2 = omega (arith, e, l) in
          let own : IsSpanOn (get_or b 0 0) (get_or cb 0 0) x y = subst (λ (m : ℕ). IsSpanOn m (get_or cb 0 0) x y) (vector_inner b l) (subst (λ (d : ℕ). IsSpanOn (right_inner b) d x y) (vector_inner cb few) inner) in
          rw t.0 (subst (λ (ns : List ℕ). IsSpan ns cb (x ∷ []) (y ∷ [])) (sym (vector_first b one l)) (subst (λ (cs : List ℕ). IsSpan (get_or b 0 0 ∷ []) cs (x ∷ []) (y ∷ [])) (sym (vector_first cb (omega (arith, e, one)) few)) (own, tt)))
    ]
