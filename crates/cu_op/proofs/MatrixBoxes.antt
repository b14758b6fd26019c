-- Where the operands' chunks begin from which a chunk of a product of matrices is computed.
use Rattle.std.proofs.Common.{◌≡◌, ◌≢◌, ◌⊎◌, inl, inr, ℕ, zero, suc, ◌<◌, ◌≤◌, ◌+◌, ◌-◌, ◌*◌, ◌==◌, List, [], ◌∷◌, ◌++◌, length, take, drop, get_or, refl, ap, sym, ◌∙◌, subst, arith, if◌then◌else◌}
use Rattle.std.proofs.lemmas.Bool.Decides.{eqb_tells, leb_tells}
use Rattle.std.proofs.lemmas.List.{length-append, length-drop}
use Rattle.cu_shape.specs.Index.{axis_by_axis, back, back_along, products}
use Rattle.cu_shape.proofs.Axes.{length-axis_by_axis}
use Rattle.cu_grid.specs.Grid.{RegularGrid}
use Rattle.cu_reduce.specs.Products.{batch_of, outer_axes, left_index, right_index}
use Rattle.cu_op.specs.Broadcast.{back_as}
use Rattle.cu_op.specs.Matrix.{batch_rank, product_rank, left_inner, right_inner, product_index, left_numbers, right_numbers}
use Rattle.cu_op.specs.Aligned.{IsAlignedAlong, IsAligned}
use Rattle.cu_op.proofs.Broadcasting.{axes_drop}
use Rattle.cu_op.proofs.MatrixRegions.{matrix_axes, vector_axis, vector_first, left_index_at, right_index_at}

cons_same : (x y : ℕ) (xs ys : List ℕ) → x ≡ y → xs ≡ ys → x ∷ xs ≡ y ∷ ys
cons_same x y xs ys e f = cc

-- ---- the batch

back_times : (n c m d i : ℕ) → ((n ≡ m) × (c ≡ d)) ⊎ ((n ≡ 1) × (m ≢ 1)) → (if n == 1 then 0 else i * d) ≡ (if n == 1 then 0 else i) * c
back_times n c m d i a = elim (eqb_tells n 1) [
  | inl t ↦ rw t.0 (omega arith)
  | inr t ↦ rw t.0 (elim a [ inl same ↦ ap (λ x. i * x) (sym same.1) | inr s ↦ absurd (t.1 s.0) ])
]

times_along : (ns cs ms ds is : List ℕ) → IsAlignedAlong ns cs ms ds → length is ≡ length ms → axis_by_axis (λ n i. if n == 1 then 0 else i) ns (products is ds) ≡ products (back_along ns is) cs
times_along [] [] [] [] [] a e = refl
times_along (n ∷ ns) (c ∷ cs) (m ∷ ms) (d ∷ ds) (i ∷ is) a e = cons_same _ _ _ _ (back_times n c m d i a.0) (times_along ns cs ms ds is a.1 (omega arith))
times_along ns cs ms ds is a e = absurd (first_of (assumption, omega arith))

-- an aligned argument's chunk begins where the result's chunk is read
pub aligned_begins : (g r : RegularGrid) (is : List ℕ) → IsAligned g r → length r.chunk ≡ length r.shape → length is ≡ length r.shape
    → back_as 0 g.shape (products is r.chunk) ≡ products (back g.shape is) g.chunk
aligned_begins g r is al ranks long =
    let k = length r.shape - length g.shape in
    let n : length (products is r.chunk) ≡ length r.shape = length-axis_by_axis (λ i c. i * c) is r.chunk (long ∙ sym ranks) ∙ long in
    let cut : drop k (products is r.chunk) ≡ products (drop k is) (drop k r.chunk) = axes_drop (λ i c. i * c) k is r.chunk (long ∙ sym ranks) in
    let F : ℕ → List ℕ → List ℕ = λ m xs. axis_by_axis (λ x i. if x == 1 then 0 else i) g.shape (drop (m - length g.shape) xs) in
    let B : ℕ → List ℕ = λ m. products (back_along g.shape (drop (m - length g.shape) is)) g.chunk in
    let short : length (drop k is) ≡ length (drop k r.shape) = (let p = length-drop k is in let q = length-drop k r.shape in omega (arith, p, q, long)) in
    ap (λ m. F m (products is r.chunk)) n
    ∙ ap (axis_by_axis (λ x i. if x == 1 then 0 else i) g.shape) cut
    ∙ times_along g.shape g.chunk (drop k r.shape) (drop k r.chunk) (drop k is) al.axes short
    ∙ ap B (sym long)

pub take_products : (k : ℕ) (is cs : List ℕ) → take k (products is cs) ≡ products (take k is) (take k cs)
take_products zero is cs = refl
take_products (suc k) [] [] = refl
take_products (suc k) [] (c ∷ cs) = refl
take_products (suc k) (i ∷ is) [] = refl
take_products (suc k) (i ∷ is) (c ∷ cs) = ap (λ xs. i * c ∷ xs) (take_products k is cs)

pub long_back : (shape idx : List ℕ) → length shape ≤ length idx → length (back shape idx) ≡ length shape
long_back shape idx h = along shape (drop (length idx - length shape) idx) (let n = length-drop (length idx - length shape) idx in omega (arith, n, h))
  where
    along : (ns is : List ℕ) → length is ≡ length ns → length (back_along ns is) ≡ length ns
    along [] is e = refl
    along (n ∷ ns) [] e = absurd (omega arith)
    along (n ∷ ns) (i ∷ is) e = ap suc (along ns is (omega arith))

-- ---- two more axes

two_times : (xs ys : List ℕ) (u v p q : ℕ) → length xs ≡ length ys → products (xs ++ u ∷ v ∷ []) (ys ++ p ∷ q ∷ []) ≡ products xs ys ++ u * p ∷ v * q ∷ []
two_times [] [] u v p q e = refl
two_times (x ∷ xs) (y ∷ ys) u v p q e = ap (λ zs. x * y ∷ zs) (two_times xs ys u v p q (omega arith))
two_times xs ys u v p q e = absurd (omega arith)

-- the batch's coordinates of an operand
abbrev pub BatchBegins : List ℕ → List ℕ → ℕ → List ℕ → List ℕ → Type 0
BatchBegins ns cs br lo c = (back_as 0 (batch_of ns) (take br lo) ≡ products (back (batch_of ns) (take br c)) (batch_of cs)) × (length (back (batch_of ns) (take br c)) ≡ length (batch_of cs))

pub left_begins : (a b ca lo c : List ℕ) (x k : ℕ) → product_rank a b ≤ length c → 1 ≤ length a → length ca ≡ length a → (2 ≤ length a → BatchBegins a ca (batch_rank a b) lo c)
    → (2 ≤ length a → get_or lo (batch_rank a b) 0 ≡ get_or c (batch_rank a b) 0 * get_or ca (length ca - 2) 0) → x ≡ k * left_inner ca
    → left_numbers 0 a b lo x ≡ products (left_index a b (product_index a b c) k) ca
left_begins a b ca lo c x k axes one e batch row inner =
    let br = batch_rank a b in
    subst (λ (ws : List ℕ). left_numbers 0 a b lo x ≡ products ws ca) (sym (left_index_at a b c k axes)) (elim (leb_tells 2 (length a)) [
      | inl t ↦
          let two : 2 ≤ length ca = (let l = t.1 in omega (arith, e, l)) in
          let p = batch t.1 in
          let q = row t.1 in
          let ws : List ℕ = back (batch_of a) (take br c) ++ get_or c br 0 ∷ k ∷ [] in
          let last : get_or lo br 0 ∷ x ∷ [] ≡ get_or c br 0 * get_or ca (length ca - 2) 0 ∷ k * left_inner ca ∷ [] = cons_same _ _ _ _ q (ap (λ y. y ∷ []) inner) in
          let all : back_as 0 (batch_of a) (take br lo) ++ get_or lo br 0 ∷ x ∷ [] ≡ products ws ca =
          ap (λ ys. back_as 0 (batch_of a) (take br lo) ++ ys) last
          ∙ ap (λ xs. xs ++ get_or c br 0 * get_or ca (length ca - 2) 0 ∷ k * left_inner ca ∷ []) p.0
          ∙ sym (two_times (back (batch_of a) (take br c)) (batch_of ca) (get_or c br 0) k (get_or ca (length ca - 2) 0) (left_inner ca) p.1)
          ∙ ap (products ws) (sym (matrix_axes ca two)) in
          rw t.0 all
      | inr t ↦
          let l = t.1 in
          rw t.0 (ap (λ y. y ∷ []) inner ∙ ap (products (k ∷ [])) (sym (vector_axis ca (omega (arith, e, one)) (omega (arith, e, l)))))
    ])

-- an operand's index has a number for each of its axes
pub left_index_long : (a b c : List ℕ) (k : ℕ) → product_rank a b ≤ length c → 1 ≤ length a → (2 ≤ length a → length (back (batch_of a) (take (batch_rank a b) c)) ≡ length a - 2)
    → length (left_index a b (product_index a b c) k) ≡ length a
left_index_long a b c k axes one batch =
    let br = batch_rank a b in
    ap length (left_index_at a b c k axes) ∙ elim (leb_tells 2 (length a)) [
      | inl t ↦
          let n = length-append (back (batch_of a) (take br c)) (get_or c br 0 ∷ k ∷ []) in
          let m = batch t.1 in
          let l = t.1 in
          rw t.0 (omega (arith, n, m, l))
      | inr t ↦ let l = t.1 in rw t.0 (omega (arith, one, l))
    ]

pub right_index_long : (a b c : List ℕ) (k : ℕ) → product_rank a b ≤ length c → 1 ≤ length b → (2 ≤ length b → length (back (batch_of b) (take (batch_rank a b) c)) ≡ length b - 2)
    → length (right_index a b (product_index a b c) k) ≡ length b
right_index_long a b c k axes one batch =
    let br = batch_rank a b in
    ap length (right_index_at a b c k axes) ∙ elim (leb_tells 2 (length b)) [
      | inl t ↦
          let n = length-append (back (batch_of b) (take br c)) (k ∷ get_or c (br + outer_axes a) 0 ∷ []) in
          let m = batch t.1 in
          let l = t.1 in
          rw t.0 (omega (arith, n, m, l))
      | inr t ↦ let l = t.1 in rw t.0 (omega (arith, one, l))
    ]

matrix_inner : (ns : List ℕ) → 2 ≤ length ns → right_inner ns ≡ get_or ns (length ns - 2) 0
matrix_inner ns h = elim (leb_tells 2 (length ns)) [ inl t ↦ rw t.0 refl | inr t ↦ absurd (let l = t.1 in omega (arith, l, h)) ]

vector_inner : (ns : List ℕ) → length ns < 2 → right_inner ns ≡ get_or ns 0 0
vector_inner ns h = elim (leb_tells 2 (length ns)) [ inl t ↦ absurd (let l = t.1 in omega (arith, l, h)) | inr t ↦ rw t.0 refl ]

pub right_begins : (a b cb lo c : List ℕ) (x k : ℕ) → product_rank a b ≤ length c → 1 ≤ length b → length cb ≡ length b → (2 ≤ length b → BatchBegins b cb (batch_rank a b) lo c)
    → (2 ≤ length b → get_or lo (batch_rank a b + outer_axes a) 0 ≡ get_or c (batch_rank a b + outer_axes a) 0 * get_or cb (length cb - 1) 0) → x ≡ k * right_inner cb
    → right_numbers 0 a b lo x ≡ products (right_index a b (product_index a b c) k) cb
right_begins a b cb lo c x k axes one e batch column inner =
    let br = batch_rank a b in
    let at = br + outer_axes a in
    subst (λ (ws : List ℕ). right_numbers 0 a b lo x ≡ products ws cb) (sym (right_index_at a b c k axes)) (elim (leb_tells 2 (length b)) [
      | inl t ↦
          let two : 2 ≤ length cb = (let l = t.1 in omega (arith, e, l)) in
          let p = batch t.1 in
          let q = column t.1 in
          let ws : List ℕ = back (batch_of b) (take br c) ++ k ∷ get_or c at 0 ∷ [] in
          let first : x ≡ k * get_or cb (length cb - 2) 0 = inner ∙ ap (λ m. k * m) (matrix_inner cb two) in
          let last : x ∷ get_or lo at 0 ∷ [] ≡ k * get_or cb (length cb - 2) 0 ∷ get_or c at 0 * get_or cb (length cb - 1) 0 ∷ [] = cons_same _ _ _ _ first (ap (λ y. y ∷ []) q) in
          let all : back_as 0 (batch_of b) (take br lo) ++ x ∷ get_or lo at 0 ∷ [] ≡ products ws cb =
          ap (λ ys. back_as 0 (batch_of b) (take br lo) ++ ys) last
          ∙ ap (λ xs. xs ++ k * get_or cb (length cb - 2) 0 ∷ get_or c at 0 * get_or cb (length cb - 1) 0 ∷ []) p.0
          ∙ sym (two_times (back (batch_of b) (take br c)) (batch_of cb) k (get_or c at 0) (get_or cb (length cb - 2) 0) (get_or cb (length cb - 1) 0) p.1)
          ∙ ap (products ws) (sym (matrix_axes cb two)) in
          rw t.0 all
      | inr t ↦
          let l = t.1 in
          let few : length cb < 2 = omega (arith, e, l) in
          rw t.0 (ap (λ y. y ∷ []) (inner ∙ ap (λ m. k * m) (vector_inner cb few)) ∙ ap (products (k ∷ [])) (sym (vector_first cb (omega (arith, e, one)) few)))
    ])
