-- The element of a product of matrices that its steps make is the sum of the operator.
use Rattle.std.proofs.Common.{◌≡◌, ◌≢◌, ◌⊎◌, ℕ, zero, suc, ◌<◌, ◌≤◌, ◌+◌, ◌-◌, ◌==◌, nat_le, Bool, true, false, ℤ, ◌*ℤ◌, List, [], ◌∷◌, ◌++◌, Option, Some, length, map, get_or, take, drop, if◌then◌else◌, refl, ap, sym, ◌∙◌, subst, inl, inr, arith}
use Rattle.std.specs.Prelude.{option_map}
use Rattle.std.specs.List.{range_with_len}
use Rattle.std.proofs.Math.Seq.{get_or-append_seam}
use Rattle.std.proofs.lemmas.Bool.{leb-true, leb-false}
use Rattle.std.proofs.lemmas.Bool.Decides.{eqb_tells}
use Rattle.std.proofs.lemmas.List.{length-append, append_assoc}
use Rattle.cu_num.specs.Wrap.{wrapped}
use Rattle.cu_num.specs.declared.folds.FoldKind.TheVariants.{Sum}
use Rattle.cu_shape.specs.Index.{IsInside, back, back_along}
use Rattle.cu_shape.proofs.Places.{inside-length}
use Rattle.cu_grid.specs.Grid.{RegularGrid}
use Rattle.cu_grid.proofs.Regions.{inside-at}
use Rattle.cu_reduce.specs.Folds.{all_some, reduced_to, exact_sum}
use Rattle.cu_reduce.specs.Products.{batch_of, outer_axes, batch_axes, left_index, right_index}
use Rattle.cu_op.specs.Matrix.{rows_of, columns_of, left_inner, right_inner, batch_grid, product_at}
use Rattle.cu_op.specs.Aligned.{IsAlignedAlong, IsAligned}
use Rattle.cu_semantics.specs.Matmul.{matmul_at}
use Rattle.cu_lower_reduce.specs.Products.{inner_products, IsProduct}
use Rattle.cu_lower_reduce.specs.Steps.{grid_of}
use Rattle.cu_lower_reduce.specs.declared.product.Product.{Product}

-- ---- indices of parts of an array

inside_drop : (k : ℕ) (ds is : List ℕ) → IsInside ds is → IsInside (drop k ds) (drop k is)
inside_drop zero ds is h = h
inside_drop (suc k) [] [] h = tt
inside_drop (suc k) (d ∷ ds) (i ∷ is) h = inside_drop k ds is h.1
inside_drop (suc k) ds is h = absurd h

inside_take : (xs ys is : List ℕ) → IsInside (xs ++ ys) is → IsInside xs (take (length xs) is)
inside_take [] ys is h = tt
inside_take (x ∷ xs) ys [] h = absurd h
inside_take (x ∷ xs) ys (i ∷ is) h = (h.0, inside_take xs ys is h.1)

inside_pair : (ns is : List ℕ) (m n i j : ℕ) → IsInside ns is → i < m → j < n → IsInside (ns ++ m ∷ n ∷ []) (is ++ i ∷ j ∷ [])
inside_pair [] [] m n i j h p q = (p, (q, tt))
inside_pair (d ∷ ns) (x ∷ is) m n i j h p q = (h.0, inside_pair ns is m n i j h.1 p q)
inside_pair ns is m n i j h p q = absurd h

-- an index that is read through broadcasting
inside_along : (ns cs ms ds is : List ℕ) → IsAlignedAlong ns cs ms ds → IsInside ms is → IsInside ns (back_along ns is)
inside_along [] [] [] [] [] a h = tt
inside_along [] [] [] [] (i ∷ is) a h = absurd h
inside_along (n ∷ ns) (c ∷ cs) (m ∷ ms) (d ∷ ds) [] a h = absurd h
inside_along (n ∷ ns) (c ∷ cs) (m ∷ ms) (d ∷ ds) (i ∷ is) a h = (here n c m d i a.0 h.0, inside_along ns cs ms ds is a.1 h.1)
  where
    here : (n c m d i : ℕ) → ((n ≡ m) × (c ≡ d)) ⊎ ((n ≡ 1) × (m ≢ 1)) → i < m → (if n == 1 then 0 else i) < n
    here n c m d i e l = elim (eqb_tells n 1) [ inl p ↦ let one = p.1 in rw p.0 (omega arith) | inr p ↦ rw p.0 (other e p.1) ]
      where
        other : ((n ≡ m) × (c ≡ d)) ⊎ ((n ≡ 1) × (m ≢ 1)) → n ≢ 1 → i < n
        other (inl e) q = let s = e.0 in omega arith
        other (inr e) q = absurd (q e.0)
inside_along ns cs ms ds is a h = absurd a

pub inside_back : (g r : RegularGrid) (is : List ℕ) → IsAligned g r → IsInside r.shape is → IsInside g.shape (back g.shape is)
inside_back g r is a h =
    let e : length r.shape - length g.shape ≡ length is - length g.shape = (let l = inside-length r.shape is h in omega (arith, l)) in
    subst (λ (k : ℕ). IsInside g.shape (back_along g.shape (drop k is))) e
    (inside_along g.shape g.chunk (drop (length r.shape - length g.shape) r.shape) (drop (length r.shape - length g.shape) r.chunk) (drop (length r.shape - length g.shape) is) a.axes
    (inside_drop (length r.shape - length g.shape) r.shape is h))

-- ---- the shape of an operand

pub last_two : (ns : List ℕ) → 2 ≤ length ns → ns ≡ take (length ns - 2) ns ++ get_or ns (length ns - 2) 0 ∷ get_or ns (length ns - 1) 0 ∷ []
last_two [] h = absurd (omega arith)
last_two (x ∷ []) h = absurd (omega arith)
last_two (x ∷ y ∷ []) h = refl
last_two (x ∷ y ∷ z ∷ ns) h =
    let e : length (x ∷ y ∷ z ∷ ns) - 2 ≡ suc (length (y ∷ z ∷ ns) - 2) = omega arith in
    let f : length (x ∷ y ∷ z ∷ ns) - 1 ≡ suc (length (y ∷ z ∷ ns) - 1) = omega arith in
    ap (λ (is : List ℕ). x ∷ is) (last_two (y ∷ z ∷ ns) (omega arith))
    ∙ (λ j. take (sym e j) (x ∷ y ∷ z ∷ ns) ++ get_or (x ∷ y ∷ z ∷ ns) (sym e j) 0 ∷ get_or (x ∷ y ∷ z ∷ ns) (sym f j) 0 ∷ [])

pub only_one : (ns : List ℕ) → 1 ≤ length ns → length ns < 2 → ns ≡ get_or ns (length ns - 1) 0 ∷ []
only_one [] h l = absurd (omega arith)
only_one (x ∷ []) h l = refl
only_one (x ∷ y ∷ ns) h l = absurd (omega arith)

outer_length : (ns : List ℕ) → (length (rows_of ns) ≡ outer_axes ns) × (length (columns_of ns) ≡ outer_axes ns)
outer_length ns = by_test (nat_le 2 (length ns)) refl
  where
    by_test : (b : Bool) → nat_le 2 (length ns) ≡ b → (length (rows_of ns) ≡ outer_axes ns) × (length (columns_of ns) ≡ outer_axes ns)
    by_test true e = rw e (refl, refl)
    by_test false e = rw e (refl, refl)

-- ---- the indices of the operands

module _ (x : Product) (h : IsProduct x) (idx : List ℕ) (inside : IsInside x.made.dims idx) where
  laid : IsInside (h.sizes ++ rows_of x.left_info.dims ++ columns_of x.right_info.dims) idx
  laid = subst (λ (ns : List ℕ). IsInside ns idx) h.shape inside

  count : batch_axes x.left_info.dims x.right_info.dims idx ≡ length h.sizes
  count =
      let n = inside-length (h.sizes ++ rows_of x.left_info.dims ++ columns_of x.right_info.dims) idx laid in
      let a = length-append (h.sizes ++ rows_of x.left_info.dims) (columns_of x.right_info.dims) in
      let b = length-append h.sizes (rows_of x.left_info.dims) in
      let r = (outer_length x.left_info.dims).0 in
      let c = (outer_length x.right_info.dims).1 in
      omega (arith, n, a, b, r, c)

  batch_inside : IsInside h.sizes (take (batch_axes x.left_info.dims x.right_info.dims idx) idx)
  batch_inside =
      subst (λ (k : ℕ). IsInside h.sizes (take k idx)) (sym count)
      (inside_take h.sizes (rows_of x.left_info.dims ++ columns_of x.right_info.dims) idx (subst (λ (ns : List ℕ). IsInside ns idx) (append_assoc h.sizes (rows_of x.left_info.dims) (columns_of x.right_info.dims)) laid))

  row_below : nat_le 2 (length x.left_info.dims) ≡ true → get_or idx (batch_axes x.left_info.dims x.right_info.dims idx) 0 < get_or x.left_info.dims (length x.left_info.dims - 2) 0
  row_below t =
      let rows : rows_of x.left_info.dims ≡ get_or x.left_info.dims (length x.left_info.dims - 2) 0 ∷ [] = rw t refl in
      let place : get_or (h.sizes ++ rows_of x.left_info.dims ++ columns_of x.right_info.dims) (length h.sizes) 0 ≡ get_or x.left_info.dims (length x.left_info.dims - 2) 0 =
      (λ j. get_or (h.sizes ++ rows j ++ columns_of x.right_info.dims) (length h.sizes) 0)
      ∙ ap (λ (ns : List ℕ). get_or ns (length h.sizes) 0) (append_assoc h.sizes (get_or x.left_info.dims (length x.left_info.dims - 2) 0 ∷ []) (columns_of x.right_info.dims))
      ∙ get_or-append_seam h.sizes (get_or x.left_info.dims (length x.left_info.dims - 2) 0) (columns_of x.right_info.dims) 0 in
      let a = length-append (h.sizes ++ rows_of x.left_info.dims) (columns_of x.right_info.dims) in
      let b = length-append h.sizes (rows_of x.left_info.dims) in
      let one = ap length rows in
      let l = inside-at (h.sizes ++ rows_of x.left_info.dims ++ columns_of x.right_info.dims) idx (length h.sizes) laid (omega (arith, a, b, one)) in
      subst (λ (k : ℕ). get_or idx k 0 < get_or x.left_info.dims (length x.left_info.dims - 2) 0) (sym count) (omega (arith, l, place))

  column_below : nat_le 2 (length x.right_info.dims) ≡ true → get_or idx (batch_axes x.left_info.dims x.right_info.dims idx + outer_axes x.left_info.dims) 0 < get_or x.right_info.dims (length x.right_info.dims - 1) 0
  column_below t =
      let columns : columns_of x.right_info.dims ≡ get_or x.right_info.dims (length x.right_info.dims - 1) 0 ∷ [] = rw t refl in
      let place : get_or (h.sizes ++ rows_of x.left_info.dims ++ columns_of x.right_info.dims) (length (h.sizes ++ rows_of x.left_info.dims)) 0 ≡ get_or x.right_info.dims (length x.right_info.dims - 1) 0 =
      (λ j. get_or (h.sizes ++ rows_of x.left_info.dims ++ columns j) (length (h.sizes ++ rows_of x.left_info.dims)) 0)
      ∙ get_or-append_seam (h.sizes ++ rows_of x.left_info.dims) (get_or x.right_info.dims (length x.right_info.dims - 1) 0) [] 0 in
      let a = length-append (h.sizes ++ rows_of x.left_info.dims) (columns_of x.right_info.dims) in
      let b = length-append h.sizes (rows_of x.left_info.dims) in
      let r = (outer_length x.left_info.dims).0 in
      let one = ap length columns in
      let l = inside-at (h.sizes ++ rows_of x.left_info.dims ++ columns_of x.right_info.dims) idx (length (h.sizes ++ rows_of x.left_info.dims)) laid (omega (arith, a, one)) in
      let n : length (h.sizes ++ rows_of x.left_info.dims) ≡ batch_axes x.left_info.dims x.right_info.dims idx + outer_axes x.left_info.dims = (let c = count in omega (arith, b, r, c)) in
      subst (λ (k : ℕ). get_or idx k 0 < get_or x.right_info.dims (length x.right_info.dims - 1) 0) n (omega (arith, l, place))

  pub left_inside : (k : ℕ) → k < left_inner x.left_info.dims → IsInside x.left_info.dims (left_index x.left_info.dims x.right_info.dims idx k)
  left_inside k l = by_test (nat_le 2 (length x.left_info.dims)) refl
    where
      by_test : (b : Bool) → nat_le 2 (length x.left_info.dims) ≡ b → IsInside x.left_info.dims (left_index x.left_info.dims x.right_info.dims idx k)
      by_test true t =
          let index : left_index x.left_info.dims x.right_info.dims idx k
          ≡ back (batch_of x.left_info.dims) (take (batch_axes x.left_info.dims x.right_info.dims idx) idx) ++ get_or idx (batch_axes x.left_info.dims x.right_info.dims idx) 0 ∷ k ∷ [] = rw t refl in
          subst (IsInside x.left_info.dims) (sym index)
          (subst (λ (ns : List ℕ). IsInside ns (back (batch_of x.left_info.dims) (take (batch_axes x.left_info.dims x.right_info.dims idx) idx) ++ get_or idx (batch_axes x.left_info.dims x.right_info.dims idx) 0 ∷ k ∷ []))
          (sym (last_two x.left_info.dims (leb-true 2 (length x.left_info.dims) t)))
          (inside_pair (batch_of x.left_info.dims) (back (batch_of x.left_info.dims) (take (batch_axes x.left_info.dims x.right_info.dims idx) idx)) (get_or x.left_info.dims (length x.left_info.dims - 2) 0) (get_or x.left_info.dims (length x.left_info.dims - 1) 0) _ k
          (inside_back (batch_grid (grid_of x.left_info)) (record { shape = h.sizes; chunk = h.chunks }) _ h.left_batch batch_inside) (row_below t) l))
      by_test false t =
          let index : left_index x.left_info.dims x.right_info.dims idx k ≡ k ∷ [] = rw t refl in
          let few = leb-false 2 (length x.left_info.dims) t in
          let own : IsInside (get_or x.left_info.dims (length x.left_info.dims - 1) 0 ∷ []) (k ∷ []) = (l, tt) in
          subst (IsInside x.left_info.dims) (sym index) (subst (λ (ns : List ℕ). IsInside ns (k ∷ [])) (sym (only_one x.left_info.dims h.left_rank (omega (arith, few)))) own)

  pub right_inside : (k : ℕ) → k < left_inner x.left_info.dims → IsInside x.right_info.dims (right_index x.left_info.dims x.right_info.dims idx k)
  right_inside k l = by_test (nat_le 2 (length x.right_info.dims)) refl
    where
      by_test : (b : Bool) → nat_le 2 (length x.right_info.dims) ≡ b → IsInside x.right_info.dims (right_index x.left_info.dims x.right_info.dims idx k)
      by_test true t =
          let index : right_index x.left_info.dims x.right_info.dims idx k
          ≡ back (batch_of x.right_info.dims) (take (batch_axes x.left_info.dims x.right_info.dims idx) idx) ++ k ∷ get_or idx (batch_axes x.left_info.dims x.right_info.dims idx + outer_axes x.left_info.dims) 0 ∷ [] = rw t refl in
          let inner : right_inner x.right_info.dims ≡ get_or x.right_info.dims (length x.right_info.dims - 2) 0 = rw t refl in
          let same = h.inner in
          subst (IsInside x.right_info.dims) (sym index)
          (subst (λ (ns : List ℕ). IsInside ns (back (batch_of x.right_info.dims) (take (batch_axes x.left_info.dims x.right_info.dims idx) idx) ++ k ∷ get_or idx (batch_axes x.left_info.dims x.right_info.dims idx + outer_axes x.left_info.dims) 0 ∷ []))
          (sym (last_two x.right_info.dims (leb-true 2 (length x.right_info.dims) t)))
          (inside_pair (batch_of x.right_info.dims) (back (batch_of x.right_info.dims) (take (batch_axes x.left_info.dims x.right_info.dims idx) idx)) (get_or x.right_info.dims (length x.right_info.dims - 2) 0) (get_or x.right_info.dims (length x.right_info.dims - 1) 0) k _
          (inside_back (batch_grid (grid_of x.right_info)) (record { shape = h.sizes; chunk = h.chunks }) _ h.right_batch batch_inside) (omega (arith, l, inner, same)) (column_below t)))
      by_test false t =
          let index : right_index x.left_info.dims x.right_info.dims idx k ≡ k ∷ [] = rw t refl in
          let inner : right_inner x.right_info.dims ≡ get_or x.right_info.dims 0 0 = rw t refl in
          let same = h.inner in
          let few = leb-false 2 (length x.right_info.dims) t in
          let z : length x.right_info.dims - 1 ≡ 0 = (let r = h.right_rank in omega (arith, few, r)) in
          let first : get_or x.right_info.dims (length x.right_info.dims - 1) 0 ≡ get_or x.right_info.dims 0 0 = ap (λ (n : ℕ). get_or x.right_info.dims n 0) z in
          let own : IsInside (get_or x.right_info.dims (length x.right_info.dims - 1) 0 ∷ []) (k ∷ []) = (omega (arith, l, inner, same, first), tt) in
          subst (IsInside x.right_info.dims) (sym index) (subst (λ (ns : List ℕ). IsInside ns (k ∷ [])) (sym (only_one x.right_info.dims h.right_rank (omega (arith, few)))) own)

-- ---- the sum

-- products of elements that are all there
all_there : (p : ℕ → Option ℤ) (q : ℕ → ℤ) (a m : ℕ) → ((k : ℕ) → a ≤ k → k < a + m → p k ≡ Some (q k)) → all_some (map p (range_with_len a m)) ≡ Some (map q (range_with_len a m))
all_there p q a zero h = refl
all_there p q a (suc m) h =
    let e = h a (omega arith) (omega arith) in
    let t = all_there p q (a + 1) m (λ k l u. h k (omega arith) (omega arith)) in
    rw (e, t) refl

pub product_element : (x : Product) (left right : List ℕ → Option ℤ) (f g : List ℕ → ℤ) (idx : List ℕ) → IsProduct x → ((i : List ℕ) → IsInside x.left_info.dims i → left i ≡ Some (f i))
    → ((i : List ℕ) → IsInside x.right_info.dims i → right i ≡ Some (g i)) → IsInside x.made.dims idx
    → reduced_to Sum x.made.dtype (inner_products x left right idx) ≡ Some (wrapped x.made.dtype (matmul_at f x.left_info.dims g x.right_info.dims idx))
product_element x left right f g idx h hl hr inside =
    ap (option_map (λ (ys : List ℤ). wrapped x.made.dtype (exact_sum ys)))
    (all_there (λ k. product_at (left (left_index x.left_info.dims x.right_info.dims idx k)) (right (right_index x.left_info.dims x.right_info.dims idx k)))
    (λ k. f (left_index x.left_info.dims x.right_info.dims idx k) *ℤ g (right_index x.left_info.dims x.right_info.dims idx k)) 0 (left_inner x.left_info.dims)
    (λ k l u.
    let a = hl (left_index x.left_info.dims x.right_info.dims idx k) (left_inside x h idx inside k (omega arith)) in
    let b = hr (right_index x.left_info.dims x.right_info.dims idx k) (right_inside x h idx inside k (omega arith)) in
    (λ j. product_at (a j) (b j))))
