-- A product of matrices that was typed, whose operands have the chunks that are wanted of them, is one that steps make. The left operand has
-- these chunks of itself.
use Rattle.std.proofs.Common.{◌≡◌, ◌⊎◌, ℕ, suc, ◌+◌, ◌-◌, ◌*◌, ◌^◌, ◌<◌, ◌≤◌, nat_le, Bool, true, false, List, [], ◌∷◌, ◌++◌, Some, Ok, length, get_or, take, refl, ap, sym, ◌∙◌, subst, inl, inr, arith}
use Rattle.std.proofs.Math.Seq.{get_or-append_seam}
use Rattle.std.proofs.lemmas.Bool.{cases_Bool, le-leb, leb-true, leb-false}
use Rattle.std.proofs.lemmas.List.{append_assoc, length-append}
use Rattle.std.proofs.lemmas.List.FromFn.{get_or-map-range_with_len}
use Rattle.cu_num.specs.Dtype.{IsInteger, is_integer, size_of}
use Rattle.cu_num.specs.declared.types.Dtype.{Dtype}
use Rattle.cu_num.specs.declared.types.Dtype.TheVariants as types
use Rattle.cu_num.proofs.Promoted.{promotion_apart}
use Rattle.cu_shape.specs.Index.{product}
use Rattle.cu_reduce.specs.Products.{batch_of}
use Rattle.cu_op.specs.Matrix.{batch_rank, batch_grid, columns_of, right_inner}
use Rattle.cu_op.specs.Aligned.{IsAligned}
use Rattle.cu_copy.specs.Copies.{rechunked}
use Rattle.cu_node.specs.Info.{IsInfo, info_of}
use Rattle.cu_node.specs.declared.info.NodeInfo.{NodeInfo}
use Rattle.cu_typing.specs.Accepted.{GoesInto, IsAcceptedProduct as HasPassed}
use Rattle.cu_typing.specs.Joined.{aligned_chunk, aligned_on, joined_chunk_on, fills, lead_of}
use Rattle.cu_typing.specs.Matmul.{leading, rows, columns, left_summed, leading_array, leading_arrays, leading_chunk, right_aligned, typed_matmul}
use Rattle.cu_typing.proofs.PassedTogether.{product_passed}
use Rattle.cu_typing.proofs.Together.{length-joined_shape}
use Rattle.cu_expr.proofs.AlignedChunks.{aligned_is_aligned}
use Rattle.cu_need.specs.Operands.{left_wanted, right_wanted}
use Rattle.cu_need.proofs.WantedChunks as wanted
use Rattle.cu_need.proofs.WantedChunks.{front, length-leading}
use Rattle.cu_lower_reduce.specs.Products.{IsProduct}
use Rattle.cu_lower.proofs.ProductLinks.{last_two, only_one}

-- ---- lists

same_list : (xs ys : List ℕ) → length xs ≡ length ys → ((k : ℕ) → k < length xs → get_or xs k 0 ≡ get_or ys k 0) → xs ≡ ys
same_list [] [] e h = refl
same_list [] (y ∷ ys) e h = absurd (omega arith)
same_list (x ∷ xs) [] e h = absurd (omega arith)
same_list (x ∷ xs) (y ∷ ys) e h = let t = same_list xs ys (omega arith) (λ k below. h (suc k) (omega arith)) in let a : x ≡ y = h 0 (omega arith) in λ j. a j ∷ t j

-- the number between two lists
middle : (k n : ℕ) (xs zs : List ℕ) → k ≡ length xs → get_or ((xs ++ n ∷ []) ++ zs) k 0 ≡ n
middle k n xs zs e = (λ j. get_or (append_assoc xs (n ∷ []) zs j) (e j) 0) ∙ get_or-append_seam xs n zs 0

-- the inner axis of a right operand, as operations and as types have it
right_same : (ns : List ℕ) → right_inner ns ≡ get_or ns (length ns - 2) 0
right_same ns = by_test (nat_le 2 (length ns)) refl
  where
    by_test : (b : Bool) → nat_le 2 (length ns) ≡ b → right_inner ns ≡ get_or ns (length ns - 2) 0
    by_test true e = rw e refl
    by_test false e = let l = leb-false 2 (length ns) e in let z : 0 ≡ length ns - 2 = omega arith in rw e (ap (λ (k : ℕ). get_or ns k 0) z)

integer_of : (a b t : Dtype) → is_integer a ≡ true → ((a ≡ types.Bool) × (b ≡ types.Bool) × (t ≡ types.Bool)) ⊎ (IsInteger a × IsInteger b × IsInteger t) → IsInteger t
integer_of a b t h (inl p) = absurd (let w : false ≡ true = sym (ap is_integer p.0) ∙ h in cc w)
integer_of a b t h (inr p) = p.2

-- the sizes of a left operand: those before the matrix, the rows and the inner one
left_parts : (ns : List ℕ) → 1 ≤ length ns → leading ns ++ rows ns ++ left_summed ns ∷ [] ≡ ns
left_parts ns some = by_test (nat_le 2 (length ns)) refl
  where
    by_test : (b : Bool) → nat_le 2 (length ns) ≡ b → leading ns ++ rows ns ++ left_summed ns ∷ [] ≡ ns
    by_test true e =
        let l = leb-true 2 (length ns) e in
        let row : rows ns ≡ get_or ns (length ns - 2) 0 ∷ [] = rw e refl in
        (λ j. leading ns ++ row j ++ left_summed ns ∷ []) ∙ append_assoc (leading ns) (get_or ns (length ns - 2) 0 ∷ []) (left_summed ns ∷ []) ∙ sym (last_two ns l)
    by_test false e =
        let l = leb-false 2 (length ns) e in
        let row : rows ns ≡ [] = rw e refl in
        let z : length ns - 2 ≡ 0 = omega (arith, l) in
        (λ j. take (z j) ns ++ row j ++ left_summed ns ∷ []) ∙ sym (only_one ns some (omega (arith, l)))

-- the columns of a right operand's sizes with another inner one
columns_kept : (n : ℕ) (xs ns : List ℕ) → length xs ≡ length ns - 2 → columns_of (xs ++ n ∷ [] ++ columns ns) ≡ columns ns
columns_kept n xs ns long = by_test (nat_le 2 (length ns)) refl
  where
    two : (c : ℕ) → columns_of (xs ++ n ∷ [] ++ c ∷ []) ≡ c ∷ []
    two c =
        let a = length-append (xs ++ n ∷ []) (c ∷ []) in
        let b = length-append xs (n ∷ []) in
        let t : nat_le 2 (length (xs ++ n ∷ [] ++ c ∷ [])) ≡ true = le-leb 2 (length (xs ++ n ∷ [] ++ c ∷ [])) (omega (arith, a, b)) in
        let k : length (xs ++ n ∷ [] ++ c ∷ []) - 1 ≡ length (xs ++ n ∷ []) = omega (arith, a, b) in
        rw t (λ j. (ap (λ (i : ℕ). get_or (xs ++ n ∷ [] ++ c ∷ []) i 0) k ∙ get_or-append_seam (xs ++ n ∷ []) c [] 0) j ∷ [])

    one : (ys : List ℕ) → length ys ≡ 0 → columns_of (ys ++ n ∷ [] ++ []) ≡ []
    one [] e = refl
    one (y ∷ ys) e = absurd (omega (arith, e))

    by_test : (b : Bool) → nat_le 2 (length ns) ≡ b → columns_of (xs ++ n ∷ [] ++ columns ns) ≡ columns ns
    by_test true e =
        let c : columns ns ≡ get_or ns (length ns - 1) 0 ∷ [] = rw e refl in
        (λ j. columns_of (xs ++ n ∷ [] ++ c j)) ∙ two (get_or ns (length ns - 1) 0) ∙ sym c
    by_test false e =
        let c : columns ns ≡ [] = rw e refl in
        let l = leb-false 2 (length ns) e in
        (λ j. columns_of (xs ++ n ∷ [] ++ c j)) ∙ one xs (omega (arith, l, long)) ∙ sym c

-- ---- the operands of a typed product

module _ (l r made : NodeInfo) (hl : IsInfo l) (t : Dtype) (lead : List ℕ) (p : HasPassed l r t lead made) where
  -- before the matrix the left operand's chunks are those of the product, since it is the first that fills an axis
  left_on : (k : ℕ) → k < length (leading l.dims) → aligned_on lead (leading_chunk lead l r) (leading_array l) k ≡ get_or (leading l.chunk) k 0
  left_on k below =
      let rank = (p.broadcast 0 (leading_array l) (omega arith)).rank in
      elim (cases_Bool (fills lead (leading_array l) (k + lead_of lead (leading_array l)))) [
        | inl filled ↦
            let at : get_or (leading_chunk lead l r) (k + lead_of lead (leading_array l)) 0 ≡ joined_chunk_on lead (leading_arrays l r) (k + lead_of lead (leading_array l)) =
            get_or-map-range_with_len (joined_chunk_on lead (leading_arrays l r)) 0 (length lead) (k + lead_of lead (leading_array l)) (k + lead_of lead (leading_array l)) 0 (omega (arith, below, rank)) (omega arith) in
            let own : joined_chunk_on lead (leading_arrays l r) (k + lead_of lead (leading_array l)) ≡ get_or (leading l.chunk) (k + lead_of lead (leading_array l) - lead_of lead (leading_array l)) 0 = rw filled refl in
            let z : k + lead_of lead (leading_array l) - lead_of lead (leading_array l) ≡ k = omega arith in
            rw filled (at ∙ own ∙ ap (λ (i : ℕ). get_or (leading l.chunk) i 0) z)
        | inr other ↦ rw other refl
      ]

  left_front : aligned_chunk lead (leading_chunk lead l r) (leading_array l) ≡ leading l.chunk
  left_front =
      let a = wanted.length-front l r made t lead p l in
      let b = length-leading l.chunk in
      let c = length-leading l.dims in
      let e = hl.ranks in
      same_list (aligned_chunk lead (leading_chunk lead l r) (leading_array l)) (leading l.chunk) (omega (arith, a, b, e))
      (λ k below.
      let under : k < length (leading l.dims) = omega (arith, below, a, c) in
      get_or-map-range_with_len (aligned_on lead (leading_chunk lead l r) (leading_array l)) 0 (length (leading l.dims)) k k 0 under (omega arith) ∙ left_on k under)

  left_whole : rechunked (left_wanted made l r) ≡ l
  left_whole =
      let some = p.left_rank in
      let ranks = hl.ranks in
      let chunk = (λ j. wanted.same_aligned l r made t lead p l j ++ rows l.chunk ++ left_summed l.chunk ∷ []) ∙ (λ j. left_front j ++ rows l.chunk ++ left_summed l.chunk ∷ []) ∙ left_parts l.chunk (omega (arith, some, ranks)) in
      λ j. record { dtype = l.dtype; dims = l.dims; chunk = chunk j }

  -- what is known of the right operand in the chunks that are wanted
  abbrev inner_first : NodeInfo
  inner_first = info_of r.dtype r.dims (right_aligned lead l r)

  right_whole : rechunked (right_wanted made l r) ≡ inner_first
  right_whole j = info_of r.dtype r.dims (wanted.same_aligned l r made t lead p r j ++ left_summed l.chunk ∷ [] ++ columns r.chunk)

  module _ (hr : IsInfo r) (hm : IsInfo made) where
    right_bytes : product (right_aligned lead l r) * size_of r.dtype ≤ 2 ^ 28
    right_bytes = leb-true (product (right_aligned lead l r) * size_of r.dtype) (2 ^ 28) p.right_within

    right_long : length (right_aligned lead l r) ≡ length r.dims
    right_long = ap (λ (i : NodeInfo). length i.chunk) (sym right_whole) ∙ (wanted.right_is_wanted l r made t lead p hl hr hm).ranks

    right_front : batch_of (right_aligned lead l r) ≡ aligned_chunk lead (leading_chunk lead l r) (leading_array r)
    right_front =
        let a = right_long in
        let b = wanted.length-front l r made t lead p r in
        front (length (right_aligned lead l r) - 2) (aligned_chunk lead (leading_chunk lead l r) (leading_array r)) (left_summed l.chunk ∷ []) (columns r.chunk) (omega (arith, a, b))

    batch_aligned : (i : NodeInfo) (chunk : List ℕ) → batch_of chunk ≡ aligned_chunk lead (leading_chunk lead l r) (leading_array i) → GoesInto (leading i.dims) lead
        → IsAligned (batch_grid (record { shape = i.dims; chunk = chunk })) (record { shape = lead; chunk = leading_chunk lead l r })
    batch_aligned i chunk e g =
        subst (λ (cs : List ℕ). IsAligned (record { shape = leading i.dims; chunk = cs }) (record { shape = lead; chunk = leading_chunk lead l r })) (sym e)
        (aligned_is_aligned (info_of t lead (leading_chunk lead l r)) (leading_array i) (wanted.lead_chunks l r made t lead p) g)

    inner_chunks : left_summed l.chunk ≡ right_inner (right_aligned lead l r)
    inner_chunks =
        let a = right_long in
        let b = wanted.length-front l r made t lead p r in
        sym (right_same (right_aligned lead l r)
        ∙ middle (length (right_aligned lead l r) - 2) (left_summed l.chunk) (aligned_chunk lead (leading_chunk lead l r) (leading_array r)) (columns r.chunk) (omega (arith, a, b)))

    ranks_are : length lead ≡ batch_rank l.dims r.dims
    ranks_are = let e = length-joined_shape (leading_arrays l r) lead p.leading in omega (arith, e)

    chunk_is : made.chunk ≡ leading_chunk lead l r ++ rows l.chunk ++ columns_of (right_aligned lead l r)
    chunk_is =
        let a = wanted.length-front l r made t lead p r in
        let b = hr.ranks in
        wanted.chunk_is l r made t lead p
        ∙ (λ j. leading_chunk lead l r ++ rows l.chunk ++ sym (columns_kept (left_summed l.chunk) (aligned_chunk lead (leading_chunk lead l r) (leading_array r)) r.chunk (omega (arith, a, b))) j)

    product_in : (left right : ℕ) → IsProduct (record { left = left; right = right; left_info = l; right_info = inner_first; made = made })
    product_in left right =
        let a = p.left_rank in
        let b = p.right_rank in
        let d : t ≡ made.dtype = ap (λ (i : NodeInfo). i.dtype) (sym p.array) in
        record {
          sizes = lead;
          chunks = leading_chunk lead l r;
          left = hl;
          right_bytes = right_bytes;
          made = hm;
          left_rank = omega arith;
          right_rank = omega arith;
          short = (let s = ap length (wanted.shape_is l r made t lead p) in let q = p.short in omega (arith, s, q));
          integer = subst IsInteger d (integer_of l.dtype r.dtype t p.left_type (promotion_apart l.dtype r.dtype t p.promoted));
          types = p.promoted ∙ ap Some d;
          inner = p.inner ∙ sym (right_same r.dims);
          inner_chunk = inner_chunks;
          rank = ranks_are;
          left_batch = batch_aligned l l.chunk (sym left_front) (p.broadcast 0 (leading_array l) (omega arith));
          right_batch = batch_aligned r (right_aligned lead l r) right_front (p.broadcast 1 (leading_array r) (omega arith));
          shape = wanted.shape_is l r made t lead p;
          chunk = chunk_is;
        }

    product_is : (left right : ℕ) → IsProduct (record { left = left; right = right; left_info = rechunked (left_wanted made l r); right_info = rechunked (right_wanted made l r); made = made })
    product_is left right =
        subst (λ (i : NodeInfo). IsProduct (record { left = left; right = right; left_info = i; right_info = rechunked (right_wanted made l r); made = made })) (sym left_whole)
        (subst (λ (i : NodeInfo). IsProduct (record { left = left; right = right; left_info = l; right_info = i; made = made })) (sym right_whole) (product_in left right))

pub product_typed : (l r made : NodeInfo) (left right : ℕ) → IsInfo l → IsInfo r → IsInfo made → typed_matmul l r ≡ Ok made
    → IsProduct (record { left = left; right = right; left_info = rechunked (left_wanted made l r); right_info = rechunked (right_wanted made l r); made = made })
product_typed l r made left right hl hr hm typed =
    let w = product_passed l r made typed in
    product_is l r made hl w.0 w.1.0 w.1.1 hr hm left right

-- the left operand has the chunks that are wanted of it
pub left_kept : (l r made : NodeInfo) → IsInfo l → typed_matmul l r ≡ Ok made → rechunked (left_wanted made l r) ≡ l
left_kept l r made hl typed =
    let w = product_passed l r made typed in
    left_whole l r made hl w.0 w.1.0 w.1.1
