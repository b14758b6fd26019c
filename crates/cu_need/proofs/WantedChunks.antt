-- The chunks that typed nodes want of their arguments keep the limits.
use Rattle.std.proofs.Common.{◌≡◌, inl, inr, ℕ, ◌+◌, ◌-◌, ◌<◌, ◌≤◌, nat_le, true, List, [], ◌∷◌, ◌++◌, length, get_or, take, All, refl, ap, sym, ◌∙◌, subst, arith}
use Rattle.std.proofs.lemmas.Bool.{cases_Bool, leb-true, leb-false}
use Rattle.std.proofs.lemmas.List.{length-append, length-take-le, append_assoc}
use Rattle.std.proofs.lemmas.List.Elements.{All-nil, All-cons, All-append, All-take, All-get_or, All-from_get_or}
use Rattle.std.proofs.lemmas.List.FromFn.{get_or-map-range_with_len, length-map-range_with_len}
use Rattle.cu_num.specs.declared.types.Dtype.{Dtype}
use Rattle.cu_node.specs.Info.{IsInfo}
use Rattle.cu_node.specs.Limited.{is_chunk_within}
use Rattle.cu_node.specs.declared.info.NodeInfo.{NodeInfo}
use Rattle.cu_typing.specs.Accepted.{IsAcceptedProduct}
use Rattle.cu_typing.specs.Joined.{lead_of, fills, aligned_on, aligned_chunk}
use Rattle.cu_typing.specs.Matmul.{leading, rows, columns, left_summed, leading_array, leading_arrays, leading_chunk, left_aligned, right_aligned}
use Rattle.cu_typing.proofs.Chunks.{length-joined_chunk, length-aligned_chunk}
use Rattle.cu_copy.specs.Copies.{IsRechunk}
use Rattle.cu_need.specs.Elementwise.{in_aligned}
use Rattle.cu_need.specs.Reduction.{leading_count, leading_aligned, left_wanted, right_wanted}

-- ---- sizes above 0

abbrev Positive : List ℕ → Type 0
Positive ns = All (λ n. 0 < n) ns

one_positive : (n : ℕ) → 0 < n → Positive (n ∷ [])
one_positive n h = All-cons (λ c. 0 < c) n [] h (All-nil (λ c. 0 < c))

aligned_on_positive : (shape chunk : List ℕ) (i : NodeInfo) (axis : ℕ) → Positive chunk → length chunk ≡ length shape → Positive i.chunk → length i.chunk ≡ length i.dims
    → length i.dims ≤ length shape → axis < length i.dims → 0 < aligned_on shape chunk i axis
aligned_on_positive shape chunk i axis h e own same rank l =
    elim (cases_Bool (fills shape i (axis + lead_of shape i))) [
      | inl filled ↦ rw filled (All-get_or (λ c. 0 < c) chunk (axis + lead_of shape i) 0 (omega (arith, e, rank, l)) h)
      | inr other ↦ rw other (All-get_or (λ c. 0 < c) i.chunk axis 0 (omega (arith, same, l)) own)
    ]

aligned_positive : (shape chunk : List ℕ) (i : NodeInfo) → Positive chunk → length chunk ≡ length shape → Positive i.chunk → length i.chunk ≡ length i.dims
    → length i.dims ≤ length shape → Positive (aligned_chunk shape chunk i)
aligned_positive shape chunk i h e own same rank =
    All-from_get_or (λ c. 0 < c) (aligned_chunk shape chunk i) 0
    (λ k l. let b : k < length i.dims = let n = length-map-range_with_len (aligned_on shape chunk i) 0 (length i.dims) in omega (arith, n, l) in
    rw (get_or-map-range_with_len (aligned_on shape chunk i) 0 (length i.dims) k k 0 b (omega arith)) (aligned_on_positive shape chunk i k h e own same rank b))

-- ---- an argument of an elementwise function

pub aligned_wanted : (made i : NodeInfo) → IsInfo made → IsInfo i → length i.dims ≤ length made.dims → is_chunk_within i.dtype (aligned_chunk made.dims made.chunk i) ≡ true
    → IsRechunk (in_aligned made i)
aligned_wanted made i hm hi rank within = record {
  source = hi;
  ranks = length-aligned_chunk made.dims made.chunk i;
  positive = aligned_positive made.dims made.chunk i hm.positive hm.ranks hi.positive hi.ranks rank;
  bytes = within;
}

-- ---- the matrix of an operand

length-rows : (ns : List ℕ) → 0 < length ns → length ns - 2 + length (rows ns) + 1 ≡ length ns
length-rows ns h =
    elim (cases_Bool (nat_le 2 (length ns))) [
      | inl two ↦ let l = leb-true 2 (length ns) two in rw two (omega (arith, l))
      | inr one ↦ let l = leb-false 2 (length ns) one in rw one (omega (arith, l, h))
    ]

length-columns : (ns : List ℕ) → 0 < length ns → length ns - 2 + 1 + length (columns ns) ≡ length ns
length-columns ns h =
    elim (cases_Bool (nat_le 2 (length ns))) [
      | inl two ↦ let l = leb-true 2 (length ns) two in rw two (omega (arith, l))
      | inr one ↦ let l = leb-false 2 (length ns) one in rw one (omega (arith, l, h))
    ]

rows_positive : (ns : List ℕ) → Positive ns → Positive (rows ns)
rows_positive ns h =
    elim (cases_Bool (nat_le 2 (length ns))) [
      | inl two ↦ let l = leb-true 2 (length ns) two in rw two (one_positive (get_or ns (length ns - 2) 0) (All-get_or (λ c. 0 < c) ns (length ns - 2) 0 (omega (arith, l)) h))
      | inr one ↦ rw one (All-nil (λ c. 0 < c))
    ]

columns_positive : (ns : List ℕ) → Positive ns → Positive (columns ns)
columns_positive ns h =
    elim (cases_Bool (nat_le 2 (length ns))) [
      | inl two ↦ let l = leb-true 2 (length ns) two in rw two (one_positive (get_or ns (length ns - 1) 0) (All-get_or (λ c. 0 < c) ns (length ns - 1) 0 (omega (arith, l)) h))
      | inr one ↦ rw one (All-nil (λ c. 0 < c))
    ]

inner_positive : (ns : List ℕ) → 0 < length ns → Positive ns → Positive (left_summed ns ∷ [])
inner_positive ns some h = one_positive (left_summed ns) (All-get_or (λ c. 0 < c) ns (length ns - 1) 0 (omega (arith, some)) h)

pub length-leading : (ns : List ℕ) → length (leading ns) ≡ length ns - 2
length-leading ns = length-take-le (length ns - 2) ns (omega arith)

-- ---- lists

pub take_front : (xs ys : List ℕ) → take (length xs) (xs ++ ys) ≡ xs
take_front [] ys = refl
take_front (x ∷ xs) ys = ap (λ (zs : List ℕ). x ∷ zs) (take_front xs ys)

-- the front of three lists
pub front : (k : ℕ) (xs ys zs : List ℕ) → k ≡ length xs → take k ((xs ++ ys) ++ zs) ≡ xs
front k xs ys zs e = (λ j. take (e j) (append_assoc xs ys zs j)) ∙ take_front xs (ys ++ zs)

-- ---- the operands of a product that was typed

module _ (l r made : NodeInfo) (t : Dtype) (lead : List ℕ) (p : IsAcceptedProduct l r t lead made) where
  pub shape_is : made.dims ≡ lead ++ rows l.dims ++ columns r.dims
  shape_is = ap (λ (i : NodeInfo). i.dims) p.array

  pub chunk_is : made.chunk ≡ leading_chunk lead l r ++ rows l.chunk ++ columns r.chunk
  chunk_is = ap (λ (i : NodeInfo). i.chunk) p.array

  pub count_is : leading_count made l r ≡ length lead
  count_is =
      let s = ap length shape_is in
      let a = length-append (lead ++ rows l.dims) (columns r.dims) in
      let b = length-append lead (rows l.dims) in
      omega (arith, s, a, b)

  pub lead_chunks : length (leading_chunk lead l r) ≡ length lead
  lead_chunks = length-joined_chunk lead (leading_arrays l r)

  -- the leading axes and their chunks are those of the product
  pub lead_shape : take (leading_count made l r) made.dims ≡ lead
  lead_shape = ap (take (leading_count made l r)) shape_is ∙ front (leading_count made l r) lead (rows l.dims) (columns r.dims) count_is

  pub lead_chunk : take (leading_count made l r) made.chunk ≡ leading_chunk lead l r
  lead_chunk = ap (take (leading_count made l r)) chunk_is ∙ front (leading_count made l r) (leading_chunk lead l r) (rows l.chunk) (columns r.chunk) (count_is ∙ sym lead_chunks)

  pub same_aligned : (i : NodeInfo) → leading_aligned made (leading_count made l r) i ≡ aligned_chunk lead (leading_chunk lead l r) (leading_array i)
  same_aligned i j = aligned_chunk (lead_shape j) (lead_chunk j) (leading_array i)

  pub length-front : (i : NodeInfo) → length (aligned_chunk lead (leading_chunk lead l r) (leading_array i)) ≡ length i.dims - 2
  length-front i = length-aligned_chunk lead (leading_chunk lead l r) (leading_array i) ∙ length-leading i.dims

  -- of operands whose own chunks keep the limits
  module _ (hl : IsInfo l) (hr : IsInfo r) (hm : IsInfo made) where
    lead_positive : Positive (leading_chunk lead l r)
    lead_positive = subst Positive lead_chunk (All-take (λ c. 0 < c) (leading_count made l r) made.chunk hm.positive)

    front_positive : (i : NodeInfo) → IsInfo i → length (leading i.dims) ≤ length lead → Positive (aligned_chunk lead (leading_chunk lead l r) (leading_array i))
    front_positive i h rank =
        aligned_positive lead (leading_chunk lead l r) (leading_array i) lead_positive lead_chunks (All-take (λ c. 0 < c) (length i.chunk - 2) i.chunk h.positive)
        (let a = length-leading i.dims in let b = length-leading i.chunk in let e = h.ranks in omega (arith, a, b, e)) rank

    left_is : IsRechunk (record { source = l; chunk = left_aligned lead l r })
    left_is =
        let own = aligned_chunk lead (leading_chunk lead l r) (leading_array l) in
        let e = hl.ranks in
        let some = p.left_rank in
        record {
          source = hl;
          ranks = (
              let a = length-append (own ++ rows l.chunk) (left_summed l.chunk ∷ []) in
              let b = length-append own (rows l.chunk) in
              let c = length-front l in
              let d = length-rows l.chunk (omega (arith, e, some)) in
              omega (arith, a, b, c, d, e)
              );
          positive = All-append (λ c. 0 < c) (own ++ rows l.chunk) (left_summed l.chunk ∷ [])
              (All-append (λ c. 0 < c) own (rows l.chunk) (front_positive l hl (p.broadcast 0 (leading_array l) (omega arith)).rank) (rows_positive l.chunk hl.positive))
              (inner_positive l.chunk (omega (arith, e, some)) hl.positive);
          bytes = p.left_within;
        }

    right_is : IsRechunk (record { source = r; chunk = right_aligned lead l r })
    right_is =
        let own = aligned_chunk lead (leading_chunk lead l r) (leading_array r) in
        let e = hr.ranks in
        let some = p.right_rank in
        let f = hl.ranks in
        let least = p.left_rank in
        record {
          source = hr;
          ranks = (
              let a = length-append (own ++ left_summed l.chunk ∷ []) (columns r.chunk) in
              let b = length-append own (left_summed l.chunk ∷ []) in
              let c = length-front r in
              let d = length-columns r.chunk (omega (arith, e, some)) in
              omega (arith, a, b, c, d, e)
              );
          positive = All-append (λ c. 0 < c) (own ++ left_summed l.chunk ∷ []) (columns r.chunk)
              (All-append (λ c. 0 < c) own (left_summed l.chunk ∷ []) (front_positive r hr (p.broadcast 1 (leading_array r) (omega arith)).rank)
              (inner_positive l.chunk (omega (arith, f, least)) hl.positive))
              (columns_positive r.chunk hr.positive);
          bytes = p.right_within;
        }

    pub left_is_wanted : IsRechunk (left_wanted made l r)
    left_is_wanted = subst (λ (cs : List ℕ). IsRechunk (record { source = l; chunk = cs ++ rows l.chunk ++ left_summed l.chunk ∷ [] })) (sym (same_aligned l)) left_is

    pub right_is_wanted : IsRechunk (right_wanted made l r)
    right_is_wanted = subst (λ (cs : List ℕ). IsRechunk (record { source = r; chunk = cs ++ left_summed l.chunk ∷ [] ++ columns r.chunk })) (sym (same_aligned r)) right_is
