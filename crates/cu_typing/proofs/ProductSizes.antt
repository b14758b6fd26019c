-- The shape and the chunk shape of a matrix product.
use Rattle.std.proofs.Common.{◌≡◌, ℕ, ◌+◌, ◌-◌, ◌<◌, ◌≤◌, List, [], ◌∷◌, ◌++◌, length, All, refl, ap, sym, ◌∙◌, inl, inr, arith}
use Rattle.std.specs.Prelude.{nat_le}
use Rattle.std.proofs.lemmas.Bool.{cases_Bool, leb-true}
use Rattle.std.proofs.lemmas.List.{length-append, length-take-le}
use Rattle.std.proofs.lemmas.List.Elements.{All-append, All-cons, All-nil, All-take, All-get_or}
use Rattle.cu_node.specs.declared.info.NodeInfo.{NodeInfo}
use Rattle.cu_typing.specs.Matmul.{leading, rows, columns, leading_array, leading_arrays, leading_chunk, product_shape, product_chunk}
use Rattle.cu_typing.proofs.Chunks.{HasChunks, joined_chunk-positive, length-joined_chunk}

length-rows : (xs ys : List ℕ) → length xs ≡ length ys → length (rows xs) ≡ length (rows ys)
length-rows xs ys e =
    elim (cases_Bool (nat_le 2 (length ys))) [
      | inl h ↦ rw e (rw h refl)
      | inr h ↦ rw e (rw h refl)
    ]

length-columns : (xs ys : List ℕ) → length xs ≡ length ys → length (columns xs) ≡ length (columns ys)
length-columns xs ys e =
    elim (cases_Bool (nat_le 2 (length ys))) [
      | inl h ↦ rw e (rw h refl)
      | inr h ↦ rw e (rw h refl)
    ]

rows-positive : (xs : List ℕ) → All (λ c. 0 < c) xs → All (λ c. 0 < c) (rows xs)
rows-positive xs p =
    elim (cases_Bool (nat_le 2 (length xs))) [
      | inl h ↦ let long : 2 ≤ length xs = leb-true _ _ h in
          rw h (All-cons (λ (c : ℕ). 0 < c) _ [] (All-get_or (λ (c : ℕ). 0 < c) xs (length xs - 2) 0 (omega arith) p) (All-nil (λ (c : ℕ). 0 < c)))
      | inr h ↦ rw h (All-nil (λ (c : ℕ). 0 < c))
    ]

columns-positive : (xs : List ℕ) → All (λ c. 0 < c) xs → All (λ c. 0 < c) (columns xs)
columns-positive xs p =
    elim (cases_Bool (nat_le 2 (length xs))) [
      | inl h ↦ let long : 2 ≤ length xs = leb-true _ _ h in
          rw h (All-cons (λ (c : ℕ). 0 < c) _ [] (All-get_or (λ (c : ℕ). 0 < c) xs (length xs - 1) 0 (omega arith) p) (All-nil (λ (c : ℕ). 0 < c)))
      | inr h ↦ rw h (All-nil (λ (c : ℕ). 0 < c))
    ]

pub length-leading : (xs : List ℕ) → length (leading xs) ≡ length xs - 2
length-leading xs = length-take-le (length xs - 2) xs (omega arith)

-- the leading axes have chunk sizes above 0
pub leading_has_chunks : (i : NodeInfo) → HasChunks i → HasChunks (leading_array i)
leading_has_chunks i h = record {
  ranks = length-leading i.chunk ∙ (ap (λ n. n - 2) h.ranks ∙ sym (length-leading i.dims));
  positive = All-take (λ (c : ℕ). 0 < c) (length i.chunk - 2) i.chunk h.positive;
}

both_have_chunks : (l r : NodeInfo) → HasChunks l → HasChunks r → All HasChunks (leading_arrays l r)
both_have_chunks l r p q =
    All-cons HasChunks (leading_array l) (leading_array r ∷ []) (leading_has_chunks l p) (All-cons HasChunks (leading_array r) [] (leading_has_chunks r q) (All-nil HasChunks))

pub product_ranks : (lead : List ℕ) (l r : NodeInfo) → HasChunks l → HasChunks r → length (product_chunk lead l r) ≡ length (product_shape lead l r)
product_ranks lead l r p q =
    let a = length-append (leading_chunk lead l r ++ rows l.chunk) (columns r.chunk) in
    let b = length-append (leading_chunk lead l r) (rows l.chunk) in
    let c = length-append (lead ++ rows l.dims) (columns r.dims) in
    let d = length-append lead (rows l.dims) in
    let e = length-joined_chunk lead (leading_arrays l r) in
    let f = length-rows l.chunk l.dims p.ranks in
    let g = length-columns r.chunk r.dims q.ranks in
    a ∙ (ap (λ n. n + length (columns r.chunk)) (b ∙ (ap (λ n. n + length (rows l.chunk)) e ∙ (ap (λ n. length lead + n) f ∙ sym d))) ∙ (ap (λ n. length (lead ++ rows l.dims) + n) g ∙ sym c))

pub product_positive : (lead : List ℕ) (l r : NodeInfo) → HasChunks l → HasChunks r → All (λ c. 0 < c) (product_chunk lead l r)
product_positive lead l r p q =
    All-append (λ (c : ℕ). 0 < c) (leading_chunk lead l r ++ rows l.chunk) (columns r.chunk)
    (All-append (λ (c : ℕ). 0 < c) (leading_chunk lead l r) (rows l.chunk) (joined_chunk-positive lead (leading_arrays l r) (both_have_chunks l r p q)) (rows-positive l.chunk p.positive))
    (columns-positive r.chunk q.positive)
