-- An aligned chunk is aligned.
use Rattle.std.proofs.Common.{◌≡◌, ◌≢◌, ℕ, suc, ◌+◌, ◌-◌, ◌<◌, ◌⊎◌, true, List, [], ◌∷◌, length, get_or, drop, refl, ap, sym, ◌∙◌, inl, inr, arith}
use Rattle.std.proofs.lemmas.Bool.{cases_eq, le-leb, eq-eqb}
use Rattle.std.proofs.lemmas.List.{get_or-drop, length-drop}
use Rattle.std.proofs.lemmas.List.FromFn.{get_or-map-range_with_len}
use Rattle.cu_node.specs.declared.info.NodeInfo.{NodeInfo}
use Rattle.cu_op.specs.Aligned.{IsAlignedAlong, IsAligned}
use Rattle.cu_typing.specs.Accepted.{GoesInto}
use Rattle.cu_typing.specs.Joined.{lead_of, fills, aligned_on, aligned_chunk}
use Rattle.cu_typing.proofs.Chunks.{length-aligned_chunk}
use Rattle.cu_expr.specs.Kernel.{aligned_grid, result_grid}

-- one axis is aligned: the sizes and the chunk sizes agree, or the array is stretched
abbrev IsAxis : ℕ → ℕ → ℕ → ℕ → Type 0
IsAxis n c m d = ((n ≡ m) × (c ≡ d)) ⊎ ((n ≡ 1) × (m ≢ 1))

along_from : (ns cs ms ds : List ℕ) → length cs ≡ length ns → length ms ≡ length ns → length ds ≡ length ns → ((k : ℕ) → k < length ns → IsAxis (get_or ns k 0) (get_or cs k 0) (get_or ms k 0) (get_or ds k 0)) → IsAlignedAlong ns cs ms ds
along_from [] [] [] [] p q r h = tt
along_from [] [] [] (d ∷ ds) p q r h = absurd (omega arith)
along_from [] [] (m ∷ ms) ds p q r h = absurd (omega arith)
along_from [] (c ∷ cs) ms ds p q r h = absurd (omega arith)
along_from (n ∷ ns) [] ms ds p q r h = absurd (omega arith)
along_from (n ∷ ns) (c ∷ cs) [] ds p q r h = absurd (omega arith)
along_from (n ∷ ns) (c ∷ cs) (m ∷ ms) [] p q r h = absurd (omega arith)
along_from (n ∷ ns) (c ∷ cs) (m ∷ ms) (d ∷ ds) p q r h =
    (h 0 (omega arith), along_from ns cs ms ds (omega arith) (omega arith) (omega arith) (λ k l. h (suc k) (omega arith)))

-- an array fills an axis exactly where it has the result's size there
fills_own : (shape : List ℕ) (i : NodeInfo) (k : ℕ) → get_or i.dims k 0 ≡ get_or shape (k + lead_of shape i) 0 → fills shape i (k + lead_of shape i) ≡ true
fills_own shape i k e =
    let back : k + lead_of shape i - lead_of shape i ≡ k = omega arith in
    rw (le-leb (lead_of shape i) (k + lead_of shape i) (omega arith)) (rw back (eq-eqb _ _ e))

axis_aligned : (shape chunk : List ℕ) (i : NodeInfo) (k : ℕ) → (get_or i.dims k 0 ≡ get_or shape (k + lead_of shape i) 0) ⊎ (get_or i.dims k 0 ≡ 1) → IsAxis (get_or i.dims k 0) (aligned_on shape chunk i k) (get_or shape (k + lead_of shape i) 0) (get_or chunk (k + lead_of shape i) 0)
axis_aligned shape chunk i k goes =
    elim (cases_eq (get_or i.dims k 0) (get_or shape (k + lead_of shape i) 0)) [
      | inl e ↦ inl (e, rw (fills_own shape i k e) refl)
      | inr e ↦ elim goes [
        | inl same ↦ absurd (e same)
        | inr one ↦ inr (one, λ other. e (one ∙ sym other))
      ]
    ]

pub aligned_is_aligned : (result i : NodeInfo) → length result.chunk ≡ length result.dims → GoesInto i.dims result.dims → IsAligned (aligned_grid result i) (result_grid result)
aligned_is_aligned result i ranks goes = record {
  rank = goes.rank;
  axes = along_from i.dims (aligned_chunk result.dims result.chunk i) (drop lead result.dims) (drop lead result.chunk) (length-aligned_chunk result.dims result.chunk i)
      (let e = length-drop lead result.dims in let h = goes.rank in omega arith)
      (let e = length-drop lead result.chunk in let h = goes.rank in omega arith)
      (λ k l. at k l);
}
  where
    lead : ℕ
    lead = length result.dims - length i.dims

    at : (k : ℕ) → k < length i.dims → IsAxis (get_or i.dims k 0) (get_or (aligned_chunk result.dims result.chunk i) k 0) (get_or (drop lead result.dims) k 0) (get_or (drop lead result.chunk) k 0)
    at k l =
        let turn : lead + k ≡ k + lead = omega arith in
        let own : get_or (aligned_chunk result.dims result.chunk i) k 0 ≡ aligned_on result.dims result.chunk i k = get_or-map-range_with_len (aligned_on result.dims result.chunk i) 0 (length i.dims) k k 0 l (omega arith) in
        let size : get_or (drop lead result.dims) k 0 ≡ get_or result.dims (k + lead) 0 = get_or-drop lead result.dims k 0 ∙ ap (λ n. get_or result.dims n 0) turn in
        let chunk : get_or (drop lead result.chunk) k 0 ≡ get_or result.chunk (k + lead) 0 = get_or-drop lead result.chunk k 0 ∙ ap (λ n. get_or result.chunk n 0) turn in
        rw own (rw size (rw chunk (axis_aligned result.dims result.chunk i k (goes.axes k l))))
