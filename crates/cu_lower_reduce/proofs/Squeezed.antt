-- Grids of which axes of size 1 are taken out.
use Rattle.std.proofs.Common.{◌≡◌, ℕ, ◌+◌, Bool, true, false, List, [], ◌∷◌, ◌++◌, length, refl, arith, inl, inr}
use Rattle.cu_shape.specs.Index.{product}
use Rattle.cu_reduce.specs.Groups.{groups_from}
use Rattle.cu_origin.specs.Pull.{has_axis}
use Rattle.cu_origin.specs.declared.axes.Axes.{Axes}
use Rattle.cu_op.specs.Partial.{IsSqueezedAlong}
use Rattle.cu_op.specs.Partial.{partial_chunk as chunk_of_groups}
use Rattle.cu_tree.specs.Partials.{partial_chunk_from}

-- such axes change neither the number of elements nor that of a chunk
pub same_elements : (ns cs ms ds : List ℕ) → IsSqueezedAlong ns cs ms ds → product ns ≡ product ms
same_elements [] [] [] [] h = refl
same_elements (n ∷ ns) (c ∷ cs) [] [] h = let e = same_elements ns cs [] [] h.2 in rw (h.0, e) refl
same_elements (n ∷ ns) (c ∷ cs) (m ∷ ms) (d ∷ ds) (inl h) = rw (h.0, same_elements ns cs ms ds h.2) refl
same_elements (n ∷ ns) (c ∷ cs) (m ∷ ms) (d ∷ ds) (inr h) = let e = same_elements ns cs (m ∷ ms) (d ∷ ds) h.2 in rw (h.0, e) (omega arith)
same_elements ns cs ms ds h = absurd h

pub same_chunk : (ns cs ms ds : List ℕ) → IsSqueezedAlong ns cs ms ds → product cs ≡ product ds
same_chunk [] [] [] [] h = refl
same_chunk (n ∷ ns) (c ∷ cs) [] [] h = let e = same_chunk ns cs [] [] h.2 in rw (h.1, e) refl
same_chunk (n ∷ ns) (c ∷ cs) (m ∷ ms) (d ∷ ds) (inl h) = rw (h.1, same_chunk ns cs ms ds h.2) refl
same_chunk (n ∷ ns) (c ∷ cs) (m ∷ ms) (d ∷ ds) (inr h) = let e = same_chunk ns cs (m ∷ ms) (d ∷ ds) h.2 in rw (h.1, e) (omega arith)
same_chunk ns cs ms ds h = absurd h

-- none need be taken out
pub same_grid : (ns cs : List ℕ) → length cs ≡ length ns → IsSqueezedAlong ns cs ns cs
same_grid [] [] e = tt
same_grid [] (c ∷ cs) e = absurd (omega arith)
same_grid (n ∷ ns) [] e = absurd (omega arith)
same_grid (n ∷ ns) (c ∷ cs) e = inl (refl, refl, same_grid ns cs (omega arith))

-- or the last
pub without_last : (ns cs : List ℕ) → length cs ≡ length ns → IsSqueezedAlong (ns ++ 1 ∷ []) (cs ++ 1 ∷ []) ns cs
without_last [] [] e = (refl, refl, tt)
without_last [] (c ∷ cs) e = absurd (omega arith)
without_last (n ∷ ns) [] e = absurd (omega arith)
without_last (n ∷ ns) (c ∷ cs) e = inl (refl, refl, without_last ns cs (omega arith))

-- the chunks of partial results, by groups and by axes
pub same_chunks : (axes : Axes) (first : ℕ) (ss cs : List ℕ) → length ss ≡ length cs → chunk_of_groups (groups_from (has_axis axes) first ss) cs ≡ partial_chunk_from axes first cs
same_chunks axes first [] [] e = refl
same_chunks axes first [] (c ∷ cs) e = absurd (omega arith)
same_chunks axes first (s ∷ ss) [] e = absurd (omega arith)
same_chunks axes first (s ∷ ss) (c ∷ cs) e = by_axis axes first s c ss cs (has_axis axes first) refl (same_chunks axes (first + 1) ss cs (omega arith))
  where
    by_axis : (axes : Axes) (first s c : ℕ) (ss cs : List ℕ) (b : Bool) → has_axis axes first ≡ b → chunk_of_groups (groups_from (has_axis axes) (first + 1) ss) cs ≡ partial_chunk_from axes (first + 1) cs
        → chunk_of_groups (groups_from (has_axis axes) first (s ∷ ss)) (c ∷ cs) ≡ partial_chunk_from axes first (c ∷ cs)
    by_axis axes first s c ss cs true h e = rw (h, e) refl
    by_axis axes first s c ss cs false h e = rw (h, e) refl
