-- The chunks part the array.
use Rattle.std.proofs.Common.{◌≡◌, ◌<◌, ◌≤◌, ℕ, suc, ◌+◌, ◌*◌, ◌/◌, List, [], ◌∷◌, length, min, All, refl, arith}
use Rattle.std.proofs.Math.Nat.{lt-div-mul-add, div-mul-le_self}
use Rattle.std.proofs.lemmas.Nat.{mod_below, div_below, le-div}
use Rattle.cu_shape.specs.Index.{IsInside, quotients, remainders}
use Rattle.cu_grid.specs.Counts.{counts_of, chunk_lo, chunk_hi, IsWithin}
use Rattle.cu_grid.specs.Grid.{RegularGrid, IsGrid, IsCoordinate, IsInChunk}
use Rattle.cu_shape.proofs.Rounded.{within_counts}

tail_positive : (c : ℕ) (cs : List ℕ) → All (λ n. 0 < n) (c ∷ cs) → All (λ n. 0 < n) cs
tail_positive c cs p k d l = p (suc k) d (omega arith)

-- the chunk of an index has it
has_chunk : (shape chunk idx : List ℕ) → All (λ n. 0 < n) chunk → length chunk ≡ length shape → IsInside shape idx
    → IsInside (counts_of shape chunk) (quotients idx chunk) × IsWithin (chunk_lo chunk (quotients idx chunk)) (chunk_hi shape chunk (quotients idx chunk)) idx × IsInside chunk (remainders idx chunk)
has_chunk [] [] [] p e h = (tt, tt, tt)
has_chunk [] [] (i ∷ is) p e h = absurd h
has_chunk [] (c ∷ cs) is p e h = absurd (omega arith)
has_chunk (n ∷ ns) [] is p e h = absurd (omega arith)
has_chunk (n ∷ ns) (c ∷ cs) [] p e h = absurd h
has_chunk (n ∷ ns) (c ∷ cs) (i ∷ is) p e h =
    let pos : 0 < c = p 0 0 (omega arith) in
    let a : i / c * c ≤ i = div-mul-le_self i c in
    let b : i < i / c * c + c = lt-div-mul-add {a = i} {b = c} pos in
    let inside : i < n = h.0 in
    let rest = has_chunk ns cs is (tail_positive c cs p) (omega arith) h.1 in
    ((within_counts n c (i / c) pos (omega arith), rest.0), (omega arith, omega arith, rest.1), (mod_below i c pos, rest.2))

-- a chunk that has an index is the chunk of its quotients, and the index lies in the array
one_chunk : (shape chunk coord idx : List ℕ) → All (λ n. 0 < n) chunk → length chunk ≡ length shape → IsInside (counts_of shape chunk) coord → IsWithin (chunk_lo chunk coord) (chunk_hi shape chunk coord) idx → (coord ≡ quotients idx chunk) × IsInside shape idx
one_chunk [] [] [] [] p e h w = (refl, tt)
one_chunk [] [] [] (i ∷ is) p e h w = absurd w
one_chunk [] [] (q ∷ qs) idx p e h w = absurd h
one_chunk [] (c ∷ cs) coord idx p e h w = absurd (omega arith)
one_chunk (n ∷ ns) [] coord idx p e h w = absurd (omega arith)
one_chunk (n ∷ ns) (c ∷ cs) [] idx p e h w = absurd h
one_chunk (n ∷ ns) (c ∷ cs) (q ∷ qs) [] p e h w = absurd w
one_chunk (n ∷ ns) (c ∷ cs) (q ∷ qs) (i ∷ is) p e h w =
    let pos : 0 < c = p 0 0 (omega arith) in
    let lo : q * c ≤ i = w.0 in
    let hi : i < min ((q + 1) * c) n = w.1 in
    let a : i / c < q + 1 = div_below i c (q + 1) pos (omega arith) in
    let b : q ≤ i / c = le-div q i c pos lo in
    let same : q ≡ i / c = omega arith in
    let rest = one_chunk ns cs qs is (tail_positive c cs p) (omega arith) h.1 w.2 in
    (cons q (i / c) qs (quotients is cs) same rest.0, (omega arith, rest.1))
  where
    cons : (x y : ℕ) (xs ys : List ℕ) → x ≡ y → xs ≡ ys → x ∷ xs ≡ y ∷ ys
    cons x y xs ys p q = cc

pub has_coordinate : (g : RegularGrid) (idx : List ℕ) → IsGrid g → IsInside g.shape idx → IsCoordinate g (quotients idx g.chunk)
has_coordinate g idx ok h = (has_chunk g.shape g.chunk idx ok.positive ok.ranks h).0

pub lies_within : (g : RegularGrid) (idx : List ℕ) → IsGrid g → IsInside g.shape idx → IsInChunk g (quotients idx g.chunk) idx
lies_within g idx ok h = (has_chunk g.shape g.chunk idx ok.positive ok.ranks h).1

pub inner_inside : (g : RegularGrid) (idx : List ℕ) → IsGrid g → IsInside g.shape idx → IsInside g.chunk (remainders idx g.chunk)
inner_inside g idx ok h = (has_chunk g.shape g.chunk idx ok.positive ok.ranks h).2

pub only_chunk : (g : RegularGrid) (coord idx : List ℕ) → IsGrid g → IsCoordinate g coord → IsInChunk g coord idx → coord ≡ quotients idx g.chunk
only_chunk g coord idx ok c h = (one_chunk g.shape g.chunk coord idx ok.positive ok.ranks c h).0

pub in_array : (g : RegularGrid) (coord idx : List ℕ) → IsGrid g → IsCoordinate g coord → IsInChunk g coord idx → IsInside g.shape idx
in_array g coord idx ok c h = (one_chunk g.shape g.chunk coord idx ok.positive ok.ranks c h).1
