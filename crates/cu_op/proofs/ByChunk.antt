-- The tests of what is read by the chunk say what they say.
use Rattle.cu_grid.specs.Grid.{RegularGrid}
use Rattle.cu_op.proofs.Members.{any_contains}
use Rattle.cu_op.specs.Arrays.{chunk_room, same_grid}
use Rattle.cu_op.specs.Numbers.{stands_in}
use Rattle.cu_op.specs.declared.layout.ArrayInfo.{ArrayInfo}
use Rattle.std.proofs.Common.{◌≡◌, inl, inr, ℕ, ◌≤◌, ◌==◌, ◌&&◌, bytes_eq, true, List, Contains, IsTrue, sym, subst}
use Rattle.std.proofs.lemmas.Bool.{and_parts}
use Rattle.std.proofs.lemmas.Bool.Decides.{eqb_tells}
use Rattle.std.proofs.lemmas.Slice.Eq.{bytes_eq-Decides}

pub told_equal : (a b : ℕ) → IsTrue (a == b) → a ≡ b
told_equal a b h = elim (eqb_tells a b) [ inl p ↦ p.1 | inr n ↦ (let f = n.0 in cc) ]

-- two grids of one shape and one chunk shape are one
pub grids_told : (g h : RegularGrid) → same_grid g h ≡ true → g ≡ h
grids_told g h e =
    let both = and_parts (bytes_eq g.shape h.shape) (bytes_eq g.chunk h.chunk) e in
    let shapes = (bytes_eq-Decides g.shape h.shape).0 both.0 in
    let chunks = (bytes_eq-Decides g.chunk h.chunk).0 both.1 in
    λ i. record { shape = shapes i; chunk = chunks i }

-- an input of a map that has the grid of its result
pub alike_told : (ins : List ℕ) (a : ℕ) (g h : RegularGrid) → IsTrue (stands_in ins a && same_grid g h) → Contains ins a × (g ≡ h)
alike_told ins a g h t =
    let both = and_parts (stands_in ins a) (same_grid g h) t in
    (any_contains ins a both.0, grids_told g h both.1)

-- the source of a reduction
pub room_told : (arrays : List ArrayInfo) (a source most : ℕ) → IsTrue (a == source) → chunk_room arrays source ≤ most → chunk_room arrays a ≤ most
room_told arrays a source most h few = subst (λ (b : ℕ). chunk_room arrays b ≤ most) (sym (told_equal a source h)) few
