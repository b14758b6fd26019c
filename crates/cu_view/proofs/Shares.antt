-- An index of a piece, what it reads and where its element comes from.
use Rattle.std.proofs.Common.{◌≡◌, ◌≢◌, ℕ, ◌<◌, ◌≤◌, pos, List, [], length, get_or, refl, ap, ◌∙◌, sym, subst, arith, inl, inr}
use Rattle.std.specs.Ordering.{int_eq}
use Rattle.cu_shape.specs.Index.{product, IsInside}
use Rattle.cu_shape.proofs.Places.{place-below}
use Rattle.cu_grid.specs.Counts.{IsRegion, IsWithin}
use Rattle.cu_grid.specs.declared.region.Region.{Region}
use Rattle.cu_origin.specs.Fits.{FitsPull}
use Rattle.cu_origin.specs.Pull.{origin_of, diagonal_of, is_in_triangle, IsInSources}
use Rattle.cu_origin.specs.declared.provenance.Provenance.{Provenance}
use Rattle.cu_origin.specs.declared.provenance.Provenance.TheVariants.{From, Const}
use Rattle.cu_origin.specs.declared.pull.Pull.{Pull}
use Rattle.cu_origin.specs.declared.pull.Pull.TheVariants.{Reshape, Concat, Stack, Roll, Triangle, Full, Arange, Eye}
use Rattle.cu_origin.proofs.AxesInside.{by_test}
use Rattle.cu_origin.proofs.OriginsInside.{inside_sources}
use Rattle.cu_view_box.specs.Piece.{read_at, HaveRanks}
use Rattle.cu_view_box.specs.Reshape.{IsReshape}
use Rattle.cu_view_box.specs.declared.piece.Piece.{Piece}
use Rattle.cu_view.specs.Pieces.{ranges_of, range_at, source_number, pieces_of, number_at, HasAxes, IsShown, IsNumbered}
use Rattle.cu_view.specs.View.{IsView}
use Rattle.cu_view.proofs.Fitting.{one_source, counted}
use Rattle.cu_view.proofs.Ranges.{ends_of}
use Rattle.cu_view.proofs.Rolls.{ranges_inside}

pub same_from : (p : Provenance) (a b : ℕ) (x y : List ℕ) → p ≡ From a x → p ≡ From b y → (a ≡ b) × (x ≡ y)
same_from p a b x y e f = (ap source_number (sym e ∙ f), ap index_of (sym e ∙ f))
  where
    index_of : Provenance → List ℕ
    index_of (From s i) = i
    index_of (Const z) = []

-- an element that comes from a source is shown
pub shown_from : (pull : Pull) (sources : List (List ℕ)) (shape idx : List ℕ) (s : ℕ) (i : List ℕ) → origin_of pull sources shape idx ≡ From s i → IsShown pull idx
shown_from (Triangle lower k) sources shape idx s i e =
    elim (by_test (is_in_triangle lower k idx)) [
      | inl t ↦ t
      | inr t ↦ let f : Const (pos 0) ≡ From s i = rw t at e in cc
    ]
shown_from pull sources shape idx s i e = tt

from_below : (pull : Pull) (sources : List (List ℕ)) (shape idx : List ℕ) (s : ℕ) (i : List ℕ) → FitsPull pull sources shape → IsInside shape idx → origin_of pull sources shape idx ≡ From s i → source_number (origin_of pull sources shape idx) < length sources
from_below pull sources shape idx s i f h e =
    let w = subst (λ (p : Provenance). IsInSources sources p) e (inside_sources pull sources shape idx f h) in
    subst (λ (p : Provenance). source_number p < length sources) (sym e) w.0

-- an element that comes from a source lies in one of the pieces
pub number_below : (pull : Pull) (sources : List (List ℕ)) (shape idx : List ℕ) (s : ℕ) (i : List ℕ) → FitsPull pull sources shape → IsInside shape idx → pull ≢ Reshape → origin_of pull sources shape idx ≡ From s i → number_at pull sources shape idx < pieces_of pull sources shape
number_below Reshape sources shape idx s i f h n e = absurd (n refl)
number_below (Concat axis) sources shape idx s i f h n e = from_below (Concat axis) sources shape idx s i f h e
number_below (Stack axis) sources shape idx s i f h n e = from_below (Stack axis) sources shape idx s i f h e
number_below (Roll shifts) sources shape idx s i f h n e = place-below (ranges_of shifts.items shape) (range_at shifts.items shape idx) (ranges_inside shifts.items shape idx)
number_below (Full value) sources shape idx s i f h n e = cc
number_below (Arange start step) sources shape idx s i f h n e = cc
number_below (Eye k) sources shape idx s i f h n e =
    elim (by_test (int_eq (diagonal_of idx) k)) [
      | inl t ↦ let g : Const (pos 1) ≡ From s i = rw t at e in cc
      | inr t ↦ let g : Const (pos 0) ≡ From s i = rw t at e in cc
    ]
number_below pull sources shape idx s i f h n e = omega arith

-- what is known of an index in its piece
pub record IsInPiece (pull : Pull) (piece : Piece) (s : ℕ) (i idx : List ℕ) : Type 0 where
  pub source : piece.source ≡ s
  pub index : read_at piece idx ≡ i
  pub within : IsWithin piece.region.lo piece.region.hi idx
  pub shown : IsShown pull idx

pub in_piece : (pull : Pull) (sources : List (List ℕ)) (shape idx : List ℕ) (number s : ℕ) (i : List ℕ) (piece : Piece) → IsNumbered pull sources shape number piece → IsInside shape idx → number_at pull sources shape idx ≡ number → origin_of pull sources shape idx ≡ From s i
    → IsInPiece pull piece s i idx
in_piece pull sources shape idx number s i piece n h e o =
    let w = (n.exactly idx h).1 e in
    let t = shown_from pull sources shape idx s i o in
    let q = same_from (origin_of pull sources shape idx) piece.source s (read_at piece idx) i (n.comes idx w t) o in
    record { source = q.0; index = q.1; within = w; shown = t }

pub piece_ranks : (pull : Pull) (sources : List (List ℕ)) (shape : List ℕ) (number s : ℕ) (piece : Piece) (out part : Region) → IsNumbered pull sources shape number piece → piece.source ≡ s → IsRegion shape out.lo out.hi → IsRegion (get_or sources s []) part.lo part.hi
    → HaveRanks piece out part
piece_ranks pull sources shape number s piece out part n e o p =
    let a = ends_of shape piece.region.lo piece.region.hi n.is_piece.region in
    let b = ends_of shape out.lo out.hi o in
    let c = ends_of (get_or sources s []) part.lo part.hi p in
    let r : length piece.ways.items ≡ length (get_or sources s []) = n.rank ∙ ap (λ (k : ℕ). length (get_or sources k [])) e in
    let a0 = a.lo_rank in
    let a1 = a.hi_rank in
    let b0 = b.lo_rank in
    let b1 = b.hi_rank in
    let c0 = c.lo_rank in
    let c1 = c.hi_rank in
    record { of_piece = omega arith; out_lo = omega arith; out_hi = omega arith; part_lo = omega arith; part_hi = omega arith }

-- a triangle's box has two axes
pub has_axes : (pull : Pull) (sources : List (List ℕ)) (shape lo : List ℕ) → FitsPull pull sources shape → length lo ≡ length shape → HasAxes pull (length lo)
has_axes (Triangle lower k) sources shape lo f e =
    let g = one_source (λ (s : List ℕ). (s ≡ shape) × (2 ≤ length shape)) sources f in
    let l = g.holds.1 in
    omega arith
has_axes pull sources shape lo f e = tt

pub is_reshape : (pull : Pull) (sources : List (List ℕ)) (shape : List ℕ) → pull ≡ Reshape → IsView pull sources shape → IsReshape (get_or sources 0 []) shape
is_reshape pull sources shape e v =
    let f = subst (λ (p : Pull). FitsPull p sources shape) e v.fits in
    let g = one_source (λ (s : List ℕ). product s ≡ product shape) sources f in
    let l = g.one in
    record { same = g.holds; small = counted (get_or sources 0 []) (v.source_sizes 0 [] (omega arith)) }

pub only_first : (pull : Pull) (sources : List (List ℕ)) (shape : List ℕ) → pull ≡ Reshape → FitsPull pull sources shape → length sources ≡ 1
only_first pull sources shape e v =
    let f = subst (λ (p : Pull). FitsPull p sources shape) e v in
    let g = one_source (λ (s : List ℕ). product s ≡ product shape) sources f in
    g.one
