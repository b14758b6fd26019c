-- The box that a piece shares with a region of the result and a region of its source, way by way.
use Rattle.std.proofs.Common.{◌≡◌, ◌↔◌, ℕ, ◌+◌, ◌<◌, ◌≤◌, List, length, get_or, refl, sym, ◌∙◌, arith}
use Rattle.std.proofs.lemmas.List.{get_or-map, length-map}
use Rattle.cu_grid.specs.Counts.{IsWithin}
use Rattle.cu_grid.specs.declared.region.Region.{Region}
use Rattle.cu_view_box.specs.Way.{read_by}
use Rattle.cu_view_box.specs.Piece.{count_along, read_by_ways, read_at, IsSharedIndex, HaveRanks}
use Rattle.cu_view_box.specs.declared.piece.Piece.{Piece}
use Rattle.cu_view_box.specs.declared.way.Way.{Way}
use Rattle.cu_view_box.specs.declared.way.Way.TheVariants.{Fixed}
use Rattle.cu_view_box.proofs.Boxes.{tests_more, each_axis}
use Rattle.cu_grid.proofs.Meeting.{within_from}

-- the index that is read on an axis of the source
pub read_axis : (lo idx : List ℕ) (ways ws : List Way) (k : ℕ) → ws ≡ ways → k < length ways
    → get_or (read_by_ways lo ways idx) k 0 ≡ read_by (get_or ws k (Fixed 0)) (count_along lo idx (get_or ws k (Fixed 0)))
read_axis lo idx ways ws k e b = rw e (get_or-map (λ (way : Way). read_by way (count_along lo idx way)) ways k (Fixed 0) 0 b)

-- what is read on an axis lies in the range of that axis
abbrev pub ReadsOn : Piece → List ℕ → List ℕ → List ℕ → ℕ → Type 0
ReadsOn piece plo phi idx k = (get_or plo k 0 ≤ get_or (read_at piece idx) k 0) × (get_or (read_at piece idx) k 0 < get_or phi k 0)

pub reads_more : (piece : Piece) (ws : List Way) (plo phi idx lo hi new_lo new_hi : List ℕ) (k low high : ℕ) {P : Type 0}
    → ws ≡ piece.ways.items → k < length piece.ways.items → low ≡ get_or plo k 0 → high ≡ get_or phi k 0
    → (IsWithin lo hi idx ↔ (P × ((j : ℕ) → j < k → ReadsOn piece plo phi idx j)))
    → (IsWithin new_lo new_hi idx ↔ (IsWithin lo hi idx × (low ≤ read_by (get_or ws k (Fixed 0)) (count_along piece.region.lo idx (get_or ws k (Fixed 0))))
    × (read_by (get_or ws k (Fixed 0)) (count_along piece.region.lo idx (get_or ws k (Fixed 0))) < high)))
    → IsWithin new_lo new_hi idx ↔ (P × ((j : ℕ) → j < k + 1 → ReadsOn piece plo phi idx j))
reads_more piece ws plo phi idx lo hi new_lo new_hi k low high e b el eh was now =
    let r = read_axis piece.region.lo idx piece.ways.items ws k e b in
    tests_more (ReadsOn piece plo phi idx) k was
    (λ w. (let q = now.0 w in let q1 = q.1 in let q2 = q.2 in (q.0, (rw (r, ← el) q1, rw (r, ← eh) q2))), λ p. now.1 (p.0, rw (el, ← r) p.1.0, rw (eh, ← r) p.1.1))

pub shared_exactly : (piece : Piece) (out part : Region) (idx lo hi : List ℕ) (end : ℕ) → HaveRanks piece out part → end ≡ length piece.ways.items
    → (IsWithin lo hi idx ↔ ((IsWithin piece.region.lo piece.region.hi idx × IsWithin out.lo out.hi idx) × ((k : ℕ) → k < end → ReadsOn piece part.lo part.hi idx k)))
    → IsWithin lo hi idx ↔ IsSharedIndex piece out.lo out.hi part.lo part.hi idx
shared_exactly piece out part idx lo hi end ranks ee exact = (
  λ w. (let p = exact.0 w in record {
    of_piece = p.0.0;
    of_out = p.0.1;
    of_part = within_from part.lo part.hi (read_at piece idx) (ranks.part_lo ∙ sym long) (ranks.part_hi ∙ sym long) (λ k b. p.1 k (let l = long in omega arith));
  }),
  λ s. exact.1 ((s.of_piece, s.of_out), each_axis part.lo part.hi (read_at piece idx) end (ee ∙ sym ranks.part_lo) s.of_part),
)
  where
    long : length (read_at piece idx) ≡ length piece.ways.items
    long = length-map piece.ways.items (λ (way : Way). read_by way (count_along piece.region.lo idx way))

pub not_read : (piece : Piece) (ws : List Way) (out part : Region) (idx : List ℕ) (k low high : ℕ)
    → HaveRanks piece out part → ws ≡ piece.ways.items → k < length piece.ways.items → low ≡ get_or part.lo k 0 → high ≡ get_or part.hi k 0
    → (low ≤ read_by (get_or ws k (Fixed 0)) (count_along piece.region.lo idx (get_or ws k (Fixed 0)))
    → ¬ (read_by (get_or ws k (Fixed 0)) (count_along piece.region.lo idx (get_or ws k (Fixed 0))) < high))
    → ¬ IsSharedIndex piece out.lo out.hi part.lo part.hi idx
not_read piece ws out part idx k low high ranks e b el eh off s =
    let r = read_axis piece.region.lo idx piece.ways.items ws k e b in
    let l = ranks.part_lo in
    let p = each_axis part.lo part.hi (read_at piece idx) (length part.lo) refl s.of_part k (omega arith) in
    off (rw (el, ← r) p.0) (rw (eh, ← r) p.1)
