-- What the ways of each view read.
use Rattle.std.proofs.Common.{◌≡◌, ◌≢◌, ℕ, zero, suc, ◌+◌, ◌-◌, ◌^◌, ◌<◌, ◌≤◌, ◌==◌, nat_lt, ℤ, pos, List, [], ◌∷◌, length, drop, get_or, refl, ap, ◌∙◌, sym, arith, inl, inr, if◌then◌else◌}
use Rattle.std.specs.Prelude.{remove}
use Rattle.std.specs.List.{position_or_len, sum_by}
use Rattle.std.proofs.lemmas.Bool.Decides.{eqb_tells, nat_tests}
use Rattle.std.proofs.lemmas.List.{get_or-drop, length-drop}
use Rattle.std.proofs.lemmas.List.Edits.{get_or-remove_below, get_or-remove_above}
use Rattle.std.proofs.lemmas.List.FromFn.{get_or-map-range_with_len}
use Rattle.cu_shape.specs.Index.{place_of, index_at, IsInside, back, back_along}
use Rattle.cu_shape.proofs.Places.{inside-length, index-place}
use Rattle.cu_origin.specs.Pull.{permuted, permuted_on, flipped, flipped_on, has_axis, rolled, rolled_on, concat_from}
use Rattle.cu_origin.specs.declared.axes.Axes.{Axes}
use Rattle.cu_origin.specs.declared.provenance.Provenance.{Provenance}
use Rattle.cu_origin.proofs.AxesInside.{inside_at, by_test}
use Rattle.cu_view_box.specs.Piece.{count_along, IsWayOver}
use Rattle.cu_view_box.specs.Way.{read_by}
use Rattle.cu_view_box.specs.declared.way.Way.{Way}
use Rattle.cu_view_box.specs.declared.way.Way.TheVariants.{Fixed, Up, Down}
use Rattle.cu_view.specs.Boxes.{offset_of, range_begin, index_of_source}
use Rattle.cu_view.specs.Pieces.{turn_on, ranges_of, range_on, range_at, source_number}
use Rattle.cu_view.proofs.Concats.{concat_at, concat_exactly}
use Rattle.cu_view.proofs.Fitting.{ltb_tells}
use Rattle.cu_view.proofs.Ranges.{set_at}
use Rattle.cu_view.proofs.Rolls.{ranges_inside, get_or-range_at, turn_within}
use Rattle.cu_view.proofs.Turned.{rolled_value}

-- what a way reads of a box that begins at `lo`
abbrev pub read_in : List ℕ → List ℕ → Way → ℕ
read_in lo idx way = read_by way (count_along lo idx way)

-- a way upward by one index for each index of the result
pub read_along : (lo idx : List ℕ) (way : Way) (a first from v : ℕ) → way ≡ Up a first 1 → get_or lo a 0 ≡ from → first + (get_or idx a 0 - from) ≡ v → read_in lo idx way ≡ v
read_along lo idx way a first from v e z h = rw e (omega arith)

pub along_over : (lo hi : List ℕ) (way : Way) (a first : ℕ) → way ≡ Up a first 1 → a < length lo → IsWayOver lo hi way
along_over lo hi way a first e l = rw e (l, omega arith)

-- ---- axes in another order

pub permuted_reads : (axes lo idx : List ℕ) (way : Way) (a axis : ℕ) → way ≡ Up a 0 1 → a ≡ position_or_len (λ x. x == axis) axes → axis < length axes → get_or lo a 0 ≡ 0
    → read_in lo idx way ≡ get_or (permuted axes idx) axis 0
permuted_reads axes lo idx way a axis e p l z =
    let v : get_or (permuted axes idx) axis 0 ≡ permuted_on axes idx axis = get_or-map-range_with_len (permuted_on axes idx) 0 (length axes) axis axis 0 l (omega arith) in
    let q : get_or idx a 0 ≡ permuted_on axes idx axis = ap (λ (k : ℕ). get_or idx k 0) p in
    read_along lo idx way a 0 0 (get_or (permuted axes idx) axis 0) e z (omega arith)

-- ---- axes turned round

pub flipped_reads : (axes : Axes) (lo shape idx : List ℕ) (way : Way) (axis : ℕ) → way ≡ (if has_axis axes axis then Down axis (get_or shape axis 0 - 1) 1 else Up axis 0 1) → axis < length shape → get_or lo axis 0 ≡ 0
    → read_in lo idx way ≡ get_or (flipped axes shape idx) axis 0
flipped_reads axes lo shape idx way axis e l z =
    let v : get_or (flipped axes shape idx) axis 0 ≡ flipped_on axes shape idx axis = get_or-map-range_with_len (flipped_on axes shape idx) 0 (length shape) axis axis 0 l (omega arith) in
    elim (by_test (has_axis axes axis)) [
      | inl t ↦
          let d : way ≡ Down axis (get_or shape axis 0 - 1) 1 = rw t at e in
          let u : get_or (flipped axes shape idx) axis 0 ≡ get_or shape axis 0 - 1 - get_or idx axis 0 = rw t at v in
          rw d (omega arith)
      | inr t ↦
          let d : way ≡ Up axis 0 1 = rw t at e in
          let u : get_or (flipped axes shape idx) axis 0 ≡ get_or idx axis 0 = rw t at v in
          rw d (omega arith)
    ]

pub flipped_over : (axes : Axes) (lo hi shape : List ℕ) (way : Way) (axis : ℕ) → way ≡ (if has_axis axes axis then Down axis (get_or shape axis 0 - 1) 1 else Up axis 0 1) → axis < length lo → get_or hi axis 0 ≤ get_or shape axis 0 → get_or shape axis 0 ≤ 2 ^ 56
    → IsWayOver lo hi way
flipped_over axes lo hi shape way axis e l m s =
    elim (by_test (has_axis axes axis)) [
      | inl t ↦
          let d : way ≡ Down axis (get_or shape axis 0 - 1) 1 = rw t at e in
          rw d (l, (omega arith, omega arith, λ k b. omega arith))
      | inr t ↦
          let d : way ≡ Up axis 0 1 = rw t at e in
          rw d (l, omega arith)
    ]

-- ---- broadcasting

get_or-back_along : (ns is : List ℕ) (k : ℕ) → k < length ns → k < length is → get_or (back_along ns is) k 0 ≡ (if get_or ns k 0 == 1 then 0 else get_or is k 0)
get_or-back_along [] is k p q = absurd (omega arith)
get_or-back_along (n ∷ ns) [] k p q = absurd (omega arith)
get_or-back_along (n ∷ ns) (i ∷ is) zero p q = refl
get_or-back_along (n ∷ ns) (i ∷ is) (suc k) p q = get_or-back_along ns is k (omega arith) (omega arith)

pub broadcast_reads : (source lo shape idx : List ℕ) (way : Way) (axis : ℕ) → way ≡ (if get_or source axis 0 == 1 then Fixed 0 else Up (length shape - length source + axis) 0 1) → axis < length source → length source ≤ length shape → IsInside shape idx
    → get_or lo (length shape - length source + axis) 0 ≡ 0 → read_in lo idx way ≡ get_or (back source idx) axis 0
broadcast_reads source lo shape idx way axis e l m h z =
    let n = inside-length shape idx h in
    let first = length idx - length source in
    let d : length (drop first idx) ≡ length idx - first = length-drop first idx in
    let v : get_or (back source idx) axis 0 ≡ (if get_or source axis 0 == 1 then 0 else get_or (drop first idx) axis 0) = get_or-back_along source (drop first idx) axis l (omega arith) in
    let g : get_or (drop first idx) axis 0 ≡ get_or idx (first + axis) 0 = get_or-drop first idx axis 0 in
    let p : get_or idx (first + axis) 0 ≡ get_or idx (length shape - length source + axis) 0 = ap (λ (k : ℕ). get_or idx (k - length source + axis) 0) n in
    elim (eqb_tells (get_or source axis 0) 1) [
      | inl t ↦
          let w : way ≡ Fixed 0 = rw t.0 at e in
          let u : get_or (back source idx) axis 0 ≡ 0 = rw t.0 at v in
          rw w (omega arith)
      | inr t ↦
          let w : way ≡ Up (length shape - length source + axis) 0 1 = rw t.0 at e in
          let u : get_or (back source idx) axis 0 ≡ get_or (drop first idx) axis 0 = rw t.0 at v in
          read_along lo idx way (length shape - length source + axis) 0 0 (get_or (back source idx) axis 0) w z (omega arith)
    ]

pub broadcast_over : (source lo hi shape : List ℕ) (way : Way) (axis : ℕ) → way ≡ (if get_or source axis 0 == 1 then Fixed 0 else Up (length shape - length source + axis) 0 1) → axis < length source → length source ≤ length shape → length lo ≡ length shape
    → IsWayOver lo hi way
broadcast_over source lo hi shape way axis e l m n =
    elim (eqb_tells (get_or source axis 0) 1) [
      | inl t ↦ let w : way ≡ Fixed 0 = rw t.0 at e in rw w tt
      | inr t ↦ let w : way ≡ Up (length shape - length source + axis) 0 1 = rw t.0 at e in along_over lo hi way (length shape - length source + axis) 0 w (omega arith)
    ]

-- ---- rolls

-- on one axis, an index of the range that was chosen
in_chosen : (turn chosen i n lo first v : ℕ) → (if nat_lt i turn then 1 else 0) ≡ chosen → i < n → turn ≤ n → lo ≡ (if chosen == 0 then turn else 0) → first ≡ (if chosen == 0 then 0 else n - turn)
    → v ≡ (if nat_lt i turn then i + n - turn else i - turn) → first + (i - lo) ≡ v
in_chosen turn chosen i n lo first v e b t l f g = grind (arith, nat_tests)

pub rolled_reads : (shifts : List ℤ) (lo shape idx : List ℕ) (number : ℕ) (way : Way) (axis : ℕ) → way ≡ Up axis (if get_or (index_at (ranges_of shifts shape) number) axis 0 == 0 then 0 else get_or shape axis 0 - turn_on shifts shape axis) 1 → axis < length shape
    → get_or lo axis 0 ≡ range_begin shifts shape number axis → IsInside shape idx → place_of (ranges_of shifts shape) (range_at shifts shape idx) ≡ number
    → read_in lo idx way ≡ get_or (rolled shifts shape idx) axis 0
rolled_reads shifts lo shape idx number way axis e l z h p =
    let v : get_or (rolled shifts shape idx) axis 0 ≡ rolled_on shifts shape idx axis = get_or-map-range_with_len (rolled_on shifts shape idx) 0 (length shape) axis axis 0 l (omega arith) in
    let b : get_or idx axis 0 < get_or shape axis 0 = inside_at shape idx axis h l in
    let u = rolled_value (get_or shifts axis (pos 0)) (get_or shape axis 0) (get_or idx axis 0) b in
    let s : range_at shifts shape idx ≡ index_at (ranges_of shifts shape) number = sym (index-place (ranges_of shifts shape) (range_at shifts shape idx) (ranges_inside shifts shape idx)) ∙ ap (λ (x : ℕ). index_at (ranges_of shifts shape) x) p in
    let r : range_on shifts shape idx axis ≡ get_or (index_at (ranges_of shifts shape) number) axis 0 = sym (get_or-range_at shifts shape idx axis l) ∙ ap (λ (x : List ℕ). get_or x axis 0) s in
    read_along lo idx way axis (if get_or (index_at (ranges_of shifts shape) number) axis 0 == 0 then 0 else get_or shape axis 0 - turn_on shifts shape axis) (range_begin shifts shape number axis) (get_or (rolled shifts shape idx) axis 0) e z
    (in_chosen (turn_on shifts shape axis) (get_or (index_at (ranges_of shifts shape) number) axis 0) (get_or idx axis 0) (get_or shape axis 0) (range_begin shifts shape number axis) _ (get_or (rolled shifts shape idx) axis 0)
    r b (turn_within (get_or shifts axis (pos 0)) (get_or shape axis 0)) refl refl (v ∙ u))

-- ---- arrays along a new axis, and one behind the other

pub stacked_reads : (lo idx : List ℕ) (way : Way) (new axis number : ℕ) → way ≡ Up (if nat_lt axis new then axis else axis + 1) 0 1 → new < length idx → ((d : ℕ) → d < length idx → get_or lo d 0 ≡ (if d == new then number else 0)) → axis + 1 < length idx
    → read_in lo idx way ≡ get_or (remove idx new) axis 0
stacked_reads lo idx way new axis number e l z m =
    elim (ltb_tells axis new) [
      | inl t ↦
          let x = t.1 in
          let w : way ≡ Up axis 0 1 = rw t.0 at e in
          let b : get_or lo axis 0 ≡ 0 = z axis (omega arith) ∙ other axis new number (omega arith) in
          let v : get_or (remove idx new) axis 0 ≡ get_or idx axis 0 = get_or-remove_below idx new 0 axis t.1 l in
          read_along lo idx way axis 0 0 (get_or (remove idx new) axis 0) w b (omega arith)
      | inr t ↦
          let x = t.1 in
          let w : way ≡ Up (axis + 1) 0 1 = rw t.0 at e in
          let b : get_or lo (axis + 1) 0 ≡ 0 = z (axis + 1) m ∙ other (axis + 1) new number (omega arith) in
          let v : get_or (remove idx new) axis 0 ≡ get_or idx (axis + 1) 0 = get_or-remove_above idx new 0 axis t.1 l in
          read_along lo idx way (axis + 1) 0 0 (get_or (remove idx new) axis 0) w b (omega arith)
    ]
  where
    other : (a b n : ℕ) → a ≢ b → (if a == b then n else 0) ≡ 0
    other a b n h = grind (arith, nat_tests)

pub concat_reads : (join : ℕ) (sources : List (List ℕ)) (lo idx : List ℕ) (number : ℕ) (way : Way) (axis : ℕ) → way ≡ Up axis 0 1 → get_or lo axis 0 ≡ (if axis == join then offset_of join sources number else 0) → join < length idx → number < length sources
    → get_or idx join 0 < sum_by (λ source. get_or source join 0) sources → source_number (concat_from join 0 sources idx) ≡ number → read_in lo idx way ≡ get_or (index_of_source (concat_from join 0 sources idx)) axis 0
concat_reads join sources lo idx number way axis e z l n b s =
    let w = (concat_exactly join number sources idx l n b).1 s in
    let c = concat_at join 0 number sources idx l n w.0 w.1 in
    let v : get_or (index_of_source (concat_from join 0 sources idx)) axis 0 ≡ (if axis == join then get_or idx join 0 - offset_of join sources number else get_or idx axis 0) = ap (λ (p : Provenance). get_or (index_of_source p) axis 0) c ∙ set_at idx join (get_or idx join 0 - offset_of join sources number) axis l in
    read_along lo idx way axis 0 (if axis == join then offset_of join sources number else 0) (get_or (index_of_source (concat_from join 0 sources idx)) axis 0) e z (joined (get_or idx axis 0) _ v)
  where
    joined : (i v : ℕ) → v ≡ (if axis == join then get_or idx join 0 - offset_of join sources number else get_or idx axis 0) → 0 + (get_or idx axis 0 - (if axis == join then offset_of join sources number else 0)) ≡ v
    joined i v g = elim (eqb_tells axis join) [
      | inl p ↦ let q : get_or idx axis 0 ≡ get_or idx join 0 = ap (λ (k : ℕ). get_or idx k 0) p.1 in let u = rw p.0 at g in rw p.0 (omega arith)
      | inr p ↦ let u = rw p.0 at g in rw p.0 (omega arith)
    ]
