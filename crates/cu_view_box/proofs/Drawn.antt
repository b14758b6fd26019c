-- The elements of a run that come from a block: box by box, and each box along its strides.
use Rattle.std.proofs.Common.{◌≡◌, ◌≢◌, ◌↔◌, ℕ, ◌+◌, ◌-◌, ◌*◌, ◌<◌, ◌≤◌, ◌^◌, List, length, get_or, set, sym, ap, ◌∙◌, subst, arith, inl, inr}
use Rattle.std.proofs.Math.Nat.{le-mul_of_pos_right}
use Rattle.std.proofs.lemmas.Bool.{cases_lt}
use Rattle.std.proofs.lemmas.List.{get_or-set_other}
use Rattle.cu_box.specs.Strided.{HavePlaces, IsEachFromOne, IsStridedCopy}
use Rattle.cu_box.specs.declared.strides.Axis.{Axis}
use Rattle.cu_num.specs.Dtype.{size_of}
use Rattle.cu_num.specs.Element.{bytes_at, element_at, element_bytes}
use Rattle.cu_num.specs.declared.layout.Endian.TheVariants.{Little}
use Rattle.cu_num.specs.declared.types.Dtype.{Dtype}
use Rattle.cu_num.specs.declared.types.Dtype.TheVariants.{Bool, Int8, Int16, Int32, Int64, Uint8, Uint16, Uint32, Uint64}
use Rattle.cu_num.proofs.ElementBytes.{written_at, bytes_at-written_at_same, bytes_at-written_at_other}
use Rattle.cu_shape.specs.Index.{product, place_of, index_at, differences, IsInside}
use Rattle.cu_shape.proofs.Axes.{length-axis_by_axis}
use Rattle.cu_shape.proofs.Places.{inside-length, index-inside, index-place, place-index}
use Rattle.cu_grid.specs.Counts.{IsWithin}
use Rattle.cu_grid.specs.declared.region.Region.{Region}
use Rattle.cu_grid.proofs.Meeting.{within_of}
use Rattle.cu_grid.proofs.Regions.{inside-at}
use Rattle.cu_view_box.specs.Along.{AreAxesOf}
use Rattle.cu_view_box.specs.Block.{buffer_place, IsBlock, AreSpelled}
use Rattle.cu_view_box.specs.Drawn.{place_in_run, IsRunIn, AreDrawn, AreOthersUndrawn, IsOfRun, IsPartDrawn, IsPartKept, IsWholeBehind, IsTogether, IsRunOf}
use Rattle.cu_view_box.specs.Reshape.{reshaped, IsDrawn, AreOthersLeft, IsPart}
use Rattle.cu_view_box.specs.declared.block.Block.{Block}
use Rattle.cu_view_box.specs.declared.runs.Run.{Run}
use Rattle.cu_view_box.proofs.Strided.{MovesAlike, block_alike, place_alike, part_places, part_each, part_copied, part_kept, copied_number, kept_bytes}
use Rattle.cu_view_box.proofs.Reshapes.{places_between}
use Rattle.cu_view_box.proofs.Rows.{place_fits, place_one}
use Rattle.cu_view_box.proofs.RunBoxes.{IsRunBox, AgreeBehind, run_size, run_box_from, agree_from, run_within, at_run, of_run, exactly_of, as_far}
use Rattle.cu_view_box.proofs.Stretches.{stretch}

size_positive : (t : Dtype) → 0 < size_of t
size_positive Bool = omega arith
size_positive Int8 = omega arith
size_positive Int16 = omega arith
size_positive Int32 = omega arith
size_positive Int64 = omega arith
size_positive Uint8 = omega arith
size_positive Uint16 = omega arith
size_positive Uint32 = omega arith
size_positive Uint64 = omega arith

-- ---- box by box
pub drawn_on : (source : List ℕ) (from to : Block) (bytes : List ℕ) (run : Run) (start mid stop : ℕ) (now new : List ℕ) → run.first ≤ start → start ≤ mid
    → AreDrawn source from bytes to run start mid now → AreDrawn source from bytes to run mid stop new → AreOthersUndrawn source from to run mid stop now new
    → AreDrawn source from bytes to run start stop new
drawn_on source from to bytes run start mid stop now new low order was drawn left x a b w =
    elim (cases_lt x mid) [
      | inl less ↦
          left (place_in_run run x)
          (λ y c d v e. (let same : run.at + (y - run.first) ≡ run.at + (x - run.first) = e in absurd (omega (arith, same))))
          ∙ was x a less w
      | inr more ↦ drawn x more b w
    ]

pub undrawn_on : (source : List ℕ) (from to : Block) (run : Run) (start mid stop : ℕ) (old now new : List ℕ) → start ≤ mid → mid ≤ stop
    → AreOthersUndrawn source from to run start mid old now → AreOthersUndrawn source from to run mid stop now new → AreOthersUndrawn source from to run start stop old new
undrawn_on source from to run start mid stop old now new first second was left q off =
    left q (λ x a b w. off x (omega arith) b w) ∙ was q (λ x a b w. off x a (omega arith) w)

-- ---- one box
module _ (source : List ℕ) (from to : Block) (run : Run) (first stop : ℕ) (box part : Region)
    (boxed : (idx : List ℕ) → IsWithin box.lo box.hi idx ↔ (IsInside source idx × (first ≤ place_of source idx) × (place_of source idx < stop)))
    (both : (idx : List ℕ) → IsWithin part.lo part.hi idx ↔ (IsWithin box.lo box.hi idx × IsWithin from.region.lo from.region.hi idx))
    (low : run.first ≤ first) (high : stop ≤ run.end) (within : run.end ≤ product source) where
  of_box : (idx : List ℕ) → IsWithin part.lo part.hi idx → IsInside source idx × (first ≤ place_of source idx) × (place_of source idx < stop)
  of_box idx w = (boxed idx).0 ((both idx).0 w).0

  pub part_of_run : IsOfRun source from run part
  part_of_run = record {
    of_block = λ idx w. ((both idx).0 w).1;
    inside = λ idx w. (of_box idx w).0;
    low = λ idx w. (let p = (of_box idx w).1 in omega (arith, p));
    high = λ idx w. (let p = (of_box idx w).2 in omega (arith, p));
  }

  pub box_drawn : (bytes new : List ℕ) → IsPartDrawn source from bytes to run part new → AreDrawn source from bytes to run first stop new
  box_drawn bytes new drawn x a b w =
      let below : x < product source = omega arith in
      let at : place_of source (index_at source x) ≡ x = place-index source x below in
      let there : IsWithin box.lo box.hi (index_at source x) = (boxed (index_at source x)).1 (index-inside source x below, omega (arith, at), omega (arith, at)) in
      subst (λ (y : ℕ). bytes_at to.dtype new (place_in_run run y) ≡ element_bytes Little to.dtype (element_at Little from.dtype bytes (buffer_place from (index_at source x)))) at
      (drawn (index_at source x) ((both (index_at source x)).1 (there, w)))

  pub box_kept : (old new : List ℕ) → IsPartKept source to run part old new → AreOthersUndrawn source from to run first stop old new
  box_kept old new kept q off =
      kept q
      (λ idx w e. (let p = of_box idx w in
      off (place_of source idx) p.1 p.2 (subst (λ (is : List ℕ). IsWithin from.region.lo from.region.hi is) (sym (index-place source idx p.0)) ((both idx).0 w).1) e))

  pub part_one : stop ≡ first + 1 → IsWithin part.lo part.hi part.lo → (idx : List ℕ) → IsWithin part.lo part.hi idx → idx ≡ part.lo
  part_one one some idx w =
      let p = of_box idx w in
      let q = of_box part.lo some in
      let p1 = p.1 in
      let p2 = p.2 in
      let q1 = q.1 in
      let q2 = q.2 in
      let same : place_of source idx ≡ place_of source part.lo = omega (arith, p1, p2, q1, q2) in
      sym (index-place source idx p.0) ∙ (ap (index_at source) same ∙ index-place source part.lo q.0)

-- ---- a box along its strides
module _ (source : List ℕ) (from to : Block) (bytes old : List ℕ) (run : Run) (part : Region) (axes : List Axis) (first_from first_to size : ℕ)
    (block : IsBlock from bytes) (room : IsRunIn source to run (length old)) (same : from.dtype ≡ to.dtype) (sized : size ≡ size_of to.dtype)
    (some : IsWithin part.lo part.hi part.lo) (of : IsOfRun source from run part) (long : length axes ≡ length part.lo)
    (are : AreAxesOf (λ idx. buffer_place from idx) (λ idx. place_in_run run (place_of source idx)) part axes (length part.lo))
    (is_from : first_from ≡ buffer_place from part.lo) (is_to : first_to ≡ place_in_run run (place_of source part.lo)) where
  abbrev read : List ℕ → ℕ
  read idx = buffer_place from idx

  abbrev written : List ℕ → ℕ
  written idx = place_in_run run (place_of source idx)

  read_moves : MovesAlike (λ idx. buffer_place from idx) part.lo part.hi
  read_moves = block_alike from part some of.of_block

  write_moves : MovesAlike (λ idx. place_in_run run (place_of source idx)) part.lo part.hi
  write_moves = record {
    alike = λ idx k b w w1 l1.
        (let e = (place_alike source part.lo part.hi).alike idx k b w w1 l1 in
        let p = of.low idx w in
        let p1 = of.low (set idx k (get_or idx k 0 + 1)) w1 in
        let q = of.low part.lo some in
        let q1 = of.low (set part.lo k (get_or part.lo k 0 + 1)) l1 in
        omega (arith, e, p, p1, q, q1));
  }

  size_from : size ≡ size_of from.dtype
  size_from = sized ∙ ap size_of (sym same)

  read_room : (idx : List ℕ) → IsWithin part.lo part.hi idx → read idx * size + size ≤ length bytes
  read_room idx w = subst (λ (s : ℕ). read idx * s + s ≤ length bytes) (sym size_from) (place_fits from bytes idx block (of.of_block idx w))

  write_room : (idx : List ℕ) → IsWithin part.lo part.hi idx → written idx * size + size ≤ length old
  write_room idx w = subst (λ (s : ℕ). written idx * s + s ≤ length old) (sym sized) (room.fits (place_of source idx) (of.low idx w) (of.high idx w))

  write_once : (idx other : List ℕ) → IsWithin part.lo part.hi idx → IsWithin part.lo part.hi other → written idx ≡ written other → idx ≡ other
  write_once idx other w v e =
      let p = of.low idx w in
      let q = of.low other v in
      let at : run.at + (place_of source idx - run.first) ≡ run.at + (place_of source other - run.first) = e in
      let one : place_of source idx ≡ place_of source other = omega (arith, p, q, at) in
      sym (index-place source idx (of.inside idx w)) ∙ (ap (index_at source) one ∙ index-place source other (of.inside other v))

  pub box_places : HavePlaces size axes (record { from = first_from; to = first_to }) (length bytes) (length old)
  box_places = part_places (λ i. buffer_place from i) (λ i. place_in_run run (place_of source i)) part bytes old axes first_from first_to size some read_moves write_moves
      read_room write_room write_once long are is_from is_to

  pub box_each : IsEachFromOne size axes (record { from = first_from; to = first_to }) bytes
  box_each = part_each (λ i. buffer_place from i) (λ i. place_in_run run (place_of source i)) part bytes old axes first_from first_to size some read_moves write_moves
      read_room write_room write_once long are is_from is_to

  module _ (new : List ℕ) (c : IsStridedCopy size Little axes (record { from = first_from; to = first_to }) bytes old new) where
    pub box_moved : AreSpelled from.dtype bytes → IsPartDrawn source from bytes to run part new
    box_moved spelled idx w =
        copied_number from to size bytes new (read idx) (written idx) same sized spelled (place_fits from bytes idx block (of.of_block idx w))
        (part_copied (λ i. buffer_place from i) (λ i. place_in_run run (place_of source i)) part bytes old axes first_from first_to size some read_moves write_moves
        read_room write_room write_once long are is_from is_to new c idx w)

    pub box_others : IsPartKept source to run part old new
    box_others q off =
        kept_bytes to size old new q sized
        (part_kept (λ i. buffer_place from i) (λ i. place_in_run run (place_of source i)) part bytes old axes first_from first_to size some read_moves write_moves
        read_room write_room write_once long are is_from is_to new c q off)

-- ---- one element
pub number_drawn : (source : List ℕ) (from to : Block) (bytes old new own : List ℕ) (run : Run) (part : Region) (at : ℕ)
    → ((idx : List ℕ) → IsWithin part.lo part.hi idx → idx ≡ part.lo) → at ≡ place_in_run run (place_of source part.lo) → at * size_of to.dtype + size_of to.dtype ≤ length old
    → length own ≡ size_of to.dtype → own ≡ element_bytes Little to.dtype (element_at Little from.dtype bytes (buffer_place from part.lo))
    → new ≡ written_at to.dtype old at own → IsPartDrawn source from bytes to run part new
number_drawn source from to bytes old new own run part at one is room long value wrote idx w =
    let here = ap (λ all. bytes_at to.dtype all at) wrote ∙ (bytes_at-written_at_same to.dtype old own at long room ∙ value) in
    let same : idx ≡ part.lo = one idx w in
    subst (λ (i : List ℕ). bytes_at to.dtype new (place_in_run run (place_of source i)) ≡ element_bytes Little to.dtype (element_at Little from.dtype bytes (buffer_place from i))) (sym same)
    (subst (λ (p : ℕ). bytes_at to.dtype new p ≡ element_bytes Little to.dtype (element_at Little from.dtype bytes (buffer_place from part.lo))) is here)

pub number_kept : (source : List ℕ) (to : Block) (old new own : List ℕ) (run : Run) (part : Region) (at : ℕ) → IsWithin part.lo part.hi part.lo
    → at ≡ place_in_run run (place_of source part.lo) → at * size_of to.dtype + size_of to.dtype ≤ length old
    → length own ≡ size_of to.dtype → new ≡ written_at to.dtype old at own → IsPartKept source to run part old new
number_kept source to old new own run part at some is room long wrote q off =
    ap (λ all. bytes_at to.dtype all q) wrote ∙ bytes_at-written_at_other to.dtype old own at q (λ e. off part.lo some (sym is ∙ sym e)) long room

-- ---- a part of a reshape's result as a run
module _ (shape : List ℕ) (part : Region) (to : Block) (output : List ℕ) (last : List ℕ) (first last_place at bytes : ℕ)
    (is_part : IsPart shape part to) (together : IsTogether shape part to.dims) (block : IsBlock to output)
    (last_within : IsWithin part.lo part.hi last) (ends : (k : ℕ) → k < length part.lo → get_or last k 0 ≡ get_or part.hi k 0 - 1)
    (first_is : first ≡ place_of shape part.lo) (last_is : last_place ≡ place_of shape last) (at_is : at ≡ buffer_place to part.lo)
    (bytes_are : bytes ≡ length output) (few : bytes < 2 ^ 64) where
  lo_rank : length part.lo ≡ length shape
  lo_rank = inside-length shape part.lo (is_part.inside part.lo is_part.some)

  hi_rank : length part.hi ≡ length shape
  hi_rank = let r = (within_of part.lo part.hi part.lo is_part.some).hi_rank in r ∙ lo_rank

  each : (k : ℕ) → k < length shape → (get_or part.lo k 0 < get_or part.hi k 0) × (get_or part.hi k 0 ≤ get_or shape k 0)
  each k b =
      let l = lo_rank in
      let v = (within_of part.lo part.hi part.lo is_part.some).at k (omega arith) in
      let v1 = v.1 in
      let e = ends k (omega arith) in
      let i = inside-at shape last k (is_part.inside last last_within) b in
      (v1, omega (arith, v1, e, i))

  is_box : IsRunBox shape part.lo part.hi together.axis
  is_box = run_box_from shape part.lo part.hi together.axis lo_rank hi_rank each together.single (λ k b c. (let w = together.whole k b c in (w.0, w.1)))

  size_is : last_place + 1 ≡ place_of shape part.lo + run_size shape part.lo part.hi together.axis
  size_is =
      let a = at_run shape part.lo part.hi together.axis is_box last last_within in
      let f = at_run shape part.lo part.hi together.axis is_box part.lo is_part.some in
      let ah = a.high in
      let fh = f.high in
      let end : place_of shape part.lo + run_size shape part.lo part.hi together.axis ≤ product shape = run_within shape part.lo part.hi together.axis is_box in
      let below : place_of shape part.lo + run_size shape part.lo part.hi together.axis - 1 < product shape = omega (arith, fh, end) in
      let there : place_of shape (index_at shape (place_of shape part.lo + run_size shape part.lo part.hi together.axis - 1)) ≡ place_of shape part.lo + run_size shape part.lo part.hi together.axis - 1 =
      place-index shape (place_of shape part.lo + run_size shape part.lo part.hi together.axis - 1) below in
      let w = of_run shape part.lo part.hi together.axis is_box (index_at shape (place_of shape part.lo + run_size shape part.lo part.hi together.axis - 1))
      (record {
        inside = index-inside shape (place_of shape part.lo + run_size shape part.lo part.hi together.axis - 1) below;
        low = omega (arith, there, fh);
        high = omega (arith, there, fh);
      }) in
      let b = (places_between shape part.lo part.hi last (index_at shape (place_of shape part.lo + run_size shape part.lo part.hi together.axis - 1)) is_part.some last_within ends w).1 in
      omega (arith, ah, fh, b, there, last_is)

  exactly : (idx : List ℕ) → IsWithin part.lo part.hi idx ↔ (IsInside shape idx × (first ≤ place_of shape idx) × (place_of shape idx < last_place + 1))
  exactly = exactly_of shape part.lo part.hi together.axis first (last_place + 1) is_box first_is size_is

  dims_rank : length to.dims ≡ length shape
  dims_rank =
      let v = within_of to.region.lo to.region.hi part.lo (is_part.of_result part.lo is_part.some) in
      let i = inside-length to.dims (differences part.lo to.region.lo) (block.inside part.lo (is_part.of_result part.lo is_part.some)) in
      let d = length-axis_by_axis (λ i j. i - j) part.lo to.region.lo (sym v.lo_rank) in
      sym i ∙ (d ∙ lo_rank)

  stands : (idx : List ℕ) → IsWithin part.lo part.hi idx → buffer_place to idx ≡ at + (place_of shape idx - first)
  stands idx w =
      let g : AgreeBehind shape to.dims together.axis = agree_from shape to.dims together.axis dims_rank (λ k b c. (together.whole k b c).2) in
      let far = as_far shape to.dims to.region.lo to.region.hi part.lo part.hi together.axis is_box g (is_part.of_result part.lo is_part.some) idx w in
      let l = (at_run shape part.lo part.hi together.axis is_box idx w).low in
      omega (arith, far, l, first_is, at_is)

  pub is_run : IsRunOf shape part to (record { first = first; end = last_place + 1; at = at })
  is_run = record {
    order = (let a = (exactly last).0 last_within in let p = a.1 in let q = a.2 in omega (arith, p, q));
    inside = (let e = run_within shape part.lo part.hi together.axis is_box in let s = size_is in omega (arith, e, s));
    small = (let p = place_fits to output last block (is_part.of_result last last_within) in
        let s = stands last last_within in
        let w = (exactly last).0 last_within in
        let l = w.1 in
        let some = size_positive to.dtype in
        let more : buffer_place to last ≤ buffer_place to last * size_of to.dtype = le-mul_of_pos_right (buffer_place to last) some in
        omega (arith, p, s, l, last_is, some, more, bytes_are, few));
    exactly = exactly;
    stands = stands;
  }

-- ---- what is drawn of a run is drawn of the part
module _ (source shape : List ℕ) (part : Region) (from to : Block) (bytes old : List ℕ) (run : Run) (is_part : IsPart shape part to) (block : IsBlock to old)
    (same : product source ≡ product shape) (is : IsRunOf shape part to run) where
  in_part : (x : ℕ) → run.first ≤ x → x < run.end → IsWithin part.lo part.hi (index_at shape x) × (place_of shape (index_at shape x) ≡ x)
  in_part x a b =
      let i = is.inside in
      let below : x < product shape = omega (arith, i) in
      let at : place_of shape (index_at shape x) ≡ x = place-index shape x below in
      ((is.exactly (index_at shape x)).1 (index-inside shape x below, omega (arith, at), omega (arith, at)), at)

  pub run_in : IsRunIn source to run (length old)
  run_in = record {
    order = (let o = is.order in omega (arith, o));
    inside = (let i = is.inside in omega (arith, i, same));
    small = is.small;
    fits = λ x a b.
        (let p = in_part x a b in
        subst (λ (q : ℕ). q * size_of to.dtype + size_of to.dtype ≤ length old) (is.stands (index_at shape x) p.0 ∙ ap (place_in_run run) p.1)
        (place_fits to old (index_at shape x) block (is_part.of_result (index_at shape x) p.0)));
  }

  pub part_drawn : (new : List ℕ) → AreDrawn source from bytes to run run.first run.end new → IsDrawn (reshaped source shape) part from bytes to new
  part_drawn new drawn idx w read =
      let p = (is.exactly idx).0 w in
      ap (bytes_at to.dtype new) (is.stands idx w) ∙ drawn (place_of shape idx) p.1 p.2 read

  pub part_left : (new : List ℕ) → AreOthersUndrawn source from to run run.first run.end old new → AreOthersLeft (reshaped source shape) part from to old new
  part_left new left idx w off =
      left (buffer_place to idx)
      (λ x a b v e.
      (let p = in_part x a b in
      let at : buffer_place to (index_at shape x) ≡ buffer_place to idx = is.stands (index_at shape x) p.0 ∙ (ap (place_in_run run) p.1 ∙ e) in
      let one : index_at shape x ≡ idx = place_one to old (index_at shape x) idx block (is_part.of_result (index_at shape x) p.0) w at in
      off (
        subst (λ (i : List ℕ). IsWithin part.lo part.hi i) one p.0,
        subst (λ (i : List ℕ). IsWithin from.region.lo from.region.hi (index_at source (place_of shape i))) one
            (subst (λ (y : ℕ). IsWithin from.region.lo from.region.hi (index_at source y)) (sym p.1) v),
      )))

-- ---- slices of a part
pub whole_still : (shape : List ℕ) (part : Region) (dims : List ℕ) (level start stop end : ℕ) → level < end → IsWholeBehind shape part dims end → IsWholeBehind shape (stretch part level start stop) dims end
whole_still shape part dims level start stop end below whole k b c =
    let apart : k ≢ level = omega arith in
    let w = whole k b c in
    (get_or-set_other part.lo level k start 0 apart ∙ w.0, get_or-set_other part.hi level k stop 0 apart ∙ w.1, w.2)
