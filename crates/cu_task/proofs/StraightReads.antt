-- A region of a view's result that is a chunk of a source, as it stands.
use Rattle.std.specs.Prelude.{IfErr, OnOk}
use Rattle.std.specs.Bool.{OnTrue}
use Rattle.std.proofs.Common.{◌≡◌, Bool, true, false, nat_eq, Result, Ok, Err, ℕ, suc, ◌+◌, ◌-◌, ◌*◌, ◌<◌, ◌≤◌, List, [], ◌∷◌, length, get_or, Option, Some, None, refl, sym, ap, ◌∙◌, subst, arith}
use Rattle.std.proofs.lemmas.Bool.Decides.{Decides-eqb}
use Rattle.std.proofs.lemmas.List.{length-map}
use Rattle.std.proofs.lemmas.Nat.{mul-le, div-mul-add, mod-mul-add}
use Rattle.cu_num.specs.Dtype.{size_of}
use Rattle.cu_num.specs.Element.{element_at, element_bytes}
use Rattle.cu_num.specs.declared.layout.Endian.TheVariants.{Little}
use Rattle.cu_num.specs.declared.types.Dtype.{Dtype}
use Rattle.cu_num.proofs.ElementBytes.{InRange-element_at}
use Rattle.cu_shape.specs.Index.{product, place_of, quotients, remainders, sums, products, differences, IsInside}
use Rattle.cu_shape.proofs.Axes.{axis_by_axis_from, get_or-axis_by_axis, length-axis_by_axis}
use Rattle.cu_shape.proofs.Places.{place-below}
use Rattle.cu_grid.specs.Counts.{IsWithin}
use Rattle.cu_grid.specs.declared.region.Region.{Region}
use Rattle.cu_grid.proofs.Meeting.{within_from, within_of}
use Rattle.cu_codec.specs.Parts.{part_at, place_within}
use Rattle.cu_codec.proofs.Shared.{within_sizes}
use Rattle.cu_origin.specs.declared.provenance.Provenance.TheVariants.{From}
use Rattle.cu_origin.specs.declared.pull.Pull.{Pull as View}
use Rattle.cu_origin.specs.declared.pull.Pull.TheVariants.{Triangle}
use Rattle.cu_store.specs.Held.{Contents}
use Rattle.cu_store.specs.Steps.{Shown, NoChange, Steps}
use Rattle.cu_region.specs.Reading.{HasChunk, HasFront, bytes_of}
use Rattle.cu_region.specs.Writing.{AreElements}
use Rattle.cu_view.specs.Pieces.{IsShown, IsNumbered}
use Rattle.cu_view_box.specs.Piece.{count_along, read_at, HaveRanks}
use Rattle.cu_view_box.specs.Way.{read_by}
use Rattle.cu_view_box.specs.declared.piece.Piece.{Piece}
use Rattle.cu_view_box.specs.declared.way.Way.{Way}
use Rattle.cu_view_box.specs.declared.way.Way.TheVariants.{Fixed, Up}
use Rattle.cu_view_box.proofs.Lined.{spelled_own}
use Rattle.cu_view_box.proofs.SharedBoxes.{read_axis}
use Rattle.cu_op.specs.Arrays.{grid_at, type_at}
use Rattle.cu_op.specs.declared.layout.ArrayInfo.{ArrayInfo}
use Rattle.cu_task.specs.Straight.{IsShift, ReadsFromOn, ReadsFrom, IsShifted, IsInOrder, IsStraight}
use Rattle.cu_task.specs.ViewJobs.{IsSourceChunk, HaveComeFrom, made_in, buffer_room, view_task_of}
use Rattle.cu_task.specs.Views.{source_in, IsSourceKey, IsKnown}
use Rattle.cu_task.specs.declared.views.SourceChunk.{SourceChunk}
use Rattle.cu_task.proofs.JobViews.{fitting, origin_passed}
use Rattle.cu_task.proofs.ViewChunks.{origin_inside, same_index}
use Rattle.cu_task.proofs.ViewElements.{IsInFront, known_later, converts_range, has_element}

-- ---- the test

-- a view that isn't a triangle shows each element of its pieces
pub all_shown : (pull : View) (idx : List ℕ) → ((lower : _) (k : _) → pull ≡ Triangle lower k → ⊥) → IsShown pull idx
all_shown (Triangle lower k) idx none = absurd (none lower k refl)
all_shown pull idx none = tt

-- one axis, by its way
pub shift_reads : (piece : Piece) (ws : List Way) (out : Region) (lo hi base base_hi count first axis : ℕ) → ws ≡ piece.ways.items → axis < length piece.ways.items
    → lo ≡ get_or out.lo axis 0 → hi ≡ get_or out.hi axis 0 → base ≡ get_or piece.region.lo axis 0 → base_hi ≡ get_or piece.region.hi axis 0 → base ≤ lo → hi ≤ base_hi → count ≡ hi - lo
    → IsShift (get_or ws axis (Fixed 0)) axis (lo - base) count first → ReadsFromOn piece out first axis
shift_reads piece ws out lo hi base base_hi count first axis e below el eh eb ebh low high counts shift idx from upto =
    let read = read_axis piece.region.lo idx piece.ways.items ws axis e below in
    let far : get_or idx axis 0 - get_or piece.region.lo axis 0 ≡ (lo - base) + (get_or idx axis 0 - lo) = omega arith in (
      omega arith,
      omega arith,
      read ∙ shift.along piece.region.lo idx ∙ ap (read_by (get_or ws axis (Fixed 0))) far ∙ shift.reads (get_or idx axis 0 - lo) (omega arith) ∙ ap (λ n. first + (get_or idx axis 0 - n)) el,
    )

-- all axes
pub reads_from : (piece : Piece) (out part : Region) (rank : ℕ) → HaveRanks piece out part → rank ≡ length out.lo → length piece.ways.items ≡ rank
    → ((k : ℕ) → k < rank → ReadsFromOn piece out (get_or part.lo k 0) k) → ReadsFrom piece out part.lo
reads_from piece out part rank r er ways axes idx w =
    let v = within_of out.lo out.hi idx w in
    let l0 = v.lo_rank in
    let l1 = r.of_piece in
    let l2 = r.out_lo in
    let l3 = r.part_lo in
    let long : length (read_at piece idx) ≡ length piece.ways.items = length-map piece.ways.items (λ (way : Way). read_by way (count_along piece.region.lo idx way)) in
    let far : length (differences idx out.lo) ≡ length idx = length-axis_by_axis (λ i j. i - j) idx out.lo (sym l0) in
    let on : (k : ℕ) → k < length idx → (get_or piece.region.lo k 0 ≤ get_or idx k 0) × (get_or idx k 0 < get_or piece.region.hi k 0)
    × (get_or (read_at piece idx) k 0 ≡ get_or part.lo k 0 + (get_or idx k 0 - get_or out.lo k 0))
    = λ k b. let h = v.at k b in axes k (omega arith) idx h.0 h.1 in (
      within_from piece.region.lo piece.region.hi idx (omega arith) (omega arith) (λ k b. let o = on k b in (o.0, o.1)),
      axis_by_axis_from (λ i j. i + j) (read_at piece idx) part.lo (differences idx out.lo) (omega arith) (omega arith)
          (λ k b. (on k (omega arith)).2 ∙ ap (λ n. get_or part.lo k 0 + n) (sym (get_or-axis_by_axis (λ i j. i - j) idx out.lo k (omega arith) (omega arith)))),
    )

pub on_true_then : {P Q : Type 0} (b : Bool) → (P → Q) → OnTrue b P → OnTrue b Q
on_true_then true f p = f p
on_true_then false f p = tt

pub on_true_holds : {P : Type 0} (b : Bool) → b ≡ true → OnTrue b P → P
on_true_holds true e p = p
on_true_holds false e p = cc

pub on_equal : {P : Type 0} (a b : ℕ) → (a ≡ b → P) → OnTrue (nat_eq a b) P
on_equal {P} a b f = by_test (nat_eq a b) (Decides-eqb a b).0
  where
    by_test : (t : Bool) → (t ≡ true → a ≡ b) → OnTrue t P
    by_test true tells = f (tells refl)
    by_test false tells = tt

-- ways that read one index after another
pub fixed_shift : (index axis from count first : ℕ) → count ≤ 1 → index ≡ first → IsShift (Fixed index) axis from count first
fixed_shift index axis from count first few same = record { along = λ lo idx. refl; reads = λ t b. omega arith }

pub up_shift : (axis start step from count first : ℕ) → step ≡ 1 → from ≤ first → start ≡ first - from → IsShift (Up axis start step) axis from count first
up_shift axis start step from count first one low same = record {
  along = λ lo idx. refl;
  reads = λ t b.
      let times : (from + t) * step ≡ from + t = ap (λ n. (from + t) * n) one ∙ omega arith in
      omega (arith, times);
}

-- what a piece of the source reads, as the view's rule
pub is_shifted : (chunk : SourceChunk) → IsSourceChunk chunk → (shape : List ℕ) → shape ≡ (grid_at (view_task_of chunk.job.now).arrays (view_task_of chunk.job.now).out).shape
    → (out part : Region) → out.lo ≡ (view_task_of chunk.job.now).lo → out.hi ≡ (view_task_of chunk.job.now).hi
    → (number : ℕ) (piece : Piece) → IsNumbered chunk.job.now.pull.now chunk.job.now.shapes.now shape number piece → piece.source ≡ chunk.source → ((idx : List ℕ) → IsShown chunk.job.now.pull.now idx)
    → ReadsFrom piece out part.lo → IsShifted chunk part.lo
is_shifted chunk h shape es out part low high number piece numbered same shown reads idx w =
    let v = view_task_of chunk.job.now in
    let within : IsWithin out.lo out.hi idx = rw (low, high) w in
    let r = reads idx within in
    sym (origin_passed chunk.job.now h.job shape es idx) ∙ numbered.comes idx r.0 (shown idx) ∙ ap (λ (k : ℕ). From k (read_at piece idx)) same
    ∙ ap (λ (i : List ℕ). From chunk.source i) (r.1 ∙ ap (λ (x : List ℕ). sums part.lo (differences idx x)) low)

pub straight_from : (chunk : SourceChunk) (a made : ArrayInfo) → a ≡ source_in (view_task_of chunk.job.now) chunk.source → made ≡ made_in (view_task_of chunk.job.now)
    → a.layout.dtype ≡ made.layout.dtype → IsInOrder chunk → IsStraight chunk
straight_from chunk a made from to same order = record {
  dtype = ap (λ (x : ArrayInfo). x.layout.dtype) (sym from) ∙ same ∙ ap (λ (x : ArrayInfo). x.layout.dtype) to;
  order = order;
}

pub if_err_then : {T E : Type 0} {P Q : E → Type 0} (r : Result T E) → ((e : E) → P e → Q e) → IfErr r P → IfErr r Q
if_err_then (Ok x) f p = tt
if_err_then (Err e) f p = f e p

-- ---- places in a chunk

-- an index of a chunk by how far it is from the chunk's first
pub shifted_place : (chunk coord r : List ℕ) → length coord ≡ length chunk → IsInside chunk r → (quotients (sums (products coord chunk) r) chunk ≡ coord) × (remainders (sums (products coord chunk) r) chunk ≡ r)
shifted_place [] [] [] rank inside = (refl, refl)
shifted_place [] [] (x ∷ r) rank inside = absurd inside
shifted_place [] (q ∷ coord) r rank inside = absurd (omega arith)
shifted_place (c ∷ chunk) [] r rank inside = absurd (omega arith)
shifted_place (c ∷ chunk) (q ∷ coord) [] rank inside = absurd inside
shifted_place (c ∷ chunk) (q ∷ coord) (x ∷ r) rank inside =
    let rest = shifted_place chunk coord r (omega arith) inside.1 in
    (rw (div-mul-add q c x inside.0, rest.0) refl, rw (mod-mul-add q c x inside.0, rest.1) refl)

-- ---- what is read

front_of_chunk : (info : ArrayInfo) (coord buf : List ℕ) (held : Option Contents) → HasChunk info coord held buf → HasFront info coord held buf
front_of_chunk info coord buf None has = tt
front_of_chunk info coord buf (Some held) has = λ idx inside part far. has idx inside part

module _ (chunk : SourceChunk) (h : IsSourceChunk chunk) (straight : IsStraight chunk) where
  -- the region has the bytes of the chunk
  pub straight_room : buffer_room (view_task_of chunk.job.now) ≡ bytes_of (source_in (view_task_of chunk.job.now) chunk.source).layout
  straight_room =
      ap (λ (t : Dtype). product (differences (view_task_of chunk.job.now).hi (view_task_of chunk.job.now).lo) * size_of t) (sym straight.dtype)
      ∙ ap (λ (n : ℕ). n * size_of (source_in (view_task_of chunk.job.now) chunk.source).layout.dtype) straight.order.count

  pub takes_straight : (old new : List ℕ) (told : Option Contents) (first mid : Shown)
      → length new ≡ bytes_of (source_in (view_task_of chunk.job.now) chunk.source).layout → IsKnown (IsSourceKey (view_task_of chunk.job.now) chunk.source) told first → Steps NoChange 1 1 first mid
      → HasChunk (source_in (view_task_of chunk.job.now) chunk.source) chunk.coord mid.held new → AreElements (source_in (view_task_of chunk.job.now) chunk.source).layout.dtype new
      → HaveComeFrom chunk told old new
  takes_straight old new told first mid long known step has elements = record {
    come = λ idx i w o part.
        let v = view_task_of chunk.job.now in
        let fit = fitting chunk.job.now h.job in
        let own = origin_inside (view_task_of chunk.job.now) fit idx i chunk.source w o in
        let later = known_later (view_task_of chunk.job.now) chunk.source told 1 1 first mid known step in
        let own_place = straight.order.stands idx w in
        let is : i ≡ own_place.index = same_index chunk.source chunk.source i own_place.index (sym o ∙ own_place.origin) in
        let place : place_within (view_task_of chunk.job.now).lo (view_task_of chunk.job.now).hi idx ≡ place_of (source_in (view_task_of chunk.job.now) chunk.source).layout.grid.chunk (remainders i (source_in (view_task_of chunk.job.now) chunk.source).layout.grid.chunk)
        = own_place.place ∙ ap (λ (x : List ℕ). place_of (source_in (view_task_of chunk.job.now) chunk.source).layout.grid.chunk (remainders x (source_in (view_task_of chunk.job.now) chunk.source).layout.grid.chunk)) (sym is) in
        let within = place-below (differences (view_task_of chunk.job.now).hi (view_task_of chunk.job.now).lo) (differences idx (view_task_of chunk.job.now).lo) (within_sizes (view_task_of chunk.job.now).lo (view_task_of chunk.job.now).hi idx w) in
        let count = straight.order.count in
        let below : suc (place_of (source_in (view_task_of chunk.job.now) chunk.source).layout.grid.chunk (remainders i (source_in (view_task_of chunk.job.now) chunk.source).layout.grid.chunk)) ≤ product (source_in (view_task_of chunk.job.now) chunk.source).layout.grid.chunk
        = omega (arith, within, place, count) in
        let far = mul-le (suc (place_of (source_in (view_task_of chunk.job.now) chunk.source).layout.grid.chunk (remainders i (source_in (view_task_of chunk.job.now) chunk.source).layout.grid.chunk))) (size_of (source_in (view_task_of chunk.job.now) chunk.source).layout.dtype)
        (product (source_in (view_task_of chunk.job.now) chunk.source).layout.grid.chunk) (size_of (source_in (view_task_of chunk.job.now) chunk.source).layout.dtype) below (omega arith) in
        let fits : IsInFront (view_task_of chunk.job.now) chunk.source new i = omega (arith, far, long) in
        record {
          number = element_at Little (source_in (view_task_of chunk.job.now) chunk.source).layout.dtype new (place_of (source_in (view_task_of chunk.job.now) chunk.source).layout.grid.chunk (remainders i (source_in (view_task_of chunk.job.now) chunk.source).layout.grid.chunk));
          range = converts_range v.pull (source_in (view_task_of chunk.job.now) chunk.source).layout.dtype (type_at v.arrays v.out) (fit.fits.types chunk.source 0 h.source) _
              (InRange-element_at Little (source_in (view_task_of chunk.job.now) chunk.source).layout.dtype new (place_of (source_in (view_task_of chunk.job.now) chunk.source).layout.grid.chunk (remainders i (source_in (view_task_of chunk.job.now) chunk.source).layout.grid.chunk)));
          element = later.element i _ own.coordinate (has_element (view_task_of chunk.job.now) chunk.source chunk.coord new later.now mid i later.known (front_of_chunk (source_in (view_task_of chunk.job.now) chunk.source) chunk.coord new mid.held has) own.inside part fits);
          bytes = ap (λ (t : Dtype). part_at (size_of t) new (place_within (view_task_of chunk.job.now).lo (view_task_of chunk.job.now).hi idx)) (sym straight.dtype)
              ∙ ap (part_at (size_of (source_in (view_task_of chunk.job.now) chunk.source).layout.dtype) new) place
              ∙ spelled_own (source_in (view_task_of chunk.job.now) chunk.source).layout.dtype new (place_of (source_in (view_task_of chunk.job.now) chunk.source).layout.grid.chunk (remainders i (source_in (view_task_of chunk.job.now) chunk.source).layout.grid.chunk)) elements fits
              ∙ ap (λ (t : Dtype). element_bytes Little t (element_at Little (source_in (view_task_of chunk.job.now) chunk.source).layout.dtype new (place_of (source_in (view_task_of chunk.job.now) chunk.source).layout.grid.chunk (remainders i (source_in (view_task_of chunk.job.now) chunk.source).layout.grid.chunk)))) straight.dtype;
        };
    others = λ idx w none. (let here = straight.order.stands idx w in absurd (none here.index here.origin here.part));
  }

  pub took_straight : (old new : List ℕ) (told : Option Contents) (first mid : Shown) (a : ArrayInfo) → a ≡ source_in (view_task_of chunk.job.now) chunk.source → {E : Type 0} (r : Result Unit E)
      → length new ≡ bytes_of (source_in (view_task_of chunk.job.now) chunk.source).layout → IsKnown (IsSourceKey (view_task_of chunk.job.now) chunk.source) told first → Steps NoChange 1 1 first mid
      → OnOk r (HasChunk a chunk.coord mid.held new) → OnOk r (AreElements a.layout.dtype new) → OnOk r (HaveComeFrom chunk told old new)
  took_straight old new told first mid a from (Ok x) long known step has elements =
      takes_straight old new told first mid long known step (subst (λ (b : ArrayInfo). HasChunk b chunk.coord mid.held new) from has) (subst (λ (b : ArrayInfo). AreElements b.layout.dtype new) from elements)
  took_straight old new told first mid a from (Err e) long known step has elements = tt
