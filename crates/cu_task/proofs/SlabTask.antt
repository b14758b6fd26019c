-- A task of a map that is made by slabs: its calls, and what its memory has in the end.
use Rattle.std.proofs.Common.{◌≡◌, ◌<◌, ◌≤◌, ◌+◌, ◌-◌, ◌*◌, ℕ, zero, suc, ℤ, List, [], ◌∷◌, ◌++◌, length, take, drop, Some, ap, sym, ◌∙◌, subst, arith}
use Rattle.std.specs.Prelude.{sum_by}
use Rattle.std.proofs.lemmas.List.{append-nil, drop-drop, length-append}
use Rattle.std.proofs.lemmas.List.Sums.{sum_by-append, sum_by-cons}
use Rattle.cu_codec.proofs.Shared.{within_sizes}
use Rattle.cu_codec.specs.Parts.{place_within}
use Rattle.cu_kern.proofs.Parts.{element_below}
use Rattle.cu_num.proofs.ElementBytes.{element_at_own}
use Rattle.cu_num.specs.Dtype.{size_of}
use Rattle.cu_num.specs.Element.{bytes_at, element_at, element_bytes}
use Rattle.cu_num.specs.declared.layout.Endian.TheVariants.{Little}
use Rattle.cu_op.specs.Kernel.{kernel_value}
use Rattle.cu_op.specs.TaskView.{TaskView, task_op, walk_at}
use Rattle.cu_op.specs.Walks.{cells_of_walks, input_walks, walk_cells}
use Rattle.cu_op.specs.declared.cells.Cell.{Cell}
use Rattle.cu_op.specs.declared.walks.Walk.{Walk}
use Rattle.cu_shape.proofs.Places.{index-place, place-below}
use Rattle.cu_shape.specs.Index.{differences, index_at, product, sums}
use Rattle.cu_store.specs.Held.{Contents}
use Rattle.cu_task.proofs.TaskKinds.{computed_calls, computed_tally, of_map}
use Rattle.cu_task.proofs.MapTask.{sums_differences}
use Rattle.cu_task.proofs.SlabSteps.{all_places, next_place}
use Rattle.cu_task.proofs.SlabValues.{all_numbers, map_made, two_walks}
use Rattle.cu_task.proofs.Tails.{length-last_bytes, piece_before}
use Rattle.cu_task.proofs.TaskRooms.{kept_computing}
use Rattle.cu_task.specs.Calls.{chunk_calls, chunk_tally}
use Rattle.cu_task.specs.Inputs.{last_bytes, map_code, room_of_walks, walk_room}
use Rattle.cu_task.specs.OfTask.{calls_for_walk, calls_to_read, cell_weight, held_inputs, kept_bytes, made_bytes, tally_for_walk, tally_to_read, AreOfItsType, HasMade, HasWalk}
use Rattle.cu_task.specs.Slabs.{input_bytes_at, input_start, input_type, made_type, mapped_value, number_shown, other_place, own_sizes, result_bytes_at, cut_from, two_loads, view_type, HasSlabResults, IsWholeShown, IsSlabJob, IsValue, MapsTwo, ShowsInput}
use Rattle.cu_task.specs.ViewJobs.{view_of_chunk}
use Rattle.cu_task.specs.Views.{origin_in}
use Rattle.cu_task.specs.declared.slab_jobs.SlabJob.{SlabJob}

-- ---- calls

two_sums : (f : Cell → ℕ) (t : TaskView) → MapsTwo t → sum_by f (cells_of_walks t.plan.arrays (input_walks t.plan.arrays (task_op t) t.number))
    ≡ sum_by f (walk_cells t.plan.arrays (walk_at t 0)) + sum_by f (walk_cells t.plan.arrays (walk_at t 1))
two_sums f t maps =
    ap (λ (ws : List Walk). sum_by f (cells_of_walks t.plan.arrays ws)) (two_walks t maps)
    ∙ sum_by-append f (walk_cells t.plan.arrays (walk_at t 0)) (cells_of_walks t.plan.arrays (walk_at t 1 ∷ []))
    ∙ ap (λ (cs : List Cell). sum_by f (walk_cells t.plan.arrays (walk_at t 0)) + sum_by f cs) (append-nil (walk_cells t.plan.arrays (walk_at t 1)))

pub both_calls : (t : TaskView) → MapsTwo t → calls_to_read t ≡ calls_for_walk t (walk_at t 0) + calls_for_walk t (walk_at t 1)
both_calls t maps =
    computed_calls (chunk_calls t.plan t.op) t.plan.arrays (task_op t) t.number (of_map (task_op t) maps.map).computes ∙ two_sums (chunk_calls t.plan t.op) t maps

pub both_tally : (weight : List ℕ → ℕ) (t : TaskView) → MapsTwo t → tally_to_read weight t ≡ tally_for_walk weight t (walk_at t 0) + tally_for_walk weight t (walk_at t 1)
both_tally weight t maps =
    computed_tally (cell_weight weight t) (chunk_tally (cell_weight weight t) t.plan t.op) t.plan.arrays (task_op t) t.number (of_map (task_op t) maps.map).computes
    ∙ two_sums (chunk_tally (cell_weight weight t) t.plan t.op) t maps

-- in the order of the view's input and the other one
pub placed_calls : (t : TaskView) (place : ℕ) → MapsTwo t → place < 2 → calls_to_read t ≡ calls_for_walk t (walk_at t place) + calls_for_walk t (walk_at t (other_place place))
placed_calls t zero maps listed = both_calls t maps
placed_calls t (suc zero) maps listed = let e = both_calls t maps in omega (arith, e)
placed_calls t (suc (suc place)) maps listed = absurd (omega (arith, listed))

pub placed_tally : (weight : List ℕ → ℕ) (t : TaskView) (place : ℕ) → MapsTwo t → place < 2 → tally_to_read weight t ≡ tally_for_walk weight t (walk_at t place) + tally_for_walk weight t (walk_at t (other_place place))
placed_tally weight t zero maps listed = both_tally weight t maps
placed_tally weight t (suc zero) maps listed = let e = both_tally weight t maps in omega (arith, e)
placed_tally weight t (suc (suc place)) maps listed = absurd (omega (arith, listed))

-- what the task keeps are the regions of both
pub placed_rooms : (t : TaskView) (place : ℕ) → MapsTwo t → place < 2 → kept_bytes t ≡ walk_room t.plan.arrays (walk_at t place) + walk_room t.plan.arrays (walk_at t (other_place place))
placed_rooms t place maps listed = by_place place listed
  where
    both : kept_bytes t ≡ walk_room t.plan.arrays (walk_at t 0) + walk_room t.plan.arrays (walk_at t 1)
    both =
        let last : room_of_walks t.plan.arrays (walk_at t 1 ∷ []) ≡ walk_room t.plan.arrays (walk_at t 1) + 0 = sum_by-cons (walk_room t.plan.arrays) (walk_at t 1) [] in
        let all = sum_by-cons (walk_room t.plan.arrays) (walk_at t 0) (walk_at t 1 ∷ []) in
        let kept = kept_computing t.plan.arrays (task_op t) t.number (of_map (task_op t) maps.map).computes in
        let walks = ap (room_of_walks t.plan.arrays) (two_walks t maps) in
        omega (arith, last, all, kept, walks)

    by_place : (place : ℕ) → place < 2 → kept_bytes t ≡ walk_room t.plan.arrays (walk_at t place) + walk_room t.plan.arrays (walk_at t (other_place place))
    by_place zero listed = both
    by_place (suc zero) listed = let e = both in omega (arith, e)
    by_place (suc (suc place)) listed = absurd (omega (arith, listed))

-- ---- what the memory has

module _ (t : TaskView) (job : SlabJob) (is : IsSlabJob t job) where
  -- the other input's region has as many bytes as the result
  pub other_room : walk_room t.plan.arrays (walk_at t (other_place job.place)) ≡ made_bytes t
  other_room =
      ap (λ (ds : List ℕ). product ds * size_of (input_type t (other_place job.place))) (is.sizes.each (other_place job.place) (let l = is.maps.listed in omega arith))
      ∙ ap (λ (n : ℕ). product (own_sizes t) * n) is.sizes.bytes

  -- a buffer of what is shown
  pub some_shown : (front : List ℕ) → (whole : List ℕ) × (length whole ≡ walk_room t.plan.arrays (walk_at t job.place)) × IsWholeShown job.chunk.now front whole
  some_shown front =
      let v = view_of_chunk job.chunk.now in
      let ds = differences (view_of_chunk job.chunk.now).hi (view_of_chunk job.chunk.now).lo in
      let (whole, long, each) = all_numbers (view_type job.chunk.now) (product (differences (view_of_chunk job.chunk.now).hi (view_of_chunk job.chunk.now).lo))
      (λ p. number_shown job.chunk.now front (origin_in (view_of_chunk job.chunk.now) (sums (view_of_chunk job.chunk.now).lo (index_at (differences (view_of_chunk job.chunk.now).hi (view_of_chunk job.chunk.now).lo) p)))) in (
        whole,
        long ∙ is.maps.inside.room,
        λ idx w.
            let inside = within_sizes (view_of_chunk job.chunk.now).lo (view_of_chunk job.chunk.now).hi idx w in
            let below = place-below (differences (view_of_chunk job.chunk.now).hi (view_of_chunk job.chunk.now).lo) (differences idx (view_of_chunk job.chunk.now).lo) inside in
            each (place_within (view_of_chunk job.chunk.now).lo (view_of_chunk job.chunk.now).hi idx) below
            ∙ ap (λ (i : List ℕ). element_bytes Little (view_type job.chunk.now) (number_shown job.chunk.now front (origin_in (view_of_chunk job.chunk.now) i)))
            (ap (sums (view_of_chunk job.chunk.now).lo) (index-place (differences (view_of_chunk job.chunk.now).hi (view_of_chunk job.chunk.now).lo) (differences idx (view_of_chunk job.chunk.now).lo) inside)
            ∙ sums_differences (view_of_chunk job.chunk.now).lo (view_of_chunk job.chunk.now).hi idx w),
      )

  -- an element of the result
  pub result_bytes_of : (memory : List ℕ) (p : ℕ) → job.sizes.gap + made_bytes t ≤ length memory → result_bytes_at t job.sizes memory p ≡ bytes_at (made_type t) (last_bytes (made_bytes t) memory) p
  result_bytes_of memory p fits =
      let from : input_start t job.sizes (length memory) + job.sizes.gap + p * size_of (made_type t) ≡ length memory - made_bytes t + p * size_of (made_type t) = omega (arith, fits) in
      ap (λ (n : ℕ). cut_from (size_of (made_type t)) n memory) from
      ∙ sym (ap (take (size_of (made_type t))) (drop-drop (p * size_of (made_type t)) (length memory - made_bytes t) memory))

  -- an element of the other input, where it was read
  pub input_bytes_of : (reads gap : List ℕ) (p : ℕ) → length gap ≡ job.sizes.gap → made_bytes t ≤ length reads → p < product (own_sizes t)
      → input_bytes_at t job.sizes (reads ++ gap) p ≡ take (size_of (made_type t)) (drop (p * size_of (made_type t)) (last_bytes (made_bytes t) reads))
  input_bytes_of reads gap p long fits below =
      let all = length-append reads gap in
      let next = next_place p (product (own_sizes t)) (size_of (made_type t)) below in
      let from : input_start t job.sizes (length (reads ++ gap)) + p * size_of (made_type t) ≡ length reads - made_bytes t + p * size_of (made_type t) = omega (arith, all, long, fits) in
      ap (λ (n : ℕ). cut_from (size_of (made_type t)) n (reads ++ gap)) from
      ∙ piece_before reads gap (length reads - made_bytes t + p * size_of (made_type t)) (size_of (made_type t)) (omega (arith, next, fits))
      ∙ sym (ap (take (size_of (made_type t))) (drop-drop (p * size_of (made_type t)) (length reads - made_bytes t) reads))

  module _ (front old new : List ℕ) (fits : job.sizes.gap + made_bytes t ≤ length new) (results : HasSlabResults t job front 0 (job.sizes.rows * job.sizes.row) old new) where
    value_at : (whole : List ℕ) → IsWholeShown job.chunk.now front whole → (p : ℕ) → p < product (own_sizes t) → IsValue (made_type t) (mapped_value t job.place whole p (input_bytes_at t job.sizes old p)) (result_bytes_at t job.sizes new p)
    value_at whole shown p below = let all = all_places t job is in results whole shown p (omega arith) (omega (arith, below, all))

    pub slabs_elements : AreOfItsType t (last_bytes (made_bytes t) new)
    slabs_elements p within =
        let (whole, long, shown) = some_shown front in
        let size = length-last_bytes (made_bytes t) new (omega (arith, fits)) in
        let below = element_below (made_type t) p (product (own_sizes t)) (length (last_bytes (made_bytes t) new)) size within in
        let value = value_at whole shown p below in
        (element_at Little (made_type t) (result_bytes_at t job.sizes new p) 0, sym (result_bytes_of new p fits) ∙ value.spelled)

    pub slabs_made : (held : Contents) (reads gap : List ℕ) → old ≡ reads ++ gap → length gap ≡ job.sizes.gap → made_bytes t ≤ length reads → ShowsInput t job held front
        → HasWalk t (held_inputs t held) (walk_at t (other_place job.place)) (last_bytes (walk_room t.plan.arrays (walk_at t (other_place job.place))) reads)
        → HasMade t (held_inputs t held) (last_bytes (made_bytes t) new)
    slabs_made held reads gap is_old long within shows other =
        let (whole, size, shown) = some_shown front in
        let own : HasWalk t (held_inputs t held) (walk_at t (other_place job.place)) (last_bytes (made_bytes t) reads)
        = subst (λ (n : ℕ). HasWalk t (held_inputs t held) (walk_at t (other_place job.place)) (last_bytes n reads)) other_room other in
        map_made t job.place whole (last_bytes (made_bytes t) reads) (last_bytes (made_bytes t) new) (held_inputs t held) is.sizes.sound is.maps.maps is.maps.listed
        (record { sizes = is.sizes.each; shown_long = size; other_long = length-last_bytes (made_bytes t) reads within ∙ sym other_room })
        (shows whole shown) own
        (λ p below.
        let value = value_at whole shown p below in
        let bytes : input_bytes_at t job.sizes old p ≡ bytes_at (input_type t (other_place job.place)) (last_bytes (made_bytes t) reads) p
        = ap (λ (m : List ℕ). input_bytes_at t job.sizes m p) is_old ∙ input_bytes_of reads gap p long within below
        ∙ ap (λ (n : ℕ). take n (drop (p * n) (last_bytes (made_bytes t) reads))) (sym is.sizes.bytes) in
        let element : element_at Little (input_type t (other_place job.place)) (last_bytes (made_bytes t) reads) p ≡ element_at Little (input_type t (other_place job.place)) (input_bytes_at t job.sizes old p) 0
        = element_at_own Little (input_type t (other_place job.place)) (last_bytes (made_bytes t) reads) p ∙ ap (λ (b : List ℕ). element_at Little (input_type t (other_place job.place)) b 0) (sym bytes) in
        made_value whole p (last_bytes (made_bytes t) reads) element ∙ value.same
        ∙ ap Some (ap (λ (b : List ℕ). element_at Little (made_type t) b 0) (result_bytes_of new p fits) ∙ sym (element_at_own Little (made_type t) (last_bytes (made_bytes t) new) p)))
      where
        made_value : (whole : List ℕ) (p : ℕ) (region : List ℕ)
            → element_at Little (input_type t (other_place job.place)) region p ≡ element_at Little (input_type t (other_place job.place)) (input_bytes_at t job.sizes old p) 0
            → kernel_value (map_code (task_op t)) (two_loads job.place (element_at Little (input_type t job.place) whole p) (element_at Little (input_type t (other_place job.place)) region p))
            ≡ mapped_value t job.place whole p (input_bytes_at t job.sizes old p)
        made_value whole p region e = ap (λ (x : ℤ). kernel_value (map_code (task_op t)) (two_loads job.place (element_at Little (input_type t job.place) whole p) x)) e
