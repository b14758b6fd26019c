-- One slab of a map's result: what it makes in the memory, and what it leaves.
use Rattle.std.proofs.Common.{◌≡◌, ◌<◌, ◌≤◌, ◌+◌, ◌-◌, ◌*◌, ℕ, List, [], ◌∷◌, ◌++◌, length, take, drop, get_or, Some, refl, ap, sym, ◌∙◌, subst, arith}
use Rattle.std.proofs.Math.Seq.{drop-append-add}
use Rattle.std.proofs.lemmas.List.{drop-drop, length-append}
use Rattle.std.proofs.lemmas.Nat.{mul-le}
use Rattle.cu_kern.proofs.Parts.{size_positive}
use Rattle.cu_kern.specs.Lays.{loaded_at}
use Rattle.cu_num.proofs.ElementBytes.{element_at_own, element_at_same}
use Rattle.cu_num.specs.Dtype.{size_of}
use Rattle.cu_num.specs.Element.{bytes_at, element_at, element_bytes}
use Rattle.cu_num.specs.declared.layout.Endian.TheVariants.{Little}
use Rattle.cu_num.specs.declared.types.Dtype.{Dtype}
use Rattle.cu_op.proofs.Alike.{same_kernel}
use Rattle.cu_op.specs.Arrays.{grid_at}
use Rattle.cu_op.specs.Kernel.{kernel_value}
use Rattle.cu_op.specs.TaskView.{TaskView, task_op}
use Rattle.cu_shape.specs.Index.{differences, index_at, place_of, product, sums}
use Rattle.cu_task.proofs.InputReads.{front_part}
use Rattle.cu_task.proofs.SlabPlaces.{in_slab, product_cut, product_rows}
use Rattle.cu_task.proofs.SlabValues.{slab_loads}
use Rattle.cu_task.proofs.Tails.{piece_before, piece_behind, piece_within}
use Rattle.cu_task.specs.Inputs.{map_code}
use Rattle.cu_task.specs.OfTask.{made_bytes}
use Rattle.cu_task.specs.Slabs.{bytes_shown, input_bytes_at, input_start, input_type, made_type, other_place, own_sizes, result_bytes_at, slab_dims, slab_lays, slab_lo, cut_from, two_loads, view_type, HasSlabResults, IsWholeShown, IsSlabJob, IsStrip}
use Rattle.cu_task.specs.Straight.{behind_first}
use Rattle.cu_task.specs.ViewJobs.{view_of_chunk}
use Rattle.cu_task.specs.declared.slab_jobs.SlabJob.{SlabJob}

has_axis : (hi lo : List ℕ) → 0 < length (differences hi lo) → 0 < length lo
has_axis [] lo some = absurd (omega (arith, some))
has_axis (h ∷ hi) [] some = absurd (omega (arith, some))
has_axis (h ∷ hi) (l ∷ lo) some = omega arith

-- ---- sizes

module _ (t : TaskView) (job : SlabJob) (is : IsSlabJob t job) where
  -- the view's region has the sizes of the task's, and its elements the type of the input's
  pub shown_sizes : differences (view_of_chunk job.chunk.now).hi (view_of_chunk job.chunk.now).lo ≡ own_sizes t
  shown_sizes = is.maps.inside.sizes ∙ is.sizes.each job.place is.maps.listed

  pub shown_type : view_type job.chunk.now ≡ input_type t job.place
  shown_type = is.maps.inside.typed

  pub shown_axis : 0 < length (view_of_chunk job.chunk.now).lo
  shown_axis = has_axis (view_of_chunk job.chunk.now).hi (view_of_chunk job.chunk.now).lo (subst (λ (ds : List ℕ). 0 < length ds) (sym shown_sizes) is.sizes.parted.first)

  pub shown_rows : get_or (differences (view_of_chunk job.chunk.now).hi (view_of_chunk job.chunk.now).lo) 0 0 ≡ job.sizes.rows
  shown_rows = ap (λ (ds : List ℕ). get_or ds 0 0) shown_sizes ∙ sym is.sizes.parted.rows

  pub shown_row : product (behind_first (differences (view_of_chunk job.chunk.now).hi (view_of_chunk job.chunk.now).lo)) ≡ job.sizes.row
  shown_row = ap (λ (ds : List ℕ). product (behind_first ds)) shown_sizes ∙ sym is.sizes.parted.row

  pub shown_some : 0 < length (differences (view_of_chunk job.chunk.now).hi (view_of_chunk job.chunk.now).lo)
  shown_some = subst (λ (ds : List ℕ). 0 < length ds) (sym shown_sizes) is.sizes.parted.first

  pub strip_count : (first end : ℕ) → product (slab_dims (view_of_chunk job.chunk.now) first end) ≡ (end - first) * job.sizes.row
  strip_count first end = product_cut (differences (view_of_chunk job.chunk.now).hi (view_of_chunk job.chunk.now).lo) (end - first) shown_some ∙ ap (λ (n : ℕ). (end - first) * n) shown_row

  pub all_places : product (own_sizes t) ≡ job.sizes.rows * job.sizes.row
  all_places =
      product_rows (own_sizes t) is.sizes.parted.first
      ∙ ap (λ (n : ℕ). n * product (behind_first (own_sizes t))) (sym is.sizes.parted.rows) ∙ ap (λ (n : ℕ). job.sizes.rows * n) (sym is.sizes.parted.row)

-- how many elements and bytes there are from a row up to before another
pub record SlabRoom (t : TaskView) (job : SlabJob) (first end made view : ℕ) : Type 0 where
  pub ends : first * job.sizes.row + (end - first) * job.sizes.row ≡ end * job.sizes.row
  pub most : end * job.sizes.row ≤ job.sizes.rows * job.sizes.row
  pub all : made_bytes t ≡ job.sizes.rows * job.sizes.row * made
  pub few : job.sizes.rows * job.sizes.row ≤ made_bytes t
  pub bytes : first * job.sizes.row * made + (end - first) * job.sizes.row * made ≤ made_bytes t
  pub gap : (end - first) * job.sizes.row * made ≤ job.sizes.gap
  pub strip : (end - first) * job.sizes.row * view ≤ job.sizes.strip

scaled : (a b c : ℕ) → a ≤ b → a * c ≤ b * c
scaled a b c h = mul-le a c b c h (omega arith)

pub slab_room : (t : TaskView) (job : SlabJob) (is : IsSlabJob t job) (first end made view : ℕ) → first ≤ end → end ≤ job.sizes.rows → end - first ≤ job.sizes.step
    → made ≡ size_of (made_type t) → view ≡ size_of (input_type t job.place) → SlabRoom t job first end made view
slab_room t job is first end made view least most few sized shown =
    let both : first + (end - first) ≡ end = omega (arith, least) in
    let ends : (first + (end - first)) * job.sizes.row ≡ end * job.sizes.row = ap (λ (n : ℕ). n * job.sizes.row) both in
    let within = scaled end job.sizes.rows job.sizes.row most in
    let all : made_bytes t ≡ job.sizes.rows * job.sizes.row * made
    = ap (λ (n : ℕ). n * size_of (made_type t)) (all_places t job is) ∙ ap (λ (n : ℕ). job.sizes.rows * job.sizes.row * n) (sym sized) in
    let positive : 1 ≤ made = (let p = size_positive (made_type t) in omega (arith, p, sized)) in
    let enough : job.sizes.rows * job.sizes.row * 1 ≤ job.sizes.rows * job.sizes.row * made = mul-le (job.sizes.rows * job.sizes.row) 1 (job.sizes.rows * job.sizes.row) made (omega arith) positive in
    let bytes = scaled (end * job.sizes.row) (job.sizes.rows * job.sizes.row) made within in
    let parts : (first * job.sizes.row + (end - first) * job.sizes.row) * made ≡ end * job.sizes.row * made = ap (λ (n : ℕ). n * made) (let e : first * job.sizes.row + (end - first) * job.sizes.row ≡ end * job.sizes.row = omega (arith, ends) in e) in
    let elements = scaled (end - first) job.sizes.step job.sizes.row few in
    let gap = scaled ((end - first) * job.sizes.row) (job.sizes.step * job.sizes.row) made elements in
    let strip = scaled ((end - first) * job.sizes.row) (job.sizes.step * job.sizes.row) view elements in
    let own_gap : job.sizes.gap ≡ job.sizes.step * job.sizes.row * made = is.sizes.parted.gap ∙ ap (λ (n : ℕ). job.sizes.step * job.sizes.row * n) (sym sized) in
    let own_strip : job.sizes.strip ≡ job.sizes.step * job.sizes.row * view = is.sizes.parted.strip ∙ ap (λ (n : ℕ). job.sizes.step * job.sizes.row * n) (sym shown) in
    record {
      ends = omega (arith, ends);
      most = within;
      all = all;
      few = omega (arith, all, enough);
      bytes = omega (arith, parts, bytes, all);
      gap = omega (arith, gap, own_gap);
      strip = omega (arith, strip, own_strip);
    }

-- ---- a memory of four parts, of which the first and the third are written

module _ (S S1 R O O1 L : List ℕ) (strip : length S1 ≡ length S) (out : length O1 ≡ length O) where
  pub long_as_before : length ((S1 ++ R) ++ (O1 ++ L)) ≡ length ((S ++ R) ++ (O ++ L))
  long_as_before =
      let a = length-append (S1 ++ R) (O1 ++ L) in
      let b = length-append S1 R in
      let c = length-append O1 L in
      let d = length-append (S ++ R) (O ++ L) in
      let e = length-append S R in
      let f = length-append O L in
      omega (arith, a, b, c, d, e, f, strip, out)

  -- what stands in the second, and in the last, is as before
  pub second_kept : (size at : ℕ) → length S ≤ at → at + size ≤ length S + length R → cut_from size at (S1 ++ R) ≡ cut_from size at ((S ++ R) ++ (O ++ L))
  second_kept size at low high =
      let e = length-append S R in
      let first : at ≡ length S1 + (at - length S1) = omega (arith, low, strip) in
      let own : at ≡ length S + (at - length S) = omega (arith, low) in
      let same : at - length S1 ≡ at - length S = omega (arith, strip) in
      ap (λ (n : ℕ). take size (drop n (S1 ++ R))) first ∙ ap (take size) (drop-append-add S1 R (at - length S1))
      ∙ ap (λ (n : ℕ). take size (drop n R)) same
      ∙ sym (ap (λ (n : ℕ). take size (drop n (S ++ R))) own ∙ ap (take size) (drop-append-add S R (at - length S)))
      ∙ sym (piece_before (S ++ R) (O ++ L) at size (omega (arith, e, high)))

  pub before_kept : (size at : ℕ) → length S ≤ at → at + size ≤ length S + length R → cut_from size at ((S1 ++ R) ++ (O1 ++ L)) ≡ cut_from size at ((S ++ R) ++ (O ++ L))
  before_kept size at low high =
      let e = length-append S1 R in
      piece_before (S1 ++ R) (O1 ++ L) at size (omega (arith, e, high, strip)) ∙ second_kept size at low high

  pub behind_kept : (size at : ℕ) → length S + length R + length O ≤ at → cut_from size at ((S1 ++ R) ++ (O1 ++ L)) ≡ cut_from size at ((S ++ R) ++ (O ++ L))
  behind_kept size at far =
      let e = length-append S1 R in
      let f = length-append S R in
      let same : at - (length S + length R + length O1) ≡ at - (length S + length R + length O) = omega (arith, out) in
      piece_behind (S1 ++ R) O1 L (length S + length R) at size (omega (arith, e, strip)) (omega (arith, far, out))
      ∙ ap (λ (n : ℕ). take size (drop n L)) same
      ∙ sym (piece_behind (S ++ R) O L (length S + length R) at size (omega (arith, f)) (omega (arith, far)))

  pub third_new : (size at k : ℕ) → at ≡ length S + length R + k → k + size ≤ length O → cut_from size at ((S1 ++ R) ++ (O1 ++ L)) ≡ take size (drop k O1)
  third_new size at k is fits =
      let e = length-append S1 R in
      ap (λ (n : ℕ). take size (drop n ((S1 ++ R) ++ (O1 ++ L)))) is
      ∙ piece_within (S1 ++ R) O1 L (length S + length R) k size (omega (arith, e, strip)) (omega (arith, fits, out))

-- ---- the step

-- the memory before it, as the parts that the step goes by
pub record IsSlabStep (t : TaskView) (job : SlabJob) (first end : ℕ) (m : List ℕ) (S S1 R O O1 L : List ℕ) : Type 0 where
  pub least : first ≤ end
  pub most : end ≤ job.sizes.rows
  pub few : end - first ≤ job.sizes.step
  pub fits : job.sizes.strip + job.sizes.gap + made_bytes t ≤ length m
  pub parts : m ≡ (S ++ R) ++ (O ++ L)
  pub strip : length S ≡ (end - first) * job.sizes.row * size_of (input_type t job.place)
  pub strip_new : length S1 ≡ length S
  pub front : length S + length R ≡ input_start t job.sizes (length m) + first * job.sizes.row * size_of (made_type t) + job.sizes.gap
  pub out : length O ≡ (end - first) * job.sizes.row * size_of (made_type t)
  pub out_new : length O1 ≡ length O

-- what the kernel gave
pub record GaveSlab (t : TaskView) (place at count : ℕ) (inputs output : List ℕ) : Type 0 where
  pub values : (k : ℕ) → k < count → kernel_value (map_code (task_op t)) (loaded_at (slab_lays t place at count) inputs (k ∷ [])) ≡ Some (element_at Little (made_type t) output k)
  pub bytes : (k : ℕ) → k < count → bytes_at (made_type t) output k ≡ element_bytes Little (made_type t) (element_at Little (made_type t) output k)

pub next_place : (p n size : ℕ) → p < n → p * size + size ≤ n * size
next_place p n size below = let far = mul-le (p + 1) size n size (omega (arith, below)) (omega arith) in omega (arith, far)

moved_place : (p q size : ℕ) → p ≤ q → p * size ≤ q * size
moved_place p q size h = mul-le p size q size h (omega arith)

module _ (t : TaskView) (job : SlabJob) (is : IsSlabJob t job) (first end : ℕ) (m S S1 R O O1 L : List ℕ) (st : IsSlabStep t job first end m S S1 R O O1 L) where
  room : SlabRoom t job first end (size_of (made_type t)) (size_of (input_type t job.place))
  room = slab_room t job is first end (size_of (made_type t)) (size_of (input_type t job.place)) st.least st.most st.few refl refl

  pub same_long : length ((S1 ++ R) ++ (O1 ++ L)) ≡ length m
  same_long = long_as_before S S1 R O O1 L st.strip_new st.out_new ∙ ap length (sym st.parts)

  -- the input of the slabs in front of it, and the results of those behind
  pub inputs_kept : (p : ℕ) → p < first * job.sizes.row → input_bytes_at t job.sizes ((S1 ++ R) ++ (O1 ++ L)) p ≡ input_bytes_at t job.sizes m p
  inputs_kept p below =
      let z = size_of (made_type t) in
      let fits = st.fits in
      let front = st.front in
      let strip = st.strip in
      let few = room.strip in
      let bytes = room.bytes in
      let next = next_place p (first * job.sizes.row) (size_of (made_type t)) below in
      ap (λ (n : ℕ). cut_from (size_of (made_type t)) (input_start t job.sizes n + p * size_of (made_type t)) ((S1 ++ R) ++ (O1 ++ L))) same_long
      ∙ before_kept S S1 R O O1 L st.strip_new st.out_new (size_of (made_type t)) (input_start t job.sizes (length m) + p * size_of (made_type t)) (omega (arith, fits, strip, few)) (omega (arith, front, next))
      ∙ ap (cut_from (size_of (made_type t)) (input_start t job.sizes (length m) + p * size_of (made_type t))) (sym st.parts)

  pub results_kept : (p : ℕ) → end * job.sizes.row ≤ p → result_bytes_at t job.sizes ((S1 ++ R) ++ (O1 ++ L)) p ≡ result_bytes_at t job.sizes m p
  results_kept p behind =
      let front = st.front in
      let out = st.out in
      let ends = ap (λ (n : ℕ). n * size_of (made_type t)) room.ends in
      let far = moved_place (end * job.sizes.row) p (size_of (made_type t)) behind in
      ap (λ (n : ℕ). cut_from (size_of (made_type t)) (input_start t job.sizes n + job.sizes.gap + p * size_of (made_type t)) ((S1 ++ R) ++ (O1 ++ L))) same_long
      ∙ behind_kept S S1 R O O1 L st.strip_new st.out_new (size_of (made_type t)) (input_start t job.sizes (length m) + job.sizes.gap + p * size_of (made_type t)) (omega (arith, front, out, ends, far))
      ∙ ap (cut_from (size_of (made_type t)) (input_start t job.sizes (length m) + job.sizes.gap + p * size_of (made_type t))) (sym st.parts)

  -- an element of the strip
  strip_element : (front whole : List ℕ) → IsStrip job.chunk.now front first end S1 → IsWholeShown job.chunk.now front whole → (p k : ℕ) → p ≡ first * job.sizes.row + k → k < (end - first) * job.sizes.row
      → element_at Little (input_type t job.place) (S1 ++ R) k ≡ element_at Little (input_type t job.place) whole p
  strip_element front whole strip shown p k at below =
      let v = view_of_chunk job.chunk.now in
      let ends = room.ends in
      let rows = shown_rows t job is in
      let row = shown_row t job is in
      let few = st.most in
      let idx = sums (view_of_chunk job.chunk.now).lo (index_at (differences (view_of_chunk job.chunk.now).hi (view_of_chunk job.chunk.now).lo) p) in
      let here = in_slab (grid_at (view_of_chunk job.chunk.now).arrays (view_of_chunk job.chunk.now).out).shape (view_of_chunk job.chunk.now).lo (view_of_chunk job.chunk.now).hi first end p
      is.only.of_source.job.region (shown_some t job is) (omega (arith, rows, few))
      (subst (λ (n : ℕ). first * n ≤ p) (sym row) (omega (arith, at))) (subst (λ (n : ℕ). p < end * n) (sym row) (omega (arith, at, below, ends))) in
      let cut = subst (λ (n : ℕ). first * n + place_of (slab_dims (view_of_chunk job.chunk.now) first end) (differences idx (slab_lo (view_of_chunk job.chunk.now) first)) ≡ p) row here.cut in
      let place : place_of (slab_dims (view_of_chunk job.chunk.now) first end) (differences idx (slab_lo (view_of_chunk job.chunk.now) first)) ≡ k = omega (arith, cut, at) in
      let own : bytes_at (view_type job.chunk.now) S1 k ≡ bytes_shown job.chunk.now front idx = ap (bytes_at (view_type job.chunk.now) S1) (sym place) ∙ strip idx here.within in
      let there : bytes_at (view_type job.chunk.now) whole p ≡ bytes_shown job.chunk.now front idx = ap (bytes_at (view_type job.chunk.now) whole) (sym here.place) ∙ shown idx here.own in
      let next = next_place k ((end - first) * job.sizes.row) (size_of (input_type t job.place)) below in
      let long = st.strip in
      let new = st.strip_new in
      element_at_same Little (input_type t job.place) (S1 ++ R) S1 k k (front_part (size_of (input_type t job.place)) k S1 R (omega (arith, next, long, new)))
      ∙ subst (λ (ty : Dtype). element_at Little ty S1 k ≡ element_at Little ty whole p) (shown_type t job is) (element_at_same Little (view_type job.chunk.now) S1 whole k p (own ∙ sym there))

  -- an element of the other input
  other_element : (at p k : ℕ) → at ≡ input_start t job.sizes (length m) + first * job.sizes.row * size_of (made_type t) → p ≡ first * job.sizes.row + k → k < (end - first) * job.sizes.row
      → element_at Little (input_type t (other_place job.place)) (drop at (S1 ++ R)) k ≡ element_at Little (input_type t (other_place job.place)) (input_bytes_at t job.sizes m p) 0
  other_element at p k starts here below =
      let size = is.sizes.bytes in
      let times = ap (λ (n : ℕ). n * size_of (made_type t)) here in
      let fits = st.fits in
      let front = st.front in
      let strip = st.strip in
      let few = room.strip in
      let gap = room.gap in
      let next = next_place k ((end - first) * job.sizes.row) (size_of (made_type t)) below in
      let from : at + k * size_of (made_type t) ≡ input_start t job.sizes (length m) + p * size_of (made_type t) = omega (arith, starts, times) in
      element_at_own Little (input_type t (other_place job.place)) (drop at (S1 ++ R)) k
      ∙ ap (λ (bytes : List ℕ). element_at Little (input_type t (other_place job.place)) bytes 0)
      (ap (λ (n : ℕ). take n (drop (k * n) (drop at (S1 ++ R)))) size
      ∙ ap (take (size_of (made_type t))) (drop-drop (k * size_of (made_type t)) at (S1 ++ R))
      ∙ second_kept S S1 R O O1 L st.strip_new st.out_new (size_of (made_type t)) (at + k * size_of (made_type t)) (omega (arith, starts, fits, strip, few)) (omega (arith, starts, front, next, gap))
      ∙ ap (cut_from (size_of (made_type t)) (at + k * size_of (made_type t))) (sym st.parts)
      ∙ ap (λ (n : ℕ). cut_from (size_of (made_type t)) n m) from)

  -- what it makes
  pub slab_made : (front : List ℕ) (at : ℕ) → at ≡ input_start t job.sizes (length m) + first * job.sizes.row * size_of (made_type t) → IsStrip job.chunk.now front first end S1
      → GaveSlab t job.place at ((end - first) * job.sizes.row) (S1 ++ R) O1
      → HasSlabResults t job front (first * job.sizes.row) (end * job.sizes.row) m ((S1 ++ R) ++ (O1 ++ L))
  slab_made front at starts strip gave whole shown p low high =
      let ends = room.ends in
      let k = p - first * job.sizes.row in
      let here : p ≡ first * job.sizes.row + (p - first * job.sizes.row) = omega (arith, low) in
      let below : p - first * job.sizes.row < (end - first) * job.sizes.row = omega (arith, low, high, ends) in
      let fits = st.front in
      let out = st.out in
      let times = ap (λ (n : ℕ). n * size_of (made_type t)) here in
      let next = next_place (p - first * job.sizes.row) ((end - first) * job.sizes.row) (size_of (made_type t)) below in
      let bytes : result_bytes_at t job.sizes ((S1 ++ R) ++ (O1 ++ L)) p ≡ bytes_at (made_type t) O1 (p - first * job.sizes.row)
      = ap (λ (n : ℕ). cut_from (size_of (made_type t)) (input_start t job.sizes n + job.sizes.gap + p * size_of (made_type t)) ((S1 ++ R) ++ (O1 ++ L))) same_long
      ∙ third_new S S1 R O O1 L st.strip_new st.out_new (size_of (made_type t)) (input_start t job.sizes (length m) + job.sizes.gap + p * size_of (made_type t)) ((p - first * job.sizes.row) * size_of (made_type t)) (omega (arith, fits, times)) (omega (arith, out, next)) in
      let element : element_at Little (made_type t) O1 (p - first * job.sizes.row) ≡ element_at Little (made_type t) (result_bytes_at t job.sizes ((S1 ++ R) ++ (O1 ++ L)) p) 0
      = element_at_own Little (made_type t) O1 (p - first * job.sizes.row) ∙ ap (λ (b : List ℕ). element_at Little (made_type t) b 0) (sym bytes) in
      record {
        same = sym (same_kernel (map_code (task_op t)) (loaded_at (slab_lays t job.place at ((end - first) * job.sizes.row)) (S1 ++ R) ((p - first * job.sizes.row) ∷ [])) _
            (slab_loads t job.place at ((end - first) * job.sizes.row) (p - first * job.sizes.row) (S1 ++ R) is.maps.listed below)
            ∙ ap (λ x. kernel_value (map_code (task_op t)) (two_loads job.place x (element_at Little (input_type t (other_place job.place)) (drop at (S1 ++ R)) (p - first * job.sizes.row)))) (strip_element front whole strip shown p (p - first * job.sizes.row) here below)
            ∙ ap (λ x. kernel_value (map_code (task_op t)) (two_loads job.place (element_at Little (input_type t job.place) whole p) x)) (other_element at p (p - first * job.sizes.row) starts here below))
            ∙ gave.values (p - first * job.sizes.row) below ∙ ap Some element;
        spelled = bytes ∙ gave.bytes (p - first * job.sizes.row) below ∙ ap (element_bytes Little (made_type t)) element;
      }
