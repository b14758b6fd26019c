-- What a map makes by slabs is what it makes of whole regions, of which the view's exists in the proof alone.
use Rattle.std.proofs.Common.{◌≡◌, ◌<◌, ◌≤◌, ◌+◌, ◌-◌, ◌*◌, ℕ, zero, suc, ℤ, List, [], ◌∷◌, ◌++◌, All, length, take, drop, Some, refl, ap, sym, ◌∙◌, subst, inl, inr, arith}
use Rattle.std.proofs.Math.Seq.{drop-append_seam}
use Rattle.std.proofs.lemmas.Bool.{cases_lt}
use Rattle.std.proofs.lemmas.List.{length-append}
use Rattle.std.proofs.lemmas.List.Elements.{All-cons, All-nil}
use Rattle.std.proofs.lemmas.Nat.{mul-le}
use Rattle.cu_kern.specs.Lays.{lay_types, loaded_at, BroadcastsTo, LayFits}
use Rattle.cu_num.proofs.ElementBytes.{element_at_same, length-element_bytes}
use Rattle.cu_num.specs.Dtype.{size_of}
use Rattle.cu_num.specs.Element.{bytes_at, element_at, element_bytes}
use Rattle.cu_num.specs.declared.layout.Endian.TheVariants.{Little}
use Rattle.cu_num.specs.declared.types.Dtype.{Dtype}
use Rattle.cu_op.proofs.Alike.{same_kernel}
use Rattle.cu_op.proofs.TaskCells.{fit_of}
use Rattle.cu_op.specs.Chunks.{walk}
use Rattle.cu_op.specs.Elements.{Elements}
use Rattle.cu_op.specs.Kernel.{kernel_value}
use Rattle.cu_op.specs.KernelTypes.{KernelFits}
use Rattle.cu_op.specs.Sound.{Sound}
use Rattle.cu_op.specs.TaskView.{TaskView, task_op, walk_at}
use Rattle.cu_op.specs.declared.kernel.Kernel.{Kernel}
use Rattle.cu_op.specs.declared.walks.Walk.{Walk}
use Rattle.cu_shape.proofs.Places.{place-below}
use Rattle.cu_shape.specs.Index.{back, place_of, product, IsInside}
use Rattle.cu_task.proofs.InputReads.{front_part, regions_more}
use Rattle.cu_task.proofs.MadeParts.{at_end, next_walk}
use Rattle.cu_task.proofs.MapTask.{task_kernel}
use Rattle.cu_task.proofs.SlabPlaces.{back_same}
use Rattle.cu_task.proofs.TaskKinds.{of_map}
use Rattle.cu_task.specs.Inputs.{lays_from, map_code, walk_room, HasRegions, IsMapOf}
use Rattle.cu_task.specs.OfTask.{walks_from, HasMade, HasWalk}
use Rattle.cu_task.specs.Slabs.{input_sizes, input_type, made_type, other_place, own_sizes, slab_lay, slab_lays, two_loads, MapsTwo}

-- ---- bytes one element after another

last_of_two : (t : Dtype) (front own : List ℕ) (n : ℕ) → length front ≡ n * size_of t → length own ≡ size_of t → bytes_at t (front ++ own) n ≡ own
last_of_two t front own n long size =
    ap (λ (m : ℕ). take (size_of t) (drop m (front ++ own))) (sym long) ∙ ap (take (size_of t)) (drop-append_seam front own) ∙ all own (size_of t) size
  where
    all : (xs : List ℕ) (n : ℕ) → length xs ≡ n → take n xs ≡ xs
    all [] zero e = refl
    all [] (suc n) e = refl
    all (x ∷ xs) zero e = absurd (omega (arith, e))
    all (x ∷ xs) (suc n) e = ap (λ ys. x ∷ ys) (all xs n (omega (arith, e)))

-- some bytes have these numbers as their elements
pub all_numbers : (t : Dtype) (n : ℕ) (number : ℕ → ℤ) → (bytes : List ℕ) × (length bytes ≡ n * size_of t) × ((p : ℕ) → p < n → bytes_at t bytes p ≡ element_bytes Little t (number p))
all_numbers t zero number = ([], omega arith, λ p below. absurd (omega (arith, below)))
all_numbers t (suc n) number =
    let (front, long, each) = all_numbers t n number in
    let own = element_bytes Little t (number n) in
    let size = length-element_bytes Little t (number n) in
    let both = length-append front (element_bytes Little t (number n)) in (
      front ++ element_bytes Little t (number n),
      (let next : suc n * size_of t ≡ n * size_of t + size_of t = omega arith in omega (arith, both, long, size, next)),
      λ p below. elim (cases_lt p n) [
        | inl less ↦ front_part (size_of t) p front (element_bytes Little t (number n)) (fits front p less long) ∙ each p less
        | inr more ↦
            let same : n ≡ p = omega (arith, below, more) in
            subst (λ (q : ℕ). bytes_at t (front ++ element_bytes Little t (number n)) q ≡ element_bytes Little t (number q)) same (last_of_two t front (element_bytes Little t (number n)) n long size)
      ],
    )
  where
    fits : (front : List ℕ) (p : ℕ) → p < n → length front ≡ n * size_of t → p * size_of t + size_of t ≤ length front
    fits front p less long = let far : suc p * size_of t ≤ n * size_of t = mul-le (suc p) (size_of t) n (size_of t) less (omega arith) in omega (arith, far, long)

-- ---- a map of two inputs

pub two_walks : (t : TaskView) → MapsTwo t → walks_from t 0 ≡ walk_at t 0 ∷ walk_at t 1 ∷ []
two_walks t maps =
    let ws = walks_from t 0 in
    let two = maps.two in
    let behind : drop 1 (walks_from t 0) ≡ walk_at t 1 ∷ drop 2 (walks_from t 0) = next_walk (walks_from t 0) 1 (walk 0 [] []) (omega (arith, two)) in
    let none = at_end (walks_from t 0) 2 (omega (arith, two)) in
    next_walk (walks_from t 0) 0 (walk 0 [] []) (omega (arith, two)) ∙ ap (λ (xs : List Walk). walk_at t 0 ∷ xs) (behind ∙ ap (λ (xs : List Walk). walk_at t 1 ∷ xs) none)

-- the regions of the two inputs, one behind another
abbrev pub both_inputs : ℕ → List ℕ → List ℕ → List ℕ
both_inputs zero shown other = shown ++ other
both_inputs (suc place) shown other = other ++ shown

-- an element of a region that stands in front of another, or behind it, where its sizes are these
module _ (ds i : List ℕ) (inside : IsInside ds i) where
  read_here : (t : Dtype) (d bytes : List ℕ) → d ≡ ds → element_at Little t bytes (place_of d (back d i)) ≡ element_at Little t bytes (place_of ds i)
  read_here t d bytes same =
      ap (λ (x : List ℕ). element_at Little t bytes (place_of x (back x i))) same
      ∙ ap (λ (x : List ℕ). element_at Little t bytes (place_of ds x)) (back_same ds i inside)

  load_front : (t : Dtype) (d own rest : List ℕ) → d ≡ ds → length own ≡ product d * size_of t → element_at Little t (own ++ rest) (place_of d (back d i)) ≡ element_at Little t own (place_of ds i)
  load_front t d own rest same long =
      let below = place-below ds i inside in
      let far : suc (place_of ds i) * size_of t ≤ product ds * size_of t = mul-le (suc (place_of ds i)) (size_of t) (product ds) (size_of t) below (omega arith) in
      let all = ap (λ (x : List ℕ). product x * size_of t) same in
      read_here t d (own ++ rest) same
      ∙ element_at_same Little t (own ++ rest) own (place_of ds i) (place_of ds i) (front_part (size_of t) (place_of ds i) own rest (omega (arith, far, all, long)))

  load_behind : (t : Dtype) (d front own : List ℕ) (n : ℕ) → d ≡ ds → length front ≡ n → element_at Little t (drop (0 + n) (front ++ own)) (place_of d (back d i)) ≡ element_at Little t own (place_of ds i)
  load_behind t d front own n same long =
      read_here t d (drop (0 + n) (front ++ own)) same
      ∙ ap (λ (x : List ℕ). element_at Little t x (place_of ds i))
      (ap (λ (m : ℕ). drop m (front ++ own)) (let e : 0 + n ≡ length front = omega (arith, long) in e) ∙ drop-append_seam front own)

-- what stands where of the two inputs
pub record AreInputs (t : TaskView) (place : ℕ) (shown other : List ℕ) : Type 0 where
  pub sizes : (k : ℕ) → k < 2 → input_sizes t k ≡ own_sizes t
  pub shown_long : length shown ≡ walk_room t.plan.arrays (walk_at t place)
  pub other_long : length other ≡ walk_room t.plan.arrays (walk_at t (other_place place))

both_loads : (t : TaskView) (place : ℕ) (shown other i : List ℕ) → place < 2 → IsInside (own_sizes t) i → AreInputs t place shown other → (k : ℕ)
    → loaded_at (lays_from t.plan.arrays 0 (walk_at t 0 ∷ walk_at t 1 ∷ [])) (both_inputs place shown other) i k
    ≡ two_loads place (element_at Little (input_type t place) shown (place_of (own_sizes t) i)) (element_at Little (input_type t (other_place place)) other (place_of (own_sizes t) i)) k
both_loads t zero shown other i listed inside are zero =
    ap Some (load_front (own_sizes t) i inside (input_type t 0) (input_sizes t 0) shown other (are.sizes 0 (omega arith)) are.shown_long)
both_loads t zero shown other i listed inside are (suc zero) =
    ap Some (load_behind (own_sizes t) i inside (input_type t 1) (input_sizes t 1) shown other (walk_room t.plan.arrays (walk_at t 0)) (are.sizes 1 (omega arith)) are.shown_long)
both_loads t zero shown other i listed inside are (suc (suc k)) = refl
both_loads t (suc zero) shown other i listed inside are zero =
    ap Some (load_front (own_sizes t) i inside (input_type t 0) (input_sizes t 0) other shown (are.sizes 0 (omega arith)) are.other_long)
both_loads t (suc zero) shown other i listed inside are (suc zero) =
    ap Some (load_behind (own_sizes t) i inside (input_type t 1) (input_sizes t 1) other shown (walk_room t.plan.arrays (walk_at t 0)) (are.sizes 1 (omega arith)) are.other_long)
both_loads t (suc zero) shown other i listed inside are (suc (suc k)) = refl
both_loads t (suc (suc place)) shown other i listed inside are k = absurd (omega (arith, listed))

both_regions : (t : TaskView) (place : ℕ) (shown other : List ℕ) (at : Elements) → place < 2 → AreInputs t place shown other
    → HasWalk t at (walk_at t place) shown → HasWalk t at (walk_at t (other_place place)) other
    → HasRegions t.plan.arrays at (walk_at t 0 ∷ walk_at t 1 ∷ []) (both_inputs place shown other)
both_regions t zero shown other at listed are one two = regions_more t.plan.arrays (walk_at t 0) (walk_at t 1 ∷ []) at shown other are.shown_long one (two, tt)
both_regions t (suc zero) shown other at listed are one two = regions_more t.plan.arrays (walk_at t 0) (walk_at t 1 ∷ []) at other shown are.other_long two (one, tt)
both_regions t (suc (suc place)) shown other at listed are one two = absurd (omega (arith, listed))

-- the kernel's values at all places are what the map makes of the inputs
pub map_made : (t : TaskView) (place : ℕ) (shown other output : List ℕ) (at : Elements) → Sound t.plan → MapsTwo t → place < 2 → AreInputs t place shown other
    → HasWalk t at (walk_at t place) shown → HasWalk t at (walk_at t (other_place place)) other
    → ((p : ℕ) → p < product (own_sizes t) → kernel_value (map_code (task_op t)) (two_loads place (element_at Little (input_type t place) shown p) (element_at Little (input_type t (other_place place)) other p))
    ≡ Some (element_at Little (made_type t) output p))
    → HasMade t at output
map_made t place shown other output at s maps listed are one two values idx within =
    let kernel : Kernel = record { code = record { items = map_code (task_op t) } } in
    let own = task_kernel t.plan s t.op (task_op t) t.number kernel (fit_of t.plan s t.op t.operation) t.within (of_map (task_op t) maps.map).code in
    let ws = two_walks t maps in
    own.value at (both_inputs place shown other) output
    (subst (λ (xs : List Walk). HasRegions t.plan.arrays at xs (both_inputs place shown other)) (sym ws) (both_regions t place shown other at listed are one two))
    (λ i inside. ap (λ (xs : List Walk). kernel_value (map_code (task_op t)) (loaded_at (lays_from t.plan.arrays 0 xs) (both_inputs place shown other) i)) ws
    ∙ same_kernel (map_code (task_op t)) _ _ (both_loads t place shown other i listed inside are)
    ∙ values (place_of (own_sizes t) i) (place-below (own_sizes t) i inside))
    idx within

-- ---- a slab

pub slab_kernel : (t : TaskView) → Sound t.plan → MapsTwo t → (kernel : Kernel) → IsMapOf (task_op t) kernel → (place at count : ℕ) → KernelFits kernel.code.items (lay_types (slab_lays t place at count)) [] (made_type t)
slab_kernel t s maps kernel is place at count =
    let own = task_kernel t.plan s t.op (task_op t) t.number kernel (fit_of t.plan s t.op t.operation) t.within is in
    subst (λ (xs : List Walk). KernelFits kernel.code.items (lay_types (lays_from t.plan.arrays 0 xs)) [] (made_type t)) (two_walks t maps) own.fits

pub slab_lays_fit : (t : TaskView) (place at count room : ℕ) → place < 2 → count * size_of (input_type t place) ≤ room → at + count * size_of (input_type t (other_place place)) ≤ room
    → All (LayFits (count ∷ []) room) (slab_lays t place at count)
slab_lays_fit t place at count room listed strip other =
    All-cons (LayFits (count ∷ []) room) (slab_lay t place at count 0) (slab_lay t place at count 1 ∷ []) (fits place 0 listed (omega arith) strip other)
    (All-cons (LayFits (count ∷ []) room) (slab_lay t place at count 1) [] (fits place 1 listed (omega arith) strip other) (All-nil (LayFits (count ∷ []) room)))
  where
    one_axis : BroadcastsTo (count ∷ []) (count ∷ [])
    one_axis = record { rank = omega arith; axes = (inl refl, tt) }

    fits : (place k : ℕ) → place < 2 → k < 2 → count * size_of (input_type t place) ≤ room → at + count * size_of (input_type t (other_place place)) ≤ room → LayFits (count ∷ []) room (slab_lay t place at count k)
    fits zero zero a b strip other = record { broadcasts = one_axis; inside = omega (arith, strip) }
    fits zero (suc zero) a b strip other = record { broadcasts = one_axis; inside = omega (arith, other) }
    fits (suc zero) zero a b strip other = record { broadcasts = one_axis; inside = omega (arith, other) }
    fits (suc zero) (suc zero) a b strip other = record { broadcasts = one_axis; inside = omega (arith, strip) }
    fits (suc (suc place)) k a b strip other = absurd (omega (arith, a))
    fits place (suc (suc k)) a b strip other = absurd (omega (arith, b))

-- what the kernel loads of a strip in front and of so many elements from a byte on
pub slab_loads : (t : TaskView) (place at count k : ℕ) (inputs : List ℕ) → place < 2 → k < count → (j : ℕ)
    → loaded_at (slab_lays t place at count) inputs (k ∷ []) j
    ≡ two_loads place (element_at Little (input_type t place) inputs k) (element_at Little (input_type t (other_place place)) (drop at inputs) k) j
slab_loads t place at count k inputs listed below j = by_place place j listed
  where
    here : (ty : Dtype) (bytes : List ℕ) → element_at Little ty bytes (place_of (count ∷ []) (back (count ∷ []) (k ∷ []))) ≡ element_at Little ty bytes k
    here ty bytes =
        read_here (count ∷ []) (k ∷ []) (below, tt) ty (count ∷ []) bytes refl
        ∙ ap (element_at Little ty bytes) (let e : k * 1 + 0 ≡ k = omega arith in e)

    by_place : (place j : ℕ) → place < 2 → loaded_at (slab_lays t place at count) inputs (k ∷ []) j
        ≡ two_loads place (element_at Little (input_type t place) inputs k) (element_at Little (input_type t (other_place place)) (drop at inputs) k) j
    by_place zero zero a = ap Some (here (input_type t 0) inputs)
    by_place zero (suc zero) a = ap Some (here (input_type t 1) (drop at inputs))
    by_place zero (suc (suc j)) a = refl
    by_place (suc zero) zero a = ap Some (here (input_type t 0) (drop at inputs))
    by_place (suc zero) (suc zero) a = ap Some (here (input_type t 1) inputs)
    by_place (suc zero) (suc (suc j)) a = refl
    by_place (suc (suc place)) j a = absurd (omega (arith, a))
