-- A plan that is left of another, for those above: it is sound, its result, and its inputs where they
-- come first.
use Rattle.std.proofs.Common.{◌≡◌, ◌≢◌, ◌⊎◌, inl, inr, ℕ, zero, suc, ◌+◌, ◌<◌, ◌≤◌, ◌^◌, Bool, true, false, List, [], ◌∷◌, Contains, length, Option, Some, None, get_or, refl, ap, sym, ◌∙◌, subst, arith, if◌then◌else◌}
use Rattle.std.specs.List.{slice_get}
use Rattle.std.specs.Prelude.{sum_by}
use Rattle.std.proofs.lemmas.Bool.Decides.{eqb_tells}
use Rattle.std.proofs.lemmas.List.{get_or-map, length-map}
use Rattle.std.proofs.lemmas.Option.{get_or_from_slice_get}
use Rattle.cu_name.specs.Keys.{made_prefix_of}
use Rattle.cu_shape.specs.Index.{IsInside}
use Rattle.cu_op.specs.Arrays.{array_at, maker_at, grid_at, AllStored}
use Rattle.cu_op.specs.Cells.{tasks_of}
use Rattle.cu_op.specs.Elements.{Elements}
use Rattle.cu_op.specs.PlanView.{PlanView, operation_at, no_operation}
use Rattle.cu_op.specs.Sound.{Sound}
use Rattle.cu_op.specs.Value.{plan_value}
use Rattle.cu_op.specs.declared.layout.ArrayInfo.{ArrayInfo}
use Rattle.cu_op.specs.declared.layout.Layout.{Layout}
use Rattle.cu_op.specs.declared.operation.Planned.{Planned}
use Rattle.cu_op.proofs.AllStored.{stored_at}
use Rattle.cu_op.proofs.Values.{value_solves}
use Rattle.cu_fuse.specs.Close.{closed, new_number, remaining_array, remaining_from, remaining_numbers, remains, renumbered_planned, setting_of, HasInputsFirst, HasMadeNames}
use Rattle.cu_fuse.specs.Runs.{AreMade, CanRun}
use Rattle.cu_fuse.proofs.ClosedCounts.{cells_fewer, tasks_closed}
use Rattle.cu_fuse.proofs.ClosedNames.{arrays_are, closed_few, counted, inputs_are, keys_are, made_was, prefix_of_other, prefix_of_out}
use Rattle.cu_fuse.proofs.ClosedSound.{makers, operations, projections, rooms}
use Rattle.cu_fuse.proofs.ClosedValue.{all_left, closed_made}
use Rattle.cu_fuse.proofs.LeftArrays.{kept_layout, left_once, left_stored, made_left, numbers_in, numbers_out, old_array, placed, was_input, within}
use Rattle.cu_fuse.proofs.Unique.{unique}

-- What is to be known of the operations that are left: they can run, the plan's values are what they
-- make, they have no more tasks than a plan may have, there are no more of them, and the result is
-- an input or written by one of them.
pub record IsLeft (p : PlanView) (ops : List Planned) : Type 0 where
  pub run : CanRun p.arrays p.reserved [] ops
  pub made : (env : Elements) → AreMade p.arrays (plan_value p env) ops
  pub tasks : sum_by (λ o. tasks_of p.arrays o.op) ops ≤ 65536
  pub few : length ops ≤ length p.ops
  pub out : Contains (remaining_numbers p.arrays ops) p.out

-- ---- it is sound

pub closed_is_sound : (p : PlanView) (ops : List Planned) → Sound p → AllStored p.arrays → HasMadeNames p → IsLeft p ops → Sound (closed (setting_of p) ops)
closed_is_sound p ops sound all names left =
    let stored = left_stored p ops all in
    let fewer = closed_few p ops sound names in
    let few = left.few in
    let all_cells = cells_fewer p ops 0 0 p.arrays (λ i h. ap (array_at p.arrays) (let z : 0 + i ≡ i = omega arith in z)) in
    let cells = sound.cells in
    let all_ops = sound.operation_count in
    let all_arrays = sound.array_count in
    record {
      operations = operations p ops sound left.run;
      projections = projections p ops sound left.run stored;
      rooms = rooms p ops sound left.run stored;
      inlined = λ a h inner. absurd (not_both (stored_at (closed (setting_of p) ops).arrays a stored) inner);
      makers = makers p ops sound left.run;
      arrays = arrays_are p ops sound names;
      keys = keys_are p ops sound names;
      out = within p ops p.out left.out;
      array_count = omega (arith, fewer, all_arrays);
      operation_count = (let l = length-map ops (renumbered_planned (new_number (setting_of p) ops)) in omega (arith, l, few, all_ops));
      input_chunks = inputs_are p ops sound names;
      tasks = (let e = tasks_closed p ops all ops (all_left p ops [] ops refl left.run) in let t = left.tasks in omega (arith, e, t));
      cells = omega (arith, all_cells, cells);
    }
  where
    not_both : {b : Bool} → b ≡ false → b ≡ true → ⊥
    not_both f t = cc

-- ---- what is needed

pub closed_fewer : (p : PlanView) (ops : List Planned) → length ops ≤ length p.ops → length (closed (setting_of p) ops).ops ≤ length p.ops
closed_fewer p ops few = let l = length-map ops (renumbered_planned (new_number (setting_of p) ops)) in omega (arith, l, few)

pub closed_within : (p : PlanView) (ops : List Planned) (n : ℕ) → ((k : ℕ) → k < length ops → (operation_at ops k).projected ≤ n)
    → (k : ℕ) → k < length (closed (setting_of p) ops).ops → (operation_at (closed (setting_of p) ops).ops k).projected ≤ n
closed_within p ops n all k h =
    let l = length-map ops (renumbered_planned (new_number (setting_of p) ops)) in
    let b : k < length ops = omega (arith, l, h) in
    subst (λ (o : Planned). o.projected ≤ n) (sym (get_or-map (renumbered_planned (new_number (setting_of p) ops)) ops k no_operation no_operation b)) (all k b)

-- ---- the result, and inputs that come first

-- the first n arrays are inputs
left_first : (ops : List Planned) (m n : ℕ) (arrays : List ArrayInfo) (k : ℕ) → ((i : ℕ) → i < n → maker_at arrays i ≡ None) → n ≤ length arrays → k < n → slice_get (remaining_from ops m arrays) k ≡ Some (m + k)
left_first ops m n [] k given few b = absurd (omega arith)
left_first ops m zero (a ∷ rest) k given few b = absurd (omega arith)
left_first ops m (suc n) (a ∷ rest) zero given few b =
    let here : remains ops m a.maker ≡ true = ap (remains ops m) (given 0 (omega arith)) in
    ap (λ (l : List ℕ). slice_get l 0) (λ i. if here i then (m ∷ remaining_from ops (m + 1) rest) else remaining_from ops (m + 1) rest) ∙ ap Some (let z : m ≡ m + 0 = omega arith in z)
left_first ops m (suc n) (a ∷ rest) (suc k) given few b =
    let here : remains ops m a.maker ≡ true = ap (remains ops m) (given 0 (omega arith)) in
    ap (λ (l : List ℕ). slice_get l (suc k)) (λ i. if here i then (m ∷ remaining_from ops (m + 1) rest) else remaining_from ops (m + 1) rest)
    ∙ left_first ops (m + 1) n rest k (λ i h. given (suc i) (omega arith)) (omega arith) (omega arith) ∙ ap Some (let z : m + 1 + k ≡ m + suc k = omega arith in z)

module _ (p : PlanView) (ops : List Planned) where
  abbrev N : List ℕ
  N = remaining_numbers p.arrays ops

  module _ (n : ℕ) (few : n ≤ length p.arrays) (given : (a : ℕ) → a < n → maker_at p.arrays a ≡ None) (made : (a : ℕ) → a < length p.arrays → maker_at p.arrays a ≡ None → a < n) where
    stands : (a : ℕ) → a < n → slice_get N a ≡ Some a
    stands a h = left_first ops 0 n p.arrays a given few h ∙ ap Some (let z : 0 + a ≡ a = omega arith in z)

    is_there : (a : ℕ) → a < n → Contains N a
    is_there a h = numbers_in p ops a (omega arith) (ap (remains ops a) (given a h))

    pub number_kept : (a : ℕ) → a < n → new_number (setting_of p) ops a ≡ a
    number_kept a h = left_once ops 0 p.arrays (new_number (setting_of p) ops a) a a (placed p ops a (is_there a h)) (stands a h)

    pub inputs_kept : (a : ℕ) → a < n → array_at (closed (setting_of p) ops).arrays a ≡ array_at p.arrays a
    inputs_kept a h =
        let below : a < length (closed (setting_of p) ops).arrays = subst (λ (m : ℕ). m < length (closed (setting_of p) ops).arrays) (number_kept a h) (within p ops a (is_there a h)) in
        let (o, c, is, at, k, e) = old_array p ops a below in
        let same : o ≡ a = some_same (sym at ∙ stands a h) in
        e ∙ ap (λ (b : ℕ). remaining_array (setting_of p) ops k b (maker_at p.arrays b)) same ∙ ap (remaining_array (setting_of p) ops k a) (given a h)
      where
        some_same : {x y : ℕ} → Some x ≡ Some y → x ≡ y
        some_same h = cc

    -- they are there, and no others are inputs
    pub input_there : (a : ℕ) → a < n → a < length (closed (setting_of p) ops).arrays
    input_there a h = subst (λ (m : ℕ). m < length (closed (setting_of p) ops).arrays) (number_kept a h) (within p ops a (is_there a h))

    pub first_kept : HasInputsFirst (closed (setting_of p) ops) n
    first_kept = record {
      few = all_there n (length (closed (setting_of p) ops).arrays) input_there;
      given = λ a h. ap (λ (x : ArrayInfo). x.maker) (inputs_kept a h) ∙ given a h;
      alone = λ b h none.
          let (o, c, is, at, k, arr) = old_array p ops b h in
          let input : maker_at p.arrays o ≡ None = was_input p ops k o (sym (ap (λ (x : ArrayInfo). x.maker) arr) ∙ none) in
          let first : o < n = made o (numbers_out p ops o c).0 input in
          let same : b ≡ o = left_once ops 0 p.arrays b o o at (stands o first) in
          omega (arith, same, first);
    }
      where
        all_there : (m k : ℕ) → ((a : ℕ) → a < m → a < k) → m ≤ k
        all_there zero k h = omega arith
        all_there (suc m) k h = let l = h m (omega arith) in omega (arith, l)

    -- the value of the result, over the same environment
    pub result_kept : Sound p → Sound (closed (setting_of p) ops) → IsLeft p ops → (env : Elements) (idx : List ℕ) → IsInside (grid_at p.arrays p.out).shape idx → plan_value (closed (setting_of p) ops) env (closed (setting_of p) ops).out idx ≡ plan_value p env p.out idx
    result_kept sound again left env idx inside =
        let w = left.out in
        let at : Elements = λ b. plan_value p env (get_or N b 0) in
        let there : IsInside (grid_at (closed (setting_of p) ops).arrays (closed (setting_of p) ops).out).shape idx = subst (λ (l : Layout). IsInside l.grid.shape idx) (sym (kept_layout p ops p.out w)) inside in
        sym (unique (closed (setting_of p) ops) again env at
        (λ b i h none ins.
        let (o, co, is, place, k, arr) = old_array p ops b h in
        let input : maker_at p.arrays o ≡ None = was_given k o (sym (ap (λ (x : ArrayInfo). x.maker) arr) ∙ none) in
        let first : o < n = made o (numbers_within o co) input in
        let same : b ≡ o = left_once ops 0 p.arrays b o o place (stands o first) in
        ap (λ (m : ℕ). plan_value p env m i) is ∙ (value_solves p env sound).inputs o i input ∙ sym (ap (λ (m : ℕ). env m i) same))
        (closed_made p ops (plan_value p env) ops (all_left p ops [] ops refl left.run) (left.made env))
        (closed (setting_of p) ops).out idx again.out there)
        ∙ ap (λ (m : ℕ). plan_value p env m idx) (get_or_from_slice_get N (new_number (setting_of p) ops p.out) p.out 0 (placed p ops p.out w))
      where
        was_given : (c a : ℕ) → (remaining_array (setting_of p) ops c a (maker_at p.arrays a)).maker ≡ None → maker_at p.arrays a ≡ None
        was_given c a none = was_input p ops c a none

        numbers_within : (a : ℕ) → Contains N a → a < length p.arrays
        numbers_within a c = (numbers_out p ops a c).0

-- ---- the output has the name and the layout that it had, and is made where it was

module _ (p : PlanView) (ops : List Planned) (out_left : Contains (remaining_numbers p.arrays ops) p.out) where
  abbrev K : List ℕ
  K = remaining_numbers p.arrays ops

  pub output_name : (array_at (closed (setting_of p) ops).arrays (closed (setting_of p) ops).out).prefix ≡ (array_at p.arrays p.out).prefix
  output_name =
      let (c, is, low, high) = counted p ops 0 (new_number (setting_of p) ops p.out) K p.out (placed p ops p.out out_left) in
      ap (λ (x : ArrayInfo). x.prefix) is ∙ go c (maker_at p.arrays p.out) refl
    where
      some_none : {k : ℕ} → Some k ≡ None → ⊥
      some_none h = cc

      go : (c : ℕ) (m : Option ℕ) → maker_at p.arrays p.out ≡ m → (remaining_array (setting_of p) ops c p.out (maker_at p.arrays p.out)).prefix ≡ (array_at p.arrays p.out).prefix
      go c None e = ap (λ (x : Option ℕ). (remaining_array (setting_of p) ops c p.out x).prefix) e
      go c (Some k) e = prefix_of_out p ops c p.out (λ none. some_none (sym e ∙ none)) refl

  pub output_layout : (array_at (closed (setting_of p) ops).arrays (closed (setting_of p) ops).out).layout ≡ (array_at p.arrays p.out).layout
  output_layout = kept_layout p ops p.out out_left

  pub output_made : maker_at p.arrays p.out ≢ None → maker_at (closed (setting_of p) ops).arrays (closed (setting_of p) ops).out ≢ None
  output_made made none = let m = made_left p ops p.out out_left made in some_none (sym m ∙ none)
    where
      some_none : {k : ℕ} → Some k ≡ None → ⊥
      some_none h = cc

-- each other made array has a name by its count
module _ (p : PlanView) (ops : List Planned) (sound : Sound p) (names : HasMadeNames p) where
  pub made_name : (b : ℕ) → b < length (closed (setting_of p) ops).arrays → maker_at (closed (setting_of p) ops).arrays b ≢ None
      → ((array_at (closed (setting_of p) ops).arrays b).prefix ≡ (array_at p.arrays p.out).prefix) ⊎ ((k : ℕ) × (k < 2 ^ 64) × ((array_at (closed (setting_of p) ops).arrays b).prefix ≡ made_prefix_of (array_at p.arrays p.out).prefix k))
  made_name b h made =
      let (a, c, _, at, _, _) = old_array p ops b h in
      let (n, is, low, high) = counted p ops 0 b (remaining_numbers p.arrays ops) a at in
      let was = made_was p ops n a (λ none. made (ap (λ (x : ArrayInfo). x.maker) is ∙ none)) in
      let few = closed_few p ops sound names in
      let all = sound.array_count in
      elim (eqb_tells a p.out) [
        | inl t ↦ inl (ap (λ (x : ArrayInfo). x.prefix) is ∙ prefix_of_out p ops n a was t.1)
        | inr t ↦ inr (n, omega arith, ap (λ (x : ArrayInfo). x.prefix) is ∙ prefix_of_other p ops n a (was, t.1))
      ]
