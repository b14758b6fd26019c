-- When tasks are ready, and when all is stored.
use Rattle.std.proofs.Common.{◌≡◌, ◌≢◌, ◌⊎◌, inl, inr, ℕ, ◌<◌, false, List, length, Contains, Option, Some, None, refl, sym, ◌∙◌, subst}
use Rattle.cu_shape.specs.Index.{IsInside, quotients}
use Rattle.cu_grid.proofs.Parting.{has_coordinate, in_array, lies_within, only_chunk}
use Rattle.cu_store.specs.Steps.{Shown}
use Rattle.cu_op.specs.declared.cells.Cell.{Cell}
use Rattle.cu_op.specs.Arrays.{grid_at, is_inlined, maker_at}
use Rattle.cu_op.specs.Chunks.{cell}
use Rattle.cu_op.specs.Cells.{regions_of, task_at}
use Rattle.cu_op.specs.PlanView.{PlanView}
use Rattle.cu_op.specs.Schedule.{op_of, IsReady}
use Rattle.cu_op.specs.Sound.{Sound, IsCell}
use Rattle.cu_op.specs.Elements.{Elements}
use Rattle.cu_op.specs.Value.{plan_value, stored_inputs}
use Rattle.cu_op.specs.Within.{fetched_chunks, with_inlined}
use Rattle.cu_op.proofs.Fetched.{fetched_before, fetched_ready, fetched_stored, inlined_rule, maker_before}
use Rattle.cu_op.proofs.Members.{bool_cases}
use Rattle.cu_op.proofs.Plans.{grid_ok}
use Rattle.cu_op.proofs.TaskCells.{ready_rule, region_for, task_for, some_task}
use Rattle.cu_op.proofs.Values.{inlined_kept, value_solves}
use Rattle.cu_run_law.specs.Left.{IsLeft, AreDone}
use Rattle.cu_run_law.specs.Pieces.{PlanRun, Text, Chunk, HoldsPiece, IsComplete}
use Rattle.cu_run_law.proofs.Elements.{HaveRanges, element_held}

pub input_or_made : (m : Option ℕ) → (m ≡ None) ⊎ ((k : ℕ) × (m ≡ Some k))
input_or_made None = inl refl
input_or_made (Some k) = inr (k, refl)

pub not_none : (m : Option ℕ) (k : ℕ) → m ≡ Some k → m ≢ None
not_none m k e none = cc

-- what is made for a plan is stored
pub out_stored : (p : PlanView) → Sound p → is_inlined p.arrays p.out ≡ false
out_stored p sound =
    elim (bool_cases (is_inlined p.arrays p.out)) [
      | inr stored ↦ stored
      | inl inner ↦ absurd ((sound.inlined p.out sound.out inner).inner refl)
    ]

module _ (ranges : HaveRanges) (r : PlanRun) (env : Elements) (shown : Shown) (left : IsLeft r env shown) (k task : ℕ) (operation : k < length r.plan.ops)
    (number : task < regions_of r.plan.arrays (op_of r.plan k)) where
  -- where each made chunk that is fetched for a region is held, the region can be computed
  pub task_ready : ((c : Cell) → Contains (fetched_chunks r.plan k task) c → maker_at r.plan.arrays c.array ≢ None → HoldsPiece r env (Chunk c) shown)
      → IsReady r.plan k task env left.held
  task_ready holds =
      fetched_ready r.plan left.sound k task env left.held operation number (λ c j listed within.
      let chunk = (fetched_stored r.plan left.sound k task c operation number listed).0 in
      let g = grid_at r.plan.arrays c.array in
      let ok = grid_ok r.plan c.array left.sound chunk.0 in
      let inside = in_array g c.coord j ok chunk.1 within in
      elim (input_or_made (maker_at r.plan.arrays c.array)) [
        | inl given ↦ left.inputs c.array j chunk.0 given inside ∙ sym ((value_solves r.plan env left.sound).inputs c.array j given)
        | inr made ↦
            let own : c.coord ≡ quotients j g.chunk = only_chunk g c.coord j ok chunk.1 within in
            let held = holds c listed (not_none (maker_at r.plan.arrays c.array) made.0 made.1) in
            element_held ranges r env shown left c.array j chunk.0 inside (subst (λ (at : List ℕ). HoldsPiece r env (Chunk (cell c.array at)) shown) own held)
      ])

  -- the makers of what it fetches are operations before its own
  pub made_held : (before : ℕ) → AreDone r env k before shown → (c : Cell) → Contains (fetched_chunks r.plan k task) c → maker_at r.plan.arrays c.array ≢ None
      → HoldsPiece r env (Chunk c) shown
  made_held before done c listed made =
      let chunk = fetched_stored r.plan left.sound k task c operation number listed in
      let readable = fetched_before r.plan left.sound k task c operation number listed in
      elim (input_or_made (maker_at r.plan.arrays c.array)) [
        | inl given ↦ absurd (made given)
        | inr maker ↦
            let piece : IsCell r.plan.arrays c.array c.coord = record { within = chunk.0.0; made = made; stored = chunk.1; coordinate = chunk.0.1 } in
            let w = task_for r.plan left.sound maker.0 c.array c.coord piece maker.1 in
            let less = maker_before r.plan left.sound (maker_at r.plan.arrays c.array) k maker.0 readable.1 maker.1 in
            done maker.0 (task_at r.plan.arrays (op_of r.plan maker.0) c) (w.operation, w.number, inl less) c w.cell
      ]

  pub ready_after : (before : ℕ) → AreDone r env k before shown → IsReady r.plan k task env left.held
  ready_after before done = task_ready (made_held before done)

-- each piece is held where the texts are and all tasks are done
pub all_held : (r : PlanRun) (env : Elements) (shown : Shown) → Sound r.plan → ((n : ℕ) → n < length r.texts → HoldsPiece r env (Text n) shown) → AreDone r env (length r.plan.ops) 0 shown
    → IsComplete r env shown
all_held r env shown sound texts done (Text n) piece = texts n piece
all_held r env shown sound texts done (Chunk c) piece =
    let (k, task, w) = some_task r.plan sound c.array c.coord piece in
    done k task (w.operation, w.number, inl w.operation) c w.cell

module _ (ranges : HaveRanges) (r : PlanRun) (env : Elements) (shown : Shown) (a : ℕ) (idx : List ℕ) (left : IsLeft r env shown) (complete : IsComplete r env shown)
    (within : a < length r.plan.arrays) (made : maker_at r.plan.arrays a ≢ None) where
  pub elements_held : is_inlined r.plan.arrays a ≡ false → IsInside (grid_at r.plan.arrays a).shape idx → stored_inputs r.plan.arrays left.held a idx ≡ plan_value r.plan env a idx
  elements_held stored inside =
      let g = grid_at r.plan.arrays a in
      let c = cell a (quotients idx g.chunk) in
      let piece : IsCell r.plan.arrays a (quotients idx g.chunk) = record { within = within; made = made; stored = stored; coordinate = has_coordinate g idx (grid_ok r.plan a left.sound within) inside } in
      element_held ranges r env shown left a idx within inside (complete (Chunk c) piece)

  -- whether the array is stored or made where it is read
  pub elements_made : IsInside (grid_at r.plan.arrays a).shape idx → with_inlined r.plan (stored_inputs r.plan.arrays left.held) a idx ≡ plan_value r.plan env a idx
  elements_made inside =
      elim (bool_cases (is_inlined r.plan.arrays a)) [
        | inr stored ↦ inlined_kept r.plan (stored_inputs r.plan.arrays left.held) a idx left.sound stored ∙ elements_held stored inside
        | inl inner ↦
            elim (input_or_made (maker_at r.plan.arrays a)) [
              | inl given ↦ absurd (made given)
              | inr maker ↦
                  let g = grid_at r.plan.arrays a in
                  let ok = grid_ok r.plan a left.sound within in
                  let coord = quotients idx g.chunk in
                  let k = maker.0 in
                  let m = region_for r.plan left.sound k a coord within (has_coordinate g idx ok inside) maker.1 in
                  let region = task_at r.plan.arrays (op_of r.plan k) (cell a coord) in
                  let held = λ (c : Cell) (listed : Contains (fetched_chunks r.plan k region) c) (some : maker_at r.plan.arrays c.array ≢ None).
                  let chunk = fetched_stored r.plan left.sound k region c m.operation m.number listed in
                  complete (Chunk c) (record { within = chunk.0.0; made = some; stored = chunk.1; coordinate = chunk.0.1 }) in
                  let ready = task_ready ranges r env shown left k region m.operation m.number held in
                  inlined_rule r.plan left.sound (stored_inputs r.plan.arrays left.held) a k idx within inner maker.1
                  ∙ ready_rule r.plan left.sound k region a env left.held coord idx ready m (lies_within g idx ok inside)
            ]
      ]
