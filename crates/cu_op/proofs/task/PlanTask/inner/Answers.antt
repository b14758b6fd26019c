use Rattle.cu_op.proofs.Fetched.{maker_before, walk_chunk}
use Rattle.cu_op.proofs.Operations.{input_array}
use Rattle.cu_op.proofs.Plans.{grid_ok}
use Rattle.cu_op.proofs.task.PlanTask.inner.Goals as goal
use Rattle.cu_op.specs.Arrays.{is_inlined, maker_at}
use Rattle.cu_op.specs.Chunks.{walk}
use Rattle.cu_op.specs.Operation.{reads_of, IsReadable}
use Rattle.cu_op.specs.PlanView.{PlanView, op_of}
use Rattle.cu_op.specs.Sound.{Sound}
use Rattle.cu_op.specs.TaskView.{task_op, walk_at, IsInnerRegion, StandsFor, TaskView}
use Rattle.cu_op.specs.Walks.{input_walks}
use Rattle.cu_op.specs.declared.layout.ArrayInfo.{ArrayInfo}
use Rattle.cu_op.specs.declared.walks.Walk.{Walk}
use Rattle.std.proofs.Common.{◌≡◌, ℕ, ◌<◌, true, List, [], length, Contains, get_or, ap, sym, ◌∙◌, subst}
use Rattle.std.proofs.lemmas.List.{get_or_read}
use Rattle.std.proofs.lemmas.List.Elements.{All-contains}

-- what is read at a place of the list is in it
listed_at : (kept walks : List Walk) (place : ℕ) (w : Walk) → kept ≡ walks → place < length walks
    → w ≡ get_or kept place w → Contains walks w
listed_at kept walks place w e l i = (place, l, sym (subst (λ (ws : List Walk). w ≡ get_or ws place w) e i))

-- what makes it was made before the operation that reads it
sooner_made : (p : PlanView) (s : Sound p) (k task j region : ℕ) (w : Walk) → k < length p.ops
    → Contains (input_walks p.arrays (op_of p k) task) w → IsInnerRegion p w j region → j < k
sooner_made p s k task j region w h listed i =
    let read = input_array p.arrays (λ a b. grid_ok p a s b) k (op_of p k) task w listed in
    let readable = All-contains (IsReadable p.arrays k) (reads_of (op_of p k)) w.array (s.operations k h).reads read in
    maker_before p s (maker_at p.arrays w.array) k j readable.1 i.maker

stands_for : (t u inner : TaskView) (place : ℕ) (w : Walk) → t ≡ u → w ≡ walk_at u place
    → inner.plan ≡ u.plan → is_inlined u.plan.arrays w.array ≡ true → inner.op < u.op
    → IsInnerRegion u.plan w inner.op inner.number → StandsFor t (walk_at t place) inner
stands_for t u inner place w same at plan inlined before i =
    subst (λ (v : TaskView). StandsFor v (walk_at v place) inner) (sym same)
    (record {
      plan = plan;
      inlined = subst (λ (v : Walk). is_inlined u.plan.arrays v.array ≡ true) at inlined;
      before = before;
      region = subst (λ (v : Walk). IsInnerRegion u.plan v inner.op inner.number) at i;
    })

-- the array of the region is made where it is read
is_made_inside : (c : goal.Else-not-array)
    → is_inlined c.self.inside.plan.now.arrays c.index-deref-place.result.array ≡ true
is_made_inside c = ap (λ (i : ArrayInfo). i.inlined) (sym c.array.ensures.array) ∙ c.if-not-array.false

place_in : (c : goal.Else-not-array)
    → c.args.place < length (input_walks c.self.inside.plan.now.arrays (op_of c.self.inside.plan.now c.self.inside.op) c.self.inside.number)
place_in c = subst (λ (t : TaskView). c.args.place < length (input_walks t.plan.arrays (task_op t) t.number)) (sym c.self.view_is) c.requires

listed : (c : goal.Else-not-array)
    → Contains (input_walks c.self.inside.plan.now.arrays (op_of c.self.inside.plan.now c.self.inside.op) c.self.inside.number) c.index-deref-place.result
listed c = listed_at c.deref.result.now _ c.args.place c.index-deref-place.result (c.deref.ensures.0 ∙ c.self.invariant.reads) (place_in c) c.index-deref-place.is

pub inner_region-requires-clause-chunk : goal.inner_region-requires-clause-chunk
inner_region-requires-clause-chunk c =
    walk_chunk c.self.inside.plan.now c.self.invariant.sound c.self.inside.op c.self.inside.number c.index-deref-place.result
    c.self.inside.operation c.self.inside.within (listed c) (is_made_inside c)

pub returns-clause-made : goal.returns-clause-made
returns-clause-made c =
    let p = c.self.inside.plan.now in
    let w = c.index-deref-place.result in
    let k = c.self.inside.op in
    let walks : List Walk = input_walks p.arrays (op_of p k) c.self.inside.number in
    let kept = c.deref.ensures.0 ∙ c.self.invariant.reads in
    let place : c.args.place < length walks = subst (λ (t : TaskView). c.args.place < length (input_walks t.plan.arrays (task_op t) t.number)) (sym c.self.view_is) c.requires in
    let there = listed_at c.deref.result.now walks c.args.place w kept place c.index-deref-place.is in
    let at = get_or_read walks c.args.place w place (subst (λ (ws : List Walk). w ≡ get_or ws c.args.place w) kept c.index-deref-place.is) (walk 0 [] []) in
    let inner : IsInnerRegion p w c.of_region.result.op c.of_region.result.number = rw (c.of_region.ensures.operation, c.of_region.ensures.number) c.in_ok-op.ensures in
    let before = sooner_made p c.self.invariant.sound k c.self.inside.number c.of_region.result.op c.of_region.result.number w c.self.inside.operation there inner in
    stands_for c.args.self.now (record { plan = p; op = k; number = c.self.inside.number; operation = c.self.inside.operation; within = c.self.inside.within })
    c.of_region.result c.args.place w (sym c.self.view_is) at c.of_region.ensures.plan
    (ap (λ (i : ArrayInfo). i.inlined) (sym c.array.ensures.array) ∙ c.if-not-array.false) before inner
