use Rattle.cu_op.proofs.Fetching.{inner_before, inner_few, inner_more, read_for, stored_more}
use Rattle.cu_op.proofs.schedule.+push_walks.Goals as goal
use Rattle.cu_op.specs.PlanView.{op_of}
use Rattle.cu_op.specs.TaskView.{walk_load, IsReadFor}
use Rattle.cu_op.specs.Walks.{cells_of_walks, input_walks, new_walks, read_chunks}
use Rattle.cu_op.specs.Within.{chunks_deep}
use Rattle.cu_op.specs.declared.cells.Cell.{Cell}
use Rattle.cu_op.specs.declared.layout.ArrayInfo.{ArrayInfo}
use Rattle.cu_op.specs.declared.walks.Walk.{Walk}
use Rattle.std.proofs.Common.{◌≡◌, ◌≤◌, ◌++◌, [], List, All, ap, arith, refl, subst, sym, ◌∙◌}
use Rattle.std.specs.List.{flat_map}
use Rattle.std.specs.Prelude.{sum_by}

pub push_walk-returns-then-not-array-clause-cells : goal.push_walk-returns-then-not-array-clause-cells
push_walk-returns-then-not-array-clause-cells t c =
    let f = ap (λ (i : ArrayInfo). i.inlined) (sym c.array.ensures.array) ∙ c.if-not-array.true in
    rw c.push.ensures.items (stored_more c.args.plan.now c.array.ensures.sound c.args.walks.now.items c.args.walk.now c.args.op f)

pub push_walk-push_walks-requires : goal.push_walk-push_walks-requires
push_walk-push_walks-requires t c =
    let p = c.args.plan.now in
    let s = c.array.ensures.sound in
    let j = c.in-Some.maker in
    let region = c.in-Some.region in
    let i = c.in-Some.ensures in
    let inner = ap (λ (i : ArrayInfo). i.inlined) (sym c.array.ensures.array) ∙ c.if-not-array.false in
    let before = inner_before p s c.args.op c.args.walk.now c.requires.read inner j region i in
    let own : c.as_slice.result.now ≡ new_walks (input_walks p.arrays (op_of p j) region) [] = rw (c.as_slice.ensures.value, c.each_once-read.ensures, c.deref.ensures.0, c.input_walks.ensures.walks) refl in
    let less = inner_few p s c.args.op c.args.walk.now c.requires.read inner j region i in
    let few = subst (λ (ws : List Walk). sum_by (walk_load p j) ws ≤ walk_load p c.args.op c.args.walk.now) (sym own) less in
    let room = c.requires.room in (
      omega (arith, c.decreases, before),
      (subst (λ (ws : List Walk). All (IsReadFor p j) ws) (sym own) (read_for p s j region i.makes.operation i.makes.number), (omega (arith, few, room), c.requires.over)),
    )

pub push_walk-returns-in-Some-clause-few : goal.push_walk-returns-in-Some-clause-few
push_walk-returns-in-Some-clause-few t c =
    let p = c.args.plan.now in
    let s = c.array.ensures.sound in
    let j = c.in-Some.maker in
    let region = c.in-Some.region in
    let i = c.in-Some.ensures in
    let inner = ap (λ (i : ArrayInfo). i.inlined) (sym c.array.ensures.array) ∙ c.if-not-array.false in
    let own : c.as_slice.result.now ≡ new_walks (input_walks p.arrays (op_of p j) region) [] = rw (c.as_slice.ensures.value, c.each_once-read.ensures, c.deref.ensures.0, c.input_walks.ensures.walks) refl in
    let less = inner_few p s c.args.op c.args.walk.now c.requires.read inner j region i in
    let few = subst (λ (ws : List Walk). sum_by (walk_load p j) ws ≤ walk_load p c.args.op c.args.walk.now) (sym own) less in
    let all = c.push_walks.ensures.few in
    omega (arith, few, all)

pub push_walk-returns-in-Some-clause-cells : goal.push_walk-returns-in-Some-clause-cells
push_walk-returns-in-Some-clause-cells t c =
    let p = c.args.plan.now in
    let s = c.array.ensures.sound in
    let j = c.in-Some.maker in
    let region = c.in-Some.region in
    let inner = ap (λ (i : ArrayInfo). i.inlined) (sym c.array.ensures.array) ∙ c.if-not-array.false in
    let own : c.as_slice.result.now ≡ new_walks (input_walks p.arrays (op_of p j) region) [] = rw (c.as_slice.ensures.value, c.each_once-read.ensures, c.deref.ensures.0, c.input_walks.ensures.walks) refl in
    let same = ap (λ (ws : List Walk). flat_map (chunks_deep read_chunks p j) (cells_of_walks p.arrays ws)) own ∙ inner_more p s c.args.op c.args.walk.now c.requires.read inner j region c.in-Some.ensures in
    c.push_walks.ensures.cells ∙ ap (λ (cells : List Cell). cells_of_walks p.arrays c.args.walks.now.items ++ cells) same
