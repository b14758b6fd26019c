use Rattle.cu_op.proofs.Fetched.{fetched_same, fetched_stored}
use Rattle.cu_op.proofs.Fetching.{few_walks, read_for}
use Rattle.cu_op.proofs.Plans.{own_region}
use Rattle.cu_op.proofs.schedule.inputs.Goals as goal
use Rattle.cu_op.specs.InputCells.{input_cells}
use Rattle.cu_op.specs.Schedule.{op_of}
use Rattle.cu_op.specs.TaskView.{walk_load}
use Rattle.cu_op.specs.Walks.{cells_of_walks, input_walks, new_walks, read_chunks}
use Rattle.cu_op.specs.Within.{chunks_deep, fetched_chunks}
use Rattle.cu_op.specs.declared.cells.Cell.{Cell}
use Rattle.cu_op.specs.declared.walks.Walk.{Walk}
use Rattle.std.proofs.Common.{◌≡◌, ◌↔◌, ◌≤◌, ◌++◌, [], List, Contains, get_or, length, ap, refl, sym, ◌∙◌, subst, arith}
use Rattle.std.proofs.lemmas.List.Elements.{All-contains_itself}
use Rattle.std.specs.List.{flat_map}
use Rattle.std.specs.Prelude.{sum_by}

pub push_walks-requires-clause-read : goal.push_walks-requires-clause-read
push_walks-requires-clause-read c =
    let p = c.args.plan.now in
    rw (c.as_slice.ensures.value, c.each_once-read.ensures, c.deref.ensures.0, c.input_walks.ensures.walks)
    (read_for p c.arrays-arrays.ensures.sound c.args.op c.args.task c.requires.operation (own_region p.arrays (op_of p c.args.op) c.args.task c.requires.task))

pub push_walks-requires-clause-room : goal.push_walks-requires-clause-room
push_walks-requires-clause-room c =
    let p = c.args.plan.now in
    let most = subst (λ (ws : List Walk). length ws ≤ 8) c.input_walks.ensures.walks c.input_walks.ensures.few in
    let few = few_walks p c.arrays-arrays.ensures.sound c.args.op c.args.task c.requires.operation (own_region p.arrays (op_of p c.args.op) c.args.task c.requires.task) most in
    let all : sum_by (walk_load c.args.plan.now c.args.op) c.as_slice.result.now ≤ 8 =
    rw (c.as_slice.ensures.value, c.each_once-read.ensures, c.deref.ensures.0, c.input_walks.ensures.walks) few in
    rw c.new-walks.ensures (omega (arith, all))

cells_are : (c : goal.After-make) → c.make.result ≡ fetched_chunks c.args.plan.now c.args.op c.args.task
cells_are c =
    let p = c.args.plan.now in
    let read : c.as_slice.result.now ≡ new_walks (input_walks p.arrays (op_of p c.args.op) c.args.task) [] =
    rw (c.as_slice.ensures.value, c.each_once-read.ensures, c.deref.ensures.0, c.input_walks.ensures.walks) refl in
    let made : c.make.result ≡ cells_of_walks p.arrays c.push_walks.new.walks.items = rw (c.make.ensures, c.arrays-arrays.ensures.arrays) refl in
    let none : cells_of_walks p.arrays c.new-walks.result.items ≡ [] = rw c.new-walks.ensures refl in
    made ∙ c.push_walks.ensures.cells
    ∙ ap (λ (cells : List Cell). cells ++ flat_map (chunks_deep read_chunks p c.args.op) (cells_of_walks p.arrays c.as_slice.result.now)) none
    ∙ ap (λ (ws : List Walk). flat_map (chunks_deep read_chunks p c.args.op) (cells_of_walks p.arrays ws)) read

pub returns-clause-chunks : goal.returns-clause-chunks
returns-clause-chunks c = λ i d l.
    let p = c.args.plan.now in
    let own = own_region p.arrays (op_of p c.args.op) c.args.task c.requires.task in
    (fetched_stored p c.arrays-arrays.ensures.sound c.args.op c.args.task (get_or c.make.result i d) c.requires.operation own
    (subst (λ (cells : List Cell). Contains cells (get_or c.make.result i d)) (cells_are c) (All-contains_itself c.make.result i d l))).0

pub returns-clause-stored : goal.returns-clause-stored
returns-clause-stored c = λ i d l.
    let p = c.args.plan.now in
    let own = own_region p.arrays (op_of p c.args.op) c.args.task c.requires.task in
    (fetched_stored p c.arrays-arrays.ensures.sound c.args.op c.args.task (get_or c.make.result i d) c.requires.operation own
    (subst (λ (cells : List Cell). Contains cells (get_or c.make.result i d)) (cells_are c) (All-contains_itself c.make.result i d l))).1

pub returns-clause-exact : goal.returns-clause-exact
returns-clause-exact c = λ d.
    let p = c.args.plan.now in
    subst (λ (cells : List Cell). (Contains cells d) ↔ (Contains (input_cells p c.args.op c.args.task) d)) (sym (cells_are c))
    (fetched_same p c.arrays-arrays.ensures.sound c.args.op c.args.task d c.requires.operation (own_region p.arrays (op_of p c.args.op) c.args.task c.requires.task))
