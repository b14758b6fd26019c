-- A view needs each chunk that a task of one of its sources' operations writes, and each task writes one.
use Rattle.std.proofs.Common.{ℕ, zero, suc, ◌<◌, List, [], ◌∷◌, length, Contains, sym, subst, arith}
use Rattle.std.specs.List.{flat_map, range_with_len}
use Rattle.std.proofs.lemmas.List.Elements.{All-contains, Contains-append_left, Contains-append_right}
use Rattle.std.proofs.lemmas.List.FromFn.{length-range_with_len, get_or-range_with_len}
use Rattle.cu_shape.specs.Index.{product, place_of, index_at, indices_of, quotients, IsInside}
use Rattle.cu_shape.proofs.Places.{index-inside, index-place, place-below}
use Rattle.cu_grid.specs.Grid.{IsCoordinate}
use Rattle.cu_grid.proofs.Parting.{has_coordinate, lies_within}
use Rattle.cu_op.specs.declared.layout.ArrayInfo.{ArrayInfo}
use Rattle.cu_op.specs.declared.operation.Op.{Op}
use Rattle.cu_op.specs.declared.operation.Op.TheVariants.{Pull}
use Rattle.cu_op.specs.declared.walks.Walk.{Walk}
use Rattle.cu_op.specs.Arrays.{grid_at, grid_counts}
use Rattle.cu_op.specs.Chunks.{cell, all_chunks, walk}
use Rattle.cu_op.specs.Cells.{task_grid, task_coord, task_lo, task_hi}
use Rattle.cu_op.specs.InputCells.{needed_chunks}
use Rattle.cu_op.specs.Operation.{reads_of, writes_of}
use Rattle.cu_op.specs.PlanView.{PlanView}
use Rattle.cu_op.specs.Schedule.{op_of, IsNested, WritesCell}
use Rattle.cu_op.specs.Sound.{Sound}
use Rattle.cu_op.specs.Walks.{IsWalkOver, output_walks}
use Rattle.cu_op.proofs.CellsOfTasks.{map_contains}
use Rattle.cu_op.proofs.Nested.{begins_within}
use Rattle.cu_op.proofs.Operations as ops
use Rattle.cu_op.proofs.Plans.{grid_ok, own_region}
use Rattle.cu_op.proofs.TaskCells.{fit_of, task_first, tasks_grid, output_over}
use Rattle.cu_op.proofs.WalkCells.{meets_walk, from_walk}
use Rattle.cu_table.specs.Numbers.{IsTask}
use Rattle.cu_table.specs.Sources.{IsPullOp}

-- ---- the chunks of an array, and those of a view's sources

contains_flat : {X A : Type 0} (f : X → List A) (xs : List X) (x : X) (a : A) → Contains xs x → Contains (f x) a → Contains (flat_map f xs) a
contains_flat f [] x a (k, l, e) there = absurd (omega (arith, l))
contains_flat f (y ∷ xs) x a (zero, l, e) there = Contains-append_left (f y) (flat_map f xs) a (subst (λ z. Contains (f z) a) (sym e) there)
contains_flat f (y ∷ xs) x a (suc k, l, e) there = Contains-append_right (f y) (flat_map f xs) a (contains_flat f xs x a (k, omega (arith, l), e) there)

chunk_listed : (arrays : List ArrayInfo) (a : ℕ) (coord : List ℕ) → IsCoordinate (grid_at arrays a) coord → Contains (all_chunks arrays a) (cell a coord)
chunk_listed arrays a coord here =
    let ds = grid_counts (grid_at arrays a) in
    let n = place_of ds coord in
    let below : n < product ds = place-below ds coord here in
    let number : Contains (range_with_len 0 (product ds)) n = (n, (let l = length-range_with_len 0 (product ds) in omega (arith, l, below)), (let e = get_or-range_with_len 0 (product ds) n n below in omega (arith, e))) in
    map_contains (cell a) (indices_of ds) coord (subst (Contains (indices_of ds)) (index-place ds coord here) (map_contains (index_at ds) (range_with_len 0 (product ds)) n number))

pub view_needs : (arrays : List ArrayInfo) (op : Op) (at : List ℕ) (a : ℕ) (coord : List ℕ) → IsPullOp op → Contains (reads_of op) a → IsCoordinate (grid_at arrays a) coord → Contains (needed_chunks arrays op at) (cell a coord)
view_needs arrays (Pull pull ins out) at a coord view reads here = contains_flat (all_chunks arrays) ins.items a (cell a coord) reads (chunk_listed arrays a coord here)
view_needs arrays op at a coord view reads here = absurd view

-- ---- each task writes a chunk of each array that its operation writes: the one in which its region begins

pub some_chunk : (p : PlanView) → Sound p → (k t : ℕ) → IsTask p k t → (a : ℕ) → Contains (writes_of (op_of p k)) a → a < length p.arrays
    → (coord : List ℕ) × IsCoordinate (grid_at p.arrays a) coord × WritesCell p k t a coord
some_chunk p sound k t is a among within =
    let op = op_of p k in
    let fit = fit_of p sound k is.operation in
    let number = own_region p.arrays op t is.number in
    let r = task_grid p.arrays op in
    let g = grid_at p.arrays a in
    let lo = task_lo p.arrays op t in
    let okg = grid_ok p a sound within in
    let nested = All-contains (λ b. IsNested (grid_at p.arrays b) r) (writes_of op) a (ops.nested_writes p.arrays (λ b l. grid_ok p b sound l) k op fit) among in
    let inside : IsInside g.shape lo = subst (λ (ns : List ℕ). IsInside ns lo) nested.shape (task_first p sound k op fit t number) in
    let coord = quotients lo g.chunk in
    let here = has_coordinate g lo okg inside in
    let region = begins_within r (task_coord p.arrays op t) (tasks_grid p sound k op fit) (index-inside (grid_counts r) t number) in
    let f : ℕ → Walk = λ b. walk b lo (task_hi p.arrays op t) in
    let listed = map_contains f (writes_of op) a among in
    let over = All-contains (IsWalkOver p.arrays) (output_walks p.arrays op t) (f a) (output_over p sound k op fit t number) listed in (
      coord,
      here,
      record {
        operation = is.operation;
        number = is.number;
        cell = from_walk p.arrays (output_walks p.arrays op t) (f a) (cell a coord) listed (meets_walk p.arrays (f a) coord okg over (here, (lo, region, lies_within g lo okg inside)));
      },
    )
