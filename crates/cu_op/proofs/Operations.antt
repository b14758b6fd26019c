-- What an operation gives that fits its arrays: what it reads lies in what it walks over, and what it writes in its tasks' grid.
use Rattle.cu_grid.proofs.Regions.{coordinate-length, region_inside}
use Rattle.cu_grid.specs.Counts.{IsRegion, IsWithin}
use Rattle.cu_grid.specs.Grid.{IsGrid}
use Rattle.cu_op.proofs.CellsOfTasks.{map_contains}
use Rattle.cu_op.proofs.Filled.{IsFilled, within_inside, filled_one, within_one, chunk_filled}
use Rattle.cu_op.proofs.Kind.{Stands}
use Rattle.cu_op.proofs.KindLaws.{laws_of}
use Rattle.cu_op.proofs.Spans.{IsSpan, chunk_span}
use Rattle.cu_op.proofs.WalkCells.{AreApart, AreDifferent}
use Rattle.cu_op.proofs.WalksOf.{LiesIn}
use Rattle.cu_op.specs.Arrays.{grid_at, grid_counts}
use Rattle.cu_op.specs.Cells.{regions_of, task_grid, task_coord, task_lo, task_hi}
use Rattle.cu_op.specs.Kinds.{kind_of}
use Rattle.cu_op.specs.Operation.{writes_of, reads_of, target_of, IsMadeBy, IsReadable, Fits}
use Rattle.cu_op.specs.Schedule.{IsNested}
use Rattle.cu_op.specs.Value.{ReadsAt}
use Rattle.cu_op.specs.Chunks.{walk}
use Rattle.cu_op.specs.Walks.{IsWalkOver, region_walks, input_walks}
use Rattle.cu_op.specs.declared.layout.ArrayInfo.{ArrayInfo}
use Rattle.cu_op.specs.declared.operation.Op.{Op}
use Rattle.cu_op.specs.declared.walks.Walk.{Walk}
use Rattle.cu_shape.proofs.Places.{index-inside}
use Rattle.cu_shape.specs.Index.{IsInside}
use Rattle.std.proofs.Common.{ℕ, suc, ◌<◌, List, length, map, All, Contains, subst, ◌≢◌}
use Rattle.std.proofs.lemmas.List.Elements.{All-contains}

-- operation number k reads what is given or made before it, makes what it writes, and fits
abbrev pub Fit : List ArrayInfo → ℕ → Op → Type 0
Fit arrays k op = All (IsReadable arrays k) (reads_of op) × All (IsMadeBy arrays k) (writes_of op) × Fits arrays op

-- the array that the tasks go over is one of those that are written
pub target_among : (P : ℕ → Type 0) (op : Op) → All P (writes_of op) → P (target_of op)
target_among P op h = All-contains P (writes_of op) (target_of op) h (laws_of op).target

module _ (arrays : List ArrayInfo) (grids : (a : ℕ) → a < length arrays → IsGrid (grid_at arrays a)) where
  module _ (k : ℕ) where
    pub stands : (op : Op) → Fit arrays k op → Stands arrays (kind_of op)
    stands op fit = record { grids = grids; reads = λ i d b. (fit.0 i d b).0; writes = λ i d b. (fit.1 i d b).0; fits = fit.2 }

    pub grid_of_tasks : (op : Op) → Fit arrays k op → IsGrid (task_grid arrays op)
    grid_of_tasks op fit = (laws_of op).grid arrays (stands op fit)

    -- the array that the tasks go over is made by the operation
    pub target_made : (op : Op) → Fit arrays k op → IsMadeBy arrays k (target_of op)
    target_made op fit = target_among (IsMadeBy arrays k) op fit.1

    pub nested_writes : (op : Op) → Fit arrays k op → All (λ a. IsNested (grid_at arrays a) (task_grid arrays op)) (writes_of op)
    nested_writes op fit = (laws_of op).nested arrays (stands op fit)

    pub write_walks_differ : (op : Op) (lo hi : List ℕ) → Fit arrays k op → AreDifferent (map (λ a. walk a lo hi) (writes_of op))
    write_walks_differ op lo hi fit = (laws_of op).differ arrays lo hi (stands op fit)

    pub region_of : (op : Op) (task : ℕ) → Fit arrays k op → task < regions_of arrays op → IsRegion (task_grid arrays op).shape (task_lo arrays op task) (task_hi arrays op task)
    region_of op task fit h =
        let ok = grid_of_tasks op fit in
        region_inside (task_grid arrays op).shape (task_grid arrays op).chunk (task_coord arrays op task) ok.positive ok.ranks (index-inside (grid_counts (task_grid arrays op)) task h)

    -- which has an index on each axis, and is one chunk of the tasks' grid
    pub filled_of : (op : Op) (task : ℕ) → Fit arrays k op → task < regions_of arrays op → IsFilled (task_grid arrays op).shape (task_lo arrays op task) (task_hi arrays op task)
    filled_of op task fit h =
        let ok = grid_of_tasks op fit in
        chunk_filled (task_grid arrays op).shape (task_grid arrays op).chunk (task_coord arrays op task) ok.positive ok.ranks (index-inside (grid_counts (task_grid arrays op)) task h)

    pub span_of : (op : Op) (task : ℕ) → Fit arrays k op → task < regions_of arrays op → IsSpan (task_grid arrays op).shape (task_grid arrays op).chunk (task_lo arrays op task) (task_hi arrays op task)
    span_of op task fit h =
        let ok = grid_of_tasks op fit in
        chunk_span (task_grid arrays op).shape (task_grid arrays op).chunk (task_coord arrays op task) ok.ranks
        (coordinate-length (task_grid arrays op) (task_coord arrays op task) ok (index-inside (grid_counts (task_grid arrays op)) task h))

    -- ---- what is read for a region that has an index on each axis

    pub region_over : (op : Op) (lo hi : List ℕ) → Fit arrays k op → IsFilled (task_grid arrays op).shape lo hi → All (IsWalkOver arrays) (region_walks arrays op lo hi)
    region_over op lo hi fit f = (laws_of op).over arrays lo hi (stands op fit) f

    pub input_over : (op : Op) (task : ℕ) → Fit arrays k op → task < regions_of arrays op → All (IsWalkOver arrays) (input_walks arrays op task)
    input_over op task fit h = region_over op (task_lo arrays op task) (task_hi arrays op task) fit (filled_of op task fit h)

    -- which is of the arrays that are read
    pub input_array : (op : Op) (task : ℕ) (w : Walk) → Contains (input_walks arrays op task) w → Contains (reads_of op) w.array
    input_array op task w there =
        subst (λ (numbers : List ℕ). Contains numbers w.array) ((laws_of op).walked arrays (task_lo arrays op task) (task_hi arrays op task))
        (map_contains (λ (x : Walk). x.array) (input_walks arrays op task) w there)

    pub input_apart : (op : Op) (task : ℕ) (v w : Walk) → Fit arrays k op → task < regions_of arrays op → Contains (input_walks arrays op task) v → Contains (input_walks arrays op task) w → v ≢ w → IsWalkOver arrays v → IsWalkOver arrays w → AreApart arrays v w
    input_apart op task v w fit h = (laws_of op).apart arrays (task_lo arrays op task) (task_hi arrays op task) (stands op fit) (filled_of op task fit h) (span_of op task fit h) v w

    -- ---- what the rule reads at an index of the region lies in a walk

    pub region_reads : (op : Op) (lo hi : List ℕ) (a : ℕ) (idx i : List ℕ) → Fit arrays k op → IsFilled (task_grid arrays op).shape lo hi → IsInside (task_grid arrays op).shape idx → IsWithin lo hi idx → ReadsAt op arrays idx a i
        → LiesIn (region_walks arrays op lo hi) a i
    region_reads op lo hi a idx i fit f inside w reads = (laws_of op).within arrays lo hi a idx i (stands op fit) f inside w reads

    -- what the rule reads at an index inside lies inside
    pub reads_inside : (op : Op) (a : ℕ) (idx i : List ℕ) → Fit arrays k op → IsInside (task_grid arrays op).shape idx → ReadsAt op arrays idx a i → IsInside (grid_at arrays a).shape i
    reads_inside op a idx i fit inside reads =
        let f = filled_one (task_grid arrays op).shape idx inside in
        let l = region_reads op idx (map suc idx) a idx i fit f inside (within_one idx) reads in
        let over = All-contains (IsWalkOver arrays) (region_walks arrays op idx (map suc idx)) l.one (region_over op idx (map suc idx) fit f) l.listed in
        subst (λ (x : ℕ). IsInside (grid_at arrays x).shape i) l.array (within_inside (grid_at arrays l.one.array).shape l.one.region.lo l.one.region.hi i over.1 l.within)

    -- and at an index of the task's region it lies in a walk
    pub input_reads : (op : Op) (task a : ℕ) (idx i : List ℕ) → Fit arrays k op → task < regions_of arrays op → IsInside (task_grid arrays op).shape idx → IsWithin (task_lo arrays op task) (task_hi arrays op task) idx → ReadsAt op arrays idx a i
        → LiesIn (input_walks arrays op task) a i
    input_reads op task a idx i fit h inside within reads = region_reads op (task_lo arrays op task) (task_hi arrays op task) a idx i fit (filled_of op task fit h) inside within reads
