-- What a sound plan says of an operation by its number.
use Rattle.std.proofs.lemmas.Option.{same_Some}
use Rattle.std.proofs.lemmas.List.Elements.{All-contains}
use Rattle.cu_shape.specs.Index.{product}
use Rattle.cu_op.proofs.KindLaws.{laws_of}
use Rattle.cu_op.proofs.Members.{bool_cases}
use Rattle.std.proofs.Common.{◌≡◌, ℕ, ◌<◌, ◌≤◌, List, length, map, max, refl, ap, sym, ◌∙◌, arith, inl, inr, true, false, Some, subst}
use Rattle.std.proofs.lemmas.List.{map-append}
use Rattle.std.proofs.lemmas.List.Sums.{get_or-le-sum_by}
use Rattle.cu_grid.specs.Grid.{IsGrid, RegularGrid}
use Rattle.cu_op.specs.declared.layout.ArrayInfo.{ArrayInfo}
use Rattle.cu_op.specs.declared.operation.Op.{Op}
use Rattle.cu_op.specs.declared.operation.Planned.{Planned}
use Rattle.cu_op.specs.Arrays.{grid_at, chunk_room, no_array, grid_counts, is_inlined, maker_at}
use Rattle.cu_op.specs.Operation.{reads_of, writes_of, target_of, writes_one_chunk, IsMadeBy}
use Rattle.cu_op.specs.Cells.{tasks_of, regions_of}
use Rattle.cu_op.specs.Projection.{scratch_room}
use Rattle.cu_op.specs.PlanView.{PlanView, no_operation, op_of}
use Rattle.cu_op.specs.Sound.{Sound}
use Rattle.cu_op.proofs.Lists.{greatest_append}
use Rattle.cu_shape.specs.Counts.{largest}

-- the region of a task is one of the regions that tasks go over
pub own_region : (arrays : List ArrayInfo) (op : Op) (task : ℕ) → task < tasks_of arrays op → task < regions_of arrays op
own_region arrays op task h =
    elim (bool_cases (is_inlined arrays (target_of op))) [
      | inl made ↦ let none : task < 0 = rw made at h in absurd (omega (arith, none))
      | inr stored ↦ rw stored at h
    ]

-- where the result is stored, each region is that of a task
pub all_own : (arrays : List ArrayInfo) (op : Op) → is_inlined arrays (target_of op) ≡ false → tasks_of arrays op ≡ regions_of arrays op
all_own arrays op stored = rw stored refl

pub grid_ok : (p : PlanView) (a : ℕ) → Sound p → a < length p.arrays → IsGrid (grid_at p.arrays a)
grid_ok p a s h = (s.arrays a no_array h).grid

-- an operation writes its own array chunk by chunk, where that is made where it is read
pub inner_kind : (p : PlanView) (k a : ℕ) → Sound p → a < length p.arrays → is_inlined p.arrays a ≡ true → maker_at p.arrays a ≡ Some k → writes_one_chunk (op_of p k) ≡ true
inner_kind p k a s within inner made =
    let m = (s.inlined a within inner).maker in
    let same : m.0 ≡ k = same_Some m.0 k (sym m.1 ∙ made) in
    subst (λ (j : ℕ). writes_one_chunk (op_of p j) ≡ true) same m.2

-- no operation of a sound plan has more regions than all together may have tasks
pub few_regions : (p : PlanView) (k : ℕ) → Sound p → k < length p.ops → regions_of p.arrays (op_of p k) ≤ 65536
few_regions p k s h =
    let op = op_of p k in
    let made = All-contains (IsMadeBy p.arrays k) (writes_of op) (target_of op) (s.operations k h).writes (laws_of op).target in
    elim (bool_cases (is_inlined p.arrays (target_of op))) [
      | inl inner ↦
          let grid = (laws_of op).one_grid p.arrays (inner_kind p k (target_of op) s made.0 inner made.1) in
          let few = (s.inlined (target_of op) made.0 inner).chunks in
          subst (λ (g : RegularGrid). product (grid_counts g) ≤ 65536) (sym grid) few
      | inr stored ↦
          let one = get_or-le-sum_by (λ (o : Planned). tasks_of p.arrays o.op) p.ops k no_operation h in
          let own = all_own p.arrays op stored in
          let all = s.tasks in
          omega (arith, one, own, all)
    ]

-- the scratch is the greatest of what is read and of what is written
pub scratch_parts : (op : Op) (arrays : List ArrayInfo) → scratch_room arrays op ≡ max (largest (map (chunk_room arrays) (reads_of op))) (largest (map (chunk_room arrays) (writes_of op)))
scratch_parts op arrays =
    ap largest (map-append (chunk_room arrays) (reads_of op) (writes_of op)) ∙ greatest_append (map (chunk_room arrays) (reads_of op)) (map (chunk_room arrays) (writes_of op))
