-- A walk that is read in two parts along an axis, one behind the other.
use Rattle.std.proofs.Common.{◌≡◌, ℕ, ◌+◌, ◌-◌, ◌*◌, ◌/◌, ◌<◌, ◌≤◌, List, ◌++◌, length, get_or, set, refl, sym, ap, ◌∙◌, arith}
use Rattle.std.specs.Prelude.{sum_by}
use Rattle.std.proofs.lemmas.List.{get_or-set_same, length-set}
use Rattle.cu_num.specs.Dtype.{size_of}
use Rattle.cu_op.specs.Arrays.{grid_at, type_at}
use Rattle.cu_op.specs.Elements.{Elements}
use Rattle.cu_op.specs.Sound.{Sound}
use Rattle.cu_op.specs.TaskView.{TaskView}
use Rattle.cu_op.specs.Walks.{walk_cells, IsWalkOver}
use Rattle.cu_op.specs.declared.cells.Cell.{Cell}
use Rattle.cu_op.specs.declared.walks.Walk.{Walk}
use Rattle.cu_op.proofs.Plans.{grid_ok}
use Rattle.cu_op.proofs.TaskCells.{region_lengths}
use Rattle.cu_shape.specs.Index.{product, differences}
use Rattle.cu_shape.proofs.Axes.{get_or-axis_by_axis, length-axis_by_axis}
use Rattle.cu_store.specs.Steps.{Shown}
use Rattle.cu_store.specs.declared.faults.TaskFault.{TaskFault}
use Rattle.cu_store.specs.declared.faults.TaskFault.TheVariants.{BadChunk, NoMemory, Store}
use Rattle.cu_task.specs.Inputs.{walk_room, IsWalkFault, IsWalkKey}
use Rattle.cu_task.specs.Merges.{without_axis, HasWalkParts, StandsApart}
use Rattle.cu_task.proofs.Inside.{ones}
use Rattle.cu_task.proofs.PartCells.{back_cell, back_over, cells_parted, front_cell, front_over, walk_after, walk_before, IsPartedAt}
use Rattle.cu_task.proofs.PartPlaces.{parts_joined, product_without, without_end, without_start}

-- what is known of two walks that a walk is parted into
pub record AreHalves (t : TaskView) (axis : ℕ) (w front back : Walk) : Type 0 where
  pub front_over : IsWalkOver t.plan.arrays front
  pub back_over : IsWalkOver t.plan.arrays back
  pub front_apart : StandsApart t.plan.arrays axis front
  pub back_apart : StandsApart t.plan.arrays axis back
  pub front_falls : get_or front.region.hi axis 0 - get_or front.region.lo axis 0 < get_or w.region.hi axis 0 - get_or w.region.lo axis 0
  pub back_falls : get_or back.region.hi axis 0 - get_or back.region.lo axis 0 < get_or w.region.hi axis 0 - get_or w.region.lo axis 0
  pub sums : (f : Cell → ℕ) → sum_by f (walk_cells t.plan.arrays w) ≡ sum_by f (walk_cells t.plan.arrays front) + sum_by f (walk_cells t.plan.arrays back)
  pub calls : length (walk_cells t.plan.arrays w) ≡ length (walk_cells t.plan.arrays front) + length (walk_cells t.plan.arrays back)
  pub front_keys : (key : List ℕ) → IsWalkKey t.plan.arrays front key → IsWalkKey t.plan.arrays w key
  pub back_keys : (key : List ℕ) → IsWalkKey t.plan.arrays back key → IsWalkKey t.plan.arrays w key
  pub front_faults : (old new : Shown) (e : TaskFault) → IsWalkFault old new t.plan.arrays front e → IsWalkFault old new t.plan.arrays w e
  pub back_faults : (old mid new : Shown) (e : TaskFault) → old.faults ≤ mid.faults → IsWalkFault mid new t.plan.arrays back e → IsWalkFault old new t.plan.arrays w e
  pub room : walk_room t.plan.arrays w ≡ walk_room t.plan.arrays front + walk_room t.plan.arrays back
  pub joined : (at : Elements) (own others : List ℕ) → length own ≡ walk_room t.plan.arrays front
      → HasWalkParts t at axis front own → HasWalkParts t at axis back others → HasWalkParts t at axis w (own ++ others)

module _ (t : TaskView) (w : Walk) (axis at : ℕ) (p : IsPartedAt t.plan.arrays w axis at) (a : StandsApart t.plan.arrays axis w) (low : get_or w.region.lo axis 0 < at) (high : at < get_or w.region.hi axis 0) where
  abbrev front : Walk
  front = walk_before w axis at

  abbrev back : Walk
  back = walk_after w axis at

  ranks : (length w.region.lo ≡ length (grid_at t.plan.arrays w.array).shape) × (length w.region.hi ≡ length (grid_at t.plan.arrays w.array).shape)
  ranks = region_lengths (grid_at t.plan.arrays w.array).shape w.region.lo w.region.hi p.over.1

  same_rank : length w.region.hi ≡ length w.region.lo
  same_rank = ranks.1 ∙ sym ranks.0

  along : axis < length w.region.lo
  along = let n = ranks.0 in let b = p.along in omega (arith, n, b)

  end_is : get_or front.region.hi axis 0 ≡ at
  end_is = let n = same_rank in let b = along in get_or-set_same w.region.hi axis at 0 (omega (arith, n, b))

  start_is : get_or back.region.lo axis 0 ≡ at
  start_is = get_or-set_same w.region.lo axis at 0 along

  -- the sizes of a region: on the axis times on all others
  count_of : (ls hs : List ℕ) → length hs ≡ length ls → axis < length ls → product (differences hs ls) ≡ (get_or hs axis 0 - get_or ls axis 0) * product (without_axis axis (differences hs ls))
  count_of ls hs e b =
      let rank = length-axis_by_axis (λ i j. i - j) hs ls e ∙ e in
      product_without axis (differences hs ls) (omega (arith, rank, b))
      ∙ ap (λ n. n * product (without_axis axis (differences hs ls))) (get_or-axis_by_axis (λ i j. i - j) hs ls axis (omega (arith, e, b)) b)

  counts : product (differences w.region.hi w.region.lo) ≡ product (differences front.region.hi front.region.lo) + product (differences back.region.hi back.region.lo)
  counts =
      let n = product (without_axis axis (differences w.region.hi w.region.lo)) in
      let all = count_of w.region.lo w.region.hi same_rank along in
      let first : product (differences front.region.hi front.region.lo) ≡ (at - get_or w.region.lo axis 0) * n
      = rw (count_of front.region.lo front.region.hi (length-set w.region.hi axis at ∙ same_rank) along, end_is, without_end axis at w.region.lo w.region.hi) refl in
      let second : product (differences back.region.hi back.region.lo) ≡ (get_or w.region.hi axis 0 - at) * n
      = rw (count_of back.region.lo back.region.hi (same_rank ∙ sym (length-set w.region.lo axis at)) (let e = length-set w.region.lo axis at in let b = along in omega (arith, e, b)), start_is, without_start axis at w.region.lo w.region.hi) refl in
      let both = parted (get_or w.region.hi axis 0 - get_or w.region.lo axis 0) (at - get_or w.region.lo axis 0) (get_or w.region.hi axis 0 - at) n (omega (arith, low, high)) in
      omega (arith, all, first, second, both)
    where
      parted : (a b c n : ℕ) → a ≡ b + c → a * n ≡ b * n + c * n
      parted a b c n same = rw same (omega arith)

  halved : AreHalves t axis w front back
  halved = record {
    front_over = front_over t.plan.arrays w axis at p;
    back_over = back_over t.plan.arrays w axis at p;
    front_apart = record { along = a.along; one = a.one; stored = a.stored };
    back_apart = record { along = a.along; one = a.one; stored = a.stored };
    front_falls = (let e = end_is in omega (arith, e, low, high));
    back_falls = (let e = start_is in omega (arith, e, low, high));
    sums = cells_parted t.plan.arrays w axis at p;
    calls = sym (ones (λ c. 1) (walk_cells t.plan.arrays w) (λ c there. refl)) ∙ cells_parted t.plan.arrays w axis at p (λ c. 1)
        ∙ ap (λ n. n + sum_by (λ (c : Cell). 1) (walk_cells t.plan.arrays back)) (ones (λ c. 1) (walk_cells t.plan.arrays front) (λ c there. refl))
        ∙ ap (λ n. length (walk_cells t.plan.arrays front) + n) (ones (λ c. 1) (walk_cells t.plan.arrays back) (λ c there. refl));
    front_keys = λ key (c, there, is). (c, front_cell t.plan.arrays w axis at p c there, is);
    back_keys = λ key (c, there, is). (c, back_cell t.plan.arrays w axis at p c there, is);
    front_faults = front_fault;
    back_faults = back_fault;
    room = let all = counts in let size = size_of (type_at t.plan.arrays w.array) in rw all (spread (product (differences front.region.hi front.region.lo)) (product (differences back.region.hi back.region.lo)) size);
    joined = λ elements own others long first second.
        parts_joined (type_at t.plan.arrays w.array) (elements w.array) axis w.region same_rank along at own others (omega (arith, low)) (omega (arith, high)) long first second;
  }
    where
      spread : (a b n : ℕ) → (a + b) * n ≡ a * n + b * n
      spread a b n = omega arith

      front_fault : (old new : Shown) (e : TaskFault) → IsWalkFault old new t.plan.arrays front e → IsWalkFault old new t.plan.arrays w e
      front_fault old new Store h = h
      front_fault old new (BadChunk key got want) (c, there, is, size, other, holds) = (c, front_cell t.plan.arrays w axis at p c there, is, size, other, holds)
      front_fault old new NoMemory h = h

      back_fault : (old mid new : Shown) (e : TaskFault) → old.faults ≤ mid.faults → IsWalkFault mid new t.plan.arrays back e → IsWalkFault old new t.plan.arrays w e
      back_fault old mid new Store count h = let rose = h in omega (arith, count, rose)
      back_fault old mid new (BadChunk key got want) count (c, there, is, size, other, holds) = (c, back_cell t.plan.arrays w axis at p c there, is, size, other, holds)
      back_fault old mid new NoMemory count h = h

-- the same of the two halves of a region that has more than one index on the axis
pub halves : {ls hs : List ℕ} {first end : ℕ} (t : TaskView) → Sound t.plan → (w : Walk) (axis : ℕ) → IsWalkOver t.plan.arrays w → StandsApart t.plan.arrays axis w
    → first ≡ get_or w.region.lo axis 0 → end ≡ get_or w.region.hi axis 0 → 1 < end - first → hs ≡ set w.region.hi axis (first + (end - first) / 2) → ls ≡ set w.region.lo axis (first + (end - first) / 2)
    → AreHalves t axis w (record { array = w.array; region = record { lo = w.region.lo; hi = hs } }) (record { array = w.array; region = record { lo = ls; hi = w.region.hi } })
halves {first = first} {end = end} t s w axis over apart low high several ends starts =
    let middle = first + (end - first) / 2 in
    let behind : get_or w.region.lo axis 0 < middle = omega (arith, low, several) in
    let before : middle < get_or w.region.hi axis 0 = omega (arith, high, several) in
    let parted : IsPartedAt t.plan.arrays w axis middle = record {
      grid = grid_ok t.plan w.array s over.0;
      over = over;
      along = apart.along;
      one = apart.one;
      low = omega (arith, behind);
      high = omega (arith, before);
    } in
    rw (ends, starts) (halved t w axis middle parted apart behind before)
