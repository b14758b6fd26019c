use Rattle.std.proofs.Common.{rules, inl, ◌-◌, ◌≤◌, ℕ, get_or, length, sym, ◌∙◌, subst, arith}
use Rattle.std.proofs.lemmas.Result.{err_from_is_err_and}
use Rattle.cu_op.proofs.TaskCells.{region_lengths}
use Rattle.cu_op.specs.Arrays.{type_at}
use Rattle.cu_op.specs.Walks.{walk_cells}
use Rattle.cu_op.specs.declared.walks.Walk.{Walk}
use Rattle.cu_region.specs.Calls.{Made}
use Rattle.cu_store.specs.Chunks.{Adds}
use Rattle.cu_store.proofs.Steps.{steps_then, steps_wider}
use Rattle.cu_task.specs.Inputs.{IsWalkKey}
use Rattle.cu_task.specs.OfTask.{cell_weight, held_inputs, weight_of_walk}
use Rattle.cu_task.proofs.InputReads.{all_added, all_made, on_err_more, on_ok_then, still_after, still_fewer}
use Rattle.cu_task.proofs.Inside.{read_has}
use Rattle.cu_task.proofs.PartCells.{ordered_at}
use Rattle.cu_task.proofs.PartPlaces.{one_part}
use Rattle.cu_task.proofs.PartReads.{halves}
use Rattle.cu_task.proofs.merges.+read_parts.Goals as goal

pub at-first-requires : goal.at-first-requires
at-first-requires g t c =
    let ranks = region_lengths _ _ _ c.requires.walk.1 in
    let low = ranks.0 in
    let along = c.requires.apart.along in
    omega (arith, low, along)

pub at-requires : goal.at-requires
at-requires g t c =
    let ranks = region_lengths _ _ _ c.requires.walk.1 in
    let high = ranks.1 in
    let along = c.requires.apart.along in
    omega (arith, high, along)

pub overflow_sub-count : goal.overflow_sub-count
overflow_sub-count g t c = rw (c.at-first.ensures, c.at.ensures) (ordered_at c.args.axis _ _ _ c.requires.walk.1)

-- with one index on the axis, or none, it is one part
pub returns-then-count-le1-clause-read : goal.returns-then-count-le1-clause-read
returns-then-count-le1-clause-read g t c held still =
    let task = c.args.task.now in
    let w = c.args.walk.now in
    let ranks = region_lengths _ _ _ c.requires.walk.1 in
    let low = ranks.0 in
    let along = c.requires.apart.along in
    let few : get_or w.region.hi c.args.axis 0 - get_or w.region.lo c.args.axis 0 ≤ 1 = (let first = c.at-first.ensures in let end = c.at.ensures in let count = c.if-count-le1.true in omega (arith, first, end, count)) in
    on_ok_then c.read_walk.result
    (λ reads. one_part (type_at task.plan.arrays w.array) (held_inputs task held w.array) c.args.axis w.region (ranks.1 ∙ sym ranks.0) (omega (arith, low, along)) c.read_walk.new.out few
    (read_has task.plan c.array-array.ensures.sound w held c.read_walk.new.out c.requires.walk (inl c.requires.apart.stored) reads))
    (c.read_walk.ensures.read held still)

pub put-requires-2 : goal.put-requires-2
put-requires-2 g t c =
    let ranks = region_lengths _ _ _ c.requires.walk.1 in
    let low = ranks.0 in
    let along = c.requires.apart.along in
    omega (arith, low, along)

-- ---- by halves

pub walk_bytes-requires : goal.walk_bytes-requires
walk_bytes-requires g t c =
    let task = c.args.task.now in
    let w = c.args.walk.now in
    let both = halves task c.array-array.ensures.sound w c.args.axis c.requires.walk c.requires.apart c.at-first.ensures c.at.ensures (let several = c.if-count-le1.false in omega (arith, several)) c.put.ensures c.put-2.ensures in
    both.front_over

pub split_at_mut-own-requires : goal.split_at_mut-own-requires
split_at_mut-own-requires g t c =
    let task = c.args.task.now in
    let w = c.args.walk.now in
    let both = halves task c.array-array.ensures.sound w c.args.axis c.requires.walk c.requires.apart c.at-first.ensures c.at.ensures (let several = c.if-count-le1.false in omega (arith, several)) c.put.ensures c.put-2.ensures in
    let bytes = c.walk_bytes.ensures.bytes in
    let room = c.requires.room in
    let sum = both.room in
    omega (arith, bytes, room, sum)

pub read_parts-requires : goal.read_parts-requires
read_parts-requires g t c κs within =
    let task = c.args.task.now in
    let w = c.args.walk.now in
    let both = halves task c.array-array.ensures.sound w c.args.axis c.requires.walk c.requires.apart c.at-first.ensures c.at.ensures (let several = c.if-count-le1.false in omega (arith, several)) c.put.ensures c.put-2.ensures in
    let falls = both.front_falls in
    let room = c.split_at_mut-own.ensures.front_len ∙ c.walk_bytes.ensures.bytes in (
      omega (arith, c.decreases, falls),
      (search rules, (search rules, (search rules, (c.requires.belongs, ((λ key here. c.requires.may key (both.front_keys key here)), (both.front_over, (both.front_apart, (room, c.requires.scratch)))))))),
    )

pub returns-in_err-read_parts-clause-step : goal.returns-in_err-read_parts-clause-step
returns-in_err-read_parts-clause-step g t c =
    let task = c.args.task.now in
    let w = c.args.walk.now in
    let both = halves task c.array-array.ensures.sound w c.args.axis c.requires.walk c.requires.apart c.at-first.ensures c.at.ensures (let several = c.if-count-le1.false in omega (arith, several)) c.put.ensures c.put-2.ensures in
    let calls = both.calls in
    steps_wider (λ key value none. none) (omega arith) (omega (arith, calls)) c.read_parts.ensures.step

pub returns-in_err-read_parts-clause-cause : goal.returns-in_err-read_parts-clause-cause
returns-in_err-read_parts-clause-cause g t c =
    let task = c.args.task.now in
    let w = c.args.walk.now in
    let both = halves task c.array-array.ensures.sound w c.args.axis c.requires.walk c.requires.apart c.at-first.ensures c.at.ensures (let several = c.if-count-le1.false in omega (arith, several)) c.put.ensures c.put-2.ensures in
    let p = err_from_is_err_and c.from_residual.result c.from_residual.ensures.1 in
    rw (p.1, p.2) (both.front_faults (g.C.Chunks.shown c.args.access.now) (g.C.Chunks.shown c.read_parts.new.access) _ c.in_err-read_parts.ensures.cause)

pub read_parts-requires-2 : goal.read_parts-requires-2
read_parts-requires-2 g t c κs within =
    let task = c.args.task.now in
    let w = c.args.walk.now in
    let both = halves task c.array-array.ensures.sound w c.args.axis c.requires.walk c.requires.apart c.at-first.ensures c.at.ensures (let several = c.if-count-le1.false in omega (arith, several)) c.put.ensures c.put-2.ensures in
    let falls = both.back_falls in
    let bytes = c.walk_bytes.ensures.bytes in
    let back = c.split_at_mut-own.ensures.back_len in
    let room = c.requires.room in
    let sum = both.room in
    let scratch = c.requires.scratch in
    let scratch_len = c.read_parts.auto.scratch in (
      omega (arith, c.decreases, falls),
      (
        search rules,
        (
          search rules,
          (
            search rules,
            (
              c.read_parts.ensures.open.belongs,
              (
                (λ key here. c.read_parts.ensures.open.gets key (c.requires.may key (both.back_keys key here))),
                (both.back_over, (both.back_apart, (omega (arith, bytes, back, room, sum), omega (arith, scratch, scratch_len)))),
              ),
            ),
          ),
        ),
      ),
    )

pub returns-clause-read : goal.returns-clause-read
returns-clause-read g t c held still =
    let task = c.args.task.now in
    let w = c.args.walk.now in
    let both = halves task c.array-array.ensures.sound w c.args.axis c.requires.walk c.requires.apart c.at-first.ensures c.at.ensures (let several = c.if-count-le1.false in omega (arith, several)) c.put.ensures c.put-2.ensures in
    let front : Walk = record { array = w.array; region = record { lo = w.region.lo; hi = c.put.new.self } } in
    let back : Walk = record { array = w.array; region = record { lo = c.put-2.new.self; hi = w.region.hi } } in
    let old = g.C.Chunks.shown c.args.access.now in
    let mid = g.C.Chunks.shown c.read_parts.new.access in
    let long = c.read_parts.auto.out ∙ c.split_at_mut-own.ensures.front_len ∙ c.walk_bytes.ensures.bytes in
    let own = c.in_ok-read_parts.ensures.read held (still_fewer (IsWalkKey task.plan.arrays w) (IsWalkKey task.plan.arrays front) held old both.front_keys still) in
    let later = still_after (IsWalkKey task.plan.arrays back) held old mid 0 (length (walk_cells task.plan.arrays front)) (still_fewer (IsWalkKey task.plan.arrays w) (IsWalkKey task.plan.arrays back) held old both.back_keys still) c.read_parts.ensures.step in
    on_ok_then c.read_parts-2.result
    (λ others. both.joined (held_inputs task held) c.read_parts.new.out c.read_parts-2.new.out long own others)
    (c.read_parts-2.ensures.read held later)

pub returns-clause-step : goal.returns-clause-step
returns-clause-step g t c =
    let task = c.args.task.now in
    let w = c.args.walk.now in
    let both = halves task c.array-array.ensures.sound w c.args.axis c.requires.walk c.requires.apart c.at-first.ensures c.at.ensures (let several = c.if-count-le1.false in omega (arith, several)) c.put.ensures c.put-2.ensures in
    let calls = both.calls in
    steps_wider (λ key value none. none) (omega arith) (omega (arith, calls)) (steps_then c.read_parts.ensures.step c.read_parts-2.ensures.step)

pub returns-clause-all : goal.returns-clause-all
returns-clause-all g t c =
    let task = c.args.task.now in
    let w = c.args.walk.now in
    let both = halves task c.array-array.ensures.sound w c.args.axis c.requires.walk c.requires.apart c.at-first.ensures c.at.ensures (let several = c.if-count-le1.false in omega (arith, several)) c.put.ensures c.put-2.ensures in
    let front : Walk = record { array = w.array; region = record { lo = w.region.lo; hi = c.put.new.self } } in
    let back : Walk = record { array = w.array; region = record { lo = c.put-2.new.self; hi = w.region.hi } } in
    on_ok_then c.read_parts-2.result
    (λ made. subst (λ (n : ℕ). Made n (g.C.Chunks.shown c.args.access.now).calls (g.C.Chunks.shown c.read_parts-2.new.access).calls) (sym both.calls)
    (all_made (g.C.Chunks.shown c.args.access.now).calls (g.C.Chunks.shown c.read_parts.new.access).calls (g.C.Chunks.shown c.read_parts-2.new.access).calls
    (length (walk_cells task.plan.arrays front)) (length (walk_cells task.plan.arrays back)) c.in_ok-read_parts.ensures.all made))
    c.read_parts-2.ensures.all

pub returns-clause-called : goal.returns-clause-called
returns-clause-called g t c =
    let task = c.args.task.now in
    let w = c.args.walk.now in
    let both = halves task c.array-array.ensures.sound w c.args.axis c.requires.walk c.requires.apart c.at-first.ensures c.at.ensures (let several = c.if-count-le1.false in omega (arith, several)) c.put.ensures c.put-2.ensures in
    let front : Walk = record { array = w.array; region = record { lo = w.region.lo; hi = c.put.new.self } } in
    let back : Walk = record { array = w.array; region = record { lo = c.put-2.new.self; hi = w.region.hi } } in
    let weight = g.C.Chunks.weight c.args.store.now in
    on_ok_then c.read_parts-2.result
    (λ called. subst (λ (n : ℕ). Adds n (g.C.Chunks.tally c.args.access.now) (g.C.Chunks.tally c.read_parts-2.new.access)) (sym (both.sums (cell_weight weight task)))
    (all_added (g.C.Chunks.tally c.args.access.now) (g.C.Chunks.tally c.read_parts.new.access) (g.C.Chunks.tally c.read_parts-2.new.access)
    (weight_of_walk weight task front) (weight_of_walk weight task back) c.in_ok-read_parts.ensures.called called))
    c.read_parts-2.ensures.called

pub returns-clause-cause : goal.returns-clause-cause
returns-clause-cause g t c =
    let task = c.args.task.now in
    let w = c.args.walk.now in
    let both = halves task c.array-array.ensures.sound w c.args.axis c.requires.walk c.requires.apart c.at-first.ensures c.at.ensures (let several = c.if-count-le1.false in omega (arith, several)) c.put.ensures c.put-2.ensures in
    on_err_more c.read_parts-2.result
    (λ e fault. both.back_faults (g.C.Chunks.shown c.args.access.now) (g.C.Chunks.shown c.read_parts.new.access) (g.C.Chunks.shown c.read_parts-2.new.access) e c.read_parts.ensures.step.count fault)
    c.read_parts-2.ensures.cause
