use Rattle.std.proofs.Common.{◌≡◌, ◌+◌, ◌-◌, ℕ, List, [], ◌∷◌, Contains, sym, ap, ◌∙◌, subst, arith}
use Rattle.cu_op.proofs.TaskCells.{region_lengths}
use Rattle.cu_region.proofs.SteadyKeys.{first_contains, rest_contains}
use Rattle.cu_task.specs.ChunkCopies.{region_chunks, part_room, room_of_parts}
use Rattle.cu_task.proofs.CopyByChunks.{all_here, few_here, first_room, made_chunk, room_here}
use Rattle.cu_task.proofs.chunk_copies.parts_fit.Goals as goal

pub region_bytes-bytes-requires-clause-ranks : goal.region_bytes-bytes-requires-clause-ranks
region_bytes-bytes-requires-clause-ranks c =
    let e = region_lengths _ _ _ c.chunk_region-region.ensures.inside in
    e.1 ∙ sym e.0

pub region_bytes-bytes-requires-clause-few : goal.region_bytes-bytes-requires-clause-few
region_bytes-bytes-requires-clause-few c =
    let e : c.loop-coord.coord-iterator ≡ c.in-Some.coord ∷ c.next.new.self = c.in-Some.ensures.steps in
    let meets = c.loop-coord.invariant.meets c.in-Some.coord (subst (λ (x : List (List ℕ)). Contains x c.in-Some.coord) (sym e) (first_contains c.in-Some.coord c.next.new.self)) in
    few_here c.args.task.now c.target_array-info.ensures.sound c.target_array-info.result.now c.in-Some.coord c.chunk_region-region.result.lo c.chunk_region-region.result.hi c.target_array-info.ensures.info meets.0 c.chunk_region-region.ensures.lo c.chunk_region-region.ensures.hi

pub loop-coord-init : goal.loop-coord-init
loop-coord-init c =
    let all : c.into_iter-coord-iterator.result ≡ region_chunks c.args.task.now = c.into_iter-coord-iterator.ensures.into_iter_gives ∙ c.cover-coord-items.ensures.chunks
    ∙ all_here c.args.task.now c.target_array-info.ensures.sound c.target_array-info.result.now c.region.result.now.lo c.region.result.now.hi c.target_array-info.ensures.info c.region.ensures.lo c.region.ensures.hi in
    record {
      meets = λ coord has. made_chunk c.args.task.now c.target_array-info.ensures.sound coord (subst (λ (x : List (List ℕ)). Contains x coord) all has);
      room = ap (λ (x : List (List ℕ)). c.args.room + room_of_parts c.args.task.now x) all;
    }

pub loop-coord-preserved : goal.loop-coord-preserved
loop-coord-preserved c =
    let e : c.loop-coord.coord-iterator ≡ c.in-Some.coord ∷ c.next.new.self = c.in-Some.ensures.steps in
    let first = first_room c.args.task.now c.target_array-info.ensures.sound c.in-Some.coord c.next.new.self c.loop-coord.coord-iterator e in
    let own : c.region_bytes-bytes.result ≡ part_room c.args.task.now c.in-Some.coord = c.region_bytes-bytes.ensures
    ∙ room_here c.args.task.now c.target_array-info.ensures.sound c.target_array-info.result.now c.in-Some.coord c.chunk_region-region.result.lo c.chunk_region-region.result.hi c.target_array-info.ensures.info c.chunk_region-region.ensures.lo c.chunk_region-region.ensures.hi in
    let before = c.loop-coord.invariant.room in
    let fits = c.if-left-bytes.false in
    record {
      meets = λ coord has. c.loop-coord.invariant.meets coord (subst (λ (x : List (List ℕ)). Contains x coord) (sym e) (rest_contains c.in-Some.coord c.next.new.self coord has));
      room = omega (arith, first, own, before, fits);
    }

pub returns : goal.returns
returns c =
    let e : c.loop-coord.coord-iterator ≡ [] = c.in-None.ensures.steps.0 in
    let none = ap (room_of_parts c.args.task.now) e in
    let before = c.loop-coord.invariant.room in
    omega (arith, none, before)
