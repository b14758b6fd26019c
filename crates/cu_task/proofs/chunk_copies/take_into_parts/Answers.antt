use Rattle.std.proofs.Common.{◌≡◌, ◌+◌, ◌-◌, ℕ, List, [], ◌∷◌, length, take, drop, Contains, refl, sym, ap, ◌∙◌, subst, arith}
use Rattle.std.proofs.lemmas.List.{length-take-le, length-drop}
use Rattle.cu_num.specs.Dtype.{size_of}
use Rattle.cu_num.specs.declared.layout.Endian.TheVariants.{Little}
use Rattle.cu_grid.specs.Counts.{chunk_lo, chunk_hi}
use Rattle.cu_codec.specs.Parts.{part, IsPartTaken}
use Rattle.cu_op.specs.Arrays.{grid_at}
use Rattle.cu_op.specs.declared.layout.ArrayInfo.{ArrayInfo}
use Rattle.cu_op.proofs.TaskCells.{region_lengths}
use Rattle.cu_region.proofs.SteadyKeys.{first_contains, rest_contains}
use Rattle.cu_task.specs.ChunkCopies.{region_chunks, made_info, part_lo, part_hi, part_room, room_of_parts, ChunkBytes}
use Rattle.cu_task.proofs.ChunkParts.{behind_more, taken_all, taken_more, taken_none, TakenSoFar}
use Rattle.cu_task.proofs.CopyByChunks.{all_here, few_here, first_room, made_chunk, room_here}
use Rattle.cu_task.proofs.chunk_copies.take_into_parts.Goals as goal

pub region_bytes-requires-clause-ranks : goal.region_bytes-requires-clause-ranks
region_bytes-requires-clause-ranks c =
    let e = region_lengths _ _ _ c.chunk_region-region.ensures.inside in
    e.1 ∙ sym e.0

pub region_bytes-requires-clause-few : goal.region_bytes-requires-clause-few
region_bytes-requires-clause-few c =
    let e : c.loop-part.part-iterator ≡ c.in-Some.part ∷ c.next.new.self = c.in-Some.ensures.steps in
    let meets = c.loop-part.invariant.meets c.in-Some.part (subst (λ (x : List (List ℕ)). Contains x c.in-Some.part) (sym e) (first_contains c.in-Some.part c.next.new.self)) in
    few_here c.args.task.now c.target_array-made.ensures.sound c.target_array-made.result.now c.in-Some.part c.chunk_region-region.result.lo c.chunk_region-region.result.hi c.target_array-made.ensures.info meets.0 c.chunk_region-region.ensures.lo c.chunk_region-region.ensures.hi

pub loop-part-init : goal.loop-part-init
loop-part-init c =
    let all : c.into_iter-part-iterator.result ≡ region_chunks c.args.task.now = c.into_iter-part-iterator.ensures.into_iter_gives ∙ c.cover-part-items.ensures.chunks
    ∙ all_here c.args.task.now c.target_array-made.ensures.sound c.target_array-made.result.now c.region.result.now.lo c.region.result.now.hi c.target_array-made.ensures.info c.region.ensures.lo c.region.ensures.hi in
    record {
      meets = λ coord has. made_chunk c.args.task.now c.target_array-made.ensures.sound coord (subst (λ (x : List (List ℕ)). Contains x coord) all has);
      room = (let same = ap (room_of_parts c.args.task.now) all in omega (arith, same));
      behind = refl;
      taken = taken_none c.args.task.now (record { grid = grid_at c.args.task.now.plan.arrays c.args.walk.now.array; coord = c.args.coord.now; bytes = c.args.chunk.now }) c.into_iter-part-iterator.result c.args.output.now c.args.output.now all;
    }

pub loop-part-preserved : goal.loop-part-preserved
loop-part-preserved c =
    let chunk : ChunkBytes = record { grid = grid_at c.args.task.now.plan.arrays c.args.walk.now.array; coord = c.args.coord.now; bytes = c.args.chunk.now } in
    let info = c.target_array-made.ensures.info in
    let e : c.loop-part.part-iterator ≡ c.in-Some.part ∷ c.next.new.self = c.in-Some.ensures.steps in
    let first = first_room c.args.task.now c.target_array-made.ensures.sound c.in-Some.part c.next.new.self c.loop-part.part-iterator e in
    let mine : c.region_bytes.result ≡ part_room c.args.task.now c.in-Some.part = c.region_bytes.ensures
    ∙ room_here c.args.task.now c.target_array-made.ensures.sound c.target_array-made.result.now c.in-Some.part c.chunk_region-region.result.lo c.chunk_region-region.result.hi c.target_array-made.ensures.info c.chunk_region-region.ensures.lo c.chunk_region-region.ensures.hi in
    let before = c.loop-part.invariant.room in
    let room = c.requires.output in
    let long = c.loop-part.auto.output in
    let lo : c.chunk_region-region.result.lo ≡ part_lo c.args.task.now c.in-Some.part = c.chunk_region-region.ensures.lo ∙ ap (λ (i : ArrayInfo). chunk_lo i.layout.grid.chunk c.in-Some.part) info in
    let hi : c.chunk_region-region.result.hi ≡ part_hi c.args.task.now c.in-Some.part = c.chunk_region-region.ensures.hi ∙ ap (λ (i : ArrayInfo). chunk_hi i.layout.grid.shape i.layout.grid.chunk c.in-Some.part) info in
    let wide : c.from-size.result ≡ size_of c.target_array-made.result.now.layout.dtype = omega arith in
    let left = length-drop c.loop-part.at c.loop-part.output in
    let own : length c.take_part.new.out ≡ c.loop-part.at + c.region_bytes.result - c.loop-part.at
    = c.take_part.auto.out ∙ length-take-le (c.loop-part.at + c.region_bytes.result - c.loop-part.at) (drop c.loop-part.at c.loop-part.output) (omega (arith, first, mine, before, room, long, left)) in
    let took : IsPartTaken (size_of (made_info c.args.task.now).layout.dtype) Little (part (grid_at c.args.task.now.plan.arrays c.args.walk.now.array) c.args.coord.now (part_lo c.args.task.now c.in-Some.part) (part_hi c.args.task.now c.in-Some.part)) c.args.chunk.now
    (take (c.loop-part.at + c.region_bytes.result - c.loop-part.at) (drop c.loop-part.at c.loop-part.output)) c.take_part.new.out
    = rw (wide, info, c.array-from.ensures.array, lo, hi) at c.take_part.ensures.taken in
    record {
      meets = λ coord has. c.loop-part.invariant.meets coord (subst (λ (x : List (List ℕ)). Contains x coord) (sym e) (rest_contains c.in-Some.part c.next.new.self coord has));
      room = omega (arith, first, mine, before);
      behind = behind_more c.args.task.now c.loop-part.at (c.loop-part.at + c.region_bytes.result) c.args.output.now c.loop-part.output c.take_part.new.out (omega arith) (omega (arith, first, mine, before, room)) long own c.loop-part.invariant.behind;
      taken = taken_more c.args.task.now chunk c.in-Some.part c.next.new.self c.loop-part.at (c.loop-part.at + c.region_bytes.result) c.args.output.now c.loop-part.output c.take_part.new.out (omega (arith, mine)) (omega (arith, first, mine, before, room)) long own c.loop-part.invariant.behind took
          (subst (λ (x : List (List ℕ)). TakenSoFar c.args.task.now chunk x c.loop-part.at c.args.output.now c.loop-part.output) e c.loop-part.invariant.taken);
    }

pub returns : goal.returns
returns c =
    let chunk : ChunkBytes = record { grid = grid_at c.args.task.now.plan.arrays c.args.walk.now.array; coord = c.args.coord.now; bytes = c.args.chunk.now } in
    let e : c.loop-part.part-iterator ≡ [] = c.in-None.ensures.steps.0 in
    taken_all c.args.task.now chunk c.loop-part.at c.args.output.now c.loop-part.output
    (subst (λ (x : List (List ℕ)). TakenSoFar c.args.task.now chunk x c.loop-part.at c.args.output.now c.loop-part.output) e c.loop-part.invariant.taken)
