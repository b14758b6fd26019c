use Rattle.std.proofs.Common.{◌≡◌, ◌≤◌, ℕ, length, refl, sym, ap, ◌∙◌, subst, arith}
use Rattle.std.specs.Prelude.{OnOk}
use Rattle.cu_grid.specs.Counts.{chunk_lo, chunk_hi}
use Rattle.cu_grid.specs.Grid.{IsCoordinate}
use Rattle.cu_store.specs.Chunks.{Adds, Keeps}
use Rattle.cu_store.specs.Steps.{Steps}
use Rattle.cu_store.proofs.Steps.{steps_wider}
use Rattle.cu_op.specs.declared.layout.ArrayInfo.{ArrayInfo}
use Rattle.cu_region.specs.Calls.{chunks_met, Made}
use Rattle.cu_region.specs.Reading.{bytes_of, key_at, IsChunkKey}
use Rattle.cu_region.specs.Writing.{LateIsOwn, RegionPut, StoresRegion}
use Rattle.cu_task.specs.ChunkCopies.{made_info, part_lo, part_hi}
use Rattle.cu_task.proofs.Allowed.{allows_within}
use Rattle.cu_task.proofs.CopyByChunks.{holds_part, late_part, made_array, made_small, one_call, one_tally, part_met, part_whole, puts_part, scratch_made}
use Rattle.cu_task.proofs.InputReads.{on_ok_then}
use Rattle.cu_task.proofs.chunk_copies.write_part.Goals as goal

pub write_region_of-requires-clause-short : goal.write_region_of-requires-clause-short
write_region_of-requires-clause-short g c = rw c.target_array-info.ensures.info (made_array c.args.task.now c.target_array-info.ensures.sound).short

pub write_region_of-requires-clause-fill : goal.write_region_of-requires-clause-fill
write_region_of-requires-clause-fill g c = rw c.target_array-info.ensures.info (made_array c.args.task.now c.target_array-info.ensures.sound).fill

pub write_region_of-requires-clause-may : goal.write_region_of-requires-clause-may
write_region_of-requires-clause-may g c =
    let info = c.target_array-info.ensures.info in
    let lo : c.chunk_region-region.result.lo ≡ part_lo c.args.task.now c.args.coord.now = c.chunk_region-region.ensures.lo ∙ ap (λ (i : ArrayInfo). chunk_lo i.layout.grid.chunk c.args.coord.now) info in
    let hi : c.chunk_region-region.result.hi ≡ part_hi c.args.task.now c.args.coord.now = c.chunk_region-region.ensures.hi ∙ ap (λ (i : ArrayInfo). chunk_hi i.layout.grid.shape i.layout.grid.chunk c.args.coord.now) info in
    rw (info, lo, hi) (allows_within (puts_part c.args.task.now c.target_array-info.ensures.sound c.args.coord.now c.args.own.now c.requires.meets c.requires.puts.start c.requires.puts.carries) c.requires.puts.changes)

pub write_region_of-requires-clause-whole : goal.write_region_of-requires-clause-whole
write_region_of-requires-clause-whole g c =
    let info = c.target_array-info.ensures.info in
    let lo : c.chunk_region-region.result.lo ≡ part_lo c.args.task.now c.args.coord.now = c.chunk_region-region.ensures.lo ∙ ap (λ (i : ArrayInfo). chunk_lo i.layout.grid.chunk c.args.coord.now) info in
    let hi : c.chunk_region-region.result.hi ≡ part_hi c.args.task.now c.args.coord.now = c.chunk_region-region.ensures.hi ∙ ap (λ (i : ArrayInfo). chunk_hi i.layout.grid.shape i.layout.grid.chunk c.args.coord.now) info in
    rw (info, lo, hi) (part_whole c.args.task.now c.target_array-info.ensures.sound c.args.coord.now c.requires.meets.0)

pub write_region_of-requires-clause-coordinates : goal.write_region_of-requires-clause-coordinates
write_region_of-requires-clause-coordinates g c coord m =
    made_small c.args.task.now c.target_array-info.ensures.sound coord (subst (λ (i : ArrayInfo). IsCoordinate i.layout.grid coord) c.target_array-info.ensures.info m.0)

pub write_region_of-requires-clause-scratch_length : goal.write_region_of-requires-clause-scratch_length
write_region_of-requires-clause-scratch_length g c =
    subst (λ (i : ArrayInfo). bytes_of i.layout ≤ length c.args.scratch.now) (sym c.target_array-info.ensures.info) (scratch_made c.args.task.now c.target_array-info.ensures.sound (length c.args.scratch.now) c.requires.scratch)

pub returns-clause-got : goal.returns-clause-got
returns-clause-got g c =
    let info = c.target_array-info.ensures.info in
    let lo : c.chunk_region-region.result.lo ≡ part_lo c.args.task.now c.args.coord.now = c.chunk_region-region.ensures.lo ∙ ap (λ (i : ArrayInfo). chunk_lo i.layout.grid.chunk c.args.coord.now) info in
    let hi : c.chunk_region-region.result.hi ≡ part_hi c.args.task.now c.args.coord.now = c.chunk_region-region.ensures.hi ∙ ap (λ (i : ArrayInfo). chunk_hi i.layout.grid.shape i.layout.grid.chunk c.args.coord.now) info in
    let got : OnOk c.write_region_of.result (Keeps (IsChunkKey (made_info c.args.task.now) (part_lo c.args.task.now c.args.coord.now) (part_hi c.args.task.now c.args.coord.now)) (g.C.Chunks.may_get c.args.store.now c.write_region_of.new.access))
    = rw (info, lo, hi) at c.write_region_of.ensures.got in
    on_ok_then c.write_region_of.result
    (λ keeps. keeps (key_at (made_info c.args.task.now) c.args.coord.now) (c.args.coord.now, part_met c.args.task.now c.target_array-info.ensures.sound c.args.coord.now c.requires.meets, refl)) got

pub returns-clause-step : goal.returns-clause-step
returns-clause-step g c start carries =
    let info = c.target_array-info.ensures.info in
    let lo : c.chunk_region-region.result.lo ≡ part_lo c.args.task.now c.args.coord.now = c.chunk_region-region.ensures.lo ∙ ap (λ (i : ArrayInfo). chunk_lo i.layout.grid.chunk c.args.coord.now) info in
    let hi : c.chunk_region-region.result.hi ≡ part_hi c.args.task.now c.args.coord.now = c.chunk_region-region.ensures.hi ∙ ap (λ (i : ArrayInfo). chunk_hi i.layout.grid.shape i.layout.grid.chunk c.args.coord.now) info in
    let one = one_call c.args.task.now c.target_array-info.ensures.sound c.args.coord.now c.requires.meets in
    let step : Steps (RegionPut (made_info c.args.task.now) (part_lo c.args.task.now c.args.coord.now) (part_hi c.args.task.now c.args.coord.now) c.args.own.now) 0 (chunks_met (made_info c.args.task.now).layout.grid (part_lo c.args.task.now c.args.coord.now) (part_hi c.args.task.now c.args.coord.now))
    (g.C.Chunks.shown c.args.access.now) (g.C.Chunks.shown c.write_region_of.new.access)
    = rw (info, lo, hi) at c.write_region_of.ensures.step in
    steps_wider (puts_part c.args.task.now c.target_array-info.ensures.sound c.args.coord.now c.args.own.now c.requires.meets start carries) (omega arith) (omega (arith, one)) step

pub returns-clause-stored : goal.returns-clause-stored
returns-clause-stored g c env start calls carries ready before =
    let info = c.target_array-info.ensures.info in
    let lo : c.chunk_region-region.result.lo ≡ part_lo c.args.task.now c.args.coord.now = c.chunk_region-region.ensures.lo ∙ ap (λ (i : ArrayInfo). chunk_lo i.layout.grid.chunk c.args.coord.now) info in
    let hi : c.chunk_region-region.result.hi ≡ part_hi c.args.task.now c.args.coord.now = c.chunk_region-region.ensures.hi ∙ ap (λ (i : ArrayInfo). chunk_hi i.layout.grid.shape i.layout.grid.chunk c.args.coord.now) info in
    let stored : LateIsOwn (made_info c.args.task.now) (part_lo c.args.task.now c.args.coord.now) (part_hi c.args.task.now c.args.coord.now) c.args.own.now (g.C.Chunks.shown c.args.access.now).late
    → OnOk c.write_region_of.result (StoresRegion (made_info c.args.task.now) (part_lo c.args.task.now c.args.coord.now) (part_hi c.args.task.now c.args.coord.now) c.args.own.now (g.C.Chunks.shown c.write_region_of.new.access).held)
    = rw (info, lo, hi) at c.write_region_of.ensures.stored in
    on_ok_then c.write_region_of.result
    (λ stores. holds_part c.args.task.now c.target_array-info.ensures.sound c.args.coord.now c.args.own.now c.requires.meets env start (g.C.Chunks.shown c.write_region_of.new.access) carries ready stores)
    (stored (late_part c.args.task.now c.target_array-info.ensures.sound c.args.coord.now c.args.own.now c.requires.meets c.requires.own env start (g.C.Chunks.shown c.args.access.now) calls carries ready before))

pub returns-clause-all : goal.returns-clause-all
returns-clause-all g c =
    let info = c.target_array-info.ensures.info in
    let lo : c.chunk_region-region.result.lo ≡ part_lo c.args.task.now c.args.coord.now = c.chunk_region-region.ensures.lo ∙ ap (λ (i : ArrayInfo). chunk_lo i.layout.grid.chunk c.args.coord.now) info in
    let hi : c.chunk_region-region.result.hi ≡ part_hi c.args.task.now c.args.coord.now = c.chunk_region-region.ensures.hi ∙ ap (λ (i : ArrayInfo). chunk_hi i.layout.grid.shape i.layout.grid.chunk c.args.coord.now) info in
    subst (λ (n : ℕ). OnOk c.write_region_of.result (Made n (g.C.Chunks.shown c.args.access.now).calls (g.C.Chunks.shown c.write_region_of.new.access).calls)) (one_call c.args.task.now c.target_array-info.ensures.sound c.args.coord.now c.requires.meets)
    (rw (info, lo, hi) at c.write_region_of.ensures.calls_all)

pub returns-clause-called : goal.returns-clause-called
returns-clause-called g c =
    let info = c.target_array-info.ensures.info in
    let lo : c.chunk_region-region.result.lo ≡ part_lo c.args.task.now c.args.coord.now = c.chunk_region-region.ensures.lo ∙ ap (λ (i : ArrayInfo). chunk_lo i.layout.grid.chunk c.args.coord.now) info in
    let hi : c.chunk_region-region.result.hi ≡ part_hi c.args.task.now c.args.coord.now = c.chunk_region-region.ensures.hi ∙ ap (λ (i : ArrayInfo). chunk_hi i.layout.grid.shape i.layout.grid.chunk c.args.coord.now) info in
    subst (λ (n : ℕ). OnOk c.write_region_of.result (Adds n (g.C.Chunks.tally c.args.access.now) (g.C.Chunks.tally c.write_region_of.new.access))) (one_tally c.args.task.now c.target_array-info.ensures.sound (g.C.Chunks.weight c.args.store.now) c.args.coord.now c.requires.meets)
    (rw (info, lo, hi) at c.write_region_of.ensures.called)
