use Rattle.std.proofs.Common.{◌<◌, All, [], ◌∷◌, length, subst, arith}
use Rattle.cu_op.specs.Operation.{reads_of, writes_of}
use Rattle.cu_op.specs.declared.operation.Op.{Op}
use Rattle.cu_op.specs.declared.operation.Op.TheVariants.{Copy}
use Rattle.cu_fuse.proofs.copies.joint_copy.Goals as goal

pub region_count-requires-clause-out : goal.region_count-requires-clause-out
region_count-requires-clause-out c =
    let n = length c.args.setting.now.arrays in
    subst (λ (o : Op). All (λ r. r < n) (writes_of o)) c.in-Copy.is c.requires.maker.writes 0 0 (omega arith)

pub region_count-requires-in-Copy-op-clause-out : goal.region_count-requires-in-Copy-op-clause-out
region_count-requires-in-Copy-op-clause-out c =
    let n = length c.args.setting.now.arrays in
    subst (λ (o : Op). All (λ r. r < n) (writes_of o)) c.in-Copy-op.is c.requires.reader.writes 0 0 (omega arith)

pub region_count-requires-in-Copy-op-2-clause-out : goal.region_count-requires-in-Copy-op-2-clause-out
region_count-requires-in-Copy-op-2-clause-out c =
    let n = length c.args.setting.now.arrays in
    subst (λ (o : Op). All (λ r. r < n) (writes_of o)) c.in-Copy-op.is c.requires.reader.writes 0 0 (omega arith)

pub within_allowed-requires-clause-reads : goal.within_allowed-requires-clause-reads
within_allowed-requires-clause-reads c =
    let n = length c.args.setting.now.arrays in
    subst (λ (o : Op). All (λ r. r < n) (reads_of o)) c.in-Copy.is c.requires.maker.reads

pub within_allowed-requires-clause-writes : goal.within_allowed-requires-clause-writes
within_allowed-requires-clause-writes c =
    let n = length c.args.setting.now.arrays in
    subst (λ (o : Op). All (λ r. r < n) (writes_of o)) c.in-Copy-op.is c.requires.reader.writes

pub within_allowed-requires-clause-room : goal.within_allowed-requires-clause-room
within_allowed-requires-clause-room c =
    let s = c.args.setting.now in
    let n = length s.arrays in
    let op : Op = Copy c.in_ok-region-in-Copy-op.region c.in-Copy.source c.in-Copy-op.out in
    let reads : All (λ r. r < n) (c.in-Copy.source ∷ []) = within_allowed-requires-clause-reads c in
    let target : c.in-Copy-op.out < n = within_allowed-requires-clause-writes c 0 0 (omega arith) in
    c.one_map_law.ensures.room op s.arrays 0 c.requires.arrays reads target (omega arith) (omega arith) c.in_ok-region-in-Copy-op.ensures.grid.chunk_elements (omega arith)
