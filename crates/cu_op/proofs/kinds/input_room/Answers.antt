use Rattle.std.proofs.Common.{refl, arith}
use Rattle.cu_op.proofs.kinds.input_room.Goals as goal

pub rooms-requires-clause-within : goal.rooms-requires-clause-within
rooms-requires-clause-within c = rw c.as_slice.ensures.value (rw c.in-Map.is at c.requires.within)

pub rooms-requires-clause-small : goal.rooms-requires-clause-small
rooms-requires-clause-small c = rw c.as_slice.ensures.value (rw c.in-Map.is at c.requires.small)

pub bytes_of-requires-clause-within : goal.bytes_of-requires-clause-within
bytes_of-requires-clause-within c = let reads = rw c.in-Copy.is at c.requires.within in reads 0 0 (omega arith)

pub bytes_of-requires-clause-small : goal.bytes_of-requires-clause-small
bytes_of-requires-clause-small c = rw c.in-Copy.is at c.requires.small

pub chunk_room-requires : goal.chunk_room-requires
chunk_room-requires c = let reads = rw c.in-Merge.is at c.requires.within in reads 0 0 (omega arith)

pub overflow_mul-result : goal.overflow_mul-result
overflow_mul-result c =
    let small = rw c.in-Merge.is at c.requires.small in
    rw (c.from.ensures, c.chunk_room.ensures.room) (omega (arith, small))

pub chunk_room-requires-in-PairMerge : goal.chunk_room-requires-in-PairMerge
chunk_room-requires-in-PairMerge c = let reads = rw c.in-PairMerge.is at c.requires.within in reads 0 0 (omega arith)

pub chunk_room-requires-in-PairMerge-2 : goal.chunk_room-requires-in-PairMerge-2
chunk_room-requires-in-PairMerge-2 c = let reads = rw c.in-PairMerge.is at c.requires.within in reads 1 0 (omega arith)

pub overflow_add-result : goal.overflow_add-result
overflow_add-result c = let a = c.chunk_room-in-PairMerge.ensures.small in let b = c.chunk_room-in-PairMerge-2.ensures.small in omega (arith, a, b)

pub overflow_mul-result-in-PairMerge : goal.overflow_mul-result-in-PairMerge
overflow_mul-result-in-PairMerge c =
    let small = rw c.in-PairMerge.is at c.requires.small in
    rw (c.from-in-PairMerge.ensures, c.chunk_room-in-PairMerge.ensures.room, c.chunk_room-in-PairMerge-2.ensures.room) (omega (arith, small))

pub chunk_room-requires-in-Mul : goal.chunk_room-requires-in-Mul
chunk_room-requires-in-Mul c = let reads = rw c.in-Mul.is at c.requires.within in reads 0 0 (omega arith)

pub chunk_room-requires-in-Mul-2 : goal.chunk_room-requires-in-Mul-2
chunk_room-requires-in-Mul-2 c = let reads = rw c.in-Mul.is at c.requires.within in reads 1 0 (omega arith)

pub overflow_add-result-in-Mul : goal.overflow_add-result-in-Mul
overflow_add-result-in-Mul c = let a = c.chunk_room-in-Mul.ensures.small in let b = c.chunk_room-in-Mul-2.ensures.small in omega (arith, a, b)

pub chunk_room-requires-in-GroupFold : goal.chunk_room-requires-in-GroupFold
chunk_room-requires-in-GroupFold c = let reads = rw c.in-GroupFold.is at c.requires.within in reads 0 0 (omega arith)

pub chunk_room-requires-in-GroupFold-2 : goal.chunk_room-requires-in-GroupFold-2
chunk_room-requires-in-GroupFold-2 c = let reads = rw c.in-GroupFold.is at c.requires.within in reads 1 0 (omega arith)

pub overflow_add-result-in-GroupFold : goal.overflow_add-result-in-GroupFold
overflow_add-result-in-GroupFold c = let a = c.chunk_room-in-GroupFold.ensures.small in let b = c.chunk_room-in-GroupFold-2.ensures.small in omega (arith, a, b)

pub returns-in-GroupFold : goal.returns-in-GroupFold
returns-in-GroupFold c = rw (c.in-GroupFold.is, c.chunk_room-in-GroupFold.ensures.room, c.chunk_room-in-GroupFold-2.ensures.room) refl

pub returns-in-Map : goal.returns-in-Map
returns-in-Map c = rw (c.in-Map.is, c.rooms.ensures, c.as_slice.ensures.value) refl

pub returns-in-Copy : goal.returns-in-Copy
returns-in-Copy c = rw (c.in-Copy.is, c.bytes_of.ensures) refl

pub returns-in-Merge : goal.returns-in-Merge
returns-in-Merge c = rw (c.in-Merge.is, c.from.ensures, c.chunk_room.ensures.room) refl

pub returns-in-PairMerge : goal.returns-in-PairMerge
returns-in-PairMerge c = rw (c.in-PairMerge.is, c.from-in-PairMerge.ensures, c.chunk_room-in-PairMerge.ensures.room, c.chunk_room-in-PairMerge-2.ensures.room) refl

pub returns-in-Mul : goal.returns-in-Mul
returns-in-Mul c = rw (c.in-Mul.is, c.chunk_room-in-Mul.ensures.room, c.chunk_room-in-Mul-2.ensures.room) refl
