-- The definitions on worked examples: an array of 5 times 7 elements in chunks of 2 times 3.
use Rattle.std.proofs.Common.{◌≡◌, [], ◌∷◌, Some, None, refl}
use Rattle.cu_shape.specs.Index.{product}
use Rattle.cu_grid.specs.Counts.{counts_of, chunk_lo, chunk_hi}
use Rattle.cu_grid.specs.Cover.{covering}
use Rattle.cu_grid.specs.Grid.{RegularGrid, coordinate_of, index_at_place}
use Rattle.cu_grid.specs.Limits.{first_fault}
use Rattle.cu_grid.specs.declared.fault.GridFault.TheVariants.{ZeroChunk, Rank, TooManyElements, TooManyChunks, ChunkTooLarge}

abbrev grid : RegularGrid
grid = record { shape = 5 ∷ 7 ∷ []; chunk = 2 ∷ 3 ∷ [] }

counts : counts_of grid.shape grid.chunk ≡ 3 ∷ 3 ∷ []
counts = refl

edge_begins : chunk_lo grid.chunk (2 ∷ 2 ∷ []) ≡ 4 ∷ 6 ∷ []
edge_begins = refl

edge_ends_with_the_array : chunk_hi grid.shape grid.chunk (2 ∷ 2 ∷ []) ≡ 5 ∷ 7 ∷ []
edge_ends_with_the_array = refl

-- a region from 1, 2 to below 3, 7 meets six chunks, in row-major order
six_chunks : covering grid.chunk (1 ∷ 2 ∷ []) (3 ∷ 7 ∷ []) ≡ (0 ∷ 0 ∷ []) ∷ (0 ∷ 1 ∷ []) ∷ (0 ∷ 2 ∷ []) ∷ (1 ∷ 0 ∷ []) ∷ (1 ∷ 1 ∷ []) ∷ (1 ∷ 2 ∷ []) ∷ []
six_chunks = refl

empty_region : covering grid.chunk (1 ∷ 3 ∷ []) (2 ∷ 3 ∷ []) ≡ []
empty_region = refl

sixth_chunk : coordinate_of grid 5 ≡ 1 ∷ 2 ∷ []
sixth_chunk = refl

-- the fifth element of chunk 1, 2 is at 3, 7, past the array's end
past_the_edge : index_at_place grid.chunk (1 ∷ 2 ∷ []) 4 ≡ 3 ∷ 7 ∷ []
past_the_edge = refl

empty_axis : product (counts_of (0 ∷ 4 ∷ []) (3 ∷ 3 ∷ [])) ≡ 0
empty_axis = refl

rank_0 : product (counts_of [] []) ≡ 1
rank_0 = refl

zero_chunk_before_rank : first_fault (4 ∷ []) (0 ∷ 1 ∷ []) 8 ≡ Some ZeroChunk
zero_chunk_before_rank = refl

ranks_differ : first_fault (4 ∷ []) (2 ∷ 2 ∷ []) 8 ≡ Some Rank
ranks_differ = refl

elements : first_fault (1099511627777 ∷ []) (1 ∷ []) 8 ≡ Some TooManyElements
elements = refl

-- an axis of size 0 counts as one chunk
chunks : first_fault (65537 ∷ 0 ∷ []) (1 ∷ 1 ∷ []) 8 ≡ Some TooManyChunks
chunks = refl

bytes : first_fault (1 ∷ []) (33554433 ∷ []) 8 ≡ Some ChunkTooLarge
bytes = refl

at_the_limits : first_fault (65536 ∷ 0 ∷ []) (1 ∷ 33554432 ∷ []) 8 ≡ None
at_the_limits = refl
