-- Copies of an array into other chunks, and their memory and counts (this project's own rule; the stages are after Rechunker). `most` is how
-- many bytes a region has at most.
use Rattle.std.specs.Prelude.{◌≡◌, ℕ, ◌+◌, ◌-◌, ◌*◌, ◌/◌, ◌^◌, ◌<◌, ◌≤◌, nat_le, Bool, true, not, bytes_eq, max, if◌then◌else◌, List, All, length}
use Rattle.cu_num.specs.Dtype.{size_of}
use Rattle.cu_shape.specs.Counts.{counts_of}
use Rattle.cu_shape.specs.Index.{product}
use Rattle.cu_node.specs.Info.{IsInfo, info_of, chunk_bytes}
use Rattle.cu_node.specs.Limited.{is_chunk_within}
use Rattle.cu_node.specs.declared.info.NodeInfo.{NodeInfo}
use Rattle.cu_rechunk.specs.Stages.{write_sizes, read_sizes, middle_sizes}
use Rattle.cu_rechunk.specs.declared.staging.Staging.{Staging}
use Rattle.cu_copy.specs.Chunks.{chunk_count}
use Rattle.cu_copy.specs.declared.copies.CopyCounts.{CopyCounts}
use Rattle.cu_copy.specs.declared.copies.Rechunk.{Rechunk}

-- an array, and the chunks that it is to have
abbrev pub in_chunks : NodeInfo → List ℕ → Rechunk
in_chunks i chunk = record { source = i; chunk = chunk }

-- the array that a rechunk makes
abbrev pub rechunked : Rechunk → NodeInfo
rechunked r = info_of r.source.dtype r.source.dims r.chunk

-- the source has other chunks than are wanted
abbrev pub is_misaligned : Rechunk → Bool
is_misaligned r = not (bytes_eq r.source.chunk r.chunk)

-- ---- memory

-- the bytes of the greater chunk, of the source or of the result
abbrev pub greater_chunk : Rechunk → ℕ
greater_chunk r = max (chunk_bytes r.source) (chunk_bytes (rechunked r))

-- the greater chunk as scratch, and as much for a region
abbrev pub rechunk_need : ℕ → Rechunk → ℕ
rechunk_need reserved r = reserved + 2 * greater_chunk r

-- the most bytes of a region: with a chunk that is no greater as scratch, a copy keeps within what is allowed
abbrev pub max_mem : ℕ → ℕ → ℕ
max_mem allowed reserved = (allowed - reserved) / 2

-- ---- stages

-- the regions that are read, the chunks between, and the regions that are written
abbrev pub staging : ℕ → Rechunk → Staging
staging most r = record {
  read = read_sizes r.source.dims r.source.chunk r.chunk (most / size_of r.source.dtype);
  middle = middle_sizes r.source.dims r.source.chunk r.chunk (most / size_of r.source.dtype);
  write = write_sizes r.source.dims r.chunk (most / size_of r.source.dtype);
}

-- one copy does where the regions that are read are those that are written; else there are two
abbrev pub is_one_copy : Staging → Bool
is_one_copy s = bytes_eq s.read s.write

-- the array between two copies
abbrev pub between : Rechunk → Staging → NodeInfo
between r s = info_of r.source.dtype r.source.dims s.middle

-- ---- counts

-- how many regions of this size there are in an array, each of which is a task's
abbrev pub region_count : NodeInfo → List ℕ → ℕ
region_count i region = product (counts_of i.dims region)

-- those of one copy, and of two
abbrev pub staged_counts : Rechunk → Staging → CopyCounts
staged_counts r s =
    if is_one_copy s then record { tasks = region_count r.source s.write; cells = chunk_count (rechunked r) }
    else record { tasks = region_count r.source s.read + region_count r.source s.write; cells = chunk_count (between r s) + chunk_count (rechunked r) }

-- the counts of a rechunk; none where a chunk has more bytes than a region may have
abbrev pub rechunk_counts : ℕ → Rechunk → CopyCounts
rechunk_counts most r = if nat_le (greater_chunk r) most then staged_counts r (staging most r) else record { tasks = 0; cells = 0 }

-- the tasks alone, and the chunks that they store
abbrev pub rechunk_tasks : ℕ → Rechunk → ℕ
rechunk_tasks most r = (rechunk_counts most r).tasks

abbrev pub rechunk_cells : ℕ → Rechunk → ℕ
rechunk_cells most r = (rechunk_counts most r).cells

-- ---- what is taken for granted

-- an array with as many chunk sizes as it has axes, none of them 0, which keep the limit of bytes
pub record IsRechunk (r : Rechunk) : Type 0 where
  pub source : IsInfo r.source
  pub ranks : length r.chunk ≡ length r.source.dims
  pub positive : All (λ c. 0 < c) r.chunk
  pub bytes : is_chunk_within r.source.dtype r.chunk ≡ true

-- sizes of regions or of chunks, one for each axis, none of them 0, of at most 2^40 elements
pub record AreSizes (i : NodeInfo) (sizes : List ℕ) : Type 0 where
  pub ranks : length sizes ≡ length i.dims
  pub positive : All (λ c. 0 < c) sizes
  pub elements : product sizes ≤ 2 ^ 40

-- the sizes of stages
pub record AreRegions (r : Rechunk) (s : Staging) : Type 0 where
  pub read : AreSizes r.source s.read
  pub middle : AreSizes r.source s.middle
  pub write : AreSizes r.source s.write
