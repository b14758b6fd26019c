-- What `load` answers, and what it leaves. This project's own rule.
use Rattle.std.specs.Prelude.{◌≡◌, ◌⊎◌, IsTrue, ℕ, ◌+◌, ◌*◌, ◌<◌, ◌≤◌, ℤ, List, [], ◌∷◌, ◌++◌, length, codes, decimal, slice_get, Option, Some, None, Ok, Err}
use Rattle.cu_num.specs.Dtype.{size_of}
use Rattle.cu_num.specs.Element.{element_bytes}
use Rattle.cu_num.specs.declared.types.Dtype.{Dtype}
use Rattle.cu_num.specs.declared.layout.Endian.TheVariants.{Little}
use Rattle.cu_shape.specs.Index.{product, index_at, place_of, IsInside}
use Rattle.cu_grid.specs.Counts.{counts_of}
use Rattle.cu_zarr.specs.Key.{chunk_key_of, metadata_key_of}
use Rattle.cu_zarr.specs.Metadata.{metadata_text}
use Rattle.cu_zarr.specs.Spelling.{spelled}
use Rattle.cu_zarr.specs.Stored.{stored_element}
use Rattle.cu_codec.specs.Parts.{part_at}
use Rattle.cu_store.specs.Faults.{Rose}
use Rattle.cu_store.specs.Held.{Contents, Write, IsAmong, Holds, IsHeldIn}
use Rattle.cu_store.specs.Steps.{Shown, Changes, NoChange, PutOf, OnceEach}
use Rattle.cu_command.specs.Streams.{ReadsAll, WroteFront}
use Rattle.cu_command.specs.Seen.{Stream, Seen, Stepped, WithinCalls, WroteNothing}
use Rattle.cu_command.specs.declared.status.Status.{Status}
use Rattle.cu_command.specs.declared.status.Status.TheVariants.{Done, Exists, ReadFault, WriteFault, DepotFailed, BadLoad, NoMemory}
use Rattle.cu_load.specs.Keys.{IsAskedFor, AreFree}
use Rattle.cu_load.specs.LoadForm.{GivenArray, load_of}

-- ---- the array

-- the element at an index inside the shape, by its row-major place
abbrev pub given_at : GivenArray → List ℕ → Option ℤ
given_at a idx = slice_get a.elements (place_of a.layout.shape idx)

-- how many chunks it has on each axis, and in all
abbrev pub counts_in : GivenArray → List ℕ
counts_in a = counts_of a.layout.shape a.layout.chunk

abbrev pub chunks_in : GivenArray → ℕ
chunks_in a = product (counts_in a)

-- the coordinate of chunk number k, row-major
abbrev pub given_coord : GivenArray → ℕ → List ℕ
given_coord a k = index_at (counts_in a) k

-- the key of chunk number k
abbrev pub key_of_chunk : GivenArray → ℕ → List ℕ
key_of_chunk a k = chunk_key_of a.name a.layout.encoding (given_coord a k)

-- its value: the bytes of a whole chunk, past the edge those of the fill value
abbrev pub given_chunk : GivenArray → ℕ → Option (List ℕ)
given_chunk a k = spelled a.layout (given_at a) (given_coord a k)

-- ---- what is written

-- chunk number k is put, with its value
abbrev pub ChunkPut : GivenArray → ℕ → Changes
ChunkPut a k key value = (bytes : List ℕ) × (given_chunk a k ≡ Some bytes) × PutOf (key_of_chunk a k) bytes key value

-- one of the chunks below n is put
abbrev pub ChunksPut : GivenArray → ℕ → Changes
ChunksPut a n key value = (k : ℕ) × (k < n) × ChunkPut a k key value

-- the metadata or one of the chunks is put, each with its one value
abbrev pub ArrayPut : GivenArray → Changes
ArrayPut a key value = PutOf (metadata_key_of a.name) (metadata_text a.layout) key value ⊎ ChunksPut a (chunks_in a) key value

-- a key of the array: its metadata or one of its chunks
abbrev pub IsArrayKey : GivenArray → List ℕ → Type 0
IsArrayKey a key = (key ≡ metadata_key_of a.name) ⊎ ((k : ℕ) × (k < chunks_in a) × (key ≡ key_of_chunk a k))

-- ---- the stored array

-- the stored element at each index is the given one
abbrev pub HasGivenElements : GivenArray → Contents → Type 0
HasGivenElements a held = (idx : List ℕ) → IsInside a.layout.shape idx → (x : ℤ) × (given_at a idx ≡ Some x) × (stored_element a.layout a.name held idx ≡ Some x)

-- chunk number k has a value and holds it
abbrev pub HoldsChunk : GivenArray → Option Contents → ℕ → Type 0
HoldsChunk a held k = (bytes : List ℕ) × (given_chunk a k ≡ Some bytes) × Holds held (key_of_chunk a k) bytes

-- the chunks below n do
abbrev pub HoldsChunks : GivenArray → Option Contents → ℕ → Type 0
HoldsChunks a held n = (k : ℕ) → k < n → HoldsChunk a held k

-- the array is stored, where the contents are told: its metadata, each chunk, and so each element
abbrev pub StoresGiven : GivenArray → Option Contents → Type 0
StoresGiven a None = Unit {0}
StoresGiven a (Some held) = (held (metadata_key_of a.name) ≡ Some (metadata_text a.layout)) × HoldsChunks a (Some held) (chunks_in a) × HasGivenElements a held

-- the premise: each late put on a key of the array carries its one value
abbrev pub IsArrayCalm : GivenArray → List Write → Type 0
IsArrayCalm a late = (key bytes : List ℕ) → IsAmong late key bytes → IsArrayKey a key → ArrayPut a key (Some bytes)

-- The keys that are asked for were absent, and nothing but the array's values and puts that were late has landed. The metadata is held,
-- and where the premise holds, the array is stored.
pub record IsArrayStored (a : GivenArray) (old new : Shown) : Type 0 where
  pub free : AreFree a.name old.held
  pub step : Stepped (ArrayPut a) old new
  pub metadata : Holds new.held (metadata_key_of a.name) (metadata_text a.layout)
  pub stores : IsArrayCalm a old.late → StoresGiven a new.held

-- The calls for this key failed: that of a chunk, where the chunks up to it alone were written, or that of the metadata, which is written
-- where all chunks are held.
abbrev pub IsPutFault : GivenArray → Shown → Shown → List ℕ → Type 0
IsPutFault a old new key =
    ((k : ℕ) × (k < chunks_in a) × (key ≡ key_of_chunk a k) × Stepped (ChunksPut a (k + 1)) old new × (IsArrayCalm a old.late → HoldsChunks a new.held k))
    ⊎ ((key ≡ metadata_key_of a.name) × Stepped (ArrayPut a) old new × (IsArrayCalm a old.late → HoldsChunks a new.held (chunks_in a)))

-- Memory was wanted for a key: the chunks before it alone were written and are held, and it was not put; or a call failed, whose put may
-- have landed, and the calls for some key ended so.
abbrev pub IsPutWanting : GivenArray → Shown → Shown → Type 0
IsPutWanting a old new =
    ((n : ℕ) × (n ≤ chunks_in a) × Stepped (ChunksPut a n) old new × (IsArrayCalm a old.late → HoldsChunks a new.held n))
    ⊎ (Rose 1 old.faults new.faults × ((key : List ℕ) × IsPutFault a old new key))

-- why storing ends: the count of the depot's faults rose so often, or the depot lacks memory
abbrev pub IsStoreFault : ℕ → GivenArray → Shown → Shown → Status → Type 0
IsStoreFault tries a old new (DepotFailed key) = Rose tries old.faults new.faults × IsPutFault a old new key
IsStoreFault tries a old new NoMemory = IsTrue new.lacks × IsPutWanting a old new
IsStoreFault tries a old new status = ⊥

-- ---- the report

-- `ok elements=E chunks=C`, with a line feed
unfoldable pub load_line : GivenArray → List ℕ
load_line a = codes "ok elements=" ++ decimal (product a.layout.shape) ++ codes " chunks=" ++ decimal (chunks_in a) ++ 10 ∷ []

-- a front of the line was written
abbrev pub WrotePart : GivenArray → Option (List ℕ) → Option (List ℕ) → Type 0
WrotePart a front back = (n : ℕ) × (n ≤ length (load_line a)) × WroteFront front back (load_line a) n

-- ---- what storing an array that was read answers, and what it leaves

abbrev pub Stored : ℕ → GivenArray → Seen → Seen → Status → Type 0
Stored retries a old new Done = IsArrayStored a old.depot new.depot × WroteFront old.out.told new.out.told (load_line a) (length (load_line a))
Stored retries a old new WriteFault = Rose 1 old.out.faults new.out.faults × IsArrayStored a old.depot new.depot × WrotePart a old.out.told new.out.told
Stored retries a old new (Exists key) = IsAskedFor a.name old.depot.held key × IsHeldIn new.depot.held key × WroteNothing old new
Stored retries a old new (DepotFailed key) = Rose (retries + 1) old.depot.faults new.depot.faults × (new.out.told ≡ old.out.told)
    × ((IsAskedFor a.name old.depot.held key × Stepped NoChange old.depot new.depot) ⊎ (AreFree a.name old.depot.held × IsPutFault a old.depot new.depot key))
Stored retries a old new NoMemory = (new.out.told ≡ old.out.told)
    × (Stepped NoChange old.depot new.depot ⊎ (AreFree a.name old.depot.held × IsTrue new.depot.lacks × IsPutWanting a old.depot new.depot))
Stored retries a old new status = ⊥

-- ---- the call

-- the text that was read says an array, with a fact of it
pub record ReadsArray (src next : Option (List ℕ)) (fact : GivenArray → Type 0) : Type 0 where
  pub text : List ℕ
  pub read : ReadsAll src next text
  pub array : GivenArray
  pub gives : load_of text ≡ Ok array
  pub is_so : fact array

-- the text that was read says none, for the reason with this code
pub record ReadsNone (src next : Option (List ℕ)) (code : ℕ) : Type 0 where
  pub text : List ℕ
  pub read : ReadsAll src next text
  pub refused : load_of text ≡ Err code

abbrev pub Loaded : ℕ → Stream → Stream → Seen → Seen → Status → Type 0
Loaded retries src next old new ReadFault = Rose 1 src.faults next.faults × WroteNothing old new
Loaded retries src next old new (BadLoad code) = ReadsNone src.told next.told code × WroteNothing old new
Loaded retries src next old new NoMemory = WroteNothing old new ⊎ ReadsArray src.told next.told (λ a. Stored retries a old new NoMemory)
Loaded retries src next old new Done = ReadsArray src.told next.told (λ a. Stored retries a old new Done)
Loaded retries src next old new WriteFault = ReadsArray src.told next.told (λ a. Stored retries a old new WriteFault)
Loaded retries src next old new (Exists key) = ReadsArray src.told next.told (λ a. Stored retries a old new (Exists key))
Loaded retries src next old new (DepotFailed key) = ReadsArray src.told next.told (λ a. Stored retries a old new (DepotFailed key))
Loaded retries src next old new status = ⊥

-- No call was made where the text says no array. Else each of the three keys that are asked for, each chunk and the metadata was called for
-- once, and again at most `retries` times.
abbrev pub LoadsWithin : ℕ → Option (List ℕ) → Option (List ℕ) → Shown → Shown → Type 0
LoadsWithin retries src next old new =
    WithinCalls 0 old new ⊎ ReadsArray src next (λ a. WithinCalls ((chunks_in a + 4) * (retries + 1)) old new)

-- The same keys: one call for each at most, and beyond these no more than failed.
abbrev pub LoadsOnce : Option (List ℕ) → Option (List ℕ) → Shown → Shown → Type 0
LoadsOnce src next old new = WithinCalls 0 old new ⊎ ReadsArray src next (λ a. OnceEach (chunks_in a + 4) old new)

-- ---- what the parts of the call rest on

-- the bytes of the elements, one after another, the lowest byte of each first
pub record HasBytes (t : Dtype) (elements : List ℤ) (bytes : List ℕ) : Type 0 where
  pub long : length bytes ≡ length elements * size_of t
  pub parts : (p : ℕ) (x : ℤ) → slice_get elements p ≡ Some x → part_at (size_of t) bytes p ≡ element_bytes Little t x

-- a value of the array that was held is held
abbrev pub ValuesStay : GivenArray → Option Contents → Option Contents → Type 0
ValuesStay a old new = (key bytes : List ℕ) → ArrayPut a key (Some bytes) → Holds old key bytes → Holds new key bytes
