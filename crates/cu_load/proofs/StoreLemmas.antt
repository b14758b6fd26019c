-- What stands in the depot while an array is stored.
use Rattle.std.proofs.Common.{◌≡◌, ℕ, ◌+◌, ◌<◌, ◌≤◌, ◌^◌, ℤ, pos, List, length, get_or, All, Option, Some, None, refl, sym, ap, ◌∙◌, subst, ◌⊎◌, inl, inr, arith, below_more}
use Rattle.std.proofs.lemmas.Option.{slice_get-get_or}
use Rattle.cu_num.specs.Dtype.{InRange}
use Rattle.cu_shape.specs.Index.{place_of, quotients, IsInside}
use Rattle.cu_shape.proofs.Places.{place-index, index-place, place-below, inside-length, length-index_at}
use Rattle.cu_grid.specs.Grid.{IsGrid}
use Rattle.cu_grid.proofs.Parting.{has_coordinate, inner_inside}
use Rattle.cu_codec.proofs.KeyLaws.{same_chunk, chunk_not_metadata}
use Rattle.cu_store.specs.Faults.{Rose}
use Rattle.cu_store.specs.Held.{Contents, Write, Holds}
use Rattle.cu_store.specs.Steps.{Shown, NoChange, Within, PutOf, OrLate, IsChangedBy, Lands, AllLateIn}
use Rattle.cu_zarr.proofs.Spelled.{spelled_element}
use Rattle.cu_zarr.specs.Key.{chunk_key_of, metadata_key_of}
use Rattle.cu_zarr.specs.Metadata.{metadata_text}
use Rattle.cu_zarr.specs.Spelling.{spelled}
use Rattle.cu_zarr.specs.Stored.{element_in}
use Rattle.cu_command.proofs.SeenLemmas.{stepped_none, stepped_then, stepped_wider}
use Rattle.cu_command.specs.Keys.{IsKeyFault, IsValueUnput}
use Rattle.cu_command.specs.Seen.{Stepped}
use Rattle.cu_command.specs.declared.status.Status.{Status}
use Rattle.cu_command.specs.declared.status.Status.TheVariants.{DepotFailed, NoMemory}
use Rattle.cu_load.proofs.AskLemmas.{rose_earlier}
use Rattle.cu_load.proofs.ChunkLemmas.{small_coord}
use Rattle.cu_load.specs.Load.{given_at, counts_in, chunks_in, given_coord, key_of_chunk, given_chunk, ChunkPut, ChunksPut, ArrayPut, IsArrayKey, IsArrayCalm, IsPutFault, IsPutWanting, IsStoreFault, HasGivenElements, StoresGiven, HoldsChunk, HoldsChunks, ValuesStay}
use Rattle.cu_load.specs.LoadForm.{GivenArray, IsGivenArray}

-- ---- the changes of an array

-- the bytes of a chunk are put, which are its value
pub value_put : (a : GivenArray) (k : ℕ) (key bytes : List ℕ) → key ≡ key_of_chunk a k → given_chunk a k ≡ Some bytes → Within (PutOf key bytes) (ChunkPut a k)
value_put a k key bytes same value other put own = (bytes, value, (own.0 ∙ same, own.1))

pub next_put : (a : GivenArray) (n : ℕ) → Within (ChunkPut a n) (ChunksPut a (n + 1))
next_put a n key value own = (n, omega arith, own)

pub more_put : (a : GivenArray) (n : ℕ) → Within (ChunksPut a n) (ChunksPut a (n + 1))
more_put a n key value (k, below, own) = (k, omega (arith, below), own)

pub chunk_put : (a : GivenArray) (k : ℕ) → k < chunks_in a → Within (ChunkPut a k) (ArrayPut a)
chunk_put a k below key value own = inr (k, below, own)

pub chunks_put : (a : GivenArray) (n : ℕ) → n ≤ chunks_in a → Within (ChunksPut a n) (ArrayPut a)
chunks_put a n small key value (k, below, own) = inr (k, omega (arith, below, small), own)

pub metadata_put : (a : GivenArray) (key bytes : List ℕ) → key ≡ metadata_key_of a.name → bytes ≡ metadata_text a.layout → Within (PutOf key bytes) (ArrayPut a)
metadata_put a key bytes same text other value own = inl (own.0 ∙ same, own.1 ∙ ap (λ (b : List ℕ). Some b) text)

-- ---- each key has one value

small_chunk : (a : GivenArray) (k : ℕ) → IsGivenArray a → k < chunks_in a → All (λ i. i < 2 ^ 64) (given_coord a k)
small_chunk a k ok below = small_coord a k (2 ^ 64) ok (omega arith) below

same_chunk_number : (a : GivenArray) (j k : ℕ) → IsGivenArray a → j < chunks_in a → k < chunks_in a → key_of_chunk a j ≡ key_of_chunk a k → j ≡ k
same_chunk_number a j k ok small_j small_k e =
    let long : length (given_coord a j) ≡ length (given_coord a k) = length-index_at (counts_in a) j ∙ sym (length-index_at (counts_in a) k) in
    let same = same_chunk a.name a.layout.encoding (given_coord a j) (given_coord a k) (small_chunk a j ok small_j) (small_chunk a k ok small_k) long e in
    sym (place-index (counts_in a) j small_j) ∙ ap (place_of (counts_in a)) same ∙ place-index (counts_in a) k small_k

chunk_apart : (a : GivenArray) (k : ℕ) → IsGivenArray a → k < chunks_in a → key_of_chunk a k ≡ metadata_key_of a.name → ⊥
chunk_apart a k ok below e = chunk_not_metadata a.name a.layout.encoding (given_coord a k) (small_chunk a k ok below) e

chunk_value_once : (a : GivenArray) (j k : ℕ) (x y : List ℕ) → j ≡ k → given_chunk a j ≡ Some x → given_chunk a k ≡ Some y → Some x ≡ Some y
chunk_value_once a j k x y number here there = sym here ∙ ap (given_chunk a) number ∙ there

pub one_value : (a : GivenArray) (key : List ℕ) (v w : Option (List ℕ)) → IsGivenArray a → ArrayPut a key v → ArrayPut a key w → v ≡ w
one_value a key v w ok (inl here) (inl there) = here.1 ∙ sym there.1
one_value a key v w ok (inl here) (inr (k, below, (bytes, value, put))) = absurd (chunk_apart a k ok below (sym put.0 ∙ here.0))
one_value a key v w ok (inr (k, below, (bytes, value, put))) (inl there) = absurd (chunk_apart a k ok below (sym put.0 ∙ there.0))
one_value a key v w ok (inr (j, small_j, (x, value_j, put_j))) (inr (k, small_k, (y, value_k, put_k))) =
    put_j.1 ∙ chunk_value_once a j k x y (same_chunk_number a j k ok small_j small_k (sym put_j.0 ∙ put_k.0)) value_j value_k ∙ sym put_k.1

pub array_put_key : (a : GivenArray) (key : List ℕ) (value : Option (List ℕ)) → ArrayPut a key value → IsArrayKey a key
array_put_key a key value (inl here) = inl here.0
array_put_key a key value (inr (k, below, (bytes, is, put))) = inr (k, below, put.0)

-- what may land on a key of the array is its one value
late_value : (a : GivenArray) (late : List Write) (key : List ℕ) (value : Option (List ℕ)) → IsArrayCalm a late → IsArrayKey a key → OrLate (ArrayPut a) late key value → ArrayPut a key value
late_value a late key value calm of_array (inl own) = own
late_value a late key value calm of_array (inr (bytes, is, among)) = subst (λ (v : Option (List ℕ)). ArrayPut a key v) (sym is) (calm key bytes among of_array)

now_value : (a : GivenArray) (late now_late : List Write) (key : List ℕ) (value : Option (List ℕ)) → IsArrayCalm a late → IsArrayKey a key → AllLateIn now_late (OrLate (ArrayPut a) late)
    → OrLate (ArrayPut a) now_late key value → ArrayPut a key value
now_value a late now_late key value calm of_array stay (inl own) = own
now_value a late now_late key value calm of_array stay (inr (bytes, is, among)) = subst (λ (v : Option (List ℕ)). ArrayPut a key v) (sym is) (late_value a late key (Some bytes) calm of_array (stay key bytes among))

stays_at : (a : GivenArray) (late now_late : List Write) (held next : Contents) (key bytes : List ℕ) → IsGivenArray a → IsArrayCalm a late → AllLateIn now_late (OrLate (ArrayPut a) late)
    → ArrayPut a key (Some bytes) → held key ≡ Some bytes → IsChangedBy (OrLate (ArrayPut a) now_late) held next key → next key ≡ Some bytes
stays_at a late now_late held next key bytes ok calm stay write holds (inl same) = same ∙ holds
stays_at a late now_late held next key bytes ok calm stay write holds (inr changed) =
    one_value a key (next key) (Some bytes) ok (now_value a late now_late key (next key) calm (array_put_key a key (Some bytes) write) stay changed) write

-- A value of the array that is held stays held where only the array's values and late puts land.
pub values_stay : (a : GivenArray) (late now_late : List Write) (held next : Option Contents) → IsGivenArray a → IsArrayCalm a late → AllLateIn now_late (OrLate (ArrayPut a) late)
    → Lands (OrLate (ArrayPut a) now_late) held next → ValuesStay a held next
values_stay a late now_late None None ok calm stay lands key bytes write holds = tt
values_stay a late now_late None (Some next) ok calm stay lands key bytes write holds = absurd lands
values_stay a late now_late (Some held) None ok calm stay lands key bytes write holds = tt
values_stay a late now_late (Some held) (Some next) ok calm stay lands key bytes write holds = stays_at a late now_late held next key bytes ok calm stay write holds (lands key)

stored_stays : (a : GivenArray) (held next : Option Contents) (k : ℕ) → k < chunks_in a → ValuesStay a held next → HoldsChunk a held k → HoldsChunk a next k
stored_stays a held next k below stays (bytes, value, holds) = (bytes, value, stays (key_of_chunk a k) bytes (chunk_put a k below (key_of_chunk a k) (Some bytes) (bytes, value, (refl, refl))) holds)

pub more_stored : (a : GivenArray) (held next : Option Contents) (n : ℕ) → n < chunks_in a → ValuesStay a held next
    → HoldsChunks a held n → HoldsChunk a next n → HoldsChunks a next (n + 1)
more_stored a held next n below stays so_far here =
    below_more _ _ (λ k earlier. stored_stays a held next k (omega (arith, below, earlier)) stays (so_far k earlier)) here

pub some_stay : (a : GivenArray) (held next : Option Contents) (n : ℕ) → n ≤ chunks_in a → ValuesStay a held next → HoldsChunks a held n → HoldsChunks a next n
some_stay a held next n few stays stored k below = stored_stays a held next k (omega (arith, few, below)) stays (stored k below)

pub all_stay : (a : GivenArray) (held next : Option Contents) → ValuesStay a held next → HoldsChunks a held (chunks_in a) → HoldsChunks a next (chunks_in a)
all_stay a held next stays stored k below = stored_stays a held next k below stays (stored k below)

-- ---- the stored array

pub stores_given : (a : GivenArray) (held : Option Contents) → IsGivenArray a → IsGrid (record { shape = a.layout.shape; chunk = a.layout.chunk })
    → Holds held (metadata_key_of a.name) (metadata_text a.layout) → HoldsChunks a held (chunks_in a) → StoresGiven a held
stores_given a None ok grid metadata stored = tt
stores_given a (Some held) ok grid metadata stored = (metadata, stored, elements)
  where
    elements : HasGivenElements a held
    elements idx inside =
        let here : IsInside (counts_in a) (quotients idx a.layout.chunk) = has_coordinate (record { shape = a.layout.shape; chunk = a.layout.chunk }) idx grid inside in
        let again : given_coord a (place_of (counts_in a) (quotients idx a.layout.chunk)) ≡ quotients idx a.layout.chunk = index-place (counts_in a) (quotients idx a.layout.chunk) here in
        let (bytes, value, there) = stored (place_of (counts_in a) (quotients idx a.layout.chunk)) (place-below (counts_in a) (quotients idx a.layout.chunk) here) in
        let spells : spelled a.layout (given_at a) (quotients idx a.layout.chunk) ≡ Some bytes = subst (λ (c : List ℕ). spelled a.layout (given_at a) c ≡ Some bytes) again value in
        let holds : held (chunk_key_of a.name a.layout.encoding (quotients idx a.layout.chunk)) ≡ Some bytes =
        subst (λ (c : List ℕ). held (chunk_key_of a.name a.layout.encoding c) ≡ Some bytes) again there in
        let rank : length idx ≡ length a.layout.chunk = inside-length a.layout.shape idx inside ∙ sym grid.ranks in
        let inner = inner_inside (record { shape = a.layout.shape; chunk = a.layout.chunk }) idx grid inside in
        let below : place_of a.layout.shape idx < length a.elements = rw ok.count (place-below a.layout.shape idx inside) in
        let x : ℤ = get_or a.elements (place_of a.layout.shape idx) (pos 0) in
        let is : given_at a idx ≡ Some x = slice_get-get_or a.elements (place_of a.layout.shape idx) (pos 0) below in
        let range : InRange a.layout.dtype x = ok.elements (place_of a.layout.shape idx) (pos 0) below in (
          x,
          is,
          ap (λ (v : Option (List ℕ)). element_in a.layout v idx) holds ∙ spelled_element a.layout (given_at a) idx bytes x spells rank inner inside is range,
        )

-- ---- why storing ends

-- memory was wanted for a key behind so many chunks, for which nothing was put, or a call failed
wanting : (a : GivenArray) (n : ℕ) (key : List ℕ) (old mid new : Shown) → n ≤ chunks_in a → Stepped (ChunksPut a n) old mid → Stepped NoChange mid new ⊎ Rose 1 mid.faults new.faults
    → (IsArrayCalm a old.late → HoldsChunks a new.held n) → IsPutFault a old new key → IsPutWanting a old new
wanting a n key old mid new few earlier (inl quiet) before fault = inl (n, few, stepped_then earlier (stepped_none quiet), before)
wanting a n key old mid new few earlier (inr rose) before fault = inr (rose_earlier 1 old.faults mid.faults new.faults earlier.step.count rose, (key, fault))

-- the calls for a chunk failed
pub chunk_fault : (tries : ℕ) (a : GivenArray) (k : ℕ) (old mid new : Shown) (status : Status)
    → k < chunks_in a → Stepped (ChunksPut a k) old mid → Stepped (ChunkPut a k) mid new → (IsArrayCalm a old.late → HoldsChunks a new.held k)
    → IsKeyFault tries mid.faults new.faults new.lacks (key_of_chunk a k) status → IsValueUnput mid new status → IsStoreFault tries a old new status
chunk_fault tries a k old mid new status below earlier step before = ended status
  where
    whole : Stepped (ChunksPut a (k + 1)) old new
    whole = stepped_then (stepped_wider (more_put a k) earlier) (stepped_wider (next_put a k) step)

    ended : (status : Status) → IsKeyFault tries mid.faults new.faults new.lacks (key_of_chunk a k) status → IsValueUnput mid new status → IsStoreFault tries a old new status
    ended (DepotFailed key) fault unput = (rose_earlier tries old.faults mid.faults new.faults earlier.step.count fault.1, inl (k, below, fault.0, whole, before))
    ended NoMemory fault unput = (fault, wanting a k (key_of_chunk a k) old mid new (omega (arith, below)) earlier unput before (inl (k, below, refl, whole, before)))
    ended status fault unput = absurd fault

-- those for the metadata failed
pub metadata_fault : (tries : ℕ) (a : GivenArray) (key : List ℕ) (old mid new : Shown) (status : Status)
    → key ≡ metadata_key_of a.name → Stepped (ChunksPut a (chunks_in a)) old mid → Stepped (ArrayPut a) old new → (IsArrayCalm a old.late → HoldsChunks a new.held (chunks_in a))
    → IsKeyFault tries mid.faults new.faults new.lacks key status → IsValueUnput mid new status → IsStoreFault tries a old new status
metadata_fault tries a key old mid new (DepotFailed other) same earlier step chunks fault unput =
    (rose_earlier tries old.faults mid.faults new.faults earlier.step.count fault.1, inr (fault.0 ∙ same, step, chunks))
metadata_fault tries a key old mid new NoMemory same earlier step chunks fault unput =
    (fault, wanting a (chunks_in a) (metadata_key_of a.name) old mid new (omega arith) earlier unput chunks (inr (refl, step, chunks)))
metadata_fault tries a key old mid new status same earlier step chunks fault unput = absurd fault
