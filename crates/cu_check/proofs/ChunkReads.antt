-- What a chunk that was read says of what was held at an earlier moment, and why reading one ends.
use Rattle.std.proofs.Common.{◌≡◌, ◌≢◌, ℕ, ◌+◌, ◌<◌, ◌≤◌, List, Option, Some, sym, ap, ◌∙◌, subst, inl, inr, arith}
use Rattle.cu_num.specs.Element.{element_at}
use Rattle.cu_num.specs.declared.layout.Endian.TheVariants.{Little}
use Rattle.cu_num.proofs.ElementBytes.{element_at_same}
use Rattle.cu_shape.specs.Index.{product, place_of, index_at, quotients, remainders, IsInside}
use Rattle.cu_shape.proofs.Places.{index-place, place-index, place-below}
use Rattle.cu_grid.specs.Counts.{counts_of}
use Rattle.cu_grid.specs.Grid.{IsGrid, coordinate_of}
use Rattle.cu_grid.proofs.Parting.{has_coordinate}
use Rattle.cu_op.specs.declared.layout.ArrayInfo.{ArrayInfo}
use Rattle.cu_expr.specs.declared.inputs.InputInfo.{InputInfo}
use Rattle.cu_store.specs.Faults.{Rose}
use Rattle.cu_store.specs.Held.{Contents, Write}
use Rattle.cu_store.specs.Steps.{Shown, NoChange}
use Rattle.cu_region.specs.Reading.{key_at, HasChunk}
use Rattle.cu_region.specs.Steady.{IsSteady}
use Rattle.cu_region.proofs.SteadyKeys.{same_or_not}
use Rattle.cu_command.specs.Chunks.{HasHeldChunk, IsChunkFault}
use Rattle.cu_command.specs.Seen.{Stepped}
use Rattle.cu_command.specs.declared.status.Status.{Status}
use Rattle.cu_command.specs.declared.status.Status.TheVariants.{BadChunk, DepotFailed, NoMemory}
use Rattle.cu_check.specs.Arrays.{IsOwnTurn}
use Rattle.cu_check.specs.Chunks.{input_of, IsPlaced, HasChunksBelow, HasAllSteady}

-- ---- chunk after chunk

-- an index of chunk number n
number_of : (a : InputInfo) (n : ℕ) (idx : List ℕ) → n < product (counts_of a.layout.grid.shape a.layout.grid.chunk) → quotients idx a.layout.grid.chunk ≡ coordinate_of a.layout.grid n
    → place_of (counts_of a.layout.grid.shape a.layout.grid.chunk) (quotients idx a.layout.grid.chunk) ≡ n
number_of a n idx below here =
    ap (place_of (counts_of a.layout.grid.shape a.layout.grid.chunk)) here ∙ place-index (counts_of a.layout.grid.shape a.layout.grid.chunk) n below

-- an index of no other number
other_number : (a : InputInfo) (n : ℕ) (idx : List ℕ) → IsGrid a.layout.grid → IsInside a.layout.grid.shape idx → quotients idx a.layout.grid.chunk ≢ coordinate_of a.layout.grid n
    → place_of (counts_of a.layout.grid.shape a.layout.grid.chunk) (quotients idx a.layout.grid.chunk) ≢ n
other_number a n idx ok inside apart same =
    apart (sym (index-place (counts_of a.layout.grid.shape a.layout.grid.chunk) (quotients idx a.layout.grid.chunk) (has_coordinate a.layout.grid idx ok inside))
    ∙ ap (index_at (counts_of a.layout.grid.shape a.layout.grid.chunk)) same)

told_chunk : (info : ArrayInfo) (coord buf : List ℕ) (entry : Shown) (held : Contents) → entry.held ≡ Some held
    → (IsSteady (λ key. key ≡ key_at info coord) entry.held entry.late → HasChunk info coord entry.held buf)
    → IsSteady (λ key. key ≡ key_at info coord) (Some held) entry.late → HasChunk info coord (Some held) buf
told_chunk info coord buf entry held told has steady =
    subst (λ (o : Option Contents). HasChunk info coord o buf) told
    (has (subst (λ (o : Option Contents). IsSteady (λ key. key ≡ key_at info coord) o entry.late) (sym told) steady))

-- a steady key in other words
pub steady_as : (key other : List ℕ) (held : Contents) (late : List Write) → other ≡ key → IsSteady (λ k. k ≡ key) (Some held) late → IsSteady (λ k. k ≡ other) (Some held) late
steady_as key other held late same steady = subst (λ (k : List ℕ). IsSteady (λ l. l ≡ k) (Some held) late) (sym same) steady

-- one more chunk
pub numbered : (info : ArrayInfo) (n : ℕ) (buf old new : List ℕ) (now entry : Shown) → IsGrid info.layout.grid
    → HasHeldChunk info (coordinate_of info.layout.grid n) now buf → IsPlaced info.layout (coordinate_of info.layout.grid n) buf old new → Stepped NoChange entry now
    → HasChunksBelow (input_of info) old n entry → HasChunksBelow (input_of info) new (n + 1) entry
numbered info n buf old new now entry ok has placed step before idx inside below held told steady =
    elim (same_or_not (quotients idx info.layout.grid.chunk) (coordinate_of info.layout.grid n)) [
      | inl here ↦ told_chunk info (coordinate_of info.layout.grid n) buf entry held told (has entry step) (steady_as _ _ held entry.late (ap (key_at info) (sym here)) steady) idx inside here
          ∙ ap Some (sym (element_at_same Little info.layout.dtype new buf (place_of info.layout.grid.shape idx) (place_of info.layout.grid.chunk (remainders idx info.layout.grid.chunk)) (placed.own idx inside here)))
      | inr apart ↦
          let other = other_number (input_of info) n idx ok inside apart in
          before idx inside (omega arith) held told steady
          ∙ ap Some (sym (element_at_same Little info.layout.dtype new old (place_of info.layout.grid.shape idx) (place_of info.layout.grid.shape idx) (placed.others idx inside apart)))
    ]

-- no chunk
pub none_below : (a : InputInfo) (bytes : List ℕ) (entry : Shown) → HasChunksBelow a bytes 0 entry
none_below a bytes entry idx inside below = absurd (omega arith)

-- all chunks
pub all_below : (a : InputInfo) (bytes : List ℕ) (n : ℕ) (entry : Shown) → IsGrid a.layout.grid → product (counts_of a.layout.grid.shape a.layout.grid.chunk) ≤ n
    → HasChunksBelow a bytes n entry → HasAllSteady a bytes entry
all_below a bytes n entry ok all has idx inside =
    let below = place-below (counts_of a.layout.grid.shape a.layout.grid.chunk) (quotients idx a.layout.grid.chunk) (has_coordinate a.layout.grid idx ok inside) in
    has idx inside (omega arith)

-- ---- a chunk's turn

rose_since : (tries a b c : ℕ) → a ≤ b → Rose tries b c → Rose tries a c
rose_since tries a b c first rose = omega arith

own_turn : (info : ArrayInfo) (n : ℕ) (bytes : List ℕ) (entry : Shown) (key : List ℕ) → n < product (counts_of info.layout.grid.shape info.layout.grid.chunk)
    → HasChunksBelow (input_of info) bytes n entry → key ≡ key_at info (coordinate_of info.layout.grid n) → IsOwnTurn entry (input_of info) key
own_turn info n bytes entry key below has is = record {
  number = n;
  below = below;
  key = is;
  there = λ m less held told steady idx inside here. (
    element_at Little info.layout.dtype bytes (place_of info.layout.grid.shape idx),
    has idx inside (let at = number_of (input_of info) m idx (omega arith) here in omega arith) held told (steady_as _ _ held entry.late (ap (key_at info) here) steady),
  );
}

pub turn_fault : (tries : ℕ) (info : ArrayInfo) (n : ℕ) (bytes : List ℕ) (first old new entry : Shown) (status : Status) → n < product (counts_of info.layout.grid.shape info.layout.grid.chunk)
    → first.faults ≤ old.faults → HasChunksBelow (input_of info) bytes n entry
    → IsChunkFault tries old new info.layout (λ key. key ≡ key_at info (coordinate_of info.layout.grid n)) status → IsChunkFault tries first new info.layout (IsOwnTurn entry (input_of info)) status
turn_fault tries info n bytes first old new entry (DepotFailed key) below count has fault = (own_turn info n bytes entry key below has fault.0, rose_since tries first.faults old.faults new.faults count fault.1)
turn_fault tries info n bytes first old new entry (BadChunk key got want) below count has fault = (own_turn info n bytes entry key below has fault.0, fault.1, fault.2, fault.3)
turn_fault tries info n bytes first old new entry NoMemory below count has fault = tt
turn_fault tries info n bytes first old new entry status below count has fault = absurd fault
