-- A region that is read chunk by chunk, in the order of the chunks.
use Rattle.std.proofs.Common.{◌≡◌, ◌≢◌, ◌⊎◌, ℕ, suc, ◌+◌, ◌<◌, List, [], ◌∷◌, map, get_or, Contains, Option, Some, None, inl, inr, sym, ap, ◌∙◌, subst, arith}
use Rattle.std.specs.List.Sorted.{IsStrictlyIncreasing}
use Rattle.std.proofs.lemmas.List.{get_or-map, length-map}
use Rattle.std.proofs.lemmas.List.Kept.{AllPairs-from_increasing}
use Rattle.cu_num.specs.Dtype.{size_of}
use Rattle.cu_num.specs.declared.layout.Endian.TheVariants.{Little}
use Rattle.cu_num.proofs.ElementBytes.{element_at_same}
use Rattle.cu_shape.specs.Index.{place_of, axis_by_axis, quotients, remainders}
use Rattle.cu_shape.proofs.Places.{inside-length}
use Rattle.std.specs.Prelude.{max}
use Rattle.cu_grid.specs.Counts.{counts_of, chunk_lo, IsRegion, IsWithin}
use Rattle.cu_grid.specs.Cover.{Meets}
use Rattle.cu_grid.specs.Grid.{RegularGrid, IsGrid, IsCoordinate}
use Rattle.cu_grid.specs.declared.region.Region.{Region}
use Rattle.cu_grid.proofs.Meeting.{within_of}
use Rattle.cu_grid.proofs.Parting.{has_coordinate, only_chunk}
use Rattle.cu_grid.proofs.Regions.{coordinate-length}
use Rattle.cu_codec.specs.Parts.{part_at, place_within}
use Rattle.cu_codec.proofs.Taken.{region_in_array}
use Rattle.cu_op.specs.declared.layout.ArrayInfo.{ArrayInfo}
use Rattle.cu_store.specs.Held.{Contents}
use Rattle.cu_store.specs.Steps.{Shown, NoChange}
use Rattle.cu_region.specs.Reading.{key_at, HasChunk, HasChunkPart, IsStoredAt}
use Rattle.cu_region.specs.Steady.{IsSteady}
use Rattle.cu_region.proofs.SteadyKeys.{same_or_not, first_or_rest, none_contained}
use Rattle.cu_command.proofs.SeenLemmas.{stepped_then}
use Rattle.cu_command.specs.Seen.{Stepped}
use Rattle.cu_print.specs.Bands.{IsBandKey, HasFirst, IsBandUnread}
use Rattle.cu_print.specs.Runs.{IsReadEnd}
use Rattle.cu_print.specs.declared.reads.Unread.{Unread}
use Rattle.cu_print.proofs.ChunkReads.{end_since}
use Rattle.cu_print.proofs.First.{Ranks, first_within, earlier}

-- ---- one chunk

pub part_of : (info : ArrayInfo) (coord : List ℕ) (r : Region) (buf new : List ℕ) (held : Option Contents) → IsGrid info.layout.grid → IsRegion info.layout.grid.shape r.lo r.hi
    → HasChunk info coord held buf
    → ((idx : List ℕ) → IsWithin r.lo r.hi idx → quotients idx info.layout.grid.chunk ≡ coord
    → part_at (size_of info.layout.dtype) new (place_within r.lo r.hi idx) ≡ part_at (size_of info.layout.dtype) buf (place_of info.layout.grid.chunk (remainders idx info.layout.grid.chunk)))
    → HasChunkPart info coord r.lo r.hi held new
part_of info coord r buf new None ok region has took = λ idx w here. tt
part_of info coord r buf new (Some held) ok region has took = λ idx w here.
    has idx (region_in_array info.layout.grid.shape r.lo r.hi idx region w) here
    ∙ ap Some (sym (element_at_same Little info.layout.dtype new buf (place_within r.lo r.hi idx) (place_of info.layout.grid.chunk (remainders idx info.layout.grid.chunk)) (took idx w here)))

-- an element that was read stays where its bytes do
stays : (info : ArrayInfo) (r : Region) (idx old new : List ℕ) (held : Option Contents)
    → part_at (size_of info.layout.dtype) new (place_within r.lo r.hi idx) ≡ part_at (size_of info.layout.dtype) old (place_within r.lo r.hi idx)
    → IsStoredAt info r.lo r.hi held old idx → IsStoredAt info r.lo r.hi held new idx
stays info r idx old new None same stored = tt
stays info r idx old new (Some held) same stored =
    stored ∙ ap Some (sym (element_at_same Little info.layout.dtype new old (place_within r.lo r.hi idx) (place_within r.lo r.hi idx) same))

-- ---- several chunks

-- each element of the region has its chunk among those that are left, or was read
abbrev pub ReadsLeft : ArrayInfo → Region → Shown → List (List ℕ) → List ℕ → Type 0
ReadsLeft info r shown left out = (entry : Shown) → Stepped NoChange entry shown → (idx : List ℕ) → IsWithin r.lo r.hi idx → IsSteady (IsBandKey info idx) entry.held entry.late
    → Contains left (quotients idx info.layout.grid.chunk) ⊎ IsStoredAt info r.lo r.hi entry.held out idx

pub reads_more : (info : ArrayInfo) (r : Region) (coord old new : List ℕ) (rest : List (List ℕ)) (first now : Shown) → Stepped NoChange first now
    → ((entry : Shown) → Stepped NoChange entry now → IsSteady (λ key. key ≡ key_at info coord) entry.held entry.late → HasChunkPart info coord r.lo r.hi entry.held new)
    → ((idx : List ℕ) → IsWithin r.lo r.hi idx → quotients idx info.layout.grid.chunk ≢ coord
    → part_at (size_of info.layout.dtype) new (place_within r.lo r.hi idx) ≡ part_at (size_of info.layout.dtype) old (place_within r.lo r.hi idx))
    → ReadsLeft info r first (coord ∷ rest) old → ReadsLeft info r first rest new
reads_more info r coord old new rest first now then part others before entry step idx w steady =
    elim (same_or_not (quotients idx info.layout.grid.chunk) coord) [
      | inl here ↦ inr (part entry (stepped_then step then) (subst (λ (x : List ℕ). IsSteady (λ key. key ≡ key_at info x) entry.held entry.late) here steady) idx w here)
      | inr apart ↦ elim (before entry step idx w steady) [
        | inl left ↦ elim (first_or_rest coord rest (quotients idx info.layout.grid.chunk) left) [ inl here ↦ absurd (apart here) | inr later ↦ inl later ]
        | inr stored ↦ inr (stays info r idx old new entry.held (others idx w apart) stored)
      ]
    ]

pub all_read : (info : ArrayInfo) (r : Region) (shown : Shown) (n : ℕ) (out : List ℕ) → ReadsLeft info r shown [] out → HasFirst info r shown n out
all_read info r shown n out reads entry step idx w below steady =
    elim (reads entry step idx w steady) [ inl left ↦ absurd (none_contained (quotients idx info.layout.grid.chunk) left) | inr stored ↦ stored ]

-- ---- their order

pub increasing_rest : (n : ℕ) (ns : List ℕ) → IsStrictlyIncreasing (n ∷ ns) → IsStrictlyIncreasing ns
increasing_rest n ns up k below = let e : suc k + 1 ≡ suc (k + 1) = omega arith in subst (λ m. get_or ns k 0 < get_or (n ∷ ns) m 0) e (up (suc k) (omega arith))

later_of : (f : List ℕ → ℕ) (x : List ℕ) (xs : List (List ℕ)) (y : List ℕ) → IsStrictlyIncreasing (map f (x ∷ xs)) → Contains xs y → f x < f y
later_of f x xs y up (k, below, is) =
    let long = length-map xs f in
    let same : get_or (map f xs) k 0 ≡ f y = get_or-map f xs k y 0 below ∙ ap f is in
    let pairs : f x < get_or (map f xs) k 0 = AllPairs-from_increasing (map f (x ∷ xs)) up 0 (suc k) 0 (omega arith) (omega arith) in
    omega arith

-- the first index of the region that lies in a chunk
abbrev pub first_of : ArrayInfo → Region → List ℕ → List ℕ
first_of info r coord = axis_by_axis max (chunk_lo info.layout.grid.chunk coord) r.lo

ranks_of : (g : RegularGrid) (lo hi coord idx : List ℕ) → IsGrid g → IsRegion g.shape lo hi → IsCoordinate g coord → IsWithin lo hi idx
    → Ranks g.shape (counts_of g.shape g.chunk) g.chunk lo hi coord idx
ranks_of g lo hi coord idx ok region here w =
    let inside = inside-length g.shape idx (region_in_array g.shape lo hi idx region w) in
    let chunks = inside-length (counts_of g.shape g.chunk) coord here in
    let long = coordinate-length g coord ok here in
    let both = within_of lo hi idx w in
    let same = ok.ranks in
    record { shape = omega arith; counts = omega arith; chunk = omega arith; lo = both.lo_rank; hi = both.hi_rank; coord = omega arith }

-- the elements before the first one of a chunk were read, where the chunks before it were
pub front_read : (info : ArrayInfo) (r : Region) (coord : List ℕ) (rest : List (List ℕ)) (shown : Shown) (out : List ℕ) → IsGrid info.layout.grid → IsRegion info.layout.grid.shape r.lo r.hi
    → Meets info.layout.grid r.lo r.hi coord → IsStrictlyIncreasing (map (place_of (counts_of info.layout.grid.shape info.layout.grid.chunk)) (coord ∷ rest))
    → ReadsLeft info r shown (coord ∷ rest) out → HasFirst info r shown (place_within r.lo r.hi (first_of info r coord)) out
front_read info r coord rest shown out ok region meets up reads entry step idx w below steady =
    let f = first_within (chunk_lo info.layout.grid.chunk coord) _ r.lo r.hi meets.1.0 meets.1.2 meets.1.1 in
    let own = has_coordinate info.layout.grid idx ok (region_in_array info.layout.grid.shape r.lo r.hi idx region w) in
    let less = earlier info.layout.grid.shape (counts_of info.layout.grid.shape info.layout.grid.chunk) info.layout.grid.chunk r.lo r.hi coord idx (ranks_of info.layout.grid r.lo r.hi coord idx ok region meets.0 w) ok.positive own w f.0 f.1 below in
    elim (reads entry step idx w steady) [
      | inl left ↦ elim (first_or_rest coord rest (quotients idx info.layout.grid.chunk) left) [
        | inl here ↦ absurd (let e = ap (place_of (counts_of info.layout.grid.shape info.layout.grid.chunk)) here in omega arith)
        | inr later ↦ absurd (let more = later_of (place_of (counts_of info.layout.grid.shape info.layout.grid.chunk)) coord rest (quotients idx info.layout.grid.chunk) up later in omega arith)
      ]
      | inr stored ↦ stored
    ]

pub unread_of : (tries : ℕ) (old mid new : Shown) (info : ArrayInfo) (r : Region) (coord : List ℕ) (unread : Unread) → IsGrid info.layout.grid
    → Meets info.layout.grid r.lo r.hi coord → Stepped NoChange old mid → unread.ready ≡ place_within r.lo r.hi (first_of info r coord)
    → IsReadEnd tries mid new info.layout (key_at info coord) unread.status → IsBandUnread tries old new info r unread
unread_of tries old mid new info r coord unread ok meets step ready ended =
    let f = first_within (chunk_lo info.layout.grid.chunk coord) _ r.lo r.hi meets.1.0 meets.1.2 meets.1.1 in
    record {
      idx = first_of info r coord;
      within = f.0;
      place = sym ready;
      ended = end_since tries old mid new info.layout _ unread.status step
          (subst (λ (x : List ℕ). IsReadEnd tries mid new info.layout (key_at info x) unread.status) (only_chunk info.layout.grid coord (first_of info r coord) ok meets.0 f.1) ended);
    }
