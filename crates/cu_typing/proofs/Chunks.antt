-- The chunk shape that arrays make together has a size above 0 for each axis.
use Rattle.std.proofs.Common.{◌≡◌, ℕ, ◌-◌, ◌<◌, ◌≤◌, true, List, [], ◌∷◌, length, get_or, All, arith, inl, inr}
use Rattle.std.proofs.lemmas.Bool.{cases_Bool, and_parts, leb-true}
use Rattle.std.proofs.lemmas.List.Elements.{All-head, All-tail, All-from_get_or, All-get_or}
use Rattle.std.proofs.lemmas.List.FromFn.{get_or-map-range_with_len, length-map-range_with_len}
use Rattle.cu_node.specs.Info.{IsInfo}
use Rattle.cu_node.specs.declared.info.NodeInfo.{NodeInfo}
use Rattle.cu_typing.specs.Joined.{lead_of, fills, joined_chunk_on, joined_chunk, aligned_on, aligned_chunk}

-- an array has a chunk size above 0 for each of its axes
pub record HasChunks (i : NodeInfo) : Type 0 where
  pub ranks : length i.chunk ≡ length i.dims
  pub positive : All (λ c. 0 < c) i.chunk

pub has_chunks : (i : NodeInfo) → IsInfo i → HasChunks i
has_chunks i h = record { ranks = h.ranks; positive = h.positive }

own_positive : (i : NodeInfo) (k : ℕ) → HasChunks i → k < length i.dims → 0 < get_or i.chunk k 0
own_positive i k h l = All-get_or (λ (c : ℕ). 0 < c) i.chunk k 0 (let e = h.ranks in omega arith) h.positive

-- an axis that an array fills is one of its own
filled_inside : (shape : List ℕ) (i : NodeInfo) (axis : ℕ) → axis < length shape → fills shape i axis ≡ true → axis - lead_of shape i < length i.dims
filled_inside shape i axis l h = let w : lead_of shape i ≤ axis = leb-true _ _ (and_parts _ _ h).0 in omega arith

pub chunk_on_positive : (shape : List ℕ) (is : List NodeInfo) (axis : ℕ) → All HasChunks is → axis < length shape → 0 < joined_chunk_on shape is axis
chunk_on_positive shape [] axis h l = omega arith
chunk_on_positive shape (i ∷ is) axis h l =
    elim (cases_Bool (fills shape i axis)) [
      | inl filled ↦ rw filled (own_positive i (axis - lead_of shape i) (All-head HasChunks i is h) (filled_inside shape i axis l filled))
      | inr other ↦ rw other (chunk_on_positive shape is axis (All-tail HasChunks i is h) l)
    ]

pub joined_chunk-positive : (shape : List ℕ) (is : List NodeInfo) → All HasChunks is → All (λ c. 0 < c) (joined_chunk shape is)
joined_chunk-positive shape is h =
    All-from_get_or (λ (c : ℕ). 0 < c) (joined_chunk shape is) 0
    (λ k l. let b : k < length shape = let e = length-map-range_with_len (joined_chunk_on shape is) 0 (length shape) in omega arith in
    rw (get_or-map-range_with_len (joined_chunk_on shape is) 0 (length shape) k k 0 b (omega arith)) (chunk_on_positive shape is k h b))

pub length-joined_chunk : (shape : List ℕ) (is : List NodeInfo) → length (joined_chunk shape is) ≡ length shape
length-joined_chunk shape is = length-map-range_with_len (joined_chunk_on shape is) 0 (length shape)

-- so has an aligned chunk
pub length-aligned_chunk : (shape chunk : List ℕ) (i : NodeInfo) → length (aligned_chunk shape chunk i) ≡ length i.dims
length-aligned_chunk shape chunk i = length-map-range_with_len (aligned_on shape chunk i) 0 (length i.dims)
