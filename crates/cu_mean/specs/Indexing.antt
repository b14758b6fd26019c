-- Indices at which no array is read, and how entries of an index are taken one after the other.
use Rattle.std.specs.Prelude.{◌≡◌, ◌≢◌, ℕ, pos, unwrap_or, ◌<◌, ◌≤◌, ◌^◌, false, List, ◌∷◌, ◌++◌, drop, length, All, Option, Some, None}
use Rattle.cu_shape.specs.Index.{is_inside}
use Rattle.cu_node.specs.declared.index_item.IndexItem.{IndexItem}
use Rattle.cu_semantics.specs.View.{indexed_from}
use Rattle.cu_mean.specs.declared.indexing.Front.{Front}
use Rattle.cu_mean.specs.declared.indexing.Taken.{Taken}

-- the index lies outside each array
abbrev pub IsOutsideEach : List ℕ → Type 0
IsOutsideEach idx = (shape : List ℕ) → length shape ≤ 6 → All (λ n. n < 2 ^ 64) shape → is_inside shape idx ≡ false

-- what is found for an index: the index itself, or nothing where it lies outside each array
abbrev pub IsFoundIndex : List ℕ → Option (List ℕ) → Type 0
IsFoundIndex idx (Some read) = read ≡ idx
IsFoundIndex idx None = IsOutsideEach idx

-- the step of a slice isn't 0
abbrev pub HasStep : IndexItem → Type 0
HasStep (IndexItem.Slice start stop step) = unwrap_or step (pos 1) ≢ pos 0
HasStep item = Unit {0}

-- the index that is read, where `front` has its first numbers and the entries go on from there
abbrev pub read_from : ℕ → List ℕ → List ℕ → List IndexItem → Front → List ℕ
read_from spare shape idx items front = front.read ++ indexed_from spare items (drop front.axis shape) (drop front.at idx)

-- it has taken no more axes than there are
pub record IsFrontWithin (shape idx : List ℕ) (front : Front) : Type 0 where
  pub axis : front.axis ≤ length shape
  pub at : front.at ≤ length idx

-- What one entry does, whatever entries follow: it goes on; or there is no axis for it, and the rest of the result's index follows; or
-- what is read lies outside each array. `read` is the index that is read from a front on.
abbrev pub TakesEntry : (List IndexItem → Front → List ℕ) → List ℕ → IndexItem → Front → Front → Taken → Type 0
TakesEntry read idx item old new Taken.Next = (items : List IndexItem) → read (item ∷ items) old ≡ read items new
TakesEntry read idx item old new Taken.Rest = (items : List IndexItem) → read (item ∷ items) old ≡ new.read ++ drop new.at idx
TakesEntry read idx item old new Taken.Outside = (items : List IndexItem) → IsOutsideEach (read (item ∷ items) old)
