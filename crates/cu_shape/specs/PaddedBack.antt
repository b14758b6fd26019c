-- The fields of a `Dims` are told by its list.
use Rattle.std.specs.Prelude.{◌≡◌, ℕ, List, take, length}
use Rattle.std.proofs.Common.{arith}
use Rattle.std.proofs.lemmas.List.{length-take-le, take-append-drop}
use Rattle.cu_shape.specs.declared.dims.Dims.TheInside.{Inside}
use Rattle.cu_shape.specs.Padded.{padded, IsPadded}

abbrev pub fields : ℕ → List ℕ → Inside
fields r s = record { rank = r; sizes = s }

length_back : (a : Inside) → IsPadded a.rank a.sizes → length (take a.rank a.sizes) ≡ a.rank
length_back a h = length-take-le a.rank a.sizes (let s = h.six in let r = h.short in omega arith)

sizes_back : (a : Inside) → IsPadded a.rank a.sizes → padded (take a.rank a.sizes) ≡ a.sizes
sizes_back a h = rw (length_back a h) (rw (← h.zeros) (take-append-drop a.rank a.sizes))

same_fields : (r r' : ℕ) (s s' : List ℕ) → r ≡ r' → s ≡ s' → fields r s ≡ fields r' s'
same_fields r r' s s' p q = cc

-- the rank is the list's length, and the array the list padded
pub padded_back : (a : Inside) → IsPadded a.rank a.sizes → fields (length (take a.rank a.sizes)) (padded (take a.rank a.sizes)) ≡ a
padded_back a h = same_fields _ a.rank _ a.sizes (length_back a h) (sizes_back a h)
