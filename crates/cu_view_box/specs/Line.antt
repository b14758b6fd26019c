-- Elements at evenly spaced places of a buffer. This project's own rules.
use Rattle.std.specs.Prelude.{◌≡◌, ◌≢◌, ℕ, ◌+◌, ◌*◌, ◌<◌, ◌≤◌, List, length}
use Rattle.cu_num.specs.Dtype.{size_of}
use Rattle.cu_num.specs.Element.{bytes_at, element_at, element_bytes}
use Rattle.cu_num.specs.declared.layout.Endian.TheVariants.{Little}
use Rattle.cu_box.specs.Rows.{spaced}
use Rattle.cu_view_box.specs.declared.lines.Line.{Line}

-- the place of element number j of a line
abbrev pub on_line : Line → ℕ → ℕ
on_line line j = spaced line.places j

-- the line has so many places, which lie in the buffer
abbrev pub FitsLine : Line → ℕ → List ℕ → Type 0
FitsLine line count bytes = (j : ℕ) → j < count → (j * line.places.first ≤ line.places.first + j * line.places.next) × (on_line line j * size_of line.dtype + size_of line.dtype ≤ length bytes)

-- no place stands on the line twice
abbrev pub IsOneEach : Line → ℕ → Type 0
IsOneEach line count = (i j : ℕ) → i < count → j < count → on_line line i ≡ on_line line j → i ≡ j

-- the elements of a line are the numbers of those of another
abbrev pub AreConverted : Line → List ℕ → Line → List ℕ → ℕ → Type 0
AreConverted source bytes target new count = (j : ℕ) → j < count
    → bytes_at target.dtype new (on_line target j) ≡ element_bytes Little target.dtype (element_at Little source.dtype bytes (on_line source j))

-- the elements that aren't on the line are as before
abbrev pub AreOthersKept : Line → ℕ → List ℕ → List ℕ → Type 0
AreOthersKept line count old new = (q : ℕ) → ((j : ℕ) → j < count → on_line line j ≢ q) → bytes_at line.dtype new q ≡ bytes_at line.dtype old q
