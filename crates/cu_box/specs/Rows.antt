-- Rows of elements that are copied from evenly spaced places of a buffer to evenly spaced places of another (this project's own words).
use Rattle.std.specs.Prelude.{◌≡◌, ◌≢◌, ℕ, ◌+◌, ◌-◌, ◌*◌, ◌<◌, ◌≤◌, List, length}
use Rattle.cu_num.specs.Element.{in_order}
use Rattle.cu_num.specs.declared.layout.Endian.{Endian}
use Rattle.cu_box.specs.Order.{part_at}
use Rattle.cu_box.specs.declared.rows.Rows.{Rows}
use Rattle.cu_box.specs.declared.rows.Spacing.{Spacing}

-- place number r: as far from the first as r times the second is, upward or downward
abbrev pub spaced : Spacing → ℕ → ℕ
spaced s r = s.first + r * s.next - r * s.first

-- each row, of `size` bytes an element, lies in the buffer from its place on
abbrev pub FitRows : ℕ → Rows → Spacing → List ℕ → Type 0
FitRows size rows s bytes = (r : ℕ) → r < rows.count → (r * s.first ≤ s.first + r * s.next) × (spaced s r * size + rows.run * size ≤ length bytes)

-- no two rows that are written have a place in common
abbrev pub AreApart : Rows → Type 0
AreApart rows = (r s j i : ℕ) → r < rows.count → s < rows.count → j < rows.run → i < rows.run → spaced rows.to r + j ≡ spaced rows.to s + i → r ≡ s

-- Each row that is written has the elements of the row that is read, each with its bytes in the order; each other element is as before.
pub record AreRowsCopied (size : ℕ) (e : Endian) (rows : Rows) (source old new : List ℕ) : Type 0 where
  pub same_length : length new ≡ length old
  pub copied : (r j : ℕ) → r < rows.count → j < rows.run → part_at size new (spaced rows.to r + j) ≡ in_order e (part_at size source (spaced rows.from r + j))
  pub others : (q : ℕ) → ((r j : ℕ) → r < rows.count → j < rows.run → spaced rows.to r + j ≢ q) → part_at size new q ≡ part_at size old q
