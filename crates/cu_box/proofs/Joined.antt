-- Rows that stand together are one row.
use Rattle.std.proofs.Common.{◌≡◌, ℕ, zero, suc, ◌+◌, ◌-◌, ◌*◌, ◌/◌, ◌%◌, ◌<◌, ◌≤◌, List, length, ap, sym, ◌∙◌, arith}
use Rattle.std.proofs.Math.Nat.{mul-le-mul_left, mul-le-mul_right}
use Rattle.std.proofs.lemmas.Nat.{div_below, div-add-mod', mod_below}
use Rattle.cu_num.specs.Element.{in_order, IsSize}
use Rattle.cu_num.specs.declared.layout.Endian.{Endian}
use Rattle.cu_box.specs.Order.{part_at}
use Rattle.cu_box.specs.Rows.{spaced, FitRows, AreApart, AreRowsCopied}
use Rattle.cu_box.specs.declared.rows.Rows.{Rows}
use Rattle.cu_box.specs.declared.rows.Spacing.{Spacing}

abbrev pub one_row : Rows → Rows
one_row rows = record { run = rows.run * rows.count; count = 1; from = rows.from; to = rows.to }

-- a place where the rows stand together
spaced_on : (s : Spacing) (run r : ℕ) → s.next ≡ s.first + run → spaced s r ≡ s.first + r * run
spaced_on s run r e =
    let moved : r * s.next ≡ r * s.first + r * run = ap (λ n. r * n) e ∙ omega arith in
    omega arith

-- the last row ends where the one row does
pub one_row_fits : (size : ℕ) (rows : Rows) (s : Spacing) (bytes : List ℕ) → 0 < rows.count → s.next ≡ s.first + rows.run → FitRows size rows s bytes → FitRows size (one_row rows) s bytes
one_row_fits size rows s bytes some e fits r b =
    let k = rows.count - 1 in
    let last = (fits k (omega arith)).1 in
    let place : spaced s k * size ≡ (s.first + k * rows.run) * size = ap (λ n. n * size) (spaced_on s rows.run k e) in
    let count : rows.count ≡ k + 1 = omega arith in
    let whole : rows.run * rows.count * size ≡ rows.run * (k + 1) * size = ap (λ n. rows.run * n * size) count in
    let ends : (s.first + k * rows.run) * size + rows.run * size ≡ s.first * size + rows.run * (k + 1) * size = omega arith in
    let none : r ≡ 0 = omega arith in
    let first : spaced s r ≡ s.first = ap (spaced s) none ∙ omega arith in
    let begins : spaced s r * size ≡ s.first * size = ap (λ n. n * size) first in
    let zero : r * s.first ≡ 0 * s.first = ap (λ n. n * s.first) none in
    (omega arith, omega (arith, last, place, whole, ends, begins))

-- so it is no longer than the buffer
pub one_row_short : (size : ℕ) (rows : Rows) (s : Spacing) (bytes : List ℕ) → IsSize size → 0 < rows.count → s.next ≡ s.first + rows.run → FitRows size rows s bytes
    → (rows.run * rows.count ≤ length bytes) × (rows.run * rows.count * size ≤ length bytes)
one_row_short size rows s bytes h some e fits =
    let all = (one_row_fits size rows s bytes some e fits 0 (omega arith)).1 in
    let least : 1 ≤ size = positive size h in
    let each : rows.run * rows.count * 1 ≤ rows.run * rows.count * size = mul-le-mul_left (rows.run * rows.count) least in
    (omega arith, omega arith)
  where
    positive : (n : ℕ) → IsSize n → 1 ≤ n
    positive n h = grind arith

pub one_row_apart : (rows : Rows) → AreApart (one_row rows)
one_row_apart rows r s j i a b c d e = omega arith

pub one_row_copied : (size : ℕ) (e : Endian) (rows : Rows) (source old new : List ℕ) → rows.from.next ≡ rows.from.first + rows.run → rows.to.next ≡ rows.to.first + rows.run
    → AreRowsCopied size e (one_row rows) source old new → AreRowsCopied size e rows source old new
one_row_copied size e rows source old new from to h = record {
  same_length = h.same_length;
  copied = λ r j b c.
      let more : (r + 1) * rows.run ≤ rows.count * rows.run = mul-le-mul_right rows.run (let l : r + 1 ≤ rows.count = omega arith in l) in
      let within : r * rows.run + j < rows.run * rows.count = omega arith in
      let written = place rows.to r j to in
      let read = place rows.from r j from in
      ap (part_at size new) written ∙ h.copied 0 (r * rows.run + j) (omega arith) within ∙ ap (λ q. in_order e (part_at size source q)) (sym read);
  others = λ q off. h.others q (λ r j b c same.
      let some : 0 < rows.run = positive rows.run rows.count j c in
      let row = j / rows.run in
      let rest = j % rows.run in
      let is : row * rows.run + rest ≡ j = div-add-mod' j rows.run in
      let none : r ≡ 0 = omega arith in
      let begins : spaced rows.to r + j ≡ spaced rows.to 0 + (row * rows.run + rest) = ap (λ n. spaced rows.to n + j) none ∙ ap (λ n. spaced rows.to 0 + n) (sym is) in
      off row rest (div_below j rows.run rows.count some (omega arith)) (mod_below j rows.run some) (place rows.to row rest to ∙ sym begins ∙ same));
}
  where
    place : (s : Spacing) (r j : ℕ) → s.next ≡ s.first + rows.run → spaced s r + j ≡ spaced s 0 + (r * rows.run + j)
    place s r j e = let on = spaced_on s rows.run r e in omega arith

    positive : (run count j : ℕ) → j < run * count → 0 < run
    positive zero count j b = absurd (omega arith)
    positive (suc run) count j b = omega arith
