-- Bytes that are read word by word.
use Rattle.std.proofs.Common.{◌≡◌, ℕ, ◌+◌, ◌*◌, ◌-◌, ◌<◌, ◌≤◌, ◌/◌, ◌%◌, List, length, drop, get_or, get_or-take, sym, ap, ◌∙◌, arith}
use Rattle.std.proofs.lemmas.List.{get_or-drop}
use Rattle.std.proofs.lemmas.Slice.{between-put_mid}
use borrow.Rule.Slice.PartMut.{put_mid}
use mathlib.Core.Logic.{dite}
use native.Mathlib.Decide.{dec_lt}
use Rattle.std.specs.Int.{w64, to_le_bytes}
use Rattle.cu_cells.specs.Layout.{Laid, value_at}

in_word : (l : Laid) (first k n i : ℕ) (was now old : List ℕ) → length was ≡ length old → (i < 8 * k → ⊥) → i < 8 * (k + 1) → i < length old → n ≡ value_at l (first + k)
    → ((j : ℕ) → j < 8 → 8 * k + j < length was → get_or now (8 * k + j) 0 ≡ get_or (to_le_bytes w64 n) j 0)
    → get_or now i 0 ≡ get_or (to_le_bytes w64 (value_at l (first + i / 8))) (i % 8) 0
in_word l first k n i was now old long past less inside value laid =
    let low : i % 8 < 8 = omega arith in
    let at : 8 * k + i % 8 ≡ i = omega (arith, past, less) in
    let high : i / 8 ≡ k = omega (arith, past, less) in
    ap (λ (x : ℕ). get_or now x 0) (sym at) ∙ (laid (i % 8) low (omega (arith, at, long, inside))
    ∙ ap (λ (x : ℕ). get_or (to_le_bytes w64 x) (i % 8) 0) (value ∙ ap (λ (x : ℕ). value_at l (first + x)) (sym high)))

pub one_more : (l : Laid) (first k n : ℕ) (was now old : List ℕ) → length was ≡ length old → n ≡ value_at l (first + k)
    → ((i : ℕ) → i < 8 * k → get_or now i 0 ≡ get_or was i 0)
    → ((j : ℕ) → j < 8 → 8 * k + j < length was → get_or now (8 * k + j) 0 ≡ get_or (to_le_bytes w64 n) j 0)
    → ((i : ℕ) → i < 8 * k → i < length old → get_or was i 0 ≡ get_or (to_le_bytes w64 (value_at l (first + i / 8))) (i % 8) 0)
    → (i : ℕ) → i < 8 * (k + 1) → i < length old → get_or now i 0 ≡ get_or (to_le_bytes w64 (value_at l (first + i / 8))) (i % 8) 0
one_more l first k n was now old long value before laid so_far i less inside =
    dite (dec_lt i (8 * k))
    (λ early. before i early ∙ so_far i early inside)
    (λ late. in_word l first k n i was now old long late less inside value laid)

-- a byte of what was copied into the middle of a buffer
pub laid_byte : (a k : ℕ) (xs ys : List ℕ) (e j : ℕ) → a ≤ length xs → length ys ≡ e - a → j < e - a → get_or (put_mid a k xs ys) (a + j) 0 ≡ get_or ys j 0
laid_byte a k xs ys e j inside long less =
    sym (get_or-drop a (put_mid a k xs ys) j 0) ∙ (sym (get_or-take (e - a) (drop a (put_mid a k xs ys)) j 0 less) ∙ ap (λ (l : List ℕ). get_or l j 0) (between-put_mid a k xs ys e inside long))
