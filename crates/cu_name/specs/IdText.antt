-- An id is its text: the bytes behind the text are zero.
use Rattle.std.specs.Prelude.{◌≡◌, ℕ, ◌≤◌, ◌-◌, List, ◌++◌, length, take, drop, replicate}
use Rattle.std.proofs.Common.{take-append-drop, length-take-le}

-- a buffer is the text in it and zeros
pub id_buffer_again : (len : ℕ) (text : List ℕ) → len ≤ length text → drop len text ≡ replicate (32 - len) 0 → take len text ++ replicate (32 - length (take len text)) 0 ≡ text
id_buffer_again len text short zeros =
    rw (length-take-le len text short, ← zeros) (take-append-drop len text)
