-- The buffer of an id: its text, and zeros behind it.
use Rattle.std.proofs.Common.{◌≡◌, ℕ, ◌≤◌, ◌-◌, List, ◌++◌, length, take, drop, replicate, IsUtf8, length-append, length-drop, arith}
use Rattle.std.proofs.lemmas.List.{drop-replicate, length-replicate}
use Rattle.std.proofs.Math.Seq.{drop-append_seam, take-append_seam}

pub filled : (text : List ℕ) → length text ≤ 32 → IsUtf8 text
    → (length text ≤ 32) × (length (text ++ drop (length text) (replicate 32 0)) ≡ 32)
    × (drop (length text) (text ++ drop (length text) (replicate 32 0)) ≡ replicate (32 - length text) 0)
    × ∥ IsUtf8 (take (length text) (text ++ drop (length text) (replicate 32 0))) ∥₁
filled text short utf8 = (
  short,
  simp (length-append, length-drop, length-replicate) (omega arith),
  rw (drop-append_seam, drop-replicate),
  rw take-append_seam (∣ utf8 ∣₁),
)
