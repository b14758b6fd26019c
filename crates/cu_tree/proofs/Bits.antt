-- The bits of sets of axes.
use Rattle.std.proofs.Common.{◌≡◌, ℕ, zero, suc, ◌+◌, ◌*◌, ◌/◌, ◌%◌, ◌^◌, ◌<◌, ◌==◌, Bool, true, false, if◌then◌else◌, List, [], ◌∷◌, get_or, Option, Some, None, arith, inl, inr}
use Rattle.std.specs.Int.{bit_at}
use Rattle.std.proofs.lemmas.Nat.Bits.{bit_at_lowest, bit_at-suc, bit_at-zero, bit_at-pow_same, bit_at-pow_other, bit_at_ones}
use Rattle.std.proofs.lemmas.Bool.Decides.{eqb_tells}
use Rattle.cu_reduce.specs.Places.{is_sought}
use Rattle.cu_origin.specs.Pull.{has_axis}
use Rattle.cu_tree.specs.Marks.{bits_of, marked_axes, sought_axes}

lowest : (m : Bool) (n : ℕ) → ((if m then 1 else 0) + 2 * n) % 2 == 1 ≡ m
lowest true n = let e : (1 + 2 * n) % 2 ≡ 1 = omega arith in rw e
lowest false n = let e : (0 + 2 * n) % 2 ≡ 0 = omega arith in rw e

above : (m : Bool) (n : ℕ) → ((if m then 1 else 0) + 2 * n) / 2 ≡ n
above true n = omega arith
above false n = omega arith

pub marked : (marks : List Bool) (d : ℕ) → has_axis (marked_axes marks) d ≡ get_or marks d false
marked [] d = rw (bit_at-zero d)
marked (m ∷ ms) zero = rw (bit_at_lowest (bits_of (m ∷ ms))) (lowest m (bits_of ms))
marked (m ∷ ms) (suc d) = rw (bit_at-suc (bits_of (m ∷ ms)) d, above m (bits_of ms)) (marked ms d)

pub along : (axis d : ℕ) → has_axis (record { 0 = 2 ^ axis }) d ≡ (d == axis)
along axis d = elim (eqb_tells d axis) [
  | inl p ↦ let e = p.1 in let t = p.0 in rw (t, e, bit_at-pow_same axis)
  | inr p ↦ let t = p.0 in rw (t, bit_at-pow_other axis d p.1)
]

pub sought : (axis : Option ℕ) (d : ℕ) → d < 6 → has_axis (sought_axes axis) d ≡ is_sought axis d
sought (Some axis) d h = along axis d
sought None d h = let e : bit_at 63 d ≡ 1 = bit_at_ones 6 d h in rw e
