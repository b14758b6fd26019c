-- Steps from one number to another: step k comes before the end exactly where k is below the count.
use Rattle.std.proofs.Common.{◌≡◌, ℕ, suc, ◌*◌, ◌<◌, ℤ, pos, negsuc, ◌+ℤ◌, ◌-ℤ◌, ◌*ℤ◌, ◌<ℤ◌, refl, arith}
use Rattle.std.specs.Int.{div_ceil}
use Rattle.std.proofs.lemmas.Int.{ints}
use Rattle.cu_shape.specs.Slice.{at_least_zero}
use Rattle.cu_shape.proofs.Rounded.{before_end, within_counts}

positive_same : (z : ℤ) → 0 < at_least_zero z → pos (at_least_zero z) ≡ z
positive_same (pos x) h = refl
positive_same (negsuc x) h = absurd (omega arith)

above : (m : ℕ) (z : ℤ) → pos m <ℤ z → m < at_least_zero z
above m (pos x) h = omega (arith, ints)
above m (negsuc x) h = absurd (omega (arith, ints))

pub up_before : (b e : ℤ) (s k : ℕ) → 0 < s → k < div_ceil (at_least_zero (e -ℤ b)) s → (b +ℤ pos k *ℤ pos s) <ℤ e
up_before b e s k hs h =
    let c : k * s < at_least_zero (e -ℤ b) = before_end (at_least_zero (e -ℤ b)) s k hs h in
    let d : pos (at_least_zero (e -ℤ b)) ≡ e -ℤ b = positive_same (e -ℤ b) (omega arith) in
    omega (arith, ints)

pub up_below : (b e : ℤ) (s k : ℕ) → 0 < s → (b +ℤ pos k *ℤ pos s) <ℤ e → k < div_ceil (at_least_zero (e -ℤ b)) s
up_below b e s k hs h = within_counts (at_least_zero (e -ℤ b)) s k hs (above (k * s) (e -ℤ b) (omega (arith, ints)))

pub down_before : (b e : ℤ) (s k : ℕ) → k < div_ceil (at_least_zero (b -ℤ e)) (suc s) → e <ℤ (b +ℤ pos k *ℤ negsuc s)
down_before b e s k h =
    let c : k * suc s < at_least_zero (b -ℤ e) = before_end (at_least_zero (b -ℤ e)) (suc s) k (omega arith) h in
    let d : pos (at_least_zero (b -ℤ e)) ≡ b -ℤ e = positive_same (b -ℤ e) (omega arith) in
    omega (arith, ints)

pub down_below : (b e : ℤ) (s k : ℕ) → e <ℤ (b +ℤ pos k *ℤ negsuc s) → k < div_ceil (at_least_zero (b -ℤ e)) (suc s)
down_below b e s k h = within_counts (at_least_zero (b -ℤ e)) (suc s) k (omega arith) (above (k * suc s) (b -ℤ e) (omega (arith, ints)))
