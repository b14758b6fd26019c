-- The indices that a slice takes lie in the axis.
use Rattle.std.proofs.Common.{◌≡◌, ◌≢◌, ◌<◌, ℕ, zero, suc, ◌*◌, Option, None, Some, ℤ, pos, negsuc, ◌+ℤ◌, ◌-ℤ◌, ◌*ℤ◌, ◌≤ℤ◌, refl, ◌∙◌, sym, subst, arith, inl, inr}
use Rattle.std.specs.Int.{div_ceil}
use Rattle.std.proofs.lemmas.Int.{ints}
use Rattle.std.proofs.lemmas.Bool.Decides.{eqb_tells}
use Rattle.cu_shape.specs.Slice.{from_end, start_of, stop_of, at_least_zero, count_of, first_of, IsEnd, IsIndex}
use Rattle.cu_shape.proofs.Ends.{clipped_inside}
use Rattle.cu_shape.proofs.Rounded.{before_end}

pub start_inside : (start : Option ℤ) (step : ℤ) (n : ℕ) → IsEnd (start_of start step n) step n
start_inside (Some x) step n = clipped_inside (from_end x n) step n
start_inside None (pos s) n = record { low = omega (arith, ints); high = omega (arith, ints) }
start_inside None (negsuc s) n = record { low = omega (arith, ints); high = omega (arith, ints) }

pub stop_inside : (stop : Option ℤ) (step : ℤ) (n : ℕ) → IsEnd (stop_of stop step n) step n
stop_inside (Some x) step n = clipped_inside (from_end x n) step n
stop_inside None (pos s) n = record { low = omega (arith, ints); high = omega (arith, ints) }
stop_inside None (negsuc s) n = record { low = omega (arith, ints); high = omega (arith, ints) }

natural_same : (z : ℤ) → pos 0 ≤ℤ z → pos (at_least_zero z) ≡ z
natural_same (pos x) h = refl
natural_same (negsuc x) h = absurd (omega (arith, ints))

natural_positive : (z : ℤ) → 0 < at_least_zero z → pos (at_least_zero z) ≡ z
natural_positive (pos x) h = refl
natural_positive (negsuc x) h = absurd (omega arith)

upward : (b e : ℤ) (s n k : ℕ) → 0 < s → pos 0 ≤ℤ b → e ≤ℤ pos n → k < div_ceil (at_least_zero (e -ℤ b)) s → IsIndex (pos (at_least_zero b) +ℤ pos k *ℤ pos s) n
upward b e s n k hs hb he h =
    let c : k * s < at_least_zero (e -ℤ b) = before_end (at_least_zero (e -ℤ b)) s k hs h in
    let d : pos (at_least_zero (e -ℤ b)) ≡ e -ℤ b = natural_positive (e -ℤ b) (omega arith) in
    let f : pos (at_least_zero b) ≡ b = natural_same b hb in
    (omega (arith, ints), omega (arith, ints))

downward : (b e : ℤ) (s n k : ℕ) → b ≤ℤ (pos n -ℤ pos 1) → negsuc 0 ≤ℤ e → k < div_ceil (at_least_zero (b -ℤ e)) (suc s) → IsIndex (pos (at_least_zero b) +ℤ pos k *ℤ negsuc s) n
downward b e s n k hb he h =
    let c : k * suc s < at_least_zero (b -ℤ e) = before_end (at_least_zero (b -ℤ e)) (suc s) k (omega arith) h in
    let d : pos (at_least_zero (b -ℤ e)) ≡ b -ℤ e = natural_positive (b -ℤ e) (omega arith) in
    let f : pos (at_least_zero b) ≡ b = natural_same b (omega (arith, ints)) in
    (omega (arith, ints), omega (arith, ints))

first_taken : (start stop : Option ℤ) (step : ℤ) (n : ℕ) → 0 < count_of start stop step n → first_of start stop step n ≡ at_least_zero (start_of start step n)
first_taken start stop step n h =
    elim (eqb_tells (count_of start stop step n) 0) [
      | inl p ↦ absurd (let e = p.1 in omega arith)
      | inr p ↦ rw p.0 refl
    ]

pub taken_inside : (start stop : Option ℤ) (step : ℤ) (n k : ℕ) → step ≢ pos 0 → k < count_of start stop step n → IsIndex (pos (first_of start stop step n) +ℤ pos k *ℤ step) n
taken_inside start stop (pos zero) n k z h = absurd (z refl)
taken_inside start stop (pos (suc s)) n k z h =
    let b = start_inside start (pos (suc s)) n in
    let e = stop_inside stop (pos (suc s)) n in
    rw (first_taken start stop (pos (suc s)) n (omega arith))
    (upward (start_of start (pos (suc s)) n) (stop_of stop (pos (suc s)) n) (suc s) n k (omega arith) b.low e.high h)
taken_inside start stop (negsuc s) n k z h =
    let b = start_inside start (negsuc s) n in
    let e = stop_inside stop (negsuc s) n in
    rw (first_taken start stop (negsuc s) n (omega arith))
    (downward (start_of start (negsuc s) n) (stop_of stop (negsuc s) n) s n k b.high e.low h)

pub taken_at : (start stop : Option ℤ) (step : ℤ) (n k first : ℕ) (s : ℤ) → first ≡ at_least_zero (start_of start step n) → s ≡ step → step ≢ pos 0 → k < count_of start stop step n → IsIndex (pos first +ℤ pos k *ℤ s) n
taken_at start stop step n k first s ef es z h =
    let e : first ≡ first_of start stop step n = ef ∙ sym (first_taken start stop step n (omega arith)) in
    subst (λ (f : ℕ). IsIndex (pos f +ℤ pos k *ℤ s) n) (sym e) (subst (λ (t : ℤ). IsIndex (pos (first_of start stop step n) +ℤ pos k *ℤ t) n) (sym es) (taken_inside start stop step n k z h))
