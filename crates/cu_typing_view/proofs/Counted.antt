-- How many numbers a range has, and how many indices a slice takes.
use Rattle.std.proofs.Common.{◌≡◌, ◌↔◌, ℕ, zero, suc, ◌<◌, ℤ, pos, negsuc, ◌+ℤ◌, ◌-ℤ◌, ◌*ℤ◌, ◌<ℤ◌, Bool, true, false, Option, refl, arith}
use Rattle.std.specs.Int.{div_ceil}
use Rattle.std.specs.Ordering.{int_eq}
use Rattle.std.proofs.lemmas.Int.{ints}
use Rattle.std.proofs.lemmas.Bool.Decides.{Decides-int_eq}
use Rattle.cu_shape.specs.Slice.{at_least_zero, count_of, start_of, stop_of}
use Rattle.cu_typing_view.specs.Creation.{arange_count, arange_element}
use Rattle.cu_typing_view.proofs.Steps.{up_before, up_below, down_before, down_below}

refused : (b : Bool) → (b ≡ true → ⊥) → b ≡ false
refused true h = absurd (h refl)
refused false h = refl

not_zero : (s : ℕ) → int_eq (pos (suc s)) (pos 0) ≡ false
not_zero s = refused _ (λ e. let same = (Decides-int_eq (pos (suc s)) (pos 0)).0 e in omega (arith, ints))

count_up : (start stop : ℤ) (s : ℕ) → 0 < s → arange_count start stop (pos s) ≡ div_ceil (at_least_zero (stop -ℤ start)) s
unfolding arange_count
count_up start stop zero h = absurd (omega arith)
count_up start stop (suc s) h = rw (not_zero s) refl

pub range_up : (start stop : ℤ) (s k : ℕ) → 0 < s → (k < arange_count start stop (pos s)) ↔ (arange_element start (pos s) k <ℤ stop)
range_up start stop s k h =
    let e = count_up start stop s h in
    (λ below. up_before start stop s k h (rw e at below), λ before. rw e (up_below start stop s k h before))

pub range_down : (start stop : ℤ) (s k : ℕ) → (k < arange_count start stop (negsuc s)) ↔ (stop <ℤ arange_element start (negsuc s) k)
unfolding arange_count
range_down start stop s k = (down_before start stop s k, down_below start stop s k)

pub slice_up : (start stop : Option ℤ) (s n k : ℕ) → 0 < s → (k < count_of start stop (pos s) n) ↔ ((start_of start (pos s) n +ℤ pos k *ℤ pos s) <ℤ stop_of stop (pos s) n)
slice_up start stop s n k h = (up_before (start_of start (pos s) n) (stop_of stop (pos s) n) s k h, up_below (start_of start (pos s) n) (stop_of stop (pos s) n) s k h)

pub slice_down : (start stop : Option ℤ) (s n k : ℕ) → (k < count_of start stop (negsuc s) n) ↔ (stop_of stop (negsuc s) n <ℤ (start_of start (negsuc s) n +ℤ pos k *ℤ negsuc s))
slice_down start stop s n k = (down_before (start_of start (negsuc s) n) (stop_of stop (negsuc s) n) s k, down_below (start_of start (negsuc s) n) (stop_of stop (negsuc s) n) s k)
