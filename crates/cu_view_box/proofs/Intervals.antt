-- The counts at which a way reads in a range of indices.
use Rattle.std.proofs.Common.{◌≡◌, ◌↔◌, ℕ, ◌+◌, ◌-◌, ◌*◌, ◌<◌, ◌≤◌, min, arith, inl, inr}
use Rattle.std.specs.Int.{div_ceil}
use Rattle.std.proofs.lemmas.Bool.Decides.{leb_tells}
use Rattle.cu_shape.proofs.Rounded.{before_end, within_counts}

-- pieces of size s up to count t cover n exactly where there are no more than t
above : (n s t : ℕ) → 0 < s → div_ceil n s ≤ t → n ≤ t * s
above n s t h e = elim (leb_tells n (t * s)) [
  | inl p ↦ p.1
  | inr p ↦ absurd (let q : t < div_ceil n s = within_counts n s t h p.1 in omega arith)
]

covered : (n s t : ℕ) → 0 < s → n ≤ t * s → div_ceil n s ≤ t
covered n s t h e = elim (leb_tells (div_ceil n s) t) [
  | inl p ↦ p.1
  | inr p ↦ absurd (let q : t * s < n = before_end n s t h p.1 in omega arith)
]

pub upward_interval : (first step extent low high from to t : ℕ) → 0 < step → from ≡ min (div_ceil (low - first) step) extent → to ≡ min (div_ceil (high - first) step) extent
    → ((from ≤ t) × (t < to)) ↔ ((t < extent) × (low ≤ first + t * step) × (first + t * step < high))
upward_interval first step extent low high from to t h ef et = (forth, back)
  where
    forth : (from ≤ t) × (t < to) → (t < extent) × (low ≤ first + t * step) × (first + t * step < high)
    forth p =
        let a = p.0 in
        let b = p.1 in
        let x : low - first ≤ t * step = above (low - first) step t h (omega arith) in
        let y : t * step < high - first = before_end (high - first) step t h (omega arith) in
        (omega arith, omega arith, omega arith)

    back : (t < extent) × (low ≤ first + t * step) × (first + t * step < high) → (from ≤ t) × (t < to)
    back p =
        let a = p.0 in
        let b = p.1 in
        let c = p.2 in
        let x : div_ceil (low - first) step ≤ t = covered (low - first) step t h (omega arith) in
        let y : t < div_ceil (high - first) step = within_counts (high - first) step t h (omega arith) in
        (omega arith, omega arith)

pub downward_interval : (first step extent low high from to t : ℕ) → 0 < step → ((k : ℕ) → k < extent → k * step ≤ first) → from ≡ min (div_ceil (first + 1 - high) step) extent → to ≡ min (div_ceil (first + 1 - low) step) extent
    → ((from ≤ t) × (t < to)) ↔ ((t < extent) × (low ≤ first - t * step) × (first - t * step < high))
downward_interval first step extent low high from to t h g ef et = (forth, back)
  where
    forth : (from ≤ t) × (t < to) → (t < extent) × (low ≤ first - t * step) × (first - t * step < high)
    forth p =
        let a = p.0 in
        let b = p.1 in
        let z : t * step ≤ first = g t (omega arith) in
        let x : first + 1 - high ≤ t * step = above (first + 1 - high) step t h (omega arith) in
        let y : t * step < first + 1 - low = before_end (first + 1 - low) step t h (omega arith) in
        (omega arith, omega arith, omega arith)

    back : (t < extent) × (low ≤ first - t * step) × (first - t * step < high) → (from ≤ t) × (t < to)
    back p =
        let a = p.0 in
        let b = p.1 in
        let c = p.2 in
        let z : t * step ≤ first = g t a in
        let x : div_ceil (first + 1 - high) step ≤ t = covered (first + 1 - high) step t h (omega arith) in
        let y : t < div_ceil (first + 1 - low) step = within_counts (first + 1 - low) step t h (omega arith) in
        (omega arith, omega arith)
