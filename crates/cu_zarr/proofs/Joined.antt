-- Parts joined one after another.
use Rattle.std.proofs.Common.{◌≡◌, ◌⊎◌, ℕ, zero, suc, ◌+◌, ◌*◌, ◌<◌, ◌≤◌, List, [], ◌++◌, length, take, drop, Option, Some, None, option_map, option_and_then, refl, sym, ap, ◌∙◌, inl, inr, arith, length-append}
use Rattle.std.proofs.Math.Nat.{zero-mul, suc-mul, eq-or-lt_of_le}
use Rattle.std.proofs.Math.Seq.{take-add, take-length, drop-append_seam}
use Rattle.std.proofs.lemmas.List.{take-append-le, drop-append-le, length-drop}
use Rattle.cu_zarr.specs.Spelling.{parts_in_order}

-- the bytes of the first n parts of this size, where part p stands at p * size
pub joined_by_place : (size n : ℕ) (part : ℕ → Option (List ℕ)) (bytes : List ℕ)
    → ((p : ℕ) → p < n → part p ≡ Some (take size (drop (p * size) bytes)))
    → parts_in_order part n ≡ Some (take (n * size) bytes)
joined_by_place size zero part bytes parts = rw zero-mul refl
joined_by_place size (suc n) part bytes parts =
    let front = joined_by_place size n part bytes (λ p below. parts p (omega arith)) in
    let last = parts n (omega arith) in
    rw (front, last, suc-mul, take-add) refl

joined_last : (front last : Option (List ℕ)) (bytes : List ℕ)
    → option_and_then (λ a. option_map (λ b. a ++ b) last) front ≡ Some bytes
    → (a : List ℕ) × (b : List ℕ) × (front ≡ Some a) × (last ≡ Some b) × (bytes ≡ a ++ b)
joined_last None last bytes e = cc
joined_last (Some a) None bytes e = cc
joined_last (Some a) (Some b) bytes e = (a, b, refl, refl, cc)

take_within : (size at : ℕ) (front last : List ℕ) → at + size ≤ length front
    → take size (drop at (front ++ last)) ≡ take size (drop at front)
take_within size at front last fits =
    let in_front : at ≤ length front = omega arith in
    let in_rest : size ≤ length (drop at front) = rw length-drop (omega arith) in
    rw (drop-append-le at front last in_front, take-append-le size (drop at front) last in_rest) refl

place_step : (size n p : ℕ) → p < n → p * size + size ≤ n * size
place_step size n p below = grind arith

last_part : (size : ℕ) (front last : List ℕ) (at : ℕ) → length front ≡ at → length last ≡ size → take size (drop at (front ++ last)) ≡ last
last_part size front last at here long = rw (← here, drop-append_seam, ← long) (take-length last)

parts_step : (size n : ℕ) (part : ℕ → Option (List ℕ)) (front last : List ℕ) → length front ≡ n * size → length last ≡ size
    → ((p : ℕ) → p < n → part p ≡ Some (take size (drop (p * size) front))) → part n ≡ Some last
    → (p : ℕ) → p < suc n → (p ≡ n) ⊎ (p < n) → part p ≡ Some (take size (drop (p * size) (front ++ last)))
parts_step size n part front last here long before now p below (inr earlier) =
    let fits : p * size + size ≤ length front = rw here (place_step size n p earlier) in
    before p earlier ∙ ap Some (sym (take_within size (p * size) front last fits))
parts_step size n part front last here long before now p below (inl same) =
    rw same (now ∙ ap Some (sym (last_part size front last (n * size) here long)))

le_of_lt_suc : (p n : ℕ) → p < suc n → p ≤ n
le_of_lt_suc p n below = omega arith

-- Joined parts of one size: how long they are, and that each stands at its place.
pub joined_parts : (size n : ℕ) (part : ℕ → Option (List ℕ)) (bytes : List ℕ)
    → ((p : ℕ) (b : List ℕ) → part p ≡ Some b → length b ≡ size)
    → parts_in_order part n ≡ Some bytes
    → (length bytes ≡ n * size) × ((p : ℕ) → p < n → part p ≡ Some (take size (drop (p * size) bytes)))
joined_parts size zero part bytes long all =
    let empty : bytes ≡ [] = cc in
    (rw (empty, zero-mul) refl, λ p below. absurd (omega arith))
joined_parts size (suc n) part bytes long all =
    let (a, b, front, last, whole) = joined_last (parts_in_order part n) (part n) bytes all in
    let (here, before) = joined_parts size n part a long front in
    let now : length b ≡ size = long n b last in (
      rw (whole, length-append, suc-mul) (omega arith),
      λ p below. rw whole (parts_step size n part a b here now before last p below (eq-or-lt_of_le (le_of_lt_suc p n below))),
    )
