-- What consolidation keeps: each size, the memory, the array, and that each chunk lies in one region.
use Rattle.std.proofs.Common.{◌≡◌, ◌⊎◌, inl, inr, ℕ, suc, ◌<◌, ◌≤◌, ◌*◌, ◌/◌, Bool, true, false, nat_lt, nat_le, if◌then◌else◌, List, [], ◌∷◌, length, min, max, All, refl, ap, arith}
use Rattle.std.proofs.Math.Nat.{div-mul-le_self, le-div_iff_mul-le, mul_assoc, mul_comm, mul-le-mul_left}
use Rattle.std.proofs.lemmas.Nat.{mul-le}
use Rattle.std.proofs.lemmas.Bool.{ltb-true, leb-true, leb-false}
use Rattle.std.proofs.lemmas.List.Elements.{All-head, All-tail, All-cons}
use Rattle.cu_shape.specs.Index.{product}
use Rattle.cu_shape.proofs.Places.{mul_positive}
use Rattle.cu_shape.specs.Counts.{at_least_one}
use Rattle.cu_rechunk.specs.Nested.{IsNestedAlong}
use Rattle.cu_rechunk.specs.Stages.{multiple_within, grown, with_axis, consolidated}
use Rattle.cu_rechunk.proofs.Sizes.{AreWithin, product_positive}

-- a multiple of a size within a bound that holds the size
pub multiple_kept : (size bound : ℕ) → 0 < size → size ≤ bound → (size ≤ multiple_within size bound) × (multiple_within size bound ≤ bound)
multiple_kept size bound h b =
    let once : 1 ≤ bound / size = (le-div_iff_mul-le {k = size} {x = 1} {y = bound} h).1 (omega arith) in
    let p : 1 * size ≤ bound / size * size = mul-le 1 size (bound / size) size once (omega arith) in
    (omega arith, div-mul-le_self bound size)

-- ---- on an axis

pub record IsGrown (most n c g : ℕ) : Type 0 where
  pub positive : 0 < g
  pub fits : g ≤ most
  pub nested : (n ≤ g) ⊎ ((m : ℕ) × (g ≡ m * c))

grown_by : (most n c l : ℕ) (b d : Bool) → nat_lt c (min n l) ≡ b → nat_le n (min l most) ≡ d → 0 < c → c ≤ most
    → IsGrown most n c (if b then (if d then n else multiple_within c (min l most)) else c)
grown_by most n c l true true e f h fits =
    let below = ltb-true c (min n l) e in
    let whole = leb-true n (min l most) f in
    record { positive = omega arith; fits = omega arith; nested = inl (omega arith) }
grown_by most n c l true false e f h fits =
    let below = ltb-true c (min n l) e in
    let less = leb-false n (min l most) f in
    let m = multiple_kept c (min l most) h (omega arith) in
    let m0 = m.0 in
    let m1 = m.1 in
    record { positive = omega arith; fits = omega arith; nested = inr (min l most / c, refl) }
grown_by most n c l false d e f h fits =
    record { positive = h; fits = fits; nested = inr (1, omega arith) }

pub grown_kept : (most n c l : ℕ) → 0 < c → c ≤ most → IsGrown most n c (grown most n c l)
grown_kept most n c l = grown_by most n c l (nat_lt c (min n l)) (nat_le n (min l most)) refl refl

within_by : (most n c l : ℕ) (b d : Bool) → nat_lt c (min n l) ≡ b → nat_le n (min l most) ≡ d → c ≤ max 1 n → (if b then (if d then n else multiple_within c (min l most)) else c) ≤ max 1 n
within_by most n c l true true e f h = omega arith
within_by most n c l true false e f h =
    let less = leb-false n (min l most) f in
    let m : multiple_within c (min l most) ≤ min l most = div-mul-le_self (min l most) c in
    omega arith
within_by most n c l false d e f h = h

pub grown_within : (most n c l : ℕ) → c ≤ max 1 n → grown most n c l ≤ max 1 n
grown_within most n c l = within_by most n c l (nat_lt c (min n l)) (nat_le n (min l most)) refl refl

-- ---- on all axes

pub record IsConsolidated (room lead : ℕ) (ns cs gs : List ℕ) : Type 0 where
  pub ranks : length gs ≡ length ns
  pub positive : All (λ c. 0 < c) gs
  pub fits : lead * product gs ≤ room
  pub shape : AreWithin gs (at_least_one ns)
  pub nested : IsNestedAlong ns cs gs

-- what is left of the room for an axis holds the chunk's size on it
pub share : (room others c : ℕ) → 0 < others → others * c ≤ room → c ≤ room / others
share room others c h fits = (le-div_iff_mul-le {k = others} {x = c} {y = room} h).1 (rw (mul_comm c others) fits)

pub share_fits : (room others g : ℕ) → g ≤ room / others → others * g ≤ room
share_fits room others g h =
    let p : others * g ≤ others * (room / others) = mul-le-mul_left others h in
    let q : room / others * others ≤ room = div-mul-le_self room others in
    omega (arith, mul_comm others (room / others))

pub consolidated_kept : (room lead : ℕ) (ns cs ls : List ℕ) → length cs ≡ length ns → length ls ≡ length ns → 0 < lead → All (λ c. 0 < c) cs → AreWithin cs (at_least_one ns)
    → lead * product cs ≤ room → IsConsolidated room lead ns cs (consolidated room lead ns cs ls)
consolidated_kept room lead [] [] [] e f h p w fits = record { ranks = refl; positive = p; fits = fits; shape = tt; nested = tt }
consolidated_kept room lead [] [] (l ∷ ls) e f h p w fits = absurd (omega arith)
consolidated_kept room lead [] (c ∷ cs) ls e f h p w fits = absurd (omega arith)
consolidated_kept room lead (n ∷ ns) [] ls e f h p w fits = absurd (omega arith)
consolidated_kept room lead (n ∷ ns) (c ∷ cs) [] e f h p w fits = absurd (omega arith)
consolidated_kept room lead (n ∷ ns) (c ∷ cs) (l ∷ ls) e f h p w fits =
    let hc : 0 < c = All-head (λ x. 0 < x) c cs p in
    let more : lead * c * product cs ≤ room = rw (mul_assoc lead c (product cs)) fits in
    one_more room lead n c l ns cs (consolidated room (lead * c) ns cs ls) h hc w.0
    (consolidated_kept room (lead * c) ns cs ls (omega arith) (omega arith) (mul_positive lead c h hc) (All-tail (λ x. 0 < x) c cs p) w.1 more)
  where
    regroup : (a g p room : ℕ) → a * p * g ≤ room → a * (g * p) ≤ room
    regroup a g p room h = omega arith

    one_more : (room lead n c l : ℕ) (ns cs rest : List ℕ) → 0 < lead → 0 < c → c ≤ max 1 n → IsConsolidated room (lead * c) ns cs rest
        → IsConsolidated room lead (n ∷ ns) (c ∷ cs) (with_axis room lead n c l rest)
    one_more room lead n c l ns cs rest h hc hn r =
        let some : 0 < lead * product rest = mul_positive lead (product rest) h (product_positive rest r.positive) in
        let fit = r.fits in
        let turned : lead * product rest * c ≡ lead * c * product rest = omega arith in
        let g = grown_kept (room / (lead * product rest)) n c l hc (share room (lead * product rest) c some (omega arith)) in
        let held : lead * product rest * grown (room / (lead * product rest)) n c l ≤ room = share_fits room (lead * product rest) (grown (room / (lead * product rest)) n c l) g.fits in
        record {
          ranks = ap suc r.ranks;
          positive = All-cons (λ y. 0 < y) (grown (room / (lead * product rest)) n c l) rest g.positive r.positive;
          fits = regroup lead (grown (room / (lead * product rest)) n c l) (product rest) room held;
          shape = (grown_within (room / (lead * product rest)) n c l hn, r.shape);
          nested = (g.nested, r.nested);
        }
