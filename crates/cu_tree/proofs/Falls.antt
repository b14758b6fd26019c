-- Groups of at least two leave at most about half of the partial results, so few rounds are enough.
use Rattle.std.proofs.Common.{◌≡◌, ℕ, zero, suc, ◌+◌, ◌-◌, ◌*◌, ◌<◌, ◌≤◌, ◌^◌, Bool, true, false, if◌then◌else◌, List, [], ◌∷◌, ◌++◌, length, get_or, drop, max, nat_lt, refl, ap, sym, ◌∙◌, arith, inl, inr}
use Rattle.std.specs.Int.{div_ceil}
use Rattle.std.proofs.Math.Nat.{mul-le-mul_left, pow-succ'}
use Rattle.std.proofs.Math.Pow.{pow_mono}
use Rattle.std.proofs.lemmas.Nat.{mul-le, pow-add}
use Rattle.std.proofs.lemmas.List.{length-append, append_assoc, append-nil, drop_more, drop_all}
use Rattle.std.proofs.lemmas.Bool.{ltb-true, lt-ltb}
use Rattle.std.proofs.lemmas.Bool.Decides.{leb_tells}
use Rattle.cu_shape.specs.Index.{product}
use Rattle.cu_shape.specs.Counts.{at_least_one}
use Rattle.cu_shape.proofs.Rounded.{before_end}
use Rattle.cu_origin.specs.Pull.{has_axis}
use Rattle.cu_origin.specs.declared.axes.Axes.{Axes}
use Rattle.cu_tree.specs.Rounds.{merge_round, axis_rounds, merged_on, rounds_from}
use Rattle.cu_tree.specs.declared.round.Round.{Round}

halved : (d n g : ℕ) → 2 ≤ g → (d - 1 < d → (d - 1) * g < n) → 2 * d ≤ n + 1
halved zero n g h k = omega arith
halved (suc d) n g h k =
    let e : suc d - 1 ≡ d = omega arith in
    let w = rw e at k in
    let p : d * g < n = w (omega arith) in
    let q : d * 2 ≤ d * g = mul-le-mul_left d h in
    omega arith

pub halves : (n g : ℕ) → 2 ≤ g → 2 * div_ceil n g ≤ n + 1
halves n g h = halved (div_ceil n g) n g h (before_end n g (div_ceil n g - 1) (omega arith))

-- how many rounds there may be is no limit, where there may be as many as partial results
same_by : (g axis f f' n : ℕ) (b : Bool) → nat_lt 1 n ≡ b → (1 < n → axis_rounds g axis f (div_ceil n g) ≡ axis_rounds g axis f' (div_ceil n g))
    → axis_rounds g axis (suc f) n ≡ axis_rounds g axis (suc f') n
same_by g axis f f' n true e h = rw e (ap (λ rs. merge_round g axis n ∷ rs) (h (ltb-true 1 n e)))
same_by g axis f f' n false e h = rw e refl

pub same_rounds : (g axis f f' n : ℕ) → 2 ≤ g → n ≤ f → n ≤ f' → axis_rounds g axis f n ≡ axis_rounds g axis f' n
same_rounds g axis zero zero n h p q = refl
same_rounds g axis zero (suc f') n h p q = let e : n ≡ 0 = omega arith in rw e refl
same_rounds g axis (suc f) zero n h p q = let e : n ≡ 0 = omega arith in rw e refl
same_rounds g axis (suc f) (suc f') n h p q =
    let half = halves n g h in
    same_by g axis f f' n (nat_lt 1 n) refl (λ more. same_rounds g axis f f' (div_ceil n g) h (omega arith) (omega arith))

pub rounds_more : (g axis n : ℕ) → 2 ≤ g → 1 < n → axis_rounds g axis n n ≡ merge_round g axis n ∷ axis_rounds g axis (div_ceil n g) (div_ceil n g)
rounds_more g axis zero h more = absurd (omega arith)
rounds_more g axis (suc f) h more =
    let half = halves (suc f) g h in
    rw (lt-ltb 1 (suc f) more) (ap (λ rs. merge_round g axis (suc f) ∷ rs) (same_rounds g axis f (div_ceil (suc f) g) (div_ceil (suc f) g) h (omega arith) (omega arith)))

pub rounds_none : (g axis n : ℕ) → n ≤ 1 → axis_rounds g axis n n ≡ []
rounds_none g axis zero h = refl
rounds_none g axis (suc zero) h = refl
rounds_none g axis (suc (suc n)) h = absurd (omega arith)

-- ---- how many rounds there are

few_by : (g axis f n : ℕ) (b : Bool) → nat_lt 1 n ≡ b → 2 * div_ceil n g ≤ n + 1 → 2 ^ length (axis_rounds g axis f (div_ceil n g)) ≤ max 1 (2 * (div_ceil n g - 1))
    → 2 ^ length (axis_rounds g axis (suc f) n) ≤ max 1 (2 * (n - 1))
few_by g axis f n true e half h =
    let more = ltb-true 1 n e in
    let p = pow-succ' 2 (length (axis_rounds g axis f (div_ceil n g))) in
    rw e (rw p (omega arith))
few_by g axis f n false e half h = rw e (omega arith)

pub rounds_few : (g axis f n : ℕ) → 2 ≤ g → 2 ^ length (axis_rounds g axis f n) ≤ max 1 (2 * (n - 1))
rounds_few g axis zero n h = omega arith
rounds_few g axis (suc f) n h = few_by g axis f n (nat_lt 1 n) refl (halves n g h) (rounds_few g axis f (div_ceil n g) h)

-- two to the rounds of all axes
one_axis : (g axis n : ℕ) (b : Bool) → 2 ≤ g → 2 ^ length (axis_rounds g axis (if b then n else 1) (if b then n else 1)) ≤ 2 * max 1 n
one_axis g axis n true h = let p = rounds_few g axis n n h in omega arith
one_axis g axis n false h = omega arith

two_lists : (xs ys : List Round) (a b c : ℕ) → 2 ^ length xs ≤ 2 * a → 2 ^ length ys ≤ b * c → 2 ^ length (xs ++ ys) ≤ 2 * b * (a * c)
two_lists xs ys a b c h k =
    let m : 2 ^ length xs * 2 ^ length ys ≤ 2 * a * (b * c) = mul-le (2 ^ length xs) (2 ^ length ys) (2 * a) (b * c) h k in
    rw (length-append xs ys, pow-add 2 (length xs) (length ys)) (omega arith)

pub all_few : (axes : Axes) (g first : ℕ) (ns : List ℕ) → 2 ≤ g → 2 ^ length (rounds_from axes g first ns) ≤ 2 ^ length ns * product (at_least_one ns)
all_few axes g first [] h = omega arith
all_few axes g first (n ∷ ns) h =
    rw (pow-succ' 2 (length ns))
    (two_lists (axis_rounds g first (merged_on axes first n) (merged_on axes first n)) (rounds_from axes g (first + 1) ns) (max 1 n) (2 ^ length ns) (product (at_least_one ns))
    (one_axis g first n (has_axis axes first) h) (all_few axes g (first + 1) ns h))

small_power : (r : ℕ) → 2 ^ r ≤ 4194304 → r ≤ 22
small_power r h = elim (leb_tells r 22) [
  | inl p ↦ p.1
  | inr p ↦ let q = p.1 in let m : 2 ^ 23 ≤ 2 ^ r = pow_mono {i = 23} {j = r} (omega arith) in absurd (omega arith)
]

-- at most six axes with at most 65,536 partial results have at most 24 rounds
pub rounds_fit : (axes : Axes) (g first : ℕ) (ns : List ℕ) → 2 ≤ g → length ns ≤ 6 → product (at_least_one ns) ≤ 65536 → length (rounds_from axes g first ns) ≤ 24
rounds_fit axes g first ns h short few =
    let a = all_few axes g first ns h in
    let b : 2 ^ length ns ≤ 2 ^ 6 = pow_mono {i = length ns} {j = 6} short in
    let m : 2 ^ length ns * product (at_least_one ns) ≤ 64 * 65536 = mul-le (2 ^ length ns) (product (at_least_one ns)) 64 65536 (omega arith) few in
    let r = small_power (length (rounds_from axes g first ns)) (omega arith) in
    omega arith

-- those of one axis
pub one_fits : (g axis n : ℕ) → 2 ≤ g → n ≤ 65536 → length (axis_rounds g axis n n) ≤ 24
one_fits g axis n h few =
    let p = rounds_few g axis n n h in
    let r = small_power (length (axis_rounds g axis n n)) (omega arith) in
    omega arith

-- ---- the loops

-- what the next axis adds
pub with_rounds : (axes : Axes) (g : ℕ) (counts : List ℕ) (k m : ℕ) (whole items : List Round) → k < length counts → m ≡ merged_on axes k (get_or counts k 0) → whole ≡ items ++ rounds_from axes g k (drop k counts)
    → whole ≡ (items ++ axis_rounds g k m m) ++ rounds_from axes g (k + 1) (drop (k + 1) counts)
with_rounds axes g counts k m whole items h t e =
    let a : rounds_from axes g k (drop k counts) ≡ axis_rounds g k m m ++ rounds_from axes g (k + 1) (drop (k + 1) counts) = rw (drop_more counts k 0 h) (ap (λ n. axis_rounds g k n n ++ rounds_from axes g (k + 1) (drop (k + 1) counts)) (sym t)) in
    e ∙ (ap (λ rs. items ++ rs) a ∙ sym (append_assoc items (axis_rounds g k m m) (rounds_from axes g (k + 1) (drop (k + 1) counts))))

-- what is appended fits where the whole does
pub part_fits : (whole items more rest : List Round) → whole ≡ (items ++ more) ++ rest → length whole ≤ 24 → length items + length more ≤ 24
part_fits whole items more rest e h =
    let a = length-append (items ++ more) rest in
    let b = length-append items more in
    let l = ap length e in
    omega arith

-- a round of an axis
pub round_pushed : (g axis n to : ℕ) (whole items new : List Round) → 2 ≤ g → 1 < n → to ≡ div_ceil n g → new ≡ items ++ record { axis = axis; from = n; to = to } ∷ [] → whole ≡ items ++ axis_rounds g axis n n
    → whole ≡ new ++ axis_rounds g axis to to
round_pushed g axis n to whole items new h more t p e =
    rw (p, t)
    (e ∙ (ap (λ rs. items ++ rs) (rounds_more g axis n h more) ∙ sym (append_assoc items (merge_round g axis n ∷ []) (axis_rounds g axis (div_ceil n g) (div_ceil n g)))))

pub round_fits : (g axis n : ℕ) (whole items : List Round) → 2 ≤ g → 1 < n → whole ≡ items ++ axis_rounds g axis n n → length whole ≤ 24 → length items < 24
round_fits g axis n whole items h more e fits =
    let a = length-append items (axis_rounds g axis n n) in
    let b = ap length (rounds_more g axis n h more) in
    let l = ap length e in
    omega arith

pub rounds_done : (g axis n : ℕ) (whole items : List Round) → n ≤ 1 → whole ≡ items ++ axis_rounds g axis n n → items ≡ whole
rounds_done g axis n whole items h e = sym (e ∙ (ap (λ rs. items ++ rs) (rounds_none g axis n h) ∙ append-nil items))

-- at the end no axis is left
pub all_done : (axes : Axes) (g : ℕ) (counts : List ℕ) (k : ℕ) (whole items : List Round) → length counts ≤ k → whole ≡ items ++ rounds_from axes g k (drop k counts) → items ≡ whole
all_done axes g counts k whole items h e =
    sym (e ∙ (ap (λ ns. items ++ rounds_from axes g k ns) (drop_all k counts h) ∙ append-nil items))
