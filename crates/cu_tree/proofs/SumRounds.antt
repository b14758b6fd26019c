-- The rounds of arrays of sums: few are enough, and each keeps the rule of a round.
use Rattle.std.proofs.Common.{◌≡◌, ℕ, zero, suc, ◌+◌, ◌-◌, ◌*◌, ◌<◌, ◌≤◌, ◌^◌, Bool, true, false, List, [], ◌∷◌, ◌++◌, length, get_or, set, max, nat_lt, refl, ap, sym, ◌∙◌, subst, arith}
use Rattle.std.specs.Int.{div_ceil}
use Rattle.std.proofs.Math.Nat.{pow-succ'}
use Rattle.std.proofs.Math.Pow.{pow_mono}
use Rattle.std.proofs.Math.ListN.{length-set}
use Rattle.std.proofs.lemmas.List.{length-append, append_assoc, append-nil, get_or-set_same}
use Rattle.std.proofs.lemmas.Bool.{ltb-true, ltb-false, lt-ltb, le-ltb}
use Rattle.std.proofs.lemmas.Bool.Decides.{leb_tells}
use Rattle.cu_tree.specs.Rounds.{merge_round}
use Rattle.cu_tree.specs.Sums.{sum_rounds, AreSumRounds}
use Rattle.cu_tree.specs.declared.round.Round.{Round}
use Rattle.cu_tree.proofs.Falls.{halves}
use Rattle.std.proofs.Common.{inl, inr}

-- how many rounds there may be is no limit, where there may be as many as sums
same_by : (g axis f f' n : ℕ) (b : Bool) → nat_lt g n ≡ b → (g < n → sum_rounds g axis f (div_ceil n g) ≡ sum_rounds g axis f' (div_ceil n g))
    → sum_rounds g axis (suc f) n ≡ sum_rounds g axis (suc f') n
same_by g axis f f' n true e h = rw e (ap (λ rs. merge_round g axis n ∷ rs) (h (ltb-true g n e)))
same_by g axis f f' n false e h = rw e refl

pub none_left : (g axis f n : ℕ) → n ≤ g → sum_rounds g axis f n ≡ []
none_left g axis zero n h = refl
none_left g axis (suc f) n h = rw (le-ltb g n h) refl

pub same_rounds : (g axis f f' n : ℕ) → 2 ≤ g → n ≤ f → n ≤ f' → sum_rounds g axis f n ≡ sum_rounds g axis f' n
same_rounds g axis zero f' n h p q = sym (none_left g axis f' n (omega arith))
same_rounds g axis (suc f) zero n h p q = none_left g axis (suc f) n (omega arith)
same_rounds g axis (suc f) (suc f') n h p q =
    let half = halves n g h in
    same_by g axis f f' n (nat_lt g n) refl (λ more. same_rounds g axis f f' (div_ceil n g) h (omega arith) (omega arith))

pub one_more : (g axis n : ℕ) → 2 ≤ g → g < n → sum_rounds g axis n n ≡ merge_round g axis n ∷ sum_rounds g axis (div_ceil n g) (div_ceil n g)
one_more g axis zero h more = absurd (omega arith)
one_more g axis (suc f) h more =
    let half = halves (suc f) g h in
    rw (lt-ltb g (suc f) more) (ap (λ rs. merge_round g axis (suc f) ∷ rs) (same_rounds g axis f (div_ceil (suc f) g) (div_ceil (suc f) g) h (omega arith) (omega arith)))

-- ---- how many rounds there are

few_by : (g axis f n : ℕ) (b : Bool) → nat_lt g n ≡ b → 2 ≤ g → 2 * div_ceil n g ≤ n + 1 → 2 ^ length (sum_rounds g axis f (div_ceil n g)) ≤ max 1 (div_ceil n g - 1)
    → 2 ^ length (sum_rounds g axis (suc f) n) ≤ max 1 (n - 1)
few_by g axis f n true e several half h =
    let more = ltb-true g n e in
    let p = pow-succ' 2 (length (sum_rounds g axis f (div_ceil n g))) in
    rw e (rw p (omega arith))
few_by g axis f n false e several half h = rw e (omega arith)

rounds_few : (g axis f n : ℕ) → 2 ≤ g → 2 ^ length (sum_rounds g axis f n) ≤ max 1 (n - 1)
rounds_few g axis zero n h = omega arith
rounds_few g axis (suc f) n h = few_by g axis f n (nat_lt g n) refl h (halves n g h) (rounds_few g axis f (div_ceil n g) h)

small_power : (r : ℕ) → 2 ^ r ≤ 65535 → r ≤ 15
small_power r h = elim (leb_tells r 15) [
  | inl p ↦ p.1
  | inr p ↦ let q = p.1 in let m : 2 ^ 16 ≤ 2 ^ r = pow_mono {i = 16} {j = r} (omega arith) in absurd (omega arith)
]

-- 65,536 sums, in groups of at least two, have at most 15 rounds
pub rounds_fit : (g axis n : ℕ) → 2 ≤ g → n ≤ 65536 → length (sum_rounds g axis n n) ≤ 15
rounds_fit g axis n h few =
    let p = rounds_few g axis n n h in
    small_power (length (sum_rounds g axis n n)) (omega arith)

-- ---- the loop

pub round_pushed : (g axis n to : ℕ) (whole items new : List Round) → 2 ≤ g → g < n → to ≡ div_ceil n g → new ≡ items ++ record { axis = axis; from = n; to = to } ∷ [] → whole ≡ items ++ sum_rounds g axis n n
    → whole ≡ new ++ sum_rounds g axis to to
round_pushed g axis n to whole items new h more t p e =
    rw (p, t)
    (e ∙ (ap (λ rs. items ++ rs) (one_more g axis n h more) ∙ sym (append_assoc items (merge_round g axis n ∷ []) (sum_rounds g axis (div_ceil n g) (div_ceil n g)))))

pub round_fits : (g axis n : ℕ) (whole items : List Round) → 2 ≤ g → g < n → whole ≡ items ++ sum_rounds g axis n n → length whole ≤ 15 → length items < 15
round_fits g axis n whole items h more e fits =
    let a = length-append items (sum_rounds g axis n n) in
    let b = ap length (one_more g axis n h more) in
    let l = ap length e in
    omega arith

pub rounds_done : (g axis n : ℕ) (whole items : List Round) → n ≤ g → whole ≡ items ++ sum_rounds g axis n n → items ≡ whole
rounds_done g axis n whole items h e = sym (e ∙ (ap (λ rs. items ++ rs) (none_left g axis n n h) ∙ append-nil items))

-- ---- the rule of a round

pub are_sum_rounds : (g axis f : ℕ) (counts : List ℕ) → 2 ≤ g → axis < length counts → get_or counts axis 0 ≤ f → AreSumRounds g axis counts (sum_rounds g axis f (get_or counts axis 0))
are_sum_rounds g axis zero counts h inside few = omega arith
are_sum_rounds g axis (suc f) counts h inside few =
    by_count (nat_lt g (get_or counts axis 0)) refl
    (λ more.
    let half = halves (get_or counts axis 0) g h in
    let l = length-set counts axis (div_ceil (get_or counts axis 0) g) in
    let e = get_or-set_same counts axis (div_ceil (get_or counts axis 0) g) 0 inside in
    subst (λ (n : ℕ). AreSumRounds g axis (set counts axis (div_ceil (get_or counts axis 0) g)) (sum_rounds g axis f n)) e
    (are_sum_rounds g axis f (set counts axis (div_ceil (get_or counts axis 0) g)) h (omega arith) (omega arith)))
  where
    by_count : (b : Bool) → nat_lt g (get_or counts axis 0) ≡ b
        → (g < get_or counts axis 0 → AreSumRounds g axis (set counts axis (div_ceil (get_or counts axis 0) g)) (sum_rounds g axis f (div_ceil (get_or counts axis 0) g)))
        → AreSumRounds g axis counts (sum_rounds g axis (suc f) (get_or counts axis 0))
    by_count true e next =
        let more = ltb-true g (get_or counts axis 0) e in
        rw e (record { inside = inside; axis = refl; from = refl; more = more; to = refl }, next more)
    by_count false e next = rw e (ltb-false g (get_or counts axis 0) e)
