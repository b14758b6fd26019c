-- Calls of a depot, one after another, however many.
use Rattle.std.proofs.Common.{◌≡◌, ◌⊎◌, ℕ, ◌+◌, ◌*◌, ◌≤◌, List, Option, Some, None, inl, inr, sym, ◌∙◌, arith, add-mul, one-mul, mul-le-mul_right}
use Rattle.cu_store.specs.Held.{Contents, Write, IsGone}
use Rattle.cu_store.specs.Steps.{Shown, Changes, NoChange, Within, OrLate, Lands, Steps}
use Rattle.cu_store.proofs.Steps.{steps_same, steps_then, steps_wider}
use Rattle.cu_command.specs.Seen.{Stepped, WithinCalls}

pub stepped : {W : Changes} {l m : ℕ} {a b : Shown} → Steps W l m a b → Stepped W a b
stepped {m = m} step = record { calls = m; step = steps_wider (λ key value own. own) (omega arith) (omega arith) step }

pub stepped_same : (W : Changes) (a : Shown) → Stepped W a a
stepped_same W a = record { calls = 0; step = steps_same W a }

pub stepped_then : {W : Changes} {a b c : Shown} → Stepped W a b → Stepped W b c → Stepped W a c
stepped_then first second = record { calls = first.calls + second.calls; step = steps_then first.step second.step }

pub stepped_wider : {V W : Changes} {a b : Shown} → Within V W → Stepped V a b → Stepped W a b
stepped_wider within step = record { calls = step.calls; step = steps_wider within (omega arith) (omega arith) step.step }

pub stepped_none : {W : Changes} {a b : Shown} → Stepped NoChange a b → Stepped W a b
stepped_none step = stepped_wider (λ key value none. absurd none) step

gone_here : (late : List Write) (old new : Option Contents) (key : List ℕ) → Lands (OrLate NoChange late) old new → IsGone new key → IsGone old key
gone_here late None new key lands gone = tt
gone_here late (Some old) None key lands gone = absurd lands
gone_here late (Some old) (Some new) key lands gone = before (old key) (new key) (lands key) gone
  where
    before : (a b : Option (List ℕ)) → (b ≡ a) ⊎ OrLate NoChange late key b → b ≡ None → a ≡ None
    before a b (inl same) none = sym same ∙ none
    before a b (inr (inl none)) gone = absurd none
    before a b (inr (inr (bytes, is, among))) gone = cc

-- what is absent now was absent before, where nothing but late puts has landed
pub gone_before : (old new : Shown) (key : List ℕ) → Stepped NoChange old new → IsGone new.held key → IsGone old.held key
gone_before old new key step gone = gone_here old.late old.held new.held key step.step.lands gone

-- ---- how many calls are made, so many for each of some keys

-- for some keys, and then for others
pub within_then : (m n tries : ℕ) (a b c : Shown) → WithinCalls (m * tries) a b → WithinCalls (n * tries) b c → WithinCalls ((m + n) * tries) a c
within_then m n tries a b c first next = omega (arith, first, next, add-mul m n tries)

-- and then for one key more
pub within_more : (n tries : ℕ) (a b c : Shown) → WithinCalls (n * tries) a b → WithinCalls tries b c → WithinCalls ((n + 1) * tries) a c
within_more n tries a b c first next = omega (arith, first, next, add-mul n 1 tries, one-mul tries)

-- for fewer keys
pub within_few : (n m tries : ℕ) (a b : Shown) → n ≤ m → WithinCalls (n * tries) a b → WithinCalls (m * tries) a b
within_few n m tries a b few calls = omega (arith, calls, mul-le-mul_right tries few)
