-- A step of a depot around another is one of the depot in it with a late put and counts of its own, of which that of the calls has risen by one.
use Rattle.std.proofs.Common.{◌≡◌, ℕ, ◌+◌, ◌-◌, ◌≤◌, ◌==◌, OnErr, if◌then◌else◌, min, List, Bool, true, false, Option, Some, None, Result, Ok, Err, refl, inl, inr, sym, subst, arith}
use Rattle.cu_store.specs.Faults.{last_count, Rose}
use Rattle.cu_store.specs.Held.{Contents, Write, IsAmong}
use Rattle.cu_store.specs.Steps.{Shown, Changes, NoChange, PutOf, Within, OrLate, Lands, AllLateIn, MadeCalls, Steps, LandsLate, AddsOnlyFailed, Caused}
use Rattle.cu_store.specs.declared.faults.DepotFault.{DepotFault}
use Rattle.cu_store.specs.declared.faults.DepotFault.TheVariants.{Failed, NoMemory}
use Rattle.cu_store.proofs.Steps.{lands_same, lands_then, lands_wider, steps_none, steps_then}
use Rattle.test_depots.specs.FailingCounts.{FailsBy, IsCallOfSpan}
use Rattle.test_depots.specs.Late.{KeepsAtMost, LandsOnly, due_put, late_with, shown_with, still_late}
use Rattle.test_depots.specs.declared.late.FailedPut.{FailedPut}
use Rattle.test_depots.specs.declared.span.FailingCalls.{FailingCalls}

-- ---- a late put that lands

own_within : (put : FailedPut) (h : Contents) (late : List Write) → Within (OrLate (PutOf put.key put.bytes.items) late) (OrLate NoChange (late_with (Some h) (Some put) late))
own_within put h late key value (inl (of_key, is)) = inr (put.bytes.items, is, inl (of_key, refl))
own_within put h late key value (inr (bytes, is, among)) = inr (bytes, is, inr among)

own_lands : (a b : Option Contents) (late : List Write) (put : FailedPut) → Lands (OrLate (PutOf put.key put.bytes.items) late) a b → Lands (OrLate NoChange (late_with a (Some put) late)) a b
own_lands None None late put lands = tt
own_lands None (Some b) late put lands = absurd lands
own_lands (Some a) None late put lands = absurd lands
own_lands (Some a) (Some b) late put lands =
    lands_wider (OrLate (PutOf put.key put.bytes.items) late) (OrLate NoChange (late_with (Some a) (Some put) late)) (Some a) (Some b) (own_within put a late) lands

own_late : (a b : Option Contents) (before after : List Write) (put : FailedPut) → Lands (OrLate (PutOf put.key put.bytes.items) before) a b → AllLateIn after (OrLate (PutOf put.key put.bytes.items) before)
    → AllLateIn (late_with b None after) (OrLate NoChange (late_with a (Some put) before))
own_late None None before after put lands late = λ key bytes among. absurd among
own_late (Some a) None before after put lands late = λ key bytes among. absurd among
own_late None (Some b) before after put lands late = absurd lands
own_late (Some a) (Some b) before after put lands late = λ key bytes among. own_within put a before key (Some bytes) (late key bytes among)

landed_put : (a b : Shown) (put : FailedPut) → Steps (PutOf put.key put.bytes.items) 1 1 a b → LandsOnly (shown_with a (Some put) 0 0) (shown_with b None 0 0)
landed_put a b put step = record {
  lands = own_lands a.held b.held a.late put step.lands;
  late = own_late a.held b.held a.late b.late put step.lands step.late;
  lacks = step.lacks;
}

-- the put that is due has been made
pub due_landed : (a b : Shown) (late : Option FailedPut) (put : FailedPut) → Some put ≡ due_put late → Steps (PutOf put.key put.bytes.items) 1 1 a b
    → LandsOnly (shown_with a late 0 0) (shown_with b (still_late late) 0 0)
due_landed a b None put is step = absurd (cc)
due_landed a b (Some q) put is step = at (q.wait == 0) is
  where
    at : (due : Bool) → Some put ≡ (if due then Some q else None) → LandsOnly (shown_with a (Some q) 0 0) (shown_with b (if due then None else Some (record q { wait = q.wait - 1 })) 0 0)
    at true e = let same : put ≡ q = cc in subst (λ (p : FailedPut). LandsOnly (shown_with a (Some p) 0 0) (shown_with b None 0 0)) same (landed_put a b put step)
    at false e = absurd (cc)

-- ---- a step of the depot in it, with this late put

inner_within : (W : Changes) (h : Contents) (put : Option FailedPut) (late : List Write) → Within (OrLate W late) (OrLate W (late_with (Some h) put late))
inner_within W h None late key value own = own
inner_within W h (Some put) late key value (inl own) = inl own
inner_within W h (Some put) late key value (inr (bytes, is, among)) = inr (bytes, is, inr among)

inner_lands : (W : Changes) (a b : Option Contents) (put : Option FailedPut) (late : List Write) → Lands (OrLate W late) a b → Lands (OrLate W (late_with a put late)) a b
inner_lands W None None put late lands = tt
inner_lands W None (Some b) put late lands = absurd lands
inner_lands W (Some a) None put late lands = absurd lands
inner_lands W (Some a) (Some b) put late lands = lands_wider (OrLate W late) (OrLate W (late_with (Some a) put late)) (Some a) (Some b) (inner_within W a put late) lands

told_late : (W : Changes) (a b : Contents) (put : Option FailedPut) (before after : List Write) → AllLateIn after (OrLate W before) → (key bytes : List ℕ)
    → IsAmong (late_with (Some b) put after) key bytes → OrLate W (late_with (Some a) put before) key (Some bytes)
told_late W a b None before after late key bytes among = late key bytes among
told_late W a b (Some put) before after late key bytes (inl own) = inr (bytes, refl, inl own)
told_late W a b (Some put) before after late key bytes (inr among) = inner_within W a (Some put) before key (Some bytes) (late key bytes among)

inner_late : (V W : Changes) (a b : Option Contents) (put : Option FailedPut) (before after : List Write) → Lands V a b → AllLateIn after (OrLate W before)
    → AllLateIn (late_with b put after) (OrLate W (late_with a put before))
inner_late V W None None put before after lands late = λ key bytes among. absurd among
inner_late V W (Some a) None put before after lands late = λ key bytes among. absurd among
inner_late V W None (Some b) put before after lands late = absurd lands
inner_late V W (Some a) (Some b) put before after lands late = told_late W a b put before after late

inner : (W : Changes) (m n : Shown) (put : Option FailedPut) (f g d : ℕ) → Steps W 1 1 m n → f ≤ g → d ≤ last_count → Steps W 0 0 (shown_with m put f d) (shown_with n put g d)
inner W m n put f g d step count few = record {
  lands = inner_lands W m.held n.held put m.late step.lands;
  late = inner_late (OrLate W m.late) W m.held n.held put m.late n.late step.lands step.late;
  count = count;
  calls = (omega arith, omega arith, omega arith);
  lacks = step.lacks;
}

-- ---- whole calls

one_more : (c d : ℕ) → d ≡ min (c + 1) last_count → MadeCalls 1 1 c d
one_more c d is = (omega (arith, is), omega (arith, is), omega (arith, is))

begun : (W : Changes) (a m : Shown) (o p : Option FailedPut) (f c d : ℕ) → LandsOnly (shown_with a o 0 0) (shown_with m p 0 0) → d ≡ min (c + 1) last_count → Steps W 1 1 (shown_with a o f c) (shown_with m p f d)
begun W a m o p f c d landed is = steps_none (record { lands = landed.lands; late = landed.late; count = omega arith; calls = one_more c d is; lacks = landed.lacks })

-- a call of the depot in it
pub made_steps : (W : Changes) (a m n : Shown) (o p : Option FailedPut) (f g c d : ℕ) → LandsOnly (shown_with a o 0 0) (shown_with m p 0 0) → Steps W 1 1 m n → f ≤ g → d ≡ min (c + 1) last_count
    → Steps W 1 1 (shown_with a o f c) (shown_with n p g d)
made_steps W a m n o p f g c d landed step count is = steps_then (begun W a m o p f c d landed is) (inner W m n p f g d step count (omega (arith, is)))

-- a call that doesn't reach it
pub kept_steps : (W : Changes) (a m : Shown) (o p : Option FailedPut) (f g c d : ℕ) → LandsOnly (shown_with a o 0 0) (shown_with m p 0 0) → f ≤ g → d ≡ min (c + 1) last_count
    → Steps W 1 1 (shown_with a o f c) (shown_with m p g d)
kept_steps W a m o p f g c d landed count is = steps_none (record { lands = landed.lands; late = landed.late; count = count; calls = one_more c d is; lacks = landed.lacks })

kept_late : (h : Option Contents) (writes : List Write) (land : Option ℕ) (key bytes : List ℕ) (p q : Option FailedPut) → KeepsAtMost land key bytes p q
    → AllLateIn (late_with h q writes) (OrLate (PutOf key bytes) (late_with h p writes))
kept_late None writes land key bytes p q keeps = λ k b among. absurd among
kept_late (Some h) writes land key bytes p q (inl same) = λ k b among. inr (b, refl, subst (λ (o : Option FailedPut). IsAmong (late_with (Some h) o writes) k b) same among)
kept_late (Some h) writes land key bytes p q (inr (put, is, none, lands, of_key, of_bytes)) = λ k b among.
    subst (λ (o : Option FailedPut). OrLate (PutOf key bytes) (late_with (Some h) o writes) k (Some b)) (sym none)
    (at k b (subst (λ (o : Option FailedPut). IsAmong (late_with (Some h) o writes) k b) is among))
  where
    at : (k b : List ℕ) → IsAmong (late_with (Some h) (Some put) writes) k b → OrLate (PutOf key bytes) writes k (Some b)
    at k b (inl (own_key, own_bytes)) = inl (cc, cc)
    at k b (inr among) = inr (b, refl, among)

-- a put that doesn't reach it, and may be late from now on
pub put_steps : (key bytes : List ℕ) (land : Option ℕ) (a m : Shown) (o p q : Option FailedPut) (f g c d : ℕ) → LandsOnly (shown_with a o 0 0) (shown_with m p 0 0) → KeepsAtMost land key bytes p q
    → f ≤ g → d ≡ min (c + 1) last_count → Steps (PutOf key bytes) 1 1 (shown_with a o f c) (shown_with m q g d)
put_steps key bytes land a m o p q f g c d landed keeps count is =
    let few : d ≤ last_count = omega (arith, is) in
    let more : Steps (PutOf key bytes) 0 0 (shown_with m p f d) (shown_with m q g d) = record {
      lands = lands_same (OrLate (PutOf key bytes) (late_with m.held p m.late)) m.held;
      late = kept_late m.held m.late land key bytes p q keeps;
      count = count;
      calls = (omega arith, omega arith, omega arith);
      lacks = refl;
    } in
    steps_then (begun (PutOf key bytes) a m o p f c d landed is) more

-- nothing has landed but late puts
pub refused_lands : {T : Type 0} (a m n : Shown) (o p : Option FailedPut) (f g c d : ℕ) (answer : Result T DepotFault) → LandsOnly (shown_with a o 0 0) (shown_with m p 0 0)
    → OnErr answer (LandsLate m n) → OnErr answer (LandsLate (shown_with a o f c) (shown_with n p g d))
refused_lands a m n o p f g c d (Ok x) landed refused = tt
refused_lands a m n o p f g c d (Err e) landed refused =
    lands_then NoChange (late_with a.held o a.late) (late_with m.held p m.late) a.held m.held n.held landed.late landed.lands (inner_lands NoChange m.held n.held p m.late refused)

late_back : (before between : List Write) (key bytes : List ℕ) → AllLateIn between (OrLate NoChange before) → OrLate NoChange between key (Some bytes) → OrLate NoChange before key (Some bytes)
late_back before between key bytes stay (inl none) = absurd none
late_back before between key bytes stay (inr (is_bytes, is, among)) = subst (λ (v : Option (List ℕ)). OrLate NoChange before key v) (sym is) (stay key is_bytes among)

no_more : (V : Changes) (a m n : Shown) (o p : Option FailedPut) → LandsOnly (shown_with a o 0 0) (shown_with m p 0 0) → Lands V m.held n.held → AllLateIn n.late (OrLate NoChange m.late)
    → AllLateIn (late_with n.held p n.late) (OrLate NoChange (late_with a.held o a.late))
no_more V a m n o p landed lands late = λ key bytes among.
    late_back (late_with a.held o a.late) (late_with m.held p m.late) key bytes landed.late (inner_late V NoChange m.held n.held p m.late n.late lands late key bytes among)

-- only a put that failed is added to the late ones
pub adds_only : {T : Type 0} (V : Changes) (a m n : Shown) (o p : Option FailedPut) (answer : Result T DepotFault) → LandsOnly (shown_with a o 0 0) (shown_with m p 0 0) → Lands V m.held n.held
    → AddsOnlyFailed answer m.late n.late → AddsOnlyFailed answer (late_with a.held o a.late) (late_with n.held p n.late)
adds_only V a m n o p (Ok x) landed lands late = no_more V a m n o p landed lands late
adds_only V a m n o p (Err Failed) landed lands late = tt
adds_only V a m n o p (Err NoMemory) landed lands late = no_more V a m n o p landed lands late

risen : {A : Type 0} (before : ℕ) (m n : Shown) (answer : Result A DepotFault) → before ≤ m.faults → Caused 1 m n answer → answer ≡ Err Failed → Rose 1 before n.faults
risen before m n (Ok x) count cause is = absurd (cc)
risen before m n (Err Failed) count (rose, calls) is = omega arith
risen before m n (Err NoMemory) count cause is = absurd (cc)

-- a call of the depot in it fails only where that depot's has failed
pub made_fails : {A : Type 0} (span : FailingCalls) (number before : ℕ) (m n : Shown) (answer : Result A DepotFault) → (IsCallOfSpan span number → ⊥) → before ≤ m.faults → Caused 1 m n answer
    → FailsBy span number before n.faults answer
made_fails span number before m n answer free count cause = record { spanned = λ is. absurd (free is); others = λ not is. risen before m n answer count cause is }
