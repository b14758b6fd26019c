-- The parts of a call on a depot in memory, as steps.
use Rattle.std.proofs.Common.{◌≡◌, ◌≢◌, ◌⊎◌, ℕ, ◌+◌, ◌≤◌, min, List, [], ◌∷◌, ◌++◌, Option, Some, Bool, true, false, refl, sym, ap, ◌∙◌, inl, inr, arith}
use Rattle.std.specs.Option.{option_or}
use Rattle.std.specs.Str.{bytes_eq}
use Rattle.std.proofs.lemmas.Slice.Eq.{bytes_eq-Decides}
use Rattle.cu_store.specs.Faults.{last_count}
use Rattle.cu_store.specs.Held.{Contents, Write}
use Rattle.cu_store.specs.Steps.{Changes, NoChange, PutOf, OrLate, IsChangedBy, Lands, AllLateIn, Steps}
use Rattle.cu_store.proofs.Steps.{lands_same}
use Rattle.cu_mem.specs.declared.late.Waiting.{Waiting}
use Rattle.cu_mem.specs.Late.{lands_on, waiting, late_writes}
use Rattle.cu_mem.specs.Memory.{Memory, contents, shown_of}
use Rattle.cu_mem.proofs.LateLemmas.{landed-lands_on}
use Rattle.cu_mem.proofs.Landings.{LandedAt, landed_among, waiting_among}

landed_changes : (W : Changes) (late : List Waiting) (key : List ℕ) (held now : Option (List ℕ)) → LandedAt late key held now → (now ≡ held) ⊎ OrLate W (late_writes late) key now
landed_changes W late key held now (inl same) = inl same
landed_changes W late key held now (inr (bytes, among, is)) = inr (inr (bytes, is, among))

-- what is due lands
lands_due : (W : Changes) (late : List Waiting) (old new : Contents) → ((key : List ℕ) → new key ≡ option_or (lands_on late key) (old key)) → Lands (OrLate W (late_writes late)) (Some old) (Some new)
lands_due W late old new lands = λ key. rw (lands key, ← landed-lands_on late key (old key)) (landed_changes W late key (old key) _ (landed_among late key (old key)))

still_late : (W : Changes) (late now : List Waiting) → now ≡ waiting late → AllLateIn (late_writes now) (OrLate W (late_writes late))
still_late W late now waits = rw waits (λ key bytes among. inr (bytes, refl, waiting_among late key bytes among))

-- a call that lands what is due, and is counted
pub begins_step : (a b : Contents) (late now : List Waiting) (faults calls made : ℕ) → ((key : List ℕ) → b key ≡ option_or (lands_on late key) (a key)) → now ≡ waiting late → made ≡ min (calls + 1) last_count
    → Steps NoChange 1 1 record { held = Some a; late = late_writes late; faults = faults; calls = calls; lacks = true } record { held = Some b; late = late_writes now; faults = faults; calls = made; lacks = true }
begins_step a b late now faults calls made lands waits counted = record {
  lands = lands_due NoChange late a b lands;
  late = still_late NoChange late now waits;
  count = omega arith;
  calls = (omega arith, omega arith, omega arith);
  lacks = refl;
}

set_at : (same : Bool) (key bytes k : List ℕ) (late : List Write) (a b : Contents) → (same ≡ true → k ≡ key) → (same ≡ false → b k ≡ a k) → b key ≡ Some bytes → IsChangedBy (OrLate (PutOf key bytes) late) a b k
set_at true key bytes k late a b here other set = inr (inl (here refl, ap b (here refl) ∙ set))
set_at false key bytes k late a b here other set = inl (other refl)

-- bytes are put under a key
pub set_step : (key bytes : List ℕ) (old new : Memory) → contents new key ≡ Some bytes → ((other : List ℕ) → other ≢ key → contents new other ≡ contents old other)
    → new.late ≡ old.late → new.faults ≡ old.faults → new.calls ≡ old.calls → Steps (PutOf key bytes) 0 0 (shown_of old) (shown_of new)
set_step key bytes old new set others late faults calls = record {
  lands = λ k. set_at (bytes_eq k key) key bytes k (late_writes old.late) (contents old) (contents new) (bytes_eq-Decides k key).0
      (λ apart. others k (λ same. let no : false ≡ true = sym apart ∙ (bytes_eq-Decides k key).1 same in cc)) set;
  late = rw late (λ k b among. inr (b, refl, among));
  count = omega arith;
  calls = (omega arith, omega arith, omega arith);
  lacks = refl;
}

later_too : (W : Changes) (v : Waiting) (ws : List Waiting) (key : List ℕ) (value : Option (List ℕ)) → OrLate W (late_writes ws) key value → OrLate W (late_writes (v ∷ ws)) key value
later_too W v ws key value (inl own) = inl own
later_too W v ws key value (inr (bytes, is, among)) = inr (bytes, is, inr among)

-- the late puts, and one more
one_more_late : (ws : List Waiting) (w : Waiting) → AllLateIn (late_writes (ws ++ w ∷ [])) (OrLate (PutOf w.entry.0 w.entry.1) (late_writes ws))
one_more_late [] w key bytes (inl own) = inl (own.0, ap (λ (b : List ℕ). Some b) own.1)
one_more_late [] w key bytes (inr none) = absurd none
one_more_late (v ∷ ws) w key bytes (inl first) = inr (bytes, refl, inl first)
one_more_late (v ∷ ws) w key bytes (inr among) = later_too (PutOf w.entry.0 w.entry.1) v ws key (Some bytes) (one_more_late ws w key bytes among)

-- a put fails, and is late from now on
pub put_off_step : (w : Waiting) (old kept new : Memory) → kept ≡ record old { late = old.late ++ w ∷ [] } → new ≡ record kept { faults = min (kept.faults + 1) last_count } → kept.faults ≤ new.faults
    → Steps (PutOf w.entry.0 w.entry.1) 0 0 (shown_of old) (shown_of new)
put_off_step w old kept new keeps raised count =
    let before : kept.faults ≡ old.faults = ap (λ (m : Memory). m.faults) keeps in
    let after : new.faults ≡ min (old.faults + 1) last_count = ap (λ (m : Memory). m.faults) raised ∙ ap (λ (n : ℕ). min (n + 1) last_count) before in
    let rises : old.faults ≤ min (old.faults + 1) last_count = omega arith in
    rw (raised, keeps) (record {
      lands = lands_same (OrLate (PutOf w.entry.0 w.entry.1) (late_writes old.late)) (Some (contents old));
      late = one_more_late old.late w;
      count = rises;
      calls = (omega arith, omega arith, omega arith);
      lacks = refl;
    })
