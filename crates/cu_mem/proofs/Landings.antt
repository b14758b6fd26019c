-- What lands is among what was late.
use Rattle.std.proofs.Common.{◌≡◌, ◌⊎◌, ℕ, List, [], ◌∷◌, ◌&&◌, if◌then◌else◌, Option, Some, Bool, true, false, refl, sym, inl, inr}
use Rattle.std.specs.Str.{bytes_eq}
use Rattle.std.proofs.lemmas.Slice.Eq.{bytes_eq-Decides}
use Rattle.cu_store.specs.Held.{IsAmong}
use Rattle.cu_mem.specs.declared.late.Waiting.{Waiting}
use Rattle.cu_mem.specs.Late.{is_due, one_less, waiting, late_writes}
use Rattle.cu_mem.proofs.LateLemmas.{landed, waiting_each, waiting_each-waiting}

-- a key holds what it held, or what landed there
abbrev pub LandedAt : List Waiting → List ℕ → Option (List ℕ) → Option (List ℕ) → Type 0
LandedAt late key held now = (now ≡ held) ⊎ ((bytes : List ℕ) × IsAmong (late_writes late) key bytes × (now ≡ Some bytes))

-- where the first lands or not, and then the others
landed_next : (here : Bool) (w : Waiting) (ws : List Waiting) (key : List ℕ) (held now : Option (List ℕ)) → (here ≡ true → key ≡ w.entry.0) → LandedAt ws key (if here then Some w.entry.1 else held) now → LandedAt (w ∷ ws) key held now
landed_next here w ws key held now same (inr (bytes, among, is)) = inr (bytes, inr among, is)
landed_next true w ws key held now same (inl is) = inr (w.entry.1, inl (same refl, refl), is)
landed_next false w ws key held now same (inl is) = inl is

test_both : (a b : Bool) → (a && b) ≡ true → b ≡ true
test_both true b both = both
test_both false b both = cc

pub landed_among : (late : List Waiting) (key : List ℕ) (held : Option (List ℕ)) → LandedAt late key held (landed late key held)
landed_among [] key held = inl refl
landed_among (w ∷ ws) key held =
    landed_next (is_due w && bytes_eq w.entry.0 key) w ws key held _
    (λ here. sym ((bytes_eq-Decides w.entry.0 key).0 (test_both (is_due w) (bytes_eq w.entry.0 key) here)))
    (landed_among ws key _)

-- what still waits was waiting
waits_next : (due : Bool) (w : Waiting) (ws : List Waiting) (key bytes : List ℕ) → IsAmong (late_writes (if due then ws else one_less w ∷ ws)) key bytes → ((key ≡ w.entry.0) × (bytes ≡ w.entry.1)) ⊎ IsAmong (late_writes ws) key bytes
waits_next true w ws key bytes among = inr among
waits_next false w ws key bytes among = among

each_among : (late : List Waiting) (key bytes : List ℕ) → IsAmong (late_writes (waiting_each late)) key bytes → IsAmong (late_writes late) key bytes
each_among [] key bytes among = among
each_among (w ∷ ws) key bytes among = elim (waits_next (is_due w) w (waiting_each ws) key bytes among) [ inl own ↦ inl own | inr other ↦ inr (each_among ws key bytes other) ]

pub waiting_among : (late : List Waiting) (key bytes : List ℕ) → IsAmong (late_writes (waiting late)) key bytes → IsAmong (late_writes late) key bytes
waiting_among late = rw (← waiting_each-waiting late) (each_among late)
