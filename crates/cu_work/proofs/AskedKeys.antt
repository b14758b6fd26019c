-- Asking for the chunks of a part's tasks: keys that were asked for, one more, and what is found.
use Rattle.std.proofs.Common.{◌≡◌, ◌⊎◌, inl, inr, ℕ, zero, suc, ◌+◌, ◌*◌, Bool, true, false, List, [], ◌∷◌, length, Contains, Option, Some, None, refl, ap, sym, ◌∙◌, subst, arith}
use Rattle.std.specs.Prelude.{◌||◌, bytes_eq}
use Rattle.std.proofs.Math.Nat.{mul-add}
use Rattle.std.proofs.lemmas.List.Elements.{All-cons, All-weaker, All-contains}
use Rattle.std.proofs.lemmas.Slice.Eq.{bytes_eq-Decides}
use Rattle.std.proofs.Common.{String, string_bytes, cond}
use Rattle.std.proofs.lemmas.Map.Text.{hash_set_updates_text}
use Rattle.std.specs.declared.alloc.Global.{Global}
use Rattle.std.specs.HashSet.{HashSet, Updates, contains_text}
use Rattle.std.specs.String.{string_eq}
use Rattle.cu_store.specs.Faults.{last_count}
use Rattle.cu_store.specs.Held.{Contents, IsHeldIn}
use Rattle.cu_store.specs.Steps.{Shown, Changes, NoChange, OrLate, IsChangedBy, Lands, Steps}
use Rattle.cu_store.proofs.Steps.{steps_then, steps_wider}
use Rattle.cu_op.specs.PlanView.{PlanView}
use Rattle.cu_op.specs.Schedule.{key_of}
use Rattle.cu_work.specs.World.{IsStored}
use Rattle.cu_work.proofs.Searching.{held_stays, none_fills, told_then}
use Rattle.cu_work.specs.Asked.{Asking, HasAsked, IsAsking, IsSoughtInput, has_key}
use Rattle.cu_work.specs.Part.{HasInputs, LacksChunk, LacksInput}

-- ---- keys in a set

or_turned : (a b : Bool) → cond a true b ≡ (b || a)
or_turned true true = refl
or_turned true false = refl
or_turned false true = refl
or_turned false false = refl

-- a set has what it had, and the text that is put in
pub inserted : {S : Type 0} (old new : HashSet (String Global) S) (text : String Global) → Updates string_eq old new text true
    → (key : List ℕ) → contains_text new key ≡ (contains_text old key || bytes_eq (string_bytes text) key)
inserted old new text puts key =
    hash_set_updates_text (string_bytes text) old new true puts key ∙ or_turned (bytes_eq (string_bytes text) key) (contains_text old key)

-- ---- keys in a list

or_parts : (a b : Bool) → (a || b) ≡ true → (a ≡ true) ⊎ (b ≡ true)
or_parts true b e = inl refl
or_parts false b e = inr e

or_second : (a b : Bool) → b ≡ true → (a || b) ≡ true
or_second true b e = refl
or_second false b e = e

or_first : (a b : Bool) → a ≡ true → (a || b) ≡ true
or_first true b e = refl
or_first false b e = cc

behind : (k key : List ℕ) (ks : List (List ℕ)) → Contains ks key → Contains (k ∷ ks) key
behind k key ks (i, below, e) = (suc i, omega (arith, below), e)

pub has_contains : (ks : List (List ℕ)) (key : List ℕ) → has_key ks key ≡ true → Contains ks key
has_contains [] key e = cc
has_contains (k ∷ ks) key e = elim (or_parts (has_key ks key) (bytes_eq k key) e) [
  | inl later ↦ behind k key ks (has_contains ks key later)
  | inr here ↦ (0, omega arith, (bytes_eq-Decides k key).0 here)
]

contains_has : (ks : List (List ℕ)) (key : List ℕ) → Contains ks key → has_key ks key ≡ true
contains_has [] key (i, below, e) = absurd (omega (arith, below))
contains_has (k ∷ ks) key (zero, below, e) = or_second (has_key ks key) (bytes_eq k key) ((bytes_eq-Decides k key).1 e)
contains_has (k ∷ ks) key (suc i, below, e) = or_first (has_key ks key) (bytes_eq k key) (contains_has ks key (i, omega (arith, below), e))

-- ---- what a step of no change keeps

-- the count of calls never passes its last value
pub steps_ever : (W : Changes) (l m : ℕ) (a b : Shown) → Steps W l m a b → Steps W l last_count a b
steps_ever W l m a b step = record {
  lands = step.lands;
  late = step.late;
  count = step.count;
  calls = (step.calls.0, let most = step.calls.2 in omega (arith, most), step.calls.2);
  lacks = step.lacks;
}

pub held_on : (l m : ℕ) (old new : Shown) → Steps NoChange l m old new → (key : List ℕ) → IsHeldIn old.held key → IsHeldIn new.held key
held_on l m old new step key h = held_stays NoChange none_fills l m old new step key h

pub inputs_on : (p : PlanView) (k task l m : ℕ) (old new : Shown) → Steps NoChange l m old new → HasInputs p k task old.held → HasInputs p k task new.held
inputs_on p k task l m old new step has key made = held_on l m old new step key (has key made)

pub stored_on : (p : PlanView) (k task l m : ℕ) (old new : Shown) (held now : Contents) → Steps NoChange l m old new → old.held ≡ Some held → new.held ≡ Some now
    → IsStored p held k task → IsStored p now k task
stored_on p k task l m old new held now step told told_now stored c listed =
    subst (λ (h : Option Contents). IsHeldIn h (key_of p.arrays c)) told_now
    (held_on l m old new step (key_of p.arrays c) (subst (λ (h : Option Contents). IsHeldIn h (key_of p.arrays c)) (sym told) (stored c listed)))

-- what is absent afterwards was absent before
absent_at : (late : _) (a b : Contents) (key : List ℕ) → IsChangedBy (OrLate NoChange late) a b key → b key ≡ None → a key ≡ None
absent_at late a b key (inl same) none = sym same ∙ none
absent_at late a b key (inr (inl change)) none = absurd change
absent_at late a b key (inr (inr (bytes, is, among))) none = cc

pub absent_before : (l m : ℕ) (old new : Shown) (held now : Contents) → Steps NoChange l m old new → old.held ≡ Some held → new.held ≡ Some now → (key : List ℕ) → now key ≡ None → held key ≡ None
absent_before l m old new held now step told told_now key none =
    absent_at old.late held now key (subst (λ (h : Option Contents). Lands (OrLate NoChange old.late) h (Some now)) told
    (subst (λ (h : Option Contents). Lands (OrLate NoChange old.late) old.held h) told_now step.lands) key) none

pub lacks_chunk_before : (p : PlanView) (k task l m : ℕ) (old new : Shown) → Steps NoChange l m old new → LacksChunk p k task new → LacksChunk p k task old
lacks_chunk_before p k task l m old new step lacks held told stored =
    let (now, told_now) = told_then NoChange l m old new step held told in
    lacks now told_now (stored_on p k task l m old new held now step told told_now stored)

pub lacks_input_before : (p : PlanView) (k task l m : ℕ) (old new : Shown) → Steps NoChange l m old new → LacksInput p k task new → LacksInput p k task old
lacks_input_before p k task l m old new step lacks held told =
    let (now, told_now) = told_then NoChange l m old new step held told in
    let (key, made, none) = lacks now told_now in
    (key, made, absent_before l m old new held now step told told_now key none)

-- ---- asking goes on

module _ (s : Asking) (own : ℕ) (known : List ℕ → Bool) (old : Shown) (a : IsAsking s own known old) where
  pub asked_of : HasAsked s own old
  asked_of = record {
    inputs = a.inputs;
    differ = a.differ;
    sought = a.sought;
    step = steps_wider (λ k value change. change) (omega arith) (omega arith) a.step;
  }

  -- a key that is known is held
  pub known_held : (key : List ℕ) → known key ≡ true → IsHeldIn old.held key
  known_held key holds_so = All-contains (IsHeldIn old.held) a.inputs key a.held (has_contains a.inputs key (sym (a.same key) ∙ holds_so))

  -- calls for so many keys that tasks write, at least so many of them
  calls_wider : (least len : ℕ) (new : Shown) → Steps NoChange least (s.tries * len) old new → Steps NoChange (own + least) (s.tries * ((own + len) + length a.inputs)) s.start new
  calls_wider least len new step =
      let n = length a.inputs in
      let x = mul-add s.tries own n in
      let y = mul-add s.tries (own + len) n in
      let z = mul-add s.tries own len in
      steps_wider (λ k value change. change) (omega arith) (omega (arith, x, y, z)) (steps_then a.step step)

  pub asked_wider : (len : ℕ) (new : Shown) → Steps NoChange 0 (s.tries * len) old new → HasAsked s (own + len) new
  asked_wider len new step = record {
    inputs = a.inputs;
    differ = a.differ;
    sought = a.sought;
    step = steps_wider (λ k value change. change) (omega arith) (omega arith) (calls_wider 0 len new step);
  }

  pub own_asked : (len : ℕ) (new : Shown) → Steps NoChange len (s.tries * len) old new → IsAsking s (own + len) known new
  own_asked len new step = record {
    inputs = a.inputs;
    same = a.same;
    differ = a.differ;
    sought = a.sought;
    step = calls_wider len len new step;
    held = All-weaker (IsHeldIn old.held) (IsHeldIn new.held) (held_on len (s.tries * len) old new step) a.inputs a.held;
  }

  -- an input that isn't known yet
  module _ (key : List ℕ) (unknown : known key ≡ false) (sought : IsSoughtInput s key) (new : Shown) (step : Steps NoChange 1 s.tries old new) where
    differs : Contains a.inputs key → ⊥
    differs there = let holds_so = contains_has a.inputs key there in let fails_so = a.same key in cc

    input_step : Steps NoChange own (s.tries * (own + length (key ∷ a.inputs))) s.start new
    input_step =
        let n = length a.inputs in
        let x = mul-add s.tries (own + n) 1 in
        let y = ap (λ k. s.tries * k) (let e : own + length (key ∷ a.inputs) ≡ (own + n) + 1 = omega arith in e) in
        steps_wider (λ k value change. change) (omega arith) (omega (arith, x, y)) (steps_then a.step step)

    pub input_asked : HasAsked s own new
    input_asked = record {
      inputs = key ∷ a.inputs;
      differ = (differs, a.differ);
      sought = All-cons (IsSoughtInput s) key a.inputs sought a.sought;
      step = steps_wider (λ k value change. change) (omega arith) (omega arith) input_step;
    }

    pub input_found : (later : List ℕ → Bool) → ((other : List ℕ) → later other ≡ (known other || bytes_eq key other)) → IsHeldIn new.held key → IsAsking s own later new
    input_found later more held = record {
      inputs = key ∷ a.inputs;
      same = λ other. more other ∙ ap (λ b. b || bytes_eq key other) (a.same other);
      differ = (differs, a.differ);
      sought = All-cons (IsSoughtInput s) key a.inputs sought a.sought;
      step = input_step;
      held = All-cons (IsHeldIn new.held) key a.inputs held (All-weaker (IsHeldIn old.held) (IsHeldIn new.held) (held_on 1 s.tries old new step) a.inputs a.held);
    }
