-- From a folder that was lent to what a depot shares, and back.
use Rattle.std.proofs.Common.{◌≡◌, inl, inr, ◌↔◌, ℕ, Bool, true, false, IsTrue, ◌&&◌, List, [], Option, Some, None, IsSome, refl, sym, ap, ◌∙◌, rules}
use Rattle.std.specs.Prelude.{Result, Ok, Err, IfOk}
use Rattle.std.specs.declared.io.Error.{Error}
use Rattle.cu_store.specs.Held.{Contents}
use Rattle.cu_store.specs.Share.{Lent, ServesAs, HasSeenHeld, IsShared, PutPromised}
use Rattle.cu_store.specs.Steps.{Shown, OrLate, Lands}
use Rattle.cu_store.specs.Yard.{is_made}
use Rattle.cu_store.specs.declared.yard.Spec.{Spec}
use Rattle.cu_store.proofs.Specs.{made_is_served}
use Rattle.cu_dir.specs.Common.{KnowsOf, IsLentAs, IsPutUnder, is_there, seen_among, served_as}
use Rattle.cu_dir.specs.Depot.{AnswersAs}
use Rattle.cu_dir.specs.Names.{ends_as_new, path_of}
use Rattle.cu_dir.specs.Tree.{values_in, values_under}
use Rattle.cu_dir.specs.Yard.{served_over, known_over, IsTreePass}
use Rattle.cu_dir.specs.declared.yard.TreeYard.{TreeYard}
use Rattle.cu_dir.specs.declared.yard.TreePass.{TreePass}
use Rattle.cu_dir.proofs.NamesLemmas.{path_of_one, not_beside}
use Rattle.cu_dir.proofs.ValuesLemmas.{value_at, no_value, new_or_not}

pub tells_lent : (l : Lent) (values entries known : Option Contents) → KnowsOf l entries known → IsLentAs l.specs values known
    → ServesAs l values (served_as l entries)
tells_lent l None None None knows lent = (refl, refl)
tells_lent l (Some v) (Some e) (Some k) knows lent =
    (refl, (e, refl, λ key served read. sym (knows.read key read) ∙ lent key served))
tells_lent l None (Some e) None knows lent = absurd knows.read
tells_lent l None entries (Some k) knows lent = absurd lent
tells_lent l (Some v) entries None knows lent = absurd lent
tells_lent l (Some v) None (Some k) knows lent = absurd knows.read

there_or_not : (o : Option (List ℕ)) → IsTrue (is_there o) ↔ IsSome o
there_or_not None = search rules
there_or_not (Some x) = search rules

made_and : (made : Bool) (o p : Option (List ℕ)) → IsTrue made → p ≡ o → IsTrue (made && is_there p) ↔ IsSome o
made_and made o p is same = rw (is, same) (there_or_not o)

pub lent_seen : (specs : List Spec) (values known : Option Contents) → IsLentAs specs values known → HasSeenHeld specs values (seen_among specs known)
lent_seen specs None None lent = λ key made. refl
lent_seen specs (Some v) (Some k) lent = λ key made. made_and (is_made specs key) (v key) (k key) made (lent key (made_is_served specs key made))
lent_seen specs None (Some k) lent = absurd lent
lent_seen specs (Some v) None lent = absurd lent

-- a folder that was lent is shared by the yard over it
pub is_shared : {C H : Type 0} {lent : C → Lent} {entries : C → Option Contents} {known : H → Option Contents} {owns : C → H → Type 0}
    → ((c : C) (h : H) → owns c h → KnowsOf (lent c) (entries c) (known h))
    → (y : TreeYard C) (p : TreePass C H) → IsTreePass lent owns y p → p.faults ≡ 0 → p.calls ≡ 0
    → (shown : Shown) → IsLentAs (lent y.common).specs shown.held (known p.hand)
    → IsShared (lent y.common) true shown (served_over lent entries y) (known_over lent entries known p)
is_shared {lent = lent} {entries = entries} {known = known} knows y p own no_faults no_calls shown is = record {
  specs = refl;
  tells = tells_lent (lent y.common) shown.held (entries y.common) (known p.hand) (knows y.common p.hand own.hand) is;
  promise = ap (λ c. (lent c).promise) own.common;
  lacks = refl;
  seen = rw own.common (lent_seen (lent y.common).specs shown.held (known p.hand) is);
  faults = no_faults;
  calls = no_calls;
}

-- what holds of the value of an answer holds of the value that is settled
pub settled : {A : Type 0} (answer : Result A Error) (value : A) (P : A → Type 0) → AnswersAs answer (Ok value) → IfOk answer P → P value
settled (Ok x) value P is holds = let same : value ≡ x = cc in rw same holds
settled (Err e) value P is holds = cc

pub lent_same : (a b : Lent) → a.specs ≡ b.specs → a.promise ≡ b.promise → a ≡ b
lent_same a b specs promise = rw (specs, promise) refl

-- the bytes at a made key's path are its promise
promise_at : (folder : List ℕ) (l : Lent) (files : Contents) (key made : List ℕ) → ends_as_new key ≡ false → key ≡ made
    → PutPromised l made (files (path_of folder key)) → PutPromised l key (values_in folder files key)
promise_at folder l files key made apart same put =
    (put.0, value_at folder files key apart ∙ put.1, rw same put.2, rw same put.3)

-- what is put under a folder that was lent is the promise
pub put_under : (folder : List ℕ) (l : Lent) (old new : Option Contents) → IsPutUnder folder l old new
    → Lands (OrLate (PutPromised l) []) (values_under folder old) (values_under folder new)
put_under folder l None None put = tt
put_under folder l (Some old) (Some new) put = λ key.
    elim (new_or_not key) [
      | inl ends ↦ inl (no_value folder new key ends ∙ sym (no_value folder old key ends))
      | inr apart ↦ elim (put (path_of folder key)) [
        | inl same ↦ inl (value_at folder new key apart ∙ same ∙ sym (value_at folder old key apart))
        | inr (inl promised) ↦ inr (inl (promise_at folder l new key promised.0 apart (path_of_one folder key promised.0 promised.1.0) promised.1.1))
        | inr (inr left) ↦ absurd (not_beside folder left.0.0 key apart left.0.1.1)
      ]
    ]
put_under folder l None (Some new) put = absurd put
put_under folder l (Some old) None put = absurd put
