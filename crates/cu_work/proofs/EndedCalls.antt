-- Calls that ended at a key of a list, and longer lists.
use Rattle.std.proofs.Common.{◌≡◌, ℕ, ◌+◌, ◌*◌, List, [], ◌∷◌, ◌++◌, length, refl, ap, sym, ◌∙◌, arith}
use Rattle.std.specs.Prelude.{Err}
use Rattle.std.proofs.Math.Nat.{mul-add}
use Rattle.std.proofs.lemmas.List.{length-append, append_assoc}
use Rattle.cu_store.specs.Steps.{Shown, Changes, NoChange, Within, Steps, OnceEach, Caused}
use Rattle.cu_store.specs.declared.faults.DepotFault.{DepotFault}
use Rattle.cu_store.specs.declared.faults.DepotFault.TheVariants as depot
use Rattle.cu_store.proofs.Once.{once_then, once_few, once_step}
use Rattle.cu_store.proofs.Steps.{steps_same, steps_then, steps_wider}
use Rattle.cu_work.specs.Ends.{EndsAt}

-- what is said of more keys allows what is said of some
abbrev pub Grows : (List (List ℕ) → Changes) → Type 0
Grows W = (ks ls : List (List ℕ)) → Within (W ks) (W (ks ++ ls)) × Within (W ls) (W (ks ++ ls))

pub all_calls : (tries : ℕ) (ks ls : List (List ℕ)) → tries * length (ks ++ ls) ≡ tries * length ks + tries * length ls
all_calls tries ks ls = ap (λ n. tries * n) (length-append ks ls) ∙ mul-add tries (length ks) (length ls)

-- none
pub once_none : (shown : Shown) → OnceEach 0 shown shown
once_none shown = once_step (steps_same NoChange shown)

-- keys, and then others
pub once_both : (ks ls : List (List ℕ)) (old between new : Shown) → OnceEach (length ks) old between → OnceEach (length ls) between new → OnceEach (length (ks ++ ls)) old new
once_both ks ls old between new first second =
    let n = length-append ks ls in
    once_few (length ks + length ls) (length (ks ++ ls)) old new (omega (arith, n)) (once_then (length ks) (length ls) old between new first second)

-- fewer keys
pub once_front : (ks ls : List (List ℕ)) (old new : Shown) → OnceEach (length ks) old new → OnceEach (length (ks ++ ls)) old new
once_front ks ls old new once = let n = length-append ks ls in once_few (length ks) (length (ks ++ ls)) old new (omega (arith, n)) once

-- steps over keys, and then over others
pub over_both : (W : List (List ℕ) → Changes) → Grows W → (tries : ℕ) (ks ls : List (List ℕ)) (old between new : Shown) → Steps (W ks) (length ks) (tries * length ks) old between
    → Steps (W ls) (length ls) (tries * length ls) between new → Steps (W (ks ++ ls)) (length (ks ++ ls)) (tries * length (ks ++ ls)) old new
over_both W grows tries ks ls old between new first second =
    let n = length-append ks ls in
    let m = all_calls tries ks ls in
    let a : Steps (W (ks ++ ls)) (length ks) (tries * length ks) old between = steps_wider (grows ks ls).0 (omega arith) (omega arith) first in
    let b : Steps (W (ks ++ ls)) (length ls) (tries * length ls) between new = steps_wider (grows ks ls).1 (omega arith) (omega arith) second in
    steps_wider (λ key value change. change) (omega (arith, n)) (omega (arith, m)) (steps_then a b)

module _ (W : List (List ℕ) → Changes) (tries : ℕ) (key : List ℕ) (fault : DepotFault) where
  -- at the only key
  unfoldable pub ends_one : (old new : Shown) → Steps NoChange 1 tries old new → OnceEach 1 old new → Caused {T = Unit {0}} tries old new (Err fault)
      → EndsAt W tries (key ∷ []) (old, new) key fault
  ends_one old new step once cause = record {
    front = [];
    back = [];
    listed = refl;
    between = old;
    before = steps_wider (λ k value change. change) (omega arith) (omega arith) (steps_same (W []) old);
    last = step;
    once = once_few 1 (length {A = List ℕ} [] + 1) old new (omega arith) once;
    cause = cause;
  }

  -- where others come behind
  unfoldable pub ends_before : (ks ls : List (List ℕ)) (shown : Shown × Shown) → EndsAt W tries ks shown key fault → EndsAt W tries (ks ++ ls) shown key fault
  ends_before ks ls shown e = record {
    front = e.front;
    back = e.back ++ ls;
    listed = ap (λ x. x ++ ls) e.listed ∙ append_assoc e.front (key ∷ e.back) ls;
    between = e.between;
    before = e.before;
    last = e.last;
    once = e.once;
    cause = e.cause;
  }

  -- where others come first
  unfoldable pub ends_behind : Grows W → (ks ls : List (List ℕ)) (old between new : Shown) → Steps (W ks) (length ks) (tries * length ks) old between → OnceEach (length ks) old between → EndsAt W tries ls (between, new) key fault
      → EndsAt W tries (ks ++ ls) (old, new) key fault
  ends_behind grows ks ls old between new step once e = record {
    front = ks ++ e.front;
    back = e.back;
    listed = ap (λ x. ks ++ x) e.listed ∙ sym (append_assoc ks e.front (key ∷ e.back));
    between = e.between;
    before = over_both W grows tries ks e.front old between e.between step e.before;
    last = e.last;
    once =
        let n = length-append ks e.front in
        once_few (length ks + (length e.front + 1)) (length (ks ++ e.front) + 1) old new (omega (arith, n)) (once_then (length ks) (length e.front + 1) old between new once e.once);
    cause = e.cause;
  }

  -- the calls in all
  pub ends_calls : (keys : List (List ℕ)) (old new : Shown) → ((front : List (List ℕ)) → Within (W front) NoChange) → EndsAt W tries keys (old, new) key fault
      → Steps NoChange 0 (tries * length keys) old new
  ends_calls keys old new none e =
      let n = ap (λ (x : List (List ℕ)). tries * length x) e.listed ∙ all_calls tries e.front (key ∷ e.back) in
      let m = mul-add tries 1 (length e.back) in
      let a : Steps NoChange (length e.front) (tries * length e.front) old e.between = steps_wider (none e.front) (omega arith) (omega arith) e.before in
      steps_wider (λ k value change. change) (omega arith) (omega (arith, n, m)) (steps_then a e.last)

  -- each key once
  pub ends_once : (keys : List (List ℕ)) (old new : Shown) → EndsAt W tries keys (old, new) key fault → OnceEach (length keys) old new
  ends_once keys old new e =
      let n = ap (length {A = List ℕ}) e.listed ∙ length-append e.front (key ∷ e.back) in
      once_few (length e.front + 1) (length keys) old new (omega (arith, n)) e.once

-- the cause of a fault is that of any answer with this fault
pub caused_as : (T : Type 0) (tries : ℕ) (old new : Shown) (own fault : DepotFault) → own ≡ fault → Caused {T = T} tries old new (Err own) → Caused {T = Unit {0}} tries old new (Err fault)
caused_as T tries old new depot.Failed depot.Failed e cause = cause
caused_as T tries old new depot.NoMemory depot.NoMemory e cause = cause
caused_as T tries old new depot.Failed depot.NoMemory e cause = cc
caused_as T tries old new depot.NoMemory depot.Failed e cause = cc
