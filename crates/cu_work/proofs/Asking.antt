-- Asking for keys, one list after another.
use Rattle.std.proofs.Common.{◌≡◌, inl, inr, ℕ, ◌+◌, ◌*◌, ◌<◌, ◌≤◌, true, zero, suc, List, [], ◌∷◌, ◌++◌, length, map, take, drop, get_or, take-append-drop, All, Contains, Option, Some, None, refl, ap, sym, ◌∙◌, subst, arith}
use Rattle.std.specs.Prelude.{Result, Ok, Err, IsSome}
use Rattle.std.proofs.Math.Nat.{mul-add}
use Rattle.std.proofs.lemmas.Bool.{cases_lt}
use Rattle.std.proofs.lemmas.List.{length-append, append_assoc, append-nil, take_more}
use Rattle.std.proofs.lemmas.List.Elements.{All-append, All-nil, All-weaker, All-head, All-tail, Contains-append_left, Contains-append_right}
use Rattle.cu_store.specs.Faults.{Rose}
use Rattle.cu_store.specs.Held.{Contents, Answers, IsHeldIn}
use Rattle.cu_store.specs.Steps.{Shown, NoChange, OrLate, IsChangedBy, Lands, Steps, OnceEach}
use Rattle.cu_store.proofs.Once.{once_few}
use Rattle.cu_store.proofs.Steps.{steps_same, steps_then, steps_wider}
use Rattle.cu_op.specs.declared.cells.Cell.{Cell}
use Rattle.cu_op.specs.Cells.{tasks_of, IsChunk}
use Rattle.cu_op.specs.Walks.{written_chunks}
use Rattle.cu_op.specs.PlanView.{PlanView}
use Rattle.cu_op.specs.Schedule.{op_of, key_of}
use Rattle.cu_work.specs.declared.way.WayFault.{WayFault}
use Rattle.cu_work.specs.declared.way.WayFault.TheVariants.{Held, Failed, NoMemory}
use Rattle.cu_work.specs.Order.{IsFree, IsFirst, IfAsked, task_keys, operation_keys, plan_keys, IsAsked}
use Rattle.cu_work.proofs.EndedCalls.{once_none, once_both, once_front}

-- what is free later was free before
free_before : (old new : Shown) (l m : ℕ) → Steps NoChange l m old new → (held : Contents) → old.held ≡ Some held → (now : Contents) × (new.held ≡ Some now) × ((key : List ℕ) → IsFree now key → IsFree held key)
free_before old new l m step held told = from new.held refl (subst (λ (h : Option Contents). Lands (OrLate NoChange old.late) h new.held) told step.lands)
  where
    at : (now : Contents) (key : List ℕ) → IsChangedBy (OrLate NoChange old.late) held now key → IsFree now key → IsFree held key
    at now key (inl same) free = sym same ∙ free
    at now key (inr (inl none)) free = absurd none
    at now key (inr (inr (bytes, is, among))) free = cc

    from : (h : Option Contents) → new.held ≡ h → Lands (OrLate NoChange old.late) (Some held) h → (now : Contents) × (new.held ≡ Some now) × ((key : List ℕ) → IsFree now key → IsFree held key)
    from None e lands = absurd lands
    from (Some now) e lands = (now, e, λ key. at now key (lands key))

-- no key
pub asked_none : (tries : ℕ) (shown : Shown) → IsAsked tries shown shown [] (Ok tt)
asked_none tries shown = record {
  step = steps_wider (λ key value change. change) (omega arith) (omega arith) (steps_same NoChange shown);
  once = once_few 0 (length {A = List ℕ} []) shown shown (omega arith) (once_none shown);
  free = λ held told. All-nil (IsFree held);
  first = λ held told. tt;
  listed = tt;
  cause = tt;
}

first_behind : (held now : Contents) (ks ls : List (List ℕ)) (key : List ℕ) → All (IsFree held) ks → ((k : List ℕ) → IsFree now k → IsFree held k) → IsFirst now ls key → IsFirst held (ks ++ ls) key
first_behind held now ks ls key free before (front, back, is, apart) =
    (ks ++ front, back, ap (λ rest. ks ++ rest) is ∙ sym (append_assoc ks front (key ∷ back)), All-append (IsFree held) ks front free (All-weaker (IsFree now) (IsFree held) before front apart))

first_before : (held : Contents) (ks ls : List (List ℕ)) (key : List ℕ) → IsFirst held ks key → IsFirst held (ks ++ ls) key
first_before held ks ls key (front, back, is, apart) = (front, back ++ ls, ap (λ k. k ++ ls) is ∙ append_assoc front (key ∷ back) ls, apart)

all_calls : (tries : ℕ) (ks ls : List (List ℕ)) → tries * length (ks ++ ls) ≡ tries * length ks + tries * length ls
all_calls tries ks ls = ap (λ n. tries * n) (length-append ks ls) ∙ mul-add tries (length ks) (length ls)

-- keys that were free, and then others
pub asked_then : (tries : ℕ) (old between new : Shown) (ks ls : List (List ℕ)) (result : Result (Unit {0}) WayFault) → IsAsked tries old between ks (Ok tt) → IsAsked tries between new ls result
    → IsAsked tries old new (ks ++ ls) result
asked_then tries old between new ks ls (Ok x) before then = record {
  step = let e = all_calls tries ks ls in steps_wider (λ key value change. change) (omega arith) (omega (arith, e)) (steps_then before.step then.step);
  once = once_both ks ls old between new before.once then.once;
  free = λ held told.
      let (now, told_now, back) = free_before old between 0 (tries * length ks) before.step held told in
      All-append (IsFree held) ks ls (before.free held told) (All-weaker (IsFree now) (IsFree held) back ls (then.free now told_now));
  first = λ held told. tt;
  listed = tt;
  cause = tt;
}
asked_then tries old between new ks ls (Err (Held key)) before then = record {
  step = let e = all_calls tries ks ls in steps_wider (λ key value change. change) (omega arith) (omega (arith, e)) (steps_then before.step then.step);
  once = once_both ks ls old between new before.once then.once;
  free = λ held told. tt;
  first = λ held told.
      let (now, told_now, back) = free_before old between 0 (tries * length ks) before.step held told in
      first_behind held now ks ls key (before.free held told) back (then.first now told_now);
  listed = Contains-append_right ks ls key then.listed;
  cause = then.cause;
}
asked_then tries old between new ks ls (Err (Failed key)) before then = record {
  step = let e = all_calls tries ks ls in steps_wider (λ key value change. change) (omega arith) (omega (arith, e)) (steps_then before.step then.step);
  once = once_both ks ls old between new before.once then.once;
  free = λ held told. tt;
  first = λ held told.
      let (now, told_now, back) = free_before old between 0 (tries * length ks) before.step held told in
      first_behind held now ks ls key (before.free held told) back (then.first now told_now);
  listed = Contains-append_right ks ls key then.listed;
  cause = let grew = before.step.count in let rose = then.cause in omega (arith, grew, rose);
}
asked_then tries old between new ks ls (Err NoMemory) before then = record {
  step = let e = all_calls tries ks ls in steps_wider (λ key value change. change) (omega arith) (omega (arith, e)) (steps_then before.step then.step);
  once = once_both ks ls old between new before.once then.once;
  free = λ held told. tt;
  first = λ held told. tt;
  listed = tt;
  cause = then.cause;
}

-- keys of which one wasn't known to be free, and others that weren't asked for
pub asked_ended : (tries : ℕ) (old new : Shown) (ks ls : List (List ℕ)) (f : WayFault) → IsAsked tries old new ks (Err f) → IsAsked tries old new (ks ++ ls) (Err f)
asked_ended tries old new ks ls f asked = record {
  step = let e = all_calls tries ks ls in steps_wider (λ key value change. change) (omega arith) (omega (arith, e)) asked.step;
  once = once_front ks ls old new asked.once;
  free = λ held told. tt;
  first = λ held told. first f held (asked.first held told);
  listed = listed f asked.listed;
  cause = asked.cause;
}
  where
    first : (f : WayFault) (held : Contents) → IfAsked f (IsFirst held ks) → IfAsked f (IsFirst held (ks ++ ls))
    first (Held key) held h = first_before held ks ls key h
    first (Failed key) held h = first_before held ks ls key h
    first NoMemory held h = tt

    listed : (f : WayFault) → IfAsked f (Contains ks) → IfAsked f (Contains (ks ++ ls))
    listed (Held key) h = Contains-append_left ks ls key h
    listed (Failed key) h = Contains-append_left ks ls key h
    listed NoMemory h = tt

-- ---- one key

some_bytes : (o : Option (List ℕ)) → IsSome o → (bytes : List ℕ) × (o ≡ Some bytes)
some_bytes None h = cc
some_bytes (Some bytes) h = (bytes, refl)

held_in : (h : Option Contents) (key : List ℕ) → Answers h key (Ok true) → IsHeldIn h key
held_in None key answer = tt
held_in (Some held) key answer = some_bytes (held key) (answer.0 refl)

pub asked_held : (tries : ℕ) (old new : Shown) (key : List ℕ) → Steps NoChange 1 tries old new → OnceEach 1 old new → Answers new.held key (Ok true) → IsAsked tries old new (key ∷ []) (Err (Held key))
asked_held tries old new key step once answer = record {
  step = steps_wider (λ k value change. change) (omega arith) (omega arith) step;
  once = once_few 1 (length (key ∷ [])) old new (omega arith) once;
  free = λ held told. tt;
  first = λ held told. ([], [], refl, All-nil (IsFree held));
  listed = (0, omega arith, refl);
  cause = held_in new.held key answer;
}

pub asked_failed : (tries : ℕ) (old new : Shown) (key : List ℕ) → Steps NoChange 1 tries old new → OnceEach 1 old new → Rose tries old.faults new.faults → IsAsked tries old new (key ∷ []) (Err (Failed key))
asked_failed tries old new key step once rose = record {
  step = steps_wider (λ k value change. change) (omega arith) (omega arith) step;
  once = once_few 1 (length (key ∷ [])) old new (omega arith) once;
  free = λ held told. tt;
  first = λ held told. ([], [], refl, All-nil (IsFree held));
  listed = (0, omega arith, refl);
  cause = rose;
}

-- ---- keys of a plan, up to one task and one operation more

pub task_more : (tries : ℕ) (p : PlanView) (k task : ℕ) (old new : Shown) (result : Result (Unit {0}) WayFault) → IsAsked tries old new (operation_keys p k task ++ task_keys p k task) result
    → IsAsked tries old new (operation_keys p k (task + 1)) result
task_more tries p k task old new result asked = let e : suc task ≡ task + 1 = omega arith in subst (λ (n : ℕ). IsAsked tries old new (operation_keys p k n) result) e asked

pub operation_more : (tries : ℕ) (p : PlanView) (k : ℕ) (old new : Shown) (result : Result (Unit {0}) WayFault) → IsAsked tries old new (plan_keys p k ++ operation_keys p k (tasks_of p.arrays (op_of p k))) result
    → IsAsked tries old new (plan_keys p (k + 1)) result
operation_more tries p k old new result asked = let e : suc k ≡ k + 1 = omega arith in subst (λ (n : ℕ). IsAsked tries old new (plan_keys p n) result) e asked

-- the keys of the tasks so far stand in front of all
pub operation_rest : (p : PlanView) (k n m : ℕ) → n ≤ m → (rest : List (List ℕ)) × (operation_keys p k m ≡ operation_keys p k n ++ rest)
operation_rest p k n zero h = let none : n ≡ 0 = omega arith in ([], subst (λ (x : ℕ). [] ≡ operation_keys p k x ++ []) (sym none) refl)
operation_rest p k n (suc m) h =
    elim (cases_lt n (suc m)) [
      | inl less ↦
          let r = operation_rest p k n m (omega arith) in
          (r.0 ++ task_keys p k m, ap (λ ks. ks ++ task_keys p k m) r.1 ∙ append_assoc (operation_keys p k n) r.0 (task_keys p k m))
      | inr more ↦ let same : n ≡ suc m = omega arith in ([], subst (λ (x : ℕ). operation_keys p k (suc m) ≡ operation_keys p k x ++ []) (sym same) (sym (append-nil (operation_keys p k (suc m)))))
    ]

pub plan_rest : (p : PlanView) (n m : ℕ) → n ≤ m → (rest : List (List ℕ)) × (plan_keys p m ≡ plan_keys p n ++ rest)
plan_rest p n zero h = let none : n ≡ 0 = omega arith in ([], subst (λ (x : ℕ). [] ≡ plan_keys p x ++ []) (sym none) refl)
plan_rest p n (suc m) h =
    elim (cases_lt n (suc m)) [
      | inl less ↦
          let r = plan_rest p n m (omega arith) in
          (r.0 ++ operation_keys p m (tasks_of p.arrays (op_of p m)), ap (λ ks. ks ++ operation_keys p m (tasks_of p.arrays (op_of p m))) r.1 ∙ append_assoc (plan_keys p n) r.0 (operation_keys p m (tasks_of p.arrays (op_of p m))))
      | inr more ↦ let same : n ≡ suc m = omega arith in ([], subst (λ (x : ℕ). plan_keys p (suc m) ≡ plan_keys p x ++ []) (sym same) (sym (append-nil (plan_keys p (suc m)))))
    ]

pub operation_ended : (tries : ℕ) (p : PlanView) (k n m : ℕ) (old new : Shown) (f : WayFault) → n ≤ m → IsAsked tries old new (operation_keys p k n) (Err f) → IsAsked tries old new (operation_keys p k m) (Err f)
operation_ended tries p k n m old new f h asked =
    let r = operation_rest p k n m h in
    subst (λ (ks : List (List ℕ)). IsAsked tries old new ks (Err f)) (sym r.1) (asked_ended tries old new (operation_keys p k n) r.0 f asked)

pub plan_ended : (tries : ℕ) (p : PlanView) (n m : ℕ) (old new : Shown) (f : WayFault) → n ≤ m → IsAsked tries old new (plan_keys p n) (Err f) → IsAsked tries old new (plan_keys p m) (Err f)
plan_ended tries p n m old new f h asked =
    let r = plan_rest p n m h in
    subst (λ (ks : List (List ℕ)). IsAsked tries old new ks (Err f)) (sym r.1) (asked_ended tries old new (plan_keys p n) r.0 f asked)

-- ---- a list, one key after another

-- the keys up to one of a list
pub text_more : (tries : ℕ) (keys : List (List ℕ)) (i : ℕ) (key : List ℕ) (old between new : Shown) (result : Result (Unit {0}) WayFault) → i < length keys → key ≡ get_or keys i key
    → IsAsked tries old between (take i keys) (Ok tt) → IsAsked tries between new (key ∷ []) result → IsAsked tries old new (take (i + 1) keys) result
text_more tries keys i key old between new result h is before then =
    subst (λ (ks : List (List ℕ)). IsAsked tries old new ks result) (ap (λ x. take i keys ++ x ∷ []) is ∙ sym (take_more keys i key h)) (asked_then tries old between new (take i keys) (key ∷ []) result before then)

pub text_ended : (tries : ℕ) (keys : List (List ℕ)) (i : ℕ) (old new : Shown) (f : WayFault) → IsAsked tries old new (take i keys) (Err f) → IsAsked tries old new keys (Err f)
text_ended tries keys i old new f asked =
    subst (λ (ks : List (List ℕ)). IsAsked tries old new ks (Err f)) (take-append-drop i keys) (asked_ended tries old new (take i keys) (drop i keys) f asked)

-- ---- the chunks of a task

-- where the iterator stands
pub record CellsSoFar (tries : ℕ) (p : PlanView) (k task : ℕ) (shown : Shown × Shown) (left : List Cell) : Type 0 where
  pub chunks : All (IsChunk p.arrays) left
  pub front : List (List ℕ)
  pub rest : front ++ map (key_of p.arrays) left ≡ task_keys p k task
  pub asked : IsAsked tries shown.0 shown.1 front (Ok tt)

pub cells_at_first : (tries : ℕ) (p : PlanView) (k task : ℕ) (shown : Shown) (cells left : List Cell) → left ≡ cells → cells ≡ written_chunks p.arrays (op_of p k) task → All (IsChunk p.arrays) cells
    → CellsSoFar tries p k task (shown, shown) left
cells_at_first tries p k task shown cells left e is chunks = record {
  chunks = subst (All (IsChunk p.arrays)) (sym e) chunks;
  front = [];
  rest = ap (map (key_of p.arrays)) (e ∙ is);
  asked = asked_none tries shown;
}

module _ (tries : ℕ) (p : PlanView) (k task : ℕ) (first now : Shown) (left : List Cell) (so_far : CellsSoFar tries p k task (first, now) left) where
  pub cells_all : left ≡ [] → IsAsked tries first now (task_keys p k task) (Ok tt)
  cells_all none =
      subst (λ (ks : List (List ℕ)). IsAsked tries first now ks (Ok tt)) (sym (append-nil so_far.front) ∙ ap (λ cs. so_far.front ++ map (key_of p.arrays) cs) (sym none) ∙ so_far.rest) so_far.asked

  module _ (cell : Cell) (later : List Cell) (e : left ≡ cell ∷ later) where
    pub chunk_first : IsChunk p.arrays cell
    chunk_first = All-head (IsChunk p.arrays) cell later (subst (All (IsChunk p.arrays)) e so_far.chunks)

    whole : (so_far.front ++ key_of p.arrays cell ∷ []) ++ map (key_of p.arrays) later ≡ task_keys p k task
    whole = append_assoc so_far.front (key_of p.arrays cell ∷ []) (map (key_of p.arrays) later) ∙ ap (λ cs. so_far.front ++ map (key_of p.arrays) cs) (sym e) ∙ so_far.rest

    module _ (key : List ℕ) (is : key ≡ key_of p.arrays cell) (new : Shown) where
      one : (result : Result (Unit {0}) WayFault) → IsAsked tries now new (key ∷ []) result → IsAsked tries first new (so_far.front ++ key_of p.arrays cell ∷ []) result
      one result asked = asked_then tries first now new so_far.front (key_of p.arrays cell ∷ []) result so_far.asked (subst (λ (x : List ℕ). IsAsked tries now new (x ∷ []) result) is asked)

      pub cells_ended : (f : WayFault) → IsAsked tries now new (key ∷ []) (Err f) → IsAsked tries first new (task_keys p k task) (Err f)
      cells_ended f asked =
          subst (λ (ks : List (List ℕ)). IsAsked tries first new ks (Err f)) whole (asked_ended tries first new (so_far.front ++ key_of p.arrays cell ∷ []) (map (key_of p.arrays) later) f (one (Err f) asked))

      pub cells_more : IsAsked tries now new (key ∷ []) (Ok tt) → CellsSoFar tries p k task (first, new) later
      cells_more asked = record {
        chunks = All-tail (IsChunk p.arrays) cell later (subst (All (IsChunk p.arrays)) e so_far.chunks);
        front = so_far.front ++ key_of p.arrays cell ∷ [];
        rest = whole;
        asked = one (Ok tt) asked;
      }
