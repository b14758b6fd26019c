-- Removing keys, one list after another.
use Rattle.std.proofs.Common.{◌≡◌, inl, inr, ℕ, suc, ◌+◌, ◌*◌, ◌≤◌, List, [], ◌∷◌, ◌++◌, length, map, All, Option, Some, None, ap, sym, ◌∙◌, subst, arith}
use Rattle.std.specs.Prelude.{Result, Ok, Err, OnErr}
use Rattle.std.proofs.lemmas.List.{length-append, append_assoc, append-nil}
use Rattle.std.proofs.lemmas.List.Elements.{All-append, All-nil, All-cons, All-weaker, All-head, All-tail, Contains-append_left, Contains-append_right}
use Rattle.cu_store.specs.Held.{Contents, Write, IsAmong, IsGone}
use Rattle.cu_store.specs.Steps.{Shown, NoChange, RemovalOf, OrLate, IsChangedBy, Lands, LandsLate, AllLateIn, Steps, OnceEach, Caused}
use Rattle.cu_store.specs.declared.faults.DepotFault.{DepotFault}
use Rattle.cu_store.specs.declared.faults.DepotFault.TheVariants as depot
use Rattle.cu_store.proofs.Once.{once_few}
use Rattle.cu_store.proofs.Steps.{steps_same, steps_then, steps_wider, steps_none}
use Rattle.cu_op.specs.declared.cells.Cell.{Cell}
use Rattle.cu_op.specs.Cells.{tasks_of, IsChunk}
use Rattle.cu_op.specs.PlanView.{PlanView}
use Rattle.cu_op.specs.Schedule.{op_of, key_of}
use Rattle.cu_op.specs.Walks.{written_chunks}
use Rattle.cu_work.specs.declared.removal.RemoveFault.{RemoveFault}
use Rattle.cu_work.specs.declared.removal.RemoveFault.TheVariants.{Failed, NoMemory}
use Rattle.cu_work.specs.Order.{task_keys, operation_keys, plan_keys}
use Rattle.cu_work.specs.Removal.{RemovalIn, IsGoneBut, StopsAt, IsRemoveFault, AreRemoved, keys_before_record, removed_keys}
use Rattle.cu_work.proofs.Asking.{operation_rest, plan_rest}
use Rattle.cu_work.proofs.EndedCalls.{Grows, all_calls, once_none, once_both, once_front, ends_one, ends_before, ends_behind}

pub removal_grows : Grows RemovalIn
removal_grows ks ls = ((λ key value change. (Contains-append_left ks ls key change.0, change.1)), (λ key value change. (Contains-append_right ks ls key change.0, change.1)))

-- ---- what is gone stays gone, late puts aside

module _ (keys : List (List ℕ)) (before late : List Write) where
  was_late : AllLateIn late (OrLate (RemovalIn keys) before) → (key bytes : List ℕ) → IsAmong late key bytes → IsAmong before key bytes
  was_late all key bytes among = from (all key bytes among)
    where
      from : OrLate (RemovalIn keys) before key (Some bytes) → IsAmong before key bytes
      from (inl (listed, none)) = absurd (let e : Some bytes ≡ None = none in cc)
      from (inr (own, is, first)) = let e : own ≡ bytes = cc in subst (λ (x : List ℕ). IsAmong before key x) e first

  gone_before : AllLateIn late (OrLate (RemovalIn keys) before) → (h : Option Contents) (key : List ℕ) → IsGoneBut late h key → IsGoneBut before h key
  gone_before all None key gone = tt
  gone_before all (Some held) key (inl none) = inl none
  gone_before all (Some held) key (inr (bytes, is, among)) = inr (bytes, is, was_late all key bytes among)

-- a step after which the key is still gone
module _ (keys : List (List ℕ)) (first late : List Write) (all : (key bytes : List ℕ) → IsAmong late key bytes → IsAmong first key bytes) where
  still_at : (a b : Contents) (key : List ℕ) → IsChangedBy (OrLate (RemovalIn keys) late) a b key → IsGoneBut first (Some a) key → IsGoneBut first (Some b) key
  still_at a b key (inl same) (inl none) = inl (same ∙ none)
  still_at a b key (inl same) (inr (bytes, is, among)) = inr (bytes, same ∙ is, among)
  still_at a b key (inr (inl (listed, none))) gone = inl none
  still_at a b key (inr (inr (bytes, is, among))) gone = inr (bytes, is, all key bytes among)

  still_gone : (a b : Option Contents) (key : List ℕ) → Lands (OrLate (RemovalIn keys) late) a b → IsGoneBut first a key → IsGoneBut first b key
  still_gone None None key lands gone = tt
  still_gone (Some a) (Some b) key lands gone = still_at a b key (lands key) gone
  still_gone None (Some b) key lands gone = absurd lands
  still_gone (Some a) None key lands gone = absurd lands

-- ---- keys, and then others

pub removed_nothing : (tries : ℕ) (shown : Shown) → AreRemoved tries [] shown shown (Ok tt)
removed_nothing tries shown = record {
  step = steps_wider (λ key value change. change) (omega arith) (omega arith) (steps_same (RemovalIn []) shown);
  once = once_few 0 (length {A = List ℕ} []) shown shown (omega arith) (once_none shown);
  called = omega arith;
  gone = All-nil (IsGoneBut shown.late shown.held);
  cause = tt;
}

-- with the calls that were made at least
module _ (tries : ℕ) (keys : List (List ℕ)) (old new : Shown) where
  pub counted : AreRemoved tries keys old new (Ok tt) → Steps (RemovalIn keys) (length keys) (tries * length keys) old new
  counted removed = record {
    lands = removed.step.lands;
    late = removed.step.late;
    count = removed.step.count;
    calls = (removed.called, removed.step.calls.1, removed.step.calls.2);
    lacks = removed.step.lacks;
  }

module _ (tries : ℕ) (ks ls : List (List ℕ)) (old between new : Shown) (first : AreRemoved tries ks old between (Ok tt)) where
  both_steps : Steps (RemovalIn ls) 0 (tries * length ls) between new → Steps (RemovalIn (ks ++ ls)) 0 (tries * length (ks ++ ls)) old new
  both_steps second =
      let m = all_calls tries ks ls in
      let a : Steps (RemovalIn (ks ++ ls)) 0 (tries * length ks) old between = steps_wider (removal_grows ks ls).0 (omega arith) (omega arith) first.step in
      let b : Steps (RemovalIn (ks ++ ls)) 0 (tries * length ls) between new = steps_wider (removal_grows ks ls).1 (omega arith) (omega arith) second in
      steps_wider (λ key value change. change) (omega arith) (omega (arith, m)) (steps_then a b)

  -- the first are still gone, and so are these of the others
  gone_both : (fs : List (List ℕ)) → Steps (RemovalIn ls) 0 (tries * length ls) between new → All (IsGoneBut between.late new.held) fs → All (IsGoneBut old.late new.held) (ks ++ fs)
  gone_both fs second gone =
      All-append (IsGoneBut old.late new.held) ks fs
      (All-weaker (IsGoneBut old.late between.held) (IsGoneBut old.late new.held)
      (λ key was. still_gone ls old.late between.late (was_late ks old.late between.late first.step.late) between.held new.held key second.lands was) ks first.gone)
      (All-weaker (IsGoneBut between.late new.held) (IsGoneBut old.late new.held) (gone_before ks old.late between.late first.step.late new.held) fs gone)

  stops_behind : (key : List ℕ) (fault : DepotFault) → Steps (RemovalIn ls) 0 (tries * length ls) between new → StopsAt tries ls (between, new) key fault → StopsAt tries (ks ++ ls) (old, new) key fault
  unfolding ends_behind
  stops_behind key fault second e = record {
    ends = ends_behind RemovalIn tries key fault removal_grows ks ls old between new (counted tries ks old between first) first.once e.ends;
    gone = gone_both e.ends.front second e.gone;
  }

  fault_behind : (f : RemoveFault) → Steps (RemovalIn ls) 0 (tries * length ls) between new → IsRemoveFault tries ls (between, new) f → IsRemoveFault tries (ks ++ ls) (old, new) f
  fault_behind (Failed key) second e = stops_behind key depot.Failed second e
  fault_behind NoMemory second (key, e) = (key, stops_behind key depot.NoMemory second e)

  pub removed_then : (r : Result (Unit {0}) RemoveFault) → AreRemoved tries ls between new r → AreRemoved tries (ks ++ ls) old new r
  removed_then (Ok x) second = record {
    step = both_steps second.step;
    once = once_both ks ls old between new first.once second.once;
    called = let n = length-append ks ls in let a = first.called in let b = second.called in omega (arith, n, a, b);
    gone = gone_both ls second.step second.gone;
    cause = tt;
  }
  removed_then (Err f) second = record {
    step = both_steps second.step;
    once = once_both ks ls old between new first.once second.once;
    called = tt;
    gone = tt;
    cause = fault_behind f second.step second.cause;
  }

-- keys of which one wasn't removed, and others that weren't called for
module _ (tries : ℕ) (ks ls : List (List ℕ)) (old new : Shown) where
  stops_before : (key : List ℕ) (fault : DepotFault) → StopsAt tries ks (old, new) key fault → StopsAt tries (ks ++ ls) (old, new) key fault
  unfolding ends_before
  stops_before key fault e = record { ends = ends_before RemovalIn tries key fault ks ls (old, new) e.ends; gone = e.gone }

  fault_before : (f : RemoveFault) → IsRemoveFault tries ks (old, new) f → IsRemoveFault tries (ks ++ ls) (old, new) f
  fault_before (Failed key) e = stops_before key depot.Failed e
  fault_before NoMemory (key, e) = (key, stops_before key depot.NoMemory e)

  pub removed_ended : (f : RemoveFault) → AreRemoved tries ks old new (Err f) → AreRemoved tries (ks ++ ls) old new (Err f)
  removed_ended f removed = record {
    step = let m = all_calls tries ks ls in steps_wider (removal_grows ks ls).0 (omega arith) (omega (arith, m)) removed.step;
    once = once_front ks ls old new removed.once;
    called = tt;
    gone = tt;
    cause = fault_before f removed.cause;
  }

-- ---- one key

module _ (tries : ℕ) (old new : Shown) (key : List ℕ) (step : Steps (RemovalOf key) 1 tries old new) (once : OnceEach 1 old new) where
  own_step : Steps (RemovalIn (key ∷ [])) 1 (tries * length (key ∷ [])) old new
  own_step = steps_wider (λ k value change. ((0, omega arith, sym change.0), change.1)) (omega arith) (omega arith) step

  own_once : OnceEach (length (key ∷ [])) old new
  own_once = once_few 1 (length (key ∷ [])) old new (omega arith) once

  gone_now : (h : Option Contents) → IsGone h key → IsGoneBut old.late h key
  gone_now None gone = tt
  gone_now (Some held) gone = inl gone

  pub removed_key : IsGone new.held key → AreRemoved tries (key ∷ []) old new (Ok tt)
  removed_key gone = record {
    step = steps_wider (λ k value change. change) (omega arith) (omega arith) own_step;
    once = own_once;
    called = own_step.calls.0;
    gone = All-cons (IsGoneBut old.late new.held) key [] (gone_now new.held gone) (All-nil (IsGoneBut old.late new.held));
    cause = tt;
  }

  -- a call that failed changed nothing
  module _ (lands : LandsLate old new) where
    pub kept_key : Steps NoChange 1 tries old new
    kept_key = record {
      lands = lands;
      late = λ k bytes among. from k bytes (step.late k bytes among);
      count = step.count;
      calls = step.calls;
      lacks = step.lacks;
    }
      where
        from : (k bytes : List ℕ) → OrLate (RemovalOf key) old.late k (Some bytes) → OrLate NoChange old.late k (Some bytes)
        from k bytes (inl (same, none)) = absurd (let e : Some bytes ≡ None = none in cc)
        from k bytes (inr late) = inr late

    pub kept_step : Steps NoChange 0 tries old new
    kept_step = steps_wider (λ k value change. change) (omega arith) (omega arith) kept_key

    pub unremoved_key : (f : RemoveFault) → IsRemoveFault tries (key ∷ []) (old, new) f → AreRemoved tries (key ∷ []) old new (Err f)
    unremoved_key f cause = record {
      step = steps_wider (λ k value change. change) (omega arith) (omega arith) own_step;
      once = own_once;
      called = tt;
      gone = tt;
      cause = cause;
    }

    stops_one : (fault : DepotFault) → Caused {T = Unit {0}} tries old new (Err fault) → StopsAt tries (key ∷ []) (old, new) key fault
    unfolding ends_one
    stops_one fault cause = record { ends = ends_one RemovalIn tries key fault old new kept_key once cause; gone = All-nil (IsGoneBut old.late new.held) }

    pub failed_key : Caused {T = Unit {0}} tries old new (Err depot.Failed) → AreRemoved tries (key ∷ []) old new (Err (Failed key))
    failed_key cause = unremoved_key (Failed key) (stops_one depot.Failed cause)

    pub lacked_key : Caused {T = Unit {0}} tries old new (Err depot.NoMemory) → AreRemoved tries (key ∷ []) old new (Err NoMemory)
    lacked_key cause = unremoved_key NoMemory (key, stops_one depot.NoMemory cause)

-- ---- keys of a plan, up to one task and one operation more

module _ (tries : ℕ) (p : PlanView) (old new : Shown) where
  pub task_removed : (k task : ℕ) (r : Result (Unit {0}) RemoveFault) → AreRemoved tries (operation_keys p k task ++ task_keys p k task) old new r → AreRemoved tries (operation_keys p k (task + 1)) old new r
  task_removed k task r removed = let e : suc task ≡ task + 1 = omega arith in subst (λ (n : ℕ). AreRemoved tries (operation_keys p k n) old new r) e removed

  pub operation_removed : (k : ℕ) (r : Result (Unit {0}) RemoveFault) → AreRemoved tries (plan_keys p k ++ operation_keys p k (tasks_of p.arrays (op_of p k))) old new r
      → AreRemoved tries (plan_keys p (k + 1)) old new r
  operation_removed k r removed = let e : suc k ≡ k + 1 = omega arith in subst (λ (n : ℕ). AreRemoved tries (plan_keys p n) old new r) e removed

  pub operation_stopped : (k n m : ℕ) (f : RemoveFault) → n ≤ m → AreRemoved tries (operation_keys p k n) old new (Err f) → AreRemoved tries (operation_keys p k m) old new (Err f)
  operation_stopped k n m f h removed =
      let r = operation_rest p k n m h in
      subst (λ (ks : List (List ℕ)). AreRemoved tries ks old new (Err f)) (sym r.1) (removed_ended tries (operation_keys p k n) r.0 old new f removed)

  pub plan_stopped : (n m : ℕ) (f : RemoveFault) → n ≤ m → AreRemoved tries (plan_keys p n) old new (Err f) → AreRemoved tries (plan_keys p m) old new (Err f)
  plan_stopped n m f h removed =
      let r = plan_rest p n m h in
      subst (λ (ks : List (List ℕ)). AreRemoved tries ks old new (Err f)) (sym r.1) (removed_ended tries (plan_keys p n) r.0 old new f removed)

-- ---- the chunks of a task

-- where the iterator stands
pub record RemovedSoFar (tries : ℕ) (p : PlanView) (k task : ℕ) (shown : Shown × Shown) (left : List Cell) : Type 0 where
  pub chunks : All (IsChunk p.arrays) left
  pub front : List (List ℕ)
  pub rest : front ++ map (key_of p.arrays) left ≡ task_keys p k task
  pub removed : AreRemoved tries front shown.0 shown.1 (Ok tt)

pub removed_at_first : (tries : ℕ) (p : PlanView) (k task : ℕ) (shown : Shown) (cells left : List Cell) → left ≡ cells → cells ≡ written_chunks p.arrays (op_of p k) task → All (IsChunk p.arrays) cells
    → RemovedSoFar tries p k task (shown, shown) left
removed_at_first tries p k task shown cells left e is chunks = record {
  chunks = subst (All (IsChunk p.arrays)) (sym e) chunks;
  front = [];
  rest = ap (map (key_of p.arrays)) (e ∙ is);
  removed = removed_nothing tries shown;
}

module _ (tries : ℕ) (p : PlanView) (k task : ℕ) (first now : Shown) (left : List Cell) (so_far : RemovedSoFar tries p k task (first, now) left) where
  pub removed_all : left ≡ [] → AreRemoved tries (task_keys p k task) first now (Ok tt)
  removed_all none =
      subst (λ (ks : List (List ℕ)). AreRemoved tries ks first now (Ok tt)) (sym (append-nil so_far.front) ∙ ap (λ cs. so_far.front ++ map (key_of p.arrays) cs) (sym none) ∙ so_far.rest) so_far.removed

  module _ (cell : Cell) (later : List Cell) (e : left ≡ cell ∷ later) where
    pub chunk_at : IsChunk p.arrays cell
    chunk_at = All-head (IsChunk p.arrays) cell later (subst (All (IsChunk p.arrays)) e so_far.chunks)

    whole : (so_far.front ++ key_of p.arrays cell ∷ []) ++ map (key_of p.arrays) later ≡ task_keys p k task
    whole = append_assoc so_far.front (key_of p.arrays cell ∷ []) (map (key_of p.arrays) later) ∙ ap (λ cs. so_far.front ++ map (key_of p.arrays) cs) (sym e) ∙ so_far.rest

    module _ (key : List ℕ) (is : key ≡ key_of p.arrays cell) (new : Shown) where
      one : (r : Result (Unit {0}) RemoveFault) → AreRemoved tries (key ∷ []) now new r → AreRemoved tries (so_far.front ++ key_of p.arrays cell ∷ []) first new r
      one r removed =
          removed_then tries so_far.front (key_of p.arrays cell ∷ []) first now new so_far.removed r (subst (λ (x : List ℕ). AreRemoved tries (x ∷ []) now new r) is removed)

      pub removed_stopped : (f : RemoveFault) → AreRemoved tries (key ∷ []) now new (Err f) → AreRemoved tries (task_keys p k task) first new (Err f)
      removed_stopped f removed =
          subst (λ (ks : List (List ℕ)). AreRemoved tries ks first new (Err f)) whole
          (removed_ended tries (so_far.front ++ key_of p.arrays cell ∷ []) (map (key_of p.arrays) later) first new f (one (Err f) removed))

      pub removed_more : AreRemoved tries (key ∷ []) now new (Ok tt) → RemovedSoFar tries p k task (first, new) later
      removed_more removed = record {
        chunks = All-tail (IsChunk p.arrays) cell later (subst (All (IsChunk p.arrays)) e so_far.chunks);
        front = so_far.front ++ key_of p.arrays cell ∷ [];
        rest = whole;
        removed = one (Ok tt) removed;
      }

-- ---- the record last

module _ (tries : ℕ) (p : PlanView) (record_key metadata_key : List ℕ) (old between new : Shown) where
  last_calls : tries * length (removed_keys p record_key metadata_key) ≡ tries * length (keys_before_record p metadata_key) + tries * 1
  last_calls = all_calls tries (keys_before_record p metadata_key) (record_key ∷ [])

  -- where one before it wasn't removed
  pub record_untouched : (f : RemoveFault) → AreRemoved tries (keys_before_record p metadata_key) old new (Err f)
      → Steps (RemovalIn (keys_before_record p metadata_key)) 0 (tries * length (removed_keys p record_key metadata_key)) old new
  record_untouched f removed = let m = last_calls in steps_wider (λ key value change. change) (omega arith) (omega (arith, m)) removed.step

  -- where it wasn't
  pub record_kept : AreRemoved tries (keys_before_record p metadata_key) old between (Ok tt) → Steps NoChange 0 tries between new
      → Steps (RemovalIn (keys_before_record p metadata_key)) 0 (tries * length (removed_keys p record_key metadata_key)) old new
  record_kept removed kept =
      let m = last_calls in
      let a : Steps (RemovalIn (keys_before_record p metadata_key)) 0 tries between new = steps_none kept in
      steps_wider (λ key value change. change) (omega arith) (omega (arith, m)) (steps_then removed.step a)

  -- the record's call ended so
  pub record_after : (r : Result (Unit {0}) RemoveFault) → AreRemoved tries (keys_before_record p metadata_key) old between (Ok tt) → OnErr r (Steps NoChange 0 tries between new)
      → OnErr r (Steps (RemovalIn (keys_before_record p metadata_key)) 0 (tries * length (removed_keys p record_key metadata_key)) old new)
  record_after (Ok x) removed kept = tt
  record_after (Err f) removed kept = record_kept removed kept
