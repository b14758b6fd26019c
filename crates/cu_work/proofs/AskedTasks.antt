-- Asking for what the tasks of a part read and write, one task after another.
use Rattle.std.proofs.Common.{◌≡◌, ◌≢◌, ◌⊎◌, inl, inr, ℕ, zero, suc, ◌+◌, ◌-◌, ◌*◌, ◌<◌, ◌≤◌, Bool, true, false, List, [], ◌∷◌, ◌++◌, length, All, Contains, Option, Some, None, Result, Ok, Err, refl, ap, sym, ◌∙◌, subst, arith, String, string_bytes}
use Rattle.std.specs.Prelude.{◌||◌, IsTrue, IsSome, IfOk, bytes_eq, slice_index_or}
use Rattle.std.specs.List.{list_any}
use Rattle.std.specs.declared.alloc.Global.{Global}
use Rattle.std.specs.HashSet.{HashSet, contains_text}
use Rattle.std.proofs.Math.Nat.{mul-add}
use Rattle.std.proofs.lemmas.Bool.{cases_lt}
use Rattle.std.proofs.lemmas.List.{length-append, length-map}
use Rattle.std.proofs.lemmas.List.Elements.{All-nil, All-head, All-tail}
use Rattle.cu_store.specs.Faults.{Rose, last_count}
use Rattle.cu_store.specs.Held.{Contents, Answers, IsHeldIn}
use Rattle.cu_store.specs.Steps.{Shown, NoChange, OnceEach, Steps}
use Rattle.cu_store.proofs.Steps.{steps_same, steps_then, steps_wider}
use Rattle.cu_op.specs.declared.cells.Cell.{Cell}
use Rattle.cu_op.specs.Arrays.{maker_at}
use Rattle.cu_op.specs.Cells.{IsChunk}
use Rattle.cu_op.specs.PlanView.{PlanView}
use Rattle.cu_op.specs.Schedule.{op_of, key_of}
use Rattle.cu_op.specs.Walks.{written_chunks}
use Rattle.cu_op.specs.Within.{fetched_chunks}
use Rattle.cu_work.specs.Order.{task_keys}
use Rattle.cu_work.specs.Search.{AreAsked, IsSearchFault}
use Rattle.cu_work.specs.World.{IsStored}
use Rattle.cu_work.specs.declared.find.FindFault.{FindFault}
use Rattle.cu_work.specs.declared.find.FindFault.TheVariants as find
use Rattle.cu_work.proofs.Searching.{asked_key, fault_calls, told_then, told_first, stored_of, of_stored}
use Rattle.cu_work.specs.Asked.{Asking, asking_of, AreChosen, HasAsked, IsAbsent, IsAsking, IsChoice, IsChoiceFault, IsLookUpFault, IsSoughtInput, IsUnstarted, AskedOn, AreReadyBefore, look_up_fault, own_chunks}
use Rattle.cu_work.specs.Part.{IsInPart, IsMadeInput, HasInputs, LacksChunk, LacksInput}
use Rattle.cu_work.specs.declared.part.Part.{Part}
use Rattle.cu_work.specs.declared.part.PartFault.{PartFault}
use Rattle.cu_work.specs.declared.part.PartFault.TheVariants as part
use Rattle.cu_work.proofs.AskedKeys.{absent_before, asked_of, asked_wider, held_on, input_asked, input_found, inputs_on, known_held, lacks_chunk_before, lacks_input_before, own_asked, steps_ever, stored_on}

-- ---- one key

pub ever : (m : ℕ) (a b : Shown) → Steps NoChange 1 m a b → Steps NoChange 0 last_count a b
ever m a b step = steps_ever NoChange 0 m a b (steps_wider (λ k value change. change) (omega arith) (omega arith) step)

pub ever_then : (a b c : Shown) → Steps NoChange 0 last_count a b → Steps NoChange 0 last_count b c → Steps NoChange 0 last_count a c
ever_then a b c first second = steps_ever NoChange 0 (last_count + last_count) a c (steps_then first second)

pub ever_same : (a : Shown) → Steps NoChange 0 last_count a a
ever_same a = steps_wider (λ k value change. change) (omega arith) (omega arith) (steps_same NoChange a)

none_of : (o : Option (List ℕ)) → (IsSome o → IsTrue false) → o ≡ None
none_of None fails_so = refl
none_of (Some bytes) fails_so = absurd (let e : false ≡ true = fails_so refl in cc)

none_by : (h : Option Contents) (now : Contents) (key : List ℕ) → h ≡ Some now → Answers h key (Ok false) → now key ≡ None
none_by None now key e answer = cc
none_by (Some held) now key e answer =
    let same : held ≡ now = cc in
    subst (λ (x : Contents). x key ≡ None) same (none_of (held key) answer.1)

pub absent_at_first : (tries : ℕ) (old new : Shown) (key : List ℕ) → Steps NoChange 1 tries old new → Answers new.held key (Ok false) → IsAbsent key old
absent_at_first tries old new key step answer = λ held told.
    let (now, told_now) = told_then NoChange 1 tries old new step held told in
    absent_before 1 tries old new held now step told told_now key (none_by new.held now key told_now answer)

pub absent_lacks : (p : PlanView) (k task : ℕ) (key : List ℕ) (shown : Shown) → IsMadeInput p k task key → IsAbsent key shown → LacksInput p k task shown
absent_lacks p k task key shown made absent = λ held told. (key, made, absent held told)

module _ (p : PlanView) (q : Part) (tries task : ℕ) (within : IsInPart q task) (start : Shown) (own : ℕ) (lacks : LacksChunk p q.op task start) (known : List ℕ → Bool) (old : Shown) (a : IsAsking (asking_of p q tries start) own known old) where
  pub known_asked : (key : List ℕ) → known key ≡ true → AskedOn {E = FindFault} (asking_of p q tries start) own known old (Ok true) × (IsTrue true → IsHeldIn old.held key)
  known_asked key holds_so = (a, λ so. known_held (asking_of p q tries start) own known old a key holds_so)

  module _ (key : List ℕ) (made : IsMadeInput p q.op task key) (unknown : known key ≡ false) (later : List ℕ → Bool) (more : (other : List ℕ) → later other ≡ (known other || bytes_eq key other)) (new : Shown) (step : Steps NoChange 1 tries old new) where
    sought : IsSoughtInput (asking_of p q tries start) key
    sought = (task, within, lacks, made)

    pub found_asked : OnceEach 1 old new → (held : Bool) → Answers new.held key (Ok held) → AskedOn {E = FindFault} (asking_of p q tries start) own later new (Ok held) × (IsTrue held → IsHeldIn new.held key)
    found_asked once true answer =
        let asked = asked_key tries old new key true step once answer in
        let held = All-head (IsHeldIn new.held) key [] (asked.held refl) in
        (input_found (asking_of p q tries start) own known old a key unknown sought new step later more held, λ so. held)
    found_asked once false answer = (input_asked (asking_of p q tries start) own known old a key unknown sought new step, λ so. absurd (let e : false ≡ true = so in cc))

    pub failed_asked : HasAsked (asking_of p q tries start) own new
    failed_asked = input_asked (asking_of p q tries start) own known old a key unknown sought new step

pub cell_asked : (W : Type 0) (r : Result Bool FindFault) (h : Option Contents) (key at : List ℕ) (M : Type 0) → key ≡ at → W × IfOk r (λ held. IsTrue held → IsHeldIn h key)
    → W × IfOk r (λ held. IsTrue held → M → IsHeldIn h at)
cell_asked W (Ok held) h key at M is (on, found) = (on, λ so maker. subst (λ (k : List ℕ). IsHeldIn h k) is (found so))
cell_asked W (Err f) h key at M is (on, found) = (on, tt)

pub went_true : (s : Asking) (own : ℕ) (known : List ℕ → Bool) (now : Shown) (H : Bool → Type 0) (b : Bool) → b ≡ true → AskedOn {E = FindFault} s own known now (Ok b) × H b → IsAsking s own known now × H true
went_true s own known now H true e went = went
went_true s own known now H false e went = cc

pub went_false : (s : Asking) (own : ℕ) (known : List ℕ → Bool) (now : Shown) (H : Bool → Type 0) (b : Bool) → b ≡ false → AskedOn {E = FindFault} s own known now (Ok b) × H b → HasAsked s own now × H false
went_false s own known now H false e went = went
went_false s own known now H true e went = cc

-- ---- the inputs of a task

-- where the iterator stands
pub record InputsSoFar (p : PlanView) (q : Part) (tries task : ℕ) (known : (List ℕ → Bool) × (List ℕ → Bool)) (shown : Shown × Shown) (left : List Cell) : Type 0 where
  pub chunks : All (IsChunk p.arrays) left
  pub listed : (c : Cell) → Contains left c → Contains (fetched_chunks p q.op task) c
  pub step : Steps NoChange 0 last_count shown.0 shown.1
  pub asked : (start : Shown) (own : ℕ) → LacksChunk p q.op task start → IsAsking (asking_of p q tries start) own known.0 shown.0
      → IsAsking (asking_of p q tries start) own known.1 shown.1
      × ((c : Cell) → Contains (fetched_chunks p q.op task) c → Contains left c ⊎ (maker_at p.arrays c.array ≢ None → IsHeldIn shown.1.held (key_of p.arrays c)))

pub inputs_at_first : (p : PlanView) (q : Part) (tries task : ℕ) (known : List ℕ → Bool) (shown : Shown) (cells left : List Cell) → left ≡ cells → cells ≡ fetched_chunks p q.op task
    → All (IsChunk p.arrays) cells → InputsSoFar p q tries task (known, known) (shown, shown) left
inputs_at_first p q tries task known shown cells left e is chunks = record {
  chunks = subst (All (IsChunk p.arrays)) (sym e) chunks;
  listed = λ c inside. subst (λ (x : List Cell). Contains x c) (e ∙ is) inside;
  step = ever_same shown;
  asked = λ start own lacks a. (a, λ c listed. inl (subst (λ (x : List Cell). Contains x c) (sym (e ∙ is)) listed));
}

here_or_behind : (x c : Cell) (xs : List Cell) → Contains (x ∷ xs) c → (c ≡ x) ⊎ Contains xs c
here_or_behind x c xs (zero, below, e) = inl (sym e)
here_or_behind x c xs (suc i, below, e) = inr (i, omega (arith, below), e)

rose_before : (n a b c : ℕ) → a ≤ b → Rose n b c → Rose n a c
rose_before n a b c more rose = omega (arith, more, rose)

fault_before : (tries : ℕ) (first now new : Shown) (IsOne : List ℕ → Type 0) → Steps NoChange 0 last_count first now → (f : FindFault) → IsLookUpFault tries (now, new) IsOne f → IsLookUpFault tries (first, new) IsOne f
fault_before tries first now new IsOne step (find.Failed key) (one, rose) = (one, let more = step.count in rose_before tries first.faults now.faults new.faults more rose)
fault_before tries first now new IsOne step find.NoMemory cause = tt

module _ (p : PlanView) (q : Part) (tries task : ℕ) (known0 known : List ℕ → Bool) (first now : Shown) (left : List Cell) (so_far : InputsSoFar p q tries task (known0, known) (first, now) left) where
  pub inputs_all : left ≡ [] → (start : Shown) (own : ℕ) → LacksChunk p q.op task start → IsAsking (asking_of p q tries start) own known0 first
      → AskedOn {E = FindFault} (asking_of p q tries start) own known now (Ok true) × (IsTrue true → HasInputs p q.op task now.held)
  inputs_all none start own lacks a =
      let (on, each) = so_far.asked start own lacks a in
      (on, λ so key made. let (c, listed, maker, at) = made in has (each c listed) key maker at)
    where
      has : {c : Cell} → Contains left c ⊎ (maker_at p.arrays c.array ≢ None → IsHeldIn now.held (key_of p.arrays c)) → (key : List ℕ) → maker_at p.arrays c.array ≢ None → key ≡ key_of p.arrays c → IsHeldIn now.held key
      has (inl (i, below, e)) key maker at = absurd (let z = ap length none in omega (arith, below, z))
      has (inr held) key maker at = subst (λ (k : List ℕ). IsHeldIn now.held k) (sym at) (held maker)

  module _ (cell : Cell) (later : List Cell) (e : left ≡ cell ∷ later) where
    pub cell_chunk : IsChunk p.arrays cell
    cell_chunk = All-head (IsChunk p.arrays) cell later (subst (All (IsChunk p.arrays)) e so_far.chunks)

    pub cell_listed : Contains (fetched_chunks p q.op task) cell
    cell_listed = so_far.listed cell (subst (λ (x : List Cell). Contains x cell) (sym e) (0, omega arith, refl))

    module _ (known1 : List ℕ → Bool) (new : Shown) (step : Steps NoChange 0 last_count now new) where
      pub inputs_step : Steps NoChange 0 last_count first new
      inputs_step = ever_then first now new so_far.step step

      pub inputs_more : ((start : Shown) (own : ℕ) → LacksChunk p q.op task start → IsAsking (asking_of p q tries start) own known now
          → IsAsking (asking_of p q tries start) own known1 new × (IsTrue true → maker_at p.arrays cell.array ≢ None → IsHeldIn new.held (key_of p.arrays cell)))
          → InputsSoFar p q tries task (known0, known1) (first, new) later
      inputs_more asks = record {
        chunks = All-tail (IsChunk p.arrays) cell later (subst (All (IsChunk p.arrays)) e so_far.chunks);
        listed = λ c inside. so_far.listed c (subst (λ (x : List Cell). Contains x c) (sym e) (behind c inside));
        step = inputs_step;
        asked = λ start own lacks a.
            let (on, each) = so_far.asked start own lacks a in
            let (then_on, held) = asks start own lacks on in
            (then_on, λ c listed. found c (each c listed) (held refl));
      }
        where
          behind : (c : Cell) → Contains later c → Contains (cell ∷ later) c
          behind c (i, below, is) = (suc i, omega (arith, below), is)

          moved : (c : Cell) → (c ≡ cell) ⊎ Contains later c → (maker_at p.arrays cell.array ≢ None → IsHeldIn new.held (key_of p.arrays cell))
              → Contains later c ⊎ (maker_at p.arrays c.array ≢ None → IsHeldIn new.held (key_of p.arrays c))
          moved c (inl here) held = inr (subst (λ (x : Cell). maker_at p.arrays x.array ≢ None → IsHeldIn new.held (key_of p.arrays x)) (sym here) held)
          moved c (inr there) held = inl there

          found : (c : Cell) → Contains left c ⊎ (maker_at p.arrays c.array ≢ None → IsHeldIn now.held (key_of p.arrays c)) → (maker_at p.arrays cell.array ≢ None → IsHeldIn new.held (key_of p.arrays cell))
              → Contains later c ⊎ (maker_at p.arrays c.array ≢ None → IsHeldIn new.held (key_of p.arrays c))
          found c (inl inside) held = moved c (here_or_behind cell c later (subst (λ (x : List Cell). Contains x c) e inside)) held
          found c (inr before) held = inr (λ made. held_on 0 last_count now new step (key_of p.arrays c) (before made))

      pub inputs_lack : LacksInput p q.op task now → LacksInput p q.op task first
      inputs_lack lacks = lacks_input_before p q.op task 0 last_count first now so_far.step lacks

      pub inputs_fault : (f : FindFault) → IsLookUpFault tries (now, new) (IsMadeInput p q.op task) f → IsLookUpFault tries (first, new) (IsMadeInput p q.op task) f
      inputs_fault f cause = fault_before tries first now new (IsMadeInput p q.op task) so_far.step f cause

-- ---- the chunks that a task writes

keys_count : (p : PlanView) (k task : ℕ) → length (task_keys p k task) ≡ length (written_chunks p.arrays (op_of p k) task)
keys_count p k task = length-map (written_chunks p.arrays (op_of p k) task) (key_of p.arrays)

module _ (p : PlanView) (q : Part) (tries task : ℕ) (old new : Shown) where
  abbrev len : ℕ
  len = length (written_chunks p.arrays (op_of p q.op) task)

  module _ (all : Bool) (asked : AreAsked tries (task_keys p q.op task) old new all) where
    pub task_step : Steps NoChange len (tries * len) old new
    task_step =
        let e = keys_count p q.op task in
        let n = ap (λ k. tries * k) e in
        steps_wider (λ k value change. change) (omega (arith, e)) (omega (arith, n)) asked.step

    pub task_ever : Steps NoChange 0 last_count old new
    task_ever = steps_ever NoChange 0 (tries * len) old new (steps_wider (λ k value change. change) (omega arith) (omega arith) task_step)

    pub task_stored : all ≡ true → (held : Contents) → new.held ≡ Some held → IsStored p held q.op task
    task_stored holds_so held told = stored_of p q.op task new.held held told (asked.held holds_so)

    pub task_lacks : all ≡ false → LacksChunk p q.op task old
    task_lacks fails_so = λ held told stored.
        let holds_so : all ≡ true = asked.found held told (of_stored p q.op task old.held held told stored) in
        let e : false ≡ true = sym fails_so ∙ holds_so in cc

  module _ (f : FindFault) (cause : IsSearchFault tries (task_keys p q.op task) (old, new) f) where
    pub fault_step : Steps NoChange 0 (tries * len) old new
    fault_step =
        let n = ap (λ k. tries * k) (keys_count p q.op task) in
        steps_wider (λ k value change. change) (omega arith) (omega (arith, n)) (fault_calls tries (task_keys p q.op task) old new f cause)

    pub fault_ever : Steps NoChange 0 last_count old new
    fault_ever = steps_ever NoChange 0 (tries * len) old new fault_step

middle : (front back : List (List ℕ)) (key : List ℕ) → Contains (front ++ key ∷ back) key
middle [] back key = (0, omega arith, refl)
middle (x ∷ front) back key = let (i, below, e) = middle front back key in (suc i, omega (arith, below), e)

-- ---- a task is chosen or passed

module _ (p : PlanView) (q : Part) (tries task : ℕ) (within : IsInPart q task) (start : Shown) (own : ℕ) (known : List ℕ → Bool) (old : Shown) (a : IsAsking (asking_of p q tries start) own known old) where
  abbrev chunks : ℕ
  chunks = length (written_chunks p.arrays (op_of p q.op) task)

  pub passed_task : (new : Shown) → AreAsked tries (task_keys p q.op task) old new true
      → IsAsking (asking_of p q tries start) (own + chunks) known new × ((held : Contents) → new.held ≡ Some held → IsStored p held q.op task)
  passed_task new asked = (
    own_asked (asking_of p q tries start) own known old a chunks new (task_step p q tries task old new true asked),
    task_stored p q tries task old new true asked refl,
  )

  search_fault : (new : Shown) (f : FindFault) → IsSearchFault tries (task_keys p q.op task) (old, new) f → IsChoiceFault (asking_of p q tries start) task new (look_up_fault f)
  search_fault new (find.Failed key) e = (
    let more = a.step.count in let between = e.before.count in let rose = e.cause in omega (arith, more, between, rose),
    inl (task, within, subst (λ (ks : List (List ℕ)). Contains ks key) (sym e.listed) (middle e.front e.back key)),
  )
  search_fault new find.NoMemory e = tt

  pub stopped_task : (new : Shown) (f : FindFault) → IsSearchFault tries (task_keys p q.op task) (old, new) f
      → HasAsked (asking_of p q tries start) (own + chunks) new × IsChoiceFault (asking_of p q tries start) task new (look_up_fault f)
  stopped_task new f cause = (
    asked_wider (asking_of p q tries start) own known old a chunks new (fault_step p q tries task old new f cause),
    search_fault new f cause,
  )

  module _ (now : Shown) (asked : AreAsked tries (task_keys p q.op task) old now false) where
    pub lacks_first : LacksChunk p q.op task start
    lacks_first = lacks_chunk_before p q.op task own (tries * (own + length a.inputs)) start old a.step (task_lacks p q tries task old now false asked refl)

    pub asking_on : IsAsking (asking_of p q tries start) (own + chunks) known now
    asking_on = own_asked (asking_of p q tries start) own known old a chunks now (task_step p q tries task old now false asked)

    pub lacking_fault : (new : Shown) → LacksInput p q.op task now → HasAsked (asking_of p q tries start) (own + chunks) new
        → HasAsked (asking_of p q tries start) (own + chunks) new × IsChoiceFault (asking_of p q tries start) task new (part.NotReady task)
    lacking_fault new lacks has = (
      has,
      (refl, lacks_first, lacks_input_before p q.op task (own + chunks) (tries * ((own + chunks) + length asking_on.inputs)) start now asking_on.step lacks),
    )

    input_fault : (new : Shown) (f : FindFault) → IsLookUpFault tries (now, new) (IsMadeInput p q.op task) f → IsChoiceFault (asking_of p q tries start) task new (look_up_fault f)
    input_fault new (find.Failed key) (made, rose) = (
      let more = asking_on.step.count in omega (arith, more, rose),
      inr (task, within, lacks_first, made),
    )
    input_fault new find.NoMemory cause = tt

    pub unasked_fault : (new : Shown) (f : FindFault) → IsLookUpFault tries (now, new) (IsMadeInput p q.op task) f → HasAsked (asking_of p q tries start) (own + chunks) new
        → HasAsked (asking_of p q tries start) (own + chunks) new × IsChoiceFault (asking_of p q tries start) task new (look_up_fault f)
    unasked_fault new f cause has = (has, input_fault new f cause)

-- ---- the tasks of a part

-- no text is in an empty set
pub empty_text : {S : Type 0} (set : HashSet (String Global) S) → set.keys ≡ [] → (key : List ℕ) → contains_text set key ≡ false
empty_text set none key = ap (λ (keys : List (String Global)). list_any (λ k. bytes_eq key (string_bytes k)) keys) none

-- the first n tasks were looked at
pub record ChosenSoFar (s : Asking) (n : ℕ) (known : List ℕ → Bool) (now : Shown) (chosen : List Bool) : Type 0 where
  pub whole : length chosen ≡ n
  pub asking : IsAsking s (own_chunks s.plan s.part n) known now
  pub tasks : AreChosen s.plan s.part (s.start, now) chosen

pub none_asked : (p : PlanView) (q : Part) (tries : ℕ) (start : Shown) (own : ℕ) → HasAsked (asking_of p q tries start) own start
none_asked p q tries start own = record {
  inputs = [];
  differ = tt;
  sought = All-nil (IsSoughtInput (asking_of p q tries start));
  step = steps_wider (λ k value change. change) (omega arith) (omega arith) (steps_same NoChange start);
}

no_index : (i : ℕ) (d : Bool) → slice_index_or [] i d ≡ d
no_index i d = refl

pub chosen_at_first : (p : PlanView) (q : Part) (tries : ℕ) (known : List ℕ → Bool) (start : Shown) (chosen : List Bool) → chosen ≡ [] → ((key : List ℕ) → known key ≡ false)
    → ChosenSoFar (asking_of p q tries start) 0 known start chosen
chosen_at_first p q tries known start chosen e none = record {
  whole = ap length e;
  asking = record {
    inputs = [];
    same = none;
    differ = tt;
    sought = All-nil (IsSoughtInput (asking_of p q tries start));
    step = steps_wider (λ k value change. change) (omega arith) (omega arith) (steps_same NoChange start);
    held = All-nil (IsHeldIn start.held);
  };
  tasks = subst (AreChosen p q (start, start)) (sym e) (record {
    lacking = λ i named. absurd (let b : false ≡ true = sym (no_index i false) ∙ named in cc);
    ready = λ i named. absurd (let b : false ≡ true = sym (no_index i false) ∙ named in cc);
    stored = λ i now named. absurd (let b : true ≡ false = sym (no_index i true) ∙ named in cc);
  });
}

-- the list with one more
at_end : (bs : List Bool) (b : Bool) (i : ℕ) (d : Bool) → (slice_index_or (bs ++ b ∷ []) i d ≡ slice_index_or bs i d) ⊎ ((i ≡ length bs) × (slice_index_or (bs ++ b ∷ []) i d ≡ b))
at_end [] b zero d = inr (refl, refl)
at_end [] b (suc i) d = inl refl
at_end (x ∷ bs) b zero d = inl refl
at_end (x ∷ bs) b (suc i) d = elim (at_end bs b i d) [
  | inl same ↦ inl same
  | inr (last, is) ↦ inr (ap suc last, is)
]

own_grows : (p : PlanView) (q : Part) (n m : ℕ) → n ≤ m → own_chunks p q n ≤ own_chunks p q m
own_grows p q n zero below = subst (λ (x : ℕ). own_chunks p q x ≤ 0) (let e : 0 ≡ n = omega arith in e) (omega arith)
own_grows p q n (suc m) below = elim (cases_lt m n) [
  | inl past ↦ subst (λ (x : ℕ). own_chunks p q n ≤ own_chunks p q x) (let e : n ≡ suc m = omega arith in e) (omega arith)
  | inr within ↦ let rest = own_grows p q n m within in omega (arith, rest)
]

pub asked_most : (p : PlanView) (q : Part) (tries : ℕ) (start now : Shown) (n m : ℕ) → n ≤ m → HasAsked (asking_of p q tries start) (own_chunks p q n) now → HasAsked (asking_of p q tries start) (own_chunks p q m) now
asked_most p q tries start now n m below has = record {
  inputs = has.inputs;
  differ = has.differ;
  sought = has.sought;
  step =
      let l = length has.inputs in
      let grows = own_grows p q n m below in
      let (d, e) : (d : ℕ) × (own_chunks p q m ≡ own_chunks p q n + d) = (own_chunks p q m - own_chunks p q n, omega (arith, grows)) in
      let x = ap (λ k. tries * (k + l)) e in
      let y = ap (λ k. tries * k) (let z : (own_chunks p q n + d) + l ≡ (own_chunks p q n + l) + d = omega arith in z) in
      let w = mul-add tries (own_chunks p q n + l) d in
      steps_wider (λ k value change. change) (omega arith) (omega (arith, x, y, w)) has.step;
}

module _ (p : PlanView) (q : Part) (tries : ℕ) (start : Shown) (n : ℕ) (known : List ℕ → Bool) (now : Shown) (chosen : List Bool) (so_far : ChosenSoFar (asking_of p q tries start) n known now chosen) where
  abbrev s : Asking
  s = asking_of p q tries start

  next_own : own_chunks p q n + length (written_chunks p.arrays (op_of p q.op) (q.from + n)) ≡ own_chunks p q (n + 1)
  next_own = ap (own_chunks p q) (let e : suc n ≡ n + 1 = omega arith in e)

  module _ (known1 : List ℕ → Bool) (new : Shown) (step : Steps NoChange 0 last_count now new) where
    module _ (b : Bool) (on : IsAsking s (own_chunks p q n + length (written_chunks p.arrays (op_of p q.op) (q.from + n))) known1 new) (choice : IsChoice p q.op (q.from + n) start new b) where
      last_lacks : (c : Bool) → c ≡ true → IsChoice p q.op (q.from + n) start new c → LacksChunk p q.op (q.from + n) start × HasInputs p q.op (q.from + n) new.held
      last_lacks true e is = is
      last_lacks false e is = cc

      last_stored : (c : Bool) → c ≡ false → IsChoice p q.op (q.from + n) start new c → (held : Contents) → new.held ≡ Some held → IsStored p held q.op (q.from + n)
      last_stored false e is = is
      last_stored true e is = cc

      pub chosen_more : ChosenSoFar s (n + 1) known1 new (chosen ++ b ∷ [])
      chosen_more = record {
        whole = let w = so_far.whole in let l = length-append chosen (b ∷ []) in omega (arith, w, l);
        asking = subst (λ (k : ℕ). IsAsking s k known1 new) next_own on;
        tasks = record {
          lacking = λ i named. elim (at_end chosen b i false) [
            | inl same ↦ so_far.tasks.lacking i (sym same ∙ named)
            | inr (last, is) ↦ subst (λ (k : ℕ). LacksChunk p q.op (q.from + k) start) (sym (last ∙ so_far.whole)) (last_lacks b (sym is ∙ named) choice).0
          ];
          ready = λ i named. elim (at_end chosen b i false) [
            | inl same ↦ inputs_on p q.op (q.from + i) 0 last_count now new step (so_far.tasks.ready i (sym same ∙ named))
            | inr (last, is) ↦ subst (λ (k : ℕ). HasInputs p q.op (q.from + k) new.held) (sym (last ∙ so_far.whole)) (last_lacks b (sym is ∙ named) choice).1
          ];
          stored = λ i held named told. elim (at_end chosen b i true) [
            | inl same ↦
                let (before, told_before) = told_first NoChange 0 last_count now new step held told in
                stored_on p q.op (q.from + i) 0 last_count now new before held step told_before told (so_far.tasks.stored i before (sym same ∙ named) told_before)
            | inr (last, is) ↦ subst (λ (k : ℕ). IsStored p held q.op (q.from + k)) (sym (last ∙ so_far.whole)) (last_stored b (sym is ∙ named) choice held told)
          ];
        };
      }

    -- ---- it ended at a task

    bit : (x : Bool) → (x ≡ true) ⊎ (x ≡ false)
    bit true = inl refl
    bit false = inr refl

    other_default : (bs : List Bool) (i : ℕ) → i < length bs → slice_index_or bs i true ≡ slice_index_or bs i false
    other_default [] i below = absurd (omega (arith, below))
    other_default (x ∷ bs) zero below = refl
    other_default (x ∷ bs) (suc i) below = other_default bs i (omega (arith, below))

    ready_at : (i : ℕ) → i < n → (held : Contents) → new.held ≡ Some held → IsStored p held q.op (q.from + i) ⊎ HasInputs p q.op (q.from + i) (Some held)
    ready_at i below held told = elim (bit (slice_index_or chosen i false)) [
      | inl named ↦ inr (subst (λ (h : Option Contents). HasInputs p q.op (q.from + i) h) told (inputs_on p q.op (q.from + i) 0 last_count now new step (so_far.tasks.ready i named)))
      | inr passed ↦
          let (before, told_before) = told_first NoChange 0 last_count now new step held told in
          let w = so_far.whole in
          inl (stored_on p q.op (q.from + i) 0 last_count now new before held step told_before told
          (so_far.tasks.stored i before (other_default chosen i (omega (arith, below, w)) ∙ passed) told_before))
    ]

    ready_before : AreReadyBefore p q (q.from + n) new
    ready_before other held from before told =
        let d = other - q.from in
        let e : q.from + d ≡ other = omega (arith, from) in
        subst (λ (t : ℕ). IsStored p held q.op t ⊎ HasInputs p q.op t (Some held)) e (ready_at d (omega (arith, before, from)) held told)

    pub choice_ended : IsInPart q (q.from + n) → (f : PartFault) → IsChoiceFault s (q.from + n) new f → IsUnstarted s new f
    choice_ended within (part.NotReady number) (is, lacks, wants) =
        subst (λ (t : ℕ). IsUnstarted s new (part.NotReady t)) (sym is) (within, lacks, wants, ready_before)
    choice_ended within (part.Failed key) cause = cause
    choice_ended within (part.Broken task) cause = cause
    choice_ended within (part.BadChunk key got want) cause = cause
    choice_ended within part.NoMemory cause = cause

-- ---- the same by the number of the task

module _ (p : PlanView) (q : Part) (tries : ℕ) (start : Shown) (task : ℕ) (known : List ℕ → Bool) (now : Shown) (chosen : List Bool) (from : q.from ≤ task)
    (so_far : ChosenSoFar (asking_of p q tries start) (task - q.from) known now chosen) where
  number : q.from + (task - q.from) ≡ task
  number = omega (arith, from)

  pub all_asked : (n : ℕ) → task - q.from ≤ n → HasAsked (asking_of p q tries start) (own_chunks p q n) now
  all_asked n below = asked_most p q tries start now (task - q.from) n below (asked_of (asking_of p q tries start) (own_chunks p q (task - q.from)) known now so_far.asking)

  -- at the end, with a call at least for each chunk that the tasks write
  pub all_called : (n : ℕ) → task - q.from ≡ n → Steps NoChange (own_chunks p q n) last_count start now
  all_called n is =
      let asking = so_far.asking in
      subst (λ (k : ℕ). Steps NoChange (own_chunks p q k) last_count start now) is
      (steps_ever NoChange (own_chunks p q (task - q.from)) (tries * (own_chunks p q (task - q.from) + length asking.inputs)) start now asking.step)

  module _ (known1 : List ℕ → Bool) (new : Shown) (step : Steps NoChange 0 last_count now new) where
    pub chosen_next : (b : Bool) → IsAsking (asking_of p q tries start) (own_chunks p q (task - q.from) + length (written_chunks p.arrays (op_of p q.op) task)) known1 new
        → IsChoice p q.op task start new b → ChosenSoFar (asking_of p q tries start) ((task + 1) - q.from) known1 new (chosen ++ b ∷ [])
    chosen_next b on choice =
        subst (λ (n : ℕ). ChosenSoFar (asking_of p q tries start) n known1 new (chosen ++ b ∷ [])) (let e : (task - q.from) + 1 ≡ (task + 1) - q.from = omega (arith, from) in e)
        (chosen_more p q tries start (task - q.from) known now chosen so_far known1 new step b
        (subst (λ (t : ℕ). IsAsking (asking_of p q tries start) (own_chunks p q (task - q.from) + length (written_chunks p.arrays (op_of p q.op) t)) known1 new) (sym number) on)
        (subst (λ (t : ℕ). IsChoice p q.op t start new b) (sym number) choice))

    pub choice_stopped : IsInPart q task → (f : PartFault) → IsChoiceFault (asking_of p q tries start) task new f → IsUnstarted (asking_of p q tries start) new f
    choice_stopped within f cause =
        choice_ended p q tries start (task - q.from) known now chosen so_far known1 new step (subst (IsInPart q) (sym number) within) f
        (subst (λ (t : ℕ). IsChoiceFault (asking_of p q tries start) t new f) (sym number) cause)

    pub stopped_asked : (n : ℕ) → task < q.from + n → HasAsked (asking_of p q tries start) (own_chunks p q (task - q.from) + length (written_chunks p.arrays (op_of p q.op) task)) new
        → HasAsked (asking_of p q tries start) (own_chunks p q n) new
    stopped_asked n below has =
        asked_most p q tries start new ((task - q.from) + 1) n (omega (arith, from, below))
        (subst (λ (k : ℕ). HasAsked (asking_of p q tries start) k new) (next_own p q tries start (task - q.from) known now chosen so_far)
        (subst (λ (t : ℕ). HasAsked (asking_of p q tries start) (own_chunks p q (task - q.from) + length (written_chunks p.arrays (op_of p q.op) t)) new) (sym number) has))
