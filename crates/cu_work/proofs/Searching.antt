-- Asking for the chunks of tasks, one task after another, and what is found.
use Rattle.std.proofs.Common.{◌≡◌, inl, inr, ℕ, suc, ◌*◌, Bool, true, false, List, [], ◌∷◌, ◌++◌, length, map, All, Contains, Option, Some, None, refl, ap, sym, ◌∙◌, subst, arith}
use Rattle.std.specs.Prelude.{◌&&◌, IsTrue, IsSome, Ok}
use Rattle.std.proofs.lemmas.List.{append_assoc, append-nil}
use Rattle.std.proofs.lemmas.List.Elements.{All-append, All-nil, All-cons, All-weaker, All-head, All-tail, All-contains}
use Rattle.cu_store.specs.Held.{Contents, Write, Answers, IsHeldIn}
use Rattle.cu_store.specs.Steps.{Shown, Changes, NoChange, OrLate, IsChangedBy, Lands, Steps, OnceEach}
use Rattle.cu_store.specs.declared.faults.DepotFault.TheVariants as depot
use Rattle.cu_store.proofs.Once.{once_few}
use Rattle.cu_store.proofs.Steps.{steps_same, steps_wider}
use Rattle.cu_op.specs.declared.cells.Cell.{Cell}
use Rattle.cu_op.specs.Cells.{IsChunk}
use Rattle.cu_op.specs.PlanView.{PlanView}
use Rattle.cu_op.specs.Schedule.{op_of, key_of}
use Rattle.cu_op.specs.Walks.{written_chunks}
use Rattle.cu_op.proofs.CellsOfTasks.{map_contains}
use Rattle.cu_work.specs.declared.find.FindFault.{FindFault}
use Rattle.cu_work.specs.declared.find.FindFault.TheVariants.{Failed, NoMemory}
use Rattle.cu_work.specs.Ends.{NoneOf}
use Rattle.cu_work.specs.Order.{task_keys}
use Rattle.cu_work.specs.Search.{IsSearchFault, AreAsked}
use Rattle.cu_work.specs.World.{IsStored}
use Rattle.cu_work.proofs.EndedCalls.{Grows, once_none, once_both, over_both, ends_before, ends_behind, ends_calls, ends_once}

pub none_grows : Grows NoneOf
none_grows ks ls = ((λ key value change. change), (λ key value change. change))

-- ---- what is held stays held

-- changes that remove nothing
abbrev pub Fills : Changes → Type 0
Fills W = (key : List ℕ) (value : Option (List ℕ)) → W key value → (bytes : List ℕ) × (value ≡ Some bytes)

pub none_fills : Fills NoChange
none_fills key value none = absurd none

module _ (W : Changes) (fills : Fills W) (late : List Write) where
  held_at : (a b : Contents) (key : List ℕ) → IsChangedBy (OrLate W late) a b key → IsHeldIn (Some a) key → IsHeldIn (Some b) key
  held_at a b key (inl same) (bytes, is) = (bytes, same ∙ is)
  held_at a b key (inr (inl change)) h = fills key (b key) change
  held_at a b key (inr (inr (bytes, is, among))) h = (bytes, is)

  held_in_both : (a b : Option Contents) (key : List ℕ) → Lands (OrLate W late) a b → IsHeldIn a key → IsHeldIn b key
  held_in_both None None key lands h = tt
  held_in_both (Some a) (Some b) key lands h = held_at a b key (lands key) h
  held_in_both None (Some b) key lands h = absurd lands
  held_in_both (Some a) None key lands h = absurd lands

pub held_stays : (W : Changes) → Fills W → (l m : ℕ) (old new : Shown) → Steps W l m old new → (key : List ℕ) → IsHeldIn old.held key → IsHeldIn new.held key
held_stays W fills l m old new step key h = held_in_both W fills old.late old.held new.held key step.lands h

-- what is told before is told after, and the other way round
told_both : (W : Changes) (a b : Option Contents) → Lands W a b → ((held : Contents) → a ≡ Some held → (now : Contents) × (b ≡ Some now)) × ((now : Contents) → b ≡ Some now → (held : Contents) × (a ≡ Some held))
told_both W None None lands = ((λ held e. cc), (λ now e. cc))
told_both W (Some a) (Some b) lands = ((λ held e. (b, refl)), (λ now e. (a, refl)))
told_both W None (Some b) lands = absurd lands
told_both W (Some a) None lands = absurd lands

pub told_then : (W : Changes) (l m : ℕ) (old new : Shown) → Steps W l m old new → (held : Contents) → old.held ≡ Some held → (now : Contents) × (new.held ≡ Some now)
told_then W l m old new step = (told_both (OrLate W old.late) old.held new.held step.lands).0

pub told_first : (W : Changes) (l m : ℕ) (old new : Shown) → Steps W l m old new → (now : Contents) → new.held ≡ Some now → (held : Contents) × (old.held ≡ Some held)
told_first W l m old new step = (told_both (OrLate W old.late) old.held new.held step.lands).1

-- ---- keys that were asked for

both_true : (a b : Bool) → IsTrue (a && b) → IsTrue a × IsTrue b
both_true true b h = (refl, h)
both_true false b h = absurd (let e : false ≡ true = h in cc)

true_both : (a b : Bool) → IsTrue a → IsTrue b → IsTrue (a && b)
true_both true b h k = k
true_both false b h k = absurd (let e : false ≡ true = h in cc)

all_parts : (P : List ℕ → Type 0) (ks ls : List (List ℕ)) → All P (ks ++ ls) → All P ks × All P ls
all_parts P [] ls all = (All-nil P, all)
all_parts P (k ∷ ks) ls all =
    let rest = all_parts P ks ls (All-tail P k (ks ++ ls) all) in
    (All-cons P k ks (All-head P k (ks ++ ls) all) rest.0, rest.1)

module _ (tries : ℕ) where
  pub asked_nothing : (shown : Shown) → AreAsked tries [] shown shown true
  asked_nothing shown = record {
    step = steps_wider (λ key value change. change) (omega arith) (omega arith) (steps_same NoChange shown);
    once = once_few 0 (length {A = List ℕ} []) shown shown (omega arith) (once_none shown);
    held = λ so. All-nil (IsHeldIn shown.held);
    found = λ held told all. refl;
  }

  pub asked_both : (ks ls : List (List ℕ)) (old between new : Shown) (a b : Bool) → AreAsked tries ks old between a → AreAsked tries ls between new b → AreAsked tries (ks ++ ls) old new (a && b)
  asked_both ks ls old between new a b first second = record {
    step = over_both NoneOf none_grows tries ks ls old between new first.step second.step;
    once = once_both ks ls old between new first.once second.once;
    held = λ so.
        let (so_a, so_b) = both_true a b so in
        All-append (IsHeldIn new.held) ks ls
        (All-weaker (IsHeldIn between.held) (IsHeldIn new.held) (held_stays NoChange none_fills (length ls) (tries * length ls) between new second.step) ks (first.held so_a))
        (second.held so_b);
    found = λ held told all.
        let (all_ks, all_ls) = all_parts (IsHeldIn old.held) ks ls all in
        let (now, told_now) = told_then NoChange (length ks) (tries * length ks) old between first.step held told in
        true_both a b (first.found held told all_ks)
        (second.found now told_now (All-weaker (IsHeldIn old.held) (IsHeldIn between.held) (held_stays NoChange none_fills (length ks) (tries * length ks) old between first.step) ls all_ls));
  }

  -- ---- one key

  some_bytes : (o : Option (List ℕ)) → IsSome o → (bytes : List ℕ) × (o ≡ Some bytes)
  some_bytes None h = cc
  some_bytes (Some bytes) h = (bytes, refl)

  bytes_some : (o : Option (List ℕ)) (bytes : List ℕ) → o ≡ Some bytes → IsSome o
  bytes_some None bytes e = cc
  bytes_some (Some own) bytes e = refl

  held_by : (h : Option Contents) (key : List ℕ) (b : Bool) → Answers h key (Ok b) → IsTrue b → IsHeldIn h key
  held_by None key b answer so = tt
  held_by (Some held) key b answer so = some_bytes (held key) (answer.0 so)

  true_by : (h : Option Contents) (now : Contents) (key : List ℕ) (b : Bool) → h ≡ Some now → Answers h key (Ok b) → IsHeldIn h key → IsTrue b
  true_by None now key b e answer held = cc
  true_by (Some held) now key b e answer (bytes, is) = answer.1 (bytes_some (held key) bytes is)

  pub asked_key : (old new : Shown) (key : List ℕ) (b : Bool) → Steps NoChange 1 tries old new → OnceEach 1 old new → Answers new.held key (Ok b) → AreAsked tries (key ∷ []) old new b
  asked_key old new key b step once answer = record {
    step = steps_wider (λ k value change. change) (omega arith) (omega arith) step;
    once = once_few 1 (length (key ∷ [])) old new (omega arith) once;
    held = λ so. All-cons (IsHeldIn new.held) key [] (held_by new.held key b answer so) (All-nil (IsHeldIn new.held));
    found = λ held told all.
        let (now, told_now) = told_then NoChange 1 tries old new step held told in
        true_by new.held now key b told_now answer (held_stays NoChange none_fills 1 tries old new step key (All-head (IsHeldIn old.held) key [] all));
  }

  -- ---- faults

  pub search_before : (ks ls : List (List ℕ)) (shown : Shown × Shown) (f : FindFault) → IsSearchFault tries ks shown f → IsSearchFault tries (ks ++ ls) shown f
  search_before ks ls shown (Failed key) e = ends_before NoneOf tries key depot.Failed ks ls shown e
  search_before ks ls shown NoMemory (key, e) = (key, ends_before NoneOf tries key depot.NoMemory ks ls shown e)

  pub search_behind : (ks ls : List (List ℕ)) (old between new : Shown) (f : FindFault) → Steps NoChange (length ks) (tries * length ks) old between → OnceEach (length ks) old between
      → IsSearchFault tries ls (between, new) f
      → IsSearchFault tries (ks ++ ls) (old, new) f
  search_behind ks ls old between new (Failed key) step once e = ends_behind NoneOf tries key depot.Failed none_grows ks ls old between new step once e
  search_behind ks ls old between new NoMemory step once (key, e) = (key, ends_behind NoneOf tries key depot.NoMemory none_grows ks ls old between new step once e)

  pub fault_calls : (keys : List (List ℕ)) (old new : Shown) (f : FindFault) → IsSearchFault tries keys (old, new) f → Steps NoChange 0 (tries * length keys) old new
  fault_calls keys old new (Failed key) e = ends_calls NoneOf tries key depot.Failed keys old new (λ front k value change. change) e
  fault_calls keys old new NoMemory (key, e) = ends_calls NoneOf tries key depot.NoMemory keys old new (λ front k value change. change) e

  pub fault_once : (keys : List (List ℕ)) (old new : Shown) (f : FindFault) → IsSearchFault tries keys (old, new) f → OnceEach (length keys) old new
  fault_once keys old new (Failed key) e = ends_once NoneOf tries key depot.Failed keys old new e
  fault_once keys old new NoMemory (key, e) = ends_once NoneOf tries key depot.NoMemory keys old new e

-- ---- the chunks of a task

-- where the iterator stands
pub record AskedSoFar (tries : ℕ) (p : PlanView) (task : ℕ × ℕ) (shown : Shown × Shown) (left : List Cell) (all : Bool) : Type 0 where
  pub chunks : All (IsChunk p.arrays) left
  pub front : List (List ℕ)
  pub rest : front ++ map (key_of p.arrays) left ≡ task_keys p task.0 task.1
  pub asked : AreAsked tries front shown.0 shown.1 all

pub asked_at_first : (tries : ℕ) (p : PlanView) (k task : ℕ) (shown : Shown) (cells left : List Cell) → left ≡ cells → cells ≡ written_chunks p.arrays (op_of p k) task → All (IsChunk p.arrays) cells
    → AskedSoFar tries p (k, task) (shown, shown) left true
asked_at_first tries p k task shown cells left e is chunks = record {
  chunks = subst (All (IsChunk p.arrays)) (sym e) chunks;
  front = [];
  rest = ap (map (key_of p.arrays)) (e ∙ is);
  asked = asked_nothing tries shown;
}

module _ (tries : ℕ) (p : PlanView) (k task : ℕ) (first now : Shown) (left : List Cell) (all : Bool) (so_far : AskedSoFar tries p (k, task) (first, now) left all) where
  pub asked_all : left ≡ [] → AreAsked tries (task_keys p k task) first now all
  asked_all none =
      subst (λ (ks : List (List ℕ)). AreAsked tries ks first now all) (sym (append-nil so_far.front) ∙ ap (λ cs. so_far.front ++ map (key_of p.arrays) cs) (sym none) ∙ so_far.rest) so_far.asked

  module _ (cell : Cell) (later : List Cell) (e : left ≡ cell ∷ later) where
    pub chunk_here : IsChunk p.arrays cell
    chunk_here = All-head (IsChunk p.arrays) cell later (subst (All (IsChunk p.arrays)) e so_far.chunks)

    whole : (so_far.front ++ key_of p.arrays cell ∷ []) ++ map (key_of p.arrays) later ≡ task_keys p k task
    whole = append_assoc so_far.front (key_of p.arrays cell ∷ []) (map (key_of p.arrays) later) ∙ ap (λ cs. so_far.front ++ map (key_of p.arrays) cs) (sym e) ∙ so_far.rest

    module _ (key : List ℕ) (is : key ≡ key_of p.arrays cell) (new : Shown) where
      pub asked_ended : (f : FindFault) → IsSearchFault tries (key ∷ []) (now, new) f → IsSearchFault tries (task_keys p k task) (first, new) f
      asked_ended f fault =
          subst (λ (ks : List (List ℕ)). IsSearchFault tries ks (first, new) f) whole
          (search_before tries (so_far.front ++ key_of p.arrays cell ∷ []) (map (key_of p.arrays) later) (first, new) f
          (search_behind tries so_far.front (key_of p.arrays cell ∷ []) first now new f so_far.asked.step so_far.asked.once
          (subst (λ (x : List ℕ). IsSearchFault tries (x ∷ []) (now, new) f) is fault)))

      pub asked_more : (held : Bool) → AreAsked tries (key ∷ []) now new held → AskedSoFar tries p (k, task) (first, new) later (all && held)
      asked_more held asked = record {
        chunks = All-tail (IsChunk p.arrays) cell later (subst (All (IsChunk p.arrays)) e so_far.chunks);
        front = so_far.front ++ key_of p.arrays cell ∷ [];
        rest = whole;
        asked = asked_both tries so_far.front (key_of p.arrays cell ∷ []) first now new all held so_far.asked
            (subst (λ (x : List ℕ). AreAsked tries (x ∷ []) now new held) is asked);
      }

      module _ (held : Bool) (asked : AreAsked tries (key ∷ []) now new held) where
        pub asked_yet : all ≡ true → AskedSoFar tries p (k, task) (first, new) later held
        asked_yet so = subst (λ (b : Bool). AskedSoFar tries p (k, task) (first, new) later (b && held)) so (asked_more held asked)

        pub asked_absent : all ≡ false → AskedSoFar tries p (k, task) (first, new) later all
        asked_absent so =
            subst (λ (b : Bool). AskedSoFar tries p (k, task) (first, new) later b) (sym so)
            (subst (λ (b : Bool). AskedSoFar tries p (k, task) (first, new) later (b && held)) so (asked_more held asked))

-- ---- tasks by their chunks and by the keys of these

module _ (p : PlanView) (k task : ℕ) where
  pub stored_of : (h : Option Contents) (held : Contents) → h ≡ Some held → All (IsHeldIn h) (task_keys p k task) → IsStored p held k task
  stored_of h held told all c listed =
      subst (λ (x : Option Contents). IsHeldIn x (key_of p.arrays c)) told
      (All-contains (IsHeldIn h) (task_keys p k task) (key_of p.arrays c) all (map_contains (key_of p.arrays) (written_chunks p.arrays (op_of p k) task) c listed))

  behind : (x y : Cell) (xs : List Cell) → Contains xs y → Contains (x ∷ xs) y
  behind x y xs (i, below, e) = (suc i, omega (arith, below), e)

  all_mapped : (P : List ℕ → Type 0) (cells : List Cell) → ((c : Cell) → Contains cells c → P (key_of p.arrays c)) → All P (map (key_of p.arrays) cells)
  all_mapped P [] each = All-nil P
  all_mapped P (c ∷ cs) each =
      All-cons P (key_of p.arrays c) (map (key_of p.arrays) cs) (each c (0, omega arith, refl))
      (all_mapped P cs (λ d listed. each d (behind c d cs listed)))

  pub of_stored : (h : Option Contents) (held : Contents) → h ≡ Some held → IsStored p held k task → All (IsHeldIn h) (task_keys p k task)
  of_stored h held told stored =
      all_mapped (IsHeldIn h) (written_chunks p.arrays (op_of p k) task)
      (λ c listed. subst (λ (x : Option Contents). IsHeldIn x (key_of p.arrays c)) (sym told) (stored c listed))
