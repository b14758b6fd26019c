-- What a run of a plan's tasks in a shared yard leaves.
use Rattle.std.specs.Prelude.{slice_index_or}
use Rattle.std.proofs.lemmas.List.{length-replicate}
use Rattle.std.proofs.Common.{◌≡◌, inl, inr, ℕ, zero, suc, true≢false, replicate, ◌+◌, ◌*◌, ◌<◌, ◌≤◌, Bool, false, IsTrue, List, length, Option, Some, None, IsSome, refl, ap, sym, ◌∙◌, subst, arith}
use Rattle.cu_shape.specs.Index.{IsInside, quotients}
use Rattle.cu_grid.proofs.Parting.{has_coordinate}
use Rattle.cu_store.specs.Faults.{last_count, Rose}
use Rattle.cu_store.specs.Held.{Contents, Write, IsAmong, Holds}
use Rattle.cu_store.specs.Share.{Lent, MayShare, IsShared, MayGiveBack, PutPromised, HoldsSeen, AddsCounts, HoldsPromised, LatePromised, LateSteady, IsPromiseOf, ServesAs}
use Rattle.cu_store.specs.Steps.{Shown, Changes, NoChange, OrLate, IsChangedBy, Lands, Steps}
use Rattle.cu_store.specs.Yard.{is_served, is_made, bytes_under, Served, Known, FitsYard}
use Rattle.cu_store.specs.declared.yard.Spec.{Spec}
use Rattle.cu_store.specs.declared.faults.TaskFault.TheVariants as fault
use Rattle.cu_store.proofs.Sharing.{may_share_later}
use Rattle.cu_store.proofs.Steps.{steps_none, steps_then, steps_wider}
use Rattle.cu_zarr.specs.Stored.{element_in}
use Rattle.cu_history.specs.History.{is_start, is_failed, count_kind}
use Rattle.cu_op.specs.declared.cells.Cell.{Cell}
use Rattle.cu_op.specs.Arrays.{layout_at, grid_at, maker_at}
use Rattle.cu_op.specs.Cells.{IsChunk}
use Rattle.cu_op.specs.Chunks.{cell}
use Rattle.cu_op.specs.PlanView.{PlanView}
use Rattle.cu_op.specs.Schedule.{key_of, cell_value}
use Rattle.cu_op.specs.Sound.{Sound, IsCell}
use Rattle.cu_op.specs.Elements.{Elements}
use Rattle.cu_op.specs.Value.{stored_inputs}
use Rattle.cu_op.proofs.Plans.{grid_ok}
use Rattle.cu_op.proofs.TaskCells.{written_cell}
use Rattle.cu_region.specs.Steady.{HoldsLength}
use Rattle.cu_run_law.specs.Left.{IsLeft, RunChange}
use Rattle.cu_run_law.specs.Pieces.{PlanRun, chunks_alone, Chunk, HoldsPiece, KeysApart, InputsApart}
use Rattle.cu_run_law.proofs.Alike.{chunks_alike}
use Rattle.cu_run_law.proofs.Keeping.{left_kept}
use Rattle.cu_task.specs.Serving.{ServesPlan, PromisesValues, IsBadOfInput}
use Rattle.cu_table.specs.Machine.{opening}
use Rattle.cu_table.specs.Numbers.{task_count, task_number}
use Rattle.cu_table.specs.Table.{TableView}
use Rattle.cu_board.specs.Board.{IsCauseOf}
use Rattle.cu_work.specs.Alone.{HasSeenDone, IsDecided}
use Rattle.cu_work.specs.Drive.{IsBadChunk, IsInputKey}
use Rattle.cu_work.specs.World.{IsFound}
use Rattle.cu_work.specs.Shared.{promised_writes, lent_of, none_done, specs_of, IsOpen, IsOpenAs, HasDriven, HoldsDone, IfBadChunk, IfLacked}
use Rattle.cu_work.specs.Workers.{HasWorked}
use Rattle.cu_work.specs.declared.outcome.Outcome.{Outcome}
use Rattle.cu_work.specs.declared.outcome.Outcome.TheVariants as outcome
use Rattle.cu_work.proofs.PlanChunks.{ChunksApart, chunks_apart, made_cell, cell_made, read_input, input_read}
use Rattle.cu_work.proofs.StoredChunks.{given_stored, IsStoredChunk}
use Rattle.cu_work.proofs.Resuming.{found_stays, found_seen}
use Rattle.cu_work.proofs.Worked.{bad_of_input}
use Rattle.cu_work.proofs.Promised.{promise_value, promise_fits, nothing_fits}

some_held : (a b : Contents) → ◌≡◌ {A = Option Contents} (Some a) (Some b) → a ≡ b
some_held a b e = cc

some_same : (a b : List ℕ) → Some a ≡ Some b → a ≡ b
some_same a b e = cc

not_both : {T : Type 0} (o : Option T) (x : T) → o ≡ None → o ≡ Some x → ⊥
not_both o x none some = cc

there_is : (o : Option (List ℕ)) → IsSome o → (x : List ℕ) × (o ≡ Some x)
there_is None some = cc
there_is (Some x) some = (x, refl)

-- what is told before a step is told after it, and the other way
told_later : (W : Changes) (a b : Option Contents) (held : Contents) → Lands W a b → a ≡ Some held → (now : Contents) × (b ≡ Some now)
told_later W None b held lands told = cc
told_later W (Some a) None held lands told = absurd lands
told_later W (Some a) (Some b) held lands told = (b, refl)

told_before : (W : Changes) (a b : Option Contents) (now : Contents) → Lands W a b → b ≡ Some now → (held : Contents) × (a ≡ Some held)
told_before W None None now lands told = cc
told_before W None (Some b) now lands told = absurd lands
told_before W (Some a) b now lands told = (a, refl)

module _ (p : PlanView) (sound : Sound p) (apart : KeysApart (chunks_alone p)) (inputs : InputsApart (chunks_alone p)) (start : Shown) (opens : IsOpen (chunks_alone p) start) where
  abbrev r : PlanRun
  r = chunks_alone p

  chunks : ChunksApart p
  chunks = chunks_apart r apart inputs

  -- a chunk of an input is stored
  as_stored : (c : Cell) → IsChunk p.arrays c → maker_at p.arrays c.array ≡ None → IsStoredChunk p.arrays c
  as_stored c chunk given = (chunk, given_stored p c.array sound chunk.0 given)

  abbrev lent : Lent
  lent = lent_of p start.held

  -- ---- what the store is left as, where it tells its contents

  left_by : (held : Contents) → start.held ≡ Some held → IsLeft r (stored_inputs p.arrays held) start
  left_by held told = subst (λ (h : Option Contents). IsOpenAs r h start) told opens

  -- the promise has the value of each made chunk, over the inputs that are held
  promised_at : (held : Contents) → start.held ≡ Some held → (c : Cell) → IsCell p.arrays c.array c.coord → lent.promise (key_of p.arrays c) ≡ cell_value p (stored_inputs p.arrays held) c
  promised_at held told c piece =
      subst (λ (h : Option Contents). bytes_under (promised_writes p h) (key_of p.arrays c) ≡ cell_value p (stored_inputs p.arrays held) c) (sym told)
      (promise_value p (stored_inputs p.arrays held) chunks c piece)

  -- over any elements of the inputs of which the store was left so
  promised_by : (env : Elements) → IsLeft r env start → (c : Cell) → IsCell p.arrays c.array c.coord → lent.promise (key_of p.arrays c) ≡ cell_value p env c
  promised_by env left c piece =
      promised_at left.held left.told c piece
      ∙ chunks_alike p (stored_inputs p.arrays left.held) env sound left.inputs c (piece.within, piece.coordinate)

  -- ---- what sharing wants

  fits : (h : Option Contents) → IsPromiseOf (specs_of p) (bytes_under (promised_writes p h))
  fits None = nothing_fits (specs_of p)
  fits (Some held) = promise_fits p (stored_inputs p.arrays held) chunks

  held_promised : (h : Option Contents) → start.held ≡ h → HoldsPromised lent h
  held_promised None told = tt
  held_promised (Some held) told = λ key bytes made is.
      let (c, piece, same) = made_cell p key made in
      let left = left_by held told in
      let now : left.held ≡ held = some_held left.held held (sym left.told ∙ told) in
      elim (left.pieces (Chunk c) piece) [
        | inl none ↦ absurd (not_both (held key) bytes (ap held (sym same) ∙ ap (λ (h : Contents). h (key_of p.arrays c)) (sym now) ∙ none) is)
        | inr there ↦
            let here : Some there.0 ≡ Some bytes = sym there.1 ∙ ap (λ (h : Contents). h (key_of p.arrays c)) now ∙ ap held same ∙ is in
            ap lent.promise (sym same) ∙ promised_at held told c piece ∙ there.2 ∙ here
      ]

  late_promised : (h : Option Contents) → start.held ≡ h → LatePromised lent h start.late
  late_promised None told = tt
  late_promised (Some held) told = λ key bytes made among.
      let (c, piece, same) = made_cell p key made in
      ap lent.promise (sym same) ∙ promised_at held told c piece
      ∙ (left_by held told).quiet.pieces (Chunk c) bytes piece (subst (λ (k : List ℕ). IsAmong start.late k bytes) (sym same) among)

  late_steady : (h : Option Contents) → start.held ≡ h → LateSteady (specs_of p) h start.late
  late_steady None told = tt
  late_steady (Some held) told = λ key bytes served read among.
      let (c, input, same) = read_input p key served read in
      let left = left_by held told in
      let now : left.held ≡ held = some_held left.held held (sym left.told ∙ told) in
      ap held (sym same) ∙ ap (λ (h : Contents). h (key_of p.arrays c)) (sym now)
      ∙ left.quiet.inputs c bytes input (subst (λ (k : List ℕ). IsAmong start.late k bytes) (sym same) among)

  pub may_share : MayShare lent start
  may_share = record {
    promise = fits start.held;
    held = held_promised start.held refl;
    late = late_promised start.held refl;
    steady = late_steady start.held refl;
  }

  -- ---- once the keys are shared

  module _ (tries : ℕ) (mid : Shown) (share : Steps NoChange 0 tries start mid) (wants : Bool) (yard : Served) (first : Known) (shared : IsShared lent wants mid yard first) where
    -- an input's chunk holds what it held
    read_same : (held now : Contents) → start.held ≡ Some held → mid.held ≡ Some now → (a : ℕ) (idx : List ℕ) → a < length p.arrays → maker_at p.arrays a ≡ None → IsInside (grid_at p.arrays a).shape idx
        → stored_inputs p.arrays now a idx ≡ stored_inputs p.arrays held a idx
    read_same held now told told_now a idx within given inside =
        let left = left_kept r (stored_inputs p.arrays held) start (left_by held told) 0 tries mid (steps_none share) in
        ap (λ (h : Contents). stored_inputs p.arrays h a idx) (some_held now left.held (sym told_now ∙ left.told)) ∙ left.inputs a idx within given inside

    -- the entries of the yard are what the inputs' chunks hold
    entry_same : (now entries : Contents) → ((key : List ℕ) → IsTrue (is_served (specs_of p) key) → is_made (specs_of p) key ≡ false → entries key ≡ now key)
        → (a : ℕ) (idx : List ℕ) → a < length p.arrays → maker_at p.arrays a ≡ None → IsInside (grid_at p.arrays a).shape idx → stored_inputs p.arrays entries a idx ≡ stored_inputs p.arrays now a idx
    entry_same now entries tells a idx within given inside =
        let g = grid_at p.arrays a in
        let c = cell a (quotients idx g.chunk) in
        let read = input_read p chunks c (as_stored c (within, has_coordinate g idx (grid_ok p a sound within) inside) given) given in
        ap (λ (bytes : Option (List ℕ)). element_in (layout_at p.arrays a) bytes idx) (tells (key_of p.arrays c) read.0 read.1)

    values_of : (h : Option Contents) → mid.held ≡ h → ServesAs lent h yard → PromisesValues p yard.promise yard.entries
    values_of None told (promise, entries) = subst (λ (o : Option Contents). PromisesValues p o yard.entries) (sym promise) tt
    values_of (Some now) told (promise, (entries, is, tells)) =
        let (held, before) = told_before (OrLate NoChange start.late) start.held mid.held now share.lands told in
        subst (λ (o : Option Contents). PromisesValues p o yard.entries) (sym promise)
        (subst (λ (o : Option Contents). PromisesValues p (Some lent.promise) o) (sym is)
        (λ c piece.
        promised_at held before c piece
        ∙ chunks_alike p (stored_inputs p.arrays held) (stored_inputs p.arrays entries) sound
        (λ a idx within given inside. sym (entry_same now entries tells a idx within given inside ∙ read_same held now before told a idx within given inside))
        c (piece.within, piece.coordinate)))

    pub serves : ServesPlan p yard
    serves = record {
      cells = λ c piece. subst (λ (specs : List Spec). IsTrue (is_made specs (key_of p.arrays c))) (sym shared.specs) (cell_made p c piece);
      inputs = λ c chunk given.
          let read = input_read p chunks c (as_stored c chunk given) given in
          (subst (λ (specs : List Spec). IsTrue (is_served specs (key_of p.arrays c))) (sym shared.specs) read.0, ap (λ (specs : List Spec). is_made specs (key_of p.arrays c)) shared.specs ∙ read.1);
      values = values_of mid.held refl shared.tells;
    }

    -- what is held of the tasks that are done at first was seen
    pub seen_first : (done : List Bool) → ((held : Contents) → start.held ≡ Some held → IsFound p held done) → HasSeenDone p (opening done) first.seen
    seen_first done found = found_seen p lent wants mid yard first done sound shared (λ c piece. cell_made p c piece) (λ now told_now.
        let (held, told) = told_before (OrLate NoChange start.late) start.held mid.held now share.lands told_now in
        found_stays p r start start mid 0 tries held now done (steps_none share) told told_now (found held told))

    -- ---- once the tasks were run

    module _ (table now : TableView) (last : Known) (plan : table.settings.plan ≡ p) (ran : HasWorked yard table now first last) where
      pub may_give_back : MayGiveBack lent mid yard last
      may_give_back =
          let may = may_share_later share may_share in
          record {
            specs = shared.specs;
            promise = ran.later.yard.promise ∙ shared.promise;
            held = may.held;
            late = may.late;
          }

      module _ (new : Shown) (back : Steps (PutPromised lent) 0 last.calls mid new) (holds : HoldsSeen lent last.seen new.held) (counts : AddsCounts last mid new) where
        -- each put is the value of a chunk
        change_is : (key : List ℕ) (value : Option (List ℕ)) → PutPromised lent key value → RunChange r start key value
        change_is key value (bytes, is, made, promised) =
            let (c, piece, same) = made_cell p key made in
            (Chunk c, bytes, piece, sym same, is, λ env left. sym (promised_by env left c piece) ∙ ap lent.promise same ∙ promised)

        pub shared_step : Steps (RunChange r start) 0 last_count start new
        shared_step =
            let one : Steps (RunChange r start) 0 tries start mid = steps_none share in
            let two : Steps (RunChange r start) 0 last.calls mid new = steps_wider change_is (omega arith) (omega arith) back in
            let both = steps_then one two in
            record { lands = both.lands; late = both.late; count = both.count; calls = (let c = both.calls in (omega (arith, c.0), omega (arith, c.2), c.2)); lacks = both.lacks }

        pub shared_rose : Rose (count_kind is_failed now.history) start.faults new.faults
        shared_rose =
            let rose = ran.rose in
            let none = shared.faults in
            let sum = counts.faults in
            let more = share.count in
            omega (arith, rose, none, sum, more)

        pub shared_calls : (m : ℕ) → last.calls ≤ first.calls + count_kind is_start now.history * m → new.calls ≤ start.calls + tries + count_kind is_start now.history * m
        shared_calls m few =
            let none = shared.calls in
            let sum = counts.calls in
            let more = share.calls.1 in
            omega (arith, few, none, sum, more)

        pub shared_driven : (o : Outcome) → IsDecided p now.state o → HasDriven table now start new o
        shared_driven o decided = record {
          settings = ran.settings;
          done = ran.done;
          legal = ran.legal;
          resting = ran.resting;
          decided = subst (λ (q : PlanView). IsDecided q now.state o) (sym plan) decided;
          rose = shared_rose;
        }

        -- each chunk of a task that is done is held
        seen_held : FitsYard yard last → (env : Elements) → IsLeft r env start → (c : Cell) → IsCell p.arrays c.array c.coord → IsTrue (last.seen (key_of p.arrays c)) → HoldsPiece r env (Chunk c) new
        seen_held own env left c piece seen =
            let (held, told) = told_later (OrLate NoChange start.late) start.held mid.held left.held share.lands left.told in
            let (after, told_new) = told_later (OrLate (PutPromised lent) mid.late) mid.held new.held held back.lands told in
            let entries = tells_entries mid.held told shared.tells in
            let (bytes, is) = there_is (last.promise (key_of p.arrays c)) (own.present entries.0 (sym own.entries ∙ entries.1) (key_of p.arrays c) seen) in
            let promised : lent.promise (key_of p.arrays c) ≡ Some bytes = ap (λ (f : Contents). f (key_of p.arrays c)) (sym (ran.later.yard.promise ∙ shared.promise)) ∙ is in
            let here : after (key_of p.arrays c) ≡ lent.promise (key_of p.arrays c) =
            subst (λ (h : Option Contents). HoldsSeen lent last.seen h) told_new holds (key_of p.arrays c) (cell_made p c piece) seen in
            (bytes, sym (promised_by env left c piece) ∙ promised, subst (λ (h : Option Contents). Holds h (key_of p.arrays c) bytes) (sym told_new) (here ∙ promised))
          where
            tells_entries : (h : Option Contents) {held : Contents} → h ≡ Some held → ServesAs lent h yard → (entries : Contents) × (yard.entries ≡ Some entries)
            tells_entries None told tells = cc
            tells_entries (Some x) told (promise, (entries, is, rest)) = (entries, is)

        pub shared_done : FitsYard yard last → (env : Elements) → IsLeft r env start → HoldsDone r env now.state new
        shared_done own env left op task is done c listed =
            let piece = written_cell p sound op task c.array c.coord (record { operation = is.operation; number = is.number; cell = listed }) in
            let all : HasSeenDone p now.state last.seen = subst (λ (q : PlanView). HasSeenDone q now.state last.seen) plan ran.seen in
            seen_held own env left c piece (all op task is done c listed)

        -- ---- a chunk that ended the run

        input_of : (h : Option Contents) → mid.held ≡ h → ServesAs lent h yard → (key : List ℕ) (got want : ℕ) → IsBadOfInput p yard.promise yard.entries (fault.BadChunk key got want)
            → HoldsLength new.held key got × ((held : Contents) → h ≡ Some held → IsInputKey p key)
        input_of None told (promise, entries) key got want bad = (
          nothing_told new.held (untold_later mid.held new.held told back.lands),
          λ held some. absurd (none_some held some),
        )
          where
            untold_later : (a b : Option Contents) → a ≡ None → Lands (OrLate (PutPromised lent) mid.late) a b → b ≡ None
            untold_later None None e lands = refl
            untold_later None (Some b) e lands = absurd lands
            untold_later (Some a) b e lands = cc

            nothing_told : (b : Option Contents) → b ≡ None → HoldsLength b key got
            nothing_told None e = tt
            nothing_told (Some b) e = cc

            none_some : (held : Contents) → ◌≡◌ {A = Option Contents} None (Some held) → ⊥
            none_some held e = cc
        input_of (Some held) told (promise, (entries, is, tells)) key got want bad =
            let (c, chunk, given, is_key, is_want, differ, long) =
            subst (λ (o : Option Contents). IsBadOfInput p o yard.entries (fault.BadChunk key got want)) promise bad in
            let read = input_read p chunks c (as_stored c chunk given) given in
            let (bytes, there, size) = subst (λ (o : Option Contents). HoldsLength o key got) is long in
            let (after, told_new) = told_later (OrLate (PutPromised lent) mid.late) mid.held new.held held back.lands told in
            let was : held (key_of p.arrays c) ≡ Some bytes = sym (tells (key_of p.arrays c) read.0 read.1) ∙ ap entries (sym is_key) ∙ there in
            let lands : Lands (OrLate (PutPromised lent) mid.late) (Some held) (Some after) =
            subst (λ (b : Option Contents). Lands (OrLate (PutPromised lent) mid.late) (Some held) b) told_new
            (subst (λ (a : Option Contents). Lands (OrLate (PutPromised lent) mid.late) a new.held) told back.lands) in
            let now_is = stays held after (key_of p.arrays c) bytes (lands (key_of p.arrays c)) was
            (λ unmade. true_false (is_made (specs_of p) (key_of p.arrays c)) unmade read.1)
            (λ other among.
            subst (λ (h : Option Contents). LateSteady (specs_of p) h mid.late) told (may_share_later share may_share).steady (key_of p.arrays c) other read.0 read.1 among) in (
              subst (λ (b : Option Contents). HoldsLength b key got) (sym told_new) (bytes, ap after is_key ∙ now_is, size),
              λ other some. (c, record { within = chunk.0; given = given; coordinate = chunk.1 }, is_key),
            )
          where
            true_false : (b : Bool) → IsTrue b → b ≡ false → ⊥
            true_false b h e = cc

            stays : (a b : Contents) (key bytes : List ℕ) → IsChangedBy (OrLate (PutPromised lent) mid.late) a b key → a key ≡ Some bytes
                → (IsTrue (is_made (specs_of p) key) → ⊥) → ((other : List ℕ) → IsAmong mid.late key other → a key ≡ Some other) → b key ≡ Some bytes
            stays a b key bytes (inl same) holds unmade steady = same ∙ holds
            stays a b key bytes (inr (inl (put, is, made, promised))) holds unmade steady = absurd (unmade made)
            stays a b key bytes (inr (inr (put, is, among))) holds unmade steady = is ∙ (sym (steady put among) ∙ holds)

        pub shared_bad : FitsYard yard last → (o : Outcome) → IsDecided p now.state o → IfBadChunk o (IsBadChunk p new)
        shared_bad own outcome.Complete decided = tt
        shared_bad own (outcome.Broken op task) decided = tt
        shared_bad own outcome.Lacked decided = tt
        shared_bad own (outcome.BadChunk key got want) decided =
            let cause = subst (λ (q : PlanView). IsCauseOf q last (fault.BadChunk key got want)) plan (ran.cause (fault.BadChunk key got want) decided) in
            let bad = bad_of_input p yard last key got want own cause in
            let r = cause.0 in
            (r.op, r.task, r.cell, r.is.operation, r.is.number, r.read, r.key_is, r.want_is, r.other, (input_of mid.held refl shared.tells key got want bad).0)

        pub shared_input : FitsYard yard last → (o : Outcome) → IsDecided p now.state o → (env : Elements) → IsLeft r env start → IfBadChunk o (λ key got want. IsInputKey p key)
        shared_input own outcome.Complete decided env left = tt
        shared_input own (outcome.Broken op task) decided env left = tt
        shared_input own outcome.Lacked decided env left = tt
        shared_input own (outcome.BadChunk key got want) decided env left =
            let cause = subst (λ (q : PlanView). IsCauseOf q last (fault.BadChunk key got want)) plan (ran.cause (fault.BadChunk key got want) decided) in
            let (held, told) = told_later (OrLate NoChange start.late) start.held mid.held left.held share.lands left.told in
            (input_of mid.held refl shared.tells key got want (bad_of_input p yard last key got want own cause)).1 held told

        pub shared_lacked : (o : Outcome) → IsDecided p now.state o → IfLacked o (IsTrue wants)
        shared_lacked outcome.Complete decided = tt
        shared_lacked (outcome.Broken op task) decided = tt
        shared_lacked (outcome.BadChunk key got want) decided = tt
        shared_lacked outcome.Lacked decided = subst IsTrue (ran.later.yard.lacks ∙ shared.lacks) (ran.cause fault.NoMemory decided)

-- ---- before the tasks

-- what is shared is what the plan's run lends
pub lent_is : (p : PlanView) (h : Option Contents) (specs : List Spec) (writes : List Write) → specs ≡ specs_of p → writes ≡ promised_writes p h
    → lent_of p h ≡ record { specs = specs; promise = bytes_under writes }
lent_is p h specs writes is named = rw (is, named) refl

-- a list that names no task names none whose chunks aren't held
unnamed : (n k : ℕ) → slice_index_or (replicate n false) k false ≡ false
unnamed zero k = refl
unnamed (suc n) zero = refl
unnamed (suc n) (suc k) = unnamed n k

pub none_found : (p : PlanView) (held : Contents) → IsFound p held (none_done p)
none_found p held = record {
  tasks = length-replicate (task_count p) false;
  stored = λ op task is named. absurd (true≢false (sym named ∙ unnamed (task_count p) (task_number p op task)));
}
