-- The texts of a plan and then its chunks, one after another.
use Rattle.std.proofs.Common.{◌≡◌, ◌≢◌, inl, inr, ℕ, zero, suc, ◌*◌, Bool, List, Option, Some, None, Result, Ok, Err, IfErr, refl, sym, ◌∙◌, subst, arith}
use Rattle.std.specs.Prelude.{OnOk}
use Rattle.cu_store.specs.Faults.{last_count}
use Rattle.cu_store.specs.Held.{Contents, Holds, IsHeldIn}
use Rattle.cu_store.specs.Share.{IsShareFault}
use Rattle.cu_store.specs.Steps.{Shown, Changes, NoChange, PutOf, OrLate, Lands, Within, Steps}
use Rattle.cu_store.specs.declared.faults.DepotFault.{DepotFault}
use Rattle.cu_store.specs.declared.faults.DepotFault.TheVariants as depot
use Rattle.cu_store.proofs.Steps.{steps_then, steps_wider, steps_none}
use Rattle.cu_op.specs.declared.cells.Cell.{Cell}
use Rattle.cu_op.specs.PlanView.{PlanView}
use Rattle.cu_op.specs.Schedule.{key_of}
use Rattle.cu_op.specs.Elements.{Elements}
use Rattle.cu_op.specs.Value.{stored_inputs}
use Rattle.cu_op.proofs.Ranges.{stored_range}
use Rattle.cu_run_law.specs.Left.{IsLeft, Begun, RunChange}
use Rattle.cu_run_law.specs.Pieces.{PlanRun, chunks_alone, Piece, Text, Chunk, IsPiece, piece_key, piece_value, HoldsPiece, IsComplete, IsInputChunk, KeysApart}
use Rattle.cu_run_law.proofs.Alike.{chunks_alike}
use Rattle.cu_run_law.proofs.Keeping.{left_kept, piece_stays, begun_since, left_alone, change_alone}
use Rattle.cu_run_law.proofs.Reading.{all_held}
use Rattle.cu_table.specs.Machine.{AllDone}
use Rattle.cu_table.specs.Table.{TableView}
use Rattle.cu_work.specs.declared.outcome.Outcome.{Outcome}
use Rattle.cu_work.specs.declared.outcome.Outcome.TheVariants as outcome
use Rattle.cu_work.specs.World.{IsFound}
use Rattle.cu_work.specs.declared.run.HeldTexts.{HeldTexts}
use Rattle.cu_work.specs.declared.run.HeldTexts.TheVariants.{Neither, Record, Both}
use Rattle.cu_work.specs.declared.run.Texts.{Texts}
use Rattle.cu_work.specs.declared.run.RunFault.{RunFault}
use Rattle.cu_work.specs.declared.run.RunFault.TheVariants.{TextFailed, ShareFailed, NoMemory}
use Rattle.cu_work.specs.Run.{run_of, share_fault, PutOfText, PutOfMissing, AreTextsHeld, IsRecordFirst, HoldsTexts, IsRunFault, IsTextPutFault, IsUnstored}
use Rattle.cu_work.specs.Shared.{IsOpen, IsOpenAs, HasDriven, HoldsDone, IfComplete}
use Rattle.cu_work.proofs.Resuming.{found_stays}

-- a put of a text is a put of a piece
record_within : (p : PlanView) (t : Texts) (first : Shown) → Within (PutOf t.record_key t.record.now) (RunChange (run_of p t) first)
record_within p t first key value (at, is) = (Text 0, t.record.now, omega arith, at, is, λ env left. refl)

metadata_within : (p : PlanView) (t : Texts) (first : Shown) → Within (PutOf t.metadata_key t.metadata.now) (RunChange (run_of p t) first)
metadata_within p t first key value (at, is) = (Text 1, t.metadata.now, omega arith, at, is, λ env left. refl)

later_within : (r : PlanRun) (first now : Shown) → ((env : Elements) → IsLeft r env first → IsLeft r env now) → Within (RunChange r now) (RunChange r first)
later_within r first now still key value (q, bytes, piece, at, is, valued) = (q, bytes, piece, at, is, λ env left. valued env (still env left))

-- however many calls
pub however_many : {W : Changes} {l m : ℕ} {a b : Shown} → Steps W l m a b → Steps W 0 last_count a b
however_many step = record {
  lands = step.lands;
  late = step.late;
  count = step.count;
  calls = (let c = step.calls in (omega (arith, c.0), omega (arith, c.2), c.2));
  lacks = step.lacks;
}

-- ---- the texts

module _ (p : PlanView) (t : Texts) (tries : ℕ) (first after : Shown) (put : Steps (PutOf t.record_key t.record.now) 1 tries first after) where
  -- after the record
  pub record_step : Steps (RunChange (run_of p t) first) 0 (2 * tries) first after
  record_step = steps_wider (record_within p t first) (omega arith) (omega arith) put

  pub record_own : Steps (PutOfText t) 0 (2 * tries) first after
  record_own = steps_wider (λ key value change. inl change) (omega arith) (omega arith) put

  left_after_record : (env : Elements) → IsLeft (run_of p t) env first → IsLeft (run_of p t) env after
  left_after_record env left = left_kept (run_of p t) env first left 0 (2 * tries) after (begun_since (run_of p t) env first left 0 (2 * tries) after record_step)

  pub record_unstored : (f : RunFault) → IsTextPutFault tries t.record_key first after f → (env : Elements) → IsUnstored (run_of p t) env tries first after f
  record_unstored (TextFailed key) (same, rose) env = inl (same, steps_wider (λ k value change. change) (omega arith) (omega arith) put)
  record_unstored ShareFailed cause env = absurd cause
  record_unstored NoMemory cause env = inl (steps_wider (λ key value change. change) (omega arith) (omega arith) put)

  pub record_cause : (f : RunFault) → IsTextPutFault tries t.record_key first after f → IsRunFault Neither tries t first after f
  record_cause (TextFailed key) (same, rose) = (inl same, rose)
  record_cause ShareFailed cause = absurd cause
  record_cause NoMemory cause = cause

  module _ (stored : Holds after.held t.record_key t.record.now) (last : Shown) (second : Steps (PutOf t.metadata_key t.metadata.now) 1 tries after last) where
    -- after the metadata
    pub texts_step : Steps (RunChange (run_of p t) first) 0 (2 * tries) first last
    texts_step =
        let one : Steps (RunChange (run_of p t) first) 0 tries first after = steps_wider (record_within p t first) (omega arith) (omega arith) put in
        let two : Steps (RunChange (run_of p t) first) 0 tries after last = steps_wider (metadata_within p t first) (omega arith) (omega arith) second in
        steps_wider (λ key value change. change) (omega arith) (omega arith) (steps_then one two)

    pub texts_own : Steps (PutOfText t) 0 (2 * tries) first last
    texts_own =
        let one : Steps (PutOfText t) 0 tries first after = steps_wider (λ key value change. inl change) (omega arith) (omega arith) put in
        let two : Steps (PutOfText t) 0 tries after last = steps_wider (λ key value change. inr change) (omega arith) (omega arith) second in
        steps_wider (λ key value change. change) (omega arith) (omega arith) (steps_then one two)

    begun_second : (env : Elements) → IsLeft (run_of p t) env first → Begun (run_of p t) env 0 tries after last
    begun_second env left = begun_since (run_of p t) env after (left_after_record env left) 0 tries last (steps_wider (metadata_within p t after) (omega arith) (omega arith) second)

    record_held : (env : Elements) → IsLeft (run_of p t) env first → HoldsPiece (run_of p t) env (Text 0) last
    record_held env left = piece_stays (run_of p t) env after (left_after_record env left) 0 tries last (begun_second env left) (Text 0) (omega arith) (t.record.now, refl, stored)

    unstored_last : (f : RunFault) → IsTextPutFault tries t.metadata_key after last f → (env : Elements) → IsLeft (run_of p t) env first → IsUnstored (run_of p t) env tries first last f
    unstored_last (TextFailed key) (same, rose) env left = inr (same, record_held env left)
    unstored_last ShareFailed cause env left = absurd cause
    unstored_last NoMemory cause env left = inr (record_held env left)

    pub metadata_unstored : (result : Result (Unit {0}) RunFault) → IfErr result (IsTextPutFault tries t.metadata_key after last) → (env : Elements) → IsLeft (run_of p t) env first
        → IfErr result (IsUnstored (run_of p t) env tries first last)
    metadata_unstored (Ok x) cause env left = tt
    metadata_unstored (Err f) cause env left = unstored_last f cause env left

    cause_last : (f : RunFault) → IsTextPutFault tries t.metadata_key after last f → IsRunFault Neither tries t first last f
    cause_last (TextFailed key) (same, rose) = (inr same, let more = put.count in omega (arith, rose, more))
    cause_last ShareFailed cause = absurd cause
    cause_last NoMemory cause = cause

    pub metadata_cause : (result : Result (Unit {0}) RunFault) → IfErr result (IsTextPutFault tries t.metadata_key after last) → IfErr result (IsRunFault Neither tries t first last)
    metadata_cause (Ok x) cause = tt
    metadata_cause (Err f) cause = cause_last f cause

    both_held : Holds last.held t.metadata_key t.metadata.now → (env : Elements) → IsLeft (run_of p t) env first → HoldsTexts (run_of p t) env last
    both_held stored_second env left zero h = record_held env left
    both_held stored_second env left (suc zero) h = (t.metadata.now, refl, stored_second)
    both_held stored_second env left (suc (suc n)) h = absurd (omega arith)

    pub texts_stored : (result : Result (Unit {0}) RunFault) → OnOk result (Holds last.held t.metadata_key t.metadata.now) → (env : Elements) → IsLeft (run_of p t) env first
        → OnOk result (HoldsTexts (run_of p t) env last)
    texts_stored (Ok x) stored_second env left = both_held stored_second env left
    texts_stored (Err f) stored_second env left = tt

-- ---- the texts where some are held

-- what is held of a plan is of its one value
held_piece : (r : PlanRun) (env : Elements) (shown : Shown) → IsLeft r env shown → (q : Piece) → IsPiece r q → IsHeldIn shown.held (piece_key r q) → HoldsPiece r env q shown
held_piece r env shown left q piece there =
    let (bytes, holds) = subst (λ (h : Option Contents). IsHeldIn h (piece_key r q)) left.told there in
    elim (left.pieces q piece) [
      | inl none ↦ absurd (none_some bytes (sym none ∙ holds))
      | inr (value, has, v) ↦ (value, v, subst (λ (h : Option Contents). Holds h (piece_key r q) value) (sym left.told) has)
    ]
  where
    none_some : (bytes : List ℕ) → None ≡ Some bytes → ⊥
    none_some bytes e = cc

module _ (p : PlanView) (t : Texts) (tries : ℕ) (first : Shown) (held : AreTextsHeld Record t first.held) (last : Shown) (put : Steps (PutOf t.metadata_key t.metadata.now) 1 tries first last) where
  -- after the metadata, where the record is held
  pub second_step : Steps (RunChange (run_of p t) first) 0 (2 * tries) first last
  second_step = steps_wider (metadata_within p t first) (omega arith) (omega arith) put

  pub second_own : Steps (PutOfMissing Record t) 0 (2 * tries) first last
  second_own = steps_wider (λ key value change. change) (omega arith) (omega arith) put

  first_stays : (env : Elements) → IsLeft (run_of p t) env first → HoldsPiece (run_of p t) env (Text 0) last
  first_stays env left =
      piece_stays (run_of p t) env first left 0 (2 * tries) last (begun_since (run_of p t) env first left 0 (2 * tries) last second_step) (Text 0) (omega arith)
      (held_piece (run_of p t) env first left (Text 0) (omega arith) held)

  two_held : (env : Elements) → IsLeft (run_of p t) env first → Holds last.held t.metadata_key t.metadata.now → HoldsTexts (run_of p t) env last
  two_held env left stored zero h = first_stays env left
  two_held env left stored (suc zero) h = (t.metadata.now, refl, stored)
  two_held env left stored (suc (suc n)) h = absurd (omega arith)

  pub second_stored : (result : Result (Unit {0}) RunFault) → OnOk result (Holds last.held t.metadata_key t.metadata.now) → (env : Elements) → IsLeft (run_of p t) env first
      → OnOk result (HoldsTexts (run_of p t) env last)
  second_stored (Ok x) stored env left = two_held env left stored
  second_stored (Err f) stored env left = tt

  unstored_second : (f : RunFault) → IsTextPutFault tries t.metadata_key first last f → (env : Elements) → IsLeft (run_of p t) env first → IsUnstored (run_of p t) env tries first last f
  unstored_second (TextFailed key) (same, rose) env left = inr (same, first_stays env left)
  unstored_second ShareFailed cause env left = absurd cause
  unstored_second NoMemory cause env left = inr (first_stays env left)

  pub second_unstored : (result : Result (Unit {0}) RunFault) → IfErr result (IsTextPutFault tries t.metadata_key first last) → (env : Elements) → IsLeft (run_of p t) env first
      → IfErr result (IsUnstored (run_of p t) env tries first last)
  second_unstored (Ok x) cause env left = tt
  second_unstored (Err f) cause env left = unstored_second f cause env left

  cause_second : (f : RunFault) → IsTextPutFault tries t.metadata_key first last f → IsRunFault Record tries t first last f
  cause_second (TextFailed key) cause = cause
  cause_second ShareFailed cause = absurd cause
  cause_second NoMemory cause = cause

  pub second_cause : (result : Result (Unit {0}) RunFault) → IfErr result (IsTextPutFault tries t.metadata_key first last) → IfErr result (IsRunFault Record tries t first last)
  second_cause (Ok x) cause = tt
  second_cause (Err f) cause = cause_second f cause

-- where both are held
pub both_there : (p : PlanView) (t : Texts) (first : Shown) → AreTextsHeld Both t first.held → (env : Elements) → IsLeft (run_of p t) env first → HoldsTexts (run_of p t) env first
both_there p t first held env left zero h = held_piece (run_of p t) env first left (Text 0) (omega arith) held.0
both_there p t first held env left (suc zero) h = held_piece (run_of p t) env first left (Text 1) (omega arith) held.1
both_there p t first held env left (suc (suc n)) h = absurd (omega arith)

-- ---- the store before the tasks

-- the store is left so over the inputs that it holds
pub left_stored : (r : PlanRun) (env : Elements) (shown : Shown) (left : IsLeft r env shown) → IsLeft r (stored_inputs r.plan.arrays left.held) shown
left_stored r env shown left = record {
  held = left.held;
  told = left.told;
  sound = left.sound;
  apart = left.apart;
  typed = stored_range r.plan.arrays left.held left.sound.arrays;
  inputs = λ a idx within given inside. refl;
  pieces = λ q piece. elim (left.pieces q piece) [ inl none ↦ inl none | inr there ↦ inr (there.0, there.1, same q piece ∙ there.2) ];
  quiet = record {
    pieces = λ q bytes piece among. same q piece ∙ left.quiet.pieces q bytes piece among;
    inputs = left.quiet.inputs;
  };
}
  where
    same : (q : Piece) → IsPiece r q → piece_value r (stored_inputs r.plan.arrays left.held) q ≡ piece_value r env q
    same (Text n) piece = refl
    same (Chunk c) piece = chunks_alike r.plan (stored_inputs r.plan.arrays left.held) env left.sound left.inputs c (piece.within, piece.coordinate)

pub apart_alone : (r : PlanRun) → KeysApart r → KeysApart (chunks_alone r.plan)
apart_alone r apart = record { pieces = pieces; inputs = λ q c piece input. inputs q c piece input }
  where
    pieces : (q s : Piece) → IsPiece (chunks_alone r.plan) q → IsPiece (chunks_alone r.plan) s → piece_key (chunks_alone r.plan) q ≡ piece_key (chunks_alone r.plan) s → q ≡ s
    pieces (Text n) s piece other e = absurd (omega arith)
    pieces (Chunk c) (Text n) piece other e = absurd (omega arith)
    pieces (Chunk c) (Chunk d) piece other e = apart.pieces (Chunk c) (Chunk d) piece other e

    inputs : (q : Piece) (c : Cell) → IsPiece (chunks_alone r.plan) q → IsInputChunk r.plan.arrays c → piece_key (chunks_alone r.plan) q ≢ key_of r.plan.arrays c
    inputs (Text n) c piece input e = absurd (omega arith)
    inputs (Chunk d) c piece input e = apart.inputs (Chunk d) c piece input e

some_held : (a b : Contents) → ◌≡◌ {A = Option Contents} (Some a) (Some b) → a ≡ b
some_held a b e = cc

told_before : (W : Changes) (a b : Option Contents) (now : Contents) → Lands W a b → b ≡ Some now → (held : Contents) × (a ≡ Some held)
told_before W None None now lands told = cc
told_before W None (Some b) now lands told = absurd lands
told_before W (Some a) b now lands told = (a, refl)

module _ (p : PlanView) (t : Texts) (texts_held : HeldTexts) (tries : ℕ) (first mid : Shown) (step : Steps (RunChange (run_of p t) first) 0 (2 * tries) first mid)
    (own : Steps (PutOfMissing texts_held t) 0 (2 * tries) first mid) where
  -- the chunks of the tasks that are done at first are held
  pub found_mid : (done : List Bool) → ((held : Contents) → first.held ≡ Some held → IsFound p held done) → (now : Contents) → mid.held ≡ Some now → IsFound p now done
  found_mid done found now told_now =
      let (held, told) = told_before (OrLate (RunChange (run_of p t) first) first.late) first.held mid.held now step.lands told_now in
      found_stays p (run_of p t) first first mid 0 (2 * tries) held now done step told told_now (found held told)

  left_mid : (env : Elements) → IsLeft (run_of p t) env first → IsLeft (run_of p t) env mid
  left_mid env left = left_kept (run_of p t) env first left 0 (2 * tries) mid (begun_since (run_of p t) env first left 0 (2 * tries) mid step)

  open_at : (a b : Option Contents) → first.held ≡ a → mid.held ≡ b → Lands (OrLate (RunChange (run_of p t) first) first.late) a b → IsOpenAs (run_of p t) a first → IsOpenAs (chunks_alone p) b mid
  open_at None None told now lands opens = tt
  open_at None (Some b) told now lands opens = absurd lands
  open_at (Some a) None told now lands opens = absurd lands
  open_at (Some a) (Some b) told now lands opens =
      let left = left_alone (run_of p t) (stored_inputs p.arrays a) mid (left_mid (stored_inputs p.arrays a) opens) in
      subst (λ (h : Contents). IsLeft (chunks_alone p) (stored_inputs p.arrays h) mid) (some_held left.held b (sym left.told ∙ now)) (left_stored (chunks_alone p) (stored_inputs p.arrays a) mid left)

  pub open_mid : IsOpen (run_of p t) first → IsOpen (chunks_alone p) mid
  open_mid opens = open_at first.held mid.held refl refl step.lands opens

  pub alone_mid : (env : Elements) → IsLeft (run_of p t) env first → IsLeft (chunks_alone p) env mid
  alone_mid env left = left_alone (run_of p t) env mid (left_mid env left)

  -- ---- and after them

  module _ (new : Shown) (drive : Steps (RunChange (chunks_alone p) mid) 0 last_count mid new) where
    drive_step : Steps (RunChange (run_of p t) mid) 0 last_count mid new
    drive_step = change_alone (run_of p t) mid 0 last_count mid new drive

    pub run_step : Steps (RunChange (run_of p t) first) 0 last_count first new
    run_step =
        let later : Steps (RunChange (run_of p t) first) 0 last_count mid new = steps_wider (later_within (run_of p t) first mid left_mid) (omega arith) (omega arith) drive_step in
        however_many (steps_then step later)

    pub texts_after : ((env : Elements) → IsLeft (run_of p t) env first → HoldsTexts (run_of p t) env mid) → (env : Elements) → IsLeft (run_of p t) env first → HoldsTexts (run_of p t) env new
    texts_after stored env left n h =
        piece_stays (run_of p t) env mid (left_mid env left) 0 last_count new (begun_since (run_of p t) env mid (left_mid env left) 0 last_count new drive_step) (Text n) h (stored env left n h)

    -- where all is done each piece is held
    pub complete_after : ((env : Elements) → IsLeft (run_of p t) env first → HoldsTexts (run_of p t) env mid) → (first_table now : TableView) (before : Shown) (o : Outcome)
        → first_table.settings.plan ≡ p → HasDriven first_table now before new o
        → (env : Elements) → IsLeft (run_of p t) env first → HoldsDone (run_of p t) env now.state new → IfComplete o (IsComplete (run_of p t) env new)
    complete_after stored first_table now before outcome.Complete plan driven env left done =
        let all : AllDone p now.state = subst (λ (q : PlanView). AllDone q now.state) plan driven.decided.1 in
        all_held (run_of p t) env new left.sound (texts_after stored env left)
        (λ l other earlier. done l other (record { operation = earlier.0; number = earlier.1 }) (all l other (record { operation = earlier.0; number = earlier.1 })))
    complete_after stored first_table now before (outcome.Broken op task) plan driven env left done = tt
    complete_after stored first_table now before (outcome.BadChunk key got want) plan driven env left done = tt
    complete_after stored first_table now before outcome.Lacked plan driven env left done = tt

  -- ---- where they weren't run

  pub share_refused : (new : Shown) → Steps NoChange 0 tries mid new → Steps (PutOfMissing texts_held t) 0 (3 * tries) first new
  share_refused new share =
      let two : Steps (PutOfMissing texts_held t) 0 tries mid new = steps_none share in
      steps_wider (λ key value change. change) (omega arith) (omega arith) (steps_then own two)

  pub share_unstored : (new : Shown) → ((env : Elements) → IsLeft (run_of p t) env first → HoldsTexts (run_of p t) env new) → (f : DepotFault) (env : Elements) → IsLeft (run_of p t) env first
      → IsUnstored (run_of p t) env tries first new (share_fault f)
  share_unstored new held depot.Failed env left = held env left
  share_unstored new held depot.NoMemory env left = inr (held env left 0 (omega arith))

  pub share_cause : (new : Shown) (f : DepotFault) → IsShareFault tries mid new f → IsRunFault texts_held tries t first new (share_fault f)
  share_cause new depot.Failed rose = let more = own.count in omega (arith, rose, more)
  share_cause new depot.NoMemory lacks = lacks

-- of the plan nothing but the record was put, or it is held, where the texts weren't stored
pub unstored_first : (p : PlanView) (t : Texts) (env : Elements) (tries : ℕ) (first new : Shown) (f : RunFault) → IsUnstored (run_of p t) env tries first new f → IsRecordFirst (run_of p t) env last_count first new
unstored_first p t env tries first new (TextFailed key) (inl (same, step)) = inl (however_many step)
unstored_first p t env tries first new (TextFailed key) (inr (same, holds)) = inr holds
unstored_first p t env tries first new ShareFailed holds = inr (holds 0 (omega arith))
unstored_first p t env tries first new NoMemory (inl step) = inl (however_many step)
unstored_first p t env tries first new NoMemory (inr holds) = inr holds
