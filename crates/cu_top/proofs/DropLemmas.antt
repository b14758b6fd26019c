-- The removal of a plan's keys: which they are, what it leaves, and how it ends.
use Rattle.std.proofs.Common.{◌≡◌, ◌⊎◌, inl, inr, ℕ, zero, suc, ◌+◌, ◌*◌, ◌≤◌, List, [], ◌∷◌, length, All, Contains, Option, Some, None, Ok, Err, sym, ap, ◌∙◌, subst, arith}
use Rattle.std.proofs.lemmas.List.Elements.{All-weaker, All-contains, All-contains_itself, Contains-append_left, Contains-append_right, Contains-append_cases}
use Rattle.cu_store.specs.Faults.{Rose}
use Rattle.cu_store.specs.Held.{Contents, Write, IsAmong}
use Rattle.cu_store.specs.Steps.{Shown, NoChange, OrLate, AllLateIn, Within, Steps}
use Rattle.cu_zarr.specs.Key.{metadata_key_of}
use Rattle.cu_name.specs.Keys.{record_key_of}
use Rattle.cu_op.specs.PlanView.{PlanView}
use Rattle.cu_op.specs.Sound.{Sound}
use Rattle.cu_op.specs.Elements.{Elements}
use Rattle.cu_run_law.specs.Left.{IsLeft}
use Rattle.cu_run_law.specs.Pieces.{PlanRun, Piece, Text, Chunk, IsPiece, piece_key}
use Rattle.cu_work.specs.Commands.{CommandChange}
use Rattle.cu_work.specs.Order.{plan_keys}
use Rattle.cu_work.specs.Removal.{RemovalIn, IsGoneBut, AreRemoved, keys_before_record, removed_keys}
use Rattle.cu_work.specs.declared.removal.RemoveFault.{RemoveFault}
use Rattle.cu_work.specs.declared.removal.RemoveFault.TheVariants.{Failed, NoMemory as Lacking}
use Rattle.cu_work.proofs.CommandLaws.{plan_piece}
use Rattle.cu_command.specs.Seen.{Stepped}
use Rattle.cu_command.proofs.SeenLemmas.{stepped, stepped_then, stepped_wider, stepped_none}
use Rattle.cu_command.specs.declared.job.Job.{Job}
use Rattle.cu_command.specs.declared.status.Status.{Status}
use Rattle.cu_command.specs.declared.status.Status.TheVariants.{Done, WriteFault, DepotFailed, NoMemory}
use Rattle.cu_top.specs.Drop.{dropped_keys, keys_first, removal_line, IsDropping, AreGone, Dropped, remove_answer}
use Rattle.cu_top.specs.Held.{IsNotReopened, IsReopened}
use Rattle.cu_top.specs.Prepare.{keys_of}
use Rattle.cu_top.specs.Run.{RunCase, plan_in, job_run, env_of, WroteTo}

-- what commands keep
abbrev pub KeptLaw : Type 0
KeptLaw = (r : PlanRun) (env : Elements) (least most : ℕ) (old new : Shown) → IsLeft r env old → Steps (CommandChange r old) least most old new → IsLeft r env new

-- ---- the keys

first_or_behind : (x : List ℕ) (xs : List (List ℕ)) (key : List ℕ) → Contains (x ∷ xs) key → (key ≡ x) ⊎ Contains xs key
first_or_behind x xs key (zero, below, e) = inl (sym e)
first_or_behind x xs key (suc i, below, e) = inr (i, omega (arith, below), e)

only_one : (x key : List ℕ) → Contains (x ∷ []) key → key ≡ x
only_one x key (zero, below, e) = sym e
only_one x key (suc i, below, e) = absurd (omega (arith, below))

module _ (c : RunCase) (job : Job) (sound : Sound (plan_in c job)) where
  before_piece : (key : List ℕ) → Contains (keys_first c job) key → (q : Piece) × IsPiece (job_run c job) q × (key ≡ piece_key (job_run c job) q)
  before_piece key listed = elim (first_or_behind (metadata_key_of job.expr.store_as) (plan_keys (plan_in c job) (length (plan_in c job).ops)) key listed) [
    | inl first ↦ (Text 1, omega arith, first)
    | inr chunk ↦ let (k, there, is) = plan_piece (plan_in c job) sound (length (plan_in c job).ops) key (omega arith) chunk in (Chunk k, there, is)
  ]

  -- each is that of a piece
  dropped_piece : (key : List ℕ) → Contains (dropped_keys c job) key → (q : Piece) × IsPiece (job_run c job) q × (key ≡ piece_key (job_run c job) q)
  dropped_piece key listed = elim (Contains-append_cases (keys_first c job) (record_key_of job.expr.store_as ∷ []) key listed) [
    | inl before ↦ before_piece key before
    | inr last ↦ (Text 0, omega arith, only_one (record_key_of job.expr.store_as) key last)
  ]

  pub removal_within : (first : Shown) → Within (RemovalIn (dropped_keys c job)) (CommandChange (job_run c job) first)
  removal_within first key value (listed, none) = let (q, piece, is) = dropped_piece key listed in inr (q, piece, is, none)

-- the plan's keys are these
module _ (c : RunCase) (job : Job) where
  key_dropped : (key : List ℕ) → Contains (keys_of c.options job) key → Contains (dropped_keys c job) key
  key_dropped key listed =
      elim (first_or_behind (record_key_of job.expr.store_as) (keys_first c job) key listed) [
        | inl is ↦ Contains-append_right (keys_first c job) (record_key_of job.expr.store_as ∷ []) key (0, omega arith, sym is)
        | inr rest ↦ Contains-append_left (keys_first c job) (record_key_of job.expr.store_as ∷ []) key rest
      ]

  -- ---- what is gone

  late_before : (first late : List Write) → AllLateIn late (OrLate NoChange first) → (key bytes : List ℕ) → IsAmong late key bytes → IsAmong first key bytes
  late_before first late all key bytes among = from (all key bytes among)
    where
      from : OrLate NoChange first key (Some bytes) → IsAmong first key bytes
      from (inl none) = absurd none
      from (inr (own, is, was)) = subst (λ (x : List ℕ). IsAmong first key x) (let e : own ≡ bytes = cc in e) was

  gone_before : (first late : List Write) → AllLateIn late (OrLate NoChange first) → (h : Option Contents) (key : List ℕ) → IsGoneBut late h key → IsGoneBut first h key
  gone_before first late all None key gone = tt
  gone_before first late all (Some held) key (inl none) = inl none
  gone_before first late all (Some held) key (inr (bytes, is, among)) = inr (bytes, is, late_before first late all key bytes among)

  gone_at_first : (start : Shown) → Stepped NoChange c.old.depot start → (keys : List (List ℕ)) → All (IsGoneBut start.late c.new.depot.held) keys → All (IsGoneBut c.old.depot.late c.new.depot.held) keys
  gone_at_first start spared keys gone =
      All-weaker (IsGoneBut start.late c.new.depot.held) (IsGoneBut c.old.depot.late c.new.depot.held)
      (λ key was. gone_before c.old.depot.late start.late spared.step.late c.new.depot.held key was) keys gone

  all_gone : (start : Shown) → Stepped NoChange c.old.depot start → All (IsGoneBut start.late c.new.depot.held) (dropped_keys c job) → AreGone c job
  all_gone start spared gone =
      All-weaker (Contains (keys_of c.options job)) (IsGoneBut c.old.depot.late c.new.depot.held)
      (λ key listed. gone_before c.old.depot.late start.late spared.step.late c.new.depot.held key
      (All-contains (IsGoneBut start.late c.new.depot.held) (dropped_keys c job) key gone (key_dropped key listed)))
      (keys_of c.options job) (All-contains_itself (keys_of c.options job))

module _ (c : RunCase) (job : Job) (back : IsReopened c job) (start : Shown) (spared : Stepped NoChange c.old.depot start) (kept : KeptLaw) where
  abbrev from_start : Shown × Shown
  from_start = (start, c.new.depot)

  dropping : (l m : ℕ) → Steps (RemovalIn (dropped_keys c job)) l m start c.new.depot → IsDropping c job
  dropping l m step =
      let whole : Stepped (RemovalIn (dropped_keys c job)) c.old.depot c.new.depot = stepped_then (stepped_none spared) (stepped step) in
      let wide : Stepped (CommandChange (job_run c job) c.old.depot) c.old.depot c.new.depot =
      stepped_wider {V = RemovalIn (dropped_keys c job)} {W = CommandChange (job_run c job) c.old.depot} (removal_within c job back.sound c.old.depot) whole in
      record {
        reopened = back;
        step = whole;
        left = λ entry told left. kept (job_run c job) (env_of c job entry) 0 wide.calls c.old.depot c.new.depot left wide.step;
      }

  -- all keys are gone
  pub drop_done : (tries : ℕ) → AreRemoved tries (dropped_keys c job) start c.new.depot (Ok tt)
      → WroteTo c (removal_line (plan_in c job)) (length (removal_line (plan_in c job))) → Dropped c Done
  drop_done tries removed wrote = (job, dropping 0 (tries * length (dropped_keys c job)) removed.step, (all_gone c job start spared removed.gone, wrote))

  pub drop_unreported : (tries : ℕ) → AreRemoved tries (dropped_keys c job) start c.new.depot (Ok tt) → Rose 1 c.old.sink.faults c.new.sink.faults
      → ((n : ℕ) × (n ≤ length (removal_line (plan_in c job))) × WroteTo c (removal_line (plan_in c job)) n) → Dropped c WriteFault
  drop_unreported tries removed rose wrote = (rose, (job, dropping 0 (tries * length (dropped_keys c job)) removed.step, (all_gone c job start spared removed.gone, wrote)))

  -- it ended at a key
  pub drop_failed : (key : List ℕ) (l m : ℕ) → AreRemoved (c.options.retries + 1) (dropped_keys c job) start c.new.depot (Err (Failed key))
      → Steps (RemovalIn (keys_first c job)) l m start c.new.depot → Dropped c (DepotFailed key)
  drop_failed key l m removed record_kept =
      let ends = removed.cause.ends in inr (
        (let earlier = spared.step.count in let more = ends.before.count in let rose = ends.cause.0 in omega (arith, earlier, more, rose)),
        (
          job,
          dropping 0 ((c.options.retries + 1) * length (dropped_keys c job)) removed.step,
          record {
            front = ends.front;
            back = ends.back;
            listed = ends.listed;
            removed = stepped_then (stepped_none spared) (stepped_then (stepped ends.before) (stepped_none (stepped ends.last)));
            gone = gone_at_first c job start spared ends.front removed.cause.gone;
            recorded = stepped_then (stepped_none spared) (stepped record_kept);
          },
        ),
      )

  pub drop_lacked : (l m : ℕ) → AreRemoved (c.options.retries + 1) (dropped_keys c job) start c.new.depot (Err Lacking)
      → Steps (RemovalIn (keys_first c job)) l m start c.new.depot → Dropped c NoMemory
  drop_lacked l m removed record_kept =
      inr (job, dropping 0 ((c.options.retries + 1) * length (dropped_keys c job)) removed.step, stepped_then (stepped_none spared) (stepped record_kept))

  pub drop_ended : (f : RemoveFault) (l m : ℕ) → AreRemoved (c.options.retries + 1) (dropped_keys c job) start c.new.depot (Err f)
      → Steps (RemovalIn (keys_first c job)) l m start c.new.depot → Dropped c (remove_answer f)
  drop_ended (Failed key) l m removed record_kept = drop_failed key l m removed record_kept
  drop_ended Lacking l m removed record_kept = drop_lacked l m removed record_kept

-- the keys by the plan and its texts' keys
pub drop_keys : (c : RunCase) (job : Job) (p : PlanView) (record_key metadata_key : List ℕ) → p ≡ plan_in c job → record_key ≡ record_key_of job.expr.store_as → metadata_key ≡ metadata_key_of job.expr.store_as
    → removed_keys p record_key metadata_key ≡ dropped_keys c job
drop_keys c job p record_key metadata_key plan at_record at_metadata =
    ap (λ (q : PlanView). removed_keys q record_key metadata_key) plan ∙ ap (λ (k : List ℕ). removed_keys (plan_in c job) k metadata_key) at_record
    ∙ ap (λ (k : List ℕ). removed_keys (plan_in c job) (record_key_of job.expr.store_as) k) at_metadata

pub first_keys : (c : RunCase) (job : Job) (p : PlanView) (metadata_key : List ℕ) → p ≡ plan_in c job → metadata_key ≡ metadata_key_of job.expr.store_as → keys_before_record p metadata_key ≡ keys_first c job
first_keys c job p metadata_key plan at_metadata =
    ap (λ (q : PlanView). keys_before_record q metadata_key) plan ∙ ap (λ (k : List ℕ). keys_before_record (plan_in c job) k) at_metadata

-- what refused the plan
pub not_dropped : (c : RunCase) (status : Status) → IsNotReopened c status → Dropped c status
not_dropped c Done why = absurd why
not_dropped c WriteFault why = absurd why
not_dropped c (DepotFailed key) why = inl why
not_dropped c NoMemory why = inl why
not_dropped c status why = why
