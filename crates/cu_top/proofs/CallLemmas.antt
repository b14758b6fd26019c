-- What the command `run` answers, from the text on.
use Rattle.std.proofs.Common.{◌≡◌, inl, inr, ℕ, ◌<◌, Bool, false, nat_le, List, [], ◌∷◌, ◌++◌, length, Option, Some, None, Result, Ok, Err, refl, sym, ap, ◌∙◌, subst, arith, length-append}
use Rattle.std.proofs.lemmas.List.{append-nil}
use Rattle.cu_form.specs.Expression.{Expression}
use Rattle.cu_read.specs.Read.{expression_of, whole_fault}
use Rattle.cu_read.specs.declared.faults.ReadFault.{ReadFault as ExpressionFault}
use Rattle.cu_store.specs.Steps.{Shown}
use Rattle.cu_expr.specs.declared.inputs.InputInfo.{InputInfo}
use Rattle.cu_command.specs.Inputs.{IsTurn, names_of}
use Rattle.cu_command.specs.Job.{names_or_none, IsJob}
use Rattle.cu_command.specs.Streams.{ReadsAll}
use Rattle.cu_command.specs.declared.job.Job.{Job}
use Rattle.cu_command.specs.declared.status.Status.{Status}
use Rattle.cu_command.specs.declared.status.Status.TheVariants.{Done, BadExpr, BadType, OverMemory, OverLimit, BadMeta, NoArray, Exists, TaskFailed, ReadFault, WriteFault, BadChunk, OtherPlan, NoPlan, NoTasks, NotReady, DepotFailed, NoMemory}
use Rattle.cu_lower.specs.declared.options.Options.{Options}
use Rattle.cu_top.specs.Call.{RunTells, IsExpressionRefused}
use Rattle.cu_work.specs.declared.part.Part.{Part}
use Rattle.cu_top.specs.Begin.{BeginTells, WasBegun}
use Rattle.cu_top.specs.Parts.{PartTells, WasParted}
use Rattle.cu_top.specs.Drop.{Dropped, DropTells}
use Rattle.cu_top.specs.Held.{IsUnasked}
use Rattle.cu_top.specs.Resume.{WasResumed, ResumeTells}
use Rattle.cu_top.specs.Run.{Scene, RunCase, case, Ran}

module _ (lack : Bool) (options : Options) (old new : Scene) where
  -- what a run of the text answers
  pub told_run : (text : List ℕ) (status : Status) → ReadsAll old.source.told new.source.told text → Ran lack (case options text old new) status → RunTells lack options old new status
  told_run text ReadFault read ran = absurd ran
  told_run text NoMemory read ran = inr (text, read, ran)
  told_run text status read ran = (text, read, ran)

-- ---- the text that was read

long_fault : (text : List ℕ) → 1048576 < length text → expression_of text ≡ Err (whole_fault 7)
unfolding expression_of
long_fault text long =
    let test : nat_le (length text) 1048576 ≡ false = grind arith in
    rw test refl

-- what was read says what was there
pub same_expression : (left text : List ℕ) (next : Option (List ℕ)) → ReadsAll (Some left) next text → expression_of text ≡ expression_of left
same_expression left text None read = absurd read.0
same_expression left text (Some rest) (took, inl ended) = ap expression_of (sym (took ∙ ap (λ (r : List ℕ). text ++ r) ended ∙ append-nil text))
same_expression left text (Some rest) (took, inr long) =
    long_fault text (omega (arith, long)) ∙ sym (long_fault left (omega (arith, long, ap length took, length-append text rest)))

err_or_ok : (r : Result Expression ExpressionFault) (e : Expression) (f : ExpressionFault) → r ≡ Ok e → r ≡ Err f → ⊥
err_or_ok r e f ok err = cc

-- a text that says an expression is read whole
pub same_text : (left text : List ℕ) (next : Option (List ℕ)) (e : Expression) → ReadsAll (Some left) next text → expression_of left ≡ Ok e → text ≡ left
same_text left text None e read said = absurd read.0
same_text left text (Some rest) e (took, inl ended) said = sym (took ∙ ap (λ (r : List ℕ). text ++ r) ended ∙ append-nil text)
same_text left text (Some rest) e (took, inr long) said =
    absurd (err_or_ok (expression_of left) e (whole_fault 7) said (long_fault left (omega (arith, long, ap length took, length-append text rest))))

-- ---- a text that is no expression

not_both : (r : Result Expression ExpressionFault) (e : Expression) (f : ExpressionFault) → r ≡ Ok e → r ≡ Err f → ⊥
not_both r e f ok err = cc

same_fault : (r : Result Expression ExpressionFault) (f g : ExpressionFault) → r ≡ Err f → r ≡ Err g → f ≡ g
same_fault r f g one other = cc

no_turn : (r : Result Expression ExpressionFault) (f : ExpressionFault) (entry : Shown) (name : List ℕ) → r ≡ Err f → IsTurn (names_or_none r) entry name → ⊥
no_turn r f entry name err turn = ends (subst (λ (x : Result Expression ExpressionFault). IsTurn (names_or_none x) entry name) err turn).before _ _ (subst (λ (x : Result Expression ExpressionFault). IsTurn (names_or_none x) entry name) err turn).place
  where
    ends : (before : List InputInfo) (name : List ℕ) (behind : List (List ℕ)) → [] ≡ names_of before ++ name ∷ behind → ⊥
    ends [] name behind e = cc
    ends (i ∷ is) name behind e = cc

module _ (c : RunCase) (f : ExpressionFault) (err : expression_of c.text ≡ Err f) where
  no_job : (job : Job) → IsJob c.old.depot c.text job → ⊥
  no_job job is = not_both (expression_of c.text) job.expr f is.said err

  -- it is refused, or memory was wanted
  pub refused_run : (lack : Bool) (status : Status) → Ran lack c status → IsExpressionRefused f status
  refused_run lack (BadExpr code node) ran =
      let same = same_fault (expression_of c.text) f (record { code = code; node = node }) err ran.1 in
      (sym (ap (λ (x : ExpressionFault). x.code) same), sym (ap (λ (x : ExpressionFault). x.node) same))
  refused_run lack NoMemory ran = tt
  refused_run lack (BadType code node) ran = not_both (expression_of c.text) ran.1.expr f ran.1.said err
  refused_run lack (NoArray name) ran = no_turn (expression_of c.text) f c.old.depot name err ran.1.0
  refused_run lack (BadMeta name code) ran = no_turn (expression_of c.text) f c.old.depot name err ran.1.0
  refused_run lack (DepotFailed key) (rose, inl unread) = no_turn (expression_of c.text) f c.old.depot unread.1.0 err unread.1.2
  refused_run lack (DepotFailed key) (rose, inr (inl (spared, (job, accepted, first)))) = no_job job accepted
  refused_run lack (DepotFailed key) (rose, inr (inr (job, started, unstored))) = no_job job started.accepted
  refused_run lack (OverMemory node need allowed) (spared, (job, accepted, why)) = no_job job accepted
  refused_run lack (OverLimit which count) (spared, (job, accepted, why)) = no_job job accepted
  refused_run lack (Exists key) (spared, (job, accepted, why)) = no_job job accepted
  refused_run lack Done (job, started, ran) = no_job job started.accepted
  refused_run lack WriteFault (rose, (job, started, ran)) = no_job job started.accepted
  refused_run lack (TaskFailed op task) (rose, (job, started, ran)) = no_job job started.accepted
  refused_run lack (BadChunk key got want) (job, started, ran) = no_job job started.accepted
  refused_run lack status ran = absurd ran

  -- so are a run that goes on and a removal
  unasked : (key : List ℕ) → IsUnasked c key → ⊥
  unasked key (rose, inl unread) = no_turn (expression_of c.text) f c.old.depot unread.1.0 err unread.1.2
  unasked key (rose, inr (spared, (job, accepted, rest))) = no_job job accepted

  pub refused_resumed : (lack : Bool) (status : Status) → WasResumed lack c status → IsExpressionRefused f status
  refused_resumed lack NoMemory why = tt
  refused_resumed lack Done (job, resumed, why) = no_job job resumed.reopened.accepted
  refused_resumed lack WriteFault (rose, (job, resumed, why)) = no_job job resumed.reopened.accepted
  refused_resumed lack (TaskFailed op task) (rose, (job, resumed, why)) = no_job job resumed.reopened.accepted
  refused_resumed lack (BadChunk key got want) (job, resumed, why) = no_job job resumed.reopened.accepted
  refused_resumed lack (DepotFailed key) (inl why) = unasked key why
  refused_resumed lack (DepotFailed key) (inr (rose, inl (spared, (job, back, listed)))) = no_job job back.accepted
  refused_resumed lack (DepotFailed key) (inr (rose, inr (job, resumed, why))) = no_job job resumed.reopened.accepted
  refused_resumed lack (OtherPlan place) (spared, (job, accepted, why)) = no_job job accepted
  refused_resumed lack NoPlan (spared, (job, accepted, why)) = no_job job accepted
  refused_resumed lack (Exists key) why = absurd why
  refused_resumed lack status why = refused_run lack status why

  pub refused_dropped : (status : Status) → Dropped c status → IsExpressionRefused f status
  refused_dropped NoMemory why = tt
  refused_dropped Done (job, dropping, why) = no_job job dropping.reopened.accepted
  refused_dropped WriteFault (rose, (job, dropping, why)) = no_job job dropping.reopened.accepted
  refused_dropped (DepotFailed key) (inl why) = unasked key why
  refused_dropped (DepotFailed key) (inr (rose, (job, dropping, why))) = no_job job dropping.reopened.accepted
  refused_dropped (OtherPlan place) (spared, (job, accepted, why)) = no_job job accepted
  refused_dropped NoPlan (spared, (job, accepted, why)) = no_job job accepted
  refused_dropped (TaskFailed op task) why = absurd why
  refused_dropped (BadChunk key got want) why = absurd why
  refused_dropped (Exists key) why = absurd why
  refused_dropped status why = refused_run false status why

  pub refused_begun : (status : Status) → WasBegun c status → IsExpressionRefused f status
  refused_begun NoMemory why = tt
  refused_begun Done (job, begun, why) = no_job job begun.started.accepted
  refused_begun WriteFault (rose, (job, begun, why)) = no_job job begun.started.accepted
  refused_begun (DepotFailed key) (rose, inl unread) = no_turn (expression_of c.text) f c.old.depot unread.1.0 err unread.1.2
  refused_begun (DepotFailed key) (rose, inr (inl (spared, (job, accepted, first)))) = no_job job accepted
  refused_begun (DepotFailed key) (rose, inr (inr (job, begun, unput))) = no_job job begun.started.accepted
  refused_begun (Exists key) (spared, (job, accepted, why)) = no_job job accepted
  refused_begun (TaskFailed op task) why = absurd why
  refused_begun (BadChunk key got want) why = absurd why
  refused_begun status why = refused_run false status why

  pub refused_parted : (q : Part) (status : Status) → WasParted c q status → IsExpressionRefused f status
  refused_parted q NoMemory why = tt
  refused_parted q Done (job, parted, why) = no_job job parted.reopened.accepted
  refused_parted q WriteFault (rose, (job, parted, why)) = no_job job parted.reopened.accepted
  refused_parted q (NoTasks op tasks) (spared, (job, reopened, same, count, none)) = no_job job reopened.accepted
  refused_parted q (NotReady op task) (spared, (job, parted, why)) = no_job job parted.reopened.accepted
  refused_parted q (TaskFailed op task) (job, parted, why) = no_job job parted.reopened.accepted
  refused_parted q (BadChunk key got want) (job, parted, why) = no_job job parted.reopened.accepted
  refused_parted q (DepotFailed key) (inl why) = unasked key why
  refused_parted q (DepotFailed key) (inr (spared, (job, parted, why))) = no_job job parted.reopened.accepted
  refused_parted q (OtherPlan place) (spared, (job, accepted, why)) = no_job job accepted
  refused_parted q NoPlan (spared, (job, accepted, why)) = no_job job accepted
  refused_parted q (Exists key) why = absurd why
  refused_parted q status why = refused_run false status why

-- so is what each command answers
module _ (options : Options) (old new : Scene) (left : List ℕ) (f : ExpressionFault) (told : old.source.told ≡ Some left) (err : expression_of left ≡ Err f) where
  same_refusal : (text : List ℕ) → ReadsAll old.source.told new.source.told text → expression_of text ≡ Err f
  same_refusal text read = same_expression left text new.source.told (subst (λ (o : Option (List ℕ)). ReadsAll o new.source.told text) told read) ∙ err

  pub refused_text : (lack : Bool) (status : Status) → RunTells lack options old new status → IsExpressionRefused f status
  refused_text lack ReadFault tells = tt
  refused_text lack NoMemory tells = tt
  refused_text lack status (text, read, ran) = refused_run (case options text old new) f (same_refusal text read) lack status ran

  pub resume_refused_text : (lack : Bool) (status : Status) → ResumeTells lack options old new status → IsExpressionRefused f status
  resume_refused_text lack ReadFault tells = tt
  resume_refused_text lack NoMemory tells = tt
  resume_refused_text lack status (text, read, why) = refused_resumed (case options text old new) f (same_refusal text read) lack status why

  pub drop_refused_text : (status : Status) → DropTells options old new status → IsExpressionRefused f status
  drop_refused_text ReadFault tells = tt
  drop_refused_text NoMemory tells = tt
  drop_refused_text status (text, read, why) = refused_dropped (case options text old new) f (same_refusal text read) status why

  pub begin_refused_text : (status : Status) → BeginTells options old new status → IsExpressionRefused f status
  begin_refused_text ReadFault tells = tt
  begin_refused_text NoMemory tells = tt
  begin_refused_text status (text, read, why) = refused_begun (case options text old new) f (same_refusal text read) status why

  pub part_refused_text : (q : Part) (status : Status) → PartTells options q old new status → IsExpressionRefused f status
  part_refused_text q ReadFault tells = tt
  part_refused_text q NoMemory tells = tt
  part_refused_text q status (text, read, why) = refused_parted (case options text old new) f (same_refusal text read) q status why

-- ---- the other commands

module _ (lack : Bool) (options : Options) (old new : Scene) where
  -- what a run of the text answers that goes on
  pub told_resume : (text : List ℕ) (status : Status) → ReadsAll old.source.told new.source.told text → WasResumed lack (case options text old new) status → ResumeTells lack options old new status
  told_resume text ReadFault read why = absurd why
  told_resume text NoMemory read why = inr (text, read, why)
  told_resume text status read why = (text, read, why)

-- what the removal of its plan answers
pub told_drop : (options : Options) (old new : Scene) (text : List ℕ) (status : Status) → ReadsAll old.source.told new.source.told text → Dropped (case options text old new) status → DropTells options old new status
told_drop options old new text ReadFault read why = absurd why
told_drop options old new text NoMemory read why = inr (text, read, why)
told_drop options old new text status read why = (text, read, why)

-- what a run of it answers that is begun
pub told_begin : (options : Options) (old new : Scene) (text : List ℕ) (status : Status) → ReadsAll old.source.told new.source.told text → WasBegun (case options text old new) status → BeginTells options old new status
told_begin options old new text ReadFault read why = absurd why
told_begin options old new text NoMemory read why = inr (text, read, why)
told_begin options old new text status read why = (text, read, why)

-- and a part of its plan
pub told_part : (options : Options) (q : Part) (old new : Scene) (text : List ℕ) (status : Status) → ReadsAll old.source.told new.source.told text → WasParted (case options text old new) q status → PartTells options q old new status
told_part options q old new text ReadFault read why = absurd why
told_part options q old new text NoMemory read why = inr (text, read, why)
told_part options q old new text status read why = (text, read, why)
