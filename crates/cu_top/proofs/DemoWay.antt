-- The way from the call of a demonstration to its run.
use Rattle.std.proofs.Common.{◌≡◌, ◌∙◌, ℕ, ◌≤◌, codes, All, Some, ap}
use Rattle.cu_store.specs.Held.{Contents}
use Rattle.cu_store.specs.Steps.{Shown, NoChange}
use Rattle.cu_work.specs.Order.{IsFree}
use Rattle.cu_command.specs.Seen.{Stepped}
use Rattle.cu_command.specs.declared.job.Job.{Job}
use Rattle.cu_command.proofs.SeenLemmas.{stepped_none, stepped_then}
use Rattle.cu_demo.proofs.Computed.{demo_said, demo_storable}
use Rattle.cu_demo.specs.Expression.{IsDemoJob, demo_expression, demo_text}
use Rattle.cu_demo.specs.declared.input.DemoInput.TheVariants.{Rows, Columns}
use Rattle.cu_lower.specs.declared.options.Options.{Options}
use Rattle.cu_form.specs.Expression.{Expression}
use Rattle.cu_read.specs.Read.{expression_of}
use Rattle.cu_run_law.specs.Left.{RunChange}
use Rattle.cu_top.proofs.DemoFound.{DemoLaws, ReadBack, found_calm, found_cleared, found_of, found_whole, is_found, ok_expression, still_inputs}
use Rattle.cu_top.proofs.DemoKeys.{is_inputs, piece_apart}
use Rattle.cu_top.proofs.DemoLemmas.{WholeLaw, run_to}
use Rattle.cu_top.proofs.DemoStores.{calm_found, inputs_kept}
use Rattle.cu_top.specs.Demo.{AreInputsCalm, AreInputsFree, InputsPut, IsDemoCalm, FoundByDemo, StoresDemoInputs, WhereTold}
use Rattle.cu_top.specs.Prepare.{HasNoOwnInput, HasPlan, asked_keys}
use Rattle.cu_top.specs.Quiet.{IsCalm}
use Rattle.cu_top.specs.Run.{IsCleared, IsStarted, job_run}

-- the keys were asked for, and then the inputs were stored
pub record Way (options : Options) (n : ℕ) (job : Job) (old asked start : Shown) : Type 0 where
  pub some : 1 ≤ n
  pub few : n ≤ 2048
  pub read_back : ReadBack
  pub laws : DemoLaws options
  pub first : Stepped NoChange old asked
  pub second : Stepped (InputsPut n) asked start
  pub stores : AreInputsCalm n asked.late → StoresDemoInputs n start.held
  pub quiet : WhereTold old.held (IsDemoCalm options n old)
  pub accepted : IsDemoJob n job
  pub planned : HasPlan options job
  pub own : HasNoOwnInput job.expr
  pub inputs : AreInputsFree old.held
  pub free : (entry : Contents) → old.held ≡ Some entry → All (IsFree entry) (asked_keys options job)

module _ (options : Options) (n : ℕ) (job : Job) (old asked start : Shown) (way : Way options n job old asked start) where
  pub both : Stepped (InputsPut n) old start
  both = stepped_then (stepped_none way.first) way.second

  stored : AreInputsCalm n old.late → StoresDemoInputs n start.held
  stored calm = way.stores (still_inputs n old asked way.first calm)

  pub way_cleared : IsCleared options demo_text (found_of old start) start job
  way_cleared =
      found_cleared options n way.some way.few way.read_back (demo_storable Rows n way.some way.few) (demo_storable Columns n way.some way.few) way.laws old start both stored way.quiet
      job way.accepted way.planned way.own way.free

  pub way_calm : IsCalm options demo_text (found_of old start)
  way_calm =
      found_calm options n way.some way.few way.read_back (demo_storable Rows n way.some way.few) (demo_storable Columns n way.some way.few) way.laws old start both stored way.quiet

  pub way_whole : WholeLaw options (found_of old start)
  way_whole =
      found_whole options n way.some way.few way.read_back (demo_storable Rows n way.some way.few) (demo_storable Columns n way.some way.few) way.laws old start both stored way.quiet

  pub way_found : FoundByDemo n old (found_of old start)
  way_found = is_found n old start both stored

  -- the inputs stay stored while the plan's keys are put
  pub way_keeps : (new : Shown) (other : Job) → IsStarted (run_to options (found_of old start) new) other → AreInputsCalm n old.late → StoresDemoInputs n new.held
  way_keeps new other s calm =
      let found = found_of old start in
      let name : other.expr.store_as ≡ codes "demo_y" = ap (λ (e : Expression). e.store_as) (ok_expression (expression_of demo_text) other.expr demo_expression s.accepted.said demo_said) in
      inputs_kept n way.some way.few (RunChange (job_run (run_to options found new) other) found)
      (λ key value change. let (q, bytes, piece, at, is, valued) = change in ap is_inputs at ∙ piece_apart options other name s.sound (way.laws.names other s.planned s.own) q piece)
      found new s.step (calm_found n way.some way.few old start both calm) (way_found.stored calm)
