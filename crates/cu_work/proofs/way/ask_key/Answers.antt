use Rattle.std.proofs.Common.{◌≡◌, ℕ, ◌+◌, subst}
use Rattle.std.specs.Prelude.{Ok, Err, Bool}
use Rattle.cu_store.specs.Held.{Answers}
use Rattle.cu_store.specs.Steps.{Shown, Caused}
use Rattle.cu_store.specs.declared.faults.DepotFault.{DepotFault}
use Rattle.cu_store.specs.declared.faults.DepotFault.TheVariants.{Failed, NoMemory}
use Rattle.cu_store.specs.Faults.{Rose}
use Rattle.cu_work.proofs.Asking.{asked_held, asked_failed}
use Rattle.cu_work.proofs.way.ask_key.Goals as goal

pub returns-in-Ok-true : goal.returns-in-Ok-true
returns-in-Ok-true g c =
    asked_held (c.args.retries + 1) (g.D.PutStore.shown c.args.depot.now) (g.D.PutStore.shown c.has_tries.new.depot) c.args.key.now c.has_tries.ensures.step c.has_tries.ensures.once
    (subst (λ (b : Bool). Answers (g.D.PutStore.shown c.has_tries.new.depot).held c.args.key.now (Ok b)) c.in-Ok-true.field-0-test c.in-Ok-true.ensures.answer)

pub returns-in-Err-Failed : goal.returns-in-Err-Failed
returns-in-Err-Failed g c =
    asked_failed (c.args.retries + 1) (g.D.PutStore.shown c.args.depot.now) (g.D.PutStore.shown c.has_tries.new.depot) c.args.key.now c.has_tries.ensures.step c.has_tries.ensures.once
    (rose (c.args.retries + 1) (g.D.PutStore.shown c.args.depot.now) (g.D.PutStore.shown c.has_tries.new.depot) c.in-Err-Failed.field-0 c.in-Err-Failed.field-0-is c.in-Err-Failed.ensures.cause)
  where
    rose : (n : ℕ) (old new : Shown) (f : DepotFault) → f ≡ Failed → Caused {T = Bool} n old new (Err f) → Rose n old.faults new.faults
    rose n old new Failed e cause = cause.0
    rose n old new NoMemory e cause = cc
