-- A demonstration that is at rest is served: each other answer has a cause that isn't there.
use Rattle.std.proofs.Common.{◌≡◌, ◌⊎◌, inl, inr, ℕ, zero, suc, ◌+◌, ◌≤◌, Bool, List, Contains, Option, Some, None, refl, sym, subst, arith}
use Rattle.cu_store.specs.Faults.{Rose}
use Rattle.cu_store.specs.Held.{Contents, Write, IsHeldIn}
use Rattle.cu_store.specs.Steps.{Shown, Changes, NoChange, OrLate, Lands}
use Rattle.cu_command.specs.Job.{StoodStill}
use Rattle.cu_command.specs.Seen.{WroteNothing}
use Rattle.cu_command.specs.declared.job.Job.{Job}
use Rattle.cu_command.specs.declared.status.Status.{Status}
use Rattle.cu_command.specs.declared.status.Status.TheVariants.{Done, OverMemory, OverLimit, Exists, TaskFailed, WriteFault, BadChunk, DepotFailed, NoMemory}
use Rattle.cu_load.proofs.AskLemmas.{rose_earlier}
use Rattle.cu_load.specs.Keys.{IsAskedFor}
use Rattle.cu_demo.specs.Expression.{IsDemoJob}
use Rattle.cu_demo.specs.Input.{demo_name}
use Rattle.cu_demo.specs.declared.input.DemoInput.TheVariants.{Rows, Columns}
use Rattle.cu_lower.specs.declared.options.Options.{Options}
use Rattle.cu_run_law.specs.Left.{RunChange}
use Rattle.cu_top.proofs.Completeness.{key_before, lands_told, none_or_some, none_rose}
use Rattle.cu_top.specs.Complete.{IsServed}
use Rattle.cu_top.specs.Demo.{DemoCase, DemoTells, IsDemoAskedKey, IsDemoAtRest, IsDemoKey, IsDemoStarted, IsDemoStopped, IsDemoUnread, InputsPut, array_keys, demo_run}
use Rattle.cu_top.specs.Prepare.{asked_keys}
use Rattle.cu_top.specs.Run.{IsStarted, job_run}

-- ---- the keys that are asked for

of_array : (name key : List ℕ) (old : Option Contents) → IsAskedFor name old key → Contains (array_keys name) key
of_array name key old (inl is) = (zero, omega arith, sym is)
of_array name key old (inr (inl is, gone)) = (suc zero, omega arith, sym is)
of_array name key old (inr (inr (is, absent), gone)) = (suc (suc zero), omega arith, sym is)

asked_key : (options : Options) (job : Job) (old : Shown) (key : List ℕ) → IsDemoKey (asked_keys options job) old key → IsDemoAskedKey options job key
asked_key options job old key (inl rows) = inl (of_array (demo_name Rows) key old.held rows)
asked_key options job old key (inr (inl (free, columns))) = inr (inl (of_array (demo_name Columns) key old.held columns))
asked_key options job old key (inr (inr (free, first))) = inr (inr first.0)

-- what was told is told
still_told : (W V : Changes) (late after : List Write) (a b new : Option Contents) (entry : Contents) → a ≡ Some entry → Lands (OrLate W late) a b → Lands (OrLate V after) b new → new ≡ None → ⊥
still_told W V late after a None new entry was first second gone = lands_told (OrLate W late) entry None (subst (λ (h : Option Contents). Lands (OrLate W late) h None) was first) refl
still_told W V late after a (Some now) new entry was first second gone = lands_told (OrLate V after) now new second gone

-- ---- each other answer lacks its cause

module _ (c : DemoCase) (entry : Contents) (told : c.old.depot.held ≡ Some entry) (rest : IsDemoAtRest c.options c.size entry c.old.depot)
    (sink : StoodStill c.old.out.faults c.new.out.faults) (depot : StoodStill c.old.depot.faults c.new.depot.faults) where
  no_rise : Rose (c.options.retries + 1) c.old.depot.faults c.new.depot.faults → ⊥
  no_rise rose = none_rose (c.options.retries + 1) c.old.depot.faults c.new.depot.faults (omega arith) depot rose

  no_later_rise : (found : Shown) → c.old.depot.faults ≤ found.faults → Rose (c.options.retries + 1) found.faults c.new.depot.faults → ⊥
  no_later_rise found earlier rose = no_rise (rose_earlier (c.options.retries + 1) c.old.depot.faults found.faults c.new.depot.faults earlier rose)

  not_in_way : (job : Job) (key : List ℕ) → IsDemoJob c.size job → WroteNothing c.old c.new → IsDemoKey (asked_keys c.options job) c.old.depot key → IsHeldIn c.new.depot.held key → ⊥
  not_in_way job key is quiet asked held =
      let listed = asked_key c.options job c.old.depot key asked in
      let lands : Lands (OrLate NoChange c.old.depot.late) (Some entry) c.new.depot.held =
      subst (λ (h : Option Contents). Lands (OrLate NoChange c.old.depot.late) h c.new.depot.held) told quiet.0.step.lands in
      key_before c.old.depot.late entry c.new.depot.held key lands (λ bytes among. rest.settled job key bytes is listed among) (rest.free job key is listed)
      (lands_told (OrLate NoChange c.old.depot.late) entry c.new.depot.held lands) held

  -- the depot that told its contents tells them
  tells_still : (job : Job) (found : Shown) → IsDemoStarted c job found → (other : Job) → IsStarted (demo_run c found) other → c.new.depot.held ≡ None → ⊥
  tells_still job found start other s gone =
      still_told (InputsPut c.size) (RunChange (job_run (demo_run c found) other) found) c.old.depot.late found.late c.old.depot.held found.held c.new.depot.held entry told
      start.entry.lands s.step.step.lands gone

  no_bad_chunk : (lack : Bool) (key : List ℕ) (got want : ℕ) → c.new.depot.held ≡ None → IsDemoStopped lack c (BadChunk key got want) ⊎ IsDemoUnread c (BadChunk key got want) → ⊥
  no_bad_chunk lack key got want gone (inl (silent, (job, found, start, ran))) = tells_still job found start ran.0 ran.1 gone
  no_bad_chunk lack key got want gone (inr (silent, (keeps, (job, found, start, (n, s, all, counted, starts, fault))))) = tells_still job found start job s gone

  pub demo_served : (lack : Bool) (status : Status) → DemoTells lack c status → IsServed status
  demo_served lack Done tells = tt
  demo_served lack NoMemory tells = tt
  demo_served lack WriteFault tells = none_rose 1 c.old.out.faults c.new.out.faults (omega arith) sink tells.0
  demo_served lack (OverMemory node need allowed) (quiet, (job, is, why)) = none_or_some _ _ (rest.planned job is) why
  demo_served lack (OverLimit which count) (quiet, (job, is, why)) = none_or_some _ _ (rest.planned job is) why
  demo_served lack (Exists key) (quiet, (job, is, end)) = not_in_way job key is quiet end.0 end.1
  demo_served lack (TaskFailed op task) (keeps, (silent, (job, found, start, ran))) = no_later_rise found start.entry.faults ran.0
  demo_served lack (BadChunk key got want) (gone, why) = no_bad_chunk lack key got want gone why
  demo_served lack (DepotFailed key) (inl (quiet, (job, is, end))) = no_rise end.1
  demo_served lack (DepotFailed key) (inr (inl (silent, free, step, fault))) = no_rise fault.0
  demo_served lack (DepotFailed key) (inr (inr (inl (silent, (job, found, start, ran))))) = no_later_rise found start.entry.faults ran.0
  demo_served lack (DepotFailed key) (inr (inr (inr (silent, (keeps, (job, found, start, (n, s, all, counted, starts, fault))))))) = no_rise fault.1
  demo_served lack status tells = absurd tells
