-- The calls of a demonstration, from those of its parts.
use Rattle.std.proofs.Common.{inl, inr, ℕ, ◌+◌, ◌*◌, ℤ, List, length, arith}
use Rattle.cu_store.specs.Steps.{Shown}
use Rattle.cu_command.specs.Seen.{Seen, WithinCalls}
use Rattle.cu_command.specs.declared.job.Job.{Job}
use Rattle.cu_command.specs.declared.status.Status.{Status}
use Rattle.cu_command.specs.declared.status.Status.TheVariants.{Done, Exists, WriteFault, BadChunk, DepotFailed, NoMemory}
use Rattle.cu_demo.specs.Expression.{IsDemoJob}
use Rattle.cu_demo.specs.declared.input.DemoInput.TheVariants.{Rows, Columns}
use Rattle.cu_load.specs.Load.{chunks_in}
use Rattle.cu_work.specs.declared.run.HeldTexts.TheVariants.{Neither}
use Rattle.cu_top.proofs.CallLimits.{begun_then, begun_within, starts_before, starts_then}
use Rattle.cu_top.specs.Calls.{BegunWithin, DemosWithin, DriveWithin, demo_limits}
use Rattle.cu_top.specs.Demo.{DemoCase, DemoWithinStarts, IsDemoRefused, IsDemoAskEnd, IsInputsFault, ResultTells, demo_array, demo_before, demo_behind}
use Rattle.cu_top.specs.Limits.{task_calls, WithinStarts}
use Rattle.cu_top.specs.Prepare.{asked_keys, job_plan}
use Rattle.cu_top.specs.declared.report.RunCounts.{RunCounts}

module _ (c : DemoCase) where
  -- there is no plan
  pub demo_unplanned : (s : Status) → IsDemoRefused c.options c.size s → WithinCalls 0 c.old.depot c.new.depot → DemosWithin c s
  demo_unplanned (DepotFailed key) (job, is, why) calls = absurd why
  demo_unplanned status why calls = inl calls

  module _ (job : Job) (is : IsDemoJob c.size job) where
    -- the calls for the keys that are asked for, and for the inputs
    abbrev asking : ℕ
    asking = (6 + length (asked_keys c.options job)) * (c.options.retries + 1)

    abbrev storing : ℕ
    storing = ((chunks_in (demo_array Rows c.size) + 1) + (chunks_in (demo_array Columns c.size) + 1)) * (c.options.retries + 1)

    -- the calls by the starts that are counted, where all tasks are done and the result was read
    pub demo_starts : (n : RunCounts) (mid start ran : Shown) → WithinCalls asking c.old.depot mid → WithinCalls storing mid start
        → WithinStarts (3 * (c.options.retries + 1)) (job_plan c.options job) n start ran → WithinCalls (c.options.retries + 1) ran c.new.depot → DemoWithinStarts c job n
    demo_starts n mid start ran asked stored run read =
        let tries = c.options.retries + 1 in
        let before = demo_before c.options c.size job in
        let both : WithinCalls (asking + storing) c.old.depot start = omega (arith, asked, stored) in
        starts_before ((before + 3) * tries) ((before + demo_behind) * tries) tries (job_plan c.options job) n c.old.depot ran c.new.depot
        (starts_then (asking + storing) (3 * tries) ((before + 3) * tries) (job_plan c.options job) n c.old.depot start ran both (omega arith) run)
        read (omega arith)

    pub demo_asked : (s : Status) → IsDemoAskEnd (c.options.retries + 1) (asked_keys c.options job) c.old.depot c.new.depot s → WithinCalls asking c.old.depot c.new.depot → DemosWithin c s
    demo_asked (Exists key) why calls = inr (job, is, calls)
    demo_asked (DepotFailed key) why calls = (job, is, inl (omega (arith, calls)))
    demo_asked NoMemory why calls = inr (job, is, omega (arith, calls))
    demo_asked status why calls = absurd why

    -- memory was wanted for the texts
    pub demo_unready : WithinCalls asking c.old.depot c.new.depot → DemosWithin c NoMemory
    demo_unready calls = inr (job, is, omega (arith, calls))

    module _ (mid : Shown) (asked : WithinCalls asking c.old.depot mid) where
      pub demo_unstored : (s : Status) → (before : Shown) → IsInputsFault (c.options.retries + 1) c.size before c.new.depot s → WithinCalls storing mid c.new.depot → DemosWithin c s
      demo_unstored (DepotFailed key) before why calls = (job, is, inl (omega (arith, asked, calls)))
      demo_unstored NoMemory before why calls = inr (job, is, omega (arith, asked, calls))
      demo_unstored status before why calls = absurd why

      module _ (start : Shown) (stored : WithinCalls storing mid start) where
        -- the tasks were run, or were to be, and not all are done
        begun_so : (s : Status) → DriveWithin c.options job Neither start c.new.depot s
            → BegunWithin (demo_limits c.options c.size job).begun (demo_limits c.options c.size job).all c.old.depot c.new.depot s
        begun_so s calls =
            let tries = c.options.retries + 1 in
            let both : WithinCalls (asking + storing) c.old.depot start = omega (arith, asked, stored) in
            begun_then (asking + storing) ((2 + 1) * tries) ((2 + 1) * tries + task_calls c.options job)
            (demo_limits c.options c.size job).begun (demo_limits c.options c.size job).all c.old.depot start c.new.depot both (omega arith) (omega arith) s calls

        pub demo_stopped : (s : Status) → DriveWithin c.options job Neither start c.new.depot s → DemosWithin c s
        demo_stopped (DepotFailed key) calls = (job, is, inl (begun_so (DepotFailed key) calls))
        demo_stopped status calls = inr (job, is, begun_within (demo_limits c.options c.size job) c.old.depot c.new.depot status (begun_so status calls))

        -- the result was read, or was to be
        pub demo_told : (ran : Shown) → DriveWithin c.options job Neither start ran Done → WithinCalls (c.options.retries + 1) ran c.new.depot
            → (text : ℤ → List ℕ) (before : Seen) (s : Status) → ResultTells (c.options.retries + 1) text before c.new s → DemosWithin c s
        demo_told ran run read text before s tells = told s tells
          where
            all : WithinCalls (demo_limits c.options c.size job).all c.old.depot c.new.depot
            all = omega (arith, asked, stored, run, read)

            told : (s : Status) → ResultTells (c.options.retries + 1) text before c.new s → DemosWithin c s
            told Done tells = inr (job, is, all)
            told WriteFault tells = inr (job, is, all)
            told (BadChunk key got want) tells = inr (job, is, all)
            told (DepotFailed key) tells = (job, is, inr (tells.1.0, all))
            told NoMemory tells = inr (job, is, all)
            told status tells = absurd tells
