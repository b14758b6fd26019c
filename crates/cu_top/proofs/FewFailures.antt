-- Where few calls fail, neither a task nor a key is given up.
use Rattle.std.proofs.Common.{ℕ, ◌+◌, ◌≤◌, Bool, List, inl, inr, arith}
use Rattle.cu_store.specs.Faults.{Rose}
use Rattle.cu_store.specs.Steps.{Shown}
use Rattle.cu_check.specs.Check.{Checked}
use Rattle.cu_command.specs.declared.status.Status.{Status}
use Rattle.cu_command.specs.declared.status.Status.TheVariants.{TaskFailed, DepotFailed}
use Rattle.cu_load.specs.Load.{Loaded}
use Rattle.cu_lower.specs.declared.options.Options.{Options}
use Rattle.cu_print.specs.Print.{Printed}
use Rattle.cu_top.specs.Call.{RunTells}
use Rattle.cu_top.specs.Complete.{FewFailed, IsNotGivenUp}
use Rattle.cu_top.specs.Demo.{DemoTells, demo_case}
use Rattle.cu_work.specs.declared.part.Part.{Part}
use Rattle.cu_top.specs.Begin.{BeginTells}
use Rattle.cu_top.specs.Parts.{PartTells}
use Rattle.cu_top.specs.Drop.{DropTells}
use Rattle.cu_top.specs.Planned.{PlanTells}
use Rattle.cu_top.specs.Resume.{ResumeTells}
use Rattle.cu_top.specs.Run.{Scene, seen_in}

-- fewer calls failed than the tries for a key
not_so_often : (retries before after : ℕ) (old new : Shown) → old.faults ≤ before → after ≤ new.faults → FewFailed retries old new → Rose (retries + 1) before after → ⊥
not_so_often retries before after old new earlier later few rose = omega (arith, earlier, later, few.0, few.1, rose)

none_so_often : (retries : ℕ) (old new : Shown) → FewFailed retries old new → Rose (retries + 1) old.faults new.faults → ⊥
none_so_often retries old new few rose = not_so_often retries old.faults new.faults old new (omega arith) (omega arith) few rose

module _ (old new : Scene) where
  module _ (options : Options) (few : FewFailed options.retries old.depot new.depot) where
    pub run_few : (lack : Bool) (status : Status) → RunTells lack options old new status → IsNotGivenUp status
    run_few lack (TaskFailed op task) (text, read, (rose, rest)) = none_so_often options.retries old.depot new.depot few rose
    run_few lack (DepotFailed key) (text, read, (rose, rest)) = none_so_often options.retries old.depot new.depot few rose
    run_few lack status tells = tt

    pub resume_few : (lack : Bool) (status : Status) → ResumeTells lack options old new status → IsNotGivenUp status
    resume_few lack (TaskFailed op task) (text, read, (rose, rest)) = none_so_often options.retries old.depot new.depot few rose
    resume_few lack (DepotFailed key) (text, read, inl (rose, rest)) = none_so_often options.retries old.depot new.depot few rose
    resume_few lack (DepotFailed key) (text, read, inr (rose, rest)) = none_so_often options.retries old.depot new.depot few rose
    resume_few lack status tells = tt

    pub drop_few : (status : Status) → DropTells options old new status → IsNotGivenUp status
    drop_few (TaskFailed op task) (text, read, why) = why
    drop_few (DepotFailed key) (text, read, inl (rose, rest)) = none_so_often options.retries old.depot new.depot few rose
    drop_few (DepotFailed key) (text, read, inr (rose, rest)) = none_so_often options.retries old.depot new.depot few rose
    drop_few status tells = tt

    pub plan_few : (status : Status) → PlanTells options old new status → IsNotGivenUp status
    plan_few (TaskFailed op task) (text, read, why) = why
    plan_few (DepotFailed key) (text, read, (spared, (name, asked, turn, rose))) = none_so_often options.retries old.depot new.depot few rose
    plan_few status tells = tt

    pub begin_few : (status : Status) → BeginTells options old new status → IsNotGivenUp status
    begin_few (TaskFailed op task) (text, read, why) = why
    begin_few (DepotFailed key) (text, read, (rose, rest)) = none_so_often options.retries old.depot new.depot few rose
    begin_few status tells = tt

    pub part_few : (q : Part) (status : Status) → PartTells options q old new status → IsNotGivenUp status
    part_few q (TaskFailed op task) (text, read, (job, parted, (is, (w, was, rose)))) =
        not_so_often options.retries w.asked.faults new.depot.faults old.depot new.depot w.first.count (omega arith) few rose
    part_few q (DepotFailed key) (text, read, inl (rose, rest)) = none_so_often options.retries old.depot new.depot few rose
    part_few q (DepotFailed key) (text, read, inr (spared, (job, parted, (rose, rest)))) = none_so_often options.retries old.depot new.depot few rose
    part_few q status tells = tt

    pub demo_few : (lack : Bool) (size : ℕ) (status : Status) → DemoTells lack (demo_case options size (seen_in old) (seen_in new)) status → IsNotGivenUp status
    demo_few lack size (TaskFailed op task) (kept, (silent, (job, found, started, (rose, rest)))) =
        not_so_often options.retries found.faults new.depot.faults old.depot new.depot started.entry.faults (omega arith) few rose
    demo_few lack size (DepotFailed key) (inl (nothing, (job, is, (asked, rose)))) = none_so_often options.retries old.depot new.depot few rose
    demo_few lack size (DepotFailed key) (inr (inl (silent, free, step, (rose, listed)))) = none_so_often options.retries old.depot new.depot few rose
    demo_few lack size (DepotFailed key) (inr (inr (inl (silent, (job, found, started, (rose, rest)))))) =
        not_so_often options.retries found.faults new.depot.faults old.depot new.depot started.entry.faults (omega arith) few rose
    demo_few lack size (DepotFailed key) (inr (inr (inr (silent, (kept, (job, found, started, (n, was, all, counted, calls, (is, rose)))))))) = none_so_often options.retries old.depot new.depot few rose
    demo_few lack size status tells = tt

  module _ (retries : ℕ) (few : FewFailed retries old.depot new.depot) where
    pub load_few : (status : Status) → Loaded retries old.source new.source (seen_in old) (seen_in new) status → IsNotGivenUp status
    load_few (TaskFailed op task) tells = tells
    load_few (DepotFailed key) tells = none_so_often retries old.depot new.depot few tells.is_so.0
    load_few status tells = tt

    pub check_few : (status : Status) → Checked retries old.source new.source (seen_in old) (seen_in new) status → IsNotGivenUp status
    check_few (TaskFailed op task) tells = tells.ends.2
    check_few (DepotFailed key) tells = none_so_often retries old.depot new.depot few tells.ends.2.0
    check_few status tells = tt

    pub print_few : (name : List ℕ) (status : Status) → Printed retries name (seen_in old) (seen_in new) status → IsNotGivenUp status
    print_few name (TaskFailed op task) (step, ends) = ends
    print_few name (DepotFailed key) (step, inl (silent, asked, rose)) = none_so_often retries old.depot new.depot few rose
    print_few name (DepotFailed key) (step, inr (l, layout, stored, (printed, rose))) = none_so_often retries old.depot new.depot few rose
    print_few name status tells = tt
