-- From the parts of a demonstration to what it answers.
use Rattle.std.proofs.Common.{◌≡◌, ◌≢◌, ◌∙◌, inl, inr, ℕ, ◌+◌, ◌≤◌, ℤ, Bool, true, false, List, [], ◌++◌, length, codes, Option, Some, None}
use Rattle.std.proofs.Common.{Ok, refl, sym, ap, subst, arith}
use Rattle.std.specs.Prelude.{◌==◌}
use Rattle.std.proofs.lemmas.Bool.{eqb-true}
use Rattle.cu_node.specs.Info.{info_at}
use Rattle.cu_node.specs.declared.info.NodeInfo.{NodeInfo}
use Rattle.cu_form.specs.Expression.{Expression}
use Rattle.cu_shape.specs.Index.{IsInside}
use Rattle.cu_store.specs.Held.{Contents}
use Rattle.cu_store.specs.Steps.{Shown, NoChange, OrLate, Lands, OnceEach}
use Rattle.cu_store.proofs.Steps.{steps_none}
use Rattle.cu_zarr.specs.Stored.{element_in, stored_element}
use Rattle.cu_op.specs.Layout.{layout_view}
use Rattle.cu_op.specs.declared.layout.Layout.{Layout}
use Rattle.cu_region.specs.Steady.{HoldsLength}
use Rattle.cu_run_law.specs.Left.{IsLeft, RunChange}
use Rattle.cu_run_law.specs.Pieces.{Text, IsComplete}
use Rattle.cu_run_law.proofs.Keeping.{left_kept, piece_stays}
use Rattle.cu_lower.specs.Parts.{made_layout}
use Rattle.cu_lower.specs.declared.options.Options.{Options}
use Rattle.cu_semantics.specs.Argument.{shape_of_node}
use Rattle.cu_command.specs.Job.{IsJob}
use Rattle.cu_command.specs.Seen.{Seen, Stepped, WroteNothing, seen, stream}
use Rattle.cu_command.specs.declared.job.Job.{Job}
use Rattle.cu_command.specs.declared.status.Status.{Status}
use Rattle.cu_command.specs.declared.status.Status.TheVariants.{Done, OverMemory, OverLimit, Exists, TaskFailed, WriteFault, BadChunk, DepotFailed, NoMemory}
use Rattle.cu_command.proofs.SeenLemmas.{stepped_none, stepped_same, stepped_then}
use Rattle.cu_load.proofs.AskLemmas.{rose_earlier}
use Rattle.cu_demo.specs.Expression.{IsDemoJob, demo_text}
use Rattle.cu_top.proofs.CallLimits.{once_behind}
use Rattle.cu_top.specs.Demo.{DemoWithinStarts, DemoCase, DemoTells, InputsPut, AreInputsFree, IsDemoAskEnd, IsDemoRefused, IsDemoStarted, IsInputsFault, IsResultUnread, KeepsInputs, ResultTells, demo_behind, demo_case, demo_run, result_key, result_layout, result_line}
use Rattle.cu_top.proofs.Completeness.{not_bad}
use Rattle.cu_top.specs.Complete.{AreWhole}
use Rattle.cu_top.specs.Prepare.{HasPlan, asked_keys, job_plan, out_layout}
use Rattle.cu_top.specs.Quiet.{IsCalm, IsCalmFor}
use Rattle.cu_top.specs.Report.{report_line}
use Rattle.cu_top.specs.Run.{RunCase, case, scene, job_run, plan_in, env_of, IsStarted, HoldsAll, IsCounted, IsMeant, IsQuietEntry, IsStop, Ran, Ended, WhereLeft}
use Rattle.cu_top.specs.declared.report.RunCounts.{RunCounts}

-- ---- what was told stays told

untold : (now : Contents) → ◌≡◌ {A = Option Contents} None (Some now) → ⊥
untold now told = cc

told_before : (W : List ℕ → Option (List ℕ) → Type 0) (a b : Option Contents) (now : Contents) → Lands W a b → b ≡ Some now → (held : Contents) × (a ≡ Some held)
told_before W None None now lands told = absurd (untold now told)
told_before W None (Some b) now lands told = absurd lands
told_before W (Some a) b now lands told = (a, refl)

-- each chunk of an input that a run of the text finds is whole
abbrev pub WholeLaw : Options → Shown → Type 0
WholeLaw options found = (entry : Contents) → found.held ≡ Some entry → (job : Job) → IsJob found demo_text job → HasPlan options job → AreWhole (job_plan options job) entry

-- ---- before anything is stored

nothing : (s : Seen) → WroteNothing s s
nothing s = (stepped_same NoChange s.depot, refl)

-- there is no plan
pub refused_plan : (lack : Bool) (options : Options) (n : ℕ) (s : Seen) (status : Status) → IsDemoRefused options n status → DemoTells lack (demo_case options n s s) status
refused_plan lack options n s NoMemory refused = inl (nothing s)
refused_plan lack options n s (OverMemory node need allowed) refused = (nothing s, refused)
refused_plan lack options n s (OverLimit which count) refused = (nothing s, refused)
refused_plan lack options n s status (job, is, why) = absurd why

module _ (lack : Bool) (c : DemoCase) where
  -- asking for the keys ended
  pub asked : (job : Job) (status : Status) → IsDemoJob c.size job → WroteNothing c.old c.new
      → IsDemoAskEnd (c.options.retries + 1) (asked_keys c.options job) c.old.depot c.new.depot status → DemoTells lack c status
  asked job (Exists key) is quiet end = (quiet, (job, is, end))
  asked job (DepotFailed key) is quiet end = inl (quiet, (job, is, end))
  asked job NoMemory is quiet end = inl quiet
  asked job status is quiet end = absurd end

  -- storing the inputs ended
  pub unstored : (mid : Shown) (status : Status) → c.new.out.told ≡ c.old.out.told → AreInputsFree c.old.depot.held → c.old.depot.faults ≤ mid.faults
      → Stepped (InputsPut c.size) c.old.depot c.new.depot → IsInputsFault (c.options.retries + 1) c.size mid c.new.depot status → DemoTells lack c status
  unstored mid (DepotFailed key) silent free earlier both fault =
      inr (inl (silent, free, both, (rose_earlier (c.options.retries + 1) c.old.depot.faults mid.faults c.new.depot.faults earlier fault.0, fault.1)))
  unstored mid NoMemory silent free earlier both fault = inr (inl (silent, free, both, tt))
  unstored mid status silent free earlier both fault = absurd fault

  module _ (found : Shown) (calm : IsCalm c.options demo_text found) (whole : WholeLaw c.options found) where
    -- where the contents are told, no chunk of an input has another length
    bad_untold : (key : List ℕ) (got want : ℕ) → Ran lack (demo_run c found) (BadChunk key got want) → c.new.depot.held ≡ None
    bad_untold key got want (job, s, (bad, texts, input)) = go c.new.depot.held refl
      where
        go : (h : Option Contents) → c.new.depot.held ≡ h → h ≡ None
        go None told = refl
        go (Some now) told =
            let (entry, at) = told_before (OrLate (RunChange (job_run (demo_run c found) job) found) found.late) found.held c.new.depot.held now s.step.step.lands told in
            let quiet : IsQuietEntry (demo_run c found) job entry =
            subst (λ (h : Option Contents). IsCalmFor (job_run (demo_run c found) job) h found.late) at (calm job s.accepted s.planned) in
            absurd (not_bad (demo_run c found) entry at job s quiet (whole entry at job s.accepted s.planned) key got want bad (input entry at (s.opens entry at quiet)))

    -- its run ended
    pub stopped : (job : Job) (status : Status) → c.new.out.told ≡ c.old.out.told → IsDemoStarted c job found
        → ((other : Job) → IsStarted (demo_run c found) other → KeepsInputs c) → IsStop status → Ran lack (demo_run c found) status → DemoTells lack c status
    stopped job (TaskFailed op task) silent started keeps stop ran = (keeps ran.1.0 ran.1.1, (silent, (job, found, started, ran)))
    stopped job (BadChunk key got want) silent started keeps stop ran = (bad_untold key got want ran, inl (silent, (job, found, started, ran)))
    stopped job (DepotFailed key) silent started keeps stop ran = inr (inr (inl (silent, (job, found, started, ran))))
    stopped job NoMemory silent started keeps stop ran = inr (inr (inl (silent, (job, found, started, ran))))
    stopped job status silent started keeps stop ran = absurd stop

none_or_some : {A : Type 0} (v : Option A) (x : A) → v ≡ None → v ≡ Some x → ⊥
none_or_some v x none some = cc

-- ---- the run, seen later

some_held : (a b : Contents) → ◌≡◌ {A = Option Contents} (Some a) (Some b) → a ≡ b
some_held a b e = cc

-- the run from what it found to a moment
abbrev pub run_to : Options → Shown → Shown → RunCase
run_to options found s = case options demo_text (scene (stream None 0) (stream None 0) found) (scene (stream None 0) (stream None 0) s)

-- the law of what a complete run means
abbrev pub MeantLaw : Options → Job → Shown → Type 0
MeantLaw options job found = (entry : Contents) (shown : Shown) (left : IsLeft (job_run (run_to options found shown) job) (env_of (run_to options found shown) job entry) shown)
    → IsComplete (job_run (run_to options found shown) job) (env_of (run_to options found shown) job entry) shown → IsMeant job entry left.held

module _ (options : Options) (job : Job) (found ran new : Shown) (step : Stepped NoChange ran new) (meant : MeantLaw options job found) (s : IsStarted (run_to options found ran) job) where
  pub started_later : IsStarted (run_to options found new) job
  started_later = record {
    accepted = s.accepted;
    planned = s.planned;
    sound = s.sound;
    room = s.room;
    own = s.own;
    apart = s.apart;
    free = s.free;
    step = stepped_then s.step (stepped_none step);
    opens = s.opens;
    left = λ entry told left.
        left_kept (job_run (run_to options found ran) job) (env_of (run_to options found ran) job entry) ran (s.left entry told left) 0 step.calls new (steps_none step.step);
    first = λ entry told left. elim (s.first entry told left) [
      | inl holds ↦ inl (piece_stays (job_run (run_to options found ran) job) (env_of (run_to options found ran) job entry) ran (s.left entry told left) 0 step.calls new (steps_none step.step) (Text 0) (omega arith) holds)
      | inr put ↦ inr (stepped_then put (stepped_none step))
    ];
  }

  pub all_later : HoldsAll (run_to options found ran) job → HoldsAll (run_to options found new) job
  all_later holds =
      let complete : WhereLeft (run_to options found new) job (λ env. IsComplete (job_run (run_to options found new) job) env new) = λ entry told left q piece.
      piece_stays (job_run (run_to options found ran) job) (env_of (run_to options found ran) job entry) ran (s.left entry told left) 0 step.calls new (steps_none step.step) q piece (holds.0 entry told left q piece) in (
        complete,
        λ entry now told left there.
            let at = started_later.left entry told left in
            let same : at.held ≡ now = some_held at.held now (sym at.told ∙ there) in
            subst (IsMeant job entry) same (meant entry new at (complete entry told left)),
      )

  pub counted_later : (keys k : ℕ) (n : RunCounts) → OnceEach k ran new → IsCounted (run_to options found ran) job keys n → IsCounted (run_to options found new) job (keys + k) n
  counted_later keys k n read ((history, m, h, (done, starts, failures, made)), least, exact, most, few) =
      let rose = h.rose in
      let more = step.step.count in (
        (
          history,
          m,
          record { legal = h.legal; resting = h.resting; workers = h.workers; rose = omega (arith, rose, more) },
          (done, starts, failures, once_behind keys k (plan_in (run_to options found ran) job) history found ran new made read),
        ),
        least,
        exact,
        most,
        few,
      )

-- ---- the result

module _ (options : Options) (n : ℕ) (job : Job) (is : IsDemoJob n job) (found new : Shown) (s : IsStarted (run_to options found new) job) (holds : HoldsAll (run_to options found new) job)
    (calm : IsCalm options demo_text found) where
  result_info : info_at job.types job.expr.out ≡ info_at job.types 7
  result_info = ap (λ (e : Expression). info_at job.types e.out) is.expr

  layout_is : out_layout job ≡ result_layout
  layout_is = ap made_layout (result_info ∙ is.result)

  -- where the contents are told, the output's chunk isn't of another length
  other_length : (now : Contents) (bytes : List ℕ) (x : ℤ) → length bytes ≢ 8 → now result_key ≡ Some bytes → stored_element (layout_view result_layout) (codes "demo_y") now [] ≡ Some x → ⊥
  other_length now bytes x differ there stored =
      let here : element_in (layout_view result_layout) (Some bytes) [] ≡ Some x = ap (λ (v : Option (List ℕ)). element_in (layout_view result_layout) v []) (sym there) ∙ stored in
      by_test (length bytes == 8) refl here
    where
      by_test : (t : Bool) → length bytes == 8 ≡ t → element_in (layout_view result_layout) (Some bytes) [] ≡ Some x → ⊥
      by_test true is here = differ (eqb-true (length bytes) 8 is)
      by_test false is here = none_or_some None x refl (rw is at here)

  told_result : (now : Contents) → new.held ≡ Some now → (x : ℤ) × (stored_element (layout_view result_layout) (codes "demo_y") now [] ≡ Some x)
  told_result now told =
      let (entry, at) = told_before (OrLate (RunChange (job_run (run_to options found new) job) found) found.late) found.held new.held now s.step.step.lands told in
      let quiet : IsQuietEntry (run_to options found new) job entry =
      subst (λ (h : Option Contents). IsCalmFor (job_run (run_to options found new) job) h found.late) at (calm job s.accepted s.planned) in
      let inside : IsInside (shape_of_node job.types job.expr.out) [] = subst (λ (i : NodeInfo). IsInside i.dims []) (sym (result_info ∙ is.result)) tt in
      let stored = holds.1 entry now at (s.opens entry at quiet) told [] inside in (
        _,
        ap (λ (l : Layout). stored_element (layout_view l) (codes "demo_y") now []) (sym layout_is)
            ∙ ap (λ (e : Expression). stored_element (layout_view (out_layout job)) e.store_as now []) (sym is.expr) ∙ stored,
      )

  pub no_other_length : (key : List ℕ) (got want : ℕ) → key ≡ result_key → want ≡ 8 → got ≢ want → HoldsLength new.held key got → new.held ≡ None
  no_other_length key got want at is_want differ length_is = go new.held refl (subst (λ (k : List ℕ). HoldsLength new.held k got) at length_is)
    where
      go : (h : Option Contents) → new.held ≡ h → HoldsLength h result_key got → h ≡ None
      go None told holds_it = refl
      go (Some now) told (bytes, there, long) =
          let (x, stored) = told_result now told in
          absurd (other_length now bytes x (λ same. differ (sym long ∙ same ∙ sym is_want)) there stored)

-- ---- the end

module _ (lack : Bool) (c : DemoCase) (job : Job) (found ran : Shown) (n : RunCounts) (start : IsDemoStarted c job found) (calm : IsCalm c.options demo_text found)
    (meant : MeantLaw c.options job found) (ended : Ended lack (run_to c.options found ran) job 3 (Ok n)) (step : Stepped NoChange ran c.new.depot) (earlier : c.old.depot.faults ≤ ran.faults)
    (keeps : (other : Job) → IsStarted (run_to c.options found c.new.depot) other → KeepsInputs c) (starts : DemoWithinStarts c job n)
    (once : OnceEach 1 ran c.new.depot) where
  s : IsStarted (run_to c.options found c.new.depot) job
  s = started_later c.options job found ran c.new.depot step meant ended.0

  all : HoldsAll (run_to c.options found c.new.depot) job
  all = all_later c.options job found ran c.new.depot step meant ended.0 ended.1

  counted : IsCounted (run_to c.options found c.new.depot) job demo_behind n
  counted = counted_later c.options job found ran c.new.depot step meant ended.0 3 1 n once ended.2

  unread : (status : Status) → IsResultUnread (c.options.retries + 1) ran c.new.depot status → IsResultUnread (c.options.retries + 1) c.old.depot c.new.depot status
  unread (DepotFailed key) fault = (fault.0, rose_earlier (c.options.retries + 1) c.old.depot.faults ran.faults c.new.depot.faults earlier fault.1)
  unread (BadChunk key got want) fault = fault
  unread NoMemory fault = tt
  unread status fault = absurd fault

  -- the result was read and told
  pub told : (status : Status) → ResultTells (c.options.retries + 1) (λ (x : ℤ). result_line c.size x ++ report_line (plan_in (run_to c.options found c.new.depot) job) n) (seen c.old.out ran) c.new status → DemoTells lack c status
  told Done (x, result, wrote) = (keeps job s, (job, found, start, (n, s, all, counted, starts, (x, result, wrote))))
  told WriteFault (rose, (x, result, front, few, wrote)) = (rose, (keeps job s, (job, found, start, (n, s, all, counted, starts, (x, result, front, few, wrote)))))
  told (BadChunk key got want) (silent, (at, is_want, differ, long)) = (
    no_other_length c.options c.size job start.accepted found c.new.depot s all calm key got want at is_want differ long,
    inr (silent, (keeps job s, (job, found, start, (n, s, all, counted, starts, (at, is_want, differ, long))))),
  )
  told (DepotFailed key) (silent, fault) = inr (inr (inr (silent, (keeps job s, (job, found, start, (n, s, all, counted, starts, unread (DepotFailed key) fault))))))
  told NoMemory silent = inr (inr (inr (silent, (keeps job s, (job, found, start, (n, s, all, counted, starts, tt))))))
  told status tells = absurd tells
