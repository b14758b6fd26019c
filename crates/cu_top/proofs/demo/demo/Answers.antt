use Rattle.std.proofs.Common.{◌≡◌, ◌+◌, ◌*◌, ◌++◌, ℤ, All, None, length, refl, subst, sym, arith}
use Rattle.cu_op.specs.PlanView.{PlanView}
use Rattle.cu_store.specs.Steps.{OnceEach}
use Rattle.cu_store.proofs.Once.{once_then}
use Rattle.cu_command.specs.Seen.{WithinCalls, seen, stream}
use Rattle.cu_command.proofs.SeenLemmas.{stepped_none, stepped_then}
use Rattle.cu_command.specs.declared.job.Job.{Job}
use Rattle.cu_demo.specs.Expression.{IsDemoJob, demo_text}
use Rattle.cu_work.specs.Order.{IsFree}
use Rattle.cu_top.proofs.DemoCalls.{demo_starts, demo_unplanned, demo_asked, demo_unready, demo_unstored, demo_stopped, demo_told}
use Rattle.cu_top.proofs.DemoFound.{found_of}
use Rattle.cu_top.proofs.DemoLemmas.{MeantLaw, asked, refused_plan, run_to, stopped, told, unstored}
use Rattle.cu_top.proofs.DemoWay.{Way, way_calm, way_cleared, way_found, way_keeps, way_whole}
use Rattle.cu_top.proofs.PlanLemmas.{differs, meant}
use Rattle.cu_top.specs.Demo.{IsDemoStarted, ResultTells, demo_case, result_line}
use Rattle.cu_top.specs.Prepare.{asked_keys, out_metadata, HasNoOwnInput, HasPlan}
use Rattle.cu_top.specs.Record.{record_text}
use Rattle.cu_top.specs.Report.{report_line}
use Rattle.cu_top.proofs.demo.demo.Goals as goal

pub returns-in-Err : goal.returns-in-Err
returns-in-Err g c = record {
  answer = refused_plan _ c.args.options.now c.args.size (seen (stream (g.W.Sink.written c.args.out.now) (g.W.Sink.faults c.args.out.now)) (g.D.PutStore.shown c.args.depot.now)) c.in-Err.status c.in-Err.ensures.refused;
  calls = demo_unplanned (demo_case c.args.options.now c.args.size (seen (stream (g.W.Sink.written c.args.out.now) (g.W.Sink.faults c.args.out.now)) (g.D.PutStore.shown c.args.depot.now))
      (seen (stream (g.W.Sink.written c.args.out.now) (g.W.Sink.faults c.args.out.now)) (g.D.PutStore.shown c.args.depot.now))) c.in-Err.status c.in-Err.ensures.refused (omega arith);
}

pub returns-in-Err-ask_demo : goal.returns-in-Err-ask_demo
returns-in-Err-ask_demo g c =
    let out = stream (g.W.Sink.written c.args.out.now) (g.W.Sink.faults c.args.out.now) in
    let told = demo_case c.args.options.now c.args.size (seen out (g.D.PutStore.shown c.args.depot.now)) (seen out (g.D.PutStore.shown c.ask_demo.new.depot)) in
    record {
      answer = asked _ told c.in-Ok.prepared.job c.in-Err-ask_demo.status c.in-Ok.ensures.job (c.ask_demo.ensures.step, refl)
          (c.in-Err-ask_demo.ensures.refused c.args.options.now c.in-Ok.ensures.plan);
      calls = demo_asked told c.in-Ok.prepared.job c.in-Ok.ensures.job c.in-Err-ask_demo.status (c.in-Err-ask_demo.ensures.refused c.args.options.now c.in-Ok.ensures.plan)
          (c.ask_demo.ensures.calls c.args.options.now c.in-Ok.ensures.plan);
    }

pub returns-in-Err-store_inputs : goal.returns-in-Err-store_inputs
returns-in-Err-store_inputs g c =
    let out = stream (g.W.Sink.written c.args.out.now) (g.W.Sink.faults c.args.out.now) in
    let mid = g.D.PutStore.shown c.ask_demo.new.depot in
    let told = demo_case c.args.options.now c.args.size (seen out (g.D.PutStore.shown c.args.depot.now)) (seen out (g.D.PutStore.shown c.store_inputs.new.depot)) in
    record {
      answer = unstored _ told mid c.in-Err-store_inputs.status refl c.in_default.ensures.inputs c.ask_demo.ensures.step.step.count
          (stepped_then (stepped_none c.ask_demo.ensures.step) c.store_inputs.ensures.step) c.in-Err-store_inputs.ensures.refused;
      calls = demo_unstored told c.in-Ok.prepared.job c.in-Ok.ensures.job mid (c.ask_demo.ensures.calls c.args.options.now c.in-Ok.ensures.plan) c.in-Err-store_inputs.status mid
          c.in-Err-store_inputs.ensures.refused c.store_inputs.ensures.calls;
    }

pub store_plan-requires-clause-planned : goal.store_plan-requires-clause-planned
store_plan-requires-clause-planned g c κs within = subst (HasPlan c.args.options.now) (sym c.in-Ok-make_ready.ensures.job) c.in-Ok.ensures.planned

pub store_plan-requires-clause-quiet : goal.store_plan-requires-clause-quiet
store_plan-requires-clause-quiet g c κs within =
    let options = c.args.options.now in
    let job = c.in-Ok-make_ready.ready.job in
    let same : job ≡ c.in-Ok.prepared.job = c.in-Ok-make_ready.ensures.job in
    let old = g.D.PutStore.shown c.args.depot.now in
    let mid = g.D.PutStore.shown c.ask_demo.new.depot in
    let start = g.D.PutStore.shown c.store_inputs.new.depot in
    let way : Way options c.args.size job old mid start = record {
      some = c.requires.some;
      few = c.requires.few;
      read_back = c.meta_law.ensures.read_back;
      laws = record {
        sound = λ job planned. c.merged_plan_law.ensures.sound job.expr job.types job.inputs.items options planned;
        names = λ job planned own. c.merged_plan_law.ensures.names job.expr job.types job.inputs.items options (record_text options job) (out_metadata job) planned (differs job.expr own);
        only = λ job planned a below given. c.merged_plan_law.ensures.only job.expr job.types job.inputs.items options a planned below given;
      };
      first = c.ask_demo.ensures.step;
      second = c.store_inputs.ensures.step;
      stores = c.in_default-store_inputs.ensures.stores;
      quiet = c.requires.quiet;
      accepted = subst (IsDemoJob c.args.size) (sym same) c.in-Ok.ensures.job;
      planned = subst (HasPlan options) (sym same) c.in-Ok.ensures.planned;
      own = subst (λ (j : Job). HasNoOwnInput j.expr) (sym same) c.in_default.ensures.own;
      inputs = c.in_default.ensures.inputs;
      free = λ entry is. subst (λ (j : Job). All (IsFree entry) (asked_keys options j)) (sym same) (c.in_default.ensures.keys options entry c.in-Ok.ensures.plan is);
    } in
    (demo_text, found_of old start, way_cleared options c.args.size job old mid start way, way_calm options c.args.size job old mid start way)

pub returns-in-Ok-store_plan : goal.returns-in-Ok-store_plan
returns-in-Ok-store_plan g c =
    let options = c.args.options.now in
    let n = c.args.size in
    let job = c.in-Ok-make_ready.ready.job in
    let same : job ≡ c.in-Ok.prepared.job = c.in-Ok-make_ready.ensures.job in
    let old = g.D.PutStore.shown c.args.depot.now in
    let mid = g.D.PutStore.shown c.ask_demo.new.depot in
    let start = g.D.PutStore.shown c.store_inputs.new.depot in
    let ran = g.D.PutStore.shown c.store_plan.new.depot in
    let now = g.D.PutStore.shown c.tell_result.new.depot in
    let before = stream (g.W.Sink.written c.args.out.now) (g.W.Sink.faults c.args.out.now) in
    let after = stream (g.W.Sink.written c.tell_result.new.out) (g.W.Sink.faults c.tell_result.new.out) in
    let lack = g.D.SharedStore.yards_lack c.tell_result.new.depot in
    let counts = c.in-Ok-store_plan.counts in
    let way : Way options n job old mid start = record {
      some = c.requires.some;
      few = c.requires.few;
      read_back = c.meta_law.ensures.read_back;
      laws = record {
        sound = λ job planned. c.merged_plan_law.ensures.sound job.expr job.types job.inputs.items options planned;
        names = λ job planned own. c.merged_plan_law.ensures.names job.expr job.types job.inputs.items options (record_text options job) (out_metadata job) planned (differs job.expr own);
        only = λ job planned a below given. c.merged_plan_law.ensures.only job.expr job.types job.inputs.items options a planned below given;
      };
      first = c.ask_demo.ensures.step;
      second = c.store_inputs.ensures.step;
      stores = c.in_default-store_inputs.ensures.stores;
      quiet = c.requires.quiet;
      accepted = subst (IsDemoJob c.args.size) (sym same) c.in-Ok.ensures.job;
      planned = subst (HasPlan options) (sym same) c.in-Ok.ensures.planned;
      own = subst (λ (j : Job). HasNoOwnInput j.expr) (sym same) c.in_default.ensures.own;
      inputs = c.in_default.ensures.inputs;
      free = λ entry is. subst (λ (j : Job). All (IsFree entry) (asked_keys options j)) (sym same) (c.in_default.ensures.keys options entry c.in-Ok.ensures.plan is);
    } in
    let found = found_of old start in
    let seen_by = demo_case options n (seen before old) (seen after now) in
    let asked_each = subst (λ (j : Job). OnceEach (6 + length (asked_keys options j)) old mid) (sym same) (c.ask_demo.ensures.once options c.in-Ok.ensures.plan) in
    let begun : IsDemoStarted seen_by job found = record {
      accepted = way.accepted;
      inputs = way.inputs;
      keys = way.free;
      entry = way_found options n job old mid start way;
      once = once_then (6 + length (asked_keys options job)) _ old mid found asked_each c.store_inputs.ensures.once;
    } in
    let law : MeantLaw options job found = λ entry shown left complete.
    meant (run_to options found shown) job way.planned c.merged_plan_law.ensures.inputs c.merged_plan_law.ensures.output c.merged_plan_law.ensures.equal c.complete_law.ensures.elements
    entry shown left complete in
    let ended = c.in-Ok-store_plan.ensures.ended demo_text found (stream None 0) (stream None 0) (stream None 0) (stream None 0) 0 (way_cleared options n job old mid start way) (omega arith) in
    let asked_calls = subst (λ (j : Job). WithinCalls ((6 + length (asked_keys options j)) * (options.retries + 1)) old mid) (sym same) (c.ask_demo.ensures.calls options c.in-Ok.ensures.plan) in
    let asked_count = c.ask_demo.ensures.step.step.count in
    let stored_count = c.store_inputs.ensures.step.step.count in
    let run_count = ended.0.step.step.count in
    record {
      answer = told lack seen_by job found ran counts begun (way_calm options n job old mid start way) law ended c.tell_result.ensures.step (omega (arith, asked_count, stored_count, run_count)) (λ other s. way_keeps options n job old mid start way now other s)
          (demo_starts seen_by job way.accepted counts mid start ran asked_calls c.store_inputs.ensures.calls c.in-Ok-store_plan.ensures.starts c.tell_result.ensures.calls)
          c.tell_result.ensures.once
          c.tell_result.result
          (subst (λ (p : PlanView). ResultTells (options.retries + 1) (λ (x : ℤ). result_line n x ++ report_line p counts) (seen before ran) (seen after now) c.tell_result.result) c.in-Ok-make_ready.ensures.ready.plan_is
          c.tell_result.ensures.answer);
      calls = demo_told seen_by job way.accepted mid asked_calls start c.store_inputs.ensures.calls ran c.in-Ok-store_plan.ensures.calls c.tell_result.ensures.calls
          (λ (x : ℤ). result_line n x ++ report_line c.in-Ok-make_ready.ready.plan counts) (seen before ran) c.tell_result.result c.tell_result.ensures.answer;
    }

pub returns : goal.returns
returns g c =
    let options = c.args.options.now in
    let n = c.args.size in
    let job = c.in-Ok-make_ready.ready.job in
    let same : job ≡ c.in-Ok.prepared.job = c.in-Ok-make_ready.ensures.job in
    let old = g.D.PutStore.shown c.args.depot.now in
    let mid = g.D.PutStore.shown c.ask_demo.new.depot in
    let start = g.D.PutStore.shown c.store_inputs.new.depot in
    let now = g.D.PutStore.shown c.store_plan.new.depot in
    let out = stream (g.W.Sink.written c.args.out.now) (g.W.Sink.faults c.args.out.now) in
    let lack = g.D.SharedStore.yards_lack c.store_plan.new.depot in
    let way : Way options n job old mid start = record {
      some = c.requires.some;
      few = c.requires.few;
      read_back = c.meta_law.ensures.read_back;
      laws = record {
        sound = λ job planned. c.merged_plan_law.ensures.sound job.expr job.types job.inputs.items options planned;
        names = λ job planned own. c.merged_plan_law.ensures.names job.expr job.types job.inputs.items options (record_text options job) (out_metadata job) planned (differs job.expr own);
        only = λ job planned a below given. c.merged_plan_law.ensures.only job.expr job.types job.inputs.items options a planned below given;
      };
      first = c.ask_demo.ensures.step;
      second = c.store_inputs.ensures.step;
      stores = c.in_default-store_inputs.ensures.stores;
      quiet = c.requires.quiet;
      accepted = subst (IsDemoJob c.args.size) (sym same) c.in-Ok.ensures.job;
      planned = subst (HasPlan options) (sym same) c.in-Ok.ensures.planned;
      own = subst (λ (j : Job). HasNoOwnInput j.expr) (sym same) c.in_default.ensures.own;
      inputs = c.in_default.ensures.inputs;
      free = λ entry is. subst (λ (j : Job). All (IsFree entry) (asked_keys options j)) (sym same) (c.in_default.ensures.keys options entry c.in-Ok.ensures.plan is);
    } in
    let found = found_of old start in
    let seen_by = demo_case options n (seen out old) (seen out now) in
    let asked_each = subst (λ (j : Job). OnceEach (6 + length (asked_keys options j)) old mid) (sym same) (c.ask_demo.ensures.once options c.in-Ok.ensures.plan) in
    let begun : IsDemoStarted seen_by job found = record {
      accepted = way.accepted;
      inputs = way.inputs;
      keys = way.free;
      entry = way_found options n job old mid start way;
      once = once_then (6 + length (asked_keys options job)) _ old mid found asked_each c.store_inputs.ensures.once;
    } in
    let asked_calls = subst (λ (j : Job). WithinCalls ((6 + length (asked_keys options j)) * (options.retries + 1)) old mid) (sym same) (c.ask_demo.ensures.calls options c.in-Ok.ensures.plan) in
    record {
      answer = stopped lack seen_by found (way_calm options n job old mid start way) (way_whole options n job old mid start way) job c.in-Err-store_plan.status refl begun (λ other s. way_keeps options n job old mid start way now other s) c.in-Err-store_plan.ensures.stopped
          (c.in-Err-store_plan.ensures.ended demo_text found (stream None 0) (stream None 0) (stream None 0) (stream None 0) 0 (way_cleared options n job old mid start way) (omega arith));
      calls = demo_stopped seen_by job way.accepted mid asked_calls start c.store_inputs.ensures.calls c.in-Err-store_plan.status c.in-Err-store_plan.ensures.stopped_calls;
    }

pub returns-in_default-make_ready-clause-calls : goal.returns-in_default-make_ready-clause-calls
returns-in_default-make_ready-clause-calls g c =
    let out = stream (g.W.Sink.written c.args.out.now) (g.W.Sink.faults c.args.out.now) in
    let told = demo_case c.args.options.now c.args.size (seen out (g.D.PutStore.shown c.args.depot.now)) (seen out (g.D.PutStore.shown c.ask_demo.new.depot)) in
    demo_unready told c.in-Ok.prepared.job c.in-Ok.ensures.job (c.ask_demo.ensures.calls c.args.options.now c.in-Ok.ensures.plan)
