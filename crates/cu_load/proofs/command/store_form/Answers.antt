use Rattle.std.proofs.Common.{◌+◌, subst, refl, inl, List, ℕ, arith}
use Rattle.cu_store.proofs.Once.{once_few}
use Rattle.cu_command.proofs.SeenLemmas.{stepped, stepped_none, stepped_then, within_few}
use Rattle.cu_load.specs.Keys.{AreFree}
use Rattle.cu_load.specs.Load.{chunks_in}
use Rattle.cu_load.specs.LoadForm.{given_by}
use Rattle.cu_load.proofs.CommandLemmas.{ask_ended, store_ended, still_calm, load_calls, load_once}
use Rattle.cu_load.proofs.command.store_form.Goals as goal

pub returns-in-Err : goal.returns-in-Err
returns-in-Err g c = record {
  answer = ask_ended c.args.retries (given_by c.args.form.now) c.key_of_name-name.result _ (g.D.PutStore.shown c.args.depot.now) (g.D.PutStore.shown c.ask_keys.new.depot) c.in-Err.status c.key_of_name-name.ensures.key
      (stepped c.ask_keys.ensures.step) c.in-Err.ensures.refused;
  calls = within_few 3 (chunks_in (given_by c.args.form.now) + 4) (c.args.retries + 1) (g.D.PutStore.shown c.args.depot.now) (g.D.PutStore.shown c.ask_keys.new.depot) (omega arith) c.ask_keys.ensures.step.calls.1;
  once = once_few 3 (chunks_in (given_by c.args.form.now) + 4) (g.D.PutStore.shown c.args.depot.now) (g.D.PutStore.shown c.ask_keys.new.depot) (omega arith) c.ask_keys.ensures.once;
}

pub returns-in_default-take_room : goal.returns-in_default-take_room
returns-in_default-take_room g c = record {
  answer = (refl, inl (stepped c.ask_keys.ensures.step));
  calls = within_few 3 (chunks_in (given_by c.args.form.now) + 4) (c.args.retries + 1) (g.D.PutStore.shown c.args.depot.now) (g.D.PutStore.shown c.ask_keys.new.depot) (omega arith) c.ask_keys.ensures.step.calls.1;
  once = once_few 3 (chunks_in (given_by c.args.form.now) + 4) (g.D.PutStore.shown c.args.depot.now) (g.D.PutStore.shown c.ask_keys.new.depot) (omega arith) c.ask_keys.ensures.once;
}

pub returns-in-Ok-report : goal.returns-in-Ok-report
returns-in-Ok-report g c =
    let free = subst (λ (n : List ℕ). AreFree n (g.D.PutStore.shown c.args.depot.now).held) c.key_of_name-name.ensures.key c.in_default.ensures.free in
    record {
      answer = (
        record {
          free = free;
          step = stepped_then (stepped_none (stepped c.ask_keys.ensures.step)) c.in-Ok-store_array.ensures.step;
          metadata = c.in-Ok-store_array.ensures.metadata;
          stores = λ calm. c.in-Ok-store_array.ensures.stores (still_calm (given_by c.args.form.now) _ _ (stepped c.ask_keys.ensures.step).step.late calm);
        },
        c.in-Ok-report.ensures.all,
      );
      calls = load_calls (chunks_in (given_by c.args.form.now)) (c.args.retries + 1) (g.D.PutStore.shown c.args.depot.now) (g.D.PutStore.shown c.ask_keys.new.depot) (g.D.PutStore.shown c.store_array.new.depot) c.ask_keys.ensures.step.calls.1
          c.store_array.ensures.calls;
      once = load_once (chunks_in (given_by c.args.form.now)) (g.D.PutStore.shown c.args.depot.now) (g.D.PutStore.shown c.ask_keys.new.depot) (g.D.PutStore.shown c.store_array.new.depot) c.ask_keys.ensures.once
          c.store_array.ensures.once;
    }

pub returns-in-Ok-store_array : goal.returns-in-Ok-store_array
returns-in-Ok-store_array g c =
    let free = subst (λ (n : List ℕ). AreFree n (g.D.PutStore.shown c.args.depot.now).held) c.key_of_name-name.ensures.key c.in_default.ensures.free in
    record {
      answer = (
        c.in-Err-report.ensures.cause,
        record {
          free = free;
          step = stepped_then (stepped_none (stepped c.ask_keys.ensures.step)) c.in-Ok-store_array.ensures.step;
          metadata = c.in-Ok-store_array.ensures.metadata;
          stores = λ calm. c.in-Ok-store_array.ensures.stores (still_calm (given_by c.args.form.now) _ _ (stepped c.ask_keys.ensures.step).step.late calm);
        },
        c.in-Err-report.ensures.front,
      );
      calls = load_calls (chunks_in (given_by c.args.form.now)) (c.args.retries + 1) (g.D.PutStore.shown c.args.depot.now) (g.D.PutStore.shown c.ask_keys.new.depot) (g.D.PutStore.shown c.store_array.new.depot) c.ask_keys.ensures.step.calls.1
          c.store_array.ensures.calls;
      once = load_once (chunks_in (given_by c.args.form.now)) (g.D.PutStore.shown c.args.depot.now) (g.D.PutStore.shown c.ask_keys.new.depot) (g.D.PutStore.shown c.store_array.new.depot) c.ask_keys.ensures.once
          c.store_array.ensures.once;
    }

pub returns : goal.returns
returns g c =
    let free = subst (λ (n : List ℕ). AreFree n (g.D.PutStore.shown c.args.depot.now).held) c.key_of_name-name.ensures.key c.in_default.ensures.free in
    record {
      answer = store_ended c.args.retries (given_by c.args.form.now) _ (g.D.PutStore.shown c.args.depot.now) (g.D.PutStore.shown c.ask_keys.new.depot) (g.D.PutStore.shown c.store_array.new.depot) c.in-Err-store_array.status free
          (stepped c.ask_keys.ensures.step) c.in-Err-store_array.ensures.failed;
      calls = load_calls (chunks_in (given_by c.args.form.now)) (c.args.retries + 1) (g.D.PutStore.shown c.args.depot.now) (g.D.PutStore.shown c.ask_keys.new.depot) (g.D.PutStore.shown c.store_array.new.depot) c.ask_keys.ensures.step.calls.1
          c.store_array.ensures.calls;
      once = load_once (chunks_in (given_by c.args.form.now)) (g.D.PutStore.shown c.args.depot.now) (g.D.PutStore.shown c.ask_keys.new.depot) (g.D.PutStore.shown c.store_array.new.depot) c.ask_keys.ensures.once
          c.store_array.ensures.once;
    }
