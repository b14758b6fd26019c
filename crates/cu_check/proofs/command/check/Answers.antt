use Rattle.std.proofs.Common.{◌+◌, ℕ, List, subst}
use Rattle.cu_command.specs.Seen.{stream, seen}
use Rattle.cu_check.specs.Check.{Compares}
use Rattle.cu_check.proofs.Ends.{text_ends}
use Rattle.cu_check.proofs.TextEnds.{text_within, text_once}
use Rattle.cu_check.proofs.command.check.Goals as goal

pub returns-in-Ok : goal.returns-in-Ok
returns-in-Ok g c =
    let old = seen (stream (g.W.Sink.written c.args.out.now) (g.W.Sink.faults c.args.out.now)) (g.D.PutStore.shown c.args.depot.now) in
    let new = seen (stream (g.W.Sink.written c.check_text.new.out) (g.W.Sink.faults c.check_text.new.out)) (g.D.PutStore.shown c.check_text.new.depot) in
    record {
      answer = record {
        spared = c.check_text.ensures.step;
        printed = c.check_text.ensures.printed;
        ends = text_ends (c.args.retries + 1) (stream (g.R.Source.left c.args.src.now) (g.R.Source.faults c.args.src.now)) (stream (g.R.Source.left c.read_all.new.src) (g.R.Source.faults c.read_all.new.src))
            old new c.in-Ok.text.items c.check_text.result c.in-Ok.ensures.text (subst (λ (text : List ℕ). Compares (c.args.retries + 1) text old new c.check_text.result) c.deref.ensures.value c.check_text.ensures.answer);
      };
      calls = text_within (c.args.retries + 1) (stream (g.R.Source.left c.args.src.now) (g.R.Source.faults c.args.src.now)) (stream (g.R.Source.left c.read_all.new.src) (g.R.Source.faults c.read_all.new.src))
          c.in-Ok.text.items (g.D.PutStore.shown c.args.depot.now) (g.D.PutStore.shown c.check_text.new.depot) c.in-Ok.ensures.text (rw c.deref.ensures.value at c.check_text.ensures.calls);
      once = text_once (stream (g.R.Source.left c.args.src.now) (g.R.Source.faults c.args.src.now)) (stream (g.R.Source.left c.read_all.new.src) (g.R.Source.faults c.read_all.new.src))
          c.in-Ok.text.items (g.D.PutStore.shown c.args.depot.now) (g.D.PutStore.shown c.check_text.new.depot) c.in-Ok.ensures.text (rw c.deref.ensures.value at c.check_text.ensures.once);
    }
