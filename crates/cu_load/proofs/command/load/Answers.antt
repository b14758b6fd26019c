use Rattle.std.proofs.Common.{inr}
use Rattle.cu_command.specs.Seen.{stream, seen}
use Rattle.cu_load.specs.LoadForm.{given_by}
use Rattle.cu_load.proofs.CommandLemmas.{loaded}
use Rattle.cu_load.proofs.command.load.Goals as goal

pub returns : goal.returns
returns g c = record {
  answer = loaded c.args.retries (stream (g.R.Source.left c.args.src.now) (g.R.Source.faults c.args.src.now)) (stream (g.R.Source.left c.read_all.new.src) (g.R.Source.faults c.read_all.new.src))
      (seen (stream (g.W.Sink.written c.args.out.now) (g.W.Sink.faults c.args.out.now)) (g.D.PutStore.shown c.args.depot.now))
      (seen (stream (g.W.Sink.written c.store_form.new.out) (g.W.Sink.faults c.store_form.new.out)) (g.D.PutStore.shown c.store_form.new.depot))
      c.in-Ok.text.items (given_by c.in-Ok-read_load.form) c.store_form.result c.in-Ok.ensures.text (rw c.deref.ensures.value at c.in-Ok-read_load.ensures.ok) c.store_form.ensures.answer;
  calls = inr (record {
    text = c.in-Ok.text.items;
    read = c.in-Ok.ensures.text;
    array = given_by c.in-Ok-read_load.form;
    gives = rw c.deref.ensures.value at c.in-Ok-read_load.ensures.ok;
    is_so = c.store_form.ensures.calls;
  });
  once = inr (record {
    text = c.in-Ok.text.items;
    read = c.in-Ok.ensures.text;
    array = given_by c.in-Ok-read_load.form;
    gives = rw c.deref.ensures.value at c.in-Ok-read_load.ensures.ok;
    is_so = c.store_form.ensures.once;
  });
}
