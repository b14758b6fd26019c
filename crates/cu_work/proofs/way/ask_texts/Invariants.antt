use Rattle.std.proofs.Common.{◌+◌, take}
use Rattle.std.specs.Prelude.{Ok}
use Rattle.cu_work.specs.Order.{IsAsked}
use Rattle.cu_work.proofs.way.ask_texts.Given as goal

abbrev pub invariant-loop-key : goal.invariant-loop-key
invariant-loop-key g l = IsAsked (l.retries + 1) (g.D.PutStore.shown l.fn.depot) (g.D.PutStore.shown l.depot) (take l.key-index l.texts) (Ok tt)
