use Rattle.std.proofs.Common.{◌+◌, ◌∙◌, ap, sym}
use Rattle.std.specs.HashSet.{contains_text}
use Rattle.cu_work.proofs.AskedTasks.{failed_asked, found_asked, known_asked}
use Rattle.cu_work.proofs.choosing.ask_input.Goals as goal

pub returns-then-contains-clause-asked : goal.returns-then-contains-clause-asked
returns-then-contains-clause-asked g c = λ start own lacks a.
    known_asked c.args.plan.now c.args.part.now (c.args.retries + 1) c.args.task c.requires.within start own lacks (contains_text c.args.known.now) (g.D.PutStore.shown c.args.depot.now) a c.args.key.now
    (ap (contains_text c.args.known.now) (sym c.text.ensures.text) ∙ sym c.contains.ensures ∙ c.if-contains.true)

pub returns-in-Ok-has_tries-clause-asked : goal.returns-in-Ok-has_tries-clause-asked
returns-in-Ok-has_tries-clause-asked g c = λ start own lacks a.
    found_asked c.args.plan.now c.args.part.now (c.args.retries + 1) c.args.task c.requires.within start own lacks (contains_text c.args.known.now) (g.D.PutStore.shown c.args.depot.now) a c.args.key.now
    c.requires.made (ap (contains_text c.args.known.now) (sym c.text.ensures.text) ∙ sym c.contains.ensures ∙ c.if-contains.false) (contains_text c.add_key.new.known) c.in-Ok.ensures
    (g.D.PutStore.shown c.has_tries.new.depot) c.has_tries.ensures.step c.has_tries.ensures.once c.in-Ok-has_tries.held c.in-Ok-has_tries.ensures.answer

pub returns-in-Err-Failed-clause-asked : goal.returns-in-Err-Failed-clause-asked
returns-in-Err-Failed-clause-asked g c = λ start own lacks a. (
  failed_asked c.args.plan.now c.args.part.now (c.args.retries + 1) c.args.task c.requires.within start own lacks (contains_text c.args.known.now) (g.D.PutStore.shown c.args.depot.now) a c.args.key.now
      c.requires.made (ap (contains_text c.args.known.now) (sym c.text.ensures.text) ∙ sym c.contains.ensures ∙ c.if-contains.false) (contains_text c.add_key.new.known) c.in-Ok.ensures
      (g.D.PutStore.shown c.has_tries.new.depot) c.has_tries.ensures.step,
  tt,
)

pub returns-in-Err-NoMemory-clause-asked : goal.returns-in-Err-NoMemory-clause-asked
returns-in-Err-NoMemory-clause-asked g c = λ start own lacks a. (
  failed_asked c.args.plan.now c.args.part.now (c.args.retries + 1) c.args.task c.requires.within start own lacks (contains_text c.args.known.now) (g.D.PutStore.shown c.args.depot.now) a c.args.key.now
      c.requires.made (ap (contains_text c.args.known.now) (sym c.text.ensures.text) ∙ sym c.contains.ensures ∙ c.if-contains.false) (contains_text c.add_key.new.known) c.in-Ok.ensures
      (g.D.PutStore.shown c.has_tries.new.depot) c.has_tries.ensures.step,
  tt,
)
