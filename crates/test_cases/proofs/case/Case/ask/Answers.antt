use Rattle.std.proofs.Common.{map, string_bytes, ap, sym, ◌∙◌}
use Rattle.test_cases.proofs.Calm.{may_demo, may_resume, may_part}
use Rattle.test_cases.proofs.case.Case.ask.Goals as goal
use Rattle.cu_top.specs.Words.{asked_by}

pub top-requires-clause-demo_quiet : goal.top-requires-clause-demo_quiet
top-requires-clause-demo_quiet g c κs within = λ size options asked.
    may_demo (map string_bytes c.args.self.now.words.items) options size (g.D.Depot.shown c.args.depot.now) c.requires

pub top-requires-clause-left : goal.top-requires-clause-left
top-requires-clause-left g c κs within = λ options text next asked took.
    may_resume (map string_bytes c.args.self.now.words.items) options text (g.D.Depot.shown c.args.depot.now) c.requires (ap asked_by (sym c.deref.ensures.value) ∙ asked)

pub top-requires-clause-part_left : goal.top-requires-clause-part_left
top-requires-clause-part_left g c κs within = λ options tasks text next asked took.
    may_part (map string_bytes c.args.self.now.words.items) options tasks text (g.D.Depot.shown c.args.depot.now) c.requires (ap asked_by (sym c.deref.ensures.value) ∙ asked)
