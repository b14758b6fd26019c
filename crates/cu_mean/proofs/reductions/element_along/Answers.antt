use Rattle.cu_mean.proofs.reductions.element_along.Goals as goal

pub on_line-requires : goal.on_line-requires
on_line-requires c = (_, (rw c.in-Some.is at c.requires.line) c.args.place c.requires.place)
