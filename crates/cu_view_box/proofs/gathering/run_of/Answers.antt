use Rattle.std.proofs.Common.{length, refl, arith}
use Rattle.cu_view_box.proofs.Drawn.{is_run}
use Rattle.cu_view_box.proofs.gathering.run_of.Goals as goal

pub place-requires-clause-inside : goal.place-requires-clause-inside
place-requires-clause-inside c = c.requires.part.inside c.args.part.now.lo c.requires.part.some

pub place-requires-2-clause-inside : goal.place-requires-2-clause-inside
place-requires-2-clause-inside c = c.requires.part.inside c.last_index.result c.last_index.ensures.within

pub block_place-requires-clause-within : goal.block_place-requires-clause-within
block_place-requires-clause-within c = c.requires.part.of_result c.args.part.now.lo c.requires.part.some

pub returns : goal.returns
returns c =
    is_run c.args.shape.now c.args.part.now c.args.to.now c.args.output.now c.last_index.result c.place.result c.place-2.result c.block_place.result (length c.args.output.now)
    c.requires.part c.requires.together c.requires.to_block c.last_index.ensures.within c.last_index.ensures.last c.place.ensures.place c.place-2.ensures.place c.block_place.ensures
    refl (omega arith)
