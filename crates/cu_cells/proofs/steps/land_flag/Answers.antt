use Rattle.std.proofs.Common.{arith}
use Rattle.cu_cells.proofs.Moves.{lands_flag}
use Rattle.cu_cells.proofs.steps.land_flag.Goals as goal

pub store-requires : goal.store-requires
store-requires c = (
  c.requires.seat.0,
  omega (arith, c.requires.sized, c.requires.cell),
  lands_flag c.args.words.now.key c.args.words.now.table_id.slots c.args.seat.now.id c.args.cell c.args.seat.now.me.0 c.args.seat.now.me.1 c.requires.seat.2 c.requires.cell c.requires.stored c.requires.named,
)
