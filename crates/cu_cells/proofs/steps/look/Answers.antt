use Rattle.std.proofs.Common.{arith}
use Rattle.atomic_table.specs.Table.{step}
use Rattle.cu_cells.proofs.Moves.{looks, looked}
use Rattle.cu_cells.proofs.steps.look.Goals as goal

pub load-requires : goal.load-requires
load-requires c = (
  c.requires.seat.0,
  omega (arith, c.requires.sized, c.requires.cell),
  looks c.args.words.now.key c.args.words.now.table_id.slots c.args.seat.now.id c.args.cell c.args.seat.now.me.0 c.args.seat.now.me.1 c.requires.seat.2 c.requires.laid c.requires.cell,
)

pub returns-clause-knows : goal.returns-clause-knows
returns-clause-knows c = looked (step c.args.words.now.table_id.slots c.args.cell 0 0 mathlib.Core.Option.none) c.args.seat.now.me c.load.new.seat.me c.load.result c.load.ensures.2
