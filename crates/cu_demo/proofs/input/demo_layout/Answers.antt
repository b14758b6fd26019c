use Rattle.cu_demo.proofs.Computed.{demo_grid, grid_or_fault}
use Rattle.cu_demo.proofs.input.demo_layout.Goals as goal

pub unreachable-requires : goal.unreachable-requires
unreachable-requires c =
    grid_or_fault _ c.in-Err.field-0 (demo_grid c.args.input c.args.size c.requires.some c.requires.few) (rw (c.pair.ensures, c.demo_chunk.ensures) at c.in-Err.ensures.fault)
