use Rattle.std.proofs.Common.{◌∙◌, sym, ap, length}
use Rattle.cu_shape.proofs.Places.{inside-length}
use Rattle.cu_grid.proofs.Regions.{coordinate-length}
use Rattle.cu_grid.proofs.ChunkIndices.{small_index}
use Rattle.cu_grid.proofs.grid.Grid.index_in_chunk.Goals as goal

pub index_from-requires-clause-coord_rank : goal.index_from-requires-clause-coord_rank
index_from-requires-clause-coord_rank c =
    coordinate-length c.args.self.now c.args.coord.now c.chunk.ensures.kept c.requires.coordinate ∙ (sym c.chunk.ensures.kept.ranks ∙ ap length (sym c.chunk.ensures.value))

pub index_from-requires-clause-inner_rank : goal.index_from-requires-clause-inner_rank
index_from-requires-clause-inner_rank c =
    inside-length c.chunk-2.result.now c.index_of.result c.index_of.ensures.inside ∙ ap length (c.chunk-2.ensures.value ∙ sym c.chunk.ensures.value)

pub index_from-requires-clause-small : goal.index_from-requires-clause-small
index_from-requires-clause-small c =
    rw c.chunk.ensures.value (small_index c.args.self.now c.args.coord.now c.index_of.result c.chunk.ensures.kept c.requires.coordinate (rw (← c.chunk-2.ensures.value) c.index_of.ensures.inside))
