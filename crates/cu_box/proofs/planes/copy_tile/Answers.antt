use Rattle.std.proofs.Common.{length}
use Rattle.cu_box.proofs.StridedTiles.{can_in, can_out, tile_copied}
use Rattle.cu_box.proofs.planes.copy_tile.Goals as goal

pub copy_tile_rows-requires-clause-can : goal.copy_tile_rows-requires-clause-can
copy_tile_rows-requires-clause-can g c =
    can_in g.row.N c.args.plane.outer c.args.plane.inner c.args.plane.start c.args.source.now (length c.args.target.now) 64 (length c.args.rows.now)
    c.requires.can c.requires.few_rows c.requires.room

pub copy_groups-requires-clause-can : goal.copy_groups-requires-clause-can
copy_groups-requires-clause-can g c =
    can_out g.row.N c.args.plane.outer c.args.plane.inner c.args.plane.start c.args.source.now (length c.args.target.now) 64 (length c.args.rows.now)
    c.requires.can c.requires.few_rows c.requires.room
    _ c.copy_tile_rows.new.target c.copy_tile_rows.ensures.same_length c.copy_tile_rows.ensures

pub returns : goal.returns
returns g c =
    tile_copied g.row.N c.args.plane.outer c.args.plane.inner c.args.plane.start c.args.source.now (length c.args.target.now) 64 (length c.args.rows.now)
    c.requires.can c.requires.few_rows c.requires.room
    _ c.copy_tile_rows.new.target c.copy_tile_rows.ensures.same_length c.copy_tile_rows.ensures
    c.args.order c.args.target.now c.copy_groups.new.target c.copy_groups.ensures
