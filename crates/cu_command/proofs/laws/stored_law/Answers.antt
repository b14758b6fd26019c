use Rattle.cu_meta.proofs.Accepted.{read_accepted}
use Rattle.cu_op.specs.Layout.{layout_view}
use Rattle.cu_v2.proofs.Exact.{read_storable}
use Rattle.cu_command.proofs.laws.stored_law.Goals as goal

pub returns-clause-written : goal.returns-clause-written
returns-clause-written c bytes l h =
    let storable = read_accepted bytes (layout_view l) h in
    record { axes = storable.axes; grid = storable.grid }

pub returns-clause-zarray : goal.returns-clause-zarray
returns-clause-zarray c bytes l h =
    let storable = read_storable bytes (layout_view l) h in
    record { axes = storable.axes; grid = storable.grid }
