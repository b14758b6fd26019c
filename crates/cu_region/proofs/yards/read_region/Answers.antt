use Rattle.cu_region.proofs.Passes.{later_pass}
use Rattle.cu_region.proofs.yards.read_region.Goals as goal

pub returns-clause-later : goal.returns-clause-later
returns-clause-later g c = later_pass g.Y.Yard.laws c.args.yard.now c.args.pass.now c.read_region_of.new.access c.requires.own c.read_region_of.ensures.open.belongs c.read_region_of.ensures.open.gets
