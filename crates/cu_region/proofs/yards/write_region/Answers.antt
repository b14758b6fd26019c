use Rattle.cu_store.specs.Yard.{shown_by}
use Rattle.cu_region.proofs.Passes.{later_pass, region_seen}
use Rattle.cu_region.proofs.yards.write_region.Goals as goal

pub returns-clause-later : goal.returns-clause-later
returns-clause-later g c = later_pass g.Y.Yard.laws c.args.yard.now c.args.pass.now c.write_region_of.new.access c.requires.own c.write_region_of.ensures.open.belongs c.write_region_of.ensures.open.gets

pub returns-clause-seen : goal.returns-clause-seen
returns-clause-seen g c =
    let pass = g.Y.Yard.knows c.write_region_of.new.access in
    region_seen c.write_region_of.result c.args.info.now c.args.region.now.lo c.args.region.now.hi c.args.input.now (g.Y.Yard.serves c.args.yard.now) pass.seen (shown_by pass).held c.requires.may
    (c.write_region_of.ensures.stored (λ coord bytes meets among. absurd among)) c.write_region_of.ensures.got
