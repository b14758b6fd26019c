use Rattle.std.proofs.Common.{◌∙◌, sym, rules}
use mir.Val.{SFits}
use Rattle.std.specs.Int.{w128}
use Rattle.std.proofs.lemmas.Int.{to_z-of_z}
use Rattle.cu_mean.specs.Places.{takes_place}
use Rattle.cu_mean.proofs.BestPlaces.{taken, left}
use Rattle.cu_mean.proofs.places.best_with.Goals as goal

pub returns-then-takes_place : goal.returns-then-takes_place
returns-then-takes_place c xs is none =
    let fits : SFits w128 c.args.best.number = search rules in
    let x = to_z-of_z w128 c.args.x c.ranges.x in
    let b = to_z-of_z w128 c.args.best.number fits in
    let r = taken c.args.least c.args.x xs c.args.place c.args.best c.args.last is none
    (sym (λ i. takes_place c.args.least (x i) (b i) c.args.last) ∙ sym c.takes_place.ensures ∙ c.if-takes_place.true) in
    record { number = x ∙ r.0; place = r.1 }

pub returns-else-takes_place : goal.returns-else-takes_place
returns-else-takes_place c xs is none =
    let fits : SFits w128 c.args.best.number = search rules in
    let x = to_z-of_z w128 c.args.x c.ranges.x in
    let b = to_z-of_z w128 c.args.best.number fits in
    left c.args.least c.args.x xs c.args.place c.args.best c.args.last is none (sym (λ i. takes_place c.args.least (x i) (b i) c.args.last) ∙ sym c.takes_place.ensures ∙ c.if-takes_place.false)
