use Rattle.std.proofs.Common.{refl, arith}
use Rattle.cu_shape.proofs.Places.{inside-positive}
use Rattle.cu_box.proofs.BoxAxes.{corner_inside, made_places, made_each, made_copied}
use Rattle.cu_box.proofs.boxes.copy_box.Goals as goal

pub returns-then-count-eq0 : goal.returns-then-count-eq0
returns-then-count-eq0 c =
    let e = c.if-count-eq0.true in
    let f = c.in-Some.ensures.count in
    record {
      copied = record {
        copied = λ i h. absurd (let some = inside-positive c.args.placing.now.sizes i h in omega arith);
        others = λ q low apart. refl;
      };
    }

pub write_axes-requires-clause-some : goal.write_axes-requires-clause-some
write_axes-requires-clause-some c = let e = c.if-count-eq0.false in let f = c.in-Some.ensures.count in omega (arith, e, f)

pub place-from-requires-clause-inside : goal.place-from-requires-clause-inside
place-from-requires-clause-inside c =
    let p = c.args.placing.now in
    corner_inside p.sizes p.from p.start c.requires.box_from (let e = c.if-count-eq0.false in let f = c.in-Some.ensures.count in omega (arith, e, f))

pub place-to-requires-clause-inside : goal.place-to-requires-clause-inside
place-to-requires-clause-inside c =
    let p = c.args.placing.now in
    corner_inside p.sizes p.to p.corner c.requires.box_to (let e = c.if-count-eq0.false in let f = c.in-Some.ensures.count in omega (arith, e, f))

pub copy_strided-requires-clause-places : goal.copy_strided-requires-clause-places
copy_strided-requires-clause-places c =
    made_places c.args.size c.args.placing.now c.args.source.now c.args.target.now c.requires.box_from c.requires.box_to c.requires.source_length c.requires.target_length
    c.write_axes.new.axes c.place-from.result c.place-to.result c.write_axes.ensures c.place-from.ensures.place c.place-to.ensures.place

pub copy_strided-requires-clause-each : goal.copy_strided-requires-clause-each
copy_strided-requires-clause-each c =
    made_each c.args.size c.args.placing.now c.args.source.now c.args.target.now c.requires.box_from c.requires.box_to c.requires.source_length c.requires.target_length
    c.write_axes.new.axes c.place-from.result c.place-to.result c.write_axes.ensures c.place-from.ensures.place c.place-to.ensures.place

pub returns : goal.returns
returns c = record {
  copied = made_copied c.args.size c.args.placing.now c.args.source.now c.args.target.now c.requires.box_from c.requires.box_to c.requires.source_length c.requires.target_length
      c.write_axes.new.axes c.place-from.result c.place-to.result c.write_axes.ensures c.place-from.ensures.place c.place-to.ensures.place
      c.args.order c.copy_strided.new.target c.copy_strided.ensures;
}
