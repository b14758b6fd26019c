use Rattle.std.proofs.Common.{◌∙◌, ℤ, pos, ap, arith, w64, if◌then◌else◌}
use Rattle.std.specs.Ordering.{int_eq}
use Rattle.std.proofs.lemmas.Int.{to_z-of_z}
use Rattle.cu_num.specs.Element.{element_bytes}
use Rattle.cu_num.specs.declared.layout.Endian.TheVariants.{Little}
use Rattle.cu_origin.specs.Pull.{diagonal_of}
use Rattle.cu_view_box.specs.Block.{buffer_place}
use Rattle.cu_view.proofs.Eyes.{cell_of, eye_done, eye_left}
use Rattle.cu_view.proofs.OneByOne.{place_fits, block_same}
use Rattle.cu_view.proofs.ones.lay_eye.Goals as goal

pub loop-row-init : goal.loop-row-init
loop-row-init c = record {
  long = c.fill.ensures.same_length;
  done = λ idx w l. (let p = (cell_of c.args.to.now.region.lo c.args.to.now.region.hi idx c.requires.axes w).first_low in let e = c.at-row.ensures in absurd (omega arith));
  left = λ idx w l. c.fill.ensures.filled (buffer_place c.args.to.now idx) (place_fits c.args.to.now c.args.output.now idx c.requires.to_block w);
}

pub lay_one-requires-clause-to_block : goal.lay_one-requires-clause-to_block
lay_one-requires-clause-to_block c = block_same c.args.to.now c.args.output.now c.loop-row.output c.requires.to_block c.loop-row.invariant.long

pub loop-row-preserved : goal.loop-row-preserved
loop-row-preserved c = record {
  long = c.lay_one.ensures.same_length ∙ c.loop-row.invariant.long;
  done = λ idx w l. eye_done c.args.to.now c.loop-row.row _ c.loop-row.output c.lay_one.new.output idx (c.lay_one.ensures.here idx w) (c.lay_one.ensures.others idx w) (c.loop-row.invariant.done idx w) (c.loop-row.invariant.left idx w) (omega arith);
  left = λ idx w l. eye_left c.args.to.now c.loop-row.row _ c.loop-row.output c.lay_one.new.output idx (c.lay_one.ensures.others idx w) (c.loop-row.invariant.left idx w) (omega arith);
}

pub returns-clause-laid : goal.returns-clause-laid
returns-clause-laid c idx w =
    let v = cell_of c.args.to.now.region.lo c.args.to.now.region.hi idx c.requires.axes w in
    let high = v.first_high in
    let e = c.at-row-end.ensures in
    c.loop-row.invariant.done idx w (omega arith)
    ∙ ap (λ (z : ℤ). element_bytes Little c.args.to.now.dtype (if int_eq (diagonal_of idx) z then pos 1 else pos 0)) (to_z-of_z w64 c.args.k c.ranges.k)
