use Rattle.std.proofs.Common.{◌≡◌, ◌-◌, ℤ, IsTrue, length, get_or, refl, sym, ◌∙◌, subst, arith, inl, inr, w64}
use Rattle.std.proofs.lemmas.Bool.Decides.{eqb_tells}
use Rattle.std.proofs.lemmas.Int.{to_z-of_z}
use Rattle.cu_grid.proofs.Meeting.{within_of}
use Rattle.cu_origin.specs.Pull.{is_in_triangle}
use Rattle.cu_view_box.proofs.Boxes.{at_axis}
use Rattle.cu_view.proofs.Corners.{read_same}
use Rattle.cu_view.proofs.triangles.copy_triangle.Goals as goal

pub at-row-end-requires : goal.at-row-end-requires
at-row-end-requires c =
    let v = within_of c.args.part.now.lo c.args.part.now.hi c.args.part.now.lo c.requires.moves.some in
    let e = v.hi_rank in
    let a = c.requires.axes in
    let b = c.rank-axis.ensures.rank in
    omega arith

pub loop-row-init : goal.loop-row-init
loop-row-init c = record {
  moved = λ idx w t b.
      let same : get_or idx (c.rank-axis.result - 2) 0 ≡ get_or idx (length c.args.part.now.lo - 2) 0 = read_same idx (c.rank-axis.result - 2) (length c.args.part.now.lo - 2) (let r = c.rank-axis.ensures.rank in omega arith) in
      let d = (at_axis c.args.part.now.lo c.args.part.now.hi idx (c.rank-axis.result - 2) w (let r = c.rank-axis.ensures.rank in let a = c.requires.axes in omega arith)).0 in
      let e = c.at-row.ensures in
      absurd (omega arith);
  others = λ idx w none. refl;
}

pub loop-row-preserved : goal.loop-row-preserved
loop-row-preserved c = record {
  moved = λ idx w t b.
      let same : get_or idx (c.rank-axis.result - 2) 0 ≡ get_or idx (length c.args.part.now.lo - 2) 0 = read_same idx (c.rank-axis.result - 2) (length c.args.part.now.lo - 2) (let r = c.rank-axis.ensures.rank in omega arith) in
      elim (eqb_tells (get_or idx (length c.args.part.now.lo - 2) 0) c.loop-row.row) [
        | inl q ↦ let q1 = q.1 in c.copy_row.ensures.moved idx ((c.cut-one.ensures.exactly idx).1 (w, omega arith, omega arith)) t
        | inr q ↦
            c.copy_row.ensures.others idx (c.requires.moves.of_result idx w)
            (λ r.
            let x = (c.cut-one.ensures.exactly idx).0 r in
            let x0 = x.1 in
            let x1 = x.2 in
            absurd (q.1 (omega arith)))
            ∙ c.loop-row.invariant.moved idx w t (let n = q.1 in omega arith)
      ];
  others = λ idx o none.
      let same : get_or idx (c.rank-axis.result - 2) 0 ≡ get_or idx (length c.args.part.now.lo - 2) 0 = read_same idx (c.rank-axis.result - 2) (length c.args.part.now.lo - 2) (let r = c.rank-axis.ensures.rank in omega arith) in
      c.copy_row.ensures.others idx o
      (λ r.
      let x = (c.cut-one.ensures.exactly idx).0 r in
      let x1 = x.2 in
      none x.0 (omega arith))
      ∙ c.loop-row.invariant.others idx o (λ w b. none w (omega arith));
}

pub returns-clause-moved : goal.returns-clause-moved
returns-clause-moved c = λ idx w t.
    let same : get_or idx (c.rank-axis.result - 2) 0 ≡ get_or idx (length c.args.part.now.lo - 2) 0 = read_same idx (c.rank-axis.result - 2) (length c.args.part.now.lo - 2) (let r = c.rank-axis.ensures.rank in omega arith) in
    let d = (at_axis c.args.part.now.lo c.args.part.now.hi idx (c.rank-axis.result - 2) w (let r = c.rank-axis.ensures.rank in let a = c.requires.axes in omega arith)).1 in
    let e = c.at-row-end.ensures in
    let n = c.loop-row-test.false in
    c.loop-row.invariant.moved idx w (subst (λ (z : ℤ). IsTrue (is_in_triangle c.args.lower z idx)) (sym (to_z-of_z w64 c.args.k c.ranges.k)) t) (omega arith)
