use Rattle.std.proofs.Common.{take, sym, subst, ap, ◌∙◌, arith}
use Rattle.cu_cells.specs.Cells.{FitIn}
use Rattle.cu_mem.proofs.Rooms.{fit_more, fit_last}
use Rattle.cu_mem.proofs.Sharing.{all_taken, take_more}
use Rattle.cu_mem.proofs.share.longest.Goals as goal

pub loop-at-preserved : goal.loop-at-preserved
loop-at-preserved c =
    let ss = c.args.specs.now in
    let i = c.loop-at.at in
    let s = c.index-specs-at.result in
    subst (λ xs. FitIn xs c.longer-most.result) (sym (take_more ss i s c.loop-at-test.true (sym c.index-specs-at.is)))
    (fit_last (take i ss) s c.longer-most.result (fit_more (take i ss) c.loop-at.most c.longer-most.result c.longer-most.ensures.grows c.loop-at.invariant) c.longer-most.ensures.fits)

pub returns : goal.returns
returns c = subst (λ xs. FitIn xs c.loop-at.most) (ap (λ n. take n c.args.specs.now) (omega arith) ∙ all_taken c.args.specs.now) c.loop-at.invariant
