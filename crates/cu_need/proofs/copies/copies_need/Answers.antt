use Rattle.std.proofs.Common.{◌+◌, drop, map, max, ap, ◌∙◌}
use Rattle.cu_shape.specs.Counts.{largest}
use Rattle.cu_copy.specs.Copies.{rechunk_need}
use Rattle.cu_need.proofs.LoopSteps.{more_most, all_most}
use Rattle.cu_need.proofs.copies.copies_need.Goals as goal

pub loop-rechunk-preserved : goal.loop-rechunk-preserved
loop-rechunk-preserved c =
    let f = rechunk_need c.args.reserved in
    let copies = c.args.copies.now in
    let i = c.loop-rechunk.rechunk-index in
    ap (λ n. max n (largest (map f (drop (i + 1) copies)))) (c.max-most.ensures ∙ ap (λ n. max n c.loop-rechunk.most) (c.rechunk_need.ensures ∙ ap f c.rechunk-item.is))
    ∙ more_most f copies i c.rechunk-item.result c.loop-rechunk.most (largest (map f copies)) c.loop-rechunk-test.true c.loop-rechunk.invariant

pub returns : goal.returns
returns c = all_most (rechunk_need c.args.reserved) c.args.copies.now c.loop-rechunk.rechunk-index c.loop-rechunk.most (largest (map (rechunk_need c.args.reserved) c.args.copies.now)) c.loop-rechunk-test.false c.loop-rechunk.invariant
