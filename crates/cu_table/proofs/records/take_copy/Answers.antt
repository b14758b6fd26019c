use Rattle.std.proofs.Common.{◌<◌, length, ap, sym, ◌∙◌, arith}
use Rattle.cu_table.specs.declared.state.RunningCopy.{RunningCopy}
use Rattle.cu_table.specs.Machine.{without}
use Rattle.cu_table.proofs.Copies.{without_first, without_none}
use Rattle.cu_table.proofs.records.take_copy.Goals as goal

pub returns-then-index-worker-clause-items : goal.returns-then-index-worker-clause-items
returns-then-index-worker-clause-items c =
    let same = ap (λ v. v.items) c.loop-at.invariant.same in
    let t = c.loop-at-test.true in
    let n = c.len-at-end.ensures in
    let m = c.args.copies.now.ok.0 in
    let s = ap length same in
    let h : c.loop-at.at < length c.loop-at.copies.items = omega (arith, t, n, m, s) in
    c.remove.ensures.items
    ∙ sym (without_first c.args.worker c.loop-at.at c.loop-at.copies.items c.index.result.now h c.loop-at.invariant.before
    (ap (λ (x : RunningCopy). x.worker) (sym c.index.ensures) ∙ c.if-index-worker.true))
    ∙ ap (without c.args.worker) same

pub returns-clause-items : goal.returns-clause-items
returns-clause-items c =
    let same = ap (λ v. v.items) c.loop-at.invariant.same in
    let t = c.loop-at-test.false in
    let n = c.len-at-end.ensures in
    let m = c.args.copies.now.ok.0 in
    let s = ap length same in
    sym (without_none c.args.worker c.loop-at.copies.items (λ k d l. c.loop-at.invariant.before k d (omega (arith, l, t, n, m, s)))) ∙ ap (without c.args.worker) same
