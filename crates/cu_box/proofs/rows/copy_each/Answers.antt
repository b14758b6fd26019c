use Rattle.std.proofs.Common.{◌≡◌, ℕ, ◌+◌, ◌*◌, ◌++◌, List, take, drop, sym, ap, ◌∙◌, subst, arith}
use Rattle.cu_box.specs.Order.{IsReordered}
use Rattle.cu_box.specs.Rows.{spaced, AreRowsCopied}
use Rattle.cu_box.proofs.PartRuns.{written_form, run_written}
use Rattle.cu_box.proofs.RowCopies.{rows_below, row_more}
use Rattle.cu_box.proofs.rows.copy_each.Goals as goal

pub loop-row-preserved : goal.loop-row-preserved
loop-row-preserved c =
    let size = c.args.size in
    let rows = c.args.rows in
    let k = c.loop-row.row in
    let before = c.loop-row.target in
    let source = c.args.source.now in
    let (run, order, written) = c.copy_run.ensures in
    let here : IsReordered c.args.order size (take (rows.run * size) (drop (spaced rows.from k * size) source)) run =
    subst (λ (n : ℕ). IsReordered c.args.order size (take n (drop (spaced rows.from k * size) source)) run) c.requires.bytes
    (subst (λ (n : ℕ). IsReordered c.args.order size (take c.args.bytes (drop (n * size) source)) run) c.place_on-first.ensures order) in
    let form : c.copy_run.new.target ≡ run_written size rows.run before (spaced rows.to k) run =
    written
    ∙ ap (λ n. take (n * size) before ++ (run ++ drop (n * size + c.args.bytes) before)) c.place_on-at.ensures
    ∙ ap (λ n. take (spaced rows.to k * size) before ++ (run ++ drop (spaced rows.to k * size + n) before)) c.requires.bytes
    ∙ written_form size rows.run (spaced rows.to k) before run in
    subst (λ (bytes : List ℕ). AreRowsCopied size c.args.order (rows_below rows (k + 1)) source c.args.target.now bytes) (sym form)
    (row_more size c.args.order rows k source c.args.target.now before run c.loop-row-test.true c.loop-row.invariant c.requires.source_fits c.requires.target_fits c.requires.apart here)

pub returns : goal.returns
returns c =
    let rows = c.args.rows in
    let last : c.loop-row.row ≡ rows.count = omega arith in
    subst (λ (n : ℕ). AreRowsCopied c.args.size c.args.order (rows_below rows n) c.args.source.now c.args.target.now c.loop-row.target) last c.loop-row.invariant
