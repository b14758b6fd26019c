use Rattle.std.proofs.Common.{◌≡◌, ◌≢◌, ◌+◌, length, get_or, refl, ap, ◌∙◌, arith, below_more}
use Rattle.std.proofs.lemmas.List.{length-set, get_or-set_same, get_or-set_other}
use Rattle.cu_shape.proofs.Places.{inside-length}
use Rattle.cu_grid.proofs.Regions.{inside-at}
use Rattle.cu_view_box.proofs.runs.box_end.Goals as goal

pub loop-before-init : goal.loop-before-init
loop-before-init c = record { rank = refl; single = λ k b. absurd (omega arith); rest = λ k b. refl }

pub at-requires : goal.at-requires
at-requires c = let n = inside-length c.args.dims.now c.args.index.now c.requires.inside in omega arith

pub overflow_add-at : goal.overflow_add-at
overflow_add-at c =
    let i = inside-at c.args.dims.now c.args.index.now c.loop-before.before c.requires.inside (omega arith) in
    let e = c.at-size.ensures in
    let f = c.at.ensures in
    omega arith

pub loop-before-preserved : goal.loop-before-preserved
loop-before-preserved c =
    let e = c.put.ensures in
    let f = c.at.ensures in
    let r = c.loop-before.invariant.rank in
    record {
      rank = ap length e ∙ (length-set c.loop-before.end c.loop-before.before (c.at.result + 1) ∙ r);
      single = below_more (λ k. get_or c.put.new.self k 0 ≡ get_or c.args.index.now k 0 + 1) c.loop-before.before
          (λ k b. (let apart : k ≢ c.loop-before.before = omega arith in
          ap (λ xs. get_or xs k 0) e ∙ (get_or-set_other c.loop-before.end c.loop-before.before k (c.at.result + 1) 0 apart ∙ c.loop-before.invariant.single k b)))
          (ap (λ xs. get_or xs c.loop-before.before 0) e ∙ (get_or-set_same c.loop-before.end c.loop-before.before (c.at.result + 1) 0 (omega arith) ∙ ap (λ n. n + 1) f));
      rest = λ k b. (let apart : k ≢ c.loop-before.before = omega arith in
          ap (λ xs. get_or xs k 0) e ∙ (get_or-set_other c.loop-before.end c.loop-before.before k (c.at.result + 1) 0 apart ∙ c.loop-before.invariant.rest k (omega arith)));
    }

pub at-requires-2 : goal.at-requires-2
at-requires-2 c = let n = inside-length c.args.dims.now c.args.index.now c.requires.inside in omega arith
