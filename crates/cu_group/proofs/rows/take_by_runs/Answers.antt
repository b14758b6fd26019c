use Rattle.std.proofs.Common.{◌≡◌, ◌+◌, ◌-◌, ◌*◌, ◌<◌, ◌≤◌, ℕ, ℤ, length, refl, sym, subst, ap, ◌∙◌, arith, ⊎_elim}
use Rattle.std.specs.Prelude.{◌==◌}
use Rattle.std.specs.Int.{w128}
use Rattle.std.proofs.lemmas.Int.{to_z-of_z}
use Rattle.cu_num.specs.Dtype.{size_of}
use Rattle.cu_take.specs.Taken.{HasTaken, elements_at_places, column_places}
use Rattle.cu_take.proofs.Buffers.{size_positive}
use Rattle.cu_reduce.specs.Labels.{is_label}
use Rattle.cu_group.specs.Regions.{label_in, row_sources}
use Rattle.cu_group.proofs.RowPlaces.{takes_run, takes_no_run, other_row, outside_rows, same_test, apart_test, same_or_apart, row_bounds, run_bounds}
use Rattle.cu_group.proofs.rows.take_by_runs.Goals as goal

-- the rows of a run have the group of its first
run_group : {own : ℤ} (label : ℕ → ℤ) (k end groups row : ℕ)
    → ((i : ℕ) → k ≤ i → i < end → label i ≡ label k) → own ≡ label k
    → ((q : ℕ) → q < groups → is_label q own ≡ (q == row))
    → (q : ℕ) → q < groups → (i : ℕ) → k ≤ i → i < end → is_label q (label i) ≡ (q == row)
run_group label k end groups row same first own q b i l h =
    ap (is_label q) (same i l h ∙ sym first) ∙ own q b

pub overflow_add-base : goal.overflow_add-base
overflow_add-base c =
    let b = row_bounds c.args.base c.args.sizes.groups c.group_of-row.result c.args.sizes.inner
    (size_of c.args.acc) (length c.args.out.now) c.if-row-sizes.true c.requires.inner
    (size_positive c.args.acc) c.requires.out in
    omega (arith, b.0)

pub overflow_mul-base : goal.overflow_mul-base
overflow_mul-base c =
    let b = row_bounds c.args.base c.args.sizes.groups c.group_of-row.result c.args.sizes.inner
    (size_of c.args.acc) (length c.args.out.now) c.if-row-sizes.true c.requires.inner
    (size_positive c.args.acc) c.requires.out in
    omega (arith, b.1)

pub take_rows-requires-clause-input : goal.take_rows-requires-clause-input
take_rows-requires-clause-input c =
    run_bounds c.args.first c.args.sizes.count c.loop-k.k (c.end_of_run-end.result - c.loop-k.k)
    c.args.sizes.inner (size_of c.args.from) (length c.args.input.now)
    (let some = c.end_of_run-end.ensures.some in let within = c.end_of_run-end.ensures.within in
    omega (arith, some, within)) c.requires.input

pub take_rows-requires-clause-out : goal.take_rows-requires-clause-out
take_rows-requires-clause-out c =
    let b = row_bounds c.args.base c.args.sizes.groups c.group_of-row.result c.args.sizes.inner
    (size_of c.args.acc) (length c.loop-k.out) c.if-row-sizes.true c.requires.inner
    (size_positive c.args.acc)
    (let same = c.loop-k.invariant.same_length in let all = c.requires.out in omega
    (arith, same, all)) in
    b.2

pub loop-k-preserved-then-row-sizes : goal.loop-k-preserved-then-row-sizes
loop-k-preserved-then-row-sizes c =
    let kind = c.args.kind in
    let from = c.args.from in
    let acc = c.args.acc in
    let input = c.args.input.now in
    let old = c.args.out.now in
    let mid = c.loop-k.out in
    let k = c.loop-k.k in
    let end = c.end_of_run-end.result in
    let run = c.end_of_run-end.ensures in
    let inner = c.args.sizes.inner in
    let base = c.args.base in
    let first = c.args.first in
    let row = c.group_of-row.result in
    let label = label_in c.args.label_t c.args.labels.now in
    let whole : k + (end - k) ≡ end = let some = run.some in omega (arith, some) in
    let own = run_group label k end c.args.sizes.groups row run.same
    (to_z-of_z w128 c.load.result (record { sfits = c.load.type_inv }) ∙ c.load.ensures.value)
    c.group_of-row.ensures.own in
    let new = c.take_rows.new.out in
    record {
      same_length = c.take_rows.auto.out ∙ c.loop-k.invariant.same_length;
      within = run.within;
      done = λ q j b l. ⊎_elim
          (λ e.
          takes_run kind from acc input old mid new label inner first k (end - k) end q j
          ((base + q) * inner + j) whole (λ i u h. own q b i u h ∙ same_test q row e)
          (c.loop-k.invariant.done q j b l)
          (subst (λ r. HasTaken kind acc mid new ((base + r) * inner + j)
          (elements_at_places from input (column_places ((first + k) * inner) inner (end - k) j)))
          (sym e) (c.take_rows.ensures.takes j l)))
          (λ no.
          takes_no_run kind from acc input old mid new label inner first k (end - k) end q j
          ((base + q) * inner + j) whole (λ i u h. own q b i u h ∙ apart_test q row no)
          (c.loop-k.invariant.done q j b l)
          (c.take_rows.ensures.others ((base + q) * inner + j) (other_row base q row inner j no l)))
          (same_or_apart q row);
      left = λ p o. c.take_rows.ensures.others p
          (outside_rows base c.args.sizes.groups row inner p c.if-row-sizes.true o)
          ∙ c.loop-k.invariant.left p o;
    }

pub loop-k-preserved : goal.loop-k-preserved
loop-k-preserved c =
    let kind = c.args.kind in
    let from = c.args.from in
    let acc = c.args.acc in
    let input = c.args.input.now in
    let old = c.args.out.now in
    let mid = c.loop-k.out in
    let k = c.loop-k.k in
    let end = c.end_of_run-end.result in
    let run = c.end_of_run-end.ensures in
    let inner = c.args.sizes.inner in
    let base = c.args.base in
    let first = c.args.first in
    let row = c.group_of-row.result in
    let label = label_in c.args.label_t c.args.labels.now in
    let whole : k + (end - k) ≡ end = let some = run.some in omega (arith, some) in
    let own = run_group label k end c.args.sizes.groups row run.same
    (to_z-of_z w128 c.load.result (record { sfits = c.load.type_inv }) ∙ c.load.ensures.value)
    c.group_of-row.ensures.own in
    record {
      same_length = c.loop-k.invariant.same_length;
      within = run.within;
      done = λ q j b l.
          takes_no_run kind from acc input old mid mid label inner first k (end - k) end q j
          ((base + q) * inner + j) whole (λ i u h. own q b i u h ∙ apart_test q row
          (λ e. let no = c.if-row-sizes.false in omega (arith, e, no, b)))
          (c.loop-k.invariant.done q j b l) refl;
      left = c.loop-k.invariant.left;
    }

pub returns-clause-takes : goal.returns-clause-takes
returns-clause-takes c q j b l =
    let all : c.loop-k.k ≡ c.args.sizes.count = omega arith in
    subst (λ m. HasTaken c.args.kind c.args.acc c.args.out.now c.loop-k.out
    ((c.args.base + q) * c.args.sizes.inner + j)
    (elements_at_places c.args.from c.args.input.now (row_sources
    (label_in c.args.label_t c.args.labels.now) c.args.sizes.inner c.args.first m q j))) all
    (c.loop-k.invariant.done q j b l)
