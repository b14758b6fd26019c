use Rattle.std.proofs.Common.{◌≡◌, ◌+◌, ◌*◌, length, inl, inr, refl, sym, subst, ap, ◌∙◌, arith, ⊎_elim}
use Rattle.std.proofs.lemmas.Bool.{cases_lt}
use Rattle.cu_num.specs.Dtype.{size_of}
use Rattle.cu_take.specs.Taken.{HasTaken, elements_at_places}
use Rattle.cu_take.proofs.Buffers.{size_positive}
use Rattle.cu_take.proofs.Taking.{takes_same}
use Rattle.cu_group.specs.Regions.{label_in, row_sources}
use Rattle.cu_group.proofs.RowPlaces.{takes_kept, block_bounds, earlier_block, block_after, row_after}
use Rattle.cu_group.proofs.blocks.take_blocks.Goals as goal

pub overflow_mul-o : goal.overflow_mul-o
overflow_mul-o c =
    let b = block_bounds c.args.sizes.outer c.args.sizes.count c.loop-o.o c.args.sizes.inner
    (size_of c.args.from) (length c.args.input.now) c.loop-o-test.true c.requires.inner
    (size_positive c.args.from) c.requires.input in
    omega (arith, b.0)

pub overflow_mul-o-in-loop-o : goal.overflow_mul-o-in-loop-o
overflow_mul-o-in-loop-o c =
    let b = block_bounds c.args.sizes.outer c.args.sizes.groups c.loop-o.o c.args.sizes.inner
    (size_of c.args.acc) (length c.args.out.now) c.loop-o-test.true c.requires.inner
    (size_positive c.args.acc) c.requires.out in
    omega (arith, b.0)

pub take_block-requires-clause-input : goal.take_block-requires-clause-input
take_block-requires-clause-input c =
    let b = block_bounds c.args.sizes.outer c.args.sizes.count c.loop-o.o c.args.sizes.inner
    (size_of c.args.from) (length c.args.input.now) c.loop-o-test.true c.requires.inner
    (size_positive c.args.from) c.requires.input in
    b.1

pub take_block-requires-clause-out : goal.take_block-requires-clause-out
take_block-requires-clause-out c =
    let b = block_bounds c.args.sizes.outer c.args.sizes.groups c.loop-o.o c.args.sizes.inner
    (size_of c.args.acc) (length c.loop-o.out) c.loop-o-test.true c.requires.inner
    (size_positive c.args.acc) (let same = c.loop-o.invariant.same_length in let all = c.requires.out in omega (arith, same, all)) in
    b.1

pub loop-o-preserved : goal.loop-o-preserved
loop-o-preserved c =
    let kind = c.args.kind in
    let from = c.args.from in
    let acc = c.args.acc in
    let input = c.args.input.now in
    let old = c.args.out.now in
    let mid = c.loop-o.out in
    let new = c.take_block.new.out in
    let o = c.loop-o.o in
    let inner = c.args.sizes.inner in
    let groups = c.args.sizes.groups in
    let count = c.args.sizes.count in
    let label = label_in c.args.label_t c.args.labels.now in
    record {
      same_length = c.take_block.auto.out ∙ c.loop-o.invariant.same_length;
      done = λ i q j h b l. ⊎_elim
          (λ less.
          takes_kept kind acc old mid new ((i * groups + q) * inner + j)
          (elements_at_places from input (row_sources label inner (i * count) count q j))
          (c.take_block.ensures.others ((i * groups + q) * inner + j) (inl
          (earlier_block o i groups q inner j less b l))) (c.loop-o.invariant.done i q j less b l))
          (λ past.
          let same : o ≡ i = omega arith in
          let at = (o * groups + q) * inner + j in
          subst (λ n. HasTaken kind acc old new ((n * groups + q) * inner + j)
          (elements_at_places from input (row_sources label inner (n * count) count q j))) same
          (takes_same kind acc old new mid new at at (elements_at_places from input
          (row_sources label inner (o * count) count q j))
          (sym (c.loop-o.invariant.left at (let low = row_after (o * groups) q inner in omega
          (arith, low)))) refl (c.take_block.ensures.takes q j b l)))
          (cases_lt i o);
      left = λ p h.
          let e : (o + 1) * groups * inner
          ≡ (o * groups + groups) * inner = ap (λ k. k * inner) (let t : (o + 1) * groups
          ≡ o * groups + groups = omega arith in t) in
          let low = block_after o groups inner in
          c.take_block.ensures.others p (inr (omega (arith, e, h)))
          ∙ c.loop-o.invariant.left p (omega (arith, e, h, low));
    }
