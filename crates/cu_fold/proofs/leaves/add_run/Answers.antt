use Rattle.std.proofs.Common.{◌≡◌, ◌+◌, ◌*◌, ◌+ℤ◌, refl, sym, ap, ◌∙◌, rules, arith, to_z, of_z}
use Rattle.std.specs.Int.{w32, w128}
use Rattle.std.specs.List.{range_with_len}
use Rattle.std.proofs.lemmas.Int.{ints, to_z-of_z}
use Rattle.std.proofs.lemmas.List.FromFn.{map-range_with_len_more}
use Rattle.cu_num.specs.Element.{element_at, bytes_at, element_bytes}
use Rattle.cu_num.specs.Wrap.{wrapped}
use Rattle.cu_num.specs.declared.layout.Endian.TheVariants.{Little}
use Rattle.cu_num.specs.declared.folds.FoldKind.TheVariants.{Sum}
use Rattle.cu_num.proofs.ElementBytes.{bytes_at-written_at_other, length-element_bytes}
use Rattle.cu_reduce.specs.Folds.{exact_sum}
use Rattle.cu_take.specs.Taken.{elements_at_places}
use Rattle.cu_take.proofs.Taking.{takes_one}
use Rattle.cu_take.proofs.Sums.{sum_together}
use Rattle.cu_fold.proofs.NarrowSums.{narrow_number, sum_more}
use Rattle.cu_fold.proofs.leaves.add_run.Goals as goal

pub loop-at-preserved : goal.loop-at-preserved
loop-at-preserved c =
    let from = c.args.from in
    let input = c.args.input.now in
    let start = c.args.run.start in
    let at = c.loop-at.at in
    let x = c.load.result in
    let sum = to_z w32 c.loop-at.sum-bits in
    let small = narrow_number from x c.requires.narrow c.load.ensures.range in
    let low = c.loop-at.invariant.low in
    let high = c.loop-at.invariant.high in
    let few = c.requires.short in
    let more = c.loop-at-test.true in
    let total : to_z w32 (of_z w32 (sum +ℤ to_z w32 (of_z w32 (to_z w128 (of_z w128 x))))) ≡ sum +ℤ x = omega (arith, ints, small.0, small.1, low, high, few, more) in
    let far : 65536 * (at + 1) ≡ 65536 * at + 65536 = omega arith in
    record {
      is = total ∙ (λ i. c.loop-at.invariant.is i +ℤ c.load.ensures.value i) ∙ sym (sum_more (elements_at_places from input (range_with_len start at)) (element_at Little from input (start + at)))
          ∙ sym (ap exact_sum (map-range_with_len_more (λ p. element_at Little from input p) start at (start + at) refl));
      low = omega (arith, ints, total, small.0, low);
      high = omega (arith, ints, total, small.1, high);
    }

pub returns-clause-takes : goal.returns-clause-takes
returns-clause-takes c =
    let acc = c.args.acc in
    let xs = elements_at_places c.args.from c.args.input.now (range_with_len c.args.run.start c.args.run.count) in
    let own = to_z w128 (of_z w128 c.load-own.result) in
    let next = to_z w128 (of_z w128 c.wrap-next.result) in
    let total = to_z w128 (of_z w128 c.combine.result) in
    let end : c.loop-at.at ≡ c.args.run.count = omega arith in
    let all : to_z w32 c.loop-at.sum-bits ≡ exact_sum xs =
    c.loop-at.invariant.is ∙ ap (λ n. exact_sum (elements_at_places c.args.from c.args.input.now (range_with_len c.args.run.start n))) end in
    let same : to_z w128 (of_z w128 c.from.result) ≡ to_z w32 c.loop-at.sum-bits = omega (arith, ints, c.from.ensures) in
    sum_together acc c.args.out.now c.save.new.bytes c.args.q xs c.requires.acc
    (takes_one Sum acc acc c.args.out.now c.save.new.bytes c.args.q (exact_sum xs) own next total c.requires.acc tt c.requires.out
    (to_z-of_z w128 c.load-own.result (search rules) ∙ c.load-own.ensures.value)
    (to_z-of_z w128 c.wrap-next.result (search rules) ∙ c.wrap-next.ensures.value ∙ ap (wrapped acc) (same ∙ all))
    (to_z-of_z w128 c.combine.result (search rules) ∙ c.combine.ensures.value) c.save.ensures)

pub returns-clause-others : goal.returns-clause-others
returns-clause-others c p apart =
    let total = to_z w128 (of_z w128 c.combine.result) in
    let own = element_bytes Little c.args.acc total in
    ap (λ all. bytes_at c.args.acc all p) c.save.ensures
    ∙ bytes_at-written_at_other c.args.acc c.args.out.now own c.args.q p apart (length-element_bytes Little c.args.acc total) c.requires.out
