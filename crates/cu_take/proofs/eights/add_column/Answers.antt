use Rattle.std.proofs.Common.{◌≡◌, ℕ, ◌+ℤ◌, sym, ap, ◌∙◌, rules, arith, to_z, of_z}
use Rattle.std.specs.Int.{w32, w128}
use Rattle.std.proofs.lemmas.Int.{ints, to_z-of_z}
use Rattle.cu_num.specs.Element.{bytes_at, element_bytes}
use Rattle.cu_num.specs.Wrap.{wrapped}
use Rattle.cu_num.specs.declared.layout.Endian.TheVariants.{Little}
use Rattle.cu_num.specs.declared.folds.FoldKind.TheVariants.{Sum}
use Rattle.cu_num.proofs.ElementBytes.{bytes_at-written_at_other, length-element_bytes}
use Rattle.cu_reduce.specs.Folds.{exact_sum}
use Rattle.cu_take.specs.Taken.{elements_at_places, column_places}
use Rattle.cu_take.proofs.Taking.{takes_one}
use Rattle.cu_take.proofs.RowSteps.{short_range, column_sum}
use Rattle.cu_take.proofs.Sums.{sum_together}
use Rattle.cu_take.proofs.eights.add_column.Goals as goal

pub loop-k-preserved : goal.loop-k-preserved
loop-k-preserved c =
    let x = c.load.result in
    let k = c.loop-k.k in
    let sum = to_z w32 c.loop-k.sum-bits in
    let small = short_range c.args.from x c.requires.size c.load.ensures.range in
    let low = c.loop-k.invariant.low in
    let high = c.loop-k.invariant.high in
    let more = c.loop-k-test.true in
    let total : to_z w32 (of_z w32 (sum +ℤ to_z w32 (of_z w32 (to_z w128 (of_z w128 x))))) ≡ sum +ℤ x =
    omega (arith, ints, small.0, small.1, low, high, more) in
    record {
      is = total ∙ (λ i. c.loop-k.invariant.is i +ℤ c.load.ensures.value i)
          ∙ sym (column_sum c.args.from c.args.input.now c.args.place c.args.step k c.args.j);
      low = omega (arith, ints, total, small.0, low);
      high = omega (arith, ints, total, small.1, high);
    }

pub returns-clause-takes : goal.returns-clause-takes
returns-clause-takes c =
    let acc = c.args.acc in
    let xs : ℕ → _ = λ n. elements_at_places c.args.from c.args.input.now
    (column_places c.args.place c.args.step n c.args.j) in
    let own = to_z w128 (of_z w128 c.load-own.result) in
    let next = to_z w128 (of_z w128 c.wrap-next.result) in
    let total = to_z w128 (of_z w128 c.combine.result) in
    let end : c.loop-k.k ≡ 8 = omega arith in
    let all : to_z w32 c.loop-k.sum-bits ≡ exact_sum (xs 8) =
    c.loop-k.invariant.is ∙ ap (λ n. exact_sum (xs n)) end in
    let same : to_z w128 (of_z w128 c.from.result) ≡ to_z w32 c.loop-k.sum-bits = omega (arith, ints, c.from.ensures) in
    sum_together acc c.args.out.now c.save.new.bytes c.args.q (xs 8) c.requires.acc
    (takes_one Sum acc acc c.args.out.now c.save.new.bytes c.args.q (exact_sum (xs 8)) own next total c.requires.acc tt c.requires.out
    (to_z-of_z w128 c.load-own.result (search rules) ∙ c.load-own.ensures.value)
    (to_z-of_z w128 c.wrap-next.result (search rules) ∙ c.wrap-next.ensures.value ∙ ap (wrapped acc) (same ∙ all))
    (to_z-of_z w128 c.combine.result (search rules) ∙ c.combine.ensures.value) c.save.ensures)

pub returns-clause-others : goal.returns-clause-others
returns-clause-others c p apart =
    let total = to_z w128 (of_z w128 c.combine.result) in
    let own = element_bytes Little c.args.acc total in
    ap (λ all. bytes_at c.args.acc all p) c.save.ensures
    ∙ bytes_at-written_at_other c.args.acc c.args.out.now own c.args.q p apart
    (length-element_bytes Little c.args.acc total) c.requires.out
