use Rattle.std.proofs.Common.{◌≡◌, ◌≢◌, ◌≤◌, ◌+◌, ◌*◌, ◌+ℤ◌, ◌*ℤ◌, length, arith, ap, ◌∙◌, sym, subst, ⊎_elim}
use Rattle.std.proofs.lemmas.Bool.{cases_lt}
use Rattle.std.specs.Int.{w128, cast_signed, cast_unsigned}
use Rattle.cu_num.specs.Dtype.{size_of}
use Rattle.cu_num.specs.Element.{bytes_at, element_bytes, element_at}
use Rattle.cu_num.specs.Wrap.{wrapped}
use Rattle.cu_num.specs.declared.layout.Endian.TheVariants.{Little}
use Rattle.cu_num.proofs.Wrapped.{wrapped-add}
use Rattle.cu_num.proofs.ElementBytes.{bytes_at-written_at_same, bytes_at-written_at_other, length-written_at, length-element_bytes}
use Rattle.cu_reduce.specs.Numbers.{HasNumber}
use Rattle.cu_product.specs.Matrices.{numbers}
use Rattle.cu_product.proofs.Pairs.{wrapped_factors}
use Rattle.cu_product.proofs.Parts.{kept, element_inside}
use Rattle.cu_product.proofs.Sums.{wrapped_bytes, read_number}
use Rattle.cu_product.proofs.paired.add_pairs.Goals as goal

pub load-requires : goal.load-requires
load-requires c = element_inside c.args.t (2 * c.loop-at.at + 1) 18 (length c.args.pair.now) c.requires.pair (let test = c.loop-at-test.true in omega arith)

pub load-requires-in-loop-at : goal.load-requires-in-loop-at
load-requires-in-loop-at c = element_inside c.args.t (2 * c.loop-at.at) 18 (length c.args.pair.now) c.requires.pair (let test = c.loop-at-test.true in omega arith)

pub load-requires-in-loop-at-2 : goal.load-requires-in-loop-at-2
load-requires-in-loop-at-2 c = element_inside c.args.t c.loop-at.at 9 (length c.loop-at.out) (c.loop-at.invariant.same_length ∙ c.requires.out) c.loop-at-test.true

pub save-requires : goal.save-requires
save-requires c = element_inside c.args.t c.loop-at.at 9 (length c.loop-at.out) (c.loop-at.invariant.same_length ∙ c.requires.out) c.loop-at-test.true

pub loop-at-preserved : goal.loop-at-preserved
loop-at-preserved c =
    let t = c.args.t in
    let x = cast_signed w128 (cast_unsigned w128 c.args.x) in
    let y = cast_signed w128 (cast_unsigned w128 c.args.y) in
    let at = c.loop-at.at in
    let out = c.loop-at.out in
    let d = numbers t c.args.pair.now (2 * at + 1) in
    let e = numbers t c.args.pair.now (2 * at) in
    let same = c.loop-at.invariant.same_length in
    let fits : at * size_of t + size_of t ≤ length out = element_inside t at 9 (length out) (same ∙ c.requires.out) c.loop-at-test.true in
    let second = kept c.load.result (record { sfits = c.load.type_inv }) ∙ c.load.ensures.value in
    let one : cast_signed w128 (cast_unsigned w128 c.scalar2-one.result) ≡ wrapped t (x +ℤ d) =
    kept c.scalar2-one.result (record { sfits = c.scalar2-one.type_inv }) ∙ c.scalar2-one.ensures.value ∙ ap (λ z. wrapped t (x +ℤ z)) second in
    let first = kept c.load-in-loop-at.result (record { sfits = c.load-in-loop-at.type_inv }) ∙ c.load-in-loop-at.ensures.value in
    let other : cast_signed w128 (cast_unsigned w128 c.scalar2-other.result) ≡ wrapped t (y +ℤ e) =
    kept c.scalar2-other.result (record { sfits = c.scalar2-other.type_inv }) ∙ c.scalar2-other.ensures.value ∙ ap (λ z. wrapped t (y +ℤ z)) first in
    let more : cast_signed w128 (cast_unsigned w128 c.scalar2-more.result) ≡ wrapped t ((x +ℤ d) *ℤ (y +ℤ e)) =
    kept c.scalar2-more.result (record { sfits = c.scalar2-more.type_inv }) ∙ c.scalar2-more.ensures.value ∙ (λ i. wrapped t (one i *ℤ other i)) ∙ wrapped_factors t (x +ℤ d) (y +ℤ e) in
    let before : cast_signed w128 (cast_unsigned w128 c.load-in-loop-at-2.result) ≡ element_at Little t out at = kept c.load-in-loop-at-2.result (record { sfits = c.load-in-loop-at-2.type_inv }) ∙ c.load-in-loop-at-2.ensures.value in
    let sum : cast_signed w128 (cast_unsigned w128 c.scalar2-sum.result) ≡ wrapped t (element_at Little t out at +ℤ wrapped t ((x +ℤ d) *ℤ (y +ℤ e))) =
    kept c.scalar2-sum.result (record { sfits = c.scalar2-sum.type_inv }) ∙ c.scalar2-sum.ensures.value ∙ (λ i. wrapped t (before i +ℤ more i)) in
    record {
      same_length = ap length c.save.ensures ∙ (length-written_at Little t out at _ fits ∙ same);
      done = λ j s b h. ⊎_elim
          (λ less. let apart : j ≢ at = omega arith in
          ap (λ all. bytes_at t all j) c.save.ensures ∙ bytes_at-written_at_other t out _ at j apart (length-element_bytes _ t _) fits ∙ c.loop-at.invariant.done j s less h)
          (λ more_or_same.
          let is : j ≡ at = omega arith in
          let old = read_number t out at s (c.loop-at.invariant.rest at (omega arith) ∙ subst (λ k. HasNumber t c.args.out.now k s) is h) in
          subst (λ k. HasNumber t c.save.new.bytes k (s +ℤ (x +ℤ numbers t c.args.pair.now (2 * k + 1)) *ℤ (y +ℤ numbers t c.args.pair.now (2 * k)))) (sym is)
          (ap (λ all. bytes_at t all at) c.save.ensures
          ∙ bytes_at-written_at_same t out _ at (length-element_bytes _ t _) fits
          ∙ ap (element_bytes Little t) (sum ∙ ap (λ z. wrapped t (z +ℤ wrapped t ((x +ℤ d) *ℤ (y +ℤ e)))) old ∙ sym (wrapped-add t s ((x +ℤ d) *ℤ (y +ℤ e)) c.requires.integer))
          ∙ wrapped_bytes t (s +ℤ (x +ℤ d) *ℤ (y +ℤ e))))
          (cases_lt j at);
      rest = λ j b. let apart : j ≢ at = omega arith in
          ap (λ all. bytes_at t all j) c.save.ensures ∙ bytes_at-written_at_other t out _ at j apart (length-element_bytes _ t _) fits ∙ c.loop-at.invariant.rest j (omega arith);
    }

pub returns : goal.returns
returns c j s b h =
    let ends = c.loop-at-test.false in
    (λ i. let v = numbers c.args.t c.args.pair.now (2 * j + 1) in let w = numbers c.args.t c.args.pair.now (2 * j) in c.loop-at.invariant.done j s (omega arith) h i)
    ∙ (λ i. element_bytes Little c.args.t (s +ℤ (kept c.args.x c.ranges.x i +ℤ numbers c.args.t c.args.pair.now (2 * j + 1)) *ℤ (kept c.args.y c.ranges.y i +ℤ numbers c.args.t c.args.pair.now (2 * j))))
