use Rattle.std.proofs.Common.{◌≡◌, ◌≤◌, ◌<◌, ◌+◌, ◌-◌, ◌*◌, ◌/◌, ◌%◌, ℕ, pos, length, arith, ap, subst, ◌∙◌, refl, rules, ⊎_elim}
use Rattle.std.proofs.Math.Nat.{mul-le-mul_right}
use Rattle.std.proofs.lemmas.Bool.{cases_lt}
use Rattle.std.proofs.lemmas.List.{length-take-le}
use Rattle.cu_num.specs.Dtype.{size_of}
use Rattle.cu_num.specs.Element.{element_bytes}
use Rattle.cu_num.specs.declared.layout.Endian.TheVariants.{Little}
use Rattle.cu_num.proofs.ElementBytes.{InRange-element_at}
use Rattle.cu_num.proofs.Wrapped.{wrapped_in_range}
use Rattle.cu_reduce.proofs.Folding.{zero_in_range}
use Rattle.cu_reduce.specs.Numbers.{HasNumber}
use Rattle.cu_product.specs.Matrices.{numbers, row_product}
use Rattle.cu_product.specs.Pairs.{column}
use Rattle.cu_product.proofs.Parts.{element_inside, size_most}
use Rattle.cu_product.proofs.Sums.{read_number, inner_product_same}
use Rattle.cu_product.proofs.paired.multiply_paired.Goals as goal

pub loop-done-init : goal.loop-done-init
loop-done-init c =
    let t = c.args.t in
    let inner = c.args.sizes.inner in
    let panel = c.clear.new.out in
    let most = size_most t in
    let far : inner / 2 * (18 * size_of t) ≤ 256 * (18 * size_of t) = mul-le-mul_right (18 * size_of t) (let few = c.requires.few in omega arith) in
    let is : inner / 2 * (18 * c.size.result) ≡ inner / 2 * (18 * size_of t) = ap (λ s. inner / 2 * (18 * s)) c.size.ensures in
    let long : length panel ≡ inner / 2 * (18 * size_of t) = c.clear.auto.out ∙ length-take-le (inner / 2 * (18 * c.size.result)) _ (let room : inner / 2 * (18 * c.size.result) ≤ 36864 = omega arith in search rules) ∙ is in
    let total : length panel ≡ inner / 2 * 18 * size_of t = long ∙ omega arith in
    record {
      same_length = refl;
      panel_length = long;
      own_length = search rules;
      within = omega arith;
      zeros = λ q l. c.clear.ensures (q / 2 * 18 + 16 + q % 2) (element_inside t (q / 2 * 18 + 16 + q % 2) (inner / 2 * 18) (length panel) total (let even = c.requires.even in omega arith));
      products = λ i j b d. absurd (omega arith);
    }

pub gather-requires-clause-panel : goal.gather-requires-clause-panel
gather-requires-clause-panel c = c.loop-done.invariant.panel_length

pub own_sums-requires-clause-panel : goal.own_sums-requires-clause-panel
own_sums-requires-clause-panel c = c.gather.auto.panel ∙ c.loop-done.invariant.panel_length

pub own_sums-requires-clause-out : goal.own_sums-requires-clause-out
own_sums-requires-clause-out c = c.loop-done.invariant.own_length

pub multiply_panel-requires-clause-panel : goal.multiply_panel-requires-clause-panel
multiply_panel-requires-clause-panel c = c.gather.auto.panel ∙ c.loop-done.invariant.panel_length

pub multiply_panel-requires-clause-own : goal.multiply_panel-requires-clause-own
multiply_panel-requires-clause-own c = c.own_sums.auto.out ∙ c.loop-done.invariant.own_length

pub multiply_panel-requires-clause-own_sums : goal.multiply_panel-requires-clause-own_sums
multiply_panel-requires-clause-own_sums c = c.own_sums.ensures

pub multiply_panel-requires-clause-out : goal.multiply_panel-requires-clause-out
multiply_panel-requires-clause-out c = c.loop-done.invariant.same_length ∙ c.requires.out

pub overflow_mul-buffer-2 : goal.overflow_mul-buffer-2
overflow_mul-buffer-2 c =
    let far : c.args.sizes.inner / 2 * (18 * size_of c.args.t) ≤ 256 * (18 * size_of c.args.t) = mul-le-mul_right (18 * size_of c.args.t) (let few = c.requires.few in omega arith) in
    let is : c.args.sizes.inner / 2 * (18 * c.size.result) ≡ c.args.sizes.inner / 2 * (18 * size_of c.args.t) = ap (λ s. c.args.sizes.inner / 2 * (18 * s)) c.size.ensures in
    let most = size_most c.args.t in
    omega arith

pub slice_bounds-buffer-end : goal.slice_bounds-buffer-end
slice_bounds-buffer-end c =
    let far : c.args.sizes.inner / 2 * (18 * size_of c.args.t) ≤ 256 * (18 * size_of c.args.t) = mul-le-mul_right (18 * size_of c.args.t) (let few = c.requires.few in omega arith) in
    let is : c.args.sizes.inner / 2 * (18 * c.size.result) ≡ c.args.sizes.inner / 2 * (18 * size_of c.args.t) = ap (λ s. c.args.sizes.inner / 2 * (18 * s)) c.size.ensures in
    let most = size_most c.args.t in
    omega arith

pub gather-requires-clause-fits : goal.gather-requires-clause-fits
gather-requires-clause-fits c = let least = c.min-first.ensures in let enough = c.requires.columns in omega (arith, least)

pub gather-requires-clause-right : goal.gather-requires-clause-right
gather-requires-clause-right c = c.requires.right

pub own_sums-requires-clause-some : goal.own_sums-requires-clause-some
own_sums-requires-clause-some c = let some = c.requires.some in let even = c.requires.even in omega arith

pub own_sums-requires-clause-few : goal.own_sums-requires-clause-few
own_sums-requires-clause-few c = let few = c.requires.few in omega arith

pub multiply_panel-requires-clause-fits : goal.multiply_panel-requires-clause-fits
multiply_panel-requires-clause-fits c = let least = c.min-first.ensures in let enough = c.requires.columns in omega (arith, least)

pub multiply_panel-requires-clause-left : goal.multiply_panel-requires-clause-left
multiply_panel-requires-clause-left c = c.requires.left

pub multiply_panel-requires-clause-zeros : goal.multiply_panel-requires-clause-zeros
multiply_panel-requires-clause-zeros c q l =
    let t = c.args.t in
    read_number t c.gather.new.panel (q / 2 * 18 + 16 + q % 2) (pos 0) (c.gather.ensures.others q ∙ c.loop-done.invariant.zeros q l) ∙ wrapped_in_range t (pos 0) (zero_in_range t)

pub loop-done-preserved : goal.loop-done-preserved
loop-done-preserved c =
    let t = c.args.t in
    let right = numbers t c.args.right.now in
    let inner = c.args.sizes.inner in
    let columns = c.args.sizes.columns in
    let first = c.min-first.result in
    let panel = c.gather.new.panel in
    let out = c.multiply_panel.new.out in
    let least = c.min-first.ensures in
    let enough = c.requires.columns in
    let test = c.loop-done-test.true in
    record {
      same_length = c.multiply_panel.auto.out ∙ c.loop-done.invariant.same_length;
      panel_length = c.gather.auto.panel ∙ c.loop-done.invariant.panel_length;
      own_length = c.own_sums.auto.out ∙ c.loop-done.invariant.own_length;
      within = omega (arith, least);
      zeros = λ q l. c.gather.ensures.others q ∙ c.loop-done.invariant.zeros q l;
      products = λ i j b d. ⊎_elim
          (λ less. let earlier : j < c.loop-done.done = omega (arith, least) in
          c.multiply_panel.ensures.others i j b less ∙ c.loop-done.invariant.products i j b earlier)
          (λ more.
          let k = j - first in
          let is : first + k ≡ j = omega arith in
          let small : k < 8 = omega arith in
          let left : ℕ → Rattle.std.specs.Prelude.ℤ = λ q. numbers t c.args.left.now (i * inner + q) in
          let own = column t panel k in
          let taken : (q : ℕ) → q < inner → own q ≡ right (q * columns + j) = λ q l.
          read_number t panel (q / 2 * 18 + 2 * k + q % 2) (right (q * columns + (first + k))) (c.gather.ensures.taken q k l small)
          ∙ wrapped_in_range t (right (q * columns + (first + k))) (InRange-element_at Little t c.args.right.now (q * columns + (first + k)))
          ∙ ap (λ m. right (q * columns + m)) is in
          subst (λ m. HasNumber t out (i * columns + m) (row_product inner columns left right j)) is
          (c.multiply_panel.ensures.products i k b small
          ∙ ap (element_bytes Little t) (inner_product_same left own left (λ q. right (q * columns + j)) inner (λ q l. (refl, taken q l)))))
          (cases_lt j first);
    }

pub returns : goal.returns
returns c = λ i j p q. c.loop-done.invariant.products i j p (let ends = c.loop-done-test.false in omega arith)

pub overflow_add-done : goal.overflow_add-done
overflow_add-done c = let least = c.min-first.ensures in let enough = c.requires.columns in omega (arith, least)

pub overflow_mul-buffer : goal.overflow_mul-buffer
overflow_mul-buffer c = let most = size_most c.args.t in let is = c.size.ensures in omega arith

pub overflow_mul-sums : goal.overflow_mul-sums
overflow_mul-sums c = let most = size_most c.args.t in let is = c.size-2.ensures in omega arith

pub slice_bounds-sums-end : goal.slice_bounds-sums-end
slice_bounds-sums-end c = let most = size_most c.args.t in let is = c.size-2.ensures in omega arith

pub loop-done-smaller : goal.loop-done-smaller
loop-done-smaller c = let least = c.min-first.ensures in let enough = c.requires.columns in let test = c.loop-done-test.true in omega (arith, least)

pub overflow_sub-sizes : goal.overflow_sub-sizes
overflow_sub-sizes c = c.requires.columns
