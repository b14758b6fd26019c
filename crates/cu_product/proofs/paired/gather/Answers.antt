use Rattle.std.proofs.Common.{◌≡◌, ◌≢◌, ◌+◌, ◌*◌, ◌/◌, ◌%◌, arith, ◌∙◌, subst, ⊎_elim}
use Rattle.std.proofs.lemmas.Bool.{cases_lt}
use Rattle.cu_reduce.specs.Numbers.{HasNumber}
use Rattle.cu_product.specs.Matrices.{numbers}
use Rattle.cu_product.proofs.paired.gather.Goals as goal

pub loop-j-preserved : goal.loop-j-preserved
loop-j-preserved c =
    let t = c.args.t in
    let at = c.loop-j.j in
    let new = c.gather_column.new.panel in
    let test = c.loop-j-test.true in
    record {
      same_length = c.gather_column.auto.panel ∙ c.loop-j.invariant.same_length;
      done = λ q j b d. ⊎_elim
          (λ less. let apart : j ≢ at = omega arith in
          c.gather_column.ensures.others q j (omega arith) apart ∙ c.loop-j.invariant.done q j b less)
          (λ more.
          let is : at ≡ j = omega arith in
          subst (λ k. HasNumber t new (q / 2 * 18 + 2 * k + q % 2) (numbers t c.args.right.now (q * c.args.sizes.columns + (c.args.first + k)))) is (c.gather_column.ensures.taken q b))
          (cases_lt j at);
      rest = λ q. c.gather_column.ensures.others q 8 (omega arith) (let apart : 8 ≢ at = omega arith in apart) ∙ c.loop-j.invariant.rest q;
    }

pub returns : goal.returns
returns c = let test = c.loop-j-test.false in record {
  taken = λ q j b d. c.loop-j.invariant.done q j b (omega arith);
  others = c.loop-j.invariant.rest;
}
