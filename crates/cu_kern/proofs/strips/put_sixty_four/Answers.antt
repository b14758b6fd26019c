use Rattle.std.proofs.Common.{◌≡◌, ◌<◌, ◌≤◌, ◌+◌, ◌-◌, ◌*◌, length, List, ℕ, ℤ, arith, sym, ap, ◌∙◌, subst}
use Rattle.cu_num.specs.Dtype.{size_of}
use Rattle.cu_num.specs.Scalar.{result_type2}
use Rattle.cu_num.specs.Element.{element_bytes}
use Rattle.cu_num.specs.declared.layout.Endian.TheVariants.{Little}
use Rattle.cu_kern.specs.declared.calls.Call.TheVariants.{Two}
use Rattle.cu_kern.specs.Strips.{strip, value_along, HasPart}
use Rattle.cu_kern.proofs.Parts.{length-put_mid}
use Rattle.cu_kern.proofs.StripResults.{part_more}
use Rattle.cu_kern.proofs.strips.put_sixty_four.Goals as goal

pub loop-quarter-preserved : goal.loop-quarter-preserved
loop-quarter-preserved c =
    let call = Two c.args.f c.args.t in
    let r = result_type2 c.args.f c.args.t in
    let along : ℕ → ℤ = value_along call (strip c.args.x.now 1) (strip c.args.y.now c.args.y_step) (strip c.args.y.now c.args.y_step) in
    let value : ℕ → ℤ = λ k. along (c.args.from + k) in
    let at = c.loop-quarter.quarter * 16 in
    let part = c.loop-quarter.part in
    let long : length part ≡ 64 = c.loop-quarter.invariant.len in
    let quarter : c.loop-quarter.quarter < 4 = c.loop-quarter-test.true in
    let fits : at + 16 ≤ length part = omega (arith, long, quarter) in
    let new = c.gather.new.part in
    let sum : (k : ℕ) → c.args.from + at + k ≡ c.args.from + (at + k) = λ k. omega arith in
    let more = part_more r value part new at 16 (at + 16 - at) (ap size_of c.requires.truth) c.gather.ensures.len fits c.loop-quarter.invariant.done
    (λ k b. c.gather.ensures.values k b ∙ ap (λ q. element_bytes Little r (along q)) (sum k)) in
    record {
      len = length-put_mid at (at + 16 - at) part new (c.gather.ensures.len ∙ omega arith) (omega (arith, fits)) ∙ long;
      done = λ k b. more k (omega (arith, b));
    }

pub returns : goal.returns
returns c =
    let call = Two c.args.f c.args.t in
    let x = strip c.args.x.now 1 in
    let y = strip c.args.y.now c.args.y_step in
    let r = result_type2 c.args.f c.args.t in
    let from = c.args.from in
    let out = c.args.out.now in
    let narrow : size_of r ≡ 1 = ap size_of c.requires.truth in
    let gathered = c.loop-quarter.part in
    let sixty_four : length gathered ≡ 64 = c.loop-quarter.invariant.len in
    let four : 4 ≤ c.loop-quarter.quarter = omega (arith, c.loop-quarter-test.false) in
    let one : (k : ℕ) → k * size_of r ≡ k = λ k. ap (λ s. k * s) narrow ∙ omega arith in
    let made : HasPart call x y y from gathered = λ k b. c.loop-quarter.invariant.done k (omega (arith, b, one k, narrow, sixty_four, four)) in
    let P : List ℕ → Type 0 = HasPart call x y y from in
    part_more r (value_along call x y y) out c.write.new.place from 64 (from + 64 - from) narrow (ap length c.write.ensures ∙ sixty_four) c.requires.room c.requires.done
    (subst P (sym c.write.ensures) made)
