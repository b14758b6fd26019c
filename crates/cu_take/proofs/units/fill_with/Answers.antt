use Rattle.std.proofs.Common.{◌≢◌, ◌≤◌, ◌+◌, ◌*◌, ◌/◌, suc, length, ap, ◌∙◌, arith, to_z, of_z, below_more, mul-le-mul_right}
use Rattle.std.specs.Int.{w128}
use Rattle.std.proofs.lemmas.Int.{to_z-of_z}
use Rattle.std.proofs.Math.Nat.{div-mul-le_self, le-div_iff_mul-le}
use Rattle.cu_num.specs.Dtype.{size_of}
use Rattle.cu_num.specs.Element.{bytes_at, element_bytes}
use Rattle.cu_num.specs.declared.layout.Endian.TheVariants.{Little}
use Rattle.cu_num.proofs.ElementBytes.{bytes_at-written_at_same, bytes_at-written_at_other, length-element_bytes, length-written_at}
use Rattle.cu_take.proofs.Buffers.{size_positive}
use Rattle.cu_take.proofs.units.fill_with.Goals as goal

pub loop-at-preserved : goal.loop-at-preserved
loop-at-preserved c =
    let acc = c.args.t in
    let s = size_of acc in
    let out = c.loop-at.out in
    let at = c.loop-at.at in
    let x = to_z w128 (of_z w128 c.args.x) in
    let bytes = length c.args.out.now in
    let far : suc at * c.size.result ≤ bytes / c.size.result * c.size.result = mul-le-mul_right c.size.result c.loop-at-test.true in
    let most = div-mul-le_self bytes c.size.result in
    let own = ap (λ k. suc at * k) c.size.ensures in
    let fits : at * s + s ≤ length out = omega (arith, far, most, own, c.loop-at.invariant.same_length) in
    let written = c.save.ensures in
    record {
      same_length = ap length written ∙ length-written_at Little acc out at x fits ∙ c.loop-at.invariant.same_length;
      done = below_more _ _
          (λ q b. let apart : q ≢ at = omega arith in
          ap (λ all. bytes_at acc all q) written ∙ bytes_at-written_at_other acc out (element_bytes Little acc x) at q apart (length-element_bytes Little acc x) fits ∙ c.loop-at.invariant.done q b)
          (ap (λ all. bytes_at acc all at) written ∙ bytes_at-written_at_same acc out (element_bytes Little acc x) at (length-element_bytes Little acc x) fits);
    }

pub returns : goal.returns
returns c q h =
    let bytes = length c.args.out.now in
    let some = size_positive c.args.t in
    let own = ap (λ k. suc q * k) c.size.ensures in
    let inside : suc q ≤ bytes / c.size.result = (le-div_iff_mul-le {k = c.size.result} {x = suc q} {y = bytes} (omega (arith, some, c.size.ensures))).1 (omega (arith, own, h)) in
    c.loop-at.invariant.done q (omega (arith, inside)) ∙ ap (element_bytes Little c.args.t) (to_z-of_z w128 c.args.x c.ranges.x)
