use Rattle.std.proofs.Common.{◌≢◌, ◌≤◌, ◌+◌, ◌*◌, suc, pos, length, ap, ◌∙◌, arith, below_more, mul-le-mul_right}
use Rattle.cu_num.specs.Dtype.{size_of}
use Rattle.cu_num.specs.Element.{bytes_at, element_bytes}
use Rattle.cu_num.specs.declared.layout.Endian.TheVariants.{Little}
use Rattle.cu_num.proofs.ElementBytes.{bytes_at-written_at_same, bytes_at-written_at_other, length-element_bytes, length-written_at}
use Rattle.cu_scan.proofs.rows.zero_row.Goals as goal

pub loop-at-preserved : goal.loop-at-preserved
loop-at-preserved c =
    let acc = c.args.acc in
    let s = size_of acc in
    let out = c.loop-at.out in
    let at = c.loop-at.at in
    let far : suc at * s ≤ c.args.count * s = mul-le-mul_right s c.loop-at-test.true in
    let fits : at * s + s ≤ length out = omega
    (arith, far, c.requires.out, c.loop-at.invariant.same_length) in
    record {
      same_length = ap length c.save.ensures ∙ length-written_at Little acc out at (pos 0) fits
          ∙ c.loop-at.invariant.same_length;
      done = below_more _ _
          (λ q b. let apart : q ≢ at = omega arith in
          ap (λ all. bytes_at acc all q) c.save.ensures
          ∙ bytes_at-written_at_other acc out (element_bytes Little acc (pos 0)) at q apart
          (length-element_bytes Little acc (pos 0)) fits ∙ c.loop-at.invariant.done q b)
          (ap (λ all. bytes_at acc all at) c.save.ensures
          ∙ bytes_at-written_at_same acc out (element_bytes Little acc (pos 0)) at
          (length-element_bytes Little acc (pos 0)) fits);
    }
