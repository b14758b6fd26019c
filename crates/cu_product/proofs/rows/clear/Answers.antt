use Rattle.std.proofs.Common.{◌≢◌, ◌≤◌, ◌+◌, ◌*◌, length, arith, ap, ◌∙◌, pos, below_more}
use Rattle.cu_num.specs.Dtype.{size_of}
use Rattle.cu_num.specs.Element.{bytes_at, element_bytes}
use Rattle.cu_num.specs.declared.layout.Endian.TheVariants.{Little}
use Rattle.cu_num.proofs.ElementBytes.{bytes_at-written_at_same, bytes_at-written_at_other, length-written_at, length-element_bytes}
use Rattle.cu_product.proofs.Parts.{element_fits, element_within}
use Rattle.cu_product.proofs.rows.clear.Goals as goal

pub loop-at-preserved : goal.loop-at-preserved
loop-at-preserved c =
    let t = c.args.t in
    let at = c.loop-at.at in
    let out = c.loop-at.out in
    let same = c.loop-at.invariant.same_length in
    let fits : at * size_of t + size_of t ≤ length out = rw same (element_fits t at c.size.result (length c.args.out.now) c.size.ensures c.loop-at-test.true) in
    record {
      same_length = ap length c.save.ensures ∙ (length-written_at Little t out at (pos 0) fits ∙ same);
      done = below_more _ _
          (λ k b. let apart : k ≢ at = omega arith in
          ap (λ all. bytes_at t all k) c.save.ensures ∙ bytes_at-written_at_other t out (element_bytes Little t (pos 0)) at k apart (length-element_bytes Little t (pos 0)) fits ∙ c.loop-at.invariant.done k b)
          (ap (λ all. bytes_at t all at) c.save.ensures ∙ bytes_at-written_at_same t out (element_bytes Little t (pos 0)) at (length-element_bytes Little t (pos 0)) fits);
    }

pub returns : goal.returns
returns c j h =
    let ends = c.loop-at-test.false in
    let same = c.loop-at.invariant.same_length in
    let below = element_within c.args.t j c.size.result (length c.args.out.now) c.size.ensures (omega arith) in
    c.loop-at.invariant.done j (omega arith)
