use Rattle.std.proofs.Common.{◌≢◌, ◌<◌, ◌≤◌, ◌+◌, ◌*◌, ◌/◌, length, arith, ap, ◌∙◌, below_more}
use Rattle.cu_num.specs.Dtype.{size_of}
use Rattle.cu_num.specs.Element.{bytes_at}
use Rattle.cu_num.proofs.ElementBytes.{bytes_at-written_at_same, bytes_at-written_at_other, length-written_at, length-element_bytes}
use Rattle.cu_codec.proofs.BoxRuns.{row_fits_in}
use Rattle.cu_codec.proofs.parts.fill_with.Goals as goal

pub loop-at-preserved : goal.loop-at-preserved
loop-at-preserved c =
    let same = c.loop-at.invariant.same_length in
    let size = c.size.ensures in
    let b : c.loop-at.at < length c.args.bytes.now / size_of c.args.t = rw (← size) (omega arith) in
    let fits : c.loop-at.at * size_of c.args.t + size_of c.args.t ≤ length c.loop-at.bytes = rw same (row_fits_in c.loop-at.at (length c.args.bytes.now) (size_of c.args.t) b) in
    record {
      same_length = ap length c.save.ensures ∙ (length-written_at _ c.args.t c.loop-at.bytes c.loop-at.at _ fits ∙ same);
      done = below_more _ _
          (λ p h. let apart : p ≢ c.loop-at.at = omega arith in
          ap (λ all. bytes_at c.args.t all p) c.save.ensures
          ∙ bytes_at-written_at_other c.args.t c.loop-at.bytes _ c.loop-at.at p apart (length-element_bytes _ c.args.t _) fits
          ∙ c.loop-at.invariant.done p h)
          (ap (λ all. bytes_at c.args.t all c.loop-at.at) c.save.ensures
          ∙ bytes_at-written_at_same c.args.t c.loop-at.bytes _ c.loop-at.at (length-element_bytes _ c.args.t _) fits);
    }
