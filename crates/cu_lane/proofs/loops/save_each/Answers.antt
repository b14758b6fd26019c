use Rattle.std.proofs.Common.{◌≡◌, ◌≢◌, ◌≤◌, ◌+◌, ◌*◌, suc, length, arith, ap, ◌∙◌, below_more, ℤ, get_or}
use Rattle.std.proofs.Math.Nat.{mul-le-mul_right}
use Rattle.cu_num.specs.Dtype.{size_of}
use Rattle.cu_num.specs.Element.{bytes_at, element_bytes}
use Rattle.cu_num.specs.Word.{IsWord}
use Rattle.cu_num.specs.declared.layout.Endian.TheVariants.{Little}
use Rattle.cu_num.proofs.ElementBytes.{bytes_at-written_at_same, bytes_at-written_at_other, length-written_at, length-element_bytes}
use Rattle.cu_num.proofs.WordNumbers.{number_of-IsWord}
use Rattle.cu_lane.proofs.Words.{kept}
use Rattle.cu_lane.proofs.loops.save_each.Goals as goal

pub loop-at-preserved : goal.loop-at-preserved
loop-at-preserved c =
    let t = c.args.t in
    let at = c.loop-at.at in
    let same = c.loop-at.invariant.same_length in
    let far : suc at * size_of t ≤ length c.args.x.now * size_of t = mul-le-mul_right (size_of t) (let b : suc at ≤ length c.args.x.now = omega arith in b) in
    let fits : at * size_of t + size_of t ≤ length c.loop-at.out = omega arith in
    record {
      same_length = ap length c.save.ensures ∙ (length-written_at _ t c.loop-at.out at _ fits ∙ same);
      done = below_more (λ k. (x : ℤ) → IsWord t (get_or c.args.x.now k 0) x → bytes_at t _ k ≡ element_bytes Little t x) at
          (λ k b x h. let apart : k ≢ at = omega arith in
          ap (λ all. bytes_at t all k) c.save.ensures
          ∙ bytes_at-written_at_other t c.loop-at.out _ at k apart (length-element_bytes _ t _) fits
          ∙ c.loop-at.invariant.done k b x h)
          (λ x h. ap (λ all. bytes_at t all at) c.save.ensures
          ∙ bytes_at-written_at_same t c.loop-at.out _ at (length-element_bytes _ t _) fits
          ∙ ap (element_bytes Little t) (kept c.number.result (record { sfits = c.number.type_inv }) ∙ c.number.ensures.value ∙ number_of-IsWord t (get_or c.args.x.now at 0) x h));
    }
