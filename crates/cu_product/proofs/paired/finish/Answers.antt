use Rattle.std.proofs.Common.{◌≡◌, ◌≢◌, ◌≤◌, ◌+◌, ◌*◌, ◌-ℤ◌, length, arith, ap, ◌∙◌, sym, subst, ⊎_elim}
use Rattle.std.proofs.lemmas.Bool.{cases_lt}
use Rattle.std.specs.Int.{w128, cast_signed, cast_unsigned}
use Rattle.cu_num.specs.Dtype.{size_of}
use Rattle.cu_num.specs.Element.{bytes_at, element_bytes, element_at}
use Rattle.cu_num.specs.Wrap.{wrapped}
use Rattle.cu_num.specs.declared.layout.Endian.TheVariants.{Little}
use Rattle.cu_num.proofs.ElementBytes.{bytes_at-written_at_same, bytes_at-written_at_other, length-written_at, length-element_bytes}
use Rattle.cu_reduce.specs.Numbers.{HasNumber}
use Rattle.cu_product.proofs.Pairs.{wrapped_minus}
use Rattle.cu_product.proofs.Parts.{kept, element_inside}
use Rattle.cu_product.proofs.Sums.{wrapped_bytes, read_number}
use Rattle.cu_product.proofs.paired.finish.Goals as goal

pub loop-at-preserved : goal.loop-at-preserved
loop-at-preserved c =
    let t = c.args.t in
    let at = c.loop-at.at in
    let out = c.loop-at.out in
    let sums = c.args.sums.now in
    let own = c.args.own.now in
    let same = c.loop-at.invariant.same_length in
    let fits : at * size_of t + size_of t ≤ length out = element_inside t at 8 (length out) (same ∙ c.requires.out) c.loop-at-test.true in
    let mine = kept c.load.result (record { sfits = c.load.type_inv }) ∙ c.load.ensures.value in
    let theirs = kept c.load-in-loop-at.result (record { sfits = c.load-in-loop-at.type_inv }) ∙ c.load-in-loop-at.ensures.value in
    let row = kept c.load-in-loop-at-2.result (record { sfits = c.load-in-loop-at-2.type_inv }) ∙ c.load-in-loop-at-2.ensures.value in
    let less : cast_signed w128 (cast_unsigned w128 c.scalar2-less.result) ≡ wrapped t (element_at Little t sums at -ℤ element_at Little t own at) =
    kept c.scalar2-less.result (record { sfits = c.scalar2-less.type_inv }) ∙ c.scalar2-less.ensures.value ∙ (λ i. wrapped t (mine i -ℤ theirs i)) in
    let left : cast_signed w128 (cast_unsigned w128 c.scalar2-left.result) ≡ wrapped t (wrapped t (element_at Little t sums at -ℤ element_at Little t own at) -ℤ element_at Little t sums 8) =
    kept c.scalar2-left.result (record { sfits = c.scalar2-left.type_inv }) ∙ c.scalar2-left.ensures.value ∙ (λ i. wrapped t (less i -ℤ row i)) in
    record {
      same_length = ap length c.save.ensures ∙ (length-written_at Little t out at _ fits ∙ same);
      done = λ j s r w b hs hr hw. ⊎_elim
          (λ before. let apart : j ≢ at = omega arith in
          ap (λ all. bytes_at t all j) c.save.ensures ∙ bytes_at-written_at_other t out _ at j apart (length-element_bytes _ t _) fits ∙ c.loop-at.invariant.done j s r w before hs hr hw)
          (λ more_or_same.
          let is : j ≡ at = omega arith in
          let vs = read_number t sums at s (subst (λ k. HasNumber t sums k s) is hs) in
          let vr = read_number t own at r (subst (λ k. HasNumber t own k r) is hr) in
          let vw = read_number t sums 8 w hw in
          subst (λ k. HasNumber t c.save.new.bytes k (s -ℤ r -ℤ w)) (sym is)
          (ap (λ all. bytes_at t all at) c.save.ensures
          ∙ bytes_at-written_at_same t out _ at (length-element_bytes _ t _) fits
          ∙ ap (element_bytes Little t) (left ∙ (λ i. wrapped t (wrapped t (vs i -ℤ vr i) -ℤ vw i)) ∙ (λ i. wrapped t (wrapped_minus t c.requires.integer s r i -ℤ wrapped t w)) ∙ wrapped_minus t c.requires.integer (s -ℤ r) w)
          ∙ wrapped_bytes t (s -ℤ r -ℤ w)))
          (cases_lt j at);
    }

pub returns : goal.returns
returns c j s r w b hs hr hw = let ends = c.loop-at-test.false in c.loop-at.invariant.done j s r w (omega arith) hs hr hw
