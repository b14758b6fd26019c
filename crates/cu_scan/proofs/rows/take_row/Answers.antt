use Rattle.std.proofs.Common.{◌≡◌, ◌≢◌, ◌+ℤ◌, ap, ◌∙◌, arith, below_more, rules, to_z, of_z}
use Rattle.std.specs.Int.{w128}
use Rattle.std.proofs.lemmas.Int.{to_z-of_z}
use Rattle.cu_num.specs.Element.{element_at, element_bytes}
use Rattle.cu_num.specs.declared.layout.Endian.TheVariants.{Little}
use Rattle.cu_num.proofs.ElementBytes.{element_at_same}
use Rattle.cu_scan.proofs.rows.take_row.Goals as goal

pub loop-at-preserved : goal.loop-at-preserved
loop-at-preserved c =
    let acc = c.args.acc in
    let at = c.loop-at.at in
    let y = element_at Little c.args.t c.args.input.now at in
    let inv = c.loop-at.invariant in
    let own : to_z w128 (of_z w128 c.load-own.result) ≡ element_at Little acc c.args.out.now at =
    to_z-of_z w128 c.load-own.result (search rules) ∙ c.load-own.ensures.value
    ∙ element_at_same Little acc c.loop-at.out c.args.out.now at at (inv.left at
    (omega arith)) in
    record {
      same_length = c.put_sum.ensures.same_length ∙ inv.same_length;
      done = below_more _ _
          (λ q b. let apart : q ≢ at = omega arith in c.put_sum.ensures.others q apart
          ∙ inv.done q b)
          (c.put_sum.ensures.number ∙ ap (λ z. element_bytes Little acc (z +ℤ y)) own);
      left = λ q b. let apart : q ≢ at = omega arith in c.put_sum.ensures.others q apart
          ∙ inv.left q (omega arith);
    }
