use Rattle.std.proofs.Common.{◌≡◌, ◌≤◌, ◌<◌, ◌∙◌, ap, length, rules, sym, arith}
use Rattle.cu_op.proofs.Listed.{listed_none, listed_own}
use Rattle.cu_op.specs.Within.{listed_number}
use Rattle.cu_top.specs.Parts.{inner_number}
use Rattle.cu_top.proofs.InnerNumbers.{inner_of, none_behind}
use Rattle.cu_top.proofs.parts.inner_number.Goals as goal
use Rattle.cu_top.proofs.parts.inner_number.Goals.{then-is_listed+else-before-number, else-is_listed}

pub returns-then-before-number : goal.returns-then-before-number
returns-then-before-number c =
    let p = c.args.plan.now in
    let k = c.loop-op.op in
    let i = c.loop-op.invariant in
    let e = c.if-before-number.true in
    let here : c.args.number ≡ listed_number p k = omega (arith, e, i) in
    let below : k < length p.ops = search rules in
    c.from.ensures ∙ sym (ap (inner_number p) here ∙ inner_of p k below (sym c.is_listed.ensures ∙ c.if-is_listed.true))

pub loop-op-preserved : goal.loop-op-preserved
loop-op-preserved c =
    let p = c.args.plan.now in
    let k = c.loop-op.op in
    let i = c.loop-op.invariant in
    elim c.if-is_listed.branch [
      | then-is_listed+else-before-number w ↦
          let n = w.before-is in
          let more = listed_own p k (sym c.is_listed.ensures ∙ w.if-is_listed.true) in
          let other = w.if-before-number.false in
          (omega (arith, i, n, more), omega (arith, i, n, other))
      | else-is_listed w ↦
          let n = w.before-is in
          let more = listed_none p k (sym c.is_listed.ensures ∙ w.if-is_listed.false) in
          (omega (arith, i, n, more), omega (arith, i, n))
    ]

pub returns : goal.returns
returns c =
    let p = c.args.plan.now in
    let i = c.loop-op.invariant in
    let all : c.loop-op.op ≡ length p.ops = search rules in
    let e : listed_number p c.loop-op.op ≡ listed_number p (length p.ops) = ap (listed_number p) all in
    ap length c.ops-2.ensures.ops ∙ sym (none_behind p c.args.number (omega (arith, i, e)))
