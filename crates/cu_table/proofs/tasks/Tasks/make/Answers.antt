use Rattle.std.proofs.Common.{ℕ, [], ◌∷◌, ◌++◌, length, Bool, cond, ap, ◌∙◌, arith}
use Rattle.std.specs.Prelude.{not}
use Rattle.cu_table.proofs.Ids.{numbered_none, numbered_all, numbered_more}
use Rattle.cu_table.proofs.tasks.Tasks.make.Goals as goal

pub invariant_of-result : goal.invariant_of-result
invariant_of-result c =
    numbered_all c.args.plan c.loop-op.op c.loop-op.first.items c.loop-op.ids.items c.loop-op.invariant
    (let a = c.loop-op-test.false in let b = c.loop-op.auto.op-end in let e = ap length c.ops.ensures.ops in omega (arith, a, b, e))

pub loop-op-init : goal.loop-op-init
loop-op-init c = numbered_none c.args.plan c.new-first.result.items c.new-ids.result.items c.new-first.ensures.items c.new-ids.ensures.items

pub loop-op-preserved : goal.loop-op-preserved
loop-op-preserved c =
    numbered_more c.args.plan c.loop-op.op c.loop-op.first.items c.loop-op.ids.items c.loop-op.invariant
    (let a = c.loop-op-test.true in let e = ap length c.ops.ensures.ops in omega (arith, a, e)) c.tasks.result c.tasks.ensures.tasks c.push.new.self.items c.push_tasks.new.ids.items
    (c.push.ensures.items ∙ ap (λ (b : Bool). cond b (c.loop-op.first.items ++ c.len.result ∷ []) c.loop-op.first.items) (c.is_err.ensures.negation ∙ ap not c.if-is_err.false)
    ∙ ap (λ (n : ℕ). c.loop-op.first.items ++ n ∷ []) (let l = c.len.ensures in let k = c.loop-op.ids.ok.0 in omega (arith, l, k)))
    c.in_ok-push_tasks.ensures
