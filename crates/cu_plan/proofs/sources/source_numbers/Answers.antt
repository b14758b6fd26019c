use Rattle.std.proofs.Common.{◌∷◌, [], ◌++◌, ◌∙◌, ℕ, ap, map, sym}
use Rattle.cu_op.specs.Within.{listed_number}
use Rattle.cu_plan.specs.Listed.{waits_for}
use Rattle.cu_plan.proofs.Listing.{made_same, numbers_more}
use Rattle.cu_plan.proofs.sources.source_numbers.Goals as goal
use Rattle.cu_plan.proofs.sources.source_numbers.Goals.{then-waits_for+in_ok-push, else-waits_for}

pub loop-other-preserved : goal.loop-other-preserved
loop-other-preserved c =
    let p = c.args.plan.now in
    let test = waits_for p c.args.op in
    let so_far = c.loop-other.numbers.items in
    elim c.if-waits_for.branch [
      | then-waits_for+in_ok-push w ↦
          rw w.numbers-is (numbers_more (listed_number p) test c.loop-other.other so_far w.push.new.self.items c.loop-other.invariant (sym c.waits_for.ensures ∙ w.if-waits_for.true)
          (w.in_ok-push.ensures.items ∙ ap (λ (n : ℕ). so_far ++ n ∷ []) w.listed_number.ensures))
      | else-waits_for w ↦ rw w.numbers-is (made_same (map (listed_number p)) test c.loop-other.other so_far c.loop-other.invariant (sym c.waits_for.ensures ∙ w.if-waits_for.false))
    ]
