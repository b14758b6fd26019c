use Rattle.std.proofs.Common.{◌≡◌, ℕ, ◌+◌, ◌<◌, Bool, false, List, [], ◌∷◌, ◌++◌, cond, length, get_or, map, take, ap, sym, ◌∙◌}
use Rattle.std.specs.Prelude.{not}
use Rattle.std.proofs.lemmas.List.{map_more, take_all}
use Rattle.cu_table.specs.declared.state.TaskState.{TaskState}
use Rattle.cu_table.specs.Machine.{opened}
use Rattle.cu_table.proofs.open.opened_tasks.Goals as goal

-- one task more, where there was memory for it
more : (done : List Bool) (k : ℕ) (old new : List TaskState) (s : TaskState) (ok failed : Bool) → k < length done → old ≡ map opened (take k done) → s ≡ opened (get_or done k false)
    → new ≡ cond ok (old ++ s ∷ []) old → ok ≡ not failed → failed ≡ false → new ≡ map opened (take (k + 1) done)
more done k old new s ok failed within so_far is added negation fails =
    added ∙ ap (λ (b : Bool). cond b (old ++ s ∷ []) old) (negation ∙ ap not fails) ∙ ap (λ (xs : List TaskState). xs ++ s ∷ []) so_far ∙ ap (λ (x : TaskState). map opened (take k done) ++ x ∷ []) is
    ∙ sym (map_more opened done k false within)

pub loop-is_done-init : goal.loop-is_done-init
loop-is_done-init c = c.new-states.ensures.items

pub loop-is_done-preserved : goal.loop-is_done-preserved
loop-is_done-preserved c =
    more c.args.done.now c.loop-is_done.is_done-index c.loop-is_done.states.items c.push.new.self.items c.opened.result _ c.is_err.result c.loop-is_done-test.true c.loop-is_done.invariant c.opened.ensures
    c.push.ensures.items c.is_err.ensures.negation c.if-is_err.false

pub returns : goal.returns
returns c = c.loop-is_done.invariant ∙ ap (map opened) (take_all c.loop-is_done.is_done-index c.args.done.now c.loop-is_done-test.false)
