-- How what a task makes in its memory follows from its parts.
use Rattle.cu_op.specs.Operation.{target_of, value_array, ReadsByChunk}
use Rattle.cu_op.specs.PlanView.{PlanView}
use Rattle.cu_op.specs.Sound.{Sound}
use Rattle.cu_op.specs.TaskView.{task_op, TaskView}
use Rattle.cu_op.specs.declared.walks.Walk.{Walk}
use Rattle.cu_store.specs.Held.{Contents}
use Rattle.cu_store.specs.Steps.{Shown}
use Rattle.cu_store.specs.declared.faults.TaskFault.{TaskFault}
use Rattle.cu_store.specs.declared.faults.TaskFault.TheVariants.{BadChunk, NoMemory, Store}
use Rattle.cu_task.proofs.Inside.{stored_alike}
use Rattle.cu_task.proofs.TaskKinds.{none_stored}
use Rattle.cu_task.proofs.TaskRegions.{target_written}
use Rattle.cu_task.specs.OfTask.{held_inputs, stored_elements, HasMade, HoldsFor}
use Rattle.cu_task.specs.Task.{IsTaskFault}
use Rattle.cu_task.specs.TaskRoom.{HasMadeAll}
use Rattle.std.proofs.Common.{◌≡◌, ℕ, zero, suc, ◌+◌, ◌<◌, ◌≤◌, List, [], ◌∷◌, length, drop, None, get_or, refl, ap, sym, ◌∙◌, arith}

-- what is made of the elements that are held now is made of those that were held at first
pub alike_made : (t : TaskView) (s : Sound t.plan) (held : Contents) (shown : Shown) (found made : List ℕ) → ((b : ℕ) → ReadsByChunk t.plan.arrays (task_op t) b → ⊥) → value_array (task_op t) ≡ None
    → (still : HoldsFor t held shown) → HasMade t (stored_elements t still.now) made → HasMadeAll t (held_inputs t held) found made
alike_made t s held shown found made never only still has = record {
  output = stored_alike t.plan s t.op t.number (target_of (task_op t)) t.operation t.within (target_written (task_op t)) never held still.now still.same made has;
  values = λ array is. absurd (none_stored array (sym only ∙ is));
}

-- a fault of a later call
pub later_fault : (old mid new : Shown) (p : PlanView) (k task : ℕ) (e : TaskFault) → old.faults ≤ mid.faults → IsTaskFault mid new p k task e → IsTaskFault old new p k task e
later_fault old mid new p k task Store count h = let rose = h in omega arith
later_fault old mid new p k task (BadChunk key got want) count h = h
later_fault old mid new p k task NoMemory count h = h

-- the region at a place, and those behind it
pub next_walk : (walks : List Walk) (place : ℕ) (d : Walk) → place < length walks → drop place walks ≡ get_or walks place d ∷ drop (place + 1) walks
next_walk walks place d l =
    let next : suc place ≡ place + 1 = omega arith in
    by_suc walks place l ∙ ap (λ (n : ℕ). get_or walks place d ∷ drop n walks) next
  where
    by_suc : (ws : List Walk) (n : ℕ) → n < length ws → drop n ws ≡ get_or ws n d ∷ drop (suc n) ws
    by_suc [] n l = absurd (omega arith)
    by_suc (w ∷ ws) zero l = refl
    by_suc (w ∷ ws) (suc n) l = by_suc ws n (omega arith)

pub at_end : (walks : List Walk) (place : ℕ) → place ≡ length walks → drop place walks ≡ []
at_end [] zero e = refl
at_end [] (suc place) e = refl
at_end (w ∷ walks) zero e = absurd (omega (arith, e))
at_end (w ∷ walks) (suc place) e = at_end walks place (omega (arith, e))
