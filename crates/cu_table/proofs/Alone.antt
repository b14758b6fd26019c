-- A machine in which no copy runs and no ready task waits has done all tasks.
use Rattle.std.proofs.Common.{◌≡◌, inl, inr, ℕ, zero, suc, ◌<◌, [], ap, ◌∙◌, arith}
use Rattle.std.proofs.lemmas.Bool.{cases_Bool}
use Rattle.cu_op.specs.PlanView.{PlanView}
use Rattle.cu_op.specs.Sound.{Sound}
use Rattle.cu_table.specs.Numbers.{IsTask}
use Rattle.cu_table.specs.Machine.{Machine, state_at, IsDone, AllDone, NoneWaits}
use Rattle.cu_table.proofs.Copies.{copies_of}
use Rattle.cu_table.proofs.Keeping.{Kept}
use Rattle.cu_table.proofs.Changing.{made_task}
use Rattle.cu_table.proofs.Inputs.{maker_earlier}

module _ (p : PlanView) (sound : Sound p) (retries : ℕ) (m : Machine) (kept : Kept p retries m) (none : m.copies ≡ []) (waits : NoneWaits p m) where
  none_run : (op task : ℕ) → IsTask p op task → (state_at p m op task).copies ≡ 0
  none_run op task is = kept.counts op task is ∙ ap (copies_of op task) none

  done_below : (n op task : ℕ) → IsTask p op task → op < n → IsDone p m op task
  done_below zero op task is below = absurd (omega (arith, below))
  done_below (suc n) op task is below =
      elim (cases_Bool (state_at p m op task).done) [
        | inl done ↦ done
        | inr undone ↦
            absurd (waits op task is
            (λ k t makes. done_below n k t (made_task p k t op task makes)
            (let b = maker_earlier p sound k t op task is makes in omega (arith, b, below)))
            (undone, none_run op task is))
      ]

  pub all_done_alone : AllDone p m
  all_done_alone op task is = done_below (suc op) op task is (omega arith)
