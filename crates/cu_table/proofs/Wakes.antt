-- The tasks that watched a thing that is over are put anew.
use Rattle.std.proofs.Common.{◌≡◌, ◌⊎◌, inl, inr, ℕ, ◌<◌, List, [], ◌∷◌, length, ap, sym, ◌∙◌, subst, arith}
use Rattle.cu_op.specs.PlanView.{PlanView}
use Rattle.cu_table.specs.declared.state.TaskId.{TaskId}
use Rattle.cu_table.specs.declared.state.TaskState.{TaskState}
use Rattle.cu_table.specs.Numbers.{IsTask, task_number}
use Rattle.cu_table.specs.Queue.{Lined, watchers_of, watched, held, of_tasks, IsOver, IsLined, IsWoken, HasListPlace, Settles}
use Rattle.cu_table.proofs.Numbers.{number_some}
use Rattle.cu_table.proofs.Lining.{taken_apart, taken_small, taken_waits, lined_taken, quiet_taken, shorter, lined_settled, still_quiet, same_watchers, has_place}

pub record WokenSoFar (p : PlanView) (states : List TaskState) (x : ℕ) (first now : Lined) : Type 0 where
  pub lined : IsLined p (of_tasks states) (λ j. ⊥) now
  pub others : (y : ℕ) → IsOver p (of_tasks states) y → watchers_of first y ≡ [] → watchers_of now y ≡ []

module _ (p : PlanView) (states : List TaskState) (x : ℕ) (over : IsOver p (of_tasks states) x) (first old mid : Lined) (so_far : WokenSoFar p states x first old) (j : ℕ) (within : x < length old.watching)
    (at : watchers_of old x ≡ j ∷ watchers_of mid x) (is_mid : mid ≡ watched old x (watchers_of mid x)) where
  pub wake_place : HasListPlace p mid j
  wake_place =
      has_place p (of_tasks states) (λ i. (i ≡ j) ⊎ ⊥) mid (lined_taken p (of_tasks states) (λ i. ⊥) old mid so_far.lined x j within at is_mid) j
      (taken_small p (of_tasks states) (λ i. ⊥) old mid so_far.lined x j within at is_mid) (taken_apart p (of_tasks states) (λ i. ⊥) old mid so_far.lined x j within at is_mid)

  module _ (new : Lined) (settles : (id : TaskId) → IsTask p id.op id.task → task_number p id.op id.task ≡ j → Settles p (of_tasks states) id mid new) where
    pub wake_more : WokenSoFar p states x first new
    wake_more =
        let (op, task, is, n) = number_some p j (taken_small p (of_tasks states) (λ i. ⊥) old mid so_far.lined x j within at is_mid) in
        let put = settles (record { op = op; task = task }) is n in
        record {
          lined = lined_settled p (of_tasks states) (λ i. (i ≡ j) ⊎ ⊥) (λ i. ⊥) mid new (lined_taken p (of_tasks states) (λ i. ⊥) old mid so_far.lined x j within at is_mid) op task is
              (taken_waits p (of_tasks states) (λ i. ⊥) old mid so_far.lined x j within at is_mid op task is n)
              (ap (λ (k : ℕ). held k mid) n ∙ taken_apart p (of_tasks states) (λ i. ⊥) old mid so_far.lined x j within at is_mid)
              (λ i h. elim h [ inl e ↦ inl (e ∙ sym n) | inr none ↦ absurd none ]) put;
          others = λ y so none. still_quiet p (of_tasks states) (record { op = op; task = task }) mid new put y so
              (quiet_taken p (of_tasks states) (λ i. ⊥) old mid so_far.lined x j within at is_mid y (so_far.others y so none));
        }

    -- the thing's list has one task less
    pub wake_less : length (watchers_of new x) < length (watchers_of old x)
    wake_less =
        let (op, task, is, n) = number_some p j (taken_small p (of_tasks states) (λ i. ⊥) old mid so_far.lined x j within at is_mid) in
        let e = ap length (same_watchers p (of_tasks states) (record { op = op; task = task }) mid new (settles (record { op = op; task = task }) is n) x over) in
        let s = shorter p (of_tasks states) (λ i. ⊥) old mid so_far.lined x j within at is_mid in
        omega (arith, e, s)

pub wake_none : (p : PlanView) (states : List TaskState) (x : ℕ) (first old new : Lined) → WokenSoFar p states x first old → watchers_of old x ≡ [] → new ≡ old → IsWoken p (of_tasks states) x first new
wake_none p states x first old new so_far none same = record {
  lined = subst (IsLined p (of_tasks states) (λ j. ⊥)) (sym same) so_far.lined;
  none = ap (λ (q : Lined). watchers_of q x) same ∙ none;
  others = λ y over was. ap (λ (q : Lined). watchers_of q y) same ∙ so_far.others y over was;
}
