-- A turn of one worker leaves what the others run.
use Rattle.std.proofs.Common.{◌≡◌, ℕ, zero, suc, ◌<◌, Bool, true, false, List, [], ◌∷◌, length, get_or, set, replicate, Option, Some, None, Result, Ok, Err, refl, ap, sym, ◌∙◌, inl, inr, eq-eqb, ne_eqb}
use Rattle.std.specs.Prelude.{if◌then◌else◌}
use Rattle.std.proofs.lemmas.Bool.{cases_eq}
use Rattle.std.proofs.lemmas.List.{get_or-set_same, get_or-set_other}
use Rattle.cu_store.specs.declared.faults.TaskFault.{TaskFault}
use Rattle.cu_store.specs.declared.faults.TaskFault.TheVariants.{Store, BadChunk, NoMemory}
use Rattle.cu_history.specs.declared.entry.Entry.{Entry}
use Rattle.cu_history.specs.History.{is_start}
use Rattle.cu_table.specs.declared.state.TaskId.{TaskId}
use Rattle.cu_table.specs.Own.{left_running, running_of}
use Rattle.cu_table.specs.Step.{Replays}
use Rattle.cu_table.specs.Table.{TableView, Goes, end_of, report_kind}
use Rattle.cu_table.proofs.Own.{step_running}
use Rattle.test_rows.specs.Turns.{task_pair, IsTurns}

-- the task that an entry leaves its worker
abbrev pub left_by : Entry → Option (ℕ × ℕ)
left_by e = if is_start e.kind then Some (e.op, e.task) else None

module _ (old new : TableView) (listed : List (Option TaskId)) (is : IsTurns old listed) where
  pub after_entry : (e : Entry) → Goes old new e → Replays new.settings new.done new.history new.state → (task : Option TaskId) → task_pair task ≡ left_by e → e.worker < length listed
      → IsTurns new (set listed e.worker task)
  after_entry e goes legal task leaves within = record {
    legal = legal;
    running = λ w.
        step_running old.settings old.done old.history old.state new.state e w is.legal goes.step
        ∙ elim (cases_eq e.worker w) [
          | inl same ↦
              ap (λ b. left_running (running_of old.state.copies w) (if b then e ∷ [] else [])) (eq-eqb e.worker w same)
              ∙ sym leaves
              ∙ ap task_pair (sym (get_or-set_same listed e.worker task None within))
              ∙ ap (λ i. task_pair (get_or (set listed e.worker task) i None)) same
          | inr other ↦
              ap (λ b. left_running (running_of old.state.copies w) (if b then e ∷ [] else [])) (ne_eqb e.worker w other)
              ∙ is.running w
              ∙ ap task_pair (sym (get_or-set_other listed e.worker w task None (λ same. other (sym same))))
        ];
  }

-- an end of a copy leaves its worker none
pub end_leaves : (late : Bool) (outcome : Result (Unit {0}) TaskFault) (worker op task : ℕ) → task_pair None ≡ left_by (end_of (report_kind late outcome) worker op task)
end_leaves true outcome worker op task = refl
end_leaves false (Ok x) worker op task = refl
end_leaves false (Err Store) worker op task = refl
end_leaves false (Err (BadChunk key got want)) worker op task = refl
end_leaves false (Err NoMemory) worker op task = refl

pub none_told : (n w : ℕ) → task_pair (get_or (replicate n None) w None) ≡ None
none_told zero w = refl
none_told (suc n) zero = refl
none_told (suc n) (suc w) = none_told n w
