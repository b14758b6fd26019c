-- What a run that goes on rests on.
use Rattle.std.proofs.Common.{◌≡◌, inl, inr, ℕ, zero, suc, Bool, false, List, [], ◌∷◌, get_or, map, Contains, Option, Some, None, refl, sym, ◌∙◌, subst}
use Rattle.std.specs.Prelude.{IsTrue, IsSome, ◌↔◌}
use Rattle.cu_store.specs.Held.{Contents, Holds, IsHeldIn}
use Rattle.cu_store.specs.Share.{Lent, IsShared, HasSeenHeld}
use Rattle.cu_store.specs.Steps.{Shown, Steps}
use Rattle.cu_store.specs.Yard.{Served, Known, is_made}
use Rattle.cu_op.specs.declared.cells.Cell.{Cell}
use Rattle.cu_op.specs.PlanView.{PlanView}
use Rattle.cu_op.specs.Schedule.{op_of, key_of}
use Rattle.cu_op.specs.Sound.{Sound, IsCell}
use Rattle.cu_op.specs.Elements.{Elements}
use Rattle.cu_op.specs.Walks.{written_chunks}
use Rattle.cu_op.proofs.TaskCells.{written_cell}
use Rattle.cu_run_law.specs.Left.{IsLeft, RunChange}
use Rattle.cu_run_law.specs.Pieces.{PlanRun, Chunk, HoldsTask}
use Rattle.cu_table.specs.Machine.{IsDone, opening, opened, no_task}
use Rattle.cu_table.specs.Numbers.{IsTask, task_number}
use Rattle.cu_work.specs.Alone.{HasSeenDone}
use Rattle.cu_work.specs.Search.{NamesTask}
use Rattle.cu_work.specs.World.{IsFound}
use Rattle.cu_work.proofs.Searching.{Fills, held_stays}

-- what is held after puts is held
run_fills : (r : PlanRun) (first : Shown) → Fills (RunChange r first)
run_fills r first key value (q, bytes, piece, at, is, valued) = (bytes, is)

pub found_stays : (p : PlanView) (r : PlanRun) (first old new : Shown) (l m : ℕ) (held now : Contents) (done : List Bool) → Steps (RunChange r first) l m old new → old.held ≡ Some held → new.held ≡ Some now
    → IsFound p held done → IsFound p now done
found_stays p r first old new l m held now done step told told_now found = record {
  tasks = found.tasks;
  stored = λ op task is named c listed.
      subst (λ (h : Option Contents). IsHeldIn h (key_of p.arrays c)) told_now
      (held_stays (RunChange r first) (run_fills r first) l m old new step (key_of p.arrays c)
      (subst (λ (h : Option Contents). IsHeldIn h (key_of p.arrays c)) (sym told) (found.stored op task is named c listed)));
}

cell_here : (p : PlanView) → Sound p → (op task : ℕ) → IsTask p op task → (c : Cell) → Contains (written_chunks p.arrays (op_of p op) task) c → IsCell p.arrays c.array c.coord
cell_here p sound op task is c listed = written_cell p sound op task c.array c.coord (record { operation = is.operation; number = is.number; cell = listed })

pub found_holds : (r : PlanRun) (env : Elements) (shown : Shown) (held : Contents) (done : List Bool) (op task : ℕ) → IsLeft r env shown → shown.held ≡ Some held → IsFound r.plan held done
    → IsTask r.plan op task → NamesTask r.plan done op task → HoldsTask r env op task shown
found_holds r env shown held done op task left told found is named c listed =
    let (bytes, holds) = found.stored op task is named c listed in
    let same : left.held ≡ held = cc (left.told, told) in
    elim (left.pieces (Chunk c) (cell_here r.plan left.sound op task is c listed)) [
      | inl none ↦ absurd (cc (same, none, holds))
      | inr (value, has, v) ↦ (value, v, subst (λ (h : Option Contents). Holds h (key_of r.plan.arrays c) value) (sym left.told) has)
    ]

opened_is : (done : List Bool) (i : ℕ) → (get_or (map opened done) i no_task).done ≡ get_or done i false
opened_is [] i = refl
opened_is (b ∷ bs) zero = refl
opened_is (b ∷ bs) (suc i) = opened_is bs i

pub opened_named : (p : PlanView) (done : List Bool) (op task : ℕ) → (IsDone p (opening done) op task) ↔ (NamesTask p done op task)
opened_named p done op task = ((λ is. sym (opened_is done (task_number p op task)) ∙ is), (λ named. opened_is done (task_number p op task) ∙ named))

some_of : (o : Option (List ℕ)) (bytes : List ℕ) → o ≡ Some bytes → IsSome o
some_of None bytes e = cc
some_of (Some own) bytes e = refl

pub found_seen : (p : PlanView) (l : Lent) (wants : Bool) (shown : Shown) (yard : Served) (pass : Known) (done : List Bool) → Sound p → IsShared l wants shown yard pass
    → ((c : Cell) → IsCell p.arrays c.array c.coord → IsTrue (is_made l.specs (key_of p.arrays c))) → ((held : Contents) → shown.held ≡ Some held → IsFound p held done)
    → HasSeenDone p (opening done) pass.seen
found_seen p l wants shown yard pass done sound shared made found op task is so c listed = from shown.held refl shared.seen
  where
    here : IsTrue (is_made l.specs (key_of p.arrays c))
    here = made c (cell_here p sound op task is c listed)

    from : (h : Option Contents) → shown.held ≡ h → HasSeenHeld l.specs h pass.seen → IsTrue (pass.seen (key_of p.arrays c))
    from None told seen = seen (key_of p.arrays c) here
    from (Some held) told seen =
        let (bytes, holds) = (found held told).stored op task is ((opened_named p done op task).0 so) c listed in
        (seen (key_of p.arrays c) here).1 (some_of (held (key_of p.arrays c)) bytes holds)
