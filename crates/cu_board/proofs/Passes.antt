-- What a report makes of the pass inside the board.
use Rattle.std.proofs.Common.{◌≡◌, ℕ, ◌≤◌, ◌||◌, Bool, true, false, List, Result, Ok, Err, refl, sym, ap, ◌∙◌, subst, arith}
use Rattle.std.specs.Prelude.{IsTrue}
use Rattle.cu_store.specs.Yard.{Known, IsOfOneYard}
use Rattle.cu_store.specs.declared.faults.TaskFault.{TaskFault}
use Rattle.cu_store.specs.declared.faults.TaskFault.TheVariants as fault
use Rattle.cu_op.specs.PlanView.{PlanView}
use Rattle.cu_board.specs.Board.{SeesTask, IsCauseOf, MayReport, TakesIn}
use Rattle.cu_board.proofs.Tables.{no_truth}

or_left : (a b : Bool) → IsTrue a → IsTrue (a || b)
or_left true b t = refl
or_left false b t = absurd (no_truth t)

pub or_right : (a b : Bool) → IsTrue b → IsTrue (a || b)
or_right true b t = refl
or_right false b t = t

-- a cause is told to each pass of the yard
pub cause_same : (p : PlanView) (k l : Known) (f : TaskFault) → IsOfOneYard k l → IsCauseOf p k f → IsCauseOf p l f
cause_same p k l fault.Store yard c = tt
cause_same p k l (fault.BadChunk key got want) yard c = (c.0, λ e told. c.1 e (sym yard.entries ∙ told))
cause_same p k l fault.NoMemory yard c = subst IsTrue (sym yard.lacks) c

same_yard : (k l : Known) → l ≡ k → IsOfOneYard k l
same_yard k l e = record { promise = ap (λ (x : Known). x.promise) e; entries = ap (λ (x : Known). x.entries) e; lacks = ap (λ (x : Known). x.lacks) e }

pub takes_yard : (r : Result (Unit {0}) TaskFault) (caller k l : Known) → TakesIn r caller k l → IsOfOneYard k l
takes_yard (Ok u) caller k l j = j.yard
takes_yard (Err f) caller k l e = same_yard k l e

pub takes_seen : (r : Result (Unit {0}) TaskFault) (caller k l : Known) (key : List ℕ) → TakesIn r caller k l → IsTrue (k.seen key) → IsTrue (l.seen key)
takes_seen (Ok u) caller k l key j t = subst IsTrue (sym (j.seen key)) (or_left (k.seen key) (caller.seen key) t)
takes_seen (Err f) caller k l key e t = subst (λ (x : Known). IsTrue (x.seen key)) (sym e) t

-- it has counted no call more
pub takes_calls : (r : Result (Unit {0}) TaskFault) (caller k l : Known) → TakesIn r caller k l → l.calls ≤ k.calls
takes_calls (Ok u) caller k l j = let e = j.calls in omega (arith, e)
takes_calls (Err f) caller k l e = let s = ap (λ (x : Known). x.calls) e in omega (arith, s)

-- of a task that ended well it has seen the cells
pub takes_task : (p : PlanView) (op task : ℕ) (r : Result (Unit {0}) TaskFault) (caller k l : Known) → r ≡ Ok tt → MayReport p op task r caller → TakesIn r caller k l
    → SeesTask p op task l
takes_task p op task r caller k l is may takes =
    let j = subst (λ (x : Result (Unit {0}) TaskFault). TakesIn x caller k l) is takes in
    let sees = subst (λ (x : Result (Unit {0}) TaskFault). MayReport p op task x caller) is may in
    λ c among. subst IsTrue (sym (j.seen _)) (or_right (k.seen _) (caller.seen _) (sees c among))

-- the caller knows the cause of a fault that ends the run
pub may_cause : (p : PlanView) (op task : ℕ) (f : TaskFault) (caller : Known) → MayReport p op task (Err f) caller → IsCauseOf p caller f
may_cause p op task fault.Store caller may = tt
may_cause p op task (fault.BadChunk key got want) caller may = may
may_cause p op task fault.NoMemory caller may = may
