use Rattle.std.proofs.Common.{IsTrue, Ok, sym, ap, ◌∙◌, subst, arith}
use Rattle.cu_store.specs.Held.{Gets}
use Rattle.cu_store.specs.Steps.{NoChange, Steps}
use Rattle.cu_store.specs.Yard.{Known, is_made, shown_by, IsLater, IsPresent}
use Rattle.cu_cells.specs.Cells.{spec_key}
use Rattle.cu_cells.specs.Yard.{known_of}
use Rattle.cu_cells.proofs.Own.{counted_step, counted_later, failed_step, failed_later}
use Rattle.cu_cells.proofs.yard.CellsYard.get.Goals as goal

pub read-requires-clause-known : goal.read-requires-clause-known
read-requires-clause-known c made =
    let specs = c.args.self.now.layout.specs in
    subst (λ (k : Known). IsTrue (k.seen (spec_key specs c.find-at.result))) (sym c.begin.ensures.known)
    (subst (λ key. IsTrue (is_made specs key) → IsTrue ((known_of c.args.pass.now).seen key)) (sym c.find-at.ensures.key) c.requires.may.known made)

pub returns-clause-got : goal.returns-clause-got
returns-clause-got c =
    let specs = c.args.self.now.layout.specs in
    subst (λ key. Gets (shown_by (known_of c.read.new.pass)).held key c.read.new.buf (Ok c.read.result)) c.find-at.ensures.key
    (subst (λ (k : Known). Gets (shown_by k).held (spec_key specs c.find-at.result) c.read.new.buf (Ok c.read.result)) (sym c.read.ensures.known) c.read.ensures.got)

pub returns-clause-present : goal.returns-clause-present
returns-clause-present c = subst (λ key. IsTrue (is_made c.args.self.now.layout.specs key) → IsPresent (Ok c.read.result)) c.find-at.ensures.key c.read.ensures.present

pub returns-clause-step : goal.returns-clause-step
returns-clause-step c = subst (λ (n : Known). Steps NoChange 1 1 (shown_by (known_of c.args.pass.now)) (shown_by n)) (sym (c.read.ensures.known ∙ c.begin.ensures.known)) (counted_step (known_of c.args.pass.now))

pub returns-clause-later : goal.returns-clause-later
returns-clause-later c = subst (IsLater (known_of c.args.pass.now)) (sym (c.read.ensures.known ∙ c.begin.ensures.known)) (counted_later (known_of c.args.pass.now) _ _)

pub returns-in-Fails-clause-step : goal.returns-in-Fails-clause-step
returns-in-Fails-clause-step c =
    let f = c.saturating_add-pass.result in
    let was = ap (λ (k : Known). k.faults) c.begin.ensures.known in
    failed_step NoChange (known_of c.args.pass.now) _ f (ap (λ (k : Known). record k { faults = f }) c.begin.ensures.known) (omega (arith, was, c.saturating_add-pass.ensures))

pub returns-in-Fails-clause-later : goal.returns-in-Fails-clause-later
returns-in-Fails-clause-later c =
    let f = c.saturating_add-pass.result in
    failed_later (known_of c.args.pass.now) _ f _ (ap (λ (k : Known). record k { faults = f }) c.begin.ensures.known)

pub returns-clause-landed : goal.returns-clause-landed
returns-clause-landed c key = ap (λ landed. landed key) c.read.ensures.landed ∙ c.begin.ensures.landed key
