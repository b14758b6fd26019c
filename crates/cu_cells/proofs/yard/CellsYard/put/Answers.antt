use Rattle.std.proofs.Common.{◌+◌, ◌||◌, min, refl, ap, ◌∙◌, arith}
use Rattle.std.specs.Str.{bytes_eq}
use Rattle.cu_store.specs.Faults.{last_count}
use Rattle.cu_store.specs.Steps.{PutOf}
use Rattle.cu_store.specs.Yard.{Known, bytes_under}
use Rattle.cu_cells.specs.Layout.{Laid}
use Rattle.cu_cells.specs.Yard.{known_of, known_entries}
use Rattle.cu_cells.proofs.Found.{made_served}
use Rattle.cu_cells.proofs.Own.{put_step, put_later, failed_step, failed_later}
use Rattle.cu_cells.proofs.yard.CellsYard.put.Goals as goal

pub find-at-requires-clause-served : goal.find-at-requires-clause-served
find-at-requires-clause-served c = made_served c.args.self.now.layout.specs c.args.key.now c.requires.may.made

pub returns-in-Works-clause-step : goal.returns-in-Works-clause-step
returns-in-Works-clause-step c =
    let k = known_of c.args.pass.now in
    let n = known_of c.put_at.new.pass in
    put_step k n (known_entries c.args.pass.now) c.args.key.now c.args.bytes.now
    (c.put_at.ensures.known ∙ ap (λ (b : Known). record b { seen = n.seen }) c.begin-fate.ensures.known) refl
    (λ other. c.put_at.ensures.seen other ∙ (λ i. (c.begin-fate.ensures.known i).seen other || bytes_eq (c.find-at.ensures.key i) other))
    (ap (λ (l : Laid). bytes_under l.promise c.args.key.now) c.requires.own.hand.laid ∙ c.requires.may.promised)

pub returns-in-Works-clause-later : goal.returns-in-Works-clause-later
returns-in-Works-clause-later c =
    let n = known_of c.put_at.new.pass in
    let is = c.put_at.ensures.known ∙ ap (λ (b : Known). record b { seen = n.seen }) c.begin-fate.ensures.known in
    put_later (known_of c.args.pass.now) n c.args.key.now (ap (λ (x : Known). x.promise) is) (ap (λ (x : Known). x.entries) is) (ap (λ (x : Known). x.lacks) is)
    (λ other. c.put_at.ensures.seen other ∙ (λ i. (c.begin-fate.ensures.known i).seen other || bytes_eq (c.find-at.ensures.key i) other))

pub returns-in-Fails-clause-step : goal.returns-in-Fails-clause-step
returns-in-Fails-clause-step c =
    let k = known_of c.args.pass.now in
    failed_step (PutOf c.args.key.now c.args.bytes.now) k (known_of c.put_late.new.pass) (min (k.faults + 1) last_count)
    (c.put_late.ensures.known ∙ ap (λ (b : Known). record b { faults = min (b.faults + 1) last_count }) c.begin-fate.ensures.known)
    (omega (arith, c.put_late.ensures.count, ap (λ (x : Known). x.faults) c.put_late.ensures.known, ap (λ (x : Known). x.faults) c.begin-fate.ensures.known))

pub returns-in-Fails-clause-later : goal.returns-in-Fails-clause-later
returns-in-Fails-clause-later c =
    let k = known_of c.args.pass.now in
    failed_later k (known_of c.put_late.new.pass) (min (k.faults + 1) last_count) _
    (c.put_late.ensures.known ∙ ap (λ (b : Known). record b { faults = min (b.faults + 1) last_count }) c.begin-fate.ensures.known)

pub returns-in-Works-clause-landed : goal.returns-in-Works-clause-landed
returns-in-Works-clause-landed c key = ap (λ landed. landed key) c.put_at.ensures.landed ∙ c.begin-fate.ensures.landed key

pub returns-in-Fails-clause-landed : goal.returns-in-Fails-clause-landed
returns-in-Fails-clause-landed c key = ap (λ landed. landed key) c.put_late.ensures.landed ∙ c.begin-fate.ensures.landed key
