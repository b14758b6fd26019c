use Rattle.std.proofs.Common.{◌≡◌, ◌<◌, ℕ, get_or, ap, sym, ◌∙◌, subst}
use Rattle.std.proofs.lemmas.List.{get_or_read}
use Rattle.cu_region.specs.Passes.{IsLaterIn}
use Rattle.cu_work.specs.Workers.{HasCounted, IsWorkerOf, KnowsEnd}
use Rattle.cu_work.specs.declared.worker.Worker.{Worker}
use Rattle.cu_work.proofs.turns.drive.Goals as goal

-- what a turn says of its arguments is said of the workers before and behind it
said_of : {S T : Type 0} (R : S → T → Type 0) {a x : S} {b y : T} → a ≡ x → b ≡ y → R a b → R x y
said_of {S} {T} R {a} {x} {b} {y} is left r = subst (λ (z : T). R x z) left (subst (λ (z : S). R z b) is r)

pub returns-clause-count : goal.returns-clause-count
returns-clause-count g c = c.for_each_mut.auto.s

pub returns-clause-workers : goal.returns-clause-workers
returns-clause-workers g c = λ i d within.
    let inside = subst (λ (n : ℕ). i < n) c.for_each_mut.auto.s within in
    let turn = (c.for_each_mut.ensures i d inside).1 in
    let board = c.args.board.now.board in
    let yard = c.args.yard.now in
    said_of (λ (n : ℕ) (v : Worker g.row.Y.Denot g.row.Y-Pass.Denot). IsWorkerOf g.Y.Yard.owns yard board n v.seat v.pass) {y = get_or c.for_each_mut.new.s i d} (ap (λ (w : Worker g.row.Y.Denot g.row.Y-Pass.Denot). w.number) turn.argument_is ∙ c.requires.numbers i d inside) turn.left turn.call.0

pub returns-clause-numbers : goal.returns-clause-numbers
returns-clause-numbers g c = λ i d within.
    let inside = subst (λ (n : ℕ). i < n) c.for_each_mut.auto.s within in
    let turn = (c.for_each_mut.ensures i d inside).1 in
    let number = λ (w : Worker g.row.Y.Denot g.row.Y-Pass.Denot). w.number in
    sym (ap number turn.left) ∙ turn.call.1 ∙ ap number turn.argument_is ∙ c.requires.numbers i d inside

pub returns-clause-rooms : goal.returns-clause-rooms
returns-clause-rooms g c = λ i d within.
    let inside = subst (λ (n : ℕ). i < n) c.for_each_mut.auto.s within in
    let turn = (c.for_each_mut.ensures i d inside).1 in
    let rooms = λ (w : Worker g.row.Y.Denot g.row.Y-Pass.Denot). w.rooms in
    sym (ap rooms turn.left) ∙ turn.call.2 ∙ ap rooms turn.argument_is ∙ c.requires.rooms i d inside

pub returns-clause-later : goal.returns-clause-later
returns-clause-later g c = λ i d inside.
    let turn = (c.for_each_mut.ensures i d inside).1 in
    said_of (λ (w v : Worker g.row.Y.Denot g.row.Y-Pass.Denot). IsLaterIn (g.Y.Yard.serves c.args.yard.now).specs (g.Y.Yard.knows w.pass) (g.Y.Yard.knows v.pass)) {y = get_or c.for_each_mut.new.s i d} turn.argument_is turn.left turn.call.3

pub returns-clause-ended : goal.returns-clause-ended
returns-clause-ended g c = λ i d inside.
    let turn = (c.for_each_mut.ensures i d inside).1 in
    subst (λ (w : Worker g.row.Y.Denot g.row.Y-Pass.Denot). KnowsEnd c.args.board.now.table w.seat.view (g.Y.Yard.knows w.pass) w.outcome) turn.left turn.call.4

pub returns-clause-counted : goal.returns-clause-counted
returns-clause-counted g c = λ i d within.
    let inside = subst (λ (n : ℕ). i < n) c.for_each_mut.auto.s within in
    let turn = (c.for_each_mut.ensures i d inside).1 in
    subst (λ (w : Worker g.row.Y.Denot g.row.Y-Pass.Denot). HasCounted c.args.plan.now w.seat.view (g.Y.Yard.knows w.pass)) turn.left turn.call.5

pub returns-clause-answer : goal.returns-clause-answer
returns-clause-answer g c = λ d.
    let outcome = λ (w : Worker g.row.Y.Denot g.row.Y-Pass.Denot). w.outcome in
    sym (ap outcome c.index-workers-0.is) ∙ ap outcome (get_or_read c.for_each_mut.new.s 0 c.index-workers-0.result (subst (λ (n : ℕ). 0 < n) (sym c.for_each_mut.auto.s) c.requires.some) c.index-workers-0.is d)
