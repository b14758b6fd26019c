use Rattle.std.proofs.Common.{◌≡◌, ℕ, ◌+◌, ◌*◌, List, ◌∷◌, length, true, false, sym, subst, arith}
use Rattle.cu_store.specs.Steps.{NoChange, Steps, OnceEach}
use Rattle.cu_command.specs.Stored.{FindsLayout}
use Rattle.cu_command.specs.Inputs.{names_of, names_from, IsInputFault}
use Rattle.cu_command.proofs.InputLemmas.{was_named, of_form, seen_name, pushed_name, turn_of, step_more, once_more, count_of, read_more, fault_at}
use Rattle.cu_command.proofs.inputs.read_next.Goals as goal

pub returns-then-has_name-clause-names : goal.returns-then-has_name-clause-names
returns-then-has_name-clause-names g c rest =
    let old = c.args.inputs.now.items in
    let seen = was_named c.in-Input.name old c.deref.result.now c.has_name.result true c.deref.ensures.value c.has_name.ensures c.if-has_name.true in
    of_form (λ names. names_from (names_of old) rest ≡ names_from (names_of old) names) c.args.form.now c.in-Input.name rest c.in-Input.is (seen_name old c.in-Input.name rest seen)

pub returns-in-Err-clause-cause : goal.returns-in-Err-clause-cause
returns-in-Err-clause-cause g c entry rest so_far =
    let old = c.args.inputs.now.items in
    let name = c.in-Input.name in
    let fresh = was_named name old c.deref.result.now c.has_name.result false c.deref.ensures.value c.has_name.ensures c.if-has_name.false in
    let step : Steps NoChange 0 (2 * (c.args.retries + 1) * (length old + 1)) entry (g.D.PutStore.shown c.read_input.new.depot) = step_more (length old) (length old + 1) (omega arith) so_far.step c.read_input.ensures.step in
    of_form (λ names. IsInputFault (c.args.retries + 1) (names_from (names_of old) names) entry (g.D.PutStore.shown c.read_input.new.depot) c.in-Err.fault) c.args.form.now name rest c.in-Input.is
    (fault_at (c.args.retries + 1) (names_from (names_of old) (name ∷ rest)) entry (g.D.PutStore.shown c.args.depot.now) (g.D.PutStore.shown c.read_input.new.depot) name c.in-Err.fault
    (turn_of entry old name rest so_far.read fresh) so_far.step step c.in-Err.ensures.cause)

pub returns-in-Err-clause-step : goal.returns-in-Err-clause-step
returns-in-Err-clause-step g c entry rest so_far =
    let old = c.args.inputs.now.items in
    let name = c.in-Input.name in
    let fresh = was_named name old c.deref.result.now c.has_name.result false c.deref.ensures.value c.has_name.ensures c.if-has_name.false in
    of_form (λ names. Steps NoChange 0 (2 * (c.args.retries + 1) * length (names_from (names_of old) names)) entry (g.D.PutStore.shown c.read_input.new.depot)) c.args.form.now name rest c.in-Input.is
    (step_more (length old) (length (names_from (names_of old) (name ∷ rest))) (count_of old name rest fresh) so_far.step c.read_input.ensures.step)

pub returns-in-Err-push-clause-step : goal.returns-in-Err-push-clause-step
returns-in-Err-push-clause-step g c entry rest so_far =
    let old = c.args.inputs.now.items in
    let name = c.in-Input.name in
    let fresh = was_named name old c.deref.result.now c.has_name.result false c.deref.ensures.value c.has_name.ensures c.if-has_name.false in
    of_form (λ names. Steps NoChange 0 (2 * (c.args.retries + 1) * length (names_from (names_of old) names)) entry (g.D.PutStore.shown c.read_input.new.depot)) c.args.form.now name rest c.in-Input.is
    (step_more (length old) (length (names_from (names_of old) (name ∷ rest))) (count_of old name rest fresh) so_far.step c.read_input.ensures.step)

pub returns-in-Err-clause-once : goal.returns-in-Err-clause-once
returns-in-Err-clause-once g c entry rest so_far =
    let old = c.args.inputs.now.items in
    let name = c.in-Input.name in
    let fresh = was_named name old c.deref.result.now c.has_name.result false c.deref.ensures.value c.has_name.ensures c.if-has_name.false in
    of_form (λ names. OnceEach (2 * length (names_from (names_of old) names)) entry (g.D.PutStore.shown c.read_input.new.depot)) c.args.form.now name rest c.in-Input.is
    (once_more (length old) (length (names_from (names_of old) (name ∷ rest))) entry (g.D.PutStore.shown c.args.depot.now) (g.D.PutStore.shown c.read_input.new.depot)
    (count_of old name rest fresh) so_far.once c.read_input.ensures.once)

pub returns-in-Err-push-clause-once : goal.returns-in-Err-push-clause-once
returns-in-Err-push-clause-once g c entry rest so_far =
    let old = c.args.inputs.now.items in
    let name = c.in-Input.name in
    let fresh = was_named name old c.deref.result.now c.has_name.result false c.deref.ensures.value c.has_name.ensures c.if-has_name.false in
    of_form (λ names. OnceEach (2 * length (names_from (names_of old) names)) entry (g.D.PutStore.shown c.read_input.new.depot)) c.args.form.now name rest c.in-Input.is
    (once_more (length old) (length (names_from (names_of old) (name ∷ rest))) entry (g.D.PutStore.shown c.args.depot.now) (g.D.PutStore.shown c.read_input.new.depot)
    (count_of old name rest fresh) so_far.once c.read_input.ensures.once)

pub returns-in-Ok-push-clause-names : goal.returns-in-Ok-push-clause-names
returns-in-Ok-push-clause-names g c rest =
    let old = c.args.inputs.now.items in
    let name = c.in-Input.name in
    let fresh = was_named name old c.deref.result.now c.has_name.result false c.deref.ensures.value c.has_name.ensures c.if-has_name.false in
    of_form (λ names. names_from (names_of c.push.new.self.items) rest ≡ names_from (names_of old) names) c.args.form.now name rest c.in-Input.is
    (pushed_name old c.push.new.self.items c.in-Ok.input name rest c.in-Ok-push.ensures.items c.in-Ok.ensures.name fresh)

pub returns-in-Ok-push-clause-read : goal.returns-in-Ok-push-clause-read
returns-in-Ok-push-clause-read g c entry so_far =
    let holds = subst (λ (n : List ℕ). FindsLayout (g.D.PutStore.shown c.args.depot.now).held (g.D.PutStore.shown c.read_input.new.depot).held n c.in-Ok.input.layout) (sym c.in-Ok.ensures.name) c.in-Ok.ensures.found in
    read_more entry (g.D.PutStore.shown c.args.depot.now) (g.D.PutStore.shown c.read_input.new.depot) c.args.inputs.now.items c.push.new.self.items c.in-Ok.input so_far c.in-Ok-push.ensures.items
    c.in-Ok.ensures.layout holds c.read_input.ensures.step c.read_input.ensures.once
