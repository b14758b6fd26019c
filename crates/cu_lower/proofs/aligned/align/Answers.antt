use Rattle.std.proofs.Common.{◌≡◌, ℕ, ◌+◌, ◌*◌, ◌≤◌, ◌∷◌, length, drop, get_or, ap, sym, ◌∙◌, arith}
use Rattle.std.proofs.lemmas.List.{drop_more, length_push}
use Rattle.cu_lower_reduce.specs.Copies.{aligned_places, aligned_steps}
use Rattle.cu_lower_reduce.specs.Steps.{all_made}
use Rattle.cu_lower.proofs.Aligning.{from_array, staged_at, last_steps, last_places, more_made, more_places, more_steps}
use Rattle.cu_lower.proofs.aligned.align.Goals as goal

few_more : (next after first j : ℕ) → after ≤ next + 2 → next ≤ first + 2 * j → after ≤ first + 2 * (j + 1)
few_more next after first j more few = omega arith

pub add-requires-clause-rechunk : goal.add-requires-clause-rechunk
add-requires-clause-rechunk c = λ other.
    let below = c.loop-j-test.true in
    let end = c.min-j-end.ensures in
    let w = staged_at c.args.s.now c.args.wanted.now c.loop-j.j c.index-wanted-j.result c.index-wanted-j.result c.requires.operands.staged (omega (arith, below, end)) (sym c.index-wanted-j.is) other in
    record { rechunk = w.rechunk; fits = w.fits }

pub returns-clause-steps : goal.returns-clause-steps
returns-clause-steps c =
    let past = c.loop-j-test.false in
    let end = c.min-j-end.ensures in
    last_steps (from_array c.args.s.now c.loop-j.aligned.next) c.args.sources.now c.args.wanted.now c.loop-j.j c.loop-j.aligned.steps.items (aligned_steps c.args.s.now c.args.sources.now c.args.wanted.now)
    (omega (arith, past, end)) c.loop-j.invariant.steps

pub returns-clause-places : goal.returns-clause-places
returns-clause-places c =
    let past = c.loop-j-test.false in
    let end = c.min-j-end.ensures in
    last_places (from_array c.args.s.now c.loop-j.aligned.next) c.args.sources.now c.args.wanted.now c.loop-j.j c.loop-j.aligned.places.items _
    (omega (arith, past, end)) c.loop-j.invariant.places

pub returns-clause-next : goal.returns-clause-next
returns-clause-next c =
    let past = c.loop-j-test.false in
    let end = c.min-j-end.ensures in
    c.loop-j.invariant.next
    ∙ ap (λ steps. c.args.s.now.first + length (all_made steps))
    (last_steps (from_array c.args.s.now c.loop-j.aligned.next) c.args.sources.now c.args.wanted.now c.loop-j.j c.loop-j.aligned.steps.items (aligned_steps c.args.s.now c.args.sources.now c.args.wanted.now)
    (omega (arith, past, end)) c.loop-j.invariant.steps)

pub loop-j-preserved : goal.loop-j-preserved
loop-j-preserved c =
    let s = c.args.s.now in
    let sources = c.args.sources.now in
    let wanted = c.args.wanted.now in
    let j = c.loop-j.j in
    let old = c.loop-j.aligned in
    let new = c.add.new.self in
    let r = c.index-wanted-j.result in
    let added = c.in_ok-add.ensures in
    let below = c.loop-j-test.true in
    let end = c.min-j-end.ensures in
    let source = drop_more sources j 0 (omega (arith, below, end)) in
    let want : drop j wanted ≡ r ∷ drop (j + 1) wanted = drop_more wanted j r (omega (arith, below, end)) ∙ ap (λ x. x ∷ drop (j + 1) wanted) (sym c.index-wanted-j.is) in
    record {
      long = ap length added.places ∙ length_push old.places.items _ ∙ ap (λ n. n + 1) c.loop-j.invariant.long;
      few = few_more old.next new.next s.first j added.few c.loop-j.invariant.few;
      next = more_made s s.first old.next new.next (get_or sources j 0) r old.steps.items new.steps.items added.steps added.next c.loop-j.invariant.next;
      steps = more_steps s sources wanted j old.next new.next (get_or sources j 0) r old.steps.items new.steps.items (aligned_steps s sources wanted) source want added.steps added.next c.loop-j.invariant.steps;
      places = more_places s sources wanted j old.next new.next (get_or sources j 0) r old.places.items new.places.items (aligned_places s sources wanted) source want added.places added.next c.loop-j.invariant.places;
    }
