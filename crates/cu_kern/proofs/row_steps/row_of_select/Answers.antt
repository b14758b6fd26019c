use Rattle.std.proofs.Common.{length, refl, ◌∙◌, subst, sym, ℕ}
use Rattle.cu_num.specs.Dtype.{size_of}
use Rattle.cu_num.specs.declared.layout.Endian.TheVariants.{Little}
use Rattle.cu_num.specs.declared.types.Dtype.TheVariants.{Bool}
use Rattle.cu_num.proofs.ElementBytes.{InRange-element_at}
use Rattle.cu_kern.specs.Strips.{strip, HasPlaces}
use Rattle.cu_kern.proofs.Parts.{element_below, element_count}
use Rattle.cu_kern.proofs.RowResults.{extreme_computed, select_computed}
use Rattle.cu_kern.proofs.row_steps.row_of_select.Goals as goal

pub call_strips-requires-clause-arguments : goal.call_strips-requires-clause-arguments
call_strips-requires-clause-arguments c =
    let t = c.args.t in
    let n = element_count t c.args.earlier.range.count (size_of t) (length c.args.out.now) refl c.requires.room in
    let x = c.in-Some.x in
    let y = c.in-Some-found_in_type.y in
    let X : ℕ → Type 0 = HasPlaces t (strip x.bytes.now x.step) in
    let Y : ℕ → Type 0 = HasPlaces t (strip y.bytes.now y.step) in
    let far = subst Y (sym n) c.in-Some-found_in_type.ensures.places in
    record { first = subst X (sym n) c.in-Some.ensures.places; second = far; third = far }

pub returns-in-Some-extreme_of : goal.returns-in-Some-extreme_of
returns-in-Some-extreme_of c met k results room stand =
    let t = c.args.t in
    let out = c.call_strips.new.out in
    let steps = c.args.steps in
    let below = element_below t k c.args.earlier.range.count (length out) (c.call_strips.auto.out ∙ c.requires.room) room in
    let least = c.in-Some-extreme_of.least in
    let (f, compares, same) = c.in-Some-extreme_of.ensures.compares in
    extreme_computed _ _ least f t out k steps.0 steps.1 steps.2 results _ _ stand c.in-Some-extreme_of.ensures.before compares same (c.in-Some.ensures.elements k results below stand)
    (c.in-Some-found_in_type.ensures.elements k results below stand) (InRange-element_at Little t _ _) (InRange-element_at Little t _ _) (c.call_strips.ensures k room)

pub call_strips-requires-2-clause-arguments : goal.call_strips-requires-2-clause-arguments
call_strips-requires-2-clause-arguments c =
    let t = c.args.t in
    let n = element_count t c.args.earlier.range.count (size_of t) (length c.args.out.now) refl c.requires.room in
    let s = c.in-Some-found.choice in
    let x = c.in-Some.x in
    let y = c.in-Some-found_in_type.y in
    let S : ℕ → Type 0 = HasPlaces Bool (strip s.bytes.now s.step) in
    let X : ℕ → Type 0 = HasPlaces t (strip x.bytes.now x.step) in
    let Y : ℕ → Type 0 = HasPlaces t (strip y.bytes.now y.step) in
    record { first = subst S (sym n) c.in-Some-found.ensures.places; second = subst X (sym n) c.in-Some.ensures.places; third = subst Y (sym n) c.in-Some-found_in_type.ensures.places }

pub returns : goal.returns
returns c met k results room stand =
    let t = c.args.t in
    let out = c.call_strips-2.new.out in
    let steps = c.args.steps in
    let below = element_below t k c.args.earlier.range.count (length out) (c.call_strips-2.auto.out ∙ c.requires.room) room in
    select_computed t out k steps.0 steps.1 steps.2 results _ _ _ (c.in-Some-found.ensures.elements k results below stand)
    (c.in-Some.ensures.elements k results below stand) (c.in-Some-found_in_type.ensures.elements k results below stand)
    (InRange-element_at Little t _ _) (InRange-element_at Little t _ _) (c.call_strips-2.ensures k room)
