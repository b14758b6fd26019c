use Rattle.std.proofs.Common.{length, refl, ◌∙◌, subst, sym, ℕ}
use Rattle.cu_num.specs.Dtype.{size_of}
use Rattle.cu_num.specs.declared.functions.Fn1.TheVariants.{Square}
use Rattle.cu_num.proofs.Promoted.{first_in_range}
use Rattle.cu_kern.specs.Strips.{strip, HasPlaces}
use Rattle.cu_kern.proofs.Parts.{element_below, element_count}
use Rattle.cu_kern.proofs.RowResults.{one_computed}
use Rattle.cu_kern.proofs.row_steps.row_of_square.Goals as goal

pub call_strips-requires-clause-call : goal.call_strips-requires-clause-call
call_strips-requires-clause-call c x h = first_in_range c.args.origin c.args.t c.args.t c.requires.promoted x h

pub call_strips-requires-clause-arguments : goal.call_strips-requires-clause-arguments
call_strips-requires-clause-arguments c =
    let n = element_count c.args.t c.args.earlier.range.count (size_of c.args.t) (length c.args.out.now) refl c.requires.room in
    let x = c.in-Some.x in
    let P : ℕ → Type 0 = HasPlaces c.args.origin (strip x.bytes.now x.step) in
    let places = subst P (sym n) c.in-Some.ensures.places in
    record { first = places; second = places; third = places }

pub returns : goal.returns
returns c met k results room stand =
    let same = c.call_strips.auto.out in
    let below = element_below c.args.t k c.args.earlier.range.count (length c.call_strips.new.out) (same ∙ c.requires.room) room in
    one_computed Square c.args.t c.call_strips.new.out k c.args.a results _ (c.in-Some.ensures.elements k results below stand) (c.call_strips.ensures k room)
