use Rattle.std.proofs.Common.{length, refl, ◌∙◌, subst, sym, ℕ}
use Rattle.cu_num.specs.Dtype.{size_of}
use Rattle.cu_num.specs.Scalar.{result_type2}
use Rattle.cu_kern.specs.Strips.{strip, HasPlaces}
use Rattle.cu_kern.proofs.Parts.{element_below, element_count}
use Rattle.cu_kern.proofs.RowResults.{two_computed}
use Rattle.cu_kern.proofs.row_steps.row_of_two.Goals as goal

pub call_strips-requires-clause-arguments : goal.call_strips-requires-clause-arguments
call_strips-requires-clause-arguments c =
    let r = result_type2 c.args.f c.args.t in
    let n = element_count r c.args.earlier.range.count (size_of r) (length c.args.out.now) refl c.requires.room in
    let x = c.in-Some-found_in_type.x in
    let y = c.in-Some-found_in_type-2.y in
    let P : ℕ → Type 0 = HasPlaces c.args.t (strip x.bytes.now x.step) in
    let Q : ℕ → Type 0 = HasPlaces c.args.t (strip y.bytes.now y.step) in
    let far = subst Q (sym n) c.in-Some-found_in_type-2.ensures.places in
    record { first = subst P (sym n) c.in-Some-found_in_type.ensures.places; second = far; third = far }

pub returns : goal.returns
returns c met k results room stand =
    let same = c.call_strips.auto.out in
    let below = element_below (result_type2 c.args.f c.args.t) k c.args.earlier.range.count (length c.call_strips.new.out) (same ∙ c.requires.room) room in
    two_computed c.args.f c.args.t c.call_strips.new.out k c.args.steps.0 c.args.steps.1 results _ _ (c.in-Some-found_in_type.ensures.elements k results below stand) (c.in-Some-found_in_type-2.ensures.elements k results below stand) (c.call_strips.ensures k room)
