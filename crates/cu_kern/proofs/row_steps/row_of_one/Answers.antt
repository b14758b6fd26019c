use Rattle.std.proofs.Common.{length, refl, ◌∙◌, subst, sym, ℕ}
use Rattle.cu_num.specs.Dtype.{size_of}
use Rattle.cu_num.specs.Scalar.{result_type1}
use Rattle.cu_kern.specs.Strips.{strip, HasPlaces}
use Rattle.cu_kern.proofs.Parts.{element_below, element_count}
use Rattle.cu_kern.proofs.RowResults.{one_computed}
use Rattle.cu_kern.proofs.row_steps.row_of_one.Goals as goal

pub call_strips-requires-clause-arguments : goal.call_strips-requires-clause-arguments
call_strips-requires-clause-arguments c =
    let r = result_type1 c.args.f c.args.t in
    let n = element_count r c.args.earlier.range.count (size_of r) (length c.args.out.now) refl c.requires.room in
    let x = c.in-Some-found.x in
    let P : ℕ → Type 0 = HasPlaces c.kind_found-kind.result (strip x.bytes.now x.step) in
    let places = subst P (sym n) c.in-Some-found.ensures.places in
    record { first = places; second = places; third = places }

pub returns : goal.returns
returns c met k results room stand =
    let same = c.call_strips.auto.out in
    let below = element_below (result_type1 c.args.f c.args.t) k c.args.earlier.range.count (length c.call_strips.new.out) (same ∙ c.requires.room) room in
    one_computed c.args.f c.args.t c.call_strips.new.out k c.args.a results _ (c.in-Some-found.ensures.elements k results below stand) (c.call_strips.ensures k room)
