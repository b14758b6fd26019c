use Rattle.std.proofs.Common.{◌≡◌, ◌∙◌, ℕ, ◌+◌, ℤ, pos, ◌+ℤ◌, ◌*ℤ◌, ap, arith, rules, get_or, to_z, of_z, w64, if◌then◌else◌}
use Rattle.std.specs.Int.{w128}
use mir.Val.{SFits}
use Rattle.std.proofs.lemmas.Int.{to_z-of_z}
use Rattle.std.specs.Ordering.{int_eq}
use Rattle.cu_num.specs.Element.{element_bytes}
use Rattle.cu_num.specs.declared.layout.Endian.TheVariants.{Little}
use Rattle.cu_origin.specs.Pull.{diagonal_of, is_in_triangle}
use Rattle.cu_origin.specs.Fits.{FitsConcat}
use Rattle.cu_origin.specs.declared.pull.Pull.TheVariants.{Concat, Triangle, Full, Arange, Eye}
use Rattle.cu_view_box.specs.Block.{buffer_place}
use Rattle.cu_view.proofs.Asked.{lo_length, size_small}
use Rattle.cu_view.proofs.Fitting.{fits_as}
use Rattle.cu_view.proofs.Numbers.{same_number, origin_as, outside_triangle, one_or_zero, concat_no_number, line_index}
use Rattle.cu_view.proofs.OneByOne.{place_fits}
use Rattle.cu_view.proofs.Ranges.{inside_of, ends_of}
use Rattle.cu_view.proofs.constants.lay_constants.Goals as goal

pub at-requires : goal.at-requires
at-requires c =
    let f = fits_as _ _ c.args.sources.now c.args.shape.now c.in-Arange.is c.requires.view.fits in
    let n = lo_length c.args.shape.now c.args.to.now.region.lo c.args.to.now.region.hi c.requires.to_region in
    let one = f.1 in
    omega arith

pub fill_with_terms-requires : goal.fill_with_terms-requires
fill_with_terms-requires c =
    let f = fits_as _ _ c.args.sources.now c.args.shape.now c.in-Arange.is c.requires.view.fits in
    let one = f.1 in
    let small = size_small c.args.shape.now 0 c.requires.view.result_size (omega arith) in
    let e = (ends_of c.args.shape.now c.args.to.now.region.lo c.args.to.now.region.hi c.requires.to_region).at 0 (omega arith) in
    let a = e.0 in
    let b = e.1 in
    let v = c.at.ensures in
    omega arith

pub lay_eye-requires-clause-axes : goal.lay_eye-requires-clause-axes
lay_eye-requires-clause-axes c =
    let f = fits_as _ _ c.args.sources.now c.args.shape.now c.in-Eye.is c.requires.view.fits in
    let n = lo_length c.args.shape.now c.args.to.now.region.lo c.args.to.now.region.hi c.requires.to_region in
    n ∙ f.1

pub lay_eye-requires-clause-same_rank : goal.lay_eye-requires-clause-same_rank
lay_eye-requires-clause-same_rank c =
    let f = fits_as _ _ c.args.sources.now c.args.shape.now c.in-Eye.is c.requires.view.fits in
    (ends_of c.args.shape.now c.args.to.now.region.lo c.args.to.now.region.hi c.requires.to_region).hi_rank ∙ f.1

pub returns-in-Full-clause-laid : goal.returns-in-Full-clause-laid
returns-in-Full-clause-laid c = λ idx x w o.
    let fits : SFits w128 c.in-Full.value = search rules in
    let e = same_number _ x (origin_as c.args.pull.now (Full c.in-Full.value) c.args.sources.now c.args.shape.now idx _ c.in-Full.is o) in
    c.fill.ensures.filled (buffer_place c.args.to.now idx) (place_fits c.args.to.now c.args.output.now idx c.requires.to_block w) ∙ ap (element_bytes Little c.args.to.now.dtype) (to_z-of_z w128 c.in-Full.value fits ∙ e)

pub returns-in-Triangle-clause-laid : goal.returns-in-Triangle-clause-laid
returns-in-Triangle-clause-laid c = λ idx x w o.
    let e = outside_triangle (is_in_triangle c.in-Triangle.lower c.in-Triangle.k idx) idx x (origin_as c.args.pull.now (Triangle c.in-Triangle.lower c.in-Triangle.k) c.args.sources.now c.args.shape.now idx _ c.in-Triangle.is o) in
    c.fill-in-Triangle.ensures.filled (buffer_place c.args.to.now idx) (place_fits c.args.to.now c.args.output.now idx c.requires.to_block w) ∙ ap (element_bytes Little c.args.to.now.dtype) e

pub returns-in-Eye-clause-laid : goal.returns-in-Eye-clause-laid
returns-in-Eye-clause-laid c = λ idx x w o.
    let fits : SFits w64 c.in-Eye.k = search rules in
    let e = one_or_zero (int_eq (diagonal_of idx) c.in-Eye.k) x (origin_as c.args.pull.now (Eye c.in-Eye.k) c.args.sources.now c.args.shape.now idx _ c.in-Eye.is o) in
    c.lay_eye.ensures.laid idx w ∙ ap (λ (z : ℤ). element_bytes Little c.args.to.now.dtype (if int_eq (diagonal_of idx) z then pos 1 else pos 0)) (to_z-of_z w64 c.in-Eye.k fits) ∙ ap (element_bytes Little c.args.to.now.dtype) e

pub returns-in-Arange-clause-laid : goal.returns-in-Arange-clause-laid
returns-in-Arange-clause-laid c = λ idx x w o.
    let f = fits_as _ _ c.args.sources.now c.args.shape.now c.in-Arange.is c.requires.view.fits in
    let n = lo_length c.args.shape.now c.args.to.now.region.lo c.args.to.now.region.hi c.requires.to_region ∙ f.1 in
    let e = same_number _ x (origin_as c.args.pull.now (Arange c.in-Arange.start c.in-Arange.step) c.args.sources.now c.args.shape.now idx _ c.in-Arange.is o) in
    let start_fits : SFits w64 c.in-Arange.start = search rules in
    let step_fits : SFits w64 c.in-Arange.step = search rules in
    let at : get_or c.args.to.now.region.lo 0 0 + buffer_place c.args.to.now idx ≡ get_or idx 0 0 = line_index c.args.to.now.dims c.args.to.now.region.lo c.args.to.now.region.hi idx n w (c.requires.to_block.inside idx w) in
    c.fill_with_terms.ensures.filled (buffer_place c.args.to.now idx) (place_fits c.args.to.now c.args.output.now idx c.requires.to_block w)
    ∙ ap (λ (z : ℤ). element_bytes Little c.args.to.now.dtype (z +ℤ pos (c.at.result + buffer_place c.args.to.now idx) *ℤ to_z w64 (of_z w64 c.in-Arange.step))) (to_z-of_z w64 c.in-Arange.start start_fits)
    ∙ ap (λ (z : ℤ). element_bytes Little c.args.to.now.dtype (c.in-Arange.start +ℤ pos (c.at.result + buffer_place c.args.to.now idx) *ℤ z)) (to_z-of_z w64 c.in-Arange.step step_fits)
    ∙ ap (λ (i : ℕ). element_bytes Little c.args.to.now.dtype (c.in-Arange.start +ℤ pos (i + buffer_place c.args.to.now idx) *ℤ c.in-Arange.step)) c.at.ensures
    ∙ ap (λ (i : ℕ). element_bytes Little c.args.to.now.dtype (c.in-Arange.start +ℤ pos i *ℤ c.in-Arange.step)) at
    ∙ ap (element_bytes Little c.args.to.now.dtype) e

pub returns-in-Concat-clause-laid : goal.returns-in-Concat-clause-laid
returns-in-Concat-clause-laid c = λ idx x w o.
    let f : FitsConcat c.in-Concat.axis c.args.sources.now c.args.shape.now = fits_as _ _ c.args.sources.now c.args.shape.now c.in-Concat.is c.requires.view.fits in
    absurd (concat_no_number c.in-Concat.axis c.args.sources.now c.args.shape.now idx x f (inside_of c.args.shape.now c.args.to.now.region.lo c.args.to.now.region.hi idx c.requires.to_region w)
    (origin_as c.args.pull.now (Concat c.in-Concat.axis) c.args.sources.now c.args.shape.now idx _ c.in-Concat.is o))
