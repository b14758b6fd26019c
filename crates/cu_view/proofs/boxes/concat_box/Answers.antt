use Rattle.std.proofs.Common.{◌≡◌, ℕ, suc, List, [], get_or, ap, ◌∙◌, arith}
use Rattle.cu_shape.proofs.Places.{inside-length}
use Rattle.cu_origin.proofs.AxesInside.{inside_at}
use Rattle.cu_view.proofs.Concats.{concat_exactly, offset_more, offset_within}
use Rattle.cu_view.proofs.Fitting.{source_is}
use Rattle.cu_view.proofs.boxes.concat_box.Goals as goal

pub range-requires-clause-inside : goal.range-requires-clause-inside
range-requires-clause-inside c =
    let s : c.at-2.result ≡ get_or (get_or c.args.sources.now c.args.number []) c.args.axis 0 = c.at-2.ensures ∙ ap (λ (xs : List ℕ). get_or xs c.args.axis 0) (source_is c.args.sources.now c.args.number c.index-sources-number.result c.requires.number c.index-sources-number.is) in
    let m = offset_more c.args.axis c.args.number c.args.sources.now c.requires.number in
    let t = offset_within c.args.axis (suc c.args.number) c.args.sources.now in
    let o = c.offset-from.ensures in
    let a = c.requires.fits.along in
    omega arith

pub overflow_add-from : goal.overflow_add-from
overflow_add-from c =
    let s : c.at-2.result ≡ get_or (get_or c.args.sources.now c.args.number []) c.args.axis 0 = c.at-2.ensures ∙ ap (λ (xs : List ℕ). get_or xs c.args.axis 0) (source_is c.args.sources.now c.args.number c.index-sources-number.result c.requires.number c.index-sources-number.is) in
    let m = offset_more c.args.axis c.args.number c.args.sources.now c.requires.number in
    let t = offset_within c.args.axis (suc c.args.number) c.args.sources.now in
    let o = c.offset-from.ensures in
    let a = c.requires.fits.along in
    let b = c.at.ensures in
    let z = c.at.type_inv in
    omega arith

pub returns-clause-exactly : goal.returns-clause-exactly
returns-clause-exactly c = λ idx h.
    let s : c.at-2.result ≡ get_or (get_or c.args.sources.now c.args.number []) c.args.axis 0 = c.at-2.ensures ∙ ap (λ (xs : List ℕ). get_or xs c.args.axis 0) (source_is c.args.sources.now c.args.number c.index-sources-number.result c.requires.number c.index-sources-number.is) in
    let o = c.offset-from.ensures in
    let n = inside-length c.args.shape.now idx h in
    let l = c.requires.fits.below in
    let b = inside_at c.args.shape.now idx c.args.axis h l in
    let a = c.requires.fits.along in
    let e = concat_exactly c.args.axis c.args.number c.args.sources.now idx (omega arith) c.requires.number (omega arith) in
    let r = c.range.ensures.exactly idx h in
    (λ w. let v = r.0 w in let x = v.0 in let y = v.1 in e.0 (omega arith, omega arith), λ w. let v = e.1 w in let x = v.0 in let y = v.1 in r.1 (omega arith, omega arith))
