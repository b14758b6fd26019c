use Rattle.std.proofs.Common.{◌≡◌, ◌<◌, ◌≤◌, ◌+◌, ◌*◌, ◌/◌, ℕ, suc, take, length, sym, ap, ◌∙◌, subst, arith, mul-le-mul_right}
use Rattle.std.proofs.lemmas.Nat.{div-mul-add}
use Rattle.cu_num.specs.Dtype.{size_of}
use Rattle.cu_num.specs.Element.{element_at}
use Rattle.cu_num.specs.declared.layout.Endian.TheVariants.{Little}
use Rattle.cu_shape.specs.Index.{product, place_of}
use Rattle.cu_shape.proofs.Places.{place-below}
use Rattle.cu_reduce.specs.Groups.{groups_of, group_counts}
use Rattle.cu_fold.specs.Levels.{extent, results, places_in, levels_from}
use Rattle.cu_fold.specs.Reduced.{is_folded}
use Rattle.cu_take.specs.Taken.{HasTaken, elements_at_places}
use Rattle.cu_take.proofs.Buffers.{size_positive}
use Rattle.cu_fold.proofs.Groups.{extent_is, results_is}
use Rattle.cu_fold.proofs.ResultPlaces.{all_places}
use Rattle.cu_fold.proofs.Totals.{group_total}
use Rattle.cu_fold.proofs.regions.reduce.Goals as goal

counted : (n s own bytes : ℕ) → 0 < s → bytes ≡ n * s → own ≡ s → bytes / own ≡ n
counted n s own bytes some b e = let none : n * s ≡ n * s + 0 = omega arith in (λ i. (b ∙ none) i / e i) ∙ div-mul-add n s 0 some

pub take_part-requires-clause-whole : goal.take_part-requires-clause-whole
take_part-requires-clause-whole c =
    counted (product c.args.dims.now) (size_of c.args.fold.from) c.size.result (length c.args.input.now) (size_positive c.args.fold.from) c.requires.input c.size.ensures
    ∙ sym (c.levels_of-levels.ensures.levels.same_extent ∙ extent_is (is_folded c.args.reduced) 0 c.args.dims.now)

pub take_part-requires-clause-out : goal.take_part-requires-clause-out
take_part-requires-clause-out c =
    c.fill.auto.out ∙ c.requires.out ∙ ap (λ r. r * size_of c.args.fold.acc) (sym (c.levels_of-levels.ensures.levels.same_results ∙ results_is (is_folded c.args.reduced) 0 c.args.dims.now))

pub returns : goal.returns
returns c idx inside =
    let p = is_folded c.args.reduced in
    let dims = c.args.dims.now in
    let fold = c.args.fold in
    let counts = group_counts (groups_of p dims) dims in
    let q = place_of counts idx in
    let s = size_of fold.acc in
    let levels = take c.levels_of-levels.result.count c.levels_of-levels.result.list in
    let alike = c.levels_of-levels.ensures.levels in
    let below : q < product counts = place-below counts idx inside in
    let last : suc q * s ≤ product counts * s = mul-le-mul_right s below in
    let own : q < results (levels_from p 0 dims) = omega (arith, below, results_is p 0 dims) in
    let same = alike.same_results in
    let whole : length c.args.input.now / c.size.result ≡ extent levels =
    counted (product dims) (size_of fold.from) c.size.result (length c.args.input.now) (size_positive fold.from) c.requires.input c.size.ensures ∙ sym (alike.same_extent ∙ extent_is p 0 dims) in
    group_total fold.kind fold.from fold.acc p dims idx c.args.input.now c.fill.new.out c.take_part.new.out c.requires.types c.requires.enough inside
    (c.fill.ensures q (omega (arith, last, c.requires.out)))
    (subst (λ ps. HasTaken fold.kind fold.acc c.fill.new.out c.take_part.new.out q (elements_at_places fold.from c.args.input.now ps))
    (ap (places_in levels q 0) whole ∙ all_places levels q (omega (arith, own, same)) ∙ alike.same_sources q own)
    (c.take_part.ensures.each (λ p. element_at Little fold.from c.args.input.now p) (λ k less. let e : 0 + k ≡ k = omega arith in ap (λ p. element_at Little fold.from c.args.input.now p) e) q (omega (arith, own, same))))
