use Rattle.std.proofs.Common.{◌≡◌, ◌<◌, ◌+◌, ◌^◌, pos, length, get_or, refl, sym, ap, ◌∙◌, subst, arith}
use Rattle.std.proofs.lemmas.Int.{ints}
use Rattle.std.specs.Int.{w128, cast_signed, cast_unsigned}
use Rattle.cu_num.specs.Dtype.{size_of}
use Rattle.cu_num.specs.Element.{element_at, element_bytes, bytes_at}
use Rattle.cu_num.specs.declared.types.Dtype.TheVariants.{Int64}
use Rattle.cu_num.specs.declared.layout.Endian.TheVariants.{Little}
use Rattle.cu_num.proofs.ElementBytes.{bytes_at-written_at_same, length-element_bytes}
use Rattle.cu_shape.specs.Index.{product, place_of, sums, IsInside}
use Rattle.cu_shape.proofs.Places.{length-index_at, place-index}
use Rattle.cu_pairs.proofs.Parts.{kept, element_count}
use Rattle.cu_pairs.proofs.Ordered.{inside_whole}
use Rattle.cu_pairs.proofs.WholePart.{below_limit, in_part, best_of_part}
use Rattle.cu_pairs.proofs.pairs.best_of_all.Goals as goal

pub moved-index-requires-clause-ranks : goal.moved-index-requires-clause-ranks
moved-index-requires-clause-ranks c =
    sym (ap length c.index_of.ensures.index ∙ length-index_at c.args.part.dims.now _ ∙ c.requires.ranks)

pub moved-index-requires-clause-small : goal.moved-index-requires-clause-small
moved-index-requires-clause-small c k b =
    let part = c.args.part in
    let at = c.first_best_of_type-at.result in
    let below : at < product part.dims.now = omega (arith, c.first_best_of_type-at.ensures.within, element_count c.args.t (product part.dims.now) (size_of c.args.t) (length c.args.input.now) refl c.requires.input) in
    let index = c.index_of.ensures.index in
    let own = length-index_at part.dims.now at in
    let rank : length c.index_of.result ≡ length part.dims.now = ap length index ∙ own in
    subst (λ i. get_or part.lo.now k 0 + get_or i k 0 < 2 ^ 64) (sym index) (below_limit part.shape.now part.lo.now part.dims.now at k c.requires.region c.requires.ranks c.requires.small below (omega arith))

pub place-requires-clause-inside : goal.place-requires-clause-inside
place-requires-clause-inside c =
    let part = c.args.part in
    let at = c.first_best_of_type-at.result in
    let below : at < product part.dims.now = omega (arith, c.first_best_of_type-at.ensures.within, element_count c.args.t (product part.dims.now) (size_of c.args.t) (length c.args.input.now) refl c.requires.input) in
    subst (IsInside part.shape.now) (sym (c.moved-index.ensures ∙ ap (sums part.lo.now) c.index_of.ensures.index)) (inside_whole part.shape.now part.lo.now part.dims.now at c.requires.region c.requires.ranks below)

pub returns : goal.returns
returns c =
    let part = c.args.part in
    let t = c.args.t in
    let at = c.first_best_of_type-at.result in
    let f = in_part t c.args.input.now part.shape.now part.lo.now part.dims.now in
    let best = best_of_part c.args.least t c.args.input.now part.shape.now part.lo.now part.dims.now at c.requires.region c.requires.ranks c.requires.input c.first_best_of_type-at.ensures in
    let below : at < product part.dims.now = omega (arith, c.first_best_of_type-at.ensures.within, element_count c.args.t (product part.dims.now) (size_of c.args.t) (length c.args.input.now) refl c.requires.input) in
    let read = kept c.load.result (record { sfits = c.load.type_inv }) ∙ c.load.ensures.value ∙ ap (element_at Little t c.args.input.now) (sym (place-index part.dims.now at below)) in
    let index = c.moved-index.ensures ∙ ap (sums part.lo.now) c.index_of.ensures.index in
    let number : cast_signed w128 (cast_unsigned w128 c.from.result) ≡ pos c.place.result = omega (arith, ints, c.from.ensures) in
    let place : cast_signed w128 (cast_unsigned w128 c.from.result) ≡ (f at).place = number ∙ ap pos (c.place.ensures.place ∙ ap (place_of part.shape.now) index) in (
      f at,
      best,
      (
        ap (λ all. bytes_at t all 0) c.save.ensures ∙ bytes_at-written_at_same t c.args.values.now _ 0 (length-element_bytes Little t _) (omega (arith, c.requires.values)) ∙ ap (element_bytes Little t) read,
        ap (λ all. bytes_at Int64 all 0) c.save-2.ensures ∙ bytes_at-written_at_same Int64 c.args.places.now _ 0 (length-element_bytes Little Int64 _) (omega (arith, c.requires.places)) ∙ ap (element_bytes Little Int64) place,
      ),
    )
