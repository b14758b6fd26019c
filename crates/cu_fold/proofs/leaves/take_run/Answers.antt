use Rattle.std.proofs.Common.{ℕ, ℤ, ◌∷◌, [], sym, subst, arith}
use Rattle.std.specs.List.{range_with_len}
use Rattle.std.proofs.lemmas.List.FromFn.{map-range_with_len_more}
use Rattle.cu_num.specs.Element.{element_at}
use Rattle.cu_num.specs.declared.layout.Endian.TheVariants.{Little}
use Rattle.cu_take.specs.Taken.{HasTaken, elements_at_places}
use Rattle.cu_take.proofs.Taking.{takes_more}
use Rattle.cu_fold.proofs.leaves.take_run.Goals as goal

pub loop-place-preserved : goal.loop-place-preserved
loop-place-preserved c =
    let at = c.loop-place.place in
    let f : ℕ → ℤ = λ p. element_at Little c.args.from c.args.input.now p in
    let more = takes_more c.args.kind c.args.acc c.args.out.now c.loop-place.own c.take_one.new.out 0 (elements_at_places c.args.from c.args.input.now (range_with_len 0 at)) (f at ∷ [])
    c.loop-place.invariant.takes c.take_one.ensures.takes in
    record {
      length = omega (arith, c.take_one.auto.out);
      takes = subst (λ xs. HasTaken c.args.kind c.args.acc c.args.out.now c.take_one.new.out 0 xs) (sym (map-range_with_len_more f 0 at at (omega arith))) more;
    }
