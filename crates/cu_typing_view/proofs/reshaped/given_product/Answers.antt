use Rattle.std.proofs.Common.{◌∙◌, ◌+◌, ◌*◌, ℤ, pos, List, get_or, drop, min, ap, sym, arith}
use Rattle.std.proofs.lemmas.List.{drop_more}
use Rattle.cu_shape.specs.Index.{product}
use Rattle.cu_typing_view.specs.Reshaped.{given}
use Rattle.cu_typing_view.proofs.Divided.{capped_more}
use Rattle.cu_typing_view.proofs.reshaped.given_product.Goals as goal

pub loop-size-preserved : goal.loop-size-preserved
loop-size-preserved c =
    let xs = c.args.shape.now in
    let k = c.loop-size.size-index in
    let d = get_or xs k (pos 0) in
    let rest = drop (k + 1) xs in
    let n = c.loop-size.count in
    record {
      small = let e = c.capped-count.ensures in omega arith;
      whole = c.loop-size.invariant.whole
          ∙ (ap (λ (ys : List ℤ). min (n * product (given ys)) 1099511627777) (drop_more xs k (pos 0) (omega arith))
          ∙ (sym (capped_more n d rest 1099511627777 c.loop-size.invariant.small) ∙ ap (λ m. min (m * product (given rest)) 1099511627777) (sym c.capped-count.ensures)));
    }
