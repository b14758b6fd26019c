use Rattle.std.proofs.Common.{◌≡◌, inl, inr, ℕ, ◌+◌, ◌-◌, ◌*◌, length, get_or, max, rules, refl, sym, ap, ◌∙◌, subst, arith}
use Rattle.cu_num.specs.Dtype.{size_of}
use Rattle.cu_shape.specs.Index.{product}
use Rattle.cu_print.proofs.BandAxes.{ChosenAxis, last_axis, chosen_last, chosen_here, chosen_later, wide_before, wide_positive}
use Rattle.cu_print.proofs.bands.bands_of.Goals as goal
use Rattle.cu_print.proofs.bands.bands_of.Goals.{else-at-gt1-via-then-at-gt1+else-is_small, else-at-gt1-via-else-at-gt1}

pub loop-axis-init : goal.loop-axis-init
loop-axis-init c =
    let r = c.rank-axis.ensures.rank in
    let e = ap length c.shape-shape.ensures.value in
    record {
      wide_rank = search rules;
      wide_positive = search rules;
      rank = search rules;
      positive = search rules;
      bytes = search rules;
      wide_is = c.chunk-chunk.ensures.value ∙ last_axis c.args.layout.now (c.rank-axis.result - 1) c.requires.grid (omega arith);
      chosen = subst (ChosenAxis c.args.layout.now (c.rank-axis.result - 1)) (sym c.chunk-chunk.ensures.value) (chosen_last c.args.layout.now (c.rank-axis.result - 1) c.requires.grid (omega arith));
    }

pub loop-axis-preserved-then-is_small : goal.loop-axis-preserved-then-is_small
loop-axis-preserved-then-is_small c =
    let r = c.rank-axis.ensures.rank in
    let e = ap length c.shape-shape.ensures.value in
    let test = c.loop-axis-test.true in
    let size : c.max.result ≡ max 1 (get_or c.args.layout.now.grid.shape (c.loop-axis.axis - 1) 0) = rw (c.max.ensures, c.at.ensures, c.shape-shape.ensures.value) (omega arith) in
    let wide = c.put.ensures
    ∙ wide_before c.args.layout.now (c.loop-axis.axis - 1) c.max.result c.loop-axis.wide c.requires.grid (omega arith) (omega arith) c.loop-axis.invariant.wide_is size in
    record {
      wide_rank = search rules;
      wide_positive = wide_positive c.args.layout.now (c.loop-axis.axis - 1 - 1) c.put.new.self c.requires.grid wide;
      rank = search rules;
      positive = wide_positive c.args.layout.now (c.loop-axis.axis - 1 - 1) c.put.new.self c.requires.grid wide;
      bytes = search rules;
      wide_is = wide;
      chosen = chosen_here c.args.layout.now (c.loop-axis.axis - 1 - 1) c.put.new.self wide;
    }

pub loop-axis-preserved : goal.loop-axis-preserved
loop-axis-preserved c =
    let r = c.rank-axis.ensures.rank in
    let e = ap length c.shape-shape.ensures.value in
    let test = c.loop-axis-test.true in
    let size : c.max.result ≡ max 1 (get_or c.args.layout.now.grid.shape (c.loop-axis.axis - 1) 0) = rw (c.max.ensures, c.at.ensures, c.shape-shape.ensures.value) (omega arith) in
    let wide = c.put.ensures
    ∙ wide_before c.args.layout.now (c.loop-axis.axis - 1) c.max.result c.loop-axis.wide c.requires.grid (omega arith) (omega arith) c.loop-axis.invariant.wide_is size in
    let before : c.loop-axis.axis - 1 ≡ c.loop-axis.axis - 1 - 1 + 1 = omega arith in
    let here : c.at-in-loop-axis.result ≡ get_or c.args.layout.now.grid.chunk (c.loop-axis.axis - 1 - 1) 0 = rw (c.at-in-loop-axis.ensures, c.chunk-chunk.ensures.value) refl in
    let bytes = ap (λ xs. product xs * size_of c.args.layout.now.dtype) wide in
    record {
      wide_rank = search rules;
      wide_positive = wide_positive c.args.layout.now (c.loop-axis.axis - 1 - 1) c.put.new.self c.requires.grid wide;
      rank = search rules;
      positive = search rules;
      bytes = search rules;
      wide_is = wide;
      chosen = chosen_later c.args.layout.now (c.loop-axis.axis - 1 - 1) c.loop-axis.band (omega arith)
          (elim c.else-at-gt1.branch [
            | else-at-gt1-via-then-at-gt1+else-is_small w ↦ inr (let large = w.if-is_small.ensures.large in omega (arith, bytes, large))
            | else-at-gt1-via-else-at-gt1 w ↦ inl (let few = w.if-at-gt1.false in omega (arith, here, few))
          ])
          (subst (λ (k : ℕ). ChosenAxis c.args.layout.now k c.loop-axis.band) before c.loop-axis.invariant.chosen);
    }
