use Rattle.std.proofs.Common.{min, length, get_or, arith, refl, sym, ap, ◌∙◌}
use Rattle.std.proofs.lemmas.List.{length-set}
use Rattle.cu_grid.proofs.Regions.{written_more}
use Rattle.cu_shape.proofs.Axes.{axis_by_axis_from}
use Rattle.cu_codec.proofs.parts.earliest.Goals as goal

pub loop-axis-preserved : goal.loop-axis-preserved
loop-axis-preserved c = record {
  rank = ap length c.put.ensures ∙ (length-set c.loop-axis.least c.loop-axis.axis _ ∙ c.loop-axis.invariant.rank);
  done = written_more c.loop-axis.least c.put.new.self (λ k. min (get_or c.args.a.now k 0) (get_or c.args.b.now k 0)) c.loop-axis.axis c.min.result
      (let r = c.loop-axis.invariant.rank in omega arith) c.put.ensures (rw (c.min.ensures, c.at.ensures, c.at-in-loop-axis.ensures) refl) c.loop-axis.invariant.done;
}

pub returns : goal.returns
returns c =
    axis_by_axis_from min c.loop-axis.least c.args.a.now c.args.b.now c.loop-axis.invariant.rank (sym c.requires) (λ k b. c.loop-axis.invariant.done k (omega arith))
