use Rattle.std.proofs.Common.{max, length, get_or, arith, refl, sym, ap, ◌∙◌}
use Rattle.std.proofs.lemmas.List.{length-set}
use Rattle.cu_grid.proofs.Regions.{written_more}
use Rattle.cu_shape.proofs.Axes.{axis_by_axis_from}
use Rattle.cu_codec.proofs.parts.latest.Goals as goal

pub loop-axis-preserved : goal.loop-axis-preserved
loop-axis-preserved c = record {
  rank = ap length c.put.ensures ∙ (length-set c.loop-axis.most c.loop-axis.axis _ ∙ c.loop-axis.invariant.rank);
  done = written_more c.loop-axis.most c.put.new.self (λ k. max (get_or c.args.a.now k 0) (get_or c.args.b.now k 0)) c.loop-axis.axis c.max.result
      (let r = c.loop-axis.invariant.rank in omega arith) c.put.ensures (rw (c.max.ensures, c.at.ensures, c.at-in-loop-axis.ensures) refl) c.loop-axis.invariant.done;
}

pub returns : goal.returns
returns c =
    axis_by_axis_from max c.loop-axis.most c.args.a.now c.args.b.now c.loop-axis.invariant.rank (sym c.requires) (λ k b. c.loop-axis.invariant.done k (omega arith))
