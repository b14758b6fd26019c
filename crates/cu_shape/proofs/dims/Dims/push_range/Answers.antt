use Rattle.std.proofs.Common.{◌≡◌, ◌+◌, ◌++◌, [], ◌∷◌, length, ap, ◌∙◌, arith}
use Rattle.std.specs.List.{slice_range}
use Rattle.std.proofs.lemmas.List.{length-append}
use Rattle.cu_shape.proofs.Ranges.{pushed}
use Rattle.cu_shape.proofs.dims.Dims.push_range.Goals as goal

pub loop-axis-preserved : goal.loop-axis-preserved
loop-axis-preserved c =
    let more : c.push.new.self ≡ c.loop-axis.self ++ c.at.result ∷ [] = c.push.ensures in
    let long = ap length more ∙ length-append c.loop-axis.self (c.at.result ∷ []) in
    record {
      room = omega arith;
      copied = ap (λ xs. xs ++ slice_range c.args.from.now (c.loop-axis.axis + 1) c.args.end) more
          ∙ (pushed c.loop-axis.self c.args.from.now c.loop-axis.axis c.args.end c.at.result (omega arith) (omega arith) c.at.ensures ∙ c.loop-axis.invariant.copied);
    }
