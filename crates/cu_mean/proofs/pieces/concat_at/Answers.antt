use Rattle.std.proofs.Common.{◌≡◌, ◌+◌, ◌-◌, ◌<◌, ◌≤◌, length, drop, sym, ap, ◌∙◌, arith}
use Rattle.std.specs.Prelude.{slice_index, slice_set}
use Rattle.std.specs.Int.{w128}
use Rattle.std.proofs.Math.ListN.{length-set}
use Rattle.std.proofs.lemmas.Int.{to_z-of_z}
use Rattle.cu_semantics.specs.Argument.{source_shape}
use Rattle.cu_semantics.specs.View.{concat_at}
use Rattle.cu_mean.specs.Reading.{elements_in}
use Rattle.cu_mean.proofs.Joined.{concat_here, concat_on, below, not_below}
use Rattle.cu_mean.proofs.pieces.concat_at.Goals as goal

pub returns-then-at-size : goal.returns-then-at-size
returns-then-at-size c =
    let size = source_shape c.args.infos.now c.args.args.now c.loop-number.number in
    let s : c.size_at-size.result ≡ slice_index size c.args.axis = c.size_at-size.ensures ∙ ap (λ n. slice_index n c.args.axis) c.source_dims.ensures in
    let a = c.at-at.ensures in
    let t = c.if-at-size.true in
    let lt : slice_index c.loop-number.read c.args.axis < slice_index size c.args.axis = omega arith in
    to_z-of_z w128 c.source.result (record { sfits = c.source.type_inv })
    ∙ c.source.ensures
    ∙ sym (concat_here c.args.infos.now (elements_in c.args.plains.now) c.args.axis c.args.args.now c.loop-number.number c.loop-number.read c.loop-number-test.true (below _ _ lt))
    ∙ c.loop-number.invariant.rest

pub loop-number-preserved : goal.loop-number-preserved
loop-number-preserved c =
    let size = source_shape c.args.infos.now c.args.args.now c.loop-number.number in
    let read = c.loop-number.read in
    let axis = c.args.axis in
    let s : c.size_at-size.result ≡ slice_index size axis = c.size_at-size.ensures ∙ ap (λ n. slice_index n axis) c.source_dims.ensures in
    let a = c.at-at.ensures in
    let t = c.if-at-size.false in
    let le : slice_index size axis ≤ slice_index read axis = omega arith in
    let put : c.put.new.self ≡ slice_set read axis (slice_index read axis - slice_index size axis) = c.put.ensures ∙ (λ i. slice_set read axis (a i - s i)) in
    record {
      rank = ap length c.put.ensures ∙ length-set c.loop-number.read axis _ ∙ c.loop-number.invariant.rank;
      rest = ap (λ idx. concat_at c.args.infos.now (elements_in c.args.plains.now) axis (drop (c.loop-number.number + 1) c.args.args.now) idx) put
          ∙ sym (concat_on c.args.infos.now (elements_in c.args.plains.now) axis c.args.args.now c.loop-number.number read c.loop-number-test.true (not_below _ _ le))
          ∙ c.loop-number.invariant.rest;
    }
