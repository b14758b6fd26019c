use Rattle.std.proofs.Common.{ap, arith, rules}
use Rattle.std.proofs.lemmas.List.Sums.{sum_by_more}
use Rattle.std.proofs.lemmas.Option.{get_or_from_slice_get}
use Rattle.cu_node.specs.declared.info.NodeInfo.{NodeInfo}
use Rattle.cu_shape.specs.Index.{product}
use Rattle.cu_shape.proofs.Products.{product_within}
use Rattle.cu_check.proofs.metadata.count_elements.Goals as goal

pub unreachable-requires : goal.unreachable-requires
unreachable-requires c =
    let most = c.at.ensures.kept.elements in
    let whole = product_within c.at.result.now.dims in
    let some = c.elements.ensures.counted.1 (omega arith) in
    search rules

pub loop-node-preserved : goal.loop-node-preserved
loop-node-preserved c =
    let most = c.at.ensures.kept.elements in
    let whole = product_within c.at.result.now.dims in
    let here = get_or_from_slice_get c.args.types.now c.loop-node.node c.at.result.now c.at.result.now c.at.ensures.value in
    let own = ap (λ (i : NodeInfo). product i.dims) here in
    let more = sum_by_more (λ (i : NodeInfo). product i.dims) c.args.types.now c.loop-node.node c.at.result.now (omega arith) in
    record {
      count = omega (arith, more, own, c.in-Some.ensures.count, c.loop-node.invariant.count);
      few = omega (arith, c.in-Some.ensures.count, c.loop-node.invariant.few);
    }
