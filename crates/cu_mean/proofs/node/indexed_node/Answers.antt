use Rattle.std.proofs.Common.{◌≡◌, List, All, map, sym, ap, ◌∙◌, subst}
use Rattle.cu_node.specs.Info.{info_at}
use Rattle.cu_node.specs.declared.index_item.IndexItem.{IndexItem}
use Rattle.cu_typing.specs.Joined.{arrays_of}
use Rattle.cu_expr.specs.Typing.{argument_of}
use Rattle.cu_semantics.specs.Argument.{source_shape}
use Rattle.cu_semantics.specs.View.{indexed}
use Rattle.cu_mean.specs.Indexing.{HasStep, IsFoundIndex, IsOutsideEach}
use Rattle.cu_mean.proofs.IndexTypes.{index_steps}
use Rattle.cu_mean.proofs.ReadyNodes.{outside_source}
use Rattle.cu_mean.proofs.node.indexed_node.Goals as goal

pub indexed-requires : goal.indexed-requires
indexed-requires c =
    subst (λ (items : List IndexItem). All HasStep items) (sym c.as_slice.ensures)
    (index_steps (info_at (arrays_of (map (argument_of c.args.scope.now.infos.now) c.args.args.now)) 0) c.args.scope.now.info.now c.args.items.now c.requires.ready.typed)

pub returns-in-None : goal.returns-in-None
returns-in-None c env k e =
    let infos = c.args.scope.now.infos.now in
    let shape : c.source_dims-shape.result ≡ source_shape infos c.args.args.now 0 = c.source_dims-shape.ensures ∙ ap (λ args. source_shape infos args 0) c.as_slice-args.ensures in
    let items = c.as_slice.ensures in
    let same : indexed c.as_slice.result.now c.source_dims-shape.result c.args.scope.now.idx.now ≡ indexed c.args.items.now (source_shape infos c.args.args.now 0) c.args.scope.now.idx.now =
    λ i. indexed (items i) (shape i) c.args.scope.now.idx.now in
    let none : IsOutsideEach (indexed c.as_slice.result.now c.source_dims-shape.result c.args.scope.now.idx.now) =
    subst (λ found. IsFoundIndex (indexed c.as_slice.result.now c.source_dims-shape.result c.args.scope.now.idx.now) found) c.in-None.is c.indexed.ensures in
    sym (outside_source infos c.args.scope.now.plains.now c.args.args.now (indexed c.args.items.now (source_shape infos c.args.args.now 0) c.args.scope.now.idx.now) c.requires.ready.kept c.requires.ready.before (subst IsOutsideEach same none))
