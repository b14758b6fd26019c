use Rattle.std.proofs.Common.{map, sym, ap, ◌∙◌}
use Rattle.std.specs.Int.{w128}
use Rattle.std.proofs.lemmas.Int.{to_z-of_z}
use Rattle.cu_num.specs.Wrap.{wrapped}
use Rattle.cu_shape.proofs.Places.{inside-length}
use Rattle.cu_semantics.specs.Argument.{source_at, source_shape}
use Rattle.cu_semantics.specs.Matmul.{matmul_at}
use Rattle.cu_node.specs.Info.{info_at}
use Rattle.cu_typing.specs.Joined.{arrays_of}
use Rattle.cu_expr.specs.Typing.{argument_of}
use Rattle.cu_mean.specs.Reading.{elements_in}
use Rattle.cu_mean.proofs.NodeTypes.{all_arrays, told_shape, product_is_integer, product_batches}
use Rattle.cu_mean.proofs.node.product_at.Goals as goal

pub matmul_at-requires-clause-integer : goal.matmul_at-requires-clause-integer
matmul_at-requires-clause-integer c =
    let told = arrays_of (map (argument_of c.args.scope.now.infos.now) c.args.args.now) in
    product_is_integer (info_at told 0) (info_at told 1) c.args.scope.now.info.now c.requires.ready.typed

pub matmul_at-requires-clause-left : goal.matmul_at-requires-clause-left
matmul_at-requires-clause-left c =
    let arrays = all_arrays 2 2 c.args.args.now c.requires.ready.args in
    let told = arrays_of (map (argument_of c.args.scope.now.infos.now) c.args.args.now) in
    let a = c.source_dims-a.ensures ∙ ap (λ args. source_shape c.args.scope.now.infos.now args 0) c.as_slice-args.ensures ∙ sym (told_shape c.args.scope.now.infos.now c.args.args.now 0 arrays) in
    let b = c.source_dims-b.ensures ∙ ap (λ args. source_shape c.args.scope.now.infos.now args 1) c.as_slice-args.ensures ∙ sym (told_shape c.args.scope.now.infos.now c.args.args.now 1 arrays) in
    rw (a, b) (product_batches (info_at told 0) (info_at told 1) c.args.scope.now.info.now c.args.scope.now.idx.now c.requires.ready.typed (inside-length c.args.scope.now.info.now.dims c.args.scope.now.idx.now c.requires.inside)).0

pub matmul_at-requires-clause-right : goal.matmul_at-requires-clause-right
matmul_at-requires-clause-right c =
    let arrays = all_arrays 2 2 c.args.args.now c.requires.ready.args in
    let told = arrays_of (map (argument_of c.args.scope.now.infos.now) c.args.args.now) in
    let a = c.source_dims-a.ensures ∙ ap (λ args. source_shape c.args.scope.now.infos.now args 0) c.as_slice-args.ensures ∙ sym (told_shape c.args.scope.now.infos.now c.args.args.now 0 arrays) in
    let b = c.source_dims-b.ensures ∙ ap (λ args. source_shape c.args.scope.now.infos.now args 1) c.as_slice-args.ensures ∙ sym (told_shape c.args.scope.now.infos.now c.args.args.now 1 arrays) in
    rw (a, b) (product_batches (info_at told 0) (info_at told 1) c.args.scope.now.info.now c.args.scope.now.idx.now c.requires.ready.typed (inside-length c.args.scope.now.info.now.dims c.args.scope.now.idx.now c.requires.inside)).1

pub returns : goal.returns
returns c env k e =
    let s = c.as_slice-args.ensures in
    let a = c.source_dims-a.ensures ∙ ap (λ args. source_shape c.args.scope.now.infos.now args 0) s in
    let b = c.source_dims-b.ensures ∙ ap (λ args. source_shape c.args.scope.now.infos.now args 1) s in
    let d = sym e in
    to_z-of_z w128 c.matmul_at.result (record { sfits = c.matmul_at.type_inv })
    ∙ c.matmul_at.ensures
    ∙ (λ i. wrapped (d i).dtype (matmul_at (source_at (elements_in c.args.scope.now.plains.now) (s i) 0) (a i) (source_at (elements_in c.args.scope.now.plains.now) (s i) 1) (b i) c.args.scope.now.idx.now))
