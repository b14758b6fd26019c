use Rattle.std.proofs.Common.{◌≡◌, ◌+◌, ◌<◌, ◌++◌, ℕ, List, length, take, drop, IfSome, IfNone, ap, sym, subst, ◌∙◌, arith}
use Rattle.cu_shape.proofs.Axes.{length-axis_by_axis}
use Rattle.cu_node.specs.declared.index_item.IndexItem.{IndexItem}
use Rattle.cu_typing_view.specs.Entries.{clipped_chunk_size, chunk_left}
use Rattle.cu_typing_view.proofs.AxisRanges.{axes_range}
use Rattle.cu_typing_view.proofs.entries.with_chunk.Goals as goal

pub with_range-requires-clause-within : goal.with_range-requires-clause-within
with_range-requires-clause-within c =
    let r = c.requires.kept.ranks in
    let long = ap length c.requires.whole ∙ length-axis_by_axis clipped_chunk_size c.args.array.now.dims c.args.array.now.chunk (sym r) in
    let w = c.requires.within in
    omega arith

pub returns-in-Ellipsis-clause-left : goal.returns-in-Ellipsis-clause-left
returns-in-Ellipsis-clause-left c =
    let ns = drop c.args.axis c.args.array.now.dims in
    let cs = drop c.args.axis c.args.array.now.chunk in
    let here : take c.args.more (drop c.args.axis c.args.whole.now) ≡ chunk_left c.args.more c.args.item.now ns cs =
    ap (λ xs. take c.args.more (drop c.args.axis xs)) c.requires.whole
    ∙ (axes_range clipped_chunk_size c.args.more c.args.axis c.args.array.now.dims c.args.array.now.chunk (sym c.requires.kept.ranks) ∙ ap (λ (item : IndexItem). chunk_left c.args.more item ns cs) (sym c.in-Ellipsis.is)) in
    let P : List ℕ → Type 0 = λ xs. IfSome c.with_range.result (λ r. r ≡ c.args.left.now ++ xs) in
    subst P here c.with_range.ensures.more

pub returns-in-Ellipsis-clause-full : goal.returns-in-Ellipsis-clause-full
returns-in-Ellipsis-clause-full c =
    let ns = drop c.args.axis c.args.array.now.dims in
    let cs = drop c.args.axis c.args.array.now.chunk in
    let here : take c.args.more (drop c.args.axis c.args.whole.now) ≡ chunk_left c.args.more c.args.item.now ns cs =
    ap (λ xs. take c.args.more (drop c.args.axis xs)) c.requires.whole
    ∙ (axes_range clipped_chunk_size c.args.more c.args.axis c.args.array.now.dims c.args.array.now.chunk (sym c.requires.kept.ranks) ∙ ap (λ (item : IndexItem). chunk_left c.args.more item ns cs) (sym c.in-Ellipsis.is)) in
    let P : List ℕ → Type 0 = λ xs. IfNone c.with_range.result (6 < length c.args.left.now + length xs) in
    subst P here c.with_range.ensures.full
