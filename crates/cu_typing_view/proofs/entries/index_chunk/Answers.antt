use Rattle.std.proofs.Common.{◌≡◌, ◌<◌, ◌++◌, [], ℕ, List, ◌+◌, length, take, drop, get_or, min, pos, IfSome, IfNone, ap, sym, subst, ◌∙◌, arith}
use Rattle.std.proofs.Math.ListN.{drop_of_length-le}
use Rattle.std.proofs.lemmas.List.{length-append, drop_more}
use Rattle.cu_shape.proofs.Axes.{length-axis_by_axis}
use Rattle.cu_node.specs.declared.index_item.IndexItem.{IndexItem}
use Rattle.cu_node.specs.declared.index_item.IndexItem.TheVariants.{At}
use Rattle.cu_typing_view.specs.Entries.{clipped_chunk_size, index_chunk}
use Rattle.cu_typing_view.proofs.AxisRanges.{axes_rest}
use Rattle.cu_typing_view.proofs.IndexSteps.{more_chunk, still_within}
use Rattle.cu_typing_view.proofs.entries.index_chunk.Goals as goal

pub with_range-requires-clause-within : goal.with_range-requires-clause-within
with_range-requires-clause-within c =
    let r = c.requires.kept.ranks in
    let long = ap length c.cut_whole-whole.ensures ∙ length-axis_by_axis clipped_chunk_size c.args.array.now.dims c.args.array.now.chunk (sym r) in
    let w = c.loop-item.invariant.within in
    omega arith

-- behind the last entry the axes that are left stay
all_left : (c : goal.After-with_range) → c.loop-item.left ++ take c.rank-rank.result (drop c.loop-item.axis c.cut_whole-whole.result) ≡ index_chunk c.args.more c.args.items.now c.args.array.now.dims c.args.array.now.chunk
all_left c =
    let ns = c.args.array.now.dims in
    let cs = c.args.array.now.chunk in
    let none : drop c.loop-item.item-index c.args.items.now ≡ [] = drop_of_length-le c.args.items.now (omega arith) in
    let rest = ap (λ xs. take c.rank-rank.result (drop c.loop-item.axis xs)) c.cut_whole-whole.ensures
    ∙ axes_rest clipped_chunk_size c.rank-rank.result c.loop-item.axis ns cs (sym c.requires.kept.ranks) (let r = c.rank-rank.ensures.rank in omega arith) in
    ap (λ xs. c.loop-item.left ++ xs) (rest ∙ ap (λ (items : List IndexItem). index_chunk c.args.more items (drop c.loop-item.axis ns) (drop c.loop-item.axis cs)) (sym none))
    ∙ sym c.loop-item.invariant.whole

pub returns-clause-chunk : goal.returns-clause-chunk
returns-clause-chunk c =
    let P : List ℕ → Type 0 = λ xs. IfSome c.with_range.result (λ r. r ≡ xs) in
    subst P (all_left c) c.with_range.ensures.more

pub returns-clause-full : goal.returns-clause-full
returns-clause-full c =
    let long = sym (length-append c.loop-item.left (take c.rank-rank.result (drop c.loop-item.axis c.cut_whole-whole.result))) ∙ ap length (all_left c) in
    let P : ℕ → Type 0 = λ n. IfNone c.with_range.result (6 < n) in
    subst P long c.with_range.ensures.full

pub loop-item-preserved : goal.loop-item-preserved
loop-item-preserved c =
    let items = c.args.items.now in
    let ns = c.args.array.now.dims in
    let cs = c.args.array.now.chunk in
    let i = c.loop-item.item-index in
    let item = get_or items i (At (pos 0)) in
    record {
      within = still_within c.loop-item.axis c.width_of.result c.min-axis.result (length ns) (c.min-axis.ensures ∙ ap (λ n. min (c.loop-item.axis + c.width_of.result) n) c.rank-rank.ensures.rank);
      whole = more_chunk c.args.more item items ns cs (index_chunk c.args.more items ns cs) c.loop-item.left c.in_ok-left.left i c.loop-item.axis c.width_of.result c.min-axis.result c.rank-rank.result
          (drop_more items i (At (pos 0)) c.loop-item-test.true) c.width_of.ensures.value c.rank-rank.ensures.rank c.requires.kept.ranks c.min-axis.ensures c.in_ok-left.ensures.left c.loop-item.invariant.whole;
    }
