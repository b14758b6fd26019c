use Rattle.std.proofs.Common.{◌≡◌, ◌+◌, ◌≤◌, ◌^◌, true, ℕ, List, drop, map, max, sum_by, ap, sym, subst, ◌∙◌}
use Rattle.cu_shape.specs.Counts.{largest}
use Rattle.cu_node.specs.Info.{info_at}
use Rattle.cu_node.specs.declared.info.NodeInfo.{NodeInfo}
use Rattle.cu_node.specs.Limited.{is_chunk_within}
use Rattle.cu_typing.specs.Joined.{aligned_chunk, aligned_within}
use Rattle.cu_need.specs.Chunks.{arrays_in, aligned_bytes}
use Rattle.cu_need.proofs.LoopSteps.{node_next, other_next, array_most, array_summed, most_small, none_small, rest_true, sum_small}
use Rattle.cu_need.proofs.elementwise.function_bytes.Goals as goal
use Rattle.cu_need.proofs.elementwise.function_bytes.Goals.{in-Node, in_default}

pub loop-arg-preserved : goal.loop-arg-preserved
loop-arg-preserved c =
    let made = c.args.made.now in
    let infos = c.args.infos.now in
    let args = c.args.args.now in
    let i = c.loop-arg.arg-index in
    let f = aligned_bytes made in
    let here = arrays_in infos (drop i args) in
    let rest = arrays_in infos (drop (i + 1) args) in
    let old = c.loop-arg in
    let known = c.loop-arg.invariant in
    let new = c.match-arg in
    elim c.match-arg.branch [
      | in-Node w ↦
          let array = info_at infos w.in-Node.number in
          let next = node_next infos args i w.in-Node.number _ c.loop-arg-test.true w.in-Node.is in
          let own = w.aligned_bytes-aligned.ensures.bytes ∙ ap f w.info_at.ensures in
          let now = w.scratch-is ∙ w.max-scratch.ensures in
          record {
            small = most_small old.scratch w.aligned_bytes-aligned.result new.scratch now known.small w.aligned_bytes-aligned.ensures.small;
            few = sum_small old.regions w.aligned_bytes-aligned.result new.regions i w.regions-is known.few w.aligned_bytes-aligned.ensures.small;
            within = rest_true (is_chunk_within array.dtype (aligned_chunk made.dims made.chunk array)) (aligned_within made.dims made.chunk rest) (subst (λ (is : List NodeInfo). aligned_within made.dims made.chunk is ≡ true) next known.within);
            scratch = array_most f here rest array old.scratch w.aligned_bytes-aligned.result new.scratch _ next own now known.scratch;
            regions = array_summed f here rest array old.regions w.aligned_bytes-aligned.result new.regions _ next own w.regions-is known.regions;
          }
      | in_default w ↦
          let next = other_next infos args i _ c.loop-arg-test.true w.in_default.not-Node in
          record {
            small = subst (λ (n : ℕ). n ≤ 2 ^ 28) (sym w.scratch-is) known.small;
            few = none_small old.regions new.regions i w.regions-is known.few;
            within = subst (λ (is : List NodeInfo). aligned_within made.dims made.chunk is ≡ true) next known.within;
            scratch = ap (λ n. max n (largest (map f rest))) w.scratch-is ∙ ap (λ (is : List NodeInfo). max old.scratch (largest (map f is))) (sym next) ∙ known.scratch;
            regions = ap (λ n. n + sum_by f rest) w.regions-is ∙ ap (λ (is : List NodeInfo). old.regions + sum_by f is) (sym next) ∙ known.regions;
          }
    ]
