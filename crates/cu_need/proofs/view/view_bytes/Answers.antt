use Rattle.std.proofs.Common.{◌+◌, ◌≤◌, ◌^◌, ℕ, List, drop, map, max, ap, sym, subst, ◌∙◌}
use Rattle.cu_shape.specs.Counts.{largest}
use Rattle.cu_node.specs.Info.{info_at, chunk_bytes}
use Rattle.cu_node.specs.declared.info.NodeInfo.{NodeInfo}
use Rattle.cu_need.specs.Chunks.{arrays_in}
use Rattle.cu_need.proofs.LoopSteps.{node_next, other_next, array_most, most_small}
use Rattle.cu_need.proofs.view.view_bytes.Goals as goal
use Rattle.cu_need.proofs.view.view_bytes.Goals.{in-Node, in_default}

pub loop-arg-preserved : goal.loop-arg-preserved
loop-arg-preserved c =
    let infos = c.args.infos.now in
    let args = c.args.args.now in
    let i = c.loop-arg.arg-index in
    let here = arrays_in infos (drop i args) in
    let rest = arrays_in infos (drop (i + 1) args) in
    let old = c.loop-arg.scratch in
    let whole = max (chunk_bytes c.args.made.now) (largest (map chunk_bytes (arrays_in infos args))) in
    elim c.match-arg.branch [
      | in-Node w ↦
          let now = w.scratch-is ∙ w.max-scratch.ensures in
          record {
            small = most_small old w.chunk_bytes.result c.match-arg.scratch now c.loop-arg.invariant.small w.chunk_bytes.ensures.small;
            scratch = array_most chunk_bytes here rest (info_at infos w.in-Node.number) old w.chunk_bytes.result c.match-arg.scratch whole (node_next infos args i w.in-Node.number _ c.loop-arg-test.true w.in-Node.is)
                (w.chunk_bytes.ensures.bytes ∙ ap chunk_bytes w.info_at.ensures) now c.loop-arg.invariant.scratch;
          }
      | in_default w ↦
          record {
            small = subst (λ (n : ℕ). n ≤ 2 ^ 28) (sym w.scratch-is) c.loop-arg.invariant.small;
            scratch = ap (λ n. max n (largest (map chunk_bytes rest))) w.scratch-is ∙ ap (λ (is : List NodeInfo). max old (largest (map chunk_bytes is))) (sym (other_next infos args i _ c.loop-arg-test.true w.in_default.not-Node)) ∙ c.loop-arg.invariant.scratch;
          }
    ]
