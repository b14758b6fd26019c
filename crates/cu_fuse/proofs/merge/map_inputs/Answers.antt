use Rattle.std.proofs.Common.{◌≡◌, List, ℕ, ◌+◌, ◌++◌, drop, ap, sym, ◌∙◌, append_assoc, false, true}
use Rattle.cu_op.specs.Operation.{reads_of}
use Rattle.cu_fuse.specs.Fused.{is_map, map_inputs}
use Rattle.cu_fuse.proofs.ByKernel.{map_told, other_told}
use Rattle.cu_fuse.proofs.Scanning.{from_place, inputs_taken, inputs_passed}
use Rattle.cu_fuse.proofs.merge.map_inputs.Goals as goal
use Rattle.cu_fuse.proofs.merge.map_inputs.Goals.{else-is_some, then-is_some+in_ok-extend_from_slice}

pub loop-planned-preserved : goal.loop-planned-preserved
loop-planned-preserved c =
    let ops = c.args.ops.now in
    let k = c.loop-planned.planned-index in
    let o = c.planned-item.result in
    let rest = drop (k + 1) ops in
    let e = from_place ops k o c.loop-planned-test.true c.planned-item.is in
    elim c.if-is_some.branch [
      | then-is_some+in_ok-extend_from_slice w ↦
          let is : is_map o.op ≡ true = map_told c.kernel.result (λ k. k.now.code.items) o.op (sym c.is_some.ensures ∙ w.if-is_some.true) c.kernel.ensures.kernel in
          let items : c.if-is_some.inputs.items ≡ c.loop-planned.inputs.items ++ reads_of o.op =
          ap (λ v. v.items) w.inputs-is ∙ w.in_ok-extend_from_slice.ensures.items
          ∙ ap (λ (l : List ℕ). c.loop-planned.inputs.items ++ l) (w.as_slice.ensures.value ∙ w.reads.ensures) in
          ap (λ (l : List ℕ). l ++ map_inputs rest) items ∙ append_assoc c.loop-planned.inputs.items (reads_of o.op) (map_inputs rest)
          ∙ ap (λ (l : List ℕ). c.loop-planned.inputs.items ++ l) (sym (inputs_taken (drop k ops) rest o e is)) ∙ c.loop-planned.invariant
      | else-is_some w ↦
          let other : is_map o.op ≡ false = other_told c.kernel.result o.op (sym c.is_some.ensures ∙ w.if-is_some.false) c.kernel.ensures.none in
          ap (λ v. v.items ++ map_inputs rest) w.inputs-is
          ∙ ap (λ (l : List ℕ). c.loop-planned.inputs.items ++ l) (sym (inputs_passed (drop k ops) rest o e other)) ∙ c.loop-planned.invariant
    ]
