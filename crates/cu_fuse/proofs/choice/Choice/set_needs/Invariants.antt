use Rattle.std.proofs.Common.{◌≡◌, ◌++◌, drop, length, map}
use Rattle.std.specs.List.{range_with_len}
use Rattle.cu_fuse.specs.Choosing.{plan_view}
use Rattle.cu_op.specs.PlanView.{operation_at}
use Rattle.cu_op.specs.Projection.{projection}
use Rattle.cu_fuse.proofs.choice.Choice.set_needs.Given as goal

abbrev pub invariant-loop-k : goal.invariant-loop-k
invariant-loop-k l = record {
  plan : plan_view l.self
      ≡ record (plan_view l.initial.self) {
        ops = map (λ j. record (operation_at l.initial.self.ops.items j) { projected = projection (plan_view l.initial.self) j }) (range_with_len 0 l.k)
            ++ drop l.k l.initial.self.ops.items;
      };
  long : length l.self.ops.items ≡ length l.initial.self.ops.items;
}
