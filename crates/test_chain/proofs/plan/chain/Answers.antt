use Rattle.cu_num.specs.declared.types.Dtype.TheVariants.{Int32}
use Rattle.test_chain.proofs.Chains.{chain_sound}
use Rattle.test_chain.proofs.plan.chain.Goals as goal

pub make-requires : goal.make-requires
make-requires c =
    rw (
      c.in_ok-arrays.ensures.items,
      c.in_ok-ops.ensures.items,
      c.array-left.ensures,
      c.array-right.ensures,
      c.array-middle.ensures,
      c.array-last.ensures,
      c.in_ok-key.ensures,
      c.in_ok-key-2.ensures,
      c.in_ok-key-3.ensures,
      c.in_ok-key-4.ensures,
      c.sum.ensures,
      c.sum-2.ensures,
    ) (chain_sound (c.promotion_law.ensures.equal Int32))
