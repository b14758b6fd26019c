use Rattle.std.proofs.Common.{◌≡◌, ℕ, ◌+◌, map, max, sym, ap, ◌∙◌}
use Rattle.std.specs.List.{range_with_len}
use Rattle.cu_work.specs.Rooms.{task_bytes, task_words}
use Rattle.cu_work.proofs.Lent.{most_more}
use Rattle.cu_work.proofs.rooms.Rooms.make.Goals as goal
use Rattle.cu_shape.specs.Counts.{largest}

-- the most so far and one operation more
one_more : (f : ℕ → ℕ) (k now one before : ℕ) → now ≡ max one before → one ≡ f k → before ≡ largest (map f (range_with_len 0 k))
    → now ≡ largest (map f (range_with_len 0 (k + 1)))
one_more f k now one before e a b = e ∙ ap (λ x. max x before) a ∙ ap (λ x. max (f k) x) b ∙ sym (most_more f k)

pub loop-op-preserved : goal.loop-op-preserved
loop-op-preserved c = record {
  bytes = one_more (task_bytes c.args.plan.now) c.loop-op.op c.max-most_bytes.result c.task_bytes.result c.loop-op.most_bytes c.max-most_bytes.ensures c.task_bytes.ensures c.loop-op.invariant.bytes;
  words = one_more (task_words c.args.plan.now) c.loop-op.op c.max-most_words.result c.task_words.result c.loop-op.most_words c.max-most_words.ensures c.task_words.ensures c.loop-op.invariant.words;
}
