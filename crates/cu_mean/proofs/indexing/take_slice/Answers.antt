use Rattle.std.proofs.Common.{◌≡◌, ◌+◌, ◌++◌, ◌∷◌, [], ℕ, pos, drop, unwrap_or, ap, ◌∙◌, arith}
use Rattle.std.specs.Prelude.{slice_index}
use Rattle.std.specs.Int.{w128}
use Rattle.std.proofs.lemmas.Int.{to_z-of_z}
use Rattle.cu_semantics.specs.Index.{natural}
use Rattle.cu_semantics.specs.View.{indexed_from, sliced_index}
use Rattle.cu_mean.proofs.IndexEntries.{slice_step, number_taken}
use Rattle.cu_mean.proofs.indexing.take_slice.Goals as goal

pub returns-clause-taken : goal.returns-clause-taken
returns-clause-taken c spare items =
    let f = c.args.front.now in
    let b = c.args.bounds in
    let shape = c.args.shape.now in
    let idx = c.args.idx.now in
    let v = sliced_index b.start b.stop (unwrap_or b.step (pos 1)) (slice_index shape f.axis) (slice_index idx f.at) in
    let number = ap natural (to_z-of_z w128 c.slice_at-number.result (record { sfits = c.slice_at-number.type_inv })) ∙ c.slice_at-number.ensures ∙ (λ i. sliced_index b.start b.stop (unwrap_or b.step (pos 1)) (c.at.ensures i) (c.at-2.ensures i)) in
    let read : c.push_number.new.read ≡ f.read ++ v ∷ [] = c.if-not-push_number.ensures.pushed ∙ ap (λ (n : ℕ). f.read ++ n ∷ []) number in
    let rank = c.rank.ensures.rank in
    let rank_of_idx = c.rank-2.ensures.rank in
    let within = c.requires.front in
    number_taken f.read c.push_number.new.read (indexed_from spare items (drop (f.axis + 1) shape) (drop (f.at + 1) idx)) _ v read
    (slice_step spare b.start b.stop b.step items shape idx f.axis f.at (omega arith) (omega arith))
