use Rattle.std.proofs.Common.{◌≡◌, ◌+◌, ◌++◌, ◌∷◌, [], ℤ, drop, ap, ◌∙◌, arith}
use Rattle.std.specs.Prelude.{slice_index}
use Rattle.std.specs.Int.{w64, w128}
use Rattle.std.proofs.lemmas.Int.{to_z-of_z}
use Rattle.cu_shape.specs.Slice.{from_end}
use Rattle.cu_semantics.specs.Index.{natural}
use Rattle.cu_semantics.specs.View.{indexed_from}
use Rattle.cu_mean.proofs.IndexEntries.{place_step, number_taken}
use Rattle.cu_mean.proofs.indexing.take_place.Goals as goal

pub returns-clause-taken : goal.returns-clause-taken
returns-clause-taken c spare items =
    let f = c.args.front.now in
    let shape = c.args.shape.now in
    let idx = c.args.idx.now in
    let v = natural (from_end c.args.x (slice_index shape f.axis)) in
    let place = to_z-of_z w128 c.place_on.result (record { sfits = c.place_on.type_inv }) ∙ c.place_on.ensures ∙ (λ i. from_end (to_z-of_z w64 c.args.x c.ranges.x i) (c.at.ensures i)) in
    let read : c.push_number.new.read ≡ f.read ++ v ∷ [] = c.if-not-push_number.ensures.pushed ∙ ap (λ (z : ℤ). f.read ++ natural z ∷ []) place in
    let rank = c.rank.ensures.rank in
    let within = c.requires in
    number_taken f.read c.push_number.new.read (indexed_from spare items (drop (f.axis + 1) shape) (drop f.at idx)) _ v read
    (place_step spare c.args.x items shape (drop f.at idx) f.axis (omega arith))
