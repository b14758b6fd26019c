-- Shapes that broadcast together go into the result.
use Rattle.std.proofs.Common.{◌≡◌, ℕ, List, [], ◌∷◌, length, max, replicate, Option, Some, None, Ok, refl, ap, ◌∙◌, arith}
use Rattle.std.proofs.lemmas.List.{length-replicate}
use Rattle.cu_result.proofs.ResultSteps.{step_ok}
use Rattle.cu_shape.specs.Broadcast.{mismatch_of, broadcast_of, rank_of}
use Rattle.cu_shape.proofs.InsideBoth.{length-broadcast_of}
use Rattle.cu_node.specs.declared.info.NodeInfo.{NodeInfo}
use Rattle.cu_typing.specs.Joined.{joined_rank, joined_or, joined_with, joined_after, joined_shape}

-- a shape that is joined with another broadcasts with it
pub joined_two : (o : Option ℕ) (shape joined : List ℕ) → joined_or o shape ≡ Ok joined → (o ≡ None) × (joined ≡ shape)
joined_two None shape joined h = (refl, cc)
joined_two (Some axis) shape joined h = cc

rank_after : (shape : List ℕ) (is : List NodeInfo) (joined : List ℕ) → joined_after shape is ≡ Ok joined → length joined ≡ max (length shape) (joined_rank is)
rank_after shape [] joined h = let e : joined ≡ shape = cc in rw e (omega arith)
rank_after shape (i ∷ is) joined h =
    let s = step_ok (joined_with shape i.dims) (λ joined. joined_after joined is) joined h in
    let two = joined_two (mismatch_of shape i.dims) (broadcast_of shape i.dims) s.0 s.1 in
    let rest = rank_after s.0 is joined s.2 in
    let front : length s.0 ≡ rank_of shape i.dims = ap length two.1 ∙ length-broadcast_of shape i.dims in
    omega arith

-- the result has the greatest rank
pub length-joined_shape : (is : List NodeInfo) (joined : List ℕ) → joined_shape is ≡ Ok joined → length joined ≡ joined_rank is
length-joined_shape is joined h =
    let rank = joined_rank is in
    let same : max rank rank ≡ rank = omega arith in
    rank_after (replicate rank 1) is joined h ∙ (ap (λ n. max n rank) (length-replicate rank 1) ∙ same)
