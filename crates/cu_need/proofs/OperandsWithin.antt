-- What the operands of a node say of the arrays that it reads, whose chunks keep the limits.
use Rattle.std.proofs.Common.{◌≡◌, true, List, [], ◌∷◌, All, map, refl, subst, arith}
use Rattle.std.proofs.lemmas.Bool.{and_from}
use Rattle.std.proofs.lemmas.List.Elements.{All-head, All-tail}
use Rattle.cu_form.specs.declared.args.Arg.{Arg}
use Rattle.cu_node.specs.Limited.{is_chunk_within}
use Rattle.cu_node.specs.declared.info.NodeInfo.{NodeInfo}
use Rattle.cu_typing.specs.Joined.{aligned_chunk, aligned_within}
use Rattle.cu_need.specs.Chunks.{arrays_in}
use Rattle.cu_need.specs.Elementwise.{in_aligned}
use Rattle.cu_copy.specs.Copies.{IsRechunk}
use Rattle.cu_copy.specs.declared.copies.Rechunk.{Rechunk}

all_within : (made : NodeInfo) (is : List NodeInfo) → All IsRechunk (map (in_aligned made) is) → aligned_within made.dims made.chunk is ≡ true
all_within made [] h = refl
all_within made (i ∷ is) h =
    and_from (is_chunk_within i.dtype (aligned_chunk made.dims made.chunk i)) (aligned_within made.dims made.chunk is) (All-head IsRechunk (in_aligned made i) (map (in_aligned made) is) h).bytes
    (all_within made is (All-tail IsRechunk (in_aligned made i) (map (in_aligned made) is) h))

pub arguments_within : (infos : List NodeInfo) (given made : NodeInfo) (args slice : List Arg) (operands : List Rechunk) → All IsRechunk operands → operands ≡ map (in_aligned given) (arrays_in infos args)
    → slice ≡ args → made ≡ given → aligned_within made.dims made.chunk (arrays_in infos slice) ≡ true
arguments_within infos given made args slice operands h are same array = rw (same, array) (all_within given (arrays_in infos args) (subst (All IsRechunk) are h))

pub both_within : (first second : Rechunk) (operands : List Rechunk) → All IsRechunk operands → operands ≡ first ∷ second ∷ [] → IsRechunk first × IsRechunk second
both_within first second operands h are = let own = subst (All IsRechunk) are h in (own 0 first (omega arith), own 1 second (omega arith))
