-- The memory and the tasks of a step that reads arrays of known types and grids and makes one.
use Rattle.std.proofs.Common.{◌≡◌, ℕ, ◌*◌, max, List, [], ◌∷◌, ◌++◌, All, map, get_or, refl, ap, ◌∙◌, inl}
use Rattle.std.proofs.lemmas.List.{get_or_default}
use Rattle.cu_num.specs.Dtype.{size_of}
use Rattle.cu_shape.specs.Counts.{largest}
use Rattle.cu_shape.specs.Index.{product}
use Rattle.cu_grid.specs.Grid.{RegularGrid}
use Rattle.cu_op.specs.Arrays.{grid_at, type_at, chunk_room, grid_counts}
use Rattle.cu_op.proofs.Lists.{greatest_push}
use Rattle.cu_op.specs.declared.layout.ArrayInfo.{ArrayInfo}
use Rattle.cu_node.specs.Info.{chunk_bytes}
use Rattle.cu_node.specs.declared.info.NodeInfo.{NodeInfo}
use Rattle.cu_lower_reduce.specs.Steps.{HasInfo, IsGiven}
use Rattle.cu_tree.specs.Partials.{chunks_of}

map_push : {A : Type 0} (f : A → ℕ) (xs : List A) (x : A) → map f (xs ++ x ∷ []) ≡ map f xs ++ f x ∷ []
map_push f [] x = refl
map_push f (y ∷ ys) x = ap (λ l. f y ∷ l) (map_push f ys x)

-- what is read is given
pub given_all : (ins : List ℕ) (a b : ℕ) → All (IsGiven ins a b) ins
given_all ins a b i d below = inl (i, below, get_or_default ins i (get_or ins i d) d below)

module _ (arrays : List ArrayInfo) where
  pub room_of_known : (a : ℕ) (i : NodeInfo) → HasInfo arrays a i → chunk_room arrays a ≡ chunk_bytes i
  room_of_known a i h = ap (λ (g : RegularGrid). product g.chunk * size_of (type_at arrays a)) h.grid ∙ ap (λ d. product i.chunk * size_of d) h.dtype

  -- the greatest chunk of the arrays that are read and of the one that is made
  pub greatest_of : (made : NodeInfo) (out : ℕ) (read rooms : List ℕ) → HasInfo arrays out made → map (chunk_room arrays) read ≡ rooms
      → largest (map (chunk_room arrays) (read ++ out ∷ [])) ≡ largest (chunk_bytes made ∷ rooms)
  greatest_of made out read rooms own same =
      ap largest (map_push (chunk_room arrays) read out)
      ∙ greatest_push (map (chunk_room arrays) read) (chunk_room arrays out)
      ∙ ap (λ r. max r (largest (map (chunk_room arrays) read))) (room_of_known out made own)
      ∙ ap (λ rooms. max (chunk_bytes made) (largest rooms)) same

  -- a task makes each chunk of its array
  pub task_count : (out : ℕ) (made : NodeInfo) → HasInfo arrays out made → product (grid_counts (grid_at arrays out)) ≡ chunks_of made
  task_count out made own = ap (λ g. product (grid_counts g)) own.grid
