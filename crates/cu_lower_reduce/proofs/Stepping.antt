-- A merge as a step, and the merges of a node one after another.
use Rattle.std.proofs.Common.{◌≡◌, ℕ, zero, suc, ◌+◌, ◌*◌, ◌<◌, ◌≤◌, List, [], ◌∷◌, All, length, None, refl, ap, sym, ◌∙◌, subst, arith, inr}
use Rattle.cu_num.specs.Dtype.{size_of}
use Rattle.cu_num.specs.declared.types.Dtype.{Dtype}
use Rattle.cu_num.specs.declared.folds.FoldKind.{FoldKind}
use Rattle.cu_num.specs.declared.folds.FoldKind.TheVariants.{Sum, Prod, Min, Max, Any, All as Every}
use Rattle.cu_shape.specs.Counts.{counts_of}
use Rattle.cu_shape.specs.Index.{product}
use Rattle.cu_grid.specs.Grid.{RegularGrid}
use Rattle.cu_reduce.specs.Kinds.{Accumulates, HasEnough}
use Rattle.cu_origin.specs.declared.axes.Axes.{Axes}
use Rattle.cu_op.specs.Arrays.{grid_at, type_at, chunk_room}
use Rattle.cu_op.specs.Operation.{Fits}
use Rattle.cu_op.specs.Partial.{partial_grid, merge_groups, IsSqueezed}
use Rattle.cu_op.specs.declared.layout.ArrayInfo.{ArrayInfo}
use Rattle.cu_op.specs.declared.operation.Op.TheVariants.{Merge}
use Rattle.cu_node.specs.declared.info.NodeInfo.{NodeInfo}
use Rattle.cu_tree.specs.Needs.{merge_need}
use Rattle.cu_tree.specs.Partials.{merged, chunks_of}
use Rattle.cu_tree.specs.Rounds.{AreRounds}
use Rattle.cu_tree.specs.declared.round.Round.{Round}
use Rattle.cu_tree.proofs.Sizes.{length-chunk}
use Rattle.cu_lower_reduce.specs.Reductions.{merges, whole_groups}
use Rattle.cu_lower_reduce.specs.Steps.{grid_of, HasInfo, HaveInfos, all_made, IsGiven, IsStep, AreSteps}
use Rattle.cu_lower_reduce.specs.declared.step.Setting.{Setting}
use Rattle.cu_lower_reduce.proofs.Along.{elements_along, has_enough}
use Rattle.cu_lower_reduce.proofs.Firsts.{same_size}
use Rattle.cu_lower_reduce.proofs.Squeezed.{same_grid}
use Rattle.cu_lower_reduce.proofs.Standing.{IsPartial, merged_grid, merged_stands, end_grid}
use Rattle.cu_node.specs.Info.{chunk_bytes}

-- ---- an array of which something is known

pub room_of : (arrays : List ArrayInfo) (a : ℕ) (i : NodeInfo) → HasInfo arrays a i → chunk_room arrays a ≡ chunk_bytes i
room_of arrays a i h j = product (h.grid j).chunk * size_of (h.dtype j)

pub chunks_in : (arrays : List ArrayInfo) (a : ℕ) (i : NodeInfo) → HasInfo arrays a i → product (counts_of (grid_at arrays a).shape (grid_at arrays a).chunk) ≡ chunks_of i
chunks_in arrays a i h j = product (counts_of (h.grid j).shape (h.grid j).chunk)

pub accumulates_self : (kind : FoldKind) (t acc : Dtype) → Accumulates kind t acc → Accumulates kind acc acc
accumulates_self Sum t acc h = h
accumulates_self Prod t acc h = h
accumulates_self Min t acc h = refl
accumulates_self Max t acc h = refl
accumulates_self Any t acc h = h
accumulates_self Every t acc h = h

-- ---- one merge

pub merge_fits : (arrays : List ArrayInfo) (kind : FoldKind) (axis g source out : ℕ) (i o : NodeInfo) → HasInfo arrays source i → HasInfo arrays out o → axis < length i.dims → 0 < g → g ≤ 65536
    → IsSqueezed (partial_grid (merge_groups axis g (grid_of i)) (grid_of i)) (grid_of o) → Accumulates kind i.dtype o.dtype → HasEnough kind (merge_groups axis g (grid_of i)) i.dims
    → i.dtype ≡ o.dtype → Fits arrays (Merge kind axis g source out)
merge_fits arrays kind axis g source out i o h k inside some few squeezed types enough same = (
  record { along = subst (λ (x : RegularGrid). axis < length x.shape) (sym h.grid) inside; some = some; few = few },
  record {
    result = subst (λ (x : RegularGrid). IsSqueezed (partial_grid (merge_groups axis g x) x) (grid_at arrays out)) (sym h.grid)
        (subst (λ (y : RegularGrid). IsSqueezed (partial_grid (merge_groups axis g (grid_of i)) (grid_of i)) y) (sym k.grid) squeezed);
    types = subst (λ (t : Dtype). Accumulates kind t (type_at arrays out)) (sym h.dtype) (subst (λ (t : Dtype). Accumulates kind i.dtype t) (sym k.dtype) types);
    enough = subst (λ (x : RegularGrid). HasEnough kind (merge_groups axis g x) x.shape) (sym h.grid) enough;
  },
  h.dtype ∙ same ∙ sym k.dtype,
)

group_bytes : (g b : ℕ) → (g + 1) * b ≡ g * b + b
group_bytes g b = omega arith

pub merge_steps : (arrays : List ArrayInfo) (s : Setting) (kind : FoldKind) (axis source : ℕ) (i o made : NodeInfo) (given : List ℕ) (first : ℕ) → first ≤ source
    → HasInfo arrays source i → HasInfo arrays (source + 1) o → chunk_bytes i ≡ chunk_bytes made → chunk_bytes o ≡ chunk_bytes made → Fits arrays (Merge kind axis s.split_every source (source + 1))
    → IsStep arrays s.reserved given first (source + 1)
    (record { op = Merge kind axis s.split_every source (source + 1); values = None; made = o; need = merge_need s.reserved s.split_every (chunk_bytes made) })
merge_steps arrays s kind axis source i o made given first before h k bi bo fits = record {
  writes = refl;
  reads = reads;
  fits = fits;
  need = rw (room_of arrays source i h, room_of arrays (source + 1) o k, bi, bo) (let e = group_bytes s.split_every (chunk_bytes made) in omega (arith, e));
  tasks = chunks_in arrays (source + 1) o k;
}
  where
    reads : All (IsGiven given first (source + 1)) (source ∷ [])
    reads zero d l = inr (before, omega arith)
    reads (suc n) d l = absurd (omega arith)

-- ---- the merges of a node

-- the result has what is left of `base` when its axes are reduced
pub record IsChain (s : Setting) (kind : FoldKind) (axes : Axes) (base made : NodeInfo) : Type 0 where
  pub several : 2 ≤ s.split_every
  pub few : s.split_every ≤ 65536
  pub ranks : length base.chunk ≡ length base.dims
  pub result : IsSqueezed (partial_grid (whole_groups axes base.dims) (grid_of base)) (grid_of made)
  pub types : Accumulates kind made.dtype made.dtype

-- what is known of a partial array before a round
pub record IsTurn (s : Setting) (axes : Axes) (base made i : NodeInfo) (rounds : List Round) : Type 0 where
  pub stands : IsPartial axes base i
  pub dtype : i.dtype ≡ made.dtype
  pub rule : AreRounds axes s.split_every i.dims rounds

pub chunk_ranks : (axes : Axes) (base i : NodeInfo) → IsPartial axes base i → length i.chunk ≡ length i.dims
chunk_ranks axes base i p = ap length p.chunk ∙ length-chunk axes 0 base.chunk ∙ p.base_ranks ∙ sym p.ranks

pub same_bytes : (s : Setting) (kind : FoldKind) (axes : Axes) (base made i : NodeInfo) → IsChain s kind axes base made → IsPartial axes base i → i.dtype ≡ made.dtype → chunk_bytes i ≡ chunk_bytes made
same_bytes s kind axes base made i c p t =
    let e : product i.chunk ≡ product made.chunk = ap product p.chunk ∙ same_size axes base made c.ranks c.result in
    λ j. e j * size_of (t j)

pub next_turn : (s : Setting) (axes : Axes) (base made i : NodeInfo) (r : Round) (rs : List Round) → 2 ≤ s.split_every → IsTurn s axes base made i (r ∷ rs) → IsTurn s axes base made (merged r i) rs
next_turn s axes base made i r rs h t = record { stands = merged_stands axes s.split_every base i r h t.stands t.rule.0; dtype = t.dtype; rule = t.rule.1 }

pub enough_along : (kind : FoldKind) (s : Setting) (axes : Axes) (base made i : NodeInfo) (r : Round) (rs : List Round) → IsTurn s axes base made i (r ∷ rs) → HasEnough kind (merge_groups r.axis s.split_every (grid_of i)) i.dims
enough_along kind s axes base made i r rs t =
    let w = t.rule.0 in
    let f = w.from in
    let v = w.several in
    has_enough kind (merge_groups r.axis s.split_every (grid_of i)) i.dims (elements_along r.axis s.split_every 0 i.dims r.axis (omega arith) (omega arith))

pub last_squeezed_of : (s : Setting) (axes : Axes) (base made i : NodeInfo) (r : Round) → 2 ≤ s.split_every → IsSqueezed (partial_grid (whole_groups axes base.dims) (grid_of base)) (grid_of made)
    → IsTurn s axes base made i (r ∷ []) → IsSqueezed (partial_grid (merge_groups r.axis s.split_every (grid_of i)) (grid_of i)) (grid_of made)
last_squeezed_of s axes base made i r h result t =
    subst (λ (x : RegularGrid). IsSqueezed x (grid_of made))
    (sym (merged_grid axes s.split_every base i r h t.stands t.rule.0 ∙ end_grid axes base (merged r i) (merged_stands axes s.split_every base i r h t.stands t.rule.0) t.rule.1))
    result

last_squeezed : (s : Setting) (kind : FoldKind) (axes : Axes) (base made i : NodeInfo) (r : Round) → IsChain s kind axes base made → IsTurn s axes base made i (r ∷ [])
    → IsSqueezed (partial_grid (merge_groups r.axis s.split_every (grid_of i)) (grid_of i)) (grid_of made)
last_squeezed s kind axes base made i r c t = last_squeezed_of s axes base made i r c.several c.result t

pub more_squeezed : (s : Setting) (axes : Axes) (base made i : NodeInfo) (r : Round) (rs : List Round) → 2 ≤ s.split_every → IsTurn s axes base made i (r ∷ rs)
    → IsSqueezed (partial_grid (merge_groups r.axis s.split_every (grid_of i)) (grid_of i)) (grid_of (merged r i))
more_squeezed s axes base made i r rs h t =
    let n = next_turn s axes base made i r rs h t in
    subst (λ (x : RegularGrid). IsSqueezed x (grid_of (merged r i))) (sym (merged_grid axes s.split_every base i r h t.stands t.rule.0))
    (same_grid (merged r i).dims (merged r i).chunk (chunk_ranks axes base (merged r i) n.stands))

pub merges_hold : (arrays : List ArrayInfo) (s : Setting) (kind : FoldKind) (axes : Axes) (base made : NodeInfo) (given : List ℕ) (first source : ℕ) (i : NodeInfo) (rs : List Round)
    → IsChain s kind axes base made → first ≤ source → IsTurn s axes base made i rs → HasInfo arrays source i
    → HaveInfos arrays (source + 1) (all_made (merges s kind made source i rs)) → AreSteps arrays s.reserved given first (source + 1) (merges s kind made source i rs)
merges_hold arrays s kind axes base made given first source i [] c before t h k = tt
merges_hold arrays s kind axes base made given first source i (r ∷ []) c before t h k = (
  merge_steps arrays s kind r.axis source i made made given first before h k.0 (same_bytes s kind axes base made i c t.stands t.dtype) refl
      (merge_fits arrays kind r.axis s.split_every source (source + 1) i made h k.0 t.rule.0.inside (let g = c.several in omega arith) c.few (last_squeezed s kind axes base made i r c t)
      (subst (λ (d : Dtype). Accumulates kind d made.dtype) (sym t.dtype) c.types) (enough_along kind s axes base made i r [] t) t.dtype),
  tt,
)
merges_hold arrays s kind axes base made given first source i (r ∷ q ∷ rs) c before t h k =
    let n = next_turn s axes base made i r (q ∷ rs) c.several t in (
      merge_steps arrays s kind r.axis source i (merged r i) made given first before h k.0 (same_bytes s kind axes base made i c t.stands t.dtype) (same_bytes s kind axes base made (merged r i) c n.stands n.dtype)
          (merge_fits arrays kind r.axis s.split_every source (source + 1) i (merged r i) h k.0 t.rule.0.inside (let g = c.several in omega arith) c.few (more_squeezed s axes base made i r (q ∷ rs) c.several t)
          (subst (λ (d : Dtype). Accumulates kind d i.dtype) (sym t.dtype) (subst (λ (d : Dtype). Accumulates kind made.dtype d) (sym t.dtype) c.types)) (enough_along kind s axes base made i r (q ∷ rs) t) refl),
      merges_hold arrays s kind axes base made given first (source + 1) (merged r i) (q ∷ rs) c (omega arith) n k.0 k.1,
    )
