-- What is known of an array of partial results while its rounds go on.
use Rattle.std.proofs.Common.{◌≡◌, ℕ, zero, suc, ◌+◌, ◌*◌, ◌<◌, ◌≤◌, Bool, true, false, IsTrue, List, [], ◌∷◌, length, max, get_or, set, refl, ap, sym, ◌∙◌, subst, arith, inl, inr}
use Rattle.std.specs.Int.{div_ceil}
use Rattle.std.proofs.Math.ListN.{length-set}
use Rattle.std.proofs.lemmas.List.{get_or-set_same, get_or-set_other, set-get_or}
use Rattle.std.proofs.lemmas.Bool.Decides.{eqb_tells}
use Rattle.cu_num.specs.declared.types.Dtype.{Dtype}
use Rattle.cu_shape.proofs.Rounded.{before_end}
use Rattle.cu_grid.specs.Grid.{RegularGrid}
use Rattle.cu_reduce.specs.Groups.{groups_from, group_counts}
use Rattle.cu_origin.specs.Pull.{has_axis}
use Rattle.cu_origin.specs.declared.axes.Axes.{Axes}
use Rattle.cu_op.specs.Partial.{partial_grid, merge_groups}
use Rattle.cu_node.specs.declared.info.NodeInfo.{NodeInfo}
use Rattle.cu_tree.specs.Partials.{partial_size, partial_chunk_from, first_partial, merged}
use Rattle.cu_tree.specs.Rounds.{AreMerged, IsRound}
use Rattle.cu_tree.specs.declared.round.Round.{Round}
use Rattle.cu_tree.proofs.Sizes.{some_over, length-dims, length-chunk, size_at, dims_from}
use Rattle.cu_lower_reduce.specs.Reductions.{whole_groups}
use Rattle.cu_lower_reduce.specs.Steps.{grid_of}
use Rattle.cu_lower_reduce.proofs.Along.{counts_along, chunk_along}
use Rattle.cu_lower_reduce.proofs.Squeezed.{same_chunks}

-- It has the sizes of `base` on the axes that are kept, at least one partial result on each that is reduced, and the chunks of partial
-- results of `base`.
pub record IsPartial (axes : Axes) (base i : NodeInfo) : Type 0 where
  pub base_ranks : length base.chunk ≡ length base.dims
  pub ranks : length i.dims ≡ length base.dims
  pub chunk : i.chunk ≡ partial_chunk_from axes 0 base.chunk
  pub kept : (d : ℕ) → d < length base.dims → has_axis axes d ≡ false → get_or i.dims d 0 ≡ get_or base.dims d 0
  pub some : (d : ℕ) → d < length base.dims → IsTrue (has_axis axes d) → 0 < get_or i.dims d 0

kept_at : (axes : Axes) (first : ℕ) (ns cs : List ℕ) (k : ℕ) → length cs ≡ length ns → k < length ns → has_axis axes (first + k) ≡ false
    → get_or (group_counts (groups_from (has_axis axes) first cs) ns) k 0 ≡ get_or ns k 0
kept_at axes first [] cs k e l t = absurd (omega arith)
kept_at axes first (n ∷ ns) [] k e l t = absurd (omega arith)
kept_at axes first (n ∷ ns) (c ∷ cs) zero e l t = let z : first + 0 ≡ first = omega arith in let w : has_axis axes first ≡ false = subst (λ (d : ℕ). has_axis axes d ≡ false) z t in rw w refl
kept_at axes first (n ∷ ns) (c ∷ cs) (suc k) e l t =
    let s : first + suc k ≡ first + 1 + k = omega arith in
    by_axis axes first n c k ns cs (has_axis axes first) refl (kept_at axes (first + 1) ns cs k (omega arith) (omega arith) (subst (λ (d : ℕ). has_axis axes d ≡ false) s t))
  where
    by_axis : (axes : Axes) (first n c k : ℕ) (ns cs : List ℕ) (b : Bool) → has_axis axes first ≡ b
        → get_or (group_counts (groups_from (has_axis axes) (first + 1) cs) ns) k 0 ≡ get_or ns k 0
        → get_or (group_counts (groups_from (has_axis axes) first (c ∷ cs)) (n ∷ ns)) (suc k) 0 ≡ get_or (n ∷ ns) (suc k) 0
    by_axis axes first n c k ns cs true h e = rw h e
    by_axis axes first n c k ns cs false h e = rw h e

pub first_stands : (t : Dtype) (axes : Axes) (base : NodeInfo) → length base.chunk ≡ length base.dims → IsPartial axes base (first_partial t axes base)
first_stands t axes base e = record {
  base_ranks = e;
  ranks = length-dims (has_axis axes) 0 base.dims base.chunk e;
  chunk = refl;
  kept = λ d l f. kept_at axes 0 base.dims base.chunk d e l (let z : 0 + d ≡ d = omega arith in rw z f);
  some = λ d l t. let s = size_at axes 0 base.dims base.chunk d e l (let z : 0 + d ≡ d = omega arith in rw z t) in omega (arith, s);
}

-- the chunk is 1 along a reduced axis
chunk_one : (axes : Axes) (first : ℕ) (cs : List ℕ) (k : ℕ) → k < length cs → IsTrue (has_axis axes (first + k)) → get_or (partial_chunk_from axes first cs) k 0 ≡ 1
chunk_one axes first [] k l t = absurd (omega arith)
chunk_one axes first (c ∷ cs) zero l t = let z : first + 0 ≡ first = omega arith in let w : has_axis axes first ≡ true = subst (λ (d : ℕ). IsTrue (has_axis axes d)) z t in rw w refl
chunk_one axes first (c ∷ cs) (suc k) l t =
    let s : first + suc k ≡ first + 1 + k = omega arith in
    chunk_one axes (first + 1) cs k (omega arith) (subst (λ (d : ℕ). IsTrue (has_axis axes d)) s t)

-- so is that of partial results
pub one_along : (axes : Axes) (base i : NodeInfo) (d : ℕ) → IsPartial axes base i → d < length base.dims → IsTrue (has_axis axes d) → get_or i.chunk d 0 ≡ 1
one_along axes base i d p h t =
    let b = p.base_ranks in
    ap (λ (cs : List ℕ). get_or cs d 0) p.chunk ∙ chunk_one axes 0 base.chunk d (omega arith) (let z : d ≡ 0 + d = omega arith in subst (λ (k : ℕ). IsTrue (has_axis axes k)) z t)

abbrev grid_with : List ℕ → List ℕ → RegularGrid
grid_with ns cs = record { shape = ns; chunk = cs }

grids : {ns ms cs ds : List ℕ} → ns ≡ ms → cs ≡ ds → grid_with ns cs ≡ grid_with ms ds
grids e f j = record { shape = e j; chunk = f j }

-- ---- a round

-- the grid of what a merge makes is that of the array after the round
pub merged_grid : (axes : Axes) (g : ℕ) (base i : NodeInfo) (r : Round) → 2 ≤ g → IsPartial axes base i → IsRound axes g i.dims r
    → partial_grid (merge_groups r.axis g (grid_of i)) (grid_of i) ≡ grid_of (merged r i)
merged_grid axes g base i r h p w =
    let inside = w.inside in
    let n = p.ranks in
    let b = p.base_ranks in
    let l = length-chunk axes 0 base.chunk in
    let m : length i.chunk ≡ length i.dims = ap length p.chunk ∙ l ∙ b ∙ sym n in
    let z : r.axis ≡ 0 + r.axis = omega arith in
    let counts = counts_along r.axis g 0 i.dims r.axis z inside in
    let chunks = chunk_along r.axis g 0 i.dims i.chunk r.axis m z inside in
    let t : get_or i.chunk r.axis 0 ≡ 1 = ap (λ (cs : List ℕ). get_or cs r.axis 0) p.chunk ∙ chunk_one axes 0 base.chunk r.axis (omega arith) (subst (λ (d : ℕ). IsTrue (has_axis axes d)) z w.reduced) in
    let same : set i.chunk r.axis 1 ≡ i.chunk = ap (λ (c : ℕ). set i.chunk r.axis c) (sym t) ∙ set-get_or i.chunk r.axis 0 in
    let f = w.from in
    let v = w.several in
    let s = some_over (get_or i.dims r.axis 0) g (omega arith) (omega arith) in
    let q : max 1 (div_ceil (get_or i.dims r.axis 0) g) ≡ div_ceil (get_or i.dims r.axis 0) g = omega arith in
    let u : max 1 (div_ceil (get_or i.dims r.axis 0) g) ≡ r.to = q ∙ (ap (λ (k : ℕ). div_ceil k g) (sym f) ∙ sym w.to) in
    grids (counts ∙ ap (λ (k : ℕ). set i.dims r.axis k) u) (chunks ∙ same)

pub merged_stands : (axes : Axes) (g : ℕ) (base i : NodeInfo) (r : Round) → 2 ≤ g → IsPartial axes base i → IsRound axes g i.dims r → IsPartial axes base (merged r i)
merged_stands axes g base i r h p w = record {
  base_ranks = p.base_ranks;
  ranks = length-set i.dims r.axis r.to ∙ p.ranks;
  chunk = p.chunk;
  kept = λ d l f. elim (eqb_tells d r.axis) [
    | inl e ↦ absurd (let t : has_axis axes d ≡ true = subst (λ (k : ℕ). IsTrue (has_axis axes k)) (sym e.1) w.reduced in let v : true ≡ false = sym t ∙ f in cc v)
    | inr e ↦ get_or-set_other i.dims r.axis d r.to 0 e.1 ∙ p.kept d l f
  ];
  some = λ d l t. elim (eqb_tells d r.axis) [
    | inl e ↦ let q = e.1 in let u = w.inside in let f = w.from in let v = w.several in let s = some_over r.from g (omega arith) (omega arith) in let k = w.to in rw (q, get_or-set_same i.dims r.axis r.to 0 u) (omega arith)
    | inr e ↦ rw (get_or-set_other i.dims r.axis d r.to 0 e.1) (p.some d l t)
  ];
}

-- ---- the end

pub one_group : (n : ℕ) → max 1 (div_ceil n n) ≡ 1
one_group zero = refl
one_group (suc n) = at_most (div_ceil (suc n) (suc n)) (λ h. before_end (suc n) (suc n) 1 (omega arith) h)
  where
    at_most : (d : ℕ) → (1 < d → 1 * suc n < suc n) → max 1 d ≡ 1
    at_most zero h = refl
    at_most (suc zero) h = refl
    at_most (suc (suc d)) h = let w = h (omega arith) in absurd (omega arith)

end_at : (axes : Axes) (k m n : ℕ) (b : Bool) → has_axis axes k ≡ b → (b ≡ true → m ≡ 1) → (b ≡ false → m ≡ n) → m ≡ partial_size axes k n n
end_at axes k m n true e h f = rw (e, one_group n) (h refl)
end_at axes k m n false e h f = rw e (f refl)

-- when no reduced axis has more than one partial result left, the grid is that of one group on each
pub end_grid : (axes : Axes) (base i : NodeInfo) → IsPartial axes base i → AreMerged axes i.dims (length i.dims) → grid_of i ≡ partial_grid (whole_groups axes base.dims) (grid_of base)
end_grid axes base i p m =
    let n = p.ranks in
    let b = p.base_ranks in
    let dims = dims_from axes 0 i.dims base.dims base.dims n refl (λ k l. let z : 0 + k ≡ k = omega arith in rw z
    (end_at axes k (get_or i.dims k 0) (get_or base.dims k 0) (has_axis axes k) refl
    (λ t. let few = m k (omega arith) t in let some = p.some k l t in omega arith)
    (λ f. p.kept k l f))) in
    grids dims (p.chunk ∙ sym (same_chunks axes 0 base.dims base.chunk (sym b)))
