-- The region of a source from which the partial results of one chunk are made: one box of boxes that have the groups' sizes on the axes that
-- are reduced, and the source's chunk sizes on the others.
use Rattle.std.proofs.Common.{◌≡◌, inl, inr, ℕ, zero, suc, pred, ◌<◌, ◌+◌, ◌*◌, ◌==◌, min, max, Bool, true, false, List, [], ◌∷◌, length, map, All, None, Some, set, refl, ap, sym, ◌∙◌, subst, arith, if◌then◌else◌}
use Rattle.std.specs.Int.{div_ceil}
use Rattle.std.proofs.lemmas.Bool.Decides.{eqb_tells}
use Rattle.std.proofs.lemmas.List.Elements.{All-head, All-tail}
use Rattle.cu_shape.specs.Index.{IsInside, index_at, products}
use Rattle.cu_shape.proofs.Places.{index-place}
use Rattle.cu_shape.proofs.Rounded.{before_end}
use Rattle.cu_grid.specs.Counts.{counts_of, chunk_lo, chunk_hi}
use Rattle.cu_grid.specs.Grid.{IsGrid, IsCoordinate}
use Rattle.cu_grid.proofs.Regions.{coordinate-length}
use Rattle.cu_reduce.specs.Groups.{Groups, groups_from, groups_of, group_counts, group_lo, group_hi}
use Rattle.cu_op.specs.declared.layout.ArrayInfo.{ArrayInfo}
use Rattle.cu_op.specs.Arrays.{grid_at}
use Rattle.cu_op.specs.Reductions.{source_coord}
use Rattle.cu_op.specs.Partial.{partial_chunk, partial_grid, IsSqueezedAlong, IsSqueezed, partial_lo, partial_hi}
use Rattle.cu_op.proofs.Filled.{chunk_filled, filled_first, filled_last}
use Rattle.cu_op.proofs.Grouped.{widened, widened_ok, named}

cons_same : (x y : ℕ) (xs ys : List ℕ) → x ≡ y → xs ≡ ys → x ∷ xs ≡ y ∷ ys
cons_same x y xs ys e f = cc

-- ---- numbers of chunks, where some axes of one chunk are taken out

pub one_chunk : (n c : ℕ) → n ≡ 1 → c ≡ 1 → div_ceil n c ≡ 1
one_chunk n c e f = rw (e, f) refl

pub same_count : (n c m d : ℕ) → n ≡ m → c ≡ d → div_ceil n c ≡ div_ceil m d
same_count n c m d e f = rw (e, f) refl

abbrev pub squeezed_counts : (ns cs ms ds : List ℕ) → IsSqueezedAlong ns cs ms ds → IsSqueezedAlong (counts_of ns cs) cs (counts_of ms ds) ds
squeezed_counts [] [] [] [] q = tt
squeezed_counts (n ∷ ns) (c ∷ cs) [] [] q = (one_chunk n c q.0 q.1, q.1, squeezed_counts ns cs [] [] q.2)
squeezed_counts (n ∷ ns) (c ∷ cs) (m ∷ ms) (d ∷ ds) (inl q) = inl (same_count n c m d q.0 q.1, q.1, squeezed_counts ns cs ms ds q.2)
squeezed_counts (n ∷ ns) (c ∷ cs) (m ∷ ms) (d ∷ ds) (inr q) = inr (one_chunk n c q.0 q.1, q.1, squeezed_counts ns cs (m ∷ ms) (d ∷ ds) q.2)
squeezed_counts ns cs ms ds q = absurd q

-- the coordinate of a chunk with 0 on these axes
abbrev pub wide_coord : (ns cs ms ds is : List ℕ) → IsSqueezedAlong ns cs ms ds → List ℕ
wide_coord ns cs ms ds is q = widened (counts_of ns cs) cs (counts_of ms ds) ds is (squeezed_counts ns cs ms ds q)

widened_first : (ns cs ms ds is : List ℕ) (q : IsSqueezedAlong ns cs ms ds) → length is ≡ length ms → widened ns cs ms ds (products is ds) q ≡ products (wide_coord ns cs ms ds is q) cs
widened_first [] [] [] [] is q e = refl
widened_first (n ∷ ns) (c ∷ cs) [] [] [] q e = cons_same 0 (0 * c) _ _ (omega arith) (widened_first ns cs [] [] [] q.2 e)
widened_first (n ∷ ns) (c ∷ cs) (m ∷ ms) (d ∷ ds) (i ∷ is) (inl q) e = cons_same (i * d) (i * c) _ _ (ap (λ x. i * x) (sym q.1)) (widened_first ns cs ms ds is q.2 (omega arith))
widened_first (n ∷ ns) (c ∷ cs) (m ∷ ms) (d ∷ ds) (i ∷ is) (inr q) e = cons_same 0 (0 * c) _ _ (omega arith) (widened_first ns cs (m ∷ ms) (d ∷ ds) (i ∷ is) q.2 e)
widened_first ns cs ms ds is q e = absurd (first_of (assumption, omega arith))

last_of_one : (n c : ℕ) → n ≡ 1 → c ≡ 1 → 0 ≡ pred (min ((0 + 1) * c) n)
last_of_one n c e f = rw (e, f) refl

last_alike : (n c m d i : ℕ) → n ≡ m → c ≡ d → pred (min ((i + 1) * d) m) ≡ pred (min ((i + 1) * c) n)
last_alike n c m d i e f = rw (e, f) refl

widened_last : (ns cs ms ds is : List ℕ) (q : IsSqueezedAlong ns cs ms ds) → length is ≡ length ms
    → widened ns cs ms ds (map pred (chunk_hi ms ds is)) q ≡ map pred (chunk_hi ns cs (wide_coord ns cs ms ds is q))
widened_last [] [] [] [] [] q e = refl
widened_last (n ∷ ns) (c ∷ cs) [] [] [] q e = cons_same _ _ _ _ (last_of_one n c q.0 q.1) (widened_last ns cs [] [] [] q.2 e)
widened_last (n ∷ ns) (c ∷ cs) (m ∷ ms) (d ∷ ds) (i ∷ is) (inl q) e = cons_same _ _ _ _ (last_alike n c m d i q.0 q.1) (widened_last ns cs ms ds is q.2 (omega arith))
widened_last (n ∷ ns) (c ∷ cs) (m ∷ ms) (d ∷ ds) (i ∷ is) (inr q) e = cons_same _ _ _ _ (last_of_one n c q.0 q.1) (widened_last ns cs (m ∷ ms) (d ∷ ds) (i ∷ is) q.2 e)
widened_last ns cs ms ds is q e = absurd (first_of (assumption, omega arith))

-- ---- the groups of a chunk of partial results

-- the groups' sizes on the axes that are reduced, and the chunk sizes on the others
abbrev pub box_sizes : Groups → List ℕ → List ℕ
box_sizes [] cs = []
box_sizes (g ∷ gs) [] = []
box_sizes (None ∷ gs) (c ∷ cs) = c ∷ box_sizes gs cs
box_sizes (Some s ∷ gs) (c ∷ cs) = s ∷ box_sizes gs cs

groups_first : (gs : Groups) (cs ws : List ℕ) → group_lo gs (products ws (partial_chunk gs cs)) ≡ products ws (box_sizes gs cs)
groups_first [] cs [] = refl
groups_first [] cs (w ∷ ws) = refl
groups_first (g ∷ gs) [] [] = refl
groups_first (g ∷ gs) [] (w ∷ ws) = refl
groups_first (None ∷ gs) (c ∷ cs) [] = refl
groups_first (Some s ∷ gs) (c ∷ cs) [] = refl
groups_first (None ∷ gs) (c ∷ cs) (w ∷ ws) = ap (λ xs. w * c ∷ xs) (groups_first gs cs ws)
groups_first (Some s ∷ gs) (c ∷ cs) (w ∷ ws) = cons_same (w * 1 * s) (w * s) _ _ (ap (λ x. x * s) (let e : w * 1 ≡ w = omega arith in e)) (groups_first gs cs ws)

kept_end : (n c w : ℕ) → 0 < c → w < div_ceil n c → suc (pred (min ((w + 1) * c) n)) ≡ min ((w + 1) * c) n
kept_end n c w positive h =
    let b : w * c < n = before_end n c w positive h in
    let m : (w + 1) * c ≡ w * c + c = omega arith in
    some (min ((w + 1) * c) n) (omega (arith, b, m))
  where
    some : (x : ℕ) → 0 < x → suc (pred x) ≡ x
    some zero h = absurd (omega arith)
    some (suc x) h = refl

reduced_end : (n s w : ℕ) → w < div_ceil (max 1 (div_ceil n s)) 1 → min n (suc (pred (min ((w + 1) * 1) (max 1 (div_ceil n s)))) * s) ≡ min ((w + 1) * s) n
reduced_end n s w h =
    let b : w * 1 < max 1 (div_ceil n s) = before_end (max 1 (div_ceil n s)) 1 w (omega arith) h in
    let e : min ((w + 1) * 1) (max 1 (div_ceil n s)) ≡ suc w = least w (max 1 (div_ceil n s)) b in
    let turned : min n ((w + 1) * s) ≡ min ((w + 1) * s) n = omega arith in
    let next : suc w ≡ w + 1 = omega arith in
    ap (λ x. min n (suc (pred x) * s)) e ∙ ap (λ x. min n (x * s)) next ∙ turned
  where
    least : (w m : ℕ) → w * 1 < m → min ((w + 1) * 1) m ≡ suc w
    least w m b = omega arith

groups_last : (gs : Groups) (ns cs ws : List ℕ) → All (λ c. 0 < c) cs → length gs ≡ length ns → length cs ≡ length ns → IsInside (counts_of (group_counts gs ns) (partial_chunk gs cs)) ws
    → group_hi gs ns (map suc (map pred (chunk_hi (group_counts gs ns) (partial_chunk gs cs) ws))) ≡ chunk_hi ns (box_sizes gs cs) ws
groups_last [] [] [] [] p e f h = refl
groups_last (None ∷ gs) (n ∷ ns) (c ∷ cs) (w ∷ ws) p e f h =
    cons_same _ _ _ _ (kept_end n c w (All-head (λ x. 0 < x) c cs p) h.0) (groups_last gs ns cs ws (All-tail (λ x. 0 < x) c cs p) (omega arith) (omega arith) h.1)
groups_last (Some s ∷ gs) (n ∷ ns) (c ∷ cs) (w ∷ ws) p e f h =
    cons_same _ _ _ _ (reduced_end n s w h.0) (groups_last gs ns cs ws (All-tail (λ x. 0 < x) c cs p) (omega arith) (omega arith) h.1)
groups_last gs ns cs ws p e f h = absurd (first_of (assumption, omega arith))

long_coord : (gs : Groups) (ns cs ws : List ℕ) → length gs ≡ length ns → length cs ≡ length ns → IsInside (counts_of (group_counts gs ns) (partial_chunk gs cs)) ws → length ws ≡ length ns
long_coord [] [] [] [] e f h = refl
long_coord (None ∷ gs) (n ∷ ns) (c ∷ cs) (w ∷ ws) e f h = ap suc (long_coord gs ns cs ws (omega arith) (omega arith) h.1)
long_coord (Some s ∷ gs) (n ∷ ns) (c ∷ cs) (w ∷ ws) e f h = ap suc (long_coord gs ns cs ws (omega arith) (omega arith) h.1)
long_coord gs ns cs ws e f h = absurd (first_of (assumption, omega arith))

-- ---- sizes of boxes

pub chunk_boxes : (f : ℕ → Bool) (cs : List ℕ) → box_sizes (groups_of f cs) cs ≡ cs
chunk_boxes f cs = from f 0 cs
  where
    group_or : (b : Bool) (c : ℕ) (gs : Groups) (cs : List ℕ) → box_sizes ((if b then Some c else None) ∷ gs) (c ∷ cs) ≡ c ∷ box_sizes gs cs
    group_or true c gs cs = refl
    group_or false c gs cs = refl

    from : (f : ℕ → Bool) (first : ℕ) (cs : List ℕ) → box_sizes (groups_from f first cs) cs ≡ cs
    from f first [] = refl
    from f first (c ∷ cs) = group_or (f first) c (groups_from f (first + 1) cs) cs ∙ ap (λ xs. c ∷ xs) (from f (first + 1) cs)

pub merge_boxes : (axis group : ℕ) (ns cs : List ℕ) → length cs ≡ length ns → axis < length ns → box_sizes (groups_of (λ d. d == axis) (map (λ n. group) ns)) cs ≡ set cs axis group
merge_boxes axis group ns cs e l = from axis group 0 axis ns cs (omega arith) e l
  where
    past : (axis group first : ℕ) (ns cs : List ℕ) → axis < first → length cs ≡ length ns → box_sizes (groups_from (λ d. d == axis) first (map (λ n. group) ns)) cs ≡ cs
    past axis group first [] [] h e = refl
    past axis group first (n ∷ ns) (c ∷ cs) h e =
        elim (eqb_tells first axis) [
          | inl t ↦ absurd (let x = t.1 in omega (arith, x, h))
          | inr t ↦ rw t.0 (ap (λ xs. c ∷ xs) (past axis group (first + 1) ns cs (omega arith) (omega arith)))
        ]
    past axis group first ns cs h e = absurd (omega arith)

    from : (axis group first j : ℕ) (ns cs : List ℕ) → axis ≡ first + j → length cs ≡ length ns → j < length ns
        → box_sizes (groups_from (λ d. d == axis) first (map (λ n. group) ns)) cs ≡ set cs j group
    from axis group first zero (n ∷ ns) (c ∷ cs) h e l =
        elim (eqb_tells first axis) [
          | inl t ↦ rw t.0 (ap (λ xs. group ∷ xs) (past axis group (first + 1) ns cs (omega arith) (omega arith)))
          | inr t ↦ absurd (t.1 (omega (arith, h)))
        ]
    from axis group first (suc j) (n ∷ ns) (c ∷ cs) h e l =
        elim (eqb_tells first axis) [
          | inl t ↦ absurd (let x = t.1 in omega (arith, x, h))
          | inr t ↦ rw t.0 (ap (λ xs. c ∷ xs) (from axis group (first + 1) j ns cs (omega arith) (omega arith) (omega arith)))
        ]
    from axis group first j ns cs h e l = absurd (omega arith)

-- ---- in a plan

pub record IsBoxOf (sizes shape at lo hi : List ℕ) : Type 0 where
  pub begins : lo ≡ chunk_lo sizes at
  pub ends : hi ≡ chunk_hi shape sizes at
  pub long : length at ≡ length shape

module _ (arrays : List ArrayInfo) (gs : Groups) (source out : ℕ) (ranks : length gs ≡ length (grid_at arrays source).shape)
    (squeezed : IsSqueezed (partial_grid gs (grid_at arrays source)) (grid_at arrays out)) (oks : IsGrid (grid_at arrays source)) (oko : IsGrid (grid_at arrays out))
    (c : List ℕ) (here : IsCoordinate (grid_at arrays out) c) where
  abbrev ns : List ℕ
  ns = (grid_at arrays source).shape

  abbrev cs : List ℕ
  cs = (grid_at arrays source).chunk

  abbrev ms : List ℕ
  ms = (grid_at arrays out).shape

  abbrev ds : List ℕ
  ds = (grid_at arrays out).chunk

  abbrev counts : List ℕ
  counts = group_counts gs ns

  abbrev ones : List ℕ
  ones = partial_chunk gs cs

  abbrev at : List ℕ
  at = wide_coord counts ones ms ds c squeezed

  at_inside : IsInside (counts_of counts ones) at
  at_inside = (widened_ok (counts_of counts ones) ones (counts_of ms ds) ds c (squeezed_counts counts ones ms ds squeezed) here).inside

  at_is : source_coord arrays gs source out c ≡ at
  at_is =
      let w = widened_ok (counts_of counts ones) ones (counts_of ms ds) ds c (squeezed_counts counts ones ms ds squeezed) here in
      ap (index_at (counts_of counts ones)) (sym w.place) ∙ index-place (counts_of counts ones) at w.inside

  pub partial_box : IsBoxOf (box_sizes gs cs) ns (source_coord arrays gs source out c) (partial_lo arrays gs source out (chunk_lo ds c)) (partial_hi arrays gs source out (chunk_hi ms ds c))
  partial_box =
      let filled = chunk_filled ms ds c oko.positive oko.ranks here in
      let long = coordinate-length (grid_at arrays out) c oko here in
      let first = named arrays gs source out ranks squeezed (chunk_lo ds c) (filled_first ms (chunk_lo ds c) (chunk_hi ms ds c) filled) in
      let last = named arrays gs source out ranks squeezed (map pred (chunk_hi ms ds c)) (filled_last ms (chunk_lo ds c) (chunk_hi ms ds c) filled) in
      subst (λ (ws : List ℕ). IsBoxOf (box_sizes gs cs) ns ws (partial_lo arrays gs source out (chunk_lo ds c)) (partial_hi arrays gs source out (chunk_hi ms ds c))) (sym at_is) (record {
        begins = ap (group_lo gs) (first ∙ widened_first counts ones ms ds c squeezed long) ∙ groups_first gs cs at;
        ends = ap (λ (is : List ℕ). group_hi gs ns (map suc is)) (last ∙ widened_last counts ones ms ds c squeezed long) ∙ groups_last gs ns cs at oks.positive ranks oks.ranks at_inside;
        long = long_coord gs ns cs at ranks oks.ranks at_inside;
      })
