-- A chunk of an array of which each task of an operation reads one chunk: one region of the operation
-- reads it.
use Rattle.std.proofs.Common.{◌≡◌, ◌≢◌, inl, inr, ℕ, zero, suc, ◌+◌, ◌*◌, ◌<◌, ◌==◌, ◌-◌, max, Bool, true, false, List, [], ◌∷◌, ◌++◌, length, map, drop, take, set, get_or, All, Contains, Option, Some, None, refl, ap, sym, ◌∙◌, subst, arith, if◌then◌else◌}
use Rattle.std.specs.Int.{div_ceil}
use Rattle.std.proofs.Math.Seq.{take-append_seam}
use Rattle.std.proofs.lemmas.Bool.Decides.{eqb_tells}
use Rattle.std.proofs.lemmas.List.{length-set, get_or-append_right, get_or-set_same, set-get_or, set-set}
use Rattle.std.proofs.lemmas.List.Elements.{All-contains, All-head, All-tail, Contains-append_cases, Contains-append_left}
use Rattle.cu_shape.specs.Counts.{counts_of}
use Rattle.cu_shape.specs.Index.{IsInside, back, back_along, index_at, is_inside, place_of, product}
use Rattle.cu_shape.proofs.Places.{index-inside, index-place, inside-length, place-below, place-index, test_from_inside}
use Rattle.cu_shape.proofs.Rounded.{before_end, counts_below, within_counts}
use Rattle.cu_grid.specs.Grid.{RegularGrid, IsCoordinate, IsGrid}
use Rattle.cu_grid.proofs.Regions.{coordinate-length}
use Rattle.cu_op.specs.Along.{carried_chunk, CarriesFor}
use Rattle.cu_op.specs.Arrays.{grid_at, grid_counts}
use Rattle.cu_op.specs.Cells.{regions_of, task_grid}
use Rattle.cu_op.specs.Chunks.{cell, chunk_where}
use Rattle.cu_op.specs.Grouping.{label_chunks, label_part, source_index}
use Rattle.cu_op.specs.InputCells.{needed_chunks, own_cells}
use Rattle.cu_op.specs.Kind.GroupFold.{GroupFoldFits}
use Rattle.cu_op.specs.Kinds.{kind_of}
use Rattle.cu_op.specs.Operation.{reads_of, ReadsByChunk}
use Rattle.cu_op.specs.Partial.{partial_chunk, partial_grid, IsSqueezed, IsSqueezedAlong}
use Rattle.cu_op.specs.Reductions.{source_coord}
use Rattle.cu_op.specs.declared.cells.Cell.{Cell}
use Rattle.cu_op.specs.declared.layout.ArrayInfo.{ArrayInfo}
use Rattle.cu_op.specs.declared.operation.Op.{Op}
use Rattle.cu_op.specs.declared.operation.Op.TheVariants.{Map, Fold, PairFold, Scan, GroupFold}
use Rattle.cu_op.proofs.ByChunk.{alike_told, told_equal}
use Rattle.cu_op.proofs.CellsOfTasks.{map_contains, same_array, same_coord}
use Rattle.cu_op.proofs.Filled.{contains_mapped}
use Rattle.cu_op.proofs.Kind.{Stands}
use Rattle.cu_op.proofs.Members.{bool_cases, only_member}
use Rattle.cu_op.proofs.ReducedBoxes.{squeezed_counts}
use Rattle.cu_op.proofs.Results.{not_one}
use Rattle.cu_origin.specs.Pull.{has_axis}
use Rattle.cu_reduce.specs.Places.{is_sought}
use Rattle.cu_reduce.specs.Groups.{Groups, group_counts, groups_from, groups_of}

-- region number `number` of an operation reads the chunk, and no other does
pub record OneRegion (arrays : List ArrayInfo) (op : Op) (c : Cell) : Type 0 where
  pub number : ℕ
  pub below : number < regions_of arrays op
  pub reads : Contains (own_cells arrays op number) c
  pub only : (r : ℕ) → r < regions_of arrays op → Contains (own_cells arrays op r) c → r ≡ number

-- by its coordinate
by_coordinate : (arrays : List ArrayInfo) (op : Op) (c : Cell) (d : List ℕ) → IsCoordinate (task_grid arrays op) d → Contains (needed_chunks arrays op d) c
    → ((e : List ℕ) → IsCoordinate (task_grid arrays op) e → Contains (needed_chunks arrays op e) c → e ≡ d) → OneRegion arrays op c
by_coordinate arrays op c d here reads only =
    let counts = grid_counts (task_grid arrays op) in
    record {
      number = place_of counts d;
      below = place-below counts d here;
      reads = subst (λ (e : List ℕ). Contains (needed_chunks arrays op e) c) (sym (index-place counts d here)) reads;
      only = λ r l h. sym (place-index counts r l) ∙ ap (place_of counts) (only (index_at counts r) (index-inside counts r l) h);
    }

-- ---- the chunk at a coordinate

where_at : (arrays : List ArrayInfo) (a : ℕ) (x : List ℕ) (c : Cell) → Contains (chunk_where arrays a x) c → cell a x ≡ c
where_at arrays a x c h =
    elim (bool_cases (is_inside (grid_counts (grid_at arrays a)) x)) [
      | inl t ↦ only_member (cell a x) c (rw t at h)
      | inr f ↦ absurd (none c (rw f at h))
    ]
  where
    none : (c : Cell) → Contains [] c → ⊥
    none c (k, l, e) = omega arith

where_there : (arrays : List ArrayInfo) (a : ℕ) (x : List ℕ) → IsCoordinate (grid_at arrays a) x → Contains (chunk_where arrays a x) (cell a x)
where_there arrays a x h = let t = test_from_inside (grid_counts (grid_at arrays a)) x h in rw t (0, omega arith, refl)

-- ---- a map

cons_same : (x y : ℕ) (xs ys : List ℕ) → x ≡ y → xs ≡ ys → x ∷ xs ≡ y ∷ ys
cons_same x y xs ys e f = cc

back_on : (n c i : ℕ) → 0 < c → i < div_ceil n c → (if n == 1 then 0 else i) ≡ i
back_on n c i p h =
    elim (eqb_tells n 1) [
      | inl t ↦ let few = counts_below n c p in let one = t.1 in rw t.0 (omega (arith, few, h, one))
      | inr f ↦ rw f.0 refl
    ]

back_axes : (ns cs is : List ℕ) → All (λ c. 0 < c) cs → length cs ≡ length ns → IsInside (counts_of ns cs) is → back_along ns is ≡ is
back_axes [] [] [] p e h = refl
back_axes (n ∷ ns) (c ∷ cs) (i ∷ is) p e h =
    cons_same _ _ _ _ (back_on n c i (All-head (λ x. 0 < x) c cs p) h.0) (back_axes ns cs is (All-tail (λ x. 0 < x) c cs p) (omega arith) h.1)
back_axes ns cs is p e h = absurd (first_of (assumption, omega arith))

-- a coordinate of a grid is read as it is through broadcasting
back_own : (g : RegularGrid) (idx : List ℕ) → IsGrid g → IsCoordinate g idx → back g.shape idx ≡ idx
back_own g idx ok here =
    let long = coordinate-length g idx ok here in
    let none : length idx - length g.shape ≡ 0 = omega (arith, long) in
    ap (λ k. back_along g.shape (drop k idx)) none ∙ back_axes g.shape g.chunk idx ok.positive ok.ranks here

-- ---- a reduction of each chunk

one_times : (x : ℕ) → 1 * x ≡ x
one_times x = omega arith

squeezed_product : (ns cs ms ds : List ℕ) → IsSqueezedAlong ns cs ms ds → product ns ≡ product ms
squeezed_product [] [] [] [] q = refl
squeezed_product (n ∷ ns) (c ∷ cs) [] [] q = ap (λ x. x * product ns) q.0 ∙ one_times (product ns) ∙ squeezed_product ns cs [] [] q.2
squeezed_product (n ∷ ns) (c ∷ cs) (m ∷ ms) (d ∷ ds) (inl q) = λ i. q.0 i * squeezed_product ns cs ms ds q.2 i
squeezed_product (n ∷ ns) (c ∷ cs) (m ∷ ms) (d ∷ ds) (inr q) = ap (λ x. x * product ns) q.0 ∙ one_times (product ns) ∙ squeezed_product ns cs (m ∷ ms) (d ∷ ds) q.2
squeezed_product ns cs ms ds q = absurd q

wide_on : (t : Bool) (gs : Groups) (n c i : ℕ) (ns cs is : List ℕ) → i < div_ceil n c → IsInside (counts_of (group_counts gs ns) (partial_chunk gs cs)) is
    → IsInside (counts_of (group_counts ((if t then Some c else None) ∷ gs) (n ∷ ns)) (partial_chunk ((if t then Some c else None) ∷ gs) (c ∷ cs))) (i ∷ is)
wide_on true gs n c i ns cs is l h = (within_counts (max 1 (div_ceil n c)) 1 i (omega arith) (omega (arith, l)), h)
wide_on false gs n c i ns cs is l h = (l, h)

-- each chunk of the source has a partial result
wide_inside : (f : ℕ → Bool) (first : ℕ) (ns cs is : List ℕ) → length cs ≡ length ns → IsInside (counts_of ns cs) is
    → IsInside (counts_of (group_counts (groups_from f first cs) ns) (partial_chunk (groups_from f first cs) cs)) is
wide_inside f first [] [] [] e h = tt
wide_inside f first (n ∷ ns) (c ∷ cs) (i ∷ is) e h = wide_on (f first) (groups_from f (first + 1) cs) n c i ns cs is h.0 (wide_inside f (first + 1) ns cs is (omega arith) h.1)
wide_inside f first ns cs is e h = absurd (first_of (assumption, omega arith))

module _ (arrays : List ArrayInfo) (f : ℕ → Bool) (source out : ℕ) (ok : IsGrid (grid_at arrays source))
    (squeezed : IsSqueezed (partial_grid (groups_of f (grid_at arrays source).chunk) (grid_at arrays source)) (grid_at arrays out)) where
  abbrev g : RegularGrid
  g = grid_at arrays source

  abbrev gs : Groups
  gs = groups_of f g.chunk

  abbrev wide : List ℕ
  wide = grid_counts (partial_grid gs g)

  abbrev counts : List ℕ
  counts = grid_counts (grid_at arrays out)

  abbrev reduced : ℕ → List Cell
  reduced r = chunk_where arrays source (source_coord arrays gs source out (index_at counts r))

  same_many : product wide ≡ product counts
  same_many =
      let p = partial_grid gs g in
      let o = grid_at arrays out in
      squeezed_product wide p.chunk counts o.chunk (squeezed_counts p.shape p.chunk o.shape o.chunk squeezed)

  read_at : (r : ℕ) → r < product counts → source_coord arrays gs source out (index_at counts r) ≡ index_at wide r
  read_at r l = ap (index_at wide) (place-index counts r l)

  record FoldedOnce (coord : List ℕ) : Type 0 where
    number : ℕ
    below : number < product counts
    reads : Contains (reduced number) (cell source coord)
    only : (r : ℕ) → r < product counts → Contains (reduced r) (cell source coord) → r ≡ number

  folded_once : (coord : List ℕ) → IsCoordinate g coord → FoldedOnce coord
  folded_once coord here =
      let inside : IsInside wide coord = wide_inside f 0 g.shape g.chunk coord ok.ranks here in
      let n = place_of wide coord in
      let few = place-below wide coord inside in
      let many = same_many in
      let below : n < product counts = omega (arith, few, many) in
      record {
        number = n;
        below = below;
        reads = subst (λ (x : List ℕ). Contains (chunk_where arrays source x) (cell source coord)) (sym (read_at n below ∙ index-place wide coord inside)) (where_there arrays source coord here);
        only = λ r l h.
            let is : index_at wide r ≡ coord =
            sym (read_at r l) ∙ same_coord (cell source (source_coord arrays gs source out (index_at counts r))) (cell source coord)
            (where_at arrays source (source_coord arrays gs source out (index_at counts r)) (cell source coord) h) in
            let l' : r < product wide = omega (arith, l, many) in
            sym (place-index wide r l') ∙ ap (place_of wide) is;
      }

-- ---- groups by labels

-- numbers of an index of two lists put one behind the other
counts_both : (ns cs ms ds : List ℕ) → length ns ≡ length cs → counts_of (ns ++ ms) (cs ++ ds) ≡ counts_of ns cs ++ counts_of ms ds
counts_both [] [] ms ds e = refl
counts_both (n ∷ ns) (c ∷ cs) ms ds e = ap (λ xs. div_ceil n c ∷ xs) (counts_both ns cs ms ds (omega arith))
counts_both ns cs ms ds e = absurd (omega arith)

inside_both : (xs ys is js : List ℕ) → IsInside xs is → IsInside ys js → IsInside (xs ++ ys) (is ++ js)
inside_both [] ys [] js h k = k
inside_both (x ∷ xs) ys (i ∷ is) js h k = (h.0, inside_both xs ys is js h.1 k)
inside_both xs ys is js h k = absurd h

record Parts (xs ys e : List ℕ) : Type 0 where
  front : List ℕ
  behind : List ℕ
  is : e ≡ front ++ behind
  first : IsInside xs front
  rest : IsInside ys behind

inside_parts : (xs ys e : List ℕ) → IsInside (xs ++ ys) e → Parts xs ys e
inside_parts [] ys e h = record { front = []; behind = e; is = refl; first = tt; rest = h }
inside_parts (x ∷ xs) ys [] h = absurd h
inside_parts (x ∷ xs) ys (i ∷ e) h =
    let p = inside_parts xs ys e h.1 in
    record { front = i ∷ p.front; behind = p.behind; is = ap (λ l. i ∷ l) p.is; first = (h.0, p.first); rest = p.rest }

-- an axis on which there is one chunk
one_chunk : (n : ℕ) → 0 < n → (0 < div_ceil n n) × ((i : ℕ) → i < div_ceil n n → i ≡ 0)
one_chunk n p = (within_counts n n 0 p (omega (arith, p)), λ i l. only i (before_end n n i p l))
  where
    only : (i : ℕ) → i * n < n → i ≡ 0
    only zero h = refl
    only (suc i) h = absurd (omega arith)

grouped_inside : (axis groups : ℕ) (ns cs is : List ℕ) → 0 < groups → axis < length ns → length cs ≡ length ns → IsInside (counts_of ns cs) is
    → IsInside (counts_of (set ns axis groups) (set cs axis groups)) (set is axis 0)
grouped_inside zero groups (n ∷ ns) (c ∷ cs) (i ∷ is) p l e h = ((one_chunk groups p).0, h.1)
grouped_inside (suc a) groups (n ∷ ns) (c ∷ cs) (i ∷ is) p l e h = (h.0, grouped_inside a groups ns cs is p (omega arith) (omega arith) h.1)
grouped_inside axis groups ns cs is p l e h = absurd (first_of (assumption, omega arith))

grouped_first : (axis groups : ℕ) (ns cs is : List ℕ) → 0 < groups → axis < length ns → length cs ≡ length ns
    → IsInside (counts_of (set ns axis groups) (set cs axis groups)) is → get_or is axis 0 ≡ 0
grouped_first zero groups (n ∷ ns) (c ∷ cs) (i ∷ is) p l e h = (one_chunk groups p).1 i h.0
grouped_first (suc a) groups (n ∷ ns) (c ∷ cs) (i ∷ is) p l e h = grouped_first a groups ns cs is p (omega arith) (omega arith) h.1
grouped_first axis groups ns cs is p l e h = absurd (first_of (assumption, omega arith))

counts_at : (axis : ℕ) (ns cs is : List ℕ) → axis < length ns → length cs ≡ length ns → IsInside (counts_of ns cs) is
    → get_or is axis 0 < div_ceil (get_or ns axis 0) (get_or cs axis 0)
counts_at zero (n ∷ ns) (c ∷ cs) (i ∷ is) l e h = h.0
counts_at (suc a) (n ∷ ns) (c ∷ cs) (i ∷ is) l e h = counts_at a ns cs is (omega arith) (omega arith) h.1
counts_at axis ns cs is l e h = absurd (first_of (assumption, omega arith))

module _ (arrays : List ArrayInfo) (kind : _) (axis groups source labels out : ℕ) (ok : IsGrid (grid_at arrays source)) (f : GroupFoldFits arrays kind axis groups source labels out)
    (differ : labels ≢ source) where
  abbrev s : RegularGrid
  s = grid_at arrays source

  abbrev o : RegularGrid
  o = grid_at arrays out

  abbrev r : ℕ
  r = length s.shape

  abbrev own : List ℕ
  own = counts_of (set s.shape axis groups) (set s.chunk axis groups)

  abbrev parts : List ℕ
  parts = counts_of f.parts f.part_chunks

  length_own : (is : List ℕ) → IsInside own is → length is ≡ r
  length_own is h =
      let e = inside-length own is h in
      let a = length-set s.shape axis groups in
      let b = length-set s.chunk axis groups in
      let c = ok.ranks in
      e ∙ counts_length (set s.shape axis groups) (set s.chunk axis groups) (omega (arith, a, b, c)) ∙ a
    where
      counts_length : (ns cs : List ℕ) → length cs ≡ length ns → length (counts_of ns cs) ≡ length ns
      counts_length [] [] e = refl
      counts_length (n ∷ ns) (c ∷ cs) e = ap suc (counts_length ns cs (omega arith))
      counts_length ns cs e = absurd (omega arith)

  counts_are : grid_counts o ≡ own ++ parts
  counts_are =
      let a = length-set s.shape axis groups in
      let b = length-set s.chunk axis groups in
      let c = ok.ranks in
      (λ i. counts_of (f.shape i) (f.chunk i)) ∙ counts_both (set s.shape axis groups) (set s.chunk axis groups) f.parts f.part_chunks (omega (arith, a, b, c))

  -- the part, of an index in two parts
  part_behind : (front behind : List ℕ) → length front ≡ r → label_part s (front ++ behind) ≡ get_or behind 0 0
  part_behind front behind e =
      get_or-append_right front behind r r 0 e (omega arith) ∙ (let z : r - r ≡ 0 = omega arith in ap (λ k. get_or behind k 0) z)

  source_front : (front behind : List ℕ) (k : ℕ) → length front ≡ r → source_index s axis (front ++ behind) k ≡ set front axis k
  source_front front behind k e =
      ap (λ n. set (take n (front ++ behind)) axis k) (sym e) ∙ ap (λ (xs : List ℕ). set xs axis k) (take-append_seam front behind)

  -- the index on the axis that numbers parts
  record PartOf (k : ℕ) : Type 0 where
    behind : List ℕ
    inside : IsInside parts behind
    part : get_or behind 0 0 ≡ k
    only : (xs : List ℕ) → IsInside parts xs → get_or xs 0 0 ≡ k → xs ≡ behind

  empty : (xs : List ℕ) → IsInside [] xs → xs ≡ []
  empty [] h = refl
  empty (x ∷ xs) h = absurd h

  single : (m k : ℕ) (xs : List ℕ) → IsInside (m ∷ []) xs → get_or xs 0 0 ≡ k → xs ≡ k ∷ []
  single m k [] h e = absurd h
  single m k (x ∷ []) h e = ap (λ y. y ∷ []) e
  single m k (x ∷ y ∷ xs) h e = absurd h.1

  part_of : (k : ℕ) → k < label_chunks s axis → PartOf k
  part_of k l =
      elim f.numbered [
        | inl whole ↦
            let none : parts ≡ [] = λ i. counts_of (whole.1 i) (whole.2 i) in
            let few = whole.0 in
            record {
              behind = [];
              inside = subst (λ (ns : List ℕ). IsInside ns []) (sym none) tt;
              part = omega (arith, l, few);
              only = λ xs h e. empty xs (subst (λ (ns : List ℕ). IsInside ns xs) none h);
            }
        | inr many ↦
            let n = label_chunks s axis in
            let one : parts ≡ div_ceil (max 1 n) 1 ∷ [] = λ i. counts_of (many.0 i) (many.1 i) in
            record {
              behind = k ∷ [];
              inside = subst (λ (ns : List ℕ). IsInside ns (k ∷ [])) (sym one) (within_counts (max 1 n) 1 k (omega arith) (omega (arith, l)), tt);
              part = refl;
              only = λ xs h e. single (div_ceil (max 1 n) 1) k xs (subst (λ (ns : List ℕ). IsInside ns xs) one h) e;
            }
      ]

  abbrev op : Op
  op = GroupFold kind axis groups source labels out

  pub grouped_once : (coord : List ℕ) → IsCoordinate s coord → OneRegion arrays op (cell source coord)
  grouped_once coord here =
      let k = get_or coord axis 0 in
      let p = part_of k (counts_at axis s.shape s.chunk coord f.along ok.ranks here) in
      let front = set coord axis 0 in
      let d = front ++ p.behind in
      let in_front : IsInside own front = grouped_inside axis groups s.shape s.chunk coord f.some f.along ok.ranks here in
      let long = length_own front in_front in
      let numbered : label_part s d ≡ k = part_behind front p.behind long ∙ p.part in
      let is : source_index s axis d (label_part s d) ≡ coord =
      source_front front p.behind (label_part s d) long ∙ ap (set front axis) numbered ∙ set-set coord axis 0 k ∙ set-get_or coord axis 0 in
      by_coordinate arrays op (cell source coord) d (subst (λ (ns : List ℕ). IsInside ns d) (sym counts_are) (inside_both own parts front p.behind in_front p.inside))
      (Contains-append_left (chunk_where arrays source (source_index s axis d (label_part s d))) (chunk_where arrays labels (label_part s d ∷ [])) (cell source coord)
      (subst (λ (x : List ℕ). Contains (chunk_where arrays source x) (cell source coord)) (sym is) (where_there arrays source coord here)))
      (λ e at_e h.
      elim (Contains-append_cases (chunk_where arrays source (source_index s axis e (label_part s e))) (chunk_where arrays labels (label_part s e ∷ [])) (cell source coord) h) [
        | inl x ↦
            let w : source_index s axis e (label_part s e) ≡ coord =
            same_coord (cell source (source_index s axis e (label_part s e))) (cell source coord) (where_at arrays source (source_index s axis e (label_part s e)) (cell source coord) x) in
            let q = inside_parts own parts e (subst (λ (ns : List ℕ). IsInside ns e) counts_are at_e) in
            same e q.front q.behind q.is q.first q.rest w p
        | inr y ↦
            absurd (differ (same_array (cell labels (label_part s e ∷ [])) (cell source coord) (where_at arrays labels (label_part s e ∷ []) (cell source coord) y)))
      ])
    where
      same : (e xs ys : List ℕ) → e ≡ xs ++ ys → IsInside own xs → IsInside parts ys → source_index s axis e (label_part s e) ≡ coord
          → (p : PartOf (get_or coord axis 0)) → e ≡ set coord axis 0 ++ p.behind
      same e xs ys is first rest w p =
          let long = length_own xs first in
          let n = label_part s (xs ++ ys) in
          let set_is : set xs axis n ≡ coord = sym (source_front xs ys n long) ∙ ap (λ (l : List ℕ). source_index s axis l (label_part s l)) (sym is) ∙ w in
          let zero_at = grouped_first axis groups s.shape s.chunk xs f.some f.along ok.ranks first in
          let front : xs ≡ set coord axis 0 =
          sym (set-get_or xs axis 0) ∙ ap (set xs axis) zero_at ∙ sym (set-set xs axis n 0) ∙ ap (λ (l : List ℕ). set l axis 0) set_is in
          let along = f.along in
          let at : get_or ys 0 0 ≡ get_or coord axis 0 =
          sym (part_behind xs ys long) ∙ sym (get_or-set_same xs axis n 0 (omega (arith, along, long))) ∙ ap (λ (l : List ℕ). get_or l axis 0) set_is in
          is ∙ (λ i. front i ++ p.only ys rest at i)

-- ---- any operation

folded_region : (arrays : List ArrayInfo) (op : Op) (f : ℕ → Bool) (source out : ℕ) (ok : IsGrid (grid_at arrays source))
    (squeezed : IsSqueezed (partial_grid (groups_of f (grid_at arrays source).chunk) (grid_at arrays source)) (grid_at arrays out)) (coord : List ℕ)
    → task_grid arrays op ≡ grid_at arrays out
    → ((c : List ℕ) → needed_chunks arrays op c ≡ chunk_where arrays source (source_coord arrays (groups_of f (grid_at arrays source).chunk) source out c))
    → IsCoordinate (grid_at arrays source) coord → OneRegion arrays op (cell source coord)
folded_region arrays op f source out ok squeezed coord tasks cells here =
    let once = folded_once arrays f source out ok squeezed coord here in
    let own : (r : ℕ) → own_cells arrays op r ≡ reduced arrays f source out ok squeezed r =
    λ r. cells (index_at (grid_counts (task_grid arrays op)) r)
    ∙ ap (λ (g : RegularGrid). chunk_where arrays source (source_coord arrays (groups_of f (grid_at arrays source).chunk) source out (index_at (grid_counts g) r))) tasks in
    let many : regions_of arrays op ≡ product (grid_counts (grid_at arrays out)) = ap (λ (g : RegularGrid). product (grid_counts g)) tasks in
    record {
      number = once.number;
      below = subst (λ n. once.number < n) (sym many) once.below;
      reads = subst (λ (cs : List Cell). Contains cs (cell source coord)) (sym (own once.number)) once.reads;
      only = λ r l h. once.only r (subst (λ n. r < n) many l) (subst (λ (cs : List Cell). Contains cs (cell source coord)) (own r) h);
    }

not_carried : (arrays : List ArrayInfo) (gs : Groups) (source out : ℕ) (carry : Option ℕ) (e coord : List ℕ) → CarriesFor arrays gs source out carry
    → Contains (carried_chunk arrays carry e) (cell source coord) → ⊥
not_carried arrays gs source out None e coord fits (k, l, is) = omega arith
not_carried arrays gs source out (Some a) e coord fits h = fits.0 (same_array (cell a e) (cell source coord) (where_at arrays a e (cell source coord) h))

module _ (arrays : List ArrayInfo) (a : ℕ) (coord : List ℕ) (here : IsCoordinate (grid_at arrays a) coord) where
  abbrev at : Cell
  at = cell a coord

  -- what is shown of the source holds of an array that is the source
  of_source : (op : Op) (source : ℕ) → a ≡ source → (IsCoordinate (grid_at arrays source) coord → OneRegion arrays op (cell source coord)) → OneRegion arrays op at
  of_source op source is h =
      subst (λ (x : ℕ). OneRegion arrays op (cell x coord)) (sym is) (h (subst (λ (x : ℕ). IsCoordinate (grid_at arrays x) coord) is here))

  pub one_region : (op : Op) → Stands arrays (kind_of op) → ReadsByChunk arrays op a → ((others : List ℕ) → reads_of op ≡ a ∷ others → Contains others a → ⊥) → OneRegion arrays op at
  one_region (Map kernel ins out) s by once =
      let alike = alike_told ins.items a (grid_at arrays a) (grid_at arrays out) by in
      let ok = s.grids a (All-contains (λ b. b < length arrays) ins.items a s.reads alike.0) in
      let f : List ℕ → ℕ → Cell = λ e b. cell b (back (grid_at arrays b).shape e) in
      by_coordinate arrays (Map kernel ins out) at coord (subst (λ (g : RegularGrid). IsCoordinate g coord) alike.1 here)
      (subst (Contains (map (f coord) ins.items)) (ap (cell a) (back_own (grid_at arrays a) coord ok here)) (map_contains (f coord) ins.items a alike.0))
      (λ e at_e h.
      let (b, among, is) = contains_mapped (f e) ins.items at h in
      let same : b ≡ a = same_array (f e b) at is in
      let read : back (grid_at arrays b).shape e ≡ coord = same_coord (f e b) at is in
      let own : back (grid_at arrays a).shape e ≡ e = back_own (grid_at arrays a) e ok (subst (λ (g : RegularGrid). IsCoordinate g e) (sym alike.1) at_e) in
      sym own ∙ ap (λ (x : ℕ). back (grid_at arrays x).shape e) (sym same) ∙ read)
  one_region (Fold kind axes source out) s by once =
      of_source (Fold kind axes source out) source (told_equal a source by)
      (folded_region arrays (Fold kind axes source out) (has_axis axes) source out (s.grids source (s.reads 0 0 (omega arith))) s.fits.result coord refl (λ c. refl))
  one_region (PairFold least axis source values out) s by once =
      of_source (PairFold least axis source values out) source (told_equal a source by)
      (folded_region arrays (PairFold least axis source values out) (is_sought axis) source out (s.grids source (s.reads 0 0 (omega arith))) s.fits.1.result coord refl (λ c. refl))
  one_region (Scan axis source carry out) s by once =
      of_source (Scan axis source carry out) source (told_equal a source by)
      (λ there.
      by_coordinate arrays (Scan axis source carry out) (cell source coord) coord (subst (λ (g : RegularGrid). IsCoordinate g coord) (sym s.fits.grid) there)
      (Contains-append_left (chunk_where arrays source coord) (carried_chunk arrays carry coord) (cell source coord) (where_there arrays source coord there))
      (λ e at_e h.
      elim (Contains-append_cases (chunk_where arrays source e) (carried_chunk arrays carry e) (cell source coord) h) [
        | inl own ↦ same_coord (cell source e) (cell source coord) (where_at arrays source e (cell source coord) own)
        | inr other ↦ absurd (not_carried arrays _ source out carry e coord s.fits.carried other)
      ]))
  one_region (GroupFold kind axis groups source labels out) s by once =
      let same = told_equal a source by in
      of_source (GroupFold kind axis groups source labels out) source same
      (grouped_once arrays kind axis groups source labels out (s.grids source (s.reads 0 0 (omega arith))) s.fits
      (λ twice. once (labels ∷ []) (ap (λ (x : ℕ). x ∷ labels ∷ []) (sym same)) (0, omega arith, twice ∙ sym same)) coord)
  one_region op s by once = absurd (not_one by)
