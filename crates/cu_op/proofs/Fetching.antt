-- The regions of stored arrays that are gone over for a task: they are few, and their chunks are
-- those that the task fetches.
use Rattle.std.proofs.lemmas.List.{append_assoc}
use Rattle.cu_op.proofs.CellsOfTasks.{map_contains}
use Rattle.cu_op.proofs.WalkCells.{from_walk, kept_walk, All-new_walks}
use Rattle.cu_op.specs.Schedule.{MakesChunk}
use Rattle.cu_op.proofs.Depths.{flat_alike, opened, ordered, same_ops}
use Rattle.cu_op.proofs.Fetched.{first_stored, inner_deep, inner_of, maker_before, read_before, stored_deep, Inner, among, one_of, walk_chunk}
use Rattle.cu_op.proofs.KindLaws.{laws_of}
use Rattle.cu_op.proofs.Members.{bool_cases}
use Rattle.cu_op.proofs.TaskCells.{made_cell, region_number, fit_of, input_over}
use Rattle.cu_op.specs.Arrays.{is_inlined, maker_at}
use Rattle.cu_op.specs.Cells.{regions_of, task_at, task_coord, IsChunk}
use Rattle.cu_op.specs.Chunks.{cell}
use Rattle.cu_op.specs.Operation.{reads_of, IsReadable, IsBefore}
use Rattle.cu_op.specs.PlanView.{PlanView, op_of}
use Rattle.cu_op.specs.Sound.{Sound}
use Rattle.cu_op.specs.TaskView.{IsInnerRegion, walk_load, IsReadFor}
use Rattle.cu_op.specs.Walks.{cells_of_walks, input_walks, new_walks, read_chunks, same_walk, walk_cells}
use Rattle.cu_op.specs.Within.{chunks_deep, fetched_chunks, made_by, maker_op, ops_deep, ops_within, stored_reads, reads_for}
use Rattle.cu_op.specs.declared.cells.Cell.{Cell}
use Rattle.cu_op.specs.declared.operation.Op.{Op}
use Rattle.cu_op.specs.declared.walks.Walk.{Walk}
use Rattle.std.proofs.Common.{◌≡◌, inl, inr, ℕ, zero, suc, ◌<◌, ◌≤◌, ◌+◌, true, false, not, List, [], ◌∷◌, ◌++◌, length, map, Contains, Some, refl, ap, sym, ◌∙◌, subst, arith, if◌then◌else◌, Option, None, All, get_or, Bool}
use Rattle.std.proofs.lemmas.Grind.{flat_map-append}
use Rattle.std.proofs.lemmas.List.Elements.{All-contains, All-contains_itself}
use Rattle.std.proofs.lemmas.List.Sums.{sum_by-append, sum_by-cons}
use Rattle.std.specs.List.{count_by, flat_map, list_any}
use Rattle.std.specs.Prelude.{sum_by}

abbrev one_if : Bool → ℕ
one_if b = if b then 1 else 0

module _ (p : PlanView) (s : Sound p) where
  -- ---- one depth is as good as another, of chunks too

  pub same_chunks : (n m : ℕ) (c : Cell) → IsChunk p.arrays c → IsReadable p.arrays n c.array
      → IsReadable p.arrays m c.array
      → chunks_deep read_chunks p n c ≡ chunks_deep read_chunks p m c
  same_chunks zero zero c here a b = refl
  same_chunks zero (suc m) c here a b = sym (stored_deep p s read_chunks (suc m) c (first_stored p s c.array a))
  same_chunks (suc n) zero c here a b = stored_deep p s read_chunks (suc n) c (first_stored p s c.array b)
  same_chunks (suc n) (suc m) c here a b =
      elim (bool_cases (is_inlined p.arrays c.array)) [
        | inr f ↦ stored_deep p s read_chunks (suc n) c f ∙ sym (stored_deep p s read_chunks (suc m) c f)
        | inl t ↦
            let i = inner_of p s (suc n) c here a t in
            let before = maker_before p s (maker_at p.arrays c.array) (suc m) i.maker b.1 i.made in
            let o : Inner p s (suc m) c = record { maker = i.maker; made = i.made; before = before; op = i.op; makes = i.makes } in
            let r = task_at p.arrays (op_of p i.maker) c in
            let l = i.before in
            inner_deep p s read_chunks n c i t
            ∙ flat_alike (chunks_deep read_chunks p n) (chunks_deep read_chunks p m) (read_chunks p.arrays (op_of p i.maker) r) (λ d listed.
            let x = read_before p s i.maker r d n i.makes.operation i.makes.number (omega (arith, l)) listed in
            let y = read_before p s i.maker r d m i.makes.operation i.makes.number (omega (arith, before)) listed in
            same_chunks n m d x.0 x.1 y.1)
            ∙ sym (inner_deep p s read_chunks m c o t)
      ]

  -- ---- the chunks of a walk

  pub stored_walk : (k : ℕ) (w : Walk) → is_inlined p.arrays w.array ≡ false
      → flat_map (chunks_deep read_chunks p k) (walk_cells p.arrays w) ≡ walk_cells p.arrays w
  stored_walk k w f = each _
    where
      each : (coords : List (List ℕ))
          → flat_map (chunks_deep read_chunks p k) (map (cell w.array) coords) ≡ map (cell w.array) coords
      each [] = refl
      each (x ∷ coords) =
          ap (λ (own : List Cell). own ++ flat_map (chunks_deep read_chunks p k) (map (cell w.array) coords)) (stored_deep p s read_chunks k (cell w.array x) f)
          ∙ ap (λ (rest : List Cell). cell w.array x ∷ rest) (each coords)

  pub inner_walk : (k : ℕ) (w : Walk) (j region : ℕ) → IsReadable p.arrays k w.array
      → is_inlined p.arrays w.array ≡ true → IsInnerRegion p w j region
      → flat_map (chunks_deep read_chunks p k) (walk_cells p.arrays w) ≡ fetched_chunks p j region
  inner_walk k w j region readable t i =
      let c = cell w.array (task_coord p.arrays (op_of p j) region) in
      let here = (made_cell p s j region w.array c.coord i.makes).2 in
      ap (flat_map (chunks_deep read_chunks p k)) i.cells ∙ alone (chunks_deep read_chunks p k c)
      ∙ same_chunks k (suc j) c here readable (readable.0, later (maker_at p.arrays w.array) j i.maker)
      ∙ inner_deep p s read_chunks j c (record {
        maker = j;
        made = i.maker;
        before = omega arith;
        op = ap (made_by p) i.maker;
        makes = subst (λ (r : ℕ). MakesChunk p j r w.array c.coord) (region_number p s j region w.array c.coord i.makes) i.makes;
      }) t
      ∙ ap (λ (r : ℕ). flat_map (chunks_deep read_chunks p j) (read_chunks p.arrays (op_of p j) r)) (sym (region_number p s j region w.array c.coord i.makes))
    where
      alone : (xs : List Cell) → xs ++ [] ≡ xs
      alone [] = refl
      alone (x ∷ xs) = ap (λ (rest : List Cell). x ∷ rest) (alone xs)

      later : (m : Option ℕ) (j : ℕ) → m ≡ Some j → IsBefore m (suc j)
      later None j e = tt
      later (Some k) j e = let same : k ≡ j = cc in omega (arith, same)

  -- what is fetched for a walk is fetched for the task
  of_walk : (k task : ℕ) (w : Walk) (c : Cell) → Contains (input_walks p.arrays (op_of p k) task) w
      → Contains (flat_map (chunks_deep read_chunks p k) (walk_cells p.arrays w)) c
      → Contains (fetched_chunks p k task) c
  of_walk k task w c listed there =
      let (d, own, inside) = one_of (chunks_deep read_chunks p k) (walk_cells p.arrays w) c there in
      among (chunks_deep read_chunks p k) (read_chunks p.arrays (op_of p k) task) d c
      (from_walk p.arrays (new_walks (input_walks p.arrays (op_of p k) task) []) w d (kept_walk (input_walks p.arrays (op_of p k) task) w listed) own) inside

  pub inner_fetched : (k task j region : ℕ) (w : Walk) (c : Cell) → k < length p.ops
      → Contains (input_walks p.arrays (op_of p k) task) w → is_inlined p.arrays w.array ≡ true
      → IsInnerRegion p w j region
      → Contains (fetched_chunks p j region) c → Contains (fetched_chunks p k task) c
  inner_fetched k task j region w c h listed t i there =
      let read = subst (λ (numbers : List ℕ). Contains numbers w.array) ((laws_of (op_of p k)).walked p.arrays _ _) (map_contains (λ (x : Walk). x.array) (input_walks p.arrays (op_of p k) task) w listed) in
      let readable = All-contains (IsReadable p.arrays k) (reads_of (op_of p k)) w.array (s.operations k h).reads read in
      of_walk k task w c listed (subst (λ (cells : List Cell). Contains cells c) (sym (inner_walk k w j region readable t i)) there)

  pub walk_fetched : (k task : ℕ) (w : Walk) (c : Cell)
      → Contains (input_walks p.arrays (op_of p k) task) w → is_inlined p.arrays w.array ≡ false
      → Contains (walk_cells p.arrays w) c → Contains (fetched_chunks p k task) c
  walk_fetched k task w c listed f there = of_walk k task w c listed (subst (λ (cells : List Cell). Contains cells c) (sym (stored_walk k w f)) there)

  -- ---- how many stored arrays are read

  loads_of : (n : ℕ) (xs : List ℕ)
      → count_by (λ a. not (is_inlined p.arrays a)) xs + sum_by (stored_reads p.arrays) (flat_map (opened p n) xs) ≡ sum_by (reads_for p n) xs
  loads_of n [] = refl
  loads_of n (a ∷ xs) =
      let rest = loads_of n xs in
      let counted = sum_by-cons (λ (a : ℕ). one_if (not (is_inlined p.arrays a))) a xs in
      let split = sum_by-append (stored_reads p.arrays) (opened p n a) (flat_map (opened p n) xs) in
      let all = sum_by-cons (reads_for p n) a xs in
      elim (bool_cases (is_inlined p.arrays a)) [
        | inl t ↦
            let none : one_if (not (is_inlined p.arrays a)) ≡ 0 = rw t refl in
            let own : sum_by (stored_reads p.arrays) (opened p n a) ≡ reads_for p n a = rw t refl in
            omega (arith, rest, counted, split, all, none, own)
        | inr f ↦
            let one : one_if (not (is_inlined p.arrays a)) ≡ 1 = rw f refl in
            let none : sum_by (stored_reads p.arrays) (opened p n a) ≡ 0 = rw f refl in
            let own : reads_for p n a ≡ 1 = rw f refl in
            omega (arith, rest, counted, split, all, one, none, own)
      ]

  pub loads_within : (k : ℕ) → k < length p.ops
      → sum_by (stored_reads p.arrays) (ops_within p k) ≡ sum_by (reads_for p k) (reads_of (op_of p k))
  loads_within k h =
      ap (sum_by (stored_reads p.arrays)) (same_ops p (ordered p s) k (suc k) k h (omega arith) (omega arith))
      ∙ sum_by-cons (stored_reads p.arrays) (op_of p k) (flat_map (opened p k) (reads_of (op_of p k))) ∙ loads_of k (reads_of (op_of p k))

  pub inner_load : (k j a : ℕ) → j < k → j < length p.ops → is_inlined p.arrays a ≡ true
      → maker_at p.arrays a ≡ Some j
      → reads_for p k a ≡ sum_by (stored_reads p.arrays) (ops_within p j)
  inner_load k j a l h t made =
      let given : reads_for p k a ≡ sum_by (stored_reads p.arrays) (ops_deep p k (maker_op p a)) = rw t refl in
      given ∙ ap (λ (op : Op). sum_by (stored_reads p.arrays) (ops_deep p k op)) (ap (made_by p) made) ∙ ap (sum_by (stored_reads p.arrays)) (same_ops p (ordered p s) k j j h (omega arith) (omega arith))

  -- where equal walks are gone over once there are no more
  fewer : (f : Walk → ℕ) (ws seen : List Walk) → sum_by f (new_walks ws seen) ≤ sum_by f ws
  fewer f [] seen = omega arith
  fewer f (w ∷ ws) seen =
      let rest = fewer f ws (seen ++ w ∷ []) in
      let all = sum_by-cons f w ws in
      let kept = sum_by-cons f w (new_walks ws (seen ++ w ∷ [])) in
      elim (bool_cases (list_any (λ v. same_walk v w) seen)) [ inl t ↦ rw t (omega (arith, rest, all)) | inr n ↦ rw n (omega (arith, rest, all, kept)) ]

  mapped_sum : (f : ℕ → ℕ) (ws : List Walk)
      → sum_by (λ (w : Walk). f w.array) ws ≡ sum_by f (map (λ (w : Walk). w.array) ws)
  mapped_sum f [] = refl
  mapped_sum f (w ∷ ws) = sum_by-cons (λ (v : Walk). f v.array) w ws ∙ ap (λ n. f w.array + n) (mapped_sum f ws) ∙ sym (sum_by-cons f w.array (map (λ (v : Walk). v.array) ws))

  pub loads_few : (k region : ℕ) → k < length p.ops
      → sum_by (walk_load p k) (new_walks (input_walks p.arrays (op_of p k) region) []) ≤ sum_by (stored_reads p.arrays) (ops_within p k)
  loads_few k region h =
      let ws = input_walks p.arrays (op_of p k) region in
      let a = fewer (walk_load p k) ws [] in
      let b = mapped_sum (reads_for p k) ws ∙ ap (sum_by (reads_for p k)) ((laws_of (op_of p k)).walked p.arrays _ _) in
      let c = loads_within k h in
      omega (arith, a, b, c)

  -- ---- the walks of a region

  pub read_for : (k region : ℕ) → k < length p.ops → region < regions_of p.arrays (op_of p k)
      → All (IsReadFor p k) (new_walks (input_walks p.arrays (op_of p k) region) [])
  read_for k region h r =
      let ws = input_walks p.arrays (op_of p k) region in
      let over = input_over p s k (op_of p k) (fit_of p s k h) region r in
      All-new_walks (IsReadFor p k) ws [] (λ i d l.
      let w = get_or ws i d in
      let listed = All-contains_itself ws i d l in
      let read = subst (λ (numbers : List ℕ). Contains numbers w.array) ((laws_of (op_of p k)).walked p.arrays _ _) (map_contains (λ (x : Walk). x.array) ws w listed) in
      record {
        over = over i d l;
        readable = All-contains (IsReadable p.arrays k) (reads_of (op_of p k)) w.array (s.operations k h).reads read;
        chunk = λ t. walk_chunk p s k region w h r listed t;
      })

  none_inner_walks : (k : ℕ) (ws : List Walk)
      → list_any (λ (w : Walk). is_inlined p.arrays w.array) ws ≡ false
      → sum_by (walk_load p k) ws ≡ length ws
  none_inner_walks k [] f = refl
  none_inner_walks k (w ∷ ws) f =
      let all = sum_by-cons (walk_load p k) w ws in
      elim (bool_cases (is_inlined p.arrays w.array)) [
        | inl t ↦ absurd (let e : true ≡ false = rw t at f in cc)
        | inr n ↦
            let rest = none_inner_walks k ws (rw n at f) in
            let one : walk_load p k w ≡ 1 = rw n refl in
            omega (arith, all, rest, one)
      ]

  one_inner : (ws : List Walk) → list_any (λ (w : Walk). is_inlined p.arrays w.array) ws ≡ true
      → (w : Walk) × Contains ws w × (is_inlined p.arrays w.array ≡ true)
  one_inner [] t = cc
  one_inner (w ∷ ws) t =
      elim (bool_cases (is_inlined p.arrays w.array)) [
        | inl picked_it ↦ (w, (0, omega arith, refl), picked_it)
        | inr passed_it ↦ let r = one_inner ws (rw passed_it at t) in (r.0, (suc r.1.0, (let l = r.1.1 in omega arith), r.1.2), r.2)
      ]

  few_new : (ws seen : List Walk) → length (new_walks ws seen) ≤ length ws
  few_new [] seen = omega arith
  few_new (w ∷ ws) seen =
      let rest = few_new ws (seen ++ w ∷ []) in
      elim (bool_cases (list_any (λ v. same_walk v w) seen)) [ inl t ↦ rw t (omega (arith, rest)) | inr n ↦ rw n (omega (arith, rest)) ]

  -- there are at most eight
  pub few_walks : (k region : ℕ) → k < length p.ops → region < regions_of p.arrays (op_of p k)
      → length (input_walks p.arrays (op_of p k) region) ≤ 8
      → sum_by (walk_load p k) (new_walks (input_walks p.arrays (op_of p k) region) []) ≤ 8
  few_walks k region h r most =
      let ws = input_walks p.arrays (op_of p k) region in
      elim (bool_cases (list_any (λ (w : Walk). is_inlined p.arrays w.array) (new_walks ws []))) [
        | inl t ↦
            let (w, kept, inner) = one_inner (new_walks ws []) t in
            let read = All-contains (λ (v : Walk). Contains (reads_of (op_of p k)) v.array) (new_walks ws []) w
            (All-new_walks (λ (v : Walk). Contains (reads_of (op_of p k)) v.array) ws [] (λ i d l.
            subst (λ (numbers : List ℕ). Contains numbers (get_or ws i d).array) ((laws_of (op_of p k)).walked p.arrays _ _) (map_contains (λ (x : Walk). x.array) ws (get_or ws i d) (All-contains_itself ws i d l)))) kept in
            let readable = All-contains (IsReadable p.arrays k) (reads_of (op_of p k)) w.array (s.operations k h).reads read in
            let few = (s.inlined w.array readable.0 inner).few k h read in
            let a = loads_few k region h in
            omega (arith, few, a)
        | inr n ↦
            let a = none_inner_walks k (new_walks ws []) n in
            let b = few_new ws [] in
            omega (arith, a, b, most)
      ]

  -- ---- a walk more

  none_more : (xs : List Cell) → xs ++ [] ≡ xs
  none_more [] = refl
  none_more (x ∷ xs) = ap (λ (rest : List Cell). x ∷ rest) (none_more xs)

  -- of a stored array
  pub stored_load : (k : ℕ) (w : Walk) → is_inlined p.arrays w.array ≡ false → walk_load p k w ≡ 1
  stored_load k w f = rw f refl

  pub stored_more : (walks : List Walk) (w : Walk) (k : ℕ) → is_inlined p.arrays w.array ≡ false
      → cells_of_walks p.arrays (walks ++ w ∷ []) ≡ cells_of_walks p.arrays walks ++ flat_map (chunks_deep read_chunks p k) (walk_cells p.arrays w)
  stored_more walks w k f =
      flat_map-append (walk_cells p.arrays) walks (w ∷ []) ∙ ap (λ (rest : List Cell). cells_of_walks p.arrays walks ++ rest) (none_more (walk_cells p.arrays w) ∙ sym (stored_walk k w f))

  -- of one that is made where it is read
  module _ (k : ℕ) (w : Walk) (read : IsReadFor p k w) (t : is_inlined p.arrays w.array ≡ true) where
    pub empty_more : (cells : List Cell) → walk_cells p.arrays w ≡ []
        → cells ≡ cells ++ flat_map (chunks_deep read_chunks p k) (walk_cells p.arrays w)
    empty_more cells e = sym (ap (λ (own : List Cell). cells ++ flat_map (chunks_deep read_chunks p k) own) e ∙ none_more cells)

    module _ (j region : ℕ) (i : IsInnerRegion p w j region) where
      pub inner_before : j < k
      inner_before = maker_before p s (maker_at p.arrays w.array) k j read.readable.1 i.maker

      pub inner_few : sum_by (walk_load p j) (new_walks (input_walks p.arrays (op_of p j) region) []) ≤ walk_load p k w
      inner_few =
          let a = loads_few j region i.makes.operation in
          let b = inner_load k j w.array inner_before i.makes.operation t i.maker in
          omega (arith, a, b)

      pub inner_more : flat_map (chunks_deep read_chunks p j) (cells_of_walks p.arrays (new_walks (input_walks p.arrays (op_of p j) region) [])) ≡ flat_map (chunks_deep read_chunks p k) (walk_cells p.arrays w)
      inner_more = sym (inner_walk k w j region read.readable t i)

  -- of several
  pub next_more : (k : ℕ) (w : Walk) (rest : List Walk) (before now all : List Cell)
      → now ≡ before ++ flat_map (chunks_deep read_chunks p k) (walk_cells p.arrays w)
      → before ++ flat_map (chunks_deep read_chunks p k) (cells_of_walks p.arrays (w ∷ rest)) ≡ all
      → now ++ flat_map (chunks_deep read_chunks p k) (cells_of_walks p.arrays rest) ≡ all
  next_more k w rest before now all e so =
      let D : List Cell → List Cell = λ cells. flat_map (chunks_deep read_chunks p k) cells in
      ap (λ (cells : List Cell). cells ++ flat_map (chunks_deep read_chunks p k) (cells_of_walks p.arrays rest)) e
      ∙ append_assoc before (D (walk_cells p.arrays w)) (D (cells_of_walks p.arrays rest))
      ∙ ap (λ (cells : List Cell). before ++ cells) (sym (flat_map-append (chunks_deep read_chunks p k) (walk_cells p.arrays w) (cells_of_walks p.arrays rest))) ∙ so
