-- What stands inside the tasks of an operation: its room, its calls, what it reads and what it makes.
use Rattle.cu_codec.proofs.Taken.{region_in_array}
use Rattle.cu_grid.proofs.Parting.{lies_within}
use Rattle.cu_op.proofs.CellsOfTasks.{map_contains}
use Rattle.cu_op.proofs.Fetched.{among, first_stored, inlined_rule, inner_of, maker_before, read_before, stored_deep, Inner}
use Rattle.cu_op.proofs.Depths.{ordered, same_ops}
use Rattle.cu_op.proofs.Fetching.{inner_fetched, walk_fetched}
use Rattle.cu_op.proofs.KindLaws.{laws_of}
use Rattle.cu_op.proofs.Members.{bool_cases}
use Rattle.cu_op.proofs.Plans.{grid_ok}
use Rattle.cu_op.proofs.TaskCells.{fit_of, made_cell, read_array, reads_lie_in, region_number}
use Rattle.cu_op.proofs.Values.{inlined_kept, rule_reads}
use Rattle.cu_op.proofs.WalkCells.{from_walk, kept_walk, meets_walk, one_walk}
use Rattle.cu_op.specs.Arrays.{array_at, grid_at, is_inlined, layout_at, maker_at, type_at}
use Rattle.cu_op.specs.Cells.{regions_of, task_at, task_coord, IsChunk}
use Rattle.cu_op.specs.Chunks.{cell}
use Rattle.cu_op.specs.Elements.{Elements}
use Rattle.cu_op.specs.Operation.{reads_of, target_of, writes_of, IsBefore, IsReadable, ReadsByChunk}
use Rattle.cu_op.specs.PlanView.{PlanView, op_of}
use Rattle.cu_op.specs.Projection.{input_room, instruction_count, output_room, projection, scratch_room}
use Rattle.cu_op.specs.Schedule.{key_of, MakesChunk}
use Rattle.cu_op.specs.Sound.{Sound}
use Rattle.cu_op.specs.TaskView.{IsInnerRegion, IsReadAsIs}
use Rattle.cu_op.specs.Value.{rule, stored_inputs}
use Rattle.cu_op.specs.Walks.{cells_of_walks, input_walks, new_walks, read_chunks, walk_cells, IsWalkOver}
use Rattle.cu_op.specs.Within.{chunks_deep, fetched_chunks, made_by, maker_op, ops_deep, ops_within, with_inlined}
use Rattle.cu_op.specs.declared.cells.Cell.{Cell}
use Rattle.cu_op.specs.declared.operation.Op.{Op}
use Rattle.cu_op.specs.declared.walks.Walk.{Walk}
use Rattle.cu_region.proofs.StoredReads.{meets_own}
use Rattle.cu_region.specs.Reading.{ReadsRegion}
use Rattle.cu_region.specs.Steady.{HoldSame}
use Rattle.cu_shape.specs.Counts.{largest}
use Rattle.cu_shape.specs.Index.{quotients}
use Rattle.cu_store.specs.Held.{Contents}
use Rattle.cu_store.specs.Steps.{Shown}
use Rattle.cu_store.specs.declared.faults.TaskFault.{TaskFault}
use Rattle.cu_store.specs.declared.faults.TaskFault.TheVariants.{BadChunk, NoMemory, Store}
use Rattle.cu_task.proofs.TaskKinds.{sums_alike, tally_alike}
use Rattle.cu_task.proofs.TaskRegions.{written_in}
use Rattle.cu_task.specs.Calls.{chunk_calls, chunk_tally, read_calls, read_tally, tally_by, MakesSureCalls, HasSureCalls}
use Rattle.cu_task.specs.Inputs.{HasRegion, IsWalkFault, IsWalkKey}
use Rattle.cu_task.specs.Task.{ops_inside, steps_within, work_room, HasResult, IsTaskFault, IsTaskKey}
use Rattle.cu_zarr.specs.Stored.{element_in}
use Rattle.std.proofs.Common.{◌≡◌, inl, inr, ℕ, zero, suc, ◌<◌, ◌≤◌, ◌+◌, ◌*◌, ◌^◌, true, false, List, [], ◌∷◌, length, map, drop, All, Contains, Option, Some, None, get_or, refl, ap, sym, ◌∙◌, subst, arith, if◌then◌else◌}
use Rattle.std.proofs.lemmas.List.Elements.{All-contains, All-contains_itself}
use Rattle.std.proofs.lemmas.List.Sums.{sum_by-append, sum_by-cons}
use Rattle.std.specs.List.{flat_map}
use Rattle.std.specs.Prelude.{sum_by}

-- ---- the greatest of some numbers, and sums

largest_most : (f : Op → ℕ) (xs : List Op) (x : Op) → Contains xs x → f x ≤ largest (map f xs)
largest_most f [] x (k, l, e) = absurd (omega arith)
largest_most f (y ∷ ys) x (zero, l, e) = let same : f y ≡ f x = ap f e in omega (arith, same)
largest_most f (y ∷ ys) x (suc k, l, e) = let rest = largest_most f ys x (k, omega arith, e) in omega (arith, rest)

largest_fewer : (f : Op → ℕ) (xs ys : List Op) → ((x : Op) → Contains xs x → Contains ys x)
    → largest (map f xs) ≤ largest (map f ys)
largest_fewer f [] ys h = omega arith
largest_fewer f (x ∷ xs) ys h =
    let own = largest_most f ys x (h x (0, omega arith, refl)) in
    let rest = largest_fewer f xs ys (λ y there. h y (suc there.0, (let l = there.1 in omega arith), there.2)) in
    omega (arith, own, rest)

sum_of_one : (f : Op → ℕ) (g : ℕ → List Op) (xs : List ℕ) (x : ℕ) → Contains xs x
    → sum_by f (g x) ≤ sum_by f (flat_map g xs)
sum_of_one f g [] x (k, l, e) = absurd (omega arith)
sum_of_one f g (y ∷ ys) x (zero, l, e) =
    let both = sum_by-append f (g y) (flat_map g ys) in
    let same : sum_by f (g y) ≡ sum_by f (g x) = ap (λ (n : ℕ). sum_by f (g n)) e in
    omega (arith, both, same)
sum_of_one f g (y ∷ ys) x (suc k, l, e) =
    let both = sum_by-append f (g y) (flat_map g ys) in
    let rest = sum_of_one f g ys x (k, omega arith, e) in
    omega (arith, both, rest)

pub ones : (f : Cell → ℕ) (cs : List Cell) → ((c : Cell) → Contains cs c → f c ≡ 1) → sum_by f cs ≡ length cs
ones f [] h = refl
ones f (c ∷ cs) h =
    let own = h c (0, omega arith, refl) in
    let rest = ones f cs (λ d there. h d (suc there.0, (let l = there.1 in omega arith), there.2)) in
    let first = sum_by-cons f c cs in
    omega (arith, own, rest, first)

-- ---- calls

-- a chunk of a stored array adds its weight, and takes one
pub stored_weight : (weight : Cell → ℕ) (p : PlanView) (n : ℕ) (c : Cell) → is_inlined p.arrays c.array ≡ false → chunk_tally weight p n c ≡ weight c
stored_weight weight p zero c f = refl
stored_weight weight p (suc n) c f = rw f refl

pub stored_chunk : (p : PlanView) (n : ℕ) (c : Cell) → is_inlined p.arrays c.array ≡ false → chunk_calls p n c ≡ 1
stored_chunk p n c f = stored_weight (λ d. 1) p n c f

-- ---- the room of an operation

-- its own chunks lie within what it works in
pub scratch_of_work : (p : PlanView) (k : ℕ) → scratch_room p.arrays (op_of p k) ≤ work_room p k
scratch_of_work p k =
    let own = largest_most (scratch_room p.arrays) (ops_within p k) (op_of p k) (first_within k) in
    omega (arith, own)
  where
    first_within : (n : ℕ) → Contains (ops_deep p n (op_of p k)) (op_of p k)
    first_within zero = (0, omega arith, refl)
    first_within (suc n) = (0, omega arith, refl)

-- the operation, and those inside
pub within_first : (p : PlanView) (k : ℕ) → ops_within p k ≡ op_of p k ∷ ops_inside p k
within_first p k = by_depth k
  where
    by_depth : (n : ℕ) → ops_deep p n (op_of p k) ≡ op_of p k ∷ drop 1 (ops_deep p n (op_of p k))
    by_depth zero = refl
    by_depth (suc n) = refl

-- its own steps are among those of its kernels
pub steps_of_own : (p : PlanView) (k : ℕ) → instruction_count (op_of p k) ≤ steps_within p k
steps_of_own p k =
    let all = ap (sum_by instruction_count) (within_first p k) ∙ sum_by-cons instruction_count (op_of p k) (ops_inside p k) in
    omega (arith, all)

pub own_sure : (p : PlanView) (k : ℕ) → HasSureCalls p k → MakesSureCalls (op_of p k)
own_sure p k sure = subst (λ (ops : List Op). All MakesSureCalls ops) (within_first p k) sure 0 (op_of p k) (omega arith)

-- what a task is lent has room for what it works in and for its own regions
pub record LentRoom (p : PlanView) (k bytes : ℕ) : Type 0 where
  pub parts : bytes ≡ work_room p k + input_room p.arrays (op_of p k) + output_room p.arrays (op_of p k)
  pub small : bytes < 2 ^ 64

pub lent_room : (p : PlanView) (k bytes words : ℕ) → Sound p → k < length p.ops → words ≡ 64 * steps_within p k
    → p.reserved + bytes + 8 * words ≡ projection p k → LentRoom p k bytes
lent_room p k bytes words s below count room =
    let all = ap (sum_by (input_room p.arrays)) (within_first p k) ∙ sum_by-cons (input_room p.arrays) (op_of p k) (ops_inside p k) in
    let few = s.rooms k below in
    record {
      parts = sums p.reserved bytes words (largest (map (scratch_room p.arrays) (ops_within p k))) (sum_by (input_room p.arrays) (ops_within p k)) (output_room p.arrays (op_of p k))
          (steps_within p k) (input_room p.arrays (op_of p k)) (sum_by (input_room p.arrays) (ops_inside p k)) count room all;
      small = omega (arith, few, room);
    }
  where
    sums : (r b w s i o n own inner : ℕ) → w ≡ 64 * n → r + b + 8 * w ≡ r + s + i + o + 512 * n → i ≡ own + inner → b ≡ s + inner + own + o
    sums r b w s i o n own inner g h e = omega arith

-- an operation's input regions are within its projection
pub inputs_small : (p : PlanView) (k : ℕ) → Sound p → k < length p.ops → input_room p.arrays (op_of p k) < 2 ^ 64
inputs_small p k s below =
    let all = ap (sum_by (input_room p.arrays)) (within_first p k) ∙ sum_by-cons (input_room p.arrays) (op_of p k) (ops_inside p k) in
    let few = s.rooms k below in
    omega (arith, all, few)

module _ (p : PlanView) (s : Sound p) where
  -- ---- what is read

  pub read_of : (k task : ℕ) (w : Walk) → Contains (input_walks p.arrays (op_of p k) task) w → Contains (reads_of (op_of p k)) w.array
  read_of k task w listed =
      subst (λ (numbers : List ℕ). Contains numbers w.array) ((laws_of (op_of p k)).walked p.arrays _ _) (map_contains (λ (x : Walk). x.array) (input_walks p.arrays (op_of p k) task) w listed)

  pub readable_of : (k a : ℕ) → k < length p.ops → Contains (reads_of (op_of p k)) a → IsReadable p.arrays k a
  readable_of k a h read = All-contains (IsReadable p.arrays k) (reads_of (op_of p k)) a (s.operations k h).reads read

  -- an operation that reads no array by chunks reads stored ones
  pub stored_read : (k a : ℕ) → k < length p.ops → Contains (reads_of (op_of p k)) a → (ReadsByChunk p.arrays (op_of p k) a → ⊥) → is_inlined p.arrays a ≡ false
  stored_read k a h read never =
      elim (bool_cases (is_inlined p.arrays a)) [
        | inr f ↦ f
        | inl t ↦ absurd (never ((s.inlined a (readable_of k a h read).0 t).reader k h read))
      ]

  -- ---- the operations inside

  abbrev opened : ℕ → ℕ → List Op
  opened n a = if is_inlined p.arrays a then ops_deep p n (maker_op p a) else []

  inner_is : (k : ℕ) → k < length p.ops → ops_inside p k ≡ flat_map (opened k) (reads_of (op_of p k))
  inner_is k h = ap (drop 1) (same_ops p (ordered p s) k (suc k) k h (omega arith) (omega arith))

  -- of an array that an operation makes where another reads it
  module _ (k a j : ℕ) (h : k < length p.ops) (read : Contains (reads_of (op_of p k)) a) (t : is_inlined p.arrays a ≡ true) (made : maker_at p.arrays a ≡ Some j) where
    pub before_reader : j < k
    before_reader = maker_before p s (maker_at p.arrays a) k j (readable_of k a h read).1 made

    opened_is : opened k a ≡ ops_within p j
    opened_is =
        let within : j < length p.ops = (let l = before_reader in omega (arith, l, h)) in
        let own : opened k a ≡ ops_deep p k (maker_op p a) = rw t refl in
        let l = before_reader in
        own ∙ ap (ops_deep p k) (ap (made_by p) made) ∙ same_ops p (ordered p s) k j j within (omega (arith, l)) (omega arith)

    sum_inside : (f : Op → ℕ) → sum_by f (ops_within p j) ≤ sum_by f (ops_inside p k)
    sum_inside f =
        let one = sum_of_one f (opened k) (reads_of (op_of p k)) a read in
        let same = ap (sum_by f) opened_is in
        let all = ap (sum_by f) (inner_is k h) in
        omega (arith, one, same, all)

    inside : (o : Op) → Contains (ops_within p j) o → Contains (ops_within p k) o
    inside o there =
        let listed = among (opened k) (reads_of (op_of p k)) a o read (subst (λ (ops : List Op). Contains ops o) (sym opened_is) there) in
        let behind = subst (λ (ops : List Op). Contains ops o) (sym (inner_is k h)) listed in
        subst (λ (ops : List Op). Contains ops o) (sym (within_first p k)) (suc behind.0, (let l = behind.1 in omega arith), behind.2)

    pub inner_room : input_room p.arrays (op_of p j) + work_room p j ≤ work_room p k
    inner_room =
        let scratch = largest_fewer (scratch_room p.arrays) (ops_within p j) (ops_within p k) inside in
        let inputs = sum_inside (input_room p.arrays) in
        let all = ap (sum_by (input_room p.arrays)) (within_first p j) ∙ sum_by-cons (input_room p.arrays) (op_of p j) (ops_inside p j) in
        omega (arith, scratch, inputs, all)

    pub inner_steps : steps_within p j ≤ steps_within p k
    inner_steps =
        let steps = sum_inside instruction_count in
        let all = ap (sum_by instruction_count) (within_first p k) ∙ sum_by-cons instruction_count (op_of p k) (ops_inside p k) in
        omega (arith, steps, all)

    pub inner_sure : HasSureCalls p k → HasSureCalls p j
    inner_sure sure = each (ops_within p j) inside
      where
        each : (ops : List Op) → ((o : Op) → Contains ops o → Contains (ops_within p k) o) → All MakesSureCalls ops
        each ops there i d l = All-contains MakesSureCalls (ops_within p k) (get_or ops i d) sure (there (get_or ops i d) (All-contains_itself ops i d l))

  -- ---- calls inside

  walk_read : (k task : ℕ) (c : Cell) → Contains (cells_of_walks p.arrays (input_walks p.arrays (op_of p k) task)) c → Contains (read_chunks p.arrays (op_of p k) task) c
  walk_read k task c there =
      let (w, listed, here) = one_walk p.arrays (input_walks p.arrays (op_of p k) task) c there in
      from_walk p.arrays (new_walks (input_walks p.arrays (op_of p k) task) []) w c (kept_walk (input_walks p.arrays (op_of p k) task) w listed) here

  module _ (weight : Cell → ℕ) where
    inner_chunk : (n : ℕ) (c : Cell) (i : Inner p s (suc n) c) → is_inlined p.arrays c.array ≡ true
        → chunk_tally weight p (suc n) c ≡ tally_by weight (chunk_tally weight p n) p.arrays (op_of p i.maker) (task_at p.arrays (op_of p i.maker) c)
    inner_chunk n c i t =
        let own : chunk_tally weight p (suc n) c ≡ tally_by weight (chunk_tally weight p n) p.arrays (maker_op p c.array) (task_at p.arrays (maker_op p c.array) c) = rw t refl in
        own ∙ ap (λ (op : Op). tally_by weight (chunk_tally weight p n) p.arrays op (task_at p.arrays op c)) i.op

    -- one depth is as good as another
    same_tally : (n m : ℕ) (c : Cell) → IsChunk p.arrays c → IsReadable p.arrays n c.array → IsReadable p.arrays m c.array
        → chunk_tally weight p n c ≡ chunk_tally weight p m c
    same_tally zero zero c here a b = refl
    same_tally zero (suc m) c here a b = sym (stored_weight weight p (suc m) c (first_stored p s c.array a))
    same_tally (suc n) zero c here a b = stored_weight weight p (suc n) c (first_stored p s c.array b)
    same_tally (suc n) (suc m) c here a b =
        elim (bool_cases (is_inlined p.arrays c.array)) [
          | inr f ↦ stored_weight weight p (suc n) c f ∙ sym (stored_weight weight p (suc m) c f)
          | inl t ↦
              let i = inner_of p s (suc n) c here a t in
              let before = maker_before p s (maker_at p.arrays c.array) (suc m) i.maker b.1 i.made in
              let o : Inner p s (suc m) c = record { maker = i.maker; made = i.made; before = before; op = i.op; makes = i.makes } in
              let r = task_at p.arrays (op_of p i.maker) c in
              let l = i.before in
              inner_chunk n c i t
              ∙ tally_alike weight (chunk_tally weight p n) (chunk_tally weight p m) p.arrays (op_of p i.maker) r (λ d there.
              let listed = walk_read i.maker r d there in
              let x = read_before p s i.maker r d n i.makes.operation i.makes.number (omega (arith, l)) listed in
              let y = read_before p s i.maker r d m i.makes.operation i.makes.number (omega (arith, before)) listed in
              same_tally n m d x.0 x.1 y.1)
              ∙ sym (inner_chunk m c o t)
        ]

    -- for a region of a stored array, or one that has no chunk
    pub stored_tally : (k : ℕ) (w : Walk) → IsReadAsIs p.arrays w → sum_by (chunk_tally weight p k) (walk_cells p.arrays w) ≡ sum_by weight (walk_cells p.arrays w)
    stored_tally k w (inr none) = ap (sum_by (chunk_tally weight p k)) none ∙ sym (ap (sum_by weight) none)
    stored_tally k w (inl f) =
        sums_alike (chunk_tally weight p k) weight (walk_cells p.arrays w) (λ c there. stored_weight weight p k c (subst (λ (a : ℕ). is_inlined p.arrays a ≡ false) (sym (of_walk c there)) f))
      where
        of_walk : (c : Cell) → Contains (walk_cells p.arrays w) c → c.array ≡ w.array
        of_walk c there = each _ c there
          where
            each : (coords : List (List ℕ)) (c : Cell) → Contains (map (cell w.array) coords) c → c.array ≡ w.array
            each [] c (k, l, e) = absurd (omega arith)
            each (x ∷ xs) c (zero, l, e) = ap (λ (d : Cell). d.array) (sym e)
            each (x ∷ xs) c (suc k, l, e) = each xs c (k, omega arith, e)

    -- for one that is made where it is read
    pub inner_tally : (k : ℕ) (w : Walk) (j region : ℕ) → IsReadable p.arrays k w.array → is_inlined p.arrays w.array ≡ true → IsInnerRegion p w j region
        → sum_by (chunk_tally weight p k) (walk_cells p.arrays w) ≡ read_tally weight p j region
    inner_tally k w j region readable t i =
        let c = cell w.array (task_coord p.arrays (op_of p j) region) in
        let here = (made_cell p s j region w.array c.coord i.makes).2 in
        let e = region_number p s j region w.array c.coord i.makes in
        let o : Inner p s (suc j) c = record {
          maker = j;
          made = i.maker;
          before = omega arith;
          op = ap (made_by p) i.maker;
          makes = subst (λ (r : ℕ). MakesChunk p j r w.array c.coord) e i.makes;
        } in
        let one : sum_by (chunk_tally weight p k) (c ∷ []) ≡ chunk_tally weight p k c = (let n = sum_by-cons (chunk_tally weight p k) c [] in omega (arith, n)) in
        ap (sum_by (chunk_tally weight p k)) i.cells ∙ one
        ∙ same_tally k (suc j) c here readable (readable.0, later (maker_at p.arrays w.array) j i.maker)
        ∙ inner_chunk j c o t
        ∙ ap (tally_by weight (chunk_tally weight p j) p.arrays (op_of p j)) (sym e)
      where
        later : (m : Option ℕ) (j : ℕ) → m ≡ Some j → IsBefore m (suc j)
        later None j e = tt
        later (Some n) j e = let same : n ≡ j = cc in omega (arith, same)

  pub stored_calls : (k : ℕ) (w : Walk) → IsReadAsIs p.arrays w → sum_by (chunk_calls p k) (walk_cells p.arrays w) ≡ length (walk_cells p.arrays w)
  stored_calls k w as_is = stored_tally (λ c. 1) k w as_is ∙ ones (λ c. 1) (walk_cells p.arrays w) (λ c there. refl)

  pub inner_calls : (k : ℕ) (w : Walk) (j region : ℕ) → IsReadable p.arrays k w.array → is_inlined p.arrays w.array ≡ true → IsInnerRegion p w j region
      → sum_by (chunk_calls p k) (walk_cells p.arrays w) ≡ read_calls p j region
  inner_calls k w j region readable t i = inner_tally (λ c. 1) k w j region readable t i

  -- ---- keys and faults

  -- a chunk that an operation reads of a stored array is fetched
  pub read_fetched : (k task : ℕ) (c : Cell) → Contains (read_chunks p.arrays (op_of p k) task) c → is_inlined p.arrays c.array ≡ false → Contains (fetched_chunks p k task) c
  read_fetched k task c there f =
      among (chunks_deep read_chunks p k) (read_chunks p.arrays (op_of p k) task) c c there (subst (λ (cs : List Cell). Contains cs c) (sym (stored_deep p s read_chunks k c f)) (0, omega arith, refl))

  no_chunk : (cs : List Cell) (c : Cell) → cs ≡ [] → Contains cs c → ⊥
  no_chunk [] c e (k, l, is) = omega arith
  no_chunk (x ∷ xs) c e there = cc

  pub own_fetched : (k task : ℕ) (w : Walk) (c : Cell) → Contains (input_walks p.arrays (op_of p k) task) w → IsReadAsIs p.arrays w → Contains (walk_cells p.arrays w) c → Contains (fetched_chunks p k task) c
  own_fetched k task w c listed (inl f) there = walk_fetched p s k task w c listed f there
  own_fetched k task w c listed (inr none) there = absurd (no_chunk (walk_cells p.arrays w) c none there)

  pub own_key : (k task : ℕ) (w : Walk) → Contains (input_walks p.arrays (op_of p k) task) w → IsReadAsIs p.arrays w → (key : List ℕ) → IsWalkKey p.arrays w key → IsTaskKey p k task key
  own_key k task w listed as_is key (c, there, e) = (c, own_fetched k task w c listed as_is there, e)

  pub own_fault : (k task : ℕ) (w : Walk) → Contains (input_walks p.arrays (op_of p k) task) w → IsReadAsIs p.arrays w → (old new : Shown) (e : TaskFault) → IsWalkFault old new p.arrays w e → IsTaskFault old new p k task e
  own_fault k task w listed as_is old new Store h = h
  own_fault k task w listed as_is old new (BadChunk key got want) (c, there, is, size, other, holds) = (c, own_fetched k task w c listed as_is there, is, size, other, holds)
  own_fault k task w listed as_is old new NoMemory h = h

  -- of what stands inside
  module _ (k task j region : ℕ) (w : Walk) (h : k < length p.ops) (listed : Contains (input_walks p.arrays (op_of p k) task) w) (t : is_inlined p.arrays w.array ≡ true) (i : IsInnerRegion p w j region) where
    pub inner_key : (key : List ℕ) → IsTaskKey p j region key → IsTaskKey p k task key
    inner_key key (c, there, e) = (c, inner_fetched p s k task j region w c h listed t i there, e)

    pub inner_fault : (old new : Shown) (e : TaskFault) → IsTaskFault old new p j region e → IsTaskFault old new p k task e
    inner_fault old new Store fault = fault
    inner_fault old new (BadChunk key got want) (c, there, is, size, other, holds) = (c, inner_fetched p s k task j region w c h listed t i there, is, size, other, holds)
    inner_fault old new NoMemory fault = fault

    -- what the maker's rule gives is the array's
    pub inner_has : (at : Elements) (out : List ℕ) → HasResult p j region (target_of (op_of p j)) (with_inlined p at) out
        → HasRegion (type_at p.arrays w.array) (with_inlined p at w.array) w.region.lo w.region.hi out
    inner_has at out has idx within =
        let readable = readable_of k w.array h (read_of k task w listed) in
        inlined_rule p s at w.array j idx readable.0 t i.maker ∙ over i.lo i.hi i.target has idx within
      where
        over : {lo hi l u : List ℕ} {a b : ℕ} → lo ≡ l → hi ≡ u → a ≡ b → HasRegion (type_at p.arrays a) (rule (op_of p j) p.arrays (with_inlined p at) a) lo hi out
            → HasRegion (type_at p.arrays b) (rule (op_of p j) p.arrays (with_inlined p at) b) l u out
        over e f g has = rw (sym e, sym f, sym g) has

  -- ---- what is read as it is stored

  pub read_has : (w : Walk) (held : Contents) (out : List ℕ) → IsWalkOver p.arrays w → IsReadAsIs p.arrays w → ReadsRegion (array_at p.arrays w.array) w.region.lo w.region.hi (Some held) out
      → HasRegion (type_at p.arrays w.array) (with_inlined p (stored_inputs p.arrays held) w.array) w.region.lo w.region.hi out
  read_has w held out over (inl f) reads idx within = inlined_kept p (stored_inputs p.arrays held) w.array idx s f ∙ reads idx within
  read_has w held out over (inr none) reads idx within =
      let ok = grid_ok p w.array s over.0 in
      let m = meets_own (array_at p.arrays w.array) w.region.lo w.region.hi idx ok over.1 within in
      absurd (no_chunk (walk_cells p.arrays w) (cell w.array (quotients idx (grid_at p.arrays w.array).chunk)) none (meets_walk p.arrays w (quotients idx (grid_at p.arrays w.array).chunk) ok over m))

  -- an operation that reads no array by chunks makes the same of what is held later
  pub stored_alike : (k task a : ℕ) → k < length p.ops → task < regions_of p.arrays (op_of p k) → Contains (writes_of (op_of p k)) a → ((b : ℕ) → ReadsByChunk p.arrays (op_of p k) b → ⊥)
      → (held now : Contents) → HoldSame (IsTaskKey p k task) (Some held) (Some now) → (out : List ℕ) → HasResult p k task a (stored_inputs p.arrays now) out
      → HasResult p k task a (with_inlined p (stored_inputs p.arrays held)) out
  stored_alike k task a h small writes never held now same out has idx within =
      let op = op_of p k in
      let fit = fit_of p s k h in
      let own = written_in p s k op fit task small a writes in
      let here = quotients idx (grid_at p.arrays a).chunk in
      let m = meets_own (array_at p.arrays a) _ _ idx own.grid own.over.1 within in
      let in_chunk = lies_within (grid_at p.arrays a) idx own.grid (region_in_array (grid_at p.arrays a).shape _ _ idx own.over.1 within) in
      rule_reads op p.arrays (with_inlined p (stored_inputs p.arrays held)) (stored_inputs p.arrays now) a idx (λ b i reads.
      let lies = reads_lie_in p s k op fit task b (cell a here) idx i small (own.written here m) in_chunk reads in
      let c = cell b (quotients i (grid_at p.arrays b).chunk) in
      let read = (read_array p s k op fit task c small lies.1).0 in
      let f = stored_read k b h read (never b) in
      inlined_kept p (stored_inputs p.arrays held) b i s f
      ∙ ap (λ (bytes : Option (List ℕ)). element_in (layout_at p.arrays b) bytes i) (sym (same (key_of p.arrays c) (c, read_fetched k task c lies.1 f, refl))))
      ∙ has idx within
