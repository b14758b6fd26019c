-- What tasks fetch from the store where some arrays are made where they are read: which chunks
-- these are, and that the elements that an operation's rule reads depend on them alone.
use Rattle.cu_grid.proofs.Parting.{lies_within}
use Rattle.cu_grid.specs.Grid.{IsInChunk}
use Rattle.cu_op.proofs.KindLaws.{laws_of}
use Rattle.cu_op.proofs.Members.{bool_cases, only_member}
use Rattle.cu_op.proofs.Operations as ops
use Rattle.cu_op.proofs.Plans.{grid_ok, inner_kind}
use Rattle.cu_op.proofs.TaskCells.{fit_of, input_over, read_array, reads_lie_in, region_for}
use Rattle.cu_op.proofs.TaskInputs.{reads_same}
use Rattle.cu_op.proofs.Values.{inlined_kept, inlined_made, rule_reads, same_rule, value_solves}
use Rattle.cu_op.specs.Arrays.{grid_at, grid_counts, is_inlined, maker_at}
use Rattle.cu_op.specs.Cells.{regions_of, task_coord, task_grid, IsChunk}
use Rattle.cu_op.specs.Chunks.{cell, IsOneChunk}
use Rattle.cu_op.specs.Elements.{Elements}
use Rattle.cu_op.specs.InputCells.{input_cells, own_cells}
use Rattle.cu_op.specs.Operation.{reads_of, target_of, IsBefore, IsReadable}
use Rattle.cu_op.specs.PlanView.{PlanView, op_of}
use Rattle.cu_op.specs.Schedule.{task_at, IsReady, MakesChunk}
use Rattle.cu_op.specs.Sound.{Sound}
use Rattle.cu_op.specs.Value.{plan_value, rule, stored_inputs, ReadsAt}
use Rattle.cu_op.specs.Walks.{input_walks, read_chunks, IsWalkOver}
use Rattle.cu_op.specs.Within.{chunks_deep, fetched_chunks, made_by, maker_op, with_inlined}
use Rattle.cu_op.specs.declared.cells.Cell.{Cell}
use Rattle.cu_op.specs.declared.layout.ArrayInfo.{ArrayInfo}
use Rattle.cu_op.specs.declared.operation.Op.{Op}
use Rattle.cu_op.specs.declared.walks.Walk.{Walk}
use Rattle.cu_shape.proofs.Places.{index-inside}
use Rattle.cu_shape.specs.Index.{quotients}
use Rattle.std.proofs.Common.{◌≡◌, ◌↔◌, inl, inr, ℕ, zero, suc, ◌<◌, ◌≤◌, true, false, List, [], ◌∷◌, length, All, Contains, Option, None, Some, get_or, refl, ap, sym, ◌∙◌, subst, arith}
use Rattle.std.proofs.lemmas.List.Elements.{All-contains, Contains-append_cases, Contains-append_left, Contains-append_right}
use Rattle.std.specs.List.{flat_map}

-- ---- lists that are put one behind another

abbrev In : {A B : Type 0} → (A → List B) → B → A → Type 0
In f y x = Contains (f x) y

pub one_of : {A B : Type 0} (f : A → List B) (xs : List A) (y : B) → Contains (flat_map f xs) y
    → (x : A) × Contains xs x × Contains (f x) y
one_of f [] y (k, l, e) = absurd (omega arith)
one_of f (x ∷ xs) y h =
    elim (Contains-append_cases (f x) (flat_map f xs) y h) [
      | inl here ↦ (x, (0, omega arith, refl), here)
      | inr there ↦ let r = one_of f xs y there in (r.0, (suc r.1.0, (let l = r.1.1 in omega arith), r.1.2), r.2)
    ]

pub among : {A B : Type 0} (f : A → List B) (xs : List A) (x : A) (y : B) → Contains xs x
    → Contains (f x) y → Contains (flat_map f xs) y
among f [] x y (k, l, e) h = absurd (omega arith)
among f (z ∷ xs) x y (zero, l, e) h = Contains-append_left (f z) (flat_map f xs) y (subst (In f y) (sym e) h)
among f (z ∷ xs) x y (suc k, l, e) h = Contains-append_right (f z) (flat_map f xs) y (among f xs x y (k, (let b : suc k < suc (length xs) = l in omega arith), e) h)

module _ (p : PlanView) (s : Sound p) where
  -- ---- an array that is made where it is read

  no_maker : (m : Option ℕ) → IsBefore m 0 → m ≡ None
  no_maker None h = refl
  no_maker (Some k) h = absurd (omega arith)

  pub maker_before : (m : Option ℕ) (n j : ℕ) → IsBefore m n → m ≡ Some j → j < n
  maker_before None n j h e = cc
  maker_before (Some k) n j h e = let same : k ≡ j = cc in omega (arith, h, same)

  pub sooner : (m : Option ℕ) (j n : ℕ) → IsBefore m j → j ≤ n → IsBefore m n
  sooner None j n h l = tt
  sooner (Some k) j n h l = omega (arith, h, l)

  -- what is given or made before the first operation is stored
  pub first_stored : (a : ℕ) → IsReadable p.arrays 0 a → is_inlined p.arrays a ≡ false
  first_stored a h =
      elim (bool_cases (is_inlined p.arrays a)) [
        | inr f ↦ f
        | inl t ↦ let m = (s.inlined a h.0 t).maker in let none = no_maker (maker_at p.arrays a) h.1 in let e = m.1 in cc
      ]

  -- of a chunk of such an array: its maker, and the region of it that has the chunk
  pub record Inner (n : ℕ) (c : Cell) : Type 0 where
    pub maker : ℕ
    pub made : maker_at p.arrays c.array ≡ Some maker
    pub before : maker < n
    pub op : maker_op p c.array ≡ op_of p maker
    pub makes : MakesChunk p maker (task_at p.arrays (op_of p maker) c) c.array c.coord

  pub inner_of : (n : ℕ) (c : Cell) → IsChunk p.arrays c → IsReadable p.arrays n c.array
      → is_inlined p.arrays c.array ≡ true → Inner n c
  inner_of n c here readable inner =
      let m = (s.inlined c.array here.0 inner).maker in
      record {
        maker = m.0;
        made = m.1;
        before = maker_before (maker_at p.arrays c.array) n m.0 readable.1 m.1;
        op = ap (made_by p) m.1;
        makes = region_for p s m.0 c.array c.coord here.0 here.1 m.1;
      }

  -- what is read for a region of an operation was made before
  pub read_before : (k region : ℕ) (c : Cell) (n : ℕ) → k < length p.ops
      → region < regions_of p.arrays (op_of p k) → k ≤ n
      → Contains (read_chunks p.arrays (op_of p k) region) c
      → IsChunk p.arrays c × IsReadable p.arrays n c.array
  read_before k region c n h r l there =
      let x = read_array p s k (op_of p k) (fit_of p s k h) region c r there in
      let readable = All-contains (IsReadable p.arrays k) (reads_of (op_of p k)) c.array (s.operations k h).reads x.0 in
      (x.1, (readable.0, sooner (maker_at p.arrays c.array) k n readable.1 l))

  -- ---- the chunks of a chunk that is read, at least as deep as the operation that reads it

  pub stored_deep : (reads : List ArrayInfo → Op → ℕ → List Cell) (n : ℕ) (c : Cell)
      → is_inlined p.arrays c.array ≡ false → chunks_deep reads p n c ≡ c ∷ []
  stored_deep reads zero c f = refl
  stored_deep reads (suc n) c f = rw f refl

  pub inner_deep : (reads : List ArrayInfo → Op → ℕ → List Cell) (n : ℕ) (c : Cell) (i : Inner (suc n) c)
      → is_inlined p.arrays c.array ≡ true
      → chunks_deep reads p (suc n) c ≡ flat_map (chunks_deep reads p n) (reads p.arrays (op_of p i.maker) (task_at p.arrays (op_of p i.maker) c))
  inner_deep reads n c i t =
      let opened : chunks_deep reads p (suc n) c ≡ flat_map (chunks_deep reads p n) (reads p.arrays (maker_op p c.array) (task_at p.arrays (maker_op p c.array) c)) = rw t refl in
      opened ∙ ap (λ (op : Op). flat_map (chunks_deep reads p n) (reads p.arrays op (task_at p.arrays op c))) i.op

  -- each is a chunk of a stored array, which is given or made before
  abbrev IsBelow : ℕ → Cell → Type 0
  IsBelow n d = IsChunk p.arrays d × (is_inlined p.arrays d.array ≡ false) × IsReadable p.arrays n d.array

  deep_stored : (n : ℕ) (c d : Cell) → IsChunk p.arrays c → IsReadable p.arrays n c.array
      → Contains (chunks_deep read_chunks p n c) d → IsBelow n d
  deep_stored zero c d here readable there = subst (IsBelow 0) (only_member c d there) (here, first_stored c.array readable, readable)
  deep_stored (suc n) c d here readable there =
      elim (bool_cases (is_inlined p.arrays c.array)) [
        | inr f ↦
            let own = only_member c d (subst (λ (cells : List Cell). Contains cells d) (stored_deep read_chunks (suc n) c f) there) in
            subst (IsBelow (suc n)) own (here, f, readable)
        | inl t ↦
            let i = inner_of (suc n) c here readable t in
            let (b, listed, inside) = one_of (chunks_deep read_chunks p n) _ d (subst (λ (cells : List Cell). Contains cells d) (inner_deep read_chunks n c i t) there) in
            let m = i.makes in
            let v = read_before i.maker _ b n m.operation m.number (let l = i.before in omega (arith, l)) listed in
            let r = deep_stored n b d v.0 v.1 inside in
            (r.0, r.1, (r.2.0, sooner (maker_at p.arrays d.array) n (suc n) r.2.1 (omega arith)))
      ]

  deep_same : (n : ℕ) (c d : Cell) → IsChunk p.arrays c → IsReadable p.arrays n c.array
      → (Contains (chunks_deep read_chunks p n c) d) ↔ (Contains (chunks_deep own_cells p n c) d)
  deep_same zero c d here readable = (λ h. h, λ h. h)
  deep_same (suc n) c d here readable =
      elim (bool_cases (is_inlined p.arrays c.array)) [
        | inr f ↦
            let x = stored_deep read_chunks (suc n) c f in
            let y = stored_deep own_cells (suc n) c f in
            let e = x ∙ sym y in
            (λ h. subst (λ (cells : List Cell). Contains cells d) e h, λ h. subst (λ (cells : List Cell). Contains cells d) (sym e) h)
        | inl t ↦
            let i = inner_of (suc n) c here readable t in
            let m = i.makes in
            let l : i.maker ≤ n = (let b = i.before in omega (arith, b)) in
            let grids = λ (a : ℕ) (w : a < length p.arrays). grid_ok p a s w in
            let fit = fit_of p s i.maker m.operation in
            let r = task_at p.arrays (op_of p i.maker) c in (
              λ h.
                  let (b, listed, inside) = one_of (chunks_deep read_chunks p n) _ d (subst (λ (cells : List Cell). Contains cells d) (inner_deep read_chunks n c i t) h) in
                  let v = read_before i.maker r b n m.operation m.number l listed in
                  subst (λ (cells : List Cell). Contains cells d) (sym (inner_deep own_cells n c i t))
                  (among (chunks_deep own_cells p n) _ b d ((reads_same p.arrays grids i.maker (op_of p i.maker) r b fit m.number).0 listed) ((deep_same n b d v.0 v.1).0 inside)),
              λ h.
                  let (b, listed, inside) = one_of (chunks_deep own_cells p n) _ d (subst (λ (cells : List Cell). Contains cells d) (inner_deep own_cells n c i t) h) in
                  let there = (reads_same p.arrays grids i.maker (op_of p i.maker) r b fit m.number).1 listed in
                  let v = read_before i.maker r b n m.operation m.number l there in
                  subst (λ (cells : List Cell). Contains cells d) (sym (inner_deep read_chunks n c i t)) (among (chunks_deep read_chunks p n) _ b d there ((deep_same n b d v.0 v.1).1 inside)),
            )
      ]

  -- ---- the chunks that a task fetches

  fetched_below : (k task : ℕ) (c : Cell) → k < length p.ops
      → task < regions_of p.arrays (op_of p k) → Contains (fetched_chunks p k task) c → IsBelow k c
  fetched_below k task c h t there =
      let (b, listed, inside) = one_of (chunks_deep read_chunks p k) (read_chunks p.arrays (op_of p k) task) c there in
      let v = read_before k task b k h t (omega arith) listed in
      deep_stored k b c v.0 v.1 inside

  pub fetched_stored : (k task : ℕ) (c : Cell) → k < length p.ops
      → task < regions_of p.arrays (op_of p k) → Contains (fetched_chunks p k task) c
      → IsChunk p.arrays c × (is_inlined p.arrays c.array ≡ false)
  fetched_stored k task c h t there = let r = fetched_below k task c h t there in (r.0, r.1)

  pub fetched_before : (k task : ℕ) (c : Cell) → k < length p.ops
      → task < regions_of p.arrays (op_of p k) → Contains (fetched_chunks p k task) c
      → IsReadable p.arrays k c.array
  fetched_before k task c h t there = (fetched_below k task c h t there).2

  pub fetched_same : (k task : ℕ) (c : Cell) → k < length p.ops
      → task < regions_of p.arrays (op_of p k)
      → (Contains (fetched_chunks p k task) c) ↔ (Contains (input_cells p k task) c)
  fetched_same k task c h t =
      let same = λ (b : Cell). reads_same p.arrays (λ a w. grid_ok p a s w) k (op_of p k) task b (fit_of p s k h) t in (
        λ there.
            let (b, listed, inside) = one_of (chunks_deep read_chunks p k) (read_chunks p.arrays (op_of p k) task) c there in
            let v = read_before k task b k h t (omega arith) listed in
            among (chunks_deep own_cells p k) (own_cells p.arrays (op_of p k) task) b c ((same b).0 listed) ((deep_same k b c v.0 v.1).0 inside),
        λ there.
            let (b, needed, inside) = one_of (chunks_deep own_cells p k) (own_cells p.arrays (op_of p k) task) c there in
            let listed = (same b).1 needed in
            let v = read_before k task b k h t (omega arith) listed in
            among (chunks_deep read_chunks p k) (read_chunks p.arrays (op_of p k) task) b c listed ((deep_same k b c v.0 v.1).1 inside),
      )

  -- ---- elements

  -- the rule of the maker, over the elements with those that are inlined
  pub inlined_rule : (at : Elements) (a k : ℕ) (idx : List ℕ) → a < length p.arrays
      → is_inlined p.arrays a ≡ true → maker_at p.arrays a ≡ Some k
      → with_inlined p at a idx ≡ rule (op_of p k) p.arrays (with_inlined p at) a idx
  inlined_rule at a k idx within inner made =
      let w = s.makers a k within made in
      let one = (laws_of (op_of p k)).one_written (inner_kind p k a s within inner made) in
      let only : target_of (op_of p k) ≡ a = only_member (target_of (op_of p k)) a (subst (λ (ws : List ℕ). Contains ws a) one w.1) in
      inlined_made p at k a idx s w.0 (ap (is_inlined p.arrays) only ∙ inner) w.1

  -- elements that agree on the chunks of a chunk that is read agree on it with those that are
  -- inlined
  deep_alike : (at other : Elements) (n : ℕ) (c : Cell) (i : List ℕ) → IsChunk p.arrays c
      → IsReadable p.arrays n c.array → IsInChunk (grid_at p.arrays c.array) c.coord i
      → ((d : Cell) (j : List ℕ) → Contains (chunks_deep read_chunks p n c) d → IsInChunk (grid_at p.arrays d.array) d.coord j → at d.array j ≡ other d.array j)
      → with_inlined p at c.array i ≡ with_inlined p other c.array i
  deep_alike at other zero c i here readable within agree =
      let f = first_stored c.array readable in
      inlined_kept p at c.array i s f ∙ agree c i (0, omega arith, refl) within ∙ sym (inlined_kept p other c.array i s f)
  deep_alike at other (suc n) c i here readable within agree =
      elim (bool_cases (is_inlined p.arrays c.array)) [
        | inr f ↦
            let own : Contains (chunks_deep read_chunks p (suc n) c) c = subst (λ (cells : List Cell). Contains cells c) (sym (stored_deep read_chunks (suc n) c f)) (0, omega arith, refl) in
            inlined_kept p at c.array i s f ∙ agree c i own within ∙ sym (inlined_kept p other c.array i s f)
        | inl t ↦
            let x = inner_of (suc n) c here readable t in
            let m = x.makes in
            let op = op_of p x.maker in
            let r = task_at p.arrays op c in
            let reads = λ (b : ℕ) (j : List ℕ) (read : ReadsAt op p.arrays i b j).
            let lies = reads_lie_in p s x.maker op (fit_of p s x.maker m.operation) r b (cell c.array c.coord) i j m.number m.cell within read in
            let d : Cell = cell b (quotients j (grid_at p.arrays b).chunk) in
            let v = read_before x.maker r d n m.operation m.number (let l = x.before in omega (arith, l)) lies.1 in
            deep_alike at other n d j v.0 v.1 (lies_within (grid_at p.arrays b) j (grid_ok p b s v.0.0) lies.0)
            (λ e g there. agree e g (subst (λ (cells : List Cell). Contains cells e) (sym (inner_deep read_chunks n c x t)) (among (chunks_deep read_chunks p n) (read_chunks p.arrays op r) d e lies.1 there))) in
            inlined_rule at c.array x.maker i here.0 t x.made ∙ rule_reads op p.arrays (with_inlined p at) (with_inlined p other) c.array i reads ∙ sym (inlined_rule other c.array x.maker i here.0 t x.made)
      ]

  pub alike_inlined : (at other : Elements) (k task array a : ℕ) (coord idx i : List ℕ)
      → MakesChunk p k task array coord → IsInChunk (grid_at p.arrays array) coord idx
      → ReadsAt (op_of p k) p.arrays idx a i
      → ((c : Cell) (j : List ℕ) → Contains (fetched_chunks p k task) c → IsInChunk (grid_at p.arrays c.array) c.coord j → at c.array j ≡ other c.array j)
      → with_inlined p at a i ≡ with_inlined p other a i
  alike_inlined at other k task array a coord idx i m within read agree =
      let op = op_of p k in
      let lies = reads_lie_in p s k op (fit_of p s k m.operation) task a (cell array coord) idx i m.number m.cell within read in
      let d : Cell = cell a (quotients i (grid_at p.arrays a).chunk) in
      let v = read_before k task d k m.operation m.number (omega arith) lies.1 in
      deep_alike at other k d i v.0 v.1 (lies_within (grid_at p.arrays a) i (grid_ok p a s v.0.0) lies.0)
      (λ c j there. agree c j (among (chunks_deep read_chunks p k) (read_chunks p.arrays op task) d c lies.1 there))

  -- the values of the plan's arrays are made where they are read as anywhere
  values_deep : (env : Elements) (n a : ℕ) (idx : List ℕ) → IsReadable p.arrays n a
      → with_inlined p (plan_value p env) a idx ≡ plan_value p env a idx
  values_deep env zero a idx readable = inlined_kept p (plan_value p env) a idx s (first_stored a readable)
  values_deep env (suc n) a idx readable =
      elim (bool_cases (is_inlined p.arrays a)) [
        | inr f ↦ inlined_kept p (plan_value p env) a idx s f
        | inl t ↦
            let m = (s.inlined a readable.0 t).maker in
            let k = m.0 in
            let op = op_of p k in
            let w = s.makers a k readable.0 m.1 in
            let before = maker_before (maker_at p.arrays a) (suc n) k readable.1 m.1 in
            let same : All (λ b. (i : List ℕ) → with_inlined p (plan_value p env) b i ≡ plan_value p env b i) (reads_of op) = λ j d l i.
            let r = (s.operations k w.0).reads j d l in
            values_deep env n (get_or (reads_of op) j d) i (r.0, sooner (maker_at p.arrays (get_or (reads_of op) j d)) k n r.1 (omega (arith, before))) in
            inlined_rule (plan_value p env) a k idx readable.0 t m.1 ∙ same_rule op p.arrays (with_inlined p (plan_value p env)) (plan_value p env) a idx same ∙ sym ((value_solves p env s).made k a idx w.0 w.1)
      ]

  pub inlined_values : (env : Elements) (a : ℕ) (idx : List ℕ)
      → with_inlined p (plan_value p env) a idx ≡ plan_value p env a idx
  inlined_values env a idx =
      elim (bool_cases (is_inlined p.arrays a)) [
        | inr f ↦ inlined_kept p (plan_value p env) a idx s f
        | inl t ↦
            let within = some_array p.arrays a t in
            let m = (s.inlined a within t).maker in
            let w = s.makers a m.0 within m.1 in
            values_deep env (length p.ops) a idx (within, subst (λ (x : Option ℕ). IsBefore x (length p.ops)) (sym m.1) w.0)
      ]
    where
      -- past the end each is stored
      some_array : (arrays : List ArrayInfo) (a : ℕ) → is_inlined arrays a ≡ true
          → a < length arrays
      some_array [] a t = cc
      some_array (x ∷ xs) zero t = omega arith
      some_array (x ∷ xs) (suc a) t = let l = some_array xs a t in omega (arith, l)

  -- a task is ready where the chunks that it fetches hold their values
  pub fetched_ready : (k task : ℕ) (env : Elements) (held : List ℕ → Option (List ℕ))
      → k < length p.ops → task < regions_of p.arrays (op_of p k)
      → ((c : Cell) (j : List ℕ) → Contains (fetched_chunks p k task) c → IsInChunk (grid_at p.arrays c.array) c.coord j → stored_inputs p.arrays held c.array j ≡ plan_value p env c.array j)
      → IsReady p k task env held
  fetched_ready k task env held h t agree c idx i a there within read =
      alike_inlined (stored_inputs p.arrays held) (plan_value p env) k task c.array a c.coord idx i (record { operation = h; number = t; cell = there }) within read agree ∙ inlined_values env a i

  -- ---- what a task reads of an array that is made where it is read

  pub walk_chunk : (k task : ℕ) (w : Walk) → k < length p.ops
      → task < regions_of p.arrays (op_of p k) → Contains (input_walks p.arrays (op_of p k) task) w
      → is_inlined p.arrays w.array ≡ true
      → IsOneChunk (grid_at p.arrays w.array) w.region
  walk_chunk k task w h t listed inner =
      let op = op_of p k in
      let fit = fit_of p s k h in
      let grids = λ (a : ℕ) (b : a < length p.arrays). grid_ok p a s b in
      let over = All-contains (IsWalkOver p.arrays) (input_walks p.arrays op task) w (input_over p s k op fit task t) listed in
      let read = ops.input_array p.arrays grids k op task w listed in
      (laws_of op).one_read p.arrays (task_coord p.arrays op task) w (ops.stands p.arrays grids k op fit) (index-inside (grid_counts (task_grid p.arrays op)) task t) listed ((s.inlined w.array over.0 inner).reader k h read)
