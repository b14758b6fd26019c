-- What a task may ask for and put in a yard for its plan.
use Rattle.std.proofs.Common.{◌≡◌, ◌≢◌, ◌⊎◌, inl, inr, ℕ, ◌<◌, ℤ, Bool, true, false, IsTrue, List, length, Contains, All, Option, Some, None, IsSome, if◌then◌else◌, refl, ap, sym, ◌∙◌, subst}
use Rattle.cu_num.specs.Dtype.{InRange}
use Rattle.cu_shape.specs.Index.{IsInside, quotients}
use Rattle.cu_shape.proofs.Places.{inside-length}
use Rattle.cu_grid.proofs.Parting.{has_coordinate, in_array, inner_inside, lies_within, only_chunk}
use Rattle.cu_store.specs.Chunks.{Keeps, Allows}
use Rattle.cu_store.specs.Held.{Contents, Holds}
use Rattle.cu_store.specs.Steps.{Shown}
use Rattle.cu_store.specs.Yard.{Served, Known, FitsYard, IsTold, MayGet, MayPut, is_made, known_to_hold, shown_by}
use Rattle.cu_store.specs.declared.faults.TaskFault.{TaskFault}
use Rattle.cu_store.specs.declared.faults.TaskFault.TheVariants.{Store, BadChunk, NoMemory}
use Rattle.cu_store.proofs.Specs.{made_is_served}
use Rattle.cu_zarr.specs.Stored.{element_in}
use Rattle.cu_zarr.proofs.Spelled.{spelled_element, length-spelled}
use Rattle.cu_op.specs.Arrays.{grid_at, layout_at, type_at, maker_at, chunk_room}
use Rattle.cu_op.specs.Chunks.{cell}
use Rattle.cu_op.specs.Cells.{regions_of, tasks_of, IsChunk}
use Rattle.cu_op.specs.PlanView.{PlanView}
use Rattle.cu_op.specs.Schedule.{op_of, key_of, cell_value, IsReady}
use Rattle.cu_op.specs.Sound.{Sound, IsCell}
use Rattle.cu_op.specs.Elements.{Elements}
use Rattle.cu_op.specs.Value.{plan_value, stored_inputs, HasTypes}
use Rattle.cu_op.specs.Walks.{written_chunks}
use Rattle.cu_op.specs.Within.{fetched_chunks}
use Rattle.cu_op.specs.Layout.{IsArray}
use Rattle.cu_op.specs.declared.cells.Cell.{Cell}
use Rattle.cu_op.specs.declared.layout.ArrayInfo.{ArrayInfo}
use Rattle.cu_op.proofs.Fetched.{fetched_ready, fetched_stored}
use Rattle.cu_op.proofs.Plans.{grid_ok, own_region}
use Rattle.cu_op.proofs.Spellings.{defined_at}
use Rattle.cu_op.proofs.TaskCells.{written_cell}
use Rattle.cu_op.proofs.Values.{value_solves}
use Rattle.cu_region.specs.Steady.{HoldsLength}
use Rattle.cu_task.specs.Asks.{MayReadTask, MayReadWritten}
use Rattle.cu_task.specs.Serving.{PromisesValues, ServesPlan, HasSeenInputs, HasSeenOutputs, IsBadOfInput}
use Rattle.cu_task.specs.Task.{IsTaskReady, TaskChange, IsTaskFault}

-- ---- options and truth values

none_or_some : {T : Type 0} (o : Option T) → (o ≡ None) ⊎ ((x : T) × (o ≡ Some x))
none_or_some None = inl refl
none_or_some (Some x) = inr (x, refl)

not_none : {T : Type 0} (o : Option T) (x : T) → o ≡ Some x → o ≢ None
not_none o x e none = cc

there_is : (o : Option (List ℕ)) → IsSome o → (x : List ℕ) × (o ≡ Some x)
there_is None some = cc
there_is (Some x) some = (x, refl)

same_bytes : (a b : List ℕ) → Some a ≡ Some b → a ≡ b
same_bytes a b e = cc

if_true : (b : Bool) (x y : Option (List ℕ)) → IsTrue b → (if b then x else y) ≡ x
if_true true x y h = refl
if_true false x y h = cc

if_not : (b : Bool) (x y : Option (List ℕ)) → (IsTrue b → ⊥) → (if b then x else y) ≡ y
if_not true x y h = absurd (h refl)
if_not false x y h = refl

not_both : (b : Bool) → b ≡ false → IsTrue b → ⊥
not_both b e h = cc

-- ---- what is told

holds_where_told : (o : Option Contents) (key bytes : List ℕ) → ((promise : Contents) → o ≡ Some promise → promise key ≡ Some bytes) → Holds o key bytes
holds_where_told None key bytes h = tt
holds_where_told (Some promise) key bytes h = h promise refl

told_too : (a b : Option Contents) (x : Contents) → IsTold a b → a ≡ Some x → (y : Contents) × (b ≡ Some y)
told_too None b x told e = cc
told_too (Some a) None x told e = absurd told
told_too (Some a) (Some b) x told e = (b, refl)

told_first : (a b : Option Contents) (y : Contents) → IsTold a b → b ≡ Some y → (x : Contents) × (a ≡ Some x)
told_first (Some a) b y told e = (a, refl)
told_first None None y told e = cc
told_first None (Some b) y told e = absurd told

-- the laws of ranges
abbrev pub HaveRanges : Type 0
HaveRanges = (p : PlanView) (env : Elements) (a : ℕ) (idx : List ℕ) (x : ℤ) → Sound p → HasTypes p.arrays env → a < length p.arrays → IsInside (grid_at p.arrays a).shape idx
    → plan_value p env a idx ≡ Some x → InRange (type_at p.arrays a) x

module _ (p : PlanView) (sound : Sound p) where
  -- the element of a chunk that has its value
  value_element : HaveRanges → (env : Elements) (held : Contents) → HasTypes p.arrays env → (a : ℕ) (idx bytes : List ℕ) → a < length p.arrays → IsInside (grid_at p.arrays a).shape idx
      → cell_value p env (cell a (quotients idx (grid_at p.arrays a).chunk)) ≡ Some bytes → held (key_of p.arrays (cell a (quotients idx (grid_at p.arrays a).chunk))) ≡ Some bytes
      → stored_inputs p.arrays held a idx ≡ plan_value p env a idx
  value_element ranges env held typed a idx bytes within inside value was =
      let g = grid_at p.arrays a in
      let l = layout_at p.arrays a in
      let ok = grid_ok p a sound within in
      let here = has_coordinate g idx ok inside in
      let (x, is) = defined_at l (plan_value p env a) (quotients idx g.chunk) idx bytes ok here value (lies_within g idx ok inside) in
      let fits = ranges p env a idx x sound typed within inside is in
      ap (λ (b : Option (List ℕ)). element_in l b idx) was
      ∙ spelled_element l (plan_value p env a) idx bytes x value (inside-length g.shape idx inside ∙ sym ok.ranks) (inner_inside g idx ok inside) inside is fits
      ∙ sym is

  module _ (yard : Served) (pass : Known) (fits : FitsYard yard pass) (serves : ServesPlan p yard) where
    -- what is promised where contents are told
    promised_value : (promise entries : Contents) → yard.promise ≡ Some promise → yard.entries ≡ Some entries → (c : Cell) → IsCell p.arrays c.array c.coord
        → promise (key_of p.arrays c) ≡ cell_value p (stored_inputs p.arrays entries) c
    promised_value promise entries promised told =
        subst (λ (o : Option Contents). PromisesValues p (Some promise) o) told (subst (λ (o : Option Contents). PromisesValues p o yard.entries) promised serves.values)

    own_promise : (promise : Contents) → yard.promise ≡ Some promise → yard.promise ≡ Some pass.promise
    own_promise promise promised =
        elim fits.promise [
          | inl none ↦ absurd (not_none yard.promise promise promised none)
          | inr same ↦ same
        ]

    module _ (k task : ℕ) (operation : k < length p.ops) (number : task < tasks_of p.arrays (op_of p k)) where
      region : task < regions_of p.arrays (op_of p k)
      region = own_region p.arrays (op_of p k) task number

      chunk_of : (c : Cell) → Contains (fetched_chunks p k task) c → IsChunk p.arrays c
      chunk_of c listed = (fetched_stored p sound k task c operation region listed).0

      cell_of : (c : Cell) → Contains (fetched_chunks p k task) c → maker_at p.arrays c.array ≢ None → IsCell p.arrays c.array c.coord
      cell_of c listed made =
          let (chunk, stored) = fetched_stored p sound k task c operation region listed in
          record { within = chunk.0; made = made; stored = stored; coordinate = chunk.1 }

      cell_written : (c : Cell) → Contains (written_chunks p.arrays (op_of p k) task) c → IsCell p.arrays c.array c.coord
      cell_written c listed = written_cell p sound k task c.array c.coord (record { operation = operation; number = number; cell = listed })

      -- ---- the keys that it asks for

      pub may_read : HasSeenInputs p k task pass.seen → MayReadTask p k task (MayGet yard.specs pass.seen)
      may_read seen key (c, there, is) =
          let chunk = chunk_of c there in
          subst (MayGet yard.specs pass.seen) (sym is) (elim (none_or_some (maker_at p.arrays c.array)) [
            | inl given ↦
                let only = serves.inputs c chunk given in
                record { served = only.0; known = λ made. absurd (not_both (is_made yard.specs (key_of p.arrays c)) only.1 made) }
            | inr maker ↦
                let made = not_none (maker_at p.arrays c.array) maker.0 maker.1 in
                record { served = made_is_served yard.specs (key_of p.arrays c) (serves.cells c (cell_of c there made)); known = λ again. seen c there made }
          ])

      pub seen_outputs : MayReadWritten p k task (MayGet yard.specs pass.seen) → HasSeenOutputs p k task pass.seen
      seen_outputs may c listed = (may c listed).known (serves.cells c (cell_written c listed))

      -- ---- what it may put

      module _ (ranges : HaveRanges) (seen : HasSeenInputs p k task pass.seen) (promise entries : Contents) (promised : yard.promise ≡ Some promise) (told : pass.entries ≡ Some entries)
          (typed : HasTypes p.arrays (stored_inputs p.arrays entries)) where
        abbrev env : Elements
        env = stored_inputs p.arrays entries

        abbrev held : Contents
        held key = if pass.seen key then pass.promise key else entries key

        -- the value of a made chunk that was seen
        seen_value : (c : Cell) → IsCell p.arrays c.array c.coord → IsTrue (pass.seen (key_of p.arrays c)) → (bytes : List ℕ) × (cell_value p env c ≡ Some bytes) × (held (key_of p.arrays c) ≡ Some bytes)
        seen_value c made saw =
            let key = key_of p.arrays c in
            let (bytes, is) = there_is (pass.promise key) (fits.present entries told key saw) in
            let value = promised_value pass.promise entries (own_promise promise promised) (fits.entries ∙ told) c made in
            (bytes, sym value ∙ is, if_true (pass.seen key) (pass.promise key) (entries key) saw ∙ is)

        -- of a chunk that the task reads, each element is its array's value
        input_value : (c : Cell) (i : List ℕ) → Contains (fetched_chunks p k task) c → IsInside (grid_at p.arrays c.array).shape i → c.coord ≡ quotients i (grid_at p.arrays c.array).chunk
            → stored_inputs p.arrays held c.array i ≡ plan_value p env c.array i
        input_value c i listed inside at =
            let a = c.array in
            let read = cell c.array (quotients i (grid_at p.arrays c.array).chunk) in
            let there : Contains (fetched_chunks p k task) (cell c.array (quotients i (grid_at p.arrays c.array).chunk)) = subst (λ (coord : List ℕ). Contains (fetched_chunks p k task) (cell c.array coord)) at listed in
            let chunk = chunk_of read there in
            elim (none_or_some (maker_at p.arrays c.array)) [
              | inl given ↦
                  let key = key_of p.arrays read in
                  let only = serves.inputs read chunk given in
                  let same : held key ≡ entries key = if_not (pass.seen key) (pass.promise key) (entries key) (λ saw. not_both (is_made yard.specs key) only.1 (fits.made entries told key saw)) in
                  ap (λ (b : Option (List ℕ)). element_in (layout_at p.arrays a) b i) same ∙ sym ((value_solves p env sound).inputs a i given)
              | inr maker ↦
                  let made = not_none (maker_at p.arrays a) maker.0 maker.1 in
                  let (bytes, value, was) = seen_value read (cell_of read there made) (seen read there made) in
                  value_element ranges env held typed a i bytes chunk.0 inside value was
            ]

        inputs_ready : IsReady p k task env held
        inputs_ready =
            fetched_ready p sound k task env held operation region (λ c i listed within.
            let chunk = chunk_of c listed in
            let ok = grid_ok p c.array sound chunk.0 in
            input_value c i listed (in_array (grid_at p.arrays c.array) c.coord i ok chunk.1 within) (only_chunk (grid_at p.arrays c.array) c.coord i ok chunk.1 within))

        pub ready_here : IsTaskReady p k task env (shown_by pass)
        ready_here = record {
          held = held;
          told = ap (known_to_hold pass.promise pass.seen) told;
          inputs = inputs_ready;
          steady = λ c bytes listed among. absurd among;
          own = λ c bytes listed among. absurd among;
        }

        -- a made chunk that it reads has the bytes of a chunk
        pub of_input : (c : Cell) (got : ℕ) → Contains (fetched_chunks p k task) c → got ≢ chunk_room p.arrays c.array → HoldsLength (shown_by pass).held (key_of p.arrays c) got
            → maker_at p.arrays c.array ≡ None
        of_input c got listed bad length_is =
            elim (none_or_some (maker_at p.arrays c.array)) [
              | inl given ↦ given
              | inr maker ↦
                  let made = not_none (maker_at p.arrays c.array) maker.0 maker.1 in
                  let (own, value, was) = seen_value c (cell_of c listed made) (seen c listed made) in
                  let (bytes, is, long) = subst (λ (o : Option Contents). HoldsLength o (key_of p.arrays c) got) (ap (known_to_hold pass.promise pass.seen) told) length_is in
                  let same : bytes ≡ own = same_bytes bytes own (sym is ∙ was) in
                  absurd (bad (sym long ∙ ap length same ∙ length-spelled (layout_at p.arrays c.array) (plan_value p env c.array) c.coord own value))
            ]

-- ---- the same without what is told

abbrev pub HaveTypes : Type 0
HaveTypes = (arrays : List ArrayInfo) (held : Contents) → All IsArray arrays → HasTypes arrays (stored_inputs arrays held)

module _ (p : PlanView) (sound : Sound p) (ranges : HaveRanges) (types : HaveTypes) (yard : Served) (pass : Known) (fits : FitsYard yard pass) (serves : ServesPlan p yard)
    (k task : ℕ) (operation : k < length p.ops) (number : task < tasks_of p.arrays (op_of p k)) (seen : HasSeenInputs p k task pass.seen) where
  pub may_write : Allows (TaskChange p k task (shown_by pass)) (MayPut yard)
  may_write key bytes (c, put, listed, at, is, valued) = record {
    made = subst (λ (x : List ℕ). IsTrue (is_made yard.specs x)) (sym at) (serves.cells c (cell_written p sound yard pass fits serves k task operation number c listed));
    promised = holds_where_told yard.promise key bytes (λ promise promised.
        let (entries, told) = told_too yard.promise pass.entries promise fits.told promised in
        let ready = ready_here p sound yard pass fits serves k task operation number ranges seen promise entries promised told (types p.arrays entries sound.arrays) in
        let made = cell_written p sound yard pass fits serves k task operation number c listed in
        ap promise at ∙ promised_value p sound yard pass fits serves promise entries promised (fits.entries ∙ told) c made ∙ valued (stored_inputs p.arrays entries) ready ∙ sym is);
  }

  -- it is ready where the yard tells
  pub ready_told : (entries : Contents) → yard.entries ≡ Some entries → IsTaskReady p k task (stored_inputs p.arrays entries) (shown_by pass)
  ready_told entries told =
      let own : pass.entries ≡ Some entries = sym fits.entries ∙ told in
      let (promise, promised) = told_first yard.promise pass.entries entries fits.told own in
      ready_here p sound yard pass fits serves k task operation number ranges seen promise entries promised own (types p.arrays entries sound.arrays)

  pub bad_of_input : (old : Shown) (e : TaskFault) → IsTaskFault old (shown_by pass) p k task e → IsBadOfInput p yard.promise yard.entries e
  bad_of_input old e fault = by_promise yard.promise refl e fault
    where
      by_promise : (o : Option Contents) → yard.promise ≡ o → (e : TaskFault) → IsTaskFault old (shown_by pass) p k task e → IsBadOfInput p o yard.entries e
      by_promise None promised e fault = tt
      by_promise (Some promise) promised Store fault = tt
      by_promise (Some promise) promised NoMemory fault = tt
      by_promise (Some promise) promised (BadChunk key got want) (c, listed, is, size, other, holds) =
          let (entries, told) = told_too yard.promise pass.entries promise fits.told promised in
          let chunk = chunk_of p sound yard pass fits serves k task operation number c listed in
          let here = subst (λ (x : List ℕ). HoldsLength (shown_by pass).held x got) is holds in
          let given = of_input p sound yard pass fits serves k task operation number ranges seen promise entries promised told (types p.arrays entries sound.arrays) c got listed
          (λ e. other (e ∙ sym size)) here in
          let (bytes, was, long) = subst (λ (o : Option Contents). HoldsLength o (key_of p.arrays c) got) (ap (known_to_hold pass.promise pass.seen) told) here in
          let only = serves.inputs c chunk given in
          let same = if_not (pass.seen (key_of p.arrays c)) (pass.promise (key_of p.arrays c)) (entries (key_of p.arrays c))
          (λ saw. not_both (is_made yard.specs (key_of p.arrays c)) only.1 (fits.made entries told (key_of p.arrays c) saw)) in
          let in_entries : HoldsLength (Some entries) key got = subst (λ (x : List ℕ). HoldsLength (Some entries) x got) (sym is) (bytes, sym same ∙ was, long) in
          (c, chunk, given, is, size, other, subst (λ (o : Option Contents). HoldsLength o key got) (sym (fits.entries ∙ told)) in_entries)

-- inputs that were seen are seen after calls
pub inputs_stay : (p : PlanView) (sound : Sound p) (yard : Served) (old new : Known) → ServesPlan p yard → FitsYard yard old → (k task : ℕ) (operation : k < length p.ops) (number : task < tasks_of p.arrays (op_of p k))
    → Keeps (MayGet yard.specs old.seen) (MayGet yard.specs new.seen) → HasSeenInputs p k task old.seen → HasSeenInputs p k task new.seen
inputs_stay p sound yard old new serves fits k task operation number gets seen c listed made =
    let own = serves.cells c (cell_of p sound yard old fits serves k task operation number c listed made) in
    (gets (key_of p.arrays c) (record { served = made_is_served yard.specs (key_of p.arrays c) own; known = λ again. seen c listed made })).known own
