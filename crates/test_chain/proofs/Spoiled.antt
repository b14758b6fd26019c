-- What spoils a map where a condition of the world's events is dropped, for a plan of two sums.
use Rattle.std.proofs.Common.{◌≡◌, ◌≢◌, ◌⊎◌, inl, inr, ℕ, zero, suc, get_or, ◌^◌, ◌+◌, ◌<◌, ◌≤◌, Bool, true, false, List, [], ◌∷◌, ◌++◌, length, All, Contains, codes, Option, Some, None, refl, sym, ◌∙◌, ap, subst, arith}
use Rattle.std.specs.Prelude.{bytes_eq, if◌then◌else◌}
use Rattle.std.proofs.lemmas.List.Elements.{All-cons, All-nil}
use Rattle.std.proofs.lemmas.Bool.{cases_Bool, cond-true, cond-false}
use Rattle.std.proofs.lemmas.Slice.Eq.{bytes_eq-Decides}
use Rattle.std.specs.Fmt.{digits}
use Rattle.cu_num.specs.declared.layout.Encoding.TheVariants.{Plain}
use Rattle.cu_num.specs.declared.layout.Sep.TheVariants.{Slash}
use Rattle.cu_table.specs.declared.state.TaskState.{TaskState}
use Rattle.cu_num.specs.Element.{element_bytes, element_at}
use Rattle.cu_num.specs.Wrap.{wrapped}
use Rattle.cu_store.specs.Held.{Contents}
use Rattle.cu_op.specs.declared.cells.Cell.{Cell}
use Rattle.cu_op.specs.Chunks.{cell}
use Rattle.cu_op.specs.Arrays.{grid_at, array_at, maker_at}
use Rattle.cu_grid.specs.Grid.{IsCoordinate}
use Rattle.cu_op.specs.Schedule.{key_of, cell_value, op_of}
use Rattle.cu_op.specs.Elements.{Elements}
use Rattle.cu_op.specs.Value.{stored_inputs, HasTypes}
use Rattle.cu_run_law.specs.Left.{IsLeft}
use Rattle.cu_run_law.specs.Pieces.{chunks_alone, Chunk, PlanRun, Piece, IsPiece, piece_key, KeysApart, HoldsPiece}
use Rattle.cu_history.specs.declared.entry.Entry.{Entry}
use Rattle.cu_history.specs.declared.entry.EventKind.{EventKind}
use Rattle.cu_history.specs.declared.entry.EventKind.TheVariants.{Start, Done}
use Rattle.cu_table.specs.declared.state.TaskId.{TaskId}
use Rattle.cu_table.specs.declared.state.RunningCopy.{RunningCopy}
use Rattle.cu_table.specs.Machine.{Machine, opening, copy_started, AreInputsDone, copy_ended, done_now, state_at}
use Rattle.cu_table.specs.Step.{Settings}
use Rattle.cu_work.specs.World.{World, Event, Steps, Puts, first_world, put_at, computed, still, IsRight, Stops, IsFound, Happens}
use Rattle.test_chain.specs.Chain.{chain_plan, chain_arrays}
use Rattle.cu_num.specs.declared.types.Dtype.TheVariants.{Int32}
use Rattle.cu_num.specs.Promotion.{promotion}
use Rattle.cu_name.specs.Keys.{record_key_of, made_prefix_of}
use Rattle.cu_name.specs.Name.{IsArrayName}
use Rattle.cu_zarr.specs.Key.{metadata_key_of}
use Rattle.cu_op.specs.InputCells.{input_cells}
use Rattle.cu_op.proofs.TaskCells.{written_cell}
use Rattle.cu_run_law.specs.Names.{HasPlanNames}
use Rattle.cu_run_law.proofs.PlanNames.{keys_apart}
use Rattle.cu_run_law.proofs.Keeping.{left_at_first, left_alone}
use Rattle.test_chain.proofs.Chains.{chain_sound}
use Rattle.cu_table.specs.Numbers.{IsTask, task_number}
use Rattle.test_chain.specs.Weakened.{AllMay, HappensEarly, HappensUnstored, HappensAnyhow}

abbrev pub nothing_done : List Bool
nothing_done = false ∷ false ∷ false ∷ false ∷ []

none_done : (i : ℕ) → (get_or nothing_done i false) ≡ true → ⊥
none_done zero e = cc e
none_done (suc zero) e = cc e
none_done (suc (suc zero)) e = cc e
none_done (suc (suc (suc zero))) e = cc e
none_done (suc (suc (suc (suc i)))) e = cc e

none_some : (bytes : List ℕ) → None ≡ Some bytes → ⊥
none_some bytes e = cc

abbrev pub chain : Settings
chain = record { plan = chain_plan; retries = 0; backups = false }

abbrev pub four_ones : List ℕ
four_ones = 1 ∷ 0 ∷ 0 ∷ 0 ∷ 1 ∷ 0 ∷ 0 ∷ 0 ∷ 1 ∷ 0 ∷ 0 ∷ 0 ∷ 1 ∷ 0 ∷ 0 ∷ 0 ∷ []

abbrev pub four_zeros : List ℕ
four_zeros = 0 ∷ 0 ∷ 0 ∷ 0 ∷ 0 ∷ 0 ∷ 0 ∷ 0 ∷ 0 ∷ 0 ∷ 0 ∷ 0 ∷ 0 ∷ 0 ∷ 0 ∷ 0 ∷ []

-- the first chunk of the first input is held, and holds ones
abbrev pub ones_held : Contents
ones_held key = if bytes_eq key (codes "a/c/0") then Some four_ones else None

abbrev pub env : Elements
env = stored_inputs chain_arrays ones_held

abbrev pub first_of_y : Cell
first_of_y = cell 3 (0 ∷ [])

abbrev pub an_entry : EventKind → Entry
an_entry Start = record { kind = Start; worker = 0; op = 1; task = 0; room = 1600 }
an_entry kind = record { kind = kind; worker = 0; op = 1; task = 0; room = 0 }

-- ---- a task that reads too early

pub early : computed chain_plan 1 ones_held first_of_y ≡ Some four_zeros
unfolding digits element_bytes element_at wrapped
early = refl

pub right_value : cell_value chain_plan env first_of_y ≡ Some four_ones
unfolding digits element_bytes element_at wrapped
right_value = refl

abbrev pub begun : World
begun = record {
  machine = copy_started chain_plan (opening nothing_done) (an_entry Start);
  held = ones_held;
  started = (record { op = 1; task = 0 }) ∷ [];
}

abbrev pub spoiled : World
spoiled = record { machine = begun.machine; held = put_at (key_of chain_arrays first_of_y) four_zeros ones_held; started = begun.started }

abbrev pub early_events : List Event
early_events = Steps (an_entry Start) ∷ Puts 0 (record { op = 1; task = 0 }) first_of_y ∷ []

pub early_happens : AllMay (HappensEarly chain) (first_world nothing_done ones_held) early_events spoiled
early_happens = (
  begun,
  inr (refl, refl, All-nil (λ (c : RunningCopy). c.worker ≢ 0), (record { operation = omega arith; number = omega arith }), (refl, refl), refl),
  (
    spoiled,
    inl ((0, omega arith, refl), ((0, omega arith, refl), (four_zeros, early, refl)), refl, refl),
    refl,
  ),
)

not_ones : Some four_zeros ≡ Some four_ones → ⊥
not_ones e = cc

put_there : spoiled.held (key_of chain_arrays first_of_y) ≡ Some four_zeros
put_there = cond-true (bytes_eq (key_of chain_arrays first_of_y) (key_of chain_arrays first_of_y)) (Some four_zeros) (ones_held (key_of chain_arrays first_of_y))
    ((bytes_eq-Decides (key_of chain_arrays first_of_y) (key_of chain_arrays first_of_y)).1 refl)

-- the map isn't left so any more
pub early_spoils : IsLeft (chunks_alone chain_plan) env (still spoiled.held) → ⊥
early_spoils left =
    let same : left.held ≡ spoiled.held = cc left.told in
    let here : left.held (key_of chain_arrays first_of_y) ≡ Some four_zeros = ap (λ (h : Contents). h (key_of chain_arrays first_of_y)) same ∙ put_there in
    elim (left.pieces (Chunk first_of_y) (record { within = omega arith; made = λ e. cc; stored = refl; coordinate = (omega arith, tt) })) [
      | inl none ↦ absurd (cc (sym here ∙ none))
      | inr (bytes, has, value) ↦ not_ones (sym here ∙ (has ∙ (sym value ∙ right_value)))
    ]

-- ---- the world that all begin from

abbrev pub named_run : PlanRun
named_run = record { plan = chain_plan; texts = (record_key_of (codes "y"), []) ∷ (metadata_key_of (codes "y"), []) ∷ [] }

pub short_name : (c : ℕ) → c ≢ 47 → c ≢ 95 → IsArrayName (c ∷ [])
short_name c slash low = record { plain = All-cons (λ b. b ≢ 47) c [] slash (All-nil (λ b. b ≢ 47)); short = omega arith; first = low }

made_name : (a : ℕ) → a < 4 → maker_at chain_arrays a ≢ None
    → ((array_at chain_arrays a).prefix ≡ codes "y") ⊎ ((k : ℕ) × (k < 2 ^ 64) × ((array_at chain_arrays a).prefix ≡ made_prefix_of (codes "y") k))
unfolding digits
made_name zero h s = absurd (s refl)
made_name (suc zero) h s = absurd (s refl)
made_name (suc (suc zero)) h s = inr (0, omega arith, refl)
made_name (suc (suc (suc zero))) h s = inl refl
made_name (suc (suc (suc (suc a)))) h s = absurd (omega arith)

encoded : (a : ℕ) → a < 4 → maker_at chain_arrays a ≢ None → (array_at chain_arrays a).layout.encoding ≡ Plain Slash
encoded zero h s = refl
encoded (suc zero) h s = refl
encoded (suc (suc zero)) h s = refl
encoded (suc (suc (suc zero))) h s = refl
encoded (suc (suc (suc (suc a)))) h s = absurd (omega arith)

pub not_made : (k : ℕ) → Some k ≡ None → ⊥
not_made k e = cc

pub one_code : (c d : ℕ) → c ∷ [] ≡ d ∷ [] → c ≡ d
one_code c d e = ap (λ (xs : List ℕ). get_or xs 0 0) e

input_name : (a : ℕ) → a < 4 → maker_at chain_arrays a ≡ None → IsArrayName (array_at chain_arrays a).prefix × ((array_at chain_arrays a).prefix ≢ codes "y")
input_name zero h e = (short_name 97 (omega arith) (omega arith), λ f. let same = one_code 97 121 f in omega (arith, same))
input_name (suc zero) h e = (short_name 98 (omega arith) (omega arith), λ f. let same = one_code 98 121 f in omega (arith, same))
input_name (suc (suc zero)) h e = absurd (not_made 0 e)
input_name (suc (suc (suc zero))) h e = absurd (not_made 1 e)
input_name (suc (suc (suc (suc a)))) h e = absurd (omega arith)

input_once : (a b : ℕ) → a < 4 → b < 4 → maker_at chain_arrays a ≡ None → maker_at chain_arrays b ≡ None → (array_at chain_arrays a).prefix ≡ (array_at chain_arrays b).prefix → a ≡ b
input_once zero zero h k e f same = refl
input_once zero (suc zero) h k e f same = let one = one_code 97 98 same in absurd (omega (arith, one))
input_once (suc zero) zero h k e f same = let one = one_code 98 97 same in absurd (omega (arith, one))
input_once (suc zero) (suc zero) h k e f same = refl
input_once a (suc (suc zero)) h k e f same = absurd (not_made 0 f)
input_once a (suc (suc (suc zero))) h k e f same = absurd (not_made 1 f)
input_once a (suc (suc (suc (suc b)))) h k e f same = absurd (omega arith)
input_once (suc (suc zero)) b h k e f same = absurd (not_made 0 e)
input_once (suc (suc (suc zero))) b h k e f same = absurd (not_made 1 e)
input_once (suc (suc (suc (suc a)))) b h k e f same = absurd (omega arith)

names : HasPlanNames named_run (codes "y") [] []
names = record { named = short_name 121 (omega arith) (omega arith); texts = refl; encodings = λ a c. encoded a c.within c.made; made = λ a c. made_name a c.within c.made; inputs = input_name; once = input_once }

held_elsewhere : (key : List ℕ) → key ≢ codes "a/c/0" → ones_held key ≡ None
held_elsewhere key apart = elim (cases_Bool (bytes_eq key (codes "a/c/0"))) [
  | inl is ↦ absurd (apart ((bytes_eq-Decides key (codes "a/c/0")).0 is))
  | inr isnt ↦ cond-false (bytes_eq key (codes "a/c/0")) (Some four_ones) None isnt
]

first_key : key_of chain_arrays (cell 0 (0 ∷ [])) ≡ codes "a/c/0"
unfolding digits
first_key = refl

-- the chunk of the first input is none of the pieces
piece_absent : (apart : KeysApart named_run) (q : Piece) → IsPiece named_run q → ones_held (piece_key named_run q) ≡ None
piece_absent apart q piece =
    held_elsewhere (piece_key named_run q) (λ e. apart.inputs q (cell 0 (0 ∷ [])) piece (record { within = omega arith; given = refl; coordinate = (omega arith, tt) }) (e ∙ sym first_key))

module _ (stays : promotion Int32 Int32 ≡ Some Int32) (typed : HasTypes chain_arrays env) where
  pub opens_left : IsLeft (chunks_alone chain_plan) env (still ones_held)
  opens_left =
      let sound = chain_sound stays in
      let apart = keys_apart named_run (codes "y") [] [] sound names in
      left_alone named_run env (still ones_held) (left_at_first named_run (still ones_held) ones_held sound apart refl typed (piece_absent apart)
      (record { pieces = λ q bytes piece among. absurd among; inputs = λ c bytes input among. absurd among }))

  pub opens_found : IsFound chain_plan ones_held nothing_done
  opens_found = record { tasks = refl; stored = λ op task is done. absurd (none_done (task_number chain_plan op task) done) }

  absent_first : ones_held (key_of chain_arrays (cell 2 (0 ∷ []))) ≡ None
  absent_first =
      let sound = chain_sound stays in
      let apart = keys_apart named_run (codes "y") [] [] sound names in
      piece_absent apart (Chunk (cell 2 (0 ∷ []))) (record { within = omega arith; made = λ e. not_made 0 e; stored = refl; coordinate = (omega arith, tt) })

  -- where the first task is called done though its chunk is absent, the world isn't right
  pub unstored_spoils : (w : World) → w.held ≡ ones_held → state_at chain_plan w.machine 0 0 ≡ record { done = true; failures = 0; copies = 0 } → IsRight chain_plan env w → ⊥
  unstored_spoils w held done right =
      let is : IsTask chain_plan 0 0 = record { operation = omega arith; number = omega arith } in
      let (bytes, value, holds) = right.done 0 0 is (ap (λ (s : TaskState). s.done) done) (cell 2 (0 ∷ [])) (0, omega arith, refl) in
      none_some bytes (sym (ap (λ (h : Contents). h (key_of chain_arrays (cell 2 (0 ∷ [])))) held ∙ absent_first) ∙ holds)

-- ---- a task that is done without its chunks, and a stop that says so

abbrev pub own_entry : EventKind → Entry
own_entry Start = record { kind = Start; worker = 0; op = 0; task = 0; room = 1600 }
own_entry kind = record { kind = kind; worker = 0; op = 0; task = 0; room = 0 }

abbrev pub first_begun : World
first_begun = record {
  machine = copy_started chain_plan (opening nothing_done) (own_entry Start);
  held = ones_held;
  started = (record { op = 0; task = 0 }) ∷ [];
}

abbrev pub first_done : World
first_done = record {
  machine = copy_ended chain_plan first_begun.machine (own_entry Done) (done_now (state_at chain_plan first_begun.machine 0 0)) None;
  held = ones_held;
  started = first_begun.started;
}

abbrev pub unstored_events : List Event
unstored_events = Steps (own_entry Start) ∷ Steps (own_entry Done) ∷ []

-- the first task reads inputs alone
given : (c : Cell) → Contains (input_cells chain_plan 0 0) c → maker_at chain_arrays c.array ≡ None
given c (zero, below, is) = ap (λ (x : Cell). maker_at chain_arrays x.array) (sym is)
given c (suc zero, below, is) = ap (λ (x : Cell). maker_at chain_arrays x.array) (sym is)
given c (suc (suc n), below, is) = absurd (omega (arith, below))

start_done : Start ≡ Done → ⊥
start_done e = cc

abbrev pub one_done : List Bool
one_done = true ∷ false ∷ false ∷ false ∷ []

abbrev pub stopped : World
stopped = record { machine = opening one_done; held = ones_held; started = [] }

pub anyhow_happens : AllMay (HappensAnyhow chain) (first_world nothing_done ones_held) (Stops one_done ∷ []) stopped
anyhow_happens = (stopped, inr (refl, refl, refl, refl), refl)

-- Each of the three conditions is needed: without it the law would be false.
module _ (stays : promotion Int32 Int32 ≡ Some Int32) (typed : HasTypes chain_arrays env) where
  first_ready : AreInputsDone chain_plan (opening nothing_done) 0 0
  first_ready k t (c, listed, writes) = absurd ((written_cell chain_plan (chain_sound stays) k t c.array c.coord writes).made (given c listed))

  first_starts : Happens chain (first_world nothing_done ones_held) (Steps (own_entry Start)) first_begun
  first_starts = (
    (
      record {
        going = refl;
        free = All-nil (λ (c : RunningCopy). c.worker ≢ 0);
        task = record { operation = omega arith; number = omega arith };
        room = refl;
        can = inl (first_ready, (refl, refl));
      },
      refl,
    ),
    λ e. absurd (start_done e),
    refl,
    refl,
  )

  unstored_happens : AllMay (HappensUnstored chain) (first_world nothing_done ones_held) unstored_events first_done
  unstored_happens = (
    first_begun,
    inl first_starts,
    (
      first_done,
      inr (refl, (record { going = refl; runs = (0, omega arith, refl); undone = refl; room = refl }, refl), refl, refl),
      refl,
    ),
  )

  -- a task may be started before its inputs are there
  pub early_refuted : ((w : World) → AllMay (HappensEarly chain) (first_world nothing_done ones_held) early_events w → IsRight chain_plan env w) → ⊥
  early_refuted law = early_spoils (law spoiled early_happens).left

  -- a task may be done before its chunks are there
  pub unstored_refuted : ((w : World) → AllMay (HappensUnstored chain) (first_world nothing_done ones_held) unstored_events w → IsRight chain_plan env w) → ⊥
  unstored_refuted law = unstored_spoils stays typed first_done refl refl (law first_done unstored_happens)

  -- a stop may name tasks whose chunks are absent
  pub anyhow_refuted : ((w : World) → AllMay (HappensAnyhow chain) (first_world nothing_done ones_held) (Stops one_done ∷ []) w → IsRight chain_plan env w) → ⊥
  anyhow_refuted law = unstored_spoils stays typed stopped refl refl (law stopped anyhow_happens)
