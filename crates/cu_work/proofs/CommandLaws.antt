-- What the commands of a plan keep.
use Rattle.std.proofs.Common.{◌≡◌, ◌⊎◌, inl, inr, ℕ, zero, suc, ◌<◌, ◌≤◌, List, [], ◌∷◌, length, map, All, Contains, Option, Some, None, refl, ap, sym, ◌∙◌, subst, arith}
use Rattle.std.proofs.lemmas.Bool.{cases_lt}
use Rattle.std.proofs.lemmas.List.Elements.{All-nil, All-cons, Contains-append_left, Contains-append_right, Contains-append_cases}
use Rattle.cu_shape.specs.Index.{quotients}
use Rattle.cu_grid.proofs.Parting.{has_coordinate}
use Rattle.cu_store.specs.Held.{Contents}
use Rattle.cu_store.specs.Steps.{Shown, Changes, OrLate, IsChangedBy, Lands, Steps, Within}
use Rattle.cu_store.proofs.Steps.{steps_wider}
use Rattle.cu_zarr.specs.Stored.{element_in}
use Rattle.cu_op.specs.declared.cells.Cell.{Cell}
use Rattle.cu_op.specs.Arrays.{layout_at, grid_at, maker_at}
use Rattle.cu_op.specs.Chunks.{cell}
use Rattle.cu_op.specs.Cells.{tasks_of}
use Rattle.cu_op.specs.PlanView.{PlanView}
use Rattle.cu_op.specs.Schedule.{op_of, key_of, task_at}
use Rattle.cu_op.specs.Sound.{Sound, IsCell}
use Rattle.cu_op.specs.Elements.{Elements}
use Rattle.cu_op.specs.Walks.{written_chunks}
use Rattle.cu_op.proofs.CellsOfTasks.{map_contains}
use Rattle.cu_op.proofs.Plans.{grid_ok}
use Rattle.cu_op.proofs.TaskCells.{task_for, written_cell}
use Rattle.cu_run_law.specs.Left.{IsLeft, RunChange}
use Rattle.cu_run_law.specs.Pieces.{PlanRun, Piece, Text, Chunk, IsPiece, chunks_alone, piece_key, piece_value, IsInputChunk}
use Rattle.cu_run_law.proofs.Keeping.{change_alone}
use Rattle.cu_run_law.proofs.Reading.{input_or_made}
use Rattle.cu_work.specs.declared.run.Texts.{Texts}
use Rattle.cu_work.specs.Commands.{CommandChange, AreCommands}
use Rattle.cu_work.specs.Order.{task_keys, operation_keys, plan_keys}
use Rattle.cu_work.specs.Part.{IsPartOf, PartPut}
use Rattle.cu_work.specs.Removal.{RemovalIn, keys_before_record, removed_keys}
use Rattle.cu_work.specs.Run.{run_of}
use Rattle.cu_work.specs.declared.part.Part.{Part}
use Rattle.cu_work.proofs.TriedTasks.{put_runs}

told_after : (W : Changes) (held : Contents) (now : Option Contents) → Lands W (Some held) now → (new : Contents) × (now ≡ Some new) × ((key : List ℕ) → IsChangedBy W held new key)
told_after W held None lands = absurd lands
told_after W held (Some new) lands = (new, refl, lands)

abbrev IsLeftAt : PlanRun → Elements → Piece → Option (List ℕ) → Type 0
IsLeftAt r env q value = (value ≡ None) ⊎ ((bytes : List ℕ) × (value ≡ Some bytes) × (piece_value r env q ≡ Some bytes))

module _ (r : PlanRun) (env : Elements) (old : Shown) (left : IsLeft r env old) where
  -- a change at the key of a piece
  piece_left : (q : Piece) (value : Option (List ℕ)) → IsPiece r q → OrLate (CommandChange r old) old.late (piece_key r q) value → IsLeftAt r env q value
  piece_left q value piece (inl (inl (s, bytes, there, key, is, v))) =
      inr (bytes, is, subst (λ (x : Piece). piece_value r env x ≡ Some bytes) (sym (left.apart.pieces q s piece there key)) (v env left))
  piece_left q value piece (inl (inr (s, there, key, none))) = inl none
  piece_left q value piece (inr (bytes, is, among)) = inr (bytes, is, left.quiet.pieces q bytes piece among)

  -- at that of a chunk of an input
  input_left : (c : Cell) (value : Option (List ℕ)) → IsInputChunk r.plan.arrays c → OrLate (CommandChange r old) old.late (key_of r.plan.arrays c) value → value ≡ left.held (key_of r.plan.arrays c)
  input_left c value input (inl (inl (s, bytes, there, key, is, v))) = absurd (left.apart.inputs s c there input (sym key))
  input_left c value input (inl (inr (s, there, key, none))) = absurd (left.apart.inputs s c there input (sym key))
  input_left c value input (inr (bytes, is, among)) = is ∙ sym (left.quiet.inputs c bytes input among)

  module _ (l m : ℕ) (new : Shown) (step : Steps (CommandChange r old) l m old new) where
    after : (now : Contents) × (new.held ≡ Some now) × ((key : List ℕ) → IsChangedBy (OrLate (CommandChange r old) old.late) left.held now key)
    after = told_after (OrLate (CommandChange r old) old.late) left.held new.held (subst (λ (h : Option Contents). Lands (OrLate (CommandChange r old) old.late) h new.held) left.told step.lands)

    input_same : (now : Contents) (c : Cell) → IsInputChunk r.plan.arrays c → IsChangedBy (OrLate (CommandChange r old) old.late) left.held now (key_of r.plan.arrays c)
        → now (key_of r.plan.arrays c) ≡ left.held (key_of r.plan.arrays c)
    input_same now c input (inl same) = same
    input_same now c input (inr change) = input_left c (now (key_of r.plan.arrays c)) input change

    piece_after : (now : Contents) (q : Piece) → IsPiece r q → IsChangedBy (OrLate (CommandChange r old) old.late) left.held now (piece_key r q) → IsLeftAt r env q (now (piece_key r q))
    piece_after now q piece (inl same) = subst (IsLeftAt r env q) (sym same) (left.pieces q piece)
    piece_after now q piece (inr change) = piece_left q (now (piece_key r q)) piece change

    late_value : (q : Piece) (bytes : List ℕ) → IsLeftAt r env q (Some bytes) → piece_value r env q ≡ Some bytes
    late_value q bytes (inl none) = cc
    late_value q bytes (inr (own, is, v)) = v ∙ sym is

    pub commands_kept : IsLeft r env new
    commands_kept =
        let (now, told, changed) = after in
        record {
          held = now;
          told = told;
          sound = left.sound;
          apart = left.apart;
          typed = left.typed;
          inputs = λ a idx within given inside.
              let g = grid_at r.plan.arrays a in
              let c = cell a (quotients idx g.chunk) in
              let input : IsInputChunk r.plan.arrays c = record { within = within; given = given; coordinate = has_coordinate g idx (grid_ok r.plan a left.sound within) inside } in
              ap (λ (bytes : Option (List ℕ)). element_in (layout_at r.plan.arrays a) bytes idx) (input_same now c input (changed (key_of r.plan.arrays c)))
              ∙ left.inputs a idx within given inside;
          pieces = λ q piece. piece_after now q piece (changed (piece_key r q));
          quiet = record {
            pieces = λ q bytes piece among. late_value q bytes (piece_left q (Some bytes) piece (step.late (piece_key r q) bytes among));
            inputs = λ c bytes input among. input_same now c input (changed (key_of r.plan.arrays c)) ∙ sym (input_left c (Some bytes) input (step.late (key_of r.plan.arrays c) bytes among));
          };
        }

pub commands_all : (r : PlanRun) (env : Elements) (old : Shown) (moments : List Shown) → IsLeft r env old → AreCommands r old moments → All (IsLeft r env) moments
commands_all r env old [] left commands = All-nil (IsLeft r env)
commands_all r env old (new ∷ rest) left ((l, m, step), more) =
    let next = commands_kept r env old left l m new step in
    All-cons (IsLeft r env) new rest next (commands_all r env new rest next more)

pub run_command : (r : PlanRun) (l m : ℕ) (old new : Shown) → Steps (RunChange r old) l m old new → Steps (CommandChange r old) l m old new
run_command r l m old new step = steps_wider (λ key value change. inl change) (omega arith) (omega arith) step

-- what is put for the tasks of a part is put for its plan
part_within : (p : PlanView) → Sound p → (q : Part) → IsPartOf p q → (first : Shown) → Within (PartPut p q first) (RunChange (chunks_alone p) first)
part_within p sound q part first key value (task, within, lacks, put) =
    let few = part.few in
    let below = within.1 in
    put_runs p sound q.op task part.operation (omega (arith, few, below)) first key value put

pub part_command : (p : PlanView) (t : Texts) (q : Part) (l m : ℕ) (old new : Shown) → Sound p → IsPartOf p q → Steps (PartPut p q old) l m old new
    → Steps (CommandChange (run_of p t) old) l m old new
part_command p t q l m old new sound part step =
    let alone : Steps (RunChange (chunks_alone p) old) l m old new = steps_wider (part_within p sound q part old) (omega arith) (omega arith) step in
    run_command (run_of p t) l m old new (change_alone (run_of p t) old l m old new alone)

-- ---- the keys that are removed are those of the pieces

-- an element of what f makes of a list
mapped_from : {A B : Type 0} (f : A → B) (xs : List A) (b : B) → Contains (map f xs) b → (a : A) × Contains xs a × (b ≡ f a)
mapped_from f [] b (i, below, e) = absurd (omega (arith, below))
mapped_from f (x ∷ xs) b (zero, below, e) = (x, (0, omega arith, refl), sym e)
mapped_from f (x ∷ xs) b (suc i, below, e) =
    let (a, (j, within, at), is) = mapped_from f xs b (i, omega (arith, below), e) in
    (a, (suc j, omega (arith, within), at), is)

module _ (p : PlanView) (sound : Sound p) where
  abbrev IsCellKey : List ℕ → Type 0
  IsCellKey key = (c : Cell) × IsCell p.arrays c.array c.coord × (key ≡ key_of p.arrays c)

  task_piece : (k task : ℕ) (key : List ℕ) → k < length p.ops → task < tasks_of p.arrays (op_of p k) → Contains (task_keys p k task) key → IsCellKey key
  task_piece k task key operation number listed =
      let (c, own, is) = mapped_from (key_of p.arrays) (written_chunks p.arrays (op_of p k) task) key listed in
      (c, written_cell p sound k task c.array c.coord (record { operation = operation; number = number; cell = own }), is)

  operation_piece : (k n : ℕ) (key : List ℕ) → k < length p.ops → n ≤ tasks_of p.arrays (op_of p k) → Contains (operation_keys p k n) key → IsCellKey key
  operation_piece k zero key operation few (i, below, e) = absurd (omega (arith, below))
  operation_piece k (suc n) key operation few listed = elim (Contains-append_cases (operation_keys p k n) (task_keys p k n) key listed) [
    | inl before ↦ operation_piece k n key operation (omega (arith, few)) before
    | inr own ↦ task_piece k n key operation (omega (arith, few)) own
  ]

  pub plan_piece : (n : ℕ) (key : List ℕ) → n ≤ length p.ops → Contains (plan_keys p n) key → IsCellKey key
  plan_piece zero key few (i, below, e) = absurd (omega (arith, below))
  plan_piece (suc n) key few listed = elim (Contains-append_cases (plan_keys p n) (operation_keys p n (tasks_of p.arrays (op_of p n))) key listed) [
    | inl before ↦ plan_piece n key (omega (arith, few)) before
    | inr own ↦ operation_piece n (tasks_of p.arrays (op_of p n)) key (omega (arith, few)) (omega arith) own
  ]

  -- and each chunk's key is one of them
  in_operation : (k task n : ℕ) (key : List ℕ) → task < n → Contains (task_keys p k task) key → Contains (operation_keys p k n) key
  in_operation k task zero key below listed = absurd (omega (arith, below))
  in_operation k task (suc n) key below listed = elim (cases_lt task n) [
    | inl less ↦ Contains-append_left (operation_keys p k n) (task_keys p k n) key (in_operation k task n key less listed)
    | inr least ↦
        let last : task ≡ n = omega (arith, least, below) in
        Contains-append_right (operation_keys p k n) (task_keys p k n) key (subst (λ (m : ℕ). Contains (task_keys p k m) key) last listed)
  ]

  in_plan : (k n : ℕ) (key : List ℕ) → k < n → Contains (operation_keys p k (tasks_of p.arrays (op_of p k))) key → Contains (plan_keys p n) key
  in_plan k zero key below listed = absurd (omega (arith, below))
  in_plan k (suc n) key below listed = elim (cases_lt k n) [
    | inl less ↦ Contains-append_left (plan_keys p n) (operation_keys p n (tasks_of p.arrays (op_of p n))) key (in_plan k n key less listed)
    | inr least ↦
        let last : k ≡ n = omega (arith, least, below) in
        Contains-append_right (plan_keys p n) (operation_keys p n (tasks_of p.arrays (op_of p n))) key
        (subst (λ (m : ℕ). Contains (operation_keys p m (tasks_of p.arrays (op_of p m))) key) last listed)
  ]

  cell_listed : (c : Cell) → IsCell p.arrays c.array c.coord → Contains (plan_keys p (length p.ops)) (key_of p.arrays c)
  cell_listed c there = elim (input_or_made (maker_at p.arrays c.array)) [
    | inl given ↦ absurd (there.made given)
    | inr maker ↦
        let w = task_for p sound maker.0 c.array c.coord there maker.1 in
        let number = task_at p.arrays (op_of p maker.0) c in
        in_plan maker.0 (length p.ops) (key_of p.arrays c) w.operation
        (in_operation maker.0 number (tasks_of p.arrays (op_of p maker.0)) (key_of p.arrays c) w.number
        (map_contains (key_of p.arrays) (written_chunks p.arrays (op_of p maker.0) number) c w.cell))
  ]

  module _ (t : Texts) where
    behind_first : (key : List ℕ) → Contains (plan_keys p (length p.ops)) key → Contains (keys_before_record p t.metadata_key) key
    behind_first key (i, below, e) = (suc i, omega (arith, below), e)

    text_listed : (n : ℕ) → n < 2 → Contains (removed_keys p t.record_key t.metadata_key) (piece_key (run_of p t) (Text n))
    text_listed zero below = Contains-append_right (keys_before_record p t.metadata_key) (t.record_key ∷ []) t.record_key (0, omega arith, refl)
    text_listed (suc zero) below = (0, omega arith, refl)
    text_listed (suc (suc n)) below = absurd (omega (arith, below))

    pub piece_listed : (q : Piece) → IsPiece (run_of p t) q → Contains (removed_keys p t.record_key t.metadata_key) (piece_key (run_of p t) q)
    piece_listed (Text n) piece = text_listed n piece
    piece_listed (Chunk c) piece =
        Contains-append_left (keys_before_record p t.metadata_key) (t.record_key ∷ []) (key_of p.arrays c) (behind_first (key_of p.arrays c) (cell_listed c piece))

    first_or_behind : (key : List ℕ) → Contains (keys_before_record p t.metadata_key) key → (key ≡ t.metadata_key) ⊎ Contains (plan_keys p (length p.ops)) key
    first_or_behind key (zero, below, e) = inl (sym e)
    first_or_behind key (suc i, below, e) = inr (i, omega (arith, below), e)

    only_one : (key : List ℕ) → Contains (t.record_key ∷ []) key → key ≡ t.record_key
    only_one key (zero, below, e) = sym e
    only_one key (suc i, below, e) = absurd (omega (arith, below))

    key_of_piece : (key : List ℕ) → Contains (removed_keys p t.record_key t.metadata_key) key → (q : Piece) × IsPiece (run_of p t) q × (key ≡ piece_key (run_of p t) q)
    key_of_piece key listed = elim (Contains-append_cases (keys_before_record p t.metadata_key) (t.record_key ∷ []) key listed) [
      | inl before ↦ elim (first_or_behind key before) [
        | inl first ↦ (Text 1, omega arith, first)
        | inr chunk ↦ let (c, there, is) = plan_piece (length p.ops) key (omega arith) chunk in (Chunk c, there, is)
      ]
      | inr last ↦ (Text 0, omega arith, only_one key last)
    ]

    pub drop_command : (l m : ℕ) (old new : Shown) → Steps (RemovalIn (removed_keys p t.record_key t.metadata_key)) l m old new → Steps (CommandChange (run_of p t) old) l m old new
    drop_command l m old new step =
        steps_wider (λ key value change. let (q, piece, is) = key_of_piece key change.0 in inr (q, piece, is, change.1)) (omega arith) (omega arith) step
