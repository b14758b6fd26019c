-- The keys of a demonstration: those of its inputs, and those of its plan, which are others.
use Rattle.std.proofs.Common.{◌≡◌, ◌∙◌, inl, inr, ℕ, zero, suc, ◌<◌, ◌≤◌, Bool, true, false, true≢false, List, [], ◌∷◌, ◌++◌, length, map, codes, Contains, Option, refl, sym, ap, arith}
use Rattle.std.specs.Prelude.{◌==◌, ◌&&◌, ◌||◌}
use Rattle.std.proofs.lemmas.Bool.{and_parts, eqb-true}
use Rattle.std.proofs.lemmas.List.Elements.{Contains-append_cases}
use Rattle.cu_name.specs.Name.{IsArrayName}
use Rattle.cu_zarr.specs.Key.{zarray_key_of}
use Rattle.cu_op.specs.declared.cells.Cell.{Cell}
use Rattle.cu_op.specs.Cells.{tasks_of}
use Rattle.cu_op.specs.PlanView.{PlanView}
use Rattle.cu_op.specs.Schedule.{op_of, key_of, WritesCell}
use Rattle.cu_op.specs.Sound.{Sound, IsCell}
use Rattle.cu_op.specs.Walks.{written_chunks}
use Rattle.cu_op.proofs.TaskCells.{written_cell}
use Rattle.cu_lower.proofs.Names.{array_name}
use Rattle.cu_run_law.specs.Names.{HasPlanNames}
use Rattle.cu_run_law.specs.Pieces.{Piece, Text, Chunk, IsPiece, piece_key}
use Rattle.cu_run_law.proofs.PlanNames.{other_names}
use Rattle.cu_work.specs.Order.{plan_keys, operation_keys, task_keys}
use Rattle.cu_command.specs.declared.job.Job.{Job}
use Rattle.cu_load.specs.Load.{IsArrayKey}
use Rattle.cu_load.proofs.StoreLemmas.{array_put_key}
use Rattle.cu_demo.specs.Input.{demo_name}
use Rattle.cu_demo.specs.declared.input.DemoInput.{DemoInput}
use Rattle.cu_demo.specs.declared.input.DemoInput.TheVariants.{Rows, Columns}
use Rattle.cu_lower.specs.declared.options.Options.{Options}
use Rattle.cu_top.specs.Demo.{InputsPut, demo_array}
use Rattle.cu_top.specs.Prepare.{job_plan, asked_keys, out_metadata}
use Rattle.cu_top.specs.Quiet.{run_of_job}
use Rattle.cu_top.specs.Record.{record_text}

-- ---- the keys of the inputs

-- the key begins with these bytes
abbrev pub starts : List ℕ → List ℕ → Bool
starts [] key = true
starts (c ∷ cs) [] = false
starts (c ∷ cs) (k ∷ ks) = c == k && starts cs ks

starts_rest : (front key : List ℕ) → starts front key ≡ true → (rest : List ℕ) × (key ≡ front ++ rest)
starts_rest [] key is = (key, refl)
starts_rest (c ∷ cs) [] is = absurd (true≢false (sym is))
starts_rest (c ∷ cs) (k ∷ ks) is =
    let both = and_parts (c == k) (starts cs ks) is in
    let (rest, same) = starts_rest cs ks both.1 in
    let first : c ≡ k = eqb-true c k both.0 in
    (rest, λ i. sym first i ∷ same i)

-- the key lies below the name of an input
abbrev pub is_inputs : List ℕ → Bool
is_inputs key = starts (codes "demo_a/") key || starts (codes "demo_b/") key

pub of_array : (input : DemoInput) (n : ℕ) (key : List ℕ) → IsArrayKey (demo_array input n) key → is_inputs key ≡ true
of_array Rows n key (inl same) = ap is_inputs same
of_array Rows n key (inr (k, below, same)) = ap is_inputs same
of_array Columns n key (inl same) = ap is_inputs same
of_array Columns n key (inr (k, below, same)) = ap is_inputs same

pub put_key : (n : ℕ) (key : List ℕ) (value : Option (List ℕ)) → InputsPut n key value → is_inputs key ≡ true
put_key n key value (inl put) = of_array Rows n key (array_put_key (demo_array Rows n) key value put)
put_key n key value (inr put) = of_array Columns n key (array_put_key (demo_array Columns n) key value put)

pub below_rows : (n : ℕ) (key : List ℕ) → IsArrayKey (demo_array Rows n) key → starts (codes "demo_a/") key ≡ true
below_rows n key (inl same) = ap (starts (codes "demo_a/")) same
below_rows n key (inr (k, below, same)) = ap (starts (codes "demo_a/")) same

pub not_below_rows : (n : ℕ) (key : List ℕ) → IsArrayKey (demo_array Columns n) key → starts (codes "demo_a/") key ≡ false
not_below_rows n key (inl same) = ap (starts (codes "demo_a/")) same
not_below_rows n key (inr (k, below, same)) = ap (starts (codes "demo_a/")) same

-- the key isn't one that is put: metadata of version 2 of an input
abbrev is_hidden : List ℕ → Bool
is_hidden key = starts (codes "demo_a/.") key || starts (codes "demo_b/.") key

not_hidden : (input : DemoInput) (n : ℕ) (key : List ℕ) → IsArrayKey (demo_array input n) key → is_hidden key ≡ false
not_hidden Rows n key (inl same) = ap is_hidden same
not_hidden Rows n key (inr (k, below, same)) = ap is_hidden same
not_hidden Columns n key (inl same) = ap is_hidden same
not_hidden Columns n key (inr (k, below, same)) = ap is_hidden same

hidden_zarray : (input : DemoInput) → is_hidden (zarray_key_of (demo_name input)) ≡ true
hidden_zarray Rows = refl
hidden_zarray Columns = refl

pub no_zarray_put : (input : DemoInput) (n : ℕ) (value : Option (List ℕ)) → InputsPut n (zarray_key_of (demo_name input)) value → ⊥
no_zarray_put input n value (inl put) =
    true≢false (sym (hidden_zarray input) ∙ not_hidden Rows n (zarray_key_of (demo_name input)) (array_put_key (demo_array Rows n) (zarray_key_of (demo_name input)) value put))
no_zarray_put input n value (inr put) =
    true≢false (sym (hidden_zarray input) ∙ not_hidden Columns n (zarray_key_of (demo_name input)) (array_put_key (demo_array Columns n) (zarray_key_of (demo_name input)) value put))

named_rows : IsArrayName (codes "demo_a")
named_rows = array_name (codes "demo_a") refl

named_columns : IsArrayName (codes "demo_b")
named_columns = array_name (codes "demo_b") refl

-- ---- the keys of the plan

in_map : (f : Cell → List ℕ) (cs : List Cell) (key : List ℕ) → Contains (map f cs) key → (c : Cell) × Contains cs c × (f c ≡ key)
in_map f [] key (i, below, e) = absurd (omega arith)
in_map f (c ∷ cs) key (zero, below, e) = (c, (zero, omega arith, refl), e)
in_map f (c ∷ cs) key (suc i, below, e) = let (d, (j, within, is), same) = in_map f cs key (i, omega arith, e) in (d, (suc j, omega (arith, within), is), same)

module _ (p : PlanView) (sound : Sound p) where
  abbrev IsMadeKey : List ℕ → Type 0
  IsMadeKey key = (c : Cell) × IsCell p.arrays c.array c.coord × (key_of p.arrays c ≡ key)

  of_task : (op task : ℕ) (key : List ℕ) → op < length p.ops → task < tasks_of p.arrays (op_of p op) → Contains (task_keys p op task) key → IsMadeKey key
  of_task op task key first number listed =
      let (c, within, same) = in_map (key_of p.arrays) (written_chunks p.arrays (op_of p op) task) key listed in
      let writes : WritesCell p op task c.array c.coord = record { operation = first; number = number; cell = within } in
      (c, written_cell p sound op task c.array c.coord writes, same)

  of_operation : (op n : ℕ) (key : List ℕ) → op < length p.ops → n ≤ tasks_of p.arrays (op_of p op) → Contains (operation_keys p op n) key → IsMadeKey key
  of_operation op zero key first few (i, below, e) = absurd (omega arith)
  of_operation op (suc n) key first few listed =
      elim (Contains-append_cases (operation_keys p op n) (task_keys p op n) key listed) [
        | inl earlier ↦ of_operation op n key first (omega (arith, few)) earlier
        | inr own ↦ of_task op n key first (omega (arith, few)) own
      ]

  of_plan : (n : ℕ) (key : List ℕ) → n ≤ length p.ops → Contains (plan_keys p n) key → IsMadeKey key
  of_plan zero key few (i, below, e) = absurd (omega arith)
  of_plan (suc n) key few listed =
      elim (Contains-append_cases (plan_keys p n) (operation_keys p n (tasks_of p.arrays (op_of p n))) key listed) [
        | inl earlier ↦ of_plan n key (omega (arith, few)) earlier
        | inr own ↦ of_operation n (tasks_of p.arrays (op_of p n)) key (omega (arith, few)) (omega arith) own
      ]

module _ (options : Options) (job : Job) (name : job.expr.store_as ≡ codes "demo_y") (sound : Sound (job_plan options job))
    (names : HasPlanNames (run_of_job options job) job.expr.store_as (record_text options job) (out_metadata job)) where
  other_rows : job.expr.store_as ≡ codes "demo_a" → ⊥
  other_rows same = true≢false (ap (starts (codes "demo_y")) (sym name ∙ same))

  other_columns : job.expr.store_as ≡ codes "demo_b" → ⊥
  other_columns same = true≢false (ap (starts (codes "demo_y")) (sym name ∙ same))

  not_below : (q : Piece) (a b : Bool) → IsPiece (run_of_job options job) q → starts (codes "demo_a/") (piece_key (run_of_job options job) q) ≡ a
      → starts (codes "demo_b/") (piece_key (run_of_job options job) q) ≡ b → a || b ≡ false
  not_below q true b piece rows columns =
      let (rest, same) = starts_rest (codes "demo_a/") (piece_key (run_of_job options job) q) rows in
      absurd (other_names (run_of_job options job) job.expr.store_as (record_text options job) (out_metadata job) sound names q (codes "demo_a") rest piece named_rows (λ e. other_rows (sym e)) same)
  not_below q false true piece rows columns =
      let (rest, same) = starts_rest (codes "demo_b/") (piece_key (run_of_job options job) q) columns in
      absurd (other_names (run_of_job options job) job.expr.store_as (record_text options job) (out_metadata job) sound names q (codes "demo_b") rest piece named_columns (λ e. other_columns (sym e)) same)
  not_below q false false piece rows columns = refl

  -- the key of a piece isn't one of an input
  pub piece_apart : (q : Piece) → IsPiece (run_of_job options job) q → is_inputs (piece_key (run_of_job options job) q) ≡ false
  piece_apart q piece =
      not_below q (starts (codes "demo_a/") (piece_key (run_of_job options job) q)) (starts (codes "demo_b/") (piece_key (run_of_job options job) q)) piece refl refl

  -- nor is one that is asked for
  pub listed_apart : (key : List ℕ) → Contains (asked_keys options job) key → is_inputs key ≡ false
  listed_apart key (zero, below, e) = ap is_inputs (sym e) ∙ piece_apart (Text 0) (omega arith)
  listed_apart key (suc zero, below, e) = ap is_inputs (sym e) ∙ piece_apart (Text 1) (omega arith)
  listed_apart key (suc (suc zero), below, e) = ap is_inputs (sym e ∙ ap zarray_key_of name)
  listed_apart key (suc (suc (suc i)), below, e) =
      let (c, is, same) = of_plan (job_plan options job) sound (length (job_plan options job).ops) key (omega arith) (i, omega (arith, below), e) in
      ap is_inputs (sym same) ∙ piece_apart (Chunk c) is
