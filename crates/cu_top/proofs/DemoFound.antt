-- What the run of a demonstration finds, and that its way is clear.
use Rattle.std.proofs.Common.{◌≡◌, ◌⊎◌, ◌∙◌, inl, inr, ℕ, ◌≤◌, Bool, true, false, true≢false, List, [], ◌∷◌, ◌++◌, codes, All, Option, Some, None, Result, Ok, get_or, refl, sym, ap, subst, arith}
use Rattle.std.specs.Prelude.{if◌then◌else◌}
use Rattle.std.proofs.lemmas.List.Elements.{All-cons, All-nil, All-head, All-tail, Contains-get_or}
use Rattle.cu_store.specs.Held.{Contents, Write, IsAmong, Holds}
use Rattle.cu_store.specs.Steps.{Shown, NoChange, OrLate, IsChangedBy, Lands, AllLateIn}
use Rattle.cu_zarr.specs.Key.{metadata_key_of, zarray_key_of}
use Rattle.cu_zarr.specs.Layout.{ArrayLayout}
use Rattle.cu_zarr.specs.Metadata.{metadata_text}
use Rattle.cu_meta.specs.Metadata.{read_metadata}
use Rattle.cu_meta_members.specs.Storable.{IsStorable}
use Rattle.cu_op.specs.declared.cells.Cell.{Cell}
use Rattle.cu_op.specs.Layout.{layout_view}
use Rattle.cu_op.specs.Schedule.{key_of}
use Rattle.cu_op.specs.Sound.{Sound}
use Rattle.cu_op.specs.Value.{stored_inputs}
use Rattle.cu_op.specs.declared.layout.Layout.{Layout}
use Rattle.cu_run_law.specs.Left.{IsQuiet}
use Rattle.cu_run_law.specs.Names.{HasPlanNames}
use Rattle.cu_run_law.specs.Pieces.{Piece, IsPiece, IsInputChunk, piece_key, piece_value}
use Rattle.cu_expr.specs.Typing.{typed}
use Rattle.cu_expr.specs.declared.inputs.InputInfo.{InputInfo}
use Rattle.cu_form.specs.Expression.{Expression}
use Rattle.cu_read.specs.Read.{expression_of}
use Rattle.cu_work.specs.Order.{IsFree}
use Rattle.cu_command.specs.Inputs.{AreCalmAt, IsReadAt, names_in, names_of}
use Rattle.cu_command.specs.Job.{IsJob}
use Rattle.cu_command.specs.Seen.{Stepped}
use Rattle.cu_command.specs.Stored.{IsArrayLayout, HoldsLayout, StoresLayout}
use Rattle.cu_command.specs.declared.job.Job.{Job}
use Rattle.cu_load.specs.Load.{ArrayPut, StoresGiven}
use Rattle.cu_load.specs.LoadForm.{GivenArray}
use Rattle.cu_load.proofs.CommandLemmas.{still_calm}
use Rattle.cu_demo.proofs.Computed.{demo_number, demo_said}
use Rattle.cu_demo.specs.Expression.{IsDemoJob, demo_expression, demo_info, demo_inputs, demo_text}
use Rattle.cu_demo.specs.Input.{demo_layout, demo_name}
use Rattle.cu_demo.specs.declared.input.DemoInput.{DemoInput}
use Rattle.cu_demo.specs.declared.input.DemoInput.TheVariants.{Rows, Columns}
use Rattle.cu_lower.specs.declared.options.Options.{Options}
use Rattle.cu_top.proofs.DemoWhole.{OnlyInputs, demo_whole}
use Rattle.cu_top.proofs.DemoKeys.{is_inputs, put_key, piece_apart, listed_apart, no_zarray_put}
use Rattle.cu_top.specs.Complete.{AreWhole}
use Rattle.cu_top.specs.Demo.{AreInputsCalm, HidesNone, InputsPut, IsDemoCalm, FoundByDemo, StoresDemoInputs, WhereTold, demo_array}
use Rattle.cu_top.specs.Prepare.{job_plan, asked_keys, out_metadata, HasNoOwnInput, HasPlan}
use Rattle.cu_top.specs.Quiet.{IsCalm, IsCalmFor, run_of_job}
use Rattle.cu_top.specs.Record.{record_text}
use Rattle.cu_top.specs.Run.{IsCleared}

-- ---- late puts of two lists

among_left : (xs ys : List Write) (key bytes : List ℕ) → IsAmong xs key bytes → IsAmong (xs ++ ys) key bytes
among_left [] ys key bytes none = absurd none
among_left (x ∷ xs) ys key bytes (inl here) = inl here
among_left (x ∷ xs) ys key bytes (inr later) = inr (among_left xs ys key bytes later)

among_right : (xs ys : List Write) (key bytes : List ℕ) → IsAmong ys key bytes → IsAmong (xs ++ ys) key bytes
among_right [] ys key bytes there = there
among_right (x ∷ xs) ys key bytes there = inr (among_right xs ys key bytes there)

among_cases : (xs ys : List Write) (key bytes : List ℕ) → IsAmong (xs ++ ys) key bytes → IsAmong xs key bytes ⊎ IsAmong ys key bytes
among_cases [] ys key bytes there = inr there
among_cases (x ∷ xs) ys key bytes (inl here) = inl (inl here)
among_cases (x ∷ xs) ys key bytes (inr later) = elim (among_cases xs ys key bytes later) [
  | inl first ↦ inl (inr first)
  | inr second ↦ inr second
]

-- ---- what is found

-- under the keys of the inputs what is held now, and else what was held
abbrev overlay : Contents → Contents → Contents
overlay was now key = if is_inputs key then now key else was key

overlay_true : (was now : Contents) (key : List ℕ) → is_inputs key ≡ true → overlay was now key ≡ now key
overlay_true was now key is = rw is refl

overlay_false : (was now : Contents) (key : List ℕ) → is_inputs key ≡ false → overlay was now key ≡ was key
overlay_false was now key is = rw is refl

abbrev overlay_held : Option Contents → Option Contents → Option Contents
overlay_held None now = None
overlay_held (Some was) None = None
overlay_held (Some was) (Some now) = Some (overlay was now)

-- what a run finds, between a first moment and one at which the inputs are stored
abbrev pub found_of : Shown → Shown → Shown
found_of old start = record {
  held = overlay_held old.held start.held;
  late = old.late ++ start.late;
  faults = start.faults;
  calls = start.calls;
  lacks = start.lacks;
}

module _ (n : ℕ) (old start : Shown) (both : Stepped (InputsPut n) old start) where
  since : (t : Bool) (was now : Contents) (key : List ℕ) → is_inputs key ≡ t → IsChangedBy (OrLate (InputsPut n) old.late) was now key
      → IsChangedBy (OrLate NoChange (old.late ++ start.late)) (overlay was now) now key
  since true was now key is changed = inl (sym (overlay_true was now key is))
  since false was now key is (inl same) = inl (same ∙ sym (overlay_false was now key is))
  since false was now key is (inr (inl put)) = absurd (true≢false (sym (put_key n key (now key) put) ∙ is))
  since false was now key is (inr (inr (bytes, value, among))) = inr (inr (bytes, value, among_left old.late start.late key bytes among))

  lands_since : (a b : Option Contents) → Lands (OrLate (InputsPut n) old.late) a b → Lands (OrLate NoChange (old.late ++ start.late)) (overlay_held a b) b
  lands_since None None lands = tt
  lands_since None (Some b) lands = absurd lands
  lands_since (Some a) None lands = absurd lands
  lands_since (Some a) (Some b) lands = λ key. since (is_inputs key) a b key refl (lands key)

  -- from what was found nothing but late puts has landed
  pub spared : Stepped NoChange (found_of old start) start
  spared = record {
    calls = 0;
    step = record {
      lands = lands_since old.held start.held both.step.lands;
      late = λ key bytes among. inr (bytes, refl, among_right old.late start.late key bytes among);
      count = omega arith;
      calls = (omega arith, omega arith, omega arith);
      lacks = refl;
    };
  }

  until : (t : Bool) (was now : Contents) (key : List ℕ) → is_inputs key ≡ t → IsChangedBy (OrLate (InputsPut n) old.late) was now key
      → IsChangedBy (OrLate (InputsPut n) old.late) was (overlay was now) key
  until true was now key is changed =
      subst (λ (v : Option (List ℕ)). (v ≡ was key) ⊎ OrLate (InputsPut n) old.late key v) (sym (overlay_true was now key is)) changed
  until false was now key is changed = inl (overlay_false was now key is)

  lands_until : (a b : Option Contents) → Lands (OrLate (InputsPut n) old.late) a b → Lands (OrLate (InputsPut n) old.late) a (overlay_held a b)
  lands_until None None lands = tt
  lands_until None (Some b) lands = absurd lands
  lands_until (Some a) None lands = absurd lands
  lands_until (Some a) (Some b) lands = λ key. until (is_inputs key) a b key refl (lands key)

  pub late_found : AllLateIn (old.late ++ start.late) (OrLate (InputsPut n) old.late)
  late_found key bytes among = elim (among_cases old.late start.late key bytes among) [
    | inl first ↦ inr (bytes, refl, first)
    | inr second ↦ both.step.late key bytes second
  ]

  stores_found : (a b : Option Contents) → StoresDemoInputs n b → StoresDemoInputs n (overlay_held a b)
  stores_found None b stores = (tt, tt)
  stores_found (Some a) None stores = (tt, tt)
  stores_found (Some a) (Some b) stores = stores

  pub is_found : (AreInputsCalm n old.late → StoresDemoInputs n start.held) → FoundByDemo n old (found_of old start)
  is_found stores = record {
    lands = lands_until old.held start.held both.step.lands;
    late = late_found;
    stored = λ calm. stores_found old.held start.held (stores calm);
    faults = both.step.count;
  }

-- the premise on the inputs stands
pub still_inputs : (n : ℕ) (old asked : Shown) → Stepped NoChange old asked → AreInputsCalm n old.late → AreInputsCalm n asked.late
still_inputs n old asked step calm =
    (still_calm (demo_array Rows n) old.late asked.late step.step.late calm.0, still_calm (demo_array Columns n) old.late asked.late step.step.late calm.1)

-- ---- a value of an input that is put is the one that is held

pub held_put : (a : GivenArray) (held : Contents) (key bytes : List ℕ) → StoresGiven a (Some held) → ArrayPut a key (Some bytes) → held key ≡ Some bytes
held_put a held key bytes stores (inl (at, is)) = ap held at ∙ stores.0 ∙ sym is
held_put a held key bytes stores (inr (k, below, (b, given, (at, is)))) =
    let (own, value, holds) = stores.1 k below in
    ap held at ∙ holds ∙ sym value ∙ given ∙ sym is

held_input : (n : ℕ) (held : Contents) (key bytes : List ℕ) → StoresDemoInputs n (Some held) → InputsPut n key (Some bytes) → held key ≡ Some bytes
held_input n held key bytes stores (inl put) = held_put (demo_array Rows n) held key bytes stores.0 put
held_input n held key bytes stores (inr put) = held_put (demo_array Columns n) held key bytes stores.1 put

-- ---- the layouts of the inputs

-- the law of the metadata that is written
abbrev pub ReadBack : Type 0
ReadBack = (l : ArrayLayout) → IsStorable l → read_metadata (metadata_text l) ≡ Ok l

same_layout : (l m : Layout) → layout_view l ≡ layout_view m → l ≡ m
same_layout l m same = λ i. record {
  dtype = (same i).dtype;
  grid = record { shape = (same i).shape; chunk = (same i).chunk };
  encoding = (same i).encoding;
  endian = (same i).endian;
  fill = (same i).fill;
}

ok_same : {E : Type 0} (r : Result ArrayLayout E) (l m : ArrayLayout) → r ≡ Ok l → r ≡ Ok m → l ≡ m
ok_same r l m one other = cc

some_same : (v : Option (List ℕ)) (a b : List ℕ) → v ≡ Some a → v ≡ Some b → a ≡ b
some_same v a b one other = cc

not_gone : (v : Option (List ℕ)) (a : List ℕ) → v ≡ None → v ≡ Some a → ⊥
not_gone v a none some = cc

untold_held : (entry : Contents) → ◌≡◌ {A = Option Contents} None (Some entry) → ⊥
untold_held entry told = cc

same_held : (x y : Contents) → ◌≡◌ {A = Option Contents} (Some x) (Some y) → x ≡ y
same_held x y e = cc

none_of_two : (a : List ℕ) (rest : List (List ℕ)) → ◌≡◌ {A = List (List ℕ)} [] (a ∷ rest) → ⊥
none_of_two a rest e = cc

one_of_two : (x a b : List ℕ) → x ∷ [] ≡ a ∷ b ∷ [] → ⊥
one_of_two x a b e = cc

three_of_two : (x y z a b : List ℕ) (xs : List (List ℕ)) → x ∷ y ∷ z ∷ xs ≡ a ∷ b ∷ [] → ⊥
three_of_two x y z a b xs e = cc

two_of : (is : List InputInfo) (a b : List ℕ) → names_of is ≡ a ∷ b ∷ [] → (i : InputInfo) × (j : InputInfo) × (is ≡ i ∷ j ∷ []) × (i.name ≡ a) × (j.name ≡ b)
two_of [] a b e = absurd (none_of_two a (b ∷ []) e)
two_of (i ∷ []) a b e = absurd (one_of_two i.name a b e)
two_of (i ∷ j ∷ []) a b e = (i, j, refl, cc, cc)
two_of (i ∷ j ∷ k ∷ is) a b e = absurd (three_of_two i.name j.name k.name a b (names_of is) e)

pub ok_expression : {E : Type 0} (r : Result Expression E) (e f : Expression) → r ≡ Ok e → r ≡ Ok f → e ≡ f
ok_expression r e f one other = cc

-- ---- the job, over what is found

module _ (options : Options) (n : ℕ) (some : 1 ≤ n) (few : n ≤ 2048) (read_back : ReadBack) (rows : IsArrayLayout (demo_layout Rows n)) (columns : IsArrayLayout (demo_layout Columns n))
    (found : Shown) (stored : WhereTold found.held (StoresDemoInputs n found.held)) where
  read_rows : (h : Option Contents) → WhereTold h (StoresDemoInputs n h) → HoldsLayout h (metadata_key_of (demo_name Rows)) (demo_layout Rows n)
  read_rows None stores = tt
  read_rows (Some held) stores = (metadata_text (layout_view (demo_layout Rows n)), stores.0.0, record { grid = rows.grid; reads = read_back (layout_view (demo_layout Rows n)) rows.storable })

  read_columns : (h : Option Contents) → WhereTold h (StoresDemoInputs n h) → HoldsLayout h (metadata_key_of (demo_name Columns)) (demo_layout Columns n)
  read_columns None stores = tt
  read_columns (Some held) stores = (metadata_text (layout_view (demo_layout Columns n)), stores.1.0, record { grid = columns.grid; reads = read_back (layout_view (demo_layout Columns n)) columns.storable })

  all_read : All (IsReadAt found) (demo_inputs n)
  all_read =
      All-cons (IsReadAt found) (demo_info Rows n) (demo_info Columns n ∷ []) (record { layout = rows; held = λ calm. inl (read_rows found.held stored) })
      (All-cons (IsReadAt found) (demo_info Columns n) [] (record { layout = columns; held = λ calm. inl (read_columns found.held stored) }) (All-nil (IsReadAt found)))

  -- it is the job of the text
  pub demo_accepted : (job : Job) → IsDemoJob n job → IsJob found demo_text job
  demo_accepted job is = record {
    said = is.said;
    compact = is.compact;
    names = ap names_of is.inputs ∙ sym (ap names_in is.expr);
    inputs = subst (All (IsReadAt found)) (sym is.inputs) all_read;
    types = ap (λ (inputs : List InputInfo). typed inputs job.expr) is.inputs ∙ is.types;
  }

  -- ---- no other job is that of the text

  module _ (held : Contents) (told : found.held ≡ Some held) (stores : StoresDemoInputs n (Some held))
      (settled : (input : DemoInput) (bytes : List ℕ) → IsAmong found.late (metadata_key_of (demo_name input)) bytes → held (metadata_key_of (demo_name input)) ≡ Some bytes)
      (hides : HidesNone found.late) where
    calm_at : (input : DemoInput) → AreCalmAt found (demo_name input)
    calm_at input = (
      λ bytes among. subst (λ (h : Option Contents). Holds h (metadata_key_of (demo_name input)) bytes) (sym told) (settled input bytes among),
      λ bytes among. absurd (hides input bytes among),
    )

    layout_of : (input : DemoInput) → IsArrayLayout (demo_layout input n)
    layout_of Rows = rows
    layout_of Columns = columns

    text_of : (input : DemoInput) → held (metadata_key_of (demo_name input)) ≡ Some (metadata_text (layout_view (demo_layout input n)))
    text_of Rows = stores.0.0
    text_of Columns = stores.1.0

    written_is : (input : DemoInput) (l : Layout) → HoldsLayout (Some held) (metadata_key_of (demo_name input)) l → l ≡ demo_layout input n
    written_is input l (text, at, metadata) =
        let same : text ≡ metadata_text (layout_view (demo_layout input n)) =
        some_same (held (metadata_key_of (demo_name input))) text (metadata_text (layout_view (demo_layout input n))) at (text_of input) in
        same_layout l (demo_layout input n) (ok_same (read_metadata text) (layout_view l) (layout_view (demo_layout input n)) metadata.reads
        (ap read_metadata same ∙ read_back (layout_view (demo_layout input n)) (layout_of input).storable))

    stored_is : (input : DemoInput) (l : Layout) → StoresLayout (Some held) (demo_name input) l → l ≡ demo_layout input n
    stored_is input l (inl written) = written_is input l written
    stored_is input l (inr (gone, zarray)) =
        absurd (not_gone (held (metadata_key_of (demo_name input))) (metadata_text (layout_view (demo_layout input n))) gone (text_of input))

    layout_is : (input : DemoInput) (l : Layout) → (AreCalmAt found (demo_name input) → StoresLayout found.held (demo_name input) l) → l ≡ demo_layout input n
    layout_is input l holds = stored_is input l (subst (λ (h : Option Contents). StoresLayout h (demo_name input) l) told (holds (calm_at input)))

    info_is : (input : DemoInput) (i : InputInfo) → i.name ≡ demo_name input → IsReadAt found i → i ≡ demo_info input n
    info_is input i called was =
        let l : i.layout ≡ demo_layout input n =
        layout_is input i.layout (subst (λ (x : List ℕ). AreCalmAt found x → StoresLayout found.held x i.layout) called was.held) in
        λ k. record { name = called k; layout = l k }

    inputs_are : (is : List InputInfo) → names_of is ≡ names_in demo_expression → All (IsReadAt found) is → is ≡ demo_inputs n
    inputs_are is names was =
        let (i, j, both, first, second) = two_of is (codes "demo_a") (codes "demo_b") names in
        let all : All (IsReadAt found) (i ∷ j ∷ []) = subst (All (IsReadAt found)) both was in
        let a = info_is Rows i first (All-head (IsReadAt found) i (j ∷ []) all) in
        let b = info_is Columns j second (All-head (IsReadAt found) j [] (All-tail (IsReadAt found) i (j ∷ []) all)) in
        both ∙ (λ k. a k ∷ b k ∷ [])

    pub only_job : (job : Job) → IsJob found demo_text job → IsDemoJob n job
    only_job job is =
        let expr : job.expr ≡ demo_expression = ok_expression (expression_of demo_text) job.expr demo_expression is.said demo_said in
        let inputs = inputs_are job.inputs.items (is.names ∙ ap names_in expr) is.inputs in
        let types : typed (demo_inputs n) job.expr ≡ Ok job.types = ap (λ (x : List InputInfo). typed x job.expr) (sym inputs) ∙ is.types in
        record {
          said = is.said;
          compact = is.compact;
          expr = expr;
          inputs = inputs;
          types = types;
          result = demo_number n some few job.types (ap (typed (demo_inputs n)) (sym expr) ∙ types);
        }

-- ---- the way is clear

-- the laws of a plan of the demonstration
pub record DemoLaws (options : Options) : Type 0 where
  pub sound : (job : Job) → HasPlan options job → Sound (job_plan options job)
  pub names : (job : Job) → HasPlan options job → HasNoOwnInput job.expr → HasPlanNames (run_of_job options job) job.expr.store_as (record_text options job) (out_metadata job)
  pub only : (job : Job) → HasPlan options job → OnlyInputs options job

module _ (options : Options) (n : ℕ) (some : 1 ≤ n) (few : n ≤ 2048) (read_back : ReadBack) (rows : IsArrayLayout (demo_layout Rows n)) (columns : IsArrayLayout (demo_layout Columns n))
    (laws : DemoLaws options) (old start : Shown) (both : Stepped (InputsPut n) old start) (stores : AreInputsCalm n old.late → StoresDemoInputs n start.held)
    (quiet : WhereTold old.held (IsDemoCalm options n old)) where
  abbrev pub found : Shown
  found = found_of old start

  told_calm : (a b : Option Contents) → a ≡ old.held → b ≡ start.held → WhereTold a (IsDemoCalm options n old) → WhereTold (overlay_held a b) (StoresDemoInputs n (overlay_held a b))
  told_calm None b is now calm = tt
  told_calm (Some a) None is now calm = tt
  told_calm (Some a) (Some b) is now calm = stores_found n old start both (Some a) (Some b) (subst (StoresDemoInputs n) (sym now) (stores calm.inputs))

  found_stored : WhereTold found.held (StoresDemoInputs n found.held)
  found_stored = told_calm old.held start.held refl refl quiet

  free_at : (was now : Contents) (key : List ℕ) → is_inputs key ≡ false → was key ≡ None → overlay was now key ≡ None
  free_at was now key is free = overlay_false was now key is ∙ free

  module _ (job : Job) (is : IsDemoJob n job) (planned : HasPlan options job) (own : HasNoOwnInput job.expr)
      (free : (entry : Contents) → old.held ≡ Some entry → All (IsFree entry) (asked_keys options job)) where
    name : job.expr.store_as ≡ codes "demo_y"
    name = ap (λ (e : Expression). e.store_as) is.expr

    found_free : (a b : Option Contents) (entry : Contents) → a ≡ old.held → overlay_held a b ≡ Some entry → All (IsFree entry) (asked_keys options job)
    found_free None b entry was told = absurd (untold_held entry told)
    found_free (Some a) None entry was told = absurd (untold_held entry told)
    found_free (Some a) (Some b) entry was told =
        let same : overlay a b ≡ entry = same_held (overlay a b) entry told in
        subst (λ (h : Contents). All (IsFree h) (asked_keys options job)) same
        (all_free a b (free a (sym was)))
      where
        all_free : (a b : Contents) → All (IsFree a) (asked_keys options job) → All (IsFree (overlay a b)) (asked_keys options job)
        all_free a b frees k d below =
            free_at a b (get_or (asked_keys options job) k d) (listed_apart options job name (laws.sound job planned) (laws.names job planned own) (get_or (asked_keys options job) k d)
            (Contains-get_or (asked_keys options job) k d below)) (frees k d below)

    pub found_cleared : IsCleared options demo_text found start job
    found_cleared = record {
      accepted = demo_accepted options n some few read_back rows columns found found_stored job is;
      planned = planned;
      own = own;
      free = λ entry told. found_free old.held start.held entry refl told;
      spared = spared n old start both;
    }

  -- ---- nothing wrong is late

  found_quiet : (held : Contents) (job : Job) → HasPlan options job → IsDemoJob n job → AreInputsCalm n old.late → StoresDemoInputs n (Some held)
      → IsQuiet (run_of_job options job) (stored_inputs (job_plan options job).arrays held) held old.late
      → HasNoOwnInput job.expr → IsQuiet (run_of_job options job) (stored_inputs (job_plan options job).arrays held) held (old.late ++ start.late)
  found_quiet held job planned is calm stored quiet own = record {
    pieces = λ q bytes piece among. elim (among_cases old.late start.late (piece_key (run_of_job options job) q) bytes among) [
      | inl first ↦ quiet.pieces q bytes piece first
      | inr second ↦ piece_late q bytes piece (both.step.late (piece_key (run_of_job options job) q) bytes second)
    ];
    inputs = λ k bytes input among. elim (among_cases old.late start.late (key_of (job_plan options job).arrays k) bytes among) [
      | inl first ↦ quiet.inputs k bytes input first
      | inr second ↦ input_late k bytes input (both.step.late (key_of (job_plan options job).arrays k) bytes second)
    ];
  }
    where
      piece_late : (q : Piece) (bytes : List ℕ) → IsPiece (run_of_job options job) q → OrLate (InputsPut n) old.late (piece_key (run_of_job options job) q) (Some bytes)
          → piece_value (run_of_job options job) (stored_inputs (job_plan options job).arrays held) q ≡ Some bytes
      piece_late q bytes piece (inl put) =
          absurd (true≢false (sym (put_key n (piece_key (run_of_job options job) q) (Some bytes) put)
          ∙ piece_apart options job (ap (λ (e : Expression). e.store_as) is.expr) (laws.sound job planned) (laws.names job planned own) q piece))
      piece_late q bytes piece (inr (other, same, among)) = quiet.pieces q other piece among ∙ sym same

      input_late : (k : Cell) (bytes : List ℕ) → IsInputChunk (job_plan options job).arrays k → OrLate (InputsPut n) old.late (key_of (job_plan options job).arrays k) (Some bytes)
          → held (key_of (job_plan options job).arrays k) ≡ Some bytes
      input_late k bytes input (inl put) = held_input n held (key_of (job_plan options job).arrays k) bytes stored put
      input_late k bytes input (inr (other, same, among)) = quiet.inputs k other input among ∙ sym same

  settled_in : (held : Contents) → AreInputsCalm n old.late → StoresDemoInputs n (Some held) → (input : DemoInput) (bytes : List ℕ)
      → IsAmong (old.late ++ start.late) (metadata_key_of (demo_name input)) bytes → held (metadata_key_of (demo_name input)) ≡ Some bytes
  settled_in held calm stored input bytes among = elim (among_cases old.late start.late (metadata_key_of (demo_name input)) bytes among) [
    | inl first ↦ held_input n held (metadata_key_of (demo_name input)) bytes stored (was_late input bytes first)
    | inr second ↦ then_late input bytes (both.step.late (metadata_key_of (demo_name input)) bytes second)
  ]
    where
      was_late : (input : DemoInput) (bytes : List ℕ) → IsAmong old.late (metadata_key_of (demo_name input)) bytes → InputsPut n (metadata_key_of (demo_name input)) (Some bytes)
      was_late Rows bytes first = inl (calm.0 (metadata_key_of (demo_name Rows)) bytes first (inl refl))
      was_late Columns bytes first = inr (calm.1 (metadata_key_of (demo_name Columns)) bytes first (inl refl))

      then_late : (input : DemoInput) (bytes : List ℕ) → OrLate (InputsPut n) old.late (metadata_key_of (demo_name input)) (Some bytes) → held (metadata_key_of (demo_name input)) ≡ Some bytes
      then_late input bytes (inl put) = held_input n held (metadata_key_of (demo_name input)) bytes stored put
      then_late input bytes (inr (other, same, first)) = held_input n held (metadata_key_of (demo_name input)) other stored (was_late input other first) ∙ sym same

  hides_none : HidesNone old.late → HidesNone (old.late ++ start.late)
  hides_none hidden input bytes among = elim (among_cases old.late start.late (zarray_key_of (demo_name input)) bytes among) [
    | inl first ↦ hidden input bytes first
    | inr second ↦ not_later (both.step.late (zarray_key_of (demo_name input)) bytes second)
  ]
    where
      not_later : OrLate (InputsPut n) old.late (zarray_key_of (demo_name input)) (Some bytes) → ⊥
      not_later (inl put) = no_zarray_put input n (Some bytes) put
      not_later (inr (other, same, first)) = hidden input other first

  -- the run has no other job, and no other inputs
  job_of : (a b : Contents) → ◌≡◌ {A = Option Contents} (Some a) old.held → ◌≡◌ {A = Option Contents} (Some b) start.held → (job : Job) → IsJob found demo_text job
      → IsDemoCalm options n old × StoresDemoInputs n (Some (overlay a b)) × IsDemoJob n job
  job_of a b was now job is =
      let calm : IsDemoCalm options n old = subst (λ (h : Option Contents). WhereTold h (IsDemoCalm options n old)) (sym was) quiet in
      let stored : StoresDemoInputs n (Some (overlay a b)) = told_calm (Some a) (Some b) was now calm in
      let told : found.held ≡ Some (overlay a b) = λ i. overlay_held (sym was i) (sym now i) in (
        calm,
        stored,
        only_job options n some few read_back rows columns found found_stored (overlay a b) told stored (settled_in (overlay a b) calm.inputs stored) (hides_none calm.hidden) job is,
      )

  calm_of : (a b : Option Contents) → a ≡ old.held → b ≡ start.held → (job : Job) → IsJob found demo_text job → HasPlan options job
      → IsCalmFor (run_of_job options job) (overlay_held a b) (old.late ++ start.late)
  calm_of None b was now job is planned = tt
  calm_of (Some a) None was now job is planned = tt
  calm_of (Some a) (Some b) was now job is planned =
      let (calm, stored, demo) = job_of a b was now job is in
      let own : HasNoOwnInput job.expr = subst HasNoOwnInput (sym demo.expr) refl in
      found_quiet (overlay a b) job planned demo calm.inputs stored (calm.plan (overlay a b) job stored demo planned) own

  pub found_calm : IsCalm options demo_text found
  found_calm job is planned = calm_of old.held start.held refl refl job is planned

  -- each chunk of an input that it finds is whole
  whole_of : (a b : Option Contents) → a ≡ old.held → b ≡ start.held → (entry : Contents) → overlay_held a b ≡ Some entry → (job : Job) → IsJob found demo_text job → HasPlan options job
      → AreWhole (job_plan options job) entry
  whole_of None b was now entry told job is planned = absurd (untold_held entry told)
  whole_of (Some a) None was now entry told job is planned = absurd (untold_held entry told)
  whole_of (Some a) (Some b) was now entry told job is planned =
      let (calm, stored, demo) = job_of a b was now job is in
      subst (AreWhole (job_plan options job)) (same_held (overlay a b) entry told) (demo_whole options n job demo (laws.only job planned) (overlay a b) stored)

  pub found_whole : (entry : Contents) → found.held ≡ Some entry → (job : Job) → IsJob found demo_text job → HasPlan options job → AreWhole (job_plan options job) entry
  found_whole entry told job is planned = whole_of old.held start.held refl refl entry told job is planned
