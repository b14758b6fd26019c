-- The small store and its text meet the premises.
use Rattle.std.proofs.Common.{◌≡◌, ℕ, zero, suc, ◌<◌, ◌^◌, Bool, true, false, List, [], ◌∷◌, length, All, bytes_eq, Option, Some, None, Ok, if◌then◌else◌, refl, sym, ap, ◌∙◌, subst, inl, inr, codes, true≢false, arith}
use Rattle.std.specs.Fmt.{digits}
use Rattle.std.specs.Int.Signed.{le_z_yes}
use Rattle.std.specs.Str.{is_utf8, chars}
use Rattle.std.proofs.lemmas.List.Elements.{All-nil, All-cons}
use Rattle.std.proofs.lemmas.Slice.Eq.{bytes_eq-Decides}
use Rattle.serde_json.proofs.OnLiterals.{serde_json_on_literals}
use Rattle.cu_num.specs.declared.types.Dtype.TheVariants.{Int16}
use Rattle.cu_codec.proofs.KeyLaws.{chunk_not_metadata}
use Rattle.cu_expr.specs.Typing.{typed}
use Rattle.cu_expr.specs.declared.inputs.InputInfo.{InputInfo}
use Rattle.cu_form.specs.Expression.{Expression}
use Rattle.cu_form.specs.declared.args.Arg.{Arg}
use Rattle.cu_form.specs.declared.form.Form.{Form}
use Rattle.cu_grid.specs.Grid.{IsCoordinate}
use Rattle.cu_node.specs.Info.{info_of}
use Rattle.cu_node.specs.declared.info.NodeInfo.{NodeInfo}
use Rattle.cu_name.specs.Keys.{record_key_of}
use Rattle.cu_op.specs.Arrays.{array_at, chunk_room, grid_at, maker_at}
use Rattle.cu_op.specs.Layout.{layout_view}
use Rattle.cu_op.specs.PlanView.{PlanView}
use Rattle.cu_op.specs.Schedule.{key_of}
use Rattle.cu_op.specs.declared.cells.Cell.{Cell}
use Rattle.cu_op.specs.declared.layout.ArrayInfo.{ArrayInfo}
use Rattle.cu_plan.specs.Plan.{merged_plan_of}
use Rattle.cu_plan.specs.Refusal.{refusal_of}
use Rattle.cu_read.specs.Read.{expression_of}
use Rattle.cu_store.specs.Held.{IsAmong}
use Rattle.cu_region.specs.Steady.{IsSteady}
use Rattle.cu_zarr.specs.Key.{chunk_key_of, metadata_key_of, zarray_key_of}
use Rattle.cu_meta.proofs.MetaLaw.{read_back}
use Rattle.cu_meta_members.specs.Storable.{IsStorable}
use Rattle.cu_command.proofs.JobLemmas.{inputs_read}
use Rattle.cu_command.specs.Inputs.{names_in, AreCalmAt, IsCalmAt}
use Rattle.cu_command.specs.Job.{IsJob, IsTypable}
use Rattle.cu_command.specs.Stored.{StoresLayout}
use Rattle.cu_command.specs.declared.job.Job.{Job}
use Rattle.cu_lower.specs.Parts.{made_layout}
use Rattle.cu_run_law.specs.Pieces.{IsInputChunk}
use Rattle.cu_work.specs.Order.{IsFree, plan_keys}
use Rattle.cu_top.specs.Complete.{AreWhole, IsAtRest, IsBeginnable, IsPlannable, IsServable, IsWayFree}
use Rattle.cu_top.specs.Prepare.{asked_keys, is_own_input, job_plan}
use Rattle.cu_top.specs.Sample.{sample_options, sample_with, shown_of_sample, sample_input, sample_layout, sample_metadata, sample_chunk, sample_held, sample_shown, sample_late, sample_text, sample_run, sample_begin, sample_plan}
use Rattle.cu_words.specs.Words.{line_given}
use Rattle.cu_top.specs.Words.{command_of, begin, plan, run}

abbrev pub copied : Expression
copied = record { nodes = record { name = codes "x"; form = Form.Input (codes "x") } ∷ record { name = codes "t"; form = Form.Rechunk (Arg.Node 0 ∷ []) (3 ∷ []) } ∷ []; out = 1; store_as = codes "y" }

abbrev pub infos : List NodeInfo
infos = info_of Int16 (7 ∷ []) (5 ∷ []) ∷ info_of Int16 (7 ∷ []) (3 ∷ []) ∷ []

abbrev pub inputs : List InputInfo
inputs = sample_input ∷ []

pub said : expression_of sample_text ≡ Ok copied
unfolding expression_of sample_text serde_json_on_literals is_utf8 chars
said = refl

pub has_types : typed inputs copied ≡ Ok infos
has_types = refl

pub has_plan : refusal_of sample_options copied infos ≡ None
has_plan = refl

pub run_given : command_of sample_run ≡ Ok (run sample_options)
unfolding command_of line_given
run_given = refl

pub begin_given : command_of sample_begin ≡ Ok (begin sample_options)
unfolding command_of line_given
begin_given = refl

pub plan_given : command_of sample_plan ≡ Ok (plan sample_options)
unfolding command_of line_given
plan_given = refl

-- ---- the metadata is held, and no other is late

storable : IsStorable (layout_view sample_layout)
storable = record { axes = omega arith; grid = refl; fill = (le_z_yes tt, le_z_yes tt); endian = λ one. refl }

-- texts that differ where they are compared aren't one
pub apart : (a b : List ℕ) → bytes_eq a b ≡ false → a ≡ b → ⊥
apart a b differ same = true≢false (sym ((bytes_eq-Decides a b).1 same) ∙ differ)

module _ (recorded : Option (List ℕ)) where
  holds : StoresLayout (Some (sample_with recorded)) (codes "x") sample_layout
  holds = inl (
    sample_metadata,
    refl,
    record {
      grid = record { ranks = refl; short = omega arith; positive = All-cons (λ c. 0 < c) 5 [] (omega arith) (All-nil (λ c. 0 < c)); elements = omega arith; chunk_elements = omega arith };
      reads = read_back (layout_view sample_layout) storable;
    },
  )

  calm_written : IsCalmAt (shown_of_sample recorded) (codes "x/zarr.json")
  calm_written bytes (inl (key, same)) = absurd (apart (codes "x/zarr.json") (codes "x/c/0") refl key)
  calm_written bytes (inr none) = absurd none

  calm_zarray : IsCalmAt (shown_of_sample recorded) (codes "x/.zarray")
  calm_zarray bytes (inl (key, same)) = absurd (apart (codes "x/.zarray") (codes "x/c/0") refl key)
  calm_zarray bytes (inr none) = absurd none

  pub held_all : All (λ (i : InputInfo). StoresLayout (Some (sample_with recorded)) i.name i.layout) inputs
  held_all = All-cons (λ (i : InputInfo). StoresLayout (Some (sample_with recorded)) i.name i.layout) sample_input [] holds (All-nil (λ (i : InputInfo). StoresLayout (Some (sample_with recorded)) i.name i.layout))

  pub calm_all : All (λ (i : InputInfo). AreCalmAt (shown_of_sample recorded) i.name) inputs
  calm_all = All-cons (λ (i : InputInfo). AreCalmAt (shown_of_sample recorded) i.name) sample_input [] (calm_written, calm_zarray) (All-nil (λ (i : InputInfo). AreCalmAt (shown_of_sample recorded) i.name))

  pub typable : IsTypable (shown_of_sample recorded) sample_text
  typable = record {
    contents = sample_with recorded;
    told = refl;
    expr = copied;
    said = said;
    inputs = inputs;
    names = refl;
    held = held_all;
    calm = calm_all;
    types = infos;
    accepted = has_types;
  }

-- ---- the plan

abbrev pub copy_plan : PlanView
copy_plan = merged_plan_of copied infos inputs sample_options

keys_are : plan_keys copy_plan (length copy_plan.ops) ≡ codes "y/c/0" ∷ codes "y/c/1" ∷ codes "y/c/2" ∷ []
unfolding merged_plan_of digits
keys_are = refl

abbrev pub copy_arrays : List ArrayInfo
copy_arrays =
    record { prefix = codes "x"; layout = sample_layout; maker = None; inlined = false }
    ∷ record { prefix = codes "y"; layout = made_layout (info_of Int16 (7 ∷ []) (3 ∷ [])); maker = Some 0; inlined = false } ∷ []

pub arrays_are : copy_plan.arrays ≡ copy_arrays
unfolding merged_plan_of
arrays_are = refl

-- ---- nothing is held under a key of the plan, and none is late

not_late : (key : List ℕ) → (key ≡ codes "x/c/0" → ⊥) → (bytes : List ℕ) → IsAmong sample_late key bytes → ⊥
not_late key other bytes (inl (is, same)) = other is
not_late key other bytes (inr none) = absurd none

abbrev pub IsSettled : List ℕ → Type 0
IsSettled key = (bytes : List ℕ) → IsAmong sample_late key bytes → ⊥

settled_at : (key : List ℕ) → bytes_eq key (codes "x/c/0") ≡ false → IsSettled key
settled_at key differ = not_late key (apart key (codes "x/c/0") differ)

abbrev pub six_keys : List (List ℕ)
six_keys = codes "_cubed/y/plan.json" ∷ codes "y/zarr.json" ∷ codes "y/.zarray" ∷ codes "y/c/0" ∷ codes "y/c/1" ∷ codes "y/c/2" ∷ []

pub all_free : All (IsFree sample_held) six_keys
all_free =
    All-cons (IsFree sample_held) (codes "_cubed/y/plan.json") (codes "y/zarr.json" ∷ codes "y/.zarray" ∷ codes "y/c/0" ∷ codes "y/c/1" ∷ codes "y/c/2" ∷ []) refl
    (All-cons (IsFree sample_held) (codes "y/zarr.json") (codes "y/.zarray" ∷ codes "y/c/0" ∷ codes "y/c/1" ∷ codes "y/c/2" ∷ []) refl
    (All-cons (IsFree sample_held) (codes "y/.zarray") (codes "y/c/0" ∷ codes "y/c/1" ∷ codes "y/c/2" ∷ []) refl
    (All-cons (IsFree sample_held) (codes "y/c/0") (codes "y/c/1" ∷ codes "y/c/2" ∷ []) refl
    (All-cons (IsFree sample_held) (codes "y/c/1") (codes "y/c/2" ∷ []) refl
    (All-cons (IsFree sample_held) (codes "y/c/2") [] refl
    (All-nil (IsFree sample_held)))))))

pub all_settled : All IsSettled six_keys
all_settled =
    All-cons IsSettled (codes "_cubed/y/plan.json") (codes "y/zarr.json" ∷ codes "y/.zarray" ∷ codes "y/c/0" ∷ codes "y/c/1" ∷ codes "y/c/2" ∷ []) (settled_at (codes "_cubed/y/plan.json") refl)
    (All-cons IsSettled (codes "y/zarr.json") (codes "y/.zarray" ∷ codes "y/c/0" ∷ codes "y/c/1" ∷ codes "y/c/2" ∷ []) (settled_at (codes "y/zarr.json") refl)
    (All-cons IsSettled (codes "y/.zarray") (codes "y/c/0" ∷ codes "y/c/1" ∷ codes "y/c/2" ∷ []) (settled_at (codes "y/.zarray") refl)
    (All-cons IsSettled (codes "y/c/0") (codes "y/c/1" ∷ codes "y/c/2" ∷ []) (settled_at (codes "y/c/0") refl)
    (All-cons IsSettled (codes "y/c/1") (codes "y/c/2" ∷ []) (settled_at (codes "y/c/1") refl)
    (All-cons IsSettled (codes "y/c/2") [] (settled_at (codes "y/c/2") refl)
    (All-nil IsSettled))))))

-- ---- what is late carries what is held

pub held_chunk : (recorded : Option (List ℕ)) (key bytes : List ℕ) → IsAmong sample_late key bytes → sample_with recorded key ≡ Some bytes
held_chunk recorded key bytes (inl (is, same)) = subst (λ (k : List ℕ). sample_with recorded k ≡ Some bytes) (sym is) (ap (λ (b : List ℕ). Some b) (sym same))
held_chunk recorded key bytes (inr none) = absurd none

pub steady : (K : List ℕ → Type 0) → IsSteady K (Some sample_held) sample_late
steady K key bytes here among = held_chunk None key bytes among

-- ---- each chunk of the input is absent or whole

a_chunk : (first second third : Bool) (recorded : Option (List ℕ)) (bytes : List ℕ) → first ≡ false → third ≡ false
    → (if first then Some sample_metadata else if second then Some sample_chunk else if third then recorded else None) ≡ Some bytes → length bytes ≡ 10
a_chunk true second third recorded bytes other last is = cc
a_chunk false true third recorded bytes other last is = let same : sample_chunk ≡ bytes = cc in sym (ap length same)
a_chunk false false true recorded bytes other last is = cc
a_chunk false false false recorded bytes other last is = cc

no_metadata : (key other : List ℕ) (test : Bool) → (key ≡ other → ⊥) → bytes_eq key other ≡ test → test ≡ false
no_metadata key other true apart same = absurd (apart ((bytes_eq-Decides key other).0 same))
no_metadata key other false apart same = refl

small : (i : ℕ) → i < 2 → All (λ j. j < 2 ^ 64) (i ∷ [])
small i below = All-cons (λ j. j < 2 ^ 64) i [] (omega arith) (All-nil (λ j. j < 2 ^ 64))

pub no_maker : ◌≡◌ {A = Option ℕ} (Some 0) None → ⊥
no_maker e = cc

module _ (recorded : Option (List ℕ)) where
  pub whole_at : (coord bytes : List ℕ) → IsCoordinate sample_layout.grid coord → sample_with recorded (chunk_key_of (codes "x") sample_layout.encoding coord) ≡ Some bytes → length bytes ≡ 10
  whole_at [] bytes inside is = absurd inside
  whole_at (i ∷ []) bytes inside is =
      let differ = chunk_not_metadata (codes "x") sample_layout.encoding (i ∷ []) (small i inside.0) in
      a_chunk (bytes_eq (chunk_key_of (codes "x") sample_layout.encoding (i ∷ [])) (codes "x/zarr.json")) (bytes_eq (chunk_key_of (codes "x") sample_layout.encoding (i ∷ [])) (codes "x/c/0"))
      (bytes_eq (chunk_key_of (codes "x") sample_layout.encoding (i ∷ [])) (codes "_cubed/y/plan.json")) recorded bytes
      (no_metadata (chunk_key_of (codes "x") sample_layout.encoding (i ∷ [])) (codes "x/zarr.json") (bytes_eq (chunk_key_of (codes "x") sample_layout.encoding (i ∷ [])) (codes "x/zarr.json")) differ refl) refl is
  whole_at (i ∷ j ∷ rest) bytes inside is = absurd inside.1

  whole_in : (a : ℕ) (coord bytes : List ℕ) → a < 2 → maker_at copy_arrays a ≡ None → IsCoordinate (grid_at copy_arrays a) coord
      → sample_with recorded (chunk_key_of (array_at copy_arrays a).prefix (array_at copy_arrays a).layout.encoding coord) ≡ Some bytes → length bytes ≡ chunk_room copy_arrays a
  whole_in zero coord bytes below given inside is = whole_at coord bytes inside is
  whole_in (suc zero) coord bytes below given inside is = absurd (no_maker given)
  whole_in (suc (suc n)) coord bytes below given inside is = absurd (omega (arith, below))

  whole : (k : Cell) (bytes : List ℕ) → IsInputChunk copy_arrays k → sample_with recorded (key_of copy_arrays k) ≡ Some bytes → length bytes ≡ chunk_room copy_arrays k.array
  whole k bytes input is = whole_in k.array k.coord bytes input.within input.given input.coordinate is

-- ---- the job of the text

same_expression : (e f : Expression) → expression_of sample_text ≡ Ok e → expression_of sample_text ≡ Ok f → e ≡ f
same_expression e f one other = cc

same_types : (a b : List NodeInfo) → typed inputs copied ≡ Ok a → typed inputs copied ≡ Ok b → a ≡ b
same_types a b one other = cc

module _ (recorded : Option (List ℕ)) (job : Job) (is : IsJob (shown_of_sample recorded) sample_text job) where
  pub expr_is : job.expr ≡ copied
  expr_is = same_expression job.expr copied is.said said

  pub inputs_are : job.inputs.items ≡ inputs
  inputs_are = sym (inputs_read (shown_of_sample recorded) (sample_with recorded) inputs job.inputs.items refl (sym (is.names ∙ ap names_in expr_is)) (held_all recorded) (calm_all recorded) is.inputs)

  pub types_are : job.types ≡ infos
  types_are =
      same_types job.types infos
      (subst (λ (e : Expression). typed inputs e ≡ Ok job.types) expr_is (subst (λ (is : List InputInfo). typed is job.expr ≡ Ok job.types) inputs_are is.types)) has_types

  pub plan_is : job_plan sample_options job ≡ copy_plan
  plan_is =
      ap (λ (e : Expression). merged_plan_of e job.types job.inputs.items sample_options) expr_is ∙ ap (λ (ts : List NodeInfo). merged_plan_of copied ts job.inputs.items sample_options) types_are
      ∙ ap (λ (is : List InputInfo). merged_plan_of copied infos is sample_options) inputs_are

  pub asked_are : asked_keys sample_options job ≡ six_keys
  asked_are =
      ap (λ (e : Expression). record_key_of e.store_as ∷ metadata_key_of e.store_as ∷ zarray_key_of e.store_as ∷ plan_keys (job_plan sample_options job) (length (job_plan sample_options job).ops)) expr_is
      ∙ ap (λ (p : PlanView). record_key_of (codes "y") ∷ metadata_key_of (codes "y") ∷ zarray_key_of (codes "y") ∷ plan_keys p (length p.ops)) plan_is
      ∙ ap (λ (ks : List (List ℕ)). record_key_of (codes "y") ∷ metadata_key_of (codes "y") ∷ zarray_key_of (codes "y") ∷ ks) keys_are

  pub planned : refusal_of sample_options job.expr job.types ≡ None
  planned = subst (λ (e : Expression). refusal_of sample_options e job.types ≡ None) (sym expr_is) (subst (λ (ts : List NodeInfo). refusal_of sample_options copied ts ≡ None) (sym types_are) has_plan)

  pub whole_plan : AreWhole (job_plan sample_options job) (sample_with recorded)
  whole_plan k bytes =
      let arrays : (job_plan sample_options job).arrays ≡ copy_arrays = ap (λ (p : PlanView). p.arrays) plan_is ∙ arrays_are in
      subst (λ (xs : List ArrayInfo). IsInputChunk xs k → sample_with recorded (key_of xs k) ≡ Some bytes → length bytes ≡ chunk_room xs k.array) (sym arrays) (whole recorded k bytes)

module _ (job : Job) (is : IsJob sample_shown sample_text job) where
  way_free : IsWayFree sample_options job sample_held sample_shown
  way_free = record {
    planned = planned None job is;
    own = subst (λ (e : Expression). is_own_input e ≡ false) (sym (expr_is None job is)) refl;
    free = subst (All (IsFree sample_held)) (sym (asked_are None job is)) all_free;
    settled = subst (All IsSettled) (sym (asked_are None job is)) all_settled;
  }

  at_rest : IsAtRest sample_options job sample_held sample_shown
  at_rest = record {
    way = way_free;
    calm = λ key bytes among input. held_chunk None key bytes among;
    whole = whole_plan None job is;
  }

pub servable : IsServable sample_options sample_text sample_held sample_shown
servable = record { typable = typable None; rest = at_rest }

pub beginnable : IsBeginnable sample_options sample_text sample_held sample_shown
beginnable = record { typable = typable None; way = way_free }

pub plannable : IsPlannable sample_options sample_text sample_shown
plannable = record { typable = typable None; planned = planned None }
