-- A run of the small store's copy goes on from its record.
use Rattle.std.proofs.Common.{◌≡◌, inl, inr, ◌⊎◌, ℕ, zero, suc, ◌<◌, Bool, true, false, List, [], ◌∷◌, All, Option, Some, None, Ok, bytes_eq, if◌then◌else◌, refl, sym, ap, ◌∙◌, subst, codes, arith}
use Rattle.std.specs.Prelude.{slice_get, string_bytes, unwrap_or}
use Rattle.std.specs.Int.Signed.{le_z_yes}
use Rattle.std.proofs.lemmas.List.Elements.{All-nil, All-cons, All-contains}
use Rattle.std.proofs.lemmas.Slice.Eq.{bytes_eq-Decides}
use Rattle.cu_command.specs.Job.{IsJob}
use Rattle.cu_command.specs.Seen.{stream}
use Rattle.cu_command.specs.declared.job.Job.{Job}
use Rattle.cu_expr.specs.declared.inputs.InputInfo.{InputInfo}
use Rattle.cu_form.specs.Expression.{Expression, HaveShortIndices, IdsDiffer, IsExpression, IsNode}
use Rattle.cu_form.specs.Form.{HasShortIndex}
use Rattle.cu_form.specs.declared.args.Arg.{Arg}
use Rattle.cu_form.specs.declared.expr.Node.{Node}
use Rattle.cu_form.specs.declared.form.Form.{Form}
use Rattle.cu_lower.specs.Premises.{IsLowerable, OutputDiffers, expression_run as plan_run}
use Rattle.cu_lower.specs.declared.options.Options.{Options}
use Rattle.cu_name.specs.Keys.{record_key_of}
use Rattle.cu_node.specs.Info.{IsInfo, info_of}
use Rattle.cu_node.specs.declared.info.NodeInfo.{NodeInfo}
use Rattle.cu_num.specs.declared.types.Dtype.TheVariants.{Int16}
use Rattle.cu_op.specs.Layout.{IsLayout}
use Rattle.cu_op.specs.Sound.{Sound}
use Rattle.cu_op.specs.Elements.{Elements}
use Rattle.cu_op.specs.Value.{stored_inputs}
use Rattle.cu_plan.specs.Plan.{merged_plan_of}
use Rattle.cu_read.specs.Read.{compact_of}
use Rattle.cu_run_law.proofs.Keeping.{left_kept}
use Rattle.cu_run_law.proofs.PlanNames.{keys_apart}
use Rattle.cu_run_law.specs.Left.{IsLeft}
use Rattle.cu_run_law.specs.Names.{HasPlanNames}
use Rattle.cu_run_law.specs.Pieces.{KeysApart, Piece, PieceChange, PlanRun, Text, IsPiece, piece_key}
use Rattle.cu_store.specs.Held.{Contents}
use Rattle.cu_store.specs.Steps.{OrLate, Steps}
use Rattle.cu_work.proofs.Running.{left_stored}
use Rattle.cu_work.specs.Order.{IsFree}
use Rattle.cu_top.proofs.DriveLemmas.{LeftLaw, some_held}
use Rattle.cu_top.proofs.PlanLemmas.{differs}
use Rattle.cu_top.proofs.RunLemmas.{piece_listed}
use Rattle.cu_top.proofs.SampleLemmas.{IsSettled, all_free, all_settled, apart, asked_are, copied, expr_is, has_types, held_chunk, infos, inputs, inputs_are, planned, types_are, typable, whole_plan}
use Rattle.cu_top.specs.Complete.{HasWholeInputs, IsResumable}
use Rattle.cu_top.specs.Prepare.{HasNoOwnInput, HasPlan, asked_keys, is_own_input, out_metadata}
use Rattle.cu_top.specs.Quiet.{run_of_job}
use Rattle.cu_top.specs.Record.{inputs_text, assembled, record_text}
use Rattle.cu_top.specs.Run.{RunCase, case, scene}
use Rattle.cu_top.specs.Sample.{left_held, left_shown, sample_chunk, sample_held, sample_input, sample_late, sample_metadata, sample_options, sample_record, sample_resume, sample_shown, sample_text}
use Rattle.cu_top.specs.Words.{command_of, resume}
use Rattle.cu_words.specs.Words.{line_given}

pub resume_given : command_of sample_resume ≡ Ok (resume sample_options)
unfolding command_of line_given
resume_given = refl

-- ---- the expression has a plan

abbrev read_node : Node
read_node = record { name = codes "x"; form = Form.Input (codes "x") }

abbrev copy_node : Node
copy_node = record { name = codes "t"; form = Form.Rechunk (Arg.Node 0 ∷ []) (3 ∷ []) }

some_node : (a b : Node) → ◌≡◌ {A = Option Node} (Some a) (Some b) → a ≡ b
some_node a b e = cc

no_node : (b : Node) → ◌≡◌ {A = Option Node} None (Some b) → ⊥
no_node b e = cc

nodes_are : (k : ℕ) (node : Node) → slice_get copied.nodes k ≡ Some node → IsNode k node
nodes_are zero node e = subst (IsNode 0) (some_node read_node node e) (record { name = refl; form = record { args = refl; earlier = refl; ranges = refl } })
nodes_are (suc zero) node e = subst (IsNode 1) (some_node copy_node node e) (record { name = refl; form = record { args = refl; earlier = refl; ranges = refl } })
nodes_are (suc (suc k)) node e = absurd (no_node node e)

indices_are : HaveShortIndices copied.nodes
indices_are zero node e = subst (λ (n : Node). HasShortIndex n.form) (some_node read_node node e) tt
indices_are (suc zero) node e = subst (λ (n : Node). HasShortIndex n.form) (some_node copy_node node e) tt
indices_are (suc (suc k)) node e = absurd (no_node node e)

names_differ : (m n : Node) → read_node ≡ m → copy_node ≡ n → m.name ≡ n.name → ⊥
names_differ m n is that same = apart (codes "x") (codes "t") refl (ap (λ (o : Node). o.name) is ∙ same ∙ sym (ap (λ (o : Node). o.name) that))

ids_differ : IdsDiffer copied.nodes
ids_differ zero zero m n e f same = refl
ids_differ zero (suc zero) m n e f same = absurd (names_differ m n (some_node read_node m e) (some_node copy_node n f) same)
ids_differ (suc zero) zero m n e f same = absurd (names_differ n m (some_node read_node n f) (some_node copy_node m e) (sym same))
ids_differ (suc zero) (suc zero) m n e f same = refl
ids_differ (suc (suc j)) k m n e f same = absurd (no_node m e)
ids_differ zero (suc (suc k)) m n e f same = absurd (no_node n f)
ids_differ (suc zero) (suc (suc k)) m n e f same = absurd (no_node n f)

expression : IsExpression copied
expression = record { few = omega arith; nodes = nodes_are; ids = ids_differ; indices = indices_are; out = omega arith; store_as = refl }

one_axis : (c : ℕ) → 0 < c → All (λ (n : ℕ). 0 < n) (c ∷ [])
one_axis c some = All-cons (λ (n : ℕ). 0 < n) c [] some (All-nil (λ (n : ℕ). 0 < n))

read_info : IsInfo (info_of Int16 (7 ∷ []) (5 ∷ []))
read_info = record { ranks = refl; short = omega arith; positive = one_axis 5 (omega arith); elements = omega arith; chunks = omega arith; bytes = omega arith }

copy_info : IsInfo (info_of Int16 (7 ∷ []) (3 ∷ []))
copy_info = record { ranks = refl; short = omega arith; positive = one_axis 3 (omega arith); elements = omega arith; chunks = omega arith; bytes = omega arith }

pub lowerable : IsLowerable copied infos inputs sample_options
lowerable = record {
  form = expression;
  types = has_types;
  kept = All-cons IsInfo (info_of Int16 (7 ∷ []) (5 ∷ [])) (info_of Int16 (7 ∷ []) (3 ∷ []) ∷ []) read_info (All-cons IsInfo (info_of Int16 (7 ∷ []) (3 ∷ [])) [] copy_info (All-nil IsInfo));
  fills = All-cons (λ (i : InputInfo). IsLayout i.layout) sample_input [] (le_z_yes tt, le_z_yes tt) (All-nil (λ (i : InputInfo). IsLayout i.layout));
  memory = refl;
  counts = refl;
  allowed = omega arith;
  several = omega arith;
  few = omega arith;
}

-- ---- the laws of plans

abbrev pub SoundLaw : Type 0
SoundLaw = (e : Expression) (infos : List NodeInfo) (inputs : List InputInfo) (options : Options) → IsLowerable e infos inputs options → Sound (merged_plan_of e infos inputs options)

abbrev pub NamesLaw : Type 0
NamesLaw = (e : Expression) (infos : List NodeInfo) (inputs : List InputInfo) (options : Options) (recorded metadata : List ℕ) → IsLowerable e infos inputs options
    → OutputDiffers e → HasPlanNames (plan_run e (merged_plan_of e infos inputs options) recorded metadata) e.store_as recorded metadata

-- ---- the store, once the record is put

module _ (sounds : SoundLaw) (names : NamesLaw) (lefts : LeftLaw) (job : Job) (is : IsJob left_shown sample_text job) where
  abbrev r : PlanRun
  r = run_of_job sample_options job

  abbrev env : Elements
  env = stored_inputs r.plan.arrays sample_held

  abbrev c : RunCase
  c = case sample_options sample_text (scene (stream None 0) (stream None 0) left_shown) (scene (stream None 0) (stream None 0) left_shown)

  has_plan : HasPlan sample_options job
  has_plan =
      subst (λ (e : Expression). IsLowerable e job.types job.inputs.items sample_options) (sym (expr_is (Some sample_record) job is))
      (subst (λ (ts : List NodeInfo). IsLowerable copied ts job.inputs.items sample_options) (sym (types_are (Some sample_record) job is))
      (subst (λ (xs : List InputInfo). IsLowerable copied infos xs sample_options) (sym (inputs_are (Some sample_record) job is)) lowerable))

  own : HasNoOwnInput job.expr
  own = subst (λ (e : Expression). is_own_input e ≡ false) (sym (expr_is (Some sample_record) job is)) refl

  sound : Sound r.plan
  sound = sounds job.expr job.types job.inputs.items sample_options has_plan

  keys : KeysApart r
  keys =
      keys_apart r job.expr.store_as (record_text sample_options job) (out_metadata job) sound
      (names job.expr job.types job.inputs.items sample_options (record_text sample_options job) (out_metadata job) has_plan (differs job.expr own))

  -- no key of the plan is held without the record, and none is late
  free : (q : Piece) → IsPiece r q → sample_held (piece_key r q) ≡ None
  free q piece =
      All-contains (IsFree sample_held) (asked_keys sample_options job) (piece_key r q) (subst (All (IsFree sample_held)) (sym (asked_are (Some sample_record) job is)) all_free)
      (piece_listed c job q sound piece)

  settled : (q : Piece) → IsPiece r q → IsSettled (piece_key r q)
  settled q piece =
      All-contains IsSettled (asked_keys sample_options job) (piece_key r q) (subst (All IsSettled) (sym (asked_are (Some sample_record) job is)) all_settled) (piece_listed c job q sound piece)

  first : IsLeft r env sample_shown
  first =
      lefts r sample_shown sample_held sound keys refl free
      (record { pieces = λ q bytes piece among. absurd (settled q piece bytes among); inputs = λ k bytes chunk among. held_chunk None _ bytes among })

  -- the record is that of the job
  compact_is : string_bytes job.compact ≡ unwrap_or (compact_of sample_text) []
  compact_is = sym (ap (λ (o : Option (List ℕ)). unwrap_or o []) is.compact)

  record_is : record_text sample_options job ≡ sample_record
  unfolding record_text
  record_is =
      ap (λ (t : List ℕ). assembled sample_options t (inputs_text job.inputs.items)) compact_is
      ∙ ap (λ (xs : List InputInfo). assembled sample_options (unwrap_or (compact_of sample_text) []) (inputs_text xs)) (inputs_are (Some sample_record) job is)

  key_is : piece_key r (Text 0) ≡ codes "_cubed/y/plan.json"
  key_is = ap (λ (e : Expression). record_key_of e.store_as) (expr_is (Some sample_record) job is)

  put_at : (first second third : Bool) (key : List ℕ) → (third ≡ true → key ≡ codes "_cubed/y/plan.json")
      → ((if first then Some sample_metadata else if second then Some sample_chunk else if third then Some sample_record else None)
      ≡ (if first then Some sample_metadata else if second then Some sample_chunk else if third then None else None))
      ⊎ OrLate (PieceChange r env) sample_late key (if first then Some sample_metadata else if second then Some sample_chunk else if third then Some sample_record else None)
  put_at true second third key so = inl refl
  put_at false true third key so = inl refl
  put_at false false true key so = inr (inl (Text 0, sample_record, omega arith, so refl ∙ sym key_is, refl, ap (λ (t : List ℕ). Some t) record_is))
  put_at false false false key so = inl refl

  put : Steps (PieceChange r env) 0 0 sample_shown left_shown
  put = record {
    lands = λ key. put_at (bytes_eq key (codes "x/zarr.json")) (bytes_eq key (codes "x/c/0")) (bytes_eq key (codes "_cubed/y/plan.json")) key
        (λ e. (bytes_eq-Decides key (codes "_cubed/y/plan.json")).0 e);
    late = λ key bytes among. inr (bytes, refl, among);
    count = omega arith;
    calls = (omega arith, omega arith, omega arith);
    lacks = refl;
  }

  after : IsLeft r env left_shown
  after = left_kept r env sample_shown first 0 0 left_shown put

  now : IsLeft r (stored_inputs r.plan.arrays left_held) left_shown
  now = subst (λ (h : Contents). IsLeft r (stored_inputs r.plan.arrays h) left_shown) (some_held after.held left_held (sym after.told)) (left_stored r env left_shown after)

  held_record : left_held (record_key_of job.expr.store_as) ≡ Some (record_text sample_options job)
  held_record =
      subst (λ (e : Expression). left_held (record_key_of e.store_as) ≡ Some (record_text sample_options job)) (sym (expr_is (Some sample_record) job is))
      (ap (λ (t : List ℕ). Some t) (sym record_is))

-- so a run goes on there, and its input is whole
pub resumable : SoundLaw → NamesLaw → LeftLaw → IsResumable sample_options sample_text left_held left_shown
resumable sounds names lefts = record {
  typable = typable (Some sample_record);
  rest = λ job is. record {
    planned = planned (Some sample_record) job is;
    own = own sounds names lefts job is;
    left = now sounds names lefts job is;
    recorded = held_record sounds names lefts job is;
  };
}

pub resumed_whole : HasWholeInputs sample_options sample_text left_held left_shown
resumed_whole job is = whole_plan (Some sample_record) job is
