-- The small store meets the premises of a run with `--fusion 2`, whose plan makes an array where it is read.
use Rattle.std.proofs.Common.{◌≡◌, ℕ, zero, suc, ◌<◌, pos, true, false, List, [], ◌∷◌, length, All, codes, Option, Some, None, Ok, refl, sym, ap, ◌∙◌, subst, arith}
use Rattle.std.specs.Fmt.{digits}
use Rattle.std.specs.Str.{is_utf8, chars}
use Rattle.std.proofs.lemmas.List.Elements.{All-take}
use Rattle.serde_json.proofs.OnLiterals.{serde_json_on_literals}
use Rattle.cu_num.specs.declared.functions.Fn2.TheVariants.{Add}
use Rattle.cu_num.specs.declared.types.Dtype.TheVariants.{Int16}
use Rattle.cu_expr.specs.Typing.{typed}
use Rattle.cu_expr.specs.declared.inputs.InputInfo.{InputInfo}
use Rattle.cu_form.specs.Expression.{Expression}
use Rattle.cu_form.specs.declared.args.Arg.{Arg}
use Rattle.cu_form.specs.declared.form.Form.{Form}
use Rattle.cu_grid.specs.Grid.{IsCoordinate}
use Rattle.cu_name.specs.Keys.{made_prefix_of, record_key_of}
use Rattle.cu_node.specs.Info.{info_of}
use Rattle.cu_node.specs.declared.element_op.ElementOp.{ElementOp}
use Rattle.cu_node.specs.declared.info.NodeInfo.{NodeInfo}
use Rattle.cu_op.specs.Arrays.{array_at, chunk_room, grid_at, is_inlined, maker_at}
use Rattle.cu_op.specs.PlanView.{PlanView}
use Rattle.cu_op.specs.Schedule.{key_of}
use Rattle.cu_op.specs.declared.cells.Cell.{Cell}
use Rattle.cu_op.specs.declared.layout.ArrayInfo.{ArrayInfo}
use Rattle.cu_plan.specs.Plan.{merged_plan_of}
use Rattle.cu_plan.specs.Refusal.{refusal_of}
use Rattle.cu_read.specs.Read.{expression_of}
use Rattle.cu_zarr.specs.Key.{chunk_key_of, metadata_key_of, zarray_key_of}
use Rattle.cu_command.proofs.JobLemmas.{inputs_read}
use Rattle.cu_command.specs.Inputs.{names_in}
use Rattle.cu_command.specs.Job.{IsJob, IsTypable}
use Rattle.cu_command.specs.declared.job.Job.{Job}
use Rattle.cu_lower.specs.Parts.{made_layout}
use Rattle.cu_run_law.specs.Pieces.{IsInputChunk}
use Rattle.cu_work.specs.Order.{IsFree, plan_keys}
use Rattle.cu_words.specs.Words.{line_given}
use Rattle.cu_top.proofs.SampleLemmas.{IsSettled, all_free, all_settled, calm_all, held_all, held_chunk, inputs, no_maker, six_keys, whole_at}
use Rattle.cu_top.specs.Complete.{AreWhole, IsAtRest, IsServable, IsWayFree}
use Rattle.cu_top.specs.Prepare.{asked_keys, is_own_input, job_plan}
use Rattle.cu_top.specs.Sample.{fused_options, fused_run, fused_text, sample_held, sample_layout, sample_shown}
use Rattle.cu_top.specs.Words.{command_of, run}

abbrev flipped : Expression
flipped = record {
  nodes = record { name = codes "x"; form = Form.Input (codes "x") }
      ∷ record { name = codes "f"; form = Form.Flip (Arg.Node 0 ∷ []) None }
      ∷ record { name = codes "t"; form = Form.Elementwise (ElementOp.Two Add) (Arg.Node 1 ∷ Arg.Int (pos 1) ∷ []) } ∷ [];
  out = 2;
  store_as = codes "y";
}

abbrev infos : List NodeInfo
infos = info_of Int16 (7 ∷ []) (5 ∷ []) ∷ info_of Int16 (7 ∷ []) (5 ∷ []) ∷ info_of Int16 (7 ∷ []) (5 ∷ []) ∷ []

said : expression_of fused_text ≡ Ok flipped
unfolding expression_of fused_text serde_json_on_literals is_utf8 chars
said = refl

has_types : typed inputs flipped ≡ Ok infos
has_types = refl

has_plan : refusal_of fused_options flipped infos ≡ None
has_plan = refl

pub fused_given : command_of fused_run ≡ Ok (run fused_options)
unfolding command_of line_given
fused_given = refl

-- ---- the plan

abbrev fused_plan : PlanView
fused_plan = merged_plan_of flipped infos inputs fused_options

keys_are : plan_keys fused_plan (length fused_plan.ops) ≡ codes "y/c/0" ∷ codes "y/c/1" ∷ []
unfolding merged_plan_of digits
keys_are = refl

abbrev fused_arrays : List ArrayInfo
fused_arrays =
    record { prefix = codes "x"; layout = sample_layout; maker = None; inlined = false }
    ∷ record { prefix = made_prefix_of (codes "y") 0; layout = sample_layout; maker = Some 0; inlined = true }
    ∷ record { prefix = codes "y"; layout = sample_layout; maker = Some 1; inlined = false } ∷ []

arrays_are : fused_plan.arrays ≡ fused_arrays
unfolding merged_plan_of
arrays_are = refl

abbrev five_keys : List (List ℕ)
five_keys = codes "_cubed/y/plan.json" ∷ codes "y/zarr.json" ∷ codes "y/.zarray" ∷ codes "y/c/0" ∷ codes "y/c/1" ∷ []

five_free : All (IsFree sample_held) five_keys
five_free = All-take (IsFree sample_held) 5 six_keys all_free

five_settled : All IsSettled five_keys
five_settled = All-take IsSettled 5 six_keys all_settled

no_other_maker : (n : ℕ) → ◌≡◌ {A = Option ℕ} (Some n) None → ⊥
no_other_maker n e = cc

whole_in : (a : ℕ) (coord bytes : List ℕ) → a < 3 → maker_at fused_arrays a ≡ None → IsCoordinate (grid_at fused_arrays a) coord
    → sample_held (chunk_key_of (array_at fused_arrays a).prefix (array_at fused_arrays a).layout.encoding coord) ≡ Some bytes → length bytes ≡ chunk_room fused_arrays a
whole_in zero coord bytes below given inside is = whole_at None coord bytes inside is
whole_in (suc zero) coord bytes below given inside is = absurd (no_other_maker 0 given)
whole_in (suc (suc zero)) coord bytes below given inside is = absurd (no_other_maker 1 given)
whole_in (suc (suc (suc n))) coord bytes below given inside is = absurd (omega (arith, below))

whole : (k : Cell) (bytes : List ℕ) → IsInputChunk fused_arrays k → sample_held (key_of fused_arrays k) ≡ Some bytes → length bytes ≡ chunk_room fused_arrays k.array
whole k bytes input is = whole_in k.array k.coord bytes input.within input.given input.coordinate is

-- ---- the job of the text

same_expression : (e f : Expression) → expression_of fused_text ≡ Ok e → expression_of fused_text ≡ Ok f → e ≡ f
same_expression e f one other = cc

same_types : (a b : List NodeInfo) → typed inputs flipped ≡ Ok a → typed inputs flipped ≡ Ok b → a ≡ b
same_types a b one other = cc

module _ (job : Job) (is : IsJob sample_shown fused_text job) where
  expr_is : job.expr ≡ flipped
  expr_is = same_expression job.expr flipped is.said said

  inputs_are : job.inputs.items ≡ inputs
  inputs_are = sym (inputs_read sample_shown sample_held inputs job.inputs.items refl (sym (is.names ∙ ap names_in expr_is)) (held_all None) (calm_all None) is.inputs)

  types_are : job.types ≡ infos
  types_are =
      same_types job.types infos
      (subst (λ (e : Expression). typed inputs e ≡ Ok job.types) expr_is (subst (λ (is : List InputInfo). typed is job.expr ≡ Ok job.types) inputs_are is.types)) has_types

  plan_is : job_plan fused_options job ≡ fused_plan
  plan_is =
      ap (λ (e : Expression). merged_plan_of e job.types job.inputs.items fused_options) expr_is
      ∙ ap (λ (ts : List NodeInfo). merged_plan_of flipped ts job.inputs.items fused_options) types_are
      ∙ ap (λ (is : List InputInfo). merged_plan_of flipped infos is fused_options) inputs_are

  asked_are : asked_keys fused_options job ≡ five_keys
  asked_are =
      ap (λ (e : Expression). record_key_of e.store_as ∷ metadata_key_of e.store_as ∷ zarray_key_of e.store_as ∷ plan_keys (job_plan fused_options job) (length (job_plan fused_options job).ops)) expr_is
      ∙ ap (λ (p : PlanView). record_key_of (codes "y") ∷ metadata_key_of (codes "y") ∷ zarray_key_of (codes "y") ∷ plan_keys p (length p.ops)) plan_is
      ∙ ap (λ (ks : List (List ℕ)). record_key_of (codes "y") ∷ metadata_key_of (codes "y") ∷ zarray_key_of (codes "y") ∷ ks) keys_are

  planned : refusal_of fused_options job.expr job.types ≡ None
  planned =
      subst (λ (e : Expression). refusal_of fused_options e job.types ≡ None) (sym expr_is)
      (subst (λ (ts : List NodeInfo). refusal_of fused_options flipped ts ≡ None) (sym types_are) has_plan)

  fused_arrays_are : (job_plan fused_options job).arrays ≡ fused_arrays
  fused_arrays_are = ap (λ (p : PlanView). p.arrays) plan_is ∙ arrays_are

  pub fused_inlined : is_inlined (job_plan fused_options job).arrays 1 ≡ true
  fused_inlined = ap (λ (xs : List ArrayInfo). is_inlined xs 1) fused_arrays_are

  whole_plan : AreWhole (job_plan fused_options job) sample_held
  whole_plan k bytes =
      subst (λ (xs : List ArrayInfo). IsInputChunk xs k → sample_held (key_of xs k) ≡ Some bytes → length bytes ≡ chunk_room xs k.array) (sym fused_arrays_are) (whole k bytes)

  way_free : IsWayFree fused_options job sample_held sample_shown
  way_free = record {
    planned = planned;
    own = subst (λ (e : Expression). is_own_input e ≡ false) (sym expr_is) refl;
    free = subst (All (IsFree sample_held)) (sym asked_are) five_free;
    settled = subst (All IsSettled) (sym asked_are) five_settled;
  }

  at_rest : IsAtRest fused_options job sample_held sample_shown
  at_rest = record {
    way = way_free;
    calm = λ key bytes among input. held_chunk None key bytes among;
    whole = whole_plan;
  }

pub fused_typable : IsTypable sample_shown fused_text
fused_typable = record {
  contents = sample_held;
  told = refl;
  expr = flipped;
  said = said;
  inputs = inputs;
  names = refl;
  held = held_all None;
  calm = calm_all None;
  types = infos;
  accepted = has_types;
}

pub fused_servable : IsServable fused_options fused_text sample_held sample_shown
fused_servable = record { typable = fused_typable; rest = at_rest }
