-- Each chunk of an input that the run of a demonstration finds is whole.
use Rattle.std.proofs.Common.{◌≡◌, ◌∙◌, ℕ, zero, suc, ◌<◌, Bool, true, false, true≢false, List, [], length, Option, Some, None, refl, sym, ap, subst}
use Rattle.std.specs.Prelude.{slice_get}
use Rattle.cu_shape.specs.Index.{IsInside, place_of}
use Rattle.cu_shape.proofs.Places.{index-place, place-below}
use Rattle.cu_grid.specs.Grid.{IsCoordinate}
use Rattle.cu_store.specs.Held.{Contents}
use Rattle.cu_zarr.specs.Key.{chunk_key_of}
use Rattle.cu_zarr.specs.Layout.{stored_chunk_bytes}
use Rattle.cu_zarr.proofs.Spelled.{length-spelled}
use Rattle.cu_op.specs.Arrays.{array_at, maker_at}
use Rattle.cu_op.specs.Layout.{layout_view}
use Rattle.cu_op.specs.declared.layout.ArrayInfo.{ArrayInfo}
use Rattle.cu_op.specs.declared.layout.Layout.{Layout}
use Rattle.cu_expr.specs.declared.inputs.InputInfo.{InputInfo}
use Rattle.cu_form.specs.Expression.{Expression}
use Rattle.cu_form.specs.declared.expr.Node.{Node}
use Rattle.cu_form.specs.declared.form.Form.{Form}
use Rattle.cu_lower.specs.Inputs.{input_array}
use Rattle.cu_lower.specs.Premises.{IsLiveInput}
use Rattle.cu_lower.specs.declared.options.Options.{Options}
use Rattle.cu_command.specs.declared.job.Job.{Job}
use Rattle.cu_load.specs.Load.{StoresGiven, counts_in, given_at, given_coord, key_of_chunk}
use Rattle.cu_load.specs.LoadForm.{GivenArray}
use Rattle.cu_demo.specs.Expression.{IsDemoJob, demo_expression, demo_inputs}
use Rattle.cu_demo.specs.Input.{demo_layout, demo_name}
use Rattle.cu_demo.specs.declared.input.DemoInput.{DemoInput}
use Rattle.cu_demo.specs.declared.input.DemoInput.TheVariants.{Rows, Columns}
use Rattle.cu_top.specs.Complete.{AreWhole}
use Rattle.cu_top.specs.Demo.{StoresDemoInputs, demo_array}
use Rattle.cu_top.specs.Prepare.{job_plan}
use Rattle.cu_expr.specs.Inputs.{layout_named}

-- ---- a stored array

same_value : (v : Option (List ℕ)) (a b : List ℕ) → v ≡ Some a → v ≡ Some b → a ≡ b
same_value v a b one other = cc

-- each of its chunks has the bytes of a chunk
given_whole : (a : GivenArray) (held : Contents) (coord bytes : List ℕ) → StoresGiven a (Some held) → IsInside (counts_in a) coord
    → held (chunk_key_of a.name a.layout.encoding coord) ≡ Some bytes → length bytes ≡ stored_chunk_bytes a.layout
given_whole a held coord bytes stores inside there =
    let p : ℕ = place_of (counts_in a) coord in
    let (own, value, holds) = stores.1 p (place-below (counts_in a) coord inside) in
    let at : key_of_chunk a p ≡ chunk_key_of a.name a.layout.encoding coord = ap (chunk_key_of a.name a.layout.encoding) (index-place (counts_in a) coord inside) in
    let same : own ≡ bytes = same_value (held (chunk_key_of a.name a.layout.encoding coord)) own bytes (ap held (sym at) ∙ holds) there in
    ap length (sym same) ∙ length-spelled a.layout (given_at a) (given_coord a p) own value

-- ---- the input nodes

abbrev name_of : Form → List ℕ
name_of (Form.Input name) = name
name_of form = []

abbrev is_input : Form → Bool
is_input (Form.Input name) = true
is_input form = false

abbrev name_at : Option Node → List ℕ
name_at (Some node) = name_of node.form
name_at None = []

abbrev is_input_at : Option Node → Bool
is_input_at (Some node) = is_input node.form
is_input_at None = false

called : (k : ℕ) (name : List ℕ) (live : IsLiveInput demo_expression k name) → name ≡ name_at (slice_get demo_expression.nodes k)
called k name live = sym (ap name_of live.form) ∙ sym (ap name_at live.at)

not_input : (k : ℕ) (name : List ℕ) (live : IsLiveInput demo_expression k name) → is_input_at (slice_get demo_expression.nodes k) ≡ false → ⊥
not_input k name live other = true≢false (sym (ap is_input live.form) ∙ sym (ap is_input_at live.at) ∙ other)

no_later : (k : ℕ) → is_input_at (slice_get demo_expression.nodes (suc (suc k))) ≡ false
no_later zero = refl
no_later (suc zero) = refl
no_later (suc (suc zero)) = refl
no_later (suc (suc (suc zero))) = refl
no_later (suc (suc (suc (suc zero)))) = refl
no_later (suc (suc (suc (suc (suc zero))))) = refl
no_later (suc (suc (suc (suc (suc (suc k)))))) = refl

used : (k : ℕ) (name : List ℕ) → IsLiveInput demo_expression k name → (input : DemoInput) × (name ≡ demo_name input)
used zero name live = (Rows, called zero name live)
used (suc zero) name live = (Columns, called (suc zero) name live)
used (suc (suc k)) name live = absurd (not_input (suc (suc k)) name live (no_later k))

-- ---- the input arrays of the plan

layout_is : (input : DemoInput) (n : ℕ) → layout_named (demo_inputs n) (demo_name input) ≡ demo_layout input n
layout_is Rows n = refl
layout_is Columns n = refl

abbrev demo_info_of : DemoInput → Layout → ArrayInfo
demo_info_of input l = record { prefix = demo_name input; layout = l; maker = None; inlined = false }

-- the law of a plan: each array that no operation makes is that of a live input node
abbrev pub OnlyInputs : Options → Job → Type 0
OnlyInputs options job = (a : ℕ) → a < length (job_plan options job).arrays → maker_at (job_plan options job).arrays a ≡ None
    → (k : ℕ) × (name : List ℕ) × IsLiveInput job.expr k name × (array_at (job_plan options job).arrays a ≡ input_array job.inputs.items name)

module _ (options : Options) (n : ℕ) (job : Job) (is : IsDemoJob n job) (only : OnlyInputs options job) (held : Contents) (stores : StoresDemoInputs n (Some held)) where
  array_is : (a : ℕ) → a < length (job_plan options job).arrays → maker_at (job_plan options job).arrays a ≡ None
      → (input : DemoInput) × (array_at (job_plan options job).arrays a ≡ demo_info_of input (demo_layout input n))
  array_is a below given =
      let (k, name, live, same) = only a below given in
      let (input, name_is) = used k name (subst (λ (e : Expression). IsLiveInput e k name) is.expr live) in (
        input,
        same ∙ ap (λ (inputs : List InputInfo). input_array inputs name) is.inputs ∙ ap (input_array (demo_inputs n)) name_is ∙ ap (demo_info_of input) (layout_is input n),
      )

  stores_of : (input : DemoInput) → StoresGiven (demo_array input n) (Some held)
  stores_of Rows = stores.0
  stores_of Columns = stores.1

  pub demo_whole : AreWhole (job_plan options job) held
  demo_whole k bytes input there =
      let (which, same) = array_is k.array input.within input.given in
      subst (λ (x : ArrayInfo). IsCoordinate x.layout.grid k.coord → held (chunk_key_of x.prefix x.layout.encoding k.coord) ≡ Some bytes → length bytes ≡ stored_chunk_bytes (layout_view x.layout))
      (sym same) (given_whole (demo_array which n) held k.coord bytes (stores_of which)) input.coordinate there
