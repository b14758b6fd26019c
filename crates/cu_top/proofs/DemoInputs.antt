-- The inputs of a demonstration: arrays that may be stored, and what storing them and asking for their keys comes to.
use Rattle.std.proofs.Common.{◌≡◌, ◌∙◌, inl, inr, ℕ, ◌+◌, ◌<◌, ◌≤◌, pos, Bool, true, false, true≢false}
use Rattle.std.proofs.Common.{List, length, All, refl, sym, subst, arith, Result, Ok, Err, IfErr}
use Rattle.std.proofs.lemmas.Int.{ints}
use Rattle.std.specs.Prelude.{OnOk}
use Rattle.std.specs.List.{range_with_len}
use Rattle.std.proofs.lemmas.List.{length-map}
use Rattle.std.proofs.lemmas.List.Elements.{All-map, All-weaker}
use Rattle.std.proofs.lemmas.List.FromFn.{length-range_with_len}
use Rattle.cu_num.specs.Dtype.{InRange}
use Rattle.cu_num.specs.declared.types.Dtype.TheVariants.{Int32}
use Rattle.cu_shape.specs.Index.{indices_of, index_at, product}
use Rattle.cu_name.specs.Name.{is_name}
use Rattle.cu_name.specs.Keys.{record_key_of}
use Rattle.cu_zarr.specs.Key.{metadata_key_of, zarray_key_of}
use Rattle.cu_store.specs.Steps.{Shown, NoChange}
use Rattle.cu_op.specs.Layout.{IsLayout, layout_view}
use Rattle.cu_form.specs.Expression.{Expression}
use Rattle.cu_expr.specs.declared.inputs.InputInfo.{InputInfo}
use Rattle.cu_plan.specs.Refusal.{IsRefusal}
use Rattle.cu_plan.specs.declared.fault.PlanFault.{PlanFault}
use Rattle.cu_plan.specs.declared.fault.PlanFault.TheVariants as plan
use Rattle.cu_work.specs.declared.way.WayFault.{WayFault}
use Rattle.cu_work.specs.declared.way.WayFault.TheVariants as way
use Rattle.cu_command.proofs.SeenLemmas.{gone_before, stepped_wider}
use Rattle.cu_command.specs.Seen.{Stepped}
use Rattle.cu_command.specs.Stored.{IsArrayLayout}
use Rattle.cu_command.specs.declared.job.Job.{Job}
use Rattle.cu_command.specs.declared.status.Status.{Status}
use Rattle.cu_command.specs.declared.status.Status.TheVariants.{Exists, DepotFailed, NoMemory}
use Rattle.cu_load.specs.Keys.{AreFree, IsAskedFor, IsAskFault}
use Rattle.cu_load.specs.Load.{ArrayPut, IsPutFault, IsStoreFault}
use Rattle.cu_load.specs.LoadForm.{GivenArray, IsGivenArray, given_by}
use Rattle.cu_load.specs.declared.load_form.LoadForm.{LoadForm}
use Rattle.cu_load.proofs.AskLemmas.{rose_earlier}
use Rattle.cu_load.proofs.StoreLemmas.{chunks_put}
use Rattle.cu_demo.proofs.Computed.{both_storable, demo_storable}
use Rattle.cu_demo.specs.Expression.{IsDemoJob, demo_inputs}
use Rattle.cu_demo.specs.Input.{demo_at, demo_element, demo_elements, demo_layout, demo_name, demo_shape}
use Rattle.cu_demo.specs.declared.input.DemoInput.{DemoInput}
use Rattle.cu_demo.specs.declared.input.DemoInput.TheVariants.{Rows, Columns}
use Rattle.cu_lower.specs.declared.options.Options.{Options}
use Rattle.cu_top.proofs.RunLemmas.{first_of}
use Rattle.cu_top.specs.Ask.{IsAskEnd, answer_of}
use Rattle.cu_top.specs.Demo.{AreInputsFree, InputsPut, IsDemoAskEnd, IsDemoRefused, IsInputPutEnd, IsInputsFault, demo_array}
use Rattle.cu_top.specs.Prepare.{is_own_input, unplanned_status}

-- ---- the arrays

named : (input : DemoInput) → is_name (demo_name input) ≡ true
named Rows = refl
named Columns = refl

small_element : (input : DemoInput) (i j : ℕ) → demo_element input i j < 20
small_element Rows i j = omega arith
small_element Columns i j = omega arith

small_in : (m : ℕ) → m < 20 → InRange Int32 (pos m)
small_in m small = (omega (arith, ints), omega (arith, ints, small))

all_in : (input : DemoInput) (n : ℕ) → All (InRange Int32) (demo_elements input n)
all_in input n = All-map (InRange Int32) (demo_at input) (indices_of (demo_shape n)) (λ k idx below. small_in _ (small_element input _ _))

many : (input : DemoInput) (n : ℕ) → length (demo_elements input n) ≡ product (demo_shape n)
many input n =
    length-map (indices_of (demo_shape n)) (demo_at input) ∙ length-map (range_with_len 0 (product (demo_shape n))) (index_at (demo_shape n))
    ∙ length-range_with_len 0 (product (demo_shape n))

pub demo_given : (input : DemoInput) (n : ℕ) → 1 ≤ n → n ≤ 2048 → IsGivenArray (demo_array input n)
demo_given input n some few = record {
  name = named input;
  layout = (demo_storable input n some few).storable;
  order = refl;
  count = many input n;
  elements = all_in input n;
}

-- what is made is the array
pub same_form : (form : LoadForm) (input : DemoInput) (n : ℕ) → form.name ≡ demo_name input → form.layout ≡ demo_layout input n → form.elements.items ≡ demo_elements input n
    → given_by form ≡ demo_array input n
same_form form input n name layout elements = λ i. record { name = name i; layout = layout_view (layout i); elements = elements i }

pub both_layouts : (n : ℕ) → 1 ≤ n → n ≤ 2048 → All (λ (i : InputInfo). IsLayout i.layout) (demo_inputs n)
both_layouts n some few =
    All-weaker (λ (i : InputInfo). IsArrayLayout i.layout) (λ (i : InputInfo). IsLayout i.layout) (λ i is. is.storable.fill) (demo_inputs n) (both_storable n some few)

-- ---- no plan

pub no_plan : (options : Options) (n : ℕ) (job : Job) (f : PlanFault) → IsDemoJob n job → IsRefusal options job.expr job.types f → IsDemoRefused options n (unplanned_status f)
no_plan options n job (plan.OverMemory node need allowed) is refused = (job, is, refused)
no_plan options n job (plan.OverLimit which count) is refused = (job, is, refused)
no_plan options n job plan.NoMemory is refused = tt

-- ---- asking

module _ (tries : ℕ) (keys : List (List ℕ)) where
  -- for the keys of the first input
  pub rows_end : (old new : Shown) (name : List ℕ) (status : Status) → name ≡ demo_name Rows
      → IsAskFault tries (IsAskedFor name old.held) old.faults new.faults new.held status → IsDemoAskEnd tries keys old new status
  rows_end old new name (Exists key) same fault = (inl (subst (λ (x : List ℕ). IsAskedFor x old.held key) same fault.0), fault.1)
  rows_end old new name (DepotFailed key) same fault = (inl (subst (λ (x : List ℕ). IsAskedFor x old.held key) same fault.0), fault.1)
  rows_end old new name NoMemory same fault = tt
  rows_end old new name status same fault = absurd fault

  asked_before : (old mid : Shown) (name key : List ℕ) → Stepped NoChange old mid → IsAskedFor name mid.held key → IsAskedFor name old.held key
  asked_before old mid name key step (inl is) = inl is
  asked_before old mid name key step (inr (inl is, gone)) = inr (inl is, gone_before old mid (record_key_of name) step gone)
  asked_before old mid name key step (inr (inr (is, absent), gone)) =
      inr (inr (is, gone_before old mid (metadata_key_of name) step absent), gone_before old mid (record_key_of name) step gone)

  -- for those of the second, where the first's were absent
  pub columns_end : (old mid new : Shown) (name : List ℕ) (status : Status) → name ≡ demo_name Columns → AreFree (demo_name Rows) old.held → Stepped NoChange old mid
      → IsAskFault tries (IsAskedFor name mid.held) mid.faults new.faults new.held status → IsDemoAskEnd tries keys old new status
  columns_end old mid new name (Exists key) same free step fault =
      (inr (inl (free, subst (λ (x : List ℕ). IsAskedFor x old.held key) same (asked_before old mid name key step fault.0))), fault.1)
  columns_end old mid new name (DepotFailed key) same free step fault = (
    inr (inl (free, subst (λ (x : List ℕ). IsAskedFor x old.held key) same (asked_before old mid name key step fault.0))),
    rose_earlier tries old.faults mid.faults new.faults step.step.count fault.1,
  )
  columns_end old mid new name NoMemory same free step fault = tt
  columns_end old mid new name status same free step fault = absurd fault

  not_own : (e : Expression) (b : Bool) → is_own_input e ≡ false → is_own_input e ≡ true → ⊥
  not_own e b fails holds = true≢false (sym holds ∙ fails)

  -- for those of the plan, where all of these were absent
  pub plan_end : (old mid new : Shown) (e : Expression) (f : WayFault) → is_own_input e ≡ false → AreInputsFree old.held → Stepped NoChange old mid
      → IsAskEnd tries e keys mid new f → IsDemoAskEnd tries keys old new (answer_of f)
  plan_end old mid new e (way.Held key) own free step (first, inl held, rest) = (inr (inr (free, first_of old mid keys key step first)), held)
  plan_end old mid new e (way.Held key) own free step (first, inr (is, holds), rest) = absurd (not_own e true own holds)
  plan_end old mid new e (way.Failed key) own free step (first, rose, rest) =
      (inr (inr (free, first_of old mid keys key step first)), rose_earlier tries old.faults mid.faults new.faults step.step.count rose)
  plan_end old mid new e way.NoMemory own free step end = tt

pub free_before : (old mid : Shown) (name : List ℕ) → Stepped NoChange old mid → AreFree name mid.held → AreFree name old.held
free_before old mid name step free = (
  gone_before old mid (record_key_of name) step free.0,
  (gone_before old mid (metadata_key_of name) step free.1.0, gone_before old mid (zarray_key_of name) step free.1.1),
)

-- ---- storing

put_step : (tries : ℕ) (a : GivenArray) (old new : Shown) (key : List ℕ) → IsPutFault a old new key → Stepped (ArrayPut a) old new
put_step tries a old new key (inl (k, below, same, step, before)) = stepped_wider (chunks_put a (k + 1) (omega (arith, below))) step
put_step tries a old new key (inr (same, step, before)) = step

-- an array that wasn't stored whole
pub store_step : (tries : ℕ) (a : GivenArray) (old new : Shown) (status : Status) → IsStoreFault tries a old new status → Stepped (ArrayPut a) old new
store_step tries a old new (DepotFailed key) fault = put_step tries a old new key fault.1
store_step tries a old new NoMemory (lacks, inl (n, few, step, before)) = stepped_wider (chunks_put a n few) step
store_step tries a old new NoMemory (lacks, inr (rose, (key, fault))) = put_step tries a old new key fault
store_step tries a old new status fault = absurd fault

pub store_end : (tries : ℕ) (a : GivenArray) (old new : Shown) (status : Status) → IsStoreFault tries a old new status → IsInputPutEnd tries a old new status
store_end tries a old new (DepotFailed key) (rose, inl (k, below, same, step, before)) = (rose, inr (k, below, same))
store_end tries a old new (DepotFailed key) (rose, inr (same, step, before)) = (rose, inl same)
store_end tries a old new NoMemory fault = tt
store_end tries a old new status fault = absurd fault

pub rows_fault : (tries n : ℕ) (old new : Shown) (status : Status) → IsInputPutEnd tries (demo_array Rows n) old new status → IsInputsFault tries n old new status
rows_fault tries n old new (DepotFailed key) fault = (fault.0, inl fault.1)
rows_fault tries n old new NoMemory fault = tt
rows_fault tries n old new status fault = absurd fault

pub columns_fault : (tries n : ℕ) (old mid new : Shown) (status : Status) → old.faults ≤ mid.faults → IsInputPutEnd tries (demo_array Columns n) mid new status → IsInputsFault tries n old new status
columns_fault tries n old mid new (DepotFailed key) earlier fault = (rose_earlier tries old.faults mid.faults new.faults earlier fault.0, inr fault.1)
columns_fault tries n old mid new NoMemory earlier fault = tt
columns_fault tries n old mid new status earlier fault = absurd fault

pub rows_put : (n : ℕ) (old new : Shown) → Stepped (ArrayPut (demo_array Rows n)) old new → Stepped (InputsPut n) old new
rows_put n old new step = stepped_wider (λ key value own. inl own) step

pub columns_put : (n : ℕ) (old new : Shown) → Stepped (ArrayPut (demo_array Columns n)) old new → Stepped (InputsPut n) old new
columns_put n old new step = stepped_wider (λ key value own. inr own) step

-- stored whole or not, nothing but its values was put
pub any_step : (tries : ℕ) (a : GivenArray) (old new : Shown) (r : Result (Unit {0}) Status) → OnOk r (Stepped (ArrayPut a) old new) → IfErr r (IsStoreFault tries a old new)
    → Stepped (ArrayPut a) old new
any_step tries a old new (Ok done) step fault = step
any_step tries a old new (Err status) step fault = store_step tries a old new status fault
