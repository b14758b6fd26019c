-- What is computed of the demonstration: its expression, and its grids and types at each size.
use Rattle.std.proofs.Common.{◌≡◌, ◌∙◌, ℕ, ◌-◌, ◌≤◌, ◌<◌, Bool, true, false, true≢false, List, [], ◌∷◌, All}
use Rattle.std.proofs.Common.{get_or, length, Option, Some, None, Result, Ok, Err, refl, sym, ap, subst}
use Rattle.std.proofs.Common.{arith}
use Rattle.std.specs.Int.Signed.{le_z_yes}
use Rattle.std.specs.List.{list_all, range_with_len}
use Rattle.std.specs.Prelude.{◌&&◌, ◌^◌, is_none, min, nat_le}
use Rattle.std.proofs.lemmas.Bool.{and_parts, leb-true}
use Rattle.std.proofs.lemmas.List.Elements.{All-cons, All-nil}
use Rattle.std.specs.Str.{is_utf8, chars}
use Rattle.std.proofs.lemmas.List.FromFn.{get_or-range_with_len, length-range_with_len}
use Rattle.std.proofs.lemmas.List.Folds.{list_all_at}
use Rattle.serde_json.proofs.OnLiterals.{serde_json_on_literals}
use Rattle.cu_grid.specs.Limits.{first_fault}
use Rattle.cu_shape.specs.Counts.{at_least_one}
use Rattle.cu_shape.specs.Index.{product}
use Rattle.cu_command.specs.Stored.{IsArrayLayout}
use Rattle.cu_num.specs.Promotion.{promotion}
use Rattle.cu_num.specs.declared.types.Dtype.{Dtype}
use Rattle.cu_num.specs.declared.types.Dtype.TheVariants.{Int64}
use Rattle.cu_expr.specs.Typing.{typed}
use Rattle.cu_expr.specs.declared.types.TypeFault.{TypeFault}
use Rattle.cu_node.specs.Info.{info_at, info_of}
use Rattle.cu_node.specs.declared.info.NodeInfo.{NodeInfo}
use Rattle.cu_read.specs.Read.{expression_of}
use Rattle.cu_read.specs.declared.faults.ReadFault.{ReadFault}
use Rattle.cu_command.specs.Job.{IsUnread, IsUntyped}
use Rattle.cu_command.specs.declared.job.JobFault.{JobFault}
use Rattle.cu_command.specs.declared.job.JobFault.TheVariants as fault
use Rattle.cu_demo.specs.Expression.{demo_expression, demo_info, demo_inputs, demo_text}
use Rattle.cu_form.specs.Expression.{Expression}
use Rattle.cu_expr.specs.declared.inputs.InputInfo.{InputInfo}
use Rattle.cu_demo.specs.Input.{demo_chunk, demo_layout, demo_shape}
use Rattle.cu_demo.specs.declared.input.DemoInput.{DemoInput}
use Rattle.cu_demo.specs.declared.input.DemoInput.TheVariants.{Rows, Columns}

pub demo_said : expression_of demo_text ≡ Ok demo_expression
unfolding expression_of demo_text serde_json_on_literals is_utf8 chars
demo_said = refl

-- ---- each size

bool_or : (b : Bool) → (b ≡ false → ⊥) → b ≡ true
bool_or true never = refl
bool_or false never = absurd (never refl)

-- a test that holds at each size from 1 to 2,048
pub at_size : (p : ℕ → Bool) → list_all p (range_with_len 1 2048) ≡ true → (n : ℕ) → 1 ≤ n → n ≤ 2048 → p n ≡ true
at_size p all n some few =
    bool_or (p n) (λ no.
    let below : n - 1 < 2048 = omega (arith, some, few) in
    let within : n - 1 < length (range_with_len 1 2048) = rw (length-range_with_len 1 2048) below in
    let at : get_or (range_with_len 1 2048) (n - 1) 0 ≡ n = get_or-range_with_len 1 2048 (n - 1) 0 below ∙ omega (arith, some) in
    true≢false (sym all ∙ list_all_at p (range_with_len 1 2048) (n - 1) 0 within (ap p at ∙ no)))

-- ---- the grids

abbrev has_grid : DemoInput → ℕ → Bool
has_grid input n = is_none (first_fault (demo_shape n) (demo_chunk input n) 4)

all_have_grids : (input : DemoInput) → list_all (has_grid input) (range_with_len 1 2048) ≡ true
all_have_grids Rows = refl
all_have_grids Columns = refl

none_of : {A : Type 0} (o : Option A) → is_none o ≡ true → o ≡ None
none_of None is = refl
none_of (Some x) is = cc

pub demo_grid : (input : DemoInput) (n : ℕ) → 1 ≤ n → n ≤ 2048 → first_fault (demo_shape n) (demo_chunk input n) 4 ≡ None
demo_grid input n some few = none_of (first_fault (demo_shape n) (demo_chunk input n) 4) (at_size (has_grid input) (all_have_grids input) n some few)

-- ---- the layouts

abbrev has_sizes : DemoInput → ℕ → Bool
has_sizes input n = nat_le (product (at_least_one (demo_shape n))) (2 ^ 56) && nat_le (product (demo_chunk input n)) (2 ^ 40)

all_have_sizes : (input : DemoInput) → list_all (has_sizes input) (range_with_len 1 2048) ≡ true
all_have_sizes Rows = refl
all_have_sizes Columns = refl

positive_chunk : (input : DemoInput) (n : ℕ) → 1 ≤ n → All (λ c. 0 < c) (demo_chunk input n)
positive_chunk Rows n some =
    All-cons (λ c. 0 < c) (min 64 n) (n ∷ []) (omega (arith, some)) (All-cons (λ c. 0 < c) n [] (omega (arith, some)) (All-nil (λ c. 0 < c)))
positive_chunk Columns n some =
    All-cons (λ c. 0 < c) n (min 64 n ∷ []) (omega (arith, some)) (All-cons (λ c. 0 < c) (min 64 n) [] (omega (arith, some)) (All-nil (λ c. 0 < c)))

same_ranks : (input : DemoInput) (n : ℕ) → length (demo_chunk input n) ≡ length (demo_shape n)
same_ranks Rows n = refl
same_ranks Columns n = refl

-- each input has a layout in which an array may be stored
pub demo_storable : (input : DemoInput) (n : ℕ) → 1 ≤ n → n ≤ 2048 → IsArrayLayout (demo_layout input n)
demo_storable input n some few =
    let sizes = and_parts (nat_le (product (at_least_one (demo_shape n))) (2 ^ 56)) (nat_le (product (demo_chunk input n)) (2 ^ 40))
    (at_size (has_sizes input) (all_have_sizes input) n some few) in
    record {
      grid = record {
        ranks = same_ranks input n;
        short = omega arith;
        positive = positive_chunk input n some;
        elements = leb-true (product (at_least_one (demo_shape n))) (2 ^ 56) sizes.0;
        chunk_elements = leb-true (product (demo_chunk input n)) (2 ^ 40) sizes.1;
      };
      storable = record { axes = omega arith; grid = demo_grid input n some few; fill = (le_z_yes tt, le_z_yes tt); endian = λ one. refl };
    }

-- ---- the types

abbrev is_int64 : Dtype → Bool
is_int64 Int64 = true
is_int64 t = false

abbrev is_nil : List ℕ → Bool
is_nil [] = true
is_nil (x ∷ xs) = false

-- one number of type int64
abbrev is_number : NodeInfo → Bool
is_number i = is_int64 i.dtype && is_nil i.dims && is_nil i.chunk

-- the last node is one
abbrev gives_number : Result (List NodeInfo) TypeFault → Bool
gives_number (Ok infos) = is_number (info_at infos 7)
gives_number (Err f) = false

all_typed : list_all (λ n. gives_number (typed (demo_inputs n) demo_expression)) (range_with_len 1 2048) ≡ true
unfolding promotion
all_typed = refl

number_of : (r : Result (List NodeInfo) TypeFault) (infos : List NodeInfo) → gives_number r ≡ true → r ≡ Ok infos → info_at infos 7 ≡ info_of Int64 [] []
number_of r infos gives ok = number (info_at infos 7) (subst (λ (x : Result (List NodeInfo) TypeFault). gives_number x ≡ true) ok gives)
  where
    number : (i : NodeInfo) → is_number i ≡ true → i ≡ info_of Int64 [] []
    number i is = go i.dtype i.dims i.chunk is
      where
        go : (t : Dtype) (dims chunk : List ℕ) → is_number (info_of t dims chunk) ≡ true → info_of t dims chunk ≡ info_of Int64 [] []
        go Int64 [] [] is = refl
        go Int64 [] (c ∷ cs) is = cc
        go Int64 (d ∷ ds) chunk is = cc
        go t dims chunk is = cc

not_err : (r : Result (List NodeInfo) TypeFault) (f : TypeFault) → gives_number r ≡ true → r ≡ Err f → ⊥
not_err (Ok infos) f gives err = cc
not_err (Err g) f gives err = cc

module _ (n : ℕ) (some : 1 ≤ n) (few : n ≤ 2048) where
  -- the expression has types
  pub demo_typed : (f : TypeFault) → typed (demo_inputs n) demo_expression ≡ Err f → ⊥
  demo_typed f err = not_err (typed (demo_inputs n) demo_expression) f (at_size (λ n. gives_number (typed (demo_inputs n) demo_expression)) all_typed n some few) err

  -- and gives one number of type int64
  pub demo_number : (infos : List NodeInfo) → typed (demo_inputs n) demo_expression ≡ Ok infos → info_at infos 7 ≡ info_of Int64 [] []
  demo_number infos ok = number_of (typed (demo_inputs n) demo_expression) infos (at_size (λ n. gives_number (typed (demo_inputs n) demo_expression)) all_typed n some few) ok

-- ---- no fault but want of memory

no_fault : (f g : ReadFault) → expression_of demo_text ≡ Err f → ⊥
no_fault f g err = let said = demo_said in cc

-- reading the text
pub only_memory : (f : JobFault) → IsUnread demo_text f → f ≡ fault.NoMemory
only_memory (fault.Expression code node) unread = absurd (no_fault (record { code = code; node = node }) (record { code = code; node = node }) unread)
only_memory fault.NoMemory unread = refl
only_memory f unread = absurd unread

-- typing it
pub only_memory_typing : (n : ℕ) → 1 ≤ n → n ≤ 2048 → (f : JobFault) → IsUntyped (demo_inputs n) demo_expression f → f ≡ fault.NoMemory
only_memory_typing n some few (fault.Typing code node) (place, untyped) = absurd (demo_typed n some few _ untyped)
only_memory_typing n some few fault.NoMemory untyped = refl
only_memory_typing n some few f untyped = absurd untyped

-- each of two inputs has such a layout
pub both_storable : (n : ℕ) → 1 ≤ n → n ≤ 2048 → All (λ (i : InputInfo). IsArrayLayout i.layout) (demo_inputs n)
both_storable n some few =
    All-cons (λ (i : InputInfo). IsArrayLayout i.layout) (demo_info Rows n) (demo_info Columns n ∷ []) (demo_storable Rows n some few)
    (All-cons (λ (i : InputInfo). IsArrayLayout i.layout) (demo_info Columns n) [] (demo_storable Columns n some few) (All-nil (λ (i : InputInfo). IsArrayLayout i.layout)))

same_said : (r : Result Expression ReadFault) (e f : Expression) → r ≡ Ok e → r ≡ Ok f → e ≡ f
same_said r e f one other = cc

-- the expression of the text is this one
pub only_expression : (e : Expression) → expression_of demo_text ≡ Ok e → e ≡ demo_expression
only_expression e said = same_said (expression_of demo_text) e demo_expression said demo_said

pub grid_or_fault : {F : Type 0} (o : Option F) (f : F) → o ≡ None → o ≡ Some f → ⊥
grid_or_fault o f none some = cc
