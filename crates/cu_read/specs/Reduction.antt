-- The rows of reductions, of places, of products, of prefix sums (Python array API, "Statistical Functions", "Utility Functions",
-- "Searching Functions", "Linear Algebra Functions") and of groups by labels (this project's own operators).
use Rattle.std.specs.Prelude.{ℕ, ◌+◌, Bool, true, false, List, codes, bytes_eq, Option, Some, None, Result, Ok, Err, if◌then◌else◌, ◌≡◌}
use Rattle.serde_json.specs.Data.{Data}
use Rattle.serde_json.specs.Find.{as_bool}
use Rattle.cu_num.specs.declared.folds.FoldKind.{FoldKind}
use Rattle.cu_num.specs.declared.folds.FoldKind.TheVariants.{Sum, Prod, Min, Max, Any, All}
use Rattle.cu_form.specs.Form.{is_group_count}
use Rattle.cu_form.specs.declared.form.Form.{Form}
use Rattle.cu_result.specs.Results.{◌>>=◌}
use Rattle.cu_read.specs.Args.{args_in, HasArgs}
use Rattle.cu_read.specs.Members.{integer_of, integers_of, natural_of, or_null, present, IsObjectOf, Has, MayHave}
use Rattle.cu_read.specs.Rows.{has_members, required, optional}
use Rattle.cu_read.specs.declared.faults.NodeCode.{NodeCode}

abbrev pub fold_named : List ℕ → Option FoldKind
fold_named op =
    if bytes_eq op (codes "sum") then Some Sum
    else if bytes_eq op (codes "prod") then Some Prod
    else if bytes_eq op (codes "min") then Some Min
    else if bytes_eq op (codes "max") then Some Max
    else if bytes_eq op (codes "any") then Some Any
    else if bytes_eq op (codes "all") then Some All
    else None

abbrev pub place_name : Bool → List ℕ
place_name least = if least then codes "argmin" else codes "argmax"

abbrev pub group_name : Bool → List ℕ
group_name least = if least then codes "groupby_min" else codes "groupby_sum"

-- A node with this operator says this form: it has exactly the members of the operator's row, and these are the form's.
abbrev pub SaysReduction : List (List ℕ) → List ℕ → Data → Form → Type 0
SaysReduction ids op d (Form.Reduce kind args axes keepdims) = (fold_named op ≡ Some kind) × IsObjectOf (3 + present (codes "axes") d + present (codes "keepdims") d) d
    × MayHave None (or_null integers_of) (codes "axes") d axes × MayHave false as_bool (codes "keepdims") d keepdims × HasArgs ids d args
SaysReduction ids op d (Form.ArgPlace least args axis keepdims) = (op ≡ place_name least) × IsObjectOf (3 + present (codes "axis") d + present (codes "keepdims") d) d
    × MayHave None (or_null integer_of) (codes "axis") d axis × MayHave false as_bool (codes "keepdims") d keepdims × HasArgs ids d args
SaysReduction ids op d (Form.Matmul args) = (op ≡ codes "matmul") × IsObjectOf 3 d × HasArgs ids d args
SaysReduction ids op d (Form.CumulativeSum args axis) =
    (op ≡ codes "cumulative_sum") × IsObjectOf (3 + present (codes "axis") d) d
    × MayHave None (or_null integer_of) (codes "axis") d axis × HasArgs ids d args
SaysReduction ids op d (Form.GroupBy least args axis groups) =
    (op ≡ group_name least) × IsObjectOf 5 d × Has integer_of (codes "axis") d axis
    × Has (natural_of is_group_count) (codes "groups") d groups × HasArgs ids d args
SaysReduction ids op d form = ⊥

abbrev pub reduce_in : FoldKind → List (List ℕ) → Data → Result Form NodeCode
reduce_in kind ids d = do
  _ ← has_members (3 + present (codes "axes") d + present (codes "keepdims") d) d
  axes ← optional None (or_null integers_of) (codes "axes") d
  keepdims ← optional false as_bool (codes "keepdims") d
  args ← args_in ids d
  Ok (Form.Reduce kind args axes keepdims)

abbrev pub search_in : Bool → List (List ℕ) → Data → Result Form NodeCode
search_in least ids d = do
  _ ← has_members (3 + present (codes "axis") d + present (codes "keepdims") d) d
  axis ← optional None (or_null integer_of) (codes "axis") d
  keepdims ← optional false as_bool (codes "keepdims") d
  args ← args_in ids d
  Ok (Form.ArgPlace least args axis keepdims)

abbrev pub matmul_in : List (List ℕ) → Data → Result Form NodeCode
matmul_in ids d = do
  _ ← has_members 3 d
  args ← args_in ids d
  Ok (Form.Matmul args)

abbrev pub cumulative_in : List (List ℕ) → Data → Result Form NodeCode
cumulative_in ids d = do
  _ ← has_members (3 + present (codes "axis") d) d
  axis ← optional None (or_null integer_of) (codes "axis") d
  args ← args_in ids d
  Ok (Form.CumulativeSum args axis)

abbrev pub group_in : Bool → List (List ℕ) → Data → Result Form NodeCode
group_in least ids d = do
  _ ← has_members 5 d
  axis ← required integer_of (codes "axis") d
  groups ← required (natural_of is_group_count) (codes "groups") d
  args ← args_in ids d
  Ok (Form.GroupBy least args axis groups)

abbrev pub reduce_row : Option FoldKind → List (List ℕ) → Data → Result Form NodeCode
reduce_row None ids d = Err NodeCode.Unknown
reduce_row (Some kind) ids d = reduce_in kind ids d

-- the row of an operator of this family
abbrev pub reduction_row : List ℕ → List (List ℕ) → Data → Result Form NodeCode
reduction_row op ids d =
    if bytes_eq op (codes "argmin") then search_in true ids d
    else if bytes_eq op (codes "argmax") then search_in false ids d
    else if bytes_eq op (codes "matmul") then matmul_in ids d
    else if bytes_eq op (codes "cumulative_sum") then cumulative_in ids d
    else if bytes_eq op (codes "groupby_sum") then group_in false ids d
    else if bytes_eq op (codes "groupby_min") then group_in true ids d
    else reduce_row (fold_named op) ids d
