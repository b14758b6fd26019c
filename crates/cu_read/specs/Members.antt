-- The values that a member of a node may have (JSON, RFC 8259; their ranges are this project's own rule).
use Rattle.std.specs.Prelude.{◌≡◌, ℕ, Bool, true, ℤ, List, Option, Some, None, option_map, option_and_then, is_some, is_none, if◌then◌else◌}
use Rattle.std.specs.Option.{option_or}
use Rattle.serde_json.specs.Data.{Data}
use Rattle.serde_json.specs.Find.{get, as_null, as_bool, as_number, as_str, as_i64, as_u64, as_integer}
use Rattle.cu_json.specs.Form.{is_object_of}
use Rattle.cu_name.specs.Name.{is_name}
use Rattle.cu_num.specs.declared.types.Dtype.{Dtype}
use Rattle.cu_node.specs.NewShape.{is_size, are_new_sizes}
use Rattle.cu_node.specs.declared.literal.Literal.{Literal}
use Rattle.cu_form.specs.Form.{is_written, is_chunk_size}
use Rattle.cu_read.specs.Lists.{entries_of}
use Rattle.cu_num.specs.TypeName.{dtype_named}

-- ---- one value

-- the value, where it passes the test
abbrev pub passing : {A : Type 0} → (A → Bool) → A → Option A
passing test x = if test x then Some x else None

-- an integer from -2^63 to 2^63 - 1
abbrev pub integer_of : Data → Option ℤ
integer_of d = option_and_then as_i64 (as_number d)

-- an integer from -2^63 to 2^64 - 1
abbrev pub written_of : Data → Option ℤ
written_of d = option_and_then (passing is_written) (option_and_then as_integer (as_number d))

-- such an integer, or true or false
abbrev pub literal_of : Data → Option Literal
literal_of d = option_or (option_map Literal.Truth (as_bool d)) (option_map Literal.Int (written_of d))

-- a natural number that passes the test
abbrev pub natural_of : (ℕ → Bool) → Data → Option ℕ
natural_of test d = option_and_then (passing test) (option_and_then as_u64 (as_number d))

-- the name of a type
abbrev pub dtype_of : Data → Option Dtype
dtype_of d = option_and_then dtype_named (as_str d)

-- the name of an array
abbrev pub name_of : Data → Option (List ℕ)
name_of d = option_and_then (passing is_name) (as_str d)

-- ---- lists

abbrev pub integers_of : Data → Option (List ℤ)
integers_of d = entries_of integer_of d

-- the sizes of an array
abbrev pub sizes_of : Data → Option (List ℕ)
sizes_of d = entries_of (natural_of is_size) d

-- the sizes of a chunk
abbrev pub chunk_sizes_of : Data → Option (List ℕ)
chunk_sizes_of d = entries_of (natural_of is_chunk_size) d

-- the sizes of `reshape`, of which one may be left to be filled in
abbrev pub new_sizes_of : Data → Option (List ℤ)
new_sizes_of d = option_and_then (passing are_new_sizes) (integers_of d)

-- ---- members

-- the member is there, and is such a value
abbrev pub member_of : {A : Type 0} → (Data → Option A) → List ℕ → Data → Option A
member_of value name d = option_and_then value (get name d)

-- the member isn't there, which stands for the default, or is such a value
abbrev pub member_or : {A : Type 0} → A → (Data → Option A) → List ℕ → Data → Option A
member_or default value name d = if is_none (get name d) then Some default else member_of value name d

-- null, which stands for none, or such a value
abbrev pub or_null : {A : Type 0} → (Data → Option A) → Data → Option (Option A)
or_null value d = if is_some (as_null d) then Some None else option_map Some (value d)

-- 1 where the member is there, else 0
abbrev pub present : List ℕ → Data → ℕ
present name d = if is_some (get name d) then 1 else 0

-- ---- members, as relations

-- The value has exactly so many members. Where as many are named beside it, it has no other.
abbrev pub IsObjectOf : ℕ → Data → Type 0
IsObjectOf count d = is_object_of count d ≡ true

-- the member is there, and has this value
abbrev pub Has : {A : Type 0} → (Data → Option A) → List ℕ → Data → A → Type 0
Has value name d x = member_of value name d ≡ Some x

-- the member has this value, which is the default where it isn't there
abbrev pub MayHave : {A : Type 0} → A → (Data → Option A) → List ℕ → Data → A → Type 0
MayHave default value name d x = member_or default value name d ≡ Some x
