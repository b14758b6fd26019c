-- What the rows of operators are made of: their members, of which a wrong one is a fault of the node's form (this project's own form).
use Rattle.std.specs.Prelude.{ℕ, List, Option, Result, ⊤}
use Rattle.serde_json.specs.Data.{Data}
use Rattle.cu_json.specs.Form.{is_object_of}
use Rattle.cu_result.specs.Results.{check, need}
use Rattle.cu_read.specs.Members.{member_of, member_or}
use Rattle.cu_read.specs.declared.faults.NodeCode.{NodeCode}

-- The node has so many members. Where as many are wanted, it has no other.
abbrev pub has_members : ℕ → Data → Result ⊤ NodeCode
has_members count d = check (is_object_of count d) NodeCode.Form

-- a member that has to be there
abbrev pub required : {A : Type 0} → (Data → Option A) → List ℕ → Data → Result A NodeCode
required value name d = need (member_of value name d) NodeCode.Form

-- a member that may be absent
abbrev pub optional : {A : Type 0} → A → (Data → Option A) → List ℕ → Data → Result A NodeCode
optional default value name d = need (member_or default value name d) NodeCode.Form
