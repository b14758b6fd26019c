-- A node whose members are read as values that have no float has none.
use Rattle.std.proofs.Common.{◌≡◌, ℕ, suc, ◌+◌, Bool, true, false, List, [], ◌∷◌, Option, None, codes, refl, subst, arith}
use Rattle.serde_json.specs.Data.{Data}
use Rattle.serde_json.specs.Find.{as_bool, as_str}
use Rattle.serde_json.specs.Written.{has_float}
use Rattle.cu_json.specs.Form.{is_object_of}
use Rattle.cu_form.specs.declared.args.Arg.{Arg}
use Rattle.cu_read.specs.Args.{arg_of, HasArgs}
use Rattle.cu_read.specs.Lists.{entries_of}
use Rattle.cu_read.specs.Members.{chunk_sizes_of, or_null, present, IsObjectOf, Has, MayHave}
use Rattle.cu_read.proofs.PlainMembers.{IsPlainReader, Hold, are_distinct, hold_none, and_has, and_may, object_plain}
use Rattle.cu_read.proofs.PlainReaders.{truth_plain, text_plain, or_null_plain, chunk_plain, args_plain}

-- the two members that each node has
pub record HasTexts (d : Data) : Type 0 where
  pub op : List ℕ
  pub operator : Has as_str (codes "op") d op
  pub name : List ℕ
  pub id : Has as_str (codes "id") d name

pub node_of : (names : List (List ℕ)) (count total : ℕ) (d : Data) → HasTexts d → are_distinct (codes "id" ∷ codes "op" ∷ names) ≡ true → IsObjectOf total d → total ≡ suc (suc count)
    → Hold names count d → has_float d ≡ false
node_of names count total d t apart is same h =
    object_plain (codes "id" ∷ codes "op" ∷ names) (suc (suc count)) d apart (subst (λ (n : ℕ). is_object_of n d ≡ true) same is)
    (and_has as_str (codes "id") (codes "op" ∷ names) (suc count) d t.name text_plain t.id
    (and_has as_str (codes "op") names count d t.op text_plain t.operator h))

pub args_hold : (ids : List (List ℕ)) (d : Data) (args : List Arg) → HasArgs ids d args → Hold (codes "args" ∷ []) 1 d
args_hold ids d args h = and_has (entries_of (arg_of ids)) (codes "args") [] 0 d args (args_plain ids) h (hold_none d)

pub chunk_holds : (d : Data) (chunk : List ℕ) → Has chunk_sizes_of (codes "chunk") d chunk → Hold (codes "chunk" ∷ []) 1 d
chunk_holds d chunk h = and_has chunk_sizes_of (codes "chunk") [] 0 d chunk chunk_plain h (hold_none d)

-- a node with arguments alone
pub bare_plain : (ids : List (List ℕ)) (d : Data) (args : List Arg) → HasTexts d → IsObjectOf 3 d → HasArgs ids d args → has_float d ≡ false
bare_plain ids d args t is h = node_of (codes "args" ∷ []) 1 3 d t refl is refl (args_hold ids d args h)

-- one with another member
pub one_plain : {A : Type 0} (value : Data → Option A) (name : List ℕ) (ids : List (List ℕ)) (d : Data) (x : A) (args : List Arg) → IsPlainReader value
    → are_distinct (codes "id" ∷ codes "op" ∷ name ∷ codes "args" ∷ []) ≡ true → HasTexts d → IsObjectOf 4 d → Has value name d x → HasArgs ids d args → has_float d ≡ false
one_plain value name ids d x args reads apart t is m h = node_of (name ∷ codes "args" ∷ []) 2 4 d t apart is refl (and_has value name (codes "args" ∷ []) 1 d x reads m (args_hold ids d args h))

-- one with two others
pub two_plain : {A B : Type 0} (value : Data → Option A) (name : List ℕ) (next : Data → Option B) (other : List ℕ) (ids : List (List ℕ)) (d : Data) (x : A) (y : B) (args : List Arg)
    → IsPlainReader value → IsPlainReader next → are_distinct (codes "id" ∷ codes "op" ∷ name ∷ other ∷ codes "args" ∷ []) ≡ true
    → HasTexts d → IsObjectOf 5 d → Has value name d x → Has next other d y → HasArgs ids d args → has_float d ≡ false
two_plain value name next other ids d x y args reads reads_next apart t is m n h =
    node_of (name ∷ other ∷ codes "args" ∷ []) 3 5 d t apart is refl
    (and_has value name (other ∷ codes "args" ∷ []) 2 d x reads m (and_has next other (codes "args" ∷ []) 1 d y reads_next n (args_hold ids d args h)))

pub one_more : (a : ℕ) → 3 + a ≡ suc (suc (a + 1))
one_more a = omega arith

two_more : (a b : ℕ) → 3 + a + b ≡ suc (suc (a + (b + 1)))
two_more a b = omega arith

-- one with `axes` or `axis`, and `keepdims`, where these may be absent
pub folded_plain : {A : Type 0} (value : Data → Option A) (name : List ℕ) (ids : List (List ℕ)) (d : Data) (x : Option A) (keepdims : Bool) (args : List Arg) → IsPlainReader value
    → are_distinct (codes "id" ∷ codes "op" ∷ name ∷ codes "keepdims" ∷ codes "args" ∷ []) ≡ true
    → HasTexts d → IsObjectOf (3 + present name d + present (codes "keepdims") d) d → MayHave None (or_null value) name d x → MayHave false as_bool (codes "keepdims") d keepdims
    → HasArgs ids d args → has_float d ≡ false
folded_plain value name ids d x keepdims args reads apart t is m n h =
    node_of (name ∷ codes "keepdims" ∷ codes "args" ∷ []) (present name d + (present (codes "keepdims") d + 1)) (3 + present name d + present (codes "keepdims") d) d t apart is
    (two_more (present name d) (present (codes "keepdims") d))
    (and_may None (or_null value) name (codes "keepdims" ∷ codes "args" ∷ []) (present (codes "keepdims") d + 1) d x (or_null_plain value reads) m
    (and_may false as_bool (codes "keepdims") (codes "args" ∷ []) 1 d keepdims truth_plain n (args_hold ids d args h)))
