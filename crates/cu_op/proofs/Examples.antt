-- The definitions on worked examples: two int32 arrays of six elements in chunks of four, and their sum.
use Rattle.std.proofs.Common.{◌≡◌, ℕ, zero, suc, ◌+◌, ◌*◌, List, [], ◌∷◌, Option, Some, None, refl, codes, pos, negsuc, false}
use Rattle.cu_num.specs.declared.types.Dtype.TheVariants.{Int32}
use Rattle.cu_num.specs.declared.functions.Fn2.TheVariants.{Add}
use Rattle.cu_num.specs.declared.layout.Encoding.TheVariants.{Plain}
use Rattle.cu_num.specs.declared.layout.Sep.TheVariants.{Slash}
use Rattle.cu_num.specs.declared.layout.Endian.TheVariants.{Little}
use Rattle.cu_num.specs.Wrap.{wrapped}
use Rattle.cu_origin.specs.declared.pull.Pull.TheVariants.{Concat, Arange}
use Rattle.cu_op.specs.declared.kernel.Instr.TheVariants.{Load, Const, Two, Select}
use Rattle.cu_op.specs.declared.layout.ArrayInfo.{ArrayInfo}
use Rattle.cu_op.specs.declared.operation.Op.{Op}
use Rattle.cu_op.specs.declared.operation.Op.TheVariants.{Map, Pull}
use Rattle.cu_op.specs.Chunks.{cell}
use Rattle.cu_op.specs.Cells.{tasks_of}
use Rattle.cu_op.specs.Walks.{written_chunks, read_chunks}
use Rattle.cu_op.specs.Kernel.{kernel_value}
use Rattle.cu_op.specs.PlanView.{PlanView}
use Rattle.cu_op.specs.Projection.{own_projection}
use Rattle.cu_op.specs.Elements.{Elements}
use Rattle.cu_op.specs.Value.{plan_value}

unfoldable array : List ℕ → List ℕ → Option ℕ → ArrayInfo
array shape chunk made = record {
  prefix = codes "a";
  layout = record { dtype = Int32; grid = record { shape = shape; chunk = chunk }; encoding = Plain Slash; endian = Little; fill = pos 0 };
  maker = made;
  inlined = false;
}

unfoldable add : List ℕ → ℕ → Op
add ins out = Map (record { code = record { items = Load 0 ∷ Load 1 ∷ Two Add Int32 0 1 ∷ [] } }) (record { items = ins }) out

unfoldable two_chunks : List ArrayInfo
two_chunks = array (6 ∷ []) (4 ∷ []) None ∷ array (6 ∷ []) (4 ∷ []) None ∷ array (6 ∷ []) (4 ∷ []) (Some 0) ∷ []

-- scratch 16, inputs 32, output 16, three instructions 1536
room : own_projection two_chunks 0 (add (0 ∷ 1 ∷ []) 2) ≡ 1600
unfolding two_chunks add array
room = refl

tasks : tasks_of two_chunks (add (0 ∷ 1 ∷ []) 2) ≡ 2
unfolding two_chunks add array
tasks = refl

written : written_chunks two_chunks (add (0 ∷ 1 ∷ []) 2) 1 ≡ cell 2 (1 ∷ []) ∷ []
unfolding two_chunks add array
written = refl

read : read_chunks two_chunks (add (0 ∷ 1 ∷ []) 2) 1 ≡ cell 0 (1 ∷ []) ∷ cell 1 (1 ∷ []) ∷ []
unfolding two_chunks add array
read = refl

-- an input that stands twice counts twice in the room, and its chunk is read once
twice : own_projection two_chunks 0 (add (1 ∷ 1 ∷ []) 2) ≡ 1600
unfolding two_chunks add array
twice = refl

read_once : read_chunks two_chunks (add (1 ∷ 1 ∷ []) 2) 0 ≡ cell 1 (0 ∷ []) ∷ []
unfolding two_chunks add array
read_once = refl

-- elements 1, 2, .. and 10, 20, ..
unfoldable given : Elements
given zero (i ∷ is) = Some (pos (i + 1))
given (suc zero) (i ∷ is) = Some (pos (10 * (i + 1)))
given a idx = None

unfoldable plan : PlanView
plan = record { arrays = two_chunks; ops = record { op = add (0 ∷ 1 ∷ []) 2; node = 2; projected = 1600 } ∷ []; out = 2; allowed = 1600; reserved = 0 }

sum_at_5 : plan_value plan given 2 (5 ∷ []) ≡ Some (pos 66)
unfolding plan two_chunks add array given wrapped
sum_at_5 = refl

input_at_5 : plan_value plan given 1 (5 ∷ []) ≡ Some (pos 60)
unfolding plan two_chunks add array given
input_at_5 = refl

-- a shape [2, 3] and a shape [3], in chunks of one row: each row gets the second array
unfoldable rows : List ArrayInfo
rows = array (2 ∷ 3 ∷ []) (1 ∷ 3 ∷ []) None ∷ array (3 ∷ []) (3 ∷ []) None ∷ array (2 ∷ 3 ∷ []) (1 ∷ 3 ∷ []) (Some 0) ∷ []

rows_read : read_chunks rows (add (0 ∷ 1 ∷ []) 2) 1 ≡ cell 0 (1 ∷ 0 ∷ []) ∷ cell 1 (0 ∷ []) ∷ []
unfolding rows add array
rows_read = refl

-- the arrays of six one behind the other, in chunks of eight: scratch 32, output 32, and no input region
unfoldable joined : List ArrayInfo
joined = array (6 ∷ []) (4 ∷ []) None ∷ array (6 ∷ []) (4 ∷ []) None ∷ array (12 ∷ []) (8 ∷ []) (Some 0) ∷ []

unfoldable join : Op
join = Pull (Concat 0) (record { items = 0 ∷ 1 ∷ [] }) 2

joined_room : own_projection joined 0 join ≡ 64
unfolding joined join array
joined_room = refl

joined_tasks : tasks_of joined join ≡ 2
unfolding joined join array
joined_tasks = refl

joined_written : written_chunks joined join 1 ≡ cell 2 (1 ∷ []) ∷ []
unfolding joined join array
joined_written = refl

-- every chunk of each source
joined_read : read_chunks joined join 1 ≡ cell 0 (0 ∷ []) ∷ cell 0 (1 ∷ []) ∷ cell 1 (0 ∷ []) ∷ cell 1 (1 ∷ []) ∷ []
unfolding joined join array
joined_read = refl

unfoldable join_plan : PlanView
join_plan = record { arrays = joined; ops = record { op = join; node = 2; projected = 64 } ∷ []; out = 2; allowed = 64; reserved = 0 }

in_the_second : plan_value join_plan given 2 (7 ∷ []) ≡ Some (pos 20)
unfolding join_plan joined join array given
in_the_second = refl

-- a source without elements has no chunk that is read, and no element is missing
unfoldable with_empty : List ArrayInfo
with_empty = array (0 ∷ []) (1 ∷ []) None ∷ array (6 ∷ []) (4 ∷ []) None ∷ array (6 ∷ []) (4 ∷ []) (Some 0) ∷ []

empty_read : read_chunks with_empty join 0 ≡ cell 1 (0 ∷ []) ∷ cell 1 (1 ∷ []) ∷ []
unfolding with_empty join array
empty_read = refl

-- the numbers 10, 7, 4, .. have no source
unfoldable counted : List ArrayInfo
counted = array (6 ∷ []) (4 ∷ []) (Some 0) ∷ []

unfoldable count : Op
count = Pull (Arange (pos 10) (negsuc 2)) (record { items = [] }) 0

counted_room : own_projection counted 0 count ≡ 32
unfolding counted count array
counted_room = refl

counted_read : read_chunks counted count 1 ≡ []
unfolding counted count array
counted_read = refl

counted_at_5 : plan_value (record { arrays = counted; ops = record { op = count; node = 0; projected = 32 } ∷ []; out = 0; allowed = 32; reserved = 0 }) given 0 (5 ∷ []) ≡ Some (negsuc 4)
unfolding counted count array given
counted_at_5 = refl

-- a kernel: the sum wraps, a Load past the inputs has no value, and neither has a Select one of whose arguments has none
wraps : kernel_value (Load 0 ∷ Const (pos 1) ∷ Two Add Int32 0 1 ∷ []) (λ k. Some (pos 2147483647)) ≡ Some (negsuc 2147483647)
unfolding wrapped
wraps = refl

past : kernel_value (Load 3 ∷ []) (λ k. None) ≡ None
past = refl

not_chosen : kernel_value (Const (pos 1) ∷ Const (pos 7) ∷ Load 0 ∷ Select 0 1 2 ∷ []) (λ k. None) ≡ None
not_chosen = refl

chosen : kernel_value (Const (pos 0) ∷ Const (pos 7) ∷ Load 0 ∷ Select 0 1 2 ∷ []) (λ k. Some (pos 9)) ≡ Some (pos 9)
chosen = refl
