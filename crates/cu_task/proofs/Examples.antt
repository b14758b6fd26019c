-- How often a task calls a key, on worked examples: int32 arrays of six elements in chunks of four.
use Rattle.cu_num.specs.declared.functions.Fn2.TheVariants.{Add}
use Rattle.cu_num.specs.declared.layout.Encoding.TheVariants.{Plain}
use Rattle.cu_num.specs.declared.layout.Endian.TheVariants.{Little}
use Rattle.cu_num.specs.declared.layout.Sep.TheVariants.{Slash}
use Rattle.cu_num.specs.declared.types.Dtype.TheVariants.{Int32}
use Rattle.cu_op.specs.PlanView.{PlanView}
use Rattle.cu_op.specs.Schedule.{key_of}
use Rattle.cu_op.specs.Chunks.{cell}
use Rattle.cu_op.specs.declared.kernel.Instr.TheVariants.{Load, Two}
use Rattle.cu_op.specs.declared.layout.ArrayInfo.{ArrayInfo}
use Rattle.cu_op.specs.declared.operation.Op.{Op}
use Rattle.cu_op.specs.declared.operation.Op.TheVariants.{Map, Pull}
use Rattle.cu_op.specs.declared.operation.Planned.{Planned}
use Rattle.cu_origin.specs.declared.pull.Pull.TheVariants.{Concat}
use Rattle.cu_task.specs.Calls.{calls_of, tally_of}
use Rattle.std.proofs.Common.{◌≡◌, ℕ, Bool, true, false, List, [], ◌∷◌, Option, Some, None, if◌then◌else◌, refl, codes, pos}
use Rattle.std.specs.Fmt.{digits}
use Rattle.std.specs.Prelude.{bytes_eq}

unfoldable array : List ℕ → ℕ → ℕ → Option ℕ → Bool → ArrayInfo
array name size chunk made inlined = record {
  prefix = name;
  layout = record { dtype = Int32; grid = record { shape = size ∷ []; chunk = chunk ∷ [] }; encoding = Plain Slash; endian = Little; fill = pos 0 };
  maker = made;
  inlined = inlined;
}

unfoldable add : List ℕ → ℕ → Op
add ins out = Map (record { code = record { items = Load 0 ∷ Load 1 ∷ Two Add Int32 0 1 ∷ [] } }) (record { items = ins }) out

unfoldable planned : Op → Planned
planned op = record { op = op; node = 0; projected = 0 }

unfoldable plan : List ArrayInfo → List Planned → PlanView
plan arrays ops = record { arrays = arrays; ops = ops; out = 2; allowed = 0; reserved = 0 }

-- how often task `task` of operation k calls the key of a chunk: 1 is the weight of that key, and 0 of all others
unfoldable times : PlanView → ℕ → ℕ → ℕ → ℕ → ℕ
times p k task a chunk = tally_of (λ key. if bytes_eq key (key_of p.arrays (cell a (chunk ∷ []))) then 1 else 0) p k task

-- ---- a sum

unfoldable added : List ℕ → PlanView
added ins = plan (array (codes "a") 6 4 None false ∷ array (codes "b") 6 4 None false ∷ array (codes "c") 6 4 (Some 0) false ∷ []) (planned (add ins 2) ∷ [])

-- each chunk of its own once, and no other
first_read : times (added (0 ∷ 1 ∷ [])) 0 1 0 1 ≡ 1
unfolding digits times added plan planned add array
first_read = refl

second_read : times (added (0 ∷ 1 ∷ [])) 0 1 1 1 ≡ 1
unfolding digits times added plan planned add array
second_read = refl

written : times (added (0 ∷ 1 ∷ [])) 0 1 2 1 ≡ 1
unfolding digits times added plan planned add array
written = refl

not_read : times (added (0 ∷ 1 ∷ [])) 0 1 0 0 ≡ 0
unfolding digits times added plan planned add array
not_read = refl

not_written : times (added (0 ∷ 1 ∷ [])) 0 1 2 0 ≡ 0
unfolding digits times added plan planned add array
not_written = refl

-- of an input that stands twice each chunk is read twice
read_twice : times (added (1 ∷ 1 ∷ [])) 0 0 1 0 ≡ 2
unfolding digits times added plan planned add array
read_twice = refl

never_read : times (added (1 ∷ 1 ∷ [])) 0 0 0 0 ≡ 0
unfolding digits times added plan planned add array
never_read = refl

-- ---- an array that is made where it is read: the sum of a and b, to which b is added

unfoldable nested : PlanView
nested = plan (array (codes "a") 6 4 None false ∷ array (codes "b") 6 4 None false ∷ array (codes "c") 6 4 (Some 0) true ∷ array (codes "d") 6 4 (Some 1) false ∷ [])
    (planned (add (0 ∷ 1 ∷ []) 2) ∷ planned (add (2 ∷ 1 ∷ []) 3) ∷ [])

-- it isn't called, but the chunks by which it is made are
made_inside : times nested 1 1 2 1 ≡ 0
unfolding digits times nested plan planned add array
made_inside = refl

read_inside : times nested 1 1 0 1 ≡ 1
unfolding digits times nested plan planned add array
read_inside = refl

read_inside_too : times nested 1 1 1 1 ≡ 2
unfolding digits times nested plan planned add array
read_inside_too = refl

all_calls : calls_of nested 1 1 ≡ 4
unfolding nested plan planned add array
all_calls = refl

-- ---- a view: a and b one behind the other, in chunks of eight

unfoldable joined : PlanView
joined = plan (array (codes "a") 6 4 None false ∷ array (codes "b") 6 4 None false ∷ array (codes "c") 12 8 (Some 0) false ∷ []) (planned (Pull (Concat 0) (record { items = 0 ∷ 1 ∷ [] }) 2) ∷ [])

-- the second region has elements of both chunks of b, and none of a
view_read : times joined 0 1 1 1 ≡ 1
unfolding digits times joined plan planned array
view_read = refl

view_not_needed : times joined 0 1 0 1 ≡ 0
unfolding digits times joined plan planned array
view_not_needed = refl

view_calls : calls_of joined 0 1 ≡ 3
unfolding joined plan planned array
view_calls = refl
