-- An operation by its kernel: a map of it, where it has one.
use Rattle.cu_fuse.specs.Fused.{is_map}
use Rattle.cu_op.proofs.KindLaws.{map_by_kernel}
use Rattle.cu_op.specs.Kind.Map.{MapFits, map_of}
use Rattle.cu_op.specs.Operation.{Fits, kernel_of, reads_of, target_of}
use Rattle.cu_op.specs.declared.kernel.Instr.{Instr}
use Rattle.cu_op.specs.declared.layout.ArrayInfo.{ArrayInfo}
use Rattle.cu_op.specs.declared.operation.Op.{Op}
use Rattle.std.proofs.Common.{◌≡◌, ℕ, true, false, List, Option, Some, None, IfSome, is_some, refl, sym, ◌∙◌, subst}

-- what holds of each map, and of each operation that has no kernel, holds of all operations
pub by_kernel : (P : Op → Type 0) → ((code : List Instr) (ins : List ℕ) (out : ℕ) → P (map_of code ins out))
    → ((op : Op) → kernel_of op ≡ None → P op) → (op : Op) → P op
by_kernel P maps others op = go (kernel_of op) refl
  where
    go : (k : Option (List Instr)) → kernel_of op ≡ k → P op
    go (Some code) is = subst P (sym (map_by_kernel op code is)) (maps code (reads_of op) (target_of op))
    go None is = others op is

-- what fits as an operation fits as the map
pub map_fits : (arrays : List ArrayInfo) (op : Op) (code : List Instr) → kernel_of op ≡ Some code → Fits arrays op
    → MapFits arrays code (reads_of op) (target_of op)
map_fits arrays op code is fits = subst (Fits arrays) (map_by_kernel op code is) fits

-- whether it is a map
pub has_map : (op : Op) (code : List Instr) → kernel_of op ≡ Some code → is_map op ≡ true
has_map op code is = λ i. is_some (is i)

pub no_map : (op : Op) → kernel_of op ≡ None → is_map op ≡ false
no_map op none = λ i. is_some (none i)

pub kernel_is : (op : Op) → is_map op ≡ true → (code : List Instr) × (kernel_of op ≡ Some code)
kernel_is op h = go (kernel_of op) refl
  where
    go : (k : Option (List Instr)) → kernel_of op ≡ k → (code : List Instr) × (kernel_of op ≡ Some code)
    go (Some code) is = (code, is)
    go None is = let f : false ≡ true = sym (no_map op is) ∙ h in cc

-- what `Op::kernel` returns says whether there is one
pub map_told : {T : Type 0} (kernel : Option T) (code : T → List Instr) (op : Op) → is_some kernel ≡ true
    → IfSome kernel (λ k. kernel_of op ≡ Some (code k)) → is_map op ≡ true
map_told (Some k) code op given is = has_map op (code k) is
map_told None code op given is = cc

pub other_told : {T : Type 0} (kernel : Option T) (op : Op) → is_some kernel ≡ false → (kernel ≡ None → kernel_of op ≡ None) → is_map op ≡ false
other_told (Some k) op given is = cc
other_told None op given is = no_map op (is refl)
