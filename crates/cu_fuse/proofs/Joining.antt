-- A merged map as its tests see it.
use Rattle.std.proofs.Common.{◌≡◌, ℕ, ◌<◌, ◌≤◌, ◌&&◌, nat_le, Bool, true, false, List, length, Option, Some, None, refl, arith}
use Rattle.std.specs.Prelude.{OnSome}
use Rattle.std.proofs.lemmas.Bool.Decides.{nat_tests}
use Rattle.cu_op.specs.declared.kernel.Instr.{Instr}
use Rattle.cu_op.specs.declared.operation.Planned.{Planned}
use Rattle.cu_op.specs.Numbers.{number_in}
use Rattle.cu_op.specs.Operation.{kernel_of, reads_of}
use Rattle.cu_op.specs.Projection.{instruction_count}
use Rattle.cu_fuse.specs.Fused.{SettingView, are_maps, is_small, joint_op}
use Rattle.cu_fuse.specs.Merge.{merged_by, merged_map}
use Rattle.cu_fuse.specs.Once.{loaded_by}

-- of a kernel and arrays in place of an input
pub joined : (s : SettingView) (maker reader : Planned) (a : ℕ) (inner outer : List Instr)
    → kernel_of maker.op ≡ Some inner → kernel_of reader.op ≡ Some outer
    → joint_op s maker reader a
    ≡ loaded_by s.once
    (merged_map maker.op reader.op (number_in (reads_of reader.op) a) inner outer)
joined s maker reader a inner outer m r =
    λ i. loaded_by s.once
    (merged_by maker.op reader.op (number_in (reads_of reader.op) a) (m i) (r i))

-- ---- whether it is small

le_true : (n m : ℕ) → n ≤ m → nat_le n m ≡ true
le_true n m h = grind (arith, nat_tests)

le_false : (n m : ℕ) → m < n → nat_le n m ≡ false
le_false n m h = grind (arith, nat_tests)

pub small_is : (s : SettingView) (both : Planned) → length (reads_of both.op) ≤ 8
    → instruction_count both.op ≤ 32 → both.projected ≤ s.allowed → is_small s both ≡ true
small_is s both inputs steps few =
    let i = le_true (length (reads_of both.op)) 8 inputs in
    let n = le_true (instruction_count both.op) 32 steps in
    let p = le_true both.projected s.allowed few in
    λ t. i t && (n t && p t)

first_false : (x y : Bool) → x ≡ false → (x && y) ≡ false
first_false true y h = cc
first_false false y h = refl

second_false : (x y : Bool) → y ≡ false → (x && y) ≡ false
second_false true y h = h
second_false false y h = refl

pub many_inputs : (s : SettingView) (maker reader both : Planned) → 8 < length (reads_of both.op)
    → (are_maps maker reader && is_small s both) ≡ false
many_inputs s maker reader both h =
    second_false (are_maps maker reader) (is_small s both)
    (first_false (nat_le (length (reads_of both.op)) 8) _
    (le_false (length (reads_of both.op)) 8 h))

pub many_steps : (s : SettingView) (maker reader both : Planned) → 32 < instruction_count both.op
    → (are_maps maker reader && is_small s both) ≡ false
many_steps s maker reader both h =
    second_false (are_maps maker reader) (is_small s both)
    (second_false (nat_le (length (reads_of both.op)) 8) _
    (first_false (nat_le (instruction_count both.op) 32) _
    (le_false (instruction_count both.op) 32 h)))

pub much_memory : (s : SettingView) (maker reader both : Planned) → s.allowed < both.projected
    → (are_maps maker reader && is_small s both) ≡ false
much_memory s maker reader both h =
    second_false (are_maps maker reader) (is_small s both)
    (second_false (nat_le (length (reads_of both.op)) 8) _
    (second_false (nat_le (instruction_count both.op) 32) _
    (le_false both.projected s.allowed h)))

pub on_some_then : {X : Type 0} (r : Option X) (P Q : Type 0) → (P → Q) → OnSome r P → OnSome r Q
on_some_then {X} None P Q f h = h
on_some_then {X} (Some x) P Q f h = f h
