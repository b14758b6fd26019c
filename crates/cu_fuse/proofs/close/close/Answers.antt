use Rattle.std.proofs.Common.{◌≡◌, ◌<◌, List, ℕ, All, length, map, ap, sym, ◌∙◌, subst, arith}
use Rattle.cu_op.specs.declared.operation.Planned.{Planned}
use Rattle.cu_op.specs.declared.layout.ArrayInfo.{ArrayInfo}
use Rattle.cu_op.specs.PlanView.{PlanView}
use Rattle.cu_op.specs.Sound.{Sound}
use Rattle.cu_fuse.specs.Close.{closed, remaining_arrays, remaining_numbers, renumbered_planned}
use Rattle.cu_fuse.specs.Fused.{SettingView}
use Rattle.cu_op.specs.Numbers.{number_in}
use Rattle.cu_fuse.proofs.Scanning.{numbers_few, numbers_within}
use Rattle.cu_fuse.proofs.close.close.Goals as goal

abbrev plan_with : List ArrayInfo → List Planned → ℕ → ℕ → ℕ → PlanView
plan_with arrays ops out allowed reserved = record { arrays = arrays; ops = ops; out = out; allowed = allowed; reserved = reserved }

pub remaining_arrays-requires-clause-numbers : goal.remaining_arrays-requires-clause-numbers
remaining_arrays-requires-clause-numbers c =
    let arrays = c.args.setting.now.arrays in
    let ops = c.args.ops.items in
    let numbers = c.deref-3.ensures.value ∙ c.in_ok-numbers.ensures {u = tt} ∙ ap (remaining_numbers arrays) c.deref.ensures.value in
    subst (All (λ a. a < length arrays)) (sym numbers) (numbers_within arrays ops)

pub remaining_arrays-requires-clause-few_numbers : goal.remaining_arrays-requires-clause-few_numbers
remaining_arrays-requires-clause-few_numbers c =
    let arrays = c.args.setting.now.arrays in
    let numbers = ap length (c.deref-3.ensures.value ∙ c.in_ok-numbers.ensures {u = tt} ∙ ap (remaining_numbers arrays) c.deref.ensures.value) in
    let few = numbers_few arrays c.args.ops.items in
    let all = c.requires.few in
    omega (arith, numbers, few, all)

pub renumber_all-requires : goal.renumber_all-requires
renumber_all-requires c =
    let arrays = c.args.setting.now.arrays in
    let numbers = ap length (c.deref-4.ensures.value ∙ c.in_ok-numbers.ensures {u = tt} ∙ ap (remaining_numbers arrays) c.deref.ensures.value) in
    let few = numbers_few arrays c.args.ops.items in
    let all = c.requires.few in
    omega (arith, numbers, few, all)

pub new_number-out-requires : goal.new_number-out-requires
new_number-out-requires c =
    let arrays = c.args.setting.now.arrays in
    let numbers = ap length (c.deref-5.ensures.value ∙ c.in_ok-numbers.ensures {u = tt} ∙ ap (remaining_numbers arrays) c.deref.ensures.value) in
    let few = numbers_few arrays c.args.ops.items in
    let all = c.requires.few in
    omega (arith, numbers, few, all)

-- the plan, from its parts
plan_is : (s : SettingView) (ops new : List Planned) (numbers : List ℕ) (arrays : List ArrayInfo) (out : ℕ) → numbers ≡ remaining_numbers s.arrays ops → arrays ≡ remaining_arrays s ops 0 numbers
    → new ≡ map (renumbered_planned (number_in numbers)) ops → out ≡ number_in numbers s.out
    → plan_with arrays new out s.allowed s.reserved ≡ closed s ops
plan_is s ops new numbers arrays out n a m o =
    (λ i. plan_with (a i) (m i) (o i) s.allowed s.reserved)
    ∙ ap (λ (l : List ℕ). plan_with (remaining_arrays s ops 0 l) (map (renumbered_planned (number_in l)) ops) (number_in l s.out) s.allowed s.reserved) n

-- the parts that the calls make
pub make-requires : goal.make-requires
make-requires c =
    let s = c.args.setting.now in
    let ops = c.args.ops.items in
    let numbers = c.in_ok-numbers.numbers.items in
    let n = c.in_ok-numbers.ensures {u = tt} ∙ ap (remaining_numbers s.arrays) c.deref.ensures.value in
    let arrays = c.in_ok-arrays.ensures {u = tt} ∙ (λ i. remaining_arrays s (c.deref-2.ensures.value i) 0 (c.deref-3.ensures.value i)) in
    let new = c.renumber_all.ensures ∙ ap (λ (l : List ℕ). map (renumbered_planned (number_in l)) ops) c.deref-4.ensures.value in
    let view = c.setting.view_is in
    let out : c.new_number-out.result ≡ number_in numbers s.out = c.new_number-out.ensures ∙ (λ i. number_in (c.deref-5.ensures.value i) (view i).out) in
    let parts = plan_is s ops c.renumber_all.new.ops.items numbers c.in_ok-arrays.arrays.items c.new_number-out.result n arrays new out in
    subst Sound (sym parts ∙ sym (λ i. plan_with c.in_ok-arrays.arrays.items c.renumber_all.new.ops.items c.new_number-out.result (view i).allowed (view i).reserved)) c.requires.sound
