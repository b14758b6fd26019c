use Rattle.std.proofs.Common.{◌≡◌, ◌<◌, ◌*◌, ◌+◌, ℕ, List, [], ◌∷◌, Option, Some, length, unwrap_or, All, sym, ap, ◌∙◌, subst, arith}
use Rattle.cu_kern.specs.Lays.{lay_types, loaded_at, LayFits}
use Rattle.cu_kern.specs.declared.lays.Lay.{Lay}
use Rattle.cu_num.specs.Element.{bytes_at, element_at, element_bytes}
use Rattle.cu_num.specs.declared.layout.Endian.TheVariants.{Little}
use Rattle.cu_num.specs.declared.types.Dtype.{Dtype}
use Rattle.cu_op.proofs.TaskCells.{fit_of}
use Rattle.cu_op.specs.Kernel.{kernel_value}
use Rattle.cu_op.specs.KernelTypes.{KernelFits}
use Rattle.cu_op.specs.Operation.{kernel_of, target_of}
use Rattle.cu_op.specs.Arrays.{array_at}
use Rattle.cu_op.specs.TaskView.{task_op}
use Rattle.cu_op.specs.declared.kernel.Instr.{Instr}
use Rattle.cu_op.specs.declared.layout.ArrayInfo.{ArrayInfo}
use Rattle.cu_shape.specs.Index.{place_of, product, IsInside}
use Rattle.cu_task.proofs.SlabValues.{slab_kernel, slab_lays_fit}
use Rattle.cu_task.proofs.TaskRegions.{target_in}
use Rattle.cu_task.specs.Inputs.{map_code, IsMapOf}
use Rattle.cu_task.specs.Slabs.{made_type, slab_lays}
use Rattle.cu_task.proofs.slabs.run_slab.Goals as goal

pub array-made-requires : goal.array-made-requires
array-made-requires c =
    let task = c.args.task.now in
    let target : c.target.result ≡ target_of (task_op c.args.task.now) = c.target.ensures ∙ ap target_of c.operation-2.ensures.operation in
    subst (λ (a : ℕ). a < length c.args.task.now.plan.arrays) (sym target)
    (target_in task.plan c.operation.ensures.sound task.op (task_op task) (fit_of task.plan c.operation.ensures.sound task.op task.operation) task.number task.within).over.0

pub run_kernel-requires-clause-kernel : goal.run_kernel-requires-clause-kernel
run_kernel-requires-clause-kernel c =
    let target : c.target.result ≡ target_of (task_op c.args.task.now) = c.target.ensures ∙ ap target_of c.operation-2.ensures.operation in
    let made : c.array-made.result.now.layout.dtype ≡ made_type c.args.task.now = ap (λ (i : ArrayInfo). i.layout.dtype) (c.array-made.ensures.array ∙ ap (array_at c.args.task.now.plan.arrays) target) in
    let is : IsMapOf (task_op c.args.task.now) c.in-Some.kernel.now = ap kernel_of (sym c.operation.ensures.operation) ∙ c.in-Some.ensures.kernel in
    subst (λ (t : Dtype). KernelFits c.in-Some.kernel.now.code.items (lay_types c.lays_of_slab.result.items) [] t) (sym made)
    (subst (λ (ls : List Lay). KernelFits c.in-Some.kernel.now.code.items (lay_types ls) [] (made_type c.args.task.now)) (sym c.lays_of_slab.ensures)
    (slab_kernel c.args.task.now c.operation.ensures.sound c.requires.maps c.in-Some.kernel.now is c.args.place c.args.at c.args.count))

pub run_kernel-requires-clause-lays : goal.run_kernel-requires-clause-lays
run_kernel-requires-clause-lays c =
    subst (λ (d : List ℕ). All (LayFits d (length c.args.inputs.now)) c.lays_of_slab.result.items) (sym c.one_axis.ensures)
    (subst (λ (ls : List Lay). All (LayFits (c.args.count ∷ []) (length c.args.inputs.now)) ls) (sym c.lays_of_slab.ensures)
    (slab_lays_fit c.args.task.now c.args.place c.args.at c.args.count (length c.args.inputs.now) c.requires.place c.requires.strip c.requires.other))

pub run_kernel-requires-clause-out : goal.run_kernel-requires-clause-out
run_kernel-requires-clause-out c =
    let target : c.target.result ≡ target_of (task_op c.args.task.now) = c.target.ensures ∙ ap target_of c.operation-2.ensures.operation in
    let made : c.array-made.result.now ≡ array_at c.args.task.now.plan.arrays (target_of (task_op c.args.task.now)) = c.array-made.ensures.array ∙ ap (array_at c.args.task.now.plan.arrays) target in
    rw (c.one_axis.ensures, made) (omega (arith, c.requires.output))

pub returns-clause-values : goal.returns-clause-values
returns-clause-values c k below =
    let target : c.target.result ≡ target_of (task_op c.args.task.now) = c.target.ensures ∙ ap target_of c.operation-2.ensures.operation in
    let made : c.array-made.result.now.layout.dtype ≡ made_type c.args.task.now = ap (λ (i : ArrayInfo). i.layout.dtype) (c.array-made.ensures.array ∙ ap (array_at c.args.task.now.plan.arrays) target) in
    let code : map_code (task_op c.args.task.now) ≡ c.in-Some.kernel.now.code.items = ap (λ (o : Option (List Instr)). unwrap_or o []) (ap kernel_of (sym c.operation.ensures.operation) ∙ c.in-Some.ensures.kernel) in
    let given = c.run_kernel.ensures.value (k ∷ []) (subst (λ (d : List ℕ). IsInside d (k ∷ [])) (sym c.one_axis.ensures) (below, tt)) in
    let value : kernel_value c.in-Some.kernel.now.code.items (loaded_at (slab_lays c.args.task.now c.args.place c.args.at c.args.count) c.args.inputs.now (k ∷ []))
    ≡ Some (element_at Little (made_type c.args.task.now) c.run_kernel.new.out (place_of (c.args.count ∷ []) (k ∷ [])))
    = subst (λ (t : Dtype). kernel_value c.in-Some.kernel.now.code.items (loaded_at (slab_lays c.args.task.now c.args.place c.args.at c.args.count) c.args.inputs.now (k ∷ [])) ≡ Some (element_at Little t c.run_kernel.new.out (place_of (c.args.count ∷ []) (k ∷ [])))) made
    (subst (λ (d : List ℕ). kernel_value c.in-Some.kernel.now.code.items (loaded_at (slab_lays c.args.task.now c.args.place c.args.at c.args.count) c.args.inputs.now (k ∷ [])) ≡ Some (element_at Little c.array-made.result.now.layout.dtype c.run_kernel.new.out (place_of d (k ∷ [])))) c.one_axis.ensures
    (subst (λ (ls : List Lay). kernel_value c.in-Some.kernel.now.code.items (loaded_at ls c.args.inputs.now (k ∷ [])) ≡ Some (element_at Little c.array-made.result.now.layout.dtype c.run_kernel.new.out (place_of c.one_axis.result (k ∷ [])))) c.lays_of_slab.ensures given)) in
    ap (λ (is : List Instr). kernel_value is (loaded_at (slab_lays c.args.task.now c.args.place c.args.at c.args.count) c.args.inputs.now (k ∷ []))) code
    ∙ value ∙ ap (λ (p : ℕ). Some (element_at Little (made_type c.args.task.now) c.run_kernel.new.out p)) (let e : k * 1 + 0 ≡ k = omega arith in e)

pub returns-clause-bytes : goal.returns-clause-bytes
returns-clause-bytes c k below =
    let target : c.target.result ≡ target_of (task_op c.args.task.now) = c.target.ensures ∙ ap target_of c.operation-2.ensures.operation in
    let made : c.array-made.result.now.layout.dtype ≡ made_type c.args.task.now = ap (λ (i : ArrayInfo). i.layout.dtype) (c.array-made.ensures.array ∙ ap (array_at c.args.task.now.plan.arrays) target) in
    let within : k < product c.one_axis.result = rw c.one_axis.ensures (omega (arith, below)) in
    subst (λ (t : Dtype). bytes_at t c.run_kernel.new.out k ≡ element_bytes Little t (element_at Little t c.run_kernel.new.out k)) made (c.run_kernel.ensures.bytes k within)
