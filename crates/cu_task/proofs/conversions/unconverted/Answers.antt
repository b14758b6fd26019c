use Rattle.std.proofs.Common.{[], ◌≡◌, ◌+◌, ◌-◌, ◌++◌, List, length, refl, ap, sym, ◌∙◌, subst, take, arith}
use Rattle.cu_op.specs.KernelTypes.{KernelFits}
use Rattle.cu_op.specs.declared.kernel.Instr.{Instr}
use Rattle.cu_op.specs.declared.kernel.Instr.TheVariants.{Load}
use Rattle.cu_kern.specs.Lays.{lay_types}
use Rattle.cu_task.specs.Strips.{GivesSame}
use Rattle.cu_task.proofs.LastConversion.{unconverted_same}
use Rattle.cu_task.proofs.conversions.unconverted.Goals as goal

pub returns-in-Ok : goal.returns-in-Ok
returns-in-Ok c =
    let code = c.as_slice-code.result.now in
    let types = lay_types c.args.lays.now in
    let t = c.args.t in
    let own = c.in_ok-dtype.dtype in
    let same : c.as_slice-code.result.now ≡ c.args.kernel.now.code.items = c.as_slice-code.ensures.value in
    let long : length c.as_slice-code.result.now ≡ length c.as_slice-code.result.now - 2 + 2 = omega (arith, c.if-code-lt2.false) in
    let fits = subst (λ (is : List Instr). KernelFits is (lay_types c.args.lays.now) [] c.args.t) (sym same) c.requires in
    let shorter = c.in-Ok.ensures.ok ∙ ap (λ (xs : List Instr). xs ++ take (length c.as_slice-code.result.now - 2 + 1) c.as_slice-code.result.now) c.new-shorter.ensures in
    let kept = unconverted_same code types t own (Load 0) (length c.as_slice-code.result.now - 2) c.in_ok-read.read long c.in_ok-read.ensures c.if-read-before.false c.in_ok-dtype.ensures (c.if-not-is_held.ensures refl) fits in
    subst (λ (is : List Instr). GivesSame is (lay_types c.args.lays.now) c.args.t c.try_extend_from_slice.new.self.items c.in_ok-dtype.dtype) same
    (subst (λ (is : List Instr). GivesSame c.as_slice-code.result.now (lay_types c.args.lays.now) c.args.t is c.in_ok-dtype.dtype) (sym shorter) kept)
