use Rattle.std.proofs.Common.{◌≡◌}
use Rattle.cu_form.specs.Form.{args_of}
use Rattle.cu_typing.specs.Joined.{arrays_of}
use Rattle.cu_expr.specs.Typing.{told_of}
use Rattle.cu_expr.proofs.ToldArguments.{told_kept, told_count}
use Rattle.cu_expr.proofs.typing.type_node.Goals as goal

pub type_form-requires-clause-count : goal.type_form-requires-clause-count
type_form-requires-clause-count c =
    let a = c.args-2.ensures in
    let b = c.in_ok-told.ensures in
    let d = c.deref.ensures.value in
    let e = c.in_ok-arrays.ensures in
    let f = c.deref-3.ensures.value in
    let told : c.deref-3.result.now ≡ arrays_of (told_of c.args.infos.now c.args.form.now) = cc in
    rw told (told_count c.args.infos.now c.args.form.now)

pub type_form-requires-clause-arrays : goal.type_form-requires-clause-arrays
type_form-requires-clause-arrays c =
    let a = c.args-2.ensures in
    let b = c.in_ok-told.ensures in
    let d = c.deref.ensures.value in
    let e = c.in_ok-arrays.ensures in
    let f = c.deref-3.ensures.value in
    let told : c.deref-3.result.now ≡ arrays_of (told_of c.args.infos.now c.args.form.now) = cc in
    rw told (told_kept c.args.infos.now (args_of c.args.form.now) c.requires.infos)
