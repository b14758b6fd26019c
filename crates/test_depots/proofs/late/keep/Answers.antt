use Rattle.std.proofs.Common.{◌≡◌, false, Option, Some, None, inr, refl}
use Rattle.std.specs.Option.{is_some}
use Rattle.test_depots.specs.declared.late.FailedPut.{FailedPut}
use Rattle.test_depots.proofs.late.keep.Goals as goal

none_kept : (late : Option FailedPut) → false ≡ is_some late → late ≡ None
none_kept None is = refl
none_kept (Some put) is = absurd (cc)

pub returns-in-Ok : goal.returns-in-Ok
returns-in-Ok c =
    inr (record { key = c.args.key.now; bytes = c.in-Ok.bytes; wait = c.in-Some.wait }, refl, none_kept c.args.late.now c.if-is_some.ensures, c.in-Some.is, refl, c.in-Ok.ensures)
