use Rattle.std.proofs.Common.{◌≡◌, ◌==◌, true, false, rules}
use Rattle.cu_typing_view.specs.Reshaped.{leaves_one}
use Rattle.cu_typing_view.proofs.Divided.{hold_left}
use Rattle.cu_typing_view.proofs.reshaped.can_hold.Goals as goal

pub returns-then-known-ne0 : goal.returns-then-known-ne0
returns-then-known-ne0 c =
    let left : leaves_one c.args.shape.now ≡ true = search rules in
    let some : (c.args.known == 0) ≡ false = search rules in
    hold_left c.args.count c.args.known c.args.shape.now 1099511627777 c.requires.small c.requires.known left some
