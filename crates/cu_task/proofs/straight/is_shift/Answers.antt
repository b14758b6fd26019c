use Rattle.std.specs.Prelude.{nat_eq}
use Rattle.std.specs.Bool.{OnTrue}
use Rattle.std.proofs.Common.{ℕ, ◌-◌, ap, sym, ◌∙◌, subst}
use Rattle.cu_view_box.specs.declared.way.Way.{Way}
use Rattle.cu_view_box.specs.declared.way.Way.TheVariants.{Up}
use Rattle.cu_task.specs.Straight.{IsShift}
use Rattle.cu_task.proofs.StraightReads.{on_equal, fixed_shift, up_shift}
use Rattle.cu_task.proofs.straight.is_shift.Goals as goal

pub returns-then-count-le1 : goal.returns-then-count-le1
returns-then-count-le1 c =
    subst (λ (way : Way). OnTrue (nat_eq c.in-Fixed.index c.args.first) (IsShift way c.args.axis c.args.from c.args.count c.args.first)) (sym c.in-Fixed.is)
    (on_equal c.in-Fixed.index c.args.first (λ same. fixed_shift c.in-Fixed.index c.args.axis c.args.from c.args.count c.args.first c.if-count-le1.true same))

pub returns-then-from-first : goal.returns-then-from-first
returns-then-from-first c =
    let tests = c.if-from-first.true in
    subst (λ (way : Way). OnTrue (nat_eq c.in-Up.start (c.args.first - c.args.from)) (IsShift way c.args.axis c.args.from c.args.count c.args.first))
    (sym (c.in-Up.is ∙ ap (λ (n : ℕ). Up n c.in-Up.start c.in-Up.step) tests.0))
    (on_equal c.in-Up.start (c.args.first - c.args.from) (λ same. up_shift c.args.axis c.in-Up.start c.in-Up.step c.args.from c.args.count c.args.first tests.1 tests.2 same))
