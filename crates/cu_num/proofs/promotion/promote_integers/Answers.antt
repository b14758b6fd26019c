use Rattle.std.proofs.Common.{sym, ◌∙◌}
use Rattle.cu_num.proofs.Promoted.{wider_signed, wider_unsigned, signed_first, signed_second}
use Rattle.cu_num.proofs.promotion.promote_integers.Goals as goal

pub returns-in-true-true : goal.returns-in-true-true
returns-in-true-true c = wider_signed c.args.a c.args.b c.wider.result c.requires.first c.requires.second (sym (c.in-true-true.ensures)) (sym (c.in-true-true.ensures')) c.wider.ensures.first c.wider.ensures.second

pub returns-in-true-false : goal.returns-in-true-false
returns-in-true-false c = c.promote_mixed.ensures ∙ sym (signed_first c.args.a c.args.b c.requires.second (sym (c.in-true-false.ensures)) (sym (c.in-true-false.ensures')))

pub returns-in-false-true : goal.returns-in-false-true
returns-in-false-true c = c.promote_mixed-in-false-true.ensures ∙ sym (signed_second c.args.a c.args.b c.requires.first (sym (c.in-false-true.ensures)) (sym (c.in-false-true.ensures')))

pub returns-in-false-false : goal.returns-in-false-false
returns-in-false-false c = wider_unsigned c.args.a c.args.b c.wider-in-false-false.result c.requires.first c.requires.second (sym (c.in-false-false.ensures)) (sym (c.in-false-false.ensures')) c.wider-in-false-false.ensures.first c.wider-in-false-false.ensures.second
