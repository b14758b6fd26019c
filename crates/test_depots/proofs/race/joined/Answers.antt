use Rattle.std.proofs.Common.{IsTrue, sym, subst}
use Rattle.test_depots.proofs.Pairs.{or_left, or_right}
use Rattle.test_depots.proofs.race.joined.Goals as goal

pub returns-clause-later : goal.returns-clause-later
returns-clause-later g c = record {
  yard = c.join.ensures.joined.yard;
  seen = λ key was. subst IsTrue (sym (c.join.ensures.joined.seen key)) (or_left _ _ was);
}

pub returns-clause-more : goal.returns-clause-more
returns-clause-more g c key had = subst IsTrue (sym (c.join.ensures.joined.seen key)) (or_right _ _ had)
