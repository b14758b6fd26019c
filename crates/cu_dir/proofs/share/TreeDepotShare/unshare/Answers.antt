use Rattle.std.proofs.Common.{arith, refl, ap, ◌≡◌, ◌∙◌}
use Rattle.cu_dir.specs.Lent.{lent_now}
use Rattle.cu_dir.proofs.ShareLemmas.{lent_same, put_under}
use Rattle.cu_dir.proofs.share.TreeDepotShare.unshare.Goals as goal

pub returns-clause-step : goal.returns-clause-step
returns-clause-step g c =
    let lent = g.T.Common.Common.lent in
    let same : lent c.into_common.result ≡ lent_now c.args.self.now =
    ap lent c.into_common.ensures ∙ lent_same (lent c.args.yard.common) (lent_now c.args.self.now) c.requires.may.specs
    (rw (← c.requires.own.common) c.requires.may.promise) in
    record {
      lands = rw (← c.as_str.ensures.value, ← same) (put_under c.as_str.result.now (lent c.into_common.result) _ _ c.take_back.ensures.put);
      late = λ key bytes none. absurd none;
      count = omega (arith, c.saturating_add-self.ensures);
      calls = (omega (arith, c.saturating_add-self-2.ensures, c.calls.ensures), omega (arith, c.saturating_add-self-2.ensures, c.calls.ensures), omega (arith, c.saturating_add-self-2.ensures, c.calls.ensures));
      lacks = refl;
    }
