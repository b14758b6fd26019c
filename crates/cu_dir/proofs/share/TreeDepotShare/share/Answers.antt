use Rattle.std.proofs.Common.{◌≡◌, sym}
use Rattle.cu_store.specs.Share.{Lent}
use Rattle.cu_store.specs.Yard.{bytes_under}
use Rattle.cu_dir.specs.Common.{IsLentAs}
use Rattle.cu_dir.specs.Tree.{values_under}
use Rattle.cu_dir.proofs.ShareLemmas.{settled}
use Rattle.cu_dir.proofs.share.TreeDepotShare.share.Goals as goal

pub returns-clause-shared : goal.returns-clause-shared
returns-clause-shared g c =
    let lend = c.lend-answer.ensures in
    let answered = c.in_ok-common.ensures.answered in
    let asked : Lent = record { specs = c.in-Ok.keys; promise = bytes_under c.args.promise.now.map } in
    let lent = settled c.lend-answer.result (c.in_ok-common.common, c.in_ok-common.hand) (λ r. g.T.Common.Common.lent r.0 ≡ asked) answered lend.lent in
    let known = settled c.lend-answer.result (c.in_ok-common.common, c.in_ok-common.hand)
    (λ r. IsLentAs c.in-Ok.keys (values_under c.as_str.result.now (g.T.Tree.files c.args.self.now.tree)) (g.T.Common.Common.known r.1)) answered lend.known in
    rw (sym c.in-Ok.ensures, sym lent) (c.open.ensures.shared _ (rw (lent, lend.kept, sym c.as_str.ensures.value) known))
