use Rattle.cu_dir.proofs.ShareLemmas.{is_shared}
use Rattle.cu_dir.proofs.yard.open.Goals as goal

pub returns-clause-shared : goal.returns-clause-shared
returns-clause-shared g c shown is =
    let pass = c.new_pass-pass.ensures in
    is_shared g.C.Common.laws (record { common = c.args.common; keys = c.args.keys; numbers = c.new-numbers.result }) c.new_pass-pass.result
    (record { common = pass.common; keys = c.requires.keys; hand = rw pass.hand c.requires.own })
    pass.counts.0 pass.counts.1 shown (rw pass.hand is)
