use Rattle.std.proofs.Common.{◌≡◌, rules}
use Rattle.cu_name.specs.Keys.{made_prefix_of}
use Rattle.cu_name.proofs.Prefixes.{length-made_prefix_of}
use Rattle.cu_name.proofs.keys.made_prefix.Goals as goal

pub returns-clause-short : goal.returns-clause-short
returns-clause-short c = λ small.
    let e : c.key_of.result ≡ made_prefix_of c.args.name.now c.args.k = search rules in
    rw e (length-made_prefix_of c.args.name.now c.args.k c.requires.short small)
