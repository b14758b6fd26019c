-- Both keys are to hold the bytes of the pair.
use Rattle.test_depots.specs.Pairs.{pair_map}
use Rattle.test_depots.proofs.shared_keys.exchange.Given as goal

abbrev pub ghosts-exchange_promised : goal.ghosts-exchange_promised
ghosts-exchange_promised g a = record { map = pair_map a.pair.now.a a.pair.now.b a.pair.now.bytes }
