use Rattle.cu_mem.proofs.EntryLemmas.{under-set, places-set}
use Rattle.std.proofs.Common.{option_map}
use Rattle.cu_mem.proofs.entries.set_place.Goals as goal

pub returns-clause-held : goal.returns-clause-held
returns-clause-held c key = under-set c.args.slots.now.items c.args.at (c.args.key, option_map (λ v. v.items) c.args.bytes) key c.requires.first

pub returns-clause-places : goal.returns-clause-places
returns-clause-places c key = places-set c.args.slots.now.items c.args.at (c.args.key, option_map (λ v. v.items) c.args.bytes) key c.requires.first
