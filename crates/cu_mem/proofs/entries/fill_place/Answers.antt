use Rattle.std.proofs.Common.{◌≡◌, true, false, refl, sym, ◌∙◌}
use Rattle.cu_mem.proofs.EntryLemmas.{first_seen, none_seen}
use Rattle.cu_mem.proofs.entries.fill_place.Goals as goal

pub set_place-requires-clause-first : goal.set_place-requires-clause-first
set_place-requires-clause-first c = first_seen _ _ _ _ _ c.deref.ensures.value refl c.in-Some.ensures

pub unreachable-requires : goal.unreachable-requires
unreachable-requires c =
    let none = none_seen c.args.slots.now.items c.deref.result.now c.args.key.now c.args.key.now c.deref.ensures.value refl c.in-None.ensures in
    let no_ : true ≡ false = sym c.requires ∙ none in cc
