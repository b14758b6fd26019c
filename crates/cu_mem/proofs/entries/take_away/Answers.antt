use Rattle.std.proofs.Common.{refl, ap, ◌∙◌, sym}
use Rattle.std.proofs.lemmas.Slice.Eq.{bytes_eq-Decides}
use Rattle.cu_mem.specs.Entries.{held_in}
use Rattle.cu_mem.proofs.EntryLemmas.{first_seen, none_seen, no_place, away}
use Rattle.cu_mem.proofs.entries.take_away.Goals as goal

pub set_place-requires-clause-first : goal.set_place-requires-clause-first
set_place-requires-clause-first c = first_seen _ _ _ _ _ c.deref.ensures.value refl c.in-Some.ensures

pub returns-in-None-clause-gone : goal.returns-in-None-clause-gone
returns-in-None-clause-gone c key =
    let es = c.args.slots.now.items in
    let gone = c.args.gone.now in
    away (Rattle.std.specs.Str.bytes_eq gone key) (held_in es key)
    (λ same. ap (held_in es) (sym ((bytes_eq-Decides gone key).0 same)) ∙ no_place es gone (none_seen _ _ _ _ c.deref.ensures.value refl c.in-None.ensures))
