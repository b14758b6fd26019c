use Rattle.std.proofs.Common.{None, refl}
use Rattle.cu_mem.proofs.EntryLemmas.{first_seen, none_seen, found_place, place-append, kept_append}
use Rattle.cu_mem.proofs.entries.keep_place.Goals as goal

pub returns-in-Some-clause-kept : goal.returns-in-Some-clause-kept
returns-in-Some-clause-kept c = found_place c.args.slots.now.items c.in-Some.field-0 c.args.key.now (first_seen _ _ _ _ _ c.deref.ensures.value refl c.in-Some.ensures)

pub returns-clause-held : goal.returns-clause-held
returns-clause-held c k =
    rw (c.in-Ok-push.ensures.items, c.reserve.ensures.items)
    (kept_append c.args.slots.now.items c.args.key.now k (none_seen _ _ _ _ c.deref.ensures.value refl c.in-None.ensures))

pub returns-clause-kept : goal.returns-clause-kept
returns-clause-kept c = rw (c.in-Ok-push.ensures.items, c.reserve.ensures.items) (place-append c.args.slots.now.items (c.args.key.now, None))
