use Rattle.std.proofs.Common.{◌≡◌, ℕ, List, Some, if◌then◌else◌, refl, subst}
use Rattle.std.specs.Str.{bytes_eq}
use Rattle.cu_mem.specs.Entries.{held_in}
use Rattle.cu_mem.proofs.EntryLemmas.{first_seen, none_seen, under-append}
use Rattle.cu_mem.proofs.entries.store.Goals as goal

pub set_place-requires-clause-first : goal.set_place-requires-clause-first
set_place-requires-clause-first c = first_seen _ _ _ _ _ c.deref.ensures.value refl c.in-Some.ensures

pub returns-in-Ok-clause-stored : goal.returns-in-Ok-clause-stored
returns-in-Ok-clause-stored c =
    let es = c.args.slots.now.items in
    let mine = c.entry.inside in
    subst (λ w. (key : List ℕ) → held_in c.push.new.self.items key ≡ (if bytes_eq w.0 key then Some w.1 else held_in es key)) c.entry.view_is
    (λ key. rw c.in-Ok.ensures.items (under-append es (mine.key, Some mine.bytes.items) key (none_seen _ _ _ _ c.deref.ensures.value refl c.in-None.ensures)))
