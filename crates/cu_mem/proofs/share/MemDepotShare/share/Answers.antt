use Rattle.std.proofs.Common.{Some, length, refl, sym, ap, ◌∙◌, subst}
use Rattle.cu_store.specs.Yard.{bytes_under, Known}
use Rattle.cu_cells.specs.Layout.{Laid}
use Rattle.cu_cells.specs.Cells.{entries_in}
use Rattle.cu_cells.specs.Yard.{known_of, known_entries}
use Rattle.cu_mem.specs.Entries.{held_in}
use Rattle.cu_mem.specs.Sharing.{IsFilled}
use Rattle.cu_mem.proofs.Sharing.{filled_read, filled_made, seen_held}
use Rattle.cu_mem.proofs.share.MemDepotShare.share.Goals as goal

pub returns-clause-shared : goal.returns-clause-shared
returns-clause-shared c =
    let specs = c.args.specs.now in
    let y = c.in-Ok-open.yard in
    let p = c.in-Ok-open.pass in
    let opened = c.in-Ok-open.ensures in
    let same = c.run_script.ensures.known in
    let own = opened.own.hand in
    let held = held_in c.keep_room.new.slots.items in
    let filled : IsFilled specs (length specs) held (known_of p).seen (known_entries p) = subst (λ xs. IsFilled specs (length specs) (held_in xs) (known_of p).seen (known_entries p)) c.deref.ensures.value opened.filled in
    record {
      specs = opened.specs;
      tells = (
        ap (λ (l : Laid). Some (bytes_under l.promise)) (sym own.laid) ∙ ap (λ f. Some f) opened.promise,
        (
          entries_in y.layout y.entries.items,
          refl,
          (λ key served unmade. (λ k. entries_in (sym own.laid k) (sym own.entries k).items key) ∙ filled_read specs held (known_of p).seen (known_entries p) key filled served unmade),
        ),
      );
      promise = ap (λ (k : Known). k.promise) same ∙ opened.promise;
      lacks = ap (λ (k : Known). k.lacks) same;
      seen = λ key made. seen_held ((known_of c.run_script.new.self).seen key) (held key) (ap (λ (k : Known). k.seen key) same ∙ filled_made specs held (known_of p).seen (known_entries p) key filled made);
      faults = ap (λ (k : Known). k.faults) same ∙ opened.counts.0;
      calls = ap (λ (k : Known). k.calls) same ∙ opened.counts.1;
    }

pub returns-clause-fresh : goal.returns-clause-fresh
returns-clause-fresh c =
    let opened = c.in-Ok-open.ensures in
    (c.run_script.ensures.waits ∙ opened.fresh.0, (λ key. ap (λ landed. landed key) c.run_script.ensures.landed ∙ opened.fresh.1 key))
