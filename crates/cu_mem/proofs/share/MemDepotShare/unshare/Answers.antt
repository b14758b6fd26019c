use Rattle.std.proofs.Common.{◌≡◌, ◌⊎◌, ◌+◌, ◌++◌, ◌≤◌, ◌||◌, IsTrue, min, map, List, ℕ, Option, inl, inr, ⊎_elim, sym, ap, ◌∙◌, subst}
use Rattle.cu_store.specs.Faults.{last_count}
use Rattle.cu_store.specs.Share.{Lent, PutPromised}
use Rattle.cu_store.specs.Yard.{Known, Served, bytes_under, is_made}
use Rattle.cu_store.specs.Steps.{AllLateIn, OrLate}
use Rattle.cu_cells.specs.Cells.{has_cell_in}
use Rattle.cu_cells.specs.Layout.{Laid}
use Rattle.cu_cells.specs.Yard.{served_by, known_of, waits_of, landed_of, room_size}
use Rattle.cu_cells.proofs.Lands.{landed_made, or_right}
use Rattle.cu_mem.specs.Late.{late_writes}
use Rattle.cu_mem.specs.Entries.{held_in}
use Rattle.cu_mem.specs.Memory.{Memory, contents, lent_by}
use Rattle.cu_mem.specs.Sharing.{lent_in, there_by, late_puts, HoldsFrom}
use Rattle.cu_mem.proofs.Sharing.{held_of, gives_step, late_over}
use Rattle.cu_mem.proofs.share.MemDepotShare.unshare.Goals as goal

pub give_back-requires-clause-own : goal.give_back-requires-clause-own
give_back-requires-clause-own c = c.take_rooms-rooms.ensures.own c.args.pass c.requires.own

pub give_back-requires-clause-rooms : goal.give_back-requires-clause-rooms
give_back-requires-clause-rooms c = c.take_rooms-rooms.ensures.rooms c.args.pass c.requires.own ∙ ap (λ (s : Served). map room_size s.specs) (sym c.take_rooms-rooms.ensures.served)

pub returns-clause-held : goal.returns-clause-held
returns-clause-held c key made known =
    let l = lent_by c.args.self.now in
    let same : lent_in c.take_rooms-rooms.new.self c.args.pass ≡ l = (λ k. record { specs = (ap (λ (s : Served). s.specs) c.take_rooms-rooms.ensures.served ∙ c.requires.may.specs) k; promise = c.requires.may.promise k }) in
    let seen = there_by c.args.pass in
    held_of l seen (held_in c.give_back.new.slots.items) key (subst (λ (x : Lent). HoldsFrom 0 x seen (held_in c.give_back.new.slots.items)) same c.give_back.ensures.held) made (ap (λ b. b || landed_of c.args.pass key) known)

pub returns-clause-step : goal.returns-clause-step
returns-clause-step c =
    let l = lent_by c.args.self.now in
    let same : lent_in c.take_rooms-rooms.new.self c.args.pass ≡ l = (λ k. record { specs = (ap (λ (s : Served). s.specs) c.take_rooms-rooms.ensures.served ∙ c.requires.may.specs) k; promise = c.requires.may.promise k }) in
    let slots = c.give_back.new.slots.items in
    let view : held_in c.self.inside.slots.items ≡ contents c.args.self.now = ap (λ (m : Memory). contents m) c.self.view_is in
    let own = c.requires.own.hand in
    let y = c.args.yard.layout in
    let lent : record { specs = y.specs; promise = bytes_under y.promise } ≡ l = (λ k. record { specs = c.requires.may.specs k; promise = (ap (λ (x : Laid). bytes_under x.promise) (sym own.laid) ∙ c.requires.may.promise) k }) in
    let served = c.take_rooms-rooms.ensures.served in
    let puts : late_puts (served_by c.give_back.new.yard).specs (known_of c.give_back.new.pass).promise (waits_of c.give_back.new.pass) ≡ late_puts y.specs (bytes_under y.promise) c.args.pass.late.items =
    (λ k. late_puts ((ap (λ x. (served_by x).specs) c.give_back.ensures.same ∙ ap (λ (x : Served). x.specs) served) k) ((c.give_back.ensures.promise ∙ ap (λ (x : Laid). bytes_under x.promise) own.laid) k) (c.give_back.ensures.kept.0 k)) in
    let either = ⊎_elim (λ is. inl (is ∙ ap (λ ws. c.self.inside.late.items ++ ws) puts)) (λ same. inr same) c.take_late.ensures.either in
    let made : c.calls.result ≡ c.args.pass.calls = c.calls.ensures ∙ (ap (λ (k : Known). k.calls) c.take_late.ensures.known ∙ c.give_back.ensures.counts.1) in
    gives_step (PutPromised l) c.args.self.now slots c.take_late.new.late.items c.added-self-inside.result c.added-self-inside-2.result c.args.pass.calls
    (λ key. subst (λ (x : Lent). (held_in slots key ≡ contents c.args.self.now key) ⊎ PutPromised x key (held_in slots key)) same
    (subst (λ (o : List ℕ → Option (List ℕ)). (held_in slots key ≡ o key) ⊎ PutPromised (lent_in c.take_rooms-rooms.new.self c.args.pass) key (held_in slots key)) view (c.give_back.ensures.back key)))
    (subst (λ (x : Lent). AllLateIn (late_writes c.take_late.new.late.items) (OrLate (PutPromised x) (late_writes c.args.self.now.late))) lent
    (subst (λ ws. AllLateIn (late_writes c.take_late.new.late.items) (OrLate (PutPromised (record { specs = y.specs; promise = bytes_under y.promise })) (late_writes ws))) (ap (λ (m : Memory). m.late) c.self.view_is)
    (late_over y c.args.pass.seat.me.0 c.args.pass.late.items c.self.inside.late.items c.take_late.new.late.items own.laid own.use_.late either)))
    (subst (λ n. n ≤ c.added-self-inside.result) (ap (λ (m : Memory). m.faults) c.self.view_is) c.added-self-inside.ensures.grows)
    (c.added-self-inside-2.ensures.sum ∙ (λ k. min ((c.self.view_is k).calls + made k) last_count))

pub returns-clause-landed : goal.returns-clause-landed
returns-clause-landed c key landed =
    let own = c.requires.own.hand in
    let y = c.args.yard.layout in
    let l = lent_in c.take_rooms-rooms.new.self c.args.pass in
    let made : IsTrue (is_made y.specs key) = landed_made y c.args.pass.seat.me.0.landed key (subst (λ (x : Laid). IsTrue (has_cell_in x c.args.pass.seat.me.0.landed key)) own.laid landed) in
    held_of l (there_by c.args.pass) (held_in c.give_back.new.slots.items) key c.give_back.ensures.held
    (subst (λ (s : Served). IsTrue (is_made s.specs key)) (sym c.take_rooms-rooms.ensures.served) made) (or_right ((known_of c.args.pass).seen key) (landed_of c.args.pass key) landed)
