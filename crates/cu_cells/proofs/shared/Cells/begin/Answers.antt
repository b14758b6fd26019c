use Rattle.std.proofs.Common.{◌||◌, ℕ, refl, sym, ap, ◌∙◌, subst}
use Rattle.cu_cells.specs.Cells.{has_cell_in}
use Rattle.cu_cells.specs.Late.{AreStored, lands_now}
use Rattle.cu_cells.specs.Layout.{Laid}
use Rattle.cu_cells.specs.Yard.{known_of}
use Rattle.cu_cells.proofs.Lates.{still_stored, stored_same}
use Rattle.cu_cells.proofs.Lands.{landed_keys}
use Rattle.cu_cells.proofs.Own.{known_is}
use Rattle.cu_cells.proofs.shared.Cells.begin.Goals as goal

pub returns-clause-own : goal.returns-clause-own
returns-clause-own c =
    let own = c.requires in
    let knows = c.land_due.ensures.knows in
    let before = still_stored c.args.pass.now.seat.me.0 c.args.pass.now.late.items own.use_.late in
    let late = stored_same c.args.pass.now.seat.me.0 c.land_due.new.seat.me.0 _ knows.1 knows.3 before in
    record {
      sound = own.sound;
      use_ = record {
        free = c.land_due.ensures.same.2 ∙ own.use_.free;
        live = knows.0 ∙ own.use_.live;
        late = subst (AreStored c.land_due.new.seat.me.0) (sym c.land_due.ensures.waits) late;
      };
      table = c.land_due.ensures.same.0 ∙ own.table;
      laid = knows.1 ∙ own.laid;
      entries = own.entries;
    }

pub returns-clause-known : goal.returns-clause-known
returns-clause-known c =
    let p = c.args.pass.now in
    let knows = c.land_due.ensures.knows in
    known_is p.seat.me.0.laid c.land_due.new.seat.me.0.laid p.seat.me.0.seen c.land_due.new.seat.me.0.seen p.entries.value.items p.entries.value.items p.faults c.saturating_add-pass.result knows.1 knows.2 refl
    ∙ ap (λ (n : ℕ). record (known_of p) { calls = n }) c.saturating_add-pass.ensures

pub returns-clause-landed : goal.returns-clause-landed
returns-clause-landed c key =
    let own = c.requires in
    let p = c.args.pass.now in
    let l = c.args.self.now.layout in
    let knows = c.land_due.ensures.knows in
    ap (λ (x : Laid). has_cell_in x c.land_due.new.seat.me.0.landed key) (knows.1 ∙ own.laid)
    ∙ (ap (λ xs. has_cell_in l xs key) c.land_due.ensures.landed
    ∙ (landed_keys l p.seat.me.0 p.late.items p.seat.me.0.landed key own.sound.fair.apart own.laid own.use_.late
    ∙ ap (λ (x : Laid). has_cell_in x p.seat.me.0.landed key || lands_now l.specs p.late.items key) (sym own.laid)))
