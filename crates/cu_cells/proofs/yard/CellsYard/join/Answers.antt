use Rattle.std.proofs.Common.{Some, refl, ap, sym, ◌∙◌, subst}
use Rattle.cu_store.specs.Yard.{bytes_under}
use Rattle.cu_cells.specs.Cells.{has_cell_in, entries_in}
use Rattle.cu_cells.specs.Late.{AreStored}
use Rattle.cu_cells.proofs.Joined.{seen_either}
use Rattle.cu_cells.proofs.Lates.{stored_joined}
use Rattle.cu_cells.proofs.yard.CellsYard.join.Goals as goal

pub returns-clause-joined : goal.returns-clause-joined
returns-clause-joined c =
    let mine = c.requires.0.hand in
    let yours = c.requires.1.hand in
    let me = c.join.ensures.both in
    record {
      yard = record {
        promise = ap (λ m. bytes_under m.0.laid.promise) me;
        entries = ap (λ m. Some (entries_in m.0.laid c.args.pass.now.entries.value.items)) me;
        lacks = refl;
      };
      seen = λ key. ap (λ m. has_cell_in m.0.laid m.0.seen key) me ∙ seen_either c.args.pass.now.seat.me.0.laid c.args.other.seat.me.0.laid c.args.pass.now.seat.me.0.seen c.args.other.seat.me.0.seen key (yours.laid ∙ sym mine.laid);
      faults = c.saturating_add-pass.ensures;
      calls = c.saturating_add-pass-2.ensures;
    }

pub returns-clause-own : goal.returns-clause-own
returns-clause-own c =
    let own = c.requires.0.hand in
    let me = c.join.ensures.both in
    record {
      hand = record {
        sound = own.sound;
        use_ = record {
          free = ap (λ m. m.1) me;
          live = ap (λ m. m.0.live) me;
          late = subst (λ m. AreStored m.0 c.args.pass.now.late.items) (sym me) (stored_joined c.args.pass.now.seat.me.0 c.args.other.seat.me.0 c.args.pass.now.late.items own.use_.late);
        };
        table = c.join.ensures.same.0 ∙ own.table;
        laid = ap (λ m. m.0.laid) me ∙ own.laid;
        entries = own.entries;
      };
      rooms = c.requires.0.rooms;
    }

pub returns-clause-landed : goal.returns-clause-landed
returns-clause-landed c key =
    let mine = c.requires.0.hand in
    let yours = c.requires.1.hand in
    ap (λ m. has_cell_in m.0.laid m.0.landed key) c.join.ensures.both
    ∙ seen_either c.args.pass.now.seat.me.0.laid c.args.other.seat.me.0.laid c.args.pass.now.seat.me.0.landed c.args.other.seat.me.0.landed key (yours.laid ∙ sym mine.laid)
