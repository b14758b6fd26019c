use Rattle.std.proofs.Common.{◌≡◌, ◌||◌, sym, ap, ◌∙◌, arith}
use Rattle.std.specs.Str.{bytes_eq}
use Rattle.cu_cells.specs.Layout.{Laid, first_word}
use Rattle.cu_cells.specs.Cells.{spec_key, has_cell_in}
use Rattle.cu_cells.proofs.CellFacts.{cell_of}
use Rattle.cu_cells.proofs.Lates.{stored_later}
use Rattle.cu_cells.proofs.Own.{place_own, known_but, seen_more}
use Rattle.cu_cells.proofs.shared.Cells.put_at.Goals as goal

pub index-requires : goal.index-requires
index-requires c = let count = c.requires.own.sound.starts.count in let less = c.requires.at in omega arith

pub put_cell-requires-clause-cell : goal.put_cell-requires-clause-cell
put_cell-requires-clause-cell c =
    let sound = c.requires.own.sound in
    let l = c.args.self.now.layout in
    let place = place_own l.specs c.args.at sound.fair.apart c.requires.at in
    let cell = cell_of l (spec_key l.specs c.args.at) c.args.bytes.now c.args.at sound.fair c.requires.made c.requires.promised place in
    let first : c.index.result.now ≡ first_word l c.args.at = c.index.ensures ∙ sound.starts.starts c.args.at c.index.result.now c.requires.at in
    rw sound.key (cell.cell c.index.result.now first)

pub returns-clause-own : goal.returns-clause-own
returns-clause-own c =
    let own = c.requires.own in
    let same = c.put_cell.ensures.same in
    let laid = same.3 ∙ own.sound.key in
    record {
      sound = own.sound;
      use_ = record { free = same.1; live = same.2; late = stored_later c.args.pass.now.seat.me.0 c.put_cell.new.seat.me.0 c.args.pass.now.late.items (laid ∙ sym own.laid) c.put_cell.ensures.more own.use_.late };
      table = same.0 ∙ own.table;
      laid = laid;
      entries = own.entries;
    }

pub returns-clause-known : goal.returns-clause-known
returns-clause-known c =
    let own = c.requires.own in
    let laid = c.put_cell.ensures.same.3 ∙ own.sound.key ∙ sym own.laid in
    known_but c.args.pass.now.seat.me.0.laid c.put_cell.new.seat.me.0.laid c.put_cell.new.seat.me.0.seen c.args.pass.now.entries.value.items c.args.pass.now.faults c.args.pass.now.calls laid

pub returns-clause-seen : goal.returns-clause-seen
returns-clause-seen c = λ key.
    let own = c.requires.own in
    let l = c.args.self.now.layout in
    let laid = c.put_cell.ensures.same.3 ∙ own.sound.key in
    let place = place_own l.specs c.args.at own.sound.fair.apart c.requires.at in
    ap (λ (x : Laid). has_cell_in x c.put_cell.new.seat.me.0.seen key) laid ∙ (ap (λ s. has_cell_in l s key) c.put_cell.ensures.seen
    ∙ (seen_more l c.args.pass.now.seat.me.0.seen c.args.at key (spec_key l.specs c.args.at) c.args.bytes.now c.requires.made c.requires.promised place
    ∙ ap (λ (x : Laid). has_cell_in x c.args.pass.now.seat.me.0.seen key || bytes_eq (spec_key l.specs c.args.at) key) (sym own.laid)))

pub returns-clause-landed : goal.returns-clause-landed
returns-clause-landed c =
    let own = c.requires.own in
    let laid = c.put_cell.ensures.same.3 ∙ own.sound.key ∙ sym own.laid in
    (λ k. has_cell_in (laid k) (c.put_cell.ensures.landed k))
