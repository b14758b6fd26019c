use Rattle.std.proofs.Common.{◌≡◌, sym, ◌∙◌, subst, refl, arith}
use Rattle.cu_cells.specs.Layout.{first_word}
use Rattle.cu_cells.specs.Late.{AreStored}
use Rattle.cu_cells.specs.Cells.{spec_key, has_cell_in}
use Rattle.cu_cells.proofs.CellFacts.{cell_of}
use Rattle.cu_cells.proofs.Lates.{stored_later, stored_with, put_off_here}
use Rattle.cu_cells.proofs.Own.{place_own}
use Rattle.cu_cells.proofs.shared.Cells.put_late.Goals as goal

pub index-requires : goal.index-requires
index-requires c = let count = c.requires.own.sound.starts.count in let less = c.requires.at in omega arith

pub store_cell-requires-clause-cell : goal.store_cell-requires-clause-cell
store_cell-requires-clause-cell c =
    let sound = c.requires.own.sound in
    let l = c.args.self.now.layout in
    let place = place_own l.specs c.args.at sound.fair.apart c.requires.at in
    let cell = cell_of l (spec_key l.specs c.args.at) c.args.bytes.now c.args.at sound.fair c.requires.made c.requires.promised place in
    let first : c.index.result.now ≡ first_word l c.args.at = c.index.ensures ∙ sound.starts.starts c.args.at c.index.result.now c.requires.at in
    rw sound.key (cell.cell c.index.result.now first)

pub returns-in-Some-clause-own : goal.returns-in-Some-clause-own
returns-in-Some-clause-own c =
    let own = c.requires.own in
    let l = c.args.self.now.layout in
    let same = c.store_cell.ensures.same in
    let laid = same.3 ∙ own.sound.key in
    let v = c.store_cell.new.seat.me.0 in
    let place = place_own l.specs c.args.at own.sound.fair.apart c.requires.at in
    let cell = cell_of l (spec_key l.specs c.args.at) c.args.bytes.now c.args.at own.sound.fair c.requires.made c.requires.promised place in
    let named = (cell.cell (first_word l c.args.at) refl).named in
    let before = stored_later c.args.pass.now.seat.me.0 v c.args.pass.now.late.items (laid ∙ sym own.laid) c.store_cell.ensures.more own.use_.late in
    let new = put_off_here v l c.args.at c.in-Some.wait laid c.requires.at c.store_cell.ensures.stored named in
    record {
      sound = own.sound;
      use_ = record {
        free = same.1;
        live = same.2;
        late = subst (AreStored v) (sym c.put_off.ensures) (stored_with v c.args.pass.now.late.items c.args.at c.in-Some.wait before new);
      };
      table = same.0 ∙ own.table;
      laid = laid;
      entries = own.entries;
    }

pub returns-in-Some-clause-landed : goal.returns-in-Some-clause-landed
returns-in-Some-clause-landed c =
    let own = c.requires.own in
    let laid = c.store_cell.ensures.same.3 ∙ (own.sound.key ∙ sym own.laid) in
    (λ k. has_cell_in (laid k) (c.store_cell.ensures.seen.1 k))
