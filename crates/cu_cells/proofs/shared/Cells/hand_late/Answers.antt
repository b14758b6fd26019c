use Rattle.std.proofs.Common.{◌≡◌, Some, ◌<◌, ◌≤◌, IsTrue, length, length-take, get_or, refl, rules, sym, ap, ◌∙◌, subst, arith}
use Rattle.std.proofs.lemmas.List.Elements.{All-get_or}
use Rattle.cu_store.specs.Yard.{bytes_under}
use Rattle.cu_store.specs.declared.yard.Spec.{Spec}
use Rattle.cu_cells.specs.Cells.{spec_key}
use Rattle.cu_cells.specs.Layout.{Laid, first_word, flag_count, is_named_cell}
use Rattle.cu_cells.proofs.CellFacts.{cell_of}
use Rattle.cu_cells.proofs.Lands.{named_made, spec_made}
use Rattle.cu_cells.proofs.Lates.{first_off, first_taken}
use Rattle.cu_cells.proofs.Outs.{late_value, written_back}
use Rattle.cu_cells.proofs.Own.{key_there, place_own, promised_there}
use Rattle.cu_cells.proofs.WordPlaces.{room_for}
use Rattle.cu_cells.proofs.shared.Cells.hand_late.Goals as goal

pub get_cell-requires-clause-short : goal.get_cell-requires-clause-short
get_cell-requires-clause-short c =
    let own = c.requires.own in
    let l = c.args.self.now.layout in
    let i = c.remove-cell.result.cell in
    let s = c.index-specs-cell.result in
    let some_ : 0 < length c.args.pass.now.late.items = search rules in
    let off = first_off c.args.pass.now.seat.me.0 c.args.pass.now.late.items c.remove-cell.result own.use_.late some_ c.remove-cell.ensures.value in
    let less : i < flag_count l = subst (λ (x : Laid). i < flag_count x) own.laid off.cell in
    let named : IsTrue (is_named_cell l i) = subst (λ (x : Laid). IsTrue (is_named_cell x i)) own.laid off.named in
    let there : get_or l.specs i s ≡ s = ap (λ x. get_or x i s) (sym c.specs.ensures) ∙ sym c.index-specs-cell.is in
    let promised = promised_there l i named in
    let cell = cell_of l (spec_key l.specs i) promised.0 i own.sound.fair (named_made l i named) promised.1 (place_own l.specs i own.sound.fair.apart less) in
    rw own.sound.key (omega (arith, (cell.cell (first_word l i) refl).count, cell.long s there, ap length c.as_mut_slice.ensures.value, ap length c.truncate.ensures.items, length-take s.len c.args.room.items))

pub get_cell-requires-clause-room : goal.get_cell-requires-clause-room
get_cell-requires-clause-room c =
    let own = c.requires.own in
    let l = c.args.self.now.layout in
    let i = c.remove-cell.result.cell in
    let some_ : 0 < length c.args.pass.now.late.items = search rules in
    let off = first_off c.args.pass.now.seat.me.0 c.args.pass.now.late.items c.remove-cell.result own.use_.late some_ c.remove-cell.ensures.value in
    let less : i < flag_count l = subst (λ (x : Laid). i < flag_count x) own.laid off.cell in
    let first : c.index.result.now ≡ first_word l i = c.index.ensures ∙ own.sound.starts.starts i c.index.result.now less in
    rw (own.sound.key, first) (room_for l i)

pub returns-clause-late : goal.returns-clause-late
returns-clause-late c =
    let own = c.requires.own in
    let l = c.args.self.now.layout in
    let i = c.remove-cell.result.cell in
    let s = c.index-specs-cell.result in
    let some_ : 0 < length c.args.pass.now.late.items = search rules in
    let off = first_off c.args.pass.now.seat.me.0 c.args.pass.now.late.items c.remove-cell.result own.use_.late some_ c.remove-cell.ensures.value in
    let less : i < flag_count l = subst (λ (x : Laid). i < flag_count x) own.laid off.cell in
    let named : IsTrue (is_named_cell l i) = subst (λ (x : Laid). IsTrue (is_named_cell x i)) own.laid off.named in
    let there : get_or l.specs i s ≡ s = ap (λ x. get_or x i s) (sym c.specs.ensures) ∙ sym c.index-specs-cell.is in
    let made = spec_made l i s named there in
    let first : c.index.result.now ≡ first_word l i = c.index.ensures ∙ own.sound.starts.starts i c.index.result.now less in
    let fits : s.len ≤ length c.args.room.items = subst (λ (x : Spec). IsTrue x.made → x.len ≤ length c.args.room.items) there (All-get_or (λ (x : Spec). IsTrue x.made → x.len ≤ length c.args.room.items) l.specs i s less c.requires.room) made in
    let cut = length-take s.len c.args.room.items in
    let was : length c.as_mut_slice.result.now ≡ s.len = omega (arith, ap length c.as_mut_slice.ensures.value, ap length c.truncate.ensures.items, cut, fits) in
    record {
      first = c.remove-cell.result;
      rest = first_taken c.args.pass.now.late.items c.remove-cell.result c.remove-cell.new.self.items some_ c.remove-cell.ensures.value c.remove-cell.ensures.items;
      key = sym (key_there l.specs i s less there);
      wait = refl;
      bytes = ap (λ (x : Laid). bytes_under x.promise (spec_key l.specs i)) own.laid
          ∙ (late_value l c.args.self.now.table.shared.key i c.index.result.now s c.get_cell.new.buf own.sound.key own.sound.fair less named there first (c.get_cell.ensures.length ∙ was)
          (λ j within. c.get_cell.ensures.read j (omega (arith, was, within)))
          ∙ ap (λ bs. Some bs) (sym (written_back c.truncate.new.self.len c.get_cell.new.buf c.truncate.new.self.items (search rules) (c.get_cell.ensures.length ∙ ap length c.as_mut_slice.ensures.value))));
    }
