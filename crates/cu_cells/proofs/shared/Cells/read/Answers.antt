use Rattle.std.proofs.Common.{refl, inl, ◌≡◌, ℕ, ◌+◌, ◌<◌, sym, ap, ◌∙◌, subst, arith, rules, get_or, length, length-take, length-append, length-drop, drop, take, if◌then◌else◌, ◌++◌, ◌*◌, ◌/◌, ◌%◌}
use Rattle.std.specs.Int.{w64, to_le_bytes, from_le_bytes}
use Rattle.cu_store.specs.Yard.{bytes_under}
use Rattle.cu_cells.specs.Layout.{first_word, cell_size, value_at}
use Rattle.cu_cells.specs.Cells.{spec_key, has_cell_in, entries_in}
use Rattle.cu_cells.proofs.CellFacts.{read_of}
use Rattle.cu_cells.proofs.Own.{place_own}
use Rattle.cu_cells.proofs.WordPlaces.{room_for}
use Rattle.cu_cells.proofs.Entries.{gets_copied, held_entry, unmade}
use Rattle.cu_cells.proofs.Gets.{byte_at_back, front_read, held_seen}
use Rattle.cu_cells.proofs.shared.Cells.read.Goals as goal

pub get_cell-requires-clause-known : goal.get_cell-requires-clause-known
get_cell-requires-clause-known c =
    let own = c.requires.own in
    let l = c.args.self.now.layout in
    let s = c.index-specs-at.result in
    inl (read_of l c.args.pass.now.seat.me.0.laid c.args.pass.now.seat.me.0.seen (spec_key c.args.self.now.layout.specs c.args.at) c.args.at s own.laid own.sound.fair (place_own c.args.self.now.layout.specs c.args.at own.sound.fair.apart c.requires.at)
    (ap (λ x. get_or x c.args.at s) (sym c.specs.ensures) ∙ sym c.index-specs-at.is) c.if-spec.true c.requires.known).among

pub get_cell-requires-clause-short : goal.get_cell-requires-clause-short
get_cell-requires-clause-short c =
    let own = c.requires.own in
    let l = c.args.self.now.layout in
    let s = c.index-specs-at.result in
    let r = read_of l c.args.pass.now.seat.me.0.laid c.args.pass.now.seat.me.0.seen (spec_key c.args.self.now.layout.specs c.args.at) c.args.at s own.laid own.sound.fair (place_own c.args.self.now.layout.specs c.args.at own.sound.fair.apart c.requires.at)
    (ap (λ x. get_or x c.args.at s) (sym c.specs.ensures) ∙ sym c.index-specs-at.is) c.if-spec.true c.requires.known in
    rw own.sound.key (omega (arith, (r.cell.cell (first_word l c.args.at) refl).count, r.long, length-take c.min-n.result c.args.buf.now, c.min-n.ensures))

pub get_cell-requires-clause-room : goal.get_cell-requires-clause-room
get_cell-requires-clause-room c =
    let own = c.requires.own in
    let l = c.args.self.now.layout in
    let s = c.index-specs-at.result in
    let r = read_of l c.args.pass.now.seat.me.0.laid c.args.pass.now.seat.me.0.seen (spec_key c.args.self.now.layout.specs c.args.at) c.args.at s own.laid own.sound.fair (place_own c.args.self.now.layout.specs c.args.at own.sound.fair.apart c.requires.at)
    (ap (λ x. get_or x c.args.at s) (sym c.specs.ensures) ∙ sym c.index-specs-at.is) c.if-spec.true c.requires.known in
    let first : c.index.result.now ≡ first_word l c.args.at = c.index.ensures ∙ own.sound.starts.starts c.args.at c.index.result.now c.requires.at in
    rw (own.sound.key, first) (room_for l c.args.at)

pub returns-then-spec-clause-got : goal.returns-then-spec-clause-got
returns-then-spec-clause-got c =
    let own = c.requires.own in
    let l = c.args.self.now.layout in
    let s = c.index-specs-at.result in
    let r = read_of l c.args.pass.now.seat.me.0.laid c.args.pass.now.seat.me.0.seen (spec_key c.args.self.now.layout.specs c.args.at) c.args.at s own.laid own.sound.fair (place_own c.args.self.now.layout.specs c.args.at own.sound.fair.apart c.requires.at)
    (ap (λ x. get_or x c.args.at s) (sym c.specs.ensures) ∙ sym c.index-specs-at.is) c.if-spec.true c.requires.known in
    let first : c.index.result.now ≡ first_word l c.args.at = c.index.ensures ∙ own.sound.starts.starts c.args.at c.index.result.now c.requires.at in
    let n = c.min-n.result in
    let cut = length-take n c.args.buf.now in
    let long : length c.get_cell.new.buf ≡ n = omega (arith, c.get_cell.ensures.length, cut, c.min-n.ensures) in
    let same : (i : ℕ) → i < n → get_or c.get_cell.new.buf i 0 ≡ get_or r.bytes i 0 = λ i less.
    let inside : i / 8 < cell_size l c.args.at = omega (arith, (r.cell.cell c.index.result.now first).count, r.long, c.min-n.ensures, less) in
    let value : value_at c.args.self.now.table.shared.key (c.index.result.now + i / 8) ≡ from_le_bytes w64 (drop (8 * (i / 8)) r.bytes) = rw (own.sound.key, first) ((r.cell.cell (first_word l c.args.at) refl).promised (i / 8) inside) in
    c.get_cell.ensures.read i (omega (arith, cut, c.min-n.ensures, less)) ∙ (ap (λ (x : ℕ). get_or (to_le_bytes w64 x) (i % 8) 0) value ∙ byte_at_back r.bytes i r.small) in
    let whole : length (c.get_cell.new.buf ++ drop n c.args.buf.now) ≡ length c.args.buf.now = omega (arith, length-append c.get_cell.new.buf (drop n c.args.buf.now), length-drop n c.args.buf.now, long, c.min-n.ensures) in (
      r.bytes,
      held_seen l c.args.pass.now.seat.me.0.laid c.args.pass.now.seat.me.0.seen (spec_key c.args.self.now.layout.specs c.args.at) r.bytes (entries_in c.args.pass.now.seat.me.0.laid c.args.pass.now.entries.value.items (spec_key c.args.self.now.layout.specs c.args.at)) own.laid r.known r.told,
      sym r.long,
      subst (λ (x : ℕ). take x (c.get_cell.new.buf ++ drop n c.args.buf.now) ≡ take (length (c.get_cell.new.buf ++ drop n c.args.buf.now)) r.bytes) r.long
          (front_read r.bytes c.get_cell.new.buf (drop n c.args.buf.now) c.args.buf.now n (omega (arith, c.min-n.ensures, r.long)) long whole same),
    )

pub returns-clause-present : goal.returns-clause-present
returns-clause-present c made =
    let own = c.requires.own in
    let s = c.index-specs-at.result in
    unmade c.args.self.now.layout (spec_key c.args.self.now.layout.specs c.args.at) c.args.at s _ own.sound.fair (place_own c.args.self.now.layout.specs c.args.at own.sound.fair.apart c.requires.at)
    (ap (λ x. get_or x c.args.at s) (sym c.specs.ensures) ∙ sym c.index-specs-at.is) c.if-spec.false made

pub returns-clause-got : goal.returns-clause-got
returns-clause-got c =
    let own = c.requires.own in
    let s = c.index-specs-at.result in
    let l = c.args.self.now.layout in
    let less : c.args.at < length c.args.self.now.entries.items = search (rules, own.sound.entries) in
    gets_copied (λ key. if has_cell_in c.args.pass.now.seat.me.0.laid c.args.pass.now.seat.me.0.seen key then bytes_under c.args.pass.now.seat.me.0.laid.promise key else entries_in c.args.pass.now.seat.me.0.laid c.args.pass.now.entries.value.items key) (spec_key c.args.self.now.layout.specs c.args.at) c.args.buf.now c.copy_entry.new.buf c.index-2.result.now c.copy_entry.result
    (held_entry l c.args.pass.now.seat.me.0.laid c.args.pass.now.seat.me.0.seen (spec_key c.args.self.now.layout.specs c.args.at) c.args.pass.now.entries.value.items c.args.at c.index-2.result.now s own.laid own.sound.fair (place_own c.args.self.now.layout.specs c.args.at own.sound.fair.apart c.requires.at)
    (ap (λ x. get_or x c.args.at s) (sym c.specs.ensures) ∙ sym c.index-specs-at.is) c.if-spec.false (rw own.entries less)
    ∙ (ap (λ v. get_or v.items c.args.at c.index-2.result.now) own.entries ∙ sym c.index-2.ensures))
    c.copy_entry.ensures
