use Rattle.std.proofs.Common.{◌≡◌, ◌||◌, ◌&&◌, if◌then◌else◌, not, Some, get_or, set, sym, ap, ◌∙◌, arith}
use Rattle.std.specs.Str.{bytes_eq}
use Rattle.cu_store.specs.Yard.{Known, bytes_under, is_made}
use Rattle.cu_cells.specs.Layout.{Laid}
use Rattle.cu_cells.specs.Cells.{spec_key, entries_in}
use Rattle.cu_cells.specs.Yard.{known_of, known_entries}
use Rattle.cu_cells.proofs.Entries.{not_made}
use Rattle.cu_cells.proofs.Found.{made_from}
use Rattle.cu_cells.proofs.Own.{place_own, made_eq, unmade_eq, made_not, entries_filled, told_same, or_same}
use Rattle.cu_cells.proofs.shared.Cells.fill.Goals as goal

pub put_at-requires-clause-made : goal.put_at-requires-clause-made
put_at-requires-clause-made c =
    let l = c.args.self.now.layout in
    let own = c.requires.own.hand in
    let s = c.index-specs-at.result in
    let place = place_own l.specs c.args.at own.sound.fair.apart c.requires.at in
    let there : get_or l.specs c.args.at s ≡ s = ap (λ x. get_or x c.args.at s) (sym c.specs.ensures) ∙ sym c.index-specs-at.is in
    made_from l.specs (spec_key l.specs c.args.at) c.args.at s place (ap (λ xs. (get_or xs c.args.at s).made) (sym c.specs.ensures) ∙ c.if-specs-at.true)

pub put_at-requires-clause-promised : goal.put_at-requires-clause-promised
put_at-requires-clause-promised c =
    let l = c.args.self.now.layout in
    let own = c.requires.own.hand in
    let s = c.index-specs-at.result in
    let place = place_own l.specs c.args.at own.sound.fair.apart c.requires.at in
    let there : get_or l.specs c.args.at s ≡ s = ap (λ x. get_or x c.args.at s) (sym c.specs.ensures) ∙ sym c.index-specs-at.is in
    ap (λ (x : Laid). bytes_under x.promise (spec_key l.specs c.args.at)) (sym own.laid)
    ∙ (c.requires.promised (made_from l.specs (spec_key l.specs c.args.at) c.args.at s place (ap (λ xs. (get_or xs c.args.at s).made) (sym c.specs.ensures) ∙ c.if-specs-at.true)) ∙ ap (λ bs. Some bs) (sym c.as_slice.ensures.value))

pub returns-then-specs-at-clause-seen : goal.returns-then-specs-at-clause-seen
returns-then-specs-at-clause-seen c key =
    let l = c.args.self.now.layout in
    let own = c.requires.own.hand in
    let s = c.index-specs-at.result in
    let place = place_own l.specs c.args.at own.sound.fair.apart c.requires.at in
    let there : get_or l.specs c.args.at s ≡ s = ap (λ x. get_or x c.args.at s) (sym c.specs.ensures) ∙ sym c.index-specs-at.is in
    c.put_at.ensures.seen key ∙ ap (λ b. (known_of c.args.pass.now).seen key || b)
    (made_eq l.specs (spec_key l.specs c.args.at) key (made_from l.specs (spec_key l.specs c.args.at) c.args.at s place (ap (λ xs. (get_or xs c.args.at s).made) (sym c.specs.ensures) ∙ c.if-specs-at.true)))

pub returns-then-specs-at-clause-entries : goal.returns-then-specs-at-clause-entries
returns-then-specs-at-clause-entries c key =
    let l = c.args.self.now.layout in
    let own = c.requires.own.hand in
    let s = c.index-specs-at.result in
    let place = place_own l.specs c.args.at own.sound.fair.apart c.requires.at in
    let there : get_or l.specs c.args.at s ≡ s = ap (λ x. get_or x c.args.at s) (sym c.specs.ensures) ∙ sym c.index-specs-at.is in
    let same = told_same (known_entries c.put_at.new.pass) (known_entries c.args.pass.now) (ap (λ (k : Known). k.entries) c.put_at.ensures.known) in
    ap (λ f. f key) same ∙ ap (λ b. if b then Some c.args.bytes.items else known_entries c.args.pass.now key)
    (sym (made_not l.specs (spec_key l.specs c.args.at) key (made_from l.specs (spec_key l.specs c.args.at) c.args.at s place (ap (λ xs. (get_or xs c.args.at s).made) (sym c.specs.ensures) ∙ c.if-specs-at.true))))

pub returns-else-specs-at-clause-seen : goal.returns-else-specs-at-clause-seen
returns-else-specs-at-clause-seen c key =
    let l = c.args.self.now.layout in
    let own = c.requires.own.hand in
    let s = c.index-specs-at.result in
    let place = place_own l.specs c.args.at own.sound.fair.apart c.requires.at in
    let there : get_or l.specs c.args.at s ≡ s = ap (λ x. get_or x c.args.at s) (sym c.specs.ensures) ∙ sym c.index-specs-at.is in
    or_same ((known_of c.args.pass.now).seen key)
    ∙ ap (λ b. (known_of c.args.pass.now).seen key || b) (sym (unmade_eq l.specs (spec_key l.specs c.args.at) key (not_made l (spec_key l.specs c.args.at) c.args.at s own.sound.fair place there (ap (λ x. x.made) c.index-specs-at.is ∙ c.if-specs-at.false))))

pub returns-else-specs-at-clause-entries : goal.returns-else-specs-at-clause-entries
returns-else-specs-at-clause-entries c key =
    let l = c.args.self.now.layout in
    let own = c.requires.own.hand in
    let s = c.index-specs-at.result in
    let place = place_own l.specs c.args.at own.sound.fair.apart c.requires.at in
    let there : get_or l.specs c.args.at s ≡ s = ap (λ x. get_or x c.args.at s) (sym c.specs.ensures) ∙ sym c.index-specs-at.is in
    let es = c.args.self.now.entries.items in
    let less = c.requires.at in
    let long = own.sound.entries in
    ap (λ v. entries_in c.args.pass.now.seat.me.0.laid v.items key) c.of.ensures
    ∙ (ap (λ xs. entries_in c.args.pass.now.seat.me.0.laid xs key) c.set_entry.ensures
    ∙ (ap (λ (x : Laid). entries_in x (set es c.args.at (Some c.args.bytes.items)) key) own.laid
    ∙ (entries_filled l es c.args.at (spec_key l.specs c.args.at) key (Some c.args.bytes.items) place (omega arith)
    ∙ (λ k. if not (is_made l.specs key) && bytes_eq (spec_key l.specs c.args.at) key then Some c.args.bytes.items else entries_in (sym own.laid k) (sym own.entries k).items key))))
