use Rattle.std.proofs.Common.{◌≡◌, true, false, IsTrue, get_or, sym, ap, ◌∙◌, subst}
use Rattle.std.specs.Str.{bytes_eq}
use Rattle.cu_store.specs.Yard.{Known, IsLater, is_made}
use Rattle.cu_cells.specs.Layout.{Laid}
use Rattle.cu_cells.specs.Cells.{spec_key, has_cell_in}
use Rattle.cu_cells.specs.Yard.{known_of}
use Rattle.cu_cells.proofs.Entries.{unmade}
use Rattle.cu_cells.proofs.Found.{made_from}
use Rattle.cu_cells.proofs.Lands.{landed_made}
use Rattle.cu_cells.proofs.Own.{place_own, same_later, put_later, own_seen, absent_made, seen_but}
use Rattle.cu_cells.proofs.shared.Cells.take.Goals as goal

pub read-requires-clause-known : goal.read-requires-clause-known
read-requires-clause-known c made =
    let l = c.args.self.now.layout in
    let own = c.requires.own in
    let s = c.index-specs-at.result in
    let place = place_own l.specs c.args.at own.sound.fair.apart c.requires.at in
    let there : get_or l.specs c.args.at s ≡ s = ap (λ x. get_or x c.args.at s) (sym c.specs.ensures) ∙ sym c.index-specs-at.is in
    unmade l (spec_key l.specs c.args.at) c.args.at s _ own.sound.fair place there (ap (λ x. x.made) c.index-specs-at.is ∙ c.if-not-specs-at.true) made

pub returns-then-not-specs-at-clause-later : goal.returns-then-not-specs-at-clause-later
returns-then-not-specs-at-clause-later c = same_later (known_of c.args.pass.now) (known_of c.read.new.pass) c.read.ensures.known

pub returns-then-not-specs-at-clause-others : goal.returns-then-not-specs-at-clause-others
returns-then-not-specs-at-clause-others c key other = ap (λ (k : Known). k.seen key) c.read.ensures.known

pub look_at-requires-clause-made : goal.look_at-requires-clause-made
look_at-requires-clause-made c =
    let l = c.args.self.now.layout in
    let own = c.requires.own in
    let s = c.index-specs-at.result in
    let place = place_own l.specs c.args.at own.sound.fair.apart c.requires.at in
    let there : get_or l.specs c.args.at s ≡ s = ap (λ x. get_or x c.args.at s) (sym c.specs.ensures) ∙ sym c.index-specs-at.is in
    made_from l.specs (spec_key l.specs c.args.at) c.args.at s place (ap (λ xs. (get_or xs c.args.at s).made) (sym c.specs.ensures) ∙ c.if-not-specs-at.false)

pub read-requires-then-look_at-clause-known : goal.read-requires-then-look_at-clause-known
read-requires-then-look_at-clause-known c made =
    let key = spec_key c.args.self.now.layout.specs c.args.at in
    c.look_at.ensures.there c.if-look_at.true key ∙ own_seen ((known_of c.args.pass.now).seen key) key

pub returns-then-look_at-clause-later : goal.returns-then-look_at-clause-later
returns-then-look_at-clause-later c =
    subst (IsLater (known_of c.args.pass.now)) (sym c.read-then-look_at.ensures.known)
    (put_later (known_of c.args.pass.now) (known_of c.look_at.new.pass) (spec_key c.args.self.now.layout.specs c.args.at) (ap (λ (k : Known). k.promise) c.look_at.ensures.known) (ap (λ (k : Known). k.entries) c.look_at.ensures.known) (ap (λ (k : Known). k.lacks) c.look_at.ensures.known) (c.look_at.ensures.there c.if-look_at.true))

pub returns-then-look_at-clause-others : goal.returns-then-look_at-clause-others
returns-then-look_at-clause-others c key other =
    ap (λ (k : Known). k.seen key) c.read-then-look_at.ensures.known ∙ (c.look_at.ensures.there c.if-look_at.true key ∙ seen_but ((known_of c.args.pass.now).seen key) (bytes_eq (spec_key c.args.self.now.layout.specs c.args.at) key) other)

pub returns-else-look_at-clause-got : goal.returns-else-look_at-clause-got
returns-else-look_at-clause-got c =
    let l = c.args.self.now.layout in
    let own = c.requires.own in
    let s = c.index-specs-at.result in
    let place = place_own l.specs c.args.at own.sound.fair.apart c.requires.at in
    let there : get_or l.specs c.args.at s ≡ s = ap (λ x. get_or x c.args.at s) (sym c.specs.ensures) ∙ sym c.index-specs-at.is in
    let unset = c.look_at.ensures.unset c.if-look_at.false in
    let made = made_from l.specs (spec_key l.specs c.args.at) c.args.at s place (ap (λ xs. (get_or xs c.args.at s).made) (sym c.specs.ensures) ∙ c.if-not-specs-at.false) in
    let laid = c.look_at.ensures.own.laid in
    absent_made c.look_at.new.pass.seat.me.0.laid ((known_of c.look_at.new.pass).seen (spec_key l.specs c.args.at)) c.look_at.new.pass.entries.value.items (spec_key l.specs c.args.at) _
    (ap (λ (k : Known). k.seen (spec_key l.specs c.args.at)) unset.0 ∙ unset.1)
    (ap (λ (x : Laid). is_made x.specs (spec_key l.specs c.args.at)) laid ∙ made)

pub returns-else-look_at-clause-later : goal.returns-else-look_at-clause-later
returns-else-look_at-clause-later c = same_later (known_of c.args.pass.now) (known_of c.look_at.new.pass) (c.look_at.ensures.unset c.if-look_at.false).0

pub returns-else-look_at-clause-others : goal.returns-else-look_at-clause-others
returns-else-look_at-clause-others c key other = ap (λ (k : Known). k.seen key) (c.look_at.ensures.unset c.if-look_at.false).0

pub returns-then-not-specs-at-clause-found : goal.returns-then-not-specs-at-clause-found
returns-then-not-specs-at-clause-found c there =
    let l = c.args.self.now.layout in
    let own = c.requires.own in
    c.read.ensures.present (landed_made l c.args.pass.now.seat.me.0.landed (spec_key l.specs c.args.at)
    (subst (λ (x : Laid). IsTrue (has_cell_in x c.args.pass.now.seat.me.0.landed (spec_key l.specs c.args.at))) own.laid there))

pub returns-then-look_at-clause-found : goal.returns-then-look_at-clause-found
returns-then-look_at-clause-found c there =
    let l = c.args.self.now.layout in
    let own = c.requires.own in
    c.read-then-look_at.ensures.present (landed_made l c.args.pass.now.seat.me.0.landed (spec_key l.specs c.args.at)
    (subst (λ (x : Laid). IsTrue (has_cell_in x c.args.pass.now.seat.me.0.landed (spec_key l.specs c.args.at))) own.laid there))

pub returns-else-look_at-clause-found : goal.returns-else-look_at-clause-found
returns-else-look_at-clause-found c there = let no_ : false ≡ true = sym c.if-look_at.false ∙ c.look_at.ensures.found there in cc
