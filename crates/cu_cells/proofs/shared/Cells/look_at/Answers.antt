use Rattle.std.proofs.Common.{◌≡◌, ◌∷◌, ◌||◌, ℕ, true, false, refl, sym, ap, ◌∙◌, subst}
use Rattle.std.specs.Str.{bytes_eq}
use Rattle.cu_cells.specs.Layout.{Laid}
use Rattle.cu_cells.specs.Cells.{spec_key, has_cell_in}
use Rattle.cu_cells.proofs.Own.{place_own, known_is, known_but, seen_more, promised_there, unseen_there}
use Rattle.cu_cells.specs.Rule.{IsIn}
use Rattle.cu_cells.proofs.Gets.{seen_cell}
use Rattle.cu_cells.proofs.Lates.{stored_later}
use Rattle.cu_cells.proofs.shared.Cells.look_at.Goals as goal

pub returns-clause-own : goal.returns-clause-own
returns-clause-own c =
    let own = c.requires.own in
    let knows = c.look.ensures.knows in
    record {
      sound = own.sound;
      use_ = record {
        free = knows.0 ∙ own.use_.free;
        live = knows.1 ∙ own.use_.live;
        late = stored_later c.args.pass.now.seat.me.0 c.look.new.seat.me.0 c.args.pass.now.late.items knows.2 (λ n had. subst (λ ns. IsIn ns n) (sym knows.3) had) own.use_.late;
      };
      table = c.look.ensures.same.0 ∙ own.table;
      laid = knows.2 ∙ own.laid;
      entries = own.entries;
    }

pub returns-clause-known : goal.returns-clause-known
returns-clause-known c =
    known_but c.args.pass.now.seat.me.0.laid c.look.new.seat.me.0.laid c.look.new.seat.me.0.seen c.args.pass.now.entries.value.items c.args.pass.now.faults c.args.pass.now.calls c.look.ensures.knows.2

pub returns-clause-there : goal.returns-clause-there
returns-clause-there c = λ is key.
    let own = c.requires.own in
    let l = c.args.self.now.layout in
    let told = c.look.ensures.set is in
    let promised = promised_there l c.args.at (subst (λ (x : Laid). Rattle.std.proofs.Common.IsTrue (Rattle.cu_cells.specs.Layout.is_named_cell x c.args.at)) own.sound.key told.1) in
    let place = place_own l.specs c.args.at own.sound.fair.apart c.requires.at in
    ap (λ m. has_cell_in m.0.laid m.0.seen key) told.0 ∙ (ap (λ (x : Laid). has_cell_in x (c.args.at ∷ c.args.pass.now.seat.me.0.seen) key) own.laid
    ∙ (seen_more l c.args.pass.now.seat.me.0.seen c.args.at key (spec_key l.specs c.args.at) promised.0 c.requires.made promised.1 place
    ∙ ap (λ (x : Laid). has_cell_in x c.args.pass.now.seat.me.0.seen key || bytes_eq (spec_key l.specs c.args.at) key) (sym own.laid)))

pub returns-clause-unset : goal.returns-clause-unset
returns-clause-unset c = λ is.
    let own = c.requires.own in
    let l = c.args.self.now.layout in
    let me = c.look.ensures.unset is in
    let place = place_own l.specs c.args.at own.sound.fair.apart c.requires.at in (
      known_is c.args.pass.now.seat.me.0.laid c.look.new.seat.me.0.laid c.args.pass.now.seat.me.0.seen c.look.new.seat.me.0.seen c.args.pass.now.entries.value.items c.args.pass.now.entries.value.items c.args.pass.now.faults c.args.pass.now.calls (ap (λ m. m.0.laid) me) (ap (λ m. m.0.seen) me) refl,
      ap (λ (x : Laid). has_cell_in x c.args.pass.now.seat.me.0.seen (spec_key l.specs c.args.at)) own.laid
          ∙ unseen_there l c.args.pass.now.seat.me.0.seen (spec_key l.specs c.args.at) c.args.at place (λ had. let yes_ : false ≡ true = sym is ∙ c.look.ensures.seen had in cc),
    )

pub returns-clause-landed : goal.returns-clause-landed
returns-clause-landed c = (λ k. has_cell_in (c.look.ensures.knows.2 k) (c.look.ensures.knows.4 k))

pub returns-clause-found : goal.returns-clause-found
returns-clause-found c there =
    let own = c.requires.own in
    let l = c.args.self.now.layout in
    let place = place_own l.specs c.args.at own.sound.fair.apart c.requires.at in
    c.look.ensures.landed (seen_cell l c.args.pass.now.seat.me.0.landed (spec_key l.specs c.args.at) c.args.at place
    (subst (λ (x : Laid). Rattle.std.proofs.Common.IsTrue (has_cell_in x c.args.pass.now.seat.me.0.landed (spec_key l.specs c.args.at))) own.laid there))
