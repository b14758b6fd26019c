use Rattle.std.proofs.Common.{◌≡◌, Some, length, rules, sym, ap, ◌∙◌}
use Rattle.cu_store.specs.Yard.{bytes_under}
use Rattle.cu_cells.specs.Layout.{Laid}
use Rattle.cu_cells.specs.Cells.{spec_key}
use Rattle.cu_cells.specs.Yard.{known_of}
use Rattle.cu_cells.proofs.Lands.{not_so}
use Rattle.cu_cells.proofs.Outs.{handed_out, written_back}
use Rattle.cu_cells.proofs.shared.Cells.hand_out.Goals as goal

pub returns-in-Held-clause-given : goal.returns-in-Held-clause-given
returns-in-Held-clause-given c =
    let l = c.args.self.now.layout in
    let own = c.requires.own in
    let key = spec_key l.specs c.args.at in
    let long : length c.take.new.out ≡ length c.args.room.items = search rules in
    handed_out l c.take.new.pass.seat.me.0.laid ((known_of c.take.new.pass).seen key) c.take.new.pass.entries.value.items (known_of c.args.pass.now).promise c.args.at c.in-Held.field-0 c.take.new.out own.sound.fair
    (c.take.ensures.own.laid ∙ ap (λ y. y.layout) c.take.ensures.same) c.requires.at c.requires.made (ap (λ (x : Laid). bytes_under x.promise key) own.laid) (long ∙ c.requires.room) c.in-Held.ensures.got
    ∙ ap (λ bs. Some bs) (sym (written_back c.args.room.len c.take.new.out c.args.room.items (search rules) long))

pub returns-in-Absent-clause-unlanded : goal.returns-in-Absent-clause-unlanded
returns-in-Absent-clause-unlanded c = not_so _ c.in-Absent.ensures.found
