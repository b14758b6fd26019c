use Rattle.std.proofs.Common.{◌≡◌, ◌&&◌, ◌||◌, not, if◌then◌else◌, None, sym, ap, ◌∙◌}
use Rattle.cu_store.specs.Yard.{is_made}
use Rattle.cu_cells.specs.Cells.{spec_key}
use Rattle.cu_cells.specs.Yard.{known_of, known_entries}
use Rattle.cu_mem.specs.Entries.{held_in}
use Rattle.cu_mem.proofs.Sharing.{none_eq, and_false, or_false, no_read}
use Rattle.cu_mem.proofs.share.fill_one.Goals as goal

pub returns-in-None-clause-seen : goal.returns-in-None-clause-seen
returns-in-None-clause-seen c key =
    let ys = c.args.yard.now.layout.specs in
    let none : held_in c.args.slots.now c.args.spec.now.key ≡ None = sym c.in-None.ensures in
    sym (ap (λ b. (known_of c.args.pass.now).seen key || (is_made ys key && b)) (none_eq (held_in c.args.slots.now) c.args.spec.now.key key none)
    ∙ (ap (λ b. (known_of c.args.pass.now).seen key || b) (and_false (is_made ys key)) ∙ or_false ((known_of c.args.pass.now).seen key)))

pub returns-in-None-clause-entries : goal.returns-in-None-clause-entries
returns-in-None-clause-entries c key =
    let ys = c.args.yard.now.layout.specs in
    let none : held_in c.args.slots.now c.args.spec.now.key ≡ None = sym c.in-None.ensures in
    sym (ap (λ b. if not (is_made ys key) && b then held_in c.args.slots.now key else known_entries c.args.pass.now key) (none_eq (held_in c.args.slots.now) c.args.spec.now.key key none)
    ∙ no_read (is_made ys key) (held_in c.args.slots.now key) (known_entries c.args.pass.now key))

pub fill_bytes-requires-clause-promised : goal.fill_bytes-requires-clause-promised
fill_bytes-requires-clause-promised c made =
    let ys = c.args.yard.now.layout.specs in
    c.requires.promised (spec_key ys c.args.at) c.in-Some.bytes.now made (ap (held_in c.args.slots.now) c.requires.key ∙ sym c.in-Some.ensures)
