use Rattle.std.proofs.Common.{Some, None, position, bytes_eq, sym, ap, ◌∙◌, ◌≡◌}
use Rattle.cu_cells.specs.Cells.{place_in}
use Rattle.cu_cells.proofs.Found.{has_place, stands}
use Rattle.cu_cells.proofs.Own.{key_found}
use Rattle.cu_cells.proofs.Texts.{place_found}
use Rattle.cu_cells.proofs.shared.Cells.find.Goals as goal

pub returns-clause-place : goal.returns-clause-place
returns-clause-place c =
    sym (place_found c.args.self.now.layout.specs c.args.key.now) ∙ (ap (position (bytes_eq c.args.key.now)) (sym c.requires.places) ∙ sym c.in-Some.ensures)

pub returns-clause-bound : goal.returns-clause-bound
returns-clause-bound c =
    let at : place_in c.args.self.now.layout.specs c.args.key.now ≡ Some c.in-Some.at =
    sym (place_found c.args.self.now.layout.specs c.args.key.now) ∙ (ap (position (bytes_eq c.args.key.now)) (sym c.requires.places) ∙ sym c.in-Some.ensures) in
    (stands c.args.self.now.layout.specs c.args.key.now c.in-Some.at at).less

pub returns-clause-key : goal.returns-clause-key
returns-clause-key c =
    key_found c.args.self.now.layout.specs c.args.key.now c.in-Some.at
    (sym (place_found c.args.self.now.layout.specs c.args.key.now) ∙ (ap (position (bytes_eq c.args.key.now)) (sym c.requires.places) ∙ sym c.in-Some.ensures))

pub unreachable-requires : goal.unreachable-requires
unreachable-requires c =
    let has = has_place c.args.self.now.layout.specs c.args.key.now c.requires.served in
    let none_ : place_in c.args.self.now.layout.specs c.args.key.now ≡ None =
    sym (place_found c.args.self.now.layout.specs c.args.key.now) ∙ (ap (position (bytes_eq c.args.key.now)) (sym c.requires.places) ∙ (sym c.find.ensures ∙ c.in-None.is)) in
    let no_ : None ≡ Some has.0 = sym none_ ∙ has.1 in cc
