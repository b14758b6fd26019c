use Rattle.std.proofs.Common.{◌≡◌, IsTrue, Some, get_or, sym, ap, ◌∙◌, subst}
use Rattle.cu_store.specs.Yard.{is_made}
use Rattle.cu_store.specs.declared.yard.Spec.{Spec}
use Rattle.cu_cells.specs.Cells.{spec_key}
use Rattle.cu_cells.specs.Yard.{known_of}
use Rattle.cu_cells.proofs.Entries.{unmade}
use Rattle.cu_cells.proofs.Found.{made_from}
use Rattle.cu_cells.proofs.Own.{place_own, key_there}
use Rattle.cu_mem.specs.Entries.{held_in}
use Rattle.cu_mem.specs.Sharing.{lent_in}
use Rattle.cu_mem.proofs.Sharing.{room_there, back_by, held_by}
use Rattle.cu_mem.proofs.share.give_one.Goals as goal

pub returns-then-not-spec-clause-held : goal.returns-then-not-spec-clause-held
returns-then-not-spec-clause-held c made =
    let ys = c.args.yard.now.layout.specs in
    let own = c.requires.own in
    let s = c.index-specs-at.result in
    let place = place_own ys c.args.at own.sound.fair.apart c.requires.at in
    let there : get_or ys c.args.at s ≡ s = ap (λ xs. get_or xs c.args.at s) (sym (c.specs.ensures ∙ c.layout.ensures.specs)) ∙ sym c.index-specs-at.is in
    unmade c.args.yard.now.layout (spec_key ys c.args.at) c.args.at s _ own.sound.fair place there c.if-not-spec.true made

pub hand_out-requires-clause-made : goal.hand_out-requires-clause-made
hand_out-requires-clause-made c =
    let ys = c.args.yard.now.layout.specs in
    let own = c.requires.own in
    let s = c.index-specs-at.result in
    let place = place_own ys c.args.at own.sound.fair.apart c.requires.at in
    let there : get_or ys c.args.at s ≡ s = ap (λ xs. get_or xs c.args.at s) (sym (c.specs.ensures ∙ c.layout.ensures.specs)) ∙ sym c.index-specs-at.is in
    let made : IsTrue (is_made ys (spec_key ys c.args.at)) = made_from ys (spec_key ys c.args.at) c.args.at s place (ap (λ (x : Spec). x.made) there ∙ c.if-not-spec.false) in
    let own_key : spec_key ys c.args.at ≡ s.key = key_there ys c.args.at s c.requires.at there in
    made

pub hand_out-requires-clause-room : goal.hand_out-requires-clause-room
hand_out-requires-clause-room c =
    let ys = c.args.yard.now.layout.specs in
    let own = c.requires.own in
    let s = c.index-specs-at.result in
    let place = place_own ys c.args.at own.sound.fair.apart c.requires.at in
    let there : get_or ys c.args.at s ≡ s = ap (λ xs. get_or xs c.args.at s) (sym (c.specs.ensures ∙ c.layout.ensures.specs)) ∙ sym c.index-specs-at.is in
    c.requires.room ∙ room_there ys c.args.at s c.requires.at there c.if-not-spec.false

pub fill_place-requires : goal.fill_place-requires
fill_place-requires c =
    let ys = c.args.yard.now.layout.specs in
    let own = c.requires.own in
    let s = c.index-specs-at.result in
    let place = place_own ys c.args.at own.sound.fair.apart c.requires.at in
    let there : get_or ys c.args.at s ≡ s = ap (λ xs. get_or xs c.args.at s) (sym (c.specs.ensures ∙ c.layout.ensures.specs)) ∙ sym c.index-specs-at.is in
    let made : IsTrue (is_made ys (spec_key ys c.args.at)) = made_from ys (spec_key ys c.args.at) c.args.at s place (ap (λ (x : Spec). x.made) there ∙ c.if-not-spec.false) in
    let own_key : spec_key ys c.args.at ≡ s.key = key_there ys c.args.at s c.requires.at there in
    c.requires.places s.key (subst (λ k. IsTrue (is_made ys k)) own_key made)

pub returns-in-Some-clause-back : goal.returns-in-Some-clause-back
returns-in-Some-clause-back c =
    let ys = c.args.yard.now.layout.specs in
    let own = c.requires.own in
    let s = c.index-specs-at.result in
    let place = place_own ys c.args.at own.sound.fair.apart c.requires.at in
    let there : get_or ys c.args.at s ≡ s = ap (λ xs. get_or xs c.args.at s) (sym (c.specs.ensures ∙ c.layout.ensures.specs)) ∙ sym c.index-specs-at.is in
    let made : IsTrue (is_made ys (spec_key ys c.args.at)) = made_from ys (spec_key ys c.args.at) c.args.at s place (ap (λ (x : Spec). x.made) there ∙ c.if-not-spec.false) in
    let own_key : spec_key ys c.args.at ≡ s.key = key_there ys c.args.at s c.requires.at there in
    back_by (lent_in c.args.yard.now c.args.pass.now) (held_in c.args.slots.now.items) (held_in c.fill_place.new.slots.items) s.key c.in-Some.bytes.items
    (subst (λ k. IsTrue (is_made ys k)) own_key made) (subst (λ k. (known_of c.args.pass.now).promise k ≡ Some c.in-Some.bytes.items) own_key c.in-Some.ensures.given) c.fill_place.ensures.stored

pub returns-in-Some-clause-held : goal.returns-in-Some-clause-held
returns-in-Some-clause-held c = λ _ _.
    let ys = c.args.yard.now.layout.specs in
    let own = c.requires.own in
    let s = c.index-specs-at.result in
    let place = place_own ys c.args.at own.sound.fair.apart c.requires.at in
    let there : get_or ys c.args.at s ≡ s = ap (λ xs. get_or xs c.args.at s) (sym (c.specs.ensures ∙ c.layout.ensures.specs)) ∙ sym c.index-specs-at.is in
    let made : IsTrue (is_made ys (spec_key ys c.args.at)) = made_from ys (spec_key ys c.args.at) c.args.at s place (ap (λ (x : Spec). x.made) there ∙ c.if-not-spec.false) in
    let own_key : spec_key ys c.args.at ≡ s.key = key_there ys c.args.at s c.requires.at there in
    held_by (held_in c.args.slots.now.items) (held_in c.fill_place.new.slots.items) s.key c.in-Some.bytes.items (spec_key ys c.args.at) c.fill_place.ensures.stored (sym own_key) ∙ sym c.in-Some.ensures.given
