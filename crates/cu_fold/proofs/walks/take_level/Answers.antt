use Rattle.std.proofs.Common.{◌≡◌, ◌≤◌, ◌+◌, ◌-◌, ◌*◌, [], ◌∷◌, length, take, drop, sym, ap, ◌∙◌, subst, arith, mul-le-mul_right, if◌then◌else◌}
use Rattle.std.specs.Prelude.{Bool as Test}
use Rattle.std.proofs.lemmas.List.Edits.{length-between}
use borrow.Rule.Slice.PartMut.{put_mid}
use Rattle.cu_num.specs.Dtype.{size_of}
use Rattle.cu_fold.specs.declared.levels.Level.{Level}
use Rattle.cu_fold.specs.Taken.{TakesPart}
use Rattle.cu_fold.proofs.PartTaken.{reduced_part, kept_part, old_inside, new_inside, new_outside}
use Rattle.cu_fold.proofs.walks.take_level.Goals as goal

pub returns-then-level : goal.returns-then-level
returns-then-level c =
    let fold = c.args.fold in
    let places = c.args.places in
    let input = c.args.input.now in
    let old = c.args.out.now in
    let new = c.take_last.new.out in
    let level : Test → Level = λ b. record { size = c.args.level.size; is_reduced = b } in
    subst (λ b. TakesPart fold (level b ∷ []) places input old new) (sym c.if-level.true)
    (reduced_part fold c.args.level.size places input old new c.take_last.ensures)

pub returns-else-level : goal.returns-else-level
returns-else-level c =
    let fold = c.args.fold in
    let places = c.args.places in
    let input = c.args.input.now in
    let old = c.args.out.now in
    let s = size_of fold.acc in
    let a = places.start * c.size-size.result in
    let m = a + places.count * c.size-size.result - a in
    let old_part = take m (drop a old) in
    let new_part = c.take_last-else-level.new.out in
    let new = put_mid a m old new_part in
    let level : Test → Level = λ b. record { size = c.args.level.size; is_reduced = b } in
    let from : a ≡ places.start * s = ap (λ k. places.start * k) c.size-size.ensures in
    let wide : places.count * c.size-size.result ≡ places.count * s = ap (λ k. places.count * k) c.size-size.ensures in
    let long : m ≡ places.count * s = omega (arith, wide) in
    let whole : length old ≡ c.args.level.size * s = c.requires.out ∙ ap (λ b. (if b then 1 else c.args.level.size * 1) * s) c.if-level.false ∙ omega arith in
    let far : (places.start + places.count) * s ≤ c.args.level.size * s = mul-le-mul_right s c.requires.places in
    let fits : a + m ≤ length old = omega (arith, from, long, whole, far) in
    let own : length new_part ≡ m = c.take_last-else-level.auto.out ∙ length-between old a (a + places.count * c.size-size.result) (omega arith) in
    subst (λ b. TakesPart fold (level b ∷ []) places input old new) (sym c.if-level.false)
    (kept_part fold c.args.level.size places input old new old_part new_part
    (λ q k e less. (old_inside fold.acc old places.start places.count a m q k from long e less, new_inside fold.acc old new_part places.start places.count a m q k from long own fits e less))
    (λ q other. new_outside fold.acc old new_part places.start places.count a m q from long own fits other)
    c.take_last-else-level.ensures)
