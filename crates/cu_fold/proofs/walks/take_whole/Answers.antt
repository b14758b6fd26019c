use Rattle.std.proofs.Common.{◌≡◌, ◌<◌, ◌≤◌, ◌+◌, ◌-◌, ◌*◌, [], ◌∷◌, true, false, not, length, take, drop, sym, ap, ◌∙◌, subst, arith, mul-le-mul_right, if◌then◌else◌}
use Rattle.std.specs.Prelude.{Bool as Test}
use Rattle.std.proofs.lemmas.List.Edits.{length-between}
use borrow.Rule.Slice.PartMut.{put_mid}
use Rattle.cu_num.specs.Dtype.{size_of}
use Rattle.cu_num.specs.Element.{bytes_at}
use Rattle.cu_fold.specs.declared.levels.Level.{Level}
use Rattle.cu_fold.specs.Taken.{TakesPart}
use Rattle.cu_fold.proofs.PartTaken.{old_inside, new_inside, new_outside}
use Rattle.cu_fold.proofs.Wholes.{whole_part}
use Rattle.cu_fold.proofs.walks.take_whole.Goals as goal

pub returns-then-level : goal.returns-then-level
returns-then-level c =
    let fold = c.args.fold in
    let first = c.args.whole.first in
    let count = c.args.whole.count in
    let width = c.args.inner.size in
    let input = c.args.input.now in
    let old = c.args.out.now in
    let new = c.take_last.new.out in
    let inner_kind : c.args.inner.is_reduced ≡ false = c.requires.kinds ∙ ap not c.if-level.true in
    let level : Test → Level = λ b. record { size = c.args.level.size; is_reduced = b } in
    let inner : Test → Level = λ b. record { size = width; is_reduced = b } in
    let one : width * 1 ≡ width = omega arith in
    subst (λ b. TakesPart fold (level b ∷ c.args.inner ∷ []) (record { start = first * width; count = count * width }) input old new) (sym c.if-level.true)
    (subst (λ b. TakesPart fold (level true ∷ inner b ∷ []) (record { start = first * width; count = count * width }) input old new) (sym inner_kind)
    (subst (λ k. TakesPart fold (level true ∷ inner false ∷ []) (record { start = first * k; count = count * k }) input old new) one
    (whole_part fold c.args.level.size count first true (inner false ∷ []) input old new old new
    (λ q k e less. let same : q ≡ k = omega (arith, e) in (ap (λ p. bytes_at fold.acc old p) same, ap (λ p. bytes_at fold.acc new p) same))
    (λ q known other. absurd (other q known (omega arith)))
    c.take_last.ensures)))

pub returns-else-level : goal.returns-else-level
returns-else-level c =
    let fold = c.args.fold in
    let first = c.args.whole.first in
    let count = c.args.whole.count in
    let width = c.args.inner.size in
    let input = c.args.input.now in
    let old = c.args.out.now in
    let s = size_of fold.acc in
    let inner_kind : c.args.inner.is_reduced ≡ true = c.requires.kinds ∙ ap not c.if-level.false in
    let a = first * c.size-size.result in
    let m = a + count * c.size-size.result - a in
    let part = c.take_last-else-level.new.out in
    let new = put_mid a m old part in
    let level : Test → Level = λ b. record { size = c.args.level.size; is_reduced = b } in
    let inner : Test → Level = λ b. record { size = width; is_reduced = b } in
    let from : a ≡ first * s = ap (λ k. first * k) c.size-size.ensures in
    let wide : count * c.size-size.result ≡ count * s = ap (λ k. count * k) c.size-size.ensures in
    let long : m ≡ count * s = omega (arith, wide) in
    let whole : length old ≡ c.args.level.size * s =
    c.requires.out ∙ ap (λ b. (if b then (if c.args.inner.is_reduced then 1 else width * 1) else c.args.level.size * (if c.args.inner.is_reduced then 1 else width * 1)) * s) c.if-level.false
    ∙ ap (λ b. c.args.level.size * (if b then 1 else width * 1) * s) inner_kind ∙ omega arith in
    let far : (first + count) * s ≤ c.args.level.size * s = mul-le-mul_right s c.requires.indices in
    let fits : a + m ≤ length old = omega (arith, from, long, whole, far) in
    let own : length part ≡ m = c.take_last-else-level.auto.out ∙ length-between old a (a + count * c.size-size.result) (omega (arith, fits)) in
    let one : width * 1 ≡ width = omega arith in
    subst (λ b. TakesPart fold (level b ∷ c.args.inner ∷ []) (record { start = first * width; count = count * width }) input old new) (sym c.if-level.false)
    (subst (λ b. TakesPart fold (level false ∷ inner b ∷ []) (record { start = first * width; count = count * width }) input old new) (sym inner_kind)
    (subst (λ k. TakesPart fold (level false ∷ inner true ∷ []) (record { start = first * k; count = count * k }) input old new) one
    (whole_part fold c.args.level.size count first false (inner true ∷ []) input old new (take m (drop a old)) part
    (λ q k e less.
    let at : q ≡ first + k = omega (arith, e) in
    let below : k < count = omega (arith, less) in
    (old_inside fold.acc old first count a m q k from long at below, new_inside fold.acc old part first count a m q k from long own fits at below))
    (λ q known other. new_outside fold.acc old part first count a m q from long own fits (λ k less e. let below : k < count * 1 = omega (arith, less) in let at : q ≡ first * 1 + k = omega (arith, e) in other k below at))
    c.take_last-else-level.ensures)))
