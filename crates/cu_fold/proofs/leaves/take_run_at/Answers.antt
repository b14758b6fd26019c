use Rattle.std.proofs.Common.{◌≡◌, ◌≤◌, ◌+◌, ◌-◌, ◌*◌, length, take, drop, ap, ◌∙◌, subst, arith}
use Rattle.std.specs.List.{range_with_len}
use Rattle.std.proofs.lemmas.List.Edits.{length-between}
use borrow.Rule.Slice.PartMut.{put_mid}
use Rattle.cu_num.specs.Dtype.{size_of}
use Rattle.cu_num.specs.Element.{element_at}
use Rattle.cu_num.specs.declared.layout.Endian.TheVariants.{Little}
use Rattle.cu_reduce.proofs.Ranges.{map_ranges}
use Rattle.cu_take.specs.Taken.{HasTaken, elements_at_places}
use Rattle.cu_take.proofs.Buffers.{element_at_drop}
use Rattle.cu_take.proofs.Taking.{takes_same}
use Rattle.cu_fold.proofs.PartTaken.{old_inside, new_inside, new_outside}
use Rattle.cu_fold.proofs.leaves.take_run_at.Goals as goal

pub returns-clause-takes : goal.returns-clause-takes
returns-clause-takes c =
    let kind = c.args.kind in
    let from = c.args.from in
    let acc = c.args.acc in
    let input = c.args.input.now in
    let old = c.args.out.now in
    let q = c.args.q in
    let start = c.args.run.start in
    let count = c.args.run.count in
    let size = c.size-size.result in
    let a = q * size in
    let m = a + size - a in
    let part = c.take_run.new.out in
    let new = put_mid a m old part in
    let same_size = c.size-size.ensures in
    let first : a ≡ q * size_of acc = ap (λ k. q * k) same_size in
    let wide : m ≡ 1 * size_of acc = omega (arith, same_size) in
    let inside : a + m ≤ length old = (let fits = c.requires.out in omega (arith, first, wide, fits)) in
    let long : length part ≡ m = c.take_run.auto.out ∙ length-between old a (a + size) (omega (arith, inside)) in
    let at : q ≡ q + 0 = omega arith in
    let offset : start * c.size.result ≡ start * size_of from = ap (λ k. start * k) c.size.ensures in
    let same : elements_at_places from c.later-after.result.now (range_with_len 0 count) ≡ elements_at_places from input (range_with_len start count) =
    ap (λ bytes. elements_at_places from bytes (range_with_len 0 count)) c.later-after.ensures
    ∙ map_ranges (λ p. element_at Little from (drop (start * c.size.result) input) p) (λ p. element_at Little from input p) 0 start count
    (λ k less. let turn : start + (0 + k) ≡ start + k = omega arith in element_at_drop from input start (0 + k) (start * c.size.result) offset ∙ ap (λ p. element_at Little from input p) turn) in
    subst (λ xs. HasTaken kind acc old new q xs) same
    (takes_same kind acc old new (take m (drop a old)) part q 0 _ (old_inside acc old q 1 a m q 0 first wide at (omega arith)) (new_inside acc old part q 1 a m q 0 first wide long inside at (omega arith)) c.take_run.ensures)

pub returns-clause-others : goal.returns-clause-others
returns-clause-others c p apart =
    let acc = c.args.acc in
    let old = c.args.out.now in
    let q = c.args.q in
    let size = c.size-size.result in
    let a = q * size in
    let m = a + size - a in
    let part = c.take_run.new.out in
    let same_size = c.size-size.ensures in
    let first : a ≡ q * size_of acc = ap (λ k. q * k) same_size in
    let wide : m ≡ 1 * size_of acc = omega (arith, same_size) in
    let inside : a + m ≤ length old = (let fits = c.requires.out in omega (arith, first, wide, fits)) in
    let long : length part ≡ m = c.take_run.auto.out ∙ length-between old a (a + size) (omega (arith, inside)) in
    new_outside acc old part q 1 a m p first wide long inside (λ k less e. let own : p ≡ q = omega arith in apart own)
