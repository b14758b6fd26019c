use Rattle.std.proofs.Common.{◌≡◌, ◌+◌, ◌*◌, ◌/◌, ◌%◌, ◌+ℤ◌, ◌*ℤ◌, suc, length, arith, ap, sym, ◌∙◌, refl}
use Rattle.std.specs.Int.{w128, cast_signed, cast_unsigned}
use Rattle.std.specs.List.{between}
use Rattle.std.proofs.lemmas.List.Edits.{length-between}
use Rattle.cu_num.specs.Dtype.{size_of}
use Rattle.cu_num.specs.Element.{element_bytes}
use Rattle.cu_num.specs.declared.layout.Endian.TheVariants.{Little}
use Rattle.cu_product.specs.Matrices.{numbers}
use Rattle.cu_product.specs.Pairs.{pairs, column}
use Rattle.cu_product.proofs.Parts.{kept, element_of_part, element_inside, part_ends}
use Rattle.cu_product.proofs.paired.pair_sums.Goals as goal

pub load-x-requires : goal.load-x-requires
load-x-requires c = element_inside c.args.t (2 * c.loop-p.p) (2 * c.args.half) (length c.args.row.now) c.requires.row (let test = c.loop-p-test.true in omega arith)

pub load-y-requires : goal.load-y-requires
load-y-requires c = element_inside c.args.t (2 * c.loop-p.p + 1) (2 * c.args.half) (length c.args.row.now) c.requires.row (let test = c.loop-p-test.true in omega arith)

pub overflow_mul-p-in-loop-p-2 : goal.overflow_mul-p-in-loop-p-2
overflow_mul-p-in-loop-p-2 c =
    let room = 18 * c.size.result in
    let total : length c.args.panel.now ≡ c.args.half * room = c.requires.panel ∙ ap (λ s. c.args.half * (18 * s)) (sym c.size.ensures) in
    let ends = part_ends c.args.half room c.loop-p.p (length c.args.panel.now) total c.loop-p-test.true in
    let from = ends.0 in let to = ends.1 in omega arith

pub overflow_mul-p-in-loop-p-3 : goal.overflow_mul-p-in-loop-p-3
overflow_mul-p-in-loop-p-3 c =
    let room = 18 * c.size.result in
    let total : length c.args.panel.now ≡ c.args.half * room = c.requires.panel ∙ ap (λ s. c.args.half * (18 * s)) (sym c.size.ensures) in
    let ends = part_ends c.args.half room c.loop-p.p (length c.args.panel.now) total c.loop-p-test.true in
    let to = ends.1 in omega arith

pub slice_bounds-add_pairs-start : goal.slice_bounds-add_pairs-start
slice_bounds-add_pairs-start c =
    let room = 18 * c.size.result in
    let total : length c.args.panel.now ≡ c.args.half * room = c.requires.panel ∙ ap (λ s. c.args.half * (18 * s)) (sym c.size.ensures) in
    let ends = part_ends c.args.half room c.loop-p.p (length c.args.panel.now) total c.loop-p-test.true in
    let from = ends.0 in omega arith

pub slice_bounds-add_pairs-end : goal.slice_bounds-add_pairs-end
slice_bounds-add_pairs-end c =
    let room = 18 * c.size.result in
    let total : length c.args.panel.now ≡ c.args.half * room = c.requires.panel ∙ ap (λ s. c.args.half * (18 * s)) (sym c.size.ensures) in
    let ends = part_ends c.args.half room c.loop-p.p (length c.args.panel.now) total c.loop-p-test.true in
    ends.1

pub add_pairs-requires-clause-pair : goal.add_pairs-requires-clause-pair
add_pairs-requires-clause-pair c =
    let room = 18 * c.size.result in
    let total : length c.args.panel.now ≡ c.args.half * room = c.requires.panel ∙ ap (λ s. c.args.half * (18 * s)) (sym c.size.ensures) in
    let ends = part_ends c.args.half room c.loop-p.p (length c.args.panel.now) total c.loop-p-test.true in
    length-between c.args.panel.now (c.loop-p.p * room) ((c.loop-p.p + 1) * room) ends.1 ∙ (let from = ends.0 in omega arith) ∙ ap (λ s. 18 * s) c.size.ensures

pub loop-p-preserved : goal.loop-p-preserved
loop-p-preserved c =
    let t = c.args.t in
    let p = c.loop-p.p in
    let panel = c.args.panel.now in
    let left = numbers t c.args.row.now in
    let room = 18 * c.size.result in
    let own : room ≡ 18 * size_of t = ap (λ s. 18 * s) c.size.ensures in
    let starts : p * room ≡ p * 18 * size_of t = ap (λ s. p * s) own ∙ omega arith in
    let ends : (p + 1) * room ≡ p * room + room = omega arith in
    let x : cast_signed w128 (cast_unsigned w128 c.load-x.result) ≡ left (2 * p) = kept c.load-x.result (record { sfits = c.load-x.type_inv }) ∙ c.load-x.ensures.value in
    let y : cast_signed w128 (cast_unsigned w128 c.load-y.result) ≡ left (2 * p + 1) = kept c.load-y.result (record { sfits = c.load-y.type_inv }) ∙ c.load-y.ensures.value in
    record {
      same_length = c.add_pairs.auto.out ∙ c.loop-p.invariant.same_length;
      done = λ j b.
          let right = column t panel j in
          let s = pairs left right p in
          let part = numbers t (between (p * room) ((p + 1) * room) panel) in
          let one_inside = element_inside t (2 * j) 18 (18 * size_of t) refl (omega arith) in
          let two_inside = element_inside t (2 * j + 1) 18 (18 * size_of t) refl (omega arith) in
          let one : p * 18 + 2 * j ≡ 2 * p / 2 * 18 + 2 * j + 2 * p % 2 = omega arith in
          let two : p * 18 + (2 * j + 1) ≡ (2 * p + 1) / 2 * 18 + 2 * j + (2 * p + 1) % 2 = omega arith in
          let first : part (2 * j) ≡ right (2 * p) = element_of_part t panel (p * 18) (p * room) ((p + 1) * room) (2 * j) starts (omega arith) ∙ ap (numbers t panel) one in
          let second : part (2 * j + 1) ≡ right (2 * p + 1) = element_of_part t panel (p * 18) (p * room) ((p + 1) * room) (2 * j + 1) starts (omega arith) ∙ ap (numbers t panel) two in
          let more : suc p ≡ p + 1 = omega arith in
          c.add_pairs.ensures j s b (c.loop-p.invariant.done j b)
          ∙ (λ i. element_bytes Little t (s +ℤ (x i +ℤ second i) *ℤ (y i +ℤ first i)))
          ∙ ap (λ h. element_bytes Little t (pairs left right h)) more;
    }
