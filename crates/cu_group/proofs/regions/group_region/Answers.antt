use Rattle.std.proofs.Common.{◌≡◌, ◌+◌, ◌*◌, ℕ, ℤ, List, suc, length, take, drop, map, sym, subst, ap, ◌∙◌, arith}
use Rattle.std.specs.Prelude.{slice_index, slice_set}
use Rattle.std.specs.List.{range_with_len}
use Rattle.cu_num.specs.Dtype.{size_of}
use Rattle.cu_num.specs.Element.{element_at}
use Rattle.cu_num.specs.declared.layout.Endian.TheVariants.{Little}
use Rattle.cu_shape.specs.Index.{product, place_of}
use Rattle.cu_shape.proofs.Places.{place-below}
use Rattle.cu_pairs.proofs.Sizes.{no_index, none_left, some_left, take_set, drop_set}
use Rattle.cu_pairs.proofs.WholeGroups.{product_split as product_whole}
use Rattle.cu_reduce.specs.Numbers.{HasNumber}
use Rattle.cu_reduce.proofs.Ranges.{map-map}
use Rattle.cu_reduce.specs.Labels.{group_fold, members}
use Rattle.cu_group.specs.Regions.{label_in, row_sources}
use Rattle.cu_group.proofs.Splits.{behind_some, product_split, place_split, place_own, inside_parts}
use Rattle.cu_group.proofs.regions.group_region.Goals as goal

-- the sizes before and behind the axis, which the result has as well
before_of : (ns whole : List ℕ) (axis g n : ℕ) → whole ≡ slice_set ns axis g
    → n ≡ product (take axis whole) → n ≡ product (take axis ns)
before_of ns whole axis g n e h = h ∙ ap (λ xs. product (take axis xs)) e
    ∙ ap product (take_set ns axis g)

behind_of : (ns whole : List ℕ) (axis g n : ℕ) → whole ≡ slice_set ns axis g
    → n ≡ product (drop (suc axis) whole) → n ≡ product (drop (suc axis) ns)
behind_of ns whole axis g n e h =
    h ∙ ap (λ xs. product (drop (suc axis) xs)) e ∙ ap product (drop_set ns axis g)

pub returns-then-is_empty : goal.returns-then-is_empty
returns-then-is_empty c idx inside =
    absurd (no_index c.args.acc (slice_set c.args.dims.now c.args.axis c.args.groups) idx
    (length c.args.out.now) c.requires.out
    (none_left (length c.args.out.now) c.is_empty.result c.is_empty.ensures c.if-is_empty.true) inside)

pub group_rows-requires-clause-inner : goal.group_rows-requires-clause-inner
group_rows-requires-clause-inner c =
    let ns = c.args.dims.now in
    let some = some_left (length c.args.out.now) c.is_empty.result c.is_empty.ensures c.if-is_empty.false in
    let inner = behind_of ns c.put.new.self c.args.axis c.args.groups c.width_behind.result c.put.ensures c.width_behind.ensures in
    let x = behind_some c.args.axis c.args.groups (size_of c.args.acc)
    (length c.args.out.now) ns c.requires.axis c.requires.out some in
    omega (arith, inner, x)

pub group_rows-requires-clause-input : goal.group_rows-requires-clause-input
group_rows-requires-clause-input c =
    let ns = c.args.dims.now in
    let inner = behind_of ns c.put.new.self c.args.axis c.args.groups c.width_behind.result c.put.ensures c.width_behind.ensures in
    let outer = before_of ns c.put.new.self c.args.axis c.args.groups c.blocks_before.result c.put.ensures c.blocks_before.ensures in
    let all : c.blocks_before.result * c.at.result * c.width_behind.result * size_of c.args.t
    ≡ length c.args.input.now =
    (λ j. outer j * c.at.ensures j * inner j * size_of c.args.t)
    ∙ ap (λ p. p * size_of c.args.t) (sym (product_whole ns c.args.axis c.requires.axis))
    ∙ sym c.requires.input in
    omega (arith, all)

pub group_rows-requires-clause-out : goal.group_rows-requires-clause-out
group_rows-requires-clause-out c =
    let ns = c.args.dims.now in
    let inner = behind_of ns c.put.new.self c.args.axis c.args.groups c.width_behind.result c.put.ensures c.width_behind.ensures in
    let outer = before_of ns c.put.new.self c.args.axis c.args.groups c.blocks_before.result c.put.ensures c.blocks_before.ensures in
    let all : c.blocks_before.result * c.args.groups * c.width_behind.result * size_of c.args.acc ≡ length c.args.out.now =
    (λ j. outer j * c.args.groups * inner j * size_of c.args.acc)
    ∙ ap (λ p. p * size_of c.args.acc) (sym (product_split c.args.axis c.args.groups ns c.requires.axis)) ∙ sym c.requires.out in
    omega (arith, all)

pub returns : goal.returns
returns c idx inside =
    let ns = c.args.dims.now in
    let axis = c.args.axis in
    let g = c.args.groups in
    let parts = inside_parts axis g ns idx c.requires.axis inside in
    let inner = behind_of ns c.put.new.self axis g c.width_behind.result c.put.ensures c.width_behind.ensures in
    let outer = before_of ns c.put.new.self axis g c.blocks_before.result c.put.ensures c.blocks_before.ensures in
    let o = place_of (take axis ns) (take axis idx) in
    let q = slice_index idx axis in
    let j = place_of (drop (suc axis) ns) (drop (suc axis) idx) in
    let label = label_in c.args.label_t c.args.labels.now in
    let read : ℕ → ℤ = λ p. element_at Little c.args.t c.args.input.now p in
    let below = place-below (take axis ns) (take axis idx) parts.1 in
    let within = place-below (drop (suc axis) ns) (drop (suc axis) idx) parts.3 in
    let at : (o * g + q) * c.width_behind.result + j ≡ place_of (slice_set ns axis g) idx =
    (λ k. (o * g + q) * inner k + j) ∙ sym (place_split axis g ns idx c.requires.axis parts.0) in
    let same : map read (row_sources label c.width_behind.result (o * c.at.result) c.at.result q j)
    ≡ map (λ k. read (place_of ns (slice_set idx axis k))) (members label q (range_with_len 0
    (slice_index ns axis))) =
    (λ i. map read (row_sources label (inner i) (o * c.at.ensures i) (c.at.ensures i) q j))
    ∙ map-map read (λ k. (o * slice_index ns axis + k) * product (drop (suc axis) ns) + j)
    (members label q (range_with_len 0 (slice_index ns axis)))
    ∙ (λ i. map (λ k. read (sym (place_own axis k ns idx c.requires.axis parts.0) i))
    (members label q (range_with_len 0 (slice_index ns axis)))) in
    subst (λ p. HasNumber c.args.acc c.group_rows.new.out p (group_fold c.args.kind c.args.acc
    (map (λ k. read (place_of ns (slice_set idx axis k))) (members label q (range_with_len 0
    (slice_index ns axis)))))) at
    (subst (λ xs. HasNumber c.args.acc c.group_rows.new.out
    ((o * g + q) * c.width_behind.result + j) (group_fold c.args.kind c.args.acc xs)) same
    (c.group_rows.ensures o q j (omega (arith, outer, below)) parts.2 (omega
    (arith, inner, within))))
