-- What typing sees to of prefix sums, and that the labels of groups keep the limits.
use Rattle.std.proofs.Common.{◌≡◌, ℕ, ◌<◌, ◌≤◌, ◌*◌, ◌^◌, ◌==◌, true, ℤ, List, [], ◌∷◌, length, All, Option, Some, None, Ok, refl, ap, sym, ◌∙◌, subst, arith}
use Rattle.std.specs.Prelude.{slice_index, slice_set, unwrap_or}
use Rattle.std.proofs.lemmas.Bool.{and_parts, eqb-true, le-leb, leb-true}
use Rattle.std.proofs.lemmas.List.{length-set}
use Rattle.std.proofs.lemmas.List.Elements.{All-nil, All-cons, All-get_or}
use Rattle.cu_num.specs.Dtype.{size_of}
use Rattle.cu_num.specs.declared.folds.FoldKind.{FoldKind}
use Rattle.cu_shape.specs.Counts.{counts_of, at_least_one}
use Rattle.cu_shape.specs.Index.{product}
use Rattle.cu_node.specs.Info.{IsInfo}
use Rattle.cu_node.specs.Limited.{is_chunk_within}
use Rattle.cu_node.specs.declared.info.NodeInfo.{NodeInfo}
use Rattle.cu_typing.specs.Accepted.{IsAcceptedGroups}
use Rattle.cu_typing.specs.Along.{labels_aligned, summed_axis, typed_cumulative, typed_groups}
use Rattle.cu_typing.proofs.PassedAlong.{cumulative_passed, groups_passed}
use Rattle.cu_tree.specs.Sums.{IsSummed}
use Rattle.cu_tree.proofs.Sizes.{count_few}
use Rattle.cu_copy.specs.Copies.{IsRechunk, in_chunks, rechunked}
use Rattle.cu_need.specs.Along.{sum_axis, group_axis, labels_wanted, AreGroupsWithin}
use Rattle.cu_need.proofs.SoughtAxes.{axis_below, some_when}

-- ---- prefix sums

pub summed_below : (rank : ℕ) (axis : Option ℤ) (place : ℕ) → summed_axis rank axis ≡ Some place → place < rank
summed_below rank (Some d) place h = axis_below d rank place h
summed_below rank None place h = let s = some_when (rank == 1) 0 place h in let e = eqb-true rank 1 s.0 in let z = s.1 in omega (arith, e, z)

pub sums_within : (axis : Option ℤ) (source made : NodeInfo) → IsInfo source → IsInfo made → typed_cumulative axis source ≡ Ok made → IsSummed made source (sum_axis source axis)
sums_within axis source made hs hm typed =
    let p = cumulative_passed axis source made typed in
    let is : sum_axis source axis ≡ p.0 = ap (λ (o : Option ℕ). unwrap_or o 0) p.1.named in
    let below = summed_below (length source.dims) axis p.0 p.1.named in
    record {
      source_info = hs;
      made_info = hm;
      along = omega (arith, is, below);
      dims = ap (λ (i : NodeInfo). i.dims) p.1.array;
      chunk = ap (λ (i : NodeInfo). i.chunk) p.1.array;
    }

-- ---- groups by labels

only_axis : (ns : List ℕ) → length ns ≡ 1 → ns ≡ slice_index ns 0 ∷ []
only_axis [] h = absurd (omega (arith, h))
only_axis (n ∷ []) h = refl
only_axis (n ∷ m ∷ ns) h = absurd (omega (arith, h))

module _ (kind : FoldKind) (number : ℤ) (groups : ℕ) (source labels made : NodeInfo) (hs : IsInfo source) (hl : IsInfo labels) (hm : IsInfo made)
    (typed : typed_groups kind number groups source labels ≡ Ok made) where
  abbrev pub axis : ℕ
  axis = (groups_passed kind number groups source labels made typed).0

  pub accepted : IsAcceptedGroups kind groups axis source labels made
  accepted = (groups_passed kind number groups source labels made typed).1.1

  pub axis_is : group_axis source number ≡ axis
  axis_is = ap (λ (o : Option ℕ). unwrap_or o 0) (groups_passed kind number groups source labels made typed).1.0

  pub along : axis < length source.dims
  along = axis_below number (length source.dims) axis (groups_passed kind number groups source labels made typed).1.0

  pub labelled : (length labels.dims ≡ 1) × (slice_index labels.dims 0 ≡ slice_index source.dims axis)
  labelled =
      let both = and_parts (length labels.dims == 1) (slice_index labels.dims 0 == slice_index source.dims axis) accepted.labelled in
      (eqb-true (length labels.dims) 1 both.0, eqb-true (slice_index labels.dims 0) (slice_index source.dims axis) both.1)

  -- there is a label for each place of the axis
  pub label_sizes : labels.dims ≡ slice_index source.dims axis ∷ []
  label_sizes = only_axis labels.dims labelled.0 ∙ ap (λ (n : ℕ). n ∷ []) labelled.1

  pub label_chunk : labels_aligned source (group_axis source number) ≡ slice_index source.chunk axis ∷ []
  label_chunk = ap (labels_aligned source) axis_is

  chunk_within : is_chunk_within labels.dtype (labels_aligned source (group_axis source number)) ≡ true
  chunk_within = ap (λ (a : ℕ). is_chunk_within labels.dtype (labels_aligned source a)) axis_is ∙ accepted.within

  chunk_positive : All (λ c. 0 < c) (labels_aligned source (group_axis source number))
  chunk_positive =
      let e = hs.ranks in
      let a = along in
      subst (λ (cs : List ℕ). All (λ c. 0 < c) cs) (sym label_chunk)
      (All-cons (λ c. 0 < c) (slice_index source.chunk axis) [] (All-get_or (λ c. 0 < c) source.chunk axis 0 (omega (arith, e, a)) hs.positive) (All-nil (λ c. 0 < c)))

  counts_few : product (at_least_one (counts_of labels.dims (labels_aligned source (group_axis source number)))) ≤ 65536
  counts_few =
      let few = count_few source axis hs along in
      let one : product (at_least_one (counts_of (slice_index source.dims axis ∷ []) (slice_index source.chunk axis ∷ []))) ≤ 65536 =
      omega (arith, few) in
      subst (λ (ns : List ℕ). product (at_least_one (counts_of ns (labels_aligned source (group_axis source number)))) ≤ 65536) (sym label_sizes)
      (subst (λ (cs : List ℕ). product (at_least_one (counts_of (slice_index source.dims axis ∷ []) cs)) ≤ 65536) (sym label_chunk) one)

  -- the labels in the array's chunks
  pub labels_kept : IsInfo (rechunked (labels_wanted source number labels))
  labels_kept = record {
    ranks = sym labelled.0;
    short = hl.short;
    positive = chunk_positive;
    elements = hl.elements;
    chunks = counts_few;
    bytes = leb-true (product (labels_aligned source (group_axis source number)) * size_of labels.dtype) (2 ^ 28) chunk_within;
  }

  pub groups_within : AreGroupsWithin made (rechunked (labels_wanted source number labels))
  groups_within =
      let one = labelled.0 in
      let long : length made.dims ≡ length (slice_set source.dims axis groups) = ap (λ (i : NodeInfo). length i.dims) accepted.array in
      let same = length-set source.dims axis groups in
      let short = accepted.short in
      (labels_kept, omega (arith, one), omega (arith, long, same, short))

  pub labels_rechunk : IsRechunk (labels_wanted source number labels)
  labels_rechunk = record { source = hl; ranks = sym labelled.0; positive = chunk_positive; bytes = chunk_within }

-- an array in its own chunks
pub own_rechunk : (i : NodeInfo) → IsInfo i → IsRechunk (in_chunks i i.chunk)
own_rechunk i h = record { source = h; ranks = h.ranks; positive = h.positive; bytes = le-leb (product i.chunk * size_of i.dtype) (2 ^ 28) h.bytes }
