-- What the typing of prefix sums and of groups by labels says of their steps.
use Rattle.std.proofs.Common.{◌≡◌, ◌⊎◌, ℕ, Bool, true, false, ℤ, [], ◌∷◌, Option, Ok, refl, ap, sym, ◌∙◌, subst, inl, inr, arith}
use Rattle.std.specs.Prelude.{nat_le, slice_index, slice_set}
use Rattle.std.proofs.lemmas.Bool.{and_parts, leb-true}
use Rattle.cu_copy.specs.Copies.{rechunked}
use Rattle.cu_form.specs.Form.{group_kind, is_group_count}
use Rattle.cu_node.specs.Info.{IsInfo}
use Rattle.cu_node.specs.declared.info.NodeInfo.{NodeInfo}
use Rattle.cu_num.specs.Dtype.{IsInteger}
use Rattle.cu_num.proofs.TypeTests.{IsInteger-is_integer}
use Rattle.cu_num.specs.declared.folds.FoldKind.TheVariants.{Sum, Min}
use Rattle.cu_reduce.specs.Kinds.{Accumulates}
use Rattle.cu_typing.specs.Along.{typed_cumulative, typed_groups}
use Rattle.cu_typing.proofs.PassedAlong.{cumulative_passed}
use Rattle.cu_need.specs.Along.{group_axis, labels_wanted, sum_axis}
use Rattle.cu_need.proofs.AlongTypes as wanted
use Rattle.cu_lower_reduce.specs.Cumulative.{IsCumulative}
use Rattle.cu_lower_reduce.specs.Grouped.{IsGrouped}
use Rattle.cu_lower.proofs.ReductionTypes.{accumulates}

-- ---- prefix sums

pub cumulative_typed : (axis : Option ℤ) (from made : NodeInfo) (source : ℕ) → IsInfo from → IsInfo made → typed_cumulative axis from ≡ Ok made
    → IsCumulative (record { source = source; from = from; made = made; axis = sum_axis from axis })
cumulative_typed axis from made source hf hm typed =
    let p = cumulative_passed axis from made typed in
    record {
      summed = wanted.sums_within axis from made hf hm typed;
      integer = subst IsInteger (sym (ap (λ (m : NodeInfo). m.dtype) p.1.array)) (accumulates Sum from.dtype);
    }

-- ---- groups by labels

kinds_are : (least : Bool) → (group_kind least ≡ Sum) ⊎ (group_kind least ≡ Min)
kinds_are true = inr refl
kinds_are false = inl refl

pub grouped_typed : (least : Bool) (number : ℤ) (groups : ℕ) (i l made : NodeInfo) (source labels : ℕ) → IsInfo i → IsInfo l → IsInfo made → is_group_count groups ≡ true
    → typed_groups (group_kind least) number groups i l ≡ Ok made
    → IsGrouped (record {
      kind = group_kind least;
      axis = group_axis i number;
      groups = groups;
      source = source;
      labels = labels;
      source_info = i;
      labels_info = rechunked (labels_wanted i number l);
      made = made;
    })
grouped_typed least number groups i l made source labels hi hl hm count typed =
    let kind = group_kind least in
    let p = wanted.accepted kind number groups i l made hi hl hm typed in
    let is = wanted.axis_is kind number groups i l made hi hl hm typed in
    let below = wanted.along kind number groups i l made hi hl hm typed in
    let within = wanted.groups_within kind number groups i l made hi hl hm typed in
    let few = and_parts (nat_le 1 groups) (nat_le groups 65536) count in
    record {
      source = hi;
      made = hm;
      kinds = kinds_are least;
      along = omega (arith, is, below);
      some = leb-true 1 groups few.0;
      few = leb-true groups 65536 few.1;
      integer = IsInteger-is_integer i.dtype p.accepted;
      types = subst (Accumulates (group_kind least) i.dtype) (sym (ap (λ (m : NodeInfo). m.dtype) p.array)) (accumulates (group_kind least) i.dtype);
      label_type = IsInteger-is_integer l.dtype p.labels_type;
      label_sizes = wanted.label_sizes kind number groups i l made hi hl hm typed ∙ ap (λ (a : ℕ). slice_index i.dims a ∷ []) (sym is);
      label_chunk = refl;
      label_bytes = within.0.bytes;
      short = (let s = within.2 in omega (arith, s));
      shape = ap (λ (m : NodeInfo). m.dims) p.array ∙ ap (λ (a : ℕ). slice_set i.dims a groups) (sym is);
      chunk = ap (λ (m : NodeInfo). m.chunk) p.array ∙ ap (λ (a : ℕ). slice_set i.chunk a groups) (sym is);
    }
