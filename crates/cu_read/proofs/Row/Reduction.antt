-- Reductions, places, products, prefix sums and groups by labels.
use Rattle.std.proofs.Common.{◌≡◌, ◌+◌, [], ◌∷◌, Bool, true, false, Option, Some, None, List, ℕ, codes, Ok, IfOk, refl, subst, Result}
use Rattle.std.specs.Prelude.{bytes_eq, if◌then◌else◌}
use Rattle.std.proofs.lemmas.Slice.Eq.{bytes_eq-Decides}
use Rattle.serde_json.specs.Data.{Data}
use Rattle.serde_json.specs.Find.{get}
use Rattle.cu_num.specs.declared.folds.FoldKind.{FoldKind}
use Rattle.cu_num.specs.declared.folds.FoldKind.TheVariants.{Sum, Prod, Min, Max, Any, All}
use Rattle.cu_form.specs.Form.{is_group_count}
use Rattle.cu_form.specs.declared.form.Form.{Form}
use Rattle.cu_read.specs.Members.{integer_of, integers_of, natural_of, or_null, present}
use Rattle.cu_read.specs.Node.{row_of}
use Rattle.cu_read.specs.Reduction.{fold_named, place_name, group_name, SaysReduction, reduce_in, search_in, matmul_in, cumulative_in, group_in, reduce_row, reduction_row}
use Rattle.cu_read.specs.declared.faults.NodeCode.{NodeCode}
use Rattle.cu_read.proofs.Passing.{member_passes}
use Rattle.cu_read.proofs.PlainMembers.{and_may}
use Rattle.cu_read.proofs.PlainNodes.{node_of, args_hold, bare_plain, two_plain, one_more, folded_plain}
use Rattle.cu_read.proofs.PlainReaders.{integer_plain, natural_plain, integers_plain, or_null_plain}
use Rattle.cu_read.proofs.Ranges.{natural_passes}
use Rattle.cu_read.proofs.Row.{Laws}
use Rattle.cu_read.proofs.RowsRead.{args_read, none_read, one_read, two_read, read_as}
use Rattle.cu_read.proofs.Steps.{args_are, no_member, one_member, two_members, by_name}

-- ---- what is read says it

reduce_says : (kind : FoldKind) (ids : List (List ℕ)) (op : List ℕ) (d : Data) → fold_named op ≡ Some kind → IfOk (reduce_in kind ids d) (SaysReduction ids op d)
reduce_says kind ids op d is = two_members _ _ _ _ (λ x y xs. Form.Reduce kind xs x y) (SaysReduction ids op d)
    (λ m x a y b xs r. (is, m, a, b, args_are ids d xs r))

place_says : (least : Bool) (ids : List (List ℕ)) (op : List ℕ) (d : Data) → op ≡ place_name least → IfOk (search_in least ids d) (SaysReduction ids op d)
place_says least ids op d is = two_members _ _ _ _ (λ x y xs. Form.ArgPlace least xs x y) (SaysReduction ids op d)
    (λ m x a y b xs r. (is, m, a, b, args_are ids d xs r))

group_says : (least : Bool) (ids : List (List ℕ)) (op : List ℕ) (d : Data) → op ≡ group_name least
    → IfOk (group_in least ids d) (SaysReduction ids op d)
group_says least ids op d is =
    two_members _ _ _ _
    (λ x y xs. Form.GroupBy least xs x y) (SaysReduction ids op d)
    (λ m x a y b xs r. (is, m, a, b, args_are ids d xs r))

reduce_row_says : (ids : List (List ℕ)) (op : List ℕ) (d : Data) (found : Option FoldKind) → fold_named op ≡ found → IfOk (reduce_row found ids d) (SaysReduction ids op d)
reduce_row_says ids op d (Some kind) h = reduce_says kind ids op d h
reduce_row_says ids op d None h = tt

pub reduction_says : (ids : List (List ℕ)) (op : List ℕ) (d : Data) → IfOk (reduction_row op ids d) (SaysReduction ids op d)
reduction_says ids op d =
    let said : Result Form NodeCode → Type 0 = λ r. IfOk r (SaysReduction ids op d) in
    by_name op (codes "argmin") _ _ said (place_says true ids op d)
    (by_name op (codes "argmax") _ _ said (place_says false ids op d)
    (by_name op (codes "matmul") _ _ said (λ is. no_member _ _ Form.Matmul (SaysReduction ids op d) (λ m xs r. (is, m, args_are ids d xs r)))
    (by_name op (codes "cumulative_sum") _ _ said (λ is. one_member _ _ _ (λ x xs. Form.CumulativeSum xs x) (SaysReduction ids op d) (λ m x a xs r. (is, m, a, args_are ids d xs r)))
    (by_name op (codes "groupby_sum") _ _ said (group_says false ids op d)
    (by_name op (codes "groupby_min") _ _ said (group_says true ids op d)
    (reduce_row_says ids op d (fold_named op) refl))))))

-- ---- the table of reductions

entry_by : {A : Type 0} (op name : List ℕ) (x : A) (next : Option A) (P : A → Type 0) (y : A) (b : Bool) → bytes_eq op name ≡ b → (op ≡ name → P x) → (next ≡ Some y → P y)
    → (if b then Some x else next) ≡ Some y → P y
entry_by op name x next P y true e here later h = let same : x ≡ y = cc in subst P same (here ((bytes_eq-Decides op name).0 e))
entry_by op name x next P y false e here later h = later h

by_entry : {A : Type 0} (op name : List ℕ) (x : A) (next : Option A) (P : A → Type 0) → (op ≡ name → P x) → ((y : A) → next ≡ Some y → P y)
    → (y : A) → (if bytes_eq op name then Some x else next) ≡ Some y → P y
by_entry op name x next P here later y h = entry_by op name x next P y (bytes_eq op name) refl here (later y) h

-- the row of a reduction by its name
reduce_read : (ids : List (List ℕ)) (op : List ℕ) (d : Data) (make : FoldKind → Form) → ((kind : FoldKind) → reduce_in kind ids d ≡ Ok (make kind))
    → (kind : FoldKind) → fold_named op ≡ Some kind → row_of op ids d ≡ Ok (make kind)
reduce_read ids op d make each =
    let named : FoldKind → Type 0 = λ kind. row_of op ids d ≡ Ok (make kind) in
    by_entry op (codes "sum") Sum _ named (λ e. read_as op (codes "sum") ids d (reduce_in Sum ids d) _ _ e refl (each Sum))
    (by_entry op (codes "prod") Prod _ named (λ e. read_as op (codes "prod") ids d (reduce_in Prod ids d) _ _ e refl (each Prod))
    (by_entry op (codes "min") Min _ named (λ e. read_as op (codes "min") ids d (reduce_in Min ids d) _ _ e refl (each Min))
    (by_entry op (codes "max") Max _ named (λ e. read_as op (codes "max") ids d (reduce_in Max ids d) _ _ e refl (each Max))
    (by_entry op (codes "any") Any _ named (λ e. read_as op (codes "any") ids d (reduce_in Any ids d) _ _ e refl (each Any))
    (by_entry op (codes "all") All _ named (λ e. read_as op (codes "all") ids d (reduce_in All ids d) _ _ e refl (each All)) (λ y e. cc))))))

-- ---- what says it is read, in its ranges and without a float

place_read : (least : Bool) (ids : List (List ℕ)) (op : List ℕ) (d : Data) (form : Form) → op ≡ place_name least
    → search_in least ids d ≡ Ok form → row_of op ids d ≡ Ok form
place_read true ids op d form is h = read_as op (codes "argmin") ids d _ _ form is refl h
place_read false ids op d form is h = read_as op (codes "argmax") ids d _ _ form is refl h

group_read : (least : Bool) (ids : List (List ℕ)) (op : List ℕ) (d : Data) (form : Form) → op ≡ group_name least
    → group_in least ids d ≡ Ok form → row_of op ids d ≡ Ok form
group_read true ids op d form is h = read_as op (codes "groupby_min") ids d _ _ form is refl h
group_read false ids op d form is h = read_as op (codes "groupby_sum") ids d _ _ form is refl h

pub reduction_laws : (ids : List (List ℕ)) (op : List ℕ) (d : Data) (form : Form) → SaysReduction ids op d form → Laws ids op d form
reduction_laws ids op d (Form.Reduce kind args axes keepdims) h = record {
  read = reduce_read ids op d (λ k. Form.Reduce k args axes keepdims) (λ k. two_read _ _ _ _ (λ x y xs. Form.Reduce k xs x y) axes keepdims args h.1 h.2 h.3 (args_read ids d args h.4)) kind h.0;
  ranges = refl;
  plain = λ t. folded_plain integers_of (codes "axes") ids d axes keepdims args integers_plain refl t h.1 h.2 h.3 h.4;
}
reduction_laws ids op d (Form.ArgPlace least args axis keepdims) h = record {
  read = place_read least ids op d _ h.0 (two_read _ _ _ _ (λ x y xs. Form.ArgPlace least xs x y) axis keepdims args h.1 h.2 h.3 (args_read ids d args h.4));
  ranges = refl;
  plain = λ t. folded_plain integer_of (codes "axis") ids d axis keepdims args integer_plain refl t h.1 h.2 h.3 h.4;
}
reduction_laws ids op d (Form.Matmul args) h = record {
  read = read_as op (codes "matmul") ids d (matmul_in ids d) _ _ h.0 refl (none_read _ _ Form.Matmul args h.1 (args_read ids d args h.2));
  ranges = refl;
  plain = λ t. bare_plain ids d args t h.1 h.2;
}
reduction_laws ids op d (Form.CumulativeSum args axis) h = record {
  read = read_as op (codes "cumulative_sum") ids d (cumulative_in ids d) _ _ h.0 refl (one_read _ _ _ (λ x xs. Form.CumulativeSum xs x) axis args h.1 h.2 (args_read ids d args h.3));
  ranges = refl;
  plain = λ t.
      node_of (codes "axis" ∷ codes "args" ∷ []) (present (codes "axis") d + 1)
      (3 + present (codes "axis") d) d t refl h.1 (one_more (present (codes "axis") d))
      (and_may None (or_null integer_of) (codes "axis") (codes "args" ∷ []) 1 d axis
      (or_null_plain integer_of integer_plain) h.2 (args_hold ids d args h.3));
}
reduction_laws ids op d (Form.GroupBy least args axis groups) h = record {
  read = group_read least ids op d _ h.0 (two_read _ _ _ _ (λ x y xs. Form.GroupBy least xs x y) axis groups args h.1 h.2 h.3 (args_read ids d args h.4));
  ranges =
      member_passes (natural_of is_group_count) is_group_count (natural_passes is_group_count)
      (get (codes "groups") d) groups h.3;
  plain = λ t.
      two_plain integer_of (codes "axis") (natural_of is_group_count) (codes "groups") ids d axis groups
      args integer_plain (natural_plain is_group_count) refl t h.1 h.2 h.3 h.4;
}
reduction_laws ids op d form h = absurd h
