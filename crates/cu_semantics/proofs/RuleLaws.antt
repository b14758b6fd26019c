-- What is proved of the rule of a node, by its form.
use Rattle.std.proofs.Common.{◌≡◌, Bool, true, false, List, [], ◌∷◌, ℕ, ℤ, pos, length, slice_index, refl, sym, ap, ◌∙◌, subst}
use Rattle.std.specs.Prelude.{if◌then◌else◌}
use Rattle.cu_num.specs.Dtype.{InRange}
use Rattle.cu_num.specs.Wrap.{wrapped}
use Rattle.cu_num.specs.declared.types.Dtype.{Dtype}
use Rattle.cu_num.proofs.Wrapped.{InRange-wrapped}
use Rattle.cu_shape.specs.Index.{is_inside}
use Rattle.cu_origin.specs.Pull.{is_in_triangle}
use Rattle.cu_form.specs.Form.{args_of, names_earlier, group_kind}
use Rattle.cu_form.specs.declared.form.Form.{Form}
use Rattle.cu_node.specs.Info.{info_at}
use Rattle.cu_node.specs.declared.info.NodeInfo.{NodeInfo}
use Rattle.cu_reduce.specs.Folds.{fold_of}
use Rattle.cu_reduce.specs.Labels.{grouped_at}
use Rattle.cu_reduce.specs.Places.{best_place}
use Rattle.cu_reduce.proofs.Folding.{zero_in_range, one_in_range}
use Rattle.cu_semantics.specs.Along.{line_axis, along, sum_up_to, places_on}
use Rattle.cu_semantics.specs.Argument.{NodeElements, shape_of_node, source_at, source_shape}
use Rattle.cu_semantics.specs.Index.{axis_in}
use Rattle.cu_semantics.specs.Matmul.{matmul_at}
use Rattle.cu_semantics.specs.Meaning.{AgreeBelow}
use Rattle.cu_semantics.specs.Reduction.{reduced_elements}
use Rattle.cu_semantics.specs.Rule.{function_value, place_axes, rule_of, KeepsType, node_element}
use Rattle.cu_semantics.specs.Typed.{type_of_node}
use Rattle.cu_semantics.proofs.Earlier.{source_agrees, source_same, arguments_agree, concat_agrees}
use Rattle.cu_semantics.proofs.InType.{FitBelow, either_fits, source_fits, concat_fits, function_fits, place_fits}

-- It depends on the elements of earlier nodes alone, and gives a number of the node's type.
record Laws (infos : List NodeInfo) (env : NodeElements) (k : ℕ) (form : Form) : Type 0 where
  pub agrees : (at other : NodeElements) (idx : List ℕ) → AgreeBelow k at other → rule_of infos env at k form idx ≡ rule_of infos env other k form idx
  pub fits : (at : NodeElements) (idx : List ℕ) → is_inside (shape_of_node infos k) idx ≡ true → FitBelow infos at k → KeepsType infos env k form
      → InRange (type_of_node infos k) (rule_of infos env at k form idx)

-- the last row is of the views of one array
laws_of : (infos : List NodeInfo) (env : NodeElements) (k : ℕ) (form : Form) → names_earlier k form ≡ true → Laws infos env k form
laws_of infos env k (Form.Input name) earlier = record { agrees = λ at other idx agree. refl; fits = λ at idx inside below keeps. keeps idx }
laws_of infos env k (Form.Elementwise op args) earlier = record {
  agrees = λ at other idx agree. ap (function_value op (info_at infos k).dtype) (arguments_agree infos at other k idx args agree earlier);
  fits = λ at idx inside below keeps. function_fits infos at k (type_of_node infos k) op args idx below earlier keeps;
}
laws_of infos env k (Form.Full shape dtype value chunk) earlier = record { agrees = λ at other idx agree. refl; fits = λ at idx inside below keeps. keeps }
laws_of infos env k (Form.Arange start stop step dtype chunk) earlier = record { agrees = λ at other idx agree. refl; fits = λ at idx inside below keeps. keeps idx inside }
laws_of infos env k (Form.Eye rows cols d dtype chunk) earlier = record {
  agrees = λ at other idx agree. refl;
  fits = λ at idx inside below keeps. either_fits (type_of_node infos k) _ (pos 1) (pos 0) (one_in_range (type_of_node infos k)) (zero_in_range (type_of_node infos k));
}
laws_of infos env k (Form.Triangle lower args d) earlier = record {
  agrees = λ at other idx agree. ap (λ (x : ℤ). if is_in_triangle lower d idx then x else pos 0) (source_agrees at other k args 0 idx agree earlier);
  fits = λ at idx inside below keeps.
      either_fits (type_of_node infos k) (is_in_triangle lower d idx) _ (pos 0) (source_fits infos at k (type_of_node infos k) args 0 idx below earlier keeps) (zero_in_range (type_of_node infos k));
}
laws_of infos env k (Form.Concat args axis) earlier = record {
  agrees = λ at other idx agree. concat_agrees infos at other k (axis_in (length idx) axis) args idx agree earlier;
  fits = λ at idx inside below keeps. concat_fits infos at k (type_of_node infos k) (axis_in (length idx) axis) args idx below earlier keeps;
}
laws_of infos env k (Form.Stack args axis) earlier = record {
  agrees = λ at other idx agree. source_agrees at other k args (slice_index idx (axis_in (length idx) axis)) _ agree earlier;
  fits = λ at idx inside below keeps. source_fits infos at k (type_of_node infos k) args (slice_index idx (axis_in (length idx) axis)) _ below earlier keeps;
}
laws_of infos env k (Form.Reduce kind args axes keepdims) earlier = record {
  agrees = λ at other idx agree.
      ap (λ (f : List ℕ → ℤ). wrapped (info_at infos k).dtype (fold_of kind (reduced_elements f axes keepdims (source_shape infos args 0) idx))) (source_same at other k args 0 agree earlier);
  fits = λ at idx inside below keeps. InRange-wrapped (type_of_node infos k) _;
}
laws_of infos env k (Form.ArgPlace least args axis keepdims) earlier = record {
  agrees = λ at other idx agree.
      ap (λ (f : List ℕ → ℤ). pos (best_place least (reduced_elements f (place_axes axis) keepdims (source_shape infos args 0) idx))) (source_same at other k args 0 agree earlier);
  fits = λ at idx inside below keeps.
      subst (λ (r : Dtype). InRange r (rule_of infos env at k (Form.ArgPlace least args axis keepdims) idx)) (sym keeps.0)
      (place_fits least (source_at at args 0) (place_axes axis) keepdims (source_shape infos args 0) idx keeps.1);
}
laws_of infos env k (Form.Matmul args) earlier = record {
  agrees = λ at other idx agree.
      ap (λ (f : List ℕ → ℤ). wrapped (info_at infos k).dtype (matmul_at f (source_shape infos args 0) (source_at at args 1) (source_shape infos args 1) idx)) (source_same at other k args 0 agree earlier)
      ∙ ap (λ (f : List ℕ → ℤ). wrapped (info_at infos k).dtype (matmul_at (source_at other args 0) (source_shape infos args 0) f (source_shape infos args 1) idx)) (source_same at other k args 1 agree earlier);
  fits = λ at idx inside below keeps. InRange-wrapped (type_of_node infos k) _;
}
laws_of infos env k (Form.CumulativeSum args axis) earlier = record {
  agrees = λ at other idx agree. ap (λ (f : List ℕ → ℤ). wrapped (info_at infos k).dtype (sum_up_to f (line_axis (length idx) axis) idx)) (source_same at other k args 0 agree earlier);
  fits = λ at idx inside below keeps. InRange-wrapped (type_of_node infos k) _;
}
laws_of infos env k (Form.GroupBy least args axis groups) earlier = record {
  agrees = λ at other idx agree.
      let t = (info_at infos k).dtype in
      let a = axis_in (length idx) axis in
      let made : (List ℕ → ℤ) → (List ℕ → ℤ) → ℤ =
      λ label element. wrapped t (grouped_at (group_kind least) t (λ p. label (p ∷ [])) (along element a idx) (slice_index idx a) (places_on (source_shape infos args 0) a)) in
      ap (made (source_at at args 1)) (source_same at other k args 0 agree earlier)
      ∙ ap (λ (f : List ℕ → ℤ). made f (source_at other args 0)) (source_same at other k args 1 agree earlier);
  fits = λ at idx inside below keeps. InRange-wrapped (type_of_node infos k) _;
}
laws_of infos env k form earlier = record {
  agrees = λ at other idx agree. source_agrees at other k (args_of form) 0 _ agree earlier;
  fits = λ at idx inside below keeps. source_fits infos at k (type_of_node infos k) (args_of form) 0 _ below earlier keeps;
}

-- ---- the node

pub node_agrees : (infos : List NodeInfo) (env at other : NodeElements) (k : ℕ) (form : Form) (idx : List ℕ) → names_earlier k form ≡ true → AgreeBelow k at other
    → node_element infos env at k form idx ≡ node_element infos env other k form idx
node_agrees infos env at other k form idx earlier agree =
    ap (λ (x : ℤ). if is_inside (shape_of_node infos k) idx then x else pos 0) ((laws_of infos env k form earlier).agrees at other idx agree)

pub node_fits_by : (infos : List NodeInfo) (env at : NodeElements) (k : ℕ) (form : Form) (idx : List ℕ) (b : Bool) → is_inside (shape_of_node infos k) idx ≡ b → FitBelow infos at k → names_earlier k form ≡ true
    → KeepsType infos env k form → InRange (type_of_node infos k) (if b then rule_of infos env at k form idx else pos 0)
node_fits_by infos env at k form idx true e below earlier keeps = (laws_of infos env k form earlier).fits at idx e below keeps
node_fits_by infos env at k form idx false e below earlier keeps = zero_in_range (type_of_node infos k)
