-- The arrays of input nodes.
use Rattle.std.proofs.Common.{◌≡◌, ◌+◌, ◌<◌, zero, suc, ℕ, ℤ, pos, Bool, true, false, List, length, Some, refl, sym, ap, ◌∙◌, subst, arith}
use Rattle.std.specs.Prelude.{slice_get, if◌then◌else◌}
use Rattle.std.proofs.lemmas.List.Sums.{count_by_more_yes, count_by_more_no}
use Rattle.cu_num.specs.Dtype.{InRange}
use Rattle.cu_shape.specs.Index.{product, index_at, is_inside, IsInside}
use Rattle.cu_shape.proofs.Places.{test_from_inside, index-inside}
use Rattle.cu_form.specs.Expression.{Expression, IsExpression}
use Rattle.cu_form.specs.declared.expr.Node.{Node}
use Rattle.cu_form.specs.declared.form.Form.{Form}
use Rattle.cu_node.specs.Info.{info_at}
use Rattle.cu_node.specs.declared.info.NodeInfo.{NodeInfo}
use Rattle.cu_semantics.specs.Argument.{NodeElements, shape_of_node}
use Rattle.cu_semantics.specs.Meaning.{meaning_of}
use Rattle.cu_semantics.specs.Rule.{rule_of}
use Rattle.cu_semantics.specs.Typed.{type_of_node}
use Rattle.cu_semantics.proofs.Equation.{equation}
use Rattle.cu_semantics.proofs.RuleLaws.{node_agrees}
use Rattle.cu_mean.specs.Going.{input_elements, HoldFirst}
use Rattle.cu_mean.specs.Laws.{FitsInput, FitInputs}
use Rattle.cu_mean.specs.Node.{is_input}
use Rattle.cu_mean.specs.Plain.{PlainArray, IsPlain}
use Rattle.cu_mean.specs.Reading.{plain_at, element_or_zero}
use Rattle.cu_mean.specs.Whole.{is_input_node, inputs_before, AreInputNodes, HoldsElements, HoldInputs, HoldMeaning}
use Rattle.cu_mean.proofs.Found.{there, within, read_or}
use Rattle.cu_mean.proofs.HeldElements.{held, read_in_range, read_at_place}

-- ---- their elements are numbers of their types

fits_form : (infos : List NodeInfo) (env : NodeElements) (k : ℕ) (form : Form) → (is_input form ≡ true → (idx : List ℕ) → InRange (type_of_node infos k) (env k idx)) → FitsInput infos env k form
fits_form infos env k (Form.Input name) h = h refl
fits_form infos env k form h = tt

pub inputs_fit : (e : Expression) (infos : List NodeInfo) (inputs : List PlainArray) → AreInputNodes e infos inputs → FitInputs e infos (input_elements e inputs)
inputs_fit e infos inputs are k node at = fits_form infos (input_elements e inputs) k node.form (λ input idx.
    let p = are.each k node at input in
    let own : InRange p.0.dtype (plain_at p.0 idx) = read_in_range p.0 idx p.1.plain in
    let same : element_or_zero (slice_get inputs (inputs_before e k)) idx ≡ plain_at p.0 idx = ap (λ o. element_or_zero o idx) p.1.there in
    subst (λ (x : ℤ). InRange (type_of_node infos k) x) (sym same) (subst (λ t. InRange t (plain_at p.0 idx)) p.1.info.dtype own))

-- ---- an input's array holds its elements

rule_input : (infos : List NodeInfo) (env at : NodeElements) (k : ℕ) (form : Form) (idx : List ℕ) → is_input form ≡ true → rule_of infos env at k form idx ≡ env k idx
rule_input infos env at k (Form.Input name) idx h = refl
rule_input infos env at k form idx h = cc

-- inside the shape the meaning of an input node is its element
pub input_meaning : (e : Expression) (infos : List NodeInfo) (env : NodeElements) (k : ℕ) (node : Node) (idx : List ℕ) → IsExpression e → slice_get e.nodes k ≡ Some node → is_input node.form ≡ true
    → IsInside (shape_of_node infos k) idx → meaning_of e infos env k idx ≡ env k idx
input_meaning e infos env k node idx is at input inside =
    equation e infos env k node idx is at
    ∙ ap (λ (b : Bool). if b then rule_of infos env (meaning_of e infos env) k node.form idx else pos 0) (test_from_inside (shape_of_node infos k) idx inside)
    ∙ rule_input infos env (meaning_of e infos env) k node.form idx input

pub input_holds : (e : Expression) (infos : List NodeInfo) (inputs : List PlainArray) (k : ℕ) (node : Node) (p : PlainArray) → IsExpression e → AreInputNodes e infos inputs → slice_get e.nodes k ≡ Some node
    → is_input node.form ≡ true → slice_get inputs (inputs_before e k) ≡ Some p → HoldsElements (info_at infos k) (meaning_of e infos (input_elements e inputs) k) p
input_holds e infos inputs k node p is are at input got =
    let given = are.each k node at input in
    let q : given.0 ≡ p = cc (given.1.there, got) in
    let plain : IsPlain p = subst (λ (r : PlainArray). IsPlain r) q given.1.plain in
    let dtype : p.dtype ≡ type_of_node infos k = sym (ap (λ (r : PlainArray). r.dtype) q) ∙ given.1.info.dtype in
    let dims : p.dims ≡ shape_of_node infos k = sym (ap (λ (r : PlainArray). r.dims) q) ∙ given.1.info.dims in
    record {
      info = record { dtype = dtype; dims = dims };
      count = plain.count ∙ ap product dims;
      cells = λ place below.
          let idx = index_at (shape_of_node infos k) place in
          let inside : IsInside (shape_of_node infos k) idx = index-inside (shape_of_node infos k) place below in
          read_at_place p place (rw dims below) plain.count
          ∙ ap (λ (x : ℤ). Some x) (ap (λ (ds : List ℕ). plain_at p (index_at ds place)) dims ∙ sym (input_meaning e infos (input_elements e inputs) k node idx is at input inside ∙ ap (λ o. element_or_zero o idx) got));
    }

-- ---- how many come before a node

pub before_input : (e : Expression) (k : ℕ) (node : Node) → slice_get e.nodes k ≡ Some node → is_input node.form ≡ true → inputs_before e (k + 1) ≡ inputs_before e k + 1
before_input e k node at input = count_by_more_yes is_input_node e.nodes k node (within e.nodes k node at) (ap is_input_node (read_or e.nodes k node node at) ∙ input)

pub before_other : (e : Expression) (k : ℕ) (node : Node) → slice_get e.nodes k ≡ Some node → is_input node.form ≡ false → inputs_before e (k + 1) ≡ inputs_before e k
before_other e k node at other = count_by_more_no is_input_node e.nodes k node (within e.nodes k node at) (ap is_input_node (read_or e.nodes k node node at) ∙ other)

-- ---- elements that agree inside the shapes of the input nodes give the same meaning

same_rule : (infos : List NodeInfo) (env other at : NodeElements) (k : ℕ) (form : Form) (idx : List ℕ) → (is_input form ≡ true → env k idx ≡ other k idx)
    → rule_of infos env at k form idx ≡ rule_of infos other at k form idx
same_rule infos env other at k (Form.Input name) idx h = h refl
same_rule infos env other at k form idx h = refl

guarded : (b : Bool) (x y : ℤ) → (b ≡ true → x ≡ y) → (if b then x else pos 0) ≡ (if b then y else pos 0)
guarded true x y h = h refl
guarded false x y h = refl

-- the elements agree there
abbrev SameInputs : Expression → List NodeInfo → NodeElements → NodeElements → Type 0
SameInputs e infos env other = (k : ℕ) (node : Node) (idx : List ℕ) → slice_get e.nodes k ≡ Some node → is_input node.form ≡ true → is_inside (shape_of_node infos k) idx ≡ true → env k idx ≡ other k idx

same_at : (e : Expression) (infos : List NodeInfo) (env other : NodeElements) (most k : ℕ) (idx : List ℕ) → IsExpression e → SameInputs e infos env other → k < most → k < length e.nodes
    → meaning_of e infos env k idx ≡ meaning_of e infos other k idx
same_at e infos env other zero k idx is same lt within = absurd (omega arith)
same_at e infos env other (suc most) k idx is same lt within =
    let n = there e.nodes k within in
    let node : Node = n.0 in
    let at : slice_get e.nodes k ≡ Some node = n.1 in
    equation e infos env k node idx is at
    ∙ node_agrees infos env (meaning_of e infos env) (meaning_of e infos other) k node.form idx (is.nodes k node at).form.earlier
    (λ m i below. same_at e infos env other most m i is same (omega arith) (omega arith))
    ∙ guarded (is_inside (shape_of_node infos k) idx) (rule_of infos env (meaning_of e infos other) k node.form idx) (rule_of infos other (meaning_of e infos other) k node.form idx)
    (λ inside. same_rule infos env other (meaning_of e infos other) k node.form idx (λ input. same k node idx at input inside))
    ∙ sym (equation e infos other k node idx is at)

-- so what is held over the inputs' own elements is held over all that agree with them
agrees : (e : Expression) (infos : List NodeInfo) (inputs : List PlainArray) (env : NodeElements) → AreInputNodes e infos inputs → HoldInputs e infos env inputs → SameInputs e infos (input_elements e inputs) env
agrees e infos inputs env are holds k node idx at input inside =
    let p = are.each k node at input in
    ap (λ o. element_or_zero o idx) p.1.there ∙ held (info_at infos k) (env k) p.0 idx (holds k node p.0 at input p.1.there) inside

pub first_holds : (e : Expression) (infos : List NodeInfo) (inputs plains : List PlainArray) (env : NodeElements) → IsExpression e → AreInputNodes e infos inputs
    → HoldFirst e infos (input_elements e inputs) (length e.nodes) plains → HoldInputs e infos env inputs → HoldMeaning e infos env plains
first_holds e infos inputs plains env is are first holds = record {
  count = first.count;
  each = λ k p got.
      let h = first.each k p got in
      let lt : k < length plains = within plains k p got in
      let same : (idx : List ℕ) → meaning_of e infos (input_elements e inputs) k idx ≡ meaning_of e infos env k idx =
      λ idx. same_at e infos (input_elements e inputs) env (k + 1) k idx is (agrees e infos inputs env are holds) (omega arith) (let c = first.count in omega arith) in
      record {
        info = h.info;
        count = h.count;
        cells = λ place below. h.cells place below ∙ ap (λ (x : ℤ). Some x) (same (index_at (shape_of_node infos k) place));
      };
}
