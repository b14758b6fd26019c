-- Arrays that hold the elements which an expression means.
use Rattle.std.proofs.Common.{◌≡◌, ◌<◌, ◌≤◌, ℕ, ℤ, pos, Bool, true, false, List, length, get_or, Some, refl, sym, ap, ◌∙◌, subst, arith}
use Rattle.std.specs.Prelude.{slice_get, if◌then◌else◌}
use Rattle.std.proofs.lemmas.List.Elements.{All-get_or, All-from_get_or}
use Rattle.cu_num.specs.Dtype.{InRange}
use Rattle.cu_shape.specs.Index.{product, place_of, index_at, is_inside, IsInside}
use Rattle.cu_shape.proofs.Places.{inside_from_test, test_from_inside, place-below, index-place, index-inside, place-index}
use Rattle.cu_form.specs.Expression.{Expression, IsExpression}
use Rattle.cu_form.specs.declared.expr.Node.{Node}
use Rattle.cu_node.specs.Info.{info_at}
use Rattle.cu_node.specs.declared.info.NodeInfo.{NodeInfo}
use Rattle.cu_semantics.specs.Argument.{NodeElements, shape_of_node}
use Rattle.cu_semantics.specs.Meaning.{meaning_of, AgreeBelow}
use Rattle.cu_semantics.specs.Rule.{rule_of}
use Rattle.cu_semantics.specs.Typed.{type_of_node}
use Rattle.cu_semantics.proofs.RuleLaws.{node_agrees}
use Rattle.cu_semantics.proofs.Equation.{equation, outside}
use Rattle.cu_mean.specs.Going.{HasFirstElements, IsEvaluated, HoldFirst, KeepType}
use Rattle.cu_mean.specs.Plain.{PlainArray, IsPlain}
use Rattle.cu_mean.specs.Reading.{plain_at, element_or_zero, elements_in}
use Rattle.cu_mean.specs.Whole.{HoldsElements}
use Rattle.cu_mean.proofs.Found.{there, within, read_or, found}
use Rattle.cu_reduce.proofs.Folding.{zero_in_range}

-- ---- one array

-- what is read at an index inside
pub read_inside : (p : PlainArray) (idx : List ℕ) → is_inside p.dims idx ≡ true → plain_at p idx ≡ get_or p.cells (place_of p.dims idx) (pos 0)
read_inside p idx inside = ap (λ (b : Bool). if b then get_or p.cells (place_of p.dims idx) (pos 0) else pos 0) inside

pub read_outside : (p : PlainArray) (idx : List ℕ) → is_inside p.dims idx ≡ false → plain_at p idx ≡ pos 0
read_outside p idx outside = ap (λ (b : Bool). if b then get_or p.cells (place_of p.dims idx) (pos 0) else pos 0) outside

-- an array that holds elements has them at each index
pub held : (i : NodeInfo) (element : List ℕ → ℤ) (p : PlainArray) (idx : List ℕ) → HoldsElements i element p → is_inside i.dims idx ≡ true → plain_at p idx ≡ element idx
held i element p idx h inside =
    let same : p.dims ≡ i.dims = h.info.dims in
    let is : IsInside i.dims idx = inside_from_test i.dims idx inside in
    let below : place_of i.dims idx < product i.dims = place-below i.dims idx is in
    let here = h.cells (place_of i.dims idx) below in
    read_inside p idx (ap (λ (ds : List ℕ). is_inside ds idx) same ∙ inside)
    ∙ ap (λ (ds : List ℕ). get_or p.cells (place_of ds idx) (pos 0)) same
    ∙ read_or p.cells (place_of i.dims idx) _ (pos 0) here
    ∙ ap element (index-place i.dims idx is)

-- what is read is a number of the type
by_test : (p : PlainArray) (idx : List ℕ) (b : Bool) → is_inside p.dims idx ≡ b → IsPlain p → InRange p.dtype (plain_at p idx)
by_test p idx true test plain =
    let below = place-below p.dims idx (inside_from_test p.dims idx test) in
    subst (λ (x : ℤ). InRange p.dtype x) (sym (read_inside p idx test)) (All-get_or (InRange p.dtype) p.cells (place_of p.dims idx) (pos 0) (omega (arith, plain.count)) plain.cells)
by_test p idx false test plain = subst (λ (x : ℤ). InRange p.dtype x) (sym (read_outside p idx test)) (zero_in_range p.dtype)

pub read_in_range : (p : PlainArray) (idx : List ℕ) → IsPlain p → InRange p.dtype (plain_at p idx)
read_in_range p idx plain = by_test p idx (is_inside p.dims idx) refl plain

-- the element at a place
pub read_at_place : (p : PlainArray) (place : ℕ) → place < product p.dims → length p.cells ≡ product p.dims → slice_get p.cells place ≡ Some (plain_at p (index_at p.dims place))
read_at_place p place below count =
    let inside = test_from_inside p.dims (index_at p.dims place) (index-inside p.dims place below) in
    found p.cells place (pos 0) (omega arith)
    ∙ ap (λ (x : ℤ). Some x) (sym (read_inside p (index_at p.dims place) inside ∙ ap (λ n. get_or p.cells n (pos 0)) (place-index p.dims place below)))

-- ---- the arrays of the first nodes

agree_by : (e : Expression) (infos : List NodeInfo) (env : NodeElements) (k : ℕ) (p : PlainArray) (idx : List ℕ) (b : Bool) → IsExpression e → k < length e.nodes
    → HoldsElements (info_at infos k) (meaning_of e infos env k) p → is_inside (shape_of_node infos k) idx ≡ b → plain_at p idx ≡ meaning_of e infos env k idx
agree_by e infos env k p idx true is lt h test = held (info_at infos k) (meaning_of e infos env k) p idx h test
agree_by e infos env k p idx false is lt h test =
    let node = there e.nodes k lt in
    read_outside p idx (ap (λ (ds : List ℕ). is_inside ds idx) h.info.dims ∙ test) ∙ sym (outside e infos env k node.0 idx is node.1 test)

-- they have the elements of the meaning
pub held_agree : (e : Expression) (infos : List NodeInfo) (env : NodeElements) (n : ℕ) (plains : List PlainArray) → IsExpression e → n ≤ length e.nodes
    → HoldFirst e infos env n plains → AgreeBelow n (meaning_of e infos env) (elements_in plains)
held_agree e infos env n plains is le first k idx lt =
    let p = there plains k (omega (arith, first.count)) in
    sym (ap (λ o. element_or_zero o idx) p.1 ∙ agree_by e infos env k p.0 idx (is_inside (shape_of_node infos k) idx) is (omega arith) (first.each k p.0 p.1) refl)

-- so the meaning of the next node is its rule over them
pub meaning_here : (e : Expression) (infos : List NodeInfo) (env : NodeElements) (n : ℕ) (node : Node) (plains : List PlainArray) (idx : List ℕ) → IsExpression e
    → slice_get e.nodes n ≡ Some node → HoldFirst e infos env n plains → IsInside (shape_of_node infos n) idx → meaning_of e infos env n idx ≡ rule_of infos env (elements_in plains) n node.form idx
meaning_here e infos env n node plains idx is at first inside =
    let lt = within e.nodes n node at in
    equation e infos env n node idx is at
    ∙ node_agrees infos env (meaning_of e infos env) (elements_in plains) n node.form idx (is.nodes n node at).form.earlier (held_agree e infos env n plains is (omega arith) first)
    ∙ ap (λ (b : Bool). if b then rule_of infos env (elements_in plains) n node.form idx else pos 0) (test_from_inside (shape_of_node infos n) idx inside)

-- ---- a node that is computed

cell_is : (e : Expression) (infos : List NodeInfo) (env : NodeElements) (n : ℕ) (node : Node) (plains : List PlainArray) (cells : List ℤ) (place : ℕ) → IsExpression e
    → slice_get e.nodes n ≡ Some node → HoldFirst e infos env n plains → HasFirstElements node.form infos (info_at infos n) plains (product (shape_of_node infos n)) cells
    → place < product (shape_of_node infos n) → get_or cells place (pos 0) ≡ meaning_of e infos env n (index_at (shape_of_node infos n) place)
cell_is e infos env n node plains cells place is at first has below =
    has.each place below env n refl
    ∙ sym (meaning_here e infos env n node plains (index_at (shape_of_node infos n) place) is at first (index-inside (shape_of_node infos n) place below))

pub computed_holds : (e : Expression) (infos : List NodeInfo) (env : NodeElements) (n : ℕ) (node : Node) (plains : List PlainArray) (p : PlainArray) → IsExpression e
    → slice_get e.nodes n ≡ Some node → HoldFirst e infos env n plains → IsEvaluated node.form infos (info_at infos n) plains p → HoldsElements (info_at infos n) (meaning_of e infos env n) p
computed_holds e infos env n node plains p is at first h = record {
  info = h.same;
  count = h.cells.count;
  cells = λ place below. found p.cells place (pos 0) (let c = h.cells.count in omega arith) ∙ ap (λ (x : ℤ). Some x) (cell_is e infos env n node plains p.cells place is at first h.cells below);
}

pub computed_keeps : (e : Expression) (infos : List NodeInfo) (env : NodeElements) (n : ℕ) (node : Node) (plains : List PlainArray) → IsExpression e
    → slice_get e.nodes n ≡ Some node → HoldFirst e infos env n plains → ((idx : List ℕ) → InRange (type_of_node infos n) (meaning_of e infos env n idx))
    → KeepType node.form infos (info_at infos n) plains
computed_keeps e infos env n node plains is at first fits cells has =
    All-from_get_or (InRange (type_of_node infos n)) cells (pos 0) (λ place below.
    subst (λ (x : ℤ). InRange (type_of_node infos n) x) (sym (cell_is e infos env n node plains cells place is at first has (let c = has.count in omega arith)))
    (fits (index_at (shape_of_node infos n) place)))
