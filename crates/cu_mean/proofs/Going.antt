-- The nodes of an expression, one after the other.
use Rattle.std.proofs.Common.{◌≡◌, ◌+◌, ◌<◌, ℕ, ℤ, pos, true, false, List, [], ◌∷◌, ◌++◌, All, length, drop, get_or, length-append, length-drop, Some, refl, sym, ap, ◌∙◌, subst, arith}
use Rattle.std.specs.Prelude.{slice_get}
use Rattle.std.proofs.lemmas.List.{drop_more, get_or_append_left, get_or_push, get_or_read}
use borrow.Author.Count.{below_more}
use Rattle.cu_shape.specs.Index.{index_at}
use Rattle.cu_form.specs.Expression.{Expression, IsExpression}
use Rattle.cu_form.specs.declared.expr.Node.{Node}
use Rattle.cu_form.specs.declared.form.Form.{Form}
use Rattle.cu_node.specs.Info.{IsInfo, info_at, no_info}
use Rattle.cu_node.specs.declared.info.NodeInfo.{NodeInfo}
use Rattle.cu_semantics.specs.Argument.{NodeElements}
use Rattle.cu_semantics.specs.Meaning.{meaning_of}
use Rattle.cu_mean.specs.Going.{HasFirstElements, KeepType, AddsComputed, MovesInput, HoldFirst, IsGoing, input_elements}
use Rattle.cu_mean.specs.Node.{is_input, IsElement, IsReadyNode}
use Rattle.cu_mean.specs.Plain.{PlainArray}
use Rattle.cu_mean.specs.Whole.{inputs_before, AreInputNodes, HoldsElements, AreTypes}
use Rattle.cu_expr.proofs.Nodes.{typed_count}
use Rattle.cu_mean.proofs.Found.{within, found, pushed_last, pushed_before}
use Rattle.cu_mean.proofs.HeldElements.{computed_holds, computed_keeps}
use Rattle.cu_mean.proofs.InputNodes.{before_input, before_other, input_holds, inputs_fit}
use Rattle.cu_mean.proofs.Kept.{node_keeps}
use Rattle.cu_mean.proofs.ReadyNodes.{ready}
use Rattle.cu_semantics.proofs.Equation.{meaning_fits}

-- ---- elements

-- one more
pub pushed_cells : (form : Form) (infos : List NodeInfo) (info : NodeInfo) (plains : List PlainArray) (place : ℕ) (cells : List ℤ) (x : ℤ) → HasFirstElements form infos info plains place cells
    → IsElement form infos info plains (index_at info.dims place) x → HasFirstElements form infos info plains (place + 1) (cells ++ x ∷ [])
pushed_cells form infos info plains place cells x has is = record {
  count = length-append cells (x ∷ []) ∙ ap (λ n. n + 1) has.count;
  each = below_more (λ q. IsElement form infos info plains (index_at info.dims q) (get_or (cells ++ x ∷ []) q (pos 0))) place
      (λ q lt. subst (λ (y : ℤ). IsElement form infos info plains (index_at info.dims q) y) (sym (get_or_append_left cells (x ∷ []) (pos 0) q (let c = has.count in omega arith))) (has.each q lt))
      (subst (λ (y : ℤ). IsElement form infos info plains (index_at info.dims place) y) (sym (get_or_push cells x (pos 0) place has.count)) is);
}

pub no_cells : (form : Form) (infos : List NodeInfo) (info : NodeInfo) (plains : List PlainArray) → HasFirstElements form infos info plains 0 []
no_cells form infos info plains = record { count = refl; each = λ q lt. absurd (omega arith) }

-- ---- nodes

-- one more
more_held : (e : Expression) (infos : List NodeInfo) (env : NodeElements) (n : ℕ) (plains : List PlainArray) (p : PlainArray) → HoldFirst e infos env n plains
    → HoldsElements (info_at infos n) (meaning_of e infos env n) p → HoldFirst e infos env (n + 1) (plains ++ p ∷ [])
more_held e infos env n plains p first h =
    let c = first.count in
    let count : length (plains ++ p ∷ []) ≡ n + 1 = length-append plains (p ∷ []) ∙ ap (λ m. m + 1) c in
    let P : ℕ → Type 0 = λ k. (q : PlainArray) → slice_get (plains ++ p ∷ []) k ≡ Some q → HoldsElements (info_at infos k) (meaning_of e infos env k) q in
    let at : (k : ℕ) → k < n + 1 → P k = below_more P n
    (λ k lt q got. first.each k q (sym (pushed_before plains k p (omega arith)) ∙ got))
    (λ q got. let last = pushed_last plains n p (sym c) in let same : p ≡ q = cc in subst (λ (r : PlainArray). HoldsElements (info_at infos n) (meaning_of e infos env n) r) same h) in
    record { count = count; each = λ k q got. let lt : k < length (plains ++ p ∷ []) = within (plains ++ p ∷ []) k q got in at k (omega arith) q got }

pub none_held : (e : Expression) (infos : List NodeInfo) (env : NodeElements) → HoldFirst e infos env 0 []
none_held e infos env = record { count = refl; each = λ k p got. cc }

-- before the first node all inputs are left
pub started : (e : Expression) (infos given : List NodeInfo) (inputs rest plains : List PlainArray) → IsExpression e → AreTypes e given → AreInputNodes e given inputs → infos ≡ given → All IsInfo infos → rest ≡ inputs
    → plains ≡ [] → IsGoing e infos inputs 0 rest plains
started e infos given inputs rest plains form types arrays same kept all none = record {
  given = record {
    form = form;
    types = subst (λ (is : List NodeInfo). AreTypes e is) (sym same) types;
    kept = kept;
    arrays = subst (λ (is : List NodeInfo). AreInputNodes e is inputs) (sym same) arrays;
  };
  left = all;
  first = subst (λ (ps : List PlainArray). HoldFirst e infos (input_elements e inputs) 0 ps) (sym none) (none_held e infos (input_elements e inputs));
}

-- behind the last node each array is there
pub ended : (e : Expression) (infos given : List NodeInfo) (inputs : List PlainArray) (n : ℕ) (rest plains : List PlainArray) → infos ≡ given → n ≡ length e.nodes → IsGoing e infos inputs n rest plains
    → HoldFirst e given (input_elements e inputs) (length e.nodes) plains
ended e infos given inputs n rest plains same all going =
    subst (λ (m : ℕ). HoldFirst e given (input_elements e inputs) m plains) all (subst (λ (is : List NodeInfo). HoldFirst e is (input_elements e inputs) n plains) same going.first)

-- an input is left for an input node
pub input_left : (e : Expression) (infos : List NodeInfo) (inputs : List PlainArray) (n : ℕ) (node : Node) (rest plains : List PlainArray) → slice_get e.nodes n ≡ Some node → is_input node.form ≡ true
    → IsGoing e infos inputs n rest plains → 0 < length rest
input_left e infos inputs n node rest plains at input going =
    let p = going.given.arrays.each n node at input in
    let lt : inputs_before e n < length inputs = within inputs (inputs_before e n) p.0 p.1.there in
    omega (arith, ap length going.left, length-drop (inputs_before e n) inputs)

-- the first of a list from a place on
first_from : (inputs rest more : List PlainArray) (p : PlainArray) (b : ℕ) → rest ≡ drop b inputs → rest ≡ p ∷ more → (slice_get inputs b ≡ Some p) × (more ≡ drop (b + 1) inputs)
first_from inputs rest more p b left taken =
    let lt : b < length inputs = omega (arith, ap length left, ap length taken, length-drop b inputs) in
    let split = drop_more inputs b p lt in
    let here = found inputs b p lt in
    (cc, cc)

pub input_moved : (e : Expression) (infos : List NodeInfo) (inputs : List PlainArray) (n : ℕ) (node : Node) (rest plains new_rest new_plains : List PlainArray) → slice_get e.nodes n ≡ Some node
    → is_input node.form ≡ true → IsGoing e infos inputs n rest plains → MovesInput rest plains new_rest new_plains → IsGoing e infos inputs (n + 1) new_rest new_plains
input_moved e infos inputs n node rest plains new_rest new_plains at input going moves =
    let b = inputs_before e n in
    let parts = first_from inputs rest new_rest moves.plain b going.left moves.taken in
    let holds = input_holds e infos inputs n node moves.plain going.given.form going.given.arrays at input parts.0 in
    record {
      given = going.given;
      left = parts.1 ∙ ap (λ m. drop m inputs) (sym (before_input e n node at input));
      first = subst (λ (ps : List PlainArray). HoldFirst e infos (input_elements e inputs) (n + 1) ps) (sym moves.added) (more_held e infos (input_elements e inputs) n plains moves.plain going.first holds);
    }

pub computed_added : (e : Expression) (infos : List NodeInfo) (inputs : List PlainArray) (n : ℕ) (node : Node) (rest plains new_plains : List PlainArray) → slice_get e.nodes n ≡ Some node
    → is_input node.form ≡ false → IsGoing e infos inputs n rest plains → AddsComputed node.form infos (info_at infos n) plains new_plains → IsGoing e infos inputs (n + 1) rest new_plains
computed_added e infos inputs n node rest plains new_plains at other going adds =
    let holds = computed_holds e infos (input_elements e inputs) n node plains adds.plain going.given.form at going.first adds.computed in
    record {
      given = going.given;
      left = going.left ∙ ap (λ m. drop m inputs) (sym (before_other e n node at other));
      first = subst (λ (ps : List PlainArray). HoldFirst e infos (input_elements e inputs) (n + 1) ps) (sym adds.added) (more_held e infos (input_elements e inputs) n plains adds.plain going.first holds);
    }

pub going_ready : (e : Expression) (infos : List NodeInfo) (inputs : List PlainArray) (n : ℕ) (node : Node) (rest plains : List PlainArray) → slice_get e.nodes n ≡ Some node → is_input node.form ≡ false
    → IsGoing e infos inputs n rest plains → IsReadyNode node.form infos (info_at infos n) plains
going_ready e infos inputs n node rest plains at other going =
    ready e infos (input_elements e inputs) n node plains going.given.form going.given.types going.given.kept at other going.first

pub going_keeps : (e : Expression) (infos : List NodeInfo) (inputs : List PlainArray) (n : ℕ) (node : Node) (rest plains : List PlainArray) → slice_get e.nodes n ≡ Some node
    → IsGoing e infos inputs n rest plains → KeepType node.form infos (info_at infos n) plains
going_keeps e infos inputs n node rest plains at going =
    let g = going.given in
    let env = input_elements e inputs in
    let fit = inputs_fit e infos inputs g.arrays in
    computed_keeps e infos env n node plains g.form at going.first
    (λ idx. meaning_fits e infos env n idx g.form (λ m other there. node_keeps g.types.inputs e infos env m other g.form g.types.types g.kept fit there))

-- what is known of a node
pub known_at : (e : Expression) (infos : List NodeInfo) (n : ℕ) (info : NodeInfo) → AreTypes e infos → n < length e.nodes → info ≡ get_or infos n info → info ≡ info_at infos n
known_at e infos n info types lt is =
    let count = typed_count types.inputs e.nodes infos types.types in
    get_or_read infos n info (omega arith) is no_info
