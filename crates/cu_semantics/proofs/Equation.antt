-- The meaning of a node is its rule over the meaning itself, and a number of the node's type.
use Rattle.std.proofs.Common.{◌≡◌, ◌<◌, ◌≤◌, ◌+◌, ◌==◌, zero, suc, Bool, true, false, List, [], ◌∷◌, ℕ, ℤ, pos, length, Option, Some, None, refl, sym, ap, ◌∙◌, subst, arith}
use Rattle.std.specs.Prelude.{slice_get, if◌then◌else◌}
use Rattle.std.proofs.lemmas.Bool.{eq-eqb}
use Rattle.cu_num.specs.Dtype.{InRange}
use Rattle.cu_shape.specs.Index.{is_inside}
use Rattle.cu_form.specs.Expression.{Expression, IsExpression}
use Rattle.cu_form.specs.Form.{names_earlier}
use Rattle.cu_form.specs.declared.expr.Node.{Node}
use Rattle.cu_node.specs.declared.info.NodeInfo.{NodeInfo}
use Rattle.cu_reduce.proofs.Folding.{zero_in_range}
use Rattle.cu_semantics.specs.Argument.{NodeElements, shape_of_node}
use Rattle.cu_semantics.specs.Meaning.{with_node, meaning_after, no_elements, meaning_of}
use Rattle.cu_semantics.specs.Rule.{rule_of, KeepsType, node_element}
use Rattle.cu_semantics.specs.Typed.{type_of_node}
use Rattle.cu_semantics.proofs.InType.{FitBelow}
use Rattle.cu_semantics.proofs.RuleLaws.{node_agrees, node_fits_by}

with_itself : (k : ℕ) (element : List ℕ → ℤ) (at : NodeElements) (idx : List ℕ) → with_node k element at k idx ≡ element idx
with_itself k element at idx = rw (eq-eqb k k refl) refl

differ : (n k : ℕ) → n < k → (n == k) ≡ false
differ n k lt = grind arith

with_other : (k : ℕ) (element : List ℕ → ℤ) (at : NodeElements) (n : ℕ) (idx : List ℕ) → n < k → with_node k element at n idx ≡ at n idx
with_other k element at n idx lt = rw (differ n k lt) refl

-- the elements of earlier nodes stay
kept : (infos : List NodeInfo) (env : NodeElements) (nodes : List Node) (k : ℕ) (at : NodeElements) (n : ℕ) (idx : List ℕ) → n < k → meaning_after infos env nodes k at n idx ≡ at n idx
kept infos env [] k at n idx lt = refl
kept infos env (node ∷ nodes) k at n idx lt =
    kept infos env nodes (k + 1) (with_node k (node_element infos env at k node.form) at) n idx (omega arith) ∙ with_other k (node_element infos env at k node.form) at n idx lt

-- the elements of later numbers stay too
above : (m k : ℕ) → k < m → (m == k) ≡ false
above m k lt = grind arith

pub past : (infos : List NodeInfo) (env : NodeElements) (nodes : List Node) (k : ℕ) (at : NodeElements) (m : ℕ) (idx : List ℕ) → k + length nodes ≤ m → meaning_after infos env nodes k at m idx ≡ at m idx
past infos env [] k at m idx le = refl
past infos env (node ∷ nodes) k at m idx le =
    past infos env nodes (k + 1) (with_node k (node_element infos env at k node.form) at) m idx (omega arith) ∙ rw (above m k (omega arith)) refl

solved : (infos : List NodeInfo) (env : NodeElements) (nodes : List Node) (k : ℕ) (at : NodeElements) (j m : ℕ) (node : Node) (idx : List ℕ)
    → m ≡ k + j → slice_get nodes j ≡ Some node → names_earlier m node.form ≡ true
    → meaning_after infos env nodes k at m idx ≡ node_element infos env (meaning_after infos env nodes k at) m node.form idx
solved infos env [] k at j m node idx number h earlier = cc
solved infos env (first ∷ nodes) k at zero m node idx number h earlier =
    let here : first ≡ node = cc in
    let same : m ≡ k = omega arith in
    let next : NodeElements = with_node k (node_element infos env at k first.form) at in
    subst (λ (n : ℕ). meaning_after infos env (first ∷ nodes) k at n idx ≡ node_element infos env (meaning_after infos env (first ∷ nodes) k at) n node.form idx) (sym same)
    (kept infos env nodes (k + 1) next k idx (omega arith)
    ∙ with_itself k (node_element infos env at k first.form) at idx
    ∙ ap (λ (f : Node). node_element infos env at k f.form idx) here
    ∙ node_agrees infos env at (meaning_after infos env (first ∷ nodes) k at) k node.form idx (subst (λ (n : ℕ). names_earlier n node.form ≡ true) same earlier)
    (λ n i lt. sym (kept infos env (first ∷ nodes) k at n i lt)))
solved infos env (first ∷ nodes) k at (suc j) m node idx number h earlier =
    solved infos env nodes (k + 1) (with_node k (node_element infos env at k first.form) at) j m node idx (omega arith) h earlier

pub equation : (e : Expression) (infos : List NodeInfo) (env : NodeElements) (k : ℕ) (node : Node) (idx : List ℕ) → IsExpression e → slice_get e.nodes k ≡ Some node
    → meaning_of e infos env k idx ≡ node_element infos env (meaning_of e infos env) k node.form idx
equation e infos env k node idx is h = solved infos env e.nodes 0 no_elements k k node idx (omega arith) h (is.nodes k node h).form.earlier

pub outside : (e : Expression) (infos : List NodeInfo) (env : NodeElements) (k : ℕ) (node : Node) (idx : List ℕ) → IsExpression e → slice_get e.nodes k ≡ Some node
    → is_inside (shape_of_node infos k) idx ≡ false → meaning_of e infos env k idx ≡ pos 0
outside e infos env k node idx is h not_inside =
    equation e infos env k node idx is h ∙ ap (λ (b : Bool). if b then rule_of infos env (meaning_of e infos env) k node.form idx else pos 0) not_inside

-- ---- its numbers

abbrev KeepTypes : Expression → List NodeInfo → NodeElements → Type 0
KeepTypes e infos env = (k : ℕ) (node : Node) → slice_get e.nodes k ≡ Some node → KeepsType infos env k node.form

none_past : (nodes : List Node) (k : ℕ) → slice_get nodes k ≡ None → length nodes ≤ k
none_past [] k h = omega arith
none_past (node ∷ nodes) zero h = cc
none_past (node ∷ nodes) (suc k) h = omega (arith, none_past nodes k h)

number_fits : (e : Expression) (infos : List NodeInfo) (env : NodeElements) (k : ℕ) (idx : List ℕ) (found : Option Node) → slice_get e.nodes k ≡ found → IsExpression e → KeepTypes e infos env
    → FitBelow infos (meaning_of e infos env) k → InRange (type_of_node infos k) (meaning_of e infos env k idx)
number_fits e infos env k idx (Some node) h is keeps below =
    subst (InRange (type_of_node infos k)) (sym (equation e infos env k node idx is h))
    (node_fits_by infos env (meaning_of e infos env) k node.form idx (is_inside (shape_of_node infos k) idx) refl below (is.nodes k node h).form.earlier (keeps k node h))
number_fits e infos env k idx None h is keeps below =
    subst (InRange (type_of_node infos k)) (sym (past infos env e.nodes 0 no_elements k idx (omega (arith, none_past e.nodes k h)))) (zero_in_range (type_of_node infos k))

below_all : (e : Expression) (infos : List NodeInfo) (env : NodeElements) (m : ℕ) → IsExpression e → KeepTypes e infos env → FitBelow infos (meaning_of e infos env) m
below_all e infos env zero is keeps = λ n idx lt. absurd (omega arith)
below_all e infos env (suc m) is keeps = λ n idx lt.
    number_fits e infos env n idx (slice_get e.nodes n) refl is keeps (λ j i less. below_all e infos env m is keeps j i (omega arith))

pub meaning_fits : (e : Expression) (infos : List NodeInfo) (env : NodeElements) (k : ℕ) (idx : List ℕ) → IsExpression e → KeepTypes e infos env → InRange (type_of_node infos k) (meaning_of e infos env k idx)
meaning_fits e infos env k idx is keeps = below_all e infos env (suc k) is keeps k idx (omega arith)
