-- The typing of an expression, one node more.
use Rattle.std.proofs.Common.{◌≡◌, ℕ, List, [], ◌∷◌, ◌++◌, length, Option, Result, Ok, Err, refl, ap, subst, sym, inl, inr}
use Rattle.std.specs.Prelude.{bytes_eq, unwrap_or}
use Rattle.std.proofs.lemmas.Bool.{cases_Bool}
use Rattle.std.proofs.lemmas.List.Elements.{All-head, All-tail}
use Rattle.cu_result.specs.Results.{◌>>=◌}
use Rattle.cu_form.specs.declared.expr.Node.{Node}
use Rattle.cu_form.specs.declared.form.Form.{Form}
use Rattle.cu_node.specs.Info.{IsInfo, no_info}
use Rattle.cu_node.specs.declared.info.NodeInfo.{NodeInfo}
use Rattle.cu_expr.specs.Inputs.{named_input, stored_of}
use Rattle.cu_expr.specs.Premises.{HasGrid, HaveGrids}
use Rattle.cu_expr.specs.Typing.{told_of, typed_form, at_node, typed_after}
use Rattle.cu_expr.specs.declared.inputs.InputInfo.{InputInfo}
use Rattle.cu_expr.specs.Answer.{IsAnswer}
use Rattle.cu_expr.specs.declared.types.TypeFault.{TypeFault}
use Rattle.cu_expr.specs.declared.types.TypeRefused.{TypeRefused}
use Rattle.cu_expr.specs.declared.types.TypeRefused.TheVariants.{Fault, NoMemory}
use Rattle.cu_expr.proofs.LayoutInfo.{stored_info}
use Rattle.cu_expr.proofs.ToldArguments.{no_info_kept}

-- what two words tell alike of names, they tell alike of the input that a node uses
stored_same : (known other : List ℕ → Option NodeInfo) (form : Form) → ((q : List ℕ) → known q ≡ other q) → stored_of known form ≡ stored_of other form
stored_same known other (Form.Input name) h = ap (λ o. unwrap_or o no_info) (h name)
stored_same known other form h = refl

named_kept : (inputs : List InputInfo) (q : List ℕ) → HaveGrids inputs → IsInfo (unwrap_or (named_input inputs q) no_info)
named_kept [] q h = no_info_kept
named_kept (i ∷ is) q h =
    elim (cases_Bool (bytes_eq q i.name)) [
      | inl same ↦ rw same (stored_info i.layout (All-head (λ i. HasGrid i.layout) i is h))
      | inr other ↦ rw other (named_kept is q (All-tail (λ i. HasGrid i.layout) i is h))
    ]

-- the input that a node uses keeps the limits
stored_kept : (inputs : List InputInfo) (form : Form) → HaveGrids inputs → IsInfo (stored_of (named_input inputs) form)
stored_kept inputs (Form.Input name) h = named_kept inputs name h
stored_kept inputs form h = no_info_kept

pub told_stored_kept : (inputs : List InputInfo) (known : List ℕ → Option NodeInfo) (form : Form) → ((q : List ℕ) → known q ≡ named_input inputs q) → HaveGrids inputs → IsInfo (stored_of known form)
told_stored_kept inputs known form same h = rw (stored_same known (named_input inputs) form same) (stored_kept inputs form h)

-- one node more
pub typed_step : (inputs : List InputInfo) (known : List ℕ → Option NodeInfo) (infos : List NodeInfo) (node : Node) (nodes : List Node) (i : NodeInfo) → ((q : List ℕ) → known q ≡ named_input inputs q) → at_node (length infos) (typed_form (stored_of known node.form) node.form (told_of infos node.form)) ≡ Ok i → typed_after inputs (infos ++ i ∷ []) nodes ≡ typed_after inputs infos (node ∷ nodes)
typed_step inputs known infos node nodes i same h =
    let w = rw (stored_same known (named_input inputs) node.form same) at h in
    sym (ap (λ r. r >>= λ i. typed_after inputs (infos ++ i ∷ []) nodes) w)

-- the node's fault is the expression's
pub typed_fault : (inputs : List InputInfo) (known : List ℕ → Option NodeInfo) (infos : List NodeInfo) (node : Node) (nodes : List Node) (f : TypeFault) → ((q : List ℕ) → known q ≡ named_input inputs q) → at_node (length infos) (typed_form (stored_of known node.form) node.form (told_of infos node.form)) ≡ Err f → typed_after inputs infos (node ∷ nodes) ≡ Err f
typed_fault inputs known infos node nodes f same h =
    let w = rw (stored_same known (named_input inputs) node.form same) at h in
    ap (λ r. r >>= λ i. typed_after inputs (infos ++ i ∷ []) nodes) w

-- what a node is refused for, the expression is refused for
pub typed_refused : (inputs : List InputInfo) (known : List ℕ → Option NodeInfo) (infos : List NodeInfo) (node : Node) (nodes : List Node) (r : TypeRefused) → ((q : List ℕ) → known q ≡ named_input inputs q) → IsAnswer {T = NodeInfo} (at_node (length infos) (typed_form (stored_of known node.form) node.form (told_of infos node.form))) (Err r) → IsAnswer {T = List NodeInfo} (typed_after inputs infos (node ∷ nodes)) (Err r)
typed_refused inputs known infos node nodes (Fault f) same h = typed_fault inputs known infos node nodes f same h
typed_refused inputs known infos node nodes NoMemory same h = tt

-- the same where the infos are read through another name
pub refused_along : (inputs : List InputInfo) (known : List ℕ → Option NodeInfo) (told infos : List NodeInfo) (node : Node) (nodes : List Node) (r : TypeRefused) → ((q : List ℕ) → known q ≡ named_input inputs q) → told ≡ infos → IsAnswer {T = NodeInfo} (at_node (length told) (typed_form (stored_of known node.form) node.form (told_of told node.form))) (Err r) → IsAnswer {T = List NodeInfo} (typed_after inputs infos (node ∷ nodes)) (Err r)
refused_along inputs known told infos node nodes r same e h =
    let P : List NodeInfo → Type 0 = λ is. IsAnswer {T = NodeInfo} (at_node (length is) (typed_form (stored_of known node.form) node.form (told_of is node.form))) (Err r) in
    typed_refused inputs known infos node nodes r same (subst P e h)

-- an answer that one definition gives is the answer of an equal one
pub answer_along : (a b : Result (List NodeInfo) TypeFault) (r : TypeRefused) → a ≡ b → IsAnswer {T = List NodeInfo} a (Err r) → IsAnswer {T = List NodeInfo} b (Err r)
answer_along a b r e h = let P : Result (List NodeInfo) TypeFault → Type 0 = λ x. IsAnswer {T = List NodeInfo} x (Err r) in subst P e h
