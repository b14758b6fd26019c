-- The typing of an expression, node by node.
use Rattle.std.proofs.Common.{◌≡◌, ℕ, zero, suc, ◌+◌, ◌<◌, true, List, [], ◌∷◌, ◌++◌, length, map, take, get_or, Some, Result, Ok, Err, refl, ap, sym, ◌∙◌, append_assoc, arith}
use Rattle.std.specs.Prelude.{slice_get}
use Rattle.std.specs.List.{list_all}
use Rattle.std.proofs.lemmas.Bool.{and_parts, ltb-true}
use Rattle.std.proofs.lemmas.List.{length_push, get_or-take, get_or_at, append-nil}
use Rattle.std.proofs.Math.Seq.{take-append_seam}
use Rattle.cu_result.proofs.ResultSteps.{step_ok}
use Rattle.cu_form.specs.Form.{args_of, is_earlier, names_earlier}
use Rattle.cu_form.specs.declared.args.Arg.{Arg}
use Rattle.cu_form.specs.declared.expr.Node.{Node}
use Rattle.cu_form.specs.declared.form.Form.{Form}
use Rattle.cu_node.specs.Info.{info_at, no_info}
use Rattle.cu_node.specs.declared.faults.NodeFault.{NodeFault}
use Rattle.cu_node.specs.declared.info.NodeInfo.{NodeInfo}
use Rattle.cu_typing.specs.declared.argument.Argument.{Argument}
use Rattle.cu_expr.specs.Inputs.{named_input, stored_of}
use Rattle.cu_expr.specs.Typing.{argument_of, typed_form, at_node, typed_node, typed_after}
use Rattle.cu_expr.specs.declared.inputs.InputInfo.{InputInfo}

-- a node that is typed with its number is typed
at_ok : (number : ℕ) (r : Result NodeInfo NodeFault) (i : NodeInfo) → at_node number r ≡ Ok i → r ≡ Ok i
at_ok number (Ok j) i h = let same : j ≡ i = cc in ap Ok same
at_ok number (Err f) i h = cc

-- what is known comes first, and each node adds one
pub front : (inputs : List InputInfo) (infos : List NodeInfo) (nodes : List Node) (ts : List NodeInfo) → typed_after inputs infos nodes ≡ Ok ts → (rest : List NodeInfo) × (ts ≡ infos ++ rest) × (length rest ≡ length nodes)
front inputs infos [] ts h = ([], (let same : infos ≡ ts = cc in sym same ∙ sym (append-nil infos)), refl)
front inputs infos (n ∷ ns) ts h =
    let s = step_ok (at_node (length infos) (typed_node inputs infos n.form)) (λ i. typed_after inputs (infos ++ i ∷ []) ns) ts h in
    let w = front inputs (infos ++ s.0 ∷ []) ns ts s.2 in
    (s.0 ∷ w.0, w.1 ∙ append_assoc infos (s.0 ∷ []) w.0, ap suc w.2)

pub typed_count : (inputs : List InputInfo) (nodes : List Node) (ts : List NodeInfo) → typed_after inputs [] nodes ≡ Ok ts → length ts ≡ length nodes
typed_count inputs nodes ts h =
    let w = front inputs [] nodes ts h in
    ap length w.1 ∙ w.2

after_front : (infos rest : List NodeInfo) (ts : List NodeInfo) (i : NodeInfo) → ts ≡ (infos ++ i ∷ []) ++ rest → (take (length infos) ts ≡ infos) × (info_at ts (length infos) ≡ i)
after_front infos rest ts i h =
    let e : ts ≡ infos ++ i ∷ rest = h ∙ append_assoc infos (i ∷ []) rest in
    (ap (take (length infos)) e ∙ take-append_seam infos (i ∷ rest), ap (λ is. get_or is (length infos) no_info) e ∙ get_or_at infos i rest no_info (length infos) refl)

after_node : (inputs : List InputInfo) (infos : List NodeInfo) (nodes : List Node) (ts : List NodeInfo) (k j : ℕ) (n : Node) → j ≡ length infos + k → typed_after inputs infos nodes ≡ Ok ts → slice_get nodes k ≡ Some n → typed_node inputs (take j ts) n.form ≡ Ok (info_at ts j)
after_node inputs infos [] ts k j n e h g = cc
after_node inputs infos (m ∷ ms) ts zero j n e h g =
    let s = step_ok (at_node (length infos) (typed_node inputs infos m.form)) (λ i. typed_after inputs (infos ++ i ∷ []) ms) ts h in
    let w = front inputs (infos ++ s.0 ∷ []) ms ts s.2 in
    let here = after_front infos w.0 ts s.0 w.1 in
    let place : j ≡ length infos = omega arith in
    let same : m ≡ n = cc in
    let own = at_ok (length infos) (typed_node inputs infos m.form) s.0 s.1 in
    rw place (rw here.0 (rw here.1 (ap (λ node. typed_node inputs infos node.form) (sym same) ∙ own)))
after_node inputs infos (m ∷ ms) ts (suc k) j n e h g =
    let s = step_ok (at_node (length infos) (typed_node inputs infos m.form)) (λ i. typed_after inputs (infos ++ i ∷ []) ms) ts h in
    after_node inputs (infos ++ s.0 ∷ []) ms ts k j n (let l = length_push infos s.0 in omega arith) s.2 g

pub typed_at : (inputs : List InputInfo) (nodes : List Node) (ts : List NodeInfo) (k : ℕ) (n : Node) → typed_after inputs [] nodes ≡ Ok ts → slice_get nodes k ≡ Some n → typed_node inputs (take k ts) n.form ≡ Ok (info_at ts k)
typed_at inputs nodes ts k n h g = after_node inputs [] nodes ts k k n (omega arith) h g

-- ---- over all nodes

told_earlier : (ts : List NodeInfo) (k : ℕ) (args : List Arg) → list_all (is_earlier k) args ≡ true → map (argument_of (take k ts)) args ≡ map (argument_of ts) args
told_earlier ts k [] h = refl
told_earlier ts k (Arg.Node j ∷ args) h =
    let both = and_parts _ _ h in
    let below : j < k = ltb-true j k both.0 in
    let info : info_at (take k ts) j ≡ info_at ts j = get_or-take k ts j no_info below in
    rw info (ap (λ xs. Argument.Array (info_at ts j) ∷ xs) (told_earlier ts k args both.1))
told_earlier ts k (Arg.Int x ∷ args) h = ap (λ xs. argument_of ts (Arg.Int x) ∷ xs) (told_earlier ts k args h)
told_earlier ts k (Arg.Truth b ∷ args) h = ap (λ xs. argument_of ts (Arg.Truth b) ∷ xs) (told_earlier ts k args h)

pub over_all : (inputs : List InputInfo) (ts : List NodeInfo) (k : ℕ) (form : Form) → names_earlier k form ≡ true → typed_node inputs (take k ts) form ≡ typed_node inputs ts form
over_all inputs ts k form h = ap (λ told. typed_form (stored_of (named_input inputs) form) form told) (told_earlier ts k (args_of form) h)
