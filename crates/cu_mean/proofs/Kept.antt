-- What typing accepts keeps its type.
use Rattle.std.proofs.Common.{◌≡◌, ℕ, ◌≤◌, ◌^◌, ◌∷◌, [], true, List, length, map, All, Some, Ok, sym, ◌∙◌, refl, subst, arith}
use Rattle.std.specs.Prelude.{slice_get, nat_le, ◌&&◌}
use Rattle.std.specs.List.{list_all}
use Rattle.std.proofs.lemmas.Bool.{and_parts, leb-true}
use Rattle.std.proofs.lemmas.List.Elements.{All-nil, All-cons}
use Rattle.cu_shape.specs.Index.{product}
use Rattle.cu_form.specs.Expression.{Expression, IsExpression}
use Rattle.cu_form.specs.Form.{is_array, are_arrays, takes_args}
use Rattle.cu_form.specs.declared.args.Arg.{Arg}
use Rattle.cu_form.specs.declared.expr.Node.{Node}
use Rattle.cu_form.specs.declared.form.Form.{Form}
use Rattle.cu_node.specs.Info.{IsInfo, info_at}
use Rattle.cu_node.specs.declared.info.NodeInfo.{NodeInfo}
use Rattle.cu_typing.specs.Joined.{arrays_of}
use Rattle.cu_typing_view.proofs.NewShapes.{new_shape_type}
use Rattle.cu_expr.specs.Typing.{argument_of, told_of, typed_form, typed}
use Rattle.cu_expr.specs.declared.inputs.InputInfo.{InputInfo}
use Rattle.cu_expr.proofs.Nodes.{typed_at, over_all}
use Rattle.cu_expr.proofs.ToldArguments.{info_kept}
use Rattle.cu_expr.specs.Inputs.{named_input, stored_of}
use Rattle.cu_semantics.specs.Argument.{NodeElements, source_shape}
use Rattle.cu_semantics.specs.Reduction.{reduced_box}
use Rattle.cu_semantics.specs.Rule.{place_axes, KeepsType}
use Rattle.cu_semantics.specs.Typed.{type_of_node, FitsType}
use Rattle.cu_mean.specs.Laws.{FitsInput, FitInputs}
use Rattle.cu_mean.proofs.KeptElements.{elementwise_fits}
use Rattle.cu_mean.proofs.KeptNumbers.{full_fits, arange_fits, reduced_within, place_type}
use Rattle.cu_mean.proofs.KeptPieces.{concat_fits, stack_fits}
use Rattle.cu_mean.proofs.KeptViews.{triangle_type, index_type, permute_type, flip_type, roll_type, broadcast_type, rechunk_type}

-- the array that a view has as its argument
abbrev source : List NodeInfo → List Arg → NodeInfo
source infos args = info_at (arrays_of (map (argument_of infos) args)) 0

single : (args : List Arg) → are_arrays 1 1 args ≡ true → (n : ℕ) × (args ≡ Arg.Node n ∷ [])
single [] h = cc
single (Arg.Node n ∷ []) h = (n, refl)
single (Arg.Int x ∷ []) h = cc
single (Arg.Truth b ∷ []) h = cc
single (x ∷ y ∷ args) h =
    let both = and_parts (nat_le 1 (length (x ∷ y ∷ args)) && nat_le (length (x ∷ y ∷ args)) 1) (list_all is_array (x ∷ y ∷ args)) h in
    let ends = and_parts (nat_le 1 (length (x ∷ y ∷ args))) (nat_le (length (x ∷ y ∷ args)) 1) both.0 in
    let most : length (x ∷ y ∷ args) ≤ 1 = leb-true (length (x ∷ y ∷ args)) 1 ends.1 in
    absurd (omega arith)

-- an array that has the type of its argument
one_fits : (infos : List NodeInfo) (args : List Arg) (i : NodeInfo) → are_arrays 1 1 args ≡ true → i.dtype ≡ (source infos args).dtype → All (FitsType infos i.dtype) args
one_fits infos args i h e =
    let s = single args h in
    let P : List Arg → Type 0 = λ xs. i.dtype ≡ (source infos xs).dtype in
    let own : i.dtype ≡ type_of_node infos s.0 = subst P s.1 e in
    rw s.1 (All-cons (FitsType infos i.dtype) (Arg.Node s.0) [] (λ x r. rw own r) (All-nil (FitsType infos i.dtype)))

place_fits : (infos : List NodeInfo) (args : List Arg) (axis : _) → are_arrays 1 1 args ≡ true → All IsInfo infos → product (reduced_box (place_axes axis) (source_shape infos args 0)) ≤ 2 ^ 40
place_fits infos args axis h kept =
    let s = single args h in
    let own = info_kept infos s.0 kept in
    let few = own.elements in
    let within = reduced_within (place_axes axis) (info_at infos s.0).dims in
    rw s.1 (omega arith)

many : (least most : ℕ) (args : List Arg) → are_arrays least most args ≡ true → list_all is_array args ≡ true
many least most args h = (and_parts _ _ h).1

-- the last row is of the forms whose numbers are wrapped, or 0 and 1
form_keeps : (infos : List NodeInfo) (env : NodeElements) (k : ℕ) (stored : NodeInfo) (form : Form) → takes_args form ≡ true → All IsInfo infos → FitsInput infos env k form
    → typed_form stored form (told_of infos form) ≡ Ok (info_at infos k) → KeepsType infos env k form
form_keeps infos env k stored (Form.Input name) takes kept fits h = fits
form_keeps infos env k stored (Form.Elementwise op args) takes kept fits h = elementwise_fits infos op args (info_at infos k) h
form_keeps infos env k stored (Form.Full shape t value chunk) takes kept fits h = full_fits shape t value chunk (info_at infos k) h
form_keeps infos env k stored (Form.Arange start stop step t chunk) takes kept fits h = arange_fits start stop step t chunk (info_at infos k) h
form_keeps infos env k stored (Form.Concat args axis) takes kept fits h = concat_fits infos args axis (info_at infos k) (many 1 8 args takes) h
form_keeps infos env k stored (Form.Stack args axis) takes kept fits h = stack_fits infos args axis (info_at infos k) (many 1 8 args takes) h
form_keeps infos env k stored (Form.ArgPlace least args axis keepdims) takes kept fits h = (place_type axis keepdims (source infos args) (info_at infos k) h, place_fits infos args axis takes kept)
form_keeps infos env k stored (Form.Triangle lower args d) takes kept fits h = one_fits infos args (info_at infos k) takes (triangle_type (source infos args) (info_at infos k) h)
form_keeps infos env k stored (Form.Index args items) takes kept fits h = one_fits infos args (info_at infos k) takes (index_type (source infos args) items (info_at infos k) h)
form_keeps infos env k stored (Form.PermuteDims args axes) takes kept fits h = one_fits infos args (info_at infos k) takes (permute_type (source infos args) axes (info_at infos k) h)
form_keeps infos env k stored (Form.Reshape args shape) takes kept fits h = one_fits infos args (info_at infos k) takes (new_shape_type (source infos args) (info_at infos k) shape h)
form_keeps infos env k stored (Form.Flip args axes) takes kept fits h = one_fits infos args (info_at infos k) takes (flip_type (source infos args) axes (info_at infos k) h)
form_keeps infos env k stored (Form.Roll args shifts axes) takes kept fits h = one_fits infos args (info_at infos k) takes (roll_type (source infos args) shifts axes (info_at infos k) h)
form_keeps infos env k stored (Form.BroadcastTo args shape chunk) takes kept fits h = one_fits infos args (info_at infos k) takes (broadcast_type (source infos args) shape chunk (info_at infos k) h)
form_keeps infos env k stored (Form.Rechunk args chunk) takes kept fits h = one_fits infos args (info_at infos k) takes (rechunk_type (source infos args) chunk (info_at infos k) h)
form_keeps infos env k stored form takes kept fits h = tt

pub node_keeps : (inputs : List InputInfo) (e : Expression) (infos : List NodeInfo) (env : NodeElements) (k : ℕ) (node : Node) → IsExpression e → typed inputs e ≡ Ok infos → All IsInfo infos
    → FitInputs e infos env → slice_get e.nodes k ≡ Some node → KeepsType infos env k node.form
node_keeps inputs e infos env k node is h kept fit at =
    let own = (is.nodes k node at).form in
    let typing = sym (over_all inputs infos k node.form own.earlier) ∙ typed_at inputs e.nodes infos k node h at in
    form_keeps infos env k (stored_of (named_input inputs) node.form) node.form own.args kept (fit k node at) typing
