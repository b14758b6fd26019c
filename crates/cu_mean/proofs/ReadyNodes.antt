-- What typing gives of a node that is computed.
use Rattle.std.proofs.Common.{◌≡◌, ◌<◌, ◌^◌, ℕ, pos, false, List, All, Option, Some, None, refl, sym, ap, ◌∙◌, arith}
use Rattle.std.specs.Prelude.{slice_get}
use Rattle.std.proofs.lemmas.List.Elements.{All-from_get_or}
use Rattle.cu_shape.proofs.Products.{size_within}
use Rattle.cu_form.specs.Expression.{Expression, IsExpression}
use Rattle.cu_form.specs.declared.args.Arg.{Arg}
use Rattle.cu_form.specs.declared.expr.Node.{Node}
use Rattle.cu_form.specs.declared.form.Form.{Form}
use Rattle.cu_node.specs.Info.{IsInfo, info_at, no_info}
use Rattle.cu_node.specs.declared.info.NodeInfo.{NodeInfo}
use Rattle.cu_semantics.specs.Argument.{NodeElements, element_from, source_at}
use Rattle.cu_expr.specs.Inputs.{named_input, stored_of}
use Rattle.cu_expr.specs.Typing.{told_of, typed_form}
use Rattle.cu_expr.proofs.Nodes.{typed_at, over_all}
use Rattle.cu_expr.proofs.ToldArguments.{info_kept}
use Rattle.cu_mean.specs.Going.{HoldFirst}
use Rattle.cu_mean.specs.Indexing.{IsOutsideEach}
use Rattle.cu_mean.specs.Node.{is_input, IsReadyNode}
use Rattle.cu_mean.specs.Plain.{PlainArray}
use Rattle.cu_mean.specs.Reading.{element_or_zero, elements_in, HaveTypesAndShapes}
use Rattle.cu_mean.specs.Whole.{AreTypes}
use Rattle.cu_mean.proofs.HeldElements.{read_outside}

-- no input is told to it
stored_none : (known : List ℕ → Option NodeInfo) (form : Form) → is_input form ≡ false → stored_of known form ≡ no_info
stored_none known (Form.Input name) h = cc
stored_none known form h = refl

pub ready : (e : Expression) (infos : List NodeInfo) (env : NodeElements) (n : ℕ) (node : Node) (plains : List PlainArray) → IsExpression e → AreTypes e infos → All IsInfo infos
    → slice_get e.nodes n ≡ Some node → is_input node.form ≡ false → HoldFirst e infos env n plains → IsReadyNode node.form infos (info_at infos n) plains
ready e infos env n node plains is types kept at other first =
    let own = (is.nodes n node at).form in
    record {
      computed = other;
      ranges = own.ranges;
      args = own.args;
      typed = ap (λ s. typed_form s node.form (told_of infos node.form)) (sym (stored_none (named_input types.inputs) node.form other))
          ∙ sym (over_all types.inputs infos n node.form own.earlier)
          ∙ typed_at types.inputs e.nodes infos n node types.types at;
      kept = kept;
      own = info_kept infos n kept;
      before = λ m p got. (first.each m p got).info;
    }

-- ---- an index outside each array

small : (i : NodeInfo) → IsInfo i → All (λ n. n < 2 ^ 64) i.dims
small i h = All-from_get_or (λ n. n < 2 ^ 64) i.dims 0 (λ k below. let w = size_within i.dims k below in let few = h.elements in omega arith)

outside_one : (infos : List NodeInfo) (plains : List PlainArray) (n : ℕ) (idx : List ℕ) (o : Option PlainArray) → All IsInfo infos → HaveTypesAndShapes infos plains → IsOutsideEach idx
    → slice_get plains n ≡ o → element_or_zero o idx ≡ pos 0
outside_one infos plains n idx None kept have outside got = refl
outside_one infos plains n idx (Some p) kept have outside got =
    let same : p.dims ≡ (info_at infos n).dims = (have n p got).dims in
    let own = info_kept infos n kept in
    read_outside p idx (rw same (outside (info_at infos n).dims own.short (small (info_at infos n) own)))

outside_from : (infos : List NodeInfo) (plains : List PlainArray) (arg : Option Arg) (idx : List ℕ) → All IsInfo infos → HaveTypesAndShapes infos plains → IsOutsideEach idx
    → element_from (elements_in plains) arg idx ≡ pos 0
outside_from infos plains None idx kept have outside = refl
outside_from infos plains (Some (Arg.Node n)) idx kept have outside = outside_one infos plains n idx (slice_get plains n) kept have outside refl
outside_from infos plains (Some (Arg.Int x)) idx kept have outside = refl
outside_from infos plains (Some (Arg.Truth b)) idx kept have outside = refl

-- there is no element
pub outside_source : (infos : List NodeInfo) (plains : List PlainArray) (args : List Arg) (idx : List ℕ) → All IsInfo infos → HaveTypesAndShapes infos plains → IsOutsideEach idx
    → source_at (elements_in plains) args 0 idx ≡ pos 0
outside_source infos plains args idx kept have outside = outside_from infos plains (slice_get args 0) idx kept have outside
