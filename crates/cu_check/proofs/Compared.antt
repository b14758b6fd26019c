-- From the arrays that were read to what comparing them answers.
use Rattle.std.proofs.Common.{◌≡◌, ℕ, suc, ◌<◌, ◌≤◌, ℤ, List, [], ◌∷◌, ◌++◌, length, All, Contains, Option, Some, Ok, refl, sym, ap, ◌∙◌, subst, append_assoc, arith}
use Rattle.std.specs.Prelude.{slice_get}
use Rattle.std.proofs.lemmas.List.Elements.{All-nil, All-cons, All-append}
use Rattle.std.proofs.lemmas.Option.{get_or_from_slice_get}
use Rattle.cu_num.specs.Element.{element_at}
use Rattle.cu_num.specs.declared.layout.Endian.TheVariants.{Little}
use Rattle.cu_shape.specs.Index.{product, place_of, index_at, IsInside}
use Rattle.cu_shape.proofs.Places.{index-inside, index-place, place-index, place-below}
use Rattle.cu_grid.specs.Grid.{IsGrid}
use Rattle.cu_node.specs.Info.{info_at}
use Rattle.cu_node.specs.declared.info.NodeInfo.{NodeInfo}
use Rattle.cu_form.specs.Expression.{Expression, IsExpression}
use Rattle.cu_form.specs.declared.expr.Node.{Node}
use Rattle.cu_expr.proofs.Nodes.{typed_at, over_all}
use Rattle.cu_expr.specs.Typing.{typed, typed_node}
use Rattle.cu_expr.specs.declared.inputs.InputInfo.{InputInfo}
use Rattle.cu_mean.specs.Plain.{PlainArray}
use Rattle.cu_mean.specs.Whole.{AreInputNodes, HoldsElements, HoldInputs, HoldMeaning}
use Rattle.cu_semantics.specs.Argument.{NodeElements, shape_of_node}
use Rattle.cu_semantics.specs.Meaning.{meaning_of}
use Rattle.cu_op.specs.Layout.{layout_view}
use Rattle.cu_store.specs.Faults.{Rose}
use Rattle.cu_store.specs.Held.{Contents}
use Rattle.cu_store.specs.Steps.{Shown}
use Rattle.cu_zarr.specs.Stored.{stored_element}
use Rattle.cu_region.specs.Steady.{IsSteady}
use Rattle.cu_command.specs.declared.job.Job.{Job}
use Rattle.cu_command.specs.declared.status.Status.{Status}
use Rattle.cu_command.specs.declared.status.Status.TheVariants.{BadChunk, DepotFailed, NoMemory, Unequal}
use Rattle.cu_check.specs.Arrays.{arrays_of_nodes, compared_arrays, HasAllElements, IsReadChunk, IsOwnTurn, IsChunkTurn}
use Rattle.cu_check.specs.Check.{IsLikeStoredNode, plain_element, IsEqual, IsEqualBelow, AreAt, WhereThere, IsCompareFault}
use Rattle.cu_check.specs.Chunks.{HasAllSteady, HasAllStored}
use Rattle.cu_command.specs.Chunks.{IsChunkFault}
use Rattle.cu_check.specs.Elements.{elements_of}
use Rattle.cu_check.specs.Plains.{AreReadArrays, IsListFault, AreSameBelow, IsFirstDifference}
use Rattle.cu_check.specs.declared.compare.Difference.{Difference}
use Rattle.cu_check.proofs.InputNodes.{are_input_nodes, hold_inputs, hold_own, own_elements, array_there, calm_of, calm_at, elements_then, all_seen}

-- ---- members of lists

pub in_middle : (before : List InputInfo) (a : InputInfo) (behind : List InputInfo) → Contains (before ++ a ∷ behind) a
in_middle [] a behind = (0, omega arith, refl)
in_middle (b ∷ before) a behind = let rest = in_middle before a behind in (suc rest.0, (let below = rest.1 in omega arith), rest.2)

-- ---- what is there

-- the arrays that were read are there, where they stand among all
list_there : (arrays front xs behind : List InputInfo) (ps : List PlainArray) (entry : Shown) (held : Contents) → arrays ≡ front ++ (xs ++ behind) → entry.held ≡ Some held
    → IsSteady (IsReadChunk arrays) (Some held) entry.late → AreReadArrays entry xs ps → All (HasAllElements held) xs
list_there arrays front [] behind [] entry held place told steady read = All-nil (HasAllElements held)
list_there arrays front [] behind (p ∷ ps) entry held place told steady read = absurd read
list_there arrays front (a ∷ xs) behind [] entry held place told steady read = absurd read
list_there arrays front (a ∷ xs) behind (p ∷ ps) entry held place told steady read =
    let here : Contains arrays a = subst (λ (xs : List InputInfo). Contains xs a) (sym place) (in_middle front a (xs ++ behind)) in
    All-cons (HasAllElements held) a xs
    (array_there a p held read.0.plain read.0.dims (elements_then a p entry held told read.0 (calm_of arrays a entry held here steady)))
    (list_there arrays (front ++ a ∷ []) xs behind ps entry held (place ∙ sym (append_assoc front (a ∷ []) (xs ++ behind))) told steady read.1)

stored_there : (a : InputInfo) (bytes : List ℕ) (held : Contents) → HasAllStored a bytes held → HasAllElements held a
stored_there a bytes held has idx inside = (element_at Little a.layout.dtype bytes (place_of a.layout.grid.shape idx), has idx inside)

module _ (job : Job) (output : InputInfo) (entry : Shown) (held : Contents) (told : entry.held ≡ Some held)
    (steady : IsSteady (IsReadChunk (compared_arrays job output)) (Some held) entry.late) where
  -- the output is among the arrays
  pub output_calm : (bytes : List ℕ) → IsGrid output.layout.grid → HasAllSteady output bytes entry → HasAllStored output bytes held
  output_calm bytes grid has idx inside =
      has idx inside held told (calm_at output entry held idx grid inside (calm_of (compared_arrays job output) output entry held (in_middle (arrays_of_nodes job.inputs.items job.expr.nodes) output []) steady))

  -- an array of the inputs is too
  pub all_there : (ps : List PlainArray) (bytes : List ℕ) → AreReadArrays entry (arrays_of_nodes job.inputs.items job.expr.nodes) ps → HasAllStored output bytes held
      → All (HasAllElements held) (compared_arrays job output)
  all_there ps bytes read stored =
      All-append (HasAllElements held) (arrays_of_nodes job.inputs.items job.expr.nodes) (output ∷ [])
      (list_there (compared_arrays job output) [] (arrays_of_nodes job.inputs.items job.expr.nodes) (output ∷ []) ps entry held refl told steady read)
      (All-cons (HasAllElements held) output [] (stored_there output bytes held stored) (All-nil (HasAllElements held)))

-- ---- elements

some_same : (x y : ℤ) → ◌≡◌ {A = Option ℤ} (Some x) (Some y) → x ≡ y
some_same x y e = cc

module _ (job : Job) (output : InputInfo) (held : Contents) (p : PlainArray) (bytes : List ℕ) (fits : IsLikeStoredNode job output) (stored : HasAllStored output bytes held)
    (means : HoldsElements (info_at job.types job.expr.out) (meaning_of job.expr job.types (elements_of job held) job.expr.out) p) where
  abbrev Stored : ℕ → Option ℤ
  Stored place = stored_element (layout_view output.layout) output.name held (index_at (shape_of_node job.types job.expr.out) place)

  abbrev Means : ℕ → ℤ
  Means place = plain_element job held (index_at (shape_of_node job.types job.expr.out) place)

  -- the bytes at a place are the stored element there
  stored_at : (place : ℕ) → place < product (shape_of_node job.types job.expr.out) → Stored place ≡ Some (element_at Little output.layout.dtype bytes place)
  stored_at place below =
      let inside = index-inside (shape_of_node job.types job.expr.out) place below in
      let own : IsInside output.layout.grid.shape (index_at (shape_of_node job.types job.expr.out) place) = subst (λ (shape : List ℕ). IsInside shape (index_at (shape_of_node job.types job.expr.out) place)) (sym fits.shape) inside in
      stored (index_at (shape_of_node job.types job.expr.out) place) own
      ∙ ap (λ (shape : List ℕ). Some (element_at Little output.layout.dtype bytes (place_of shape (index_at (shape_of_node job.types job.expr.out) place)))) fits.shape
      ∙ ap (λ (at : ℕ). Some (element_at Little output.layout.dtype bytes at)) (place-index (shape_of_node job.types job.expr.out) place below)

  -- where the number at the place is that of the bytes, the elements are equal
  equal_at : (place : ℕ) → place < product (shape_of_node job.types job.expr.out) → slice_get p.cells place ≡ Some (element_at Little output.layout.dtype bytes place) → Stored place ≡ Some (Means place)
  equal_at place below same = stored_at place below ∙ sym same ∙ means.cells place below

  pub equal_below : (n : ℕ) → n ≤ product (shape_of_node job.types job.expr.out) → AreSameBelow output.layout.dtype bytes p.cells n → IsEqualBelow job output held n
  equal_below n within same place below = equal_at place (omega arith) (same place below)

  pub equal_all : AreSameBelow output.layout.dtype bytes p.cells (product (shape_of_node job.types job.expr.out)) → IsEqual job output held
  equal_all same idx inside =
      let below = place-below (shape_of_node job.types job.expr.out) idx inside in
      subst (λ (i : List ℕ). stored_element (layout_view output.layout) output.name held i ≡ Some (plain_element job held i)) (index-place (shape_of_node job.types job.expr.out) idx inside)
      (equal_at (place_of (shape_of_node job.types job.expr.out) idx) below (same (place_of (shape_of_node job.types job.expr.out) idx) below))

  pub differ_at : (d : Difference) → IsFirstDifference output.layout.dtype bytes p.cells d → AreAt job output held d.place d.stored d.plain
  differ_at d first =
      let count = means.count in
      let low = first.below in
      let below : d.place < product (shape_of_node job.types job.expr.out) = omega arith in
      record {
        stored_is = stored_at d.place below ∙ ap Some (sym first.stored_is);
        plain_is = some_same (Means d.place) d.plain (sym (means.cells d.place below) ∙ first.plain_is);
      }

-- ---- the turn of a chunk

rose_since : (tries a b c : ℕ) → a ≤ b → Rose tries b c → Rose tries a c
rose_since tries a b c first rose = omega arith

module _ (tries : ℕ) (entry old new : Shown) (job : Job) (output : InputInfo) where
  -- of an array of the inputs
  list_turn : (a : InputInfo) (before behind : List InputInfo) (ps : List PlainArray) (key : List ℕ) → arrays_of_nodes job.inputs.items job.expr.nodes ≡ before ++ a ∷ behind → AreReadArrays entry before ps
      → IsOwnTurn entry a key → IsChunkTurn entry (compared_arrays job output) a key
  list_turn a before behind ps key place read own =
      let whole : compared_arrays job output ≡ before ++ a ∷ (behind ++ output ∷ []) = ap (λ (xs : List InputInfo). xs ++ output ∷ []) place ∙ append_assoc before (a ∷ behind) (output ∷ []) in
      record {
        before = before;
        behind = behind ++ output ∷ [];
        place = whole;
        front = all_seen entry before ps read;
        own = own;
      }

  pub list_fault : (status : Status) → IsListFault tries entry old new (arrays_of_nodes job.inputs.items job.expr.nodes) status → IsCompareFault tries entry old new (record { job = job; output = output }) status
  list_fault (DepotFailed key) f = (f.fault.1, (f.a, list_turn f.a f.before f.behind f.plains key f.place f.read f.fault.0))
  list_fault (BadChunk key got want) f = (f.a, list_turn f.a f.before f.behind f.plains key f.place f.read f.fault.0, f.fault.1, f.fault.2, f.fault.3)
  list_fault NoMemory f = tt
  list_fault status f = absurd f.fault

  -- of the output
  output_turn : (ps : List PlainArray) (key : List ℕ) → AreReadArrays entry (arrays_of_nodes job.inputs.items job.expr.nodes) ps → IsOwnTurn entry output key → IsChunkTurn entry (compared_arrays job output) output key
  output_turn ps key read own = record {
    before = arrays_of_nodes job.inputs.items job.expr.nodes;
    behind = [];
    place = refl;
    front = all_seen entry (arrays_of_nodes job.inputs.items job.expr.nodes) ps read;
    own = own;
  }

  pub output_fault : (mid : Shown) (ps : List PlainArray) (status : Status) → old.faults ≤ mid.faults → AreReadArrays entry (arrays_of_nodes job.inputs.items job.expr.nodes) ps
      → IsChunkFault tries mid new output.layout (IsOwnTurn entry output) status → IsCompareFault tries entry old new (record { job = job; output = output }) status
  output_fault mid ps (DepotFailed key) count read f = (rose_since tries old.faults mid.faults new.faults count f.1, (output, output_turn ps key read f.0))
  output_fault mid ps (BadChunk key got want) count read f = (output, output_turn ps key read f.0, f.1, f.2, f.3)
  output_fault mid ps NoMemory count read f = tt
  output_fault mid ps status count read f = absurd f

-- ---- the whole comparison

-- over all nodes, each node has the type that typing gives
pub typed_whole : (inputs : List InputInfo) (e : Expression) (infos : List NodeInfo) → IsExpression e → typed inputs e ≡ Ok infos
    → (k : ℕ) (n : Node) → slice_get e.nodes k ≡ Some n → typed_node inputs infos n.form ≡ Ok (info_at infos k)
typed_whole inputs e infos form types k n at =
    sym (over_all inputs infos k n.form (form.nodes k n at).form.earlier) ∙ typed_at inputs e.nodes infos k n types at

pub whole_inputs : (job : Job) (entry : Shown) (ps made : List PlainArray) → IsExpression job.expr → typed job.inputs.items job.expr ≡ Ok job.types
    → AreReadArrays entry (arrays_of_nodes job.inputs.items job.expr.nodes) ps → made ≡ ps → AreInputNodes job.expr job.types made
whole_inputs job entry ps made form types read same =
    subst (AreInputNodes job.expr job.types) (sym same)
    (are_input_nodes job.inputs.items job.expr job.types (typed_whole job.inputs.items job.expr job.types form types) entry ps read)

module _ (job : Job) (form : IsExpression job.expr) (types : typed job.inputs.items job.expr ≡ Ok job.types) (ps plains : List PlainArray)
    (means : (env : NodeElements) → HoldInputs job.expr job.types env ps → HoldMeaning job.expr job.types env plains) where
  -- there is an array for each node
  pub enough : (entry : Shown) → AreReadArrays entry (arrays_of_nodes job.inputs.items job.expr.nodes) ps → job.expr.out < length plains
  enough entry read =
      let own = means (own_elements job.expr ps) (hold_own job.inputs.items job.expr job.types (typed_whole job.inputs.items job.expr job.types form types) entry ps read) in
      let count = own.count in
      let out = form.out in
      omega arith

module _ (job : Job) (output : InputInfo) (form : IsExpression job.expr) (types : typed job.inputs.items job.expr ≡ Ok job.types) (ps plains : List PlainArray) (p : PlainArray)
    (means : (env : NodeElements) → HoldInputs job.expr job.types env ps → HoldMeaning job.expr job.types env plains) where
  -- it has as many elements as the node's shape says
  pub count_of : (entry : Shown) → AreReadArrays entry (arrays_of_nodes job.inputs.items job.expr.nodes) ps → slice_get plains job.expr.out ≡ Some p → length p.cells ≡ product (shape_of_node job.types job.expr.out)
  count_of entry read at =
      ((means (own_elements job.expr ps) (hold_own job.inputs.items job.expr job.types (typed_whole job.inputs.items job.expr job.types form types) entry ps read)).each job.expr.out p at).count

  -- its elements are what the expression means
  meant : (entry : Shown) (held : Contents) → AreReadArrays entry (arrays_of_nodes job.inputs.items job.expr.nodes) ps → slice_get plains job.expr.out ≡ Some p → entry.held ≡ Some held
      → IsSteady (IsReadChunk (compared_arrays job output)) (Some held) entry.late
      → HoldsElements (info_at job.types job.expr.out) (meaning_of job.expr job.types (elements_of job held) job.expr.out) p
  meant entry held read at told steady =
      (means (elements_of job held) (hold_inputs job (output ∷ []) (typed_whole job.inputs.items job.expr job.types form types) entry held ps read
      (λ a q here was. elements_then a q entry held told was (calm_of (compared_arrays job output) a entry held here steady)))).each job.expr.out p at

  -- the elements are equal
  pub found_equal : (entry : Shown) (bytes : List ℕ) → IsGrid output.layout.grid → IsLikeStoredNode job output → AreReadArrays entry (arrays_of_nodes job.inputs.items job.expr.nodes) ps → slice_get plains job.expr.out ≡ Some p
      → HasAllSteady output bytes entry → AreSameBelow output.layout.dtype bytes p.cells (product (shape_of_node job.types job.expr.out)) → WhereThere entry job output (IsEqual job output)
  found_equal entry bytes grid fits read at stored same held told steady =
      let here = output_calm job output entry held told steady bytes grid stored in (
        all_there job output entry held told steady ps bytes read here,
        equal_all job output held p bytes fits here (meant entry held read at told steady) same,
      )

  -- the first difference
  pub found_unequal : (tries : ℕ) (entry old new : Shown) (bytes : List ℕ) (d : Difference) → IsGrid output.layout.grid → IsLikeStoredNode job output → AreReadArrays entry (arrays_of_nodes job.inputs.items job.expr.nodes) ps
      → slice_get plains job.expr.out ≡ Some p → HasAllSteady output bytes entry → IsFirstDifference output.layout.dtype bytes p.cells d
      → IsCompareFault tries entry old new (record { job = job; output = output }) (Unequal d.place d.stored d.plain)
  found_unequal tries entry old new bytes d grid fits read at stored first =
      let long = count_of entry read at in
      let low = first.below in
      let whole = ap product fits.shape in (
        first.unequal,
        omega arith,
        λ held told steady.
            let here = output_calm job output entry held told steady bytes grid stored in
            let is = meant entry held read at told steady in (
              all_there job output entry held told steady ps bytes read here,
              (
                equal_below job output held p bytes fits here is d.place (omega arith) first.before,
                differ_at job output held p bytes fits here is d first,
              ),
            ),
      )

-- ---- the node that is stored

module _ (job : Job) (output : InputInfo) (at : ℕ) (info : NodeInfo) (is_out : at ≡ job.expr.out) (told : slice_get job.types at ≡ Some info) where
  stored_node : info_at job.types job.expr.out ≡ info
  stored_node = ap (info_at job.types) (sym is_out) ∙ get_or_from_slice_get job.types at info _ told

  pub like_node : (output.layout.dtype ≡ info.dtype) × (output.layout.grid.shape ≡ info.dims) → IsLikeStoredNode job output
  like_node is = record { dtype = is.0 ∙ sym (ap (λ (i : NodeInfo). i.dtype) stored_node); shape = is.1 ∙ sym (ap (λ (i : NodeInfo). i.dims) stored_node) }

  pub as_node : IsLikeStoredNode job output → (output.layout.dtype ≡ info.dtype) × (output.layout.grid.shape ≡ info.dims)
  as_node like = (like.dtype ∙ ap (λ (i : NodeInfo). i.dtype) stored_node, like.shape ∙ ap (λ (i : NodeInfo). i.dims) stored_node)
