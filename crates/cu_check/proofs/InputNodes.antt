-- The arrays of the input nodes, as they were read, and the elements of the input nodes.
use Rattle.std.proofs.Common.{◌≡◌, ℕ, zero, suc, ◌+◌, ◌<◌, ◌≤◌, true, cond, ℤ, pos, List, [], ◌∷◌, ◌++◌, length, take, drop, get_or, All, Contains, Option, Some, None, Result, Ok, refl, sym, ap, ◌∙◌, subst, append_assoc, arith}
use Rattle.std.specs.Prelude.{slice_get, count_by, unwrap_or}
use Rattle.std.proofs.lemmas.List.{take_more, take-append-drop, drop_more, flat_map_more, append-nil}
use Rattle.std.proofs.lemmas.List.Concat.{flat_map-append}
use Rattle.std.proofs.lemmas.List.Elements.{All-nil, All-cons}
use Rattle.std.proofs.lemmas.List.Sums.{sum_by-cons}
use Rattle.std.proofs.lemmas.Option.{slice_get-get_or, slice_get_within, get_or_from_slice_get}
use Rattle.cu_shape.specs.Index.{product, place_of, index_at, quotients, IsInside}
use Rattle.cu_shape.proofs.Places.{place-index, index-place, index-inside, place-below}
use Rattle.cu_grid.specs.Grid.{IsGrid}
use Rattle.cu_grid.proofs.Parting.{has_coordinate}
use Rattle.cu_form.specs.Expression.{Expression}
use Rattle.cu_form.specs.declared.expr.Node.{Node}
use Rattle.cu_form.specs.declared.form.Form.{Form}
use Rattle.cu_node.specs.Info.{info_at, no_info}
use Rattle.cu_node.specs.declared.faults.NodeFault.{NodeFault}
use Rattle.cu_node.specs.declared.info.NodeInfo.{NodeInfo}
use Rattle.cu_expr.proofs.NamedLayouts.{known_layout}
use Rattle.cu_expr.specs.Inputs.{layout_info, named_input, layout_named}
use Rattle.cu_expr.specs.Typing.{typed_node}
use Rattle.cu_expr.specs.declared.inputs.InputInfo.{InputInfo}
use Rattle.cu_mean.specs.Node.{is_input}
use Rattle.cu_mean.specs.Plain.{PlainArray, IsPlain}
use Rattle.cu_mean.specs.Reading.{HasTypeAndShape}
use Rattle.cu_mean.specs.Whole.{is_input_node, inputs_before, AreInputNodes, HoldsElements, HoldInputs}
use Rattle.cu_semantics.specs.Argument.{NodeElements}
use Rattle.cu_op.specs.Layout.{layout_view}
use Rattle.cu_store.specs.Held.{Contents}
use Rattle.cu_store.specs.Steps.{Shown}
use Rattle.cu_zarr.specs.Key.{chunk_key_of}
use Rattle.cu_zarr.specs.Stored.{stored_element}
use Rattle.cu_region.specs.Steady.{IsSteady}
use Rattle.cu_command.proofs.ChunkReads.{fault_since}
use Rattle.cu_command.specs.Chunks.{IsChunkFault}
use Rattle.cu_command.specs.Stored.{IsArrayChunk}
use Rattle.cu_command.specs.declared.job.Job.{Job}
use Rattle.cu_command.specs.declared.status.Status.{Status}
use Rattle.cu_check.specs.Arrays.{form_arrays, node_arrays, arrays_of_nodes, HasAllElements, IsReadChunk, IsOwnTurn, AreChunksSeen, key_of_index, numbered_key}
use Rattle.cu_check.proofs.ChunkReads.{steady_as}
use Rattle.cu_check.specs.Elements.{form_element, used_element, elements_of}
use Rattle.cu_check.specs.Plains.{HasStoredElements, IsReadArray, AreReadArrays, IsListFault}

abbrev pub array_named : List InputInfo → List ℕ → InputInfo
array_named inputs name = record { name = name; layout = layout_named inputs name }

-- one more array
pub read_more : (entry : Shown) (xs : List InputInfo) (ps : List PlainArray) (a : InputInfo) (p : PlainArray) → AreReadArrays entry xs ps → IsReadArray entry a p
    → AreReadArrays entry (xs ++ a ∷ []) (ps ++ p ∷ [])
read_more entry [] [] a p read one = (one, tt)
read_more entry (b ∷ xs) (q ∷ ps) a p read one = (read.0, read_more entry xs ps a p read.1 one)
read_more entry xs ps a p read one = absurd read

-- ---- node after node

pub arrays_more : (inputs : List InputInfo) (nodes : List Node) (k : ℕ) (node : Node) → k < length nodes → node ≡ get_or nodes k node
    → arrays_of_nodes inputs (take (k + 1) nodes) ≡ arrays_of_nodes inputs (take k nodes) ++ form_arrays inputs node.form
arrays_more inputs nodes k node below at =
    ap (arrays_of_nodes inputs) (take_more nodes k node below ∙ ap (λ (n : Node). take k nodes ++ n ∷ []) (sym at)) ∙ sym (flat_map_more (node_arrays inputs) [] (take k nodes) node)

pub arrays_split : (inputs : List InputInfo) (nodes : List Node) (k : ℕ) (node : Node) → k < length nodes → node ≡ get_or nodes k node
    → arrays_of_nodes inputs nodes ≡ arrays_of_nodes inputs (take k nodes) ++ (form_arrays inputs node.form ++ arrays_of_nodes inputs (drop (k + 1) nodes))
arrays_split inputs nodes k node below at =
    ap (arrays_of_nodes inputs) (sym (take-append-drop k nodes) ∙ ap (λ (ns : List Node). take k nodes ++ ns) (drop_more nodes k node below ∙ ap (λ (n : Node). n ∷ drop (k + 1) nodes) (sym at)))
    ∙ flat_map-append (node_arrays inputs) (take k nodes) (node ∷ drop (k + 1) nodes)

-- the array of this node failed
pub node_fault : (tries : ℕ) (inputs : List InputInfo) (nodes : List Node) (k : ℕ) (node : Node) (a : InputInfo) (ps : List PlainArray) (old mid new entry : Shown) (status : Status)
    → k < length nodes → node ≡ get_or nodes k node → form_arrays inputs node.form ≡ a ∷ [] → old.faults ≤ mid.faults → AreReadArrays entry (arrays_of_nodes inputs (take k nodes)) ps
    → IsChunkFault tries mid new a.layout (IsOwnTurn entry a) status → IsListFault tries entry old new (arrays_of_nodes inputs nodes) status
node_fault tries inputs nodes k node a ps old mid new entry status below at own count read fault = record {
  before = arrays_of_nodes inputs (take k nodes);
  behind = arrays_of_nodes inputs (drop (k + 1) nodes);
  a = a;
  place = arrays_split inputs nodes k node below at ∙ ap (λ (xs : List InputInfo). arrays_of_nodes inputs (take k nodes) ++ (xs ++ arrays_of_nodes inputs (drop (k + 1) nodes))) own;
  plains = ps;
  read = read;
  fault = fault_since tries old mid new a.layout (IsOwnTurn entry a) status count fault;
}

-- one more array, of a node that is an input
pub read_input : (entry : Shown) (inputs : List InputInfo) (form : Form) (name : List ℕ) (xs : List InputInfo) (old new : List PlainArray) (p : PlainArray) → form ≡ Form.Input name → new ≡ old ++ p ∷ []
    → AreReadArrays entry xs old → IsReadArray entry (array_named inputs name) p → AreReadArrays entry (xs ++ form_arrays inputs form) new
read_input entry inputs form name xs old new p is pushed before read =
    subst (λ (ps : List PlainArray). AreReadArrays entry (xs ++ form_arrays inputs form) ps) (sym pushed)
    (subst (λ (f : Form). AreReadArrays entry (xs ++ form_arrays inputs f) (old ++ p ∷ [])) (sym is) (read_more entry xs old (array_named inputs name) p before read))

-- none, of another node
pub read_other : (entry : Shown) (inputs : List InputInfo) (form : Form) (xs : List InputInfo) (ps : List PlainArray) → ((name : List ℕ) → form ≡ Form.Input name → ⊥) → AreReadArrays entry xs ps
    → AreReadArrays entry (xs ++ form_arrays inputs form) ps
read_other entry inputs (Form.Input name) xs ps other read = absurd (other name refl)
read_other entry inputs form xs ps other read = subst (λ (xs : List InputInfo). AreReadArrays entry xs ps) (sym (append-nil xs)) read

-- ---- the array of a node

record IsNodeArray (entry : Shown) (inputs : List InputInfo) (name : List ℕ) (ps : List PlainArray) (number : ℕ) : Type 0 where
  p : PlainArray
  there : slice_get ps number ≡ Some p
  read : IsReadArray entry (array_named inputs name) p

first_split : (entry : Shown) (inputs : List InputInfo) (name : List ℕ) (rest : List InputInfo) (ps : List PlainArray)
    → AreReadArrays entry (array_named inputs name ∷ rest) ps → IsNodeArray entry inputs name ps 0
first_split entry inputs name rest [] read = absurd read
first_split entry inputs name rest (p ∷ ps) read = record { p = p; there = refl; read = read.0 }

first_array : (entry : Shown) (inputs : List InputInfo) (name : List ℕ) (form : Form) (rest : List InputInfo) (ps : List PlainArray) → form ≡ Form.Input name
    → AreReadArrays entry (form_arrays inputs form ++ rest) ps → IsNodeArray entry inputs name ps 0
first_array entry inputs name form rest ps is read =
    first_split entry inputs name rest ps (subst (λ (f : Form). AreReadArrays entry (form_arrays inputs f ++ rest) ps) is read)

-- the arrays behind that of a form
record IsBehind (entry : Shown) (rest : List InputInfo) (form : Form) (ps : List PlainArray) : Type 0 where
  qs : List PlainArray
  read : AreReadArrays entry rest qs
  at : (m : ℕ) → slice_get ps (cond (is_input form) 1 0 + m) ≡ slice_get qs m
  count : length ps ≡ cond (is_input form) 1 0 + length qs

behind_input : (entry : Shown) (inputs : List InputInfo) (name : List ℕ) (rest : List InputInfo) (ps : List PlainArray)
    → AreReadArrays entry (array_named inputs name ∷ rest) ps → IsBehind entry rest (Form.Input name) ps
behind_input entry inputs name rest [] read = absurd read
behind_input entry inputs name rest (p ∷ ps) read = record {
  qs = ps;
  read = read.1;
  at = λ m. ap (slice_get (p ∷ ps)) (let e : 1 + m ≡ suc m = omega arith in e);
  count = omega arith;
}

none_more : (n : ℕ) → 0 + n ≡ n
none_more n = omega arith

behind : (entry : Shown) (inputs : List InputInfo) (rest : List InputInfo) (form : Form) (ps : List PlainArray) → AreReadArrays entry (form_arrays inputs form ++ rest) ps → IsBehind entry rest form ps
behind entry inputs rest (Form.Input name) ps read = behind_input entry inputs name rest ps read
behind entry inputs rest form ps read = record { qs = ps; read = read; at = λ m. ap (slice_get ps) (none_more m); count = sym (none_more (length ps)) }

node_array : (entry : Shown) (inputs : List InputInfo) (nodes : List Node) (ps : List PlainArray) (k : ℕ) (node : Node) (name : List ℕ) → AreReadArrays entry (arrays_of_nodes inputs nodes) ps
    → slice_get nodes k ≡ Some node → node.form ≡ Form.Input name → IsNodeArray entry inputs name ps (count_by is_input_node (take k nodes))
node_array entry inputs [] ps k node name read at is = cc
node_array entry inputs (n ∷ ns) ps zero node name read at is =
    let same : n ≡ node = cc in
    first_array entry inputs name n.form (arrays_of_nodes inputs ns) ps (ap (λ (x : Node). x.form) same ∙ is) read
node_array entry inputs (n ∷ ns) ps (suc k) node name read at is =
    let rest = behind entry inputs (arrays_of_nodes inputs ns) n.form ps read in
    let found = node_array entry inputs ns rest.qs k node name rest.read at is in
    record { p = found.p; there = ap (slice_get ps) (sum_by-cons (λ (x : Node). cond (is_input_node x) 1 0) n (take k ns)) ∙ rest.at (count_by is_input_node (take k ns)) ∙ found.there; read = found.read }

array_count : (entry : Shown) (inputs : List InputInfo) (nodes : List Node) (ps : List PlainArray) → AreReadArrays entry (arrays_of_nodes inputs nodes) ps → length ps ≡ count_by is_input_node nodes
array_count entry inputs [] [] read = refl
array_count entry inputs [] (p ∷ ps) read = absurd read
array_count entry inputs (n ∷ ns) ps read =
    let rest = behind entry inputs (arrays_of_nodes inputs ns) n.form ps read in
    rest.count ∙ ap (λ m. cond (is_input n.form) 1 0 + m) (array_count entry inputs ns rest.qs rest.read) ∙ sym (sum_by-cons (λ (x : Node). cond (is_input_node x) 1 0) n ns)

input_name : (form : Form) → is_input form ≡ true → (name : List ℕ) × (form ≡ Form.Input name)
input_name (Form.Input name) test = (name, refl)
input_name form test = cc

-- ---- the arrays as the evaluator takes them

module _ (inputs : List InputInfo) (e : Expression) (infos : List NodeInfo)
    (whole : (k : ℕ) (n : Node) → slice_get e.nodes k ≡ Some n → typed_node inputs infos n.form ≡ Ok (info_at infos k)) where
  -- what is known of an input node is its layout
  input_info : (k : ℕ) (n : Node) (name : List ℕ) → slice_get e.nodes k ≡ Some n → n.form ≡ Form.Input name → info_at infos k ≡ layout_info (layout_named inputs name)
  input_info k n name at is =
      let value : NodeInfo → Result NodeInfo NodeFault = λ x. Ok x in
      let t : value (unwrap_or (named_input inputs name) no_info) ≡ value (info_at infos k) = ap (typed_node inputs infos) (sym is) ∙ whole k n at in
      let same : unwrap_or (named_input inputs name) no_info ≡ info_at infos k = cc t in
      sym same ∙ known_layout inputs name

  has_info : (entry : Shown) (k : ℕ) (n : Node) (name : List ℕ) (p : PlainArray) → slice_get e.nodes k ≡ Some n → n.form ≡ Form.Input name
      → IsReadArray entry (array_named inputs name) p → HasTypeAndShape (info_at infos k) p
  has_info entry k n name p at is read =
      let info = input_info k n name at is in
      record { dtype = read.dtype ∙ sym (ap (λ (i : NodeInfo). i.dtype) info); dims = read.dims ∙ sym (ap (λ (i : NodeInfo). i.dims) info) }

  pub are_input_nodes : (entry : Shown) (ps : List PlainArray) → AreReadArrays entry (arrays_of_nodes inputs e.nodes) ps → AreInputNodes e infos ps
  are_input_nodes entry ps read = record {
    count = array_count entry inputs e.nodes ps read;
    each = λ k node at test.
        let (name, is) = input_name node.form test in
        let found = node_array entry inputs e.nodes ps k node name read at is in
        (found.p, record { there = found.there; plain = found.read.plain; info = has_info entry k node name found.p at is found.read });
  }

  -- an array of the input nodes, with what it holds by this fact of its elements
  holds : (entry : Shown) (k : ℕ) (n : Node) (name : List ℕ) (p : PlainArray) (element : List ℕ → ℤ) → slice_get e.nodes k ≡ Some n → n.form ≡ Form.Input name
      → IsReadArray entry (array_named inputs name) p
      → ((place : ℕ) → place < product p.dims → slice_get p.cells place ≡ Some (element (index_at p.dims place))) → HoldsElements (info_at infos k) element p
  holds entry k n name p element at is read cells =
      let info = has_info entry k n name p at is read in
      record {
        info = info;
        count = read.plain.count ∙ ap product info.dims;
        cells = subst (λ (dims : List ℕ). (place : ℕ) → place < product dims → slice_get p.cells place ≡ Some (element (index_at dims place))) info.dims cells;
      }

  -- ---- the arrays hold the elements that were held

  element_is : (job : Job) (held : Contents) (k : ℕ) (n : Node) (name idx : List ℕ) → slice_get job.expr.nodes k ≡ Some n → n.form ≡ Form.Input name
      → elements_of job held k idx ≡ unwrap_or (stored_element (layout_view (layout_named job.inputs.items name)) name held idx) (pos 0)
  element_is job held k n name idx at is = ap (used_element job held idx) at ∙ ap (form_element job held idx) is

some_cell : (cells : List ℤ) (place : ℕ) (stored : Option ℤ) → place < length cells → stored ≡ slice_get cells place → slice_get cells place ≡ Some (unwrap_or stored (pos 0))
some_cell cells place stored below same =
    let here : slice_get cells place ≡ Some (get_or cells place (pos 0)) = slice_get-get_or cells place (pos 0) below in
    here ∙ ap Some (sym (ap (λ (o : Option ℤ). unwrap_or o (pos 0)) (same ∙ here)))

same_array : (ps : List PlainArray) (number : ℕ) (p q : PlainArray) → slice_get ps number ≡ Some p → slice_get ps number ≡ Some q → p ≡ q
same_array ps number p q one other = cc

in_middle : (before : List InputInfo) (a : InputInfo) (behind : List InputInfo) → Contains (before ++ a ∷ behind) a
in_middle [] a behind = (0, omega arith, refl)
in_middle (b ∷ before) a behind = let rest = in_middle before a behind in (suc rest.0, (let below = rest.1 in omega arith), rest.2)

-- the array of a node is among the arrays
listed : (inputs : List InputInfo) (nodes : List Node) (tail : List InputInfo) (k : ℕ) (node : Node) (name : List ℕ) → slice_get nodes k ≡ Some node → node.form ≡ Form.Input name
    → Contains (arrays_of_nodes inputs nodes ++ tail) (array_named inputs name)
listed inputs nodes tail k node name at is =
    let split = arrays_split inputs nodes k node (slice_get_within nodes k node at) (sym (get_or_from_slice_get nodes k node node at)) in
    let own : arrays_of_nodes inputs nodes ≡ arrays_of_nodes inputs (take k nodes) ++ array_named inputs name ∷ arrays_of_nodes inputs (drop (k + 1) nodes) =
    split ∙ ap (λ (f : Form). arrays_of_nodes inputs (take k nodes) ++ (form_arrays inputs f ++ arrays_of_nodes inputs (drop (k + 1) nodes))) is in
    let whole : arrays_of_nodes inputs nodes ++ tail ≡ arrays_of_nodes inputs (take k nodes) ++ array_named inputs name ∷ (arrays_of_nodes inputs (drop (k + 1) nodes) ++ tail) =
    ap (λ (xs : List InputInfo). xs ++ tail) own ∙ append_assoc (arrays_of_nodes inputs (take k nodes)) (array_named inputs name ∷ arrays_of_nodes inputs (drop (k + 1) nodes)) tail in
    subst (λ (xs : List InputInfo). Contains xs (array_named inputs name)) (sym whole)
    (in_middle (arrays_of_nodes inputs (take k nodes)) (array_named inputs name) (arrays_of_nodes inputs (drop (k + 1) nodes) ++ tail))

pub hold_inputs : (job : Job) (tail : List InputInfo) (whole : (k : ℕ) (n : Node) → slice_get job.expr.nodes k ≡ Some n → typed_node job.inputs.items job.types n.form ≡ Ok (info_at job.types k))
    → (entry : Shown) (held : Contents) (ps : List PlainArray) → AreReadArrays entry (arrays_of_nodes job.inputs.items job.expr.nodes) ps
    → ((a : InputInfo) (p : PlainArray) → Contains (arrays_of_nodes job.inputs.items job.expr.nodes ++ tail) a → IsReadArray entry a p → HasStoredElements a p held)
    → HoldInputs job.expr job.types (elements_of job held) ps
hold_inputs job tail whole entry held ps read elements k node p at test there =
    let (name, is) = input_name node.form test in
    let found = node_array entry job.inputs.items job.expr.nodes ps k node name read at is in
    let same : found.p ≡ p = same_array ps (inputs_before job.expr k) found.p p found.there there in
    let own : IsReadArray entry (array_named job.inputs.items name) p = subst (λ (q : PlainArray). IsReadArray entry (array_named job.inputs.items name) q) same found.read in
    holds job.inputs.items job.expr job.types whole entry k node name p (elements_of job held k) at is own
    (λ place below.
    let inside : place < product (layout_named job.inputs.items name).grid.shape = subst (λ (dims : List ℕ). place < product dims) own.dims below in
    let long = own.plain.count in
    subst (λ (dims : List ℕ). slice_get p.cells place ≡ Some (elements_of job held k (index_at dims place))) (sym own.dims)
    (some_cell p.cells place (stored_element (layout_view (layout_named job.inputs.items name)) name held (index_at (layout_named job.inputs.items name).grid.shape place)) (omega arith) (elements (array_named job.inputs.items name) p (listed job.inputs.items job.expr.nodes tail k node name at is) own place inside)
    ∙ ap Some (sym (element_is job.inputs.items job.expr job.types whole job held k node name (index_at (layout_named job.inputs.items name).grid.shape place) at is))))

-- ---- the arrays hold their own elements

abbrev cell_at : Option PlainArray → List ℕ → ℤ
cell_at (Some p) idx = get_or p.cells (place_of p.dims idx) (pos 0)
cell_at None idx = pos 0

abbrev pub own_elements : Expression → List PlainArray → NodeElements
own_elements e ps k idx = cell_at (slice_get ps (inputs_before e k)) idx

pub hold_own : (inputs : List InputInfo) (e : Expression) (infos : List NodeInfo) (whole : (k : ℕ) (n : Node) → slice_get e.nodes k ≡ Some n → typed_node inputs infos n.form ≡ Ok (info_at infos k))
    → (entry : Shown) (ps : List PlainArray) → AreReadArrays entry (arrays_of_nodes inputs e.nodes) ps → HoldInputs e infos (own_elements e ps) ps
hold_own inputs e infos whole entry ps read k node p at test there =
    let (name, is) = input_name node.form test in
    let found = node_array entry inputs e.nodes ps k node name read at is in
    let same : found.p ≡ p = same_array ps (inputs_before e k) found.p p found.there there in
    let own : IsReadArray entry (array_named inputs name) p = subst (λ (q : PlainArray). IsReadArray entry (array_named inputs name) q) same found.read in
    holds inputs e infos whole entry k node name p (own_elements e ps k) at is own
    (λ place below.
    let long = own.plain.count in
    slice_get-get_or p.cells place (pos 0) (omega arith)
    ∙ ap Some (ap (λ (at : ℕ). get_or p.cells at (pos 0)) (sym (place-index p.dims place below)) ∙ sym (ap (λ (o : Option PlainArray). cell_at o (index_at p.dims place)) there)))

-- ---- what is there

-- an array that was read is there
pub array_there : (a : InputInfo) (p : PlainArray) (held : Contents) → IsPlain p → p.dims ≡ a.layout.grid.shape → HasStoredElements a p held → HasAllElements held a
array_there a p held plain dims has idx inside =
    let below = place-below a.layout.grid.shape idx inside in
    let long : length p.cells ≡ product a.layout.grid.shape = plain.count ∙ ap product dims in (
      get_or p.cells (place_of a.layout.grid.shape idx) (pos 0),
      ap (stored_element (layout_view a.layout) a.name held) (sym (index-place a.layout.grid.shape idx inside)) ∙ has (place_of a.layout.grid.shape idx) below
          ∙ slice_get-get_or p.cells (place_of a.layout.grid.shape idx) (pos 0) (omega arith),
    )

-- a premise on the chunks of all arrays is one on those of each
pub calm_of : (arrays : List InputInfo) (a : InputInfo) (entry : Shown) (held : Contents) → Contains arrays a → IsSteady (IsReadChunk arrays) (Some held) entry.late
    → IsSteady (IsArrayChunk a.name a.layout) (Some held) entry.late
calm_of arrays a entry held there steady key bytes here among = steady key bytes (a, there, here) among

-- the same of the key of one chunk
pub calm_at : (a : InputInfo) (entry : Shown) (held : Contents) (idx : List ℕ) → IsGrid a.layout.grid → IsInside a.layout.grid.shape idx → IsSteady (IsArrayChunk a.name a.layout) (Some held) entry.late
    → IsSteady (λ key. key ≡ key_of_index a idx) (Some held) entry.late
calm_at a entry held idx grid inside steady key bytes is among = steady key bytes (quotients idx a.layout.grid.chunk, has_coordinate a.layout.grid idx grid inside, is) among

-- an array that was read has its elements, where no key of its chunks changed
pub elements_then : (a : InputInfo) (p : PlainArray) (entry : Shown) (held : Contents) → entry.held ≡ Some held → IsReadArray entry a p → IsSteady (IsArrayChunk a.name a.layout) (Some held) entry.late
    → HasStoredElements a p held
elements_then a p entry held told read steady place below =
    read.elements place below held told (calm_at a entry held (index_at a.layout.grid.shape place) read.grid (index-inside a.layout.grid.shape place below) steady)

-- each of its chunks is there
chunks_seen : (entry : Shown) (a : InputInfo) (p : PlainArray) → IsReadArray entry a p → AreChunksSeen entry a
chunks_seen entry a p read n few held told steady idx inside here =
    let below = place-below a.layout.grid.shape idx inside in
    let again : index_at a.layout.grid.shape (place_of a.layout.grid.shape idx) ≡ idx = index-place a.layout.grid.shape idx inside in
    let long : length p.cells ≡ product a.layout.grid.shape = read.plain.count ∙ ap product read.dims in
    let own : key_of_index a (index_at a.layout.grid.shape (place_of a.layout.grid.shape idx)) ≡ numbered_key a n = ap (key_of_index a) again ∙ ap (chunk_key_of a.name a.layout.encoding) here in (
      get_or p.cells (place_of a.layout.grid.shape idx) (pos 0),
      ap (stored_element (layout_view a.layout) a.name held) (sym again) ∙ read.elements (place_of a.layout.grid.shape idx) below held told (steady_as _ _ held entry.late own steady)
          ∙ slice_get-get_or p.cells (place_of a.layout.grid.shape idx) (pos 0) (omega arith),
    )

pub all_seen : (entry : Shown) (xs : List InputInfo) (ps : List PlainArray) → AreReadArrays entry xs ps → All (AreChunksSeen entry) xs
all_seen entry [] [] read = All-nil (AreChunksSeen entry)
all_seen entry [] (p ∷ ps) read = absurd read
all_seen entry (a ∷ xs) [] read = absurd read
all_seen entry (a ∷ xs) (p ∷ ps) read = All-cons (AreChunksSeen entry) a xs (chunks_seen entry a p read.0) (all_seen entry xs ps read.1)
