-- What is proved of a view, and of an array that is made from nothing.
use Rattle.std.proofs.Common.{◌≡◌, ℕ, suc, true, List, [], ◌∷◌, All, length, map, slice_index, refl, ap, sym, ◌∙◌, subst, inl, arith, zero, ◌<◌, ℤ, Option, None}
use Rattle.std.proofs.lemmas.List.Elements.{All-nil, All-cons, All-head, All-tail, All-weaker}
use Rattle.cu_num.specs.Dtype.{InRange}
use Rattle.cu_num.specs.declared.types.Dtype.{Dtype}
use Rattle.cu_shape.specs.Index.{IsInside}
use Rattle.cu_grid.specs.Grid.{RegularGrid}
use Rattle.cu_op.specs.Arrays.{grid_at, type_at, chunk_room}
use Rattle.cu_op.specs.Projection.{own_projection}
use Rattle.cu_form.specs.Form.{args_of, is_array}
use Rattle.cu_form.specs.declared.args.Arg.{Arg}
use Rattle.cu_form.specs.declared.form.Form.{Form}
use Rattle.cu_node.specs.Info.{info_at, chunk_bytes}
use Rattle.cu_node.specs.declared.info.NodeInfo.{NodeInfo}
use Rattle.cu_typing.specs.Joined.{arrays_of}
use Rattle.cu_typing.specs.declared.argument.Argument.{Argument}
use Rattle.cu_expr.specs.Typing.{argument_of, typed_form}
use Rattle.cu_need.specs.Chunks.{arrays_in}
use Rattle.cu_need.specs.Need.{own_need, IsTyped}
use Rattle.cu_need.specs.Operands.{operands_of, copies_of}
use Rattle.cu_origin.specs.Fits.{FitsPull}
use Rattle.cu_origin.specs.Pull.{origin_of, IsInSources}
use Rattle.cu_origin.specs.declared.pull.Pull.{Pull as View}
use Rattle.cu_op.specs.Kind.Pull.{Converts, PullFits, shapes_at, pulled}
use Rattle.cu_need.specs.View.{view_need, view_bytes}
use Rattle.cu_lower_view.specs.Sources.{source_shapes, sources_of, shapes_of}
use Rattle.cu_lower_view.specs.Typed.{IsTypedView, IsPull, SuitsType, typed_as_view}
use Rattle.cu_lower_reduce.specs.Steps.{all_made, HasInfo, HaveInfos, AreSteps, last_made, SolveSteps, ComeTo}
use Rattle.cu_lower_reduce.specs.declared.step.Step.{Step}
use Rattle.cu_lower.specs.declared.options.Options.{Options}
use Rattle.cu_lower.specs.Parts.{array_places, only_step, pull_in, view_op, steps_of, source_places, IsFitting}
use Rattle.cu_lower.proofs.Arguments.{Each, each_so, mapped_places, arrays_told, sources_in}
use Rattle.cu_lower.proofs.StepLaws.{HaveLaws}
use Rattle.std.specs.Prelude.{slice_index_or, unwrap_or}
use Rattle.std.specs.List.{list_all}
use Rattle.cu_origin.specs.declared.provenance.Provenance.{Provenance}
use Rattle.cu_origin.specs.declared.provenance.Provenance.TheVariants.{From, Const}
use Rattle.cu_origin.proofs.OriginsInside.{inside_sources}
use Rattle.cu_semantics.specs.Argument.{shape_of_node}
use Rattle.cu_semantics.specs.Rule.{rule_of}
use Rattle.cu_lower.proofs.Applied.{Told}
use Rattle.cu_lower.proofs.AxisIndices.{taken_from}
use Rattle.cu_lower.proofs.ViewRules.{view_takes, view_arrays}
use Rattle.cu_form.specs.Expression.{Expression}
use Rattle.cu_expr.specs.Inputs.{named_input, stored_of}
use Rattle.cu_expr.specs.declared.inputs.InputInfo.{InputInfo}
use Rattle.cu_expr.proofs.ToldArguments.{info_kept}
use Rattle.cu_need.specs.Outline.{outline_of}
use Rattle.cu_tree.specs.Outlines.{plain}
use Rattle.cu_tree.specs.declared.outline.Outlined.{Outlined}
use Rattle.cu_lower.proofs.Fitting.{given_all, greatest_of, room_of_known, task_count}
use Rattle.cu_lower.proofs.Node.{no_copies, sources_at, steps_at, Contents, IsAccepted, IsCarried, IsKnown, Laws, Site, Solves, StandsAt}
use Rattle.cu_lower.proofs.OperandSteps.{computed_own, only_computed, AreOwn}
use Rattle.cu_origin.specs.declared.pull.Pull.TheVariants as views

-- ---- what holds of a form that is a view

-- it has one step, which makes its array of its arguments' arrays, and is typed as a view over these
pub record IsView (f : Form) : Type 0 where
  pub steps : (infos : List NodeInfo) (options : Options) (k : ℕ) (ins : List ℕ) (first : ℕ)
      → steps_of infos options k f ins first ≡ only_step infos k (view_op infos f ins first) (own_need options.reserved options.split_every infos k f)
  pub sources : (e : Expression) (places : List ℕ) → source_places e places f ≡ array_places places (args_of f)
  pub needs : (reserved split_every : ℕ) (infos : List NodeInfo) (k : ℕ)
      → own_need reserved split_every infos k f ≡ view_need reserved (info_at infos k) (arrays_in infos (args_of f))
  pub outline : (split_every : ℕ) (infos : List NodeInfo) (k : ℕ)
      → outline_of split_every infos k f ≡ plain (info_at infos k) (view_bytes (info_at infos k) (arrays_in infos (args_of f))) ∷ []
  pub operands : (infos : List NodeInfo) (k : ℕ) → operands_of infos k f ≡ []
  pub copies : (infos : List NodeInfo) (out k : ℕ) → copies_of infos out k f ≡ []
  pub told : (stored : NodeInfo) (told : List Argument) → typed_form stored f told ≡ typed_as_view f (arrays_of told)
  pub typed : (infos : List NodeInfo) (k : ℕ) → IsTyped infos k f
  pub fitting : (infos : List NodeInfo) (options : Options) (k : ℕ) → IsFitting infos options k f

-- ---- what its pull takes of the arrays that it reads

-- the two words for a source's type say the same
converts : (p : View) (from to : Dtype) → SuitsType p to from → Converts p from to
converts (views.Concat axis) from to h = h
converts (views.Stack axis) from to h = h
converts p from to h = h

all_mapped : {A B : Type 0} (f : A → B) (P : B → Type 0) (xs : List A) → All P (map f xs) → All (λ x. P (f x)) xs
all_mapped f P [] h = All-nil (λ x. P (f x))
all_mapped f P (x ∷ xs) h = All-cons (λ y. P (f y)) x xs (All-head P (f x) (map f xs) h) (all_mapped f P xs (All-tail P (f x) (map f xs) h))

-- what a pull takes of the arrays of arguments is what it takes of their nodes
taken_told : (p : Site) (v : Contents) (args : List Arg) (source : ℕ) (idx : List ℕ) → Each (IsCarried p v) args → list_all is_array args ≡ true
    → source < length (shapes_of (sources_of p.infos args)) → IsInside (slice_index_or (shapes_of (sources_of p.infos args)) source []) idx
    → Told v.must (pulled (array_places p.places args) v.at (From source idx)) (taken_from v.meaning args (From source idx))
taken_told p v [] source idx each all below inside = absurd (omega arith)
taken_told p v (Arg.Node n ∷ args) zero idx each all below inside = each.0.carries idx inside
taken_told p v (Arg.Node n ∷ args) (suc source) idx each all below inside = taken_told p v args source idx each.1 all (omega arith) inside
taken_told p v (Arg.Int x ∷ args) source idx each all below inside = cc
taken_told p v (Arg.Truth b ∷ args) source idx each all below inside = cc

provenance_told : (p : Site) (v : Contents) (args : List Arg) (from : Provenance) → Each (IsCarried p v) args → list_all is_array args ≡ true
    → IsInSources (shapes_of (sources_of p.infos args)) from → Told v.must (pulled (array_places p.places args) v.at from) (taken_from v.meaning args from)
provenance_told p v args (From source idx) each all inside = taken_told p v args source idx each all inside.0 inside.1
provenance_told p v args (Const x) each all inside = inl refl

-- ---- its laws

module _ (f : Form) (view : IsView f) where
  is_typed : (inputs : List InputInfo) (infos : List NodeInfo) (k : ℕ) → IsAccepted inputs infos k f → IsTypedView infos f (info_at infos k)
  is_typed inputs infos k n = record {
    args = n.args;
    ranges = n.ranges;
    kept = n.kept;
    typed = sym (view.told (stored_of (named_input inputs) f) (map (argument_of infos) (args_of f)) ∙ ap (typed_as_view f) (arrays_told infos (args_of f) ∙ sources_in infos (args_of f))) ∙ n.typed;
  }

  pull_is : HaveLaws → (infos : List NodeInfo) (k : ℕ) → IsTypedView infos f (info_at infos k) → IsPull infos f (info_at infos k) (pull_in infos f)
  pull_is laws infos k typed =
      let w = laws.pulls infos f (info_at infos k) typed in
      let same : w.0 ≡ pull_in infos f = sym (ap (λ o. unwrap_or o views.Reshape) w.1.pull) in
      subst (λ (p : View). IsPull infos f (info_at infos k) p) same w.1

  module _ (p : Site) (k : ℕ) (own : IsPull p.infos f (info_at p.infos k) (pull_in p.infos f)) (s : StandsAt p k f) where
    abbrev ins : List ℕ
    ins = array_places p.places (args_of f)

    abbrev need : ℕ
    need = own_need p.options.reserved p.options.split_every p.infos k f

    step_is : steps_at p k f ≡ only_step p.infos k (view_op p.infos f ins p.first) need
    step_is = view.steps p.infos p.options k (sources_at p f) p.first ∙ ap (λ (xs : List ℕ). only_step p.infos k (view_op p.infos f xs p.first) need) (view.sources p.e p.places)

    view_own : HasInfo p.arrays p.first (info_at p.infos k)
    view_own = (subst (λ (ss : List Step). HaveInfos p.arrays p.first (all_made ss)) step_is s.made).0

    rooms : map (chunk_room p.arrays) ins ≡ map chunk_bytes (arrays_in p.infos (args_of f))
    rooms =
        mapped_places p.places p.infos (chunk_room p.arrays) chunk_bytes (args_of f)
        (each_so (IsKnown p) (λ n. chunk_room p.arrays (slice_index p.places n) ≡ chunk_bytes (info_at p.infos n)) (λ n h. room_of_known p.arrays (slice_index p.places n) (info_at p.infos n) h) (args_of f) s.known)

    read_types : map (type_at p.arrays) ins ≡ map (λ (i : NodeInfo). i.dtype) (sources_of p.infos (args_of f))
    read_types =
        mapped_places p.places p.infos (type_at p.arrays) (λ (i : NodeInfo). i.dtype) (args_of f)
        (each_so (IsKnown p) (λ n. type_at p.arrays (slice_index p.places n) ≡ (info_at p.infos n).dtype) (λ n h. h.dtype) (args_of f) s.known)
        ∙ ap (map (λ (i : NodeInfo). i.dtype)) (sources_in p.infos (args_of f))

    -- the shapes of the arrays that it reads are those of the nodes
    read_shapes : shapes_at p.arrays ins ≡ source_shapes p.infos f
    read_shapes =
        mapped_places p.places p.infos (λ a. (grid_at p.arrays a).shape) (λ (i : NodeInfo). i.dims) (args_of f)
        (each_so (IsKnown p) (λ n. (grid_at p.arrays (slice_index p.places n)).shape ≡ (info_at p.infos n).dims) (λ n h. ap (λ (g : RegularGrid). g.shape) h.grid) (args_of f) s.known)
        ∙ ap (map (λ (i : NodeInfo). i.dims)) (sources_in p.infos (args_of f))

    result_shape : (grid_at p.arrays p.first).shape ≡ (info_at p.infos k).dims
    result_shape = ap (λ (g : RegularGrid). g.shape) view_own.grid

    view_fits : PullFits p.arrays (pull_in p.infos f) ins p.first
    view_fits =
        let pull = pull_in p.infos f in
        let shapes = sym read_shapes in
        let shape = sym result_shape in
        let dtype = sym view_own.dtype in
        let suits = subst (λ (ts : List Dtype). All (SuitsType pull (info_at p.infos k).dtype) ts) (sym read_types) own.types in
        record {
          shapes = subst (λ (ds : List ℕ). FitsPull pull (shapes_at p.arrays ins) ds) shape (subst (λ (ss : List (List ℕ)). FitsPull pull ss (info_at p.infos k).dims) shapes own.fits);
          types = subst (λ (t : Dtype). All (λ a. Converts pull (type_at p.arrays a) t) ins) dtype
              (All-weaker (λ a. SuitsType pull (info_at p.infos k).dtype (type_at p.arrays a)) (λ a. Converts pull (type_at p.arrays a) (info_at p.infos k).dtype)
              (λ a h. converts pull (type_at p.arrays a) (info_at p.infos k).dtype h) ins
              (all_mapped (type_at p.arrays) (SuitsType pull (info_at p.infos k).dtype) ins suits));
          numbers = λ idx x inside is.
              let into = subst (λ (ds : List ℕ). IsInside ds idx) (sym shape) inside in
              let origin = ap (λ ss. origin_of pull ss (info_at p.infos k).dims idx) shapes ∙ ap (λ ds. origin_of pull (shapes_at p.arrays ins) ds idx) shape ∙ is in
              subst (λ (t : Dtype). InRange t x) dtype (own.numbers idx x into origin);
        }

    view_projected : need ≡ own_projection p.arrays p.options.reserved (view_op p.infos f ins p.first)
    view_projected =
        let result = room_of_known p.arrays p.first (info_at p.infos k) view_own in
        let scratch = greatest_of p.arrays (info_at p.infos k) p.first ins (map chunk_bytes (arrays_in p.infos (args_of f))) view_own rooms in
        view.needs p.options.reserved p.options.split_every p.infos k
        ∙ (let whole : view_need p.options.reserved (info_at p.infos k) (arrays_in p.infos (args_of f)) ≡ own_projection p.arrays p.options.reserved (view_op p.infos f ins p.first) = omega (arith, result, scratch) in whole)

    pull_steps : AreSteps p.arrays p.options.reserved (sources_at p f) p.first p.first (steps_at p k f)
    pull_steps =
        subst (λ (xs : List ℕ). AreSteps p.arrays p.options.reserved xs p.first p.first (steps_at p k f)) (sym (view.sources p.e p.places))
        (subst (AreSteps p.arrays p.options.reserved ins p.first p.first) (sym step_is)
        (record { writes = refl; reads = given_all ins p.first p.first; fits = view_fits; need = view_projected; tasks = task_count p.arrays p.first (info_at p.infos k) view_own }, tt))

    view_told : (v : Contents) → Solves p v k f → IsTypedView p.infos f (info_at p.infos k) → (idx : List ℕ) → IsInside (shape_of_node p.infos k) idx
        → Told v.must (v.at (last_made p.first (steps_at p k f)) idx) (rule_of p.infos v.elements v.meaning k f idx)
    view_told v solves typed idx inside =
        let pull = pull_in p.infos f in
        let from = origin_of pull (source_shapes p.infos f) (info_at p.infos k).dims idx in
        let lies = inside_sources pull (source_shapes p.infos f) (info_at p.infos k).dims idx own.fits inside in
        let told = provenance_told p v (args_of f) from solves.arguments (view_arrays p.infos f pull typed.args own.pull) lies in
        let same = view_takes p.infos v.elements v.meaning k pull idx inside f typed own in
        let value : v.at p.first idx ≡ pulled ins v.at from =
        subst (SolveSteps p.arrays v.at) step_is solves.made (record { op = view_op p.infos f ins p.first; values = None; made = info_at p.infos k; need = need }) p.first idx (0, omega arith, refl) (0, omega arith, refl)
        ∙ ap (λ ss. pulled ins v.at (origin_of (pull_in p.infos f) ss (grid_at p.arrays p.first).shape idx)) read_shapes
        ∙ ap (λ ds. pulled ins v.at (origin_of (pull_in p.infos f) (source_shapes p.infos f) ds idx)) result_shape in
        let one = ap (λ (ss : List Step). length (all_made ss)) step_is in
        let last : last_made p.first (steps_at p k f) ≡ p.first = omega (arith, one) in
        subst (λ (a : ℕ). Told v.must (v.at a idx) (rule_of p.infos v.elements v.meaning k f idx)) (sym last)
        (subst (λ (x : ℤ). Told v.must (v.at p.first idx) x) (sym same) (subst (λ (o : Option ℤ). Told v.must o (taken_from v.meaning (args_of f) from)) (sym value) told))

  pub view_laws : Laws f
  view_laws = record {
    typed = λ inputs infos k typed. view.typed infos k;
    fitting = λ e inputs infos options k n copies made. view.fitting infos options k;
    copies = λ infos options k fits. no_copies infos options k f (view.operands infos k);
    own = λ laws p inputs k n made fits room.
        let need = own_need p.options.reserved p.options.split_every p.infos k f in
        let bytes = view_bytes (info_at p.infos k) (arrays_in p.infos (args_of f)) in
        let op = view_op p.infos f (sources_at p f) p.first in
        subst (AreOwn p.infos p.options p.e.out k f) (sym (view.steps p.infos p.options k (sources_at p f) p.first))
        (computed_own p.infos p.options p.e.out k f (only_step p.infos k op need) (view.copies p.infos p.e.out k)
        (subst (λ (os : List Outlined). ComeTo p.options.reserved os (info_at p.infos k) (only_step p.infos k (view_op p.infos f (sources_at p f) p.first) (own_need p.options.reserved p.options.split_every p.infos k f)))
        (sym (view.outline p.options.split_every p.infos k))
        (only_computed p.infos p.options.reserved k bytes need op (info_kept p.infos k n.kept) refl (view.needs p.options.reserved p.options.split_every p.infos k))));
    steps = λ laws p inputs k n s. pull_steps p k (pull_is laws p.infos k (is_typed inputs p.infos k n)) s;
    told = λ laws p c inputs k n s solves. view_told p k (pull_is laws p.infos k (is_typed inputs p.infos k n)) s c solves (is_typed inputs p.infos k n);
  }
