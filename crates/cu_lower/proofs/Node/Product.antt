-- What is proved of a product of matrices.
use Rattle.std.proofs.Common.{◌≡◌, ℕ, ◌+◌, Bool, true, ℤ, ◌*ℤ◌, List, [], ◌∷◌, Option, Some, length, refl, ap, sym, ◌∙◌, subst, inl, inr, arith}
use Rattle.std.specs.Prelude.{slice_index}
use Rattle.std.specs.List.{range_with_len}
use Rattle.cu_copy.specs.Copies.{rechunked}
use Rattle.cu_copy.specs.declared.copies.Rechunk.{Rechunk}
use Rattle.cu_num.specs.Wrap.{wrapped}
use Rattle.cu_num.specs.declared.folds.FoldKind.TheVariants.{Sum}
use Rattle.cu_shape.specs.Index.{IsInside}
use Rattle.cu_form.specs.Form.{takes_args}
use Rattle.cu_form.specs.declared.args.Arg.{Arg}
use Rattle.cu_form.specs.declared.form.Form.{Form}
use Rattle.cu_node.specs.Info.{chunk_bytes, info_at}
use Rattle.cu_node.specs.declared.info.NodeInfo.{NodeInfo}
use Rattle.cu_semantics.specs.Argument.{NodeElements, shape_of_node}
use Rattle.cu_semantics.specs.Rule.{rule_of}
use Rattle.cu_op.specs.Matrix.{left_inner, product_at}
use Rattle.cu_reduce.specs.Folds.{exact_sum, reduced_to}
use Rattle.cu_reduce.specs.Products.{left_index, right_index}
use Rattle.cu_expr.proofs.ToldArguments.{info_kept}
use Rattle.cu_expr.specs.declared.inputs.InputInfo.{InputInfo}
use Rattle.cu_need.specs.Operands.{left_wanted, operands_of, right_wanted}
use Rattle.cu_tree.specs.Outlines.{product_outline}
use Rattle.cu_lower_reduce.specs.Copies.{aligned_places, aligned_steps}
use Rattle.cu_lower_reduce.specs.Partials.{IsSetting}
use Rattle.cu_lower_reduce.specs.Products.{inner_products, product_steps, IsProduct}
use Rattle.cu_lower_reduce.specs.Steps.{all_made, last_made, HaveEach, HaveInfos, AreSteps, ComeTo}
use Rattle.cu_lower_reduce.specs.declared.copy.CopySetting.{CopySetting}
use Rattle.cu_lower_reduce.specs.declared.product.Product.{Product}
use Rattle.cu_lower_reduce.specs.declared.step.Step.{Step}
use Rattle.cu_lower.specs.Parts.{copying, product_of, setting, CanMakeCopies}
use Rattle.cu_lower.proofs.Applied.{Told}
use Rattle.cu_lower.proofs.Behind.{behind_hold, behind_last, own_known, own_solved, read_known, read_value}
use Rattle.cu_lower.proofs.Node.{sources_at, steps_at, Contents, IsAccepted, Laws, Site, Solves, StandsAt}
use Rattle.cu_lower.proofs.OperandSteps.{copies_few, operands_own, own_setting, HasRoom}
use Rattle.cu_lower.proofs.ProductLinks.{left_inside, right_inside}
use Rattle.cu_lower.proofs.ProductTypes.{left_kept, product_typed}
use Rattle.cu_lower.proofs.ReducedValues.{all_told, made_told, over_range}
use Rattle.cu_lower.proofs.ReductionTypes.{two_arrays}
use Rattle.cu_lower.proofs.StepLaws.{HaveLaws}

-- ---- its elements are those that its operator gives

-- a product of two factors
factors_told : (must : Bool) (o p : Option ℤ) (x y : ℤ) → Told must o x → Told must p y → Told must (product_at o p) (x *ℤ y)
factors_told must o p x y (inl a) (inl b) = inl (ap (λ (v : Option ℤ). product_at v p) a ∙ ap (λ (v : Option ℤ). product_at (Some x) v) b)
factors_told must o p x y (inl a) (inr none) = inr (none.0, ap (λ (v : Option ℤ). product_at v p) a ∙ ap (λ (v : Option ℤ). product_at (Some x) v) none.1)
factors_told must o p x y (inr none) b = inr (none.0, ap (λ (v : Option ℤ). product_at v p) none.1)

product_told : (must : Bool) (infos : List NodeInfo) (elements meaning : NodeElements) (k l m : ℕ) (ins : List ℕ) (left right : List ℕ → Option ℤ) (o : Option ℤ) (idx : List ℕ)
    → IsProduct (product_of infos k (Arg.Node l ∷ Arg.Node m ∷ []) ins) → IsInside (info_at infos k).dims idx
    → o ≡ reduced_to Sum (info_at infos k).dtype (inner_products (product_of infos k (Arg.Node l ∷ Arg.Node m ∷ []) ins) left right idx)
    → ((i : List ℕ) → IsInside (shape_of_node infos l) i → Told must (left i) (meaning l i)) → ((i : List ℕ) → IsInside (shape_of_node infos m) i → Told must (right i) (meaning m i))
    → Told must o (rule_of infos elements meaning k (Form.Matmul (Arg.Node l ∷ Arg.Node m ∷ [])) idx)
product_told must infos elements meaning k l m ins left right o idx h inside value lefts rights =
    let x : Product = product_of infos k (Arg.Node l ∷ Arg.Node m ∷ []) ins in
    let a = (info_at infos l).dims in
    let b = (info_at infos m).dims in
    let each = over_range (λ j. Told must (product_at (left (left_index a b idx j)) (right (right_index a b idx j))) (meaning l (left_index a b idx j) *ℤ meaning m (right_index a b idx j))) 0 (left_inner (info_at infos l).dims)
    (λ j low high. factors_told must (left (left_index a b idx j)) (right (right_index a b idx j)) (meaning l (left_index a b idx j)) (meaning m (right_index a b idx j))
    (lefts (left_index a b idx j) (left_inside x h idx inside j (omega (arith, high)))) (rights (right_index a b idx j) (right_inside x h idx inside j (omega (arith, high))))) in
    let all = made_told must (λ (ys : List ℤ). wrapped (info_at infos k).dtype (exact_sum ys)) _ _
    (all_told must (λ j. product_at (left (left_index a b idx j)) (right (right_index a b idx j))) (λ j. meaning l (left_index a b idx j) *ℤ meaning m (right_index a b idx j)) (range_with_len 0 (left_inner (info_at infos l).dims)) each) in
    subst (λ (v : Option ℤ). Told must v (rule_of infos elements meaning k (Form.Matmul (Arg.Node l ∷ Arg.Node m ∷ [])) idx)) (sym value) all

-- ---- its laws

module _ (l m : ℕ) where
  abbrev form : Form
  form = Form.Matmul (Arg.Node l ∷ Arg.Node m ∷ [])

  multiplies : (inputs : List InputInfo) (infos : List NodeInfo) (k : ℕ)
      → IsAccepted inputs infos k form → (ins : List ℕ) → IsProduct (product_of infos k (Arg.Node l ∷ Arg.Node m ∷ []) ins)
  multiplies inputs infos k n ins =
      product_typed (info_at infos l) (info_at infos m) (info_at infos k) (slice_index ins 0) (slice_index ins 1) (info_kept infos l n.kept) (info_kept infos m n.kept) (info_kept infos k n.kept) n.typed

  module _ (laws : HaveLaws) (p : Site) (k : ℕ) where
    abbrev copies : CopySetting
    copies = copying p.options p.first

    abbrev wanted : List Rechunk
    wanted = operands_of p.infos k form

    abbrev reads : List ℕ
    reads = aligned_places copies (sources_at p form) wanted

    abbrev next : ℕ
    next = p.first + length (all_made (aligned_steps copies (sources_at p form) wanted))

    abbrev own : List ℕ → ℕ → List Step
    own read at = product_steps (setting p.options at) (product_of p.infos k (Arg.Node l ∷ Arg.Node m ∷ []) read)

    abbrev both : (s : StandsAt p k form) → HaveEach p.arrays (sources_at p form) (info_at p.infos l ∷ info_at p.infos m ∷ [])
    both s = (s.known.0, (s.known.1.0, tt))

    next_setting : CanMakeCopies p.infos p.options k form p.first → HasRoom p.options p.first → IsSetting (setting p.options next)
    next_setting can room = own_setting p.options p.first next room (copies_few laws copies (sources_at p form) wanted can.operands refl can.few)

    reads_known : StandsAt p k form
        → HaveEach p.arrays reads (rechunked (left_wanted (info_at p.infos k) (info_at p.infos l) (info_at p.infos m)) ∷ rechunked (right_wanted (info_at p.infos k) (info_at p.infos l) (info_at p.infos m)) ∷ [])
    reads_known s = read_known laws.operands copies (sources_at p form) wanted own p.arrays (both s) s.made

    made_known : StandsAt p k form → HaveInfos p.arrays next (all_made (own reads next))
    made_known s = own_known laws.operands copies (sources_at p form) wanted own p.arrays (both s) s.made

    multiply_steps : StandsAt p k form → AreSteps p.arrays p.options.reserved (sources_at p form) p.first p.first (steps_at p k form)
    multiply_steps s =
        behind_hold laws.operands copies (sources_at p form) wanted own p.arrays (both s) s.made (s.fitting.1 p.first).operands
        (laws.products.steps p.arrays (setting p.options next) (product_of p.infos k (Arg.Node l ∷ Arg.Node m ∷ []) reads) (next_setting (s.fitting.1 p.first) s.room) (s.fitting.0 reads)
        (reads_known s).0 (reads_known s).1.0 (made_known s))

    multiply_told : (c : Contents) (s : StandsAt p k form) → Solves p c k form → (idx : List ℕ) → IsInside (shape_of_node p.infos k) idx
        → Told c.must (c.at (last_made p.first (steps_at p k form)) idx) (rule_of p.infos c.elements c.meaning k form idx)
    multiply_told c s solves idx inside =
        let solved = own_solved laws.operands copies (sources_at p form) wanted own p.arrays (both s) s.made c.at solves.made in
        let same = read_value laws.operands copies (sources_at p form) wanted own p.arrays (both s) s.made c.at solves.made in
        let value = laws.products.value p.arrays c.at (setting p.options next) (product_of p.infos k (Arg.Node l ∷ Arg.Node m ∷ []) reads)
        (next_setting (s.fitting.1 p.first) s.room) (s.fitting.0 reads) (reads_known s).0 (reads_known s).1.0 (made_known s) solved idx inside in
        let told = product_told c.must p.infos c.elements c.meaning k l m reads (c.at (slice_index reads 0)) (c.at (slice_index reads 1))
        (c.at (last_made next (own reads next)) idx) idx (s.fitting.0 reads) inside value
        (λ i lies. subst (λ (o : Option ℤ). Told c.must o (c.meaning l i)) (sym (same 0 (omega arith) i)) (solves.arguments.0.carries i lies))
        (λ i lies. subst (λ (o : Option ℤ). Told c.must o (c.meaning m i)) (sym (same 1 (omega arith) i)) (solves.arguments.1.0.carries i lies)) in
        subst (λ (a : ℕ). Told c.must (c.at a idx) (rule_of p.infos c.elements c.meaning k form idx))
        (sym (behind_last laws.operands copies (sources_at p form) wanted own (omega arith))) told

  of_two : Laws form
  of_two = record {
    typed = λ inputs infos k typed. typed;
    fitting = λ e inputs infos options k n copies made. (
      multiplies inputs infos k n,
      (λ first. record { rechunks = copies.operands; operands = record { staged = copies.staged first }; few = omega arith }),
    );
    copies = λ infos options k fits. fits.1;
    own = λ laws p inputs k n made fits room.
        let x = product_of p.infos k (Arg.Node l ∷ Arg.Node m ∷ []) (reads laws p k) in
        let kept = left_kept (info_at p.infos l) (info_at p.infos m) (info_at p.infos k) (info_kept p.infos l n.kept) n.typed in
        operands_own laws p.infos p.options p.e.out k form (sources_at p form) p.first (own laws p k) (fits.1 p.first) refl refl
        (subst (λ (i : NodeInfo). ComeTo p.options.reserved (product_outline p.options.split_every (info_at p.infos k) i (chunk_bytes x.left_info) (chunk_bytes x.right_info))
        (info_at p.infos k) (own laws p k (reads laws p k) (next laws p k))) kept (laws.products.sizes (setting p.options (next laws p k)) x (next_setting laws p k (fits.1 p.first) room) (fits.0 (reads laws p k))));
    steps = λ laws p inputs k n s. multiply_steps laws p k s;
    told = λ laws p c inputs k n s solves. multiply_told laws p k c s solves;
  }

pub product_laws : (args : List Arg)
    → takes_args (Form.Matmul args) ≡ true → Laws (Form.Matmul args)
product_laws args takes =
    let (l, (m, two)) = two_arrays args takes in
    subst (λ (xs : List Arg). Laws (Form.Matmul xs)) (sym two) (of_two l m)
