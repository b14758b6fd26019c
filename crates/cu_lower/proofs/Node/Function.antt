-- What is proved of an elementwise function.
use Rattle.std.proofs.Common.{◌≡◌, ℕ, suc, ◌+◌, true, max, List, [], ◌∷◌, All, length, map, slice_index, sum_by, refl, ap, sym, ◌∙◌, subst, arith, ℤ, Option, Some, None, ◌≤◌, Ok, Result}
use Rattle.std.proofs.lemmas.List.{length-append, length-map}
use Rattle.std.proofs.lemmas.List.Elements.{All-nil, All-cons, All-head, All-tail}
use Rattle.std.proofs.lemmas.List.Sums.{sum_by-cons}
use Rattle.cu_num.specs.Dtype.{InRange}
use Rattle.cu_num.specs.declared.types.Dtype.{Dtype}
use Rattle.cu_shape.specs.Index.{IsInside, back}
use Rattle.cu_grid.specs.Grid.{RegularGrid}
use Rattle.cu_op.specs.Arrays.{grid_at, type_at, chunk_room}
use Rattle.cu_op.specs.KernelTypes.{KernelFits}
use Rattle.cu_op.specs.Aligned.{IsAligned}
use Rattle.cu_op.specs.Kind.Map.{MapFits, loaded}
use Rattle.cu_op.specs.Projection.{own_projection}
use Rattle.cu_op.specs.declared.kernel.Instr.{Instr}
use Rattle.cu_op.specs.declared.layout.ArrayInfo.{ArrayInfo}
use Rattle.cu_form.specs.Form.{element_takes}
use Rattle.cu_form.specs.declared.args.Arg.{Arg}
use Rattle.cu_node.specs.declared.element_op.ElementOp.{ElementOp}
use Rattle.cu_form.specs.declared.form.Form.{Form}
use Rattle.cu_node.specs.Info.{info_at}
use Rattle.cu_node.specs.declared.info.NodeInfo.{NodeInfo}
use Rattle.cu_typing.specs.Accepted.{IsElementwise}
use Rattle.cu_expr.specs.Kernel.{aligned_grid, result_grid, loads_from, element_kernel, types_of, function_of}
use Rattle.cu_expr.proofs.Maps.{elementwise_map}
use Rattle.cu_typing.specs.Joined.{arrays_of}
use Rattle.cu_typing.specs.declared.argument.Argument.{Argument}
use Rattle.cu_typing.specs.declared.argument.Argument.TheVariants.{Array, Written}
use Rattle.cu_expr.specs.Typing.{argument_of}
use Rattle.cu_copy.specs.Copies.{rechunked}
use Rattle.cu_need.specs.Chunks.{aligned_bytes, arrays_in}
use Rattle.cu_need.specs.Elementwise.{own_instructions, function_bytes}
use Rattle.cu_need.specs.Need.{own_need}
use Rattle.cu_need.specs.Operands.{in_aligned, operands_of}
use Rattle.cu_lower_reduce.specs.Copies.{aligned_places, aligned_steps}
use Rattle.cu_lower_reduce.specs.Steps.{all_made, HasInfo, HaveEach, AreSteps, last_made}
use Rattle.cu_lower_reduce.specs.declared.step.Step.{Step}
use Rattle.cu_lower.specs.Parts.{array_places, instructions_of, copying, type_or_bool, elementwise_op, only_step}
use Rattle.cu_lower.proofs.Arguments.{Each, arrays_told}
use Rattle.cu_lower.proofs.Behind.{behind_hold, own_known, read_known, behind_last, own_solved, read_same, SameElements}
use Rattle.cu_lower.proofs.StepLaws.{HaveLaws}
use Rattle.std.specs.Prelude.{slice_get, option_and_then, IsOk, Err}
use Rattle.cu_op.specs.Kernel.{kernel_value}
use Rattle.cu_semantics.specs.Argument.{shape_of_node, argument_at}
use Rattle.cu_semantics.specs.Rule.{function_value, rule_of}
use Rattle.cu_typing.specs.Types.{result_type}
use Rattle.cu_lower.proofs.Applied.{Told, Loaded, kernel_told}
use Rattle.cu_lower.proofs.ProductLinks.{inside_back}
use Rattle.cu_lower.proofs.ReductionTypes.{one_array}
use Rattle.cu_typing.proofs.Passed.{passed}
use Rattle.cu_expr.proofs.ToldArguments.{info_kept}
use Rattle.cu_lower.proofs.Fitting.{given_all, greatest_of, room_of_known, task_count}
use Rattle.cu_lower.proofs.Node.{steps_at, Contents, IsCarried, IsKnown, Laws, Site, Solves, StandsAt}
use Rattle.cu_lower.proofs.OperandSteps.{only_computed, operands_own}
use Rattle.cu_node.specs.declared.element_op.ElementOp.TheVariants as element

-- ---- its code

sum_mapped : {A : Type 0} (f : A → ℕ) (xs : List A) → sum_by f xs ≡ sum_by (λ n. n) (map f xs)
sum_mapped f [] = refl
sum_mapped f (x ∷ xs) = let a = sum_by-cons f x xs in let b = sum_by-cons (λ (n : ℕ). n) (f x) (map f xs) in let r = sum_mapped f xs in omega (arith, a, b, r)

loads_long : (k : ℕ) (told : List Argument) → length (loads_from k told) ≡ length told
loads_long k [] = refl
loads_long k (Array i ∷ told) = ap suc (loads_long (k + 1) told)
loads_long k (Written v ∷ told) = ap suc (loads_long k told)

function_long : (op : ElementOp) (t : Dtype) → length (function_of op t) ≡ own_instructions op
function_long (ElementOp.One f) t = refl
function_long (ElementOp.Two f) t = refl
function_long ElementOp.Where t = refl
function_long (ElementOp.Astype d) t = refl
function_long (ElementOp.Extreme least) t = refl
function_long (ElementOp.Clip min max) t = refl

kernel_long : (op : ElementOp) (t : Dtype) (told : List Argument) → length (element_kernel op t told) ≡ length told + own_instructions op
kernel_long op t told =
    let a = length-append (loads_from 0 told) (function_of op t) in
    let l = loads_long 0 told in
    let f = function_long op t in
    omega (arith, a, l, f)

-- ---- its arguments

-- a value that is there
some_ok : {T E : Type 0} (r : Result T E) (x : T) → r ≡ Ok x → IsOk r
some_ok (Ok y) x e = refl
some_ok (Err f) x e = cc

-- a function has at most three arguments
three_arguments : (op : ElementOp) (args : List Arg) → element_takes op args ≡ true → length args ≤ 3
three_arguments op [] h = omega arith
three_arguments op (x ∷ []) h = omega arith
three_arguments op (x ∷ y ∷ []) h = omega arith
three_arguments op (x ∷ y ∷ z ∷ []) h = omega arith
three_arguments op (x ∷ y ∷ z ∷ w ∷ args) h = too_many op h
  where
    too_many : (op : ElementOp) → element_takes op (x ∷ y ∷ z ∷ w ∷ args) ≡ true → length (x ∷ y ∷ z ∷ w ∷ args) ≤ 3
    too_many (element.Two f) h = cc
    too_many element.Where h = cc
    too_many (element.Extreme least) h = cc
    too_many (element.One f) h = let (n, one) = one_array (x ∷ y ∷ z ∷ w ∷ args) h in let l = ap length one in absurd (omega (arith, l))
    too_many (element.Astype t) h = let (n, one) = one_array (x ∷ y ∷ z ∷ w ∷ args) h in let l = ap length one in absurd (omega (arith, l))
    too_many (element.Clip min max) h = let (n, one) = one_array (x ∷ y ∷ z ∷ w ∷ args) h in let l = ap length one in absurd (omega (arith, l))

some_arrays : (infos : List NodeInfo) (args : List Arg) → length (arrays_in infos args) ≤ length args
some_arrays infos [] = omega arith
some_arrays infos (Arg.Node n ∷ args) = let r = some_arrays infos args in omega (arith, r)
some_arrays infos (Arg.Int x ∷ args) = let r = some_arrays infos args in omega (arith, r)
some_arrays infos (Arg.Truth b ∷ args) = let r = some_arrays infos args in omega (arith, r)

some_places : (infos : List NodeInfo) (places : List ℕ) (args : List Arg) → length (array_places places args) ≡ length (arrays_in infos args)
some_places infos places [] = refl
some_places infos places (Arg.Node n ∷ args) = ap suc (some_places infos places args)
some_places infos places (Arg.Int x ∷ args) = some_places infos places args
some_places infos places (Arg.Truth b ∷ args) = some_places infos places args

-- ---- arrays in the chunks that are wanted

abbrev wanted : NodeInfo → List NodeInfo → List NodeInfo
wanted made is = map rechunked (map (in_aligned made) is)

module _ (arrays : List ArrayInfo) where
  wanted_rooms : (made : NodeInfo) (read : List ℕ) (is : List NodeInfo) → HaveEach arrays read (wanted made is) → map (chunk_room arrays) read ≡ map (aligned_bytes made) is
  wanted_rooms made [] [] h = refl
  wanted_rooms made (a ∷ read) (i ∷ is) h = λ j. room_of_known arrays a (rechunked (in_aligned made i)) h.0 j ∷ wanted_rooms made read is h.1 j
  wanted_rooms made read is h = absurd h

  wanted_types : (made : NodeInfo) (read : List ℕ) (is : List NodeInfo) → HaveEach arrays read (wanted made is) → map (type_at arrays) read ≡ types_of is
  wanted_types made [] [] h = refl
  wanted_types made (a ∷ read) (i ∷ is) h = λ j. h.0.dtype j ∷ wanted_types made read is h.1 j
  wanted_types made read is h = absurd h

  wanted_aligned : (made : NodeInfo) (out : ℕ) (read : List ℕ) (is : List NodeInfo) → HasInfo arrays out made → HaveEach arrays read (wanted made is) → All (λ i. IsAligned (aligned_grid made i) (result_grid made)) is
      → All (λ a. IsAligned (grid_at arrays a) (grid_at arrays out)) read
  wanted_aligned made out [] [] own h all = All-nil (λ a. IsAligned (grid_at arrays a) (grid_at arrays out))
  wanted_aligned made out (a ∷ read) (i ∷ is) own h all =
      All-cons (λ b. IsAligned (grid_at arrays b) (grid_at arrays out)) a read
      (subst (λ (g : RegularGrid). IsAligned (grid_at arrays a) g) (sym own.grid) (subst (λ (g : RegularGrid). IsAligned g (result_grid made)) (sym h.0.grid) (All-head (λ x. IsAligned (aligned_grid made x) (result_grid made)) i is all)))
      (wanted_aligned made out read is own h.1 (All-tail (λ x. IsAligned (aligned_grid made x) (result_grid made)) i is all))
  wanted_aligned made out read is own h all = absurd h

sources_known : (p : Site) (made : NodeInfo) (args : List Arg) → Each (IsKnown p) args → HaveEach p.arrays (array_places p.places args) (map (λ r. r.source) (map (in_aligned made) (arrays_in p.infos args)))
sources_known p made [] h = tt
sources_known p made (Arg.Node n ∷ args) h = (h.0, sources_known p made args h.1)
sources_known p made (Arg.Int x ∷ args) h = sources_known p made args h
sources_known p made (Arg.Truth b ∷ args) h = sources_known p made args h

-- ---- what is read of its arguments

module _ (p : Site) (v : Contents) where
  -- what is read of node n at an index of node k
  abbrev read : ℕ → List ℕ → ℕ → ℤ
  read k idx n = v.meaning n (back (shape_of_node p.infos n) idx)

  abbrev read_at : List ℕ → ℕ → Option ℤ
  read_at idx a = v.at a (back (grid_at p.arrays a).shape idx)

  -- array a has what is read of node n
  abbrev IsTold : ℕ → List ℕ → ℕ → ℕ → Type 0
  IsTold k idx n a = Told v.must (read_at idx a) (read k idx n) × (read_at idx a ≡ Some (read k idx n) → InRange (info_at p.infos n).dtype (read k idx n))

  -- so have these arrays in order
  abbrev AreTold : ℕ → List ℕ → List Arg → List ℕ → Type 0
  AreTold k idx [] xs = Unit {0}
  AreTold k idx (Arg.Node n ∷ args) [] = ⊥
  AreTold k idx (Arg.Node n ∷ args) (a ∷ xs) = IsTold k idx n a × AreTold k idx args xs
  AreTold k idx (Arg.Int x ∷ args) xs = AreTold k idx args xs
  AreTold k idx (Arg.Truth b ∷ args) xs = AreTold k idx args xs

  argument_told : (k out : ℕ) (idx : List ℕ) → HasInfo p.arrays out (info_at p.infos k) → IsInside (shape_of_node p.infos k) idx → (n a : ℕ) → IsCarried p v n
      → HasInfo p.arrays a (rechunked (in_aligned (info_at p.infos k) (info_at p.infos n))) → ((i : List ℕ) → v.at a i ≡ v.at (slice_index p.places n) i) → IsAligned (grid_at p.arrays a) (grid_at p.arrays out) → IsTold k idx n a
  argument_told k out idx own inside n a c known same aligned =
      let into : IsInside (grid_at p.arrays out).shape idx = subst (λ (g : RegularGrid). IsInside g.shape idx) (sym own.grid) inside in
      let shape : (grid_at p.arrays a).shape ≡ shape_of_node p.infos n = ap (λ (g : RegularGrid). g.shape) known.grid in
      let there : IsInside (shape_of_node p.infos n) (back (shape_of_node p.infos n) idx) = subst (λ (ds : List ℕ). IsInside ds (back ds idx)) shape (inside_back (grid_at p.arrays a) (grid_at p.arrays out) idx aligned into) in
      let source : read_at idx a ≡ v.at (slice_index p.places n) (back (shape_of_node p.infos n) idx) = ap (λ ds. v.at a (back ds idx)) shape ∙ same (back (shape_of_node p.infos n) idx) in (
        subst (λ (o : Option ℤ). Told v.must o (read k idx n)) (sym source) (c.carries (back (shape_of_node p.infos n) idx) there),
        (λ some. c.ranged (back (shape_of_node p.infos n) idx) (read k idx n) there (sym source ∙ some)),
      )

  arguments_told : (k out : ℕ) (idx : List ℕ) → HasInfo p.arrays out (info_at p.infos k) → IsInside (shape_of_node p.infos k) idx → (args : List Arg) (xs : List ℕ) → Each (IsCarried p v) args
      → HaveEach p.arrays xs (map rechunked (map (in_aligned (info_at p.infos k)) (arrays_in p.infos args))) → SameElements v.at (array_places p.places args) xs → All (λ a. IsAligned (grid_at p.arrays a) (grid_at p.arrays out)) xs
      → AreTold k idx args xs
  arguments_told k out idx own inside [] xs each known same aligned = tt
  arguments_told k out idx own inside (Arg.Node n ∷ args) [] each known same aligned = absurd known
  arguments_told k out idx own inside (Arg.Node n ∷ args) (a ∷ xs) each known same aligned = (
    argument_told k out idx own inside n a each.0 known.0 same.0 (All-head (λ b. IsAligned (grid_at p.arrays b) (grid_at p.arrays out)) a xs aligned),
    arguments_told k out idx own inside args xs each.1 known.1 same.1 (All-tail (λ b. IsAligned (grid_at p.arrays b) (grid_at p.arrays out)) a xs aligned),
  )
  arguments_told k out idx own inside (Arg.Int x ∷ args) xs each known same aligned = arguments_told k out idx own inside args xs each known same aligned
  arguments_told k out idx own inside (Arg.Truth b ∷ args) xs each known same aligned = arguments_told k out idx own inside args xs each known same aligned

  all_loaded : (k : ℕ) (ins : List ℕ) (idx : List ℕ) (i : ℕ) (args : List Arg) (xs : List ℕ) → ((j : ℕ) → slice_get ins (i + j) ≡ slice_get xs j) → AreTold k idx args xs
      → Loaded v.must p.infos v.meaning idx (loaded p.arrays ins v.at idx) i args
  all_loaded k ins idx i [] xs from each = tt
  all_loaded k ins idx i (Arg.Node n ∷ args) [] from each = absurd each
  all_loaded k ins idx i (Arg.Node n ∷ args) (a ∷ xs) from each =
      let head : slice_get ins i ≡ Some a = ap (slice_get ins) (let z : i ≡ i + 0 = omega arith in z) ∙ from 0 in
      let load : loaded p.arrays ins v.at idx i ≡ read_at idx a = ap (option_and_then (λ b. v.at b (back (grid_at p.arrays b).shape idx))) head in (
        subst (λ (o : Option ℤ). Told v.must o (read k idx n)) (sym load) each.0.0,
        (λ some. each.0.1 (sym load ∙ some)),
        all_loaded k ins idx (i + 1) args xs (λ j. ap (slice_get ins) (let s : i + 1 + j ≡ i + suc j = omega arith in s) ∙ from (suc j)) each.1,
      )
  all_loaded k ins idx i (Arg.Int x ∷ args) xs from each = all_loaded k ins idx i args xs from each
  all_loaded k ins idx i (Arg.Truth b ∷ args) xs from each = all_loaded k ins idx i args xs from each

-- ---- its laws

module _ (op : ElementOp) (args : List Arg) where
  abbrev form : Form
  form = Form.Elementwise op args

  module _ (laws : HaveLaws) (p : Site) (k : ℕ) where
    abbrev reads : List ℕ
    reads = aligned_places (copying p.options p.first) (array_places p.places args) (operands_of p.infos k form)

    abbrev out : ℕ
    out = p.first + length (all_made (aligned_steps (copying p.options p.first) (array_places p.places args) (operands_of p.infos k form)))

    abbrev own_step : List ℕ → ℕ → List Step
    own_step read next = only_step p.infos k (elementwise_op p.infos op args read next) (own_need p.options.reserved p.options.split_every p.infos k form)

    module _ (t : Dtype) (typed : IsElementwise op (map (argument_of p.infos) args) t (info_at p.infos k)) (s : StandsAt p k form) where
      reads_known : HaveEach p.arrays reads (wanted (info_at p.infos k) (arrays_in p.infos args))
      reads_known = read_known laws.operands (copying p.options p.first) (array_places p.places args) (operands_of p.infos k form) own_step p.arrays (sources_known p (info_at p.infos k) args s.known) s.made

      out_known : HasInfo p.arrays out (info_at p.infos k)
      out_known = (own_known laws.operands (copying p.options p.first) (array_places p.places args) (operands_of p.infos k form) own_step p.arrays (sources_known p (info_at p.infos k) args s.known) s.made).0

      aligned : All (λ a. IsAligned (grid_at p.arrays a) (grid_at p.arrays out)) reads
      aligned =
          let A : NodeInfo → Type 0 = λ i. IsAligned (aligned_grid (info_at p.infos k) i) (result_grid (info_at p.infos k)) in
          wanted_aligned p.arrays (info_at p.infos k) out reads (arrays_in p.infos args) out_known reads_known
          (subst (λ (is : List NodeInfo). All A is) (arrays_told p.infos args) (elementwise_map op (map (argument_of p.infos) args) t (info_at p.infos k) typed).aligned)

      -- the code of the node is the kernel of its function
      code_is : instructions_of op (map (argument_of p.infos) args) ≡ element_kernel op t (map (argument_of p.infos) args)
      code_is = ap (λ r. element_kernel op (type_or_bool r) (map (argument_of p.infos) args)) typed.shared

      fits : MapFits p.arrays (instructions_of op (map (argument_of p.infos) args)) reads out
      fits =
          let types : map (type_at p.arrays) reads ≡ types_of (arrays_of (map (argument_of p.infos) args)) = wanted_types p.arrays (info_at p.infos k) reads (arrays_in p.infos args) reads_known ∙ ap types_of (sym (arrays_told p.infos args)) in
          record {
            inputs = aligned;
            kernel =
                subst (λ (c : List Instr). KernelFits c (map (type_at p.arrays) reads) [] (type_at p.arrays out)) (sym code_is)
                (subst (λ (d : Dtype). KernelFits (element_kernel op t (map (argument_of p.infos) args)) (map (type_at p.arrays) reads) [] d) (sym out_known.dtype)
                (subst (λ (ts : List Dtype). KernelFits (element_kernel op t (map (argument_of p.infos) args)) ts [] (info_at p.infos k).dtype) (sym types) (elementwise_map op (map (argument_of p.infos) args) t (info_at p.infos k) typed).kernel));
          }

      projected : own_need p.options.reserved p.options.split_every p.infos k (Form.Elementwise op args) ≡ own_projection p.arrays p.options.reserved (elementwise_op p.infos op args reads out)
      projected =
          let r = info_at p.infos k in
          let is = arrays_in p.infos args in
          let rooms = wanted_rooms p.arrays r reads is reads_known in
          let result = room_of_known p.arrays out r out_known in
          let scratch = greatest_of p.arrays r out reads (map (aligned_bytes r) is) out_known rooms in
          let sums : sum_by (chunk_room p.arrays) reads ≡ sum_by (aligned_bytes r) is = sum_mapped (chunk_room p.arrays) reads ∙ ap (sum_by (λ n. n)) rooms ∙ sym (sum_mapped (aligned_bytes r) is) in
          let steps : length (instructions_of op (map (argument_of p.infos) args)) ≡ length args + own_instructions op =
          ap length code_is ∙ kernel_long op t (map (argument_of p.infos) args) ∙ ap (λ n. n + own_instructions op) (length-map args (argument_of p.infos)) in
          omega (arith, result, scratch, sums, steps)

      map_steps : AreSteps p.arrays p.options.reserved (array_places p.places args) p.first p.first (steps_at p k form)
      map_steps =
          behind_hold laws.operands (copying p.options p.first) (array_places p.places args) (operands_of p.infos k form) own_step p.arrays (sources_known p (info_at p.infos k) args s.known) s.made (s.fitting.1 p.first).operands
          (record { writes = refl; reads = given_all reads out out; fits = fits; need = projected; tasks = task_count p.arrays out (info_at p.infos k) out_known }, tt)

      function_told : (v : Contents) → Solves p v k form → (idx : List ℕ) → IsInside (shape_of_node p.infos k) idx
          → Told v.must (v.at (last_made p.first (steps_at p k form)) idx) (rule_of p.infos v.elements v.meaning k form idx)
      function_told v solves idx inside =
          let ins = array_places p.places args in
          let rs = operands_of p.infos k (Form.Elementwise op args) in
          let sources = sources_known p (info_at p.infos k) args s.known in
          let load = loaded p.arrays reads v.at idx in
          let same = read_same laws.operands (copying p.options p.first) ins rs own_step p.arrays sources s.made v.at solves.made in
          let each = arguments_told p v k out idx out_known inside args reads solves.arguments reads_known same
          aligned in
          let all = all_loaded p v k reads idx 0 args reads (λ i. ap (slice_get reads) (let z : 0 + i ≡ i = omega arith in z)) each in
          let told = kernel_told v.must p.infos v.meaning idx load op t args typed.accepted all in
          let rule : rule_of p.infos v.elements v.meaning k (Form.Elementwise op args) idx ≡ function_value op (result_type op t) (map (argument_at p.infos v.meaning idx) args) =
          ap (λ d. function_value op d (map (argument_at p.infos v.meaning idx) args)) typed.dtype in
          let value : v.at out idx ≡ kernel_value (element_kernel op t (map (argument_of p.infos) args)) load =
          own_solved laws.operands (copying p.options p.first) ins rs own_step p.arrays sources s.made v.at solves.made
          (record { op = elementwise_op p.infos op args reads out; values = None; made = info_at p.infos k; need = own_need p.options.reserved p.options.split_every p.infos k (Form.Elementwise op args) }) out idx (0, omega arith, refl) (0, omega arith, refl)
          ∙ ap (λ (c : List Instr). kernel_value c load) code_is in
          let last : last_made p.first (steps_at p k form) ≡ out =
          (let l = behind_last laws.operands (copying p.options p.first) ins rs own_step (omega arith) in omega (arith, l)) in
          subst (λ (a : ℕ). Told v.must (v.at a idx) (rule_of p.infos v.elements v.meaning k (Form.Elementwise op args) idx)) (sym last)
          (subst (λ (x : ℤ). Told v.must (v.at out idx) x) (sym rule)
          (subst (λ (o : Option ℤ). Told v.must o (function_value op (result_type op t) (map (argument_at p.infos v.meaning idx) args))) (sym value) told))

  pub function_laws : Laws form
  function_laws = record {
    typed = λ inputs infos k typed. (map (argument_of infos) args, arrays_told infos args, typed);
    fitting = λ e inputs infos options k n copies made.
        let t = passed op (map (argument_of infos) args) (info_at infos k) n.typed in (
          some_ok _ t.0 t.1.shared,
          (λ first. record {
            rechunks = copies.operands;
            operands = record { staged = copies.staged first };
            few =
                let three = three_arguments op args n.args in
                let some = some_arrays infos args in
                let long = length-map (arrays_in infos args) (in_aligned (info_at infos k)) in
                omega (arith, three, some, long);
          }),
        );
    copies = λ infos options k fits. fits.1;
    own = λ laws p inputs k n made fits room.
        operands_own laws p.infos p.options p.e.out k form (array_places p.places args) p.first (own_step laws p k) (fits.1 p.first)
        (some_places p.infos p.places args ∙ sym (length-map (arrays_in p.infos args) (in_aligned (info_at p.infos k)))) refl
        (only_computed p.infos p.options.reserved k (function_bytes (info_at p.infos k) (length args + own_instructions op) (arrays_in p.infos args)) (own_need p.options.reserved p.options.split_every p.infos k form)
        (elementwise_op p.infos op args (reads laws p k) (out laws p k)) (info_kept p.infos k n.kept) refl refl);
    steps = λ laws p inputs k n s. let t = passed op (map (argument_of p.infos) args) (info_at p.infos k) n.typed in map_steps laws p k t.0 t.1 s;
    told = λ laws p c inputs k n s solves. let t = passed op (map (argument_of p.infos) args) (info_at p.infos k) n.typed in function_told laws p k t.0 t.1 s c solves;
  }
