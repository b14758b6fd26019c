-- The kernel of an elementwise node gives the function of its arguments' elements.
use Rattle.std.proofs.Common.{◌≡◌, ◌⊎◌, inl, inr, ℕ, zero, suc, ◌+◌, ℤ, pos, negsuc, ◌≤ℤ◌, Bool, true, false, List, [], ◌∷◌, ◌++◌, map, Option, None, Some, refl, ap, sym, ◌∙◌, subst, arith, if◌then◌else◌}
use Rattle.std.specs.Prelude.{int_le, option_and_then}
use Rattle.std.specs.Int.{int_min, int_max}
use Rattle.std.proofs.lemmas.Int.{ints, int_min_is, int_max_is}
use Rattle.std.proofs.lemmas.List.{append-nil, append_assoc}
use Rattle.cu_num.specs.Dtype.{InRange}
use Rattle.cu_num.specs.Scalar.{op2, truth_number, is_nonzero}
use Rattle.cu_num.proofs.ScalarRange.{op1-result_type1, op2-result_type2}
use Rattle.cu_num.proofs.TypeTests.{bool-is_bool}
use Rattle.cu_num.specs.declared.functions.Fn2.TheVariants.{LessEqual, GreaterEqual}
use Rattle.cu_num.specs.declared.types.Dtype.{Dtype}
use Rattle.cu_num.specs.declared.types.Dtype.TheVariants as types
use Rattle.cu_shape.specs.Index.{back}
use Rattle.cu_op.specs.Kernel.{selected, last_of, results_from, kernel_value}
use Rattle.cu_op.specs.declared.kernel.Instr.{Instr}
use Rattle.cu_form.specs.declared.args.Arg.{Arg}
use Rattle.cu_node.specs.declared.element_op.ElementOp.{ElementOp}
use Rattle.cu_node.specs.Info.{info_at}
use Rattle.cu_node.specs.declared.info.NodeInfo.{NodeInfo}
use Rattle.cu_semantics.specs.Argument.{NodeElements, shape_of_node, argument_at}
use Rattle.cu_semantics.specs.Rule.{function_value}
use Rattle.cu_expr.specs.Kernel.{loads_from, function_of, element_kernel}
use Rattle.cu_typing.specs.Types.{accepts_arguments, result_type}
use Rattle.cu_expr.specs.Typing.{argument_of}

-- The value is this; where nothing has to have a value, there may be none.
abbrev pub Told : {T : Type 0} → Bool → Option T → T → Type 0
Told must o x = (o ≡ Some x) ⊎ ((must ≡ false) × (o ≡ None))

-- a truth value is 1 where it isn't 0
same_choice : (s x y : ℤ) → InRange types.Bool s → selected s x y ≡ (if is_nonzero s then x else y)
same_choice (pos zero) x y h = refl
same_choice (pos (suc zero)) x y h = refl
same_choice (pos (suc (suc n))) x y h = let w : pos (suc (suc n)) ≤ℤ pos 1 = h.1 in absurd (omega (arith, ints))
same_choice (negsuc n) x y h = let w : pos 0 ≤ℤ negsuc n = h.0 in absurd (omega (arith, ints))

-- ---- the lesser and the greater by a test and a choice

chosen : (b : Bool) (x y : ℤ) → selected (truth_number b) x y ≡ (if b then x else y)
chosen true x y = refl
chosen false x y = refl

greater_by : (b : Bool) (x y : ℤ) → int_le y x ≡ b → (if b then x else y) ≡ int_max x y
greater_by true x y e = grind (arith, ints, int_max_is x y)
greater_by false x y e = grind (arith, ints, int_max_is x y)

lesser_by : (b : Bool) (x y : ℤ) → int_le x y ≡ b → (if b then x else y) ≡ int_min x y
lesser_by true x y e = grind (arith, ints, int_min_is x y)
lesser_by false x y e = grind (arith, ints, int_min_is x y)

greater_chosen : (x y : ℤ) → selected (op2 GreaterEqual types.Bool x y) x y ≡ int_max x y
greater_chosen x y = chosen (int_le y x) x y ∙ greater_by (int_le y x) x y refl

lesser_chosen : (x y : ℤ) → selected (op2 LessEqual types.Bool x y) x y ≡ int_min x y
lesser_chosen x y = chosen (int_le x y) x y ∙ lesser_by (int_le x y) x y refl

greater_turned : (x y : ℤ) → int_max x y ≡ int_max y x
greater_turned x y = omega (arith, ints, int_max_is x y, int_max_is y x)

lesser_turned : (x y : ℤ) → int_min x y ≡ int_min y x
lesser_turned x y = omega (arith, ints, int_min_is x y, int_min_is y x)

-- of two bounds the upper comes last
bounds_chosen : (min max x : ℤ)
    → selected (truth_number (int_le (selected (truth_number (int_le min x)) x min) max)) (selected (truth_number (int_le min x)) x min) max
    ≡ int_min max (int_max min x)
bounds_chosen min max x =
    ap (λ m. selected (truth_number (int_le m max)) m max) (greater_chosen x min ∙ greater_turned x min)
    ∙ lesser_chosen (int_max min x) max ∙ lesser_turned (int_max min x) max

-- `at` are the elements of the nodes, and `load` those that a kernel loads
module _ (must : Bool) (infos : List NodeInfo) (at : NodeElements) (idx : List ℕ) (load : ℕ → Option ℤ) where
  -- the element of a node that is read at the index
  abbrev read : ℕ → ℤ
  read n = at n (back (shape_of_node infos n) idx)

  abbrev IsRead : ℕ → Type 0
  IsRead n = InRange (info_at infos n).dtype (read n)

  -- each argument that is an array is loaded, the first of them by the number k
  abbrev pub Loaded : ℕ → List Arg → Type 0
  Loaded k [] = Unit {0}
  Loaded k (Arg.Node n ∷ args) = Told must (load k) (read n) × (load k ≡ Some (read n) → IsRead n) × Loaded (k + 1) args
  Loaded k (Arg.Int x ∷ args) = Loaded k args
  Loaded k (Arg.Truth b ∷ args) = Loaded k args

  -- each is a number of its type
  abbrev AreRead : List Arg → Type 0
  AreRead [] = Unit {0}
  AreRead (Arg.Node n ∷ args) = IsRead n × AreRead args
  AreRead (Arg.Int x ∷ args) = AreRead args
  AreRead (Arg.Truth b ∷ args) = AreRead args

  abbrev values : List Arg → List ℤ
  values args = map (argument_at infos at idx) args

  -- the steps of the arguments, and then others
  abbrev Run : ℕ → List Arg → List Instr → List ℤ → Type 0
  Run k args rest results =
      ((results_from (loads_from k (map (argument_of infos) args) ++ rest) load results ≡ results_from rest load (results ++ values args)) × AreRead args)
      ⊎ ((must ≡ false) × (results_from (loads_from k (map (argument_of infos) args) ++ rest) load results ≡ None))

  -- one more result in front
  behind : (rest : List Instr) (results : List ℤ) (x : ℤ) (args : List Arg) → results_from rest load ((results ++ x ∷ []) ++ values args) ≡ results_from rest load (results ++ x ∷ values args)
  behind rest results x args = ap (results_from rest load) (append_assoc results (x ∷ []) (values args))

  run : (k : ℕ) (args : List Arg) (rest : List Instr) (results : List ℤ) → Loaded k args → Run k args rest results
  run k [] rest results l = inl (ap (results_from rest load) (sym (append-nil results)), tt)
  run k (Arg.Node n ∷ args) rest results (inr none, range, l) =
      inr (none.0, ap (λ o. option_and_then (λ x. results_from (loads_from (k + 1) (map (argument_of infos) args) ++ rest) load (results ++ x ∷ [])) o) none.1)
  run k (Arg.Node n ∷ args) rest results (inl some, range, l) =
      let first : results_from (loads_from k (map (argument_of infos) (Arg.Node n ∷ args)) ++ rest) load results ≡ results_from (loads_from (k + 1) (map (argument_of infos) args) ++ rest) load (results ++ read n ∷ [])
      = ap (λ o. option_and_then (λ x. results_from (loads_from (k + 1) (map (argument_of infos) args) ++ rest) load (results ++ x ∷ [])) o) some in
      elim (run (k + 1) args rest (results ++ read n ∷ []) l) [
        | inl all ↦ inl (first ∙ all.0 ∙ behind rest results (read n) args, (range some, all.1))
        | inr none ↦ inr (none.0, first ∙ none.1)
      ]
  run k (Arg.Int x ∷ args) rest results l =
      elim (run k args rest (results ++ x ∷ []) l) [
        | inl all ↦ inl (all.0 ∙ behind rest results x args, all.1)
        | inr none ↦ inr none
      ]
  run k (Arg.Truth true ∷ args) rest results l =
      elim (run k args rest (results ++ pos 1 ∷ []) l) [
        | inl all ↦ inl (all.0 ∙ behind rest results (pos 1) args, all.1)
        | inr none ↦ inr none
      ]
  run k (Arg.Truth false ∷ args) rest results l =
      elim (run k args rest (results ++ pos 0 ∷ []) l) [
        | inl all ↦ inl (all.0 ∙ behind rest results (pos 0) args, all.1)
        | inr none ↦ inr none
      ]

  -- the function of the arguments' elements
  applied : (op : ElementOp) (t : Dtype) (args : List Arg) → accepts_arguments op (map (argument_of infos) args) ≡ true → AreRead args
      → option_and_then last_of (results_from (function_of op t) load (values args)) ≡ Some (function_value op (result_type op t) (values args))
  applied (ElementOp.One f) t [] accepted are = cc
  applied (ElementOp.One f) t (x ∷ []) accepted are = ap Some (op1-result_type1 f t (argument_at infos at idx x))
  applied (ElementOp.One f) t (x ∷ y ∷ zs) accepted are = cc
  applied (ElementOp.Two f) t [] accepted are = cc
  applied (ElementOp.Two f) t (x ∷ []) accepted are = cc
  applied (ElementOp.Two f) t (x ∷ y ∷ []) accepted are = ap Some (op2-result_type2 f t (argument_at infos at idx x) (argument_at infos at idx y))
  applied (ElementOp.Two f) t (x ∷ y ∷ z ∷ zs) accepted are = cc
  applied ElementOp.Where t [] accepted are = cc
  applied ElementOp.Where t (c ∷ []) accepted are = cc
  applied ElementOp.Where t (c ∷ x ∷ []) accepted are = cc
  applied ElementOp.Where t (Arg.Node n ∷ x ∷ y ∷ []) accepted are =
      let truth : InRange types.Bool (read n) = subst (λ (d : Dtype). InRange d (read n)) (bool-is_bool (info_at infos n).dtype accepted) are.0 in
      ap Some (same_choice (read n) (argument_at infos at idx x) (argument_at infos at idx y) truth)
  applied ElementOp.Where t (Arg.Int c ∷ x ∷ y ∷ []) accepted are = cc
  applied ElementOp.Where t (Arg.Truth c ∷ x ∷ y ∷ []) accepted are = cc
  applied ElementOp.Where t (c ∷ x ∷ y ∷ z ∷ zs) accepted are = cc
  applied (ElementOp.Astype d) t [] accepted are = cc
  applied (ElementOp.Astype d) t (x ∷ []) accepted are = refl
  applied (ElementOp.Astype d) t (x ∷ y ∷ zs) accepted are = cc
  applied (ElementOp.Extreme least) t [] accepted are = cc
  applied (ElementOp.Extreme least) t (x ∷ []) accepted are = cc
  applied (ElementOp.Extreme true) t (x ∷ y ∷ []) accepted are =
      ap Some (lesser_chosen (argument_at infos at idx x) (argument_at infos at idx y))
  applied (ElementOp.Extreme false) t (x ∷ y ∷ []) accepted are =
      ap Some (greater_chosen (argument_at infos at idx x) (argument_at infos at idx y))
  applied (ElementOp.Extreme least) t (x ∷ y ∷ z ∷ zs) accepted are = cc
  applied (ElementOp.Clip min max) t [] accepted are = cc
  applied (ElementOp.Clip min max) t (x ∷ []) accepted are = ap Some (bounds_chosen min max (argument_at infos at idx x))
  applied (ElementOp.Clip min max) t (x ∷ y ∷ zs) accepted are = cc

  -- the whole kernel
  pub kernel_told : (op : ElementOp) (t : Dtype) (args : List Arg) → accepts_arguments op (map (argument_of infos) args) ≡ true → Loaded 0 args
      → Told must (kernel_value (element_kernel op t (map (argument_of infos) args)) load) (function_value op (result_type op t) (values args))
  kernel_told op t args accepted l =
      elim (run 0 args (function_of op t) [] l) [
        | inl all ↦ inl (ap (option_and_then last_of) all.0 ∙ applied op t args accepted all.1)
        | inr none ↦ inr (none.0, ap (option_and_then last_of) none.1)
      ]
