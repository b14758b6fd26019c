-- A kernel without its last step, where this converts what the step before it gives.
use Rattle.std.proofs.Common.{◌≡◌, ◌+◌, ◌-◌, ℕ, ℤ, List, [], ◌∷◌, ◌++◌, length, take, get_or, Option, None, Some, option_map, refl, sym, ap, ◌∙◌, subst, arith, length-append}
use Rattle.std.specs.Option.{option_and_then}
use Rattle.std.specs.List.{slice_get}
use Rattle.std.proofs.lemmas.List.{length-take-le, take_all, take_more}
use Rattle.cu_num.proofs.Wrapped.{wrapped_in_range}
use Rattle.cu_fold.specs.Strips.{HasFoldedTo}
use Rattle.cu_fold.specs.declared.types.RegionFold.{RegionFold}
use Rattle.cu_num.specs.Dtype.{InRange}
use Rattle.cu_num.specs.Scalar.{op1, result_type1}
use Rattle.cu_num.specs.declared.functions.Fn1.{Fn1}
use Rattle.cu_num.specs.declared.functions.Fn1.TheVariants.{Astype}
use Rattle.cu_num.specs.declared.types.Dtype.{Dtype}
use Rattle.cu_op.specs.Kernel.{instruction_value, kernel_value, last_of, results_from}
use Rattle.cu_op.specs.KernelTypes.{KernelFits, Operand, Typed}
use Rattle.cu_op.specs.declared.kernel.Instr.{Instr}
use Rattle.cu_op.specs.declared.kernel.Instr.TheVariants.{One}
use Rattle.cu_task.specs.Strips.{GivesSame, GivesType, IsConversion, IsHeldBy, IsNumberOf}

behind : {T : Type 0} (xs : List T) (x : T) → slice_get (xs ++ x ∷ []) (length xs) ≡ Some x
behind [] x = refl
behind (y ∷ xs) x = behind xs x

last_pushed : {T : Type 0} (xs : List T) (x : T) → last_of (xs ++ x ∷ []) ≡ Some x
last_pushed xs x =
    let long = length-append xs (x ∷ []) in
    let at : length (xs ++ x ∷ []) - 1 ≡ length xs = omega (arith, long) in
    ap (slice_get (xs ++ x ∷ [])) at ∙ behind xs x

-- ---- the value

one_more : (results : List ℤ) (g : ℤ → ℤ) (o : Option ℤ) → option_and_then last_of (option_and_then (λ x. Some (results ++ x ∷ [])) (option_map g o)) ≡ option_map g o
one_more results g None = refl
one_more results g (Some x) = last_pushed results (g x)

-- a last step that reads the step before it gives its function of the value of the steps before it
last_value : (xs : List Instr) (f : Fn1) (t : Dtype) (a : ℕ) (load : ℕ → Option ℤ) (results : List ℤ) → a ≡ length results + length xs - 1
    → option_and_then last_of (results_from (xs ++ One f t a ∷ []) load results) ≡ option_map (op1 f t) (option_and_then last_of (results_from xs load results))
last_value [] f t a load results e =
    let same : a ≡ length results - 1 = omega arith in
    one_more results (op1 f t) (slice_get results a) ∙ ap (λ n. option_map (op1 f t) (slice_get results n)) same
last_value (i ∷ xs) f t a load results e =
    each (instruction_value i load results)
    (λ x. last_value xs f t a load (results ++ x ∷ []) (let long = length-append results (x ∷ []) in omega arith))
  where
    each : (o : Option ℤ)
        → ((x : ℤ) → option_and_then last_of (results_from (xs ++ One f t a ∷ []) load (results ++ x ∷ [])) ≡ option_map (op1 f t) (option_and_then last_of (results_from xs load (results ++ x ∷ []))))
        → option_and_then last_of (option_and_then (λ x. results_from (xs ++ One f t a ∷ []) load (results ++ x ∷ [])) o)
        ≡ option_map (op1 f t) (option_and_then last_of (option_and_then (λ x. results_from xs load (results ++ x ∷ [])) o))
    each None rest = refl
    each (Some x) rest = rest x

-- ---- the types

typed_same : (a b : Dtype) → Typed a ≡ Typed b → a ≡ b
typed_same a b e = cc

last_is : (operands : List Operand) (r : Operand) (t : Dtype) → last_of (operands ++ r ∷ []) ≡ Some (Typed t) → r ≡ Typed t
last_is operands r t e = let last = last_pushed operands r in cc

-- the steps before such a last step fit, and the whole has the type of its function
front_fits : (xs : List Instr) (f : Fn1) (t : Dtype) (a : ℕ) (types : List Dtype) (operands : List Operand) (u : Dtype) → a ≡ length operands + length xs - 1
    → KernelFits (xs ++ One f t a ∷ []) types operands u → (d : Dtype) × KernelFits xs types operands d × (result_type1 f t ≡ u)
front_fits [] f t a types operands u e (r, (d, at, argument, accepts, own), last) =
    let same : a ≡ length operands - 1 = omega arith in
    (d, subst (λ (n : ℕ). slice_get operands n ≡ Some (Typed d)) same at, typed_same (result_type1 f t) u (sym own ∙ last_is operands r u last))
front_fits (i ∷ xs) f t a types operands u e (r, gives, rest) =
    let (d, fits, is) = front_fits xs f t a types (operands ++ r ∷ []) u (let long = length-append operands (r ∷ []) in omega arith) rest in
    (d, (r, gives, fits), is)

-- a kernel has the type of its last step
last_type : (xs : List Instr) (i : Instr) (types : List Dtype) (operands : List Operand) (own d : Dtype) → GivesType i types own → KernelFits (xs ++ i ∷ []) types operands d → d ≡ own
last_type [] i types operands own d given (r, gives, last) = typed_same d own (sym (last_is operands r d last) ∙ given operands r gives)
last_type (j ∷ xs) i types operands own d given (r, gives, rest) = last_type xs i types (operands ++ r ∷ []) own d given rest

-- ---- the kernel without a last conversion

converts : (xs : List Instr) (i : Instr) (types : List Dtype) (u t own : Dtype) (a : ℕ) → a ≡ length xs → GivesType i types own → IsHeldBy own t
    → KernelFits ((xs ++ i ∷ []) ++ One Astype u a ∷ []) types [] t → GivesSame ((xs ++ i ∷ []) ++ One Astype u a ∷ []) types t (xs ++ i ∷ []) own
converts xs i types u t own a e given held fits =
    let long = length-append xs (i ∷ []) in
    let (d, front, is) = front_fits (xs ++ i ∷ []) Astype u a types [] t (omega arith) fits in
    record {
      fits = subst (KernelFits (xs ++ i ∷ []) types []) (last_type xs i types [] own d given front) front;
      same = λ load x inside value.
          last_value (xs ++ i ∷ []) Astype u a load [] (omega arith)
          ∙ ap (option_map (op1 Astype u)) value
          ∙ ap Some (wrapped_in_range u x (subst (λ (v : Dtype). InRange v x) (sym is) (held.numbers x inside)));
      held = held;
      steps = (let all = length-append (xs ++ i ∷ []) (One Astype u a ∷ []) in omega arith);
    }

conversion_is : (i : Instr) (step : ℕ) → IsConversion i step → (u : Dtype) × (i ≡ One Astype u step)
conversion_is (One Astype u a) step is = (u, ap (One Astype u) is)
conversion_is i step is = absurd is

pub unconverted_same : (code : List Instr) (types : List Dtype) (t own : Dtype) (d : Instr) (n a : ℕ) → length code ≡ n + 2 → IsConversion (get_or code (n + 1) d) a → a ≡ n
    → GivesType (get_or code n d) types own → IsHeldBy own t → KernelFits code types [] t → GivesSame code types t (take (n + 1) code) own
unconverted_same code types t own d n a long conversion e given held fits =
    let i = get_or code n d in
    let (u, last) = conversion_is (get_or code (n + 1) d) a conversion in
    let front : take (n + 1) code ≡ take n code ++ get_or code n d ∷ [] = take_more code n d (omega arith) in
    let all : code ≡ (take n code ++ get_or code n d ∷ []) ++ One Astype u a ∷ [] =
    sym (take_all (n + 1 + 1) code (omega arith)) ∙ take_more code (n + 1) d (omega arith) ∙ ap (λ j. take (n + 1) code ++ j ∷ []) last ∙ ap (λ xs. xs ++ One Astype u a ∷ []) front in
    let same = converts (take n code) i types u t own a (e ∙ sym (length-take-le n code (omega arith))) given held (subst (λ (is : List Instr). KernelFits is types [] t) all fits) in
    subst (λ (is : List Instr). GivesSame is types t (take (n + 1) code) own) (sym all)
    (subst (λ (is : List Instr). GivesSame ((take n code ++ get_or code n d ∷ []) ++ One Astype u a ∷ []) types t is own) (sym front) same)

-- ---- a fold of its numbers

module _ (code other : List Instr) (types : List Dtype) (t own : Dtype) (load : ℕ → Option ℤ) (gives : GivesSame code types t other own) where
  number_from : (o : Option ℤ) → kernel_value other load ≡ o → IsNumberOf own o → IsNumberOf t (kernel_value code load)
  number_from None e is = absurd is
  number_from (Some x) e is = subst (IsNumberOf t) (sym (gives.same load x is e)) (gives.held.numbers x is)

  pub number_kept : IsNumberOf own (kernel_value other load) → IsNumberOf t (kernel_value code load)
  number_kept is = number_from (kernel_value other load) refl is

  value_from : (y : ℤ) (o : Option ℤ) → kernel_value other load ≡ o → IsNumberOf own o → kernel_value code load ≡ Some y → o ≡ Some y
  value_from y None e is whole = absurd is
  value_from y (Some x) e is whole = sym (gives.same load x is e) ∙ whole

  pub value_kept : (y : ℤ) → IsNumberOf own (kernel_value other load) → kernel_value code load ≡ Some y → kernel_value other load ≡ Some y
  value_kept y is whole = value_from y (kernel_value other load) refl is whole

-- a fold of numbers of one type is one of numbers of each type that holds them
pub folded_kept : (fold : RegionFold) (own : Dtype) (at : ℕ → ℤ) (n : ℕ) (out : List ℕ) → IsHeldBy own fold.from
    → HasFoldedTo (record { kind = fold.kind; from = own; acc = fold.acc; dims = fold.dims; axes = fold.axes }) at n out → HasFoldedTo fold at n out
folded_kept fold own at n out held has = record { range = λ p below. held.numbers (at p) (has.range p below); numbers = has.numbers }
