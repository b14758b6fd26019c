-- A kernel that fits gives numbers of its type.
use Rattle.cu_num.proofs.Promoted.{first_in_range, second_in_range}
use Rattle.cu_num.proofs.ScalarRange.{InRange-op1, InRange-op2}
use Rattle.cu_num.specs.Dtype.{InRange}
use Rattle.cu_num.specs.Scalar.{op1, op2, result_type1, result_type2}
use Rattle.cu_num.specs.declared.types.Dtype.{Dtype}
use Rattle.cu_op.proofs.PairRanges.{some_map, some_then}
use Rattle.cu_op.specs.Kernel.{kernel_value, selected, last_of, instruction_value, results_from}
use Rattle.cu_op.specs.KernelTypes.{Operand, Typed, Literal, HaveType, GivesOperand, KernelFits, LoadsTypes}
use Rattle.cu_op.specs.declared.kernel.Instr.{Instr}
use Rattle.cu_op.specs.declared.kernel.Instr.TheVariants.{Load, Const, Two, Select, One}
use Rattle.std.proofs.Common.{◌≡◌, ℕ, ℤ, pos, zero, suc, true, false, List, [], ◌∷◌, ◌++◌, length, Option, Some, refl, ap, sym, subst, ◌-◌, if◌then◌else◌, option_map}
use Rattle.std.proofs.lemmas.Option.{same_Some}
use Rattle.std.specs.List.{slice_get, AllZip}
use Rattle.std.specs.Option.{option_and_then}
use Rattle.std.specs.Ordering.{int_eq}

-- a number is one that an instruction gives
abbrev Has : Operand → ℤ → Type 0
Has (Typed t) x = InRange t x
Has (Literal y) x = x ≡ y

has_at : (rs : List Operand) (xs : List ℤ) (k : ℕ) (r : Operand) (x : ℤ) → AllZip Has rs xs → slice_get rs k ≡ Some r → slice_get xs k ≡ Some x → Has r x
has_at [] xs k r x z er ex = cc
has_at (s ∷ rs) [] k r x z er ex = cc
has_at (s ∷ rs) (y ∷ xs) zero r x z er ex = let e : s ≡ r = same_Some s r er in let f : y ≡ x = same_Some y x ex in subst (λ (q : Operand). Has q x) e (subst (λ (v : ℤ). Has s v) f z.0)
has_at (s ∷ rs) (y ∷ xs) (suc k) r x z er ex = has_at rs xs k r x z.1 er ex

has_push : (rs : List Operand) (xs : List ℤ) (r : Operand) (x : ℤ) → AllZip Has rs xs → Has r x → AllZip Has (rs ++ r ∷ []) (xs ++ x ∷ [])
has_push [] [] r x z h = (h, tt)
has_push (s ∷ rs) (y ∷ xs) r x z h = (z.0, has_push rs xs r x z.1 h)
has_push rs xs r x z h = absurd z

-- of two arguments that have a type together, each number is one of the type
joint_left : (a b : Operand) (t : Dtype) (x : ℤ) → HaveType a b t → Has a x → InRange t x
joint_left (Typed a) (Typed b) t x h k = first_in_range a b t h x k
joint_left (Typed a) (Literal y) t x h k = subst (λ (d : Dtype). InRange d x) h.0 k
joint_left (Literal y) (Typed b) t x h k = subst (InRange t) (sym k) h.1
joint_left (Literal y) (Literal z) t x h k = absurd h

joint_right : (a b : Operand) (t : Dtype) (x : ℤ) → HaveType a b t → Has b x → InRange t x
joint_right (Typed a) (Typed b) t x h k = second_in_range a b t h x k
joint_right (Typed a) (Literal y) t x h k = subst (InRange t) (sym k) h.1
joint_right (Literal y) (Typed b) t x h k = subst (λ (d : Dtype). InRange d x) h.0 k
joint_right (Literal y) (Literal z) t x h k = absurd h

selected_range : (t : Dtype) (s x y : ℤ) → InRange t x → InRange t y → InRange t (selected s x y)
selected_range t s x y hx hy = elim (int_eq s (pos 1)) as (λ b. InRange t (if b then x else y)) [ true ↦ hx | false ↦ hy ]

instruction_range : (i : Instr) (types : List Dtype) (rs : List Operand) (r : Operand) (load : ℕ → Option ℤ) (xs : List ℤ) (v : ℤ)
    → GivesOperand i types rs r → LoadsTypes types load → AllZip Has rs xs → instruction_value i load xs ≡ Some v → Has r v
instruction_range (Load k) types rs r load xs v (t, et, er) loads z e = subst (λ (o : Operand). Has o v) (sym er) (loads k t v et e)
instruction_range (Const x) types rs r load xs v er loads z e = subst (λ (o : Operand). Has o v) (sym er) (sym (same_Some x v e))
instruction_range (One f t a) types rs r load xs v (d, ea, arg, acc, er) loads z e =
    let m = some_map (op1 f t) (slice_get xs a) v e in
    subst (λ (o : Operand). Has o v) (sym er) (subst (InRange (result_type1 f t)) m.2 (InRange-op1 f t m.0))
instruction_range (Two f t a b) types rs r load xs v (x, y, ea, eb, have, acc, er) loads z e =
    let m = some_then (λ u. option_map (op2 f t u) (slice_get xs b)) (slice_get xs a) v e in
    let n = some_map (op2 f t m.0) (slice_get xs b) v m.2 in
    subst (λ (o : Operand). Has o v) (sym er) (subst (InRange (result_type2 f t)) n.2 (InRange-op2 f t m.0 n.0))
instruction_range (Select c a b) types rs r load xs v (x, y, t, ec, ea, eb, have, er) loads z e =
    let l = some_then (λ s. option_and_then (λ u. option_map (selected s u) (slice_get xs b)) (slice_get xs a)) (slice_get xs c) v e in
    let m = some_then (λ u. option_map (selected l.0 u) (slice_get xs b)) (slice_get xs a) v l.2 in
    let n = some_map (selected l.0 m.0) (slice_get xs b) v m.2 in
    let left = joint_left x y t m.0 have (has_at rs xs a x m.0 z ea m.1) in
    let right = joint_right x y t n.0 have (has_at rs xs b y n.0 z eb n.1) in
    subst (λ (o : Operand). Has o v) (sym er) (subst (InRange t) n.2 (selected_range t l.0 m.0 n.0 left right))

results_range : (code : List Instr) (types : List Dtype) (rs : List Operand) (t : Dtype) (load : ℕ → Option ℤ) (xs ys : List ℤ) (v : ℤ)
    → KernelFits code types rs t → LoadsTypes types load → AllZip Has rs xs → results_from code load xs ≡ Some ys → last_of ys ≡ Some v → InRange t v
results_range [] types rs t load xs ys v fits loads z e l =
    let same : xs ≡ ys = same_Some xs ys e in
    let n : length rs ≡ length xs = length_has rs xs z in
    has_at rs xs (length xs - 1) (Typed t) v z (subst (λ (m : ℕ). slice_get rs (m - 1) ≡ Some (Typed t)) n fits) (subst (λ (zs : List ℤ). last_of zs ≡ Some v) (sym same) l)
  where
    length_has : (rs : List Operand) (xs : List ℤ) → AllZip Has rs xs → length rs ≡ length xs
    length_has [] [] z = refl
    length_has (r ∷ rs) (x ∷ xs) z = ap suc (length_has rs xs z.1)
    length_has rs xs z = absurd z
results_range (i ∷ is) types rs t load xs ys v (r, gives, fits) loads z e l =
    let m = some_then (λ x. results_from is load (xs ++ x ∷ [])) (instruction_value i load xs) ys e in
    let here = instruction_range i types rs r load xs m.0 gives loads z m.1 in
    results_range is types (rs ++ r ∷ []) t load (xs ++ m.0 ∷ []) ys v fits loads (has_push rs xs r m.0 z here) m.2 l

-- a kernel that fits gives numbers of its type
pub kernel_range : (code : List Instr) (types : List Dtype) (t : Dtype) (load : ℕ → Option ℤ) (v : ℤ)
    → KernelFits code types [] t → LoadsTypes types load → kernel_value code load ≡ Some v → InRange t v
kernel_range code types t load v fits loads e =
    let m = some_then last_of (results_from code load []) v e in
    results_range code types [] t load [] m.0 v fits loads tt m.1 m.2
