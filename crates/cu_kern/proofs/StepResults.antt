-- What one step of a kernel leaves at a place.
use Rattle.std.proofs.Common.{◌≡◌, ℕ, zero, suc, ◌+◌, ◌*◌, ◌==◌, if◌then◌else◌, List, [], ◌∷◌, ◌++◌, length, get_or, Option, Some, refl, ap, sym, ◌∙◌, subst, arith, ℤ}
use Rattle.std.specs.List.{slice_get, AllZip}
use Rattle.std.specs.Option.{option_map, option_and_then}
use Rattle.std.proofs.lemmas.Option.{same_Some, slice_get_within, slice_get-map}
use Rattle.cu_num.specs.Dtype.{InRange}
use Rattle.cu_num.specs.Scalar.{op1, op2, result_type1, result_type2}
use Rattle.cu_num.specs.Word.{word_of, IsWord}
use Rattle.cu_num.proofs.Promoted.{first_in_range, second_in_range}
use Rattle.cu_num.specs.declared.types.Dtype.{Dtype}
use Rattle.cu_num.specs.declared.types.Dtype.TheVariants.{Bool}
use Rattle.cu_num.specs.declared.functions.Fn1.{Fn1}
use Rattle.cu_num.specs.declared.functions.Fn2.{Fn2}
use Rattle.cu_op.specs.declared.kernel.Instr.{Instr}
use Rattle.cu_op.specs.declared.kernel.Instr.TheVariants.{Load, Const, One, Two, Select}
use Rattle.cu_op.specs.Kernel.{selected, instruction_value}
use Rattle.cu_op.specs.KernelTypes.{Operand, Typed, Literal, HaveType, GivesOperand}
use Rattle.cu_kern.specs.declared.lays.Lay.{Lay}
use Rattle.cu_kern.specs.Lays.{lay_types, lay_element, loaded_at}
use Rattle.cu_kern.specs.Steps.{HasRow, NamesBefore, IsOf, HoldsResults, StepHolds}
use Rattle.cu_lane.proofs.Words.{is_word, word_is, word_range, Place1, Place2}
use Rattle.cu_kern.proofs.LaneWords.{taken_as, place_selected}

-- ---- operands and results

-- a result that stands beside an operand
result_of : (rs : List Operand) (xs : List ℤ) (k : ℕ) (r : Operand) → AllZip IsOf rs xs → slice_get rs k ≡ Some r → (x : ℤ) × (slice_get xs k ≡ Some x) × IsOf r x
result_of [] xs k r z e = cc
result_of (s ∷ rs) [] k r z e = absurd z
result_of (s ∷ rs) (y ∷ xs) zero r z e = (y, refl, subst (λ (q : Operand). IsOf q y) (same_Some s r e) z.0)
result_of (s ∷ rs) (y ∷ xs) (suc k) r z e = result_of rs xs k r z.1 e

pub of_push : (rs : List Operand) (xs : List ℤ) (r : Operand) (x : ℤ) → AllZip IsOf rs xs → IsOf r x → AllZip IsOf (rs ++ r ∷ []) (xs ++ x ∷ [])
of_push [] [] r x z h = (h, tt)
of_push [] (y ∷ xs) r x z h = absurd z
of_push (s ∷ rs) [] r x z h = absurd z
of_push (s ∷ rs) (y ∷ xs) r x z h = (z.0, of_push rs xs r x z.1 h)

pub of_length : (rs : List Operand) (xs : List ℤ) → AllZip IsOf rs xs → length rs ≡ length xs
of_length [] [] z = refl
of_length [] (x ∷ xs) z = absurd z
of_length (r ∷ rs) [] z = absurd z
of_length (r ∷ rs) (x ∷ xs) z = ap suc (of_length rs xs z.1)

pub of_last : (rs : List Operand) (xs : List ℤ) (k : ℕ) (t : Dtype) → AllZip IsOf rs xs → slice_get rs k ≡ Some (Typed t) → (x : ℤ) × (slice_get xs k ≡ Some x) × InRange t x
of_last rs xs k t z e = result_of rs xs k (Typed t) z e

-- of two arguments that have a type together, each number is one of the type
joint_left : (a b : Operand) (t : Dtype) (x : ℤ) → HaveType a b t → IsOf a x → InRange t x
joint_left (Typed a) (Typed b) t x h k = first_in_range a b t h x k
joint_left (Typed a) (Literal y) t x h k = subst (λ (d : Dtype). InRange d x) h.0 k
joint_left (Literal y) (Typed b) t x h k = subst (InRange t) (sym k) h.1
joint_left (Literal y) (Literal z) t x h k = absurd h

joint_right : (a b : Operand) (t : Dtype) (x : ℤ) → HaveType a b t → IsOf b x → InRange t x
joint_right (Typed a) (Typed b) t x h k = second_in_range a b t h x k
joint_right (Typed a) (Literal y) t x h k = subst (InRange t) (sym k) h.1
joint_right (Literal y) (Typed b) t x h k = subst (λ (d : Dtype). InRange d x) h.0 k
joint_right (Literal y) (Literal z) t x h k = absurd h

-- ---- the steps

abbrev Held : Instr → List Operand → Operand → (ℕ → Option ℤ) → List ℤ → ℕ → Type 0
Held i operands r load results word = (x : ℤ) × (instruction_value i load results ≡ Some x) × IsOf r x × (word ≡ word_of x)

-- the word of an earlier result
earlier : (before : List ℕ) (k a : ℕ) (w : ℕ) (t : Dtype) (results : List ℤ) (x : ℤ) → HoldsResults before k results → slice_get results a ≡ Some x → InRange t x → w ≡ get_or before (64 * a + k) 0 → IsWord t w x
earlier before k a w t results x holds at range e = is_word t w x (e ∙ holds a x at) range

pub load_holds : (n : ℕ) (l : Lay) (lays : List Lay) (ins idx before : List ℕ) (k word : ℕ) → slice_get lays n ≡ Some l → IsWord l.dtype word (lay_element l ins idx)
    → StepHolds (Load n) (lay_types lays) (loaded_at lays ins idx) before k word
load_holds n l lays ins idx before k word at is operands r results (t, et, er) of holds =
    let x = lay_element l ins idx in
    let type : slice_get (lay_types lays) n ≡ Some l.dtype = slice_get-map (λ m. m.dtype) lays n ∙ ap (option_map (λ m. m.dtype)) at in
    let same : l.dtype ≡ t = same_Some l.dtype t (sym type ∙ et) in
    let Q : Dtype → Type 0 = λ d. InRange d x in
    let P : Operand → Type 0 = λ q. IsOf q x in
    (x, ap (option_map (λ m. lay_element m ins idx)) at, subst P (sym er) (subst Q same (word_range l.dtype word x is)), word_is l.dtype word x is)

pub const_holds : (z : ℤ) (types : List Dtype) (load : ℕ → Option ℤ) (before : List ℕ) (k word : ℕ) → word ≡ word_of z → StepHolds (Const z) types load before k word
const_holds z types load before k word e operands r results er of holds = let P : Operand → Type 0 = λ q. IsOf q z in (z, refl, subst P (sym er) refl, e)

pub one_holds : (f : Fn1) (t : Dtype) (a : ℕ) (types : List Dtype) (load : ℕ → Option ℤ) (before : List ℕ) (k w word : ℕ) → w ≡ get_or before (64 * a + k) 0 → Place1 f t w word
    → StepHolds (One f t a) types load before k word
one_holds f t a types load before k w word e place operands r results (d, ea, arg, acc, er) of holds =
    let (x, at, range) = result_of operands results a (Typed d) of ea in
    let is = place d x (taken_as f d t arg) (earlier before k a w d results x holds at range e) in
    let P : Operand → Type 0 = λ q. IsOf q (op1 f t x) in
    (op1 f t x, ap (option_map (op1 f t)) at, subst P (sym er) (word_range (result_type1 f t) word (op1 f t x) is), word_is (result_type1 f t) word (op1 f t x) is)

pub two_holds : (f : Fn2) (t : Dtype) (a b : ℕ) (types : List Dtype) (load : ℕ → Option ℤ) (before : List ℕ) (k v w word : ℕ) → v ≡ get_or before (64 * a + k) 0 → w ≡ get_or before (64 * b + k) 0
    → Place2 f t v w word → StepHolds (Two f t a b) types load before k word
two_holds f t a b types load before k v w word ev ew place operands r results (o, p, eo, ep, have, acc, er) of holds =
    let (x, ax, of_x) = result_of operands results a o of eo in
    let (y, ay, of_y) = result_of operands results b p of ep in
    let is = place x y (earlier before k a v t results x holds ax (joint_left o p t x have of_x) ev) (earlier before k b w t results y holds ay (joint_right o p t y have of_y) ew) in
    let P : Operand → Type 0 = λ q. IsOf q (op2 f t x y) in (
      op2 f t x y,
      (ap (option_and_then (λ x. option_map (op2 f t x) (slice_get results b))) ax ∙ ap (option_map (op2 f t x)) ay),
      subst P (sym er) (word_range (result_type2 f t) word (op2 f t x y) is),
      word_is (result_type2 f t) word (op2 f t x y) is,
    )

pub select_holds : (c a b : ℕ) (types : List Dtype) (load : ℕ → Option ℤ) (before : List ℕ) (k u v w word : ℕ) → u ≡ get_or before (64 * c + k) 0 → v ≡ get_or before (64 * a + k) 0 → w ≡ get_or before (64 * b + k) 0
    → word ≡ (if u == 1 then v else w) → StepHolds (Select c a b) types load before k word
select_holds c a b types load before k u v w word eu ev ew chosen operands r results (o, p, t, ec, eo, ep, have, er) of holds =
    let (s, sat, of_s) = result_of operands results c (Typed Bool) of ec in
    let (x, ax, of_x) = result_of operands results a o of eo in
    let (y, ay, of_y) = result_of operands results b p of ep in
    let is = place_selected u v w word chosen t s x y (earlier before k c u Bool results s holds sat of_s eu) (earlier before k a v t results x holds ax (joint_left o p t x have of_x) ev)
    (earlier before k b w t results y holds ay (joint_right o p t y have of_y) ew) in
    let P : Operand → Type 0 = λ q. IsOf q (selected s x y) in (
      selected s x y,
      (ap (option_and_then (λ s. option_and_then (λ x. option_map (selected s x) (slice_get results b)) (slice_get results a))) sat
          ∙ ap (option_and_then (λ x. option_map (selected s x) (slice_get results b))) ax ∙ ap (option_map (selected s x)) ay),
      subst P (sym er) (word_range t word (selected s x y) is),
      word_is t word (selected s x y) is,
    )

-- ---- what a step that fits names

named : (rs : List Operand) (a words : ℕ) (r : Operand) → slice_get rs a ≡ Some r → words ≡ 64 * length rs → HasRow words a
named rs a words r e h = let b = slice_get_within rs a r e in omega arith

pub gives_names : (i : Instr) (types : List Dtype) (rs : List Operand) (r : Operand) (lays words : ℕ) → GivesOperand i types rs r → length types ≡ lays → words ≡ 64 * length rs → NamesBefore i lays words
gives_names (Load k) types rs r lays words (t, et, er) n h = let b = slice_get_within types k t et in omega arith
gives_names (Const x) types rs r lays words g n h = tt
gives_names (One f t a) types rs r lays words (d, ea, arg, acc, er) n h = named rs a words (Typed d) ea h
gives_names (Two f t a b) types rs r lays words (x, y, ea, eb, have, acc, er) n h = (named rs a words x ea h, named rs b words y eb h)
gives_names (Select c a b) types rs r lays words (x, y, t, ec, ea, eb, have, er) n h = (named rs c words (Typed Bool) ec h, named rs a words x ea h, named rs b words y eb h)
