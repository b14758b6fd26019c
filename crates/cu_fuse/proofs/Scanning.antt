-- Going over operations and numbers one after another.
use Rattle.std.proofs.Common.{◌≡◌, ◌≢◌, ◌-◌, take, take_all, nat_lt, length-drop, inl, inr, ℕ, suc, ◌+◌, ◌^◌, ◌<◌, ◌≤◌, ◌==◌, ◌&&◌, not, true, false, List, [], ◌∷◌, ◌++◌, All, subst, length, drop, get_or, refl, ap, sym, ◌∙◌, arith, if◌then◌else◌}
use Rattle.std.specs.List.{list_any}
use Rattle.std.proofs.lemmas.Bool.{cases_Bool, cases_lt}
use Rattle.std.proofs.lemmas.Bool.Decides.{eqb_tells, nat_tests}
use Rattle.std.proofs.lemmas.List.{drop_more}
use Rattle.std.proofs.lemmas.List.Elements.{All-cons}
use Rattle.cu_op.specs.declared.operation.Op.{Op}
use Rattle.cu_op.specs.declared.operation.Planned.{Planned}
use Rattle.cu_op.specs.declared.layout.ArrayInfo.{ArrayInfo}
use Rattle.cu_op.specs.Operation.{reads_of, writes_of}
use Rattle.cu_op.specs.Projection.{own_projection}
use Rattle.cu_fuse.specs.Close.{has_maker, maker_of, remaining_from, remaining_numbers, remains}
use Rattle.cu_fuse.specs.Fused.{has_one_reader, is_map, is_reader, map_inputs, reader_of, stands_once}
use Rattle.cu_op.specs.Numbers.{number_in, stands_in}

-- what is left of a list from an element on
pub from_place : {A : Type 0} (xs : List A) (k : ℕ) (x : A) → k < length xs → x ≡ get_or xs k x → drop k xs ≡ x ∷ drop (k + 1) xs
from_place xs k x below is = drop_more xs k x below ∙ ap (λ y. y ∷ drop (k + 1) xs) (sym is)

-- ---- the first operation that writes or reads an array

pub maker_found : (ops rest : List Planned) (o : Planned) (a : ℕ) → ops ≡ o ∷ rest → stands_in (writes_of o.op) a ≡ true → maker_of ops a ≡ 0
maker_found ops rest o a e here = ap (λ l. maker_of l a) e ∙ (λ i. if here i then 0 else suc (maker_of rest a))

pub maker_passed : (ops rest : List Planned) (o : Planned) (a : ℕ) → ops ≡ o ∷ rest → stands_in (writes_of o.op) a ≡ false → maker_of ops a ≡ suc (maker_of rest a)
maker_passed ops rest o a e there = ap (λ l. maker_of l a) e ∙ (λ i. if there i then 0 else suc (maker_of rest a))

pub reader_found : (ops rest : List Planned) (o : Planned) (a : ℕ) → ops ≡ o ∷ rest → stands_in (reads_of o.op) a ≡ true → reader_of ops a ≡ 0
reader_found ops rest o a e here = ap (λ l. reader_of l a) e ∙ (λ i. if here i then 0 else suc (reader_of rest a))

pub reader_passed : (ops rest : List Planned) (o : Planned) (a : ℕ) → ops ≡ o ∷ rest → stands_in (reads_of o.op) a ≡ false → reader_of ops a ≡ suc (reader_of rest a)
reader_passed ops rest o a e there = ap (λ l. reader_of l a) e ∙ (λ i. if there i then 0 else suc (reader_of rest a))

-- an operation writes the array where the first that does is among them
pub maker_there : (ops : List Planned) (a : ℕ) → maker_of ops a < length ops → has_maker ops a ≡ true
maker_there [] a h = absurd (omega arith)
maker_there (o ∷ os) a h = elim (cases_Bool (stands_in (writes_of o.op) a)) [
  | inl here ↦ rw here refl
  | inr there ↦ let l : suc (maker_of os a) < length (o ∷ os) = rw there at h in let rest = maker_there os a (omega (arith, l)) in rw there rest
]

pub maker_absent : (ops : List Planned) (a : ℕ) → length ops ≤ maker_of ops a → has_maker ops a ≡ false
maker_absent [] a h = refl
maker_absent (o ∷ os) a h = elim (cases_Bool (stands_in (writes_of o.op) a)) [
  | inl here ↦ let l : length (o ∷ os) ≤ 0 = rw here at h in absurd (omega (arith, l))
  | inr there ↦ let l : length (o ∷ os) ≤ suc (maker_of os a) = rw there at h in let rest = maker_absent os a (omega (arith, l)) in rw there rest
]

-- ---- a number in a list

pub number_there : (xs : List ℕ) (a : ℕ) → number_in xs a < length xs → stands_in xs a ≡ true
number_there [] a h = absurd (omega arith)
number_there (x ∷ xs) a h = elim (eqb_tells x a) [
  | inl p ↦ rw p.0 refl
  | inr p ↦ let l : suc (number_in xs a) < length (x ∷ xs) = rw p.0 at h in let rest = number_there xs a (omega (arith, l)) in rw p.0 rest
]

pub number_absent : (xs : List ℕ) (a : ℕ) → length xs ≤ number_in xs a → stands_in xs a ≡ false
number_absent [] a h = refl
number_absent (x ∷ xs) a h = elim (eqb_tells x a) [
  | inl p ↦ let l : length (x ∷ xs) ≤ 0 = rw p.0 at h in absurd (omega (arith, l))
  | inr p ↦ let l : length (x ∷ xs) ≤ suc (number_in xs a) = rw p.0 at h in let rest = number_absent xs a (omega (arith, l)) in rw p.0 rest
]

pub once_where : (xs : List ℕ) (a k : ℕ) → k ≡ number_in xs a → k < length xs → stands_once xs a ≡ not (stands_in (drop (k + 1) xs) a)
once_where xs a k e h = (λ i. number_there xs a (let l : number_in xs a < length xs = omega arith in l) i && not (stands_in (drop (sym e i + 1) xs) a))

pub once_nowhere : (xs : List ℕ) (a : ℕ) → length xs ≤ number_in xs a → stands_once xs a ≡ false
once_nowhere xs a h = λ i. number_absent xs a h i && not (stands_in (drop (number_in xs a + 1) xs) a)

pub rest_taken : {A : Type 0} (xs : List A) (n : ℕ) → take (length xs - n) (drop n xs) ≡ drop n xs
rest_taken xs n = take_all (length xs - n) (drop n xs) (let l = length-drop n xs in omega (arith, l))

-- ---- the inputs of the maps

pub inputs_taken : (ops rest : List Planned) (o : Planned) → ops ≡ o ∷ rest → is_map o.op ≡ true → map_inputs ops ≡ reads_of o.op ++ map_inputs rest
inputs_taken ops rest o e is = ap map_inputs e ∙ (λ i. if is i then reads_of o.op ++ map_inputs rest else map_inputs rest)

pub inputs_passed : (ops rest : List Planned) (o : Planned) → ops ≡ o ∷ rest → is_map o.op ≡ false → map_inputs ops ≡ map_inputs rest
inputs_passed ops rest o e other = ap map_inputs e ∙ (λ i. if other i then reads_of o.op ++ map_inputs rest else map_inputs rest)

pub not_below : (m n : ℕ) → n ≤ m → nat_lt m n ≡ false
not_below m n h = grind (arith, nat_tests)

-- what is reserved counts once
pub reserved_apart : (arrays : List ArrayInfo) (reserved : ℕ) (op : Op) → own_projection arrays reserved op ≡ reserved + own_projection arrays 0 op
reserved_apart arrays reserved op = omega arith

-- a sum that is no number of 64 bits exceeds what is allowed
pub over_all : (allowed reserved own all : ℕ) → (reserved + own < 2 ^ 64 → ⊥) → all ≡ reserved + own → allowed < 2 ^ 64 → allowed < all
over_all allowed reserved own all over is few = elim (cases_lt (reserved + own) (2 ^ 64)) [ inl l ↦ absurd (over l) | inr h ↦ omega (arith, h, is, few) ]

-- ---- whether an operation reads the array

reader_there : (ops : List Planned) (a : ℕ) → reader_of ops a < length ops → list_any (is_reader a) ops ≡ true
reader_there [] a h = absurd (omega arith)
reader_there (o ∷ os) a h = elim (cases_Bool (stands_in (reads_of o.op) a)) [
  | inl here ↦ rw here refl
  | inr there ↦ let l : suc (reader_of os a) < length (o ∷ os) = rw there at h in let rest = reader_there os a (omega (arith, l)) in rw there rest
]

reader_absent : (ops : List Planned) (a : ℕ) → length ops ≤ reader_of ops a → list_any (is_reader a) ops ≡ false
reader_absent [] a h = refl
reader_absent (o ∷ os) a h = elim (cases_Bool (stands_in (reads_of o.op) a)) [
  | inl here ↦ let l : length (o ∷ os) ≤ 0 = rw here at h in absurd (omega (arith, l))
  | inr there ↦ let l : length (o ∷ os) ≤ suc (reader_of os a) = rw there at h in let rest = reader_absent os a (omega (arith, l)) in rw there rest
]

-- the number of the first reader is that of all operations where none reads it
pub all_pass : (ops : List Planned) (a k : ℕ) → k ≡ reader_of ops a → k ≤ length ops → (k == length ops) ≡ not (list_any (is_reader a) ops)
all_pass ops a k e h = elim (eqb_tells k (length ops)) [
  | inl p ↦ let none = reader_absent ops a (let same = p.1 in omega (arith, same, e)) in p.0 ∙ sym (ap not none)
  | inr p ↦ let some = reader_there ops a (below k (length ops) (reader_of ops a) e h p.1) in p.0 ∙ sym (ap not some)
]
  where
    below : (k n r : ℕ) → k ≡ r → k ≤ n → k ≢ n → r < n
    below k n r e h other = omega (arith, e, h, other)

-- a map of which one input alone reads the array
pub one_reader : (o : Planned) (behind : List Planned) (a : ℕ) → is_map o.op ≡ true
    → (is_map o.op && has_one_reader o behind a) ≡ stands_once (reads_of o.op) a && not (list_any (is_reader a) behind)
one_reader o behind a is = λ i. is i && (stands_once (reads_of o.op) a && not (list_any (is_reader a) behind))

-- an operation writes the array where the first that does is among them
pub maker_passes : (ops : List Planned) (a k : ℕ) → k ≡ maker_of ops a → nat_lt k (length ops) ≡ has_maker ops a
maker_passes ops a k e = elim (cases_lt k (length ops)) [
  | inl l ↦ let some = maker_there ops a (let b : maker_of ops a < length ops = omega arith in b) in below_is k (length ops) l ∙ sym some
  | inr h ↦ let none = maker_absent ops a (let b : length ops ≤ maker_of ops a = omega arith in b) in not_below k (length ops) h ∙ sym none
]
  where
    below_is : (m n : ℕ) → m < n → nat_lt m n ≡ true
    below_is m n h = grind (arith, nat_tests)

-- ---- the numbers of the arrays that are left

numbers_below : (ops : List Planned) (n bound : ℕ) (arrays : List ArrayInfo) → n + length arrays ≤ bound → All (λ a. a < bound) (remaining_from ops n arrays)
numbers_below ops n bound [] h = λ k d b. absurd (omega arith)
numbers_below ops n bound (a ∷ rest) h =
    let later = numbers_below ops (n + 1) bound rest (omega arith) in
    elim (cases_Bool (remains ops n a.maker)) [
      | inl stays ↦ subst (All (λ a. a < bound)) (sym (λ i. if stays i then (n ∷ remaining_from ops (n + 1) rest) else remaining_from ops (n + 1) rest))
          (All-cons (λ a. a < bound) n (remaining_from ops (n + 1) rest) (omega arith) later)
      | inr gone ↦ subst (All (λ a. a < bound)) (sym (λ i. if gone i then (n ∷ remaining_from ops (n + 1) rest) else remaining_from ops (n + 1) rest)) later
    ]

pub numbers_within : (arrays : List ArrayInfo) (ops : List Planned) → All (λ a. a < length arrays) (remaining_numbers arrays ops)
numbers_within arrays ops = numbers_below ops 0 (length arrays) arrays (omega arith)

numbers_few_from : (ops : List Planned) (n : ℕ) (arrays : List ArrayInfo) → length (remaining_from ops n arrays) ≤ length arrays
numbers_few_from ops n [] = omega arith
numbers_few_from ops n (a ∷ rest) =
    let later = numbers_few_from ops (n + 1) rest in
    elim (cases_Bool (remains ops n a.maker)) [ inl stays ↦ rw stays (omega (arith, later)) | inr gone ↦ rw gone (omega (arith, later)) ]

pub numbers_few : (arrays : List ArrayInfo) (ops : List Planned) → length (remaining_numbers arrays ops) ≤ length arrays
numbers_few arrays ops = numbers_few_from ops 0 arrays
