-- The arrays that are left, under their new numbers.
use Rattle.std.proofs.Common.{◌≡◌, ◌≢◌, ◌⊎◌, inl, inr, ℕ, zero, suc, ◌+◌, ◌<◌, ◌≤◌, true, false, List, [], ◌∷◌, Contains, length, Option, Some, None, get_or, refl, ap, sym, ◌∙◌, subst, arith, ⊎_elim, if◌then◌else◌}
use Rattle.std.specs.List.{slice_get}
use Rattle.std.proofs.lemmas.Bool.{cases_Bool}
use Rattle.std.proofs.lemmas.List.{get_or_default}
use Rattle.std.proofs.lemmas.Option.{slice_get_within, get_or_from_slice_get, slice_get-get_or}
use Rattle.cu_op.specs.declared.layout.ArrayInfo.{ArrayInfo}
use Rattle.cu_op.specs.declared.operation.Planned.{Planned}
use Rattle.cu_op.specs.Arrays.{array_at, is_inlined, maker_at, no_array, AllStored}
use Rattle.cu_op.specs.PlanView.{PlanView}
use Rattle.cu_fuse.specs.Close.{remains, remaining_from, remaining_numbers, maker_of, remaining_array, count_behind, remaining_arrays, new_number, closed, setting_of}
use Rattle.cu_fuse.proofs.Distinct.{at_place}
use Rattle.cu_op.proofs.AllStored.{stored_at}
use Rattle.cu_op.proofs.Members.{contains_any}

-- ---- which numbers are left

-- array number n + k of the whole is number k of the rest
left_in : (ops : List Planned) (n k : ℕ) (arrays : List ArrayInfo) → k < length arrays → remains ops (n + k) (maker_at arrays k) ≡ true → Contains (remaining_from ops n arrays) (n + k)
left_in ops n k [] b h = absurd (omega arith)
left_in ops n zero (a ∷ rest) b h =
    let z : n + 0 ≡ n = omega arith in
    let here : remains ops n a.maker ≡ true = subst (λ (m : ℕ). remains ops m a.maker ≡ true) z h in
    let first : remaining_from ops n (a ∷ rest) ≡ n ∷ remaining_from ops (n + 1) rest = (λ i. if here i then (n ∷ remaining_from ops (n + 1) rest) else remaining_from ops (n + 1) rest) in
    subst (λ (l : List ℕ). Contains l (n + 0)) (sym first) (0, omega arith, sym z)
left_in ops n (suc k) (a ∷ rest) b h =
    let z : n + suc k ≡ n + 1 + k = omega arith in
    let later : Contains (remaining_from ops (n + 1) rest) (n + suc k) =
    subst (Contains (remaining_from ops (n + 1) rest)) (sym z) (left_in ops (n + 1) k rest (omega arith) (subst (λ (m : ℕ). remains ops m (maker_at rest k) ≡ true) z h)) in
    elim (cases_Bool (remains ops n a.maker)) [
      | inl yes_left ↦ subst (λ (l : List ℕ). Contains l (n + suc k)) (sym (λ i. if yes_left i then (n ∷ remaining_from ops (n + 1) rest) else remaining_from ops (n + 1) rest)) (suc later.0, (let l = later.1 in omega arith), later.2)
      | inr not_left ↦ subst (λ (l : List ℕ). Contains l (n + suc k)) (sym (λ i. if not_left i then (n ∷ remaining_from ops (n + 1) rest) else remaining_from ops (n + 1) rest)) later
    ]

-- a number that is left is that of an array that is left
left_out : (ops : List Planned) (n : ℕ) (arrays : List ArrayInfo) (a : ℕ) → Contains (remaining_from ops n arrays) a
    → (k : ℕ) × (a ≡ n + k) × (k < length arrays) × (remains ops a (maker_at arrays k) ≡ true)
left_out ops n [] a (k, l, e) = absurd (omega arith)
left_out ops n (x ∷ rest) a c = elim (cases_Bool (remains ops n x.maker)) [
  | inl left ↦ here left (subst (λ (l : List ℕ). Contains l a) (λ i. if left i then (n ∷ remaining_from ops (n + 1) rest) else remaining_from ops (n + 1) rest) c) (left_out ops (n + 1) rest a)
  | inr gone ↦ later (left_out ops (n + 1) rest a (subst (λ (l : List ℕ). Contains l a) (λ i. if gone i then (n ∷ remaining_from ops (n + 1) rest) else remaining_from ops (n + 1) rest) c))
]
  where
    later : ((k : ℕ) × (a ≡ n + 1 + k) × (k < length rest) × (remains ops a (maker_at rest k) ≡ true)) → (k : ℕ) × (a ≡ n + k) × (k < length (x ∷ rest)) × (remains ops a (maker_at (x ∷ rest) k) ≡ true)
    later (k, e, l, h) = (suc k, (let z : n + 1 + k ≡ n + suc k = omega arith in e ∙ z), omega arith, h)

    here : remains ops n x.maker ≡ true → Contains (n ∷ remaining_from ops (n + 1) rest) a → (Contains (remaining_from ops (n + 1) rest) a → (k : ℕ) × (a ≡ n + 1 + k) × (k < length rest) × (remains ops a (maker_at rest k) ≡ true))
        → (k : ℕ) × (a ≡ n + k) × (k < length (x ∷ rest)) × (remains ops a (maker_at (x ∷ rest) k) ≡ true)
    here left (zero, l, e) again = (0, (let z : n ≡ n + 0 = omega arith in sym e ∙ z), omega arith, subst (λ (m : ℕ). remains ops m x.maker ≡ true) e left)
    here left (suc k, l, e) again = later (again (k, omega arith, e))

-- numbers stand in order, so each once
left_least : (ops : List Planned) (n : ℕ) (arrays : List ArrayInfo) (i a : ℕ) → slice_get (remaining_from ops n arrays) i ≡ Some a → n + i ≤ a
left_least ops n [] zero a e = cc
left_least ops n [] (suc i) a e = cc
left_least ops n (x ∷ rest) i a e = elim (cases_Bool (remains ops n x.maker)) [
  | inl stays ↦ here i (ap (λ (l : List ℕ). slice_get l i) (sym (λ j. if stays j then (n ∷ remaining_from ops (n + 1) rest) else remaining_from ops (n + 1) rest)) ∙ e) (left_least ops (n + 1) rest)
  | inr gone ↦ let l = left_least ops (n + 1) rest i a (ap (λ (l : List ℕ). slice_get l i) (sym (λ j. if gone j then (n ∷ remaining_from ops (n + 1) rest) else remaining_from ops (n + 1) rest)) ∙ e) in omega arith
]
  where
    here : (i : ℕ) → slice_get (n ∷ remaining_from ops (n + 1) rest) i ≡ Some a → ((j b : ℕ) → slice_get (remaining_from ops (n + 1) rest) j ≡ Some b → n + 1 + j ≤ b) → n + i ≤ a
    here zero g again = let same : n ≡ a = cc in omega (arith, same)
    here (suc j) g again = let l = again j a g in omega arith

pub left_once : (ops : List Planned) (n : ℕ) (arrays : List ArrayInfo) (i j a : ℕ) → slice_get (remaining_from ops n arrays) i ≡ Some a → slice_get (remaining_from ops n arrays) j ≡ Some a → i ≡ j
left_once ops n [] zero j a e g = cc
left_once ops n [] (suc i) j a e g = cc
left_once ops n (x ∷ rest) i j a e g = elim (cases_Bool (remains ops n x.maker)) [
  | inl stays ↦
      let first : remaining_from ops n (x ∷ rest) ≡ n ∷ remaining_from ops (n + 1) rest = (λ k. if stays k then (n ∷ remaining_from ops (n + 1) rest) else remaining_from ops (n + 1) rest) in
      both i j (ap (λ (l : List ℕ). slice_get l i) (sym first) ∙ e) (ap (λ (l : List ℕ). slice_get l j) (sym first) ∙ g) (left_once ops (n + 1) rest)
  | inr gone ↦
      let first : remaining_from ops n (x ∷ rest) ≡ remaining_from ops (n + 1) rest = (λ k. if gone k then (n ∷ remaining_from ops (n + 1) rest) else remaining_from ops (n + 1) rest) in
      left_once ops (n + 1) rest i j a (ap (λ (l : List ℕ). slice_get l i) (sym first) ∙ e) (ap (λ (l : List ℕ). slice_get l j) (sym first) ∙ g)
]
  where
    both : (i j : ℕ) → slice_get (n ∷ remaining_from ops (n + 1) rest) i ≡ Some a → slice_get (n ∷ remaining_from ops (n + 1) rest) j ≡ Some a
        → ((k l b : ℕ) → slice_get (remaining_from ops (n + 1) rest) k ≡ Some b → slice_get (remaining_from ops (n + 1) rest) l ≡ Some b → k ≡ l) → i ≡ j
    both zero zero e g again = refl
    both zero (suc j) e g again = let same : n ≡ a = cc in let l = left_least ops (n + 1) rest j a g in absurd (omega (arith, same, l))
    both (suc i) zero e g again = let same : n ≡ a = cc in let l = left_least ops (n + 1) rest i a e in absurd (omega (arith, same, l))
    both (suc i) (suc j) e g again = ap suc (again i j a e g)

module _ (p : PlanView) (ops : List Planned) where
  pub numbers_in : (a : ℕ) → a < length p.arrays → remains ops a (maker_at p.arrays a) ≡ true → Contains (remaining_numbers p.arrays ops) a
  numbers_in a b h =
      let z : 0 + a ≡ a = omega arith in
      subst (Contains (remaining_numbers p.arrays ops)) z (left_in ops 0 a p.arrays b (subst (λ (m : ℕ). remains ops m (maker_at p.arrays a) ≡ true) (sym z) h))

  pub numbers_out : (a : ℕ) → Contains (remaining_numbers p.arrays ops) a → (a < length p.arrays) × (remains ops a (maker_at p.arrays a) ≡ true)
  numbers_out a c =
      let (k, e, l, h) = left_out ops 0 p.arrays a c in
      let same : k ≡ a = omega arith in
      (omega arith, subst (λ (m : ℕ). remains ops a (maker_at p.arrays m) ≡ true) same h)

  -- the place of a number that is left
  pub placed : (a : ℕ) → Contains (remaining_numbers p.arrays ops) a → slice_get (remaining_numbers p.arrays ops) (new_number (setting_of p) ops a) ≡ Some a
  placed a c = at_place (remaining_numbers p.arrays ops) a (contains_any (remaining_numbers p.arrays ops) a c)

  pub placed_once : (a b : ℕ) → Contains (remaining_numbers p.arrays ops) a → Contains (remaining_numbers p.arrays ops) b → new_number (setting_of p) ops a ≡ new_number (setting_of p) ops b → a ≡ b
  placed_once a b ca cb e = some_same (sym (placed a ca) ∙ ap (slice_get (remaining_numbers p.arrays ops)) e ∙ placed b cb)
    where
      some_same : Some a ≡ Some b → a ≡ b
      some_same h = cc

  -- ---- the arrays

  pub length-left : (k : ℕ) (numbers : List ℕ) → length (remaining_arrays (setting_of p) ops k numbers) ≡ length numbers
  length-left k [] = refl
  length-left k (a ∷ rest) = ap suc (length-left (count_behind (setting_of p) k a (maker_at p.arrays a)) rest)

  -- the array under a new number: its count is some one
  array_left : (k n : ℕ) (numbers : List ℕ) (a : ℕ) → slice_get numbers n ≡ Some a → (c : ℕ) × (array_at (remaining_arrays (setting_of p) ops k numbers) n ≡ remaining_array (setting_of p) ops c a (maker_at p.arrays a))
  array_left k n [] a e = cc
  array_left k zero (x ∷ rest) a e = let same : x ≡ a = cc in (k, ap (λ (b : ℕ). remaining_array (setting_of p) ops k b (maker_at p.arrays b)) same)
  array_left k (suc n) (x ∷ rest) a e = array_left (count_behind (setting_of p) k x (maker_at p.arrays x)) n rest a e

  layout_of_left : (c a : ℕ) (m : Option ℕ) → (remaining_array (setting_of p) ops c a m).layout ≡ (array_at p.arrays a).layout
  layout_of_left c a None = refl
  layout_of_left c a (Some m) = refl

  -- it is stored or made where it is read as it was
  pub inlined_of_left : (c a : ℕ) (m : Option ℕ) → (remaining_array (setting_of p) ops c a m).inlined ≡ is_inlined p.arrays a
  inlined_of_left c a None = refl
  inlined_of_left c a (Some m) = refl

  maker_of_left : (c a : ℕ) (m : Option ℕ) → maker_at p.arrays a ≡ m → ((m ≡ None) × ((remaining_array (setting_of p) ops c a m).maker ≡ None)) ⊎ ((m ≢ None) × ((remaining_array (setting_of p) ops c a m).maker ≡ Some (maker_of ops a)))
  maker_of_left c a None e = inl (refl, e)
  maker_of_left c a (Some m) e = inr ((λ h. none_some h), refl)
    where
      none_some : Some m ≡ None → ⊥
      none_some h = cc

  pub kept_layout : (a : ℕ) → Contains (remaining_numbers p.arrays ops) a → (array_at (closed (setting_of p) ops).arrays (new_number (setting_of p) ops a)).layout ≡ (array_at p.arrays a).layout
  kept_layout a c =
      let (k, e) = array_left 0 (new_number (setting_of p) ops a) (remaining_numbers p.arrays ops) a (placed a c) in
      ap (λ (x : ArrayInfo). x.layout) e ∙ layout_of_left k a (maker_at p.arrays a)

  pub within : (a : ℕ) → Contains (remaining_numbers p.arrays ops) a → new_number (setting_of p) ops a < length (closed (setting_of p) ops).arrays
  within a c = let l = length-left 0 (remaining_numbers p.arrays ops) in let w = slice_get_within (remaining_numbers p.arrays ops) (new_number (setting_of p) ops a) a (placed a c) in omega (arith, l, w)

  -- an input stays one, and a made array has the operation that writes it as its maker
  pub input_left : (a : ℕ) → Contains (remaining_numbers p.arrays ops) a → maker_at p.arrays a ≡ None → maker_at (closed (setting_of p) ops).arrays (new_number (setting_of p) ops a) ≡ None
  input_left a c none =
      let (k, e) = array_left 0 (new_number (setting_of p) ops a) (remaining_numbers p.arrays ops) a (placed a c) in
      ap (λ (x : ArrayInfo). x.maker) e ∙ ⊎_elim (λ i. i.1) (λ m. absurd (m.0 none)) (maker_of_left k a (maker_at p.arrays a) refl)

  pub made_left : (a : ℕ) → Contains (remaining_numbers p.arrays ops) a → maker_at p.arrays a ≢ None → maker_at (closed (setting_of p) ops).arrays (new_number (setting_of p) ops a) ≡ Some (maker_of ops a)
  made_left a c made =
      let (k, e) = array_left 0 (new_number (setting_of p) ops a) (remaining_numbers p.arrays ops) a (placed a c) in
      ap (λ (x : ArrayInfo). x.maker) e ∙ ⊎_elim (λ i. absurd (made i.0)) (λ m. m.1) (maker_of_left k a (maker_at p.arrays a) refl)

  -- an array of the plan that is left, by its new number
  pub old_array : (b : ℕ) → b < length (closed (setting_of p) ops).arrays → (a : ℕ) × Contains (remaining_numbers p.arrays ops) a × (get_or (remaining_numbers p.arrays ops) b 0 ≡ a) × (slice_get (remaining_numbers p.arrays ops) b ≡ Some a)
      × (c : ℕ) × (array_at (closed (setting_of p) ops).arrays b ≡ remaining_array (setting_of p) ops c a (maker_at p.arrays a))
  old_array b h =
      let l = length-left 0 (remaining_numbers p.arrays ops) in
      let w : b < length (remaining_numbers p.arrays ops) = omega arith in
      let a : ℕ = get_or (remaining_numbers p.arrays ops) b 0 in
      let e : slice_get (remaining_numbers p.arrays ops) b ≡ Some a = slice_get-get_or (remaining_numbers p.arrays ops) b 0 w in
      let (c, is) = array_left 0 b (remaining_numbers p.arrays ops) a e in
      (a, (b, w, get_or_from_slice_get (remaining_numbers p.arrays ops) b a a e), refl, e, c, is)

  -- where each array is stored, each that is left is
  pub left_stored : AllStored p.arrays → AllStored (closed (setting_of p) ops).arrays
  left_stored all k d h =
      let (a, _, _, _, n, e) = old_array k h in
      subst (λ (x : ArrayInfo). x.inlined ≡ false) (get_or_default (closed (setting_of p) ops).arrays k no_array d h)
      (ap (λ (x : ArrayInfo). x.inlined) e ∙ inlined_of_left n a (maker_at p.arrays a) ∙ stored_at p.arrays a all)

  -- an input of it was one
  pub was_input : (c a : ℕ) → (remaining_array (setting_of p) ops c a (maker_at p.arrays a)).maker ≡ None → maker_at p.arrays a ≡ None
  was_input c a none = go (maker_at p.arrays a) refl none
    where
      go : (m : Option ℕ) → maker_at p.arrays a ≡ m → (remaining_array (setting_of p) ops c a m).maker ≡ None → maker_at p.arrays a ≡ None
      go None e n = e
      go (Some m) e n = cc
