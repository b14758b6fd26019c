-- A map with one load of each array: no array stands twice among its inputs, and no input is loaded
-- twice but by the last instruction.
use Rattle.std.proofs.Common.{◌≡◌, ◌⊎◌, inl, inr, ℕ, zero, suc, ◌+◌, ◌<◌, ◌≤◌, ◌==◌, ◌||◌, not, Bool, true, false, List, [], ◌∷◌, length, map, Option, Some, None, get_or, unwrap_or, refl, ap, sym, ◌∙◌, subst, arith}
use Rattle.std.specs.List.{filter, range_with_len, slice_get}
use Rattle.std.specs.Option.{option_map}
use Rattle.std.proofs.lemmas.Bool.{cases_Bool}
use Rattle.std.proofs.lemmas.Bool.Decides.{eqb_tells}
use Rattle.std.proofs.lemmas.List.{length-map}
use Rattle.std.proofs.lemmas.Option.{same_Some, slice_get-get_or, slice_get-map}
use Rattle.cu_op.specs.declared.kernel.Instr.{Instr}
use Rattle.cu_op.specs.declared.kernel.Instr.TheVariants.{Load, Const, One, Two, Select}
use Rattle.cu_op.specs.declared.operation.Op.{Op}
use Rattle.cu_op.specs.Kind.Map.{map_of}
use Rattle.cu_op.specs.Operation.{kernel_of, reads_of, target_of}
use Rattle.cu_op.specs.Projection.{instruction_count}
use Rattle.cu_fuse.specs.Fused.{is_map}
use Rattle.cu_op.specs.Numbers.{stands_in}
use Rattle.cu_fuse.specs.Once.{at_places, distinct, first_like, first_load_of, loading_once, map_once, one_load, over_distinct, places, stays, step_at}
use Rattle.cu_fuse.proofs.ByKernel.{by_kernel, has_map}
use Rattle.cu_fuse.proofs.Distinct.{distinct_stands, length-distinct}
use Rattle.cu_fuse.proofs.LoadingOnce.{fewer_steps}

-- ---- what a filter leaves

module _ {T : Type 0} (p : T → Bool) where
  passes : (xs : List T) (k : ℕ) (x : T) → slice_get (filter p xs) k ≡ Some x → p x ≡ true
  passes [] zero x e = cc
  passes [] (suc k) x e = cc
  passes (y ∷ ys) k x e = elim (cases_Bool (p y)) [
    | inl t ↦ here k (rw t at e) t (λ m g. passes ys m x g)
    | inr f ↦ passes ys k x (rw f at e)
  ]
    where
      here : (m : ℕ) → slice_get (y ∷ filter p ys) m ≡ Some x → p y ≡ true
          → ((n : ℕ) → slice_get (filter p ys) n ≡ Some x → p x ≡ true) → p x ≡ true
      here zero g t rest = ap p (sym (same_Some y x g)) ∙ t
      here (suc m) g t rest = rest m g

  comes_from : (xs : List T) (k : ℕ) (x : T) → slice_get (filter p xs) k ≡ Some x
      → (m : ℕ) × (slice_get xs m ≡ Some x)
  comes_from [] zero x e = cc
  comes_from [] (suc k) x e = cc
  comes_from (y ∷ ys) k x e = elim (cases_Bool (p y)) [
    | inl t ↦ here k (rw t at e) (λ m g. comes_from ys m x g)
    | inr f ↦ let (m, g) = comes_from ys k x (rw f at e) in (suc m, g)
  ]
    where
      here : (m : ℕ) → slice_get (y ∷ filter p ys) m ≡ Some x
          → ((i : ℕ) → slice_get (filter p ys) i ≡ Some x → (n : ℕ) × (slice_get ys n ≡ Some x))
          → (n : ℕ) × (slice_get (y ∷ ys) n ≡ Some x)
      here zero g rest = (zero, g)
      here (suc m) g rest = let (n, h) = rest m g in (suc n, h)

-- no element stands at two places
abbrev StandOnce : List ℕ → Type 0
StandOnce xs = (j k a : ℕ) → slice_get xs j ≡ Some a → slice_get xs k ≡ Some a → j ≡ k

once_filtered : (p : ℕ → Bool) (xs : List ℕ) → StandOnce xs → StandOnce (filter p xs)
once_filtered p [] once = once
once_filtered p (x ∷ xs) once = elim (cases_Bool (p x)) [
  | inl t ↦ rw t (λ j k a e g. both (once_filtered p xs behind) j k a e g)
  | inr f ↦ rw f (λ j k a e g. once_filtered p xs behind j k a e g)
]
  where
    behind : StandOnce xs
    behind j k a e g = let h = once (suc j) (suc k) a e g in omega (arith, h)

    both : StandOnce (filter p xs) → (j k a : ℕ) → slice_get (x ∷ filter p xs) j ≡ Some a
        → slice_get (x ∷ filter p xs) k ≡ Some a → j ≡ k
    both rest zero zero a e g = refl
    both rest zero (suc k) a e g = let (m, h) = comes_from p xs k a g in let z =
        once zero (suc m) a e h in absurd (omega (arith, z))
    both rest (suc j) zero a e g = let (m, h) = comes_from p xs j a e in let z =
        once zero (suc m) a g h in absurd (omega (arith, z))
    both rest (suc j) (suc k) a e g = ap suc (rest j k a e g)

pub distinct_once : (xs : List ℕ) (j k a : ℕ) → slice_get (distinct xs) j ≡ Some a
    → slice_get (distinct xs) k ≡ Some a → j ≡ k
distinct_once [] zero k a e g = cc
distinct_once [] (suc j) k a e g = cc
distinct_once (x ∷ xs) zero zero a e g = refl
distinct_once (x ∷ xs) zero (suc k) a e g = absurd (not_again x xs k a (same_Some x a e) g)
  where
    not_again : (x : ℕ) (xs : List ℕ) (k a : ℕ) → x ≡ a
        → slice_get (filter (λ y. not (y == x)) (distinct xs)) k ≡ Some a → ⊥
    not_again x xs k a same e =
        let t = passes (λ (y : ℕ). not (y == x)) (distinct xs) k a e in
        elim (eqb_tells a x) [
          | inl p ↦ let f : false ≡ true = ap not (sym p.0) ∙ t in
              cc
          | inr p ↦ p.1 (sym same)
        ]
distinct_once (x ∷ xs) (suc j) zero a e g = absurd (not_again x xs j a (same_Some x a g) e)
  where
    not_again : (x : ℕ) (xs : List ℕ) (k a : ℕ) → x ≡ a
        → slice_get (filter (λ y. not (y == x)) (distinct xs)) k ≡ Some a → ⊥
    not_again x xs k a same e =
        let t = passes (λ (y : ℕ). not (y == x)) (distinct xs) k a e in
        elim (eqb_tells a x) [
          | inl p ↦ let f : false ≡ true = ap not (sym p.0) ∙ t in
              cc
          | inr p ↦ p.1 (sym same)
        ]
distinct_once (x ∷ xs) (suc j) (suc k) a e g =
    ap suc (once_filtered (λ (y : ℕ). not (y == x)) (distinct xs) (distinct_once xs) j k a e g)

-- ---- numbers in a row, of which some are left

module _ (p : ℕ → Bool) where
  within_row : (m c k a : ℕ) → slice_get (filter p (range_with_len m c)) k ≡ Some a
      → (m ≤ a) × (a < m + c)
  within_row m zero zero a e = cc
  within_row m zero (suc k) a e = cc
  within_row m (suc c) k a e = elim (cases_Bool (p m)) [
    | inl t ↦ here k (rw t at e) (λ n g. within_row (m + 1) c n a g)
    | inr f ↦ let (l, h) = within_row (m + 1) c k a (rw f at e) in
        (omega (arith, l), omega (arith, h))
  ]
    where
      here : (n : ℕ) → slice_get (m ∷ filter p (range_with_len (m + 1) c)) n ≡ Some a
          → ((i : ℕ) → slice_get (filter p (range_with_len (m + 1) c)) i ≡ Some a
          → (m + 1 ≤ a) × (a < m + 1 + c)) → (m ≤ a) × (a < m + suc c)
      here zero g rest = let same = same_Some m a g in (omega (arith, same), omega (arith, same))
      here (suc n) g rest = let (l, h) = rest n g in (omega (arith, l), omega (arith, h))

  rising : (m c j k a b : ℕ) → j < k → slice_get (filter p (range_with_len m c)) j ≡ Some a
      → slice_get (filter p (range_with_len m c)) k ≡ Some b → a < b
  rising m zero zero k a b less e g = cc
  rising m zero (suc j) k a b less e g = cc
  rising m (suc c) j k a b less e g = elim (cases_Bool (p m)) [
    | inl t ↦ here j k less (rw t at e) (rw t at g) (λ i n l x y. rising (m + 1) c i n a b l x y)
    | inr f ↦ rising (m + 1) c j k a b less (rw f at e) (rw f at g)
  ]
    where
      here : (i n : ℕ) → i < n → slice_get (m ∷ filter p (range_with_len (m + 1) c)) i ≡ Some a
          → slice_get (m ∷ filter p (range_with_len (m + 1) c)) n ≡ Some b
          → ((h k : ℕ) → h < k → slice_get (filter p (range_with_len (m + 1) c)) h ≡ Some a
          → slice_get (filter p (range_with_len (m + 1) c)) k ≡ Some b → a < b) → a < b
      here zero zero l x y rest = absurd (omega (arith, l))
      here zero (suc n) l x y rest = let same = same_Some m a x in let (low, high) =
          within_row (m + 1) c n b y in omega (arith, same, low)
      here (suc i) zero l x y rest = absurd (omega (arith, l))
      here (suc i) (suc n) l x y rest = rest i n (omega (arith, l)) x y

-- ---- the loads of a kernel

module _ (code : List Instr) where
  abbrev row : List ℕ
  row = filter (stays code) (range_with_len 0 (length code))

  abbrev moved : ℕ → Instr
  moved n = at_places (places code n) (step_at code n)

  load_stays : (ps : List ℕ) (i : Instr) (k : ℕ) → at_places ps i ≡ Load k → i ≡ Load k
  load_stays ps (Load j) k e = e
  load_stays ps (Const x) k e = cc
  load_stays ps (One f t a) k e = cc
  load_stays ps (Two f t a b) k e = cc
  load_stays ps (Select c a b) k e = cc

  -- the number that a load had
  record Was (j input : ℕ) : Type 0 where
    number : ℕ
    at : slice_get row j ≡ Some number
    is : step_at code number ≡ Load input

  was : (j input : ℕ) → slice_get (loading_once code) j ≡ Some (Load input) → Was j input
  was j input e = go (slice_get row j) refl (sym (slice_get-map moved row j) ∙ e)
    where
      go : (o : Option ℕ) → slice_get row j ≡ o → option_map moved o ≡ Some (Load input)
          → Was j input
      go None at g = cc
      go (Some n) at g = record {
        number = n;
        at = at;
        is =
            load_stays (places code n) (step_at code n) input (same_Some (moved n) (Load input) g);
      }

  -- one that isn't the last is the first that loads its input
  is_first : (n : ℕ) → stays code n ≡ true → suc n < length code → first_load_of code n ≡ n
  is_first n h less = elim (eqb_tells (first_load_of code n) n) [
    | inl p ↦ p.1
    | inr p ↦ elim (eqb_tells (n + 1) (length code)) [
      | inl q ↦ let e = q.1 in absurd (omega (arith, e, less))
      | inr q ↦ let f : false ≡ true = (λ i. sym p.0 i || sym q.0 i) ∙ h in cc
    ]
  ]

  pub load_once : (j k input : ℕ) → j < k → k + 1 < length (loading_once code)
      → slice_get (loading_once code) j ≡ Some (Load input)
      → slice_get (loading_once code) k ≡ Some (Load input) → ⊥
  load_once j k input less more e g =
      let a = was j input e in
      let b = was k input g in
      let long = length-map row moved in
      let next = slice_get-get_or row (k + 1) 0 (omega (arith, long, more)) in
      let behind = within_row (stays code) 0 (length code) (k + 1) (get_or row (k + 1) 0) next in
      let end = behind.1 in
      let first = rising (stays code) 0 (length code) j k a.number b.number less a.at b.at in
      let second = rising (stays code) 0 (length code) k (k + 1) b.number (get_or row (k + 1) 0)
      (omega arith) b.at next in
      let one =
      is_first a.number (passes (stays code) (range_with_len 0 (length code)) j a.number a.at)
      (omega (arith, end, first, second)) in
      let other =
      is_first b.number (passes (stays code) (range_with_len 0 (length code)) k b.number b.at)
      (omega (arith, end, second)) in
      let same : a.number ≡ b.number = sym one ∙ ap (first_like code a.number) a.is
      ∙ sym (ap (first_like code b.number) b.is) ∙ other in
      omega (arith, first, same)

-- ---- an operation

-- one that has no kernel stays as it is
pub no_kernel_stays : (op : Op) → kernel_of op ≡ None → one_load op ≡ op
no_kernel_stays op none =
    ap (λ (k : Option (List Instr)).
    unwrap_or (option_map (λ (code : List Instr). map_once code (reads_of op) (target_of op)) k) op)
    none

pub other_stays : (op : Op) → is_map op ≡ false → one_load op ≡ op
other_stays op h = go (kernel_of op) refl
  where
    go : (k : Option (List Instr)) → kernel_of op ≡ k → one_load op ≡ op
    go (Some code) is = let f : true ≡ false = sym (has_map op code is) ∙ h in cc
    go None is = no_kernel_stays op is

pub same_reads : (op : Op) (a : ℕ) → stands_in (reads_of (one_load op)) a
    ≡ stands_in (reads_of op) a
same_reads op a =
    by_kernel (λ (o : Op). stands_in (reads_of (one_load o)) a ≡ stands_in (reads_of o) a)
    (λ code ins out. distinct_stands ins a)
    (λ o none. ap (λ (p : Op). stands_in (reads_of p) a) (no_kernel_stays o none)) op

-- it has no more inputs and instructions than another
abbrev HasNoMore : Op → Op → Type 0
HasNoMore other op = (length (reads_of other) ≤ length (reads_of op))
    × (instruction_count other ≤ instruction_count op)

pub fewer_of : (op : Op) → (length (reads_of (one_load op)) ≤ length (reads_of op))
    × (instruction_count (one_load op) ≤ instruction_count op)
fewer_of op =
    by_kernel (λ (o : Op). HasNoMore (one_load o) o)
    (λ code ins out. (
      length-distinct ins,
      (let steps = fewer_steps (map (over_distinct ins) code) in let long =
          length-map code (over_distinct ins) in omega (arith, steps, long)),
    ))
    (λ o none. subst (λ (p : Op). HasNoMore p o) (sym (no_kernel_stays o none))
    (omega arith, omega arith)) op

-- one load of each array makes no small map too large
pub not_larger : (code : List Instr) (ins : List ℕ) (out : ℕ) → length code ≤ 32 → length ins ≤ 8
    → (32 < instruction_count (one_load (map_of code ins out)))
    ⊎ (8 < length (reads_of (one_load (map_of code ins out)))) → ⊥
not_larger code ins out steps inputs (inl more) =
    let few = (fewer_of (map_of code ins out)).1 in omega (arith, steps, more, few)
not_larger code ins out steps inputs (inr more) =
    let few = (fewer_of (map_of code ins out)).0 in omega (arith, inputs, more, few)
