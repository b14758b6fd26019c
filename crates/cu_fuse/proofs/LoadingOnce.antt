-- A kernel with one load of each input has the value that it had, and fits.
use Rattle.std.proofs.Common.{◌≡◌, ◌≢◌, ◌⊎◌, inl, inr, ℕ, ℤ, zero, suc, ◌+◌, ◌<◌, ◌≤◌, cond, Bool, true, false, List, [], ◌∷◌, ◌++◌, length, drop, drop-drop, map, Option, Some, None, get_or, refl, ap, sym, ◌∙◌, subst, arith, length-append, length-drop, ⊎_elim}
use Rattle.std.specs.List.{count_by, filter, position_or_len, range_with_len, slice_get}
use Rattle.std.specs.Option.{option_and_then, option_map}
use Rattle.std.proofs.lemmas.Bool.{true≢false}
use Rattle.std.proofs.lemmas.Bool.Decides.{eqb_tells}
use Rattle.std.proofs.lemmas.List.{get_or-drop, length-map, map-append}
use Rattle.std.proofs.lemmas.List.Elements.{filter-append}
use Rattle.std.proofs.lemmas.List.FromFn.{get_or-map-range_with_len, length-map-range_with_len, length-range_with_len, map-range_with_len_more}
use Rattle.std.proofs.lemmas.List.Sums.{count_by-le-length, fails_before_first, length-filter, passes_at_first, sum_by_push}
use Rattle.std.proofs.lemmas.Option.{slice_get_cases, slice_get_within}
use Rattle.cu_num.specs.declared.types.Dtype.{Dtype}
use Rattle.cu_num.specs.declared.types.Dtype.TheVariants.{Bool as BoolType}
use Rattle.cu_op.specs.declared.kernel.Instr.{Instr}
use Rattle.cu_op.specs.declared.kernel.Instr.TheVariants.{Load, Const, One, Two, Select}
use Rattle.cu_op.specs.Kernel.{instruction_value, kernel_value, last_of, results_from}
use Rattle.cu_op.specs.KernelTypes.{GivesOperand, KernelFits, Operand, Typed}
use Rattle.cu_fuse.specs.Once.{at_places, first_like, first_load_of, loading_once, loads, place, places, stays, step_at}
use Rattle.cu_fuse.proofs.Splicing.{get_kept, get_past, last_push, option_cases, pushed_cases}

-- ---- numbers in a row

pub range_more : (a n : ℕ) → range_with_len a (suc n) ≡ range_with_len a n ++ (a + n) ∷ []
range_more a zero = ap (λ (k : ℕ). k ∷ []) (let z : a ≡ a + 0 = omega arith in z)
range_more a (suc n) =
    ap (λ (l : List ℕ). a ∷ l) (range_more (a + 1) n)
    ∙ ap (λ (k : ℕ). a ∷ (range_with_len (a + 1) n ++ k ∷ []))
    (let z : a + 1 + n ≡ a + suc n = omega arith in z)

-- ---- which instructions stay

loads_is : (k : ℕ) (i : Instr) → loads k i ≡ true → i ≡ Load k
loads_is k (Load j) h = elim (eqb_tells j k) [
  | inl p ↦ ap Load p.1
  | inr p ↦ let f = sym h ∙ p.0 in cc
]
loads_is k (Const x) h = cc
loads_is k (One f t a) h = cc
loads_is k (Two f t a b) h = cc
loads_is k (Select c a b) h = cc

load_loads : (k : ℕ) → loads k (Load k) ≡ true
load_loads k = elim (eqb_tells k k) [ inl p ↦ p.0 | inr p ↦ absurd (p.1 refl) ]

module _ (code : List Instr) where
  -- how many of the first n instructions stay
  abbrev pub kept : ℕ → ℕ
  kept n = count_by (stays code) (range_with_len 0 n)

  kept_more : (n : ℕ) → kept (suc n) ≡ kept n + cond (stays code n) 1 0
  kept_more n =
      ap (count_by (stays code)) (range_more 0 n
      ∙ ap (λ (k : ℕ). range_with_len 0 n ++ k ∷ []) (let z : 0 + n ≡ n = omega arith in z))
      ∙ sum_by_push (λ (m : ℕ). cond (stays code m) 1 0) (range_with_len 0 n) n

  pub first_stays : (n : ℕ) → first_load_of code n ≡ n → stays code n ≡ true
  first_stays n first = elim (eqb_tells (first_load_of code n) n) [
    | inl p ↦ rw p.0 refl
    | inr p ↦ absurd (p.1 first)
  ]

  pub last_stays : (n : ℕ) → suc n ≡ length code → stays code n ≡ true
  last_stays n last = elim (eqb_tells (first_load_of code n) n) [
    | inl p ↦ rw p.0 refl
    | inr p ↦ rw p.0 (elim (eqb_tells (n + 1) (length code)) [
      | inl q ↦ q.0
      | inr q ↦ absurd (q.1 (omega (arith, last)))
    ])
  ]

  pub other_goes : (n : ℕ) → first_load_of code n ≢ n → suc n ≢ length code → stays code n ≡ false
  other_goes n other more = elim (eqb_tells (first_load_of code n) n) [
    | inl p ↦ absurd (other p.1)
    | inr p ↦ rw p.0 (elim (eqb_tells (n + 1) (length code)) [
      | inl q ↦ let e = q.1 in absurd (more (omega (arith, e)))
      | inr q ↦ q.0
    ])
  ]

  -- an instruction that isn't the first of its like loads what an earlier one does
  pub record Again (n : ℕ) : Type 0 where
    pub input : ℕ
    pub first : ℕ
    pub here : step_at code n ≡ Load input
    pub there : step_at code first ≡ Load input
    pub is : first_load_of code n ≡ first
    pub same : first_load_of code first ≡ first
    pub before : first < n

  again_load : (n k : ℕ) → n < length code → step_at code n ≡ Load k
      → first_load_of code n ≢ n → Again n
  again_load n k within here other =
      let f = position_or_len (loads k) code in
      let is : first_load_of code n ≡ f = ap (first_like code n) here in
      let low : f ≤ n =
      not_past f n
      (λ l. true≢false (sym (ap (loads k) here ∙ load_loads k)
      ∙ fails_before_first (loads k) code n (Load 0) l)) in
      let before : f < n = (let ne : f ≢ n = (λ e. other (is ∙ e)) in omega (arith, low, ne)) in
      let there : step_at code f ≡ Load k = loads_is k (step_at code f)
      (passes_at_first (loads k) code (Load 0) (omega (arith, before, within))) in
      record {
        input = k;
        first = f;
        here = here;
        there = there;
        is = is;
        same = ap (first_like code f) there;
        before = before;
      }
    where
      not_past : (a b : ℕ) → (b < a → ⊥) → a ≤ b
      not_past a b h = omega (arith, h)

  pub again_of : (n : ℕ) → n < length code → first_load_of code n ≢ n → Again n
  again_of n within other = go (step_at code n) refl
    where
      go : (i : Instr) → step_at code n ≡ i → Again n
      go (Load k) e = again_load n k within e other
      go (Const x) e = absurd (other (ap (first_like code n) e))
      go (One f t a) e = absurd (other (ap (first_like code n) e))
      go (Two f t a b) e = absurd (other (ap (first_like code n) e))
      go (Select c a b) e = absurd (other (ap (first_like code n) e))

  -- ---- what is left

  -- the instruction that stands in place of number n, and what is left of m from number n on
  abbrev moved : ℕ → Instr
  moved n = at_places (places code n) (step_at code n)

  abbrev rest : ℕ → ℕ → List Instr
  rest n m = map moved (filter (stays code) (range_with_len n m))

  rest_stays : (n m : ℕ) → stays code n ≡ true → rest n (suc m) ≡ moved n ∷ rest (n + 1) m
  rest_stays n m h =
      λ i. map moved (cond (h i) (n ∷ filter (stays code) (range_with_len (n + 1) m))
      (filter (stays code) (range_with_len (n + 1) m)))

  rest_goes : (n m : ℕ) → stays code n ≡ false → rest n (suc m) ≡ rest (n + 1) m
  rest_goes n m h =
      λ i. map moved (cond (h i) (n ∷ filter (stays code) (range_with_len (n + 1) m))
      (filter (stays code) (range_with_len (n + 1) m)))

  -- Behind n instructions: each result stands at its place among what is left, and a load's is what
  -- its input gives.
  pub record Now {T : Type 0} (given : ℕ → Option T) (n : ℕ) (old new : List T) : Type 0 where
    pub each : length old ≡ n
    pub long : length new ≡ kept n
    pub at : (a : ℕ) (x : T) → slice_get old a ≡ Some x → slice_get new (place code a) ≡ Some x
    pub loaded : (a k : ℕ) (x : T) → slice_get old a ≡ Some x → step_at code a ≡ Load k
        → given k ≡ Some x

  now_nothing : {T : Type 0} (given : ℕ → Option T) → Now given 0 [] []
  now_nothing {T} given = record {
    each = refl;
    long = refl;
    at = λ a x e. cc;
    loaded =
        λ a k x e h. cc;
  }

  -- one that stays
  now_more : {T : Type 0} (given : ℕ → Option T) (n : ℕ) (old new : List T) (x : T)
      → Now given n old new → first_load_of code n ≡ n
      → ((k : ℕ) → step_at code n ≡ Load k → given k ≡ Some x)
      → Now given (n + 1) (old ++ x ∷ []) (new ++ x ∷ [])
  now_more {T} given n old new x s first is =
      let each = s.each in
      let long = s.long in
      let one : ◌≡◌ {A = ℕ} (cond (stays code n) 1 0) 1 = ap (λ (b : Bool). cond {A = ℕ} b 1 0)
      (first_stays n first) in
      let more = kept_more n in
      record {
        each = (let l = length-append old (x ∷ []) in omega (arith, l, each));
        long = (let l = length-append new (x ∷ []) in
            let z : length (new ++ x ∷ []) ≡ kept (suc n) = omega (arith, l, long, one, more) in z
            ∙ ap kept (let y : suc n ≡ n + 1 = omega arith in y));
        at = λ a y g. ⊎_elim
            (λ h. get_kept new (x ∷ []) (place code a) y (s.at a y h))
            (λ (at_end, same).
            ap (slice_get (new ++ x ∷ []))
            (ap (place code) (at_end ∙ each) ∙ ap kept first ∙ sym long
            ∙ (let z : length new ≡ length new + 0 = omega arith in z))
            ∙ get_past new (x ∷ []) 0 ∙ ap Some same)
            (pushed_cases old x y a g);
        loaded = λ a k y g e. ⊎_elim
            (λ h. s.loaded a k y h e)
            (λ (at_end, same). is k (ap (step_at code) (sym (at_end ∙ each)) ∙ e) ∙ ap Some same)
            (pushed_cases old x y a g);
      }

  -- one that goes, since an earlier one loads the same
  now_again : {T : Type 0} (given : ℕ → Option T) (n : ℕ) (old new : List T) (x : T)
      → Now given n old new → (again : Again n) → suc n ≢ length code
      → given again.input ≡ Some x → Now given (n + 1) (old ++ x ∷ []) new
  now_again {T} given n old new x s again more is =
      let each = s.each in
      let long = s.long in
      let before = again.before in
      let gone : stays code n ≡ false = other_goes n
      (λ e. let f = again.is in omega (arith, f, e, before)) more in
      let none : ◌≡◌ {A = ℕ} (cond (stays code n) 1 0) 0 =
      ap (λ (b : Bool). cond {A = ℕ} b 1 0) gone in
      let next = kept_more n in
      record {
        each = (let l = length-append old (x ∷ []) in omega (arith, l, each));
        long = (let z : length new ≡ kept (suc n) = omega (arith, long, none, next) in z
            ∙ ap kept (let y : suc n ≡ n + 1 = omega arith in y));
        at = λ a y g. ⊎_elim
            (λ h. s.at a y h)
            (λ (at_end, same). ap (slice_get new)
            (ap (place code) (at_end ∙ each) ∙ ap kept (again.is ∙ sym again.same)) ∙ first_one
            ∙ ap Some same)
            (pushed_cases old x y a g);
        loaded = λ a k y g e. ⊎_elim
            (λ h. s.loaded a k y h e)
            (λ (at_end, same). ap given (load_same
            (sym (ap (step_at code) (sym (at_end ∙ each)) ∙ e) ∙ again.here)) ∙ is
            ∙ ap Some same)
            (pushed_cases old x y a g);
      }
    where
      load_same : {j k : ℕ} → Load j ≡ Load k → j ≡ k
      load_same e = cc

      -- what the first of its like gave
      first_one : slice_get new (place code again.first) ≡ Some x
      first_one = go (slice_get_cases old again.first).1
        where
          go : ((z : T) × (again.first < length old) × (slice_get old again.first ≡ Some z)
              × (get_or old again.first z ≡ z))
              ⊎ ((length old ≤ again.first) × (slice_get old again.first ≡ None))
              → slice_get new (place code again.first) ≡ Some x
          go (inl (z, w, e, r)) = s.at again.first z e
              ∙ sym (s.loaded again.first again.input z e again.there) ∙ is
          go (inr (w, e)) = let each = s.each in let before = again.before in
              absurd (omega (arith, w, each, before))

  -- an earlier result, at its place
  moved_to : {T : Type 0} (given : ℕ → Option T) (n : ℕ) (old new : List T) (a : ℕ) (x : T)
      → Now given n old new → slice_get old a ≡ Some x
      → slice_get new (get_or (places code n) a 0) ≡ Some x
  moved_to {T} given n old new a x s e =
      let h : a < n = (let w = slice_get_within old a x e in let each = s.each in
      omega (arith, w, each)) in
      ap (slice_get new) (get_or-map-range_with_len (place code) 0 n a a 0 h (omega arith))
      ∙ s.at a x e

  stands_at : {T : Type 0} (given : ℕ → Option T) (n : ℕ) (old new : List T) (a : ℕ)
      → Now given n old new → a < n → slice_get new (get_or (places code n) a 0) ≡ slice_get old a
  stands_at {T} given n old new a s h = go (slice_get_cases old a).1
    where
      go : ((z : T) × (a < length old) × (slice_get old a ≡ Some z) × (get_or old a z ≡ z))
          ⊎ ((length old ≤ a) × (slice_get old a ≡ None))
          → slice_get new (get_or (places code n) a 0) ≡ slice_get old a
      go (inl (z, w, e, r)) = moved_to given n old new a z s e ∙ sym e
      go (inr (w, e)) = let each = s.each in absurd (omega (arith, w, each, h))

  -- ---- where the instructions from number n on stand

  here_is : (n : ℕ) (i : Instr) (is : List Instr) → drop n code ≡ i ∷ is → step_at code n ≡ i
  here_is n i is e =
      ap (step_at code) (let z : n ≡ n + 0 = omega arith in z) ∙ sym (get_or-drop n code 0 (Load 0))
      ∙ ap (λ (l : List Instr). get_or l 0 (Load 0)) e

  next_is : (n : ℕ) (i : Instr) (is : List Instr) → drop n code ≡ i ∷ is → drop (n + 1) code ≡ is
  next_is n i is e = sym (drop-drop 1 n code) ∙ ap (drop 1) e

  count_is : (n : ℕ) (i : Instr) (is : List Instr) → drop n code ≡ i ∷ is
      → n + suc (length is) ≡ length code
  count_is n i is e = let l = length-drop n code in let m = ap length e in omega (arith, l, m)

  -- ---- the value

  module _ (load : ℕ → Option ℤ) where
    same_value : (i : Instr) (types : List Dtype) (os : List Operand) (r : Operand) (n : ℕ)
        (old new : List ℤ) → GivesOperand i types os r → length os ≡ n
        → Now load n old new → instruction_value (at_places (places code n) i) load new
        ≡ instruction_value i load old
    same_value (Load k) types os r n old new gives each s = refl
    same_value (Const x) types os r n old new gives each s = refl
    same_value (One f t a) types os r n old new (d, at, arg, accepted, is) each s =
        let b : a < n = (let w = slice_get_within os a (Typed d) at in omega (arith, w, each)) in
        rw (stands_at load n old new a s b) refl
    same_value (Two f t a b) types os r n old new (x, y, at, bt, have, accepted, is) each s =
        let ha : a < n = (let w = slice_get_within os a x at in omega (arith, w, each)) in
        let hb : b < n = (let w = slice_get_within os b y bt in omega (arith, w, each)) in
        rw (stands_at load n old new a s ha, stands_at load n old new b s hb) refl
    same_value (Select c a b) types os r n old new (x, y, t, ct, at, bt, have, is) each s =
        let hc : c < n = (let w = slice_get_within os c (Typed BoolType) ct in
        omega (arith, w, each)) in
        let ha : a < n = (let w = slice_get_within os a x at in omega (arith, w, each)) in
        let hb : b < n = (let w = slice_get_within os b y bt in omega (arith, w, each)) in
        rw (
          stands_at load n old new c s hc,
          stands_at load n old new a s ha,
          stands_at load n old new b s hb,
        ) refl

    abbrev last_value : Option (List ℤ) → Option ℤ
    last_value o = option_and_then last_of o

    value_from : (i : Instr) (is : List Instr) (n : ℕ) (types : List Dtype) (os : List Operand)
        (t : Dtype) (old new : List ℤ) → drop n code ≡ i ∷ is
        → KernelFits (i ∷ is) types os t → length os ≡ n → Now load n old new
        → last_value (results_from (rest n (length (i ∷ is))) load new)
        ≡ last_value (results_from (i ∷ is) load old)
    value_from i [] n types os t old new e (r, gives, fits) each s =
        let last : suc n ≡ length code = (let c = count_is n i [] e in omega (arith, c)) in
        let same : instruction_value (moved n) load new ≡ instruction_value i load old =
        ap (λ (j : Instr). instruction_value (at_places (places code n) j) load new)
        (here_is n i [] e) ∙ same_value i types os r n old new gives each s in
        ap (λ (l : List Instr). last_value (results_from l load new))
        (rest_stays n 0 (last_stays n last))
        ∙ ap (λ (o : Option ℤ). last_value (option_and_then (λ x. Some (new ++ x ∷ [])) o)) same
        ∙ pushed (instruction_value i load old)
      where
        pushed : (o : Option ℤ) → last_value (option_and_then (λ x. Some (new ++ x ∷ [])) o)
            ≡ last_value (option_and_then (λ x. Some (old ++ x ∷ [])) o)
        pushed None = refl
        pushed (Some x) = last_push new x ∙ sym (last_push old x)
    value_from i (j ∷ js) n types os t old new e (r, gives, fits) each s =
        let here = here_is n i (j ∷ js) e in
        let next = next_is n i (j ∷ js) e in
        let m = suc (length js) in
        let count : n + suc m ≡ length code = count_is n i (j ∷ js) e in
        let on = value_from j js (n + 1) types (os ++ r ∷ []) t in
        let long : length (os ++ r ∷ []) ≡ n + 1 =
        (let l = length-append os (r ∷ []) in omega (arith, l, each)) in
        elim (eqb_tells (first_load_of code n) n) [
          | inl p ↦
              ap (λ (l : List Instr). last_value (results_from l load new))
              (rest_stays n m (first_stays n p.1))
              ∙ ap (λ (o : Option ℤ). last_value
              (option_and_then (λ x. results_from (rest (n + 1) m) load (new ++ x ∷ [])) o))
              (ap (λ (q : Instr). instruction_value (at_places (places code n) q) load new) here
              ∙ same_value i types os r n old new gives each s)
              ∙ ⊎_elim
              (λ none. ap (λ (o : Option ℤ). last_value
              (option_and_then (λ x. results_from (rest (n + 1) m) load
              (new ++ x ∷ [])) o)) none
              ∙ sym (ap (λ (o : Option ℤ). last_value
              (option_and_then (λ x. results_from (j ∷ js) load (old ++ x ∷ [])) o)) none))
              (λ (x, some). ap (λ (o : Option ℤ). last_value
              (option_and_then (λ y. results_from (rest (n + 1) m) load
              (new ++ y ∷ [])) o)) some
              ∙ on (old ++ x ∷ []) (new ++ x ∷ []) next fits long
              (now_more load n old new x s p.1
              (λ k is. ap (λ (q : Instr). instruction_value q load old) (sym is ∙ here) ∙ some))
              ∙ sym (ap (λ (o : Option ℤ). last_value
              (option_and_then (λ y. results_from (j ∷ js) load (old ++ y ∷ [])) o)) some))
              (option_cases (instruction_value i load old))
          | inr p ↦
              let more : suc n ≢ length code = (λ z. omega (arith, z, count)) in
              let again = again_of n (omega (arith, count)) p.1 in
              let (x, is) = given_before again in
              let some : instruction_value i load old ≡ Some x =
              ap (λ (q : Instr). instruction_value q load old) (sym here ∙ again.here) ∙ is in
              ap (λ (l : List Instr). last_value (results_from l load new))
              (rest_goes n m (other_goes n p.1 more))
              ∙ on (old ++ x ∷ []) new next fits long (now_again load n old new x s again more is)
              ∙ sym (ap (λ (o : Option ℤ). last_value
              (option_and_then (λ y. results_from (j ∷ js) load (old ++ y ∷ [])) o)) some)
        ]
      where
        given_before : (again : Again n) → (x : ℤ) × (load again.input ≡ Some x)
        given_before again = go (slice_get_cases old again.first).1
          where
            go : ((z : ℤ) × (again.first < length old) × (slice_get old again.first ≡ Some z)
                × (get_or old again.first z ≡ z))
                ⊎ ((length old ≤ again.first) × (slice_get old again.first ≡ None))
                → (x : ℤ) × (load again.input ≡ Some x)
            go (inl (z, w, g, r)) = (z, s.loaded again.first again.input z g again.there)
            go (inr (w, g)) = let each = s.each in let before = again.before in
                absurd (omega (arith, w, each, before))

  -- ---- and it fits

  module _ (types : List Dtype) (t : Dtype) where
    abbrev given : ℕ → Option Operand
    given k = option_map Typed (slice_get types k)

    same_gives : (i : Instr) (n : ℕ) (os new : List Operand) (r : Operand)
        → GivesOperand i types os r → Now given n os new
        → GivesOperand (at_places (places code n) i) types new r
    same_gives (Load k) n os new r gives s = gives
    same_gives (Const x) n os new r gives s = gives
    same_gives (One f u a) n os new r (d, at, arg, accepted, is) s =
        (d, moved_to given n os new a (Typed d) s at, arg, accepted, is)
    same_gives (Two f u a b) n os new r (x, y, at, bt, have, accepted, is) s = (
      x,
      y,
      moved_to given n os new a x s at,
      moved_to given n os new b y s bt,
      have,
      accepted,
      is,
    )
    same_gives (Select c a b) n os new r (x, y, u, ct, at, bt, have, is) s = (
      x,
      y,
      u,
      moved_to given n os new c (Typed BoolType) s ct,
      moved_to given n os new a x s at,
      moved_to given n os new b y s bt,
      have,
      is,
    )

    fits_from : (i : Instr) (is : List Instr) (n : ℕ) (os new : List Operand) → drop n code ≡ i ∷ is
        → KernelFits (i ∷ is) types os t → Now given n os new
        → KernelFits (rest n (length (i ∷ is))) types new t
    fits_from i [] n os new e (r, gives, fits) s =
        let last : suc n ≡ length code = (let c = count_is n i [] e in omega (arith, c)) in
        subst (λ (l : List Instr). KernelFits l types new t)
        (sym (rest_stays n 0 (last_stays n last))) (
          r,
          subst (λ (q : Instr). GivesOperand (at_places (places code n) q) types new r)
              (sym (here_is n i [] e)) (same_gives i n os new r gives s),
          last_push new r ∙ sym (last_push os r) ∙ fits,
        )
    fits_from i (j ∷ js) n os new e (r, gives, fits) s =
        let here = here_is n i (j ∷ js) e in
        let next = next_is n i (j ∷ js) e in
        let m = suc (length js) in
        let count : n + suc m ≡ length code = count_is n i (j ∷ js) e in
        let on = fits_from j js (n + 1) (os ++ r ∷ []) in
        elim (eqb_tells (first_load_of code n) n) [
          | inl p ↦
              subst (λ (l : List Instr). KernelFits l types new t)
              (sym (rest_stays n m (first_stays n p.1))) (
                r,
                subst (λ (q : Instr). GivesOperand (at_places (places code n) q) types new r)
                    (sym here) (same_gives i n os new r gives s),
                on (new ++ r ∷ []) next fits (now_more given n os new r s p.1
                    (λ k is. input_gives i k (sym here ∙ is) gives)),
              )
          | inr p ↦
              let more : suc n ≢ length code = (λ z. omega (arith, z, count)) in
              let again = again_of n (omega (arith, count)) p.1 in
              subst (λ (l : List Instr). KernelFits l types new t)
              (sym (rest_goes n m (other_goes n p.1 more)))
              (on new next fits (now_again given n os new r s again more
              (input_gives i again.input (sym here ∙ again.here) gives)))
        ]
      where
        input_gives : (q : Instr) (k : ℕ) → q ≡ Load k → GivesOperand q types os r
            → given k ≡ Some r
        input_gives q k is g =
            let (d, at, same) = subst (λ (v : Instr). GivesOperand v types os r) is g in
            ap (option_map Typed) at ∙ ap Some (sym same)

-- ---- a whole kernel

pub once_value : (code : List Instr) (types : List Dtype) (t : Dtype) (load : ℕ → Option ℤ)
    → KernelFits code types [] t
    → kernel_value (loading_once code) load ≡ kernel_value code load
once_value [] types t load fits = cc
once_value (i ∷ is) types t load fits =
    value_from (i ∷ is) load i is 0 types [] t [] [] refl fits refl (now_nothing (i ∷ is) load)

pub once_fits : (code : List Instr) (types : List Dtype) (t : Dtype) → KernelFits code types [] t
    → KernelFits (loading_once code) types [] t
once_fits [] types t fits = cc
once_fits (i ∷ is) types t fits =
    fits_from (i ∷ is) types t i is 0 [] [] refl fits
    (now_nothing (i ∷ is) (given (i ∷ is) types t))

pub fewer_steps : (code : List Instr) → length (loading_once code) ≤ length code
fewer_steps code =
    let whole = range_with_len 0 (length code) in
    let m = length-map (filter (stays code) whole)
    (λ n. at_places (places code n) (step_at code n)) in
    let f = length-filter (stays code) whole in
    let c = count_by-le-length (stays code) whole in
    let l = length-range_with_len 0 (length code) in
    omega (arith, m, f, c, l)

-- ---- one instruction after another

module _ (code : List Instr) where
  -- what is left of the first n instructions
  abbrev pub so_far : ℕ → List Instr
  so_far n = map (λ m. at_places (places code m) (step_at code m))
      (filter (stays code) (range_with_len 0 n))

  pub so_far_more : (n : ℕ) → so_far (n + 1)
      ≡ so_far n ++ cond (stays code n) (at_places (places code n) (step_at code n) ∷ []) []
  so_far_more n =
      let f : ℕ → Instr = λ m. at_places (places code m) (step_at code m) in
      let row = range_with_len 0 n in
      ap (λ (k : ℕ). map f (filter (stays code) (range_with_len 0 k)))
      (let z : n + 1 ≡ suc n = omega arith in z)
      ∙ ap (λ (l : List ℕ). map f (filter (stays code) l))
      (range_more 0 n ∙ ap (λ (k : ℕ). row ++ k ∷ []) (let z : 0 + n ≡ n = omega arith in z))
      ∙ ap (map f) (filter-append (stays code) row (n ∷ []))
      ∙ map-append f (filter (stays code) row) (filter (stays code) (n ∷ []))
      ∙ ap (λ (l : List Instr). so_far n ++ l) (one (stays code n))
    where
      one : (b : Bool) → map (λ m. at_places (places code m) (step_at code m)) (cond b (n ∷ []) [])
          ≡ cond b (at_places (places code n) (step_at code n) ∷ []) []
      one true = refl
      one false = refl

  pub places_more : (n : ℕ) → places code (n + 1) ≡ places code n ++ place code n ∷ []
  places_more n = map-range_with_len_more (place code) 0 n n (omega arith)

  pub length-places : (n : ℕ) → length (places code n) ≡ n
  length-places n = length-map-range_with_len (place code) 0 n

  pub length-so_far : (n : ℕ) → length (so_far n) ≡ kept code n
  length-so_far n =
      length-map (filter (stays code) (range_with_len 0 n))
      (λ m. at_places (places code m) (step_at code m))
      ∙ length-filter (stays code) (range_with_len 0 n)

  pub few_so_far : (n : ℕ) → length (so_far n) ≤ n
  few_so_far n =
      let l = length-so_far n in
      let c = count_by-le-length (stays code) (range_with_len 0 n) in
      let r = length-range_with_len 0 n in
      omega (arith, l, c, r)

  -- where the result of the next one stands
  pub place_before : (n first : ℕ) → first ≡ first_load_of code n → first < n → n < length code
      → place code n ≡ get_or (places code n) first 0
  place_before n first is less within =
      let again = again_of code n within (λ e. omega (arith, is, e, less)) in
      ap (kept code) (again.is ∙ sym again.same) ∙ ap (place code) (sym again.is ∙ sym is)
      ∙ sym (get_or-map-range_with_len (place code) 0 n first first 0 less (omega arith))

  pub place_here : (n first : ℕ) → first ≡ first_load_of code n → n ≤ first → n < length code
      → place code n ≡ length (so_far n)
  place_here n first is more within =
      elim (eqb_tells (first_load_of code n) n) [
        | inl p ↦ ap (kept code) p.1 ∙ sym (length-so_far n)
        | inr p ↦ let again = again_of code n within p.1 in
            let less = again.before in
            let same = again.is in
            absurd (omega (arith, is, more, less, same))
      ]
