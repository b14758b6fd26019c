-- The value of a kernel in which another stands in place of a load, and that it fits.
use Rattle.std.proofs.Common.{◌≡◌, ◌≢◌, ◌⊎◌, inl, inr, ℕ, ℤ, zero, suc, ◌+◌, ◌-◌, ◌<◌, nat_lt, List, [], ◌∷◌, ◌++◌, length, map, take, drop, Option, Some, None, get_or, refl, ap, sym, ◌∙◌, subst, arith, append_assoc, append-nil, length-append, length-take-le, ⊎_elim}
use Rattle.std.specs.List.{slice_get}
use Rattle.std.specs.Option.{option_and_then, option_map}
use Rattle.std.proofs.lemmas.Bool.Decides.{eqb_tells}
use Rattle.std.proofs.Math.Seq.{get_or-append_seam}
use Rattle.std.proofs.lemmas.Bool.{cases_Bool, ltb-true, ltb-false}
use Rattle.std.proofs.lemmas.List.{length-map, get_or_append_left}
use Rattle.std.proofs.lemmas.Option.{same_Some, slice_get_within, slice_get_past}
use Rattle.cu_num.specs.declared.types.Dtype.{Dtype}
use Rattle.cu_num.specs.declared.types.Dtype.TheVariants.{Bool}
use Rattle.cu_op.specs.declared.kernel.Instr.{Instr}
use Rattle.cu_op.specs.declared.kernel.Instr.TheVariants.{Load, Const, One, Two, Select}
use Rattle.cu_op.specs.Kernel.{last_of, instruction_value, results_from, kernel_value}
use Rattle.cu_op.specs.KernelTypes.{Operand, Typed, GivesOperand, KernelFits}
use Rattle.cu_op.proofs.Alike.{same_then}
use Rattle.cu_fuse.specs.Splice.{put_in, input_behind, moved_behind, in_place, spliced_from, spliced}

-- ---- elements of lists

pub get_past : {T : Type 0} (xs ys : List T) (a : ℕ) → slice_get (xs ++ ys) (length xs + a) ≡ slice_get ys a
get_past {T} [] ys a = ap (slice_get ys) (let z : 0 + a ≡ a = omega arith in z)
get_past {T} (x ∷ xs) ys a =
    ap (slice_get (x ∷ (xs ++ ys))) (let z : suc (length xs) + a ≡ suc (length xs + a) = omega arith in z) ∙ get_past xs ys a

pub get_before : {T : Type 0} (xs ys : List T) (a : ℕ) → a < length xs → slice_get (xs ++ ys) a ≡ slice_get xs a
get_before {T} [] ys a h = absurd (omega arith)
get_before {T} (x ∷ xs) ys zero h = refl
get_before {T} (x ∷ xs) ys (suc a) h = get_before xs ys a (omega arith)

pub get_kept : {T : Type 0} (xs ys : List T) (a : ℕ) (x : T) → slice_get xs a ≡ Some x → slice_get (xs ++ ys) a ≡ Some x
get_kept {T} xs ys a x e = get_before xs ys a (slice_get_within xs a x e) ∙ e

-- the last of a list with one more
pub last_push : {T : Type 0} (xs : List T) (x : T) → last_of (xs ++ x ∷ []) ≡ Some x
last_push {T} xs x =
    let n = length-append xs (x ∷ []) in
    ap (slice_get (xs ++ x ∷ [])) (let z : length (xs ++ x ∷ []) - 1 ≡ length xs + 0 = omega (arith, n) in z) ∙ get_past xs (x ∷ []) 0

-- the last of two lists, where the second has one
pub last_behind : {T : Type 0} (xs ys : List T) → 0 < length ys → last_of (xs ++ ys) ≡ last_of ys
last_behind {T} xs ys h =
    let n = length-append xs ys in
    ap (slice_get (xs ++ ys)) (let z : length (xs ++ ys) - 1 ≡ length xs + (length ys - 1) = omega (arith, n) in z) ∙ get_past xs ys (length ys - 1)

pub last_some : {T : Type 0} (xs : List T) → 0 < length xs → (x : T) × (last_of xs ≡ Some x)
last_some {T} [] h = absurd (omega arith)
last_some {T} (x ∷ []) h = (x, refl)
last_some {T} (x ∷ y ∷ ys) h = let (z, e) = last_some (y ∷ ys) (omega arith) in (z, last_behind (x ∷ []) (y ∷ ys) (omega arith) ∙ e)

-- ---- a list with others in place of an element

get_take : {T : Type 0} (n : ℕ) (xs : List T) (k : ℕ) → k < n → slice_get (take n xs) k ≡ slice_get xs k
get_take {T} zero xs k h = absurd (omega arith)
get_take {T} (suc n) [] k h = refl
get_take {T} (suc n) (x ∷ xs) zero h = refl
get_take {T} (suc n) (x ∷ xs) (suc k) h = get_take n xs k (omega arith)

get_drop : {T : Type 0} (n : ℕ) (xs : List T) (k : ℕ) → slice_get (drop n xs) k ≡ slice_get xs (n + k)
get_drop {T} zero xs k = ap (slice_get xs) (let z : k ≡ 0 + k = omega arith in z)
get_drop {T} (suc n) [] k = sym (slice_get_past [] (suc n + k) (omega arith))
get_drop {T} (suc n) (x ∷ xs) k = get_drop n xs k ∙ ap (slice_get (x ∷ xs)) (let z : suc (n + k) ≡ suc n + k = omega arith in z)

-- an element of those put in, and one before and behind them
pub put_in_here : {T : Type 0} (j k : ℕ) (ms xs : List T) → j < length xs → k < length ms → slice_get (put_in j ms xs) (j + k) ≡ slice_get ms k
put_in_here {T} j k ms xs h b =
    let l : length (take j xs) ≡ j = length-take-le j xs (omega arith) in
    ap (λ n. slice_get (put_in j ms xs) (n + k)) (sym l) ∙ get_past (take j xs) (ms ++ drop (j + 1) xs) k ∙ get_before ms (drop (j + 1) xs) k b

pub put_in_before : {T : Type 0} (j k : ℕ) (ms xs : List T) → j < length xs → k < j → slice_get (put_in j ms xs) k ≡ slice_get xs k
put_in_before {T} j k ms xs h b =
    let l : length (take j xs) ≡ j = length-take-le j xs (omega arith) in
    get_before (take j xs) (ms ++ drop (j + 1) xs) k (omega (arith, l)) ∙ get_take j xs k b

pub put_in_behind : {T : Type 0} (j k : ℕ) (ms xs : List T) → j < length xs → j < k → slice_get (put_in j ms xs) (k + length ms - 1) ≡ slice_get xs k
put_in_behind {T} j k ms xs h b =
    let l : length (take j xs) ≡ j = length-take-le j xs (omega arith) in
    ap (slice_get (put_in j ms xs)) (let z : k + length ms - 1 ≡ length (take j xs) + (length ms + (k - 1 - j)) = omega (arith, l) in z)
    ∙ get_past (take j xs) (ms ++ drop (j + 1) xs) (length ms + (k - 1 - j)) ∙ get_past ms (drop (j + 1) xs) (k - 1 - j) ∙ get_drop (j + 1) xs (k - 1 - j)
    ∙ ap (slice_get xs) (let z : j + 1 + (k - 1 - j) ≡ k = omega arith in z)

-- an element that isn't replaced
pub put_in_same : {T : Type 0} (j k : ℕ) (ms xs : List T) → j < length xs → k ≢ j → slice_get (put_in j ms xs) (input_behind j (length ms) k) ≡ slice_get xs k
put_in_same {T} j k ms xs h other = elim (cases_Bool (nat_lt k j)) [
  | inl less ↦ let b = ltb-true k j less in rw less (put_in_before j k ms xs h b)
  | inr more ↦ let b = ltb-false k j more in rw more (put_in_behind j k ms xs h (let n : k ≢ j = other in omega (arith, b)))
]

put_in_inner : {T : Type 0} (j : ℕ) (ms xs : List T) → j < length xs → (k : ℕ) (t : T) → slice_get ms k ≡ Some t → slice_get (put_in j ms xs) (j + k) ≡ Some t
put_in_inner {T} j ms xs h k t at = put_in_here j k ms xs h (slice_get_within ms k t at) ∙ at

-- ---- options one after another

pub assoc_then : {A B C : Type 0} (o : Option A) (f : A → Option B) (g : B → Option C) (h : A → Option C) → ((x : A) → h x ≡ option_and_then g (f x))
    → option_and_then h o ≡ option_and_then g (option_and_then f o)
assoc_then None f g h e = refl
assoc_then (Some x) f g h e = e x

pub option_cases : {A : Type 0} (o : Option A) → (o ≡ None) ⊎ ((x : A) × (o ≡ Some x))
option_cases None = inl refl
option_cases (Some x) = inr (x, refl)

-- ---- instructions one after another

pub results_append : (xs ys : List Instr) (load : ℕ → Option ℤ) (rs : List ℤ) → results_from (xs ++ ys) load rs ≡ option_and_then (results_from ys load) (results_from xs load rs)
results_append [] ys load rs = refl
results_append (x ∷ xs) ys load rs =
    assoc_then (instruction_value x load rs) (λ v. results_from xs load (rs ++ v ∷ [])) (results_from ys load) (λ v. results_from (xs ++ ys) load (rs ++ v ∷ []))
    (λ v. results_append xs ys load (rs ++ v ∷ []))

results_more : (code : List Instr) (load : ℕ → Option ℤ) (rs all : List ℤ) → results_from code load rs ≡ Some all → length all ≡ length rs + length code
results_more [] load rs all e = let same : rs ≡ all = cc in let l = ap length same in omega (arith, l)
results_more (i ∷ is) load rs all e = go (λ x h. results_more is load (rs ++ x ∷ []) all h) (instruction_value i load rs) e
  where
    go : ((x : ℤ) → results_from is load (rs ++ x ∷ []) ≡ Some all → length all ≡ length (rs ++ x ∷ []) + length is)
        → (o : Option ℤ) → option_and_then (λ x. results_from is load (rs ++ x ∷ [])) o ≡ Some all → length all ≡ length rs + suc (length is)
    go next None h = cc
    go next (Some x) h = let l = next x h in let n = length-append rs (x ∷ []) in omega (arith, l, n)

-- ---- instructions behind others

-- an instruction behind others has its value over their results and its own
moved_value : (i : Instr) (load own : ℕ → Option ℤ) (first : ℕ) (pre rs : List ℤ) → ((k : ℕ) → own k ≡ load (first + k))
    → instruction_value (moved_behind (length pre) first i) load (pre ++ rs) ≡ instruction_value i own rs
moved_value (Load k) load own first pre rs h = sym (h k)
moved_value (Const x) load own first pre rs h = refl
moved_value (One f t a) load own first pre rs h = rw (get_past pre rs a) refl
moved_value (Two f t a b) load own first pre rs h = rw (get_past pre rs a, get_past pre rs b) refl
moved_value (Select c a b) load own first pre rs h = rw (get_past pre rs c, get_past pre rs a, get_past pre rs b) refl

moved_results : (code : List Instr) (load own : ℕ → Option ℤ) (first : ℕ) (pre rs : List ℤ) → ((k : ℕ) → own k ≡ load (first + k))
    → results_from (map (moved_behind (length pre) first) code) load (pre ++ rs) ≡ option_map (λ all. pre ++ all) (results_from code own rs)
moved_results [] load own first pre rs h = refl
moved_results (i ∷ is) load own first pre rs h =
    same_then (instruction_value (moved_behind (length pre) first i) load (pre ++ rs)) (instruction_value i own rs)
    (λ x. results_from (map (moved_behind (length pre) first) is) load ((pre ++ rs) ++ x ∷ [])) (λ x. option_map (λ all. pre ++ all) (results_from is own (rs ++ x ∷ [])))
    (moved_value i load own first pre rs h)
    (λ x. ap (results_from (map (moved_behind (length pre) first) is) load) (append_assoc pre rs (x ∷ [])) ∙ moved_results is load own first pre (rs ++ x ∷ []) h)
    ∙ mapped (instruction_value i own rs) (λ x. results_from is own (rs ++ x ∷ [])) (λ all. pre ++ all)
  where
    mapped : {A B C : Type 0} (o : Option A) (f : A → Option B) (g : B → C) → option_and_then (λ x. option_map g (f x)) o ≡ option_map g (option_and_then f o)
    mapped None f g = refl
    mapped (Some x) f g = refl

-- and it gives what it gave
moved_gives : (i : Instr) (types own : List Dtype) (first : ℕ) (pre os : List Operand) (r : Operand) → ((k : ℕ) (t : Dtype) → slice_get own k ≡ Some t → slice_get types (first + k) ≡ Some t)
    → GivesOperand i own os r → GivesOperand (moved_behind (length pre) first i) types (pre ++ os) r
moved_gives (Load k) types own first pre os r h (t, at, is) = (t, h k t at, is)
moved_gives (Const x) types own first pre os r h is = is
moved_gives (One f t a) types own first pre os r h (d, at, rest, accepted, is) = (d, get_past pre os a ∙ at, rest, accepted, is)
moved_gives (Two f t a b) types own first pre os r h (x, y, at, bt, rest, accepted, is) = (x, y, get_past pre os a ∙ at, get_past pre os b ∙ bt, rest, accepted, is)
moved_gives (Select c a b) types own first pre os r h (x, y, t, ct, at, bt, rest, is) = (x, y, t, get_past pre os c ∙ ct, get_past pre os a ∙ at, get_past pre os b ∙ bt, rest, is)

-- a kernel behind others, and then more, which fits where it fits behind the kernel's results
moved_fits : (code rest : List Instr) (types own : List Dtype) (first : ℕ) (pre os : List Operand) (m t : Dtype)
    → ((k : ℕ) (d : Dtype) → slice_get own k ≡ Some d → slice_get types (first + k) ≡ Some d) → KernelFits code own os m
    → ((all : List Operand) → length all ≡ length os + length code → last_of all ≡ Some (Typed m) → KernelFits rest types (pre ++ all) t)
    → KernelFits (map (moved_behind (length pre) first) code ++ rest) types (pre ++ os) t
moved_fits [] rest types own first pre os m t h fits next = next os (omega arith) fits
moved_fits (i ∷ is) rest types own first pre os m t h (r, gives, fits) next = (
  r,
  moved_gives i types own first pre os r h gives,
  subst (λ (xs : List Operand). KernelFits (map (moved_behind (length pre) first) is ++ rest) types xs t) (sym (append_assoc pre os (r ∷ [])))
      (moved_fits is rest types own first pre (os ++ r ∷ []) m t h fits (λ all n last. next all (let l = length-append os (r ∷ []) in omega (arith, n, l)) last)),
)

-- ---- where earlier results stand

-- each earlier result stands at its place among the new ones
pub record Stand {T : Type 0} (places : List ℕ) (old new : List T) : Type 0 where
  pub each : length places ≡ length old
  pub at : (a : ℕ) (x : T) → slice_get old a ≡ Some x → slice_get new (get_or places a 0) ≡ Some x
  pub last : last_of new ≡ last_of old

stand_nothing : {T : Type 0} → Stand {T = T} [] [] []
stand_nothing {T} = record { each = refl; at = λ a x e. cc; last = refl }

pub pushed_cases : {T : Type 0} (xs : List T) (x y : T) (a : ℕ) → slice_get (xs ++ x ∷ []) a ≡ Some y → (slice_get xs a ≡ Some y) ⊎ ((a ≡ length xs) × (x ≡ y))
pushed_cases {T} [] x y zero e = inr (refl, same_Some x y e)
pushed_cases {T} [] x y (suc a) e = cc
pushed_cases {T} (z ∷ xs) x y zero e = inl e
pushed_cases {T} (z ∷ xs) x y (suc a) e = ⊎_elim (λ h. inl h) (λ (n, h). inr (ap suc n, h)) (pushed_cases xs x y a e)

stand_more : {T : Type 0} (places : List ℕ) (old new ys : List T) (x : T) (place : ℕ) → Stand places old new → last_of ys ≡ Some x → 0 < length ys → place ≡ length new + length ys - 1
    → Stand (places ++ place ∷ []) (old ++ x ∷ []) (new ++ ys)
stand_more {T} places old new ys x place s is some e =
    let n = length-append places (place ∷ []) in
    let m = length-append old (x ∷ []) in
    let l = length-append new ys in
    let each = s.each in
    record {
      each = omega (arith, n, m, each);
      at = λ a y g. ⊎_elim
          (λ h. let b = slice_get_within old a y h in
          ap (slice_get (new ++ ys)) (get_or_append_left places (place ∷ []) 0 a (omega arith)) ∙ get_kept new ys (get_or places a 0) y (s.at a y h))
          (λ (at_end, same). ap (slice_get (new ++ ys)) (ap (λ k. get_or (places ++ place ∷ []) k 0) (at_end ∙ sym each) ∙ get_or-append_seam places place [] 0 ∙ e ∙ ap (λ k. k - 1) (sym l))
          ∙ last_behind new ys some ∙ is ∙ ap Some same)
          (pushed_cases old x y a g);
      last = last_behind new ys some ∙ is ∙ sym (last_push old x);
    }

-- where an earlier result stands, with what it is
stands : {T : Type 0} (places : List ℕ) (old new : List T) (a : ℕ) → Stand places old new → a < length old → slice_get new (get_or places a 0) ≡ slice_get old a
stands {T} places old new a s h = ⊎_elim (λ none. absurd (none_in old a none h)) (λ (x, e). s.at a x e ∙ sym e) (option_cases (slice_get old a))
  where
    none_in : (xs : List T) (i : ℕ) → slice_get xs i ≡ None → i < length xs → ⊥
    none_in [] i e l = omega arith
    none_in (y ∷ ys) zero e l = cc
    none_in (y ∷ ys) (suc i) e l = none_in ys i e (omega arith)

-- ---- one kernel in place of a load

abbrev Behind : ℕ → ℕ → (ℕ → Option ℤ) → (ℕ → Option ℤ) → Type 0
Behind j width old load = (k : ℕ) → k ≢ j → old k ≡ load (input_behind j width k)

-- the results of what stands in place of an instruction: none where it has no value, else the last is its value
pub record Comes (i : Instr) (here : List Instr) (old_load load : ℕ → Option ℤ) (old new : List ℤ) (x : ℤ) : Type 0 where
  pub value : instruction_value i old_load old ≡ Some x
  pub results : List ℤ
  pub are : results_from here load new ≡ Some (new ++ results)
  pub last : last_of results ≡ Some x
  pub each : length results ≡ length here
  pub some : 0 < length results

abbrev Outcome : Instr → List Instr → (ℕ → Option ℤ) → (ℕ → Option ℤ) → List ℤ → List ℤ → Type 0
Outcome i here old_load load old new =
    ((instruction_value i old_load old ≡ None) × (results_from here load new ≡ None)) ⊎ ((x : ℤ) × Comes i here old_load load old new x)

-- one instruction in place of another
alone : (i other : Instr) (old_load load : ℕ → Option ℤ) (old new : List ℤ) → instruction_value other load new ≡ instruction_value i old_load old → Outcome i (other ∷ []) old_load load old new
alone i other old_load load old new e =
    ⊎_elim (λ none. inl (none, ap (option_and_then (λ x. Some (new ++ x ∷ []))) (e ∙ none)))
    (λ (x, some). inr (x, record { value = some; results = x ∷ []; are = ap (option_and_then (λ y. Some (new ++ y ∷ []))) (e ∙ some); last = refl; each = refl; some = omega arith }))
    (option_cases (instruction_value i old_load old))

module _ (j width : ℕ) (inner : List Instr) (positive : 0 < length inner) (load old_load : ℕ → Option ℤ) (others : Behind j width old_load load)
    (own : old_load j ≡ kernel_value inner (λ k. load (j + k))) where
  whole : (old new : List ℤ) (count : ℕ) → count ≡ length new → Outcome (Load j) (map (moved_behind count j) inner) old_load load old new
  whole old new count e =
      let all : results_from (map (moved_behind count j) inner) load new ≡ option_map (λ ys. new ++ ys) (results_from inner (λ k. load (j + k)) []) =
      ap (λ n. results_from (map (moved_behind n j) inner) load new) e ∙ ap (results_from (map (moved_behind (length new) j) inner) load) (sym (append-nil new))
      ∙ moved_results inner load (λ k. load (j + k)) j new [] (λ k. refl) in
      ⊎_elim
      (λ none. inl (own ∙ ap (option_and_then last_of) none, all ∙ ap (option_map (λ ys. new ++ ys)) none))
      (λ (ys, some).
      let n : length ys ≡ length inner = (let more = results_more inner (λ k. load (j + k)) [] ys some in omega (arith, more)) in
      let (x, last) = last_some ys (omega (arith, n, positive)) in
      inr (
        x,
        record {
          value = own ∙ ap (option_and_then last_of) some ∙ last;
          results = ys;
          are = all ∙ ap (option_map (λ zs. new ++ zs)) some;
          last = last;
          each = n ∙ sym (length-map inner (moved_behind count j));
          some = omega (arith, n, positive);
        },
      ))
      (option_cases (results_from inner (λ k. load (j + k)) []))

  outcome : (i : Instr) (types : List Dtype) (os : List Operand) (r : Operand) (places : List ℕ) (old new : List ℤ) (count : ℕ) → GivesOperand i types os r → length os ≡ length old
      → Stand places old new → count ≡ length new → Outcome i (in_place j width inner places count i) old_load load old new
  outcome (Load k) types os r places old new count gives n s e = elim (eqb_tells k j) [
    | inl p ↦
        subst (λ (here : List Instr). Outcome (Load k) here old_load load old new) (let h : map (moved_behind count j) inner ≡ in_place j width inner places count (Load k) = rw p.0 refl in h)
        (subst (λ (m : ℕ). Outcome (Load m) (map (moved_behind count j) inner) old_load load old new) (sym p.1) (whole old new count e))
    | inr p ↦
        subst (λ (here : List Instr). Outcome (Load k) here old_load load old new) (let h : Load (input_behind j width k) ∷ [] ≡ in_place j width inner places count (Load k) = rw p.0 refl in h)
        (alone (Load k) (Load (input_behind j width k)) old_load load old new (sym (others k p.1)))
  ]
  outcome (Const x) types os r places old new count gives n s e = alone (Const x) (Const x) old_load load old new refl
  outcome (One f t a) types os r places old new count (d, at, rest, accepted, is) n s e =
      let b : a < length old = (let w = slice_get_within os a (Typed d) at in omega (arith, w, n)) in
      alone (One f t a) (One f t (get_or places a 0)) old_load load old new (rw (stands places old new a s b) refl)
  outcome (Two f t a b) types os r places old new count (x, y, at, bt, rest, accepted, is) n s e =
      let ha : a < length old = (let w = slice_get_within os a x at in omega (arith, w, n)) in
      let hb : b < length old = (let w = slice_get_within os b y bt in omega (arith, w, n)) in
      alone (Two f t a b) (Two f t (get_or places a 0) (get_or places b 0)) old_load load old new (rw (stands places old new a s ha, stands places old new b s hb) refl)
  outcome (Select c a b) types os r places old new count (x, y, t, ct, at, bt, rest, is) n s e =
      let hc : c < length old = (let w = slice_get_within os c (Typed Bool) ct in omega (arith, w, n)) in
      let ha : a < length old = (let w = slice_get_within os a x at in omega (arith, w, n)) in
      let hb : b < length old = (let w = slice_get_within os b y bt in omega (arith, w, n)) in
      alone (Select c a b) (Select (get_or places c 0) (get_or places a 0) (get_or places b 0)) old_load load old new
      (rw (stands places old new c s hc, stands places old new a s ha, stands places old new b s hb) refl)

  value_from : (is : List Instr) (types : List Dtype) (os : List Operand) (t : Dtype) (places : List ℕ) (old new : List ℤ) (count : ℕ) → KernelFits is types os t → length os ≡ length old
      → Stand places old new → count ≡ length new
      → option_and_then last_of (results_from (spliced_from j width inner places count is) load new) ≡ option_and_then last_of (results_from is old_load old)
  value_from [] types os t places old new count fits n s e = s.last
  value_from (i ∷ is) types os t places old new count (r, gives, fits) n s e =
      let here : List Instr = in_place j width inner places count i in
      let rest : List Instr = spliced_from j width inner (places ++ (count + length here - 1) ∷ []) (count + length here) is in
      ap (option_and_then last_of) (results_append here rest load new)
      ∙ ⊎_elim
      (λ (none, empty). ap (λ o. option_and_then last_of (option_and_then (results_from rest load) o)) empty ∙ sym (ap (λ o. option_and_then last_of (option_and_then (λ x. results_from is old_load (old ++ x ∷ [])) o)) none))
      (λ (x, c).
      let each = c.each in
      ap (λ o. option_and_then last_of (option_and_then (results_from rest load) o)) c.are
      ∙ value_from is types (os ++ r ∷ []) t (places ++ (count + length here - 1) ∷ []) (old ++ x ∷ []) (new ++ c.results) (count + length here) fits
      (let a = length-append os (r ∷ []) in let b = length-append old (x ∷ []) in omega (arith, a, b, n))
      (stand_more places old new c.results x (count + length here - 1) s c.last c.some (ap (λ m. m + length here - 1) e ∙ ap (λ m. length new + m - 1) (sym each)))
      (let l = length-append new c.results in omega (arith, l, each, e))
      ∙ sym (ap (λ o. option_and_then last_of (option_and_then (λ y. results_from is old_load (old ++ y ∷ [])) o)) c.value))
      (outcome i types os r places old new count gives n s e)

-- a kernel that fits has an instruction
pub code_positive : (code : List Instr) (types : List Dtype) (t : Dtype) → KernelFits code types [] t → 0 < length code
code_positive [] types t fits = cc
code_positive (i ∷ is) types t fits = omega arith

pub spliced_value : (outer inner : List Instr) (outer_types inner_types : List Dtype) (t m : Dtype) (j : ℕ) (load old : ℕ → Option ℤ)
    → KernelFits outer outer_types [] t → KernelFits inner inner_types [] m
    → ((k : ℕ) → k ≢ j → old k ≡ load (input_behind j (length inner_types) k)) → old j ≡ kernel_value inner (λ k. load (j + k))
    → kernel_value (spliced j (length inner_types) inner outer) load ≡ kernel_value outer old
spliced_value outer inner outer_types inner_types t m j load old fits inner_fits others own =
    value_from j (length inner_types) inner (code_positive inner inner_types m inner_fits) load old others own outer outer_types [] t [] [] [] 0 fits refl stand_nothing refl

-- ---- and it fits

module _ (j : ℕ) (inner : List Instr) (types inner_types : List Dtype) (m t : Dtype) (inner_fits : KernelFits inner inner_types [] m) (at_j : slice_get types j ≡ Some m) where
  width : ℕ
  width = length inner_types

  step_fits : (i : Instr) (rest : List Instr) (os new : List Operand) (r : Operand) (places : List ℕ) (count : ℕ) → GivesOperand i types os r → Stand places os new → count ≡ length new
      → ((ys : List Operand) → last_of ys ≡ Some r → length ys ≡ length (in_place j (length inner_types) inner places count i) → KernelFits rest (put_in j inner_types types) (new ++ ys) t)
      → KernelFits (in_place j (length inner_types) inner places count i ++ rest) (put_in j inner_types types) new t
  step_fits (Load k) rest os new r places count (d, at, is) s e next = elim (eqb_tells k j) [
    | inl p ↦
        let here : map (moved_behind count j) inner ≡ in_place j (length inner_types) inner places count (Load k) = rw p.0 refl in
        let typed : Typed m ≡ r = ap Typed (same_Some m d (sym at_j ∙ ap (slice_get types) (sym p.1) ∙ at)) ∙ sym is in
        let more : KernelFits (map (moved_behind (length new) j) inner ++ rest) (put_in j inner_types types) (new ++ []) t =
        moved_fits inner rest (put_in j inner_types types) inner_types j new [] m t (put_in_inner j inner_types types (slice_get_within types j m at_j)) inner_fits
        (λ all n last. next all (last ∙ ap Some typed) ((let own : length all ≡ length inner = omega (arith, n) in own) ∙ sym (length-map inner (moved_behind count j)) ∙ ap length here)) in
        subst (λ (code : List Instr). KernelFits (code ++ rest) (put_in j inner_types types) new t) here
        (subst (λ (n : ℕ). KernelFits (map (moved_behind n j) inner ++ rest) (put_in j inner_types types) new t) (sym e)
        (subst (λ (xs : List Operand). KernelFits (map (moved_behind (length new) j) inner ++ rest) (put_in j inner_types types) xs t) (append-nil new) more))
    | inr p ↦
        let here : Load (input_behind j (length inner_types) k) ∷ [] ≡ in_place j (length inner_types) inner places count (Load k) = rw p.0 refl in
        subst (λ (code : List Instr). KernelFits (code ++ rest) (put_in j inner_types types) new t) here
        (r, (d, put_in_same j k inner_types types (slice_get_within types j m at_j) p.1 ∙ at, is), next (r ∷ []) refl (ap length here))
  ]
  step_fits (Const x) rest os new r places count is s e next = (r, is, next (r ∷ []) refl refl)
  step_fits (One f u a) rest os new r places count (d, at, arg, accepted, is) s e next = (r, (d, s.at a (Typed d) at, arg, accepted, is), next (r ∷ []) refl refl)
  step_fits (Two f u a b) rest os new r places count (x, y, at, bt, have, accepted, is) s e next = (r, (x, y, s.at a x at, s.at b y bt, have, accepted, is), next (r ∷ []) refl refl)
  step_fits (Select c a b) rest os new r places count (x, y, u, ct, at, bt, have, is) s e next =
      (r, (x, y, u, s.at c (Typed Bool) ct, s.at a x at, s.at b y bt, have, is), next (r ∷ []) refl refl)

  fits_from : (is : List Instr) (os new : List Operand) (places : List ℕ) (count : ℕ) → KernelFits is types os t → Stand places os new → count ≡ length new
      → KernelFits (spliced_from j (length inner_types) inner places count is) (put_in j inner_types types) new t
  fits_from [] os new places count fits s e = s.last ∙ fits
  fits_from (i ∷ is) os new places count (r, gives, fits) s e =
      let here : List Instr = in_place j (length inner_types) inner places count i in
      step_fits i (spliced_from j (length inner_types) inner (places ++ (count + length here - 1) ∷ []) (count + length here) is) os new r places count gives s e
      (λ ys last n.
      fits_from is (os ++ r ∷ []) (new ++ ys) (places ++ (count + length here - 1) ∷ []) (count + length here) fits
      (stand_more places os new ys r (count + length here - 1) s last (some_of ys r last) (ap (λ c. c + length here - 1) e ∙ ap (λ c. length new + c - 1) (sym n)))
      (let l = length-append new ys in omega (arith, l, n, e)))
    where
      some_of : (ys : List Operand) (x : Operand) → last_of ys ≡ Some x → 0 < length ys
      some_of [] x h = cc
      some_of (y ∷ ys) x h = omega arith

pub spliced_fits : (outer inner : List Instr) (outer_types inner_types : List Dtype) (t m : Dtype) (j : ℕ)
    → KernelFits outer outer_types [] t → KernelFits inner inner_types [] m → slice_get outer_types j ≡ Some m
    → KernelFits (spliced j (length inner_types) inner outer) (put_in j inner_types outer_types) [] t
spliced_fits outer inner outer_types inner_types t m j fits inner_fits at =
    fits_from j inner outer_types inner_types m t inner_fits at outer [] [] [] 0 fits stand_nothing refl
