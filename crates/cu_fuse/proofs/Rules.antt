-- The tests of a merge say what its rule says.
use Rattle.std.proofs.Common.{◌≡◌, ◌⊎◌, true≢false, inl, inr, ℕ, zero, suc, ◌+◌, ◌<◌, ◌≤◌, ◌==◌, ◌&&◌, not, nat_le, cond, Bool, true, false, List, [], ◌∷◌, ◌++◌, length, drop, refl, ap, sym, ◌∙◌, arith}
use Rattle.std.specs.List.{count_by, list_any}
use Rattle.std.specs.Prelude.{flat_map}
use Rattle.std.proofs.lemmas.Bool.{and_parts, cases_Bool, leb-true}
use Rattle.std.proofs.lemmas.Bool.Decides.{eqb_tells, nat_tests}
use Rattle.std.proofs.lemmas.List.Sums.{sum_by-append, sum_by-cons}
use Rattle.std.proofs.lemmas.Slice.Eq.{bytes_eq-Decides}
use Rattle.cu_grid.specs.Grid.{RegularGrid}
use Rattle.cu_op.specs.declared.operation.Planned.{Planned}
use Rattle.cu_op.specs.Arrays.{grid_at, same_grid}
use Rattle.cu_op.specs.Operation.{reads_of, target_of}
use Rattle.cu_op.specs.Projection.{instruction_count}
use Rattle.cu_fuse.specs.Fused.{SettingView, has_one_reader, is_reader, joint, joint_op, may_merge, stands_once}
use Rattle.cu_op.specs.Numbers.{number_in, stands_in}
use Rattle.cu_fuse.specs.Rule.{MayMerge}
use Rattle.cu_fuse.proofs.Fusing.{tested, grids_equal}

-- ---- how often a number stands in a list

abbrev count : List ℕ → ℕ → ℕ
count xs a = count_by (λ b. b == a) xs

count_here : (x a : ℕ) (xs : List ℕ) → (x == a) ≡ true → count (x ∷ xs) a ≡ suc (count xs a)
count_here x a xs h = let c = sum_by-cons (λ (b : ℕ). cond (b == a) 1 0) x xs in let one : ◌≡◌ {A = ℕ} (cond (x == a) 1 0) 1 = ap (λ (t : Bool). cond {A = ℕ} t 1 0) h in omega (arith, c, one)

count_other : (x a : ℕ) (xs : List ℕ) → (x == a) ≡ false → count (x ∷ xs) a ≡ count xs a
count_other x a xs h = let c = sum_by-cons (λ (b : ℕ). cond (b == a) 1 0) x xs in let none : ◌≡◌ {A = ℕ} (cond (x == a) 1 0) 0 = ap (λ (t : Bool). cond {A = ℕ} t 1 0) h in omega (arith, c, none)

absent_zero : (xs : List ℕ) (a : ℕ) → stands_in xs a ≡ false → count xs a ≡ 0
absent_zero [] a h = refl
absent_zero (x ∷ xs) a h = elim (eqb_tells x a) [
  | inl p ↦ let t : true ≡ false = rw p.0 at h in cc
  | inr p ↦ count_other x a xs p.0 ∙ absent_zero xs a (rw p.0 at h)
]

zero_absent : (xs : List ℕ) (a : ℕ) → count xs a ≡ 0 → stands_in xs a ≡ false
zero_absent [] a h = refl
zero_absent (x ∷ xs) a h = elim (eqb_tells x a) [
  | inl p ↦ let c = count_here x a xs p.0 in absurd (omega (arith, c, h))
  | inr p ↦ let c = count_other x a xs p.0 in let rest = zero_absent xs a (omega (arith, c, h)) in rw p.0 rest
]

present_some : (xs : List ℕ) (a : ℕ) → stands_in xs a ≡ true → 0 < count xs a
present_some xs a h = elim (cases_zero (count xs a)) [ inl none ↦ let f = zero_absent xs a none in absurd (true≢false (sym h ∙ f)) | inr some ↦ some ]
  where
    cases_zero : (n : ℕ) → (n ≡ 0) ⊎ (0 < n)
    cases_zero zero = inl refl
    cases_zero (suc n) = inr (omega arith)

-- the test that a number stands once goes on behind another number
once_behind : (x a : ℕ) (xs : List ℕ) → (x == a) ≡ false → stands_once (x ∷ xs) a ≡ stands_once xs a
once_behind x a xs h = rw h (ap (λ n. stands_in xs a && not (stands_in (drop n (x ∷ xs)) a)) (let z : suc (number_in xs a) + 1 ≡ suc (number_in xs a + 1) = omega arith in z))

once_here : (x a : ℕ) (xs : List ℕ) → (x == a) ≡ true → stands_once (x ∷ xs) a ≡ not (stands_in xs a)
once_here x a xs h = rw h refl

once_one : (xs : List ℕ) (a : ℕ) → stands_once xs a ≡ true → count xs a ≡ 1
once_one [] a h = cc
once_one (x ∷ xs) a h = elim (eqb_tells x a) [
  | inl p ↦
      let n : not (stands_in xs a) ≡ true = sym (once_here x a xs p.0) ∙ h in
      let c = count_here x a xs p.0 in
      let none = absent_zero xs a (not_is (stands_in xs a) n) in
      omega (arith, c, none)
  | inr p ↦ count_other x a xs p.0 ∙ once_one xs a (sym (once_behind x a xs p.0) ∙ h)
]
  where
    not_is : (b : Bool) → not b ≡ true → b ≡ false
    not_is true h = cc
    not_is false h = refl

one_once : (xs : List ℕ) (a : ℕ) → count xs a ≡ 1 → stands_once xs a ≡ true
one_once [] a h = absurd (omega (arith, h))
one_once (x ∷ xs) a h = elim (eqb_tells x a) [
  | inl p ↦ let c = count_here x a xs p.0 in once_here x a xs p.0 ∙ ap not (zero_absent xs a (omega (arith, c, h)))
  | inr p ↦ let c = count_other x a xs p.0 in once_behind x a xs p.0 ∙ one_once xs a (omega (arith, c, h))
]

-- ---- how many inputs of operations are an array

abbrev reads : List Planned → List ℕ
reads os = flat_map (λ o. reads_of o.op) os

unread_zero : (os : List Planned) (a : ℕ) → list_any (is_reader a) os ≡ false → count (reads os) a ≡ 0
unread_zero [] a h = refl
unread_zero (o ∷ os) a h = elim (cases_Bool (is_reader a o)) [
  | inl t ↦ let u : true ≡ false = rw t at h in cc
  | inr f ↦
      let c = sum_by-append (λ (b : ℕ). cond (b == a) 1 0) (reads_of o.op) (reads os) in
      let own = absent_zero (reads_of o.op) a f in
      let rest = unread_zero os a (rw f at h) in
      omega (arith, c, own, rest)
]

zero_unread : (os : List Planned) (a : ℕ) → count (reads os) a ≡ 0 → list_any (is_reader a) os ≡ false
zero_unread [] a h = refl
zero_unread (o ∷ os) a h =
    let c = sum_by-append (λ (b : ℕ). cond (b == a) 1 0) (reads_of o.op) (reads os) in
    let own : is_reader a o ≡ false = zero_absent (reads_of o.op) a (omega (arith, c, h)) in
    let rest = zero_unread os a (omega (arith, c, h)) in
    rw own rest

-- one input alone reads the array
pub read_alone : (reader : Planned) (behind : List Planned) (a : ℕ) → has_one_reader reader behind a ≡ true
    → (stands_in (reads_of reader.op) a ≡ true) × (count_by (λ b. b == a) (reads_of reader.op ++ flat_map (λ o. reads_of o.op) behind) ≡ 1)
read_alone reader behind a h =
    let both = and_parts (stands_once (reads_of reader.op) a) (not (list_any (is_reader a) behind)) h in
    let once = and_parts (stands_in (reads_of reader.op) a) (not (stands_in (drop (number_in (reads_of reader.op) a + 1) (reads_of reader.op)) a)) both.0 in
    let c = sum_by-append (λ (b : ℕ). cond (b == a) 1 0) (reads_of reader.op) (reads behind) in
    let own = once_one (reads_of reader.op) a both.0 in
    let rest = unread_zero behind a (not_is _ both.1) in
    (once.0, omega (arith, c, own, rest))
  where
    not_is : (b : Bool) → not b ≡ true → b ≡ false
    not_is true h = cc
    not_is false h = refl

pub alone_read : (reader : Planned) (behind : List Planned) (a : ℕ) → stands_in (reads_of reader.op) a ≡ true
    → count_by (λ b. b == a) (reads_of reader.op ++ flat_map (λ o. reads_of o.op) behind) ≡ 1 → has_one_reader reader behind a ≡ true
alone_read reader behind a read all =
    let c = sum_by-append (λ (b : ℕ). cond (b == a) 1 0) (reads_of reader.op) (reads behind) in
    let some = present_some (reads_of reader.op) a read in
    let own : count (reads_of reader.op) a ≡ 1 = omega (arith, c, all, some) in
    let rest : count (reads behind) a ≡ 0 = omega (arith, c, all, some) in
    let once = one_once (reads_of reader.op) a own in
    let alone = ap not (zero_unread behind a rest) in
    λ i. once i && alone i

-- ---- the rule

pub rule_of : (s : SettingView) (maker reader : Planned) (behind : List Planned) (a : ℕ) → may_merge s maker reader behind a ≡ true → MayMerge s maker reader behind a
rule_of s maker reader behind a may =
    let t = tested s maker reader behind a may in
    let c = sum_by-append (λ (b : ℕ). cond (b == a) 1 0) (reads_of reader.op) (reads behind) in
    let own = once_one (reads_of reader.op) a (λ i. t.read i && t.once i) in
    let rest = unread_zero behind a (not_is _ t.alone) in
    record {
      makes = t.makes;
      takes = t.takes;
      between = λ e. elim (eqb_tells a s.out) [ inl p ↦ let f = not_is (a == s.out) t.between in let y = p.0 in cc | inr p ↦ p.1 e ];
      read = t.read;
      alone = omega (arith, c, own, rest);
      grid = grids_equal (grid_at s.arrays a) (grid_at s.arrays (target_of reader.op)) t.grid;
      inputs = leb-true _ 8 t.inputs;
      instructions = leb-true _ 32 t.instructions;
      allowed = leb-true _ s.allowed t.allowed;
    }
  where
    not_is : (b : Bool) → not b ≡ true → b ≡ false
    not_is true h = cc
    not_is false h = refl

pub rule_met : (s : SettingView) (maker reader : Planned) (behind : List Planned) (a : ℕ) → MayMerge s maker reader behind a → may_merge s maker reader behind a ≡ true
rule_met s maker reader behind a m =
    let c = sum_by-append (λ (b : ℕ). cond (b == a) 1 0) (reads_of reader.op) (reads behind) in
    let all = m.alone in
    let some = present_some (reads_of reader.op) a m.read in
    let own : count (reads_of reader.op) a ≡ 1 = omega (arith, c, all, some) in
    let rest : count (reads behind) a ≡ 0 = omega (arith, c, all, some) in
    let once = one_once (reads_of reader.op) a own in
    let alone = ap not (zero_unread behind a rest) in
    let other : not (a == s.out) ≡ true = elim (eqb_tells a s.out) [ inl p ↦ absurd (m.between p.1) | inr p ↦ ap not p.0 ] in
    let grid : same_grid (grid_at s.arrays a) (grid_at s.arrays (target_of reader.op)) ≡ true = grids_same (grid_at s.arrays a) (grid_at s.arrays (target_of reader.op)) m.grid in
    let inputs : nat_le (length (reads_of (joint_op s maker reader a))) 8 ≡ true = le_true _ 8 m.inputs in
    let instructions : nat_le (instruction_count (joint_op s maker reader a)) 32 ≡ true = le_true _ 32 m.instructions in
    let allowed : nat_le (joint s maker reader a).projected s.allowed ≡ true = le_true _ s.allowed m.allowed in
    λ i. (m.makes i && m.takes i) && (other i && ((once i && alone i) && (grid i && (inputs i && (instructions i && allowed i)))))
  where
    le_true : (n m : ℕ) → n ≤ m → nat_le n m ≡ true
    le_true n m h = grind (arith, nat_tests)

    grids_same : (g h : RegularGrid) → g ≡ h → same_grid g h ≡ true
    grids_same g h e =
        let shapes = (bytes_eq-Decides g.shape h.shape).1 (ap (λ (x : RegularGrid). x.shape) e) in
        let chunks = (bytes_eq-Decides g.chunk h.chunk).1 (ap (λ (x : RegularGrid). x.chunk) e) in
        λ i. shapes i && chunks i
