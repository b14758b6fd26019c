-- An array that one input alone reads, and what is read before that input.
use Rattle.cu_op.specs.Operation.{reads_of}
use Rattle.cu_op.specs.PlanView.{PlanView, no_operation, op_of, operation_at}
use Rattle.cu_op.specs.declared.operation.Op.{Op}
use Rattle.cu_op.specs.declared.operation.Planned.{Planned}
use Rattle.cu_fuse.specs.Choosing.{IsEarlier}
use Rattle.cu_fuse.specs.Inlining.{earlier_reads, read_count}
use Rattle.std.proofs.Common.{◌≡◌, ◌≢◌, inl, inr, ℕ, zero, suc, ◌+◌, ◌<◌, ◌≤◌, ◌==◌, List, [], ◌∷◌, ◌++◌, length, take, drop, get_or, Contains, Some, refl, ap, sym, ◌∙◌, subst, arith, Bool, if◌then◌else◌}
use Rattle.std.specs.List.{count_by, flat_map, slice_get}
use Rattle.std.specs.Prelude.{sum_by}
use Rattle.std.proofs.lemmas.Bool.{cases_lt}
use Rattle.std.proofs.lemmas.Bool.Decides.{eqb_tells}
use Rattle.std.proofs.lemmas.List.{drop_more, get_or_past, take-append-drop}
use Rattle.std.proofs.lemmas.List.Elements.{Contains-append_cases, Contains-append_left, Contains-append_right}
use Rattle.std.proofs.lemmas.List.Sums.{get_or-le-sum_by, sum_by-append, sum_by-cons}
use Rattle.std.proofs.lemmas.Option.{get_or_from_slice_get, slice_get_within}

-- ---- how often a number stands in a list

abbrev pub times : ℕ → List ℕ → ℕ
times a xs = count_by (λ b. b == a) xs

abbrev one_if : Bool → ℕ
one_if b = if b then 1 else 0

pub times-cons : (a x : ℕ) (xs : List ℕ) → times a (x ∷ xs) ≡ one_if (x == a) + times a xs
times-cons a x xs = sum_by-cons (λ (b : ℕ). one_if (b == a)) x xs

pub stands_some : (a : ℕ) (xs : List ℕ) → Contains xs a → 1 ≤ times a xs
stands_some a [] (k, l, e) = absurd (omega arith)
stands_some a (x ∷ xs) (zero, l, e) =
    let all = times-cons a x xs in
    elim (eqb_tells x a) [ inl t ↦ let one : one_if (x == a) ≡ 1 = rw t.0 refl in omega (arith, all, one) | inr t ↦ absurd (t.1 e) ]
stands_some a (x ∷ xs) (suc k, l, e) =
    let all = times-cons a x xs in
    let rest = stands_some a xs (k, (let b : suc k < suc (length xs) = l in omega arith), e) in
    omega (arith, all, rest)

pub stands_not : (a : ℕ) (xs : List ℕ) → (Contains xs a → ⊥) → times a xs ≡ 0
stands_not a [] h = refl
stands_not a (x ∷ xs) h =
    let all = times-cons a x xs in
    let rest = stands_not a xs (λ there. h (suc there.0, (let l = there.1 in omega arith), there.2)) in
    elim (eqb_tells x a) [ inl t ↦ absurd (h (0, omega arith, t.1)) | inr t ↦ let none : one_if (x == a) ≡ 0 = rw t.0 refl in omega (arith, all, rest, none) ]

pub none_stands : (a : ℕ) (xs : List ℕ) → times a xs ≡ 0 → Contains xs a → ⊥
none_stands a xs none there = let some = stands_some a xs there in omega (arith, none, some)

-- ---- a sum of which one part is all

only_part : {A : Type 0} (f : A → ℕ) (d : A) (xs : List A) (k : ℕ) → k < length xs → sum_by f xs ≡ 1 → 1 ≤ f (get_or xs k d)
    → (f (get_or xs k d) ≡ 1) × ((j : ℕ) → j < length xs → j ≢ k → f (get_or xs j d) ≡ 0)
only_part f d [] k b one some = absurd (omega arith)
only_part f d (x ∷ xs) zero b one some =
    let all = sum_by-cons f x xs in (
      omega (arith, all, one, some),
      λ j l other. behind j l other,
    )
  where
    behind : (j : ℕ) → j < length (x ∷ xs) → j ≢ 0 → f (get_or (x ∷ xs) j d) ≡ 0
    behind zero l other = absurd (other refl)
    behind (suc j) l other =
        let all = sum_by-cons f x xs in
        let part = get_or-le-sum_by f xs j d (omega (arith, l)) in
        omega (arith, all, one, some, part)
only_part f d (x ∷ xs) (suc k) b one some =
    let all = sum_by-cons f x xs in
    let part = get_or-le-sum_by f xs k d (omega (arith, b)) in
    let rest = only_part f d xs k (omega (arith, b)) (omega (arith, all, one, some, part)) some in
    (rest.0, before rest.1)
  where
    before : ((j : ℕ) → j < length xs → j ≢ k → f (get_or xs j d) ≡ 0)
        → (j : ℕ) → j < length (x ∷ xs) → j ≢ suc k → f (get_or (x ∷ xs) j d) ≡ 0
    before again zero l other =
        let all = sum_by-cons f x xs in
        let part = get_or-le-sum_by f xs k d (omega (arith, b)) in
        omega (arith, all, one, some, part)
    before again (suc j) l other = again j (omega (arith, l)) (λ e. other (ap suc e))

-- ---- operations of a plan

in_at : (xs : List ℕ) (i a : ℕ) → slice_get xs i ≡ Some a → Contains xs a
in_at xs i a e = (i, slice_get_within xs i a e, get_or_from_slice_get xs i a a e)

pub stands_at : (xs : List ℕ) (i a : ℕ) → slice_get xs i ≡ Some a → Contains xs a
stands_at xs i a e = in_at xs i a e

-- only operations of the plan read
pub reader_within : (p : PlanView) (k a : ℕ) → Contains (reads_of (op_of p k)) a → k < length p.ops
reader_within p k a read =
    elim (cases_lt k (length p.ops)) [
      | inl l ↦ l
      | inr past ↦
          let none : op_of p k ≡ no_operation.op = ap (λ (o : Planned). o.op) (get_or_past p.ops k no_operation past) in
          let there : Contains (reads_of no_operation.op) a = subst (λ (o : Op). Contains (reads_of o) a) none read in
          absurd (let l : there.0 < 0 = there.1 in omega (arith, l))
    ]

-- the part of an operation in how often an array is read
part_of : (p : PlanView) (k a : ℕ) → k < length p.ops → times a (reads_of (op_of p k)) ≤ read_count p.ops a
part_of p k a h = get_or-le-sum_by (λ (o : Planned). times a (reads_of o.op)) p.ops k no_operation h

module _ (p : PlanView) (a : ℕ) (once : read_count p.ops a ≡ 1) (k : ℕ) (read : Contains (reads_of (op_of p k)) a) where
  parts_of : (times a (reads_of (op_of p k)) ≡ 1) × ((j : ℕ) → j < length p.ops → j ≢ k → times a (reads_of (op_of p j)) ≡ 0)
  parts_of =
      only_part (λ (o : Planned). times a (reads_of o.op)) no_operation p.ops k (reader_within p k a read) once
      (stands_some a (reads_of (op_of p k)) read)

  pub own_once : times a (reads_of (op_of p k)) ≡ 1
  own_once = parts_of.0

  -- no other operation reads it
  pub no_other : (j : ℕ) → j ≢ k → Contains (reads_of (op_of p j)) a → ⊥
  no_other j other there = none_stands a (reads_of (op_of p j)) (parts_of.1 j (reader_within p j a there) other) there

  pub only_reader : (j : ℕ) → Contains (reads_of (op_of p j)) a → j ≡ k
  only_reader j there = elim (eqb_tells j k) [ inl t ↦ t.1 | inr t ↦ absurd (no_other j t.1 there) ]

  -- no other input of the operation does
  module _ (i : ℕ) (at : slice_get (reads_of (op_of p k)) i ≡ Some a) where
    abbrev reads : List ℕ
    reads = reads_of (op_of p k)

    place_within : i < length reads
    place_within = slice_get_within reads i a at

    pub read_parts : reads ≡ take i reads ++ a ∷ drop (i + 1) reads
    read_parts =
        sym (take-append-drop i reads)
        ∙ ap (λ (l : List ℕ). take i reads ++ l) (drop_more reads i a place_within ∙ ap (λ (x : ℕ). x ∷ drop (i + 1) reads) (get_or_from_slice_get reads i a a at))

    apart : (times a (take i reads) ≡ 0) × (times a (drop (i + 1) reads) ≡ 0)
    apart =
        let one = own_once in
        let whole = ap (times a) read_parts in
        let both = sum_by-append (λ (b : ℕ). one_if (b == a)) (take i reads) (a ∷ drop (i + 1) reads) in
        let some = times-cons a a (drop (i + 1) reads) in
        let here : one_if (a == a) ≡ 1 = elim (eqb_tells a a) [ inl t ↦ rw t.0 refl | inr t ↦ absurd (t.1 refl) ] in
        (omega (arith, one, whole, both, some, here), omega (arith, one, whole, both, some, here))

    pub not_left : Contains (take i reads) a → ⊥
    not_left there = none_stands a (take i reads) apart.0 there

    pub not_right : Contains (drop (i + 1) reads) a → ⊥
    not_right there = none_stands a (drop (i + 1) reads) apart.1 there

-- ---- what is read before an input

of_taken : (ops : List Planned) (k a : ℕ) → Contains (flat_map (λ (o : Planned). reads_of o.op) (take k ops)) a
    → (j : ℕ) × (j < k) × Contains (reads_of (operation_at ops j).op) a
of_taken [] zero a (n, l, e) = absurd (omega arith)
of_taken [] (suc k) a (n, l, e) = absurd (omega arith)
of_taken (o ∷ ops) zero a (n, l, e) = absurd (omega arith)
of_taken (o ∷ ops) (suc k) a there =
    elim (Contains-append_cases (reads_of o.op) (flat_map (λ (x : Planned). reads_of x.op) (take k ops)) a there) [
      | inl here ↦ (0, omega arith, here)
      | inr later ↦ let (j, l, read) = of_taken ops k a later in (suc j, omega (arith, l), read)
    ]

to_taken : (ops : List Planned) (k j a : ℕ) → j < k → j < length ops → Contains (reads_of (operation_at ops j).op) a
    → Contains (flat_map (λ (o : Planned). reads_of o.op) (take k ops)) a
to_taken [] k j a l b read = absurd (omega (arith, b))
to_taken (o ∷ ops) zero j a l b read = absurd (omega (arith, l))
to_taken (o ∷ ops) (suc k) zero a l b read = Contains-append_left (reads_of o.op) (flat_map (λ (x : Planned). reads_of x.op) (take k ops)) a read
to_taken (o ∷ ops) (suc k) (suc j) a l b read =
    Contains-append_right (reads_of o.op) (flat_map (λ (x : Planned). reads_of x.op) (take k ops)) a
    (to_taken ops k j a (omega (arith, l)) (omega (arith, b)) read)

of_front : (xs : List ℕ) (i a : ℕ) → Contains (take i xs) a → (n : ℕ) × (n < i) × (slice_get xs n ≡ Some a)
of_front [] zero a (n, l, e) = absurd (omega arith)
of_front [] (suc i) a (n, l, e) = absurd (omega arith)
of_front (x ∷ xs) zero a (n, l, e) = absurd (omega arith)
of_front (x ∷ xs) (suc i) a (zero, l, e) = (0, omega arith, ap Some e)
of_front (x ∷ xs) (suc i) a (suc n, l, e) =
    let (m, b, at) = of_front xs i a (n, (let w : suc n < suc (length (take i xs)) = l in omega arith), e) in (suc m, omega (arith, b), at)

to_front : (xs : List ℕ) (i n a : ℕ) → n < i → slice_get xs n ≡ Some a → Contains (take i xs) a
to_front [] i n a l at = absurd (let w = slice_get_within [] n a at in omega (arith, w))
to_front (x ∷ xs) zero n a l at = absurd (omega (arith, l))
to_front (x ∷ xs) (suc i) zero a l at = let same : x ≡ a = cc in (0, omega arith, same)
to_front (x ∷ xs) (suc i) (suc n) a l at =
    let rest = to_front xs i n a (omega (arith, l)) at in (suc rest.0, (let w = rest.1 in omega arith), rest.2)

pub place_in : (xs : List ℕ) (a : ℕ) → Contains xs a → (n : ℕ) × (slice_get xs n ≡ Some a)
place_in [] a (n, l, e) = absurd (omega arith)
place_in (x ∷ xs) a (zero, l, e) = (0, ap Some e)
place_in (x ∷ xs) a (suc n, l, e) = let (m, at) = place_in xs a (n, (let w : suc n < suc (length xs) = l in omega arith), e) in (suc m, at)

module _ (p : PlanView) where
  pub earlier_read : (k i a : ℕ) → Contains (earlier_reads p k i) a
      → (j : ℕ) × (n : ℕ) × IsEarlier j n k i × (slice_get (reads_of (op_of p j)) n ≡ Some a)
  earlier_read k i a there =
      elim (Contains-append_cases (flat_map (λ (o : Planned). reads_of o.op) (take k p.ops)) (take i (reads_of (op_of p k))) a there) [
        | inl before ↦
            let (j, l, read) = of_taken p.ops k a before in
            let (n, at) = place_in (reads_of (op_of p j)) a read in (j, n, inl l, at)
        | inr own ↦ let (n, l, at) = of_front (reads_of (op_of p k)) i a own in (k, n, inr (refl, l), at)
      ]

  pub read_earlier : (k i a j n : ℕ) → IsEarlier j n k i → slice_get (reads_of (op_of p j)) n ≡ Some a
      → Contains (earlier_reads p k i) a
  read_earlier k i a j n (inl l) at =
      let read = in_at (reads_of (op_of p j)) n a at in
      Contains-append_left (flat_map (λ (o : Planned). reads_of o.op) (take k p.ops)) (take i (reads_of (op_of p k))) a
      (to_taken p.ops k j a l (reader_within p j a read) read)
  read_earlier k i a j n (inr (e, l)) at =
      Contains-append_right (flat_map (λ (o : Planned). reads_of o.op) (take k p.ops)) (take i (reads_of (op_of p k))) a
      (to_front (reads_of (op_of p k)) i n a l (subst (λ (m : ℕ). slice_get (reads_of (op_of p m)) n ≡ Some a) e at))

  -- an array that one input alone reads isn't read before it
  pub not_before : (k i a : ℕ) → read_count p.ops a ≡ 1 → slice_get (reads_of (op_of p k)) i ≡ Some a
      → Contains (earlier_reads p k i) a → ⊥
  not_before k i a once at there =
      let read = in_at (reads_of (op_of p k)) i a at in
      let (j, n, order, found) = earlier_read k i a there in
      elim order [
        | inl l ↦ no_other p a once k read j (λ e. let same = e in omega (arith, l, same)) (in_at (reads_of (op_of p j)) n a found)
        | inr same ↦
            not_left p a once k read i at
            (to_front (reads_of (op_of p k)) i n a same.1 (subst (λ (m : ℕ). slice_get (reads_of (op_of p m)) n ≡ Some a) same.0 found))
      ]
