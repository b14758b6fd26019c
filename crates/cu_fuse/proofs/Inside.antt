-- What is inside the tasks of an operation is the same in two plans of the same operations, where what is
-- read up to it is inlined in both or in none.
use Rattle.cu_op.proofs.Fetched.{one_of}
use Rattle.cu_op.proofs.Members.{bool_cases}
use Rattle.cu_fuse.proofs.AlikeKinds.{same_scratch, same_input_room, same_output_room, SameLayouts}
use Rattle.cu_op.specs.Arrays.{is_inlined, maker_at}
use Rattle.cu_op.specs.Operation.{reads_of, IsBefore}
use Rattle.cu_op.specs.PlanView.{PlanView, op_of}
use Rattle.cu_op.specs.Projection.{input_room, instruction_count, output_room, projection, scratch_room}
use Rattle.cu_op.specs.Within.{made_by, maker_op, ops_deep, ops_within, stored_reads}
use Rattle.cu_op.specs.declared.layout.ArrayInfo.{ArrayInfo}
use Rattle.cu_op.specs.declared.operation.Op.{Op}
use Rattle.cu_shape.specs.Counts.{largest}
use Rattle.std.proofs.Common.{◌≡◌, ◌≢◌, inl, inr, ℕ, zero, suc, ◌<◌, ◌≤◌, true, false, not, List, [], ◌∷◌, ◌++◌, length, map, Contains, Some, None, Option, refl, ap, sym, ◌∙◌, subst, arith, if◌then◌else◌, Bool}
use Rattle.std.proofs.lemmas.List.Sums.{sum_by-cons}
use Rattle.std.specs.List.{flat_map}
use Rattle.std.specs.Prelude.{sum_by}

-- ---- lists

pub flat_alike : {A B : Type 0} (f g : A → List B) (xs : List A) → ((x : A) → Contains xs x → f x ≡ g x)
    → flat_map f xs ≡ flat_map g xs
flat_alike f g [] h = refl
flat_alike f g (x ∷ xs) h =
    let first = h x (0, omega arith, refl) in
    let rest = flat_alike f g xs (λ y there. h y (suc there.0, (let l = there.1 in omega arith), there.2)) in
    ap (λ own. own ++ flat_map f xs) first ∙ ap (λ rest. g x ++ rest) rest

pub sum_alike : {A : Type 0} (f g : A → ℕ) (xs : List A) → ((x : A) → Contains xs x → f x ≡ g x)
    → sum_by f xs ≡ sum_by g xs
sum_alike f g [] h = refl
sum_alike f g (x ∷ xs) h =
    let first = h x (0, omega arith, refl) in
    let rest = sum_alike f g xs (λ y there. h y (suc there.0, (let l = there.1 in omega arith), there.2)) in
    let a = sum_by-cons f x xs in
    let b = sum_by-cons g x xs in
    omega (arith, first, rest, a, b)

pub map_alike : {A B : Type 0} (f g : A → B) (xs : List A) → ((x : A) → Contains xs x → f x ≡ g x)
    → map f xs ≡ map g xs
map_alike f g [] h = refl
map_alike f g (x ∷ xs) h =
    let first = h x (0, omega arith, refl) in
    let rest = map_alike f g xs (λ y there. h y (suc there.0, (let l = there.1 in omega arith), there.2)) in
    λ i. first i ∷ rest i

nothing : {A B : Type 0} (xs : List A) → flat_map (λ (x : A). let none : List B = [] in none) xs ≡ []
nothing [] = refl
nothing (x ∷ xs) = nothing xs

-- ---- how many of the arrays that operations read are stored

abbrev one_if : Bool → ℕ
one_if b = if b then 1 else 0

pub stored_alike : (arrays other : List ArrayInfo) (op : Op)
    → ((a : ℕ) → Contains (reads_of op) a → is_inlined other a ≡ is_inlined arrays a)
    → stored_reads other op ≡ stored_reads arrays op
stored_alike arrays other op h =
    sum_alike (λ (a : ℕ). one_if (not (is_inlined other a))) (λ (a : ℕ). one_if (not (is_inlined arrays a))) (reads_of op)
    (λ a there. ap (λ b. one_if (not b)) (h a there))

-- ---- the same operations

-- The operations of one plan are those of the other, and so are the layouts and makers of its arrays,
-- of which others may be inlined. Each operation reads what is given or made before it.
pub record AreAlike (p q : PlanView) : Type 0 where
  pub ops : (k : ℕ) → op_of q k ≡ op_of p k
  pub makers : (a : ℕ) → maker_at q.arrays a ≡ maker_at p.arrays a
  pub layouts : SameLayouts p.arrays q.arrays
  pub reserved : q.reserved ≡ p.reserved
  pub before : (k a : ℕ) → Contains (reads_of (op_of p k)) a → IsBefore (maker_at p.arrays a) k
  pub made : (a : ℕ) → is_inlined p.arrays a ≡ true → maker_at p.arrays a ≢ None

module _ (p q : PlanView) (s : AreAlike p q) where
  -- what the operations up to number k read is inlined in both or in none
  abbrev pub Agree : ℕ → Type 0
  Agree k = (j a : ℕ) → j ≤ k → Contains (reads_of (op_of p j)) a → is_inlined q.arrays a ≡ is_inlined p.arrays a

  no_maker : (m : Option ℕ) → m ≢ None → IsBefore m 0 → ⊥
  no_maker None some b = some refl
  no_maker (Some j) some b = absurd (omega arith)

  -- the first operation reads only what is stored
  not_first : (a : ℕ) → Contains (reads_of (op_of p 0)) a → is_inlined p.arrays a ≡ false
  not_first a read =
      elim (bool_cases (is_inlined p.arrays a)) [
        | inl t ↦ absurd (no_maker (maker_at p.arrays a) (s.made a t) (s.before 0 a read))
        | inr f ↦ f
      ]

  abbrev opened : PlanView → ℕ → ℕ → List Op
  opened r n a = if is_inlined r.arrays a then ops_deep r n (maker_op r a) else []

  none_opened : (r : PlanView) (n : ℕ) (xs : List ℕ) → ((a : ℕ) → Contains xs a → is_inlined r.arrays a ≡ false)
      → flat_map (opened r n) xs ≡ []
  none_opened r n xs h =
      flat_alike (opened r n) (λ (a : ℕ). let none : List Op = [] in none) xs (λ a there. let f = h a there in rw f refl)
      ∙ nothing xs

  -- an operation that reads only what is stored has none inside
  pub alone : (r : PlanView) (n : ℕ) (op : Op) → ((a : ℕ) → Contains (reads_of op) a → is_inlined r.arrays a ≡ false)
      → ops_deep r n op ≡ op ∷ []
  alone r zero op h = refl
  alone r (suc n) op h = ap (λ (rest : List Op). op ∷ rest) (none_opened r n (reads_of op) h)

  earlier : (m : Option ℕ) (k j : ℕ) → IsBefore m k → m ≡ Some j → j < k
  earlier None k j b e = cc
  earlier (Some i) k j b e = let same : i ≡ j = cc in omega (arith, same, b)

  maker_cases : (m : Option ℕ) → m ≢ None → (j : ℕ) × (m ≡ Some j)
  maker_cases None some = absurd (some refl)
  maker_cases (Some j) some = (j, refl)

  pub same_deep : (n m k : ℕ) → k ≤ n → k ≤ m → Agree k → ops_deep q n (op_of p k) ≡ ops_deep p m (op_of p k)
  same_deep zero zero k a b agree = refl
  same_deep zero (suc m) k a b agree =
      let z : 0 ≡ k = omega arith in
      sym (alone p (suc m) (op_of p k) (λ x read. not_first x (subst (λ (j : ℕ). Contains (reads_of (op_of p j)) x) (sym z) read)))
  same_deep (suc n) zero k a b agree =
      let z : 0 ≡ k = omega arith in
      alone q (suc n) (op_of p k) (λ x read.
      agree k x (omega arith) read ∙ not_first x (subst (λ (j : ℕ). Contains (reads_of (op_of p j)) x) (sym z) read))
  same_deep (suc n) (suc m) k a b agree =
      ap (λ (rest : List Op). op_of p k ∷ rest)
      (flat_alike (opened q n) (opened p m) (reads_of (op_of p k)) (λ x read.
      let both = agree k x (omega arith) read in
      elim (bool_cases (is_inlined p.arrays x)) [
        | inr f ↦ let g : is_inlined q.arrays x ≡ false = both ∙ f in rw (f, g) refl
        | inl t ↦
            let g : is_inlined q.arrays x ≡ true = both ∙ t in
            let (j, made) = maker_cases (maker_at p.arrays x) (s.made x t) in
            let l = earlier (maker_at p.arrays x) k j (s.before k x read) made in
            let there : maker_op q x ≡ op_of p j = ap (made_by q) (s.makers x ∙ made) ∙ s.ops j in
            let here : maker_op p x ≡ op_of p j = ap (made_by p) made in
            let own : ops_deep q n (maker_op q x) ≡ ops_deep p m (maker_op p x) =
            ap (ops_deep q n) there
            ∙ same_deep n m j (omega (arith, l, a)) (omega (arith, l, b)) (λ i y below. agree i y (omega (arith, l, below)))
            ∙ ap (ops_deep p m) (sym here) in
            rw (t, g) own
      ]))

  pub same_within : (k : ℕ) → Agree k → ops_within q k ≡ ops_within p k
  same_within k agree = ap (ops_deep q k) (s.ops k) ∙ same_deep k k k (omega arith) (omega arith) agree

  -- what is inside reads what operations up to it read
  pub inner_reads : (n k : ℕ) (op : Op) (a : ℕ) → Contains (ops_deep p n (op_of p k)) op → Contains (reads_of op) a
      → (j : ℕ) × (j ≤ k) × Contains (reads_of (op_of p j)) a
  inner_reads zero k op a (zero, l, e) read =
      (k, omega arith, subst (λ (o : Op). Contains (reads_of o) a) (sym e) read)
  inner_reads zero k op a (suc i, l, e) read = absurd (omega arith)
  inner_reads (suc n) k op a (zero, l, e) read =
      (k, omega arith, subst (λ (o : Op). Contains (reads_of o) a) (sym e) read)
  inner_reads (suc n) k op a (suc i, l, e) read =
      let (x, listed, inside) = one_of (opened p n) (reads_of (op_of p k)) op (i, (let b : suc i < suc (length (flat_map (opened p n) (reads_of (op_of p k)))) = l in omega arith), e) in
      elim (bool_cases (is_inlined p.arrays x)) [
        | inr f ↦ absurd (let none : Contains (let none : List Op = [] in none) op = rw f at inside in let l = none.1 in omega arith)
        | inl t ↦
            let (j, made) = maker_cases (maker_at p.arrays x) (s.made x t) in
            let b = earlier (maker_at p.arrays x) k j (s.before k x listed) made in
            let here : maker_op p x ≡ op_of p j = ap (made_by p) made in
            let own : Contains (ops_deep p n (maker_op p x)) op = rw t at inside in
            let (i, m, found) = inner_reads n j op a (subst (λ (o : Op). Contains (ops_deep p n o) op) here own) read in
            (i, omega (arith, m, b), found)
      ]

  -- so as many of these arrays are stored, and as much memory is needed
  pub same_reads : (k : ℕ) → Agree k
      → sum_by (stored_reads q.arrays) (ops_within q k) ≡ sum_by (stored_reads p.arrays) (ops_within p k)
  same_reads k agree =
      ap (sum_by (stored_reads q.arrays)) (same_within k agree)
      ∙ sum_alike (stored_reads q.arrays) (stored_reads p.arrays) (ops_within p k) (λ op there.
      stored_alike p.arrays q.arrays op (λ a read.
      let (j, l, found) = inner_reads k k op a there read in agree j a l found))

  pub same_scratches : (k : ℕ) → Agree k
      → largest (map (scratch_room q.arrays) (ops_within q k)) ≡ largest (map (scratch_room p.arrays) (ops_within p k))
  same_scratches k agree =
      ap (λ (ops : List Op). largest (map (scratch_room q.arrays) ops)) (same_within k agree)
      ∙ ap largest (map_alike (scratch_room q.arrays) (scratch_room p.arrays) (ops_within p k) (λ op there. same_scratch p.arrays q.arrays s.layouts op))

  pub same_inputs : (k : ℕ) → Agree k
      → sum_by (input_room q.arrays) (ops_within q k) ≡ sum_by (input_room p.arrays) (ops_within p k)
  same_inputs k agree =
      ap (sum_by (input_room q.arrays)) (same_within k agree)
      ∙ sum_alike (input_room q.arrays) (input_room p.arrays) (ops_within p k) (λ op there. same_input_room p.arrays q.arrays s.layouts op)

  pub same_outputs : (k : ℕ) → output_room q.arrays (op_of q k) ≡ output_room p.arrays (op_of p k)
  same_outputs k = ap (output_room q.arrays) (s.ops k) ∙ same_output_room p.arrays q.arrays s.layouts (op_of p k)

  pub same_projection : (k : ℕ) → Agree k → projection q k ≡ projection p k
  same_projection k agree =
      let r = s.reserved in
      let a = same_scratches k agree in
      let b = same_inputs k agree in
      let c = same_outputs k in
      let d : sum_by instruction_count (ops_within q k) ≡ sum_by instruction_count (ops_within p k) = ap (sum_by instruction_count) (same_within k agree) in
      omega (arith, r, a, b, c, d)
