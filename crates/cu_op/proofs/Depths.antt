-- The operations inside those of a plan in order: one depth is as good as another, if it is deep enough.
use Rattle.cu_op.proofs.Members.{bool_cases}
use Rattle.cu_op.specs.Arrays.{is_inlined, maker_at}
use Rattle.cu_op.specs.Needs.{inner_ops, within_maker, IsOrdered}
use Rattle.cu_op.specs.Operation.{reads_of, IsBefore, IsReadable}
use Rattle.cu_op.specs.PlanView.{PlanView, op_of}
use Rattle.cu_op.specs.Sound.{Sound}
use Rattle.cu_op.specs.Within.{made_by, maker_op, ops_deep, ops_within}
use Rattle.cu_op.specs.declared.operation.Op.{Op}
use Rattle.std.proofs.Common.{◌≡◌, ◌≢◌, inl, inr, ℕ, zero, suc, ◌<◌, ◌≤◌, true, List, [], ◌∷◌, ◌++◌, length, Contains, Option, None, Some, refl, ap, sym, ◌∙◌, subst, arith, if◌then◌else◌}
use Rattle.std.proofs.lemmas.List.Elements.{All-contains}
use Rattle.std.specs.List.{flat_map}

pub flat_alike : {A B : Type 0} (f g : A → List B) (xs : List A)
    → ((x : A) → Contains xs x → f x ≡ g x) → flat_map f xs ≡ flat_map g xs
flat_alike f g [] h = refl
flat_alike f g (x ∷ xs) h =
    let first = h x (0, omega arith, refl) in
    let rest = flat_alike f g xs (λ y there. h y (suc there.0, (let l = there.1 in omega arith), there.2)) in
    ap (λ own. own ++ flat_map f xs) first ∙ ap (λ rest. g x ++ rest) rest

some_maker : (m : Option ℕ) → m ≢ None → (k : ℕ) × (m ≡ Some k)
some_maker None h = absurd (h refl)
some_maker (Some k) h = (k, refl)

before_it : (m : Option ℕ) (n j : ℕ) → IsBefore m n → m ≡ Some j → j < n
before_it None n j h e = cc
before_it (Some k) n j h e = let same : k ≡ j = cc in omega (arith, h, same)

-- a sound plan is in order
pub ordered : (p : PlanView) → Sound p → IsOrdered p.arrays p.ops
ordered p s = record {
  reads = λ k h. (s.operations k h).reads;
  writes = λ k h i d l. ((s.operations k h).writes i d l).0;
  makers = λ a within inner none. let made = (s.inlined a within inner).maker.1 in cc;
}

-- the operations inside, for an array that is read
abbrev pub opened : PlanView → ℕ → ℕ → List Op
opened p n a = if is_inlined p.arrays a then ops_deep p n (maker_op p a) else []

module _ (p : PlanView) (o : IsOrdered p.arrays p.ops) where
  -- of an array that an operation reads and that is made where it is read: its maker
  maker_of : (k a : ℕ) → k < length p.ops → Contains (reads_of (op_of p k)) a
      → is_inlined p.arrays a ≡ true → (j : ℕ) × (j < k) × (maker_at p.arrays a ≡ Some j)
  maker_of k a h read t =
      let readable = All-contains (IsReadable p.arrays k) (reads_of (op_of p k)) a (o.reads k h) read in
      let m = some_maker (maker_at p.arrays a) (o.makers a readable.0 t) in
      (m.0, before_it (maker_at p.arrays a) k m.0 readable.1 m.1, m.1)

  inner_alike : (n m k : ℕ) → k < length p.ops
      → ((j : ℕ) → j < k → ops_deep p n (op_of p j) ≡ ops_deep p m (op_of p j))
      → flat_map (opened p n) (reads_of (op_of p k)) ≡ flat_map (opened p m) (reads_of (op_of p k))
  inner_alike n m k h same =
      flat_alike (opened p n) (opened p m) (reads_of (op_of p k)) (λ a read.
      elim (bool_cases (is_inlined p.arrays a)) [
        | inr f ↦ rw f refl
        | inl t ↦
            let (j, before, made) = maker_of k a h read t in
            let e : maker_op p a ≡ op_of p j = ap (made_by p) made in
            let own : ops_deep p n (maker_op p a) ≡ ops_deep p m (maker_op p a) = ap (ops_deep p n) e ∙ same j before ∙ ap (ops_deep p m) (sym e) in
            rw t own
      ])

  abbrev no_ops : ℕ → List Op
  no_ops a = []

  no_ops_of : (xs : List ℕ) → flat_map no_ops xs ≡ []
  no_ops_of [] = refl
  no_ops_of (x ∷ xs) = no_ops_of xs

  none_inner : (n : ℕ) → 0 < length p.ops → flat_map (opened p n) (reads_of (op_of p 0)) ≡ []
  none_inner n h =
      flat_alike (opened p n) no_ops (reads_of (op_of p 0)) (λ a read.
      elim (bool_cases (is_inlined p.arrays a)) [
        | inr f ↦ rw f refl
        | inl t ↦ let l = (maker_of 0 a h read t).1 in absurd (omega (arith, l))
      ])
      ∙ no_ops_of (reads_of (op_of p 0))

  pub same_ops : (n m k : ℕ) → k < length p.ops → k ≤ n → k ≤ m
      → ops_deep p n (op_of p k) ≡ ops_deep p m (op_of p k)
  same_ops zero zero k h a b = refl
  same_ops zero (suc m) k h a b =
      let z : 0 ≡ k = omega arith in
      let first : 0 < length p.ops = omega arith in
      subst (λ (j : ℕ). ops_deep p 0 (op_of p j) ≡ ops_deep p (suc m) (op_of p j)) z (ap (λ (rest : List Op). op_of p 0 ∷ rest) (sym (none_inner m first)))
  same_ops (suc n) zero k h a b =
      let z : 0 ≡ k = omega arith in
      let first : 0 < length p.ops = omega arith in
      subst (λ (j : ℕ). ops_deep p (suc n) (op_of p j) ≡ ops_deep p 0 (op_of p j)) z (ap (λ (rest : List Op). op_of p 0 ∷ rest) (none_inner n first))
  same_ops (suc n) (suc m) k h a b =
      ap (λ (rest : List Op). op_of p k ∷ rest)
      (inner_alike n m k h (λ j l. same_ops n m j (omega (arith, l, h)) (omega (arith, l, a)) (omega (arith, l, b))))

  -- an operation, and those inside for each array that it reads
  pub within_opened : (k : ℕ) → k < length p.ops
      → ops_within p k ≡ op_of p k ∷ flat_map (inner_ops p) (reads_of (op_of p k))
  within_opened k h =
      same_ops k (suc k) k h (omega arith) (omega arith)
      ∙ ap (λ (rest : List Op). op_of p k ∷ rest)
      (flat_alike (opened p k) (inner_ops p) (reads_of (op_of p k)) (λ a read.
      elim (bool_cases (is_inlined p.arrays a)) [
        | inr f ↦ rw f refl
        | inl t ↦
            let (j, before, made) = maker_of k a h read t in
            let one : opened p k a ≡ ops_deep p k (op_of p j) = rw t (ap (λ (m : Option ℕ). ops_deep p k (made_by p m)) made) in
            let other : inner_ops p a ≡ ops_within p j = rw t (ap (within_maker p) made) in
            one ∙ same_ops k j j (omega (arith, before, h)) (omega (arith, before)) (omega arith) ∙ sym other
      ]))
