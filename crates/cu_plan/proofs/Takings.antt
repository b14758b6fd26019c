-- What is taken one after another, by any test: where it stood, and what was taken before.
use Rattle.std.proofs.Common.{◌≡◌, ◌⊎◌, inl, inr, ℕ, suc, ◌+◌, ◌<◌, ◌≤◌, ◌==◌, ◌&&◌, Bool, true, false, List, [], ◌∷◌, ◌++◌, map, refl, ap, sym, ◌∙◌, subst, arith, if◌then◌else◌}
use Rattle.std.proofs.lemmas.Bool.Decides.{eqb_tells}
use Rattle.std.proofs.lemmas.List.{append_assoc}
use Rattle.cu_op.proofs.Members.{bool_cases}
use Rattle.cu_op.specs.Numbers.{stands_in}
use Rattle.cu_plan.specs.Inlined.{taken, with_next, Reading}

no_true : {A : Type 0} → false ≡ true → A
no_true h = cc

behind : (s : List ℕ) (x b : ℕ) → stands_in s b ≡ true → stands_in (x ∷ s) b ≡ true
behind s x b h = elim (eqb_tells x b) [ inl p ↦ rw p.0 refl | inr n ↦ rw n.0 h ]

pub in_front : (s : List ℕ) (b : ℕ) → stands_in (b ∷ s) b ≡ true
in_front s b = elim (eqb_tells b b) [ inl p ↦ rw p.0 refl | inr n ↦ absurd (n.1 refl) ]

-- ---- how often

abbrev pub one_if : Bool → ℕ
one_if b = if b then 1 else 0

-- how often an array is read
abbrev pub times : ℕ → List Reading → ℕ
times b [] = 0
times b (r ∷ rs) = one_if (r.array == b) + times b rs

pub times-append : (b : ℕ) (xs ys : List Reading) → times b (xs ++ ys) ≡ times b xs + times b ys
times-append b [] ys = omega arith
times-append b (x ∷ xs) ys = let e = times-append b xs ys in omega (arith, e)

times_here : (b : ℕ) (r : Reading) (rs : List Reading) → r.array ≡ b → times b (r ∷ rs) ≡ suc (times b rs)
times_here b r rs h = elim (eqb_tells r.array b) [ inl p ↦ rw p.0 (omega arith) | inr n ↦ absurd (n.1 h) ]

times_some : (b : ℕ) (front : List Reading) (r : Reading) (back : List Reading) → r.array ≡ b → 0 < times b (front ++ r ∷ back)
times_some b front r back h = let e = times-append b front (r ∷ back) in let o = times_here b r back h in omega (arith, e, o)

head_same : {A : Type 0} {x y : A} {xs ys : List A} → x ∷ xs ≡ y ∷ ys → x ≡ y
head_same h = cc

tail_same : {A : Type 0} {x y : A} {xs ys : List A} → x ∷ xs ≡ y ∷ ys → xs ≡ ys
tail_same h = cc

-- an array that is read once is read at one place
pub one_place : (b : ℕ) (f1 b1 f2 b2 : List Reading) (x y : Reading) → f1 ++ x ∷ b1 ≡ f2 ++ y ∷ b2 → x.array ≡ b → y.array ≡ b
    → times b (f1 ++ x ∷ b1) ≤ 1 → (f1 ≡ f2) × (x ≡ y)
one_place b [] b1 [] b2 x y same here there few = (refl, head_same same)
one_place b [] b1 (z ∷ f2) b2 x y same here there few =
    let rest : b1 ≡ f2 ++ y ∷ b2 = tail_same same in
    let own = times_here b x b1 here in
    let more = times_some b f2 y b2 there in
    let e = ap (times b) rest in
    absurd (omega (arith, own, more, e, few))
one_place b (z ∷ f1) b1 [] b2 x y same here there few =
    let rest : f1 ++ x ∷ b1 ≡ b2 = tail_same same in
    let whole = ap (times b) same in
    let own = times_here b y b2 there in
    let more = times_some b f1 x b1 here in
    let e = ap (times b) rest in
    absurd (omega (arith, own, more, e, few, whole))
one_place b (z ∷ f1) b1 (w ∷ f2) b2 x y same here there few =
    let rest = one_place b f1 b1 f2 b2 x y (tail_same same) here there (omega (arith, few)) in
    (λ i. head_same same i ∷ rest.0 i, rest.1)

-- ---- members

record Split (rs : List Reading) (b : ℕ) : Type 0 where
  front : List Reading
  one : Reading
  back : List Reading
  is : rs ≡ front ++ one ∷ back
  array : one.array ≡ b

abbrev pub arrays_in : List Reading → List ℕ
arrays_in rs = map (λ r. r.array) rs

split_at : (rs : List Reading) (b : ℕ) → stands_in (arrays_in rs) b ≡ true → Split rs b
split_at [] b h = no_true h
split_at (r ∷ rs) b h =
    elim (eqb_tells r.array b) [
      | inl p ↦ record { front = []; one = r; back = rs; is = refl; array = p.1 }
      | inr n ↦
          let rest = split_at rs b (rw n.0 at h) in
          record { front = r ∷ rest.front; one = rest.one; back = rest.back; is = ap (λ l. r ∷ l) rest.is; array = rest.array }
    ]

member : (front : List Reading) (one : Reading) (back : List Reading) (b : ℕ) → one.array ≡ b → stands_in (arrays_in (front ++ one ∷ back)) b ≡ true
member [] one back b h = elim (eqb_tells one.array b) [ inl p ↦ rw p.0 refl | inr n ↦ absurd (n.1 h) ]
member (r ∷ front) one back b h = behind (arrays_in (front ++ one ∷ back)) r.array b (member front one back b h)

both_is : (x y z : Bool) → (x ≡ true → (y ≡ true) × (z ≡ true)) → (y ≡ true → z ≡ true → x ≡ true) → x ≡ (y && z)
both_is true y z there back = let e = there refl in rw (e.0, e.1) refl
both_is false true true there back = back refl refl
both_is false true false there back = refl
both_is false false z there back = refl

module _ (test : List ℕ → Reading → Bool) where
  next_grows : (s : List ℕ) (r : Reading) (b : ℕ) → stands_in s b ≡ true → stands_in (with_next test s r) b ≡ true
  next_grows s r b h = elim (bool_cases (test s r)) [ inl t ↦ rw t (behind s r.array b h) | inr f ↦ rw f h ]

  next_taken : (s : List ℕ) (r : Reading) → test s r ≡ true → stands_in (with_next test s r) r.array ≡ true
  next_taken s r t = rw t (in_front s r.array)

  grows : (s : List ℕ) (rs : List Reading) (b : ℕ) → stands_in s b ≡ true → stands_in (taken test s rs) b ≡ true
  grows s [] b h = h
  grows s (r ∷ rs) b h = grows (with_next test s r) rs b (next_grows s r b h)

  taken-append : (s : List ℕ) (xs ys : List Reading) → taken test s (xs ++ ys) ≡ taken test (taken test s xs) ys
  taken-append s [] ys = refl
  taken-append s (x ∷ xs) ys = taken-append (with_next test s x) xs ys

  -- the place at which an array was taken
  pub record Taking (s : List ℕ) (rs : List Reading) (b : ℕ) : Type 0 where
    pub front : List Reading
    pub one : Reading
    pub back : List Reading
    pub is : rs ≡ front ++ one ∷ back
    pub array : one.array ≡ b
    pub passes : test (taken test s front) one ≡ true

  whence : (s : List ℕ) (rs : List Reading) (b : ℕ) → stands_in (taken test s rs) b ≡ true → (stands_in s b ≡ true) ⊎ Taking s rs b
  whence s [] b h = inl h
  whence s (r ∷ rs) b h =
      elim (whence (with_next test s r) rs b h) [
        | inr t ↦ inr (record { front = r ∷ t.front; one = t.one; back = t.back; is = ap (λ l. r ∷ l) t.is; array = t.array; passes = t.passes })
        | inl here ↦ elim (bool_cases (test s r)) [
          | inr f ↦ inl (rw f at here)
          | inl t ↦
              let now : stands_in (r.array ∷ s) b ≡ true = rw t at here in
              elim (eqb_tells r.array b) [
                | inl p ↦ inr (record { front = []; one = r; back = rs; is = refl; array = p.1; passes = t })
                | inr n ↦ inl (rw n.0 at now)
              ]
        ]
      ]

  pub taking : (rs : List Reading) (b : ℕ) → stands_in (taken test [] rs) b ≡ true → Taking [] rs b
  taking rs b h = elim (whence [] rs b h) [ inl none ↦ no_true none | inr t ↦ t ]

  -- of what is read once nothing is taken but at its place
  module _ (rs : List Reading) (once : (b : ℕ) → Taking [] rs b → times b rs ≤ 1) (front : List Reading) (r : Reading) (back : List Reading) (is : rs ≡ front ++ r ∷ back) where
    pub taken_here : stands_in (taken test [] rs) r.array ≡ true → test (taken test [] front) r ≡ true
    taken_here h =
        let t = taking rs r.array h in
        let few : times r.array (front ++ r ∷ back) ≤ 1 = subst (λ l. times r.array l ≤ 1) is (once r.array t) in
        let same = one_place r.array front back t.front t.back r t.one (sym is ∙ t.is) refl t.array few in
        (λ i. test (taken test [] (same.0 i)) (same.1 i)) ∙ t.passes

    whole : taken test [] rs ≡ taken test (with_next test (taken test [] front) r) back
    whole = ap (taken test []) is ∙ taken-append [] front (r ∷ back)

    pub here_taken : test (taken test [] front) r ≡ true → stands_in (taken test [] rs) r.array ≡ true
    here_taken t =
        ap (λ l. stands_in l r.array) whole ∙ grows (with_next test (taken test [] front) r) back r.array (next_taken (taken test [] front) r t)

    pub so_far : (b : ℕ) → stands_in (taken test [] front) b ≡ (stands_in (taken test [] rs) b && stands_in (arrays_in front) b)
    so_far b =
        both_is (stands_in (taken test [] front) b) (stands_in (taken test [] rs) b) (stands_in (arrays_in front) b)
        (λ h.
        let t = taking front b h in
        let stays : stands_in (taken test (with_next test (taken test [] front) r) back) b ≡ true = grows (with_next test (taken test [] front) r) back b (next_grows (taken test [] front) r b h) in
        (ap (λ l. stands_in l b) whole ∙ stays, ap (λ l. stands_in (arrays_in l) b) t.is ∙ member t.front t.one t.back b t.array))
        (λ h there.
        let t = taking rs b h in
        let p = split_at front b there in
        let apart : rs ≡ p.front ++ p.one ∷ (p.back ++ r ∷ back) = is ∙ ap (λ l. l ++ r ∷ back) p.is ∙ append_assoc p.front (p.one ∷ p.back) (r ∷ back) in
        let few : times b (p.front ++ p.one ∷ (p.back ++ r ∷ back)) ≤ 1 = subst (λ l. times b l ≤ 1) apart (once b t) in
        let same = one_place b p.front (p.back ++ r ∷ back) t.front t.back p.one t.one (sym apart ∙ t.is) p.array t.array few in
        let passes : test (taken test [] p.front) p.one ≡ true = (λ i. test (taken test [] (same.0 i)) (same.1 i)) ∙ t.passes in
        let now = next_taken (taken test [] p.front) p.one passes in
        let split : taken test [] front ≡ taken test (with_next test (taken test [] p.front) p.one) p.back = ap (taken test []) p.is ∙ taken-append [] p.front (p.one ∷ p.back) in
        ap (λ l. stands_in l b) split ∙ grows (with_next test (taken test [] p.front) p.one) p.back b (subst (λ n. stands_in (with_next test (taken test [] p.front) p.one) n ≡ true) p.array now))
