-- What is inside the tasks of an operation where one more array that it reads is made there.
use Rattle.cu_op.proofs.Fetched.{one_of}
use Rattle.cu_op.proofs.Lists.{greatest_append}
use Rattle.cu_op.proofs.Members.{bool_cases}
use Rattle.cu_fuse.proofs.Inside.{flat_alike, inner_reads, same_deep, AreAlike}
use Rattle.cu_fuse.proofs.ReadOnce.{no_other, not_left, not_right, own_once, read_parts, stands_at, stands_not, times, times-cons}
use Rattle.cu_fuse.specs.Inlining.{read_count}
use Rattle.cu_op.specs.Arrays.{is_inlined, maker_at}
use Rattle.cu_op.specs.Operation.{reads_of, IsBefore}
use Rattle.cu_op.specs.PlanView.{PlanView, op_of}
use Rattle.cu_op.specs.Within.{made_by, maker_op, ops_deep, ops_within, stored_reads}
use Rattle.cu_op.specs.declared.operation.Op.{Op}
use Rattle.cu_shape.specs.Counts.{largest}
use Rattle.std.proofs.Common.{◌≡◌, ◌≢◌, inl, inr, ℕ, zero, suc, ◌+◌, ◌<◌, ◌≤◌, ◌==◌, true, false, not, List, [], ◌∷◌, ◌++◌, map, max, take, drop, Contains, Some, None, Option, refl, ap, sym, ◌∙◌, subst, arith, if◌then◌else◌, Bool}
use Rattle.std.proofs.lemmas.Bool.Decides.{eqb_tells}
use Rattle.std.proofs.lemmas.Grind.{flat_map-append}
use Rattle.std.proofs.lemmas.List.{map-append, take-append-drop}
use Rattle.std.proofs.lemmas.List.Elements.{Contains-append_left, Contains-append_right}
use Rattle.std.proofs.lemmas.List.Sums.{sum_by-append, sum_by-cons}
use Rattle.std.specs.List.{count_by, flat_map, slice_get}
use Rattle.std.specs.Prelude.{sum_by}

-- ---- a list with others among it

pub record HasAmong {A : Type 0} (all some inner : List A) : Type 0 where
  pub front : List A
  pub back : List A
  pub whole : all ≡ front ++ (inner ++ back)
  pub rest : some ≡ front ++ back

pub sum_among : {A : Type 0} (f : A → ℕ) (all some inner : List A) → HasAmong all some inner
    → sum_by f all ≡ sum_by f some + sum_by f inner
sum_among f all some inner h =
    let a = ap (sum_by f) h.whole in
    let b = ap (sum_by f) h.rest in
    let x = sum_by-append f h.front (inner ++ h.back) in
    let y = sum_by-append f inner h.back in
    let z = sum_by-append f h.front h.back in
    omega (arith, a, b, x, y, z)

pub largest_among : {A : Type 0} (f : A → ℕ) (all some inner : List A) → HasAmong all some inner
    → largest (map f all) ≡ max (largest (map f some)) (largest (map f inner))
largest_among f all some inner h =
    let F : List ℕ = map f h.front in
    let I : List ℕ = map f inner in
    let B : List ℕ = map f h.back in
    let a : largest (map f all) ≡ largest (F ++ (I ++ B)) =
    ap (λ l. largest (map f l)) h.whole
    ∙ ap largest (map-append f h.front (inner ++ h.back) ∙ ap (λ l. F ++ l) (map-append f inner h.back)) in
    let b : largest (map f some) ≡ largest (F ++ B) = ap (λ l. largest (map f l)) h.rest ∙ ap largest (map-append f h.front h.back) in
    let x = greatest_append F (I ++ B) in
    let y = greatest_append I B in
    let z = greatest_append F B in
    omega (arith, a, b, x, y, z)

abbrev one_if : Bool → ℕ
one_if b = if b then 1 else 0

-- ---- a plan, and one in which array a is inlined too, which input number i of operation k alone reads

pub record OneMore (p q : PlanView) (a k i m : ℕ) : Type 0 where
  pub alike : AreAlike p q
  pub stored : is_inlined p.arrays a ≡ false
  pub flags : (b : ℕ) → b ≢ a → is_inlined q.arrays b ≡ is_inlined p.arrays b
  pub inlined : is_inlined q.arrays a ≡ true
  pub once : read_count p.ops a ≡ 1
  pub at : slice_get (reads_of (op_of p k)) i ≡ Some a
  pub maker : maker_at p.arrays a ≡ Some m
  pub before : m < k

module _ (p q : PlanView) (a k i m : ℕ) (o : OneMore p q a k i m) where
  read : Contains (reads_of (op_of p k)) a
  read = stands_at (reads_of (op_of p k)) i a o.at

  other_flags : (j b : ℕ) → j < k → Contains (reads_of (op_of p j)) b → is_inlined q.arrays b ≡ is_inlined p.arrays b
  other_flags j b l there =
      o.flags b (λ e. no_other p a o.once k read j (λ same. let s = same in omega (arith, l, s)) (subst (Contains (reads_of (op_of p j))) e there))

  -- operations before it are as they were
  pub before_agree : (j : ℕ) → j < k → (i b : ℕ) → i ≤ j → Contains (reads_of (op_of p i)) b → is_inlined q.arrays b ≡ is_inlined p.arrays b
  before_agree j l i b below there = other_flags i b (omega (arith, l, below)) there

  abbrev opened : PlanView → ℕ → ℕ → List Op
  opened r n b = if is_inlined r.arrays b then ops_deep r n (maker_op r b) else []

  maker_cases : (t : Option ℕ) → t ≢ None → (j : ℕ) × (t ≡ Some j)
  maker_cases None some = absurd (some refl)
  maker_cases (Some j) some = (j, refl)

  earlier : (t : Option ℕ) (j : ℕ) → IsBefore t k → t ≡ Some j → j < k
  earlier None j b e = cc
  earlier (Some h) j b e = let same : h ≡ j = cc in omega (arith, same, b)

  -- another array that it reads is as it was
  other_opened : (n b : ℕ) → k ≤ suc n → Contains (reads_of (op_of p k)) b → b ≢ a → opened q n b ≡ opened p n b
  other_opened n b deep there other =
      let both = o.flags b other in
      elim (bool_cases (is_inlined p.arrays b)) [
        | inr f ↦ let g : is_inlined q.arrays b ≡ false = both ∙ f in rw (f, g) refl
        | inl t ↦
            let g : is_inlined q.arrays b ≡ true = both ∙ t in
            let (j, made) = maker_cases (maker_at p.arrays b) (o.alike.made b t) in
            let l = earlier (maker_at p.arrays b) j (o.alike.before k b there) made in
            let one : maker_op q b ≡ op_of p j = ap (made_by q) (o.alike.makers b ∙ made) ∙ o.alike.ops j in
            let two : maker_op p b ≡ op_of p j = ap (made_by p) made in
            let own : ops_deep q n (maker_op q b) ≡ ops_deep p n (maker_op p b) =
            ap (ops_deep q n) one ∙ same_deep p q o.alike n n j (omega (arith, l, deep)) (omega (arith, l, deep)) (before_agree j l) ∙ ap (ops_deep p n) (sym two) in
            rw (t, g) own
      ]

  -- what is opened now
  own_opened : (n : ℕ) → k ≤ suc n → opened q n a ≡ ops_within p m
  own_opened n deep =
      let t = o.inlined in
      let l = o.before in
      let there : maker_op q a ≡ op_of p m = ap (made_by q) (o.alike.makers a ∙ o.maker) ∙ o.alike.ops m in
      let own : ops_deep q n (maker_op q a) ≡ ops_within p m =
      ap (ops_deep q n) there ∙ same_deep p q o.alike n m m (omega (arith, l, deep)) (omega arith) (before_agree m l) in
      rw t own

  was_opened : (n : ℕ) → opened p n a ≡ []
  was_opened n = let f = o.stored in rw f refl

  abbrev reads : List ℕ
  reads = reads_of (op_of p k)

  in_left : (b : ℕ) → Contains (take i reads) b → Contains reads b
  in_left b there = subst (λ (l : List ℕ). Contains l b) (take-append-drop i reads) (Contains-append_left (take i reads) (drop i reads) b there)

  in_right : (b : ℕ) → Contains (drop (i + 1) reads) b → Contains reads b
  in_right b there =
      subst (λ (l : List ℕ). Contains l b) (sym (read_parts p a o.once k read i o.at))
      (Contains-append_right (take i reads) (a ∷ drop (i + 1) reads) b (suc there.0, (let l = there.1 in omega arith), there.2))

  opened_parts : (r : PlanView) (n : ℕ)
      → flat_map (opened r n) reads ≡ flat_map (opened r n) (take i reads) ++ (opened r n a ++ flat_map (opened r n) (drop (i + 1) reads))
  opened_parts r n =
      ap (flat_map (opened r n)) (read_parts p a o.once k read i o.at)
      ∙ flat_map-append (opened r n) (take i reads) (a ∷ drop (i + 1) reads)

  left_same : (n : ℕ) → k ≤ suc n → flat_map (opened q n) (take i reads) ≡ flat_map (opened p n) (take i reads)
  left_same n deep =
      flat_alike (opened q n) (opened p n) (take i reads) (λ b there.
      other_opened n b deep (in_left b there) (λ e. not_left p a o.once k read i o.at (subst (Contains (take i reads)) e there)))

  right_same : (n : ℕ) → k ≤ suc n → flat_map (opened q n) (drop (i + 1) reads) ≡ flat_map (opened p n) (drop (i + 1) reads)
  right_same n deep =
      flat_alike (opened q n) (opened p n) (drop (i + 1) reads) (λ b there.
      other_opened n b deep (in_right b there) (λ e. not_right p a o.once k read i o.at (subst (Contains (drop (i + 1) reads)) e there)))

  grown_deep : (n : ℕ) → k ≡ n → HasAmong (ops_deep q n (op_of p k)) (ops_deep p n (op_of p k)) (ops_within p m)
  grown_deep zero z = absurd (let l = o.before in omega (arith, l, z))
  grown_deep (suc n) z =
      let op = op_of p k in
      let L : List Op = flat_map (opened p n) (take i reads) in
      let R : List Op = flat_map (opened p n) (drop (i + 1) reads) in
      let deep : k ≤ suc n = omega (arith, z) in
      let was : flat_map (opened p n) reads ≡ L ++ R = opened_parts p n ∙ ap (λ (l : List Op). L ++ (l ++ R)) (was_opened n) in
      let now : flat_map (opened q n) reads ≡ L ++ (ops_within p m ++ R) =
      opened_parts q n ∙ (λ t. left_same n deep t ++ (own_opened n deep t ++ right_same n deep t)) in
      record {
        front = op ∷ L;
        back = R;
        whole = ap (λ (l : List Op). op ∷ l) now;
        rest = ap (λ (l : List Op). op ∷ l) was;
      }

  -- what is inside it now
  pub grown : HasAmong (ops_within q k) (ops_within p k) (ops_within p m)
  grown =
      let g = grown_deep k refl in
      record { front = g.front; back = g.back; whole = ap (ops_deep q k) (o.alike.ops k) ∙ g.whole; rest = g.rest }

  -- ---- the stored arrays that are read

  one_less : (op : Op) → stored_reads p.arrays op ≡ stored_reads q.arrays op + times a (reads_of op)
  one_less op = all (reads_of op)
    where
      all : (xs : List ℕ) → count_by (λ b. not (is_inlined p.arrays b)) xs ≡ count_by (λ b. not (is_inlined q.arrays b)) xs + times a xs
      all [] = refl
      all (x ∷ xs) =
          let rest = all xs in
          let u = sum_by-cons (λ (b : ℕ). one_if (not (is_inlined p.arrays b))) x xs in
          let v = sum_by-cons (λ (b : ℕ). one_if (not (is_inlined q.arrays b))) x xs in
          let w = times-cons a x xs in
          elim (eqb_tells x a) [
            | inl t ↦
                let here : one_if (x == a) ≡ 1 = rw t.0 refl in
                let f : is_inlined p.arrays x ≡ false = ap (is_inlined p.arrays) t.1 ∙ o.stored in
                let g : is_inlined q.arrays x ≡ true = ap (is_inlined q.arrays) t.1 ∙ o.inlined in
                let one : one_if (not (is_inlined p.arrays x)) ≡ 1 = rw f refl in
                let none : one_if (not (is_inlined q.arrays x)) ≡ 0 = rw g refl in
                omega (arith, rest, u, v, w, here, one, none)
            | inr t ↦
                let here : one_if (x == a) ≡ 0 = rw t.0 refl in
                let same : one_if (not (is_inlined q.arrays x)) ≡ one_if (not (is_inlined p.arrays x)) = ap (λ (b : Bool). one_if (not b)) (o.flags x t.1) in
                omega (arith, rest, u, v, w, here, same)
          ]

  sum_less : (ops : List Op) → sum_by (stored_reads p.arrays) ops ≡ sum_by (stored_reads q.arrays) ops + sum_by (λ op. times a (reads_of op)) ops
  sum_less [] = refl
  sum_less (op ∷ ops) =
      let one = one_less op in
      let rest = sum_less ops in
      let u = sum_by-cons (stored_reads p.arrays) op ops in
      let v = sum_by-cons (stored_reads q.arrays) op ops in
      let w = sum_by-cons (λ (x : Op). times a (reads_of x)) op ops in
      omega (arith, one, rest, u, v, w)

  never : (ops : List Op) → ((op : Op) → Contains ops op → Contains (reads_of op) a → ⊥) → sum_by (λ op. times a (reads_of op)) ops ≡ 0
  never [] h = refl
  never (op ∷ ops) h =
      let first = stands_not a (reads_of op) (h op (0, omega arith, refl)) in
      let rest = never ops (λ x there. h x (suc there.0, (let l = there.1 in omega arith), there.2)) in
      let w = sum_by-cons (λ (x : Op). times a (reads_of x)) op ops in
      omega (arith, first, rest, w)

  before_never : (n j : ℕ) → j < k → (op : Op) → Contains (ops_deep p n (op_of p j)) op → Contains (reads_of op) a → ⊥
  before_never n j l op there reads_it =
      let (h, b, found) = inner_reads p q o.alike n j op a there reads_it in
      no_other p a o.once k read h (λ same. let s = same in omega (arith, l, b, s)) found

  inner_none : sum_by (λ op. times a (reads_of op)) (ops_within p m) ≡ 0
  inner_none = never (ops_within p m) (before_never m m o.before)

  own_deep : (n : ℕ) → sum_by (λ op. times a (reads_of op)) (ops_deep p n (op_of p k)) ≡ 1
  own_deep zero =
      let w = sum_by-cons (λ (x : Op). times a (reads_of x)) (op_of p k) [] in
      let one = own_once p a o.once k read in
      omega (arith, w, one)
  own_deep (suc n) =
      let w = sum_by-cons (λ (x : Op). times a (reads_of x)) (op_of p k) (flat_map (opened p n) reads) in
      let one = own_once p a o.once k read in
      let rest = never (flat_map (opened p n) reads) (λ op there reads_it.
      let (b, listed, inside) = one_of (opened p n) reads op there in
      elim (bool_cases (is_inlined p.arrays b)) [
        | inr f ↦ (let none : Contains (let none : List Op = [] in none) op = rw f at inside in let l = none.1 in absurd (omega arith))
        | inl t ↦
            let (j, made) = maker_cases (maker_at p.arrays b) (o.alike.made b t) in
            let l = earlier (maker_at p.arrays b) j (o.alike.before k b listed) made in
            let here : maker_op p b ≡ op_of p j = ap (made_by p) made in
            let own : Contains (ops_deep p n (maker_op p b)) op = rw t at inside in
            before_never n j l op (subst (λ (x : Op). Contains (ops_deep p n x) op) here own) reads_it
      ]) in
      omega (arith, w, one, rest)

  pub grown_reads : sum_by (stored_reads q.arrays) (ops_within q k) + 1
      ≡ sum_by (stored_reads p.arrays) (ops_within p k) + sum_by (stored_reads p.arrays) (ops_within p m)
  grown_reads =
      let whole = sum_among (stored_reads q.arrays) (ops_within q k) (ops_within p k) (ops_within p m) grown in
      let u = sum_less (ops_within p k) in
      let v = sum_less (ops_within p m) in
      let one = own_deep k in
      let none = inner_none in
      omega (arith, whole, u, v, one, none)
