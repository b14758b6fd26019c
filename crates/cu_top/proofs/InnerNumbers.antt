-- Operations by their numbers among all, and among those whose results are stored.
use Rattle.std.proofs.Common.{◌≡◌, ◌∙◌, inl, inr, ℕ, zero, suc, ◌+◌, ◌<◌, ◌≤◌, Bool, true, false, List, [], ◌∷◌, ◌++◌, cond, filter, map, length, get_or, length-append, refl, sym, ap, subst, arith}
use Rattle.std.specs.List.{range_with_len}
use Rattle.std.proofs.Math.Seq.{get_or-append_seam}
use Rattle.std.proofs.lemmas.Bool.{cases_lt}
use Rattle.std.proofs.lemmas.List.{append-nil, get_or_append_left, get_or_past}
use Rattle.std.proofs.lemmas.List.FromFn.{filter_of_map_range_with_len_more}
use Rattle.std.proofs.lemmas.List.Sums.{length-filter}
use Rattle.cu_op.specs.PlanView.{PlanView}
use Rattle.cu_op.specs.Within.{is_listed, listed_number}
use Rattle.cu_plan.specs.Listed.{listed}
use Rattle.cu_top.specs.Parts.{inner_number}

map_same : (xs : List ℕ) → map (λ (x : ℕ). x) xs ≡ xs
map_same [] = refl
map_same (x ∷ xs) = ap (λ (ys : List ℕ). x ∷ ys) (map_same xs)

module _ (t : ℕ → Bool) where
  -- the numbers below n that pass the test
  abbrev pub passing : ℕ → List ℕ
  passing n = filter t (range_with_len 0 n)

  more : (n : ℕ) → passing (suc n) ≡ passing n ++ cond (t n) (n ∷ []) []
  more n =
      ap passing (let e : suc n ≡ n + 1 = omega arith in e)
      ∙ ap (filter t) (sym (map_same (range_with_len 0 (n + 1))))
      ∙ filter_of_map_range_with_len_more t (λ (x : ℕ). x) 0 n n (omega arith)
      ∙ ap (λ (xs : List ℕ). filter t xs ++ cond (t n) (n ∷ []) []) (map_same (range_with_len 0 n))

  one_more : (n : ℕ) → t n ≡ true → passing (suc n) ≡ passing n ++ n ∷ []
  one_more n passes = more n ∙ ap (λ (b : Bool). passing n ++ cond b (n ∷ []) []) passes

  none_more : (n : ℕ) → t n ≡ false → passing (suc n) ≡ passing n
  none_more n fails = more n ∙ ap (λ (b : Bool). passing n ++ cond b (n ∷ []) []) fails ∙ append-nil (passing n)

  longer : (n : ℕ) → length (passing n) ≤ length (passing (suc n))
  longer n =
      let e = ap length (more n) ∙ length-append (passing n) (cond (t n) (n ∷ []) []) in
      omega (arith, e)

  front : (n i d : ℕ) → i < length (passing n) → get_or (passing (suc n)) i d ≡ get_or (passing n) i d
  front n i d below =
      ap (λ (xs : List ℕ). get_or xs i d) (more n)
      ∙ get_or_append_left (passing n) (cond (t n) (n ∷ []) []) d i below

  last_one : (n d : ℕ) → t n ≡ true
      → (length (passing n) < length (passing (suc n))) × (get_or (passing (suc n)) (length (passing n)) d ≡ n)
  last_one n d passes =
      let is = one_more n passes in
      let long : length (passing (suc n)) ≡ length (passing n) + 1 = ap length is ∙ length-append (passing n) (n ∷ []) in (
        omega (arith, long),
        ap (λ (xs : List ℕ). get_or xs (length (passing n)) d) is ∙ get_or-append_seam (passing n) n [] d,
      )

  -- a number that passes stands behind as many as pass before it
  stands : (n k d : ℕ) → k < n → t k ≡ true
      → (length (passing k) < length (passing n)) × (get_or (passing n) (length (passing k)) d ≡ k)
  stands zero k d below passes = absurd (omega (arith, below))
  stands (suc n) k d below passes =
      elim (cases_lt k n) [
        | inl less ↦
            let (few, at) = stands n k d less passes in
            let long = longer n in
            (omega (arith, few, long), front n (length (passing k)) d few ∙ at)
        | inr least ↦
            let same : k ≡ n = omega (arith, least, below) in
            subst (λ (m : ℕ). (length (passing m) < length (passing (suc n))) × (get_or (passing (suc n)) (length (passing m)) d ≡ m)) (sym same)
            (last_one n d (subst (λ (m : ℕ). t m ≡ true) same passes))
      ]

  -- what stands at place i passes, and i numbers before it do
  abbrev pub IsPlaced : List ℕ → ℕ → ℕ → Type 0
  IsPlaced xs i d = (length (passing (get_or xs i d)) ≡ i) × (t (get_or xs i d) ≡ true)

  placed_next : (n i d : ℕ) (b : Bool) → t n ≡ b → (i < length (passing n) → IsPlaced (passing n) i d) → i < length (passing (suc n))
      → IsPlaced (passing (suc n)) i d
  placed_next n i d false fails earlier below =
      let is = none_more n fails in
      subst (λ (xs : List ℕ). IsPlaced xs i d) (sym is) (earlier (subst (λ (xs : List ℕ). i < length xs) is below))
  placed_next n i d true passes earlier below =
      let is = one_more n passes in
      let long : length (passing (suc n)) ≡ length (passing n) + 1 = ap length is ∙ length-append (passing n) (n ∷ []) in
      elim (cases_lt i (length (passing n))) [
        | inl less ↦ subst (λ (k : ℕ). (length (passing k) ≡ i) × (t k ≡ true)) (sym (front n i d less)) (earlier less)
        | inr least ↦
            let same : i ≡ length (passing n) = omega (arith, least, below, long) in
            let here : get_or (passing (suc n)) i d ≡ n = ap (λ (j : ℕ). get_or (passing (suc n)) j d) same ∙ (last_one n d passes).1 in
            subst (λ (k : ℕ). (length (passing k) ≡ i) × (t k ≡ true)) (sym here) (sym same, passes)
      ]

  placed : (n i d : ℕ) → i < length (passing n) → IsPlaced (passing n) i d
  placed zero i d below = absurd (let none : length (passing 0) ≡ 0 = refl in omega (arith, below, none))
  placed (suc n) i d below = placed_next n i d (t n) refl (placed n i d) below

module _ (p : PlanView) where
  -- how many results are stored
  pub count_is : length (listed p) ≡ listed_number p (length p.ops)
  count_is = length-filter (is_listed p) (range_with_len 0 (length p.ops))

  -- the operation that has a number among those whose results are stored
  pub inner_of : (k : ℕ) → k < length p.ops → is_listed p k ≡ true → inner_number p (listed_number p k) ≡ k
  inner_of k below is =
      ap (λ (i : ℕ). get_or (listed p) i (length p.ops)) (sym (length-filter (is_listed p) (range_with_len 0 k)))
      ∙ (stands (is_listed p) (length p.ops) k (length p.ops) below is).1

  pub none_behind : (op : ℕ) → listed_number p (length p.ops) ≤ op → inner_number p op ≡ length p.ops
  none_behind op past = get_or_past (listed p) op (length p.ops) (let c = count_is in omega (arith, past, c))

  pub number_of : (op : ℕ) → inner_number p op < length p.ops
      → (listed_number p (inner_number p op) ≡ op) × (is_listed p (inner_number p op) ≡ true)
  number_of op below =
      elim (cases_lt op (length (listed p))) [
        | inl less ↦
            let (before, passes) = placed (is_listed p) (length p.ops) op (length p.ops) less in
            (sym (length-filter (is_listed p) (range_with_len 0 (inner_number p op))) ∙ before, passes)
        | inr past ↦
            absurd (let none = none_behind op (let c = count_is in omega (arith, past, c)) in omega (arith, below, none))
      ]
