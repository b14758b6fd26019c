-- Lists that are linked through one array: what a link set at one task leaves of the others, and one task more or less.
use Rattle.std.proofs.Common.{◌≡◌, ◌≢◌, ℕ, zero, suc, ◌+◌, ◌-◌, ◌<◌, Bool, List, [], ◌∷◌, length, get_or, set, map, All, sum_by, cond, refl, ap, sym, ◌∙◌, subst, add-one, arith}
use Rattle.std.specs.Prelude.{◌==◌, replicate}
use Rattle.std.proofs.lemmas.Bool.{eq-eqb, ne_eqb}
use Rattle.std.proofs.lemmas.List.{get_or-map, length-map, map-set, get_or-set_same, get_or-set_other, length-set, get_or_default}
use Rattle.std.proofs.lemmas.List.Elements.{All-map, All-set, All-cons, All-head, All-tail, All-nil}
use Rattle.std.proofs.lemmas.List.Sums.{sum_by-cons, get_or-le-sum_by}
use Rattle.cu_table.specs.declared.watch.ListHead.{ListHead}
use Rattle.cu_table.specs.Queue.{Lists, chain, chain_of, times_in}

abbrev pub no_head : ListHead
no_head = record { first = 0; count = 0 }

abbrev pub lists_of : List ℕ → List ListHead → List (List ℕ)
lists_of nexts heads = map (chain_of nexts) heads

abbrev IsBelow : ℕ → List ℕ → Type 0
IsBelow n tasks = All (λ i. i < n) tasks

-- ---- counts

pub count_first : (j i : ℕ) (tasks : List ℕ) → times_in j (i ∷ tasks) ≡ cond (i == j) 1 0 + times_in j tasks
count_first j i tasks = sum_by-cons (λ (x : ℕ). cond (x == j) 1 0) i tasks

pub one_same : (i j : ℕ) → i ≡ j → cond {A = ℕ} (i == j) 1 0 ≡ 1
one_same i j e = ap (λ (b : Bool). cond {A = ℕ} b 1 0) (eq-eqb i j e)

pub one_other : (i j : ℕ) → i ≢ j → cond {A = ℕ} (i == j) 1 0 ≡ 0
one_other i j n = ap (λ (b : Bool). cond {A = ℕ} b 1 0) (ne_eqb i j n)

-- ---- chains

pub chain_length : (nexts : List ℕ) (count first : ℕ) → length (chain nexts count first) ≡ count
chain_length nexts zero first = refl
chain_length nexts (suc count) first = ap suc (chain_length nexts count (get_or nexts first 0))

pub chain_step : (nexts : List ℕ) (count first : ℕ) → count ≢ 0 → chain nexts count first ≡ first ∷ chain nexts (count - 1) (get_or nexts first 0)
chain_step nexts zero first some = absurd (some refl)
chain_step nexts (suc count) first some = let e : count ≡ suc count - 1 = omega arith in ap (λ (n : ℕ). first ∷ chain nexts n (get_or nexts first 0)) e

-- a link that is set at a task outside
chain_other : (nexts : List ℕ) (task v count first : ℕ) → times_in task (chain nexts count first) ≡ 0 → chain (set nexts task v) count first ≡ chain nexts count first
chain_other nexts task v zero first none = refl
chain_other nexts task v (suc count) first none =
    let c = count_first task first (chain nexts count (get_or nexts first 0)) in
    let apart : first ≢ task = λ e. (let o = one_same first task e in absurd (omega (arith, c, o, none))) in
    let o = one_other first task apart in
    let rest : times_in task (chain nexts count (get_or nexts first 0)) ≡ 0 = omega (arith, c, o, none) in
    ap (λ (x : ℕ). first ∷ chain (set nexts task v) count x) (get_or-set_other nexts task first v 0 apart)
    ∙ ap (λ (xs : List ℕ). first ∷ xs) (chain_other nexts task v count (get_or nexts first 0) rest)

lists_other : (nexts : List ℕ) (task v : ℕ) (heads : List ListHead) → sum_by (times_in task) (lists_of nexts heads) ≡ 0 → lists_of (set nexts task v) heads ≡ lists_of nexts heads
lists_other nexts task v [] none = refl
lists_other nexts task v (h ∷ hs) none =
    let s = sum_by-cons (times_in task) (chain_of nexts h) (lists_of nexts hs) in
    let here : times_in task (chain_of nexts h) ≡ 0 = omega (arith, s, none) in
    let rest : sum_by (times_in task) (lists_of nexts hs) ≡ 0 = omega (arith, s, none) in
    ap (λ (xs : List ℕ). xs ∷ lists_of (set nexts task v) hs) (chain_other nexts task v h.count h.first here)
    ∙ ap (λ (ls : List (List ℕ)). chain_of nexts h ∷ ls) (lists_other nexts task v hs rest)

unmapped : (P : List ℕ → Type 0) (f : ListHead → List ℕ) (hs : List ListHead) → All P (map f hs) → All (λ h. P (f h)) hs
unmapped P f hs all k d l = subst P (get_or-map f hs k d (f d) l) (all k (f d) (let n = length-map hs f in omega (arith, n, l)))

module _ (v : Lists) (nexts : List ℕ) (heads : List ListHead) (is : record { size = length nexts; lists = lists_of nexts heads } ≡ v) (thing : ℕ) (within : thing < length v.lists) where
  pub lists_is : lists_of nexts heads ≡ v.lists
  lists_is = ap (λ (x : Lists). x.lists) is

  pub thing_in : thing < length heads
  thing_in = let a = ap length lists_is in let b = length-map heads (chain_of nexts) in omega (arith, a, b, within)

  module _ (h : ListHead) (at : h ≡ get_or heads thing h) where
    pub list_at : get_or v.lists thing [] ≡ chain_of nexts h
    list_at =
        ap (λ (ls : List (List ℕ)). get_or ls thing []) (sym lists_is) ∙ get_or-map (chain_of nexts) heads thing no_head [] thing_in
        ∙ ap (chain_of nexts) (get_or_default heads thing no_head h thing_in ∙ sym at)

    pub count_at : length (get_or v.lists thing []) ≡ h.count
    count_at = ap length list_at ∙ chain_length nexts h.count h.first

    -- ---- one task more

    module _ (task : ℕ) (task_in : task < v.size) (apart : sum_by (times_in task) v.lists ≡ 0) where
      abbrev nexts_more : List ℕ
      nexts_more = set nexts task h.first

      none_here : sum_by (times_in task) (lists_of nexts heads) ≡ 0
      none_here = ap (sum_by (times_in task)) lists_is ∙ apart

      none_in : times_in task (chain_of nexts h) ≡ 0
      none_in =
          let a = get_or-le-sum_by (times_in task) v.lists thing [] within in
          let b = ap (times_in task) list_at in
          omega (arith, a, b, apart)

      chain_more : chain_of nexts_more (record { first = task; count = h.count + 1 }) ≡ task ∷ get_or v.lists thing []
      chain_more =
          let s = ap (λ (x : Lists). x.size) is in
          let b : task < length nexts = omega (arith, s, task_in) in
          ap (λ (n : ℕ). chain nexts_more n task) (add-one h.count)
          ∙ ap (λ (x : ℕ). task ∷ chain nexts_more h.count x) (get_or-set_same nexts task h.first 0 b)
          ∙ ap (λ (xs : List ℕ). task ∷ xs) (chain_other nexts task h.first h.count h.first none_in ∙ sym list_at)

      pub lists_more : lists_of nexts_more (set heads thing (record { first = task; count = h.count + 1 })) ≡ set v.lists thing (task ∷ get_or v.lists thing [])
      lists_more =
          map-set (chain_of nexts_more) heads thing (record { first = task; count = h.count + 1 })
          ∙ ap (set (lists_of nexts_more heads) thing) chain_more
          ∙ ap (λ (ls : List (List ℕ)). set ls thing (task ∷ get_or v.lists thing [])) (lists_other nexts task h.first heads none_here ∙ lists_is)

      pub within_more : All (λ x. All (λ i. i < length nexts) (chain_of nexts x)) heads
          → All (λ x. All (λ i. i < length nexts_more) (chain_of nexts_more x)) (set heads thing (record { first = task; count = h.count + 1 }))
      within_more all =
          unmapped (IsBelow (length nexts_more)) (chain_of nexts_more) (set heads thing (record { first = task; count = h.count + 1 }))
          (subst (λ (n : ℕ). All (IsBelow n) (lists_of nexts_more (set heads thing (record { first = task; count = h.count + 1 })))) (sym (length-set nexts task h.first))
          (subst (All (IsBelow (length nexts))) (sym lists_more)
          (All-set (IsBelow (length nexts)) v.lists thing (task ∷ get_or v.lists thing [])
          (All-cons (λ i. i < length nexts) task (get_or v.lists thing []) (let s = ap (λ (x : Lists). x.size) is in omega (arith, s, task_in)) (below thing [] within)) below)))
        where
          below : All (IsBelow (length nexts)) v.lists
          below = subst (All (IsBelow (length nexts))) lists_is (All-map (IsBelow (length nexts)) (chain_of nexts) heads all)

    -- ---- one task less

    module _ (some : h.count ≢ 0) (all : All (λ y. All (λ i. i < length nexts) (chain_of nexts y)) heads) where
      first_here : chain_of nexts h ≡ h.first ∷ chain nexts (h.count - 1) (get_or nexts h.first 0)
      first_here = chain_step nexts h.count h.first some

      pub first_in : h.first < length nexts
      first_in =
          let a = subst (IsBelow (length nexts)) (ap (chain_of nexts) (sym at)) (all thing h thing_in) in
          All-head (λ i. i < length nexts) h.first (chain nexts (h.count - 1) (get_or nexts h.first 0)) (subst (IsBelow (length nexts)) first_here a)

      pub first_small : h.first < v.size
      first_small = let s = ap (λ (y : Lists). y.size) is in let a = first_in in omega (arith, s, a)

      module _ (x : ℕ) (next : x ≡ get_or nexts h.first x) where
        abbrev less : ListHead
        less = record { first = x; count = h.count - 1 }

        chain_less : chain_of nexts less ≡ chain nexts (h.count - 1) (get_or nexts h.first 0)
        chain_less = ap (chain nexts (h.count - 1)) (next ∙ get_or_default nexts h.first x 0 first_in)

        pub lists_less : lists_of nexts (set heads thing less) ≡ set v.lists thing (get_or (lists_of nexts (set heads thing less)) thing [])
        lists_less =
            map-set (chain_of nexts) heads thing less ∙ ap (λ (ls : List (List ℕ)). set ls thing (chain_of nexts less)) lists_is
            ∙ ap (set v.lists thing) (sym rest_is)
          where
            rest_is : get_or (lists_of nexts (set heads thing less)) thing [] ≡ chain_of nexts less
            rest_is =
                ap (λ (ls : List (List ℕ)). get_or ls thing []) (map-set (chain_of nexts) heads thing less)
                ∙ get_or-set_same (lists_of nexts heads) thing (chain_of nexts less) [] (let b = length-map heads (chain_of nexts) in let t = thing_in in omega (arith, b, t))

        pub list_less : get_or v.lists thing [] ≡ h.first ∷ get_or (lists_of nexts (set heads thing less)) thing []
        list_less =
            list_at ∙ first_here ∙ ap (λ (xs : List ℕ). h.first ∷ xs) (sym (
            ap (λ (ls : List (List ℕ)). get_or ls thing []) (map-set (chain_of nexts) heads thing less)
            ∙ get_or-set_same (lists_of nexts heads) thing (chain_of nexts less) [] (let b = length-map heads (chain_of nexts) in let t = thing_in in omega (arith, b, t))
            ∙ chain_less))

        pub within_less : All (λ y. All (λ i. i < length nexts) (chain_of nexts y)) (set heads thing less)
        within_less =
            All-set (λ y. All (λ i. i < length nexts) (chain_of nexts y)) heads thing less
            (subst (IsBelow (length nexts)) (sym chain_less)
            (All-tail (λ i. i < length nexts) h.first (chain nexts (h.count - 1) (get_or nexts h.first 0))
            (subst (IsBelow (length nexts)) (ap (chain_of nexts) (sym at) ∙ first_here) (all thing h thing_in)))) all

-- ---- empty lists

pub empty_lists : (nexts : List ℕ) (heads : List ListHead) (n : ℕ) → heads ≡ replicate n no_head → All (λ l. l ≡ []) (lists_of nexts heads)
empty_lists nexts heads n is = subst (λ (hs : List ListHead). All (λ l. l ≡ []) (lists_of nexts hs)) (sym is) (All-map (λ (l : List ℕ). l ≡ []) (chain_of nexts) (replicate n no_head) (each n))
  where
    each : (n : ℕ) → All (λ h. chain_of nexts h ≡ []) (replicate n no_head)
    each zero = All-nil (λ (h : ListHead). chain_of nexts h ≡ [])
    each (suc n) = All-cons (λ (h : ListHead). chain_of nexts h ≡ []) no_head (replicate n no_head) refl (each n)
