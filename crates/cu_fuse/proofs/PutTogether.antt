-- The maker of an array put together with its reader, by their places in the list.
use Rattle.std.proofs.Common.{◌≡◌, inl, inr, ℕ, zero, suc, ◌+◌, ◌<◌, ◌≤◌, Bool, true, false, List, [], ◌∷◌, ◌++◌, length, take, drop, drop-drop, Option, Some, None, get_or, refl, ap, sym, subst, ◌∙◌, arith, if◌then◌else◌, ◌⊎◌, ⊎_elim}
use Rattle.std.specs.Option.{option_map}
use Rattle.std.specs.Prelude.{unwrap_or}
use Rattle.std.specs.List.{remove}
use Rattle.std.proofs.Math.ListN.{set}
use Rattle.std.proofs.lemmas.List.{drop-set-add, get_or-drop, get_or_default, length-drop, take-append-drop, take-set-le}
use Rattle.std.proofs.lemmas.Bool.{cases_Bool}
use Rattle.cu_op.specs.declared.operation.Planned.{Planned}
use Rattle.cu_op.proofs.Members.{contains_any}
use Rattle.cu_op.specs.Operation.{reads_of, writes_of}
use Rattle.cu_op.specs.PlanView.{no_operation, operation_at}
use Rattle.cu_fuse.specs.Close.{maker_of}
use Rattle.cu_fuse.specs.Fused.{is_reader, reader_of}
use Rattle.cu_op.specs.Numbers.{stands_in}
use Rattle.cu_fuse.specs.Runs.{HasReader}
use Rattle.cu_fuse.specs.Together.{all_together, into_first, put_together, Joining, Test}
use Rattle.cu_fuse.proofs.MergedAway.{StandAt}

module _ (test : Test) (both : Joining) (a : ℕ) where
  -- the reader among the operations behind the maker
  into_found : (maker : Planned) (os : List Planned) (r : ℕ) → r ≡ reader_of os a → r < length os → test maker (operation_at os r) (drop (suc r) os) a ≡ true
      → into_first test both maker a os ≡ Some (set os r (both maker (operation_at os r) a))
  into_found maker [] r e b may = absurd (omega arith)
  into_found maker (o ∷ os) zero e b may = elim (cases_Bool (is_reader a o)) [
    | inl here ↦ λ i. if here i then (if may i then Some (both maker o a ∷ os) else None) else option_map (λ rest. o ∷ rest) (into_first test both maker a os)
    | inr there ↦ let z : zero ≡ suc (reader_of os a) = e ∙ (λ i. if there i then 0 else suc (reader_of os a)) in absurd (omega (arith, z))
  ]
  into_found maker (o ∷ os) (suc r) e b may = elim (cases_Bool (is_reader a o)) [
    | inl here ↦ let z : suc r ≡ 0 = e ∙ (λ i. if here i then 0 else suc (reader_of os a)) in absurd (omega (arith, z))
    | inr there ↦
        let z : suc r ≡ suc (reader_of os a) = e ∙ (λ i. if there i then 0 else suc (reader_of os a)) in
        (λ i. if there i then (if test maker o os a then Some (both maker o a ∷ os) else None) else option_map (λ rest. o ∷ rest) (into_first test both maker a os))
        ∙ ap (option_map (λ rest. o ∷ rest)) (into_found maker os r (omega (arith, z)) (omega arith) may)
  ]

  into_refused : (maker : Planned) (os : List Planned) (r : ℕ) → r ≡ reader_of os a → r < length os → test maker (operation_at os r) (drop (suc r) os) a ≡ false → into_first test both maker a os ≡ None
  into_refused maker [] r e b may = absurd (omega arith)
  into_refused maker (o ∷ os) zero e b may = elim (cases_Bool (is_reader a o)) [
    | inl here ↦ λ i. if here i then (if may i then Some (both maker o a ∷ os) else None) else option_map (λ rest. o ∷ rest) (into_first test both maker a os)
    | inr there ↦ let z : zero ≡ suc (reader_of os a) = e ∙ (λ i. if there i then 0 else suc (reader_of os a)) in absurd (omega (arith, z))
  ]
  into_refused maker (o ∷ os) (suc r) e b may = elim (cases_Bool (is_reader a o)) [
    | inl here ↦ let z : suc r ≡ 0 = e ∙ (λ i. if here i then 0 else suc (reader_of os a)) in absurd (omega (arith, z))
    | inr there ↦
        let z : suc r ≡ suc (reader_of os a) = e ∙ (λ i. if there i then 0 else suc (reader_of os a)) in
        (λ i. if there i then (if test maker o os a then Some (both maker o a ∷ os) else None) else option_map (λ rest. o ∷ rest) (into_first test both maker a os))
        ∙ ap (option_map (λ rest. o ∷ rest)) (into_refused maker os r (omega (arith, z)) (omega arith) may)
  ]

  into_nothing : (maker : Planned) (os : List Planned) → length os ≤ reader_of os a → into_first test both maker a os ≡ None
  into_nothing maker [] h = refl
  into_nothing maker (o ∷ os) h = elim (cases_Bool (is_reader a o)) [
    | inl here ↦ let l : length (o ∷ os) ≤ 0 = rw here at h in absurd (omega (arith, l))
    | inr there ↦
        let l : length (o ∷ os) ≤ suc (reader_of os a) = rw there at h in
        (λ i. if there i then (if test maker o os a then Some (both maker o a ∷ os) else None) else option_map (λ rest. o ∷ rest) (into_first test both maker a os))
        ∙ ap (option_map (λ rest. o ∷ rest)) (into_nothing maker os (omega (arith, l)))
  ]

  -- the maker among all
  away_by : (ops : List Planned) (m : ℕ) (found : Option (List Planned)) → m ≡ maker_of ops a → m < length ops → into_first test both (operation_at ops m) a (drop (suc m) ops) ≡ found
      → put_together test both a ops ≡ take m ops ++ unwrap_or found (drop m ops)
  away_by [] m found e b is = absurd (omega arith)
  away_by (o ∷ os) zero found e b is = elim (cases_Bool (stands_in (writes_of o.op) a)) [
    | inl here ↦ λ i. if here i then unwrap_or (is i) (o ∷ os) else (o ∷ put_together test both a os)
    | inr there ↦ let z : zero ≡ suc (maker_of os a) = e ∙ (λ i. if there i then 0 else suc (maker_of os a)) in absurd (omega (arith, z))
  ]
  away_by (o ∷ os) (suc m) found e b is = elim (cases_Bool (stands_in (writes_of o.op) a)) [
    | inl here ↦ let z : suc m ≡ 0 = e ∙ (λ i. if here i then 0 else suc (maker_of os a)) in absurd (omega (arith, z))
    | inr there ↦
        let z : suc m ≡ suc (maker_of os a) = e ∙ (λ i. if there i then 0 else suc (maker_of os a)) in
        (λ i. if there i then unwrap_or (into_first test both o a os) (o ∷ os) else (o ∷ put_together test both a os)) ∙ ap (λ l. o ∷ l) (away_by os m found (omega (arith, z)) (omega arith) is)
  ]

  pub away_nowhere : (ops : List Planned) → length ops ≤ maker_of ops a → put_together test both a ops ≡ ops
  away_nowhere [] h = refl
  away_nowhere (o ∷ os) h = elim (cases_Bool (stands_in (writes_of o.op) a)) [
    | inl here ↦ let l : length (o ∷ os) ≤ 0 = rw here at h in absurd (omega (arith, l))
    | inr there ↦
        let l : length (o ∷ os) ≤ suc (maker_of os a) = rw there at h in
        (λ i. if there i then unwrap_or (into_first test both o a os) (o ∷ os) else (o ∷ put_together test both a os)) ∙ ap (λ l. o ∷ l) (away_nowhere os (omega (arith, l)))
  ]

  -- nothing changes where no operation reads the array, or where both aren't to be merged
  pub away_unread : (ops : List Planned) (m : ℕ) → m ≡ maker_of ops a → m < length ops → length (drop (suc m) ops) ≤ reader_of (drop (suc m) ops) a → put_together test both a ops ≡ ops
  away_unread ops m e b none = away_by ops m None e b (into_nothing (operation_at ops m) (drop (suc m) ops) none) ∙ take-append-drop m ops

  pub away_refused : (ops : List Planned) (m r : ℕ) → m ≡ maker_of ops a → m < length ops → r ≡ reader_of (drop (suc m) ops) a → r < length (drop (suc m) ops)
      → test (operation_at ops m) (operation_at (drop (suc m) ops) r) (drop (suc r) (drop (suc m) ops)) a ≡ false → put_together test both a ops ≡ ops
  away_refused ops m r e b f h may = away_by ops m None e b (into_refused (operation_at ops m) (drop (suc m) ops) r f h may) ∙ take-append-drop m ops

  pub away_merged : (ops : List Planned) (m r : ℕ) → m ≡ maker_of ops a → m < length ops → r ≡ reader_of (drop (suc m) ops) a → r < length (drop (suc m) ops)
      → test (operation_at ops m) (operation_at (drop (suc m) ops) r) (drop (suc r) (drop (suc m) ops)) a ≡ true
      → put_together test both a ops ≡ take m ops ++ set (drop (suc m) ops) r (both (operation_at ops m) (operation_at (drop (suc m) ops) r) a)
  away_merged ops m r e b f h may = away_by ops m (Some (set (drop (suc m) ops) r (both (operation_at ops m) (operation_at (drop (suc m) ops) r) a))) e b (into_found (operation_at ops m) (drop (suc m) ops) r f h may)

writes_there : (os : List Planned) (a m : ℕ) (x : Planned) → m ≡ maker_of os a → m < length os → x ≡ get_or os m x → stands_in (writes_of x.op) a ≡ true
writes_there [] a m x e b is = absurd (omega arith)
writes_there (o ∷ os) a zero x e b is = elim (cases_Bool (stands_in (writes_of o.op) a)) [
  | inl here ↦ subst (λ (p : Planned). stands_in (writes_of p.op) a ≡ true) (sym is) here
  | inr there ↦ let z : zero ≡ suc (maker_of os a) = e ∙ (λ i. if there i then 0 else suc (maker_of os a)) in absurd (omega (arith, z))
]
writes_there (o ∷ os) a (suc m) x e b is = elim (cases_Bool (stands_in (writes_of o.op) a)) [
  | inl here ↦ let z : suc m ≡ 0 = e ∙ (λ i. if here i then 0 else suc (maker_of os a)) in absurd (omega (arith, z))
  | inr there ↦ let z : suc m ≡ suc (maker_of os a) = e ∙ (λ i. if there i then 0 else suc (maker_of os a)) in writes_there os a m x (omega (arith, z)) (omega arith) is
]

reads_there : (os : List Planned) (a r : ℕ) (x : Planned) → r ≡ reader_of os a → r < length os → x ≡ get_or os r x → stands_in (reads_of x.op) a ≡ true
reads_there [] a r x e b is = absurd (omega arith)
reads_there (o ∷ os) a zero x e b is = elim (cases_Bool (is_reader a o)) [
  | inl here ↦ subst (λ (p : Planned). stands_in (reads_of p.op) a ≡ true) (sym is) here
  | inr there ↦ let z : zero ≡ suc (reader_of os a) = e ∙ (λ i. if there i then 0 else suc (reader_of os a)) in absurd (omega (arith, z))
]
reads_there (o ∷ os) a (suc r) x e b is = elim (cases_Bool (is_reader a o)) [
  | inl here ↦ let z : suc r ≡ 0 = e ∙ (λ i. if here i then 0 else suc (reader_of os a)) in absurd (omega (arith, z))
  | inr there ↦ let z : suc r ≡ suc (reader_of os a) = e ∙ (λ i. if there i then 0 else suc (reader_of os a)) in reads_there os a r x (omega (arith, z)) (omega arith) is
]

module _ (test : Test) (both : Joining) (a : ℕ) (ops : List Planned) (m r : ℕ) (at : StandAt ops a m r) where
  next : m + 1 ≡ suc m
  next = omega arith

  behind_reader : drop (suc r) (drop (suc m) ops) ≡ drop (m + 1 + r + 1) ops
  behind_reader = drop-drop (suc r) (suc m) ops ∙ ap (λ n. drop n ops) (let z : suc m + suc r ≡ m + 1 + r + 1 = omega arith in z)

  below_rest : r < length (drop (suc m) ops)
  below_rest = let l = length-drop (suc m) ops in let t = at.there in omega (arith, l, t)

  first_reader : r ≡ reader_of (drop (suc m) ops) a
  first_reader = at.reader ∙ ap (λ n. reader_of (drop n ops) a) next

  maker_is : (mk : Planned) → mk ≡ get_or ops m mk → operation_at ops m ≡ mk
  maker_is mk is = get_or_default ops m no_operation mk at.below ∙ sym is

  reader_is : (rd : Planned) → rd ≡ get_or ops (m + 1 + r) rd → operation_at (drop (suc m) ops) r ≡ rd
  reader_is rd is =
      get_or-drop (suc m) ops r no_operation ∙ ap (λ n. operation_at ops n) (let z : suc m + r ≡ m + 1 + r = omega arith in z) ∙ get_or_default ops (m + 1 + r) no_operation rd at.there ∙ sym is

  pub reader_reads : (rd : Planned) → rd ≡ get_or ops (m + 1 + r) rd → stands_in (reads_of rd.op) a ≡ true
  reader_reads rd is = reads_there (drop (suc m) ops) a r rd first_reader below_rest
      (is ∙ ap (λ n. get_or ops n rd) (let z : m + 1 + r ≡ suc m + r = omega arith in z) ∙ sym (get_or-drop (suc m) ops r rd))

  pub maker_writes : (mk : Planned) → mk ≡ get_or ops m mk → stands_in (writes_of mk.op) a ≡ true
  maker_writes mk is = writes_there ops a m mk at.maker at.below is

  -- what the tests say of the operations at these places
  tests_are : (b : Bool) (mk rd : Planned) → mk ≡ get_or ops m mk → rd ≡ get_or ops (m + 1 + r) rd → test mk rd (drop (m + 1 + r + 1) ops) a ≡ b
      → test (operation_at ops m) (operation_at (drop (suc m) ops) r) (drop (suc r) (drop (suc m) ops)) a ≡ b
  tests_are b mk rd e f may = (λ i. test (maker_is mk e i) (reader_is rd f i) (behind_reader i) a) ∙ may

  pub kept_apart : (mk rd : Planned) → mk ≡ get_or ops m mk → rd ≡ get_or ops (m + 1 + r) rd → test mk rd (drop (m + 1 + r + 1) ops) a ≡ false → ops ≡ put_together test both a ops
  kept_apart mk rd e f may = sym (away_refused test both a ops m r at.maker at.below first_reader below_rest (tests_are false mk rd e f may))

  pub taken_together : (mk rd one : Planned) → mk ≡ get_or ops m mk → rd ≡ get_or ops (m + 1 + r) rd → test mk rd (drop (m + 1 + r + 1) ops) a ≡ true → one ≡ both mk rd a
      → remove (set ops (m + 1 + r) one) m ≡ put_together test both a ops
  taken_together mk rd one e f told is =
      (λ i. take-set-le m ops (m + 1 + r) one (let z : m ≤ m + 1 + r = omega arith in z) i ++ drop (suc m) (set ops (place i) one))
      ∙ ap (λ l. take m ops ++ l) (drop-set-add (suc m) ops r one ∙ ap (set (drop (suc m) ops) r) (is ∙ (λ i. both (sym (maker_is mk e) i) (sym (reader_is rd f) i) a)))
      ∙ sym (away_merged test both a ops m r at.maker at.below first_reader below_rest (tests_are true mk rd e f told))
    where
      place : m + 1 + r ≡ suc m + r
      place = omega arith

pub unread : (test : Test) (both : Joining) (a : ℕ) (ops : List Planned) (m r : ℕ) → m ≡ maker_of ops a → m < length ops → r ≡ reader_of (drop (m + 1) ops) a → length ops ≤ m + 1 + r → put_together test both a ops ≡ ops
unread test both a ops m r maker below reader long =
    let next : m + 1 ≡ suc m = omega arith in
    let first : r ≡ reader_of (drop (suc m) ops) a = reader ∙ ap (λ n. reader_of (drop n ops) a) next in
    let l = length-drop (suc m) ops in
    away_unread test both a ops m maker below (omega (arith, first, l, long))

-- ---- what is left of the list

-- what one array comes to: the parts of the list before and after it
pub record Taken (test : Test) (both : Joining) (a : ℕ) (old new : List Planned) : Type 0 where
  pub front : List Planned
  pub maker : Planned
  pub between : List Planned
  pub reader : Planned
  pub behind : List Planned
  pub before : old ≡ front ++ (maker ∷ (between ++ (reader ∷ behind)))
  pub after : new ≡ front ++ (between ++ (both maker reader a ∷ behind))
  pub writes : stands_in (writes_of maker.op) a ≡ true
  pub apart : HasReader between a → ⊥
  pub reads : is_reader a reader ≡ true
  pub told : test maker reader behind a ≡ true

module _ (test : Test) (both : Joining) (a : ℕ) where
  -- the reader, among the operations behind the maker
  record Found (maker : Planned) (os new : List Planned) : Type 0 where
    between : List Planned
    reader : Planned
    behind : List Planned
    before : os ≡ between ++ (reader ∷ behind)
    after : new ≡ between ++ (both maker reader a ∷ behind)
    apart : HasReader between a → ⊥
    reads : is_reader a reader ≡ true
    told : test maker reader behind a ≡ true

  found_of : (maker : Planned) (os new : List Planned) → into_first test both maker a os ≡ Some new → Found maker os new
  found_of maker [] new e = cc
  found_of maker (o ∷ os) new e = elim (cases_Bool (is_reader a o)) [
    | inl here ↦ elim (cases_Bool (test maker o os a)) [
      | inl may ↦
          let first : into_first test both maker a (o ∷ os) ≡ Some (both maker o a ∷ os) = (λ i. if here i then (if may i then Some (both maker o a ∷ os) else None) else option_map (λ rest. o ∷ rest) (into_first test both maker a os)) in
          let is : both maker o a ∷ os ≡ new = (let g : Some (both maker o a ∷ os) ≡ Some new = sym first ∙ e in cc) in
          record { between = []; reader = o; behind = os; before = refl; after = sym is; apart = λ r. r; reads = here; told = may }
      | inr not_may ↦
          let first : into_first test both maker a (o ∷ os) ≡ None = (λ i. if here i then (if not_may i then Some (both maker o a ∷ os) else None) else option_map (λ rest. o ∷ rest) (into_first test both maker a os)) in
          let g : None ≡ Some new = sym first ∙ e in cc
    ]
    | inr there ↦ let first : into_first test both maker a (o ∷ os) ≡ option_map (λ rest. o ∷ rest) (into_first test both maker a os) = (λ i. if there i then (if test maker o os a then Some (both maker o a ∷ os) else None) else option_map (λ rest. o ∷ rest) (into_first test both maker a os)) in
        further (into_first test both maker a os) refl there (sym first ∙ e) (found_of maker os)
  ]
    where
      further : (rest : Option (List Planned)) → into_first test both maker a os ≡ rest → is_reader a o ≡ false → option_map (λ r. o ∷ r) (into_first test both maker a os) ≡ Some new
          → ((n : List Planned) → into_first test both maker a os ≡ Some n → Found maker os n) → Found maker (o ∷ os) new
      further None is f g again = let h : None ≡ Some new = rw is at g in cc
      further (Some n) is f g again =
          let h : Some (o ∷ n) ≡ Some new = rw is at g in
          let same : o ∷ n ≡ new = cc in
          let found = again n is in
          record {
            between = o ∷ found.between;
            reader = found.reader;
            behind = found.behind;
            before = ap (λ l. o ∷ l) found.before;
            after = sym same ∙ ap (λ l. o ∷ l) found.after;
            apart = λ r. ⊎_elim (λ here. let t = contains_any (reads_of o.op) a here in let u : true ≡ false = sym t ∙ f in cc) found.apart r;
            reads = found.reads;
            told = found.told;
          }

  taken_of : (o : Planned) (os new : List Planned) → stands_in (writes_of o.op) a ≡ true → Found o os new → Taken test both a (o ∷ os) new
  taken_of o os new writes found = record {
    front = [];
    maker = o;
    between = found.between;
    reader = found.reader;
    behind = found.behind;
    before = ap (λ l. o ∷ l) found.before;
    after = found.after;
    writes = writes;
    apart = found.apart;
    reads = found.reads;
    told = found.told;
  }

  pub taken_step : (ops : List Planned) → (put_together test both a ops ≡ ops) ⊎ Taken test both a ops (put_together test both a ops)
  taken_step [] = inl refl
  taken_step (o ∷ os) = elim (cases_Bool (stands_in (writes_of o.op) a)) [
    | inl here ↦ made here (into_first test both o a os) refl
    | inr there ↦
        let first : put_together test both a (o ∷ os) ≡ o ∷ put_together test both a os = (λ i. if there i then unwrap_or (into_first test both o a os) (o ∷ os) else (o ∷ put_together test both a os)) in
        ⊎_elim (λ same. inl (first ∙ ap (λ l. o ∷ l) same)) (λ step. inr (subst (Taken test both a (o ∷ os)) (sym first) (behind o os (put_together test both a os) step))) (taken_step os)
  ]
    where
      behind : (o : Planned) (old new : List Planned) → Taken test both a old new → Taken test both a (o ∷ old) (o ∷ new)
      behind o old new t = record {
        front = o ∷ t.front;
        maker = t.maker;
        between = t.between;
        reader = t.reader;
        behind = t.behind;
        before = ap (λ l. o ∷ l) t.before;
        after = ap (λ l. o ∷ l) t.after;
        writes = t.writes;
        apart = t.apart;
        reads = t.reads;
        told = t.told;
      }

      made : stands_in (writes_of o.op) a ≡ true → (rest : Option (List Planned)) → into_first test both o a os ≡ rest → (put_together test both a (o ∷ os) ≡ o ∷ os) ⊎ Taken test both a (o ∷ os) (put_together test both a (o ∷ os))
      made here None is = inl (λ i. if here i then unwrap_or (is i) (o ∷ os) else (o ∷ put_together test both a os))
      made here (Some n) is =
          inr (subst (Taken test both a (o ∷ os)) (sym (λ i. if here i then unwrap_or (is i) (o ∷ os) else (o ∷ put_together test both a os)))
          (taken_of o os n here (found_of o os n is)))

-- what every step keeps is kept
pub taken_keep : (test : Test) (both : Joining) (P : List Planned → Type 0) → ((a : ℕ) (old new : List Planned) → Taken test both a old new → P old → P new)
    → (arrays : List ℕ) (ops : List Planned) → P ops → P (all_together test both arrays ops)
taken_keep test both P keeps [] ops h = h
taken_keep test both P keeps (a ∷ rest) ops h =
    taken_keep test both P keeps rest (put_together test both a ops)
    (⊎_elim (λ same. subst P (sym same) h) (λ t. keeps a ops (put_together test both a ops) t h) (taken_step test both a ops))

-- the next array
pub taken_next : (test : Test) (both : Joining) (a : ℕ) (arrays rest : List ℕ) (ops : List Planned) → arrays ≡ a ∷ rest
    → all_together test both arrays ops ≡ all_together test both rest (put_together test both a ops)
taken_next test both a arrays rest ops e = ap (λ (l : List ℕ). all_together test both l ops) e
