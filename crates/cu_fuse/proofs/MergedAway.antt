-- One merge in the list of operations, by the places of maker and reader.
use Rattle.std.proofs.Common.{◌≡◌, inl, inr, ℕ, zero, suc, ◌+◌, ◌<◌, ◌≤◌, Bool, true, false, List, [], ◌∷◌, ◌++◌, length, take, drop, drop-drop, Option, Some, None, get_or, refl, ap, sym, subst, ◌∙◌, arith, if◌then◌else◌}
use Rattle.std.specs.Option.{option_map}
use Rattle.std.specs.Prelude.{unwrap_or}
use Rattle.std.specs.List.{remove}
use Rattle.std.proofs.Math.ListN.{set}
use Rattle.std.proofs.lemmas.List.{drop-set-add, get_or-drop, get_or_default, length-drop, take-append-drop, take-set-le}
use Rattle.std.proofs.lemmas.Bool.{cases_Bool}
use Rattle.cu_op.specs.declared.operation.Planned.{Planned}
use Rattle.cu_op.specs.Operation.{reads_of, writes_of}
use Rattle.cu_op.specs.PlanView.{no_operation, operation_at}
use Rattle.cu_fuse.specs.Close.{maker_of}
use Rattle.cu_fuse.specs.Fused.{SettingView, into_reader, is_reader, joint, may_merge, merged_away, reader_of}
use Rattle.cu_op.specs.Numbers.{stands_in}

module _ (s : SettingView) (a : ℕ) where
  -- the reader among the operations behind the maker
  into_found : (maker : Planned) (os : List Planned) (r : ℕ) → r ≡ reader_of os a → r < length os → may_merge s maker (operation_at os r) (drop (suc r) os) a ≡ true
      → into_reader s maker a os ≡ Some (set os r (joint s maker (operation_at os r) a))
  into_found maker [] r e b may = absurd (omega arith)
  into_found maker (o ∷ os) zero e b may = elim (cases_Bool (is_reader a o)) [
    | inl here ↦ λ i. if here i then (if may i then Some (joint s maker o a ∷ os) else None) else option_map (λ rest. o ∷ rest) (into_reader s maker a os)
    | inr there ↦ let z : zero ≡ suc (reader_of os a) = e ∙ (λ i. if there i then 0 else suc (reader_of os a)) in absurd (omega (arith, z))
  ]
  into_found maker (o ∷ os) (suc r) e b may = elim (cases_Bool (is_reader a o)) [
    | inl here ↦ let z : suc r ≡ 0 = e ∙ (λ i. if here i then 0 else suc (reader_of os a)) in absurd (omega (arith, z))
    | inr there ↦
        let z : suc r ≡ suc (reader_of os a) = e ∙ (λ i. if there i then 0 else suc (reader_of os a)) in
        (λ i. if there i then (if may_merge s maker o os a then Some (joint s maker o a ∷ os) else None) else option_map (λ rest. o ∷ rest) (into_reader s maker a os))
        ∙ ap (option_map (λ rest. o ∷ rest)) (into_found maker os r (omega (arith, z)) (omega arith) may)
  ]

  into_refused : (maker : Planned) (os : List Planned) (r : ℕ) → r ≡ reader_of os a → r < length os → may_merge s maker (operation_at os r) (drop (suc r) os) a ≡ false → into_reader s maker a os ≡ None
  into_refused maker [] r e b may = absurd (omega arith)
  into_refused maker (o ∷ os) zero e b may = elim (cases_Bool (is_reader a o)) [
    | inl here ↦ λ i. if here i then (if may i then Some (joint s maker o a ∷ os) else None) else option_map (λ rest. o ∷ rest) (into_reader s maker a os)
    | inr there ↦ let z : zero ≡ suc (reader_of os a) = e ∙ (λ i. if there i then 0 else suc (reader_of os a)) in absurd (omega (arith, z))
  ]
  into_refused maker (o ∷ os) (suc r) e b may = elim (cases_Bool (is_reader a o)) [
    | inl here ↦ let z : suc r ≡ 0 = e ∙ (λ i. if here i then 0 else suc (reader_of os a)) in absurd (omega (arith, z))
    | inr there ↦
        let z : suc r ≡ suc (reader_of os a) = e ∙ (λ i. if there i then 0 else suc (reader_of os a)) in
        (λ i. if there i then (if may_merge s maker o os a then Some (joint s maker o a ∷ os) else None) else option_map (λ rest. o ∷ rest) (into_reader s maker a os))
        ∙ ap (option_map (λ rest. o ∷ rest)) (into_refused maker os r (omega (arith, z)) (omega arith) may)
  ]

  into_nothing : (maker : Planned) (os : List Planned) → length os ≤ reader_of os a → into_reader s maker a os ≡ None
  into_nothing maker [] h = refl
  into_nothing maker (o ∷ os) h = elim (cases_Bool (is_reader a o)) [
    | inl here ↦ let l : length (o ∷ os) ≤ 0 = rw here at h in absurd (omega (arith, l))
    | inr there ↦
        let l : length (o ∷ os) ≤ suc (reader_of os a) = rw there at h in
        (λ i. if there i then (if may_merge s maker o os a then Some (joint s maker o a ∷ os) else None) else option_map (λ rest. o ∷ rest) (into_reader s maker a os))
        ∙ ap (option_map (λ rest. o ∷ rest)) (into_nothing maker os (omega (arith, l)))
  ]

  -- the maker among all
  away_by : (ops : List Planned) (m : ℕ) (found : Option (List Planned)) → m ≡ maker_of ops a → m < length ops → into_reader s (operation_at ops m) a (drop (suc m) ops) ≡ found
      → merged_away s a ops ≡ take m ops ++ unwrap_or found (drop m ops)
  away_by [] m found e b is = absurd (omega arith)
  away_by (o ∷ os) zero found e b is = elim (cases_Bool (stands_in (writes_of o.op) a)) [
    | inl here ↦ λ i. if here i then unwrap_or (is i) (o ∷ os) else (o ∷ merged_away s a os)
    | inr there ↦ let z : zero ≡ suc (maker_of os a) = e ∙ (λ i. if there i then 0 else suc (maker_of os a)) in absurd (omega (arith, z))
  ]
  away_by (o ∷ os) (suc m) found e b is = elim (cases_Bool (stands_in (writes_of o.op) a)) [
    | inl here ↦ let z : suc m ≡ 0 = e ∙ (λ i. if here i then 0 else suc (maker_of os a)) in absurd (omega (arith, z))
    | inr there ↦
        let z : suc m ≡ suc (maker_of os a) = e ∙ (λ i. if there i then 0 else suc (maker_of os a)) in
        (λ i. if there i then unwrap_or (into_reader s o a os) (o ∷ os) else (o ∷ merged_away s a os)) ∙ ap (λ l. o ∷ l) (away_by os m found (omega (arith, z)) (omega arith) is)
  ]

  pub away_nowhere : (ops : List Planned) → length ops ≤ maker_of ops a → merged_away s a ops ≡ ops
  away_nowhere [] h = refl
  away_nowhere (o ∷ os) h = elim (cases_Bool (stands_in (writes_of o.op) a)) [
    | inl here ↦ let l : length (o ∷ os) ≤ 0 = rw here at h in absurd (omega (arith, l))
    | inr there ↦
        let l : length (o ∷ os) ≤ suc (maker_of os a) = rw there at h in
        (λ i. if there i then unwrap_or (into_reader s o a os) (o ∷ os) else (o ∷ merged_away s a os)) ∙ ap (λ l. o ∷ l) (away_nowhere os (omega (arith, l)))
  ]

  -- nothing changes where no operation reads the array, or where both aren't to be merged
  pub away_unread : (ops : List Planned) (m : ℕ) → m ≡ maker_of ops a → m < length ops → length (drop (suc m) ops) ≤ reader_of (drop (suc m) ops) a → merged_away s a ops ≡ ops
  away_unread ops m e b none = away_by ops m None e b (into_nothing (operation_at ops m) (drop (suc m) ops) none) ∙ take-append-drop m ops

  pub away_refused : (ops : List Planned) (m r : ℕ) → m ≡ maker_of ops a → m < length ops → r ≡ reader_of (drop (suc m) ops) a → r < length (drop (suc m) ops)
      → may_merge s (operation_at ops m) (operation_at (drop (suc m) ops) r) (drop (suc r) (drop (suc m) ops)) a ≡ false → merged_away s a ops ≡ ops
  away_refused ops m r e b f h may = away_by ops m None e b (into_refused (operation_at ops m) (drop (suc m) ops) r f h may) ∙ take-append-drop m ops

  pub away_merged : (ops : List Planned) (m r : ℕ) → m ≡ maker_of ops a → m < length ops → r ≡ reader_of (drop (suc m) ops) a → r < length (drop (suc m) ops)
      → may_merge s (operation_at ops m) (operation_at (drop (suc m) ops) r) (drop (suc r) (drop (suc m) ops)) a ≡ true
      → merged_away s a ops ≡ take m ops ++ set (drop (suc m) ops) r (joint s (operation_at ops m) (operation_at (drop (suc m) ops) r) a)
  away_merged ops m r e b f h may = away_by ops m (Some (set (drop (suc m) ops) r (joint s (operation_at ops m) (operation_at (drop (suc m) ops) r) a))) e b (into_found (operation_at ops m) (drop (suc m) ops) r f h may)

-- the places of the maker of an array and of its first reader, as they are counted in the whole list
pub record StandAt (ops : List Planned) (a m r : ℕ) : Type 0 where
  pub maker : m ≡ maker_of ops a
  pub below : m < length ops
  pub reader : r ≡ reader_of (drop (m + 1) ops) a
  pub there : m + 1 + r < length ops

reads_there : (os : List Planned) (a r : ℕ) (x : Planned) → r ≡ reader_of os a → r < length os → x ≡ get_or os r x → stands_in (reads_of x.op) a ≡ true
reads_there [] a r x e b is = absurd (omega arith)
reads_there (o ∷ os) a zero x e b is = elim (cases_Bool (is_reader a o)) [
  | inl here ↦ subst (λ (p : Planned). stands_in (reads_of p.op) a ≡ true) (sym is) here
  | inr there ↦ let z : zero ≡ suc (reader_of os a) = e ∙ (λ i. if there i then 0 else suc (reader_of os a)) in absurd (omega (arith, z))
]
reads_there (o ∷ os) a (suc r) x e b is = elim (cases_Bool (is_reader a o)) [
  | inl here ↦ let z : suc r ≡ 0 = e ∙ (λ i. if here i then 0 else suc (reader_of os a)) in absurd (omega (arith, z))
  | inr there ↦ let z : suc r ≡ suc (reader_of os a) = e ∙ (λ i. if there i then 0 else suc (reader_of os a)) in reads_there os a r x (omega (arith, z)) (omega arith) is
]

module _ (s : SettingView) (a : ℕ) (ops : List Planned) (m r : ℕ) (at : StandAt ops a m r) where
  next : m + 1 ≡ suc m
  next = omega arith

  behind_reader : drop (suc r) (drop (suc m) ops) ≡ drop (m + 1 + r + 1) ops
  behind_reader = drop-drop (suc r) (suc m) ops ∙ ap (λ n. drop n ops) (let z : suc m + suc r ≡ m + 1 + r + 1 = omega arith in z)

  below_rest : r < length (drop (suc m) ops)
  below_rest = let l = length-drop (suc m) ops in let t = at.there in omega (arith, l, t)

  first_reader : r ≡ reader_of (drop (suc m) ops) a
  first_reader = at.reader ∙ ap (λ n. reader_of (drop n ops) a) next

  maker_is : (mk : Planned) → mk ≡ get_or ops m mk → operation_at ops m ≡ mk
  maker_is mk is = get_or_default ops m no_operation mk at.below ∙ sym is

  reader_is : (rd : Planned) → rd ≡ get_or ops (m + 1 + r) rd → operation_at (drop (suc m) ops) r ≡ rd
  reader_is rd is =
      get_or-drop (suc m) ops r no_operation ∙ ap (λ n. operation_at ops n) (let z : suc m + r ≡ m + 1 + r = omega arith in z) ∙ get_or_default ops (m + 1 + r) no_operation rd at.there ∙ sym is

  pub reader_reads : (rd : Planned) → rd ≡ get_or ops (m + 1 + r) rd → stands_in (reads_of rd.op) a ≡ true
  reader_reads rd is = reads_there (drop (suc m) ops) a r rd first_reader below_rest
      (is ∙ ap (λ n. get_or ops n rd) (let z : m + 1 + r ≡ suc m + r = omega arith in z) ∙ sym (get_or-drop (suc m) ops r rd))

  -- what the tests say of the operations at these places
  tests_are : (b : Bool) (mk rd : Planned) → mk ≡ get_or ops m mk → rd ≡ get_or ops (m + 1 + r) rd → may_merge s mk rd (drop (m + 1 + r + 1) ops) a ≡ b
      → may_merge s (operation_at ops m) (operation_at (drop (suc m) ops) r) (drop (suc r) (drop (suc m) ops)) a ≡ b
  tests_are b mk rd e f may = (λ i. may_merge s (maker_is mk e i) (reader_is rd f i) (behind_reader i) a) ∙ may

  pub kept_apart : (mk rd : Planned) → mk ≡ get_or ops m mk → rd ≡ get_or ops (m + 1 + r) rd → may_merge s mk rd (drop (m + 1 + r + 1) ops) a ≡ false → ops ≡ merged_away s a ops
  kept_apart mk rd e f may = sym (away_refused s a ops m r at.maker at.below first_reader below_rest (tests_are false mk rd e f may))

  pub put_together : (mk rd both : Planned) → mk ≡ get_or ops m mk → rd ≡ get_or ops (m + 1 + r) rd → may_merge s mk rd (drop (m + 1 + r + 1) ops) a ≡ true → both ≡ joint s mk rd a
      → remove (set ops (m + 1 + r) both) m ≡ merged_away s a ops
  put_together mk rd both e f may is =
      (λ i. take-set-le m ops (m + 1 + r) both (let z : m ≤ m + 1 + r = omega arith in z) i ++ drop (suc m) (set ops (place i) both))
      ∙ ap (λ l. take m ops ++ l) (drop-set-add (suc m) ops r both ∙ ap (set (drop (suc m) ops) r) (is ∙ (λ i. joint s (sym (maker_is mk e) i) (sym (reader_is rd f) i) a)))
      ∙ sym (away_merged s a ops m r at.maker at.below first_reader below_rest (tests_are true mk rd e f may))
    where
      place : m + 1 + r ≡ suc m + r
      place = omega arith

pub unread : (s : SettingView) (a : ℕ) (ops : List Planned) (m r : ℕ) → m ≡ maker_of ops a → m < length ops → r ≡ reader_of (drop (m + 1) ops) a → length ops ≤ m + 1 + r → merged_away s a ops ≡ ops
unread s a ops m r maker below reader long =
    let next : m + 1 ≡ suc m = omega arith in
    let first : r ≡ reader_of (drop (suc m) ops) a = reader ∙ ap (λ n. reader_of (drop n ops) a) next in
    let l = length-drop (suc m) ops in
    away_unread s a ops m maker below (omega (arith, first, l, long))
