-- The operations that are left after merges can run, and the elements are those that they were.
use Rattle.std.proofs.Common.{◌≡◌, ◌≢◌, ◌⊎◌, inl, inr, ℕ, zero, suc, ◌+◌, ◌<◌, ◌≤◌, ◌==◌, ◌^◌, not, nat_le, bytes_eq, Bool, true, false, List, [], ◌∷◌, ◌++◌, Contains, length, drop, Option, Some, None, refl, ap, sym, ◌∙◌, subst, arith, ⊎_elim, if◌then◌else◌}
use Rattle.std.specs.List.{slice_get, list_any}
use Rattle.std.specs.Option.{option_map}
use Rattle.std.specs.Prelude.{unwrap_or}
use Rattle.std.proofs.lemmas.Bool.{cases_Bool, and_parts, leb-true}
use Rattle.std.proofs.lemmas.Bool.Decides.{eqb_tells}
use Rattle.std.proofs.lemmas.Slice.Eq.{bytes_eq-Decides}
use Rattle.cu_grid.specs.Grid.{RegularGrid}
use Rattle.cu_op.specs.declared.operation.Op.{Op}
use Rattle.cu_op.specs.declared.operation.Planned.{Planned}
use Rattle.cu_op.proofs.KindLaws.{map_by_kernel}
use Rattle.cu_op.specs.Arrays.{grid_at, same_grid}
use Rattle.cu_op.specs.Kind.Map.{map_of}
use Rattle.cu_op.specs.Operation.{reads_of, writes_of, target_of}
use Rattle.cu_op.specs.Projection.{instruction_count}
use Rattle.cu_op.specs.Elements.{Elements}
use Rattle.cu_op.proofs.Members.{any_contains, contains_any}
use Rattle.cu_fuse.specs.Fused.{SettingView, is_map, is_reader, stands_once, joint_op, joint, are_maps, is_between, has_one_reader, has_grid_of, is_small, may_merge, into_reader, merged_away, loaded_ops, map_inputs, merged_all, fused_ops}
use Rattle.cu_op.specs.Numbers.{number_in, stands_in}
use Rattle.cu_fuse.specs.Merge.{Joins, merged_op}
use Rattle.cu_fuse.specs.Runs.{HasReader, CanRun, AreMade}
use Rattle.cu_fuse.proofs.ByKernel.{kernel_is}
use Rattle.cu_fuse.proofs.Distinct.{at_place, stands}
use Rattle.cu_fuse.proofs.Loaded.{loaded_has, made_once, runs_once}
use Rattle.cu_fuse.proofs.Running.{IsJoint, merge_runs, merge_made}
use Rattle.cu_fuse.proofs.Same.{loaded_does}

-- ---- a number in a list

-- it stands nowhere else
once_alone : (xs : List ℕ) (a k : ℕ) → stands_in (drop (number_in xs a + 1) xs) a ≡ false → k ≢ number_in xs a → slice_get xs k ≡ Some a → ⊥
once_alone [] a zero h other e = cc
once_alone [] a (suc k) h other e = cc
once_alone (x ∷ xs) a zero h other e = elim (eqb_tells x a) [
  | inl p ↦ other (rw p.0 refl)
  | inr p ↦ p.1 (same_some x a e)
]
  where
    same_some : (x y : ℕ) → Some x ≡ Some y → x ≡ y
    same_some x y e = cc
once_alone (x ∷ xs) a (suc k) h other e = let again = once_alone xs a k in elim (eqb_tells x a) [
  | inl p ↦ let t = stands xs a k e in let u : stands_in xs a ≡ false = rw p.0 at h in cc
  | inr p ↦ again (let g : stands_in (drop (suc (number_in xs a) + 1) (x ∷ xs)) a ≡ false = rw p.0 at h in subst (λ (n : ℕ). stands_in (drop n (x ∷ xs)) a ≡ false) (let z : suc (number_in xs a) + 1 ≡ suc (number_in xs a + 1) = omega arith in z) g)
      (λ same. other (rw p.0 (ap suc same))) e
]

-- ---- who reads an array

not_read : (os : List Planned) (a : ℕ) → list_any (is_reader a) os ≡ false → HasReader os a → ⊥
not_read [] a h r = r
not_read (o ∷ os) a h (inl here) = let t = contains_any (reads_of o.op) a here in let u : (true ≡ false) = ap (λ b. b) (rw t at h) in cc
not_read (o ∷ os) a h (inr there) = elim (cases_Bool (is_reader a o)) [
  | inl t ↦ let u : true ≡ false = rw t at h in cc
  | inr f ↦ not_read os a (rw f at h) there
]

-- ---- one array

not_true : (b : Bool) → not b ≡ true → b ≡ false
not_true true h = cc
not_true false h = refl

pub grids_equal : (g h : RegularGrid) → same_grid g h ≡ true → g ≡ h
grids_equal g h e =
    let both = and_parts (bytes_eq g.shape h.shape) (bytes_eq g.chunk h.chunk) e in
    let shapes = (bytes_eq-Decides g.shape h.shape).0 both.0 in
    let chunks = (bytes_eq-Decides g.chunk h.chunk).0 both.1 in
    λ i. record { shape = shapes i; chunk = chunks i }

only_written : (out a : ℕ) → Contains (out ∷ []) a → out ≡ a
only_written out a (zero, l, e) = e
only_written out a (suc k, l, e) = absurd (omega arith)

-- what the tests of a merge say, one by one
pub record Tested (s : SettingView) (maker reader : Planned) (behind : List Planned) (a : ℕ) : Type 0 where
  pub makes : is_map maker.op ≡ true
  pub takes : is_map reader.op ≡ true
  pub between : not (a == s.out) ≡ true
  pub read : stands_in (reads_of reader.op) a ≡ true
  pub once : not (stands_in (drop (number_in (reads_of reader.op) a + 1) (reads_of reader.op)) a) ≡ true
  pub alone : not (list_any (is_reader a) behind) ≡ true
  pub grid : same_grid (grid_at s.arrays a) (grid_at s.arrays (target_of reader.op)) ≡ true
  pub inputs : nat_le (length (reads_of (joint_op s maker reader a))) 8 ≡ true
  pub instructions : nat_le (instruction_count (joint_op s maker reader a)) 32 ≡ true
  pub allowed : nat_le (joint s maker reader a).projected s.allowed ≡ true

pub tested : (s : SettingView) (maker reader : Planned) (behind : List Planned) (a : ℕ) → may_merge s maker reader behind a ≡ true → Tested s maker reader behind a
tested s maker reader behind a may =
    let p1 = and_parts (are_maps maker reader) _ may in
    let p2 = and_parts (is_between s a) _ p1.1 in
    let p3 = and_parts (has_one_reader reader behind a) _ p2.1 in
    let p4 = and_parts (has_grid_of s reader a) (is_small s (joint s maker reader a)) p3.1 in
    let maps = and_parts (is_map maker.op) (is_map reader.op) p1.0 in
    let one = and_parts (stands_once (reads_of reader.op) a) (not (list_any (is_reader a) behind)) p3.0 in
    let once = and_parts (stands_in (reads_of reader.op) a) (not (stands_in (drop (number_in (reads_of reader.op) a + 1) (reads_of reader.op)) a)) one.0 in
    let small = and_parts (nat_le (length (reads_of (joint_op s maker reader a))) 8) _ p4.1 in
    let rest = and_parts (nat_le (instruction_count (joint_op s maker reader a)) 32) (nat_le (joint s maker reader a).projected s.allowed) small.1 in
    record {
      makes = maps.0;
      takes = maps.1;
      between = p2.0;
      read = once.0;
      once = once.1;
      alone = one.1;
      grid = p4.0;
      inputs = small.0;
      instructions = rest.0;
      allowed = rest.1;
    }

-- what a merge of one array is: the parts of the list before and after it
pub record Step (s : SettingView) (array : ℕ) (old new : List Planned) : Type 0 where
  pub front : List Planned
  pub maker : Planned
  pub between : List Planned
  pub reader : Planned
  pub behind : List Planned
  pub j : ℕ
  pub before : old ≡ front ++ (maker ∷ (between ++ (reader ∷ behind)))
  pub after : new ≡ front ++ (between ++ (joint s maker reader array ∷ behind))
  pub joins : Joins s.arrays (record { maker = maker; between = between; reader = reader; behind = behind }) array j
  pub merged : IsJoint s.arrays s.reserved maker reader (joint s maker reader array) j
  pub allowed : (joint s maker reader array).projected ≤ s.allowed
  pub kept : array ≢ s.out

module _ (s : SettingView) (room : s.allowed < 2 ^ 64) (a : ℕ) where
  -- what the tests say
  step_of : (maker reader : Planned) (between behind : List Planned) → stands_in (writes_of maker.op) a ≡ true → (HasReader between a → ⊥) → may_merge s maker reader behind a ≡ true
      → Step s a (maker ∷ (between ++ (reader ∷ behind))) (between ++ (joint s maker reader a ∷ behind))
  step_of maker reader between behind writes apart may =
      let j = number_in (reads_of reader.op) a in
      let t = tested s maker reader behind a may in
      let few : (joint s maker reader a).projected ≤ s.allowed = leb-true (joint s maker reader a).projected s.allowed t.allowed in
      let (inner, inner_is) = kernel_is maker.op t.makes in
      let (outer, outer_is) = kernel_is reader.op t.takes in
      let m = map_by_kernel maker.op inner inner_is in
      let same : target_of maker.op ≡ a = only_written (target_of maker.op) a (subst (λ (o : Op). Contains (writes_of o) a) m (any_contains (writes_of maker.op) a writes)) in
      record {
        front = [];
        maker = maker;
        between = between;
        reader = reader;
        behind = behind;
        j = j;
        before = refl;
        after = refl;
        joins = record {
          inner = inner;
          inner_ins = reads_of maker.op;
          outer = outer;
          outer_ins = reads_of reader.op;
          out = target_of reader.op;
          makes = m ∙ ap (map_of inner (reads_of maker.op)) same;
          takes = map_by_kernel reader.op outer outer_is;
          input = at_place (reads_of reader.op) a t.read;
          alone = λ k other e. once_alone (reads_of reader.op) a k (not_true _ t.once) other e;
          between_apart = apart;
          behind_apart = not_read behind a (not_true _ t.alone);
          grid = grids_equal (grid_at s.arrays a) (grid_at s.arrays (target_of reader.op)) t.grid;
        };
        merged = record { same = loaded_does s.arrays s.once (merged_op maker.op reader.op j); projected = refl; room = omega arith };
        allowed = few;
        kept = λ e. elim (eqb_tells a s.out) [ inl p ↦ let f = not_true (a == s.out) t.between in let y = p.0 in cc | inr p ↦ p.1 e ];
      }

  -- the reader, among the operations behind the maker
  record Found (maker : Planned) (os new : List Planned) : Type 0 where
    between : List Planned
    reader : Planned
    behind : List Planned
    before : os ≡ between ++ (reader ∷ behind)
    after : new ≡ between ++ (joint s maker reader a ∷ behind)
    apart : HasReader between a → ⊥
    may : may_merge s maker reader behind a ≡ true

  found_of : (maker : Planned) (os new : List Planned) → into_reader s maker a os ≡ Some new → Found maker os new
  found_of maker [] new e = cc
  found_of maker (o ∷ os) new e = elim (cases_Bool (is_reader a o)) [
    | inl here ↦ elim (cases_Bool (may_merge s maker o os a)) [
      | inl may ↦
          let first : into_reader s maker a (o ∷ os) ≡ Some (joint s maker o a ∷ os) = (λ i. if here i then (if may i then Some (joint s maker o a ∷ os) else None) else option_map (λ rest. o ∷ rest) (into_reader s maker a os)) in
          let is : joint s maker o a ∷ os ≡ new = (let g : Some (joint s maker o a ∷ os) ≡ Some new = sym first ∙ e in cc) in
          record { between = []; reader = o; behind = os; before = refl; after = sym is; apart = λ r. r; may = may }
      | inr not_may ↦
          let first : into_reader s maker a (o ∷ os) ≡ None = (λ i. if here i then (if not_may i then Some (joint s maker o a ∷ os) else None) else option_map (λ rest. o ∷ rest) (into_reader s maker a os)) in
          let g : None ≡ Some new = sym first ∙ e in cc
    ]
    | inr there ↦ let first : into_reader s maker a (o ∷ os) ≡ option_map (λ rest. o ∷ rest) (into_reader s maker a os) = (λ i. if there i then (if may_merge s maker o os a then Some (joint s maker o a ∷ os) else None) else option_map (λ rest. o ∷ rest) (into_reader s maker a os)) in
        further (into_reader s maker a os) refl there (sym first ∙ e) (found_of maker os)
  ]
    where
      further : (rest : Option (List Planned)) → into_reader s maker a os ≡ rest → is_reader a o ≡ false → option_map (λ r. o ∷ r) (into_reader s maker a os) ≡ Some new
          → ((n : List Planned) → into_reader s maker a os ≡ Some n → Found maker os n) → Found maker (o ∷ os) new
      further None is f g again = let h : None ≡ Some new = rw is at g in cc
      further (Some n) is f g again =
          let h : Some (o ∷ n) ≡ Some new = rw is at g in
          let same : o ∷ n ≡ new = cc in
          let found = again n is in
          record {
            between = o ∷ found.between;
            reader = found.reader;
            behind = found.behind;
            before = ap (λ l. o ∷ l) found.before;
            after = sym same ∙ ap (λ l. o ∷ l) found.after;
            apart = λ r. ⊎_elim (λ here. let t = contains_any (reads_of o.op) a here in let u : true ≡ false = sym t ∙ f in cc) found.apart r;
            may = found.may;
          }

  pub away_step : (ops : List Planned) → (merged_away s a ops ≡ ops) ⊎ Step s a ops (merged_away s a ops)
  away_step [] = inl refl
  away_step (o ∷ os) = elim (cases_Bool (stands_in (writes_of o.op) a)) [
    | inl here ↦ made here (into_reader s o a os) refl
    | inr there ↦ passed there (away_step os)
  ]
    where
      first : stands_in (writes_of o.op) a ≡ false → merged_away s a (o ∷ os) ≡ o ∷ merged_away s a os
      first there = λ i. if there i then unwrap_or (into_reader s o a os) (o ∷ os) else (o ∷ merged_away s a os)

      put_first : (xs ys all : List Planned) → all ≡ o ∷ xs → xs ≡ ys → all ≡ o ∷ ys
      put_first xs ys all e same = e ∙ ap (λ (l : List Planned). o ∷ l) same

      behind : (o : Planned) (old new : List Planned) → Step s a old new → Step s a (o ∷ old) (o ∷ new)
      behind o old new t = record {
        front = o ∷ t.front;
        maker = t.maker;
        between = t.between;
        reader = t.reader;
        behind = t.behind;
        j = t.j;
        before = ap (λ l. o ∷ l) t.before;
        after = ap (λ l. o ∷ l) t.after;
        joins = t.joins;
        merged = t.merged;
        allowed = t.allowed;
        kept = t.kept;
      }

      passed : stands_in (writes_of o.op) a ≡ false → (merged_away s a os ≡ os) ⊎ Step s a os (merged_away s a os)
          → (merged_away s a (o ∷ os) ≡ o ∷ os) ⊎ Step s a (o ∷ os) (merged_away s a (o ∷ os))
      passed there (inl same) = inl (put_first (merged_away s a os) os (merged_away s a (o ∷ os)) (first there) same)
      passed there (inr step) = inr (subst (Step s a (o ∷ os)) (sym (first there)) (behind o os (merged_away s a os) step))

      made : stands_in (writes_of o.op) a ≡ true → (rest : Option (List Planned)) → into_reader s o a os ≡ rest → (merged_away s a (o ∷ os) ≡ o ∷ os) ⊎ Step s a (o ∷ os) (merged_away s a (o ∷ os))
      made here None is = inl (λ i. if here i then unwrap_or (is i) (o ∷ os) else (o ∷ merged_away s a os))
      made here (Some n) is =
          let found = found_of o os n is in
          let t = step_of o found.reader found.between found.behind here found.apart found.may in
          inr (subst (Step s a (o ∷ os)) (sym (λ i. if here i then unwrap_or (is i) (o ∷ os) else (o ∷ merged_away s a os)))
          (subst (λ (l : List Planned). Step s a (o ∷ os) l) (sym found.after) (subst (λ (l : List Planned). Step s a (o ∷ l) (found.between ++ (joint s o found.reader a ∷ found.behind))) (sym found.before) t)))

-- ---- all arrays

-- what every merge keeps is kept
pub all_keep : (s : SettingView) (P : List Planned → Type 0) → s.allowed < 2 ^ 64 → ((a : ℕ) (old new : List Planned) → Step s a old new → P old → P new)
    → (arrays : List ℕ) (ops : List Planned) → P ops → P (merged_all s arrays ops)
all_keep s P room keeps [] ops h = h
all_keep s P room keeps (a ∷ rest) ops h =
    all_keep s P room keeps rest (merged_away s a ops) (⊎_elim (λ same. subst P (sym same) h) (λ t. keeps a ops (merged_away s a ops) t h) (away_step s room a ops))

pub fused_runs : (s : SettingView) (ops : List Planned) (at : Elements) → s.allowed < 2 ^ 64 → CanRun s.arrays s.reserved [] ops → AreMade s.arrays at ops
    → CanRun s.arrays s.reserved [] (fused_ops s ops) × AreMade s.arrays at (fused_ops s ops)
fused_runs s ops at room runs made =
    all_keep s (λ l. CanRun s.arrays s.reserved [] l × AreMade s.arrays at l) room
    (λ a old new t (r, m).
    let run = subst (CanRun s.arrays s.reserved []) t.before r in
    let are = subst (AreMade s.arrays at) t.before m in (
      subst (CanRun s.arrays s.reserved []) (sym t.after) (merge_runs s.arrays s.reserved t.front t.between t.behind t.maker t.reader (joint s t.maker t.reader a) a t.j t.joins t.merged run),
      subst (AreMade s.arrays at) (sym t.after) (merge_made s.arrays s.reserved t.front t.between t.behind t.maker t.reader (joint s t.maker t.reader a) a t.j t.joins t.merged run at are),
    ))
    (map_inputs (loaded_ops s ops)) (loaded_ops s ops)
    (loaded_has s (λ l. CanRun s.arrays s.reserved [] l × AreMade s.arrays at l) ops (runs, made) (runs_once s [] ops runs, made_once s at [] ops runs made))
