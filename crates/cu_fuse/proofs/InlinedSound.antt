-- The plan in which the chosen arrays are inlined is sound, and its arrays have the values that they had.
use Rattle.cu_op.proofs.AllStored.{stored_at}
use Rattle.cu_op.proofs.KindLaws.{laws_of}
use Rattle.cu_op.proofs.Members.{any_contains, bool_cases, only_member}
use Rattle.cu_op.proofs.Plans.{few_regions}
use Rattle.cu_fuse.proofs.AlikeKinds.{same_by_chunk, same_fits, same_rule, same_tasks, SameLayouts}
use Rattle.cu_fuse.proofs.InlinedNames.{arrays_are, keys_are}
use Rattle.cu_fuse.proofs.InlinedPlans.{arrays_long, chosen_may, new_fits, new_flag, new_room, ops_long, projection_is, room_or_none, same_layouts, same_maker, same_op, stays}
use Rattle.cu_fuse.proofs.ReadOnce.{only_reader, stands_at, times}
use Rattle.cu_fuse.specs.Close.{HasMadeNames}
use Rattle.cu_fuse.specs.Inlining.{inlined_by, read_count, IsInliningChoice}
use Rattle.cu_grid.specs.Grid.{RegularGrid}
use Rattle.cu_op.specs.Arrays.{array_at, array_chunk_count, grid_counts, is_inlined, maker_at, no_array, AllStored}
use Rattle.cu_op.specs.Cells.{regions_of, task_grid, tasks_of}
use Rattle.cu_op.specs.Elements.{Elements}
use Rattle.cu_op.specs.Operation.{reads_of, target_of, writes_of, writes_one_chunk, IsBefore, ReadsByChunk}
use Rattle.cu_op.specs.PlanView.{PlanView, no_operation, op_of, operation_at}
use Rattle.cu_op.specs.Sound.{cells_by, made_chunks, IsInlined, IsOperation, Sound}
use Rattle.cu_op.specs.Value.{plan_value, updated, values_after}
use Rattle.cu_op.specs.declared.layout.ArrayInfo.{ArrayInfo}
use Rattle.cu_op.specs.declared.layout.Layout.{Layout}
use Rattle.cu_op.specs.declared.operation.Op.{Op}
use Rattle.cu_op.specs.declared.operation.Planned.{Planned}
use Rattle.cu_shape.specs.Index.{product}
use Rattle.std.proofs.Common.{◌≡◌, inl, inr, ℕ, suc, ◌^◌, ◌<◌, ◌≤◌, ◌==◌, true, false, List, [], ◌∷◌, length, get_or, Contains, Some, Option, refl, ap, sym, ◌∙◌, subst, arith, Bool}
use Rattle.std.specs.List.{list_any}
use Rattle.std.specs.Prelude.{sum_by}
use Rattle.std.proofs.lemmas.List.Sums.{sum_by-cons}

-- ---- sums over two lists

sum_less : {A B : Type 0} (f : A → ℕ) (g : B → ℕ) (d : A) (e : B) (xs : List A) (ys : List B) → length xs ≡ length ys
    → ((k : ℕ) → k < length ys → f (get_or xs k d) ≤ g (get_or ys k e)) → sum_by f xs ≤ sum_by g ys
sum_less f g d e [] [] l h = omega arith
sum_less f g d e [] (y ∷ ys) l h = absurd (omega (arith, l))
sum_less f g d e (x ∷ xs) [] l h = absurd (omega (arith, l))
sum_less f g d e (x ∷ xs) (y ∷ ys) l h =
    let first = h 0 (omega arith) in
    let rest = sum_less f g d e xs ys (omega (arith, l)) (λ k b. h (suc k) (omega (arith, b))) in
    let a = sum_by-cons f x xs in
    let b = sum_by-cons g y ys in
    omega (arith, first, rest, a, b)

sum_same : {A B : Type 0} (f : A → ℕ) (g : B → ℕ) (d : A) (e : B) (xs : List A) (ys : List B) → length xs ≡ length ys
    → ((k : ℕ) → k < length ys → f (get_or xs k d) ≡ g (get_or ys k e)) → sum_by f xs ≡ sum_by g ys
sum_same f g d e [] [] l h = refl
sum_same f g d e [] (y ∷ ys) l h = absurd (omega (arith, l))
sum_same f g d e (x ∷ xs) [] l h = absurd (omega (arith, l))
sum_same f g d e (x ∷ xs) (y ∷ ys) l h =
    let first = h 0 (omega arith) in
    let rest = sum_same f g d e xs ys (omega (arith, l)) (λ k b. h (suc k) (omega (arith, b))) in
    let a = sum_by-cons f x xs in
    let b = sum_by-cons g y ys in
    omega (arith, first, rest, a, b)

-- ---- values

updated_alike : (old new : List ArrayInfo) (s : SameLayouts old new) (op : Op) (at : Elements) → updated op new at ≡ updated op old at
updated_alike old new s op at = λ i array idx. each array idx i
  where
    each : (array : ℕ) (idx : List ℕ) → updated op new at array idx ≡ updated op old at array idx
    each array idx =
        elim (bool_cases (list_any (λ a. a == array) (writes_of op))) [
          | inl t ↦ let own = same_rule old new s op at array idx (any_contains (writes_of op) array t) in rw t own
          | inr f ↦ rw f refl
        ]

values_alike : (old new : List ArrayInfo) (s : SameLayouts old new) (xs ys : List Planned) → length xs ≡ length ys
    → ((k : ℕ) → k < length ys → (operation_at xs k).op ≡ (operation_at ys k).op) → (at : Elements) → values_after xs new at ≡ values_after ys old at
values_alike old new s [] [] l h at = refl
values_alike old new s [] (y ∷ ys) l h at = absurd (omega (arith, l))
values_alike old new s (x ∷ xs) [] l h at = absurd (omega (arith, l))
values_alike old new s (x ∷ xs) (y ∷ ys) l h at =
    let first : updated x.op new at ≡ updated y.op old at = ap (λ (op : Op). updated op new at) (h 0 (omega arith)) ∙ updated_alike old new s y.op at in
    ap (values_after xs new) first ∙ values_alike old new s xs ys (omega (arith, l)) (λ k b. h (suc k) (omega (arith, b))) (updated y.op old at)

pub same_values : (p : PlanView) (chosen : ℕ → Bool) (env : Elements) → plan_value (inlined_by p chosen) env ≡ plan_value p env
same_values p chosen env =
    values_alike p.arrays (inlined_by p chosen).arrays (same_layouts p chosen) (inlined_by p chosen).ops p.ops (ops_long p chosen)
    (λ k b. same_op p chosen k) env

-- ---- the plan

module _ (p : PlanView) (chosen : ℕ → Bool) (c : IsInliningChoice p chosen) (s : Sound p) (stored : AllStored p.arrays) where
  abbrev new : PlanView
  new = inlined_by p chosen

  operation_within : (k : ℕ) → k < length new.ops → k < length p.ops
  operation_within k l = let e = ops_long p chosen in omega (arith, e, l)

  array_within : (a : ℕ) → a < length new.arrays → a < length p.arrays
  array_within a l = let e = arrays_long p chosen in omega (arith, e, l)

  layout_is : (a : ℕ) → (array_at new.arrays a).layout ≡ (array_at p.arrays a).layout
  layout_is a = (same_layouts p chosen).at a

  -- ---- operations

  is_operation : (k : ℕ) → k < length p.ops → IsOperation new.arrays k (op_of p k)
  is_operation k l =
      let was = s.operations k l in
      let long = arrays_long p chosen in
      record {
        reads = λ n d b. (
          (let w = (was.reads n d b).0 in omega (arith, long, w)),
          subst (λ (m : Option ℕ). IsBefore m k) (sym (same_maker p chosen _)) (was.reads n d b).1,
        );
        writes = λ n d b. (
          (let w = (was.writes n d b).0 in omega (arith, long, w)),
          same_maker p chosen _ ∙ (was.writes n d b).1,
        );
        fits = same_fits p.arrays new.arrays (same_layouts p chosen) (op_of p k) was.fits;
      }

  -- ---- inlined arrays

  -- its chunks are those of the regions of its maker
  few_chunks : (a m : ℕ) → a < length p.arrays → maker_at p.arrays a ≡ Some m → writes_one_chunk (op_of p m) ≡ true
      → array_chunk_count (array_at new.arrays a) ≤ 65536
  few_chunks a m l made one =
      let (b, writes) = s.makers a m l made in
      let target : target_of (op_of p m) ≡ a = only_member (target_of (op_of p m)) a (subst (λ (xs : List ℕ). Contains xs a) ((laws_of (op_of p m)).one_written one) writes) in
      let few = few_regions p m s b in
      let grid : task_grid p.arrays (op_of p m) ≡ (array_at p.arrays a).layout.grid =
      (laws_of (op_of p m)).one_grid p.arrays one ∙ ap (λ (x : ℕ). (array_at p.arrays x).layout.grid) target in
      subst (λ (x : Layout). product (grid_counts x.grid) ≤ 65536) (sym (layout_is a))
      (subst (λ (g : RegularGrid). product (grid_counts g) ≤ 65536) grid few)

  same_count : (a : ℕ) → read_count new.ops a ≡ read_count p.ops a
  same_count a =
      sum_same (λ (o : Planned). times a (reads_of o.op)) (λ (o : Planned). times a (reads_of o.op)) no_operation no_operation new.ops p.ops (ops_long p chosen)
      (λ k b. ap (λ (op : Op). times a (reads_of op)) (same_op p chosen k))

  inlined_is : (a : ℕ) → a < length p.arrays → chosen a ≡ true → IsInlined new a
  inlined_is a l t =
      let (k, i, at, may, room) = chosen_may p chosen c a t in
      let read = stands_at (reads_of (op_of p k)) i a at in
      let m = may.maker.0 in
      record {
        inner = may.inner;
        maker = (m, same_maker p chosen a ∙ may.maker.1, ap writes_one_chunk (same_op p chosen m) ∙ may.maker.2);
        once = same_count a ∙ may.once;
        reader = λ j b there.
            let own : Contains (reads_of (op_of p j)) a = subst (λ (op : Op). Contains (reads_of op) a) (same_op p chosen j) there in
            let is : j ≡ k = only_reader p a may.once k read j own in
            subst (λ (op : Op). ReadsByChunk new.arrays op a) (sym (same_op p chosen j))
            (same_by_chunk p.arrays new.arrays (same_layouts p chosen) (op_of p j) a
            (subst (λ (n : ℕ). ReadsByChunk p.arrays (op_of p n) a) (sym is) may.chunk));
        few = λ j b there.
            let own : Contains (reads_of (op_of p j)) a = subst (λ (op : Op). Contains (reads_of op) a) (same_op p chosen j) there in
            elim (room_or_none p chosen c s j) [
              | inl none ↦ absurd (let off = none a own in (let e : true ≡ false = sym t ∙ off in cc))
              | inr has ↦ (new_room p chosen s c j has).reads
            ];
        chunks = few_chunks a m l may.maker.1 may.maker.2;
      }

  -- ---- tasks and cells

  task_fewer : (k : ℕ) → k < length p.ops → tasks_of new.arrays (operation_at new.ops k).op ≤ tasks_of p.arrays (op_of p k)
  task_fewer k b =
      let op = op_of p k in
      let is : tasks_of new.arrays (operation_at new.ops k).op ≡ tasks_of new.arrays op = ap (tasks_of new.arrays) (same_op p chosen k) in
      let regions : regions_of new.arrays op ≡ regions_of p.arrays op =
      ap (λ (g : RegularGrid). product (grid_counts g)) (same_tasks p.arrays new.arrays (same_layouts p chosen) op) in
      let whole : tasks_of p.arrays op ≡ regions_of p.arrays op = (let f = stored_at p.arrays (target_of op) stored in rw f refl) in
      elim (bool_cases (is_inlined new.arrays (target_of op))) [
        | inl t ↦ let none : tasks_of new.arrays op ≡ 0 = rw t refl in omega (arith, is, none)
        | inr f ↦ let all : tasks_of new.arrays op ≡ regions_of new.arrays op = rw f refl in omega (arith, is, all, regions, whole)
      ]

  cells_fewer : (a : ℕ) → a < length p.arrays → made_chunks (array_at new.arrays a) ≤ made_chunks (array_at p.arrays a)
  cells_fewer a l =
      let was : made_chunks (array_at p.arrays a) ≡ cells_by (maker_at p.arrays a) (array_chunk_count (array_at p.arrays a)) =
      (let f = stored_at p.arrays a stored in rw f refl) in
      let chunks : array_chunk_count (array_at new.arrays a) ≡ array_chunk_count (array_at p.arrays a) =
      ap (λ (x : Layout). product (grid_counts x.grid)) (layout_is a) in
      let cells : cells_by (maker_at new.arrays a) (array_chunk_count (array_at new.arrays a)) ≡ cells_by (maker_at p.arrays a) (array_chunk_count (array_at p.arrays a)) =
      (λ i. cells_by (same_maker p chosen a i) (chunks i)) in
      elim (bool_cases (is_inlined new.arrays a)) [
        | inl t ↦ let none : made_chunks (array_at new.arrays a) ≡ 0 = rw t refl in omega (arith, none)
        | inr f ↦ let all : made_chunks (array_at new.arrays a) ≡ cells_by (maker_at new.arrays a) (array_chunk_count (array_at new.arrays a)) = rw f refl in omega (arith, was, cells, all)
      ]

  pub inlined_sound : HasMadeNames p → p.allowed < 2 ^ 64 → Sound new
  inlined_sound names allowed =
      let al = arrays_long p chosen in
      let ol = ops_long p chosen in
      let ac = s.array_count in
      let oc = s.operation_count in
      let within = s.out in
      let tasks = s.tasks in
      let cells = s.cells in
      let all_tasks = sum_less (λ (o : Planned). tasks_of new.arrays o.op) (λ (o : Planned). tasks_of p.arrays o.op) no_operation no_operation new.ops p.ops ol task_fewer in
      let all_cells = sum_less made_chunks made_chunks no_array no_array new.arrays p.arrays al cells_fewer in
      record {
        operations = λ k l. subst (IsOperation new.arrays k) (sym (same_op p chosen k)) (is_operation k (operation_within k l));
        projections = λ k l. projection_is p chosen s c k (operation_within k l);
        rooms = λ k l. new_fits p chosen s c k (operation_within k l) stored allowed;
        inlined = λ a l t. inlined_is a (array_within a l) (sym (new_flag p chosen a (stays p chosen c)) ∙ t);
        makers = λ a k l made.
            let was = s.makers a k (array_within a l) (sym (same_maker p chosen a) ∙ made) in
            ((let b = was.0 in omega (arith, ol, b)), subst (λ (op : Op). Contains (writes_of op) a) (sym (same_op p chosen k)) was.1);
        arrays = arrays_are p chosen s c names (λ a l. stored_at p.arrays a stored);
        keys = keys_are p chosen s c names (λ a l. stored_at p.arrays a stored);
        out = omega (arith, al, within);
        array_count = omega (arith, al, ac);
        operation_count = omega (arith, ol, oc);
        input_chunks = λ a l none. subst (λ (x : Layout). product (grid_counts x.grid) ≤ 65536) (sym (layout_is a))
            (s.input_chunks a (array_within a l) (sym (same_maker p chosen a) ∙ none));
        tasks = omega (arith, tasks, all_tasks);
        cells = omega (arith, cells, all_cells);
      }
