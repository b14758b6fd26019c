-- The plan that is left has no more operations, tasks and chunks; and its result is there.
use Rattle.std.proofs.Common.{◌≡◌, inl, inr, ℕ, zero, suc, ◌+◌, ◌<◌, ◌≤◌, ◌^◌, Bool, true, List, [], ◌∷◌, ◌++◌, Contains, length, map, Option, Some, None, refl, ap, sym, ◌∙◌, subst, arith, ⊎_elim, if◌then◌else◌}
use Rattle.std.specs.Prelude.{sum_by}
use Rattle.std.proofs.lemmas.Bool.{cases_Bool}
use Rattle.std.proofs.lemmas.List.Sums.{sum_by-append, sum_by-cons}
use Rattle.cu_shape.specs.Index.{product}
use Rattle.cu_grid.specs.Grid.{RegularGrid}
use Rattle.cu_op.specs.declared.layout.ArrayInfo.{ArrayInfo}
use Rattle.cu_op.specs.declared.operation.Op.{Op}
use Rattle.cu_op.specs.declared.operation.Planned.{Planned}
use Rattle.cu_op.specs.Arrays.{array_at, is_inlined, maker_at, grid_counts, array_chunk_count, AllStored}
use Rattle.cu_op.specs.Cells.{regions_of, tasks_of}
use Rattle.cu_op.specs.Kind.Map.{map_of}
use Rattle.cu_op.specs.Operation.{writes_of, renumbered}
use Rattle.cu_op.specs.PlanView.{PlanView}
use Rattle.cu_op.specs.Sound.{Sound, cells_by, made_chunks}
use Rattle.cu_op.proofs.AllStored.{all_tasks}
use Rattle.cu_fuse.specs.Close.{remains, remaining_from, remaining_numbers, remaining_array, remaining_arrays, count_behind, renumbered_planned, new_number, closed, setting_by, setting_of}
use Rattle.cu_fuse.specs.Fused.{SettingView, fused_ops, loaded_ops, map_inputs, joint, with_one_load}
use Rattle.cu_fuse.specs.Merge.{merged_op}
use Rattle.cu_fuse.specs.Runs.{HasWriter}
use Rattle.cu_fuse.proofs.Closing.{renumbered_tasks}
use Rattle.cu_fuse.proofs.ClosedValue.{AreLeft, left_written}
use Rattle.cu_fuse.proofs.FromSound.{written_at}
use Rattle.cu_fuse.proofs.Fusing.{Step, all_keep}
use Rattle.cu_fuse.proofs.LeftArrays.{kept_layout, placed_once, numbers_in, left_stored}
use Rattle.cu_fuse.proofs.Loaded.{loaded_has, written_once}
use Rattle.cu_fuse.proofs.Running.{written_left, written_right, written_parts}
use Rattle.cu_fuse.proofs.Same.{one_load_does}

-- the sum over what is left of a step
module _ (s : SettingView) (f : Planned → ℕ) (a : ℕ) (old new : List Planned) (t : Step s a old new) (same : f (joint s t.maker t.reader a) ≡ f t.reader) where
  fewer : sum_by f new ≤ sum_by f old
  fewer =
      let ends = sum_by-append f t.front (t.maker ∷ (t.between ++ (t.reader ∷ t.behind))) in
      let maker = sum_by-cons f t.maker (t.between ++ (t.reader ∷ t.behind)) in
      let middle = sum_by-append f t.between (t.reader ∷ t.behind) in
      let reader = sum_by-cons f t.reader t.behind in
      let first = sum_by-append f t.front (t.between ++ (joint s t.maker t.reader a ∷ t.behind)) in
      let second = sum_by-append f t.between (joint s t.maker t.reader a ∷ t.behind) in
      let third = sum_by-cons f (joint s t.maker t.reader a) t.behind in
      let before = ap (sum_by f) t.before in
      let after = ap (sum_by f) t.after in
      omega (arith, ends, maker, middle, reader, first, second, third, before, after, same)

-- the joint operation goes over the reader's tasks, and writes what the reader writes
joint_out : (s : SettingView) (a : ℕ) (old new : List Planned) (t : Step s a old new) → (writes_of (joint s t.maker t.reader a).op ≡ writes_of t.reader.op) × (tasks_of s.arrays (joint s t.maker t.reader a).op ≡ tasks_of s.arrays t.reader.op)
joint_out s a old new t =
    let same = t.merged.same in
    let both : merged_op t.maker.op t.reader.op t.j ≡ merged_op (map_of t.joins.inner t.joins.inner_ins a) (map_of t.joins.outer t.joins.outer_ins t.joins.out) t.j = (λ k. merged_op (t.joins.makes k) (t.joins.takes k) t.j) in (
      same.writes ∙ ap writes_of both ∙ sym (ap writes_of t.joins.takes),
      same.tasks ∙ ap (tasks_of s.arrays) both ∙ sym (ap (tasks_of s.arrays) t.joins.takes),
    )

-- ---- what one load of each array keeps

tasks_once : (s : SettingView) (ops : List Planned) → sum_by (λ o. tasks_of s.arrays o.op) (map (with_one_load s) ops) ≡ sum_by (λ o. tasks_of s.arrays o.op) ops
tasks_once s [] = refl
tasks_once s (o ∷ os) =
    let own = (one_load_does s.arrays o.op).tasks in
    let more = tasks_once s os in
    let a = sum_by-cons (λ (x : Planned). tasks_of s.arrays x.op) (with_one_load s o) (map (with_one_load s) os) in
    let b = sum_by-cons (λ (x : Planned). tasks_of s.arrays x.op) o os in
    omega (arith, own, more, a, b)

count_once : (s : SettingView) (ops : List Planned) → sum_by (λ o. 1) (map (with_one_load s) ops) ≡ sum_by (λ o. 1) ops
count_once s [] = refl
count_once s (o ∷ os) =
    let more = count_once s os in
    let a = sum_by-cons (λ (x : Planned). 1) (with_one_load s o) (map (with_one_load s) os) in
    let b = sum_by-cons (λ (x : Planned). 1) o os in
    omega (arith, more, a, b)

-- ---- what a merge keeps

module _ (s : SettingView) (room : s.allowed < 2 ^ 64) where
  pub tasks_kept : (ops : List Planned) (n : ℕ) → sum_by (λ o. tasks_of s.arrays o.op) ops ≤ n → sum_by (λ o. tasks_of s.arrays o.op) (fused_ops s ops) ≤ n
  tasks_kept ops n h =
      all_keep s (λ l. sum_by (λ o. tasks_of s.arrays o.op) l ≤ n) room
      (λ a old new t few.
      let l = fewer s (λ (o : Planned). tasks_of s.arrays o.op) a old new t (joint_out s a old new t).1 in omega (arith, l, few))
      (map_inputs (loaded_ops s ops)) (loaded_ops s ops)
      (loaded_has s (λ l. sum_by (λ o. tasks_of s.arrays o.op) l ≤ n) ops h (let e = tasks_once s ops in omega (arith, e, h)))

  pub count_kept : (ops : List Planned) (n : ℕ) → sum_by (λ o. 1) ops ≤ n → sum_by (λ o. 1) (fused_ops s ops) ≤ n
  count_kept ops n h =
      all_keep s (λ l. sum_by (λ o. 1) l ≤ n) room (λ a old new t few. let l = fewer s (λ (o : Planned). 1) a old new t refl in omega (arith, l, few))
      (map_inputs (loaded_ops s ops)) (loaded_ops s ops) (loaded_has s (λ l. sum_by (λ o. 1) l ≤ n) ops h (let e = count_once s ops in omega (arith, e, h)))

  pub written_kept : (ops : List Planned) → HasWriter ops s.out → HasWriter (fused_ops s ops) s.out
  written_kept ops h =
      all_keep s (λ l. HasWriter l s.out) room
      (λ a old new t w.
      subst (λ (l : List Planned). HasWriter l s.out) (sym t.after) (on a old new t (subst (λ (l : List Planned). HasWriter l s.out) t.before w)))
      (map_inputs (loaded_ops s ops)) (loaded_ops s ops) (loaded_has s (λ l. HasWriter l s.out) ops h (written_once s ops s.out h))
    where
      reader_part : (a : ℕ) (old new : List Planned) (t : Step s a old new) → HasWriter (t.reader ∷ t.behind) s.out → HasWriter (joint s t.maker t.reader a ∷ t.behind) s.out
      reader_part a old new t (inl h) = inl (subst (λ (l : List ℕ). Contains l s.out) (sym (joint_out s a old new t).0) h)
      reader_part a old new t (inr h) = inr h

      not_maker : (a : ℕ) (old new : List Planned) (t : Step s a old new) → HasWriter (t.maker ∷ (t.between ++ (t.reader ∷ t.behind))) s.out → HasWriter (t.between ++ (t.reader ∷ t.behind)) s.out
      not_maker a old new t (inl h) = absurd (t.kept (only a (subst (λ (o : Op). Contains (writes_of o) s.out) t.joins.makes h)))
        where
          only : (x : ℕ) → Contains (x ∷ []) s.out → x ≡ s.out
          only x (zero, l, e) = e
          only x (suc k, l, e) = absurd (omega arith)
      not_maker a old new t (inr h) = h

      on : (a : ℕ) (old new : List Planned) (t : Step s a old new) → HasWriter (t.front ++ (t.maker ∷ (t.between ++ (t.reader ∷ t.behind)))) s.out → HasWriter (t.front ++ (t.between ++ (joint s t.maker t.reader a ∷ t.behind))) s.out
      on a old new t w = ⊎_elim
          (λ early. written_left t.front (t.between ++ (joint s t.maker t.reader a ∷ t.behind)) s.out early)
          (λ rest. written_right t.front (t.between ++ (joint s t.maker t.reader a ∷ t.behind)) s.out
          (⊎_elim
          (λ middle. written_left t.between (joint s t.maker t.reader a ∷ t.behind) s.out middle)
          (λ last. written_right t.between (joint s t.maker t.reader a ∷ t.behind) s.out (reader_part a old new t last))
          (written_parts t.between (t.reader ∷ t.behind) s.out (not_maker a old new t rest))))
          (written_parts t.front (t.maker ∷ (t.between ++ (t.reader ∷ t.behind))) s.out w)

pub length_is : (ops : List Planned) → sum_by (λ o. 1) ops ≡ length ops
length_is [] = refl
length_is (o ∷ os) = let l = length_is os in let c = sum_by-cons (λ (o : Planned). 1) o os in omega (arith, l, c)

-- ---- the sums of the plan that is left

module _ (p : PlanView) (ops : List Planned) where
  abbrev N : List ℕ
  N = remaining_numbers p.arrays ops

  pub tasks_closed : AllStored p.arrays → (os : List Planned) → AreLeft N os → sum_by (λ o. tasks_of (closed (setting_of p) ops).arrays o.op) (map (renumbered_planned (new_number (setting_of p) ops)) os) ≡ sum_by (λ o. tasks_of p.arrays o.op) os
  tasks_closed all [] left = refl
  tasks_closed all (o ∷ os) ((reads, writes), rest) =
      let f = new_number (setting_of p) ops in
      let same : regions_of (closed (setting_of p) ops).arrays (renumbered f o.op) ≡ regions_of p.arrays o.op =
      ap (λ (g : RegularGrid). product (grid_counts g)) (renumbered_tasks f p.arrays (closed (setting_of p) ops).arrays (Contains N) (kept_layout p ops) (placed_once p ops) o.op reads writes) in
      let own : tasks_of (closed (setting_of p) ops).arrays (renumbered f o.op) ≡ tasks_of p.arrays o.op =
      all_tasks (closed (setting_of p) ops).arrays (renumbered f o.op) (left_stored p ops all) ∙ same ∙ sym (all_tasks p.arrays o.op all) in
      let more = tasks_closed all os rest in
      let a = sum_by-cons (λ (x : Planned). tasks_of (closed (setting_of p) ops).arrays x.op) (renumbered_planned f o) (map (renumbered_planned f) os) in
      let b = sum_by-cons (λ (x : Planned). tasks_of p.arrays x.op) o os in
      omega (arith, own, more, a, b)

  -- a made array that is left has the chunks that it had
  cells_same : (k a : ℕ) (m : Option ℕ) → maker_at p.arrays a ≡ m → made_chunks (remaining_array (setting_of p) ops k a m) ≡ made_chunks (array_at p.arrays a)
  cells_same k a None e = refl
  cells_same k a (Some m) e =
      sym (ap (λ (x : Option ℕ). if is_inlined p.arrays a then 0 else cells_by x (array_chunk_count (array_at p.arrays a))) e)

  pub cells_fewer : (k n : ℕ) (rest : List ArrayInfo) → ((i : ℕ) → i < length rest → array_at p.arrays (n + i) ≡ array_at rest i) → sum_by made_chunks (remaining_arrays (setting_of p) ops k (remaining_from ops n rest)) ≤ sum_by made_chunks rest
  cells_fewer k n [] same = omega arith
  cells_fewer k n (a ∷ rest) same = elim (cases_Bool (remains ops n a.maker)) [
    | inl stays ↦ subst (λ (l : List ℕ). sum_by made_chunks (remaining_arrays (setting_of p) ops k l) ≤ sum_by made_chunks (a ∷ rest)) (sym (λ i. if stays i then (n ∷ remaining_from ops (n + 1) rest) else remaining_from ops (n + 1) rest))
        (let next = cells_fewer (count_behind (setting_of p) k n (maker_at p.arrays n)) (n + 1) rest later in
        let x = sum_by-cons made_chunks (remaining_array (setting_of p) ops k n (maker_at p.arrays n)) (remaining_arrays (setting_of p) ops (count_behind (setting_of p) k n (maker_at p.arrays n)) (remaining_from ops (n + 1) rest)) in
        let y = sum_by-cons made_chunks a rest in
        let own = cells_same k n (maker_at p.arrays n) refl ∙ ap made_chunks here in
        omega (arith, next, x, y, own))
    | inr gone ↦ subst (λ (l : List ℕ). sum_by made_chunks (remaining_arrays (setting_of p) ops k l) ≤ sum_by made_chunks (a ∷ rest)) (sym (λ i. if gone i then (n ∷ remaining_from ops (n + 1) rest) else remaining_from ops (n + 1) rest))
        (let next = cells_fewer k (n + 1) rest later in let y = sum_by-cons made_chunks a rest in omega (arith, next, y))
  ]
    where
      here : array_at p.arrays n ≡ a
      here = ap (array_at p.arrays) (let z : n ≡ n + 0 = omega arith in z) ∙ same 0 (omega arith)

      later : (i : ℕ) → i < length rest → array_at p.arrays (n + 1 + i) ≡ array_at rest i
      later i h = ap (array_at p.arrays) (let z : n + 1 + i ≡ n + suc i = omega arith in z) ∙ same (suc i) (omega arith)

-- the result is left: an input stays, and what an operation wrote is written still
pub out_stays : (once : Bool) (p : PlanView) → Sound p → p.allowed < 2 ^ 64 → Contains (remaining_numbers p.arrays (fused_ops (setting_by once p) p.ops)) p.out
out_stays once p sound room = numbers_in p ops p.out sound.out (go (maker_at p.arrays p.out) refl)
  where
    ops : List Planned
    ops = fused_ops (setting_by once p) p.ops

    go : (m : Option ℕ) → maker_at p.arrays p.out ≡ m → remains ops p.out (maker_at p.arrays p.out) ≡ true
    go None e = ap (remains ops p.out) e
    go (Some k) e =
        let (l, w) = sound.makers p.out k sound.out e in
        left_written ops p.out (maker_at p.arrays p.out) (written_kept (setting_by once p) room p.ops (written_at p.ops k p.out l w))
