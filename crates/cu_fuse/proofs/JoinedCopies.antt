-- What is left where copies are joined: no more operations and tasks, and the result.
use Rattle.std.proofs.Common.{◌≡◌, ◌≢◌, inl, inr, ℕ, zero, suc, ◌+◌, ◌<◌, ◌≤◌, ◌^◌, ◌==◌, not, true, List, [], ◌∷◌, ◌++◌, Contains, length, Option, Some, None, refl, ap, sym, subst, arith, ⊎_elim}
use Rattle.std.specs.Prelude.{sum_by}
use Rattle.std.proofs.lemmas.Bool.{leb-true}
use Rattle.std.proofs.lemmas.Bool.Decides.{eqb_tells}
use Rattle.std.proofs.lemmas.List.Sums.{sum_by-append, sum_by-cons}
use Rattle.cu_op.specs.Arrays.{maker_at, AllStored}
use Rattle.cu_op.specs.Cells.{regions_of, tasks_of}
use Rattle.cu_op.specs.Elements.{Elements}
use Rattle.cu_op.specs.Operation.{writes_of}
use Rattle.cu_op.specs.PlanView.{PlanView, operation_at}
use Rattle.cu_op.specs.Sound.{Sound}
use Rattle.cu_op.specs.Value.{plan_value}
use Rattle.cu_op.specs.declared.operation.Op.{Op}
use Rattle.cu_op.specs.declared.operation.Planned.{Planned}
use Rattle.cu_op.proofs.AllStored.{all_tasks}
use Rattle.cu_fuse.specs.Close.{remaining_numbers, remains, setting_of}
use Rattle.cu_fuse.specs.Copies.{copy_sources, joined_copies, joint_copy, may_join}
use Rattle.cu_fuse.specs.Fused.{SettingView}
use Rattle.cu_fuse.specs.Runs.{AreMade, CanRun, HasWriter}
use Rattle.cu_fuse.proofs.ClosedCounts.{length_is}
use Rattle.cu_fuse.proofs.ClosedPlans.{IsLeft}
use Rattle.cu_fuse.proofs.ClosedValue.{left_written}
use Rattle.cu_fuse.proofs.FromSound.{sound_made, sound_runs, written_at}
use Rattle.cu_fuse.proofs.FusedPlans.{within_at, within_both, within_from, within_parts, Within}
use Rattle.cu_fuse.proofs.JointCopy.{copies_of, joined_runs, joining, joint_writes, told_of, TakenCopy}
use Rattle.cu_fuse.proofs.LeftArrays.{numbers_in}
use Rattle.cu_fuse.proofs.PutTogether.{taken_keep}
use Rattle.cu_fuse.proofs.Running.{written_left, written_parts, written_right}

-- the sum over what is left of a step
module _ (s : SettingView) (f : Planned → ℕ) (a : ℕ) (old new : List Planned) (t : TakenCopy s a old new) (few : f (joint_copy s t.maker t.reader) ≤ f t.maker + f t.reader) where
  fewer : sum_by f new ≤ sum_by f old
  fewer =
      let ends = sum_by-append f t.front (t.maker ∷ (t.between ++ (t.reader ∷ t.behind))) in
      let maker = sum_by-cons f t.maker (t.between ++ (t.reader ∷ t.behind)) in
      let middle = sum_by-append f t.between (t.reader ∷ t.behind) in
      let reader = sum_by-cons f t.reader t.behind in
      let first = sum_by-append f t.front (t.between ++ (joint_copy s t.maker t.reader ∷ t.behind)) in
      let second = sum_by-append f t.between (joint_copy s t.maker t.reader ∷ t.behind) in
      let third = sum_by-cons f (joint_copy s t.maker t.reader) t.behind in
      let before = ap (sum_by f) t.before in
      let after = ap (sum_by f) t.after in
      omega (arith, ends, maker, middle, reader, first, second, third, before, after, few)

-- ---- what joining keeps

module _ (s : SettingView) where
  pub tasks_joined : AllStored s.arrays → (ops : List Planned) (n : ℕ) → sum_by (λ o. tasks_of s.arrays o.op) ops ≤ n → sum_by (λ o. tasks_of s.arrays o.op) (joined_copies s ops) ≤ n
  tasks_joined all ops n h =
      taken_keep (may_join s) (joining s) (λ l. sum_by (λ o. tasks_of s.arrays o.op) l ≤ n)
      (λ a old new t few.
      let l = fewer s (λ (o : Planned). tasks_of s.arrays o.op) a old new t (own a old new t) in omega (arith, l, few))
      (copy_sources ops) ops h
    where
      own : (a : ℕ) (old new : List Planned) (t : TakenCopy s a old new) → tasks_of s.arrays (joint_copy s t.maker t.reader).op ≤ tasks_of s.arrays t.maker.op + tasks_of s.arrays t.reader.op
      own a old new t =
          let is = told_of s a old new t in
          let few = leb-true (regions_of s.arrays (joint_copy s t.maker t.reader).op) (regions_of s.arrays t.maker.op + regions_of s.arrays t.reader.op) is.tasks in
          let x = all_tasks s.arrays (joint_copy s t.maker t.reader).op all in
          let y = all_tasks s.arrays t.maker.op all in
          let z = all_tasks s.arrays t.reader.op all in
          omega (arith, few, x, y, z)

  pub count_joined : (ops : List Planned) (n : ℕ) → sum_by (λ o. 1) ops ≤ n → sum_by (λ o. 1) (joined_copies s ops) ≤ n
  count_joined ops n h =
      taken_keep (may_join s) (joining s) (λ l. sum_by (λ o. 1) l ≤ n)
      (λ a old new t few. let l = fewer s (λ (o : Planned). 1) a old new t (omega arith) in omega (arith, l, few))
      (copy_sources ops) ops h

  pub few_joined : (ops : List Planned) → length (joined_copies s ops) ≤ length ops
  few_joined ops =
      let old = length_is ops in
      let new = length_is (joined_copies s ops) in
      let few = count_joined ops (length ops) (omega (arith, old)) in
      omega (arith, old, new, few)

  pub within_joined : (ops : List Planned) → ((k : ℕ) → k < length ops → (operation_at ops k).projected ≤ s.allowed)
      → (k : ℕ) → k < length (joined_copies s ops) → (operation_at (joined_copies s ops) k).projected ≤ s.allowed
  within_joined ops few k h =
      within_at s.allowed (joined_copies s ops) k
      (taken_keep (may_join s) (joining s) (Within s.allowed)
      (λ a old new t w.
      let (front, (maker, rest)) = within_parts s.allowed t.front (t.maker ∷ (t.between ++ (t.reader ∷ t.behind))) (subst (Within s.allowed) t.before w) in
      let (middle, (reader, last)) = within_parts s.allowed t.between (t.reader ∷ t.behind) rest in
      let own = leb-true (joint_copy s t.maker t.reader).projected s.allowed (told_of s a old new t).allowed in
      subst (Within s.allowed) (sym t.after)
      (within_both s.allowed t.front (t.between ++ (joint_copy s t.maker t.reader ∷ t.behind)) front (within_both s.allowed t.between (joint_copy s t.maker t.reader ∷ t.behind) middle (own, last))))
      (copy_sources ops) ops (within_from s.allowed ops few)) h

  pub written_joined : (ops : List Planned) → HasWriter ops s.out → HasWriter (joined_copies s ops) s.out
  written_joined ops h =
      taken_keep (may_join s) (joining s) (λ l. HasWriter l s.out)
      (λ a old new t w.
      subst (λ (l : List Planned). HasWriter l s.out) (sym t.after) (on a old new t (subst (λ (l : List Planned). HasWriter l s.out) t.before w)))
      (copy_sources ops) ops h
    where
      reader_part : (a : ℕ) (old new : List Planned) (t : TakenCopy s a old new) → HasWriter (t.reader ∷ t.behind) s.out → HasWriter (joint_copy s t.maker t.reader ∷ t.behind) s.out
      reader_part a old new t (inl h) =
          inl (subst (λ (l : List ℕ). Contains l s.out) (sym (joint_writes s t.maker t.reader t.behind a (told_of s a old new t) (copies_of s a old new t))) h)
      reader_part a old new t (inr h) = inr h

      differs : (a : ℕ) → not (a == s.out) ≡ true → a ≢ s.out
      differs a h e = elim (eqb_tells a s.out) [ inl p ↦ let u : not true ≡ true = rw p.0 at h in cc | inr p ↦ p.1 e ]

      only : (x y : ℕ) → Contains (x ∷ []) y → x ≡ y
      only x y (zero, l, e) = e
      only x y (suc k, l, e) = absurd (omega arith)

      not_maker : (a : ℕ) (old new : List Planned) (t : TakenCopy s a old new) → HasWriter (t.maker ∷ (t.between ++ (t.reader ∷ t.behind))) s.out → HasWriter (t.between ++ (t.reader ∷ t.behind)) s.out
      not_maker a old new t (inl h) =
          absurd (differs a (told_of s a old new t).between (only a s.out (subst (λ (o : Op). Contains (writes_of o) s.out) (copies_of s a old new t).makes h)))
      not_maker a old new t (inr h) = h

      on : (a : ℕ) (old new : List Planned) (t : TakenCopy s a old new) → HasWriter (t.front ++ (t.maker ∷ (t.between ++ (t.reader ∷ t.behind)))) s.out
          → HasWriter (t.front ++ (t.between ++ (joint_copy s t.maker t.reader ∷ t.behind))) s.out
      on a old new t w = ⊎_elim
          (λ early. written_left t.front (t.between ++ (joint_copy s t.maker t.reader ∷ t.behind)) s.out early)
          (λ rest. written_right t.front (t.between ++ (joint_copy s t.maker t.reader ∷ t.behind)) s.out
          (⊎_elim
          (λ middle. written_left t.between (joint_copy s t.maker t.reader ∷ t.behind) s.out middle)
          (λ last. written_right t.between (joint_copy s t.maker t.reader ∷ t.behind) s.out (reader_part a old new t last))
          (written_parts t.between (t.reader ∷ t.behind) s.out (not_maker a old new t rest))))
          (written_parts t.front (t.maker ∷ (t.between ++ (t.reader ∷ t.behind))) s.out w)

-- ---- the plan

pub out_joined : (p : PlanView) → Sound p → Contains (remaining_numbers p.arrays (joined_copies (setting_of p) p.ops)) p.out
out_joined p sound = numbers_in p ops p.out sound.out (go (maker_at p.arrays p.out) refl)
  where
    ops : List Planned
    ops = joined_copies (setting_of p) p.ops

    go : (m : Option ℕ) → maker_at p.arrays p.out ≡ m → remains ops p.out (maker_at p.arrays p.out) ≡ true
    go None e = ap (remains ops p.out) e
    go (Some k) e =
        let (l, w) = sound.makers p.out k sound.out e in
        left_written ops p.out (maker_at p.arrays p.out) (written_joined (setting_of p) p.ops (written_at p.ops k p.out l w))

pub copies_left : (p : PlanView) → Sound p → AllStored p.arrays → p.allowed < 2 ^ 64 → IsLeft p (joined_copies (setting_of p) p.ops)
copies_left p sound all room = record {
  run = (both (λ a idx. None)).0;
  made = λ env. (both env).1;
  tasks = tasks_joined (setting_of p) all p.ops 65536 sound.tasks;
  few = few_joined (setting_of p) p.ops;
  out = out_joined p sound;
}
  where
    both : (env : Elements) → CanRun p.arrays p.reserved [] (joined_copies (setting_of p) p.ops) × AreMade p.arrays (plan_value p env) (joined_copies (setting_of p) p.ops)
    both env = joined_runs (setting_of p) sound.arrays room p.ops (plan_value p env) (sound_runs p sound all [] p.ops refl) (sound_made p sound all env [] p.ops refl)
