-- Elements that are the environment's at the inputs of a sound plan, and what each operation makes of them inside what it writes, are the
-- plan's values.
use Rattle.std.proofs.Common.{◌≡◌, ℕ, zero, suc, ◌<◌, ◌≤◌, List, [], ◌∷◌, Contains, length, Option, Some, None, refl, sym, ◌∙◌, subst, arith}
use Rattle.std.proofs.lemmas.List.Elements.{All-contains}
use Rattle.cu_shape.specs.Index.{IsInside}
use Rattle.cu_op.specs.declared.layout.ArrayInfo.{ArrayInfo}
use Rattle.cu_op.specs.declared.operation.Op.{Op}
use Rattle.cu_op.specs.declared.operation.Planned.{Planned}
use Rattle.cu_op.specs.Arrays.{grid_at, maker_at}
use Rattle.cu_op.specs.Cells.{task_grid}
use Rattle.cu_op.specs.Operation.{reads_of, writes_of, IsBefore, IsReadable}
use Rattle.cu_op.specs.PlanView.{PlanView, operation_at}
use Rattle.cu_op.specs.Nested.{IsNested}
use Rattle.cu_op.specs.Sound.{Sound}
use Rattle.cu_op.specs.Elements.{Elements}
use Rattle.cu_op.specs.Value.{plan_value}
use Rattle.cu_op.proofs.Operations.{Fit, nested_writes, reads_inside}
use Rattle.cu_op.proofs.Plans.{grid_ok}
use Rattle.cu_op.proofs.Values.{value_solves, rule_reads, reads_listed}
use Rattle.cu_fuse.specs.Runs.{IsMade, AreMade}

made_at : (arrays : List ArrayInfo) (at : Elements) (ops : List Planned) (k : ℕ) → AreMade arrays at ops → k < length ops → IsMade arrays at (operation_at ops k)
made_at arrays at [] k h l = absurd (omega arith)
made_at arrays at (o ∷ os) zero h l = h.0
made_at arrays at (o ∷ os) (suc k) h l = made_at arrays at os k h.1 (omega arith)

module _ (q : PlanView) (sound : Sound q) (env at : Elements)
    (given : (a : ℕ) (idx : List ℕ) → a < length q.arrays → maker_at q.arrays a ≡ None → IsInside (grid_at q.arrays a).shape idx → at a idx ≡ env a idx) (made : AreMade q.arrays at q.ops) where
  abbrev Same : ℕ → Type 0
  Same n = (a : ℕ) (idx : List ℕ) → a < length q.arrays → IsBefore (maker_at q.arrays a) n → IsInside (grid_at q.arrays a).shape idx → at a idx ≡ plan_value q env a idx

  input_same : (a : ℕ) (idx : List ℕ) → a < length q.arrays → maker_at q.arrays a ≡ None → IsInside (grid_at q.arrays a).shape idx → at a idx ≡ plan_value q env a idx
  input_same a idx within none inside = given a idx within none inside ∙ sym ((value_solves q env sound).inputs a idx none)

  fit_at : (k : ℕ) → k < length q.ops → Fit q.arrays k (operation_at q.ops k).op
  fit_at k l = let o = sound.operations k l in (o.reads, o.writes, o.fits)

  -- an array that operation k makes, where all before it are the same
  made_same : (k a : ℕ) (idx : List ℕ) → k < length q.ops → Contains (writes_of (operation_at q.ops k).op) a → Same k → IsInside (grid_at q.arrays a).shape idx → at a idx ≡ plan_value q env a idx
  made_same k a idx l w earlier inside =
      let op : Op = (operation_at q.ops k).op in
      let grids = λ (b : ℕ) (h : b < length q.arrays). grid_ok q b sound h in
      let nested = All-contains (λ b. IsNested (grid_at q.arrays b) (task_grid q.arrays op)) (writes_of op) a (nested_writes q.arrays grids k op (fit_at k l)) w in
      let task_inside : IsInside (task_grid q.arrays op).shape idx = subst (λ (s : List ℕ). IsInside s idx) (sym nested.shape) inside in
      made_at q.arrays at q.ops k made l a idx w inside
      ∙ rule_reads op q.arrays at (plan_value q env) a idx
      (λ r i reads.
      let readable = All-contains (IsReadable q.arrays k) (reads_of op) r (sound.operations k l).reads (reads_listed op q.arrays idx r i reads) in
      earlier r i readable.0 readable.1 (reads_inside q.arrays grids k op r idx i (fit_at k l) task_inside reads))
      ∙ sym ((value_solves q env sound).made k a idx l w)

  same_before : (n : ℕ) → Same n
  same_before zero a idx within before inside = go (maker_at q.arrays a) refl before
    where
      go : (m : Option ℕ) → maker_at q.arrays a ≡ m → IsBefore m 0 → at a idx ≡ plan_value q env a idx
      go None e b = input_same a idx within e inside
      go (Some k) e b = absurd (omega arith)
  same_before (suc n) a idx within before inside = go (same_before n) (maker_at q.arrays a) refl before
    where
      go : Same n → (m : Option ℕ) → maker_at q.arrays a ≡ m → IsBefore m (suc n) → at a idx ≡ plan_value q env a idx
      go earlier None e b = input_same a idx within e inside
      go earlier (Some k) e b =
          let (l, w) = sound.makers a k within e in
          made_same k a idx l w (λ r i h bef ins. earlier r i h (weaker (maker_at q.arrays r) k n bef (omega arith)) ins) inside
        where
          weaker : (m : Option ℕ) (k n : ℕ) → IsBefore m k → k ≤ n → IsBefore m n
          weaker None k n h l = tt
          weaker (Some j) k n h l = omega arith

  pub unique : (a : ℕ) (idx : List ℕ) → a < length q.arrays → IsInside (grid_at q.arrays a).shape idx → at a idx ≡ plan_value q env a idx
  unique a idx within inside = go (maker_at q.arrays a) refl
    where
      go : (m : Option ℕ) → maker_at q.arrays a ≡ m → at a idx ≡ plan_value q env a idx
      go None e = input_same a idx within e inside
      go (Some k) e = same_before (suc k) a idx within (subst (λ (m : Option ℕ). IsBefore m (suc k)) (sym e) (let l : k < suc k = omega arith in l)) inside
