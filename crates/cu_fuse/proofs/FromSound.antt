-- The operations of a sound plan can run, and its values are what each makes of them.
use Rattle.std.proofs.Common.{◌≡◌, ◌⊎◌, inl, inr, ℕ, zero, suc, ◌<◌, ◌^◌, Bool, List, [], ◌∷◌, ◌++◌, Contains, length, Option, Some, None, get_or, refl, ap, sym, ◌∙◌, subst, arith, append_assoc, length-append}
use Rattle.std.proofs.Math.Seq.{get_or-append_seam}
use Rattle.std.proofs.lemmas.List.{get_or_append_left}
use Rattle.std.proofs.lemmas.List.Elements.{All-contains}
use Rattle.cu_op.specs.declared.operation.Planned.{Planned}
use Rattle.cu_op.specs.Arrays.{maker_at, AllStored}
use Rattle.cu_op.specs.Operation.{reads_of, writes_of, IsBefore, IsMadeBy}
use Rattle.cu_op.specs.PlanView.{PlanView, operation_at, no_operation}
use Rattle.cu_op.specs.Projection.{own_projection}
use Rattle.cu_op.specs.Sound.{Sound, IsOperation}
use Rattle.cu_op.specs.Elements.{Elements}
use Rattle.cu_op.specs.Value.{rule, plan_value}
use Rattle.cu_op.proofs.AllStored.{all_projection}
use Rattle.cu_op.proofs.Values.{one_maker, value_solves}
use Rattle.cu_fuse.specs.Close.{setting_by}
use Rattle.cu_fuse.specs.Fused.{fused_ops}
use Rattle.cu_fuse.specs.Runs.{HasWriter, CanFollow, CanRun, AreMade}
use Rattle.cu_fuse.proofs.Fusing.{fused_runs}

pub written_at : (xs : List Planned) (n a : ℕ) → n < length xs → Contains (writes_of (operation_at xs n).op) a → HasWriter xs a
written_at [] n a l h = absurd (omega arith)
written_at (x ∷ xs) zero a l h = inl h
written_at (x ∷ xs) (suc n) a l h = inr (written_at xs n a (omega arith) h)

written_by : (xs : List Planned) (a : ℕ) → HasWriter xs a → (n : ℕ) × (n < length xs) × Contains (writes_of (operation_at xs n).op) a
written_by [] a h = absurd h
written_by (x ∷ xs) a (inl h) = (0, omega arith, h)
written_by (x ∷ xs) a (inr h) = let (n, l, w) = written_by xs a h in (suc n, omega arith, w)

module _ (p : PlanView) (sound : Sound p) (all : AllStored p.arrays) where
  -- an operation behind others has their count as its number
  its_number : (before os : List Planned) (o : Planned) → p.ops ≡ before ++ o ∷ os → operation_at p.ops (length before) ≡ o
  its_number before os o e = ap (λ ops. operation_at ops (length before)) e ∙ get_or-append_seam before o os no_operation

  earlier : (before os : List Planned) (n : ℕ) → p.ops ≡ before ++ os → n < length before → operation_at p.ops n ≡ operation_at before n
  earlier before os n e l = ap (λ ops. operation_at ops n) e ∙ get_or_append_left before os no_operation n l

  counted : (before os : List Planned) (o : Planned) → p.ops ≡ before ++ o ∷ os → length before < length p.ops
  counted before os o e = let n = ap length e ∙ length-append before (o ∷ os) in omega (arith, n)

  its_facts : (before os : List Planned) (o : Planned) → p.ops ≡ before ++ o ∷ os → IsOperation p.arrays (length before) o.op
  its_facts before os o e = subst (λ (x : Planned). IsOperation p.arrays (length before) x.op) (its_number before os o e) (sound.operations (length before) (counted before os o e))

  -- it needs what it needs alone
  its_room : (before os : List Planned) (o : Planned) → p.ops ≡ before ++ o ∷ os → (o.projected ≡ own_projection p.arrays p.reserved o.op) × (o.projected < 2 ^ 64)
  its_room before os o e =
      let k : ℕ = length before in
      let within = counted before os o e in
      subst (λ (x : Planned). (x.projected ≡ own_projection p.arrays p.reserved x.op) × (x.projected < 2 ^ 64)) (its_number before os o e)
      (sound.projections k within ∙ all_projection p k all, subst (λ (n : ℕ). n < 2 ^ 64) (sym (sound.projections k within)) (sound.rooms k within))

  hand : (before os : List Planned) (a : ℕ) (m : Option ℕ) → p.ops ≡ before ++ os → a < length p.arrays → maker_at p.arrays a ≡ m → IsBefore m (length before) → (maker_at p.arrays a ≡ None) ⊎ HasWriter before a
  hand before os a None e within is l = inl is
  hand before os a (Some n) e within is l =
      let w = (sound.makers a n within is).1 in
      inr (written_at before n a l (subst (λ (o : Planned). Contains (writes_of o.op) a) (earlier before os n e l) w))

  never : (before os : List Planned) (o : Planned) (a : ℕ) → p.ops ≡ before ++ o ∷ os → IsMadeBy p.arrays (length before) a → HasWriter before a → ⊥
  never before os o a e made w =
      let (n, l, writes) = written_by before a w in
      let c = counted before os o e in
      let there = subst (λ (q : Planned). Contains (writes_of q.op) a) (sym (earlier before (o ∷ os) n e l)) writes in
      let by = All-contains (IsMadeBy p.arrays n) (writes_of (operation_at p.ops n).op) a (sound.operations n (omega arith)).writes there in
      let same = one_maker p.arrays n (length before) a by made in
      omega (arith, same)

  step_at : (before os : List Planned) (o : Planned) → p.ops ≡ before ++ o ∷ os → CanFollow p.arrays p.reserved before o
  step_at before os o e =
      let f = its_facts before os o e in
      record {
        reads = λ k d b. let r = f.reads k d b in (r.0, hand before (o ∷ os) (get_or (reads_of o.op) k d) (maker_at p.arrays (get_or (reads_of o.op) k d)) e r.0 refl r.1);
        writes = λ k d b. let w = f.writes k d b in (w.0, (λ none. some_none (w.1) none), never before os o (get_or (writes_of o.op) k d) e w);
        fits = f.fits;
        projected = (its_room before os o e).0;
        room = (its_room before os o e).1;
      }
    where
      some_none : {x : Option ℕ} {k : ℕ} → x ≡ Some k → x ≡ None → ⊥
      some_none s n = cc

  pub sound_runs : (before os : List Planned) → p.ops ≡ before ++ os → CanRun p.arrays p.reserved before os
  sound_runs before [] e = tt
  sound_runs before (o ∷ os) e = (step_at before os o e, sound_runs (before ++ o ∷ []) os (e ∙ sym (append_assoc before (o ∷ []) os)))

  pub sound_made : (env : Elements) (before os : List Planned) → p.ops ≡ before ++ os → AreMade p.arrays (plan_value p env) os
  sound_made env before [] e = tt
  sound_made env before (o ∷ os) e = (
    (λ a idx w inside.
        let s = value_solves p env sound in
        let same = its_number before os o e in
        s.made (length before) a idx (counted before os o e) (subst (λ (q : Planned). Contains (writes_of q.op) a) (sym same) w) ∙ ap (λ (q : Planned). rule q.op p.arrays (plan_value p env) a idx) same),
    sound_made env (before ++ o ∷ []) os (e ∙ sym (append_assoc before (o ∷ []) os)),
  )

-- the merged list of a sound plan can run, and the plan's values are what it makes
pub fused_sound : (once : Bool) (p : PlanView) (env : Elements) → Sound p → AllStored p.arrays → p.allowed < 2 ^ 64
    → CanRun p.arrays p.reserved [] (fused_ops (setting_by once p) p.ops) × AreMade p.arrays (plan_value p env) (fused_ops (setting_by once p) p.ops)
fused_sound once p env sound all room =
    fused_runs (setting_by once p) p.ops (plan_value p env) room (sound_runs p sound all [] p.ops refl) (sound_made p sound all env [] p.ops refl)
