-- A plan after its merges: what it needs, and what is to be known of the operations that are left.
use Rattle.std.proofs.Common.{ℕ, zero, suc, ◌<◌, ◌≤◌, ◌^◌, Bool, true, false, List, [], ◌∷◌, ◌++◌, length, map, None, refl, sym, subst, arith}
use Rattle.cu_op.specs.declared.operation.Planned.{Planned}
use Rattle.cu_op.specs.Arrays.{AllStored}
use Rattle.cu_op.specs.PlanView.{PlanView, operation_at}
use Rattle.cu_op.specs.Sound.{Sound}
use Rattle.cu_fuse.specs.Close.{fused, fused_by, fused_loading_once, setting_by}
use Rattle.cu_fuse.specs.Fused.{SettingView, fused_ops, loaded_ops, map_inputs, joint, with_one_load}
use Rattle.cu_fuse.proofs.ClosedCounts.{count_kept, length_is, out_stays, tasks_kept}
use Rattle.cu_fuse.proofs.ClosedPlans.{closed_fewer, closed_within, IsLeft}
use Rattle.cu_fuse.proofs.FromSound.{fused_sound, sound_runs}
use Rattle.cu_fuse.proofs.Fusing.{all_keep}
use Rattle.cu_fuse.proofs.Same.{one_load_does}
use Rattle.cu_fuse.specs.Runs.{CanRun}

-- ---- what is needed

abbrev pub Within : ℕ → List Planned → Type 0
Within n [] = Unit {0}
Within n (o ∷ os) = (o.projected ≤ n) × Within n os

pub within_parts : (n : ℕ) (xs ys : List Planned) → Within n (xs ++ ys) → Within n xs × Within n ys
within_parts n [] ys h = (tt, h)
within_parts n (x ∷ xs) ys (a, h) = let (l, r) = within_parts n xs ys h in ((a, l), r)

pub within_both : (n : ℕ) (xs ys : List Planned) → Within n xs → Within n ys → Within n (xs ++ ys)
within_both n [] ys h g = g
within_both n (x ∷ xs) ys (a, h) g = (a, within_both n xs ys h g)

pub within_from : (n : ℕ) (ops : List Planned) → ((k : ℕ) → k < length ops → (operation_at ops k).projected ≤ n) → Within n ops
within_from n [] h = tt
within_from n (o ∷ os) h = (h 0 (omega arith), within_from n os (λ k b. h (suc k) (omega arith)))

pub within_at : (n : ℕ) (ops : List Planned) (k : ℕ) → Within n ops → k < length ops → (operation_at ops k).projected ≤ n
within_at n [] k h b = absurd (omega arith)
within_at n (o ∷ os) zero h b = h.0
within_at n (o ∷ os) (suc k) h b = within_at n os k h.1 (omega arith)

-- with one load of each array an operation needs no more
within_once : (s : SettingView) (n : ℕ) (before ops : List Planned) → CanRun s.arrays s.reserved before ops → Within n ops → Within n (map (with_one_load s) ops)
within_once s n before [] run h = tt
within_once s n before (o ∷ os) (step, rest) (few, others) = (
  (let less = (one_load_does s.arrays o.op).needs s.reserved in let is = step.projected in omega (arith, less, is, few)),
  within_once s n (before ++ o ∷ []) os rest others,
)

loaded_within : (once : Bool) (p : PlanView) → p.allowed < 2 ^ 64 → Within p.allowed (loaded_ops (setting_by once p) p.ops)
    → (k : ℕ) → k < length (fused_by once p).ops → (operation_at (fused_by once p).ops k).projected ≤ p.allowed
loaded_within once p room few k h =
    let s : SettingView = setting_by once p in
    let ops : List Planned = fused_ops s p.ops in
    let all : Within p.allowed ops = all_keep s (Within s.allowed) room
    (λ a old new t w.
    let (front, (maker, rest)) = within_parts s.allowed t.front (t.maker ∷ (t.between ++ (t.reader ∷ t.behind))) (subst (Within s.allowed) t.before w) in
    let (middle, (reader, last)) = within_parts s.allowed t.between (t.reader ∷ t.behind) rest in
    subst (Within s.allowed) (sym t.after) (within_both s.allowed t.front (t.between ++ (joint s t.maker t.reader a ∷ t.behind)) front (within_both s.allowed t.between (joint s t.maker t.reader a ∷ t.behind) middle (t.allowed, last))))
    (map_inputs (loaded_ops s p.ops)) (loaded_ops s p.ops) few in
    closed_within p ops p.allowed (λ j b. within_at p.allowed ops j all b) k h

pub fused_within : (p : PlanView) → p.allowed < 2 ^ 64 → ((k : ℕ) → k < length p.ops → (operation_at p.ops k).projected ≤ p.allowed)
    → (k : ℕ) → k < length (fused p).ops → (operation_at (fused p).ops k).projected ≤ p.allowed
fused_within p room few k h = loaded_within false p room (within_from p.allowed p.ops few) k h

pub fused_once_within : (p : PlanView) → Sound p → AllStored p.arrays → p.allowed < 2 ^ 64 → ((k : ℕ) → k < length p.ops → (operation_at p.ops k).projected ≤ p.allowed)
    → (k : ℕ) → k < length (fused_loading_once p).ops → (operation_at (fused_loading_once p).ops k).projected ≤ p.allowed
fused_once_within p sound all room few k h =
    loaded_within true p room (within_once (setting_by true p) p.allowed [] p.ops (sound_runs p sound all [] p.ops refl) (within_from p.allowed p.ops few)) k h

-- no more operations than there were
few_left : (once : Bool) (p : PlanView) → p.allowed < 2 ^ 64 → length (fused_ops (setting_by once p) p.ops) ≤ length p.ops
few_left once p room =
    let s : SettingView = setting_by once p in
    let old = length_is p.ops in
    let new = length_is (fused_ops s p.ops) in
    let few = count_kept s room p.ops (length p.ops) (omega (arith, old)) in
    omega (arith, old, new, few)

pub fused_fewer : (once : Bool) (p : PlanView) → p.allowed < 2 ^ 64 → length (fused_by once p).ops ≤ length p.ops
fused_fewer once p room = closed_fewer p (fused_ops (setting_by once p) p.ops) (few_left once p room)

-- ---- what is to be known of the operations that are left

pub fused_left : (once : Bool) (p : PlanView) → Sound p → AllStored p.arrays → p.allowed < 2 ^ 64 → IsLeft p (fused_ops (setting_by once p) p.ops)
fused_left once p sound all room = record {
  run = (fused_sound once p (λ a idx. None) sound all room).0;
  made = λ env. (fused_sound once p env sound all room).1;
  tasks = tasks_kept (setting_by once p) room p.ops 65536 sound.tasks;
  few = few_left once p room;
  out = out_stays once p sound room;
}
