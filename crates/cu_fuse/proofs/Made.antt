-- The plan that is made once all inlined arrays are chosen.
use Rattle.cu_fuse.proofs.Choices.{few_arrays, is_stored}
use Rattle.cu_fuse.proofs.Finished.{inlined_is, renamed, with_needs}
use Rattle.cu_fuse.proofs.Flagged.{long, prefix_kept}
use Rattle.cu_fuse.proofs.InlinedLaw.{sound_is}
use Rattle.cu_fuse.specs.Choosing.{all_stored, IsChosenTo}
use Rattle.cu_fuse.specs.Close.{HasMadeNames}
use Rattle.cu_fuse.specs.Inlining.{IsInlinedOf}
use Rattle.cu_name.specs.Name.{IsArrayName}
use Rattle.cu_op.specs.Arrays.{array_at, AllStored}
use Rattle.cu_op.specs.PlanView.{PlanView}
use Rattle.cu_op.specs.Sound.{Sound}
use Rattle.std.proofs.Common.{◌≡◌, ◌^◌, ◌<◌, false, length, ap, sym, ◌∙◌, subst, arith}

module _ (p c : PlanView) (h : IsChosenTo c (length c.ops) 0) (same : all_stored c ≡ p) where
  pub arrays_few : length (with_needs c).arrays < 2 ^ 32
  arrays_few = few_arrays c (length c.ops) 0 h

  pub out_within : (with_needs c).out < length (with_needs c).arrays
  out_within = let o = h.sound.out in let l = long c (λ b. false) in omega (arith, o, l)

  pub out_named : IsArrayName (array_at p.arrays p.out).prefix → IsArrayName (array_at (with_needs c).arrays (with_needs c).out).prefix
  out_named n =
      subst IsArrayName (prefix_kept c (λ b. false) c.out) (subst (λ (q : PlanView). IsArrayName (array_at q.arrays q.out).prefix) (sym same) n)

  pub made_is : IsInlinedOf p (renamed (with_needs c))
  made_is = subst (λ (q : PlanView). IsInlinedOf q (renamed (with_needs c))) same (inlined_is c h)

  pub made_sound : HasMadeNames p → AllStored p.arrays → Sound (renamed (with_needs c))
  made_sound names stored =
      sound_is p (renamed (with_needs c)) made_is (subst Sound same h.sound) names stored
      (subst (λ (q : PlanView). q.allowed < 2 ^ 64) same h.allowed)

pub stored_start : (p start c : PlanView) → AllStored p.arrays → start ≡ p → all_stored c ≡ all_stored start → all_stored c ≡ p
stored_start p start c stored is same = same ∙ ap all_stored is ∙ is_stored p stored
