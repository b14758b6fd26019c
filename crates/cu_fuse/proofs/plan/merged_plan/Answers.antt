use mathlib.Core.Path.{transport}
use Rattle.std.proofs.Common.{◌≡◌, [], IfOk, refl, sym, subst, ◌∙◌}
use Rattle.cu_op.specs.PlanView.{PlanView}
use Rattle.cu_op.specs.Sound.{Sound}
use Rattle.cu_fuse.specs.Close.{closed, fused_by, setting_by}
use Rattle.cu_fuse.specs.Fused.{SettingView, fused_ops}
use Rattle.cu_fuse.specs.Runs.{CanRun}
use Rattle.cu_fuse.proofs.ClosedAlike.{closed_alike}
use Rattle.cu_fuse.proofs.FromSound.{sound_runs}
use Rattle.cu_fuse.proofs.plan.merged_plan.Goals as goal

pub merge_maps-requires-clause-run : goal.merge_maps-requires-clause-run
merge_maps-requires-clause-run c =
    let p = c.args.plan in
    let arrays = sym c.parts-arrays.ensures.arrays in
    let reserved = sym c.reserved-reserved.ensures in
    let ops = sym c.parts-arrays.ensures.ops in
    transport (λ i. CanRun (arrays i) (reserved i) [] (ops i)) (sound_runs p c.out-out.ensures.sound c.requires.stored [] p.ops refl)

pub close-requires-clause-sound : goal.close-requires-clause-sound
close-requires-clause-sound c =
    let p = c.args.plan in
    let once = c.args.once in
    let view : SettingView = record {
      arrays = c.parts-arrays.result.0.items;
      out = c.out-out.result;
      allowed = c.allowed-allowed.result;
      reserved = c.reserved-reserved.result;
      once = once;
    } in
    let setting : view ≡ setting_by once p = λ i. record {
      arrays = c.parts-arrays.ensures.arrays i;
      out = c.out-out.ensures.out i;
      allowed = c.allowed-allowed.ensures i;
      reserved = c.reserved-reserved.ensures i;
      once = once;
    } in
    let ops : c.merge_maps.new.ops.items ≡ fused_ops (setting_by once p) p.ops =
    c.in_ok-merge_maps.ensures {u = tt} ∙ (λ i. fused_ops (setting i) (c.parts-arrays.ensures.ops i)) in
    let same : closed view c.merge_maps.new.ops.items ≡ fused_by once p =
    (λ i. closed (setting i) (ops i)) ∙ closed_alike once p (fused_ops (setting_by once p) p.ops) in
    subst Sound (sym same) c.requires.sound

pub returns : goal.returns
returns c =
    let p = c.args.plan in
    let once = c.args.once in
    let view : SettingView = record {
      arrays = c.parts-arrays.result.0.items;
      out = c.out-out.result;
      allowed = c.allowed-allowed.result;
      reserved = c.reserved-reserved.result;
      once = once;
    } in
    let setting : view ≡ setting_by once p = λ i. record {
      arrays = c.parts-arrays.ensures.arrays i;
      out = c.out-out.ensures.out i;
      allowed = c.allowed-allowed.ensures i;
      reserved = c.reserved-reserved.ensures i;
      once = once;
    } in
    let ops : c.merge_maps.new.ops.items ≡ fused_ops (setting_by once p) p.ops =
    c.in_ok-merge_maps.ensures {u = tt} ∙ (λ i. fused_ops (setting i) (c.parts-arrays.ensures.ops i)) in
    let same : closed view c.merge_maps.new.ops.items ≡ fused_by once p =
    (λ i. closed (setting i) (ops i)) ∙ closed_alike once p (fused_ops (setting_by once p) p.ops) in
    subst (λ (q : PlanView). IfOk c.close.result (λ plan. plan ≡ q)) same c.close.ensures
