use mathlib.Core.Path.{transport}
use Rattle.std.proofs.Common.{◌≡◌, [], false, IfOk, refl, sym, subst, ◌∙◌}
use Rattle.cu_op.specs.PlanView.{PlanView}
use Rattle.cu_op.specs.Sound.{Sound}
use Rattle.cu_fuse.specs.Close.{closed, setting_of}
use Rattle.cu_fuse.specs.Fused.{SettingView}
use Rattle.cu_fuse.specs.Copies.{copies_joined, joined_copies}
use Rattle.cu_fuse.specs.Runs.{CanRun}
use Rattle.cu_fuse.proofs.FromSound.{sound_runs}
use Rattle.cu_fuse.proofs.copies.joined_plan.Goals as goal

pub join_all-requires-clause-run : goal.join_all-requires-clause-run
join_all-requires-clause-run c =
    let p = c.args.plan in
    let arrays = sym c.parts-arrays.ensures.arrays in
    let reserved = sym c.reserved-reserved.ensures in
    let ops = sym c.parts-arrays.ensures.ops in
    transport (λ i. CanRun (arrays i) (reserved i) [] (ops i)) (sound_runs p c.out-out.ensures.sound c.requires.stored [] p.ops refl)

pub close-requires-clause-sound : goal.close-requires-clause-sound
close-requires-clause-sound c =
    let p = c.args.plan in
    let view : SettingView = record {
      arrays = c.parts-arrays.result.0.items;
      out = c.out-out.result;
      allowed = c.allowed-allowed.result;
      reserved = c.reserved-reserved.result;
      once = false;
    } in
    let setting : view ≡ setting_of p = λ i. record {
      arrays = c.parts-arrays.ensures.arrays i;
      out = c.out-out.ensures.out i;
      allowed = c.allowed-allowed.ensures i;
      reserved = c.reserved-reserved.ensures i;
      once = false;
    } in
    let ops : c.join_all.new.ops.items ≡ joined_copies (setting_of p) p.ops =
    c.in_ok-join_all.ensures {u = tt} ∙ (λ i. joined_copies (setting i) (c.parts-arrays.ensures.ops i)) in
    let same : closed view c.join_all.new.ops.items ≡ copies_joined p =
    (λ i. closed (setting i) (ops i)) in
    subst Sound (sym same) c.requires.sound

pub returns : goal.returns
returns c =
    let p = c.args.plan in
    let view : SettingView = record {
      arrays = c.parts-arrays.result.0.items;
      out = c.out-out.result;
      allowed = c.allowed-allowed.result;
      reserved = c.reserved-reserved.result;
      once = false;
    } in
    let setting : view ≡ setting_of p = λ i. record {
      arrays = c.parts-arrays.ensures.arrays i;
      out = c.out-out.ensures.out i;
      allowed = c.allowed-allowed.ensures i;
      reserved = c.reserved-reserved.ensures i;
      once = false;
    } in
    let ops : c.join_all.new.ops.items ≡ joined_copies (setting_of p) p.ops =
    c.in_ok-join_all.ensures {u = tt} ∙ (λ i. joined_copies (setting i) (c.parts-arrays.ensures.ops i)) in
    let same : closed view c.join_all.new.ops.items ≡ copies_joined p =
    (λ i. closed (setting i) (ops i)) in
    subst (λ (q : PlanView). IfOk c.close.result (λ plan. plan ≡ q)) same c.close.ensures
