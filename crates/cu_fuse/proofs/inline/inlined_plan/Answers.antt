use Rattle.std.proofs.Common.{◌≡◌, ◌<◌, ◌^◌, ℕ, All, length, map, refl, ap, sym, ◌∙◌, subst, arith}
use Rattle.std.specs.List.{range_with_len}
use Rattle.cu_fuse.proofs.Choices.{begun}
use Rattle.cu_fuse.proofs.Finished.{needs_fit, renamed, with_needs}
use Rattle.cu_fuse.proofs.Made.{arrays_few, made_is, made_sound, out_named, out_within, stored_start}
use Rattle.cu_fuse.specs.Choosing.{all_stored, plan_view, IsChosenTo}
use Rattle.cu_fuse.specs.Inlining.{IsInlinedOf}
use Rattle.cu_fuse.specs.Rooms.{room_within, IsModest}
use Rattle.cu_name.specs.Name.{IsArrayName}
use Rattle.cu_op.specs.Arrays.{array_at}
use Rattle.cu_op.specs.PlanView.{PlanView}
use Rattle.cu_op.specs.Sound.{Sound}
use Rattle.cu_fuse.proofs.inline.inlined_plan.Goals as goal

pub choose_all-requires : goal.choose_all-requires
choose_all-requires c =
    let p = c.args.plan in
    let is : plan_view (record {
      arrays = c.parts-arrays.result.0;
      ops = c.parts-arrays.result.1;
      out = c.out-out.result;
      allowed = c.allowed-allowed.result;
      reserved = c.reserved-reserved.result;
    }) ≡ p = λ i. record {
      arrays = c.parts-arrays.ensures.arrays i;
      ops = c.parts-arrays.ensures.ops i;
      out = c.out-out.ensures.out i;
      allowed = c.allowed-allowed.ensures i;
      reserved = c.reserved-reserved.ensures i;
    } in
    let allowed = c.allowed-allowed.ensures in
    subst (λ (q : PlanView). IsChosenTo q 0 0) (sym is) (begun p c.out-out.ensures.sound c.requires.stored (omega (arith, allowed)))

pub set_needs-requires-clause-rooms : goal.set_needs-requires-clause-rooms
set_needs-requires-clause-rooms c =
    let e = c.in_ok-rooms.ensures {u = tt} in
    let q = plan_view c.choose_all.new.self in
    let long = ap (λ (r : PlanView). length r.ops) e.plan in
    c.deref.ensures.value ∙ e.rooms ∙ ap (λ (n : ℕ). map (room_within q) (range_with_len 0 n)) (sym long)

pub set_needs-requires-clause-modest : goal.set_needs-requires-clause-modest
set_needs-requires-clause-modest c =
    let e = c.in_ok-rooms.ensures {u = tt} in
    subst (All IsModest) (sym c.deref.ensures.value) e.modest

pub set_needs-requires-clause-small : goal.set_needs-requires-clause-small
set_needs-requires-clause-small c =
    let e = c.in_ok-rooms.ensures {u = tt} in
    let q = plan_view c.choose_all.new.self in
    let long = ap (λ (r : PlanView). length r.ops) e.plan in
    λ k l. needs_fit q (subst (λ (n : ℕ). IsChosenTo q n 0) (sym long) e.chosen) k l

pub rename-requires-clause-few : goal.rename-requires-clause-few
rename-requires-clause-few c =
    let e = c.in_ok-rooms.ensures {u = tt} in
    let q = plan_view c.choose_all.new.self in
    let h = subst (λ (n : ℕ). IsChosenTo q n 0) (sym (ap (λ (r : PlanView). length r.ops) e.plan)) e.chosen in
    subst (λ (r : PlanView). length r.arrays < 2 ^ 32) (sym c.set_needs.ensures) (arrays_few (all_stored q) q h refl)

pub rename-requires-clause-out : goal.rename-requires-clause-out
rename-requires-clause-out c =
    let e = c.in_ok-rooms.ensures {u = tt} in
    let q = plan_view c.choose_all.new.self in
    let h = subst (λ (n : ℕ). IsChosenTo q n 0) (sym (ap (λ (r : PlanView). length r.ops) e.plan)) e.chosen in
    subst (λ (r : PlanView). r.out < length r.arrays) (sym c.set_needs.ensures) (out_within (all_stored q) q h refl)

pub rename-requires-clause-named : goal.rename-requires-clause-named
rename-requires-clause-named c =
    let p = c.args.plan in
    let e = c.in_ok-rooms.ensures {u = tt} in
    let q = plan_view c.choose_all.new.self in
    let h = subst (λ (n : ℕ). IsChosenTo q n 0) (sym (ap (λ (r : PlanView). length r.ops) e.plan)) e.chosen in
    let is : plan_view (record {
      arrays = c.parts-arrays.result.0;
      ops = c.parts-arrays.result.1;
      out = c.out-out.result;
      allowed = c.allowed-allowed.result;
      reserved = c.reserved-reserved.result;
    }) ≡ p = λ i. record {
      arrays = c.parts-arrays.ensures.arrays i;
      ops = c.parts-arrays.ensures.ops i;
      out = c.out-out.ensures.out i;
      allowed = c.allowed-allowed.ensures i;
      reserved = c.reserved-reserved.ensures i;
    } in
    let same = stored_start p (plan_view (record { arrays = c.parts-arrays.result.0; ops = c.parts-arrays.result.1; out = c.out-out.result; allowed = c.allowed-allowed.result; reserved = c.reserved-reserved.result })) q c.requires.stored is e.plan in
    subst (λ (r : PlanView). IsArrayName (array_at r.arrays r.out).prefix) (sym c.set_needs.ensures) (out_named p q h same c.requires.names.named)

pub make-requires : goal.make-requires
make-requires c =
    let p = c.args.plan in
    let e = c.in_ok-rooms.ensures {u = tt} in
    let q = plan_view c.choose_all.new.self in
    let h = subst (λ (n : ℕ). IsChosenTo q n 0) (sym (ap (λ (r : PlanView). length r.ops) e.plan)) e.chosen in
    let is : plan_view (record {
      arrays = c.parts-arrays.result.0;
      ops = c.parts-arrays.result.1;
      out = c.out-out.result;
      allowed = c.allowed-allowed.result;
      reserved = c.reserved-reserved.result;
    }) ≡ p = λ i. record {
      arrays = c.parts-arrays.ensures.arrays i;
      ops = c.parts-arrays.ensures.ops i;
      out = c.out-out.ensures.out i;
      allowed = c.allowed-allowed.ensures i;
      reserved = c.reserved-reserved.ensures i;
    } in
    let same = stored_start p (plan_view (record { arrays = c.parts-arrays.result.0; ops = c.parts-arrays.result.1; out = c.out-out.result; allowed = c.allowed-allowed.result; reserved = c.reserved-reserved.result })) q c.requires.stored is e.plan in
    let new : plan_view c.rename.new.self ≡ renamed (with_needs q) = c.rename.ensures ∙ ap renamed c.set_needs.ensures in
    subst Sound (sym new) (made_sound p q h same c.requires.names c.requires.stored)

pub returns-clause-plan : goal.returns-clause-plan
returns-clause-plan c =
    let p = c.args.plan in
    let e = c.in_ok-rooms.ensures {u = tt} in
    let q = plan_view c.choose_all.new.self in
    let h = subst (λ (n : ℕ). IsChosenTo q n 0) (sym (ap (λ (r : PlanView). length r.ops) e.plan)) e.chosen in
    let is : plan_view (record {
      arrays = c.parts-arrays.result.0;
      ops = c.parts-arrays.result.1;
      out = c.out-out.result;
      allowed = c.allowed-allowed.result;
      reserved = c.reserved-reserved.result;
    }) ≡ p = λ i. record {
      arrays = c.parts-arrays.ensures.arrays i;
      ops = c.parts-arrays.ensures.ops i;
      out = c.out-out.ensures.out i;
      allowed = c.allowed-allowed.ensures i;
      reserved = c.reserved-reserved.ensures i;
    } in
    let same = stored_start p (plan_view (record { arrays = c.parts-arrays.result.0; ops = c.parts-arrays.result.1; out = c.out-out.result; allowed = c.allowed-allowed.result; reserved = c.reserved-reserved.result })) q c.requires.stored is e.plan in
    let new : plan_view c.rename.new.self ≡ renamed (with_needs q) = c.rename.ensures ∙ ap renamed c.set_needs.ensures in
    subst (IsInlinedOf p) (sym (c.make.ensures.plan ∙ new)) (made_is p q h same)
