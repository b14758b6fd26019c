use Rattle.std.proofs.Common.{◌<◌, ◌≡◌, ◌+◌, ◌^◌, List, arith, ap, sym, subst, ◌∙◌}
use Rattle.cu_op.specs.declared.layout.ArrayInfo.{ArrayInfo}
use Rattle.cu_op.specs.Projection.{own_projection}
use Rattle.cu_fuse.specs.Fused.{SettingView}
use Rattle.cu_fuse.proofs.Scanning.{over_all, reserved_apart}
use Rattle.cu_fuse.proofs.join.within_allowed.Goals as goal

pub returns-in_default-clause-over : goal.returns-in_default-clause-over
returns-in_default-clause-over c = λ _.
    let op = c.args.op in
    let arrays : List ArrayInfo = c.setting.inside.arrays.items in
    let reserved = c.setting.inside.reserved in
    let own : c.own_projection-own.result ≡ own_projection arrays 0 op = c.own_projection-own.ensures ∙ ap (λ (l : List ArrayInfo). own_projection l 0 op) c.deref.ensures.value in
    let few : c.setting.inside.allowed < 2 ^ 64 = omega arith in
    subst (λ (v : SettingView). v.allowed < own_projection v.arrays v.reserved op) c.setting.view_is
    (over_all c.setting.inside.allowed reserved c.own_projection-own.result (own_projection arrays reserved op) (c.in_default.ensures {u = tt})
    (reserved_apart arrays reserved op ∙ ap (λ n. reserved + n) (sym own)) few)
