use Rattle.std.proofs.Common.{◌≡◌, ◌<◌, ◌^◌, List, ℕ, All, refl, length, ap, sym, ◌∙◌, subst, arith}
use Rattle.cu_op.specs.declared.layout.ArrayInfo.{ArrayInfo}
use Rattle.cu_op.specs.declared.operation.Op.{Op}
use Rattle.cu_op.specs.Operation.{reads_of}
use Rattle.cu_op.specs.Projection.{own_projection}
use Rattle.cu_fuse.specs.Fused.{SettingView}
use Rattle.cu_op.specs.Kind.Map.{map_of}
use Rattle.cu_op.proofs.KindLaws.{map_by_kernel}
use Rattle.cu_fuse.specs.Once.{one_load}
use Rattle.cu_fuse.proofs.LoadedOnce.{not_larger}
use Rattle.cu_fuse.proofs.Same.{one_load_does, reads_same}
use Rattle.cu_fuse.proofs.once.load_once.Goals as goal

pub returns-in_default-loaded_map : goal.returns-in_default-loaded_map
returns-in_default-loaded_map c =
    absurd (not_larger c.as_slice.result.now c.as_slice-2.result.now c.target-out.result c.as_slice.ensures.fits
    c.as_slice-2.ensures.fits (c.in_default-loaded_map.ensures.none refl))

pub own_projection-planned-requires-clause-reads : goal.own_projection-planned-requires-clause-reads
own_projection-planned-requires-clause-reads c =
    let s = c.args.setting.now in
    let op = c.args.planned.now.op in
    let arrays : c.deref.result.now ≡ s.arrays =
    c.deref.ensures.value ∙ ap (λ (v : SettingView). v.arrays) c.setting.view_is in
    let is : c.in-Some-loaded_map.op ≡ one_load op =
    c.in-Some-loaded_map.ensures.map
    ∙ (λ i. one_load (map_of (c.as_slice.ensures.value i) ((c.as_slice-2.ensures.value ∙ c.reads-ins.ensures) i) (c.target-out.ensures i)))
    ∙ ap one_load (sym (map_by_kernel op c.in-Some.kernel.now.code.items c.in-Some.ensures.kernel)) in
    subst (λ (l : List ArrayInfo). All (λ a. a < length l) (reads_of c.in-Some-loaded_map.op)) (sym arrays)
    (subst (λ (o : Op). All (λ a. a < length s.arrays) (reads_of o)) (sym is)
    (reads_same s.arrays op (one_load op) (λ (a : ℕ). a < length s.arrays) (one_load_does s.arrays op)
    c.requires.over.reads))

pub own_projection-planned-requires-clause-small : goal.own_projection-planned-requires-clause-small
own_projection-planned-requires-clause-small c =
    let s = c.args.setting.now in
    let op = c.args.planned.now.op in
    let arrays : c.deref.result.now ≡ s.arrays =
    c.deref.ensures.value ∙ ap (λ (v : SettingView). v.arrays) c.setting.view_is in
    let reserved : c.setting.inside.reserved ≡ s.reserved = ap (λ (v : SettingView). v.reserved) c.setting.view_is in
    let is : c.in-Some-loaded_map.op ≡ one_load op =
    c.in-Some-loaded_map.ensures.map
    ∙ (λ i. one_load (map_of (c.as_slice.ensures.value i) ((c.as_slice-2.ensures.value ∙ c.reads-ins.ensures) i) (c.target-out.ensures i)))
    ∙ ap one_load (sym (map_by_kernel op c.in-Some.kernel.now.code.items c.in-Some.ensures.kernel)) in
    let less = (one_load_does s.arrays op).needs s.reserved in
    let needs = c.requires.projected in
    let few = c.requires.room in
    let own : own_projection s.arrays s.reserved (one_load op) < 2 ^ 64 = omega (arith, less, needs, few) in
    subst (λ (n : ℕ). n < 2 ^ 64) (λ i. own_projection (sym arrays i) (sym reserved i) (sym is i)) own
