use Rattle.std.proofs.Common.{◌<◌, [], length, get_or, ap, sym, ◌∙◌, subst, arith}
use Rattle.std.proofs.Math.ListN.{set}
use Rattle.cu_op.specs.declared.operation.Planned.{Planned}
use Rattle.cu_fuse.specs.Fused.{with_one_load}
use Rattle.cu_fuse.specs.Runs.{CanRun}
use Rattle.cu_fuse.proofs.Loaded.{IsLoadable, all_loadable, next_unmapped}
use Rattle.cu_fuse.proofs.Renumbering.{mapped_next}
use Rattle.cu_fuse.proofs.once.load_all_once.Goals as goal

pub load_once-requires-clause-over : goal.load_once-requires-clause-over
load_once-requires-clause-over c =
    let s = c.args.setting.now in
    let init = c.deref_mut-planned-items.result.now in
    let cur = c.loop-planned.planned-items in
    let k = c.loop-planned.planned-index in
    let d = c.planned-item.result in
    let below : k < length init = (let same = c.loop-planned.auto.planned-items in let t = c.loop-planned-test.true in omega (arith, same, t)) in
    let run = subst (CanRun s.arrays s.reserved []) (sym c.deref_mut-planned-items.ensures.value) c.requires.run in
    (subst (IsLoadable s) (sym (next_unmapped (with_one_load s) init cur k d below c.loop-planned.invariant))
    (all_loadable s [] init run k d below)).over

pub load_once-requires-clause-projected : goal.load_once-requires-clause-projected
load_once-requires-clause-projected c =
    let s = c.args.setting.now in
    let init = c.deref_mut-planned-items.result.now in
    let cur = c.loop-planned.planned-items in
    let k = c.loop-planned.planned-index in
    let d = c.planned-item.result in
    let below : k < length init = (let same = c.loop-planned.auto.planned-items in let t = c.loop-planned-test.true in omega (arith, same, t)) in
    let run = subst (CanRun s.arrays s.reserved []) (sym c.deref_mut-planned-items.ensures.value) c.requires.run in
    (subst (IsLoadable s) (sym (next_unmapped (with_one_load s) init cur k d below c.loop-planned.invariant))
    (all_loadable s [] init run k d below)).projected

pub load_once-requires-clause-room : goal.load_once-requires-clause-room
load_once-requires-clause-room c =
    let s = c.args.setting.now in
    let init = c.deref_mut-planned-items.result.now in
    let cur = c.loop-planned.planned-items in
    let k = c.loop-planned.planned-index in
    let d = c.planned-item.result in
    let below : k < length init = (let same = c.loop-planned.auto.planned-items in let t = c.loop-planned-test.true in omega (arith, same, t)) in
    let run = subst (CanRun s.arrays s.reserved []) (sym c.deref_mut-planned-items.ensures.value) c.requires.run in
    (subst (IsLoadable s) (sym (next_unmapped (with_one_load s) init cur k d below c.loop-planned.invariant))
    (all_loadable s [] init run k d below)).room

pub loop-planned-preserved : goal.loop-planned-preserved
loop-planned-preserved c =
    let s = c.args.setting.now in
    let init = c.deref_mut-planned-items.result.now in
    let cur = c.loop-planned.planned-items in
    let k = c.loop-planned.planned-index in
    let x : Planned = get_or cur k c.planned-item.result in
    let below : k < length cur = (let same = c.loop-planned.auto.planned-items in let t = c.loop-planned-test.true in omega (arith, same, t)) in
    ap (set cur k) c.load_once.ensures
    ∙ mapped_next (with_one_load s) init cur k x c.loop-planned.invariant below (ap (get_or cur k) c.planned-item.is)
