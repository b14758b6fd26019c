use Rattle.std.proofs.Common.{[], ap, sym, ◌∙◌, subst}
use Rattle.cu_fuse.specs.Runs.{CanRun}
use Rattle.cu_fuse.proofs.Loaded.{runs_once}
use Rattle.cu_fuse.proofs.merge.merge_maps.Goals as goal
use Rattle.cu_fuse.proofs.merge.merge_maps.Goals.{then-setting, else-setting}

pub merge_all-requires-clause-run : goal.merge_all-requires-clause-run
merge_all-requires-clause-run c =
    let s = c.args.setting.now in
    elim c.if-setting.branch [
      | then-setting w ↦
          subst (CanRun s.arrays s.reserved [])
          (sym (ap (λ v. v.items) w.ops-is ∙ w.load_all_once.ensures))
          (runs_once s [] c.args.ops.now.items c.requires.run)
      | else-setting w ↦
          subst (CanRun s.arrays s.reserved []) (sym (ap (λ v. v.items) w.ops-is)) c.requires.run
    ]
