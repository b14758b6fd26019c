use Rattle.std.proofs.Common.{◌≡◌, ◌+◌, [], List, ℕ, drop, get_or, ap, sym, ◌∙◌, subst}
use Rattle.std.proofs.Math.ListN.{drop_of_length-le}
use Rattle.std.proofs.lemmas.List.{drop_more}
use Rattle.cu_fuse.specs.Copies.{copy_sources, may_join}
use Rattle.cu_fuse.specs.Runs.{CanRun}
use Rattle.cu_fuse.specs.Together.{all_together}
use Rattle.cu_fuse.proofs.JointCopy.{joining, one_runs}
use Rattle.cu_fuse.proofs.MergedAll.{all_over}
use Rattle.cu_fuse.proofs.PutTogether.{taken_next}
use Rattle.cu_fuse.proofs.copies.join_all.Goals as goal

pub join_at-requires-clause-over : goal.join_at-requires-clause-over
join_at-requires-clause-over c = all_over c.args.setting.now.arrays c.args.setting.now.reserved [] c.loop-a.ops.items c.loop-a.invariant.run

pub loop-a-init : goal.loop-a-init
loop-a-init c =
    let s = c.args.setting.now in
    let ops = c.args.ops.now.items in
    let sources : c.deref-a-items.result.now ≡ copy_sources ops = c.deref-a-items.ensures.value ∙ c.in_ok-sources.ensures {u = tt} ∙ ap copy_sources c.deref.ensures.value in
    record { so_far = ap (λ (l : List ℕ). all_together (may_join s) (joining s) l ops) sources; run = c.requires.run }

pub loop-a-preserved : goal.loop-a-preserved
loop-a-preserved c =
    let s = c.args.setting.now in
    let items = c.deref-a-items.result.now in
    let k = c.loop-a.a-index in
    let a = get_or items k 0 in
    let old = c.loop-a.ops.items in
    record {
      so_far = ap (all_together (may_join s) (joining s) (drop (k + 1) items)) c.join_at.ensures
          ∙ sym (taken_next (may_join s) (joining s) a (drop k items) (drop (k + 1) items) old (drop_more items k 0 c.loop-a-test.true)) ∙ c.loop-a.invariant.so_far;
      run = subst (CanRun s.arrays s.reserved []) (sym c.join_at.ensures) (one_runs s c.requires.arrays c.requires.allowed a old c.loop-a.invariant.run);
    }

pub returns : goal.returns
returns c =
    let s = c.args.setting.now in
    ap (λ (l : List ℕ). all_together (may_join s) (joining s) l c.loop-a.ops.items) (sym (drop_of_length-le c.deref-a-items.result.now c.loop-a-test.false)) ∙ c.loop-a.invariant.so_far
