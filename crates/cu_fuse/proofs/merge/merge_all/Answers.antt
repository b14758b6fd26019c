use Rattle.std.proofs.Common.{◌≡◌, ◌+◌, ◌<◌, [], List, ℕ, All, length, drop, get_or, ap, sym, ◌∙◌, subst}
use Rattle.std.proofs.Math.ListN.{drop_of_length-le}
use Rattle.std.proofs.lemmas.List.{drop_more}
use Rattle.cu_fuse.specs.Fused.{map_inputs, merged_all}
use Rattle.cu_fuse.specs.Runs.{CanRun}
use Rattle.cu_fuse.proofs.MergedAll.{all_next, all_over, away_runs, inputs_within}
use Rattle.cu_fuse.proofs.merge.merge_all.Goals as goal

pub merge_away-requires-clause-array : goal.merge_away-requires-clause-array
merge_away-requires-clause-array c =
    let s = c.args.setting.now in
    let ops = c.args.ops.now.items in
    let inputs : c.deref-a-items.result.now ≡ map_inputs ops = c.deref-a-items.ensures.value ∙ c.in_ok-inputs.ensures {u = tt} ∙ ap map_inputs c.deref.ensures.value in
    subst (All (λ a. a < length s.arrays)) (sym inputs) (inputs_within s.arrays ops (all_over s.arrays s.reserved [] ops c.requires.run)) c.loop-a.a-index 0 c.loop-a-test.true

pub merge_away-requires-clause-over : goal.merge_away-requires-clause-over
merge_away-requires-clause-over c = all_over c.args.setting.now.arrays c.args.setting.now.reserved [] c.loop-a.ops.items c.loop-a.invariant.run

pub loop-a-init : goal.loop-a-init
loop-a-init c =
    let ops = c.args.ops.now.items in
    let inputs : c.deref-a-items.result.now ≡ map_inputs ops = c.deref-a-items.ensures.value ∙ c.in_ok-inputs.ensures {u = tt} ∙ ap map_inputs c.deref.ensures.value in
    record { so_far = ap (λ (l : List ℕ). merged_all c.args.setting.now l ops) inputs; run = c.requires.run }

pub loop-a-preserved : goal.loop-a-preserved
loop-a-preserved c =
    let s = c.args.setting.now in
    let items = c.deref-a-items.result.now in
    let k = c.loop-a.a-index in
    let a = get_or items k 0 in
    let old = c.loop-a.ops.items in
    record {
      so_far = ap (merged_all s (drop (k + 1) items)) c.merge_away.ensures ∙ sym (all_next s a (drop k items) (drop (k + 1) items) old (drop_more items k 0 c.loop-a-test.true)) ∙ c.loop-a.invariant.so_far;
      run = subst (CanRun s.arrays s.reserved []) (sym c.merge_away.ensures) (away_runs s a old c.requires.allowed c.loop-a.invariant.run);
    }

pub returns : goal.returns
returns c =
    ap (λ (l : List ℕ). merged_all c.args.setting.now l c.loop-a.ops.items) (sym (drop_of_length-le c.deref-a-items.result.now c.loop-a-test.false)) ∙ c.loop-a.invariant.so_far
