-- Merges one after another: the operations can run all the time.
use Rattle.std.proofs.Common.{◌≡◌, inl, inr, ℕ, suc, ◌<◌, ◌^◌, List, [], ◌∷◌, ◌++◌, All, length, ap, sym, subst, arith, ⊎_elim, if◌then◌else◌}
use Rattle.std.proofs.lemmas.Bool.{cases_Bool}
use Rattle.std.proofs.lemmas.List.Elements.{All-append, All-cons}
use Rattle.cu_op.specs.declared.layout.ArrayInfo.{ArrayInfo}
use Rattle.cu_op.specs.declared.operation.Planned.{Planned}
use Rattle.cu_op.specs.Operation.{reads_of}
use Rattle.cu_fuse.specs.Fused.{SettingView, is_map, joint, map_inputs, merged_all, merged_away}
use Rattle.cu_fuse.specs.Runs.{CanFollow, CanRun, IsOverArrays}
use Rattle.cu_fuse.proofs.Fusing.{Step, away_step}
use Rattle.cu_fuse.proofs.Running.{merge_runs}

over : (arrays : List ArrayInfo) (reserved : ℕ) (before : List Planned) (o : Planned) → CanFollow arrays reserved before o → IsOverArrays arrays o.op
over arrays reserved before o step = record {
  reads = λ k d b. (step.reads k d b).0;
  writes = λ k d b. (step.writes k d b).0;
  fits = step.fits;
}

-- each operation of a list that can run is over the arrays of the plan
pub all_over : (arrays : List ArrayInfo) (reserved : ℕ) (before ops : List Planned) → CanRun arrays reserved before ops → All (λ o. IsOverArrays arrays o.op) ops
all_over arrays reserved before [] run = λ k d b. absurd (omega arith)
all_over arrays reserved before (o ∷ os) (step, rest) =
    All-cons (λ o. IsOverArrays arrays o.op) o os (over arrays reserved before o step) (all_over arrays reserved (before ++ o ∷ []) os rest)

-- the inputs of the maps are arrays of the plan
pub inputs_within : (arrays : List ArrayInfo) (ops : List Planned) → All (λ o. IsOverArrays arrays o.op) ops → All (λ a. a < length arrays) (map_inputs ops)
inputs_within arrays [] all = λ k d b. absurd (omega arith)
inputs_within arrays (o ∷ os) all =
    let rest = inputs_within arrays os (λ k d b. all (suc k) d (omega arith)) in
    elim (cases_Bool (is_map o.op)) [
      | inl m ↦ subst (All (λ a. a < length arrays)) (sym (λ i. if m i then reads_of o.op ++ map_inputs os else map_inputs os))
          (All-append (λ a. a < length arrays) (reads_of o.op) (map_inputs os) ((all 0 o (omega arith)).reads) rest)
      | inr n ↦ subst (All (λ a. a < length arrays)) (sym (λ i. if n i then reads_of o.op ++ map_inputs os else map_inputs os)) rest
    ]

-- one merge
pub away_runs : (s : SettingView) (a : ℕ) (ops : List Planned) → s.allowed < 2 ^ 64 → CanRun s.arrays s.reserved [] ops → CanRun s.arrays s.reserved [] (merged_away s a ops)
away_runs s a ops room run =
    ⊎_elim (λ same. subst (CanRun s.arrays s.reserved []) (sym same) run)
    (λ (t : Step s a ops (merged_away s a ops)).
    subst (CanRun s.arrays s.reserved []) (sym t.after)
    (merge_runs s.arrays s.reserved t.front t.between t.behind t.maker t.reader (joint s t.maker t.reader a) a t.j t.joins t.merged (subst (CanRun s.arrays s.reserved []) t.before run)))
    (away_step s room a ops)

-- the next array
pub all_next : (s : SettingView) (a : ℕ) (arrays rest : List ℕ) (ops : List Planned) → arrays ≡ a ∷ rest → merged_all s arrays ops ≡ merged_all s rest (merged_away s a ops)
all_next s a arrays rest ops e = ap (λ (l : List ℕ). merged_all s l ops) e
