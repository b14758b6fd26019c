use Rattle.std.proofs.Common.{◌≡◌, List, ℕ, [], ◌∷◌, ◌+◌, ◌++◌, drop, ap, sym, ◌∙◌, append_assoc}
use Rattle.cu_fuse.specs.Copies.{copy_sources}
use Rattle.cu_fuse.proofs.CopyLists.{no_copy, sources_passed, sources_taken}
use Rattle.cu_fuse.proofs.Scanning.{from_place}
use Rattle.cu_fuse.proofs.copies.copy_sources.Goals as goal
use Rattle.cu_fuse.proofs.copies.copy_sources.Goals.{in-Copy+in_ok-push, in_default}

pub loop-planned-preserved : goal.loop-planned-preserved
loop-planned-preserved c =
    let ops = c.args.ops.now in
    let k = c.loop-planned.planned-index in
    let o = c.planned-item.result in
    let rest = drop (k + 1) ops in
    let e = from_place ops k o c.loop-planned-test.true c.planned-item.is in
    elim c.match-planned.branch [
      | in-Copy+in_ok-push w ↦
          let source = w.in-Copy.source in
          let items : c.match-planned.sources.items ≡ c.loop-planned.sources.items ++ source ∷ [] =
          ap (λ v. v.items) w.sources-is ∙ w.in_ok-push.ensures.items in
          ap (λ (l : List ℕ). l ++ copy_sources rest) items ∙ append_assoc c.loop-planned.sources.items (source ∷ []) (copy_sources rest)
          ∙ ap (λ (l : List ℕ). c.loop-planned.sources.items ++ l) (sym (sources_taken (drop k ops) rest o w.in-Copy.region source w.in-Copy.out e w.in-Copy.is)) ∙ c.loop-planned.invariant
      | in_default w ↦
          ap (λ v. v.items ++ copy_sources rest) w.sources-is
          ∙ ap (λ (l : List ℕ). c.loop-planned.sources.items ++ l) (sym (sources_passed (drop k ops) rest o e (no_copy o.op (λ region source out same. w.in_default.not-Copy region source out same)))) ∙ c.loop-planned.invariant
    ]
