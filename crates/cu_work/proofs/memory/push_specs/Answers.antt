use Rattle.std.proofs.Common.{◌≡◌, ℕ, suc, ◌+◌, List, ◌∷◌, [], ◌++◌, map, ap, sym, ◌∙◌, append_assoc, arith}
use Rattle.std.proofs.lemmas.List.{map-append}
use Rattle.cu_grid.specs.Grid.{coordinate_of}
use Rattle.cu_store.specs.declared.yard.Spec.{Spec}
use Rattle.cu_op.specs.Arrays.{grid_at}
use Rattle.cu_op.specs.Chunks.{cell}
use Rattle.cu_op.specs.declared.layout.ArrayInfo.{ArrayInfo}
use Rattle.cu_work.specs.Shared.{spec_of, chunks_below}
use Rattle.cu_work.proofs.Pushed.{pushed}
use Rattle.cu_work.proofs.memory.push_specs.Goals as goal

-- one chunk more
more : (arrays : List ArrayInfo) (a n : ℕ) (old specs new : List Spec) (s : Spec) → specs ≡ old ++ map (spec_of arrays) (chunks_below arrays a n) → new ≡ specs ++ s ∷ []
    → s ≡ spec_of arrays (cell a (coordinate_of (grid_at arrays a) n)) → new ≡ old ++ map (spec_of arrays) (chunks_below arrays a (n + 1))
more arrays a n old specs new s before is same =
    is ∙ ap (λ (xs : List Spec). xs ++ s ∷ []) before ∙ append_assoc old (map (spec_of arrays) (chunks_below arrays a n)) (s ∷ [])
    ∙ ap (λ (xs : List Spec). old ++ xs) (ap (λ (x : Spec). map (spec_of arrays) (chunks_below arrays a n) ++ x ∷ []) same
    ∙ sym (map-append (spec_of arrays) (chunks_below arrays a n) (cell a (coordinate_of (grid_at arrays a) n) ∷ []))
    ∙ ap (λ (m : ℕ). map (spec_of arrays) (chunks_below arrays a m)) (let e : suc n ≡ n + 1 = omega arith in e))

pub loop-number-preserved : goal.loop-number-preserved
loop-number-preserved c =
    more c.args.plan.now.arrays c.args.array c.loop-number.number c.args.specs.now.items c.loop-number.specs.items c.push.new.self.items c.spec_of.result c.loop-number.invariant
    (pushed _ c.is_err.result c.loop-number.specs.items c.push.new.self.items c.spec_of.result c.push.ensures.items c.is_err.ensures.negation c.if-is_err.false)
    (c.spec_of.ensures ∙ cc)
