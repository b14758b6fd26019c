use Rattle.std.proofs.Common.{◌≡◌, ◌∙◌, ℕ, add-one, length, map, ap, arith}
use Rattle.std.proofs.lemmas.List.{map-append}
use Rattle.cu_work.specs.Shared.{spec_of, chunks_of_first}
use Rattle.cu_work.proofs.memory.make_specs.Goals as goal

pub loop-array-preserved : goal.loop-array-preserved
loop-array-preserved c = rw (c.in_ok-push_stored.ensures, add-one, map-append, c.loop-array.invariant)

pub returns : goal.returns
returns c =
    let e = ap length c.arrays.ensures.arrays in
    let all : c.loop-array.array ≡ length c.args.plan.now.arrays = omega (arith, e) in
    c.loop-array.invariant ∙ ap (λ (n : ℕ). map (spec_of c.args.plan.now.arrays) (chunks_of_first c.args.plan.now.arrays n)) all
