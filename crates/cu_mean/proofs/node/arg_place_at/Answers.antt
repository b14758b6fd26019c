use Rattle.std.proofs.Common.{pos, ℤ, [], ◌∷◌, Some, sym, ap, ◌∙◌, rules}
use mir.Val.{SFits}
use Rattle.std.specs.Int.{w64, w128}
use Rattle.std.proofs.lemmas.Int.{to_z-of_z}
use Rattle.cu_semantics.specs.Argument.{source_at, source_shape}
use Rattle.cu_semantics.specs.Reduction.{reduced_elements}
use Rattle.cu_reduce.specs.Places.{best_place}
use Rattle.cu_semantics.specs.Rule.{place_axes}
use Rattle.cu_mean.specs.Reading.{elements_in}
use Rattle.cu_mean.proofs.node.arg_place_at.Goals as goal

pub returns-in-Some : goal.returns-in-Some
returns-in-Some c env k e =
    let s = c.as_slice-args.ensures in
    let fits : SFits w64 c.in-Some.number = search rules in
    let x = ap (λ (n : ℤ). Some (n ∷ [])) (to_z-of_z w64 c.in-Some.number fits) ∙ sym (ap place_axes c.in-Some.is) in
    to_z-of_z w128 c.place_at.result (record { sfits = c.place_at.type_inv })
    ∙ c.place_at.ensures
    ∙ (λ i. pos (best_place c.args.least (reduced_elements (source_at (elements_in c.args.scope.now.plains.now) (s i) 0) (x i) c.args.keepdims (source_shape c.args.scope.now.infos.now (s i) 0) c.args.scope.now.idx.now)))
