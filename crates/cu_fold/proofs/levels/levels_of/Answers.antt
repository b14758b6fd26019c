use Rattle.std.proofs.Common.{◌≡◌, ◌<◌, ◌+◌, [], ◌∷◌, ◌++◌, take, get_or, length, subst, arith}
use Rattle.std.proofs.lemmas.List.{take_all}
use Rattle.cu_reduce.proofs.Regions.{append_none}
use Rattle.cu_fold.specs.declared.levels.Level.{Level}
use Rattle.cu_fold.specs.Levels.{levels_from, IsAlike}
use Rattle.cu_fold.specs.Reduced.{is_folded}
use Rattle.cu_fold.proofs.Merged.{alike_then, levels_more}
use Rattle.cu_fold.proofs.levels.levels_of.Goals as goal

pub loop-axis-preserved : goal.loop-axis-preserved
loop-axis-preserved c =
    let dims = c.args.dims.now in
    let p = is_folded c.args.reduced in
    let k = c.loop-axis.axis in
    let inside : k < length dims = omega (arith, c.rank-axis-end.ensures.rank) in
    let old = c.loop-axis.levels in
    let new = c.with_axis-levels.result in
    record {
      count = omega (arith, c.with_axis-levels.ensures.count, c.loop-axis.invariant.count);
      alike = λ more.
          let added : Level = record { size = c.at.result; is_reduced = c.is_reduced.result } in
          let own : Level = record { size = get_or dims k 0; is_reduced = p k } in
          let same : added ≡ own = λ i. record { size = c.at.ensures i; is_reduced = c.is_reduced.ensures i } in
          let first = c.with_axis-levels.ensures.levels more in
          let second = subst (λ l. IsAlike (take old.count old.list ++ added ∷ more) (levels_from p 0 (take k dims) ++ l ∷ more)) same (c.loop-axis.invariant.alike (added ∷ more)) in
          let third = subst (λ ls. IsAlike (take old.count old.list ++ added ∷ more) ls) (levels_more p dims k more inside) second in
          alike_then (take new.count new.list ++ more) (take old.count old.list ++ added ∷ more) (levels_from p 0 (take (k + 1) dims) ++ more) first third;
    }

pub returns-clause-levels : goal.returns-clause-levels
returns-clause-levels c =
    let dims = c.args.dims.now in
    let p = is_folded c.args.reduced in
    let list = take c.loop-axis.levels.count c.loop-axis.levels.list in
    let whole : take c.loop-axis.axis dims ≡ dims = take_all c.loop-axis.axis dims (omega (arith, c.rank-axis-end.ensures.rank)) in
    let all = c.loop-axis.invariant.alike [] in
    let left = subst (λ ls. IsAlike ls (levels_from p 0 (take c.loop-axis.axis dims) ++ [])) (append_none list) all in
    let right = subst (λ ls. IsAlike list ls) (append_none (levels_from p 0 (take c.loop-axis.axis dims))) left in
    subst (λ ns. IsAlike list (levels_from p 0 ns)) whole right
