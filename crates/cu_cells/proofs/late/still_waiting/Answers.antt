use Rattle.std.proofs.Common.{◌≡◌, suc, ◌+◌, List, [], ◌∷◌, ◌++◌, take, take-suc, get_or, length-append, sym, ap, ◌∙◌, arith}
use Rattle.cu_cells.specs.Late.{behind, cells_waiting}
use Rattle.cu_cells.specs.declared.late.LateCell.{LateCell}
use Rattle.cu_cells.proofs.Lates.{waiting_snoc, behind_short}
use Rattle.cu_cells.proofs.late.still_waiting.Goals as goal

pub loop-at-preserved : goal.loop-at-preserved
loop-at-preserved c =
    let ls = c.args.late.now in
    let i = c.loop-at.at in
    let l : LateCell = get_or ls i (record { cell = 0; wait = 0 }) in
    let e : i + 1 ≡ suc i = omega arith in
    let more : take (i + 1) ls ≡ take i ls ++ l ∷ [] = ap (λ n. take n ls) e ∙ take-suc ls i (record { cell = 0; wait = 0 }) (omega (arith, c.loop-at-test.true)) in
    record {
      rest = c.wait_on.ensures ∙ (ap (λ (xs : List LateCell). xs ++ behind l l.wait []) c.loop-at.invariant.rest ∙ sym (ap cells_waiting more ∙ waiting_snoc (take i ls) l));
      few = let short = behind_short l l.wait in let long = length-append c.loop-at.rest.items (behind l l.wait []) in let now = ap (λ (xs : List LateCell). Rattle.std.proofs.Common.length xs) c.wait_on.ensures in let few = c.loop-at.invariant.few in omega arith;
    }
