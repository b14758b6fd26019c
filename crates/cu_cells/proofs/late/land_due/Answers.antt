use Rattle.std.proofs.Common.{◌≡◌, suc, ◌+◌, ◌==◌, if◌then◌else◌, [], ◌∷◌, ◌++◌, take, take-suc, get_or, length, sym, ap, ◌∙◌, arith}
use Rattle.cu_cells.specs.Late.{landed_by}
use Rattle.cu_cells.specs.declared.late.LateCell.{LateCell}
use Rattle.cu_cells.proofs.Lates.{stored_there, landed_snoc}
use Rattle.cu_cells.proofs.late.land_due.Goals as goal

pub land_one-requires-clause-stored : goal.land_one-requires-clause-stored
land_one-requires-clause-stored c =
    let is = c.as_slice.ensures.value in
    let before = c.loop-at.invariant in
    stored_there c.args.seat.now.me.0 c.loop-at.seat.me.0 c.as_slice.result.now c.loop-at.at (record { cell = 0; wait = 0 }) before.laid before.stored (rw is c.requires.stored) (omega (arith, ap length is, c.loop-at-test.true))

pub loop-at-preserved : goal.loop-at-preserved
loop-at-preserved c =
    let ls = c.args.late.now.items in
    let i = c.loop-at.at in
    let d : LateCell = record { cell = 0; wait = 0 } in
    let l : LateCell = get_or ls i d in
    let is = c.as_slice.ensures.value in
    let before = c.loop-at.invariant in
    let same = c.land_one.ensures.same in
    let knows = c.land_one.ensures.knows in
    let xs = c.args.seat.now.me.0.landed in
    let e : i + 1 ≡ suc i = omega arith in
    let more : take (i + 1) ls ≡ take i ls ++ l ∷ [] = ap (λ n. take n ls) e ∙ take-suc ls i d (omega (arith, c.loop-at-test.true)) in
    record {
      table = same.0 ∙ before.table;
      id = same.1 ∙ before.id;
      slots = same.2 ∙ before.slots;
      live = knows.0 ∙ before.live;
      laid = knows.1 ∙ before.laid;
      seen = knows.2 ∙ before.seen;
      stored = knows.3 ∙ before.stored;
      landed = c.land_one.ensures.landed
          ∙ ((λ k. if (get_or (is k) i d).wait == 0 then (get_or (is k) i d).cell ∷ before.landed k else before.landed k)
          ∙ (sym (landed_snoc (take i ls) l xs) ∙ ap (λ ms. landed_by ms xs) (sym more)));
    }
