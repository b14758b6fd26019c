use Rattle.std.proofs.Common.{◌+◌, drop, sym, ◌∙◌, arith}
use Rattle.cu_fuse.proofs.Scanning.{from_place, maker_found, maker_passed}
use Rattle.cu_fuse.proofs.merge.maker_of.Goals as goal

pub returns-then-writes-clause-number : goal.returns-then-writes-clause-number
returns-then-writes-clause-number c =
    let ops = c.args.ops.now in
    let k = c.loop-planned.planned-index in
    let o = c.planned-item.result in
    let at = c.loop-planned.invariant.place in
    let found = maker_found (drop k ops) (drop (k + 1) ops) o c.args.a (from_place ops k o c.loop-planned-test.true c.planned-item.is) (sym c.writes.ensures ∙ c.if-writes.true) in
    omega (arith, at, found)

pub returns-then-writes-clause-within : goal.returns-then-writes-clause-within
returns-then-writes-clause-within c = let at = c.loop-planned.invariant.at in let b = c.loop-planned-test.true in omega (arith, at, b)

pub loop-planned-preserved : goal.loop-planned-preserved
loop-planned-preserved c =
    let ops = c.args.ops.now in
    let k = c.loop-planned.planned-index in
    let o = c.planned-item.result in
    let place = c.loop-planned.invariant.place in
    let at = c.loop-planned.invariant.at in
    let passed = maker_passed (drop k ops) (drop (k + 1) ops) o c.args.a (from_place ops k o c.loop-planned-test.true c.planned-item.is) (sym c.writes.ensures ∙ c.if-writes.false) in
    record { place = omega (arith, place, passed); at = omega (arith, at) }
