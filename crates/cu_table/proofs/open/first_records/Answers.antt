use Rattle.std.proofs.Common.{ℕ, ◌+◌, ◌*◌, ap, arith}
use Rattle.std.proofs.Math.Nat.{mul-le-mul_left}
use Rattle.cu_table.proofs.open.first_records.Goals as goal

pub overflow_mul-retries-2 : goal.overflow_mul-retries-2
overflow_mul-retries-2 c =
    let few = c.count-count.ensures.few in
    let r = c.ranges.retries.fits in
    let m = mul-le-mul_left (2 * (c.args.retries + 2)) few in
    omega (arith, m, r)

pub returns-clause-room : goal.returns-clause-room
returns-clause-room c =
    let n = c.count-count.ensures.count in
    record {
      entries = (let e = c.in-Ok.ensures.exact in let m = ap (λ (k : ℕ). 2 * (c.args.retries + 2) * k) n in omega (arith, e, m));
      copies = (let e = c.in-Ok-with_capacity.ensures.exact in omega (arith, e, n));
    }
