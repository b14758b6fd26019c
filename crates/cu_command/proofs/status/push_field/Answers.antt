use Rattle.std.proofs.Common.{◌≤◌, length, decimal, length-append, arith}
use Rattle.std.proofs.lemmas.Fmt.{length-decimal-le}
use Rattle.cu_command.proofs.status.push_field.Goals as goal

pub push_number-requires : goal.push_number-requires
push_number-requires c =
    let short : length (decimal c.args.number) ≤ 20 = length-decimal-le 20 c.args.number (omega arith) (omega arith) (omega arith) in
    omega arith

pub returns-clause-len : goal.returns-clause-len
returns-clause-len c =
    let short : length (decimal c.args.number) ≤ 20 = length-decimal-le 20 c.args.number (omega arith) (omega arith) (omega arith) in
    rw (c.push_number.ensures, c.push_str.ensures.bytes) (simp length-append (omega arith))
