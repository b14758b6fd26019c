use Rattle.std.proofs.Common.{ap, ◌∙◌, arith}
use Rattle.cu_command.proofs.StatusLemmas.{front_fits, digit_fits, one_digit_fits, digit_after, digit_alone}
use Rattle.cu_command.proofs.status.+push_number.Goals as goal
use Rattle.cu_command.proofs.status.+push_number.Goals.{then-number-ge10, else-number-ge10}

pub push_number-requires : goal.push_number-requires
push_number-requires t c = (omega (arith, c.decreases), front_fits c.args.line.now.bytes c.args.number 256 c.if-number-ge10.true c.ranges.number.fits c.requires)

pub push-requires : goal.push-requires
push-requires t c = (
  omega arith,
  elim c.if-number-ge10.branch [
    | then-number-ge10 w ↦ digit_fits c.args.line.now.bytes _ c.args.number 256 w.if-number-ge10.true c.ranges.number.fits (ap (λ l. l.bytes) w.line-is ∙ w.push_number.ensures) c.requires
    | else-number-ge10 w ↦ one_digit_fits c.args.line.now.bytes _ c.args.number 256 (omega arith) (ap (λ l. l.bytes) w.line-is) c.requires
  ],
)

pub returns : goal.returns
returns t c = c.push.ensures.bytes ∙ elim c.if-number-ge10.branch [
  | then-number-ge10 w ↦ digit_after c.args.line.now.bytes _ c.args.number w.if-number-ge10.true c.ranges.number.fits (ap (λ l. l.bytes) w.line-is ∙ w.push_number.ensures)
  | else-number-ge10 w ↦ digit_alone c.args.line.now.bytes _ c.args.number (omega arith) (ap (λ l. l.bytes) w.line-is)
]
