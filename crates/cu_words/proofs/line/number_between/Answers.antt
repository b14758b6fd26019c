use Rattle.std.proofs.Common.{arith}
use Rattle.cu_words.proofs.Decimals.{number_read, number_refused}
use Rattle.cu_words.proofs.line.number_between.Goals as goal

pub returns-clause-number : goal.returns-clause-number
returns-clause-number c = number_read c.args.least c.args.most c.args.text.now c.in-Ok.number c.in-Ok.ensures.value.0.0.0 c.in-Ok.ensures.value.0.1 (omega arith) (omega arith)

pub returns-in_default-clause-number : goal.returns-in_default-clause-number
returns-in_default-clause-number c = number_refused c.args.least c.args.most c.args.text.now (λ numeral low high. c.in_default.ensures.value.0 (numeral, omega (arith, c.ranges.most, high)))

pub returns-then-number-least-clause-number : goal.returns-then-number-least-clause-number
returns-then-number-least-clause-number c = number_refused c.args.least c.args.most c.args.text.now (λ numeral low high. let is = c.in-Ok.ensures.value.0.1 in absurd (omega arith))

pub returns-then-number-most-clause-number : goal.returns-then-number-most-clause-number
returns-then-number-most-clause-number c = number_refused c.args.least c.args.most c.args.text.now (λ numeral low high. let is = c.in-Ok.ensures.value.0.1 in absurd (omega arith))
