use Rattle.std.proofs.Common.{refl}
use Rattle.serde_json.specs.View.{view}
use Rattle.cu_read.proofs.read.read_expr_text.Goals as goal

pub returns-in-Ok-clause-compact : goal.returns-in-Ok-clause-compact
returns-in-Ok-clause-compact c =
    let plain = c.plain_law.ensures c.args.bytes.now c.in_ok-read.read.expr (view c.in_ok-read.read.value) c.in_ok-read.ensures.ok c.in_ok-read.ensures.value in
    rw (c.in_ok-read.ensures.value, c.in-Ok.ensures.text plain) refl
