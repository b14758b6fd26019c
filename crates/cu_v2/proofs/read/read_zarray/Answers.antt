use Rattle.std.proofs.Common.{ap, sym, ◌∙◌, arith, rules}
use Rattle.serde_json.specs.Read.{read}
use Rattle.serde_json.specs.View.{view}
use Rattle.cu_v2.proofs.Answered.{read_too_long, read_no_text, read_by_steps, refused_for_no_value, answered_ok, answered_fault}
use Rattle.cu_v2.proofs.read.read_zarray.Goals as goal

pub returns-then-bytes-gt-TEXT_BYTES-clause-fault : goal.returns-then-bytes-gt-TEXT_BYTES-clause-fault
returns-then-bytes-gt-TEXT_BYTES-clause-fault c = read_too_long c.args.bytes.now (omega arith)

pub returns-in_default-clause-fault : goal.returns-in_default-clause-fault
returns-in_default-clause-fault c = read_no_text c.args.bytes.now c.if-bytes-gt-TEXT_BYTES.false c.in_default.ensures.cases.0

pub returns-clause-ok : goal.returns-clause-ok
returns-clause-ok c = answered_ok _ c.layout_in.result c.refused.result c.refused.ensures (c.layout_in.ensures
    ∙ sym (read_by_steps c.args.bytes.now (view c.in_ok-value.value) c.if-bytes-gt-TEXT_BYTES.false c.in-Ok.ensures.cases.1 (ap read (sym c.in-Ok.ensures.cases.0) ∙ c.in_ok-value.ensures.ok)))

pub returns-clause-fault : goal.returns-clause-fault
returns-clause-fault c = answered_fault _ c.layout_in.result c.refused.result c.refused.ensures (c.layout_in.ensures
    ∙ sym (read_by_steps c.args.bytes.now (view c.in_ok-value.value) c.if-bytes-gt-TEXT_BYTES.false c.in-Ok.ensures.cases.1 (ap read (sym c.in-Ok.ensures.cases.0) ∙ c.in_ok-value.ensures.ok)))

pub returns-in_err-value-clause-fault : goal.returns-in_err-value-clause-fault
returns-in_err-value-clause-fault c =
    let refused = refused_for_no_value c.args.bytes.now _ _ c.if-bytes-gt-TEXT_BYTES.false c.in-Ok.ensures.cases.1 c.in-Ok.ensures.cases.0 c.in_err-value.ensures.fault in
    search rules
