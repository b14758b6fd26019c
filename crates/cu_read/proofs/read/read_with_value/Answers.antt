use Rattle.std.proofs.Common.{Err, ap, sym, ◌∙◌, arith, rules}
use Rattle.serde_json.specs.Read.{read}
use Rattle.serde_json.specs.View.{view}
use Rattle.cu_read.specs.declared.faults.ReadFault.{ReadFault}
use Rattle.cu_read.proofs.Answered.{too_long, no_text, value_of, refused_for_no_value, refused_with}
use Rattle.cu_read.proofs.Says.{text_has_form}
use Rattle.cu_read.proofs.TextItems.{text_items}
use Rattle.cu_read.proofs.read.read_with_value.Goals as goal

pub expression_in-requires : goal.expression_in-requires
expression_in-requires c =
    let short = c.if-bytes-gt-TEXT_BYTES.false in
    let within = text_items c.args.bytes.now (view c.in_ok-value.value) (ap read (sym c.in-Ok.ensures.cases.0) ∙ c.in_ok-value.ensures.ok) in
    omega arith

pub returns-then-bytes-gt-TEXT_BYTES-clause-fault : goal.returns-then-bytes-gt-TEXT_BYTES-clause-fault
returns-then-bytes-gt-TEXT_BYTES-clause-fault c = too_long c.args.bytes.now (omega arith) ∙ ap (λ (f : ReadFault). Err f) (sym c.whole_fault.ensures)

pub returns-in_default-clause-fault : goal.returns-in_default-clause-fault
returns-in_default-clause-fault c = no_text c.args.bytes.now c.if-bytes-gt-TEXT_BYTES.false c.in_default.ensures.cases.0 ∙ ap (λ (f : ReadFault). Err f) (sym c.whole_fault-in_default.ensures)

pub returns-in_err-value-clause-fault : goal.returns-in_err-value-clause-fault
returns-in_err-value-clause-fault c =
    let refused = refused_for_no_value c.args.bytes.now _ _ c.if-bytes-gt-TEXT_BYTES.false c.in-Ok.ensures.cases.1 c.in-Ok.ensures.cases.0 c.in_err-value.ensures.fault in
    search rules

answered : goal.returns-in-Ok-expression_in-clause-ok
answered c =
    value_of c.args.bytes.now (view c.in_ok-value.value) c.if-bytes-gt-TEXT_BYTES.false c.in-Ok.ensures.cases.1 (ap read (sym c.in-Ok.ensures.cases.0) ∙ c.in_ok-value.ensures.ok)
    ∙ c.in-Ok-expression_in.ensures

pub returns-in-Ok-expression_in-clause-ok : goal.returns-in-Ok-expression_in-clause-ok
returns-in-Ok-expression_in-clause-ok c = answered c

pub returns-in-Ok-expression_in-clause-form : goal.returns-in-Ok-expression_in-clause-form
returns-in-Ok-expression_in-clause-form c = text_has_form c.args.bytes.now c.in-Ok-expression_in.expr (answered c)

pub returns-in-Err-clause-fault : goal.returns-in-Err-clause-fault
returns-in-Err-clause-fault c =
    refused_with c.args.bytes.now (view c.in_ok-value.value) c.in-Err.refused
    (value_of c.args.bytes.now (view c.in_ok-value.value) c.if-bytes-gt-TEXT_BYTES.false c.in-Ok.ensures.cases.1 (ap read (sym c.in-Ok.ensures.cases.0) ∙ c.in_ok-value.ensures.ok))
    c.in-Err.ensures
