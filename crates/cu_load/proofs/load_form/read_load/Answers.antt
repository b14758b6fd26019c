use Rattle.std.proofs.Common.{ap, sym, ◌∙◌, arith, rules}
use Rattle.serde_json.specs.Read.{read}
use Rattle.serde_json.specs.View.{view}
use Rattle.cu_load.proofs.LoadLemmas.{load_too_long, load_no_text, load_value, refused_for_no_value, answered_ok, answered_code, given}
use Rattle.cu_load.proofs.load_form.read_load.Goals as goal

pub returns-then-text-gt-TEXT_BYTES-clause-code : goal.returns-then-text-gt-TEXT_BYTES-clause-code
returns-then-text-gt-TEXT_BYTES-clause-code c = load_too_long c.args.text.now (omega arith)

pub returns-in_default-clause-code : goal.returns-in_default-clause-code
returns-in_default-clause-code c = load_no_text c.args.text.now c.if-text-gt-TEXT_BYTES.false c.in_default.ensures.cases.0

pub returns-in_err-value-clause-code : goal.returns-in_err-value-clause-code
returns-in_err-value-clause-code c =
    let refused = refused_for_no_value c.args.text.now _ _ c.if-text-gt-TEXT_BYTES.false c.in-Ok.ensures.cases.1 c.in-Ok.ensures.cases.0 c.in_err-value.ensures.code in
    search rules

answered : goal.returns-clause-ok
answered c = answered_ok c.args.text.now (view c.in_ok-value.value) c.array_in.result
    (load_value c.args.text.now (view c.in_ok-value.value) c.if-text-gt-TEXT_BYTES.false c.in-Ok.ensures.cases.1 (ap read (sym c.in-Ok.ensures.cases.0) ∙ c.in_ok-value.ensures.ok)) c.array_in.ensures.ok

pub returns-clause-ok : goal.returns-clause-ok
returns-clause-ok c = answered c

pub returns-clause-code : goal.returns-clause-code
returns-clause-code c = answered_code c.args.text.now (view c.in_ok-value.value) c.array_in.result
    (load_value c.args.text.now (view c.in_ok-value.value) c.if-text-gt-TEXT_BYTES.false c.in-Ok.ensures.cases.1 (ap read (sym c.in-Ok.ensures.cases.0) ∙ c.in_ok-value.ensures.ok)) c.array_in.ensures.code

pub returns-clause-given : goal.returns-clause-given
returns-clause-given c = given c.args.text.now c.array_in.result (answered c)
