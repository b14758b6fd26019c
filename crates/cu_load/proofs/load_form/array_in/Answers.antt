use Rattle.std.proofs.Common.{◌≡◌, length, arith, rules}
use Rattle.serde_json.specs.View.{view}
use Rattle.cu_load.specs.LoadForm.{head_view}
use Rattle.cu_load.proofs.LoadLemmas.{other_count, refused_for_an_element, all_read}
use Rattle.cu_load.proofs.load_form.array_in.Goals as goal

pub returns-then-not-is_count_of-clause-code : goal.returns-then-not-is_count_of-clause-code
returns-then-not-is_count_of-clause-code c =
    let count : c.len.result ≡ length c.in-Some.items.now.items = omega arith in
    other_count (view c.args.value.now) (head_view c.in-Ok.head) c.in-Some.items.now.items c.len.result c.is_count_of.result c.in-Ok.ensures.head c.in-Some.ensures count c.is_count_of.ensures c.if-not-is_count_of.true

pub returns-in_err-elements-clause-code : goal.returns-in_err-elements-clause-code
returns-in_err-elements-clause-code c =
    let count : c.len.result ≡ length c.in-Some.items.now.items = omega arith in
    let refused = refused_for_an_element (view c.args.value.now) (head_view c.in-Ok.head) c.in-Some.items.now.items c.len.result c.is_count_of.result _ c.in-Ok.ensures.head c.in-Some.ensures count c.is_count_of.ensures c.if-not-is_count_of.false c.in_err-elements.ensures.code in
    search rules

pub returns-clause-ok : goal.returns-clause-ok
returns-clause-ok c =
    let count : c.len.result ≡ length c.in-Some.items.now.items = omega arith in
    all_read (view c.args.value.now) (head_view c.in-Ok.head) c.in-Some.items.now.items c.len.result c.is_count_of.result _ c.in-Ok.ensures.head c.in-Some.ensures count c.is_count_of.ensures c.if-not-is_count_of.false c.in_ok-elements.ensures.ok
