use Rattle.cu_json.proofs.Counted.{object_counted}
use Rattle.cu_json.proofs.form.is_object_of.Goals as goal

pub returns-in-Some : goal.returns-in-Some
returns-in-Some c = object_counted _ c.in-Some.members.now.entries _ _ c.in-Some.ensures c.len.ensures.len
