use Rattle.std.proofs.Common.{length, ap}
use Rattle.cu_json.proofs.Counted.{list_counted}
use Rattle.cu_json.proofs.form.is_list_of.Goals as goal

pub returns-in-Some : goal.returns-in-Some
returns-in-Some c = list_counted _ c.in-Some.items.now.items _ _ c.in-Some.ensures (ap length c.as_slice.ensures.value)
