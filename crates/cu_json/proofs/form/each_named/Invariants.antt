use Rattle.std.proofs.Common.{◌≡◌}
use Rattle.serde_json.specs.View.{members_view}
use Rattle.cu_json.specs.Form.{each_named}
use Rattle.cu_json.proofs.form.each_named.Given as goal

-- what is left decides
abbrev pub invariant-loop-key : goal.invariant-loop-key
invariant-loop-key l = each_named l.name (members_view l.initial.key-iterator) ≡ each_named l.name (members_view l.key-iterator)
