use Rattle.std.proofs.Common.{◌≡◌}
use Rattle.serde_json.specs.View.{members_view}
use Rattle.cu_meta.specs.Members.{are_understood}
use Rattle.cu_meta.proofs.members.are_understood.Given as goal

-- what is left decides
abbrev pub invariant-loop-key : goal.invariant-loop-key
invariant-loop-key l = are_understood (members_view l.initial.key-iterator) ≡ are_understood (members_view l.key-iterator)
