use Rattle.std.proofs.Common.{◌≡◌}
use Rattle.serde_json.specs.View.{members_view}
use Rattle.cu_json.specs.Form.{each_member}
use Rattle.cu_meta.specs.Part.{is_part_member}
use Rattle.cu_meta.proofs.part.are_part_members.Given as goal

-- what is left decides
abbrev pub invariant-loop-key : goal.invariant-loop-key
invariant-loop-key l = each_member is_part_member (members_view l.initial.key-iterator) ≡ each_member is_part_member (members_view l.key-iterator)
