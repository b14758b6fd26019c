use Rattle.cu_op.proofs.Singles.{one_map_sound, same_aligned, add_one_map, projection_few}
use Rattle.cu_op.proofs.laws.one_map_law.Goals as goal

pub returns : goal.returns
returns c = record {
  sound = one_map_sound;
  addition = add_one_map c.promotion_law.ensures.equal;
  aligned = same_aligned;
  room = projection_few;
}
