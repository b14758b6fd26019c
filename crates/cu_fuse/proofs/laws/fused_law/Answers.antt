use Rattle.std.proofs.Common.{false}
use Rattle.cu_fuse.specs.Close.{setting_of}
use Rattle.cu_fuse.specs.Fused.{fused_ops}
use Rattle.cu_fuse.proofs.ClosedCounts.{out_stays}
use Rattle.cu_fuse.proofs.ClosedNames.{own_names}
use Rattle.cu_fuse.proofs.ClosedPlans.{closed_is_sound, first_kept, inputs_kept, made_name, output_layout, output_made, output_name, result_kept}
use Rattle.cu_fuse.proofs.LeftArrays.{left_stored}
use Rattle.cu_fuse.proofs.FusedPlans.{fused_fewer, fused_left, fused_within}
use Rattle.cu_fuse.proofs.laws.fused_law.Goals as goal

pub returns : goal.returns
returns c = record {
  stored = λ p all. left_stored p (fused_ops (setting_of p) p.ops) all;
  sound = λ p sound all names room. closed_is_sound p (fused_ops (setting_of p) p.ops) sound all names (fused_left false p sound all room);
  needs = λ p k room few h. fused_within p room few k h;
  inputs = λ p n a sound names room first h. inputs_kept p (fused_ops (setting_of p) p.ops) n first.few first.given first.alone a h;
  first = λ p n sound names room first. first_kept p (fused_ops (setting_of p) p.ops) n first.few first.given first.alone;
  fewer = λ p room. fused_fewer false p room;
  value = λ p n env idx sound all names room first inside. (
      let left = fused_left false p sound all room in
      result_kept p (fused_ops (setting_of p) p.ops) n first.few first.given first.alone sound
      (closed_is_sound p (fused_ops (setting_of p) p.ops) sound all names left) left env idx inside
      );
  names = λ p sound names room own. own_names p (fused_ops (setting_of p) p.ops) sound names own;
  name = λ p sound names room. output_name p (fused_ops (setting_of p) p.ops) (out_stays false p sound room);
  layout = λ p sound names room. output_layout p (fused_ops (setting_of p) p.ops) (out_stays false p sound room);
  output = λ p sound names room. output_made p (fused_ops (setting_of p) p.ops) (out_stays false p sound room);
  made = λ p b sound names room h m. made_name p (fused_ops (setting_of p) p.ops) sound names b h m;
}
