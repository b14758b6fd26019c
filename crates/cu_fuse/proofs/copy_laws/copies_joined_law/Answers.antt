use Rattle.cu_fuse.specs.Close.{setting_of}
use Rattle.cu_fuse.specs.Copies.{joined_copies}
use Rattle.cu_fuse.proofs.ClosedMade.{names_left}
use Rattle.cu_fuse.proofs.ClosedNames.{own_names}
use Rattle.cu_fuse.proofs.ClosedPlans.{closed_fewer, closed_is_sound, closed_within, first_kept, inputs_kept, made_name, output_layout, output_made, output_name, result_kept}
use Rattle.cu_fuse.proofs.JoinedCopies.{copies_left, few_joined, out_joined, within_joined}
use Rattle.cu_fuse.proofs.LeftArrays.{left_stored}
use Rattle.cu_fuse.proofs.copy_laws.copies_joined_law.Goals as goal

pub returns : goal.returns
returns c = record {
  stored = λ p all. left_stored p (joined_copies (setting_of p) p.ops) all;
  sound = λ p sound all names room. closed_is_sound p (joined_copies (setting_of p) p.ops) sound all names (copies_left p sound all room);
  fewer = λ p. closed_fewer p (joined_copies (setting_of p) p.ops) (few_joined (setting_of p) p.ops);
  needs = λ p k few h. closed_within p (joined_copies (setting_of p) p.ops) p.allowed (within_joined (setting_of p) p.ops few) k h;
  inputs = λ p n a sound names first h. inputs_kept p (joined_copies (setting_of p) p.ops) n first.few first.given first.alone a h;
  first = λ p n sound names first. first_kept p (joined_copies (setting_of p) p.ops) n first.few first.given first.alone;
  value = λ p n env idx sound all names room first inside. (
      let left = copies_left p sound all room in
      result_kept p (joined_copies (setting_of p) p.ops) n first.few first.given first.alone sound
      (closed_is_sound p (joined_copies (setting_of p) p.ops) sound all names left) left env idx inside
      );
  names = λ p sound names own. own_names p (joined_copies (setting_of p) p.ops) sound names own;
  name = λ p sound names. output_name p (joined_copies (setting_of p) p.ops) (out_joined p sound);
  layout = λ p sound names. output_layout p (joined_copies (setting_of p) p.ops) (out_joined p sound);
  output = λ p sound names. output_made p (joined_copies (setting_of p) p.ops) (out_joined p sound);
  made = λ p b sound names h m. made_name p (joined_copies (setting_of p) p.ops) sound names b h m;
  made_names = λ p sound names. names_left p (joined_copies (setting_of p) p.ops) (out_joined p sound) names;
}
