use Rattle.std.proofs.Common.{false, true}
use Rattle.cu_fuse.specs.Close.{setting_by}
use Rattle.cu_fuse.specs.Fused.{fused_ops}
use Rattle.cu_fuse.proofs.ClosedCounts.{out_stays}
use Rattle.cu_fuse.proofs.ClosedMade.{names_left}
use Rattle.cu_fuse.proofs.copy_laws.made_names_law.Goals as goal

pub returns : goal.returns
returns c = record {
  fused = λ p sound names room. names_left p (fused_ops (setting_by false p) p.ops) (out_stays false p sound room) names;
  loading_once = λ p sound names room. names_left p (fused_ops (setting_by true p) p.ops) (out_stays true p sound room) names;
}
