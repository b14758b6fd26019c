use Rattle.std.proofs.Common.{◌-◌}
use Rattle.std.specs.Prelude.{slice_index}
use Rattle.cu_task.proofs.merges.+read_parts.Given as goal

-- how many indices the region has on the axis
abbrev pub decreases-read_parts : goal.decreases-read_parts
decreases-read_parts g l = slice_index l.walk.now.region.hi l.axis - slice_index l.walk.now.region.lo l.axis
