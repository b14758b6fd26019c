use Rattle.std.proofs.Common.{length}
use Rattle.test_rows.proofs.regions.+is_region.Given as goal

abbrev pub decreases-is_region : goal.decreases-is_region
decreases-is_region l = length l.shape.now
