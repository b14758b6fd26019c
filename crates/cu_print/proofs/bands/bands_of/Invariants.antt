use Rattle.std.proofs.Common.{◌≡◌, ◌-◌, ◌*◌, ◌^◌, ◌<◌, ◌≤◌, length, All}
use Rattle.cu_num.specs.Dtype.{size_of}
use Rattle.cu_shape.specs.Index.{product}
use Rattle.cu_shape.specs.Counts.{at_least_one}
use Rattle.cu_print.specs.Reads.{band_sizes}
use Rattle.cu_print.proofs.BandAxes.{ChosenAxis}
use Rattle.cu_print.proofs.bands.bands_of.Given as goal

abbrev pub invariant-loop-axis : goal.invariant-loop-axis
invariant-loop-axis l = record {
  wide_rank : length l.wide ≡ length l.shape;
  wide_positive : All (λ n. 0 < n) l.wide;
  rank : length l.band ≡ length l.shape;
  positive : All (λ n. 0 < n) l.band;
  wide_is : l.wide ≡ band_sizes (l.axis - 1) (at_least_one l.layout.grid.shape) l.layout.grid.chunk;
  chosen : ChosenAxis l.layout (l.axis - 1) l.band;
  bytes : product l.band * size_of l.layout.dtype ≤ 2 ^ 28;
}
