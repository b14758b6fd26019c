use Rattle.std.proofs.Common.{◌≡◌, ◌-◌, map}
use Rattle.std.specs.List.{range_with_len}
use Rattle.cu_shape.specs.Index.{index_at}
use Rattle.cu_mean.specs.Reading.{named_element}
use Rattle.cu_mean.specs.Reductions.{kept_of, elements_along}
use Rattle.cu_mean.proofs.reductions.reduced.Given as goal

abbrev pub invariant-loop-place : goal.invariant-loop-place
invariant-loop-place l = l.kept ≡ kept_of l.kind l.t (elements_along (named_element l.arrays 0) l.start (map (index_at l.sizes) (range_with_len l.place (l.count - l.place))))
