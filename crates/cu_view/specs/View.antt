-- What each call on a view wants. This project's own rules.
use Rattle.std.specs.Prelude.{ℕ, ◌^◌, ◌<◌, ◌≤◌, List, All, length}
use Rattle.cu_shape.specs.Counts.{at_least_one}
use Rattle.cu_shape.specs.Index.{product}
use Rattle.cu_origin.specs.Fits.{FitsPull}
use Rattle.cu_origin.specs.declared.pull.Pull.{Pull}

-- at most 2^56 elements, an axis of size 0 counting as one
abbrev pub HasFewElements : List ℕ → Type 0
HasFewElements sizes = product (at_least_one sizes) ≤ 2 ^ 56

-- a view that fits its sources and its result, which are arrays of a plan
pub record IsView (pull : Pull) (sources : List (List ℕ)) (shape : List ℕ) : Type 0 where
  pub fits : FitsPull pull sources shape
  pub few : length sources < 2 ^ 32
  pub source_sizes : All HasFewElements sources
  pub result_size : HasFewElements shape
