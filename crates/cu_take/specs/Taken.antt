-- Elements that are taken one after another into results that stand in a buffer.
use Rattle.std.specs.Prelude.{ℕ, ◌+◌, ◌*◌, ◌<◌, ◌≤◌, ◌⊎◌, ℤ, List, map}
use Rattle.std.specs.List.{range_with_len}
use Rattle.cu_num.specs.Dtype.{InRange}
use Rattle.cu_num.specs.Element.{element_at}
use Rattle.cu_num.specs.declared.types.Dtype.{Dtype}
use Rattle.cu_num.specs.declared.layout.Endian.TheVariants.{Little}
use Rattle.cu_num.specs.declared.folds.FoldKind.{FoldKind}
use Rattle.cu_reduce.specs.Running.{running}
use Rattle.cu_reduce.specs.Numbers.{HasNumber}

-- the elements at these places
abbrev pub elements_at_places : Dtype → List ℕ → List ℕ → List ℤ
elements_at_places t bytes places = map (λ p. element_at Little t bytes p) places

-- of so many rows of `width` elements, from a place on, the places of the elements at place j
abbrev pub column_places : ℕ → ℕ → ℕ → ℕ → List ℕ
column_places place width count j = map (λ k. place + k * width + j) (range_with_len 0 count)

-- a place in front of so many, or behind them
abbrev pub IsOutside : ℕ → ℕ → ℕ → Type 0
IsOutside first end p = (p < first) ⊎ (end ≤ p)

-- result q has taken these numbers
pub record HasTaken (kind : FoldKind) (acc : Dtype) (old new : List ℕ) (q : ℕ) (xs : List ℤ) : Type 0 where
  pub number : (x : ℤ) → InRange acc x → HasNumber acc old q x → HasNumber acc new q (running kind acc x xs)
