-- A list of at most six numbers as an array of six: the numbers, and zeros behind.
use Rattle.std.specs.Prelude.{◌≡◌, ℕ, ◌-◌, ◌≤◌, List, ◌++◌, length, drop, replicate}

abbrev pub padded : List ℕ → List ℕ
padded xs = xs ++ replicate (6 - length xs) 0

-- six numbers, of which those from `rank` on are 0
pub record IsPadded (rank : ℕ) (sizes : List ℕ) : Type 0 where
  pub six : length sizes ≡ 6
  pub short : rank ≤ 6
  pub zeros : drop rank sizes ≡ replicate (6 - rank) 0
