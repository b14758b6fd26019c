-- What is made of all words of a slice (Python array API, statistical and searching functions).
use Rattle.std.specs.Prelude.{◌≡◌, ℕ, ◌*◌, ◌<◌, ◌≤◌, ◌≤ℤ◌, ◌<ℤ◌, ℤ, List}
use Rattle.std.specs.Prelude.{Bool as Test, true, false}
use Rattle.std.specs.List.{fold}

-- the product of the numbers, 1 of none
abbrev pub product_of_words : List ℕ → ℕ
product_of_words xs = fold (λ a x. a * x) 1 xs

-- y is as good as x at least, and y is better: less, or greater
abbrev pub IsAsGood : Test → ℤ → ℤ → Type 0
IsAsGood true y x = y ≤ℤ x
IsAsGood false y x = x ≤ℤ y

abbrev pub IsBetter : Test → ℤ → ℤ → Type 0
IsBetter true y x = y <ℤ x
IsBetter false y x = x <ℤ y

-- of the first `count` numbers none is better than number p, and those before it aren't as good
pub record IsFirstPlace (least : Test) (xs : ℕ → ℤ) (count p : ℕ) : Type 0 where
  pub inside : p < count
  pub best : (k : ℕ) → k < count → IsAsGood least (xs p) (xs k)
  pub first : (k : ℕ) → k < p → IsBetter least (xs p) (xs k)

-- of the first `count` ranks one is r, and none is lower
pub record IsLowest (ranks : ℕ → ℕ) (count r : ℕ) : Type 0 where
  pub number : ℕ
  pub inside : number < count
  pub is : ranks number ≡ r
  pub lowest : (k : ℕ) → k < count → r ≤ ranks k

-- of the first `count` ranks none is lower than number p, and those before it are higher
pub record IsFirstLowest (ranks : ℕ → ℕ) (count p : ℕ) : Type 0 where
  pub inside : p < count
  pub lowest : (k : ℕ) → k < count → ranks p ≤ ranks k
  pub first : (k : ℕ) → k < p → ranks p < ranks k
