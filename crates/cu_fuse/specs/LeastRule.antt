-- The least common multiple of two sizes, in other words.
use Rattle.std.specs.Prelude.{◌≡◌, ℕ, ◌*◌, ◌<◌, ◌≤◌}

-- it is a multiple of both, and no less one but 0 is
pub record IsLeastCommon (s t m : ℕ) : Type 0 where
  pub some : 0 < m
  pub first : (k : ℕ) × (m ≡ k * s)
  pub second : (k : ℕ) × (m ≡ k * t)
  pub least : (j k n : ℕ) → 0 < n → n ≡ j * s → n ≡ k * t → m ≤ n
