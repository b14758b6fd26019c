-- The best of elements that follow one another.
use Rattle.std.specs.Prelude.{◌≡◌, ℕ, ◌<◌, ◌≤◌, ℤ, Bool, true, false, List}
use Rattle.cu_num.specs.Element.{element_at}
use Rattle.cu_num.specs.declared.types.Dtype.{Dtype}
use Rattle.cu_num.specs.declared.layout.Endian.TheVariants.{Little}
use Rattle.cu_reduce.specs.Places.{is_beyond}

-- one of the first `count` numbers is `best`, and none is beyond it
pub record IsBestValue (least : Bool) (f : ℕ → ℤ) (count : ℕ) (best : ℤ) : Type 0 where
  pub number : ℕ
  pub within : number < count
  pub is : f number ≡ best
  pub none : (j : ℕ) → j < count → is_beyond least (f j) best ≡ false

-- the answer tells whether one of the first `count` numbers is beyond x
abbrev pub TellsBeyond : Bool → Bool → (ℕ → ℤ) → ℕ → ℤ → Type 0
TellsBeyond true least f count x = (k : ℕ) × (k < count) × (is_beyond least (f k) x ≡ true)
TellsBeyond false least f count x = (j : ℕ) → j < count → is_beyond least (f j) x ≡ false

-- of the first `count` numbers, number k is the first best: none is beyond it, and it is beyond each that stands before it
pub record IsFirstBest (least : Bool) (f : ℕ → ℤ) (count k : ℕ) : Type 0 where
  pub within : k < count
  pub none : (j : ℕ) → j < count → is_beyond least (f j) (f k) ≡ false
  pub first : (j : ℕ) → j < k → is_beyond least (f k) (f j) ≡ true

abbrev pub elements : Dtype → List ℕ → ℕ → ℤ
elements t bytes k = element_at Little t bytes k

-- of the first `count` numbers, `best` is the best value, one of those from `start` on is it, and it is beyond each before `start`
pub record IsLeading (least : Bool) (f : ℕ → ℤ) (count start : ℕ) (best : ℤ) : Type 0 where
  pub number : ℕ
  pub after : start ≤ number
  pub within : number < count
  pub is : f number ≡ best
  pub none : (j : ℕ) → j < count → is_beyond least (f j) best ≡ false
  pub before : (j : ℕ) → j < start → is_beyond least best (f j) ≡ true
