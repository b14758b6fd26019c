-- From what a list of steps that may have no value gives to what each step gave.
use Rattle.std.proofs.Common.{◌≡◌, ◌⊎◌, Bool, true, false, Option, Some, None, refl, inl, inr}
use Rattle.std.specs.Prelude.{⊤}
use Rattle.cu_result.specs.Options.{◌>>=◌, when}

-- a step and the rest gave values
pub step_some : {A B : Type 0} (o : Option A) (f : A → Option B) (y : B) → (o >>= f) ≡ Some y → (x : A) × (o ≡ Some x) × (f x ≡ Some y)
step_some (Some x) f y h = (x, refl, h)
step_some None f y h = cc

-- the step had none, or the rest
pub step_none : {A B : Type 0} (o : Option A) (f : A → Option B) → (o >>= f) ≡ None → (o ≡ None) ⊎ ((x : A) × (o ≡ Some x) × (f x ≡ None))
step_none (Some x) f h = inr (x, refl, h)
step_none None f h = inl refl

-- the test holds, and the rest gave a value
pub when_some : {B : Type 0} (b : Bool) (f : ⊤ → Option B) (y : B) → (when b >>= f) ≡ Some y → (b ≡ true) × (f tt ≡ Some y)
when_some true f y h = (refl, h)
when_some false f y h = cc

-- the test doesn't hold, or the rest had no value
pub when_none : {B : Type 0} (b : Bool) (f : ⊤ → Option B) → (when b >>= f) ≡ None → (b ≡ false) ⊎ ((b ≡ true) × (f tt ≡ None))
when_none true f h = inr (refl, h)
when_none false f h = inl refl
