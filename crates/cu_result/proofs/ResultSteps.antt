-- From what a list of steps answers to what each step did.
use Rattle.std.proofs.Common.{◌≡◌, ◌⊎◌, Bool, true, false, Option, Some, None, Result, Ok, Err, refl, ap, inl, inr}
use Rattle.std.specs.Prelude.{⊤}
use Rattle.cu_result.specs.Results.{◌>>=◌, check, need}

-- a step and the rest: both passed
pub step_ok : {A B E : Type 0} (r : Result A E) (f : A → Result B E) (y : B) → (r >>= f) ≡ Ok y → (x : A) × (r ≡ Ok x) × (f x ≡ Ok y)
step_ok (Ok x) f y h = (x, refl, h)
step_ok (Err e) f y h = cc

-- the fault is the step's, or that of the rest
pub step_err : {A B E : Type 0} (r : Result A E) (f : A → Result B E) (e : E) → (r >>= f) ≡ Err e → (r ≡ Err e) ⊎ ((x : A) × (r ≡ Ok x) × (f x ≡ Err e))
step_err (Ok x) f e h = inr (x, refl, h)
step_err (Err e') f e h = inl (let same : e' ≡ e = cc in ap Err same)

-- a check that passed holds
pub check_ok : {E : Type 0} (b : Bool) (e : E) (t : ⊤) → check b e ≡ Ok t → b ≡ true
check_ok true e t h = refl
check_ok false e t h = cc

-- a check that failed doesn't hold, and its fault is the one given
pub check_err : {E : Type 0} (b : Bool) (e e' : E) → check b e ≡ Err e' → (b ≡ false) × (e ≡ e')
check_err true e e' h = cc
check_err false e e' h = (refl, cc)

-- a check and the rest passed
pub check_step_ok : {B E : Type 0} (b : Bool) (e : E) (f : ⊤ → Result B E) (y : B) → (check b e >>= f) ≡ Ok y → (b ≡ true) × (f tt ≡ Ok y)
check_step_ok true e f y h = (refl, h)
check_step_ok false e f y h = cc

-- the fault is the check's, or that of the rest
pub check_step_err : {B E : Type 0} (b : Bool) (e e' : E) (f : ⊤ → Result B E) → (check b e >>= f) ≡ Err e' → ((b ≡ false) × (e ≡ e')) ⊎ ((b ≡ true) × (f tt ≡ Err e'))
check_step_err true e e' f h = inr (refl, h)
check_step_err false e e' f h = inl (refl, cc)

-- what was needed was there
pub need_ok : {A E : Type 0} (o : Option A) (e : E) (x : A) → need o e ≡ Ok x → o ≡ Some x
need_ok (Some y) e x h = cc
need_ok None e x h = cc

-- what was needed was not there
pub need_err : {A E : Type 0} (o : Option A) (e e' : E) → need o e ≡ Err e' → (o ≡ None) × (e ≡ e')
need_err (Some y) e e' h = cc
need_err None e e' h = (refl, cc)

-- what was needed was there, and the rest passed
pub need_step_ok : {A B E : Type 0} (o : Option A) (e : E) (f : A → Result B E) (y : B) → (need o e >>= f) ≡ Ok y → (x : A) × (o ≡ Some x) × (f x ≡ Ok y)
need_step_ok (Some x) e f y h = (x, refl, h)
need_step_ok None e f y h = cc

-- what was needed was not there, or the fault is that of the rest
pub need_step_err : {A B E : Type 0} (o : Option A) (e e' : E) (f : A → Result B E) → (need o e >>= f) ≡ Err e' → ((o ≡ None) × (e ≡ e')) ⊎ ((x : A) × (o ≡ Some x) × (f x ≡ Err e'))
need_step_err (Some x) e e' f h = inr (x, refl, h)
need_step_err None e e' f h = inl (refl, cc)

-- two steps whose rests are the same
pub same_rest : {A B E : Type 0} (m : Result A E) (f g : A → Result B E) → ((x : A) → f x ≡ g x) → (m >>= f) ≡ (m >>= g)
same_rest (Ok x) f g h = h x
same_rest (Err e) f g h = refl

-- a step within a step
pub within_step : {A B C E : Type 0} (m : Result A E) (f : A → Result B E) (k : B → Result C E) (g : A → Result C E) → ((x : A) → (f x >>= k) ≡ g x) → ((m >>= f) >>= k) ≡ (m >>= g)
within_step (Ok x) f k g h = h x
within_step (Err e) f k g h = refl
