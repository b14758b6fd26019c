-- The words on lists of steps.
use Rattle.std.proofs.Common.{◌≡◌, ℕ, ◌+◌, Option, Some, None, Result, Ok, Err, refl}
use Rattle.std.specs.Prelude.{nat_lt}
use Rattle.cu_result.specs.Results.{◌>>=◌, check, need}

-- a number below 5 where it is there, and one more: fault 1 where it isn't there, 2 where it is too large
abbrev one_more : Option ℕ → Result ℕ ℕ
one_more o = do
  n ← need o 1
  _ ← check (nat_lt n 5) 2
  Ok (n + 1)

all_pass : one_more (Some 4) ≡ Ok 5
all_pass = refl

not_there : one_more None ≡ Err 1
not_there = refl

too_large : one_more (Some 5) ≡ Err 2
too_large = refl
