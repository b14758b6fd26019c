-- Keys that are called for once, and again only where a call failed.
use Rattle.std.proofs.Common.{ℕ, ◌+◌, ◌≤◌, arith}
use Rattle.cu_store.specs.Steps.{Shown, Changes, Steps, OnceEach}

-- some keys, and then others
pub once_then : (j k : ℕ) (a b c : Shown) → OnceEach j a b → OnceEach k b c → OnceEach (j + k) a c
once_then j k a b c first next = omega (arith, first, next)

-- more keys
pub once_few : (j k : ℕ) (a b : Shown) → j ≤ k → OnceEach j a b → OnceEach k a b
once_few j k a b few once = omega (arith, few, once)

-- so many calls at most, whether one failed or not
pub once_step : {W : Changes} {l m : ℕ} {a b : Shown} → Steps W l m a b → OnceEach m a b
once_step step = omega (arith, step.calls, step.count)
