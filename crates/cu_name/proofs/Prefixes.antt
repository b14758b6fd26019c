-- How long the prefix of a made array is.
use Rattle.std.proofs.Common.{ℕ, ◌<◌, ◌≤◌, List, length, arith}
use Rattle.std.proofs.lemmas.Fmt.{length-decimal-le}
use Rattle.std.proofs.lemmas.List.{length-append}
use Rattle.cu_name.specs.Keys.{made_prefix_of}

-- a number below 100,000 has at most five digits
pub length-made_prefix_of : (name : List ℕ) (k : ℕ) → length name ≤ 32 → k < 100000 → length (made_prefix_of name k) ≤ 45
length-made_prefix_of name k short small =
    let digits = length-decimal-le 5 k (omega arith) (omega arith) (omega arith) in
    simp length-append (omega arith)
