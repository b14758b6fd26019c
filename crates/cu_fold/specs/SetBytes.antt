-- Bytes that are not 0.
use Rattle.std.specs.Prelude.{ℕ, ◌==◌, Bool, not}

abbrev pub is_set : ℕ → Bool
is_set byte = not (byte == 0)
