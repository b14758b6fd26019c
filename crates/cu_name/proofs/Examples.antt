-- Names, and keys made of them.
use Rattle.std.proofs.Common.{◌≡◌, true, false, replicate, codes, refl}
use Rattle.std.specs.Fmt.{digits}
use Rattle.cu_name.specs.Name.{is_name}
use Rattle.cu_name.specs.Keys.{record_key_of, made_prefix_of}

name : is_name (codes "air-2024_v1.0") ≡ true
name = refl

longest : is_name (replicate 32 97) ≡ true
longest = refl

too_long : is_name (replicate 33 97) ≡ false
too_long = refl

empty : is_name (codes "") ≡ false
empty = refl

underscore_in_front : is_name (codes "_x") ≡ false
underscore_in_front = refl

slash : is_name (codes "a/b") ≡ false
slash = refl

record_of_y : record_key_of (codes "y") ≡ codes "_cubed/y/plan.json"
record_of_y = refl

made_of_y : made_prefix_of (codes "y") 12 ≡ codes "_cubed/y/12"
unfolding digits
made_of_y = refl
