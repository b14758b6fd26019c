-- The definitions on worked examples.
use Rattle.std.proofs.Common.{◌≡◌, [], ◌∷◌, refl}
use Rattle.cu_rechunk.specs.Stages.{write_sizes, read_sizes, middle_sizes, greater_bytes}

-- 512 times 512 elements of 4 bytes, from chunks of [512,64] to [64,512], with 500,000 bytes: room for 125,000 elements
write : write_sizes (512 ∷ 512 ∷ []) (64 ∷ 512 ∷ []) 125000 ≡ 192 ∷ 512 ∷ []
write = refl

read : read_sizes (512 ∷ 512 ∷ []) (512 ∷ 64 ∷ []) (64 ∷ 512 ∷ []) 125000 ≡ 512 ∷ 192 ∷ []
read = refl

middle : middle_sizes (512 ∷ 512 ∷ []) (512 ∷ 64 ∷ []) (64 ∷ 512 ∷ []) 125000 ≡ 192 ∷ 192 ∷ []
middle = refl

-- 7 elements of 2 bytes, from chunks of 5 to 3, with 10 bytes: what is read becomes a multiple of what is written
tight_write : write_sizes (7 ∷ []) (3 ∷ []) 5 ≡ 3 ∷ []
tight_write = refl

tight_read : read_sizes (7 ∷ []) (5 ∷ []) (3 ∷ []) 5 ≡ 3 ∷ []
tight_read = refl

tight_middle : middle_sizes (7 ∷ []) (5 ∷ []) (3 ∷ []) 5 ≡ 3 ∷ []
tight_middle = refl

-- the source's chunk has more than 9 bytes
tight_bytes : greater_bytes (5 ∷ []) (3 ∷ []) 2 ≡ 10
tight_bytes = refl
