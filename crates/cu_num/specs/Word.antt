-- A number as a word of 64 bits, its two's complement: the form in which kernels keep numbers of every type (this project's rule).
use Rattle.std.specs.Prelude.{◌≡◌, ℕ, ℤ, pos}
use Rattle.cu_num.specs.Dtype.{InRange}
use Rattle.cu_num.specs.Wrap.{residue, wrapped}
use Rattle.cu_num.specs.declared.types.Dtype.{Dtype}

-- the word of a number: its residue modulo 2 ^ 64
unfoldable pub word_of : ℤ → ℕ
word_of x = residue 64 x

-- w is the word of x, which is a number of the type
unfoldable pub IsWord : Dtype → ℕ → ℤ → Type 0
IsWord t w x = (w ≡ word_of x) × InRange t x

-- the number of the type that a word wraps to
unfoldable pub number_of : Dtype → ℕ → ℤ
number_of t w = wrapped t (pos w)
