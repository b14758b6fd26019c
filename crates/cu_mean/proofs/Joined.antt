-- Steps along arrays that stand one behind the other.
use Rattle.std.proofs.Common.{◌≡◌, ◌+◌, ◌-◌, ◌<◌, ◌≤◌, zero, suc, ℕ, List, [], ◌∷◌, true, false, length, drop, refl, arith}
use Rattle.std.specs.Prelude.{nat_lt, slice_index, slice_set}
use Rattle.cu_form.specs.declared.args.Arg.{Arg}
use Rattle.cu_node.specs.declared.info.NodeInfo.{NodeInfo}
use Rattle.cu_semantics.specs.Argument.{NodeElements, source_at, source_shape}
use Rattle.cu_semantics.specs.View.{concat_at}

-- the array holds the index
pub concat_here : (infos : List NodeInfo) (at : NodeElements) (axis : ℕ) (args : List Arg) (number : ℕ) (read : List ℕ) → number < length args
    → nat_lt (slice_index read axis) (slice_index (source_shape infos args number) axis) ≡ true → concat_at infos at axis (drop number args) read ≡ source_at at args number read
concat_here infos at axis [] number read lt h = absurd (omega arith)
concat_here infos at axis (arg ∷ args) zero read lt h = rw h refl
concat_here infos at axis (arg ∷ args) (suc number) read lt h = concat_here infos at axis args number read (omega arith) h

-- the index lies behind it
pub concat_on : (infos : List NodeInfo) (at : NodeElements) (axis : ℕ) (args : List Arg) (number : ℕ) (read : List ℕ) → number < length args
    → nat_lt (slice_index read axis) (slice_index (source_shape infos args number) axis) ≡ false
    → concat_at infos at axis (drop number args) read ≡ concat_at infos at axis (drop (number + 1) args) (slice_set read axis (slice_index read axis - slice_index (source_shape infos args number) axis))
concat_on infos at axis [] number read lt h = absurd (omega arith)
concat_on infos at axis (arg ∷ args) zero read lt h = rw h refl
concat_on infos at axis (arg ∷ args) (suc number) read lt h =
    let e : suc number + 1 ≡ suc (number + 1) = omega arith in
    rw e (concat_on infos at axis args number read (omega arith) h)

pub below : (a b : ℕ) → a < b → nat_lt a b ≡ true
below a b h = grind arith

pub not_below : (a b : ℕ) → b ≤ a → nat_lt a b ≡ false
not_below a b h = grind arith
