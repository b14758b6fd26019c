-- The elements of arrays that are held element by element.
use Rattle.std.proofs.Common.{◌≡◌, ◌<◌, ◌≤◌, zero, suc, List, [], ◌∷◌, ℕ, length, Some, refl, arith}
use Rattle.std.specs.Prelude.{slice_get, get_or, pos}
use Rattle.cu_mean.specs.Plain.{PlainArray}
use Rattle.cu_mean.specs.Reading.{elements_in}
use Rattle.cu_mean.proofs.Found.{past}

-- the array of a number
pub found_below : (plains : List PlainArray) (n : ℕ) (p : PlainArray) → n < length plains → p ≡ get_or plains n p → slice_get plains n ≡ Some p
found_below [] n p lt e = absurd (omega arith)
found_below (q ∷ plains) zero p lt e = cc
found_below (q ∷ plains) (suc n) p lt e = found_below plains n p (omega arith) e

pub element_past : (plains : List PlainArray) (n : ℕ) (idx : List ℕ) → length plains ≤ n → pos 0 ≡ elements_in plains n idx
element_past plains n idx le = rw (past plains n le) refl
