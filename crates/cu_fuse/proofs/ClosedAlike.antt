-- What is left closes up alike, whether maps load an array once or need not.
use Rattle.std.proofs.Common.{◌≡◌, ℕ, Bool, List, [], ◌∷◌, map, Option, Some, None, refl, ap, ◌∙◌}
use Rattle.cu_op.specs.declared.layout.ArrayInfo.{ArrayInfo}
use Rattle.cu_op.specs.declared.operation.Planned.{Planned}
use Rattle.cu_op.specs.Arrays.{maker_at}
use Rattle.cu_op.specs.PlanView.{PlanView}
use Rattle.cu_fuse.specs.Close.{closed, count_behind, new_number, remaining_array, remaining_arrays, remaining_numbers, renumbered_planned, setting_by, setting_of}

module _ (once : Bool) (p : PlanView) (ops : List Planned) where
  same_array : (k a : ℕ) (m : Option ℕ)
      → remaining_array (setting_by once p) ops k a m ≡ remaining_array (setting_of p) ops k a m
  same_array k a None = refl
  same_array k a (Some n) = refl

  same_count : (k a : ℕ) (m : Option ℕ) → count_behind (setting_by once p) k a m
      ≡ count_behind (setting_of p) k a m
  same_count k a None = refl
  same_count k a (Some n) = refl

  same_arrays : (k : ℕ) (numbers : List ℕ)
      → remaining_arrays (setting_by once p) ops k numbers
      ≡ remaining_arrays (setting_of p) ops k numbers
  same_arrays k [] = refl
  same_arrays k (a ∷ rest) =
      let m = maker_at p.arrays a in
      ap (λ (x : ArrayInfo). x ∷ remaining_arrays (setting_by once p) ops
      (count_behind (setting_by once p) k a m) rest) (same_array k a m)
      ∙ ap (λ (n : ℕ). remaining_array (setting_of p) ops k a m ∷ remaining_arrays
      (setting_by once p) ops n rest) (same_count k a m)
      ∙ ap (λ (l : List ArrayInfo). remaining_array (setting_of p) ops k a m ∷ l)
      (same_arrays (count_behind (setting_of p) k a m) rest)

  pub closed_alike : closed (setting_by once p) ops ≡ closed (setting_of p) ops
  closed_alike = λ i. record {
    arrays = same_arrays 0 (remaining_numbers p.arrays ops) i;
    ops = map (renumbered_planned (new_number (setting_of p) ops)) ops;
    out = new_number (setting_of p) ops p.out;
    allowed = p.allowed;
    reserved = p.reserved;
  }
