-- The region that is a whole array.
use Rattle.std.proofs.Common.{◌≡◌, ℕ, ◌-◌, List, [], ◌∷◌, ap, ◌∙◌, sym, refl, arith}
use Rattle.cu_num.specs.Dtype.{size_of}
use Rattle.cu_num.specs.declared.layout.Endian.TheVariants.{Little}
use Rattle.cu_shape.specs.Index.{place_of, differences, IsInside}
use Rattle.cu_grid.specs.Counts.{IsRegion, IsWithin}
use Rattle.cu_codec.specs.Parts.{part, part_at, place_within, IsPartTaken}
use Rattle.cu_op.specs.declared.layout.Layout.{Layout}
use Rattle.cu_check.specs.Chunks.{IsPlaced}

cons : (x y : ℕ) (xs ys : List ℕ) → x ≡ y → xs ≡ ys → x ∷ xs ≡ y ∷ ys
cons x y xs ys p q = cc

pub is_region : (ns : List ℕ) → IsRegion ns (differences ns ns) ns
is_region [] = tt
is_region (n ∷ ns) = (omega arith, omega arith, is_region ns)

pub whole_sizes : (ns : List ℕ) → differences ns (differences ns ns) ≡ ns
whole_sizes [] = refl
whole_sizes (n ∷ ns) = cons (n - (n - n)) n (differences ns (differences ns ns)) ns (omega arith) (whole_sizes ns)

whole_within : (ns is : List ℕ) → IsInside ns is → IsWithin (differences ns ns) ns is
whole_within [] [] inside = tt
whole_within [] (i ∷ is) inside = absurd inside
whole_within (n ∷ ns) [] inside = absurd inside
whole_within (n ∷ ns) (i ∷ is) inside = (omega arith, inside.0, whole_within ns is inside.1)

whole_index : (ns is : List ℕ) → IsInside ns is → differences is (differences ns ns) ≡ is
whole_index [] [] inside = refl
whole_index [] (i ∷ is) inside = absurd inside
whole_index (n ∷ ns) [] inside = absurd inside
whole_index (n ∷ ns) (i ∷ is) inside = cons (i - (n - n)) i (differences is (differences ns ns)) is (omega arith) (whole_index ns is inside.1)

whole_place : (ns is : List ℕ) → IsInside ns is → place_within (differences ns ns) ns is ≡ place_of ns is
whole_place ns is inside = ap (λ ds. place_of ds (differences is (differences ns ns))) (whole_sizes ns) ∙ ap (place_of ns) (whole_index ns is inside)

-- a part of the whole array is placed in it
pub is_placed : (l : Layout) (coord chunk old new : List ℕ) → IsPartTaken (size_of l.dtype) Little (part l.grid coord (differences l.grid.shape l.grid.shape) l.grid.shape) chunk old new
    → IsPlaced l coord chunk old new
is_placed l coord chunk old new took = record {
  own = λ idx inside here. ap (part_at (size_of l.dtype) new) (sym (whole_place l.grid.shape idx inside)) ∙ took.taken idx (whole_within l.grid.shape idx inside) here;
  others = λ idx inside apart. ap (part_at (size_of l.dtype) new) (sym (whole_place l.grid.shape idx inside)) ∙ took.others idx (whole_within l.grid.shape idx inside) apart
      ∙ ap (part_at (size_of l.dtype) old) (whole_place l.grid.shape idx inside);
}
