-- A map with the maker of one of its inputs merged in: its elements are those of the map, and it fits.
use Rattle.std.proofs.Common.{◌≡◌, ◌≢◌, inl, inr, ℕ, ℤ, zero, suc, ◌+◌, ◌-◌, ◌<◌, ◌==◌, List, [], ◌∷◌, ◌++◌, All, length, map, take, drop, Option, Some, refl, ap, sym, ◌∙◌, subst, arith, if◌then◌else◌}
use Rattle.std.specs.List.{slice_get}
use Rattle.std.specs.Option.{option_and_then, option_map}
use Rattle.std.proofs.lemmas.Bool.Decides.{eqb_tells}
use Rattle.std.proofs.lemmas.List.{length-map, map-append}
use Rattle.std.proofs.lemmas.List.Elements.{All-append, All-take, All-drop}
use Rattle.std.proofs.lemmas.Option.{slice_get_within, slice_get-map}
use Rattle.cu_num.specs.declared.types.Dtype.{Dtype}
use Rattle.cu_shape.specs.Index.{IsInside, back, back_along}
use Rattle.cu_shape.proofs.Places.{inside-length}
use Rattle.cu_grid.specs.Grid.{RegularGrid}
use Rattle.cu_op.specs.declared.kernel.Instr.{Instr}
use Rattle.cu_op.specs.declared.kernel.Instr.TheVariants.{Load, Const, One, Two, Select}
use Rattle.cu_op.specs.declared.layout.ArrayInfo.{ArrayInfo}
use Rattle.cu_op.specs.Arrays.{grid_at, type_at}
use Rattle.cu_op.specs.Kernel.{last_of, instruction_value, results_from, kernel_value}
use Rattle.cu_op.specs.KernelTypes.{Operand, GivesOperand, KernelFits}
use Rattle.cu_op.specs.Aligned.{IsAligned}
use Rattle.cu_op.specs.Kind.Map.{MapFits, loaded}
use Rattle.cu_op.specs.Elements.{Elements}
use Rattle.cu_op.proofs.Alike.{same_then}
use Rattle.cu_fuse.specs.Splice.{put_in, input_behind, spliced}
use Rattle.cu_fuse.proofs.Splicing.{put_in_here, put_in_same, spliced_value, spliced_fits}

-- ---- a kernel that fits loads its inputs alone

within_value : (i : Instr) (types : List Dtype) (os : List Operand) (r : Operand) (load other : ℕ → Option ℤ) (results : List ℤ) → GivesOperand i types os r
    → ((k : ℕ) → k < length types → load k ≡ other k) → instruction_value i load results ≡ instruction_value i other results
within_value (Load k) types os r load other results (t, at, is) h = h k (slice_get_within types k t at)
within_value (Const x) types os r load other results gives h = refl
within_value (One f t a) types os r load other results gives h = refl
within_value (Two f t a b) types os r load other results gives h = refl
within_value (Select c a b) types os r load other results gives h = refl

within_results : (code : List Instr) (types : List Dtype) (os : List Operand) (t : Dtype) (load other : ℕ → Option ℤ) (results : List ℤ) → KernelFits code types os t
    → ((k : ℕ) → k < length types → load k ≡ other k) → results_from code load results ≡ results_from code other results
within_results [] types os t load other results fits h = refl
within_results (i ∷ is) types os t load other results (r, gives, fits) h =
    same_then (instruction_value i load results) (instruction_value i other results) (λ x. results_from is load (results ++ x ∷ [])) (λ x. results_from is other (results ++ x ∷ []))
    (within_value i types os r load other results gives h) (λ x. within_results is types (os ++ r ∷ []) t load other (results ++ x ∷ []) fits h)

pub within_kernel : (code : List Instr) (types : List Dtype) (t : Dtype) (load other : ℕ → Option ℤ) → KernelFits code types [] t
    → ((k : ℕ) → k < length types → load k ≡ other k) → kernel_value code load ≡ kernel_value code other
within_kernel code types t load other fits h = ap (option_and_then last_of) (within_results code types [] t load other [] fits h)

-- ---- reading back an array of the same sizes

back_along_same : (ns is : List ℕ) → IsInside ns is → back_along ns is ≡ is
back_along_same [] [] h = refl
back_along_same [] (i ∷ is) h = absurd h
back_along_same (n ∷ ns) [] h = absurd h
back_along_same (n ∷ ns) (i ∷ is) (first, rest) = both i (back_along ns is) is (head n i first) (back_along_same ns is rest)
  where
    head : (n i : ℕ) → i < n → (if n == 1 then 0 else i) ≡ i
    head n i h = elim (eqb_tells n 1) [ inl p ↦ rw p.0 (let one = p.1 in omega (arith, one)) | inr p ↦ rw p.0 refl ]

    both : (i : ℕ) (xs ys : List ℕ) {j : ℕ} → j ≡ i → xs ≡ ys → j ∷ xs ≡ i ∷ ys
    both i xs ys e r = cc

pub back_same : (shape idx : List ℕ) → IsInside shape idx → back shape idx ≡ idx
back_same shape idx h =
    let n = inside-length shape idx h in
    ap (λ k. back_along shape (drop k idx)) (let z : length idx - length shape ≡ 0 = omega (arith, n) in z) ∙ back_along_same shape idx h

-- ---- lists with others in place of an element

map_take : {A B : Type 0} (f : A → B) (n : ℕ) (xs : List A) → map f (take n xs) ≡ take n (map f xs)
map_take {A} {B} f zero xs = refl
map_take {A} {B} f (suc n) [] = refl
map_take {A} {B} f (suc n) (x ∷ xs) = ap (λ ys. f x ∷ ys) (map_take f n xs)

map_drop : {A B : Type 0} (f : A → B) (n : ℕ) (xs : List A) → map f (drop n xs) ≡ drop n (map f xs)
map_drop {A} {B} f zero xs = refl
map_drop {A} {B} f (suc n) [] = refl
map_drop {A} {B} f (suc n) (x ∷ xs) = map_drop f n xs

pub map_put_in : {A B : Type 0} (f : A → B) (j : ℕ) (ms xs : List A) → map f (put_in j ms xs) ≡ put_in j (map f ms) (map f xs)
map_put_in {A} {B} f j ms xs =
    map-append f (take j xs) (ms ++ drop (j + 1) xs)
    ∙ ap (λ l. l ++ map f (ms ++ drop (j + 1) xs)) (map_take f j xs)
    ∙ ap (λ l. take j (map f xs) ++ l) (map-append f ms (drop (j + 1) xs) ∙ ap (λ l. map f ms ++ l) (map_drop f (j + 1) xs))

pub all_put_in : {A : Type 0} (P : A → Type 0) (j : ℕ) (ms xs : List A) → All P ms → All P xs → All P (put_in j ms xs)
all_put_in {A} P j ms xs own others = All-append P (take j xs) (ms ++ drop (j + 1) xs) (All-take P j xs others) (All-append P ms (drop (j + 1) xs) own (All-drop P (j + 1) xs others))

-- ---- one merge

-- a map makes array `mid`, which is input number j of another, whose result has the same grid
pub record IsMerge (arrays : List ArrayInfo) (inner outer : List Instr) (inner_ins outer_ins : List ℕ) (mid out j : ℕ) : Type 0 where
  pub maker : MapFits arrays inner inner_ins mid
  pub reader : MapFits arrays outer outer_ins out
  pub input : slice_get outer_ins j ≡ Some mid
  pub grid : grid_at arrays mid ≡ grid_at arrays out

module _ (arrays : List ArrayInfo) (inner outer : List Instr) (inner_ins outer_ins : List ℕ) (mid out j : ℕ) (m : IsMerge arrays inner outer inner_ins outer_ins mid out j) where
  width_is : length (map (type_at arrays) inner_ins) ≡ length inner_ins
  width_is = length-map inner_ins (type_at arrays)

  -- its elements are those of the reader, where the array between has those that its maker gives it
  pub merged_value : (at : Elements) (idx : List ℕ) → IsInside (grid_at arrays out).shape idx → at mid idx ≡ kernel_value inner (loaded arrays inner_ins at idx)
      → kernel_value (spliced j (length inner_ins) inner outer) (loaded arrays (put_in j inner_ins outer_ins) at idx) ≡ kernel_value outer (loaded arrays outer_ins at idx)
  merged_value at idx inside made =
      let f : ℕ → Option ℤ = λ a. at a (back (grid_at arrays a).shape idx) in
      let load : ℕ → Option ℤ = loaded arrays (put_in j inner_ins outer_ins) at idx in
      let within : j < length outer_ins = slice_get_within outer_ins j mid m.input in
      let others : (k : ℕ) → k ≢ j → loaded arrays outer_ins at idx k ≡ load (input_behind j (length (map (type_at arrays) inner_ins)) k) =
      λ k other. ap (option_and_then f) (sym (put_in_same j k inner_ins outer_ins within other)) ∙ ap (λ w. load (input_behind j w k)) (sym (length-map inner_ins (type_at arrays))) in
      let same : IsInside (grid_at arrays mid).shape idx = subst (λ (g : RegularGrid). IsInside g.shape idx) (sym m.grid) inside in
      let own : loaded arrays outer_ins at idx j ≡ kernel_value inner (λ k. load (j + k)) =
      ap (option_and_then f) m.input ∙ ap (at mid) (back_same (grid_at arrays mid).shape idx same) ∙ made
      ∙ within_kernel inner (map (type_at arrays) inner_ins) (type_at arrays mid) (loaded arrays inner_ins at idx) (λ k. load (j + k)) m.maker.kernel
      (λ k b. ap (option_and_then f) (sym (put_in_here j k inner_ins outer_ins within (let w = length-map inner_ins (type_at arrays) in omega (arith, w, b))))) in
      ap (λ w. kernel_value (spliced j w inner outer) load) (sym (length-map inner_ins (type_at arrays)))
      ∙ spliced_value outer inner (map (type_at arrays) outer_ins) (map (type_at arrays) inner_ins) (type_at arrays out) (type_at arrays mid) j load (loaded arrays outer_ins at idx)
      m.reader.kernel m.maker.kernel others own

  -- and it fits
  pub merged_fits : MapFits arrays (spliced j (length inner_ins) inner outer) (put_in j inner_ins outer_ins) out
  merged_fits = record {
    inputs = all_put_in (λ a. IsAligned (grid_at arrays a) (grid_at arrays out)) j inner_ins outer_ins
        (subst (λ (g : RegularGrid). All (λ a. IsAligned (grid_at arrays a) g) inner_ins) m.grid m.maker.inputs) m.reader.inputs;
    kernel =
        let typed : slice_get (map (type_at arrays) outer_ins) j ≡ Some (type_at arrays mid) = slice_get-map (type_at arrays) outer_ins j ∙ ap (option_map (type_at arrays)) m.input in
        subst (λ (types : List Dtype). KernelFits (spliced j (length inner_ins) inner outer) types [] (type_at arrays out)) (sym (map_put_in (type_at arrays) j inner_ins outer_ins))
        (subst (λ (w : ℕ). KernelFits (spliced j w inner outer) (put_in j (map (type_at arrays) inner_ins) (map (type_at arrays) outer_ins)) [] (type_at arrays out)) (length-map inner_ins (type_at arrays))
        (spliced_fits outer inner (map (type_at arrays) outer_ins) (map (type_at arrays) inner_ins) (type_at arrays out) (type_at arrays mid) j m.reader.kernel m.maker.kernel typed));
  }
