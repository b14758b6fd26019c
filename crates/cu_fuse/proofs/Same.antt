-- An operation that does what another does over the same arrays; a map with one load of each array
-- is one.
use Rattle.std.proofs.Common.{◌≡◌, ℕ, ℤ, ◌<◌, ◌≤◌, Bool, true, false, List, [], ◌∷◌, ◌++◌, All, Contains, length, map, Option, Some, get_or, refl, ap, sym, ◌∙◌, subst, arith}
use Rattle.std.specs.List.{slice_get}
use Rattle.std.specs.Option.{option_and_then, option_map}
use Rattle.std.proofs.lemmas.List.{length-map}
use Rattle.std.proofs.lemmas.List.Elements.{All-append, All-contains, All-contains_itself, All-weaker, Contains-append_left, Contains-append_right}
use Rattle.std.proofs.lemmas.Option.{slice_get-get_or, slice_get-map, slice_get_within}
use Rattle.cu_num.specs.declared.types.Dtype.{Dtype}
use Rattle.cu_shape.specs.Counts.{largest}
use Rattle.cu_shape.specs.Index.{back}
use Rattle.cu_op.specs.declared.kernel.Instr.{Instr}
use Rattle.cu_op.specs.declared.kernel.Instr.TheVariants.{Load, Const, One, Two, Select}
use Rattle.cu_op.specs.declared.layout.ArrayInfo.{ArrayInfo}
use Rattle.cu_op.specs.declared.operation.Op.{Op}
use Rattle.cu_op.specs.Aligned.{IsAligned}
use Rattle.cu_op.specs.Arrays.{chunk_room, grid_at, type_at}
use Rattle.cu_op.specs.Cells.{tasks_of}
use Rattle.cu_op.specs.Elements.{Elements}
use Rattle.cu_op.specs.Kernel.{instruction_value, kernel_value, last_of, results_from}
use Rattle.cu_op.specs.KernelTypes.{GivesOperand, KernelFits, Operand}
use Rattle.cu_op.specs.Kind.Map.{MapFits, loaded, map_of}
use Rattle.cu_op.specs.Numbers.{number_in}
use Rattle.cu_op.specs.Operation.{Fits, reads_of, target_of, writes_of}
use Rattle.cu_op.specs.Projection.{HasSmallRegions, own_projection}
use Rattle.cu_op.specs.Value.{rule}
use Rattle.cu_op.proofs.Alike.{same_then}
use Rattle.cu_fuse.specs.Once.{distinct, loaded_by, loading_once, one_load, over_distinct}
use Rattle.cu_fuse.proofs.ByKernel.{by_kernel}
use Rattle.cu_fuse.proofs.Distinct.{all_distinct, at_place, distinct_stands, distinct_within, largest_within, stands, sum_distinct, within_largest}
use Rattle.cu_fuse.proofs.LoadedOnce.{no_kernel_stays}
use Rattle.cu_fuse.proofs.LoadingOnce.{fewer_steps, once_fits, once_value}

-- ---- a kernel over each of its inputs once

module _ (ins : List ℕ) where
  -- the new number of an input
  abbrev number : ℕ → ℕ
  number k = number_in (distinct ins) (get_or ins k 0)

  pub same_input : (k : ℕ) → k < length ins → slice_get (distinct ins) (number k) ≡ slice_get ins k
  same_input k h =
      let is = slice_get-get_or ins k 0 h in
      at_place (distinct ins) (get_or ins k 0)
      (distinct_stands ins (get_or ins k 0) ∙ stands ins (get_or ins k 0) k is) ∙ sym is

  same_instruction : (i : Instr) (types : List Dtype) (os : List Operand) (r : Operand)
      (load once : ℕ → Option ℤ) (results : List ℤ)
      → GivesOperand i types os r → ((k : ℕ) → k < length types → load k ≡ once (number k))
      → instruction_value (over_distinct ins i) once results ≡ instruction_value i load results
  same_instruction (Load k) types os r load once results (t, at, is) h =
      sym (h k (slice_get_within types k t at))
  same_instruction (Const x) types os r load once results gives h = refl
  same_instruction (One f t a) types os r load once results gives h = refl
  same_instruction (Two f t a b) types os r load once results gives h = refl
  same_instruction (Select c a b) types os r load once results gives h = refl

  over_results : (code : List Instr) (types : List Dtype) (os : List Operand) (t : Dtype)
      (load once : ℕ → Option ℤ) (results : List ℤ)
      → KernelFits code types os t → ((k : ℕ) → k < length types → load k ≡ once (number k))
      → results_from (map (over_distinct ins) code) once results ≡ results_from code load results
  over_results [] types os t load once results fits h = refl
  over_results (i ∷ is) types os t load once results (r, gives, fits) h =
      same_then (instruction_value (over_distinct ins i) once results)
      (instruction_value i load results)
      (λ x. results_from (map (over_distinct ins) is) once (results ++ x ∷ []))
      (λ x. results_from is load (results ++ x ∷ []))
      (same_instruction i types os r load once results gives h)
      (λ x. over_results is types (os ++ r ∷ []) t load once (results ++ x ∷ []) fits h)

  over_value : (code : List Instr) (types : List Dtype) (t : Dtype) (load once : ℕ → Option ℤ)
      → KernelFits code types [] t
      → ((k : ℕ) → k < length types → load k ≡ once (number k))
      → kernel_value (map (over_distinct ins) code) once ≡ kernel_value code load
  over_value code types t load once fits h = ap (option_and_then last_of)
      (over_results code types [] t load once [] fits h)

  same_gives : (i : Instr) (types once : List Dtype) (os : List Operand) (r : Operand)
      → GivesOperand i types os r
      → ((k : ℕ) (d : Dtype) → slice_get types k ≡ Some d → slice_get once (number k) ≡ Some d)
      → GivesOperand (over_distinct ins i) once os r
  same_gives (Load k) types once os r (d, at, is) h = (d, h k d at, is)
  same_gives (Const x) types once os r gives h = gives
  same_gives (One f t a) types once os r gives h = gives
  same_gives (Two f t a b) types once os r gives h = gives
  same_gives (Select c a b) types once os r gives h = gives

  over_fits : (code : List Instr) (types once : List Dtype) (os : List Operand) (t : Dtype)
      → KernelFits code types os t
      → ((k : ℕ) (d : Dtype) → slice_get types k ≡ Some d → slice_get once (number k) ≡ Some d)
      → KernelFits (map (over_distinct ins) code) once os t
  over_fits [] types once os t fits h = fits
  over_fits (i ∷ is) types once os t (r, gives, fits) h =
      (r, same_gives i types once os r gives h, over_fits is types once (os ++ r ∷ []) t fits h)

-- ---- a map with one load of each array

module _ (arrays : List ArrayInfo) (code : List Instr) (ins : List ℕ) (out : ℕ) where
  module _ (m : MapFits arrays code ins out) where
    typed_over : KernelFits (map (over_distinct ins) code) (map (type_at arrays) (distinct ins)) []
        (type_at arrays out)
    typed_over = over_fits ins code (map (type_at arrays) ins)
        (map (type_at arrays) (distinct ins)) [] (type_at arrays out) m.kernel
        (λ k d at.
        let within : k < length ins = (let w = slice_get_within (map (type_at arrays) ins) k d at in
        let l = length-map ins (type_at arrays) in omega (arith, w, l)) in
        slice_get-map (type_at arrays) (distinct ins) (number ins k)
        ∙ ap (option_map (type_at arrays)) (same_input ins k within)
        ∙ sym (slice_get-map (type_at arrays) ins k) ∙ at)

    pub once_map_fits : MapFits arrays (loading_once (map (over_distinct ins) code))
        (distinct ins) out
    once_map_fits = record {
      inputs = all_distinct (λ a. IsAligned (grid_at arrays a) (grid_at arrays out)) ins m.inputs;
      kernel = once_fits (map (over_distinct ins) code) (map (type_at arrays) (distinct ins))
          (type_at arrays out) typed_over;
    }

    pub once_map_value : (at : Elements) (idx : List ℕ)
        → kernel_value (loading_once (map (over_distinct ins) code))
        (loaded arrays (distinct ins) at idx) ≡ kernel_value code (loaded arrays ins at idx)
    once_map_value at idx =
        once_value (map (over_distinct ins) code) (map (type_at arrays) (distinct ins))
        (type_at arrays out) (loaded arrays (distinct ins) at idx) typed_over
        ∙ over_value ins code (map (type_at arrays) ins) (type_at arrays out)
        (loaded arrays ins at idx) (loaded arrays (distinct ins) at idx) m.kernel
        (λ k b.
        let within : k < length ins = (let l = length-map ins (type_at arrays) in
        omega (arith, b, l)) in
        ap (option_and_then (λ a. at a (back (grid_at arrays a).shape idx)))
        (sym (same_input ins k within)))

  -- the greatest chunk is that of the same arrays
  same_scratch : largest (map (chunk_room arrays) (distinct ins ++ out ∷ []))
      ≤ largest (map (chunk_room arrays) (ins ++ out ∷ []))
  same_scratch =
      let all = ins ++ out ∷ [] in
      let most = largest (map (chunk_room arrays) all) in
      let each = within_largest (chunk_room arrays) all in
      largest_within (chunk_room arrays) most (distinct ins ++ out ∷ [])
      (All-append (λ a. chunk_room arrays a ≤ most) (distinct ins) (out ∷ [])
      (all_distinct (λ a. chunk_room arrays a ≤ most) ins
      (All-weaker (Contains ins) (λ a. chunk_room arrays a ≤ most)
      (λ a c. All-contains (λ b. chunk_room arrays b ≤ most) all a each
      (Contains-append_left ins (out ∷ []) a c)) ins (All-contains_itself ins)))
      (All-weaker (Contains (out ∷ [])) (λ a. chunk_room arrays a ≤ most)
      (λ a c. All-contains (λ b. chunk_room arrays b ≤ most) all a each
      (Contains-append_right ins (out ∷ []) a c)) (out ∷ []) (All-contains_itself (out ∷ []))))

  once_needs : (reserved : ℕ)
      → own_projection arrays reserved (one_load (map_of code ins out))
      ≤ own_projection arrays reserved (map_of code ins out)
  once_needs reserved =
      let scratch = same_scratch in
      let inputs = sum_distinct (chunk_room arrays) ins in
      let steps = fewer_steps (map (over_distinct ins) code) in
      let long = length-map code (over_distinct ins) in
      omega (arith, scratch, inputs, steps, long)

-- ---- an operation in place of another

pub record DoesSame (arrays : List ArrayInfo) (op other : Op) : Type 0 where
  pub reads : All (Contains (reads_of op)) (reads_of other)
  pub writes : writes_of other ≡ writes_of op
  pub tasks : tasks_of arrays other ≡ tasks_of arrays op
  pub fits : Fits arrays op → Fits arrays other
  pub value : Fits arrays op → (at : Elements) (a : ℕ) (idx : List ℕ)
      → rule other arrays at a idx ≡ rule op arrays at a idx
  pub needs : (reserved : ℕ) → own_projection arrays reserved other ≤ own_projection arrays reserved op

pub does_itself : (arrays : List ArrayInfo) (op : Op) → DoesSame arrays op op
does_itself arrays op = record {
  reads = All-contains_itself (reads_of op);
  writes = refl;
  tasks = refl;
  fits = λ h. h;
  value = λ h at a idx. refl;
  needs = λ reserved. omega arith;
}

pub one_load_does : (arrays : List ArrayInfo) (op : Op) → DoesSame arrays op (one_load op)
one_load_does arrays op =
    by_kernel (λ (o : Op). DoesSame arrays o (one_load o))
    (λ code ins out. record {
      reads = distinct_within ins;
      writes = refl;
      tasks = refl;
      fits = λ h. once_map_fits arrays code ins out h;
      value = λ h at a idx. once_map_value arrays code ins out h at idx;
      needs = once_needs arrays code ins out;
    })
    (λ o none. subst (DoesSame arrays o) (sym (no_kernel_stays o none)) (does_itself arrays o)) op

pub loaded_does : (arrays : List ArrayInfo) (once : Bool) (op : Op)
    → DoesSame arrays op (loaded_by once op)
loaded_does arrays true op = one_load_does arrays op
loaded_does arrays false op = does_itself arrays op

-- what holds of all arrays that the one reads holds of those that the other reads
pub reads_same : (arrays : List ArrayInfo) (op other : Op) (P : ℕ → Type 0)
    → DoesSame arrays op other → All P (reads_of op) → All P (reads_of other)
reads_same arrays op other P same all =
    All-weaker (Contains (reads_of op)) P (λ a c. All-contains P (reads_of op) a all c)
    (reads_of other) same.reads

pub same_target : (once : Bool) (op : Op) → target_of (loaded_by once op) ≡ target_of op
same_target true op =
    by_kernel (λ (o : Op). target_of (one_load o) ≡ target_of o) (λ code ins out. refl)
    (λ o none. ap target_of (no_kernel_stays o none)) op
same_target false op = refl

pub loaded_small : (once : Bool) (op : Op) → HasSmallRegions op
    → HasSmallRegions (loaded_by once op)
loaded_small true op h =
    by_kernel (λ (o : Op). HasSmallRegions o → HasSmallRegions (one_load o))
    (λ code ins out small. small)
    (λ o none small. subst HasSmallRegions (sym (no_kernel_stays o none)) small) op h
loaded_small false op h = h
