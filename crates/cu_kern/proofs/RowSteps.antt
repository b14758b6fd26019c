-- A row of places, between two steps of a kernel.
use Rattle.std.proofs.Common.{◌≡◌, ◌≢◌, ℕ, zero, suc, ◌+◌, ◌-◌, ◌*◌, ◌<◌, ◌≤◌, List, [], ◌∷◌, ◌++◌, length, take, drop, get_or, Option, None, Some, refl, ap, sym, ◌∙◌, subst, arith, ℤ, pos, ⊎_elim, length-append, Bool as Test, false, IsTrue}
use Rattle.std.specs.List.{slice_get}
use Rattle.std.specs.Option.{option_map, option_and_then}
use Rattle.std.proofs.lemmas.Option.{same_Some, slice_get-get_or}
use Rattle.std.proofs.lemmas.List.{drop-drop, take_at, drop_at}
use Rattle.cu_num.specs.Dtype.{size_of}
use Rattle.cu_num.specs.Element.{element_at}
use Rattle.cu_num.specs.Scalar.{op1, op2}
use Rattle.cu_num.proofs.ElementBytes.{element_at_same}
use Rattle.cu_num.specs.declared.types.Dtype.{Dtype}
use Rattle.cu_num.specs.declared.types.Dtype.TheVariants.{Bool}
use Rattle.cu_num.specs.declared.layout.Endian.TheVariants.{Little}
use Rattle.cu_op.specs.declared.kernel.Instr.{Instr}
use Rattle.cu_op.specs.declared.kernel.Instr.TheVariants.{Load, Const, One, Two, Select}
use Rattle.cu_op.specs.Kernel.{results_from, last_of, kernel_value, instruction_value, selected}
use Rattle.cu_kern.specs.Lays.{HasValue, lay_element, loaded_at}
use Rattle.cu_kern.specs.declared.rows.Row.{Row}
use Rattle.cu_shape.specs.Index.{index_at}
use Rattle.cu_kern.specs.declared.lays.Lay.{Lay}
use Rattle.cu_kern.specs.Rows.{Rows, step_rows, rows_before, loads_along, Stands, HasElement, HasStepResults, RowsAt, Computes, left_row, Leaves, ReadsEarlier}
use Rattle.cu_kern.proofs.Parts.{part_inside, has_value_element}
use Rattle.cu_kern.proofs.Running.{slice_get_push}

-- ---- what stands in a row stands in another that begins alike

pub stands_there : (i : Instr) (kept : Test) (load : ℕ → Option ℤ) (x : ℤ) (A B : Type 0) → (A → B) → Stands i kept load x A → Stands i kept load x B
stands_there (Load j) kept load x A B f h = (h.0, λ is. f (h.1 is))
stands_there (Const y) kept load x A B f h = h
stands_there (One g s a) kept load x A B f h = λ is. f (h is)
stands_there (Two g s a b) kept load x A B f h = λ is. f (h is)
stands_there (Select c a b) kept load x A B f h = λ is. f (h is)

-- an element that lies in the front of a list
pub element_in_front : (t : Dtype) (front back : List ℕ) (j k : ℕ) → j + (k * size_of t + size_of t) ≤ length front → element_at Little t (drop j (front ++ back)) k ≡ element_at Little t (drop j front) k
element_in_front t front back j k h =
    element_at_same Little t (drop j (front ++ back)) (drop j front) k k
    (ap (take (size_of t)) (drop-drop (k * size_of t) j (front ++ back))
    ∙ sym (part_inside (size_of t) (j + k * size_of t) (length front) (front ++ back) (omega arith))
    ∙ ap (λ xs. take (size_of t) (drop (j + k * size_of t) xs)) (take_at front back (length front) refl)
    ∙ ap (take (size_of t)) (sym (drop-drop (k * size_of t) j front)))

-- the results of the first steps stand in their rows whatever lies behind
pub rows_front : (code : List Instr) (rows : List Row) (front back : List ℕ) (number filled k : ℕ) (load : ℕ → Option ℤ) (results : List ℤ) → filled ≤ length front
    → HasStepResults (step_rows code rows (front ++ back) number filled) load k results → HasStepResults (rows_before code rows front number) load k results
rows_front code rows front back number filled k load results short h = record {
  done = h.done;
  values = h.values;
  each = λ a x i s there is row. stands_there i s.kept load x (HasElement s.dtype s.at filled (front ++ back) k x) (HasElement s.dtype s.at (length front) front k x)
      (λ (inside, same). (omega arith, sym (element_in_front s.dtype front back s.at k (omega arith)) ∙ same)) (h.each a x i s there is row);
}

pub rows_behind : (code : List Instr) (rows : List Row) (front back : List ℕ) (number filled k : ℕ) (load : ℕ → Option ℤ) (results : List ℤ) → length front ≤ filled
    → HasStepResults (rows_before code rows front number) load k results → HasStepResults (step_rows code rows (front ++ back) number filled) load k results
rows_behind code rows front back number filled k load results long h = record {
  done = h.done;
  values = h.values;
  each = λ a x i s there is row. stands_there i s.kept load x (HasElement s.dtype s.at (length front) front k x) (HasElement s.dtype s.at filled (front ++ back) k x)
      (λ (inside, same). (omega arith, element_in_front s.dtype front back s.at k inside ∙ same)) (h.each a x i s there is row);
}

-- ---- one step more

-- where the first is a value, so is the second
mapped : (f : ℤ → ℤ) (o p : Option ℤ) (x : ℤ) → ((y : ℤ) → o ≡ Some y → p ≡ Some y) → option_map f o ≡ Some x → option_map f p ≡ Some x
mapped f None p x h e = cc
mapped f (Some y) p x h e = ap (option_map f) (h y refl) ∙ e

joined : (f g : ℤ → Option ℤ) (o p : Option ℤ) (x : ℤ) → ((y : ℤ) → o ≡ Some y → p ≡ Some y) → ((y : ℤ) → f y ≡ Some x → g y ≡ Some x) → option_and_then f o ≡ Some x → option_and_then g p ≡ Some x
joined f g None p x h k e = cc
joined f g (Some y) p x h k e = ap (option_and_then g) (h y refl) ∙ k y e

there_more : (xs ys : List ℤ) (a : ℕ) (x : ℤ) → slice_get xs a ≡ Some x → slice_get (xs ++ ys) a ≡ Some x
there_more [] ys a x e = cc
there_more (z ∷ xs) ys zero x e = e
there_more (z ∷ xs) ys (suc a) x e = there_more xs ys a x e

-- the value of a step over some results is its value over more
value_more : (i : Instr) (load : ℕ → Option ℤ) (results more : List ℤ) (x : ℤ) → instruction_value i load results ≡ Some x → instruction_value i load (results ++ more) ≡ Some x
value_more (Load j) load results more x e = e
value_more (Const y) load results more x e = e
value_more (One f t a) load results more x e = mapped (op1 f t) (slice_get results a) (slice_get (results ++ more) a) x (there_more results more a) e
value_more (Two f t a b) load results more x e =
    joined (λ x. option_map (op2 f t x) (slice_get results b)) (λ x. option_map (op2 f t x) (slice_get (results ++ more) b)) (slice_get results a) (slice_get (results ++ more) a) x (there_more results more a)
    (λ y. mapped (op2 f t y) (slice_get results b) (slice_get (results ++ more) b) x (there_more results more b)) e
value_more (Select c a b) load results more x e =
    joined (λ s. option_and_then (λ x. option_map (selected s x) (slice_get results b)) (slice_get results a)) (λ s. option_and_then (λ x. option_map (selected s x) (slice_get (results ++ more) b)) (slice_get (results ++ more) a))
    (slice_get results c) (slice_get (results ++ more) c) x (there_more results more c)
    (λ s. joined (λ x. option_map (selected s x) (slice_get results b)) (λ x. option_map (selected s x) (slice_get (results ++ more) b)) (slice_get results a) (slice_get (results ++ more) a) x (there_more results more a)
    (λ y. mapped (selected s y) (slice_get results b) (slice_get (results ++ more) b) x (there_more results more b))) e

pub begin_rows : (code : List Instr) (rows : List Row) (bytes : List ℕ) (load : ℕ → Option ℤ) (k : ℕ) → RowsAt (step_rows code rows bytes 0 0) load k
begin_rows code rows bytes load k = record { results = []; stand = record { done = refl; values = λ a x i e is. cc; each = λ a x i s e is row. cc }; value = refl }

-- the row that a step leaves begins where the bytes before it end
element_left : (t : Dtype) (front rest : List ℕ) (at used k : ℕ) (x : ℤ) → length front ≡ at → HasElement t 0 used rest k x → HasElement t at (at + used) (front ++ rest) k x
element_left t front rest at used k x long (inside, same) = (omega arith, ap (λ bytes. element_at Little t bytes k) (drop_at front rest at long) ∙ same)

pub next_rows : (code : List Instr) (rows : List Row) (bank front back rest : List ℕ) (number filled count used k : ℕ) (i : Instr) (s : Row) (loads : ℕ → ℕ → Option ℤ)
    → bank ≡ front ++ back → length front ≡ s.at → filled ≤ s.at → drop number code ≡ i ∷ drop (number + 1) code → slice_get code number ≡ Some i → slice_get rows number ≡ Some s → k < count
    → RowsAt (step_rows code rows bank number filled) (loads k) k → Leaves i s (rows_before code rows front number) loads count (left_row used rest) → RowsAt (step_rows code rows (front ++ rest) (number + 1) (s.at + used)) (loads k) k
next_rows code rows bank front back rest number filled count used k i s loads e long less more here own below at leaves =
    let results = at.results in
    let load = loads k in
    let P : List ℕ → Type 0 = λ bytes. HasStepResults (step_rows code rows bytes number filled) load k results in
    let stand : HasStepResults (rows_before code rows front number) load k results = rows_front code rows front back number filled k load results (omega arith) (subst P e at.stand) in
    let (x, value, stands) = leaves k results below stand in
    let old = rows_behind code rows front rest number (s.at + used) k load results (omega arith) stand in
    let done = stand.done in
    let new : Stands i s.kept load x (HasElement s.dtype s.at (s.at + used) (front ++ rest) k x) =
    stands_there i s.kept load x (HasElement s.dtype 0 used rest k x) (HasElement s.dtype s.at (s.at + used) (front ++ rest) k x) (element_left s.dtype front rest s.at used k x long) stands in
    record {
      results = results ++ x ∷ [];
      stand = record {
        done = length-append results (x ∷ []) ∙ omega arith;
        values = λ a y j there is. value_more j load results (x ∷ []) y (⊎_elim
            (λ before. old.values a y j before is)
            (λ (last, same).
            let same_place : a ≡ number = last ∙ done in
            let same_step : i ≡ j = same_Some i j (sym here ∙ ap (slice_get code) (sym same_place) ∙ is) in
            ap (λ j. instruction_value j load results) (sym same_step) ∙ value ∙ ap Some same)
            (slice_get_push results x y a there));
        each = λ a y j r there is row. ⊎_elim
            (λ before. old.each a y j r before is row)
            (λ (last, same).
            let same_place : a ≡ number = last ∙ done in
            let same_step : i ≡ j = same_Some i j (sym here ∙ ap (slice_get code) (sym same_place) ∙ is) in
            let same_row : s ≡ r = same_Some s r (sym own ∙ ap (slice_get rows) (sym same_place) ∙ row) in
            let A : Instr → Type 0 = λ j. Stands j r.kept load y (HasElement r.dtype r.at (s.at + used) (front ++ rest) k y) in
            let B : Row → Type 0 = λ r. Stands i r.kept load y (HasElement r.dtype r.at (s.at + used) (front ++ rest) k y) in
            let C : ℤ → Type 0 = λ y. Stands i s.kept load y (HasElement s.dtype s.at (s.at + used) (front ++ rest) k y) in
            subst A same_step (subst B same_row (subst C same new)))
            (slice_get_push results x y a there);
      };
      value = at.value ∙ ap (λ is. option_and_then last_of (results_from is load results)) more
          ∙ ap (λ o. option_and_then last_of (option_and_then (λ x. results_from (drop (number + 1) code) load (results ++ x ∷ [])) o)) value;
    }

-- ---- the last step

last_pushed : (results : List ℤ) (x : ℤ) → last_of (results ++ x ∷ []) ≡ Some x
last_pushed results x =
    let long : length (results ++ x ∷ []) ≡ length results + 1 = length-append results (x ∷ []) in
    ap (slice_get (results ++ x ∷ [])) (let same : length (results ++ x ∷ []) - 1 ≡ length results = omega arith in same) ∙ at_end results x
  where
    at_end : (xs : List ℤ) (x : ℤ) → slice_get (xs ++ x ∷ []) (length xs) ≡ Some x
    at_end [] x = refl
    at_end (y ∷ xs) x = at_end xs x

ends_with : (t : Dtype) (out : List ℕ) (k : ℕ) (results : List ℤ) (v : Option ℤ) → HasValue t out k v → HasValue t out k (option_and_then last_of (option_and_then (λ x. Some (results ++ x ∷ [])) v))
ends_with t out k results None h = absurd h
ends_with t out k results (Some x) h = let P : Option ℤ → Type 0 = HasValue t out k in subst P (sym (last_pushed results x)) h

pub ended_rows : (code : List Instr) (rows : List Row) (bank front back out : List ℕ) (last filled k : ℕ) (i : Instr) (t : Dtype) (loads : ℕ → ℕ → Option ℤ) → bank ≡ front ++ back → filled ≤ length front
    → drop last code ≡ i ∷ [] → k * size_of t + size_of t ≤ length out → RowsAt (step_rows code rows bank last filled) (loads k) k → Computes i t (rows_before code rows front last) loads out → HasValue t out k (kernel_value code (loads k))
ended_rows code rows bank front back out last filled k i t loads same short e room at computes =
    let P : Option ℤ → Type 0 = HasValue t out k in
    let Q : List ℕ → Type 0 = λ bytes. HasStepResults (step_rows code rows bytes last filled) (loads k) k at.results in
    let stand = rows_front code rows front back last filled k (loads k) at.results short (subst Q same at.stand) in
    subst P (sym (at.value ∙ ap (λ is. option_and_then last_of (results_from is (loads k) at.results)) e)) (ends_with t out k at.results (instruction_value i (loads k) at.results) (computes k at.results room stand))

-- ---- a step that leaves its row

from_value : (i : Instr) (kept : Test) (t : Dtype) (out more : List ℕ) (k used : ℕ) (load : ℕ → Option ℤ) (results : List ℤ) → ((y : ℤ) → i ≢ Const y) → k * size_of t + size_of t ≤ length out → length out ≤ used
    → HasValue t out k (instruction_value i load results) → (x : ℤ) × (instruction_value i load results ≡ Some x) × Stands i kept load x (HasElement t 0 used (out ++ more) k x)
from_value i kept t out more k used load results other room short h = (element_at Little t out k, is, stands i other is)
  where
    is : instruction_value i load results ≡ Some (element_at Little t out k)
    is = (has_value_element t out k (instruction_value i load results) h).0

    row : HasElement t 0 used (out ++ more) k (element_at Little t out k)
    row = (omega arith, element_in_front t out more 0 k (omega arith))

    stands : (i : Instr) → ((y : ℤ) → i ≢ Const y) → instruction_value i load results ≡ Some (element_at Little t out k) → Stands i kept load (element_at Little t out k) (HasElement t 0 used (out ++ more) k (element_at Little t out k))
    stands (Load j) other is = (is, λ b. row)
    stands (Const y) other is = absurd (other y refl)
    stands (One f s a) other is = λ b. row
    stands (Two f s a b) other is = λ b. row
    stands (Select c a b) other is = λ b. row

pub left_of_computed : (i : Instr) (s : Row) (r : Rows) (loads : ℕ → ℕ → Option ℤ) (count used : ℕ) (out more : List ℕ) → ((y : ℤ) → i ≢ Const y)
    → ((k : ℕ) → k < count → k * size_of s.dtype + size_of s.dtype ≤ length out) → length out ≤ used → Computes i s.dtype r loads out → Leaves i s r loads count (left_row used (out ++ more))
left_of_computed i s r loads count used out more other room short computes k results below stand =
    let fits = room k below in
    from_value i s.kept s.dtype out more k used (loads k) results other fits short (computes k results fits stand)

pub left_of_literal : (y : ℤ) (s : Row) (r : Rows) (loads : ℕ → ℕ → Option ℤ) (count used : ℕ) (rest : List ℕ) → Leaves (Const y) s r loads count (left_row used rest)
left_of_literal y s r loads count used rest k results below stand = (y, refl, refl)

result_at : (number : ℕ) (results : List ℤ) (a : ℕ) → length results ≡ number → a < number → slice_get results a ≡ Some (get_or results a (pos 0))
result_at number results a done below = slice_get-get_or results a (pos 0) (omega arith)

tells_not : (kept : Test) → kept ≡ false → IsTrue kept → ⊥
tells_not kept none said = subst (λ (b : Test). IsTrue b → ⊥) (sym none) (λ h. cc) said

-- a step of which no row is kept, over results that are there
pub left_nothing : (i : Instr) (s : Row) (r : Rows) (lays : List Lay) (ins dims : List ℕ) (from count used : ℕ) (rest : List ℕ) → s.kept ≡ false → ReadsEarlier i (length lays) r.number
    → Leaves i s r (loads_along lays ins dims from) count (left_row used rest)
left_nothing (Load j) s r lays ins dims from count used rest none below k results less stand =
    let l = get_or lays j d in
    let there : slice_get lays j ≡ Some l = slice_get-get_or lays j d below in
    let is = ap (option_map (λ l. lay_element l ins (index_at dims (from + k)))) there in
    (lay_element l ins (index_at dims (from + k)), is, (is, λ said. absurd (tells_not s.kept none said)))
  where
    d : Lay
    d = record { at = 0; dtype = Bool; dims = [] }
left_nothing (Const y) s r lays ins dims from count used rest none below k results less stand = (y, refl, refl)
left_nothing (One f t a) s r lays ins dims from count used rest none below k results less stand =
    let x = get_or results a (pos 0) in
    let there = result_at r.number results a stand.done below in
    (op1 f t x, ap (option_map (op1 f t)) there, λ said. absurd (tells_not s.kept none said))
left_nothing (Two f t a b) s r lays ins dims from count used rest none below k results less stand =
    let x = get_or results a (pos 0) in
    let y = get_or results b (pos 0) in
    let first = result_at r.number results a stand.done below.0 in
    let second = result_at r.number results b stand.done below.1 in
    (op2 f t x y, ap (option_and_then (λ x. option_map (op2 f t x) (slice_get results b))) first ∙ ap (option_map (op2 f t x)) second, λ said. absurd (tells_not s.kept none said))
left_nothing (Select c a b) s r lays ins dims from count used rest none below k results less stand =
    let v = get_or results c (pos 0) in
    let x = get_or results a (pos 0) in
    let y = get_or results b (pos 0) in
    let choice = result_at r.number results c stand.done below.0 in
    let first = result_at r.number results a stand.done below.1 in
    let second = result_at r.number results b stand.done below.2 in (
      selected v x y,
      ap (option_and_then (λ s. option_and_then (λ x. option_map (selected s x) (slice_get results b)) (slice_get results a))) choice
          ∙ ap (option_and_then (λ x. option_map (selected v x) (slice_get results b))) first ∙ ap (option_map (selected v x)) second,
      λ said. absurd (tells_not s.kept none said),
    )

-- ---- a step that loads

pub load_computed : (j : ℕ) (l : Lay) (lays : List Lay) (ins idx : List ℕ) (t : Dtype) (out : List ℕ) (k : ℕ) → slice_get lays j ≡ Some l → HasValue t out k (Some (lay_element l ins idx)) → HasValue t out k (loaded_at lays ins idx j)
load_computed j l lays ins idx t out k e h = let P : Option ℤ → Type 0 = HasValue t out k in subst P (sym (ap (option_map (λ l. lay_element l ins idx)) e)) h
