-- What a step over the rows of earlier steps reads and leaves.
use Rattle.std.proofs.Common.{◌≡◌, ◌≢◌, ℕ, ◌+◌, ◌*◌, ◌<◌, ◌≤◌, suc, List, length, ◌++◌, drop, get_or, Option, None, Some, IfSome, IsTrue, Bool as Test, refl, ap, sym, ◌∙◌, subst, arith, ℤ, pos, inl, inr, length-append}
use Rattle.std.specs.List.{slice_get}
use Rattle.std.proofs.lemmas.Option.{same_Some, slice_get-get_or}
use Rattle.std.proofs.Math.Nat.{mul-le-mul_right}
use Rattle.std.specs.Option.{option_map, option_and_then}
use Rattle.cu_num.specs.Dtype.{size_of, InRange}
use Rattle.cu_num.specs.Element.{element_at, element_bytes, bytes_at}
use Rattle.cu_num.specs.Scalar.{op1, op2, result_type1, result_type2}
use Rattle.cu_num.specs.Promotion.{promotion}
use Rattle.cu_num.specs.Wrap.{wrapped}
use Rattle.cu_num.proofs.ElementBytes.{InRange-element_at, element_at_own, element_at-element_bytes_in_range}
use Rattle.cu_num.proofs.Promoted.{first_in_range}
use Rattle.cu_num.proofs.ScalarRange.{InRange-op1, InRange-op2}
use Rattle.cu_num.proofs.Wrapped.{wrapped_in_range}
use Rattle.cu_num.specs.declared.functions.Fn1.{Fn1}
use Rattle.cu_num.specs.declared.functions.Fn1.TheVariants.{Astype}
use Rattle.cu_num.specs.declared.functions.Fn2.{Fn2}
use Rattle.cu_num.specs.declared.types.Dtype.{Dtype}
use Rattle.cu_num.specs.declared.layout.Endian.TheVariants.{Little}
use Rattle.cu_op.specs.declared.kernel.Instr.{Instr}
use Rattle.cu_op.specs.declared.kernel.Instr.TheVariants.{Load, Const, One, Two, Select}
use Rattle.cu_op.specs.Kernel.{selected}
use Rattle.cu_kern.specs.declared.calls.Call.TheVariants as call
use Rattle.cu_kern.specs.Lays.{HasValue}
use Rattle.cu_kern.proofs.CallValues.{selected_in_range}
use Rattle.cu_kern.specs.declared.rows.Row.{Row}
use Rattle.cu_kern.specs.Rows.{Rows, Stands, HasElement, HasStepResults, HasResultsOf, HasSameElements, IsSource, IsExtreme}
use Rattle.cu_kern.specs.Strips.{Strip, strip, strip_element, extreme, HasPlaces, HasResults}
use Rattle.cu_kern.proofs.Parts.{size_most}
use Rattle.cu_kern.proofs.RowSteps.{element_in_front}

-- ---- what an argument reads

-- what holds of a value of which two clauses speak, and of which four do
pub if_some : {T : Type 0} (o : Option T) (P Q S : T → Type 0) → ((x : T) → P x → Q x → S x) → IfSome o P → IfSome o Q → IfSome o S
if_some None P Q S f p q = tt
if_some (Some x) P Q S f p q = f x p q

pub if_some_of_three : {T : Type 0} (o : Option T) (P Q R S : T → Type 0) → ((x : T) → P x → Q x → R x → S x) → IfSome o P → IfSome o Q → IfSome o R → IfSome o S
if_some_of_three None P Q R S f p q r = tt
if_some_of_three (Some x) P Q R S f p q r = f x p q r

pub result_there : (r : Rows) (load : ℕ → Option ℤ) (k a : ℕ) (results : List ℤ) → HasStepResults r load k results → a < r.number → slice_get results a ≡ Some (get_or results a (pos 0))
result_there r load k a results h b = let done = h.done in slice_get-get_or results a (pos 0) (omega arith)

in_row : (i : Instr) (kept : Test) (load : ℕ → Option ℤ) (x : ℤ) (InRow : Type 0) → ((y : ℤ) → i ≢ Const y) → IsTrue kept → Stands i kept load x InRow → InRow
in_row (Load j) kept load x InRow other held h = h.1 held
in_row (Const y) kept load x InRow other held h = absurd (other y refl)
in_row (One f s a) kept load x InRow other held h = h held
in_row (Two f s a b) kept load x InRow other held h = h held
in_row (Select c a b) kept load x InRow other held h = h held

pub row_results : (r : Rows) (loads : ℕ → ℕ → Option ℤ) (count a : ℕ) (i : Instr) (row : Row) (t : Dtype) (s : Strip) → a < r.number → slice_get r.code a ≡ Some i → slice_get r.rows a ≡ Some row → ((y : ℤ) → i ≢ Const y)
    → IsTrue row.kept → HasPlaces t s count → ((k : ℕ) → k < count → strip_element t s k ≡ element_at Little row.dtype (drop row.at r.bytes) k) → HasResultsOf r loads count a t s
row_results r loads count a i row t s b code own other held places same = record {
  places = places;
  elements = λ k results below stand.
      let there = result_there r (loads k) k a results stand b in
      let x = get_or results a (pos 0) in
      let (inside, is) = in_row i row.kept (loads k) x (HasElement row.dtype row.at r.filled r.bytes k x) other held (stand.each a x i row there code own) in
      there ∙ ap Some (sym (same k below ∙ is));
}

pub region_results : (r : Rows) (loads : ℕ → ℕ → Option ℤ) (count a j : ℕ) (row : Row) (t : Dtype) (s : Strip) → a < r.number → slice_get r.code a ≡ Some (Load j) → slice_get r.rows a ≡ Some row → HasPlaces t s count
    → ((k : ℕ) → k < count → loads k j ≡ Some (strip_element t s k)) → HasResultsOf r loads count a t s
region_results r loads count a j row t s b code own places same = record {
  places = places;
  elements = λ k results below stand.
      let there = result_there r (loads k) k a results stand b in
      there ∙ sym ((stand.each a (get_or results a (pos 0)) (Load j) row there code own).0) ∙ same k below;
}

pub literal_places : (t : Dtype) (bytes : List ℕ) (count : ℕ) → length bytes ≡ 8 → HasPlaces t (strip bytes 0) count
literal_places t bytes count long = record { step = omega arith; inside = λ k below. let most = size_most t in omega arith }

pub literal_results : (r : Rows) (loads : ℕ → ℕ → Option ℤ) (count a step : ℕ) (y : ℤ) (row : Row) (t : Dtype) (bytes literal : List ℕ) → a < r.number → slice_get r.code a ≡ Some (Const y) → slice_get r.rows a ≡ Some row
    → bytes ≡ literal → step ≡ 0 → length literal ≡ 8 → element_at Little t literal 0 ≡ y → HasResultsOf r loads count a t (strip bytes step)
literal_results r loads count a step y row t bytes literal b code own e none long is =
    let P : List ℕ → Type 0 = λ bytes. HasResultsOf r loads count a t (strip bytes step) in
    let Q : ℕ → Type 0 = λ step. HasResultsOf r loads count a t (strip literal step) in
    subst P (sym e) (subst Q (sym none) record {
      places = literal_places t literal count long;
      elements = λ k results below stand.
          let there = result_there r (loads k) k a results stand b in
          let rests : 0 * k ≡ 0 = omega arith in
          there ∙ ap Some (stand.each a (get_or results a (pos 0)) (Const y) row there code own ∙ sym (ap (element_at Little t literal) rests ∙ is));
    })

-- ---- an argument of another type

-- what a conversion to a type leaves to which its argument's is promoted
pub converted_same : (from t : Dtype) (x : Strip) (part more : List ℕ) (count : ℕ) → promotion from t ≡ Some t → length part ≡ count * size_of t → HasResults (call.One Astype from t) x x x part
    → HasSameElements from x t (strip (part ++ more) 1) count
converted_same from t x part more count p long results = record {
  places = record {
    step = omega arith;
    inside = λ k below. let room = fits k below in let all = length-append part more in let once : 1 * k * size_of t ≡ k * size_of t = ap (λ j. j * size_of t) (single k) in omega arith;
  };
  same = λ k below.
      let v = strip_element from x k in
      let range : InRange t v = first_in_range from t t p v (InRange-element_at Little from x.bytes (x.step * k)) in
      let read : element_at Little t part k ≡ wrapped t v =
      element_at_own Little t part k ∙ ap (λ own. element_at Little t own 0) (results k (fits k below)) ∙ element_at-element_bytes_in_range Little t (wrapped t v) (InRange-op1 Astype t v) in
      ap (element_at Little t (part ++ more)) (single k) ∙ element_in_front t part more 0 k (let room = fits k below in omega arith) ∙ read ∙ wrapped_in_range t v range;
}
  where
    single : (k : ℕ) → 1 * k ≡ k
    single k = omega arith

    fits : (k : ℕ) → k < count → k * size_of t + size_of t ≤ length part
    fits k below = let last : suc k * size_of t ≤ count * size_of t = mul-le-mul_right (size_of t) (let l : suc k ≤ count = omega arith in l) in omega arith

-- what a step converts, as what it gives
pub source_results : (r : Rows) (loads : ℕ → ℕ → Option ℤ) (count a k : ℕ) (from t : Dtype) (s : Strip) → promotion from t ≡ Some t → IsSource r.code r.number t a k → HasResultsOf r loads count k from s → HasResultsOf r loads count a from s
source_results r loads count a k from t s p (inl e) h = let P : ℕ → Type 0 = λ k. HasResultsOf r loads count k from s in subst P e h
source_results r loads count a k from t s p (inr (before, is, other)) h = record {
  places = h.places;
  elements = λ j results below stand.
      let x = get_or results a (pos 0) in
      let v = strip_element from s j in
      let there = result_there r (loads j) j a results stand before in
      let value : option_map (op1 Astype t) (slice_get results k) ≡ Some x = stand.values a x (One Astype t k) there is in
      let range : InRange t v = first_in_range from t t p v (InRange-element_at Little from s.bytes (s.step * j)) in
      let same : x ≡ v = same_Some x v (sym value ∙ ap (option_map (op1 Astype t)) (h.elements j results below stand) ∙ ap Some (wrapped_in_range t v range)) in
      there ∙ ap Some same;
}

pub own_type_same : (from t : Dtype) (x : Strip) (count : ℕ) → from ≡ t → HasPlaces from x count → HasSameElements from x t x count
own_type_same from t x count e places =
    let P : Dtype → Type 0 = λ t. HasSameElements from x t x count in
    subst P e record { places = places; same = λ k below. refl }

-- ---- what a step leaves

pub one_computed : (f : Fn1) (t : Dtype) (out : List ℕ) (k a : ℕ) (results : List ℤ) (x : ℤ) → slice_get results a ≡ Some x → bytes_at (result_type1 f t) out k ≡ element_bytes Little (result_type1 f t) (op1 f t x)
    → HasValue (result_type1 f t) out k (option_map (op1 f t) (slice_get results a))
one_computed f t out k a results x e is =
    let P : Option ℤ → Type 0 = λ o. HasValue (result_type1 f t) out k (option_map (op1 f t) o) in
    subst P (sym e) (InRange-op1 f t x, is)

pub two_computed : (f : Fn2) (t : Dtype) (out : List ℕ) (k a b : ℕ) (results : List ℤ) (x y : ℤ) → slice_get results a ≡ Some x → slice_get results b ≡ Some y
    → bytes_at (result_type2 f t) out k ≡ element_bytes Little (result_type2 f t) (op2 f t x y)
    → HasValue (result_type2 f t) out k (option_and_then (λ x. option_map (op2 f t x) (slice_get results b)) (slice_get results a))
two_computed f t out k a b results x y e h is =
    let P : Option ℤ → Type 0 = λ o. HasValue (result_type2 f t) out k (option_and_then (λ x. option_map (op2 f t x) (slice_get results b)) o) in
    let Q : Option ℤ → Type 0 = λ o. HasValue (result_type2 f t) out k (option_map (op2 f t x) o) in
    subst P (sym e) (subst Q (sym h) (InRange-op2 f t x y, is))

pub select_computed : (t : Dtype) (out : List ℕ) (k c a b : ℕ) (results : List ℤ) (s x y : ℤ) → slice_get results c ≡ Some s → slice_get results a ≡ Some x → slice_get results b ≡ Some y
    → InRange t x → InRange t y → bytes_at t out k ≡ element_bytes Little t (selected s x y)
    → HasValue t out k (option_and_then (λ s. option_and_then (λ x. option_map (selected s x) (slice_get results b)) (slice_get results a)) (slice_get results c))
select_computed t out k c a b results s x y e h g low high is =
    let P : Option ℤ → Type 0 = λ o. HasValue t out k (option_and_then (λ s. option_and_then (λ x. option_map (selected s x) (slice_get results b)) (slice_get results a)) o) in
    let Q : Option ℤ → Type 0 = λ o. HasValue t out k (option_and_then (λ x. option_map (selected s x) (slice_get results b)) o) in
    let R : Option ℤ → Type 0 = λ o. HasValue t out k (option_map (selected s x) o) in
    subst P (sym e) (subst Q (sym h) (subst R (sym g) (selected_in_range t s x y low high, is)))

-- an extreme is the choice of its arguments by the comparison that the condition is
pub extreme_computed : (r : Rows) (load : ℕ → Option ℤ) (least : Test) (f : Fn2) (t : Dtype) (out : List ℕ) (k c a b : ℕ) (results : List ℤ) (x y : ℤ) → HasStepResults r load k results → c < r.number
    → slice_get r.code c ≡ Some (Two f t a b) → IsExtreme least f → slice_get results a ≡ Some x → slice_get results b ≡ Some y → InRange t x → InRange t y → bytes_at t out k ≡ element_bytes Little t (extreme least x y)
    → HasValue t out k (option_and_then (λ s. option_and_then (λ x. option_map (selected s x) (slice_get results b)) (slice_get results a)) (slice_get results c))
extreme_computed r load least f t out k c a b results x y stand before compares same h g low high is =
    let s = get_or results c (pos 0) in
    let there = result_there r load k c results stand before in
    let compared : option_and_then (λ x. option_map (op2 f t x) (slice_get results b)) (slice_get results a) ≡ Some (op2 f t x y) =
    ap (option_and_then (λ x. option_map (op2 f t x) (slice_get results b))) h ∙ ap (option_map (op2 f t x)) g in
    let value : s ≡ op2 f t x y = same_Some s (op2 f t x y) (sym (stand.values c s (Two f t a b) there compares) ∙ compared) in
    select_computed t out k c a b results s x y there h g low high
    (is ∙ ap (element_bytes Little t) (sym (same t x y) ∙ ap (λ s. selected s x y) (sym value)))
