-- The numbers that come from no source are numbers of the result's type.
use Rattle.std.proofs.Common.{◌≡◌, ℕ, suc, ◌+◌, ◌*◌, ◌-◌, ◌<◌, ◌≤◌, ◌==◌, ℤ, pos, negsuc, ◌+ℤ◌, ◌*ℤ◌, ◌≤ℤ◌, nat_lt, Bool, true, false, List, [], ◌∷◌, length, set, get_or, Ok, ap, subst, arith, rules}
use Rattle.std.specs.Prelude.{if◌then◌else◌, not, ◌&&◌}
use Rattle.std.specs.Ordering.{int_eq}
use Rattle.std.proofs.lemmas.Bool.{and_parts, ne_eqb}
use Rattle.std.proofs.lemmas.Int.{ints}
use Rattle.std.proofs.lemmas.Nat.{mul-le}
use Rattle.std.proofs.Math.IntN.{pos-*ℤ-pos}
use Rattle.cu_result.specs.Results.{◌>>=◌, check}
use Rattle.cu_result.proofs.ResultSteps.{check_step_ok}
use Rattle.cu_num.specs.Dtype.{InRange, least, greatest}
use Rattle.cu_num.specs.declared.types.Dtype.{Dtype}
use Rattle.cu_num.specs.declared.types.Dtype.TheVariants as type
use Rattle.cu_shape.specs.Index.{IsInside}
use Rattle.cu_node.specs.Fault.{fault}
use Rattle.cu_node.specs.Literal.{literal_number, suits}
use Rattle.cu_node.specs.Limited.{limited}
use Rattle.cu_node.specs.Types.{is_integer, in_range}
use Rattle.cu_node.specs.declared.faults.FaultCode.TheVariants.{Kind, Scalar, Index, Shape}
use Rattle.cu_node.specs.declared.info.NodeInfo.{NodeInfo}
use Rattle.cu_node.specs.declared.literal.Literal.{Literal}
use Rattle.cu_node.specs.declared.literal.Literal.TheVariants.{Int, Truth}
use Rattle.cu_origin.specs.Pull.{concat_from}
use Rattle.cu_origin.specs.declared.provenance.Provenance.{Provenance}
use Rattle.cu_origin.specs.declared.provenance.Provenance.TheVariants.{From, Const}
use Rattle.cu_origin.proofs.AxesInside.{inside_at}
use Rattle.cu_typing_view.specs.Creation.{arange_count, arange_element, holds_ends, typed_full, typed_numbers, typed_arange, typed_eye}
use Rattle.cu_lower_view.proofs.Typed.{checked_array}

-- ---- 0 and 1

pub zero_in : (t : Dtype) → InRange t (pos 0)
zero_in type.Bool = (omega (arith, ints), omega (arith, ints))
zero_in type.Int8 = (omega (arith, ints), omega (arith, ints))
zero_in type.Int16 = (omega (arith, ints), omega (arith, ints))
zero_in type.Int32 = (omega (arith, ints), omega (arith, ints))
zero_in type.Int64 = (omega (arith, ints), omega (arith, ints))
zero_in type.Uint8 = (omega (arith, ints), omega (arith, ints))
zero_in type.Uint16 = (omega (arith, ints), omega (arith, ints))
zero_in type.Uint32 = (omega (arith, ints), omega (arith, ints))
zero_in type.Uint64 = (omega (arith, ints), omega (arith, ints))

pub one_in : (t : Dtype) → InRange t (pos 1)
one_in type.Bool = (omega (arith, ints), omega (arith, ints))
one_in type.Int8 = (omega (arith, ints), omega (arith, ints))
one_in type.Int16 = (omega (arith, ints), omega (arith, ints))
one_in type.Int32 = (omega (arith, ints), omega (arith, ints))
one_in type.Int64 = (omega (arith, ints), omega (arith, ints))
one_in type.Uint8 = (omega (arith, ints), omega (arith, ints))
one_in type.Uint16 = (omega (arith, ints), omega (arith, ints))
one_in type.Uint32 = (omega (arith, ints), omega (arith, ints))
one_in type.Uint64 = (omega (arith, ints), omega (arith, ints))

-- where each number that may be told here is one of the type
abbrev pub TellsIn : Dtype → Provenance → Type 0
TellsIn t p = (x : ℤ) → p ≡ Const x → InRange t x

pub tells_const : (t : Dtype) (x : ℤ) → InRange t x → TellsIn t (Const x)
tells_const t x r y e = let same : x ≡ y = cc in subst (λ (z : ℤ). InRange t z) same r

pub tells_from : (t : Dtype) (k : ℕ) (idx : List ℕ) → TellsIn t (From k idx)
tells_from t k idx y e = cc

pub tells_when : (t : Dtype) (b : Bool) (p q : Provenance) → TellsIn t p → TellsIn t q → TellsIn t (if b then p else q)
tells_when t true p q h g = h
tells_when t false p q h g = g

pub tells_concat : (t : Dtype) (axis k : ℕ) (sources : List (List ℕ)) (idx : List ℕ) → TellsIn t (concat_from axis k sources idx)
tells_concat t axis k [] idx = tells_const t (pos 0) (zero_in t)
tells_concat t axis k (s ∷ ss) idx =
    tells_when t (nat_lt (get_or idx axis 0) (get_or s axis 0)) (From k idx) (concat_from axis (k + 1) ss (set idx axis (get_or idx axis 0 - get_or s axis 0)))
    (tells_from t k idx) (tells_concat t axis (k + 1) ss (set idx axis (get_or idx axis 0 - get_or s axis 0)))

-- ---- one value

in_range_true : (t : Dtype) (x : ℤ) → in_range t x ≡ true → InRange t x
in_range_true t x h = search rules

truth_in : (t : Dtype) (b : Bool) → InRange t (literal_number (Truth b))
truth_in t true = one_in t
truth_in t false = zero_in t

literal_in : (t : Dtype) (v : Literal) → suits t v ≡ true → InRange t (literal_number v)
literal_in t (Int x) h = in_range_true t x (and_parts _ _ h).1
literal_in t (Truth b) h = truth_in t b

pub full_typed : (shape : List ℕ) (t : Dtype) (v : Literal) (chunk : List ℕ) (i : NodeInfo) → typed_full shape t v chunk ≡ Ok i → InRange i.dtype (literal_number v)
full_typed shape t v chunk i h =
    let a = check_step_ok (suits t v) (fault Scalar) (λ _. check (length chunk == length shape) (fault Shape) >>= λ _. limited t shape chunk) i h in
    let b = checked_array (length chunk == length shape) (fault Shape) t shape chunk i a.1 in
    rw b.1.dtype (literal_in t v a.0)

-- ---- numbers at equal steps

-- what lies between the first and the last of them
between_up : (lo hi start : ℤ) (s k m : ℕ) → k ≤ m → (lo ≤ℤ (start +ℤ pos 0 *ℤ pos s)) → ((start +ℤ pos m *ℤ pos s) ≤ℤ hi) → (lo ≤ℤ (start +ℤ pos k *ℤ pos s)) × ((start +ℤ pos k *ℤ pos s) ≤ℤ hi)
between_up lo hi start s k m le low high =
    let p : k * s ≤ m * s = mul-le k s m s le (omega arith) in
    let first = rw (pos-*ℤ-pos 0 s) at low in
    let last = rw (pos-*ℤ-pos m s) at high in
    rw (pos-*ℤ-pos k s) (omega (arith, ints), omega (arith, ints))

between : (lo hi start step : ℤ) (k m : ℕ) → k ≤ m → (lo ≤ℤ (start +ℤ pos 0 *ℤ step)) × ((start +ℤ pos 0 *ℤ step) ≤ℤ hi) → (lo ≤ℤ (start +ℤ pos m *ℤ step)) × ((start +ℤ pos m *ℤ step) ≤ℤ hi)
    → (lo ≤ℤ (start +ℤ pos k *ℤ step)) × ((start +ℤ pos k *ℤ step) ≤ℤ hi)
between lo hi start (pos s) k m le first last = between_up lo hi start s k m le first.0 last.1
between lo hi start (negsuc s) k m le first last =
    let p : k * suc s ≤ m * suc s = mul-le k (suc s) m (suc s) le (omega arith) in
    let a = first.1 in
    let b = last.0 in
    (omega (arith, ints), omega (arith, ints))

number_in : (t : Dtype) (start step : ℤ) (n k : ℕ) → holds_ends t start step n ≡ true → k < n → InRange t (start +ℤ pos k *ℤ step)
unfolding holds_ends
number_in t start step n k h l =
    let some : (n == 0) ≡ false = ne_eqb n 0 (λ none. let never : ⊥ = omega arith in never) in
    let ends : (in_range t (arange_element start step 0) && in_range t (arange_element start step (n - 1))) ≡ true = rw some at h in
    let both = and_parts (in_range t (arange_element start step 0)) (in_range t (arange_element start step (n - 1))) ends in
    between (least t) (greatest t) start step k (n - 1) (omega arith) (in_range_true t (arange_element start step 0) both.0) (in_range_true t (arange_element start step (n - 1)) both.1)

-- what typing gave of a range: its rank, and that each number is one of the type
pub record IsNumbers (start step : ℤ) (i : NodeInfo) : Type 0 where
  pub rank : length i.dims ≡ 1
  pub numbers : (idx : List ℕ) → IsInside i.dims idx → InRange i.dtype (start +ℤ pos (get_or idx 0 0) *ℤ step)

pub arange_typed : (start stop step : ℤ) (t : Dtype) (chunk : List ℕ) (i : NodeInfo) → typed_arange start stop step t chunk ≡ Ok i → IsNumbers start step i
arange_typed start stop step t chunk i h =
    let n = arange_count start stop step in
    let a = check_step_ok (is_integer t) (fault Kind) (λ _. typed_numbers start step n t chunk) i h in
    let whole : Bool = not (int_eq step (pos 0)) in
    let b = check_step_ok (holds_ends t start step n) (fault Scalar) (λ _. check whole (fault Index) >>= λ _. check (length chunk == 1) (fault Shape) >>= λ _. limited t (n ∷ []) chunk) i a.1 in
    let c = check_step_ok whole (fault Index) (λ _. check (length chunk == 1) (fault Shape) >>= λ _. limited t (n ∷ []) chunk) i b.1 in
    let d = checked_array (length chunk == 1) (fault Shape) t (n ∷ []) chunk i c.1 in
    let long : length i.dims ≡ 1 = ap (λ (ns : List ℕ). length ns) d.1.dims in
    let first : get_or i.dims 0 0 ≡ n = ap (λ (ns : List ℕ). get_or ns 0 0) d.1.dims in
    record {
      rank = long;
      numbers = λ idx inside.
          let below = inside_at i.dims idx 0 inside (omega arith) in
          rw d.1.dtype (number_in t start step n (get_or idx 0 0) b.0 (omega arith));
    }

pub eye_typed : (rows cols : ℕ) (t : Dtype) (chunk : List ℕ) (i : NodeInfo) → typed_eye rows cols t chunk ≡ Ok i → length i.dims ≡ 2
eye_typed rows cols t chunk i h =
    let a = check_step_ok (is_integer t) (fault Kind) (λ _. check (length chunk == 2) (fault Shape) >>= λ _. limited t (rows ∷ cols ∷ []) chunk) i h in
    let b = checked_array (length chunk == 2) (fault Shape) t (rows ∷ cols ∷ []) chunk i a.1 in
    ap (λ (ns : List ℕ). length ns) b.1.dims
