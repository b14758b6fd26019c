-- Arrays element by element, from their bytes.
use Rattle.std.proofs.Common.{◌≡◌, ℕ, zero, suc, ◌+◌, ◌<◌, ℤ, List, [], ◌∷◌, ◌++◌, length, take, All, Some, refl, sym, ap, ◌∙◌, subst, inl, inr, length-append, arith}
use Rattle.std.specs.Prelude.{slice_get}
use Rattle.std.proofs.lemmas.Bool.Decides.{eqb_tells}
use Rattle.std.proofs.lemmas.List.{take-append-le, take_all}
use Rattle.std.proofs.lemmas.Option.{get_or_from_slice_get}
use Rattle.cu_num.specs.Dtype.{InRange}
use Rattle.cu_num.specs.Element.{element_at}
use Rattle.cu_num.specs.declared.types.Dtype.{Dtype}
use Rattle.cu_num.specs.declared.layout.Endian.TheVariants.{Little}
use Rattle.cu_num.proofs.Wrapped.{InRange-wrapped}
use Rattle.cu_shape.specs.Index.{product, index_at}
use Rattle.cu_shape.proofs.Places.{index-inside, place-index}
use Rattle.cu_grid.specs.Grid.{IsGrid}
use Rattle.cu_expr.specs.declared.inputs.InputInfo.{InputInfo}
use Rattle.cu_mean.specs.Plain.{PlainArray, IsPlain}
use Rattle.cu_store.specs.Steps.{Shown, NoChange}
use Rattle.cu_command.specs.Seen.{Stepped}
use Rattle.cu_check.specs.Chunks.{HasAllSteady, AtEachEntry}
use Rattle.cu_check.specs.Plains.{AreNumbers, IsReadArray, AreSameBelow}

pub element_in_range : (t : Dtype) (bytes : List ℕ) (at : ℕ) → InRange t (element_at Little t bytes at)
unfolding element_at
element_in_range t bytes at = InRange-wrapped t _

-- a list that was written over the whole of another
pub written_over : (n : ℕ) (new rest : List ℕ) → length new ≡ n → take n (new ++ rest) ≡ new
written_over n new rest long = take-append-le n new rest (omega arith) ∙ take_all n new (omega arith)

pub no_numbers : (t : Dtype) (bytes : List ℕ) → AreNumbers t bytes 0 []
no_numbers t bytes = record { count = refl; each = λ p below. absurd (omega arith) }

-- the last of a longer list
last_of : (xs : List ℤ) (x : ℤ) → slice_get (xs ++ x ∷ []) (length xs) ≡ Some x
last_of [] x = refl
last_of (y ∷ xs) x = last_of xs x

front_of : (xs : List ℤ) (x : ℤ) (p : ℕ) → p < length xs → slice_get (xs ++ x ∷ []) p ≡ slice_get xs p
front_of [] x p below = absurd (omega arith)
front_of (y ∷ xs) x zero below = refl
front_of (y ∷ xs) x (suc p) below = front_of xs x p (omega arith)

pub more_numbers : (t : Dtype) (bytes : List ℕ) (n : ℕ) (old new : List ℤ) (x : ℤ) → AreNumbers t bytes n old → new ≡ old ++ x ∷ [] → x ≡ element_at Little t bytes n → AreNumbers t bytes (n + 1) new
more_numbers t bytes n old new x are pushed is = subst (AreNumbers t bytes (n + 1)) (sym pushed) (record {
  count = length-append old (x ∷ []) ∙ ap (λ k. k + 1) are.count;
  each = λ p below.
      elim (eqb_tells p n) [
        | inl same ↦
            let here : p ≡ length old = same.1 ∙ sym are.count in
            ap (slice_get (old ++ x ∷ [])) here ∙ last_of old x ∙ ap Some (is ∙ ap (element_at Little t bytes) (sym same.1))
        | inr apart ↦
            let other = apart.1 in
            let long = are.count in
            front_of old x p (omega arith) ∙ are.each p (omega arith)
      ];
})

-- the same count in other words
pub are_counted : (t : Dtype) (bytes : List ℕ) (n m : ℕ) (cells : List ℤ) → AreNumbers t bytes n cells → n ≡ m → AreNumbers t bytes m cells
are_counted t bytes n m cells are same = subst (λ (k : ℕ). AreNumbers t bytes k cells) same are

pub numbers_in_range : (t : Dtype) (bytes : List ℕ) (n : ℕ) (cells : List ℤ) → AreNumbers t bytes n cells → All (InRange t) cells
numbers_in_range t bytes n cells are k d below =
    let long = are.count in
    subst (InRange t) (sym (get_or_from_slice_get cells k (element_at Little t bytes k) d (are.each k (omega arith)))) (element_in_range t bytes k)

-- an array of the numbers of the bytes that were read
pub is_read : (a : InputInfo) (bytes : List ℕ) (cells : List ℤ) (p : PlainArray) (now entry : Shown) → IsGrid a.layout.grid → p ≡ record { dtype = a.layout.dtype; dims = a.layout.grid.shape; cells = cells } → IsPlain p
    → AreNumbers a.layout.dtype bytes (product a.layout.grid.shape) cells → AtEachEntry now (HasAllSteady a bytes) → Stepped NoChange entry now → IsReadArray entry a p
is_read a bytes cells p now entry grid is plain are stored step = record {
  grid = grid;
  plain = plain;
  dtype = ap (λ (q : PlainArray). q.dtype) is;
  dims = ap (λ (q : PlainArray). q.dims) is;
  elements = λ place below held told steady.
      stored entry step (index_at a.layout.grid.shape place) (index-inside a.layout.grid.shape place below) held told steady
      ∙ ap (λ (at : ℕ). Some (element_at Little a.layout.dtype bytes at)) (place-index a.layout.grid.shape place below)
      ∙ sym (are.each place below) ∙ sym (ap (λ (q : PlainArray). slice_get q.cells place) is);
}

-- ---- comparison

pub none_same : (t : Dtype) (bytes : List ℕ) (cells : List ℤ) → AreSameBelow t bytes cells 0
none_same t bytes cells p below = absurd (omega arith)

-- one more element
pub same_more : (t : Dtype) (bytes : List ℕ) (cells : List ℤ) (n : ℕ) (stored plain : ℤ) → AreSameBelow t bytes cells n → stored ≡ element_at Little t bytes n → slice_get cells n ≡ Some plain → stored ≡ plain
    → AreSameBelow t bytes cells (n + 1)
same_more t bytes cells n stored plain same is there equal p below =
    elim (eqb_tells p n) [
      | inl here ↦ ap (slice_get cells) here.1 ∙ there ∙ ap Some (sym equal ∙ is ∙ ap (element_at Little t bytes) (sym here.1))
      | inr apart ↦ let other = apart.1 in same p (omega arith)
    ]
