-- Rows of elements, and a row of results that takes them.
use Rattle.std.proofs.Common.{◌≡◌, ◌≢◌, ℕ, ◌+◌, ◌-◌, ◌*◌, ◌<◌, ◌≤◌, ℤ, to_z, of_z, pos, negsuc, neg_ℤ, ◌+ℤ◌, ◌≤ℤ◌, ◌^◌, List, [], ◌∷◌, ◌++◌, map, length, inl, inr, refl, sym, ap, ◌∙◌, subst, arith, ⊎_elim}
use Rattle.std.specs.List.{range_with_len}
use Rattle.std.specs.Int.{w32}
use Rattle.std.specs.Prelude.{FitsSigned}
use Rattle.std.proofs.lemmas.Int.{ints, to_z-of_z}
use Rattle.std.proofs.lemmas.Bool.{cases_lt}
use Rattle.std.proofs.lemmas.List.FromFn.{map-range_with_len_more}
use Rattle.cu_num.specs.Dtype.{size_of, InRange}
use Rattle.cu_num.specs.Wrap.{wrapped}
use Rattle.cu_num.specs.Element.{element_at, element_bytes, bytes_at}
use Rattle.cu_num.proofs.ElementBytes.{written_at, bytes_at-written_at_same, length-element_bytes}
use Rattle.cu_num.proofs.Wrapped.{wrapped_in_range}
use Rattle.cu_num.specs.declared.types.Dtype.{Dtype}
use Rattle.cu_num.specs.declared.types.Dtype.TheVariants as t
use Rattle.cu_num.specs.declared.layout.Endian.TheVariants.{Little}
use Rattle.cu_num.specs.declared.folds.FoldKind.{FoldKind}
use Rattle.cu_num.specs.declared.folds.FoldKind.TheVariants.{Sum}
use Rattle.cu_reduce.specs.Kinds.{combined, Accumulates}
use Rattle.cu_reduce.specs.Running.{running}
use Rattle.cu_reduce.proofs.Combined.{taken_in_range}
use Rattle.cu_reduce.specs.Folds.{exact_sum}
use Rattle.cu_reduce.proofs.Folding.{fold_append, running_fold, running_in_range, wrapped_second}
use Rattle.cu_reduce.proofs.Ranges.{range_append, map_ranges, map-append}
use Rattle.cu_take.specs.Taken.{HasTaken, IsOutside, elements_at_places, column_places}
use Rattle.cu_take.proofs.Buffers.{number_read}
use Rattle.cu_take.proofs.Taking.{taken_element, takes_more, takes_none, takes_same}

-- ---- one result

-- numbers that a result takes at once
pub takes_all : (kind : FoldKind) (acc : Dtype) (old new : List ℕ) (q : ℕ) (xs : List ℤ)
    (own total : ℤ)
    → q * size_of acc + size_of acc ≤ length old → own ≡ element_at Little acc old q
    → total ≡ running kind acc own xs
    → new ≡ written_at acc old q (element_bytes Little acc total) → HasTaken kind acc old new q xs
takes_all kind acc old new q xs own total fits is made written = record {
  number = λ x f has.
      let before : own ≡ x = is ∙ number_read acc old q x has ∙ wrapped_in_range acc x f in
      ap (λ all. bytes_at acc all q) written ∙ bytes_at-written_at_same acc old _ q
      (length-element_bytes Little acc total) fits
      ∙ ap (element_bytes Little acc) (made ∙ ap (λ z. running kind acc z xs) before);
}

-- one number, which is wrapped before
pub one_more : (kind : FoldKind) (from acc : Dtype) (own x next total : ℤ)
    → Accumulates kind from acc → InRange acc own → InRange from x
    → next ≡ wrapped acc x → total ≡ wrapped acc (combined kind own next)
    → total ≡ running kind acc own (x ∷ [])
one_more kind from acc own x next total a f g is made =
    made ∙ ap (λ z. wrapped acc (combined kind own z)) is
    ∙ wrapped_second kind from acc own x a (taken_in_range kind acc own f)
    (taken_element kind from acc x a g)

-- four numbers, one after another
pub each_more : (kind : FoldKind) (acc : Dtype) (own w x y z one two three four : ℤ)
    → one ≡ running kind acc own (w ∷ [])
    → two ≡ running kind acc one (x ∷ []) → three ≡ running kind acc two (y ∷ [])
    → four ≡ running kind acc three (z ∷ [])
    → four ≡ running kind acc own (w ∷ x ∷ y ∷ z ∷ [])
each_more kind acc own w x y z one two three four a b c d =
    let next : ℤ → ℤ → ℤ = λ v n. running kind acc v (n ∷ []) in
    d ∙ ap (λ v. next v z) (c ∙ ap (λ v. next v y) (b ∙ ap (λ v. next v x) a))

-- four numbers at once, by their sum
sum_more : (from acc : Dtype) (own w x y z : ℤ) → Accumulates Sum from acc → InRange acc own
    → wrapped acc (own +ℤ (w +ℤ x +ℤ y +ℤ z)) ≡ running Sum acc own (w ∷ x ∷ y ∷ z ∷ [])
sum_more from acc own w x y z a f =
    let xs : List ℤ = w ∷ x ∷ y ∷ z ∷ [] in
    sym (sym (wrapped_in_range acc (running Sum acc own xs) (running_in_range Sum acc own xs f))
    ∙ running_fold Sum from acc own xs a tt tt (λ k d b. tt)
    ∙ ap (wrapped acc) (let e : own +ℤ (w +ℤ (x +ℤ (y +ℤ (z +ℤ pos 0))))
    ≡ own +ℤ (w +ℤ x +ℤ y +ℤ z) = omega (arith, ints) in e))

pub sum_taken : (kind : FoldKind) (from acc : Dtype) (own w x y z sum next total : ℤ) → kind ≡ Sum
    → Accumulates kind from acc → InRange acc own
    → sum ≡ w +ℤ x +ℤ y +ℤ z → next ≡ wrapped acc sum → total ≡ wrapped acc (combined kind own next)
    → total ≡ running kind acc own (w ∷ x ∷ y ∷ z ∷ [])
sum_taken kind from acc own w x y z sum next total e a f is there made =
    let P : FoldKind → Type 0 = λ k. Accumulates k from acc
    → total ≡ wrapped acc (combined k own next) → total ≡ running k acc own (w ∷ x ∷ y ∷ z ∷ []) in
    subst P (sym e)
    (λ b eq. eq ∙ ap (λ v. wrapped acc (own +ℤ v)) (there ∙ ap (wrapped acc) is)
    ∙ wrapped_second Sum from acc own (w +ℤ x +ℤ y +ℤ z) b tt tt
    ∙ sum_more from acc own w x y z b f)
    a made

-- numbers of so few bits fit 32
pub short_fits : (x : ℤ) → neg_ℤ (pos (2 ^ 18)) ≤ℤ x → x ≤ℤ pos (2 ^ 18) → FitsSigned w32 x
short_fits (pos n) l h = record { sfits = omega (arith, ints, h) }
short_fits (negsuc n) l h = record { sfits = omega (arith, ints, l) }

-- from -2^16 to 2^16
pub record IsShort (x : ℤ) : Type 0 where
  pub low : neg_ℤ (pos (2 ^ 16)) ≤ℤ x
  pub high : x ≤ℤ pos (2 ^ 16)

as_word : ℤ → ℤ
as_word x = to_z w32 (of_z w32 x)

word_same : (x y : ℤ) → x ≡ y → neg_ℤ (pos (2 ^ 18)) ≤ℤ y → y ≤ℤ pos (2 ^ 18) → as_word x ≡ y
unfolding as_word
word_same x y e l h = ap as_word e ∙ to_z-of_z w32 y (short_fits y l h)

-- the sum of four, made in words of 32 bits
pub short_added : (w x y z : ℤ) → IsShort w → IsShort x → IsShort y → IsShort z
    → to_z w32 (of_z w32 (to_z w32 (of_z w32 (to_z w32 (of_z w32 (to_z w32 (of_z w32 w)
    +ℤ to_z w32 (of_z w32 x))) +ℤ to_z w32 (of_z w32 y))) +ℤ to_z w32 (of_z w32 z)))
    ≡ w +ℤ x +ℤ y +ℤ z
unfolding as_word
short_added w x y z a b c d =
    let one : as_word w ≡ w = word_same w w refl (omega (arith, ints, a.low))
    (omega (arith, ints, a.high)) in
    let two : as_word (as_word w +ℤ as_word x) ≡ w +ℤ x =
    word_same _ (w +ℤ x) (λ i. one i +ℤ word_same x x refl (omega (arith, ints, b.low))
    (omega (arith, ints, b.high)) i)
    (omega (arith, ints, a.low, b.low)) (omega (arith, ints, a.high, b.high)) in
    let three : as_word (as_word (as_word w +ℤ as_word x) +ℤ as_word y) ≡ w +ℤ x +ℤ y =
    word_same _ (w +ℤ x +ℤ y) (λ i. two i +ℤ word_same y y refl (omega (arith, ints, c.low))
    (omega (arith, ints, c.high)) i)
    (omega (arith, ints, a.low, b.low, c.low)) (omega (arith, ints, a.high, b.high, c.high)) in
    word_same _ (w +ℤ x +ℤ y +ℤ z) (λ i. three i +ℤ word_same z z refl (omega (arith, ints, d.low))
    (omega (arith, ints, d.high)) i)
    (omega (arith, ints, a.low, b.low, c.low, d.low))
    (omega (arith, ints, a.high, b.high, c.high, d.high))

-- numbers of types of at most 16 bits
pub short_range : (t : Dtype) (x : ℤ) → size_of t ≤ 2 → InRange t x → (neg_ℤ (pos (2 ^ 16)) ≤ℤ x) ×
    (x ≤ℤ pos (2 ^ 16))
short_range t.Bool x h f = (omega (arith, ints, f.0, f.1), omega (arith, ints, f.0, f.1))
short_range t.Int8 x h f = (omega (arith, ints, f.0, f.1), omega (arith, ints, f.0, f.1))
short_range t.Int16 x h f = (omega (arith, ints, f.0, f.1), omega (arith, ints, f.0, f.1))
short_range t.Int32 x h f = absurd (omega arith)
short_range t.Int64 x h f = absurd (omega arith)
short_range t.Uint8 x h f = (omega (arith, ints, f.0, f.1), omega (arith, ints, f.0, f.1))
short_range t.Uint16 x h f = (omega (arith, ints, f.0, f.1), omega (arith, ints, f.0, f.1))
short_range t.Uint32 x h f = absurd (omega arith)
short_range t.Uint64 x h f = absurd (omega arith)

-- ---- a column of elements, and their sum

added_last : (x y : ℤ) → x +ℤ (y +ℤ pos 0) ≡ x +ℤ y
added_last x y = omega (arith, ints)

-- one element more
pub column_sum : (t : Dtype) (bytes : List ℕ) (place width k j : ℕ)
    → exact_sum (elements_at_places t bytes (column_places place width (k + 1) j))
    ≡ exact_sum (elements_at_places t bytes (column_places place width k j))
    +ℤ element_at Little t bytes (place + k * width + j)
column_sum t bytes place width k j =
    let f : ℕ → ℕ = λ n. place + n * width + j in
    let element : ℕ → ℤ = λ p. element_at Little t bytes p in
    let xs = elements_at_places t bytes (column_places place width k j) in
    ap (λ ps. exact_sum (map element ps)) (map-range_with_len_more f 0 k k
    (let e : 0 + k ≡ k = omega arith in e))
    ∙ ap exact_sum (map-append element (column_places place width k j) (f k ∷ []))
    ∙ fold_append Sum xs (element (f k) ∷ []) tt tt ∙ added_last (exact_sum xs) (element (f k))

-- ---- a row of results

-- results before number j have taken theirs, and no other has changed
pub record RowTaken (kind : FoldKind) (acc : Dtype) (old new : List ℕ) (q : ℕ) (xs : ℕ → List ℤ)
    (j : ℕ) : Type 0 where
  pub done : (i : ℕ) → i < j → HasTaken kind acc old new (q + i) (xs i)
  pub left : (p : ℕ) → IsOutside q (q + j) p → bytes_at acc new p ≡ bytes_at acc old p

pub row_begins : (kind : FoldKind) (acc : Dtype) (old : List ℕ) (q : ℕ) (xs : ℕ → List ℤ)
    → RowTaken kind acc old old q xs 0
row_begins kind acc old q xs = record { done = λ i b. absurd (omega arith); left = λ p o. refl }

-- one result more
pub row_more : (kind : FoldKind) (acc : Dtype) (old mid new : List ℕ) (q : ℕ) (xs : ℕ → List ℤ)
    (j : ℕ)
    → RowTaken kind acc old mid q xs j → HasTaken kind acc mid new (q + j) (xs j)
    → ((p : ℕ) → p ≢ q + j → bytes_at acc new p ≡ bytes_at acc mid p)
    → RowTaken kind acc old new q xs (j + 1)
row_more kind acc old mid new q xs j h g others = record {
  done = λ i b. ⊎_elim
      (λ less. takes_same kind acc old new old mid (q + i) (q + i) (xs i) refl
      (others (q + i) (λ e. omega arith)) (h.done i less))
      (λ past. let same : j ≡ i = omega arith in
      subst (λ k. HasTaken kind acc old new (q + k) (xs k)) same
      (takes_same kind acc old new mid new (q + j) (q + j) (xs j)
      (sym (h.left (q + j) (inr (omega arith)))) refl g))
      (cases_lt i j);
  left = λ p o. ⊎_elim
      (λ less. others p (λ e. omega arith) ∙ h.left p (inl less))
      (λ past. others p (λ e. omega arith) ∙ h.left p (inr (omega arith)))
      o;
}

-- so many results more
pub results_more : (kind : FoldKind) (acc : Dtype) (old mid new : List ℕ) (q : ℕ)
    (xs : ℕ → List ℤ) (j n : ℕ) → RowTaken kind acc old mid q xs j
    → ((i : ℕ) → i < n → HasTaken kind acc mid new (q + j + i) (xs (j + i)))
    → ((p : ℕ) → IsOutside (q + j) (q + j + n) p → bytes_at acc new p ≡ bytes_at acc mid p)
    → RowTaken kind acc old new q xs (j + n)
results_more kind acc old mid new q xs j n h g others = record {
  done = λ i b. ⊎_elim
      (λ less. takes_same kind acc old new old mid (q + i) (q + i) (xs i) refl
      (others (q + i) (inl (omega arith))) (h.done i less))
      (λ past. let k = i - j in
      let at : q + j + k ≡ q + i = omega arith in
      let own : j + k ≡ i = omega arith in
      let taken : HasTaken kind acc mid new (q + i) (xs i) =
      subst (λ m. HasTaken kind acc mid new (q + i) (xs m)) own
      (subst (λ p. HasTaken kind acc mid new p (xs (j + k))) at (g k (omega arith))) in
      takes_same kind acc old new mid new (q + i) (q + i) (xs i)
      (sym (h.left (q + i) (inr (omega arith)))) refl taken)
      (cases_lt i j);
  left = λ p o. ⊎_elim
      (λ less. others p (inl (omega arith)) ∙ h.left p (inl less))
      (λ past. others p (inr (omega arith)) ∙ h.left p (inr (omega arith)))
      o;
}

-- ---- more rows

pub no_rows : (kind : FoldKind) (from acc : Dtype) (input old : List ℕ) (q place width j : ℕ)
    → HasTaken kind acc old old q (elements_at_places from input (column_places place width 0 j))
no_rows kind from acc input old q place width j = takes_none kind acc old old q refl

pub column_one : (place width j : ℕ) → (place + j) ∷ [] ≡ column_places place width 1 j
column_one place width j = ap (λ p. p ∷ []) (let e : place + j ≡ place + 0 * width + j =
    omega arith in e)

pub column_four : (place width j : ℕ)
    → (place + j) ∷ (place + j + width) ∷ (place + j + 2 * width) ∷ (place + j + 3 * width) ∷ []
    ≡ column_places place width 4 j
column_four place width j =
    let a : place + j ≡ place + 0 * width + j = omega arith in
    let b : place + j + width ≡ place + 1 * width + j = omega arith in
    let c : place + j + 2 * width ≡ place + 2 * width + j = omega arith in
    let d : place + j + 3 * width ≡ place + 3 * width + j = omega arith in
    (λ i. a i ∷ b i ∷ c i ∷ d i ∷ [])

pub rows_left : (place width k left : ℕ) → place + k * width + left * width
    ≡ place + (k + left) * width
rows_left place width k left = omega arith

pub column_later : (place step count j i : ℕ) → column_places (place + j) step count i
    ≡ column_places place step count (j + i)
column_later place step count j i = map_ranges (λ k. place + j + k * step + i)
    (λ k. place + k * step + (j + i)) 0 0 count (λ k b. let e : place + j + (0 + k) * step + i
    ≡ place + (0 + k) * step + (j + i) = omega arith in e)

pub column_more : (place width m n j : ℕ)
    → column_places place width (m + n) j ≡ column_places place width m j ++ column_places (place + m * width) width n j
column_more place width m n j =
    let f : ℕ → ℕ = λ k. place + k * width + j in
    let g : ℕ → ℕ = λ k. place + m * width + k * width + j in
    ap (map f) (sym (range_append 0 m n)) ∙ map-append f (range_with_len 0 m)
    (range_with_len (0 + m) n)
    ∙ ap (λ xs. map f (range_with_len 0 m) ++ xs)
    (map_ranges f g (0 + m) 0 n (λ k b. let e : place + (0 + m + k) * width + j
    ≡ place + m * width + (0 + k) * width + j = omega arith in e))

pub takes_more_rows : (kind : FoldKind) (from acc : Dtype) (input old mid new : List ℕ)
    (q place width m n j : ℕ)
    → HasTaken kind acc old mid q (elements_at_places from input (column_places place width m j))
    → HasTaken kind acc mid new q (elements_at_places from input
    (column_places (place + m * width) width n j))
    → HasTaken kind acc old new q (elements_at_places from input (column_places place width (m + n) j))
takes_more_rows kind from acc input old mid new q place width m n j h g =
    let f : ℕ → ℤ = λ p. element_at Little from input p in
    let first = column_places place width m j in
    let next = column_places (place + m * width) width n j in
    subst (HasTaken kind acc old new q) (sym (ap (map f) (column_more place width m n j)
    ∙ map-append f first next))
    (takes_more kind acc old mid new q (elements_at_places from input first)
    (elements_at_places from input next) h g)
