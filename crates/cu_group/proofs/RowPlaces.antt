-- Rows of the groups in a buffer, and what each element of them is made of.
use Rattle.std.proofs.Common.{◌≡◌, ℕ, zero, suc, ◌+◌, ◌*◌, ◌<◌, ◌≤◌, ℤ, true, false, List, [], ◌∷◌, ◌++◌, map, cond, ◌⊎◌, inl, inr, refl, sym, ap, ◌∙◌, subst, arith, ⊎_elim, mul-le-mul_right, mul-le-mul_left}
use Rattle.std.specs.Prelude.{◌==◌, Bool as Test}
use Rattle.std.specs.List.{range_with_len, filter}
use Rattle.std.proofs.lemmas.Bool.{cases_lt}
use Rattle.std.proofs.lemmas.Bool.Decides.{nat_tests}
use Rattle.std.proofs.lemmas.List.Elements.{filter-append}
use Rattle.cu_num.specs.Element.{element_at, bytes_at}
use Rattle.cu_num.specs.declared.types.Dtype.{Dtype}
use Rattle.cu_num.specs.declared.layout.Endian.TheVariants.{Little}
use Rattle.cu_num.specs.declared.folds.FoldKind.{FoldKind}
use Rattle.cu_reduce.proofs.Ranges.{range_append, map_ranges, map-append}
use Rattle.cu_reduce.proofs.Regions.{append_none}
use Rattle.cu_take.specs.Taken.{HasTaken, IsOutside, elements_at_places, column_places}
use Rattle.cu_take.proofs.Taking.{takes_more}
use Rattle.cu_reduce.specs.Labels.{is_label, members}
use Rattle.cu_group.specs.Regions.{row_sources}

-- ---- a run of rows more

-- of places that all pass a test, or none
filter_run : (p : ℕ → Test) (own : Test) (a n : ℕ) → ((i : ℕ) → a ≤ i → i < a + n → p i ≡ own)
    → filter p (range_with_len a n) ≡ cond own (range_with_len a n) []
filter_run p true a zero h = refl
filter_run p false a zero h = refl
filter_run p true a (suc n) h =
    (λ i. cond (h a (omega arith) (omega arith) i) (a ∷ filter_run p true (a + 1) n (λ k l b. h k
    (omega arith) (omega arith)) i) (filter p (range_with_len (a + 1) n)))
filter_run p false a (suc n) h =
    (λ i. cond (h a (omega arith) (omega arith) i) (a ∷ filter p (range_with_len (a + 1) n))
    (filter_run p false (a + 1) n (λ k l b. h k (omega arith) (omega arith)) i))

-- whether rows from k on have a label
HasRun : (ℕ → ℤ) → ℕ → Test → ℕ → ℕ → Type 0
HasRun label q own k end = (i : ℕ) → k ≤ i → i < end → is_label q (label i) ≡ own

sources_more : (label : ℕ → ℤ) (inner first k n q j : ℕ) (own : Test)
    → HasRun label q own k (k + n)
    → row_sources label inner first (k + n) q j
    ≡ row_sources label inner first k q j ++ map (λ i. (first + i) * inner + j)
    (cond own (range_with_len k n) [])
unfolding HasRun
sources_more label inner first k n q j own h =
    let f : ℕ → ℕ = λ i. (first + i) * inner + j in
    let p : ℕ → Test = λ i. is_label q (label i) in
    let s : 0 + k ≡ k = omega arith in
    ap (λ ks. map f (members label q ks)) (sym (range_append 0 k n))
    ∙ ap (map f) (filter-append p (range_with_len 0 k) (range_with_len (0 + k) n))
    ∙ map-append f (members label q (range_with_len 0 k)) (members label q (range_with_len
    (0 + k) n))
    ∙ ap (λ ks. row_sources label inner first k q j ++ map f ks)
    (ap (λ a. filter p (range_with_len a n)) s ∙ filter_run p own k n h)

run_column : (inner first k n j : ℕ)
    → map (λ i. (first + i) * inner + j) (range_with_len k n)
    ≡ column_places ((first + k) * inner) inner n j
run_column inner first k n j =
    map_ranges (λ i. (first + i) * inner + j) (λ i. (first + k) * inner + i * inner + j) k 0 n
    (λ i b. let e : (first + (k + i)) * inner + j
    ≡ (first + k) * inner + (0 + i) * inner + j = omega arith in e)

-- the elements of rows that are taken
pub takes_run : (kind : FoldKind) (from acc : Dtype) (input old mid new : List ℕ) (label : ℕ
    → ℤ) (inner first k n end q j at : ℕ) → k + n ≡ end
    → ((i : ℕ) → k ≤ i → i < end → is_label q (label i) ≡ true)
    → HasTaken kind acc old mid at (elements_at_places from input
    (row_sources label inner first k q j))
    → HasTaken kind acc mid new at (elements_at_places from input
    (column_places ((first + k) * inner) inner n j))
    → HasTaken kind acc old new at (elements_at_places from input
    (row_sources label inner first end q j))
unfolding HasRun
takes_run kind from acc input old mid new label inner first k n end q j at e same h g =
    let f : ℕ → ℤ = λ p. element_at Little from input p in
    let own = row_sources label inner first k q j in
    let more = column_places ((first + k) * inner) inner n j in
    let run : HasRun label q true k (k + n) = λ i l b. same i l (omega arith) in
    let all : row_sources label inner first end q j ≡ own ++ more =
    ap (λ m. row_sources label inner first m q j) (sym e)
    ∙ sources_more label inner first k n q j true run
    ∙ ap (λ ps. own ++ ps) (run_column inner first k n j) in
    subst (HasTaken kind acc old new at) (sym (ap (map f) all ∙ map-append f own more))
    (takes_more kind acc old mid new at (elements_at_places from input own)
    (elements_at_places from input more) h g)

-- the elements of a row that stays
pub takes_no_run : (kind : FoldKind) (from acc : Dtype) (input old mid new : List ℕ) (label : ℕ
    → ℤ) (inner first k n end q j at : ℕ) → k + n ≡ end
    → ((i : ℕ) → k ≤ i → i < end → is_label q (label i) ≡ false)
    → HasTaken kind acc old mid at (elements_at_places from input
    (row_sources label inner first k q j))
    → bytes_at acc new at ≡ bytes_at acc mid at
    → HasTaken kind acc old new at (elements_at_places from input
    (row_sources label inner first end q j))
unfolding HasRun
takes_no_run kind from acc input old mid new label inner first k n end q j at e other h g =
    let own = row_sources label inner first k q j in
    let run : HasRun label q false k (k + n) = λ i l b. other i l (omega arith) in
    let same : row_sources label inner first end q j ≡ own =
    ap (λ m. row_sources label inner first m q j) (sym e)
    ∙ sources_more label inner first k n q j false run ∙ append_none own in
    subst (λ ps. HasTaken kind acc old new at (elements_at_places from input ps)) (sym same)
    (record { number = λ x f has. g ∙ h.number x f has })

-- ---- places of rows

pub row_inside : (base groups row inner : ℕ) → row < groups
    → (base + row) * inner + inner ≤ (base + groups) * inner
row_inside base groups row inner h =
    let e : (base + row) * inner + inner ≡ suc (base + row) * inner = omega arith in
    let m : suc (base + row) * inner
    ≤ (base + groups) * inner = mul-le-mul_right inner (omega arith) in
    omega (arith, e, m)

pub row_after : (base row inner : ℕ) → base * inner ≤ (base + row) * inner
row_after base row inner = mul-le-mul_right inner (omega arith)

-- an element of another row
pub other_row : (base q row inner j : ℕ) → (q ≡ row → ⊥) → j < inner
    → IsOutside ((base + row) * inner) ((base + row) * inner + inner) ((base + q) * inner + j)
other_row base q row inner j h less =
    ⊎_elim
    (λ before. let m = row_inside base row q inner before in inl (omega (arith, m, less)))
    (λ past. let m = row_inside base q row inner (omega arith) in inr (omega (arith, m, less)))
    (cases_lt q row)

-- a place outside all rows
pub outside_rows : (base groups row inner p : ℕ) → row < groups
    → IsOutside (base * inner) ((base + groups) * inner) p
    → IsOutside ((base + row) * inner) ((base + row) * inner + inner) p
outside_rows base groups row inner p h o =
    let low = row_after base row inner in
    let high = row_inside base groups row inner h in
    ⊎_elim (λ less. inl (omega (arith, less, low))) (λ past. inr (omega (arith, past, high))) o

-- a result that stays
pub takes_kept : (kind : FoldKind) (acc : Dtype) (old mid new : List ℕ) (q : ℕ) (xs : List ℤ)
    → bytes_at acc new q ≡ bytes_at acc mid q → HasTaken kind acc old mid q xs
    → HasTaken kind acc old new q xs
takes_kept kind acc old mid new q xs e h = record { number = λ x f has. e ∙ h.number x f has }

-- ---- tests and bounds

pub same_test : (q r : ℕ) → q ≡ r → (q == r) ≡ true
same_test q r e = grind (arith, nat_tests)

pub apart_test : (q r : ℕ) → (q ≡ r → ⊥) → (q == r) ≡ false
apart_test q r h = grind (arith, nat_tests)

pub same_or_apart : (q r : ℕ) → (q ≡ r) ⊎ (q ≡ r → ⊥)
same_or_apart q r = ⊎_elim (λ less. inr (λ e. omega arith)) (λ past. ⊎_elim (λ more. inr
    (λ e. omega arith)) (λ no. inl (omega arith)) (cases_lt r q)) (cases_lt q r)

-- a row of a buffer
pub row_bounds : (base groups row inner size long : ℕ) → row < groups → 0 < inner → 0 < size
    → (base + groups) * inner * size ≤ long
    → (base + row < long) × ((base + row) * inner ≤ long)
    × (((base + row) * inner + inner) * size ≤ long)
row_bounds base groups row inner size long h g s b =
    let end = (base + row) * inner + inner in
    let m = row_inside base groups row inner h in
    let all : end * size ≤ (base + groups) * inner * size = mul-le-mul_right size m in
    let bytes : end * 1 ≤ end * size = mul-le-mul_left end s in
    let rows : (base + row) * 1 ≤ (base + row) * inner = mul-le-mul_left (base + row) g in
    (omega (arith, all, bytes, rows), omega (arith, all, bytes), omega (arith, all))

-- the elements of a run of rows
pub run_bounds : (first count k n inner size long : ℕ) → k + n ≤ count
    → (first + count) * inner * size ≤ long → ((first + k) * inner + n * inner) * size ≤ long
run_bounds first count k n inner size long h b =
    let e : (first + k) * inner + n * inner ≡ (first + (k + n)) * inner = omega arith in
    let m : (first + (k + n)) * inner
    ≤ (first + count) * inner = mul-le-mul_right inner (omega arith) in
    let all : ((first + k) * inner + n * inner) * size
    ≤ (first + count) * inner * size = mul-le-mul_right size (omega (arith, e, m)) in
    omega (arith, all, b)

-- ---- blocks

-- the rows of a block end within the buffer
pub block_bounds : (outer count o inner size long : ℕ) → o < outer → 0 < inner → 0 < size
    → outer * count * inner * size ≤ long
    → (o * count ≤ long) × ((o * count + count) * inner * size ≤ long)
block_bounds outer count o inner size long h g s b =
    let e : o * count + count ≡ suc o * count = omega arith in
    let rows : suc o * count ≤ outer * count = mul-le-mul_right count h in
    let ends : o * count + count ≤ outer * count = omega (arith, e, rows) in
    let m : (o * count + count) * inner ≤ outer * count * inner = mul-le-mul_right inner ends in
    let all : (o * count + count) * inner * size
    ≤ outer * count * inner * size = mul-le-mul_right size m in
    let one : (o * count + count) * inner * 1
    ≤ (o * count + count) * inner * size = mul-le-mul_left ((o * count + count) * inner) s in
    let two : (o * count + count) * 1
    ≤ (o * count + count) * inner = mul-le-mul_left (o * count + count) g in
    (omega (arith, all, one, two, b), omega (arith, all, b))

-- an element of an earlier block, and one of a block
pub earlier_block : (o i groups q inner j : ℕ) → i < o → q < groups → j < inner
    → (i * groups + q) * inner + j < o * groups * inner
earlier_block o i groups q inner j h b l =
    let a = row_inside (i * groups) groups q inner b in
    let e : i * groups + groups ≡ suc i * groups = omega arith in
    let rows : suc i * groups ≤ o * groups = mul-le-mul_right groups h in
    let ends : i * groups + groups ≤ o * groups = omega (arith, e, rows) in
    let m : (i * groups + groups) * inner ≤ o * groups * inner = mul-le-mul_right inner ends in
    omega (arith, a, m, l)

pub block_after : (o groups inner : ℕ) → o * groups * inner ≤ (o * groups + groups) * inner
block_after o groups inner = mul-le-mul_right inner (omega arith)
