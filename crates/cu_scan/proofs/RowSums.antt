-- Rows of sums, one after another.
use Rattle.std.proofs.Common.{◌≡◌, ℕ, ℤ, zero, suc, pos, ◌+◌, ◌-◌, ◌+ℤ◌, ◌*◌, ◌<◌, ◌≤◌, List, [], ◌∷◌, take, length, refl, ap, ◌∙◌, subst, arith, ⊎_elim}
use Rattle.std.proofs.lemmas.Bool.{cases_lt}
use Rattle.std.proofs.lemmas.Int.{ints}
use Rattle.std.proofs.lemmas.Nat.{mul-le}
use Rattle.std.proofs.Math.IntN.{+ℤ_assoc}
use Rattle.std.proofs.Math.Nat.{mul-le-mul_right}
use Rattle.cu_num.specs.Dtype.{size_of, IsInteger}
use Rattle.cu_num.specs.Element.{element_at, element_bytes, bytes_at}
use Rattle.cu_num.specs.Wrap.{wrapped}
use Rattle.cu_num.proofs.ElementBytes.{element_at_same, InRange-element_at}
use Rattle.cu_num.specs.declared.types.Dtype.{Dtype}
use Rattle.cu_num.specs.declared.layout.Endian.TheVariants.{Little}
use Rattle.cu_reduce.specs.Numbers.{HasNumber}
use borrow.Rule.Slice.PartMut.{put_mid}
use Rattle.cu_pairs.proofs.BlockParts.{bytes_below}
use Rattle.cu_pairs.proofs.Parts.{part_inside}
use Rattle.cu_reduce.specs.Prefix.{sum_below}
use Rattle.cu_scan.specs.Scanned.{carried_at, row_element, column_sum, IsCarriedInto, AddsRow, KeepsRows, HasSummedRows, HasBlocks, StartsRow, HasTotal, HasTotals}
use Rattle.cu_scan.proofs.Buffers.{number_read, start_sum, more_summed}
use Rattle.cu_scan.proofs.Buffers.{number_added}

-- ---- what is carried in

pub given_none : (acc : Dtype) (carry : List ℕ) (p : ℕ) → length carry ≡ 0
    → carried_at acc carry p ≡ pos 0
given_none acc [] p e = refl
given_none acc (b ∷ bytes) p e = absurd (omega arith)

pub given_some : (acc : Dtype) (carry : List ℕ) (p : ℕ) → 0 < length carry
    → carried_at acc carry p ≡ element_at Little acc carry p
given_some acc [] p h = absurd (omega arith)
given_some acc (b ∷ bytes) p h = refl

-- ---- sizes

pub same_room : (m s own bytes : ℕ) → s ≡ own → m * own ≤ bytes → m * s ≤ bytes
same_room m s own bytes e h = let p : m * s ≡ m * own = ap (λ k. m * k) e in omega arith

-- a row that has bytes has a small number
pub row_small : (row inner more size bytes : ℕ) → 0 < inner → 0 < size
    → (row * inner + more) * size ≤ bytes → row ≤ bytes
row_small row inner more size bytes some own h =
    let p : row * 1 ≤ row * inner = mul-le row 1 row inner (omega arith) some in
    let q : (row * inner + more) * 1
    ≤ (row * inner + more) * size = mul-le (row * inner + more) 1 (row * inner + more) size
    (omega arith) own in
    omega arith

-- the element before a row's end
pub before_row : (r row inner q size from : ℕ) → r < row → q < inner → from ≡ row * inner * size
    → (r * inner + q) * size + size ≤ from
before_row r row inner q size from less b e =
    let p : suc r * inner ≤ row * inner = mul-le-mul_right inner less in
    let l : suc (r * inner + q) ≤ row * inner = omega arith in
    let m : suc (r * inner + q) * size ≤ row * inner * size = mul-le-mul_right size l in
    omega arith

pub rows_reach : (start rows done inner size bytes : ℕ) → done < rows - 1
    → (start + rows) * inner * size ≤ bytes → (suc (start + done) * inner + inner) * size ≤ bytes
rows_reach start rows done inner size bytes b h =
    let p : suc (suc (start + done)) * inner
    ≤ (start + rows) * inner = mul-le-mul_right inner (let l : suc (suc (start + done))
    ≤ start + rows = omega arith in l) in
    let l : suc (start + done) * inner + inner ≤ (start + rows) * inner = omega arith in
    let m : (suc (start + done) * inner + inner) * size
    ≤ (start + rows) * inner * size = mul-le-mul_right size l in
    omega arith

-- ---- an element of the first bytes

pub element_before : (t : Dtype) (bytes : List ℕ) (from p : ℕ)
    → p * size_of t + size_of t ≤ from
    → element_at Little t (take from bytes) p ≡ element_at Little t bytes p
element_before t bytes from p less = element_at_same Little t (take from bytes) bytes p p
    (part_inside (size_of t) (p * size_of t) from bytes less)

-- ---- rows

none_first : (x : ℤ) → x ≡ pos 0 +ℤ x
none_first x = omega (arith, ints)

pub rows_first : (t acc : Dtype) (rows inner o : ℕ) (input carry out : List ℕ)
    → AddsRow t acc inner (λ q. carried_at acc carry (o * inner + q)) (row_element t inner input
    (o * rows)) (o * rows) out → HasSummedRows t acc rows inner o 1 input carry out
rows_first t acc rows inner o input carry out h zero q b less =
    let g = carried_at acc carry (o * inner + q) in
    let e : o * rows ≡ o * rows + 0 = omega arith in
    subst (λ k. HasNumber acc out (k * inner + q) (g +ℤ (pos 0 +ℤ row_element t inner input k q))) e
    (h q less ∙ ap (λ z. element_bytes Little acc (g
    +ℤ z)) (none_first (row_element t inner input (o * rows) q)))
rows_first t acc rows inner o input carry out h (suc j) q b less = absurd (omega arith)

pub rows_more : (t acc : Dtype) (rows inner o j : ℕ) (input carry old new : List ℕ)
    → IsInteger acc → HasSummedRows t acc rows inner o (suc j) input carry old
    → AddsRow t acc inner (row_element acc inner old (o * rows + j)) (row_element t inner input
    (suc (o * rows + j))) (suc (o * rows + j)) new
    → KeepsRows acc inner (suc (o * rows + j)) old new
    → HasSummedRows t acc rows inner o (suc (suc j)) input carry new
rows_more t acc rows inner o j input carry old new a h adds keeps i q b less =
    ⊎_elim (λ before. keeps (o * rows + i) q (omega arith) less ∙ h i q before less)
    (λ more. let last : suc j ≡ i = omega arith in
    subst (λ k. HasNumber acc new ((o * rows + k) * inner + q)
    (column_sum t acc rows inner input carry o q (suc k))) last own)
    (cases_lt i (suc j))
  where
    own : HasNumber acc new ((o * rows + suc j) * inner + q)
        (column_sum t acc rows inner input carry o q (suc (suc j)))
    own =
        let g = carried_at acc carry (o * inner + q) in
        let f : ℕ → ℤ = λ k. row_element t inner input (o * rows + k) q in
        let so_far = column_sum t acc rows inner input carry o q (suc j) in
        let e : suc (o * rows + j) ≡ o * rows + suc j = omega arith in
        let read : row_element acc inner old (o * rows + j) q
        ≡ wrapped acc so_far = number_read acc old ((o * rows + j) * inner + q) so_far (h j q
        (omega arith) less) in
        let added : HasNumber acc new (suc (o * rows + j) * inner + q) (so_far
        +ℤ row_element t inner input (suc (o * rows + j)) q) =
        number_added acc new (suc (o * rows + j) * inner + q) (row_element acc inner old
        (o * rows + j) q) so_far (row_element t inner input (suc (o * rows + j)) q) a read
        (adds q less) in
        subst (λ k. HasNumber acc new (k * inner + q) (so_far
        +ℤ row_element t inner input k q)) e added
        ∙ ap (element_bytes Little acc) (+ℤ_assoc g (sum_below f (suc j)) (f (suc j)))

-- ---- rows of one element

pub sums_same : (f g : ℕ → ℤ) (n : ℕ) → ((k : ℕ) → k < n → f k ≡ g k)
    → sum_below f n ≡ sum_below g n
sums_same f g zero h = refl
sums_same f g (suc n) h = (λ i. sums_same f g n (λ k b. h k (omega arith)) i +ℤ h n (omega arith) i)

pub line_rows : (t acc : Dtype) (rows o : ℕ) (input carry part own new : List ℕ) (first : ℤ)
    → first ≡ carried_at acc carry o
    → ((q : ℕ) → q < rows → element_at Little t part q ≡ row_element t rows input o q)
    → ((j : ℕ) → j < rows → HasNumber acc own j (first
    +ℤ sum_below (λ k. element_at Little t part k) (suc j)))
    → ((k : ℕ) → k < rows → bytes_at acc new (o * rows + k) ≡ bytes_at acc own k)
    → HasSummedRows t acc rows 1 o rows input carry new
line_rows t acc rows o input carry part own new first is elements sums here j q b less =
    let place : o * rows + j ≡ (o * rows + j) * 1 + q = omega arith in
    let from : o ≡ o * 1 + q = omega arith in
    let given : first ≡ carried_at acc carry (o * 1 + q) = is ∙ ap (carried_at acc carry) from in
    let each : (k : ℕ) → k < suc j → element_at Little t part k
    ≡ row_element t 1 input (o * rows + k) q = λ k c.
    elements k (omega arith) ∙ ap (element_at Little t input) (let e : o * rows + k
    ≡ (o * rows + k) * 1 + q = omega arith in e) in
    subst (λ p. HasNumber acc new p (carried_at acc carry (o * 1 + q)
    +ℤ sum_below (λ k. row_element t 1 input (o * rows + k) q) (suc j))) place
    (here j b ∙ sums j b ∙ (λ i. element_bytes Little acc (given i
    +ℤ sums_same (λ k. element_at Little t part k) (λ k. row_element t 1 input
    (o * rows + k) q) (suc j) each i)))

pub line_keeps : (acc : Dtype) (rows o size : ℕ) (old own : List ℕ) → size ≡ size_of acc
    → (o * rows + rows) * size ≤ length old
    → KeepsRows acc 1 (o * rows) old (put_mid (o * rows * size)
    ((o * rows + rows) * size - o * rows * size) old own)
line_keeps acc rows o size old own e room r q less b =
    let start : o * rows * size ≡ o * rows * size_of acc = ap (λ s. o * rows * s) e in
    let last : suc (r * 1 + q) * size_of acc
    ≤ o * rows * size_of acc = mul-le-mul_right (size_of acc) (let l : suc (r * 1 + q)
    ≤ o * rows = omega arith in l) in
    let begins : o * rows * size ≤ (o * rows + rows) * size = mul-le-mul_right size
    (let l : o * rows ≤ o * rows + rows = omega arith in l) in
    bytes_below acc (o * rows * size) ((o * rows + rows) * size - o * rows * size) old own
    (r * 1 + q) (omega arith) (omega arith)

-- ---- blocks

pub block_reach : (at blocks rows inner size bytes : ℕ) → at < blocks
    → blocks * rows * inner * size ≤ bytes → (at * rows + rows) * inner * size ≤ bytes
block_reach at blocks rows inner size bytes b h =
    let far : suc at * (rows * inner * size)
    ≤ blocks * (rows * inner * size) = mul-le-mul_right (rows * inner * size) b in
    omega arith

pub given_reach : (acc : Dtype) (at blocks inner : ℕ) (carry : List ℕ) → at < blocks
    → IsCarriedInto acc (blocks * inner) carry → IsCarriedInto acc (at * inner + inner) carry
given_reach acc at blocks inner carry b h some =
    let far : suc at * (inner * size_of acc)
    ≤ blocks * (inner * size_of acc) = mul-le-mul_right (inner * size_of acc) b in
    let all = h some in
    omega arith

pub blocks_more : (t acc : Dtype) (rows inner at : ℕ) (input carry old new : List ℕ)
    → HasBlocks t acc rows inner at input carry old
    → KeepsRows acc inner (at * rows) old new → HasSummedRows t acc rows inner at rows input carry new
    → HasBlocks t acc rows inner (suc at) input carry new
blocks_more t acc rows inner at input carry old new h keeps own o b =
    ⊎_elim (λ before. earlier before)
    (λ more. let last : at ≡ o = omega arith in
    subst (λ k. HasSummedRows t acc rows inner k rows input carry new) last own)
    (cases_lt o at)
  where
    earlier : o < at → HasSummedRows t acc rows inner o rows input carry new
    earlier before j q c less =
        let far : suc o * rows ≤ at * rows = mul-le-mul_right rows before in
        keeps (o * rows + j) q (omega arith) less ∙ h o before j q c less

-- ---- sums of whole columns

pub total_first : (acc : Dtype) (rows inner o : ℕ) (sums above out : List ℕ)
    → StartsRow acc inner o above out → HasTotal acc rows inner o 0 sums above out
total_first acc rows inner o sums above out h q less =
    start_sum acc (row_element acc inner out o q) (InRange-element_at Little acc out
    (o * inner + q)) ∙ ap (λ z. wrapped acc (z +ℤ pos 0)) (h q less)

pub total_more : (acc : Dtype) (rows inner o n : ℕ) (sums above old new : List ℕ)
    → IsInteger acc → HasTotal acc rows inner o n sums above old
    → AddsRow acc acc inner (row_element acc inner old o) (row_element acc inner sums
    (o * rows + n)) o new → HasTotal acc rows inner o (suc n) sums above new
total_more acc rows inner o n sums above old new a h adds q less =
    let g = carried_at acc above (o * inner + q) in
    let f : ℕ → ℤ = λ k. row_element acc inner sums (o * rows + k) q in
    number_read acc new (o * inner + q) (row_element acc inner old o q +ℤ f n) (adds q less)
    ∙ more_summed acc g (sum_below f n) (row_element acc inner old o q) (f n) a (h q less)

pub totals_more : (acc : Dtype) (rows inner at : ℕ) (sums above old new : List ℕ)
    → HasTotals acc rows inner at sums above old → KeepsRows acc inner at old new
    → HasTotal acc rows inner at rows sums above new
    → HasTotals acc rows inner (suc at) sums above new
totals_more acc rows inner at sums above old new h keeps own o b q less =
    ⊎_elim
    (λ before. element_at_same Little acc new old (o * inner + q) (o * inner + q)
    (keeps o q before less) ∙ h o before q less)
    (λ more. let last : at ≡ o = omega arith in
    subst (λ k. row_element acc inner new k q
    ≡ wrapped acc (column_sum acc acc rows inner sums above k q rows)) last (own q less))
    (cases_lt o at)

-- a row of a block ends within the bytes
pub row_reach : (start rows done inner size bytes : ℕ) → done < rows
    → (start + rows) * inner * size ≤ bytes → ((start + done) * inner + inner) * size ≤ bytes
row_reach start rows done inner size bytes b h =
    let p : suc (start + done) * inner
    ≤ (start + rows) * inner = mul-le-mul_right inner (let l : suc (start + done)
    ≤ start + rows = omega arith in l) in
    let l : (start + done) * inner + inner ≤ (start + rows) * inner = omega arith in
    let m : ((start + done) * inner + inner) * size
    ≤ (start + rows) * inner * size = mul-le-mul_right size l in
    omega arith

pub total_reach : (at blocks inner size bytes : ℕ) → at < blocks → blocks * inner * size ≤ bytes
    → (at * inner + inner) * size ≤ bytes
total_reach at blocks inner size bytes b h =
    let far : suc at * (inner * size)
    ≤ blocks * (inner * size) = mul-le-mul_right (inner * size) b in
    omega arith
