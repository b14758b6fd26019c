-- Blocks of rows as a region, and its indices.
use Rattle.std.proofs.Common.{◌≡◌, ℕ, zero, suc, ◌+◌, ◌+ℤ◌, ◌*◌, ◌<◌, ◌≤◌, set, List, [], ◌∷◌, length, get_or, take, drop, refl, sym, ap, ◌∙◌, subst, arith}
use Rattle.std.proofs.lemmas.List.{length-set, set-get_or}
use Rattle.std.proofs.lemmas.Nat.{mul-add-lt}
use Rattle.cu_num.specs.Dtype.{size_of}
use Rattle.cu_num.specs.Element.{element_at, element_bytes}
use Rattle.cu_num.specs.Wrap.{wrapped}
use Rattle.cu_num.specs.declared.types.Dtype.{Dtype}
use Rattle.cu_num.specs.declared.layout.Endian.TheVariants.{Little}
use Rattle.cu_shape.specs.Index.{product, place_of, IsInside}
use Rattle.cu_shape.proofs.Places.{place-below}
use Rattle.cu_grid.proofs.Regions.{inside-at}
use Rattle.cu_reduce.specs.Numbers.{HasNumber, line_element}
use Rattle.cu_reduce.specs.Prefix.{sum_below}
use Rattle.cu_pairs.proofs.Sizes.{HasSizes, take_set, drop_set}
use Rattle.cu_pairs.proofs.WholeGroups.{product_split}
use Rattle.cu_scan.specs.Scanned.{carried_at, given_into, row_element, IsCarriedInto, HasBlocks, HasTotals}
use Rattle.cu_scan.proofs.RowSums.{sums_same}

pub some_of : (n size bytes : ℕ) → bytes ≡ n * size → 0 < bytes → 0 < n
some_of zero size bytes e h = absurd (omega arith)
some_of (suc n) size bytes e h = omega arith

-- ---- where an index with one place on the axis lies, whatever the axis' size

pub record IsPlaced (ns : List ℕ) (axis : ℕ) (idx : List ℕ) : Type 0 where
  pub block : ℕ
  pub number : ℕ
  pub blocks : block < product (take axis ns)
  pub columns : number < product (drop (suc axis) ns)
  pub result : place_of (set ns axis 1) idx ≡ block * product (drop (suc axis) ns) + number
  pub element : (j : ℕ) → place_of ns (set idx axis j)
      ≡ (block * get_or ns axis 0 + j) * product (drop (suc axis) ns) + number

pub counts_set : (ns : List ℕ) (axis : ℕ) → axis < length ns
    → product (set ns axis 1) ≡ product (take axis ns) * product (drop (suc axis) ns)
counts_set [] axis b = absurd (omega arith)
counts_set (n ∷ ns) zero b = omega arith
counts_set (n ∷ ns) (suc axis) b = ap (λ p. n * p) (counts_set ns axis (omega arith)) ∙ omega arith

placed_behind : (n i axis : ℕ) (ns is : List ℕ) → axis < length ns → i < n → IsPlaced ns axis is
    → IsPlaced (n ∷ ns) (suc axis) (i ∷ is)
placed_behind n i axis ns is b inside own =
    let before = product (take axis ns) in
    let size = get_or ns axis 0 in
    let width = product (drop (suc axis) ns) in
    let block_below = own.blocks in
    let far : i * before + own.block < before * n = mul-add-lt i before own.block n inside block_below in
    record {
      block = i * before + own.block;
      number = own.number;
      blocks = omega arith;
      columns = own.columns;
      result = (λ k. i * counts_set ns axis b k + own.result k) ∙ omega arith;
      element = λ j. (λ k. i * product_split ns axis b k + own.element j k) ∙ omega arith;
    }

pub placed : (ns : List ℕ) (axis : ℕ) (idx : List ℕ) → axis < length ns
    → IsInside (set ns axis 1) idx → IsPlaced ns axis idx
placed [] axis idx b h = absurd (omega arith)
placed (n ∷ ns) zero [] b h = absurd h
placed (n ∷ ns) (suc axis) [] b h = absurd h
placed (n ∷ ns) zero (i ∷ is) b h =
    let first = h.0 in
    let none : i ≡ 0 = omega arith in
    record {
      block = 0;
      number = place_of ns is;
      blocks = omega arith;
      columns = place-below ns is h.1;
      result = ap (λ k. k * product ns + place_of ns is) none ∙ omega arith;
      element = λ j. omega arith;
    }
placed (n ∷ ns) (suc axis) (i ∷ is) b h = placed_behind n i axis ns is (omega arith) h.0
    (placed ns axis is (omega arith) h.1)

pub record HasCarrySizes (ns : List ℕ) (axis width blocks count : ℕ) : Type 0 where
  pub below : axis < length ns
  pub behind : width ≡ product (drop (suc axis) ns)
  pub before : blocks ≡ product (take axis ns)
  pub own : count ≡ get_or ns axis 0
  pub some : 0 < product (set ns axis 1)

pub carry_sizes : (ns whole : List ℕ) (axis width blocks count : ℕ) → whole ≡ set ns axis 1
    → axis < length ns → width ≡ product (drop (suc axis) whole)
    → blocks ≡ product (take axis whole)
    → count ≡ get_or ns axis 0 → 0 < product (set ns axis 1)
    → HasCarrySizes ns axis width blocks count
carry_sizes ns whole axis width blocks count e b w k c some = record {
  below = b;
  behind = w ∙ ap (λ xs. product (drop (suc axis) xs)) e ∙ ap product (drop_set ns axis 1);
  before = k ∙ ap (λ xs. product (take axis xs)) e ∙ ap product (take_set ns axis 1);
  own = c;
  some = some;
}

pub whole_length : (ns whole : List ℕ) (axis : ℕ) → whole ≡ set ns axis 1 → axis < length ns
    → axis < length whole
whole_length ns whole axis e b = let n = ap length e ∙ length-set ns axis 1 in omega arith

pub carry_width : (ns : List ℕ) (axis width blocks count : ℕ)
    → HasCarrySizes ns axis width blocks count → 0 < width
carry_width ns axis width blocks count h =
    let some = h.some in
    let all : blocks * width ≡ product (set ns axis 1) = (λ i. h.before i * h.behind i)
    ∙ sym (counts_set ns axis h.below) in
    positive blocks width (omega arith)
  where
    positive : (a b : ℕ) → 0 < a * b → 0 < b
    positive a zero h = absurd (omega arith)
    positive a (suc b) h = omega arith

pub carry_rows : (ns : List ℕ) (axis width blocks count size bytes : ℕ)
    → HasCarrySizes ns axis width blocks count → bytes ≡ product ns * size
    → blocks * count * width * size ≤ bytes
carry_rows ns axis width blocks count size bytes h e =
    let all : product ns ≡ blocks * count * width = product_split ns axis h.below
    ∙ (λ i. sym h.before i * sym h.own i * sym h.behind i) in
    let each = ap (λ p. p * size) all in
    omega arith

pub carry_room : (ns : List ℕ) (axis width blocks count size bytes : ℕ)
    → HasCarrySizes ns axis width blocks count → bytes ≡ product (set ns axis 1) * size
    → blocks * width * size ≤ bytes
carry_room ns axis width blocks count size bytes h e =
    let all : product (set ns axis 1) ≡ blocks * width = counts_set ns axis h.below
    ∙ (λ i. sym h.before i * sym h.behind i) in
    let each = ap (λ p. p * size) all in
    omega arith

pub carry_given : (acc : Dtype) (ns : List ℕ) (axis width blocks count : ℕ) (above : List ℕ)
    → HasCarrySizes ns axis width blocks count → IsCarriedInto acc (product (set ns axis 1)) above
    → IsCarriedInto acc (blocks * width) above
carry_given acc ns axis width blocks count above h g some =
    let all : product (set ns axis 1) ≡ blocks * width = counts_set ns axis h.below
    ∙ (λ i. sym h.before i * sym h.behind i) in
    let each = ap (λ p. p * size_of acc) all in
    let room = g some in
    omega arith

-- the front of a line, whose place on the axis is 0
pub set_twice : (xs : List ℕ) (axis a b : ℕ) → set (set xs axis a) axis b ≡ set xs axis b
set_twice [] zero a b = refl
set_twice [] (suc axis) a b = refl
set_twice (x ∷ xs) zero a b = refl
set_twice (x ∷ xs) (suc axis) a b = ap (λ ys. x ∷ ys) (set_twice xs axis a b)

front_inside : (ns : List ℕ) (axis : ℕ) (idx : List ℕ) → axis < length ns → IsInside ns idx
    → IsInside (set ns axis 1) (set idx axis 0)
front_inside [] axis idx b h = absurd (omega arith)
front_inside (n ∷ ns) zero [] b h = absurd h
front_inside (n ∷ ns) (suc axis) [] b h = absurd h
front_inside (n ∷ ns) zero (i ∷ is) b h = (omega arith, h.1)
front_inside (n ∷ ns) (suc axis) (i ∷ is) b h = (h.0, front_inside ns axis is (omega arith) h.1)

front_own : (ns : List ℕ) (axis : ℕ) (idx : List ℕ) → axis < length ns
    → IsInside (set ns axis 1) idx → set idx axis 0 ≡ idx
front_own [] axis idx b h = absurd (omega arith)
front_own (n ∷ ns) zero [] b h = refl
front_own (n ∷ ns) (suc axis) [] b h = refl
front_own (n ∷ ns) zero (i ∷ is) b h =
    let first = h.0 in
    let none : 0 ≡ i = omega arith in
    ap (λ k. k ∷ is) none
front_own (n ∷ ns) (suc axis) (i ∷ is) b h =
    ap (λ js. i ∷ js) (front_own ns axis is (omega arith) h.1)

-- ---- what the buffers have

pub scan_given : (acc : Dtype) (ns : List ℕ) (axis width blocks count : ℕ) (carry : List ℕ)
    → HasSizes ns axis width blocks count → IsCarriedInto acc (product (set ns axis 1)) carry
    → IsCarriedInto acc (blocks * width) carry
scan_given acc ns axis width blocks count carry h g some =
    let all : product (set ns axis 1) ≡ blocks * width =
    counts_set ns axis h.below ∙ (λ i. sym h.before i * sym h.behind i) in
    let each = ap (λ p. p * size_of acc) all in
    let room = g some in
    omega arith

pub region_sums : (t acc : Dtype) (dims : List ℕ) (axis width blocks count : ℕ)
    (input carry new : List ℕ)
    → HasSizes dims axis width blocks count → HasBlocks t acc count width blocks input carry new
    → (idx : List ℕ) → IsInside dims idx → HasNumber acc new (place_of dims idx)
    (given_into acc dims axis carry idx
    +ℤ sum_below (line_element t dims axis input idx) (suc (get_or idx axis 0)))
region_sums t acc dims axis width blocks count input carry new h sums idx inside =
    let l = placed dims axis (set idx axis 0) h.below (front_inside dims axis idx h.below inside) in
    let o = l.block in
    let q = l.number in
    let j = get_or idx axis 0 in
    let own = h.own in
    let before = h.before in
    let behind = h.behind in
    let block_below = l.blocks in
    let column_below = l.columns in
    let less = inside-at dims idx axis inside h.below in
    let place : (k : ℕ) → place_of dims (set idx axis k) ≡ (o * count + k) * width + q =
    λ k. ap (place_of dims) (sym (set_twice idx axis 0 k)) ∙ l.element k
    ∙ (λ i. (o * sym own i + k) * sym behind i + q) in
    let here : place_of dims idx ≡ (o * count + j) * width + q =
    ap (place_of dims) (sym (set-get_or idx axis 0)) ∙ place j in
    let from : place_of (set dims axis 1) (set idx axis 0) ≡ o * width + q =
    l.result ∙ (λ i. o * sym behind i + q) in
    let each : (k : ℕ) → k < suc j → row_element t width input (o * count + k) q
    ≡ line_element t dims axis input idx k =
    λ k b. ap (element_at Little t input) (sym (place k)) in
    subst (λ p. HasNumber acc new p (given_into acc dims axis carry idx
    +ℤ sum_below (line_element t dims axis input idx) (suc j))) (sym here)
    (sums o (omega arith) j q (omega arith) (omega arith)
    ∙ (λ i. element_bytes Little acc (carried_at acc carry (sym from i)
    +ℤ sums_same (λ k. row_element t width input (o * count + k) q)
    (line_element t dims axis input idx) (suc j) each i)))

pub carry_sums : (acc : Dtype) (dims : List ℕ) (axis width blocks count : ℕ)
    (sums above new : List ℕ)
    → HasCarrySizes dims axis width blocks count → HasTotals acc count width blocks sums above new
    → (idx : List ℕ) → IsInside (set dims axis 1) idx
    → element_at Little acc new (place_of (set dims axis 1) idx)
    ≡ wrapped acc (given_into acc dims axis above idx
    +ℤ sum_below (line_element acc dims axis sums idx) (get_or dims axis 0))
carry_sums acc dims axis width blocks count sums above new h totals idx inside =
    let l = placed dims axis idx h.below inside in
    let o = l.block in
    let q = l.number in
    let own = h.own in
    let before = h.before in
    let behind = h.behind in
    let block_below = l.blocks in
    let column_below = l.columns in
    let place : (k : ℕ) → place_of dims (set idx axis k) ≡ (o * count + k) * width + q =
    λ k. l.element k ∙ (λ i. (o * sym own i + k) * sym behind i + q) in
    let from : place_of (set dims axis 1) idx ≡ o * width + q = l.result
    ∙ (λ i. o * sym behind i + q) in
    let front : place_of (set dims axis 1) (set idx axis 0) ≡ o * width + q =
    ap (place_of (set dims axis 1)) (front_own dims axis idx h.below inside) ∙ from in
    let each : (k : ℕ) → k < count → row_element acc width sums (o * count + k) q
    ≡ line_element acc dims axis sums idx k =
    λ k b. ap (element_at Little acc sums) (sym (place k)) in
    ap (element_at Little acc new) from ∙ totals o (omega arith) q (omega arith)
    ∙ (λ i. wrapped acc (carried_at acc above (sym front i)
    +ℤ sums_same (λ k. row_element acc width sums (o * count + k) q)
    (line_element acc dims axis sums idx) count each i))
    ∙ ap (λ n. wrapped acc (given_into acc dims axis above idx
    +ℤ sum_below (line_element acc dims axis sums idx) n)) own
