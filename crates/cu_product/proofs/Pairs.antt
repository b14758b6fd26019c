-- Two inner places by one multiplication.
use Rattle.std.proofs.Common.{◌≡◌, ℕ, zero, suc, ◌+◌, ◌*◌, ◌/◌, ◌%◌, ◌<◌, ◌≤◌, ℤ, pos, negsuc, ◌+ℤ◌, ◌-ℤ◌, ◌*ℤ◌, refl, sym, ap, ◌∙◌, arith}
use Rattle.std.proofs.Math.IntN.{+ℤ_assoc, +ℤ_idl, +ℤ_idr, *ℤ_comm}
use borrow.Author.Differences.{up, down, product_is}
use Rattle.std.proofs.Math.Nat.{mul-le-mul_right}
use Rattle.std.proofs.lemmas.Int.{ints}
use Rattle.cu_num.specs.Dtype.{IsInteger}
use Rattle.cu_num.specs.Wrap.{wrapped}
use Rattle.cu_num.specs.declared.types.Dtype.{Dtype}
use Rattle.cu_num.proofs.Wrapped.{wrapped-wrapped, wrapped-add, wrapped-mul}
use Rattle.cu_product.specs.Block.{inner_product}
use Rattle.cu_product.specs.Pairs.{pairs}
use Rattle.cu_product.proofs.Sums.{wrapped_right, inner_product-more}

-- a sum times a number
spread : (a b c : ℤ) → (a +ℤ b) *ℤ c ≡ a *ℤ c +ℤ b *ℤ c
spread a b c =
    let s : up (a +ℤ b) + (down a + down b) ≡ up a + up b + down (a +ℤ b) = omega (arith, ints) in
    let e = ap (λ m. m * up c) s in
    let f = ap (λ m. m * down c) s in
    omega (arith, ints, e, f, product_is (a +ℤ b) c, product_is a c, product_is b c)

spread_right : (a b c : ℤ) → a *ℤ (b +ℤ c) ≡ a *ℤ b +ℤ a *ℤ c
spread_right a b c = *ℤ_comm a (b +ℤ c) ∙ spread b c a ∙ (λ i. *ℤ_comm b a i +ℤ *ℤ_comm c a i)

both : (a b c d : ℤ) → (a +ℤ d) *ℤ (b +ℤ c) ≡ a *ℤ b +ℤ a *ℤ c +ℤ (d *ℤ b +ℤ d *ℤ c)
both a b c d = spread a d (b +ℤ c) ∙ (λ i. spread_right a b c i +ℤ spread_right d b c i)

-- what two places give, but for what each side gives by itself
one_pair : (a b c d : ℤ) → (a +ℤ d) *ℤ (b +ℤ c) -ℤ (pos 0 +ℤ d) *ℤ (pos 0 +ℤ c) -ℤ (a +ℤ pos 0) *ℤ (b +ℤ pos 0) ≡ a *ℤ c +ℤ b *ℤ d
one_pair a b c d =
    (λ i. both a b c d i -ℤ +ℤ_idl d i *ℤ +ℤ_idl c i -ℤ +ℤ_idr a i *ℤ +ℤ_idr b i)
    ∙ (let e : a *ℤ b +ℤ a *ℤ c +ℤ (d *ℤ b +ℤ d *ℤ c) -ℤ d *ℤ c -ℤ a *ℤ b ≡ a *ℤ c +ℤ d *ℤ b = omega (arith, ints) in e)
    ∙ ap (λ z. a *ℤ c +ℤ z) (*ℤ_comm d b)

regroup : (s r w x y z : ℤ) → s +ℤ x -ℤ (r +ℤ y) -ℤ (w +ℤ z) ≡ s -ℤ r -ℤ w +ℤ (x -ℤ y -ℤ z)
regroup s r w x y z = omega (arith, ints)

pub pairs_product : (f g z : ℕ → ℤ) (h : ℕ) → ((q : ℕ) → q < 2 * h → z q ≡ pos 0) → pairs f g h -ℤ pairs (λ q. pos 0) g h -ℤ pairs f z h ≡ inner_product f g (2 * h)
pairs_product f g z zero none = refl
pairs_product f g z (suc h) none =
    let a = f (2 * h) in
    let b = f (2 * h + 1) in
    let c = g (2 * h) in
    let d = g (2 * h + 1) in
    let first : z (2 * h) ≡ pos 0 = none (2 * h) (omega arith) in
    let second : z (2 * h + 1) ≡ pos 0 = none (2 * h + 1) (omega arith) in
    let two : 2 * suc h ≡ 2 * h + 1 + 1 = omega arith in
    (λ i. pairs f g (suc h) -ℤ pairs (λ q. pos 0) g (suc h) -ℤ (pairs f z h +ℤ (a +ℤ second i) *ℤ (b +ℤ first i)))
    ∙ regroup (pairs f g h) (pairs (λ q. pos 0) g h) (pairs f z h) ((a +ℤ d) *ℤ (b +ℤ c)) ((pos 0 +ℤ d) *ℤ (pos 0 +ℤ c)) ((a +ℤ pos 0) *ℤ (b +ℤ pos 0))
    ∙ (λ i. pairs_product f g z h (λ q l. none q (omega arith)) i +ℤ one_pair a b c d i)
    ∙ (let e : inner_product f g (2 * h) +ℤ (a *ℤ c +ℤ b *ℤ d) ≡ inner_product f g (2 * h) +ℤ a *ℤ c +ℤ b *ℤ d = sym (+ℤ_assoc (inner_product f g (2 * h)) (a *ℤ c) (b *ℤ d)) in e)
    ∙ ap (λ s. s +ℤ b *ℤ d) (sym (inner_product-more f g (2 * h)))
    ∙ sym (inner_product-more f g (2 * h + 1))
    ∙ ap (inner_product f g) (sym two)

pub pairs_same : (f x g y : ℕ → ℤ) (h : ℕ) → ((q : ℕ) → q < 2 * h → (f q ≡ x q) × (g q ≡ y q)) → pairs f g h ≡ pairs x y h
pairs_same f x g y zero same = refl
pairs_same f x g y (suc h) same =
    let one = same (2 * h) (omega arith) in
    let two = same (2 * h + 1) (omega arith) in
    λ i. pairs_same f x g y h (λ q l. same q (omega arith)) i +ℤ (one.0 i +ℤ two.1 i) *ℤ (two.0 i +ℤ one.1 i)

-- ---- wrapped on the way

pub wrapped_plus : (t : Dtype) → IsInteger t → (x y : ℤ) → wrapped t (x +ℤ wrapped t y) ≡ wrapped t (x +ℤ y)
wrapped_plus t h x y = wrapped-add t x (wrapped t y) h ∙ ap (λ z. wrapped t (wrapped t x +ℤ z)) (wrapped-wrapped t y) ∙ sym (wrapped-add t x y h)

pub wrapped_factors : (t : Dtype) (x y : ℤ) → wrapped t (wrapped t x *ℤ wrapped t y) ≡ wrapped t (x *ℤ y)
wrapped_factors t x y = sym (wrapped-mul t x y)

minus : (x y : ℤ) → x -ℤ y ≡ x +ℤ negsuc 0 *ℤ y
minus x y = omega (arith, ints)

pub wrapped_minus : (t : Dtype) → IsInteger t → (x y : ℤ) → wrapped t (wrapped t x -ℤ wrapped t y) ≡ wrapped t (x -ℤ y)
wrapped_minus t h x y =
    ap (wrapped t) (minus (wrapped t x) (wrapped t y))
    ∙ wrapped-add t (wrapped t x) (negsuc 0 *ℤ wrapped t y) h
    ∙ (λ i. wrapped t (wrapped-wrapped t x i +ℤ wrapped_right t (negsuc 0) y i))
    ∙ sym (wrapped-add t x (negsuc 0 *ℤ y) h)
    ∙ ap (wrapped t) (sym (minus x y))

-- ---- the elements of a panel

panel_slot : (p half j r : ℕ) → p < half → j < 9 → r < 2 → p * 18 + 2 * j + r < half * 18
panel_slot p half j r h d e = omega arith

half_below : (inner q : ℕ) → q < inner → inner % 2 ≡ 0 → q / 2 < inner / 2
half_below inner q h even = omega arith

parity_below : (q : ℕ) → q % 2 < 2
parity_below q = omega arith

pub panel_place : (inner q j : ℕ) → q < inner → inner % 2 ≡ 0 → j < 9 → q / 2 * 18 + 2 * j + q % 2 < inner / 2 * 18
panel_place inner q j h even d = panel_slot (q / 2) (inner / 2) j (q % 2) (half_below inner q h even) d (parity_below q)

-- ---- eight elements of a row

-- they lie inside
pub part_place : (rows columns first i s total : ℕ) → total ≡ rows * columns * s → i < rows → first + 8 ≤ columns → (i * columns + first) * s + 8 * s ≤ total
part_place rows columns first i s total e h fits =
    let rest : (i + 1) * columns ≤ rows * columns = mul-le-mul_right columns (let l : i + 1 ≤ rows = omega arith in l) in
    let far : (i * columns + first + 8) * s ≤ rows * columns * s = mul-le-mul_right s (let l : i * columns + first + 8 ≤ rows * columns = omega arith in l) in
    omega arith

-- elements of earlier rows, and those before the eight, lie before; those of later rows behind
pub place_before : (columns first i k j s : ℕ) → i < k → j < columns → (i * columns + j) * s + s ≤ (k * columns + first) * s
place_before columns first i k j s h d =
    let rest : (i + 1) * columns ≤ k * columns = mul-le-mul_right columns (let l : i + 1 ≤ k = omega arith in l) in
    let far : suc (i * columns + j) * s ≤ (k * columns + first) * s = mul-le-mul_right s (let l : suc (i * columns + j) ≤ k * columns + first = omega arith in l) in
    omega arith

pub place_beside : (columns first k j s : ℕ) → j < first → (k * columns + j) * s + s ≤ (k * columns + first) * s
place_beside columns first k j s d =
    let far : suc (k * columns + j) * s ≤ (k * columns + first) * s = mul-le-mul_right s (let l : suc (k * columns + j) ≤ k * columns + first = omega arith in l) in
    omega arith

pub place_behind : (columns first i k j s : ℕ) → k < i → first + 8 ≤ columns → (k * columns + first) * s + 8 * s ≤ (i * columns + j) * s
place_behind columns first i k j s h fits =
    let rest : (k + 1) * columns ≤ i * columns = mul-le-mul_right columns (let l : k + 1 ≤ i = omega arith in l) in
    let far : (k * columns + first + 8) * s ≤ (i * columns + j) * s = mul-le-mul_right s (let l : k * columns + first + 8 ≤ i * columns + j = omega arith in l) in
    omega arith
