-- Residues modulo a power of two, and the numbers centred at 0.
use Rattle.std.proofs.Common.{◌≡◌, ℕ, ◌+◌, ◌-◌, ◌*◌, ◌/◌, ◌%◌, ◌^◌, ◌<◌, ◌≤◌, suc, true, false, cond, Bool, refl, sym, ap, ◌∙◌, subst, ⊎_elim, arith, ℤ, pos, negsuc, neg_ℤ, ◌+ℤ◌, ◌-ℤ◌, ◌*ℤ◌, ◌≤ℤ◌, ◌<ℤ◌, unsigned_abs, nat_lt}
use Rattle.std.proofs.lemmas.Nat.{pow_pos, mod_below, div-add-mod', pow-add}
use Rattle.std.proofs.lemmas.Int.{ints, int_rem_euclid_is}
use Rattle.std.proofs.Math.Nat.{mul-le-mul_left, mul-le-mul_right}
use lib.IntN.{*ℤ_comm}
use Rattle.std.proofs.lemmas.Bool.{cases_lt}
use borrow.Author.Tests.{ltb-true, ltb-false}
use borrow.Author.Differences.{up, down, same_in, same_out, sum_is_lem, product_is}
use Rattle.std.specs.Int.{int_rem_euclid}
use Rattle.cu_num.specs.Wrap.{residue, centred}

-- a and b differ by a multiple of 2 ^ w: j and k say by which
pub record Same (w : ℕ) (a b : ℤ) : Type 0 where
  pub j : ℕ
  pub k : ℕ
  pub sum : a +ℤ pos (j * 2 ^ w) ≡ b +ℤ pos (k * 2 ^ w)

pub is_euclid : (w : ℕ) (z : ℤ) → residue w z ≡ unsigned_abs (int_rem_euclid z (pos (2 ^ w)))
is_euclid w (pos n) = refl
is_euclid w (negsuc n) = refl

pub residue-lt : (w : ℕ) (z : ℤ) → residue w z < 2 ^ w
residue-lt w (pos n) = mod_below n (2 ^ w) (pow_pos w)
residue-lt w (negsuc n) = omega (arith, pow_pos w)

-- numbers that differ by a multiple have one residue
pub residue_same : (w : ℕ) (a b : ℤ) → Same w a b → residue w a ≡ residue w b
residue_same w a b s =
    let m = 2 ^ w in
    let some = pow_pos w in
    let t = down a + down b in
    let far : t * 1 ≤ t * m = mul-le-mul_left t some in
    let n = up a + (s.j + t) * m - down a in
    let from : (z : ℤ) (i : ℕ) → z +ℤ pos ((i + t) * m) ≡ pos n → residue w z ≡ n % m = λ z i h. is_euclid w z ∙ ap unsigned_abs (int_rem_euclid_is z (pos m) m (i + t) n some refl h) in
    let sum = s.sum in
    from a s.j (omega (arith, ints)) ∙ sym (from b s.k (omega (arith, ints)))

-- a number and its residue differ by a multiple
pub same-residue : (w : ℕ) (z : ℤ) → Same w (pos (residue w z)) z
same-residue w (pos n) = record { j = n / 2 ^ w; k = 0; sum = omega (arith, ints, div-add-mod' n (2 ^ w)) }
same-residue w (negsuc n) =
    let small = mod_below n (2 ^ w) (pow_pos w) in
    record { j = 0; k = n / 2 ^ w + 1; sum = omega (arith, same_in, same_out, sum_is_lem, div-add-mod' n (2 ^ w)) }

pub same_refl : (w : ℕ) (a : ℤ) → Same w a a
same_refl w a = record { j = 0; k = 0; sum = refl }

pub same_sym : (w : ℕ) (a b : ℤ) → Same w a b → Same w b a
same_sym w a b s = record { j = s.k; k = s.j; sum = sym s.sum }

pub same_trans : (w : ℕ) (a b c : ℤ) → Same w a b → Same w b c → Same w a c
same_trans w a b c p q =
    let first = p.sum in
    let second = q.sum in
    record { j = p.j + q.j; k = p.k + q.k; sum = omega (arith, same_in, same_out, sum_is_lem) }

pub same_add : (w : ℕ) (a b c d : ℤ) → Same w a b → Same w c d → Same w (a +ℤ c) (b +ℤ d)
same_add w a b c d p q =
    let first = p.sum in
    let second = q.sum in
    record { j = p.j + q.j; k = p.k + q.k; sum = omega (arith, same_in, same_out, sum_is_lem) }

-- the modulus of a narrower type divides that of a wider one
pub same_narrower : (v more : ℕ) (a b : ℤ) → Same (v + more) a b → Same v a b
same_narrower v more a b s =
    let sum = s.sum in
    let first = ap (λ m. s.j * m) (pow-add 2 v more) in
    let second = ap (λ m. s.k * m) (pow-add 2 v more) in
    record { j = s.j * 2 ^ more; k = s.k * 2 ^ more; sum = omega (arith, same_in, same_out, sum_is_lem) }

times : (w : ℕ) (a b c : ℤ) → Same w a b → Same w (a *ℤ c) (b *ℤ c)
times w a b c s =
    let j = s.j in
    let k = s.k in
    let e = s.sum in
    let sum : up a + j * 2 ^ w + down b ≡ up b + k * 2 ^ w + down a = omega (arith, same_out, sum_is_lem) in
    let above = ap (λ x. x * up c) sum in
    let below = ap (λ x. x * down c) sum in
    record { j = j * up c + k * down c; k = k * up c + j * down c; sum = omega (arith, same_in, sum_is_lem, product_is) }

pub same_mul : (w : ℕ) (a b c d : ℤ) → Same w a b → Same w c d → Same w (a *ℤ c) (b *ℤ d)
same_mul w a b c d p q =
    let turned : Same w (c *ℤ b) (d *ℤ b) = times w c d b q in
    let back : Same w (b *ℤ c) (b *ℤ d) = let P : ℤ → Type 0 = λ z. Same w z (b *ℤ d) in subst P (*ℤ_comm c b) (let Q : ℤ → Type 0 = λ z. Same w (c *ℤ b) z in subst Q (*ℤ_comm d b) turned) in
    same_trans w (a *ℤ c) (b *ℤ c) (b *ℤ d) (times w a b c p) back

-- two numbers of one span of length m that differ by a multiple of m are equal
unique : (m : ℕ) (low a b : ℤ) (j k : ℕ) → low ≤ℤ a → a <ℤ (low +ℤ pos m) → low ≤ℤ b → b <ℤ (low +ℤ pos m) → a +ℤ pos (j * m) ≡ b +ℤ pos (k * m) → a ≡ b
unique m low a b j k p q r s e = ⊎_elim
    (λ less. absurd (let far : suc j * m ≤ k * m = mul-le-mul_right m less in omega (arith, ints)))
    (λ more. ⊎_elim
    (λ less. absurd (let far : suc k * m ≤ j * m = mul-le-mul_right m less in omega (arith, ints)))
    (λ again. let even : j ≡ k = omega arith in let equal = ap (λ i. i * m) even in omega (arith, ints))
    (cases_lt k j))
    (cases_lt j k)

pub same_unique : (w : ℕ) (low a b : ℤ) → low ≤ℤ a → a <ℤ (low +ℤ pos (2 ^ w)) → low ≤ℤ b → b <ℤ (low +ℤ pos (2 ^ w)) → Same w a b → a ≡ b
same_unique w low a b p q r s d = unique (2 ^ w) low a b d.j d.k p q r s d.sum

-- the centred number differs from r by a multiple
pub same-centred : (w r : ℕ) → Same w (centred w r) (pos r)
same-centred w r = by (nat_lt r (2 ^ (w - 1)))
  where
    by : (b : Bool) → Same w (cond b (pos r) (pos r -ℤ pos (2 ^ w))) (pos r)
    by true = same_refl w (pos r)
    by false = record { j = 1; k = 0; sum = omega (arith, ints) }

-- and lies within half the modulus
pub centred_bounds : (w r half : ℕ) → half ≡ 2 ^ (w - 1) → 2 ^ w ≡ half + half → r < 2 ^ w → (neg_ℤ (pos half) ≤ℤ centred w r) × (centred w r <ℤ pos half)
centred_bounds w r half e d h = by (nat_lt r (2 ^ (w - 1))) refl
  where
    by : (b : Bool) → nat_lt r (2 ^ (w - 1)) ≡ b → (neg_ℤ (pos half) ≤ℤ cond b (pos r) (pos r -ℤ pos (2 ^ w))) × (cond b (pos r) (pos r -ℤ pos (2 ^ w)) <ℤ pos half)
    by true below = let is : r < 2 ^ (w - 1) = ltb-true _ _ below in (omega (arith, ints), omega (arith, ints))
    by false above = let is : 2 ^ (w - 1) ≤ r = ltb-false _ _ above in (omega (arith, ints), omega (arith, ints))

-- the residue at a narrower width, from that at a wider
pub residue-mod : (v more : ℕ) (z : ℤ) → residue (v + more) z % 2 ^ v ≡ residue v z
residue-mod v more z = residue_same v (pos (residue (v + more) z)) z (same_narrower v more _ z (same-residue (v + more) z))
