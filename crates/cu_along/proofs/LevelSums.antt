-- Sums of groups, and what is carried into them.
use Rattle.std.proofs.Common.{◌≡◌, ℕ, zero, suc, ◌*◌, ◌/◌, ◌≤◌, ◌<◌, min, ℤ, List, [], ◌∷◌, Option, None, Some, sym, ap, ◌∙◌, arith}
use Rattle.std.specs.Int.{div_ceil}
use Rattle.std.proofs.Math.Nat.{div-mul-le_self, div-eq_of_lt}
use Rattle.std.proofs.lemmas.Nat.{mul-le}
use Rattle.cu_num.specs.Dtype.{IsInteger}
use Rattle.cu_num.specs.declared.types.Dtype.{Dtype}
use Rattle.cu_num.specs.declared.folds.FoldKind.TheVariants.{Sum}
use Rattle.cu_shape.proofs.Rounded.{within_counts}
use Rattle.cu_reduce.specs.Folds.{reduced_to}
use Rattle.cu_reduce.specs.Prefix.{Line, span, cumulative}
use Rattle.cu_reduce.specs.Levels.{Level, AreLevels, HasChunkSums, group_sum, scan_sum}
use Rattle.cu_along.proofs.Sums.{plus, total, settled, plus_last, total_append, reduced_is, settled_first, settled_second, span_append, span_one, cumulative_is}

-- the sums of the first q groups are the sum of their elements
grouped : (acc : Dtype) (s : ℕ) (f p : Line) (q : ℕ) → IsInteger acc → ((k : ℕ) → k < q
    → p k ≡ reduced_to Sum acc (span f (k * s) (suc k * s)))
    → settled acc (total (span p 0 q)) ≡ settled acc (total (span f 0 (q * s)))
grouped acc s f p zero a h = let e : 0
    ≡ 0 * s = omega arith in ap (λ n. settled acc (total (span f 0 n))) e
grouped acc s f p (suc q) a h =
    let less : q * s ≤ suc q * s = omega arith in
    let own : total (span p q (suc q)) ≡ settled acc (total (span f (q * s) (suc q * s))) =
    ap total (span_one p q) ∙ plus_last (p q) ∙ h q (omega arith)
    ∙ reduced_is acc (span f (q * s) (suc q * s)) in
    ap (λ xs. settled acc (total xs)) (sym (span_append p 0 q (suc q) (omega arith) (omega arith)))
    ∙ ap (settled acc) (total_append (span p 0 q) (span p q (suc q)))
    ∙ sym (settled_first acc (total (span p 0 q)) (total (span p q (suc q))) a)
    ∙ (λ i. settled acc (plus (grouped acc s f p q a (λ k b. h k (omega arith)) i) (own i)))
    ∙ settled_first acc (total (span f 0 (q * s))) (settled acc (total (span f (q * s)
    (suc q * s)))) a
    ∙ settled_second acc (total (span f 0 (q * s))) (total (span f (q * s) (suc q * s))) a
    ∙ ap (settled acc) (sym (total_append (span f 0 (q * s)) (span f (q * s) (suc q * s))))
    ∙ ap (λ xs. settled acc (total xs)) (span_append f 0 (q * s) (suc q * s) (omega arith) less)

-- what is carried into group q, and the elements from its start on
pub carried_on : (acc : Dtype) (s hi : ℕ) (f p : Line) (q : ℕ) (x : Option ℤ) → IsInteger acc
    → q * s ≤ hi → ((k : ℕ) → k < q → p k ≡ reduced_to Sum acc (span f (k * s) (suc k * s)))
    → x ≡ reduced_to Sum acc (span p 0 q)
    → reduced_to Sum acc (x ∷ span f (q * s) hi) ≡ reduced_to Sum acc (span f 0 hi)
carried_on acc s hi f p q x a b h e =
    reduced_is acc (x ∷ span f (q * s) hi)
    ∙ ap (λ y. settled acc (plus y (total (span f (q * s) hi)))) (e
    ∙ reduced_is acc (span p 0 q) ∙ grouped acc s f p q a h)
    ∙ settled_first acc (total (span f 0 (q * s))) (total (span f (q * s) hi)) a
    ∙ ap (settled acc) (sym (total_append (span f 0 (q * s)) (span f (q * s) hi)))
    ∙ ap (λ xs. settled acc (total xs)) (span_append f 0 (q * s) hi (omega arith) b)
    ∙ sym (reduced_is acc (span f 0 hi))

-- a group that ends within the elements is a whole one
whole_group : (acc : Dtype) (s n : ℕ) (f : Line) (k q : ℕ) → k < q → q * s ≤ n
    → group_sum acc s n f k ≡ reduced_to Sum acc (span f (k * s) (suc k * s))
whole_group acc s n f k q b h =
    let p : suc k * s ≤ q * s = mul-le (suc k) s q s (omega arith) (omega arith) in
    let e : min n (suc k * s) ≡ suc k * s = omega arith in
    ap (λ m. reduced_to Sum acc (span f (k * s) m)) e

-- the group of a place is one of them
group_within : (n s j : ℕ) → 0 < s → j < n → j / s < div_ceil n s
group_within n s j h b = let p = div-mul-le_self j s in within_counts n s (j / s) h (omega arith)

pub carry_before : (acc : Dtype) (g : ℕ) (l : Level) (ls : List Level) (j : ℕ) → IsInteger acc
    → 0 < g → AreLevels acc g l ls → j < l.size
    → l.carry j ≡ reduced_to Sum acc (span l.sums 0 j)
carry_before acc g l [] j a s h b =
    let first : j / g ≡ 0 = div-eq_of_lt (let w = h.0 in omega arith) in
    let start : 0 * g ≡ 0 = omega arith in
    h.1 j b ∙ ap (λ q. reduced_to Sum acc (span l.sums (q * g) j)) first
    ∙ ap (λ k. reduced_to Sum acc (span l.sums k j)) start
carry_before acc g l (m ∷ ls) j a s h b =
    let q = j / g in
    let start : q * g ≤ j = div-mul-le_self j g in
    let size = h.0 in
    let inside : q < div_ceil l.size g = group_within l.size g j s b in
    h.2 j b ∙ carried_on acc g j l.sums m.sums q (m.carry q) a start
    (λ k w. h.1 k (omega arith) ∙ whole_group acc g l.size l.sums k q w (omega arith))
    (carry_before acc g m ls q a s h.3 (omega arith))

pub scan_all : (acc : Dtype) (g c n : ℕ) (f : Line) (l : Level) (ls : List Level) (i : ℕ)
    → IsInteger acc → 0 < g → 0 < c
    → HasChunkSums acc c n f l → AreLevels acc g l ls → i < n
    → scan_sum acc c f (Some l.carry) i ≡ cumulative acc f i
scan_all acc g c n f l ls i a s t k h b =
    let q = i / c in
    let start : q * c ≤ i = div-mul-le_self i c in
    let size = k.0 in
    let inside : q < div_ceil n c = group_within n c i t b in
    carried_on acc c (suc i) f l.sums q (l.carry q) a (omega arith)
    (λ p w. k.1 p (omega arith) ∙ whole_group acc c n f p q w (omega arith))
    (carry_before acc g l ls q a s h (omega arith))
    ∙ cumulative_is acc f i

pub scan_single : (acc : Dtype) (c n : ℕ) (f : Line) (i : ℕ) → n ≤ c → i < n
    → scan_sum acc c f None i ≡ cumulative acc f i
scan_single acc c n f i h b =
    let first : i / c ≡ 0 = div-eq_of_lt (omega arith) in
    let start : 0 * c ≡ 0 = omega arith in
    ap (λ q. reduced_to Sum acc (span f (q * c) (suc i))) first
    ∙ ap (λ k. reduced_to Sum acc (span f k (suc i))) start ∙ cumulative_is acc f i
