-- Elements that are written again behind themselves.
use Rattle.std.proofs.Common.{◌≡◌, ℕ, suc, ◌+◌, ◌-◌, ◌*◌, ◌%◌, ◌<◌, ◌≤◌, List, length, ◌++◌, take, drop, refl, ap, sym, ◌∙◌, subst, arith, Some, ◌⊎◌, inl, inr, ⊎_elim}
use Rattle.std.proofs.Math.Nat.{mod-add-mod, mod-eq_of_lt, mod-le, mod-lt, mul-le-mul_right}
use Rattle.std.proofs.lemmas.Bool.{cases_lt}
use Rattle.std.proofs.lemmas.List.{drop-drop, drop_at, take_at, length-take-le}
use Rattle.cu_num.specs.Dtype.{size_of}
use Rattle.cu_num.specs.Element.{bytes_at, element_at}
use Rattle.cu_num.specs.declared.types.Dtype.{Dtype}
use Rattle.cu_num.specs.declared.layout.Endian.TheVariants.{Little}
use Rattle.cu_shape.specs.Index.{product, index_at}
use Rattle.cu_kern.specs.declared.lays.Lay.{Lay}
use Rattle.cu_kern.specs.Lays.{IsPeriod, place_read, lay_element, HasValue}
use Rattle.cu_kern.proofs.Parts.{part_inside}

-- elements that lie in the front of a list, and behind it
pub bytes_in_front : (t : Dtype) (front back : List ℕ) (k : ℕ) → k * size_of t + size_of t ≤ length front → bytes_at t (front ++ back) k ≡ bytes_at t front k
bytes_in_front t front back k h =
    sym (part_inside (size_of t) (k * size_of t) (length front) (front ++ back) h) ∙ ap (λ xs. take (size_of t) (drop (k * size_of t) xs)) (take_at front back (length front) refl)

pub bytes_in_back : (t : Dtype) (front back : List ℕ) (a j : ℕ) → length front ≡ a * size_of t → bytes_at t (front ++ back) (a + j) ≡ bytes_at t back j
bytes_in_back t front back a j long =
    let sum : (a + j) * size_of t ≡ a * size_of t + j * size_of t = omega arith in
    ap (take (size_of t)) (ap (λ n. drop n (front ++ back)) sum ∙ sym (drop-drop (j * size_of t) (a * size_of t) (front ++ back)) ∙ ap (drop (j * size_of t)) (drop_at front back (a * size_of t) long))

pub bytes_in_part : (t : Dtype) (n j : ℕ) (xs : List ℕ) → j * size_of t + size_of t ≤ n → bytes_at t (take n xs) j ≡ bytes_at t xs j
bytes_in_part t n j xs h = part_inside (size_of t) (j * size_of t) n xs h

-- so many places on, the same element of a period
pub same_rest : (done first j : ℕ) → done % first ≡ 0 → (done + j) % first ≡ j % first
same_rest done first j whole = sym (mod-add-mod done first j) ∙ ap (λ n. (n + j) % first) whole ∙ ap (λ n. n % first) (omega arith)

pub twice_whole : (done first : ℕ) → done % first ≡ 0 → (done + done) % first ≡ 0
twice_whole done first whole = same_rest done first done whole ∙ whole

-- the first elements, written once more behind themselves
pub repeat_more : (t : Dtype) (old front copied rest : List ℕ) (done count first size : ℕ) → length front ≡ done * size_of t → copied ≡ take (count * size) front → count * size ≡ count * size_of t → count ≤ done
    → done % first ≡ 0 → ((k : ℕ) → k < done → bytes_at t front k ≡ bytes_at t old (k % first)) → (k : ℕ) → k < done + count → bytes_at t (front ++ (copied ++ rest)) k ≡ bytes_at t old (k % first)
repeat_more t old front copied rest done count first size long copy n less whole same k b = ⊎_elim
    (λ before.
    let far : suc k * size_of t ≤ done * size_of t = mul-le-mul_right (size_of t) (let l : suc k ≤ done = omega arith in l) in
    bytes_in_front t front (copied ++ rest) k (omega arith) ∙ same k before)
    (λ behind.
    let j = k - done in
    let sum : k ≡ done + j = omega arith in
    let inside : suc j * size_of t ≤ count * size_of t = mul-le-mul_right (size_of t) (let l : suc j ≤ count = omega arith in l) in
    let all : count * size_of t ≤ done * size_of t = mul-le-mul_right (size_of t) less in
    let taken : length copied ≡ count * size_of t = ap length copy ∙ length-take-le (count * size) front (omega arith) ∙ n in
    ap (bytes_at t (front ++ (copied ++ rest))) sum
    ∙ bytes_in_back t front (copied ++ rest) done j long
    ∙ bytes_in_front t copied rest j (omega arith)
    ∙ ap (λ xs. bytes_at t xs j) copy
    ∙ bytes_in_part t (count * size) j front (omega arith)
    ∙ same j (omega arith)
    ∙ ap (bytes_at t old) (sym (ap (λ q. q % first) sum ∙ same_rest done first j whole)))
    (cases_lt k done)

-- the places of a period read the same again
period_read : (l : Lay) (ds : List ℕ) (period p : ℕ) → IsPeriod l.dims ds period → 0 < period → p < product ds → place_read l.dims ds (p % period) ≡ place_read l.dims ds p
period_read l ds period p h some within =
    let low : p % period < period = mod-lt p some in
    let none : p % period + 0 ≡ p % period = omega arith in
    let same : p + 0 ≡ p = omega arith in
    ap (place_read l.dims ds) (sym none) ∙ h p 0 (omega arith) (omega arith) ∙ ap (place_read l.dims ds) same

pub repeated_value : (l : Lay) (ins ds out : List ℕ) (period from k first all : ℕ) → IsPeriod l.dims ds period → 0 < period → from + all ≤ product ds → k < all → (all ≤ first) ⊎ (first ≡ period)
    → HasValue l.dtype out k (Some (lay_element l ins (index_at ds (from + k % first)))) → HasValue l.dtype out k (Some (lay_element l ins (index_at ds (from + k))))
repeated_value l ins ds out period from k first all h some within below which has =
    let P : ℕ → Type 0 = λ place. HasValue l.dtype out k (Some (element_at Little l.dtype (drop l.at ins) place)) in
    subst P (same which) has
  where
    whole : place_read l.dims ds (from + k % period) ≡ place_read l.dims ds (from + k)
    whole =
        let low : k % period ≤ k = mod-le k period in
        let turned : from + k % period ≡ k % period + from = omega arith in
        let back : k + from ≡ from + k = omega arith in
        sym (period_read l ds period (from + k % period) h some (omega arith))
        ∙ ap (place_read l.dims ds) (ap (λ n. n % period) turned ∙ mod-add-mod k period from ∙ ap (λ n. n % period) back)
        ∙ period_read l ds period (from + k) h some (omega arith)

    same : (all ≤ first) ⊎ (first ≡ period) → place_read l.dims ds (from + k % first) ≡ place_read l.dims ds (from + k)
    same (inl short) = let less : k < first = omega arith in ap (λ j. place_read l.dims ds (from + j)) (mod-eq_of_lt less)
    same (inr full) = ap (λ n. place_read l.dims ds (from + k % n)) full ∙ whole
