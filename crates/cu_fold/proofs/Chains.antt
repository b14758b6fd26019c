-- Lists one after another, and places that begin further on.
use Rattle.std.proofs.Common.{◌≡◌, ℕ, zero, suc, ◌+◌, ◌*◌, ◌<◌, List, [], ◌∷◌, ◌++◌, length, refl, sym, ap, ◌∙◌, arith, append_assoc, length-append}
use Rattle.std.specs.List.{range_with_len, flat_map}
use Rattle.std.proofs.lemmas.List.Concat.{flat_map-append}
use Rattle.cu_reduce.proofs.Ranges.{map-append, range_append}
use Rattle.cu_reduce.proofs.Regions.{append_none}
use Rattle.cu_fold.specs.Levels.{chained, moved}

pub chained_add : (a n : ℕ) (f : ℕ → List ℕ) → chained (a + n) f ≡ chained a f ++ chained n (λ j. f (a + j))
chained_add a zero f = let e : a + 0 ≡ a = omega arith in ap (λ k. chained k f) e ∙ sym (append_none (chained a f))
chained_add a (suc n) f =
    let e : a + suc n ≡ suc (a + n) = omega arith in
    ap (λ k. chained k f) e ∙ ap (λ xs. xs ++ f (a + n)) (chained_add a n f) ∙ append_assoc (chained a f) (chained n (λ j. f (a + j))) (f (a + n))

pub chained_mul : (m n : ℕ) (f : ℕ → List ℕ) → chained (m * n) f ≡ chained m (λ i. chained n (λ j. f (i * n + j)))
chained_mul zero n f = let e : 0 * n ≡ 0 = omega arith in ap (λ k. chained k f) e
chained_mul (suc m) n f =
    let e : suc m * n ≡ m * n + n = omega arith in
    ap (λ k. chained k f) e ∙ chained_add (m * n) n f ∙ ap (λ xs. xs ++ chained n (λ j. f (m * n + j))) (chained_mul m n f)

-- the same over the numbers as a list
pub chained_flat : (n : ℕ) (f : ℕ → List ℕ) → flat_map f (range_with_len 0 n) ≡ chained n f
chained_flat zero f = refl
chained_flat (suc n) f =
    let e : suc n ≡ n + 1 = omega arith in
    let s : 0 + n ≡ n = omega arith in
    ap (λ k. flat_map f (range_with_len 0 k)) e ∙ ap (flat_map f) (sym (range_append 0 n 1)) ∙ flat_map-append f (range_with_len 0 n) (range_with_len (0 + n) 1)
    ∙ (λ i. chained_flat n f i ++ (f (s i) ++ [])) ∙ ap (λ xs. chained n f ++ xs) (append_none (f n))

pub moved_moved : (a b : ℕ) (ps : List ℕ) → moved a (moved b ps) ≡ moved (a + b) ps
moved_moved a b [] = refl
moved_moved a b (p ∷ ps) = let e : a + (b + p) ≡ a + b + p = omega arith in (λ i. e i ∷ moved_moved a b ps i)

pub moved_none : (ps : List ℕ) → moved 0 ps ≡ ps
moved_none [] = refl
moved_none (p ∷ ps) = let e : 0 + p ≡ p = omega arith in (λ i. e i ∷ moved_none ps i)

pub moved_chained : (a n : ℕ) (f : ℕ → List ℕ) → moved a (chained n f) ≡ chained n (λ j. moved a (f j))
moved_chained a zero f = refl
moved_chained a (suc n) f = map-append (λ p. a + p) (chained n f) (f n) ∙ ap (λ xs. xs ++ moved a (f n)) (moved_chained a n f)

length_moved : (a : ℕ) (ps : List ℕ) → length (moved a ps) ≡ length ps
length_moved a [] = refl
length_moved a (p ∷ ps) = ap suc (length_moved a ps)

pub moved_some : (a : ℕ) (ps : List ℕ) → 0 < length ps → 0 < length (moved a ps)
moved_some a ps h = omega (arith, length_moved a ps)

pub chained_some : (n : ℕ) (f : ℕ → List ℕ) → 0 < n → ((i : ℕ) → 0 < length (f i)) → 0 < length (chained n f)
chained_some zero f h g = absurd (omega arith)
chained_some (suc n) f h g = omega (arith, length-append (chained n f) (f n), g n)

-- single places one after another are a range
pub chained_single : (n : ℕ) → chained n (λ i. moved (i * 1) (0 ∷ [])) ≡ range_with_len 0 n
chained_single zero = refl
chained_single (suc n) =
    let e : n * 1 + 0 ≡ 0 + n = omega arith in
    let s : n + 1 ≡ suc n = omega arith in
    (λ i. chained_single n i ++ (e i ∷ [])) ∙ range_append 0 n 1 ∙ ap (range_with_len 0) s
