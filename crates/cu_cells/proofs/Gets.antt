-- The bytes of a cell, back from its words.
use Rattle.std.proofs.Common.{◌≡◌, ℕ, zero, suc, ◌+◌, ◌*◌, ◌/◌, ◌%◌, ◌<◌, ◌||◌, ◌&&◌, ◌==◌, if◌then◌else◌, Bool, true, false, IsTrue, List, [], ◌∷◌, ◌++◌, length, get_or, drop, take, Option, Some, None, min, refl, length-take, get_or-take, ext_get_or, ne_eqb, sym, ap, ◌∙◌, subst, inl, inr, arith}
use mathlib.Core.Logic.{dite}
use native.Mathlib.Decide.{ℕ_discrete}
use Rattle.std.proofs.lemmas.List.{get_or-drop, get_or_append_left}
use Rattle.std.specs.Option.{is_some}
use Rattle.cu_store.specs.Yard.{bytes_under, is_made}
use Rattle.cu_cells.specs.Layout.{Laid}
use Rattle.cu_cells.specs.Rule.{IsIn}
use Rattle.cu_cells.specs.Cells.{place_in, has_number, is_seen_place, has_cell_in}
use Rattle.std.proofs.lemmas.Nat.{le_bytes_8}
use Rattle.std.specs.Int.{w64, from_le_bytes, to_le_bytes}

abbrev eight : List ℕ → List ℕ
eight bs = get_or bs 0 0 ∷ get_or bs 1 0 ∷ get_or bs 2 0 ∷ get_or bs 3 0 ∷ get_or bs 4 0 ∷ get_or bs 5 0 ∷ get_or bs 6 0 ∷ get_or bs 7 0 ∷ []

eight_at : (bs : List ℕ) (j : ℕ) → j < 8 → get_or (eight bs) j 0 ≡ get_or bs j 0
eight_at bs zero less = refl
eight_at bs (suc zero) less = refl
eight_at bs (suc (suc zero)) less = refl
eight_at bs (suc (suc (suc zero))) less = refl
eight_at bs (suc (suc (suc (suc zero)))) less = refl
eight_at bs (suc (suc (suc (suc (suc zero))))) less = refl
eight_at bs (suc (suc (suc (suc (suc (suc zero)))))) less = refl
eight_at bs (suc (suc (suc (suc (suc (suc (suc zero))))))) less = refl
eight_at bs (suc (suc (suc (suc (suc (suc (suc (suc j)))))))) less = absurd (omega arith)

eight_small : (bs : List ℕ) → ((i : ℕ) → get_or bs i 0 < 256) → (j : ℕ) → get_or (eight bs) j 0 < 256
eight_small bs small zero = small 0
eight_small bs small (suc zero) = small 1
eight_small bs small (suc (suc zero)) = small 2
eight_small bs small (suc (suc (suc zero))) = small 3
eight_small bs small (suc (suc (suc (suc zero)))) = small 4
eight_small bs small (suc (suc (suc (suc (suc zero))))) = small 5
eight_small bs small (suc (suc (suc (suc (suc (suc zero)))))) = small 6
eight_small bs small (suc (suc (suc (suc (suc (suc (suc zero))))))) = small 7
eight_small bs small (suc (suc (suc (suc (suc (suc (suc (suc j)))))))) = omega arith

-- a byte of a word, where the bytes are bytes
pub byte_back : (bs : List ℕ) (j : ℕ) → ((i : ℕ) → get_or bs i 0 < 256) → j < 8 → get_or (to_le_bytes w64 (from_le_bytes w64 bs)) j 0 ≡ get_or bs j 0
byte_back bs j small less = ap (λ (x : List ℕ). get_or x j 0) (le_bytes_8 (eight bs) (from_le_bytes w64 bs) refl (eight_small bs small) refl) ∙ eight_at bs j less

-- the same of the word that has a byte of a longer text
pub byte_at_back : (bytes : List ℕ) (i : ℕ) → ((j : ℕ) → get_or bytes j 0 < 256) → get_or (to_le_bytes w64 (from_le_bytes w64 (drop (8 * (i / 8)) bytes))) (i % 8) 0 ≡ get_or bytes i 0
byte_at_back bytes i small =
    byte_back (drop (8 * (i / 8)) bytes) (i % 8) (λ j. subst (λ (x : ℕ). x < 256) (sym (get_or-drop (8 * (i / 8)) bytes j 0)) (small (8 * (i / 8) + j))) (omega arith)
    ∙ (get_or-drop (8 * (i / 8)) bytes (i % 8) 0 ∙ ap (λ (x : ℕ). get_or bytes x 0) (omega arith))

-- what was read of a text through its front is its front
pub front_read : (bytes front rest old : List ℕ) (n : ℕ) → n ≡ min (length old) (length bytes) → length front ≡ n → length (front ++ rest) ≡ length old
    → ((i : ℕ) → i < n → get_or front i 0 ≡ get_or bytes i 0) → take (length bytes) (front ++ rest) ≡ take (length (front ++ rest)) bytes
front_read bytes front rest old n is long whole same =
    ext_get_or 0 (take (length bytes) (front ++ rest)) (take (length (front ++ rest)) bytes)
    (omega (arith, length-take (length bytes) (front ++ rest), length-take (length (front ++ rest)) bytes))
    (λ i less.
    let inside : i < n = omega (arith, length-take (length bytes) (front ++ rest), is, whole, less) in
    get_or-take (length bytes) (front ++ rest) i 0 (omega arith) ∙ (get_or_append_left front rest 0 i (omega arith) ∙ (same i inside ∙ sym (get_or-take (length (front ++ rest)) bytes i 0 (omega arith)))))

number_in : (x : ℕ) (xs : List ℕ) (n : ℕ) → IsTrue ((n == x) || has_number xs n) → (IsTrue (has_number xs n) → IsIn xs n) → IsIn (x ∷ xs) n
number_in x xs n h rest = dite (ℕ_discrete n x) (λ same. inl same) (λ other. inr (rest (subst (λ b. IsTrue (b || has_number xs n)) (ne_eqb n x other) h)))

pub is_in : (xs : List ℕ) (n : ℕ) → IsTrue (has_number xs n) → IsIn xs n
is_in [] n h = cc
is_in (x ∷ xs) n h = number_in x xs n h (is_in xs n)

last_true : (a b c : Bool) → IsTrue (a && (b && c)) → IsTrue c
last_true true true c h = h
last_true true false c h = let e : false ≡ true = h in cc
last_true false b c h = let e : false ≡ true = h in cc

middle_true : (a b c : Bool) → IsTrue (a && (b && c)) → IsTrue b
middle_true true true c h = refl
middle_true true false c h = h
middle_true false b c h = let e : false ≡ true = h in cc

pub seen_cell : (l : Laid) (seen : List ℕ) (key : List ℕ) (c : ℕ) → place_in l.specs key ≡ Some c → IsTrue (has_cell_in l seen key) → IsIn seen c
seen_cell l seen key c at h = is_in seen c (subst (λ o. IsTrue (is_seen_place seen o)) at (last_true (is_made l.specs key) (is_some (bytes_under l.promise key)) (is_seen_place seen (place_in l.specs key)) h))

some_of : (o : Option (List ℕ)) → IsTrue (is_some o) → (bytes : List ℕ) × (o ≡ Some bytes)
some_of (Some bytes) h = (bytes, refl)
some_of None h = let e : false ≡ true = h in cc

pub seen_promise : (l : Laid) (seen : List ℕ) (key : List ℕ) → IsTrue (has_cell_in l seen key) → (bytes : List ℕ) × (bytes_under l.promise key ≡ Some bytes)
seen_promise l seen key h = some_of (bytes_under l.promise key) (middle_true (is_made l.specs key) (is_some (bytes_under l.promise key)) (is_seen_place seen (place_in l.specs key)) h)

pub held_seen : (l pl : Laid) (seen : List ℕ) (key bytes : List ℕ) (e : Option (List ℕ)) → pl ≡ l → has_cell_in pl seen key ≡ true → bytes_under l.promise key ≡ Some bytes
    → (if has_cell_in pl seen key then bytes_under pl.promise key else e) ≡ Some bytes
held_seen l pl seen key bytes e laid known told = ap (λ b. if b then bytes_under pl.promise key else e) known ∙ (ap (λ (x : Laid). bytes_under x.promise key) laid ∙ told)
