-- The elements of an input of the demonstration, place by place.
use Rattle.std.proofs.Common.{◌≡◌, ◌∙◌, ℕ, ◌+◌, ◌*◌, ◌/◌, ◌%◌, ◌≤◌, List, [], ◌∷◌, ◌++◌, map}
use Rattle.std.proofs.Common.{ℤ, pos, refl, sym, ap, arith}
use Rattle.std.specs.List.{range_with_len}
use Rattle.std.proofs.lemmas.List.FromFn.{map-range_with_len_more}
use Rattle.std.proofs.Math.Nat.{div-one}
use Rattle.std.proofs.lemmas.Nat.{mul-le}
use Rattle.cu_shape.specs.Index.{index_at}
use Rattle.cu_demo.specs.Input.{demo_at, demo_element, demo_elements, demo_shape}
use Rattle.cu_demo.specs.declared.input.DemoInput.{DemoInput}

-- the element at a place in row-major order
abbrev pub demo_at_place : DemoInput → ℕ → ℕ → ℤ
demo_at_place input n p = demo_at input (index_at (demo_shape n) p)

-- the elements before a place
abbrev pub demo_front : DemoInput → ℕ → ℕ → List ℤ
demo_front input n p = map (demo_at_place input n) (range_with_len 0 p)

-- the index at a place is its row and its column
pub index_of_place : (n p : ℕ) → index_at (demo_shape n) p ≡ p / n ∷ p % n ∷ []
index_of_place n p =
    let one : n * 1 ≡ n = omega arith in
    let whole : (p % n) / 1 ≡ p % n = div-one (p % n) in
    rw (one, whole) refl

pub at_row_and_column : (input : DemoInput) (n p : ℕ) → pos (demo_element input (p / n) (p % n)) ≡ demo_at_place input n p
at_row_and_column input n p = sym (ap (demo_at input) (index_of_place n p))

-- one element more
pub one_more : (input : DemoInput) (n p : ℕ) (front new : List ℤ) (x : ℤ) → front ≡ demo_front input n p → x ≡ pos (demo_element input (p / n) (p % n))
    → new ≡ front ++ x ∷ [] → new ≡ demo_front input n (p + 1)
one_more input n p front new x so_far is more =
    more ∙ ap (λ (xs : List ℤ). xs ++ x ∷ []) so_far ∙ ap (λ (y : ℤ). demo_front input n p ++ y ∷ []) (is ∙ at_row_and_column input n p)
    ∙ sym (map-range_with_len_more (demo_at_place input n) 0 p p (omega arith))

map_map : (f : List ℕ → ℤ) (g : ℕ → List ℕ) (ks : List ℕ) → map (λ k. f (g k)) ks ≡ map f (map g ks)
map_map f g [] = refl
map_map f g (k ∷ ks) = ap (λ (xs : List ℤ). f (g k) ∷ xs) (map_map f g ks)

-- all of them
pub whole : (input : DemoInput) (n : ℕ) → demo_front input n (n * n) ≡ demo_elements input n
whole input n =
    let one : n * 1 ≡ n = omega arith in
    rw one (map_map (demo_at input) (index_at (demo_shape n)) (range_with_len 0 (n * n)))

-- there are few
pub few_places : (n : ℕ) → n ≤ 2048 → n * n ≤ 4194304
few_places n few = mul-le n n 2048 2048 few few
