-- Texts among the keys of a set.
use Rattle.std.proofs.Common.{◌≡◌, ℕ, ◌≤◌, Bool, false, List, [], ◌∷◌, ◌++◌, length, map, Some, None, String, string_bytes, bytes_eq, refl, arith, position}
use Rattle.std.specs.List.{list_any, position_or_len}
use Rattle.std.proofs.lemmas.List.{map-append}
use Rattle.std.specs.declared.alloc.Global.{Global}
use Rattle.indexmap.specs.IndexSet.{insert_key}

pub list_any-map : {X Y : Type 0} (p : Y → Bool) (f : X → Y) (xs : List X) → list_any p (map f xs) ≡ list_any (λ x. p (f x)) xs
list_any-map p f [] = refl
list_any-map p f (x ∷ xs) = grind (arith, list_any-map p f xs)

pub position_or_len-map : {X Y : Type 0} (p : Y → Bool) (f : X → Y) (xs : List X) → position_or_len p (map f xs) ≡ position_or_len (λ x. p (f x)) xs
position_or_len-map p f [] = refl
position_or_len-map p f (x ∷ xs) = grind (arith, position_or_len-map p f xs)

pub position_or_len_le : {X : Type 0} (p : X → Bool) (xs : List X) → position_or_len p xs ≤ length xs
position_or_len_le p [] = omega arith
position_or_len_le p (x ∷ xs) = grind (arith, position_or_len_le p xs)

pub place_found : {X : Type 0} (p : X → Bool) (xs : List X) (i : ℕ) → position p xs ≡ Some i → position_or_len p xs ≡ i
place_found p xs i h = grind arith

pub place_not_found : {X : Type 0} (p : X → Bool) (xs : List X) → position p xs ≡ None → position_or_len p xs ≡ length xs
place_not_found p xs h = grind (arith, position_or_len_le p xs)

-- a text that is no key yet goes last
pub inserted : (keys : List (String Global)) (text : String Global) (old : List (List ℕ)) (id : List ℕ) → map string_bytes keys ≡ old → string_bytes text ≡ id
    → list_any (bytes_eq id) old ≡ false → map string_bytes (insert_key (λ a b. bytes_eq (string_bytes a) (string_bytes b)) keys text) ≡ old ++ id ∷ []
inserted keys text old id is same new =
    let none : list_any (λ k. bytes_eq (string_bytes text) (string_bytes k)) keys ≡ false = rw (same, ← list_any-map (bytes_eq id) string_bytes keys, is) new in
    rw (none, map-append, is, same) refl
