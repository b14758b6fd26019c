-- Texts among the keys of a set, and the keys of specs.
use Rattle.std.proofs.Common.{◌≡◌, ℕ, zero, suc, ◌<◌, Bool, true, false, ◌||◌, List, [], ◌∷◌, ◌++◌, length, map, take, get_or, String, string_bytes, bytes_eq, refl, sym, ap, ◌∙◌, arith, position}
use Rattle.std.specs.List.{list_any}
use Rattle.std.proofs.lemmas.List.{map-append}
use Rattle.std.proofs.lemmas.Slice.Eq.{bytes_eq-Decides}
use Rattle.std.specs.declared.alloc.Global.{Global}
use Rattle.indexmap.specs.IndexSet.{insert_key}
use Rattle.cu_store.specs.Yard.{is_served}
use Rattle.cu_store.specs.Share.{KeysDiffer}
use Rattle.cu_store.specs.declared.yard.Spec.{Spec}
use Rattle.cu_cells.specs.Cells.{place_in}

list_any-map : {X Y : Type 0} (p : Y → Bool) (f : X → Y) (xs : List X) → list_any p (map f xs) ≡ list_any (λ x. p (f x)) xs
list_any-map p f [] = refl
list_any-map p f (x ∷ xs) = grind (arith, list_any-map p f xs)

pub position-map : {X Y : Type 0} (p : Y → Bool) (f : X → Y) (xs : List X) → position p (map f xs) ≡ position (λ x. p (f x)) xs
position-map p f [] = refl
position-map p f (x ∷ xs) = grind (arith, position-map p f xs)

-- a text that is no key yet goes last
pub inserted : (keys : List (String Global)) (text : String Global) (old : List (List ℕ)) (id : List ℕ) → map string_bytes keys ≡ old → string_bytes text ≡ id
    → list_any (bytes_eq id) old ≡ false → map string_bytes (insert_key (λ a b. bytes_eq (string_bytes a) (string_bytes b)) keys text) ≡ old ++ id ∷ []
inserted keys text old id is same new =
    let none : list_any (λ k. bytes_eq (string_bytes text) (string_bytes k)) keys ≡ false = rw (same, ← list_any-map (bytes_eq id) string_bytes keys, is) new in
    rw (none, map-append, is, same) refl

by_truth : (a b : Bool) → (a ≡ true → b ≡ true) → (b ≡ true → a ≡ true) → a ≡ b
by_truth true b f g = sym (f refl)
by_truth false true f g = g refl
by_truth false false f g = refl

pub eq_turned : (x y : List ℕ) → bytes_eq x y ≡ bytes_eq y x
eq_turned x y = by_truth (bytes_eq x y) (bytes_eq y x) (λ h. (bytes_eq-Decides y x).1 (sym ((bytes_eq-Decides x y).0 h))) (λ h. (bytes_eq-Decides x y).1 (sym ((bytes_eq-Decides y x).0 h)))

-- the place of a key among the texts is its place among the specs
pub place_found : (ss : List Spec) (key : List ℕ) → position (bytes_eq key) (map (λ (s : Spec). s.key) ss) ≡ place_in ss key
place_found [] key = refl
place_found (s ∷ ss) key = grind (arith, place_found ss key, eq_turned key s.key)

pub none_true : (b : Bool) {P : Type 0} → b ≡ false → b ≡ true → P
none_true true n y = let e : true ≡ false = n in cc
none_true false n y = let e : false ≡ true = y in cc

or_false : (a b : Bool) → a ≡ false → b ≡ false → (a || b) ≡ false
or_false a b x y = rw (x, y) refl

or_true : (a b : Bool) → b ≡ true → (a || b) ≡ true
or_true true b h = refl
or_true false b h = h

-- a key of the list is served
pub served_at : (ss : List Spec) (i : ℕ) (s : Spec) → i < length ss → get_or ss i s ≡ s → is_served ss s.key ≡ true
served_at [] i s less at = absurd (omega arith)
served_at (t ∷ ts) zero s less at = ap (λ b. b || is_served ts s.key) ((bytes_eq-Decides t.key s.key).1 (ap (λ (x : Spec). x.key) at))
served_at (t ∷ ts) (suc i) s less at = or_true (bytes_eq t.key s.key) (is_served ts s.key) (served_at ts i s (omega arith) at)

differ_first : (b : Bool) (t s : Spec) (ts : List Spec) → bytes_eq s.key t.key ≡ b → is_served ts t.key ≡ false → is_served ts s.key ≡ true → b ≡ false
differ_first true t s ts is apart here = none_true (is_served ts t.key) apart (ap (is_served ts) (sym ((bytes_eq-Decides s.key t.key).0 is)) ∙ here)
differ_first false t s ts is apart here = refl

-- a key is none of those before it
pub new_key : (ss : List Spec) (i : ℕ) (s : Spec) → KeysDiffer ss → i < length ss → get_or ss i s ≡ s → list_any (bytes_eq s.key) (map (λ (x : Spec). x.key) (take i ss)) ≡ false
new_key [] i s differ less at = absurd (omega arith)
new_key (t ∷ ts) zero s differ less at = refl
new_key (t ∷ ts) (suc i) s differ less at =
    or_false (bytes_eq s.key t.key) (list_any (bytes_eq s.key) (map (λ (x : Spec). x.key) (take i ts)))
    (differ_first (bytes_eq s.key t.key) t s ts refl differ.0 (served_at ts i s (omega arith) at))
    (new_key ts i s differ.1 (omega arith) at)
