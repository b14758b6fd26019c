-- The names of the eleven members, in three groups.
use Rattle.std.proofs.Common.{◌≡◌, ℕ, ◌||◌, Bool, true, false, List, codes, bytes_eq, refl, ap, ◌∙◌}
use Rattle.cu_meta.specs.Members.{names_array, names_chunks, names_optional, is_known}

or_four : (a e f g h : Bool) → (a || (e || f || g || h)) ≡ (a || e || f || g || h)
or_four true e f g h = refl
or_four false e f g h = refl

or_three : (a x y z : Bool) → (a || (x || y || z)) ≡ (a || x || y || z)
or_three true x y z = refl
or_three false x y z = refl

pub in_groups : (k : List ℕ) → (names_array k || names_chunks k || names_optional k) ≡ is_known k
in_groups k =
    ap (λ (b : Bool). b || names_optional k)
    (or_four (names_array k) (bytes_eq k (codes "chunk_grid")) (bytes_eq k (codes "chunk_key_encoding")) (bytes_eq k (codes "fill_value")) (bytes_eq k (codes "codecs")))
    ∙ or_three _ (bytes_eq k (codes "attributes")) (bytes_eq k (codes "dimension_names")) (bytes_eq k (codes "storage_transformers"))

pub by_groups : (k : List ℕ) (a b c : Bool) → a ≡ names_array k → b ≡ names_chunks k → c ≡ names_optional k → (a || b || c) ≡ is_known k
by_groups k a b c first second third = rw (first, second, third) (in_groups k)
