-- What a pass shows once it has seen one cell more.
use Rattle.std.proofs.Common.{◌≡◌, ℕ, Bool, true, false, IsTrue, ◌&&◌, ◌||◌, ◌==◌, if◌then◌else◌, List, [], ◌∷◌, Option, Some, None, refl, sym, ap, ◌∙◌, inl, inr, eq-eqb, ne_eqb}
use Rattle.std.proofs.lemmas.Slice.Eq.{bytes_eq-Decides}
use Rattle.std.specs.Str.{bytes_eq}
use Rattle.std.specs.Option.{is_some}
use Rattle.cu_store.specs.Held.{Contents}
use Rattle.cu_store.specs.Steps.{PutOf, OrLate, IsChangedBy}
use Rattle.cu_store.specs.Yard.{bytes_under, is_made}
use Rattle.cu_cells.specs.Layout.{Laid}
use Rattle.cu_cells.specs.Cells.{place_in, has_number, is_seen_place, has_cell_in}
use Rattle.cu_cells.proofs.Found.{stands}

and_true : (a b c : Bool) → a ≡ true → b ≡ true → c ≡ true → (a && (b && c)) ≡ true
and_true a b c x y z = rw (x, y, z) refl

some_there : (o : Option (List ℕ)) (bytes : List ℕ) → o ≡ Some bytes → is_some o ≡ true
some_there o bytes e = ap is_some e

same_number : (c : ℕ) (rest : Bool) → ((c == c) || rest) ≡ true
same_number c rest = ap (λ b. b || rest) (eq-eqb c c refl)

-- the cell's own key was seen
pub seen_own : (l : Laid) (seen : List ℕ) (c : ℕ) (key bytes : List ℕ) → IsTrue (is_made l.specs key) → bytes_under l.promise key ≡ Some bytes → place_in l.specs key ≡ Some c
    → has_cell_in l (c ∷ seen) key ≡ true
seen_own l seen c key bytes made told at =
    and_true (is_made l.specs key) (is_some (bytes_under l.promise key)) (is_seen_place (c ∷ seen) (place_in l.specs key)) made (some_there (bytes_under l.promise key) bytes told)
    (ap (is_seen_place (c ∷ seen)) at ∙ same_number c (has_number seen c))

other_place : (seen : List ℕ) (c : ℕ) (o : Option ℕ) → (o ≡ Some c → ⊥) → is_seen_place (c ∷ seen) o ≡ is_seen_place seen o
other_place seen c None other = refl
other_place seen c (Some d) other = ap (λ b. b || has_number seen d) (ne_eqb d c (λ e. other (ap Some e)))

-- of no other key more is known
pub seen_other : (l : Laid) (seen : List ℕ) (c : ℕ) (key other : List ℕ) → place_in l.specs key ≡ Some c → bytes_eq other key ≡ false → has_cell_in l (c ∷ seen) other ≡ has_cell_in l seen other
seen_other l seen c key other at differ =
    ap (λ b. is_made l.specs other && (is_some (bytes_under l.promise other) && b)) (other_place seen c (place_in l.specs other)
    (λ e. let mine = stands l.specs key c at in let theirs = stands l.specs other c e in
    let a : mine.spec.key ≡ key = (bytes_eq-Decides mine.spec.key key).0 mine.key in
    let b : theirs.spec.key ≡ other = (bytes_eq-Decides theirs.spec.key other).0 theirs.key in
    let s : theirs.spec ≡ mine.spec = sym (theirs.at mine.spec) ∙ mine.at mine.spec in
    let same : other ≡ key = sym b ∙ (ap (λ x. x.key) s ∙ a) in
    let yes_ : bytes_eq other key ≡ true = (bytes_eq-Decides other key).1 same in
    let no_ : true ≡ false = sym yes_ ∙ differ in cc))

changed_at : (promise entries : Contents) (old new : List ℕ → Bool) (key bytes other : List ℕ) (b : Bool) → bytes_eq other key ≡ b → new key ≡ true → promise key ≡ Some bytes
    → (bytes_eq other key ≡ false → new other ≡ old other)
    → IsChangedBy (OrLate (PutOf key bytes) []) (λ k. if old k then promise k else entries k) (λ k. if new k then promise k else entries k) other
changed_at promise entries old new key bytes other true is seen told same =
    let e : other ≡ key = (bytes_eq-Decides other key).0 is in
    inr (inl (e, ap (λ k. if new k then promise k else entries k) e ∙ (ap (λ b. if b then promise key else entries key) seen ∙ told)))
changed_at promise entries old new key bytes other false is seen told same = inl (ap (λ b. if b then promise other else entries other) (same is))

pub lands_put : (promise entries : Contents) (old new : List ℕ → Bool) (key bytes : List ℕ) → new key ≡ true → promise key ≡ Some bytes
    → ((other : List ℕ) → bytes_eq other key ≡ false → new other ≡ old other)
    → (other : List ℕ) → IsChangedBy (OrLate (PutOf key bytes) []) (λ k. if old k then promise k else entries k) (λ k. if new k then promise k else entries k) other
lands_put promise entries old new key bytes seen told same other = changed_at promise entries old new key bytes other (bytes_eq other key) refl seen told (same other)
