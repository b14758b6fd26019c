-- The keys of failed puts that land.
use Rattle.std.proofs.Common.{◌≡◌, ℕ, zero, suc, ◌<◌, Bool, true, false, IsTrue, ◌&&◌, ◌||◌, ◌==◌, if◌then◌else◌, List, [], ◌∷◌, get_or, refl, sym, ap, ◌∙◌, subst}
use Rattle.std.specs.Str.{bytes_eq}
use Rattle.std.specs.Option.{is_some}
use Rattle.std.proofs.lemmas.Slice.Eq.{bytes_eq-Decides}
use Rattle.cu_store.specs.Held.{Write}
use Rattle.cu_store.specs.Share.{KeysDiffer}
use Rattle.cu_store.specs.Yard.{bytes_under, is_made}
use Rattle.cu_store.specs.declared.yard.Spec.{Spec}
use Rattle.cu_cells.specs.Cells.{spec_key, has_cell_in}
use Rattle.cu_cells.specs.Late.{AreStored, landed_by, lands_now}
use Rattle.cu_cells.specs.Layout.{Laid, flag_count, is_named_cell, named_at}
use Rattle.cu_cells.specs.Rule.{Viewed}
use Rattle.cu_cells.specs.declared.late.LateCell.{LateCell}
use Rattle.cu_cells.proofs.Own.{or_same, place_own, promised_there, seen_more}

first_of : (a b : Bool) → IsTrue (a && b) → a ≡ true
first_of true b h = refl
first_of false b h = h

pub or_right : (a b : Bool) → IsTrue b → IsTrue (a || b)
or_right true b h = refl
or_right false b h = h

or_and : (a b rest : Bool) → a ≡ true → b ≡ true → IsTrue ((a && b) || rest)
or_and a b rest x y = rw (x, y) refl

made_at_named : (promise : List Write) (ss : List Spec) (c : ℕ) → IsTrue (named_at promise ss c) → IsTrue (is_made ss (spec_key ss c))
made_at_named promise [] c h = h
made_at_named promise (s ∷ ss) zero h = or_and s.made (bytes_eq s.key s.key) (is_made ss s.key) (first_of s.made (is_some (bytes_under promise s.key)) h) ((bytes_eq-Decides s.key s.key).1 refl)
made_at_named promise (s ∷ ss) (suc c) h = or_right (s.made && bytes_eq s.key (spec_key ss c)) (is_made ss (spec_key ss c)) (made_at_named promise ss c h)

-- the key of a named cell is a made one
pub named_made : (l : Laid) (c : ℕ) → IsTrue (is_named_cell l c) → IsTrue (is_made l.specs (spec_key l.specs c))
named_made l c h = made_at_named l.promise l.specs c h

spec_made_at : (promise : List Write) (ss : List Spec) (c : ℕ) (s : Spec) → IsTrue (named_at promise ss c) → get_or ss c s ≡ s → s.made ≡ true
spec_made_at promise [] c s h at = let no_ : false ≡ true = h in cc
spec_made_at promise (t ∷ ts) zero s h at = ap (λ (x : Spec). x.made) (sym at) ∙ first_of t.made (is_some (bytes_under promise t.key)) h
spec_made_at promise (t ∷ ts) (suc c) s h at = spec_made_at promise ts c s h at

pub spec_made : (l : Laid) (c : ℕ) (s : Spec) → IsTrue (is_named_cell l c) → get_or l.specs c s ≡ s → s.made ≡ true
spec_made l c s h at = spec_made_at l.promise l.specs c s h at

or_join : (a b c : Bool) → ((a || b) || c) ≡ (a || (b || c))
or_join true b c = refl
or_join false b c = refl

land_if : (l : Laid) (c : ℕ) (xs : List ℕ) (key : List ℕ) (due : Bool) → KeysDiffer l.specs → c < flag_count l → IsTrue (is_named_cell l c)
    → has_cell_in l (if due then c ∷ xs else xs) key ≡ (has_cell_in l xs key || (due && bytes_eq (spec_key l.specs c) key))
land_if l c xs key true apart less named =
    let told = promised_there l c named in
    seen_more l xs c key (spec_key l.specs c) told.0 (named_made l c named) told.1 (place_own l.specs c apart less)
land_if l c xs key false apart less named = or_same (has_cell_in l xs key)

pub landed_keys : (l : Laid) (v : Viewed) (ls : List LateCell) (xs : List ℕ) (key : List ℕ) → KeysDiffer l.specs → v.laid ≡ l → AreStored v ls
    → has_cell_in l (landed_by ls xs) key ≡ (has_cell_in l xs key || lands_now l.specs ls key)
landed_keys l v [] xs key apart laid all = or_same (has_cell_in l xs key)
landed_keys l v (m ∷ ms) xs key apart laid all =
    let less : m.cell < flag_count l = subst (λ (x : Laid). m.cell < flag_count x) laid all.0.cell in
    let named : IsTrue (is_named_cell l m.cell) = subst (λ (x : Laid). IsTrue (is_named_cell x m.cell)) laid all.0.named in
    landed_keys l v ms (if m.wait == 0 then m.cell ∷ xs else xs) key apart laid all.1
    ∙ (ap (λ b. b || lands_now l.specs ms key) (land_if l m.cell xs key (m.wait == 0) apart less named)
    ∙ or_join (has_cell_in l xs key) (m.wait == 0 && bytes_eq (spec_key l.specs m.cell) key) (lands_now l.specs ms key))

-- a key that has landed is a made one
pub landed_made : (l : Laid) (xs : List ℕ) (key : List ℕ) → IsTrue (has_cell_in l xs key) → IsTrue (is_made l.specs key)
landed_made l xs key h = first_of (is_made l.specs key) _ h

pub not_so : (b : Bool) → (IsTrue b → ⊥) → b ≡ false
not_so true no_ = absurd (no_ refl)
not_so false no_ = refl
