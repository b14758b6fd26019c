-- What a list of entries holds after an entry is put in its place, appended or taken away.
use Rattle.std.proofs.Common.{◌≡◌, ℕ, ◌+◌, ◌<◌, zero, suc, List, [], ◌∷◌, ◌++◌, length, set, get_or, Option, Some, None, Bool, true, false, cond, not, nat_lt, if◌then◌else◌, IsTrue, ◌||◌, refl, sym, ap, ◌∙◌, arith}
use Rattle.std.specs.List.{position, position_or_len}
use Rattle.std.specs.Str.{bytes_eq}
use Rattle.std.proofs.lemmas.List.Quantifiers.{position-Some}
use Rattle.std.proofs.lemmas.Bool.Decides.{nat_tests}
use Rattle.std.proofs.lemmas.Slice.Eq.{bytes_eq-Decides}
use Rattle.cu_mem.specs.Entries.{Slot, held_in, has_place, IsFirstUnder}

pub first_under : (es : List Slot) (i : ℕ) (key : List ℕ) (d : Slot) → i < length es → bytes_eq (get_or es i d).0 key ≡ true → ((k : ℕ) → k < i → bytes_eq (get_or es k d).0 key ≡ false) → IsFirstUnder es i key
first_under [] i key d within here before = omega arith
first_under (e ∷ es) zero key d within here before = (bytes_eq-Decides e.0 key).0 here
first_under (e ∷ es) (suc i) key d within here before = (before 0 (omega arith), first_under es i key d (omega arith) here (λ k below. before (suc k) (omega arith)))

pub first_at : (es : List Slot) (i : ℕ) (key : List ℕ) → position (λ e. bytes_eq e.0 key) es ≡ Some i → IsFirstUnder es i key
first_at es i key at = let found = position-Some (λ (e : Slot). bytes_eq e.0 key) es i ([], None) at in first_under es i key ([], None) found.0 found.1 found.2

-- where the two tests are one
choose_same : (b : Bool) (x y z : Option (List ℕ)) → (if b then x else y) ≡ (if b then x else (if b then z else y))
choose_same true x y z = refl
choose_same false x y z = refl

-- where the two tests don't hold both
choose_apart : (b c : Bool) (x y u v : Option (List ℕ)) → (b ≡ true → c ≡ false) → u ≡ (if c then x else v) → (if b then y else u) ≡ (if c then x else (if b then y else v))
choose_apart true true x y u v apart behind = let no : true ≡ false = apart refl in cc
choose_apart true false x y u v apart behind = refl
choose_apart false c x y u v apart behind = behind

apart_keys : (a b key : List ℕ) → bytes_eq a b ≡ false → bytes_eq a key ≡ true → bytes_eq b key ≡ false
apart_keys a b key apart same = grind (arith, bytes_eq-Decides)

position_first : (b : Bool) (n len : ℕ) → cond (nat_lt (cond (not b) (1 + n) 0) (suc len)) (Some (cond (not b) (1 + n) 0)) None ≡ None → (b ≡ false) × (cond (nat_lt n len) (Some n) None ≡ None)
position_first true n len none = let within : nat_lt 0 (suc len) ≡ true = grind (arith, nat_tests) in let no = rw within at none in cc
position_first false n len none = (refl, grind (arith, nat_tests))

no_first : (b r : Bool) → b ≡ false → r ≡ false → (b || r) ≡ false
no_first b r x y = rw (x, y) refl

or_none : (b r : Bool) → (b || r) ≡ false → (b ≡ false) × (r ≡ false)
or_none true r h = cc
or_none false r h = (refl, h)

pub none_under : (es : List Slot) (key : List ℕ) → position (λ e. bytes_eq e.0 key) es ≡ None → has_place es key ≡ false
none_under [] key at = refl
none_under (e ∷ es) key at =
    let split = position_first (bytes_eq e.0 key) (position_or_len (λ (e : Slot). bytes_eq e.0 key) es) (length es) at in
    no_first (bytes_eq e.0 key) (has_place es key) split.0 (none_under es key split.1)

-- a key with no place isn't held
pub no_place : (es : List Slot) (key : List ℕ) → has_place es key ≡ false → held_in es key ≡ None
no_place [] key none = refl
no_place (e ∷ es) key none =
    let split = or_none (bytes_eq e.0 key) (has_place es key) none in
    ap (λ b. if b then e.1 else held_in es key) split.0 ∙ no_place es key split.1

-- the place of a key in a slice, as the place in the list that the slice shows
pub first_seen : (es seen : List Slot) (key named : List ℕ) (i : ℕ) → seen ≡ es → named ≡ key → Some i ≡ position (λ e. bytes_eq e.0 named) seen → IsFirstUnder es i key
first_seen es seen key named i shows names at = first_at es i key (rw (← shows, ← names) (sym at))

pub none_seen : (es seen : List Slot) (key named : List ℕ) → seen ≡ es → named ≡ key → None ≡ position (λ e. bytes_eq e.0 named) seen → has_place es key ≡ false
none_seen es seen key named shows names at = none_under es key (rw (← shows, ← names) (sym at))

pub under-set : (es : List Slot) (i : ℕ) (w : Slot) (key : List ℕ) → IsFirstUnder es i w.0 → held_in (set es i w) key ≡ (if bytes_eq w.0 key then w.1 else held_in es key)
under-set [] i w key first = absurd first
under-set (e ∷ es) zero w key first = rw first (choose_same (bytes_eq w.0 key) w.1 (held_in es key) e.1)
under-set (e ∷ es) (suc i) w key first = choose_apart (bytes_eq e.0 key) (bytes_eq w.0 key) w.1 e.1 _ _ (apart_keys e.0 w.0 key first.0) (under-set es i w key first.1)

pub places-set : (es : List Slot) (i : ℕ) (w : Slot) (key : List ℕ) → IsFirstUnder es i w.0 → has_place (set es i w) key ≡ has_place es key
places-set [] i w key first = absurd first
places-set (e ∷ es) zero w key first = ap (λ k. bytes_eq k key || has_place es key) (sym first)
places-set (e ∷ es) (suc i) w key first = ap (λ b. bytes_eq e.0 key || b) (places-set es i w key first.1)

pub under-append : (es : List Slot) (w : Slot) (key : List ℕ) → has_place es w.0 ≡ false → held_in (es ++ w ∷ []) key ≡ (if bytes_eq w.0 key then w.1 else held_in es key)
under-append [] w key absent = refl
under-append (e ∷ es) w key absent =
    let split = or_none (bytes_eq e.0 w.0) (has_place es w.0) absent in
    choose_apart (bytes_eq e.0 key) (bytes_eq w.0 key) w.1 e.1 _ _ (apart_keys e.0 w.0 key split.0) (under-append es w key split.1)

or_kept : (a b c : Bool) → (IsTrue b → IsTrue c) → IsTrue (a || b) → IsTrue (a || c)
or_kept true b c f h = refl
or_kept false b c f h = f h

pub places-append : (es : List Slot) (w : Slot) (key : List ℕ) → IsTrue (has_place es key) → IsTrue (has_place (es ++ w ∷ []) key)
places-append [] w key h = let no_ : false ≡ true = h in cc
places-append (e ∷ es) w key h = or_kept (bytes_eq e.0 key) (has_place es key) (has_place (es ++ w ∷ []) key) (places-append es w key) h

or_last : (a b : Bool) → b ≡ true → (a || b) ≡ true
or_last true b h = refl
or_last false b h = h

pub place-append : (es : List Slot) (w : Slot) → has_place (es ++ w ∷ []) w.0 ≡ true
place-append [] w = ap (λ b. b || false) ((bytes_eq-Decides w.0 w.0).1 refl)
place-append (e ∷ es) w = or_last (bytes_eq e.0 w.0) (has_place (es ++ w ∷ []) w.0) (place-append es w)

-- a key that is found has a place
pub found_place : (es : List Slot) (i : ℕ) (key : List ℕ) → IsFirstUnder es i key → has_place es key ≡ true
found_place [] i key first = absurd first
found_place (e ∷ es) zero key first = ap (λ b. b || has_place es key) ((bytes_eq-Decides e.0 key).1 first)
found_place (e ∷ es) (suc i) key first = or_last (bytes_eq e.0 key) (has_place es key) (found_place es i key first.1)

-- a key that is away holds nothing
pub away : (b : Bool) (held : Option (List ℕ)) → (b ≡ true → held ≡ None) → held ≡ (if b then None else held)
away true held h = h refl
away false held h = refl

pub same_held : (b : Bool) (held : Option (List ℕ)) → (b ≡ true → held ≡ None) → (if b then None else held) ≡ held
same_held b held h = sym (away b held h)

-- a place that is new holds nothing
pub kept_append : (es : List Slot) (key k : List ℕ) → has_place es key ≡ false → held_in (es ++ (key, None) ∷ []) k ≡ held_in es k
kept_append es key k absent =
    under-append es (key, None) k absent
    ∙ same_held (bytes_eq key k) (held_in es k) (λ same. ap (held_in es) (sym ((bytes_eq-Decides key k).0 same)) ∙ no_place es key absent)
