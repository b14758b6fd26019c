-- What is read of a key that is only read.
use Rattle.std.proofs.Common.{◌≡◌, ℕ, zero, suc, ◌<◌, Bool, true, false, IsTrue, ◌&&◌, if◌then◌else◌, List, [], ◌∷◌, length, replicate, get_or, take, Option, Some, None, Ok, refl, sym, ap, ◌∙◌, subst, arith}
use Rattle.std.specs.Option.{is_some}
use Rattle.cu_store.specs.Held.{Contents, Gets}
use Rattle.cu_store.specs.Yard.{bytes_under, is_made}
use Rattle.cu_store.specs.declared.depot.Got.{Got}
use Rattle.cu_store.specs.declared.yard.Spec.{Spec}
use Rattle.cu_cells.specs.Layout.{Laid}
use Rattle.cu_cells.specs.Cells.{place_in, is_seen_place, has_cell_in, entry_at, entries_in, IsEntryCopied, IsFair}
use Rattle.cu_cells.proofs.Found.{made_at}

pub gets_copied : (held : Contents) (key old new : List ℕ) (e : Option (List ℕ)) (result : Got) → held key ≡ e → IsEntryCopied e old new result → Gets (Some held) key new (Ok result)
gets_copied held key old new None result is copied = subst (λ (r : Got). Gets (Some held) key new (Ok r)) (sym copied) is
gets_copied held key old new (Some bytes) result is copied = subst (λ (r : Got). Gets (Some held) key new (Ok r)) (sym copied.0)
    (bytes, is, refl, copied.1 ∙ ap (λ (n : ℕ). take n bytes) (sym copied.2))

entry_is : (es : List (Option (List ℕ))) (c : ℕ) (d : Option (List ℕ)) → c < length es → entry_at es (Some c) ≡ get_or es c d
entry_is [] c d less = absurd (omega arith)
entry_is (e ∷ es) zero d less = refl
entry_is (e ∷ es) (suc c) d less = entry_is es c d (omega arith)

clash : (b : Bool) (P : Type 0) → b ≡ true → b ≡ false → P
clash b P y n = let e : true ≡ false = sym y ∙ n in cc

bool_of : (b : Bool) (P : Type 0) → (IsTrue b → P) → (b ≡ false → P) → P
bool_of true P t f = t refl
bool_of false P t f = f refl

-- a key at whose place stands no made spec is none that is made
pub unmade : (l : Laid) (key : List ℕ) (c : ℕ) (s : Spec) (P : Type 0) → IsFair l → place_in l.specs key ≡ Some c → get_or l.specs c s ≡ s → s.made ≡ false → IsTrue (is_made l.specs key) → P
unmade l key c s P fair at there isnt made = clash s.made P (ap (λ (x : Spec). x.made) (sym there) ∙ made_at l.specs key c fair.apart made at s) isnt

pub not_made : (l : Laid) (key : List ℕ) (c : ℕ) (s : Spec) → IsFair l → place_in l.specs key ≡ Some c → get_or l.specs c s ≡ s → s.made ≡ false → is_made l.specs key ≡ false
not_made l key c s fair at there isnt = bool_of (is_made l.specs key) (is_made l.specs key ≡ false) (unmade l key c s (is_made l.specs key ≡ false) fair at there isnt) (λ e. e)

pub held_entry : (l pl : Laid) (seen : List ℕ) (key : List ℕ) (es : List (Option (List ℕ))) (c : ℕ) (d : Option (List ℕ)) (s : Spec) → pl ≡ l → IsFair l → place_in l.specs key ≡ Some c → get_or l.specs c s ≡ s
    → s.made ≡ false → c < length es → (if has_cell_in pl seen key then bytes_under pl.promise key else entries_in pl es key) ≡ get_or es c d
held_entry l pl seen key es c d s laid fair at there isnt less =
    let no_ = not_made l key c s fair at there isnt in
    ap (λ (x : Laid). if has_cell_in x seen key then bytes_under x.promise key else entries_in x es key) laid
    ∙ (ap (λ b. if b && (is_some (bytes_under l.promise key) && is_seen_place seen (place_in l.specs key)) then bytes_under l.promise key else (if b then None else entry_at es (place_in l.specs key))) no_
    ∙ (ap (entry_at es) at ∙ entry_is es c d less))

none_at : (n : ℕ) (o : Option ℕ) → entry_at (replicate n None) o ≡ None
none_at n None = refl
none_at zero (Some c) = refl
none_at (suc n) (Some zero) = refl
none_at (suc n) (Some (suc c)) = none_at n (Some c)

made_or : (b : Bool) (o : Option (List ℕ)) → o ≡ None → (if b then None else o) ≡ None
made_or true o is = refl
made_or false o is = is

pub none_filled : (l : Laid) (es : List (Option (List ℕ))) (n : ℕ) (key : List ℕ) → es ≡ replicate n None → entries_in l es key ≡ None
none_filled l es n key is = made_or (is_made l.specs key) (entry_at es (place_in l.specs key)) (ap (λ (x : List (Option (List ℕ))). entry_at x (place_in l.specs key)) is ∙ none_at n (place_in l.specs key))
