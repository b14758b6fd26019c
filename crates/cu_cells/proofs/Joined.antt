-- What two passes have seen together.
use Rattle.std.proofs.Common.{◌≡◌, ℕ, Bool, true, false, ◌&&◌, ◌||◌, ◌==◌, List, [], ◌∷◌, ◌++◌, Option, Some, None, refl, sym, ap, ◌∙◌}
use Rattle.std.specs.Option.{is_some}
use Rattle.cu_store.specs.Yard.{bytes_under, is_made}
use Rattle.cu_cells.specs.Layout.{Laid}
use Rattle.cu_cells.specs.Cells.{place_in, has_number, is_seen_place, has_cell_in}

or_or : (a b c : Bool) → (a || (b || c)) ≡ ((a || b) || c)
or_or true b c = refl
or_or false b c = refl

number_either : (xs ys : List ℕ) (n : ℕ) → has_number (xs ++ ys) n ≡ (has_number xs n || has_number ys n)
number_either [] ys n = refl
number_either (x ∷ xs) ys n = ap (λ b. (n == x) || b) (number_either xs ys n) ∙ or_or (n == x) (has_number xs n) (has_number ys n)

place_either : (xs ys : List ℕ) (o : Option ℕ) → is_seen_place (xs ++ ys) o ≡ (is_seen_place xs o || is_seen_place ys o)
place_either xs ys None = refl
place_either xs ys (Some c) = number_either xs ys c

out_of : (a b c d : Bool) → (a && (b && (c || d))) ≡ ((a && (b && c)) || (a && (b && d)))
out_of true true c d = refl
out_of true false c d = refl
out_of false b c d = refl

pub seen_either : (l m : Laid) (xs ys : List ℕ) (key : List ℕ) → m ≡ l → has_cell_in l (xs ++ ys) key ≡ (has_cell_in l xs key || has_cell_in m ys key)
seen_either l m xs ys key same =
    ap (λ b. is_made l.specs key && (is_some (bytes_under l.promise key) && b)) (place_either xs ys (place_in l.specs key))
    ∙ (out_of (is_made l.specs key) (is_some (bytes_under l.promise key)) (is_seen_place xs (place_in l.specs key)) (is_seen_place ys (place_in l.specs key))
    ∙ ap (λ (x : Laid). has_cell_in l xs key || has_cell_in x ys key) (sym same))
