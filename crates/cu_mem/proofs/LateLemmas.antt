-- What lands, put by put.
use Rattle.std.proofs.Common.{◌≡◌, List, [], ◌∷◌, ◌&&◌, if◌then◌else◌, cond, not, map, reverse, ℕ, Option, Some, None, Bool, true, false, option_map, refl, sym, ◌∙◌, ap}
use Rattle.std.specs.List.{find, filter}
use Rattle.std.specs.Option.{option_or}
use Rattle.std.specs.Str.{bytes_eq}
use Rattle.std.proofs.lemmas.List.{reverse-append}
use Rattle.std.proofs.lemmas.List.Folds.{find-append}
use Rattle.cu_mem.specs.declared.late.Waiting.{Waiting}
use Rattle.cu_mem.specs.Late.{is_due, lands_on, one_less, waiting}

-- what a key holds once the puts that are due have landed, one after another
abbrev pub landed : List Waiting → List ℕ → Option (List ℕ) → Option (List ℕ)
landed [] key held = held
landed (w ∷ ws) key held = landed ws key (if is_due w && bytes_eq w.entry.0 key then Some w.entry.1 else held)

or_last : (found : Option Waiting) (here : Bool) (w : Waiting) (held : Option (List ℕ)) → option_or (option_map (λ (v : Waiting). v.entry.1) found) (if here then Some w.entry.1 else held) ≡ option_or (option_map (λ (v : Waiting). v.entry.1) (option_or found (cond here (Some w) None))) held
or_last (Some v) here w held = refl
or_last None true w held = refl
or_last None false w held = refl

pub landed-lands_on : (late : List Waiting) (key : List ℕ) (held : Option (List ℕ)) → landed late key held ≡ option_or (lands_on late key) held
landed-lands_on [] key held = refl
landed-lands_on (w ∷ ws) key held =
    landed-lands_on ws key (if is_due w && bytes_eq w.entry.0 key then Some w.entry.1 else held)
    ∙ or_last (find (λ (v : Waiting). is_due v && bytes_eq v.entry.0 key) (reverse ws)) (is_due w && bytes_eq w.entry.0 key) w held
    ∙ ap (λ found. option_or (option_map (λ (v : Waiting). v.entry.1) found) held) (sym (find-append (λ (v : Waiting). is_due v && bytes_eq v.entry.0 key) (reverse ws) (w ∷ [])))
    ∙ ap (λ vs. option_or (option_map (λ (v : Waiting). v.entry.1) (find (λ (v : Waiting). is_due v && bytes_eq v.entry.0 key) vs)) held) (sym (reverse-append (w ∷ []) ws))

-- the puts that are late after the next call, one after another
abbrev pub waiting_each : List Waiting → List Waiting
waiting_each [] = []
waiting_each (w ∷ ws) = if is_due w then waiting_each ws else one_less w ∷ waiting_each ws

waits_or_not : (due : Bool) (w : Waiting) (ws : List Waiting) → (if due then map one_less ws else one_less w ∷ map one_less ws) ≡ map one_less (cond (not due) (w ∷ ws) ws)
waits_or_not true w ws = refl
waits_or_not false w ws = refl

pub waiting_each-waiting : (late : List Waiting) → waiting_each late ≡ waiting late
waiting_each-waiting [] = refl
waiting_each-waiting (w ∷ ws) =
    ap (λ us. if is_due w then us else one_less w ∷ us) (waiting_each-waiting ws)
    ∙ waits_or_not (is_due w) w (filter (λ (v : Waiting). not (is_due v)) ws)
