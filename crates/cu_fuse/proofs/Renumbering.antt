-- Operations that get new numbers one after another.
use Rattle.std.proofs.Common.{◌≡◌, ℕ, ◌+◌, ◌<◌, List, [], ◌∷◌, ◌++◌, length, map, take, drop, get_or, ap, sym, ◌∙◌, arith, append_assoc, length-take-le}
use Rattle.std.proofs.Math.ListN.{set}
use Rattle.std.proofs.Math.Seq.{get_or-append_seam, set-append_seam}
use Rattle.std.proofs.lemmas.List.{drop_more, length-append, length-drop, length-map, length-take, map_more}

-- the first k elements of a list mapped, and the next one; each lemma is over plain lists
pub mapped_next : {A : Type 0} (f : A → A) (init cur : List A) (k : ℕ) (x : A) → cur ≡ map f (take k init) ++ drop k init → k < length cur → x ≡ get_or cur k x
    → set cur k (f x) ≡ map f (take (k + 1) init) ++ drop (k + 1) init
mapped_next {A} f init cur k x e h is =
    let n = ap length e ∙ length-append (map f (take k init)) (drop k init) in
    let m = length-map (take k init) f in
    let t = length-take k init in
    let d = length-drop k init in
    let within : k < length init = omega (arith, n, m, t, d, h) in
    let long : length (map f (take k init)) ≡ k = length-map (take k init) f ∙ length-take-le k init (omega (arith, within)) in
    let rest : drop k init ≡ get_or init k x ∷ drop (k + 1) init = drop_more init k x within in
    let now : cur ≡ map f (take k init) ++ (get_or init k x ∷ drop (k + 1) init) = e ∙ ap (λ l. map f (take k init) ++ l) rest in
    let here : x ≡ get_or init k x =
    is ∙ ap (λ l. get_or l k x) now ∙ ap (λ j. get_or (map f (take k init) ++ (get_or init k x ∷ drop (k + 1) init)) j x) (sym long)
    ∙ get_or-append_seam (map f (take k init)) (get_or init k x) (drop (k + 1) init) x in
    ap (λ l. set l k (f x)) now ∙ ap (λ j. set (map f (take k init) ++ (get_or init k x ∷ drop (k + 1) init)) j (f x)) (sym long)
    ∙ set-append_seam (map f (take k init)) (get_or init k x) (drop (k + 1) init) (f x)
    ∙ ap (λ y. map f (take k init) ++ (f y ∷ drop (k + 1) init)) here
    ∙ sym (append_assoc (map f (take k init)) (f (get_or init k x) ∷ []) (drop (k + 1) init))
    ∙ ap (λ l. l ++ drop (k + 1) init) (sym (map_more f init k x within))
