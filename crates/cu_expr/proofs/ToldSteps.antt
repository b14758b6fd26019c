-- The steps of the loops over the arguments of a node.
use Rattle.std.proofs.Common.{◌≡◌, ℕ, ◌+◌, ◌<◌, ◌≤◌, List, [], ◌∷◌, ◌++◌, length, take, drop, get_or, map, refl, sym, ap, ◌∙◌, append_assoc}
use Rattle.std.proofs.lemmas.List.{map_more, take_all, drop_more}
use Rattle.cu_node.specs.declared.info.NodeInfo.{NodeInfo}
use Rattle.cu_typing.specs.Joined.{arrays_of}
use Rattle.cu_typing.specs.declared.argument.Argument.{Argument}
use Rattle.cu_typing.specs.declared.argument.Argument.TheVariants.{Array, Written}

-- ---- each argument

pub mapped_more : {X Y : Type 0} (f : X → Y) (xs : List X) (k : ℕ) (d : X) (y : Y) (front list : List Y) → k < length xs → front ≡ map f (take k xs) → y ≡ f (get_or xs k d) → list ≡ front ++ y ∷ []
    → list ≡ map f (take (k + 1) xs)
mapped_more {Y = Y} f xs k d y front list within so_far is pushed =
    pushed ∙ ap (λ (ys : List Y). ys ++ y ∷ []) so_far ∙ ap (λ (z : Y). map f (take k xs) ++ z ∷ []) is ∙ sym (map_more f xs k d within)

pub mapped_all : {X Y : Type 0} (f : X → Y) (xs : List X) (k : ℕ) (list : List Y) → length xs ≤ k → list ≡ map f (take k xs) → list ≡ map f xs
mapped_all f xs k list past so_far = so_far ∙ ap (map f) (take_all k xs past)

-- ---- those that are arrays

left_at : (told : List Argument) (k : ℕ) (a : Argument) → k < length told → a ≡ get_or told k a → drop k told ≡ a ∷ drop (k + 1) told
left_at told k a within is = drop_more told k a within ∙ ap (λ (x : Argument). x ∷ drop (k + 1) told) (sym is)

pub array_more : (told : List Argument) (k : ℕ) (a : Argument) (info : NodeInfo) (front list : List NodeInfo) → k < length told → a ≡ get_or told k a → a ≡ Array info → list ≡ front ++ info ∷ []
    → front ++ arrays_of (drop k told) ≡ arrays_of told → list ++ arrays_of (drop (k + 1) told) ≡ arrays_of told
array_more told k a info front list within is array pushed so_far =
    ap (λ (ys : List NodeInfo). ys ++ arrays_of (drop (k + 1) told)) pushed ∙ append_assoc front (info ∷ []) (arrays_of (drop (k + 1) told))
    ∙ sym (ap (λ (xs : List Argument). front ++ arrays_of xs) (left_at told k a within is ∙ ap (λ (x : Argument). x ∷ drop (k + 1) told) array)) ∙ so_far

written_left : (a : Argument) (rest : List Argument) → ((i : NodeInfo) → a ≡ Array i → ⊥) → arrays_of (a ∷ rest) ≡ arrays_of rest
written_left (Array i) rest none = absurd (none i refl)
written_left (Written v) rest none = refl

pub array_none : (told : List Argument) (k : ℕ) (a : Argument) (front list : List NodeInfo) → k < length told → a ≡ get_or told k a → ((i : NodeInfo) → a ≡ Array i → ⊥) → list ≡ front
    → front ++ arrays_of (drop k told) ≡ arrays_of told → list ++ arrays_of (drop (k + 1) told) ≡ arrays_of told
array_none told k a front list within is none same so_far =
    ap (λ (ys : List NodeInfo). ys ++ arrays_of (drop (k + 1) told)) same ∙ ap (λ (ys : List NodeInfo). front ++ ys) (sym (written_left a (drop (k + 1) told) none))
    ∙ sym (ap (λ (xs : List Argument). front ++ arrays_of xs) (left_at told k a within is)) ∙ so_far
