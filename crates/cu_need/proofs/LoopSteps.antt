-- Loops that add up what is left of a list, or find the most of it: one element more, and the end.
use Rattle.std.proofs.Common.{◌≡◌, ℕ, ◌+◌, ◌*◌, ◌^◌, ◌<◌, ◌≤◌, ◌&&◌, Bool, true, false, List, ◌∷◌, length, drop, get_or, map, max, sum_by, refl, ap, ◌∙◌, arith}
use Rattle.std.proofs.lemmas.List.{at_drop_more, at_drop_all}
use Rattle.std.proofs.lemmas.List.Sums.{sum_by-cons, sum_by-drop_more}
use Rattle.cu_form.specs.declared.args.Arg.{Arg}
use Rattle.cu_node.specs.Info.{info_at}
use Rattle.cu_node.specs.declared.info.NodeInfo.{NodeInfo}
use Rattle.cu_need.specs.Chunks.{arrays_in}
use Rattle.cu_shape.specs.Counts.{largest}

pub more_summed : {A : Type 0} (f : A → ℕ) (xs : List A) (i : ℕ) (d : A) (sum whole : ℕ) → i < length xs → sum + sum_by f (drop i xs) ≡ whole → (sum + f (get_or xs i d)) + sum_by f (drop (i + 1) xs) ≡ whole
more_summed f xs i d sum whole below known = let here = sum_by-drop_more f xs i d below in omega (arith, here, known)

pub all_summed : {A : Type 0} (f : A → ℕ) (xs : List A) (i sum whole : ℕ) → length xs ≤ i → sum + sum_by f (drop i xs) ≡ whole → sum ≡ whole
all_summed f xs i sum whole past known = let none = at_drop_all (sum_by f) xs i past in omega (arith, none, known)

pub more_most : {A : Type 0} (f : A → ℕ) (xs : List A) (i : ℕ) (d : A) (most whole : ℕ) → i < length xs → max most (largest (map f (drop i xs))) ≡ whole → max (max (f (get_or xs i d)) most) (largest (map f (drop (i + 1) xs))) ≡ whole
more_most f xs i d most whole below known = let here = at_drop_more (λ ys. largest (map f ys)) xs i d below in omega (arith, here, known)

pub all_most : {A : Type 0} (f : A → ℕ) (xs : List A) (i most whole : ℕ) → length xs ≤ i → max most (largest (map f (drop i xs))) ≡ whole → most ≡ whole
all_most f xs i most whole past known = let none = at_drop_all (λ ys. largest (map f ys)) xs i past in omega (arith, none, known)

-- ---- the arrays among arguments, one argument more

pub node_next : (infos : List NodeInfo) (args : List Arg) (i n : ℕ) (d : Arg) → i < length args → get_or args i d ≡ Arg.Node n → arrays_in infos (drop i args) ≡ info_at infos n ∷ arrays_in infos (drop (i + 1) args)
node_next infos args i n d below is = at_drop_more (arrays_in infos) args i d below ∙ ap (λ (a : Arg). arrays_in infos (a ∷ drop (i + 1) args)) is

no_array : (infos : List NodeInfo) (a : Arg) (args : List Arg) → ((n : ℕ) → a ≡ Arg.Node n → ⊥) → arrays_in infos (a ∷ args) ≡ arrays_in infos args
no_array infos (Arg.Node n) args other = absurd (other n refl)
no_array infos (Arg.Int x) args other = refl
no_array infos (Arg.Truth b) args other = refl

pub other_next : (infos : List NodeInfo) (args : List Arg) (i : ℕ) (d : Arg) → i < length args → ((n : ℕ) → get_or args i d ≡ Arg.Node n → ⊥) → arrays_in infos (drop i args) ≡ arrays_in infos (drop (i + 1) args)
other_next infos args i d below other = at_drop_more (arrays_in infos) args i d below ∙ no_array infos (get_or args i d) (drop (i + 1) args) other

pub array_most : (f : NodeInfo → ℕ) (is rest : List NodeInfo) (i : NodeInfo) (most bytes after whole : ℕ) → is ≡ i ∷ rest → bytes ≡ f i → after ≡ max most bytes → max most (largest (map f is)) ≡ whole → max after (largest (map f rest)) ≡ whole
array_most f is rest i most bytes after whole first own now known =
    let here : largest (map f is) ≡ max (f i) (largest (map f rest)) = ap (λ (xs : List NodeInfo). largest (map f xs)) first in
    omega (arith, here, own, now, known)

pub array_summed : (f : NodeInfo → ℕ) (is rest : List NodeInfo) (i : NodeInfo) (sum bytes after whole : ℕ) → is ≡ i ∷ rest → bytes ≡ f i → after ≡ sum + bytes → sum + sum_by f is ≡ whole → after + sum_by f rest ≡ whole
array_summed f is rest i sum bytes after whole first own now known =
    let here : sum_by f is ≡ f i + sum_by f rest = ap (sum_by f) first ∙ sum_by-cons f i rest in
    omega (arith, here, own, now, known)

pub most_small : (most bytes after : ℕ) → after ≡ max most bytes → most ≤ 2 ^ 28 → bytes ≤ 2 ^ 28 → after ≤ 2 ^ 28
most_small most bytes after now small own = omega (arith, now, small, own)

pub sum_small : (sum bytes after i : ℕ) → after ≡ sum + bytes → sum ≤ i * 2 ^ 28 → bytes ≤ 2 ^ 28 → after ≤ (i + 1) * 2 ^ 28
sum_small sum bytes after i now small own = omega (arith, now, small, own)

pub none_small : (sum after i : ℕ) → after ≡ sum → sum ≤ i * 2 ^ 28 → after ≤ (i + 1) * 2 ^ 28
none_small sum after i now small = omega (arith, now, small)

pub rest_true : (b c : Bool) → (b && c) ≡ true → c ≡ true
rest_true true c h = h
rest_true false c h = cc
