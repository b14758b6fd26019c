-- What operations need together: of one, of several behind one another, and that each part can be counted where all can.
use Rattle.cu_op.proofs.Lists.{greatest_append}
use Rattle.cu_op.specs.Needs.{IsCountable, IsNeedOf}
use Rattle.cu_op.specs.Projection.{input_room, instruction_count, scratch_room}
use Rattle.cu_op.specs.declared.layout.ArrayInfo.{ArrayInfo}
use Rattle.cu_op.specs.declared.needs.Needs.{Needs}
use Rattle.cu_op.specs.declared.operation.Op.{Op}
use Rattle.cu_shape.specs.Counts.{largest}
use Rattle.std.proofs.Common.{◌≡◌, ℕ, ◌+◌, ◌^◌, ◌<◌, max, List, [], ◌∷◌, ◌++◌, length, map, take, drop, get_or, ap, sym, ◌∙◌, subst, arith}
use Rattle.std.proofs.lemmas.Grind.{flat_map-append}
use Rattle.std.proofs.lemmas.List.{append-nil, map-append, take_more, take-append-drop}
use Rattle.std.proofs.lemmas.List.Sums.{sum_by-append, sum_by-cons}
use Rattle.std.specs.List.{flat_map}

pub no_need : (arrays : List ArrayInfo) (n : Needs) → n.scratch ≡ 0 → n.inputs ≡ 0 → n.steps ≡ 0
    → IsNeedOf arrays [] n
no_need arrays n a b d = record { scratch = a; inputs = b; steps = d }

pub one_need : (arrays : List ArrayInfo) (op : Op) (n : Needs) → n.scratch ≡ scratch_room arrays op
    → n.inputs ≡ input_room arrays op → n.steps ≡ instruction_count op → IsNeedOf arrays (op ∷ []) n
one_need arrays op n a b d =
    let one = sum_by-cons (input_room arrays) op [] in
    let two = sum_by-cons instruction_count op [] in
    record { scratch = omega (arith, a); inputs = omega (arith, b, one); steps = omega (arith, d, two) }

pub more_need : (arrays : List ArrayInfo) (xs ys : List Op) (m n all : Needs) → IsNeedOf arrays xs m
    → IsNeedOf arrays ys n → all.scratch ≡ max m.scratch n.scratch
    → all.inputs ≡ m.inputs + n.inputs → all.steps ≡ m.steps + n.steps
    → IsNeedOf arrays (xs ++ ys) all
more_need arrays xs ys m n all x y a b d =
    let s = ap largest (map-append (scratch_room arrays) xs ys) ∙ greatest_append (map (scratch_room arrays) xs) (map (scratch_room arrays) ys) in
    let one = sum_by-append (input_room arrays) xs ys in
    let two = sum_by-append instruction_count xs ys in
    let xa = x.scratch in let xb = x.inputs in let xd = x.steps in
    let ya = y.scratch in let yb = y.inputs in let yd = y.steps in
    record {
      scratch = omega (arith, a, s, xa, ya);
      inputs = omega (arith, b, one, xb, yb);
      steps = omega (arith, d, two, xd, yd);
    }

-- ---- parts of what can be counted

pub first_part : (arrays : List ArrayInfo) (xs ys : List Op) → IsCountable arrays (xs ++ ys)
    → IsCountable arrays xs
first_part arrays xs ys h =
    let one = sum_by-append (input_room arrays) xs ys in
    let two = sum_by-append instruction_count xs ys in
    let a = h.inputs in
    let b = h.steps in
    record { inputs = omega (arith, one, a); steps = omega (arith, two, b) }

pub last_part : (arrays : List ArrayInfo) (xs ys : List Op) → IsCountable arrays (xs ++ ys)
    → IsCountable arrays ys
last_part arrays xs ys h =
    let one = sum_by-append (input_room arrays) xs ys in
    let two = sum_by-append instruction_count xs ys in
    let a = h.inputs in
    let b = h.steps in
    record { inputs = omega (arith, one, a); steps = omega (arith, two, b) }

-- what both parts need can be added up
pub sums_fit : (arrays : List ArrayInfo) (xs ys : List Op) (m n : Needs)
    → IsCountable arrays (xs ++ ys) → IsNeedOf arrays xs m → IsNeedOf arrays ys n
    → (m.inputs + n.inputs < 2 ^ 64) × (m.steps + n.steps < 2 ^ 64)
sums_fit arrays xs ys m n h x y =
    let one = sum_by-append (input_room arrays) xs ys in
    let two = sum_by-append instruction_count xs ys in
    let a = h.inputs in
    let b = h.steps in
    let xb = x.inputs in let xd = x.steps in
    let yb = y.inputs in let yd = y.steps in
    (omega (arith, one, a, xb, yb), omega (arith, two, b, xd, yd))

-- ---- an operation and what stands inside for the first of the arrays that it reads

-- one array more
pub one_more : (f : ℕ → List Op) (op : Op) (xs : List ℕ) (i d : ℕ) → i < length xs
    → op ∷ flat_map f (take (i + 1) xs) ≡ (op ∷ flat_map f (take i xs)) ++ f (get_or xs i d)
one_more f op xs i d h =
    ap (λ (rest : List Op). op ∷ rest)
    (ap (flat_map f) (take_more xs i d h) ∙ flat_map-append f (take i xs) (get_or xs i d ∷ []) ∙ ap (λ (rest : List Op). flat_map f (take i xs) ++ rest) (append-nil (f (get_or xs i d))))

-- and all of them
rest_of : (f : ℕ → List Op) (op : Op) (xs : List ℕ) (i : ℕ)
    → op ∷ flat_map f xs ≡ (op ∷ flat_map f (take i xs)) ++ flat_map f (drop i xs)
rest_of f op xs i =
    ap (λ (rest : List Op). op ∷ rest)
    (ap (flat_map f) (sym (take-append-drop i xs)) ∙ flat_map-append f (take i xs) (drop i xs))

pub next_part : (arrays : List ArrayInfo) (f : ℕ → List Op) (op : Op) (xs : List ℕ) (i d : ℕ)
    → i < length xs → IsCountable arrays (op ∷ flat_map f xs)
    → IsCountable arrays ((op ∷ flat_map f (take i xs)) ++ f (get_or xs i d))
next_part arrays f op xs i d h all =
    subst (IsCountable arrays) (one_more f op xs i d h)
    (first_part arrays (op ∷ flat_map f (take (i + 1) xs)) (flat_map f (drop (i + 1) xs)) (subst (IsCountable arrays) (rest_of f op xs (i + 1)) all))
