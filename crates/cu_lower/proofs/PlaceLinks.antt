-- The place that a search finds, among all elements along an axis or in the whole array, is the first place of the best of these.
use Rattle.std.proofs.Common.{◌≡◌, ◌≢◌, ℕ, zero, suc, ◌<◌, ◌≤◌, ◌+◌, ◌*◌, ◌/◌, ◌%◌, ◌==◌, Bool, true, false, ℤ, pos, List, [], ◌∷◌, Option, Some, None, length, map, get_or, refl, ap, sym, ◌∙◌, subst, inl, inr, arith, if◌then◌else◌}
use Rattle.std.specs.List.{range_with_len}
use Rattle.std.specs.Prelude.{option_and_then}
use Rattle.std.proofs.Math.Nat.{div-one, mod-eq_of_lt}
use Rattle.std.proofs.lemmas.List.{length-map}
use Rattle.std.proofs.lemmas.List.FromFn.{length-range_with_len}
use Rattle.std.proofs.lemmas.Bool.Decides.{eqb_tells}
use Rattle.cu_shape.specs.Index.{product, place_of, index_at, sums, indices_of}
use Rattle.cu_shape.proofs.Axes.{get_or-axis_by_axis}
use Rattle.cu_shape.proofs.Places.{place-index, mul_positive, length-index_at}
use Rattle.cu_op.specs.Places.{HasPlaceAxis}
use Rattle.cu_reduce.specs.Folds.{least_of, greatest_of, all_some}
use Rattle.cu_reduce.specs.Groups.{groups_from, groups_of, HasElements}
use Rattle.cu_reduce.specs.Places.{Found, best_of, best_place, is_sought, counted_place, found_at, best_in, numbered}
use Rattle.cu_reduce.proofs.Bests.{best_numbered}
use Rattle.cu_reduce.proofs.Ranges.{map-map}
use Rattle.cu_lower.proofs.Marked.{AreMarked, marked_rest, unmarked_rest, marked_here}
use Rattle.cu_lower.proofs.ReducedIndices.{start_along, box_along}

-- ---- lists

some_all : {A B : Type 0} (h : A → B) (xs : List A) → all_some (map (λ x. Some (h x)) xs) ≡ Some (map h xs)
some_all h [] = refl
some_all h (x ∷ xs) = let e = some_all h xs in rw e refl

-- elements that are numbered by their places
numbered_from : (f : List ℕ → ℤ) (place : List ℕ → ℕ) (g : ℕ → List ℕ) (a m : ℕ) → ((k : ℕ) → a ≤ k → k < a + m → place (g k) ≡ k)
    → map (λ k. record { value = f (g k); place = pos (place (g k)) }) (range_with_len a m) ≡ numbered a (map (λ k. f (g k)) (range_with_len a m))
numbered_from f place g a zero h = refl
numbered_from f place g a (suc m) h =
    let e : place (g a) ≡ a = h a (omega arith) (omega arith) in
    let t = numbered_from f place g (a + 1) m (λ k l u. h k (omega arith) (omega arith)) in
    (λ j. record { value = f (g a); place = pos (e j) } ∷ t j)

-- ---- the lengths of what a reduction goes over

length-start : (keepdims : Bool) (ms : List Bool) (ns idx : List ℕ) → length (start_along keepdims ms ns idx) ≡ length ns
length-start keepdims ms [] idx = refl
length-start keepdims [] (n ∷ ns) [] = ap suc (length-start keepdims [] ns [])
length-start keepdims [] (n ∷ ns) (i ∷ is) = ap suc (length-start keepdims [] ns is)
length-start true (true ∷ ms) (n ∷ ns) [] = ap suc (length-start true ms ns [])
length-start true (true ∷ ms) (n ∷ ns) (i ∷ is) = ap suc (length-start true ms ns is)
length-start false (true ∷ ms) (n ∷ ns) idx = ap suc (length-start false ms ns idx)
length-start keepdims (false ∷ ms) (n ∷ ns) [] = ap suc (length-start keepdims ms ns [])
length-start keepdims (false ∷ ms) (n ∷ ns) (i ∷ is) = ap suc (length-start keepdims ms ns is)

length-box : (ms : List Bool) (ns : List ℕ) → length (box_along ms ns) ≡ length ns
length-box ms [] = refl
length-box [] (n ∷ ns) = ap suc (length-box [] ns)
length-box (m ∷ ms) (n ∷ ns) = ap suc (length-box ms ns)

-- where the reduced axes have elements, there are some
box_positive : (reduced : ℕ → Bool) (first : ℕ) (ms : List Bool) (ns : List ℕ) → AreMarked reduced first ms ns → HasElements (groups_from reduced first ns) ns → 0 < product (box_along ms ns)
box_positive reduced first ms [] h k = omega arith
box_positive reduced first [] (n ∷ ns) h k =
    let here : reduced first ≡ false = marked_here reduced first [] n ns h in
    let w = rw here at k in
    let p = box_positive reduced (first + 1) [] ns (unmarked_rest reduced first n ns h) w in
    mul_positive 1 (product (box_along [] ns)) (omega arith) p
box_positive reduced first (true ∷ ms) (n ∷ ns) h k =
    let here : reduced first ≡ true = marked_here reduced first (true ∷ ms) n ns h in
    let w = rw here at k in
    let p = box_positive reduced (first + 1) ms ns (marked_rest reduced first true ms n ns h) w.1 in
    mul_positive n (product (box_along ms ns)) w.0 p
box_positive reduced first (false ∷ ms) (n ∷ ns) h k =
    let here : reduced first ≡ false = marked_here reduced first (false ∷ ms) n ns h in
    let w = rw here at k in
    let p = box_positive reduced (first + 1) ms ns (marked_rest reduced first false ms n ns h) w in
    mul_positive 1 (product (box_along ms ns)) (omega arith) p

-- ---- in the whole array

zero_start : (keepdims : Bool) (first : ℕ) (ms : List Bool) (ns idx is : List ℕ) → AreMarked (λ d. true) first ms ns → length is ≡ length ns → sums (start_along keepdims ms ns idx) is ≡ is
zero_start keepdims first ms [] idx [] h e = refl
zero_start keepdims first ms [] idx (i ∷ is) h e = absurd (omega arith)
zero_start keepdims first ms (n ∷ ns) idx [] h e = absurd (omega arith)
zero_start keepdims first [] (n ∷ ns) idx (i ∷ is) h e = absurd (let w : true ≡ false = h 0 (omega arith) in cc w)
zero_start true first (true ∷ ms) (n ∷ ns) [] (i ∷ is) h e = let z : 0 + i ≡ i = omega arith in let t = zero_start true (first + 1) ms ns [] is (marked_rest (λ d. true) first true ms n ns h) (omega arith) in (λ j. z j ∷ t j)
zero_start true first (true ∷ ms) (n ∷ ns) (x ∷ xs) (i ∷ is) h e = let z : 0 + i ≡ i = omega arith in let t = zero_start true (first + 1) ms ns xs is (marked_rest (λ d. true) first true ms n ns h) (omega arith) in (λ j. z j ∷ t j)
zero_start false first (true ∷ ms) (n ∷ ns) idx (i ∷ is) h e = let z : 0 + i ≡ i = omega arith in let t = zero_start false (first + 1) ms ns idx is (marked_rest (λ d. true) first true ms n ns h) (omega arith) in (λ j. z j ∷ t j)
zero_start keepdims first (false ∷ ms) (n ∷ ns) idx (i ∷ is) h e = absurd (let w : true ≡ false = h 0 (omega arith) in cc w)

whole_box : (first : ℕ) (ms : List Bool) (ns : List ℕ) → AreMarked (λ d. true) first ms ns → box_along ms ns ≡ ns
whole_box first ms [] h = refl
whole_box first [] (n ∷ ns) h = absurd (let w : true ≡ false = h 0 (omega arith) in cc w)
whole_box first (true ∷ ms) (n ∷ ns) h = ap (λ (is : List ℕ). n ∷ is) (whole_box (first + 1) ms ns (marked_rest (λ d. true) first true ms n ns h))
whole_box first (false ∷ ms) (n ∷ ns) h = absurd (let w : true ≡ false = h 0 (omega arith) in cc w)

-- ---- along one axis

same_axis : (d : ℕ) → (d == d) ≡ true
same_axis d = elim (eqb_tells d d) [ inl p ↦ p.0 | inr p ↦ absurd (p.1 refl) ]

other_axis : (d e : ℕ) → d ≢ e → (d == e) ≡ false
other_axis d e h = elim (eqb_tells d e) [ inl p ↦ absurd (h p.1) | inr p ↦ p.0 ]

-- no axis behind it is reduced
ones_behind : (axis first : ℕ) (ms : List Bool) (ns : List ℕ) → axis < first → AreMarked (λ d. d == axis) first ms ns → product (box_along ms ns) ≡ 1
ones_behind axis first ms [] l h = refl
ones_behind axis first [] (n ∷ ns) l h = let e = ones_behind axis (first + 1) [] ns (omega arith) (unmarked_rest (λ d. d == axis) first n ns h) in omega arith
ones_behind axis first (true ∷ ms) (n ∷ ns) l h =
    let here : (first == axis) ≡ true = marked_here (λ d. d == axis) first (true ∷ ms) n ns h in
    let other = other_axis first axis (λ q. absurd (omega arith)) in
    absurd (let w : true ≡ false = sym here ∙ other in cc w)
ones_behind axis first (false ∷ ms) (n ∷ ns) l h = let e = ones_behind axis (first + 1) ms ns (omega arith) (marked_rest (λ d. d == axis) first false ms n ns h) in omega arith

-- a number below another is its own remainder
within : {R : Type 0} (p k : ℕ) → k < 1 * p → (k % p ≡ k → R) → R
within p k h f = f (mod-eq_of_lt {n = k} {m = p} (omega arith))

step_at : (axis first j : ℕ) (ms : List Bool) (ns : List ℕ) (k : ℕ) → axis ≡ first + j → j < length ns → AreMarked (λ d. d == axis) first ms ns → k < product (box_along ms ns) → get_or (index_at (box_along ms ns) k) j 0 ≡ k
step_at axis first j ms [] k e l h b = absurd (omega arith)
step_at axis first zero [] (n ∷ ns) k e l h b =
    absurd (let here : (first == axis) ≡ false = marked_here (λ d. d == axis) first [] n ns h in let q : first ≡ axis = omega arith in let own : (first == axis) ≡ true = subst (λ (d : ℕ). (first == d) ≡ true) q (same_axis first) in let w : true ≡ false = sym own ∙ here in cc w)
step_at axis first zero (false ∷ ms) (n ∷ ns) k e l h b =
    absurd (let here : (first == axis) ≡ false = marked_here (λ d. d == axis) first (false ∷ ms) n ns h in let q : first ≡ axis = omega arith in let own : (first == axis) ≡ true = subst (λ (d : ℕ). (first == d) ≡ true) q (same_axis first) in let w : true ≡ false = sym own ∙ here in cc w)
step_at axis first zero (true ∷ ms) (n ∷ ns) k e l h b =
    let one = ones_behind axis (first + 1) ms ns (omega arith) (marked_rest (λ d. d == axis) first true ms n ns h) in
    ap (λ (p : ℕ). k / p) one ∙ div-one k
step_at axis first (suc j) [] (n ∷ ns) k e l h b =
    within (product (box_along [] ns)) k (omega arith) (λ q. subst (λ (m : ℕ). get_or (index_at (box_along [] ns) m) j 0 ≡ k) (sym q) (step_at axis (first + 1) j [] ns k (omega arith) (omega arith) (unmarked_rest (λ d. d == axis) first n ns h) (omega arith)))
step_at axis first (suc j) (true ∷ ms) (n ∷ ns) k e l h b =
    absurd (let here : (first == axis) ≡ true = marked_here (λ d. d == axis) first (true ∷ ms) n ns h in let other = other_axis first axis (λ q. absurd (omega arith)) in let w : true ≡ false = sym here ∙ other in cc w)
step_at axis first (suc j) (false ∷ ms) (n ∷ ns) k e l h b =
    within (product (box_along ms ns)) k (omega arith) (λ q. subst (λ (m : ℕ). get_or (index_at (box_along ms ns) m) j 0 ≡ k) (sym q) (step_at axis (first + 1) j ms ns k (omega arith) (omega arith) (marked_rest (λ d. d == axis) first false ms n ns h) (omega arith)))

-- the axis itself is marked
unmarked : (axis first : ℕ) (ms : List Bool) (n : ℕ) (ns : List ℕ) → axis ≡ first + 0 → AreMarked (λ d. d == axis) first ms (n ∷ ns) → get_or ms 0 false ≡ false → ⊥
unmarked axis first ms n ns e h m =
    let q : first ≡ axis = omega arith in
    let own : (first == axis) ≡ true = subst (λ (d : ℕ). (first == d) ≡ true) q (same_axis first) in
    let w : true ≡ false = sym own ∙ (marked_here (λ d. d == axis) first ms n ns h ∙ m) in
    cc w

start_at : (axis first j : ℕ) (keepdims : Bool) (ms : List Bool) (ns idx : List ℕ) → axis ≡ first + j → j < length ns → AreMarked (λ d. d == axis) first ms ns → get_or (start_along keepdims ms ns idx) j 0 ≡ 0
start_at axis first j keepdims ms [] idx e l h = refl
start_at axis first zero keepdims [] (n ∷ ns) [] e l h = refl
start_at axis first zero keepdims [] (n ∷ ns) (i ∷ is) e l h = absurd (unmarked axis first [] n ns e h refl)
start_at axis first zero true (true ∷ ms) (n ∷ ns) [] e l h = refl
start_at axis first zero true (true ∷ ms) (n ∷ ns) (i ∷ is) e l h = refl
start_at axis first zero false (true ∷ ms) (n ∷ ns) idx e l h = refl
start_at axis first zero keepdims (false ∷ ms) (n ∷ ns) [] e l h = refl
start_at axis first zero keepdims (false ∷ ms) (n ∷ ns) (i ∷ is) e l h = absurd (unmarked axis first (false ∷ ms) n ns e h refl)
start_at axis first (suc j) keepdims [] (n ∷ ns) [] e l h = start_at axis (first + 1) j keepdims [] ns [] (omega arith) (omega arith) (unmarked_rest (λ d. d == axis) first n ns h)
start_at axis first (suc j) keepdims [] (n ∷ ns) (i ∷ is) e l h = start_at axis (first + 1) j keepdims [] ns is (omega arith) (omega arith) (unmarked_rest (λ d. d == axis) first n ns h)
start_at axis first (suc j) true (true ∷ ms) (n ∷ ns) [] e l h = start_at axis (first + 1) j true ms ns [] (omega arith) (omega arith) (marked_rest (λ d. d == axis) first true ms n ns h)
start_at axis first (suc j) true (true ∷ ms) (n ∷ ns) (i ∷ is) e l h = start_at axis (first + 1) j true ms ns is (omega arith) (omega arith) (marked_rest (λ d. d == axis) first true ms n ns h)
start_at axis first (suc j) false (true ∷ ms) (n ∷ ns) idx e l h = start_at axis (first + 1) j false ms ns idx (omega arith) (omega arith) (marked_rest (λ d. d == axis) first true ms n ns h)
start_at axis first (suc j) keepdims (false ∷ ms) (n ∷ ns) [] e l h = start_at axis (first + 1) j keepdims ms ns [] (omega arith) (omega arith) (marked_rest (λ d. d == axis) first false ms n ns h)
start_at axis first (suc j) keepdims (false ∷ ms) (n ∷ ns) (i ∷ is) e l h = start_at axis (first + 1) j keepdims ms ns is (omega arith) (omega arith) (marked_rest (λ d. d == axis) first false ms n ns h)

-- ---- the place that is counted of the k-th

counted : (axis : Option ℕ) (keepdims : Bool) (ms : List Bool) (shape idx : List ℕ) (k : ℕ) → AreMarked (is_sought axis) 0 ms shape → HasPlaceAxis axis shape → k < product (box_along ms shape)
    → counted_place axis shape (sums (start_along keepdims ms shape idx) (index_at (box_along ms shape) k)) ≡ k
counted None keepdims ms shape idx k h a b =
    let box = whole_box 0 ms shape h in
    let inside : k < product shape = subst (λ (ns : List ℕ). k < product ns) box b in
    ap (λ (ns : List ℕ). place_of shape (sums (start_along keepdims ms shape idx) (index_at ns k))) box
    ∙ ap (place_of shape) (zero_start keepdims 0 ms shape idx (index_at shape k) h (length-index_at shape k)) ∙ place-index shape k inside
counted (Some axis) keepdims ms shape idx k h a b =
    let s = length-start keepdims ms shape idx in
    let n = length-box ms shape in
    let m = length-index_at (box_along ms shape) k in
    let z : axis ≡ 0 + axis = omega arith in
    let at = start_at axis 0 axis keepdims ms shape idx z a h in
    let step = step_at axis 0 axis ms shape k z a h b in
    get_or-axis_by_axis (λ i j. i + j) (start_along keepdims ms shape idx) (index_at (box_along ms shape) k) axis (omega arith) (omega arith) ∙ omega (arith, at, step)

-- ---- what is found

-- an element with its place
abbrev element : Option ℕ → (List ℕ → ℤ) → List ℕ → List ℕ → Found
element axis f shape i = record { value = f i; place = pos (counted_place axis shape i) }

-- the elements in order
abbrev in_order : (List ℕ → ℤ) → Bool → List Bool → List ℕ → List ℕ → List ℤ
in_order f keepdims ms shape idx = map (λ p. f (sums (start_along keepdims ms shape idx) (index_at (box_along ms shape) p))) (range_with_len 0 (product (box_along ms shape)))

listed : (f : List ℕ → ℤ) (keepdims : Bool) (ms : List Bool) (shape idx : List ℕ) → map f (map (sums (start_along keepdims ms shape idx)) (indices_of (box_along ms shape))) ≡ in_order f keepdims ms shape idx
listed f keepdims ms shape idx =
    ap (map f) (map-map (sums (start_along keepdims ms shape idx)) (index_at (box_along ms shape)) (range_with_len 0 (product (box_along ms shape))))
    ∙ map-map f (λ p. sums (start_along keepdims ms shape idx) (index_at (box_along ms shape) p)) (range_with_len 0 (product (box_along ms shape)))

pub places_found : (least : Bool) (axis : Option ℕ) (f : List ℕ → ℤ) (keepdims : Bool) (ms : List Bool) (shape idx : List ℕ) → AreMarked (is_sought axis) 0 ms shape → HasPlaceAxis axis shape
    → HasElements (groups_of (is_sought axis) shape) shape
    → (b : Found) × (best_in least (map (λ i. found_at (Some (f i)) (Some (pos (counted_place axis shape i)))) (map (sums (start_along keepdims ms shape idx)) (indices_of (box_along ms shape)))) ≡ Some b)
    × (b.place ≡ pos (best_place least (map f (map (sums (start_along keepdims ms shape idx)) (indices_of (box_along ms shape))))))
places_found least axis f keepdims ms shape idx h a k = (
  record { value = if least then least_of (in_order f keepdims ms shape idx) else greatest_of (in_order f keepdims ms shape idx); place = pos (best_place least (in_order f keepdims ms shape idx)) },
  found,
  ap (λ (ys : List ℤ). pos (best_place least ys)) (sym (listed f keepdims ms shape idx)),
)
  where
    some : 0 < length (in_order f keepdims ms shape idx)
    some =
        let p = box_positive (is_sought axis) 0 ms shape h k in
        let l = length-map (range_with_len 0 (product (box_along ms shape))) (λ p. f (sums (start_along keepdims ms shape idx) (index_at (box_along ms shape) p))) in
        let r = length-range_with_len 0 (product (box_along ms shape)) in
        omega (arith, p, l, r)

    found : best_in least (map (λ i. found_at (Some (f i)) (Some (pos (counted_place axis shape i)))) (map (sums (start_along keepdims ms shape idx)) (indices_of (box_along ms shape))))
        ≡ Some (record { value = if least then least_of (in_order f keepdims ms shape idx) else greatest_of (in_order f keepdims ms shape idx); place = pos (best_place least (in_order f keepdims ms shape idx)) })
    found =
        ap (option_and_then (best_of least)) (some_all (λ (i : List ℕ). element axis f shape i) (map (sums (start_along keepdims ms shape idx)) (indices_of (box_along ms shape))))
        ∙ ap (best_of least)
        (ap (map (λ (i : List ℕ). element axis f shape i)) (map-map (sums (start_along keepdims ms shape idx)) (index_at (box_along ms shape)) (range_with_len 0 (product (box_along ms shape))))
        ∙ map-map (λ (i : List ℕ). element axis f shape i) (λ p. sums (start_along keepdims ms shape idx) (index_at (box_along ms shape) p)) (range_with_len 0 (product (box_along ms shape)))
        ∙ numbered_from f (counted_place axis shape) (λ p. sums (start_along keepdims ms shape idx) (index_at (box_along ms shape) p)) 0 (product (box_along ms shape)) (λ p l u. counted axis keepdims ms shape idx p h a (omega arith)))
        ∙ best_numbered least (in_order f keepdims ms shape idx) some
