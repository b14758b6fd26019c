-- The axes of a box that stands in two arrays.
use Rattle.std.proofs.Common.{◌≡◌, ℕ, zero, suc, ◌+◌, ◌-◌, ◌*◌, ◌<◌, ◌≤◌, List, [], ◌∷◌, length, drop, set, get_or, map, refl, sym, ap, ◌∙◌, subst, arith}
use Rattle.std.proofs.Math.Nat.{mul-le-mul_right, le-mul_of_pos_right}
use Rattle.std.proofs.lemmas.List.{drop-set, drop_more, drop_all}
use Rattle.cu_num.specs.Element.{in_order}
use Rattle.cu_num.specs.declared.layout.Endian.{Endian}
use Rattle.cu_shape.specs.Index.{product, place_of, index_at, sums, IsInside}
use Rattle.cu_shape.proofs.Places.{inside-length, place-below, index-place}
use Rattle.cu_box.specs.Box.{IsBox, IsCopied}
use Rattle.cu_box.specs.Order.{part_at}
use Rattle.cu_box.specs.Strided.{up, down, distance, counts, read_place, written_place, HavePlaces, IsEachFromOne, IsStridedCopy}
use Rattle.cu_box.specs.StridedSteps.{box_axes}
use Rattle.cu_box.specs.declared.boxes.Placing.{Placing}
use Rattle.cu_box.specs.declared.strides.Axis.{Axis}
use Rattle.cu_box.specs.declared.strides.Start.{Start}
use Rattle.cu_box.specs.declared.strides.Stride.TheVariants.{Up}

-- a corner is taken off on both sides
sums_cancel : (corner i j : List ℕ) → length corner ≡ length i → length corner ≡ length j → sums corner i ≡ sums corner j → i ≡ j
sums_cancel [] [] [] p q e = refl
sums_cancel (c ∷ cs) (x ∷ i) (y ∷ j) p q e =
    let head : c + x ≡ c + y = cc in
    let tail : sums cs i ≡ sums cs j = cc in
    let same : x ≡ y = omega arith in
    let rest : i ≡ j = sums_cancel cs i j (omega arith) (omega arith) tail in
    cc
sums_cancel corner i j p q e = absurd (omega arith)

same_index : (sizes shape corner i j : List ℕ) → IsBox sizes shape corner → IsInside sizes i → IsInside sizes j
    → place_of shape (sums corner i) ≡ place_of shape (sums corner j) → i ≡ j
same_index sizes shape corner i j box a b e =
    let p = index-place shape (sums corner i) (box.inside i a) in
    let q = index-place shape (sums corner j) (box.inside j b) in
    let l = inside-length sizes i a in
    let m = inside-length sizes j b in
    let r = box.corner_rank in
    sums_cancel corner i j (omega arith) (omega arith) (sym p ∙ ap (index_at shape) e ∙ q)

pub counts_box : (ns fs ts : List ℕ) → length fs ≡ length ns → length ts ≡ length ns → counts (box_axes ns fs ts) ≡ ns
counts_box [] fs ts e f = refl
counts_box (n ∷ ns) [] ts e f = absurd (omega arith)
counts_box (n ∷ ns) (x ∷ fs) [] e f = absurd (omega arith)
counts_box (n ∷ ns) (x ∷ fs) (t ∷ ts) e f = ap (λ ms. n ∷ ms) (counts_box ns fs ts (omega arith) (omega arith))

-- an index of the box is as far from the corner as the sum of its numbers times the strides
read_far : (ns fs ts c i : List ℕ) → length fs ≡ length ns → length ts ≡ length ns → length c ≡ length ns → length i ≡ length ns
    → place_of fs (sums c i) ≡ place_of fs c + distance (λ a. up a.from) (box_axes ns fs ts) i
read_far [] [] [] [] [] a b d e = refl
read_far (n ∷ ns) (f ∷ fs) (t ∷ ts) (c ∷ cs) (i ∷ is) a b d e =
    let rest = read_far ns fs ts cs is (omega arith) (omega arith) (omega arith) (omega arith) in
    let both : (c + i) * product fs ≡ c * product fs + i * product fs = omega arith in
    omega (arith, rest, both)
read_far ns fs ts c i a b d e = absurd (omega arith)

written_far : (ns fs ts c i : List ℕ) → length fs ≡ length ns → length ts ≡ length ns → length c ≡ length ns → length i ≡ length ns
    → place_of ts (sums c i) ≡ place_of ts c + distance (λ a. up a.to) (box_axes ns fs ts) i
written_far [] [] [] [] [] a b d e = refl
written_far (n ∷ ns) (f ∷ fs) (t ∷ ts) (c ∷ cs) (i ∷ is) a b d e =
    let rest = written_far ns fs ts cs is (omega arith) (omega arith) (omega arith) (omega arith) in
    let both : (c + i) * product ts ≡ c * product ts + i * product ts = omega arith in
    omega (arith, rest, both)
written_far ns fs ts c i a b d e = absurd (omega arith)

none_down : (ns fs ts i : List ℕ) → (distance (λ a. down a.from) (box_axes ns fs ts) i ≡ 0) × (distance (λ a. down a.to) (box_axes ns fs ts) i ≡ 0)
none_down [] fs ts i = (refl, refl)
none_down (n ∷ ns) [] ts i = (refl, refl)
none_down (n ∷ ns) (f ∷ fs) [] i = (refl, refl)
none_down (n ∷ ns) (f ∷ fs) (t ∷ ts) [] = (refl, refl)
none_down (n ∷ ns) (f ∷ fs) (t ∷ ts) (i ∷ is) = let r = none_down ns fs ts is in let a = r.0 in let b = r.1 in (omega (arith, a), omega (arith, b))

abbrev pub box_start : Placing → Start
box_start b = record { from = place_of b.from b.start; to = place_of b.to b.corner }

abbrev pub axes_of_box : Placing → List Axis
axes_of_box b = box_axes b.sizes b.from b.to

module _ (size : ℕ) (b : Placing) (source target : List ℕ) (from : IsBox b.sizes b.from b.start) (to : IsBox b.sizes b.to b.corner)
    (source_long : length source ≡ product b.from * size) (target_long : length target ≡ product b.to * size) where
  counted : counts (axes_of_box b) ≡ b.sizes
  counted = counts_box b.sizes b.from b.to from.shape_rank to.shape_rank

  inside : (i : List ℕ) → IsInside (counts (axes_of_box b)) i → IsInside b.sizes i
  inside i h = subst (λ (ns : List ℕ). IsInside ns i) counted h

  of_box : (i : List ℕ) → IsInside b.sizes i → IsInside (counts (axes_of_box b)) i
  of_box i h = subst (λ (ns : List ℕ). IsInside ns i) (sym counted) h

  read_is : (i : List ℕ) → IsInside b.sizes i → read_place (axes_of_box b) (box_start b) i ≡ place_of b.from (sums b.start i)
  read_is i h =
      let far = read_far b.sizes b.from b.to b.start i from.shape_rank to.shape_rank from.corner_rank (inside-length b.sizes i h) in
      let none = (none_down b.sizes b.from b.to i).0 in
      omega (arith, far, none)

  written_is : (i : List ℕ) → IsInside b.sizes i → written_place (axes_of_box b) (box_start b) i ≡ place_of b.to (sums b.corner i)
  written_is i h =
      let far = written_far b.sizes b.from b.to b.corner i from.shape_rank to.shape_rank to.corner_rank (inside-length b.sizes i h) in
      let none = (none_down b.sizes b.from b.to i).1 in
      omega (arith, far, none)

  in_bytes : (place all long : ℕ) → place < all → long ≡ all * size → place * size + size ≤ long
  in_bytes place all long l e =
      let m : (place + 1) * size ≤ all * size = mul-le-mul_right size (let k : place + 1 ≤ all = omega (arith, l) in k) in
      let s : (place + 1) * size ≡ place * size + size = omega arith in
      omega (arith, m, s, e)

  pub box_places : HavePlaces size (axes_of_box b) (box_start b) (length source) (length target)
  box_places = record {
    read_natural = λ i h. (let none = (none_down b.sizes b.from b.to i).0 in omega (arith, none));
    reads = λ i h. subst (λ (n : ℕ). n * size + size ≤ length source) (sym (read_is i (inside i h)))
        (in_bytes (place_of b.from (sums b.start i)) (product b.from) (length source) (place-below b.from (sums b.start i) (from.inside i (inside i h))) source_long);
    written_natural = λ i h. (let none = (none_down b.sizes b.from b.to i).1 in omega (arith, none));
    writes = λ i h. subst (λ (n : ℕ). n * size + size ≤ length target) (sym (written_is i (inside i h)))
        (in_bytes (place_of b.to (sums b.corner i)) (product b.to) (length target) (place-below b.to (sums b.corner i) (to.inside i (inside i h))) target_long);
  }

  pub box_each : IsEachFromOne size (axes_of_box b) (box_start b) source
  box_each = record {
    one = λ i j h g is.
        ap (λ (x : List ℕ). part_at size source (read_place (axes_of_box b) (box_start b) x))
        (same_index b.sizes b.to b.corner i j to (inside i h) (inside j g) (sym (written_is i (inside i h)) ∙ is ∙ written_is j (inside j g)));
  }

  pub box_copied : (e : Endian) (new : List ℕ) → IsStridedCopy size e (axes_of_box b) (box_start b) source target new → IsCopied size e b source target new
  box_copied e new c = record {
    copied = λ i h.
        ap (part_at size new) (sym (written_is i h)) ∙ c.copied i (of_box i h) ∙ ap (λ n. in_order e (part_at size source n)) (read_is i h);
    others = λ q low off. c.others q (λ i h is. off i (inside i h) (sym (written_is i (inside i h)) ∙ is));
  }

-- ---- the same for axes and places that were made

module _ (size : ℕ) (b : Placing) (source target : List ℕ) (from : IsBox b.sizes b.from b.start) (to : IsBox b.sizes b.to b.corner)
    (source_long : length source ≡ product b.from * size) (target_long : length target ≡ product b.to * size)
    (axes : List Axis) (f t : ℕ) (axes_are : axes ≡ axes_of_box b) (f_is : f ≡ place_of b.from b.start) (t_is : t ≡ place_of b.to b.corner) where
  abbrev made : ℕ → ℕ → Start
  made x y = record { from = x; to = y }

  start_is : made f t ≡ box_start b
  start_is = ap (λ (x : ℕ). made x t) f_is ∙ ap (λ (y : ℕ). made (place_of b.from b.start) y) t_is

  pub made_places : HavePlaces size axes (record { from = f; to = t }) (length source) (length target)
  made_places =
      subst (λ (xs : List Axis). HavePlaces size xs (record { from = f; to = t }) (length source) (length target)) (sym axes_are)
      (subst (λ (s : Start). HavePlaces size (axes_of_box b) s (length source) (length target)) (sym start_is) (box_places size b source target from to source_long target_long))

  pub made_each : IsEachFromOne size axes (record { from = f; to = t }) source
  made_each =
      subst (λ (xs : List Axis). IsEachFromOne size xs (record { from = f; to = t }) source) (sym axes_are)
      (subst (λ (s : Start). IsEachFromOne size (axes_of_box b) s source) (sym start_is) (box_each size b source target from to source_long target_long))

  pub made_copied : (e : Endian) (new : List ℕ) → IsStridedCopy size e axes (record { from = f; to = t }) source target new → IsCopied size e b source target new
  made_copied e new c =
      box_copied size b source target from to source_long target_long e new
      (subst (λ (s : Start). IsStridedCopy size e (axes_of_box b) s source target new) start_is
      (subst (λ (xs : List Axis). IsStridedCopy size e xs (record { from = f; to = t }) source target new) axes_are c))

-- ---- the strides as they are counted

positive_factors : (a b : ℕ) → 0 < a * b → (0 < a) × (0 < b)
positive_factors zero b h = absurd (omega arith)
positive_factors (suc a) zero h = absurd (omega arith)
positive_factors (suc a) (suc b) h = (omega arith, omega arith)

-- later sizes have no more elements than all of them
pub product_behind : (ns : List ℕ) (k : ℕ) → 0 < product ns → product (drop k ns) ≤ product ns
product_behind [] zero h = omega arith
product_behind [] (suc k) h = omega arith
product_behind (n ∷ ns) zero h = omega arith
product_behind (n ∷ ns) (suc k) h =
    let f = positive_factors n (product ns) h in
    let rest = product_behind ns k f.1 in
    let more : product ns ≤ product ns * n = le-mul_of_pos_right (product ns) f.0 in
    omega (arith, rest, more)

-- the corner of a box is an index of the array
sums_none : (c ns : List ℕ) → length c ≡ length ns → sums c (map (λ n. 0) ns) ≡ c
sums_none [] [] e = refl
sums_none [] (n ∷ ns) e = absurd (omega arith)
sums_none (c ∷ cs) [] e = absurd (omega arith)
sums_none (c ∷ cs) (n ∷ ns) e = let z : c + 0 ≡ c = omega arith in ap (λ x. x ∷ sums cs (map (λ m. 0) ns)) z ∙ ap (λ xs. c ∷ xs) (sums_none cs ns (omega arith))

none_inside : (ns : List ℕ) → 0 < product ns → IsInside ns (map (λ n. 0) ns)
none_inside [] h = tt
none_inside (n ∷ ns) h = let f = positive_factors n (product ns) h in (f.0, none_inside ns f.1)

pub corner_inside : (sizes shape corner : List ℕ) → IsBox sizes shape corner → 0 < product sizes → IsInside shape corner
corner_inside sizes shape corner box some =
    subst (λ (x : List ℕ). IsInside shape x) (sums_none corner sizes box.corner_rank) (box.inside (map (λ n. 0) sizes) (none_inside sizes some))

-- one axis more, from the last one on
pub axes_more : (ns fs ts : List ℕ) (axes : List Axis) (k n f t from to : ℕ) → k < length ns → length fs ≡ length ns → length ts ≡ length ns → length axes ≡ length ns
    → n ≡ get_or ns k 0 → f ≡ get_or fs k 0 → t ≡ get_or ts k 0 → from ≡ product (drop (k + 1) fs) → to ≡ product (drop (k + 1) ts)
    → drop (k + 1) axes ≡ box_axes (drop (k + 1) ns) (drop (k + 1) fs) (drop (k + 1) ts)
    → (drop k (set axes k (record { count = n; from = Up from; to = Up to })) ≡ box_axes (drop k ns) (drop k fs) (drop k ts))
    × (from * f ≡ product (drop k fs)) × (to * t ≡ product (drop k ts))
axes_more ns fs ts axes k n f t from to b e1 e2 e3 en ef et es eu was =
    let dn : drop k ns ≡ n ∷ drop (k + 1) ns = drop_more ns k 0 b ∙ ap (λ x. x ∷ drop (k + 1) ns) (sym en) in
    let df : drop k fs ≡ f ∷ drop (k + 1) fs = drop_more fs k 0 (omega (arith, b, e1)) ∙ ap (λ x. x ∷ drop (k + 1) fs) (sym ef) in
    let dt : drop k ts ≡ t ∷ drop (k + 1) ts = drop_more ts k 0 (omega (arith, b, e2)) ∙ ap (λ x. x ∷ drop (k + 1) ts) (sym et) in
    let here : Axis = record { count = n; from = Up from; to = Up to } in
    let now : drop k (set axes k here) ≡ here ∷ drop (k + 1) axes = drop-set axes k here (omega (arith, b, e3)) in (
      now ∙ ap (λ xs. here ∷ xs) was
          ∙ ap (λ x. record { count = n; from = Up x; to = Up to } ∷ box_axes (drop (k + 1) ns) (drop (k + 1) fs) (drop (k + 1) ts)) es
          ∙ ap (λ x. record { count = n; from = Up (product (drop (k + 1) fs)); to = Up x } ∷ box_axes (drop (k + 1) ns) (drop (k + 1) fs) (drop (k + 1) ts)) eu
          ∙ sym (ap (λ xs. box_axes xs (drop k fs) (drop k ts)) dn ∙ ap (λ xs. box_axes (n ∷ drop (k + 1) ns) xs (drop k ts)) df ∙ ap (λ xs. box_axes (n ∷ drop (k + 1) ns) (f ∷ drop (k + 1) fs) xs) dt),
      ap (λ x. x * f) es ∙ (let z : product (drop (k + 1) fs) * f ≡ f * product (drop (k + 1) fs) = omega arith in z) ∙ sym (ap product df),
      ap (λ x. x * t) eu ∙ (let z : product (drop (k + 1) ts) * t ≡ t * product (drop (k + 1) ts) = omega arith in z) ∙ sym (ap product dt),
    )

pub axes_step : (ns fs ts : List ℕ) (axes : List Axis) (axis n f t from to : ℕ) → 0 < axis → axis ≤ length ns → length fs ≡ length ns → length ts ≡ length ns → length axes ≡ length ns
    → n ≡ get_or ns (axis - 1) 0 → f ≡ get_or fs (axis - 1) 0 → t ≡ get_or ts (axis - 1) 0 → from ≡ product (drop axis fs) → to ≡ product (drop axis ts)
    → drop axis axes ≡ box_axes (drop axis ns) (drop axis fs) (drop axis ts)
    → (drop (axis - 1) (set axes (axis - 1) (record { count = n; from = Up from; to = Up to })) ≡ box_axes (drop (axis - 1) ns) (drop (axis - 1) fs) (drop (axis - 1) ts))
    × (from * f ≡ product (drop (axis - 1) fs)) × (to * t ≡ product (drop (axis - 1) ts))
axes_step ns fs ts axes axis n f t from to some b e1 e2 e3 en ef et es eu was =
    let back : axis ≡ axis - 1 + 1 = omega arith in
    axes_more ns fs ts axes (axis - 1) n f t from to (omega arith) e1 e2 e3 en ef et (es ∙ ap (λ k. product (drop k fs)) back) (eu ∙ ap (λ k. product (drop k ts)) back)
    (subst (λ (k : ℕ). drop k axes ≡ box_axes (drop k ns) (drop k fs) (drop k ts)) back was)

pub none_axes : (ns fs ts : List ℕ) (axes : List Axis) (k : ℕ) → length fs ≡ length ns → length ts ≡ length ns → length axes ≡ length ns → length ns ≤ k
    → (1 ≡ product (drop k fs)) × (1 ≡ product (drop k ts)) × (drop k axes ≡ box_axes (drop k ns) (drop k fs) (drop k ts))
none_axes ns fs ts axes k e1 e2 e3 b =
    let f : drop k fs ≡ [] = drop_all k fs (omega arith) in
    let t : drop k ts ≡ [] = drop_all k ts (omega arith) in
    let n : drop k ns ≡ [] = drop_all k ns (omega arith) in
    let a : drop k axes ≡ [] = drop_all k axes (omega arith) in
    (sym (ap product f), sym (ap product t), a ∙ sym (ap (λ xs. box_axes xs (drop k fs) (drop k ts)) n))
