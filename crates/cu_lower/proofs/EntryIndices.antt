-- Where an index with entries reads its array: what the runs of the entries take at the row-major place of the result's index.
use Rattle.std.proofs.Common.{◌≡◌, ℕ, ◌+◌, ◌-◌, ◌*◌, ◌<◌, Bool, true, false, not, ◌||◌, ℤ, pos, negsuc, ◌+ℤ◌, ◌*ℤ◌, List, [], ◌∷◌, ◌++◌, Option, None, Some, length, map, take, drop, cond, refl, ap, sym, ◌∙◌, subst, arith, if◌then◌else◌}
use Rattle.std.specs.Prelude.{count_by}
use Rattle.std.specs.Ordering.{int_eq}
use Rattle.std.proofs.Math.Nat.{mul_assoc, add-mul}
use Rattle.std.proofs.lemmas.Int.{ints}
use Rattle.std.proofs.lemmas.List.{length-take-le, length-map, map-append, take-append-drop}
use Rattle.std.proofs.lemmas.List.Sums.{sum_by-cons}
use Rattle.cu_shape.specs.Index.{product, IsInside, place_of, index_at}
use Rattle.cu_shape.specs.Slice.{at_least_zero, from_end, first_of, index_taken}
use Rattle.cu_shape.specs.declared.slice.Run.{Run}
use Rattle.cu_shape.proofs.Places.{inside-length, index-place, length-index_at}
use Rattle.cu_node.specs.declared.index_item.IndexItem.{IndexItem}
use Rattle.cu_origin.specs.Pull.{counts_of_runs, taken_by, sliced as read_by_runs}
use Rattle.cu_typing_view.specs.Entries.{takes_axis, step_of, count_taken, untaken, is_wrong, first_wrong, index_shape}
use Rattle.cu_semantics.specs.Index.{natural}
use Rattle.cu_semantics.specs.View.{uses_axis as takes_one, sliced_index, indexed_from, indexed}
use Rattle.cu_lower_view.specs.Runs.{whole_run, single_run, slice_run, index_runs}

-- ---- shapes one behind the other

pub product_append : (xs ys : List ℕ) → product (xs ++ ys) ≡ product xs * product ys
product_append [] ys = omega arith
product_append (x ∷ xs) ys = ap (λ p. x * p) (product_append xs ys) ∙ sym (mul_assoc x (product xs) (product ys))

pub place_append : (xs ys is js : List ℕ) → IsInside xs is → place_of (xs ++ ys) (is ++ js) ≡ place_of xs is * product ys + place_of ys js
place_append [] ys [] js h = omega arith
place_append (x ∷ xs) ys (i ∷ is) js h =
    let rest = place_append xs ys is js h.1 in
    let first : i * product (xs ++ ys) ≡ i * product xs * product ys = ap (λ n. i * n) (product_append xs ys) ∙ sym (mul_assoc i (product xs) (product ys)) in
    let both = add-mul (i * product xs) (place_of xs is) (product ys) in
    omega (arith, rest, first, both)
place_append xs ys is js h = absurd h

pub inside_append : (xs ys is js : List ℕ) → IsInside xs is → IsInside ys js → IsInside (xs ++ ys) (is ++ js)
inside_append [] ys [] js h g = g
inside_append (x ∷ xs) ys (i ∷ is) js h g = (h.0, inside_append xs ys is js h.1 g)
inside_append xs ys is js h g = absurd h

pub inside_parts : (xs ys idx : List ℕ) → IsInside (xs ++ ys) idx → IsInside xs (take (length xs) idx) × IsInside ys (drop (length xs) idx)
inside_parts [] ys idx h = (tt, h)
inside_parts (x ∷ xs) ys [] h = absurd h
inside_parts (x ∷ xs) ys (i ∷ idx) h = let r = inside_parts xs ys idx h.1 in ((h.0, r.0), r.1)

-- ---- whole numbers and natural ones

pub natural_same : (x : ℤ) → at_least_zero x ≡ natural x
natural_same (pos n) = refl
natural_same (negsuc n) = refl

-- ---- whole runs, and runs one behind the other

counts_whole : (ns : List ℕ) → counts_of_runs (map whole_run ns) ≡ ns
counts_whole [] = refl
counts_whole (n ∷ ns) = ap (λ xs. n ∷ xs) (counts_whole ns)

all_taken : (i n : ℕ) → at_least_zero (index_taken (whole_run n) i) ≡ i
all_taken i n = let e : pos 0 +ℤ pos i *ℤ pos 1 ≡ pos i = omega (arith, ints) in ap at_least_zero e

taken_whole : (ns is : List ℕ) → length is ≡ length ns → taken_by (map whole_run ns) is ≡ is
taken_whole [] [] e = refl
taken_whole (n ∷ ns) (i ∷ is) e = ap (λ x. x ∷ taken_by (map whole_run ns) is) (all_taken i n) ∙ ap (λ xs. i ∷ xs) (taken_whole ns is (omega arith))
taken_whole ns is e = absurd (omega arith)

taken_append : (runs others : List Run) (is js : List ℕ) → length is ≡ length runs → taken_by (runs ++ others) (is ++ js) ≡ taken_by runs is ++ taken_by others js
taken_append [] others [] js e = refl
taken_append (run ∷ runs) others (i ∷ is) js e = ap (λ xs. at_least_zero (index_taken run i) ∷ xs) (taken_append runs others is js (omega arith))
taken_append runs others is js e = absurd (omega arith)

-- ---- one entry

single_taken : (x : ℤ) (n : ℕ) → at_least_zero (index_taken (single_run x n) 0) ≡ natural (from_end x n)
single_taken x n =
    let m = at_least_zero (from_end x n) in
    let e : pos m +ℤ pos 0 *ℤ pos 1 ≡ pos m = omega (arith, ints) in
    ap at_least_zero e ∙ natural_same (from_end x n)

slice_count : (start stop step : Option ℤ) (n : ℕ) → int_eq (step_of step) (pos 0) ≡ false → count_taken start stop step n ≡ (slice_run start stop (step_of step) n).count
unfolding count_taken slice_run
slice_count start stop step n h = rw h refl

slice_taken : (start stop : Option ℤ) (step : ℤ) (n i : ℕ) → int_eq step (pos 0) ≡ false → at_least_zero (index_taken (slice_run start stop step n) i) ≡ sliced_index start stop step n i
unfolding slice_run
slice_taken start stop step n i h = rw h (natural_same (pos (first_of start stop step n) +ℤ pos i *ℤ step))

-- ---- the entries that are right

if_none : (b : Bool) (k : ℕ) (rest : Option ℕ) → (if b then Some k else rest) ≡ None → (b ≡ false) × (rest ≡ None)
if_none true k rest h = cc
if_none false k rest h = (refl, h)

not_left : (a b : Bool) → (a || b) ≡ false → a ≡ false
not_left true b h = h
not_left false b h = refl

not_both : (a : Bool) → (a || true) ≡ false → ⊥
not_both true h = cc
not_both false h = cc

-- the step of a slice that is right isn't 0
right_step : (zero_step : Bool) → (not (not zero_step) || false) ≡ false → zero_step ≡ false
right_step true h = cc
right_step false h = refl

-- an ellipsis that is right is the first
first_ellipsis : (seen : Bool) (ns : List ℕ) → is_wrong seen IndexItem.Ellipsis ns ≡ false → seen ≡ false
first_ellipsis seen [] h = h
first_ellipsis seen (n ∷ ns) h = h

count_cons : (item : IndexItem) (items : List IndexItem) → count_by takes_axis (item ∷ items) ≡ cond (takes_axis item) 1 0 + count_by takes_axis items
count_cons item items = sum_by-cons (λ y. cond (takes_axis y) 1 0) item items

-- the count of the axes that no entry takes, one entry further
spare_taken : (more : ℕ) (item : IndexItem) (items : List IndexItem) (n : ℕ) (ns : List ℕ) → takes_axis item ≡ true → more ≡ length (n ∷ ns) - count_by takes_axis (item ∷ items) → more ≡ length ns - count_by takes_axis items
spare_taken more item items n ns takes e =
    let c = count_cons item items ∙ ap (λ b. cond b 1 0 + count_by takes_axis items) takes in
    omega (arith, e, c)

spare_kept : (more : ℕ) (item : IndexItem) (items : List IndexItem) (ns : List ℕ) → takes_axis item ≡ false → more ≡ length ns - count_by takes_axis (item ∷ items) → more ≡ length ns - count_by takes_axis items
spare_kept more item items ns takes e =
    let c = count_cons item items ∙ ap (λ b. cond b 1 0 + count_by takes_axis items) takes in
    omega (arith, e, c)

-- ---- all entries

-- the number of each axis' index among those that the axis' run takes
abbrev along : ℕ → List IndexItem → List ℕ → List ℕ
along more (IndexItem.At x ∷ items) idx = 0 ∷ along more items idx
along more (IndexItem.Slice start stop step ∷ items) (i ∷ idx) = i ∷ along more items idx
along more (IndexItem.New ∷ items) (i ∷ idx) = along more items idx
along more (IndexItem.Ellipsis ∷ items) idx = take more idx ++ along more items (drop more idx)
along more items idx = idx

-- they are read at the same place as the result's index, and taken at the index of the array that the entries say
record IsAlong (more : ℕ) (items : List IndexItem) (ns idx : List ℕ) : Type 0 where
  sizes : product (index_shape more items ns) ≡ product (counts_of_runs (index_runs more items ns))
  place : place_of (index_shape more items ns) idx ≡ place_of (counts_of_runs (index_runs more items ns)) (along more items idx)
  inside : IsInside (counts_of_runs (index_runs more items ns)) (along more items idx)
  taken : taken_by (index_runs more items ns) (along more items idx) ≡ indexed_from more items ns idx

reads : (more : ℕ) (seen : Bool) (k : ℕ) (items : List IndexItem) (ns idx : List ℕ) → first_wrong more seen k items ns ≡ None → (seen ≡ false → more ≡ length ns - count_by takes_axis items) → IsInside (index_shape more items ns) idx → IsAlong more items ns idx
reads more seen k [] ns idx right spare h =
    let whole = sym (counts_whole ns) in
    record {
      sizes = ap product whole;
      place = ap (λ c. place_of c idx) whole;
      inside = subst (λ (c : List ℕ). IsInside c idx) whole h;
      taken = taken_whole ns idx (inside-length ns idx h);
    }
reads more seen k (IndexItem.At x ∷ items) [] idx right spare h = cc
reads more seen k (IndexItem.At x ∷ items) (n ∷ ns) idx right spare h =
    let w = if_none (is_wrong seen (IndexItem.At x) (n ∷ ns)) k (first_wrong more (seen || false) (k + 1) items ns) right in
    let r = reads more (seen || false) (k + 1) items ns idx w.1 (λ unseen. spare_taken more (IndexItem.At x) items n ns refl (spare (not_left seen false unseen))) h in
    let sizes = r.sizes in
    let place = r.place in
    record {
      sizes = omega (arith, sizes);
      place = omega (arith, place);
      inside = (omega arith, r.inside);
      taken = ap (λ i. i ∷ taken_by (index_runs more items ns) (along more items idx)) (single_taken x n) ∙ ap (λ is. natural (from_end x n) ∷ is) r.taken;
    }
reads more seen k (IndexItem.Slice start stop step ∷ items) [] idx right spare h = cc
reads more seen k (IndexItem.Slice start stop step ∷ items) (n ∷ ns) [] right spare h = absurd h
reads more seen k (IndexItem.Slice start stop step ∷ items) (n ∷ ns) (i ∷ idx) right spare h =
    let w = if_none (is_wrong seen (IndexItem.Slice start stop step) (n ∷ ns)) k (first_wrong more (seen || false) (k + 1) items ns) right in
    let r = reads more (seen || false) (k + 1) items ns idx w.1 (λ unseen. spare_taken more (IndexItem.Slice start stop step) items n ns refl (spare (not_left seen false unseen))) h.1 in
    let some = right_step (int_eq (step_of step) (pos 0)) w.0 in
    let count = slice_count start stop step n some in
    let runs = index_runs more items ns in
    let there = along more items idx in
    record {
      sizes = ap (λ c. c * product (index_shape more items ns)) count ∙ ap (λ p. (slice_run start stop (step_of step) n).count * p) r.sizes;
      place = ap (λ p. i * p + place_of (index_shape more items ns) idx) r.sizes ∙ ap (λ p. i * product (counts_of_runs runs) + p) r.place;
      inside = (subst (λ (c : ℕ). i < c) count h.0, r.inside);
      taken = ap (λ j. j ∷ taken_by runs there) (slice_taken start stop (step_of step) n i some)
          ∙ ap (λ is. sliced_index start stop (step_of step) n i ∷ is) r.taken;
    }
reads more seen k (IndexItem.New ∷ items) ns [] right spare h = absurd h
reads more seen k (IndexItem.New ∷ items) ns (i ∷ idx) right spare h =
    let w = if_none (is_wrong seen IndexItem.New ns) k (first_wrong more (seen || false) (k + 1) items ns) right in
    let r = reads more (seen || false) (k + 1) items ns idx w.1 (λ unseen. spare_kept more IndexItem.New items ns refl (spare (not_left seen false unseen))) h.1 in
    let sizes = r.sizes in
    let place = r.place in
    let below = h.0 in
    let none : i ≡ 0 = omega (arith, below) in
    let first : i * product (index_shape more items ns) ≡ 0 = ap (λ j. j * product (index_shape more items ns)) none ∙ omega arith in
    record {
      sizes = omega (arith, sizes);
      place = omega (arith, place, first);
      inside = r.inside;
      taken = r.taken;
    }
reads more seen k (IndexItem.Ellipsis ∷ items) ns idx right spare h =
    let w = if_none (is_wrong seen IndexItem.Ellipsis ns) k (first_wrong more (seen || true) (k + 1) items (drop more ns)) right in
    let room = spare (first_ellipsis seen ns w.0) in
    let front = take more ns in
    let long : length (take more ns) ≡ more = length-take-le more ns (omega (arith, room)) in
    let rest = index_shape more items (drop more ns) in
    let parts = subst (λ (m : ℕ). IsInside front (take m idx) × IsInside rest (drop m idx)) long (inside_parts front rest idx h) in
    let r = reads more (seen || true) (k + 1) items (drop more ns) (drop more idx) w.1 (λ unseen. absurd (not_both seen unseen)) parts.1 in
    let runs = index_runs more items (drop more ns) in
    let counts = counts_of_runs runs in
    let here = take more idx in
    let there = along more items (drop more idx) in
    let all : counts_of_runs (map whole_run front ++ runs) ≡ front ++ counts = map-append (λ (run : Run). run.count) (map whole_run front) runs ∙ ap (λ xs. xs ++ counts) (counts_whole front) in
    let short : length here ≡ length (map whole_run front) = inside-length front here parts.0 ∙ sym (length-map front whole_run) in
    record {
      sizes = product_append front rest ∙ ap (λ p. product front * p) r.sizes ∙ sym (product_append front counts) ∙ ap product (sym all);
      place = ap (place_of (front ++ rest)) (sym (take-append-drop more idx))
          ∙ place_append front rest here (drop more idx) parts.0
          ∙ ap (λ p. place_of front here * p + place_of rest (drop more idx)) r.sizes
          ∙ ap (λ p. place_of front here * product counts + p) r.place
          ∙ sym (place_append front counts here there parts.0)
          ∙ ap (λ c. place_of c (here ++ there)) (sym all);
      inside = subst (λ (c : List ℕ). IsInside c (here ++ there)) (sym all) (inside_append front counts here there parts.0 r.inside);
      taken = taken_append (map whole_run front) runs here there short
          ∙ ap (λ is. is ++ taken_by runs there) (taken_whole front here (inside-length front here parts.0))
          ∙ ap (λ is. here ++ is) r.taken;
    }

-- ---- the index

same_takes : (item : IndexItem) → takes_one item ≡ takes_axis item
same_takes (IndexItem.At x) = refl
same_takes (IndexItem.Slice start stop step) = refl
same_takes IndexItem.New = refl
same_takes IndexItem.Ellipsis = refl

same_count : (items : List IndexItem) → count_by takes_one items ≡ count_by takes_axis items
same_count [] = refl
same_count (item ∷ items) =
    let a = sum_by-cons (λ y. cond (takes_one y) 1 0) item items in
    let b = count_cons item items in
    let same = ap {B = ℕ} (λ (b : Bool). cond b 1 0) (same_takes item) in
    let rest = same_count items in
    omega (arith, a, b, same, rest)

pub read_by_entries : (items : List IndexItem) (source shape idx : List ℕ) → first_wrong (untaken (length source) items) false 0 items source ≡ None → shape ≡ index_shape (untaken (length source) items) items source
    → IsInside shape idx → read_by_runs (index_runs (untaken (length source) items) items source) shape idx ≡ indexed items source idx
read_by_entries items source shape idx right is h =
    let more = untaken (length source) items in
    let r = reads more false 0 items source idx right (λ unseen. refl) (subst (λ (s : List ℕ). IsInside s idx) is h) in
    let runs = index_runs more items source in
    ap (λ s. taken_by runs (index_at (counts_of_runs runs) (place_of s idx))) is
    ∙ ap (λ p. taken_by runs (index_at (counts_of_runs runs) p)) r.place
    ∙ ap (taken_by runs) (index-place (counts_of_runs runs) (along more items idx) r.inside)
    ∙ r.taken
    ∙ ap (λ c. indexed_from (length source - c) items source idx) (sym (same_count items))

-- ---- the whole of each axis

pub read_whole : (source shape idx : List ℕ) → read_by_runs (map whole_run source) shape idx ≡ index_at source (place_of shape idx)
read_whole source shape idx =
    ap (λ counts. taken_by (map whole_run source) (index_at counts (place_of shape idx))) (counts_whole source)
    ∙ taken_whole source (index_at source (place_of shape idx)) (length-index_at source (place_of shape idx))
