-- Copies along strides that follow one another on an axis.
use Rattle.std.proofs.Common.{◌≡◌, ◌≢◌, ◌⊎◌, inl, inr, ℕ, zero, suc, ◌+◌, ◌-◌, ◌*◌, ◌<◌, ◌≤◌, ◌^◌, List, [], ◌∷◌, length, map, get_or, refl, sym, ap, ◌∙◌, subst, arith}
use Rattle.std.proofs.lemmas.Bool.{cases_lt}
use Rattle.std.proofs.lemmas.Bool.Decides.{eqb_tells}
use Rattle.cu_num.specs.Element.{in_order, IsSize}
use Rattle.cu_num.specs.declared.layout.Endian.{Endian}
use Rattle.cu_shape.specs.Index.{product, IsInside}
use Rattle.cu_box.specs.Order.{part_at}
use Rattle.cu_box.specs.Strided.{up, down, distance, counts, read_place, written_place, HavePlaces, IsEachFromOne, IsStridedCopy}
use Rattle.cu_box.specs.StridedSteps.{with_count, later_start, IsStart, CanCopy}
use Rattle.cu_box.specs.declared.strides.Axis.{Axis}
use Rattle.cu_box.specs.declared.strides.Start.{Start}
use Rattle.cu_box.proofs.StridedAxes.{same_without, copied_as}

-- ---- whether a place is that of an index

record IsMet (sizes : List ℕ) (place : List ℕ → ℕ) (q : ℕ) : Type 0 where
  pub index : List ℕ
  pub inside : IsInside sizes index
  pub is : place index ≡ q

abbrev IsNowhere : List ℕ → (List ℕ → ℕ) → ℕ → Type 0
IsNowhere sizes place q = (i : List ℕ) → IsInside sizes i → place i ≢ q

nowhere_more : (n : ℕ) (ns : List ℕ) (place : List ℕ → ℕ) (q : ℕ) → IsNowhere (n ∷ ns) place q → IsNowhere ns (λ is. place (n ∷ is)) q → IsNowhere (suc n ∷ ns) place q
nowhere_more n ns place q below here [] h is = h
nowhere_more n ns place q below here (k ∷ ks) h is =
    let b : k < suc n = h.0 in
    elim (cases_lt k n) [
      | inl less ↦ below (k ∷ ks) (less, h.1) is
      | inr more ↦ (let e : k ≡ n = omega (arith, b, more) in here ks h.1 (ap (λ x. place (x ∷ ks)) (sym e) ∙ is))
    ]

met_below : (n : ℕ) (ns : List ℕ) (place : List ℕ → ℕ) (q : ℕ) → IsMet (n ∷ ns) place q → IsMet (suc n ∷ ns) place q
met_below n ns place q m = record { index = m.index; inside = wider m.index m.inside; is = m.is }
  where
    wider : (i : List ℕ) → IsInside (n ∷ ns) i → IsInside (suc n ∷ ns) i
    wider [] h = h
    wider (k ∷ ks) h = (let b : k < n = h.0 in omega (arith, b), h.1)

search_axis : (n : ℕ) (ns : List ℕ) → ((place : List ℕ → ℕ) (q : ℕ) → IsMet ns place q ⊎ IsNowhere ns place q) → (place : List ℕ → ℕ) (q : ℕ) → IsMet (n ∷ ns) place q ⊎ IsNowhere (n ∷ ns) place q
search_axis zero ns rest place q = inr none
  where
    none : (i : List ℕ) → IsInside (zero ∷ ns) i → place i ≢ q
    none [] h is = h
    none (k ∷ ks) h is = (let b : k < 0 = h.0 in omega (arith, b))
search_axis (suc n) ns rest place q =
    elim (search_axis n ns rest place q) [
      | inl m ↦ inl (met_below n ns place q m)
      | inr below ↦ elim (rest (λ is. place (n ∷ is)) q) [
        | inl m ↦ inl (record { index = n ∷ m.index; inside = (omega arith, m.inside); is = m.is })
        | inr here ↦ inr (nowhere_more n ns place q below here)
      ]
    ]

search_none : (place : List ℕ → ℕ) (q : ℕ) → IsMet [] place q ⊎ IsNowhere [] place q
search_none place q =
    elim (eqb_tells (place []) q) [
      | inl p ↦ inl (record { index = []; inside = tt; is = p.1 })
      | inr p ↦ inr (only p.1)
    ]
  where
    only : place [] ≢ q → (i : List ℕ) → IsInside [] i → place i ≢ q
    only ne [] h is = ne is
    only ne (k ∷ ks) h is = h

met_or_nowhere : (sizes : List ℕ) (place : List ℕ → ℕ) (q : ℕ) → IsMet sizes place q ⊎ IsNowhere sizes place q
met_or_nowhere [] place q = search_none place q
met_or_nowhere (n ∷ ns) place q = search_axis n ns (met_or_nowhere ns) place q

-- ---- some indices of an axis, and more of them

-- no place lies below the buffers
pub record IsAbove (start : Start) (axis : Axis) (k : ℕ) : Type 0 where
  pub read : k * down axis.from ≤ start.from + k * up axis.from
  pub written : k * down axis.to ≤ start.to + k * up axis.to

later_by : (f k i u d U D : ℕ) → k * d ≤ f + k * u → f + k * u - k * d + (i * u + U) - (i * d + D) ≡ f + ((k + i) * u + U) - ((k + i) * d + D)
later_by f k i u d U D h =
    let x : (k + i) * u ≡ k * u + i * u = omega arith in
    let y : (k + i) * d ≡ k * d + i * d = omega arith in
    omega (arith, x, y, h)

pub read_later : (a : Axis) (n m : ℕ) (xs : List Axis) (start : Start) (k i : ℕ) (is : List ℕ) → IsAbove start a k
    → read_place (with_count a n ∷ xs) (later_start start a k) (i ∷ is) ≡ read_place (with_count a m ∷ xs) start ((k + i) ∷ is)
read_later a n m xs start k i is b = later_by start.from k i (up a.from) (down a.from) (distance (λ x. up x.from) xs is) (distance (λ x. down x.from) xs is) b.read

pub written_later : (a : Axis) (n m : ℕ) (xs : List Axis) (start : Start) (k i : ℕ) (is : List ℕ) → IsAbove start a k
    → written_place (with_count a n ∷ xs) (later_start start a k) (i ∷ is) ≡ written_place (with_count a m ∷ xs) start ((k + i) ∷ is)
written_later a n m xs start k i is b = later_by start.to k i (up a.to) (down a.to) (distance (λ x. up x.to) xs is) (distance (λ x. down x.to) xs is) b.written

pub none_copied : (size : ℕ) (e : Endian) (a : Axis) (xs : List Axis) (start : Start) (source old : List ℕ) → IsStridedCopy size e (with_count a 0 ∷ xs) start source old old
none_copied size e a xs start source old = record { same_length = refl; copied = none; others = λ q off. refl }
  where
    none : (i : List ℕ) → IsInside (0 ∷ counts xs) i → part_at size old (written_place (with_count a 0 ∷ xs) start i) ≡ in_order e (part_at size source (read_place (with_count a 0 ∷ xs) start i))
    none [] h = absurd h
    none (k ∷ ks) h = absurd (let b : k < 0 = h.0 in omega (arith, b))

module _ (size : ℕ) (e : Endian) (a : Axis) (xs : List Axis) (start : Start) (k n : ℕ) (source old mid new : List ℕ)
    (each : IsEachFromOne size (with_count a (k + n) ∷ xs) start source) (above : IsAbove start a k)
    (first : IsStridedCopy size e (with_count a k ∷ xs) start source old mid)
    (second : IsStridedCopy size e (with_count a n ∷ xs) (later_start start a k) source mid new) where
  abbrev all : List Axis
  all = with_count a (k + n) ∷ xs

  abbrev part : List Axis
  part = with_count a n ∷ xs

  second_read : (i : List ℕ) → IsInside (n ∷ counts xs) i → (j : List ℕ) → IsInside (counts all) j → written_place part (later_start start a k) i ≡ written_place all start j
      → part_at size new (written_place all start j) ≡ in_order e (part_at size source (read_place all start j))
  second_read [] h j g is = absurd h
  second_read (i ∷ is) h j g same =
      let b : i < n = h.0 in
      let there : written_place part (later_start start a k) (i ∷ is) ≡ written_place all start ((k + i) ∷ is) = written_later a n (k + n) xs start k i is above in
      let here : read_place part (later_start start a k) (i ∷ is) ≡ read_place all start ((k + i) ∷ is) = read_later a n (k + n) xs start k i is above in
      let own : part_at size source (read_place all start ((k + i) ∷ is)) ≡ part_at size source (read_place all start j) = each.one ((k + i) ∷ is) j (omega (arith, b), h.1) g (sym there ∙ same) in
      ap (part_at size new) (sym same) ∙ second.copied (i ∷ is) h ∙ ap (λ p. in_order e (part_at size source p)) here ∙ ap (in_order e) own

  either : (j : List ℕ) → IsInside (counts all) j → (IsInside (k ∷ counts xs) j) ⊎ ((i : List ℕ) × IsInside (n ∷ counts xs) i × (written_place part (later_start start a k) i ≡ written_place all start j))
  either [] g = absurd g
  either (x ∷ is) g =
      let b : x < k + n = g.0 in
      elim (cases_lt x k) [
        | inl less ↦ inl (less, g.1)
        | inr more ↦
            let there : written_place part (later_start start a k) ((x - k) ∷ is) ≡ written_place all start ((k + (x - k)) ∷ is) = written_later a n (k + n) xs start k (x - k) is above in
            let back : k + (x - k) ≡ x = omega (arith, more) in
            inr ((x - k) ∷ is, (omega (arith, b, more), g.1), there ∙ ap (λ (y : ℕ). written_place all start (y ∷ is)) back)
      ]

  first_read : (j : List ℕ) → IsInside (k ∷ counts xs) j → IsNowhere (n ∷ counts xs) (written_place part (later_start start a k)) (written_place all start j)
      → part_at size new (written_place all start j) ≡ in_order e (part_at size source (read_place all start j))
  first_read [] h off = absurd h
  first_read (x ∷ is) h off = second.others (written_place all start (x ∷ is)) off ∙ first.copied (x ∷ is) h

  kept : (q : ℕ) → ((j : List ℕ) → IsInside (counts all) j → written_place all start j ≢ q) → (i : List ℕ) → IsInside (n ∷ counts xs) i → written_place part (later_start start a k) i ≢ q
  kept q off [] h is = h
  kept q off (i ∷ is) h same = (let b : i < n = h.0 in off ((k + i) ∷ is) (omega (arith, b), h.1) (sym (written_later a n (k + n) xs start k i is above) ∙ same))

  kept_first : (q : ℕ) → ((j : List ℕ) → IsInside (counts all) j → written_place all start j ≢ q) → (i : List ℕ) → IsInside (k ∷ counts xs) i → written_place (with_count a k ∷ xs) start i ≢ q
  kept_first q off [] h is = h
  kept_first q off (i ∷ is) h same = (let b : i < k = h.0 in off (i ∷ is) (omega (arith, b), h.1) same)

  pub more_copied : IsStridedCopy size e (with_count a (k + n) ∷ xs) start source old new
  more_copied = record {
    same_length = second.same_length ∙ first.same_length;
    copied = λ j g. elim (met_or_nowhere (n ∷ counts xs) (written_place part (later_start start a k)) (written_place all start j)) [
      | inl m ↦ second_read m.index m.inside j g m.is
      | inr off ↦ elim (either j g) [
        | inl earlier ↦ first_read j earlier off
        | inr later ↦ absurd (off later.0 later.1 later.2)
      ]
    ];
    others = λ q off. second.others q (kept q off) ∙ first.others q (kept_first q off);
  }

-- one index more
pub one_more_copied : (size : ℕ) (e : Endian) (a : Axis) (xs : List Axis) (start : Start) (k : ℕ) (source old mid new : List ℕ)
    → IsEachFromOne size (with_count a (k + 1) ∷ xs) start source → IsAbove start a k
    → IsStridedCopy size e (with_count a k ∷ xs) start source old mid → IsStridedCopy size e xs (later_start start a k) source mid new
    → IsStridedCopy size e (with_count a (k + 1) ∷ xs) start source old new
one_more_copied size e a xs start k source old mid new each above first second =
    more_copied size e a xs start k 1 source old mid new each above first (copied_as size e (with_count a 1 ∷ xs) xs (later_start start a k) source mid new (same_without (with_count a 1) xs refl) second)

-- ---- an axis with fewer indices, and what is behind it

fewer_inside : (n m : ℕ) (ns i : List ℕ) → n ≤ m → IsInside (n ∷ ns) i → IsInside (m ∷ ns) i
fewer_inside n m ns [] l h = h
fewer_inside n m ns (k ∷ ks) l h = (let b : k < n = h.0 in omega (arith, b, l), h.1)

pub each_of_fewer : (size : ℕ) (a : Axis) (n : ℕ) (xs : List Axis) (start : Start) (source : List ℕ) → n ≤ a.count → IsEachFromOne size (a ∷ xs) start source → IsEachFromOne size (with_count a n ∷ xs) start source
each_of_fewer size a n xs start source l p = record {
  one = λ i j h g is. read_alike i j h g (p.one i j (fewer_inside n a.count (counts xs) i l h) (fewer_inside n a.count (counts xs) j l g) (written_alike i j h g is));
}
  where
    written_alike : (i j : List ℕ) → IsInside (n ∷ counts xs) i → IsInside (n ∷ counts xs) j → written_place (with_count a n ∷ xs) start i ≡ written_place (with_count a n ∷ xs) start j → written_place (a ∷ xs) start i ≡ written_place (a ∷ xs) start j
    written_alike [] j h g is = absurd h
    written_alike (i ∷ is) [] h g e = absurd g
    written_alike (i ∷ is) (j ∷ js) h g e = e

    read_alike : (i j : List ℕ) → IsInside (n ∷ counts xs) i → IsInside (n ∷ counts xs) j → part_at size source (read_place (a ∷ xs) start i) ≡ part_at size source (read_place (a ∷ xs) start j) → part_at size source (read_place (with_count a n ∷ xs) start i) ≡ part_at size source (read_place (with_count a n ∷ xs) start j)
    read_alike [] j h g is = absurd h
    read_alike (i ∷ is) [] h g e = absurd g
    read_alike (i ∷ is) (j ∷ js) h g e = e

-- the first index of all
abbrev pub zeros : List Axis → List ℕ
zeros = map (λ a. 0)

factors : (a b : ℕ) → 0 < a * b → (0 < a) × (0 < b)
factors zero b h = absurd (omega arith)
factors (suc a) zero h = absurd (omega arith)
factors (suc a) (suc b) h = (omega arith, omega arith)

pub zeros_inside : (xs : List Axis) → 0 < product (counts xs) → IsInside (counts xs) (zeros xs)
zeros_inside [] h = tt
zeros_inside (a ∷ xs) h = let f = factors a.count (product (counts xs)) h in (f.0, zeros_inside xs f.1)

zeros_far : (number : Axis → ℕ) (xs : List Axis) → distance number xs (zeros xs) ≡ 0
zeros_far number [] = refl
zeros_far number (a ∷ xs) = let e = zeros_far number xs in omega (arith, e)

-- where an axis is at one of its indices
pub above_at : (size : ℕ) (a : Axis) (xs : List Axis) (start : Start) (k source target : ℕ) → HavePlaces size (a ∷ xs) start source target → 0 < product (counts xs) → k < a.count → IsAbove start a k
above_at size a xs start k source target p some b =
    let h : IsInside (counts (a ∷ xs)) (k ∷ zeros xs) = (b, zeros_inside xs some) in
    let r = p.read_natural (k ∷ zeros xs) h in
    let w = p.written_natural (k ∷ zeros xs) h in
    let e1 = zeros_far (λ x. up x.from) xs in
    let e2 = zeros_far (λ x. down x.from) xs in
    let e3 = zeros_far (λ x. up x.to) xs in
    let e4 = zeros_far (λ x. down x.to) xs in
    record { read = omega (arith, r, e1, e2); written = omega (arith, w, e3, e4) }

size_positive : (size : ℕ) → IsSize size → 1 ≤ size
size_positive size h = grind arith

-- a place below an end in bytes is below it in elements
place_small : (size place end : ℕ) → IsSize size → place * size + size ≤ end → place < end
place_small size place end h b =
    let least = size_positive size h in
    let m : place * 1 ≤ place * size = mul_le place size least in
    omega (arith, m, b, least)
  where
    mul_le : (p s : ℕ) → 1 ≤ s → p * 1 ≤ p * s
    mul_le p zero l = absurd (omega arith)
    mul_le p (suc s) l = omega arith

pub start_at : (size : ℕ) (a : Axis) (xs : List Axis) (start : Start) (k source target : ℕ) → IsSize size → HavePlaces size (a ∷ xs) start source target → source < 2 ^ 64 → target < 2 ^ 64 → 0 < product (counts xs) → k < a.count
    → IsStart start a k
start_at size a xs start k source target sized p small less some b =
    let h : IsInside (counts (a ∷ xs)) (k ∷ zeros xs) = (b, zeros_inside xs some) in
    let above = above_at size a xs start k source target p some b in
    let r = place_small size (read_place (a ∷ xs) start (k ∷ zeros xs)) source sized (p.reads (k ∷ zeros xs) h) in
    let w = place_small size (written_place (a ∷ xs) start (k ∷ zeros xs)) target sized (p.writes (k ∷ zeros xs) h) in
    let e1 = zeros_far (λ x. up x.from) xs in
    let e2 = zeros_far (λ x. down x.from) xs in
    let e3 = zeros_far (λ x. up x.to) xs in
    let e4 = zeros_far (λ x. down x.to) xs in
    record { read = above.read; written = above.written; read_small = omega (arith, r, e1, e2, small); written_small = omega (arith, w, e3, e4, less) }

-- the axes behind have their places and sources from there
pub places_behind : (size : ℕ) (a : Axis) (xs : List Axis) (start : Start) (k source target : ℕ) → HavePlaces size (a ∷ xs) start source target → 0 < product (counts xs) → k < a.count → HavePlaces size xs (later_start start a k) source target
places_behind size a xs start k source target p some b =
    let above = above_at size a xs start k source target p some b in
    let ar = above.read in
    let aw = above.written in
    record {
      read_natural = λ i h. (let n = p.read_natural (k ∷ i) (b, h) in omega (arith, n, ar));
      reads = λ i h.
          (let m = p.read_natural (k ∷ i) (b, h) in
          let same : read_place xs (later_start start a k) i ≡ read_place (a ∷ xs) start (k ∷ i) = omega (arith, m, ar) in
          subst (λ (x : ℕ). x * size + size ≤ source) (sym same) (p.reads (k ∷ i) (b, h)));
      written_natural = λ i h. (let n = p.written_natural (k ∷ i) (b, h) in omega (arith, n, aw));
      writes = λ i h.
          (let m = p.written_natural (k ∷ i) (b, h) in
          let same : written_place xs (later_start start a k) i ≡ written_place (a ∷ xs) start (k ∷ i) = omega (arith, m, aw) in
          subst (λ (x : ℕ). x * size + size ≤ target) (sym same) (p.writes (k ∷ i) (b, h)));
    }

pub each_behind : (size : ℕ) (a : Axis) (xs : List Axis) (start : Start) (k : ℕ) (source : List ℕ) (target : ℕ) → HavePlaces size (a ∷ xs) start (length source) target → 0 < product (counts xs) → k < a.count
    → IsEachFromOne size (a ∷ xs) start source → IsEachFromOne size xs (later_start start a k) source
each_behind size a xs start k source target p some b each =
    let above = above_at size a xs start k (length source) target p some b in
    let ar = above.read in
    let aw = above.written in
    let written : (i : List ℕ) → IsInside (counts xs) i → written_place xs (later_start start a k) i ≡ written_place (a ∷ xs) start (k ∷ i) = λ i h. (let m = p.written_natural (k ∷ i) (b, h) in omega (arith, m, aw)) in
    let read : (i : List ℕ) → IsInside (counts xs) i → read_place xs (later_start start a k) i ≡ read_place (a ∷ xs) start (k ∷ i) = λ i h. (let m = p.read_natural (k ∷ i) (b, h) in omega (arith, m, ar)) in
    record { one = λ i j h g is. ap (part_at size source) (read i h) ∙ each.one (k ∷ i) (k ∷ j) (b, h) (b, g) (sym (written i h) ∙ is ∙ written j g) ∙ ap (part_at size source) (sym (read j g)) }

-- ---- the same for what the functions take

module _ (size : ℕ) (a : Axis) (xs : List Axis) (start : Start) (k : ℕ) (source : List ℕ) (target : ℕ) (can : CanCopy size (a ∷ xs) start source target) (some : 0 < product (counts xs)) (below : k < a.count) where
  pub start_of : length source < 2 ^ 64 → target < 2 ^ 64 → IsStart start a k
  start_of s t = start_at size a xs start k (length source) target can.sized can.places s t some below

  pub can_behind : CanCopy size xs (later_start start a k) source target
  can_behind = record {
    sized = can.sized;
    places = places_behind size a xs start k (length source) target can.places some below;
    each = each_behind size a xs start k source target can.places some below can.each;
  }

  pub step_copied : (e : Endian) (old mid new : List ℕ) → IsStridedCopy size e (with_count a k ∷ xs) start source old mid → IsStridedCopy size e xs (later_start start a k) source mid new
      → IsStridedCopy size e (with_count a (k + 1) ∷ xs) start source old new
  step_copied e old mid new first second =
      one_more_copied size e a xs start k source old mid new (each_of_fewer size a (k + 1) xs start source (omega (arith, below)) can.each) (above_at size a xs start k (length source) target can.places some below) first second

-- the same where a function was given the place
module _ (size : ℕ) (a : Axis) (xs : List Axis) (start : Start) (k : ℕ) (source : List ℕ) (target : ℕ) (can : CanCopy size (a ∷ xs) start source target) (some : 0 < product (counts xs)) (below : k < a.count)
    (place : Start) (there : place ≡ later_start start a k) where
  pub can_there : (n : ℕ) → n ≡ target → CanCopy size xs place source n
  can_there n e =
      subst (λ (m : ℕ). CanCopy size xs place source m) (sym e)
      (subst (λ (st : Start). CanCopy size xs st source target) (sym there) (can_behind size a xs start k source target can some below))

  pub copied_there : (e : Endian) (old mid new : List ℕ) → IsStridedCopy size e (with_count a k ∷ xs) start source old mid → IsStridedCopy size e xs place source mid new
      → IsStridedCopy size e (with_count a (k + 1) ∷ xs) start source old new
  copied_there e old mid new first second =
      step_copied size a xs start k source target can some below e old mid new first (subst (λ (st : Start). IsStridedCopy size e xs st source mid new) there second)

-- an axis is walked to its end
pub all_copied : (size : ℕ) (e : Endian) (a : Axis) (xs : List Axis) (start : Start) (k : ℕ) (bytes old new : List ℕ) → k ≡ a.count → IsStridedCopy size e (with_count a k ∷ xs) start bytes old new → IsStridedCopy size e (a ∷ xs) start bytes old new
all_copied size e a xs start k bytes old new last c = subst (λ (n : ℕ). IsStridedCopy size e (with_count a n ∷ xs) start bytes old new) last c

pub one_axis : (a : Axis) → 0 < a.count → 0 < product (counts (a ∷ []))
one_axis a some = omega (arith, some)

-- the places of one element
pub element_fits : (size : ℕ) (start : Start) (source : List ℕ) (target : ℕ) → CanCopy size [] start source target → (start.from * size + size ≤ length source) × (start.to * size + size ≤ target)
element_fits size start source target can =
    let e : start.from + 0 - 0 ≡ start.from = omega arith in
    let f : start.to + 0 - 0 ≡ start.to = omega arith in
    (subst (λ (x : ℕ). x * size + size ≤ length source) e (can.places.reads [] tt), subst (λ (x : ℕ). x * size + size ≤ target) f (can.places.writes [] tt))

-- a list with a first axis
pub can_of : (size : ℕ) (axes : List Axis) (a : Axis) (xs : List Axis) (start : Start) (source : List ℕ) (target : ℕ) → axes ≡ a ∷ xs → CanCopy size axes start source target → CanCopy size (a ∷ xs) start source target
can_of size axes a xs start source target e can = subst (λ (ys : List Axis). CanCopy size ys start source target) e can

pub some_of : (axes : List Axis) (a : Axis) (xs : List Axis) → axes ≡ a ∷ xs → 0 < product (counts axes) → 0 < product (counts xs)
some_of axes a xs e some =
    let p : 0 < product (counts (a ∷ xs)) = subst (λ (ys : List Axis). 0 < product (counts ys)) e some in
    (factors a.count (product (counts xs)) p).1

pub first_of : (axes : List Axis) (a : Axis) (xs : List Axis) → axes ≡ a ∷ xs → 0 < product (counts axes) → 0 < a.count
first_of axes a xs e some =
    let p : 0 < product (counts (a ∷ xs)) = subst (λ (ys : List Axis). 0 < product (counts ys)) e some in
    (factors a.count (product (counts xs)) p).0

pub copied_of : (size : ℕ) (e : Endian) (axes : List Axis) (a : Axis) (xs : List Axis) (start : Start) (source old new : List ℕ) → axes ≡ a ∷ xs → IsStridedCopy size e (a ∷ xs) start source old new → IsStridedCopy size e axes start source old new
copied_of size e axes a xs start source old new is c = subst (λ (ys : List Axis). IsStridedCopy size e ys start source old new) (sym is) c

pub one_rest : (xs : List Axis) (x : Axis) → length xs ≡ 1 → ((d : Axis) → x ≡ get_or xs 0 d) → xs ≡ x ∷ []
one_rest [] x e h = absurd (omega arith)
one_rest (y ∷ []) x e h = ap (λ z. z ∷ []) (sym (h x))
one_rest (y ∷ z ∷ ys) x e h = absurd (omega arith)
