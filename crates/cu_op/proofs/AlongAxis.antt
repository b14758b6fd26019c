-- Regions that go along one axis: their numbers there are changed, and those on the other axes stay.
use Rattle.cu_grid.proofs.Parting.{only_chunk}
use Rattle.cu_grid.proofs.Regions.{bounded, coordinate-length, inside-at}
use Rattle.cu_grid.specs.Counts.{chunk_lo, chunk_hi, IsRegion, IsWithin}
use Rattle.cu_grid.specs.Grid.{RegularGrid, IsGrid, IsCoordinate}
use Rattle.cu_op.proofs.Alike.{same_mapped}
use Rattle.cu_op.proofs.CellsOfTasks.{map_contains}
use Rattle.cu_op.proofs.Filled.{IsFilled, below_range, chunk_filled, contains_mapped, filled_at, filled_region, within_at}
use Rattle.cu_op.proofs.InputBoxes.{number_on, own_chunk}
use Rattle.cu_op.proofs.Nested.{begins_within}
use Rattle.cu_op.proofs.NewNumbers.{grid_same, type_same, room_same}
use Rattle.cu_op.proofs.Results.{none_given}
use Rattle.cu_op.proofs.Rooms.{any_room_few}
use Rattle.cu_op.proofs.SameCells.{HaveSame, of_one}
use Rattle.cu_op.proofs.WalkCells.{walk_meets, meets_walk, AreApart}
use Rattle.cu_op.proofs.WalksOf.{over_one, over_two, apart_one, apart_two, LiesIn, second_of_walks}
use Rattle.cu_op.specs.Along.{CarriesFor, carried_reads, carried_array, carried_chunk, carried_room, carried_walks, chunk_on, group_walk}
use Rattle.cu_op.specs.Arrays.{grid_at, grid_counts, HasLayoutOf}
use Rattle.cu_op.specs.Chunks.{cell, walk}
use Rattle.cu_op.specs.Elements.{Elements}
use Rattle.cu_op.specs.Layout.{IsArray}
use Rattle.cu_op.specs.Partial.{merge_groups, partial_chunk, partial_grid, place_groups}
use Rattle.cu_op.specs.Walks.{IsWalkOver, walk_cells, cells_of_walks}
use Rattle.cu_op.specs.declared.cells.Cell.{Cell}
use Rattle.cu_op.specs.declared.layout.ArrayInfo.{ArrayInfo}
use Rattle.cu_op.specs.declared.walks.Walk.{Walk}
use Rattle.cu_reduce.specs.Groups.{Groups, groups_from, groups_of, group_counts}
use Rattle.cu_reduce.specs.Levels.{carried}
use Rattle.cu_reduce.specs.Prefix.{Line, line_through, span}
use Rattle.cu_reduce.specs.Tiers.{Array}
use Rattle.cu_shape.proofs.Axes.{get_or-axis_by_axis, length-axis_by_axis}
use Rattle.cu_shape.proofs.Places.{inside-length}
use Rattle.cu_shape.proofs.Rounded.{within_counts}
use Rattle.cu_shape.specs.Index.{IsInside, quotients}
use Rattle.std.proofs.Common.{◌≡◌, ◌≢◌, inl, inr, ℕ, zero, suc, pred, ◌<◌, ◌≤◌, ◌+◌, ◌-◌, ◌*◌, ◌/◌, ◌^◌, ◌==◌, min, max, List, [], ◌∷◌, length, map, set, All, Contains, Option, None, Some, option_map, get_or, ℤ, refl, ap, sym, ◌∙◌, subst, arith}
use Rattle.std.proofs.Math.Nat.{div-mul-le_self, mul-le-mul_right}
use Rattle.std.proofs.lemmas.Bool.Decides.{eqb_tells}
use Rattle.std.proofs.lemmas.List.{get_or-map, length-map, length-set, set-get_or}
use Rattle.std.proofs.lemmas.List.Elements.{All-head, All-tail}
use Rattle.std.proofs.lemmas.List.FromFn.{length-range_with_len, get_or-range_with_len}
use Rattle.std.proofs.lemmas.Nat.{div-mul-add, le-div}
use Rattle.std.proofs.lemmas.Option.{same_Some}
use Rattle.std.specs.Int.{div_ceil}
use Rattle.std.specs.List.{range_with_len}
use mathlib.Core.Path.{transport}

cons_same : (x y : ℕ) (xs ys : List ℕ) → x ≡ y → xs ≡ ys → x ∷ xs ≡ y ∷ ys
cons_same x y xs ys e f = cc

-- ---- groups of neighbours on an axis

pub quotient_order : (a b s : ℕ) → 0 < s → a ≤ b → a / s ≤ b / s
quotient_order a b s positive h = let e : a / s * s ≤ a = div-mul-le_self a s in le-div (a / s) b s positive (omega (arith, e, h))

pub start_order : (a b s : ℕ) → 0 < s → a ≤ b → a / s * s ≤ b / s * s
start_order a b s positive h = mul-le-mul_right s (quotient_order a b s positive h)

-- the group of a place is one of those that there are
pub group_below : (x n s : ℕ) → 0 < s → x < n → x / s < max 1 (div_ceil n s)
group_below x n s positive h =
    let first : x / s * s ≤ x = div-mul-le_self x s in
    let b : x / s < div_ceil n s = within_counts n s (x / s) positive (omega (arith, first, h)) in
    omega (arith, b)

pub last_below : (l h : ℕ) → l < h → (l ≤ pred h) × (pred h < h)
last_below l zero b = absurd (omega arith)
last_below l (suc h) b = (omega arith, omega arith)

-- an index inside has a number on the axis, and so has the end of a region whose last index is inside
pub axis_of_first : (r g : RegularGrid) (axis : ℕ) (is : List ℕ) → r ≡ g → axis < length g.shape → IsInside r.shape is → axis < length is
axis_of_first r g axis is same along h =
    let n = inside-length r.shape is h in
    let e : length r.shape ≡ length g.shape = ap (λ (x : RegularGrid). length x.shape) same in
    omega (arith, n, e, along)

pub axis_of_last : (r g : RegularGrid) (axis : ℕ) (hi : List ℕ) → r ≡ g → axis < length g.shape → IsInside r.shape (map pred hi) → axis < length hi
axis_of_last r g axis hi same along h = let n = length-map hi pred in let l = axis_of_first r g axis (map pred hi) same along h in omega (arith, n, l)

-- ---- lists with another number on the axis

pub region_set : (ns ls hs : List ℕ) (axis m a b : ℕ) → IsFilled ns ls hs → a ≤ b → b ≤ m → IsRegion (set ns axis m) (set ls axis a) (set hs axis b)
region_set [] [] [] axis m a b f p q = tt
region_set (n ∷ ns) (l ∷ ls) (h ∷ hs) zero m a b f p q = (p, q, filled_region ns ls hs f.2)
region_set (n ∷ ns) (l ∷ ls) (h ∷ hs) (suc axis) m a b f p q = ((let x = f.0 in omega arith), f.1, region_set ns ls hs axis m a b f.2 p q)
region_set ns ls hs axis m a b f p q = absurd f

pub region_along : (ns ls hs : List ℕ) (axis a b : ℕ) → IsFilled ns ls hs → a ≤ b → b ≤ get_or ns axis 0 → IsRegion ns (set ls axis a) (set hs axis b)
region_along ns ls hs axis a b f p q = subst (λ (ms : List ℕ). IsRegion ms (set ls axis a) (set hs axis b)) (set-get_or ns axis 0) (region_set ns ls hs axis (get_or ns axis 0) a b f p q)

pub within_set : (ls hs is : List ℕ) (axis a b k : ℕ) → IsWithin ls hs is → a ≤ k → k < b → IsWithin (set ls axis a) (set hs axis b) (set is axis k)
within_set [] [] [] axis a b k w p q = tt
within_set (l ∷ ls) (h ∷ hs) (i ∷ is) zero a b k w p q = (p, q, w.2)
within_set (l ∷ ls) (h ∷ hs) (i ∷ is) (suc axis) a b k w p q = (w.0, w.1, within_set ls hs is axis a b k w.2 p q)
within_set ls hs is axis a b k w p q = absurd w

pub inside_set : (ns is : List ℕ) (axis k : ℕ) → IsInside ns is → k < get_or ns axis 0 → IsInside ns (set is axis k)
inside_set [] [] axis k h b = tt
inside_set (n ∷ ns) (i ∷ is) zero k h b = (b, h.1)
inside_set (n ∷ ns) (i ∷ is) (suc axis) k h b = (h.0, inside_set ns is axis k h.1 b)
inside_set ns is axis k h b = absurd h

-- chunks of one along the axis
pub lo_set : (cs ds : List ℕ) (axis q : ℕ) → length ds ≡ length cs → chunk_lo (set cs axis 1) (set ds axis q) ≡ set (chunk_lo cs ds) axis q
lo_set [] [] axis q e = refl
lo_set (c ∷ cs) (d ∷ ds) zero q e = cons_same (q * 1) q _ _ (omega arith) refl
lo_set (c ∷ cs) (d ∷ ds) (suc axis) q e = ap (λ xs. d * c ∷ xs) (lo_set cs ds axis q (omega arith))
lo_set cs ds axis q e = absurd (omega arith)

pub hi_set : (ns cs ds : List ℕ) (axis m q : ℕ) → length cs ≡ length ns → length ds ≡ length ns → suc q ≤ m → chunk_hi (set ns axis m) (set cs axis 1) (set ds axis q) ≡ set (chunk_hi ns cs ds) axis (suc q)
hi_set [] [] [] axis m q e f h = refl
hi_set (n ∷ ns) (c ∷ cs) (d ∷ ds) zero m q e f h = cons_same (min ((q + 1) * 1) m) (suc q) _ _ (let x : (q + 1) * 1 ≡ suc q = omega arith in omega (arith, x)) refl
hi_set (n ∷ ns) (c ∷ cs) (d ∷ ds) (suc axis) m q e f h = ap (λ xs. min ((d + 1) * c) n ∷ xs) (hi_set ns cs ds axis m q (omega arith) (omega arith) h)
hi_set ns cs ds axis m q e f h = absurd (omega arith)

-- the chunk of an index of a region that is one chunk on the other axes
numbers_along : (ns cs ds is : List ℕ) (axis a b : ℕ) → All (λ c. 0 < c) cs → length cs ≡ length ns → length ds ≡ length ns → axis < length ns → get_or cs axis 0 ≡ 1
    → IsWithin (set (chunk_lo cs ds) axis a) (set (chunk_hi ns cs ds) axis b) is → (quotients is cs ≡ set ds axis (get_or is axis 0)) × (a ≤ get_or is axis 0) × (get_or is axis 0 < b)
numbers_along [] cs ds is axis a b p e f l one w = absurd (omega arith)
numbers_along (n ∷ ns) (c ∷ cs) (d ∷ ds) (i ∷ is) zero a b p e f l one w =
    let single : c ≡ 1 = one in
    let whole : i / c ≡ i = rw single (omega arith) in
    (cons_same (i / c) i _ _ whole (sym (rest ns cs ds is (All-tail (λ x. 0 < x) c cs p) (omega arith) (omega arith) w.2)), w.0, w.1)
  where
    rest : (ns cs ds is : List ℕ) → All (λ c. 0 < c) cs → length cs ≡ length ns → length ds ≡ length ns → IsWithin (chunk_lo cs ds) (chunk_hi ns cs ds) is → ds ≡ quotients is cs
    rest [] [] [] [] p e f w = refl
    rest (n ∷ ns) (c ∷ cs) (d ∷ ds) (i ∷ is) p e f w =
        cons_same d (i / c) ds (quotients is cs) (number_on n c d i (All-head (λ y. 0 < y) c cs p) w.0 w.1) (rest ns cs ds is (All-tail (λ y. 0 < y) c cs p) (omega arith) (omega arith) w.2)
    rest ns cs ds is p e f w = absurd (first_of (assumption, omega arith))
numbers_along (n ∷ ns) (c ∷ cs) (d ∷ ds) (i ∷ is) (suc axis) a b p e f l one w =
    let (same, low, high) = numbers_along ns cs ds is axis a b (All-tail (λ x. 0 < x) c cs p) (omega arith) (omega arith) (omega arith) one w.2 in
    (cons_same (i / c) d _ _ (sym (number_on n c d i (All-head (λ y. 0 < y) c cs p) w.0 w.1)) same, low, high)
numbers_along (n ∷ ns) (c ∷ cs) (d ∷ ds) [] zero a b p e f l one w = absurd w
numbers_along (n ∷ ns) (c ∷ cs) (d ∷ ds) [] (suc axis) a b p e f l one w = absurd w
numbers_along (n ∷ ns) [] ds is axis a b p e f l one w = absurd (omega arith)
numbers_along (n ∷ ns) (c ∷ cs) [] is axis a b p e f l one w = absurd (omega arith)

-- ---- a chunk on the axis

pub record EndsOn (g : RegularGrid) (d : List ℕ) (axis : ℕ) : Type 0 where
  pub first : get_or (chunk_lo g.chunk d) axis 0 ≡ get_or d axis 0 * chunk_on g axis
  pub last : get_or (chunk_hi g.shape g.chunk d) axis 0 ≡ min ((get_or d axis 0 + 1) * chunk_on g axis) (get_or g.shape axis 0)
  pub starts : get_or d axis 0 * chunk_on g axis < get_or g.shape axis 0
  pub long : length d ≡ length g.shape
  pub positive : 0 < chunk_on g axis

pub ends_on : (g : RegularGrid) (d : List ℕ) (axis : ℕ) → IsGrid g → IsCoordinate g d → axis < length g.shape → EndsOn g d axis
ends_on g d axis ok here along =
    let n = coordinate-length g d ok here in
    let r = ok.ranks in
    let m = length-axis_by_axis (λ c size. (c + 1) * size) d g.chunk (n ∙ sym r) in
    record {
      first = get_or-axis_by_axis (λ i c. i * c) d g.chunk axis (omega (arith, n, along)) (omega (arith, r, along));
      last = get_or-axis_by_axis min _ g.shape axis (omega (arith, m, n, along)) along
          ∙ ap (λ x. min x (get_or g.shape axis 0)) (get_or-axis_by_axis (λ c size. (c + 1) * size) d g.chunk axis (omega (arith, n, along)) (omega (arith, r, along)));
      starts = (bounded g d axis ok here along).starts;
      long = n;
      positive = ok.positive axis 0 (omega (arith, r, along));
    }

-- its first and its last place are in one group of as many as a chunk has
pub same_group : (d c n : ℕ) → 0 < c → d * c < n → (d * c / c ≡ d) × (pred (min ((d + 1) * c) n) / c ≡ d)
same_group d c n positive starts =
    let e : d * c ≡ d * c + 0 = omega arith in
    let next : (d + 1) * c ≡ d * c + c = omega arith in
    let x = pred (min ((d + 1) * c) n) in
    let most = last_below (d * c) (min ((d + 1) * c) n) (omega (arith, next, positive, starts)) in
    let low = most.0 in
    let high = most.1 in
    let back : d * c + (x - d * c) ≡ x = omega (arith, low) in
    (ap (λ y. y / c) e ∙ div-mul-add d c 0 positive, ap (λ y. y / c) (sym back) ∙ div-mul-add d c (x - d * c) (omega (arith, next, low, high)))

-- ---- one number for each group of neighbours

-- the groups go along one axis
only_axis : (axis first j : ℕ) (ss : List ℕ) → axis ≡ first + j → groups_from (λ d. d == axis) first ss ≡ set (map (λ s. None) ss) j (Some (get_or ss j 0))
only_axis axis first j [] h = refl
only_axis axis first zero (s ∷ ss) h = elim (eqb_tells first axis) [
  | inl t ↦ rw t.0 (ap (λ (gs : Groups). Some s ∷ gs) (past axis (first + 1) ss (omega arith)))
  | inr t ↦ absurd (t.1 (omega (arith, h)))
]
  where
    past : (axis first : ℕ) (ss : List ℕ) → axis < first → groups_from (λ d. d == axis) first ss ≡ map (λ s. None) ss
    past axis first [] h = refl
    past axis first (s ∷ ss) h = elim (eqb_tells first axis) [
      | inl t ↦ absurd (let x = t.1 in omega (arith, x, h))
      | inr t ↦ rw t.0 (ap (λ (gs : Groups). None ∷ gs) (past axis (first + 1) ss (omega arith)))
    ]
only_axis axis first (suc j) (s ∷ ss) h = elim (eqb_tells first axis) [
  | inl t ↦ absurd (let x = t.1 in omega (arith, x, h))
  | inr t ↦ rw t.0 (ap (λ (gs : Groups). None ∷ gs) (only_axis axis (first + 1) j ss (omega arith)))
]

counts_set : (ss ns : List ℕ) (j s : ℕ) → length ss ≡ length ns → group_counts (set (map (λ s. None) ss) j (Some s)) ns ≡ set ns j (max 1 (div_ceil (get_or ns j 0) s))
counts_set [] [] j s e = refl
counts_set (x ∷ ss) (n ∷ ns) zero s e = ap (λ ms. max 1 (div_ceil n s) ∷ ms) (kept ss ns (omega arith))
  where
    kept : (ss ns : List ℕ) → length ss ≡ length ns → group_counts (map (λ s. None) ss) ns ≡ ns
    kept [] [] e = refl
    kept (x ∷ ss) (n ∷ ns) e = ap (λ ms. n ∷ ms) (kept ss ns (omega arith))
    kept ss ns e = absurd (omega arith)
counts_set (x ∷ ss) (n ∷ ns) (suc j) s e = ap (λ ms. n ∷ ms) (counts_set ss ns j s (omega arith))
counts_set ss ns j s e = absurd (omega arith)

chunks_set : (ss cs : List ℕ) (j s : ℕ) → length ss ≡ length cs → partial_chunk (set (map (λ s. None) ss) j (Some s)) cs ≡ set cs j 1
chunks_set [] [] j s e = refl
chunks_set (x ∷ ss) (c ∷ cs) zero s e = ap (λ ms. 1 ∷ ms) (kept ss cs (omega arith))
  where
    kept : (ss cs : List ℕ) → length ss ≡ length cs → partial_chunk (map (λ s. None) ss) cs ≡ cs
    kept [] [] e = refl
    kept (x ∷ ss) (c ∷ cs) e = ap (λ ms. c ∷ ms) (kept ss cs (omega arith))
    kept ss cs e = absurd (omega arith)
chunks_set (x ∷ ss) (c ∷ cs) (suc j) s e = ap (λ ms. c ∷ ms) (chunks_set ss cs j s (omega arith))
chunks_set ss cs j s e = absurd (omega arith)

-- the grid of the groups' numbers, of s neighbours each
pub record HasGroups (g own : RegularGrid) (axis s : ℕ) : Type 0 where
  pub shape : own.shape ≡ set g.shape axis (max 1 (div_ceil (get_or g.shape axis 0) s))
  pub chunk : own.chunk ≡ set g.chunk axis 1

groups_grid : (g own : RegularGrid) (axis s : ℕ) (sizes : List ℕ) → length sizes ≡ length g.shape → IsGrid g → get_or sizes axis 0 ≡ s → own ≡ partial_grid (groups_of (λ d. d == axis) sizes) g → HasGroups g own axis s
groups_grid g own axis s sizes n ok size is =
    let gs : groups_of (λ d. d == axis) sizes ≡ set (map (λ s. None) sizes) axis (Some s) = only_axis axis 0 axis sizes (omega arith) ∙ ap (λ (x : ℕ). set (map (λ s. None) sizes) axis (Some x)) size in
    record {
      shape = ap (λ (r : RegularGrid). r.shape) is ∙ ap (λ (x : Groups). group_counts x g.shape) gs ∙ counts_set sizes g.shape axis s n;
      chunk = ap (λ (r : RegularGrid). r.chunk) is ∙ ap (λ (x : Groups). partial_chunk x g.chunk) gs ∙ chunks_set sizes g.chunk axis s (n ∙ sym ok.ranks);
    }

pub merged_grid : (g own : RegularGrid) (axis group : ℕ) → IsGrid g → axis < length g.shape → own ≡ partial_grid (merge_groups axis group g) g → HasGroups g own axis group
merged_grid g own axis group ok along is =
    groups_grid g own axis group (map (λ n. group) g.shape) (length-map g.shape (λ n. group)) ok (get_or-map (λ n. group) g.shape axis 0 0 along) is

pub chunked_grid : (g own : RegularGrid) (axis : ℕ) → IsGrid g → own ≡ partial_grid (place_groups (Some axis) g) g → HasGroups g own axis (chunk_on g axis)
chunked_grid g own axis ok is = groups_grid g own axis (chunk_on g axis) g.chunk ok.ranks ok refl is

-- ---- an array that may be carried in

pub carried_listed : (first : ℕ) (carry : Option ℕ) (a : ℕ) → carry ≡ Some a → Contains (first ∷ carried_reads carry) a
carried_listed first carry a e = subst (λ (o : Option ℕ). Contains (first ∷ carried_reads o) a) (sym e) (1, omega arith, refl)

pub carried_walked : (w : Walk) (carry : Option ℕ) (axis s : ℕ) (lo hi : List ℕ) → map (λ (v : Walk). v.array) (w ∷ carried_walks carry axis s lo hi) ≡ w.array ∷ carried_reads carry
carried_walked w None axis s lo hi = refl
carried_walked w (Some a) axis s lo hi = refl

-- a walk over another array than what is carried in
pub carried_first : (x : Walk) (carry : Option ℕ) (axis s : ℕ) (lo hi : List ℕ) (w : Walk) → ((a : ℕ) → carry ≡ Some a → w.array ≢ a) → Contains (x ∷ carried_walks carry axis s lo hi) w → x ≡ w
carried_first x None axis s lo hi w other (zero, l, e) = e
carried_first x None axis s lo hi w other (suc k, l, e) = absurd (omega arith)
carried_first x (Some a) axis s lo hi w other (zero, l, e) = e
carried_first x (Some a) axis s lo hi w other (suc zero, l, e) = absurd (other a refl (ap (λ (v : Walk). v.array) (sym e)))
carried_first x (Some a) axis s lo hi w other (suc (suc k), l, e) = absurd (omega arith)

-- what is carried in depends on that array alone
pub carried_alike : (carry : Option ℕ) (at other : Elements) (axis q : ℕ) (idx : List ℕ) → ((a : ℕ) → carry ≡ Some a → at a (set idx axis q) ≡ other a (set idx axis q))
    → carried (option_map (λ (b : Array). line_through b axis idx) (carried_array at carry)) q ≡ carried (option_map (λ (b : Array). line_through b axis idx) (carried_array other carry)) q
carried_alike None at other axis q idx h = refl
carried_alike (Some a) at other axis q idx h = ap (λ (x : Option ℤ). x ∷ []) (h a refl)

pub span_alike : (f g : Line) (lo hi : ℕ) → ((k : ℕ) → lo ≤ k → k < hi → f k ≡ g k) → span f lo hi ≡ span g lo hi
span_alike f g lo hi h = same_mapped f g (range_with_len lo (hi - lo)) (λ k c. let b = below_range lo (hi - lo) k c in h k b.0 (let x = b.0 in let y = b.1 in omega (arith, x, y)))

pub carried_renumbered : (f : ℕ → ℕ) (first : ℕ) (carry : Option ℕ) → f first ∷ carried_reads (option_map f carry) ≡ map f (first ∷ carried_reads carry)
carried_renumbered f first None = refl
carried_renumbered f first (Some a) = refl

pub array_renumbered : (f : ℕ → ℕ) (carry : Option ℕ) (at others : Elements) → ((a : ℕ) → carry ≡ Some a → others (f a) ≡ at a) → carried_array others (option_map f carry) ≡ carried_array at carry
array_renumbered f None at others h = refl
array_renumbered f (Some a) at others h = ap Some (h a refl)

pub room_renumbered : (f : ℕ → ℕ) (old new : List ArrayInfo) (carry : Option ℕ) → ((a : ℕ) → carry ≡ Some a → HasLayoutOf f old new a) → carried_room new (option_map f carry) ≡ carried_room old carry
room_renumbered f old new None h = refl
room_renumbered f old new (Some a) h = room_same f old new a (h a refl)

pub carries_renumbered : (f : ℕ → ℕ) (old new : List ArrayInfo) (gs : RegularGrid → Groups) (source out : ℕ) (carry : Option ℕ) → HasLayoutOf f old new source → HasLayoutOf f old new out
    → ((a : ℕ) → carry ≡ Some a → HasLayoutOf f old new a × (f a ≡ f source → a ≡ source)) → CarriesFor old (gs (grid_at old source)) source out carry
    → CarriesFor new (gs (grid_at new (f source))) (f source) (f out) (option_map f carry)
carries_renumbered f old new gs source out None ks ko h own = tt
carries_renumbered f old new gs source out (Some a) ks ko h own =
    let k = h a refl in
    let G = sym (grid_same f old new source ks) in
    ((λ e. own.0 (k.1 e)), grid_same f old new a k.0 ∙ transport (λ i. grid_at old a ≡ partial_grid (gs (G i)) (G i)) own.1, type_same f old new a k.0 ∙ own.2 ∙ sym (type_same f old new out ko))

pub carried_room_few : (arrays : List ArrayInfo) (carry : Option ℕ) → All IsArray arrays → carried_room arrays carry ≤ 2 ^ 43
carried_room_few arrays None ok = omega arith
carried_room_few arrays (Some a) ok = any_room_few arrays a a ok

-- ---- the regions of a plan

-- the chunks of a walk are its array's
cell_array : (arrays : List ArrayInfo) (w : Walk) (c : Cell) → Contains (walk_cells arrays w) c → w.array ≡ c.array
cell_array arrays w c h = let (coord, among, e) = contains_mapped (cell w.array) _ c h in ap (λ (x : Cell). x.array) e

module _ (arrays : List ArrayInfo) (axis s source : ℕ) where
  abbrev g : RegularGrid
  g = grid_at arrays source

  -- an array that is carried into groups of s neighbours of the source
  pub record IsCarried (a : ℕ) : Type 0 where
    pub within : a < length arrays
    pub other : a ≢ source
    pub grid : IsGrid (grid_at arrays a)
    pub groups : HasGroups g (grid_at arrays a) axis s

  abbrev pub AreCarried : Option ℕ → Type 0
  AreCarried carry = (a : ℕ) → carry ≡ Some a → IsCarried a

  module _ (along : axis < length g.shape) (positive : 0 < s) where
    carried_region : (a : ℕ) (lo hi : List ℕ) → IsCarried a → IsFilled g.shape lo hi
        → IsWalkOver arrays (walk a (set lo axis (get_or lo axis 0 / s)) (set hi axis (suc (pred (get_or hi axis 0) / s))))
    carried_region a lo hi own f =
        let n = get_or g.shape axis 0 in
        let at = filled_at g.shape lo hi axis f along in
        let last = last_below (get_or lo axis 0) (get_or hi axis 0) at.0 in
        let most : pred (get_or hi axis 0) / s < max 1 (div_ceil n s) = group_below (pred (get_or hi axis 0)) n s positive (let x = last.1 in let y = at.1 in omega (arith, x, y)) in
        let order : get_or lo axis 0 / s ≤ pred (get_or hi axis 0) / s = quotient_order (get_or lo axis 0) (pred (get_or hi axis 0)) s positive last.0 in (
          own.within,
          subst (λ (ns : List ℕ). IsRegion ns (set lo axis (get_or lo axis 0 / s)) (set hi axis (suc (pred (get_or hi axis 0) / s)))) (sym own.groups.shape)
              (region_set g.shape lo hi axis (max 1 (div_ceil n s)) (get_or lo axis 0 / s) (suc (pred (get_or hi axis 0) / s)) f (omega (arith, order)) (omega (arith, most))),
        )

    pub group_over : (carry : Option ℕ) (end : ℕ) (lo hi : List ℕ) → source < length arrays → AreCarried carry → IsFilled g.shape lo hi → get_or lo axis 0 ≤ end → end ≤ get_or g.shape axis 0
        → All (IsWalkOver arrays) (group_walk source axis s end lo hi ∷ carried_walks carry axis s lo hi)
    group_over carry end lo hi ws own f low high = both carry own
      where
        first : IsWalkOver arrays (group_walk source axis s end lo hi)
        first = (ws, region_along g.shape lo hi axis (get_or lo axis 0 / s * s) end f (let e : get_or lo axis 0 / s * s ≤ get_or lo axis 0 = div-mul-le_self (get_or lo axis 0) s in omega (arith, e, low)) high)

        both : (carry : Option ℕ) → AreCarried carry → All (IsWalkOver arrays) (group_walk source axis s end lo hi ∷ carried_walks carry axis s lo hi)
        both None own = over_one arrays (group_walk source axis s end lo hi) first
        both (Some a) own = over_two arrays (group_walk source axis s end lo hi) _ first (carried_region a lo hi (own a refl) f)

    -- a group begins at or before each of its places
    pub group_reads : (carry : Option ℕ) (end : ℕ) (lo hi idx i : List ℕ) (a k : ℕ) → IsWithin lo hi idx → axis < length idx → get_or idx axis 0 / s * s ≤ k → k < end → a ≡ source → i ≡ set idx axis k
        → LiesIn (group_walk source axis s end lo hi ∷ carried_walks carry axis s lo hi) a i
    group_reads carry end lo hi idx i a k w l low high e is =
        let at = within_at lo hi idx axis w l in
        let order : get_or lo axis 0 / s * s ≤ get_or idx axis 0 / s * s = start_order (get_or lo axis 0) (get_or idx axis 0) s positive at.0 in
        record {
          one = group_walk source axis s end lo hi;
          listed = (0, omega arith, refl);
          array = sym e;
          within = subst (IsWithin (set lo axis (get_or lo axis 0 / s * s)) (set hi axis end)) (sym is) (within_set lo hi idx axis (get_or lo axis 0 / s * s) end k w (omega (arith, order, low)) high);
        }

    pub carried_in : (x : Walk) (carry : Option ℕ) (lo hi idx i : List ℕ) (a : ℕ) → IsWithin lo hi idx → axis < length idx → carry ≡ Some a → i ≡ set idx axis (get_or idx axis 0 / s)
        → LiesIn (x ∷ carried_walks carry axis s lo hi) a i
    carried_in x None lo hi idx i a w l e is = absurd (none_given a e)
    carried_in x (Some b) lo hi idx i a w l e is =
        let at = within_at lo hi idx axis w l in
        let q = get_or idx axis 0 / s in
        let last = last_below (get_or idx axis 0) (get_or hi axis 0) at.1 in
        let low : get_or lo axis 0 / s ≤ q = quotient_order (get_or lo axis 0) (get_or idx axis 0) s positive at.0 in
        let high : q ≤ pred (get_or hi axis 0) / s = quotient_order (get_or idx axis 0) (pred (get_or hi axis 0)) s positive last.0 in
        second_of_walks x (walk b (set lo axis (get_or lo axis 0 / s)) (set hi axis (suc (pred (get_or hi axis 0) / s)))) a i (same_Some b a e)
        (subst (IsWithin (set lo axis (get_or lo axis 0 / s)) (set hi axis (suc (pred (get_or hi axis 0) / s)))) (sym is)
        (within_set lo hi idx axis (get_or lo axis 0 / s) (suc (pred (get_or hi axis 0) / s)) q w low (omega (arith, high))))

    -- the chunk of what is carried into a chunk that lies in one group
    pub carried_same : (carry : Option ℕ) (d : List ℕ) (c : Cell) → IsGrid g → IsCoordinate g d → AreCarried carry
        → pred (get_or (chunk_hi g.shape g.chunk d) axis 0) / s ≡ get_or (chunk_lo g.chunk d) axis 0 / s
        → HaveSame (cells_of_walks arrays (carried_walks carry axis s (chunk_lo g.chunk d) (chunk_hi g.shape g.chunk d))) (carried_chunk arrays carry (set d axis (get_or (chunk_lo g.chunk d) axis 0 / s))) c
    carried_same None d c ok here own one = (λ h. h, λ h. h)
    carried_same (Some a) d c ok here own one =
        let lo = chunk_lo g.chunk d in
        let hi = chunk_hi g.shape g.chunk d in
        let q = get_or lo axis 0 / s in
        let ns = g.shape in
        let m = max 1 (div_ceil (get_or ns axis 0) s) in
        let r = own a refl in
        let filled = chunk_filled ns g.chunk d ok.positive ok.ranks here in
        let long = coordinate-length g d ok here in
        let over = carried_region a lo hi r filled in
        let at = filled_at ns lo hi axis filled along in
        let below : q < m = group_below (get_or lo axis 0) (get_or ns axis 0) s positive (let x = at.0 in let y = at.1 in omega (arith, x, y)) in
        of_one arrays (walk a (set lo axis q) (set hi axis (suc (pred (get_or hi axis 0) / s)))) _ c
        (own_chunk arrays a (set lo axis q) (set hi axis (suc (pred (get_or hi axis 0) / s))) (set d axis q) c r.grid over
        (length-set d axis q ∙ long ∙ sym (length-set ns axis m) ∙ ap length (sym r.groups.shape))
        (sym (lo_set g.chunk d axis q (long ∙ sym ok.ranks)) ∙ ap (λ (cs : List ℕ). chunk_lo cs (set d axis q)) (sym r.groups.chunk))
        (ap (λ (x : ℕ). set hi axis (suc x)) one ∙ sym (hi_set ns g.chunk d axis m q ok.ranks long (omega (arith, below)))
        ∙ (λ i. chunk_hi (sym r.groups.shape i) (sym r.groups.chunk i) (set d axis q))))

  -- two arrays have no chunk in common
  pub carried_apart : (carry : Option ℕ) (end : ℕ) (lo hi : List ℕ) (v w : Walk) → AreCarried carry → Contains (group_walk source axis s end lo hi ∷ carried_walks carry axis s lo hi) v
      → Contains (group_walk source axis s end lo hi ∷ carried_walks carry axis s lo hi) w → v ≢ w → AreApart arrays v w
  carried_apart None end lo hi v w own hv hw differ = apart_one arrays (group_walk source axis s end lo hi) v w hv hw differ
  carried_apart (Some a) end lo hi v w own hv hw differ =
      let x = group_walk source axis s end lo hi in
      let y = walk a (set lo axis (get_or lo axis 0 / s)) (set hi axis (suc (pred (get_or hi axis 0) / s))) in
      apart_two arrays x y v w (λ other c here there. (own a refl).other (cell_array arrays y c there ∙ sym (cell_array arrays x c here))) hv hw differ

  -- the chunks of one along the axis from a place to below another
  pub line_same : (d : List ℕ) (a b : ℕ) (c : Cell) → IsGrid g → IsCoordinate g d → axis < length g.shape → chunk_on g axis ≡ 1 → b ≤ get_or d axis 0
      → IsWalkOver arrays (walk source (set (chunk_lo g.chunk d) axis a) (set (chunk_hi g.shape g.chunk d) axis b))
      → HaveSame (walk_cells arrays (walk source (set (chunk_lo g.chunk d) axis a) (set (chunk_hi g.shape g.chunk d) axis b))) (map (λ k. cell source (set d axis k)) (range_with_len a (b - a))) c
  line_same d a b c ok here along one most over =
      let lo = chunk_lo g.chunk d in
      let hi = chunk_hi g.shape g.chunk d in
      let w = walk source (set lo axis a) (set hi axis b) in
      let long = coordinate-length g d ok here in (
        λ there.
            let (array, (own, (i, within, in_chunk))) = walk_meets arrays w c ok over there in
            let (same, low, high) = numbers_along g.shape g.chunk d i axis a b ok.positive ok.ranks long along one within in
            let k = get_or i axis 0 in
            let is : c.coord ≡ set d axis k = only_chunk g c.coord i ok own in_chunk ∙ same in
            subst (Contains (map (λ k. cell source (set d axis k)) (range_with_len a (b - a)))) (as_cell c (set d axis k) array is) (map_contains (λ k. cell source (set d axis k)) (range_with_len a (b - a)) k (in_range a b k low high)),
        λ there.
            let (k, among, e) = contains_mapped (λ k. cell source (set d axis k)) (range_with_len a (b - a)) c there in
            let range = below_range a (b - a) k among in
            let low = range.0 in
            let high : k < b = let x = range.1 in omega (arith, x, low) in
            let below = inside-at (grid_counts g) d axis here (let n = length-axis_by_axis div_ceil g.shape g.chunk (sym ok.ranks) in omega (arith, n, along)) in
            let at : IsCoordinate g (set d axis k) = inside_set (grid_counts g) d axis k here (omega (arith, high, most, below)) in
            let single : set g.chunk axis 1 ≡ g.chunk = ap (λ x. set g.chunk axis x) (sym one) ∙ set-get_or g.chunk axis 0 in
            let first : chunk_lo g.chunk (set d axis k) ≡ set lo axis k = ap (λ (cs : List ℕ). chunk_lo cs (set d axis k)) (sym single) ∙ lo_set g.chunk d axis k (long ∙ sym ok.ranks) in
            let in_region : IsWithin (set lo axis a) (set hi axis b) (chunk_lo g.chunk (set d axis k)) = subst (IsWithin (set lo axis a) (set hi axis b)) (sym first) (within_set lo hi lo axis a b k (begins_within g d ok here) low high) in
            subst (Contains (walk_cells arrays w)) e (meets_walk arrays w (set d axis k) ok over (at, (chunk_lo g.chunk (set d axis k), in_region, begins_within g (set d axis k) ok at))),
      )
    where
      as_cell : (c : Cell) (coord : List ℕ) → c.array ≡ source → c.coord ≡ coord → cell source coord ≡ c
      as_cell c coord e f = λ i. record { array = sym e i; coord = sym f i }

      in_range : (a b k : ℕ) → a ≤ k → k < b → Contains (range_with_len a (b - a)) k
      in_range a b k low high =
          let n = length-range_with_len a (b - a) in
          (k - a, omega (arith, n, low, high), get_or-range_with_len a (b - a) (k - a) k (omega (arith, low, high)) ∙ (let e : a + (k - a) ≡ k = omega (arith, low) in e))
