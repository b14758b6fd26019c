-- The steps of a search for places.
use Rattle.std.proofs.Common.{◌≡◌, ℕ, zero, suc, ◌+◌, ◌*◌, ◌<◌, ◌≤◌, Bool, List, [], ◌∷◌, All, Contains, length, Option, None, Some, if◌then◌else◌, refl, ap, sym, ◌∙◌, subst, arith, inl, inr}
use Rattle.std.proofs.lemmas.Nat.{mul-le}
use Rattle.cu_num.specs.Dtype.{size_of}
use Rattle.cu_num.specs.declared.types.Dtype.{Dtype}
use Rattle.cu_num.specs.declared.types.Dtype.TheVariants.{Int64}
use Rattle.cu_shape.specs.Index.{product}
use Rattle.cu_grid.specs.Grid.{RegularGrid}
use Rattle.cu_reduce.specs.Groups.{Groups, groups_from, groups_of, HasElements}
use Rattle.cu_reduce.specs.Places.{is_sought}
use Rattle.cu_origin.specs.Pull.{has_axis}
use Rattle.cu_origin.specs.declared.axes.Axes.{Axes}
use Rattle.cu_op.specs.Arrays.{grid_at}
use Rattle.cu_op.specs.Operation.{Fits}
use Rattle.cu_op.specs.Places.{StoresValues, HasPlaceAxis, value_room}
use Rattle.cu_op.specs.Partial.{partial_grid, chunk_groups, place_groups, merge_groups, IsSqueezed}
use Rattle.cu_op.specs.declared.layout.ArrayInfo.{ArrayInfo}
use Rattle.cu_op.specs.declared.operation.Op.TheVariants.{PairFold, PairMerge}
use Rattle.cu_node.specs.Info.{info_of, chunk_bytes}
use Rattle.cu_node.specs.declared.info.NodeInfo.{NodeInfo}
use Rattle.cu_tree.specs.Marks.{sought_axes}
use Rattle.cu_tree.specs.Needs.{pair_fold_need, pair_merge_need}
use Rattle.cu_tree.specs.Partials.{first_partial, reduction_rounds, merged, written_before}
use Rattle.cu_tree.specs.declared.round.Round.{Round}
use Rattle.cu_tree.proofs.Bits.{sought}
use Rattle.cu_tree.proofs.Orders.{of_reduction}
use Rattle.cu_lower_reduce.specs.Partials.{IsSetting}
use Rattle.cu_lower_reduce.specs.Reductions.{whole_groups}
use Rattle.cu_lower_reduce.specs.Searches.{stored, value_chunk_bytes, pair_merges, pairs_found, search_steps, IsSearch}
use Rattle.cu_lower_reduce.specs.Steps.{grid_of, HasInfo, HaveInfos, all_made, IsGiven, IsStep, AreSteps}
use Rattle.cu_lower_reduce.specs.declared.search.Search.{Search}
use Rattle.cu_lower_reduce.specs.declared.step.Setting.{Setting}
use Rattle.cu_lower_reduce.proofs.Along.{elements_along}
use Rattle.cu_lower_reduce.proofs.Firsts.{same_size, size_most}
use Rattle.cu_lower_reduce.proofs.Folds.{elements_same, contains_first, first_squeezed}
use Rattle.cu_lower_reduce.proofs.Lasts.{last_target}
use Rattle.cu_lower_reduce.proofs.Standing.{IsPartial, first_stands}
use Rattle.cu_lower_reduce.proofs.Stepping.{IsTurn, room_of, chunks_in, next_turn, more_squeezed, last_squeezed_of}

-- the values that stand beside places
abbrev pub typed : Dtype → NodeInfo → NodeInfo
typed t i = info_of t i.dims i.chunk

-- ---- the axes

groups_agree : (p q : ℕ → Bool) (first : ℕ) (cs : List ℕ) → ((d : ℕ) → d < first + length cs → p d ≡ q d) → groups_from p first cs ≡ groups_from q first cs
groups_agree p q first [] h = refl
groups_agree p q first (c ∷ cs) h =
    let e = h first (omega arith) in
    let t = groups_agree p q (first + 1) cs (λ d l. h d (omega arith)) in
    (λ j. (if e j then Some c else None) ∷ t j)

pub groups_sought : (axis : Option ℕ) (cs : List ℕ) → length cs ≤ 6 → groups_of (is_sought axis) cs ≡ groups_of (has_axis (sought_axes axis)) cs
groups_sought axis cs h = groups_agree (is_sought axis) (has_axis (sought_axes axis)) 0 cs (λ d l. sym (sought axis d (omega arith)))

-- ---- bytes

pub same_chunk_size : (axes : Axes) (base made i : NodeInfo) → IsPartial axes base i → IsSqueezed (partial_grid (whole_groups axes base.dims) (grid_of base)) (grid_of made) → product i.chunk ≡ product made.chunk
same_chunk_size axes base made i p h = ap product p.chunk ∙ same_size axes base made p.base_ranks h

values_fewer : (x : Search) → IsSearch x → value_chunk_bytes x ≤ chunk_bytes x.made
values_fewer x h =
    let e : size_of x.made.dtype ≡ 8 = ap size_of h.places in
    let m : product x.made.chunk * size_of x.from.dtype ≤ product x.made.chunk * 8 = mul-le (product x.made.chunk) (size_of x.from.dtype) (product x.made.chunk) 8 (omega arith) (size_most x.from.dtype) in
    subst (λ (n : ℕ). value_chunk_bytes x ≤ product x.made.chunk * n) (sym e) m

value_room_of : (arrays : List ArrayInfo) (source out : ℕ) (i o : NodeInfo) → HasInfo arrays source i → HasInfo arrays out o → value_room arrays source out ≡ product o.chunk * size_of i.dtype
value_room_of arrays source out i o h k j = product (k.grid j).chunk * size_of (h.dtype j)

group_bytes : (g b : ℕ) → (g + 1) * b ≡ g * b + b
group_bytes g b = omega arith

-- ---- a merge

-- what is known of the partial results before a round, those of values under number `source` and those of places behind them
pub record IsHunt (arrays : List ArrayInfo) (s : Setting) (x : Search) (source : ℕ) (i : NodeInfo) (rounds : List Round) : Type 0 where
  pub setting : IsSetting s
  pub search : IsSearch x
  pub turn : IsTurn s (sought_axes x.axis) x.from x.made i rounds
  pub values : HasInfo arrays source (typed x.from.dtype i)
  pub places : HasInfo arrays (source + 1) i

int_places : (arrays : List ArrayInfo) (s : Setting) (x : Search) (source : ℕ) (i : NodeInfo) (rs : List Round) → IsHunt arrays s x source i rs → i.dtype ≡ Int64
int_places arrays s x source i rs h = h.turn.dtype ∙ h.search.places

pair_fits : (arrays : List ArrayInfo) (s : Setting) (x : Search) (source out : ℕ) (i o : NodeInfo) (r : Round) (rs : List Round) (values : Option ℕ) → IsHunt arrays s x source i (r ∷ rs) → HasInfo arrays out o
    → o.dtype ≡ Int64 → StoresValues arrays values source out → IsSqueezed (partial_grid (merge_groups r.axis s.split_every (grid_of i)) (grid_of i)) (grid_of o)
    → Fits arrays (PairMerge x.least r.axis s.split_every source (source + 1) values out)
pair_fits arrays s x source out i o r rs values h k t stored squeezed =
    let w = h.turn.rule.0 in
    let f = w.from in
    let v = w.several in
    let few = h.setting.few in
    let several = h.setting.several in (
      record { along = subst (λ (g : RegularGrid). r.axis < length g.shape) (sym h.values.grid) w.inside; some = omega arith; few = omega arith },
      record { grid = h.places.grid ∙ sym h.values.grid; places = h.places.dtype ∙ int_places arrays s x source i (r ∷ rs) h },
      record {
        result = subst (λ (g : RegularGrid). IsSqueezed (partial_grid (merge_groups r.axis s.split_every g) g) (grid_at arrays out)) (sym h.values.grid)
            (subst (λ (g : RegularGrid). IsSqueezed (partial_grid (merge_groups r.axis s.split_every (grid_of i)) (grid_of i)) g) (sym k.grid) squeezed);
        places = k.dtype ∙ t;
        stored = stored;
        enough = subst (λ (g : RegularGrid). HasElements (merge_groups r.axis s.split_every g) g.shape) (sym h.values.grid) (elements_along r.axis s.split_every 0 i.dims r.axis (omega arith) (omega arith));
      },
    )

pair_reads : (given : List ℕ) (first source : ℕ) → first ≤ source → All (IsGiven given first (source + 2)) (source ∷ (source + 1) ∷ [])
pair_reads given first source h zero d l = inr (h, omega arith)
pair_reads given first source h (suc zero) d l = inr (omega arith, omega arith)
pair_reads given first source h (suc (suc n)) d l = absurd (omega arith)

last_pair : (arrays : List ArrayInfo) (s : Setting) (x : Search) (given : List ℕ) (first source : ℕ) (i : NodeInfo) (r : Round) → first ≤ source → IsHunt arrays s x source i (r ∷ []) → HasInfo arrays (source + 2) x.made
    → IsStep arrays s.reserved given first (source + 2)
    (record {
      op = PairMerge x.least r.axis s.split_every source (source + 1) None (source + 2);
      values = None;
      made = x.made;
      need = pair_merge_need s.reserved s.split_every (value_chunk_bytes x) (chunk_bytes x.made);
    })
last_pair arrays s x given first source i r before h k =
    let e = same_chunk_size (sought_axes x.axis) x.from x.made i h.turn.stands h.search.result in
    let v : chunk_bytes (typed x.from.dtype i) ≡ value_chunk_bytes x = (λ j. e j * size_of x.from.dtype) in
    let p : chunk_bytes i ≡ chunk_bytes x.made = (λ j. e j * size_of (h.turn.dtype j)) in
    let fewer = values_fewer x h.search in
    let g = group_bytes s.split_every (value_chunk_bytes x + chunk_bytes x.made) in
    record {
      writes = refl;
      reads = pair_reads given first source before;
      fits = pair_fits arrays s x source (source + 2) i x.made r [] None h k h.search.places tt (last_squeezed_of s (sought_axes x.axis) x.from x.made i r h.setting.several h.search.result h.turn);
      need = rw (value_room_of arrays source (source + 2) (typed x.from.dtype i) x.made h.values k, room_of arrays source (typed x.from.dtype i) h.values, room_of arrays (source + 1) i h.places, room_of arrays (source + 2) x.made k, v, p) (omega (arith, g, fewer));
      tasks = chunks_in arrays (source + 2) x.made k;
    }

more_pair : (arrays : List ArrayInfo) (s : Setting) (x : Search) (given : List ℕ) (first source : ℕ) (i : NodeInfo) (r : Round) (rs : List Round) → first ≤ source → IsHunt arrays s x source i (r ∷ rs)
    → HasInfo arrays (source + 2) (typed x.from.dtype (merged r i)) → HasInfo arrays (source + 2 + 1) (merged r i)
    → IsStep arrays s.reserved given first (source + 2)
    (record {
      op = PairMerge x.least r.axis s.split_every source (source + 1) (Some (source + 2)) (source + 2 + 1);
      values = Some (typed x.from.dtype (merged r i));
      made = merged r i;
      need = pair_merge_need s.reserved s.split_every (value_chunk_bytes x) (chunk_bytes x.made);
    })
more_pair arrays s x given first source i r rs before h kv kp =
    let e = same_chunk_size (sought_axes x.axis) x.from x.made i h.turn.stands h.search.result in
    let v : chunk_bytes (typed x.from.dtype i) ≡ value_chunk_bytes x = (λ j. e j * size_of x.from.dtype) in
    let p : chunk_bytes i ≡ chunk_bytes x.made = (λ j. e j * size_of (h.turn.dtype j)) in
    let fewer = values_fewer x h.search in
    let g = group_bytes s.split_every (value_chunk_bytes x + chunk_bytes x.made) in
    record {
      writes = refl;
      reads = pair_reads given first source before;
      fits = pair_fits arrays s x source (source + 2 + 1) i (merged r i) r rs (Some (source + 2)) h kp (int_places arrays s x source i (r ∷ rs) h)
          ((λ q. absurd (omega arith)), kv.grid ∙ sym kp.grid, kv.dtype ∙ sym h.values.dtype) (more_squeezed s (sought_axes x.axis) x.from x.made i r rs h.setting.several h.turn);
      need = rw (
        value_room_of arrays source (source + 2 + 1) (typed x.from.dtype i) (merged r i) h.values kp,
        room_of arrays source (typed x.from.dtype i) h.values,
        room_of arrays (source + 1) i h.places,
        room_of arrays (source + 2) (typed x.from.dtype (merged r i)) kv,
        room_of arrays (source + 2 + 1) (merged r i) kp,
        v,
        p,
      ) (omega (arith, g, fewer));
      tasks = chunks_in arrays (source + 2 + 1) (merged r i) kp;
    }

-- the numbers go on
pub two_on : (arrays : List ArrayInfo) (n : ℕ) (is : List NodeInfo) → HaveInfos arrays (n + 1 + 1) is → HaveInfos arrays (n + 2) is
two_on arrays n is h = let e : n + 1 + 1 ≡ n + 2 = omega arith in subst (λ (m : ℕ). HaveInfos arrays m is) e h

pub next_hunt : (arrays : List ArrayInfo) (s : Setting) (x : Search) (source : ℕ) (i : NodeInfo) (r : Round) (rs : List Round) → IsHunt arrays s x source i (r ∷ rs)
    → HasInfo arrays (source + 2) (typed x.from.dtype (merged r i)) → HasInfo arrays (source + 2 + 1) (merged r i) → IsHunt arrays s x (source + 2) (merged r i) rs
next_hunt arrays s x source i r rs h kv kp = record {
  setting = h.setting;
  search = h.search;
  turn = next_turn s (sought_axes x.axis) x.from x.made i r rs h.setting.several h.turn;
  values = kv;
  places = kp;
}

pub pairs_hold : (arrays : List ArrayInfo) (s : Setting) (x : Search) (given : List ℕ) (first source : ℕ) (i : NodeInfo) (rs : List Round) → first ≤ source → IsHunt arrays s x source i rs
    → HaveInfos arrays (source + 2) (all_made (pair_merges s x source (typed x.from.dtype i) i rs)) → AreSteps arrays s.reserved given first (source + 2) (pair_merges s x source (typed x.from.dtype i) i rs)
pairs_hold arrays s x given first source i [] before h k = tt
pairs_hold arrays s x given first source i (r ∷ []) before h k = (last_pair arrays s x given first source i r before h k.0, tt)
pairs_hold arrays s x given first source i (r ∷ q ∷ rs) before h k = (
  more_pair arrays s x given first source i r (q ∷ rs) before h k.0 k.1.0,
  pairs_hold arrays s x given first (source + 2) (merged r i) (q ∷ rs) (omega arith) (next_hunt arrays s x source i r (q ∷ rs) h k.0 k.1.0) (two_on arrays (source + 2) _ k.1.1),
)

-- ---- the search in chunks

abbrev pub first_places : Search → NodeInfo
first_places x = first_partial Int64 (sought_axes x.axis) x.from

hunt_of : (arrays : List ArrayInfo) (s : Setting) (x : Search) (rs : List Round) → IsSetting s → IsSearch x → IsTurn s (sought_axes x.axis) x.from x.made (first_places x) rs
    → HasInfo arrays s.first (typed x.from.dtype (first_places x)) → HasInfo arrays (s.first + 1) (first_places x) → IsHunt arrays s x s.first (first_places x) rs
hunt_of arrays s x rs k h t v p = record { setting = k; search = h; turn = t; values = v; places = p }

pub search_turn : (s : Setting) (x : Search) → IsSetting s → IsSearch x → IsTurn s (sought_axes x.axis) x.from x.made (first_places x) (reduction_rounds (sought_axes x.axis) s.split_every x.from)
search_turn s x k h = record {
  stands = first_stands Int64 (sought_axes x.axis) x.from h.from.ranks;
  dtype = sym h.places;
  rule = of_reduction Int64 (sought_axes x.axis) s.split_every x.from k.several h.from.ranks;
}

-- the groups of a search are those of its axes
pub same_groups : (x : Search) → IsSearch x → place_groups x.axis (grid_of x.from) ≡ chunk_groups (sought_axes x.axis) (grid_of x.from)
same_groups x h = let r = h.from.ranks in let s = h.from.short in groups_sought x.axis x.from.chunk (omega arith)

pair_fold_fits : (arrays : List ArrayInfo) (s : Setting) (x : Search) (out : ℕ) (o : NodeInfo) (rs : List Round) (values : Option ℕ) → IsSearch x → IsTurn s (sought_axes x.axis) x.from x.made (first_places x) rs
    → HasInfo arrays x.source x.from → HasInfo arrays out o → o ≡ written_before rs (first_places x) x.made → StoresValues arrays values x.source out
    → Fits arrays (PairFold x.least x.axis x.source values out)
pair_fold_fits arrays s x out o rs values h t i k e stored = (
  subst (λ (g : RegularGrid). HasPlaceAxis x.axis g.shape) (sym i.grid) h.along,
  record {
    result = subst (λ (g : RegularGrid). IsSqueezed (partial_grid (place_groups x.axis g) g) (grid_at arrays out)) (sym i.grid)
        (subst (λ (gs : Groups). IsSqueezed (partial_grid gs (grid_of x.from)) (grid_at arrays out)) (sym (same_groups x h))
        (subst (λ (g : RegularGrid). IsSqueezed (partial_grid (chunk_groups (sought_axes x.axis) (grid_of x.from)) (grid_of x.from)) g) (sym (k.grid ∙ ap grid_of e))
        (first_squeezed Int64 (sought_axes x.axis) s.split_every x.from x.made rs h.from.ranks h.result t.rule)));
    places = k.dtype ∙ (ap (λ (n : NodeInfo). n.dtype) e ∙ written_int rs);
    stored = stored;
    enough = subst (λ (g : RegularGrid). HasElements (place_groups x.axis g) g.shape) (sym i.grid)
        (subst (λ (gs : Groups). HasElements gs x.from.dims) (sym (same_groups x h)) (elements_same (has_axis (sought_axes x.axis)) 0 x.from.dims x.from.chunk x.from.dims (sym h.from.ranks) h.enough));
  },
)
  where
    written_int : (rs : List Round) → (written_before rs (first_places x) x.made).dtype ≡ Int64
    written_int [] = h.places
    written_int (r ∷ rs) = refl

fold_reads : (given : List ℕ) (source first next : ℕ) → Contains given source → All (IsGiven given first next) (source ∷ [])
fold_reads given source first next c zero d l = inl c
fold_reads given source first next c (suc n) d l = absurd (omega arith)

only_pair : (arrays : List ArrayInfo) (s : Setting) (x : Search) → IsSetting s → IsSearch x → IsTurn s (sought_axes x.axis) x.from x.made (first_places x) [] → HasInfo arrays x.source x.from → HasInfo arrays s.first x.made
    → IsStep arrays s.reserved (x.source ∷ []) s.first s.first
    (record { op = PairFold x.least x.axis x.source None s.first; values = None; made = x.made; need = pair_fold_need s.reserved (chunk_bytes x.from) (value_chunk_bytes x) (chunk_bytes x.made) })
only_pair arrays s x k h t i o = record {
  writes = refl;
  reads = fold_reads (x.source ∷ []) x.source s.first s.first (contains_first x.source []);
  fits = pair_fold_fits arrays s x s.first x.made [] None h t i o refl tt;
  need = rw (value_room_of arrays x.source s.first x.from x.made i o, room_of arrays x.source x.from i, room_of arrays s.first x.made o) (omega arith);
  tasks = chunks_in arrays s.first x.made o;
}

first_pair : (arrays : List ArrayInfo) (s : Setting) (x : Search) (r : Round) (rs : List Round) → IsSetting s → IsSearch x → IsTurn s (sought_axes x.axis) x.from x.made (first_places x) (r ∷ rs)
    → HasInfo arrays x.source x.from → HasInfo arrays s.first (typed x.from.dtype (first_places x)) → HasInfo arrays (s.first + 1) (first_places x)
    → IsStep arrays s.reserved (x.source ∷ []) s.first s.first
    (record {
      op = PairFold x.least x.axis x.source (Some s.first) (s.first + 1);
      values = Some (typed x.from.dtype (first_places x));
      made = first_places x;
      need = pair_fold_need s.reserved (chunk_bytes x.from) (value_chunk_bytes x) (chunk_bytes x.made);
    })
first_pair arrays s x r rs k h t i v p =
    let e = same_chunk_size (sought_axes x.axis) x.from x.made (first_places x) t.stands h.result in
    let ev : chunk_bytes (typed x.from.dtype (first_places x)) ≡ value_chunk_bytes x = (λ j. e j * size_of x.from.dtype) in
    let ep : chunk_bytes (first_places x) ≡ chunk_bytes x.made = (λ j. e j * size_of (t.dtype j)) in
    let fewer = values_fewer x h in
    record {
      writes = refl;
      reads = fold_reads (x.source ∷ []) x.source s.first s.first (contains_first x.source []);
      fits = pair_fold_fits arrays s x (s.first + 1) (first_places x) (r ∷ rs) (Some s.first) h t i p refl ((λ q. absurd (omega arith)), v.grid ∙ sym p.grid, v.dtype ∙ sym i.dtype);
      need = rw (value_room_of arrays x.source (s.first + 1) x.from (first_places x) i p, room_of arrays x.source x.from i, room_of arrays s.first (typed x.from.dtype (first_places x)) v, room_of arrays (s.first + 1) (first_places x) p, ev, ep)
          (omega (arith, fewer));
      tasks = chunks_in arrays (s.first + 1) (first_places x) p;
    }

found_hold : (arrays : List ArrayInfo) (s : Setting) (x : Search) (rs : List Round) → IsSetting s → IsSearch x → IsTurn s (sought_axes x.axis) x.from x.made (first_places x) rs → HasInfo arrays x.source x.from
    → HaveInfos arrays s.first (all_made (pairs_found s x (typed x.from.dtype (first_places x)) (first_places x) rs))
    → AreSteps arrays s.reserved (x.source ∷ []) s.first s.first (pairs_found s x (typed x.from.dtype (first_places x)) (first_places x) rs)
found_hold arrays s x [] k h t i o = (only_pair arrays s x k h t i o.0, tt)
found_hold arrays s x (r ∷ rs) k h t i o = (
  first_pair arrays s x r rs k h t i o.0 o.1.0,
  pairs_hold arrays s x (x.source ∷ []) s.first s.first (first_places x) (r ∷ rs) (omega arith) (hunt_of arrays s x (r ∷ rs) k h t o.0 o.1.0) (two_on arrays s.first _ o.1.1),
)

pub search_holds : (arrays : List ArrayInfo) (s : Setting) (x : Search) → IsSetting s → IsSearch x → HasInfo arrays x.source x.from → HaveInfos arrays s.first (all_made (search_steps s x))
    → AreSteps arrays s.reserved (x.source ∷ []) s.first s.first (search_steps s x)
search_holds arrays s x k h i o = found_hold arrays s x (reduction_rounds (sought_axes x.axis) s.split_every x.from) k h (search_turn s x k h) i o

-- ---- the last array

pub pairs_last : (arrays : List ArrayInfo) (s : Setting) (x : Search) (source : ℕ) (i : NodeInfo) (r : Round) (rs : List Round) → HaveInfos arrays (source + 2) (all_made (pair_merges s x source (typed x.from.dtype i) i (r ∷ rs)))
    → HasInfo arrays (last_target (pair_merges s x source (typed x.from.dtype i) i (r ∷ rs))) x.made
pairs_last arrays s x source i r [] k = k.0
pairs_last arrays s x source i r (q ∷ rs) k = pairs_last arrays s x (source + 2) (merged r i) q rs (two_on arrays (source + 2) _ k.1.1)

found_last : (arrays : List ArrayInfo) (s : Setting) (x : Search) (i : NodeInfo) (rs : List Round) → HaveInfos arrays s.first (all_made (pairs_found s x (typed x.from.dtype i) i rs))
    → HasInfo arrays (last_target (pairs_found s x (typed x.from.dtype i) i rs)) x.made
found_last arrays s x i [] k = k.0
found_last arrays s x i (r ∷ rs) k = pairs_last arrays s x s.first i r rs (two_on arrays s.first _ k.1.1)

pub search_last : (arrays : List ArrayInfo) (s : Setting) (x : Search) → HaveInfos arrays s.first (all_made (search_steps s x)) → HasInfo arrays (last_target (search_steps s x)) x.made
search_last arrays s x k = found_last arrays s x (first_places x) (reduction_rounds (sought_axes x.axis) s.split_every x.from) k

pairs_number : (s : Setting) (x : Search) (source : ℕ) (i : NodeInfo) (r : Round) (rs : List Round)
    → last_target (pair_merges s x source (typed x.from.dtype i) i (r ∷ rs)) + 1 ≡ source + 2 + length (all_made (pair_merges s x source (typed x.from.dtype i) i (r ∷ rs)))
pairs_number s x source i r [] = refl
pairs_number s x source i r (q ∷ rs) = let e = pairs_number s x (source + 2) (merged r i) q rs in omega (arith, e)

found_number : (s : Setting) (x : Search) (i : NodeInfo) (rs : List Round)
    → last_target (pairs_found s x (typed x.from.dtype i) i rs) + 1 ≡ s.first + length (all_made (pairs_found s x (typed x.from.dtype i) i rs))
found_number s x i [] = refl
found_number s x i (r ∷ rs) = let e = pairs_number s x s.first i r rs in omega (arith, e)

pub search_number : (s : Setting) (x : Search) → last_target (search_steps s x) + 1 ≡ s.first + length (all_made (search_steps s x))
search_number s x = found_number s x (first_places x) (reduction_rounds (sought_axes x.axis) s.split_every x.from)
