-- Walks over chunks: which are equal, each once, and the chunks of several.
use Rattle.std.proofs.Common.{◌≡◌, ◌≢◌, ◌⊎◌, inl, inr, ℕ, zero, suc, ◌<◌, ◌+◌, ◌-◌, Bool, true, false, ◌||◌, List, [], ◌∷◌, ◌++◌, length, map, take, drop, All, Contains, get_or, refl, ap, sym, ◌∙◌, subst, arith, if◌then◌else◌}
use Rattle.std.specs.Prelude.{bytes_eq, AllPairs}
use Rattle.std.specs.List.{list_any}
use Rattle.std.specs.Cmp.Lexicographic.{same_text, other_text}
use Rattle.std.proofs.Math.Seq.{get_or-append_right}
use Rattle.std.proofs.lemmas.Bool.{cases_lt}
use Rattle.std.proofs.lemmas.Bool.Decides.{eqb_tells}
use Rattle.std.proofs.lemmas.List.{get_or-map, length-map, length-append, get_or_append_left, drop_more, take_more, append_assoc}
use Rattle.std.proofs.lemmas.List.Elements.{All-contains, All-head, All-tail, All-cons, All-nil, All-weaker, Contains-append_left, Contains-append_right, Contains-append_cases, All-contains_itself}
use Rattle.std.proofs.lemmas.List.Folds.{list_any-append}
use Rattle.std.proofs.lemmas.List.Kept.{AllPairs-from_increasing}
use Rattle.cu_shape.specs.Index.{place_of}
use Rattle.cu_grid.specs.Counts.{counts_of}
use Rattle.cu_grid.specs.Cover.{Meets, covering}
use Rattle.cu_grid.specs.Grid.{IsGrid}
use Rattle.cu_grid.proofs.Meeting.{exact_of, covers_in_order}
use Rattle.cu_op.specs.declared.cells.Cell.{Cell}
use Rattle.cu_op.specs.declared.layout.ArrayInfo.{ArrayInfo}
use Rattle.cu_op.specs.declared.walks.Walk.{Walk}
use Rattle.cu_op.specs.Arrays.{grid_at}
use Rattle.cu_op.specs.Chunks.{cell}
use Rattle.cu_op.specs.Walks.{IsWalkOver, walk_cells, cells_of_walks, same_walk, new_walks, EachOnce}
use Rattle.cu_op.proofs.CellsOfTasks.{same_array, same_coord, map_contains}
use Rattle.cu_op.proofs.Members.{bool_cases}

-- ---- equal walks

numbers_tell : (xs ys : List ℕ) → ((bytes_eq xs ys ≡ true) × (xs ≡ ys)) ⊎ ((bytes_eq xs ys ≡ false) × (xs ≢ ys))
numbers_tell xs ys = elim (bool_cases (bytes_eq xs ys)) [ inl t ↦ inl (t, same_text xs ys (sym t)) | inr f ↦ inr (f, other_text xs ys (sym f)) ]

pub walk_tells : (v w : Walk) → ((same_walk v w ≡ true) × (v ≡ w)) ⊎ ((same_walk v w ≡ false) × (v ≢ w))
walk_tells v w =
    elim (eqb_tells v.array w.array) [
      | inr a ↦ inr (rw a.0 refl, λ e. a.1 (ap (λ (x : Walk). x.array) e))
      | inl a ↦ elim (numbers_tell v.region.lo w.region.lo) [
        | inr l ↦ inr (rw (a.0, l.0) refl, λ e. l.1 (ap (λ (x : Walk). x.region.lo) e))
        | inl l ↦ elim (numbers_tell v.region.hi w.region.hi) [
          | inr h ↦ inr (rw (a.0, l.0, h.0) refl, λ e. h.1 (ap (λ (x : Walk). x.region.hi) e))
          | inl h ↦ inl (rw (a.0, l.0, h.0) refl, whole v w a.1 l.1 h.1)
        ]
      ]
    ]
  where
    whole : (v w : Walk) → v.array ≡ w.array → v.region.lo ≡ w.region.lo → v.region.hi ≡ w.region.hi → v ≡ w
    whole v w a l h = λ i. record { array = a i; region = record { lo = l i; hi = h i } }

-- whether an equal walk is among those of a list
pub among_walks : (ws : List Walk) (w : Walk) → Contains ws w → list_any (λ v. same_walk v w) ws ≡ true
among_walks [] w (k, l, e) = absurd (omega arith)
among_walks (x ∷ xs) w (zero, l, e) = elim (walk_tells x w) [ inl p ↦ rw p.0 refl | inr p ↦ absurd (p.1 e) ]
among_walks (x ∷ xs) w (suc k, l, e) =
    let rest = among_walks xs w (k, (let b : suc k < suc (length xs) = l in omega arith), e) in
    elim (walk_tells x w) [ inl p ↦ rw p.0 refl | inr p ↦ rw (p.0, rest) refl ]

-- each walk is among those that are kept
kept_any : (xs seen : List Walk) (w : Walk) → Contains xs w → list_any (λ v. same_walk v w) seen ≡ false → Contains (new_walks xs seen) w
kept_any [] seen w (k, l, e) n = absurd (omega arith)
kept_any (x ∷ xs) seen w h n =
    elim (walk_tells x w) [
      | inl p ↦
          let fresh : list_any (λ v. same_walk v x) seen ≡ false = rw p.1 n in
          rw fresh (0, omega arith, p.1)
      | inr p ↦
          let rest = behind xs x w h p.1 in
          let longer : list_any (λ v. same_walk v w) (seen ++ x ∷ []) ≡ false = rw (list_any-append, n, p.0) refl in
          let ih = kept_any xs (seen ++ x ∷ []) w rest longer in
          elim (bool_cases (list_any (λ v. same_walk v x) seen)) [
            | inl t ↦ rw t ih
            | inr f ↦ rw f (suc ih.0, (let l = ih.1 in omega arith), ih.2)
          ]
    ]
  where
    behind : (xs : List Walk) (x w : Walk) → Contains (x ∷ xs) w → x ≢ w → Contains xs w
    behind xs x w (zero, l, e) n = absurd (n e)
    behind xs x w (suc k, l, e) n = (k, (let b : suc k < suc (length xs) = l in omega arith), e)

pub kept_walk : (xs : List Walk) (w : Walk) → Contains xs w → Contains (new_walks xs []) w
kept_walk xs w h = kept_any xs [] w h refl

-- what holds of each walk holds of those that are kept
pub All-new_walks : (P : Walk → Type 0) (xs seen : List Walk) → All P xs → All P (new_walks xs seen)
All-new_walks P [] seen h = All-nil P
All-new_walks P (x ∷ xs) seen h =
    let rest = All-new_walks P xs (seen ++ x ∷ []) (All-tail P x xs h) in
    elim (list_any (λ v. same_walk v x) seen) as (λ t. All P (if t then new_walks xs (seen ++ x ∷ []) else x ∷ new_walks xs (seen ++ x ∷ []))) [
      | true ↦ rest
      | false ↦ All-cons P x _ (All-head P x xs h) rest
    ]

-- what is kept doesn't stand in `seen`
fresh_all : (xs seen : List Walk) → All (λ w. list_any (λ v. same_walk v w) seen ≡ false) (new_walks xs seen)
fresh_all [] seen = All-nil (λ w. list_any (λ v. same_walk v w) seen ≡ false)
fresh_all (x ∷ xs) seen =
    let P : Walk → Type 0 = λ w. list_any (λ v. same_walk v w) seen ≡ false in
    let rest : All P (new_walks xs (seen ++ x ∷ [])) = All-weaker (λ w. list_any (λ v. same_walk v w) (seen ++ x ∷ []) ≡ false) P (λ w h. shorter seen (x ∷ []) w h) (new_walks xs (seen ++ x ∷ [])) (fresh_all xs (seen ++ x ∷ [])) in
    elim (bool_cases (list_any (λ v. same_walk v x) seen)) [
      | inl t ↦ rw t rest
      | inr f ↦ rw f (All-cons P x (new_walks xs (seen ++ x ∷ [])) f rest)
    ]
  where
    or_left : (a b : Bool) → (a || b) ≡ false → a ≡ false
    or_left false b h = refl
    or_left true b h = cc

    shorter : (seen more : List Walk) (w : Walk) → list_any (λ v. same_walk v w) (seen ++ more) ≡ false → list_any (λ v. same_walk v w) seen ≡ false
    shorter seen more w h = or_left (list_any (λ v. same_walk v w) seen) (list_any (λ v. same_walk v w) more) (sym (list_any-append (λ v. same_walk v w) seen more) ∙ h)

-- walks no two of which are equal
abbrev pub AreDifferent : List Walk → Type 0
AreDifferent [] = Unit {0}
AreDifferent (w ∷ ws) = All (λ v. w ≢ v) ws × AreDifferent ws

last_apart : (seen : List Walk) (x w : Walk) → list_any (λ v. same_walk v w) (seen ++ x ∷ []) ≡ false → x ≢ w
last_apart seen x w h e =
    let there : list_any (λ v. same_walk v w) (seen ++ x ∷ []) ≡ true = among_walks (seen ++ x ∷ []) w (Contains-append_right seen (x ∷ []) w (0, omega arith, e)) in cc

pub different : (xs seen : List Walk) → AreDifferent (new_walks xs seen)
different [] seen = tt
different (x ∷ xs) seen =
    let apart : All (λ w. x ≢ w) (new_walks xs (seen ++ x ∷ [])) =
    All-weaker (λ w. list_any (λ v. same_walk v w) (seen ++ x ∷ []) ≡ false) (λ w. x ≢ w) (λ w h. last_apart seen x w h) (new_walks xs (seen ++ x ∷ [])) (fresh_all xs (seen ++ x ∷ [])) in
    elim (bool_cases (list_any (λ v. same_walk v x) seen)) [
      | inl t ↦ rw t (different xs (seen ++ x ∷ []))
      | inr f ↦ rw f (apart, different xs (seen ++ x ∷ []))
    ]

-- a round that keeps each walk once, at a walk that stands before and at one that doesn't
skip : (w : Walk) (rest seen : List Walk) → list_any (λ v. same_walk v w) seen ≡ true → new_walks (w ∷ rest) seen ≡ new_walks rest (seen ++ w ∷ [])
skip w rest seen e = rw e refl

keep : (w : Walk) (rest seen : List Walk) → list_any (λ v. same_walk v w) seen ≡ false → new_walks (w ∷ rest) seen ≡ w ∷ new_walks rest (seen ++ w ∷ [])
keep w rest seen e = rw e refl

pub pass_walk : (ws kept : List Walk) (at : ℕ) (x : Walk) → at < length ws → x ≡ get_or ws at x → list_any (λ v. same_walk v x) (take at ws) ≡ true
    → kept ++ new_walks (drop at ws) (take at ws) ≡ new_walks ws [] → kept ++ new_walks (drop (at + 1) ws) (take (at + 1) ws) ≡ new_walks ws []
pass_walk ws kept at x h is e so =
    let step : new_walks (drop at ws) (take at ws) ≡ new_walks (drop (at + 1) ws) (take (at + 1) ws) =
    rw (drop_more ws at x h, take_more ws at x h) (skip (get_or ws at x) (drop (at + 1) ws) (take at ws) (subst (λ (w : Walk). list_any (λ v. same_walk v w) (take at ws) ≡ true) is e)) in
    ap (λ rest. kept ++ rest) (sym step) ∙ so

pub keep_walk : (ws kept : List Walk) (at : ℕ) (x y : Walk) → at < length ws → x ≡ get_or ws at x → y ≡ get_or ws at y → list_any (λ v. same_walk v x) (take at ws) ≡ false
    → kept ++ new_walks (drop at ws) (take at ws) ≡ new_walks ws [] → (kept ++ y ∷ []) ++ new_walks (drop (at + 1) ws) (take (at + 1) ws) ≡ new_walks ws []
keep_walk ws kept at x y h is there e so =
    let same : y ≡ get_or ws at x = there ∙ default ws at y x h in
    let step : new_walks (drop at ws) (take at ws) ≡ get_or ws at x ∷ new_walks (drop (at + 1) ws) (take (at + 1) ws) =
    rw (drop_more ws at x h, take_more ws at x h) (keep (get_or ws at x) (drop (at + 1) ws) (take at ws) (subst (λ (w : Walk). list_any (λ v. same_walk v w) (take at ws) ≡ false) is e)) in
    append_assoc kept (y ∷ []) (new_walks (drop (at + 1) ws) (take (at + 1) ws)) ∙ ap (λ v. kept ++ v ∷ new_walks (drop (at + 1) ws) (take (at + 1) ws)) same ∙ ap (λ rest. kept ++ rest) (sym step) ∙ so
  where
    default : (xs : List Walk) (k : ℕ) (c d : Walk) → k < length xs → get_or xs k c ≡ get_or xs k d
    default [] k c d h = absurd (omega arith)
    default (x ∷ xs) zero c d h = refl
    default (x ∷ xs) (suc k) c d h = default xs k c d (omega arith)

-- ---- the chunks of walks

module _ (arrays : List ArrayInfo) where
  -- a chunk of a walk meets its region, and each that does is one
  mapped_coord : (a : ℕ) (coords : List (List ℕ)) (c : Cell) → Contains (map (cell a) coords) c → (c.array ≡ a) × Contains coords c.coord
  mapped_coord a coords c (k, l, e) =
      let below : k < length coords = rw length-map at l in
      let same : cell a (get_or coords k c.coord) ≡ c = sym (get_or-map (cell a) coords k c.coord c below) ∙ e in
      (sym (same_array _ _ same), (k, below, same_coord _ _ same))

  pub walk_meets : (w : Walk) (c : Cell) → IsGrid (grid_at arrays w.array) → IsWalkOver arrays w → Contains (walk_cells arrays w) c
      → (c.array ≡ w.array) × Meets (grid_at arrays w.array) w.region.lo w.region.hi c.coord
  walk_meets w c ok over h =
      let m = mapped_coord w.array (covering (grid_at arrays w.array).chunk w.region.lo w.region.hi) c h in
      (m.0, (exact_of (grid_at arrays w.array) w.region.lo w.region.hi _ ok over.1 refl c.coord).0 m.1)

  pub meets_walk : (w : Walk) (coord : List ℕ) → IsGrid (grid_at arrays w.array) → IsWalkOver arrays w → Meets (grid_at arrays w.array) w.region.lo w.region.hi coord
      → Contains (walk_cells arrays w) (cell w.array coord)
  meets_walk w coord ok over m = map_contains (cell w.array) _ coord ((exact_of (grid_at arrays w.array) w.region.lo w.region.hi _ ok over.1 refl coord).1 m)

  -- a chunk of several walks is a chunk of one of them
  pub one_walk : (ws : List Walk) (c : Cell) → Contains (cells_of_walks arrays ws) c → (w : Walk) × Contains ws w × Contains (walk_cells arrays w) c
  one_walk [] c (k, l, e) = absurd (omega arith)
  one_walk (w ∷ ws) c h =
      elim (Contains-append_cases (walk_cells arrays w) (cells_of_walks arrays ws) c h) [
        | inl here ↦ (w, (0, omega arith, refl), here)
        | inr there ↦ let r = one_walk ws c there in (r.0, (suc r.1.0, (let l = r.1.1 in omega arith), r.1.2), r.2)
      ]

  pub from_walk : (ws : List Walk) (w : Walk) (c : Cell) → Contains ws w → Contains (walk_cells arrays w) c → Contains (cells_of_walks arrays ws) c
  from_walk [] w c (k, l, e) h = absurd (omega arith)
  from_walk (x ∷ ws) w c (zero, l, e) h = Contains-append_left (walk_cells arrays x) (cells_of_walks arrays ws) c (subst (λ (v : Walk). Contains (walk_cells arrays v) c) (sym e) h)
  from_walk (x ∷ ws) w c (suc k, l, e) h =
      Contains-append_right (walk_cells arrays x) (cells_of_walks arrays ws) c (from_walk ws w c (k, (let b : suc k < suc (length ws) = l in omega arith), e) h)

  -- what holds of each chunk of each walk
  pub All-cells : (P : Cell → Type 0) (ws : List Walk) → All (λ w. (c : Cell) → Contains (walk_cells arrays w) c → P c) ws → All P (cells_of_walks arrays ws)
  All-cells P ws h k d l =
      let r = one_walk ws (get_or (cells_of_walks arrays ws) k d) (All-contains_itself (cells_of_walks arrays ws) k d l) in
      All-contains (λ w. (c : Cell) → Contains (walk_cells arrays w) c → P c) ws r.0 h r.1 (get_or (cells_of_walks arrays ws) k d) r.2

  -- ---- each chunk once

  mapped_once : (a : ℕ) (coords : List (List ℕ)) (f : List ℕ → ℕ) → AllPairs (λ x y. x < y) (map f coords) → EachOnce (map (cell a) coords)
  mapped_once a coords f rising i j d li lj e =
      let bi : i < length coords = rw length-map at li in
      let bj : j < length coords = rw length-map at lj in
      let same : get_or coords i d.coord ≡ get_or coords j d.coord =
      same_coord _ _ (sym (get_or-map (cell a) coords i d.coord d bi) ∙ e ∙ get_or-map (cell a) coords j d.coord d bj) in
      let fi = get_or-map f coords i d.coord 0 bi in
      let fj = get_or-map f coords j d.coord 0 bj in
      let equal : get_or (map f coords) i 0 ≡ get_or (map f coords) j 0 = fi ∙ ap f same ∙ sym fj in
      let mi : i < length (map f coords) = rw length-map bi in
      let mj : j < length (map f coords) = rw length-map bj in
      elim (cases_lt i j) [
        | inl less ↦ let r = rising i j 0 less mj in absurd (omega (arith, r, equal))
        | inr more ↦ elim (cases_lt j i) [
          | inl less ↦ let r = rising j i 0 less mi in absurd (omega (arith, r, equal))
          | inr other ↦ omega (arith, more, other)
        ]
      ]

  pub walk_once : (w : Walk) → IsGrid (grid_at arrays w.array) → IsWalkOver arrays w → EachOnce (walk_cells arrays w)
  walk_once w ok over =
      mapped_once w.array (covering (grid_at arrays w.array).chunk w.region.lo w.region.hi) (place_of (counts_of (grid_at arrays w.array).shape (grid_at arrays w.array).chunk))
      (AllPairs-from_increasing _ (covers_in_order (grid_at arrays w.array) w.region.lo w.region.hi ok over.1))

  joined_once : (xs ys : List Cell) → EachOnce xs → EachOnce ys → ((c : Cell) → Contains xs c → Contains ys c → ⊥) → EachOnce (xs ++ ys)
  joined_once xs ys ox oy apart i j d li lj e =
      let n : length (xs ++ ys) ≡ length xs + length ys = length-append xs ys in
      elim (cases_lt i (length xs)) [
        | inl fi ↦ elim (cases_lt j (length xs)) [
          | inl fj ↦ ox i j d fi fj (sym (get_or_append_left xs ys d i fi) ∙ e ∙ get_or_append_left xs ys d j fj)
          | inr bj ↦ absurd (apart (get_or xs i d) (All-contains_itself xs i d fi)
              (j - length xs, omega (arith, n, lj, bj), sym (get_or-append_right xs ys j (get_or xs i d) bj) ∙ default (xs ++ ys) j (get_or xs i d) d lj ∙ sym e ∙ get_or_append_left xs ys d i fi))
        ]
        | inr bi ↦ elim (cases_lt j (length xs)) [
          | inl fj ↦ absurd (apart (get_or xs j d) (All-contains_itself xs j d fj)
              (i - length xs, omega (arith, n, li, bi), sym (get_or-append_right xs ys i (get_or xs j d) bi) ∙ default (xs ++ ys) i (get_or xs j d) d li ∙ e ∙ get_or_append_left xs ys d j fj))
          | inr bj ↦
              let same = oy (i - length xs) (j - length xs) d (omega (arith, n, li, bi)) (omega (arith, n, lj, bj)) (sym (get_or-append_right xs ys i d bi) ∙ e ∙ get_or-append_right xs ys j d bj) in
              omega (arith, same, bi, bj)
        ]
      ]
    where
      default : (xs : List Cell) (k : ℕ) (c d : Cell) → k < length xs → get_or xs k c ≡ get_or xs k d
      default [] k c d h = absurd (omega arith)
      default (x ∷ xs) zero c d h = refl
      default (x ∷ xs) (suc k) c d h = default xs k c d (omega arith)

  -- two walks have no chunk in common
  abbrev pub AreApart : Walk → Walk → Type 0
  AreApart v w = (c : Cell) → Contains (walk_cells arrays v) c → Contains (walk_cells arrays w) c → ⊥

  pub cells_once : (ws : List Walk) → All (λ w. IsGrid (grid_at arrays w.array) × IsWalkOver arrays w) ws → ((v w : Walk) → Contains ws v → Contains ws w → v ≢ w → AreApart v w)
      → AreDifferent ws → EachOnce (cells_of_walks arrays ws)
  cells_once [] over apart other = λ i j d li lj e. absurd (let w : i < 0 = li in omega arith)
  cells_once (w ∷ ws) over apart other =
      let head = All-head (λ v. IsGrid (grid_at arrays v.array) × IsWalkOver arrays v) w ws over in
      joined_once (walk_cells arrays w) (cells_of_walks arrays ws) (walk_once w head.0 head.1)
      (cells_once ws (All-tail (λ v. IsGrid (grid_at arrays v.array) × IsWalkOver arrays v) w ws over) (λ u v hu hv. apart u v (further ws w u hu) (further ws w v hv)) other.1)
      (λ c here there.
      let r = one_walk ws c there in
      apart w r.0 (0, omega arith, refl) (further ws w r.0 r.1) (All-contains (λ v. w ≢ v) ws r.0 other.0 r.1) c here r.2)
    where
      further : (ws : List Walk) (w v : Walk) → Contains ws v → Contains (w ∷ ws) v
      further ws w v (k, l, e) = (suc k, omega arith, e)
