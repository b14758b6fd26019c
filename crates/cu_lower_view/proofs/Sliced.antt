-- The runs of an index without a wrong entry.
use Rattle.std.proofs.Common.{◌≡◌, ◌≢◌, ◌∙◌, ℕ, zero, suc, ◌+◌, ◌-◌, ◌<◌, ◌||◌, ◌==◌, not, Bool, true, false, ℤ, pos, negsuc, ◌+ℤ◌, ◌≤ℤ◌, List, [], ◌∷◌, ◌++◌, All, length, map, take, drop, get_or, Option, Some, None, refl, ap, sym, subst, arith, if◌then◌else◌}
use Rattle.std.specs.Ordering.{int_eq}
use Rattle.std.proofs.lemmas.Bool.{ltb-true, false≢true}
use Rattle.std.proofs.lemmas.Bool.Decides.{Decides-int_eq}
use Rattle.std.proofs.lemmas.Int.{ints}
use Rattle.std.proofs.lemmas.List.{length-append, length-map, length-take, length-drop, map-append, append_assoc, get_or-append-add}
use Rattle.std.proofs.lemmas.List.Elements.{All-nil, All-cons, All-append, filter-append}
use Rattle.cu_shape.specs.Slice.{at_least_zero, IsIndex, index_taken, first_of, count_of}
use Rattle.cu_shape.specs.declared.slice.Run.{Run}
use Rattle.cu_shape.proofs.Runs.{taken_inside}
use Rattle.cu_node.specs.declared.index_item.IndexItem.{IndexItem}
use Rattle.cu_node.specs.declared.index_item.IndexItem.TheVariants.{At, Slice, New, Ellipsis}
use Rattle.cu_origin.specs.Fits.{AreRuns, without_ones, FitsSlice}
use Rattle.cu_origin.specs.Pull.{counts_of_runs}
use Rattle.cu_typing_view.specs.Entries.{width_of, is_ellipsis, is_index, step_of, count_taken, is_wrong, first_wrong, sizes_left, index_shape}
use Rattle.cu_lower_view.specs.Runs.{whole_run, single_run, slice_run, runs_left, index_runs, axis_taken, axes_taken}

-- ---- the runs take indices of their axes

pub runs_whole : (ns : List ℕ) → AreRuns (map whole_run ns) ns
runs_whole [] = tt
runs_whole (n ∷ ns) = (λ k l. (omega (arith, ints), omega (arith, ints)), runs_whole ns)

runs_append : (runs more : List Run) (k : ℕ) (ns : List ℕ) → AreRuns runs (take k ns) → AreRuns more (drop k ns) → AreRuns (runs ++ more) ns
runs_append [] more zero ns a b = b
runs_append [] more (suc k) [] a b = b
runs_append [] more (suc k) (n ∷ ns) a b = absurd a
runs_append (run ∷ runs) more zero ns a b = absurd a
runs_append (run ∷ runs) more (suc k) [] a b = absurd a
runs_append (run ∷ runs) more (suc k) (n ∷ ns) a b = (a.0, runs_append runs more k ns a.1 b)

pub length-runs : (runs : List Run) (ns : List ℕ) → AreRuns runs ns → length runs ≡ length ns
length-runs [] [] r = refl
length-runs [] (n ∷ ns) r = absurd r
length-runs (run ∷ runs) [] r = absurd r
length-runs (run ∷ runs) (n ∷ ns) r = let l = length-runs runs ns r.1 in omega arith

natural_same : (z : ℤ) → pos 0 ≤ℤ z → pos (at_least_zero z) ≡ z
natural_same (pos x) h = refl
natural_same (negsuc x) h = absurd (omega (arith, ints))

single_inside : (i : ℤ) (n k : ℕ) → is_index i n ≡ true → k < 1 → IsIndex (index_taken (single_run i n) k) n
single_inside (pos x) n zero h l = let b = ltb-true x n h in (omega (arith, ints), omega (arith, ints))
single_inside (negsuc x) n zero h l =
    let b = ltb-true x n h in
    let e = natural_same (pos n +ℤ negsuc x) (omega (arith, ints)) in
    (omega (arith, ints), omega (arith, ints))
single_inside i n (suc k) h l = absurd (omega arith)

-- a slice whose step isn't 0
abbrev slice_given : Option ℤ → Option ℤ → ℤ → ℕ → Run
slice_given start stop step n = record { first = first_of start stop step n; step = step; count = count_of start stop step n }

slice_is : (start stop : Option ℤ) (step : ℤ) (n : ℕ) → int_eq step (pos 0) ≡ false → slice_run start stop step n ≡ slice_given start stop step n
unfolding slice_run
slice_is start stop step n h = rw h refl

not_zero : (step : ℤ) → int_eq step (pos 0) ≡ false → step ≢ pos 0
not_zero step h e = let same : int_eq step (pos 0) ≡ true = (Decides-int_eq step (pos 0)).1 e in false≢true (sym h ∙ same)

slice_inside : (start stop : Option ℤ) (step : ℤ) (n : ℕ) → int_eq step (pos 0) ≡ false → (k : ℕ) → k < (slice_run start stop step n).count → IsIndex (index_taken (slice_run start stop step n) k) n
slice_inside start stop step n h =
    subst (λ (run : Run). (k : ℕ) → k < run.count → IsIndex (index_taken run k) n) (sym (slice_is start stop step n h)) (λ k l. taken_inside start stop step n k (not_zero step h) l)

not_false : (b : Bool) → not b ≡ false → b ≡ true
not_false true h = refl
not_false false h = cc

not_true : (b : Bool) → not b ≡ true → b ≡ false
not_true true h = cc
not_true false h = refl

first_false : (a b : Bool) → (a || b) ≡ false → a ≡ false
first_false true b h = cc
first_false false b h = refl

not_wrong : (b : Bool) (k : ℕ) (o : Option ℕ) → (if b then Some k else o) ≡ None → (b ≡ false) × (o ≡ None)
not_wrong true k o h = cc
not_wrong false k o h = (refl, h)

pub runs_right : (more : ℕ) (seen : Bool) (k : ℕ) (items : List IndexItem) (ns : List ℕ) → first_wrong more seen k items ns ≡ None → AreRuns (index_runs more items ns) ns
runs_right more seen k [] ns right = runs_whole ns
runs_right more seen k (At i ∷ items) [] right = cc
runs_right more seen k (At i ∷ items) (n ∷ ns) right =
    let here = not_wrong (is_wrong seen (At i) (n ∷ ns)) k _ right in
    let index = not_false (is_index i n) (first_false _ _ here.0) in
    (λ j l. single_inside i n j index l, runs_right more (seen || false) (k + 1) items ns here.1)
runs_right more seen k (Slice start stop step ∷ items) [] right = cc
runs_right more seen k (Slice start stop step ∷ items) (n ∷ ns) right =
    let here = not_wrong (is_wrong seen (Slice start stop step) (n ∷ ns)) k _ right in
    let step_given = not_true (int_eq (step_of step) (pos 0)) (not_false _ (first_false _ _ here.0)) in
    (slice_inside start stop (step_of step) n step_given, runs_right more (seen || false) (k + 1) items ns here.1)
runs_right more seen k (New ∷ items) ns right =
    let here = not_wrong (is_wrong seen New ns) k _ right in
    runs_right more (seen || false) (k + 1) items ns here.1
runs_right more seen k (Ellipsis ∷ items) ns right =
    let here = not_wrong (is_wrong seen Ellipsis ns) k _ right in
    runs_append (map whole_run (take more ns)) (index_runs more items (drop more ns)) more ns (runs_whole (take more ns)) (runs_right more (seen || true) (k + 1) items (drop more ns) here.1)

-- ---- the sizes

pub counts_whole : (ns : List ℕ) → counts_of_runs (map whole_run ns) ≡ ns
counts_whole [] = refl
counts_whole (n ∷ ns) = ap (λ xs. n ∷ xs) (counts_whole ns)

count_when : (b : Bool) (run : Run) → (if b then whole_run 0 else run).count ≡ (if b then 0 else run.count)
count_when true run = refl
count_when false run = refl

count_same : (start stop step : Option ℤ) (n : ℕ) → (slice_run start stop (step_of step) n).count ≡ count_taken start stop step n
unfolding slice_run count_taken
count_same start stop step n = count_when (int_eq (step_of step) (pos 0)) (slice_given start stop (step_of step) n)

left_same : (more : ℕ) (item : IndexItem) (ns : List ℕ) → without_ones (sizes_left more item ns) ≡ without_ones (counts_of_runs (runs_left more item ns))
left_same more (At i) ns = refl
left_same more (Slice start stop step) ns = ap (λ n. without_ones (n ∷ [])) (sym (count_same start stop step (get_or ns 0 0)))
left_same more New ns = refl
left_same more Ellipsis ns = ap without_ones (sym (counts_whole (take more ns)))

abbrev is_kept : ℕ → Bool
is_kept n = not (n == 1)

sizes_same : (more : ℕ) (items : List IndexItem) (ns : List ℕ) → without_ones (index_shape more items ns) ≡ without_ones (counts_of_runs (index_runs more items ns))
sizes_same more [] ns = ap without_ones (sym (counts_whole ns))
sizes_same more (item ∷ items) ns =
    let w = width_of more item in
    let here = sizes_left more item ns in
    let rest = index_shape more items (drop w ns) in
    let runs = runs_left more item ns in
    let behind = index_runs more items (drop w ns) in
    filter-append is_kept here rest
    ∙ (ap (λ xs. xs ++ without_ones rest) (left_same more item ns)
    ∙ (ap (λ xs. without_ones (counts_of_runs runs) ++ xs) (sizes_same more items (drop w ns))
    ∙ (sym (filter-append is_kept (counts_of_runs runs) (counts_of_runs behind)) ∙ ap without_ones (sym (map-append (λ (run : Run). run.count) runs behind)))))

-- ---- the axes that are taken out

left_length : (more : ℕ) (seen : Bool) (item : IndexItem) (ns : List ℕ) → is_wrong seen item ns ≡ false → length (runs_left more item ns) + length (drop (width_of more item) ns) ≡ length ns
left_length more seen (At i) [] right = cc
left_length more seen (At i) (n ∷ ns) right = omega arith
left_length more seen (Slice start stop step) [] right = cc
left_length more seen (Slice start stop step) (n ∷ ns) right = omega arith
left_length more seen New ns right = omega arith
left_length more seen Ellipsis ns right =
    let a = length-map (take more ns) whole_run in
    let b = length-take more ns in
    let c = length-drop more ns in
    omega arith

-- an axis of the source of which one index is taken
abbrev IsSingle : ℕ → List Run → ℕ → Type 0
IsSingle rank runs d = (d < rank) × (get_or (counts_of_runs runs) d 0 ≡ 1)

seam_single : (before behind : List Run) (run : Run) (rank d : ℕ) → run.count ≡ 1 → d ≡ length before → d < rank → IsSingle rank (before ++ run ∷ behind) d
seam_single before behind run rank d one e l =
    let n = length-map before (λ (r : Run). r.count) in
    let place : d ≡ length (counts_of_runs before) + 0 = omega arith in (
      l,
      ap (λ (xs : List ℕ). get_or xs d 0) (map-append (λ (r : Run). r.count) before (run ∷ behind))
          ∙ (ap (λ j. get_or (counts_of_runs before ++ run.count ∷ counts_of_runs behind) j 0) place
          ∙ (get_or-append-add (counts_of_runs before) (run.count ∷ counts_of_runs behind) 0 0 ∙ one)),
    )

here_single : (more : ℕ) (seen : Bool) (item : IndexItem) (ns : List ℕ) (before behind : List Run) (rank : ℕ) → is_wrong seen item ns ≡ false → length before + length ns ≡ rank
    → All (IsSingle rank (before ++ (runs_left more item ns ++ behind))) (axis_taken item (rank - length ns))
here_single more seen (At i) [] before behind rank right e = cc
here_single more seen (At i) (n ∷ ns) before behind rank right e =
    let all = before ++ single_run i n ∷ behind in
    All-cons (IsSingle rank all) (rank - length (n ∷ ns)) [] (seam_single before behind (single_run i n) rank (rank - length (n ∷ ns)) refl (omega arith) (omega arith)) (All-nil (IsSingle rank all))
here_single more seen (Slice start stop step) ns before behind rank right e = All-nil (IsSingle rank (before ++ (runs_left more (Slice start stop step) ns ++ behind)))
here_single more seen New ns before behind rank right e = All-nil (IsSingle rank (before ++ (runs_left more New ns ++ behind)))
here_single more seen Ellipsis ns before behind rank right e = All-nil (IsSingle rank (before ++ (runs_left more Ellipsis ns ++ behind)))

taken_single : (more : ℕ) (seen : Bool) (k : ℕ) (items : List IndexItem) (ns : List ℕ) (before : List Run) (rank : ℕ) → first_wrong more seen k items ns ≡ None → length before + length ns ≡ rank
    → All (IsSingle rank (before ++ index_runs more items ns)) (axes_taken more rank items ns)
taken_single more seen k [] ns before rank right e = All-nil (IsSingle rank (before ++ index_runs more [] ns))
taken_single more seen k (item ∷ items) ns before rank right e =
    let w = width_of more item in
    let here = not_wrong (is_wrong seen item ns) k _ right in
    let runs = runs_left more item ns in
    let behind = index_runs more items (drop w ns) in
    let l = left_length more seen item ns here.0 in
    let a = length-append before runs in
    let rest = taken_single more (seen || is_ellipsis item) (k + 1) items (drop w ns) (before ++ runs) rank here.1 (omega arith) in
    All-append (IsSingle rank (before ++ (runs ++ behind))) (axis_taken item (rank - length ns)) (axes_taken more rank items (drop w ns))
    (here_single more seen item ns before behind rank here.0 e)
    (subst (λ (all : List Run). All (IsSingle rank all) (axes_taken more rank items (drop w ns))) (append_assoc before runs behind) rest)

pub fits_slice : (more : ℕ) (items : List IndexItem) (shape source : List ℕ) → first_wrong more false 0 items source ≡ None → shape ≡ index_shape more items source
    → FitsSlice (index_runs more items source) (axes_taken more (length source) items source) shape source
fits_slice more items shape source right e = record {
  inside = runs_right more false 0 items source right;
  single = taken_single more false 0 items source [] (length source) right (omega arith);
  sizes = ap without_ones e ∙ sizes_same more items source;
}

-- ---- the whole of each axis

pub fits_whole : (shape source : List ℕ) → without_ones shape ≡ without_ones source → FitsSlice (map whole_run source) [] shape source
fits_whole shape source same = record {
  inside = runs_whole source;
  single = All-nil (λ d. (d < length source) × (get_or (counts_of_runs (map whole_run source)) d 0 ≡ 1));
  sizes = same ∙ ap without_ones (sym (counts_whole source));
}
