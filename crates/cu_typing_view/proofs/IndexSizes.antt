-- The chunk shape of an index has the rank of its shape and sizes above 0.
use Rattle.std.proofs.Common.{◌≡◌, ◌∙◌, ℕ, ◌+◌, ◌<◌, ◌≤◌, ◌||◌, Bool, true, false, Option, Some, None, List, [], ◌∷◌, length, take, drop, min, if◌then◌else◌, refl, sym, inl, inr, arith}
use Rattle.std.proofs.lemmas.Bool.{cases_lt}
use Rattle.std.proofs.Math.ListN.{drop_of_length-le}
use Rattle.std.proofs.lemmas.List.{length-append, length-drop, length-take}
use Rattle.std.proofs.lemmas.List.Elements.{All-head, All-tail, All-cons, All-append, All-take, All-drop}
use Rattle.cu_shape.specs.Index.{axis_by_axis}
use Rattle.cu_shape.proofs.Axes.{length-axis_by_axis}
use Rattle.cu_node.specs.declared.index_item.IndexItem.{IndexItem}
use Rattle.cu_node.specs.declared.index_item.IndexItem.TheVariants.{At, Slice, New, Ellipsis}
use Rattle.cu_typing_view.specs.Entries.{width_of, is_ellipsis, count_taken, clipped_chunk_size, is_wrong, first_wrong, sizes_left, index_shape, chunk_left, index_chunk}
use Rattle.cu_typing_view.proofs.PositiveSizes.{Positive, none_positive}

-- axes past the end are none
pub drop_min : (n : ℕ) (xs : List ℕ) → drop (min n (length xs)) xs ≡ drop n xs
drop_min n xs =
    elim (cases_lt n (length xs)) [
      | inl here ↦ let e : min n (length xs) ≡ n = omega arith in rw e refl
      | inr past ↦ let e : min n (length xs) ≡ length xs = omega arith in rw e (drop_of_length-le xs (let l : length xs ≤ length xs = omega arith in l) ∙ sym (drop_of_length-le xs past))
    ]

same_drop : (k : ℕ) (ns cs : List ℕ) → length ns ≡ length cs → length (drop k ns) ≡ length (drop k cs)
same_drop k ns cs e = let a = length-drop k ns in let b = length-drop k cs in omega arith

same_take : (k : ℕ) (ns cs : List ℕ) → length ns ≡ length cs → length (take k ns) ≡ length (take k cs)
same_take k ns cs e = let a = length-take k ns in let b = length-take k cs in omega arith

length-chunk_left : (more : ℕ) (item : IndexItem) (ns cs : List ℕ) → length ns ≡ length cs → length (chunk_left more item ns cs) ≡ length (sizes_left more item ns)
length-chunk_left more (At i) ns cs e = refl
length-chunk_left more (Slice start stop step) ns cs e = refl
length-chunk_left more New ns cs e = refl
length-chunk_left more Ellipsis ns cs e = length-axis_by_axis clipped_chunk_size (take more ns) (take more cs) (same_take more ns cs e)

pub length-index_chunk : (more : ℕ) (items : List IndexItem) (ns cs : List ℕ) → length ns ≡ length cs → length (index_chunk more items ns cs) ≡ length (index_shape more items ns)
length-index_chunk more [] ns cs e = length-axis_by_axis clipped_chunk_size ns cs e
length-index_chunk more (item ∷ items) ns cs e =
    let w = width_of more item in
    let here = length-chunk_left more item ns cs e in
    let rest = length-index_chunk more items (drop w ns) (drop w cs) (same_drop w ns cs e) in
    let a = length-append (chunk_left more item ns cs) (index_chunk more items (drop w ns) (drop w cs)) in
    let b = length-append (sizes_left more item ns) (index_shape more items (drop w ns)) in
    omega arith

pub positive-cut : (ns cs : List ℕ) → Positive cs → Positive (axis_by_axis clipped_chunk_size ns cs)
positive-cut [] cs h = none_positive
positive-cut (n ∷ ns) [] h = none_positive
positive-cut (n ∷ ns) (c ∷ cs) h =
    let c0 : 0 < c = All-head (λ n. 0 < n) c cs h in
    All-cons (λ n. 0 < n) (clipped_chunk_size n c) (axis_by_axis clipped_chunk_size ns cs) (omega arith) (positive-cut ns cs (All-tail (λ n. 0 < n) c cs h))

one_size : (n : ℕ) → 0 < n → Positive (n ∷ [])
one_size n h = All-cons (λ n. 0 < n) n [] h none_positive

-- an entry that isn't wrong leaves chunk sizes above 0
positive-chunk_left : (more : ℕ) (seen : Bool) (item : IndexItem) (ns cs : List ℕ) → length ns ≡ length cs → Positive cs → is_wrong seen item ns ≡ false → Positive (chunk_left more item ns cs)
positive-chunk_left more seen (At i) ns cs e h right = none_positive
positive-chunk_left more seen (Slice start stop step) [] cs e h right = cc
positive-chunk_left more seen (Slice start stop step) (n ∷ ns) [] e h right = absurd (omega arith)
positive-chunk_left more seen (Slice start stop step) (n ∷ ns) (c ∷ cs) e h right =
    let c0 : 0 < c = All-head (λ n. 0 < n) c cs h in one_size (clipped_chunk_size (count_taken start stop step n) c) (omega arith)
positive-chunk_left more seen New ns cs e h right = one_size 1 (omega arith)
positive-chunk_left more seen Ellipsis ns cs e h right = positive-cut (take more ns) (take more cs) (All-take (λ n. 0 < n) more cs h)

not_wrong : (b : Bool) (k : ℕ) (o : Option ℕ) → (if b then Some k else o) ≡ None → (b ≡ false) × (o ≡ None)
not_wrong true k o h = cc
not_wrong false k o h = (refl, h)

pub positive-index_chunk : (more : ℕ) (seen : Bool) (k : ℕ) (items : List IndexItem) (ns cs : List ℕ) → length ns ≡ length cs → Positive cs → first_wrong more seen k items ns ≡ None → Positive (index_chunk more items ns cs)
positive-index_chunk more seen k [] ns cs e h right = positive-cut ns cs h
positive-index_chunk more seen k (item ∷ items) ns cs e h right =
    let w = width_of more item in
    let here = not_wrong (is_wrong seen item ns) k _ right in
    All-append (λ n. 0 < n) (chunk_left more item ns cs) (index_chunk more items (drop w ns) (drop w cs))
    (positive-chunk_left more seen item ns cs e h here.0)
    (positive-index_chunk more (seen || is_ellipsis item) (k + 1) items (drop w ns) (drop w cs) (same_drop w ns cs e) (All-drop (λ n. 0 < n) w cs h) here.1)
