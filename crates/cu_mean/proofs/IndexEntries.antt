-- Entries of an index, one after the other.
use Rattle.std.proofs.Common.{◌≡◌, ◌+◌, ◌-◌, ◌<◌, ◌≤◌, ◌^◌, ◌&&◌, min, ℕ, ℤ, pos, negsuc, ◌<ℤ◌, Bool, true, false, List, [], ◌∷◌, ◌++◌, length, take, drop, get_or, All, Option, unwrap_or, refl, sym, ap, ◌∙◌, arith, rules}
use Rattle.std.specs.Prelude.{int_lt, nat_lt, slice_index}
use Rattle.std.specs.List.{slice_range}
use Rattle.std.proofs.lemmas.List.{drop_more, drop_all, drop-drop, drop_min, take_min, length-take-le, length-drop, length-append, append_assoc}
use Rattle.std.proofs.lemmas.Int.{ints}
use Rattle.std.proofs.lemmas.List.Elements.{All-head, All-tail}
use Rattle.cu_shape.specs.Index.{is_inside}
use Rattle.cu_shape.specs.Slice.{from_end}
use Rattle.cu_shape.proofs.Places.{outside_rank}
use Rattle.cu_node.specs.declared.index_item.IndexItem.{IndexItem}
use Rattle.cu_semantics.specs.Index.{natural}
use Rattle.cu_semantics.specs.View.{indexed_from, sliced_index}
use Rattle.cu_mean.specs.Indexing.{IsOutsideEach}
use Rattle.cu_mean.specs.declared.indexing.Front.{Front}
use Rattle.cu_mean.proofs.Joined.{not_below}

-- ---- outside

pub outside_long : (xs : List ℕ) → 6 < length xs → IsOutsideEach xs
outside_long xs long shape short sizes = outside_rank shape xs (λ (e : length xs ≡ length shape). omega arith)

and_no : (b : Bool) → (b && false) ≡ false
and_no true = refl
and_no false = refl

-- a number that no size is above
too_big : (limit : ℕ) (shape read : List ℕ) (v : ℕ) (rest : List ℕ) → limit ≤ v → All (λ n. n < limit) shape → is_inside shape (read ++ v ∷ rest) ≡ false
too_big limit [] [] v rest big sizes = refl
too_big limit [] (r ∷ read) v rest big sizes = refl
too_big limit (n ∷ shape) [] v rest big sizes =
    let below : n < limit = All-head (λ m. m < limit) n shape sizes in
    ap (λ (b : Bool). b && is_inside shape rest) (not_below v n (omega arith))
too_big limit (n ∷ shape) (r ∷ read) v rest big sizes =
    ap (λ (b : Bool). nat_lt r n && b) (too_big limit shape read v rest big (All-tail (λ m. m < limit) n shape sizes)) ∙ and_no (nat_lt r n)

pub outside_big : (read : List ℕ) (v : ℕ) (rest : List ℕ) → 2 ^ 64 ≤ v → IsOutsideEach (read ++ v ∷ rest)
outside_big read v rest large shape short sizes = too_big (2 ^ 64) shape read v rest large sizes

pub longer : (read : List ℕ) (v : ℕ) (rest : List ℕ) → 6 ≤ length read → IsOutsideEach (read ++ v ∷ rest)
longer read v rest long = outside_long (read ++ v ∷ rest) (omega (arith, length-append read (v ∷ rest)))

pub longer_by : (read more rest : List ℕ) → 6 < length read + length more → IsOutsideEach (read ++ (more ++ rest))
longer_by read more rest long = outside_long (read ++ (more ++ rest)) (omega (arith, length-append read (more ++ rest), length-append more rest))

-- ---- one place

pub place_step : (spare : ℕ) (x : ℤ) (items : List IndexItem) (shape is : List ℕ) (axis : ℕ) → axis < length shape
    → indexed_from spare (IndexItem.At x ∷ items) (drop axis shape) is ≡ natural (from_end x (slice_index shape axis)) ∷ indexed_from spare items (drop (axis + 1) shape) is
place_step spare x items shape is axis lt = ap (λ (s : List ℕ). indexed_from spare (IndexItem.At x ∷ items) s is) (drop_more shape axis 0 lt)

pub place_none : (spare : ℕ) (x : ℤ) (items : List IndexItem) (shape is : List ℕ) (axis : ℕ) → length shape ≤ axis
    → indexed_from spare (IndexItem.At x ∷ items) (drop axis shape) is ≡ is
place_none spare x items shape is axis le = ap (λ (s : List ℕ). indexed_from spare (IndexItem.At x ∷ items) s is) (drop_all axis shape le)

-- ---- a slice

pub slice_step : (spare : ℕ) (start stop step : Option ℤ) (items : List IndexItem) (shape idx : List ℕ) (axis at : ℕ) → axis < length shape → at < length idx
    → indexed_from spare (IndexItem.Slice start stop step ∷ items) (drop axis shape) (drop at idx)
    ≡ sliced_index start stop (unwrap_or step (pos 1)) (slice_index shape axis) (slice_index idx at) ∷ indexed_from spare items (drop (axis + 1) shape) (drop (at + 1) idx)
slice_step spare start stop step items shape idx axis at lt below =
    ap (λ (s : List ℕ). indexed_from spare (IndexItem.Slice start stop step ∷ items) s (drop at idx)) (drop_more shape axis 0 lt)
    ∙ ap (λ (is : List ℕ). indexed_from spare (IndexItem.Slice start stop step ∷ items) (slice_index shape axis ∷ drop (axis + 1) shape) is) (drop_more idx at 0 below)

pub slice_none : (spare : ℕ) (start stop step : Option ℤ) (items : List IndexItem) (shape is : List ℕ) (axis : ℕ) → length shape ≤ axis
    → indexed_from spare (IndexItem.Slice start stop step ∷ items) (drop axis shape) is ≡ is
slice_none spare start stop step items shape is axis le = ap (λ (s : List ℕ). indexed_from spare (IndexItem.Slice start stop step ∷ items) s is) (drop_all axis shape le)

slice_of_none : (spare : ℕ) (start stop step : Option ℤ) (items : List IndexItem) (shape : List ℕ) → indexed_from spare (IndexItem.Slice start stop step ∷ items) shape [] ≡ []
slice_of_none spare start stop step items [] = refl
slice_of_none spare start stop step items (n ∷ shape) = refl

pub slice_past : (spare : ℕ) (start stop step : Option ℤ) (items : List IndexItem) (shape idx : List ℕ) (at : ℕ) → length idx ≤ at
    → indexed_from spare (IndexItem.Slice start stop step ∷ items) shape (drop at idx) ≡ drop at idx
slice_past spare start stop step items shape idx at le =
    let e = drop_all at idx le in
    ap (λ (is : List ℕ). indexed_from spare (IndexItem.Slice start stop step ∷ items) shape is) e ∙ slice_of_none spare start stop step items shape ∙ sym e

-- ---- a new axis

pub new_step : (spare : ℕ) (items : List IndexItem) (shape idx : List ℕ) (at : ℕ) → at < length idx
    → indexed_from spare (IndexItem.New ∷ items) shape (drop at idx) ≡ indexed_from spare items shape (drop (at + 1) idx)
new_step spare items shape idx at lt = ap (λ (is : List ℕ). indexed_from spare (IndexItem.New ∷ items) shape is) (drop_more idx at 0 lt)

pub new_past : (spare : ℕ) (items : List IndexItem) (shape idx : List ℕ) (at : ℕ) → length idx ≤ at
    → indexed_from spare (IndexItem.New ∷ items) shape (drop at idx) ≡ drop at idx
new_past spare items shape idx at le =
    let e = drop_all at idx le in
    ap (λ (is : List ℕ). indexed_from spare (IndexItem.New ∷ items) shape is) e ∙ sym e

-- ---- the axes that no entry takes

-- so many numbers from an axis on, where there may be fewer
taken : (spare at end : ℕ) (idx : List ℕ) → at ≤ length idx → end ≡ min (at + spare) (length idx) → take spare (drop at idx) ≡ slice_range idx at end
taken spare at end idx le is =
    let few : end - at ≡ min spare (length (drop at idx)) = omega (arith, length-drop at idx) in
    sym (ap (λ n. take n (drop at idx)) few ∙ take_min spare (drop at idx))

past : (spare at end : ℕ) (xs : List ℕ) → end ≡ min (at + spare) (length xs) → drop spare (drop at xs) ≡ drop end xs
past spare at end xs is = drop-drop spare at xs ∙ sym (drop_min (at + spare) xs) ∙ ap (λ n. drop n xs) (sym is)

pub spare_step : (spare : ℕ) (items : List IndexItem) (shape idx : List ℕ) (axis at ahead end : ℕ) → at ≤ length idx → end ≡ min (at + spare) (length idx) → ahead ≡ min (axis + spare) (length shape)
    → indexed_from spare (IndexItem.Ellipsis ∷ items) (drop axis shape) (drop at idx) ≡ slice_range idx at end ++ indexed_from spare items (drop ahead shape) (drop end idx)
spare_step spare items shape idx axis at ahead end le is next =
    ap (λ (front : List ℕ). front ++ indexed_from spare items (drop spare (drop axis shape)) (drop spare (drop at idx))) (taken spare at end idx le is)
    ∙ ap (λ (s : List ℕ). slice_range idx at end ++ indexed_from spare items s (drop spare (drop at idx))) (past spare axis ahead shape next)
    ∙ ap (λ (rest : List ℕ). slice_range idx at end ++ indexed_from spare items (drop ahead shape) rest) (past spare at end idx is)

-- ---- numbers that are added

-- numbers go from what follows to what is read
pub moved : (read new more rest : List ℕ) → new ≡ read ++ more → read ++ (more ++ rest) ≡ new ++ rest
moved read new more rest e = sym (ap (λ (xs : List ℕ). xs ++ rest) e ∙ append_assoc read more rest)

above : (x y : ℤ) → int_lt x y ≡ true → x <ℤ y
above x y h = search rules

big : (x : ℤ) → pos 18446744073709551615 <ℤ x → 2 ^ 64 ≤ natural x
big (pos n) h = omega (arith, ints)
big (negsuc n) h = absurd (omega (arith, ints))

pub natural_big : (x : ℤ) → int_lt (pos 18446744073709551615) x ≡ true → 2 ^ 64 ≤ natural x
natural_big x h = big x (above (pos 18446744073709551615) x h)

pub range_length : (idx : List ℕ) (at end : ℕ) → end ≤ length idx → length (slice_range idx at end) ≡ end - at
range_length idx at end le = length-take-le (end - at) (drop at idx) (omega (arith, length-drop at idx))

-- ---- one entry after the other

-- what is read is the same behind an entry
pub entry_taken : (read : List IndexItem → Front → List ℕ) (items : List IndexItem) (i : ℕ) (d : IndexItem) (front : Front) (whole next : List ℕ) → i < length items → read (drop i items) front ≡ whole
    → read (get_or items i d ∷ drop (i + 1) items) front ≡ next → next ≡ whole
entry_taken read items i d front whole next lt so_far taken = sym taken ∙ sym (ap (λ (rest : List IndexItem). read rest front) (drop_more items i d lt)) ∙ so_far

-- a number more is read, and then what follows
pub number_taken : (read new rest whole : List ℕ) (v : ℕ) → new ≡ read ++ v ∷ [] → whole ≡ v ∷ rest → read ++ whole ≡ new ++ rest
number_taken read new rest whole v e is = ap (λ (xs : List ℕ). read ++ xs) is ∙ moved read new (v ∷ []) rest e
