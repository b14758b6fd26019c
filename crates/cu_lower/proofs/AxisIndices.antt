-- Where views that move and turn axes, and arrays that are joined, read: what the pull says is what the operator says.
use Rattle.std.proofs.Common.{◌≡◌, ℕ, zero, suc, ◌+◌, ◌-◌, ◌*◌, ◌/◌, ◌%◌, ◌<◌, ◌==◌, nat_lt, Bool, true, false, ℤ, pos, negsuc, ◌-ℤ◌, List, [], ◌∷◌, Option, None, Some, length, map, get_or, cond, not, refl, ap, sym, ◌∙◌, inl, inr, arith, if◌then◌else◌}
use Rattle.std.specs.Prelude.{◌≢◌, slice_get, slice_set, slice_index, int_le, is_some}
use Rattle.std.specs.Int.{bit_at, int_rem_euclid}
use Rattle.std.specs.List.{range_with_len, position_or_len, list_all}
use Rattle.std.specs.Ordering.{int_eq}
use Rattle.std.proofs.lemmas.Bool.{cases_Bool, cases_eq, eq-eqb, ne_eqb, and_parts, ltb-true, lt-ltb}
use Rattle.std.proofs.lemmas.Bool.Decides.{Decides-int_eq}
use Rattle.std.proofs.lemmas.List.{length-map}
use Rattle.std.proofs.lemmas.List.FromFn.{get_or-map-range_with_len}
use Rattle.std.proofs.lemmas.Nat.Bits.{bit_at_lowest, bit_at-suc}
use Rattle.cu_result.proofs.OptionSteps.{step_some, when_some}
use Rattle.cu_shape.specs.Slice.{at_least_zero}
use Rattle.cu_form.specs.Form.{is_array}
use Rattle.cu_form.specs.declared.args.Arg.{Arg}
use Rattle.cu_node.specs.Axes.{axis_of, marked_after}
use Rattle.cu_node.specs.declared.info.NodeInfo.{NodeInfo}
use Rattle.cu_semantics.specs.Argument.{NodeElements, shape_of_node, element_from, source_at}
use Rattle.cu_semantics.specs.Index.{is_named, natural}
use Rattle.cu_semantics.specs.View as meant
use Rattle.cu_origin.specs.Pull as pulled
use Rattle.cu_origin.specs.Pull.{for_each_axis, has_axis, flipped_on, rolled_on, permuted_on, concat_from}
use Rattle.cu_origin.specs.declared.provenance.Provenance.{Provenance}
use Rattle.cu_origin.specs.declared.provenance.Provenance.TheVariants.{From, Const}
use Rattle.cu_lower_view.specs.Axes.{named_axis, is_turned, byte_of, axes_that, shift_along, shifts_along}
use Rattle.cu_lower_view.specs.Sources.{sources_of, shapes_of}
use Rattle.cu_lower.proofs.EntryIndices.{natural_same}

-- two lists that have the same number for each axis
by_each : (f g : ℕ → ℕ) (a n : ℕ) → ((d : ℕ) → d < a + n → f d ≡ g d) → map f (range_with_len a n) ≡ map g (range_with_len a n)
by_each f g a zero h = refl
by_each f g a (suc n) h =
    ap (λ x. x ∷ map f (range_with_len (a + 1) n)) (h a (omega arith)) ∙ ap (λ xs. g a ∷ xs) (by_each f g (a + 1) n (λ d below. h d (omega arith)))

-- ---- sets of axes

low_bit : (b : Bool) (m : ℕ) → (((if b then 1 else 0) + 2 * m) % 2 == 1) ≡ b
low_bit true m = let e : (1 + 2 * m) % 2 ≡ 1 = omega arith in ap (λ (r : ℕ). r == 1) e
low_bit false m = let e : (0 + 2 * m) % 2 ≡ 0 = omega arith in ap (λ (r : ℕ). r == 1) e

high_bits : (b : Bool) (m : ℕ) → ((if b then 1 else 0) + 2 * m) / 2 ≡ m
high_bits true m = omega arith
high_bits false m = omega arith

has_bit : (test : ℕ → Bool) (a n d j : ℕ) → d < n → a + d ≡ j → (bit_at (byte_of (map test (range_with_len a n))) d == 1) ≡ test j
has_bit test a zero d j below place = absurd (omega arith)
has_bit test a (suc n) zero j below place =
    let rest = byte_of (map test (range_with_len (a + 1) n)) in
    let whole : ℕ = (if test a then 1 else 0) + 2 * rest in
    let here : a ≡ j = omega arith in
    ap (λ (r : ℕ). r == 1) (bit_at_lowest whole) ∙ low_bit (test a) rest ∙ ap test here
has_bit test a (suc n) (suc d) j below place =
    let rest = byte_of (map test (range_with_len (a + 1) n)) in
    let whole : ℕ = (if test a then 1 else 0) + 2 * rest in
    ap (λ (r : ℕ). r == 1) (bit_at-suc whole d ∙ ap (λ m. bit_at m d) (high_bits (test a) rest)) ∙ has_bit test (a + 1) n d j (omega arith) (omega arith)

turned_named : (rank : ℕ) (axes : Option (List ℤ)) (d : ℕ) → is_turned rank axes d ≡ is_named rank axes d
turned_named rank None d = refl
turned_named rank (Some axes) d = refl

pub flipped_same : (axes : Option (List ℤ)) (shape idx : List ℕ) → pulled.flipped (axes_that (length shape) (is_turned (length shape) axes)) shape idx ≡ meant.flipped_index axes shape idx
flipped_same axes shape idx =
    by_each (flipped_on (axes_that (length shape) (is_turned (length shape) axes)) shape idx)
    (λ d. if is_named (length shape) axes d then slice_index shape d - 1 - slice_index idx d else slice_index idx d) 0 (length shape)
    (λ d below.
    let named : has_axis (axes_that (length shape) (is_turned (length shape) axes)) d ≡ is_named (length shape) axes d =
    has_bit (is_turned (length shape) axes) 0 (length shape) d d (omega arith) (omega arith) ∙ turned_named (length shape) axes d in
    ap (λ (b : Bool). if b then slice_index shape d - 1 - slice_index idx d else slice_index idx d) named)

-- ---- shifts

pub rolled_same : (shifts axes : List ℤ) (shape idx : List ℕ) → pulled.rolled (shifts_along (length shape) shifts axes) shape idx ≡ meant.rolled_index shifts axes shape idx
rolled_same shifts axes shape idx =
    by_each (rolled_on (shifts_along (length shape) shifts axes) shape idx)
    (λ d. natural (int_rem_euclid (pos (slice_index idx d) -ℤ meant.shift_on (length shape) shifts axes d) (pos (slice_index shape d)))) 0 (length shape)
    (λ d below.
    let shift : get_or (shifts_along (length shape) shifts axes) d (pos 0) ≡ shift_along (length shape) shifts axes d = get_or-map-range_with_len (shift_along (length shape) shifts axes) 0 (length shape) d d (pos 0) (omega arith) (omega arith) in
    ap (λ s. at_least_zero (int_rem_euclid (pos (slice_index idx d) -ℤ s) (pos (slice_index shape d)))) shift
    ∙ natural_same (int_rem_euclid (pos (slice_index idx d) -ℤ shift_along (length shape) shifts axes d) (pos (slice_index shape d))))

-- ---- axes in another order

-- none of the axes is counted from the end
abbrev AreAxes : ℕ → List ℤ → Type 0
AreAxes rank [] = Unit {0}
AreAxes rank (pos n ∷ axes) = (n < rank) × AreAxes rank axes
AreAxes rank (negsuc n ∷ axes) = ⊥

axis_below : (n rank axis : ℕ) → axis_of (pos n) rank ≡ Some axis → n < rank
axis_below n rank axis h =
    elim (cases_Bool (nat_lt n rank)) [
      | inl below ↦ ltb-true n rank below
      | inr past ↦ let none : axis_of (pos n) rank ≡ None = rw past refl in let no : None ≡ Some axis = sym none ∙ h in cc
    ]

some_is : {A : Type 0} (o : Option A) → is_some o ≡ true → (x : A) × (o ≡ Some x)
some_is (Some x) h = (x, refl)
some_is None h = cc

pub are_axes : (rank : ℕ) (marks : List Bool) (axes : List ℤ) → list_all (λ d. int_le (pos 0) d) axes ≡ true → is_some (marked_after rank marks axes) ≡ true → AreAxes rank axes
are_axes rank marks [] up marked = tt
are_axes rank marks (pos n ∷ axes) up marked =
    let both = and_parts (int_le (pos 0) (pos n)) (list_all (λ d. int_le (pos 0) d) axes) up in
    let w = some_is (marked_after rank marks (pos n ∷ axes)) marked in
    let first = step_some (axis_of (pos n) rank) _ w.0 w.1 in
    let second = when_some (not (get_or marks first.0 false)) (λ t. marked_after rank (slice_set marks first.0 true) axes) w.0 first.2 in
    (axis_below n rank first.0 first.1, are_axes rank (slice_set marks first.0 true) axes both.1 (ap is_some second.1))
are_axes rank marks (negsuc n ∷ axes) up marked = cc

named_self : (rank n : ℕ) → n < rank → named_axis rank (pos n) ≡ n
named_self rank n below = let there : nat_lt n rank ≡ true = lt-ltb n rank below in rw there refl

equal_numbers : (n d : ℕ) → (n == d) ≡ int_eq (pos n) (pos d)
equal_numbers n d =
    elim (cases_eq n d) [
      | inl same ↦ eq-eqb n d same ∙ sym ((Decides-int_eq (pos n) (pos d)).1 (ap pos same))
      | inr other ↦ ne_eqb n d other ∙ sym (apart n d other)
    ]
  where
    apart : (n d : ℕ) → n ≢ d → int_eq (pos n) (pos d) ≡ false
    apart n d other =
        elim (cases_Bool (int_eq (pos n) (pos d))) [
          | inl equal ↦ let e : pos n ≡ pos d = (Decides-int_eq (pos n) (pos d)).0 equal in let same : n ≡ d = cc e in absurd (other same)
          | inr unequal ↦ unequal
        ]

same_place : (rank d : ℕ) (axes : List ℤ) → AreAxes rank axes → position_or_len (λ (axis : ℕ). axis == d) (map (named_axis rank) axes) ≡ position_or_len (λ axis. int_eq axis (pos d)) axes
same_place rank d [] h = refl
same_place rank d (pos n ∷ axes) h =
    let head : (named_axis rank (pos n) == d) ≡ int_eq (pos n) (pos d) = ap (λ (axis : ℕ). axis == d) (named_self rank n h.0) ∙ equal_numbers n d in
    ap (λ (b : Bool). cond (not b) (1 + position_or_len (λ (axis : ℕ). axis == d) (map (named_axis rank) axes)) 0) head
    ∙ ap (λ (m : ℕ). cond (not (int_eq (pos n) (pos d))) (1 + m) 0) (same_place rank d axes h.1)
same_place rank d (negsuc n ∷ axes) h = absurd h

pub permuted_same : (rank : ℕ) (axes : List ℤ) (idx : List ℕ) → AreAxes rank axes → pulled.permuted (map (named_axis rank) axes) idx ≡ meant.permuted_index axes idx
permuted_same rank axes idx h =
    ap (λ n. for_each_axis n (permuted_on (map (named_axis rank) axes) idx)) (length-map axes (named_axis rank))
    ∙ by_each (permuted_on (map (named_axis rank) axes) idx) (λ d. slice_index idx (position_or_len (λ axis. int_eq axis (pos d)) axes)) 0 (length axes)
    (λ d below. ap (slice_index idx) (same_place rank d axes h))

-- ---- arrays one behind the other

-- the element that a pull takes, of the arrays of arguments
abbrev pub taken_from : NodeElements → List Arg → Provenance → ℤ
taken_from at args (From source idx) = source_at at args source idx
taken_from at args (Const x) = x

pub taken_choice : (at : NodeElements) (args : List Arg) (b : Bool) (p q : Provenance) → taken_from at args (if b then p else q) ≡ (if b then taken_from at args p else taken_from at args q)
taken_choice at args true p q = refl
taken_choice at args false p q = refl

pub concat_same : (infos : List NodeInfo) (at : NodeElements) (axis k : ℕ) (all args : List Arg) (idx : List ℕ) → list_all is_array args ≡ true → ((j : ℕ) → slice_get all (k + j) ≡ slice_get args j)
    → taken_from at all (concat_from axis k (shapes_of (sources_of infos args)) idx) ≡ meant.concat_at infos at axis args idx
concat_same infos at axis k all [] idx arrays from = refl
concat_same infos at axis k all (Arg.Node n ∷ args) idx arrays from =
    let size = slice_index (shape_of_node infos n) axis in
    let behind = slice_set idx axis (slice_index idx axis - size) in
    let here : source_at at all k idx ≡ at n idx = ap (λ a. element_from at a idx) (ap (slice_get all) (let z : k ≡ k + 0 = omega arith in z) ∙ from 0) in
    let rest = concat_same infos at axis (k + 1) all args behind arrays (λ j. ap (slice_get all) (let s : k + 1 + j ≡ k + suc j = omega arith in s) ∙ from (suc j)) in
    taken_choice at all (nat_lt (slice_index idx axis) size) (From k idx) (concat_from axis (k + 1) (shapes_of (sources_of infos args)) behind)
    ∙ ap (λ x. if nat_lt (slice_index idx axis) size then x else taken_from at all (concat_from axis (k + 1) (shapes_of (sources_of infos args)) behind)) here
    ∙ ap (λ x. if nat_lt (slice_index idx axis) size then at n idx else x) rest
concat_same infos at axis k all (Arg.Int x ∷ args) idx arrays from = cc
concat_same infos at axis k all (Arg.Truth b ∷ args) idx arrays from = cc
