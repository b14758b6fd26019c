-- The indices from which an element of a reduction is made: those of the steps are those of the operator.
use Rattle.std.proofs.Common.{◌≡◌, ℕ, zero, suc, ◌<◌, ◌≤◌, ◌+◌, ◌-◌, ◌*◌, ◌==◌, ◌||◌, min, not, cond, Bool, true, false, ℤ, List, [], ◌∷◌, Option, Some, None, length, map, set, get_or, sum_by, refl, ap, sym, ◌∙◌, subst, inl, inr, arith, if◌then◌else◌}
use Rattle.std.specs.Prelude.{replicate, slice_index, unwrap_or}
use Rattle.std.specs.List.{range_with_len, list_any}
use Rattle.std.proofs.lemmas.Bool.{eq-eqb, ne_eqb}
use Rattle.std.proofs.lemmas.Bool.Decides.{eqb_tells}
use Rattle.std.proofs.lemmas.List.{length-set, get_or-set_same, get_or-set_other}
use Rattle.std.proofs.lemmas.List.Sums.{sum_by-cons}
use Rattle.cu_shape.specs.Index.{product, IsInside, place_of, index_at, sums, differences, indices_of}
use Rattle.cu_shape.proofs.Places.{index-place}
use Rattle.cu_node.specs.Axes.{marked_after, all_marked}
use Rattle.cu_op.proofs.Grouped.{squeezed_product}
use Rattle.cu_lower_view.proofs.Marks.{first_named, axis_below}
use Rattle.cu_semantics.specs.Index.{axis_in, is_named}
use Rattle.cu_semantics.specs.Reduction.{kept_before, reduced_box, reduced_start}
use Rattle.cu_reduce.specs.Groups.{Groups, groups_from, groups_of, group_counts, group_lo, group_hi, group_of, group_indices}
use Rattle.cu_typing.specs.Reduction.{kept_sizes, marks_of}
use Rattle.cu_lower.proofs.Marked.{AreMarked, marked_rest, unmarked_rest, marked_here, one_group, unkept, squeezed}

-- ---- where a group begins, by the marks

-- 0 on an axis that is reduced, and the result's index on one that is kept
abbrev pub start_along : Bool → List Bool → List ℕ → List ℕ → List ℕ
start_along keepdims ms [] idx = []
start_along keepdims [] (n ∷ ns) [] = 0 ∷ start_along keepdims [] ns []
start_along keepdims [] (n ∷ ns) (i ∷ is) = i ∷ start_along keepdims [] ns is
start_along true (true ∷ ms) (n ∷ ns) [] = 0 ∷ start_along true ms ns []
start_along true (true ∷ ms) (n ∷ ns) (i ∷ is) = 0 ∷ start_along true ms ns is
start_along false (true ∷ ms) (n ∷ ns) idx = 0 ∷ start_along false ms ns idx
start_along keepdims (false ∷ ms) (n ∷ ns) [] = 0 ∷ start_along keepdims ms ns []
start_along keepdims (false ∷ ms) (n ∷ ns) (i ∷ is) = i ∷ start_along keepdims ms ns is

-- the size of the axis where it is reduced, else 1
abbrev pub box_along : List Bool → List ℕ → List ℕ
box_along ms [] = []
box_along [] (n ∷ ns) = 1 ∷ box_along [] ns
box_along (m ∷ ms) (n ∷ ns) = (if m then n else 1) ∷ box_along ms ns

-- what is to be shown of them: the group of a result's index begins there, and is as large
pub record IsStart (gs : Groups) (ns result idx start box : List ℕ) : Type 0 where
  pub inside : IsInside (group_counts gs ns) start
  pub place : place_of (group_counts gs ns) start ≡ place_of result idx
  pub lo : group_lo gs start ≡ start
  pub sizes : differences (group_hi gs ns (map suc start)) (group_lo gs start) ≡ box

-- with the groups of one more axis
choose : (reduced : ℕ → Bool) (first n : ℕ) (ns result idx start box : List ℕ) (is : Bool) → reduced first ≡ is
    → IsStart ((if is then Some n else None) ∷ groups_from reduced (first + 1) ns) (n ∷ ns) result idx start box → IsStart (groups_from reduced first (n ∷ ns)) (n ∷ ns) result idx start box
choose reduced first n ns result idx start box is here = subst (λ (b : Bool). IsStart ((if b then Some n else None) ∷ groups_from reduced (first + 1) ns) (n ∷ ns) result idx start box) (sym here)

row : (a b x y i : ℕ) → a ≡ b → x ≡ y → i * a + x ≡ i * b + y
row a b x y i p q = ap (λ c. i * c + x) p ∙ ap (λ z. i * b + z) q

no_row : (a b x y i : ℕ) → i < 1 → x ≡ y → 0 * a + x ≡ i * b + y
no_row a b x y zero l q = (let e : 0 * a + x ≡ 0 * b + y = omega (arith, q) in e)
no_row a b x y (suc i) l q = absurd (omega arith)

heads : (x y : ℕ) (xs ys : List ℕ) → x ≡ y → xs ≡ ys → x ∷ xs ≡ y ∷ ys
heads x y xs ys p q = ap (λ z. z ∷ xs) p ∙ ap (λ zs. y ∷ zs) q

pub is_start : (reduced : ℕ → Bool) (first : ℕ) (keepdims : Bool) (ms : List Bool) (ns idx : List ℕ) → AreMarked reduced first ms ns → IsInside (kept_sizes keepdims ns ms) idx
    → IsStart (groups_from reduced first ns) ns (kept_sizes keepdims ns ms) idx (start_along keepdims ms ns idx) (box_along ms ns)
is_start reduced first keepdims ms [] [] h inside = record { inside = tt; place = refl; lo = refl; sizes = refl }
is_start reduced first keepdims ms [] (i ∷ is) h inside = absurd inside
is_start reduced first keepdims [] (n ∷ ns) [] h inside = absurd inside
is_start reduced first keepdims [] (n ∷ ns) (i ∷ is) h inside =
    let here : reduced first ≡ false = marked_here reduced first [] n ns h in
    let next = unmarked_rest reduced first n ns h in
    let rest = is_start reduced (first + 1) keepdims [] ns is next (subst (λ (ds : List ℕ). IsInside ds is) (sym (unkept keepdims ns)) inside.1) in
    let sizes = squeezed_product (group_counts (groups_from reduced (first + 1) ns) ns) _ (kept_sizes keepdims ns []) _ (squeezed reduced (first + 1) keepdims [] ns ns refl next) ∙ ap product (unkept keepdims ns) in
    let place = rest.place ∙ ap (λ ds. place_of ds is) (unkept keepdims ns) in
    choose reduced first n ns (kept_sizes keepdims (n ∷ ns) []) (i ∷ is) (start_along keepdims [] (n ∷ ns) (i ∷ is)) (box_along [] (n ∷ ns)) false here (record {
      inside = (inside.0, rest.inside);
      place = row _ _ _ _ i sizes place;
      lo = ap (λ xs. i ∷ xs) rest.lo;
      sizes = heads (suc i - i) 1 _ _ (omega arith) rest.sizes;
    })
is_start reduced first true (true ∷ ms) (n ∷ ns) [] h inside = absurd inside
is_start reduced first true (true ∷ ms) (n ∷ ns) (i ∷ is) h inside =
    let here : reduced first ≡ true = marked_here reduced first (true ∷ ms) n ns h in
    let rest = is_start reduced (first + 1) true ms ns is (marked_rest reduced first true ms n ns h) inside.1 in
    choose reduced first n ns (kept_sizes true (n ∷ ns) (true ∷ ms)) (i ∷ is) (start_along true (true ∷ ms) (n ∷ ns) (i ∷ is)) (box_along (true ∷ ms) (n ∷ ns)) true here (record {
      inside = ((let one = one_group n in omega (arith, one)), rest.inside);
      place = no_row _ _ _ _ i inside.0 rest.place;
      lo = heads (0 * n) 0 _ _ (omega arith) rest.lo;
      sizes = heads (min n (suc 0 * n) - 0 * n) n _ _ (omega arith) rest.sizes;
    })
is_start reduced first false (true ∷ ms) (n ∷ ns) idx h inside =
    let here : reduced first ≡ true = marked_here reduced first (true ∷ ms) n ns h in
    let rest = is_start reduced (first + 1) false ms ns idx (marked_rest reduced first true ms n ns h) inside in
    choose reduced first n ns (kept_sizes false (n ∷ ns) (true ∷ ms)) idx (start_along false (true ∷ ms) (n ∷ ns) idx) (box_along (true ∷ ms) (n ∷ ns)) true here (record {
      inside = ((let one = one_group n in omega (arith, one)), rest.inside);
      place = (let e = rest.place in omega (arith, e));
      lo = heads (0 * n) 0 _ _ (omega arith) rest.lo;
      sizes = heads (min n (suc 0 * n) - 0 * n) n _ _ (omega arith) rest.sizes;
    })
is_start reduced first keepdims (false ∷ ms) (n ∷ ns) [] h inside = absurd inside
is_start reduced first keepdims (false ∷ ms) (n ∷ ns) (i ∷ is) h inside =
    let here : reduced first ≡ false = marked_here reduced first (false ∷ ms) n ns h in
    let next = marked_rest reduced first false ms n ns h in
    let rest = is_start reduced (first + 1) keepdims ms ns is next inside.1 in
    let sizes = squeezed_product (group_counts (groups_from reduced (first + 1) ns) ns) _ (kept_sizes keepdims ns ms) _ (squeezed reduced (first + 1) keepdims ms ns ns refl next) in
    choose reduced first n ns (kept_sizes keepdims (n ∷ ns) (false ∷ ms)) (i ∷ is) (start_along keepdims (false ∷ ms) (n ∷ ns) (i ∷ is)) (box_along (false ∷ ms) (n ∷ ns)) false here (record {
      inside = (inside.0, rest.inside);
      place = row _ _ _ _ i sizes rest.place;
      lo = ap (λ xs. i ∷ xs) rest.lo;
      sizes = heads (suc i - i) 1 _ _ (omega arith) rest.sizes;
    })

-- so the indices of the group are these
pub group_is : (reduced : ℕ → Bool) (keepdims : Bool) (ms : List Bool) (ns idx : List ℕ) → AreMarked reduced 0 ms ns → IsInside (kept_sizes keepdims ns ms) idx
    → group_indices (groups_of reduced ns) ns (group_of (groups_of reduced ns) ns (kept_sizes keepdims ns ms) idx) ≡ map (sums (start_along keepdims ms ns idx)) (indices_of (box_along ms ns))
group_is reduced keepdims ms ns idx h inside =
    let gs = groups_of reduced ns in
    let s = is_start reduced 0 keepdims ms ns idx h inside in
    let start = start_along keepdims ms ns idx in
    let of : group_of (groups_of reduced ns) ns (kept_sizes keepdims ns ms) idx ≡ start_along keepdims ms ns idx =
    ap (index_at (group_counts (groups_of reduced ns) ns)) (sym s.place) ∙ index-place (group_counts (groups_of reduced ns) ns) (start_along keepdims ms ns idx) s.inside in
    ap (group_indices gs ns) of
    ∙ ap (λ box. map (sums (group_lo gs start)) (indices_of box)) s.sizes
    ∙ ap (λ lo. map (sums lo) (indices_of (box_along ms ns))) s.lo

-- ---- the same by the axes' numbers

-- where the result has the index of a kept axis
abbrev position : Bool → List Bool → ℕ → ℕ
position keepdims ms zero = 0
position keepdims [] (suc i) = suc (position keepdims [] i)
position true (true ∷ ms) (suc i) = suc (position true ms i)
position false (true ∷ ms) (suc i) = position false ms i
position keepdims (false ∷ ms) (suc i) = suc (position keepdims ms i)

position_kept : (ms : List Bool) (i : ℕ) → position true ms i ≡ i
position_kept ms zero = refl
position_kept [] (suc i) = ap suc (position_kept [] i)
position_kept (true ∷ ms) (suc i) = ap suc (position_kept ms i)
position_kept (false ∷ ms) (suc i) = ap suc (position_kept ms i)

-- a function of the axes from number `first` on says the same as the marks
abbrev AreNamed : (ℕ → Bool) → ℕ → List Bool → ℕ → Type 0
AreNamed named first ms count = (i : ℕ) → i < count → named (first + i) ≡ get_or ms i false

named_here : (named : ℕ → Bool) (first : ℕ) (ms : List Bool) (count : ℕ) → AreNamed named first ms (suc count) → named first ≡ get_or ms 0 false
named_here named first ms count h = subst (λ (d : ℕ). named d ≡ get_or ms 0 false) (let e : first + 0 ≡ first = omega arith in e) (h 0 (omega arith))

named_rest : (named : ℕ → Bool) (first : ℕ) (m : Bool) (ms : List Bool) (count : ℕ) → AreNamed named first (m ∷ ms) (suc count) → AreNamed named (first + 1) ms count
named_rest named first m ms count h i l = subst (λ (d : ℕ). named d ≡ get_or ms i false) (let e : first + suc i ≡ first + 1 + i = omega arith in e) (h (suc i) (omega arith))

unnamed_rest : (named : ℕ → Bool) (first count : ℕ) → AreNamed named first [] (suc count) → AreNamed named (first + 1) [] count
unnamed_rest named first count h i l = subst (λ (d : ℕ). named d ≡ false) (let e : first + suc i ≡ first + 1 + i = omega arith in e) (h (suc i) (omega arith))

count_kept : (named : ℕ → Bool) (first : ℕ) (ms : List Bool) (count : ℕ) → AreNamed named first ms count → sum_by (λ k. cond (not (named k)) 1 0) (range_with_len first count) ≡ position false ms count
count_kept named first ms zero h = refl
count_kept named first [] (suc count) h =
    let here : named first ≡ false = named_here named first [] count h in
    let sum = sum_by-cons (λ k. cond (not (named k)) 1 0) first (range_with_len (first + 1) count) in
    let one = ap {B = ℕ} (λ (b : Bool). cond (not b) 1 0) here in
    let rest = count_kept named (first + 1) [] count (unnamed_rest named first count h) in
    omega (arith, sum, one, rest)
count_kept named first (true ∷ ms) (suc count) h =
    let here : named first ≡ true = named_here named first (true ∷ ms) count h in
    let sum = sum_by-cons (λ k. cond (not (named k)) 1 0) first (range_with_len (first + 1) count) in
    let none = ap {B = ℕ} (λ (b : Bool). cond (not b) 1 0) here in
    let rest = count_kept named (first + 1) ms count (named_rest named first true ms count h) in
    omega (arith, sum, none, rest)
count_kept named first (false ∷ ms) (suc count) h =
    let here : named first ≡ false = named_here named first (false ∷ ms) count h in
    let sum = sum_by-cons (λ k. cond (not (named k)) 1 0) first (range_with_len (first + 1) count) in
    let one = ap {B = ℕ} (λ (b : Bool). cond (not b) 1 0) here in
    let rest = count_kept named (first + 1) ms count (named_rest named first false ms count h) in
    omega (arith, sum, one, rest)

box_from : (named : ℕ → Bool) (at : ℕ → ℕ) (first : ℕ) (ms : List Bool) (ns : List ℕ) → AreNamed named first ms (length ns) → ((i : ℕ) → at (first + i) ≡ get_or ns i 0)
    → map (λ d. if named d then at d else 1) (range_with_len first (length ns)) ≡ box_along ms ns
box_from named at first ms [] h is = refl
box_from named at first [] (n ∷ ns) h is =
    heads _ 1 _ _ (ap (λ (b : Bool). if b then at first else 1) (named_here named first [] (length ns) h))
    (box_from named at (first + 1) [] ns (unnamed_rest named first (length ns) h) (λ i. ap at (let e : first + 1 + i ≡ first + suc i = omega arith in e) ∙ is (suc i)))
box_from named at first (m ∷ ms) (n ∷ ns) h is =
    let own : at first ≡ n = ap at (let e : first ≡ first + 0 = omega arith in e) ∙ is 0 in
    heads _ (if m then n else 1) _ _ (ap (λ (b : Bool). if b then at first else 1) (named_here named first (m ∷ ms) (length ns) h) ∙ ap (λ x. if m then x else 1) own)
    (box_from named at (first + 1) ms ns (named_rest named first m ms (length ns) h) (λ i. ap at (let e : first + 1 + i ≡ first + suc i = omega arith in e) ∙ is (suc i)))

-- the index that the result has of the axes from number `first` on
abbrev HasIndex : (ℕ → ℕ) → ℕ → Bool → List Bool → List ℕ → ℕ → Type 0
HasIndex value first keepdims ms idx count = (i : ℕ) → i < count → value (first + i) ≡ get_or idx (position keepdims ms i) 0

index_here : (value : ℕ → ℕ) (first : ℕ) (keepdims : Bool) (ms : List Bool) (idx : List ℕ) (count : ℕ) → HasIndex value first keepdims ms idx (suc count) → value first ≡ get_or idx 0 0
index_here value first keepdims ms idx count h = ap value (let e : first ≡ first + 0 = omega arith in e) ∙ h 0 (omega arith)

start_from : (named : ℕ → Bool) (value : ℕ → ℕ) (first : ℕ) (keepdims : Bool) (ms : List Bool) (ns idx : List ℕ) → AreNamed named first ms (length ns) → HasIndex value first keepdims ms idx (length ns)
    → map (λ d. if named d then 0 else value d) (range_with_len first (length ns)) ≡ start_along keepdims ms ns idx
start_from named value first keepdims ms [] idx h is = refl
start_from named value first keepdims [] (n ∷ ns) [] h is =
    heads _ 0 _ _ (ap (λ (b : Bool). if b then 0 else value first) (named_here named first [] (length ns) h) ∙ index_here value first keepdims [] [] (length ns) is)
    (start_from named value (first + 1) keepdims [] ns [] (unnamed_rest named first (length ns) h) (λ i l. ap value (let e : first + 1 + i ≡ first + suc i = omega arith in e) ∙ is (suc i) (omega arith)))
start_from named value first keepdims [] (n ∷ ns) (i ∷ is) h index =
    heads _ i _ _ (ap (λ (b : Bool). if b then 0 else value first) (named_here named first [] (length ns) h) ∙ index_here value first keepdims [] (i ∷ is) (length ns) index)
    (start_from named value (first + 1) keepdims [] ns is (unnamed_rest named first (length ns) h) (λ j l. ap value (let e : first + 1 + j ≡ first + suc j = omega arith in e) ∙ index (suc j) (omega arith)))
start_from named value first true (true ∷ ms) (n ∷ ns) [] h index =
    heads _ 0 _ _ (ap (λ (b : Bool). if b then 0 else value first) (named_here named first (true ∷ ms) (length ns) h))
    (start_from named value (first + 1) true ms ns [] (named_rest named first true ms (length ns) h) (λ j l. ap value (let e : first + 1 + j ≡ first + suc j = omega arith in e) ∙ index (suc j) (omega arith)))
start_from named value first true (true ∷ ms) (n ∷ ns) (i ∷ is) h index =
    heads _ 0 _ _ (ap (λ (b : Bool). if b then 0 else value first) (named_here named first (true ∷ ms) (length ns) h))
    (start_from named value (first + 1) true ms ns is (named_rest named first true ms (length ns) h) (λ j l. ap value (let e : first + 1 + j ≡ first + suc j = omega arith in e) ∙ index (suc j) (omega arith)))
start_from named value first false (true ∷ ms) (n ∷ ns) idx h index =
    heads _ 0 _ _ (ap (λ (b : Bool). if b then 0 else value first) (named_here named first (true ∷ ms) (length ns) h))
    (start_from named value (first + 1) false ms ns idx (named_rest named first true ms (length ns) h) (λ j l. ap value (let e : first + 1 + j ≡ first + suc j = omega arith in e) ∙ index (suc j) (omega arith)))
start_from named value first keepdims (false ∷ ms) (n ∷ ns) [] h index =
    heads _ 0 _ _ (ap (λ (b : Bool). if b then 0 else value first) (named_here named first (false ∷ ms) (length ns) h) ∙ index_here value first keepdims (false ∷ ms) [] (length ns) index)
    (start_from named value (first + 1) keepdims ms ns [] (named_rest named first false ms (length ns) h) (λ j l. ap value (let e : first + 1 + j ≡ first + suc j = omega arith in e) ∙ index (suc j) (omega arith)))
start_from named value first keepdims (false ∷ ms) (n ∷ ns) (i ∷ is) h index =
    heads _ i _ _ (ap (λ (b : Bool). if b then 0 else value first) (named_here named first (false ∷ ms) (length ns) h) ∙ index_here value first keepdims (false ∷ ms) (i ∷ is) (length ns) index)
    (start_from named value (first + 1) keepdims ms ns is (named_rest named first false ms (length ns) h) (λ j l. ap value (let e : first + 1 + j ≡ first + suc j = omega arith in e) ∙ index (suc j) (omega arith)))

-- ---- the axes that are named are those that are marked

or_none : (b : Bool) → b ≡ (b || false)
or_none true = refl
or_none false = refl

or_true : (b c : Bool) → c ≡ true → true ≡ (b || c)
or_true true c h = refl
or_true false c h = sym h

named_after : (rank : ℕ) (marks : List Bool) (ds : List ℤ) (last : List Bool) (d : ℕ) → rank ≤ length marks → marked_after rank marks ds ≡ Some last
    → get_or last d false ≡ (get_or marks d false || list_any (λ axis. axis_in rank axis == d) ds)
named_after rank marks [] last d few h = let same : marks ≡ last = cc in ap (λ (ms : List Bool). get_or ms d false) (sym same) ∙ or_none (get_or marks d false)
named_after rank marks (x ∷ ds) last d few h =
    let f = first_named rank marks x ds last h in
    let below = axis_below x rank f.axis f.names in
    let long = length-set marks f.axis true in
    let rest = named_after rank (set marks f.axis true) ds last d (omega (arith, few, long)) f.rest in
    let axis : axis_in rank x ≡ f.axis = ap (λ o. unwrap_or o 0) f.names in
    elim (eqb_tells d f.axis) [
      | inl same ↦
          let own : get_or (set marks f.axis true) d false ≡ true = ap (λ k. get_or (set marks f.axis true) k false) same.1 ∙ get_or-set_same marks f.axis true false (omega (arith, below, few)) in
          let is : (axis_in rank x == d) ≡ true = eq-eqb (axis_in rank x) d (axis ∙ sym same.1) in
          let any : list_any (λ axis. axis_in rank axis == d) (x ∷ ds) ≡ true = rw is refl in
          rest ∙ ap (λ (b : Bool). b || list_any (λ axis. axis_in rank axis == d) ds) own ∙ or_true (get_or marks d false) (list_any (λ axis. axis_in rank axis == d) (x ∷ ds)) any
      | inr other ↦
          let own = get_or-set_other marks f.axis d true false other.1 in
          let differs : (axis_in rank x == d) ≡ false = ne_eqb (axis_in rank x) d (λ e. other.1 (sym e ∙ axis)) in
          let any : list_any (λ axis. axis_in rank axis == d) ds ≡ list_any (λ axis. axis_in rank axis == d) (x ∷ ds) = rw differs refl in
          rest ∙ ap (λ (b : Bool). b || list_any (λ axis. axis_in rank axis == d) ds) own ∙ ap (λ (b : Bool). get_or marks d false || b) any
    ]

none_of_six : (d : ℕ) → get_or (replicate 6 false) d false ≡ false
none_of_six zero = refl
none_of_six (suc zero) = refl
none_of_six (suc (suc zero)) = refl
none_of_six (suc (suc (suc zero))) = refl
none_of_six (suc (suc (suc (suc zero)))) = refl
none_of_six (suc (suc (suc (suc (suc zero))))) = refl
none_of_six (suc (suc (suc (suc (suc (suc d)))))) = refl

all_of_six : (d : ℕ) → d < 6 → get_or all_marked d false ≡ true
all_of_six zero l = refl
all_of_six (suc zero) l = refl
all_of_six (suc (suc zero)) l = refl
all_of_six (suc (suc (suc zero))) l = refl
all_of_six (suc (suc (suc (suc zero)))) l = refl
all_of_six (suc (suc (suc (suc (suc zero))))) l = refl
all_of_six (suc (suc (suc (suc (suc (suc d)))))) l = absurd (omega arith)

pub named_marked : (rank : ℕ) (axes : Option (List ℤ)) (marks : List Bool) (d : ℕ) → rank ≤ 6 → d < rank → marks_of rank axes ≡ Some marks → is_named rank axes d ≡ get_or marks d false
named_marked rank None marks d few l h = let same : all_marked ≡ marks = cc in sym (all_of_six d (omega (arith, few, l))) ∙ ap (λ (ms : List Bool). get_or ms d false) same
named_marked rank (Some ds) marks d few l h =
    sym (named_after rank (replicate 6 false) ds marks d few h ∙ ap (λ (b : Bool). b || list_any (λ axis. axis_in rank axis == d) ds) (none_of_six d))

-- ---- the whole

-- the marks of a reduction name its axes
module _ (axes : Option (List ℤ)) (keepdims : Bool) (shape : List ℕ) (marks : List Bool) (few : length shape ≤ 6) (named : marks_of (length shape) axes ≡ Some marks) where
  are_named : AreNamed (is_named (length shape) axes) 0 marks (length shape)
  are_named i l = ap (is_named (length shape) axes) (let e : 0 + i ≡ i = omega arith in e) ∙ named_marked (length shape) axes marks i few l named

  pub box_is : reduced_box axes shape ≡ box_along marks shape
  box_is = box_from (is_named (length shape) axes) (slice_index shape) 0 marks shape are_named (λ i. ap (slice_index shape) (let e : 0 + i ≡ i = omega arith in e))

  kept_position : (d : ℕ) → d < length shape → (if keepdims then d else kept_before (length shape) axes d) ≡ position keepdims marks d
  kept_position d l = by_kind keepdims
    where
      by_kind : (kept : Bool) → (if kept then d else kept_before (length shape) axes d) ≡ position kept marks d
      by_kind true = sym (position_kept marks d)
      by_kind false = count_kept (is_named (length shape) axes) 0 marks d (λ i below. are_named i (omega (arith, l, below)))

  pub start_is : (idx : List ℕ) → reduced_start axes keepdims (length shape) idx ≡ start_along keepdims marks shape idx
  start_is idx =
      start_from (is_named (length shape) axes) (λ d. slice_index idx (if keepdims then d else kept_before (length shape) axes d)) 0 keepdims marks shape idx are_named
      (λ i l. ap (λ d. slice_index idx (if keepdims then d else kept_before (length shape) axes d)) (let e : 0 + i ≡ i = omega arith in e) ∙ ap (slice_index idx) (kept_position i l))
