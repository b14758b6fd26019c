-- What an array of partial results carries of the array that is reduced, for any kind.
use Rattle.std.proofs.Common.{◌≡◌, ℕ, ℤ, suc, ◌+◌, ◌<◌, Bool, true, false, List, [], ◌∷◌, All, length, map, Option, None, Some, if◌then◌else◌, refl, ap, sym, ◌∙◌, subst, arith}
use Rattle.std.proofs.lemmas.List.{length-map}
use Rattle.cu_num.specs.declared.types.Dtype.{Dtype}
use Rattle.cu_num.specs.declared.folds.FoldKind.{FoldKind}
use Rattle.cu_shape.specs.Index.{IsInside}
use Rattle.cu_shape.proofs.Places.{inside-length}
use Rattle.cu_reduce.specs.Folds.{reduced_to}
use Rattle.cu_reduce.specs.Groups.{Groups, groups_from, groups_of, group_counts, group_lo, group_hi, group_indices}
use Rattle.cu_reduce.specs.Kinds.{Accumulates, IsTaken, HasEnough}
use Rattle.cu_reduce.specs.Parts.{part_start, Rises, part_indices, IsBetween, group_cuts, HaveMembers, composed, Covers, KeepsAxes, HasOnes}
use Rattle.cu_reduce.specs.Running.{IsEnough}
use Rattle.cu_reduce.proofs.Chained.{IsRound, composed_rise, round_of_kinds, round_enough}
use Rattle.cu_reduce.proofs.Covered.{groups_cover, composed_cover, whole_part}
use Rattle.cu_reduce.proofs.Grouped.{length-group_counts, length-group_lo, length-group_hi, length-groups_from, groups_rise, group_part, group_within, group_enough}
use Rattle.cu_reduce.proofs.Regions.{region_all}
use Rattle.cu_reduce.proofs.Rounds.{risen_to}
use Rattle.cu_origin.specs.Pull.{has_axis}
use Rattle.cu_origin.specs.declared.axes.Axes.{Axes}
use Rattle.cu_lower_reduce.specs.Reductions.{whole_groups}
use Rattle.cu_lower_reduce.proofs.Standing.{one_group}

-- ---- lists

pub same_map : {A B : Type 0} (f g : A → B) (xs : List A) → All (λ x. f x ≡ g x) xs → map f xs ≡ map g xs
same_map f g [] h = refl
same_map f g (x ∷ xs) h = let e : f x ≡ g x = h 0 x (omega arith) in let t = same_map f g xs (λ k d l. h (suc k) d (omega arith)) in (λ j. e j ∷ t j)

-- ---- parts

pub covers-length : (p : ℕ → Bool) (first : ℕ) (cs : List (ℕ → ℕ)) (ms ns : List ℕ) → Covers p first cs ms ns → (length cs ≡ length ms) × (length ms ≡ length ns)
covers-length p first [] [] [] c = (refl, refl)
covers-length p first (c ∷ cs) (m ∷ ms) (n ∷ ns) w = let e = covers-length p (first + 1) cs ms ns w.3 in (ap suc e.0, ap suc e.1)
covers-length p first cs ms ns w = absurd w

-- an index of a part is one of the whole
pub part_inside : (p : ℕ → Bool) (first : ℕ) (cs : List (ℕ → ℕ)) (ms ns q i : List ℕ) → Covers p first cs ms ns → Rises cs → IsInside ms q → IsBetween (part_start cs q) (part_start cs (map suc q)) i → IsInside ns i
part_inside p first [] [] [] q [] c r b w = tt
part_inside p first [] [] [] q (i ∷ is) c r b w = absurd w
part_inside p first (c ∷ cs) (m ∷ ms) (n ∷ ns) [] i w r b v = absurd b
part_inside p first (c ∷ cs) (m ∷ ms) (n ∷ ns) (q ∷ qs) [] w r b v = absurd v
part_inside p first (c ∷ cs) (m ∷ ms) (n ∷ ns) (q ∷ qs) (i ∷ is) w r b v =
    let e = w.1 in
    let a = b.0 in
    let u = risen_to c r.0 (suc q) m (omega arith) in
    let l = v.1 in
    (omega arith, part_inside p (first + 1) cs ms ns qs is w.3 r.1 b.1 v.2)
part_inside p first cs ms ns q i c r b w = absurd c

-- ---- groups of an array's chunks

pub members_chunk : (p : ℕ → Bool) (first : ℕ) (cs ns : List ℕ) → All (λ c. 0 < c) cs → HaveMembers (groups_from p first cs) ns
members_chunk p first [] ns h = tt
members_chunk p first (c ∷ cs) [] h = by_test (p first) (groups_from p (first + 1) cs)
  where
    by_test : (b : Bool) (gs : Groups) → HaveMembers ((if b then Some c else None) ∷ gs) []
    by_test true gs = tt
    by_test false gs = tt
members_chunk p first (c ∷ cs) (n ∷ ns) h = by_test (p first) (h 0 0 (omega arith)) (members_chunk p (first + 1) cs ns (λ k d l. h (suc k) d (omega arith)))
  where
    by_test : (b : Bool) → 0 < c → HaveMembers (groups_from p (first + 1) cs) ns → HaveMembers ((if b then Some c else None) ∷ groups_from p (first + 1) cs) (n ∷ ns)
    by_test true s m = (λ q. s, m)
    by_test false s m = m

pub groups_keep : (p : ℕ → Bool) (first : ℕ) (cs : List ℕ) → KeepsAxes p first (groups_from p first cs)
groups_keep p first [] = tt
groups_keep p first (c ∷ cs) = ((λ f. rw f refl), groups_keep p (first + 1) cs)

pub whole_ones : (p : ℕ → Bool) (first : ℕ) (ns : List ℕ) → HasOnes p first (group_counts (groups_from p first ns) ns)
whole_ones p first [] = tt
whole_ones p first (n ∷ ns) = by_test p first n ns (p first) refl (whole_ones p (first + 1) ns)
  where
    by_test : (p : ℕ → Bool) (first n : ℕ) (ns : List ℕ) (b : Bool) → p first ≡ b → HasOnes p (first + 1) (group_counts (groups_from p (first + 1) ns) ns)
        → HasOnes p first (group_counts (groups_from p first (n ∷ ns)) (n ∷ ns))
    by_test p first n ns true e h = rw e ((λ t. one_group n), h)
    by_test p first n ns false e h = rw e ((λ t. absurd (let w : false ≡ true = sym e ∙ t in cc w)), h)

-- ---- carried elements

-- On each axis a function tells where the parts begin; together they are the whole array, none is empty where the kind wants elements, and
-- the element `e` at each place is what is made of its part of the elements `f`.
pub record IsCarried (kind : FoldKind) (acc : Dtype) (axes : Axes) (shape counts : List ℕ) (f e : List ℕ → Option ℤ) : Type 0 where
  pub cuts : List (ℕ → ℕ)
  pub rises : Rises cuts
  pub covers : Covers (has_axis axes) 0 cuts counts shape
  pub enough : (p : List ℕ) → IsInside counts p → IsEnough kind (length (part_indices cuts p))
  pub value : (p : List ℕ) → IsInside counts p → e p ≡ reduced_to kind acc (map f (part_indices cuts p))

-- the elements that are there are numbers that the kind takes
abbrev pub AreTaken : FoldKind → Dtype → List ℕ → (List ℕ → Option ℤ) → Type 0
AreTaken kind acc shape f = (i : List ℕ) (x : ℤ) → IsInside shape i → f i ≡ Some x → IsTaken kind acc x

-- what is made of the groups of an array
pub first_carried : (kind : FoldKind) (acc : Dtype) (axes : Axes) (shape chunk : List ℕ) (f e : List ℕ → Option ℤ) → length chunk ≡ length shape → All (λ c. 0 < c) chunk
    → HasEnough kind (groups_of (has_axis axes) chunk) shape
    → ((q : List ℕ) → IsInside (group_counts (groups_of (has_axis axes) chunk) shape) q → e q ≡ reduced_to kind acc (map f (group_indices (groups_of (has_axis axes) chunk) shape q)))
    → IsCarried kind acc axes shape (group_counts (groups_of (has_axis axes) chunk) shape) f e
first_carried kind acc axes shape chunk f e ranks positive k h =
    let gs = groups_of (has_axis axes) chunk in
    let m = members_chunk (has_axis axes) 0 chunk shape positive in
    let l : length (groups_of (has_axis axes) chunk) ≡ length shape = length-groups_from (has_axis axes) 0 chunk ∙ ranks in
    record {
      cuts = group_cuts (groups_of (has_axis axes) chunk) shape;
      rises = groups_rise (groups_of (has_axis axes) chunk) shape;
      covers = groups_cover (has_axis axes) 0 (groups_of (has_axis axes) chunk) shape l (groups_keep (has_axis axes) 0 chunk) m;
      enough = λ p b. subst (λ (is : List (List ℕ)). IsEnough kind (length is)) (group_part (groups_of (has_axis axes) chunk) shape p m b) (group_enough kind (groups_of (has_axis axes) chunk) shape p m k b);
      value = λ p b. h p b ∙ ap (λ (is : List (List ℕ)). reduced_to kind acc (map f is)) (group_part (groups_of (has_axis axes) chunk) shape p m b);
    }

-- a round over groups of what is carried
pub round_carried : (kind : FoldKind) (t acc : Dtype) (axes : Axes) (shape counts : List ℕ) (gs : Groups) (f e u : List ℕ → Option ℤ) → Accumulates kind t acc → AreTaken kind acc shape f
    → length gs ≡ length counts → KeepsAxes (has_axis axes) 0 gs → HaveMembers gs counts → HasEnough kind gs counts → IsCarried kind acc axes shape counts f e
    → ((q : List ℕ) → IsInside (group_counts gs counts) q → u q ≡ reduced_to kind acc (map e (group_indices gs counts q)))
    → IsCarried kind acc axes shape (group_counts gs counts) f u
round_carried kind t acc axes shape counts gs f e u a taken l keeps members k c h = record {
  cuts = composed c.cuts (group_cuts gs counts);
  rises = composed_rise c.cuts (group_cuts gs counts) c.rises (groups_rise gs counts);
  covers = covers;
  enough = λ q b. round_enough c.cuts gs counts q (turn q b) kind k c.enough;
  value = λ q b. h q b ∙ (parts q b ∙ round_of_kinds c.cuts gs counts q (turn q b) kind t acc f a c.enough (λ i x w. taken i x (part_inside (has_axis axes) 0 (composed c.cuts (group_cuts gs counts)) (group_counts gs counts) shape q i covers (composed_rise c.cuts (group_cuts gs counts) c.rises (groups_rise gs counts)) b w)));
}
  where
    covers : Covers (has_axis axes) 0 (composed c.cuts (group_cuts gs counts)) (group_counts gs counts) shape
    covers = composed_cover (has_axis axes) 0 c.cuts gs counts shape l keeps members c.covers

    turn : (q : List ℕ) → IsInside (group_counts gs counts) q → IsRound c.cuts gs counts q
    turn q b = record { rises = c.rises; axes = (covers-length (has_axis axes) 0 c.cuts counts shape c.covers).0; groups = l; members = members; inside = b }

    ends : (q : List ℕ) → IsInside (group_counts gs counts) q → length (group_lo gs q) ≡ length (group_hi gs counts (map suc q))
    ends q b =
        let n : length q ≡ length counts = inside-length (group_counts gs counts) q b ∙ length-group_counts gs counts l in
        let m : length (map suc q) ≡ length counts = length-map q suc ∙ n in
        length-group_lo gs q (l ∙ sym n) ∙ n ∙ sym (length-group_hi gs counts (map suc q) (l ∙ sym m) (sym m) ∙ m)

    parts : (q : List ℕ) → IsInside (group_counts gs counts) q
        → reduced_to kind acc (map e (group_indices gs counts q)) ≡ reduced_to kind acc (map (λ p. reduced_to kind acc (map f (part_indices c.cuts p))) (group_indices gs counts q))
    parts q b =
        ap (reduced_to kind acc)
        (same_map e (λ p. reduced_to kind acc (map f (part_indices c.cuts p))) (group_indices gs counts q)
        (region_all (group_lo gs q) (group_hi gs counts (map suc q)) (λ p. e p ≡ reduced_to kind acc (map f (part_indices c.cuts p)))
        (ends q b)
        (λ p w. c.value p (group_within gs counts q p l b w))))

-- in the end each reduced axis is one part
pub end_carried : (kind : FoldKind) (acc : Dtype) (axes : Axes) (shape counts : List ℕ) (f e : List ℕ → Option ℤ) → counts ≡ group_counts (whole_groups axes shape) shape
    → IsCarried kind acc axes shape counts f e → (q : List ℕ) → IsInside counts q → e q ≡ reduced_to kind acc (map f (group_indices (whole_groups axes shape) shape q))
end_carried kind acc axes shape counts f e s c q b =
    c.value q b
    ∙ ap (λ (is : List (List ℕ)). reduced_to kind acc (map f is))
    (whole_part (has_axis axes) 0 c.cuts counts shape q c.covers (subst (HasOnes (has_axis axes) 0) (sym s) (whole_ones (has_axis axes) 0 shape)) b)
