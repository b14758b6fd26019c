-- The rounds of the axes in turn keep the rule of a round.
use Rattle.std.proofs.Common.{◌≡◌, ℕ, zero, suc, ◌+◌, ◌<◌, ◌≤◌, Bool, true, false, IsTrue, if◌then◌else◌, List, [], ◌∷◌, ◌++◌, length, get_or, set, max, ◌^◌, nat_lt, refl, sym, ◌∙◌, subst, arith, inl, inr}
use Rattle.std.specs.Int.{div_ceil}
use Rattle.std.proofs.Math.Seq.{get_or-append_seam, set-append_seam}
use Rattle.std.proofs.Math.ListN.{length-set}
use Rattle.std.proofs.lemmas.List.{get_or-set_same, get_or-set_other, length-append, append_assoc, append-nil, get_or_append_left}
use Rattle.std.proofs.lemmas.Bool.{ltb-true, ltb-false}
use Rattle.std.proofs.lemmas.Bool.Decides.{eqb_tells}
use Rattle.cu_origin.specs.Pull.{has_axis}
use Rattle.cu_origin.specs.declared.axes.Axes.{Axes}
use Rattle.cu_num.specs.declared.types.Dtype.{Dtype}
use Rattle.cu_shape.specs.Counts.{counts_of}
use Rattle.cu_shape.proofs.Axes.{length-axis_by_axis}
use Rattle.cu_node.specs.declared.info.NodeInfo.{NodeInfo}
use Rattle.cu_tree.specs.Partials.{first_partial, reduction_rounds, inner_count, product_partial, product_rounds}
use Rattle.cu_tree.specs.Rounds.{merge_round, axis_rounds, rounds_from, AreMerged, IsRound, AreRounds}
use Rattle.std.proofs.lemmas.Nat.Bits.{bit_at-pow_same, bit_at-pow_other}
use Rattle.cu_tree.proofs.Sizes.{some_over, length-dims, size_at}
use Rattle.cu_tree.specs.declared.round.Round.{Round}
use Rattle.cu_tree.proofs.Falls.{halves}

merged_front : (axes : Axes) (done ns : List ℕ) → AreMerged axes done (length done) → AreMerged axes (done ++ ns) (length done)
merged_front axes done ns h d b t = rw (get_or_append_left done ns 0 d b) (h d b t)

-- an axis more of which at most one is left, or which is not reduced
merged_more : (axes : Axes) (done : List ℕ) (n : ℕ) → AreMerged axes done (length done) → (IsTrue (has_axis axes (length done)) → n ≤ 1) → AreMerged axes (done ++ n ∷ []) (length (done ++ n ∷ []))
merged_more axes done n h k d b t =
    let l = length-append done (n ∷ []) in
    elim (eqb_tells d (length done)) [
      | inl p ↦ let e : d ≡ length done = p.1 in
          rw e (rw (get_or-append_seam done n [] 0) (k (subst (λ (x : ℕ). IsTrue (has_axis axes x)) e t)))
      | inr p ↦ let q = p.1 in let less : d < length done = omega arith in rw (get_or_append_left done (n ∷ []) 0 d less) (h d less t)
    ]

first_round : (axes : Axes) (g : ℕ) (done ns : List ℕ) (n : ℕ) → AreMerged axes done (length done) → IsTrue (has_axis axes (length done)) → 1 < n
    → IsRound axes g (done ++ n ∷ ns) (merge_round g (length done) n)
first_round axes g done ns n h t more =
    let l = length-append done (n ∷ ns) in
    record {
      inside = omega arith;
      reduced = t;
      lowest = merged_front axes done (n ∷ ns) h;
      from = sym (get_or-append_seam done n ns 0);
      several = more;
      to = refl;
    }

-- the rounds of one axis, and then those that are right wherever it has at most one
pub one_axis : (axes : Axes) (g f : ℕ) (done ns : List ℕ) (n : ℕ) (rest : List Round) → 2 ≤ g → n ≤ f → AreMerged axes done (length done) → IsTrue (has_axis axes (length done))
    → ((m : ℕ) → m ≤ 1 → AreRounds axes g (done ++ m ∷ ns) rest) → AreRounds axes g (done ++ n ∷ ns) (axis_rounds g (length done) f n ++ rest)
one_axis axes g zero done ns n rest h p merged t k = k n (omega arith)
one_axis axes g (suc f) done ns n rest h p merged t k =
    by_count axes g f done ns n rest (nat_lt 1 n) refl merged t k
    (λ more. let half = halves n g h in one_axis axes g f done ns (div_ceil n g) rest h (omega arith) merged t k)
  where
    by_count : (axes : Axes) (g f : ℕ) (done ns : List ℕ) (n : ℕ) (rest : List Round) (b : Bool) → nat_lt 1 n ≡ b → AreMerged axes done (length done) → IsTrue (has_axis axes (length done))
        → ((m : ℕ) → m ≤ 1 → AreRounds axes g (done ++ m ∷ ns) rest)
        → (1 < n → AreRounds axes g (done ++ div_ceil n g ∷ ns) (axis_rounds g (length done) f (div_ceil n g) ++ rest))
        → AreRounds axes g (done ++ n ∷ ns) (axis_rounds g (length done) (suc f) n ++ rest)
    by_count axes g f done ns n rest true e merged t k next =
        let more = ltb-true 1 n e in
        rw e (first_round axes g done ns n merged t more, rw (set-append_seam done n ns (div_ceil n g)) (next more))
    by_count axes g f done ns n rest false e merged t k next =
        let few = ltb-false 1 n e in
        rw e (k n (omega arith))

-- the axes from one on, where those before it are merged
pub all_axes : (axes : Axes) (g : ℕ) (done ns : List ℕ) → 2 ≤ g → AreMerged axes done (length done) → AreRounds axes g (done ++ ns) (rounds_from axes g (length done) ns)
all_axes axes g done [] h merged = rw (append-nil done) merged
all_axes axes g done (n ∷ ns) h merged =
    by_axis axes g done ns n (has_axis axes (length done)) refl h merged
    (λ m k. moved axes g done ns m (all_axes axes g (done ++ m ∷ []) ns h (merged_more axes done m merged k)))
  where
    moved : (axes : Axes) (g : ℕ) (done ns : List ℕ) (m : ℕ) → AreRounds axes g ((done ++ m ∷ []) ++ ns) (rounds_from axes g (length (done ++ m ∷ [])) ns)
        → AreRounds axes g (done ++ m ∷ ns) (rounds_from axes g (length done + 1) ns)
    moved axes g done ns m h =
        subst (λ (xs : List ℕ). AreRounds axes g xs (rounds_from axes g (length done + 1) ns)) (append_assoc done (m ∷ []) ns)
        (subst (λ (k : ℕ). AreRounds axes g ((done ++ m ∷ []) ++ ns) (rounds_from axes g k ns)) (length-append done (m ∷ [])) h)

    by_axis : (axes : Axes) (g : ℕ) (done ns : List ℕ) (n : ℕ) (b : Bool) → has_axis axes (length done) ≡ b → 2 ≤ g → AreMerged axes done (length done)
        → ((m : ℕ) → (IsTrue (has_axis axes (length done)) → m ≤ 1) → AreRounds axes g (done ++ m ∷ ns) (rounds_from axes g (length done + 1) ns))
        → AreRounds axes g (done ++ n ∷ ns) (axis_rounds g (length done) (if has_axis axes (length done) then n else 1) (if has_axis axes (length done) then n else 1) ++ rounds_from axes g (length done + 1) ns)
    by_axis axes g done ns n true e h merged next =
        let here = one_axis axes g n done ns n (rounds_from axes g (length done + 1) ns) h (omega arith) merged e (λ m few. next m (λ t. few)) in
        subst (λ (b : Bool). AreRounds axes g (done ++ n ∷ ns) (axis_rounds g (length done) (if b then n else 1) (if b then n else 1) ++ rounds_from axes g (length done + 1) ns)) (sym e) here
    by_axis axes g done ns n false e h merged next =
        subst (λ (b : Bool). AreRounds axes g (done ++ n ∷ ns) (axis_rounds g (length done) (if b then n else 1) (if b then n else 1) ++ rounds_from axes g (length done + 1) ns)) (sym e)
        (next n (λ t. absurd (let w : false ≡ true = sym e ∙ t in cc w)))

pub are_rounds : (axes : Axes) (g : ℕ) (ns : List ℕ) → 2 ≤ g → AreRounds axes g ns (rounds_from axes g 0 ns)
are_rounds axes g ns h = all_axes axes g [] ns h (λ d b t. absurd (omega arith))

-- ---- counts that are the same where it matters

-- as many axes, and the same on each that is reduced, where 0 counts as 1
pub record AreAlike (axes : Axes) (xs ys : List ℕ) : Type 0 where
  pub ranks : length ys ≡ length xs
  pub at : (d : ℕ) → d < length xs → IsTrue (has_axis axes d) → get_or ys d 0 ≡ max 1 (get_or xs d 0)

alike_merged : (axes : Axes) (xs ys : List ℕ) (end : ℕ) → end ≤ length xs → AreAlike axes xs ys → AreMerged axes xs end → AreMerged axes ys end
alike_merged axes xs ys end le a h d b t = let e = a.at d (omega arith) t in let m = h d b t in omega (arith, e, m)

alike_set : (axes : Axes) (xs ys : List ℕ) (axis to : ℕ) → axis < length xs → 0 < to → AreAlike axes xs ys → AreAlike axes (set xs axis to) (set ys axis to)
alike_set axes xs ys axis to inside some a =
    record {
      ranks = length-set ys axis to ∙ (a.ranks ∙ sym (length-set xs axis to));
      at = λ d b t. elim (eqb_tells d axis) [
        | inl p ↦ let e = p.1 in let r = a.ranks in rw (e, get_or-set_same xs axis to 0 inside, get_or-set_same ys axis to 0 (omega arith)) (omega arith)
        | inr p ↦ let l = length-set xs axis to in rw (get_or-set_other xs axis d to 0 p.1, get_or-set_other ys axis d to 0 p.1) (a.at d (omega arith) t)
      ];
    }

pub alike_rounds : (axes : Axes) (g : ℕ) (xs ys : List ℕ) (rs : List Round) → 2 ≤ g → AreAlike axes xs ys → AreRounds axes g xs rs → AreRounds axes g ys rs
alike_rounds axes g xs ys [] h a rule = rw (a.ranks) (alike_merged axes xs ys (length xs) (omega arith) a rule)
alike_rounds axes g xs ys (r ∷ rs) h a rule =
    let w = rule.0 in
    let s = w.several in
    let f = w.from in
    let n = a.ranks in
    let i = w.inside in
    let e = a.at r.axis i w.reduced in
    let some : 0 < r.to = rw (w.to) (some_over r.from g (omega arith) (omega arith)) in (
      record { inside = omega arith; reduced = w.reduced; lowest = alike_merged axes xs ys r.axis (omega arith) a w.lowest; from = omega (arith, e, f, s); several = s; to = w.to },
      alike_rounds axes g (set xs r.axis r.to) (set ys r.axis r.to) rs h (alike_set axes xs ys r.axis r.to i some a) rule.1,
    )

-- ---- of a reduction and of a product

pub of_reduction : (t : Dtype) (axes : Axes) (g : ℕ) (source : NodeInfo) → 2 ≤ g → length source.chunk ≡ length source.dims → AreRounds axes g (first_partial t axes source).dims (reduction_rounds axes g source)
of_reduction t axes g source h ranks =
    let l = length-axis_by_axis div_ceil source.dims source.chunk (sym ranks) in
    alike_rounds axes g (counts_of source.dims source.chunk) (first_partial t axes source).dims (reduction_rounds axes g source) h
    (record {
      ranks = length-dims (has_axis axes) 0 source.dims source.chunk ranks ∙ sym l;
      at = λ d b t. size_at axes 0 source.dims source.chunk d ranks (omega arith) (let z : 0 + d ≡ d = omega arith in rw z t);
    })
    (are_rounds axes g (counts_of source.dims source.chunk) h)

-- the set of one axis has that axis alone
only_own : (k : ℕ) → IsTrue (has_axis (record { 0 = 2 ^ k }) k)
only_own k = rw (bit_at-pow_same k) refl

only : (k d : ℕ) → IsTrue (has_axis (record { 0 = 2 ^ k }) d) → d ≡ k
only k d t = elim (eqb_tells d k) [
  | inl p ↦ p.1
  | inr p ↦ let n : has_axis (record { 0 = 2 ^ k }) d ≡ false = rw (bit_at-pow_other k d p.1) refl in absurd (let w : false ≡ true = sym n ∙ t in cc w)
]

pub of_product : (g : ℕ) (left made : NodeInfo) → 2 ≤ g → AreRounds (record { 0 = 2 ^ length made.dims }) g (product_partial left made).dims (product_rounds g left made)
of_product g left made h =
    let n = inner_count left in
    let axes : Axes = record { 0 = 2 ^ length made.dims } in
    alike_rounds axes g (made.dims ++ n ∷ []) (product_partial left made).dims (product_rounds g left made) h
    (record {
      ranks = length-append made.dims (max 1 n ∷ []) ∙ sym (length-append made.dims (n ∷ []));
      at = last n;
    })
    (subst (AreRounds axes g (made.dims ++ n ∷ [])) (append-nil (product_rounds g left made))
    (one_axis axes g n made.dims [] n [] h (omega arith) others (only_own (length made.dims))
    (λ m few. merged_more axes made.dims m others (λ t. few))))
  where
    others : AreMerged (record { 0 = 2 ^ length made.dims }) made.dims (length made.dims)
    others d b t = let e = only (length made.dims) d t in absurd (omega arith)

    last : (n d : ℕ) → d < length (made.dims ++ n ∷ []) → IsTrue (has_axis (record { 0 = 2 ^ length made.dims }) d) → get_or (made.dims ++ max 1 n ∷ []) d 0 ≡ max 1 (get_or (made.dims ++ n ∷ []) d 0)
    last n d b t = let e = only (length made.dims) d t in rw (e, get_or-append_seam made.dims (max 1 n) [] 0, get_or-append_seam made.dims n [] 0) refl
