-- The tiers of arrays are the levels of each line.
use Rattle.std.proofs.Common.{◌≡◌, ℕ, zero, suc, ◌+◌, ◌*◌, ◌<◌, ◌≤◌, max, set, true, false, Bool, List, [], ◌∷◌, length, get_or, map, Option, None, Some, refl, sym, ap, ◌∙◌, subst, arith, if◌then◌else◌}
use Rattle.std.specs.Prelude.{option_map}
use Rattle.std.specs.Int.{div_ceil}
use Rattle.cu_num.specs.Dtype.{IsInteger}
use Rattle.cu_num.specs.declared.types.Dtype.{Dtype}
use Rattle.cu_shape.specs.Index.{IsInside}
use Rattle.cu_shape.proofs.Rounded.{within_counts}
use Rattle.cu_reduce.specs.Groups.{Groups, groups_from, group_counts}
use Rattle.cu_reduce.specs.Prefix.{line_through, cumulative}
use Rattle.cu_reduce.specs.Levels.{Level, AreLevels, group_sum, carry_sum}
use Rattle.cu_reduce.specs.Tiers.{IsOnly}
use Rattle.cu_reduce.specs.Tiers.{Array, Tier, AreTiers, HasChunkTier, carry_at, scan_at}
use Rattle.cu_along.proofs.LevelSums.{scan_all, scan_single}
use Rattle.cu_along.proofs.Lines.{group_on_line, set_again, set_own}

-- ---- an index that lies inside but for the axis

IsBeside : ℕ → List ℕ → List ℕ → Type 0
IsBeside zero (n ∷ ns) (i ∷ is) = IsInside ns is
IsBeside (suc a) (n ∷ ns) (i ∷ is) = (i < n) × IsBeside a ns is
IsBeside a ns is = ⊥

beside_of : (a : ℕ) (ns idx : List ℕ) → IsInside ns idx → a < length ns → IsBeside a ns idx
unfolding IsBeside
beside_of a [] idx h b = absurd (omega arith)
beside_of a (n ∷ ns) [] h b = absurd h
beside_of zero (n ∷ ns) (i ∷ is) h b = h.1
beside_of (suc a) (n ∷ ns) (i ∷ is) h b = (h.0, beside_of a ns is h.1 (omega arith))

beside_set : (a : ℕ) (ns idx : List ℕ) (j : ℕ) → IsBeside a ns idx → j < get_or ns a 0
    → IsInside ns (set idx a j)
unfolding IsBeside
beside_set zero [] idx j h b = absurd h
beside_set (suc a) [] idx j h b = absurd h
beside_set zero (n ∷ ns) [] j h b = absurd h
beside_set (suc a) (n ∷ ns) [] j h b = absurd h
beside_set zero (n ∷ ns) (i ∷ is) j h b = (b, h)
beside_set (suc a) (n ∷ ns) (i ∷ is) j h b = (h.0, beside_set a ns is j h.1 b)

beside_long : (a : ℕ) (ns idx : List ℕ) → IsBeside a ns idx → (a < length ns) × (a < length idx)
unfolding IsBeside
beside_long zero [] idx h = absurd h
beside_long (suc a) [] idx h = absurd h
beside_long zero (n ∷ ns) [] h = absurd h
beside_long (suc a) (n ∷ ns) [] h = absurd h
beside_long zero (n ∷ ns) (i ∷ is) h = (omega arith, omega arith)
beside_long (suc a) (n ∷ ns) (i ∷ is) h = let l = beside_long a ns is h.1 in
    (let p = l.0 in omega arith, let p = l.1 in omega arith)

-- ---- how many groups there are

abbrev front : Bool → ℕ → Groups → Groups
front b s gs = (if b then Some s else None) ∷ gs

kept_counts : (p : ℕ → Bool) (first : ℕ) (ss ns : List ℕ) → length ss ≡ length ns → ((d : ℕ)
    → first ≤ d → p d ≡ false) → group_counts (groups_from p first ss) ns ≡ ns
kept_counts p first [] [] e k = refl
kept_counts p first [] (n ∷ ns) e k = absurd (omega arith)
kept_counts p first (s ∷ ss) [] e k = absurd (omega arith)
kept_counts p first (s ∷ ss) (n ∷ ns) e k =
    ap (λ b. group_counts (front b s (groups_from p (first + 1) ss)) (n ∷ ns)) (k first
    (omega arith))
    ∙ ap (λ ms. n ∷ ms) (kept_counts p (first + 1) ss ns (omega arith) (λ d b. k d (omega arith)))

counts_beside : (p : ℕ → Bool) (axis first a : ℕ) (ss ns idx : List ℕ) → IsOnly p axis
    → axis ≡ first + a → length ss ≡ length ns → IsBeside a ns idx
    → IsBeside a (group_counts (groups_from p first ss) ns) idx
unfolding IsBeside
counts_beside p axis first zero ss [] idx o e l h = absurd h
counts_beside p axis first (suc a) ss [] idx o e l h = absurd h
counts_beside p axis first zero ss (n ∷ ns) [] o e l h = absurd h
counts_beside p axis first (suc a) ss (n ∷ ns) [] o e l h = absurd h
counts_beside p axis first zero [] (n ∷ ns) (i ∷ is) o e l h = absurd (omega arith)
counts_beside p axis first (suc a) [] (n ∷ ns) (i ∷ is) o e l h = absurd (omega arith)
counts_beside p axis first zero (s ∷ ss) (n ∷ ns) (i ∷ is) o e l h =
    let here : axis ≡ first = omega arith in
    let own : true ≡ p first = sym (ap p (sym here) ∙ o.own) in
    let rest : ns ≡ group_counts (groups_from p (first + 1) ss) ns = sym (kept_counts p
    (first + 1) ss ns (omega arith) (λ d less. o.others d (λ same. omega arith))) in
    subst (λ b. IsBeside zero (group_counts (front b s (groups_from p (first + 1) ss)) (n ∷ ns))
    (i ∷ is)) own (subst (λ ms. IsInside ms is) rest h)
counts_beside p axis first (suc a) (s ∷ ss) (n ∷ ns) (i ∷ is) o e l h =
    let other : false ≡ p first = sym (o.others first (λ same. omega arith)) in
    subst (λ b. IsBeside (suc a) (group_counts (front b s (groups_from p (first + 1) ss))
    (n ∷ ns)) (i ∷ is)) other
    (h.0, counts_beside p axis (first + 1) a ss ns is o (omega arith) (omega arith) h.1)

counts_at : (p : ℕ → Bool) (axis first a : ℕ) (ss ns : List ℕ) → IsOnly p axis
    → axis ≡ first + a → length ss ≡ length ns → a < length ns
    → get_or (group_counts (groups_from p first ss) ns) a 0
    ≡ max 1 (div_ceil (get_or ns a 0) (get_or ss a 0))
counts_at p axis first a ss [] o e l b = absurd (omega arith)
counts_at p axis first a [] (n ∷ ns) o e l b = absurd (omega arith)
counts_at p axis first zero (s ∷ ss) (n ∷ ns) o e l b =
    let here : axis ≡ first = omega arith in
    ap (λ t. get_or (group_counts (front t s (groups_from p (first + 1) ss)) (n ∷ ns)) 0 0) (ap p
    (sym here) ∙ o.own)
counts_at p axis first (suc a) (s ∷ ss) (n ∷ ns) o e l b =
    ap (λ t. get_or (group_counts (front t s (groups_from p (first + 1) ss)) (n ∷ ns)) (suc a) 0)
    (o.others first (λ same. omega arith))
    ∙ counts_at p axis (first + 1) a ss ns o (omega arith) (omega arith) (omega arith)

-- where an axis has elements its groups are as many as pieces cover it
some_groups : (n s : ℕ) → 0 < n → 0 < s → max 1 (div_ceil n s) ≡ div_ceil n s
some_groups n s h k = let none : 0 * s
    ≡ 0 = omega arith in let p : 0 < div_ceil n s = within_counts n s 0 k
    (omega arith) in omega arith

same_sizes : (g : ℕ) (ns : List ℕ) → length (map (λ n. g) ns) ≡ length ns
same_sizes g [] = refl
same_sizes g (n ∷ ns) = ap suc (same_sizes g ns)

same_size : (g a : ℕ) (ns : List ℕ) → a < length ns → get_or (map (λ n. g) ns) a 0 ≡ g
same_size g a [] b = absurd (omega arith)
same_size g zero (n ∷ ns) b = refl
same_size g (suc a) (n ∷ ns) b = same_size g a ns (omega arith)

-- ---- levels

abbrev level_on : ℕ → List ℕ → Tier → Level
level_on axis idx t = record { size = get_or t.shape axis 0; sums = line_through t.sums axis idx; carry = line_through t.carry axis idx }

carried_on_line : (acc : Dtype) (axis g j : ℕ) (sums : Array) (above : Option Array)
    (idx : List ℕ) → axis < length idx
    → carry_at acc axis g sums above (set idx axis j)
    ≡ carry_sum acc g (line_through sums axis idx) (option_map
    (λ a. line_through a axis idx) above) j
carried_on_line acc axis g j sums above idx b =
    (λ i. carry_sum acc g (λ k. sums (set_again idx axis j k i)) (option_map (λ a k. a
    (set_again idx axis j k i)) above) (set_own idx axis j b i))

levels_on : (acc : Dtype) (p : ℕ → Bool) (axis g : ℕ) (t : Tier) (us : List Tier) (idx : List ℕ)
    → 0 < g → IsOnly p axis → AreTiers acc p axis g t us → IsBeside axis t.shape idx
    → 0 < get_or t.shape axis 0 → AreLevels acc g (level_on axis idx t) (map (level_on axis idx) us)
levels_on acc p axis g t [] idx s o h beside some =
    let long = (beside_long axis t.shape idx beside).1 in (
      h.0,
      λ j b. h.1 (set idx axis j) (beside_set axis t.shape idx j beside b)
          ∙ carried_on_line acc axis g j t.sums None idx long,
    )
levels_on acc p axis g t (u ∷ us) idx s o h beside some =
    let n = get_or t.shape axis 0 in
    let sizes = map (λ n. g) t.shape in
    let longs = beside_long axis t.shape idx beside in
    let within = longs.0 in
    let long = longs.1 in
    let each : get_or sizes axis 0 ≡ g = same_size g axis t.shape within in
    let next : IsBeside axis u.shape idx = subst (λ ms. IsBeside axis ms idx) (sym h.0)
    (counts_beside p axis 0 axis sizes t.shape idx o (omega arith)
    (same_sizes g t.shape) beside) in
    let count : get_or u.shape axis 0 ≡ div_ceil n g =
    ap (λ ms. get_or ms axis 0) h.0
    ∙ counts_at p axis 0 axis sizes t.shape o (omega arith) (same_sizes g t.shape) within
    ∙ ap (λ k. max 1 (div_ceil n k)) each ∙ some_groups n g some s in
    let none : 0 * g ≡ 0 = omega arith in
    let more : 0 < div_ceil n g = within_counts n g 0 s (omega arith) in (
      count,
      λ q b. h.1 (set idx axis q) (beside_set axis u.shape idx q next b)
          ∙ group_on_line acc t.sums p axis q sizes t.shape idx o
          (same_sizes g t.shape) within long (subst (λ ms. IsInside ms (set idx axis q)) h.0
          (beside_set axis u.shape idx q next b))
          ∙ ap (λ k. group_sum acc k n (line_through t.sums axis idx) q) each,
      λ j b. h.2 (set idx axis j) (beside_set axis t.shape idx j beside b)
          ∙ carried_on_line acc axis g j t.sums (Some u.carry) idx long,
      levels_on acc p axis g u us idx s o h.3 next (omega arith),
    )

-- an index inside, on an axis
at_axis : (a : ℕ) (ns is : List ℕ) → IsInside ns is → a < length ns → get_or is a 0 < get_or ns a 0
at_axis a [] is h b = absurd (omega arith)
at_axis a (n ∷ ns) [] h b = absurd h
at_axis zero (n ∷ ns) (i ∷ is) h b = h.0
at_axis (suc a) (n ∷ ns) (i ∷ is) h b = at_axis a ns is h.1 (omega arith)

pub scan_arrays : (acc : Dtype) (p : ℕ
    → Bool) (axis g : ℕ) (chunk shape : List ℕ) (f : Array) (t : Tier) (us : List Tier)
    (idx : List ℕ) → IsInteger acc → 0 < g → IsOnly p axis
    → length chunk ≡ length shape → axis < length shape → 0 < get_or chunk axis 0
    → HasChunkTier acc p chunk shape f t → AreTiers acc p axis g t us → IsInside shape idx
    → scan_at acc axis (get_or chunk axis 0) f (Some t.carry) idx
    ≡ cumulative acc (line_through f axis idx) (get_or idx axis 0)
scan_arrays acc p axis g chunk shape f t us idx a s o l b c k h inside =
    let n = get_or shape axis 0 in
    let own = get_or chunk axis 0 in
    let beside = beside_of axis shape idx inside b in
    let long = (beside_long axis shape idx beside).1 in
    let place : get_or idx axis 0 < n = at_axis axis shape idx inside b in
    let next : IsBeside axis t.shape idx = subst (λ ms. IsBeside axis ms idx) (sym k.0)
    (counts_beside p axis 0 axis chunk shape idx o (omega arith) l beside) in
    let count : get_or t.shape axis 0 ≡ div_ceil n own =
    ap (λ ms. get_or ms axis 0) k.0 ∙ counts_at p axis 0 axis chunk shape o (omega arith) l b
    ∙ some_groups n own (omega arith) c in
    let none : 0 * own ≡ 0 = omega arith in
    let more : 0 < div_ceil n own = within_counts n own 0 c (omega arith) in
    scan_all acc g own n (line_through f axis idx) (level_on axis idx t) (map
    (level_on axis idx) us) (get_or idx axis 0) a s c (
      count,
      λ q d. k.1 (set idx axis q) (beside_set axis t.shape idx q next d)
          ∙ group_on_line acc f p axis q chunk shape idx o l b long (subst (λ ms. IsInside ms
          (set idx axis q)) k.0 (beside_set axis t.shape idx q next d)),
    )
    (levels_on acc p axis g t us idx s o h next (omega arith)) place

-- where the axis is one chunk nothing is carried in
pub scan_single_array : (acc : Dtype) (axis c : ℕ) (shape : List ℕ) (f : Array) (idx : List ℕ)
    → axis < length shape → get_or shape axis 0 ≤ c → IsInside shape idx
    → scan_at acc axis c f None idx ≡ cumulative acc (line_through f axis idx) (get_or idx axis 0)
scan_single_array acc axis c shape f idx b few inside =
    scan_single acc c (get_or shape axis 0) (line_through f axis idx) (get_or idx axis 0) few (at_axis axis shape idx inside b)
