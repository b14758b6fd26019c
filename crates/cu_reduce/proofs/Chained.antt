-- One round over groups of what is made of parts: it makes what is made of greater parts.
use Rattle.std.proofs.Common.{◌≡◌, ℕ, ◌<◌, suc, ℤ, Bool, List, [], ◌∷◌, length, map, Option, Some, refl, sym, ap, ◌∙◌, subst, arith}
use Rattle.std.proofs.lemmas.List.{length-map}
use Rattle.cu_num.specs.declared.types.Dtype.{Dtype}
use Rattle.cu_num.specs.declared.folds.FoldKind.{FoldKind}
use Rattle.cu_num.specs.declared.folds.FoldKind.TheVariants.{Min, Max}
use Rattle.cu_shape.specs.Index.{IsInside}
use Rattle.cu_shape.proofs.Places.{inside-length}
use Rattle.cu_reduce.specs.Folds.{reduced_to}
use Rattle.cu_reduce.specs.Groups.{Groups, HasElements, group_counts, group_lo, group_hi, group_indices}
use Rattle.cu_reduce.specs.Kinds.{Accumulates, IsTaken, HasEnough}
use Rattle.cu_reduce.specs.Parts.{part_start, Rises, part_indices, IsBetween, group_cuts, HaveMembers, composed}
use Rattle.cu_reduce.specs.Places.{Found, best_in}
use Rattle.cu_reduce.specs.Regions.{region_indices}
use Rattle.cu_reduce.specs.Running.{IsEnough}
use Rattle.cu_reduce.proofs.Grouped.{length-group_counts, length-group_lo, length-group_hi, group_bounds, group_within, group_not_empty}
use Rattle.cu_reduce.proofs.Rounds.{rounds_of_kinds, rounds_of_places, parts_enough, risen_to}

pub cut_composed : (cs ds : List (ℕ → ℕ)) (ps : List ℕ) → part_start (composed cs ds) ps ≡ part_start cs (part_start ds ps)
cut_composed [] ds ps = refl
cut_composed (c ∷ cs) [] ps = refl
cut_composed (c ∷ cs) (d ∷ ds) [] = refl
cut_composed (c ∷ cs) (d ∷ ds) (p ∷ ps) = ap (λ js. c (d p) ∷ js) (cut_composed cs ds ps)

pub composed_rise : (cs ds : List (ℕ → ℕ)) → Rises cs → Rises ds → Rises (composed cs ds)
composed_rise [] ds r q = tt
composed_rise (c ∷ cs) [] r q = tt
composed_rise (c ∷ cs) (d ∷ ds) r q = (λ p. risen_to c r.0 (d p) (d (suc p)) (q.0 p), composed_rise cs ds r.1 q.1)

pub length-composed : (cs ds : List (ℕ → ℕ)) → length cs ≡ length ds → length (composed cs ds) ≡ length cs
length-composed [] ds e = refl
length-composed (c ∷ cs) [] e = absurd (omega arith)
length-composed (c ∷ cs) (d ∷ ds) e = ap suc (length-composed cs ds (omega arith))

-- what a round wants of the parts, the groups of them and one of these groups
pub record IsRound (cuts : List (ℕ → ℕ)) (gs : Groups) (shape idx : List ℕ) : Type 0 where
  pub rises : Rises cuts
  pub axes : length cuts ≡ length shape
  pub groups : length gs ≡ length shape
  pub members : HaveMembers gs shape
  pub inside : IsInside (group_counts gs shape) idx

module _ (cuts : List (ℕ → ℕ)) (gs : Groups) (shape idx : List ℕ) (h : IsRound cuts gs shape idx) where
  count : length idx ≡ length shape
  count = inside-length (group_counts gs shape) idx h.inside ∙ length-group_counts gs shape h.groups

  lo_axes : length (group_lo gs idx) ≡ length cuts
  lo_axes = length-group_lo gs idx (h.groups ∙ sym count) ∙ count ∙ sym h.axes

  hi_axes : length (group_hi gs shape (map suc idx)) ≡ length cuts
  hi_axes =
      let n : length (map suc idx) ≡ length shape = length-map idx suc ∙ count in
      length-group_hi gs shape (map suc idx) (h.groups ∙ sym n) (sym n) ∙ n ∙ sym h.axes

  lo_same : part_start cuts (group_lo gs idx) ≡ part_start (composed cuts (group_cuts gs shape)) idx
  lo_same = ap (part_start cuts) (group_bounds gs shape idx h.members h.inside).0 ∙ sym (cut_composed cuts (group_cuts gs shape) idx)

  hi_same : part_start cuts (group_hi gs shape (map suc idx)) ≡ part_start (composed cuts (group_cuts gs shape)) (map suc idx)
  hi_same = ap (part_start cuts) (group_bounds gs shape idx h.members h.inside).1 ∙ sym (cut_composed cuts (group_cuts gs shape) (map suc idx))

  -- the parts of a group together
  pub group_of_parts : region_indices (part_start cuts (group_lo gs idx)) (part_start cuts (group_hi gs shape (map suc idx))) ≡ part_indices (composed cuts (group_cuts gs shape)) idx
  group_of_parts = λ j. region_indices (lo_same j) (hi_same j)

  pub round_of_kinds : (kind : FoldKind) (t acc : Dtype) (f : List ℕ → Option ℤ) → Accumulates kind t acc
      → ((p : List ℕ) → IsInside shape p → IsEnough kind (length (part_indices cuts p)))
      → ((i : List ℕ) (x : ℤ) → IsBetween (part_start (composed cuts (group_cuts gs shape)) idx) (part_start (composed cuts (group_cuts gs shape)) (map suc idx)) i → f i ≡ Some x → IsTaken kind acc x)
      → reduced_to kind acc (map (λ p. reduced_to kind acc (map f (part_indices cuts p))) (group_indices gs shape idx))
      ≡ reduced_to kind acc (map f (part_indices (composed cuts (group_cuts gs shape)) idx))
  round_of_kinds kind t acc f a parts taken =
      rounds_of_kinds kind t acc cuts (group_lo gs idx) (group_hi gs shape (map suc idx)) f a h.rises lo_axes hi_axes
      (λ p b. parts p (group_within gs shape idx p h.groups h.inside b))
      (λ i x b. taken i x (subst (λ hi. IsBetween (part_start (composed cuts (group_cuts gs shape)) idx) hi i) hi_same (subst (λ lo. IsBetween lo (part_start cuts (group_hi gs shape (map suc idx))) i) lo_same b)))
      ∙ ap (λ is. reduced_to kind acc (map f is)) group_of_parts

  pub round_of_places : (least : Bool) (f : List ℕ → Option Found) → ((p : List ℕ) → IsInside shape p → 0 < length (part_indices cuts p))
      → best_in least (map (λ p. best_in least (map f (part_indices cuts p))) (group_indices gs shape idx))
      ≡ best_in least (map f (part_indices (composed cuts (group_cuts gs shape)) idx))
  round_of_places least f parts =
      rounds_of_places least cuts (group_lo gs idx) (group_hi gs shape (map suc idx)) f h.rises lo_axes hi_axes
      (λ p b. parts p (group_within gs shape idx p h.groups h.inside b))
      ∙ ap (λ is. best_in least (map f is)) group_of_parts

  enough_of : (kind : FoldKind) → HasElements gs shape → ((p : List ℕ) → IsInside shape p → IsEnough kind (length (part_indices cuts p)))
      → IsEnough kind (length (part_indices (composed cuts (group_cuts gs shape)) idx))
  enough_of kind k parts =
      subst (λ is. IsEnough kind (length is)) group_of_parts
      (parts_enough kind cuts (group_lo gs idx) (group_hi gs shape (map suc idx)) h.rises lo_axes hi_axes
      (λ p b. parts p (group_within gs shape idx p h.groups h.inside b))
      (group_not_empty gs shape idx h.members k h.inside))

  -- the greater parts have enough elements for the round behind
  pub round_enough : (kind : FoldKind) → HasEnough kind gs shape → ((p : List ℕ) → IsInside shape p → IsEnough kind (length (part_indices cuts p)))
      → IsEnough kind (length (part_indices (composed cuts (group_cuts gs shape)) idx))
  round_enough Min k parts = enough_of Min k parts
  round_enough Max k parts = enough_of Max k parts
  round_enough kind k parts = tt
