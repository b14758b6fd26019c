-- Steps that stand behind copies of the arrays that they read, over any arrays.
use Rattle.std.proofs.Common.{◌≡◌, ℕ, suc, ◌<◌, ◌≤◌, ◌+◌, List, [], ◌∷◌, All, length, map, slice_index, refl, ap, ◌∙◌, subst, inl, inr, arith}
use Rattle.std.proofs.lemmas.List.{length-map}
use Rattle.cu_copy.specs.Copies.{rechunked}
use Rattle.cu_copy.specs.declared.copies.Rechunk.{Rechunk}
use Rattle.cu_node.specs.declared.info.NodeInfo.{NodeInfo}
use Rattle.cu_op.specs.Operation.{reads_of}
use Rattle.cu_op.specs.Elements.{Elements}
use Rattle.cu_op.specs.declared.layout.ArrayInfo.{ArrayInfo}
use Rattle.cu_lower_reduce.specs.Copies.{aligned_places, aligned_steps, AreOperands}
use Rattle.cu_lower_reduce.specs.Steps.{all_made, last_made, made_infos, HaveEach, HaveInfos, IsGiven, AreSteps, SolveSteps}
use Rattle.cu_lower_reduce.specs.declared.copy.CopySetting.{CopySetting}
use Rattle.cu_lower_reduce.specs.declared.step.Step.{Step}
use Rattle.cu_lower_reduce.proofs.Operands.{length-made, made_back, made_front, solve_back, solve_front, steps_join}
use Rattle.cu_lower.specs.Parts.{behind_copies}
use Rattle.cu_lower.proofs.StepLaws.{OperandsLaw}

-- ---- steps over given arrays

-- what is given of arrays that are given
given_more : (given read : List ℕ) (first start next a : ℕ) → first ≤ start → start ≤ next → All (IsGiven given first start) read → IsGiven read start next a → IsGiven given first next a
given_more given read first start next a low high all (inl (i, below, is)) = elim (subst (IsGiven given first start) is (all i a below)) [ inl among ↦ inl among | inr own ↦ inr (own.0, (let u = own.1 in omega (arith, u, high))) ]
given_more given read first start next a low high all (inr own) = inr ((let d = own.0 in omega (arith, d, low)), own.1)

all_given : (given read : List ℕ) (first start next : ℕ) (xs : List ℕ) → first ≤ start → start ≤ next → All (IsGiven given first start) read → All (IsGiven read start next) xs → All (IsGiven given first next) xs
all_given given read first start next xs low high all h i d below = given_more given read first start next _ low high all (h i d below)

-- steps that read given arrays alone and what they make themselves
steps_more : (arrays : List ArrayInfo) (reserved : ℕ) (given read : List ℕ) (first start next : ℕ) (ss : List Step) → first ≤ start → start ≤ next → All (IsGiven given first start) read
    → AreSteps arrays reserved read start next ss → AreSteps arrays reserved given first next ss
steps_more arrays reserved given read first start next [] low high all h = tt
steps_more arrays reserved given read first start next (s ∷ ss) low high all h = (
  record {
    writes = h.0.writes;
    reads = all_given given read first start next (reads_of s.op) low high all h.0.reads;
    fits = h.0.fits;
    need = h.0.need;
    tasks = h.0.tasks;
  },
  steps_more arrays reserved given read first start (next + length (made_infos s)) ss low (omega (arith, high)) all h.1,
)

-- ---- lists of arrays

-- this is known of as many arrays
pub each_long : (arrays : List ArrayInfo) (ins : List ℕ) (is : List NodeInfo) → HaveEach arrays ins is → length ins ≡ length is
each_long arrays [] [] h = refl
each_long arrays [] (i ∷ is) h = absurd h
each_long arrays (a ∷ ins) [] h = absurd h
each_long arrays (a ∷ ins) (i ∷ is) h = ap suc (each_long arrays ins is h.1)

-- the arrays of one list have the elements of those of the other
abbrev pub SameElements : Elements → List ℕ → List ℕ → Type 0
SameElements at [] [] = Unit {0}
SameElements at (a ∷ xs) (b ∷ ys) = ((idx : List ℕ) → at b idx ≡ at a idx) × SameElements at xs ys
SameElements at xs ys = ⊥

same_each : (at : Elements) (xs ys : List ℕ) → length xs ≡ length ys → ((j : ℕ) → j < length xs → (idx : List ℕ) → at (slice_index ys j) idx ≡ at (slice_index xs j) idx) → SameElements at xs ys
same_each at [] [] e h = tt
same_each at [] (b ∷ ys) e h = absurd (omega arith)
same_each at (a ∷ xs) [] e h = absurd (omega arith)
same_each at (a ∷ xs) (b ∷ ys) e h = (h 0 (omega arith), same_each at xs ys (omega arith) (λ j below. h (suc j) (omega arith)))

-- ---- behind copies

module _ (laws : OperandsLaw) (s : CopySetting) (ins : List ℕ) (rs : List Rechunk) (own : List ℕ → ℕ → List Step) where
  abbrev copies : List Step
  copies = aligned_steps s ins rs

  abbrev read : List ℕ
  read = aligned_places s ins rs

  abbrev next : ℕ
  next = s.first + length (all_made copies)

  -- the last array is that of the steps behind the copies
  pub behind_last : 0 < length (all_made (own read next)) → last_made s.first (behind_copies s ins rs own) ≡ last_made next (own read next)
  behind_last some = let l = length-made copies (own read next) in omega (arith, l, some)

  module _ (arrays : List ArrayInfo) (known : HaveEach arrays ins (map (λ r. r.source) rs)) where
    ins_long : length ins ≡ length rs
    ins_long = each_long arrays ins (map (λ r. r.source) rs) known ∙ length-map rs (λ r. r.source)

    module _ (made : HaveInfos arrays s.first (all_made (behind_copies s ins rs own))) where
      -- what is known of the arrays that are read, and of those that are made
      pub read_known : HaveEach arrays read (map rechunked rs)
      read_known = laws.places arrays s ins rs known (made_front arrays s.first copies (own read next) made)

      pub own_known : HaveInfos arrays next (all_made (own read next))
      own_known = made_back arrays s.first copies (own read next) made

      pub behind_hold : AreOperands s rs → AreSteps arrays s.reserved read next next (own read next) → AreSteps arrays s.reserved ins s.first s.first (behind_copies s ins rs own)
      behind_hold can held =
          steps_join arrays s.reserved ins s.first s.first next copies (own read next) refl (laws.steps arrays s ins rs can known (made_front arrays s.first copies (own read next) made))
          (steps_more arrays s.reserved ins read s.first next next (own read next) (omega arith) (omega arith) (laws.given s ins rs ins_long) held)

      module _ (at : Elements) (solves : SolveSteps arrays at (behind_copies s ins rs own)) where
        pub own_solved : SolveSteps arrays at (own read next)
        own_solved = solve_back arrays at copies (own read next) solves

        pub read_value : (j : ℕ) → j < length rs → (idx : List ℕ) → at (slice_index read j) idx ≡ at (slice_index ins j) idx
        read_value j below idx = laws.value arrays at s ins rs j ins_long below (solve_front arrays at copies (own read next) solves) idx

        pub read_same : SameElements at ins read
        read_same =
            let a = ins_long in
            let b = each_long arrays read (map rechunked rs) read_known ∙ length-map rs rechunked in
            same_each at ins read (omega (arith, a, b)) (λ j below idx. read_value j (omega (arith, a, below)) idx)
