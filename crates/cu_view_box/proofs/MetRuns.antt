-- What a region of a reshape's source that is met tells: an index between those from which two elements of a run come.
use Rattle.std.proofs.Common.{◌≡◌, ◌≢◌, ℕ, ◌+◌, ◌<◌, Bool, true, false, not, List, length, get_or, set, refl, ◌∙◌, arith, inl, inr, below_more}
use Rattle.std.specs.Bool.{OnTrue, OnFalse}
use Rattle.std.proofs.lemmas.Bool.{cases_lt}
use Rattle.std.proofs.lemmas.List.{get_or-set_same, get_or-set_other}
use Rattle.cu_grid.specs.Counts.{IsWithin}
use Rattle.cu_grid.specs.declared.region.Region.{Region}
use Rattle.cu_grid.proofs.Meeting.{within_of}
use Rattle.cu_view_box.specs.Reshape.{IsBetweenUpToDifference, MeetsRun}
use Rattle.cu_view_box.proofs.Reshapes.{IsHull}

-- an index of a hull lies between its ends
pub between_of : (source first last lo hi i : List ℕ) (apart end : ℕ) → length first ≡ length source → end ≡ length source
    → (apart < length first → get_or first apart 0 ≢ get_or last apart 0) → IsHull source first last lo hi apart end → IsWithin lo hi i → IsBetweenUpToDifference first last i
between_of source first last lo hi i apart end rank ee differ hull w = λ d b agree.
    let v = within_of lo hi i w in
    let long = v.lo_rank in
    let own = hull.lo_rank in
    elim (cases_lt apart d) [
      | inl behind ↦ absurd (differ (omega arith) (agree apart behind))
      | inr before ↦
          let l = hull.low d (omega arith) before in
          let h = hull.high d (omega arith) before in
          let a = v.at d b in
          let a0 = a.0 in
          let a1 = a.1 in
          (omega arith, omega arith)
    ]

-- what is known of a thing that may be empty, by whether it isn't
pub when_not : (b : Bool) (A B C D : Type 0) → (A → C) → (B → D) → OnTrue b A → OnFalse b B → OnFalse (not b) C × OnTrue (not b) D
when_not true A B C D f g a o = (f a, tt)
when_not false A B C D f g a o = (tt, g o)

-- one index on one axis more
pub single_more : (out : Region) (level index : ℕ) → level < length out.lo → length out.hi ≡ length out.lo
    → ((k : ℕ) → k < level → get_or out.hi k 0 ≡ get_or out.lo k 0 + 1)
    → (k : ℕ) → k < level + 1 → get_or (set out.hi level (index + 1)) k 0 ≡ get_or (set out.lo level index) k 0 + 1
single_more out level index below ranks single =
    below_more (λ k. get_or (set out.hi level (index + 1)) k 0 ≡ get_or (set out.lo level index) k 0 + 1) level
    (λ k c. let apart : k ≢ level = omega arith in rw (get_or-set_other out.hi level k (index + 1) 0 apart, get_or-set_other out.lo level k index 0 apart) (single k c))
    (let high : level < length out.hi = omega arith in rw (get_or-set_same out.hi level (index + 1) 0 high, get_or-set_same out.lo level index 0 below) refl)

-- the axes behind are left
pub whole_kept : (shape : List ℕ) (out : Region) (level index end : ℕ) → level < end
    → ((k : ℕ) → end < k → k < length shape → (get_or out.lo k 0 ≡ 0) × (get_or out.hi k 0 ≡ get_or shape k 0))
    → (k : ℕ) → end < k → k < length shape → (get_or (set out.lo level index) k 0 ≡ 0) × (get_or (set out.hi level (index + 1)) k 0 ≡ get_or shape k 0)
whole_kept shape out level index end below whole k behind c =
    let apart : k ≢ level = omega arith in
    let w = whole k behind c in
    (get_or-set_other out.lo level k index 0 apart ∙ w.0, get_or-set_other out.hi level k (index + 1) 0 apart ∙ w.1)

-- a run of a slice is one of the whole
pub met_in : (source shape : List ℕ) (out slice part : Region) → ((idx : List ℕ) → IsWithin slice.lo slice.hi idx → IsWithin out.lo out.hi idx)
    → MeetsRun source shape slice part → MeetsRun source shape out part
met_in source shape out slice part inside met =
    let run = met.1 in
    (met.0, record { axis = run.axis; single = run.single; whole = run.whole; of_out = λ idx w. inside idx (run.of_out idx w) }, met.2)
