-- Arrays that lie one behind the other along an axis.
use Rattle.std.proofs.Common.{◌≡◌, ◌↔◌, ℕ, zero, suc, ◌+◌, ◌-◌, ◌<◌, ◌≤◌, List, [], ◌∷◌, length, get_or, set, take, ap, ◌∙◌, sym, subst, arith, inl, inr}
use Rattle.std.specs.List.{sum_by}
use Rattle.std.proofs.lemmas.List.{length-set, get_or-set_same, get_or-set_other, ext_get_or}
use Rattle.std.proofs.lemmas.List.Sums.{sum_by-cons}
use Rattle.std.proofs.lemmas.Bool.Decides.{eqb_tells}
use Rattle.cu_origin.specs.Pull.{concat_from}
use Rattle.cu_origin.specs.declared.provenance.Provenance.TheVariants.{From}
use Rattle.cu_view.proofs.Fitting.{ltb_tells}
use Rattle.cu_view.specs.Boxes.{offset_of}
use Rattle.cu_view.specs.Pieces.{source_number}

set_same : (xs : List ℕ) (axis v : ℕ) → axis < length xs → v ≡ get_or xs axis 0 → set xs axis v ≡ xs
set_same xs axis v l e =
    ext_get_or 0 (set xs axis v) xs (length-set xs axis v)
    (λ k b. elim (eqb_tells k axis) [
      | inl p ↦ rw p.1 (get_or-set_same xs axis v 0 l ∙ e)
      | inr p ↦ get_or-set_other xs axis k v 0 p.1
    ])

set_again : (xs : List ℕ) (axis u v : ℕ) → axis < length xs → set (set xs axis u) axis v ≡ set xs axis v
set_again xs axis u v l =
    let n : length (set xs axis u) ≡ length xs = length-set xs axis u in
    let m : length (set xs axis v) ≡ length xs = length-set xs axis v in
    ext_get_or 0 (set (set xs axis u) axis v) (set xs axis v) (length-set (set xs axis u) axis v ∙ n ∙ sym m)
    (λ k b. elim (eqb_tells k axis) [
      | inl p ↦ rw p.1 (get_or-set_same (set xs axis u) axis v 0 (omega arith) ∙ sym (get_or-set_same xs axis v 0 l))
      | inr p ↦ get_or-set_other (set xs axis u) axis k v 0 p.1 ∙ get_or-set_other xs axis k u 0 p.1 ∙ sym (get_or-set_other xs axis k v 0 p.1)
    ])

-- the source at number `n` holds the index, which is then counted from where the source begins
pub concat_at : (axis k n : ℕ) (sources : List (List ℕ)) (idx : List ℕ) → axis < length idx → n < length sources → offset_of axis sources n ≤ get_or idx axis 0 → get_or idx axis 0 < offset_of axis sources n + get_or (get_or sources n []) axis 0
    → concat_from axis k sources idx ≡ From (k + n) (set idx axis (get_or idx axis 0 - offset_of axis sources n))
concat_at axis k n [] idx a l p q = absurd (omega arith)
concat_at axis k zero (s ∷ ss) idx a l p q =
    elim (ltb_tells (get_or idx axis 0) (get_or s axis 0)) [
      | inl t ↦ rw t.0 (let e : k ≡ k + 0 = omega arith in let f : idx ≡ set idx axis (get_or idx axis 0 - 0) = sym (set_same idx axis (get_or idx axis 0 - 0) a (omega arith)) in same_from k (k + 0) idx _ e f)
      | inr t ↦ absurd (let x = t.1 in omega arith)
    ]
  where
    same_from : (a b : ℕ) (xs ys : List ℕ) → a ≡ b → xs ≡ ys → From a xs ≡ From b ys
    same_from a b xs ys e f = cc
concat_at axis k (suc n) (s ∷ ss) idx a l p q =
    let c : offset_of axis (s ∷ ss) (suc n) ≡ get_or s axis 0 + offset_of axis ss n = sum_by-cons (λ (source : List ℕ). get_or source axis 0) s (take n ss) in
    elim (ltb_tells (get_or idx axis 0) (get_or s axis 0)) [
      | inl t ↦ absurd (let x = t.1 in omega arith)
      | inr t ↦
          let x = t.1 in
          let rest = set idx axis (get_or idx axis 0 - get_or s axis 0) in
          let r : get_or rest axis 0 ≡ get_or idx axis 0 - get_or s axis 0 = get_or-set_same idx axis (get_or idx axis 0 - get_or s axis 0) 0 a in
          let m : length rest ≡ length idx = length-set idx axis (get_or idx axis 0 - get_or s axis 0) in
          let i = concat_at axis (k + 1) n ss rest (omega arith) (omega arith) (omega arith) (omega arith) in
          rw t.0 (i ∙ same_from (k + 1 + n) (k + suc n) _ _ (omega arith) (set_again idx axis _ _ a ∙ ap (λ (v : ℕ). set idx axis v) (omega arith)))
    ]
  where
    same_from : (a b : ℕ) (xs ys : List ℕ) → a ≡ b → xs ≡ ys → From a xs ≡ From b ys
    same_from a b xs ys e f = cc

-- one of them holds an index below the sum of their sizes
pub concat_has : (axis i : ℕ) (sources : List (List ℕ)) → i < sum_by (λ source. get_or source axis 0) sources → (n : ℕ) × (n < length sources) × (offset_of axis sources n ≤ i) × (i < offset_of axis sources n + get_or (get_or sources n []) axis 0)
concat_has axis i [] h = absurd (omega arith)
concat_has axis i (s ∷ ss) h =
    let c : sum_by (λ (source : List ℕ). get_or source axis 0) (s ∷ ss) ≡ get_or s axis 0 + sum_by (λ (source : List ℕ). get_or source axis 0) ss = sum_by-cons (λ (source : List ℕ). get_or source axis 0) s ss in
    elim (ltb_tells i (get_or s axis 0)) [
      | inl t ↦ (0, omega arith, omega arith, let x = t.1 in omega arith)
      | inr t ↦
          let x = t.1 in
          let w = concat_has axis (i - get_or s axis 0) ss (omega arith) in
          let e : offset_of axis (s ∷ ss) (suc w.0) ≡ get_or s axis 0 + offset_of axis ss w.0 = sum_by-cons (λ (source : List ℕ). get_or source axis 0) s (take w.0 ss) in
          let l = w.1 in
          let lo = w.2 in
          let hi = w.3 in
          (suc w.0, omega arith, omega arith, omega arith)
    ]

-- sources begin one behind the other, within the whole
pub offset_more : (axis n : ℕ) (sources : List (List ℕ)) → n < length sources → offset_of axis sources (suc n) ≡ offset_of axis sources n + get_or (get_or sources n []) axis 0
offset_more axis n [] l = absurd (omega arith)
offset_more axis zero (s ∷ ss) l = sum_by-cons (λ (source : List ℕ). get_or source axis 0) s [] ∙ omega arith
offset_more axis (suc n) (s ∷ ss) l =
    let a = sum_by-cons (λ (source : List ℕ). get_or source axis 0) s (take (suc n) ss) in
    let b = sum_by-cons (λ (source : List ℕ). get_or source axis 0) s (take n ss) in
    let i = offset_more axis n ss (omega arith) in
    omega arith

pub offset_within : (axis n : ℕ) (sources : List (List ℕ)) → offset_of axis sources n ≤ sum_by (λ source. get_or source axis 0) sources
offset_within axis zero sources = omega arith
offset_within axis (suc n) [] = omega arith
offset_within axis (suc n) (s ∷ ss) =
    let a = sum_by-cons (λ (source : List ℕ). get_or source axis 0) s (take n ss) in
    let b = sum_by-cons (λ (source : List ℕ). get_or source axis 0) s ss in
    let i = offset_within axis n ss in
    omega arith

-- the source that an index comes from is the one that holds it
pub concat_exactly : (axis n : ℕ) (sources : List (List ℕ)) (idx : List ℕ) → axis < length idx → n < length sources → get_or idx axis 0 < sum_by (λ source. get_or source axis 0) sources
    → ((offset_of axis sources n ≤ get_or idx axis 0) × (get_or idx axis 0 < offset_of axis sources n + get_or (get_or sources n []) axis 0)) ↔ (source_number (concat_from axis 0 sources idx) ≡ n)
concat_exactly axis n sources idx a l h = (λ w. ap source_number (concat_at axis 0 n sources idx a l w.0 w.1) ∙ omega arith, back)
  where
    back : source_number (concat_from axis 0 sources idx) ≡ n → (offset_of axis sources n ≤ get_or idx axis 0) × (get_or idx axis 0 < offset_of axis sources n + get_or (get_or sources n []) axis 0)
    back e =
        let w = concat_has axis (get_or idx axis 0) sources h in
        let s : source_number (concat_from axis 0 sources idx) ≡ 0 + w.0 = ap source_number (concat_at axis 0 w.0 sources idx a w.1 w.2 w.3) in
        let m : w.0 ≡ n = omega arith in
        subst (λ (k : ℕ). (offset_of axis sources k ≤ get_or idx axis 0) × (get_or idx axis 0 < offset_of axis sources k + get_or (get_or sources k []) axis 0)) m (w.2, w.3)
