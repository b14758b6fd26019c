-- Arrays that lie one behind the other: an index of the whole lies in one of them.
use Rattle.std.proofs.Common.{◌≡◌, ◌≢◌, ℕ, zero, suc, ◌+◌, ◌-◌, ◌<◌, nat_lt, Bool, true, false, List, [], ◌∷◌, All, length, sum_by, set, get_or, refl, ap, ◌∙◌, sym, subst, arith, inl, inr, if◌then◌else◌}
use Rattle.std.specs.Prelude.{remove}
use Rattle.std.proofs.lemmas.Bool.{ltb-true, ltb-false}
use Rattle.std.proofs.lemmas.Bool.Decides.{eqb_tells}
use Rattle.std.proofs.lemmas.List.{length-set, get_or-set_same, get_or-set_other}
use Rattle.std.proofs.lemmas.List.Sums.{sum_by-cons}
use Rattle.cu_shape.specs.Index.{IsInside}
use Rattle.cu_shape.proofs.Places.{inside-length}
use Rattle.cu_origin.specs.Pull.{concat_from, IsInSources}
use Rattle.cu_origin.specs.declared.provenance.Provenance.{Provenance}
use Rattle.cu_origin.specs.declared.provenance.Provenance.TheVariants.{From}
use Rattle.cu_origin.proofs.AxesInside.{inside_at, inside_from}

pub if_inside : (t : Bool) (all : List (List ℕ)) (p q : Provenance) → (t ≡ true → IsInSources all p) → (t ≡ false → IsInSources all q) → IsInSources all (if t then p else q)
if_inside true all p q h g = h refl
if_inside false all p q h g = g refl

pub inside_remove : (ds is : List ℕ) (axis : ℕ) → axis < length ds → IsInside ds is → IsInside (remove ds axis) (remove is axis)
inside_remove [] is axis l h = absurd (omega arith)
inside_remove (d ∷ ds) [] axis l h = absurd h
inside_remove (d ∷ ds) (i ∷ is) zero l h = h.1
inside_remove (d ∷ ds) (i ∷ is) (suc axis) l h = (h.0, inside_remove ds is axis (omega arith) h.1)

-- an index lies inside on each axis but one
pub record IsInsideOff (axis : ℕ) (ds is : List ℕ) : Type 0 where
  pub rank : length is ≡ length ds
  pub each : (j : ℕ) → j < length ds → j ≢ axis → get_or is j 0 < get_or ds j 0

pub inside_off : (axis : ℕ) (ds is : List ℕ) → IsInside ds is → IsInsideOff axis ds is
inside_off axis ds is h = record { rank = inside-length ds is h; each = λ j l n. inside_at ds is j h l }

moved_off : (axis v : ℕ) (ds is : List ℕ) → IsInsideOff axis ds is → IsInsideOff axis ds (set is axis v)
moved_off axis v ds is h = record {
  rank = length-set is axis v ∙ h.rank;
  each = λ j l n. let e : get_or (set is axis v) j 0 ≡ get_or is j 0 = get_or-set_other is axis j v 0 n in let b = h.each j l n in omega arith;
}

same_length : (s ds : List ℕ) (axis : ℕ) → set s axis 0 ≡ set ds axis 0 → length s ≡ length ds
same_length s ds axis e = sym (length-set s axis 0) ∙ ap (λ (xs : List ℕ). length xs) e ∙ length-set ds axis 0

same_off : (s ds : List ℕ) (axis j : ℕ) → set s axis 0 ≡ set ds axis 0 → j ≢ axis → get_or s j 0 ≡ get_or ds j 0
same_off s ds axis j e n = sym (get_or-set_other s axis j 0 0 n) ∙ ap (λ (xs : List ℕ). get_or xs j 0) e ∙ get_or-set_other ds axis j 0 0 n

inside_source : (axis : ℕ) (s ds is : List ℕ) → set s axis 0 ≡ set ds axis 0 → IsInsideOff axis ds is → get_or is axis 0 < get_or s axis 0 → IsInside s is
inside_source axis s ds is e h b =
    let l : length s ≡ length ds = same_length s ds axis e in
    inside_from s is (h.rank ∙ sym l)
    (λ j q. elim (eqb_tells j axis) [
      | inl p ↦ subst (λ (t : ℕ). get_or is t 0 < get_or s t 0) (sym p.1) b
      | inr p ↦ let o = same_off s ds axis j e p.1 in let i = h.each j (omega arith) p.1 in omega arith
    ])

-- these are the sources from number k on
abbrev pub AreFrom : ℕ → List (List ℕ) → List (List ℕ) → Type 0
AreFrom k all sources = (j n : ℕ) → n ≡ k + j → j < length sources → (n < length all) × (get_or all n [] ≡ get_or sources j [])

pub concat_inside : (axis k : ℕ) (all sources : List (List ℕ)) (ds is : List ℕ) → AreFrom k all sources → axis < length ds → All (λ source. set source axis 0 ≡ set ds axis 0) sources → IsInsideOff axis ds is → get_or is axis 0 < sum_by (λ source. get_or source axis 0) sources → IsInSources all (concat_from axis k sources is)
concat_inside axis k all [] ds is f l a o b = absurd (omega arith)
concat_inside axis k all (s ∷ ss) ds is f l a o b =
    if_inside (nat_lt (get_or is axis 0) (get_or s axis 0)) all (From k is) (concat_from axis (k + 1) ss (set is axis (get_or is axis 0 - get_or s axis 0)))
    (λ t.
    let here = f 0 k (omega arith) (omega arith) in
    (here.0, subst (λ (x : List ℕ). IsInside x is) (sym here.1) (inside_source axis s ds is (a 0 [] (omega arith)) o (ltb-true _ _ t))))
    (λ t. concat_inside axis (k + 1) all ss ds (set is axis (get_or is axis 0 - get_or s axis 0))
    (λ j n e q. f (suc j) n (omega arith) (omega arith)) l (λ j d q. a (suc j) d (omega arith)) (moved_off axis (get_or is axis 0 - get_or s axis 0) ds is o) (left t))
  where
    left : nat_lt (get_or is axis 0) (get_or s axis 0) ≡ false → get_or (set is axis (get_or is axis 0 - get_or s axis 0)) axis 0 < sum_by (λ source. get_or source axis 0) ss
    left t =
        let r : length is ≡ length ds = o.rank in
        let e = get_or-set_same is axis (get_or is axis 0 - get_or s axis 0) 0 (omega arith) in
        let g = ltb-false (get_or is axis 0) (get_or s axis 0) t in
        let c = sum_by-cons (λ (source : List ℕ). get_or source axis 0) s ss in
        omega arith
