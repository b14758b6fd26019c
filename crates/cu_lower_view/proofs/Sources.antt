-- The source of a view of one array.
use Rattle.std.proofs.Common.{◌≡◌, ℕ, ◌≤◌, true, List, [], ◌∷◌, length, All, refl, sym, subst, arith, inl, inr}
use Rattle.std.specs.Prelude.{nat_le, ◌&&◌}
use Rattle.std.specs.List.{list_all}
use Rattle.std.proofs.lemmas.Bool.{and_parts, leb-true, cases_lt}
use Rattle.std.proofs.lemmas.List.{get_or_past}
use Rattle.std.proofs.lemmas.List.Elements.{All-nil, All-cons, All-get_or}
use Rattle.cu_num.specs.declared.types.Dtype.{Dtype}
use Rattle.cu_form.specs.Form.{is_array, are_arrays}
use Rattle.cu_form.specs.declared.args.Arg.{Arg}
use Rattle.cu_node.specs.Info.{IsInfo, info_at, no_info}
use Rattle.cu_node.specs.declared.info.NodeInfo.{NodeInfo}
use Rattle.cu_origin.specs.Fits.{OfOne}
use Rattle.cu_lower_view.specs.Sources.{sources_of, shapes_of, dtypes_of}

single : (args : List Arg) → are_arrays 1 1 args ≡ true → (n : ℕ) × (args ≡ Arg.Node n ∷ [])
single [] h = cc
single (Arg.Node n ∷ []) h = (n, refl)
single (Arg.Int x ∷ []) h = cc
single (Arg.Truth b ∷ []) h = cc
single (x ∷ y ∷ args) h =
    let both = and_parts (nat_le 1 (length (x ∷ y ∷ args)) && nat_le (length (x ∷ y ∷ args)) 1) (list_all is_array (x ∷ y ∷ args)) h in
    let ends = and_parts (nat_le 1 (length (x ∷ y ∷ args))) (nat_le (length (x ∷ y ∷ args)) 1) both.0 in
    let most : length (x ∷ y ∷ args) ≤ 1 = leb-true (length (x ∷ y ∷ args)) 1 ends.1 in
    absurd (omega arith)

-- these are one array
abbrev pub IsOne : List NodeInfo → Type 0
IsOne is = is ≡ info_at is 0 ∷ []

pub one_source : (infos : List NodeInfo) (args : List Arg) → are_arrays 1 1 args ≡ true → IsOne (sources_of infos args)
one_source infos args h = let s = single args h in subst (λ (xs : List Arg). IsOne (sources_of infos xs)) (sym s.1) refl

pub fits_one : (P : List ℕ → Type 0) (is : List NodeInfo) → IsOne is → P (info_at is 0).dims → OfOne P (shapes_of is)
fits_one P [] one p = cc
fits_one P (a ∷ []) one p = p
fits_one P (a ∷ b ∷ is) one p = cc

pub types_one : (t : Dtype) (is : List NodeInfo) → IsOne is → t ≡ (info_at is 0).dtype → All (λ s. s ≡ t) (dtypes_of is)
types_one t [] one e = All-nil (λ s. s ≡ t)
types_one t (a ∷ []) one e = All-cons (λ s. s ≡ t) a.dtype [] (sym e) (All-nil (λ s. s ≡ t))
types_one t (a ∷ b ∷ is) one e = cc

short_at : (infos : List NodeInfo) (n : ℕ) → All IsInfo infos → length (info_at infos n).dims ≤ 6
short_at infos n h =
    elim (cases_lt n (length infos)) [
      | inl l ↦ (All-get_or IsInfo infos n no_info l h).short
      | inr g ↦ rw (get_or_past infos n no_info g) (omega arith)
    ]

pub short_source : (infos : List NodeInfo) (args : List Arg) → All IsInfo infos → are_arrays 1 1 args ≡ true → length (info_at (sources_of infos args) 0).dims ≤ 6
short_source infos args kept h =
    let s = single args h in
    subst (λ (xs : List Arg). length (info_at (sources_of infos xs) 0).dims ≤ 6) (sym s.1) (short_at infos s.0 kept)
