-- The look-up of an input's layout by its name.
use Rattle.std.proofs.Common.{◌≡◌, ◌↔◌, ℕ, ◌+◌, ◌<◌, Bool, true, false, IsTrue, List, [], ◌∷◌, length, drop, get_or, refl, sym, ap, ◌∙◌, inl, inr}
use Rattle.std.specs.Prelude.{bytes_eq, unwrap_or}
use Rattle.std.proofs.lemmas.Bool.{cases_Bool}
use Rattle.std.proofs.lemmas.List.{drop_more}
use Rattle.std.proofs.lemmas.Slice.Eq.{bytes_eq-Decides}
use Rattle.cu_node.specs.Info.{no_info}
use Rattle.cu_expr.specs.Inputs.{layout_info, named_input, layout_named}
use Rattle.cu_expr.specs.declared.inputs.InputInfo.{InputInfo}

-- what typing knows of a name is its layout
pub known_layout : (inputs : List InputInfo) (name : List ℕ) → unwrap_or (named_input inputs name) no_info ≡ layout_info (layout_named inputs name)
known_layout [] name = refl
known_layout (i ∷ is) name =
    elim (cases_Bool (bytes_eq name i.name)) [
      | inl same ↦ rw same refl
      | inr other ↦ rw other (known_layout is name)
    ]

-- ---- the code's tests and loops

-- what a comparison of texts tells
pub same_when : (b : Bool) (xs ys : List ℕ) → (IsTrue b ↔ (xs ≡ ys)) → b ≡ true → bytes_eq xs ys ≡ true
same_when b xs ys h is = (bytes_eq-Decides xs ys).1 (h.0 is)

pub other_when : (b : Bool) (xs ys : List ℕ) → (IsTrue b ↔ (xs ≡ ys)) → b ≡ false → bytes_eq xs ys ≡ false
other_when b xs ys h is =
    elim (cases_Bool (bytes_eq xs ys)) [
      | inl same ↦ let t : b ≡ true = h.1 ((bytes_eq-Decides xs ys).0 same) in let no : true ≡ false = sym t ∙ is in cc
      | inr other ↦ other
    ]

-- a list from a place on
pub from_place : {A : Type 0} (xs : List A) (k : ℕ) (x : A) → k < length xs → x ≡ get_or xs k x → drop k xs ≡ x ∷ drop (k + 1) xs
from_place xs k x below is = drop_more xs k x below ∙ ap (λ y. y ∷ drop (k + 1) xs) (sym is)

pub layout_found : (inputs : List InputInfo) (name : List ℕ) (k : ℕ) (i : InputInfo) → drop k inputs ≡ i ∷ drop (k + 1) inputs → layout_named (drop k inputs) name ≡ layout_named inputs name
    → bytes_eq name i.name ≡ true → i.layout ≡ layout_named inputs name
layout_found inputs name k i rest known same =
    (let first : layout_named (i ∷ drop (k + 1) inputs) name ≡ i.layout = rw same refl in sym first) ∙ ap (λ l. layout_named l name) (sym rest) ∙ known

pub layout_passed : (inputs : List InputInfo) (name : List ℕ) (k : ℕ) (i : InputInfo) → drop k inputs ≡ i ∷ drop (k + 1) inputs → layout_named (drop k inputs) name ≡ layout_named inputs name
    → bytes_eq name i.name ≡ false → layout_named (drop (k + 1) inputs) name ≡ layout_named inputs name
layout_passed inputs name k i rest known other =
    (let behind : layout_named (i ∷ drop (k + 1) inputs) name ≡ layout_named (drop (k + 1) inputs) name = rw other refl in sym behind) ∙ ap (λ l. layout_named l name) (sym rest) ∙ known
