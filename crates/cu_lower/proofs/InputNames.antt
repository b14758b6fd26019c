-- The input arrays of a plan, by their names.
use Rattle.std.proofs.Common.{◌≡◌, drop, ℕ, zero, suc, ◌<◌, ◌+◌, Bool, true, false, List, [], ◌∷◌, ◌++◌, Some, length, get_or, refl, ap, sym, ◌∙◌, subst, inl, inr, arith}
use Rattle.std.specs.Prelude.{slice_get, nat_lt, bytes_eq, if◌then◌else◌}
use Rattle.std.specs.List.{list_any, position_or_len}
use Rattle.std.proofs.lemmas.Bool.{cases_Bool, cases_lt, lt-ltb, le-ltb}
use Rattle.std.proofs.lemmas.List.{length_push, get_or_append_left, get_or_at}
use Rattle.std.proofs.lemmas.Slice.Eq.{bytes_eq-Decides}
use Rattle.cu_form.specs.Expression.{Expression}
use Rattle.cu_form.specs.declared.expr.Node.{Node}
use Rattle.cu_form.specs.declared.form.Form.{Form}
use Rattle.cu_need.specs.Live.{is_live}
use Rattle.cu_lower.specs.Inputs.{with_name, names_after, input_names, input_place}

pub same_text : (xs ys : List ℕ) → bytes_eq xs ys ≡ true → xs ≡ ys
same_text xs ys h = (bytes_eq-Decides xs ys).0 h

pub equal_text : (xs : List ℕ) → bytes_eq xs xs ≡ true
equal_text xs = (bytes_eq-Decides xs xs).1 refl

-- ---- a name that stands among the names

any_append : (q : List ℕ) (xs ys : List (List ℕ)) → list_any (bytes_eq q) xs ≡ true → list_any (bytes_eq q) (xs ++ ys) ≡ true
any_append q [] ys h = cc
any_append q (x ∷ xs) ys h =
    elim (cases_Bool (bytes_eq q x)) [
      | inl same ↦ rw same refl
      | inr other ↦ let rest : list_any (bytes_eq q) xs ≡ true = (let e : list_any (bytes_eq q) (x ∷ xs) ≡ list_any (bytes_eq q) xs = rw other refl in sym e ∙ h) in rw other (any_append q xs ys rest)
    ]

any_last : (q : List ℕ) (xs : List (List ℕ)) → list_any (bytes_eq q) (xs ++ q ∷ []) ≡ true
any_last q [] = rw (equal_text q) refl
any_last q (x ∷ xs) =
    elim (cases_Bool (bytes_eq q x)) [
      | inl same ↦ rw same refl
      | inr other ↦ rw other (any_last q xs)
    ]

name_kept : (q : List ℕ) (names : List (List ℕ)) (form : Form) → list_any (bytes_eq q) names ≡ true → list_any (bytes_eq q) (with_name names form) ≡ true
name_kept q names (Form.Input name) h =
    elim (cases_Bool (list_any (bytes_eq name) names)) [
      | inl there ↦ rw there h
      | inr none ↦ rw none (any_append q names (name ∷ []) h)
    ]
name_kept q names form h = h

name_added : (names : List (List ℕ)) (name : List ℕ) → list_any (bytes_eq name) (with_name names (Form.Input name)) ≡ true
name_added names name =
    elim (cases_Bool (list_any (bytes_eq name) names)) [
      | inl there ↦ rw there there
      | inr none ↦ rw none (any_last name names)
    ]

names_kept : (live : ℕ → Bool) (q : List ℕ) (k : ℕ) (ns : List Node) (names : List (List ℕ)) → list_any (bytes_eq q) names ≡ true → list_any (bytes_eq q) (names_after live k ns names) ≡ true
names_kept live q k [] names h = h
names_kept live q k (n ∷ ns) names h =
    elim (cases_Bool (live k)) [
      | inl holds ↦ rw holds (names_kept live q (k + 1) ns (with_name names n.form) (name_kept q names n.form h))
      | inr fails ↦ rw fails (names_kept live q (k + 1) ns names h)
    ]

listed_behind : (live : ℕ → Bool) (k : ℕ) (ns : List Node) (names : List (List ℕ)) (m j : ℕ) (n : Node) (name : List ℕ)
    → m ≡ k + j → slice_get ns j ≡ Some n → live m ≡ true → n.form ≡ Form.Input name → list_any (bytes_eq name) (names_after live k ns names) ≡ true
listed_behind live k [] names m j n name number at h form = cc
listed_behind live k (first ∷ ns) names m zero n name number at h form =
    let same : first ≡ n = cc in
    let here : live k ≡ true = subst (λ (i : ℕ). live i ≡ true) (let e : m ≡ k = omega arith in e) h in
    let is : first.form ≡ Form.Input name = ap (λ (x : Node). x.form) same ∙ form in
    let added : list_any (bytes_eq name) (with_name names first.form) ≡ true = subst (λ (f : Form). list_any (bytes_eq name) (with_name names f) ≡ true) (sym is) (name_added names name) in
    rw here (names_kept live name (k + 1) ns (with_name names first.form) added)
listed_behind live k (first ∷ ns) names m (suc j) n name number at h form =
    listed_behind live (k + 1) ns (if live k then with_name names first.form else names) m j n name (omega arith) at h form

-- a live input node's name is listed
pub name_listed : (e : Expression) (k : ℕ) (n : Node) (name : List ℕ) → slice_get e.nodes k ≡ Some n → is_live e k ≡ true → n.form ≡ Form.Input name
    → list_any (bytes_eq name) (input_names e) ≡ true
name_listed e k n name at live form = listed_behind (is_live e) 0 e.nodes [] k k n name (omega arith) at live form

-- each listed name is that of a live input node
pub record UsesName (e : Expression) (name : List ℕ) : Type 0 where
  pub k : ℕ
  pub node : Node
  pub at : slice_get e.nodes k ≡ Some node
  pub live : is_live e k ≡ true
  pub form : node.form ≡ Form.Input name

-- ---- the place of a name

found_place : (q : List ℕ) (names : List (List ℕ)) → list_any (bytes_eq q) names ≡ true
    → (position_or_len (bytes_eq q) names < length names) × (get_or names (position_or_len (bytes_eq q) names) [] ≡ q)
found_place q [] h = cc
found_place q (x ∷ xs) h =
    elim (cases_Bool (bytes_eq q x)) [
      | inl same ↦ rw same ((omega arith), sym (same_text q x same))
      | inr other ↦ let rest = found_place q xs (let e : list_any (bytes_eq q) (x ∷ xs) ≡ list_any (bytes_eq q) xs = rw other refl in sym e ∙ h) in
          let w = rest.0 in
          let one : 1 + position_or_len (bytes_eq q) xs ≡ suc (position_or_len (bytes_eq q) xs) = omega arith in
          rw (other, one) ((omega arith), rest.1)
    ]

pub input_placed : (e : Expression) (k : ℕ) (n : Node) (name : List ℕ) → slice_get e.nodes k ≡ Some n → is_live e k ≡ true → n.form ≡ Form.Input name
    → (input_place e name < length (input_names e)) × (get_or (input_names e) (input_place e name) [] ≡ name)
input_placed e k n name at live form = found_place name (input_names e) (name_listed e k n name at live form)

-- ---- no name is listed twice

-- names at different places differ
abbrev IsOnce : List (List ℕ) → Type 0
IsOnce names = (a b : ℕ) → a < length names → b < length names → get_or names a [] ≡ get_or names b [] → a ≡ b

-- a name that isn't listed stands at no place
not_listed : (q : List ℕ) (names : List (List ℕ)) (a : ℕ) → list_any (bytes_eq q) names ≡ false → a < length names → get_or names a [] ≡ q → ⊥
not_listed q [] a none below same = omega arith
not_listed q (x ∷ xs) zero none below same =
    let here : bytes_eq q x ≡ true = subst (λ (y : List ℕ). bytes_eq q y ≡ true) (sym same) (equal_text q) in
    let e : list_any (bytes_eq q) (x ∷ xs) ≡ true = rw here refl in
    cc
not_listed q (x ∷ xs) (suc a) none below same =
    elim (cases_Bool (bytes_eq q x)) [
      | inl here ↦ let e : list_any (bytes_eq q) (x ∷ xs) ≡ true = rw here refl in cc
      | inr other ↦ not_listed q xs a (let e : list_any (bytes_eq q) (x ∷ xs) ≡ list_any (bytes_eq q) xs = rw other refl in sym e ∙ none) (omega arith) same
    ]

once_more : (names : List (List ℕ)) (name : List ℕ) → list_any (bytes_eq name) names ≡ false → IsOnce names → IsOnce (names ++ name ∷ [])
once_more names name none once a b la lb same =
    let l = length_push names name in
    elim (cases_lt a (length names)) [
      | inl fa ↦ elim (cases_lt b (length names)) [
        | inl fb ↦ once a b fa fb (sym (get_or_append_left names (name ∷ []) [] a fa) ∙ same ∙ get_or_append_left names (name ∷ []) [] b fb)
        | inr fb ↦
            let last : b ≡ length names = omega (arith, l, lb, fb) in
            absurd (not_listed name names a none fa (sym (get_or_append_left names (name ∷ []) [] a fa) ∙ same ∙ get_or_at names name [] [] b (sym last)))
      ]
      | inr fa ↦
          let last : a ≡ length names = omega (arith, l, la, fa) in
          elim (cases_lt b (length names)) [
            | inl fb ↦ absurd (not_listed name names b none fb (sym (get_or_append_left names (name ∷ []) [] b fb) ∙ sym same ∙ get_or_at names name [] [] a (sym last)))
            | inr fb ↦ omega (arith, l, lb, fb, last)
          ]
    ]

once_named : (names : List (List ℕ)) (form : Form) → IsOnce names → IsOnce (with_name names form)
once_named names (Form.Input name) once =
    elim (cases_Bool (list_any (bytes_eq name) names)) [
      | inl there ↦ rw there once
      | inr none ↦ rw none (once_more names name none once)
    ]
once_named names form once = once

once_after : (live : ℕ → Bool) (k : ℕ) (ns : List Node) (names : List (List ℕ)) → IsOnce names → IsOnce (names_after live k ns names)
once_after live k [] names once = once
once_after live k (n ∷ ns) names once =
    elim (cases_Bool (live k)) [
      | inl holds ↦ rw holds (once_after live (k + 1) ns (with_name names n.form) (once_named names n.form once))
      | inr fails ↦ rw fails (once_after live (k + 1) ns names once)
    ]

pub names_once : (e : Expression) → IsOnce (input_names e)
names_once e = once_after (is_live e) 0 e.nodes [] (λ a b la lb same. absurd (omega arith))

-- ---- the code's tests and loops

pub place_found : (names : List (List ℕ)) (name : List ℕ) (k : ℕ) (x : List ℕ) → drop k names ≡ x ∷ drop (k + 1) names
    → k + position_or_len (bytes_eq name) (drop k names) ≡ position_or_len (bytes_eq name) names → bytes_eq name x ≡ true → k ≡ position_or_len (bytes_eq name) names
place_found names name k x rest known same =
    let first : position_or_len (bytes_eq name) (x ∷ drop (k + 1) names) ≡ 0 = rw same refl in
    let there = ap (position_or_len (bytes_eq name)) rest in
    omega (arith, first, there, known)

pub place_passed : (names : List (List ℕ)) (name : List ℕ) (k : ℕ) (x : List ℕ) → drop k names ≡ x ∷ drop (k + 1) names
    → k + position_or_len (bytes_eq name) (drop k names) ≡ position_or_len (bytes_eq name) names → bytes_eq name x ≡ false
    → k + 1 + position_or_len (bytes_eq name) (drop (k + 1) names) ≡ position_or_len (bytes_eq name) names
place_passed names name k x rest known other =
    let behind : position_or_len (bytes_eq name) (x ∷ drop (k + 1) names) ≡ 1 + position_or_len (bytes_eq name) (drop (k + 1) names) = rw other refl in
    let there = ap (position_or_len (bytes_eq name)) rest in
    omega (arith, behind, there, known)

not_found : (name : List ℕ) (names : List (List ℕ)) → list_any (bytes_eq name) names ≡ false → position_or_len (bytes_eq name) names ≡ length names
not_found name [] h = refl
not_found name (x ∷ xs) h =
    elim (cases_Bool (bytes_eq name x)) [
      | inl same ↦ let e : list_any (bytes_eq name) (x ∷ xs) ≡ true = rw same refl in cc
      | inr other ↦
          let rest = not_found name xs (let e : list_any (bytes_eq name) (x ∷ xs) ≡ list_any (bytes_eq name) xs = rw other refl in sym e ∙ h) in
          let behind : position_or_len (bytes_eq name) (x ∷ xs) ≡ 1 + position_or_len (bytes_eq name) xs = rw other refl in
          omega (arith, behind, rest)
    ]

-- a name is listed exactly where its place is one of the list
pub listed_by_place : (name : List ℕ) (names : List (List ℕ)) → nat_lt (position_or_len (bytes_eq name) names) (length names) ≡ list_any (bytes_eq name) names
listed_by_place name names =
    elim (cases_Bool (list_any (bytes_eq name) names)) [
      | inl there ↦ lt-ltb (position_or_len (bytes_eq name) names) (length names) (found_place name names there).0 ∙ sym there
      | inr none ↦ let e = not_found name names none in le-ltb (position_or_len (bytes_eq name) names) (length names) (omega (arith, e)) ∙ sym none
    ]

-- one node more
names_step : (live : ℕ → Bool) (nodes : List Node) (k : ℕ) (n : Node) (names : List (List ℕ)) → drop k nodes ≡ n ∷ drop (k + 1) nodes
    → names_after live k (drop k nodes) names ≡ names_after live (k + 1) (drop (k + 1) nodes) (if live k then with_name names n.form else names)
names_step live nodes k n names rest = ap (λ ns. names_after live k ns names) rest

pub names_taken : (live : ℕ → Bool) (nodes : List Node) (k : ℕ) (n : Node) (names : List (List ℕ)) → live k ≡ true → drop k nodes ≡ n ∷ drop (k + 1) nodes
    → names_after live (k + 1) (drop (k + 1) nodes) (with_name names n.form) ≡ names_after live k (drop k nodes) names
names_taken live nodes k n names h rest =
    sym (names_step live nodes k n names rest ∙ ap (λ (b : Bool). names_after live (k + 1) (drop (k + 1) nodes) (if b then with_name names n.form else names)) h)

pub names_passed : (live : ℕ → Bool) (nodes : List Node) (k : ℕ) (n : Node) (names : List (List ℕ)) → live k ≡ false → drop k nodes ≡ n ∷ drop (k + 1) nodes
    → names_after live (k + 1) (drop (k + 1) nodes) names ≡ names_after live k (drop k nodes) names
names_passed live nodes k n names h rest =
    sym (names_step live nodes k n names rest ∙ ap (λ (b : Bool). names_after live (k + 1) (drop (k + 1) nodes) (if b then with_name names n.form else names)) h)
