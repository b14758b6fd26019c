-- Names of inputs, and the prefixes of made arrays.
use Rattle.std.proofs.Common.{◌≡◌, ◌≢◌, ℕ, suc, ◌<◌, ◌≤◌, ◌+◌, ◌^◌, ◌&&◌, nat_lt, nat_le, Bool, true, List, [], ◌∷◌, ◌++◌, All, Some, length, codes, slice_index, refl, ap, sym, ◌∙◌, subst, inl, inr, arith}
use Rattle.std.specs.Prelude.{slice_get, bytes_eq}
use Rattle.std.specs.Char.{is_ascii_alphanumeric}
use Rattle.std.specs.Fmt.{decimal}
use Rattle.std.specs.List.{list_all, list_any}
use Rattle.std.proofs.lemmas.Bool.{cases_Bool, and_parts, leb-true}
use Rattle.std.proofs.lemmas.Fmt.{decimal_injective}
use Rattle.std.proofs.lemmas.List.{length-append, append_cancel_left}
use Rattle.std.proofs.lemmas.List.Elements.{All-nil, All-cons, All-append}
use Rattle.cu_name.specs.Keys.{made_prefix_of}
use Rattle.cu_name.specs.Name.{is_name_byte, is_name, IsArrayName}
use Rattle.cu_form.specs.Expression.{Expression, IsExpression}
use Rattle.cu_form.specs.Form.{in_ranges}
use Rattle.cu_form.specs.declared.expr.Node.{Node}
use Rattle.cu_form.specs.declared.form.Form.{Form}
use Rattle.cu_need.specs.Live.{is_live}
use Rattle.cu_lower.specs.Inputs.{with_name, names_after, input_names}
use Rattle.cu_lower.specs.Premises.{IsLiveInput}

-- ---- a name is a name of an array

no_slash : (b : ℕ) → is_name_byte b ≡ true → b ≢ 47
no_slash b h e = let w : is_name_byte 47 ≡ true = subst (λ (c : ℕ). is_name_byte c ≡ true) e h in cc

no_slashes : (bytes : List ℕ) → list_all is_name_byte bytes ≡ true → All (λ b. b ≢ 47) bytes
no_slashes [] h = All-nil (λ (b : ℕ). b ≢ 47)
no_slashes (b ∷ bytes) h =
    let both = and_parts (is_name_byte b) (list_all is_name_byte bytes) h in
    All-cons (λ (c : ℕ). c ≢ 47) b bytes (no_slash b both.0) (no_slashes bytes both.1)

pub array_name : (name : List ℕ) → is_name name ≡ true → IsArrayName name
array_name name h =
    let a = and_parts (nat_lt 0 (length name) && nat_le (length name) 32 && is_ascii_alphanumeric (slice_index name 0)) (list_all is_name_byte name) h in
    let b = and_parts (nat_lt 0 (length name) && nat_le (length name) 32) (is_ascii_alphanumeric (slice_index name 0)) a.0 in
    let c = and_parts (nat_lt 0 (length name)) (nat_le (length name) 32) b.0 in
    record {
      plain = no_slashes name a.1;
      short = leb-true (length name) 32 c.1;
      first = λ e. let w : is_ascii_alphanumeric 95 ≡ true = subst (λ (x : ℕ). is_ascii_alphanumeric x ≡ true) e b.1 in cc;
    }

-- ---- the names of the inputs

-- each listed name is that of a live input node
abbrev pub IsUsed : Expression → List ℕ → Type 0
IsUsed e name = (k : ℕ) × IsLiveInput e k name

name_used : (e : Expression) (k : ℕ) (n : Node) (f : Form) (names : List (List ℕ)) → slice_get e.nodes k ≡ Some n → n.form ≡ f → is_live e k ≡ true
    → All (IsUsed e) names → All (IsUsed e) (with_name names f)
name_used e k n (Form.Input name) names at is live h =
    elim (cases_Bool (list_any (bytes_eq name) names)) [
      | inl there ↦ rw there h
      | inr none ↦ rw none (All-append (IsUsed e) names (name ∷ []) h (All-cons (IsUsed e) name [] (k, record { node = n; at = at; form = is; live = live }) (All-nil (IsUsed e))))
    ]
name_used e k n f names at is live h = h

names_used : (e : Expression) (k : ℕ) (ns : List Node) (names : List (List ℕ)) → ((i : ℕ) → slice_get ns i ≡ slice_get e.nodes (k + i)) → All (IsUsed e) names
    → All (IsUsed e) (names_after (is_live e) k ns names)
names_used e k [] names from h = h
names_used e k (n ∷ ns) names from h =
    let next : (i : ℕ) → slice_get ns i ≡ slice_get e.nodes (k + 1 + i) = λ i. from (suc i) ∙ ap (slice_get e.nodes) (let s : k + suc i ≡ k + 1 + i = omega arith in s) in
    let here : slice_get e.nodes k ≡ Some n = ap (slice_get e.nodes) (let z : k ≡ k + 0 = omega arith in z) ∙ sym (from 0) in
    elim (cases_Bool (is_live e k)) [
      | inl live ↦ rw live (names_used e (k + 1) ns (with_name names n.form) next (name_used e k n n.form names here refl live h))
      | inr dead ↦ rw dead (names_used e (k + 1) ns names next h)
    ]

pub input_used : (e : Expression) → All (IsUsed e) (input_names e)
input_used e = names_used e 0 e.nodes [] (λ i. ap (slice_get e.nodes) (let z : i ≡ 0 + i = omega arith in z)) (All-nil (IsUsed e))

name_few : (names : List (List ℕ)) (f : Form) → length (with_name names f) ≤ length names + 1
name_few names (Form.Input name) =
    elim (cases_Bool (list_any (bytes_eq name) names)) [
      | inl there ↦ rw there (omega arith)
      | inr none ↦ let l = length-append names (name ∷ []) in rw none (omega (arith, l))
    ]
name_few names f = omega arith

names_few : (live : ℕ → Bool) (k : ℕ) (ns : List Node) (names : List (List ℕ)) → length (names_after live k ns names) ≤ length names + length ns
names_few live k [] names = omega arith
names_few live k (n ∷ ns) names =
    elim (cases_Bool (live k)) [
      | inl holds ↦ let a = names_few live (k + 1) ns (with_name names n.form) in let b = name_few names n.form in rw holds (omega (arith, a, b))
      | inr fails ↦ let a = names_few live (k + 1) ns names in rw fails (omega (arith, a))
    ]

pub inputs_few : (e : Expression) → length (input_names e) ≤ length e.nodes
inputs_few e = let a = names_few (is_live e) 0 e.nodes [] in omega (arith, a)

pub used_is_name : (e : Expression) (name : List ℕ) → IsExpression e → IsUsed e name → is_name name ≡ true
used_is_name e name form (k, u) = ap in_ranges (sym u.form) ∙ (form.nodes k u.node u.at).form.ranges

-- ---- the prefixes of made arrays

pub prefix_told : (name : List ℕ) (j k : ℕ) → j < 2 ^ 64 → k < 2 ^ 64 → made_prefix_of name j ≡ made_prefix_of name k → j ≡ k
prefix_told name j k sj sk e = decimal_injective j k sj sk (append_cancel_left ((codes "_cubed/" ++ name) ++ codes "/") (decimal j) (decimal k) e)

pub prefix_other : (name : List ℕ) (k : ℕ) → name ≢ made_prefix_of name k
prefix_other name k e =
    let a = length-append ((codes "_cubed/" ++ name) ++ codes "/") (decimal k) in
    let b = length-append (codes "_cubed/" ++ name) (codes "/") in
    let c = length-append (codes "_cubed/") name in
    let l = ap length e in
    omega (arith, a, b, c, l)
