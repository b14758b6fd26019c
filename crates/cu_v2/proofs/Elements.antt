-- The text of a type and a byte order: what is read of it, and what it may be.
use Rattle.std.proofs.Common.{◌≡◌, ◌<◌, ℕ, zero, suc, ◌==◌, ◌&&◌, ◌⊎◌, inl, inr, ⊎_elim, cond, List, [], ◌∷◌, codes, bytes_eq, Option, Some, None, Contains, if◌then◌else◌, refl, sym, ap, subst, ◌∙◌, arith}
use Rattle.std.specs.Prelude.{Bool as Test, true, false}
use Rattle.std.proofs.lemmas.Bool.{eqb-true, eq-eqb}
use Rattle.std.proofs.lemmas.Slice.Eq.{bytes_eq-Decides}
use Rattle.serde_json.specs.Data.{Data, string}
use Rattle.serde_json.specs.Find.{as_str}
use Rattle.cu_num.specs.Dtype.{size_of}
use Rattle.cu_num.specs.declared.types.Dtype.{Dtype}
use Rattle.cu_num.specs.declared.types.Dtype.TheVariants.{Bool, Int8, Int16, Int32, Int64, Uint8, Uint16, Uint32, Uint64}
use Rattle.cu_num.specs.declared.layout.Endian.{Endian}
use Rattle.cu_num.specs.declared.layout.Endian.TheVariants.{Little, Big}
use Rattle.cu_v2.specs.Members.{type_of_code, order_of_sign, element_of_text, element_of}
use Rattle.cu_v2.specs.Form.{code_of_type, order_signs, IsTypeText}
use Rattle.cu_v2.proofs.Values.{some_of, is_string}

-- ---- the code

type_back : (t : Dtype) → type_of_code (code_of_type t) ≡ Some t
type_back Bool = refl
type_back Int8 = refl
type_back Int16 = refl
type_back Int32 = refl
type_back Int64 = refl
type_back Uint8 = refl
type_back Uint16 = refl
type_back Uint32 = refl
type_back Uint64 = refl

-- a choice that gives a type gives one of its two
chosen_type : (b : Test) (first t : Dtype) (rest : Option Dtype) → cond b (Some first) rest ≡ Some t → ((b ≡ true) × (first ≡ t)) ⊎ (rest ≡ Some t)
chosen_type true first t rest e = inl (refl, cc)
chosen_type false first t rest e = inr e

is_code : (code : List ℕ) (t : Dtype) → type_of_code code ≡ Some t → code ≡ code_of_type t
is_code code t e =
    from Bool _ e (λ e. from Int8 _ e (λ e. from Int16 _ e (λ e. from Int32 _ e (λ e. from Int64 _ e (λ e. from Uint8 _ e (λ e. from Uint16 _ e (λ e. from Uint32 _ e (λ e. from Uint64 _ e (λ e. cc)))))))))
  where
    from : (u : Dtype) (rest : Option Dtype) → cond (bytes_eq code (code_of_type u)) (Some u) rest ≡ Some t → (rest ≡ Some t → code ≡ code_of_type t) → code ≡ code_of_type t
    from u rest e other = ⊎_elim
        (λ (same, is). (bytes_eq-Decides code (code_of_type u)).0 same ∙ ap code_of_type is)
        other
        (chosen_type (bytes_eq code (code_of_type u)) u t rest e)

-- ---- the sign

-- what a sign says, by its three tests and the test of one byte
said : (less greater bar one : Test) → Option Endian
said less greater bar one = if less then Some Little else if greater then Some (if one then Little else Big) else if bar && one then Some Little else None

-- the signs that may stand before a type, by the test of one byte
signs_of : (one : Test) → Endian → List ℕ
signs_of one Little = if one then codes "<>|" else codes "<"
signs_of one Big = if one then [] else codes ">"

sign_told : (sign : ℕ) (less greater bar one : Test) (e : Endian) → (sign == 60) ≡ less → (sign == 62) ≡ greater → (sign == 124) ≡ bar
    → said less greater bar one ≡ Some e → Contains (signs_of one e) sign
unfolding said signs_of
sign_told sign true greater bar true Little p q r h = (0, omega arith, sym (eqb-true sign 60 p))
sign_told sign true greater bar false Little p q r h = (0, omega arith, sym (eqb-true sign 60 p))
sign_told sign true greater bar one Big p q r h = cc
sign_told sign false true bar true Little p q r h = (1, omega arith, sym (eqb-true sign 62 q))
sign_told sign false true bar true Big p q r h = cc
sign_told sign false true bar false Little p q r h = cc
sign_told sign false true bar false Big p q r h = (0, omega arith, sym (eqb-true sign 62 q))
sign_told sign false false true true Little p q r h = (2, omega arith, sym (eqb-true sign 124 r))
sign_told sign false false true true Big p q r h = cc
sign_told sign false false true false e p q r h = cc
sign_told sign false false false one e p q r h = cc

signs_same : (t : Dtype) (e : Endian) → signs_of (size_of t == 1) e ≡ order_signs t e
unfolding signs_of
signs_same t Little = refl
signs_same t Big = refl

is_sign : (sign : ℕ) (t : Dtype) (e : Endian) → order_of_sign sign t ≡ Some e → Contains (order_signs t e) sign
unfolding said
is_sign sign t e h = subst (λ signs. Contains signs sign) (signs_same t e) (sign_told sign (sign == 60) (sign == 62) (sign == 124) (size_of t == 1) e refl refl refl h)

no_more : {A : Type 0} (n : ℕ) → suc (suc (suc n)) < 3 → A
no_more n h = absurd (omega arith)

one_of_three : (a b c sign : ℕ) → Contains (a ∷ b ∷ c ∷ []) sign → (sign ≡ a) ⊎ ((sign ≡ b) ⊎ (sign ≡ c))
one_of_three a b c sign (zero, below, is) = inl (sym is)
one_of_three a b c sign (suc zero, below, is) = inr (inl (sym is))
one_of_three a b c sign (suc (suc zero), below, is) = inr (inr (sym is))
one_of_three a b c sign (suc (suc (suc n)), below, is) = no_more n below

one_of_one : (a sign : ℕ) → Contains (a ∷ []) sign → sign ≡ a
one_of_one a sign (zero, below, is) = sym is
one_of_one a sign (suc n, below, is) = absurd (omega (arith, below))

none_in : {A : Type 0} (sign : ℕ) → Contains [] sign → A
none_in sign (n, below, is) = absurd (omega (arith, below))

sign_back : (sign : ℕ) (one : Test) (e : Endian) → Contains (signs_of one e) sign → said (sign == 60) (sign == 62) (sign == 124) one ≡ Some e
unfolding said signs_of
sign_back sign true Little h = ⊎_elim (λ (e : sign ≡ 60). rw e refl)
    (λ (two : (sign ≡ 62) ⊎ (sign ≡ 124)). ⊎_elim (λ (e : sign ≡ 62). rw e refl) (λ (e : sign ≡ 124). rw e refl) two) (one_of_three 60 62 124 sign h)
sign_back sign false Little h = rw (one_of_one 60 sign h) refl
sign_back sign true Big h = none_in sign h
sign_back sign false Big h = rw (one_of_one 62 sign h) refl

order_back : (sign : ℕ) (t : Dtype) (e : Endian) → Contains (order_signs t e) sign → order_of_sign sign t ≡ Some e
unfolding said
order_back sign t e h = sign_back sign (size_of t == 1) e (subst (λ signs. Contains signs sign) (sym (signs_same t e)) h)

-- ---- both

same_pair : (x y : Dtype × Endian) → Some x ≡ Some y → (x.0 ≡ y.0) × (x.1 ≡ y.1)
same_pair x y h = let e : x ≡ y = cc in (ap (λ (p : Dtype × Endian). p.0) e, ap (λ (p : Dtype × Endian). p.1) e)

no_pair : (x : Dtype × Endian) → None ≡ Some x → ⊥
no_pair x h = cc

is_type_text : (text : List ℕ) (t : Dtype) (e : Endian) → element_of_text text ≡ Some (t, e) → IsTypeText text t e
is_type_text [] t e h = cc
is_type_text (sign ∷ code) t e h =
    some_of (type_of_code code) (λ none. no_pair (t, e) (rw none at h)) (λ u p.
    let h1 = rw p at h in
    some_of (order_of_sign sign u) (λ none. no_pair (t, e) (rw none at h1)) (λ o q.
    let h2 = rw q at h1 in
    let same : (u ≡ t) × (o ≡ e) = same_pair (u, o) (t, e) h2 in
    (sign, ap (λ c. sign ∷ c) (is_code code u p ∙ ap code_of_type same.0), subst (λ v. Contains (order_signs v e) sign) same.0 (subst (λ v. Contains (order_signs u v) sign) same.1 (is_sign sign u o q)))))

pub record IsElementText (d : Data) (t : Dtype) (e : Endian) : Type 0 where
  pub text : List ℕ
  pub is : d ≡ string text
  pub says : IsTypeText text t e

pub is_element : (d : Data) (t : Dtype) (e : Endian) → element_of d ≡ Some (t, e) → IsElementText d t e
is_element d t e h =
    some_of (as_str d) (λ none. no_pair (t, e) (rw none at h)) (λ text p.
    record { text = text; is = is_string d text p; says = is_type_text text t e (rw p at h) })

element_told : (sign : ℕ) (code : List ℕ) (t : Dtype) (e : Endian) → code ≡ code_of_type t → Contains (order_signs t e) sign → element_of_text (sign ∷ code) ≡ Some (t, e)
element_told sign code t e is h = rw (is, type_back t, order_back sign t e h) refl

pub element_back : (text : List ℕ) (t : Dtype) (e : Endian) → IsTypeText text t e → element_of (string text) ≡ Some (t, e)
element_back text t e (sign, is, h) = ap element_of_text is ∙ element_told sign (code_of_type t) t e refl h

-- a type of one byte is little-endian
pub byte_is_little : (text : List ℕ) (t : Dtype) (e : Endian) → IsTypeText text t e → size_of t ≡ 1 → e ≡ Little
byte_is_little text t Little h one = refl
byte_is_little text t Big (sign, is, h) one = none_in sign (subst (λ b. Contains (if b then [] else codes ">") sign) (eq-eqb (size_of t) 1 one) h)
