-- The names of an expression's inputs, each once.
use Rattle.std.proofs.Common.{◌≡◌, ◌⊎◌, ℕ, ◌||◌, Bool, true, false, List, [], ◌∷◌, ◌++◌, refl, sym, ap, ◌∙◌, subst, inl, inr, append_assoc}
use Rattle.std.specs.Prelude.{bytes_eq}
use Rattle.std.specs.List.{list_any}
use Rattle.std.proofs.lemmas.List.Folds.{list_any-append}
use Rattle.std.proofs.lemmas.Slice.Eq.{bytes_eq-Decides}
use Rattle.cu_form.specs.Expression.{Expression}
use Rattle.cu_command.specs.Inputs.{used_names, others_once, names_in, IsFirstUse}

-- the same, behind names that were seen
record IsFirstAfter (seen used front : List (List ℕ)) (name : List ℕ) : Type 0 where
  before : List (List ℕ)
  behind : List (List ℕ)
  place : used ≡ before ++ name ∷ behind
  same : (x : List ℕ) → list_any (bytes_eq x) (seen ++ before) ≡ list_any (bytes_eq x) (seen ++ front)
  new : list_any (bytes_eq name) (seen ++ front) ≡ false

or_known : (a b c : Bool) → (b ≡ true → a ≡ true) → (a || (b || c)) ≡ (a || c)
or_known true b c h = refl
or_known false true c h = cc (h refl)
or_known false false c h = refl

-- a name that was seen already adds none
seen_again : (x y : List ℕ) (seen rest : List (List ℕ)) → list_any (bytes_eq y) seen ≡ true → list_any (bytes_eq x) (seen ++ y ∷ rest) ≡ list_any (bytes_eq x) (seen ++ rest)
seen_again x y seen rest was =
    list_any-append (bytes_eq x) seen (y ∷ rest)
    ∙ or_known (list_any (bytes_eq x) seen) (bytes_eq x y) (list_any (bytes_eq x) rest) (λ same. subst (λ (n : List ℕ). list_any (bytes_eq n) seen ≡ true) (sym ((bytes_eq-Decides x y).0 same)) was)
    ∙ sym (list_any-append (bytes_eq x) seen rest)

head_same : (a b : List ℕ) (xs ys : List (List ℕ)) → a ∷ xs ≡ b ∷ ys → a ≡ b
head_same a b xs ys e = cc

rest_same : (a b : List ℕ) (xs ys : List (List ℕ)) → a ∷ xs ≡ b ∷ ys → xs ≡ ys
rest_same a b xs ys e = cc

either : (b : Bool) → (b ≡ true) ⊎ (b ≡ false)
either true = inl refl
either false = inr refl

again : (seen ys front : List (List ℕ)) (name y : List ℕ) → list_any (bytes_eq y) seen ≡ true → IsFirstAfter seen ys front name → IsFirstAfter seen (y ∷ ys) front name
again seen ys front name y was later = record {
  before = y ∷ later.before;
  behind = later.behind;
  place = ap (λ (xs : List (List ℕ)). y ∷ xs) later.place;
  same = λ x. seen_again x y seen later.before was ∙ later.same x;
  new = later.new;
}

anew : (seen ys front : List (List ℕ)) (name y : List ℕ) (behind : List (List ℕ)) → list_any (bytes_eq y) seen ≡ false → y ∷ others_once (seen ++ y ∷ []) ys ≡ front ++ name ∷ behind
    → ((next : List (List ℕ)) → others_once (seen ++ y ∷ []) ys ≡ next ++ name ∷ behind → IsFirstAfter (seen ++ y ∷ []) ys next name) → IsFirstAfter seen (y ∷ ys) front name
anew seen ys [] name y behind fresh is step =
    let first : y ≡ name = head_same y name (others_once (seen ++ y ∷ []) ys) behind is in
    record {
      before = [];
      behind = ys;
      place = ap (λ (n : List ℕ). n ∷ ys) first;
      same = λ x. refl;
      new = list_any-append (bytes_eq name) seen [] ∙ ap (λ (b : Bool). b || false) (subst (λ (n : List ℕ). list_any (bytes_eq n) seen ≡ false) first fresh);
    }
anew seen ys (f ∷ front) name y behind fresh is step =
    let first : y ≡ f = head_same y f (others_once (seen ++ y ∷ []) ys) (front ++ name ∷ behind) is in
    let later = step front (rest_same y f (others_once (seen ++ y ∷ []) ys) (front ++ name ∷ behind) is) in
    record {
      before = y ∷ later.before;
      behind = later.behind;
      place = ap (λ (xs : List (List ℕ)). y ∷ xs) later.place;
      same = λ x. ap (list_any (bytes_eq x)) (sym (append_assoc seen (y ∷ []) later.before)) ∙ later.same x ∙ ap (list_any (bytes_eq x)) (append_assoc seen (y ∷ []) front)
          ∙ ap (λ (n : List ℕ). list_any (bytes_eq x) (seen ++ n ∷ front)) first;
      new = ap (list_any (bytes_eq name)) (ap (λ (n : List ℕ). seen ++ n ∷ front) (sym first) ∙ sym (append_assoc seen (y ∷ []) front)) ∙ later.new;
    }

first_after : (seen used front : List (List ℕ)) (name : List ℕ) (behind : List (List ℕ)) → others_once seen used ≡ front ++ name ∷ behind → IsFirstAfter seen used front name
first_after seen [] [] name behind is = cc
first_after seen [] (f ∷ front) name behind is = cc
first_after seen (y ∷ ys) front name behind is = elim (either (list_any (bytes_eq y) seen)) [
  | inl was ↦ again seen ys front name y was (first_after seen ys front name behind (rw was at is))
  | inr fresh ↦ anew seen ys front name y behind fresh (rw fresh at is) (λ next e. first_after (seen ++ y ∷ []) ys next name behind e)
]

pub first_use : (e : Expression) (front : List (List ℕ)) (name : List ℕ) (behind : List (List ℕ)) → names_in e ≡ front ++ name ∷ behind → IsFirstUse (used_names e.nodes) front name
first_use e front name behind is =
    let first = first_after [] (used_names e.nodes) front name behind is in
    record { before = first.before; behind = first.behind; place = first.place; same = first.same; new = first.new }
