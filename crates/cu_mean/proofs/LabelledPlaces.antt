-- The elements of a group, from a place on.
use Rattle.std.proofs.Common.{◌≡◌, ◌-◌, ◌<◌, ◌≤◌, ℕ, ℤ, Bool, true, false, List, [], ◌∷◌, map, refl, ap, ◌∙◌, sym, arith, if◌then◌else◌}
use Rattle.std.specs.List.{range_with_len}
use Rattle.cu_num.specs.Wrap.{wrapped}
use Rattle.cu_num.specs.declared.types.Dtype.{Dtype}
use Rattle.cu_num.specs.declared.folds.FoldKind.{FoldKind}
use Rattle.cu_reduce.specs.Labels.{is_label, members, group_fold, grouped_at}
use Rattle.cu_mean.specs.Reductions.{kept_of, IsNone}
use Rattle.cu_mean.proofs.Steps.{range_front, wrapped_kept}

-- those of group q at the places from p on, of n
abbrev pub members_from : (ℕ → ℤ) → (ℕ → ℤ) → ℕ → ℕ → ℕ → List ℤ
members_from label element q p n = map element (members label q (range_with_len p (n - p)))

member_front : (label element : ℕ → ℤ) (q k : ℕ) (ks : List ℕ) (b : Bool) → is_label q (label k) ≡ b
    → map element (members label q (k ∷ ks)) ≡ (if b then element k ∷ map element (members label q ks) else map element (members label q ks))
member_front label element q k ks true e = rw e refl
member_front label element q k ks false e = rw e refl

pub members_front : (label element : ℕ → ℤ) (q p n : ℕ) (b : Bool) → 0 < p → p ≤ n → b ≡ is_label q (label (p - 1))
    → members_from label element q (p - 1) n
    ≡ (if b then element (p - 1) ∷ members_from label element q p n else members_from label element q p n)
members_front label element q p n b h g e =
    ap (λ ks. map element (members label q ks)) (range_front p n h g)
    ∙ member_front label element q (p - 1) (range_with_len p (n - p)) b (sym e)

pub members_none : (label element : ℕ → ℤ) (q n : ℕ) → members_from label element q n n ≡ []
members_none label element q n =
    let e : n - n ≡ 0 = omega arith in
    ap (λ (m : ℕ). map element (members label q (range_with_len n m))) e

pub members_whole : (kind : FoldKind) (t : Dtype) (label element : ℕ → ℤ) (q p n : ℕ) → p ≤ 0
    → group_fold kind t (members_from label element q p n) ≡ grouped_at kind t label element q (range_with_len 0 n)
members_whole kind t label element q p n h =
    let x : p ≡ 0 = omega arith in
    let y : n - p ≡ n = omega arith in
    (λ i. group_fold kind t (map element (members label q (range_with_len (x i) (y i)))))

-- ---- what is made of them

pub none_made : (kind : FoldKind) (t : Dtype) (xs : List ℤ) (none : Bool) → none ≡ true → IsNone xs none
    → group_fold kind t xs ≡ group_fold kind t []
none_made kind t [] none e h = refl
none_made kind t (x ∷ xs) none e h = cc

pub some_made : (kind : FoldKind) (t : Dtype) (xs : List ℤ) (none : Bool) → none ≡ false → IsNone xs none
    → wrapped t (kept_of kind t xs) ≡ wrapped t (group_fold kind t xs)
some_made kind t [] none e h = cc
some_made kind t (x ∷ xs) none e h = wrapped_kept kind t (x ∷ xs)
