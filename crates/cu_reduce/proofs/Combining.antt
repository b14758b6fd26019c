-- What a combination of two values makes of lists, where it is associative and commutative and has a unit: of all parts of a region
-- that is cut along its axes it is what it makes of the whole region.
use Rattle.std.proofs.Common.{◌≡◌, ℕ, ◌+◌, ◌-◌, ◌≤◌, zero, suc, List, [], ◌∷◌, ◌++◌, length, map, refl, sym, ap, ◌∙◌, arith, ⊎_elim}
use Rattle.std.specs.List.{range_with_len, flat_map}
use Rattle.std.proofs.lemmas.Bool.{cases_lt}
use Rattle.cu_reduce.specs.Regions.{region_indices}
use Rattle.cu_reduce.specs.Parts.{part_start, Rises, part_indices}
use Rattle.cu_reduce.proofs.Ranges.{range_append, risen}
use Rattle.cu_reduce.proofs.Regions.{region_front}

-- A value that is a combination already is not changed by the unit. The values of which others are made need not be: they may be
-- wrapped first.
pub record Combining (A : Type 0) : Type 0 where
  pub op : A → A → A
  pub unit : A
  pub assoc : (x y z : A) → op (op x y) z ≡ op x (op y z)
  pub comm : (x y : A) → op x y ≡ op y x
  pub own : op unit unit ≡ unit
  pub absorbs : (x y : A) → op unit (op x y) ≡ op x y

module _ {A : Type 0} (m : Combining A) where
  abbrev pub total : List A → A
  total [] = m.unit
  total (x ∷ xs) = m.op x (total xs)

  pub total_settled : (xs : List A) → m.op m.unit (total xs) ≡ total xs
  total_settled [] = m.own
  total_settled (x ∷ xs) = m.absorbs x (total xs)

  pub total_append : (xs ys : List A) → total (xs ++ ys) ≡ m.op (total xs) (total ys)
  total_append [] ys = sym (total_settled ys)
  total_append (x ∷ xs) ys = ap (m.op x) (total_append xs ys) ∙ sym (m.assoc x (total xs) (total ys))

  four : (a b c d : A) → m.op (m.op a b) (m.op c d) ≡ m.op (m.op a c) (m.op b d)
  four a b c d =
      m.assoc a b (m.op c d) ∙ ap (m.op a) (sym (m.assoc b c d) ∙ ap (λ z. m.op z d) (m.comm b c) ∙ m.assoc c b d) ∙ sym (m.assoc a c (m.op b d))

  module _ {X : Type 0} where
    over_append : (f : X → A) (xs ys : List X) → total (map f (xs ++ ys)) ≡ m.op (total (map f xs)) (total (map f ys))
    over_append f [] ys = sym (total_settled (map f ys))
    over_append f (x ∷ xs) ys = ap (m.op (f x)) (over_append f xs ys) ∙ sym (m.assoc (f x) (total (map f xs)) (total (map f ys)))

    over_op : (f g : X → A) (xs : List X) → total (map (λ x. m.op (f x) (g x)) xs) ≡ m.op (total (map f xs)) (total (map g xs))
    over_op f g [] = sym m.own
    over_op f g (x ∷ xs) = ap (m.op (m.op (f x) (g x))) (over_op f g xs) ∙ four (f x) (g x) (total (map f xs)) (total (map g xs))

    over_unit : (xs : List X) → total (map (λ x. m.unit) xs) ≡ m.unit
    over_unit [] = refl
    over_unit (x ∷ xs) = ap (m.op m.unit) (over_unit xs) ∙ m.own

  module _ {X Y : Type 0} where
    over_map : (f : Y → A) (g : X → Y) (xs : List X) → total (map f (map g xs)) ≡ total (map (λ x. f (g x)) xs)
    over_map f g [] = refl
    over_map f g (x ∷ xs) = ap (m.op (f (g x))) (over_map f g xs)

    over_flat : (f : Y → A) (g : X → List Y) (xs : List X) → total (map f (flat_map g xs)) ≡ total (map (λ x. total (map f (g x))) xs)
    over_flat f g [] = refl
    over_flat f g (x ∷ xs) = over_append f (g x) (flat_map g xs) ∙ ap (m.op (total (map f (g x)))) (over_flat f g xs)

    exchange : (f : X → Y → A) (xs : List X) (ys : List Y) → total (map (λ x. total (map (f x) ys)) xs) ≡ total (map (λ y. total (map (λ x. f x y) xs)) ys)
    exchange f [] ys = sym (over_unit ys)
    exchange f (x ∷ xs) ys =
        ap (m.op (total (map (f x) ys))) (exchange f xs ys) ∙ sym (over_op (f x) (λ y. total (map (λ z. f z y) xs)) ys)

  -- along the first axis of what is made of the others
  pub total_front : (f : List ℕ → A) (l h : ℕ) (ls hs : List ℕ)
      → total (map f (region_indices (l ∷ ls) (h ∷ hs))) ≡ total (map (λ i. total (map (λ is. f (i ∷ is)) (region_indices ls hs))) (range_with_len l (h - l)))
  total_front f l h ls hs =
      ap (λ xs. total (map f xs)) (region_front l h ls hs)
      ∙ over_flat f (λ i. map (λ is. i ∷ is) (region_indices ls hs)) (range_with_len l (h - l))
      ∙ (λ j. total (map (λ i. over_map f (λ is. i ∷ is) (region_indices ls hs) j) (range_with_len l (h - l))))

  -- ---- one axis

  spans : (c : ℕ → ℕ) → ((p : ℕ) → c p ≤ c (suc p)) → (f : ℕ → A) (l n : ℕ)
      → total (map (λ p. total (map f (range_with_len (c p) (c (suc p) - c p)))) (range_with_len l n)) ≡ total (map f (range_with_len (c l) (c (l + n) - c l)))
  spans c r f l zero =
      let e : l + 0 ≡ l = omega arith in
      let s : c (l + 0) ≡ c l = ap c e in
      let z : 0 ≡ c (l + 0) - c l = omega arith in
      ap (λ k. total (map f (range_with_len (c l) k))) z
  spans c r f l (suc n) =
      let one : l + 1 ≡ suc l = omega arith in
      let all : l + 1 + n ≡ l + suc n = omega arith in
      let x : c (l + 1) ≡ c (suc l) = ap c one in
      let y : c (l + 1 + n) ≡ c (l + suc n) = ap c all in
      let up : c l ≤ c (suc l) = r l in
      let on : c (l + 1) ≤ c (l + 1 + n) = risen c r (l + 1) n in
      let at : c (l + 1) ≡ c l + (c (suc l) - c l) = omega arith in
      let whole : c (suc l) - c l + (c (l + 1 + n) - c (l + 1)) ≡ c (l + suc n) - c l = omega arith in
      ap (m.op (total (map f (range_with_len (c l) (c (suc l) - c l))))) (spans c r f (l + 1) n ∙ ap (λ k. total (map f (range_with_len k (c (l + 1 + n) - c (l + 1))))) at)
      ∙ sym (over_append f (range_with_len (c l) (c (suc l) - c l)) (range_with_len (c l + (c (suc l) - c l)) (c (l + 1 + n) - c (l + 1))))
      ∙ ap (λ xs. total (map f xs)) (range_append (c l) (c (suc l) - c l) (c (l + 1 + n) - c (l + 1)))
      ∙ ap (λ k. total (map f (range_with_len (c l) k))) whole

  axis : (c : ℕ → ℕ) → ((p : ℕ) → c p ≤ c (suc p)) → (f : ℕ → A) (l h : ℕ)
      → total (map (λ p. total (map f (range_with_len (c p) (c (suc p) - c p)))) (range_with_len l (h - l))) ≡ total (map f (range_with_len (c l) (c h - c l)))
  axis c r f l h =
      ⊎_elim
      (λ less. let e : l + (h - l) ≡ h = omega arith in spans c r f l (h - l) ∙ ap (λ k. total (map f (range_with_len (c l) (c k - c l)))) e)
      (λ more.
      let e : h + (l - h) ≡ l = omega arith in
      let s : c (h + (l - h)) ≡ c l = ap c e in
      let none : h - l ≡ 0 = omega arith in
      let empty : 0 ≡ c h - c l = omega (arith, risen c r h (l - h)) in
      ap (λ k. total (map (λ p. total (map f (range_with_len (c p) (c (suc p) - c p)))) (range_with_len l k))) none
      ∙ ap (λ k. total (map f (range_with_len (c l) k))) empty)
      (cases_lt l h)

  -- ---- all axes

  pub telescope : (cuts : List (ℕ → ℕ)) (lo hi : List ℕ) (f : List ℕ → A) → Rises cuts → length lo ≡ length cuts → length hi ≡ length cuts
      → total (map (λ p. total (map f (part_indices cuts p))) (region_indices lo hi)) ≡ total (map f (region_indices (part_start cuts lo) (part_start cuts hi)))
  telescope [] [] [] f r e g = m.comm (m.op (f []) m.unit) m.unit ∙ m.absorbs (f []) m.unit
  telescope (c ∷ cs) (l ∷ ls) (h ∷ hs) f r e g =
      let of : ℕ → List ℕ → A = λ j ps. total (map (λ is. f (j ∷ is)) (part_indices cs ps)) in
      let whole : ℕ → A = λ j. total (map (λ is. f (j ∷ is)) (region_indices (part_start cs ls) (part_start cs hs))) in
      total_front (λ p. total (map f (part_indices (c ∷ cs) p))) l h ls hs
      ∙ (λ k. total (map (λ i. total (map (λ ps. total_front f (c i) (c (suc i)) (part_start cs ps) (part_start cs (map suc ps)) k) (region_indices ls hs))) (range_with_len l (h - l))))
      ∙ (λ k. total (map (λ i. exchange (λ ps j. of j ps) (region_indices ls hs) (range_with_len (c i) (c (suc i) - c i)) k) (range_with_len l (h - l))))
      ∙ (λ k. total (map (λ i. total (map (λ j. telescope cs ls hs (λ is. f (j ∷ is)) r.1 (omega arith) (omega arith) k) (range_with_len (c i) (c (suc i) - c i)))) (range_with_len l (h - l))))
      ∙ axis c r.0 whole l h
      ∙ sym (total_front f (c l) (c h) (part_start cs ls) (part_start cs hs))
  telescope cuts lo hi f r e g = absurd (omega arith)
