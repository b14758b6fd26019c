-- The arrays that are left have names of their own.
use Rattle.std.proofs.Common.{◌≡◌, ◌≢◌, ◌⊎◌, inl, inr, ℕ, zero, suc, ◌+◌, ◌<◌, ◌≤◌, ◌^◌, false, List, [], ◌∷◌, ◌++◌, All, codes, length, Option, Some, None, refl, ap, sym, ◌∙◌, subst, arith, length-append, ⊎_elim, if◌then◌else◌}
use Rattle.std.specs.List.{slice_get}
use Rattle.std.specs.Char.{digit_value}
use Rattle.std.specs.Fmt.{decimal}
use Rattle.std.specs.Str.Parse.{AllDigits}
use Rattle.std.proofs.lemmas.Bool.Decides.{eqb_tells}
use Rattle.std.proofs.lemmas.Bool.{cases_lt, cases_Bool}
use Rattle.std.proofs.lemmas.Fmt.{decimal_injective, decimal_is_IsNumeral}
use Rattle.std.proofs.lemmas.List.{append_assoc, append_cancel_left, get_or_default}
use Rattle.std.proofs.lemmas.List.Elements.{All-cons, All-head, All-tail}
use Rattle.cu_name.specs.Keys.{made_prefix_of}
use Rattle.cu_name.specs.Name.{IsArrayName}
use Rattle.cu_num.specs.declared.layout.Encoding.{Encoding}
use Rattle.cu_num.specs.declared.layout.Encoding.TheVariants.{Plain}
use Rattle.cu_num.specs.declared.layout.Sep.TheVariants.{Slash}
use Rattle.cu_zarr.specs.Key.{coordinates}
use Rattle.cu_op.specs.declared.layout.ArrayInfo.{ArrayInfo}
use Rattle.cu_op.specs.declared.layout.Layout.{Layout}
use Rattle.cu_op.specs.declared.operation.Planned.{Planned}
use Rattle.cu_shape.specs.Index.{product}
use Rattle.cu_grid.specs.Grid.{IsCoordinate, IsGrid}
use Rattle.cu_op.specs.Arrays.{array_at, is_inlined, maker_at, no_array, grid_counts, array_chunk_count}
use Rattle.cu_op.specs.Layout.{IsArray, IsLayout}
use Rattle.cu_op.specs.Names.{HasCells, HasOwnNames}
use Rattle.cu_op.specs.PlanView.{PlanView}
use Rattle.cu_op.specs.Sound.{Sound, IsCell, ChunkKeysDiffer}
use Rattle.cu_fuse.specs.Close.{remains, remaining_from, remaining_numbers, remaining_array, remaining_arrays, count_behind, others_before, closed, setting_of, HasMadeNames}
use Rattle.cu_fuse.proofs.LeftArrays.{length-left, old_array, numbers_out, left_once, inlined_of_left}

pub prefix_told : (name : List ℕ) (j k : ℕ) → j < 2 ^ 64 → k < 2 ^ 64 → made_prefix_of name j ≡ made_prefix_of name k → j ≡ k
prefix_told name j k sj sk e = decimal_injective j k sj sk (append_cancel_left ((codes "_cubed/" ++ name) ++ codes "/") (decimal j) (decimal k) e)

pub prefix_other : (name : List ℕ) (k : ℕ) → name ≢ made_prefix_of name k
prefix_other name k e =
    let a = length-append ((codes "_cubed/" ++ name) ++ codes "/") (decimal k) in
    let b = length-append (codes "_cubed/" ++ name) (codes "/") in
    let c = length-append (codes "_cubed/") name in
    let l = ap length e in
    omega (arith, a, b, c, l)

-- ---- keys of the output and of the other arrays

same_head : (x y : ℕ) (xs ys : List ℕ) → x ∷ xs ≡ y ∷ ys → x ≡ y
same_head x y xs ys e = cc

-- a key that begins with a name of an array doesn't begin with an underscore
not_underscore : (name rest others : List ℕ) → IsArrayName name → name ++ 47 ∷ rest ≢ 95 ∷ others
not_underscore [] rest others n e = let same = same_head 47 95 rest others e in omega (arith, same)
not_underscore (x ∷ xs) rest others n e = n.first (same_head x 95 (xs ++ 47 ∷ rest) others e)

-- texts without a slash, up to the first slash
up_to_slash : (a b r s : List ℕ) → All (λ x. x ≢ 47) a → All (λ x. x ≢ 47) b → a ++ 47 ∷ r ≡ b ++ 47 ∷ s → (a ≡ b) × (r ≡ s)
up_to_slash [] [] r s p q e = let rest : r ≡ s = cc in (refl, rest)
up_to_slash [] (y ∷ ys) r s p q e = absurd (All-head (λ x. x ≢ 47) y ys q (sym (same_head 47 y r (ys ++ 47 ∷ s) e)))
up_to_slash (x ∷ xs) [] r s p q e = absurd (All-head (λ x. x ≢ 47) x xs p (same_head x 47 (xs ++ 47 ∷ r) s e))
up_to_slash (x ∷ xs) (y ∷ ys) r s p q e =
    let first = same_head x y (xs ++ 47 ∷ r) (ys ++ 47 ∷ s) e in
    let behind : xs ++ 47 ∷ r ≡ ys ++ 47 ∷ s = cc in
    let (front, rest) = up_to_slash xs ys r s (All-tail (λ x. x ≢ 47) x xs p) (All-tail (λ x. x ≢ 47) y ys q) behind in
    (cc, rest)

digits_plain : (ds : List ℕ) → AllDigits 10 ds → All (λ x. x ≢ 47) ds
digits_plain [] h = λ k d b. absurd (omega arith)
digits_plain (x ∷ xs) h = All-cons (λ y. y ≢ 47) x xs (λ same. let slash : digit_value 47 < 10 = subst (λ y. digit_value y < 10) same h.0 in omega (arith, slash)) (digits_plain xs h.1)

decimal_plain : (n : ℕ) → n < 2 ^ 64 → All (λ x. x ≢ 47) (decimal n)
decimal_plain n small = digits_plain (decimal n) ((decimal_is_IsNumeral n small).0.1)

-- the name of a made array: the output's, or one of the others
abbrev pub IsMadeName : List ℕ → List ℕ → Type 0
IsMadeName name prefix = (prefix ≡ name) ⊎ ((k : ℕ) × (k < 2 ^ 64) × (prefix ≡ made_prefix_of name k))

numbered_apart : (front d e r s : List ℕ) → All (λ x. x ≢ 47) d → All (λ x. x ≢ 47) e → (front ++ d) ++ 47 ∷ r ≡ (front ++ e) ++ 47 ∷ s → (front ++ d ≡ front ++ e) × (r ≡ s)
numbered_apart front d e r s pd pe h =
    let behind = append_cancel_left front (d ++ 47 ∷ r) (e ++ 47 ∷ s) (sym (append_assoc front d (47 ∷ r)) ∙ h ∙ append_assoc front e (47 ∷ s)) in
    let (same, rest) = up_to_slash d e r s pd pe behind in
    (ap (λ l. front ++ l) same, rest)

-- such a name is told by the keys that begin with it
pub name_told : (name x y r s : List ℕ) → IsArrayName name → IsMadeName name x → IsMadeName name y → x ++ 47 ∷ r ≡ y ++ 47 ∷ s → (x ≡ y) × (r ≡ s)
name_told name x y r s n (inl own) (inl other) e =
    let whole : name ++ 47 ∷ r ≡ name ++ 47 ∷ s = ap (λ l. l ++ 47 ∷ r) (sym own) ∙ e ∙ ap (λ l. l ++ 47 ∷ s) other in
    let behind = append_cancel_left name (47 ∷ r) (47 ∷ s) whole in
    let rest : r ≡ s = cc in
    (own ∙ sym other, rest)
name_told name x y r s n (inl own) (inr (k, small, is)) e =
    absurd (not_underscore name r ((((codes "cubed/" ++ name) ++ codes "/") ++ decimal k) ++ 47 ∷ s) n (ap (λ l. l ++ 47 ∷ r) (sym own) ∙ e ∙ ap (λ l. l ++ 47 ∷ s) is))
name_told name x y r s n (inr (k, small, is)) (inl own) e =
    absurd (not_underscore name s ((((codes "cubed/" ++ name) ++ codes "/") ++ decimal k) ++ 47 ∷ r) n (ap (λ l. l ++ 47 ∷ s) (sym own) ∙ sym e ∙ ap (λ l. l ++ 47 ∷ r) is))
name_told name x y r s n (inr (j, low, is)) (inr (k, small, other)) e =
    let front : List ℕ = (codes "_cubed/" ++ name) ++ codes "/" in
    let whole : (front ++ decimal j) ++ 47 ∷ r ≡ (front ++ decimal k) ++ 47 ∷ s = ap (λ l. l ++ 47 ∷ r) (sym is) ∙ e ∙ ap (λ l. l ++ 47 ∷ s) other in
    let (same, rest) = numbered_apart front (decimal j) (decimal k) r s (decimal_plain j low) (decimal_plain k small) whole in
    (is ∙ same ∙ sym other, rest)

module _ (p : PlanView) (ops : List Planned) where
  name : List ℕ
  name = (array_at p.arrays p.out).prefix

  abbrev pub IsOther : ℕ → Type 0
  IsOther a = (maker_at p.arrays a ≢ None) × (a ≢ p.out)

  pub behind_other : (k a : ℕ) → IsOther a → count_behind (setting_of p) k a (maker_at p.arrays a) ≡ k + 1
  behind_other k a (made, other) = go (maker_at p.arrays a) refl
    where
      go : (m : Option ℕ) → maker_at p.arrays a ≡ m → count_behind (setting_of p) k a m ≡ k + 1
      go None e = absurd (made e)
      go (Some m) e = elim (eqb_tells a p.out) [ inl q ↦ absurd (other q.1) | inr q ↦ (λ i. if q.0 i then k else (k + 1)) ]

  pub behind_most : (k a : ℕ) → (k ≤ count_behind (setting_of p) k a (maker_at p.arrays a)) × (count_behind (setting_of p) k a (maker_at p.arrays a) ≤ k + 1)
  behind_most k a = go (maker_at p.arrays a)
    where
      go : (m : Option ℕ) → (k ≤ count_behind (setting_of p) k a m) × (count_behind (setting_of p) k a m ≤ k + 1)
      go None = (omega arith, omega arith)
      go (Some m) = elim (eqb_tells a p.out) [ inl q ↦ rw q.0 (omega arith, omega arith) | inr q ↦ rw q.0 (omega arith, omega arith) ]

  -- the count of an array
  pub counted : (k n : ℕ) (numbers : List ℕ) (a : ℕ) → slice_get numbers n ≡ Some a
      → (c : ℕ) × (array_at (remaining_arrays (setting_of p) ops k numbers) n ≡ remaining_array (setting_of p) ops c a (maker_at p.arrays a)) × (k ≤ c) × (c ≤ k + n)
  counted k n [] a e = cc
  counted k zero (x ∷ rest) a e = let same : x ≡ a = cc in (k, ap (λ (b : ℕ). remaining_array (setting_of p) ops k b (maker_at p.arrays b)) same, omega arith, omega arith)
  counted k (suc n) (x ∷ rest) a e =
      let (c, is, low, high) = counted (count_behind (setting_of p) k x (maker_at p.arrays x)) n rest a e in
      let (l, h) = behind_most k x in
      (c, is, omega arith, omega arith)

  -- two counts differ
  apart : (k i j : ℕ) (numbers : List ℕ) (a b : ℕ) → slice_get numbers i ≡ Some a → slice_get numbers j ≡ Some b → IsOther a → i < j
      → (c : ℕ) × (d : ℕ) × (array_at (remaining_arrays (setting_of p) ops k numbers) i ≡ remaining_array (setting_of p) ops c a (maker_at p.arrays a))
      × (array_at (remaining_arrays (setting_of p) ops k numbers) j ≡ remaining_array (setting_of p) ops d b (maker_at p.arrays b)) × (c < d) × (d ≤ k + j)
  apart k i j [] a b e g other l = cc
  apart k i zero (x ∷ rest) a b e g other l = absurd (omega arith)
  apart k zero (suc j) (x ∷ rest) a b e g other l =
      let same : x ≡ a = cc in
      let (d, is, low, high) = counted (count_behind (setting_of p) k x (maker_at p.arrays x)) j rest b g in
      let next : count_behind (setting_of p) k x (maker_at p.arrays x) ≡ k + 1 = ap (λ (y : ℕ). count_behind (setting_of p) k y (maker_at p.arrays y)) same ∙ behind_other k a other in
      (k, d, ap (λ (y : ℕ). remaining_array (setting_of p) ops k y (maker_at p.arrays y)) same, is, omega (arith, next), omega (arith, next))
  apart k (suc i) (suc j) (x ∷ rest) a b e g other l =
      let (c, d, is, js, less, most) = apart (count_behind (setting_of p) k x (maker_at p.arrays x)) i j rest a b e g other (omega arith) in
      let (low, high) = behind_most k x in
      (c, d, is, js, less, omega arith)

  -- ---- the counts of the plan itself

  next_before : (m : ℕ) → others_before p (m + 1) ≡ count_behind (setting_of p) (others_before p m) m (maker_at p.arrays m)
  next_before m = ap (others_before p) (let z : m + 1 ≡ suc m = omega arith in z)

  behind_grows : (k l a : ℕ) → k ≤ l → count_behind (setting_of p) k a (maker_at p.arrays a) ≤ count_behind (setting_of p) l a (maker_at p.arrays a)
  behind_grows k l a h = go (maker_at p.arrays a)
    where
      go : (m : Option ℕ) → count_behind (setting_of p) k a m ≤ count_behind (setting_of p) l a m
      go None = h
      go (Some m) = elim (eqb_tells a p.out) [ inl q ↦ rw q.0 h | inr q ↦ rw q.0 (omega (arith, h)) ]

  -- an array behind which the count is greater is one of the others
  counted_other : (k a : ℕ) → k < count_behind (setting_of p) k a (maker_at p.arrays a) → IsOther a
  counted_other k a h = go (maker_at p.arrays a) refl h
    where
      go : (m : Option ℕ) → maker_at p.arrays a ≡ m → k < count_behind (setting_of p) k a m → IsOther a
      go None e l = absurd (omega (arith, l))
      go (Some m) e l = elim (eqb_tells a p.out) [
        | inl q ↦ let same : count_behind (setting_of p) k a (Some m) ≡ k = (λ i. if q.0 i then k else (k + 1)) in absurd (omega (arith, l, same))
        | inr q ↦ ((λ none. some_none (sym e ∙ none)), q.1)
      ]
        where
          some_none : {x : ℕ} → Some x ≡ None → ⊥
          some_none h = cc

  -- each lower count is that of one of the others before
  lower_counted : (n k : ℕ) → k < others_before p n → (a : ℕ) × (a < n) × IsOther a × (others_before p a ≡ k)
  lower_counted zero k h = absurd (omega (arith, h))
  lower_counted (suc n) k h = elim (cases_lt k (others_before p n)) [
    | inl before ↦ let (a, l, other, is) = lower_counted n k before in (a, omega (arith, l), other, is)
    | inr here ↦
        let (low, high) = behind_most (others_before p n) n in
        let greater : others_before p n < count_behind (setting_of p) (others_before p n) n (maker_at p.arrays n) = omega (arith, h, here) in
        (n, omega arith, counted_other (others_before p n) n greater, omega (arith, h, here, high))
  ]

  -- the count of an array that is left is at most the one that it had
  abbrev CountedLeft : ℕ → ℕ → ℕ → List ℕ → Type 0
  CountedLeft k n a numbers =
      (c : ℕ) × (array_at (remaining_arrays (setting_of p) ops k numbers) n ≡ remaining_array (setting_of p) ops c a (maker_at p.arrays a)) × (c ≤ others_before p a)

  pub counted_left : (k m n : ℕ) (rest : List ArrayInfo) (a : ℕ) → k ≤ others_before p m → slice_get (remaining_from ops m rest) n ≡ Some a → CountedLeft k n a (remaining_from ops m rest)
  counted_left k m n [] a low e = cc
  counted_left k m n (x ∷ rest) a low e =
      let (stays_low, _) = behind_most (others_before p m) m in
      let next = next_before m in
      elim (cases_Bool (remains ops m x.maker)) [
        | inl stays ↦
            let first : remaining_from ops m (x ∷ rest) ≡ m ∷ remaining_from ops (m + 1) rest = (λ i. if stays i then (m ∷ remaining_from ops (m + 1) rest) else remaining_from ops (m + 1) rest) in
            let grows = behind_grows k (others_before p m) m low in
            subst (CountedLeft k n a) (sym first)
            (here n (ap (λ (l : List ℕ). slice_get l n) (sym first) ∙ e)
            (λ j g. counted_left (count_behind (setting_of p) k m (maker_at p.arrays m)) (m + 1) j rest a (omega (arith, grows, next)) g))
        | inr gone ↦
            let first : remaining_from ops m (x ∷ rest) ≡ remaining_from ops (m + 1) rest = (λ i. if gone i then (m ∷ remaining_from ops (m + 1) rest) else remaining_from ops (m + 1) rest) in
            subst (CountedLeft k n a) (sym first) (counted_left k (m + 1) n rest a (omega (arith, low, stays_low, next)) (ap (λ (l : List ℕ). slice_get l n) (sym first) ∙ e))
      ]
    where
      here : (n : ℕ) → slice_get (m ∷ remaining_from ops (m + 1) rest) n ≡ Some a
          → ((j : ℕ) → slice_get (remaining_from ops (m + 1) rest) j ≡ Some a → CountedLeft (count_behind (setting_of p) k m (maker_at p.arrays m)) j a (remaining_from ops (m + 1) rest))
          → CountedLeft k n a (m ∷ remaining_from ops (m + 1) rest)
      here zero g again =
          let same : m ≡ a = cc in
          let place = ap (others_before p) same in
          (k, ap (λ (b : ℕ). remaining_array (setting_of p) ops k b (maker_at p.arrays b)) same, omega (arith, low, place))
      here (suc j) g again = again j g

  -- the prefix of a made array
  pub prefix_of_other : (c a : ℕ) → IsOther a → (remaining_array (setting_of p) ops c a (maker_at p.arrays a)).prefix ≡ made_prefix_of (array_at p.arrays p.out).prefix c
  prefix_of_other c a (made, other) = go (maker_at p.arrays a) refl
    where
      go : (m : Option ℕ) → maker_at p.arrays a ≡ m → (remaining_array (setting_of p) ops c a m).prefix ≡ made_prefix_of (array_at p.arrays p.out).prefix c
      go None e = absurd (made e)
      go (Some m) e = elim (eqb_tells a p.out) [ inl q ↦ absurd (other q.1) | inr q ↦ (λ i. if q.0 i then (array_at p.arrays a).prefix else made_prefix_of (array_at p.arrays p.out).prefix c) ]

  pub prefix_of_out : (c a : ℕ) → maker_at p.arrays a ≢ None → a ≡ p.out → (remaining_array (setting_of p) ops c a (maker_at p.arrays a)).prefix ≡ (array_at p.arrays p.out).prefix
  prefix_of_out c a made is = go (maker_at p.arrays a) refl
    where
      go : (m : Option ℕ) → maker_at p.arrays a ≡ m → (remaining_array (setting_of p) ops c a m).prefix ≡ (array_at p.arrays p.out).prefix
      go None e = absurd (made e)
      go (Some m) e = elim (eqb_tells a p.out) [ inl q ↦ (λ i. if q.0 i then (array_at p.arrays a).prefix else made_prefix_of (array_at p.arrays p.out).prefix c) ∙ ap (λ (b : ℕ). (array_at p.arrays b).prefix) is | inr q ↦ absurd (q.1 is) ]

  prefix_of_input : (c a : ℕ) → maker_at p.arrays a ≡ None → remaining_array (setting_of p) ops c a (maker_at p.arrays a) ≡ array_at p.arrays a
  prefix_of_input c a none = ap (remaining_array (setting_of p) ops c a) none

  pub made_was : (c a : ℕ) → (remaining_array (setting_of p) ops c a (maker_at p.arrays a)).maker ≢ None → maker_at p.arrays a ≢ None
  made_was c a made none = made (ap (λ (x : ArrayInfo). x.maker) (prefix_of_input c a none) ∙ none)

-- the numbers that are left are fewer
left_fewer : (ops : List Planned) (n : ℕ) (arrays : List ArrayInfo) → length (remaining_from ops n arrays) ≤ length arrays
left_fewer ops n [] = omega arith
left_fewer ops n (a ∷ rest) = let l = left_fewer ops (n + 1) rest in elim (cases_Bool (remains ops n a.maker)) [
  | inl stays ↦ rw stays (omega arith)
  | inr gone ↦ rw gone (omega arith)
]

module _ (p : PlanView) (ops : List Planned) (sound : Sound p) (names : HasMadeNames p) where
  abbrev q : PlanView
  q = closed (setting_of p) ops

  abbrev N : List ℕ
  N = remaining_numbers p.arrays ops

  pub closed_few : length q.arrays ≤ length p.arrays
  closed_few = let l = length-left p ops 0 N in let f = left_fewer ops 0 p.arrays in omega (arith, l, f)

  -- which array stands under a new number
  record Stands (b : ℕ) : Type 0 where
    old : ℕ
    within : old < length p.arrays
    at : slice_get N b ≡ Some old
    count : ℕ
    is : array_at q.arrays b ≡ remaining_array (setting_of p) ops count old (maker_at p.arrays old)
    fewer : count ≤ others_before p old

  stands_at : (b : ℕ) → b < length q.arrays → Stands b
  stands_at b h =
      let (a, c, _, at, _, _) = old_array p ops b h in
      let (n, is, fewer) = counted_left p ops 0 0 b p.arrays a (omega arith) at in
      record { old = a; within = (numbers_out p ops a c).0; at = at; count = n; is = is; fewer = fewer }

  layout_is : (b : ℕ) (s : Stands b) → (array_at q.arrays b).layout ≡ (array_at p.arrays s.old).layout
  layout_is b s = ap (λ (x : ArrayInfo). x.layout) s.is ∙ go (maker_at p.arrays s.old)
    where
      go : (m : Option ℕ) → (remaining_array (setting_of p) ops s.count s.old m).layout ≡ (array_at p.arrays s.old).layout
      go None = refl
      go (Some m) = refl

  was_made : (b : ℕ) (s : Stands b) → maker_at q.arrays b ≢ None → maker_at p.arrays s.old ≢ None
  was_made b s made = made_was p ops s.count s.old (λ none. made (ap (λ (x : ArrayInfo). x.maker) s.is ∙ none))

  was_stored : (b : ℕ) (s : Stands b) → is_inlined q.arrays b ≡ false → is_inlined p.arrays s.old ≡ false
  was_stored b s stored =
      sym (ap (λ (x : ArrayInfo). x.inlined) s.is ∙ inlined_of_left p ops s.count s.old (maker_at p.arrays s.old)) ∙ stored

  was_given : (b : ℕ) (s : Stands b) → maker_at q.arrays b ≡ None → maker_at p.arrays s.old ≡ None
  was_given b s none = go (maker_at p.arrays s.old) refl (sym (ap (λ (x : ArrayInfo). x.maker) s.is) ∙ none)
    where
      go : (m : Option ℕ) → maker_at p.arrays s.old ≡ m → (remaining_array (setting_of p) ops s.count s.old m).maker ≡ None → maker_at p.arrays s.old ≡ None
      go None e h = e
      go (Some m) e h = cc

  -- ---- each is an array

  -- a count that the plan had belongs to an array of it, whose name is short
  pub name_short : (k a : ℕ) → a < length p.arrays → IsOther p ops a → k ≤ others_before p a → length (made_prefix_of (array_at p.arrays p.out).prefix k) ≤ 45
  name_short k a l other low =
      let own = behind_other p ops (others_before p a) a other in
      let next = next_before p ops a in
      let (x, before, (made, differs), is) = lower_counted p ops (a + 1) k (omega (arith, low, own, next)) in
      let below : x < length p.arrays = omega (arith, before, l) in
      let short = (sound.arrays x no_array below).short in
      let named = names.others x below made differs ∙ ap (made_prefix_of (array_at p.arrays p.out).prefix) is in
      let same = ap length named in
      omega (arith, short, same)

  short_is : (b : ℕ) (s : Stands b) → b < length q.arrays → length (array_at q.arrays b).prefix ≤ 45
  short_is b s h = subst (λ (x : ArrayInfo). length x.prefix ≤ 45) (sym s.is) (go (maker_at p.arrays s.old) refl)
    where
      go : (m : Option ℕ) → maker_at p.arrays s.old ≡ m → length (remaining_array (setting_of p) ops s.count s.old m).prefix ≤ 45
      go None e = (sound.arrays s.old no_array s.within).short
      go (Some m) e = elim (eqb_tells s.old p.out) [
        | inl t ↦ subst (λ (y : List ℕ). length y ≤ 45) (sym (λ i. if t.0 i then (array_at p.arrays s.old).prefix else made_prefix_of (array_at p.arrays p.out).prefix s.count)) (sound.arrays s.old no_array s.within).short
        | inr t ↦ subst (λ (y : List ℕ). length y ≤ 45) (sym (λ i. if t.0 i then (array_at p.arrays s.old).prefix else made_prefix_of (array_at p.arrays p.out).prefix s.count))
            (name_short s.count s.old s.within ((λ none. some_none (sym e ∙ none)), t.1) s.fewer)
      ]
        where
          some_none : {x : ℕ} → Some x ≡ None → ⊥
          some_none h = cc

  is_array : (b : ℕ) → b < length q.arrays → IsArray (array_at q.arrays b)
  is_array b h =
      let s = stands_at b h in
      let whole = sound.arrays s.old no_array s.within in
      record {
        short = short_is b s h;
        grid = subst (λ (l : Layout). IsGrid l.grid) (sym (layout_is b s)) whole.grid;
        fill = subst IsLayout (sym (layout_is b s)) whole.fill;
      }

  pub arrays_are : All IsArray q.arrays
  arrays_are k d h = subst IsArray (get_or_default q.arrays k no_array d h) (is_array k h)

  -- ---- names

  other_or_out : (a : ℕ) → maker_at p.arrays a ≢ None → (a ≡ p.out) ⊎ IsOther p ops a
  other_or_out a made = elim (eqb_tells a p.out) [ inl t ↦ inl t.1 | inr t ↦ inr (made, t.1) ]

  less_differ : (b c : ℕ) (s : Stands b) (t : Stands c) → IsOther p ops s.old → IsOther p ops t.old → b < c → c < length q.arrays → (array_at q.arrays b).prefix ≡ (array_at q.arrays c).prefix → ⊥
  less_differ b c s t so to less h e =
      let (m, n, is, js, l, most) = apart p ops 0 b c N s.old t.old s.at t.at so less in
      let few = closed_few in
      let room = sound.array_count in
      let bound : n < 2 ^ 64 = omega (arith, most, less, h, few, room) in
      let bound_m : m < 2 ^ 64 = omega (arith, l, bound) in
      let pm : (array_at q.arrays b).prefix ≡ made_prefix_of (array_at p.arrays p.out).prefix m = ap (λ (x : ArrayInfo). x.prefix) is ∙ prefix_of_other p ops m s.old so in
      let pn : (array_at q.arrays c).prefix ≡ made_prefix_of (array_at p.arrays p.out).prefix n = ap (λ (x : ArrayInfo). x.prefix) js ∙ prefix_of_other p ops n t.old to in
      let same = prefix_told (array_at p.arrays p.out).prefix m n bound_m bound (sym pm ∙ e ∙ pn) in
      omega (arith, same, l)

  -- arrays that are left and have one name are one
  names_told : (b c : ℕ) → b < length q.arrays → c < length q.arrays → maker_at q.arrays b ≢ None → maker_at q.arrays c ≢ None → (array_at q.arrays b).prefix ≡ (array_at q.arrays c).prefix → b ≡ c
  names_told b c hb hc mb mc e =
      let s = stands_at b hb in
      let t = stands_at c hc in
      let ms = was_made b s mb in
      let mt = was_made c t mc in
      ⊎_elim
      (λ so. ⊎_elim
      (λ to. left_once ops 0 p.arrays b c s.old s.at (t.at ∙ ap Some (to ∙ sym so)))
      (λ to. absurd (prefix_other (array_at p.arrays p.out).prefix t.count
      (sym (ap (λ (x : ArrayInfo). x.prefix) s.is ∙ prefix_of_out p ops s.count s.old ms so) ∙ e ∙ ap (λ (x : ArrayInfo). x.prefix) t.is ∙ prefix_of_other p ops t.count t.old to)))
      (other_or_out t.old mt))
      (λ so. ⊎_elim
      (λ to. absurd (prefix_other (array_at p.arrays p.out).prefix s.count
      (sym (ap (λ (x : ArrayInfo). x.prefix) t.is ∙ prefix_of_out p ops t.count t.old mt to) ∙ sym e ∙ ap (λ (x : ArrayInfo). x.prefix) s.is ∙ prefix_of_other p ops s.count s.old so)))
      (λ to. ⊎_elim
      (λ less. absurd (less_differ b c s t so to less hc e))
      (λ far. elim (eqb_tells b c) [ inl y ↦ y.1 | inr y ↦ absurd (less_differ c b t s to so (let n = y.1 in omega arith) hb (sym e)) ])
      (cases_lt b c))
      (other_or_out t.old mt))
      (other_or_out s.old ms)

  -- an encoding that all stored made arrays have
  pub encodings_kept : (w : Encoding) → ((a : ℕ) → HasCells p.arrays a → (array_at p.arrays a).layout.encoding ≡ w)
      → (b : ℕ) → HasCells q.arrays b → (array_at q.arrays b).layout.encoding ≡ w
  encodings_kept w all b h =
      let s = stands_at b h.within in
      let was : HasCells p.arrays s.old = record { within = s.within; made = was_made b s h.made; stored = was_stored b s h.stored } in
      ap (λ (l : Layout). l.encoding) (layout_is b s) ∙ all s.old was

  pub own_names : HasOwnNames p.arrays → HasOwnNames q.arrays
  own_names own = record {
    encodings = encodings_kept (Plain Slash) own.encodings;
    prefixes = λ b c hb hc e. names_told b c hb.within hc.within hb.made hc.made e;
  }

  -- ---- keys

  before_most : (a : ℕ) → others_before p a ≤ a
  before_most zero = omega arith
  before_most (suc a) = let l = before_most a in let (_, high) = behind_most p ops (others_before p a) a in omega (arith, l, high)

  made_name_of : (b : ℕ) (s : Stands b) → maker_at q.arrays b ≢ None → IsMadeName (array_at p.arrays p.out).prefix (array_at q.arrays b).prefix
  made_name_of b s made =
      let was = was_made b s made in
      let is = ap (λ (x : ArrayInfo). x.prefix) s.is in
      ⊎_elim
      (λ own. inl (is ∙ prefix_of_out p ops s.count s.old was own))
      (λ other.
      let fewer = s.fewer in
      let most = before_most s.old in
      let within = s.within in
      let room = sound.array_count in
      inr (s.count, omega (arith, fewer, most, within, room), is ∙ prefix_of_other p ops s.count s.old other))
      (other_or_out s.old was)

  -- a chunk of an array that is left is one of the array that it was
  was_cell : (b : ℕ) (s : Stands b) (coord : List ℕ) → IsCell q.arrays b coord → IsCell p.arrays s.old coord
  was_cell b s coord c = record {
    within = s.within;
    made = was_made b s c.made;
    stored = was_stored b s c.stored;
    coordinate = subst (λ (l : Layout). IsCoordinate l.grid coord) (layout_is b s) c.coordinate;
  }

  pub keys_are : ChunkKeysDiffer q.arrays
  keys_are b c d f at_b at_c e =
      let s = stands_at b at_b.within in
      let t = stands_at c at_c.within in
      let x = (array_at q.arrays b).prefix in
      let y = (array_at q.arrays c).prefix in
      let r : List ℕ = coordinates (array_at q.arrays b).layout.encoding d in
      let v : List ℕ = coordinates (array_at q.arrays c).layout.encoding f in
      let whole : x ++ 47 ∷ r ≡ y ++ 47 ∷ v = sym (append_assoc x (codes "/") r) ∙ e ∙ append_assoc y (codes "/") v in
      let (name, rest) = name_told (array_at p.arrays p.out).prefix x y r v names.named (made_name_of b s at_b.made) (made_name_of c t at_c.made) whole in
      let same : b ≡ c = names_told b c at_b.within at_c.within at_b.made at_c.made name in
      let old : s.old ≡ t.old = one_old (sym s.at ∙ ap (slice_get N) same ∙ t.at) in
      let was : coordinates (array_at p.arrays s.old).layout.encoding d ≡ coordinates (array_at p.arrays t.old).layout.encoding f =
      ap (λ (l : Layout). coordinates l.encoding d) (sym (layout_is b s)) ∙ rest ∙ ap (λ (l : Layout). coordinates l.encoding f) (layout_is c t) in
      let keys = sound.keys s.old t.old d f (was_cell b s d at_b) (was_cell c t f at_c)
      (λ i. ((array_at p.arrays (old i)).prefix ++ codes "/") ++ was i) in
      (same, keys.1)
    where
      one_old : {x y : ℕ} → Some x ≡ Some y → x ≡ y
      one_old h = cc

  pub inputs_are : (b : ℕ) → b < length q.arrays → maker_at q.arrays b ≡ None → array_chunk_count (array_at q.arrays b) ≤ 65536
  inputs_are b h none =
      let s = stands_at b h in
      subst (λ (l : Layout). product (grid_counts l.grid) ≤ 65536) (sym (layout_is b s)) (sound.input_chunks s.old s.within (was_given b s none))
