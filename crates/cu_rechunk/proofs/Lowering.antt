-- Regions cut down to multiples of those that are written, and the chunks between: each of these lies in one region.
use Rattle.std.proofs.Common.{◌≡◌, ◌⊎◌, inl, inr, ℕ, zero, suc, ◌<◌, ◌≤◌, ◌*◌, ◌/◌, Bool, true, false, ◌&&◌, nat_lt, if◌then◌else◌, List, [], ◌∷◌, length, get_or, min, max, All, refl, ap, sym, ◌∙◌, arith}
use Rattle.std.proofs.lemmas.Bool.{ltb-true, ltb-false}
use Rattle.std.proofs.lemmas.Bool.Decides.{leb_tells}
use Rattle.std.proofs.lemmas.List.{ext_get_or}
use Rattle.std.proofs.lemmas.List.Elements.{All-head, All-tail, All-cons}
use Rattle.cu_shape.specs.Index.{axis_by_axis}
use Rattle.cu_rechunk.specs.Nested.{IsNestedAlong}
use Rattle.cu_rechunk.specs.Stages.{cut, multiple_within, lowered_size, lowered_along}
use Rattle.cu_rechunk.proofs.Sizes.{AreWithin}
use Rattle.cu_rechunk.proofs.Grown.{multiple_kept}

-- ---- on an axis

pub record IsLowered (n r w x : ℕ) : Type 0 where
  pub positive : 0 < x
  pub within : x ≤ r
  pub nested : (n ≤ x) ⊎ ((m : ℕ) × (x ≡ m * min x w))

lowered_by : (n r w : ℕ) (b d : Bool) → nat_lt r n ≡ b → nat_lt w r ≡ d → 0 < r → 0 < w → IsLowered n r w (if b && d then multiple_within w r else r)
lowered_by n r w true true e f hr hw =
    let more = ltb-true w r f in
    let m = multiple_kept w r hw (omega arith) in
    let m0 = m.0 in
    let m1 = m.1 in
    let least : min (multiple_within w r) w ≡ w = omega arith in
    record { positive = omega arith; within = m1; nested = inr (r / w, rw least refl) }
lowered_by n r w true false e f hr hw =
    let less = ltb-false w r f in
    record { positive = hr; within = omega arith; nested = inr (1, omega arith) }
lowered_by n r w false d e f hr hw =
    let whole = ltb-false r n e in
    record { positive = hr; within = omega arith; nested = inl (omega arith) }

pub lowered_kept : (n r w : ℕ) → 0 < r → 0 < w → IsLowered n r w (lowered_size n r w)
lowered_kept n r w = lowered_by n r w (nat_lt r n) (nat_lt w r) refl refl

-- ---- on all axes

pub record AreLowered (ns rs ws xs : List ℕ) : Type 0 where
  pub ranks : length xs ≡ length ns
  pub positive : All (λ c. 0 < c) xs
  pub within : AreWithin xs rs
  pub nested : IsNestedAlong ns (axis_by_axis min xs ws) xs

pub lowered_along_kept : (ns rs ws : List ℕ) → length rs ≡ length ns → length ws ≡ length ns → All (λ c. 0 < c) rs → All (λ c. 0 < c) ws → AreLowered ns rs ws (lowered_along ns rs ws)
lowered_along_kept [] [] [] e f p q = record { ranks = refl; positive = p; within = tt; nested = tt }
lowered_along_kept [] [] (w ∷ ws) e f p q = absurd (omega arith)
lowered_along_kept [] (r ∷ rs) ws e f p q = absurd (omega arith)
lowered_along_kept (n ∷ ns) [] ws e f p q = absurd (omega arith)
lowered_along_kept (n ∷ ns) (r ∷ rs) [] e f p q = absurd (omega arith)
lowered_along_kept (n ∷ ns) (r ∷ rs) (w ∷ ws) e f p q =
    let x = lowered_kept n r w (All-head (λ c. 0 < c) r rs p) (All-head (λ c. 0 < c) w ws q) in
    let h = lowered_along_kept ns rs ws (omega arith) (omega arith) (All-tail (λ c. 0 < c) r rs p) (All-tail (λ c. 0 < c) w ws q) in
    record {
      ranks = ap suc h.ranks;
      positive = All-cons (λ c. 0 < c) (lowered_size n r w) (lowered_along ns rs ws) x.positive h.positive;
      within = (x.within, h.within);
      nested = (x.nested, h.nested);
    }

-- sizes that are the lowered ones on each axis
length_of_lowered : (ns rs ws : List ℕ) → length ns ≡ length rs → length ws ≡ length rs → length (lowered_along ns rs ws) ≡ length rs
length_of_lowered [] [] [] e f = refl
length_of_lowered [] [] (w ∷ ws) e f = absurd (omega arith)
length_of_lowered [] (r ∷ rs) ws e f = absurd (omega arith)
length_of_lowered (n ∷ ns) [] ws e f = absurd (omega arith)
length_of_lowered (n ∷ ns) (r ∷ rs) [] e f = absurd (omega arith)
length_of_lowered (n ∷ ns) (r ∷ rs) (w ∷ ws) e f = ap suc (length_of_lowered ns rs ws (omega arith) (omega arith))

lowered_at : (ns rs ws : List ℕ) (k : ℕ) → length ns ≡ length rs → length ws ≡ length rs → k < length rs → get_or (lowered_along ns rs ws) k 0 ≡ lowered_size (get_or ns k 0) (get_or rs k 0) (get_or ws k 0)
lowered_at [] [] ws k e f h = absurd (omega arith)
lowered_at [] (r ∷ rs) ws k e f h = absurd (omega arith)
lowered_at (n ∷ ns) [] ws k e f h = absurd (omega arith)
lowered_at (n ∷ ns) (r ∷ rs) [] k e f h = absurd (omega arith)
lowered_at (n ∷ ns) (r ∷ rs) (w ∷ ws) zero e f h = refl
lowered_at (n ∷ ns) (r ∷ rs) (w ∷ ws) (suc k) e f h = lowered_at ns rs ws k (omega arith) (omega arith) (omega arith)

pub lowered_along_from : (xs ns rs ws : List ℕ) → length xs ≡ length rs → length ns ≡ length rs → length ws ≡ length rs
    → ((k : ℕ) → k < length rs → get_or xs k 0 ≡ lowered_size (get_or ns k 0) (get_or rs k 0) (get_or ws k 0)) → xs ≡ lowered_along ns rs ws
lowered_along_from xs ns rs ws p e f h =
    ext_get_or 0 xs (lowered_along ns rs ws) (p ∙ sym (length_of_lowered ns rs ws e f)) (λ k b. h k (omega arith) ∙ sym (lowered_at ns rs ws k e f (omega arith)))

-- the smaller of two on each axis
pub record AreSmaller (xs ws ms : List ℕ) : Type 0 where
  pub ranks : length ms ≡ length xs
  pub positive : All (λ c. 0 < c) ms
  pub within : AreWithin ms xs

pub smaller_kept : (xs ws : List ℕ) → length ws ≡ length xs → All (λ c. 0 < c) xs → All (λ c. 0 < c) ws → AreSmaller xs ws (axis_by_axis min xs ws)
smaller_kept [] [] e p q = record { ranks = refl; positive = p; within = tt }
smaller_kept [] (w ∷ ws) e p q = absurd (omega arith)
smaller_kept (x ∷ xs) [] e p q = absurd (omega arith)
smaller_kept (x ∷ xs) (w ∷ ws) e p q =
    let a : 0 < x = All-head (λ c. 0 < c) x xs p in
    let b : 0 < w = All-head (λ c. 0 < c) w ws q in
    let h = smaller_kept xs ws (omega arith) (All-tail (λ c. 0 < c) x xs p) (All-tail (λ c. 0 < c) w ws q) in
    record {
      ranks = ap suc h.ranks;
      positive = All-cons (λ c. 0 < c) (min x w) (axis_by_axis min xs ws) (omega arith) h.positive;
      within = (omega arith, h.within);
    }

-- ---- chunks that were cut to the array

cut_on : (n c g : ℕ) → 0 < g → (n ≤ g) ⊎ ((m : ℕ) × (g ≡ m * min c (max n 1))) → (n ≤ g) ⊎ ((m : ℕ) × (g ≡ m * c))
cut_on n c g h (inl whole) = inl whole
cut_on n c g h (inr (zero, e)) = absurd (omega arith)
cut_on n c g h (inr (suc m, e)) =
    elim (leb_tells c (max n 1)) [
      | inl p ↦ let q = p.1 in let same : min c (max n 1) ≡ c = omega arith in inr (suc m, e ∙ ap (λ x. suc m * x) same)
      | inr p ↦ let q = p.1 in let same : min c (max n 1) ≡ max n 1 = omega arith in let at : g ≡ suc m * max n 1 = e ∙ ap (λ x. suc m * x) same in inl (omega arith)
    ]

-- a region in which the cut chunks lie has the chunks themselves
pub cut_nested : (ns cs gs : List ℕ) → All (λ c. 0 < c) gs → IsNestedAlong ns (cut ns cs) gs → length cs ≡ length ns → IsNestedAlong ns cs gs
cut_nested [] [] [] p h e = tt
cut_nested [] [] (g ∷ gs) p h e = absurd h
cut_nested [] (c ∷ cs) gs p h e = absurd (omega arith)
cut_nested (n ∷ ns) [] gs p h e = absurd (omega arith)
cut_nested (n ∷ ns) (c ∷ cs) [] p h e = absurd h
cut_nested (n ∷ ns) (c ∷ cs) (g ∷ gs) p h e =
    (cut_on n c g (All-head (λ x. 0 < x) g gs p) h.0, cut_nested ns cs gs (All-tail (λ x. 0 < x) g gs p) h.1 (omega arith))
