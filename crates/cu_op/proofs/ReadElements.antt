-- The elements that a map reads through broadcasting lie inside its arguments, in the chunks from which its result's chunks are read.
use Rattle.std.proofs.Common.{◌≡◌, ◌≢◌, ◌⊎◌, inl, inr, ℕ, zero, suc, ◌<◌, ◌-◌, ◌/◌, List, [], ◌∷◌, length, drop, All, refl, ap, sym, ◌∙◌, subst, arith}
use Rattle.std.proofs.lemmas.Bool.Decides.{eqb_tells}
use Rattle.std.proofs.lemmas.List.Elements.{All-head, All-tail}
use Rattle.cu_shape.specs.Index.{IsInside, back_along, back, quotients}
use Rattle.cu_shape.proofs.Axes.{length-axis_by_axis}
use Rattle.cu_shape.proofs.Places.{inside-length}
use Rattle.cu_grid.specs.Grid.{RegularGrid, IsGrid}
use Rattle.cu_op.specs.Aligned.{IsAlignedAlong, IsAligned}
use Rattle.cu_op.proofs.Broadcasting.{read_on, inside_drop, axes_drop}

-- an axis of an aligned argument: an index of the result is read inside the argument, in the chunk from which the result's chunk is read
inside_on : (n c m d i : ℕ) → ((n ≡ m) × (c ≡ d)) ⊎ ((n ≡ 1) × (m ≢ 1)) → i < m → read_on n i < n
inside_on n c m d i (inl same) h = elim (eqb_tells n 1) [ inl p ↦ let one = p.1 in rw p.0 (omega arith) | inr p ↦ let e = same.0 in rw p.0 (omega arith) ]
inside_on n c m d i (inr stretched) h = elim (eqb_tells n 1) [ inl p ↦ let one = p.1 in rw p.0 (omega arith) | inr p ↦ absurd (p.1 stretched.0) ]

zero_over : (c : ℕ) → 0 < c → 0 / c ≡ 0
zero_over zero h = absurd (omega arith)
zero_over (suc c) h = omega arith

quotient_on : (n c m d i : ℕ) → 0 < c → ((n ≡ m) × (c ≡ d)) ⊎ ((n ≡ 1) × (m ≢ 1)) → read_on n i / c ≡ read_on n (i / d)
quotient_on n c m d i positive (inl same) = elim (eqb_tells n 1) [ inl p ↦ rw (p.0) (zero_over c positive) | inr p ↦ rw p.0 (ap (λ x. i / x) same.1) ]
quotient_on n c m d i positive (inr stretched) = elim (eqb_tells n 1) [ inl p ↦ rw (p.0) (zero_over c positive) | inr p ↦ absurd (p.1 stretched.0) ]

-- both along the axes
pub record ReadsInto (ns cs ds is : List ℕ) : Type 0 where
  pub inside : IsInside ns (back_along ns is)
  pub chunk : quotients (back_along ns is) cs ≡ back_along ns (quotients is ds)

reads_along : (ns cs ms ds is : List ℕ) → All (λ c. 0 < c) cs → IsAlignedAlong ns cs ms ds → IsInside ms is → ReadsInto ns cs ds is
reads_along [] [] [] [] [] positive a h = record { inside = tt; chunk = refl }
reads_along (n ∷ ns) (c ∷ cs) (m ∷ ms) (d ∷ ds) (i ∷ is) positive a h =
    let rest = reads_along ns cs ms ds is (All-tail (λ x. 0 < x) c cs positive) a.1 h.1 in
    let q = quotient_on n c m d i (All-head (λ x. 0 < x) c cs positive) a.0 in
    record { inside = (inside_on n c m d i a.0 h.0, rest.inside); chunk = cons_same _ _ _ _ q rest.chunk }
  where
    cons_same : (x y : ℕ) (xs ys : List ℕ) → x ≡ y → xs ≡ ys → x ∷ xs ≡ y ∷ ys
    cons_same x y xs ys e f = cc
reads_along ns cs ms ds is positive a h = absurd assumption

pub record ReadsFrom (g r : RegularGrid) (idx : List ℕ) : Type 0 where
  pub inside : IsInside g.shape (back g.shape idx)
  pub chunk : quotients (back g.shape idx) g.chunk ≡ back g.shape (quotients idx r.chunk)

-- An index of the result is read inside an aligned argument, in the chunk from which the result's chunk is read.
pub reads_from : (g r : RegularGrid) (idx : List ℕ) → IsGrid g → IsGrid r → IsAligned g r → IsInside r.shape idx → ReadsFrom g r idx
reads_from g r idx okg okr a h =
    let k = length r.shape - length g.shape in
    let e : length idx ≡ length r.shape = inside-length r.shape idx h in
    let along = reads_along g.shape g.chunk (drop k r.shape) (drop k r.chunk) (drop k idx) okg.positive a.axes (inside_drop k r.shape idx h) in
    let n : length (quotients idx r.chunk) ≡ length idx = length-axis_by_axis (λ i c. i / c) idx r.chunk (e ∙ sym okr.ranks) in
    let cut : drop k (quotients idx r.chunk) ≡ quotients (drop k idx) (drop k r.chunk) = axes_drop (λ i c. i / c) k idx r.chunk (e ∙ sym okr.ranks) in
    let B : ℕ → List ℕ → List ℕ = λ m is. back_along g.shape (drop (m - length g.shape) is) in
    let left : back g.shape idx ≡ back_along g.shape (drop k idx) = ap (λ m. B m idx) e in
    let right : back g.shape (quotients idx r.chunk) ≡ back_along g.shape (drop k (quotients idx r.chunk)) = ap (λ m. B m (quotients idx r.chunk)) (n ∙ e) in
    record {
      inside = subst (IsInside g.shape) (sym left) along.inside;
      chunk = ap (λ is. quotients is g.chunk) left ∙ along.chunk ∙ ap (back_along g.shape) (sym cut) ∙ sym right;
    }
