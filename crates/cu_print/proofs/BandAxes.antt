-- Which axis the bands begin on, from the last axis to the first.
use Rattle.std.proofs.Common.{◌≡◌, ◌⊎◌, inl, inr, ℕ, zero, suc, ◌+◌, ◌-◌, ◌*◌, ◌^◌, ◌<◌, ◌≤◌, List, [], ◌∷◌, All, length, get_or, set, max, refl, sym, ap, ◌∙◌, subst, arith}
use Rattle.std.proofs.lemmas.Bool.{cases_lt}
use Rattle.std.proofs.lemmas.List.{get_or-map, length-map}
use Rattle.std.proofs.lemmas.List.Elements.{All-cons}
use Rattle.cu_num.specs.Dtype.{size_of}
use Rattle.cu_shape.specs.Index.{product}
use Rattle.cu_shape.specs.Counts.{at_least_one}
use Rattle.cu_shape.proofs.Products.{at_least_one-positive, at_least_one_same}
use Rattle.cu_op.specs.declared.layout.Layout.{Layout}
use Rattle.cu_grid.specs.Grid.{IsGrid}
use Rattle.cu_print.specs.Reads.{band_sizes, IsBandAxis}
use Rattle.cu_print.proofs.BandSteps.{positive_sizes}

cons : (x y : ℕ) (xs ys : List ℕ) → x ≡ y → xs ≡ ys → x ∷ xs ≡ y ∷ ys
cons x y xs ys p q = cc

-- where there is an element, each axis has at least one index
pub plain_sizes : (axis : ℕ) (sizes shape chunk : List ℕ) → 0 < product shape → sizes ≡ band_sizes axis (at_least_one shape) chunk → sizes ≡ band_sizes axis shape chunk
plain_sizes axis sizes shape chunk some is = is ∙ ap (λ xs. band_sizes axis xs chunk) (at_least_one_same shape (positive_sizes shape some))

pub sizes_last : (axis : ℕ) (shape chunk : List ℕ) → length chunk ≡ length shape → length shape ≤ axis + 1 → band_sizes axis shape chunk ≡ chunk
sizes_last zero [] [] e low = refl
sizes_last (suc axis) [] [] e low = refl
sizes_last axis [] (c ∷ cs) e low = absurd (omega arith)
sizes_last axis (n ∷ ns) [] e low = absurd (omega arith)
sizes_last zero (n ∷ []) (c ∷ []) e low = refl
sizes_last zero (n ∷ m ∷ ms) (c ∷ cs) e low = absurd (omega arith)
sizes_last zero (n ∷ []) (c ∷ d ∷ ds) e low = absurd (omega arith)
sizes_last (suc axis) (n ∷ ns) (c ∷ cs) e low = cons c c (band_sizes axis ns cs) cs refl (sizes_last axis ns cs (omega arith) (omega arith))

pub sizes_before : (axis : ℕ) (shape chunk : List ℕ) → length chunk ≡ length shape → suc axis < length shape
    → set (band_sizes (suc axis) shape chunk) (suc axis) (get_or shape (suc axis) 0) ≡ band_sizes axis shape chunk
sizes_before axis [] chunk e low = absurd (omega arith)
sizes_before axis (n ∷ ns) [] e low = absurd (omega arith)
sizes_before zero (n ∷ []) (c ∷ cs) e low = absurd (omega arith)
sizes_before zero (n ∷ m ∷ ms) (c ∷ []) e low = absurd (omega arith)
sizes_before zero (n ∷ m ∷ ms) (c ∷ d ∷ ds) e low = refl
sizes_before (suc axis) (n ∷ ns) (c ∷ cs) e low =
    cons c c (set (band_sizes (suc axis) ns cs) (suc axis) (get_or ns (suc axis) 0)) (band_sizes axis ns cs) refl (sizes_before axis ns cs (omega arith) (omega arith))

-- of the axes from this one on, the first on which bands may be as long as a chunk
pub record ChosenAxis (l : Layout) (least : ℕ) (band : List ℕ) : Type 0 where
  pub axis : ℕ
  pub sizes : band ≡ band_sizes axis (at_least_one l.grid.shape) l.grid.chunk
  pub first : (other : ℕ) → least ≤ other → IsBandAxis l other → axis ≤ other

long_same : (shape : List ℕ) → length (at_least_one shape) ≡ length shape
long_same shape = length-map shape (λ n. max 1 n)

pub last_axis : (l : Layout) (axis : ℕ) → IsGrid l.grid → length l.grid.shape ≤ axis + 1 → l.grid.chunk ≡ band_sizes axis (at_least_one l.grid.shape) l.grid.chunk
last_axis l axis ok low =
    let long = long_same l.grid.shape in
    let r = ok.ranks in
    sym (sizes_last axis (at_least_one l.grid.shape) l.grid.chunk (omega arith) (omega arith))

pub chosen_last : (l : Layout) (axis : ℕ) → IsGrid l.grid → length l.grid.shape ≤ axis + 1 → ChosenAxis l axis l.grid.chunk
chosen_last l axis ok low = record { axis = axis; sizes = last_axis l axis ok low; first = λ other above is. above }

pub wide_before : (l : Layout) (axis n : ℕ) (wide : List ℕ) → IsGrid l.grid → 0 < axis → axis < length l.grid.shape → wide ≡ band_sizes axis (at_least_one l.grid.shape) l.grid.chunk
    → n ≡ max 1 (get_or l.grid.shape axis 0) → set wide axis n ≡ band_sizes (axis - 1) (at_least_one l.grid.shape) l.grid.chunk
wide_before l zero n wide ok some below is size = absurd (omega arith)
wide_before l (suc axis) n wide ok some below is size =
    let long = long_same l.grid.shape in
    let r = ok.ranks in
    let there : n ≡ get_or (at_least_one l.grid.shape) (suc axis) 0 = size ∙ sym (get_or-map (λ n. max 1 n) l.grid.shape (suc axis) 0 0 below) in
    let one : suc axis - 1 ≡ axis = omega arith in
    rw (is, there, one) (sizes_before axis (at_least_one l.grid.shape) l.grid.chunk (omega arith) (omega arith))

-- one axis more, on which they may be so
pub chosen_here : (l : Layout) (axis : ℕ) (wide : List ℕ) → wide ≡ band_sizes axis (at_least_one l.grid.shape) l.grid.chunk → ChosenAxis l axis wide
chosen_here l axis wide is = record { axis = axis; sizes = is; first = λ other above may. above }

-- or may not
pub chosen_later : (l : Layout) (axis : ℕ) (band : List ℕ) → axis + 1 < length l.grid.shape
    → (get_or l.grid.chunk axis 0 ≤ 1) ⊎ (2 ^ 26 < product (band_sizes axis (at_least_one l.grid.shape) l.grid.chunk) * size_of l.dtype)
    → ChosenAxis l (axis + 1) band → ChosenAxis l axis band
chosen_later l axis band below not later = record { axis = later.axis; sizes = later.sizes; first = first }
  where
    refuse : IsBandAxis l axis → ⊥
    refuse (inl last) = absurd (omega arith)
    refuse (inr (some, small)) = elim not [ inl one ↦ absurd (omega arith) | inr large ↦ absurd (omega arith) ]

    first : (other : ℕ) → axis ≤ other → IsBandAxis l other → later.axis ≤ other
    first other above may = elim (cases_lt axis other) [
      | inl more ↦ later.first other (omega arith) may
      | inr same ↦
          let equal : other ≡ axis = omega arith in
          absurd (refuse (subst (IsBandAxis l) equal may))
    ]

positive_in : (axis : ℕ) (shape chunk : List ℕ) → All (λ n. 0 < n) shape → All (λ n. 0 < n) chunk → All (λ n. 0 < n) (band_sizes axis shape chunk)
positive_in zero [] chunk p q = λ k d b. absurd (omega arith)
positive_in (suc axis) [] chunk p q = λ k d b. absurd (omega arith)
positive_in zero (n ∷ ns) [] p q = λ k d b. absurd (omega arith)
positive_in (suc axis) (n ∷ ns) [] p q = λ k d b. absurd (omega arith)
positive_in zero (n ∷ ns) (c ∷ cs) p q = All-cons (λ n. 0 < n) c ns (q 0 0 (omega arith)) (λ k d b. p (suc k) d (omega arith))
positive_in (suc axis) (n ∷ ns) (c ∷ cs) p q =
    All-cons (λ n. 0 < n) c (band_sizes axis ns cs) (q 0 0 (omega arith)) (positive_in axis ns cs (λ k d b. p (suc k) d (omega arith)) (λ k d b. q (suc k) d (omega arith)))

pub wide_positive : (l : Layout) (axis : ℕ) (wide : List ℕ) → IsGrid l.grid → wide ≡ band_sizes axis (at_least_one l.grid.shape) l.grid.chunk → All (λ n. 0 < n) wide
wide_positive l axis wide ok is =
    subst (All (λ n. 0 < n)) (sym is) (positive_in axis (at_least_one l.grid.shape) l.grid.chunk (positive_sizes (at_least_one l.grid.shape) (at_least_one-positive l.grid.shape)) ok.positive)
