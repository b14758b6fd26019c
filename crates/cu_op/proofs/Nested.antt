-- Regions that are the chunks of a coarser grid over the same sizes.
use Rattle.std.proofs.Common.{◌≡◌, ◌⊎◌, inl, inr, ℕ, suc, ◌<◌, ◌≤◌, ◌+◌, ◌*◌, ◌/◌, List, [], ◌∷◌, length, All, refl, ap, sym, ◌∙◌, subst, arith}
use Rattle.std.proofs.Math.Nat.{div-mul-le_self, div-div-eq-div-mul}
use Rattle.std.proofs.lemmas.Nat.{div_below, div-mul-add}
use Rattle.std.proofs.lemmas.List.Elements.{All-head, All-tail}
use Rattle.cu_shape.specs.Index.{IsInside, quotients, products}
use Rattle.cu_shape.proofs.Rounded.{before_end}
use Rattle.cu_grid.specs.Counts.{counts_of, chunk_lo, chunk_hi, IsWithin}
use Rattle.cu_grid.specs.Cover.{Meets}
use Rattle.cu_grid.specs.Grid.{RegularGrid, IsGrid, IsCoordinate, IsInChunk}
use Rattle.cu_grid.proofs.Parting.{only_chunk, in_array, has_coordinate, lies_within}
use Rattle.cu_op.specs.Schedule.{IsNestedAlong, IsNested}

zero_quotient : (a r : ℕ) → a < r → a / r ≡ 0
zero_quotient a r h = let small : a / r < 1 = div_below a r 1 (omega arith) (omega arith) in omega (arith, small)

-- on an axis the chunk of an index begins in the region of the index
begins_on : (n c r i : ℕ) → 0 < c → (n ≤ r) ⊎ ((m : ℕ) × (r ≡ m * c)) → i < n → i / c * c / r ≡ i / r
begins_on n c r i positive (inl whole) h =
    let before : i / c * c ≤ i = div-mul-le_self i c in
    zero_quotient (i / c * c) r (omega arith) ∙ sym (zero_quotient i r (omega arith))
begins_on n c r i positive (inr (m, e)) h =
    let turned : r ≡ c * m = omega (arith, e) in
    let again : i / c * c / c ≡ i / c = ap (λ x. x / c) (let z : i / c * c ≡ i / c * c + 0 = omega arith in z) ∙ div-mul-add (i / c) c 0 positive in
    rw turned (sym (div-div-eq-div-mul (i / c * c) c m) ∙ ap (λ x. x / m) again ∙ div-div-eq-div-mul i c m)

begins_along : (ns cs rs is : List ℕ) → All (λ c. 0 < c) cs → IsNestedAlong ns cs rs → IsInside ns is → quotients (products (quotients is cs) cs) rs ≡ quotients is rs
begins_along [] [] [] [] positive a h = refl
begins_along (n ∷ ns) (c ∷ cs) (r ∷ rs) (i ∷ is) positive a h =
    rw (begins_on n c r i (All-head (λ x. 0 < x) c cs positive) a.0 h.0, begins_along ns cs rs is (All-tail (λ x. 0 < x) c cs positive) a.1 h.1) refl
begins_along ns cs rs is positive a h = absurd assumption

-- the first index of a chunk lies in it
lo_within : (shape chunk coord : List ℕ) → All (λ c. 0 < c) chunk → length chunk ≡ length shape → IsInside (counts_of shape chunk) coord
    → IsWithin (chunk_lo chunk coord) (chunk_hi shape chunk coord) (chunk_lo chunk coord)
lo_within [] [] [] p e h = tt
lo_within (n ∷ ns) (c ∷ cs) (i ∷ is) p e h =
    let c_positive : 0 < c = p 0 0 (omega arith) in
    let starts : i * c < n = before_end n c i c_positive h.0 in
    let next : (i + 1) * c ≡ i * c + c = omega arith in
    (omega arith, omega arith, lo_within ns cs is (λ k d l. p (suc k) d (omega arith)) (omega arith) h.1)
lo_within ns cs is p e h = absurd (first_of (assumption, omega arith))

pub begins_within : (g : RegularGrid) (coord : List ℕ) → IsGrid g → IsCoordinate g coord → IsInChunk g coord (chunk_lo g.chunk coord)
begins_within g coord ok here = lo_within g.shape g.chunk coord ok.positive ok.ranks here

-- a chunk that meets a region begins in it, so it meets no other
pub meets_own : (g r : RegularGrid) (coord region : List ℕ) → IsGrid g → IsGrid r → IsNested g r → IsCoordinate r region
    → Meets g (chunk_lo r.chunk region) (chunk_hi r.shape r.chunk region) coord → quotients (chunk_lo g.chunk coord) r.chunk ≡ region
meets_own g r coord region okg okr nested there (here, (idx, within, own)) =
    let c = only_chunk g coord idx okg here own in
    let q = only_chunk r region idx okr there within in
    ap (λ x. quotients (chunk_lo g.chunk x) r.chunk) c ∙ begins_along g.shape g.chunk r.chunk idx okg.positive nested.axes (in_array g coord idx okg here own) ∙ sym q

-- a chunk meets the region in which it begins
pub record BeginsIn (g r : RegularGrid) (coord : List ℕ) : Type 0 where
  pub region : IsCoordinate r (quotients (chunk_lo g.chunk coord) r.chunk)
  pub meets : Meets g (chunk_lo r.chunk (quotients (chunk_lo g.chunk coord) r.chunk)) (chunk_hi r.shape r.chunk (quotients (chunk_lo g.chunk coord) r.chunk)) coord

pub begins_in : (g r : RegularGrid) (coord : List ℕ) → IsGrid g → IsGrid r → IsNested g r → IsCoordinate g coord → BeginsIn g r coord
begins_in g r coord okg okr nested here =
    let first = chunk_lo g.chunk coord in
    let own = begins_within g coord okg here in
    let inside : IsInside r.shape first = subst (λ (s : List ℕ). IsInside s first) (sym nested.shape) (in_array g coord first okg here own) in
    record {
      region = has_coordinate r first okr inside;
      meets = (here, (first, lies_within r first okr inside, own));
    }

-- each grid is nested in itself
same_along : (ns cs : List ℕ) → length cs ≡ length ns → IsNestedAlong ns cs cs
same_along [] [] e = tt
same_along [] (c ∷ cs) e = absurd (omega arith)
same_along (n ∷ ns) [] e = absurd (omega arith)
same_along (n ∷ ns) (c ∷ cs) e = (inr (1, omega arith), same_along ns cs (omega arith))

pub nested_same : (g : RegularGrid) → IsGrid g → IsNested g g
nested_same g ok = record { shape = refl; axes = same_along g.shape g.chunk ok.ranks }
