-- Elements of a view that are numbers of its own.
use Rattle.std.proofs.Common.{◌≡◌, ℕ, ◌+◌, Bool, true, false, ℤ, pos, List, [], ◌∷◌, length, get_or, sym, ◌∙◌, subst, arith, if◌then◌else◌}
use Rattle.cu_shape.specs.Index.{place_of, differences, IsInside}
use Rattle.cu_grid.specs.Counts.{IsWithin}
use Rattle.cu_origin.specs.Fits.{FitsConcat}
use Rattle.cu_origin.specs.Pull.{concat_from, origin_of}
use Rattle.cu_origin.specs.declared.provenance.Provenance.{Provenance}
use Rattle.cu_origin.specs.declared.provenance.Provenance.TheVariants.{From, Const}
use Rattle.cu_origin.specs.declared.pull.Pull.{Pull}
use Rattle.cu_origin.proofs.AxesInside.{inside_at}
use Rattle.cu_shape.proofs.Places.{inside-length}
use Rattle.cu_view.proofs.Concats.{concat_at, concat_has}

pub same_number : (a x : ℤ) → Const a ≡ Const x → a ≡ x
same_number a x e = cc

pub no_number : (s : ℕ) (i : List ℕ) (x : ℤ) → From s i ≡ Const x → ⊥
no_number s i x e = cc

-- what the rule says of a view that is known
pub origin_as : (pull q : Pull) (sources : List (List ℕ)) (shape idx : List ℕ) (p : Provenance) → pull ≡ q → origin_of pull sources shape idx ≡ p → origin_of q sources shape idx ≡ p
origin_as pull q sources shape idx p e o = subst (λ (x : Pull). origin_of x sources shape idx ≡ p) e o

pub outside_triangle : (b : Bool) (idx : List ℕ) (x : ℤ) → (if b then From 0 idx else Const (pos 0)) ≡ Const x → pos 0 ≡ x
outside_triangle true idx x e = absurd (no_number 0 idx x e)
outside_triangle false idx x e = same_number (pos 0) x e

pub one_or_zero : (b : Bool) (x : ℤ) → (if b then Const (pos 1) else Const (pos 0)) ≡ Const x → (if b then pos 1 else pos 0) ≡ x
one_or_zero true x e = same_number (pos 1) x e
one_or_zero false x e = same_number (pos 0) x e

-- each element of a concatenation comes from a source
pub concat_no_number : (join : ℕ) (sources : List (List ℕ)) (shape idx : List ℕ) (x : ℤ) → FitsConcat join sources shape → IsInside shape idx → concat_from join 0 sources idx ≡ Const x → ⊥
concat_no_number join sources shape idx x f h e =
    let b = inside_at shape idx join h f.below in
    let l = f.below in
    let n = inside-length shape idx h in
    let t = f.along in
    let w = concat_has join (get_or idx join 0) sources (omega arith) in
    no_number _ _ x (sym (concat_at join 0 w.0 sources idx (omega arith) w.1 w.2 w.3) ∙ e)

-- in a line of numbers the place tells the index
pub line_index : (dims lo hi idx : List ℕ) → length lo ≡ 1 → IsWithin lo hi idx → IsInside dims (differences idx lo) → get_or lo 0 0 + place_of dims (differences idx lo) ≡ get_or idx 0 0
line_index (d ∷ []) (l ∷ []) (u ∷ []) (i ∷ []) n w h = let low = w.0 in omega (arith, low)
line_index [] (l ∷ []) (u ∷ us) (i ∷ is) n w h = absurd h
line_index (d ∷ ds) (l ∷ []) (u ∷ v ∷ us) (i ∷ is) n w h = absurd w.2
line_index (d ∷ e ∷ ds) (l ∷ []) (u ∷ []) (i ∷ []) n w h = absurd h.1
line_index dims lo hi idx n w h = absurd (first_of (assumption, omega arith))
