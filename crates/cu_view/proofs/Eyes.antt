-- The diagonals of a matrix, row by row.
use Rattle.std.proofs.Common.{◌≡◌, ◌≢◌, ◌⊎◌, inl, inr, ℕ, ◌<◌, ◌≤◌, true, false, ℤ, pos, ◌+ℤ◌, ◌-ℤ◌, List, [], ◌∷◌, length, get_or, set, refl, sym, ap, ◌∙◌, arith, if◌then◌else◌}
use Rattle.std.specs.Bool.{Decides}
use Rattle.std.specs.Ordering.{int_eq}
use Rattle.std.proofs.lemmas.Bool.{cases_Bool, cases_order}
use Rattle.std.proofs.Math.IntN.{+ℤ_comm, +ℤ-neg_ℤ_cancel, -ℤ-+ℤ_cancel}
use Rattle.std.proofs.lemmas.Bool.Decides.{Decides-int_eq, not_from_Decides}
use Rattle.cu_num.specs.Element.{bytes_at, element_bytes}
use Rattle.cu_num.specs.declared.layout.Endian.TheVariants.{Little}
use Rattle.cu_grid.specs.Counts.{IsWithin}
use Rattle.cu_origin.specs.Pull.{diagonal_of}
use Rattle.cu_view_box.specs.Block.{buffer_place}
use Rattle.cu_view_box.specs.declared.block.Block.{Block}

-- the index of this row and column
abbrev pub at_cell : List ℕ → ℕ → ℕ → List ℕ
at_cell lo row column = set (set lo 0 row) 1 column

pub cell_within : (lo hi : List ℕ) (row column : ℕ) → length lo ≡ 2 → length hi ≡ 2 → get_or lo 0 0 ≤ row → row < get_or hi 0 0 → get_or lo 1 0 ≤ column → column < get_or hi 1 0
    → IsWithin lo hi (at_cell lo row column)
cell_within (a ∷ b ∷ []) (c ∷ d ∷ []) row column n m p q r s = (p, q, (r, s, tt))
cell_within lo hi row column n m p q r s = absurd (omega arith)

-- an index of two numbers, of this row and on this diagonal
pub record IsCell (idx lo hi : List ℕ) : Type 0 where
  pub diagonal : diagonal_of idx ≡ pos (get_or idx 1 0) -ℤ pos (get_or idx 0 0)
  pub low : get_or lo 1 0 ≤ get_or idx 1 0
  pub high : get_or idx 1 0 < get_or hi 1 0
  pub first_low : get_or lo 0 0 ≤ get_or idx 0 0
  pub first_high : get_or idx 0 0 < get_or hi 0 0
  pub is : idx ≡ at_cell lo (get_or idx 0 0) (get_or idx 1 0)

pub cell_of : (lo hi idx : List ℕ) → length lo ≡ 2 → IsWithin lo hi idx → IsCell idx lo hi
cell_of (a ∷ b ∷ []) (c ∷ d ∷ []) (i ∷ j ∷ []) n w = record { diagonal = refl; low = w.2.0; high = w.2.1; first_low = w.0; first_high = w.1; is = refl }
cell_of (a ∷ b ∷ []) (c ∷ []) (i ∷ idx) n w = absurd w.2
cell_of (a ∷ b ∷ []) (c ∷ d ∷ e ∷ hi) (i ∷ j ∷ idx) n w = absurd w.2.2
cell_of lo hi idx n w = absurd (first_of (assumption, omega arith))

pub cell_row : (lo : List ℕ) (row column : ℕ) → length lo ≡ 2 → get_or (at_cell lo row column) 0 0 ≡ row
cell_row (a ∷ b ∷ []) row column n = refl
cell_row lo row column n = absurd (omega arith)

column_less : (row column : ℕ) (k : ℤ) → pos column ≡ pos row +ℤ k → pos column -ℤ pos row ≡ k
column_less row column k e = ap (λ (z : ℤ). z -ℤ pos row) (e ∙ +ℤ_comm (pos row) k) ∙ +ℤ-neg_ℤ_cancel k (pos row)

pub cell_diagonal : (lo : List ℕ) (row column : ℕ) (k : ℤ) → length lo ≡ 2 → pos column ≡ pos row +ℤ k → diagonal_of (at_cell lo row column) ≡ k
cell_diagonal (a ∷ b ∷ []) row column k n e = column_less row column k e
cell_diagonal lo row column k n e = absurd (omega arith)

column_is : (i j row : ℕ) (k : ℤ) → i ≡ row → pos j -ℤ pos i ≡ k → pos j ≡ pos row +ℤ k
column_is i j row k f g = sym (-ℤ-+ℤ_cancel (pos j) (pos i)) ∙ ap (λ (z : ℤ). z +ℤ pos i) g ∙ +ℤ_comm k (pos i) ∙ ap (λ (n : ℕ). pos n +ℤ k) f

same_column : (i j row column : ℕ) (k : ℤ) → pos column ≡ pos row +ℤ k → i ≡ row → pos j -ℤ pos i ≡ k → j ≡ column
same_column i j row column k e f g = let same : pos j ≡ pos column = column_is i j row k f g ∙ sym e in cc

-- the only index of a row that lies on a diagonal
pub on_diagonal : (lo hi idx : List ℕ) (row column : ℕ) (k : ℤ) → length lo ≡ 2 → pos column ≡ pos row +ℤ k → IsWithin lo hi idx → get_or idx 0 0 ≡ row → diagonal_of idx ≡ k → idx ≡ at_cell lo row column
on_diagonal lo hi idx row column k n e w f d =
    let v = cell_of lo hi idx n w in
    let g : get_or idx 1 0 ≡ column = same_column (get_or idx 0 0) (get_or idx 1 0) row column k e f (sym v.diagonal ∙ d) in
    v.is ∙ ap (λ (i : ℕ). at_cell lo i (get_or idx 1 0)) f ∙ ap (λ (j : ℕ). at_cell lo row j) g

pub off_diagonal : (lo : List ℕ) (idx : List ℕ) (row column : ℕ) (k : ℤ) → length lo ≡ 2 → pos column ≡ pos row +ℤ k → (get_or idx 0 0 ≡ row → diagonal_of idx ≢ k) → idx ≢ at_cell lo row column
off_diagonal lo idx row column k n e apart same =
    apart (ap (λ (x : List ℕ). get_or x 0 0) same ∙ cell_row lo row column n) (ap diagonal_of same ∙ cell_diagonal lo row column k n e)

-- a row has no index on a diagonal that leaves the columns
pub none_on_diagonal : (lo hi idx : List ℕ) (row : ℕ) (k : ℤ) → length lo ≡ 2 → ((column : ℕ) → get_or lo 1 0 ≤ column → column < get_or hi 1 0 → pos column ≢ pos row +ℤ k) → IsWithin lo hi idx → get_or idx 0 0 ≡ row → diagonal_of idx ≢ k
none_on_diagonal lo hi idx row k n none w f d =
    let v = cell_of lo hi idx n w in
    none (get_or idx 1 0) v.low v.high (column_is (get_or idx 0 0) (get_or idx 1 0) row k f (sym v.diagonal ∙ d))

-- an element of a block is this number
abbrev pub HasNumber : Block → List ℕ → List ℕ → ℤ → Type 0
HasNumber to new idx x = bytes_at to.dtype new (buffer_place to idx) ≡ element_bytes Little to.dtype x

abbrev pub KeepsElement : Block → List ℕ → List ℕ → List ℕ → Type 0
KeepsElement to old new idx = bytes_at to.dtype new (buffer_place to idx) ≡ bytes_at to.dtype old (buffer_place to idx)

int_eq_tells : (x y : ℤ) → ((int_eq x y ≡ true) × (x ≡ y)) ⊎ ((int_eq x y ≡ false) × (x ≢ y))
int_eq_tells x y =
    let d : Decides (int_eq x y) (x ≡ y) = Decides-int_eq x y in
    elim (cases_Bool (int_eq x y)) [ inl same ↦ inl (same, d.0 same) | inr apart ↦ inr (apart, not_from_Decides (int_eq x y) d apart) ]

-- after one row more
eye_here : (to : Block) (row : ℕ) (k : ℤ) (old new idx : List ℕ) → (diagonal_of idx ≡ k → HasNumber to new idx (pos 1)) → (diagonal_of idx ≢ k → KeepsElement to old new idx) → HasNumber to old idx (pos 0)
    → HasNumber to new idx (if int_eq (diagonal_of idx) k then pos 1 else pos 0)
eye_here to row k old new idx here others was =
    elim (int_eq_tells (diagonal_of idx) k) [
      | inl p ↦ rw p.0 (here p.1)
      | inr p ↦ rw p.0 (others p.1 ∙ was)
    ]

pub eye_done : (to : Block) (row : ℕ) (k : ℤ) (old new idx : List ℕ) → (get_or idx 0 0 ≡ row → diagonal_of idx ≡ k → HasNumber to new idx (pos 1)) → ((get_or idx 0 0 ≡ row → diagonal_of idx ≢ k) → KeepsElement to old new idx)
    → (get_or idx 0 0 < row → HasNumber to old idx (if int_eq (diagonal_of idx) k then pos 1 else pos 0)) → (row ≤ get_or idx 0 0 → HasNumber to old idx (pos 0)) → get_or idx 0 0 ≤ row
    → HasNumber to new idx (if int_eq (diagonal_of idx) k then pos 1 else pos 0)
eye_done to row k old new idx here others done left below =
    elim (cases_order (get_or idx 0 0) row) [
      | inl same ↦ eye_here to row k old new idx (here same) (λ apart. others (λ e. apart)) (left (omega arith))
      | inr far ↦ elim far [
        | inl less ↦ others (λ e. absurd (omega arith)) ∙ done less
        | inr more ↦ absurd (omega arith)
      ]
    ]

pub eye_left : (to : Block) (row : ℕ) (k : ℤ) (old new idx : List ℕ) → ((get_or idx 0 0 ≡ row → diagonal_of idx ≢ k) → KeepsElement to old new idx) → (row ≤ get_or idx 0 0 → HasNumber to old idx (pos 0)) → row < get_or idx 0 0
    → HasNumber to new idx (pos 0)
eye_left to row k old new idx others left above = others (λ e. absurd (omega arith)) ∙ left (omega arith)
