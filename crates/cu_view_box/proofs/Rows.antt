-- A row of a part, moved along lines.
use Rattle.std.proofs.Common.{◌≡◌, ◌≢◌, ℕ, suc, ◌+◌, ◌-◌, ◌*◌, ◌<◌, ◌≤◌, ◌⊎◌, Bool, true, false, nat_lt, List, length, get_or, min, refl, sym, ap, ◌∙◌, subst, arith, inl, inr}
use Rattle.std.proofs.Math.Nat.{mul-le-mul_right}
use Rattle.std.proofs.lemmas.Bool.{ltb-true, ltb-false}
use Rattle.std.proofs.lemmas.Bool.Decides.{eqb_tells}
use Rattle.std.proofs.lemmas.List.{ext_get_or, get_or-set_same, get_or-set_other, set_past, set-get_or, length-set}
use Rattle.cu_num.specs.Dtype.{size_of}
use Rattle.cu_num.specs.declared.types.Dtype.{Dtype}
use Rattle.cu_shape.specs.Index.{product, index_at, differences}
use Rattle.cu_shape.proofs.Places.{place-below, index-place}
use Rattle.cu_grid.specs.Counts.{IsWithin}
use Rattle.cu_grid.specs.declared.region.Region.{Region}
use Rattle.cu_grid.proofs.Meeting.{within_of}
use Rattle.cu_view_box.specs.Block.{buffer_place, IsBlock, IsMove, IsMoved, IsKept}
use Rattle.cu_view_box.specs.Line.{FitsLine, IsOneEach, AreConverted, AreOthersKept}
use Rattle.cu_view_box.specs.Piece.{read_at}
use Rattle.cu_view_box.specs.Row.{IsRowAlong, row_index, row_count}
use Rattle.cu_view_box.specs.declared.block.Block.{Block}
use Rattle.cu_view_box.specs.declared.lines.Line.{Line}
use Rattle.cu_view_box.specs.declared.piece.Piece.{Piece}
use Rattle.cu_view_box.proofs.Boxes.{at_axis, moved_within}
use Rattle.cu_view_box.proofs.Evenly.{even_place, even_on_axis, even_read, on_even, get_or-differences}

-- the row has the indices of its axis, or one index where it has no such axis
pub count_cases : (part : Region) (axis count : ℕ) → count ≡ row_count part axis
    → ((axis < length part.lo) × (count ≡ get_or part.hi axis 0 - get_or part.lo axis 0)) ⊎ ((length part.lo ≤ axis) × (count ≡ 1))
count_cases part axis count e = by_test (nat_lt axis (length part.lo)) refl
  where
    by_test : (b : Bool) → nat_lt axis (length part.lo) ≡ b
        → ((axis < length part.lo) × (count ≡ get_or part.hi axis 0 - get_or part.lo axis 0)) ⊎ ((length part.lo ≤ axis) × (count ≡ 1))
    by_test true t = inl (ltb-true axis (length part.lo) t, e ∙ rw t refl)
    by_test false t = inr (ltb-false axis (length part.lo) t, e ∙ rw t refl)

pub first_index : (lo : List ℕ) (axis : ℕ) → row_index lo axis 0 ≡ lo
first_index lo axis = let e : get_or lo axis 0 + 0 ≡ get_or lo axis 0 = omega arith in rw e (set-get_or lo axis 0)

module _ (part : Region) (axis count : ℕ) (some : IsWithin part.lo part.hi part.lo) (row : IsRowAlong part axis) (counted : count ≡ row_count part axis) where
  pub row_some : 0 < count
  row_some =
      elim (count_cases part axis count counted) [
        | inl p ↦ let a = at_axis part.lo part.hi part.lo axis some p.0 in let a1 = a.1 in let e = p.1 in omega arith
        | inr p ↦ let e = p.1 in omega arith
      ]

  pub row_within : (j : ℕ) → j < count → IsWithin part.lo part.hi (row_index part.lo axis j)
  row_within j b =
      elim (count_cases part axis count counted) [
        | inl p ↦ let e = p.1 in moved_within part.lo part.hi part.lo axis (get_or part.lo axis 0 + j) some p.0 (omega arith) (omega arith)
        | inr p ↦ rw (set_past part.lo axis (get_or part.lo axis 0 + j) p.0) some
      ]

  pub second_within : (second : List ℕ) → second ≡ row_index part.lo axis (min 1 (count - 1)) → IsWithin part.lo part.hi second
  second_within second e = let p = row_some in rw e (row_within (min 1 (count - 1)) (omega arith))

  pub row_all : (idx : List ℕ) → IsWithin part.lo part.hi idx → (j : ℕ) × (j < count) × (idx ≡ row_index part.lo axis j)
  row_all idx w =
      let v = within_of part.lo part.hi idx w in
      let n = v.lo_rank in
      elim (count_cases part axis count counted) [
        | inl p ↦
            let e = p.1 in
            let b = p.0 in
            let a = at_axis part.lo part.hi idx axis w p.0 in
            let a0 = a.0 in
            let a1 = a.1 in (
              get_or idx axis 0 - get_or part.lo axis 0,
              omega arith,
              ext_get_or 0 idx (row_index part.lo axis (get_or idx axis 0 - get_or part.lo axis 0)) (sym n ∙ sym (length-set part.lo axis (get_or part.lo axis 0 + (get_or idx axis 0 - get_or part.lo axis 0))))
                  (λ k c. elim (eqb_tells k axis) [
                    | inl q ↦ rw q.1 (rw (get_or-set_same part.lo axis (get_or part.lo axis 0 + (get_or idx axis 0 - get_or part.lo axis 0)) 0 b) (omega arith))
                    | inr q ↦
                        let apart : k ≢ axis = q.1 in
                        let s = row k (omega arith) apart in
                        let z = v.at k c in
                        let z0 = z.0 in
                        let z1 = z.1 in
                        rw (get_or-set_other part.lo axis k (get_or part.lo axis 0 + (get_or idx axis 0 - get_or part.lo axis 0)) 0 apart) (omega arith)
                  ]),
            )
        | inr p ↦
            let e = p.1 in
            let b = p.0 in (
              0,
              omega arith,
              ext_get_or 0 idx part.lo (sym n)
                  (λ k c. (let s = row k (omega arith) (λ q. (let k_is : k ≡ axis = q in omega arith)) in let z = v.at k c in let z0 = z.0 in let z1 = z.1 in omega arith))
                  ∙ sym (first_index part.lo axis),
            )
      ]

  pub row_one : (i j : ℕ) → i < count → j < count → row_index part.lo axis i ≡ row_index part.lo axis j → i ≡ j
  row_one i j bi bj e =
      elim (count_cases part axis count counted) [
        | inl p ↦
            let x : get_or part.lo axis 0 + i ≡ get_or part.lo axis 0 + j =
            sym (get_or-set_same part.lo axis (get_or part.lo axis 0 + i) 0 p.0) ∙ ap (λ is. get_or is axis 0) e ∙ get_or-set_same part.lo axis (get_or part.lo axis 0 + j) 0 p.0 in
            omega arith
        | inr p ↦ let f = p.1 in omega arith
      ]

-- ---- places in a block
pub place_fits : (block : Block) (bytes idx : List ℕ) → IsBlock block bytes → IsWithin block.region.lo block.region.hi idx
    → buffer_place block idx * size_of block.dtype + size_of block.dtype ≤ length bytes
place_fits block bytes idx ok w =
    let below = place-below block.dims (differences idx block.region.lo) (ok.inside idx w) in
    let far : suc (buffer_place block idx) * size_of block.dtype ≤ product block.dims * size_of block.dtype = mul-le-mul_right (size_of block.dtype) below in
    let long = ok.long in
    omega arith

pub place_one : (block : Block) (bytes idx other : List ℕ) → IsBlock block bytes → IsWithin block.region.lo block.region.hi idx → IsWithin block.region.lo block.region.hi other
    → buffer_place block idx ≡ buffer_place block other → idx ≡ other
place_one block bytes idx other ok w v e =
    let same : differences idx block.region.lo ≡ differences other block.region.lo =
    sym (index-place block.dims (differences idx block.region.lo) (ok.inside idx w)) ∙ ap (λ p. index_at block.dims p) e ∙ index-place block.dims (differences other block.region.lo) (ok.inside other v) in
    let a = within_of block.region.lo block.region.hi idx w in
    let b = within_of block.region.lo block.region.hi other v in
    let ra = a.lo_rank in
    let rb = b.lo_rank in
    ext_get_or 0 idx other (sym a.lo_rank ∙ b.lo_rank)
    (λ k c. let d : get_or idx k 0 - get_or block.region.lo k 0 ≡ get_or other k 0 - get_or block.region.lo k 0 =
    sym (get_or-differences idx block.region.lo k (sym a.lo_rank)) ∙ ap (λ is. get_or is k 0) same ∙ get_or-differences other block.region.lo k (sym b.lo_rank) in
    let x = (a.at k c).0 in
    let y = (b.at k (omega arith)).0 in
    omega arith)

abbrev pub line_from : Dtype → ℕ → ℕ → Line
line_from t first next = record { dtype = t; places = record { first = first; next = next } }

-- ---- the two lines of a row
module _ (piece : Piece) (part : Region) (axis count : ℕ) (from to : Block) (bytes old : List ℕ) (source_first source_next target_first target_next : ℕ) (second : List ℕ)
    (row : IsRowAlong part axis) (counted : count ≡ row_count part axis)
    (moves : IsMove piece part from to) (source_ok : IsBlock from bytes) (target_ok : IsBlock to old)
    (is_second : second ≡ row_index part.lo axis (min 1 (count - 1)))
    (sf : source_first ≡ buffer_place from (read_at piece part.lo)) (sn : source_next ≡ buffer_place from (read_at piece second))
    (tf : target_first ≡ buffer_place to part.lo) (tn : target_next ≡ buffer_place to second) where
  abbrev source : Line
  source = line_from from.dtype source_first source_next

  abbrev target : Line
  target = line_from to.dtype target_first target_next

  abbrev index : ℕ → List ℕ
  index j = row_index part.lo axis j

  within : (j : ℕ) → j < count → IsWithin part.lo part.hi (index j)
  within = row_within part axis count moves.some row counted

  source_on : (j : ℕ) → j < count → (j * source_first ≤ source_first + j * source_next) × (source_first + j * source_next - j * source_first ≡ buffer_place from (read_at piece (index j)))
  source_on j b =
      on_even (λ n. buffer_place from (read_at piece (index n))) source_first source_next count j
      (sf ∙ ap (λ is. buffer_place from (read_at piece is)) (sym (first_index part.lo axis))) (sn ∙ ap (λ is. buffer_place from (read_at piece is)) is_second) b
      (λ more. rw first_index
      (even_place from.dims (differences (read_at piece part.lo) from.region.lo) (differences (read_at piece (index 1)) from.region.lo) (differences (read_at piece (index j)) from.region.lo) j
      (even_read piece part.lo from.region.lo from.region.hi axis j moves.ways (moves.of_piece part.lo moves.some) (moves.of_piece (index 1) (within 1 more)) (moves.of_piece (index j) (within j b))
      (moves.of_source part.lo moves.some) (moves.of_source (index 1) (within 1 more)) (moves.of_source (index j) (within j b)))))

  target_on : (j : ℕ) → j < count → (j * target_first ≤ target_first + j * target_next) × (target_first + j * target_next - j * target_first ≡ buffer_place to (index j))
  target_on j b =
      let v = within_of to.region.lo to.region.hi part.lo (moves.of_result part.lo moves.some) in
      on_even (λ n. buffer_place to (index n)) target_first target_next count j
      (tf ∙ ap (buffer_place to) (sym (first_index part.lo axis))) (tn ∙ ap (buffer_place to) is_second) b
      (λ more. rw first_index
      (even_place to.dims (differences part.lo to.region.lo) (differences (index 1) to.region.lo) (differences (index j) to.region.lo) j
      (even_on_axis part.lo to.region.lo axis j (sym v.lo_rank) (λ k c. (v.at k c).0))))

  pub source_fits : FitsLine source count bytes
  source_fits j b =
      let p = source_on j b in
      (p.0, rw p.1 (place_fits from bytes (read_at piece (index j)) source_ok (moves.of_source (index j) (within j b))))

  pub target_fits : FitsLine target count old
  target_fits j b =
      let p = target_on j b in
      (p.0, rw p.1 (place_fits to old (index j) target_ok (moves.of_result (index j) (within j b))))

  pub target_one : IsOneEach target count
  target_one i j bi bj e =
      row_one part axis count moves.some row counted i j bi bj
      (place_one to old (index i) (index j) target_ok (moves.of_result (index i) (within i bi)) (moves.of_result (index j) (within j bj))
      (sym (target_on i bi).1 ∙ e ∙ (target_on j bj).1))

  pub row_moved : (new : List ℕ) → AreConverted source bytes target new count → IsMoved piece part from bytes to new
  row_moved new h idx w =
      let (j, b, e) = row_all part axis count moves.some row counted idx w in
      rw (e, ← (target_on j b).1, ← (source_on j b).1) (h j b)

  pub row_kept : (new : List ℕ) → AreOthersKept target count old new → IsKept part to old new
  row_kept new h idx w off =
      h (buffer_place to idx)
      (λ j b e. off (subst (λ (is : List ℕ). IsWithin part.lo part.hi is)
      (place_one to old (index j) idx target_ok (moves.of_result (index j) (within j b)) w (sym (target_on j b).1 ∙ e)) (within j b)))
