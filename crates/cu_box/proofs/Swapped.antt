-- Elements whose bytes were reversed: what a step leaves.
use Rattle.std.proofs.Common.{◌≡◌, ◌⊎◌, ℕ, suc, ◌+◌, ◌*◌, ◌/◌, ◌%◌, ◌<◌, ◌≤◌, List, length, take, drop, refl, sym, ap, ◌∙◌, inl, inr, arith}
use Rattle.std.specs.Prelude.{reverse}
use Rattle.std.proofs.lemmas.Bool.{cases_lt}
use Rattle.std.proofs.lemmas.Nat.{div-add-mod', mul-le}
use Rattle.std.proofs.lemmas.List.{length-take-le, length-drop, length-reverse, take_all}
use Rattle.std.proofs.Math.Nat.{le-div_iff_mul-le}
use borrow.Rule.Slice.PartMut.{put_mid}
use Rattle.cu_num.specs.Element.{IsSize}
use Rattle.cu_box.specs.Order.{part_at, IsSwapped}
use Rattle.cu_box.proofs.PartRuns.{run_written, part_inside, part_below, part_above, length-run_written}

-- a row below the number of whole rows fits
pub row_fits_in : (row count len : ℕ) → row < count / len → row * len + len ≤ count
row_fits_in row count len b =
    let e : count / len * len + count % len ≡ count = div-add-mod' count len in
    let far : suc row * len ≤ count / len * len = mul-le (suc row) len (count / len) len b (omega arith) in
    omega arith

-- the elements below `done` are reversed, and the others are as before
pub record SwappedTo (size done : ℕ) (old new : List ℕ) : Type 0 where
  pub same_length : length new ≡ length old
  pub reversed : (p : ℕ) → p < done → part_at size new p ≡ reverse (part_at size old p)
  pub others : (p : ℕ) → done ≤ p → part_at size new p ≡ part_at size old p

pub swapped_none : (size : ℕ) (old : List ℕ) → SwappedTo size 0 old old
swapped_none size old = record {
  same_length = refl;
  reversed = λ p b. absurd (omega arith);
  others = λ p b. refl;
}

pub length-part_at : (size p : ℕ) (bytes : List ℕ) → p * size + size ≤ length bytes → length (part_at size bytes p) ≡ size
length-part_at size p bytes fits = length-take-le size (drop (p * size) bytes) (rw (length-drop (p * size) bytes) (omega arith))

whole_part : (size : ℕ) (bytes : List ℕ) → length bytes ≡ size → part_at size bytes 0 ≡ bytes
whole_part size bytes long =
    let start : 0 * size ≡ 0 = omega arith in
    ap (λ n. take size (drop n bytes)) start ∙ take_all size bytes (omega arith)

module _ (size at : ℕ) (old before run : List ℕ) (was : SwappedTo size at old before) (fits : at * size + size ≤ length old)
    (is : run ≡ reverse (part_at size before at)) where
  one : 1 * size ≡ size
  one = omega arith

  here : at * size + size ≤ length before
  here = let e = was.same_length in omega arith

  room : at * size + 1 * size ≤ length before
  room = let e = was.same_length in omega arith

  long : length run ≡ 1 * size
  long = ap length is ∙ length-reverse (part_at size before at) ∙ length-part_at size at before here ∙ sym one

  by_order : (p : ℕ) → p < at + 1 → (p < at) ⊎ (at ≤ p) → part_at size (run_written size 1 before at run) p ≡ reverse (part_at size old p)
  by_order p b (inl less) = part_below size 1 at p before run less room ∙ was.reversed p less
  by_order p b (inr more) =
      let same : at + 0 ≡ p = omega arith in
      ap (part_at size (run_written size 1 before at run)) (sym same) ∙ part_inside size 1 at 0 before run (omega arith) long room
      ∙ whole_part size run (long ∙ one) ∙ is ∙ ap reverse (was.others at (omega arith)) ∙ ap (λ n. reverse (part_at size old n)) (let e : at ≡ p = omega arith in e)

  pub swapped_more : SwappedTo size (at + 1) old (put_mid (at * size) size before run)
  swapped_more = record {
    same_length = ap (λ n. length (put_mid (at * size) n before run)) (sym one) ∙ length-run_written size 1 at before run long room ∙ was.same_length;
    reversed = λ p b. ap (λ n. part_at size (put_mid (at * size) n before run) p) (sym one) ∙ by_order p b (cases_lt p at);
    others = λ p b. ap (λ n. part_at size (put_mid (at * size) n before run) p) (sym one) ∙ part_above size 1 at p before run b long room ∙ was.others p (omega arith);
  }

pub swapped_all : (size done : ℕ) (old new : List ℕ) → IsSize size → length old / size ≤ done → SwappedTo size done old new → IsSwapped size old new
swapped_all size done old new sized all to = record {
  same_length = to.same_length;
  reversed = λ p fits. to.reversed p (let some : 0 < size = grind arith in let whole : suc p ≤ length old / size = (le-div_iff_mul-le some).1 (omega arith) in omega arith);
}
