-- What a write of an element's bytes leaves.
use Rattle.std.proofs.Common.{◌≡◌, ℕ, ◌+◌, ◌-◌, ◌*◌, ◌%◌, ◌^◌, ◌≤◌, List, ◌++◌, take, drop, sym, ap, ◌∙◌, arith, append_assoc, ℤ}
use Rattle.std.specs.Int.{to_le_bytes, w64}
use Rattle.std.proofs.lemmas.List.{drop-drop}
use borrow.Rule.Slice.PartMut.{put_mid}
use Rattle.cu_num.specs.Wrap.{residue}
use Rattle.cu_num.specs.Element.{low_bytes, IsSize}
use Rattle.cu_num.proofs.Bytes.{take-to_le_bytes, low_bytes-mod}
use Rattle.cu_num.proofs.Residue.{residue-mod}

-- the lowest bytes of a word of 64 bits are those of the narrower residue
narrower : (size : ℕ) (x : ℤ) → IsSize size → low_bytes size (residue 64 x) ≡ low_bytes size (residue (8 * size) x)
narrower size x h =
    let most : size ≤ 8 = grind arith in
    let sum : 64 ≡ 8 * size + (64 - 8 * size) = omega arith in
    sym (low_bytes-mod size (residue 64 x))
    ∙ ap (low_bytes size) (ap (λ w. residue w x % 2 ^ (8 * size)) sum ∙ residue-mod (8 * size) (64 - 8 * size) x)

pub saved : (old part : List ℕ) (at count size word : ℕ) (x : ℤ) → IsSize size → count ≡ size → part ≡ take count (to_le_bytes w64 word) → word ≡ residue 64 x
    → put_mid (at * count) (at * count + count - at * count) old part ≡ take (at * size) old ++ low_bytes size (residue (8 * size) x) ++ drop (at * size + size) old
saved old part at count size word x h same is from =
    let written : part ≡ low_bytes size (residue (8 * size) x) = is ∙ ap (λ n. take n (to_le_bytes w64 word)) same ∙ take-to_le_bytes size word h ∙ ap (low_bytes size) from ∙ narrower size x h in
    let width : at * count + count - at * count ≡ size = omega arith in
    let start : at * count ≡ at * size = ap (λ n. at * n) same in
    ap (λ a. put_mid a (at * count + count - at * count) old part) start ∙ ap (λ k. put_mid (at * size) k old part) width ∙ ap (put_mid (at * size) size old) written
    ∙ ap (λ rest. take (at * size) old ++ (low_bytes size (residue (8 * size) x) ++ rest)) (drop-drop size (at * size) old)
    ∙ sym (append_assoc (take (at * size) old) (low_bytes size (residue (8 * size) x)) (drop (at * size + size) old))
