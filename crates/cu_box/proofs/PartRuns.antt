-- Elements in bytes into which a run of elements was copied.
use Rattle.std.proofs.Common.{◌≡◌, ℕ, suc, ◌+◌, ◌-◌, ◌*◌, ◌<◌, ◌≤◌, List, ◌++◌, length, take, drop, sym, ap, ◌∙◌, arith, length-append, length-drop}
use Rattle.std.proofs.Math.Nat.{mul-le-mul_right}
use Rattle.std.proofs.lemmas.List.{drop-drop, drop-take, take-take, length-take}
use Rattle.std.proofs.lemmas.Slice.{take-put_mid_below, drop-put_mid, between-put_mid}
use borrow.Rule.Slice.PartMut.{put_mid}
use Rattle.cu_num.specs.Element.{in_order}
use Rattle.cu_num.specs.declared.layout.Endian.{Endian}
use Rattle.cu_num.specs.declared.layout.Endian.TheVariants.{Little, Big}
use Rattle.cu_box.specs.Order.{IsReordered, part_at}

-- an element of a run is an element of what the run was taken from
pub part_of_run : (size start len j : ℕ) (source : List ℕ) → j < len
    → part_at size (take (len * size) (drop (start * size) source)) j ≡ part_at size source (start + j)
part_of_run size start len j source below =
    let rest = (len - suc j) * size in
    let split : len * size ≡ j * size + (size + rest) = (let e : len ≡ suc j + (len - suc j) = omega arith in ap (λ n. n * size) e ∙ omega arith) in
    let seam : start * size + j * size ≡ (start + j) * size = omega arith in
    ap (λ n. take size (drop (j * size) (take n (drop (start * size) source)))) split
    ∙ ap (take size) (drop-take (j * size) (size + rest) (drop (start * size) source))
    ∙ take-take size (size + rest) (drop (j * size) (drop (start * size) source)) (omega arith)
    ∙ ap (take size) (drop-drop (j * size) (start * size) source)
    ∙ ap (λ n. take size (drop n source)) seam

-- `bytes` with a run of `len` elements written from element `at` on
abbrev pub run_written : ℕ → ℕ → List ℕ → ℕ → List ℕ → List ℕ
run_written size len bytes at run = put_mid (at * size) (len * size) bytes run

pub written_form : (size len at : ℕ) (bytes run : List ℕ)
    → take (at * size) bytes ++ (run ++ drop (at * size + len * size) bytes) ≡ run_written size len bytes at run
written_form size len at bytes run = ap (λ rest. take (at * size) bytes ++ (run ++ rest)) (sym (drop-drop (len * size) (at * size) bytes))

pub part_inside : (size len at j : ℕ) (bytes run : List ℕ) → j < len → length run ≡ len * size → at * size + len * size ≤ length bytes
    → part_at size (run_written size len bytes at run) (at + j) ≡ part_at size run j
part_inside size len at j bytes run below long fits =
    let all = run_written size len bytes at run in
    let back : take (at * size + len * size - at * size) (drop (at * size) all) ≡ run =
    between-put_mid (at * size) (len * size) bytes run (at * size + len * size) (omega arith) (omega arith) in
    let width : at * size + len * size - at * size ≡ len * size = omega arith in
    let same : take (len * size) (drop (at * size) all) ≡ run = ap (λ n. take n (drop (at * size) all)) (sym width) ∙ back in
    sym (part_of_run size at len j all below) ∙ ap (λ own. part_at size own j) same

pub part_below : (size len at other : ℕ) (bytes run : List ℕ) → other < at → at * size + len * size ≤ length bytes
    → part_at size (run_written size len bytes at run) other ≡ part_at size bytes other
part_below size len at other bytes run less fits =
    let far : suc other * size ≤ at * size = mul-le-mul_right size less in
    sym (drop-take (other * size) size (run_written size len bytes at run))
    ∙ ap (drop (other * size)) (take-put_mid_below (at * size) (len * size) bytes run (other * size + size) (omega arith) (omega arith))
    ∙ drop-take (other * size) size bytes

pub part_above : (size len at other : ℕ) (bytes run : List ℕ) → at + len ≤ other → length run ≡ len * size → at * size + len * size ≤ length bytes
    → part_at size (run_written size len bytes at run) other ≡ part_at size bytes other
part_above size len at other bytes run more long fits =
    let far : (at + len) * size ≤ other * size = mul-le-mul_right size more in
    ap (take size) (drop-put_mid (at * size) (len * size) bytes run (other * size) (omega arith) (omega arith) long)

pub length-run_written : (size len at : ℕ) (bytes run : List ℕ) → length run ≡ len * size → at * size + len * size ≤ length bytes
    → length (run_written size len bytes at run) ≡ length bytes
length-run_written size len at bytes run long fits = rw (← written_form size len at bytes run) (simp (length-append, length-take, length-drop) (omega arith))

-- a run in the order, by its elements
pub reordered_part : (e : Endian) (size j : ℕ) (old new : List ℕ) → IsReordered e size old new → j * size + size ≤ length old
    → part_at size new j ≡ in_order e (part_at size old j)
reordered_part Little size j old new order fits = ap (λ b. part_at size b j) order
reordered_part Big size j old new order fits = order.reversed j fits

pub reordered_length : (e : Endian) (size : ℕ) (old new : List ℕ) → IsReordered e size old new → length new ≡ length old
reordered_length Little size old new order = ap length order
reordered_length Big size old new order = order.same_length
