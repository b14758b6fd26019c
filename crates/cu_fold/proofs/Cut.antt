-- Places cut where indices begin: those in the first index, whole indices, and those in the last.
use Rattle.std.proofs.Common.{◌≡◌, ◌≢◌, ℕ, suc, ◌+◌, ◌-◌, ◌*◌, ◌/◌, ◌%◌, ◌<◌, ◌≤◌, List, min, drop, length, length-drop, sym, subst, arith, mul-le-mul_right}
use Rattle.std.proofs.lemmas.Nat.{div-add-mod', mod_below}
use Rattle.cu_num.specs.Dtype.{size_of}
use Rattle.cu_fold.specs.declared.levels.Level.{Level}
use Rattle.cu_fold.specs.declared.types.Fold.{Fold}
use Rattle.cu_fold.specs.declared.types.Places.{Places}
use Rattle.cu_fold.specs.Taken.{TakesPart}
use Rattle.cu_fold.proofs.PartTaken.{index_below}
use Rattle.cu_fold.proofs.Wholes.{parts_follow}

-- the first whole index and how many there are, of `count` places from `start` on, n an index
pub record IsCut (start count n first whole : ℕ) : Type 0 where
  pub begun : start ≤ first * n
  pub next : first * n < start + n
  pub reached : first * n ≤ start + count → (first + whole) * n ≤ start + count
  pub all : start + count < (first + whole) * n + n

abbrev pub head : ℕ → ℕ → ℕ → ℕ → ℕ
head start count n first = min count (first * n - start)

pub head_fits : (start count n first whole : ℕ) → 0 < n → IsCut start count n first whole → start % n + head start count n first ≤ n
head_fits start count n first whole some h =
    let next = h.next in
    let split = div-add-mod' start n in
    let below = mod_below start n some in
    let turn : (start / n + 2) * n ≡ start / n * n + 2 * n = omega arith in
    let less : first < start / n + 2 = index_below first (start / n + 2) n (omega (arith, next, split, below, turn)) in
    let far : first * n ≤ (start / n + 1) * n = mul-le-mul_right n (omega arith) in
    let again : (start / n + 1) * n ≡ start / n * n + n = omega arith in
    omega (arith, far, again, split)

pub first_fits : (start count n first whole most : ℕ) → 0 < n → start + count ≤ most * n → IsCut start count n first whole → first * n ≤ most * n
first_fits start count n first whole most some fits h =
    let next = h.next in
    let turn : suc most * n ≡ most * n + n = omega arith in
    let less : first < suc most = index_below first (suc most) n (omega (arith, next, fits, turn)) in
    mul-le-mul_right n (omega arith)

-- what is left behind the head
pub record IsRest (start count n first whole most : ℕ) : Type 0 where
  pub at : start + head start count n first ≡ first * n
  pub past : (first + whole) * n ≡ start + (head start count n first + whole * n)
  pub enough : head start count n first + whole * n ≤ count
  pub tail : count - (head start count n first + whole * n) ≤ n
  pub end : first + whole ≤ most
  pub fits : (first + whole) * n ≤ most * n

pub rest_is : (start count n first whole most : ℕ) → 0 < n → start + count ≤ most * n → IsCut start count n first whole → head start count n first ≢ count → IsRest start count n first whole most
rest_is start count n first whole most some fits h more =
    let begun = h.begun in
    let all = h.all in
    let turn : (first + whole) * n ≡ first * n + whole * n = omega arith in
    let reach = h.reached (omega (arith, more)) in
    let upper : suc most * n ≡ most * n + n = omega arith in
    let less : first + whole < suc most = index_below (first + whole) (suc most) n (omega (arith, reach, fits, upper)) in
    record {
      at = omega (arith, begun, more);
      past = omega (arith, begun, more, turn);
      enough = omega (arith, begun, more, turn, reach);
      tail = omega (arith, begun, more, turn, all);
      end = omega (arith, less);
      fits = omega (arith, reach, fits);
    }

pub elements_left : (input : List ℕ) (s skip taken count from : ℕ) → from ≡ skip * s → skip + taken ≤ count → count * s ≤ length input → taken * s ≤ length (drop from input)
elements_left input s skip taken count from is fits enough =
    let far : (skip + taken) * s ≤ count * s = mul-le-mul_right s fits in
    let turn : (skip + taken) * s ≡ skip * s + taken * s = omega arith in
    omega (arith, far, turn, is, enough, length-drop from input)

-- head, whole indices and tail taken one after another
pub cut_taken : (fold : Fold) (levels : List Level) (places : Places) (n first whole most : ℕ) (input after late old mid more new : List ℕ)
    → IsRest places.start places.count n first whole most
    → after ≡ drop (head places.start places.count n first * size_of fold.from) input
    → late ≡ drop ((head places.start places.count n first + whole * n) * size_of fold.from) input
    → TakesPart fold levels (record { start = places.start; count = head places.start places.count n first }) input old mid
    → TakesPart fold levels (record { start = first * n; count = whole * n }) after mid more
    → TakesPart fold levels (record { start = (first + whole) * n; count = places.count - (head places.start places.count n first + whole * n) }) late more new
    → TakesPart fold levels places input old new
cut_taken fold levels places n first whole most input after late old mid more new h is later one two three =
    let a = head places.start places.count n first in
    let b = a + whole * n in
    let c = places.count - b in
    let enough = h.enough in
    let all : b + c ≡ places.count = omega (arith, enough) in
    subst (λ k. TakesPart fold levels (record { start = places.start; count = k }) input old new) all
    (parts_follow fold levels places.start b c ((first + whole) * n) input late old more new h.past later
    (parts_follow fold levels places.start a (whole * n) (first * n) input after old mid more (sym h.at) is one two) three)
