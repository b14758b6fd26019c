-- The first lowest rank, by blocks.
use Rattle.std.proofs.Common.{◌≡◌, ◌≢◌, ℕ, ◌+◌, ◌-◌, ◌^◌, ◌<◌, ◌≤◌, true, false, List, length, take, drop, get_or, ap, sym, ◌∙◌, arith, ℤ, pos, ⊎_elim}
use Rattle.std.specs.Prelude.{Bool as Test, ◌+ℤ◌}
use Rattle.std.proofs.lemmas.Int.{ints}
use Rattle.std.proofs.lemmas.Bool.{cases_lt}
use Rattle.cu_num.specs.Word.{IsWord}
use Rattle.cu_num.specs.declared.types.Dtype.{Dtype}
use Rattle.cu_lane.specs.Compared.{bias_of, key, rank}
use Rattle.cu_lane.specs.Folds.{IsAsGood, IsBetter, IsFirstPlace, IsLowest, IsFirstLowest}
use Rattle.cu_lane.proofs.Blocks.{lane}
use Rattle.cu_lane.proofs.Ordered.{key_is}

-- after the first `seen` ranks: r is one of those from `start` on, none of the seen is lower, and those before `start` are higher
pub record IsLeading (ranks : ℕ → ℕ) (count seen start r : ℕ) : Type 0 where
  pub number : ℕ
  pub after : start ≤ number
  pub inside : number < count
  pub is : ranks number ≡ r
  pub lowest : (k : ℕ) → k < seen → r ≤ ranks k
  pub before : (k : ℕ) → k < start → r < ranks k

pub leading_none : (ranks : ℕ → ℕ) (count r : ℕ) → 0 < count → r ≡ ranks 0 → IsLeading ranks count 0 0 r
leading_none ranks count r some e = record {
  number = 0;
  after = omega arith;
  inside = some;
  is = sym e;
  lowest = λ k b. absurd (omega arith);
  before = λ k b. absurd (omega arith);
}

-- a block of ranks that stand in the whole from `from` on
pub leading_more : (ranks part : ℕ → ℕ) (count from n start r value : ℕ) → IsLeading ranks count from start r → IsLowest part n value → ((j : ℕ) → j < n → part j ≡ ranks (from + j)) → from + n ≤ count → value < r
    → IsLeading ranks count (from + n) from value
leading_more ranks part count from n start r value led own at room less =
    let inside = own.inside in
    record {
      number = from + own.number;
      after = omega arith;
      inside = omega arith;
      is = sym (at own.number inside) ∙ own.is;
      lowest = λ k b. ⊎_elim
          (λ old. let h = led.lowest k old in omega arith)
          (λ new.
          let j = k - from in
          let h = own.lowest j (omega arith) in
          let e : part j ≡ ranks k = at j (omega arith) ∙ ap ranks (omega arith) in
          omega arith)
          (cases_lt k from);
      before = λ k b. let h = led.lowest k b in omega arith;
    }

pub leading_kept : (ranks part : ℕ → ℕ) (count from n start r value : ℕ) → IsLeading ranks count from start r → IsLowest part n value → ((j : ℕ) → j < n → part j ≡ ranks (from + j)) → r ≤ value
    → IsLeading ranks count (from + n) start r
leading_kept ranks part count from n start r value led own at more = record {
  number = led.number;
  after = led.after;
  inside = led.inside;
  is = led.is;
  lowest = λ k b. ⊎_elim
      (λ old. led.lowest k old)
      (λ new.
      let j = k - from in
      let h = own.lowest j (omega arith) in
      let e : part j ≡ ranks k = at j (omega arith) ∙ ap ranks (omega arith) in
      omega arith)
      (cases_lt k from);
  before = led.before;
}

-- the first place from `start` on that has the lowest rank
pub first_found : (ranks rest : ℕ → ℕ) (count start r q : ℕ) → IsLeading ranks count count start r → ((j : ℕ) → start + j < count → rest j ≡ ranks (start + j))
    → ((j : ℕ) → j < q → rest j ≢ r) → (start + q < count → rest q ≡ r) → IsFirstLowest ranks count (start + q)
first_found ranks rest count start r q led at before found =
    let inside = led.inside in
    let after = led.after in
    let near : start + q < count = ⊎_elim
    (λ less.
    let j = led.number - start in
    let e : rest j ≡ r = at j (omega arith) ∙ ap ranks (omega arith) ∙ led.is in
    absurd (before j (omega arith) e))
    (λ more. omega arith)
    (cases_lt led.number (start + q)) in
    let own : ranks (start + q) ≡ r = sym (at q near) ∙ found near in
    record {
      inside = near;
      lowest = λ k b. let h = led.lowest k b in omega arith;
      first = λ k b. ⊎_elim
          (λ old. let h = led.before k old in omega arith)
          (λ new.
          let j = k - start in
          let e : rest j ≡ ranks k = at j (omega arith) ∙ ap ranks (omega arith) in
          let apart = before j (omega arith) in
          let h = led.lowest k (omega arith) in
          let other : ranks k ≢ r = λ same. apart (e ∙ same) in
          omega (arith, other))
          (cases_lt k start);
    }

-- ranks of words are in the order of the numbers

key_small : (b w : ℕ) → key b w < 2 ^ 64
key_small b w = omega arith

as_good : (least : Test) (b v w : ℕ) (x y : ℤ) → pos (key b v) ≡ x +ℤ pos b → pos (key b w) ≡ y +ℤ pos b → rank least b v ≤ rank least b w → IsAsGood least x y
as_good true b v w x y e f h = omega (arith, ints)
as_good false b v w x y e f h = let p = key_small b v in let q = key_small b w in omega (arith, ints)

better : (least : Test) (b v w : ℕ) (x y : ℤ) → pos (key b v) ≡ x +ℤ pos b → pos (key b w) ≡ y +ℤ pos b → rank least b v < rank least b w → IsBetter least x y
better true b v w x y e f h = omega (arith, ints)
better false b v w x y e f h = let p = key_small b v in let q = key_small b w in omega (arith, ints)

pub first_best : (t : Dtype) (least : Test) (ws : List ℕ) (p : ℕ) (xs : ℕ → ℤ) → IsFirstLowest (λ k. rank least (bias_of t) (get_or ws k 0)) (length ws) p
    → ((k : ℕ) → k < length ws → IsWord t (get_or ws k 0) (xs k)) → IsFirstPlace least xs (length ws) p
first_best t least ws p xs low words =
    let is = λ (k : ℕ) (b : k < length ws). key_is t (get_or ws k 0) (xs k) (words k b) in
    let inside = low.inside in
    record {
      inside = inside;
      best = λ k b. as_good least (bias_of t) (get_or ws p 0) (get_or ws k 0) (xs p) (xs k) (is p inside) (is k b) (low.lowest k b);
      first = λ k b. let c : k < length ws = omega arith in better least (bias_of t) (get_or ws p 0) (get_or ws k 0) (xs p) (xs k) (is p inside) (is k c) (low.first k b);
    }

-- ranks of a part
pub part_rank : (least : Test) (b : ℕ) (xs : List ℕ) (from n j : ℕ) → j < n → rank least b (get_or (take n (drop from xs)) j 0) ≡ rank least b (get_or xs (from + j) 0)
part_rank least b xs from n j h = ap (rank least b) (lane xs from n j h)
