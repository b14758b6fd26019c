-- A block of lanes written into a slice.
use Rattle.std.proofs.Common.{◌≡◌, ℕ, ◌+◌, ◌-◌, ◌*◌, ◌<◌, ◌≤◌, List, length, ◌++◌, take, drop, get_or, ap, sym, ◌∙◌, arith, length-append, length-take-le, length-take, length-drop, ⊎_elim}
use Rattle.std.proofs.lemmas.List.{get_or-take, get_or-drop, get_or_append_left, get_or-append_right}
use Rattle.std.proofs.lemmas.Bool.{cases_lt}
use Rattle.std.proofs.lemmas.Simd.{put_chunk_whole, get_or-zip2, length-zip2}
use Rattle.std.specs.Simd.Lanes.{put_chunk, zip2, chunk}
use Rattle.std.proofs.lemmas.List.{take_all}
use borrow.Rule.Slice.PartMut.{put_mid, post_of}

length-put_mid : (a n : ℕ) (xs ys : List ℕ) → length ys ≡ n → a + n ≤ length xs → length (put_mid a n xs ys) ≡ length xs
length-put_mid a n xs ys e h = simp (length-append, length-take, length-drop) (omega arith)

below : (a n : ℕ) (xs ys : List ℕ) (k : ℕ) → k < a → a ≤ length xs → get_or (put_mid a n xs ys) k 0 ≡ get_or xs k 0
below a n xs ys k less h = get_or_append_left (take a xs) (ys ++ post_of a n xs) 0 k (let l = length-take-le a xs h in omega arith) ∙ get_or-take a xs k 0 less

inside : (a n : ℕ) (xs ys : List ℕ) (k j : ℕ) → k ≡ a + j → j < length ys → a ≤ length xs → get_or (put_mid a n xs ys) k 0 ≡ get_or ys j 0
inside a n xs ys k j e b h =
    get_or-append_right (take a xs) (ys ++ post_of a n xs) a k 0 (length-take-le a xs h) (omega arith)
    ∙ ap (λ i. get_or (ys ++ post_of a n xs) i 0) (let z : k - a ≡ j = omega arith in z) ∙ get_or_append_left ys (post_of a n xs) 0 j b

-- eight lanes of a slice
pub lane : (xs : List ℕ) (from n j : ℕ) → j < n → get_or (take n (drop from xs)) j 0 ≡ get_or xs (from + j) 0
lane xs from n j b = get_or-take n (drop from xs) j 0 b ∙ get_or-drop from xs j 0

pub length_part : (xs : List ℕ) (from n : ℕ) → from + n ≤ length xs → length (take n (drop from xs)) ≡ n
length_part xs from n h = simp (length-take, length-drop) (omega arith)

-- all lanes of a slice's part are those of the slice
pub all_of_part : (xs : List ℕ) (from n : ℕ) → n ≡ 8 → from + 8 ≤ length xs → chunk 0 8 (take n (drop from xs)) ≡ chunk from 8 xs
all_of_part xs from n e room =
    take_all 8 (take n (drop from xs)) (let long = length_part xs from n (omega arith) in omega arith)
    ∙ ap (λ m. take m (drop from xs)) e

-- one block more
module _ (xs ys out new s : List ℕ) (at n : ℕ) (f : ℕ → ℕ → ℕ) (eight : n ≡ 8) (longx : length xs ≡ length out) (longy : length ys ≡ length out) (room : at * 8 + n ≤ length out)
    (read : s ≡ zip2 f (chunk 0 8 (take n (drop (at * 8) xs))) (chunk 0 8 (take n (drop (at * 8) ys)))) (is : new ≡ put_mid (at * 8) n out (put_chunk 0 (take n (drop (at * 8) out)) s)) where
  all_eight : (zs : List ℕ) → length zs ≡ n → chunk 0 8 zs ≡ zs
  all_eight zs e = take_all 8 zs (omega arith)

  are : s ≡ zip2 f (take n (drop (at * 8) xs)) (take n (drop (at * 8) ys))
  are = read ∙ (λ i. zip2 f (all_eight (take n (drop (at * 8) xs)) (length_part xs (at * 8) n (omega arith)) i) (all_eight (take n (drop (at * 8) ys)) (length_part ys (at * 8) n (omega arith)) i))

  width : length s ≡ n
  width = ap length are ∙ length-zip2 f (take n (drop (at * 8) xs)) (take n (drop (at * 8) ys)) (length_part xs (at * 8) n (omega arith) ∙ sym (length_part ys (at * 8) n (omega arith))) ∙ length_part xs (at * 8) n (omega arith)

  same : new ≡ put_mid (at * 8) n out s
  same = is ∙ ap (put_mid (at * 8) n out) (put_chunk_whole (take n (drop (at * 8) out)) s (length_part out (at * 8) n room ∙ sym width))

  pub long : length new ≡ length out
  long = ap length same ∙ length-put_mid (at * 8) n out s width room

  pub more : ((k : ℕ) → k < 8 * at → get_or out k 0 ≡ f (get_or xs k 0) (get_or ys k 0)) → (k : ℕ) → k < 8 * (at + 1) → get_or new k 0 ≡ f (get_or xs k 0) (get_or ys k 0)
  more done k b = ap (λ l. get_or l k 0) same ∙ ⊎_elim
      (λ less. below (at * 8) n out s k (omega arith) (omega arith) ∙ done k less)
      (λ far.
      let j = k - at * 8 in
      let e : k ≡ at * 8 + j = omega arith in
      let small : j < n = omega arith in
      let w = width in
      inside (at * 8) n out s k j e (omega arith) (omega arith) ∙ ap (λ l. get_or l j 0) are
      ∙ get_or-zip2 f (take n (drop (at * 8) xs)) (take n (drop (at * 8) ys)) j 0 0 0 (let l = length_part xs (at * 8) n (omega arith) in omega arith) (let l = length_part ys (at * 8) n (omega arith) in omega arith)
      ∙ (λ i. f ((lane xs (at * 8) n j small ∙ ap (λ m. get_or xs m 0) (sym e)) i) ((lane ys (at * 8) n j small ∙ ap (λ m. get_or ys m 0) (sym e)) i)))
      (cases_lt k (8 * at))
