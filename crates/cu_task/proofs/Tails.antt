-- What stands at the end of a memory.
use Rattle.std.proofs.Common.{◌≡◌, ℕ, ◌+◌, ◌-◌, ◌≤◌, List, ◌++◌, length, take, drop, sym, ap, ◌∙◌, arith}
use Rattle.std.proofs.Math.Seq.{drop-append_seam, drop-append-add, take-append_seam}
use Rattle.std.proofs.lemmas.List.{length-append, length-drop, drop-append-le, take-append-le}
use Rattle.cu_task.specs.Inputs.{last_bytes}

-- as many bytes as the last of two parts has are that part
pub last_part : (front back : List ℕ) (count : ℕ) → length back ≡ count → last_bytes count (front ++ back) ≡ back
last_part front back count long =
    let all = length-append front back in
    let before : length (front ++ back) - count ≡ length front = omega (arith, all, long) in
    ap (λ (n : ℕ). drop n (front ++ back)) before ∙ drop-append_seam front back

-- and fewer are among that part's
pub last_of_part : (front back : List ℕ) (count : ℕ) → count ≤ length back → last_bytes count (front ++ back) ≡ last_bytes count back
last_of_part front back count few =
    let all = length-append front back in
    let before : length (front ++ back) - count ≡ length front + (length back - count) = omega (arith, all, few) in
    ap (λ (n : ℕ). drop n (front ++ back)) before ∙ drop-append-add front back (length back - count)

-- the last of one part before another
pub last_with : (front back : List ℕ) (few count : ℕ) → length back ≡ count → few ≤ length front → last_bytes (few + count) (front ++ back) ≡ last_bytes few front ++ back
last_with front back few count long within =
    let all = length-append front back in
    let before : length (front ++ back) - (few + count) ≡ length front - few = omega (arith, all, long) in
    ap (λ (n : ℕ). drop n (front ++ back)) before ∙ drop-append-le (length front - few) front back (omega arith)

pub length-last_bytes : (count : ℕ) (bytes : List ℕ) → count ≤ length bytes → length (last_bytes count bytes) ≡ count
length-last_bytes count bytes within = let left = length-drop (length bytes - count) bytes in omega (arith, left, within)

-- what is left behind so many bytes
pub last_left : (bytes : List ℕ) (before count : ℕ) → before + count ≡ length bytes → drop before bytes ≡ last_bytes count bytes
last_left bytes before count all = let same : before ≡ length bytes - count = omega (arith, all) in ap (λ (n : ℕ). drop n bytes) same

-- the first of the last two of three parts
pub part_before_last : (front values output : List ℕ) (found made : ℕ) → length values ≡ found → length output ≡ made
    → take found (last_bytes (found + made) (front ++ (values ++ output))) ≡ values
part_before_last front values output found made short long =
    let all = length-append values output in
    ap (take found) (last_part front (values ++ output) (found + made) (omega (arith, all, short, long)))
    ∙ ap (λ (n : ℕ). take n (values ++ output)) (sym short) ∙ take-append_seam values output

-- ---- a piece of three parts

-- that lies in the first, in the one between, and in the last
pub piece_before : (pre mid : List ℕ) (from size : ℕ) → from + size ≤ length pre → take size (drop from (pre ++ mid)) ≡ take size (drop from pre)
piece_before pre mid from size within =
    ap (take size) (drop-append-le from pre mid (omega (arith, within))) ∙ take-append-le size (drop from pre) mid (rest pre from size within)
  where
    rest : (xs : List ℕ) (from size : ℕ) → from + size ≤ length xs → size ≤ length (drop from xs)
    rest xs from size within = let long = length-drop from xs in omega (arith, long, within)

pub piece_within : (pre mid post : List ℕ) (at from size : ℕ) → length pre ≡ at → from + size ≤ length mid → take size (drop (at + from) (pre ++ (mid ++ post))) ≡ take size (drop from mid)
piece_within pre mid post at from size here within =
    ap (λ (n : ℕ). take size (drop (n + from) (pre ++ (mid ++ post)))) (sym here) ∙ ap (take size) (drop-append-add pre (mid ++ post) from) ∙ piece_before mid post from size within

pub piece_behind : (pre mid post : List ℕ) (at from size : ℕ) → length pre ≡ at → at + length mid ≤ from → take size (drop from (pre ++ (mid ++ post))) ≡ take size (drop (from - (at + length mid)) post)
piece_behind pre mid post at from size here far =
    let first : from ≡ length pre + (length mid + (from - (at + length mid))) = omega (arith, here, far) in
    ap (λ (n : ℕ). take size (drop n (pre ++ (mid ++ post)))) first
    ∙ ap (take size) (drop-append-add pre (mid ++ post) (length mid + (from - (at + length mid))))
    ∙ ap (take size) (drop-append-add mid post (from - (at + length mid)))
