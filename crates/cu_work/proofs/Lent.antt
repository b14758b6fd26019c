-- What each task is lent, of the most that any is.
use Rattle.std.proofs.Common.{◌≡◌, ℕ, zero, suc, ◌+◌, ◌*◌, ◌<◌, ◌≤◌, List, [], ◌∷◌, ◌++◌, Bool, false, not, length, get_or, map, replicate, max, min, refl, ap, sym, ◌∙◌, subst, arith}
use Rattle.std.specs.List.{range_with_len}
use Rattle.std.specs.Prelude.{count_by, sum_by}
use Rattle.std.proofs.lemmas.List.{length-replicate}
use Rattle.std.proofs.lemmas.List.Elements.{All-replicate}
use Rattle.std.proofs.lemmas.List.Folds.{sum_by-replicate}
use Rattle.std.proofs.lemmas.List.Sums.{count_by-le-length, sum_by-le}
use Rattle.std.proofs.lemmas.Nat.{mul-le}
use Rattle.std.proofs.lemmas.List.FromFn.{get_or-range_with_len, length-range_with_len, map-range_with_len_more}
use Rattle.cu_op.specs.PlanView.{PlanView}
use Rattle.cu_work.specs.Rooms.{RoomSizes, task_bytes, task_words, most_of, rooms_of, buffer_bytes, AreLentWithin}
use Rattle.cu_work.specs.Shared.{most_copies, worker_count}
use Rattle.cu_work.specs.declared.options.RunOptions.{RunOptions}
use Rattle.cu_shape.specs.Counts.{largest}

one_of : (f : ℕ → ℕ) (ns : List ℕ) (i d : ℕ) → i < length ns → f (get_or ns i d) ≤ largest (map f ns)
one_of f [] i d h = absurd (omega arith)
one_of f (n ∷ ns) zero d h = omega arith
one_of f (n ∷ ns) (suc i) d h = let rest = one_of f ns i d (omega arith) in omega (arith, rest)

itself : (n k : ℕ) → k < n → get_or (range_with_len 0 n) k 0 ≡ k
itself n k h = let at = get_or-range_with_len 0 n k 0 h in omega (arith, at)

most_at : (f : ℕ → ℕ) (p : PlanView) (k : ℕ) → k < length p.ops → f k ≤ most_of f p
most_at f p k h =
    let long = length-range_with_len 0 (length p.ops) in
    subst (λ (n : ℕ). f n ≤ most_of f p) (itself (length p.ops) k h) (one_of f (range_with_len 0 (length p.ops)) k 0 (omega (arith, long, h)))

pub bytes_lent : (p : PlanView) (k n taken : ℕ) → k < length p.ops → n ≡ task_bytes p k → taken ≡ (rooms_of p).bytes → n ≤ taken
bytes_lent p k n taken h e long = let most = most_at (task_bytes p) p k h in omega (arith, most, e, long)

pub words_lent : (p : PlanView) (k n taken : ℕ) → k < length p.ops → n ≡ task_words p k → taken ≡ (rooms_of p).words → n ≤ taken
words_lent p k n taken h e long = let most = most_at (task_words p) p k h in omega (arith, most, e, long)

-- the most of the operations below k + 1
pub most_more : (f : ℕ → ℕ) (k : ℕ) → largest (map f (range_with_len 0 (k + 1))) ≡ max (f k) (largest (map f (range_with_len 0 k)))
most_more f k = ap largest (map-range_with_len_more f 0 k k (omega arith)) ∙ most_push (map f (range_with_len 0 k)) (f k)
  where
    most_push : (ns : List ℕ) (n : ℕ) → largest (ns ++ n ∷ []) ≡ max n (largest ns)
    most_push [] n = refl
    most_push (m ∷ ms) n = let e = most_push ms n in rw e (omega arith)

-- ---- the memory of several workers

largest_within : (f : ℕ → ℕ) (ns : List ℕ) (n : ℕ) → ((i : ℕ) → i < length ns → f (get_or ns i 0) ≤ n) → largest (map f ns) ≤ n
largest_within f [] n within = omega arith
largest_within f (m ∷ ms) n within =
    let one = within 0 (omega arith) in
    let rest = largest_within f ms n (λ i h. within (suc i) (omega arith)) in
    omega (arith, one, rest)

most_within : (f : ℕ → ℕ) (p : PlanView) (n : ℕ) → ((k : ℕ) → k < length p.ops → f k ≤ n) → most_of f p ≤ n
most_within f p n within =
    let long = length-range_with_len 0 (length p.ops) in
    largest_within f (range_with_len 0 (length p.ops)) n (λ i h.
    let below : i < length p.ops = omega (arith, long, h) in
    subst (λ (k : ℕ). f k ≤ n) (sym (itself (length p.ops) i below)) (within i below))

pub rooms_within : (p : PlanView) (room instructions : ℕ) → AreLentWithin p room instructions → buffer_bytes (rooms_of p) ≤ room + 512 * instructions
rooms_within p room instructions lent =
    let bytes = most_within (task_bytes p) p room (λ k h. let small = (lent k h).0 in omega (arith, small)) in
    let words = most_within (task_words p) p (64 * instructions) (λ k h. let few = (lent k h).1 in omega (arith, few)) in
    omega (arith, bytes, words)

pub all_buffers : (n : ℕ) (r : RoomSizes) (rooms : List RoomSizes) → rooms ≡ replicate n r → sum_by buffer_bytes rooms ≡ n * buffer_bytes r
all_buffers n r rooms is = ap (sum_by buffer_bytes) is ∙ sum_by-replicate buffer_bytes n r

more_rooms : (n wanted most total : ℕ) → n ≤ wanted → total ≤ n * most → total ≤ wanted * most
more_rooms n wanted most total few small = let wide = mul-le n most wanted most few (omega arith) in omega (arith, small, wide)

pub all_within : (n wanted most : ℕ) (r : RoomSizes) (rooms : List RoomSizes) → rooms ≡ replicate n r → n ≤ wanted → buffer_bytes r ≤ most
    → sum_by buffer_bytes rooms ≤ wanted * most
all_within n wanted most r rooms is few small =
    more_rooms n wanted most (sum_by buffer_bytes rooms) few
    (subst (λ (rs : List RoomSizes). sum_by buffer_bytes rs ≤ n * most) (sym is)
    (subst (λ (k : ℕ). sum_by buffer_bytes (replicate n r) ≤ k * most) (length-replicate n r)
    (sum_by-le buffer_bytes most (replicate n r) (All-replicate (λ (x : RoomSizes). buffer_bytes x ≤ most) n r small))))

-- ---- how many workers there are

pub rooms_many : (n len : ℕ) (r : RoomSizes) (rooms : List RoomSizes) → len ≡ length rooms → rooms ≡ replicate n r → len ≡ n
rooms_many n len r rooms is made = is ∙ ap length made ∙ length-replicate n r

pub some_workers : (wanted copies len : ℕ) → 0 < wanted → len ≡ min wanted (max 1 copies) → 0 < len
some_workers wanted copies len some is = omega (arith, some, is)

pub few_workers : (wanted copies len : ℕ) → len ≡ min wanted (max 1 copies) → len ≤ wanted
few_workers wanted copies len is = omega (arith, is)

-- no more than tasks, without second copies
pub one_each : (o : RunOptions) (done : List Bool) (len : ℕ) → o.backups ≡ false → len ≡ worker_count o done → len ≤ max 1 (length done)
one_each o done len off is =
    let few = count_by-le-length not done in
    let once : most_copies o.backups done ≡ count_by not done * 1 = ap (λ (b : Bool). most_copies b done) off in
    omega (arith, few, is, once)
