-- The sizes of arrays of partial results.
use Rattle.std.proofs.Common.{◌≡◌, ℕ, zero, suc, ◌+◌, ◌*◌, ◌/◌, ◌%◌, ◌<◌, ◌≤◌, Bool, true, false, IsTrue, if◌then◌else◌, List, [], ◌∷◌, ◌++◌, length, get_or, All, max, refl, ap, sym, ◌∙◌, subst, arith}
use Rattle.std.specs.Int.{div_ceil}
use Rattle.std.proofs.Math.Nat.{div-one}
use Rattle.std.proofs.lemmas.Nat.{mul-le}
use Rattle.cu_num.specs.Dtype.{size_of}
use Rattle.cu_num.specs.declared.types.Dtype.{Dtype}
use Rattle.cu_num.specs.declared.types.Dtype.TheVariants as types
use Rattle.cu_shape.specs.Counts.{counts_of, at_least_one}
use Rattle.cu_shape.specs.Index.{product}
use Rattle.cu_shape.proofs.Axes.{length-axis_by_axis, get_or-axis_by_axis}
use Rattle.cu_shape.proofs.Products.{size_within}
use Rattle.cu_shape.proofs.Rounded.{counts_below, within_counts, before_end}
use Rattle.cu_reduce.specs.Groups.{groups_from, group_counts}
use Rattle.cu_origin.specs.Pull.{has_axis}
use Rattle.cu_origin.specs.declared.axes.Axes.{Axes}
use Rattle.cu_node.specs.Info.{IsInfo}
use Rattle.cu_node.specs.declared.info.NodeInfo.{NodeInfo}
use Rattle.cu_tree.specs.Partials.{partial_size, partial_chunk_from}

-- ---- quotients rounded up

pub over_one : (n : ℕ) → div_ceil n 1 ≡ n
over_one n = let m : n % 1 ≡ 0 = omega arith in let d : n / 1 ≡ n = div-one n in rw (m, d) (omega arith)

pub some_over : (n c : ℕ) → 0 < c → 0 < n → 0 < div_ceil n c
some_over n c h k = within_counts n c 0 h (omega arith)

pub div_ceil_least : (n m c : ℕ) → 0 < c → n ≤ m → div_ceil n c ≤ div_ceil m c
div_ceil_least n m c h le = by_end n m c (div_ceil n c) refl h le
  where
    by_end : (n m c d : ℕ) → div_ceil n c ≡ d → 0 < c → n ≤ m → d ≤ div_ceil m c
    by_end n m c zero e h le = omega arith
    by_end n m c (suc d) e h le =
        let b : d * c < n = before_end n c d h (omega arith) in
        let i : d < div_ceil m c = within_counts m c d h (omega arith) in
        omega arith

pub size_positive : (t : Dtype) → 0 < size_of t
size_positive types.Bool = omega arith
size_positive types.Int8 = omega arith
size_positive types.Int16 = omega arith
size_positive types.Int32 = omega arith
size_positive types.Int64 = omega arith
size_positive types.Uint8 = omega arith
size_positive types.Uint16 = omega arith
size_positive types.Uint32 = omega arith
size_positive types.Uint64 = omega arith

-- ---- lists

pub at_least_one-append : (xs : List ℕ) (y : ℕ) → product (at_least_one (xs ++ y ∷ [])) ≡ product (at_least_one xs) * max 1 y
at_least_one-append [] y = omega arith
at_least_one-append (x ∷ xs) y = let e = at_least_one-append xs y in rw e (omega arith)

pub product-append : (xs : List ℕ) (y : ℕ) → product (xs ++ y ∷ []) ≡ product xs * y
product-append [] y = omega arith
product-append (x ∷ xs) y = let e = product-append xs y in rw e (omega arith)

pub counts_of-append : (ns cs : List ℕ) (n c : ℕ) → length cs ≡ length ns → counts_of (ns ++ n ∷ []) (cs ++ c ∷ []) ≡ counts_of ns cs ++ div_ceil n c ∷ []
counts_of-append [] [] n c e = refl
counts_of-append [] (d ∷ cs) n c e = absurd (omega arith)
counts_of-append (m ∷ ns) [] n c e = absurd (omega arith)
counts_of-append (m ∷ ns) (d ∷ cs) n c e = ap (λ (ks : List ℕ). div_ceil m d ∷ ks) (counts_of-append ns cs n c (omega arith))

-- ---- how many chunks an axis has

pub count_at : (ns cs : List ℕ) (k : ℕ) → length cs ≡ length ns → k < length ns → div_ceil (get_or ns k 0) (get_or cs k 0) ≤ product (at_least_one (counts_of ns cs))
count_at ns cs k e h =
    let l = length-axis_by_axis div_ceil ns cs (sym e) in
    let g = get_or-axis_by_axis div_ceil ns cs k h (omega arith) in
    let w = size_within (counts_of ns cs) k (omega arith) in
    omega (arith, g, w)

pub count_few : (i : NodeInfo) (k : ℕ) → IsInfo i → k < length i.dims → div_ceil (get_or i.dims k 0) (get_or i.chunk k 0) ≤ 65536
count_few i k kept h =
    let f = kept.chunks in
    let w = count_at i.dims i.chunk k kept.ranks h in
    omega (arith, w, f)

-- ---- the first array

pub dims_from : (axes : Axes) (first : ℕ) (r ns cs : List ℕ) → length r ≡ length ns → length cs ≡ length ns
    → ((k : ℕ) → k < length ns → get_or r k 0 ≡ partial_size axes (first + k) (get_or ns k 0) (get_or cs k 0)) → r ≡ group_counts (groups_from (has_axis axes) first cs) ns
dims_from axes first [] [] [] a b h = refl
dims_from axes first [] [] (c ∷ cs) a b h = absurd (omega arith)
dims_from axes first [] (n ∷ ns) cs a b h = absurd (omega arith)
dims_from axes first (x ∷ r) [] cs a b h = absurd (omega arith)
dims_from axes first (x ∷ r) (n ∷ ns) [] a b h = absurd (omega arith)
dims_from axes first (x ∷ r) (n ∷ ns) (c ∷ cs) a b h =
    let here : x ≡ partial_size axes (first + 0) n c = h 0 (omega arith) in
    let rest = dims_from axes (first + 1) r ns cs (omega arith) (omega arith) (λ k l. next axes first k (get_or r k 0) (get_or ns k 0) (get_or cs k 0) (h (suc k) (omega arith))) in
    by_axis axes first x n c r ns cs (has_axis axes first) refl (here ∙ ap (λ (d : ℕ). partial_size axes d n c) (omega arith)) rest
  where
    next : (axes : Axes) (first k x n c : ℕ) → x ≡ partial_size axes (first + suc k) n c → x ≡ partial_size axes (first + 1 + k) n c
    next axes first k x n c e = let s : first + suc k ≡ first + 1 + k = omega arith in rw (← s) e

    by_axis : (axes : Axes) (first x n c : ℕ) (r ns cs : List ℕ) (b : Bool) → has_axis axes first ≡ b → x ≡ partial_size axes first n c
        → r ≡ group_counts (groups_from (has_axis axes) (first + 1) cs) ns → x ∷ r ≡ group_counts (groups_from (has_axis axes) first (c ∷ cs)) (n ∷ ns)
    by_axis axes first x n c r ns cs true e here rest = let w = rw e at here in rw (e, w, rest)
    by_axis axes first x n c r ns cs false e here rest = let w = rw e at here in rw (e, w, rest)

pub chunk_from : (axes : Axes) (first : ℕ) (r cs : List ℕ) → length r ≡ length cs
    → ((k : ℕ) → k < length cs → get_or r k 0 ≡ (if has_axis axes (first + k) then 1 else get_or cs k 0)) → r ≡ partial_chunk_from axes first cs
chunk_from axes first [] [] a h = refl
chunk_from axes first [] (c ∷ cs) a h = absurd (omega arith)
chunk_from axes first (x ∷ r) [] a h = absurd (omega arith)
chunk_from axes first (x ∷ r) (c ∷ cs) a h =
    let here : x ≡ (if has_axis axes (first + 0) then 1 else c) = h 0 (omega arith) in
    let z : first + 0 ≡ first = omega arith in
    let w = rw z at here in
    rw w (ap (λ (ks : List ℕ). (if has_axis axes first then 1 else c) ∷ ks) (chunk_from axes (first + 1) r cs (omega arith) (λ k l. next axes first k (get_or r k 0) (get_or cs k 0) (h (suc k) (omega arith)))))
  where
    next : (axes : Axes) (first k x c : ℕ) → x ≡ (if has_axis axes (first + suc k) then 1 else c) → x ≡ (if has_axis axes (first + 1 + k) then 1 else c)
    next axes first k x c e = let s : first + suc k ≡ first + 1 + k = omega arith in rw (← s) e

pub length-dims : (p : ℕ → Bool) (first : ℕ) (ns cs : List ℕ) → length cs ≡ length ns → length (group_counts (groups_from p first cs) ns) ≡ length ns
length-dims p first [] [] e = refl
length-dims p first [] (c ∷ cs) e = absurd (omega arith)
length-dims p first (n ∷ ns) [] e = absurd (omega arith)
length-dims p first (n ∷ ns) (c ∷ cs) e = by_test p first n c ns cs (p first) refl (length-dims p (first + 1) ns cs (omega arith))
  where
    by_test : (p : ℕ → Bool) (first n c : ℕ) (ns cs : List ℕ) (b : Bool) → p first ≡ b → length (group_counts (groups_from p (first + 1) cs) ns) ≡ length ns
        → length (group_counts (groups_from p first (c ∷ cs)) (n ∷ ns)) ≡ length (n ∷ ns)
    by_test p first n c ns cs true t e = rw t (omega arith)
    by_test p first n c ns cs false t e = rw t (omega arith)

pub length-chunk : (axes : Axes) (first : ℕ) (cs : List ℕ) → length (partial_chunk_from axes first cs) ≡ length cs
length-chunk axes first [] = refl
length-chunk axes first (c ∷ cs) = let e = length-chunk axes (first + 1) cs in omega arith

pub chunk_positive : (axes : Axes) (first : ℕ) (cs : List ℕ) → All (λ c. 0 < c) cs → All (λ c. 0 < c) (partial_chunk_from axes first cs)
chunk_positive axes first [] h k d l = absurd (omega arith)
chunk_positive axes first (c ∷ cs) h zero d l = by_axis (has_axis axes first) (h 0 0 (omega arith))
  where
    by_axis : (b : Bool) → 0 < c → 0 < (if b then 1 else c)
    by_axis true p = omega arith
    by_axis false p = p
chunk_positive axes first (c ∷ cs) h (suc k) d l = chunk_positive axes (first + 1) cs (λ j e b. h (suc j) e (omega arith)) k d (omega arith)

-- the size on a reduced axis
pub size_at : (axes : Axes) (first : ℕ) (ns cs : List ℕ) (k : ℕ) → length cs ≡ length ns → k < length ns → IsTrue (has_axis axes (first + k))
    → get_or (group_counts (groups_from (has_axis axes) first cs) ns) k 0 ≡ max 1 (get_or (counts_of ns cs) k 0)
size_at axes first [] cs k e l t = absurd (omega arith)
size_at axes first (n ∷ ns) [] k e l t = absurd (omega arith)
size_at axes first (n ∷ ns) (c ∷ cs) zero e l t = let z : first + 0 ≡ first = omega arith in let w : has_axis axes first ≡ true = subst (λ (d : ℕ). IsTrue (has_axis axes d)) z t in rw w
size_at axes first (n ∷ ns) (c ∷ cs) (suc k) e l t =
    let s : first + suc k ≡ first + 1 + k = omega arith in
    by_axis axes first n c k ns cs (has_axis axes first) refl (size_at axes (first + 1) ns cs k (omega arith) (omega arith) (subst (λ (d : ℕ). IsTrue (has_axis axes d)) s t))
  where
    by_axis : (axes : Axes) (first n c k : ℕ) (ns cs : List ℕ) (b : Bool) → has_axis axes first ≡ b
        → get_or (group_counts (groups_from (has_axis axes) (first + 1) cs) ns) k 0 ≡ max 1 (get_or (counts_of ns cs) k 0)
        → get_or (group_counts (groups_from (has_axis axes) first (c ∷ cs)) (n ∷ ns)) (suc k) 0 ≡ max 1 (get_or (counts_of (n ∷ ns) (c ∷ cs)) (suc k) 0)
    by_axis axes first n c k ns cs true h e = rw h e
    by_axis axes first n c k ns cs false h e = rw h e

-- there are no more of them than elements
pub dims_within : (p : ℕ → Bool) (first : ℕ) (ns cs : List ℕ) → length cs ≡ length ns → All (λ c. 0 < c) cs → product (at_least_one (group_counts (groups_from p first cs) ns)) ≤ product (at_least_one ns)
dims_within p first [] [] e h = omega arith
dims_within p first [] (c ∷ cs) e h = absurd (omega arith)
dims_within p first (n ∷ ns) [] e h = absurd (omega arith)
dims_within p first (n ∷ ns) (c ∷ cs) e h =
    by_test p first n c ns cs (p first) refl (h 0 0 (omega arith)) (dims_within p (first + 1) ns cs (omega arith) (λ k d l. h (suc k) d (omega arith)))
  where
    by_test : (p : ℕ → Bool) (first n c : ℕ) (ns cs : List ℕ) (b : Bool) → p first ≡ b → 0 < c
        → product (at_least_one (group_counts (groups_from p (first + 1) cs) ns)) ≤ product (at_least_one ns)
        → product (at_least_one (group_counts (groups_from p first (c ∷ cs)) (n ∷ ns))) ≤ product (at_least_one (n ∷ ns))
    by_test p first n c ns cs true t h e =
        let b = counts_below n c h in
        rw t (mul-le (max 1 (max 1 (div_ceil n c))) (product (at_least_one (group_counts (groups_from p (first + 1) cs) ns))) (max 1 n) (product (at_least_one ns)) (omega arith) e)
    by_test p first n c ns cs false t h e =
        rw t (mul-le (max 1 n) (product (at_least_one (group_counts (groups_from p (first + 1) cs) ns))) (max 1 n) (product (at_least_one ns)) (omega arith) e)

-- as many chunks as the source has
pub chunks_same : (axes : Axes) (first : ℕ) (ns cs : List ℕ) → length cs ≡ length ns
    → at_least_one (counts_of (group_counts (groups_from (has_axis axes) first cs) ns) (partial_chunk_from axes first cs)) ≡ at_least_one (counts_of ns cs)
chunks_same axes first [] [] e = refl
chunks_same axes first [] (c ∷ cs) e = absurd (omega arith)
chunks_same axes first (n ∷ ns) [] e = absurd (omega arith)
chunks_same axes first (n ∷ ns) (c ∷ cs) e = by_axis axes first n c ns cs (has_axis axes first) refl (chunks_same axes (first + 1) ns cs (omega arith))
  where
    by_axis : (axes : Axes) (first n c : ℕ) (ns cs : List ℕ) (b : Bool) → has_axis axes first ≡ b
        → at_least_one (counts_of (group_counts (groups_from (has_axis axes) (first + 1) cs) ns) (partial_chunk_from axes (first + 1) cs)) ≡ at_least_one (counts_of ns cs)
        → at_least_one (counts_of (group_counts (groups_from (has_axis axes) first (c ∷ cs)) (n ∷ ns)) (partial_chunk_from axes first (c ∷ cs))) ≡ at_least_one (counts_of (n ∷ ns) (c ∷ cs))
    by_axis axes first n c ns cs true h e =
        let o = over_one (max 1 (div_ceil n c)) in
        let m : max 1 (max 1 (div_ceil n c)) ≡ max 1 (div_ceil n c) = omega arith in
        rw (h, o, m, e)
    by_axis axes first n c ns cs false h e = rw (h, e)
