-- Regions that are one chunk of a grid on each axis.
use Rattle.std.proofs.Common.{◌≡◌, ◌≢◌, ◌⊎◌, inl, inr, ℕ, zero, suc, ◌<◌, ◌≤◌, ◌+◌, ◌-◌, ◌*◌, ◌/◌, ◌==◌, min, List, [], ◌∷◌, ◌++◌, length, take, drop, All, get_or, refl, ap, sym, ◌∙◌, subst, arith, if◌then◌else◌}
use Rattle.std.proofs.lemmas.Bool.Decides.{eqb_tells}
use Rattle.std.proofs.lemmas.Nat.{div-mul-add, mul-le}
use Rattle.std.proofs.lemmas.List.Elements.{All-head, All-tail}
use Rattle.cu_shape.specs.Index.{product, axis_by_axis, differences, quotients}
use Rattle.cu_grid.specs.Counts.{chunk_lo, chunk_hi, IsWithin}
use Rattle.cu_grid.specs.Grid.{RegularGrid}
use Rattle.cu_op.specs.Aligned.{IsAlignedAlong, IsAligned}
use Rattle.cu_op.specs.Broadcast.{back_as}

-- on an axis of size n in chunks of c
pub record IsSpanOn (n c l h : ℕ) : Type 0 where
  pub number : ℕ
  pub starts : l ≡ number * c
  pub ends : h ≡ min n ((number + 1) * c)

abbrev pub IsSpan : List ℕ → List ℕ → List ℕ → List ℕ → Type 0
IsSpan [] [] [] [] = Unit {0}
IsSpan (n ∷ ns) (c ∷ cs) (l ∷ ls) (h ∷ hs) = IsSpanOn n c l h × IsSpan ns cs ls hs
IsSpan ns cs ls hs = ⊥

pub chunk_span : (ns cs is : List ℕ) → length cs ≡ length ns → length is ≡ length ns → IsSpan ns cs (chunk_lo cs is) (chunk_hi ns cs is)
chunk_span [] [] [] e f = tt
chunk_span (n ∷ ns) (c ∷ cs) (i ∷ is) e f = (record { number = i; starts = refl; ends = omega arith }, chunk_span ns cs is (omega arith) (omega arith))
chunk_span ns cs is e f = absurd (omega arith)

pub span_take : (k : ℕ) (ns cs ls hs : List ℕ) → IsSpan ns cs ls hs → IsSpan (take k ns) (take k cs) (take k ls) (take k hs)
span_take zero ns cs ls hs s = tt
span_take (suc k) [] [] [] [] s = tt
span_take (suc k) (n ∷ ns) (c ∷ cs) (l ∷ ls) (h ∷ hs) s = (s.0, span_take k ns cs ls hs s.1)
span_take (suc k) ns cs ls hs s = absurd s

span_drop : (k : ℕ) (ns cs ls hs : List ℕ) → IsSpan ns cs ls hs → IsSpan (drop k ns) (drop k cs) (drop k ls) (drop k hs)
span_drop zero ns cs ls hs s = s
span_drop (suc k) [] [] [] [] s = tt
span_drop (suc k) (n ∷ ns) (c ∷ cs) (l ∷ ls) (h ∷ hs) s = span_drop k ns cs ls hs s.1
span_drop (suc k) ns cs ls hs s = absurd s

pub span_at : (k : ℕ) (ns cs ls hs : List ℕ) → IsSpan ns cs ls hs → k < length ns → IsSpanOn (get_or ns k 0) (get_or cs k 0) (get_or ls k 0) (get_or hs k 0)
span_at k [] [] [] [] s b = absurd (omega arith)
span_at zero (n ∷ ns) (c ∷ cs) (l ∷ ls) (h ∷ hs) s b = s.0
span_at (suc k) (n ∷ ns) (c ∷ cs) (l ∷ ls) (h ∷ hs) s b = span_at k ns cs ls hs s.1 (omega arith)
span_at k ns cs ls hs s b = absurd s

pub span_lengths : (ns cs ls hs : List ℕ) → IsSpan ns cs ls hs → (length ls ≡ length ns) × (length hs ≡ length ns)
span_lengths [] [] [] [] s = (refl, refl)
span_lengths (n ∷ ns) (c ∷ cs) (l ∷ ls) (h ∷ hs) s = let e = span_lengths ns cs ls hs s.1 in (ap suc e.0, ap suc e.1)
span_lengths ns cs ls hs s = absurd s

-- with two more axes
pub two_span : (ns cs ls hs : List ℕ) (n c l h m d k j : ℕ) → IsSpan ns cs ls hs → IsSpanOn n c l h → IsSpanOn m d k j
    → IsSpan (ns ++ n ∷ m ∷ []) (cs ++ c ∷ d ∷ []) (ls ++ l ∷ k ∷ []) (hs ++ h ∷ j ∷ [])
two_span [] [] [] [] n c l h m d k j s p q = (p, (q, tt))
two_span (x ∷ ns) (y ∷ cs) (z ∷ ls) (w ∷ hs) n c l h m d k j s p q = (s.0, two_span ns cs ls hs n c l h m d k j s.1 p q)
two_span ns cs ls hs n c l h m d k j s p q = absurd s

-- what is read through broadcasting for it is one chunk as well
back_on : (n c m d l h : ℕ) → 0 < c → ((n ≡ m) × (c ≡ d)) ⊎ ((n ≡ 1) × (m ≢ 1)) → IsSpanOn m d l h → IsSpanOn n c (if n == 1 then 0 else l) (if n == 1 then 1 else h)
back_on n c m d l h positive a s =
    elim (eqb_tells n 1) [
      | inl one ↦ let e = one.1 in rw one.0 (record { number = 0; starts = omega arith; ends = omega arith })
      | inr other ↦ rw other.0 (elim a [
        | inl same ↦ let e : m ≡ n = sym same.0 in let f : d ≡ c = sym same.1 in subst (λ (x : ℕ). IsSpanOn n x l h) f (subst (λ (x : ℕ). IsSpanOn x d l h) e s)
        | inr t ↦ absurd (other.1 t.0)
      ])
    ]

back_along_span : (ns cs ms ds ls hs : List ℕ) → All (λ c. 0 < c) cs → IsAlignedAlong ns cs ms ds → IsSpan ms ds ls hs
    → IsSpan ns cs (axis_by_axis (λ n i. if n == 1 then 0 else i) ns ls) (axis_by_axis (λ n i. if n == 1 then 1 else i) ns hs)
back_along_span [] [] [] [] [] [] p a s = tt
back_along_span (n ∷ ns) (c ∷ cs) (m ∷ ms) (d ∷ ds) (l ∷ ls) (h ∷ hs) p a s =
    (back_on n c m d l h (All-head (λ x. 0 < x) c cs p) a.0 s.0, back_along_span ns cs ms ds ls hs (All-tail (λ x. 0 < x) c cs p) a.1 s.1)
back_along_span ns cs ms ds ls hs p a s = absurd assumption

pub span_back : (g r : RegularGrid) (lo hi : List ℕ) → All (λ c. 0 < c) g.chunk → IsAligned g r → IsSpan r.shape r.chunk lo hi → IsSpan g.shape g.chunk (back_as 0 g.shape lo) (back_as 1 g.shape hi)
span_back g r lo hi positive al s =
    let k = length r.shape - length g.shape in
    let n = span_lengths r.shape r.chunk lo hi s in
    let all = back_along_span g.shape g.chunk (drop k r.shape) (drop k r.chunk) (drop k lo) (drop k hi) positive al.axes (span_drop k r.shape r.chunk lo hi s) in
    let L : ℕ → List ℕ = λ m. axis_by_axis (λ x i. if x == 1 then 0 else i) g.shape (drop (m - length g.shape) lo) in
    let H : ℕ → List ℕ = λ m. axis_by_axis (λ x i. if x == 1 then 1 else i) g.shape (drop (m - length g.shape) hi) in
    subst (λ (m : ℕ). IsSpan g.shape g.chunk (L m) (H (length hi))) (sym n.0) (subst (λ (m : ℕ). IsSpan g.shape g.chunk (L (length r.shape)) (H m)) (sym n.1) all)

-- the chunk of an index in it is the whole
whole_on : (n c l h i : ℕ) → 0 < c → IsSpanOn n c l h → l ≤ i → i < h → (l ≡ i / c * c) × (h ≡ min ((i / c + 1) * c) n)
whole_on n c l h i positive s p q =
    let a = s.starts in
    let b = s.ends in
    let again : (s.number * c + (i - s.number * c)) / c ≡ s.number = div-mul-add s.number c (i - s.number * c) (within c s.number i n (omega (arith, b, q))) in
    let back : s.number * c + (i - s.number * c) ≡ i = omega (arith, a, p) in
    let e : i / c ≡ s.number = ap (λ x. x / c) (sym back) ∙ again in
    (rw e a, rw e (let m : min n ((s.number + 1) * c) ≡ min ((s.number + 1) * c) n = omega arith in b ∙ m))
  where
    within : (c k i n : ℕ) → i < min n ((k + 1) * c) → i - k * c < c
    within c k i n h = let m : (k + 1) * c ≡ k * c + c = omega arith in some c k i (omega arith)
      where
        some : (c k i : ℕ) → i < k * c + c → i - k * c < c
        some zero k i h = absurd (omega arith)
        some (suc c) k i h = omega arith

cons_same : (x y : ℕ) (xs ys : List ℕ) → x ≡ y → xs ≡ ys → x ∷ xs ≡ y ∷ ys
cons_same x y xs ys e f = cc

pub span_chunk : (ns cs ls hs is : List ℕ) → All (λ c. 0 < c) cs → IsSpan ns cs ls hs → IsWithin ls hs is → (ls ≡ chunk_lo cs (quotients is cs)) × (hs ≡ chunk_hi ns cs (quotients is cs))
span_chunk [] [] [] [] [] p s w = (refl, refl)
span_chunk (n ∷ ns) (c ∷ cs) (l ∷ ls) (h ∷ hs) (i ∷ is) p s w =
    let first = whole_on n c l h i (All-head (λ x. 0 < x) c cs p) s.0 w.0 w.1 in
    let rest = span_chunk ns cs ls hs is (All-tail (λ x. 0 < x) c cs p) s.1 w.2 in
    (cons_same _ _ _ _ first.0 rest.0, cons_same _ _ _ _ first.1 rest.1)
span_chunk ns cs ls hs is p s w = absurd assumption

-- it has at most as many elements as a chunk
pub span_few : (ns cs ls hs : List ℕ) → IsSpan ns cs ls hs → product (differences hs ls) ≤ product cs
span_few [] [] [] [] s = omega arith
span_few (n ∷ ns) (c ∷ cs) (l ∷ ls) (h ∷ hs) s = mul-le (h - l) (product (differences hs ls)) c (product cs) (few_on n c l h s.0) (span_few ns cs ls hs s.1)
  where
    few_on : (n c l h : ℕ) → IsSpanOn n c l h → h - l ≤ c
    few_on n c l h s =
        let a = s.starts in
        let b = s.ends in
        let m : (s.number + 1) * c ≡ s.number * c + c = omega arith in
        omega (arith, a, b, m)
span_few ns cs ls hs s = absurd s
