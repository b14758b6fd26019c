-- How many chunks the bands meet up to a place.
use Rattle.std.proofs.Common.{◌≡◌, ℕ, zero, suc, ◌+◌, ◌*◌, ◌/◌, ◌%◌, ◌<◌, ◌≤◌, inl, inr, List, [], ◌∷◌, length, All, refl, sym, ap, ◌∙◌, subst, arith, add-mul, one-mul}
use Rattle.std.specs.Int.{div_ceil}
use Rattle.std.proofs.lemmas.Nat.{mul-le, div_below, le-div, div-add-mod'}
use Rattle.std.proofs.lemmas.Bool.{cases_lt}
use Rattle.cu_shape.specs.Index.{product}
use Rattle.cu_shape.specs.Counts.{counts_of}
use Rattle.cu_shape.proofs.Rounded.{before_end, within_counts}
use Rattle.cu_grid.specs.Counts.{IsRegion}
use Rattle.cu_grid.specs.Cover.{span_on, spans_of}
use Rattle.cu_grid.proofs.Covers.{span_cases}
use Rattle.cu_grid.proofs.Meeting.{axis_meets}
use Rattle.cu_print.specs.Reads.{band_reads, reads_before}
use Rattle.cu_print.proofs.Ends.{region}

-- ---- numbers

pub quotient_is : (q P s : ℕ) → s < P → (q * P + s) / P ≡ q
quotient_is q P s small =
    let more : (q + 1) * P ≡ q * P + P = add-mul q 1 P ∙ ap (λ k. q * P + k) (one-mul P) in
    let a : (q * P + s) / P < q + 1 = div_below (q * P + s) P (q + 1) (omega arith) (omega (arith, more)) in
    let b : q ≤ (q * P + s) / P = le-div q (q * P + s) P (omega arith) (omega arith) in
    omega arith

pub rest_is : (q P s : ℕ) → s < P → (q * P + s) % P ≡ s
rest_is q P s small =
    let e = div-add-mod' (q * P + s) P in
    let same = ap (λ k. k * P) (quotient_is q P s small) in
    omega (arith, e, same)

pub ceil_whole : (k c : ℕ) → 0 < c → div_ceil (k * c) c ≤ k
ceil_whole k c positive = elim (cases_lt k (div_ceil (k * c) c)) [
  | inl some ↦ absurd (let b = before_end (k * c) c k positive some in omega arith)
  | inr none ↦ none
]

pub ceil_less : (h n c : ℕ) → 0 < c → h ≤ n → div_ceil h c ≤ div_ceil n c
ceil_less h n c positive low = elim (cases_lt (div_ceil n c) (div_ceil h c)) [
  | inl above ↦ absurd (let b = before_end h c (div_ceil n c) positive above in let a = within_counts n c (div_ceil n c) positive (omega arith) in omega arith)
  | inr none ↦ none
]

-- ---- the begin and the end of the array

pub head_positive : (n P p : ℕ) → p < n * P → 0 < P
head_positive n zero p below = absurd (let z : n * 0 ≡ 0 = omega arith in omega arith)
head_positive n (suc P) p below = omega arith

pub first_quotient : (P : ℕ) → 0 < P → (0 / P ≡ 0) × (0 % P ≡ 0)
first_quotient P some =
    let plain : 0 ≡ 0 * P + 0 = omega arith in
    (ap (λ k. k / P) plain ∙ quotient_is 0 P 0 some, ap (λ k. k % P) plain ∙ rest_is 0 P 0 some)

pub none_before : (a : ℕ) (shape chunk : List ℕ) → All (λ c. 0 < c) chunk → 0 < product shape → reads_before a shape chunk 0 ≡ 0
none_before zero [] chunk p some = refl
none_before (suc a) [] chunk p some = refl
none_before zero (n ∷ ns) [] p some = refl
none_before (suc a) (n ∷ ns) [] p some = refl
none_before zero (n ∷ ns) (c ∷ cs) p some =
    let q = (first_quotient (product ns) (head_positive n (product ns) 0 some)).0 in
    let plain : 0 ≡ 0 * c = omega arith in
    let z : div_ceil 0 c ≤ 0 = subst (λ (k : ℕ). div_ceil k c ≤ 0) (sym plain) (ceil_whole 0 c (p 0 0 (omega arith))) in
    let same = ap (λ k. div_ceil k c * product (counts_of ns cs)) q in
    let zero_of : div_ceil 0 c ≡ 0 = omega arith in
    let none = ap (λ k. k * product (counts_of ns cs)) zero_of in
    omega (arith, same, none)
none_before (suc a) (n ∷ ns) (c ∷ cs) p some =
    let P = head_positive n (product ns) 0 some in
    let q = first_quotient (product ns) P in
    let rest = none_before a ns cs (λ k d b. p (suc k) d (omega arith)) P in
    let one = ap (λ k. k * band_reads a ns cs) q.0 in
    let two = ap (reads_before a ns cs) q.1 in
    omega (arith, one, two, rest)

pub all_before : (a : ℕ) (shape chunk : List ℕ) → All (λ c. 0 < c) chunk → length chunk ≡ length shape → 0 < product shape → reads_before a shape chunk (product shape) ≡ band_reads a shape chunk
all_before zero [] [] p e some = refl
all_before (suc a) [] [] p e some = refl
all_before a [] (c ∷ cs) p e some = absurd (omega arith)
all_before a (n ∷ ns) [] p e some = absurd (omega arith)
all_before zero (n ∷ ns) (c ∷ cs) p e some =
    let P = head_positive n (product ns) 0 some in
    let plain : n * product ns ≡ n * product ns + 0 = omega arith in
    let q : n * product ns / product ns ≡ n = ap (λ k. k / product ns) plain ∙ quotient_is n (product ns) 0 P in
    ap (λ k. div_ceil k c * product (counts_of ns cs)) q
all_before (suc a) (n ∷ ns) (c ∷ cs) p e some =
    let P = head_positive n (product ns) 0 some in
    let plain : n * product ns ≡ n * product ns + 0 = omega arith in
    let q : n * product ns / product ns ≡ n = ap (λ k. k / product ns) plain ∙ quotient_is n (product ns) 0 P in
    let r : n * product ns % product ns ≡ 0 = ap (λ k. k % product ns) plain ∙ rest_is n (product ns) 0 P in
    let one = ap (λ k. k * band_reads a ns cs) q in
    let two = ap (reads_before a ns cs) r in
    let none = none_before a ns cs (λ k d b. p (suc k) d (omega arith)) P in
    omega (arith, one, two, none)

-- ---- the chunks that a band meets

pub span_one : (l h c s : ℕ) → 0 < c → h ≤ l / c * c + c → span_on l h c ≡ s → s ≤ 1
span_one l h c zero p low e = omega arith
span_one l h c (suc zero) p low e = omega arith
span_one l h c (suc (suc k)) p low e =
    let m = axis_meets h l h c (k + 1) p (omega arith) (omega (arith, e)) in
    absurd (omega (arith, m.2, m.1, add-mul (l / c) (k + 1) c, add-mul k 1 c, one-mul c))

pub span_most : (n l h c : ℕ) → 0 < c → h ≤ n → span_on l h c ≤ div_ceil n c
span_most n l h c p low =
    let m = ceil_less h n c p low in
    elim (span_cases l h c) [ inl s ↦ (let e = s.1 in omega arith) | inr s ↦ (let e = s.1 in omega arith) ]

pub spans_most : (shape lo hi chunk : List ℕ) → length chunk ≡ length shape → All (λ c. 0 < c) chunk → IsRegion shape lo hi → product (spans_of lo hi chunk) ≤ product (counts_of shape chunk)
spans_most [] [] [] chunk r p region = omega arith
spans_most (n ∷ ns) (l ∷ ls) (h ∷ hs) [] r p region = absurd (omega arith)
spans_most (n ∷ ns) (l ∷ ls) (h ∷ hs) (c ∷ cs) r p region =
    mul-le (span_on l h c) (product (spans_of ls hs cs)) (div_ceil n c) (product (counts_of ns cs)) (span_most n l h c (p 0 0 (omega arith)) region.1)
    (spans_most ns ls hs cs (omega arith) (λ k d b. p (suc k) d (omega arith)) region.2)
spans_most shape lo hi chunk r p region = absurd assumption

-- ---- one axis more

pub at_quotient : (P R q s p : ℕ) (f : ℕ → ℕ) → s < P → p ≡ q * P + s → p / P * R + f (p % P) ≡ q * R + f s
at_quotient P R q s p f small is =
    let one = ap (λ k. k / P * R) is ∙ ap (λ k. k * R) (quotient_is q P s small) in
    let two = ap (λ k. f (k % P)) is ∙ ap f (rest_is q P s small) in
    omega (arith, one, two)

pub next_multiple : (q P : ℕ) → (q + 1) * P ≡ q * P + P
next_multiple q P = add-mul q 1 P ∙ ap (λ k. q * P + k) (one-mul P)

pub one_times : (k M : ℕ) → k ≤ 1 → k * M ≤ M
one_times k M few = let b = mul-le k M 1 M few (omega arith) in omega (arith, b, one-mul M)

-- an index alone
pub more_alone : (P R q s L M k p : ℕ) (f : ℕ → ℕ) → s < P → p ≡ q * P + s → s + L ≤ P → f 0 ≡ 0 → f P ≡ R → k ≤ 1 → f s + M ≤ f (s + L)
    → p / P * R + f (p % P) + k * M ≤ (p + L) / P * R + f ((p + L) % P)
more_alone P R q s L M k p f small is within none all few more =
    let here = at_quotient P R q s p f small is in
    let met = one_times k M few in
    elim (cases_lt (s + L) P) [
      | inl inner ↦ let there = at_quotient P R q (s + L) (p + L) f inner (omega arith) in omega (arith, here, there, met, more)
      | inr over ↦
          let end : s + L ≡ P = omega arith in
          let there = at_quotient P R (q + 1) 0 (p + L) f (omega arith) (omega (arith, is, end, next_multiple q P)) in
          let last = ap f end in
          omega (arith, here, there, met, more, last, none, all, next_multiple q R)
    ]

-- indices of which each takes all of the later axes
pub more_whole : (P R q d M k p : ℕ) (f : ℕ → ℕ) → 0 < P → p ≡ q * P → 0 < d → f 0 ≡ 0 → k ≤ 1 → M ≤ R
    → p / P * R + f (p % P) + k * M ≤ (p + d * P) / P * R + f ((p + d * P) % P)
more_whole P R q d M k p f some is several none few most =
    let here = at_quotient P R q 0 p f some (omega arith) in
    let there = at_quotient P R (q + d) 0 (p + d * P) f some (omega (arith, is, add-mul q d P)) in
    let met = one_times k M few in
    let up : R ≤ d * R = let b = mul-le 1 R d R (omega arith) (omega arith) in omega (arith, b, one-mul R) in
    omega (arith, here, there, met, up, none, add-mul q d R)
