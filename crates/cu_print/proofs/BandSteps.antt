-- The band from a place: where it ends, and how many chunks it meets.
use Rattle.std.proofs.Common.{◌≡◌, ℕ, zero, suc, ◌+◌, ◌-◌, ◌*◌, ◌/◌, ◌%◌, ◌<◌, ◌≤◌, inl, inr, Bool, true, false, ◌&&◌, ◌==◌, nat_le, min, List, [], ◌∷◌, length, All, refl, sym, ap, ◌∙◌, subst, arith, add-mul, one-mul}
use Rattle.std.specs.Int.{div_ceil}
use Rattle.std.proofs.lemmas.Nat.{mul-le, mod_below, div_below, div-add-mod'}
use Rattle.std.proofs.lemmas.Bool.{cases_lt}
use Rattle.std.proofs.lemmas.List.Elements.{All-cons}
use Rattle.std.proofs.lemmas.Bool.Decides.{nat_tests}
use Rattle.cu_shape.specs.Index.{product, index_at, differences}
use Rattle.cu_shape.specs.Counts.{counts_of}
use Rattle.cu_shape.proofs.Places.{index-inside}
use Rattle.cu_shape.proofs.Rounded.{within_counts, counts_below}
use Rattle.cu_grid.specs.Cover.{span_on, spans_of}
use Rattle.cu_print.specs.Reads.{band_sizes, band_reads, reads_before, IsBandStart}
use Rattle.cu_print.specs.Runs.{run_end_on, are_whole, ends}
use Rattle.cu_print.proofs.Ends.{Ended, end_fits, all_of, region, both, is_zero, is_below}
use Rattle.cu_print.proofs.BandCounts.{quotient_is, rest_is, ceil_whole, head_positive, first_quotient, none_before, all_before, span_one, spans_most, next_multiple, one_times, more_alone, more_whole}

pub record BandStep (a : ℕ) (shape chunk : List ℕ) (p : ℕ) (idx hi : List ℕ) : Type 0 where
  pub within : p + product (differences hi idx) ≤ product shape
  pub next : p + product (differences hi idx) < product shape → IsBandStart a shape chunk (p + product (differences hi idx))
  pub more : reads_before a shape chunk p + product (spans_of idx hi chunk) ≤ reads_before a shape chunk (p + product (differences hi idx))
  pub most : reads_before a shape chunk p + product (spans_of idx hi chunk) ≤ band_reads a shape chunk
  pub whole : are_whole shape (band_sizes a shape chunk) idx ≡ true → (p ≡ 0) × (product (differences hi idx) ≡ product shape)

pub start_first : (a : ℕ) (shape chunk : List ℕ) → 0 < product shape → IsBandStart a shape chunk 0
start_first zero [] chunk some = tt
start_first (suc a) [] chunk some = tt
start_first zero (n ∷ ns) [] some = tt
start_first (suc a) (n ∷ ns) [] some = tt
start_first zero (n ∷ ns) (c ∷ cs) some = (0, omega arith)
start_first (suc a) (n ∷ ns) (c ∷ cs) some =
    let P = head_positive n (product ns) 0 some in
    subst (IsBandStart a ns cs) (sym (first_quotient (product ns) P).1) (start_first a ns cs P)

head_some : (n P : ℕ) → 0 < n * P → 0 < n
head_some zero P some = absurd (omega arith)
head_some (suc n) P some = omega arith

pub positive_sizes : (shape : List ℕ) → 0 < product shape → All (λ n. 0 < n) shape
positive_sizes [] some = λ k d b. absurd (omega arith)
positive_sizes (n ∷ ns) some = All-cons (λ n. 0 < n) n ns (head_some n (product ns) some) (positive_sizes ns (head_positive n (product ns) 0 some))

-- all axes are whole at the first index
first_whole : (shape : List ℕ) → 0 < product shape → are_whole shape shape (index_at shape 0) ≡ true
first_whole [] some = refl
first_whole (n ∷ ns) some =
    let P = head_positive n (product ns) 0 some in
    let q = first_quotient (product ns) P in
    let rest = first_whole ns P in
    let below : nat_le n n ≡ true = grind (arith, nat_tests) in
    rw (q.0, q.1, rest, below) refl

cons : (x y : ℕ) (xs ys : List ℕ) → x ≡ y → xs ≡ ys → x ∷ xs ≡ y ∷ ys
cons x y xs ys p q = cc

tail_of : (c : ℕ) (cs : List ℕ) → All (λ n. 0 < n) (c ∷ cs) → All (λ n. 0 < n) cs
tail_of c cs p k d l = p (suc k) d (omega arith)

less_times : (E n P : ℕ) → E * P < n * P → E < n
less_times E n P below = elim (cases_lt E n) [
  | inl less ↦ less
  | inr over ↦ absurd (let b = mul-le n P E P over (omega arith) in omega arith)
]

-- from i up to E in steps of P
reached : (i E P : ℕ) → i ≤ E → i * P + (E - i) * P ≡ E * P
reached i E P low =
    let whole : i + (E - i) ≡ E = omega arith in
    sym (add-mul i (E - i) P) ∙ ap (λ k. k * P) whole

at_first : (q P : ℕ) → 0 < P → q * P / P ≡ q
at_first q P some =
    let plain : q * P ≡ q * P + 0 = omega arith in
    ap (λ k. k / P) plain ∙ quotient_is q P 0 some

module _ (n c : ℕ) (ns cs : List ℕ) (i : ℕ) (pos : 0 < c) (rest : All (λ n. 0 < n) cs) (long : length cs ≡ length ns) (some : 0 < product ns) (inside : i * c < n) where
  from_first : BandStep zero (n ∷ ns) (c ∷ cs) (i * c * product ns) (i * c ∷ index_at ns 0) (ends (n ∷ ns) (c ∷ ns) (i * c ∷ index_at ns 0))
  from_first =
      let z = index_at ns 0 in
      let P = product ns in
      let T = product (counts_of ns cs) in
      let all = positive_sizes ns some in
      let inner = index-inside ns 0 some in
      let E = run_end_on (are_whole ns ns (index_at ns 0)) n c (i * c) in
      let ended = end_fits (are_whole ns ns (index_at ns 0)) n c (i * c) pos inside in
      let above : i * c < run_end_on (are_whole ns ns (index_at ns 0)) n c (i * c) = ended.above in
      let plain : i * c ≡ i * c + 0 = omega arith in
      let rem : i * c % c ≡ 0 = ap (λ k. k % c) plain ∙ rest_is i c 0 pos in
      let edge : run_end_on (are_whole ns ns (index_at ns 0)) n c (i * c) ≡ min (i * c - i * c % c + c) n = ap (λ b. run_end_on b n c (i * c)) (first_whole ns some) in
      let later : product (differences (ends ns ns (index_at ns 0)) (index_at ns 0)) ≡ product ns = all_of ns ns (index_at ns 0) all refl inner (first_whole ns some) in
      let len = ap (λ k. (E - i * c) * k) later in
      let end = reached (i * c) E P (omega arith) in
      let at : i * c * product ns + (E - i * c) * product (differences (ends ns ns (index_at ns 0)) (index_at ns 0)) ≡ E * product ns = omega (arith, len, end) in
      record {
        within = let b = mul-le E P n P ended.within (omega arith) in omega (arith, at, b);
        next = λ below.
            let less = less_times E n P (omega (arith, below, at)) in
            let here : E ≡ (i + 1) * c = omega (arith, edge, rem, less, next_multiple i c) in
            (i + 1, at ∙ ap (λ k. k * product ns) here);
        more =
            let q = at_first (i * c) P some in
            let r = at_first E P some in
            let before = ap (λ k. div_ceil k c * product (counts_of ns cs)) q in
            let after = ap (λ k. div_ceil (k / product ns) c * product (counts_of ns cs)) at ∙ ap (λ k. div_ceil k c * product (counts_of ns cs)) r in
            let low = mul-le (div_ceil (i * c) c) T i T (ceil_whole i c pos) (omega arith) in
            let high = mul-le (i + 1) T (div_ceil E c) T (let w = within_counts E c i pos above in omega arith) (omega arith) in
            let region_of = region ns ns (index_at ns 0) all refl inner in
            let most = spans_most ns (index_at ns 0) (ends ns ns (index_at ns 0)) cs long rest region_of in
            let few = one_times (span_on (i * c) E c) (product (spans_of (index_at ns 0) (ends ns ns (index_at ns 0)) cs)) (span_one (i * c) E c (span_on (i * c) E c) pos ended.in_chunk refl) in
            omega (arith, before, after, low, high, most, few, next_multiple i T);
        most =
            let q = at_first (i * c) P some in
            let before = ap (λ k. div_ceil k c * product (counts_of ns cs)) q in
            let low = mul-le (div_ceil (i * c) c) T i T (ceil_whole i c pos) (omega arith) in
            let high = mul-le (i + 1) T (div_ceil n c) T (let w = within_counts n c i pos inside in omega arith) (omega arith) in
            let region_of = region ns ns (index_at ns 0) all refl inner in
            let most = spans_most ns (index_at ns 0) (ends ns ns (index_at ns 0)) cs long rest region_of in
            let few = one_times (span_on (i * c) E c) (product (spans_of (index_at ns 0) (ends ns ns (index_at ns 0)) cs)) (span_one (i * c) E c (span_on (i * c) E c) pos ended.in_chunk refl) in
            omega (arith, before, low, high, most, few, next_multiple i T);
        whole = λ e.
            let a = both (are_whole ns ns (index_at ns 0) && (i * c == 0)) (nat_le n c) e in
            let b = both (are_whole ns ns (index_at ns 0)) (i * c == 0) a.0 in
            let zero_first = is_zero (i * c) b.1 in
            let small = is_below n c a.1 in
            let none = ap (λ k. k * product ns) zero_first in
            let all_n : E ≡ n = omega (arith, edge, rem, zero_first, small) in
            let full = ap (λ k. k * product ns) all_n in
            (omega (arith, none), omega (arith, at, none, full));
      }

not_both : (b : Bool) → b ≡ true → b ≡ false → ⊥
not_both b one other = cc

module _ (a n c : ℕ) (ns cs : List ℕ) (p : ℕ) (pos : 0 < c) (rest : All (λ n. 0 < n) cs) (long : length cs ≡ length ns) (below : p < n * product ns)
    (later : BandStep a ns cs (p % product ns) (index_at ns (p % product ns)) (ends ns (band_sizes a ns cs) (index_at ns (p % product ns)))) where
  some : 0 < product ns
  some = head_positive n (product ns) p below

  q_below : p / product ns < n
  q_below = div_below p (product ns) n some below

  is_place : p ≡ p / product ns * product ns + p % product ns
  is_place = let e = div-add-mod' p (product ns) in omega (arith, e)

  abbrev E : ℕ
  E = run_end_on (are_whole ns (band_sizes a ns cs) (index_at ns (p % product ns))) n c (p / product ns)

  ended : Ended n c (p / product ns) E
  ended = end_fits (are_whole ns (band_sizes a ns cs) (index_at ns (p % product ns))) n c (p / product ns) pos q_below

  abbrev L : ℕ
  L = product (differences (ends ns (band_sizes a ns cs) (index_at ns (p % product ns))) (index_at ns (p % product ns)))

  abbrev M : ℕ
  M = product (spans_of (index_at ns (p % product ns)) (ends ns (band_sizes a ns cs) (index_at ns (p % product ns))) cs)

  few : span_on (p / product ns) E c ≤ 1
  few = span_one (p / product ns) E c (span_on (p / product ns) E c) pos ended.in_chunk refl

  none : reads_before a ns cs 0 ≡ 0
  none = none_before a ns cs rest some

  all : reads_before a ns cs (product ns) ≡ band_reads a ns cs
  all = all_before a ns cs rest long some

  most_of : p / product ns * band_reads a ns cs + reads_before a ns cs (p % product ns) + span_on (p / product ns) E c * M ≤ n * band_reads a ns cs
  most_of =
      let R = band_reads a ns cs in
      let b = mul-le (p / product ns + 1) R n R (omega (arith, q_below)) (omega arith) in
      let met = one_times (span_on (p / product ns) E c) M few in
      omega (arith, b, met, later.most, next_multiple (p / product ns) R)

  from_whole : are_whole ns (band_sizes a ns cs) (index_at ns (p % product ns)) ≡ true
      → BandStep (suc a) (n ∷ ns) (c ∷ cs) p (index_at (n ∷ ns) p) (ends (n ∷ ns) (c ∷ band_sizes a ns cs) (index_at (n ∷ ns) p))
  from_whole w =
      let P = product ns in
      let q = p / product ns in
      let whole = later.whole w in
      let above = ended.above in
      let len : (E - p / product ns) * L ≡ (E - p / product ns) * product ns = ap (λ k. (E - p / product ns) * k) whole.1 in
      let here : p ≡ p / product ns * product ns = omega (arith, is_place, whole.0) in
      let end = reached q E P (omega arith) in
      let at : p + (E - p / product ns) * L ≡ E * product ns = omega (arith, len, here, end) in
      let edge : E ≡ min (p / product ns - p / product ns % c + c) n = ap (λ b. run_end_on b n c (p / product ns)) w in
      record {
        within = let b = mul-le E P n P ended.within (omega arith) in omega (arith, at, b);
        next = λ inner.
            let plain : E * product ns ≡ E * product ns + 0 = omega arith in
            let r : (p + (E - p / product ns) * L) % product ns ≡ 0 = ap (λ k. k % product ns) (at ∙ plain) ∙ rest_is E P 0 some in
            subst (IsBandStart a ns cs) (sym r) (start_first a ns cs some);
        more =
            let moved = ap (λ k. (p + k) / product ns * band_reads a ns cs + reads_before a ns cs ((p + k) % product ns)) len in
            let from = ap (reads_before a ns cs) whole.0 in
            let onto = ap (λ k. reads_before a ns cs (p % product ns + k)) whole.1 in
            let last = ap (λ k. reads_before a ns cs (k + product ns)) whole.0 in
            let plain : 0 + product ns ≡ product ns = omega arith in
            let full = ap (reads_before a ns cs) plain in
            let most : M ≤ band_reads a ns cs = omega (arith, later.more, from, onto, last, full, none, all) in
            let step = more_whole P (band_reads a ns cs) q (E - p / product ns) M (span_on (p / product ns) E c) p (reads_before a ns cs) some here (omega arith) none few most in
            omega (arith, moved, step);
        most = most_of;
        whole = λ e.
            let tests = both (are_whole ns (band_sizes a ns cs) (index_at ns (p % product ns)) && (p / product ns == 0)) (nat_le n c) e in
            let b = both (are_whole ns (band_sizes a ns cs) (index_at ns (p % product ns))) (p / product ns == 0) tests.0 in
            let zero_first = is_zero (p / product ns) b.1 in
            let small = is_below n c tests.1 in
            let m = mod_below (p / product ns) c pos in
            let none_yet = ap (λ k. k * product ns) zero_first in
            let all_n : E ≡ n = omega (arith, edge, zero_first, small) in
            let full = ap (λ k. k * product ns) all_n in
            (omega (arith, here, none_yet), omega (arith, at, here, none_yet, full));
      }

  from_alone : are_whole ns (band_sizes a ns cs) (index_at ns (p % product ns)) ≡ false
      → BandStep (suc a) (n ∷ ns) (c ∷ cs) p (index_at (n ∷ ns) p) (ends (n ∷ ns) (c ∷ band_sizes a ns cs) (index_at (n ∷ ns) p))
  from_alone w =
      let P = product ns in
      let q = p / product ns in
      let edge : E ≡ p / product ns + 1 = ap (λ b. run_end_on b n c (p / product ns)) w in
      let one : E - p / product ns ≡ 1 = omega arith in
      let len : (E - p / product ns) * L ≡ L = ap (λ k. k * L) one ∙ one-mul L in
      let small = mod_below p (product ns) some in
      let within = later.within in
      record {
        within = let b = mul-le (q + 1) P n P (omega (arith, q_below)) (omega arith) in omega (arith, len, is_place, b, next_multiple q P);
        next = λ inner. elim (cases_lt (p % product ns + L) (product ns)) [
          | inl less ↦
              let place : p + (E - p / product ns) * L ≡ p / product ns * product ns + (p % product ns + L) = omega (arith, len, is_place) in
              let r : (p + (E - p / product ns) * L) % product ns ≡ p % product ns + L = ap (λ k. k % product ns) place ∙ rest_is q P (p % product ns + L) less in
              subst (IsBandStart a ns cs) (sym r) (later.next less)
          | inr over ↦
              let place : p + (E - p / product ns) * L ≡ (p / product ns + 1) * product ns + 0 = omega (arith, len, is_place, next_multiple q P) in
              let r : (p + (E - p / product ns) * L) % product ns ≡ 0 = ap (λ k. k % product ns) place ∙ rest_is (q + 1) P 0 some in
              subst (IsBandStart a ns cs) (sym r) (start_first a ns cs some)
        ];
        more =
            let moved = ap (λ k. (p + k) / product ns * band_reads a ns cs + reads_before a ns cs ((p + k) % product ns)) len in
            let step = more_alone P (band_reads a ns cs) q (p % product ns) L M (span_on (p / product ns) E c) p (reads_before a ns cs) small is_place within none all few later.more in
            omega (arith, moved, step);
        most = most_of;
        whole = λ e.
            let tests = both (are_whole ns (band_sizes a ns cs) (index_at ns (p % product ns)) && (p / product ns == 0)) (nat_le n c) e in
            let b = both (are_whole ns (band_sizes a ns cs) (index_at ns (p % product ns))) (p / product ns == 0) tests.0 in
            absurd (not_both (are_whole ns (band_sizes a ns cs) (index_at ns (p % product ns))) b.0 w);
      }

  by_whole : (b : Bool) → are_whole ns (band_sizes a ns cs) (index_at ns (p % product ns)) ≡ b
      → BandStep (suc a) (n ∷ ns) (c ∷ cs) p (index_at (n ∷ ns) p) (ends (n ∷ ns) (c ∷ band_sizes a ns cs) (index_at (n ∷ ns) p))
  by_whole true w = from_whole w
  by_whole false w = from_alone w

pub band_step : (a : ℕ) (shape chunk : List ℕ) (p : ℕ) → All (λ c. 0 < c) chunk → length chunk ≡ length shape → p < product shape → IsBandStart a shape chunk p
    → BandStep a shape chunk p (index_at shape p) (ends shape (band_sizes a shape chunk) (index_at shape p))
band_step zero [] [] p pos long below start = record { within = omega arith; next = λ inner. tt; more = omega arith; most = omega arith; whole = λ e. (omega arith, refl) }
band_step (suc a) [] [] p pos long below start = record { within = omega arith; next = λ inner. tt; more = omega arith; most = omega arith; whole = λ e. (omega arith, refl) }
band_step a [] (c ∷ cs) p pos long below start = absurd (omega arith)
band_step a (n ∷ ns) [] p pos long below start = absurd (omega arith)
band_step zero (n ∷ ns) (c ∷ cs) p pos long below (i, is) =
    let some = head_positive n (product ns) p below in
    let inside = less_times (i * c) n (product ns) (omega (arith, is, below)) in
    let plain : i * c * product ns ≡ i * c * product ns + 0 = omega arith in
    let q : p / product ns ≡ i * c = ap (λ k. k / product ns) is ∙ at_first (i * c) (product ns) some in
    let r : p % product ns ≡ 0 = ap (λ k. k % product ns) (is ∙ plain) ∙ rest_is (i * c) (product ns) 0 some in
    let idx : index_at (n ∷ ns) p ≡ i * c ∷ index_at ns 0 = cons (p / product ns) (i * c) (index_at ns (p % product ns)) (index_at ns 0) q (ap (index_at ns) r) in
    let core = from_first n c ns cs i (pos 0 0 (omega arith)) (tail_of c cs pos) (omega arith) some inside in
    subst (λ (k : ℕ). BandStep zero (n ∷ ns) (c ∷ cs) k (index_at (n ∷ ns) p) (ends (n ∷ ns) (c ∷ ns) (index_at (n ∷ ns) p))) (sym is)
    (subst (λ (xs : List ℕ). BandStep zero (n ∷ ns) (c ∷ cs) (i * c * product ns) xs (ends (n ∷ ns) (c ∷ ns) xs)) (sym idx) core)
band_step (suc a) (n ∷ ns) (c ∷ cs) p pos long below start =
    let some = head_positive n (product ns) p below in
    let later = band_step a ns cs (p % product ns) (tail_of c cs pos) (omega arith) (mod_below p (product ns) some) start in
    by_whole a n c ns cs p (pos 0 0 (omega arith)) (tail_of c cs pos) (omega arith) below later (are_whole ns (band_sizes a ns cs) (index_at ns (p % product ns))) refl

-- a band that begins on a later axis meets no fewer chunks
pub reads_more : (a b : ℕ) (shape chunk : List ℕ) → All (λ c. 0 < c) chunk → length chunk ≡ length shape → a ≤ b → band_reads a shape chunk ≤ band_reads b shape chunk
reads_more zero zero shape chunk p e low = omega arith
reads_more (suc a) zero shape chunk p e low = absurd (omega arith)
reads_more zero (suc b) [] [] p e low = omega arith
reads_more (suc a) (suc b) [] [] p e low = omega arith
reads_more a (suc b) [] (c ∷ cs) p e low = absurd (omega arith)
reads_more a (suc b) (n ∷ ns) [] p e low = absurd (omega arith)
reads_more zero (suc b) (n ∷ ns) (c ∷ cs) p e low =
    mul-le (div_ceil n c) (product (counts_of ns cs)) n (band_reads b ns cs) (counts_below n c (p 0 0 (omega arith))) (reads_more zero b ns cs (tail_of c cs p) (omega arith) (omega arith))
reads_more (suc a) (suc b) (n ∷ ns) (c ∷ cs) p e low =
    mul-le n (band_reads a ns cs) n (band_reads b ns cs) (omega arith) (reads_more a b ns cs (tail_of c cs p) (omega arith) (omega arith))
