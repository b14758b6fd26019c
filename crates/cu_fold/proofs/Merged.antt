-- Levels that are alike.
use Rattle.std.proofs.Common.{◌≡◌, ℕ, zero, suc, ◌+◌, ◌*◌, ◌/◌, ◌%◌, ◌<◌, ◌≤◌, true, false, List, [], ◌∷◌, ◌++◌, take, get_or, length, refl, sym, ap, ◌∙◌, arith, if◌then◌else◌, append_assoc}
use Rattle.std.specs.Prelude.{Bool as Test}
use Rattle.std.proofs.lemmas.Nat.{div-mul-add, mod-mul-add, div-add-mod', mod_below}
use Rattle.std.proofs.lemmas.List.{take_more, length-take-le}
use Rattle.cu_fold.specs.declared.levels.Level.{Level}
use Rattle.cu_fold.specs.Levels.{extent, results, chained, moved, sources, levels_from, IsAlike}
use Rattle.cu_fold.proofs.Chains.{chained_mul, moved_moved, moved_none, moved_chained}

pub alike_same : (xs : List Level) → IsAlike xs xs
alike_same xs = record { same_extent = refl; same_results = refl; same_sources = λ q b. refl }

pub alike_then : (xs ys zs : List Level) → IsAlike xs ys → IsAlike ys zs → IsAlike xs zs
alike_then xs ys zs f g = record {
  same_extent = f.same_extent ∙ g.same_extent;
  same_results = f.same_results ∙ g.same_results;
  same_sources = λ q b. f.same_sources q (let e = g.same_results in omega arith) ∙ g.same_sources q b;
}

-- ---- a level in front

level_results : Level → List Level → Test → ℕ
level_results l ls b = if b then results ls else l.size * results ls

pub positive_last : (n r q : ℕ) → q < n * r → 0 < r
positive_last n zero q h = absurd (omega (arith, h))
positive_last n (suc r) q h = omega arith

front_sources : (n : ℕ) (b : Test) (xs ys : List Level) → IsAlike xs ys → (q : ℕ) → q < results (record { size = n; is_reduced = b } ∷ ys)
    → sources (record { size = n; is_reduced = b } ∷ xs) q ≡ sources (record { size = n; is_reduced = b } ∷ ys) q
front_sources n true xs ys h q less = λ j. chained n (λ i. moved (i * h.same_extent j) (h.same_sources q less j))
front_sources n false xs ys h q less =
    let some : 0 < results ys = positive_last n (results ys) q less in
    (λ j. moved (q / h.same_results j * h.same_extent j) (sources xs (q % h.same_results j))) ∙ ap (moved (q / results ys * extent ys)) (h.same_sources (q % results ys) (mod_below q (results ys) some))

front_results : (n : ℕ) (b : Test) (xs ys : List Level) → IsAlike xs ys → results (record { size = n; is_reduced = b } ∷ xs) ≡ results (record { size = n; is_reduced = b } ∷ ys)
front_results n true xs ys h = h.same_results
front_results n false xs ys h = ap (λ r. n * r) h.same_results

pub alike_front : (l : Level) (xs ys : List Level) → IsAlike xs ys → IsAlike (l ∷ xs) (l ∷ ys)
alike_front l xs ys h = record {
  same_extent = ap (λ e. l.size * e) h.same_extent;
  same_results = front_results l.size l.is_reduced xs ys h;
  same_sources = front_sources l.size l.is_reduced xs ys h;
}

pub alike_after : (ls xs ys : List Level) → IsAlike xs ys → IsAlike (ls ++ xs) (ls ++ ys)
alike_after [] xs ys h = h
alike_after (l ∷ ls) xs ys h = alike_front l (ls ++ xs) (ls ++ ys) (alike_after ls xs ys h)

-- ---- an axis of one index

pub alike_one : (b : Test) (ls : List Level) → IsAlike ls (record { size = 1; is_reduced = b } ∷ ls)
alike_one true ls = record {
  same_extent = omega arith;
  same_results = refl;
  same_sources = λ q less. let e : 0 * extent ls ≡ 0 = omega arith in sym (ap (λ a. moved a (sources ls q)) e ∙ moved_none (sources ls q));
}
alike_one false ls = record {
  same_extent = omega arith;
  same_results = omega arith;
  same_sources = λ q less.
      let own : q ≡ 0 * results ls + q = omega arith in
      let inside : q < results ls = omega arith in
      let quotient : q / results ls ≡ 0 = ap (λ m. m / results ls) own ∙ div-mul-add 0 (results ls) q inside in
      let remainder : q % results ls ≡ q = ap (λ m. m % results ls) own ∙ mod-mul-add 0 (results ls) q inside in
      let none : q / results ls * extent ls ≡ 0 = omega (arith, ap (λ m. m * extent ls) quotient) in
      sym ((λ j. moved (none j) (sources ls (remainder j))) ∙ moved_none (sources ls q));
}

-- ---- neighbours of one kind

reduced_twice : (m n e : ℕ) (ps : List ℕ) → chained (m * n) (λ k. moved (k * e) ps) ≡ chained m (λ i. moved (i * (n * e)) (chained n (λ j. moved (j * e) ps)))
reduced_twice m n e ps =
    chained_mul m n (λ k. moved (k * e) ps)
    ∙ (λ t. chained m (λ i. chained n (λ j. inner i j t)))
    ∙ (λ t. chained m (λ i. sym (moved_chained (i * (n * e)) n (λ j. moved (j * e) ps)) t))
  where
    inner : (i j : ℕ) → moved ((i * n + j) * e) ps ≡ moved (i * (n * e)) (moved (j * e) ps)
    inner i j = let s : (i * n + j) * e ≡ i * (n * e) + j * e = omega arith in ap (λ a. moved a ps) s ∙ sym (moved_moved (i * (n * e)) (j * e) ps)

kept_twice : (n e r q : ℕ) (f : ℕ → List ℕ) → 0 < r → moved (q / r * e) (f (q % r)) ≡ moved (q / (n * r) * (n * e)) (moved (q % (n * r) / r * e) (f (q % (n * r) % r)))
kept_twice n e r q f some =
    let a = q / (n * r) in
    let rest = q % (n * r) in
    let b = rest / r in
    let c = rest % r in
    let outer : a * (n * r) + rest ≡ q = div-add-mod' q (n * r) in
    let inner : b * r + c ≡ rest = div-add-mod' rest r in
    let sum : q ≡ (a * n + b) * r + c = omega (arith, outer, inner) in
    let less : c < r = mod_below rest r some in
    let quotient : q / r ≡ a * n + b = ap (λ m. m / r) sum ∙ div-mul-add (a * n + b) r c less in
    let remainder : q % r ≡ c = ap (λ m. m % r) sum ∙ mod-mul-add (a * n + b) r c less in
    let both : (a * n + b) * e ≡ a * (n * e) + b * e = omega arith in
    (λ j. moved (quotient j * e) (f (remainder j))) ∙ ap (λ k. moved k (f c)) both ∙ sym (moved_moved (a * (n * e)) (b * e) (f c))

pub alike_merged : (m n : ℕ) (b : Test) (ls : List Level) → IsAlike (record { size = m * n; is_reduced = b } ∷ ls) (record { size = m; is_reduced = b } ∷ record { size = n; is_reduced = b } ∷ ls)
alike_merged m n true ls = record {
  same_extent = omega arith;
  same_results = refl;
  same_sources = λ q less. reduced_twice m n (extent ls) (sources ls q);
}
alike_merged m n false ls = record {
  same_extent = omega arith;
  same_results = omega arith;
  same_sources = λ q less.
      let some : 0 < n * results ls = positive_last m (n * results ls) q less in
      kept_twice n (extent ls) (results ls) q (sources ls) (positive_last n (results ls) 0 some);
}

-- ---- axes from the outermost on

pub levels_append : (p : ℕ → Test) (f : ℕ) (ns ms : List ℕ) → levels_from p f (ns ++ ms) ≡ levels_from p f ns ++ levels_from p (f + length ns) ms
levels_append p f [] ms = let e : f ≡ f + 0 = omega arith in ap (λ k. levels_from p k ms) e
levels_append p f (n ∷ ns) ms =
    let e : f + 1 + length ns ≡ f + suc (length ns) = omega arith in
    ap (λ ls. record { size = n; is_reduced = p f } ∷ ls) (levels_append p (f + 1) ns ms ∙ ap (λ k. levels_from p (f + 1) ns ++ levels_from p k ms) e)

-- one axis more
pub levels_more : (p : ℕ → Test) (ns : List ℕ) (k : ℕ) (more : List Level) → k < length ns
    → levels_from p 0 (take k ns) ++ record { size = get_or ns k 0; is_reduced = p k } ∷ more ≡ levels_from p 0 (take (k + 1) ns) ++ more
levels_more p ns k more h =
    let long : 0 + length (take k ns) ≡ k = omega (arith, length-take-le k ns (let w : k ≤ length ns = omega arith in w)) in
    sym (ap (λ ms. levels_from p 0 ms ++ more) (take_more ns k 0 h)
    ∙ ap (λ ls. ls ++ more) (levels_append p 0 (take k ns) (get_or ns k 0 ∷ []) ∙ ap (λ m. levels_from p 0 (take k ns) ++ record { size = get_or ns k 0; is_reduced = p m } ∷ []) long)
    ∙ append_assoc (levels_from p 0 (take k ns)) (record { size = get_or ns k 0; is_reduced = p k } ∷ []) more)

-- one level more
pub list_more : (list : List Level) (count : ℕ) (d : Level) (more : List Level) → count < length list → take (count + 1) list ++ more ≡ take count list ++ get_or list count d ∷ more
list_more list count d more h = ap (λ ls. ls ++ more) (take_more list count d h) ∙ append_assoc (take count list) (get_or list count d ∷ []) more
