use Rattle.std.proofs.Common.{◌≡◌, ◌<◌, ◌+◌, ◌-◌, ◌*◌, ℕ, List, [], ◌∷◌, ◌++◌, take, get_or, set, length, false, sym, ap, ◌∙◌, subst, arith, rules}
use Rattle.std.specs.Prelude.{Bool as Test}
use Rattle.std.proofs.lemmas.List.{take_more_set, append_assoc}
use Rattle.cu_fold.specs.declared.levels.Level.{Level}
use Rattle.cu_fold.specs.Levels.{IsAlike}
use Rattle.cu_fold.proofs.Merged.{alike_after, alike_one, alike_merged, list_more}
use Rattle.cu_fold.proofs.levels.with_axis.Goals as goal

abbrev none : Level
none = record { size = 0; is_reduced = false }

pub returns-then-size-eq1-clause-levels : goal.returns-then-size-eq1-clause-levels
returns-then-size-eq1-clause-levels c more =
    let b = c.args.is_reduced in
    let xs = take c.args.levels.count c.args.levels.list in
    let one : 1 ≡ c.args.size = omega arith in
    let P : ℕ → Type 0 = λ n. IsAlike (xs ++ more) (xs ++ record { size = n; is_reduced = b } ∷ more) in
    subst P one (alike_after xs more (record { size = 1; is_reduced = b } ∷ more) (alike_one b more))

-- the last level is put together with the axis
merged : (list : List Level) (count size product : ℕ) (b : Test) (more : List Level) → 0 < count → count - 1 < length list → (get_or list (count - 1) none).is_reduced ≡ b → product ≡ (get_or list (count - 1) none).size * size
    → IsAlike (take count (set list (count - 1) (record { size = product; is_reduced = b })) ++ more) (take count list ++ record { size = size; is_reduced = b } ∷ more)
merged list count size product b more some inside same is =
    let k = count - 1 in
    let last = get_or list k none in
    let front = take k list in
    let next : k + 1 ≡ count = omega arith in
    let new : take count (set list k (record { size = product; is_reduced = b })) ++ more ≡ front ++ record { size = last.size * size; is_reduced = b } ∷ more =
    ap (λ n. take n (set list k (record { size = product; is_reduced = b })) ++ more) (sym next)
    ∙ ap (λ ls. ls ++ more) (take_more_set list k (record { size = product; is_reduced = b }) inside)
    ∙ append_assoc front (record { size = product; is_reduced = b } ∷ []) more
    ∙ ap (λ n. front ++ record { size = n; is_reduced = b } ∷ more) is in
    let old : take count list ++ record { size = size; is_reduced = b } ∷ more ≡ front ++ record { size = last.size; is_reduced = b } ∷ record { size = size; is_reduced = b } ∷ more =
    ap (λ n. take n list ++ record { size = size; is_reduced = b } ∷ more) (sym next)
    ∙ list_more list k none (record { size = size; is_reduced = b } ∷ more) inside
    ∙ ap (λ r. front ++ record { size = last.size; is_reduced = r } ∷ record { size = size; is_reduced = b } ∷ more) same in
    subst (λ ls. IsAlike ls (take count list ++ record { size = size; is_reduced = b } ∷ more)) (sym new)
    (subst (λ ls. IsAlike (front ++ record { size = last.size * size; is_reduced = b } ∷ more) ls) (sym old)
    (alike_after front (record { size = last.size * size; is_reduced = b } ∷ more) (record { size = last.size; is_reduced = b } ∷ record { size = size; is_reduced = b } ∷ more)
    (alike_merged last.size size b more)))

pub returns-in-Some-clause-levels : goal.returns-in-Some-clause-levels
returns-in-Some-clause-levels c more =
    let list = c.args.levels.list in
    let count = c.args.levels.count in
    merged list count c.args.size c.in-Some.size c.args.is_reduced more (omega arith) (omega arith) (search rules) (search rules)
