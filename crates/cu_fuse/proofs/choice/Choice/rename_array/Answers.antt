use Rattle.std.proofs.Common.{◌≡◌, ℕ, List, true, false, refl, ap, sym, ◌∙◌, if◌then◌else◌}
use Rattle.std.proofs.Math.ListN.{set}
use Rattle.std.proofs.lemmas.List.{set-get_or}
use Rattle.cu_fuse.specs.Choosing.{plan_view}
use Rattle.cu_fuse.specs.Inlining.{is_numbered}
use Rattle.cu_name.specs.Keys.{made_prefix_of}
use Rattle.cu_op.specs.Arrays.{array_at, is_inlined, no_array}
use Rattle.cu_op.specs.PlanView.{PlanView}
use Rattle.cu_fuse.proofs.choice.Choice.rename_array.Goals as goal

-- the prefix that an array gets
abbrev prefix_now : PlanView → List ℕ → ℕ → ℕ → List ℕ
prefix_now p name others a = if is_numbered p (is_inlined p.arrays) a then made_prefix_of name others else (array_at p.arrays a).prefix

off : (p : PlanView) (name : List ℕ) (others a : ℕ) → is_numbered p (is_inlined p.arrays) a ≡ false
    → p ≡ record p { arrays = set p.arrays a (record (array_at p.arrays a) { prefix = prefix_now p name others a }) }
off p name others a f =
    let prefix : (array_at p.arrays a).prefix ≡ prefix_now p name others a = rw f refl in
    let same : p.arrays ≡ set p.arrays a (record (array_at p.arrays a) { prefix = prefix_now p name others a }) =
    sym (set-get_or p.arrays a no_array) ∙ ap (λ (n : List ℕ). set p.arrays a (record (array_at p.arrays a) { prefix = n })) prefix in
    λ i. record p { arrays = same i }

on : (p : PlanView) (name : List ℕ) (others a : ℕ) → is_numbered p (is_inlined p.arrays) a ≡ true → made_prefix_of name others ≡ prefix_now p name others a
on p name others a t = rw t refl

pub returns-then-not-is_numbered-clause-arrays : goal.returns-then-not-is_numbered-clause-arrays
returns-then-not-is_numbered-clause-arrays c =
    off (plan_view c.args.self.now) c.args.name.now c.args.others c.args.a (sym c.is_numbered.ensures ∙ c.if-not-is_numbered.true)

pub returns-then-not-is_numbered-clause-count : goal.returns-then-not-is_numbered-clause-count
returns-then-not-is_numbered-clause-count c =
    let p = plan_view c.args.self.now in
    let f : is_numbered p (is_inlined p.arrays) c.args.a ≡ false = sym c.is_numbered.ensures ∙ c.if-not-is_numbered.true in
    rw f refl

pub returns-clause-arrays : goal.returns-clause-arrays
returns-clause-arrays c =
    let p = plan_view c.args.self.now in
    let t : is_numbered p (is_inlined p.arrays) c.args.a ≡ true = sym c.is_numbered.ensures ∙ c.if-not-is_numbered.false in
    let prefix = c.made_prefix-prefix.ensures.prefix ∙ on p c.args.name.now c.args.others c.args.a t in
    c.set_prefix.ensures ∙ (λ i. record p { arrays = set p.arrays c.args.a (record (array_at p.arrays c.args.a) { prefix = prefix i }) })

pub returns-clause-count : goal.returns-clause-count
returns-clause-count c =
    let p = plan_view c.args.self.now in
    let t : is_numbered p (is_inlined p.arrays) c.args.a ≡ true = sym c.is_numbered.ensures ∙ c.if-not-is_numbered.false in
    rw t refl
