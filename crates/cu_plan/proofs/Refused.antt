-- Why an expression has no plan, in the words of needs and counts.
use Rattle.std.proofs.Common.{◌≡◌, ◌⊎◌, inl, inr, ℕ, ◌≤◌, nat_lt, Bool, true, false, List, Option, Some, None, refl, sym, ap, ◌∙◌, subst, arith, if◌then◌else◌, option_map}
use Rattle.std.specs.Option.{option_or}
use Rattle.std.specs.Prelude.{slice_get}
use Rattle.std.proofs.lemmas.Bool.{cases_lt, lt-ltb, ltb-true}
use Rattle.cu_form.specs.Expression.{Expression}
use Rattle.cu_form.specs.declared.expr.Node.{Node}
use Rattle.cu_lower.specs.declared.options.Options.{Options}
use Rattle.cu_need.specs.Counts.{over_limit}
use Rattle.cu_need.specs.Need.{need_of, IsFirstOver}
use Rattle.cu_need.specs.declared.counts.OverLimit.{OverLimit as Exceeded}
use Rattle.cu_need.specs.declared.counts.PlanCounts.{PlanCounts}
use Rattle.cu_need.specs.declared.need.NodeNeed.{NodeNeed}
use Rattle.cu_node.specs.declared.info.NodeInfo.{NodeInfo}
use Rattle.cu_plan.specs.Refusal.{memory_fault, limit_fault, AreWithin, IsFirstLimit}
use Rattle.cu_plan.specs.declared.fault.PlanFault.{PlanFault}
use Rattle.cu_plan.specs.declared.fault.PlanFault.TheVariants.{OverMemory, OverLimit}

-- ---- the two tests, one after the other

-- nothing is refused where no node needs too much and no limit is exceeded
pub none_refused : (allowed : ℕ) (o : Option NodeNeed) (l : Option Exceeded) → o ≡ None → l ≡ None → option_or (option_map (memory_fault allowed) o) (option_map limit_fault l) ≡ None
none_refused allowed o l no_node no_limit = rw (no_node, no_limit) refl

pub memory_refused : (allowed : ℕ) (o : Option NodeNeed) (l : Option Exceeded) (n : NodeNeed) → o ≡ Some n → option_or (option_map (memory_fault allowed) o) (option_map limit_fault l) ≡ Some (memory_fault allowed n)
memory_refused allowed o l n is = rw is refl

pub limit_refused : (allowed : ℕ) (o : Option NodeNeed) (l : Option Exceeded) (x : Exceeded) → o ≡ None → l ≡ Some x
    → option_or (option_map (memory_fault allowed) o) (option_map limit_fault l) ≡ Some (limit_fault x)
limit_refused allowed o l x no_node is = rw (no_node, is) refl

-- a record is what its fields are
need_is : (n : NodeNeed) (node need : ℕ) → node ≡ n.node → need ≡ n.need → Some n ≡ Some (record { node = node; need = need })
need_is n node need a b = rw (a, b) refl

limit_is : (x : Exceeded) (which count : ℕ) → which ≡ x.which → count ≡ x.count → Some x ≡ Some (record { which = which; count = count })
limit_is x which count a b = rw (a, b) refl

some_limit : (a b : Exceeded) → ◌≡◌ {A = Option Exceeded} (Some a) (Some b) → a ≡ b
some_limit a b e = cc

module _ (allowed : ℕ) where
  abbrev refused : Option NodeNeed → Option Exceeded → Option PlanFault
  refused o l = option_or (option_map (memory_fault allowed) o) (option_map limit_fault l)

  pub refused_node : (o : Option NodeNeed) (l : Option Exceeded) (node need least : ℕ) → refused o l ≡ Some (OverMemory node need least)
      → (least ≡ allowed) × (o ≡ Some (record { node = node; need = need }))
  refused_node (Some n) l node need least e = let a : node ≡ n.node = cc in let b : need ≡ n.need = cc in (cc, need_is n node need a b)
  refused_node None (Some x) node need least e = cc
  refused_node None None node need least e = cc

  pub refused_limit : (o : Option NodeNeed) (l : Option Exceeded) (which count : ℕ) → refused o l ≡ Some (OverLimit which count)
      → (o ≡ None) × (l ≡ Some (record { which = which; count = count }))
  refused_limit (Some n) l which count e = cc
  refused_limit None (Some x) which count e = let a : which ≡ x.which = cc in let b : count ≡ x.count = cc in (refl, limit_is x which count a b)
  refused_limit None None which count e = cc

  pub refused_none : (o : Option NodeNeed) (l : Option Exceeded) → refused o l ≡ None → (o ≡ None) × (l ≡ None)
  refused_none (Some n) l e = cc
  refused_none None (Some x) e = cc
  refused_none None None e = (refl, refl)

-- ---- the counts

limits_by : (a b : Bool) (tasks cells which count : ℕ) → ◌≡◌ {A = Option Exceeded} (if a then Some (record { which = 1; count = tasks }) else if b then Some (record { which = 2; count = cells }) else None) (Some (record { which = which; count = count }))
    → ((a ≡ true) × (which ≡ 1) × (count ≡ tasks)) ⊎ ((a ≡ false) × (b ≡ true) × (which ≡ 2) × (count ≡ cells))
limits_by true b tasks cells which count e = let same = some_limit _ _ e in inl (refl, sym (ap (λ (x : Exceeded). x.which) same), sym (ap (λ (x : Exceeded). x.count) same))
limits_by false true tasks cells which count e = let same = some_limit _ _ e in inr (refl, refl, sym (ap (λ (x : Exceeded). x.which) same), sym (ap (λ (x : Exceeded). x.count) same))
limits_by false false tasks cells which count e = cc

at_most : (n m : ℕ) → nat_lt n m ≡ false → m ≤ n
at_most n m e = elim (cases_lt n m) [
  | inl less ↦ absurd (differ (nat_lt n m) (lt-ltb n m less) e)
  | inr least ↦ omega (arith, least)
]
  where
    differ : (b : Bool) → b ≡ true → b ≡ false → ⊥
    differ b holds fails = cc

not_less : (n m : ℕ) → m ≤ n → nat_lt n m ≡ false
not_less n m h = falls (nat_lt n m) refl
  where
    falls : (b : Bool) → nat_lt n m ≡ b → b ≡ false
    falls true e = let less = ltb-true n m e in absurd (omega (arith, less, h))
    falls false e = refl

pub first_limit : (c : PlanCounts) (which count : ℕ) → over_limit c ≡ Some (record { which = which; count = count }) → IsFirstLimit c which count
first_limit c which count e = elim (limits_by (nat_lt 65536 c.tasks) (nat_lt 262144 c.cells) c.tasks c.cells which count e) [
  | inl tasks ↦ inl (tasks.1, tasks.2, ltb-true 65536 c.tasks tasks.0)
  | inr cells ↦ inr (cells.2, cells.3, at_most 65536 c.tasks cells.0, ltb-true 262144 c.cells cells.1)
]

pub limit_found : (c : PlanCounts) (which count : ℕ) → IsFirstLimit c which count → over_limit c ≡ Some (record { which = which; count = count })
limit_found c which count (inl (is, same, over)) = rw (is, same, lt-ltb 65536 c.tasks over) refl
limit_found c which count (inr (is, same, few, over)) = rw (is, same, not_less 65536 c.tasks few, lt-ltb 262144 c.cells over) refl

-- ---- the nodes

same_node : (o : Option Node) (a b : Node) → o ≡ Some a → o ≡ Some b → a ≡ b
same_node o a b one other = cc

same_need : (options : Options) (e : Expression) (infos : List NodeInfo) (j k : ℕ) (a b : Node) → j ≡ k → a ≡ b
    → need_of options.reserved options.split_every infos e.out j a.form ≡ need_of options.reserved options.split_every infos e.out k b.form
same_need options e infos j k a b same is = rw (same, is) refl

-- where one node is the first, it is what is found
pub node_found : (options : Options) (e : Expression) (infos : List NodeInfo) (n : NodeNeed) (o : Option NodeNeed)
    → (o ≡ None → AreWithin options e infos) → ((found : NodeNeed) → o ≡ Some found → IsFirstOver options.allowed options.reserved options.split_every e infos found)
    → IsFirstOver options.allowed options.reserved options.split_every e infos n → o ≡ Some n
node_found options e infos n None none found first =
    let within = none refl n.node first.node first.is_node in
    let over = first.over in
    absurd (omega (arith, within, over, first.need))
node_found options e infos n (Some other) none found first =
    let second = found other refl in
    let same : other.node ≡ n.node = elim (cases_lt other.node n.node) [
      | inl before ↦ let within = first.first other.node second.node before second.is_node in let over = second.over in absurd (omega (arith, within, over, second.need))
      | inr behind ↦ elim (cases_lt n.node other.node) [
        | inl before ↦ let within = second.first n.node first.node before first.is_node in let over = first.over in absurd (omega (arith, within, over, first.need))
        | inr least ↦ omega (arith, behind, least)
      ]
    ] in
    let node : second.node ≡ first.node = same_node (slice_get e.nodes n.node) second.node first.node (subst (λ (k : ℕ). slice_get e.nodes k ≡ Some second.node) same second.is_node.at) first.is_node.at in
    let need : other.need ≡ n.need = second.need ∙ same_need options e infos other.node n.node second.node first.node same node ∙ sym first.need in
    sym (need_is n other.node other.need same need)
