-- One node more of the live nodes, and what is known of a node that is looked up.
use Rattle.std.proofs.Common.{◌≡◌, ◌<◌, ◌+◌, Bool, true, false, List, [], ◌∷◌, ℕ, length, get_or, drop, Some, refl, sym, ap, subst, ◌∙◌, cond, arith}
use Rattle.std.specs.Prelude.{slice_get, sum_by, find}
use Rattle.std.proofs.lemmas.List.{drop_more}
use Rattle.std.proofs.lemmas.List.Sums.{sum_by-cons}
use Rattle.std.proofs.lemmas.Option.{slice_get-get_or}
use Rattle.cu_form.specs.Expression.{Expression, IsExpression}
use Rattle.cu_form.specs.Form.{takes_args}
use Rattle.cu_form.specs.declared.expr.Node.{Node}
use Rattle.cu_node.specs.declared.info.NodeInfo.{NodeInfo}
use Rattle.cu_need.specs.Live.{is_live, live_behind}
use Rattle.cu_need.specs.Need.{IsNodeWithin, AreWithinLimits}

-- the nodes from number k on: the first of them, where it is live, and the others
pub one_behind : (e : Expression) (nodes : List Node) (k : ℕ) (d : Node) → k < length nodes → live_behind e k (drop k nodes) ≡ cond (is_live e k) ((k, get_or nodes k d) ∷ live_behind e (k + 1) (drop (k + 1) nodes)) (live_behind e (k + 1) (drop (k + 1) nodes))
one_behind e nodes k d inside = ap (λ (ns : List Node). live_behind e k ns) (drop_more nodes k d inside)

pub live_behind_live : (e : Expression) (nodes : List Node) (k : ℕ) (d : Node) → k < length nodes → is_live e k ≡ true → live_behind e k (drop k nodes) ≡ (k, get_or nodes k d) ∷ live_behind e (k + 1) (drop (k + 1) nodes)
live_behind_live e nodes k d inside live = one_behind e nodes k d inside ∙ rw live refl

pub live_behind_dead : (e : Expression) (nodes : List Node) (k : ℕ) (d : Node) → k < length nodes → is_live e k ≡ false → live_behind e k (drop k nodes) ≡ live_behind e (k + 1) (drop (k + 1) nodes)
live_behind_dead e nodes k d inside dead = one_behind e nodes k d inside ∙ rw dead refl

-- ---- the first that passes a test

pub found_later : (e : Expression) (nodes : List Node) (k : ℕ) (d : Node) (test : ℕ × Node → Bool) → k < length nodes → is_live e k ≡ true → test (k, get_or nodes k d) ≡ false → find test (live_behind e k (drop k nodes)) ≡ find test (live_behind e (k + 1) (drop (k + 1) nodes))
found_later e nodes k d test inside live fails = ap (λ (ns : List (ℕ × Node)). find test ns) (live_behind_live e nodes k d inside live) ∙ rw fails refl

pub found_past : (e : Expression) (nodes : List Node) (k : ℕ) (test : ℕ × Node → Bool) → k < length nodes → is_live e k ≡ false → find test (live_behind e k (drop k nodes)) ≡ find test (live_behind e (k + 1) (drop (k + 1) nodes))
found_past e [] k test inside dead = absurd (omega (arith, inside))
found_past e (n ∷ ns) k test inside dead = ap (λ (nodes : List (ℕ × Node)). find test nodes) (live_behind_dead e (n ∷ ns) k n inside dead)

-- ---- sums

pub sum_here : (e : Expression) (nodes : List Node) (k : ℕ) (d : Node) (f : ℕ × Node → ℕ) → k < length nodes → is_live e k ≡ true → sum_by f (live_behind e k (drop k nodes)) ≡ f (k, get_or nodes k d) + sum_by f (live_behind e (k + 1) (drop (k + 1) nodes))
sum_here e nodes k d f inside live = ap (λ (ns : List (ℕ × Node)). sum_by f ns) (live_behind_live e nodes k d inside live) ∙ sum_by-cons f (k, get_or nodes k d) (live_behind e (k + 1) (drop (k + 1) nodes))

pub sum_past : (e : Expression) (nodes : List Node) (k : ℕ) (d : Node) (f : ℕ × Node → ℕ) → k < length nodes → is_live e k ≡ false → sum_by f (live_behind e k (drop k nodes)) ≡ sum_by f (live_behind e (k + 1) (drop (k + 1) nodes))
sum_past e nodes k d f inside dead = ap (λ (ns : List (ℕ × Node)). sum_by f ns) (live_behind_dead e nodes k d inside dead)

-- a sum over the live nodes, one node on
pub summed_here : (e : Expression) (nodes : List Node) (k : ℕ) (d : Node) (f : ℕ × Node → ℕ) (so_far own next total : ℕ) → k < length nodes → is_live e k ≡ true → own ≡ f (k, get_or nodes k d) → next ≡ so_far + own → so_far + sum_by f (live_behind e k (drop k nodes)) ≡ total → next + sum_by f (live_behind e (k + 1) (drop (k + 1) nodes)) ≡ total
summed_here e nodes k d f so_far own next total inside live same added before =
    let here = sum_here e nodes k d f inside live in
    omega (arith, here, same, added, before)

pub summed_past : (e : Expression) (nodes : List Node) (k : ℕ) (f : ℕ × Node → ℕ) (so_far next total : ℕ) → k < length nodes → is_live e k ≡ false → next ≡ so_far → so_far + sum_by f (live_behind e k (drop k nodes)) ≡ total → next + sum_by f (live_behind e (k + 1) (drop (k + 1) nodes)) ≡ total
summed_past e [] k f so_far next total inside dead same before = absurd (omega (arith, inside))
summed_past e (n ∷ ns) k f so_far next total inside dead same before =
    let past = sum_past e (n ∷ ns) k n f inside dead in
    omega (arith, past, same, before)

-- ---- a node that is looked up

node_at : (e : Expression) (nodes : List Node) (k : ℕ) (d : Node) → nodes ≡ e.nodes → k < length nodes → slice_get e.nodes k ≡ Some (get_or nodes k d)
node_at e nodes k d same inside = subst (λ (ns : List Node). slice_get ns k ≡ Some (get_or nodes k d)) same (slice_get-get_or nodes k d inside)

pub node_takes : (e : Expression) (nodes : List Node) (k : ℕ) (d : Node) → IsExpression e → nodes ≡ e.nodes → k < length nodes → takes_args (get_or nodes k d).form ≡ true
node_takes e nodes k d is same inside = (is.nodes k (get_or nodes k d) (node_at e nodes k d same inside)).form.args

pub node_within : (e : Expression) (infos : List NodeInfo) (nodes : List Node) (out k : ℕ) (d : Node) → AreWithinLimits e infos → out ≡ e.out → nodes ≡ e.nodes → k < length nodes
    → IsNodeWithin infos out k (get_or nodes k d).form
node_within e infos nodes out k d kept stored same inside =
    subst (λ (o : ℕ). IsNodeWithin infos o k (get_or nodes k d).form) (sym stored) (kept.nodes k (get_or nodes k d) (node_at e nodes k d same inside))
