use Rattle.std.proofs.Common.{◌≡◌, ◌<◌, ◌+◌, ◌||◌, ◌∙◌, ℕ, Bool, false, true, List, length, get_or, take, sym, subst}
use Rattle.std.proofs.lemmas.List.Folds.{list_any_more}
use Rattle.std.specs.List.{list_any}
use Rattle.cu_form.specs.declared.expr.Node.{Node}
use Rattle.cu_top.specs.Prepare.{reads_array}
use Rattle.cu_top.proofs.ask.is_own_input.Goals as goal

neither : (a b : Bool) → a ≡ false → b ≡ false → (a || b) ≡ false
neither false b before this = this
neither true b before this = before

-- one node more that doesn't read it
none_more : (name : List ℕ) (nodes : List Node) (k : ℕ) (node : Node) → k < length nodes → reads_array name (get_or nodes k node).form ≡ false → list_any (λ n. reads_array name n.form) (take k nodes) ≡ false
    → list_any (λ n. reads_array name n.form) (take (k + 1) nodes) ≡ false
none_more name nodes k node within this before =
    list_any_more (λ n. reads_array name n.form) nodes k node within ∙ neither (list_any (λ n. reads_array name n.form) (take k nodes)) (reads_array name (get_or nodes k node).form) before this

pub loop-k-preserved : goal.loop-k-preserved
loop-k-preserved c =
    let same = c.nodes-nodes.ensures.nodes in
    let this = sym c.reads_array.ensures ∙ c.if-reads_array.false in
    let named = subst (λ (name : List ℕ). reads_array name (get_or c.nodes-nodes.result.now c.loop-k.k c.index-nodes-k.result).form ≡ false) c.store_as.ensures.name this in
    subst (λ (nodes : List Node). list_any (λ n. reads_array c.args.expr.now.store_as n.form) (take (c.loop-k.k + 1) nodes) ≡ false) same
    (none_more c.args.expr.now.store_as c.nodes-nodes.result.now c.loop-k.k c.index-nodes-k.result c.loop-k-test.true named
    (subst (λ (nodes : List Node). list_any (λ n. reads_array c.args.expr.now.store_as n.form) (take c.loop-k.k nodes) ≡ false) (sym same) c.loop-k.invariant))
