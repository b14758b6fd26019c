-- What holds of each argument of a node that is an array.
use Rattle.std.proofs.Common.{◌≡◌, ℕ, ◌<◌, ◌==◌, Bool, true, nat_lt, List, [], ◌∷◌, All, Some, map, slice_index, get_or, refl, ap, ◌∙◌, subst, arith}
use Rattle.std.specs.Prelude.{slice_get}
use Rattle.std.specs.List.{list_all, list_any}
use Rattle.std.proofs.lemmas.Bool.{and_parts, or_left, or_right, eq-eqb, ltb-true}
use Rattle.std.proofs.lemmas.List.Elements.{All-nil, All-cons, All-head, All-tail}
use Rattle.std.proofs.lemmas.Option.{slice_get_within, slice_get-get_or}
use Rattle.cu_form.specs.Expression.{Expression, IsExpression}
use Rattle.cu_form.specs.Form.{args_of, is_earlier}
use Rattle.cu_form.specs.declared.args.Arg.{Arg}
use Rattle.cu_form.specs.declared.expr.Node.{Node}
use Rattle.cu_form.specs.declared.form.Form.{Form}
use Rattle.cu_node.specs.Info.{info_at}
use Rattle.cu_node.specs.declared.info.NodeInfo.{NodeInfo}
use Rattle.cu_typing.specs.Joined.{arrays_of}
use Rattle.cu_expr.specs.Typing.{argument_of}
use Rattle.cu_need.specs.Chunks.{arrays_in}
use Rattle.cu_need.specs.Live.{is_live, is_node, IsClosed}
use Rattle.cu_lower_view.specs.Sources.{sources_of}
use Rattle.cu_lower.specs.Parts.{array_places}

-- P holds of each node that is an argument
abbrev pub Each : (ℕ → Type 0) → List Arg → Type 0
Each P [] = Unit {0}
Each P (Arg.Node n ∷ args) = P n × Each P args
Each P (Arg.Int x ∷ args) = Each P args
Each P (Arg.Truth b ∷ args) = Each P args

pub each_so : (P Q : ℕ → Type 0) → ((n : ℕ) → P n → Q n) → (args : List Arg) → Each P args → Each Q args
each_so P Q so [] h = tt
each_so P Q so (Arg.Node n ∷ args) h = (so n h.0, each_so P Q so args h.1)
each_so P Q so (Arg.Int x ∷ args) h = each_so P Q so args h
each_so P Q so (Arg.Truth b ∷ args) h = each_so P Q so args h

-- an argument of a live node is an earlier live node
pub record IsEarlierNode (e : Expression) (k n : ℕ) : Type 0 where
  pub below : n < k
  pub live : is_live e n ≡ true
  pub node : Node
  pub at : slice_get e.nodes n ≡ Some node

pub live_arguments : (e : Expression) → IsExpression e → IsClosed e (is_live e) → (k : ℕ) (node : Node) (f : Form) → slice_get e.nodes k ≡ Some node
    → node.form ≡ f → is_live e k ≡ true → Each (IsEarlierNode e k) (args_of f)
live_arguments e form closed k node f at is live =
    over (args_of f) (subst (λ (x : Form). list_all (is_earlier k) (args_of x) ≡ true) is (form.nodes k node at).form.earlier)
    (λ j has. closed.arguments k j node at live (ap (λ x. list_any (is_node j) (args_of x)) is ∙ has))
  where
    over : (rest : List Arg) → list_all (is_earlier k) rest ≡ true → ((j : ℕ) → list_any (is_node j) rest ≡ true → is_live e j ≡ true) → Each (IsEarlierNode e k) rest
    over [] earlier alive = tt
    over (Arg.Node n ∷ rest) earlier alive =
        let both = and_parts (nat_lt n k) (list_all (is_earlier k) rest) earlier in
        let below = ltb-true n k both.0 in
        let there = slice_get_within e.nodes k node at in (
          record {
            below = below;
            live = alive n (or_left (n == n) (list_any (is_node n) rest) (eq-eqb n n refl));
            node = get_or e.nodes n node;
            at = slice_get-get_or e.nodes n node (omega (arith, below, there));
          },
          over rest both.1 (λ j has. alive j (or_right (n == j) (list_any (is_node j) rest) has)),
        )
    over (Arg.Int x ∷ rest) earlier alive = over rest earlier alive
    over (Arg.Truth b ∷ rest) earlier alive = over rest earlier alive

-- ---- the arrays of arguments

pub all_places : (places : List ℕ) (P : ℕ → Type 0) (args : List Arg) → Each (λ n. P (slice_index places n)) args → All P (array_places places args)
all_places places P [] h = All-nil P
all_places places P (Arg.Node n ∷ args) h = All-cons P (slice_index places n) (array_places places args) h.0 (all_places places P args h.1)
all_places places P (Arg.Int x ∷ args) h = all_places places P args h
all_places places P (Arg.Truth b ∷ args) h = all_places places P args h

-- a function of the places is a function of what is known of the nodes
pub mapped_places : {B : Type 0} (places : List ℕ) (infos : List NodeInfo) (f : ℕ → B) (g : NodeInfo → B) (args : List Arg)
    → Each (λ n. f (slice_index places n) ≡ g (info_at infos n)) args → map f (array_places places args) ≡ map g (arrays_in infos args)
mapped_places places infos f g [] h = refl
mapped_places places infos f g (Arg.Node n ∷ args) h =
    ap (λ x. x ∷ map f (array_places places args)) h.0 ∙ ap (λ xs. g (info_at infos n) ∷ xs) (mapped_places places infos f g args h.1)
mapped_places places infos f g (Arg.Int x ∷ args) h = mapped_places places infos f g args h
mapped_places places infos f g (Arg.Truth b ∷ args) h = mapped_places places infos f g args h

-- the arrays that are told are those among the arguments
pub arrays_told : (infos : List NodeInfo) (args : List Arg) → arrays_of (map (argument_of infos) args) ≡ arrays_in infos args
arrays_told infos [] = refl
arrays_told infos (Arg.Node n ∷ args) = ap (λ is. info_at infos n ∷ is) (arrays_told infos args)
arrays_told infos (Arg.Int x ∷ args) = arrays_told infos args
arrays_told infos (Arg.Truth b ∷ args) = arrays_told infos args

-- in the words of views
pub sources_in : (infos : List NodeInfo) (args : List Arg) → arrays_in infos args ≡ sources_of infos args
sources_in infos [] = refl
sources_in infos (Arg.Node n ∷ args) = ap (λ is. info_at infos n ∷ is) (sources_in infos args)
sources_in infos (Arg.Int x ∷ args) = sources_in infos args
sources_in infos (Arg.Truth b ∷ args) = sources_in infos args

-- what holds of each array among the arguments
pub each_array : (infos : List NodeInfo) (P : NodeInfo → Type 0) (args : List Arg) → All P (arrays_in infos args) → Each (λ n. P (info_at infos n)) args
each_array infos P [] h = tt
each_array infos P (Arg.Node n ∷ args) h = (All-head P (info_at infos n) (arrays_in infos args) h, each_array infos P args (All-tail P (info_at infos n) (arrays_in infos args) h))
each_array infos P (Arg.Int x ∷ args) h = each_array infos P args h
each_array infos P (Arg.Truth b ∷ args) h = each_array infos P args h

pub each_both : (P Q R : ℕ → Type 0) → ((n : ℕ) → P n → Q n → R n) → (args : List Arg) → Each P args → Each Q args → Each R args
each_both P Q R so [] p q = tt
each_both P Q R so (Arg.Node n ∷ args) p q = (so n p.0 q.0, each_both P Q R so args p.1 q.1)
each_both P Q R so (Arg.Int x ∷ args) p q = each_both P Q R so args p q
each_both P Q R so (Arg.Truth b ∷ args) p q = each_both P Q R so args p q

-- what a test says of each of them
pub each_tested : (infos : List NodeInfo) (test : NodeInfo → Bool) (args : List Arg) → list_all test (arrays_in infos args) ≡ true → Each (λ n. test (info_at infos n) ≡ true) args
each_tested infos test [] h = tt
each_tested infos test (Arg.Node n ∷ args) h = let both = and_parts (test (info_at infos n)) (list_all test (arrays_in infos args)) h in (both.0, each_tested infos test args both.1)
each_tested infos test (Arg.Int x ∷ args) h = each_tested infos test args h
each_tested infos test (Arg.Truth b ∷ args) h = each_tested infos test args h
