-- The live nodes are the least set that has the stored node, and with each node its arguments.
use Rattle.std.proofs.Common.{◌≡◌, ◌<◌, ◌≤◌, ◌+◌, ◌==◌, ◌&&◌, ◌||◌, nat_lt, zero, suc, Bool, true, false, List, [], ◌∷◌, ℕ, length, Some, refl, sym, inl, inr, ◌⊎◌, ◌∙◌, ap, subst, arith, get_or, drop, slice_set, replicate}
use Rattle.std.specs.Prelude.{slice_get}
use Rattle.std.specs.List.{list_all, list_any}
use Rattle.std.proofs.lemmas.Bool.{eqb-true, eq-eqb, ltb-true, or_cases, or_left, or_right, and_parts, and_from, cases_lt, cases_eq, ne_eqb}
use Rattle.std.proofs.Math.Bool.{or-false}
use Rattle.std.proofs.Math.Seq.{drop-length}
use Rattle.std.proofs.lemmas.Grind.{get_or-set_at}
use Rattle.std.proofs.lemmas.List.{drop_more, get_or_default, get_or_past, get_or-replicate, get_or-set_other, length-replicate}
use Rattle.std.proofs.lemmas.Option.{slice_get-get_or}
use Rattle.cu_form.specs.Expression.{Expression, IsExpression}
use Rattle.cu_form.specs.Form.{args_of, is_earlier, names_earlier}
use Rattle.cu_form.specs.declared.args.Arg.{Arg}
use Rattle.cu_form.specs.declared.expr.Node.{Node}
use Rattle.cu_need.specs.Live.{is_node, has_argument, is_live_from, is_live, IsClosed, IsLiveArgument}

-- an argument of a node that names earlier nodes is an earlier node
earlier_argument : (args : List Arg) (k j : ℕ) → list_all (is_earlier k) args ≡ true → list_any (is_node j) args ≡ true → j < k
earlier_argument [] k j earlier has = absurd (cc has)
earlier_argument (Arg.Node n ∷ args) k j earlier has =
    let e = and_parts (nat_lt n k) (list_all (is_earlier k) args) earlier in
    elim (or_cases (n == j) (list_any (is_node j) args) has) [
      | inl same ↦ omega (arith, eqb-true n j same, ltb-true n k e.0)
      | inr later ↦ earlier_argument args k j e.1 later
    ]
earlier_argument (Arg.Int x ∷ args) k j earlier has = earlier_argument args k j earlier has
earlier_argument (Arg.Truth b ∷ args) k j earlier has = earlier_argument args k j earlier has

-- nodes of which each names earlier ones, the first of them with number k
abbrev NameEarlier : ℕ → List Node → Type 0
NameEarlier k ns = (i : ℕ) (n : Node) → slice_get ns i ≡ Some n → names_earlier (k + i) n.form ≡ true

tail_earlier : (k : ℕ) (m : Node) (ns : List Node) → NameEarlier k (m ∷ ns) → NameEarlier (k + 1) ns
tail_earlier k m ns earlier i n at =
    let same : k + suc i ≡ k + 1 + i = omega arith in
    subst (λ (number : ℕ). names_earlier number n.form ≡ true) same (earlier (suc i) n at)

head_earlier : (k : ℕ) (m : Node) (ns : List Node) → NameEarlier k (m ∷ ns) → names_earlier k m.form ≡ true
head_earlier k m ns earlier =
    let same : k + 0 ≡ k = omega arith in
    subst (λ (number : ℕ). names_earlier number m.form ≡ true) same (earlier zero m refl)

-- an argument of a live node is live
argument_from : (out k : ℕ) (ns : List Node) (i j : ℕ) (n : Node) → NameEarlier k ns → slice_get ns i ≡ Some n → is_live_from out k ns (k + i) ≡ true → has_argument n j ≡ true → is_live_from out k ns j ≡ true
argument_from out k [] i j n earlier at live has = absurd (cc at)
argument_from out k (m ∷ ns) zero j n earlier at live has =
    let same : m ≡ n = cc at in
    let place : k + zero ≡ k = omega arith in
    let here = subst (λ (number : ℕ). is_live_from out k (m ∷ ns) number ≡ true) place live in
    let decided : is_live_from out (k + 1) ns k ≡ true =
    elim (or_cases (is_live_from out (k + 1) ns k) (is_live_from out (k + 1) ns k && has_argument m k) here) [
      | inl later ↦ later
      | inr both ↦ (and_parts (is_live_from out (k + 1) ns k) (has_argument m k) both).0
    ] in
    let argument = subst (λ (node : Node). has_argument node j ≡ true) (sym same) has in
    or_right (is_live_from out (k + 1) ns j) (is_live_from out (k + 1) ns k && has_argument m j) (and_from (is_live_from out (k + 1) ns k) (has_argument m j) decided argument)
argument_from out k (m ∷ ns) (suc i) j n earlier at live has =
    let place : k + suc i ≡ k + 1 + i = omega arith in
    let here = subst (λ (number : ℕ). is_live_from out k (m ∷ ns) number ≡ true) place live in
    let later : is_live_from out (k + 1) ns (k + 1 + i) ≡ true =
    elim (or_cases (is_live_from out (k + 1) ns (k + 1 + i)) (is_live_from out (k + 1) ns k && has_argument m (k + 1 + i)) here) [
      | inl later ↦ later
      | inr both ↦
          let below : k + 1 + i < k = earlier_argument (args_of m.form) k (k + 1 + i) (head_earlier k m ns earlier) (and_parts (is_live_from out (k + 1) ns k) (has_argument m (k + 1 + i)) both).1 in
          absurd (omega (arith, below))
    ] in
    or_left (is_live_from out (k + 1) ns j) (is_live_from out (k + 1) ns k && has_argument m j) (argument_from out (k + 1) ns i j n (tail_earlier k m ns earlier) at later has)

-- the stored node is live
stored_from : (out k : ℕ) (ns : List Node) → is_live_from out k ns out ≡ true
stored_from out k [] = eq-eqb out out refl
stored_from out k (m ∷ ns) = or_left (is_live_from out (k + 1) ns out) (is_live_from out (k + 1) ns k && has_argument m out) (stored_from out (k + 1) ns)

-- no number past the stored node's is live
below_from : (out k : ℕ) (ns : List Node) (j : ℕ) → NameEarlier k ns → is_live_from out k ns j ≡ true → j ≤ out
below_from out k [] j earlier live = omega (arith, eqb-true j out live)
below_from out k (m ∷ ns) j earlier live =
    elim (or_cases (is_live_from out (k + 1) ns j) (is_live_from out (k + 1) ns k && has_argument m j) live) [
      | inl later ↦ below_from out (k + 1) ns j (tail_earlier k m ns earlier) later
      | inr both ↦
          let parts = and_parts (is_live_from out (k + 1) ns k) (has_argument m j) both in
          let here : k ≤ out = below_from out (k + 1) ns k (tail_earlier k m ns earlier) parts.0 in
          let argument : j < k = earlier_argument (args_of m.form) k j (head_earlier k m ns earlier) parts.1 in
          omega arith
    ]

-- a set that has the stored node and, with each node, its arguments has each live node
least_from : (out k : ℕ) (ns : List Node) (among : ℕ → Bool) (j : ℕ) → among out ≡ true → ((i a : ℕ) (n : Node) → slice_get ns i ≡ Some n → among (k + i) ≡ true → has_argument n a ≡ true → among a ≡ true) → is_live_from out k ns j ≡ true → among j ≡ true
least_from out k [] among j stored arguments live = subst (λ (number : ℕ). among number ≡ true) (sym (eqb-true j out live)) stored
least_from out k (m ∷ ns) among j stored arguments live =
    let place : k + zero ≡ k = omega arith in
    let next : (i a : ℕ) (n : Node) → slice_get ns i ≡ Some n → among (k + 1 + i) ≡ true → has_argument n a ≡ true → among a ≡ true =
    λ i a n at has_it has. arguments (suc i) a n at (let same : k + 1 + i ≡ k + suc i = omega arith in subst (λ (number : ℕ). among number ≡ true) same has_it) has in
    elim (or_cases (is_live_from out (k + 1) ns j) (is_live_from out (k + 1) ns k && has_argument m j) live) [
      | inl later ↦ least_from out (k + 1) ns among j stored next later
      | inr both ↦
          let parts = and_parts (is_live_from out (k + 1) ns k) (has_argument m j) both in
          let here = least_from out (k + 1) ns among k stored next parts.0 in
          arguments zero j m refl (subst (λ (number : ℕ). among number ≡ true) (sym place) here) parts.1
    ]

-- a live node is the stored one, or an argument of a live node
reason_from : (out k : ℕ) (ns : List Node) (j : ℕ) → is_live_from out k ns j ≡ true → (j ≡ out) ⊎ ((i : ℕ) × (n : Node) × (slice_get ns i ≡ Some n) × (is_live_from out k ns (k + i) ≡ true) × (has_argument n j ≡ true))
reason_from out k [] j live = inl (eqb-true j out live)
reason_from out k (m ∷ ns) j live =
    elim (or_cases (is_live_from out (k + 1) ns j) (is_live_from out (k + 1) ns k && has_argument m j) live) [
      | inl later ↦
          elim (reason_from out (k + 1) ns j later) [
            | inl stored ↦ inl stored
            | inr w ↦
                let place : k + 1 + w.0 ≡ k + suc w.0 = omega arith in
                let kept = or_left (is_live_from out (k + 1) ns (k + 1 + w.0)) (is_live_from out (k + 1) ns k && has_argument m (k + 1 + w.0)) w.3 in
                inr (suc w.0, w.1, w.2, subst (λ (number : ℕ). is_live_from out k (m ∷ ns) number ≡ true) place kept, w.4)
          ]
      | inr both ↦
          let parts = and_parts (is_live_from out (k + 1) ns k) (has_argument m j) both in
          let place : k ≡ k + zero = omega arith in
          let kept = or_left (is_live_from out (k + 1) ns k) (is_live_from out (k + 1) ns k && has_argument m k) parts.0 in
          inr (zero, m, refl, subst (λ (number : ℕ). is_live_from out k (m ∷ ns) number ≡ true) place kept, parts.1)
    ]

-- ---- of an expression

pub nodes_earlier : (e : Expression) → IsExpression e → NameEarlier 0 e.nodes
nodes_earlier e is i n at =
    let same : i ≡ 0 + i = omega arith in
    subst (λ (number : ℕ). names_earlier number n.form ≡ true) same (is.nodes i n at).form.earlier

pub live_closed : (e : Expression) → IsExpression e → IsClosed e (is_live e)
live_closed e is = record {
  stored = stored_from e.out 0 e.nodes;
  arguments = λ k j node at live has.
      let same : k ≡ 0 + k = omega arith in
      argument_from e.out 0 e.nodes k j node (nodes_earlier e is) at (subst (λ (number : ℕ). is_live e number ≡ true) same live) has;
}

pub live_least : (e : Expression) (among : ℕ → Bool) (j : ℕ) → IsClosed e among → is_live e j ≡ true → among j ≡ true
live_least e among j closed live =
    least_from e.out 0 e.nodes among j closed.stored
    (λ i a n at has_it has. closed.arguments i a n at (let same : 0 + i ≡ i = omega arith in subst (λ (number : ℕ). among number ≡ true) same has_it) has)
    live

pub live_reason : (e : Expression) (j : ℕ) → is_live e j ≡ true → (j ≡ e.out) ⊎ IsLiveArgument e j
live_reason e j live =
    elim (reason_from e.out 0 e.nodes j live) [
      | inl stored ↦ inl stored
      | inr w ↦
          let same : 0 + w.0 ≡ w.0 = omega arith in
          inr (record { k = w.0; node = w.1; at = w.2; live = subst (λ (number : ℕ). is_live e number ≡ true) same w.3; argument = w.4 })
    ]

pub live_below : (e : Expression) (j : ℕ) → IsExpression e → is_live e j ≡ true → j ≤ e.out
live_below e j is live = below_from e.out 0 e.nodes j (nodes_earlier e is) live

-- ---- for the loop that marks them

-- one node more decides
pub one_more : (out k p : ℕ) (nodes : List Node) (n : Node) (j : ℕ) → p + 1 ≡ k → p < length nodes → n ≡ get_or nodes p n → is_live_from out p (drop p nodes) j ≡ (is_live_from out k (drop k nodes) j || (is_live_from out k (drop k nodes) p && has_argument n j))
one_more out k p nodes n j next inside at =
    let front : drop p nodes ≡ get_or nodes p n ∷ drop (p + 1) nodes = drop_more nodes p n inside in
    let whole : drop p nodes ≡ n ∷ drop (p + 1) nodes = front ∙ ap (λ (node : Node). node ∷ drop (p + 1) nodes) (sym at) in
    let same = ap (λ (ns : List Node). is_live_from out p ns j) whole in
    subst (λ (number : ℕ). is_live_from out p (drop p nodes) j ≡ (is_live_from out number (drop number nodes) j || (is_live_from out number (drop number nodes) p && has_argument n j))) next same

-- a node that is not live changes no mark
pub one_dead : (out k p : ℕ) (nodes : List Node) (j : ℕ) → p + 1 ≡ k → p < length nodes → is_live_from out k (drop k nodes) p ≡ false → is_live_from out p (drop p nodes) j ≡ is_live_from out k (drop k nodes) j
one_dead out k p [] j next inside dead = absurd (omega (arith, inside))
one_dead out k p (m ∷ ms) j next inside dead =
    let n = get_or (m ∷ ms) p m in
    let at : n ≡ get_or (m ∷ ms) p n = get_or_default (m ∷ ms) p m n inside in
    let more = one_more out k p (m ∷ ms) n j next inside at in
    more ∙ rw dead (or-false (is_live_from out k (drop k (m ∷ ms)) j))

no_mark : (n j : ℕ) → get_or (replicate n false) j false ≡ false
no_mark n j = elim (cases_lt j n) [
  | inl inside ↦ get_or-replicate n j false false inside
  | inr past ↦ get_or_past (replicate n false) j false (omega (arith, length-replicate n false, past))
]

-- the stored node alone is marked at first
pub first_mark : (n out j : ℕ) → out < n → get_or (slice_set (replicate n false) out true) j false ≡ (j == out)
first_mark n out j inside = elim (cases_eq j out) [
  | inl same ↦ rw (eq-eqb j out same) (get_or-set_at (replicate n false) out j true false same (omega (arith, length-replicate n false, inside)))
  | inr other ↦ rw (ne_eqb j out other) (get_or-set_other (replicate n false) out j true false other ∙ no_mark n j)
]

-- at the end of the nodes
pub none_left : (out k : ℕ) (nodes : List Node) (j : ℕ) → k ≡ length nodes → is_live_from out k (drop k nodes) j ≡ (j == out)
none_left out k nodes j end =
    let e : drop k nodes ≡ [] = rw end (drop-length nodes) in
    ap (λ (ns : List Node). is_live_from out k ns j) e

-- a node that is looked up names earlier nodes
pub node_earlier : (e : Expression) (nodes : List Node) (p : ℕ) (d : Node) (args : List Arg) → IsExpression e → nodes ≡ e.nodes → p < length nodes → args ≡ args_of (get_or nodes p d).form → list_all (is_earlier p) args ≡ true
node_earlier e nodes p d args is same inside taken =
    let at = slice_get-get_or nodes p d inside in
    rw taken (is.nodes p (get_or nodes p d) (subst (λ (ns : List Node). slice_get ns p ≡ Some (get_or nodes p d)) same at)).form.earlier
