-- The first live node that passes a test.
use Rattle.std.proofs.Common.{◌≡◌, ◌<◌, ◌≤◌, ◌+◌, ◌&&◌, zero, suc, Bool, true, false, List, [], ◌∷◌, ℕ, Option, None, Some, cond, nat_lt, refl, sym, ap, subst, ◌∙◌, inl, inr, ◌⊎◌, ◌↔◌, arith}
use Rattle.std.specs.Prelude.{slice_get, find, option_map}
use Rattle.std.proofs.lemmas.Bool.{and_parts, ltb-true, ltb-false, le-ltb}
use Rattle.cu_form.specs.Expression.{Expression}
use Rattle.cu_form.specs.declared.expr.Node.{Node}
use Rattle.cu_node.specs.declared.info.NodeInfo.{NodeInfo}
use Rattle.cu_need.specs.Live.{is_live, live_behind, live_nodes}
use Rattle.cu_need.specs.Need.{need_of, first_over, IsLiveNode, IsFirstOver}
use Rattle.cu_need.specs.declared.need.NodeNeed.{NodeNeed}

-- one node more
step : (test : ℕ × Node → Bool) (live : Bool) (x : ℕ × Node) (xs : List (ℕ × Node)) → find test (cond live (x ∷ xs) xs) ≡ cond (live && test x) (Some x) (find test xs)
step test true x xs = refl
step test false x xs = refl

none_parts : (b : Bool) (x : ℕ × Node) (rest : Option (ℕ × Node)) → cond b (Some x) rest ≡ None → (b ≡ false) × (rest ≡ None)
none_parts true x rest h = absurd (cc h)
none_parts false x rest h = (refl, h)

some_parts : (b : Bool) (x p : ℕ × Node) (rest : Option (ℕ × Node)) → cond b (Some x) rest ≡ Some p → ((b ≡ true) × (x ≡ p)) ⊎ ((b ≡ false) × (rest ≡ Some p))
some_parts true x p rest h = inl (refl, cc h)
some_parts false x p rest h = inr (refl, h)

fails_live : (live passes : Bool) → (live && passes) ≡ false → live ≡ true → passes ≡ false
fails_live true passes h l = h
fails_live false passes h l = absurd (cc l)

-- where none is found, each live node fails the test
none_passes : (e : Expression) (ns : List Node) (k : ℕ) (test : ℕ × Node → Bool) → find test (live_behind e k ns) ≡ None → (i j : ℕ) (n : Node) → j ≡ k + i → slice_get ns i ≡ Some n → is_live e j ≡ true → test (j, n) ≡ false
none_passes e [] k test none i j n place at live = absurd (cc at)
none_passes e (m ∷ ms) k test none zero j n place at live =
    let same : m ≡ n = cc at in
    let number : j ≡ k = omega (arith, place) in
    let parts = none_parts (is_live e k && test (k, m)) (k, m) (find test (live_behind e (k + 1) ms)) (sym (step test (is_live e k) (k, m) (live_behind e (k + 1) ms)) ∙ none) in
    let here : test (k, m) ≡ false = fails_live (is_live e k) (test (k, m)) parts.0 (subst (λ (a : ℕ). is_live e a ≡ true) number live) in
    subst (λ (a : ℕ). test (a, n) ≡ false) (sym number) (subst (λ (node : Node). test (k, node) ≡ false) same here)
none_passes e (m ∷ ms) k test none (suc i) j n place at live =
    let parts = none_parts (is_live e k && test (k, m)) (k, m) (find test (live_behind e (k + 1) ms)) (sym (step test (is_live e k) (k, m) (live_behind e (k + 1) ms)) ∙ none) in
    none_passes e ms (k + 1) test parts.1 i j n (omega (arith, place)) at live

both_false : (live passes : Bool) → (live ≡ true → passes ≡ false) → (live && passes) ≡ false
both_false true passes h = h refl
both_false false passes h = refl

-- where each live node fails the test, none is found
nothing_found : (e : Expression) (ns : List Node) (k : ℕ) (test : ℕ × Node → Bool) → ((i j : ℕ) (n : Node) → j ≡ k + i → slice_get ns i ≡ Some n → is_live e j ≡ true → test (j, n) ≡ false) → find test (live_behind e k ns) ≡ None
nothing_found e [] k test fails = refl
nothing_found e (m ∷ ms) k test fails =
    let here = both_false (is_live e k) (test (k, m)) (λ live. fails zero k m (omega arith) refl live) in
    let rest = nothing_found e ms (k + 1) test (λ i j n place at live. fails (suc i) j n (omega (arith, place)) at live) in
    step test (is_live e k) (k, m) (live_behind e (k + 1) ms) ∙ rw here rest

-- what is known of the node that is found, where the nodes before it are those from number k on
record IsFound (e : Expression) (ns : List Node) (k : ℕ) (test : ℕ × Node → Bool) (p : ℕ × Node) : Type 0 where
  i : ℕ
  place : p.0 ≡ k + i
  at : slice_get ns i ≡ Some p.1
  live : is_live e p.0 ≡ true
  passes : test p ≡ true
  first : (a j : ℕ) (n : Node) → a < i → j ≡ k + a → slice_get ns a ≡ Some n → is_live e j ≡ true → test (j, n) ≡ false

found_before : (e : Expression) (m : Node) (ms : List Node) (k : ℕ) (test : ℕ × Node → Bool) (i : ℕ) → (is_live e k && test (k, m)) ≡ false
    → ((a j : ℕ) (n : Node) → a < i → j ≡ k + 1 + a → slice_get ms a ≡ Some n → is_live e j ≡ true → test (j, n) ≡ false)
    → (a j : ℕ) (n : Node) → a < suc i → j ≡ k + a → slice_get (m ∷ ms) a ≡ Some n → is_live e j ≡ true → test (j, n) ≡ false
found_before e m ms k test i here first zero j n before place at live =
    let same : m ≡ n = cc at in
    let number : j ≡ k = omega (arith, place) in
    let fails : test (k, m) ≡ false = fails_live (is_live e k) (test (k, m)) here (subst (λ (a : ℕ). is_live e a ≡ true) number live) in
    subst (λ (a : ℕ). test (a, n) ≡ false) (sym number) (subst (λ (node : Node). test (k, node) ≡ false) same fails)
found_before e m ms k test i here first (suc a) j n before place at live = first a j n (omega (arith, before)) (omega (arith, place)) at live

found_first : (e : Expression) (ns : List Node) (k : ℕ) (test : ℕ × Node → Bool) (p : ℕ × Node) → find test (live_behind e k ns) ≡ Some p → IsFound e ns k test p
found_first e [] k test p found = absurd (cc found)
found_first e (m ∷ ms) k test p found =
    elim (some_parts (is_live e k && test (k, m)) (k, m) p (find test (live_behind e (k + 1) ms)) (sym (step test (is_live e k) (k, m) (live_behind e (k + 1) ms)) ∙ found)) [
      | inl here ↦
          let both = and_parts (is_live e k) (test (k, m)) here.0 in
          subst (λ (q : ℕ × Node). IsFound e (m ∷ ms) k test q) here.1
          (record { i = zero; place = omega arith; at = refl; live = both.0; passes = both.1; first = λ a j n before place at live. absurd (omega (arith, before)) })
      | inr later ↦
          let w = found_first e ms (k + 1) test p later.1 in
          record {
            i = suc w.i;
            place = omega (arith, w.place);
            at = w.at;
            live = w.live;
            passes = w.passes;
            first = found_before e m ms k test w.i later.0 w.first;
          }
    ]

-- ---- by a function of what is found

mapped_none : {B : Type 0} (f : ℕ × Node → B) (o : Option (ℕ × Node)) → option_map f o ≡ None → o ≡ None
mapped_none f None h = refl
mapped_none f (Some x) h = absurd (cc h)

mapped_some : {B : Type 0} (f : ℕ × Node → B) (o : Option (ℕ × Node)) (y : B) → option_map f o ≡ Some y → (x : ℕ × Node) × (o ≡ Some x) × (f x ≡ y)
mapped_some f None y h = absurd (cc h)
mapped_some f (Some x) y h = (x, refl, cc h)

-- a live node of a list, and of the expression
live_at : (e : Expression) (i j : ℕ) (n : Node) → j ≡ 0 + i → slice_get e.nodes i ≡ Some n → is_live e j ≡ true → IsLiveNode e j n
live_at e i j n place at live =
    let number : i ≡ j = omega (arith, place) in
    record { at = subst (λ (a : ℕ). slice_get e.nodes a ≡ Some n) number at; live = live }

-- ---- nodes that need more than is allowed

abbrev is_over : ℕ → ℕ → ℕ → List NodeInfo → ℕ → ℕ × Node → Bool
is_over allowed reserved split_every infos out numbered = nat_lt allowed (need_of reserved split_every infos out numbered.0 numbered.1.form)

abbrev with_need : ℕ → ℕ → List NodeInfo → ℕ → ℕ × Node → NodeNeed
with_need reserved split_every infos out numbered = record { node = numbered.0; need = need_of reserved split_every infos out numbered.0 numbered.1.form }

pub over_none : (allowed reserved split_every : ℕ) (e : Expression) (infos : List NodeInfo) → (first_over allowed reserved split_every e infos ≡ None) ↔ ((k : ℕ) (node : Node) → IsLiveNode e k node → need_of reserved split_every infos e.out k node.form ≤ allowed)
over_none allowed reserved split_every e infos = (
  (λ none k node live. ltb-false allowed (need_of reserved split_every infos e.out k node.form) (none_passes e e.nodes 0 (is_over allowed reserved split_every infos e.out) (mapped_none (with_need reserved split_every infos e.out) (find (is_over allowed reserved split_every infos e.out) (live_nodes e)) none) k k node (omega arith) live.at live.live)),
  (λ all. ap (λ (o : Option (ℕ × Node)). option_map (with_need reserved split_every infos e.out) o) (nothing_found e e.nodes 0 (is_over allowed reserved split_every infos e.out) (λ i j n place at live. le-ltb allowed (need_of reserved split_every infos e.out j n.form) (all j n (live_at e i j n place at live))))),
)

pub over_found : (allowed reserved split_every : ℕ) (e : Expression) (infos : List NodeInfo) (found : NodeNeed) → first_over allowed reserved split_every e infos ≡ Some found → IsFirstOver allowed reserved split_every e infos found
over_found allowed reserved split_every e infos found is =
    let taken = mapped_some (with_need reserved split_every infos e.out) (find (is_over allowed reserved split_every infos e.out) (live_nodes e)) found is in
    let w = found_first e e.nodes 0 (is_over allowed reserved split_every infos e.out) taken.0 taken.1 in
    subst (λ (f : NodeNeed). IsFirstOver allowed reserved split_every e infos f) taken.2 (record {
      node = taken.0.1;
      is_node = live_at e w.i taken.0.0 taken.0.1 w.place w.at w.live;
      need = refl;
      over = ltb-true allowed (need_of reserved split_every infos e.out taken.0.0 taken.0.1.form) w.passes;
      first = λ j earlier before live. ltb-false allowed (need_of reserved split_every infos e.out j earlier.form) (w.first j j earlier (omega (arith, before, w.place)) (omega arith) live.at live.live);
    })
