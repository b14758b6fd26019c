-- The value of a sound plan solves the plan's equations: going over the operations once gives what each rule makes of the value itself.
use Rattle.std.proofs.lemmas.Option.{same_Some}
use Rattle.cu_op.specs.Within.{makes_inlined, with_inlined}
use Rattle.std.specs.List.{filter}
use Rattle.cu_op.proofs.KindLaws.{laws_of}
use Rattle.cu_op.proofs.Members.{contains_any, not_any, bool_cases, only_member}
use Rattle.cu_op.specs.Arrays.{maker_at, is_inlined}
use Rattle.cu_op.specs.Operation.{writes_of, reads_of, IsMadeBy, IsReadable, IsBefore, target_of, writes_one_chunk}
use Rattle.cu_op.specs.PlanView.{PlanView, operation_at, op_of}
use Rattle.cu_op.specs.Sound.{Sound, IsOperation}
use Rattle.cu_op.specs.Elements.{Elements}
use Rattle.cu_op.specs.Value.{plan_value, ReadsAt, rule, updated, values_after, Solves}
use Rattle.cu_op.specs.declared.layout.ArrayInfo.{ArrayInfo}
use Rattle.cu_op.specs.declared.operation.Op.{Op}
use Rattle.cu_op.specs.declared.operation.Planned.{Planned}
use Rattle.std.proofs.Common.{◌≡◌, ℕ, zero, suc, ◌<◌, ◌+◌, List, [], ◌∷◌, length, All, Contains, Option, None, Some, get_or, refl, sym, ◌∙◌, subst, arith, inl, inr, Bool, true, false, ap}
use Rattle.std.proofs.lemmas.List.Elements.{All-contains}

-- an operation's rule depends on what it reads alone
pub rule_reads : (op : Op) (arrays : List ArrayInfo) (at other : Elements) (array : ℕ) (idx : List ℕ)
    → ((a : ℕ) (i : List ℕ) → ReadsAt op arrays idx a i → at a i ≡ other a i) → rule op arrays at array idx ≡ rule op arrays other array idx
rule_reads op = (laws_of op).alone

-- which is of the arrays that it reads
pub reads_listed : (op : Op) (arrays : List ArrayInfo) (idx : List ℕ) (a : ℕ) (i : List ℕ) → ReadsAt op arrays idx a i → Contains (reads_of op) a
reads_listed op = (laws_of op).listed

pub same_rule : (op : Op) (arrays : List ArrayInfo) (at other : Elements) (array : ℕ) (idx : List ℕ)
    → All (λ a. (i : List ℕ) → at a i ≡ other a i) (reads_of op) → rule op arrays at array idx ≡ rule op arrays other array idx
same_rule op arrays at other array idx h =
    rule_reads op arrays at other array idx (λ a i r. All-contains (λ b. (j : List ℕ) → at b j ≡ other b j) (reads_of op) a h (reads_listed op arrays idx a i r) i)

-- an array that an operation doesn't write, and one that it writes
kept_by : (op : Op) (arrays : List ArrayInfo) (at : Elements) (a : ℕ) (idx : List ℕ) → (Contains (writes_of op) a → ⊥) → updated op arrays at a idx ≡ at a idx
kept_by op arrays at a idx never = rw (not_any (writes_of op) a never) refl

made_by : (op : Op) (arrays : List ArrayInfo) (at : Elements) (a : ℕ) (idx : List ℕ) → Contains (writes_of op) a → updated op arrays at a idx ≡ rule op arrays at a idx
made_by op arrays at a idx h = rw (contains_any (writes_of op) a h) refl

pub kept_after : (os : List Planned) (arrays : List ArrayInfo) (at : Elements) (a : ℕ) (idx : List ℕ)
    → ((k : ℕ) → k < length os → Contains (writes_of (operation_at os k).op) a → ⊥) → values_after os arrays at a idx ≡ at a idx
kept_after [] arrays at a idx never = refl
kept_after (o ∷ os) arrays at a idx never =
    kept_after os arrays (updated o.op arrays at) a idx (λ k h. never (suc k) (omega arith)) ∙ kept_by o.op arrays at a idx (never 0 (omega arith))

-- an array has one maker, and what is read is made before
pub one_maker : (arrays : List ArrayInfo) (i j a : ℕ) → IsMadeBy arrays i a → IsMadeBy arrays j a → i ≡ j
one_maker arrays i j a p q = let e = p.1 in let f = q.1 in cc

before_from : (m : Option ℕ) (n k : ℕ) → m ≡ Some k → IsBefore m n → k < n
before_from None n k e h = cc
before_from (Some j) n k e h = let same : j ≡ k = cc in omega (arith, same, h)

pub made_before : (arrays : List ArrayInfo) (n k a : ℕ) → IsReadable arrays n a → IsMadeBy arrays k a → k < n
made_before arrays n k a p q = before_from (maker_at arrays a) n k q.1 p.1

pub made_at : (os : List Planned) (arrays : List ArrayInfo) (n k a : ℕ) → IsOperation arrays (n + k) (operation_at os k).op → Contains (writes_of (operation_at os k).op) a → IsMadeBy arrays (n + k) a
made_at os arrays n k a ok h = All-contains (IsMadeBy arrays (n + k)) (writes_of (operation_at os k).op) a ok.writes h

-- what none of the operations writes is kept by those that are picked
kept_picked : (pick : Planned → Bool) (os : List Planned) (arrays : List ArrayInfo) (at : Elements) (a : ℕ) (idx : List ℕ)
    → ((k : ℕ) → k < length os → pick (operation_at os k) ≡ true → Contains (writes_of (operation_at os k).op) a → ⊥) → values_after (filter pick os) arrays at a idx ≡ at a idx
kept_picked pick [] arrays at a idx never = refl
kept_picked pick (o ∷ os) arrays at a idx never =
    elim (bool_cases (pick o)) [
      | inl picked_it ↦ rw picked_it (kept_picked pick os arrays (updated o.op arrays at) a idx (λ k h. never (suc k) (omega arith)) ∙ kept_by o.op arrays at a idx (never 0 (omega arith) picked_it))
      | inr passed_it ↦ rw passed_it (kept_picked pick os arrays at a idx (λ k h. never (suc k) (omega arith)))
    ]

-- each picked operation in turn, from number n on: what it reads isn't written by one behind it
solved : (pick : Planned → Bool) (os : List Planned) (arrays : List ArrayInfo) (at : Elements) (n : ℕ)
    → ((k : ℕ) → k < length os → IsOperation arrays (n + k) (operation_at os k).op)
    → (k a : ℕ) (idx : List ℕ) → k < length os → pick (operation_at os k) ≡ true → Contains (writes_of (operation_at os k).op) a
    → values_after (filter pick os) arrays at a idx ≡ rule (operation_at os k).op arrays (values_after (filter pick os) arrays at) a idx
solved pick [] arrays at n ok k a idx l picked h = absurd (omega arith)
solved pick (o ∷ os) arrays at n ok zero a idx l picked h =
    let here = made_at (o ∷ os) arrays n 0 a (ok 0 l) h in
    let later : values_after (filter pick os) arrays (updated o.op arrays at) a idx ≡ updated o.op arrays at a idx =
    kept_picked pick os arrays (updated o.op arrays at) a idx (λ k b y c.
    let there = made_at (o ∷ os) arrays n (suc k) a (ok (suc k) (omega arith)) c in
    let same = one_maker arrays (n + 0) (n + suc k) a here there in
    omega (arith, same)) in
    let reads : All (λ r. (i : List ℕ) → at r i ≡ values_after (filter pick (o ∷ os)) arrays at r i) (reads_of o.op) = λ j d b i.
    sym (kept_picked pick (o ∷ os) arrays at (get_or (reads_of o.op) j d) i (λ k w y c.
    let there = made_at (o ∷ os) arrays n k (get_or (reads_of o.op) j d) (ok k w) c in
    let first = made_before arrays (n + 0) (n + k) (get_or (reads_of o.op) j d) ((ok 0 l).reads j d b) there in
    omega (arith, first))) in
    let step : values_after (filter pick (o ∷ os)) arrays at a idx ≡ updated o.op arrays at a idx = rw picked later in
    step ∙ made_by o.op arrays at a idx h ∙ same_rule o.op arrays at (values_after (filter pick (o ∷ os)) arrays at) a idx reads
solved pick (o ∷ os) arrays at n ok (suc k) a idx l picked h =
    let rest = λ (start : Elements). solved pick os arrays start (n + 1)
    (λ j b. subst (λ (m : ℕ). IsOperation arrays m (operation_at os j).op) (let e : n + suc j ≡ n + 1 + j = omega arith in e) (ok (suc j) (omega arith)))
    k a idx (omega arith) picked h in
    elim (bool_cases (pick o)) [
      | inl picked_it ↦ rw picked_it (rest (updated o.op arrays at))
      | inr passed_it ↦ rw passed_it (rest at)
    ]

all_picked : (os : List Planned) → filter (λ o. true) os ≡ os
all_picked [] = refl
all_picked (o ∷ os) = ap (λ (rest : List Planned). o ∷ rest) (all_picked os)

-- the operations of a plan, numbered from 0
numbered : (p : PlanView) → Sound p → (k : ℕ) → k < length p.ops → IsOperation p.arrays (0 + k) (op_of p k)
numbered p s k h = subst (λ (m : ℕ). IsOperation p.arrays m (op_of p k)) (let e : k ≡ 0 + k = omega arith in e) (s.operations k h)

-- no operation writes an input
input_kept : (p : PlanView) (env : Elements) (a : ℕ) (idx : List ℕ) → Sound p → maker_at p.arrays a ≡ None → plan_value p env a idx ≡ env a idx
input_kept p env a idx s none =
    kept_after p.ops p.arrays env a idx (λ k h c.
    let there = All-contains (IsMadeBy p.arrays k) (writes_of (operation_at p.ops k).op) a (s.operations k h).writes c in
    let made = there.1 in cc)

pub value_solves : (p : PlanView) (env : Elements) → Sound p → Solves p env (plan_value p env)
value_solves p env s = record {
  inputs = λ a idx none. input_kept p env a idx s none;
  made = λ k a idx l h.
      let all = all_picked p.ops in
      let own = solved (λ o. true) p.ops p.arrays env 0 (numbered p s) k a idx l refl h in
      subst (λ (os : List Planned). values_after os p.arrays env a idx ≡ rule (op_of p k) p.arrays (values_after os p.arrays env) a idx) all own;
}

-- ---- the arrays that are made where they are read

pub inlined_kept : (p : PlanView) (at : Elements) (a : ℕ) (idx : List ℕ) → Sound p → is_inlined p.arrays a ≡ false → with_inlined p at a idx ≡ at a idx
inlined_kept p at a idx s stored = kept_picked (makes_inlined p.arrays) p.ops p.arrays at a idx (λ k h inner among.
    let made = All-contains (IsMadeBy p.arrays k) (writes_of (op_of p k)) a (s.operations k h).writes among in
    let target = All-contains (IsMadeBy p.arrays k) (writes_of (op_of p k)) (target_of (op_of p k)) (s.operations k h).writes (laws_of (op_of p k)).target in
    let own = s.inlined (target_of (op_of p k)) target.0 inner in
    let same : own.maker.0 ≡ k = same_Some own.maker.0 k (sym own.maker.1 ∙ target.1) in
    let one = (laws_of (op_of p k)).one_written (subst (λ (j : ℕ). writes_one_chunk (op_of p j) ≡ true) same own.maker.2) in
    let only : target_of (op_of p k) ≡ a = only_member (target_of (op_of p k)) a (subst (λ (ws : List ℕ). Contains ws a) one among) in
    let is : is_inlined p.arrays a ≡ true = subst (λ (b : ℕ). is_inlined p.arrays b ≡ true) only inner in
    cc)

-- an operation whose result is inlined makes it of the elements with those that are inlined
pub inlined_made : (p : PlanView) (at : Elements) (k a : ℕ) (idx : List ℕ) → Sound p → k < length p.ops → is_inlined p.arrays (target_of (op_of p k)) ≡ true → Contains (writes_of (op_of p k)) a
    → with_inlined p at a idx ≡ rule (op_of p k) p.arrays (with_inlined p at) a idx
inlined_made p at k a idx s h inner among = solved (makes_inlined p.arrays) p.ops p.arrays at 0 (numbered p s) k a idx h inner among
