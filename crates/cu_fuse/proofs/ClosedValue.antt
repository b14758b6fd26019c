-- What each operation of a plan that is left after merges makes, under the numbers that are left.
use Rattle.std.proofs.Common.{◌≡◌, ◌⊎◌, inl, inr, ℕ, zero, suc, ◌<◌, true, List, [], ◌∷◌, ◌++◌, All, Contains, length, map, Option, Some, None, get_or, refl, ap, sym, ◌∙◌, subst, arith, append_assoc, ⊎_elim, ℤ}
use Rattle.std.proofs.lemmas.Option.{get_or_from_slice_get}
use Rattle.std.proofs.lemmas.List.Elements.{All-contains}
use Rattle.cu_shape.specs.Index.{IsInside}
use Rattle.cu_op.specs.declared.layout.Layout.{Layout}
use Rattle.cu_op.specs.declared.operation.Planned.{Planned}
use Rattle.cu_op.specs.Arrays.{grid_at, maker_at}
use Rattle.cu_op.specs.Operation.{reads_of, writes_of, renumbered}
use Rattle.cu_op.specs.PlanView.{PlanView}
use Rattle.cu_op.specs.Elements.{Elements}
use Rattle.cu_op.specs.Value.{rule}
use Rattle.cu_op.proofs.Members.{contains_any}
use Rattle.cu_fuse.specs.Close.{renumbered_planned, remaining_numbers, new_number, closed, setting_of, remains, has_maker}
use Rattle.std.proofs.lemmas.Bool.{cases_Bool}
use Rattle.cu_op.specs.Numbers.{stands_in}
use Rattle.cu_fuse.specs.Runs.{HasWriter, CanRun, AreMade}
use Rattle.cu_fuse.proofs.Running.{written_left, written_right}
use Rattle.cu_fuse.proofs.Closing.{renumbered_rule, writes_renumbered}
use Rattle.cu_fuse.proofs.LeftArrays.{kept_layout, placed, placed_once, within, numbers_in}

-- an array of each operation is left
abbrev pub AreLeft : List ℕ → List Planned → Type 0
AreLeft numbers [] = Unit {0}
AreLeft numbers (o ∷ os) = (All (Contains numbers) (reads_of o.op) × All (Contains numbers) (writes_of o.op)) × AreLeft numbers os

module _ (p : PlanView) (ops : List Planned) (at : Elements) where
  numbers : List ℕ
  numbers = remaining_numbers p.arrays ops

  abbrev f : ℕ → ℕ
  f = new_number (setting_of p) ops

  other : Elements
  other b = at (get_or (remaining_numbers p.arrays ops) b 0)

  same : (a : ℕ) → Contains (remaining_numbers p.arrays ops) a → at (get_or (remaining_numbers p.arrays ops) (f a) 0) ≡ at a
  same a c = ap at (get_or_from_slice_get (remaining_numbers p.arrays ops) (f a) a 0 (placed p ops a c))

  mapped : (xs : List ℕ) (b : ℕ) → Contains (map f xs) b → (a : ℕ) × Contains xs a × (f a ≡ b)
  mapped [] b (k, l, e) = absurd (omega arith)
  mapped (x ∷ xs) b (zero, l, e) = (x, (0, omega arith, refl), e)
  mapped (x ∷ xs) b (suc k, l, e) = let (a, c, g) = mapped xs b (k, omega arith, e) in (a, (suc c.0, (let m = c.1 in omega arith), c.2), g)

  -- what each operation makes, under the new numbers
  pub closed_made : (os : List Planned) → AreLeft (remaining_numbers p.arrays ops) os → AreMade p.arrays at os
      → AreMade (closed (setting_of p) ops).arrays (λ b. at (get_or (remaining_numbers p.arrays ops) b 0)) (map (renumbered_planned f) os)
  closed_made [] left made = tt
  closed_made (o ∷ os) ((reads, writes), rest) (own, later) = (
    (λ b idx w inside.
        let N : List ℕ = remaining_numbers p.arrays ops in
        let (a, c, e) = mapped (writes_of o.op) b (subst (λ (l : List ℕ). Contains l b) (writes_renumbered f p.arrays (closed (setting_of p) ops).arrays (Contains N) (kept_layout p ops) (placed_once p ops) o.op) w) in
        let ka : Contains N a = All-contains (Contains N) (writes_of o.op) a writes c in
        let there : IsInside (grid_at p.arrays a).shape idx = subst (λ (l : Layout). IsInside l.grid.shape idx) (kept_layout p ops a ka) (subst (λ (m : ℕ). IsInside (grid_at (closed (setting_of p) ops).arrays m).shape idx) (sym e) inside) in
        subst (λ (m : ℕ). at (get_or N m 0) idx ≡ rule (renumbered f o.op) (closed (setting_of p) ops).arrays (λ b. at (get_or N b 0)) m idx) e
        (ap (λ (g : List ℕ → Option ℤ). g idx) (same a ka) ∙ own a idx c there
        ∙ sym (renumbered_rule f p.arrays (closed (setting_of p) ops).arrays (Contains N) (kept_layout p ops) (placed_once p ops) at (λ b. at (get_or N b 0)) same o.op a idx reads writes c))),
    closed_made os rest later,
  )

-- what an operation that can run reads and writes is left
pub contains_written : (ops : List Planned) (a : ℕ) → HasWriter ops a → has_maker ops a ≡ true
contains_written [] a h = absurd h
contains_written (o ∷ os) a (inl h) = let t = contains_any (writes_of o.op) a h in rw t refl
contains_written (o ∷ os) a (inr h) =
    let rest = contains_written os a h in
    elim (cases_Bool (stands_in (writes_of o.op) a)) [ inl t ↦ rw t refl | inr n ↦ rw n rest ]

pub left_written : (ops : List Planned) (a : ℕ) (m : Option ℕ) → HasWriter ops a → remains ops a m ≡ true
left_written ops a None h = refl
left_written ops a (Some m) h = contains_written ops a h

pub left_at_hand : (p : PlanView) (ops : List Planned) (a : ℕ) (m : Option ℕ) → ((m ≡ None) ⊎ HasWriter ops a) → remains ops a m ≡ true
left_at_hand p ops a None h = refl
left_at_hand p ops a (Some m) (inl e) = cc
left_at_hand p ops a (Some m) (inr w) = contains_written ops a w

pub all_left : (p : PlanView) (ops before os : List Planned) → ops ≡ before ++ os → CanRun p.arrays p.reserved before os → AreLeft (remaining_numbers p.arrays ops) os
all_left p ops before [] e run = tt
all_left p ops before (o ∷ os) e (step, rest) = (
  (
    (λ k d b.
        let a : ℕ = get_or (reads_of o.op) k d in
        let (within, at) = step.reads k d b in
        numbers_in p ops a within (left_at_hand p ops a (maker_at p.arrays a) (⊎_elim (λ n. inl n) (λ w. inr (subst (λ (l : List Planned). HasWriter l a) (sym e) (written_left before (o ∷ os) a w))) at))),
    (λ k d b.
        let a : ℕ = get_or (writes_of o.op) k d in
        let (within, made, new) = step.writes k d b in
        numbers_in p ops a within (left_written ops a (maker_at p.arrays a) (subst (λ (l : List Planned). HasWriter l a) (sym e) (written_right before (o ∷ os) a (inl (k, b, at_itself (writes_of o.op) k d b)))))),
  ),
  all_left p ops (before ++ o ∷ []) os (e ∙ sym (append_assoc before (o ∷ []) os)) rest,
)
  where
    at_itself : (xs : List ℕ) (k d : ℕ) → k < length xs → get_or xs k (get_or xs k d) ≡ get_or xs k d
    at_itself [] k d b = absurd (omega arith)
    at_itself (x ∷ xs) zero d b = refl
    at_itself (x ∷ xs) (suc k) d b = at_itself xs k d (omega arith)
