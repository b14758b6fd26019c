-- The plan that is left after merges is sound, in what doesn't speak of names.
use Rattle.std.proofs.Common.{◌≡◌, ◌≢◌, ◌⊎◌, inl, inr, ℕ, zero, suc, ◌+◌, ◌<◌, ◌^◌, Bool, true, false, List, [], ◌∷◌, ◌++◌, All, Contains, length, map, Option, Some, None, get_or, refl, ap, sym, ◌∙◌, subst, arith, append_assoc, length-append, ⊎_elim, if◌then◌else◌}
use Rattle.std.specs.List.{slice_get}
use Rattle.std.proofs.lemmas.Bool.{cases_Bool}
use Rattle.std.proofs.lemmas.List.{get_or-map, length-map}
use Rattle.std.proofs.lemmas.List.Elements.{All-cons}
use Rattle.cu_op.specs.declared.operation.Planned.{Planned}
use Rattle.cu_op.specs.Arrays.{maker_at, AllStored}
use Rattle.cu_op.specs.Operation.{reads_of, writes_of, IsBefore, IsReadable, IsMadeBy}
use Rattle.cu_op.specs.PlanView.{PlanView, operation_at, op_of, no_operation}
use Rattle.cu_op.specs.Projection.{own_projection, projection}
use Rattle.cu_op.specs.Sound.{Sound, IsOperation}
use Rattle.cu_op.proofs.AllStored.{all_projection}
use Rattle.cu_op.proofs.Members.{contains_any, any_contains}
use Rattle.cu_fuse.specs.Close.{remains, has_maker, renumbered_planned, remaining_numbers, maker_of, new_number, closed, setting_of}
use Rattle.cu_op.specs.Numbers.{stands_in}
use Rattle.cu_fuse.specs.Runs.{HasWriter, IsAtHand, IsNew, CanFollow, CanRun}
use Rattle.cu_fuse.proofs.Closing.{renumbered_fits, renumbered_projection, reads_renumbered, writes_renumbered}
use Rattle.cu_fuse.proofs.ClosedValue.{AreLeft, all_left}
use Rattle.cu_fuse.proofs.LeftArrays.{kept_layout, placed, placed_once, within, numbers_out, input_left, made_left, old_array, left_once}

-- ---- the number of the operation that writes an array

writer_among : (ops : List Planned) (a : ℕ) → HasWriter ops a → maker_of ops a < length ops
writer_among [] a h = absurd h
writer_among (o ∷ os) a h = elim (cases_Bool (stands_in (writes_of o.op) a)) [
  | inl here ↦ rw here (omega arith)
  | inr there ↦ rw there (let l = writer_among os a (⊎_elim (λ own. absurd (not_here (contains_any (writes_of o.op) a own) there)) (λ w. w) h) in omega arith)
]
  where
    not_here : {b : Bool} → b ≡ true → b ≡ false → ⊥
    not_here t f = cc

writer_writes : (ops : List Planned) (a : ℕ) → HasWriter ops a → Contains (writes_of (operation_at ops (maker_of ops a)).op) a
writer_writes [] a h = absurd h
writer_writes (o ∷ os) a h = elim (cases_Bool (stands_in (writes_of o.op) a)) [
  | inl here ↦ subst (λ (n : ℕ). Contains (writes_of (operation_at (o ∷ os) n).op) a) (sym (λ i. if here i then 0 else suc (maker_of os a))) (any_contains (writes_of o.op) a here)
  | inr there ↦ subst (λ (n : ℕ). Contains (writes_of (operation_at (o ∷ os) n).op) a) (sym (λ i. if there i then 0 else suc (maker_of os a)))
      (writer_writes os a (⊎_elim (λ own. absurd (not_here (contains_any (writes_of o.op) a own) there)) (λ w. w) h))
]
  where
    not_here : {b : Bool} → b ≡ true → b ≡ false → ⊥
    not_here t f = cc

-- among the first operations, and the next one
writer_front : (front back : List Planned) (a : ℕ) → HasWriter front a → maker_of (front ++ back) a < length front
writer_front [] back a h = absurd h
writer_front (o ∷ os) back a h = elim (cases_Bool (stands_in (writes_of o.op) a)) [
  | inl here ↦ rw here (omega arith)
  | inr there ↦ rw there (let l = writer_front os back a (⊎_elim (λ own. absurd (not_here (contains_any (writes_of o.op) a own) there)) (λ w. w) h) in omega arith)
]
  where
    not_here : {b : Bool} → b ≡ true → b ≡ false → ⊥
    not_here t f = cc

writer_next : (front : List Planned) (o : Planned) (back : List Planned) (a : ℕ) → Contains (writes_of o.op) a → (HasWriter front a → ⊥) → maker_of (front ++ o ∷ back) a ≡ length front
writer_next [] o back a h none = let t = contains_any (writes_of o.op) a h in rw t refl
writer_next (x ∷ xs) o back a h none = elim (cases_Bool (stands_in (writes_of x.op) a)) [
  | inl here ↦ absurd (none (inl (any_contains (writes_of x.op) a here)))
  | inr there ↦ let rest = writer_next xs o back a h (λ w. none (inr w)) in rw there (ap suc rest)
]

all_mapped : (f : ℕ → ℕ) (P Q : ℕ → Type 0) (xs : List ℕ) → ((a : ℕ) → P a → Q (f a)) → All P xs → All Q (map f xs)
all_mapped f P Q [] h own = λ k d b. absurd (omega arith)
all_mapped f P Q (x ∷ xs) h own = All-cons Q (f x) (map f xs) (h x (own 0 0 (omega arith))) (all_mapped f P Q xs h (λ k d b. own (suc k) d (omega arith)))

module _ (p : PlanView) (ops : List Planned) (sound : Sound p) (run : CanRun p.arrays p.reserved [] ops) where
  abbrev f : ℕ → ℕ
  f = new_number (setting_of p) ops

  abbrev q : PlanView
  q = closed (setting_of p) ops

  abbrev N : List ℕ
  N = remaining_numbers p.arrays ops

  -- an operation of the plan that is left, whose number of bytes is that of itself alone
  record IsLeft (number : ℕ) (o : Planned) : Type 0 where
    operation : IsOperation q.arrays number o.op
    projected : o.projected ≡ own_projection q.arrays q.reserved o.op
    room : o.projected < 2 ^ 64

  -- an operation behind others, under its new number
  step_is : (front : List Planned) (o : Planned) (back : List Planned) → ops ≡ front ++ o ∷ back → CanFollow p.arrays p.reserved front o
      → All (Contains N) (reads_of o.op) → All (Contains N) (writes_of o.op) → IsLeft (length front) (renumbered_planned f o)
  step_is front o back e step reads writes = record {
    operation = record {
      reads = subst (All (IsReadable q.arrays (length front))) (sym (reads_renumbered f p.arrays q.arrays (Contains N) (kept_layout p ops) (placed_once p ops) o.op))
          (all_mapped f (λ a. Contains N a × IsAtHand p.arrays front a) (IsReadable q.arrays (length front)) (reads_of o.op) (λ a (c, h). readable a c h) (λ k d b. (reads k d b, step.reads k d b)));
      writes = subst (All (IsMadeBy q.arrays (length front))) (sym (writes_renumbered f p.arrays q.arrays (Contains N) (kept_layout p ops) (placed_once p ops) o.op))
          (all_mapped f (λ a. Contains N a × IsNew p.arrays front a × Contains (writes_of o.op) a) (IsMadeBy q.arrays (length front)) (writes_of o.op) (λ a (c, n, w). made a c n w)
          (λ k d b. (writes k d b, step.writes k d b, (k, b, at_itself (writes_of o.op) k d b))));
      fits = renumbered_fits f p.arrays q.arrays (Contains N) (kept_layout p ops) (placed_once p ops) o.op reads writes step.fits;
    };
    projected = step.projected ∙ sym (renumbered_projection f p.arrays q.arrays (Contains N) (kept_layout p ops) (placed_once p ops) o.op p.reserved reads writes);
    room = step.room;
  }
    where
      at_itself : (xs : List ℕ) (k d : ℕ) → k < length xs → get_or xs k (get_or xs k d) ≡ get_or xs k d
      at_itself [] k d b = absurd (omega arith)
      at_itself (x ∷ xs) zero d b = refl
      at_itself (x ∷ xs) (suc k) d b = at_itself xs k d (omega arith)

      some_or_none : (m : Option ℕ) → (m ≡ None) ⊎ (m ≢ None)
      some_or_none None = inl refl
      some_or_none (Some k) = inr (λ h. cc)

      readable : (a : ℕ) → Contains N a → IsAtHand p.arrays front a → IsReadable q.arrays (length front) (f a)
      readable a c (w, at) = (
        within p ops a c,
        ⊎_elim
            (λ none. subst (λ (m : Option ℕ). IsBefore m (length front)) (sym (input_left p ops a c none)) tt)
            (λ made. subst (λ (m : Option ℕ). IsBefore m (length front)) (sym (made_left p ops a c made))
            (⊎_elim (λ none. absurd (made none)) (λ h. subst (λ (l : List Planned). maker_of l a < length front) (sym e) (writer_front front (o ∷ back) a h)) at))
            (some_or_none (maker_at p.arrays a)),
      )

      made : (a : ℕ) → Contains N a → IsNew p.arrays front a → Contains (writes_of o.op) a → IsMadeBy q.arrays (length front) (f a)
      made a c (w, some, new) own = (within p ops a c, made_left p ops a c some ∙ ap Some (ap (λ l. maker_of l a) e ∙ writer_next front o back a own new))

  -- each by its number
  steps_are : (front os : List Planned) → ops ≡ front ++ os → CanRun p.arrays p.reserved front os → AreLeft N os
      → (k : ℕ) → k < length os → IsLeft (length front + k) (renumbered_planned f (operation_at os k))
  steps_are front [] e run left k h = absurd (omega arith)
  steps_are front (o ∷ os) e (step, rest) ((reads, writes), more) zero h =
      subst (λ (n : ℕ). IsLeft n (renumbered_planned f o)) (let z : length front ≡ length front + 0 = omega arith in z) (step_is front o os e step reads writes)
  steps_are front (o ∷ os) e (step, rest) ((reads, writes), more) (suc k) h =
      let l = length-append front (o ∷ []) in
      subst (λ (n : ℕ). IsLeft n (renumbered_planned f (operation_at os k))) (let z : length (front ++ o ∷ []) + k ≡ length front + suc k = omega (arith, l) in z)
      (steps_are (front ++ o ∷ []) os (e ∙ sym (append_assoc front (o ∷ []) os)) rest more k (omega arith))

  operation_closed : (k : ℕ) → k < length ops → operation_at q.ops k ≡ renumbered_planned f (operation_at ops k)
  operation_closed k h = get_or-map (renumbered_planned f) ops k no_operation no_operation h

  left_at : (k : ℕ) → k < length q.ops → IsLeft k (operation_at q.ops k)
  left_at k h =
      let l : length q.ops ≡ length ops = length-map ops (renumbered_planned f) in
      let b : k < length ops = omega arith in
      subst (IsLeft k) (sym (operation_closed k b))
      (subst (λ (n : ℕ). IsLeft n (renumbered_planned f (operation_at ops k))) (let z : 0 + k ≡ k = omega arith in z)
      (steps_are [] ops refl run (all_left p ops [] ops refl run) k b))

  pub operations : (k : ℕ) → k < length q.ops → IsOperation q.arrays k (op_of q k)
  operations k h = (left_at k h).operation

  -- where each array is stored, that is all that it needs
  pub projections : AllStored q.arrays → (k : ℕ) → k < length q.ops → (operation_at q.ops k).projected ≡ projection q k
  projections all k h = (left_at k h).projected ∙ sym (all_projection q k all)

  pub rooms : AllStored q.arrays → (k : ℕ) → k < length q.ops → projection q k < 2 ^ 64
  rooms all k h = subst (λ (n : ℕ). n < 2 ^ 64) (projections all k h) (left_at k h).room

  written_of_left : (a : ℕ) → Contains N a → maker_at p.arrays a ≢ None → HasWriter ops a
  written_of_left a c made = go (maker_at p.arrays a) refl ((numbers_out p ops a c).1)
    where
      any_written : (os : List Planned) → has_maker os a ≡ true → HasWriter os a
      any_written [] h = cc
      any_written (o ∷ os) h = elim (cases_Bool (stands_in (writes_of o.op) a)) [
        | inl here ↦ inl (any_contains (writes_of o.op) a here)
        | inr there ↦ inr (any_written os (rw there at h))
      ]

      go : (m : Option ℕ) → maker_at p.arrays a ≡ m → remains ops a (maker_at p.arrays a) ≡ true → HasWriter ops a
      go None e h = absurd (made e)
      go (Some m) e h = any_written ops (subst (λ (x : Option ℕ). remains ops a x ≡ true) e h)

  pub makers : (b k : ℕ) → b < length q.arrays → maker_at q.arrays b ≡ Some k → (k < length q.ops) × Contains (writes_of (operation_at q.ops k).op) b
  makers b k h e =
      let (a, c, is, at, n, arr) = old_array p ops b h in
      let place : f a ≡ b = place_is a c b at in
      let made : maker_at p.arrays a ≢ None = λ none. none_some (sym (input_left p ops a c none) ∙ ap (maker_at q.arrays) place ∙ e) in
      let w : HasWriter ops a = written_of_left a c made in
      let number : maker_of ops a ≡ k = some_same (sym (made_left p ops a c made) ∙ ap (maker_at q.arrays) place ∙ e) in
      let l = length-map ops (renumbered_planned f) in
      let below : k < length ops = (let s = writer_among ops a w in omega (arith, s, number)) in (
        omega arith,
        subst (λ (o : Planned). Contains (writes_of o.op) b) (sym (operation_closed k below))
            (subst (λ (xs : List ℕ). Contains xs b) (sym (writes_renumbered f p.arrays q.arrays (Contains N) (kept_layout p ops) (placed_once p ops) (operation_at ops k).op))
            (subst (Contains (map f (writes_of (operation_at ops k).op))) place
            (mapped_in (writes_of (operation_at ops k).op) a (subst (λ (m : ℕ). Contains (writes_of (operation_at ops m).op) a) number (writer_writes ops a w))))),
      )
    where
      none_some : None ≡ Some k → ⊥
      none_some h = cc

      some_same : {x y : ℕ} → Some x ≡ Some y → x ≡ y
      some_same h = cc

      mapped_in : (xs : List ℕ) (a : ℕ) → Contains xs a → Contains (map f xs) (f a)
      mapped_in [] a (j, l, e) = absurd (omega arith)
      mapped_in (x ∷ xs) a (zero, l, e) = (0, omega arith, ap f e)
      mapped_in (x ∷ xs) a (suc j, l, e) = let (i, m, g) = mapped_in xs a (j, omega arith, e) in (suc i, omega arith, g)

      place_is : (a : ℕ) → Contains N a → (b : ℕ) → slice_get N b ≡ Some a → f a ≡ b
      place_is a c b at = left_once ops 0 p.arrays (f a) b a (placed p ops a c) at
