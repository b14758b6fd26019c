-- Operations in a list that load each array once: the list can run, and makes what it made.
use Rattle.std.proofs.Common.{◌≡◌, inl, inr, ℕ, ◌+◌, ◌<◌, ◌^◌, cond, Bool, true, false, List, [], ◌∷◌, ◌++◌, All, Contains, length, drop, get_or, length-take-le, map, take, refl, ap, sym, ◌∙◌, subst, arith}
use Rattle.std.proofs.lemmas.List.{get_or-append-add, get_or-drop, length-map, map-append}
use Rattle.std.proofs.lemmas.List.Elements.{All-cons, All-weaker}
use Rattle.cu_op.specs.declared.operation.Planned.{Planned}
use Rattle.cu_op.specs.Elements.{Elements}
use Rattle.cu_op.specs.Operation.{reads_of, writes_of}
use Rattle.cu_op.specs.Projection.{own_projection}
use Rattle.cu_fuse.specs.Fused.{SettingView, loaded_ops, with_one_load}
use Rattle.cu_fuse.specs.Once.{one_load}
use Rattle.cu_fuse.specs.Runs.{AreMade, CanFollow, CanRun, HasWriter, IsAtHand, IsNew, IsOverArrays}
use Rattle.cu_fuse.proofs.Same.{DoesSame, one_load_does, reads_same}

module _ (s : SettingView) where
  does : (o : Planned) → DoesSame s.arrays o.op (one_load o.op)
  does o = one_load_does s.arrays o.op

  -- ---- what is written

  pub written_once : (ops : List Planned) (a : ℕ) → HasWriter ops a
      → HasWriter (map (with_one_load s) ops) a
  written_once [] a h = h
  written_once (o ∷ os) a (inl h) =
      inl (subst (λ (l : List ℕ). Contains l a) (sym (does o).writes) h)
  written_once (o ∷ os) a (inr h) = inr (written_once os a h)

  written_before : (ops : List Planned) (a : ℕ) → HasWriter (map (with_one_load s) ops) a
      → HasWriter ops a
  written_before [] a h = h
  written_before (o ∷ os) a (inl h) = inl (subst (λ (l : List ℕ). Contains l a) (does o).writes h)
  written_before (o ∷ os) a (inr h) = inr (written_before os a h)

  -- ---- one after another

  at_hand : (before : List Planned) (a : ℕ) → IsAtHand s.arrays before a
      → IsAtHand s.arrays (map (with_one_load s) before) a
  at_hand before a (within, inl input) = (within, inl input)
  at_hand before a (within, inr w) = (within, inr (written_once before a w))

  follows : (before : List Planned) (o : Planned) → CanFollow s.arrays s.reserved before o
      → CanFollow s.arrays s.reserved (map (with_one_load s) before) (with_one_load s o)
  follows before o step = record {
    reads = reads_same s.arrays o.op (one_load o.op)
        (IsAtHand s.arrays (map (with_one_load s) before)) (does o)
        (All-weaker (IsAtHand s.arrays before) (IsAtHand s.arrays (map (with_one_load s) before))
        (at_hand before) (reads_of o.op) step.reads);
    writes = subst (All (IsNew s.arrays (map (with_one_load s) before))) (sym (does o).writes)
        (All-weaker (IsNew s.arrays before) (IsNew s.arrays (map (with_one_load s) before))
        (λ a (within, made, new). (within, made, λ w. new (written_before before a w)))
        (writes_of o.op) step.writes);
    fits = (does o).fits step.fits;
    projected = refl;
    room = (let less = (does o).needs s.reserved in let is = step.projected in let few =
        step.room in omega (arith, less, is, few));
  }

  pub runs_once : (before ops : List Planned) → CanRun s.arrays s.reserved before ops
      → CanRun s.arrays s.reserved (map (with_one_load s) before) (map (with_one_load s) ops)
  runs_once before [] run = tt
  runs_once before (o ∷ os) (step, rest) = (
    follows before o step,
    subst (λ (l : List Planned). CanRun s.arrays s.reserved l (map (with_one_load s) os))
        (map-append (with_one_load s) before (o ∷ []))
        (runs_once (before ++ o ∷ []) os rest),
  )

  pub made_once : (at : Elements) (before ops : List Planned)
      → CanRun s.arrays s.reserved before ops → AreMade s.arrays at ops
      → AreMade s.arrays at (map (with_one_load s) ops)
  made_once at before [] run made = tt
  made_once at before (o ∷ os) (step, rest) (own, others) = (
    (λ a idx w inside.
        own a idx (subst (λ (l : List ℕ). Contains l a) (does o).writes w) inside
        ∙ sym ((does o).value step.fits at a idx)),
    made_once at (before ++ o ∷ []) os rest others,
  )

-- what holds of operations, and of them with one load of each array, holds of those before the
-- merges
pub loaded_has : (s : SettingView) (P : List Planned → Type 0) (ops : List Planned) → P ops
    → P (map (with_one_load s) ops) → P (loaded_ops s ops)
loaded_has s P ops plain once = go s.once
  where
    go : (b : Bool) → P (cond b (map (with_one_load s) ops) ops)
    go true = once
    go false = plain

-- ---- what each of them brings

pub record IsLoadable (s : SettingView) (o : Planned) : Type 0 where
  pub over : IsOverArrays s.arrays o.op
  pub projected : o.projected ≡ own_projection s.arrays s.reserved o.op
  pub room : o.projected < 2 ^ 64

pub all_loadable : (s : SettingView) (before ops : List Planned)
    → CanRun s.arrays s.reserved before ops
    → All (IsLoadable s) ops
all_loadable s before [] run = λ k d b. absurd (omega arith)
all_loadable s before (o ∷ os) (step, rest) =
    All-cons (IsLoadable s) o os
    (record {
      over = record {
        reads = λ k d b. (step.reads k d b).0;
        writes = λ k d b. (step.writes k d b).0;
        fits = step.fits;
      };
      projected = step.projected;
      room = step.room;
    })
    (all_loadable s (before ++ o ∷ []) os rest)

-- the next of a list of which some were mapped
pub next_unmapped : (f : Planned → Planned) (xs ys : List Planned) (k : ℕ) (d : Planned)
    → k < length xs
    → ys ≡ map f (take k xs) ++ drop k xs → get_or ys k d ≡ get_or xs k d
next_unmapped f xs ys k d below is =
    let front = length-map (take k xs) f in
    let long = length-take-le k xs (omega (arith, below)) in
    ap (λ (l : List Planned). get_or l k d) is
    ∙ ap (λ (n : ℕ). get_or (map f (take k xs) ++ drop k xs) n d)
    (let z : k ≡ length (map f (take k xs)) + 0 = omega (arith, front, long) in z)
    ∙ get_or-append-add (map f (take k xs)) (drop k xs) 0 d
    ∙ get_or-drop k xs 0 d ∙ ap (λ (n : ℕ). get_or xs n d) (let z : k + 0 ≡ k = omega arith in z)
