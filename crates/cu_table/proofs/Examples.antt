-- Two maps in a row over one grid of two chunks, computed on the definitions: the second map's first task is ready as soon as the first
-- map's first task is done.
use Rattle.std.proofs.Common.{◌≡◌, inl, inr, ℕ, zero, suc, ◌<◌, true, false, [], ◌∷◌, Contains, Option, get_or, Some, None, refl, ap, sym, subst, codes, pos, arith}
use Rattle.cu_num.specs.declared.functions.Fn2.TheVariants.{Add}
use Rattle.cu_num.specs.declared.types.Dtype.TheVariants.{Int32}
use Rattle.cu_num.specs.declared.layout.Encoding.TheVariants.{Plain}
use Rattle.cu_num.specs.declared.layout.Sep.TheVariants.{Slash}
use Rattle.cu_num.specs.declared.layout.Endian.TheVariants.{Little}
use Rattle.cu_op.specs.declared.cells.Cell.{Cell}
use Rattle.cu_op.specs.declared.kernel.Instr.TheVariants.{Load, Two}
use Rattle.cu_op.specs.declared.layout.ArrayInfo.{ArrayInfo}
use Rattle.cu_op.specs.declared.operation.Planned.{Planned}
use Rattle.cu_op.specs.declared.operation.Op.TheVariants.{Map}
use Rattle.cu_op.specs.Chunks.{cell}
use Rattle.cu_op.specs.PlanView.{PlanView}
use Rattle.cu_op.specs.Schedule.{WritesCell}
use Rattle.cu_table.specs.Numbers.{IsTask}
use Rattle.cu_table.specs.Machine.{Machine, IsDone, AllDone, AreInputsDone, opening}
use Rattle.cu_table.specs.Step.{Settings, CanStart}

abbrev array : Option ℕ → ArrayInfo
array maker = record {
  prefix = codes "a";
  layout = record { dtype = Int32; grid = record { shape = 6 ∷ []; chunk = 4 ∷ [] }; encoding = Plain Slash; endian = Little; fill = pos 0 };
  maker = maker;
  inlined = false;
}

abbrev twice : ℕ → ℕ → Planned
twice source out = record { op = Map (record { code = record { items = Load 0 ∷ Load 1 ∷ Two Add Int32 0 1 ∷ [] } }) (record { items = source ∷ source ∷ [] }) out; node = 0; projected = 1600 }

abbrev maps : PlanView
maps = record { arrays = array None ∷ array (Some 0) ∷ array (Some 1) ∷ []; ops = twice 0 1 ∷ twice 1 2 ∷ []; out = 2; allowed = 1600; reserved = 0 }

abbrev alone : Settings
alone = record { plan = maps; retries = 2; backups = false }

-- worker 0 has done the first task of the first map, and worker 1 runs its second
abbrev half : Machine
half = record {
  tasks = record { failures = 0; copies = 0; done = true } ∷ record { failures = 0; copies = 1; done = false } ∷ record { failures = 0; copies = 0; done = false } ∷ record { failures = 0; copies = 0; done = false } ∷ [];
  copies = record { worker = 1; op = 0; task = 1 } ∷ [];
  ended = None;
}

only_one : (x y : Cell) → Contains (x ∷ []) y → x ≡ y
only_one x y (zero, l, e) = e
only_one x y (suc k, l, e) = absurd (omega (arith, l))

coord_of : (x y : Cell) → x ≡ y → get_or x.coord 0 0 ≡ get_or y.coord 0 0
coord_of x y e = ap (λ (c : Cell). get_or c.coord 0 0) e

array_of : (x y : Cell) → x ≡ y → x.array ≡ y.array
array_of x y e = ap (λ (c : Cell). c.array) e

-- who writes the first chunk of the first result
first_writer : (k t : ℕ) → WritesCell maps k t 1 (0 ∷ []) → (k ≡ 0) × (t ≡ 0)
first_writer zero zero w = (refl, refl)
first_writer zero (suc zero) w = absurd (let e = coord_of (cell 1 (1 ∷ [])) (cell 1 (0 ∷ [])) (only_one (cell 1 (1 ∷ [])) (cell 1 (0 ∷ [])) w.cell) in omega (arith, e))
first_writer zero (suc (suc t)) w = absurd (let n : suc (suc t) < 2 = w.number in omega (arith, n))
first_writer (suc zero) zero w = absurd (let e = array_of (cell 2 (0 ∷ [])) (cell 1 (0 ∷ [])) (only_one (cell 2 (0 ∷ [])) (cell 1 (0 ∷ [])) w.cell) in omega (arith, e))
first_writer (suc zero) (suc zero) w = absurd (let e = array_of (cell 2 (1 ∷ [])) (cell 1 (0 ∷ [])) (only_one (cell 2 (1 ∷ [])) (cell 1 (0 ∷ [])) w.cell) in omega (arith, e))
first_writer (suc zero) (suc (suc t)) w = absurd (let n : suc (suc t) < 2 = w.number in omega (arith, n))
first_writer (suc (suc k)) t w = absurd (let n : suc (suc k) < 2 = w.operation in omega (arith, n))

-- the only chunk that the second map's first task needs
needs_first : (c : Cell) → Contains (cell 1 (0 ∷ []) ∷ cell 1 (0 ∷ []) ∷ []) c → cell 1 (0 ∷ []) ≡ c
needs_first c (zero, l, e) = e
needs_first c (suc zero, l, e) = e
needs_first c (suc (suc k), l, e) = absurd (omega (arith, l))

-- it is ready
second_ready : AreInputsDone maps half 1 0
second_ready k t (c, has, writes) =
    let (a, b) = first_writer k t (subst (λ (d : Cell). WritesCell maps k t d.array d.coord) (sym (needs_first c has)) writes) in
    subst (λ (l : ℕ). IsDone maps half l t) (sym a) (subst (λ (u : ℕ). IsDone maps half 0 u) (sym b) refl)

second_may_start : CanStart alone half 1 0
second_may_start = inl (second_ready, (refl, refl))

-- its second task isn't, since the first map's second task still runs
last_waits : AreInputsDone maps half 1 1 → ⊥
last_waits ready = cc (ready 0 1 (cell 1 (1 ∷ []), (0, omega arith, refl), record { operation = omega arith; number = omega arith; cell = (0, omega arith, refl) }))

-- no other task can be started, so the next claim of worker 0 is this one
no_other : (op task : ℕ) → IsTask maps op task → CanStart alone half op task → (op ≡ 1) × (task ≡ 0)
no_other op task is (inr (none, on, single)) = absurd (cc on)
no_other zero zero is (inl (ready, (done, idle))) = absurd (cc done)
no_other zero (suc zero) is (inl (ready, (undone, idle))) = absurd (omega (arith, idle))
no_other zero (suc (suc t)) is (inl can) = absurd (let n : suc (suc t) < 2 = is.number in omega (arith, n))
no_other (suc zero) zero is (inl can) = (refl, refl)
no_other (suc zero) (suc zero) is (inl (ready, waits)) = absurd (last_waits ready)
no_other (suc zero) (suc (suc t)) is (inl can) = absurd (let n : suc (suc t) < 2 = is.number in omega (arith, n))
no_other (suc (suc k)) t is (inl can) = absurd (let n : suc (suc k) < 2 = is.operation in omega (arith, n))

-- ---- a table that is opened with tasks that are done

opened_ready : CanStart alone (opening (true ∷ false ∷ false ∷ false ∷ [])) 1 0
opened_ready = inl (ready, (refl, refl))
  where
    ready : AreInputsDone maps (opening (true ∷ false ∷ false ∷ false ∷ [])) 1 0
    ready k t (c, has, writes) =
        let (a, b) = first_writer k t (subst (λ (d : Cell). WritesCell maps k t d.array d.coord) (sym (needs_first c has)) writes) in
        subst (λ (l : ℕ). IsDone maps (opening (true ∷ false ∷ false ∷ false ∷ [])) l t) (sym a)
        (subst (λ (u : ℕ). IsDone maps (opening (true ∷ false ∷ false ∷ false ∷ [])) 0 u) (sym b) refl)

opened_whole : AllDone maps (opening (true ∷ true ∷ true ∷ true ∷ []))
opened_whole zero zero is = refl
opened_whole zero (suc zero) is = refl
opened_whole zero (suc (suc t)) is = absurd (let n : suc (suc t) < 2 = is.number in omega (arith, n))
opened_whole (suc zero) zero is = refl
opened_whole (suc zero) (suc zero) is = refl
opened_whole (suc zero) (suc (suc t)) is = absurd (let n : suc (suc t) < 2 = is.number in omega (arith, n))
opened_whole (suc (suc k)) t is = absurd (let n : suc (suc k) < 2 = is.operation in omega (arith, n))
