-- A chunk of an array that is made where it is read has one reader, and one region of it reads the
-- chunk.
use Rattle.std.proofs.Common.{◌≡◌, inl, inr, ℕ, suc, ◌<◌, ◌==◌, Bool, true, List, [], ◌∷◌, length, get_or, Contains, refl, ap, sym, ◌∙◌, subst, arith, if◌then◌else◌}
use Rattle.std.specs.Prelude.{◌↔◌, sum_by}
use Rattle.std.proofs.lemmas.Bool.{cases_lt}
use Rattle.std.proofs.lemmas.Bool.Decides.{eqb_tells}
use Rattle.std.proofs.lemmas.List.Sums.{sum_by-cons}
use Rattle.cu_grid.specs.Grid.{IsCoordinate}
use Rattle.cu_op.specs.Arrays.{grid_at, is_inlined}
use Rattle.cu_op.specs.Cells.{regions_of}
use Rattle.cu_op.specs.Chunks.{cell}
use Rattle.cu_op.specs.InputCells.{own_cells}
use Rattle.cu_op.specs.Operation.{reads_of}
use Rattle.cu_op.specs.PlanView.{PlanView, no_operation, op_of}
use Rattle.cu_op.specs.Sound.{Sound}
use Rattle.cu_op.specs.Walks.{read_chunks}
use Rattle.cu_op.specs.declared.cells.Cell.{Cell}
use Rattle.cu_op.specs.declared.operation.Planned.{Planned}
use Rattle.cu_op.proofs.Operations.{stands}
use Rattle.cu_op.proofs.Plans.{grid_ok}
use Rattle.cu_op.proofs.TaskCells.{fit_of}
use Rattle.cu_fuse.proofs.ReadOnce.{only_reader, own_once, stands_some, times, times-cons}
use Rattle.cu_plan.specs.ReadsChunk.{ReadsChunk}
use Rattle.cu_plan.proofs.OneRegion.{one_region, OneRegion}

abbrev one_if : Bool → ℕ
one_if b = if b then 1 else 0

-- one of the parts of a sum is above 0 where the sum is
some_part : (f : Planned → ℕ) (xs : List Planned) → 0 < sum_by f xs → (k : ℕ) × (k < length xs) × (0 < f (get_or xs k no_operation))
some_part f [] h = absurd (omega (arith, h))
some_part f (x ∷ xs) h =
    elim (cases_lt 0 (f x)) [
      | inl here ↦ (0, omega arith, here)
      | inr none ↦
          let all = sum_by-cons f x xs in
          let (k, l, some) = some_part f xs (omega (arith, all, none, h)) in
          (suc k, omega (arith, l), some)
    ]

some_stands : (a : ℕ) (xs : List ℕ) → 0 < times a xs → Contains xs a
some_stands a [] h = absurd (omega (arith, h))
some_stands a (x ∷ xs) h =
    elim (eqb_tells x a) [
      | inl t ↦ (0, omega arith, t.1)
      | inr t ↦
          let all = times-cons a x xs in
          let none : one_if (x == a) ≡ 0 = rw t.0 refl in
          let rest = some_stands a xs (omega (arith, all, none, h)) in
          (suc rest.0, (let l = rest.1 in omega arith), rest.2)
    ]

module _ (p : PlanView) (s : Sound p) (a : ℕ) (within : a < length p.arrays) (inner : is_inlined p.arrays a ≡ true) where
  pub a_reader : (k : ℕ) × (k < length p.ops) × Contains (reads_of (op_of p k)) a
  a_reader =
      let once = (s.inlined a within inner).once in
      let (k, l, some) = some_part (λ (o : Planned). times a (reads_of o.op)) p.ops (omega (arith, once)) in
      (k, l, some_stands a (reads_of (op_of p k)) some)

  pub one_reader : (k l : ℕ) → Contains (reads_of (op_of p k)) a → Contains (reads_of (op_of p l)) a → k ≡ l
  one_reader k l read other = only_reader p a (s.inlined a within inner).once l other k read

  pub region_for : (k : ℕ) → k < length p.ops → Contains (reads_of (op_of p k)) a → (coord : List ℕ) → IsCoordinate (grid_at p.arrays a) coord
      → OneRegion p.arrays (op_of p k) (cell a coord)
  region_for k h read coord here =
      one_region p.arrays a coord here (op_of p k) (stands p.arrays (λ b w. grid_ok p b s w) k (op_of p k) (fit_of p s k h)) ((s.inlined a within inner).reader k h read)
      (λ others reads there.
      let one = own_once p a (s.inlined a within inner).once k read in
      let all = times-cons a a others in
      let own : one_if (a == a) ≡ 1 = elim (eqb_tells a a) [ inl t ↦ rw t.0 refl | inr t ↦ absurd (t.1 refl) ] in
      let more = stands_some a others there in
      let whole = ap (times a) reads in
      omega (arith, one, all, own, more, whole))

-- what is read and what is needed are the same chunks
abbrev pub ReadsNeeded : PlanView → Type 0
ReadsNeeded p =
    (k task : ℕ) (c : Cell) → k < length p.ops → task < regions_of p.arrays (op_of p k)
    → (Contains (read_chunks p.arrays (op_of p k) task) c) ↔ (Contains (own_cells p.arrays (op_of p k) task) c)

module _ (p : PlanView) (s : Sound p) (needed : ReadsNeeded p) (a : ℕ) (within : a < length p.arrays) (inner : is_inlined p.arrays a ≡ true) (coord : List ℕ)
    (here : IsCoordinate (grid_at p.arrays a) coord) where
  pub some_region : (k : ℕ) × (region : ℕ) × ReadsChunk p k region (cell a coord)
  some_region =
      let (k, h, read) = a_reader p s a within inner in
      let one = region_for p s a within inner k h read coord here in
      (k, one.number, record { operation = h; number = one.below; chunk = (needed k one.number (cell a coord) h one.below).1 one.reads })

  pub one_region_of : (k region l other : ℕ) → ReadsChunk p k region (cell a coord) → ReadsChunk p l other (cell a coord)
      → Contains (reads_of (op_of p k)) a → Contains (reads_of (op_of p l)) a → (k ≡ l) × (region ≡ other)
  one_region_of k region l other first second read also =
      let same = one_reader p s a within inner k l read also in
      let one = region_for p s a within inner l second.operation also coord here in
      let moved : ReadsChunk p l region (cell a coord) = subst (λ (j : ℕ). ReadsChunk p j region (cell a coord)) same first in (
        same,
        one.only region moved.number ((needed l region (cell a coord) moved.operation moved.number).0 moved.chunk)
            ∙ sym (one.only other second.number ((needed l other (cell a coord) second.operation second.number).0 second.chunk)),
      )
