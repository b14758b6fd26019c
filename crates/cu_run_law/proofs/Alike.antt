-- The values of a plan where two environments agree on its inputs.
use Rattle.std.proofs.Common.{◌≡◌, inl, inr, ℕ, zero, suc, ◌<◌, List, length, Option, Some, None, refl, sym, ◌∙◌, subst, arith}
use Rattle.std.proofs.lemmas.List.Elements.{All-contains}
use Rattle.cu_shape.specs.Index.{IsInside}
use Rattle.cu_grid.proofs.Parting.{in_array}
use Rattle.cu_op.specs.declared.cells.Cell.{Cell}
use Rattle.cu_op.specs.Arrays.{grid_at, layout_at, maker_at}
use Rattle.cu_op.specs.Cells.{IsChunk, task_grid}
use Rattle.cu_op.specs.Nested.{IsNested}
use Rattle.cu_op.specs.Operation.{reads_of, writes_of, IsReadable, IsBefore}
use Rattle.cu_op.specs.PlanView.{PlanView}
use Rattle.cu_op.specs.Schedule.{op_of, cell_value}
use Rattle.cu_op.specs.Sound.{Sound}
use Rattle.cu_op.specs.Elements.{Elements}
use Rattle.cu_op.specs.Value.{plan_value}
use Rattle.cu_op.proofs.Operations.{nested_writes, reads_inside}
use Rattle.cu_op.proofs.Plans.{grid_ok}
use Rattle.cu_op.proofs.Spellings.{spelled_alike}
use Rattle.cu_op.proofs.TaskCells.{fit_of}
use Rattle.cu_op.proofs.Values.{rule_reads, reads_listed, value_solves}
use Rattle.cu_run_law.specs.Left.{AgreeOnInputs}
use Rattle.cu_run_law.proofs.Reading.{input_or_made}

earlier : (m : Option ℕ) (k n : ℕ) → IsBefore m k → k < suc n → IsBefore m n
earlier None k n before less = tt
earlier (Some j) k n before less = omega (arith, before, less)

maker_below : (m : Option ℕ) (k n : ℕ) → m ≡ Some k → IsBefore m n → k < n
maker_below None k n made before = cc
maker_below (Some j) k n made before = let same : j ≡ k = cc in omega (arith, same, before)

module _ (p : PlanView) (env other : Elements) (sound : Sound p) (agree : AgreeOnInputs p env other) where
  given : (a : ℕ) (idx : List ℕ) → a < length p.arrays → IsInside (grid_at p.arrays a).shape idx → maker_at p.arrays a ≡ None → plan_value p env a idx ≡ plan_value p other a idx
  given a idx within inside none =
      (value_solves p env sound).inputs a idx none ∙ agree a idx within none inside ∙ sym ((value_solves p other sound).inputs a idx none)

  -- of the arrays that the first n operations make, and of the inputs
  before : (n a : ℕ) (idx : List ℕ) → a < length p.arrays → IsInside (grid_at p.arrays a).shape idx → IsBefore (maker_at p.arrays a) n → plan_value p env a idx ≡ plan_value p other a idx
  before zero a idx within inside made =
      elim (input_or_made (maker_at p.arrays a)) [
        | inl none ↦ given a idx within inside none
        | inr maker ↦ absurd (let less = maker_below (maker_at p.arrays a) maker.0 0 maker.1 made in omega (arith, less))
      ]
  before (suc n) a idx within inside made =
      elim (input_or_made (maker_at p.arrays a)) [
        | inl none ↦ given a idx within inside none
        | inr maker ↦
            let k = maker.0 in
            let less = maker_below (maker_at p.arrays a) k (suc n) maker.1 made in
            let (there, among) = sound.makers a k within maker.1 in
            let fit = fit_of p sound k there in
            let nested = All-contains (λ b. IsNested (grid_at p.arrays b) (task_grid p.arrays (op_of p k))) (writes_of (op_of p k)) a
            (nested_writes p.arrays (λ b h. grid_ok p b sound h) k (op_of p k) fit) among in
            let wide : IsInside (task_grid p.arrays (op_of p k)).shape idx = subst (λ (ns : List ℕ). IsInside ns idx) (sym nested.shape) inside in
            (value_solves p env sound).made k a idx there among
            ∙ rule_reads (op_of p k) p.arrays (plan_value p env) (plan_value p other) a idx
            (λ b i reads.
            let readable = All-contains (IsReadable p.arrays k) (reads_of (op_of p k)) b fit.0 (reads_listed (op_of p k) p.arrays idx b i reads) in
            before n b i readable.0 (reads_inside p.arrays (λ c h. grid_ok p c sound h) k (op_of p k) b idx i fit wide reads) (earlier (maker_at p.arrays b) k n readable.1 less))
            ∙ sym ((value_solves p other sound).made k a idx there among)
      ]

  pub values_alike : (a : ℕ) (idx : List ℕ) → a < length p.arrays → IsInside (grid_at p.arrays a).shape idx → plan_value p env a idx ≡ plan_value p other a idx
  values_alike a idx within inside = before (length p.ops) a idx within inside (last (maker_at p.arrays a) (λ k made. (sound.makers a k within made).0))
    where
      last : (m : Option ℕ) → ((k : ℕ) → m ≡ Some k → k < length p.ops) → IsBefore m (length p.ops)
      last None h = tt
      last (Some k) h = h k refl

  pub chunks_alike : (c : Cell) → IsChunk p.arrays c → cell_value p env c ≡ cell_value p other c
  chunks_alike c chunk =
      let g = grid_at p.arrays c.array in
      let ok = grid_ok p c.array sound chunk.0 in
      spelled_alike (layout_at p.arrays c.array) (plan_value p env c.array) (plan_value p other c.array) c.coord ok chunk.1
      (λ idx within. values_alike c.array idx chunk.0 (in_array g c.coord idx ok chunk.1 within))
