-- What an operation does goes by the layouts of its arrays alone.
use Rattle.cu_op.proofs.Kind.{Keeps}
use Rattle.cu_op.proofs.KindLaws.{laws_of}
use Rattle.cu_op.proofs.NewNumbers.{mapped_itself, rooms_same}
use Rattle.cu_op.specs.Arrays.{array_at, chunk_room, grid_at, same_grid, HasLayoutOf}
use Rattle.cu_op.specs.Cells.{task_grid}
use Rattle.cu_op.specs.Elements.{Elements}
use Rattle.cu_op.specs.Kinds.{kind_of}
use Rattle.cu_op.specs.Numbers.{stands_in}
use Rattle.cu_op.specs.Operation.{reads_by_chunk, reads_of, writes_of, Fits, ReadsByChunk}
use Rattle.cu_op.specs.Projection.{input_room, output_room, scratch_room}
use Rattle.cu_op.specs.Value.{rule}
use Rattle.cu_op.specs.declared.layout.ArrayInfo.{ArrayInfo}
use Rattle.cu_op.specs.declared.layout.Layout.{Layout}
use Rattle.cu_op.specs.declared.operation.Op.{Op}
use Rattle.cu_op.specs.declared.operation.Op.TheVariants.{Map}
use Rattle.cu_shape.specs.Counts.{largest}
use Rattle.std.proofs.Common.{◌≡◌, ℕ, ◌&&◌, List, [], ◌∷◌, ◌++◌, All, Contains, IsTrue, refl, ap, sym, ◌∙◌, arith, map, subst}

pub record SameLayouts (old new : List ArrayInfo) : Type 0 where
  pub at : (a : ℕ) → (array_at new a).layout ≡ (array_at old a).layout

own_layouts : (arrays : List ArrayInfo) → SameLayouts arrays arrays
own_layouts arrays = record { at = λ a. refl }

-- with the numbers that they have
abbrev itself : ℕ → ℕ
itself a = a

each : (old new : List ArrayInfo) → SameLayouts old new → (xs : List ℕ) → All (HasLayoutOf itself old new) xs
each old new s [] = λ k d b. absurd (omega arith)
each old new s (x ∷ xs) = λ k d b. s.at _

keeps : (old new : List ArrayInfo) → SameLayouts old new → (op : Op) → Keeps itself old new (kind_of op)
keeps old new s op = record { reads = each old new s (reads_of op); writes = each old new s (writes_of op); once = λ a b there here e. e; read_once = λ a b there here e. e }

-- Over the new arrays an operation and itself with these numbers do the same, and so does it over the old ones.
module _ (old new : List ArrayInfo) (s : SameLayouts old new) where
  over_new : (op : Op) → Keeps itself new new (kind_of op)
  over_new op = keeps new new (own_layouts new) op

  over_old : (op : Op) → Keeps itself old new (kind_of op)
  over_old op = keeps old new s op

  pub same_input_room : (op : Op) → input_room new op ≡ input_room old op
  same_input_room op = let r = (laws_of op).renumbered itself in sym (r.input_room new new (over_new op)) ∙ r.input_room old new (over_old op)

  pub same_output_room : (op : Op) → output_room new op ≡ output_room old op
  same_output_room op = let r = (laws_of op).renumbered itself in sym (r.output_room new new (over_new op)) ∙ r.output_room old new (over_old op)

  pub same_scratch : (op : Op) → scratch_room new op ≡ scratch_room old op
  same_scratch op =
      let all = reads_of op ++ writes_of op in
      ap (λ (l : List ℕ). largest (map (chunk_room new) l)) (sym (mapped_itself all))
      ∙ ap largest (rooms_same itself old new all (each old new s all))

  pub same_tasks : (op : Op) → task_grid new op ≡ task_grid old op
  same_tasks op = let r = (laws_of op).renumbered itself in sym (r.tasks new new (over_new op)) ∙ r.tasks old new (over_old op)

  pub same_fits : (op : Op) → Fits old op → Fits new op
  same_fits op h = (laws_of op).itself new (((laws_of op).renumbered itself).fits old new (over_old op) h)

  pub same_rule : (op : Op) (at : Elements) (array : ℕ) (idx : List ℕ) → Contains (writes_of op) array
      → rule op new at array idx ≡ rule op old at array idx
  same_rule op at array idx own =
      let r = (laws_of op).renumbered itself in
      sym (r.value new new at at array idx (over_new op) (λ a there. refl) own) ∙ r.value old new at at array idx (over_old op) (λ a there. refl) own

  grid_kept : (a : ℕ) → grid_at new a ≡ grid_at old a
  grid_kept a = ap (λ (l : Layout). l.grid) (s.at a)

  -- each task reads one chunk of an array
  same_test : (op : Op) (a : ℕ) → reads_by_chunk old op a ≡ reads_by_chunk new op a
  same_test (Map kernel ins out) a = λ i. stands_in ins.items a && same_grid (sym (grid_kept a) i) (sym (grid_kept out) i)
  same_test op a = refl

  pub same_by_chunk : (op : Op) (a : ℕ) → ReadsByChunk old op a → ReadsByChunk new op a
  same_by_chunk op a h = subst IsTrue (same_test op a) h
