-- An operation over arrays with other numbers has the same rule, fits, and needs as much.
use Rattle.cu_op.proofs.Kind.{Keeps}
use Rattle.cu_op.proofs.KindLaws.{laws_of}
use Rattle.cu_op.proofs.NewNumbers.{rooms_same}
use Rattle.cu_op.specs.Arrays.{chunk_room, HasLayoutOf}
use Rattle.cu_op.specs.Cells.{task_grid}
use Rattle.cu_op.specs.Kinds.{kind_of}
use Rattle.cu_op.specs.Operation.{writes_of, reads_of, Fits, renumbered}
use Rattle.cu_op.specs.Projection.{kernel_length, own_projection, scratch_room}
use Rattle.cu_op.specs.Elements.{Elements}
use Rattle.cu_op.specs.Value.{rule}
use Rattle.cu_op.specs.declared.layout.ArrayInfo.{ArrayInfo}
use Rattle.cu_op.specs.declared.operation.Op.{Op}
use Rattle.cu_shape.specs.Counts.{largest}
use Rattle.std.proofs.Common.{◌≡◌, ℕ, ◌+◌, List, All, Contains, sym, ◌∙◌, ◌++◌, map, ap, ◌*◌}
use Rattle.std.proofs.lemmas.List.{map-append}
use Rattle.std.proofs.lemmas.List.Elements.{All-weaker, All-contains, All-append}

module _ (f : ℕ → ℕ) (old new : List ArrayInfo) (Kept : ℕ → Type 0) (kept : (a : ℕ) → Kept a → HasLayoutOf f old new a) (once : (a b : ℕ) → Kept a → Kept b → f a ≡ f b → a ≡ b) where
  keeps : (op : Op) → All Kept (reads_of op) → All Kept (writes_of op) → Keeps f old new (kind_of op)
  keeps op reads writes = record {
    reads = All-weaker Kept (HasLayoutOf f old new) kept (reads_of op) reads;
    writes = All-weaker Kept (HasLayoutOf f old new) kept (writes_of op) writes;
    once = λ a b there here. once a b (All-contains Kept (writes_of op) a writes there) (All-contains Kept (writes_of op) b writes here);
    read_once = λ a b there here. once a b (All-contains Kept (reads_of op) a reads there) (All-contains Kept (reads_of op) b reads here);
  }

  module _ (at other : Elements) (same : (a : ℕ) → Kept a → other (f a) ≡ at a) where
    pub renumbered_rule : (op : Op) (array : ℕ) (idx : List ℕ) → All Kept (reads_of op) → All Kept (writes_of op) → Contains (writes_of op) array → rule (renumbered f op) new other (f array) idx ≡ rule op old at array idx
    renumbered_rule op array idx reads writes own =
        ((laws_of op).renumbered f).value old new at other array idx (keeps op reads writes) (λ a there. same a (All-contains Kept (reads_of op) a reads there)) own

  -- ---- it fits

  pub renumbered_fits : (op : Op) → All Kept (reads_of op) → All Kept (writes_of op) → Fits old op → Fits new (renumbered f op)
  renumbered_fits op reads writes h = ((laws_of op).renumbered f).fits old new (keeps op reads writes) h

  -- ---- it needs as much, and has as many tasks

  pub reads_renumbered : (op : Op) → reads_of (renumbered f op) ≡ map f (reads_of op)
  reads_renumbered op = ((laws_of op).renumbered f).reads

  pub writes_renumbered : (op : Op) → writes_of (renumbered f op) ≡ map f (writes_of op)
  writes_renumbered op = ((laws_of op).renumbered f).writes

  scratch_same : (op : Op) → All Kept (reads_of op) → All Kept (writes_of op) → scratch_room new (renumbered f op) ≡ scratch_room old op
  scratch_same op reads writes =
      (λ i. largest (map (chunk_room new) (reads_renumbered op i ++ writes_renumbered op i)))
      ∙ ap (λ l. largest (map (chunk_room new) l)) (sym (map-append f (reads_of op) (writes_of op)))
      ∙ ap largest (rooms_same f old new (reads_of op ++ writes_of op) (All-append (HasLayoutOf f old new) (reads_of op) (writes_of op) (keeps op reads writes).reads (keeps op reads writes).writes))

  pub renumbered_projection : (op : Op) (reserved : ℕ) → All Kept (reads_of op) → All Kept (writes_of op) → own_projection new reserved (renumbered f op) ≡ own_projection old reserved op
  renumbered_projection op reserved reads writes =
      let law = (laws_of op).renumbered f in
      let own = keeps op reads writes in
      λ i. reserved + scratch_same op reads writes i + law.input_room old new own i + law.output_room old new own i + 512 * kernel_length (law.kernel i)

  -- its tasks go over the same grid
  pub renumbered_tasks : (op : Op) → All Kept (reads_of op) → All Kept (writes_of op) → task_grid new (renumbered f op) ≡ task_grid old op
  renumbered_tasks op reads writes = ((laws_of op).renumbered f).tasks old new (keeps op reads writes)
