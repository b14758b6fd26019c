-- Where each array of a plan is stored, nothing stands inside the tasks of its operations.
use Rattle.std.proofs.lemmas.List.FromFn.{length-range_with_len}
use Rattle.cu_op.proofs.Plans.{all_own}
use Rattle.cu_op.specs.Arrays.{is_inlined, AllStored}
use Rattle.cu_op.specs.Cells.{regions_of, tasks_of}
use Rattle.cu_op.specs.Elements.{Elements}
use Rattle.cu_op.specs.InputCells.{input_cells, own_cells}
use Rattle.cu_op.specs.Operation.{reads_of, target_of}
use Rattle.cu_op.specs.PlanView.{PlanView, op_of}
use Rattle.cu_op.specs.Projection.{input_room, instruction_count, own_projection, projection, scratch_room}
use Rattle.cu_op.specs.Value.{values_after}
use Rattle.cu_op.specs.Walks.{read_chunks}
use Rattle.cu_op.specs.Within.{chunks_deep, fetched_chunks, listed_number, maker_op, ops_deep, ops_within, with_inlined, is_listed, makes_inlined}
use Rattle.cu_op.specs.declared.cells.Cell.{Cell}
use Rattle.cu_op.specs.declared.layout.ArrayInfo.{ArrayInfo}
use Rattle.cu_op.specs.declared.operation.Op.{Op}
use Rattle.cu_op.specs.declared.operation.Planned.{Planned}
use Rattle.cu_shape.specs.Counts.{largest}
use Rattle.std.proofs.Common.{◌≡◌, ℕ, zero, suc, ◌+◌, false, List, [], ◌∷◌, ◌++◌, length, map, refl, ap, ◌∙◌, arith, if◌then◌else◌, Bool}
use Rattle.std.proofs.lemmas.List.Elements.{All-head, All-tail}
use Rattle.std.proofs.lemmas.List.Sums.{sum_by-cons}
use Rattle.std.specs.List.{count_by, filter, flat_map, range_with_len}
use Rattle.std.specs.Prelude.{sum_by}

pub stored_at : (arrays : List ArrayInfo) (a : ℕ) → AllStored arrays → is_inlined arrays a ≡ false
stored_at [] a h = refl
stored_at (x ∷ xs) zero h = All-head (λ (i : ArrayInfo). i.inlined ≡ false) x xs h
stored_at (x ∷ xs) (suc a) h = stored_at xs a (All-tail (λ (i : ArrayInfo). i.inlined ≡ false) x xs h)

pub all_tasks : (arrays : List ArrayInfo) (op : Op) → AllStored arrays
    → tasks_of arrays op ≡ regions_of arrays op
all_tasks arrays op h = all_own arrays op (stored_at arrays (target_of op) h)

-- ---- operations

none_read : (p : PlanView) (n : ℕ) (reads : List ℕ) → AllStored p.arrays
    → flat_map (λ a. if is_inlined p.arrays a then ops_deep p n (maker_op p a) else []) reads ≡ []
none_read p n [] h = refl
none_read p n (a ∷ reads) h = let e = stored_at p.arrays a h in rw e (none_read p n reads h)

deep_ops : (p : PlanView) (n : ℕ) (op : Op) → AllStored p.arrays → ops_deep p n op ≡ op ∷ []
deep_ops p zero op h = refl
deep_ops p (suc n) op h = ap (λ (rest : List Op). op ∷ rest) (none_read p n (reads_of op) h)

pub all_within : (p : PlanView) (k : ℕ) → AllStored p.arrays → ops_within p k ≡ op_of p k ∷ []
all_within p k h = deep_ops p k (op_of p k) h

one_sum : (f : Op → ℕ) (op : Op) → sum_by f (op ∷ []) ≡ f op
one_sum f op = sum_by-cons f op [] ∙ (let e : f op + 0 ≡ f op = omega arith in e)

pub all_projection : (p : PlanView) (k : ℕ) → AllStored p.arrays
    → projection p k ≡ own_projection p.arrays p.reserved (op_of p k)
all_projection p k h =
    let op = op_of p k in
    let one = all_within p k h in
    let a : largest (map (scratch_room p.arrays) (ops_within p k)) ≡ scratch_room p.arrays op =
    ap (λ (ops : List Op). largest (map (scratch_room p.arrays) ops)) one ∙ (let e : largest (scratch_room p.arrays op ∷ []) ≡ scratch_room p.arrays op = omega arith in e) in
    let b : sum_by (input_room p.arrays) (ops_within p k) ≡ input_room p.arrays op = ap (λ (ops : List Op). sum_by (input_room p.arrays) ops) one ∙ one_sum (input_room p.arrays) op in
    let c : sum_by instruction_count (ops_within p k) ≡ instruction_count op = ap (λ (ops : List Op). sum_by instruction_count ops) one ∙ one_sum instruction_count op in
    omega (arith, a, b, c)

-- ---- chunks

deep_chunks : (reads : List ArrayInfo → Op → ℕ → List Cell) (p : PlanView) (n : ℕ) (c : Cell)
    → AllStored p.arrays → chunks_deep reads p n c ≡ c ∷ []
deep_chunks reads p zero c h = refl
deep_chunks reads p (suc n) c h = let e = stored_at p.arrays c.array h in rw e refl

each_itself : (f : Cell → List Cell) (cells : List Cell) → ((c : Cell) → f c ≡ c ∷ [])
    → flat_map f cells ≡ cells
each_itself f [] h = refl
each_itself f (c ∷ cells) h = ap (λ (own : List Cell). own ++ flat_map f cells) (h c) ∙ ap (λ (rest : List Cell). c ∷ rest) (each_itself f cells h)

pub all_fetched : (p : PlanView) (k task : ℕ) → AllStored p.arrays
    → fetched_chunks p k task ≡ read_chunks p.arrays (op_of p k) task
all_fetched p k task h = each_itself (chunks_deep read_chunks p k) (read_chunks p.arrays (op_of p k) task) (λ c. deep_chunks read_chunks p k c h)

pub all_cells : (p : PlanView) (k task : ℕ) → AllStored p.arrays
    → input_cells p k task ≡ own_cells p.arrays (op_of p k) task
all_cells p k task h = each_itself (chunks_deep own_cells p k) (own_cells p.arrays (op_of p k) task) (λ c. deep_chunks own_cells p k c h)

-- ---- elements

none_picked : (arrays : List ArrayInfo) (os : List Planned) → AllStored arrays
    → filter (makes_inlined arrays) os ≡ []
none_picked arrays [] h = refl
none_picked arrays (o ∷ os) h = let e = stored_at arrays (target_of o.op) h in rw e (none_picked arrays os h)

pub all_elements : (p : PlanView) (at : Elements) → AllStored p.arrays → with_inlined p at ≡ at
all_elements p at h = ap (λ (os : List Planned). values_after os p.arrays at) (none_picked p.arrays p.ops h)

-- ---- numbers

abbrev one_if : Bool → ℕ
one_if b = if b then 1 else 0

each_listed : (p : PlanView) (ks : List ℕ) → AllStored p.arrays
    → count_by (is_listed p) ks ≡ length ks
each_listed p [] h = refl
each_listed p (k ∷ ks) h =
    let e = stored_at p.arrays (target_of (op_of p k)) h in
    let rest = each_listed p ks h in
    let one : one_if (is_listed p k) ≡ 1 = rw e refl in
    let all = sum_by-cons (λ (j : ℕ). one_if (is_listed p j)) k ks in
    omega (arith, rest, one, all)

pub all_listed : (p : PlanView) (k : ℕ) → AllStored p.arrays → listed_number p k ≡ k
all_listed p k h = each_listed p (range_with_len 0 k) h ∙ length-range_with_len 0 k
