-- Why a text's arrays aren't compared: what the parts that read metadata say of the answer.
use Rattle.std.proofs.Common.{◌≡◌, ◌⊎◌, ℕ, ◌*◌, ◌≤◌, List, length, All, Ok, sym, ap, subst, inl, inr, arith, mul_right_comm}
use Rattle.cu_form.specs.Expression.{Expression}
use Rattle.cu_expr.specs.declared.inputs.InputInfo.{InputInfo}
use Rattle.cu_read.specs.Read.{expression_of}
use Rattle.cu_store.specs.Steps.{Shown, NoChange, Steps, OnceEach}
use Rattle.cu_store.proofs.Once.{once_then, once_few}
use Rattle.cu_zarr.specs.Key.{metadata_key_of}
use Rattle.cu_command.proofs.InputLemmas.{such_then}
use Rattle.cu_command.proofs.SeenLemmas.{stepped, gone_before, within_then, within_more, within_few}
use Rattle.cu_command.specs.Inputs.{names_in, names_of, IsReadAt, IsWrittenAt, IsInputFault}
use Rattle.cu_command.specs.Job.{IsUnread, IsUntyped, IsJob, names_or_none, names_said, status_of}
use Rattle.cu_command.specs.Seen.{Stream, Seen, WithinCalls}
use Rattle.cu_command.specs.Streams.{ReadsAll}
use Rattle.cu_command.specs.Stored.{IsArrayLayout, IsMetadata, IsRefusedText, HoldsLayout, IsMetadataFault}
use Rattle.cu_command.specs.declared.job.Job.{Job}
use Rattle.cu_command.specs.declared.job.JobFault.{JobFault}
use Rattle.cu_command.specs.declared.job.JobFault.TheVariants as fault
use Rattle.cu_command.specs.declared.status.Status.{Status}
use Rattle.cu_command.specs.declared.status.Status.TheVariants.{OverLimit, BadMeta}
use Rattle.cu_check.specs.Arrays.{compared_arrays, chunks_of_all}
use Rattle.cu_check.specs.Check.{AreInputsRead, IsOutputRead, IsOutputFault, IsMisfit, Compares, ComparesWithin, ChecksWithin, metadata_keys, ComparesOnce, ChecksOnce}

-- ---- the text

pub unread_ends : (tries : ℕ) (text : List ℕ) (old new : Seen) (f : JobFault) → IsUnread text f → Compares tries text old new (status_of f)
unread_ends tries text old new (fault.Expression code node) h = h
unread_ends tries text old new fault.NoMemory h = tt
unread_ends tries text old new f h = absurd h

-- ---- metadata

-- reading the metadata of an input, or of the output, ended so
metadata_ends : (tries : ℕ) (text : List ℕ) (e : Expression) (old new : Seen) (f : JobFault) → expression_of text ≡ Ok e
    → IsInputFault tries (names_in e) old.depot new.depot f ⊎ IsOutputFault tries e old.depot new.depot f → Compares tries text old new (status_of f)
metadata_ends tries text e old new (fault.DepotFailed key) said (inl h) = (h.3, inl (e, said, inl h))
metadata_ends tries text e old new (fault.DepotFailed key) said (inr h) = (h.2, inl (e, said, inr h))
metadata_ends tries text e old new (fault.NoArray name) said h = (e, said, h)
metadata_ends tries text e old new (fault.BadMeta name code) said h = inl (e, said, h)
metadata_ends tries text e old new fault.NoMemory said h = tt
metadata_ends tries text e old new f said (inl h) = absurd h
metadata_ends tries text e old new f said (inr h) = absurd h

pub inputs_end : (tries : ℕ) (text : List ℕ) (e : Expression) (old new : Seen) (f : JobFault) → expression_of text ≡ Ok e → IsInputFault tries (names_in e) old.depot new.depot f
    → Compares tries text old new (status_of f)
inputs_end tries text e old new f said h = metadata_ends tries text e old new f said (inl h)

output_fault : {l m : ℕ} (tries : ℕ) (e : Expression) (entry mid now : Shown) (f : JobFault) → AreInputsRead entry e → entry.faults ≤ mid.faults → Steps NoChange l m entry now
    → IsMetadataFault tries mid.faults now.faults now.held e.store_as (status_of f) → IsOutputFault tries e entry now f
output_fault tries e entry mid now (fault.DepotFailed key) read count step h = (h.0, read, omega (arith, h.1, count))
output_fault tries e entry mid now (fault.NoArray name) read count step h = (h.0, read, gone_before entry now (metadata_key_of e.store_as) (stepped step) h.1)
output_fault tries e entry mid now (fault.BadMeta name code) read count step h =
    (h.0, read, h.1, λ calm. such_then entry.late entry.held now.held (metadata_key_of e.store_as) (λ text. IsRefusedText text code) step.lands calm h.1)
output_fault tries e entry mid now fault.NoMemory read count step h = tt
output_fault tries e entry mid now f read count step h = absurd h

pub output_ends : {l m : ℕ} (tries : ℕ) (text : List ℕ) (e : Expression) (inputs : List InputInfo) (old new : Seen) (mid : Shown) (f : JobFault) → expression_of text ≡ Ok e
    → names_of inputs ≡ names_in e → All (IsReadAt old.depot) inputs → old.depot.faults ≤ mid.faults → Steps NoChange l m old.depot new.depot
    → IsMetadataFault tries mid.faults new.depot.faults new.depot.held e.store_as (status_of f) → Compares tries text old new (status_of f)
output_ends tries text e inputs old new mid f said names read count step h =
    metadata_ends tries text e old new f said
    (inr (output_fault tries e old.depot mid new.depot f (record { inputs = inputs; names = names; read = read }) count step h))

written_at : {l m : ℕ} (entry now : Shown) (output : InputInfo) → Steps NoChange l m entry now → IsArrayLayout output.layout → HoldsLayout now.held (metadata_key_of output.name) output.layout
    → IsWrittenAt entry output
written_at entry now output step layout holds = record {
  layout = layout;
  held = λ calm. such_then entry.late entry.held now.held (metadata_key_of output.name) (IsMetadata output.layout) step.lands calm holds;
}

pub is_output : {l m : ℕ} (e : Expression) (entry now : Shown) (output : InputInfo) → Steps NoChange l m entry now → output.name ≡ e.store_as → IsArrayLayout output.layout
    → HoldsLayout now.held (metadata_key_of e.store_as) output.layout → IsOutputRead entry e output
is_output e entry now output step name layout found = record {
  name = name;
  read = written_at entry now output step layout (subst (λ (n : List ℕ). HoldsLayout now.held (metadata_key_of n) output.layout) (sym name) found);
}

-- ---- types, and what is compared

pub untyped_ends : (tries : ℕ) (text : List ℕ) (e : Expression) (inputs : List InputInfo) (output : InputInfo) (old new : Seen) (f : JobFault) → expression_of text ≡ Ok e
    → names_of inputs ≡ names_in e → All (IsReadAt old.depot) inputs → IsOutputRead old.depot e output → IsUntyped inputs e f → Compares tries text old new (status_of f)
untyped_ends tries text e inputs output old new (fault.Typing code node) said names read is_out (place, fault) =
    (record { expr = e; said = said; inputs = inputs; names = names; read = read; place = place; fault = fault }, (e, said, (output, is_out)))
untyped_ends tries text e inputs output old new fault.NoMemory said names read is_out h = tt
untyped_ends tries text e inputs output old new f said names read is_out h = absurd h

pub misfit_ends : (tries : ℕ) (text : List ℕ) (old new : Seen) (job : Job) (output : InputInfo) (status : Status) → IsJob old.depot text job → IsOutputRead old.depot job.expr output
    → IsMisfit job output status → Compares tries text old new status
misfit_ends tries text old new job output (BadMeta name code) is_job is_out (is_code, named, unfit) = inr (is_code, (job, output, is_job, is_out, (named, unfit)))
misfit_ends tries text old new job output (OverLimit which count) is_job is_out (is_which, fits, is_count, over) = (is_which, (job, output, is_job, is_out, (fits, is_count, over)))
misfit_ends tries text old new job output status is_job is_out h = absurd h

-- ---- how many calls are made

said_names : (text : List ℕ) (e : Expression) → expression_of text ≡ Ok e → names_in e ≡ names_said text
said_names text e said = sym (ap names_or_none said)

-- for the metadata of the inputs, two keys for each
inputs_calls : (tries : ℕ) (text : List ℕ) (e : Expression) (a b : Shown) → expression_of text ≡ Ok e → WithinCalls (2 * tries * length (names_in e)) a b → WithinCalls (2 * length (names_said text) * tries) a b
inputs_calls tries text e a b said calls = rw (← said_names text e said, mul_right_comm 2 (length (names_in e)) tries) calls

pub inputs_within : (tries : ℕ) (text : List ℕ) (e : Expression) (a b : Shown) → expression_of text ≡ Ok e → WithinCalls (2 * tries * length (names_in e)) a b → WithinCalls (metadata_keys text * tries) a b
inputs_within tries text e a b said calls = within_few (2 * length (names_said text)) (metadata_keys text) tries a b (omega arith) (inputs_calls tries text e a b said calls)

-- and then for that of the output
pub output_within : (tries : ℕ) (text : List ℕ) (e : Expression) (a b c : Shown) → expression_of text ≡ Ok e → WithinCalls (2 * tries * length (names_in e)) a b → WithinCalls tries b c
    → WithinCalls (metadata_keys text * tries) a c
output_within tries text e a b c said first next = within_more (2 * length (names_said text)) tries a b c (inputs_calls tries text e a b said first) next

-- and then for the chunks of the arrays
pub compared_within : (tries : ℕ) (text : List ℕ) (job : Job) (output : InputInfo) (a b c : Shown) → IsJob a text job → IsOutputRead a job.expr output
    → WithinCalls (metadata_keys text * tries) a b → WithinCalls (chunks_of_all (compared_arrays job output) * tries) b c → ComparesWithin tries text a c
compared_within tries text job output a b c is_job is_out first next =
    inr (job, output, is_job, is_out, within_then (metadata_keys text) (chunks_of_all (compared_arrays job output)) tries a b c first next)

-- of the text that was read
pub text_within : (tries : ℕ) (src next : Stream) (text : List ℕ) (a b : Shown) → ReadsAll src.told next.told text → ComparesWithin tries text a b → ChecksWithin tries src next a b
text_within tries src next text a b read within = inr (text, read, within)

-- ---- each key called for once, and again only where a call failed

inputs_calls_once : (text : List ℕ) (e : Expression) (a b : Shown) → expression_of text ≡ Ok e → OnceEach (2 * length (names_in e)) a b → OnceEach (2 * length (names_said text)) a b
inputs_calls_once text e a b said once = rw (← said_names text e said) once

pub inputs_once : (text : List ℕ) (e : Expression) (a b : Shown) → expression_of text ≡ Ok e → OnceEach (2 * length (names_in e)) a b → OnceEach (metadata_keys text) a b
inputs_once text e a b said once = once_few (2 * length (names_said text)) (metadata_keys text) a b (omega arith) (inputs_calls_once text e a b said once)

pub output_once : (text : List ℕ) (e : Expression) (a b c : Shown) → expression_of text ≡ Ok e → OnceEach (2 * length (names_in e)) a b → OnceEach 1 b c → OnceEach (metadata_keys text) a c
output_once text e a b c said first next = once_then (2 * length (names_said text)) 1 a b c (inputs_calls_once text e a b said first) next

pub compared_once : (text : List ℕ) (job : Job) (output : InputInfo) (a b c : Shown) → IsJob a text job → IsOutputRead a job.expr output
    → OnceEach (metadata_keys text) a b → OnceEach (chunks_of_all (compared_arrays job output)) b c → ComparesOnce text a c
compared_once text job output a b c is_job is_out first next =
    inr (job, output, is_job, is_out, once_then (metadata_keys text) (chunks_of_all (compared_arrays job output)) a b c first next)

pub text_once : (src next : Stream) (text : List ℕ) (a b : Shown) → ReadsAll src.told next.told text → ComparesOnce text a b → ChecksOnce src next a b
text_once src next text a b read once = inr (text, read, once)
