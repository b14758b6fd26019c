-- What comparing a stored output with its expression answers, when, and what it leaves. This project's own rules.
use Rattle.std.specs.Prelude.{◌≡◌, ◌≢◌, ◌⊎◌, ℕ, ◌+◌, ◌*◌, ◌<◌, ◌≤◌, ℤ, List, [], ◌∷◌, ◌++◌, All, length, sum_by, codes, decimal, Option, Some, Ok, Err}
use Rattle.cu_shape.specs.Index.{product, index_at, IsInside}
use Rattle.cu_form.specs.Expression.{Expression}
use Rattle.cu_node.specs.declared.info.NodeInfo.{NodeInfo}
use Rattle.cu_expr.specs.declared.inputs.InputInfo.{InputInfo}
use Rattle.cu_read.specs.Read.{expression_of}
use Rattle.cu_semantics.specs.Argument.{shape_of_node}
use Rattle.cu_semantics.specs.Meaning.{meaning_of}
use Rattle.cu_semantics.specs.Typed.{type_of_node}
use Rattle.cu_op.specs.Layout.{layout_view}
use Rattle.cu_store.specs.Faults.{Rose}
use Rattle.cu_store.specs.Held.{Contents, IsGone}
use Rattle.cu_store.specs.Steps.{Shown, NoChange, OnceEach}
use Rattle.cu_zarr.specs.Key.{metadata_key_of}
use Rattle.cu_zarr.specs.Stored.{stored_element}
use Rattle.cu_region.specs.Reading.{bytes_of}
use Rattle.cu_region.specs.Steady.{HoldsLength}
use Rattle.cu_command.specs.Inputs.{names_in, names_of, IsCalmAt, IsReadAt, IsWrittenAt, IsInputFault}
use Rattle.cu_command.specs.Job.{IsJob, IsIllTyped, names_said}
use Rattle.cu_command.specs.Seen.{Stream, Seen, Stepped, WithinCalls}
use Rattle.cu_command.specs.Stored.{HoldsRefused}
use Rattle.cu_command.specs.Streams.{ReadsAll, WroteFront}
use Rattle.cu_command.specs.declared.job.Job.{Job}
use Rattle.cu_command.specs.declared.job.JobFault.{JobFault}
use Rattle.cu_command.specs.declared.job.JobFault.TheVariants as fault
use Rattle.cu_command.specs.declared.status.Status.{Status}
use Rattle.cu_command.specs.declared.status.Status.TheVariants.{Done, BadExpr, BadType, OverLimit, BadMeta, NoArray, ReadFault, WriteFault, BadChunk, DepotFailed, Unequal, NoMemory}
use Rattle.cu_check.specs.Arrays.{compared_arrays, chunks_of_all, HasAllElements, WhereStill, IsChunkTurn}
use Rattle.cu_check.specs.Elements.{elements_of}
use Rattle.cu_check.specs.declared.metadata.Compared.{Compared}

-- ---- metadata

-- what was read of the output's metadata
pub record IsOutputRead (entry : Shown) (e : Expression) (output : InputInfo) : Type 0 where
  pub name : output.name ≡ e.store_as
  pub read : IsWrittenAt entry output

-- the metadata of all inputs was read and accepted
pub record AreInputsRead (entry : Shown) (e : Expression) : Type 0 where
  pub inputs : List InputInfo
  pub names : names_of inputs ≡ names_in e
  pub read : All (IsReadAt entry) inputs

-- Why reading the output's metadata ends, behind those of all inputs. The one key is that of version 3.
abbrev pub IsOutputFault : ℕ → Expression → Shown → Shown → JobFault → Type 0
IsOutputFault tries e entry now (fault.DepotFailed key) = (key ≡ metadata_key_of e.store_as) × AreInputsRead entry e × Rose tries entry.faults now.faults
IsOutputFault tries e entry now (fault.NoArray name) = (name ≡ e.store_as) × AreInputsRead entry e × IsGone entry.held (metadata_key_of e.store_as)
IsOutputFault tries e entry now (fault.BadMeta name code) = (name ≡ e.store_as) × AreInputsRead entry e × HoldsRefused now.held (metadata_key_of e.store_as) code
    × (IsCalmAt entry (metadata_key_of e.store_as) → HoldsRefused entry.held (metadata_key_of e.store_as) code)
IsOutputFault tries e entry now fault.NoMemory = Unit {0}
IsOutputFault tries e entry now f = ⊥

-- reading the metadata of an input, or of the output, ended so
abbrev pub IsUnreadable : ℕ → List ℕ → Shown → Shown → JobFault → Type 0
IsUnreadable tries text entry now f = (e : Expression) × (expression_of text ≡ Ok e) × (IsInputFault tries (names_in e) entry now f ⊎ IsOutputFault tries e entry now f)

-- the expression has no types, and the output's metadata was read and accepted
abbrev pub IsMistyped : List ℕ → Shown → ℕ → ℕ → Type 0
IsMistyped text entry code node = IsIllTyped entry text code node × ((e : Expression) × (expression_of text ≡ Ok e) × ((output : InputInfo) × IsOutputRead entry e output))

-- the job of the text and its output, with a fact of them
abbrev pub OfTyped : List ℕ → Shown → (Job → InputInfo → Type 0) → Type 0
OfTyped text entry fact = (job : Job) × (output : InputInfo) × IsJob entry text job × IsOutputRead entry job.expr output × fact job output

-- ---- what is compared

-- the output has the type and the shape of the node that is stored
pub record IsLikeStoredNode (job : Job) (output : InputInfo) : Type 0 where
  pub dtype : output.layout.dtype ≡ type_of_node job.types job.expr.out
  pub shape : output.layout.grid.shape ≡ shape_of_node job.types job.expr.out

-- the elements of all nodes together; an axis of size 0 counts as 0
abbrev pub elements_in_all : List NodeInfo → ℕ
elements_in_all infos = sum_by (λ i. product i.dims) infos

-- the same with few enough elements
abbrev pub OfCompared : List ℕ → Shown → (Job → InputInfo → Type 0) → Type 0
OfCompared text entry fact = OfTyped text entry (λ job output. IsLikeStoredNode job output × (elements_in_all job.types ≤ 4194304) × fact job output)

-- ---- elements

-- what the expression means at an index of the output, over what was held
abbrev pub plain_element : Job → Contents → List ℕ → ℤ
plain_element job held idx = meaning_of job.expr job.types (elements_of job held) job.expr.out idx

-- each stored element of the output is what the expression means there
abbrev pub IsEqual : Job → InputInfo → Contents → Type 0
IsEqual job output held = (idx : List ℕ) → IsInside (shape_of_node job.types job.expr.out) idx
    → stored_element (layout_view output.layout) output.name held idx ≡ Some (plain_element job held idx)

-- at each place of the output, row-major, below this one
abbrev pub IsEqualBelow : Job → InputInfo → Contents → ℕ → Type 0
IsEqualBelow job output held place = (p : ℕ) → p < place
    → stored_element (layout_view output.layout) output.name held (index_at (shape_of_node job.types job.expr.out) p) ≡ Some (plain_element job held (index_at (shape_of_node job.types job.expr.out) p))

-- the elements at this place are these
pub record AreAt (job : Job) (output : InputInfo) (held : Contents) (place : ℕ) (stored plain : ℤ) : Type 0 where
  pub stored_is : stored_element (layout_view output.layout) output.name held (index_at (shape_of_node job.types job.expr.out) place) ≡ Some stored
  pub plain_is : plain_element job held (index_at (shape_of_node job.types job.expr.out) place) ≡ plain

-- all chunks of the arrays are there, and this is so of what was held
abbrev pub WhereThere : Shown → Job → InputInfo → (Contents → Type 0) → Type 0
WhereThere entry job output fact = WhereStill entry (compared_arrays job output) (λ held. All (HasAllElements held) (compared_arrays job output) × fact held)

-- ---- the answers

-- `equal N`, with a line feed, where N counts the output's elements
unfoldable pub equal_line : InputInfo → List ℕ
equal_line output = codes "equal " ++ decimal (product output.layout.grid.shape) ++ 10 ∷ []

-- 0: the elements are equal, and the line was written
abbrev pub IsFoundEqual : List ℕ → Seen → Seen → Type 0
IsFoundEqual text old new = OfCompared text old.depot (λ job output. WhereThere old.depot job output (IsEqual job output)
    × WroteFront old.out.told new.out.told (equal_line output) (length (equal_line output)))

-- 12: the elements are equal, and the sink failed where a front of the line was written
abbrev pub IsUnwritten : List ℕ → Seen → Seen → Type 0
IsUnwritten text old new = Rose 1 old.out.faults new.out.faults × OfCompared text old.depot (λ job output. WhereThere old.depot job output (IsEqual job output)
    × ((n : ℕ) × (n ≤ length (equal_line output)) × WroteFront old.out.told new.out.told (equal_line output) n))

-- 17: the elements at this place differ, and those at each place before it are equal
abbrev pub IsUnequal : List ℕ → Shown → ℕ → ℤ → ℤ → Type 0
IsUnequal text entry place stored plain = (stored ≢ plain) × OfCompared text entry (λ job output. (place < product output.layout.grid.shape)
    × WhereThere entry job output (λ held. IsEqualBelow job output held place × AreAt job output held place stored plain))

-- 13: the chunk under this key, in its turn, holds `got` bytes, which aren't the bytes of a chunk
abbrev pub IsBadComparedChunk : List ℕ → Shown → Shown → List ℕ → ℕ → ℕ → Type 0
IsBadComparedChunk text entry now key got want = OfCompared text entry (λ job output. (a : InputInfo) × IsChunkTurn entry (compared_arrays job output) a key
    × (want ≡ bytes_of a.layout) × (got ≢ want) × HoldsLength now.held key got)

-- 16: all tries of the calls for this key failed: that of metadata in its turn, or that of a chunk in its turn
abbrev pub IsFailedKey : ℕ → List ℕ → Shown → Shown → List ℕ → Type 0
IsFailedKey tries text entry now key = Rose tries entry.faults now.faults
    × (IsUnreadable tries text entry now (fault.DepotFailed key) ⊎ OfCompared text entry (λ job output. (a : InputInfo) × IsChunkTurn entry (compared_arrays job output) a key))

-- 7: the bytes that are held are refused as metadata with this code; or, with code 11, the output's type or shape isn't that of the node
abbrev pub IsRefusedMetadata : ℕ → List ℕ → Shown → Shown → List ℕ → ℕ → Type 0
IsRefusedMetadata tries text entry now name code = IsUnreadable tries text entry now (fault.BadMeta name code)
    ⊎ ((code ≡ 11) × OfTyped text entry (λ job output. (name ≡ output.name) × ¬ (IsLikeStoredNode job output)))

-- 6: the nodes have so many elements together, which are too many
abbrev pub IsOverLimit : List ℕ → Shown → ℕ → ℕ → Type 0
IsOverLimit text entry which count = (which ≡ 3) × OfTyped text entry (λ job output. IsLikeStoredNode job output × (count ≡ elements_in_all job.types) × (4194304 < count))

-- ---- what the parts of the command rest on

-- 7 with code 11, and 6: why the output isn't compared with its node
abbrev pub IsMisfit : Job → InputInfo → Status → Type 0
IsMisfit job output (BadMeta name code) = (code ≡ 11) × (name ≡ output.name) × ¬ (IsLikeStoredNode job output)
IsMisfit job output (OverLimit which count) = (which ≡ 3) × IsLikeStoredNode job output × (count ≡ elements_in_all job.types) × (4194304 < count)
IsMisfit job output status = ⊥

-- why comparing ends, from what the depot showed when the chunks began to be read and shows at the end
abbrev pub IsCompareFault : ℕ → Shown → Shown → Shown → Compared → Status → Type 0
IsCompareFault tries entry old new c (Unequal place stored plain) = (stored ≢ plain) × (place < product c.output.layout.grid.shape)
    × WhereThere entry c.job c.output (λ held. IsEqualBelow c.job c.output held place × AreAt c.job c.output held place stored plain)
IsCompareFault tries entry old new c (BadChunk key got want) = (a : InputInfo) × IsChunkTurn entry (compared_arrays c.job c.output) a key
    × (want ≡ bytes_of a.layout) × (got ≢ want) × HoldsLength new.held key got
IsCompareFault tries entry old new c (DepotFailed key) = Rose tries old.faults new.faults × ((a : InputInfo) × IsChunkTurn entry (compared_arrays c.job c.output) a key)
IsCompareFault tries entry old new c NoMemory = Unit {0}
IsCompareFault tries entry old new c status = ⊥

-- ---- the command

-- what comparing the output of a text's expression answers
abbrev pub Compares : ℕ → List ℕ → Seen → Seen → Status → Type 0
Compares tries text old new (BadExpr code node) = expression_of text ≡ Err (record { code = code; node = node })
Compares tries text old new (NoArray name) = IsUnreadable tries text old.depot new.depot (fault.NoArray name)
Compares tries text old new (BadMeta name code) = IsRefusedMetadata tries text old.depot new.depot name code
Compares tries text old new (BadType code node) = IsMistyped text old.depot code node
Compares tries text old new (OverLimit which count) = IsOverLimit text old.depot which count
Compares tries text old new (DepotFailed key) = IsFailedKey tries text old.depot new.depot key
Compares tries text old new (BadChunk key got want) = IsBadComparedChunk text old.depot new.depot key got want
Compares tries text old new (Unequal place stored plain) = IsUnequal text old.depot place stored plain
Compares tries text old new Done = IsFoundEqual text old new
Compares tries text old new WriteFault = IsUnwritten text old new
Compares tries text old new NoMemory = Unit {0}
Compares tries text old new status = ⊥

-- a text was read, and this is so of it
abbrev pub ReadsText : Stream → Stream → (List ℕ → Type 0) → Type 0
ReadsText src next fact = (text : List ℕ) × ReadsAll src.told next.told text × fact text

-- what the command answers
abbrev pub CheckEnds : ℕ → Stream → Stream → Seen → Seen → Status → Type 0
CheckEnds tries src next old new ReadFault = Rose 1 src.faults next.faults
CheckEnds tries src next old new NoMemory = Unit {0}
CheckEnds tries src next old new status = ReadsText src next (λ text. Compares tries text old new status)

-- the keys of metadata of the inputs, two for each, and that of the output
abbrev pub metadata_keys : List ℕ → ℕ
metadata_keys text = 2 * length (names_said text) + 1

-- For each key of metadata at most so many calls were made; or, where the chunks of arrays were read, for each of these too.
abbrev pub ComparesWithin : ℕ → List ℕ → Shown → Shown → Type 0
ComparesWithin tries text entry now = WithinCalls (metadata_keys text * tries) entry now
    ⊎ OfTyped text entry (λ job output. WithinCalls ((metadata_keys text + chunks_of_all (compared_arrays job output)) * tries) entry now)

-- the same of the text that was read; where none was, no call was made
abbrev pub ChecksWithin : ℕ → Stream → Stream → Shown → Shown → Type 0
ChecksWithin tries src next entry now = WithinCalls 0 entry now ⊎ ReadsText src next (λ text. ComparesWithin tries text entry now)

-- One call for each of these keys at most, for a chunk as often as nodes read its array, and beyond these
-- no more than failed.
abbrev pub ComparesOnce : List ℕ → Shown → Shown → Type 0
ComparesOnce text entry now = OnceEach (metadata_keys text) entry now
    ⊎ OfTyped text entry (λ job output. OnceEach (metadata_keys text + chunks_of_all (compared_arrays job output)) entry now)

abbrev pub ChecksOnce : Stream → Stream → Shown → Shown → Type 0
ChecksOnce src next entry now = WithinCalls 0 entry now ⊎ ReadsText src next (λ text. ComparesOnce text entry now)

-- nothing was printed but by the line
abbrev pub PrintsLine : Status → Option (List ℕ) → Option (List ℕ) → Type 0
PrintsLine Done old new = Unit {0}
PrintsLine WriteFault old new = Unit {0}
PrintsLine status old new = new ≡ old

-- The call wrote nothing to the depot: from what was held at entry, late puts alone have landed.
pub record Checked (retries : ℕ) (src next : Stream) (old new : Seen) (status : Status) : Type 0 where
  pub spared : Stepped NoChange old.depot new.depot
  pub printed : PrintsLine status old.out.told new.out.told
  pub ends : CheckEnds (retries + 1) src next old new status
