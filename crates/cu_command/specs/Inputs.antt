-- The inputs of an expression: the names that its nodes use, and what is read of the metadata of the arrays of these names.
use Rattle.std.specs.Prelude.{◌≡◌, ℕ, ◌*◌, List, [], ◌∷◌, ◌++◌, false, map, length, All, bytes_eq, if◌then◌else◌}
use Rattle.std.specs.List.{list_any}
use Rattle.cu_expr.specs.declared.inputs.InputInfo.{InputInfo}
use Rattle.cu_form.specs.Expression.{Expression}
use Rattle.cu_form.specs.declared.expr.Node.{Node}
use Rattle.cu_form.specs.declared.form.Form.{Form}
use Rattle.cu_store.specs.Faults.{Rose}
use Rattle.cu_store.specs.Held.{Holds, IsAmong}
use Rattle.cu_store.specs.Steps.{NoChange, Shown, Steps, OnceEach}
use Rattle.cu_zarr.specs.Key.{metadata_key_of, zarray_key_of}
use Rattle.cu_command.specs.Stored.{IsArrayLayout, HoldsLayout, FindsRefused, StoresLayout, StoresRefused, HasNoMetadata, IsMetadataAsked}
use Rattle.cu_command.specs.declared.job.JobFault.{JobFault}
use Rattle.cu_command.specs.declared.job.JobFault.TheVariants.{DepotFailed, NoArray, BadMeta, NoMemory}
use Rattle.cu_command.specs.declared.status.Status.{Status}
use Rattle.cu_command.specs.declared.status.Status.TheVariants as status

-- ---- names

-- the name that a node uses, in front of those of the nodes behind it
abbrev pub name_before : Form → List (List ℕ) → List (List ℕ)
name_before (Form.Input name) names = name ∷ names
name_before form names = names

-- the names that input nodes use, node by node
abbrev pub used_names : List Node → List (List ℕ)
used_names [] = []
used_names (n ∷ ns) = name_before n.form (used_names ns)

-- the names that aren't among the seen ones, each where it stands first
abbrev pub others_once : List (List ℕ) → List (List ℕ) → List (List ℕ)
others_once seen [] = []
others_once seen (x ∷ xs) = if list_any (bytes_eq x) seen then others_once seen xs else x ∷ others_once (seen ++ x ∷ []) xs

-- the seen names, and then the others
abbrev pub names_from : List (List ℕ) → List (List ℕ) → List (List ℕ)
names_from seen names = seen ++ others_once seen names

-- the names that an expression's input nodes use, each once, in the order of the first node that uses it
abbrev pub names_in : Expression → List (List ℕ)
names_in e = names_from [] (used_names e.nodes)

-- A name among the used ones, before which the same names are used as stand in front, and it isn't one of these.
pub record IsFirstUse (used front : List (List ℕ)) (name : List ℕ) : Type 0 where
  pub before : List (List ℕ)
  pub behind : List (List ℕ)
  pub place : used ≡ before ++ name ∷ behind
  pub same : (x : List ℕ) → list_any (bytes_eq x) before ≡ list_any (bytes_eq x) front
  pub new : list_any (bytes_eq name) front ≡ false

-- the names of inputs
abbrev pub names_of : List InputInfo → List (List ℕ)
names_of inputs = map (λ i. i.name) inputs

-- ---- metadata

-- each put that is late on this key carries what is held there, where the contents are told
abbrev pub IsCalmAt : Shown → List ℕ → Type 0
IsCalmAt shown key = (bytes : List ℕ) → IsAmong shown.late key bytes → Holds shown.held key bytes

-- the same on both keys of metadata of the array with this name
abbrev pub AreCalmAt : Shown → List ℕ → Type 0
AreCalmAt shown name = IsCalmAt shown (metadata_key_of name) × IsCalmAt shown (zarray_key_of name)

-- What was read for an input: a layout of a stored array, and, where no other metadata was late, the one that was held at this moment,
-- of version 3 or of version 2.
pub record IsReadAt (entry : Shown) (i : InputInfo) : Type 0 where
  pub layout : IsArrayLayout i.layout
  pub held : AreCalmAt entry i.name → StoresLayout entry.held i.name i.layout

-- What was read for an array by its metadata of version 3 alone, in the same way.
pub record IsWrittenAt (entry : Shown) (i : InputInfo) : Type 0 where
  pub layout : IsArrayLayout i.layout
  pub held : IsCalmAt entry (metadata_key_of i.name) → HoldsLayout entry.held (metadata_key_of i.name) i.layout

-- The name's turn: it is one of the names, and the metadata of each that stands before it was read and accepted.
pub record IsTurn (names : List (List ℕ)) (entry : Shown) (name : List ℕ) : Type 0 where
  pub before : List InputInfo
  pub behind : List (List ℕ)
  pub place : names ≡ names_of before ++ name ∷ behind
  pub read : All (IsReadAt entry) before

-- what is held for this name is refused as metadata with this code, and was at entry where no other metadata was late
pub record IsRefusedAt (old new : Shown) (name : List ℕ) (code : ℕ) : Type 0 where
  pub now : FindsRefused old.held new.held name code
  pub entry : AreCalmAt old name → StoresRefused old.held name code

-- Why reading the metadata of the arrays of these names ends, from what the depot showed at its beginning and shows at its end.
abbrev pub IsInputFault : ℕ → List (List ℕ) → Shown → Shown → JobFault → Type 0
IsInputFault tries names entry now (DepotFailed key) =
    (name : List ℕ) × IsMetadataAsked entry.held name key × IsTurn names entry name × Rose tries entry.faults now.faults
IsInputFault tries names entry now (NoArray name) = IsTurn names entry name × HasNoMetadata entry.held name
IsInputFault tries names entry now (BadMeta name code) = IsTurn names entry name × IsRefusedAt entry now name code
IsInputFault tries names entry now NoMemory = Unit {0}
IsInputFault tries names entry now fault = ⊥

-- the answers for metadata that isn't read
abbrev pub IsMetadataStatus : Status → Type 0
IsMetadataStatus (status.DepotFailed key) = Unit {0}
IsMetadataStatus (status.NoArray name) = Unit {0}
IsMetadataStatus (status.BadMeta name code) = Unit {0}
IsMetadataStatus status.NoMemory = Unit {0}
IsMetadataStatus other = ⊥

-- so far these inputs were read, each by at most so many calls; beside two calls an input, for both keys
-- of its metadata, there were no more than failed
pub record HasRead (tries : ℕ) (entry now : Shown) (inputs : List InputInfo) : Type 0 where
  pub read : All (IsReadAt entry) inputs
  pub step : Steps NoChange 0 (tries * length inputs) entry now
  pub once : OnceEach (2 * length inputs) entry now
