-- What is read of the metadata of a stored array.
use Rattle.std.specs.Prelude.{◌≡◌, ◌⊎◌, ◌<◌, ℕ, List, length, Option, Some, None, Ok, Err}
use Rattle.cu_grid.specs.Grid.{IsGrid, IsCoordinate}
use Rattle.cu_meta.specs.Fault.{Fault, json, format, field, dtype, grid, key_encoding, fill, codec, unknown, too_long, other}
use Rattle.cu_meta.specs.Metadata.{read_metadata}
use Rattle.cu_meta_members.specs.Storable.{IsStorable}
use Rattle.cu_op.specs.Layout.{layout_view}
use Rattle.cu_op.specs.declared.layout.Layout.{Layout}
use Rattle.cu_store.specs.Faults.{Rose}
use Rattle.cu_store.specs.Held.{Contents, IsGone}
use Rattle.cu_store.specs.Steps.{Shown}
use Rattle.cu_v2.specs.Fault.{ZarrayFault, code_of_v2}
use Rattle.cu_v2.specs.Zarray.{zarray_layout}
use Rattle.cu_zarr.specs.Key.{chunk_key_of, metadata_key_of, zarray_key_of}
use Rattle.cu_command.specs.declared.status.Status.{Status}
use Rattle.cu_command.specs.declared.status.Status.TheVariants.{DepotFailed, BadMeta, NoArray, NoMemory}

-- a layout of a stored array: a grid, and one in which an array may be stored
pub record IsArrayLayout (l : Layout) : Type 0 where
  pub grid : IsGrid l.grid
  pub storable : IsStorable (layout_view l)

-- the keys of the chunks of the array with this name
abbrev pub IsArrayChunk : List ℕ → Layout → List ℕ → Type 0
IsArrayChunk name l key = (coord : List ℕ) × IsCoordinate l.grid coord × (key ≡ chunk_key_of name l.encoding coord)

-- this text is the metadata of such a layout, of version 3 or of version 2
pub record IsMetadata (l : Layout) (text : List ℕ) : Type 0 where
  pub grid : IsGrid l.grid
  pub reads : read_metadata text ≡ Ok (layout_view l)

pub record IsZarrayOf (l : Layout) (text : List ℕ) : Type 0 where
  pub grid : IsGrid l.grid
  pub reads : zarray_layout text ≡ Ok (layout_view l)

-- the code of each fault of a text of metadata (this project's own numbers)
abbrev pub code_of : Fault → ℕ
code_of json = 1
code_of format = 2
code_of (field name) = 3
code_of dtype = 4
code_of grid = 5
code_of key_encoding = 6
code_of fill = 7
code_of codec = 8
code_of unknown = 9
code_of too_long = 10
code_of other = 11

-- the text is refused as metadata with this code, of version 3 or of version 2
abbrev pub IsRefusedText : List ℕ → ℕ → Type 0
IsRefusedText text code = (reason : Fault) × (read_metadata text ≡ Err reason) × (code ≡ code_of reason)

abbrev pub IsRefusedZarray : List ℕ → ℕ → Type 0
IsRefusedZarray text code = (reason : ZarrayFault) × (zarray_layout text ≡ Err reason) × (code ≡ code_of_v2 reason)

-- ---- one key

-- the key holds a text of which this is so, where the contents are told
abbrev pub HoldsSuch : Option Contents → List ℕ → (List ℕ → Type 0) → Type 0
HoldsSuch None key fact = Unit {0}
HoldsSuch (Some held) key fact = (text : List ℕ) × (held key ≡ Some text) × fact text

-- the key holds metadata of this layout
abbrev pub HoldsLayout : Option Contents → List ℕ → Layout → Type 0
HoldsLayout held key l = HoldsSuch held key (IsMetadata l)

abbrev pub HoldsZarray : Option Contents → List ℕ → Layout → Type 0
HoldsZarray held key l = HoldsSuch held key (IsZarrayOf l)

-- the key holds bytes that are refused as metadata with this code
abbrev pub HoldsRefused : Option Contents → List ℕ → ℕ → Type 0
HoldsRefused held key code = HoldsSuch held key (λ text. IsRefusedText text code)

abbrev pub HoldsRefusedZarray : Option Contents → List ℕ → ℕ → Type 0
HoldsRefusedZarray held key code = HoldsSuch held key (λ text. IsRefusedZarray text code)

-- why reading the metadata of the array with this name ends
abbrev pub IsMetadataFault : ℕ → ℕ → ℕ → Option Contents → List ℕ → Status → Type 0
IsMetadataFault tries before after held name (DepotFailed failed) = (failed ≡ metadata_key_of name) × Rose tries before after
IsMetadataFault tries before after held name (BadMeta refused code) = (refused ≡ name) × HoldsRefused held (metadata_key_of name) code
IsMetadataFault tries before after held name (NoArray missing) = (missing ≡ name) × IsGone held (metadata_key_of name)
IsMetadataFault tries before after held name NoMemory = Unit {0}
IsMetadataFault tries before after held name status = ⊥

-- ---- an array of either version

-- Metadata of this layout was found for the array with this name: under the key of version 3; or this key was absent before, and the
-- key of version 2 holds it.
abbrev pub FindsLayout : Option Contents → Option Contents → List ℕ → Layout → Type 0
FindsLayout before now name l = HoldsLayout now (metadata_key_of name) l ⊎ (IsGone before (metadata_key_of name) × HoldsZarray now (zarray_key_of name) l)

-- what was found is refused as metadata with this code
abbrev pub FindsRefused : Option Contents → Option Contents → List ℕ → ℕ → Type 0
FindsRefused before now name code =
    HoldsRefused now (metadata_key_of name) code ⊎ (IsGone before (metadata_key_of name) × HoldsRefusedZarray now (zarray_key_of name) code)

-- the same of what is held at one moment: the first of the two keys that is held decides
abbrev pub StoresLayout : Option Contents → List ℕ → Layout → Type 0
StoresLayout held name l = FindsLayout held held name l

abbrev pub StoresRefused : Option Contents → List ℕ → ℕ → Type 0
StoresRefused held name code = FindsRefused held held name code

-- no metadata of the array with this name is held
abbrev pub HasNoMetadata : Option Contents → List ℕ → Type 0
HasNoMetadata held name = IsGone held (metadata_key_of name) × IsGone held (zarray_key_of name)

-- the key of metadata is asked for: that of version 3, or that of version 2 where the first was absent
abbrev pub IsMetadataAsked : Option Contents → List ℕ → List ℕ → Type 0
IsMetadataAsked held name key = (key ≡ metadata_key_of name) ⊎ ((key ≡ zarray_key_of name) × IsGone held (metadata_key_of name))

-- why finding the metadata of the array with this name ends
abbrev pub IsFindFault : ℕ → Shown → Shown → List ℕ → Status → Type 0
IsFindFault tries old new name (DepotFailed failed) = IsMetadataAsked old.held name failed × Rose tries old.faults new.faults
IsFindFault tries old new name (BadMeta refused code) = (refused ≡ name) × FindsRefused old.held new.held name code
IsFindFault tries old new name (NoArray missing) = (missing ≡ name) × HasNoMetadata old.held name
IsFindFault tries old new name NoMemory = Unit {0}
IsFindFault tries old new name status = ⊥

-- ---- what the parts of reading rest on

-- The text that the key holds has this front: it is the whole text, or both are longer than a text of metadata may be.
abbrev pub IsTextFront : List ℕ → List ℕ → Type 0
IsTextFront front text = (text ≡ front) ⊎ ((1048576 < length front) × (1048576 < length text))

abbrev pub HoldsFront : Option Contents → List ℕ → List ℕ → Type 0
HoldsFront held key front = HoldsSuch held key (IsTextFront front)

-- why a text isn't read under this key
abbrev pub IsTextFault : ℕ → Shown → Shown → List ℕ → List ℕ → Status → Type 0
IsTextFault tries old new name key (DepotFailed failed) = (failed ≡ key) × Rose tries old.faults new.faults
IsTextFault tries old new name key (NoArray missing) = (missing ≡ name) × IsGone new.held key
IsTextFault tries old new name key NoMemory = Unit {0}
IsTextFault tries old new name key status = ⊥

-- the text that was read of the array with this name is refused, with a code of which this is so
abbrev pub IsTextRefusal : List ℕ → (ℕ → Type 0) → Status → Type 0
IsTextRefusal name refused (BadMeta bad code) = (bad ≡ name) × refused code
IsTextRefusal name refused NoMemory = Unit {0}
IsTextRefusal name refused status = ⊥

-- why reading the metadata of version 2 alone ends
abbrev pub IsZarrayFault : ℕ → Shown → Shown → List ℕ → Status → Type 0
IsZarrayFault tries old new name (DepotFailed failed) = (failed ≡ zarray_key_of name) × Rose tries old.faults new.faults
IsZarrayFault tries old new name (BadMeta refused code) = (refused ≡ name) × HoldsRefusedZarray new.held (zarray_key_of name) code
IsZarrayFault tries old new name (NoArray missing) = (missing ≡ name) × IsGone new.held (zarray_key_of name)
IsZarrayFault tries old new name NoMemory = Unit {0}
IsZarrayFault tries old new name status = ⊥
