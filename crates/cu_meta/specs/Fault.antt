-- Why the text of an array's metadata is refused, with the name of a member as bytes.
use Rattle.std.specs.Prelude.{ℕ, List}
use Rattle.cu_meta.specs.declared.fault.MetaFault.{MetaFault}
use Rattle.cu_meta.specs.declared.fault.MetaRefused.{MetaRefused}

pub data Fault : Type 0 where
  json : Fault
  format : Fault
  field : List ℕ → Fault
  dtype : Fault
  grid : Fault
  key_encoding : Fault
  fill : Fault
  codec : Fault
  unknown : Fault
  too_long : Fault
  other : Fault

-- the fault that an answer names
abbrev pub fault_view : MetaFault → Fault
fault_view MetaFault.Json = json
fault_view MetaFault.Format = format
fault_view (MetaFault.Field name) = field name.bytes
fault_view MetaFault.BadDtype = dtype
fault_view MetaFault.BadGrid = grid
fault_view MetaFault.KeyEncoding = key_encoding
fault_view MetaFault.Fill = fill
fault_view MetaFault.Codec = codec
fault_view MetaFault.Unknown = unknown
fault_view MetaFault.TooLong = too_long
fault_view MetaFault.Other = other

-- where the refusal has a fault, it has the property; want of memory says nothing
abbrev pub IfMetaFault : MetaRefused → (MetaFault → Type 0) → Type 0
IfMetaFault (MetaRefused.Fault f) P = P f
IfMetaFault MetaRefused.NoMemory P = Unit {0}
