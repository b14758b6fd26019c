-- Why the text of a `.zarray` is refused, with the name of a member as bytes.
use Rattle.std.specs.Prelude.{ℕ, List}
use Rattle.cu_v2.specs.declared.fault.V2Fault.{V2Fault}
use Rattle.cu_v2.specs.declared.fault.V2Refused.{V2Refused}

pub data ZarrayFault : Type 0 where
  no_object : ZarrayFault
  not_version_2 : ZarrayFault
  no_member : List ℕ → ZarrayFault
  no_type : ZarrayFault
  no_grid : ZarrayFault
  no_separator : ZarrayFault
  no_fill : ZarrayFault
  coded : ZarrayFault
  not_row_major : ZarrayFault
  over_length : ZarrayFault

-- the fault that an answer names
abbrev pub v2_view : V2Fault → ZarrayFault
v2_view V2Fault.Json = no_object
v2_view V2Fault.Format = not_version_2
v2_view (V2Fault.Field name) = no_member name.bytes
v2_view V2Fault.BadDtype = no_type
v2_view V2Fault.BadGrid = no_grid
v2_view V2Fault.Separator = no_separator
v2_view V2Fault.Fill = no_fill
v2_view V2Fault.Coded = coded
v2_view V2Fault.Order = not_row_major
v2_view V2Fault.TooLong = over_length

-- the code of each fault (this project's own numbers)
abbrev pub code_of_v2 : ZarrayFault → ℕ
code_of_v2 no_object = 21
code_of_v2 not_version_2 = 22
code_of_v2 (no_member name) = 23
code_of_v2 no_type = 24
code_of_v2 no_grid = 25
code_of_v2 no_separator = 26
code_of_v2 no_fill = 27
code_of_v2 coded = 28
code_of_v2 not_row_major = 29
code_of_v2 over_length = 30

-- where the refusal has a fault, it has the property; want of memory says nothing
abbrev pub IfV2Fault : V2Refused → (V2Fault → Type 0) → Type 0
IfV2Fault (V2Refused.Fault f) P = P f
IfV2Fault V2Refused.NoMemory P = Unit {0}
