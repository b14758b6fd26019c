-- A small store and the text of an expression over it, which meet the premises of the commands.
use Rattle.std.specs.Prelude.{ℕ, pos, false, List, [], ◌∷◌, codes, bytes_eq, unwrap_or}
use Rattle.std.specs.Prelude.{Option, Some, None, if◌then◌else◌}
use Rattle.cu_expr.specs.declared.inputs.InputInfo.{InputInfo}
use Rattle.cu_load.specs.LoadForm.{GivenArray}
use Rattle.cu_lower.specs.Parts.{made_layout}
use Rattle.cu_lower.specs.declared.options.Options.{Options}
use Rattle.cu_node.specs.Info.{info_of}
use Rattle.cu_node.specs.declared.info.NodeInfo.{NodeInfo}
use Rattle.cu_num.specs.declared.types.Dtype.TheVariants.{Int16}
use Rattle.cu_op.specs.Layout.{layout_view}
use Rattle.cu_op.specs.declared.layout.Layout.{Layout}
use Rattle.cu_store.specs.Held.{Contents, Write}
use Rattle.cu_store.specs.Steps.{Shown}
use Rattle.cu_read.specs.Read.{compact_of}
use Rattle.cu_top.specs.Record.{inputs_text, assembled}
use Rattle.cu_work.specs.declared.part.Part.{Part}
use Rattle.cu_zarr.specs.Metadata.{metadata_text}

-- 7 numbers of 2 bytes in chunks of 5
abbrev pub sample_info : NodeInfo
sample_info = info_of Int16 (7 ∷ []) (5 ∷ [])

abbrev pub sample_layout : Layout
sample_layout = made_layout sample_info

abbrev pub sample_input : InputInfo
sample_input = record { name = codes "x"; layout = sample_layout }

abbrev pub sample_metadata : List ℕ
sample_metadata = metadata_text (layout_view sample_layout)

-- the bytes of 1 to 5
abbrev pub sample_chunk : List ℕ
sample_chunk = 1 ∷ 0 ∷ 2 ∷ 0 ∷ 3 ∷ 0 ∷ 4 ∷ 0 ∷ 5 ∷ 0 ∷ []

-- Held are its metadata and its first chunk, and this as the record of the plan below. The second
-- chunk is absent.
abbrev pub sample_with : Option (List ℕ) → Contents
sample_with recorded key =
    if bytes_eq key (codes "x/zarr.json") then Some sample_metadata
    else if bytes_eq key (codes "x/c/0") then Some sample_chunk
    else if bytes_eq key (codes "_cubed/y/plan.json") then recorded
    else None

-- no record is held
abbrev pub sample_held : Contents
sample_held = sample_with None

-- a put of that chunk is late
abbrev pub sample_late : List Write
sample_late = (codes "x/c/0", sample_chunk) ∷ []

abbrev pub shown_of_sample : Option (List ℕ) → Shown
shown_of_sample recorded = record {
  held = Some (sample_with recorded);
  late = sample_late;
  faults = 0;
  calls = 0;
  lacks = false;
}

abbrev pub sample_shown : Shown
sample_shown = shown_of_sample None

-- a copy of it in chunks of 3
unfoldable pub sample_text : List ℕ
sample_text = codes "{\"nodes\":[{\"id\":\"x\",\"op\":\"input\",\"name\":\"x\"},{\"id\":\"t\",\"op\":\"rechunk\",\"args\":[\"x\"],\"chunk\":[3]}],\"out\":\"t\",\"store_as\":\"y\"}"

-- the options of its commands
abbrev pub sample_options : Options
sample_options = record {
  allowed = 64;
  reserved = 0;
  split_every = 4;
  retries = 2;
  workers = 1;
  backups = false;
  fusion = 1;
}

-- the words of a run, of one that is only begun, and of a plan
abbrev pub sample_run : List (List ℕ)
sample_run = codes "run" ∷ codes "--allowed-mem" ∷ codes "64" ∷ []

abbrev pub sample_begin : List (List ℕ)
sample_begin = codes "begin" ∷ codes "--allowed-mem" ∷ codes "64" ∷ []

abbrev pub sample_plan : List (List ℕ)
sample_plan = codes "plan" ∷ codes "--allowed-mem" ∷ codes "64" ∷ []

-- the record of that copy, and the words of a run that goes on from it
abbrev pub sample_record : List ℕ
sample_record =
    assembled sample_options (unwrap_or (compact_of sample_text) []) (inputs_text (sample_input ∷ []))

abbrev pub sample_resume : List (List ℕ)
sample_resume = codes "resume" ∷ codes "--allowed-mem" ∷ codes "64" ∷ []

-- its first task, and the words that have it run
abbrev pub sample_tasks : Part
sample_tasks = record { op = 0; from = 0; to = 1 }

abbrev pub sample_part : List (List ℕ)
sample_part =
    codes "part" ∷ codes "--allowed-mem" ∷ codes "64" ∷ codes "--op" ∷ codes "0" ∷ codes "--from"
    ∷ codes "0" ∷ codes "--to" ∷ codes "1" ∷ []

-- the store once it holds the record
abbrev pub left_held : Contents
left_held = sample_with (Some sample_record)

abbrev pub left_shown : Shown
left_shown = shown_of_sample (Some sample_record)

-- The array from its end on, and 1 more at each place. With `--fusion 2` what is read from the end on
-- is made where 1 is added to it, and isn't stored.
unfoldable pub fused_text : List ℕ
fused_text = codes "{\"nodes\":[{\"id\":\"x\",\"op\":\"input\",\"name\":\"x\"},{\"id\":\"f\",\"op\":\"flip\",\"args\":[\"x\"]},{\"id\":\"t\",\"op\":\"add\",\"args\":[\"f\",1]}],\"out\":\"t\",\"store_as\":\"y\"}"

abbrev pub fused_options : Options
fused_options = record sample_options { allowed = 4096; fusion = 2 }

abbrev pub fused_run : List (List ℕ)
fused_run =
    codes "run" ∷ codes "--allowed-mem" ∷ codes "4096" ∷ codes "--fusion" ∷ codes "2" ∷ []

-- the array of 1 to 7, whose first chunk this is
abbrev pub sample_array : GivenArray
sample_array = record {
  name = codes "x";
  layout = layout_view sample_layout;
  elements = pos 1 ∷ pos 2 ∷ pos 3 ∷ pos 4 ∷ pos 5 ∷ pos 6 ∷ pos 7 ∷ [];
}

-- an empty store, and options for a demonstration of size 2 over it
abbrev pub empty_held : Contents
empty_held key = None

abbrev pub empty_shown : Shown
empty_shown = record { held = Some empty_held; late = []; faults = 0; calls = 0; lacks = false }

abbrev pub demo_options : Options
demo_options = record sample_options { allowed = 65536 }
