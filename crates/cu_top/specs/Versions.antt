-- Two depots that hold the same inputs, each under a key of metadata of its own. This project's own rules.
use Rattle.std.specs.Prelude.{◌≡◌, ℕ, List, All, Some}
use Rattle.cu_expr.specs.declared.inputs.InputInfo.{InputInfo}
use Rattle.cu_store.specs.Held.{Contents}
use Rattle.cu_store.specs.Steps.{Shown}
use Rattle.cu_zarr.specs.Key.{chunk_key_of}
use Rattle.cu_command.specs.Inputs.{names_of, AreCalmAt}
use Rattle.cu_command.specs.Job.{names_said}
use Rattle.cu_command.specs.Stored.{StoresLayout}
use Rattle.cu_command.specs.declared.job.Job.{Job}
use Rattle.cu_expr.specs.Inputs.{layout_named}
use Rattle.cu_top.specs.Kept.{IsUsed}

-- The names that a text uses have metadata of these layouts, of version 3 or of version 2, and no other is late.
pub record StoresInputs (entry : Shown) (text : List ℕ) (inputs : List InputInfo) : Type 0 where
  pub contents : Contents
  pub told : entry.held ≡ Some contents
  pub names : names_of inputs ≡ names_said text
  pub held : All (λ i. StoresLayout entry.held i.name i.layout) inputs
  pub calm : All (λ i. AreCalmAt entry i.name) inputs

-- the same is held under each key of a chunk of an array that is used
abbrev pub HoldSameChunks : Job → Contents → Contents → Type 0
HoldSameChunks job a b = (name coord : List ℕ) → IsUsed job.expr name
    → a (chunk_key_of name (layout_named job.inputs.items name).encoding coord) ≡ b (chunk_key_of name (layout_named job.inputs.items name).encoding coord)
