-- What a result means, with no word of how it was computed. This project's own rules.
use Rattle.std.specs.Prelude.{◌≡◌, ◌⊎◌, ℕ, List, [], All, Option, Some, None, Ok}
use Rattle.cu_shape.specs.Index.{IsInside}
use Rattle.cu_grid.specs.Grid.{IsGrid}
use Rattle.cu_store.specs.Held.{Contents}
use Rattle.cu_store.specs.Steps.{Shown}
use Rattle.cu_zarr.specs.Key.{metadata_key_of, zarray_key_of}
use Rattle.cu_zarr.specs.Stored.{stored_element}
use Rattle.cu_meta.specs.Said.{IsMetadataOf}
use Rattle.cu_v2.specs.Form.{IsZarray}
use Rattle.cu_op.specs.Layout.{layout_view}
use Rattle.cu_op.specs.declared.layout.Layout.{Layout}
use Rattle.cu_read.specs.Form.{HasForm}
use Rattle.cu_expr.specs.Typing.{typed}
use Rattle.cu_semantics.specs.Argument.{shape_of_node}
use Rattle.cu_semantics.specs.Meaning.{meaning_of}
use Rattle.cu_semantics.specs.Typed.{type_of_node}
use Rattle.cu_check.specs.Elements.{elements_of}
use Rattle.cu_command.specs.Inputs.{names_in, names_of}
use Rattle.cu_command.specs.declared.job.Job.{Job}

-- A command starts from this: the source has this text, the depot tells these contents, and no put
-- that failed may still land.
pub record StartsFrom (source : Option (List ℕ)) (depot : Shown) (text : List ℕ) (entry : Contents)
    : Type 0 where
  pub source_has : source ≡ Some text
  pub depot_holds : depot.held ≡ Some entry
  pub settled : depot.late ≡ []

-- the key holds a text of which this is so
abbrev pub KeyHolds : Contents → List ℕ → (List ℕ → Type 0) → Type 0
KeyHolds held key fact = (text : List ℕ) × (held key ≡ Some text) × fact text

-- The contents have an array of this layout under the name: its key of version 3 holds metadata of
-- the layout; or that key is absent, and its key of version 2 does. Any reader of Zarr finds it so.
pub record IsArrayOf (held : Contents) (name : List ℕ) (l : Layout) : Type 0 where
  pub grid : IsGrid l.grid
  pub metadata : KeyHolds held (metadata_key_of name) (λ text. IsMetadataOf text (layout_view l))
      ⊎ ((held (metadata_key_of name) ≡ None)
      × KeyHolds held (zarray_key_of name) (λ text. IsZarray text (layout_view l)))

-- The text is an expression. Each name that it uses is an array of the contents `entry`, and over
-- these it has types. Under its output's name the contents `now` have an array of the output node's
-- type and shape. Each element of that array is what the expression means there, over the elements
-- that the inputs have in `entry`.
pub record HoldsResult (text : List ℕ) (entry now : Contents) : Type 0 where
  pub job : Job
  pub said : HasForm text job.expr
  pub names : names_of job.inputs.items ≡ names_in job.expr
  pub inputs : All (λ i. IsArrayOf entry i.name i.layout) job.inputs.items
  pub types : typed job.inputs.items job.expr ≡ Ok job.types
  pub layout : Layout
  pub output : IsArrayOf now job.expr.store_as layout
  pub dtype : layout.dtype ≡ type_of_node job.types job.expr.out
  pub shape : layout.grid.shape ≡ shape_of_node job.types job.expr.out
  pub elements : (idx : List ℕ) → IsInside layout.grid.shape idx
      → stored_element (layout_view layout) job.expr.store_as now idx
      ≡ Some (meaning_of job.expr job.types (elements_of job entry) job.expr.out idx)
