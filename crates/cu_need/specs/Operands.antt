-- The chunks in which a node's operations want its arguments, and the copies that give them (this project's own rule).
use Rattle.std.specs.Prelude.{ℕ, ◌==◌, Bool, List, [], ◌∷◌, Option, Some, None, filter}
use Rattle.cu_form.specs.declared.form.Form.{Form}
use Rattle.cu_node.specs.Info.{info_at}
use Rattle.cu_node.specs.declared.info.NodeInfo.{NodeInfo}
use Rattle.cu_copy.specs.Copies.{is_misaligned}
use Rattle.cu_copy.specs.declared.copies.Rechunk.{Rechunk}
use Rattle.cu_need.specs.Cost.{cost_of}
pub use Rattle.cu_need.specs.Elementwise.{in_aligned}
pub use Rattle.cu_need.specs.Reduction.{left_wanted, right_wanted}

-- the arrays that the operations of node k read in chunks that they tell, in order
abbrev pub operands_of : List NodeInfo → ℕ → Form → List Rechunk
operands_of infos k form = (cost_of form).operands infos (info_at infos k)

-- The arrays that are copied for node k, which is itself stored or isn't, in order: those of the operands that have other chunks, or what
-- the node is a copy of.
abbrev pub copies_when : Bool → List NodeInfo → ℕ → Form → List Rechunk
copies_when stored infos k form = (cost_of form).copies infos (info_at infos k) stored (filter is_misaligned (operands_of infos k form))

-- where node `out` is stored
abbrev pub copies_of : List NodeInfo → ℕ → ℕ → Form → List Rechunk
copies_of infos out k form = copies_when (k == out) infos k form

-- the copy that a node itself is, and else those of its operands
abbrev pub own_copy_or : Option Rechunk → List Rechunk → List Rechunk
own_copy_or (Some r) misaligned = r ∷ []
own_copy_or None misaligned = misaligned
