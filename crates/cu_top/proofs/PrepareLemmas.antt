-- What the layouts of inputs that were read have.
use Rattle.std.proofs.Common.{List, All}
use Rattle.cu_expr.specs.declared.inputs.InputInfo.{InputInfo}
use Rattle.cu_op.specs.Layout.{IsLayout}
use Rattle.cu_command.specs.Inputs.{IsReadAt}
use Rattle.cu_store.specs.Steps.{Shown}

pub read_layouts : (entry : Shown) (inputs : List InputInfo) → All (IsReadAt entry) inputs → All (λ i. IsLayout i.layout) inputs
read_layouts entry inputs read k d below = (read k d below).layout.storable.fill
