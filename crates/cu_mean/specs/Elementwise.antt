-- What typing tells of the arguments of an elementwise function.
use Rattle.std.specs.Prelude.{◌≡◌, ℕ, ◌≤◌, ℤ, List, length}
use Rattle.cu_num.specs.Dtype.{InRange}
use Rattle.cu_num.specs.Scalar.{truth_number}
use Rattle.cu_form.specs.declared.args.Arg.{Arg}
use Rattle.cu_node.specs.declared.info.NodeInfo.{NodeInfo}
use Rattle.cu_semantics.specs.Argument.{argument_at, shape_of_node}
use Rattle.cu_semantics.specs.Typed.{type_of_node}
use Rattle.cu_mean.specs.Reading.{elements_in}
use Rattle.cu_mean.specs.declared.scope.Scope.{Scope}

-- an array among the arguments has at most as many axes as the index
abbrev pub GoesBack : List NodeInfo → List ℕ → Arg → Type 0
GoesBack infos idx (Arg.Node n) = length (shape_of_node infos n) ≤ length idx
GoesBack infos idx (Arg.Int x) = Unit {0}
GoesBack infos idx (Arg.Truth b) = Unit {0}

-- x is a number that the argument may have
abbrev pub MayBe : List NodeInfo → Arg → ℤ → Type 0
MayBe infos (Arg.Node n) x = InRange (type_of_node infos n) x
MayBe infos (Arg.Int z) x = x ≡ z
MayBe infos (Arg.Truth b) x = x ≡ truth_number b

-- the element that an argument gives at the index
abbrev pub argument_in : Scope → Arg → ℤ
argument_in scope arg = argument_at scope.infos.now (elements_in scope.plains.now) scope.idx.now arg
