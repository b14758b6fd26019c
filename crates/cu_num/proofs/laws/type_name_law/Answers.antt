use Rattle.cu_num.proofs.TypeNames.{dtype_named-type_name, type_name-dtype_named}
use Rattle.cu_num.proofs.laws.type_name_law.Goals as goal

pub returns-clause-named : goal.returns-clause-named
returns-clause-named c = dtype_named-type_name

pub returns-clause-name : goal.returns-clause-name
returns-clause-name c = type_name-dtype_named
