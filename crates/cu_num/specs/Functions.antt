-- Which types an elementwise function accepts (Python array API, elementwise functions; that no truth value is a number is this
-- project's rule). The type is that of the arguments; Astype takes any, and its type is the new one.
use Rattle.std.specs.Prelude.{true}
use Rattle.std.specs.Prelude.{Bool as Test}
use Rattle.cu_num.specs.Dtype.{is_bool, is_integer}
use Rattle.cu_num.specs.declared.types.Dtype.{Dtype}
use Rattle.cu_num.specs.declared.functions.Fn1.{Fn1}
use Rattle.cu_num.specs.declared.functions.Fn1.TheVariants.{BitwiseInvert, LogicalNot, Astype}
use Rattle.cu_num.specs.declared.functions.Fn2.{Fn2}
use Rattle.cu_num.specs.declared.functions.Fn2.TheVariants.{BitwiseAnd, BitwiseOr, BitwiseXor, Equal, NotEqual, LogicalAnd, LogicalOr, LogicalXor}

abbrev pub accepts1 : Fn1 → Dtype → Test
accepts1 BitwiseInvert t = true
accepts1 Astype t = true
accepts1 LogicalNot t = is_bool t
accepts1 f t = is_integer t

abbrev pub accepts2 : Fn2 → Dtype → Test
accepts2 BitwiseAnd t = true
accepts2 BitwiseOr t = true
accepts2 BitwiseXor t = true
accepts2 Equal t = true
accepts2 NotEqual t = true
accepts2 LogicalAnd t = is_bool t
accepts2 LogicalOr t = is_bool t
accepts2 LogicalXor t = is_bool t
accepts2 f t = is_integer t
