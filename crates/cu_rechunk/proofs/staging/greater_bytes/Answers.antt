use Rattle.std.proofs.Common.{arith}
use Rattle.cu_rechunk.proofs.Copies.{small_bytes}
use Rattle.cu_rechunk.proofs.staging.greater_bytes.Goals as goal

pub overflow_mul-result : goal.overflow_mul-result
overflow_mul-result c = let p = small_bytes c.max-elements.result c.args.item (let e = c.max-elements.ensures in let a = c.product.ensures in let b = c.product-2.ensures in omega arith) c.requires.word in omega arith
