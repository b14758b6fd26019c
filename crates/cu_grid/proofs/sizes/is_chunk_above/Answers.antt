use Rattle.std.proofs.Common.{◌≡◌, ◌<◌, ◌*◌, ◌/◌, ℕ, nat_lt, Bool, true, false, sym, ◌∙◌, refl, arith}
use Rattle.std.proofs.lemmas.Bool.{ltb-true, lt-ltb, le-ltb, ltb-false}
use Rattle.std.specs.Bool.{OnFalse}
use Rattle.std.proofs.Math.Nat.{div-le_self}
use Rattle.cu_shape.specs.Index.{product}
use Rattle.cu_shape.proofs.Products.{at_least_one_same, bytes_over, bytes_within}
use Rattle.cu_grid.proofs.sizes.is_chunk_above.Goals as goal

by_test : (p size limit : ℕ) (b : Bool) → 0 < size → nat_lt (limit / size) p ≡ b → nat_lt (limit / size) p ≡ nat_lt limit (p * size)
by_test p size limit true h e = e ∙ sym (lt-ltb limit (p * size) (bytes_over p size limit h (ltb-true (limit / size) p e)))
by_test p size limit false h e = e ∙ sym (le-ltb limit (p * size) (bytes_within p size limit h (ltb-false (limit / size) p e)))

on_false : (b : Bool) (P Q : Type 0) → (P → Q) → OnFalse b P → OnFalse b Q
on_false true P Q f h = tt
on_false false P Q f h = f h

pub returns-clause-value : goal.returns-clause-value
returns-clause-value c =
    let v = rw (at_least_one_same c.args.chunk.now c.requires.positive) at c.is_above.ensures.value in
    v ∙ by_test (product c.args.chunk.now) c.args.size c.args.limit _ c.requires.whole refl

pub returns-clause-within : goal.returns-clause-within
returns-clause-within c =
    let e = at_least_one_same c.args.chunk.now c.requires.positive in
    let d = div-le_self c.args.limit c.args.size in
    on_false c.is_above.result _ _ (λ h. let w = rw e at h in omega arith) c.is_above.ensures.within

pub returns-clause-bytes : goal.returns-clause-bytes
returns-clause-bytes c =
    let e = at_least_one_same c.args.chunk.now c.requires.positive in
    on_false c.is_above.result _ _ (λ h. bytes_within (product c.args.chunk.now) c.args.size c.args.limit c.requires.whole (rw e at h)) c.is_above.ensures.within
