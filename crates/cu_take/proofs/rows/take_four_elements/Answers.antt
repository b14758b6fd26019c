use Rattle.std.proofs.Common.{◌≡◌, ℕ, ◌+◌, ◌*◌, ℤ, [], ◌∷◌, ap, ◌∙◌, to_z, of_z}
use Rattle.std.specs.Int.{w128}
use Rattle.std.proofs.lemmas.Int.{to_z-of_z}
use Rattle.cu_num.specs.Element.{element_at, bytes_at, element_bytes}
use Rattle.cu_num.specs.declared.layout.Endian.TheVariants.{Little}
use Rattle.cu_num.proofs.ElementBytes.{bytes_at-written_at_other, length-element_bytes}
use Rattle.cu_reduce.specs.Running.{running}
use Rattle.cu_take.proofs.RowSteps.{takes_all}
use Rattle.cu_take.proofs.rows.take_four_elements.Goals as goal

pub returns-clause-takes : goal.returns-clause-takes
returns-clause-takes c =
    let kind = c.args.kind in
    let acc = c.args.acc in
    let place = c.args.place in
    let step = c.args.step in
    let read : ℕ → ℤ = λ p. element_at Little c.args.from c.args.input.now p in
    let passed : ℤ → ℤ = λ v. to_z w128 (of_z w128 v) in
    let w : passed c.load-w.result ≡ read place = to_z-of_z w128 c.load-w.result
    (record { sfits = c.load-w.type_inv }) ∙ c.load-w.ensures.value in
    let x : passed c.load-x.result ≡ read (place + step) = to_z-of_z w128 c.load-x.result
    (record { sfits = c.load-x.type_inv }) ∙ c.load-x.ensures.value in
    let y : passed c.load-y.result ≡ read (place + 2 * step) = to_z-of_z w128 c.load-y.result
    (record { sfits = c.load-y.type_inv }) ∙ c.load-y.ensures.value in
    let z : passed c.load-z.result ≡ read (place + 3 * step) = to_z-of_z w128 c.load-z.result
    (record { sfits = c.load-z.type_inv }) ∙ c.load-z.ensures.value in
    takes_all kind acc c.args.out.now c.save.new.bytes c.args.q (read place ∷ read (place + step)
    ∷ read (place + 2 * step) ∷ read (place + 3 * step) ∷ [])
    (passed c.load-own.result) (passed c.with_four.result) c.requires.out
    (to_z-of_z w128 c.load-own.result (record { sfits = c.load-own.type_inv })
    ∙ c.load-own.ensures.value)
    (to_z-of_z w128 c.with_four.result (record { sfits = c.with_four.type_inv })
    ∙ c.with_four.ensures
    ∙ (λ i. running kind acc (passed c.load-own.result) (w i ∷ x i ∷ y i ∷ z i ∷ [])))
    c.save.ensures

pub returns-clause-others : goal.returns-clause-others
returns-clause-others c p apart =
    let total = to_z w128 (of_z w128 c.with_four.result) in
    let own = element_bytes Little c.args.acc total in
    ap (λ all. bytes_at c.args.acc all p) c.save.ensures
    ∙ bytes_at-written_at_other c.args.acc c.args.out.now own c.args.q p apart
    (length-element_bytes Little c.args.acc total) c.requires.out
