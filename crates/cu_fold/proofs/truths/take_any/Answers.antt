use Rattle.std.proofs.Common.{◌<◌, ℕ, get_or, rules, ◌*◌, sym, ap, ◌∙◌, pos, refl, take}
use Rattle.std.specs.List.{range_with_len, list_any}
use Rattle.cu_fold.specs.SetBytes.{is_set}
use Rattle.cu_take.specs.Taken.{elements_at_places}
use Rattle.cu_fold.proofs.Nonzero.{takes_found, takes_nothing}
use Rattle.cu_fold.proofs.SetElements.{set_elements}
use Rattle.cu_fold.proofs.truths.take_any.Goals as goal

pub returns-then-has_set : goal.returns-then-has_set
returns-then-has_set c =
    let bytes = c.args.input.now in
    let n = c.args.count in
    let small : (i : ℕ) → get_or bytes i 0 < 256 = λ i. let f = c.type_inv.input i in search (rules, f) in
    takes_found c.args.out.now c.save.new.bytes (elements_at_places c.args.from bytes (range_with_len 0 n)) (pos 1)
    (sym (ap (λ s. list_any is_set (take (n * s) bytes)) c.size.ensures ∙ set_elements c.args.from bytes n small c.requires.input) ∙ sym c.has_set.ensures ∙ c.if-has_set.true)
    c.requires.out refl c.save.ensures

pub returns-else-has_set : goal.returns-else-has_set
returns-else-has_set c =
    let bytes = c.args.input.now in
    let n = c.args.count in
    let small : (i : ℕ) → get_or bytes i 0 < 256 = λ i. let f = c.type_inv.input i in search (rules, f) in
    takes_nothing c.args.out.now (elements_at_places c.args.from bytes (range_with_len 0 n))
    (sym (ap (λ s. list_any is_set (take (n * s) bytes)) c.size.ensures ∙ set_elements c.args.from bytes n small c.requires.input) ∙ sym c.has_set.ensures ∙ c.if-has_set.false)
