use Rattle.std.proofs.Common.{◌≡◌, ◌&&◌, List, ℕ, not, ap, sym, ◌∙◌, true, false}
use Rattle.std.specs.List.{list_any}
use Rattle.cu_op.specs.Operation.{reads_of}
use Rattle.cu_fuse.specs.Fused.{has_one_reader, is_map, is_reader, stands_once}
use Rattle.cu_fuse.proofs.ByKernel.{map_told, other_told}
use Rattle.cu_fuse.proofs.Scanning.{all_pass, one_reader}
use Rattle.cu_fuse.proofs.merge.has_one_reader.Goals as goal
use Rattle.cu_fuse.proofs.merge.has_one_reader.Goals.{else-is_some, then-is_some}

pub returns-then-stands_once : goal.returns-then-stands_once
returns-then-stands_once c =
    let reader = c.args.reader.now in
    let behind = c.args.behind.now in
    let a = c.args.a in
    elim c.if-is_some.branch [
      | then-is_some w ↦
          let is : is_map reader.op ≡ true = map_told c.kernel.result (λ k. k.now.code.items) reader.op (sym c.is_some.ensures ∙ w.if-is_some.true) c.kernel.ensures.kernel in
          let once : stands_once (reads_of reader.op) a ≡ true =
          sym (w.stands_once.ensures ∙ ap (λ (l : List ℕ). stands_once l a) (w.as_slice.ensures.value ∙ w.reads.ensures)) ∙ sym w.value-is ∙ c.if-stands_once.true in
          all_pass behind a c.reader_of.result c.reader_of.ensures.number c.reader_of.ensures.within
          ∙ sym (one_reader reader behind a is ∙ (λ i. once i && not (list_any (is_reader a) behind)))
      | else-is_some w ↦ let f : false ≡ true = sym w.if-is_some.false ∙ sym w.value-is ∙ c.if-stands_once.true in cc
    ]

pub returns-else-stands_once : goal.returns-else-stands_once
returns-else-stands_once c =
    let reader = c.args.reader.now in
    let behind = c.args.behind.now in
    let a = c.args.a in
    elim c.if-is_some.branch [
      | then-is_some w ↦
          let is : is_map reader.op ≡ true = map_told c.kernel.result (λ k. k.now.code.items) reader.op (sym c.is_some.ensures ∙ w.if-is_some.true) c.kernel.ensures.kernel in
          let once : stands_once (reads_of reader.op) a ≡ false =
          sym (w.stands_once.ensures ∙ ap (λ (l : List ℕ). stands_once l a) (w.as_slice.ensures.value ∙ w.reads.ensures)) ∙ sym w.value-is ∙ c.if-stands_once.false in
          c.if-stands_once.false ∙ sym (one_reader reader behind a is ∙ (λ i. once i && not (list_any (is_reader a) behind)))
      | else-is_some w ↦
          let other : is_map reader.op ≡ false = other_told c.kernel.result reader.op (sym c.is_some.ensures ∙ w.if-is_some.false) c.kernel.ensures.none in
          c.if-stands_once.false ∙ sym (λ i. other i && has_one_reader reader behind a)
    ]
