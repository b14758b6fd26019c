use Rattle.std.proofs.Common.{◌≡◌, ◌+◌, map, None, replicate, length, get_or, sym, ap, ◌∙◌, subst, arith, rules}
use Rattle.cu_cells.specs.Cells.{entries_in}
use Rattle.cu_cells.specs.Yard.{room_size}
use Rattle.cu_cells.specs.Layout.{Laid, word_total}
use Rattle.std.proofs.lemmas.List.{length-replicate}
use Rattle.cu_store.specs.declared.yard.Spec.{Spec}
use Rattle.cu_cells.proofs.Moves.{starts_kept}
use Rattle.cu_cells.proofs.Entries.{none_filled}
use Rattle.cu_cells.proofs.Starting.{starts_at, starts_length}
use Rattle.cu_cells.proofs.shared.Cells.make.Goals as goal

pub returns-clause-own : goal.returns-clause-own
returns-clause-own c =
    let specs = c.args.specs.now in
    let p = c.args.promise.now.map in
    let copy : c.in_ok-copied.field-0.items ≡ specs = search rules in
    let mine : c.of.result.value.map ≡ p = ap (λ x. x.map) c.of.ensures in
    let laid : Laid = record { specs = c.in_ok-copied.field-0.items; promise = c.of.result.value.map } in
    let is : laid ≡ record { specs = specs; promise = p } = (λ k. record { specs = copy k; promise = mine k }) in
    let told = c.in-Ok-of_words.ensures in
    record {
      hand = record {
        sound = record {
          fair = subst (λ (l : Laid). Rattle.cu_cells.specs.Cells.IsFair l) (sym is) (record { apart = c.requires.apart; promise = c.requires.promise; small = (let a = c.in_ok-starts.ensures.total p in let b = c.in_ok-starts.ensures.small in omega (arith, a, b)) });
          starts = subst (λ (l : Laid). Rattle.cu_cells.specs.Cells.AreStarts l c.in_ok-starts.starts.items) (sym is) (record { count = ap length (c.in_ok-starts.ensures.starts p) ∙ starts_length p (length specs) specs; starts = λ k d less. ap (λ xs. get_or xs k d) (c.in_ok-starts.ensures.starts p) ∙ starts_at p (length specs) specs k d less });
          places = c.in_ok-places.ensures ∙ ap (map (λ (x : Spec). x.key)) (sym copy);
          entries = ap length c.in_ok-entries.ensures ∙ (length-replicate (length specs) None ∙ sym (ap length copy));
          key = told.5;
          size = subst (λ (l : Laid). c.in-Ok-of_words.table.shared.table_id.words ≡ word_total l) (sym is)
              (let a = c.in_ok-starts.ensures.total p in let d = ap length c.deref.ensures.value in let w = c.in-Ok.ensures.len in let t = told.0 in omega (arith, a, d, w, t));
        };
        use_ = record { free = ap (λ m. m.1) told.4; live = ap (λ m. m.0.live) told.4; late = search rules };
        table = told.2;
        laid = ap (λ m. m.0.laid) told.4;
        entries = c.of-2.ensures;
      };
      rooms = c.in_ok-rooms.ensures ∙ ap (map room_size) (sym copy);
    }

pub returns-clause-unfilled : goal.returns-clause-unfilled
returns-clause-unfilled c key = ap (λ v. entries_in c.in-Ok-of_words.seat.me.0.laid v.items key) c.of-2.ensures ∙ none_filled c.in-Ok-of_words.seat.me.0.laid c.in_ok-entries.entries.items (length c.args.specs.now) key c.in_ok-entries.ensures

pub of_words-requires : goal.of_words-requires
of_words-requires c =
    let specs = c.args.specs.now in
    let p = c.args.promise.now.map in
    let copy : c.in_ok-copied.field-0.items ≡ specs = search rules in
    let mine : c.of.result.value.map ≡ p = ap (λ x. x.map) c.of.ensures in
    let laid : Laid = record { specs = c.in_ok-copied.field-0.items; promise = c.of.result.value.map } in
    let is : laid ≡ record { specs = specs; promise = p } = (λ k. record { specs = copy k; promise = mine k }) in
    let size : c.in_ok-starts.total + 1 ≡ word_total laid = subst (λ (l : Laid). c.in_ok-starts.total + 1 ≡ word_total l) (sym is) (let a = c.in_ok-starts.ensures.total p in omega (arith, a)) in
    starts_kept laid c.deref.result.now (c.deref.ensures.value ∙ (c.in-Ok.ensures.items_if_clones_equal (λ y same. same) ∙ ap (λ n. replicate n 0) size))
