use Rattle.std.specs.Prelude.{OnOk}
use Rattle.std.proofs.Common.{◌≡◌, ◌-◌, ◌++◌, ℕ, List, Result, Ok, Err, length, sym, ap, ◌∙◌, subst, arith}
use Rattle.cu_task.specs.ViewJobs.{buffer_in, buffer_room, view_of_chunk, HaveComeFrom}
use Rattle.cu_task.proofs.RowReads.{takes_rows}
use Rattle.cu_task.proofs.views.take_rows.Goals as goal

on_both : {P Q R E : Type 0} (r : Result Unit E) → (P → Q → R) → OnOk r P → OnOk r Q → OnOk r R
on_both (Ok x) f p q = f p q
on_both (Err e) f p q = tt

pub returns-clause-takes : goal.returns-clause-takes
returns-clause-takes g c told known =
    let chunk = c.args.chunk.now in
    let behind = c.split_at_mut-behind in
    let rows = c.split_at_mut-rows in
    let whole : c.args.room.now ≡ c.split_at_mut-behind.result.0.now ++ (c.split_at_mut-rows.result.0.now ++ c.split_at_mut-rows.result.1.now)
    = behind.ensures.value ∙ ap (λ (xs : List ℕ). c.split_at_mut-behind.result.0.now ++ xs) rows.ensures.value in
    let new = c.split_at_mut-behind.result.0.now ++ (c.fetch_front.new.bytes ++ c.split_at_mut-rows.result.1.now) in
    let before = length c.args.room.now - buffer_room (view_of_chunk c.args.chunk.now) in
    let count = c.front_bytes.ensures.bytes in
    let front = rows.ensures.front_len in
    let kept = c.fetch_front.auto.bytes in
    on_both c.fetch_front.result
    (λ has elements. subst (λ (old : List ℕ). HaveComeFrom c.args.chunk.now told (buffer_in (view_of_chunk c.args.chunk.now) old) (buffer_in (view_of_chunk c.args.chunk.now) (c.split_at_mut-behind.result.0.now ++ (c.fetch_front.new.bytes ++ c.split_at_mut-rows.result.1.now)))) (sym whole)
    (takes_rows chunk c.requires.chunk c.args.front.now c.requires.front before c.args.at c.requires.stands
    c.split_at_mut-behind.result.0.now c.split_at_mut-rows.result.0.now c.fetch_front.new.bytes c.split_at_mut-rows.result.1.now
    behind.ensures.front_len (omega (arith, kept, front, count)) (sym kept)
    (ap (λ (xs : List ℕ). length xs - buffer_room (view_of_chunk c.args.chunk.now)) whole) told (g.C.Chunks.shown c.args.access.now) (g.C.Chunks.shown c.fetch_front.new.access) known c.fetch_front.ensures.step has elements))
    c.fetch_front.ensures.read c.fetch_front.ensures.elements
