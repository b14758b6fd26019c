use Rattle.std.proofs.Common.{◌≡◌, ◌++◌, [], ◌∷◌, ℕ, All, length, map, sym, ◌∙◌, subst, arith}
use Rattle.std.specs.List.{range_with_len}
use Rattle.std.proofs.lemmas.List.Elements.{All-push}
use Rattle.std.proofs.lemmas.List.FromFn.{map-range_with_len_more}
use Rattle.cu_fuse.specs.Choosing.{plan_view, IsChosenTo}
use Rattle.cu_fuse.specs.Rooms.{room_within, IsModest}
use Rattle.cu_fuse.proofs.choice.Choice.choose_all.Goals as goal

pub loop-k-preserved : goal.loop-k-preserved
loop-k-preserved c =
    let q = plan_view c.choose_inputs-room.new.self in
    let k = c.loop-k.k in
    let room = c.choose_inputs-room.result in
    let pushed = (c.in_ok-push.ensures {u = tt}).items in
    let was : c.loop-k.rooms.items ≡ map (room_within q) (range_with_len 0 k) = sym c.deref.ensures.value ∙ c.choose_inputs-room.ensures.rooms in
    record {
      chosen = c.choose_inputs-room.ensures.chosen;
      plan = c.choose_inputs-room.ensures.plan ∙ c.loop-k.invariant.plan;
      rooms = pushed ∙ (λ t. was t ++ c.choose_inputs-room.ensures.room t ∷ []) ∙ sym (map-range_with_len_more (room_within q) 0 k k (omega arith));
      modest = subst (All IsModest) (sym pushed) (All-push IsModest c.loop-k.rooms.items room c.loop-k.invariant.modest c.choose_inputs-room.ensures.modest);
    }

pub returns-clause-chosen : goal.returns-clause-chosen
returns-clause-chosen c =
    let all = c.len-k-end.ensures in
    let f = c.loop-k-test.false in
    let e = c.loop-k.auto.k-end in
    let same : c.loop-k.k ≡ length c.args.self.now.ops.items = omega (arith, all, f, e) in
    subst (λ (n : ℕ). IsChosenTo (plan_view c.loop-k.self) n 0) same c.loop-k.invariant.chosen
