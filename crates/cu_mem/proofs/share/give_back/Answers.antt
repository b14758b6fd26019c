use Rattle.std.proofs.Common.{◌≡◌, ◌+◌, ◌<◌, suc, ℕ, IsTrue, List, [], ◌∷◌, ◌++◌, Vec, Global, length, map, take, vec_len, rules, sym, ap, ◌∙◌, subst, arith}
use Rattle.std.proofs.lemmas.List.{length-map}
use Rattle.cu_cells.specs.Yard.{known_of, landed_of, room_size}
use Rattle.cu_mem.specs.Entries.{held_in}
use Rattle.cu_mem.specs.Sharing.{lent_in, there_by, room_at, HoldsFrom}
use Rattle.cu_mem.proofs.Sharing.{last_room, other_rooms, map_last, later_then, backs, holds_more, here_of, there_later}
use Rattle.cu_mem.proofs.share.give_back.Goals as goal

pub give_one-requires-clause-room : goal.give_one-requires-clause-room
give_one-requires-clause-room c =
    let before = c.loop-room.invariant in
    let ys = c.args.yard.now.layout.specs in
    let n = vec_len c.pop.new.self in
    let size : List (Vec ℕ Global) → List ℕ = map (λ v. length v.items) in
    let more : vec_len c.loop-room.rooms ≡ suc n = let cases = c.in-Some.ensures.cases in omega arith in
    let less : n < length ys = let few = before.few in omega arith in
    let long : length (size c.pop.new.self.items) ≡ n = length-map c.pop.new.self.items (λ v. length v.items) ∙ search rules in
    let is : size c.pop.new.self.items ++ length c.in-Some.room.items ∷ [] ≡ map room_size (take (vec_len c.loop-room.rooms) ys) =
    sym (map_last (λ (v : Vec ℕ Global). length v.items) c.pop.new.self.items c.in-Some.room) ∙ (ap size (sym c.in-Some.ensures.items) ∙ before.rooms) in
    last_room (size c.pop.new.self.items) (length c.in-Some.room.items) ys n (vec_len c.loop-room.rooms) more less long is
    ∙ (ap (λ ss. room_at ss n) (sym (ap (λ y. y.layout.specs) before.same)) ∙ ap (room_at c.loop-room.yard.layout.specs) (sym c.len.ensures))

pub loop-room-preserved : goal.loop-room-preserved
loop-room-preserved c =
    let before = c.loop-room.invariant in
    let ys = c.args.yard.now.layout.specs in
    let n = vec_len c.pop.new.self in
    let size : List (Vec ℕ Global) → List ℕ = map (λ v. length v.items) in
    let more : vec_len c.loop-room.rooms ≡ suc n = let cases = c.in-Some.ensures.cases in omega arith in
    let less : n < length ys = let few = before.few in omega arith in
    let long : length (size c.pop.new.self.items) ≡ n = length-map c.pop.new.self.items (λ v. length v.items) ∙ search rules in
    let is : size c.pop.new.self.items ++ length c.in-Some.room.items ∷ [] ≡ map room_size (take (vec_len c.loop-room.rooms) ys) =
    sym (map_last (λ (v : Vec ℕ Global). length v.items) c.pop.new.self.items c.in-Some.room) ∙ (ap size (sym c.in-Some.ensures.items) ∙ before.rooms) in
    let one = c.give_one.ensures in
    let l = lent_in c.args.yard.now c.args.pass.now in
    let m = lent_in c.loop-room.yard c.loop-room.pass in
    let same : m ≡ l = (λ k. record { specs = (before.same k).layout.specs; promise = before.later.yard.promise k }) in
    let seen = there_by c.args.pass.now in
    let more_seen : (key : List ℕ) → IsTrue (seen key) → IsTrue (there_by c.loop-room.pass key) = λ key. there_later ((known_of c.args.pass.now).seen key) ((known_of c.loop-room.pass).seen key) (landed_of c.args.pass.now key) (landed_of c.loop-room.pass key) (before.later.seen key) (λ k. before.landed k key) in
    let held = held_in c.give_one.new.slots.items in
    let here = here_of l m n c.len.result seen (there_by c.loop-room.pass) held same c.len.ensures more_seen one.held in
    let next : vec_len c.loop-room.rooms ≡ n + 1 = let cases = c.in-Some.ensures.cases in omega arith in
    record {
      own = one.own;
      same = one.same ∙ before.same;
      later = later_then (known_of c.args.pass.now) (known_of c.loop-room.pass) (known_of c.give_one.new.pass) before.later one.later;
      rooms = other_rooms (size c.pop.new.self.items) (length c.in-Some.room.items) ys n (vec_len c.loop-room.rooms) more long is;
      few = let few = before.few in omega arith;
      back = backs l m (held_in c.args.slots.now.items) (held_in c.loop-room.slots.items) held same before.back one.back;
      held = holds_more l m n seen (held_in c.loop-room.slots.items) held same (subst (λ x. HoldsFrom x l seen (held_in c.loop-room.slots.items)) next before.held) one.back here;
      faults = one.counts.0 ∙ before.faults;
      calls = one.counts.1 ∙ before.calls;
      script = one.script ∙ before.script;
      waits = one.kept.0 ∙ before.waits;
      landed = one.kept.1 ∙ before.landed;
      places = λ key. one.places key ∙ before.places key;
      len = one.len ∙ before.len;
      capacity = one.capacity ∙ before.capacity;
    }
