use Rattle.std.proofs.Common.{◌≡◌, ◌+◌, ◌*◌, ◌∷◌, [], List, ℕ, length, map, Contains, ap, sym, ◌∙◌, subst, inl, arith, add-mul, one-mul}
use Rattle.std.specs.List.Sorted.{IsStrictlyIncreasing}
use Rattle.cu_shape.specs.Index.{place_of, quotients}
use Rattle.cu_grid.specs.Counts.{counts_of}
use Rattle.cu_region.proofs.StoredReads.{meets_own}
use Rattle.cu_region.proofs.SteadyKeys.{first_contains, rest_contains}
use Rattle.cu_store.specs.Steps.{NoChange}
use Rattle.cu_command.proofs.SeenLemmas.{stepped_same, stepped_then}
use Rattle.cu_print.specs.Bands.{HasFirst}
use Rattle.cu_print.proofs.BandReads.{ReadsLeft, reads_more, all_read, front_read, unread_of, increasing_rest}
use Rattle.cu_print.proofs.reads.read_band.Goals as goal

pub loop-coord-init : goal.loop-coord-init
loop-coord-init g c =
    let e : c.into_iter-coord-iterator.result ≡ c.cover-coord-items.result = c.into_iter-coord-iterator.ensures.into_iter_gives in
    record {
      left = λ coord has. (c.cover-coord-items.ensures.exactly coord).0 (subst (λ (x : List (List ℕ)). Contains x coord) e has);
      order = subst (λ (x : List (List ℕ)). IsStrictlyIncreasing (map (place_of (counts_of c.args.info.now.layout.grid.shape c.args.info.now.layout.grid.chunk)) x)) (sym e) c.cover-coord-items.ensures.order;
      step = stepped_same NoChange (g.D.PutStore.shown c.args.depot.now);
      read = λ entry step idx w steady. inl (subst (λ (x : List (List ℕ)). Contains x (quotients idx c.args.info.now.layout.grid.chunk)) (sym e)
          ((c.cover-coord-items.ensures.exactly (quotients idx c.args.info.now.layout.grid.chunk)).1
          (meets_own c.args.info.now c.args.region.now.lo c.args.region.now.hi idx c.cover-coord-items.ensures.kept c.requires.region w)));
      calls = let all = ap (λ xs. length xs * (c.args.retries + 1)) (e ∙ c.cover-coord-items.ensures.chunks) in omega (arith, all);
      once = let all = ap length (e ∙ c.cover-coord-items.ensures.chunks) in omega (arith, all);
    }

pub read_part-requires-clause-meets : goal.read_part-requires-clause-meets
read_part-requires-clause-meets g c =
    let e : c.loop-coord.coord-iterator ≡ c.in-Some.coord ∷ c.next.new.self = c.in-Some.ensures.steps in
    c.loop-coord.invariant.left c.in-Some.coord (subst (λ (x : List (List ℕ)). Contains x c.in-Some.coord) (sym e) (first_contains c.in-Some.coord c.next.new.self))

pub loop-coord-preserved : goal.loop-coord-preserved
loop-coord-preserved g c =
    let e : c.loop-coord.coord-iterator ≡ c.in-Some.coord ∷ c.next.new.self = c.in-Some.ensures.steps in
    record {
      left = λ coord has. c.loop-coord.invariant.left coord (subst (λ (x : List (List ℕ)). Contains x coord) (sym e) (rest_contains c.in-Some.coord c.next.new.self coord has));
      order = increasing_rest (place_of (counts_of c.args.info.now.layout.grid.shape c.args.info.now.layout.grid.chunk) c.in-Some.coord)
          (map (place_of (counts_of c.args.info.now.layout.grid.shape c.args.info.now.layout.grid.chunk)) c.next.new.self)
          (subst (λ (x : List (List ℕ)). IsStrictlyIncreasing (map (place_of (counts_of c.args.info.now.layout.grid.shape c.args.info.now.layout.grid.chunk)) x)) e c.loop-coord.invariant.order);
      step = stepped_then c.loop-coord.invariant.step c.read_part.ensures.step;
      read = reads_more c.args.info.now c.args.region.now c.in-Some.coord c.loop-coord.out c.read_part.new.out c.next.new.self
          (g.D.PutStore.shown c.args.depot.now) (g.D.PutStore.shown c.loop-coord.depot) c.loop-coord.invariant.step c.in-Ok.ensures.part c.in-Ok.ensures.others
          (subst (λ (x : List (List ℕ)). ReadsLeft c.args.info.now c.args.region.now (g.D.PutStore.shown c.args.depot.now) x c.loop-coord.out) e c.loop-coord.invariant.read);
      calls = let one = ap (λ xs. length xs * (c.args.retries + 1)) e in omega (arith, one, c.loop-coord.invariant.calls, c.read_part.ensures.calls, add-mul 1 (length c.next.new.self) (c.args.retries + 1), one-mul (c.args.retries + 1));
      once = let one = ap length e in omega (arith, one, c.loop-coord.invariant.once, c.read_part.ensures.once);
    }

pub returns-clause-all : goal.returns-clause-all
returns-clause-all g c =
    let e : c.loop-coord.coord-iterator ≡ [] = c.in-None.ensures.steps.0 in
    all_read c.args.info.now c.args.region.now (g.D.PutStore.shown c.args.depot.now) _ c.loop-coord.out
    (subst (λ (x : List (List ℕ)). ReadsLeft c.args.info.now c.args.region.now (g.D.PutStore.shown c.args.depot.now) x c.loop-coord.out) e c.loop-coord.invariant.read)

pub ready_before-requires-clause-meets : goal.ready_before-requires-clause-meets
ready_before-requires-clause-meets g c =
    let e : c.loop-coord.coord-iterator ≡ c.in-Some.coord ∷ c.next.new.self = c.in-Some.ensures.steps in
    c.loop-coord.invariant.left c.in-Some.coord (subst (λ (x : List (List ℕ)). Contains x c.in-Some.coord) (sym e) (first_contains c.in-Some.coord c.next.new.self))

pub returns-in-Err-clause-front : goal.returns-in-Err-clause-front
returns-in-Err-clause-front g c =
    let e : c.loop-coord.coord-iterator ≡ c.in-Some.coord ∷ c.next.new.self = c.in-Some.ensures.steps in
    let meets = c.loop-coord.invariant.left c.in-Some.coord (subst (λ (x : List (List ℕ)). Contains x c.in-Some.coord) (sym e) (first_contains c.in-Some.coord c.next.new.self)) in
    let front = front_read c.args.info.now c.args.region.now c.in-Some.coord c.next.new.self (g.D.PutStore.shown c.args.depot.now) c.loop-coord.out c.cover-coord-items.ensures.kept c.requires.region meets
    (subst (λ (x : List (List ℕ)). IsStrictlyIncreasing (map (place_of (counts_of c.args.info.now.layout.grid.shape c.args.info.now.layout.grid.chunk)) x)) e c.loop-coord.invariant.order)
    (subst (λ (x : List (List ℕ)). ReadsLeft c.args.info.now c.args.region.now (g.D.PutStore.shown c.args.depot.now) x c.loop-coord.out) e c.loop-coord.invariant.read) in
    subst (λ (out : List ℕ). HasFirst c.args.info.now c.args.region.now (g.D.PutStore.shown c.args.depot.now) c.ready_before.result out) (sym c.in-Err.ensures.same)
    (subst (λ (n : ℕ). HasFirst c.args.info.now c.args.region.now (g.D.PutStore.shown c.args.depot.now) n c.loop-coord.out) (sym c.ready_before.ensures) front)

pub returns-in-Err-clause-unread : goal.returns-in-Err-clause-unread
returns-in-Err-clause-unread g c =
    let e : c.loop-coord.coord-iterator ≡ c.in-Some.coord ∷ c.next.new.self = c.in-Some.ensures.steps in
    let meets = c.loop-coord.invariant.left c.in-Some.coord (subst (λ (x : List (List ℕ)). Contains x c.in-Some.coord) (sym e) (first_contains c.in-Some.coord c.next.new.self)) in
    unread_of (c.args.retries + 1) (g.D.PutStore.shown c.args.depot.now) (g.D.PutStore.shown c.loop-coord.depot) (g.D.PutStore.shown c.read_part.new.depot) c.args.info.now c.args.region.now c.in-Some.coord
    (record { ready = c.ready_before.result; status = c.in-Err.status }) c.cover-coord-items.ensures.kept meets c.loop-coord.invariant.step c.ready_before.ensures c.in-Err.ensures.cause

pub returns-in-Err-clause-step : goal.returns-in-Err-clause-step
returns-in-Err-clause-step g c = stepped_then c.loop-coord.invariant.step c.read_part.ensures.step

pub returns-in-Err-clause-calls : goal.returns-in-Err-clause-calls
returns-in-Err-clause-calls g c =
    let e : c.loop-coord.coord-iterator ≡ c.in-Some.coord ∷ c.next.new.self = c.in-Some.ensures.steps in
    let one = ap (λ xs. length xs * (c.args.retries + 1)) e in
    omega (arith, one, c.loop-coord.invariant.calls, c.read_part.ensures.calls, add-mul 1 (length c.next.new.self) (c.args.retries + 1), one-mul (c.args.retries + 1))

pub returns-clause-calls : goal.returns-clause-calls
returns-clause-calls g c = omega (arith, c.loop-coord.invariant.calls)

pub returns-in-Err-clause-once : goal.returns-in-Err-clause-once
returns-in-Err-clause-once g c =
    let e : c.loop-coord.coord-iterator ≡ c.in-Some.coord ∷ c.next.new.self = c.in-Some.ensures.steps in
    let one = ap length e in
    omega (arith, one, c.loop-coord.invariant.once, c.read_part.ensures.once)

pub returns-clause-once : goal.returns-clause-once
returns-clause-once g c = omega (arith, c.loop-coord.invariant.once)
