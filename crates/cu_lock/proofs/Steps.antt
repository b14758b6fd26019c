-- Each kind of step keeps the rule.
use Rattle.std.proofs.Common.{◌≡◌, ◌≢◌, ◌⊎◌, ℕ, zero, suc, ◌+◌, ◌%◌, ◌<◌, ◌==◌, Bool, true, false, true≢false, List, [], ◌∷◌, ◌++◌, map, length, set, Option, Some, None, refl, sym, ap, ◌∙◌, subst, inl, inr, ⊎_elim, arith, append-nil, length-set, get_or-set_same}
use Rattle.std.specs.Prelude.{slice_index, slice_set, Contains}
use mathlib.Core.Option as opt
use mathlib.Core.Option.{some-ne-none, some-injective}
use prog.Atomic.{either}
use lib.ListN.{get_elem?}
use Rattle.atomic_table.specs.Table.{State, Me, Act, keeps, takes, gives, Valid, stepped, carried_after, Allows, Splits, Joins, opening, Final, Seen}
use Rattle.atomic_table.proofs.Lists.{at_set, at_snoc, at_longer, set_here, set_else, set_again, exchanged}
use Rattle.cu_store.specs.declared.faults.TaskFault.{TaskFault}
use Rattle.cu_history.specs.declared.entry.Entry.{Entry}
use Rattle.cu_history.specs.History.{own, has_halt}
use Rattle.cu_lock.specs.declared.view.SeatView.{SeatView}
use Rattle.cu_lock.specs.declared.view.KnownFront.{KnownFront}
use Rattle.cu_lock.specs.Views.{first_root, informed, split_root, split_off, root_joined, joined_numbers, spent, is_shorter, either_informed}
use Rattle.cu_lock.specs.Rule.{IsPrefix, Each, AllBelow, AllOf, IsKnownFront, Agrees, SeatsApart, IsTurnState, IsWorker, IsRoot, Learns, TurnTaken, TakesTurn, Grows, FreesTurn}
use Rattle.cu_lock.proofs.Fronts.{prefix_same, prefix_longer, own-append, own_others, own_below, each_map, each-append, each_front, halt_prefix}

-- facts of all views, where one was changed
module _ (log : List Entry) (fault : Option TaskFault) (holder : opt.Option ℕ) (views : List SeatView) (at : ℕ) (w : SeatView) where
  pub agrees_set : ((j : ℕ) (u : SeatView) → j ≢ at → get_elem? views j ≡ opt.some u → u.live ≡ true → Agrees log fault holder j u) → (w.live ≡ true → Agrees log fault holder at w)
      → (j : ℕ) (u : SeatView) → get_elem? (set views at w) j ≡ opt.some u → u.live ≡ true → Agrees log fault holder j u
  agrees_set others mine j u e = ⊎_elim
      (λ (x : (j ≡ at) × (w ≡ u)). subst (λ (y : ℕ × SeatView). y.1.live ≡ true → Agrees log fault holder y.0 y.1) (λ i. (sym x.0 i, x.1 i)) mine)
      (λ (x : (j ≢ at) × (get_elem? views j ≡ opt.some u)). others j u x.0 x.1)
      (at_set views at j w u e)

abbrev AllApart : List SeatView → Type 0
AllApart views = (i j : ℕ) (v w : SeatView) → i ≢ j → get_elem? views i ≡ opt.some v → get_elem? views j ≡ opt.some w → v.live ≡ true → w.live ≡ true → SeatsApart v w

-- one view was changed, and is still apart from the others
pub apart_set : (views : List SeatView) (at : ℕ) (w : SeatView) → AllApart views
    → ((j : ℕ) (u : SeatView) → j ≢ at → get_elem? views j ≡ opt.some u → u.live ≡ true → w.live ≡ true → SeatsApart w u × SeatsApart u w) → AllApart (set views at w)
apart_set views at w old mine i j u v ne e f lu lv = ⊎_elim
    (λ (x : (i ≡ at) × (w ≡ u)). ⊎_elim
    (λ (y : (j ≡ at) × (w ≡ v)). absurd (ne (x.0 ∙ sym y.0)))
    (λ (y : (j ≢ at) × (get_elem? views j ≡ opt.some v)). subst (λ (z : SeatView). SeatsApart z v) x.1 (mine j v y.0 y.1 lv (ap (λ (z : SeatView). z.live) x.1 ∙ lu)).0)
    (at_set views at j w v f))
    (λ (x : (i ≢ at) × (get_elem? views i ≡ opt.some u)). ⊎_elim
    (λ (y : (j ≡ at) × (w ≡ v)). subst (λ (z : SeatView). SeatsApart u z) y.1 (mine i u x.0 x.1 lu (ap (λ (z : SeatView). z.live) y.1 ∙ lv)).1)
    (λ (y : (j ≢ at) × (get_elem? views j ≡ opt.some v)). old i j u v ne x.1 y.1 lu lv)
    (at_set views at j w v f))
    (at_set views at i w u e)

-- the same kind, number and joined numbers: just as apart
pub apart_like : (views : List SeatView) (at : ℕ) (v w : SeatView) → AllApart views → get_elem? views at ≡ opt.some v → v.live ≡ true → w.root ≡ v.root → w.number ≡ v.number → w.joined ≡ v.joined
    → AllApart (set views at w)
apart_like views at v w old here live root number taken =
    apart_set views at w old (λ j u ne e lu lw.
    let a = old at j v u (λ k. ne (sym k)) here e live lu in
    let b = old j at u v ne e here lu live in (
      record {
        root = λ r. a.root (sym root ∙ r);
        numbers = λ r s t. a.numbers (sym root ∙ r) s (sym number ∙ t);
        below = λ r. let c = a.below (sym root ∙ r) in (subst (λ n. u.number < n) (sym number) c.0, subst (λ (l : List KnownFront). Each (λ n. n ≢ u.number) (map (λ k. k.number) l)) (sym taken) c.1);
      },
      record {
        root = λ r. root ∙ b.root r;
        numbers = λ r s t. b.numbers r (sym root ∙ s) (t ∙ number);
        below = λ r. let c = b.below r in (subst (λ n. n < u.number) (sym number) c.0, subst (λ m. Each (λ n. n ≢ m) (joined_numbers u)) (sym number) c.1);
      },
    ))

pub set_there : (views : List SeatView) (at : ℕ) (v w : SeatView) → get_elem? views at ≡ opt.some v → get_elem? (set views at w) at ≡ opt.some w
set_there [] at v w e = absurd (some-ne-none v (sym e))
set_there (x ∷ xs) zero v w e = refl
set_there (x ∷ xs) (suc at) v w e = set_there xs at v w e

set_again_word : (ws : List ℕ) → length ws ≡ 1 → slice_set ws 0 (slice_index ws 0) ≡ ws
set_again_word [] e = refl
set_again_word (x ∷ xs) e = refl

pub at_end : (views : List SeatView) (r u : SeatView) (j : ℕ) → get_elem? (views ++ r ∷ []) j ≡ opt.some u → (get_elem? views j ≡ opt.some u) ⊎ ((j ≡ length views) × (r ≡ u))
at_end [] r u zero e = inr (refl, some-injective r u e)
at_end [] r u (suc j) e = absurd (some-ne-none u (sym e))
at_end (x ∷ xs) r u zero e = inl e
at_end (x ∷ xs) r u (suc j) e = ⊎_elim (λ a. inl a) (λ (b : (j ≡ length xs) × (r ≡ u)). inr (ap suc b.0, b.1)) (at_end xs r u j e)

-- one more view, apart from the others
pub apart_snoc : (views : List SeatView) (r : SeatView) → AllApart views → ((j : ℕ) (u : SeatView) → get_elem? views j ≡ opt.some u → u.live ≡ true → SeatsApart r u × SeatsApart u r) → AllApart (views ++ r ∷ [])
apart_snoc views r old mine i j u v ne e f lu lv = ⊎_elim
    (λ (a : get_elem? views i ≡ opt.some u). ⊎_elim
    (λ (b : get_elem? views j ≡ opt.some v). old i j u v ne a b lu lv)
    (λ (b : (j ≡ length views) × (r ≡ v)). subst (λ (z : SeatView). SeatsApart u z) b.1 (mine i u a lu).1)
    (at_end views r v j f))
    (λ (a : (i ≡ length views) × (r ≡ u)). ⊎_elim
    (λ (b : get_elem? views j ≡ opt.some v). subst (λ (z : SeatView). SeatsApart z v) a.1 (mine j v b lv).0)
    (λ (b : (j ≡ length views) × (r ≡ v)). absurd (ne (a.0 ∙ sym b.0)))
    (at_end views r v j f))
    (at_end views r u i e)

pub same_view : (views : List SeatView) (i j : ℕ) (v w : SeatView) → get_elem? views i ≡ opt.some v → get_elem? views j ≡ opt.some w → i ≡ j → w ≡ v
same_view views i j v w e f is = some-injective w v (sym f ∙ ap (get_elem? views) (sym is) ∙ e)

pub not_joined : (ns : List ℕ) (n : ℕ) → Each (λ m. m ≢ n) ns → Contains ns n → ⊥
not_joined [] n each (k, low, is) = absurd (omega arith)
not_joined (m ∷ ns) n (one, more) (zero, low, is) = one is
not_joined (m ∷ ns) n (one, more) (suc k, low, is) = not_joined ns n more (k, omega arith, is)

pub front_below : (n : ℕ) (front log : List Entry) → IsPrefix front log → AllBelow n log → AllBelow n front
front_below n front log (rest, is) below = each_front (λ e. e.worker < n) front rest (subst (AllBelow n) is below)

abbrev value_or : {S : Type 0} → S → Option S → S
value_or d None = d
value_or d (Some x) = x

abbrev head_value : {S : Type 0} → S → List (ℕ × Option S) → S
head_value d [] = d
head_value d (y ∷ ys) = value_or d y.1

abbrev is_none : {S : Type 0} → Option S → Bool
is_none None = false
is_none (Some x) = true

no_turn : false ≡ true → ⊥
no_turn e = true≢false (sym e)

module _ {S : Type 0} (history : S → List Entry) (fault_of : S → Option TaskFault) (IsValid : S → Type 0) where
  abbrev Ruled : State (Option S) SeatView → Type 0
  Ruled = IsTurnState history fault_of IsValid

  -- the turn is taken
  takes_it : (id : ℕ) (v : SeatView) (odd : ℕ) (s : State (Option S) SeatView) → IsWorker v → odd % 2 ≢ 0 → Ruled s
      → get_elem? s.views id ≡ opt.some v → slice_index s.words 0 % 2 ≡ 0
      → (w : SeatView) × (a : Act (Option S)) × Valid s.homes [] a × Ruled (stepped s 0 odd id [] w a) × TurnTaken history fault_of IsValid v (w, carried_after [] a)
  takes_it id v odd s worker is_odd kept here rests =
      let free = kept.even rests in
      let x = kept.state in
      let f = kept.agree id v here worker.0 in
      let w = informed v true (history x) (fault_of x) in (
        w,
        takes 0 (Some x),
        kept.home free,
        record {
          state = x;
          valid = kept.valid;
          holder = opt.some id;
          one_word = length-set s.words 0 odd ∙ kept.one_word;
          one_slot = length-set s.homes 0 opt.none ∙ kept.one_slot;
          even = λ e. absurd (is_odd (ap (λ n. n % 2) (sym (get_or-set_same s.words 0 odd 0 (omega (arith, kept.one_word)))) ∙ e));
          home = λ e. absurd (some-ne-none id e);
          out = λ k e. (w, subst (λ n. get_elem? (set s.views id w) n ≡ opt.some w) (some-injective id k e) (set_there s.views id v w here), worker.0, refl);
          agree = agrees_set (history x) (fault_of x) (opt.some id) s.views id w
              (λ j u ne e lu. let g = kept.agree j u e lu in record { front = g.front; fault = g.fault; own = g.own; turn = λ t. absurd (some-ne-none j (sym (g.turn t).0 ∙ free)); below = g.below; joined = g.joined })
              (λ _. record {
                front = prefix_same (history x) (history x) refl;
                fault = λ _. refl;
                own = λ _. refl;
                turn = λ _. (refl, refl, refl, worker.1);
                below = λ r. absurd (no_turn (sym worker.1 ∙ r));
                joined = λ r. absurd (no_turn (sym worker.1 ∙ r));
              });
          apart = apart_like s.views id v w kept.apart here worker.0 refl refl refl;
        },
        (x, refl, (kept.valid, f.front, f.own worker.1, f.fault)),
      )

  -- a step that changes nothing
  nothing : (id : ℕ) (v : SeatView) (s : State (Option S) SeatView) → Ruled s → get_elem? s.views id ≡ opt.some v → Ruled (stepped s 0 (slice_index s.words 0) id [] v keeps)
  nothing id v s kept here = subst (λ (t : State (Option S) SeatView). Ruled t) (λ i. record { words = sym (set_again_word s.words kept.one_word) i; homes = s.homes; views = sym (set_again s.views id v here) i }) kept

  pub takes_turn : (slots id : ℕ) (v : SeatView) (even : ℕ) → IsWorker v → even % 2 ≡ 0
      → Allows Ruled slots id (v, []) 0 (λ n. either (n == even) (even + 1) n) (TakesTurn history fault_of IsValid (v, []) even)
  takes_turn slots id v even worker is_even s kept count here wide =
      exchanged (slice_index s.words 0) even (even + 1) (λ n. (w : SeatView) × (a : Act (Option S)) × Valid s.homes [] a × Ruled (stepped s 0 n id [] w a) × TakesTurn history fault_of IsValid (v, []) even (slice_index s.words 0) (w, carried_after [] a))
      (λ hit. let (w, a, valid, law, then) = takes_it id v (even + 1) s worker (λ e. omega arith) kept here (ap (λ n. n % 2) hit ∙ is_even) in (w, a, valid, law, inl (hit, then)))
      (λ miss. (v, keeps, tt, nothing id v s kept here, inr (miss, refl)))

  -- only one seat has the turn
  others_rest : (id j : ℕ) (u : SeatView) (holder : opt.Option ℕ) {log : List Entry} {fault : Option TaskFault} → Agrees log fault holder j u → j ≢ id → holder ≡ opt.some id → u.turn ≡ false
  others_rest id j u holder f ne had = by_turn u.turn (λ t. ne (some-injective j id (sym (f.turn t).0 ∙ had)))
    where
      by_turn : (b : Bool) → (b ≡ true → ⊥) → b ≡ false
      by_turn true e = absurd (e refl)
      by_turn false e = refl

  -- of another number nothing is added
  own_grown : (log es front : List Entry) (n m : ℕ) → AllOf n es → m ≢ n → own m log ≡ own m front → own m (log ++ es) ≡ own m front
  own_grown log es front n m of apart is = own-append m log es ∙ ap (λ l. own m log ++ l) (own_others n m es apart of) ∙ append-nil (own m log) ∙ is

  joined_grown : (log es : List Entry) (fault now : Option TaskFault) (n : ℕ) (ks : List KnownFront) → (has_halt log ≡ true → fault ≡ now) → AllOf n es
      → Each (λ m. m ≢ n) (map (λ (k : KnownFront). k.number) ks) → Each (IsKnownFront log fault) ks → Each (IsKnownFront (log ++ es) now) ks
  joined_grown log es fault now n [] stays of apart known = tt
  joined_grown log es fault now n (k ∷ ks) stays of (one, more) ((front, all, halt), known) = (
    (prefix_longer k.front log es front, own_grown log es k.front n k.number of one all, λ (h : has_halt k.front ≡ true). halt h ∙ stays (halt_prefix k.front log front h)),
    joined_grown log es fault now n ks stays of more known,
  )

  -- what the others know of the history that was added to
  agrees_grown : (log es : List Entry) (fault now : Option TaskFault) (holder : opt.Option ℕ) (n : ℕ) (j : ℕ) (u : SeatView) → Agrees log fault holder j u → AllOf n es → (has_halt log ≡ true → fault ≡ now)
      → (u.root ≡ true → (n < u.number) × Each (λ m. m ≢ n) (joined_numbers u)) → (u.root ≡ false → u.number ≢ n) → u.turn ≡ false → Agrees (log ++ es) now opt.none j u
  agrees_grown log es fault now holder n j u f of stays root worker rests =
      record {
        front = prefix_longer u.front log es f.front;
        fault = λ h. f.fault h ∙ stays (halt_prefix u.front log f.front h);
        own = λ r. own_grown log es u.front n u.number of (worker r) (f.own r);
        turn = λ t. absurd (no_turn (sym rests ∙ t));
        below = λ r. let b = f.below r in (each-append (λ e. e.worker < u.number) log es b.0 (each_map (λ e. e.worker ≡ n) (λ e. e.worker < u.number) es (λ e is. subst (λ k. k < u.number) (sym is) (root r).0) of), b.1);
        joined = λ r. joined_grown log es fault now n u.joined stays of (root r).1 (f.joined r);
      }

  -- the state is given back
  pub frees_turn : (slots id : ℕ) (me : Me (Option S) SeatView) (v : SeatView) (x : S) (word : ℕ) → me ≡ (v, (0, Some x) ∷ []) → v.live ≡ true → v.turn ≡ true → Grows history fault_of IsValid v x
      → Allows Ruled slots id me 0 (λ _. word) (λ _. FreesTurn history fault_of IsValid me)
  frees_turn slots id me v x word is live turn (fit, (es, grown, of), stays) =
      subst (λ (m : Me (Option S) SeatView). Allows Ruled slots id m 0 (λ _. word) (λ _. FreesTurn history fault_of IsValid m)) (sym is)
      (λ s kept count here wide.
      let f = kept.agree id v here live in
      let (had, is_log, is_fault, worker) = f.turn turn in
      let w = informed v false (history x) (fault_of x) in
      let is_new : history x ≡ history kept.state ++ es = grown ∙ ap (λ l. l ++ es) is_log in (
        w,
        gives,
        tt,
        record {
          state = x;
          valid = fit;
          holder = opt.none;
          one_word = length-set s.words 0 word ∙ kept.one_word;
          one_slot = length-set s.homes 0 (opt.some (Some x)) ∙ kept.one_slot;
          even = λ _. refl;
          home = λ _. set_here s.homes 0 (opt.some (Some x)) (omega (arith, kept.one_slot));
          out = λ k e. absurd (some-ne-none k (sym e));
          agree = agrees_set (history x) (fault_of x) opt.none s.views id w
              (λ j u ne e lu.
              let a = kept.apart id j v u (λ k. ne (sym k)) here e live lu in
              let b = kept.apart j id u v ne e here lu live in
              let g = kept.agree j u e lu in
              subst (λ l. Agrees l (fault_of x) opt.none j u) (sym is_new)
              (agrees_grown (history kept.state) es (fault_of kept.state) (fault_of x) kept.holder v.number j u g of
              (λ h. sym is_fault ∙ stays (subst (λ l. has_halt l ≡ true) (sym is_log) h))
              (λ r. b.below r)
              (λ r. b.numbers r worker)
              (others_rest id j u kept.holder g ne had)))
              (λ _. record {
                front = prefix_same (history x) (history x) refl;
                fault = λ _. refl;
                own = λ _. refl;
                turn = λ t. absurd (no_turn t);
                below = λ r. absurd (no_turn (sym worker ∙ r));
                joined = λ r. absurd (no_turn (sym worker ∙ r));
              });
          apart = apart_like s.views id v w kept.apart here live refl refl refl;
        },
        λ y e. frees_same v x y e,
      ))
    where
      frees_same : (v : SeatView) (x y : S) → ◌≡◌ {A = List (ℕ × Option S)} ((0, Some x) ∷ []) ((0, Some y) ∷ []) → ◌≡◌ {A = Me (Option S) SeatView} (informed v false (history x) (fault_of x), []) (informed v false (history y) (fault_of y), [])
      frees_same v x y e = ap (λ (z : S). (informed v false (history z) (fault_of z), [])) (ap (λ (l : List (ℕ × Option S)). head_value x l) e)

  -- the root gives a new seat, which knows as much
  pub splits_root : (id : ℕ) (v : SeatView) → IsRoot v → Splits Ruled id v (split_root v) (split_off v)
  splits_root id v (live, root, rests) s kept here =
      let f = kept.agree id v here live in
      let (none_above, joined_below) = f.below root in
      let l = split_root v in
      let r = split_off v in
      let views = set s.views id l in
      let lefts = agrees_set (history kept.state) (fault_of kept.state) kept.holder s.views id l (λ j u ne e lu. kept.agree j u e lu)
      (λ _. record {
        front = f.front;
        fault = f.fault;
        own = λ e. absurd (no_turn (sym e ∙ root));
        turn = λ t. absurd (no_turn (sym rests ∙ t));
        below = λ _. (
          each_map (λ e. e.worker < v.number) (λ e. e.worker < v.number + 1) (history kept.state) (λ e low. omega arith) none_above,
          each_map (λ n. n < v.number) (λ n. n < v.number + 1) (joined_numbers v) (λ n low. omega arith) joined_below,
        );
        joined = f.joined;
      }) in
      let apart = apart_set s.views id l kept.apart (λ j u ne e lu lw.
      let a = kept.apart id j v u (λ k. ne (sym k)) here e live lu in
      let b = kept.apart j id u v ne e here lu live in (
        record { root = a.root; numbers = λ t. absurd (no_turn (sym t ∙ root)); below = λ t. let c = a.below t in (omega (arith, c.0), c.1) },
        record { root = b.root; numbers = λ t u. absurd (no_turn (sym u ∙ root)); below = λ t. absurd (no_turn (sym (a.root root) ∙ t)) },
      )) in
      record {
        state = kept.state;
        valid = kept.valid;
        holder = kept.holder;
        one_word = kept.one_word;
        one_slot = kept.one_slot;
        even = kept.even;
        home = kept.home;
        out = λ k e. let (h, at, hl, ht) = kept.out k e in
            (h, at_longer views (r ∷ []) k h (set_else s.views id k l (λ is. no_turn (sym rests ∙ ap (λ (z : SeatView). z.turn) (same_view s.views k id h v at here is) ∙ ht)) ∙ at), hl, ht);
        agree = λ j u e lu. ⊎_elim
            (λ was. lefts j u was lu)
            (λ (is : r ≡ u). subst (Agrees (history kept.state) (fault_of kept.state) kept.holder j) is record {
              front = f.front;
              fault = f.fault;
              own = λ _. own_below v.number (history kept.state) none_above ∙ sym (own_below v.number v.front (front_below v.number v.front (history kept.state) f.front none_above));
              turn = λ t. absurd (no_turn t);
              below = λ t. absurd (no_turn t);
              joined = λ t. absurd (no_turn t);
            })
            (at_snoc views r u j e);
        apart = apart_snoc views r apart (λ j u e lu. ⊎_elim
            (λ (x : (j ≡ id) × (l ≡ u)). subst (λ (z : SeatView). SeatsApart r z × SeatsApart z r) x.1 (
              record { root = λ t. absurd (no_turn t); numbers = λ t w. absurd (no_turn (sym w ∙ root)); below = λ t. absurd (no_turn t) },
              record { root = λ _. refl; numbers = λ t w. absurd (no_turn (sym t ∙ root)); below = λ _. (omega arith, each_map (λ n. n < v.number) (λ n. n ≢ v.number) (joined_numbers v) (λ n low is. omega arith) joined_below) },
            ))
            (λ (x : (j ≢ id) × (get_elem? s.views j ≡ opt.some u)).
            let a = kept.apart id j v u (λ k. x.0 (sym k)) here x.1 live lu in (
              record { root = λ t. absurd (no_turn t); numbers = λ t w is. let c = (a.below root).0 in omega arith; below = λ t. absurd (no_turn t) },
              record { root = λ t. absurd (no_turn (sym (a.root root) ∙ t)); numbers = λ t w is. let c = (a.below root).0 in omega arith; below = λ t. absurd (no_turn (sym (a.root root) ∙ t)) },
            ))
            (at_set s.views id j l u e));
      }

  -- what the root knows after a join is what it or the other knew
  longer_agrees : (b : Bool) (log : List Entry) (fault : Option TaskFault) (v w : SeatView) → IsPrefix v.front log → IsPrefix w.front log → (has_halt v.front ≡ true → v.fault ≡ fault) → (has_halt w.front ≡ true → w.fault ≡ fault)
      → IsPrefix (either_informed b v w).front log × (has_halt (either_informed b v w).front ≡ true → (either_informed b v w).fault ≡ fault)
  longer_agrees true log fault v w p q f g = (q, g)
  longer_agrees false log fault v w p q f g = (p, f)

  -- the root takes in a seat that rests
  pub joins_seat : (id other : ℕ) (v w : SeatView) → IsRoot v → IsWorker w → Joins Ruled id v other w (root_joined v w) spent
  joins_seat id other v w (live, root, rests) (live', worker, rests') s kept here apart there =
      let b = root_joined v w in
      let was : get_elem? s.views other ≡ opt.some w = sym (set_else s.views id other b apart) ∙ there in
      let f = kept.agree id v here live in
      let g = kept.agree other w was live' in
      let c = kept.apart id other v w (λ k. apart (sym k)) here was live live' in
      let low = (c.below root).0 in
      let views = set s.views id b in
      let all = longer_agrees (is_shorter v.front w.front) (history kept.state) (fault_of kept.state) v w f.front g.front f.fault g.fault in
      let firsts = agrees_set (history kept.state) (fault_of kept.state) kept.holder s.views id b (λ j u ne e lu. kept.agree j u e lu)
      (λ _. record {
        front = all.0;
        fault = all.1;
        own = λ e. absurd (no_turn (sym e ∙ root));
        turn = λ t. absurd (no_turn (sym rests ∙ t));
        below = λ _. ((f.below root).0, (low, (f.below root).1));
        joined = λ t. ((g.front, g.own worker, g.fault), f.joined root);
      }) in
      let others : (j : ℕ) (u : SeatView) → j ≢ id → j ≢ other → get_elem? s.views j ≡ opt.some u → u.live ≡ true → SeatsApart b u × SeatsApart u b = λ j u ne no e lu.
      let x = kept.apart id j v u (λ k. ne (sym k)) here e live lu in
      let y = kept.apart j id u v ne e here lu live in
      let z = kept.apart other j w u (λ k. no (sym k)) was e live' lu in (
        record { root = x.root; numbers = x.numbers; below = λ t. let k = x.below t in (k.0, (z.numbers worker (x.root root), k.1)) },
        record { root = y.root; numbers = y.numbers; below = y.below },
      ) in
      record {
        state = kept.state;
        valid = kept.valid;
        holder = kept.holder;
        one_word = kept.one_word;
        one_slot = kept.one_slot;
        even = kept.even;
        home = kept.home;
        out = λ k e. let (h, at, hl, ht) = kept.out k e in
            let not_root : k ≢ id = λ is. no_turn (sym rests ∙ ap (λ (z : SeatView). z.turn) (same_view s.views k id h v at here is) ∙ ht) in
            let not_other : k ≢ other = λ is. no_turn (sym rests' ∙ ap (λ (z : SeatView). z.turn) (same_view s.views k other h w at was is) ∙ ht) in
            (h, set_else views other k spent not_other ∙ set_else s.views id k b not_root ∙ at, hl, ht);
        agree = agrees_set (history kept.state) (fault_of kept.state) kept.holder views other spent (λ j u ne e lu. firsts j u e lu) (λ dead. absurd (no_turn dead));
        apart = λ i j u x ne e k lu lx.
            let no_i : i ≢ other = λ is. no_turn (ap (λ (z : SeatView). z.live) (some-injective spent u (sym (set_there views other w spent there) ∙ ap (get_elem? (set views other spent)) (sym is) ∙ e)) ∙ lu) in
            let no_j : j ≢ other = λ is. no_turn (ap (λ (z : SeatView). z.live) (some-injective spent x (sym (set_there views other w spent there) ∙ ap (get_elem? (set views other spent)) (sym is) ∙ k)) ∙ lx) in
            let e' : get_elem? views i ≡ opt.some u = sym (set_else views other i spent no_i) ∙ e in
            let k' : get_elem? views j ≡ opt.some x = sym (set_else views other j spent no_j) ∙ k in
            ⊎_elim
            (λ (p : (i ≡ id) × (b ≡ u)). ⊎_elim
            (λ (q : (j ≡ id) × (b ≡ x)). absurd (ne (p.0 ∙ sym q.0)))
            (λ (q : (j ≢ id) × (get_elem? s.views j ≡ opt.some x)). subst (λ (z : SeatView). SeatsApart z x) p.1 (others j x q.0 no_j q.1 lx).0)
            (at_set s.views id j b x k'))
            (λ (p : (i ≢ id) × (get_elem? s.views i ≡ opt.some u)). ⊎_elim
            (λ (q : (j ≡ id) × (b ≡ x)). subst (λ (z : SeatView). SeatsApart u z) q.1 (others i u p.0 no_i p.1 lu).1)
            (λ (q : (j ≢ id) × (get_elem? s.views j ≡ opt.some x)). kept.apart i j u x ne p.1 q.1 lu lx)
            (at_set s.views id j b x k'))
            (at_set s.views id i b u e');
      }

  -- the state at the start
  pub begins : (x : S) → IsValid x → history x ≡ [] → Ruled (opening (0 ∷ []) (Some x ∷ []) first_root)
  begins x fit empty =
      record {
        state = x;
        valid = fit;
        holder = opt.none;
        one_word = refl;
        one_slot = refl;
        even = λ _. refl;
        home = λ _. refl;
        out = λ k e. absurd (some-ne-none k (sym e));
        agree = λ j u e lu. subst (λ l. Agrees l (fault_of x) opt.none j u) (sym empty) (only j u (fault_of x) e);
        apart = λ i j u v ne e f lu lv. absurd (ne (only_zero i u e ∙ sym (only_zero j v f)));
      }
    where
      only_zero : (j : ℕ) (u : SeatView) → get_elem? (first_root ∷ []) j ≡ opt.some u → j ≡ 0
      only_zero zero u e = refl
      only_zero (suc j) u e = absurd (some-ne-none u (sym e))

      only : (j : ℕ) (u : SeatView) (fault : Option TaskFault) → get_elem? (first_root ∷ []) j ≡ opt.some u → Agrees [] fault opt.none j u
      only zero u fault e = subst (Agrees [] fault opt.none 0) (some-injective first_root u e) record {
        front = ([], refl);
        fault = λ h. absurd (no_turn h);
        own = λ _. refl;
        turn = λ t. absurd (no_turn t);
        below = λ _. (tt, tt);
        joined = λ _. tt;
      }
      only (suc j) u fault e = absurd (some-ne-none u (sym e))

  -- what the root knows of the state that comes back at the end
  abbrev pub IsKept : SeatView → S → Type 0
  IsKept v x = IsValid x × IsPrefix v.front (history x) × Each (IsKnownFront (history x) (fault_of x)) v.joined × AllBelow v.number (history x)

  -- once each number is joined, the state is at home
  pub closes : (id : ℕ) (v : SeatView) (s : State (Option S) SeatView) → Ruled s → get_elem? s.views id ≡ opt.some v → IsRoot v → ((n : ℕ) → n < v.number → Contains (joined_numbers v) n)
      → (x : S) × (get_elem? s.homes 0 ≡ opt.some (opt.some (Some x))) × IsKept v x
  closes id v s kept here (live, root, rests) all =
      let f = kept.agree id v here live in
      let free : kept.holder ≡ opt.none = nobody kept.holder (λ k e. let (h, at, hl, ht) = kept.out k e in
      let not_root : k ≢ id = λ is. no_turn (sym rests ∙ ap (λ (z : SeatView). z.turn) (same_view s.views k id h v at here is) ∙ ht) in
      let a = kept.apart id k v h (λ i. not_root (sym i)) here at live hl in
      let b = a.below root in
      not_joined (joined_numbers v) h.number b.1 (all h.number b.0)) in
      (kept.state, kept.home free, (kept.valid, f.front, f.joined root, (f.below root).0))
    where
      nobody : (o : opt.Option ℕ) → ((k : ℕ) → o ≡ opt.some k → ⊥) → o ≡ opt.none
      nobody opt.none f = refl
      nobody (opt.some k) f = absurd (f k refl)

-- what is informed of a fit state is informed of one that fits less
pub takes_weaker : {S : Type 0} (history : S → List Entry) (fault_of : S → Option TaskFault) (P Q : S → Type 0) → ((x : S) → P x → Q x) → (m : Me (Option S) SeatView) (even found : ℕ) (n : Me (Option S) SeatView)
    → TakesTurn history fault_of P m even found n → TakesTurn history fault_of Q m even found n
takes_weaker history fault_of P Q f m even found n = ⊎_elim
    (λ (t : (found ≡ even) × TurnTaken history fault_of P m.0 n). let (hit, (x, is, (fit, front, own, halt))) = t in inl (hit, (x, is, (f x fit, front, own, halt))))
    (λ (t : (found ≢ even) × (n ≡ m)). inr t)

pub takes_as : {S : Type 0} (history : S → List Entry) (fault_of : S → Option TaskFault) (P Q : S → Type 0) → ((x : S) → P x → Q x) → (slots id : ℕ) (me : Me (Option S) SeatView) (v : SeatView) (even : ℕ)
    → me ≡ (v, []) → IsWorker v → even % 2 ≡ 0 → Allows (IsTurnState history fault_of P) slots id me 0 (λ n. either (n == even) (even + 1) n) (TakesTurn history fault_of Q me even)
takes_as {S} history fault_of P Q f slots id me v even is worker is_even =
    subst (λ (m : Me (Option S) SeatView). Allows (IsTurnState history fault_of P) slots id m 0 (λ n. either (n == even) (even + 1) n) (TakesTurn history fault_of Q m even)) (sym is)
    (λ s kept count here wide.
    let (w, a, valid, law, then) = takes_turn history fault_of P slots id v even worker is_even s kept count here wide in
    (w, a, valid, law, takes_weaker history fault_of P Q f (v, []) even (slice_index s.words 0) (w, carried_after [] a) then))

module _ {S : Type 0} (history : S → List Entry) (fault_of : S → Option TaskFault) (IsValid : S → Type 0) where
  -- what comes back at the end
  abbrev pub IsClosed : SeatView → Option S → Type 0
  IsClosed v slot = (x : S) × (slot ≡ Some x) × IsKept history fault_of IsValid v x

  pub comes_back : (id : ℕ) (u v : SeatView) (ws : List ℕ) (xs : List (Option S)) (slot : Option S) → u ≡ v → Final (Seen (IsTurnState history fault_of IsValid) id v) ws xs
      → IsRoot u → ((n : ℕ) → n < u.number → Contains (joined_numbers u) n) → get_elem? xs 0 ≡ opt.some slot → IsClosed u slot
  comes_back id u v ws xs slot same (s, (kept, here), words, count, homes) root all at =
      let (x, at_home, known) = closes history fault_of IsValid id u s kept (here ∙ ap opt.some (sym same)) root all in
      (x, some-injective slot (Some x) (sym at ∙ homes 0 (Some x) at_home), known)

  -- a fact of the state that comes back
  pub back_is : (v : SeatView) (slot : Option S) (x : S) → IsClosed v slot → slot ≡ Some x → IsKept history fault_of IsValid v x
  back_is v slot x (y, is, known) e = subst (IsKept history fault_of IsValid v) (ap (value_or x) (sym is ∙ e)) known

  pub some_back : (v : SeatView) (slot : Option S) → IsClosed v slot → slot ≡ None → ⊥
  some_back v slot (y, is, known) e = no_turn (ap is_none (sym e ∙ is) ∙ refl)

  -- the state that was taken
  pub taken_is : (v : SeatView) (m : Me (Option S) SeatView) (x : S) → TurnTaken history fault_of IsValid v m → ((k : ℕ) × (m.1 ≡ (k, Some x) ∷ [])) → (m.0 ≡ informed v true (history x) (fault_of x)) × Learns history fault_of IsValid v x
  taken_is v m x (y, is, learns) (k, carried) =
      let same : y ≡ x = ap (head_value x) (sym (ap (λ (n : Me (Option S) SeatView). n.1) is) ∙ carried) in
      subst (λ (z : S). (m.0 ≡ informed v true (history z) (fault_of z)) × Learns history fault_of IsValid v z) same (ap (λ (n : Me (Option S) SeatView). n.0) is, learns)
