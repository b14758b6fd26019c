-- Each kind of step keeps the rule of the cells.
use Rattle.std.proofs.Common.{◌≡◌, ◌≢◌, ◌⊎◌, ℕ, ◌+◌, ◌<◌, ◌≤◌, IsTrue, true, false, List, [], ◌∷◌, ◌++◌, length, get_or, set, length-set, get_or-set_same, get_or-set_other, refl, sym, ◌∙◌, ap, subst, inl, inr, ⊎_elim, arith, zero, suc, replicate}
use Rattle.std.proofs.lemmas.List.{length-replicate}
use mathlib.Core.Option.{some, some-injective}
use mathlib.Core.Logic.{dite}
use native.Mathlib.Decide.{ℕ_discrete}
use lib.ListN.{get_elem?}
use Rattle.atomic_table.specs.Table.{State, Me, Step, step, keeps, opening, Allows, Splits, Joins}
use Rattle.atomic_table.proofs.Lists.{at_set, at_snoc}
use Rattle.cu_cells.specs.Layout.{Laid, flag_count, first_word, cell_size, value_at, word_total, is_named_cell}
use Rattle.cu_cells.specs.Rule.{IsIn, Viewed, IsWhole, IsThere, Knows, KeepsPromise, opening_view, spent_view, both_views, HasStored, StoresWord, SeesCell, LandsCell, LooksAt, ReadsWord}

-- from one moment to another flags stay set, and promised words stay
record Grows (l : Laid) (a b : List ℕ) : Type 0 where
  pub size : length b ≡ length a
  pub flags : (c : ℕ) → c < flag_count l → get_or a c 0 ≢ 0 → get_or b c 0 ≢ 0
  pub stay : (w : ℕ) → flag_count l ≤ w → get_or a w 0 ≡ value_at l w → get_or b w 0 ≡ value_at l w

whole_later : (l : Laid) (a b : List ℕ) (c : ℕ) → Grows l a b → IsWhole l a c → IsWhole l b c
whole_later l a b c grows whole = λ k within. grows.stay (first_word l c + k) (omega arith) (whole k within)

there_later : (l : Laid) (a b : List ℕ) (c : ℕ) → Grows l a b → IsThere l a c → IsThere l b c
there_later l a b c grows there = (whole_later l a b c grows there.0, there.1)

-- a seat that knows a stored word knows that it is a data word: the rule says it of each
knows_later : (l : Laid) (a b : List ℕ) (v : Viewed) → Grows l a b → Knows l a v → Knows l b v
knows_later l a b v grows knows = record {
  laid = knows.laid;
  seen = λ c had. ((knows.seen c had).0, grows.flags c (knows.seen c had).0 (knows.seen c had).1);
  landed = λ c had. ((knows.landed c had).0, grows.flags c (knows.landed c had).0 (knows.landed c had).1);
  stored = λ w had. let was = knows.stored w had in (was.0, grows.stay w was.0 was.1);
}

-- a word after a store
word_after : (ws : List ℕ) (i j n : ℕ) (F : ℕ → Type 0) → i < length ws → (j ≡ i → F n) → (j ≢ i → F (get_or ws j 0)) → F (get_or (set ws i n) j 0)
word_after ws i j n F within here else =
    dite (ℕ_discrete j i)
    (λ e. subst F (sym (ap (λ (x : ℕ). get_or (set ws i n) x 0) e ∙ get_or-set_same ws i n 0 within)) (here e))
    (λ ne. subst F (sym (get_or-set_other ws i j n 0 ne)) (else ne))

-- the promised value is stored in a data word
stores_grows : (l : Laid) (ws : List ℕ) (w : ℕ) → flag_count l ≤ w → w < length ws → Grows l ws (set ws w (value_at l w))
stores_grows l ws w is_data within = record {
  size = length-set ws w (value_at l w);
  flags = λ c flag was. word_after ws w c (value_at l w) (λ n. n ≢ 0) within (λ e. absurd (omega arith)) (λ _. was);
  stay = λ v data_ was. word_after ws w v (value_at l w) (λ n. n ≡ value_at l v) within (λ e. ap (value_at l) (sym e)) (λ _. was);
}

-- a flag is set
sets_grows : (l : Laid) (ws : List ℕ) (c : ℕ) → c < flag_count l → c < length ws → Grows l ws (set ws c 1)
sets_grows l ws c flag within = record {
  size = length-set ws c 1;
  flags = λ d is_flag was. word_after ws c d 1 (λ n. n ≢ 0) within (λ _ zero_. absurd (omega arith)) (λ _. was);
  stay = λ v data_ was. word_after ws c v 1 (λ n. n ≡ value_at l v) within (λ e. absurd (omega arith)) (λ _. was);
}

-- a word is loaded
loads_grows : (l : Laid) (ws : List ℕ) (i : ℕ) → i < length ws → Grows l ws (set ws i (get_or ws i 0))
loads_grows l ws i within = record {
  size = length-set ws i (get_or ws i 0);
  flags = λ d is_flag was. word_after ws i d (get_or ws i 0) (λ n. n ≢ 0) within (λ e. subst (λ (x : ℕ). get_or ws x 0 ≢ 0) e was) (λ _. was);
  stay = λ v data_ was. word_after ws i v (get_or ws i 0) (λ n. n ≡ value_at l v) within (λ e. subst (λ (x : ℕ). get_or ws x 0 ≡ value_at l v) e was) (λ _. was);
}

in_either : (xs ys : List ℕ) (n : ℕ) → IsIn (xs ++ ys) n → IsIn xs n ⊎ IsIn ys n
in_either [] ys n h = inr h
in_either (x ∷ xs) ys n (inl e) = inl (inl e)
in_either (x ∷ xs) ys n (inr h) = ⊎_elim (λ a. inl (inr a)) (λ b. inr b) (in_either xs ys n h)

both_known : (l : Laid) (ws : List ℕ) (a b : Viewed) → Knows l ws a → Knows l ws b → Knows l ws (both_views a b)
both_known l ws a b one two = record {
  laid = one.laid;
  seen = λ c had. ⊎_elim (one.seen c) (two.seen c) (in_either a.seen b.seen c had);
  landed = λ c had. ⊎_elim (one.landed c) (two.landed c) (in_either a.landed b.landed c had);
  stored = λ w had. ⊎_elim (one.stored w) (two.stored w) (in_either a.stored b.stored w had);
}

spent_is : (u : Viewed) → spent_view ≡ u → u.live ≡ true → ⊥
spent_is u e live = let h : false ≡ true = ap (λ (x : Viewed). x.live) e ∙ live in cc

zero_at : (n w : ℕ) → get_or {A = ℕ} (replicate n 0) w 0 ≡ 0
zero_at zero w = refl
zero_at (suc n) zero = refl
zero_at (suc n) (suc w) = zero_at n w

first_knows : (l : Laid) (ws : List ℕ) (id : ℕ) (v : Viewed) → get_elem? (opening_view l ∷ []) id ≡ some v → Knows l ws v
first_knows l ws id v there = ⊎_elim
    (λ (none_ : get_elem? [] id ≡ some v). cc)
    (λ (is : opening_view l ≡ v). subst (λ (x : Viewed). Knows l ws x) is (record { laid = refl; seen = λ c had. absurd had; landed = λ c had. absurd had; stored = λ w had. absurd had }))
    (at_snoc [] (opening_view l) v id there)

module _ {S : Type 0} where
  -- A step keeps the rule where it lets the words grow, stores in data words nothing but promised values, sets no flag but of a whole
  -- cell, and where what the seat knows afterwards is so.
  kept_after : (l : Laid) (s : State S Viewed) (ws : List ℕ) (id : ℕ) (v w : Viewed) → KeepsPromise l s → Grows l s.words ws
      → ((i : ℕ) → flag_count l ≤ i → (get_or ws i 0 ≡ 0) ⊎ (get_or ws i 0 ≡ value_at l i))
      → ((c : ℕ) → c < flag_count l → get_or ws c 0 ≢ 0 → IsThere l ws c)
      → (w.live ≡ true → Knows l ws w)
      → KeepsPromise l (record { words = ws; homes = s.homes; views = set s.views id w })
  kept_after l s ws id v w kept grows data_ whole known = record {
    size = grows.size ∙ kept.size;
    words = data_;
    flags = whole;
    views = λ other u there live. ⊎_elim
        (λ mine. subst (λ (x : Viewed). Knows l ws x) mine.1 (known (ap (λ (x : Viewed). x.live) mine.1 ∙ live)))
        (λ others. knows_later l s.words ws u grows (kept.views other u others.1 live))
        (at_set s.views id other w u there);
  }

  -- ---- a data word is stored with its promised value

  pub stores : (l : Laid) (slots id w : ℕ) (v : Viewed) (cs : List (ℕ × S)) → v.live ≡ true → flag_count l ≤ w → w < word_total l
      → Allows (KeepsPromise {S = S} l) slots id (v, cs) w (λ _. value_at l w) (λ _. StoresWord (step slots w (value_at l w) 0 mathlib.Core.Option.none) (v, cs) (value_at l w))
  stores l slots id w v cs live is_data within s kept sized there small =
      let inside : w < length s.words = omega (arith, kept.size) in
      let grows = stores_grows l s.words w is_data inside in
      let knows = kept.views id v there live in
      let after : Viewed = record { live = v.live; laid = v.laid; seen = v.seen; landed = v.landed; stored = w ∷ v.stored } in
      let later = knows_later l s.words (set s.words w (value_at l w)) v grows knows in
      let own : get_or (set s.words w (value_at l w)) w 0 ≡ value_at l w = get_or-set_same s.words w (value_at l w) 0 inside in (
        after,
        keeps,
        tt,
        kept_after l s (set s.words w (value_at l w)) id v after kept grows
            (λ i data_. word_after s.words w i (value_at l w) (λ n. (n ≡ 0) ⊎ (n ≡ value_at l i)) inside (λ e. inr (ap (value_at l) (sym e))) (λ _. kept.words i data_))
            (λ c flag set_. there_later l s.words (set s.words w (value_at l w)) c grows
            (kept.flags c flag (word_after s.words w c (value_at l w) (λ n. n ≢ 0 → get_or s.words c 0 ≢ 0) inside (λ e. absurd (omega arith)) (λ _ same. same) set_)))
            (λ _. record {
              laid = later.laid;
              seen = later.seen;
              landed = later.landed;
              stored = λ i had. ⊎_elim (λ e. (subst (λ (x : ℕ). flag_count l ≤ x) (sym e) is_data, subst (λ (x : ℕ). get_or (set s.words w (value_at l w)) x 0 ≡ value_at l x) (sym e) own)) (λ old. later.stored i old) had;
            }),
        refl,
      )

  -- ---- the flag of a cell is set whose words the seat has stored

  -- the flag keeps the rule, whatever the seat knows of it
  flag_kept : (l : Laid) (s : State S Viewed) (c id : ℕ) (v w : Viewed) → c < flag_count l → c < length s.words → HasStored v c → IsTrue (is_named_cell l c) → KeepsPromise l s → Knows l s.words v
      → (w.live ≡ true → Knows l (set s.words c 1) w) → KeepsPromise l (record { words = set s.words c 1; homes = s.homes; views = set s.views id w })
  flag_kept l s c id v w flag inside all named kept knows known =
      let grows = sets_grows l s.words c flag inside in
      let mine : (k : ℕ) → k < cell_size l c → IsIn v.stored (first_word l c + k) = subst (λ (x : Laid). (k : ℕ) → k < cell_size x c → IsIn v.stored (first_word x c + k)) knows.laid all in
      let there : IsThere l s.words c = ((λ k less. (knows.stored (first_word l c + k) (mine k less)).1), named) in
      kept_after l s (set s.words c 1) id v w kept grows
      (λ i data_. word_after s.words c i 1 (λ n. (n ≡ 0) ⊎ (n ≡ value_at l i)) inside (λ e. absurd (omega arith)) (λ _. kept.words i data_))
      (λ d is_flag set_. dite (ℕ_discrete d c)
      (λ e. subst (λ (x : ℕ). IsThere l (set s.words c 1) x) (sym e) (there_later l s.words (set s.words c 1) c grows there))
      (λ ne. there_later l s.words (set s.words c 1) d grows
      (kept.flags d is_flag (word_after s.words c d 1 (λ n. n ≢ 0 → get_or s.words d 0 ≢ 0) inside (λ e. absurd (ne e)) (λ _ same. same) set_))))
      known

  pub sets_flag : (l : Laid) (slots id c : ℕ) (v : Viewed) (cs : List (ℕ × S)) → v.live ≡ true → c < flag_count l → HasStored v c → IsTrue (is_named_cell l c)
      → Allows (KeepsPromise {S = S} l) slots id (v, cs) c (λ _. 1) (λ _. SeesCell (step slots c 1 0 mathlib.Core.Option.none) (v, cs) 1)
  sets_flag l slots id c v cs live flag all named s kept sized there small =
      let inside : c < length s.words = omega (arith, kept.size) in
      let knows = kept.views id v there live in
      let after : Viewed = record { live = v.live; laid = v.laid; seen = c ∷ v.seen; landed = v.landed; stored = v.stored } in
      let later = knows_later l s.words (set s.words c 1) v (sets_grows l s.words c flag inside) knows in
      let set_now : get_or (set s.words c 1) c 0 ≡ 1 = get_or-set_same s.words c 1 0 inside in (
        after,
        keeps,
        tt,
        flag_kept l s c id v after flag inside all named kept knows (λ _. record {
          laid = later.laid;
          seen = λ d had. ⊎_elim (λ e. (subst (λ (x : ℕ). x < flag_count l) (sym e) flag, subst (λ (x : ℕ). get_or (set s.words c 1) x 0 ≢ 0) (sym e) (λ zero_. absurd (omega (arith, set_now))))) (λ old. later.seen d old) had;
          landed = later.landed;
          stored = later.stored;
        }),
        refl,
      )

  -- the same, of a failed put that lands
  pub lands_flag : (l : Laid) (slots id c : ℕ) (v : Viewed) (cs : List (ℕ × S)) → v.live ≡ true → c < flag_count l → HasStored v c → IsTrue (is_named_cell l c)
      → Allows (KeepsPromise {S = S} l) slots id (v, cs) c (λ _. 1) (λ _. LandsCell (step slots c 1 0 mathlib.Core.Option.none) (v, cs) 1)
  lands_flag l slots id c v cs live flag all named s kept sized there small =
      let inside : c < length s.words = omega (arith, kept.size) in
      let knows = kept.views id v there live in
      let after : Viewed = record { live = v.live; laid = v.laid; seen = v.seen; landed = c ∷ v.landed; stored = v.stored } in
      let later = knows_later l s.words (set s.words c 1) v (sets_grows l s.words c flag inside) knows in
      let set_now : get_or (set s.words c 1) c 0 ≡ 1 = get_or-set_same s.words c 1 0 inside in (
        after,
        keeps,
        tt,
        flag_kept l s c id v after flag inside all named kept knows (λ _. record {
          laid = later.laid;
          seen = later.seen;
          landed = λ d had. ⊎_elim (λ e. (subst (λ (x : ℕ). x < flag_count l) (sym e) flag, subst (λ (x : ℕ). get_or (set s.words c 1) x 0 ≢ 0) (sym e) (λ zero_. absurd (omega (arith, set_now))))) (λ old. later.landed d old) had;
          stored = later.stored;
        }),
        refl,
      )

  -- ---- loads

  -- a load keeps the rule, whatever new is known
  loaded : (l : Laid) (s : State S Viewed) (i id : ℕ) (v w : Viewed) → i < length s.words → KeepsPromise l s → (w.live ≡ true → Knows l (set s.words i (get_or s.words i 0)) w)
      → KeepsPromise l (record { words = set s.words i (get_or s.words i 0); homes = s.homes; views = set s.views id w })
  loaded l s i id v w inside kept known =
      let n = get_or s.words i 0 in
      let grows = loads_grows l s.words i inside in
      kept_after l s (set s.words i n) id v w kept grows
      (λ j data_. word_after s.words i j n (λ x. (x ≡ 0) ⊎ (x ≡ value_at l j)) inside (λ e. subst (λ (x : ℕ). (get_or s.words x 0 ≡ 0) ⊎ (get_or s.words x 0 ≡ value_at l j)) e (kept.words j data_)) (λ _. kept.words j data_))
      (λ c flag set_. there_later l s.words (set s.words i n) c grows
      (kept.flags c flag (word_after s.words i c n (λ x. x ≢ 0 → get_or s.words c 0 ≢ 0) inside (λ e same. subst (λ (x : ℕ). get_or s.words x 0 ≢ 0) (sym e) same) (λ _ same. same) set_)))
      known

  pub looks : (l : Laid) (slots id c : ℕ) (v : Viewed) (cs : List (ℕ × S)) → v.live ≡ true → v.laid ≡ l → c < flag_count l
      → Allows (KeepsPromise {S = S} l) slots id (v, cs) c (λ n. n) (LooksAt (step slots c 0 0 mathlib.Core.Option.none) (v, cs))
  looks l slots id c v cs live laid flag s kept sized there small =
      let inside : c < length s.words = omega (arith, kept.size) in
      let n = get_or s.words c 0 in
      let grows = loads_grows l s.words c inside in
      let knows = kept.views id v there live in
      let later = knows_later l s.words (set s.words c n) v grows knows in
      let tells : IsIn v.seen c → n ≢ 0 = λ had. (knows.seen c had).1 in
      let lands : IsIn v.landed c → n ≢ 0 = λ had. (knows.landed c had).1 in
      dite (ℕ_discrete n 0)
      (λ none_. (v, keeps, tt, loaded l s c id v v inside kept (λ _. later), ((λ _. refl), (λ ne. absurd (ne none_)), tells, lands)))
      (λ some_.
      let after : Viewed = record { live = v.live; laid = v.laid; seen = c ∷ v.seen; landed = v.landed; stored = v.stored } in
      let named : IsTrue (is_named_cell v.laid c) = subst (λ (x : Laid). IsTrue (is_named_cell x c)) (sym laid) (kept.flags c flag some_).1 in (
        after,
        keeps,
        tt,
        loaded l s c id v after inside kept (λ _. record {
          laid = later.laid;
          seen = λ d had. ⊎_elim (λ e. (subst (λ (x : ℕ). x < flag_count l) (sym e) flag, subst (λ (x : ℕ). get_or (set s.words c n) x 0 ≢ 0) (sym e) (grows.flags c flag some_))) (λ old. later.seen d old) had;
          landed = later.landed;
          stored = later.stored;
        }),
        ((λ none_. absurd (some_ none_)), (λ _. (refl, named)), tells, lands),
      ))

  pub reads : (l : Laid) (slots id w : ℕ) (v : Viewed) (cs : List (ℕ × S)) → v.live ≡ true → w < word_total l
      → Allows (KeepsPromise {S = S} l) slots id (v, cs) w (λ n. n) (ReadsWord (step slots w 0 0 mathlib.Core.Option.none) (v, cs))
  reads l slots id w v cs live within s kept sized there small =
      let inside : w < length s.words = omega (arith, kept.size) in
      let n = get_or s.words w 0 in
      let grows = loads_grows l s.words w inside in
      let knows = kept.views id v there live in
      let later = knows_later l s.words (set s.words w n) v grows knows in (
        v,
        keeps,
        tt,
        loaded l s w id v v inside kept (λ _. later),
        (
          refl,
          (λ c k seen less is. subst (λ (x : Laid). get_or s.words w 0 ≡ value_at x w) (sym knows.laid)
              (subst (λ (x : ℕ). get_or s.words x 0 ≡ value_at l x) (sym (is ∙ ap (λ (x : Laid). first_word x c + k) knows.laid))
              ((kept.flags c (knows.seen c seen).0 (knows.seen c seen).1).0 k (subst (λ (x : Laid). k < cell_size x c) knows.laid less)))),
          (λ had. subst (λ (x : Laid). get_or s.words w 0 ≡ value_at x w) (sym knows.laid) (knows.stored w had).1),
        ),
      )

  -- ---- seats are split and joined

  pub splits : (l : Laid) (id : ℕ) (v : Viewed) → Splits (KeepsPromise {S = S} l) id v v v
  splits l id v s kept there = record {
    size = kept.size;
    words = kept.words;
    flags = kept.flags;
    views = λ other u is live. ⊎_elim
        (λ (old : get_elem? (set s.views id v) other ≡ some u). ⊎_elim
        (λ mine. subst (λ (x : Viewed). Knows l s.words x) mine.1 (kept.views id v there (ap (λ (x : Viewed). x.live) mine.1 ∙ live)))
        (λ others. kept.views other u others.1 live)
        (at_set s.views id other v u old))
        (λ (new : v ≡ u). subst (λ (x : Viewed). Knows l s.words x) new (kept.views id v there (ap (λ (x : Viewed). x.live) new ∙ live)))
        (at_snoc (set s.views id v) v u other is);
  }

  pub joins : (l : Laid) (id other : ℕ) (v w : Viewed) → v.live ≡ true → w.live ≡ true → Joins (KeepsPromise {S = S} l) id v other w (both_views v w) spent_view
  joins l id other v w live too s kept there apart theirs =
      let there_too : get_elem? s.views other ≡ some w = ⊎_elim (λ e. absurd (apart e.0)) (λ r. r.1) (at_set s.views id other (both_views v w) w theirs) in
      let both = both_known l s.words v w (kept.views id v there live) (kept.views other w there_too too) in
      record {
        size = kept.size;
        words = kept.words;
        flags = kept.flags;
        views = λ any u is alive. ⊎_elim
            (λ spent. absurd (spent_is u spent.1 alive))
            (λ rest. ⊎_elim
            (λ mine. subst (λ (x : Viewed). Knows l s.words x) mine.1 both)
            (λ others. kept.views any u others.1 alive)
            (at_set s.views id any (both_views v w) u rest.1))
            (at_set (set s.views id (both_views v w)) other any spent_view u is);
      }

  -- what a look at a flag leaves as it was
  pub looked : (st : Step S) (m w : Me S Viewed) (n : ℕ) → LooksAt st m n w → (w.1 ≡ m.1) × (w.0.live ≡ m.0.live) × (w.0.laid ≡ m.0.laid) × (w.0.stored ≡ m.0.stored) × (w.0.landed ≡ m.0.landed)
  looked st m w n told =
      dite (ℕ_discrete n 0)
      (λ none_. let e = told.0 none_ in (ap (λ (x : Me S Viewed). x.1) e, ap (λ (x : Me S Viewed). x.0.live) e, ap (λ (x : Me S Viewed). x.0.laid) e, ap (λ (x : Me S Viewed). x.0.stored) e, ap (λ (x : Me S Viewed). x.0.landed) e))
      (λ some_. let e = (told.1 some_).0 in (ap (λ (x : Me S Viewed). x.1) e, ap (λ (x : Me S Viewed). x.0.live) e, ap (λ (x : Me S Viewed). x.0.laid) e, ap (λ (x : Me S Viewed). x.0.stored) e, ap (λ (x : Me S Viewed). x.0.landed) e))

  -- a table of zeros keeps the rule
  pub starts_kept : (l : Laid) (ws : List ℕ) → ws ≡ replicate {A = ℕ} (word_total l) 0 → KeepsPromise l (opening {S = S} ws [] (opening_view l))
  starts_kept l ws is =
      let none_ : (w : ℕ) → get_or ws w 0 ≡ 0 = λ w. ap (λ (xs : List ℕ). get_or xs w 0) is ∙ zero_at (word_total l) w in
      record {
        size = ap length is ∙ length-replicate (word_total l) 0;
        words = λ w data_. inl (none_ w);
        flags = λ c flag ne. absurd (ne (none_ c));
        views = λ id v there live. first_knows l ws id v there;
      }
