-- Late puts of a pass, one more at a time.
use Rattle.std.proofs.Common.{◌≡◌, ℕ, zero, suc, ◌+◌, ◌-◌, ◌<◌, ◌≤◌, Bool, true, false, IsTrue, nat_lt, ◌==◌, if◌then◌else◌, Some, List, [], ◌∷◌, ◌++◌, length, take, get_or, refl, inl, inr, sym, ap, ◌∙◌, subst, arith, append-nil}
use Rattle.std.specs.List.{remove}
use Rattle.cu_cells.specs.Layout.{Laid, cell_size, first_word, flag_count, is_named_cell}
use Rattle.cu_cells.specs.Rule.{Viewed, IsIn, HasStored, both_views}
use Rattle.cu_cells.specs.Late.{behind, cells_waiting, landed_by, with_late, IsPutOff, AreStored}
use Rattle.cu_cells.specs.declared.late.LateCell.{LateCell}

behind_snoc : (l m : LateCell) (n : ℕ) (rest more : List LateCell) → rest ++ more ≡ rest ++ more → behind l n (rest ++ more) ≡ behind l n rest ++ more
behind_snoc l m zero rest more e = refl
behind_snoc l m (suc n) rest more e = refl

pub waiting_snoc : (ls : List LateCell) (l : LateCell) → cells_waiting (ls ++ l ∷ []) ≡ cells_waiting ls ++ behind l l.wait []
waiting_snoc [] l = refl
waiting_snoc (m ∷ ms) l = ap (behind m m.wait) (waiting_snoc ms l) ∙ behind_snoc m l m.wait (cells_waiting ms) (behind l l.wait []) refl

pub behind_some : (l : LateCell) (n : ℕ) → 0 < n → behind l n [] ≡ record { cell = l.cell; wait = n - 1 } ∷ []
behind_some l zero some_ = absurd (omega arith)
behind_some l (suc n) some_ = ap (λ (m : ℕ). record { cell = l.cell; wait = m } ∷ []) (omega arith)

pub behind_none : (l : LateCell) (n : ℕ) (rest : List LateCell) → n ≡ 0 → rest ≡ rest ++ behind l n []
behind_none l zero rest none_ = sym (append-nil rest)
behind_none l (suc n) rest none_ = absurd (omega arith)

pub behind_short : (l : LateCell) (n : ℕ) → length (behind l n []) ≤ 1
behind_short l zero = omega arith
behind_short l (suc n) = omega arith

pub take_within : {X : Type 0} (n : ℕ) (xs : List X) → length xs ≤ n → take n xs ≡ xs
take_within zero [] short = refl
take_within zero (x ∷ xs) short = absurd (omega arith)
take_within (suc n) [] short = refl
take_within (suc n) (x ∷ xs) short = ap (λ ys. x ∷ ys) (take_within n xs (omega arith))

all_behind : (v : Viewed) (l : LateCell) (n : ℕ) (rest : List LateCell) → IsPutOff v l → AreStored v rest → AreStored v (behind l n rest)
all_behind v l zero rest here all = all
all_behind v l (suc n) rest here all = (record { cell = here.cell; stored = here.stored; named = here.named }, all)

-- those that wait on are stored as they were
pub still_stored : (v : Viewed) (ls : List LateCell) → AreStored v ls → AreStored v (cells_waiting ls)
still_stored v [] all = all
still_stored v (l ∷ ls) all = all_behind v l l.wait (cells_waiting ls) all.0 (still_stored v ls all.1)

-- a seat that knows more has them stored too
pub stored_later : (v w : Viewed) (ls : List LateCell) → w.laid ≡ v.laid → ((n : ℕ) → IsIn v.stored n → IsIn w.stored n) → AreStored v ls → AreStored w ls
stored_later v w [] laid more all = all
stored_later v w (l ∷ ls) laid more all =
    let here = all.0 in (
      record {
        cell = subst (λ (x : Laid). l.cell < flag_count x) (sym laid) here.cell;
        stored = subst (λ (x : Laid). (k : ℕ) → k < cell_size x l.cell → IsIn w.stored (first_word x l.cell + k)) (sym laid) (λ k less. more _ (here.stored k less));
        named = subst (λ (x : Laid). IsTrue (is_named_cell x l.cell)) (sym laid) here.named;
      },
      stored_later v w ls laid more all.1,
    )

pub stored_same : (v w : Viewed) (ls : List LateCell) → w.laid ≡ v.laid → w.stored ≡ v.stored → AreStored v ls → AreStored w ls
stored_same v w ls laid stored all = stored_later v w ls laid (λ n had. subst (λ ns. IsIn ns n) (sym stored) had) all

stored_snoc : (v : Viewed) (ls : List LateCell) (l : LateCell) → AreStored v ls → IsPutOff v l → AreStored v (ls ++ l ∷ [])
stored_snoc v [] l all one = (one, tt)
stored_snoc v (m ∷ ms) l all one = (all.0, stored_snoc v ms l all.1 one)

stored_if : (v : Viewed) (b : Bool) (ls : List LateCell) (l : LateCell) → AreStored v ls → IsPutOff v l → AreStored v (if b then ls ++ l ∷ [] else ls)
stored_if v true ls l all one = stored_snoc v ls l all one
stored_if v false ls l all one = all

pub stored_with : (v : Viewed) (ls : List LateCell) (cell wait : ℕ) → AreStored v ls → IsPutOff v (record { cell = cell; wait = wait }) → AreStored v (with_late ls (Some wait) cell)
stored_with v ls cell wait all one = stored_if v (nat_lt (length ls) 8) ls (record { cell = cell; wait = wait }) all one

pub landed_snoc : (ls : List LateCell) (l : LateCell) (xs : List ℕ) → landed_by (ls ++ l ∷ []) xs ≡ (if l.wait == 0 then l.cell ∷ landed_by ls xs else landed_by ls xs)
landed_snoc [] l xs = refl
landed_snoc (m ∷ ms) l xs = landed_snoc ms l (if m.wait == 0 then m.cell ∷ xs else xs)

pub stored_at : (v : Viewed) (ls : List LateCell) (i : ℕ) (d : LateCell) → AreStored v ls → i < length ls → IsPutOff v (get_or ls i d)
stored_at v [] i d all less = absurd (omega arith)
stored_at v (m ∷ ms) zero d all less = all.0
stored_at v (m ∷ ms) (suc i) d all less = stored_at v ms i d all.1 (omega arith)

pub stored_there : (v w : Viewed) (ls : List LateCell) (i : ℕ) (d : LateCell) → w.laid ≡ v.laid → w.stored ≡ v.stored → AreStored v ls → i < length ls → IsPutOff w (get_or ls i d)
stored_there v w ls i d laid stored all less = stored_at w ls i d (stored_same v w ls laid stored all) less

pub put_off_here : (v : Viewed) (l : Laid) (cell wait : ℕ) → v.laid ≡ l → cell < flag_count l → HasStored v cell → IsTrue (is_named_cell l cell) → IsPutOff v (record { cell = cell; wait = wait })
put_off_here v l cell wait laid less stored named = record {
  cell = subst (λ (x : Laid). cell < flag_count x) (sym laid) less;
  stored = stored;
  named = subst (λ (x : Laid). IsTrue (is_named_cell x cell)) (sym laid) named;
}

in_left : (xs ys : List ℕ) (n : ℕ) → IsIn xs n → IsIn (xs ++ ys) n
in_left [] ys n had = absurd had
in_left (x ∷ xs) ys n (inl is) = inl is
in_left (x ∷ xs) ys n (inr had) = inr (in_left xs ys n had)

pub stored_joined : (v w : Viewed) (ls : List LateCell) → AreStored v ls → AreStored (both_views v w) ls
stored_joined v w ls all = stored_later v (both_views v w) ls refl (in_left v.stored w.stored) all

-- the first of those that are late, where one is
pub first_off : (v : Viewed) (ls : List LateCell) (l : LateCell) → AreStored v ls → 0 < length ls → l ≡ get_or ls 0 l → IsPutOff v l
first_off v ls l all some_ is = subst (IsPutOff v) (sym is) (stored_at v ls 0 l all some_)

pub first_taken : (ls : List LateCell) (l : LateCell) (rest : List LateCell) → 0 < length ls → l ≡ get_or ls 0 l → rest ≡ remove ls 0 → ls ≡ l ∷ rest
first_taken [] l rest some_ is others = absurd (omega arith)
first_taken (m ∷ ms) l rest some_ is others = (λ k. sym is k ∷ sym others k)
