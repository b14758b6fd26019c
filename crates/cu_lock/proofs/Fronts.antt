-- Beginnings of a history, and the entries of one number in it.
use Rattle.std.proofs.Common.{cond, ◌≡◌, ◌≢◌, ℕ, ◌<◌, ◌==◌, ◌||◌, Bool, true, false, List, [], ◌∷◌, ◌++◌, refl, sym, ap, ◌∙◌, subst, arith, append_assoc, append-nil, ne_eqb}
use Rattle.cu_history.specs.declared.entry.Entry.{Entry}
use Rattle.cu_history.specs.History.{own, has_halt, is_halt}
use Rattle.cu_lock.specs.Rule.{IsPrefix, Each, AllBelow, AllOf}

pub prefix_same : (xs ys : List Entry) → xs ≡ ys → IsPrefix xs ys
prefix_same xs ys e = ([], sym (append-nil xs ∙ e))

pub prefix_longer : (xs ys es : List Entry) → IsPrefix xs ys → IsPrefix xs (ys ++ es)
prefix_longer xs ys es (rest, e) = (rest ++ es, ap (λ l. l ++ es) e ∙ append_assoc xs rest es)

own_cons : (b : Bool) (x : Entry) (xs ys zs : List Entry) → zs ≡ xs ++ ys → cond b (x ∷ zs) zs ≡ cond b (x ∷ xs) xs ++ ys
own_cons true x xs ys zs e = ap (λ l. x ∷ l) e
own_cons false x xs ys zs e = e

pub own-append : (n : ℕ) (xs ys : List Entry) → own n (xs ++ ys) ≡ own n xs ++ own n ys
own-append n [] ys = refl
own-append n (x ∷ xs) ys = own_cons (x.worker == n) x (own n xs) (own n ys) (own n (xs ++ ys)) (own-append n xs ys)

pub own_none : (n : ℕ) (xs : List Entry) → Each (λ e. e.worker ≢ n) xs → own n xs ≡ []
own_none n [] e = refl
own_none n (x ∷ xs) (one, more) = subst (λ b. cond b (x ∷ own n xs) (own n xs) ≡ []) (sym (ne_eqb x.worker n one)) (own_none n xs more)

module _ {X : Type 0} (P : X → Type 0) where
  pub each_map : (Q : X → Type 0) (xs : List X) → ((x : X) → P x → Q x) → Each P xs → Each Q xs
  each_map Q [] f e = tt
  each_map Q (x ∷ xs) f (one, more) = (f x one, each_map Q xs f more)

  pub each-append : (xs ys : List X) → Each P xs → Each P ys → Each P (xs ++ ys)
  each-append [] ys e f = f
  each-append (x ∷ xs) ys (one, more) f = (one, each-append xs ys more f)

  pub each_front : (xs ys : List X) → Each P (xs ++ ys) → Each P xs
  each_front [] ys e = tt
  each_front (x ∷ xs) ys (one, more) = (one, each_front xs ys more)

pub own_others : (n m : ℕ) (es : List Entry) → m ≢ n → AllOf n es → own m es ≡ []
own_others n m es apart of = own_none m es (each_map (λ e. e.worker ≡ n) (λ e. e.worker ≢ m) es (λ e (is : e.worker ≡ n) (was : e.worker ≡ m). apart (sym was ∙ is)) of)

pub own_below : (n : ℕ) (es : List Entry) → AllBelow n es → own n es ≡ []
own_below n es below = own_none n es (each_map (λ e. e.worker < n) (λ e. e.worker ≢ n) es (λ e (low : e.worker < n) (was : e.worker ≡ n). omega arith) below)

halt_cons : (b c d : Bool) → (c ≡ true → d ≡ true) → (b || c) ≡ true → (b || d) ≡ true
halt_cons true c d f e = refl
halt_cons false c d f e = f e

pub halt_stays : (xs ys : List Entry) → has_halt xs ≡ true → has_halt (xs ++ ys) ≡ true
halt_stays [] ys e = absurd (cc)
halt_stays (x ∷ xs) ys e = halt_cons (is_halt x.kind) (has_halt xs) (has_halt (xs ++ ys)) (halt_stays xs ys) e

pub halt_prefix : (xs ys : List Entry) → IsPrefix xs ys → has_halt xs ≡ true → has_halt ys ≡ true
halt_prefix xs ys (rest, is) e = ap has_halt is ∙ halt_stays xs rest e
