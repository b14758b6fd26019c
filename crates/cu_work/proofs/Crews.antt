-- A crew, worker by worker.
use Rattle.std.proofs.Common.{◌≡◌, ◌||◌, Bool, true, false, ℕ, zero, suc, ◌+◌, ◌<◌, ◌≤◌, List, [], ◌∷◌, ◌++◌, map, length, length-append, refl, sym, ap, ◌∙◌, subst, arith}
use Rattle.std.proofs.lemmas.List.{length-map}
use Rattle.std.proofs.lemmas.List.Sums.{sum_by-cons}
use Rattle.std.specs.Prelude.{Contains, slice_index_or, min, sum_by}
use Rattle.cu_store.specs.Faults.{last_count}
use Rattle.std.specs.List.{list_any}
use Rattle.cu_store.specs.Yard.{Known, IsJoined}
use Rattle.atomic_table.specs.Seated.{TableId}
use Rattle.cu_lock.specs.Rule.{Each}
use Rattle.cu_lock.specs.declared.view.KnownFront.{KnownFront}
use Rattle.cu_op.specs.PlanView.{PlanView}
use Rattle.cu_work.specs.Workers.{AreWorkersOf, AreNumbered, HasCounted, HaveCounted, IsWorkerOf, TookIn, front_of}
use Rattle.cu_work.specs.declared.worker.Worker.{Worker}

module _ {X : Type 0} where
  -- the element at a place, and the same in a map
  pub at_place : {Z : Type 0} (f : X → Z) (xs : List X) (n : ℕ) (z : Z) → n < length xs → (x : X) × ((d : X) → slice_index_or xs n d ≡ x) × (slice_index_or (map f xs) n z ≡ f x)
  at_place f [] n z low = absurd (omega arith)
  at_place f (x ∷ xs) zero z low = (x, (λ d. refl), refl)
  at_place f (x ∷ xs) (suc n) z low = at_place f xs n z (omega arith)

  pub each_at : (P : X → Type 0) (xs : List X) (n : ℕ) (d : X) → n < length xs → Each P xs → P (slice_index_or xs n d)
  each_at P [] n d low e = absurd (omega arith)
  each_at P (x ∷ xs) zero d low (one, more) = one
  each_at P (x ∷ xs) (suc n) d low (one, more) = each_at P xs n d (omega arith) more

  pub each_mapped : {Z : Type 0} (P : Z → Type 0) (f : X → Z) (xs : List X) (n : ℕ) (d : X) → n < length xs → Each P (map f xs) → P (f (slice_index_or xs n d))
  each_mapped P f [] n d low e = absurd (omega arith)
  each_mapped P f (x ∷ xs) zero d low (one, more) = one
  each_mapped P f (x ∷ xs) (suc n) d low (one, more) = each_mapped P f xs n d (omega arith) more

  pub at_snoc_or : (P : ℕ → X → Type 0) (xs : List X) (x : X) (base : ℕ) → ((i : ℕ) (d : X) → i < length xs → P (base + i) (slice_index_or xs i d)) → P (base + length xs) x
      → (i : ℕ) (d : X) → i < length (xs ++ x ∷ []) → P (base + i) (slice_index_or (xs ++ x ∷ []) i d)
  at_snoc_or P [] x base f p zero d low = p
  at_snoc_or P [] x base f p (suc i) d low = absurd (omega arith)
  at_snoc_or P (y ∷ ys) x base f p zero d low = f zero d (omega arith)
  at_snoc_or P (y ∷ ys) x base f p (suc i) d low =
      subst (λ (k : ℕ). P k (slice_index_or (ys ++ x ∷ []) i d)) (omega arith)
      (at_snoc_or P ys x (suc base) (λ j e l. subst (λ (k : ℕ). P k (slice_index_or ys j e)) (omega arith) (f (suc j) e (omega arith))) (subst (λ (k : ℕ). P k x) (omega arith) p) i d (omega arith))

  pub snoc_at : (P : ℕ → X → Type 0) (xs : List X) (x : X) → ((i : ℕ) (d : X) → i < length xs → P i (slice_index_or xs i d)) → P (length xs) x
      → (i : ℕ) (d : X) → i < length (xs ++ x ∷ []) → P i (slice_index_or (xs ++ x ∷ []) i d)
  snoc_at P xs x all one i d low =
      subst (λ (k : ℕ). P k (slice_index_or (xs ++ x ∷ []) i d)) (omega arith)
      (at_snoc_or P xs x 0 (λ j e l. subst (λ (k : ℕ). P k (slice_index_or xs j e)) (omega arith) (all j e l)) (subst (λ (k : ℕ). P k x) (omega arith) one) i d low)

  -- the element behind some others
  at_middle : (xs : List X) (x : X) (rest : List X) (d : X) → slice_index_or (xs ++ x ∷ rest) (length xs) d ≡ x
  at_middle [] x rest d = refl
  at_middle (y ∷ ys) x rest d = at_middle ys x rest d

module _ {Y P : Type 0} (owns : Y → P → Type 0) (yard : Y) (board : TableId) where
  -- a worker of a crew, by the workers before it
  pub worker_behind : (ws rest : List (Worker Y P)) (w : Worker Y P) → AreWorkersOf owns yard board (ws ++ w ∷ rest) → IsWorkerOf owns yard board (length ws) w.seat w.pass
  worker_behind ws rest w crew = subst (λ (v : Worker Y P). IsWorkerOf owns yard board (length ws) v.seat v.pass) (at_middle ws w rest w) (crew (length ws) w (let l = length-append ws (w ∷ rest) in omega (arith, l)))

  numbers_joined : (ws : List (Worker Y P)) → map (λ (k : KnownFront). k.number) (map (λ (w : Worker Y P). front_of w.seat) ws) ≡ map (λ (w : Worker Y P). w.seat.view.number) ws
  numbers_joined [] = refl
  numbers_joined (w ∷ ws) = ap (λ l. w.seat.view.number ∷ l) (numbers_joined ws)

  -- each number below that of a crew's workers is one of theirs
  pub has_numbers : (ws : List (Worker Y P)) → AreWorkersOf owns yard board ws → (n : ℕ) → n < length ws
      → Contains (map (λ (k : KnownFront). k.number) (map (λ (w : Worker Y P). front_of w.seat) ws)) n
  has_numbers ws crew n low =
      let (w, at, mapped) = at_place (λ (w : Worker Y P). w.seat.view.number) ws n n low in
      subst (λ (ns : List ℕ). Contains ns n) (sym (numbers_joined ws))
      (n, subst (λ (k : ℕ). n < k) (sym (length-map ws (λ (w : Worker Y P). w.seat.view.number))) low, mapped ∙ (subst (λ (v : Worker Y P). v.seat.view.number ≡ n) (at w) (crew n w low).number_is))

  pub crew_snoc : (ws : List (Worker Y P)) (w : Worker Y P) → AreWorkersOf owns yard board ws → IsWorkerOf owns yard board (length ws) w.seat w.pass → AreWorkersOf owns yard board (ws ++ w ∷ [])
  crew_snoc ws w crew one = snoc_at (λ i (v : Worker Y P). IsWorkerOf owns yard board i v.seat v.pass) ws w crew one

pub numbered_snoc : {Y P : Type 0} (ws : List (Worker Y P)) (w : Worker Y P) → AreNumbered ws → w.number ≡ length ws → AreNumbered (ws ++ w ∷ [])
numbered_snoc {Y} {P} ws w numbers one = snoc_at (λ i (v : Worker Y P). v.number ≡ i) ws w numbers one

pub counted_snoc : {Y P : Type 0} (knows : P → Known) (p : PlanView) (ws : List (Worker Y P)) (w : Worker Y P) → HaveCounted knows p ws → HasCounted p w.seat.view (knows w.pass)
    → HaveCounted knows p (ws ++ w ∷ [])
counted_snoc {Y} {P} knows p ws w counted one = snoc_at (λ i (v : Worker Y P). HasCounted p v.seat.view (knows v.pass)) ws w counted one

-- ---- the passes of a crew

or_none : (b : Bool) → b ≡ (b || false)
or_none true = refl
or_none false = refl

or_more : (a b c : Bool) → ((a || b) || c) ≡ (a || (c || b))
or_more true b c = refl
or_more false true true = refl
or_more false true false = refl
or_more false false c = or_none c

pub took_none : (k : Known) → TookIn [] k k
took_none k = record {
  yard = record { promise = refl; entries = refl; lacks = refl };
  seen = λ key. or_none (k.seen key);
  faults = omega arith;
  calls = omega arith;
  few = omega arith;
}

counts_more : (o s m f n l : ℕ) → n ≡ min (m + f) l → min m l ≡ min (o + s) l → min n l ≡ min (o + (f + s)) l
counts_more o s m f n l a b = omega (arith, a, b)

few_more : (o s m f n l : ℕ) → n ≡ min (m + f) l → m ≤ o + s → n ≤ o + (f + s)
few_more o s m f n l a b = omega (arith, a, b)

-- one pass more
pub took_one : (ks : List Known) (old mid k new : Known) → TookIn ks old mid → IsJoined mid k new → TookIn (k ∷ ks) old new
took_one ks old mid k new took j = record {
  yard = record { promise = j.yard.promise ∙ took.yard.promise; entries = j.yard.entries ∙ took.yard.entries; lacks = j.yard.lacks ∙ took.yard.lacks };
  seen = λ key. j.seen key ∙ ap (λ (b : Bool). b || k.seen key) (took.seen key) ∙ or_more (old.seen key) (list_any (λ (x : Known). x.seen key) ks) (k.seen key);
  faults = subst (λ (t : ℕ). min new.faults last_count ≡ min (old.faults + t) last_count) (sym (sum_by-cons (λ (x : Known). x.faults) k ks))
      (counts_more old.faults (sum_by (λ (x : Known). x.faults) ks) mid.faults k.faults new.faults last_count j.faults took.faults);
  calls = subst (λ (t : ℕ). min new.calls last_count ≡ min (old.calls + t) last_count) (sym (sum_by-cons (λ (x : Known). x.calls) k ks))
      (counts_more old.calls (sum_by (λ (x : Known). x.calls) ks) mid.calls k.calls new.calls last_count j.calls took.calls);
  few = subst (λ (t : ℕ). new.calls ≤ old.calls + t) (sym (sum_by-cons (λ (x : Known). x.calls) k ks))
      (few_more old.calls (sum_by (λ (x : Known). x.calls) ks) mid.calls k.calls new.calls last_count j.calls took.few);
}
