-- A maker and its reader replaced by one operation: the list can run, and the elements are those
-- that they were.
use Rattle.std.proofs.Common.{◌≡◌, ◌≢◌, ◌⊎◌, inl, inr, ℕ, zero, suc, ◌<◌, ◌^◌, List, [], ◌∷◌, ◌++◌, All, Contains, length, None, get_or, refl, sym, subst, arith, ⊎_elim}
use Rattle.std.proofs.lemmas.List.Elements.{All-contains}
use Rattle.cu_op.specs.declared.layout.ArrayInfo.{ArrayInfo}
use Rattle.cu_op.specs.declared.operation.Planned.{Planned}
use Rattle.cu_op.specs.Arrays.{maker_at}
use Rattle.cu_op.specs.Elements.{Elements}
use Rattle.cu_op.specs.Operation.{reads_of, writes_of, Fits}
use Rattle.cu_op.specs.Projection.{own_projection}
use Rattle.cu_fuse.specs.Runs.{HasWriter, HasReader, IsAtHand, IsNew, CanFollow, CanRun, IsMade, AreMade}
use Rattle.cu_fuse.proofs.Running.{run_behind, run_both, run_parts, written_left, written_parts, written_right}

-- One operation does what the maker of an array and its only reader do: it writes what the reader
-- writes, and reads what both read but the array between.
pub record IsInPlace (arrays : List ArrayInfo) (reserved array : ℕ) (maker reader both : Planned) : Type 0 where
  pub makes : (b : ℕ) → Contains (writes_of maker.op) b → b ≡ array
  pub writes : writes_of both.op ≡ writes_of reader.op
  pub reads : (b : ℕ) → Contains (reads_of both.op) b → Contains (reads_of maker.op) b ⊎ (Contains (reads_of reader.op) b × (b ≢ array))
  pub fits : Fits arrays maker.op → Fits arrays reader.op → Fits arrays both.op
  pub value : Fits arrays maker.op → Fits arrays reader.op → (at : Elements) → IsMade arrays at maker → IsMade arrays at reader → IsMade arrays at both
  pub projected : both.projected ≡ own_projection arrays reserved both.op
  pub room : both.projected < 2 ^ 64

all_of : (P : ℕ → Type 0) (xs : List ℕ) → ((b : ℕ) → Contains xs b → P b) → All P xs
all_of P xs h k d b = h (get_or xs k d) (k, b, at_itself xs k d b)
  where
    at_itself : (xs : List ℕ) (k d : ℕ) → k < length xs → get_or xs k (get_or xs k d) ≡ get_or xs k d
    at_itself [] k d b = absurd (omega arith)
    at_itself (x ∷ xs) zero d b = refl
    at_itself (x ∷ xs) (suc k) d b = at_itself xs k d (omega arith)

module _ (arrays : List ArrayInfo) (reserved array : ℕ) (front between behind : List Planned) (maker reader both : Planned)
    (between_apart : HasReader between array → ⊥) (behind_apart : HasReader behind array → ⊥) (is : IsInPlace arrays reserved array maker reader both) where
  -- what isn't the array between is at hand without its maker
  without : (before : List Planned) (a : ℕ) → a ≢ array → IsAtHand arrays (before ++ maker ∷ []) a → IsAtHand arrays before a
  without before a other (within, at) = (
    within,
    ⊎_elim (λ input. inl input)
        (λ w. ⊎_elim (λ early. inr early) (λ own. absurd (other (by_maker own))) (written_parts before (maker ∷ []) a w)) at,
  )
    where
      by_maker : HasWriter (maker ∷ []) a → a ≡ array
      by_maker (inl h) = is.makes a h
      by_maker (inr h) = absurd h

  moved_on : (xs ys : List Planned) (a : ℕ) → (IsAtHand arrays xs a → IsAtHand arrays ys a) → IsAtHand arrays (xs ++ between) a → IsAtHand arrays (ys ++ between) a
  moved_on xs ys a h (within, inl input) = (within, inl input)
  moved_on xs ys a h (within, inr w) = (
    within,
    ⊎_elim
        (λ early. later (h (within, inr early)))
        (λ own. inr (written_right ys between a own))
        (written_parts xs between a w),
  )
    where
      later : IsAtHand arrays ys a → (maker_at arrays a ≡ None) ⊎ HasWriter (ys ++ between) a
      later (l, inl input) = inl input
      later (l, inr e) = inr (written_left ys between a e)

  fewer : (a : ℕ) → HasWriter (front ++ between) a → HasWriter ((front ++ maker ∷ []) ++ between) a
  fewer a w = ⊎_elim (λ early. written_left (front ++ maker ∷ []) between a (written_left front (maker ∷ []) a early)) (λ own. written_right (front ++ maker ∷ []) between a own) (written_parts front between a w)

  as_both : (a : ℕ) → HasWriter (reader ∷ []) a → HasWriter (both ∷ []) a
  as_both a (inl h) = inl (subst (λ (l : List ℕ). Contains l a) (sym is.writes) h)
  as_both a (inr h) = absurd h

  as_reader : (a : ℕ) → HasWriter (both ∷ []) a → HasWriter (reader ∷ []) a
  as_reader a (inl h) = inl (subst (λ (l : List ℕ). Contains l a) is.writes h)
  as_reader a (inr h) = absurd h

  module _ (ran : CanRun arrays reserved [] (front ++ (maker ∷ (between ++ (reader ∷ behind))))) where
    split : CanRun arrays reserved [] front × CanRun arrays reserved front (maker ∷ (between ++ (reader ∷ behind)))
    split = run_parts arrays reserved [] front (maker ∷ (between ++ (reader ∷ behind))) ran

    maker_step : CanFollow arrays reserved front maker
    maker_step = split.1.0

    parts : CanRun arrays reserved (front ++ maker ∷ []) between × CanRun arrays reserved ((front ++ maker ∷ []) ++ between) (reader ∷ behind)
    parts = run_parts arrays reserved (front ++ maker ∷ []) between (reader ∷ behind) split.1.1

    reader_step : CanFollow arrays reserved ((front ++ maker ∷ []) ++ between) reader
    reader_step = parts.1.0

    early : (b : ℕ) → IsAtHand arrays front b → IsAtHand arrays (front ++ between) b
    early b (within, inl input) = (within, inl input)
    early b (within, inr w) = (within, inr (written_left front between b w))

    read : (b : ℕ) → Contains (reads_of both.op) b → IsAtHand arrays (front ++ between) b
    read b c = ⊎_elim
        (λ own. early b (All-contains (IsAtHand arrays front) (reads_of maker.op) b maker_step.reads own))
        (λ other. moved_on (front ++ maker ∷ []) front b (without front b other.1)
        (All-contains (IsAtHand arrays ((front ++ maker ∷ []) ++ between)) (reads_of reader.op) b reader_step.reads other.0))
        (is.reads b c)

    both_step : CanFollow arrays reserved (front ++ between) both
    both_step = record {
      reads = all_of (IsAtHand arrays (front ++ between)) (reads_of both.op) read;
      writes = subst (All (IsNew arrays (front ++ between))) (sym is.writes)
          (λ k d b. let (within, made, new) = reader_step.writes k d b in (within, made, λ w. new (fewer (get_or (writes_of reader.op) k d) w)));
      fits = is.fits maker_step.fits reader_step.fits;
      projected = is.projected;
      room = is.room;
    }

    -- behind the reader
    behind_runs : CanRun arrays reserved ((front ++ between) ++ both ∷ []) behind
    behind_runs = run_behind arrays reserved (((front ++ maker ∷ []) ++ between) ++ reader ∷ []) ((front ++ between) ++ both ∷ []) behind
        (λ a read (within, at). (
          within,
          ⊎_elim (λ input. inl input)
              (λ w. ⊎_elim
              (λ early. on a (moved_on (front ++ maker ∷ []) front a (without front a (λ e. behind_apart (subst (HasReader behind) e read))) (within, inr early)))
              (λ own. inr (written_right (front ++ between) (both ∷ []) a (as_both a own)))
              (written_parts ((front ++ maker ∷ []) ++ between) (reader ∷ []) a w)) at,
        ))
        (λ a w. ⊎_elim (λ early. written_left ((front ++ maker ∷ []) ++ between) (reader ∷ []) a (fewer a early)) (λ own. written_right ((front ++ maker ∷ []) ++ between) (reader ∷ []) a (as_reader a own))
        (written_parts (front ++ between) (both ∷ []) a w))
        parts.1.1
      where
        on : (a : ℕ) → IsAtHand arrays (front ++ between) a → (maker_at arrays a ≡ None) ⊎ HasWriter ((front ++ between) ++ both ∷ []) a
        on a (l, inl input) = inl input
        on a (l, inr w) = inr (written_left (front ++ between) (both ∷ []) a w)

    -- between maker and reader
    between_runs : CanRun arrays reserved front between
    between_runs = run_behind arrays reserved (front ++ maker ∷ []) front between
        (λ a read h. without front a (λ e. between_apart (subst (HasReader between) e read)) h)
        (λ a w. written_left front (maker ∷ []) a w) parts.0

    pub replaced_runs : CanRun arrays reserved [] (front ++ (between ++ (both ∷ behind)))
    replaced_runs = run_both arrays reserved [] front (between ++ (both ∷ behind)) split.0
        (run_both arrays reserved front between (both ∷ behind) between_runs (both_step, behind_runs))

    -- ---- its elements

    made_parts : (at : Elements) (xs ys : List Planned) → AreMade arrays at (xs ++ ys) → AreMade arrays at xs × AreMade arrays at ys
    made_parts at [] ys h = (tt, h)
    made_parts at (x ∷ xs) ys (own, rest) = let (l, r) = made_parts at xs ys rest in ((own, l), r)

    made_both : (at : Elements) (xs ys : List Planned) → AreMade arrays at xs → AreMade arrays at ys → AreMade arrays at (xs ++ ys)
    made_both at [] ys h g = g
    made_both at (x ∷ xs) ys (own, rest) g = (own, made_both at xs ys rest g)

    pub replaced_made : (at : Elements) → AreMade arrays at (front ++ (maker ∷ (between ++ (reader ∷ behind)))) → AreMade arrays at (front ++ (between ++ (both ∷ behind)))
    replaced_made at made =
        let (first, (own, rest)) = made_parts at front (maker ∷ (between ++ (reader ∷ behind))) made in
        let (middle, (reads, last)) = made_parts at between (reader ∷ behind) rest in
        made_both at front (between ++ (both ∷ behind)) first
        (made_both at between (both ∷ behind) middle (is.value maker_step.fits reader_step.fits at own reads, last))
