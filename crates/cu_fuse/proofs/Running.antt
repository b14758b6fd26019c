-- One merge in a list of operations: the list can run, and the elements are those that they were.
use Rattle.std.proofs.Common.{◌≡◌, ◌≢◌, ◌⊎◌, inl, inr, ℕ, zero, suc, ◌+◌, ◌<◌, ◌^◌, List, [], ◌∷◌, ◌++◌, All, Contains, length, take, drop, Some, None, get_or, refl, ap, sym, ◌∙◌, subst, arith, append_assoc, append-nil, length-drop, ⊎_elim, length-take-le}
use Rattle.std.specs.List.{slice_get}
use Rattle.std.proofs.lemmas.List.{get_or-take, get_or-drop}
use Rattle.std.proofs.lemmas.List.Elements.{All-append}
use Rattle.std.proofs.lemmas.Option.{slice_get_within, slice_get-get_or, get_or_from_slice_get}
use Rattle.cu_shape.specs.Index.{IsInside}
use Rattle.cu_grid.specs.Grid.{RegularGrid}
use Rattle.cu_op.specs.declared.layout.ArrayInfo.{ArrayInfo}
use Rattle.cu_op.specs.declared.operation.Op.{Op}
use Rattle.cu_op.specs.declared.operation.Planned.{Planned}
use Rattle.cu_op.specs.Arrays.{grid_at, maker_at}
use Rattle.cu_op.specs.Kind.Map.{map_of}
use Rattle.cu_op.specs.Operation.{reads_of, writes_of, Fits}
use Rattle.cu_op.specs.Projection.{own_projection}
use Rattle.cu_op.specs.Elements.{Elements}
use Rattle.cu_op.specs.Value.{rule}
use Rattle.cu_fuse.specs.Merge.{merged_op, Joins, IsMerged}
use Rattle.cu_fuse.specs.Runs.{HasWriter, HasReader, IsAtHand, IsNew, CanFollow, CanRun, IsMade, AreMade}
use Rattle.cu_fuse.specs.Splice.{put_in}
use Rattle.cu_fuse.proofs.Merging.{IsMerge, merged_value, merged_fits}
use Rattle.cu_fuse.proofs.Same.{DoesSame, does_itself, reads_same}

-- ---- what is written by two lists

pub written_left : (xs ys : List Planned) (a : ℕ) → HasWriter xs a → HasWriter (xs ++ ys) a
written_left [] ys a h = absurd h
written_left (x ∷ xs) ys a (inl h) = inl h
written_left (x ∷ xs) ys a (inr h) = inr (written_left xs ys a h)

pub written_right : (xs ys : List Planned) (a : ℕ) → HasWriter ys a → HasWriter (xs ++ ys) a
written_right [] ys a h = h
written_right (x ∷ xs) ys a h = inr (written_right xs ys a h)

pub written_parts : (xs ys : List Planned) (a : ℕ) → HasWriter (xs ++ ys) a → HasWriter xs a ⊎ HasWriter ys a
written_parts [] ys a h = inr h
written_parts (x ∷ xs) ys a (inl h) = inl (inl h)
written_parts (x ∷ xs) ys a (inr h) = ⊎_elim (λ l. inl (inr l)) (λ r. inr r) (written_parts xs ys a h)

-- ---- lists that can run

module _ (arrays : List ArrayInfo) (reserved : ℕ) where
  pub run_parts : (before xs ys : List Planned) → CanRun arrays reserved before (xs ++ ys) → CanRun arrays reserved before xs × CanRun arrays reserved (before ++ xs) ys
  run_parts before [] ys h = (tt, subst (λ b. CanRun arrays reserved b ys) (sym (append-nil before)) h)
  run_parts before (x ∷ xs) ys (step, rest) =
      let (front, back) = run_parts (before ++ x ∷ []) xs ys rest in
      ((step, front), subst (λ b. CanRun arrays reserved b ys) (append_assoc before (x ∷ []) xs) back)

  pub run_both : (before xs ys : List Planned) → CanRun arrays reserved before xs → CanRun arrays reserved (before ++ xs) ys → CanRun arrays reserved before (xs ++ ys)
  run_both before [] ys h g = subst (λ b. CanRun arrays reserved b ys) (append-nil before) g
  run_both before (x ∷ xs) ys (step, front) back =
      (step, run_both (before ++ x ∷ []) xs ys front (subst (λ b. CanRun arrays reserved b ys) (sym (append_assoc before (x ∷ []) xs)) back))

  -- behind other operations, where what is read stays at hand and nothing more is written
  pub run_behind : (before other ops : List Planned) → ((a : ℕ) → HasReader ops a → IsAtHand arrays before a → IsAtHand arrays other a) → ((a : ℕ) → HasWriter other a → HasWriter before a)
      → CanRun arrays reserved before ops → CanRun arrays reserved other ops
  run_behind before other [] hand fewer h = tt
  run_behind before other (o ∷ os) hand fewer (step, rest) = (
    record {
      reads = λ k d b. hand (get_or (reads_of o.op) k d) (inl (k, b, same (reads_of o.op) k d b)) (step.reads k d b);
      writes = λ k d b. let (within, made, new) = step.writes k d b in (within, made, λ w. new (fewer (get_or (writes_of o.op) k d) w));
      fits = step.fits;
      projected = step.projected;
      room = step.room;
    },
    run_behind (before ++ o ∷ []) (other ++ o ∷ []) os
        (λ a read (within, at). (
          within,
          ⊎_elim (λ input. inl input)
              (λ w. ⊎_elim
              (λ early. more a (hand a (inr read) (within, inr early)))
              (λ own. inr (written_right other (o ∷ []) a own))
              (written_parts before (o ∷ []) a w)) at,
        ))
        (λ a w. ⊎_elim (λ early. written_left before (o ∷ []) a (fewer a early)) (λ own. written_right before (o ∷ []) a own) (written_parts other (o ∷ []) a w))
        rest,
  )
    where
      same : (xs : List ℕ) (k d : ℕ) → k < length xs → get_or xs k (get_or xs k d) ≡ get_or xs k d
      same [] k d b = absurd (omega arith)
      same (x ∷ xs) zero d b = refl
      same (x ∷ xs) (suc k) d b = same xs k d (omega arith)

      more : (a : ℕ) → IsAtHand arrays other a → (maker_at arrays a ≡ None) ⊎ HasWriter (other ++ o ∷ []) a
      more a (within, inl input) = inl input
      more a (within, inr w) = inr (written_left other (o ∷ []) a w)

-- ---- one merge

-- the reads of both: those of the reader but the array between, and those of the maker
all_put_in_but : (P : ℕ → Type 0) (j a : ℕ) (ms xs : List ℕ) → slice_get xs j ≡ Some a → ((k b : ℕ) → k ≢ j → slice_get xs k ≡ Some b → P b) → All P ms → All P (put_in j ms xs)
all_put_in_but P j a ms xs at others own =
    All-append P (take j xs) (ms ++ drop (j + 1) xs)
    (λ k d b.
    let short = length-take-le j xs (let w = slice_get_within xs j a at in omega arith) in
    let less : k < j = omega arith in
    let within : k < length xs = (let w = slice_get_within xs j a at in omega arith) in
    subst P (sym (get_or-take j xs k d less)) (others k (get_or xs k d) (omega arith) (slice_get-get_or xs k d within)))
    (All-append P ms (drop (j + 1) xs) own
    (λ k d b.
    let within : j + 1 + k < length xs = (let l = length-drop (j + 1) xs in omega arith) in
    subst P (sym (get_or-drop (j + 1) xs k d)) (others (j + 1 + k) (get_or xs (j + 1 + k) d) (omega arith) (slice_get-get_or xs (j + 1 + k) d within))))

only_one : (x y : ℕ) → Contains (x ∷ []) y → y ≡ x
only_one x y (zero, l, e) = sym e
only_one x y (suc k, l, e) = absurd (omega arith)

-- one operation that does what the reader does with its maker merged in
pub record IsJoint (arrays : List ArrayInfo) (reserved : ℕ) (maker reader both : Planned) (j : ℕ) : Type 0 where
  pub same : DoesSame arrays (merged_op maker.op reader.op j) both.op
  pub projected : both.projected ≡ own_projection arrays reserved both.op
  pub room : both.projected < 2 ^ 64

pub joint_of : (arrays : List ArrayInfo) (reserved : ℕ) (maker reader both : Planned) (j : ℕ) → IsMerged arrays reserved maker reader both j → IsJoint arrays reserved maker reader both j
joint_of arrays reserved maker reader both j is = record {
  same = subst (DoesSame arrays (merged_op maker.op reader.op j)) (sym is.op) (does_itself arrays (merged_op maker.op reader.op j));
  projected = is.projected;
  room = is.room;
}

module _ (arrays : List ArrayInfo) (reserved : ℕ) (front between behind : List Planned) (maker reader both : Planned) (array j : ℕ)
    (joins : Joins arrays (record { maker = maker; between = between; reader = reader; behind = behind }) array j) (is : IsJoint arrays reserved maker reader both j) where
  abbrev I : Op
  I = map_of joins.inner joins.inner_ins array

  abbrev O : Op
  O = map_of joins.outer joins.outer_ins joins.out

  abbrev M : Op
  M = merged_op I O j

  both_same : DoesSame arrays M both.op
  both_same = subst (λ (o : Op). DoesSame arrays o both.op) (λ i. merged_op (joins.makes i) (joins.takes i) j) is.same

  both_writes : writes_of both.op ≡ writes_of M
  both_writes = both_same.writes

  merge_of : Fits arrays maker.op → Fits arrays reader.op → IsMerge arrays joins.inner joins.outer joins.inner_ins joins.outer_ins array joins.out j
  merge_of m r = record { maker = subst (Fits arrays) joins.makes m; reader = subst (Fits arrays) joins.takes r; input = joins.input; grid = joins.grid }

  -- what isn't the array between is at hand without its maker
  without : (before : List Planned) (a : ℕ) → a ≢ array → IsAtHand arrays (before ++ maker ∷ []) a → IsAtHand arrays before a
  without before a other (within, at) = (
    within,
    ⊎_elim (λ input. inl input)
        (λ w. ⊎_elim (λ early. inr early) (λ own. absurd (other (only_one array a (written_here own)))) (written_parts before (maker ∷ []) a w)) at,
  )
    where
      written_here : HasWriter (maker ∷ []) a → Contains (array ∷ []) a
      written_here (inl h) = subst (λ (o : Op). Contains (writes_of o) a) joins.makes h
      written_here (inr h) = absurd h

  moved_on : (xs ys : List Planned) (a : ℕ) → (IsAtHand arrays xs a → IsAtHand arrays ys a) → IsAtHand arrays (xs ++ between) a → IsAtHand arrays (ys ++ between) a
  moved_on xs ys a h (within, inl input) = (within, inl input)
  moved_on xs ys a h (within, inr w) = (
    within,
    ⊎_elim
        (λ early. later (h (within, inr early)))
        (λ own. inr (written_right ys between a own))
        (written_parts xs between a w),
  )
    where
      later : IsAtHand arrays ys a → (maker_at arrays a ≡ None) ⊎ HasWriter (ys ++ between) a
      later (l, inl input) = inl input
      later (l, inr e) = inr (written_left ys between a e)

  fewer : (a : ℕ) → HasWriter (front ++ between) a → HasWriter ((front ++ maker ∷ []) ++ between) a
  fewer a w = ⊎_elim (λ early. written_left (front ++ maker ∷ []) between a (written_left front (maker ∷ []) a early)) (λ own. written_right (front ++ maker ∷ []) between a own) (written_parts front between a w)

  module _ (ran : CanRun arrays reserved [] (front ++ (maker ∷ (between ++ (reader ∷ behind))))) where
    split : CanRun arrays reserved [] front × CanRun arrays reserved front (maker ∷ (between ++ (reader ∷ behind)))
    split = run_parts arrays reserved [] front (maker ∷ (between ++ (reader ∷ behind))) ran

    maker_step : CanFollow arrays reserved front maker
    maker_step = split.1.0

    parts : CanRun arrays reserved (front ++ maker ∷ []) between × CanRun arrays reserved ((front ++ maker ∷ []) ++ between) (reader ∷ behind)
    parts = run_parts arrays reserved (front ++ maker ∷ []) between (reader ∷ behind) split.1.1

    reader_step : CanFollow arrays reserved ((front ++ maker ∷ []) ++ between) reader
    reader_step = parts.1.0

    reader_reads : All (IsAtHand arrays ((front ++ maker ∷ []) ++ between)) joins.outer_ins
    reader_reads = subst (λ (o : Op). All (IsAtHand arrays ((front ++ maker ∷ []) ++ between)) (reads_of o)) joins.takes reader_step.reads

    maker_reads : All (IsAtHand arrays front) joins.inner_ins
    maker_reads = subst (λ (o : Op). All (IsAtHand arrays front) (reads_of o)) joins.makes maker_step.reads

    reader_writes : All (IsNew arrays ((front ++ maker ∷ []) ++ between)) (joins.out ∷ [])
    reader_writes = subst (λ (o : Op). All (IsNew arrays ((front ++ maker ∷ []) ++ between)) (writes_of o)) joins.takes reader_step.writes

    merge : IsMerge arrays joins.inner joins.outer joins.inner_ins joins.outer_ins array joins.out j
    merge = merge_of maker_step.fits reader_step.fits

    both_step : CanFollow arrays reserved (front ++ between) both
    both_step = record {
      reads = reads_same arrays M both.op (IsAtHand arrays (front ++ between)) both_same
          (all_put_in_but (IsAtHand arrays (front ++ between)) j array joins.inner_ins joins.outer_ins joins.input
          (λ k b other at.
          let w = slice_get_within joins.outer_ins k b at in
          let apart : b ≢ array = λ e. joins.alone k other (at ∙ ap Some e) in
          moved_on (front ++ maker ∷ []) front b (without front b apart) (subst (IsAtHand arrays ((front ++ maker ∷ []) ++ between)) (get_or_from_slice_get joins.outer_ins k b b at) (reader_reads k b w)))
          (λ k d b. early (get_or joins.inner_ins k d) (maker_reads k d b)));
      writes = subst (All (IsNew arrays (front ++ between))) (sym both_writes)
          (λ k d b. let (within, made, new) = reader_writes k d b in (within, made, λ w. new (fewer (get_or (joins.out ∷ []) k d) w)));
      fits = both_same.fits (merged_fits arrays joins.inner joins.outer joins.inner_ins joins.outer_ins array joins.out j merge);
      projected = is.projected;
      room = is.room;
    }
      where
        early : (b : ℕ) → IsAtHand arrays front b → IsAtHand arrays (front ++ between) b
        early b (within, inl input) = (within, inl input)
        early b (within, inr w) = (within, inr (written_left front between b w))

    -- behind the reader
    behind_runs : CanRun arrays reserved ((front ++ between) ++ both ∷ []) behind
    behind_runs = run_behind arrays reserved (((front ++ maker ∷ []) ++ between) ++ reader ∷ []) ((front ++ between) ++ both ∷ []) behind
        (λ a read (within, at). (
          within,
          ⊎_elim (λ input. inl input)
              (λ w. ⊎_elim
              (λ early. on a (moved_on (front ++ maker ∷ []) front a (without front a (λ e. joins.behind_apart (subst (HasReader behind) e read))) (within, inr early)))
              (λ own. inr (written_right (front ++ between) (both ∷ []) a (as_both a own)))
              (written_parts ((front ++ maker ∷ []) ++ between) (reader ∷ []) a w)) at,
        ))
        (λ a w. ⊎_elim (λ early. written_left ((front ++ maker ∷ []) ++ between) (reader ∷ []) a (fewer a early)) (λ own. written_right ((front ++ maker ∷ []) ++ between) (reader ∷ []) a (as_reader a own))
        (written_parts (front ++ between) (both ∷ []) a w))
        parts.1.1
      where
        on : (a : ℕ) → IsAtHand arrays (front ++ between) a → (maker_at arrays a ≡ None) ⊎ HasWriter ((front ++ between) ++ both ∷ []) a
        on a (l, inl input) = inl input
        on a (l, inr w) = inr (written_left (front ++ between) (both ∷ []) a w)

        as_both : (a : ℕ) → HasWriter (reader ∷ []) a → HasWriter (both ∷ []) a
        as_both a (inl h) = inl (subst (λ (l : List ℕ). Contains l a) (sym both_writes) (subst (λ (o : Op). Contains (writes_of o) a) joins.takes h))
        as_both a (inr h) = absurd h

        as_reader : (a : ℕ) → HasWriter (both ∷ []) a → HasWriter (reader ∷ []) a
        as_reader a (inl h) = inl (subst (λ (o : Op). Contains (writes_of o) a) (sym joins.takes) (subst (λ (l : List ℕ). Contains l a) both_writes h))
        as_reader a (inr h) = absurd h

    -- between maker and reader
    between_runs : CanRun arrays reserved front between
    between_runs = run_behind arrays reserved (front ++ maker ∷ []) front between
        (λ a read h. without front a (λ e. joins.between_apart (subst (HasReader between) e read)) h)
        (λ a w. written_left front (maker ∷ []) a w) parts.0

    pub merge_runs : CanRun arrays reserved [] (front ++ (between ++ (both ∷ behind)))
    merge_runs = run_both arrays reserved [] front (between ++ (both ∷ behind)) split.0
        (run_both arrays reserved front between (both ∷ behind) between_runs (both_step, behind_runs))

    -- ---- its elements

    made_parts : (at : Elements) (xs ys : List Planned) → AreMade arrays at (xs ++ ys) → AreMade arrays at xs × AreMade arrays at ys
    made_parts at [] ys h = (tt, h)
    made_parts at (x ∷ xs) ys (own, rest) = let (l, r) = made_parts at xs ys rest in ((own, l), r)

    made_both : (at : Elements) (xs ys : List Planned) → AreMade arrays at xs → AreMade arrays at ys → AreMade arrays at (xs ++ ys)
    made_both at [] ys h g = g
    made_both at (x ∷ xs) ys (own, rest) g = (own, made_both at xs ys rest g)

    pub merge_made : (at : Elements) → AreMade arrays at (front ++ (maker ∷ (between ++ (reader ∷ behind)))) → AreMade arrays at (front ++ (between ++ (both ∷ behind)))
    merge_made at made =
        let (first, (own, rest)) = made_parts at front (maker ∷ (between ++ (reader ∷ behind))) made in
        let (middle, (reads, last)) = made_parts at between (reader ∷ behind) rest in
        made_both at front (between ++ (both ∷ behind)) first (made_both at between (both ∷ behind) middle (value own reads, last))
      where
        value : IsMade arrays at maker → IsMade arrays at reader → IsMade arrays at both
        value own reads a idx w inside =
            let same : a ≡ joins.out = only_one joins.out a (subst (λ (l : List ℕ). Contains l a) both_writes w) in
            let here : IsInside (grid_at arrays joins.out).shape idx = subst (λ (b : ℕ). IsInside (grid_at arrays b).shape idx) same inside in
            let there : IsInside (grid_at arrays array).shape idx = subst (λ (g : RegularGrid). IsInside g.shape idx) (sym joins.grid) here in
            let by_maker : at array idx ≡ rule I arrays at array idx =
            own array idx (subst (λ (o : Op). Contains (writes_of o) array) (sym joins.makes) (0, omega arith, refl)) there ∙ ap (λ (o : Op). rule o arrays at array idx) joins.makes in
            let by_reader : at joins.out idx ≡ rule O arrays at joins.out idx =
            reads joins.out idx (subst (λ (o : Op). Contains (writes_of o) joins.out) (sym joins.takes) (0, omega arith, refl)) here ∙ ap (λ (o : Op). rule o arrays at joins.out idx) joins.takes in
            let same_value : rule M arrays at a idx ≡ rule O arrays at joins.out idx =
            merged_value arrays joins.inner joins.outer joins.inner_ins joins.outer_ins array joins.out j merge at idx here by_maker in
            ap (λ (b : ℕ). at b idx) same ∙ by_reader ∙ sym same_value
            ∙ sym (both_same.value (merged_fits arrays joins.inner joins.outer joins.inner_ins joins.outer_ins array joins.out j merge) at a idx)
