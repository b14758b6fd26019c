-- The chunks of a plan, each listed once, and the keys that a run shares for them.
use Rattle.std.proofs.Common.{◌≡◌, ◌≢◌, ◌⊎◌, inl, inr, ℕ, zero, suc, ◌<◌, ◌≤◌, Bool, true, false, IsTrue, List, [], ◌∷◌, ◌++◌, length, map, Contains, Option, Some, None, is_some, ◌&&◌, ◌||◌, refl, ap, sym, ◌∙◌, subst, arith}
use Rattle.std.specs.Str.{bytes_eq}
use Rattle.std.proofs.lemmas.Slice.Eq.{bytes_eq-Decides}
use Rattle.std.proofs.lemmas.List.Elements.{Contains-append_left, Contains-append_right, Contains-append_cases}
use Rattle.cu_shape.specs.Index.{place_of}
use Rattle.cu_shape.proofs.Places.{index-inside, place-index, index-place, place-below}
use Rattle.cu_grid.specs.Grid.{IsCoordinate, coordinate_of}
use Rattle.cu_store.specs.Share.{KeysDiffer}
use Rattle.cu_store.specs.Yard.{is_served, is_made}
use Rattle.cu_op.specs.declared.cells.Cell.{Cell}
use Rattle.cu_op.specs.declared.layout.ArrayInfo.{ArrayInfo}
use Rattle.cu_op.specs.Arrays.{array_at, grid_at, grid_counts, is_inlined, maker_at, array_chunk_count}
use Rattle.cu_op.specs.Chunks.{cell}
use Rattle.cu_op.specs.PlanView.{PlanView}
use Rattle.cu_op.specs.Schedule.{key_of}
use Rattle.cu_op.specs.Sound.{IsCell}
use Rattle.cu_op.proofs.CellsOfTasks.{same_array, same_coord}
use Rattle.cu_op.proofs.Members.{bool_cases}
use Rattle.cu_run_law.specs.Pieces.{PlanRun, Chunk, IsInputChunk, KeysApart, InputsApart}
use Rattle.cu_run_law.proofs.Reading.{input_or_made}
use Rattle.cu_task.specs.Serving.{IsOnlyRead}
use Rattle.cu_work.specs.Shared.{chunks_below, chunks_of_first, plan_chunks, spec_of, specs_of, stored_chunks}
use Rattle.cu_work.proofs.StoredChunks.{cell_chunk, stored_cell, IsStoredChunk}

-- ---- each chunk is listed

-- the elements of a list, front by front
pub first_is : {A : Type 0} (x : A) (xs : List A) → Contains (x ∷ xs) x
first_is x xs = (0, omega arith, refl)

pub behind : {A : Type 0} (x y : A) (xs : List A) → Contains xs y → Contains (x ∷ xs) y
behind x y xs (k, below, e) = (suc k, omega (arith, below), e)

pub front_or : {A : Type 0} (x y : A) (xs : List A) → Contains (x ∷ xs) y → (x ≡ y) ⊎ Contains xs y
front_or x y xs (zero, below, e) = inl e
front_or x y xs (suc k, below, e) = inr (k, omega (arith, below), e)

pub none_in : {A : Type 0} (y : A) → Contains [] y → ⊥
none_in y (k, below, e) = omega (arith, below)

module _ (arrays : List ArrayInfo) where
  -- what is listed of an array is one of its first chunks
  below_is : (a n : ℕ) (c : Cell) → Contains (chunks_below arrays a n) c → (k : ℕ) × (k < n) × (cell a (coordinate_of (grid_at arrays a) k) ≡ c)
  below_is a zero c listed = absurd (none_in c listed)
  below_is a (suc n) c listed =
      elim (Contains-append_cases (chunks_below arrays a n) (cell a (coordinate_of (grid_at arrays a) n) ∷ []) c listed) [
        | inl front ↦ let (k, less, is) = below_is a n c front in (k, omega (arith, less), is)
        | inr last ↦ elim (front_or (cell a (coordinate_of (grid_at arrays a) n)) c [] last) [
          | inl is ↦ (n, omega arith, is)
          | inr none ↦ absurd (none_in c none)
        ]
      ]

  below_has : (a n k : ℕ) → k < n → Contains (chunks_below arrays a n) (cell a (coordinate_of (grid_at arrays a) k))
  below_has a zero k less = absurd (omega arith)
  below_has a (suc n) k less =
      elim (below_or_last k n less) [
        | inl under ↦ Contains-append_left (chunks_below arrays a n) (cell a (coordinate_of (grid_at arrays a) n) ∷ []) (cell a (coordinate_of (grid_at arrays a) k)) (below_has a n k under)
        | inr same ↦ Contains-append_right (chunks_below arrays a n) (cell a (coordinate_of (grid_at arrays a) n) ∷ []) (cell a (coordinate_of (grid_at arrays a) k))
            (0, omega arith, ap (λ (j : ℕ). cell a (coordinate_of (grid_at arrays a) j)) (sym same))
      ]
    where
      below_or_last : (k n : ℕ) → k < suc n → (k < n) ⊎ (k ≡ n)
      below_or_last k zero less = inr (omega arith)
      below_or_last zero (suc n) less = inl (omega arith)
      below_or_last (suc k) (suc n) less = elim (below_or_last k n (omega (arith, less))) [ inl under ↦ inl (omega (arith, under)) | inr same ↦ inr (ap suc same) ]

  -- the chunks that have keys are all of a stored array, and none of one that is made where it is read
  abbrev all_below : ℕ → List Cell
  all_below a = chunks_below arrays a (array_chunk_count (array_at arrays a))

  pub all_stored : (a : ℕ) → is_inlined arrays a ≡ false → stored_chunks arrays a ≡ all_below a
  all_stored a stored = rw stored refl

  pub none_stored : (a : ℕ) → is_inlined arrays a ≡ true → stored_chunks arrays a ≡ []
  none_stored a inner = rw inner refl

  stored_is : (a : ℕ) (c : Cell) → Contains (stored_chunks arrays a) c → (is_inlined arrays a ≡ false) × Contains (all_below a) c
  stored_is a c listed =
      elim (bool_cases (is_inlined arrays a)) [
        | inr stored ↦ (stored, subst (λ (cs : List Cell). Contains cs c) (all_stored a stored) listed)
        | inl inner ↦ absurd (none_in c (subst (λ (cs : List Cell). Contains cs c) (none_stored a inner) listed))
      ]

  abbrev IsListedBelow : ℕ → Cell → Type 0
  IsListedBelow n c = (c.array < n) × IsCoordinate (grid_at arrays c.array) c.coord × (is_inlined arrays c.array ≡ false)

  before_is : (n : ℕ) (c : Cell) → Contains (chunks_of_first arrays n) c → IsListedBelow n c
  before_is zero c listed = absurd (none_in c listed)
  before_is (suc n) c listed =
      elim (Contains-append_cases (chunks_of_first arrays n) (stored_chunks arrays n) c listed) [
        | inl front ↦ let (less, at, stored) = before_is n c front in (omega (arith, less), at, stored)
        | inr last ↦
            let (stored, own) = stored_is n c last in
            let (k, few, is) = below_is n (array_chunk_count (array_at arrays n)) c own in
            subst (IsListedBelow (suc n)) is (omega arith, index-inside (grid_counts (grid_at arrays n)) k few, stored)
      ]

  before_has : (n : ℕ) (c : Cell) → c.array < n → IsCoordinate (grid_at arrays c.array) c.coord → is_inlined arrays c.array ≡ false → Contains (chunks_of_first arrays n) c
  before_has zero c less at stored = absurd (omega arith)
  before_has (suc n) c less at stored =
      elim (array_is c.array n less) [
        | inl under ↦ Contains-append_left (chunks_of_first arrays n) (stored_chunks arrays n) c (before_has n c under at stored)
        | inr same ↦ Contains-append_right (chunks_of_first arrays n) (stored_chunks arrays n) c
            (subst (λ (a : ℕ). Contains (stored_chunks arrays a) c) same
            (subst (λ (cs : List Cell). Contains cs c) (sym (all_stored c.array stored))
            (subst (Contains (all_below c.array)) (whole c at)
            (below_has c.array (array_chunk_count (array_at arrays c.array)) (place_of (grid_counts (grid_at arrays c.array)) c.coord) (place-below (grid_counts (grid_at arrays c.array)) c.coord at)))))
      ]
    where
      array_is : (k n : ℕ) → k < suc n → (k < n) ⊎ (k ≡ n)
      array_is k zero less = inr (omega arith)
      array_is zero (suc n) less = inl (omega arith)
      array_is (suc k) (suc n) less = elim (array_is k n (omega (arith, less))) [ inl under ↦ inl (omega (arith, under)) | inr same ↦ inr (ap suc same) ]

      whole : (c : Cell) → IsCoordinate (grid_at arrays c.array) c.coord → cell c.array (coordinate_of (grid_at arrays c.array) (place_of (grid_counts (grid_at arrays c.array)) c.coord)) ≡ c
      whole c at = ap (λ (is : List ℕ). cell c.array is) (index-place (grid_counts (grid_at arrays c.array)) c.coord at)

  -- ---- and once

  -- no chunk stands twice
  abbrev pub AreOnce : List Cell → Type 0
  AreOnce [] = Unit {0}
  AreOnce (c ∷ cs) = (Contains cs c → ⊥) × AreOnce cs

  once_joined : (xs ys : List Cell) → AreOnce xs → AreOnce ys → ((c : Cell) → Contains xs c → Contains ys c → ⊥) → AreOnce (xs ++ ys)
  once_joined [] ys first second apart = second
  once_joined (x ∷ xs) ys (new, first) second apart = (
    λ listed. elim (Contains-append_cases xs ys x listed) [
      | inl front ↦ new front
      | inr back ↦ apart x (first_is x xs) back
    ],
    once_joined xs ys first second (λ c in_front in_back. apart c (behind x c xs in_front) in_back),
  )

  alone : (c : Cell) → AreOnce (c ∷ [])
  alone c = (λ listed. none_in c listed, tt)

  below_once : (a n : ℕ) → n ≤ array_chunk_count (array_at arrays a) → AreOnce (chunks_below arrays a n)
  below_once a zero few = tt
  below_once a (suc n) few =
      once_joined (chunks_below arrays a n) (cell a (coordinate_of (grid_at arrays a) n) ∷ []) (below_once a n (omega (arith, few))) (alone (cell a (coordinate_of (grid_at arrays a) n)))
      (λ c front last.
      let (k, less, is) = below_is a n c front in
      elim (front_or (cell a (coordinate_of (grid_at arrays a) n)) c [] last) [
        | inl other ↦
            let ds = grid_counts (grid_at arrays a) in
            let same = same_coord (cell a (coordinate_of (grid_at arrays a) k)) (cell a (coordinate_of (grid_at arrays a) n)) (is ∙ sym other) in
            let number : k ≡ n = sym (place-index ds k (omega (arith, less, few))) ∙ ap (place_of ds) same ∙ place-index ds n (omega (arith, few)) in
            omega (arith, less, number)
        | inr none ↦ none_in c none
      ])

  stored_once : (a : ℕ) → AreOnce (stored_chunks arrays a)
  stored_once a =
      elim (bool_cases (is_inlined arrays a)) [
        | inr stored ↦ subst AreOnce (sym (all_stored a stored)) (below_once a (array_chunk_count (array_at arrays a)) (omega arith))
        | inl inner ↦ subst AreOnce (sym (none_stored a inner)) tt
      ]

  before_once : (n : ℕ) → AreOnce (chunks_of_first arrays n)
  before_once zero = tt
  before_once (suc n) =
      once_joined (chunks_of_first arrays n) (stored_chunks arrays n) (before_once n) (stored_once n)
      (λ c front last.
      let less = (before_is n c front).0 in
      let (k, few, is) = below_is n (array_chunk_count (array_at arrays n)) c (stored_is n c last).1 in
      let same = same_array (cell n (coordinate_of (grid_at arrays n) k)) c is in
      omega (arith, less, same))

pub chunk_listed : (p : PlanView) (c : Cell) → IsStoredChunk p.arrays c → Contains (plan_chunks p) c
chunk_listed p c chunk = before_has p.arrays (length p.arrays) c chunk.0.0 chunk.0.1 chunk.1

pub listed_chunk : (p : PlanView) (c : Cell) → Contains (plan_chunks p) c → IsStoredChunk p.arrays c
listed_chunk p c listed = let at = before_is p.arrays (length p.arrays) c listed in ((at.0, at.1), at.2)

pub chunks_once : (p : PlanView) → AreOnce p.arrays (plan_chunks p)
chunks_once p = before_once p.arrays (length p.arrays)

-- ---- their keys

made_some : (m : Option ℕ) → m ≢ None → is_some m ≡ true
made_some None made = absurd (made refl)
made_some (Some k) made = refl

some_made : (m : Option ℕ) → is_some m ≡ true → m ≢ None
some_made None some = cc
some_made (Some k) some = λ e. cc

-- stored chunks of a plan with one key are one chunk
abbrev pub ChunksApart : PlanView → Type 0
ChunksApart p = (c d : Cell) → IsStoredChunk p.arrays c → IsStoredChunk p.arrays d → key_of p.arrays c ≡ key_of p.arrays d → c ≡ d

chunk_same : (c d : Cell) → Chunk c ≡ Chunk d → c ≡ d
chunk_same c d e = cc

none_some : (m : Option ℕ) (k : ℕ) → m ≡ None → m ≡ Some k → ⊥
none_some m k none some = cc

pub chunks_apart : (r : PlanRun) → KeysApart r → InputsApart r → ChunksApart r.plan
chunks_apart r apart inputs c d chunk other e =
    elim (input_or_made (maker_at r.plan.arrays c.array)) [
      | inl given ↦ elim (input_or_made (maker_at r.plan.arrays d.array)) [
        | inl also ↦ inputs c d (input c chunk given) (input d other also) e
        | inr made ↦ absurd (apart.inputs (Chunk d) c (piece d other made.0 made.1) (input c chunk given) (sym e))
      ]
      | inr made ↦ elim (input_or_made (maker_at r.plan.arrays d.array)) [
        | inl given ↦ absurd (apart.inputs (Chunk c) d (piece c chunk made.0 made.1) (input d other given) e)
        | inr also ↦ chunk_same c d (apart.pieces (Chunk c) (Chunk d) (piece c chunk made.0 made.1) (piece d other also.0 also.1) e)
      ]
    ]
  where
    piece : (c : Cell) → IsStoredChunk r.plan.arrays c → (k : ℕ) → maker_at r.plan.arrays c.array ≡ Some k → IsCell r.plan.arrays c.array c.coord
    piece c chunk k made = stored_cell r.plan.arrays c chunk (λ none. none_some (maker_at r.plan.arrays c.array) k none made)

    input : (c : Cell) → IsStoredChunk r.plan.arrays c → maker_at r.plan.arrays c.array ≡ None → IsInputChunk r.plan.arrays c
    input c chunk given = record { within = chunk.0.0; given = given; coordinate = chunk.0.1 }

module _ (p : PlanView) where
  -- a key that is served is that of a listed chunk
  abbrev IsServedIn : List Cell → List ℕ → Type 0
  IsServedIn cs key = (c : Cell) × Contains cs c × (key_of p.arrays c ≡ key)

  served_more : (c : Cell) (cs : List Cell) (key : List ℕ) → IsServedIn cs key → IsServedIn (c ∷ cs) key
  served_more c cs key (d, listed, is) = (d, behind c d cs listed, is)

  served_by : (c : Cell) (cs : List Cell) (key : List ℕ) (b : Bool) → bytes_eq (key_of p.arrays c) key ≡ b → (IsTrue (is_served (map (spec_of p.arrays) cs) key) → IsServedIn cs key)
      → IsTrue (b || is_served (map (spec_of p.arrays) cs) key) → IsServedIn (c ∷ cs) key
  served_by c cs key true same later h = (c, first_is c cs, (bytes_eq-Decides (key_of p.arrays c) key).0 same)
  served_by c cs key false other later h = served_more c cs key (later h)

  served_is : (cs : List Cell) (key : List ℕ) → IsTrue (is_served (map (spec_of p.arrays) cs) key) → IsServedIn cs key
  served_is [] key h = cc
  served_is (c ∷ cs) key h = served_by c cs key (bytes_eq (key_of p.arrays c) key) refl (served_is cs key) h

  abbrev IsMadeIn : List Cell → List ℕ → Type 0
  IsMadeIn cs key = (c : Cell) × Contains cs c × (maker_at p.arrays c.array ≢ None) × (key_of p.arrays c ≡ key)

  made_by : (c : Cell) (cs : List Cell) (key : List ℕ) (m b : Bool) → is_some (maker_at p.arrays c.array) ≡ m → bytes_eq (key_of p.arrays c) key ≡ b
      → (IsTrue (is_made (map (spec_of p.arrays) cs) key) → IsMadeIn cs key) → IsTrue ((m && b) || is_made (map (spec_of p.arrays) cs) key) → IsMadeIn (c ∷ cs) key
  made_by c cs key true true made same later h = (c, first_is c cs, some_made (maker_at p.arrays c.array) made, (bytes_eq-Decides (key_of p.arrays c) key).0 same)
  made_by c cs key false b made same later h = let (d, listed, made, is) = later h in (d, behind c d cs listed, made, is)
  made_by c cs key true false made other later h = let (d, listed, made, is) = later h in (d, behind c d cs listed, made, is)

  made_is : (cs : List Cell) (key : List ℕ) → IsTrue (is_made (map (spec_of p.arrays) cs) key) → IsMadeIn cs key
  made_is [] key h = cc
  made_is (c ∷ cs) key h = made_by c cs key (is_some (maker_at p.arrays c.array)) (bytes_eq (key_of p.arrays c) key) refl refl (made_is cs key) h

  served_has : (cs : List Cell) (c : Cell) → Contains cs c → IsTrue (is_served (map (spec_of p.arrays) cs) (key_of p.arrays c))
  served_has [] c listed = absurd (none_in c listed)
  served_has (d ∷ cs) c listed =
      elim (front_or d c cs listed) [
        | inl is ↦ rw ((bytes_eq-Decides (key_of p.arrays d) (key_of p.arrays c)).1 (ap (key_of p.arrays) is)) refl
        | inr later ↦ or_right (bytes_eq (key_of p.arrays d) (key_of p.arrays c)) (served_has cs c later)
      ]
    where
      or_right : (b : Bool) → IsTrue (is_served (map (spec_of p.arrays) cs) (key_of p.arrays c)) → IsTrue (b || is_served (map (spec_of p.arrays) cs) (key_of p.arrays c))
      or_right true h = refl
      or_right false h = h

  made_has : (cs : List Cell) (c : Cell) → Contains cs c → maker_at p.arrays c.array ≢ None → IsTrue (is_made (map (spec_of p.arrays) cs) (key_of p.arrays c))
  made_has [] c listed made = absurd (none_in c listed)
  made_has (d ∷ cs) c listed made =
      elim (front_or d c cs listed) [
        | inl is ↦ rw (ap (λ (x : Cell). is_some (maker_at p.arrays x.array)) is ∙ made_some (maker_at p.arrays c.array) made, (bytes_eq-Decides (key_of p.arrays d) (key_of p.arrays c)).1 (ap (key_of p.arrays) is)) refl
        | inr later ↦ or_right (is_some (maker_at p.arrays d.array) && bytes_eq (key_of p.arrays d) (key_of p.arrays c)) (made_has cs c later made)
      ]
    where
      or_right : (b : Bool) → IsTrue (is_made (map (spec_of p.arrays) cs) (key_of p.arrays c)) → IsTrue (b || is_made (map (spec_of p.arrays) cs) (key_of p.arrays c))
      or_right true h = refl
      or_right false h = h

  -- the keys of chunks that are listed once differ
  differ_in : ChunksApart p → (cs : List Cell) → ((c : Cell) → Contains cs c → IsStoredChunk p.arrays c) → AreOnce p.arrays cs → KeysDiffer (map (spec_of p.arrays) cs)
  differ_in apart [] all once = tt
  differ_in apart (c ∷ cs) all (new, once) = (
    by (is_served (map (spec_of p.arrays) cs) (key_of p.arrays c)) refl,
    differ_in apart cs (λ d listed. all d (behind c d cs listed)) once,
  )
    where
      by : (b : Bool) → is_served (map (spec_of p.arrays) cs) (key_of p.arrays c) ≡ b → is_served (map (spec_of p.arrays) cs) (key_of p.arrays c) ≡ false
      by false e = e
      by true e =
          let (d, listed, is) = served_is cs (key_of p.arrays c) e in
          let same = apart d c (all d (behind c d cs listed)) (all c (first_is c cs)) is in
          absurd (new (subst (Contains cs) same listed))

  pub specs_differ : ChunksApart p → KeysDiffer (specs_of p)
  specs_differ apart = differ_in apart (plan_chunks p) (listed_chunk p) (chunks_once p)

  -- a made key is that of a chunk that the plan makes
  pub made_cell : (key : List ℕ) → IsTrue (is_made (specs_of p) key) → (c : Cell) × IsCell p.arrays c.array c.coord × (key_of p.arrays c ≡ key)
  made_cell key h =
      let (c, listed, made, is) = made_is (plan_chunks p) key h in
      (c, stored_cell p.arrays c (listed_chunk p c listed) made, is)

  pub cell_made : (c : Cell) → IsCell p.arrays c.array c.coord → IsTrue (is_made (specs_of p) (key_of p.arrays c))
  cell_made c piece = made_has (plan_chunks p) c (chunk_listed p c (cell_chunk p.arrays c piece)) piece.made

  -- one that is only read is that of an input's chunk
  pub read_input : (key : List ℕ) → IsTrue (is_served (specs_of p) key) → is_made (specs_of p) key ≡ false → (c : Cell) × IsInputChunk p.arrays c × (key_of p.arrays c ≡ key)
  read_input key h unmade =
      let (c, listed, is) = served_is (plan_chunks p) key h in
      let chunk = listed_chunk p c listed in
      elim (input_or_made (maker_at p.arrays c.array)) [
        | inl given ↦ (c, record { within = chunk.0.0; given = given; coordinate = chunk.0.1 }, is)
        | inr made ↦
            let there = made_has (plan_chunks p) c listed (λ none. none_some (maker_at p.arrays c.array) made.0 none made.1) in
            absurd (true_false (is_made (specs_of p) key) (subst (λ (k : List ℕ). IsTrue (is_made (specs_of p) k)) is there) unmade)
      ]
    where
      true_false : (b : Bool) → IsTrue b → b ≡ false → ⊥
      true_false b h e = cc

  pub input_read : ChunksApart p → (c : Cell) → IsStoredChunk p.arrays c → maker_at p.arrays c.array ≡ None → IsOnlyRead (specs_of p) (key_of p.arrays c)
  input_read apart c chunk given = (
    served_has (plan_chunks p) c (chunk_listed p c chunk),
    by (is_made (specs_of p) (key_of p.arrays c)) refl,
  )
    where
      by : (b : Bool) → is_made (specs_of p) (key_of p.arrays c) ≡ b → is_made (specs_of p) (key_of p.arrays c) ≡ false
      by false e = e
      by true e =
          let (d, piece, is) = made_cell (key_of p.arrays c) e in
          let same = apart d c (cell_chunk p.arrays d piece) chunk is in
          absurd (piece.made (ap (λ (x : Cell). maker_at p.arrays x.array) same ∙ given))
