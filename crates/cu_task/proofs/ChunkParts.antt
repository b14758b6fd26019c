-- The parts of a copy's region, one behind another: what is taken into them, and what they have then.
use Rattle.std.proofs.Common.{◌≡◌, ◌⊎◌, inl, inr, ℕ, suc, ◌+◌, ◌-◌, ◌*◌, ◌<◌, ◌≤◌, ℤ, List, [], ◌∷◌, ◌++◌, length, take, drop, Contains, Option, Some, refl, sym, ap, ◌∙◌, subst, arith}
use Rattle.std.specs.Prelude.{map}
use Rattle.std.specs.List.Sorted.{IsStrictlyIncreasing}
use Rattle.std.proofs.lemmas.List.{length-take-le, length-drop, drop-drop, take_at, drop_at, take-append-drop, append_assoc}
use Rattle.std.proofs.lemmas.List.Sums.{sum_by-cons}
use Rattle.std.proofs.lemmas.Nat.{mul-le}
use Rattle.std.proofs.lemmas.Slice.{take-put_mid, drop-put_mid}
use Rattle.std.proofs.Math.Seq.{take-add}
use borrow.Rule.Slice.PartMut.{put_mid}
use Rattle.cu_num.specs.Dtype.{size_of}
use Rattle.cu_num.specs.Element.{element_at, element_bytes}
use Rattle.cu_num.specs.declared.types.Dtype.{Dtype}
use Rattle.cu_num.specs.declared.layout.Endian.TheVariants.{Little}
use Rattle.cu_num.proofs.ElementBytes.{element_at_own}
use Rattle.cu_shape.specs.Index.{product, place_of, quotients, remainders, IsInside}
use Rattle.cu_shape.proofs.Places.{place-below}
use Rattle.cu_grid.specs.Counts.{IsRegion, IsWithin, chunk_lo, chunk_hi, counts_of}
use Rattle.cu_grid.specs.Cover.{covering}
use Rattle.cu_grid.specs.Grid.{RegularGrid, IsGrid, IsCoordinate, IsInChunk}
use Rattle.cu_grid.proofs.Meeting.{exact_of, order_of}
use Rattle.cu_grid.proofs.Parting.{inner_inside}
use Rattle.cu_grid.proofs.Regions.{region_inside}
use Rattle.cu_store.specs.Held.{Contents}
use Rattle.cu_store.specs.Steps.{Shown, Steps}
use Rattle.cu_zarr.specs.Stored.{element_in, stored_element}
use Rattle.cu_codec.specs.Parts.{part, part_at, place_within, IsPartTaken}
use Rattle.cu_op.specs.Elements.{Elements}
use Rattle.cu_op.specs.Layout.{layout_view}
use Rattle.cu_op.specs.TaskView.{TaskView}
use Rattle.cu_op.specs.declared.layout.ArrayInfo.{ArrayInfo}
use Rattle.cu_region.specs.Reading.{key_at, HasChunk, ReadsRegion}
use Rattle.cu_region.specs.Calls.{Made}
use Rattle.cu_region.specs.Writing.{AreElements}
use Rattle.cu_region.proofs.SteadyKeys.{same_or_not, first_or_rest, first_contains, rest_contains, none_contained}
use Rattle.cu_task.proofs.ChunkRegions.{meets_one}
use Rattle.cu_task.proofs.PullTask.{region_elements}
use Rattle.cu_task.specs.ChunkCopies.{region_chunks, made_info, part_lo, part_hi, part_room, room_of_parts, CarriesPart, ChunkBytes, HasEachPart, HavePartsTaken, HoldsPart}
use Rattle.cu_task.specs.OfTask.{ChangeBy}

-- ---- the chunk of a chunk's region

-- a list of one element, in order, has it once
only_one : (f : List ℕ → ℕ) (xs : List (List ℕ)) (c : List ℕ) → Contains xs c → ((d : List ℕ) → Contains xs d → d ≡ c) → IsStrictlyIncreasing (map f xs) → xs ≡ c ∷ []
only_one f [] c has only order = absurd (none_contained c has)
only_one f (x ∷ []) c has only order = ap (λ (y : List ℕ). y ∷ []) (only x (first_contains x []))
only_one f (x ∷ y ∷ ys) c has only order =
    let a = only x (first_contains x (y ∷ ys)) in
    let b = only y (rest_contains x (y ∷ ys) y (first_contains y ys)) in
    let less : f x < f y = order 0 (omega arith) in
    let same : f x ≡ f y = ap f (a ∙ sym b) in
    absurd (omega (arith, less, same))

pub one_covers : (g : RegularGrid) (coord : List ℕ) → IsGrid g → IsCoordinate g coord → ((idx : List ℕ) × IsInChunk g coord idx)
    → covering g.chunk (chunk_lo g.chunk coord) (chunk_hi g.shape g.chunk coord) ≡ coord ∷ []
one_covers g coord ok here some =
    let region = region_inside g.shape g.chunk coord ok.positive ok.ranks here in
    let exact = exact_of g (chunk_lo g.chunk coord) (chunk_hi g.shape g.chunk coord) (covering g.chunk (chunk_lo g.chunk coord) (chunk_hi g.shape g.chunk coord)) ok region refl in
    only_one (λ (x : List ℕ). place_of (counts_of g.shape g.chunk) x) (covering g.chunk (chunk_lo g.chunk coord) (chunk_hi g.shape g.chunk coord)) coord
    ((exact coord).1 (here, (some.0, some.1, some.1)))
    (λ d there. meets_one g coord d ok here ((exact d).0 there))
    (order_of g (chunk_lo g.chunk coord) (chunk_hi g.shape g.chunk coord) (covering g.chunk (chunk_lo g.chunk coord) (chunk_hi g.shape g.chunk coord)) ok region refl)

-- ---- elements

-- an element by its own bytes, whose count is the type's size
number_of_part : (t : Dtype) (size : ℕ) (bytes : List ℕ) (p : ℕ) → size ≡ size_of t → element_at Little t bytes p ≡ element_at Little t (part_at size bytes p) 0
number_of_part t size bytes p e = subst (λ (n : ℕ). element_at Little t bytes p ≡ element_at Little t (part_at n bytes p) 0) (sym e) (element_at_own Little t bytes p)

-- the element of a chunk at an index of the array
chunk_fits : (g : RegularGrid) (size : ℕ) (idx bytes : List ℕ) → IsGrid g → IsInside g.shape idx → length bytes ≡ product g.chunk * size
    → place_of g.chunk (remainders idx g.chunk) * size + size ≤ length bytes
chunk_fits g size idx bytes ok inside long =
    let below = place-below g.chunk (remainders idx g.chunk) (inner_inside g idx ok inside) in
    let far : suc (place_of g.chunk (remainders idx g.chunk)) * size ≤ product g.chunk * size = mul-le _ size (product g.chunk) size below (omega arith) in
    omega (arith, far, long)

module _ (t : TaskView) where
  -- the size of an element
  abbrev size : ℕ
  size = size_of (made_info t).layout.dtype

  -- ---- several parts

  pub parts_more : (P Q : List ℕ → List ℕ → Type 0) (cs : List (List ℕ)) (buf : List ℕ) → room_of_parts t cs ≤ length buf
      → ((c own : List ℕ) → Contains cs c → length own ≡ part_room t c → P c own → Q c own) → HasEachPart t P cs buf → HasEachPart t Q cs buf
  parts_more P Q [] buf room each has = tt
  parts_more P Q (c ∷ cs) buf room each has =
      let sum = sum_by-cons (part_room t) c cs in
      let back = length-drop (part_room t c) buf in (
        each c (take (part_room t c) buf) (first_contains c cs) (length-take-le (part_room t c) buf (omega (arith, sum, room))) has.0,
        parts_more P Q cs (drop (part_room t c) buf) (omega (arith, sum, room, back)) (λ d own there. each d own (rest_contains c cs d there)) has.1,
      )

  pub parts_of_any : (P : List ℕ → List ℕ → Type 0) (cs : List (List ℕ)) (buf : List ℕ) → ((c own : List ℕ) → Contains cs c → P c own) → HasEachPart t P cs buf
  parts_of_any P [] buf each = tt
  parts_of_any P (c ∷ cs) buf each = (
    each c (take (part_room t c) buf) (first_contains c cs),
    parts_of_any P cs (drop (part_room t c) buf) (λ d own there. each d own (rest_contains c cs d there)),
  )

  pub parts_for_all : (X : Type 0) (P : X → List ℕ → List ℕ → Type 0) (cs : List (List ℕ)) (buf : List ℕ) → ((x : X) → HasEachPart t (P x) cs buf)
      → HasEachPart t (λ c own. (x : X) → P x c own) cs buf
  parts_for_all X P [] buf each = tt
  parts_for_all X P (c ∷ cs) buf each = (λ x. (each x).0, parts_for_all X P cs (drop (part_room t c) buf) (λ x. (each x).1))

  -- ---- what is taken of one chunk, part by part

  first_taken : (chunk : ChunkBytes) (c : List ℕ) (cs : List (List ℕ)) (own_old own_new old new : List ℕ) → length own_old ≡ part_room t c → length own_new ≡ part_room t c
      → IsPartTaken size Little (part chunk.grid chunk.coord (part_lo t c) (part_hi t c)) chunk.bytes own_old own_new → HavePartsTaken t chunk cs old new
      → HavePartsTaken t chunk (c ∷ cs) (own_old ++ old) (own_new ++ new)
  first_taken chunk c cs own_old own_new old new long_old long_new one rest =
      rw (take_at own_old old (part_room t c) long_old, take_at own_new new (part_room t c) long_new, drop_at own_old old (part_room t c) long_old, drop_at own_new new (part_room t c) long_new) (one, rest)

  -- up to this byte the parts have theirs, whatever stands behind it for those that are left
  abbrev pub TakenSoFar : ChunkBytes → List (List ℕ) → ℕ → List ℕ → List ℕ → Type 0
  TakenSoFar chunk left at old new = (behind_old behind_new : List ℕ) → HavePartsTaken t chunk left behind_old behind_new
      → HavePartsTaken t chunk (region_chunks t) (take at old ++ behind_old) (take at new ++ behind_new)

  pub taken_none : (chunk : ChunkBytes) (cs : List (List ℕ)) (old new : List ℕ) → cs ≡ region_chunks t → TakenSoFar chunk cs 0 old new
  taken_none chunk cs old new e behind_old behind_new has = subst (λ (xs : List (List ℕ)). HavePartsTaken t chunk xs behind_old behind_new) e has

  pub taken_more : (chunk : ChunkBytes) (c : List ℕ) (rest : List (List ℕ)) (at end : ℕ) (old now own : List ℕ) → end ≡ at + part_room t c → end ≤ length old → length now ≡ length old
      → length own ≡ end - at → drop at now ≡ drop at old
      → IsPartTaken size Little (part chunk.grid chunk.coord (part_lo t c) (part_hi t c)) chunk.bytes (take (end - at) (drop at now)) own
      → TakenSoFar chunk (c ∷ rest) at old now → TakenSoFar chunk rest end old (put_mid at (end - at) now own)
  taken_more chunk c rest at end old now own is room long mine behind one so_far behind_old behind_new has =
      let wide : end - at ≡ part_room t c = omega arith in
      let front : take end old ++ behind_old ≡ take at old ++ (take (part_room t c) (drop at old) ++ behind_old)
      = ap (λ n. take n old ++ behind_old) is ∙ ap (λ (xs : List ℕ). xs ++ behind_old) (take-add at (part_room t c) old) ∙ append_assoc (take at old) (take (part_room t c) (drop at old)) behind_old in
      let back : take end (put_mid at (end - at) now own) ++ behind_new ≡ take at now ++ (own ++ behind_new)
      = ap (λ (xs : List ℕ). xs ++ behind_new) (take-put_mid at (end - at) now own end (omega arith) (omega arith)) ∙ append_assoc (take at now) own behind_new in
      let left = length-drop at old in
      let short = length-take-le (part_room t c) (drop at old) (omega (arith, left, is, room)) in
      let mine_taken : IsPartTaken size Little (part chunk.grid chunk.coord (part_lo t c) (part_hi t c)) chunk.bytes (take (part_room t c) (drop at old)) own
      = subst (λ (xs : List ℕ). IsPartTaken size Little (part chunk.grid chunk.coord (part_lo t c) (part_hi t c)) chunk.bytes xs own) (ap (λ n. take n (drop at now)) wide ∙ ap (take (part_room t c)) behind) one in
      rw (front, back) (so_far (take (part_room t c) (drop at old) ++ behind_old) (own ++ behind_new)
      (first_taken chunk c rest (take (part_room t c) (drop at old)) own behind_old behind_new short (mine ∙ wide) mine_taken has))

  pub taken_all : (chunk : ChunkBytes) (at : ℕ) (old new : List ℕ) → TakenSoFar chunk [] at old new → HavePartsTaken t chunk (region_chunks t) old new
  taken_all chunk at old new so_far = subst (λ (xs : List ℕ). HavePartsTaken t chunk (region_chunks t) xs new) (take-append-drop at old)
      (subst (λ (xs : List ℕ). HavePartsTaken t chunk (region_chunks t) (take at old ++ drop at old) xs) (take-append-drop at new) (so_far (drop at old) (drop at new) tt))

  -- what stands behind a part is as it was
  pub behind_more : (at end : ℕ) (old now own : List ℕ) → at ≤ end → end ≤ length old → length now ≡ length old → length own ≡ end - at → drop at now ≡ drop at old
      → drop end (put_mid at (end - at) now own) ≡ drop end old
  behind_more at end old now own order room long mine behind =
      let sum : at + (end - at) ≡ end = omega arith in
      drop-put_mid at (end - at) now own end (omega arith) (omega arith) mine
      ∙ ap (λ n. drop n now) (sym sum) ∙ sym (drop-drop (end - at) at now) ∙ ap (drop (end - at)) behind ∙ drop-drop (end - at) at old ∙ ap (λ n. drop n old) sum

  -- ---- what has come, chunk by chunk

  -- each element of a part has its chunk among those that are left, or its bytes are as wanted
  abbrev pub ComesSoFar : RegularGrid → (List ℕ → List ℕ → Type 0) → List (List ℕ) → List ℕ → List ℕ → Type 0
  ComesSoFar g Q left c own = (idx : List ℕ) → IsWithin (part_lo t c) (part_hi t c) idx → Contains left (quotients idx g.chunk) ⊎ Q idx (part_at size own (place_within (part_lo t c) (part_hi t c) idx))

  -- the chunk has what is wanted at each of its indices in a part
  abbrev pub Gives : ChunkBytes → (List ℕ → List ℕ → Type 0) → List ℕ → Type 0
  Gives chunk Q c = (idx : List ℕ) → IsWithin (part_lo t c) (part_hi t c) idx → quotients idx chunk.grid.chunk ≡ chunk.coord
      → Q idx (part_at size chunk.bytes (place_of chunk.grid.chunk (remainders idx chunk.grid.chunk)))

  part_comes : (chunk : ChunkBytes) (Q : List ℕ → List ℕ → Type 0) (rest : List (List ℕ)) (c old new : List ℕ) → Gives chunk Q c
      → IsPartTaken size Little (part chunk.grid chunk.coord (part_lo t c) (part_hi t c)) chunk.bytes old new
      → ComesSoFar chunk.grid Q (chunk.coord ∷ rest) c old → ComesSoFar chunk.grid Q rest c new
  part_comes chunk Q rest c old new gives took before idx w =
      elim (same_or_not (quotients idx chunk.grid.chunk) chunk.coord) [
        | inl here ↦ inr (subst (Q idx) (sym (took.taken idx w here)) (gives idx w here))
        | inr apart ↦ elim (before idx w) [
          | inl left ↦ elim (first_or_rest chunk.coord rest (quotients idx chunk.grid.chunk) left) [ inl here ↦ absurd (apart here) | inr later ↦ inl later ]
          | inr come ↦ inr (subst (Q idx) (sym (took.others idx w apart)) come)
        ]
      ]

  pub parts_come : (chunk : ChunkBytes) (Q : List ℕ → List ℕ → Type 0) (rest cs : List (List ℕ)) (old new : List ℕ) → ((c : List ℕ) → Contains cs c → Gives chunk Q c)
      → HavePartsTaken t chunk cs old new → HasEachPart t (ComesSoFar chunk.grid Q (chunk.coord ∷ rest)) cs old → HasEachPart t (ComesSoFar chunk.grid Q rest) cs new
  parts_come chunk Q rest [] old new gives took before = tt
  parts_come chunk Q rest (c ∷ cs) old new gives took before = (
    part_comes chunk Q rest c (take (part_room t c) old) (take (part_room t c) new) (gives c (first_contains c cs)) took.0 before.0,
    parts_come chunk Q rest cs (drop (part_room t c) old) (drop (part_room t c) new) (λ d there. gives d (rest_contains c cs d there)) took.1 before.1,
  )

  -- at first all chunks are left
  pub none_come : (g : RegularGrid) (Q : List ℕ → List ℕ → Type 0) (left cs : List (List ℕ)) (buf : List ℕ)
      → ((c idx : List ℕ) → Contains cs c → IsWithin (part_lo t c) (part_hi t c) idx → Contains left (quotients idx g.chunk)) → HasEachPart t (ComesSoFar g Q left) cs buf
  none_come g Q left cs buf each = parts_of_any (ComesSoFar g Q left) cs buf (λ c own there idx w. inl (each c idx there w))

  come : (g : RegularGrid) (Q : List ℕ → List ℕ → Type 0) (c own idx : List ℕ) → IsWithin (part_lo t c) (part_hi t c) idx → ComesSoFar g Q [] c own
      → Q idx (part_at size own (place_within (part_lo t c) (part_hi t c) idx))
  come g Q c own idx w so_far = elim (so_far idx w) [
    | inl left ↦ absurd (none_contained (quotients idx g.chunk) left)
    | inr there ↦ there
  ]

  -- ---- elements of the type

  abbrev pub IsAnElement : List ℕ → List ℕ → Type 0
  IsAnElement idx bytes = (x : ℤ) × (bytes ≡ element_bytes Little (made_info t).layout.dtype x)

  pub gives_elements : (chunk : ChunkBytes) (c : List ℕ) → IsGrid chunk.grid → length chunk.bytes ≡ product chunk.grid.chunk * size → AreElements (made_info t).layout.dtype chunk.bytes
      → ((idx : List ℕ) → IsWithin (part_lo t c) (part_hi t c) idx → IsInside chunk.grid.shape idx) → Gives chunk IsAnElement c
  gives_elements chunk c ok long elements inside idx w here =
      elements (place_of chunk.grid.chunk (remainders idx chunk.grid.chunk)) (chunk_fits chunk.grid size idx chunk.bytes ok (inside idx w) long)

  pub elements_come : (g : RegularGrid) (c own : List ℕ) → IsRegion (made_info t).layout.grid.shape (part_lo t c) (part_hi t c) → length own ≡ part_room t c
      → ComesSoFar g IsAnElement [] c own → AreElements (made_info t).layout.dtype own
  elements_come g c own region long so_far =
      region_elements (made_info t).layout.grid.shape (part_lo t c) (part_hi t c) (made_info t).layout.dtype own region long (λ idx w. come g IsAnElement c own idx w so_far)

  -- ---- elements that are held

  abbrev pub IsHeldElement : ArrayInfo → Contents → List ℕ → List ℕ → Type 0
  IsHeldElement info held idx bytes = stored_element (layout_view info.layout) info.prefix held idx ≡ Some (element_at Little info.layout.dtype bytes 0)

  pub gives_held : (info : ArrayInfo) (coord bytes c : List ℕ) (held now : Contents) → size ≡ size_of info.layout.dtype → now (key_at info coord) ≡ held (key_at info coord)
      → ((idx : List ℕ) → IsWithin (part_lo t c) (part_hi t c) idx → IsInside info.layout.grid.shape idx) → HasChunk info coord (Some now) bytes
      → Gives (record { grid = info.layout.grid; coord = coord; bytes = bytes }) (IsHeldElement info held) c
  gives_held info coord bytes c held now wide same inside has idx w here =
      let key : now (key_at info (quotients idx info.layout.grid.chunk)) ≡ held (key_at info (quotients idx info.layout.grid.chunk))
      = subst (λ (x : List ℕ). now (key_at info x) ≡ held (key_at info x)) (sym here) same in
      ap (λ (v : Option (List ℕ)). element_in (layout_view info.layout) v idx) (sym key) ∙ has idx (inside idx w) here
      ∙ ap Some (number_of_part info.layout.dtype size bytes (place_of info.layout.grid.chunk (remainders idx info.layout.grid.chunk)) wide)

  pub held_come : (info : ArrayInfo) (held : Contents) (c own : List ℕ) → size ≡ size_of info.layout.dtype → ComesSoFar info.layout.grid (IsHeldElement info held) [] c own
      → ReadsRegion info (part_lo t c) (part_hi t c) (Some held) own
  held_come info held c own wide so_far idx w =
      come info.layout.grid (IsHeldElement info held) c own idx w so_far
      ∙ ap Some (sym (number_of_part info.layout.dtype size own (place_within (part_lo t c) (part_hi t c) idx) wide))

  -- ---- what is written, chunk by chunk

  -- each chunk is among those that are left, or holds its value
  abbrev pub HeldSoFar : Elements → Shown → List (List ℕ) → Type 0
  HeldSoFar env shown left = (coord : List ℕ) → Contains (region_chunks t) coord → Contains left coord ⊎ HoldsPart t env shown coord

  -- the steps of several parts, of whose chunks so many are left, and the calls
  abbrev pub WritesSoFar : List ℕ → ℕ → Shown → Shown → Type 0
  WritesSoFar buf left old new = (calls : ℕ) × (calls + left ≡ length (region_chunks t)) × Made calls old.calls new.calls
      × ((start : Shown) → HasEachPart t (CarriesPart t start) (region_chunks t) buf → Steps (ChangeBy t start) 0 calls old new)
