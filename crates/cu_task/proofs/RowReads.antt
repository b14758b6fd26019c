-- Rows of a chunk that are read to where they stand in a region's buffer.
use Rattle.std.proofs.Common.{◌≡◌, ◌⊎◌, inl, inr, ℕ, ◌+◌, ◌-◌, ◌*◌, ◌/◌, ◌%◌, ◌<◌, ◌≤◌, List, [], ◌∷◌, ◌++◌, length, take, drop, set, get_or, Option, refl, sym, ap, ◌∙◌, subst, arith}
use Rattle.std.proofs.lemmas.Bool.{cases_lt}
use Rattle.std.proofs.lemmas.List.{length-append, drop-drop}
use Rattle.std.proofs.lemmas.Nat.{mul-le, div-mul-add, div-add-mod'}
use Rattle.cu_num.specs.Dtype.{size_of}
use Rattle.cu_num.specs.Element.{element_at, element_bytes}
use Rattle.cu_num.specs.declared.layout.Endian.TheVariants.{Little}
use Rattle.cu_num.specs.declared.types.Dtype.{Dtype}
use Rattle.cu_num.proofs.ElementBytes.{InRange-element_at}
use Rattle.cu_shape.specs.Index.{product, place_of, quotients, remainders, sums, products, differences, IsInside}
use Rattle.cu_shape.proofs.Places.{place-below}
use Rattle.cu_grid.specs.Counts.{IsWithin}
use Rattle.cu_grid.proofs.Regions.{coordinate-length}
use Rattle.cu_codec.specs.Parts.{part_at, place_within}
use Rattle.cu_codec.proofs.Shared.{within_sizes}
use Rattle.cu_store.specs.Held.{Contents}
use Rattle.cu_store.specs.Steps.{Shown, NoChange, Steps}
use Rattle.cu_region.specs.Reading.{HasFront}
use Rattle.cu_region.specs.Writing.{AreElements}
use Rattle.cu_view_box.specs.declared.block.Block.{Block}
use Rattle.cu_view_box.proofs.Lined.{spelled_own}
use Rattle.cu_op.specs.Arrays.{type_at}
use Rattle.cu_task.specs.Inputs.{last_bytes}
use Rattle.cu_task.specs.Straight.{behind_first, byte_place, AreSameBehind, HasChunkRows, StandsFrom}
use Rattle.cu_task.specs.ViewJobs.{buffer_in, buffer_room, view_task_of, HaveComeFrom, IsFront, IsSourceChunk}
use Rattle.cu_task.specs.Views.{source_in, IsSourceKey, IsKnown}
use Rattle.cu_task.specs.declared.views.SourceChunk.{SourceChunk}
use Rattle.cu_task.proofs.Fronts.{front_room, in_front}
use Rattle.cu_task.proofs.JobViews.{fitting, source_grid}
use Rattle.cu_task.proofs.StraightReads.{shifted_place}
use Rattle.cu_task.proofs.Tails.{piece_before, piece_behind, piece_within}
use Rattle.cu_task.proofs.ViewChunks.{origin_inside, same_index}
use Rattle.cu_task.proofs.ViewElements.{converts_range, has_element, known_later}

-- ---- the same on all axes but the first

pub some_axes : (is js : List ℕ) → AreSameBehind is js → (0 < length is) × (0 < length js)
some_axes [] js same = absurd same
some_axes (i ∷ is) [] same = absurd same
some_axes (i ∷ is) (j ∷ js) same = (omega arith, omega arith)

pub same_behind : (is js : List ℕ) → 0 < length is → 0 < length js → set is 0 (get_or js 0 0) ≡ js → AreSameBehind is js
same_behind [] js some others same = absurd (omega (arith, some))
same_behind (i ∷ is) [] some others same = absurd (omega (arith, others))
same_behind (i ∷ is) (j ∷ js) some others same = ap behind_first same

-- a row has as many elements as one index of the first axis
pub row_product : (dims : List ℕ) → 0 < length dims → product (set dims 0 1) ≡ product (behind_first dims)
row_product [] some = absurd (omega (arith, some))
row_product (n ∷ ns) some = let one : 1 * product ns ≡ product ns = omega arith in one

-- ---- an element of the region, by the row that it is in

pub record InRow (lo hi chunk coord first idx : List ℕ) : Type 0 where
  pub row : ℕ
  pub rest : ℕ
  pub place : place_within lo hi idx ≡ row * product (behind_first chunk) + rest
  pub short : rest < product (behind_first chunk)
  pub own : quotients (sums first (differences idx lo)) chunk ≡ coord
      → (r : ℕ) × (place_of chunk (remainders (sums first (differences idx lo)) chunk) ≡ r * product (behind_first chunk) + rest) × (get_or first 0 0 + row ≡ get_or (products coord chunk) 0 0 + r)
  pub apart : ¬ (quotients (sums first (differences idx lo)) chunk ≡ coord)
      → (get_or first 0 0 + row < get_or (products coord chunk) 0 0) ⊎ (get_or (products coord chunk) 0 0 + get_or chunk 0 0 ≤ get_or first 0 0 + row)

-- an index is in the chunk, in front of it, or behind it
index_apart : (m q c : ℕ) → ¬ (m / c ≡ q) → (m < q * c) ⊎ (q * c + c ≤ m)
index_apart m q c none =
    elim (cases_lt m (q * c)) [
      | inl less ↦ inl less
      | inr from ↦ elim (cases_lt m (q * c + c)) [
        | inl below ↦
            let whole : q * c + (m - q * c) ≡ m = omega arith in
            absurd (none (ap (λ (n : ℕ). n / c) (sym whole) ∙ div-mul-add q c (m - q * c) (omega arith)))
        | inr more ↦ inr more
      ]
    ]

pub in_row : (lo hi chunk coord first idx : List ℕ) → AreSameBehind (differences hi lo) chunk → AreSameBehind first (products coord chunk) → length coord ≡ length chunk
    → IsWithin lo hi idx → InRow lo hi chunk coord first idx
in_row [] [] chunk coord first idx sizes starts rank w = absurd sizes
in_row [] (h ∷ hi) chunk coord first idx sizes starts rank w = absurd w
in_row (l ∷ lo) [] chunk coord first idx sizes starts rank w = absurd w
in_row (l ∷ lo) (h ∷ hi) [] coord first idx sizes starts rank w = absurd sizes
in_row (l ∷ lo) (h ∷ hi) (c ∷ chunk) [] [] idx sizes starts rank w = absurd starts
in_row (l ∷ lo) (h ∷ hi) (c ∷ chunk) [] (n ∷ first) idx sizes starts rank w = absurd starts
in_row (l ∷ lo) (h ∷ hi) (c ∷ chunk) (q ∷ coord) [] idx sizes starts rank w = absurd starts
in_row (l ∷ lo) (h ∷ hi) (c ∷ chunk) (q ∷ coord) (n ∷ first) [] sizes starts rank w = absurd w
in_row (l ∷ lo) (h ∷ hi) (c ∷ chunk) (q ∷ coord) (n ∷ first) (x ∷ idx) sizes starts rank w =
    let inside : IsInside chunk (differences idx lo) = subst (λ (d : List ℕ). IsInside d (differences idx lo)) sizes (within_sizes lo hi idx w.2) in
    let at = shifted_place chunk coord (differences idx lo) (omega (arith, rank)) inside in
    let there : quotients (sums first (differences idx lo)) chunk ≡ coord = ap (λ (f : List ℕ). quotients (sums f (differences idx lo)) chunk) starts ∙ at.0 in
    let rest : remainders (sums first (differences idx lo)) chunk ≡ differences idx lo = ap (λ (f : List ℕ). remainders (sums f (differences idx lo)) chunk) starts ∙ at.1 in
    record {
      row = x - l;
      rest = place_of chunk (differences idx lo);
      place = ap (λ (d : List ℕ). (x - l) * product d + place_of d (differences idx lo)) sizes;
      short = place-below chunk (differences idx lo) inside;
      own = λ part.
          let quotient : (n + (x - l)) / c ≡ q = ap (λ (is : List ℕ). get_or is 0 0) part in
          let whole = div-add-mod' (n + (x - l)) c in
          let same : (n + (x - l)) / c * c ≡ q * c = ap (λ (k : ℕ). k * c) quotient in (
            (n + (x - l)) % c,
            ap (λ (is : List ℕ). (n + (x - l)) % c * product chunk + place_of chunk is) rest,
            omega (arith, whole, same),
          );
      apart = λ none. index_apart (n + (x - l)) q c (λ same. none (join (n + (x - l)) c q _ coord same there));
    }
  where
    join : (m c q : ℕ) (is coord : List ℕ) → m / c ≡ q → is ≡ coord → m / c ∷ is ≡ q ∷ coord
    join m c q is coord same others = ap (λ (k : ℕ). k ∷ is) same ∙ ap (λ (js : List ℕ). q ∷ js) others

-- ---- their bytes

-- `row` bytes are a row; the chunk's first row stands at `at`, and the region's behind `before` bytes
row_alike : (at before row n f d r : ℕ) → at + n * row ≡ before + f * row → n + d ≡ f + r → before + d * row ≡ at + r * row
row_alike at before row n f d r here same =
    let both : (n + d) * row ≡ (f + r) * row = ap (λ (k : ℕ). k * row) same in
    omega (arith, here, both)

bytes_alike : (at before row size count n f d r rest p o : ℕ) → row ≡ count * size → at + n * row ≡ before + f * row → n + d ≡ f + r → p ≡ d * count + rest → o ≡ r * count + rest
    → before + p * size ≡ at + o * size
bytes_alike at before row size count n f d r rest p o long here same ep eo =
    let alike = row_alike at before row n f d r here same in
    let first : p * size ≡ (d * count + rest) * size = ap (λ (k : ℕ). k * size) ep in
    let second : o * size ≡ (r * count + rest) * size = ap (λ (k : ℕ). k * size) eo in
    let third : d * row ≡ d * (count * size) = ap (λ (k : ℕ). d * k) long in
    let fourth : r * row ≡ r * (count * size) = ap (λ (k : ℕ). r * k) long in
    omega (arith, alike, first, second, third, fourth)

bytes_before : (at before row size count n f d rest p : ℕ) → row ≡ count * size → at + n * row ≡ before + f * row → n + d < f → p ≡ d * count + rest → rest < count
    → before + p * size + size ≤ at
bytes_before at before row size count n f d rest p long here less ep short =
    let far = mul-le (n + d + 1) row f row (omega (arith, less)) (omega arith) in
    let within = mul-le (d * count + rest + 1) size (d * count + count) size (omega (arith, short)) (omega arith) in
    let first : p * size ≡ (d * count + rest) * size = ap (λ (k : ℕ). k * size) ep in
    let third : (d + 1) * row ≡ (d + 1) * (count * size) = ap (λ (k : ℕ). (d + 1) * k) long in
    omega (arith, here, far, within, first, third)

bytes_behind : (at before row size count n f d c rest p : ℕ) → row ≡ count * size → at + n * row ≡ before + f * row → f + c ≤ n + d → p ≡ d * count + rest
    → at + c * count * size ≤ before + p * size
bytes_behind at before row size count n f d c rest p long here more ep =
    let far = mul-le (f + c) row (n + d) row more (omega arith) in
    let first : p * size ≡ (d * count + rest) * size = ap (λ (k : ℕ). k * size) ep in
    let second : d * row ≡ d * (count * size) = ap (λ (k : ℕ). d * k) long in
    let third : c * row ≡ c * (count * size) = ap (λ (k : ℕ). c * k) long in
    omega (arith, here, far, first, second, third)

-- a chunk's rows
chunk_product : (dims : List ℕ) → 0 < length dims → product dims ≡ get_or dims 0 0 * product (behind_first dims)
chunk_product [] some = absurd (omega (arith, some))
chunk_product (n ∷ ns) some = refl

module _ (chunk : SourceChunk) (h : IsSourceChunk chunk) where
  pub stands_from : HasChunkRows chunk → (before at row : ℕ) → row ≡ product (behind_first (source_in (view_task_of chunk.job.now) chunk.source).layout.grid.chunk) * size_of (source_in (view_task_of chunk.job.now) chunk.source).layout.dtype
      → at + get_or chunk.needed.lo 0 0 * row ≡ before + get_or (products chunk.coord (source_in (view_task_of chunk.job.now) chunk.source).layout.grid.chunk) 0 0 * row → StandsFrom chunk before at
  stands_from rows before at row long here =
      let v = view_task_of chunk.job.now in
      let dims = (source_in (view_task_of chunk.job.now) chunk.source).layout.grid.chunk in
      let dtype = (source_in (view_task_of chunk.job.now) chunk.source).layout.dtype in
      let ok = source_grid chunk.job.now h.job chunk.source h.source in
      let rank : length chunk.coord ≡ length (source_in (view_task_of chunk.job.now) chunk.source).layout.grid.chunk
      = coordinate-length (source_in (view_task_of chunk.job.now) chunk.source).layout.grid chunk.coord ok h.coordinate ∙ sym ok.ranks in
      let some = (some_axes _ _ rows.sizes).1 in
      record {
        dtype = rows.dtype;
        own = λ idx i w o part.
            let is : i ≡ sums chunk.needed.lo (differences idx (view_task_of chunk.job.now).lo) = same_index chunk.source chunk.source i _ (sym o ∙ rows.shifted idx w) in
            let facts = in_row (view_task_of chunk.job.now).lo (view_task_of chunk.job.now).hi dims chunk.coord chunk.needed.lo idx rows.sizes rows.starts rank w in
            let (r, place, same) = facts.own (ap (λ (j : List ℕ). quotients j (source_in (view_task_of chunk.job.now) chunk.source).layout.grid.chunk) (sym is) ∙ part) in
            let there = ap (λ (j : List ℕ). place_of (source_in (view_task_of chunk.job.now) chunk.source).layout.grid.chunk (remainders j (source_in (view_task_of chunk.job.now) chunk.source).layout.grid.chunk)) is ∙ place in
            ap (λ (t : Dtype). before + place_within (view_task_of chunk.job.now).lo (view_task_of chunk.job.now).hi idx * size_of t) (sym rows.dtype)
            ∙ bytes_alike at before row (size_of dtype) (product (behind_first dims)) (get_or chunk.needed.lo 0 0) (get_or (products chunk.coord dims) 0 0) facts.row r facts.rest _ _ long here same facts.place there;
        others = λ idx w none.
            let facts = in_row (view_task_of chunk.job.now).lo (view_task_of chunk.job.now).hi dims chunk.coord chunk.needed.lo idx rows.sizes rows.starts rank w in
            let size : size_of (type_at v.arrays v.out) ≡ size_of (source_in (view_task_of chunk.job.now) chunk.source).layout.dtype = ap size_of (sym rows.dtype) in
            let byte = ap (λ (n : ℕ). before + place_within (view_task_of chunk.job.now).lo (view_task_of chunk.job.now).hi idx * n) size in
            elim (facts.apart (none (sums chunk.needed.lo (differences idx (view_task_of chunk.job.now).lo)) (rows.shifted idx w))) [
              | inl less ↦
                  let own = bytes_before at before row (size_of dtype) (product (behind_first dims)) (get_or chunk.needed.lo 0 0) (get_or (products chunk.coord dims) 0 0) facts.row facts.rest _ long here less facts.place facts.short in
                  inl (omega (arith, byte, own))
              | inr more ↦
                  let own = bytes_behind at before row (size_of dtype) (product (behind_first dims)) (get_or chunk.needed.lo 0 0) (get_or (products chunk.coord dims) 0 0) facts.row (get_or dims 0 0) facts.rest _ long here more facts.place in
                  let all = ap (λ (n : ℕ). n * size_of (source_in (view_task_of chunk.job.now) chunk.source).layout.dtype) (chunk_product dims some) in
                  inr (omega (arith, byte, own, all))
            ];
      }

  -- ---- a front that was read there

  -- an element in the memory, whose region's buffer is its end
  piece_in : (size place count : ℕ) (room : List ℕ) → part_at size (last_bytes count room) place ≡ take size (drop (length room - count + place * size) room)
  piece_in size place count room = ap (take size) (drop-drop (place * size) (length room - count) room)

  pub takes_rows : (front : Block) → IsFront chunk front → (before at : ℕ) → StandsFrom chunk before at → (pre old rows post : List ℕ) → length pre ≡ at → length rows ≡ product front.dims * size_of front.dtype
      → length old ≡ length rows → before ≡ length (pre ++ (old ++ post)) - buffer_room (view_task_of chunk.job.now)
      → (told : Option Contents) (first mid : Shown) → IsKnown (IsSourceKey (view_task_of chunk.job.now) chunk.source) told first → Steps NoChange 1 1 first mid
      → HasFront (source_in (view_task_of chunk.job.now) chunk.source) chunk.coord mid.held rows → AreElements (source_in (view_task_of chunk.job.now) chunk.source).layout.dtype rows
      → HaveComeFrom chunk told (buffer_in (view_task_of chunk.job.now) (pre ++ (old ++ post))) (buffer_in (view_task_of chunk.job.now) (pre ++ (rows ++ post)))
  takes_rows front f before at stands pre old rows post here long same all told first mid known step has elements =
      let v = view_task_of chunk.job.now in
      let dtype = (source_in (view_task_of chunk.job.now) chunk.source).layout.dtype in
      let fit = fitting chunk.job.now h.job in
      let old_length = length-append pre (old ++ post) in
      let new_length = length-append pre (rows ++ post) in
      let old_rest = length-append old post in
      let new_rest = length-append rows post in
      let before_new : before ≡ length (pre ++ (rows ++ post)) - buffer_room (view_task_of chunk.job.now) = omega (arith, all, old_length, new_length, old_rest, new_rest, same) in
      let size : size_of (type_at v.arrays v.out) ≡ size_of (source_in (view_task_of chunk.job.now) chunk.source).layout.dtype = ap size_of (sym stands.dtype) in
      record {
        come = λ idx i w o part.
            let own = origin_inside (view_task_of chunk.job.now) fit idx i chunk.source w o in
            let later = known_later (view_task_of chunk.job.now) chunk.source told 1 1 first mid known step in
            let fits = in_front chunk h front f rows long idx i w o part in
            let p = place_of (source_in (view_task_of chunk.job.now) chunk.source).layout.grid.chunk (remainders i (source_in (view_task_of chunk.job.now) chunk.source).layout.grid.chunk) in
            let there = stands.own idx i w o part in
            let number = element_at Little dtype rows p in
            record {
              number = number;
              range = converts_range v.pull dtype (type_at v.arrays v.out) (fit.fits.types chunk.source 0 h.source) _ (InRange-element_at Little dtype rows p);
              element = later.element i _ own.coordinate (has_element (view_task_of chunk.job.now) chunk.source chunk.coord rows later.now mid i later.known has own.inside part fits);
              bytes = piece_in (size_of (type_at v.arrays v.out)) (place_within v.lo v.hi idx) (buffer_room v) (pre ++ (rows ++ post))
                  ∙ ap (λ (n : ℕ). take (size_of (type_at v.arrays v.out)) (drop (n + place_within v.lo v.hi idx * size_of (type_at v.arrays v.out)) (pre ++ (rows ++ post)))) (sym before_new)
                  ∙ ap (λ (n : ℕ). take (size_of (type_at v.arrays v.out)) (drop n (pre ++ (rows ++ post)))) there
                  ∙ piece_within pre rows post at (p * size_of dtype) (size_of (type_at v.arrays v.out)) here (omega (arith, size, fits))
                  ∙ ap (λ (t : Dtype). take (size_of t) (drop (p * size_of (source_in (view_task_of chunk.job.now) chunk.source).layout.dtype) rows)) (sym stands.dtype)
                  ∙ spelled_own dtype rows p elements fits
                  ∙ ap (λ (t : Dtype). element_bytes Little t (element_at Little (source_in (view_task_of chunk.job.now) chunk.source).layout.dtype rows (place_of (source_in (view_task_of chunk.job.now) chunk.source).layout.grid.chunk (remainders i (source_in (view_task_of chunk.job.now) chunk.source).layout.grid.chunk)))) stands.dtype;
            };
        others = λ idx w none.
            let byte = byte_place (view_task_of chunk.job.now) before idx in
            let in_new = piece_in (size_of (type_at v.arrays v.out)) (place_within v.lo v.hi idx) (buffer_room v) (pre ++ (rows ++ post))
            ∙ ap (λ (n : ℕ). take (size_of (type_at v.arrays v.out)) (drop (n + place_within v.lo v.hi idx * size_of (type_at v.arrays v.out)) (pre ++ (rows ++ post)))) (sym before_new) in
            let in_old = piece_in (size_of (type_at v.arrays v.out)) (place_within v.lo v.hi idx) (buffer_room v) (pre ++ (old ++ post))
            ∙ ap (λ (n : ℕ). take (size_of (type_at v.arrays v.out)) (drop (n + place_within v.lo v.hi idx * size_of (type_at v.arrays v.out)) (pre ++ (old ++ post)))) (sym all) in
            in_new ∙ untouched idx byte (stands.others idx w none) (front_room chunk front f) ∙ sym in_old;
      }
    where
      untouched : (idx : List ℕ) (byte : ℕ) → (byte + size_of (source_in (view_task_of chunk.job.now) chunk.source).layout.dtype ≤ at) ⊎ (at + product (source_in (view_task_of chunk.job.now) chunk.source).layout.grid.chunk * size_of (source_in (view_task_of chunk.job.now) chunk.source).layout.dtype ≤ byte)
          → product front.dims * size_of front.dtype ≤ product (source_in (view_task_of chunk.job.now) chunk.source).layout.grid.chunk * size_of (source_in (view_task_of chunk.job.now) chunk.source).layout.dtype
          → take (size_of (type_at (view_task_of chunk.job.now).arrays (view_task_of chunk.job.now).out)) (drop byte (pre ++ (rows ++ post))) ≡ take (size_of (type_at (view_task_of chunk.job.now).arrays (view_task_of chunk.job.now).out)) (drop byte (pre ++ (old ++ post)))
      untouched idx byte (inl less) few =
          let size : size_of (type_at (view_task_of chunk.job.now).arrays (view_task_of chunk.job.now).out) ≡ size_of (source_in (view_task_of chunk.job.now) chunk.source).layout.dtype = ap size_of (sym stands.dtype) in
          piece_before pre (rows ++ post) byte _ (omega (arith, less, here, size)) ∙ sym (piece_before pre (old ++ post) byte _ (omega (arith, less, here, size)))
      untouched idx byte (inr more) few =
          piece_behind pre rows post at byte _ here (omega (arith, more, few, long))
          ∙ ap (λ (n : ℕ). take (size_of (type_at (view_task_of chunk.job.now).arrays (view_task_of chunk.job.now).out)) (drop (byte - (at + n)) post)) (sym same)
          ∙ sym (piece_behind pre old post at byte _ here (omega (arith, more, few, long, same)))
