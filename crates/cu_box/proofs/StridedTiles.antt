-- A tile that is copied by way of a small buffer, into which rows of the source come and from which rows of the target go.
use Rattle.std.proofs.Common.{◌≡◌, ℕ, ◌+◌, ◌*◌, ◌/◌, ◌%◌, ◌<◌, ◌≤◌, List, [], ◌∷◌, length, sym, ap, ◌∙◌, subst, arith}
use Rattle.std.proofs.Math.Nat.{mul-le-mul_right}
use Rattle.std.proofs.lemmas.Nat.{div-mul-add, mod-mul-add, mul-add-lt}
use Rattle.cu_num.specs.Element.{in_order}
use Rattle.cu_num.specs.declared.layout.Endian.{Endian}
use Rattle.cu_num.specs.declared.layout.Endian.TheVariants.{Little}
use Rattle.cu_shape.specs.Index.{IsInside}
use Rattle.cu_box.specs.Order.{part_at}
use Rattle.cu_box.specs.Strided.{up, down, distance, counts, read_place, written_place, IsStridedCopy}
use Rattle.cu_box.specs.StridedSteps.{CanCopy}
use Rattle.cu_box.specs.declared.strides.Axis.{Axis}
use Rattle.cu_box.specs.declared.strides.Start.{Start}
use Rattle.cu_box.specs.declared.strides.Stride.{Stride}
use Rattle.cu_box.specs.declared.strides.Stride.TheVariants.{Up}

-- an axis with these strides
abbrev pub axis_of : ℕ → Stride → Stride → Axis
axis_of n from to = record { count = n; from = from; to = to }

abbrev pub starts_at : ℕ → ℕ → Start
starts_at from to = record { from = from; to = to }

-- numbers below `side` are told by one place in a tile
tile_first : (side i j k l : ℕ) → j < side → l < side → i * side + j ≡ k * side + l → i ≡ k
tile_first side i j k l b d e = sym (div-mul-add i side j b) ∙ ap (λ n. n / side) e ∙ div-mul-add k side l d

tile_second : (side i j k l : ℕ) → j < side → l < side → i * side + j ≡ k * side + l → j ≡ l
tile_second side i j k l b d e = sym (mod-mul-add i side j b) ∙ ap (λ n. n % side) e ∙ mod-mul-add k side l d

-- a place of a tile of `rows` rows lies in its buffer
tile_room : (side rows size room i j : ℕ) → i < rows → j < side → rows * size * side ≤ room → (i * side + j) * size + size ≤ room
tile_room side rows size room i j b d fits =
    let low : i * side + j < side * rows = mul-add-lt i side j rows b d in
    let far : (i * side + j + 1) * size ≤ side * rows * size = mul-le-mul_right size (let l : i * side + j + 1 ≤ side * rows = omega (arith, low) in l) in
    let more : (i * side + j + 1) * size ≡ (i * side + j) * size + size = omega arith in
    let turned : side * rows * size ≡ rows * size * side = omega arith in
    omega (arith, far, more, turned, fits)

-- what holds of each index of two axes
on_two : (n m : ℕ) (P : List ℕ → Type 0) → ((i j : ℕ) → i < n → j < m → P (i ∷ j ∷ [])) → (idx : List ℕ) → IsInside (n ∷ m ∷ []) idx → P idx
on_two n m P f [] h = absurd h
on_two n m P f (i ∷ []) h = absurd h.1
on_two n m P f (i ∷ j ∷ []) h = f i j h.0 h.1.0
on_two n m P f (i ∷ j ∷ k ∷ ks) h = absurd h.1.1

module _ (size : ℕ) (p q : Axis) (start : Start) (source : List ℕ) (target side room : ℕ) (can : CanCopy size (p ∷ q ∷ []) start source target)
    (few_p : p.count ≤ side) (fits : q.count * size * side ≤ room) where
  abbrev whole : List Axis
  whole = p ∷ q ∷ []

  -- rows of the source into the buffer, and from there rows of the target
  abbrev pub axes_in : List Axis
  axes_in = axis_of q.count q.from (Up side) ∷ axis_of p.count p.from (Up 1) ∷ []

  abbrev pub axes_out : List Axis
  axes_out = axis_of p.count (Up 1) p.to ∷ axis_of q.count (Up side) q.to ∷ []

  in_read : (i j : ℕ) → read_place axes_in (starts_at start.from 0) (j ∷ i ∷ []) ≡ read_place whole start (i ∷ j ∷ [])
  in_read i j = omega arith

  in_written : (i j : ℕ) → written_place axes_in (starts_at start.from 0) (j ∷ i ∷ []) ≡ j * side + i
  in_written i j = omega arith

  out_read : (i j : ℕ) → read_place axes_out (starts_at 0 start.to) (i ∷ j ∷ []) ≡ j * side + i
  out_read i j = omega arith

  room_at : (i j : ℕ) → i < p.count → j < q.count → (j * side + i) * size + size ≤ room
  room_at i j bi bj = tile_room side q.count size room j i bj (omega (arith, bi, few_p)) fits

  -- ---- both copies can be made

  in_one : (x y : List ℕ) → IsInside (counts axes_in) x → IsInside (counts axes_in) y → written_place axes_in (starts_at start.from 0) x ≡ written_place axes_in (starts_at start.from 0) y
      → part_at size source (read_place axes_in (starts_at start.from 0) x) ≡ part_at size source (read_place axes_in (starts_at start.from 0) y)
  in_one x y h g = on_two q.count p.count (λ (u : List ℕ). written_place axes_in (starts_at start.from 0) u ≡ written_place axes_in (starts_at start.from 0) y
      → part_at size source (read_place axes_in (starts_at start.from 0) u) ≡ part_at size source (read_place axes_in (starts_at start.from 0) y))
      (λ j i bj bi. on_two q.count p.count (λ (v : List ℕ). written_place axes_in (starts_at start.from 0) (j ∷ i ∷ []) ≡ written_place axes_in (starts_at start.from 0) v
      → part_at size source (read_place axes_in (starts_at start.from 0) (j ∷ i ∷ [])) ≡ part_at size source (read_place axes_in (starts_at start.from 0) v))
      (λ l k bl bk e.
      let same : j * side + i ≡ l * side + k = sym (in_written i j) ∙ e ∙ in_written k l in
      let first : j ≡ l = tile_first side j i l k (omega (arith, bi, few_p)) (omega (arith, bk, few_p)) same in
      let second : i ≡ k = tile_second side j i l k (omega (arith, bi, few_p)) (omega (arith, bk, few_p)) same in
      ap (λ n. part_at size source (read_place axes_in (starts_at start.from 0) (n ∷ i ∷ []))) first ∙ ap (λ n. part_at size source (read_place axes_in (starts_at start.from 0) (l ∷ n ∷ []))) second)
      y g)
      x h

  pub can_in : CanCopy size axes_in (starts_at start.from 0) source room
  can_in = record {
    sized = can.sized;
    places = record {
      read_natural = on_two q.count p.count (λ (x : List ℕ). distance (λ a. down a.from) axes_in x ≤ start.from + distance (λ a. up a.from) axes_in x)
          (λ j i bj bi. (let n = can.places.read_natural (i ∷ j ∷ []) (bi, (bj, tt)) in omega (arith, n)));
      reads = on_two q.count p.count (λ (x : List ℕ). read_place axes_in (starts_at start.from 0) x * size + size ≤ length source)
          (λ j i bj bi. subst (λ (n : ℕ). n * size + size ≤ length source) (sym (in_read i j)) (can.places.reads (i ∷ j ∷ []) (bi, (bj, tt))));
      written_natural = on_two q.count p.count (λ (x : List ℕ). distance (λ a. down a.to) axes_in x ≤ 0 + distance (λ a. up a.to) axes_in x) (λ j i bj bi. omega arith);
      writes = on_two q.count p.count (λ (x : List ℕ). written_place axes_in (starts_at start.from 0) x * size + size ≤ room)
          (λ j i bj bi. subst (λ (n : ℕ). n * size + size ≤ room) (sym (in_written i j)) (room_at i j bi bj));
    };
    each = record { one = in_one };
  }

  module _ (none read : List ℕ) (long : length read ≡ room) (came_in : IsStridedCopy size Little axes_in (starts_at start.from 0) source none read) where
    -- an element of the buffer
    cell : (i j : ℕ) → i < p.count → j < q.count → part_at size read (read_place axes_out (starts_at 0 start.to) (i ∷ j ∷ [])) ≡ part_at size source (read_place whole start (i ∷ j ∷ []))
    cell i j bi bj =
        ap (part_at size read) (out_read i j ∙ sym (in_written i j)) ∙ came_in.copied (j ∷ i ∷ []) (bj, (bi, tt)) ∙ ap (part_at size source) (in_read i j)

    out_one : (x y : List ℕ) → IsInside (counts axes_out) x → IsInside (counts axes_out) y → written_place axes_out (starts_at 0 start.to) x ≡ written_place axes_out (starts_at 0 start.to) y
        → part_at size read (read_place axes_out (starts_at 0 start.to) x) ≡ part_at size read (read_place axes_out (starts_at 0 start.to) y)
    out_one x y h g = on_two p.count q.count (λ (u : List ℕ). written_place axes_out (starts_at 0 start.to) u ≡ written_place axes_out (starts_at 0 start.to) y
        → part_at size read (read_place axes_out (starts_at 0 start.to) u) ≡ part_at size read (read_place axes_out (starts_at 0 start.to) y))
        (λ i j bi bj. on_two p.count q.count (λ (v : List ℕ). written_place axes_out (starts_at 0 start.to) (i ∷ j ∷ []) ≡ written_place axes_out (starts_at 0 start.to) v
        → part_at size read (read_place axes_out (starts_at 0 start.to) (i ∷ j ∷ [])) ≡ part_at size read (read_place axes_out (starts_at 0 start.to) v))
        (λ k l bk bl same. cell i j bi bj ∙ can.each.one (i ∷ j ∷ []) (k ∷ l ∷ []) (bi, (bj, tt)) (bk, (bl, tt)) same ∙ sym (cell k l bk bl))
        y g)
        x h

    pub can_out : CanCopy size axes_out (starts_at 0 start.to) read target
    can_out = record {
      sized = can.sized;
      places = record {
        read_natural = on_two p.count q.count (λ (x : List ℕ). distance (λ a. down a.from) axes_out x ≤ 0 + distance (λ a. up a.from) axes_out x) (λ i j bi bj. omega arith);
        reads = on_two p.count q.count (λ (x : List ℕ). read_place axes_out (starts_at 0 start.to) x * size + size ≤ length read)
            (λ i j bi bj. subst (λ (n : ℕ). read_place axes_out (starts_at 0 start.to) (i ∷ j ∷ []) * size + size ≤ n) (sym long)
            (subst (λ (n : ℕ). n * size + size ≤ room) (sym (out_read i j)) (room_at i j bi bj)));
        written_natural = on_two p.count q.count (λ (x : List ℕ). distance (λ a. down a.to) axes_out x ≤ start.to + distance (λ a. up a.to) axes_out x)
            (λ i j bi bj. can.places.written_natural (i ∷ j ∷ []) (bi, (bj, tt)));
        writes = on_two p.count q.count (λ (x : List ℕ). written_place axes_out (starts_at 0 start.to) x * size + size ≤ target)
            (λ i j bi bj. can.places.writes (i ∷ j ∷ []) (bi, (bj, tt)));
      };
      each = record { one = out_one };
    }

    pub tile_copied : (e : Endian) (old new : List ℕ) → IsStridedCopy size e axes_out (starts_at 0 start.to) read old new → IsStridedCopy size e (p ∷ q ∷ []) start source old new
    tile_copied e old new went_out = record {
      same_length = went_out.same_length;
      copied = on_two p.count q.count (λ (x : List ℕ). part_at size new (written_place whole start x) ≡ in_order e (part_at size source (read_place whole start x)))
          (λ i j bi bj. went_out.copied (i ∷ j ∷ []) (bi, (bj, tt)) ∙ ap (in_order e) (cell i j bi bj));
      others = λ n off. went_out.others n (on_two p.count q.count (λ (x : List ℕ). written_place axes_out (starts_at 0 start.to) x ≡ n → ⊥) (λ i j bi bj. off (i ∷ j ∷ []) (bi, (bj, tt))));
    }
