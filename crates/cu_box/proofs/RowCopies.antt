-- Rows that are copied one after another.
use Rattle.std.proofs.Common.{◌≡◌, ◌≢◌, inl, inr, ℕ, ◌+◌, ◌-◌, ◌*◌, ◌<◌, ◌≤◌, List, length, take, drop, refl, ap, ◌∙◌, subst, arith}
use Rattle.std.proofs.lemmas.Bool.{cases_lt}
use Rattle.std.proofs.lemmas.List.{length-take-le, length-drop}
use Rattle.std.proofs.Math.Nat.{mul-le-mul_right}
use Rattle.cu_num.specs.Element.{in_order}
use Rattle.cu_num.specs.declared.layout.Endian.{Endian}
use Rattle.cu_box.specs.Order.{part_at, IsReordered}
use Rattle.cu_box.specs.Rows.{spaced, FitRows, AreApart, AreRowsCopied}
use Rattle.cu_box.specs.declared.rows.Rows.{Rows}
use Rattle.cu_box.proofs.PartRuns.{run_written, part_of_run, part_inside, part_below, part_above, length-run_written, reordered_part, reordered_length}

-- the rows before number k
abbrev pub rows_below : Rows → ℕ → Rows
rows_below rows k = record { run = rows.run; count = k; from = rows.from; to = rows.to }

pub no_rows : (size : ℕ) (e : Endian) (rows : Rows) (source old : List ℕ) → AreRowsCopied size e (rows_below rows 0) source old old
no_rows size e rows source old = record { same_length = refl; copied = λ r j b. absurd (omega arith); others = λ q off. refl }

module _ (size : ℕ) (e : Endian) (rows : Rows) (k : ℕ) (source old before run : List ℕ) (below : k < rows.count)
    (was : AreRowsCopied size e (rows_below rows k) source old before)
    (source_fits : FitRows size rows rows.from source) (target_fits : FitRows size rows rows.to old) (one : AreApart rows)
    (order : IsReordered e size (take (rows.run * size) (drop (spaced rows.from k * size) source)) run) where
  abbrev at : ℕ
  at = spaced rows.to k

  abbrev after : List ℕ
  after = run_written size rows.run before at run

  taken_long : length (take (rows.run * size) (drop (spaced rows.from k * size) source)) ≡ rows.run * size
  taken_long = let b = (source_fits k below).1 in length-take-le (rows.run * size) (drop (spaced rows.from k * size) source) (rw (length-drop (spaced rows.from k * size) source) (omega (arith, b)))

  run_long : length run ≡ rows.run * size
  run_long = reordered_length e size (take (rows.run * size) (drop (spaced rows.from k * size) source)) run order ∙ taken_long

  room : at * size + rows.run * size ≤ length before
  room = let b = (target_fits k below).1 in let n = was.same_length in omega (arith, b, n)

  run_part : (j : ℕ) → j < rows.run → part_at size run j ≡ in_order e (part_at size source (spaced rows.from k + j))
  run_part j b =
      let far : (j + 1) * size ≤ rows.run * size = mul-le-mul_right size (let l : j + 1 ≤ rows.run = omega (arith, b) in l) in
      let one_more : (j + 1) * size ≡ j * size + size = omega arith in
      reordered_part e size j (take (rows.run * size) (drop (spaced rows.from k * size) source)) run order (rw taken_long (omega (arith, far, one_more)))
      ∙ ap (in_order e) (part_of_run size (spaced rows.from k) rows.run j source b)

  -- an element that isn't in the row
  apart : (q : ℕ) → ((j : ℕ) → j < rows.run → at + j ≢ q) → part_at size after q ≡ part_at size before q
  apart q off =
      elim (cases_lt q at) [
        | inl less ↦ part_below size rows.run at q before run less room
        | inr more ↦ elim (cases_lt q (at + rows.run)) [
          | inl within ↦ absurd (off (q - at) (omega (arith, more, within)) (omega (arith, more)))
          | inr past ↦ part_above size rows.run at q before run past run_long room
        ]
      ]

  copied_more : (r j : ℕ) → r < k + 1 → j < rows.run → part_at size after (spaced rows.to r + j) ≡ in_order e (part_at size source (spaced rows.from r + j))
  copied_more r j b h =
      elim (cases_lt r k) [
        | inl earlier ↦
            apart (spaced rows.to r + j) (λ i bi is. (let same : k ≡ r = one k r i j below (omega (arith, earlier, below)) bi h is in omega (arith, same, earlier)))
            ∙ was.copied r j earlier h
        | inr now ↦
            let same : k ≡ r = omega (arith, b, now) in
            subst (λ (n : ℕ). part_at size after (spaced rows.to n + j) ≡ in_order e (part_at size source (spaced rows.from n + j))) same
            (part_inside size rows.run at j before run h run_long room ∙ run_part j h)
      ]

  pub row_more : AreRowsCopied size e (rows_below rows (k + 1)) source old after
  row_more = record {
    same_length = length-run_written size rows.run at before run run_long room ∙ was.same_length;
    copied = copied_more;
    others = λ q off.
        apart q (λ j h is. off k j (omega arith) h is)
        ∙ was.others q (λ r j b h. off r j (omega (arith, b)) h);
  }
