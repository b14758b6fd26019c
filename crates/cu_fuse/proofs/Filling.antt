-- Lists that are filled one element after another.
use Rattle.std.proofs.Common.{◌≡◌, ℕ, ◌+◌, ◌<◌, List, [], ◌∷◌, ◌++◌, length, map, drop, get_or, append-nil, append_assoc, ap, sym, ◌∙◌, arith}
use Rattle.std.proofs.Math.ListN.{set}
use Rattle.std.specs.List.{range_with_len}
use Rattle.std.proofs.lemmas.List.{drop_all, drop_more, get_or_at, set_at}
use Rattle.std.proofs.lemmas.List.FromFn.{length-map-range_with_len, map-range_with_len_more}

module _ {A : Type 0} (g : ℕ → A) (init cur : List A) (k : ℕ) (e : cur ≡ map g (range_with_len 0 k) ++ drop k init) where
  parts : (d : A) → k < length init → cur ≡ map g (range_with_len 0 k) ++ (get_or init k d ∷ drop (k + 1) init)
  parts d h = e ∙ ap (λ (l : List A). map g (range_with_len 0 k) ++ l) (drop_more init k d h)

  -- the next element is as it was
  pub filled_at : (d : A) → k < length init → get_or cur k d ≡ get_or init k d
  filled_at d h =
      ap (λ (l : List A). get_or l k d) (parts d h)
      ∙ get_or_at (map g (range_with_len 0 k)) (get_or init k d) (drop (k + 1) init) d k (length-map-range_with_len g 0 k)

  more : (y : A) → y ≡ g k → map g (range_with_len 0 k) ++ (y ∷ drop (k + 1) init) ≡ map g (range_with_len 0 (k + 1)) ++ drop (k + 1) init
  more y is =
      ap (λ (z : A). map g (range_with_len 0 k) ++ (z ∷ drop (k + 1) init)) is
      ∙ sym (append_assoc (map g (range_with_len 0 k)) (g k ∷ []) (drop (k + 1) init))
      ∙ ap (λ (l : List A). l ++ drop (k + 1) init) (sym (map-range_with_len_more g 0 k k (omega arith)))

  pub filled_next : (d y : A) → k < length init → y ≡ g k → set cur k y ≡ map g (range_with_len 0 (k + 1)) ++ drop (k + 1) init
  filled_next d y h is =
      ap (λ (l : List A). set l k y) (parts d h)
      ∙ set_at (map g (range_with_len 0 k)) (get_or init k d) (drop (k + 1) init) y k (length-map-range_with_len g 0 k) ∙ more y is

  pub filled_all : length init ≡ k → cur ≡ map g (range_with_len 0 k)
  filled_all long =
      e ∙ ap (λ (l : List A). map g (range_with_len 0 k) ++ l) (drop_all k init (omega (arith, long))) ∙ append-nil (map g (range_with_len 0 k))
