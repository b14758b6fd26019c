-- The first words of cells, one more at a time.
use Rattle.std.proofs.Common.{◌≡◌, ℕ, zero, suc, ◌+◌, ◌<◌, Bool, true, false, List, [], ◌∷◌, ◌++◌, length, length-append, get_or, refl, ap, ◌∙◌, arith}
use Rattle.cu_store.specs.Held.{Write}
use Rattle.cu_store.specs.declared.yard.Spec.{Spec}
use Rattle.cu_cells.specs.Layout.{word_count, cell_words, words_in, data_words, offset}
use Rattle.cu_cells.specs.Starts.{starts_from}
use Rattle.cu_cells.proofs.WordPlaces.{words_length}

pub cell_length : (made : Bool) (len : ℕ) (bytes : List ℕ) → made ≡ true → length (cell_words made len bytes) ≡ word_count len
cell_length true len bytes is = words_length bytes (word_count len)
cell_length false len bytes is = cc

pub no_words : (made : Bool) (len : ℕ) (bytes : List ℕ) → made ≡ false → length (cell_words made len bytes) ≡ 0
no_words false len bytes is = refl
no_words true len bytes is = cc

pub starts_snoc : (p : List Write) (n : ℕ) (ss : List Spec) (s : Spec) → starts_from p n (ss ++ s ∷ []) ≡ starts_from p n ss ++ (n + length (data_words p ss)) ∷ []
starts_snoc p n [] s = ap (λ (x : ℕ). x ∷ []) (omega arith)
starts_snoc p n (t ∷ ts) s = ap (λ (xs : List ℕ). n ∷ xs) (starts_snoc p (n + length (words_in p t)) ts s
    ∙ ap (λ (x : ℕ). starts_from p (n + length (words_in p t)) ts ++ x ∷ []) (omega (arith, length-append (words_in p t) (data_words p ts))))

pub data_snoc : (p : List Write) (ss : List Spec) (s : Spec) → length (data_words p (ss ++ s ∷ [])) ≡ length (data_words p ss) + length (words_in p s)
data_snoc p [] s = omega (arith, length-append (words_in p s) [])
data_snoc p (t ∷ ts) s = omega (arith, length-append (words_in p t) (data_words p (ts ++ s ∷ [])), length-append (words_in p t) (data_words p ts), data_snoc p ts s)

pub starts_at : (p : List Write) (n : ℕ) (ss : List Spec) (c d : ℕ) → c < length ss → get_or (starts_from p n ss) c d ≡ n + offset p ss c
starts_at p n [] c d less = absurd (omega arith)
starts_at p n (s ∷ ss) zero d less = omega arith
starts_at p n (s ∷ ss) (suc c) d less = starts_at p (n + length (words_in p s)) ss c d (omega arith) ∙ omega arith

pub starts_length : (p : List Write) (n : ℕ) (ss : List Spec) → length (starts_from p n ss) ≡ length ss
starts_length p n [] = refl
starts_length p n (s ∷ ss) = ap suc (starts_length p (n + length (words_in p s)) ss)
