-- A value that a test or a look accepts is the value that it is looked for.
use Rattle.std.proofs.Common.{◌≡◌, ℕ, ◌==◌, ◌≤◌, nat_le, List, [], ◌∷◌, ◌++◌, length, bytes_eq, Option, Some, None, is_some, option_map, unwrap_or, refl, sym, ap, subst, ◌∙◌, arith, append_assoc, append-nil, le-leb}
use Rattle.std.specs.Prelude.{Bool as Test, true, false}
use Rattle.std.proofs.lemmas.Bool.{leb-true, eqb-true}
use Rattle.std.proofs.lemmas.Slice.Eq.{bytes_eq-Decides}
use Rattle.serde_json.specs.Data.{unsigned, negative, float, Data, null, boolean, number, string, array, object, Items, no_items, item}
use Rattle.serde_json.specs.Find.{as_null, as_str, as_array}
use Rattle.serde_json.specs.Events.{items_len}
use Rattle.cu_json.specs.Form.{is_text, is_number, is_list_of, as_natural, naturals_after, naturals_of}
use Rattle.cu_v2.specs.Form.{number_items}

-- ---- a value that cannot be absent is there

pub some_of : {A X : Type 0} (o : Option A) → (o ≡ None → ⊥) → ((x : A) → o ≡ Some x → X) → X
some_of None h f = absurd (h refl)
some_of (Some x) h f = f x refl

pub true_of : (b : Test) → (b ≡ false → ⊥) → b ≡ true
true_of true h = refl
true_of false h = absurd (h refl)

pub none_is_no_some : {A : Type 0} (x : A) → None ≡ Some x → ⊥
none_is_no_some x h = cc

-- ---- one value

pub is_null : (d : Data) → is_some (as_null d) ≡ true → d ≡ null
is_null null h = refl
is_null (boolean b) h = cc
is_null (number n) h = cc
is_null (string s) h = cc
is_null (array items) h = cc
is_null (object ms) h = cc

pub is_string : (d : Data) (s : List ℕ) → as_str d ≡ Some s → d ≡ string s
is_string null s h = cc
is_string (boolean b) s h = cc
is_string (number n) s h = cc
is_string (string t) s h = let e : t ≡ s = cc in ap string e
is_string (array items) s h = cc
is_string (object ms) s h = cc

is_array : (d : Data) (items : Items) → as_array d ≡ Some items → d ≡ array items
is_array null s h = cc
is_array (boolean b) s h = cc
is_array (number n) s h = cc
is_array (string t) s h = cc
is_array (array items) s h = let e : items ≡ s = cc in ap array e
is_array (object ms) s h = cc

is_unsigned : (d : Data) (n : ℕ) → as_natural d ≡ Some n → d ≡ number (unsigned n)
is_unsigned null n h = cc
is_unsigned (boolean b) n h = cc
is_unsigned (number (unsigned m)) n h = let e : m ≡ n = cc in ap (λ k. number (unsigned k)) e
is_unsigned (number (negative z)) n h = cc
is_unsigned (number (float x)) n h = cc
is_unsigned (string s) n h = cc
is_unsigned (array items) n h = cc
is_unsigned (object ms) n h = cc

-- ---- a value that may be absent

text_told : (o : Option (List ℕ)) (s : List ℕ) → unwrap_or (option_map (λ found. bytes_eq found s) o) false ≡ true → o ≡ Some s
text_told None s h = cc
text_told (Some found) s h = ap Some ((bytes_eq-Decides found s).0 h)

pub is_this_text : (s : List ℕ) (value : Option Data) → is_text s value ≡ true → value ≡ Some (string s)
is_this_text s None h = cc
is_this_text s (Some d) h = ap Some (is_string d s (text_told (as_str d) s h))

number_told : (o : Option ℕ) (n : ℕ) → unwrap_or (option_map (λ m. m == n) o) false ≡ true → o ≡ Some n
number_told None n h = cc
number_told (Some m) n h = ap Some (eqb-true m n h)

pub is_this_number : (n : ℕ) (value : Option Data) → is_number n value ≡ true → value ≡ Some (number (unsigned n))
is_this_number n None h = cc
is_this_number n (Some d) h = ap Some (is_unsigned d n (number_told (as_natural d) n h))

-- ---- lists

no_items_of : (items : Items) → (items_len items == 0) ≡ true → items ≡ no_items
no_items_of no_items h = refl
no_items_of (item d ds) h = let e = eqb-true (items_len (item d ds)) 0 h in absurd (omega (arith, e))

pub is_empty_list : (d : Data) → is_list_of 0 d ≡ true → d ≡ array no_items
is_empty_list null h = cc
is_empty_list (boolean b) h = cc
is_empty_list (number n) h = cc
is_empty_list (string s) h = cc
is_empty_list (array items) h = ap array (no_items_of items h)
is_empty_list (object ms) h = cc

record ReadsOn (front ns : List ℕ) (items : Items) : Type 0 where
  rest : List ℕ
  whole : ns ≡ front ++ rest
  are : items ≡ number_items rest

are_numbers : (front ns : List ℕ) (items : Items) → naturals_after front items ≡ Some ns → ReadsOn front ns items
are_numbers front ns no_items h = record { rest = []; whole = let e : front ≡ ns = cc in sym e ∙ sym (append-nil front); are = refl }
are_numbers front ns (item d ds) h =
    some_of (as_natural d) (λ none. none_is_no_some ns (rw none at h)) (λ n e.
    let later = are_numbers (front ++ n ∷ []) ns ds (rw e at h) in
    record { rest = n ∷ later.rest; whole = later.whole ∙ append_assoc front (n ∷ []) later.rest; are = ap (λ x. item x ds) (is_unsigned d n e) ∙ ap (item (number (unsigned n))) later.are })

numbers_len : (ns : List ℕ) → items_len (number_items ns) ≡ length ns
numbers_len [] = refl
numbers_len (n ∷ ns) = rw (numbers_len ns) refl

pub record IsSizes (d : Data) (ns : List ℕ) : Type 0 where
  pub is : d ≡ array (number_items ns)
  pub few : length ns ≤ 6

pub are_sizes : (d : Data) (ns : List ℕ) → naturals_of 6 d ≡ Some ns → IsSizes d ns
are_sizes d ns h =
    some_of (as_array d) (λ none. none_is_no_some ns (rw none at h)) (λ items e.
    let h1 = rw e at h in
    let few = true_of (nat_le (items_len items) 6) (λ more. none_is_no_some ns (rw more at h1)) in
    let r = are_numbers [] ns items (rw few at h1) in
    let is : items ≡ number_items ns = r.are ∙ ap number_items (sym r.whole) in
    let long : items_len items ≡ length ns = ap items_len is ∙ numbers_len ns in
    record { is = is_array d items e ∙ ap array is; few = subst (λ k. k ≤ 6) long (leb-true (items_len items) 6 few) })

naturals_back : (front ns : List ℕ) → naturals_after front (number_items ns) ≡ Some (front ++ ns)
naturals_back front [] = ap Some (sym (append-nil front))
naturals_back front (n ∷ ns) = naturals_back (front ++ n ∷ []) ns ∙ ap Some (append_assoc front (n ∷ []) ns)

pub sizes_back : (ns : List ℕ) → length ns ≤ 6 → naturals_of 6 (array (number_items ns)) ≡ Some ns
sizes_back ns few = rw (numbers_len ns, le-leb (length ns) 6 few) (naturals_back [] ns)
