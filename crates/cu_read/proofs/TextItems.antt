-- The lists of the value that a text is have no more items than the text has bytes.
use Rattle.std.proofs.Common.{◌≡◌, ℕ, suc, ◌+◌, ◌≤◌, Bool, true, false, List, [], ◌∷◌, ◌++◌, length, Option, Some, None, option_map, option_and_then, Ordering, Less, Equal, Greater, refl, ap, ◌∙◌, arith, length-append}
use Rattle.std.specs.Ordering.{nat_cmp, match_ordering}
use Rattle.std.specs.Cmp.Lexicographic.{slice_cmp}
use Rattle.json.specs.Json as json
use Rattle.json.specs.Lex.{Lexeme, token, comma, colon, Class, quote, backslash, operator, space, other, Mode, between, in_word, in_string, in_escape, lex_byte, lex, Place, fresh, after_value, after_comma, after_key, if_allowed, place_token, begins_colon, punctuate, tokens}
use Rattle.json.specs.Token.{Token}
use Rattle.json.specs.Tree.{json_tokens, items_tokens, members_tokens}
use Rattle.json.proofs.Unique.Spelling.{value-json_tokens_back}
use Rattle.serde_json.specs.Data.{Data, Items, no_items, item, Members, no_members, member, put}
use Rattle.serde_json.specs.Read.{of_json, of_items, of_members, number_of, max_depth, read}
use Rattle.cu_read.specs.Size.{item_count, items_count, members_count}

-- ---- tokens

byte_within : (m : Mode) (c : Class) (x : ℕ) (xs : List ℕ) (k : Mode → List Lexeme) (n : ℕ) → ((next : Mode) → length (k next) ≤ n) → length (lex_byte m c x xs k) ≤ suc n
byte_within between quote x xs k n h = let w = h in_string in omega arith
byte_within between backslash x xs k n h = let w = h in_word in omega arith
byte_within between operator x xs k n h = let w = h between in omega arith
byte_within between space x xs k n h = let w = h between in omega arith
byte_within between other x xs k n h = let w = h in_word in omega arith
byte_within in_word quote x xs k n h = let w = h in_word in omega arith
byte_within in_word backslash x xs k n h = let w = h in_word in omega arith
byte_within in_word operator x xs k n h = let w = h between in omega arith
byte_within in_word space x xs k n h = let w = h between in omega arith
byte_within in_word other x xs k n h = let w = h in_word in omega arith
byte_within in_string quote x xs k n h = let w = h between in omega arith
byte_within in_string backslash x xs k n h = let w = h in_escape in omega arith
byte_within in_string operator x xs k n h = let w = h in_string in omega arith
byte_within in_string space x xs k n h = let w = h in_string in omega arith
byte_within in_string other x xs k n h = let w = h in_string in omega arith
byte_within in_escape c x xs k n h = let w = h in_string in omega arith

-- a byte begins one lexeme at most
lexemes_within : (m : Mode) (xs : List ℕ) → length (lex m xs) ≤ length xs
unfolding lex
lexemes_within m [] = omega arith
lexemes_within m (x ∷ xs) = byte_within m _ x xs (λ next. lex next xs) (length xs) (λ next. lexemes_within next xs)

allowed_within : (b : Bool) (t : Token) (k : Place → List Token) (next : Place) (n : ℕ) → ((p : Place) → length (k p) ≤ n) → length (if_allowed b t k next) ≤ suc n
allowed_within true t k next n h = let w = h next in omega arith
allowed_within false t k next n h = omega arith

token_within : (p : Place) (t : Token) (before : Bool) (k : Place → List Token) (n : ℕ) → ((q : Place) → length (k q) ≤ n) → length (place_token p t before k) ≤ suc n
token_within p Token.begin_object before k n h = allowed_within _ _ k fresh n h
token_within p Token.end_object before k n h = allowed_within _ _ k after_value n h
token_within p Token.begin_array before k n h = allowed_within _ _ k fresh n h
token_within p Token.end_array before k n h = allowed_within _ _ k after_value n h
token_within p (Token.key s) before k n h = omega arith
token_within p (Token.string s) true k n h = allowed_within _ _ k after_key n h
token_within p (Token.string s) false k n h = allowed_within _ _ k after_value n h
token_within p (Token.number s) before k n h = allowed_within _ _ k after_value n h
token_within p (Token.boolean b) before k n h = allowed_within _ _ k after_value n h
token_within p Token.null before k n h = allowed_within _ _ k after_value n h
token_within p Token.bad before k n h = omega arith

-- a lexeme is one token at most, and the end another
punctuated_within : (p : Place) (ls : List Lexeme) → length (punctuate p ls) ≤ suc (length ls)
unfolding punctuate
punctuated_within fresh [] = omega arith
punctuated_within after_value [] = omega arith
punctuated_within after_comma [] = omega arith
punctuated_within after_key [] = omega arith
punctuated_within fresh (token t ∷ ls) = token_within fresh t (begins_colon ls) (λ next. punctuate next ls) (suc (length ls)) (λ q. punctuated_within q ls)
punctuated_within after_value (token t ∷ ls) = token_within after_value t (begins_colon ls) (λ next. punctuate next ls) (suc (length ls)) (λ q. punctuated_within q ls)
punctuated_within after_comma (token t ∷ ls) = token_within after_comma t (begins_colon ls) (λ next. punctuate next ls) (suc (length ls)) (λ q. punctuated_within q ls)
punctuated_within after_key (token t ∷ ls) = token_within after_key t (begins_colon ls) (λ next. punctuate next ls) (suc (length ls)) (λ q. punctuated_within q ls)
punctuated_within fresh (comma ∷ ls) = omega arith
punctuated_within after_value (comma ∷ ls) = let w = punctuated_within after_comma ls in omega arith
punctuated_within after_comma (comma ∷ ls) = omega arith
punctuated_within after_key (comma ∷ ls) = omega arith
punctuated_within fresh (colon ∷ ls) = omega arith
punctuated_within after_value (colon ∷ ls) = omega arith
punctuated_within after_comma (colon ∷ ls) = omega arith
punctuated_within after_key (colon ∷ ls) = let w = punctuated_within fresh ls in omega arith

tokens_within : (text : List ℕ) → length (tokens text) ≤ suc (length text)
tokens_within text =
    let p = punctuated_within fresh (lex between text) in
    let l = lexemes_within between text in
    omega arith

-- ---- values

put_by : (o : Ordering) (k l : List ℕ) (d e : Data) (ms rest : Members) → members_count rest ≤ item_count d + members_count ms
    → members_count (match_ordering o (member k d (member l e ms)) (member l d ms) (member l e rest)) ≤ item_count d + (item_count e + members_count ms)
put_by Less k l d e ms rest h = omega arith
put_by Equal k l d e ms rest h = omega arith
put_by Greater k l d e ms rest h = omega arith

put_within : (k : List ℕ) (d : Data) (ms : Members) → members_count (put k d ms) ≤ item_count d + members_count ms
put_within k d no_members = omega arith
put_within k d (member l e ms) = put_by (slice_cmp nat_cmp k l) k l d e ms (put k d ms) (put_within k d ms)

mapped : {A B : Type 0} (f : A → B) (o : Option A) (b : B) → option_map f o ≡ Some b → (a : A) × (o ≡ Some a) × (f a ≡ b)
mapped f (Some a) b h = (a, refl, cc)
mapped f None b h = cc

pub stepped : {A B : Type 0} (f : A → Option B) (o : Option A) (b : B) → option_and_then f o ≡ Some b → (a : A) × (o ≡ Some a) × (f a ≡ Some b)
stepped f (Some a) b h = (a, refl, h)
stepped f None b h = cc

mutual
  json_within : (j : json.Json) (d : Data) → of_json j ≡ Some d → item_count d + 1 ≤ length (json_tokens j)
  json_within json.null d h = let e : Data.null ≡ d = cc in rw (← e) (omega arith)
  json_within (json.boolean b) d h = let e : Data.boolean b ≡ d = cc in rw (← e) (omega arith)
  json_within (json.number s) d h = let m = mapped Data.number (number_of s) d h in rw (← m.2) (omega arith)
  json_within (json.string s) d h = let e : Data.string s ≡ d = cc in rw (← e) (omega arith)
  json_within (json.array js) d h =
      let m = mapped Data.array (of_items js) d h in
      let w = items_within js m.0 m.1 in
      rw (← m.2) (omega arith)
  json_within (json.object ms) d h =
      let m = mapped Data.object (of_members ms no_members) d h in
      let w = members_within ms no_members m.0 m.1 in
      rw (← m.2) (omega arith)

  items_within : (js : json.Items) (ds : Items) → of_items js ≡ Some ds → items_count ds + 1 ≤ length (items_tokens js)
  items_within json.no_items ds h = let e : no_items ≡ ds = cc in rw (← e) (omega arith)
  items_within (json.item j js) ds h =
      let s = stepped (λ d. option_map (item d) (of_items js)) (of_json j) ds h in
      let m = mapped (item s.0) (of_items js) ds s.2 in
      let first = json_within j s.0 s.1 in
      let rest = items_within js m.0 m.1 in
      let whole = length-append (json_tokens j) (items_tokens js) in
      rw (← m.2) (omega arith)

  members_within : (ms : json.Members) (found out : Members) → of_members ms found ≡ Some out → members_count out + 1 ≤ length (members_tokens ms) + members_count found
  members_within json.no_members found out h = let e : found ≡ out = cc in rw (← e) (omega arith)
  members_within (json.member k j ms) found out h =
      let s = stepped (λ d. of_members ms (put k d found)) (of_json j) out h in
      let own = json_within j s.0 s.1 in
      let rest = members_within ms (put k s.0 found) out s.2 in
      let more = put_within k s.0 found in
      let whole = length-append (json_tokens j) (members_tokens ms) in
      omega arith

last : (p : json.Json × List Token) (j : json.Json) → json.if_last p.0 p.1 ≡ Some j → p ≡ (j, [])
last (i, []) j h = let e : i ≡ j = cc in rw e refl
last (i, t ∷ ts) j h = cc

-- the value that a text is
pub text_items : (text : List ℕ) (d : Data) → read text ≡ Some d → item_count d ≤ length text
text_items text d h =
    let s = stepped of_json (option_and_then (λ p. json.if_last p.0 p.1) (json.value max_depth (tokens text))) d h in
    let v = stepped (λ p. json.if_last p.0 p.1) (json.value max_depth (tokens text)) s.0 s.1 in
    let is = last v.0 s.0 v.2 in
    let spelled = value-json_tokens_back max_depth (tokens text) [] s.0 (v.1 ∙ ap (λ p. Some p) is) in
    let whole : length (tokens text) ≡ length (json_tokens s.0 ++ []) = ap length spelled in
    let end = length-append (json_tokens s.0) [] in
    let w = json_within s.0 d s.2 in
    let t = tokens_within text in
    omega arith
