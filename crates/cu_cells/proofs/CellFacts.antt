-- What is so of the cell of a made key with a promise.
use Rattle.std.proofs.Common.{◌≡◌, ℕ, zero, suc, ◌<◌, true, IsTrue, List, [], ◌∷◌, refl, length, get_or, Some, All, sym, ap, ◌∙◌, subst, arith}
use Rattle.std.proofs.lemmas.List.Elements.{All-get_or}
use Rattle.std.proofs.lemmas.Slice.Eq.{bytes_eq-Decides}
use Rattle.cu_store.specs.Yard.{bytes_under, is_made}
use Rattle.cu_store.specs.declared.yard.Spec.{Spec}
use Rattle.cu_store.specs.Held.{Write}
use Rattle.cu_cells.specs.Layout.{Laid, word_count, first_word, cell_size, named_at}
use Rattle.cu_cells.specs.Cells.{place_in, has_cell_in, IsLaidCell, IsFair}
use Rattle.cu_cells.proofs.Found.{stands, made_at, made_from}
use Rattle.cu_cells.proofs.Gets.{seen_cell, seen_promise}
use Rattle.cu_cells.specs.Rule.{IsIn}
use native.Mathlib.Decide.{dec_lt}
use Rattle.std.proofs.lemmas.List.{get_or_past}
use Rattle.cu_cells.proofs.WordPlaces.{size_of_cell, value_of_cell, room_for}

-- the cell of a made key with a promise
pub record HasCell (l : Laid) (bytes : List ℕ) (c : ℕ) : Type 0 where
  pub cell : (first : ℕ) → first ≡ first_word l c → IsLaidCell l c first bytes
  pub long : (s : Spec) → get_or l.specs c s ≡ s → length bytes ≡ s.len

named_here : (ss : List Spec) (promise : List Write) (c : ℕ) (s : Spec) (bytes : List ℕ) → c < length ss → get_or ss c s ≡ s → s.made ≡ true → bytes_under promise s.key ≡ Some bytes → named_at promise ss c ≡ true
named_here [] promise c s bytes less at made told = absurd (omega arith)
named_here (t ∷ ts) promise zero s bytes less at made told = rw (at, made, told) refl
named_here (t ∷ ts) promise (suc c) s bytes less at made told = named_here ts promise c s bytes (omega arith) at made told

pub cell_of : (l : Laid) (key bytes : List ℕ) (c : ℕ) → IsFair l → IsTrue (is_made l.specs key) → bytes_under l.promise key ≡ Some bytes → place_in l.specs key ≡ Some c → HasCell l bytes c
cell_of l key bytes c fair made told is =
    let here = stands l.specs key c is in
    let s = here.spec in
    let at : get_or l.specs c s ≡ s = here.at s in
    let m : s.made ≡ true = subst (λ (x : Spec). x.made ≡ true) at (made_at l.specs key c fair.apart made is s) in
    let k : s.key ≡ key = (bytes_eq-Decides s.key key).0 here.key in
    let promised : bytes_under l.promise s.key ≡ Some bytes = ap (bytes_under l.promise) k ∙ told in
    let long : length bytes ≡ s.len = (subst (λ (x : Spec). IsTrue x.made → (b : List ℕ) → bytes_under l.promise x.key ≡ Some b → length b ≡ x.len) at (All-get_or (λ (x : Spec). IsTrue x.made → (b : List ℕ) → bytes_under l.promise x.key ≡ Some b → length b ≡ x.len) l.specs c s here.less fair.promise.lengths)) m bytes promised in
    let size : cell_size l c ≡ word_count s.len = size_of_cell l c s bytes here.less at m promised in
    record {
      cell = λ first start. record {
        less = here.less;
        named = named_here l.specs l.promise c s bytes here.less at m promised;
        start = start;
        count = size ∙ ap word_count (sym long);
        room = rw start (room_for l c);
        promised = λ j within. rw start (value_of_cell l c j s bytes here.less at m promised (omega (arith, size, within)));
      };
      long = λ t there. long ∙ ap (λ (x : Spec). x.len) (sym (here.at t) ∙ there);
    }

-- what is so where the cell of a made key that was seen is read
pub record IsRead (l pl : Laid) (seen : List ℕ) (key : List ℕ) (c : ℕ) (s : Spec) : Type 0 where
  pub bytes : List ℕ
  pub among : IsIn seen c
  pub told : bytes_under l.promise key ≡ Some bytes
  pub cell : HasCell l bytes c
  pub long : length bytes ≡ s.len
  pub known : has_cell_in pl seen key ≡ true
  pub small : (i : ℕ) → get_or bytes i 0 < 256

pub byte_small : (bytes : List ℕ) (i : ℕ) → All (λ b. b < 256) bytes → Dec (i < length bytes) → get_or bytes i 0 < 256
byte_small bytes i all (yes less) = All-get_or (λ b. b < 256) bytes i 0 less all
byte_small bytes i all (no more) = rw (get_or_past bytes i 0 (omega (arith, more))) (omega arith)

pub read_of : (l pl : Laid) (seen : List ℕ) (key : List ℕ) (c : ℕ) (s : Spec) → pl ≡ l → IsFair l → place_in l.specs key ≡ Some c → get_or l.specs c s ≡ s → s.made ≡ true
    → (IsTrue (is_made l.specs key) → IsTrue (has_cell_in pl seen key)) → IsRead l pl seen key c s
read_of l pl seen key c s laid fair at there made known =
    let m : IsTrue (is_made l.specs key) = made_from l.specs key c s at (ap (λ (x : Spec). x.made) there ∙ made) in
    let k : has_cell_in pl seen key ≡ true = known m in
    let k' : IsTrue (has_cell_in l seen key) = subst (λ (x : Laid). IsTrue (has_cell_in x seen key)) laid k in
    let p = seen_promise l seen key k' in
    let cell = cell_of l key p.0 c fair m p.1 at in
    record {
      bytes = p.0;
      among = seen_cell l seen key c at k';
      told = p.1;
      cell = cell;
      long = cell.long s there;
      known = k;
      small = λ i. byte_small p.0 i (fair.promise.bytes key p.0 p.1) (dec_lt i (length p.0));
    }
