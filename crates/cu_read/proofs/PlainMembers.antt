-- An object whose members are all named, and have no float, has none.
use Rattle.std.proofs.Common.{◌≡◌, ℕ, suc, ◌+◌, ◌&&◌, ◌||◌, Bool, true, false, not, List, [], ◌∷◌, nat_cmp, bytes_eq, Option, Some, None, Ordering, Less, Equal, Greater, is_eq, refl, sym, ap, subst, ◌∙◌, true≢false, arith}
use Rattle.std.specs.Cmp.Lexicographic.{slice_cmp}
use Rattle.std.specs.List.{list_any}
use Rattle.std.specs.Ordering.{match_ordering}
use Rattle.std.specs.Prelude.{is_some, is_none, if◌then◌else◌, option_and_then}
use Rattle.std.proofs.lemmas.Bool.{and_parts, eqb-true, not-true}
use Rattle.std.proofs.lemmas.Map.Text.{is_eq-slice_cmp}
use Rattle.std.proofs.lemmas.Slice.Eq.{bytes_eq-Decides}
use Rattle.serde_json.specs.Data.{Data, Members, no_members, member}
use Rattle.serde_json.specs.Events.{members_len}
use Rattle.serde_json.specs.Find.{get, get_member}
use Rattle.serde_json.specs.Written.{has_float, members_have_float}
use Rattle.cu_json.specs.Form.{is_object_of}
use Rattle.cu_read.specs.Members.{present, Has, MayHave}
use Rattle.cu_read.proofs.TextItems.{stepped}

-- ---- the members but one

-- the members but the first of this name
abbrev others : List ℕ → Members → Members
others k no_members = no_members
others k (member l e ms) = match_ordering (slice_cmp nat_cmp k l) (member l e (others k ms)) ms (member l e (others k ms))

one_fewer_at : (o : Ordering) (k l : List ℕ) (d e : Data) (ms : Members) → (get_member k ms ≡ Some d → members_len ms ≡ suc (members_len (others k ms)))
    → match_ordering o (get_member k ms) (Some e) (get_member k ms) ≡ Some d
    → suc (members_len ms) ≡ suc (members_len (match_ordering o (member l e (others k ms)) ms (member l e (others k ms))))
one_fewer_at Less k l d e ms later h = ap suc (later h)
one_fewer_at Equal k l d e ms later h = refl
one_fewer_at Greater k l d e ms later h = ap suc (later h)

one_fewer : (k : List ℕ) (ms : Members) (d : Data) → get_member k ms ≡ Some d → members_len ms ≡ suc (members_len (others k ms))
one_fewer k no_members d h = cc
one_fewer k (member l e ms) d h = one_fewer_at (slice_cmp nat_cmp k l) k l d e ms (one_fewer k ms d) h

left_out_at : (o : Ordering) (k l : List ℕ) (d e : Data) (ms : Members) → has_float d ≡ false → (get_member k ms ≡ Some d → members_have_float ms ≡ members_have_float (others k ms))
    → match_ordering o (get_member k ms) (Some e) (get_member k ms) ≡ Some d
    → (has_float e || members_have_float ms) ≡ members_have_float (match_ordering o (member l e (others k ms)) ms (member l e (others k ms)))
left_out_at Less k l d e ms plain later h = ap (λ b. has_float e || b) (later h)
left_out_at Equal k l d e ms plain later h =
    let same : e ≡ d = cc in
    rw (same, plain) refl
left_out_at Greater k l d e ms plain later h = ap (λ b. has_float e || b) (later h)

-- a member that has no float makes no difference
left_out : (k : List ℕ) (ms : Members) (d : Data) → has_float d ≡ false → get_member k ms ≡ Some d → members_have_float ms ≡ members_have_float (others k ms)
left_out k no_members d plain h = refl
left_out k (member l e ms) d plain h = left_out_at (slice_cmp nat_cmp k l) k l d e ms plain (left_out k ms d plain) h

not_equal : (o : Ordering) (a b : Option Data) → is_eq o ≡ false → match_ordering o a b a ≡ a
not_equal Less a b e = refl
not_equal Equal a b e = absurd (true≢false e)
not_equal Greater a b e = refl

still_there_at : (o : Ordering) (q k l : List ℕ) (e : Data) (ms : Members) → slice_cmp nat_cmp k l ≡ o → bytes_eq q k ≡ false → get_member q (others k ms) ≡ get_member q ms
    → get_member q (match_ordering o (member l e (others k ms)) ms (member l e (others k ms))) ≡ match_ordering (slice_cmp nat_cmp q l) (get_member q ms) (Some e) (get_member q ms)
still_there_at Less q k l e ms is other later = ap (λ r. match_ordering (slice_cmp nat_cmp q l) r (Some e) r) later
still_there_at Equal q k l e ms is other later =
    let same : k ≡ l = (bytes_eq-Decides k l).0 (sym (is_eq-slice_cmp k l) ∙ ap is_eq is) in
    let apart : bytes_eq q l ≡ false = subst (λ (n : List ℕ). bytes_eq q n ≡ false) same other in
    sym (not_equal (slice_cmp nat_cmp q l) (get_member q ms) (Some e) (is_eq-slice_cmp q l ∙ apart))
still_there_at Greater q k l e ms is other later = ap (λ r. match_ordering (slice_cmp nat_cmp q l) r (Some e) r) later

-- a member of another name is still there
still_there : (q k : List ℕ) (ms : Members) → bytes_eq q k ≡ false → get_member q (others k ms) ≡ get_member q ms
still_there q k no_members other = refl
still_there q k (member l e ms) other = still_there_at (slice_cmp nat_cmp k l) q k l e ms refl other (still_there q k ms other)

-- ---- all members

-- the value isn't there, or has no float
abbrev IsPlain : Option Data → Type 0
IsPlain None = Unit {0}
IsPlain (Some d) = has_float d ≡ false

abbrev ArePlain : List (List ℕ) → Data → Type 0
ArePlain [] d = Unit {0}
ArePlain (k ∷ ks) d = IsPlain (get k d) × ArePlain ks d

-- how many of these names have a member
abbrev present_of : List (List ℕ) → Data → ℕ
present_of [] d = 0
present_of (k ∷ ks) d = present k d + present_of ks d

-- no name is twice among these
abbrev pub are_distinct : List (List ℕ) → Bool
are_distinct [] = true
are_distinct (k ∷ ks) = not (list_any (λ q. bytes_eq q k) ks) && are_distinct ks

neither : (a b : Bool) → (a || b) ≡ false → (a ≡ false) × (b ≡ false)
neither true b h = absurd (true≢false h)
neither false b h = (refl, h)

still_plain : (k : List ℕ) (ks : List (List ℕ)) (ms : Members) → list_any (λ q. bytes_eq q k) ks ≡ false → ArePlain ks (Data.object ms) → ArePlain ks (Data.object (others k ms))
still_plain k [] ms new plain = tt
still_plain k (q ∷ ks) ms new plain =
    let parts = neither (bytes_eq q k) (list_any (λ q. bytes_eq q k) ks) new in (
      subst IsPlain (sym (still_there q k ms parts.0)) plain.0,
      still_plain k ks ms parts.1 plain.1,
    )

still_present : (k : List ℕ) (ks : List (List ℕ)) (ms : Members) → list_any (λ q. bytes_eq q k) ks ≡ false → present_of ks (Data.object (others k ms)) ≡ present_of ks (Data.object ms)
still_present k [] ms new = refl
still_present k (q ∷ ks) ms new =
    let parts = neither (bytes_eq q k) (list_any (λ q. bytes_eq q k) ks) new in
    rw (still_there q k ms parts.0, still_present k ks ms parts.1) refl

none_left : (ms : Members) → members_len ms ≡ 0 → members_have_float ms ≡ false
none_left no_members e = refl
none_left (member l d ms) e = absurd (omega arith)

plain_but : (found : Option Data) (k : List ℕ) (ks : List (List ℕ)) (ms : Members) → get_member k ms ≡ found → IsPlain found → list_any (λ q. bytes_eq q k) ks ≡ false
    → ArePlain ks (Data.object ms) → members_len ms ≡ (if is_some found then 1 else 0) + present_of ks (Data.object ms)
    → ((left : Members) → ArePlain ks (Data.object left) → members_len left ≡ present_of ks (Data.object left) → members_have_float left ≡ false) → members_have_float ms ≡ false
plain_but None k ks ms is plain new rest count later = later ms rest (omega arith)
plain_but (Some d) k ks ms is plain new rest count later =
    let fewer = one_fewer k ms d is in
    let same = still_present k ks ms new in
    left_out k ms d plain is ∙ later (others k ms) (still_plain k ks ms new rest) (omega arith)

members_plain : (ks : List (List ℕ)) (ms : Members) → are_distinct ks ≡ true → ArePlain ks (Data.object ms) → members_len ms ≡ present_of ks (Data.object ms) → members_have_float ms ≡ false
members_plain [] ms apart plain count = none_left ms count
members_plain (k ∷ ks) ms apart plain count =
    let parts = and_parts (not (list_any (λ q. bytes_eq q k) ks)) (are_distinct ks) apart in
    plain_but (get_member k ms) k ks ms refl plain.0 (not-true (list_any (λ q. bytes_eq q k) ks) parts.0) plain.1 count (λ left p c. members_plain ks left parts.1 p c)

-- ---- members that are read

-- what is read by this has no float
abbrev pub IsPlainReader : {A : Type 0} → (Data → Option A) → Type 0
IsPlainReader {A} value = (d : Data) (x : A) → value d ≡ Some x → has_float d ≡ false

-- the members of these names have no float, and there are so many of them
pub record Hold (names : List (List ℕ)) (count : ℕ) (d : Data) : Type 0 where
  plain : ArePlain names d
  counted : present_of names d ≡ count

pub hold_none : (d : Data) → Hold [] 0 d
hold_none d = record { plain = tt; counted = refl }

pub and_plain : (name : List ℕ) (names : List (List ℕ)) (count : ℕ) (d e : Data) → get name d ≡ Some e → has_float e ≡ false → Hold names count d → Hold (name ∷ names) (suc count) d
and_plain name names count d e is plain rest =
    let here : IsPlain (get name d) = subst IsPlain (sym is) plain in
    let one : present name d ≡ 1 = ap (λ (found : Option Data). if is_some found then 1 else 0) is in
    let later = rest.counted in
    record { plain = (here, rest.plain); counted = omega arith }

pub and_has : {A : Type 0} (value : Data → Option A) (name : List ℕ) (names : List (List ℕ)) (count : ℕ) (d : Data) (x : A) → IsPlainReader value → Has value name d x
    → Hold names count d → Hold (name ∷ names) (suc count) d
and_has value name names count d x reads h rest =
    let s = stepped value (get name d) x h in
    and_plain name names count d s.0 s.1 (reads s.0 x s.2) rest

may_at : {A : Type 0} (default : A) (value : Data → Option A) (found : Option Data) (x : A) → IsPlainReader value
    → (if is_none found then Some default else option_and_then value found) ≡ Some x → IsPlain found
may_at default value (Some d) x reads h = reads d x h
may_at default value None x reads h = tt

pub and_may : {A : Type 0} (default : A) (value : Data → Option A) (name : List ℕ) (names : List (List ℕ)) (count : ℕ) (d : Data) (x : A) → IsPlainReader value → MayHave default value name d x
    → Hold names count d → Hold (name ∷ names) (present name d + count) d
and_may default value name names count d x reads h rest =
    record { plain = (may_at default value (get name d) x reads h, rest.plain); counted = ap (λ n. present name d + n) rest.counted }

-- An object has no float, where it has as many members as are there of these names.
pub object_plain : (names : List (List ℕ)) (count : ℕ) (d : Data) → are_distinct names ≡ true → is_object_of count d ≡ true → Hold names count d → has_float d ≡ false
object_plain names count Data.null apart is h = refl
object_plain names count (Data.boolean b) apart is h = refl
object_plain names count (Data.number n) apart is h = absurd (true≢false (sym is))
object_plain names count (Data.string s) apart is h = refl
object_plain names count (Data.array ds) apart is h = absurd (true≢false (sym is))
object_plain names count (Data.object ms) apart is h = members_plain names ms apart h.plain (eqb-true (members_len ms) count is ∙ sym h.counted)
