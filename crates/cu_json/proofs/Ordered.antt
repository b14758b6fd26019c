-- A value whose objects have their members in order, each name once, is the value of its own outline.
use Rattle.std.proofs.Common.{◌≡◌, ◌≤◌, Greater, ℕ, pos, negsuc, List, Some, option_map, option_and_then, refl, ap, ◌∙◌}
use Rattle.std.specs.Ordering.{nat_cmp}
use Rattle.std.specs.Cmp.Lexicographic.{slice_cmp}
use Rattle.serde_json.proofs.Numbers.{number_of-decimal, number_of-negative}
use Rattle.serde_json.specs.Data.{unsigned, negative, float, Data, null, boolean, number, string, array, object, Items, no_items, item, Members, no_members, member, put, depth}
use Rattle.serde_json.specs.Read.{read, of_json, of_items, of_members, max_depth}
use Rattle.serde_json.specs.Written.{outline, items_outline, members_outline, compact_text}
use Rattle.cu_json.proofs.Compact.{AreWritten, ItemsAreWritten, MembersAreWritten, read_of_compact}

-- the name comes behind each of these members in the order of bytes
abbrev pub IsBehind : List ℕ → Members → Type 0
IsBehind k no_members = Unit {0}
IsBehind k (member l e ms) = (slice_cmp nat_cmp k l ≡ Greater) × IsBehind k ms

-- the members, and this one behind them
abbrev pub joined_member : List ℕ → Data → Members → Members
joined_member k d no_members = member k d no_members
joined_member k d (member l e ms) = member l e (joined_member k d ms)

-- the members behind those
abbrev pub joined_members : Members → Members → Members
joined_members before no_members = before
joined_members before (member k d ms) = joined_members (joined_member k d before) ms

-- each object has its members in order, each name once
abbrev mutual
  pub AreOrdered : Data → Type 0
  AreOrdered null = Unit {0}
  AreOrdered (boolean b) = Unit {0}
  AreOrdered (number n) = Unit {0}
  AreOrdered (string s) = Unit {0}
  AreOrdered (array ds) = ItemsAreOrdered ds
  AreOrdered (object ms) = MembersAreOrdered no_members ms

  pub ItemsAreOrdered : Items → Type 0
  ItemsAreOrdered no_items = Unit {0}
  ItemsAreOrdered (item d ds) = AreOrdered d × ItemsAreOrdered ds

  pub MembersAreOrdered : Members → Members → Type 0
  MembersAreOrdered before no_members = Unit {0}
  MembersAreOrdered before (member k d ms) = IsBehind k before × AreOrdered d × MembersAreOrdered (joined_member k d before) ms

put_behind : (k : List ℕ) (d : Data) (ms : Members) → IsBehind k ms → put k d ms ≡ joined_member k d ms
put_behind k d no_members h = refl
put_behind k d (member l e ms) h = rw (h.0, put_behind k d ms h.1) refl

joined_one_more : (before : Members) (k : List ℕ) (d : Data) (ms : Members) → joined_members (joined_member k d before) ms ≡ joined_members before (member k d ms)
joined_one_more before k d ms = refl

joined_first : (l : List ℕ) (e : Data) (before ms : Members) → joined_members (member l e before) ms ≡ member l e (joined_members before ms)
joined_first l e before no_members = refl
joined_first l e before (member k d ms) = joined_first l e (joined_member k d before) ms

joined_none : (ms : Members) → joined_members no_members ms ≡ ms
joined_none no_members = refl
joined_none (member k d ms) = joined_first k d no_members ms ∙ ap (member k d) (joined_none ms)

mutual
  of_json-outline : (d : Data) → AreWritten d → AreOrdered d → of_json (outline d) ≡ Some d
  of_json-outline null h o = refl
  of_json-outline (boolean b) h o = refl
  of_json-outline (number (unsigned n)) h o = ap (option_map number) (number_of-decimal n h)
  of_json-outline (number (negative (pos n))) h o = absurd h
  of_json-outline (number (negative (negsuc n))) h o = ap (option_map number) (number_of-negative n h)
  of_json-outline (number (float x)) h o = absurd h
  of_json-outline (string s) h o = refl
  of_json-outline (array ds) h o = ap (option_map array) (of_items-outline ds h o)
  of_json-outline (object ms) h o = ap (option_map object) (of_members-outline ms no_members h o ∙ ap Some (joined_none ms))

  of_items-outline : (ds : Items) → ItemsAreWritten ds → ItemsAreOrdered ds → of_items (items_outline ds) ≡ Some ds
  of_items-outline no_items h o = refl
  of_items-outline (item d ds) h o = ap (option_and_then (λ e. option_map (item e) (of_items (items_outline ds)))) (of_json-outline d h.0 o.0) ∙ ap (option_map (item d)) (of_items-outline ds h.1 o.1)

  of_members-outline : (ms before : Members) → MembersAreWritten ms → MembersAreOrdered before ms → of_members (members_outline ms) before ≡ Some (joined_members before ms)
  of_members-outline no_members before h o = refl
  of_members-outline (member k d ms) before h o =
      ap (option_and_then (λ e. of_members (members_outline ms) (put k e before))) (of_json-outline d h.0 o.1) ∙ ap (of_members (members_outline ms)) (put_behind k d before o.0)
      ∙ of_members-outline ms (joined_member k d before) h.1 o.2

-- the compact text of such a value is read as that value
pub read_of_ordered : (d : Data) → AreWritten d → depth d ≤ max_depth → AreOrdered d → read (compact_text d) ≡ Some d
read_of_ordered d h shallow o = read_of_compact d h shallow (of_json-outline d h o)
