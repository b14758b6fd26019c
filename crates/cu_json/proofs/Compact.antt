-- The compact text of a value whose numbers are integers is read as that value.
use Rattle.std.proofs.Common.{Option, option_and_then, ◌≡◌, suc, ◌^◌, ◌<◌, ◌≤◌, pos, negsuc, List, [], ◌++◌, Some, refl, sym, ap, ◌∙◌, subst, append_assoc, append-nil}
use Rattle.json.specs.Token.{Token}
use Rattle.json.specs.Lex.{tokens}
use Rattle.json.specs.Print.{ArePrintable}
pub use Rattle.json.specs.Print.{escape}
unfoldable pub use Rattle.json.specs.Print.{escape_byte}
use Rattle.json.specs.Json as json
use Rattle.json.specs.Tree as tree
use Rattle.json.specs.Tree.{json_tokens, items_tokens, members_tokens}
use Rattle.json.proofs.Printed.Decimals.{IsNumber-decimal, IsNumber-signed_decimal}
use Rattle.json.proofs.Printed.Tokens.{tokens-print}
use Rattle.json.proofs.Printed.Trees.{value-json_tokens}
use Rattle.serde_json.specs.Data.{Num, unsigned, negative, float, Data, null, boolean, number, string, array, object, Items, no_items, item, Members, no_members, member, depth, items_depth, members_depth}
use Rattle.serde_json.specs.Read.{read, of_json, max_depth}
use Rattle.serde_json.specs.Written.{outline, items_outline, members_outline, compact_text}
use Rattle.serde_json.proofs.Texts.{print-outline}

-- the number is an integer that its decimal text says
abbrev pub IsWritten : Num → Type 0
IsWritten (unsigned n) = n < 2 ^ 64
IsWritten (negative (pos n)) = ⊥
IsWritten (negative (negsuc n)) = n < 2 ^ 63
IsWritten (float x) = ⊥

-- each number is such an integer
abbrev mutual
  pub AreWritten : Data → Type 0
  AreWritten null = Unit {0}
  AreWritten (boolean b) = Unit {0}
  AreWritten (number n) = IsWritten n
  AreWritten (string s) = Unit {0}
  AreWritten (array ds) = ItemsAreWritten ds
  AreWritten (object ms) = MembersAreWritten ms

  pub ItemsAreWritten : Items → Type 0
  ItemsAreWritten no_items = Unit {0}
  ItemsAreWritten (item d ds) = AreWritten d × ItemsAreWritten ds

  pub MembersAreWritten : Members → Type 0
  MembersAreWritten no_members = Unit {0}
  MembersAreWritten (member k d ms) = AreWritten d × MembersAreWritten ms

mutual
  unfolding ArePrintable

  printable : (d : Data) (ts : List Token) → AreWritten d → ArePrintable ts → ArePrintable (json_tokens (outline d) ++ ts)
  printable null ts h rest = (tt, rest)
  printable (boolean b) ts h rest = (tt, rest)
  printable (number (unsigned n)) ts h rest = (IsNumber-decimal n h, rest)
  printable (number (negative (pos n))) ts h rest = absurd h
  printable (number (negative (negsuc n))) ts h rest = (IsNumber-signed_decimal (negsuc n) h, rest)
  printable (number (float x)) ts h rest = absurd h
  printable (string s) ts h rest = (tt, rest)
  printable (array ds) ts h rest = (tt, printable_items ds ts h rest)
  printable (object ms) ts h rest = (tt, printable_members ms ts h rest)

  printable_items : (ds : Items) (ts : List Token) → ItemsAreWritten ds → ArePrintable ts → ArePrintable (items_tokens (items_outline ds) ++ ts)
  printable_items no_items ts h rest = (tt, rest)
  printable_items (item d ds) ts h rest =
      subst ArePrintable (sym (append_assoc (json_tokens (outline d)) (items_tokens (items_outline ds)) ts)) (printable d _ h.0 (printable_items ds ts h.1 rest))

  printable_members : (ms : Members) (ts : List Token) → MembersAreWritten ms → ArePrintable ts → ArePrintable (members_tokens (members_outline ms) ++ ts)
  printable_members no_members ts h rest = (tt, rest)
  printable_members (member k d ms) ts h rest =
      (tt, subst ArePrintable (sym (append_assoc (json_tokens (outline d)) (members_tokens (members_outline ms)) ts)) (printable d _ h.0 (printable_members ms ts h.1 rest)))

mutual
  depth-outline : (d : Data) → tree.depth (outline d) ≡ depth d
  depth-outline null = refl
  depth-outline (boolean b) = refl
  depth-outline (number n) = refl
  depth-outline (string s) = refl
  depth-outline (array ds) = ap suc (depth-items ds)
  depth-outline (object ms) = ap suc (depth-members ms)

  depth-items : (ds : Items) → tree.items_depth (items_outline ds) ≡ items_depth ds
  depth-items no_items = refl
  depth-items (item d ds) = rw (depth-outline d, depth-items ds) refl

  depth-members : (ms : Members) → tree.members_depth (members_outline ms) ≡ members_depth ms
  depth-members no_members = refl
  depth-members (member k d ms) = rw (depth-outline d, depth-members ms) refl

tokens_of_compact : (d : Data) → AreWritten d → tokens (compact_text d) ≡ json_tokens (outline d)
unfolding ArePrintable
tokens_of_compact d h =
    ap tokens (sym (print-outline d)) ∙ tokens-print (json_tokens (outline d)) (subst ArePrintable (append-nil (json_tokens (outline d))) (printable d [] h tt))

abbrev whole : Option (json.Json × List Token) → Option Data
whole o = option_and_then of_json (option_and_then (λ p. json.if_last p.0 p.1) o)

-- where each object has its members in order, each name once
pub read_of_compact : (d : Data) → AreWritten d → depth d ≤ max_depth → of_json (outline d) ≡ Some d → read (compact_text d) ≡ Some d
read_of_compact d h shallow ordered =
    ap whole (ap (json.value max_depth) (tokens_of_compact d h ∙ sym (append-nil (json_tokens (outline d)))) ∙ value-json_tokens (outline d) max_depth [] (subst (λ n. n ≤ max_depth) (sym (depth-outline d)) shallow)) ∙ ordered
