-- How much a JSON value holds.
use Rattle.std.specs.Prelude.{ℕ, suc, ◌+◌}
use Rattle.serde_json.specs.Data.{Data, null, boolean, number, string, array, object, Items, no_items, item, Members, no_members, member}

-- how many items its lists have together, at any depth
abbrev mutual
  pub item_count : Data → ℕ
  item_count null = 0
  item_count (boolean b) = 0
  item_count (number n) = 0
  item_count (string s) = 0
  item_count (array ds) = items_count ds
  item_count (object ms) = members_count ms

  pub items_count : Items → ℕ
  items_count no_items = 0
  items_count (item d ds) = suc (item_count d + items_count ds)

  pub members_count : Members → ℕ
  members_count no_members = 0
  members_count (member k d ms) = item_count d + members_count ms
