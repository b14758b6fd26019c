-- Which calls fail by a script. This project's own rules.
use Rattle.std.specs.Prelude.{◌≡◌, ℕ, ◌+◌, List, [], map, min, Option, Some, None, Bool, true, false, ◌&&◌, ◌||◌, find, option_and_then, nat_lt, nat_le, if◌then◌else◌, IsSome, All, Result, Ok, Err}
use Rattle.std.specs.List.{list_any}
use Rattle.std.specs.Str.{bytes_eq}
use Rattle.cu_store.specs.Faults.{last_count}
use Rattle.cu_store.specs.declared.faults.DepotFault.{DepotFault}
use Rattle.cu_store.specs.declared.faults.DepotFault.TheVariants.{Failed, NoMemory}
use Rattle.cu_cells.specs.declared.script.CallKind.{CallKind}
use Rattle.cu_cells.specs.declared.script.CallKind.TheVariants.{Get, Has, Put, Remove}
use Rattle.cu_cells.specs.declared.script.Rule.{Rule}
use Rattle.cu_cells.specs.declared.script.Script.{Script}
use Rattle.cu_cells.specs.declared.script.Counted.{Counted}
use Rattle.cu_cells.specs.declared.script.Running.{Running}
use Rattle.cu_cells.specs.declared.script.Fate.{Fate}
use Rattle.cu_cells.specs.declared.script.Fate.TheVariants.{Works, Fails}

-- whether two calls are of one kind
abbrev pub same_kind : CallKind → CallKind → Bool
same_kind Get Get = true
same_kind Has Has = true
same_kind Put Put = true
same_kind Remove Remove = true
same_kind a b = false

-- whether a call is on the key that a rule names, where it names one
abbrev pub on_key : Option (List ℕ) → List ℕ → Bool
on_key None key = true
on_key (Some named) key = bytes_eq named key

-- whether a rule matches a call
abbrev pub matches : Rule → CallKind → List ℕ → Bool
matches rule kind key = same_kind rule.call kind && on_key rule.key key

-- whether a call fails by a rule: its number, of those that matched, lies from `skip` to below
-- `skip + times`
abbrev pub fails_by : Counted → CallKind → List ℕ → Bool
fails_by c kind key = matches c.rule kind key && nat_le c.rule.skip c.count && nat_lt c.count (c.rule.skip + c.rule.times)

-- a rule with a `land` lets one call fail
abbrev pub LandsOnce : List Rule → Type 0
LandsOnce rules = All (λ r. IsSome r.land → r.times ≡ 1) rules

-- a script, and what it has counted since it was set
pub record Progress : Type 0 where
  -- each rule, and how many calls have matched it
  pub rules : List Counted
  pub stop_after : Option ℕ
  -- the calls under this script
  pub calls : ℕ

abbrev pub progress : Running → Progress
progress r = record { rules = r.rules.items; stop_after = r.stop_after; calls = r.calls }

-- whether the script has stopped every call
abbrev pub has_stopped : Option ℕ → ℕ → Bool
has_stopped None calls = false
has_stopped (Some n) calls = nat_le n calls

-- whether a call fails: by any rule, or by the end of all calls
abbrev pub fails : Progress → CallKind → List ℕ → Bool
fails p kind key = list_any (λ c. fails_by c kind key) p.rules || has_stopped p.stop_after p.calls

-- after how many further calls a put that fails lands, where it does: by the first rule by which it
-- fails
abbrev pub land : Progress → CallKind → List ℕ → Option ℕ
land p kind key = option_and_then (λ c. c.rule.land) (find (λ c. fails_by c kind key) p.rules)

-- what becomes of a call
abbrev pub fate : Progress → CallKind → List ℕ → Fate
fate p kind key = if fails p kind key then Fails (land p kind key) else Works

-- a rule after a call
abbrev pub counted : CallKind → List ℕ → Counted → Counted
counted kind key c = if matches c.rule kind key then record c { count = min (c.count + 1) last_count } else c

-- a script after a call
abbrev pub next : Progress → CallKind → List ℕ → Progress
next p kind key = record { rules = map (counted kind key) p.rules; stop_after = p.stop_after; calls = min (p.calls + 1) last_count }

-- a script that has counted nothing
abbrev pub started : Script → Progress
started s = record { rules = map (λ r. record { rule = r; count = 0 }) s.rules.items; stop_after = s.stop_after; calls = 0 }

-- the script by which no call fails, set just now
abbrev pub empty_script : Progress
empty_script = record { rules = []; stop_after = None; calls = 0 }

-- the count of faults rises by one with Failed, and else stands
abbrev pub Raises : {T : Type 0} → Result T DepotFault → ℕ → ℕ → Type 0
Raises (Ok x) old new = new ≡ old
Raises (Err Failed) old new = new ≡ min (old + 1) last_count
Raises (Err NoMemory) old new = new ≡ old
