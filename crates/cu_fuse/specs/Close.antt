-- Operations whose arrays have other numbers (this project's own rule): where arrays are taken out
-- of a plan, the numbers behind close up.
use Rattle.std.specs.Prelude.{◌≡◌, ◌≢◌, ◌<◌, ◌≤◌, length, ℕ, zero, suc, ◌+◌, ◌==◌, Bool, true, false, List, [], ◌∷◌, map, Option, None, Some, if◌then◌else◌}
use Rattle.std.specs.List.{list_any}
use Rattle.cu_name.specs.Keys.{made_prefix_of}
use Rattle.cu_name.specs.Name.{IsArrayName}
use Rattle.cu_op.specs.declared.layout.ArrayInfo.{ArrayInfo}
use Rattle.cu_op.specs.declared.operation.Planned.{Planned}
use Rattle.cu_op.specs.Arrays.{array_at, maker_at}
use Rattle.cu_op.specs.Operation.{writes_of, renumbered}
use Rattle.cu_op.specs.PlanView.{PlanView}
use Rattle.cu_fuse.specs.Fused.{SettingView, fused_ops}
use Rattle.cu_op.specs.Numbers.{number_in, stands_in}

-- ---- the arrays that are left

-- some operation writes the array
abbrev pub has_maker : List Planned → ℕ → Bool
has_maker ops a = list_any (λ o. stands_in (writes_of o.op) a) ops

-- an input stays, and an array that an operation writes
abbrev pub remains : List Planned → ℕ → Option ℕ → Bool
remains ops a None = true
remains ops a (Some maker) = has_maker ops a

-- the numbers of the arrays that are left, in order; the first of these arrays has number n
abbrev pub remaining_from : List Planned → ℕ → List ArrayInfo → List ℕ
remaining_from ops n [] = []
remaining_from ops n (a ∷ rest) =
    if remains ops n a.maker then (n ∷ remaining_from ops (n + 1) rest)
    else remaining_from ops (n + 1) rest

-- those of all arrays
abbrev pub remaining_numbers : List ArrayInfo → List Planned → List ℕ
remaining_numbers arrays ops = remaining_from ops 0 arrays

-- the number of the operation that writes an array
abbrev pub maker_of : List Planned → ℕ → ℕ
maker_of [] a = 0
maker_of (o ∷ os) a = if stands_in (writes_of o.op) a then 0 else suc (maker_of os a)

-- an array as it is left, where k made arrays other than the output come before it
abbrev pub remaining_array : SettingView → List Planned → ℕ → ℕ → Option ℕ → ArrayInfo
remaining_array s ops k a None = array_at s.arrays a
remaining_array s ops k a (Some maker) = record {
  prefix =
      if a == s.out then (array_at s.arrays a).prefix
      else made_prefix_of (array_at s.arrays s.out).prefix k;
  layout = (array_at s.arrays a).layout;
  maker = Some (maker_of ops a);
  inlined = (array_at s.arrays a).inlined;
}

-- how many made arrays other than the output come before the next array
abbrev pub count_behind : SettingView → ℕ → ℕ → Option ℕ → ℕ
count_behind s k a None = k
count_behind s k a (Some maker) = if a == s.out then k else (k + 1)

-- the arrays with these numbers, where k made arrays other than the output come before the first
abbrev pub remaining_arrays : SettingView → List Planned → ℕ → List ℕ → List ArrayInfo
remaining_arrays s ops k [] = []
remaining_arrays s ops k (a ∷ rest) =
    remaining_array s ops k a (maker_at s.arrays a)
    ∷ remaining_arrays s ops (count_behind s k a (maker_at s.arrays a)) rest

-- a planned operation over arrays with other numbers
abbrev pub renumbered_planned : (ℕ → ℕ) → Planned → Planned
renumbered_planned f o = record { op = renumbered f o.op; node = o.node; projected = o.projected }

-- the new number of an array that is left
abbrev pub new_number : SettingView → List Planned → ℕ → ℕ
new_number s ops a = number_in (remaining_numbers s.arrays ops) a

-- the plan of these operations, in which arrays and operations are numbered anew
abbrev pub closed : SettingView → List Planned → PlanView
closed s ops = record {
  arrays = remaining_arrays s ops 0 (remaining_numbers s.arrays ops);
  ops = map (renumbered_planned (new_number s ops)) ops;
  out = new_number s ops s.out;
  allowed = s.allowed;
  reserved = s.reserved;
}

-- what stays of a plan while its operations are merged
abbrev pub setting_by : Bool → PlanView → SettingView
setting_by once p = record {
  arrays = p.arrays;
  out = p.out;
  allowed = p.allowed;
  reserved = p.reserved;
  once = once;
}

abbrev pub setting_of : PlanView → SettingView
setting_of p = setting_by false p

-- a plan after the merges of its maps, where these load an array once or need not
abbrev pub fused_by : Bool → PlanView → PlanView
fused_by once p = closed (setting_of p) (fused_ops (setting_by once p) p.ops)

abbrev pub fused : PlanView → PlanView
fused p = fused_by false p

abbrev pub fused_loading_once : PlanView → PlanView
fused_loading_once p = fused_by true p

-- how many made arrays other than the output come before array a
abbrev pub others_before : PlanView → ℕ → ℕ
others_before p zero = 0
others_before p (suc a) = count_behind (setting_of p) (others_before p a) a (maker_at p.arrays a)

-- What `fuse` wants of a sound plan: the output has the name of an array, and the other made arrays
-- are called `_cubed/NAME/K`, where K counts them from 0.
pub record HasMadeNames (p : PlanView) : Type 0 where
  pub named : IsArrayName (array_at p.arrays p.out).prefix
  pub others : (a : ℕ) → a < length p.arrays → maker_at p.arrays a ≢ None → a ≢ p.out
      → (array_at p.arrays a).prefix
      ≡ made_prefix_of (array_at p.arrays p.out).prefix (others_before p a)

-- the first n arrays are the inputs
pub record HasInputsFirst (p : PlanView) (n : ℕ) : Type 0 where
  pub few : n ≤ length p.arrays
  pub given : (a : ℕ) → a < n → maker_at p.arrays a ≡ None
  pub alone : (a : ℕ) → a < length p.arrays → maker_at p.arrays a ≡ None → a < n
