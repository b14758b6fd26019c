-- Copies in one pass on worked examples.
use Rattle.std.proofs.Common.{◌≡◌, ℕ, pos, List, [], ◌∷◌, true, false, Option, Some, None, refl, codes}
use Rattle.cu_num.specs.declared.types.Dtype.TheVariants.{Int32}
use Rattle.cu_num.specs.declared.layout.Encoding.TheVariants.{Plain}
use Rattle.cu_num.specs.declared.layout.Sep.TheVariants.{Slash}
use Rattle.cu_num.specs.declared.layout.Endian.TheVariants.{Little}
use Rattle.cu_op.specs.declared.layout.ArrayInfo.{ArrayInfo}
use Rattle.cu_op.specs.declared.operation.Op.TheVariants.{Copy}
use Rattle.cu_op.specs.declared.operation.Planned.{Planned}
use Rattle.cu_op.specs.PlanView.{PlanView}
use Rattle.cu_name.specs.Keys.{made_prefix_of}
use Rattle.cu_fuse.specs.Copies.{copies_joined, joint_region, may_join}
use Rattle.cu_fuse.specs.Fused.{SettingView}
use Rattle.cu_fuse.specs.Least.{common_multiple, least_region}

-- ---- sizes

four_and_six : common_multiple 4 6 ≡ 12
four_and_six = refl

of_one : common_multiple 1 7 ≡ 7
of_one = refl

-- days to series: eight years of 365 days are one chunk of 2,920, and 180 and 90 hold or meet 20
days_to_series : least_region (2920 ∷ 720 ∷ 360 ∷ []) (365 ∷ 180 ∷ 90 ∷ []) (2920 ∷ 20 ∷ 20 ∷ []) ≡ 2920 ∷ 180 ∷ 180 ∷ []
days_to_series = refl

-- an axis that is less than the multiple; a chunk that is greater than the array; an axis of size 0
at_the_edge : least_region (10 ∷ 5 ∷ 0 ∷ []) (4 ∷ 8 ∷ 3 ∷ []) (6 ∷ 5 ∷ 2 ∷ []) ≡ 10 ∷ 5 ∷ 1 ∷ []
at_the_edge = refl

-- ---- plans

abbrev in_chunks : List ℕ → ℕ → Option ℕ → ArrayInfo
in_chunks name n maker = record {
  prefix = name;
  layout = record { dtype = Int32; grid = record { shape = 24 ∷ []; chunk = n ∷ [] }; encoding = Plain Slash; endian = Little; fill = pos 0 };
  maker = maker;
  inlined = false;
}

abbrev copy : ℕ → ℕ → ℕ → ℕ → ℕ → Planned
copy region source out node projected = record { op = Copy (region ∷ []) source out; node = node; projected = projected }

-- from chunks of 4 to chunks of 6, by way of 2
abbrev two_copies : ℕ → PlanView
two_copies allowed = record {
  arrays = in_chunks (codes "a") 4 None ∷ in_chunks (made_prefix_of (codes "y") 0) 2 (Some 0) ∷ in_chunks (codes "y") 6 (Some 1) ∷ [];
  ops = copy 4 0 1 7 32 ∷ copy 6 1 2 8 48 ∷ [];
  out = 2;
  allowed = allowed;
  reserved = 0;
}

-- a region of 12 elements has 48 bytes: with 96 bytes it fits
joined : copies_joined (two_copies 96) ≡ record {
  arrays = in_chunks (codes "a") 4 None ∷ in_chunks (codes "y") 6 (Some 0) ∷ [];
  ops = copy 12 0 1 8 72 ∷ [];
  out = 1;
  allowed = 96;
  reserved = 0;
}
joined = refl

-- with one byte less nothing changes
apart : copies_joined (two_copies 95) ≡ two_copies 95
apart = refl

-- with twice as many the region has all 24 elements
whole : joint_region (record { arrays = (two_copies 192).arrays; out = 2; allowed = 192; reserved = 0; once = false }) 0 2 ≡ 24 ∷ []
whole = refl

-- a chain of three copies is joined twice
abbrev three_copies : PlanView
three_copies = record {
  arrays = in_chunks (codes "a") 4 None ∷ in_chunks (made_prefix_of (codes "y") 0) 2 (Some 0) ∷ in_chunks (made_prefix_of (codes "y") 1) 3 (Some 1) ∷ in_chunks (codes "y") 6 (Some 2) ∷ [];
  ops = copy 4 0 1 7 32 ∷ copy 3 1 2 8 24 ∷ copy 6 2 3 9 48 ∷ [];
  out = 3;
  allowed = 96;
  reserved = 0;
}

joined_twice : copies_joined three_copies ≡ record {
  arrays = in_chunks (codes "a") 4 None ∷ in_chunks (codes "y") 6 (Some 0) ∷ [];
  ops = copy 12 0 1 9 72 ∷ [];
  out = 1;
  allowed = 96;
  reserved = 0;
}
joined_twice = refl

-- ---- where the copies stay apart

abbrev setting : ℕ → SettingView
setting out = record { arrays = (two_copies 96).arrays; out = out; allowed = 96; reserved = 0; once = false }

joins : may_join (setting 2) (copy 4 0 1 7 32) (copy 6 1 2 8 48) [] 1 ≡ true
joins = refl

-- the array between is the output
is_output : may_join (setting 1) (copy 4 0 1 7 32) (copy 6 1 2 8 48) [] 1 ≡ false
is_output = refl

-- another operation reads it
read_behind : may_join (setting 2) (copy 4 0 1 7 32) (copy 6 1 2 8 48) (copy 6 1 2 8 48 ∷ []) 1 ≡ false
read_behind = refl

-- with room for regions of 8 elements the joint copy has three tasks
abbrev small_regions : SettingView
small_regions = record {
  arrays = in_chunks (codes "a") 4 None ∷ in_chunks (made_prefix_of (codes "y") 0) 2 (Some 0) ∷ in_chunks (codes "y") 8 (Some 1) ∷ [];
  out = 2;
  allowed = 64;
  reserved = 0;
  once = false;
}

as_many_tasks : may_join small_regions (copy 12 0 1 7 64) (copy 24 1 2 8 128) [] 1 ≡ true
as_many_tasks = refl

more_tasks : may_join small_regions (copy 24 0 1 7 112) (copy 24 1 2 8 128) [] 1 ≡ false
more_tasks = refl
