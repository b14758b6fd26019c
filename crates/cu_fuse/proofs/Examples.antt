-- Two maps over two inputs: with enough memory one operation is left, with less both. Four maps that load an array once.
use Rattle.std.proofs.Common.{◌≡◌, ℕ, pos, List, [], ◌∷◌, replicate, true, false, Some, None, refl, codes}
use Rattle.cu_num.specs.declared.types.Dtype.TheVariants.{Bool, Int32}
use Rattle.cu_num.specs.declared.functions.Fn1.TheVariants.{Square}
use Rattle.cu_num.specs.declared.functions.Fn2.TheVariants.{Add, Multiply, NotEqual}
use Rattle.cu_num.specs.declared.layout.Encoding.TheVariants.{Plain}
use Rattle.cu_num.specs.declared.layout.Sep.TheVariants.{Slash}
use Rattle.cu_num.specs.declared.layout.Endian.TheVariants.{Little}
use Rattle.cu_op.specs.declared.kernel.Instr.TheVariants.{Load, Const, One, Two, Select}
use Rattle.cu_op.specs.declared.layout.ArrayInfo.{ArrayInfo}
use Rattle.cu_op.specs.declared.kernel.Instr.{Instr}
use Rattle.cu_op.specs.declared.operation.Op.TheVariants.{Copy, Map}
use Rattle.cu_op.specs.declared.operation.Planned.{Planned}
use Rattle.cu_op.specs.PlanView.{PlanView}
use Rattle.cu_name.specs.Keys.{made_prefix_of}
use Rattle.cu_fuse.specs.Close.{fused, fused_loading_once}
use Rattle.cu_fuse.specs.Fused.{SettingView, may_merge}
use Rattle.cu_fuse.specs.Once.{one_load}

abbrev named : List ℕ → ArrayInfo
named name = record { prefix = name; layout = record { dtype = Int32; grid = record { shape = 6 ∷ []; chunk = 4 ∷ [] }; encoding = Plain Slash; endian = Little; fill = pos 0 }; maker = None; inlined = false }

abbrev made : List ℕ → ℕ → ArrayInfo
made name k = record { prefix = name; layout = record { dtype = Int32; grid = record { shape = 6 ∷ []; chunk = 4 ∷ [] }; encoding = Plain Slash; endian = Little; fill = pos 0 }; maker = Some k; inlined = false }

abbrev with_chunk : ℕ → ArrayInfo
with_chunk n = record { prefix = codes "t"; layout = record { dtype = Int32; grid = record { shape = 6 ∷ []; chunk = n ∷ [] }; encoding = Plain Slash; endian = Little; fill = pos 0 }; maker = Some 1; inlined = false }

-- (a + b) * 2, of which the sum is stored under `_cubed/y/0`
abbrev two_maps : ℕ → PlanView
two_maps allowed = record {
  arrays = named (codes "a") ∷ named (codes "b") ∷ made (made_prefix_of (codes "y") 0) 0 ∷ made (codes "y") 1 ∷ [];
  ops = record { op = Map (record { code = record { items = Load 0 ∷ Load 1 ∷ Two Add Int32 0 1 ∷ [] } }) (record { items = 0 ∷ 1 ∷ [] }) 2; node = 2; projected = 1600 }
      ∷ record { op = Map (record { code = record { items = Load 0 ∷ Const (pos 2) ∷ Two Multiply Int32 0 1 ∷ [] } }) (record { items = 2 ∷ [] }) 3; node = 3; projected = 1584 } ∷ [];
  out = 3;
  allowed = allowed;
  reserved = 0;
}

-- with 2,624 bytes they are merged, and need as many
merged_example : fused (two_maps 2624) ≡ record {
  arrays = named (codes "a") ∷ named (codes "b") ∷ made (codes "y") 0 ∷ [];
  ops = record {
    op = Map (record { code = record { items = Load 0 ∷ Load 1 ∷ Two Add Int32 0 1 ∷ Const (pos 2) ∷ Two Multiply Int32 2 3 ∷ [] } }) (record { items = 0 ∷ 1 ∷ [] }) 2;
    node = 3;
    projected = 2624;
  } ∷ [];
  out = 2;
  allowed = 2624;
  reserved = 0;
}
merged_example = refl

-- with one byte less nothing changes
kept_example : fused (two_maps 2623) ≡ two_maps 2623
kept_example = refl

-- ---- where the maker of the sum isn't merged

abbrev setting : ℕ → SettingView
setting out = record { arrays = named (codes "a") ∷ named (codes "b") ∷ made (codes "s") 0 ∷ made (codes "t") 1 ∷ []; out = out; allowed = 100000; reserved = 0; once = false }

abbrev map_over : List Instr → List ℕ → ℕ → Planned
map_over code ins out = record { op = Map (record { code = record { items = code } }) (record { items = ins }) out; node = 0; projected = 0 }

abbrev sum_op : Planned
sum_op = map_over (Load 0 ∷ Load 1 ∷ Two Add Int32 0 1 ∷ []) (0 ∷ 1 ∷ []) 2

abbrev square_op : ℕ → Planned
square_op other = map_over (Load 0 ∷ Load 1 ∷ Two Multiply Int32 0 1 ∷ []) (2 ∷ other ∷ []) 3

merges : may_merge (setting 3) sum_op (square_op 1) [] 2 ≡ true
merges = refl

-- two inputs of the reader read it
read_twice : may_merge (setting 3) sum_op (square_op 2) [] 2 ≡ false
read_twice = refl

-- another operation reads it
read_behind : may_merge (setting 3) sum_op (square_op 1) (square_op 0 ∷ []) 2 ≡ false
read_behind = refl

-- it is the output
is_output : may_merge (setting 2) sum_op (square_op 1) [] 2 ≡ false
is_output = refl

-- the reader's array has other chunks
other_chunks : may_merge (record { arrays = named (codes "a") ∷ named (codes "b") ∷ made (codes "s") 0 ∷ with_chunk 3 ∷ []; out = 3; allowed = 100000; reserved = 0; once = false }) sum_op (square_op 1) [] 2 ≡ false
other_chunks = refl

-- a reader of 7 inputs has room for one more, and one of 8 has none
eight_inputs : may_merge (setting 3) sum_op (map_over (Load 0 ∷ []) (2 ∷ 0 ∷ 0 ∷ 0 ∷ 0 ∷ 0 ∷ 0 ∷ []) 3) [] 2 ≡ true
eight_inputs = refl

nine_inputs : may_merge (setting 3) sum_op (map_over (Load 0 ∷ []) (2 ∷ 0 ∷ 0 ∷ 0 ∷ 0 ∷ 0 ∷ 0 ∷ 0 ∷ []) 3) [] 2 ≡ false
nine_inputs = refl

-- three instructions in place of one of 30 are 32, and of 31 are 33
thirty_two : may_merge (setting 3) sum_op (map_over (Load 0 ∷ replicate 29 (Const (pos 1))) (2 ∷ []) 3) [] 2 ≡ true
thirty_two = refl

thirty_three : may_merge (setting 3) sum_op (map_over (Load 0 ∷ replicate 30 (Const (pos 1))) (2 ∷ []) 3) [] 2 ≡ false
thirty_three = refl

-- ---- what is left closes up

-- the sum and twice the sum, of which a copy is the output: one map is left, and its array has the first of the made names
closed_example : fused (record {
  arrays = named (codes "a") ∷ named (codes "b") ∷ made (made_prefix_of (codes "y") 0) 0 ∷ made (made_prefix_of (codes "y") 1) 1 ∷ made (codes "y") 2 ∷ [];
  ops = record { op = sum_op.op; node = 2; projected = 1600 }
      ∷ record { op = Map (record { code = record { items = Load 0 ∷ Const (pos 2) ∷ Two Multiply Int32 0 1 ∷ [] } }) (record { items = 2 ∷ [] }) 3; node = 3; projected = 1584 }
      ∷ record { op = Copy (4 ∷ []) 3 4; node = 4; projected = 32 } ∷ [];
  out = 4;
  allowed = 2624;
  reserved = 0;
}) ≡ record {
  arrays = named (codes "a") ∷ named (codes "b") ∷ made (made_prefix_of (codes "y") 0) 0 ∷ made (codes "y") 1 ∷ [];
  ops = record {
    op = Map (record { code = record { items = Load 0 ∷ Load 1 ∷ Two Add Int32 0 1 ∷ Const (pos 2) ∷ Two Multiply Int32 2 3 ∷ [] } }) (record { items = 0 ∷ 1 ∷ [] }) 2;
    node = 3;
    projected = 2624;
  } ∷ record { op = Copy (4 ∷ []) 2 3; node = 4; projected = 32 } ∷ [];
  out = 3;
  allowed = 2624;
  reserved = 0;
}
closed_example = refl

-- ---- one input, one load

abbrev truths : List ℕ → ℕ → ArrayInfo
truths name k = record { prefix = name; layout = record { dtype = Bool; grid = record { shape = 6 ∷ []; chunk = 4 ∷ [] }; encoding = Plain Slash; endian = Little; fill = pos 0 }; maker = Some k; inlined = false }

-- q * q with q = square(where(a != 3, a, 0)): a comparison, a choice, a square and a product
abbrev squares : PlanView
squares = record {
  arrays = named (codes "a") ∷ truths (made_prefix_of (codes "y") 0) 0 ∷ made (made_prefix_of (codes "y") 1) 1 ∷ made (made_prefix_of (codes "y") 2) 2 ∷ made (codes "y") 3 ∷ [];
  ops = record { op = Map (record { code = record { items = Load 0 ∷ Const (pos 3) ∷ Two NotEqual Int32 0 1 ∷ [] } }) (record { items = 0 ∷ [] }) 1; node = 1; projected = 1572 }
      ∷ record { op = Map (record { code = record { items = Load 0 ∷ Load 1 ∷ Const (pos 0) ∷ Select 0 1 2 ∷ [] } }) (record { items = 1 ∷ 0 ∷ [] }) 2; node = 2; projected = 2100 }
      ∷ record { op = Map (record { code = record { items = Load 0 ∷ One Square Int32 0 ∷ [] } }) (record { items = 2 ∷ [] }) 3; node = 3; projected = 1072 }
      ∷ record { op = Map (record { code = record { items = Load 0 ∷ Load 1 ∷ Two Multiply Int32 0 1 ∷ [] } }) (record { items = 3 ∷ 3 ∷ [] }) 4; node = 4; projected = 1600 } ∷ [];
  out = 4;
  allowed = 100000;
  reserved = 0;
}

-- where a map may load an array twice, the square stays apart, since two inputs read it
squares_apart : fused squares ≡ record {
  arrays = named (codes "a") ∷ made (made_prefix_of (codes "y") 0) 0 ∷ made (codes "y") 1 ∷ [];
  ops = record {
    op = Map (record { code = record { items = Load 0 ∷ Const (pos 3) ∷ Two NotEqual Int32 0 1 ∷ Load 1 ∷ Const (pos 0) ∷ Select 2 3 4 ∷ One Square Int32 5 ∷ [] } }) (record { items = 0 ∷ 0 ∷ [] }) 1;
    node = 3;
    projected = 3648;
  } ∷ record { op = Map (record { code = record { items = Load 0 ∷ Load 1 ∷ Two Multiply Int32 0 1 ∷ [] } }) (record { items = 1 ∷ 1 ∷ [] }) 2; node = 4; projected = 1600 } ∷ [];
  out = 2;
  allowed = 100000;
  reserved = 0;
}
squares_apart = refl

-- where it loads an array once, one map is left, with one load of a
squares_together : fused_loading_once squares ≡ record {
  arrays = named (codes "a") ∷ made (codes "y") 0 ∷ [];
  ops = record {
    op = Map (record { code = record { items = Load 0 ∷ Const (pos 3) ∷ Two NotEqual Int32 0 1 ∷ Const (pos 0) ∷ Select 2 0 3 ∷ One Square Int32 4 ∷ Two Multiply Int32 5 5 ∷ [] } }) (record { items = 0 ∷ [] }) 1;
    node = 4;
    projected = 3632;
  } ∷ [];
  out = 1;
  allowed = 100000;
  reserved = 0;
}
squares_together = refl

-- a load that comes again goes, and the instructions behind it close up
joined_loads : one_load (Map (record { code = record { items = Load 0 ∷ Load 1 ∷ Load 2 ∷ Two Add Int32 1 2 ∷ Two Add Int32 0 3 ∷ [] } }) (record { items = 5 ∷ 7 ∷ 5 ∷ [] }) 9)
    ≡ Map (record { code = record { items = Load 0 ∷ Load 1 ∷ Two Add Int32 1 0 ∷ Two Add Int32 0 2 ∷ [] } }) (record { items = 5 ∷ 7 ∷ [] }) 9
joined_loads = refl

-- one that ends the kernel stays, since its value is the kernel's
last_load : one_load (Map (record { code = record { items = Load 0 ∷ Const (pos 1) ∷ Load 0 ∷ [] } }) (record { items = 5 ∷ [] }) 9)
    ≡ Map (record { code = record { items = Load 0 ∷ Const (pos 1) ∷ Load 0 ∷ [] } }) (record { items = 5 ∷ [] }) 9
last_load = refl

-- the limits are those of the merged map with its loads joined: eight inputs of which one stands twice are seven
abbrev once_setting : SettingView
once_setting = record { arrays = named (codes "a") ∷ named (codes "b") ∷ made (codes "s") 0 ∷ made (codes "t") 1 ∷ []; out = 3; allowed = 100000; reserved = 0; once = true }

eight_of_one : may_merge once_setting sum_op (map_over (Load 0 ∷ []) (2 ∷ 0 ∷ 0 ∷ 0 ∷ 0 ∷ 0 ∷ 0 ∷ 0 ∷ []) 3) [] 2 ≡ true
eight_of_one = refl

-- three instructions in place of one of 31 are 33, of which the load of an array that is loaded before goes
thirty_two_left : may_merge once_setting sum_op (map_over (Load 0 ∷ Load 1 ∷ replicate 29 (Const (pos 1))) (2 ∷ 0 ∷ []) 3) [] 2 ≡ true
thirty_two_left = refl

one_too_many : may_merge once_setting sum_op (map_over (Load 0 ∷ Load 1 ∷ replicate 30 (Const (pos 1))) (2 ∷ 0 ∷ []) 3) [] 2 ≡ false
one_too_many = refl
