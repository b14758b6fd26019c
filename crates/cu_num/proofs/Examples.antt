-- The definitions at numbers that are known.
use Rattle.std.proofs.Common.{◌≡◌, refl, ◌-◌, ◌^◌, pos, neg_ℤ, true, false, [], ◌∷◌, Some, None, codes}
use Rattle.cu_num.specs.Dtype.{least, greatest}
use Rattle.cu_num.specs.TypeName.{type_name, dtype_named}
use Rattle.cu_num.specs.Functions.{accepts1, accepts2}
use Rattle.cu_num.specs.Fold.{fold_accepts, fold_type}
use Rattle.cu_num.specs.Wrap.{wrapped}
use Rattle.cu_num.specs.Word.{word_of, number_of}
use Rattle.cu_num.specs.Element.{element_bytes, element_at}
use Rattle.cu_num.specs.Promotion.{promotion}
use Rattle.cu_num.specs.Division.{floor_quotient, floor_remainder}
use Rattle.cu_num.specs.Scalar.{op1, op2, shifted_left, shifted_right}
use Rattle.cu_num.specs.declared.types.Dtype.TheVariants.{Bool, Int8, Int16, Int32, Int64, Uint8, Uint16, Uint32, Uint64}
use Rattle.cu_num.specs.declared.layout.Endian.TheVariants.{Little, Big}
use Rattle.cu_num.specs.declared.functions.Fn1.TheVariants.{Negative, Abs, Square, Sign, BitwiseInvert, LogicalNot, Astype}
use Rattle.cu_num.specs.declared.functions.Fn2.TheVariants.{Add, Subtract, Multiply, FloorDivide, Remainder, BitwiseAnd, BitwiseOr, BitwiseXor, LeftShift, RightShift, Equal, Less, LessEqual, Greater, LogicalXor}
use Rattle.cu_num.specs.declared.folds.FoldKind.TheVariants.{Sum, Min, Any}

sum_wraps : op2 Add Int8 (pos 127) (pos 1) ≡ neg_ℤ (pos 128)
unfolding wrapped
sum_wraps = refl

sum_of_the_greatest : op2 Add Uint64 (pos 18446744073709551615) (pos 18446744073709551615) ≡ pos 18446744073709551614
unfolding wrapped
sum_of_the_greatest = refl

below_zero : op2 Subtract Uint8 (pos 0) (pos 1) ≡ pos 255
unfolding wrapped
below_zero = refl

product_of_the_greatest : op2 Multiply Uint64 (pos 18446744073709551615) (pos 18446744073709551615) ≡ pos 1
unfolding wrapped
product_of_the_greatest = refl

product_of_the_least : op2 Multiply Int64 (neg_ℤ (pos 9223372036854775808)) (neg_ℤ (pos 9223372036854775808)) ≡ pos 0
unfolding wrapped
product_of_the_least = refl

product_wraps : op2 Multiply Int16 (pos 300) (pos 300) ≡ pos 24464
unfolding wrapped
product_wraps = refl

floors : op2 FloorDivide Int8 (neg_ℤ (pos 7)) (pos 2) ≡ neg_ℤ (pos 4)
unfolding wrapped floor_quotient
floors = refl

floors_by_a_negative : op2 FloorDivide Int8 (pos 7) (neg_ℤ (pos 2)) ≡ neg_ℤ (pos 4)
unfolding wrapped floor_quotient
floors_by_a_negative = refl

floors_two_negatives : op2 FloorDivide Int8 (neg_ℤ (pos 7)) (neg_ℤ (pos 2)) ≡ pos 3
unfolding wrapped floor_quotient
floors_two_negatives = refl

by_zero : op2 FloorDivide Int8 (neg_ℤ (pos 7)) (pos 0) ≡ pos 0
unfolding wrapped floor_quotient
by_zero = refl

least_by_minus_one : op2 FloorDivide Int8 (neg_ℤ (pos 128)) (neg_ℤ (pos 1)) ≡ neg_ℤ (pos 128)
unfolding wrapped floor_quotient
least_by_minus_one = refl

leaves_one : op2 Remainder Int8 (neg_ℤ (pos 7)) (pos 2) ≡ pos 1
unfolding wrapped floor_quotient floor_remainder
leaves_one = refl

leaves_minus_one : op2 Remainder Int8 (pos 7) (neg_ℤ (pos 2)) ≡ neg_ℤ (pos 1)
unfolding wrapped floor_quotient floor_remainder
leaves_minus_one = refl

leaves_of_zero : op2 Remainder Int8 (neg_ℤ (pos 7)) (pos 0) ≡ pos 0
unfolding wrapped floor_quotient floor_remainder
leaves_of_zero = refl

leaves_nothing : op2 Remainder Int8 (neg_ℤ (pos 128)) (neg_ℤ (pos 1)) ≡ pos 0
unfolding wrapped floor_quotient floor_remainder
leaves_nothing = refl

least_stays : op1 Abs Int8 (neg_ℤ (pos 128)) ≡ neg_ℤ (pos 128)
unfolding wrapped
least_stays = refl

negative_of_unsigned : op1 Negative Uint8 (pos 1) ≡ pos 255
unfolding wrapped
negative_of_unsigned = refl

square_wraps : op1 Square Int8 (pos 12) ≡ neg_ℤ (pos 112)
unfolding wrapped
square_wraps = refl

sign_of_negative : op1 Sign Int8 (neg_ℤ (pos 7)) ≡ neg_ℤ (pos 1)
unfolding wrapped
sign_of_negative = refl

not_false : op1 BitwiseInvert Bool (pos 0) ≡ pos 1
unfolding wrapped
not_false = refl

inverts : op1 BitwiseInvert Int16 (pos 5) ≡ neg_ℤ (pos 6)
unfolding wrapped
inverts = refl

inverts_unsigned : op1 BitwiseInvert Uint16 (pos 5) ≡ pos 65530
unfolding wrapped
inverts_unsigned = refl

to_bool : op1 Astype Bool (neg_ℤ (pos 3)) ≡ pos 1
unfolding wrapped
to_bool = refl

to_signed : op1 Astype Int8 (pos 200) ≡ neg_ℤ (pos 56)
unfolding wrapped
to_signed = refl

to_unsigned : op1 Astype Uint64 (neg_ℤ (pos 9223372036854775808)) ≡ pos 9223372036854775808
unfolding wrapped
to_unsigned = refl

bits_of_both : op2 BitwiseAnd Int8 (neg_ℤ (pos 2)) (pos 127) ≡ pos 126
unfolding wrapped
bits_of_both = refl

bits_of_either : op2 BitwiseOr Int16 (neg_ℤ (pos 256)) (pos 255) ≡ neg_ℤ (pos 1)
unfolding wrapped
bits_of_either = refl

bits_of_one : op2 BitwiseXor Int64 (neg_ℤ (pos 1)) (pos 9223372036854775807) ≡ neg_ℤ (pos 9223372036854775808)
unfolding wrapped
bits_of_one = refl

exclusive_or : op2 BitwiseXor Bool (pos 1) (pos 1) ≡ pos 0
unfolding wrapped
exclusive_or = refl

shifts_out : op2 LeftShift Uint8 (pos 129) (pos 1) ≡ pos 2
unfolding wrapped shifted_left
shifts_out = refl

shifts_into_the_sign : op2 LeftShift Int8 (pos 1) (pos 7) ≡ neg_ℤ (pos 128)
unfolding wrapped shifted_left
shifts_into_the_sign = refl

shifts_by_the_width : op2 LeftShift Int8 (pos 1) (pos 8) ≡ pos 0
unfolding wrapped shifted_left
shifts_by_the_width = refl

shifts_by_a_negative : op2 LeftShift Int8 (pos 1) (neg_ℤ (pos 1)) ≡ pos 0
unfolding wrapped shifted_left
shifts_by_a_negative = refl

rounds_down : op2 RightShift Int8 (neg_ℤ (pos 3)) (pos 1) ≡ neg_ℤ (pos 2)
unfolding wrapped shifted_right floor_quotient
rounds_down = refl

keeps_the_sign : op2 RightShift Int8 (neg_ℤ (pos 3)) (pos 9) ≡ neg_ℤ (pos 1)
unfolding wrapped shifted_right floor_quotient
keeps_the_sign = refl

keeps_the_sign_by_a_negative : op2 RightShift Int8 (neg_ℤ (pos 3)) (neg_ℤ (pos 1)) ≡ neg_ℤ (pos 1)
unfolding wrapped shifted_right floor_quotient
keeps_the_sign_by_a_negative = refl

unsigned_by_the_width : op2 RightShift Uint64 (pos 18446744073709551615) (pos 64) ≡ pos 0
unfolding wrapped shifted_right floor_quotient
unsigned_by_the_width = refl

below_by_the_sign : op2 Less Int8 (neg_ℤ (pos 1)) (pos 0) ≡ pos 1
below_by_the_sign = refl

not_below_itself : op2 Less Int8 (pos 0) (pos 0) ≡ pos 0
not_below_itself = refl

at_most_itself : op2 LessEqual Int8 (pos 0) (pos 0) ≡ pos 1
at_most_itself = refl

above_as_unsigned : op2 Greater Uint64 (pos 18446744073709551615) (pos 0) ≡ pos 1
above_as_unsigned = refl

not_equal : op2 Equal Int8 (neg_ℤ (pos 1)) (pos 1) ≡ pos 0
not_equal = refl

exactly_one : op2 LogicalXor Bool (pos 1) (pos 1) ≡ pos 0
exactly_one = refl

bytes_promote : promotion Uint8 Int8 ≡ Some Int16
unfolding promotion
bytes_promote = refl

next_signed : promotion Int32 Uint32 ≡ Some Int64
unfolding promotion
next_signed = refl

wider_signed : promotion Int64 Uint32 ≡ Some Int64
unfolding promotion
wider_signed = refl

wider_unsigned : promotion Uint64 Uint8 ≡ Some Uint64
unfolding promotion
wider_unsigned = refl

no_promotion : promotion Int64 Uint64 ≡ None
unfolding promotion
no_promotion = refl

no_promotion_of_bool : promotion Bool Int8 ≡ None
unfolding promotion
no_promotion_of_bool = refl

written_little : element_bytes Little Int16 (neg_ℤ (pos 2)) ≡ 254 ∷ 255 ∷ []
unfolding element_bytes wrapped
written_little = refl

written_big : element_bytes Big Int16 (neg_ℤ (pos 2)) ≡ 255 ∷ 254 ∷ []
unfolding element_bytes wrapped
written_big = refl

lowest_first : element_bytes Little Uint32 (pos 16909060) ≡ 4 ∷ 3 ∷ 2 ∷ 1 ∷ []
unfolding element_bytes wrapped
lowest_first = refl

read_second : element_at Little Uint16 (1 ∷ 0 ∷ 2 ∷ 1 ∷ []) 1 ≡ pos 258
unfolding element_at wrapped
read_second = refl

read_negative : element_at Little Int16 (1 ∷ 0 ∷ 254 ∷ 255 ∷ []) 1 ≡ neg_ℤ (pos 2)
unfolding element_at wrapped
read_negative = refl

read_truth : element_at Little Bool (7 ∷ []) 0 ≡ pos 1
unfolding element_at wrapped
read_truth = refl

word_of_minus_one : word_of (neg_ℤ (pos 1)) ≡ 2 ^ 64 - 1
unfolding word_of
word_of_minus_one = refl

number_of_a_word : number_of Int8 (2 ^ 64 - 128) ≡ neg_ℤ (pos 128)
unfolding number_of wrapped
number_of_a_word = refl

unsigned_word : number_of Uint64 (2 ^ 64 - 1) ≡ pos (2 ^ 64 - 1)
unfolding number_of wrapped
unsigned_word = refl

least_signed : least Int64 ≡ neg_ℤ (pos 9223372036854775808)
least_signed = refl

greatest_unsigned : greatest Uint16 ≡ pos 65535
greatest_unsigned = refl

name_of_a_type : type_name Uint16 ≡ codes "uint16"
name_of_a_type = refl

type_of_a_name : dtype_named (codes "uint16") ≡ Some Uint16
type_of_a_name = refl

no_type : dtype_named (codes "float64") ≡ None
no_type = refl

adds_no_bools : accepts2 Add Bool ≡ false
adds_no_bools = refl

compares_bools : accepts2 Equal Bool ≡ true
compares_bools = refl

orders_no_bools : accepts2 Less Bool ≡ false
orders_no_bools = refl

logic_of_bools_alone : accepts1 LogicalNot Int8 ≡ false
logic_of_bools_alone = refl

sums_are_wide : fold_type Sum Int8 ≡ Int64
sums_are_wide = refl

sums_of_unsigned : fold_type Sum Uint32 ≡ Uint64
sums_of_unsigned = refl

least_keeps_the_type : fold_type Min Int16 ≡ Int16
least_keeps_the_type = refl

any_of_numbers : fold_accepts Any Int8 ≡ true
any_of_numbers = refl

sums_no_bools : fold_accepts Sum Bool ≡ false
sums_no_bools = refl
