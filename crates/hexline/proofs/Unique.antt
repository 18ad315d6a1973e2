-- Every public contract of this crate leaves one outcome: any two that it allows are equal, each lent store as the function
-- returns included.
use Prim.Native.Nat.{ℕ}
use mathlib.Core.List.{List}
use Rattle.base.proofs.Unique.{Unique, UniqueOutcome, same}
use Rattle.hexline.proofs.digit.is_hex_digit.Kinds as is_hex_digit_kinds
use Rattle.hexline.proofs.digit.is_hex_digit.Reads as is_hex_digit_reads
use Rattle.hexline.proofs.digit.value_of.Kinds as value_of_kinds
use Rattle.hexline.proofs.digit.value_of.Reads as value_of_reads
use Rattle.hexline.proofs.fields.byte_at.Kinds as byte_at_kinds
use Rattle.hexline.proofs.fields.byte_at.Reads as byte_at_reads
use Rattle.hexline.proofs.fields.count_in.Kinds as count_in_kinds
use Rattle.hexline.proofs.fields.count_in.Reads as count_in_reads
use Rattle.hexline.proofs.fields.address_in.Kinds as address_in_kinds
use Rattle.hexline.proofs.fields.address_in.Reads as address_in_reads
use Rattle.hexline.proofs.fields.kind_in.Kinds as kind_in_kinds
use Rattle.hexline.proofs.fields.kind_in.Reads as kind_in_reads
use Rattle.hexline.proofs.fields.upper_in.Kinds as upper_in_kinds
use Rattle.hexline.proofs.fields.upper_in.Reads as upper_in_reads
use Rattle.hexline.proofs.fields.sum_in.Kinds as sum_in_kinds
use Rattle.hexline.proofs.fields.sum_in.Reads as sum_in_reads
use Rattle.hexline.proofs.fields.line_size.Kinds as line_size_kinds
use Rattle.hexline.proofs.fields.line_size.Reads as line_size_reads
use Rattle.hexline.proofs.fields.is_framed.Kinds as is_framed_kinds
use Rattle.hexline.proofs.fields.is_framed.Reads as is_framed_reads
use Rattle.hexline.proofs.fields.first_address.Kinds as first_address_kinds
use Rattle.hexline.proofs.fields.first_address.Reads as first_address_reads
use Rattle.hexline.proofs.fields.put_data.Kinds as put_data_kinds
use Rattle.hexline.proofs.fields.put_data.Reads as put_data_reads
use Rattle.hexline.proofs.checks.record_verdict.Kinds as record_verdict_kinds
use Rattle.hexline.proofs.checks.record_verdict.Reads as record_verdict_reads
use Rattle.hexline.proofs.writing.put_record.Kinds as put_record_kinds
use Rattle.hexline.proofs.writing.put_record.Reads as put_record_reads

pub is_hex_digit_unique : Unique is_hex_digit_kinds.ps is_hex_digit_kinds.r is_hex_digit_reads.Post
is_hex_digit_unique κs args x y at_x at_y = same

pub value_of_unique : Unique value_of_kinds.ps value_of_kinds.r value_of_reads.Post
value_of_unique κs args x y at_x at_y = same

pub byte_at_unique : Unique byte_at_kinds.ps byte_at_kinds.r byte_at_reads.Post
byte_at_unique κs args x y at_x at_y = same

pub count_in_unique : Unique count_in_kinds.ps count_in_kinds.r count_in_reads.Post
count_in_unique κs args x y at_x at_y = same

pub address_in_unique : Unique address_in_kinds.ps address_in_kinds.r address_in_reads.Post
address_in_unique κs args x y at_x at_y = same

pub kind_in_unique : Unique kind_in_kinds.ps kind_in_kinds.r kind_in_reads.Post
kind_in_unique κs args x y at_x at_y = same

pub upper_in_unique : Unique upper_in_kinds.ps upper_in_kinds.r upper_in_reads.Post
upper_in_unique κs args x y at_x at_y = same

pub sum_in_unique : Unique sum_in_kinds.ps sum_in_kinds.r sum_in_reads.Post
sum_in_unique κs args x y at_x at_y = same

pub line_size_unique : Unique line_size_kinds.ps line_size_kinds.r line_size_reads.Post
line_size_unique κs args x y at_x at_y = same

pub is_framed_unique : Unique is_framed_kinds.ps is_framed_kinds.r is_framed_reads.Post
is_framed_unique κs args x y at_x at_y = same

pub first_address_unique : Unique first_address_kinds.ps first_address_kinds.r first_address_reads.Post
first_address_unique κs args x y at_x at_y = same

pub put_data_unique : UniqueOutcome put_data_kinds.ps put_data_kinds.r (List ℕ) (λ κs result at. at.1.1.0.now) put_data_reads.Post
put_data_unique κs args x y at_x at_y = same

pub record_verdict_unique : Unique record_verdict_kinds.ps record_verdict_kinds.r record_verdict_reads.Post
record_verdict_unique κs args x y at_x at_y = same

pub put_record_unique : UniqueOutcome put_record_kinds.ps put_record_kinds.r (List ℕ) (λ κs result at. at.1.1.1.0.now) put_record_reads.Post
put_record_unique κs args x y at_x at_y = same
